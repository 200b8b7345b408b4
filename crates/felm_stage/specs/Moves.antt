-- The search for the next redex, with the steps that parts of a simple type take on the way.
use Rattle.std.specs.Prelude.{◌≡◌, ℕ, suc, ◌+◌, ◌<◌, List, [], ◌∷◌, ◌++◌, Option, Some, None}
use Rattle.felm_term.specs.CoreType.{CoreType, Signal}
use Rattle.felm_term.specs.CoreTerm.{CoreTerm}
use Rattle.felm_term.specs.Typing.{HasType, AreSignals, PairHasType}
use Rattle.felm_term.specs.Inputs.{signal_types}
use Rattle.felm_term.specs.declared.input.InputDecl.{InputDecl}
use Rattle.felm_term.specs.Reduction.{IsValue, IsSignalTerm, Steps}
use Rattle.felm_stage.specs.declared.frame.Frame.{Frame}
use Rattle.felm_stage.specs.declared.frame.Focus.{Focus}
use Rattle.felm_stage.specs.declared.frame.Focus.TheVariants as focus
use Rattle.felm_stage.specs.declared.frame.Move.{Move}
use Rattle.felm_stage.specs.declared.frame.Move.TheVariants as move
use Rattle.felm_stage.specs.declared.search.Moved.{Moved}
use Rattle.felm_stage.specs.declared.search.Moved.TheVariants as moved
use Rattle.felm_stage.specs.declared.search.Found.{Found}
use Rattle.felm_stage.specs.declared.search.Found.TheVariants as found
use Rattle.felm_stage.specs.Frames.{around, plug, IsGood, AreGood, work, work_in, weight}
use Rattle.felm_stage.specs.Redex.{redex_term, IsReady}

-- ---- types

-- a closed term with a type, under some inputs and shared signals
abbrev pub IsTypedPart : CoreTerm → Type 0
IsTypedPart e =
    (inputs : List InputDecl) × (shared : List CoreType) × (u : CoreType) × AreSignals shared × HasType (signal_types inputs) shared [] e u

-- a term with the type of a signal, under some inputs and beside some shared signals
abbrev pub IsTypedWhole : CoreTerm → Type 0
IsTypedWhole e = (inputs : List InputDecl) × (B : List CoreTerm) × (t : CoreType) × PairHasType (signal_types inputs) B e (Signal t)

-- ---- counted runs that share nothing

-- a run from e to f, beside any shared signals, takes as many steps as fewer are left after it
abbrev pub Takes : ℕ → ℕ → CoreTerm → CoreTerm → Type 0
Takes left after e f = (steps : ℕ) × (left ≡ after + steps) × ((B : List CoreTerm) → Steps steps B e B f)

-- a run from e takes one step more than are left
abbrev pub TakesMore : ℕ → CoreTerm → Type 0
TakesMore left e = (f : CoreTerm) × ((B : List CoreTerm) → Steps (suc left) B e B f)

-- a part comes to a value, or takes more steps than are left
abbrev pub IsReduced : CoreTerm → ℕ → ℕ → Option CoreTerm → Type 0
IsReduced e left after (Some v) = IsValue v × Takes left after e v
IsReduced e left after None = TakesMore left e

-- ---- one move

abbrev pub focus_term : Focus → CoreTerm
focus_term (focus.Whole t) = t
focus_term (focus.Value t) = t
focus_term (focus.Signal t) = t

abbrev pub IsGoodFocus : Focus → Type 0
IsGoodFocus (focus.Whole t) = Unit {0}
IsGoodFocus (focus.Value t) = IsValue t
IsGoodFocus (focus.Signal t) = IsSignalTerm t

abbrev pub work_of : Focus → ℕ
work_of (focus.Whole t) = work t
work_of _ = 0

-- what a move makes of a term, for which a search has so many moves at most
abbrev pub IsMove : CoreTerm → ℕ → ℕ → ℕ → Move → Type 0
IsMove t most left after (move.Into f part) = Takes left after t (around f part) × IsGood f × (work_in f + work part < most)
IsMove t most left after (move.Value v) = Takes left after t v × IsValue v × (0 < most)
IsMove t most left after (move.Signal s) = Takes left after t s × IsSignalTerm s × (0 < most)
IsMove t most left after (move.Ready r) = Takes left after t (redex_term r) × IsReady r
IsMove t most left after move.Over = TakesMore left t

-- the frames and the term at hand after a move, with these frames before
abbrev pub Follows : List Frame → Move → List Frame → Moved → Type 0
Follows old (move.Into f part) new m = (new ≡ old ++ f ∷ []) × (m ≡ moved.On (focus.Whole part))
Follows old (move.Value v) new m = (new ≡ old) × (m ≡ moved.On (focus.Value v))
Follows old (move.Signal s) new m = (new ≡ old) × (m ≡ moved.On (focus.Signal s))
Follows old (move.Ready r) new m = (new ≡ old) × (m ≡ moved.Ready r)
Follows old move.Over new m = m ≡ moved.Over

-- where a move leads, with these frames, this term at hand and so many steps left before and after
abbrev pub Leads : List Frame → Focus → ℕ → List Frame → ℕ → Moved → Type 0
Leads old from left new after (moved.On f) =
    Takes left after (plug old (focus_term from)) (plug new (focus_term f)) × AreGood new × IsGoodFocus f
    × (weight new + work_of f < weight old + work_of from)
Leads old from left new after (moved.Ready r) =
    Takes left after (plug old (focus_term from)) (plug new (redex_term r)) × AreGood new × IsReady r
Leads old from left new after (moved.Done s) = Takes left after (plug old (focus_term from)) s × IsSignalTerm s × (new ≡ [])
Leads old from left new after moved.Over = TakesMore left (plug old (focus_term from))

-- ---- the whole search

-- what it comes to, from a whole term
abbrev pub Finds : CoreTerm → ℕ → List Frame → ℕ → Found → Type 0
Finds e left new after (found.Ready r) = Takes left after e (plug new (redex_term r)) × AreGood new × IsReady r
Finds e left new after (found.Done s) = Takes left after e s × IsSignalTerm s × (new ≡ [])
Finds e left new after found.Over = TakesMore left e

-- between two moves of a search from a whole term
pub record IsOnTheWay (e : CoreTerm) (left : ℕ) (frames : List Frame) (f : Focus) (after : ℕ) : Type 0 where
  pub taken : Takes left after e (plug frames (focus_term f))
  pub typed : IsTypedWhole (plug frames (focus_term f))
  pub good : AreGood frames
  pub focus : IsGoodFocus f
