-- What the code asks of terms that it lays out.
use Rattle.std.specs.Prelude.{ℕ, ◌+◌, ◌<◌, ◌≤◌, List, [], ◌∷◌, length}
use Rattle.felm_term.specs.CoreTerm.{CoreTerm, CoreTerms, Int, Lam, Input, Node, Lift, Foldp, Async, End, More, count}
use Rattle.felm_term.specs.CoreTerm as term
use Rattle.felm_term.specs.Typing.{IsFunction}
use Rattle.felm_graph.specs.declared.frame.Frame.{Frame}
use Rattle.felm_graph.specs.declared.frame.Frame.TheVariants as frame

-- a term that a value may be
abbrev pub IsConstant : CoreTerm → Type 0
IsConstant term.Unit = Unit {0}
IsConstant (Int n) = Unit {0}
IsConstant (Lam p b) = IsFunction (Lam p b)
IsConstant _ = ⊥

-- beside so many shared signals
module _ (shared : ℕ) where
  abbrev mutual
    -- a signal term of values that names shared signals which are there
    pub IsLayable : CoreTerm → Type 0
    IsLayable (Input i) = Unit {0}
    IsLayable (Node k) = k < shared
    IsLayable (Lift f ts) = IsConstant f × (1 ≤ count ts) × (count ts ≤ 9) × AreLayable ts
    IsLayable (Foldp f b s) = IsConstant f × IsConstant b × IsLayable s
    IsLayable (Async s) = IsLayable s
    IsLayable _ = ⊥

    pub AreLayable : CoreTerms → Type 0
    AreLayable End = Unit {0}
    AreLayable (More t ts) = IsLayable t × AreLayable ts

  -- a lift's arguments that are done, the one at hand and those that are left are nine at most
  abbrev pub IsReady : Frame → Type 0
  IsReady (frame.Lift f done rest) = (length done + count rest.now < 9) × AreLayable rest.now
  IsReady _ = Unit {0}

  abbrev pub AreReady : List Frame → Type 0
  AreReady [] = Unit {0}
  AreReady (f ∷ frames) = IsReady f × AreReady frames
