-- The search for the next redex.
use Rattle.std.specs.Prelude.{◌≡◌, ◌+◌, ◌≤◌, List, []}
use Rattle.felm_term.specs.CoreTerm.{CoreTerm}
use Rattle.felm_term.specs.CoreTerm as core
use Rattle.felm_term.specs.Typing.{IsFunction}
use Rattle.felm_term.specs.Reduction.{IsValue}
use Rattle.felm_term.specs.Values.{term_of}
use Rattle.felm_term.specs.declared.value.Value.{Value}
use Rattle.felm_term.specs.declared.value.Value.TheVariants as value
use Rattle.felm_reduce.specs.declared.frame.Frame.{Frame}
use Rattle.felm_reduce.specs.declared.search.Head.{Head}
use Rattle.felm_reduce.specs.declared.search.Head.TheVariants as head
use Rattle.felm_reduce.specs.declared.search.Ascent.{Ascent}
use Rattle.felm_reduce.specs.declared.search.Ascent.TheVariants as ascent
use Rattle.felm_reduce.specs.declared.search.Found.{Found}
use Rattle.felm_reduce.specs.declared.search.Found.TheVariants as found
use Rattle.felm_reduce.specs.Frames.{plug, work, weight}
use Rattle.felm_reduce.specs.Redex.{redex_term, IsReady}

-- the head as a term
abbrev pub head_term : Head → CoreTerm
head_term head.Unit = core.Unit
head_term (head.Int n) = core.Int n
head_term (head.Lam p b) = core.Lam p b

-- a function is a closed function of a simple type
abbrev pub HoldsFunction : Value → Type 0
HoldsFunction (value.Fun f) = IsFunction f
HoldsFunction _ = Unit {0}

-- the value is this term
abbrev pub IsValueOf : CoreTerm → Value → Type 0
IsValueOf t v = (term_of v ≡ t) × HoldsFunction v

-- what is above a value, with these frames before and after
abbrev pub Leads : List Frame → CoreTerm → List Frame → Ascent → Type 0
Leads old t new (ascent.Ready r) = (plug new (redex_term r) ≡ plug old t) × IsReady r
Leads old t new (ascent.Again e) = (plug new e ≡ plug old t) × (weight new + work e ≤ weight old)
Leads old t new (ascent.Done v) = (old ≡ []) × IsValueOf t v

-- what a search comes to, with these frames before and after
abbrev pub Finds : List Frame → CoreTerm → List Frame → Found → Type 0
Finds old t new (found.Ready r) = (plug new (redex_term r) ≡ plug old t) × IsReady r
Finds old t new (found.Done v) = IsValue (term_of v) × IsValueOf (plug old t) v
