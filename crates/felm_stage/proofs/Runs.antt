-- Counted runs that share nothing.
use Rattle.std.proofs.Common.{◌≡◌, ℕ, suc, ◌+◌, List, [], subst, arith}
use Rattle.felm_term.specs.CoreTerm.{CoreTerm}
use Rattle.felm_term.specs.Typing.{HasSimpleType}
use Rattle.felm_term.specs.Reduction.{Step, Steps, none}
use Rattle.felm_laws.proofs.StepLaws.{steps_then, steps_in}
use Rattle.felm_laws.proofs.SimpleTerms.{simple_steps}
use Rattle.felm_stage.specs.Moves.{Takes, TakesMore}

pub takes_none : (left : ℕ) (e : CoreTerm) → Takes left left e e
takes_none left e = (0, omega arith, λ B. none)

pub takes_at : (left : ℕ) (e f : CoreTerm) → e ≡ f → Takes left left e f
takes_at left e f h = subst (λ x. Takes left left e x) h (takes_none left e)

pub takes_then : (left middle after : ℕ) (e f g : CoreTerm) → Takes left middle e f → Takes middle after f g → Takes left after e g
takes_then left middle after e f g h k = (h.0 + k.0, omega (arith, h.1, k.1), λ B. steps_then (h.2 B) (k.2 B))

pub takes_more_then : (left middle : ℕ) (e f : CoreTerm) → Takes left middle e f → TakesMore middle f → TakesMore left e
takes_more_then left middle e f h k =
    let same : h.0 + suc middle ≡ suc left = omega (arith, h.1) in
    (k.0, λ B. subst (λ n. Steps n B e B k.0) same (steps_then (h.2 B) (k.1 B)))

-- at a place inside a term
module _ (whole : CoreTerm → CoreTerm) (inside : (B C : List CoreTerm) (e f : CoreTerm) → Step B e C f → Step B (whole e) C (whole f)) where
  pub takes_in : (left after : ℕ) (e f : CoreTerm) → Takes left after e f → Takes left after (whole e) (whole f)
  takes_in left after e f h = (h.0, h.1, λ B. steps_in whole inside (h.2 B))

  pub takes_more_in : (left : ℕ) (e : CoreTerm) → TakesMore left e → TakesMore left (whole e)
  takes_more_in left e h = (whole h.0, λ B. steps_in whole inside (h.1 B))

-- a run of a closed term of a simple type is the same beside any shared signals
pub steps_beside : (n : ℕ) (e f : CoreTerm) → HasSimpleType e → Steps n [] e [] f → (B : List CoreTerm) → Steps n B e B f
steps_beside n e f h s = (simple_steps h.0 h.1 h.2 s).2
