-- A term finishes in one way.
use Rattle.std.proofs.Common.{◌≡◌, ℕ, Option, Some, None, refl, ap}
use Rattle.felm_term.specs.CoreTerm.{CoreTerm}
use Rattle.felm_laws.proofs.StepLaws.{one_end}
use Rattle.felm_graph.specs.FinishedPair.{FinishedPair, ReachesFinished, FinishGives}

one_pair : (e : CoreTerm) (p q : FinishedPair) → ReachesFinished e p → ReachesFinished e q → p ≡ q
one_pair e p q h k =
    let same = one_end h.1 h.0.1 k.1 k.0.1 in
    λ i. record { shared = same.1 i; last = same.2 i; steps = same.0 i }

pub finish_once : (e : CoreTerm) (budget : ℕ) (p q : Option FinishedPair) → FinishGives e budget p → FinishGives e budget q → p ≡ q
finish_once e budget (Some p) (Some q) h k = ap Some (one_pair e p q h.1 k.1)
finish_once e budget (Some p) None h k = absurd (k p h.0 h.1)
finish_once e budget None (Some q) h k = absurd (h q k.0 k.1)
finish_once e budget None None h k = refl
