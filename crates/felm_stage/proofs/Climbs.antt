-- What a climb keeps.
use Rattle.std.proofs.Common.{◌≡◌, List, [], ◌∷◌, ◌++◌, refl, ap}
use Rattle.felm_term.specs.CoreType.{CoreType, Arrow}
use Rattle.felm_term.specs.CoreTerm.{CoreTerm, CoreTerms, Lam, App, Lift, Foldp, Async, End, More}
use Rattle.felm_term.specs.Inputs.{signal_types}
use Rattle.felm_term.specs.Reduction.{IsValue, IsSignalTerm, AreSignalTerms, AreSharedSignals}
use Rattle.felm_laws.proofs.Formed.{declared_signals}
use Rattle.felm_laws.proofs.Progress.{arrow_value, signal_value}
use Rattle.felm_laws.proofs.StepTypes.{signal_type}
use Rattle.felm_stage.specs.Frames.{behind}
use Rattle.felm_stage.specs.Moves.{IsTypedPart}
use Rattle.felm_stage.proofs.Plugs.{argument_typed}

pub behind_push : (done : List CoreTerm) (t : CoreTerm) (ts : CoreTerms) → behind (done ++ t ∷ []) ts ≡ behind done (More t ts)
behind_push [] t ts = refl
behind_push (d ∷ done) t ts = ap (More d) (behind_push done t ts)

pub signals_push : (done : List CoreTerm) (s : CoreTerm) → AreSharedSignals done → IsSignalTerm s → AreSharedSignals (done ++ s ∷ [])
signals_push [] s h k = (k, tt)
signals_push (d ∷ done) s h k = (h.0, signals_push done s h.1 k)

-- all arguments are signal terms
pub all_signals : (done : List CoreTerm) (s : CoreTerm) → AreSharedSignals done → IsSignalTerm s → AreSignalTerms (behind done (More s End))
all_signals [] s h k = (k, tt)
all_signals (d ∷ done) s h k = (h.0, all_signals done s h.1 k)

-- ---- what the types leave

pub applied_value : (v a : CoreTerm) → IsTypedPart (App v a) → IsValue v → (p : CoreType) × (b : CoreTerm) × (v ≡ Lam p b)
applied_value v a h w = arrow_value (signal_types h.0) h.1 (declared_signals h.0) h.3 [] v h.4.0 h.2 w h.4.1

pub no_value_lifted : (f v : CoreTerm) (done : List CoreTerm) (rest : CoreTerms) → IsTypedPart (Lift f (behind done (More v rest))) → ¬ IsValue v
no_value_lifted f v done rest h w =
    let k = argument_typed (signal_types h.0) h.1 done v rest h.4.0 h.4.1 h.4.5 in
    signal_value (signal_types h.0) h.1 (declared_signals h.0) h.3 [] v k.0 w k.1

pub no_value_folded : (f b v : CoreTerm) → IsTypedPart (Foldp f b v) → ¬ IsValue v
no_value_folded f b v h w = signal_value (signal_types h.0) h.1 (declared_signals h.0) h.3 [] v h.4.0 w h.4.6

pub no_value_async : (v : CoreTerm) → IsTypedPart (Async v) → ¬ IsValue v
no_value_async v h w = signal_value (signal_types h.0) h.1 (declared_signals h.0) h.3 [] v h.4.0 w h.4.3

pub no_signal_applied : (s a : CoreTerm) → IsTypedPart (App s a) → ¬ IsSignalTerm s
no_signal_applied s a h w =
    let e = signal_type (signal_types h.0) h.1 (declared_signals h.0) h.3 [] s (Arrow h.4.0 h.2) w h.4.1 in cc
