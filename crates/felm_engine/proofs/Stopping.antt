-- Stops as contracts see them.
use Rattle.std.proofs.Common.{◌≡◌, false, Option, Some, None, refl, sym}
use Rattle.std.specs.Option.{is_some}
use Rattle.std.proofs.lemmas.Bool.{false≢true}
use Rattle.felm_engine.specs.Stops.{stop_of}
use Rattle.felm_engine.specs.declared.answers.Stop.{Stop}

pub none_stopped : (stop : Option Stop) → is_some stop ≡ false → stop_of stop ≡ None
none_stopped None h = refl
none_stopped (Some s) h = absurd (false≢true (sym h))
