use Rattle.std.proofs.Common.{◌≡◌, map, take}
use Rattle.felm_term.specs.Call.{applied}
use Rattle.felm_term.specs.Values.{term_of}
use Rattle.felm_meaning.specs.Values.{values_at}
use Rattle.felm_meaning.proofs.call.call_at.Given as goal

abbrev pub invariant-loop-place : goal.invariant-loop-place
invariant-loop-place l = l.application ≡ applied (term_of l.function) (map term_of (values_at l.values (take l.place-index l.places)))
