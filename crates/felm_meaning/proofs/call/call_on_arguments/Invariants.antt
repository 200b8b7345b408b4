use Rattle.std.proofs.Common.{◌≡◌, map, take}
use Rattle.felm_term.specs.Call.{applied}
use Rattle.felm_term.specs.Values.{term_of, value_of}
use Rattle.felm_meaning.proofs.call.call_on_arguments.Given as goal

abbrev pub invariant-loop-port : goal.invariant-loop-port
invariant-loop-port g l =
    l.application ≡ applied (term_of l.function) (map term_of (map value_of (take l.port (g.A.Arguments.messages l.arguments))))
