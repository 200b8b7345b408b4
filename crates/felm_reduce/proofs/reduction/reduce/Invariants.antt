use Rattle.std.proofs.Common.{[]}
use Rattle.felm_term.specs.Reduction.{Steps}
use Rattle.felm_term.specs.Typing.{HasSimpleType}
use Rattle.felm_reduce.specs.Frames.{plug}
use Rattle.felm_reduce.proofs.reduction.reduce.Given as goal

abbrev pub invariant-steps : goal.invariant-steps
invariant-steps l = record {
  taken : Steps l.steps [] l.fn.term [] (plug l.frames.items l.focus);
  typed : HasSimpleType (plug l.frames.items l.focus);
}
