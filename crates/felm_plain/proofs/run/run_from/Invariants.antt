use Rattle.std.proofs.Common.{◌≡◌, [], length, Some}
use Rattle.felm_meaning.specs.Meaning.{val}
use Rattle.felm_plain.specs.Runs.{IsBetween}
use Rattle.felm_plain.proofs.run.run_from.Given as goal

abbrev pub invariant-loop-entered : goal.invariant-loop-entered
invariant-loop-entered l = record {
  between : IsBetween l.plan l.run;
  count : length l.run.journal.items ≡ l._entered;
  default : val l.plan.graph l.plan.limits.turn_steps [] l.plan.graph.main 0 ≡ Some l.default;
}
