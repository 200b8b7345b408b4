use Rattle.std.proofs.Common.{◌≡◌, ◌+◌, ◌-◌, arith}
use Rattle.felm_term.specs.Reduction.{none}
use Rattle.felm_stage.proofs.Ends.{still_typed, next, no_step_left, part_over, finished}
use Rattle.felm_stage.proofs.reduction.finish.Goals as goal

pub steps-init : goal.steps-init
steps-init c = rw (c.make-shared.ensures, c.new-frames.ensures.items) (record { steps = 0; count = omega arith; taken = none; few = omega arith; good = tt })

pub seek-requires-clause-typed : goal.seek-requires-clause-typed
seek-requires-clause-typed c = still_typed c.args.budget c.args.term c.steps.shared.items c.steps.frames.items c.steps.focus c.steps.left c.steps.invariant c.requires.typed

pub steps-preserved : goal.steps-preserved
steps-preserved c =
    let f = rw c.in-Ready.is at c.in_ok-seek.ensures in
    let l : c.seek.new.left ≡ (c.seek.new.left - 1) + 1 = omega (arith, c.if-left-eq0.false) in
    next c.args.budget c.args.term c.steps.shared.items c.steps.frames.items c.steps.focus c.steps.left c.steps.invariant c.seek.new.frames.items c.seek.new.left c.in-Ready.redex c.contract.new.shared.items c.in_ok-focus-in-Ready.focus (c.seek.new.left - 1) f l c.in_ok-focus-in-Ready.ensures.shared c.in_ok-focus-in-Ready.ensures.term

pub returns-then-left-eq0 : goal.returns-then-left-eq0
returns-then-left-eq0 c =
    let f = rw c.in-Ready.is at c.in_ok-seek.ensures in
    rw c.over.ensures
    (no_step_left c.args.budget c.args.term c.steps.shared.items c.steps.frames.items c.steps.focus c.steps.left c.steps.invariant c.seek.new.frames.items c.seek.new.left c.in-Ready.redex f c.if-left-eq0.true)

pub returns-in-Over : goal.returns-in-Over
returns-in-Over c =
    part_over c.args.budget c.args.term c.steps.shared.items c.steps.frames.items c.steps.focus c.steps.left c.steps.invariant c.seek.new.frames.items c.seek.new.left (rw c.in-Over.is at c.in_ok-seek.ensures)

pub returns-in-Done : goal.returns-in-Done
returns-in-Done c =
    finished c.args.budget c.args.term c.steps.shared.items c.steps.frames.items c.steps.focus c.steps.left c.steps.invariant c.seek.new.frames.items c.seek.new.left c.in-Done.last (rw c.in-Done.is at c.in_ok-seek.ensures)
