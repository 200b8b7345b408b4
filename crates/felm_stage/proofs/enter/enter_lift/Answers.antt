use Rattle.std.proofs.Common.{arith}
use Rattle.felm_term.specs.CoreTerm.{Lift, More}
use Rattle.felm_term.specs.Reduction.{in_lift_function}
use Rattle.felm_stage.proofs.Runs.{takes_in, takes_more_in}
use Rattle.felm_stage.proofs.Parts.{lift_simple, lift_has_one}
use Rattle.felm_stage.proofs.enter.enter_lift.Goals as goal

pub reduce_part-requires : goal.reduce_part-requires
reduce_part-requires c = lift_simple c.args.function c.args.arguments c.requires

pub returns-in_default : goal.returns-in_default
returns-in_default c =
    rw c.over.ensures
    (takes_more_in (λ x. Lift x c.args.arguments) (λ B C e f s. in_lift_function s) c.args.left.now c.args.function (rw c.in_default.is at c.in_ok-function.ensures))

pub first_of-first-requires : goal.first_of-first-requires
first_of-first-requires c = lift_has_one c.args.function c.args.arguments c.requires

pub returns : goal.returns
returns c =
    let o = rw c.in-Some.is at c.in_ok-function.ensures in
    let first = c.first_of-first.result.0 in
    let rest = c.first_of-first.result.1 in
    rw (c.new-done.ensures.items, c.first_of-first.ensures)
    (takes_in (λ x. Lift x (More first rest)) (λ B C e f s. in_lift_function s) c.args.left.now c.reduce_part.new.left c.args.function c.in-Some.function o.1, (o.0, tt), omega arith)
