use Rattle.std.proofs.Common.{rules, w64, FitsSigned}
use Rattle.std.proofs.lemmas.Int.{to_z-of_z}
use Rattle.felm_term.specs.CoreTerm.{If}
use Rattle.felm_term.specs.Reduction.{in_condition}
use Rattle.felm_stage.proofs.Runs.{takes_in, takes_more_in}
use Rattle.felm_stage.proofs.Parts.{condition_simple, condition_number}
use Rattle.felm_stage.proofs.enter.enter_conditional.Goals as goal

pub reduce_part-requires : goal.reduce_part-requires
reduce_part-requires c = condition_simple c.args.condition c.args.yes c.args.no c.requires

pub returns-in_default : goal.returns-in_default
returns-in_default c =
    rw c.over.ensures
    (takes_more_in (λ x. If x c.args.yes c.args.no) (λ B C e f s. in_condition s) c.args.left.now c.args.condition (rw c.in_default.is at c.in_ok-condition.ensures))

pub number_of-number-requires : goal.number_of-number-requires
number_of-number-requires c =
    let o = rw c.in-Some.is at c.in_ok-condition.ensures in
    condition_number c.args.condition c.args.yes c.args.no c.in-Some.condition c.args.left.now c.reduce_part.new.left c.requires o.1 o.0

pub returns : goal.returns
returns c =
    let o = rw c.in-Some.is at c.in_ok-condition.ensures in
    let g : FitsSigned w64 c.number_of-number.result = search rules in
    let r = takes_in (λ x. If x c.args.yes c.args.no) (λ B C e f s. in_condition s) c.args.left.now c.reduce_part.new.left c.args.condition c.in-Some.condition o.1 in
    rw (to_z-of_z w64 c.number_of-number.result g) ((rw c.number_of-number.ensures at r), tt)
