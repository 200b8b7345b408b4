use Rattle.std.proofs.Common.{◌≡◌, Ok, Some, IfOk, IfErr, sym, subst, rules}
use Rattle.felm_term.specs.CoreType.{CoreType, is_simple}
use Rattle.felm_term.specs.FoundType.{when}
use Rattle.felm_term.specs.Inputs.{names_of}
use Rattle.felm_syntax.specs.Expression.{Lift}
use Rattle.felm_types.specs.Binder.{names}
use Rattle.felm_types.specs.CoreTermOf.{core_terms}
use Rattle.felm_types.specs.Judgement.{Judged, IsFaultOf, judge, judge_all}
use Rattle.felm_types.specs.Lift.{left_by}
use Rattle.felm_types.specs.Scope.{binders_in}
use Rattle.felm_types.proofs.Lifts.{lift_judged}
use Rattle.felm_types.proofs.judge.+judge.Goals as goal

pub judge-returns-in_ok-taken-in-Lift-clause-ty : goal.judge-returns-in_ok-taken-in-Lift-clause-ty
judge-returns-in_ok-taken-in-Lift-clause-ty t c =
    let form : c.args.expr.now ≡ Lift c.in-Lift.function.value c.in-Lift.arguments.value c.expr.inside.at = search rules in
    let is : judge c.args.inputs.now (binders_in c.args.scope.now) c.in-Lift.function.value ≡ Ok c.in_ok-function-in-Lift.function.ty = search rules in
    let simple : c.simple-left.result ≡ when (is_simple c.in_ok-function-in-Lift.function.ty) c.in_ok-function-in-Lift.function.ty = search rules in
    let taken_by : left_by c.simple-left.result (judge_all c.args.inputs.now (binders_in c.args.scope.now) c.in-Lift.arguments.value) ≡ Ok c.in_ok-taken-in-Lift.taken.left =
    search rules in
    let terms : core_terms (names_of c.args.inputs.now) (names (binders_in c.args.scope.now)) c.in-Lift.arguments.value ≡ Some c.in_ok-taken-in-Lift.taken.terms.value = search rules in
    let e = lift_judged c.args.inputs.now (binders_in c.args.scope.now) c.args.expr.now c.in-Lift.function.value c.in-Lift.arguments.value
    c.expr.inside.at c.in_ok-function-in-Lift.function.ty c.simple-left.result c.in_ok-taken-in-Lift.taken.left c.in_ok-taken-in-Lift.taken.terms.value
    form is simple taken_by terms in
    subst (λ (j : Judged CoreType). IfOk c.lift.result (λ whole. j ≡ Ok whole.ty)) (sym e) c.lift.ensures.ty

pub judge-returns-in_ok-taken-in-Lift-clause-fault : goal.judge-returns-in_ok-taken-in-Lift-clause-fault
judge-returns-in_ok-taken-in-Lift-clause-fault t c =
    let form : c.args.expr.now ≡ Lift c.in-Lift.function.value c.in-Lift.arguments.value c.expr.inside.at = search rules in
    let is : judge c.args.inputs.now (binders_in c.args.scope.now) c.in-Lift.function.value ≡ Ok c.in_ok-function-in-Lift.function.ty = search rules in
    let simple : c.simple-left.result ≡ when (is_simple c.in_ok-function-in-Lift.function.ty) c.in_ok-function-in-Lift.function.ty = search rules in
    let taken_by : left_by c.simple-left.result (judge_all c.args.inputs.now (binders_in c.args.scope.now) c.in-Lift.arguments.value) ≡ Ok c.in_ok-taken-in-Lift.taken.left =
    search rules in
    let terms : core_terms (names_of c.args.inputs.now) (names (binders_in c.args.scope.now)) c.in-Lift.arguments.value ≡ Some c.in_ok-taken-in-Lift.taken.terms.value = search rules in
    let e = lift_judged c.args.inputs.now (binders_in c.args.scope.now) c.args.expr.now c.in-Lift.function.value c.in-Lift.arguments.value
    c.expr.inside.at c.in_ok-function-in-Lift.function.ty c.simple-left.result c.in_ok-taken-in-Lift.taken.left c.in_ok-taken-in-Lift.taken.terms.value
    form is simple taken_by terms in
    subst (λ (j : Judged CoreType). IfErr c.lift.result (IsFaultOf j)) (sym e) c.lift.ensures.fault
