use Rattle.std.proofs.Common.{◌+◌, ◌<◌, rules, sym, subst, arith, w64, FitsSigned}
use Rattle.std.proofs.lemmas.Int.{to_z-of_z}
use Rattle.felm_term.specs.CoreTerm.{App, Let, Async}
use Rattle.felm_stage.specs.Frames.{work}
use Rattle.felm_stage.specs.Moves.{IsTypedPart, IsMove}
use Rattle.felm_stage.proofs.Runs.{takes_at}
use Rattle.felm_stage.proofs.Parts.{operation_simple, no_variable}
use Rattle.felm_stage.proofs.enter.enter.Goals as goal

pub unreachable-requires : goal.unreachable-requires
unreachable-requires c = no_variable c.in-Var.field-0 (subst IsTypedPart (sym c.in-Var.ensures) c.requires)

pub enter_operation-requires : goal.enter_operation-requires
enter_operation-requires c = operation_simple c.in-Bin.op c.in-Bin.first.value c.in-Bin.right.value (subst IsTypedPart (sym c.in-Bin.ensures) c.requires)

pub returns-in-Unit : goal.returns-in-Unit
returns-in-Unit c = subst (λ t. IsMove t (work t) c.args.left.now c.args.left.now c.value.result) c.in-Unit.ensures (c.value.ensures c.args.left.now 1 (omega arith))

pub returns-in-Int : goal.returns-in-Int
returns-in-Int c =
    let f : FitsSigned w64 c.in-Int.number = search rules in
    let h = rw (to_z-of_z w64 c.in-Int.number f) at c.value-in-Int.ensures in
    subst (λ t. IsMove t (work t) c.args.left.now c.args.left.now c.value-in-Int.result) c.in-Int.ensures (h c.args.left.now 1 (omega arith))

pub returns-in-Lam : goal.returns-in-Lam
returns-in-Lam c = subst (λ t. IsMove t (work t) c.args.left.now c.args.left.now c.value-in-Lam.result) c.in-Lam.ensures (c.value-in-Lam.ensures c.args.left.now 1 (omega arith))

pub returns-in-Input : goal.returns-in-Input
returns-in-Input c = subst (λ t. IsMove t (work t) c.args.left.now c.args.left.now c.signal.result) c.in-Input.ensures (c.signal.ensures c.args.left.now 1 (omega arith))

pub returns-in-Node : goal.returns-in-Node
returns-in-Node c = subst (λ t. IsMove t (work t) c.args.left.now c.args.left.now c.signal-in-Node.result) c.in-Node.ensures (c.signal-in-Node.ensures c.args.left.now 1 (omega arith))

pub returns-in-App : goal.returns-in-App
returns-in-App c =
    let f = c.in-App.function.value in
    let a = c.in-App.argument.value in
    rw (c.into_inner-in-App.ensures, c.into_inner.ensures)
    (takes_at c.args.left.now c.args.term (App f a) (sym c.in-App.ensures), tt, subst (λ t. 1 + work f < work t) c.in-App.ensures (omega arith))

pub returns-in-Let : goal.returns-in-Let
returns-in-Let c =
    let a = c.in-Let.bound.value in
    let b = c.in-Let.body.value in
    rw (c.into_inner-in-Let-2.ensures, c.into_inner-in-Let.ensures)
    (takes_at c.args.left.now c.args.term (Let a b) (sym c.in-Let.ensures), tt, subst (λ t. 1 + work a < work t) c.in-Let.ensures (omega arith))

pub returns-in-Async : goal.returns-in-Async
returns-in-Async c =
    let s = c.in-Async.signal.value in
    rw c.into_inner-in-Async.ensures
    (takes_at c.args.left.now c.args.term (Async s) (sym c.in-Async.ensures), tt, subst (λ t. 1 + work s < work t) c.in-Async.ensures (omega arith))
