use Rattle.std.proofs.Common.{◌<◌, arith}
use Rattle.std.proofs.lemmas.Result.{err_from_is_err_and}
use Rattle.felm_parser.proofs.ChainLoop.{ends, is_full, fails_on, goes_on}
use Rattle.felm_parser.proofs.expressions.+expressions.Goals as goal

pub chain-returns-then-room-eq0 : goal.chain-returns-then-room-eq0
chain-returns-then-room-eq0 t c =
    is_full c.args.text.now c.operators.room c.args.level c.operators.left c.operators.rest.now _ c.operators.invariant.same
    c.in-Some.op c.after-behind.result.now c.starts_operand.result c.refused.result c.in-Some.ensures c.if-room-eq0.true c.after-behind.ensures
    c.starts_operand.ensures c.refused.ensures

pub chain-returns-in_err-right : goal.chain-returns-in_err-right
chain-returns-in_err-right t c =
    let p : 0 < c.operators.room = omega arith in
    let q = err_from_is_err_and c.from_residual-in_err-right.result c.from_residual-in_err-right.ensures.1 in
    rw (q.1, q.2)
    (fails_on c.args.text.now c.operators.room c.args.level c.operators.left c.operators.rest.now _ c.operators.invariant.same
    c.in-Some.op c.after-behind.result.now c.in_err-right.field-0.0 c.in-Some.ensures p c.after-behind.ensures c.in_err-right.ensures)

pub chain-operators-preserved : goal.chain-operators-preserved
chain-operators-preserved t c =
    let p : 0 < c.operators.room = omega arith in
    record {
      room = omega arith;
      same = goes_on c.args.text.now c.operators.room c.args.level c.operators.left c.operators.rest.now _ c.operators.invariant.same
          c.in-Some.op c.after-behind.result.now c.place-at.result c.in_ok-right.right c.in_ok-left-2.left c.in_ok-right.more.now c.in-Some.ensures p c.after-behind.ensures
          c.place-at.ensures c.in_ok-right.ensures c.in_ok-left-2.ensures;
    }

pub chain-returns : goal.chain-returns
chain-returns t c =
    ends c.args.text.now c.operators.room c.args.level c.operators.left c.operators.rest.now _ c.operators.invariant.same c.in_default.ensures
