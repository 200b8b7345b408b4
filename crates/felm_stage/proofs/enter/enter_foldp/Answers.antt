use Rattle.std.proofs.Common.{arith}
use Rattle.felm_term.specs.CoreTerm.{Foldp}
use Rattle.felm_term.specs.Reduction.{in_foldp_function, in_base}
use Rattle.felm_stage.proofs.Runs.{takes_in, takes_more_in, takes_then, takes_more_then}
use Rattle.felm_stage.proofs.Parts.{foldp_simple, base_simple}
use Rattle.felm_stage.proofs.enter.enter_foldp.Goals as goal

pub reduce_part-requires : goal.reduce_part-requires
reduce_part-requires c = foldp_simple c.args.function c.args.base c.args.signal c.requires

pub reduce_part-requires-2 : goal.reduce_part-requires-2
reduce_part-requires-2 c = base_simple c.args.function c.args.base c.args.signal c.requires

pub returns-in_default : goal.returns-in_default
returns-in_default c =
    rw c.over.ensures
    (takes_more_in (λ x. Foldp x c.args.base c.args.signal) (λ B C e f s. in_foldp_function s) c.args.left.now c.args.function (rw c.in_default.is at c.in_ok-function.ensures))

pub returns-in_default-2 : goal.returns-in_default-2
returns-in_default-2 c =
    let v = c.in-Some.function in
    let b = c.args.base in
    let s = c.args.signal in
    let left = c.reduce_part.new.left in
    let o = rw c.in-Some.is at c.in_ok-function.ensures in
    let p = rw c.in_default-2.is at c.in_ok-base.ensures in
    rw c.over-in_default-2.ensures
    (takes_more_then c.args.left.now left (Foldp c.args.function b s) (Foldp v b s)
    (takes_in (λ x. Foldp x b s) (λ B C e f r. in_foldp_function r) c.args.left.now left c.args.function v o.1)
    (takes_more_in (λ x. Foldp v x s) (λ B C e f r. in_base o.0 r) left b p))

pub returns : goal.returns
returns c =
    let v = c.in-Some.function in
    let b = c.args.base in
    let w = c.in-Some-2.base in
    let s = c.args.signal in
    let left = c.reduce_part.new.left in
    let o = rw c.in-Some.is at c.in_ok-function.ensures in
    let p = rw c.in-Some-2.is at c.in_ok-base.ensures in (
      takes_then c.args.left.now left c.reduce_part-2.new.left (Foldp c.args.function b s) (Foldp v b s) (Foldp v w s)
          (takes_in (λ x. Foldp x b s) (λ B C e f r. in_foldp_function r) c.args.left.now left c.args.function v o.1)
          (takes_in (λ x. Foldp v x s) (λ B C e f r. in_base o.0 r) left c.reduce_part-2.new.left b w p.1),
      (o.0, p.0),
      omega arith,
    )
