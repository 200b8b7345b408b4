use Rattle.std.proofs.Common.{w64, FitsSigned, rules}
use Rattle.felm_term.proofs.Quotients.{wrapping_rem_is}
use Rattle.felm_term.proofs.op.remainder.Goals as goal

pub returns-else-right-eq0 : goal.returns-else-right-eq0
returns-else-right-eq0 c =
    let r = c.wrapping_rem.result in
    let fits : FitsSigned w64 r = search rules in
    wrapping_rem_is c.args.left c.args.right r c.ranges.left c.ranges.right fits c.if-right-eq0.false c.wrapping_rem.ensures
