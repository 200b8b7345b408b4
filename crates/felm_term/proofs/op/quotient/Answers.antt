use Rattle.std.proofs.Common.{w64, FitsSigned, rules}
use Rattle.felm_term.proofs.Quotients.{wrapping_div_is}
use Rattle.felm_term.proofs.op.quotient.Goals as goal

pub returns-else-right-eq0 : goal.returns-else-right-eq0
returns-else-right-eq0 c =
    let q = c.wrapping_div.result in
    let fits : FitsSigned w64 q = search rules in
    wrapping_div_is c.args.left c.args.right q c.ranges.left c.ranges.right fits c.if-right-eq0.false c.wrapping_div.ensures
