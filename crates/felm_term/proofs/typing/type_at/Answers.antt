use Rattle.felm_term.proofs.FoundTypes.{lent_at}
use Rattle.felm_term.proofs.typing.type_at.Goals as goal

pub returns : goal.returns
returns c =
    let h = c.get.ensures.lookup in
    lent_at c.args.types.now c.args.number c.get.result h.3 h.1
