use Rattle.std.proofs.lemmas.Result.{IfOk-weaker}
use Rattle.felm_term.proofs.FoundTypes.{type_is}
use Rattle.felm_term.proofs.typing.type_of.Goals as goal

pub returns : goal.returns
returns c =
    IfOk-weaker c.found_type.result _ _ (type_is c.args.inputs.now c.args.shared.now _ c.args.term.now) c.found_type.ensures
