use Rattle.felm_term.specs.declared.value.Value.TheVariants as value
use Rattle.felm_graph.proofs.ValueTypes.{function_simple, value_type_is}
use Rattle.felm_graph.proofs.typed.function_type.Goals as goal

pub unreachable-requires : goal.unreachable-requires
unreachable-requires c =
    let none = rw c.in-None.is at c.in_ok-ty.ensures in
    let simple = function_simple c.as_term.result.now c.as_term.ensures.function in
    none simple.0 simple.2

pub returns : goal.returns
returns c =
    let found = rw c.in-Some.is at c.in_ok-ty.ensures in
    value_type_is (value.Fun c.args.function.now) c.in-Some.ty (rw c.as_term.ensures.term at found)
