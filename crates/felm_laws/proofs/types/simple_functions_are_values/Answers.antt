use Rattle.felm_laws.proofs.SimpleTerms.{simple_function_value}
use Rattle.felm_laws.proofs.types.simple_functions_are_values.Goals as goal

pub returns : goal.returns
returns c = λ inputs shared p b u wi ws s h. simple_function_value inputs shared wi ws p b u s h
