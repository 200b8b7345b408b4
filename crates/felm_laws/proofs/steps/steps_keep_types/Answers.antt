use Rattle.felm_laws.proofs.StepLaws.{steps_typed}
use Rattle.felm_laws.proofs.steps.steps_keep_types.Goals as goal

pub returns : goal.returns
returns c = λ inputs n B C e f u wi s h. steps_typed inputs wi u s h
