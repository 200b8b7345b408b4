use Rattle.felm_core.proofs.Heads.{turn_message, turn_typed}
use Rattle.felm_core.proofs.laws.turns_give_the_messages.Goals as goal

pub returns : goal.returns
returns c = λ s c k w old ms graph sound turn job kept heads.
    (turn_message s c graph sound k w old ms turn job kept heads, λ fit. turn_typed s c graph sound k w old ms fit turn job kept heads)
