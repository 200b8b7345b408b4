use Rattle.felm_reading.proofs.Longest.{behind_longest_front}
use Rattle.felm_reading.proofs.laws.syntax_faults_are_behind_the_longest_front.Goals as goal

pub returns : goal.returns
returns c = behind_longest_front
