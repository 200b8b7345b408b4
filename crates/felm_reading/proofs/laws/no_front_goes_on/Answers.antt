use Rattle.felm_reading.proofs.Longest.{no_front_goes_on}
use Rattle.felm_reading.proofs.laws.no_front_goes_on.Goals as goal

pub returns : goal.returns
returns c = no_front_goes_on
