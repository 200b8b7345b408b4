use Rattle.felm_core.proofs.Scripted.{sound_legal}
use Rattle.felm_core.proofs.laws.sound_journals_are_legal.Goals as goal

pub returns : goal.returns
returns c = λ s c rest sound scripted. sound_legal s s.script c sound (rest, scripted)
