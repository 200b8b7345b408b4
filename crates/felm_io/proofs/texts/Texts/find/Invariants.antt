use Rattle.std.proofs.Common.{◌≡◌, drop}
use Rattle.felm_io.specs.Texts.{texts_of, text_under}
use Rattle.felm_io.proofs.texts.Texts.find.Given as goal

-- the texts left tell what all of them tell
abbrev pub invariant-loop-text : goal.invariant-loop-text
invariant-loop-text l = text_under (texts_of (drop l.text-index l.text-items)) l.name ≡ text_under l.self l.name
