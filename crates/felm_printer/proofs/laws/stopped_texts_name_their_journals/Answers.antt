use Rattle.felm_printer.proofs.TextLaws.{stopped_names_journal}
use Rattle.felm_printer.proofs.laws.stopped_texts_name_their_journals.Goals as goal

pub returns : goal.returns
returns c = λ g b script one other k p l q graph names legal legal' same.
    stopped_names_journal g b script one other graph names legal legal' k p l q same
