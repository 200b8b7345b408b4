use Rattle.felm_printer.proofs.TextLaws.{result_names_journal}
use Rattle.felm_printer.proofs.laws.result_texts_name_their_journals.Goals as goal

pub returns : goal.returns
returns c = λ g b script one other closing closing' graph names legal legal' same.
    result_names_journal g b script one other graph names legal legal' closing closing' same
