-- Laws of texts.
use Rattle.std.specs.Prelude.{◌≡◌, ℕ, List}
use Rattle.felm_term.specs.declared.event.Event.{Event}
use Rattle.felm_graph.specs.GraphValue.{GraphValue}
use Rattle.felm_graph.specs.Graphs.{IsGraph}
use Rattle.felm_meaning.specs.Journals.{IsLegal}
use Rattle.felm_printer.specs.declared.result.Closing.{Closing}
use Rattle.felm_printer.specs.Names.{AreNames}
use Rattle.felm_printer.specs.Results.{result_text, stopped_text}

-- legal journals of one graph and script with equal result texts are equal
abbrev pub ResultTextsNameTheirJournals : Type 0
ResultTextsNameTheirJournals =
    (g : GraphValue) (b : ℕ) (script one other : List Event) (c d : Closing) → IsGraph g → AreNames g.inputs
    → IsLegal g b script one → IsLegal g b script other → result_text g b one c ≡ result_text g b other d → one ≡ other

-- so are those with equal stopped texts
abbrev pub StoppedTextsNameTheirJournals : Type 0
StoppedTextsNameTheirJournals =
    (g : GraphValue) (b : ℕ) (script one other : List Event) (k p l q : ℕ) → IsGraph g → AreNames g.inputs
    → IsLegal g b script one → IsLegal g b script other → stopped_text g one k p ≡ stopped_text g other l q → one ≡ other
