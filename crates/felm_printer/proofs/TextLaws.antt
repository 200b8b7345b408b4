-- Texts with the same bytes have the same journal.
use Rattle.std.proofs.Common.{◌≡◌, ℕ, List, [], ◌++◌, length, refl, sym, ap, ◌∙◌, arith, append_assoc}
use Rattle.std.specs.Prelude.{codes}
use Rattle.std.specs.Option.{option_map_or}
use Rattle.std.specs.Fmt.{decimal}
use Rattle.std.proofs.lemmas.List.{append_cancel_left}
use Rattle.felm_term.specs.Text.{value_text}
use Rattle.felm_term.specs.declared.event.Event.{Event}
use Rattle.felm_graph.specs.GraphValue.{GraphValue}
use Rattle.felm_graph.specs.Graphs.{IsGraph}
use Rattle.felm_meaning.specs.Meaning.{row, msg, val, sends}
use Rattle.felm_meaning.specs.Journals.{IsLegal}
use Rattle.felm_printer.specs.declared.result.Closing.{Closing}
use Rattle.felm_printer.specs.declared.result.Closing.TheVariants.{End, Full}
use Rattle.felm_printer.specs.Names.{AreNames}
use Rattle.felm_printer.specs.Results.{event_lines, closing_line, result_text, stopped_lines, stopped_text}
use Rattle.felm_printer.proofs.LineSources.{IsLast, lines_name_sources, stopped_lines-are}
use Rattle.felm_printer.proofs.JournalSources.{same_journals}

closing_is_last : (c : Closing) (count : ℕ) → IsLast (closing_line c count)
closing_is_last End count = omega arith
closing_is_last Full count = omega arith

-- without a common front
uncovered : (front lines lines' last last' : List ℕ) → front ++ lines ++ last ≡ front ++ lines' ++ last' → lines ++ last ≡ lines' ++ last'
uncovered front lines lines' last last' same =
    append_cancel_left front (lines ++ last) (lines' ++ last') (sym (append_assoc front lines last) ∙ same ∙ append_assoc front lines' last')

-- a stopped text's last line, together
last_together : (front lines a b c d e : List ℕ) → front ++ lines ++ a ++ b ++ c ++ d ++ e ≡ front ++ lines ++ (a ++ b ++ c ++ d ++ e)
last_together front lines a b c d e = simp append_assoc

module _ (g : GraphValue) (b : ℕ) (script one other : List Event) (graph : IsGraph g) (names : AreNames g.inputs)
    (legal : IsLegal g b script one) (legal' : IsLegal g b script other) where
  -- the default is that of every journal
  default_is_one : val g b one g.main 0 ≡ val g b other g.main 0
  unfolding val msg row
  default_is_one = refl

  pub result_names_journal : (c d : Closing) → result_text g b one c ≡ result_text g b other d → one ≡ other
  result_names_journal c d same =
      let front : List ℕ = codes "felm-result 1\n0 default " ++ option_map_or value_text (val g b other g.main 0) [] ++ codes "\n" in
      let outputs = sends g b one g.main (length one) in
      let outputs' = sends g b other g.main (length other) in
      let fronted : result_text g b one c ≡ front ++ event_lines g 1 one outputs ++ closing_line c (length one) =
      ap (λ v. codes "felm-result 1\n0 default " ++ option_map_or value_text v [] ++ codes "\n" ++ event_lines g 1 one outputs ++ closing_line c (length one)) default_is_one in
      same_journals g b script one other legal legal'
      (lines_name_sources g graph names 1 one other outputs outputs' (closing_line c (length one)) (closing_line d (length other)) legal.sources legal'.sources
      (closing_is_last c (length one)) (closing_is_last d (length other))
      (uncovered front (event_lines g 1 one outputs) (event_lines g 1 other outputs') (closing_line c (length one)) (closing_line d (length other)) (sym fronted ∙ same)))

  pub stopped_names_journal : (k p l q : ℕ) → stopped_text g one k p ≡ stopped_text g other l q → one ≡ other
  stopped_names_journal k p l q same =
      let last : List ℕ = codes "stopped " ++ decimal k ++ codes " " ++ decimal p ++ codes "\n" in
      let last' : List ℕ = codes "stopped " ++ decimal l ++ codes " " ++ decimal q ++ codes "\n" in
      let letter : IsLast last = omega arith in
      let letter' : IsLast last' = omega arith in
      let this : stopped_text g one k p ≡ codes "felm-stopped 1\n" ++ event_lines g 1 one [] ++ last =
      last_together (codes "felm-stopped 1\n") (stopped_lines g 1 one) (codes "stopped ") (decimal k) (codes " ") (decimal p) (codes "\n")
      ∙ ap (λ lines. codes "felm-stopped 1\n" ++ lines ++ last) (stopped_lines-are g 1 one) in
      let that : stopped_text g other l q ≡ codes "felm-stopped 1\n" ++ event_lines g 1 other [] ++ last' =
      last_together (codes "felm-stopped 1\n") (stopped_lines g 1 other) (codes "stopped ") (decimal l) (codes " ") (decimal q) (codes "\n")
      ∙ ap (λ lines. codes "felm-stopped 1\n" ++ lines ++ last') (stopped_lines-are g 1 other) in
      same_journals g b script one other legal legal'
      (lines_name_sources g graph names 1 one other [] [] last last' legal.sources legal'.sources letter letter'
      (uncovered (codes "felm-stopped 1\n") (event_lines g 1 one []) (event_lines g 1 other []) last last' (sym this ∙ same ∙ that)))
