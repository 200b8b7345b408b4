-- The lines of a run's text, one event further.
use Rattle.std.proofs.Common.{◌≡◌, ℕ, ◌+◌, List, ◌∷◌, ◌++◌, drop, Some, refl, sym, ap, ◌∙◌, append_assoc}
use Rattle.std.specs.List.{slice_get}
use Rattle.std.proofs.lemmas.List.{drop_more}
use Rattle.std.proofs.lemmas.Option.{slice_get_within, get_or_from_slice_get}
use Rattle.felm_term.specs.declared.event.Event.{Event}
use Rattle.felm_term.specs.declared.message.Message.{Message}
use Rattle.felm_graph.specs.GraphValue.{GraphValue}
use Rattle.felm_printer.specs.Results.{source_text, event_line, event_lines, stopped_line, stopped_lines}

-- what is left from an item on
drop_item : {X : Type 0} (xs : List X) (i : ℕ) (x : X) → slice_get xs i ≡ Some x → drop i xs ≡ x ∷ drop (i + 1) xs
drop_item xs i x h =
    drop_more xs i x (slice_get_within xs i x h) ∙ ap (λ y. y ∷ drop (i + 1) xs) (get_or_from_slice_get xs i x x h)

-- the text after a line, with the lines to come
step : (text text' line more now all : List ℕ) → text' ≡ text ++ line → now ≡ line ++ more → text ++ now ≡ all → text' ++ more ≡ all
step text text' line more now all written split so_far =
    ap (λ l. l ++ more) written ∙ append_assoc text line more ∙ ap (λ l. text ++ l) (sym split) ∙ so_far

pub line_more : (g : GraphValue) (text text' all source : List ℕ) (position i : ℕ) (events : List Event) (messages : List Message)
    (event : Event) (message : Message)
    → slice_get events i ≡ Some event → slice_get messages i ≡ Some message → source ≡ source_text g event.source
    → text' ≡ text ++ event_line position source event message
    → text ++ event_lines g position (drop i events) (drop i messages) ≡ all
    → text' ++ event_lines g (position + 1) (drop (i + 1) events) (drop (i + 1) messages) ≡ all
line_more g text text' all source position i events messages event message at_event at_message named written so_far =
    step text text' (event_line position source event message) _ (event_lines g position (drop i events) (drop i messages)) all written
    (rw (drop_item events i event at_event, drop_item messages i message at_message, named) refl) so_far

pub stopped_more : (g : GraphValue) (text text' all source : List ℕ) (position i : ℕ) (events : List Event) (event : Event)
    → slice_get events i ≡ Some event → source ≡ source_text g event.source
    → text' ≡ text ++ stopped_line position source event
    → text ++ stopped_lines g position (drop i events) ≡ all
    → text' ++ stopped_lines g (position + 1) (drop (i + 1) events) ≡ all
stopped_more g text text' all source position i events event at_event named written so_far =
    step text text' (stopped_line position source event) _ (stopped_lines g position (drop i events)) all written
    (rw (drop_item events i event at_event, named) refl) so_far
