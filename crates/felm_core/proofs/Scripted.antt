-- Journals of runs: they grow, have the script's events, are legal, and have their nodes' types.
use Rattle.std.proofs.Common.{◌≡◌, ℕ, suc, zero, ◌<◌, ◌≤◌, ◌⊎◌, inl, inr, Bool, true, false, cond, Some, List, [], ◌∷◌, ◌++◌, length, refl, sym, ap, ◌∙◌, subst, append_assoc}
use Rattle.std.specs.List.{slice_get, filter}
use Rattle.std.proofs.lemmas.Option.{none-some, same_Some}
use Rattle.std.proofs.lemmas.Bool.{cases_lt}
use Rattle.std.proofs.lemmas.List.{append-nil}
use Rattle.felm_term.specs.declared.event.Event.{Event}
use Rattle.felm_graph.specs.GraphValue.{GraphValue}
use Rattle.felm_graph.specs.Graphs.{IsGraph, IsOfType}
use Rattle.felm_meaning.specs.Nodes.{is_input}
use Rattle.felm_meaning.specs.Journals.{inputs_in, IsLegal}
use Rattle.felm_meaning.specs.Types.{EventsFit}
use Rattle.felm_meaning.proofs.Rows.{slice_get-append_left, slice_get_last}
use Rattle.felm_meaning.proofs.Legal.{async_is_source, inputs-more, inputs-other}
use Rattle.felm_meaning.proofs.Fitting.{legal_fits}
use Rattle.felm_meaning.specs.PlanValue.{PlanValue}
use Rattle.felm_meaning.specs.OfPlans.{DefaultsThereFor, IsLegalFor}
use Rattle.felm_core.specs.Positions.{Position, IsSound}
use Rattle.felm_core.specs.Moves.{Move, Feed, Enter, Claim, Send, Stop, Reopen, Leads, Runs, IsScripted, FitsNode, fed_in, fed, beginning}
use Rattle.felm_core.specs.Laws.{ComesTo}
use Rattle.felm_core.proofs.Events.{at_last}
use Rattle.felm_core.proofs.Runs.{waits_first, move_sound, run_sound, beginning_sound}

-- ---- journals grow

pub move_grows : (s : PlanValue) (c : Position) (m : Move) (d : Position) → Leads s c m d → (rest : List Event) × (d.journal ≡ c.journal ++ rest)
move_grows s c (Feed k v) d h = (record { source = k; value = v } ∷ [], ap (λ (x : Position). x.journal) h.3)
move_grows s c (Enter a) d h = (record { source = a; value = h.1.0 } ∷ [], ap (λ (x : Position). x.journal) h.1.2)
move_grows s c (Claim k) d h = ([], ap (λ (x : Position). x.journal) h.1 ∙ sym (append-nil c.journal))
move_grows s c (Send k) d h = ([], ap (λ (x : Position). x.journal) h.2 ∙ sym (append-nil c.journal))
move_grows s c (Stop k) d h = ([], ap (λ (x : Position). x.journal) h.2 ∙ sym (append-nil c.journal))
move_grows s c (Reopen k) d h = ([], ap (λ (x : Position). x.journal) h ∙ sym (append-nil c.journal))

pub run_grows : (s : PlanValue) (c : Position) (moves : List Move) (d : Position) → Runs s c moves d → (rest : List Event) × (d.journal ≡ c.journal ++ rest)
run_grows s c [] d h = ([], ap (λ (x : Position). x.journal) h ∙ sym (append-nil c.journal))
run_grows s c (m ∷ more) d (between, first, rest) =
    let a = move_grows s c m between first in
    let b = run_grows s between more d rest in
    (a.0 ++ b.0, b.1 ∙ (ap (λ (j : List Event). j ++ b.0) a.1 ∙ append_assoc c.journal a.0 b.0))

-- ---- the events that were fed

pub move_feeds : (s : PlanValue) (c : Position) (m : Move) (d : Position) → IsGraph s.graph → Leads s c m d
    → inputs_in s.graph d.journal ≡ inputs_in s.graph c.journal ++ fed_in m
move_feeds s c (Feed k v) d graph h = ap (λ (x : Position). inputs_in s.graph x.journal) h.3 ∙ inputs-more s.graph c.journal (record { source = k; value = v }) h.1
move_feeds s c (Enter a) d graph h =
    let w = waits_first s graph c a h.1.0 h.1.1 in
    ap (λ (x : Position). inputs_in s.graph x.journal) h.1.2 ∙
    (inputs-other s.graph c.journal (record { source = a; value = h.1.0 }) (async_is_source s.graph.nodes a w.0 w.1).1 ∙ sym (append-nil (inputs_in s.graph c.journal)))
move_feeds s c (Claim k) d graph h = ap (λ (x : Position). inputs_in s.graph x.journal) h.1 ∙ sym (append-nil (inputs_in s.graph c.journal))
move_feeds s c (Send k) d graph h = ap (λ (x : Position). inputs_in s.graph x.journal) h.2 ∙ sym (append-nil (inputs_in s.graph c.journal))
move_feeds s c (Stop k) d graph h = ap (λ (x : Position). inputs_in s.graph x.journal) h.2 ∙ sym (append-nil (inputs_in s.graph c.journal))
move_feeds s c (Reopen k) d graph h = ap (λ (x : Position). inputs_in s.graph x.journal) h ∙ sym (append-nil (inputs_in s.graph c.journal))

pub run_feeds : (s : PlanValue) (c : Position) (moves : List Move) (d : Position) → IsGraph s.graph → Runs s c moves d
    → inputs_in s.graph d.journal ≡ inputs_in s.graph c.journal ++ fed moves
run_feeds s c [] d graph h = ap (λ (x : Position). inputs_in s.graph x.journal) h ∙ sym (append-nil (inputs_in s.graph c.journal))
run_feeds s c (m ∷ more) d graph (between, first, rest) =
    run_feeds s between more d graph rest ∙
    (ap (λ (j : List Event). j ++ fed more) (move_feeds s c m between graph first) ∙ append_assoc (inputs_in s.graph c.journal) (fed_in m) (fed more))

-- a sound position whose input events are the script's first has a legal journal
pub sound_legal : (s : PlanValue) (script : List Event) (c : Position) → IsSound s c → (rest : List Event) × (script ≡ inputs_in s.graph c.journal ++ rest)
    → IsLegal s.graph s.budget script c.journal
sound_legal s script c sound scripted = record { sources = sound.events; scripted = scripted; caused = sound.caused }

nothing_in : (g : GraphValue) → inputs_in g [] ≡ []
unfolding inputs_in
nothing_in g = refl

pub scripted_legal : (s : PlanValue) (moves : List Move) (d : Position) → IsGraph s.graph → DefaultsThereFor s → IsScripted s moves
    → Runs s (beginning s.graph) moves d → IsLegalFor s d.journal
scripted_legal s moves d graph defaults scripted run =
    let i : inputs_in s.graph d.journal ≡ fed moves =
    run_feeds s (beginning s.graph) moves d graph run ∙ ap (λ (j : List Event). j ++ fed moves) (nothing_in s.graph) in
    sound_legal s s.script d (run_sound s graph (beginning s.graph) moves d (beginning_sound s defaults) run)
    (scripted.0, scripted.1 ∙ ap (λ (j : List Event). j ++ scripted.0) (sym i))

-- ---- types

item_of_filter : {X : Type 0} (p : X → Bool) (xs : List X) (i : ℕ) (x : X) → slice_get (filter p xs) i ≡ Some x → (k : ℕ) × (slice_get xs k ≡ Some x)
item_of_filter p [] i x h = absurd (none-some x h)
item_of_filter p (y ∷ ys) i x h = go (p y) i h (item_of_filter p ys)
  where
    go : (t : Bool) (i : ℕ) → slice_get (cond t (y ∷ filter p ys) (filter p ys)) i ≡ Some x
        → ((i : ℕ) (z : _) → slice_get (filter p ys) i ≡ Some z → (k : ℕ) × (slice_get ys k ≡ Some z)) → (k : ℕ) × (slice_get (y ∷ ys) k ≡ Some x)
    go true zero q ih = (0, q)
    go true (suc i) q ih = let r = ih i x q in (suc r.0, r.1)
    go false i q ih = let r = ih i x q in (suc r.0, r.1)

inputs_fit : (g : GraphValue) (j : List Event) → EventsFit g j → EventsFit g (inputs_in g j)
unfolding inputs_in
inputs_fit g j fit p e node h q = let i = item_of_filter (λ (x : Event). is_input g.nodes x.source) j p e h in fit i.0 e node i.1 q

one_more_fits : (g : GraphValue) (j : List Event) (e : Event) → EventsFit g j → FitsNode g e.source e.value → EventsFit g (j ++ e ∷ [])
one_more_fits g j e fit this p d node h q = go (cases_lt p (length j))
  where
    go : (p < length j) ⊎ (length j ≤ p) → IsOfType node.ty d.value
    go (inl l) = fit p d node (sym (slice_get-append_left j (e ∷ []) p l) ∙ h) q
    go (inr l) =
        let m : p ≡ length j = at_last j e p d h l in
        let r : d ≡ e = same_Some d e (sym h ∙ (ap (slice_get (j ++ e ∷ [])) m ∙ slice_get_last j e)) in
        subst (λ (x : Event). IsOfType node.ty x.value) (sym r) (this node (ap (λ (x : Event). slice_get g.nodes x.source) (sym r) ∙ q))

pub move_fits : (s : PlanValue) (c : Position) (m : Move) (d : Position) → IsGraph s.graph → IsSound s c → EventsFit s.graph c.journal → Leads s c m d
    → EventsFit s.graph d.journal
move_fits s c (Feed k v) d graph sound fit h =
    subst (λ (x : Position). EventsFit s.graph x.journal) (sym h.3) (one_more_fits s.graph c.journal (record { source = k; value = v }) fit h.2)
move_fits s c (Enter a) d graph sound fit h =
    let after = move_sound s graph c (Enter a) d sound h in
    let legal = sound_legal s (inputs_in s.graph d.journal) d after ([], sym (append-nil (inputs_in s.graph d.journal))) in
    let same = move_feeds s c (Enter a) d graph h ∙ append-nil (inputs_in s.graph c.journal) in
    legal_fits s.graph s.budget (inputs_in s.graph d.journal) d.journal graph (subst (EventsFit s.graph) (sym same) (inputs_fit s.graph c.journal fit)) legal
move_fits s c (Claim k) d graph sound fit h = subst (λ (x : Position). EventsFit s.graph x.journal) (sym h.1) fit
move_fits s c (Send k) d graph sound fit h = subst (λ (x : Position). EventsFit s.graph x.journal) (sym h.2) fit
move_fits s c (Stop k) d graph sound fit h = subst (λ (x : Position). EventsFit s.graph x.journal) (sym h.2) fit
move_fits s c (Reopen k) d graph sound fit h = subst (λ (x : Position). EventsFit s.graph x.journal) (sym h) fit

pub run_fits : (s : PlanValue) (c : Position) (moves : List Move) (d : Position) → IsGraph s.graph → IsSound s c → EventsFit s.graph c.journal → Runs s c moves d
    → EventsFit s.graph d.journal
run_fits s c [] d graph sound fit h = subst (λ (x : Position). EventsFit s.graph x.journal) (sym h) fit
run_fits s c (m ∷ more) d graph sound fit (between, first, rest) =
    run_fits s between more d graph (move_sound s graph c m between sound first) (move_fits s c m between graph sound fit first) rest

pub run_comes : (s : PlanValue) (moves : List Move) (d : Position) → IsGraph s.graph → DefaultsThereFor s → Runs s (beginning s.graph) moves d
    → ComesTo s moves d
run_comes s moves d graph defaults run = record {
  sound = run_sound s graph (beginning s.graph) moves d (beginning_sound s defaults) run;
  typed = run_fits s (beginning s.graph) moves d graph (beginning_sound s defaults) (λ p e node h q. absurd (none-some e h)) run;
  legal = λ scripted. scripted_legal s moves d graph defaults scripted run;
}
