-- A new engine stands for the beginning of its plan's run.
use Rattle.std.proofs.Common.{◌≡◌, ℕ, ◌<◌, Bool, false, None, List, [], length, get_or, refl, sym, ap, subst, ◌∙◌, arith}
use Rattle.std.specs.Prelude.{replicate}
use Rattle.std.specs.List.{slice_get}
use Rattle.std.proofs.lemmas.Option.{none-some}
use Rattle.std.proofs.lemmas.List.{length-map, length-replicate, get_or-map, get_or-replicate, same_lists}
use Rattle.felm_term.specs.declared.value.Value.{Value}
use Rattle.felm_term.specs.declared.message.Message.{Message}
use Rattle.felm_term.specs.declared.event.Event.{Event}
use Rattle.felm_graph.specs.GraphValue.{GraphValue}
use Rattle.felm_meaning.specs.PlanValue.{PlanValue}
use Rattle.felm_meaning.specs.Types.{EventsFit}
use Rattle.felm_meaning.specs.Meaning.{val}
use Rattle.felm_meaning.specs.Laws.{DefaultsThere}
use Rattle.felm_meaning.proofs.Rows.{item_within}
use Rattle.felm_core.specs.Positions.{Position}
use Rattle.felm_core.specs.Moves.{beginning}
use Rattle.felm_core.specs.Holds.{Holds}
use Rattle.felm_core.proofs.Holds.{beginning_holds}
use Rattle.felm_edges.specs.EdgesValue.{EdgesValue, edge_in}
use Rattle.felm_engine.specs.Queued.{QueueValue, no_queue, queue_at}
use Rattle.felm_engine.proofs.Moving.{items_of}

-- every default is there where there is a list of them
pub defaults_there : (g : GraphValue) (b : ℕ) (defaults : List Value) → length defaults ≡ length g.nodes
    → ((k : ℕ) → k < length g.nodes → val g b [] k 0 ≡ slice_get defaults k) → DefaultsThere g b
defaults_there g b defaults n h k l = let v = item_within defaults k (omega arith) in (v.0, h k l ∙ v.1)

-- queues in which nothing waits
pub empty_items : (queues : List QueueValue) (n : ℕ) → length queues ≡ n → ((k : ℕ) → (queue_at queues k).items ≡ []) → items_of queues ≡ replicate n []
empty_items queues n l h = same_lists (items_of queues) (replicate n []) lengths (λ k d m. at k d m)
  where
    lengths : length (items_of queues) ≡ length (replicate {A = List Value} n [])
    lengths = length-map queues _ ∙ (l ∙ sym (length-replicate n []))

    at : (k : ℕ) (d : List Value) → k < length (items_of queues) → get_or (items_of queues) k d ≡ get_or (replicate n []) k d
    at k d m =
        let o : k < length queues = omega (arith, m, length-map queues (λ (q : QueueValue). q.items)) in
        get_or-map (λ (q : QueueValue). q.items) queues k no_queue d o ∙ (h k ∙ sym (get_or-replicate n k [] d (omega (arith, o, l))))

-- ---- the parts of a new engine

pub begun : (g : GraphValue) (journal : List Event) (done : List ℕ) (out : List Bool) → journal ≡ [] → done ≡ replicate (length g.nodes) 0
    → out ≡ replicate (length g.nodes) false → ◌≡◌ {A = Position} (record { journal = journal; done = done; out = out; stop = None }) (beginning g)
begun g journal done out e f h = rw (e, f, h) refl

pub begun_holds : (plan : PlanValue) (at : Position) (edges : EdgesValue) (kept defaults : List Value) (waiting : List (List Value)) (outputs : List Message)
    → at ≡ beginning plan.graph → ((k port : ℕ) → edge_in edges k port ≡ []) → kept ≡ defaults → length defaults ≡ length plan.graph.nodes
    → ((k : ℕ) → k < length plan.graph.nodes → val plan.graph plan.budget [] k 0 ≡ slice_get defaults k)
    → waiting ≡ replicate (length plan.graph.nodes) [] → outputs ≡ []
    → Holds plan at (edge_in edges) (record { kept = kept; waiting = waiting; outputs = outputs; settled = 0 })
begun_holds plan at edges kept defaults waiting outputs a empty k n d w o =
    subst (λ (c : Position). Holds plan c (edge_in edges) (record { kept = kept; waiting = waiting; outputs = outputs; settled = 0 })) (sym a)
    (subst (λ (vs : List Value). Holds plan (beginning plan.graph) (edge_in edges) (record { kept = vs; waiting = waiting; outputs = outputs; settled = 0 })) (sym k)
    (subst (λ (ls : List (List Value)). Holds plan (beginning plan.graph) (edge_in edges) (record { kept = defaults; waiting = ls; outputs = outputs; settled = 0 })) (sym w)
    (subst (λ (ms : List Message). Holds plan (beginning plan.graph) (edge_in edges)
    (record { kept = defaults; waiting = replicate (length plan.graph.nodes) []; outputs = ms; settled = 0 })) (sym o)
    (beginning_holds plan (edge_in edges) defaults empty n d))))

-- no event has a wrong type where there is none
pub none_unfit : (g : GraphValue) (journal : List Event) → journal ≡ [] → EventsFit g journal
none_unfit g journal e = λ p event node h. absurd (none-some event (ap (λ (j : List Event). slice_get j p) (sym e) ∙ h))
