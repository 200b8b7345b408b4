-- What a session enters may come in, and what its calls then answer.
use Rattle.std.proofs.Common.{◌≡◌, ℕ, suc, zero, get_or, ◌+◌, ◌<◌, ◌≤◌, ◌⊎◌, inl, inr, Option, Some, None, List, [], ◌∷◌, ◌++◌, length, refl, sym, ap, ◌∙◌, subst, arith}
use Rattle.std.specs.List.{slice_get}
use Rattle.std.specs.Option.{option_map_or, option_and_then}
use Rattle.std.proofs.lemmas.Bool.{cases_eq, cases_lt}
use Rattle.std.proofs.lemmas.Option.{none-some, slice_get-get_or}
use Rattle.felm_term.specs.declared.value.Value.{Value}
use Rattle.felm_term.specs.declared.event.Event.{Event}
use Rattle.felm_graph.specs.Graphs.{IsGraph}
use Rattle.felm_graph.specs.declared.node.Node.{Node}
use Rattle.felm_graph.specs.declared.node.NodeKind.{NodeKind}
use Rattle.felm_graph.specs.declared.node.NodeKind.TheVariants as kind
use Rattle.felm_meaning.specs.declared.plan.Plan.{Plan}
use Rattle.felm_meaning.specs.Nodes.{inner, inner_of_kind}
use Rattle.felm_meaning.specs.OfPlans.{IsLegalFor}
use Rattle.felm_meaning.specs.Journals.{entered}
use Rattle.felm_meaning.specs.Types.{EventsFit}
use Rattle.felm_meaning.proofs.Rows.{slice_get_last}
use Rattle.felm_meaning.proofs.Fronts.{changes-later}
use Rattle.felm_meaning.proofs.Legal.{async_is_source, input_is_source, legal-async}
use Rattle.felm_meaning.proofs.Fitting.{script_fits, legal_fits}
use Rattle.felm_core.specs.Positions.{done_at, IsSound}
use Rattle.felm_core.specs.Contents.{waiting_at}
use Rattle.felm_core.specs.Moves.{Move, Feed, Enter}
use Rattle.felm_core.proofs.Runs.{waits_first, inner_there}
use Rattle.felm_core.proofs.Sticks.{done_within}
use Rattle.felm_core.proofs.Messages.{nothing_waits}
use Rattle.felm_engine.specs.EngineValue.{EngineValue}
use Rattle.felm_engine.specs.Answers.{planned, Moved, MayComeIn, coming_in, EnteredAs}
use Rattle.felm_engine.specs.Bench.{fed_of}
use Rattle.felm_engine.specs.declared.answers.Entered.{Entered}
use Rattle.felm_engine.specs.declared.answers.Entered.TheVariants as entered
use Rattle.felm_engine.specs.declared.answers.Fed.{Fed}
use Rattle.felm_engine.specs.declared.answers.Fed.TheVariants as fed
use Rattle.felm_session.specs.SessionValue.{SessionValue, IsInStep}
use Rattle.felm_session.specs.Answers.{Waits, NoneWaits, IsLeastWaiting, EnteredAt, EnteredNext}
use Rattle.felm_session.proofs.Stepping.{moved_in_step, same_in_step}

-- ---- what may come in

-- the source of a script's event is no async
pub fed_source : (engine : EngineValue) (n : ℕ) (e : Event) → IsGraph engine.plan.graph → slice_get engine.plan.script.items n ≡ Some e
    → inner engine.plan.graph.nodes e.source ≡ None
fed_source engine n e graph next =
    (input_is_source engine.plan.graph.nodes e.source
    ((script_fits engine.plan.graph engine.plan.script.items graph engine.plan.events_fit).0 n e next)).1

pub script_may_come : (engine : EngineValue) (n : ℕ) (e : Event) → IsGraph engine.plan.graph → slice_get engine.plan.script.items n ≡ Some e
    → MayComeIn engine e
script_may_come engine n e graph next =
    let fits = script_fits engine.plan.graph engine.plan.script.items graph engine.plan.events_fit in
    let source = input_is_source engine.plan.graph.nodes e.source (fits.0 n e next) in
    record {
      source = source.0;
      typed = λ node at. fits.1 n e node next at;
      waits = λ x at. absurd (none-some x (sym source.1 ∙ at));
    }

-- a journal with the waiting value's event is legal too, so the value has its node's type
pub waiting_may_come : (engine : EngineValue) (a : ℕ) (v : Value) → IsGraph engine.plan.graph → IsSound (planned engine) engine.position
    → IsLegalFor (planned engine) engine.position.journal → slice_get (waiting_at (planned engine) engine.position a) 0 ≡ Some v
    → MayComeIn engine (record { source = a; value = v })
waiting_may_come engine a v graph sound legal first =
    let plan = planned engine in
    let here = engine.position in
    let e : Event = record { source = a; value = v } in
    let w = waits_first plan graph here a v first in
    let next =
    legal-async plan.graph plan.budget plan.script here.journal e w.0 legal w.1
    (changes-later plan.graph plan.budget here.journal w.0 (done_at here.done w.0) (length here.journal) (entered here.journal a) v
    (done_within plan here graph sound w.0 (inner_there plan graph a w.0 w.1)) w.2) in
    let script : EventsFit plan.graph plan.script = (script_fits plan.graph plan.script graph engine.plan.events_fit).1 in
    let fit : EventsFit plan.graph (here.journal ++ e ∷ []) = legal_fits plan.graph plan.budget plan.script (here.journal ++ e ∷ []) graph script next in
    record {
      source = (async_is_source plan.graph.nodes a w.0 w.1).0;
      typed = λ node at. fit (length here.journal) e node (slice_get_last here.journal e) at;
      waits = λ x at. first;
    }

-- ---- what waits

pub first_there : (vs : List Value) → (vs ≡ []) ⊎ ((v : Value) × (slice_get vs 0 ≡ Some v))
first_there [] = inl refl
first_there (v ∷ vs) = inr (v, refl)

pub none_first : (vs : List Value) → slice_get vs 0 ≡ None → vs ≡ []
none_first [] h = refl
none_first (v ∷ vs) h = absurd (none-some v (sym h))

pub none_waits : (engine : EngineValue) (a : ℕ) → (Waits engine a → ⊥) → NoneWaits engine a
none_waits engine a h = elim (first_there (waiting_at (planned engine) engine.position a)) [
  | inl e ↦ e
  | inr w ↦ absurd (h w)
]

pub waits_not_none : (engine : EngineValue) (a : ℕ) → Waits engine a → NoneWaits engine a → ⊥
waits_not_none engine a w none = none-some w.0 (sym (ap (λ (vs : List Value). slice_get vs 0) none) ∙ w.1)

-- values wait at asyncs alone
pub waits_at : (engine : EngineValue) (a : ℕ) → IsGraph engine.plan.graph → Waits engine a → (x : ℕ) × (inner engine.plan.graph.nodes a ≡ Some x)
waits_at engine a graph w = let f = waits_first (planned engine) graph engine.position a w.0 w.1 in (f.0, f.1)

-- so none waits at a node of another kind
inner_past : (nodes : List Node) (a : ℕ) → length nodes ≤ a → inner nodes a ≡ None
inner_past [] a l = refl
inner_past (n ∷ ns) zero l = absurd (omega (arith, l))
inner_past (n ∷ ns) (suc a) l = inner_past ns a (omega (arith, l))

pub no_inner : (k : NodeKind)
    → ((x : ℕ) × (k ≡ kind.Input x))
    ⊎ (((f : Value) × (xs : List ℕ) × (k ≡ kind.Lift f xs)) ⊎ ((f : Value) × (base : Value) × (x : ℕ) × (k ≡ kind.Foldp f base x)))
    → inner_of_kind k ≡ None
no_inner k (inl h) = ap inner_of_kind h.1
no_inner k (inr (inl h)) = ap inner_of_kind h.2
no_inner k (inr (inr h)) = ap inner_of_kind h.3

pub not_waiting : (engine : EngineValue) (plan : Plan) (nodes : List Node) (k : ℕ) (n : Node) → plan ≡ engine.plan → nodes ≡ plan.graph.nodes
    → k < length engine.plan.graph.nodes → inner_of_kind (get_or nodes k n).kind ≡ None → Waits engine k → ⊥
not_waiting engine plan nodes k n p e l none w =
    let here : nodes ≡ engine.plan.graph.nodes = e ∙ ap (λ (q : Plan). q.graph.nodes) p in
    let m : k < length nodes = omega (arith, l, ap length here) in
    let at : inner nodes k ≡ inner_of_kind (get_or nodes k n).kind =
    ap (λ (o : Option Node). option_and_then (λ (y : Node). inner_of_kind y.kind) o) (slice_get-get_or nodes k n m) in
    let all : inner engine.plan.graph.nodes k ≡ None =
    ap (λ (ns : List Node). inner ns k) (sym here) ∙ (at ∙ none) in
    waits_not_none engine k w (nothing_waits (planned engine) engine.position k all)

-- one node after another
pub none_waits_more : (engine : EngineValue) (n : ℕ) → ((x : ℕ) → x < n → NoneWaits engine x) → (Waits engine n → ⊥) → (x : ℕ) → x < n + 1
    → NoneWaits engine x
none_waits_more engine n before this x l = elim (cases_eq x n) [
  | inl e ↦ subst (NoneWaits engine) (sym e) (none_waits engine n this)
  | inr ne ↦ before x (omega (arith, l, ne))
]

pub none_waits_anywhere : (engine : EngineValue) (n : ℕ) → length engine.plan.graph.nodes ≤ n → ((x : ℕ) → x < n → NoneWaits engine x)
    → (a : ℕ) → NoneWaits engine a
none_waits_anywhere engine n all before a = elim (cases_lt a n) [
  | inl l ↦ before a l
  | inr l ↦ nothing_waits (planned engine) engine.position a (inner_past engine.plan.graph.nodes a (omega (arith, all, l)))
]

-- ---- answers

-- the move by which the event comes in is that of its source
feed_move : (e : Event) (x : Option ℕ) → x ≡ None → option_map_or (λ i. Enter e.source) x (Feed e.source e.value) ≡ Feed e.source e.value
feed_move e x h = ap (λ (o : Option ℕ). option_map_or (λ i. Enter e.source) o (Feed e.source e.value)) h

enter_move : (e : Event) (x : Option ℕ) (i : ℕ) → x ≡ Some i → option_map_or (λ i. Enter e.source) x (Feed e.source e.value) ≡ Enter e.source
enter_move e x i h = ap (λ (o : Option ℕ). option_map_or (λ i. Enter e.source) o (Feed e.source e.value)) h

pub moved_by_feed : (old new : EngineValue) (e : Event) → inner old.plan.graph.nodes e.source ≡ None
    → Moved old (coming_in old.plan.graph.nodes e) new → Moved old (Feed e.source e.value) new
moved_by_feed old new e none moved = subst (λ (m : Move). Moved old m new) (feed_move e (inner old.plan.graph.nodes e.source) none) moved

-- a fed event came in
pub fed_at : (old new : EngineValue) (n : ℕ) (e : Event) (position : ℕ) → IsGraph old.plan.graph → slice_get old.plan.script.items n ≡ Some e
    → EnteredAs old e new (entered.At position) → (position ≡ suc (length old.position.journal)) × Moved old (Feed e.source e.value) new
fed_at old new n e position graph next h = (h.0, moved_by_feed old new e (fed_source old n e graph next) h.1)

pub moved_by_entry : (old new : EngineValue) (e : Event) (x : ℕ) → inner old.plan.graph.nodes e.source ≡ Some x
    → Moved old (coming_in old.plan.graph.nodes e) new → Moved old (Enter e.source) new
moved_by_entry old new e x at moved = subst (λ (m : Move). Moved old m new) (enter_move e (inner old.plan.graph.nodes e.source) x at) moved

-- a session with the same engine and cursor is the same
pub same_session : (old new : SessionValue) → new.engine ≡ old.engine → new.cursor ≡ old.cursor → new ≡ old
same_session old new e c =
    ap (λ (engine : EngineValue). record new { engine = engine }) e ∙ ap (λ (cursor : ℕ). record old { cursor = cursor }) c

-- the entry of a waiting value answers as that of its event
pub entered_at : (old new : SessionValue) (a : ℕ) (v : Value) (x : ℕ) (answer : Entered) → inner old.engine.plan.graph.nodes a ≡ Some x
    → slice_get (waiting_at (planned old.engine) old.engine.position a) 0 ≡ Some v → new.cursor ≡ old.cursor
    → EnteredAs old.engine (record { source = a; value = v }) new.engine answer → EnteredAt old a new (fed_of answer)
entered_at old new a v x (entered.At position) at first cursor h = record {
  position_is = h.0;
  moved = moved_by_entry old.engine new.engine (record { source = a; value = v }) x at h.1;
  cursor = cursor;
}
entered_at old new a v x entered.NoRoom at first cursor h = ((v, first), (h.0, h.1), same_session old new h.2 cursor)
entered_at old new a v x entered.Full at first cursor h = ((v, first), h.0, same_session old new h.1 cursor)

-- and keeps the cursor in step
pub entered_in_step : (old new : EngineValue) (cursor a : ℕ) (v : Value) (x : ℕ) (answer : Entered) → IsGraph old.plan.graph → IsInStep old cursor
    → inner old.plan.graph.nodes a ≡ Some x → EnteredAs old (record { source = a; value = v }) new answer → IsInStep new cursor
entered_in_step old new cursor a v x (entered.At position) graph step at h =
    moved_in_step old new cursor (Enter a) graph step refl (moved_by_entry old new (record { source = a; value = v }) x at h.1)
entered_in_step old new cursor a v x entered.NoRoom graph step at h = same_in_step old new cursor h.2 step
entered_in_step old new cursor a v x entered.Full graph step at h = same_in_step old new cursor h.1 step

-- an entry at the least async at which a value waits
pub entered_next : (old new : SessionValue) (a : ℕ) (answer : Fed) → IsLeastWaiting old.engine a → EnteredAt old a new answer
    → EnteredNext old new answer
entered_next old new a (fed.At position) least h = (a, least, h)
entered_next old new a fed.NoneLeft least h = h
entered_next old new a fed.NoneWaiting least h = absurd (waits_not_none old.engine a least.waits h.0)
entered_next old new a fed.NoRoom least h = ((a, least), h.1, h.2)
entered_next old new a fed.Full least h = ((a, least), h.1, h.2)
