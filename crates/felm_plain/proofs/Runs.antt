-- An event keeps what a run keeps, and where it ends its journal is the plain one.
use Rattle.std.proofs.Common.{◌≡◌, ℕ, suc, zero, ◌+◌, ◌<◌, ◌≤◌, inl, inr, true, false, Option, Some, None, List, [], ◌∷◌, ◌++◌, length, map, drop, refl, sym, ap, ◌∙◌, subst, arith}
use Rattle.std.specs.Prelude.{replicate, is_some, IsSome, IsTrue, nat_lt, ◌↔◌}
use Rattle.std.specs.List.{slice_get}
use Rattle.std.specs.Option.{option_or, option_to_list}
use Rattle.std.proofs.Math.ListN.{set}
use Rattle.std.proofs.lemmas.Option.{none-some, slice_get_within}
use Rattle.std.proofs.lemmas.Bool.{false≢true}
use Rattle.std.proofs.lemmas.Bool.Decides.{nat_tests}
use Rattle.std.proofs.lemmas.List.{length-append, length-map, length-replicate}
use Rattle.felm_term.specs.Spared.{Spared}
use Rattle.felm_term.specs.Values.{value_of}
use Rattle.felm_term.specs.declared.value.Value.{Value}
use Rattle.felm_term.specs.declared.message.Message.{Message}
use Rattle.felm_term.specs.declared.message.Message.TheVariants.{NoChange}
use Rattle.felm_term.specs.declared.event.Event.{Event}
use Rattle.felm_graph.specs.GraphValue.{GraphValue}
use Rattle.felm_graph.specs.Graphs.{IsGraph}
use Rattle.felm_meaning.specs.declared.history.History.{History}
use Rattle.felm_meaning.specs.declared.history.RunEnd.{RunEnd}
use Rattle.felm_meaning.specs.declared.history.RunEnd.TheVariants.{Complete, Stopped, Full}
use Rattle.felm_meaning.specs.Nodes.{is_input, inner}
use Rattle.felm_meaning.specs.Meaning.{at, defaults_to, no_change_of, row_to, row, msg, val, value_at, changes, sends, IsThere}
use Rattle.felm_meaning.specs.Journals.{inputs_in, entered, IsLegal, NamesInputs, AllThere, IsLeastNone, first_waiting, next, plain_journal}
use Rattle.felm_meaning.specs.Words.{CameNext}
use Rattle.felm_meaning.specs.Types.{EventsFit}
use Rattle.felm_meaning.specs.Values.{message_at}
use Rattle.felm_meaning.proofs.Rows.{length-defaults_to, length-row, length-row_to}
use Rattle.felm_meaning.proofs.Recursion.{val-zero}
use Rattle.felm_meaning.proofs.Fronts.{sends-prefix, message_there}
use Rattle.felm_meaning.proofs.Legal.{inputs-other, inputs-more, legal-next, legal-nothing, async_is_source, input_is_source}
use Rattle.felm_meaning.proofs.Plain.{came-more, plain-here, grown-none, grown-over}
use Rattle.felm_meaning.proofs.Fitting.{legal_fits}
use Rattle.felm_plain.specs.Rows.{row_of, Precedes}
use Rattle.felm_plain.specs.Queues.{left_at, queue_at, Holds, first_queue, first_event, IsLeastQueue, Added}
use Rattle.felm_plain.specs.Runs.{AreDefaults, Keeps}
use Rattle.felm_plain.specs.Ends.{IsHistory, EndsWith, IsEndOf}
use Rattle.felm_plain.proofs.Rows.{row-message, next_row-is}
use Rattle.felm_plain.proofs.Waits.{queue_at-replicate, queues-waiting, first_queue-some, queue_left, taken_waiting, taken_scripted, holds_more}

one_more : (j : List Event) (e : Event) → length (j ++ e ∷ []) ≡ suc (length j)
one_more j e = length-append j (e ∷ []) ∙ omega arith

none_past : {X : Type 0} (xs : List X) (i : ℕ) → slice_get xs i ≡ None → length xs ≤ i
none_past [] i h = omega arith
none_past (x ∷ xs) zero h = absurd (none-some x (sym h))
none_past (x ∷ xs) (suc i) h = let l : length xs ≤ i = none_past xs i h in omega arith

-- ---- parts that may be none

pub some_event : (o : Option Event) → IsSome o → (e : Event) × (o ≡ Some e)
some_event None h = absurd (false≢true h)
some_event (Some e) h = (e, refl)

pub no_event : (o : Option Event) → (IsSome o → ⊥) → o ≡ None
no_event None h = refl
no_event (Some e) h = absurd (h refl)

-- whether there is an item at a place
some_within : {X : Type 0} (xs : List X) (i : ℕ) → is_some (slice_get xs i) ≡ nat_lt i (length xs)
some_within xs i = go (slice_get xs i) refl
  where
    go : (o : Option _) → slice_get xs i ≡ o → is_some o ≡ nat_lt i (length xs)
    go None h = let l : length xs ≤ i = none_past xs i h in grind (arith, nat_tests)
    go (Some x) h = let l : i < length xs = slice_get_within xs i x h in grind (arith, nat_tests)

-- ---- before the first event

-- a list of items that are all there
all_some : {X : Type 0} (xs : List (Option X)) (ys : List X) → length xs ≡ length ys → ((k : ℕ) → k < length ys → at xs k ≡ slice_get ys k)
    → xs ≡ map (λ y. Some y) ys
all_some [] [] l h = refl
all_some [] (y ∷ ys) l h = absurd (omega arith)
all_some (x ∷ xs) [] l h = absurd (omega arith)
all_some {X} (x ∷ xs) (y ∷ ys) l h =
    let e : x ≡ Some y = h 0 (omega arith) in
    let ih : xs ≡ map (λ z. Some z) ys = all_some xs ys (omega arith) (λ k m. h (suc k) (omega arith)) in
    rw (e, ← ih) refl

no_changes : (vs : List Value) → map no_change_of (map (λ v. Some v) vs) ≡ row_of (map (λ v. NoChange v) vs)
no_changes [] = refl
no_changes (v ∷ vs) = ap (λ (r : List (Option Message)). Some (NoChange v) ∷ r) (no_changes vs)

first_row : (g : GraphValue) (b : ℕ) (vs : List Value) → AreDefaults g b vs → row_of (map (λ v. NoChange v) vs) ≡ row g b [] 0
unfolding row
first_row g b vs h =
    let d : defaults_to g b (length g.nodes) ≡ map (λ v. Some v) vs =
    all_some (defaults_to g b (length g.nodes)) vs (length-defaults_to g b (length g.nodes) ∙ sym h.0)
    (λ k l. sym (val-zero g b [] k) ∙ h.1 k (omega (arith, h.0))) in
    sym (ap (map no_change_of) d ∙ no_changes vs)

pub begins : (g : GraphValue) (b : ℕ) (script : List Event) (limit : ℕ) (vs : List Value) (ms : List Message) (queues : List (List Value)) (n : ℕ) → IsGraph g
    → NamesInputs g.nodes script × EventsFit g script → AreDefaults g b vs → ms ≡ map (λ v. NoChange v) vs → n ≡ length g.nodes → queues ≡ replicate n []
    → Keeps g b script limit [] [] ms queues [] 0
unfolding changes entered inputs_in sends
begins g b script limit vs ms queues n graph fit h m l q = record {
  graph = graph;
  named = fit.0;
  typed = fit.1;
  came = λ p d r. absurd (none-some d r);
  legal = legal-nothing g b script;
  row = ap row_of m ∙ first_row g b vs h;
  sent = refl;
  holds = record {
    lengths = ap length q ∙ (length-replicate n [] ∙ l);
    left = λ k w. ap (λ (x : List (List Value)). queue_at x k) q ∙ (queue_at-replicate n k ∙ go k (inner g.nodes k));
    had = λ k x r. omega arith;
  };
  at_cursor = refl;
}
  where
    go : (k : ℕ) (o : Option ℕ) → [] ≡ left_at o g b [] 0 k
    go k None = refl
    go k (Some x) = refl

-- the default is the same over any journal
default_same : (g : GraphValue) (b : ℕ) (i j : List Event) (k : ℕ) → val g b i k 0 ≡ val g b j k 0
unfolding val msg row
default_same g b i j k = refl

module _ {g : GraphValue} {b : ℕ} {script : List Event} {limit : ℕ} {j : List Event} {ms : List Message} {queues : List (List Value)} {outputs : List Message}
    {cursor : ℕ} where
  -- ---- what a run has

  pub keeps_length : {taken : List Event} → Keeps g b script limit j taken ms queues outputs cursor → length ms ≡ length g.nodes
  keeps_length k = sym (length-map ms (λ m. Some m)) ∙ (ap length k.row ∙ length-row g b j (length j) (omega arith))

  -- every message is there
  pub keeps_there : {taken : List Event} → Keeps g b script limit j taken ms queues outputs cursor → AllThere g b j
  unfolding msg
  keeps_there k = λ n l.
      let w : n < length ms = omega (arith, keeps_length k) in
      (message_at ms n, ap (λ (r : List (Option Message)). at r n) (sym k.row) ∙ row-message ms n w)

  -- ---- the event that comes next

  module _ (k : Keeps g b script limit j j ms queues outputs cursor) where
    first_comes : first_event queues ≡ first_waiting g b j (length g.nodes)
    first_comes = ap (first_queue queues) k.holds.lengths ∙ queues-waiting g b j queues (length g.nodes) k.holds (omega arith)

    next_comes : next g b script j ≡ option_or (first_event queues) (slice_get script cursor)
    unfolding next
    next_comes =
        ap (λ (o : Option Event). option_or o (slice_get script (length (inputs_in g j)))) (sym first_comes) ∙
        ap (λ (n : ℕ). option_or (first_event queues) (slice_get script n)) (sym k.at_cursor)

    -- that of the least queue in which a value waits
    pub waiting_comes : (e : Event) → first_event queues ≡ Some e → next g b script j ≡ Some e
    waiting_comes e h = next_comes ∙ ap (λ (o : Option Event). option_or o (slice_get script cursor)) h

    -- else the script's next
    pub scripted_comes : (o : Option Event) → first_event queues ≡ None → slice_get script cursor ≡ o → next g b script j ≡ o
    scripted_comes o h q = next_comes ∙ (ap (λ (x : Option Event). option_or x (slice_get script cursor)) h ∙ q)

    -- whether there is one
    pub some_comes : (o : Option ℕ) → IsLeastQueue queues o → is_some o ≡ true → is_some (next g b script j) ≡ true
    some_comes None h q = absurd (false≢true q)
    some_comes (Some a) h q = ap is_some (waiting_comes (record { source = a; value = h.1.0 }) h.1.2)

    maybe_comes : (o : Option ℕ) → IsLeastQueue queues o → is_some o ≡ false → is_some (next g b script j) ≡ nat_lt cursor (length script)
    maybe_comes None h q = ap is_some (scripted_comes (slice_get script cursor) h refl) ∙ some_within script cursor
    maybe_comes (Some a) h q = absurd (false≢true (sym q))

    pub at_script : (o : Option ℕ) (n : ℕ) → IsLeastQueue queues o → is_some o ≡ false → n ≡ length script
        → IsTrue (nat_lt cursor n) ↔ IsSome (next g b script j)
    at_script o n h q l =
        let e : is_some (next g b script j) ≡ nat_lt cursor n = maybe_comes o h q ∙ ap (nat_lt cursor) (sym l) in
        (λ x. e ∙ x, λ x. sym e ∙ x)

    -- ---- it is taken

    pub takes_waiting : (after : List (List Value)) (e : Event) → first_event queues ≡ Some e → after ≡ set queues e.source (drop 1 (queue_at queues e.source))
        → Keeps g b script limit j (j ++ e ∷ []) ms after outputs cursor
    takes_waiting after e h q =
        let f = first_queue-some queues (length queues) e h in
        let l : e.source < length g.nodes = omega (arith, f.0, k.holds.lengths) in
        let w = queue_left g b j queues e.source e.value k.holds l f.1 in
        record {
          graph = k.graph;
          named = k.named;
          typed = k.typed;
          came = k.came;
          legal = k.legal;
          row = k.row;
          sent = k.sent;
          holds = taken_waiting g b j queues after e w.0 k.holds l w.1 w.2 q;
          at_cursor = k.at_cursor ∙ ap length (sym (inputs-other g j e (async_is_source g.nodes e.source w.0 w.1).1));
        }

    pub takes_scripted : (after : List (List Value)) (e : Event) (moved : ℕ) → after ≡ queues → slice_get script cursor ≡ Some e → moved ≡ cursor + 1
        → Keeps g b script limit j (j ++ e ∷ []) ms after outputs moved
    takes_scripted after e moved q h m =
        let i : is_input g.nodes e.source ≡ true = k.named cursor e h in
        record {
          graph = k.graph;
          named = k.named;
          typed = k.typed;
          came = k.came;
          legal = k.legal;
          row = k.row;
          sent = k.sent;
          holds = subst (Holds g b (j ++ e ∷ []) (length j)) (sym q) (taken_scripted g b j queues e k.holds (input_is_source g.nodes e.source i).1);
          at_cursor = m ∙ (ap (λ (n : ℕ). n + 1) k.at_cursor ∙
              (sym (length-append (inputs_in g j) (e ∷ [])) ∙ ap length (sym (inputs-more g j e i))));
        }

  -- ---- it is entered

  module _ (e : Event) (k : Keeps g b script limit j (j ++ e ∷ []) ms queues outputs cursor) (n : next g b script j ≡ Some e) where
    legal_after : IsLegal g b script (j ++ e ∷ [])
    legal_after = legal-next g b script j e k.named k.legal n

    pub precedes : Precedes g b ms e
    precedes = record { journal = j; row = k.row; fit = legal_fits g b script (j ++ e ∷ []) k.graph k.typed legal_after }

    row_after : (r : List (Option Message)) → r ≡ row_to g b (row_of ms) e (length g.nodes) → r ≡ row g b (j ++ e ∷ []) (suc (length j))
    row_after r h = h ∙ (ap (λ (x : List (Option Message)). row_to g b x e (length g.nodes)) k.row ∙ sym (next_row-is g b j e))

    pub enters : (j' : List Event) (ms' : List Message) (queues' : List (List Value)) (outputs' : List Message) → length j < limit → j' ≡ j ++ e ∷ []
        → row_of ms' ≡ row_to g b (row_of ms) e (length g.nodes) → Added g.nodes (row_of ms') queues queues' → g.main < length ms'
        → outputs' ≡ outputs ++ message_at ms' g.main ∷ [] → Keeps g b script limit j' j' ms' queues' outputs' cursor
    unfolding sends msg
    enters j' ms' queues' outputs' l q r a w o = subst (λ (x : List Event). Keeps g b script limit x x ms' queues' outputs' cursor) (sym q) (record {
      graph = k.graph;
      named = k.named;
      typed = k.typed;
      came = came-more g b script j limit e k.came (keeps_there k) l n;
      legal = legal_after;
      row = here ∙ ap (row g b (j ++ e ∷ [])) (sym (one_more j e));
      sent = o ∙
          (ap (λ (x : List Message). x ++ message_at ms' g.main ∷ []) (k.sent ∙ sym (sends-prefix g b j (e ∷ []) g.main (length j) (omega arith))) ∙
          (ap (λ (x : Option Message). sends g b (j ++ e ∷ []) g.main (length j) ++ option_to_list x)
          (sym (row-message ms' g.main w) ∙ ap (λ (x : List (Option Message)). at x g.main) here) ∙
          ap (sends g b (j ++ e ∷ []) g.main) (sym (one_more j e))));
      holds = subst (λ (x : ℕ). Holds g b (j ++ e ∷ []) x queues') (sym (one_more j e))
          (holds_more g b (j ++ e ∷ []) (length j) queues queues' k.holds (subst (λ (x : List (Option Message)). Added g.nodes x queues queues') here a));
      at_cursor = k.at_cursor;
    })
      where
        here : row_of ms' ≡ row g b (j ++ e ∷ []) (suc (length j))
        here = row_after (row_of ms') r

    -- a node has no message there
    pub stops : (j' : List Event) (a : ℕ) → length j < limit → j' ≡ j ++ e ∷ [] → IsLeastNone g (row_to g b (row_of ms) e (length g.nodes)) a
        → CameNext g b script limit j' × IsLeastNone g (row g b j' (length j')) a
    stops j' a l q over = subst (λ (x : List Event). CameNext g b script limit x × IsLeastNone g (row g b x (length x)) a) (sym q) (
      came-more g b script j limit e k.came (keeps_there k) l n,
      subst (λ (x : ℕ). IsLeastNone g (row g b (j ++ e ∷ []) x) a) (sym (one_more j e))
          (subst (λ (x : List (Option Message)). IsLeastNone g x a) (row_after (row_to g b (row_of ms) e (length g.nodes)) refl) over),
    )

-- how many nodes a row has
pub length_after : (g : GraphValue) (b : ℕ) (e : Event) (old new : List Message) → row_of new ≡ row_to g b (row_of old) e (length g.nodes)
    → length new ≡ length g.nodes
length_after g b e old new h = sym (length-map new (λ m. Some m)) ∙ (ap length h ∙ length-row_to g b (row_of old) e (length g.nodes))

-- ---- ends

-- a journal that came event by event, and ends, is the plain one
ends_there : (g : GraphValue) (b : ℕ) (script : List Event) (limit : ℕ) (j : List Event) (end : RunEnd) → j ≡ plain_journal g b script limit
    → EndsWith g b script limit j end → IsEndOf g b script limit end
ends_there g b script limit j end q h = subst (λ (x : List Event). EndsWith g b script limit x end) q h

pub ends_stopped : (g : GraphValue) (b : ℕ) (script : List Event) (limit : ℕ) (j : List Event) (journal : Spared Event) (node position : ℕ)
    → CameNext g b script limit j → IsLeastNone g (row g b j (length j)) node → journal.items ≡ j → position ≡ length j
    → IsEndOf g b script limit (Stopped journal node position)
ends_stopped g b script limit j journal node position c h i p =
    ends_there g b script limit j (Stopped journal node position) (plain-here g b script j limit c (inr (grown-over g b script j node h))) (i, p, h)

module _ {g : GraphValue} {b : ℕ} {script : List Event} {limit : ℕ} {j : List Event} {ms : List Message} {queues : List (List Value)} {outputs : List Message}
    {cursor : ℕ} (k : Keeps g b script limit j j ms queues outputs cursor) (h : History) (default : val g b [] g.main 0 ≡ Some h.default)
    (journal : h.journal.items ≡ j) (sent : h.outputs.items ≡ outputs) where
  tells : IsHistory g b j h
  tells = record { journal = journal; default = default_same g b j [] g.main ∙ default; outputs = sent ∙ k.sent }

  pub ends_complete : next g b script j ≡ None → IsEndOf g b script limit (Complete h)
  ends_complete n =
      ends_there g b script limit j (Complete h) (plain-here g b script j limit k.came (inr (grown-none g b script j n))) (tells, keeps_there k, n)

  pub ends_full : (e : Event) → length j ≡ limit → next g b script j ≡ Some e → IsEndOf g b script limit (Full h)
  ends_full e l n = ends_there g b script limit j (Full h) (plain-here g b script j limit k.came (inl l)) (tells, keeps_there k, l, (e, n))

message_none : (m : Option Message) → value_at m ≡ None → m ≡ None
message_none None h = refl
message_none (Some m) h = absurd (none-some (value_of m) (sym h))

-- a node without a default
pub ends_at_once : (g : GraphValue) (b : ℕ) (script : List Event) (limit : ℕ) (journal : Spared Event) (node : ℕ) → node < length g.nodes → val g b [] node 0 ≡ None
    → ((k : ℕ) → k < node → IsThere (val g b [] k 0)) → journal.items ≡ [] → IsEndOf g b script limit (Stopped journal node 0)
unfolding val msg
ends_at_once g b script limit journal node l h before i =
    ends_stopped g b script limit [] journal node 0 (λ n e s. absurd (none-some e s))
    (l, message_none (msg g b [] node 0) h, λ a w. message_there (msg g b [] a 0) (before a w)) i refl
