-- What the end of a run says of its journal, and that a plan has one end.
use Rattle.std.proofs.Common.{◌≡◌, ℕ, suc, zero, ◌+◌, ◌<◌, ◌≤◌, ◌⊎◌, inl, inr, Option, Some, None, List, [], ◌∷◌, ◌++◌, length, take, refl, sym, ap, ◌∙◌, subst, arith}
use Rattle.std.proofs.lemmas.Option.{none-some, same_Some, slice_get_within, slice_get-get_or}
use Rattle.std.proofs.lemmas.Bool.{cases_lt}
use Rattle.std.proofs.lemmas.List.{length-append}
use Rattle.felm_term.specs.Spared.{Spared}
use Rattle.felm_term.specs.Values.{value_of}
use Rattle.felm_term.specs.declared.message.Message.{Message}
use Rattle.felm_term.specs.declared.event.Event.{Event}
use Rattle.felm_graph.specs.GraphValue.{GraphValue}
use Rattle.felm_graph.specs.Graphs.{IsGraph}
use Rattle.felm_graph.specs.Nodes.{arguments_of}
use Rattle.felm_meaning.specs.declared.history.History.{History}
use Rattle.felm_meaning.specs.declared.history.RunEnd.{RunEnd}
use Rattle.felm_meaning.specs.declared.history.RunEnd.TheVariants.{Complete, Stopped, Full}
use Rattle.felm_meaning.specs.Meaning.{at, value_at, row, msg, val, IsThere}
use Rattle.felm_meaning.specs.Journals.{inputs_in, IsLegal, IsComplete, NamesInputs, AllThere, IsLeastNone, next, plain_journal}
use Rattle.felm_meaning.specs.Words.{CameNext, IsNext}
use Rattle.felm_meaning.specs.Ends.{IsOver, IsStopped, IsUnfinished, IsFull}
use Rattle.felm_meaning.proofs.Graphs.{ordered}
use Rattle.felm_meaning.proofs.Rows.{item_within, msg-take}
use Rattle.felm_meaning.proofs.Fronts.{there_upto}
use Rattle.felm_meaning.proofs.Legal.{next-is, legal-next}
use Rattle.felm_meaning.proofs.Plain.{plain-is, plain-legal}
use Rattle.felm_meaning.proofs.Causes.{completed}
use Rattle.felm_plain.specs.Ends.{IsHistory, EndsWith, IsEndOf}
use Rattle.felm_plain.specs.Laws.{SameHistory, SameEnd, IsExact}

value_there : (m : Option Message) → IsThere m → IsThere (value_at m)
value_there None h = absurd (none-some h.0 h.1)
value_there (Some m) h = (value_of m, refl)

length-take : {X : Type 0} (xs : List X) (n : ℕ) → n ≤ length xs → length (take n xs) ≡ n
length-take xs zero h = refl
length-take [] (suc n) h = absurd (omega arith)
length-take (x ∷ xs) (suc n) h = ap suc (length-take xs n (omega arith))

-- ---- one end

one_history : (g : GraphValue) (b : ℕ) (j : List Event) (left right : History) → IsHistory g b j left → IsHistory g b j right → SameHistory left right
one_history g b j left right h i = record {
  default = same_Some left.default right.default (sym h.default ∙ i.default);
  journal = h.journal ∙ sym i.journal;
  outputs = h.outputs ∙ sym i.outputs;
}

-- the least node without a message
one_least : (g : GraphValue) (r : List (Option Message)) (k l : ℕ) → IsLeastNone g r k → IsLeastNone g r l → k ≡ l
one_least g r k l h i = go (cases_lt k l) (cases_lt l k)
  where
    go : (k < l) ⊎ (l ≤ k) → (l < k) ⊎ (k ≤ l) → k ≡ l
    go (inl w) c = let t = i.2 k w in absurd (none-some t.0 (sym h.1 ∙ t.1))
    go (inr w) (inl v) = let t = h.2 l v in absurd (none-some t.0 (sym i.1 ∙ t.1))
    go (inr w) (inr v) = omega arith

module _ (g : GraphValue) (b : ℕ) (j : List Event) where
  -- where every message is there, none isn't
  whole_is_no_stop : (k : ℕ) → AllThere g b j → IsLeastNone g (row g b j (length j)) k → ⊥
  unfolding msg
  whole_is_no_stop k h i = let t = h k i.0 in none-some t.0 (sym i.1 ∙ t.1)

  module _ (script : List Event) (limit : ℕ) where
    pub ends_once : (left right : RunEnd) → EndsWith g b script limit j left → EndsWith g b script limit j right → SameEnd left right
    ends_once (Complete left) (Complete right) h i = one_history g b j left right h.0 i.0
    ends_once (Complete left) (Stopped journal node position) h i = whole_is_no_stop node h.1 i.2
    ends_once (Complete left) (Full right) h i = none-some i.3.0 (sym h.2 ∙ i.3.1)
    ends_once (Stopped journal node position) (Complete right) h i = whole_is_no_stop node i.1 h.2
    ends_once (Stopped left node position) (Stopped right k p) h i =
        (h.0 ∙ sym i.0, one_least g (row g b j (length j)) node k h.2 i.2, h.1 ∙ sym i.1)
    ends_once (Stopped journal node position) (Full right) h i = whole_is_no_stop node i.1 h.2
    ends_once (Full left) (Complete right) h i = none-some h.3.0 (sym i.2 ∙ h.3.1)
    ends_once (Full left) (Stopped journal node position) h i = whole_is_no_stop node h.1 i.2
    ends_once (Full left) (Full right) h i = one_history g b j left right h.0 i.0

    pub ends_exact : (end : RunEnd) → EndsWith g b script limit j end → IsExact g b script limit j end
    ends_exact (Complete h) w = record {
      complete = λ a n. (h, refl);
      stopped = λ k l. absurd (whole_is_no_stop k w.1 l);
      full = λ e a l n. absurd (none-some e (sym w.2 ∙ n));
    }
    ends_exact (Stopped journal node position) w = record {
      complete = λ a n. absurd (whole_is_no_stop node a w.2);
      stopped = λ k l.
          (journal, ap (λ (x : ℕ). Stopped journal x position) (one_least g (row g b j (length j)) node k w.2 l) ∙ ap (Stopped journal k) w.1);
      full = λ e a l n. absurd (whole_is_no_stop node a w.2);
    }
    ends_exact (Full h) w = record {
      complete = λ a n. absurd (none-some w.3.0 (sym n ∙ w.3.1));
      stopped = λ k l. absurd (whole_is_no_stop k w.1 l);
      full = λ e a l n. (h, refl);
    }

-- ---- what an end says

-- the defaults are there where a first event came next, or where every message of an empty journal is there
pub defaults_there : (g : GraphValue) (b : ℕ) (script : List Event) (limit : ℕ) (j : List Event) → CameNext g b script limit j → AllThere g b j → (k : ℕ)
    → k < length g.nodes → IsThere (msg g b j k 0)
unfolding msg row
defaults_there g b script limit [] c h k l = h k l
defaults_there g b script limit (e ∷ es) c h k l = (c 0 e refl).0 k l

module _ (g : GraphValue) (b : ℕ) (script : List Event) (limit : ℕ) (j : List Event) (graph : IsGraph g) (legal : IsLegal g b script j)
    (came : CameNext g b script limit j) where
  ends_complete : (h : History) → EndsWith g b script limit j (Complete h) → IsComplete g b script j
  ends_complete h w = completed g b script j (ordered g graph) legal w.1 (defaults_there g b script limit j came w.1) w.2

  over_at : (node : ℕ) → IsLeastNone g (row g b j (length j)) node → (n : ℕ) → length j ≡ n → IsOver g b j node n
  unfolding val msg
  over_at node h zero e =
      let r : IsLeastNone g (row g b j 0) node = subst (λ (n : ℕ). IsLeastNone g (row g b j n) node) e h in
      record { node = h.0; none = ap value_at r.1; least = λ a l. value_there (at (row g b j 0) a) (r.2 a l) }
  over_at node h (suc n) e =
      let r : IsLeastNone g (row g b j (suc n)) node = subst (λ (m : ℕ). IsLeastNone g (row g b j m) node) e h in
      let within : n < length j = omega arith in
      let last = item_within j n within in
      let front : IsThere (at (row g b (take n j) (length (take n j))) node) = (came n last.0 last.1).0 node h.0 in
      let size : length (take n j) ≡ n = length-take j n (omega arith) in
      record {
        node = h.0;
        within = within;
        arguments = λ a c.
            r.2 a ((ordered g graph).down node c.0 a (slice_get-get_or (arguments_of g.nodes node) c.0 a c.1 ∙ ap (λ x. Some x) c.2));
        kept = value_there (at (row g b j n) node)
            (subst IsThere (sym (msg-take g b j node n n (omega arith)))
            (subst (λ (m : ℕ). IsThere (at (row g b (take n j) m) node)) size front));
        none = r.1;
      }

  ends_stopped : (journal : Spared Event) (node position : ℕ) → EndsWith g b script limit j (Stopped journal node position) → IsStopped g b script j node position
  ends_stopped journal node position w = record { legal = legal; over = subst (IsOver g b j node) (sym w.1) (over_at node w.2 (length j) refl) }

  unfinished : (e : Event) → next g b script j ≡ Some e → IsUnfinished g b script j
  unfinished e n = go (subst (IsNext g b script j) n (next-is g b script j))
    where
      go : IsNext g b script j (Some e) → IsUnfinished g b script j
      go (inl w) = inr (e.source, (w.0, w.1, slice_get_within _ _ e.value w.2))
      go (inr w) = inl (slice_get_within script (length (inputs_in g j)) e w.1)

  ends_full : (h : History) → EndsWith g b script limit j (Full h) → IsFull g b script limit j
  ends_full h w = record {
    legal = legal;
    length_is = w.2;
    there = λ k p l m. there_upto g b j k (length j) p (ordered g graph) l (defaults_there g b script limit j came w.1 k l) m (w.1 k l);
    unfinished = unfinished w.3.0 w.3.1;
  }

module _ (g : GraphValue) (b : ℕ) (script : List Event) (limit : ℕ) (graph : IsGraph g) (named : NamesInputs g.nodes script) where
  pub complete_is_complete : (h : History) → IsEndOf g b script limit (Complete h) → IsComplete g b script h.journal.items
  complete_is_complete h w =
      subst (IsComplete g b script) (sym w.0.journal)
      (ends_complete g b script limit (plain_journal g b script limit) graph (plain-legal g b script limit named) (plain-is g b script limit).steps h w)

  pub stopped_is_stopped : (journal : Spared Event) (node position : ℕ) → IsEndOf g b script limit (Stopped journal node position)
      → IsStopped g b script journal.items node position
  stopped_is_stopped journal node position w =
      subst (λ (j : List Event). IsStopped g b script j node position) (sym w.0)
      (ends_stopped g b script limit (plain_journal g b script limit) graph (plain-legal g b script limit named) (plain-is g b script limit).steps journal node position w)

  pub full_is_full : (h : History) → IsEndOf g b script limit (Full h) → IsFull g b script limit h.journal.items
  full_is_full h w =
      subst (IsFull g b script limit) (sym w.0.journal)
      (ends_full g b script limit (plain_journal g b script limit) graph (plain-legal g b script limit named) (plain-is g b script limit).steps h w)

-- within a limit that no legal journal exceeds
pub completes : (g : GraphValue) (b : ℕ) (script : List Event) (limit : ℕ) (end : RunEnd) → NamesInputs g.nodes script
    → AllThere g b (plain_journal g b script limit) → ((j : List Event) → IsLegal g b script j → length j ≤ limit) → IsEndOf g b script limit end
    → (h : History) × (end ≡ Complete h)
completes g b script limit (Complete h) named all most w = (h, refl)
completes g b script limit (Stopped journal node position) named all most w = absurd (whole_is_no_stop g b (plain_journal g b script limit) node all w.2)
completes g b script limit (Full h) named all most w =
    let j = plain_journal g b script limit in
    let more : length (j ++ w.3.0 ∷ []) ≤ limit = most (j ++ w.3.0 ∷ []) (legal-next g b script j w.3.0 named (plain-legal g b script limit named) w.3.1) in
    let one : length (j ++ w.3.0 ∷ []) ≡ length j + 1 = length-append j (w.3.0 ∷ []) in
    let same : length j ≡ limit = w.2 in
    absurd (omega arith)
