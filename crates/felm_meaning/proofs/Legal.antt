-- What comes next after a journal, and that it keeps a journal legal.
use Rattle.std.proofs.Common.{◌≡◌, ℕ, suc, zero, ◌+◌, ◌<◌, ◌≤◌, ◌⊎◌, inl, inr, Bool, true, false, cond, Option, Some, None, List, [], ◌∷◌, ◌++◌, length, take, refl, sym, ap, ◌∙◌, subst, arith, append_assoc}
use Rattle.std.specs.List.{slice_get, filter}
use Rattle.std.specs.Option.{option_or}
use Rattle.std.specs.Option.{option_map_or, option_and_then}
use Rattle.std.proofs.lemmas.Option.{none-some, same_Some, slice_get_within}
use Rattle.std.proofs.lemmas.Bool.{cases_eq, cases_lt, false≢true}
use Rattle.std.proofs.lemmas.List.{length-append, append-nil}
use Rattle.std.proofs.lemmas.List.Elements.{filter-append}
use Rattle.felm_term.specs.declared.value.Value.{Value}
use Rattle.felm_term.specs.declared.event.Event.{Event}
use Rattle.felm_graph.specs.declared.node.Node.{Node}
use Rattle.felm_graph.specs.declared.node.NodeKind.{NodeKind}
use Rattle.felm_graph.specs.declared.node.NodeKind.TheVariants as kind
use Rattle.felm_graph.specs.GraphValue.{GraphValue}
use Rattle.felm_graph.specs.Nodes.{is_source_kind, is_source}
use Rattle.felm_meaning.specs.Nodes.{is_input_kind, is_input, inner_of_kind, inner}
use Rattle.felm_meaning.specs.Meaning.{changes}
use Rattle.felm_meaning.specs.Journals.{inputs_in, entered, IsCaused, IsLegal, NamesInputs, waiting, event_at, first_waiting, next}
use Rattle.felm_meaning.specs.Words.{IsWaiting, NoneWaits, IsNext}
use Rattle.felm_meaning.proofs.Rows.{slice_get-append_left, slice_get_last, take_front, take_whole, item_within}
use Rattle.felm_meaning.proofs.Fronts.{changes-prefix}

-- ---- kinds of source

kind_is_source : (k : NodeKind) (x : ℕ) → inner_of_kind k ≡ Some x → (is_source_kind k ≡ true) × (is_input_kind k ≡ false)
kind_is_source (kind.Input number) x h = absurd (none-some x h)
kind_is_source (kind.Lift f arguments) x h = absurd (none-some x h)
kind_is_source (kind.Foldp f base argument) x h = absurd (none-some x h)
kind_is_source (kind.Async argument) x h = (refl, refl)

-- an async is a source, and no input
pub async_is_source : (nodes : List Node) (k x : ℕ) → inner nodes k ≡ Some x → (is_source nodes k ≡ true) × (is_input nodes k ≡ false)
async_is_source nodes k x h = go (slice_get nodes k) h
  where
    go : (o : Option Node) → option_and_then (λ n. inner_of_kind n.kind) o ≡ Some x
        → (option_map_or (λ (n : Node). is_source_kind n.kind) o false ≡ true) × (option_map_or (λ (n : Node). is_input_kind n.kind) o false ≡ false)
    go None e = absurd (none-some x e)
    go (Some n) e = kind_is_source n.kind x e

kind_is_input : (k : NodeKind) → is_input_kind k ≡ true → (is_source_kind k ≡ true) × (inner_of_kind k ≡ None)
kind_is_input (kind.Input number) h = (refl, refl)
kind_is_input (kind.Lift f arguments) h = absurd (false≢true h)
kind_is_input (kind.Foldp f base argument) h = absurd (false≢true h)
kind_is_input (kind.Async argument) h = absurd (false≢true h)

-- an input is a source, and has no inner signal
pub input_is_source : (nodes : List Node) (k : ℕ) → is_input nodes k ≡ true → (is_source nodes k ≡ true) × (inner nodes k ≡ None)
input_is_source nodes k h = go (slice_get nodes k) h
  where
    go : (o : Option Node) → option_map_or (λ n. is_input_kind n.kind) o false ≡ true
        → (option_map_or (λ (n : Node). is_source_kind n.kind) o false ≡ true) × (option_and_then (λ (n : Node). inner_of_kind n.kind) o ≡ None)
    go None e = absurd (false≢true e)
    go (Some n) e = kind_is_input n.kind e

kind_is_one : (k : NodeKind) → is_source_kind k ≡ true → (is_input_kind k ≡ true) ⊎ ((x : ℕ) × (inner_of_kind k ≡ Some x))
kind_is_one (kind.Input number) h = inl refl
kind_is_one (kind.Lift f arguments) h = absurd (false≢true h)
kind_is_one (kind.Foldp f base argument) h = absurd (false≢true h)
kind_is_one (kind.Async argument) h = inr (argument, refl)

-- a source is an input or an async
pub source_is_one : (nodes : List Node) (k : ℕ) → is_source nodes k ≡ true → (is_input nodes k ≡ true) ⊎ ((x : ℕ) × (inner nodes k ≡ Some x))
source_is_one nodes k h = go (slice_get nodes k) h
  where
    go : (o : Option Node) → option_map_or (λ n. is_source_kind n.kind) o false ≡ true
        → (option_map_or (λ (n : Node). is_input_kind n.kind) o false ≡ true) ⊎ ((x : ℕ) × (option_and_then (λ (n : Node). inner_of_kind n.kind) o ≡ Some x))
    go None e = absurd (false≢true e)
    go (Some n) e = kind_is_one n.kind e

pub source_within : (nodes : List Node) (k : ℕ) → is_source nodes k ≡ true → k < length nodes
source_within nodes k h = go (slice_get nodes k) refl h
  where
    go : (o : Option Node) → slice_get nodes k ≡ o → option_map_or (λ n. is_source_kind n.kind) o false ≡ true → k < length nodes
    go None q e = absurd (false≢true e)
    go (Some n) q e = slice_get_within nodes k n q

-- ---- the input events with one more event

pub inputs-other : (g : GraphValue) (j : List Event) (e : Event) → is_input g.nodes e.source ≡ false → inputs_in g (j ++ e ∷ []) ≡ inputs_in g j
unfolding inputs_in
inputs-other g j e h =
    filter-append (λ x. is_input g.nodes x.source) j (e ∷ []) ∙
    (ap (λ (t : Bool). filter (λ x. is_input g.nodes x.source) j ++ cond t (e ∷ []) []) h ∙ append-nil _)

pub inputs-more : (g : GraphValue) (j : List Event) (e : Event) → is_input g.nodes e.source ≡ true → inputs_in g (j ++ e ∷ []) ≡ inputs_in g j ++ e ∷ []
unfolding inputs_in
inputs-more g j e h =
    filter-append (λ x. is_input g.nodes x.source) j (e ∷ []) ∙ ap (λ (t : Bool). filter (λ x. is_input g.nodes x.source) j ++ cond t (e ∷ []) []) h

-- a list's item and what comes after it
split_at : {X : Type 0} (xs ys : List X) (x : X) → slice_get (xs ++ ys) (length xs) ≡ Some x → (rest : List X) × (ys ≡ x ∷ rest)
split_at [] [] x h = absurd (none-some x h)
split_at [] (y ∷ ys) x h = (ys, ap (λ (z : _). z ∷ ys) (same_Some y x h))
split_at (z ∷ zs) ys x h = split_at zs ys x h

none_past : {X : Type 0} (xs : List X) (n : ℕ) → slice_get xs n ≡ None → length xs ≤ n
none_past [] n h = omega arith
none_past (x ∷ xs) zero h = absurd (none-some x (sym h))
none_past (x ∷ xs) (suc n) h = let l : length xs ≤ n = none_past xs n h in omega arith

module _ (g : GraphValue) (budget : ℕ) where
  -- ---- what comes next, in other words

  waiting-some : (j : List Event) (a : ℕ) (v : Value) → waiting g budget j a ≡ Some v
      → (x : ℕ) × (inner g.nodes a ≡ Some x) × (slice_get (changes g budget j x (length j)) (entered j a) ≡ Some v)
  unfolding waiting
  waiting-some j a v h = go (inner g.nodes a) h
    where
      go : (o : Option ℕ) → option_and_then (λ x. slice_get (changes g budget j x (length j)) (entered j a)) o ≡ Some v
          → (x : ℕ) × (o ≡ Some x) × (slice_get (changes g budget j x (length j)) (entered j a) ≡ Some v)
      go None e = absurd (none-some v e)
      go (Some x) e = (x, refl, e)

  waiting-none : (j : List Event) (a : ℕ) → waiting g budget j a ≡ None → IsWaiting g budget j a → ⊥
  unfolding waiting
  waiting-none j a h (x, q, l) =
      let e = item_within (changes g budget j x (length j)) (entered j a) l in
      none-some e.0 (sym (sym (ap (λ (o : Option ℕ). option_and_then (λ y. slice_get (changes g budget j y (length j)) (entered j a)) o) q) ∙ h) ∙ e.1)

  first_waiting-none : (j : List Event) (n : ℕ) → first_waiting g budget j n ≡ None → NoneWaits g budget j n
  unfolding first_waiting
  first_waiting-none j zero h = λ a l w. absurd (omega arith)
  first_waiting-none j (suc n) h = go (first_waiting g budget j n) (waiting g budget j n) refl refl h (first_waiting-none j n)
    where
      go : (o : Option Event) (v : Option Value) → first_waiting g budget j n ≡ o → waiting g budget j n ≡ v → option_or o (event_at n v) ≡ None
          → (first_waiting g budget j n ≡ None → NoneWaits g budget j n) → NoneWaits g budget j (suc n)
      go (Some d) v p q r ih = absurd (none-some d (sym r))
      go None (Some v) p q r ih = absurd (none-some _ (sym r))
      go None None p q r ih = λ a l w. at_one a l w (cases_eq a n)
        where
          at_one : (a : ℕ) → a < suc n → IsWaiting g budget j a → (a ≡ n) ⊎ (a ≡ n → ⊥) → ⊥
          at_one a l w (inl s) = waiting-none j n q (subst (λ (x : ℕ). IsWaiting g budget j x) s w)
          at_one a l w (inr s) = ih p a (omega arith) w

  -- an async's first change without an event, where no smaller async waits
  first_waiting-some : (j : List Event) (n : ℕ) (e : Event) → first_waiting g budget j n ≡ Some e
      → (waiting g budget j e.source ≡ Some e.value) × NoneWaits g budget j e.source
  unfolding first_waiting
  first_waiting-some j zero e h = absurd (none-some e h)
  first_waiting-some j (suc n) e h = go (first_waiting g budget j n) (waiting g budget j n) refl refl h (first_waiting-some j n e)
    where
      go : (o : Option Event) (v : Option Value) → first_waiting g budget j n ≡ o → waiting g budget j n ≡ v → option_or o (event_at n v) ≡ Some e
          → (first_waiting g budget j n ≡ Some e → (waiting g budget j e.source ≡ Some e.value) × NoneWaits g budget j e.source)
          → (waiting g budget j e.source ≡ Some e.value) × NoneWaits g budget j e.source
      go (Some d) v p q r ih = ih (p ∙ r)
      go None None p q r ih = absurd (none-some e r)
      go None (Some v) p q r ih =
          let d : record { source = n; value = v } ≡ e = same_Some _ e r in
          let s : n ≡ e.source = ap (λ (x : Event). x.source) d in
          let u : v ≡ e.value = ap (λ (x : Event). x.value) d in (
            subst (λ (x : ℕ). waiting g budget j x ≡ Some e.value) s (q ∙ ap (λ (x : Value). Some x) u),
            subst (λ (x : ℕ). NoneWaits g budget j x) s (first_waiting-none j n p),
          )

  pub next-is : (script j : List Event) → IsNext g budget script j (next g budget script j)
  unfolding next
  next-is script j = go (first_waiting g budget j (length g.nodes)) refl (slice_get script (length (inputs_in g j))) refl
    where
      go : (o : Option Event) → first_waiting g budget j (length g.nodes) ≡ o → (s : Option Event) → slice_get script (length (inputs_in g j)) ≡ s
          → IsNext g budget script j (option_or o s)
      go (Some e) p s q =
          let f = first_waiting-some j (length g.nodes) e p in
          let w = waiting-some j e.source e.value f.0 in
          inl (w.0, w.1, w.2, f.1)
      go None p None q = (first_waiting-none j (length g.nodes) p, none_past script (length (inputs_in g j)) q)
      go None p (Some e) q = inr (first_waiting-none j (length g.nodes) p, q)

  -- ---- longer journals stay legal

  pub legal-nothing : (script : List Event) → IsLegal g budget script []
  unfolding inputs_in
  legal-nothing script = record {
    sources = λ p e h. absurd (none-some e h);
    scripted = (script, refl);
    caused = λ p e x h q. absurd (none-some e h);
  }

  -- an event that is caused by what came before it
  pub caused-more : (j : List Event) (e : Event) → IsCaused g budget j
      → ((x : ℕ) → inner g.nodes e.source ≡ Some x → slice_get (changes g budget j x (length j)) (entered j e.source) ≡ Some e.value)
      → IsCaused g budget (j ++ e ∷ [])
  caused-more j e c h = λ p d x q r. go p d x q r (cases_lt p (length j)) (cases_eq p (length j))
    where
      go : (p : ℕ) (d : Event) (x : ℕ) → slice_get (j ++ e ∷ []) p ≡ Some d → inner g.nodes d.source ≡ Some x
          → (p < length j) ⊎ (length j ≤ p) → (p ≡ length j) ⊎ (p ≡ length j → ⊥)
          → slice_get (changes g budget (j ++ e ∷ []) x p) (entered (take p (j ++ e ∷ [])) d.source) ≡ Some d.value
      go p d x q r (inl l) z =
          let w : p ≤ length j = omega arith in
          rw (changes-prefix g budget j (e ∷ []) x p w, take_front j (e ∷ []) p w) (c p d x (sym (slice_get-append_left j (e ∷ []) p l) ∙ q) r)
      go p d x q r (inr l) (inl z) =
          let w : length j ≤ length j = omega arith in
          let s : Some e ≡ Some d = sym (slice_get_last j e) ∙ (ap (slice_get (j ++ e ∷ [])) (sym z) ∙ q) in
          let s' : e ≡ d = same_Some e d s in
          rw (z, changes-prefix g budget j (e ∷ []) x (length j) w, take_front j (e ∷ []) (length j) w, take_whole j)
          (subst (λ (y : Event). slice_get (changes g budget j x (length j)) (entered j y.source) ≡ Some y.value) s'
          (h x (ap (λ (y : Event). inner g.nodes y.source) s' ∙ r)))
      go p d x q r (inr l) (inr z) =
          let w : p < length (j ++ e ∷ []) = slice_get_within (j ++ e ∷ []) p d q in
          let n : length (j ++ e ∷ []) ≡ length j + 1 = length-append j (e ∷ []) in
          absurd (omega arith)

  sources-more : (j : List Event) (e : Event) → ((p : ℕ) (d : Event) → slice_get j p ≡ Some d → is_source g.nodes d.source ≡ true)
      → is_source g.nodes e.source ≡ true → (p : ℕ) (d : Event) → slice_get (j ++ e ∷ []) p ≡ Some d → is_source g.nodes d.source ≡ true
  sources-more [] e h s zero d q = subst (λ (x : Event). is_source g.nodes x.source ≡ true) (same_Some e d q) s
  sources-more [] e h s (suc p) d q = absurd (none-some d q)
  sources-more (x ∷ xs) e h s zero d q = h zero d q
  sources-more (x ∷ xs) e h s (suc p) d q = sources-more xs e (λ p' d' q'. h (suc p') d' q') s p d q

  -- with the first change of an inner signal that has no event yet
  pub legal-async : (script j : List Event) (e : Event) (x : ℕ) → IsLegal g budget script j → inner g.nodes e.source ≡ Some x
      → slice_get (changes g budget j x (length j)) (entered j e.source) ≡ Some e.value → IsLegal g budget script (j ++ e ∷ [])
  legal-async script j e x ok q h =
      let s = async_is_source g.nodes e.source x q in
      record {
        sources = sources-more j e ok.sources s.0;
        scripted = (ok.scripted.0, ok.scripted.1 ∙ ap (λ (xs : List Event). xs ++ ok.scripted.0) (sym (inputs-other g j e s.1)));
        caused = caused-more j e ok.caused
            (λ y r. subst (λ (z : ℕ). slice_get (changes g budget j z (length j)) (entered j e.source) ≡ Some e.value) (same_Some x y (sym q ∙ r)) h);
      }

  -- with the next event of the script
  pub legal-input : (script j : List Event) (e : Event) → IsLegal g budget script j → is_input g.nodes e.source ≡ true
      → slice_get script (length (inputs_in g j)) ≡ Some e → IsLegal g budget script (j ++ e ∷ [])
  legal-input script j e ok q h =
      let s = input_is_source g.nodes e.source q in
      let r = split_at (inputs_in g j) ok.scripted.0 e (ap (λ (xs : List Event). slice_get xs (length (inputs_in g j))) (sym ok.scripted.1) ∙ h) in
      record {
        sources = sources-more j e ok.sources s.0;
        scripted = (
          r.0,
          ok.scripted.1 ∙ (ap (λ (xs : List Event). inputs_in g j ++ xs) r.1 ∙
              (sym (append_assoc (inputs_in g j) (e ∷ []) r.0) ∙ ap (λ (xs : List Event). xs ++ r.0) (sym (inputs-more g j e q)))),
        );
        caused = caused-more j e ok.caused (λ y t. absurd (none-some y (sym s.1 ∙ t)));
      }

  pub legal-next : (script j : List Event) (e : Event) → NamesInputs g.nodes script → IsLegal g budget script j → next g budget script j ≡ Some e
      → IsLegal g budget script (j ++ e ∷ [])
  legal-next script j e named ok h = go (subst (IsNext g budget script j) h (next-is script j))
    where
      go : IsNext g budget script j (Some e) → IsLegal g budget script (j ++ e ∷ [])
      go (inl w) = legal-async script j e w.0 ok w.1 w.2
      go (inr w) = legal-input script j e ok (named (length (inputs_in g j)) e w.1) w.1
