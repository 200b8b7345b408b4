-- The rows of the meaning: their lengths, each message by those of its arguments, and fronts of a journal.
use Rattle.std.proofs.Common.{◌≡◌, ℕ, suc, zero, ◌<◌, ◌≤◌, ◌⊎◌, inl, inr, Bool, true, false, cond, Option, Some, None, List, [], ◌∷◌, ◌++◌, length, map, take, drop, refl, sym, ap, ◌∙◌, arith}
use Rattle.std.specs.List.{slice_get}
use Rattle.std.specs.Option.{option_and_then}
use Rattle.std.proofs.lemmas.Option.{slice_get_past, none-some}
use Rattle.std.proofs.lemmas.Bool.{cases_eq, cases_lt}
use Rattle.std.proofs.lemmas.List.{get_or_push, get_or_append_left, length-append, length-map}
use Rattle.felm_term.specs.declared.message.Message.{Message}
use Rattle.felm_term.specs.declared.event.Event.{Event}
use Rattle.felm_graph.specs.declared.node.Node.{Node}
use Rattle.felm_graph.specs.GraphValue.{GraphValue}
use Rattle.felm_graph.specs.Nodes.{is_source, arguments_of}
use Rattle.felm_meaning.specs.Nodes.{job_of}
use Rattle.felm_meaning.specs.Meaning.{all_of, at, default_by, defaults_to, no_change_of, value_at, source_message, turn_message, message_of, row_to, next_row, row, msg, val, IsThere}
use Rattle.felm_meaning.proofs.Graphs.{IsOrdered}

-- ---- lists

pub slice_get-append_left : {X : Type 0} (xs ys : List X) (i : ℕ) → i < length xs → slice_get (xs ++ ys) i ≡ slice_get xs i
slice_get-append_left [] ys i h = absurd (omega arith)
slice_get-append_left (x ∷ xs) ys zero h = refl
slice_get-append_left (x ∷ xs) ys (suc i) h = slice_get-append_left xs ys i (omega arith)

pub slice_get_last : {X : Type 0} (xs : List X) (x : X) → slice_get (xs ++ x ∷ []) (length xs) ≡ Some x
slice_get_last [] x = refl
slice_get_last (y ∷ ys) x = slice_get_last ys x

-- there is an item at each place within a list
pub item_within : {X : Type 0} (xs : List X) (p : ℕ) → p < length xs → (x : X) × (slice_get xs p ≡ Some x)
item_within [] p h = absurd (omega arith)
item_within (x ∷ xs) zero h = (x, refl)
item_within (x ∷ xs) (suc p) h = item_within xs p (omega arith)

pub map_same : {X : Type 0} (f h : ℕ → X) (places : List ℕ) → ((port a : ℕ) → slice_get places port ≡ Some a → f a ≡ h a) → map f places ≡ map h places
map_same f h [] e = refl
map_same f h (a ∷ places) e =
    let x : f a ≡ h a = e 0 a refl in
    let ih : map f places ≡ map h places = map_same f h places (λ port b q. e (suc port) b q) in
    rw (x, ih) refl

pub take_front : {X : Type 0} (xs ys : List X) (n : ℕ) → n ≤ length xs → take n (xs ++ ys) ≡ take n xs
take_front xs ys zero h = refl
take_front [] ys (suc n) h = absurd (omega arith)
take_front (x ∷ xs) ys (suc n) h = ap (λ zs. x ∷ zs) (take_front xs ys n (omega arith))

pub take_whole : {X : Type 0} (xs : List X) → take (length xs) xs ≡ xs
take_whole [] = refl
take_whole (x ∷ xs) = ap (λ zs. x ∷ zs) (take_whole xs)

pub take_all : {X : Type 0} (xs : List X) (n : ℕ) → length xs ≤ n → take n xs ≡ xs
take_all [] zero h = refl
take_all [] (suc n) h = refl
take_all (x ∷ xs) zero h = absurd (omega arith)
take_all (x ∷ xs) (suc n) h = ap (λ zs. x ∷ zs) (take_all xs n (omega arith))

take-drop : {X : Type 0} (xs : List X) (n : ℕ) → take n xs ++ drop n xs ≡ xs
take-drop xs zero = refl
take-drop [] (suc n) = refl
take-drop (x ∷ xs) (suc n) = ap (λ zs. x ∷ zs) (take-drop xs n)

length-take : {X : Type 0} (xs : List X) (n : ℕ) → n ≤ length xs → length (take n xs) ≡ n
length-take xs zero h = refl
length-take [] (suc n) h = absurd (omega arith)
length-take (x ∷ xs) (suc n) h = ap suc (length-take xs n (omega arith))

-- ---- rows after an event

-- the budget is the graph's in all of these
module _ (g : GraphValue) (budget : ℕ) where
  pub length-row_to : (old : List (Option Message)) (e : Event) (n : ℕ) → length (row_to g budget old e n) ≡ n
  unfolding row_to
  length-row_to old e zero = refl
  length-row_to old e (suc n) = grind (arith, length-append, length-row_to old e n)

  row_to-more : (old : List (Option Message)) (e : Event) (n k : ℕ) → k < n → at (row_to g budget old e (suc n)) k ≡ at (row_to g budget old e n) k
  unfolding row_to
  row_to-more old e n k h =
      let l : length (row_to g budget old e n) ≡ n = length-row_to old e n in get_or_append_left (row_to g budget old e n) _ None k (omega arith)

  row_to-last : (old : List (Option Message)) (e : Event) (n : ℕ) → at (row_to g budget old e (suc n)) n ≡ message_of g budget old e (row_to g budget old e n) n
  unfolding row_to
  row_to-last old e n = get_or_push (row_to g budget old e n) _ None n (length-row_to old e n)

  -- a message is that of the row as far as the node
  pub row_to-upto : (old : List (Option Message)) (e : Event) (n k : ℕ) → k < n → at (row_to g budget old e n) k ≡ at (row_to g budget old e (suc k)) k
  row_to-upto old e zero k h = absurd (omega arith)
  row_to-upto old e (suc n) k h = go (cases_eq n k) (row_to-upto old e n k)
    where
      go : (n ≡ k) ⊎ (n ≡ k → ⊥) → (k < n → at (row_to g budget old e n) k ≡ at (row_to g budget old e (suc k)) k)
          → at (row_to g budget old e (suc n)) k ≡ at (row_to g budget old e (suc k)) k
      go (inl q) ih = ap (λ (x : ℕ). at (row_to g budget old e (suc x)) k) q
      go (inr q) ih = let l : k < n = omega arith in row_to-more old e n k l ∙ ih l

  -- ---- defaults

  pub length-defaults_to : (n : ℕ) → length (defaults_to g budget n) ≡ n
  unfolding defaults_to
  length-defaults_to zero = refl
  length-defaults_to (suc n) = grind (arith, length-append, length-defaults_to n)

  defaults_to-more : (n k : ℕ) → k < n → at (defaults_to g budget (suc n)) k ≡ at (defaults_to g budget n) k
  unfolding defaults_to
  defaults_to-more n k h =
      let l : length (defaults_to g budget n) ≡ n = length-defaults_to n in get_or_append_left (defaults_to g budget n) _ None k (omega arith)

  pub defaults_to-last : (n : ℕ) → at (defaults_to g budget (suc n)) n
      ≡ option_and_then (λ (node : Node). default_by g.inputs budget (at (defaults_to g budget n)) node.kind) (slice_get g.nodes n)
  unfolding defaults_to
  defaults_to-last n = get_or_push (defaults_to g budget n) _ None n (length-defaults_to n)

  pub defaults_to-upto : (n k : ℕ) → k < n → at (defaults_to g budget n) k ≡ at (defaults_to g budget (suc k)) k
  defaults_to-upto zero k h = absurd (omega arith)
  defaults_to-upto (suc n) k h = go (cases_eq n k) (defaults_to-upto n k)
    where
      go : (n ≡ k) ⊎ (n ≡ k → ⊥) → (k < n → at (defaults_to g budget n) k ≡ at (defaults_to g budget (suc k)) k)
          → at (defaults_to g budget (suc n)) k ≡ at (defaults_to g budget (suc k)) k
      go (inl q) ih = ap (λ (x : ℕ). at (defaults_to g budget (suc x)) k) q
      go (inr q) ih = let l : k < n = omega arith in defaults_to-more n k l ∙ ih l

  -- ---- rows of a journal

  pub length-row : (j : List Event) (p : ℕ) → p ≤ length j → length (row g budget j p) ≡ length g.nodes
  unfolding row
  length-row j zero h = length-map (defaults_to g budget (length g.nodes)) no_change_of ∙ length-defaults_to (length g.nodes)
  length-row j (suc p) h =
      let e = item_within j p (omega arith) in
      ap (λ (o : Option Event). length (next_row g budget (row g budget j p) o)) e.1 ∙ length-row_to (row g budget j p) e.0 (length g.nodes)

  -- what a row has at smaller nodes, its front has
  front_same : (old : List (Option Message)) (e : Event) (n k : ℕ) (arguments : List ℕ) → k ≤ n
      → ((port a : ℕ) → slice_get arguments port ≡ Some a → a < k) → map (at (row_to g budget old e n)) arguments ≡ map (at (row_to g budget old e k)) arguments
  front_same old e n k arguments h below =
      map_same (at (row_to g budget old e n)) (at (row_to g budget old e k)) arguments (λ port a q.
      let l : a < k = below port a q in
      let m : a < n = omega arith in
      row_to-upto old e n a m ∙ sym (row_to-upto old e k a l))

  -- the message of a node in a whole row, by the messages of its arguments there
  message_in_row : (old : List (Option Message)) (e : Event) (k : ℕ) → IsOrdered g.nodes → k < length g.nodes
      → at (row_to g budget old e (length g.nodes)) k ≡ message_of g budget old e (row_to g budget old e (length g.nodes)) k
  unfolding message_of
  message_in_row old e k ok h =
      let l : k ≤ length g.nodes = omega arith in
      row_to-upto old e (length g.nodes) k h ∙ (row_to-last old e k ∙
      ap (λ (ms : List (Option Message)). cond (is_source g.nodes k) (source_message k e (value_at (at old k)))
      (turn_message (job_of g.nodes k) budget (value_at (at old k)) (all_of ms)))
      (sym (front_same old e (length g.nodes) k (arguments_of g.nodes k) l (ok.down k))))

  -- the row after an event of the journal, and past its end
  pub row-event : (j : List Event) (p : ℕ) (e : Event) → slice_get j p ≡ Some e → row g budget j (suc p) ≡ row_to g budget (row g budget j p) e (length g.nodes)
  unfolding row
  row-event j p e h = ap (next_row g budget (row g budget j p)) h

  row-past : (j : List Event) (p : ℕ) → length j ≤ p → row g budget j (suc p) ≡ []
  unfolding row
  row-past j p h = ap (next_row g budget (row g budget j p)) (slice_get_past j p h)

  -- a message that is there is at a position of the journal
  pub there_within : (j : List Event) (k p : ℕ) → IsThere (msg g budget j k p) → p ≤ length j
  unfolding msg
  there_within j k zero h = omega arith
  there_within j k (suc p) h = go (cases_lt p (length j))
    where
      go : (p < length j) ⊎ (length j ≤ p) → suc p ≤ length j
      go (inl l) = omega arith
      go (inr l) =
          let f : msg g budget j k (suc p) ≡ None = ap (λ (r : List (Option Message)). at r k) (row-past j p l) in absurd (none-some h.0 (sym f ∙ h.1))

  -- ---- fronts of a journal

  pub row-prefix : (j more : List Event) (p : ℕ) → p ≤ length j → row g budget (j ++ more) p ≡ row g budget j p
  unfolding row
  row-prefix j more zero h = refl
  row-prefix j more (suc p) h =
      let l : p ≤ length j = omega arith in
      let ih : row g budget (j ++ more) p ≡ row g budget j p = row-prefix j more p l in
      let e : slice_get (j ++ more) p ≡ slice_get j p = slice_get-append_left j more p (omega arith) in
      rw (ih, e) refl

  pub msg-prefix : (j more : List Event) (k p : ℕ) → p ≤ length j → msg g budget (j ++ more) k p ≡ msg g budget j k p
  unfolding msg
  msg-prefix j more k p h = ap (λ (r : List (Option Message)). at r k) (row-prefix j more p h)

  -- over the first q events
  pub msg-take : (j : List Event) (k p q : ℕ) → p ≤ q → msg g budget j k p ≡ msg g budget (take q j) k p
  msg-take j k p q h = go (cases_lt q (length j))
    where
      go : (q < length j) ⊎ (length j ≤ q) → msg g budget j k p ≡ msg g budget (take q j) k p
      go (inl l) =
          let n : length (take q j) ≡ q = length-take j q (omega arith) in
          ap (λ (i : List Event). msg g budget i k p) (sym (take-drop j q)) ∙ msg-prefix (take q j) (drop q j) k p (omega arith)
      go (inr l) = ap (λ (i : List Event). msg g budget i k p) (sym (take_all j q l))

  -- ---- the message of a node after an event, by its arguments' messages

  msg-event : (j : List Event) (k p : ℕ) (e : Event) → IsOrdered g.nodes → k < length g.nodes → slice_get j p ≡ Some e
      → msg g budget j k (suc p) ≡ message_of g budget (row g budget j p) e (row g budget j (suc p)) k
  unfolding msg
  msg-event j k p e ok h q =
      let r : row g budget j (suc p) ≡ row_to g budget (row g budget j p) e (length g.nodes) = row-event j p e q in
      rw r (message_in_row (row g budget j p) e k ok h)

  pub msg-source : (j : List Event) (k p : ℕ) (e : Event) → IsOrdered g.nodes → k < length g.nodes → is_source g.nodes k ≡ true → slice_get j p ≡ Some e
      → msg g budget j k (suc p) ≡ source_message k e (val g budget j k p)
  unfolding msg val message_of
  msg-source j k p e ok h s q =
      msg-event j k p e ok h q ∙
      ap (λ (t : Bool). cond t (source_message k e (value_at (at (row g budget j p) k)))
      (turn_message (job_of g.nodes k) budget (value_at (at (row g budget j p) k)) (all_of (map (at (row g budget j (suc p))) (arguments_of g.nodes k))))) s

  pub msg-inner : (j : List Event) (k p : ℕ) (e : Event) → IsOrdered g.nodes → k < length g.nodes → is_source g.nodes k ≡ false → slice_get j p ≡ Some e
      → msg g budget j k (suc p) ≡ turn_message (job_of g.nodes k) budget (val g budget j k p) (all_of (map (λ a. msg g budget j a (suc p)) (arguments_of g.nodes k)))
  unfolding msg val message_of
  msg-inner j k p e ok h s q =
      msg-event j k p e ok h q ∙
      ap (λ (t : Bool). cond t (source_message k e (value_at (at (row g budget j p) k)))
      (turn_message (job_of g.nodes k) budget (value_at (at (row g budget j p) k)) (all_of (map (at (row g budget j (suc p))) (arguments_of g.nodes k))))) s
