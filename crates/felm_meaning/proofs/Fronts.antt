-- Which messages are there, and what the changes, the events and the messages of a node are over a front.
use Rattle.std.proofs.Common.{◌≡◌, ℕ, suc, zero, ◌+◌, ◌-◌, ◌<◌, ◌≤◌, ◌⊎◌, inl, inr, Bool, true, false, cond, eqb, Option, Some, None, List, [], ◌∷◌, ◌++◌, length, map, refl, sym, ap, ◌∙◌, subst, arith, add-zero}
use Rattle.std.specs.List.{slice_get}
use Rattle.std.specs.Option.{option_map}
use Rattle.std.proofs.lemmas.Grind.{common_steps}
use Rattle.std.proofs.lemmas.Option.{slice_get_within, none-some}
use Rattle.std.proofs.lemmas.Bool.{cases_eq}
use Rattle.std.proofs.lemmas.List.{append-nil, append_assoc, length-append}
use Rattle.std.proofs.lemmas.List.Sums.{sum_by-append}
use Rattle.felm_term.specs.Values.{value_of}
use Rattle.felm_term.specs.declared.value.Value.{Value}
use Rattle.felm_term.specs.declared.message.Message.{Message}
use Rattle.felm_term.specs.declared.message.Message.TheVariants.{Change, NoChange}
use Rattle.felm_term.specs.declared.event.Event.{Event}
use Rattle.felm_graph.specs.GraphValue.{GraphValue}
use Rattle.felm_graph.specs.Nodes.{is_source, arguments_of}
use Rattle.felm_meaning.specs.declared.job.Job.{Job}
use Rattle.felm_meaning.specs.Nodes.{job_of}
use Rattle.felm_meaning.specs.Step.{step}
use Rattle.felm_meaning.specs.Meaning.{all_of, source_message, turn_message, msg, val, IsThere, changed_in, changes, sends}
use Rattle.felm_meaning.specs.Journals.{entered}
use Rattle.felm_meaning.proofs.Graphs.{IsOrdered}
use Rattle.felm_meaning.proofs.Rows.{slice_get-append_left, item_within, msg-prefix, msg-source, msg-inner, there_within}

-- ---- parts

value_there : (m : Option Message) → IsThere m → IsThere (option_map value_of m)
value_there None h = absurd (none-some h.0 h.1)
value_there (Some m) h = (value_of m, refl)

pub message_there : (m : Option Message) → IsThere (option_map value_of m) → IsThere m
message_there None h = absurd (none-some h.0 h.1)
message_there (Some m) h = (m, refl)

source_keeps : (k : ℕ) (e : Event) (old : Option Value) → IsThere old → IsThere (source_message k e old)
source_keeps k e None h = absurd (none-some h.0 h.1)
source_keeps k e (Some v) h =
    elim (eqb e.source k) as (λ t. IsThere (cond t (Some (Change e.value)) (Some (NoChange v)))) [ true ↦ (Change e.value, refl) | false ↦ (NoChange v, refl) ]

turn_had : (w : Option Job) (budget : ℕ) (old : Option Value) (ms : Option (List Message)) → IsThere (turn_message w budget old ms) → IsThere old
turn_had None budget old ms h = absurd (none-some h.0 h.1)
turn_had (Some w) budget None ms h = absurd (none-some h.0 h.1)
turn_had (Some w) budget (Some v) ms h = (v, refl)

-- all parts are there, and are these
pub all_of-some : {X : Type 0} (parts : List (Option X)) (xs : List X) → length parts ≡ length xs
    → ((port : ℕ) (o : Option X) → slice_get parts port ≡ Some o → o ≡ slice_get xs port) → all_of parts ≡ Some xs
all_of-some [] [] l h = refl
all_of-some [] (x ∷ xs) l h = absurd (omega arith)
all_of-some (o ∷ parts) [] l h = absurd (omega arith)
all_of-some {X} (o ∷ parts) (x ∷ xs) l h =
    let e : o ≡ Some x = h 0 o refl in
    let ih : all_of parts ≡ Some xs = all_of-some parts xs (omega arith) (λ port p q. h (suc port) p q) in
    rw (e, ih) refl

module _ (g : GraphValue) (budget : ℕ) where
  -- ---- messages that are there

  -- a turn's message is the step over the node's value and its arguments' messages
  pub msg-step : (j : List Event) (k p : ℕ) (w : Job) (old : Value) (ms : List Message) → IsOrdered g.nodes → k < length g.nodes → is_source g.nodes k ≡ false
      → p < length j → job_of g.nodes k ≡ Some w → val g budget j k p ≡ Some old
      → all_of (map (λ a. msg g budget j a (suc p)) (arguments_of g.nodes k)) ≡ Some ms → msg g budget j k (suc p) ≡ step w old ms budget
  msg-step j k p w old ms ok h s l jb o m =
      let e = item_within j p l in
      msg-inner g budget j k p e.0 ok h s e.1 ∙ (
      ap (λ (x : Option Job). turn_message x budget (val g budget j k p) (all_of (map (λ a. msg g budget j a (suc p)) (arguments_of g.nodes k)))) jb ∙ (
      ap (λ (x : Option Value). turn_message (Some w) budget x (all_of (map (λ a. msg g budget j a (suc p)) (arguments_of g.nodes k)))) o ∙
      ap (λ (x : Option (List Message)). turn_message (Some w) budget (Some old) x) m))

  -- a source that has a default has a message at every event
  pub source_there : (j : List Event) (k p : ℕ) → IsOrdered g.nodes → k < length g.nodes → is_source g.nodes k ≡ true → IsThere (msg g budget j k 0) → p ≤ length j
      → IsThere (msg g budget j k p)
  unfolding val
  source_there j k zero ok h s d l = d
  source_there j k (suc p) ok h s d l =
      let e = item_within j p (omega arith) in
      subst IsThere (sym (msg-source g budget j k p e.0 ok h s e.1))
      (source_keeps k e.0 (val g budget j k p) (value_there (msg g budget j k p) (source_there j k p ok h s d (omega arith))))

  -- where the default is there and a message isn't, no later one of the node is
  pub there_before : (j : List Event) (k p : ℕ) → IsOrdered g.nodes → k < length g.nodes → IsThere (msg g budget j k 0) → IsThere (msg g budget j k (suc p))
      → IsThere (msg g budget j k p)
  unfolding val
  there_before j k p ok h d t =
      let l : suc p ≤ length j = there_within g budget j k (suc p) t in
      let e = item_within j p (omega arith) in
      go e.0 e.1 (is_source g.nodes k) refl
    where
      go : (e : Event) → slice_get j p ≡ Some e → (c : Bool) → is_source g.nodes k ≡ c → IsThere (msg g budget j k p)
      go e q true s = let l : suc p ≤ length j = there_within g budget j k (suc p) t in source_there j k p ok h s d (omega arith)
      go e q false s =
          message_there (msg g budget j k p)
          (turn_had (job_of g.nodes k) budget (val g budget j k p) (all_of (map (λ a. msg g budget j a (suc p)) (arguments_of g.nodes k)))
          (subst IsThere (msg-inner g budget j k p e ok h s q) t))

  pub there_upto : (j : List Event) (k q p : ℕ) → IsOrdered g.nodes → k < length g.nodes → IsThere (msg g budget j k 0) → p ≤ q → IsThere (msg g budget j k q)
      → IsThere (msg g budget j k p)
  there_upto j k zero p ok h d l t = let e : zero ≡ p = omega arith in subst (λ (x : ℕ). IsThere (msg g budget j k x)) e t
  there_upto j k (suc q) p ok h d l t = go (cases_eq (suc q) p) (λ l'. there_upto j k q p ok h d l' (there_before j k q ok h d t))
    where
      go : (suc q ≡ p) ⊎ (suc q ≡ p → ⊥) → (p ≤ q → IsThere (msg g budget j k p)) → IsThere (msg g budget j k p)
      go (inl e) ih = subst (λ (x : ℕ). IsThere (msg g budget j k x)) e t
      go (inr n) ih = ih (omega arith)

  -- ---- changes

  pub changes-prefix : (j more : List Event) (k p : ℕ) → p ≤ length j → changes g budget (j ++ more) k p ≡ changes g budget j k p
  unfolding changes
  changes-prefix j more k zero h = refl
  changes-prefix j more k (suc p) h =
      let ih : changes g budget (j ++ more) k p ≡ changes g budget j k p = changes-prefix j more k p (omega arith) in
      let e : msg g budget (j ++ more) k (suc p) ≡ msg g budget j k (suc p) = msg-prefix g budget j more k (suc p) h in
      rw (ih, e) refl

  changes-more : (j : List Event) (k p n : ℕ) → (rest : List Value) × (changes g budget j k (p + n) ≡ changes g budget j k p ++ rest)
  unfolding changes
  changes-more j k p zero = ([], rw (add-zero) (sym (append-nil (changes g budget j k p))))
  changes-more j k p (suc n) =
      let ih = changes-more j k p n in
      let e : p + suc n ≡ suc (p + n) = omega arith in
      (ih.0 ++ changed_in (msg g budget j k (suc (p + n))), rw (e, ih.1) (append_assoc (changes g budget j k p) ih.0 (changed_in (msg g budget j k (suc (p + n))))))

  -- later positions have these changes, and others after them
  pub changes-upto : (j : List Event) (k p q : ℕ) → p ≤ q → (rest : List Value) × (changes g budget j k q ≡ changes g budget j k p ++ rest)
  changes-upto j k p q h =
      let r = changes-more j k p (q - p) in
      let e : p + (q - p) ≡ q = omega arith in
      (r.0, subst (λ (x : ℕ). changes g budget j k x ≡ changes g budget j k p ++ r.0) e r.1)

  pub changes-later : (j : List Event) (k p q i : ℕ) (v : Value) → p ≤ q → slice_get (changes g budget j k p) i ≡ Some v → slice_get (changes g budget j k q) i ≡ Some v
  changes-later j k p q i v h s =
      let r = changes-upto j k p q h in
      ap (λ (xs : List Value). slice_get xs i) r.1 ∙ (slice_get-append_left (changes g budget j k p) r.0 i (slice_get_within (changes g budget j k p) i v s) ∙ s)

  pub changes-grow : (j : List Event) (k p q : ℕ) → p ≤ q → length (changes g budget j k p) ≤ length (changes g budget j k q)
  changes-grow j k p q h =
      let r = changes-upto j k p q h in
      let e : length (changes g budget j k q) ≡ length (changes g budget j k p ++ r.0) = ap length r.1 in
      omega (arith, simp length-append at e)

  -- ---- messages sent

  pub sends-prefix : (j more : List Event) (k w : ℕ) → w ≤ length j → sends g budget (j ++ more) k w ≡ sends g budget j k w
  unfolding sends
  sends-prefix j more k zero h = refl
  sends-prefix j more k (suc w) h =
      let ih : sends g budget (j ++ more) k w ≡ sends g budget j k w = sends-prefix j more k w (omega arith) in
      let e : msg g budget (j ++ more) k (suc w) ≡ msg g budget j k (suc w) = msg-prefix g budget j more k (suc w) h in
      rw (ih, e) refl

-- ---- events of a source

pub entered-append : (j more : List Event) (a : ℕ) → entered (j ++ more) a ≡ entered j a + entered more a
unfolding entered
entered-append j more a = sum_by-append (λ e. cond (eqb e.source a) 1 0) j more

pub entered-own : (a : ℕ) (v : Value) → entered (record { source = a; value = v } ∷ []) a ≡ 1
unfolding entered
entered-own a v = grind (arith, common_steps)

pub entered-other : (k : ℕ) (v : Value) (a : ℕ) → (k ≡ a → ⊥) → entered (record { source = k; value = v } ∷ []) a ≡ 0
unfolding entered
entered-other k v a h = grind (arith, common_steps)
