-- Causes: at a position by its number among the changes, and at an earlier position.
use Rattle.std.proofs.Common.{◌≡◌, ℕ, suc, zero, ◌+◌, ◌<◌, ◌≤◌, ◌⊎◌, inl, inr, Bool, true, cond, Option, Some, None, List, [], ◌∷◌, ◌++◌, length, take, refl, sym, ap, ◌∙◌, subst, arith}
use Rattle.std.specs.List.{slice_get}
use Rattle.std.proofs.lemmas.Grind.{common_steps}
use Rattle.std.proofs.lemmas.Option.{none-some, same_Some, slice_get_within, slice_get_past}
use Rattle.std.proofs.lemmas.Bool.{cases_eq, cases_lt}
use Rattle.std.proofs.lemmas.List.{length-append, append-nil}
use Rattle.std.specs.Option.{option_or}
use Rattle.felm_term.specs.declared.value.Value.{Value}
use Rattle.felm_term.specs.declared.message.Message.{Message}
use Rattle.felm_term.specs.declared.message.Message.TheVariants.{Change, NoChange}
use Rattle.felm_term.specs.declared.event.Event.{Event}
use Rattle.felm_graph.specs.GraphValue.{GraphValue}
use Rattle.felm_meaning.specs.Nodes.{is_input, inner}
use Rattle.felm_meaning.specs.Meaning.{msg, changes, changed_in, IsThere}
use Rattle.felm_meaning.specs.Journals.{IsCaused, IsLegal, IsComplete, AllThere, inputs_in, entered, first_waiting, next}
use Rattle.felm_meaning.specs.Words.{IsEventAfter, IsChangeAfter, HasCauses, NoneWaits, IsNext}
use Rattle.felm_meaning.proofs.Graphs.{IsOrdered}
use Rattle.felm_meaning.proofs.Rows.{slice_get-append_left, slice_get_last, item_within, take_whole}
use Rattle.felm_meaning.proofs.Fronts.{changes-later, changes-grow, there_upto, entered-append}
use Rattle.felm_meaning.proofs.Legal.{next-is, async_is_source, source_is_one, source_within}
use Rattle.felm_meaning.proofs.Plain.{take-more}

-- an item after a front
slice_get-append_right : {X : Type 0} (xs ys : List X) (i : ℕ) (x : X) → length xs ≤ i → slice_get (xs ++ ys) i ≡ Some x
    → (n : ℕ) × (i ≡ length xs + n) × (slice_get ys n ≡ Some x)
slice_get-append_right [] ys i x l h = (i, omega arith, h)
slice_get-append_right (z ∷ zs) ys zero x l h = absurd (omega arith)
slice_get-append_right (z ∷ zs) ys (suc i) x l h =
    let r = slice_get-append_right zs ys i x (omega arith) h in
    let e : i ≡ length zs + r.0 = r.1 in
    (r.0, omega arith, r.2)

entered_one : (e : Event) (a : ℕ) → ((entered (e ∷ []) a ≡ 1) × (e.source ≡ a)) ⊎ (entered (e ∷ []) a ≡ 0)
unfolding entered
entered_one e a = go (cases_eq e.source a)
  where
    go : (e.source ≡ a) ⊎ (e.source ≡ a → ⊥) → ((entered (e ∷ []) a ≡ 1) × (e.source ≡ a)) ⊎ (entered (e ∷ []) a ≡ 0)
    go (inl s) = inl (grind (arith, common_steps), s)
    go (inr s) = inr (grind (arith, common_steps))

module _ (g : GraphValue) (budget : ℕ) where
  -- where the change after i others came
  pub change_position : (j : List Event) (k i p : ℕ) (v : Value) → slice_get (changes g budget j k p) i ≡ Some v
      → (q : ℕ) × (q ≤ p) × IsChangeAfter g budget j k i q v
  unfolding changes
  change_position j k i zero v h = absurd (none-some v h)
  change_position j k i (suc p) v h = go (cases_lt i (length (changes g budget j k p))) (change_position j k i p v)
    where
      here : (m : Option Message) → msg g budget j k (suc p) ≡ m → (n : ℕ) → slice_get (changed_in m) n ≡ Some v → i ≡ length (changes g budget j k p) + n
          → (q : ℕ) × (q ≤ suc p) × IsChangeAfter g budget j k i q v
      here None e n s l = absurd (none-some v s)
      here (Some (NoChange w)) e n s l = absurd (none-some v s)
      here (Some (Change w)) e zero s l = (suc p, omega arith, (e ∙ ap (λ (x : Value). Some (Change x)) (same_Some w v s), omega arith))
      here (Some (Change w)) e (suc n) s l = absurd (none-some v s)

      go : (i < length (changes g budget j k p)) ⊎ (length (changes g budget j k p) ≤ i)
          → (slice_get (changes g budget j k p) i ≡ Some v → (q : ℕ) × (q ≤ p) × IsChangeAfter g budget j k i q v)
          → (q : ℕ) × (q ≤ suc p) × IsChangeAfter g budget j k i q v
      go (inl l) ih =
          let r = ih (sym (slice_get-append_left (changes g budget j k p) (changed_in (msg g budget j k (suc p))) i l) ∙ h) in
          let s : r.0 ≤ p = r.1 in
          (r.0, omega arith, r.2)
      go (inr l) ih =
          let r = slice_get-append_right (changes g budget j k p) (changed_in (msg g budget j k (suc p))) i v l h in
          here (msg g budget j k (suc p)) refl r.0 r.2 r.1

  change_there : (j : List Event) (k i q : ℕ) (v : Value) → IsChangeAfter g budget j k i q v → slice_get (changes g budget j k q) i ≡ Some v
  unfolding changes
  change_there j k i zero v h = absurd h
  change_there j k i (suc q) v h =
      ap (λ (m : Option Message). slice_get (changes g budget j k q ++ changed_in m) i) h.0 ∙
      (ap (slice_get (changes g budget j k q ++ v ∷ [])) (sym h.1) ∙ slice_get_last (changes g budget j k q) v)

  -- each async's event has its cause at an earlier position
  pub causes : (j : List Event) → IsCaused g budget j → HasCauses g budget j
  causes j c = λ a x i p v q h. go a x i p v q h
    where
      go : (a x i p : ℕ) (v : Value) → inner g.nodes a ≡ Some x → IsEventAfter j a i p v → (q : ℕ) × (q < p) × IsChangeAfter g budget j x i q v
      go a x i zero v q h = absurd h
      go a x i (suc p) v q h =
          let s : slice_get (changes g budget j x p) i ≡ Some v =
          ap (slice_get (changes g budget j x p)) (sym h.1) ∙ c p (record { source = a; value = v }) x h.0 q in
          let r = change_position j x i p v s in
          let l : r.0 ≤ p = r.1 in
          (r.0, omega arith, r.2)

  pub caused_by : (j : List Event) → HasCauses g budget j → IsCaused g budget j
  caused_by j c = λ p e x h q.
      let i = entered (take p j) e.source in
      let r = c e.source x i (suc p) e.value q (h, refl) in
      let l : r.0 < suc p = r.1 in
      changes-later g budget j x r.0 p i e.value (omega arith) (change_there j x i r.0 e.value r.2)

  -- an async has at most as many events as its inner signal had changes before them
  pub entered_within : (j : List Event) (a x p : ℕ) → IsCaused g budget j → inner g.nodes a ≡ Some x → p ≤ length j
      → entered (take p j) a ≤ length (changes g budget j x p)
  unfolding entered
  entered_within j a x zero c h l = omega arith
  entered_within j a x (suc p) c h l =
      let e = item_within j p (omega arith) in
      go e.0 e.1 (entered_within j a x p c h (omega arith)) (entered_one e.0 a)
    where
      grow : length (changes g budget j x p) ≤ length (changes g budget j x (suc p))
      grow = changes-grow g budget j x p (suc p) (omega arith)

      more : (e : Event) → slice_get j p ≡ Some e → entered (take (suc p) j) a ≡ entered (take p j) a + entered (e ∷ []) a
      more e q = ap (λ (y : List Event). entered y a) (take-more j p e q) ∙ entered-append (take p j) (e ∷ []) a

      go : (e : Event) → slice_get j p ≡ Some e → entered (take p j) a ≤ length (changes g budget j x p)
          → ((entered (e ∷ []) a ≡ 1) × (e.source ≡ a)) ⊎ (entered (e ∷ []) a ≡ 0) → entered (take (suc p) j) a ≤ length (changes g budget j x (suc p))
      go e q ih (inr z) = omega (arith, more e q, grow)
      go e q ih (inl s) =
          let t : e.source ≡ a = s.1 in
          let o : entered (e ∷ []) a ≡ 1 = s.0 in
          let w : slice_get (changes g budget j x p) (entered (take p j) e.source) ≡ Some e.value = c p e x q (ap (inner g.nodes) t ∙ h) in
          let b : entered (take p j) e.source < length (changes g budget j x p) =
          slice_get_within (changes g budget j x p) (entered (take p j) e.source) e.value w in
          let d : entered (take p j) e.source ≡ entered (take p j) a = ap (entered (take p j)) t in
          omega (arith, more e q, grow)

  -- ---- complete journals

  -- a legal journal with every message and nothing to come is complete
  pub completed : (script j : List Event) → IsOrdered g.nodes → IsLegal g budget script j → AllThere g budget j
      → ((k : ℕ) → k < length g.nodes → IsThere (msg g budget j k 0)) → next g budget script j ≡ None → IsComplete g budget script j
  completed script j ok legal all defaults n = record {
    legal = legal;
    whole = whole legal.scripted.0 legal.scripted.1;
    all_entered = all_entered;
    there = λ k p l m. there_upto g budget j k (length j) p ok l (defaults k l) m (all k l);
  }
    where
      is : NoneWaits g budget j (length g.nodes) × (length script ≤ length (inputs_in g j))
      is = subst (IsNext g budget script j) n (next-is g budget script j)

      whole : (rest : List Event) → script ≡ inputs_in g j ++ rest → inputs_in g j ≡ script
      whole [] e = sym (e ∙ append-nil (inputs_in g j))
      whole (x ∷ xs) e =
          let a : length script ≡ length (inputs_in g j) + length (x ∷ xs) = ap length e ∙ length-append (inputs_in g j) (x ∷ xs) in
          let b : length script ≤ length (inputs_in g j) = is.1 in
          absurd (omega arith)

      all_entered : (a x : ℕ) → inner g.nodes a ≡ Some x → entered j a ≡ length (changes g budget j x (length j))
      all_entered a x q = go (cases_lt (entered j a) (length (changes g budget j x (length j))))
        where
          go : (entered j a < length (changes g budget j x (length j))) ⊎ (length (changes g budget j x (length j)) ≤ entered j a)
              → entered j a ≡ length (changes g budget j x (length j))
          go (inl l) = absurd (is.0 a (source_within g.nodes a (async_is_source g.nodes a x q).0) (x, q, l))
          go (inr l) =
              let b : entered (take (length j) j) a ≤ length (changes g budget j x (length j)) =
              entered_within j a x (length j) legal.caused q (omega arith) in
              let t : entered (take (length j) j) a ≡ entered j a = ap (λ (y : List Event). entered y a) (take_whole j) in
              omega arith

  inputs-all : (j : List Event) → ((p : ℕ) (e : Event) → slice_get j p ≡ Some e → is_input g.nodes e.source ≡ true) → inputs_in g j ≡ j
  unfolding inputs_in
  inputs-all [] h = refl
  inputs-all (e ∷ es) h =
      ap (λ (t : Bool). cond t (e ∷ inputs_in g es) (inputs_in g es)) (h 0 e refl) ∙
      ap (λ (xs : List Event). e ∷ xs) (inputs-all es (λ p d q. h (suc p) d q))

  -- where there is no async, the one complete journal is the script
  pub complete_without_asyncs : (script j : List Event) → ((a x : ℕ) → inner g.nodes a ≡ Some x → ⊥) → IsComplete g budget script j → j ≡ script
  complete_without_asyncs script j none c =
      sym (inputs-all j (λ p e q. go e (source_is_one g.nodes e.source (c.legal.sources p e q)))) ∙ c.whole
    where
      go : (e : Event) → (is_input g.nodes e.source ≡ true) ⊎ ((x : ℕ) × (inner g.nodes e.source ≡ Some x)) → is_input g.nodes e.source ≡ true
      go e (inl h) = h
      go e (inr h) = absurd (none e.source h.0 h.1)

  -- a core position with every turn done, nothing that waits and no event of the script left has a complete journal
  pub concluded : (script j : List Event) (done : ℕ → ℕ) → IsOrdered g.nodes → IsLegal g budget script j
      → ((k q : ℕ) → k < length g.nodes → q ≤ done k → IsThere (msg g budget j k q)) → ((k : ℕ) → k < length g.nodes → length j ≤ done k)
      → first_waiting g budget j (length g.nodes) ≡ None → length script ≤ length (inputs_in g j) → IsComplete g budget script j
  unfolding next
  concluded script j done ok legal sent settled none used =
      completed script j ok legal (λ k l. sent k (length j) l (settled k l)) (λ k l. sent k 0 l (omega arith))
      (ap (λ (o : Option Event). option_or o (slice_get script (length (inputs_in g j)))) none ∙ slice_get_past script (length (inputs_in g j)) used)
