-- A node sends a change only at an event of a source whose number is not above its own.
use Rattle.std.proofs.Common.{◌≡◌, ℕ, suc, zero, ◌<◌, ◌≤◌, ◌⊎◌, inl, inr, Bool, true, false, cond, eqb, Option, Some, None, List, [], ◌∷◌, map, length, refl, sym, ap, ◌∙◌, arith}
use Rattle.std.specs.List.{slice_get, list_any}
use Rattle.std.specs.Option.{option_map, option_and_then}
use Rattle.std.proofs.lemmas.Grind.{common_steps}
use Rattle.std.proofs.lemmas.Option.{none-some, same_Some}
use Rattle.std.proofs.lemmas.Bool.{cases_eq, false≢true}
use Rattle.felm_term.specs.Values.{value_of}
use Rattle.felm_term.specs.declared.value.Value.{Value}
use Rattle.felm_term.specs.declared.message.Message.{Message}
use Rattle.felm_term.specs.declared.message.Message.TheVariants.{Change, NoChange}
use Rattle.felm_term.specs.declared.event.Event.{Event}
use Rattle.felm_graph.specs.GraphValue.{GraphValue}
use Rattle.felm_graph.specs.Nodes.{is_source, arguments_of}
use Rattle.felm_meaning.specs.declared.job.Job.{Job}
use Rattle.felm_meaning.specs.declared.job.Job.TheVariants as job
use Rattle.felm_meaning.specs.Step.{step, is_change, change_of, call_value}
use Rattle.felm_meaning.specs.Nodes.{job_of}
use Rattle.felm_meaning.specs.Meaning.{all_of, source_message, turn_message, msg, val}
use Rattle.felm_meaning.proofs.Graphs.{IsOrdered}
use Rattle.felm_meaning.proofs.Rows.{msg-source, msg-inner}

-- what is kept isn't a change
kept : (old v : Value) → Some (NoChange old) ≡ Some (Change v) → ⊥
kept old v h = false≢true (ap is_change (same_Some (NoChange old) (Change v) h))

-- a turn that sends a change has one among its arguments' messages
step_change : (w : Job) (old v : Value) (ms : List Message) (b : ℕ) → step w old ms b ≡ Some (Change v) → list_any is_change ms ≡ true
unfolding step
step_change (job.Lift f) old v ms b h = go (list_any is_change ms) refl h
  where
    go : (t : Bool) → list_any is_change ms ≡ t → cond t (change_of (call_value f (map value_of ms) b)) (Some (NoChange old)) ≡ Some (Change v)
        → list_any is_change ms ≡ true
    go true e q = e
    go false e q = absurd (kept old v q)
step_change (job.Foldp f) old v [] b h = absurd (none-some (Change v) h)
step_change (job.Foldp f) old v (Change u ∷ []) b h = refl
step_change (job.Foldp f) old v (NoChange u ∷ []) b h = absurd (kept old v h)
step_change (job.Foldp f) old v (Change u ∷ m ∷ ms) b h = absurd (none-some (Change v) h)
step_change (job.Foldp f) old v (NoChange u ∷ m ∷ ms) b h = absurd (none-some (Change v) h)

turn_change : (w : Option Job) (b : ℕ) (old : Option Value) (ms : Option (List Message)) (v : Value) → turn_message w b old ms ≡ Some (Change v)
    → (ns : List Message) × (ms ≡ Some ns) × (list_any is_change ns ≡ true)
turn_change None b old ms v h = absurd (none-some (Change v) h)
turn_change (Some w) b None ms v h = absurd (none-some (Change v) h)
turn_change (Some w) b (Some old) None v h = absurd (none-some (Change v) h)
turn_change (Some w) b (Some old) (Some ns) v h = (ns, refl, step_change w old v ns b h)

-- a part that is a change, where all are there and one of them is
pub HasChange : (ℕ → Option Message) → List ℕ → Type 0
HasChange part places = (port : ℕ) × (a : ℕ) × (v : Value) × (slice_get places port ≡ Some a) × (part a ≡ Some (Change v))

part_changes : (part : ℕ → Option Message) (places : List ℕ) (ns : List Message) → all_of (map part places) ≡ Some ns → list_any is_change ns ≡ true → HasChange part places
unfolding HasChange
part_changes part [] ns h c = absurd (false≢true (ap (list_any is_change) (same_Some [] ns h) ∙ c))
part_changes part (a ∷ places) ns h c = go (part a) refl (all_of (map part places)) refl h (part_changes part places)
  where
    go : (o : Option Message) → part a ≡ o → (rest : Option (List Message)) → all_of (map part places) ≡ rest
        → option_and_then (λ first. option_map (λ more. first ∷ more) rest) o ≡ Some ns
        → ((ms : List Message) → all_of (map part places) ≡ Some ms → list_any is_change ms ≡ true
        → (port : ℕ) × (x : ℕ) × (v : Value) × (slice_get places port ≡ Some x) × (part x ≡ Some (Change v)))
        → (port : ℕ) × (x : ℕ) × (v : Value) × (slice_get (a ∷ places) port ≡ Some x) × (part x ≡ Some (Change v))
    go None e rest f q ih = absurd (none-some ns q)
    go (Some m) e None f q ih = absurd (none-some ns q)
    go (Some (Change v)) e (Some ms) f q ih = (0, a, v, refl, e)
    go (Some (NoChange v)) e (Some ms) f q ih =
        let r = ih ms f (ap (list_any is_change) (same_Some (NoChange v ∷ ms) ns q) ∙ c) in
        (suc r.0, r.1, r.2, r.3, r.4)

source_change : (k : ℕ) (e : Event) (old : Option Value) (v : Value) → source_message k e old ≡ Some (Change v) → e.source ≤ k
source_change k e old v h = go (cases_eq e.source k)
  where
    other : (o : Option Value) → option_map (λ u. NoChange u) o ≡ Some (Change v) → ⊥
    other None q = none-some (Change v) q
    other (Some u) q = kept u v q

    go : (e.source ≡ k) ⊎ (e.source ≡ k → ⊥) → e.source ≤ k
    go (inl q) = omega arith
    go (inr q) =
        let t : eqb e.source k ≡ false = grind (arith, common_steps) in
        absurd (other old (sym (ap (λ (c : Bool). cond c (Some (Change e.value)) (option_map (λ u. NoChange u) old)) t) ∙ h))

module _ (g : GraphValue) (b : ℕ) (j : List Event) (ordered : IsOrdered g.nodes) (p : ℕ) (e : Event) (event : slice_get j p ≡ Some e) where
  change_below : (n k : ℕ) (v : Value) → k < n → k < length g.nodes → msg g b j k (suc p) ≡ Some (Change v) → e.source ≤ k
  unfolding HasChange
  change_below zero k v l w h = absurd (omega arith)
  change_below (suc n) k v l w h = go (is_source g.nodes k) refl (change_below n)
    where
      go : (t : Bool) → is_source g.nodes k ≡ t → ((a : ℕ) (u : Value) → a < n → a < length g.nodes → msg g b j a (suc p) ≡ Some (Change u) → e.source ≤ a)
          → e.source ≤ k
      go true s ih = source_change k e (val g b j k p) v (sym (msg-source g b j k p e ordered w s event) ∙ h)
      go false s ih =
          let x = turn_change (job_of g.nodes k) b (val g b j k p) (all_of (map (λ a. msg g b j a (suc p)) (arguments_of g.nodes k))) v
          (sym (msg-inner g b j k p e ordered w s event) ∙ h) in
          let y = part_changes (λ a. msg g b j a (suc p)) (arguments_of g.nodes k) x.0 x.1 x.2 in
          let d : y.1 < k = ordered.down k y.0 y.1 y.3 in
          let r : e.source ≤ y.1 = ih y.1 y.2 (omega arith) (omega arith) y.4 in
          omega arith

  pub changes_after : (k : ℕ) (v : Value) → k < length g.nodes → msg g b j k (suc p) ≡ Some (Change v) → e.source ≤ k
  changes_after k v l h = change_below (suc k) k v (omega arith) l h
