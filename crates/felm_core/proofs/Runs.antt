-- Every move and every run keeps a sound position sound.
use Rattle.std.proofs.Common.{◌≡◌, ℕ, suc, zero, ◌<◌, ◌≤◌, false, Option, Some, None, List, [], ◌∷◌, length, drop, replicate, refl, sym, ◌∙◌, subst, arith}
use Rattle.std.specs.List.{slice_get}
use Rattle.std.specs.Option.{option_map_or}
use Rattle.std.proofs.lemmas.Option.{slice_get_within, none-some, same_Some}
use Rattle.std.proofs.lemmas.Bool.{false≢true}
use Rattle.std.proofs.lemmas.List.{length-replicate}
use Rattle.felm_term.specs.declared.value.Value.{Value}
use Rattle.felm_graph.specs.Graphs.{IsGraph}
use Rattle.felm_meaning.specs.Nodes.{inner}
use Rattle.felm_meaning.specs.Meaning.{msg, changes, IsThere}
use Rattle.felm_meaning.specs.Journals.{entered}
use Rattle.felm_meaning.specs.Laws.{DefaultsThere}
use Rattle.felm_meaning.proofs.Graphs.{ordered}
use Rattle.felm_meaning.proofs.Edges.{default-there}
use Rattle.felm_meaning.proofs.Rows.{there_within}
use Rattle.felm_meaning.proofs.Fronts.{changes-later}
use Rattle.felm_meaning.proofs.Legal.{async_is_source, input_is_source, source_within}
use Rattle.felm_meaning.specs.PlanValue.{PlanValue}
use Rattle.felm_core.specs.Positions.{Position, done_at, is_out, IsSound}
use Rattle.felm_core.specs.Moves.{Move, Feed, Enter, Claim, Send, Stop, Reopen, Leads, Runs, HasPlace, with_next, beginning}
use Rattle.felm_core.specs.Contents.{waiting_at}
use Rattle.felm_core.proofs.Turns.{claim_sound, reopen_sound, sent_sound, stopped_sound}
use Rattle.felm_core.proofs.Events.{next_sound}

pub slice_get-drop : {X : Type 0} (xs : List X) (n : ℕ) → slice_get (drop n xs) 0 ≡ slice_get xs n
slice_get-drop xs zero = refl
slice_get-drop [] (suc n) = refl
slice_get-drop (x ∷ xs) (suc n) = slice_get-drop xs n

module _ (s : PlanValue) (graph : IsGraph s.graph) where
  pub inner_there : (a x : ℕ) → inner s.graph.nodes a ≡ Some x → x < length s.graph.nodes
  inner_there a x h =
      let l : x < a = (ordered s.graph graph).inner_down a x h in
      let m : a < length s.graph.nodes = source_within s.graph.nodes a (async_is_source s.graph.nodes a x h).0 in
      omega arith

  -- the first value that waits is the first change without an event
  pub waits_first : (c : Position) (a : ℕ) (v : Value) → slice_get (waiting_at s c a) 0 ≡ Some v
      → (x : ℕ) × (inner s.graph.nodes a ≡ Some x) × (slice_get (changes s.graph s.budget c.journal x (done_at c.done x)) (entered c.journal a) ≡ Some v)
  unfolding waiting_at
  waits_first c a v h = go (inner s.graph.nodes a) h
    where
      go : (o : Option ℕ) → slice_get (option_map_or (λ x. drop (entered c.journal a) (changes s.graph s.budget c.journal x (done_at c.done x))) o []) 0 ≡ Some v
          → (x : ℕ) × (o ≡ Some x) × (slice_get (changes s.graph s.budget c.journal x (done_at c.done x)) (entered c.journal a) ≡ Some v)
      go None q = absurd (none-some v q)
      go (Some x) q = (x, refl, sym (slice_get-drop (changes s.graph s.budget c.journal x (done_at c.done x)) (entered c.journal a)) ∙ q)

  enter_sound : (c : Position) (a : ℕ) (v : Value) → IsSound s c → HasPlace s c → slice_get (waiting_at s c a) 0 ≡ Some v
      → IsSound s (with_next s c (record { source = a; value = v }))
  enter_sound c a v sound place waits = let w = waits_first c a v waits in by w.0 w.1 w.2
    where
      by : (x : ℕ) → inner s.graph.nodes a ≡ Some x → slice_get (changes s.graph s.budget c.journal x (done_at c.done x)) (entered c.journal a) ≡ Some v
          → IsSound s (with_next s c (record { source = a; value = v }))
      by x h first =
          next_sound s c (record { source = a; value = v }) graph sound place (async_is_source s.graph.nodes a x h).0
          (λ y q. subst (λ (z : ℕ). slice_get (changes s.graph s.budget c.journal z (length c.journal)) (entered c.journal a) ≡ Some v) (one y q) later)
          (λ y q. subst (λ (z : ℕ). suc (entered c.journal a) ≤ length (changes s.graph s.budget c.journal z (done_at c.done z))) (one y q) (omega (arith, inside)))
        where
          one : (y : ℕ) → inner s.graph.nodes a ≡ Some y → x ≡ y
          one y q = same_Some x y (sym h ∙ q)

          inside : entered c.journal a < length (changes s.graph s.budget c.journal x (done_at c.done x))
          inside = slice_get_within (changes s.graph s.budget c.journal x (done_at c.done x)) (entered c.journal a) v first

          later : slice_get (changes s.graph s.budget c.journal x (length c.journal)) (entered c.journal a) ≡ Some v
          later =
              changes-later s.graph s.budget c.journal x (done_at c.done x) (length c.journal) (entered c.journal a) v
              (there_within s.graph s.budget c.journal x (done_at c.done x) (sound.sent x (done_at c.done x) (inner_there a x h) (omega arith))) first

  pub move_sound : (c : Position) (m : Move) (d : Position) → IsSound s c → Leads s c m d → IsSound s d
  move_sound c (Feed k v) d sound (place, input, typed, q) =
      let i = input_is_source s.graph.nodes k input in
      subst (IsSound s) (sym q)
      (next_sound s c (record { source = k; value = v }) graph sound place i.0 (λ x h. absurd (none-some x (sym i.1 ∙ h))) (λ x h. absurd (none-some x (sym i.1 ∙ h))))
  move_sound c (Enter a) d sound (place, e) = subst (IsSound s) (sym e.2) (enter_sound c a e.0 sound place e.1)
  move_sound c (Claim k) d sound h = subst (IsSound s) (sym h.1) (claim_sound s c sound k h.0)
  move_sound c (Send k) d sound h = subst (IsSound s) (sym h.2) (sent_sound s c sound k h.0 h.1)
  move_sound c (Stop k) d sound h = subst (IsSound s) (sym h.2) (stopped_sound s c sound k graph h.0 h.1)
  move_sound c (Reopen k) d sound h = subst (IsSound s) (sym h) (reopen_sound s c sound k)

  pub run_sound : (c : Position) (moves : List Move) (d : Position) → IsSound s c → Runs s c moves d → IsSound s d
  run_sound c [] d sound h = subst (IsSound s) (sym h) sound
  run_sound c (m ∷ more) d sound (between, first, rest) = run_sound between more d (move_sound c m between sound first) rest

-- the position from which every run goes is sound
pub beginning_sound : (s : PlanValue) → DefaultsThere s.graph s.budget → IsSound s (beginning s.graph)
unfolding entered
beginning_sound s defaults = record {
  counts = length-replicate (length s.graph.nodes) 0;
  flags = length-replicate (length s.graph.nodes) false;
  defaults = defaults;
  within = omega arith;
  events = λ p e h. absurd (none-some e h);
  caused = λ p e x h q. absurd (none-some e h);
  sources = λ k h. none k;
  fed = λ k port a r. omega (arith, none k, none a);
  room = λ k port a r. omega (arith, none k, none a);
  sent = λ k p l h. subst (λ (q : ℕ). IsThere (msg s.graph s.budget [] k q)) (omega (arith, h, none k)) (default-there s.graph s.budget [] k (defaults k l));
  entered = λ a x h. nobody a x;
  turns = λ k h. absurd (false≢true (sym (flag (length s.graph.nodes) k) ∙ h));
  stops = λ t h. absurd (none-some t h);
}
  where
    count : (n k : ℕ) → done_at (replicate n 0) k ≡ 0
    count zero k = refl
    count (suc n) zero = refl
    count (suc n) (suc k) = count n k

    flag : (n k : ℕ) → is_out (replicate n false) k ≡ false
    flag zero k = refl
    flag (suc n) zero = refl
    flag (suc n) (suc k) = flag n k

    none : (k : ℕ) → done_at (replicate (length s.graph.nodes) 0) k ≡ 0
    none k = count (length s.graph.nodes) k

    nobody : (a x : ℕ) → entered [] a ≤ length (changes s.graph s.budget [] x (done_at (replicate (length s.graph.nodes) 0) x))
    nobody a x = omega arith
