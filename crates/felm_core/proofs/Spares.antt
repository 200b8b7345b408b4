-- The room in an engine's lists is enough for what is owed.
use Rattle.std.proofs.Common.{◌≡◌, ℕ, suc, ◌<◌, ◌≤◌, ◌⊎◌, inl, inr, Bool, true, false, Some, length, refl, sym, ap, ◌∙◌, subst, arith}
use Rattle.std.proofs.lemmas.Option.{same_Some}
use Rattle.std.proofs.lemmas.Bool.{cases_eq}
use Rattle.felm_term.specs.declared.message.Message.{Message}
use Rattle.felm_term.specs.declared.event.Event.{Event}
use Rattle.felm_graph.specs.Nodes.{is_source}
use Rattle.felm_meaning.specs.PlanValue.{PlanValue}
use Rattle.felm_meaning.specs.Nodes.{inner}
use Rattle.felm_core.specs.Positions.{Position}
use Rattle.felm_core.specs.Contents.{owed_at}
use Rattle.felm_core.specs.Moves.{beginning, with_next, sent}
use Rattle.felm_core.specs.Laws.{Sends, ComesIn}
use Rattle.felm_core.specs.Holds.{Spares, KeepsRoom, SpendsFrom, KeepsRoomForNext}
use Rattle.felm_core.proofs.Runs.{inner_there}
use Rattle.felm_core.proofs.Stays.{begin_owed, stay_owed}
use Rattle.felm_core.proofs.Sent.{sent_owed, sent_owed-other}
use Rattle.felm_core.proofs.Entered.{next_owed, next_owed-source}

pub begin_room : (s : PlanValue) (spares : Spares) → KeepsRoom s (beginning s.graph) spares
begin_room s spares = record { waiting = λ a x h. omega (arith, begin_owed s x); outputs = omega (arith, begin_owed s s.graph.main) }

pub stay_room : (s : PlanValue) (c d : Position) (spares : Spares) → d.journal ≡ c.journal → d.done ≡ c.done → KeepsRoom s c spares → KeepsRoom s d spares
stay_room s c d spares journal done room = record {
  waiting = λ a x h. omega (arith, stay_owed s c d journal done x, room.waiting a x h);
  outputs = omega (arith, stay_owed s c d journal done s.graph.main, room.outputs);
}

-- a turn that is out owes a message
pub sent_finds_room : (s : PlanValue) (c : Position) (k : ℕ) (m : Message) (spares : Spares) → Sends s c k m → KeepsRoom s c spares
    → ((a : ℕ) → inner s.graph.nodes a ≡ Some k → 0 < spares.waiting a) × (s.graph.main ≡ k → 0 < spares.outputs)
sent_finds_room s c k m spares sends room = (λ a h. omega (arith, owed, room.waiting a k h), λ h. shown h)
  where
    owed : owed_at c k ≡ suc (owed_at (sent c k) k)
    owed = sent_owed s c k m sends.graph sends.sound sends.out sends.message

    shown : s.graph.main ≡ k → 0 < spares.outputs
    shown h = let l : owed_at c k ≤ spares.outputs = subst (λ (x : ℕ). owed_at c x ≤ spares.outputs) h room.outputs in omega (arith, owed)

pub sent_room : (s : PlanValue) (c : Position) (k : ℕ) (m : Message) (before after : Spares) → Sends s c k m → KeepsRoom s c before
    → SpendsFrom s k before after → KeepsRoom s (sent c k) after
sent_room s c k m before after sends room spends = record {
  waiting = λ a x h. waiting a x h (cases_eq k x);
  outputs = outputs (cases_eq s.graph.main k);
}
  where
    owed : owed_at c k ≡ suc (owed_at (sent c k) k)
    owed = sent_owed s c k m sends.graph sends.sound sends.out sends.message

    owed_other : (x : ℕ) → (k ≡ x → ⊥) → owed_at (sent c k) x ≡ owed_at c x
    owed_other = sent_owed-other s c k m sends.graph sends.sound sends.out sends.message

    waiting : (a x : ℕ) → inner s.graph.nodes a ≡ Some x → (k ≡ x) ⊎ (k ≡ x → ⊥) → owed_at (sent c k) x ≤ after.waiting a
    waiting a x h (inl e) =
        let i : inner s.graph.nodes a ≡ Some k = h ∙ ap (λ (y : ℕ). Some y) (sym e) in
        let l : owed_at (sent c k) k ≤ after.waiting a = omega (arith, owed, room.waiting a k i, spends.waiting a i) in
        subst (λ (y : ℕ). owed_at (sent c k) y ≤ after.waiting a) e l
    waiting a x h (inr n) =
        omega (arith, owed_other x n, room.waiting a x h, spends.waiting_other a (λ q. n (same_Some k x (sym q ∙ h))))

    outputs : (s.graph.main ≡ k) ⊎ (s.graph.main ≡ k → ⊥) → owed_at (sent c k) s.graph.main ≤ after.outputs
    outputs (inl e) =
        let l : owed_at c k ≤ before.outputs = subst (λ (y : ℕ). owed_at c y ≤ before.outputs) e room.outputs in
        let n : owed_at (sent c k) k ≤ after.outputs = omega (arith, owed, spends.outputs e) in
        subst (λ (y : ℕ). owed_at (sent c k) y ≤ after.outputs) (sym e) n
    outputs (inr n) = omega (arith, owed_other s.graph.main (λ q. n (sym q)), room.outputs, spends.outputs_other n)

pub event_room : (s : PlanValue) (c : Position) (e : Event) (spares : Spares) → ComesIn s c e → KeepsRoomForNext s c spares
    → KeepsRoom s (with_next s c e) spares
event_room s c e spares comes room = record {
  waiting = λ a x h. waiting a x h (is_source s.graph.nodes x) refl;
  outputs = outputs (is_source s.graph.nodes s.graph.main) refl;
}
  where
    more : (k : ℕ) → k < length s.graph.nodes → is_source s.graph.nodes k ≡ false → owed_at (with_next s c e) k ≡ suc (owed_at c k)
    more = next_owed s c e comes.graph comes.sound comes.source

    none : (k : ℕ) → is_source s.graph.nodes k ≡ true → owed_at (with_next s c e) k ≡ 0
    none = next_owed-source s c e comes.graph comes.sound comes.source

    waiting : (a x : ℕ) → inner s.graph.nodes a ≡ Some x → (t : Bool) → is_source s.graph.nodes x ≡ t
        → owed_at (with_next s c e) x ≤ spares.waiting a
    waiting a x h true q = omega (arith, none x q)
    waiting a x h false q = omega (arith, more x (inner_there s comes.graph a x h) q, room.waiting a x h q)

    outputs : (t : Bool) → is_source s.graph.nodes s.graph.main ≡ t → owed_at (with_next s c e) s.graph.main ≤ spares.outputs
    outputs true q = omega (arith, none s.graph.main q)
    outputs false q = omega (arith, more s.graph.main comes.graph.main_there q, room.outputs q)
