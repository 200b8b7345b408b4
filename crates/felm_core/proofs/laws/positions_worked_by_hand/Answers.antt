use Rattle.std.proofs.Common.{◌≡◌, ℕ, suc, zero, ◌+◌, ◌<◌, ◌∙◌, true, false, List, [], ◌∷◌, refl, sym, ap, subst, arith}
use Rattle.std.proofs.lemmas.Option.{none-some, same_Some}
use Rattle.std.proofs.lemmas.Bool.{false≢true}
use Rattle.std.specs.Int.{int_wrap}
use Rattle.felm_graph.specs.Nodes.{is_source}
use Rattle.felm_meaning.specs.Step.{call_value, step}
use Rattle.felm_meaning.specs.Meaning.{defaults_to, message_of, row_to, row, msg, val, changes, sends}
use Rattle.felm_meaning.specs.Journals.{entered}
use Rattle.felm_core.specs.Positions.{done_at, Reads, HasTurn}
use Rattle.felm_core.specs.Contents.{edge_at, kept_at, waiting_at, outputs_at, turns_of}
use Rattle.felm_core.specs.Instances.{chain}
use Rattle.felm_core.proofs.laws.positions_worked_by_hand.Goals as goal

pub returns-clause-rows : goal.returns-clause-rows
unfolding int_wrap call_value step defaults_to message_of row_to row msg val changes sends entered edge_at kept_at waiting_at outputs_at turns_of
returns-clause-rows c = (refl, refl, refl)

-- each node of the chain reads the node before it
reads_before : (k port a : ℕ) → Reads chain.graph.nodes k port a → k ≡ suc a
reads_before zero port a h = absurd (none-some a h)
reads_before (suc zero) zero a h = ap suc (same_Some 0 a h)
reads_before (suc zero) (suc port) a h = absurd (none-some a h)
reads_before (suc (suc zero)) zero a h = ap suc (same_Some 1 a h)
reads_before (suc (suc zero)) (suc port) a h = absurd (none-some a h)
reads_before (suc (suc (suc k))) port a h = absurd (none-some a h)

-- x is the one source
source_is : (k : ℕ) → is_source chain.graph.nodes k ≡ true → k ≡ 0
source_is zero h = refl
source_is (suc zero) h = absurd (false≢true h)
source_is (suc (suc zero)) h = absurd (false≢true h)
source_is (suc (suc (suc k))) h = absurd (false≢true h)

-- so a node has its turn where the node before has sent more, and the node behind has room
has_turn : (done : List ℕ) (a : ℕ) → suc a < 3 → is_source chain.graph.nodes (suc a) ≡ false → done_at done (suc a) < done_at done a
    → done_at done (suc a) < done_at done (suc (suc a)) + 1 → HasTurn chain done (suc a)
has_turn done a node no_source fed room = record {
  node = node;
  no_source = no_source;
  fed = λ port x h. let e : a ≡ x = omega (arith, reads_before (suc a) port x h) in subst (λ (y : ℕ). done_at done (suc a) < done_at done y) e fed;
  room = λ r port h.
      subst (λ (y : ℕ). done_at done (suc a) < done_at done y + 1) (sym (reads_before r port (suc a) h)) room;
}

pub returns-clause-allowed : goal.returns-clause-allowed
returns-clause-allowed c = record {
  fed = record { turn = has_turn (1 ∷ 0 ∷ 0 ∷ []) 0 (omega arith) refl (omega arith) (omega arith); no_stop = refl; not_out = refl };
  empty = λ r. let l : 0 < 0 = r.turn.fed 0 1 refl in omega arith;
  no_place = λ p. let l : 1 < 0 + 1 = p.room 0 refl 1 0 refl in omega arith;
  out = λ r. false≢true (sym r.not_out);
  place = record {
    below = omega arith;
    room = λ k source r port h.
        let e : k ≡ 0 = source_is k source in
        let q : r ≡ 1 = reads_before r port k h ∙ ap suc e in
        subst (λ (y : ℕ). done_at (1 ∷ 1 ∷ 0 ∷ []) y < done_at (1 ∷ 1 ∷ 0 ∷ []) r + 1) (sym e)
        (subst (λ (y : ℕ). 1 < done_at (1 ∷ 1 ∷ 0 ∷ []) y + 1) (sym q) (omega arith));
  };
  full = λ r. let l : 1 < 0 + 1 = r.turn.room 2 0 refl in omega arith;
  fed_next = record { turn = has_turn (2 ∷ 1 ∷ 0 ∷ []) 1 (omega arith) refl (omega arith) (omega arith); no_stop = refl; not_out = refl };
  unsettled = λ s. let e : 1 ≡ 2 = s 1 (omega arith) refl in omega arith;
  settled = λ k l no_source. settled k l no_source;
}
  where
    settled : (k : ℕ) → k < 3 → is_source chain.graph.nodes k ≡ false → done_at (2 ∷ 2 ∷ 2 ∷ []) k ≡ 2
    settled zero l h = refl
    settled (suc zero) l h = refl
    settled (suc (suc zero)) l h = refl
    settled (suc (suc (suc k))) l h = absurd (omega arith)
