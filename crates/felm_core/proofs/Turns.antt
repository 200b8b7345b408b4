-- Each move of a turn keeps a sound position sound.
use Rattle.std.proofs.Common.{◌≡◌, ℕ, suc, ◌+◌, ◌<◌, ◌≤◌, ◌⊎◌, inl, inr, true, false, Option, Some, None, List, length, set, refl, sym, ap, ◌∙◌, subst, arith}
use Rattle.std.proofs.lemmas.Option.{none-some, same_Some}
use Rattle.std.proofs.lemmas.Bool.{cases_eq, false≢true}
use Rattle.std.proofs.lemmas.List.{length-set}
use Rattle.felm_graph.specs.Nodes.{is_source}
use Rattle.felm_graph.specs.Graphs.{IsGraph}
use Rattle.felm_meaning.specs.Meaning.{msg, changes, IsThere}
use Rattle.felm_meaning.specs.Journals.{entered}
use Rattle.felm_meaning.proofs.Graphs.{ordered}
use Rattle.felm_meaning.proofs.Fronts.{changes-grow}
use Rattle.felm_meaning.specs.PlanValue.{PlanValue}
use Rattle.felm_core.specs.Positions.{StopValue, Position, done_at, is_out, Reads, HasTurn, IsStop, IsSound, IsReady}
use Rattle.felm_core.specs.Moves.{sent, stop_or, stopped}
use Rattle.felm_core.proofs.Wiring.{flag_after, flag_cleared, Rises, here, there, rises_at, rises}

module _ (s : PlanValue) (c : Position) (sound : IsSound s c) where
  pub claim_sound : (k : ℕ) → IsReady s c k → IsSound s (record c { out = set c.out k true })
  claim_sound k r = record {
    counts = sound.counts;
    flags = length-set c.out k true ∙ sound.flags;
    defaults = sound.defaults;
    within = sound.within;
    events = sound.events;
    caused = sound.caused;
    sources = sound.sources;
    fed = sound.fed;
    room = sound.room;
    sent = sound.sent;
    entered = sound.entered;
    turns = λ x h. go x (flag_after c.out k x h);
    stops = sound.stops;
  }
    where
      go : (x : ℕ) → (k ≡ x) ⊎ (is_out c.out x ≡ true) → HasTurn s c.done x
      go x (inl e) = subst (HasTurn s c.done) e r.turn
      go x (inr o) = sound.turns x o

  pub reopen_sound : (k : ℕ) → IsSound s (record c { out = set c.out k false })
  reopen_sound k = record {
    counts = sound.counts;
    flags = length-set c.out k false ∙ sound.flags;
    defaults = sound.defaults;
    within = sound.within;
    events = sound.events;
    caused = sound.caused;
    sources = sound.sources;
    fed = sound.fed;
    room = sound.room;
    sent = sound.sent;
    entered = sound.entered;
    turns = λ x h. sound.turns x (flag_cleared c.out k x h).1;
    stops = sound.stops;
  }

  -- the messages of the arguments of a node that has a turn are there
  pub arguments_there : (k : ℕ) → IsGraph s.graph → HasTurn s c.done k
      → (port a : ℕ) → Reads s.graph.nodes k port a → IsThere (msg s.graph s.budget c.journal a (suc (done_at c.done k)))
  arguments_there k graph turn port a r =
      let l : done_at c.done k < done_at c.done a = turn.fed port a r in
      let m : a < k = (ordered s.graph graph).down k port a r in
      let n : k < length s.graph.nodes = turn.node in
      sound.sent a (suc (done_at c.done k)) (omega arith) (omega arith)

  pub stopped_sound : (k : ℕ) → IsGraph s.graph → is_out c.out k ≡ true → msg s.graph s.budget c.journal k (suc (done_at c.done k)) ≡ None
      → IsSound s (stopped c k)
  stopped_sound k graph o none =
      let r = reopen_sound k in
      record {
        counts = r.counts;
        flags = r.flags;
        defaults = r.defaults;
        within = r.within;
        events = r.events;
        caused = r.caused;
        sources = r.sources;
        fed = r.fed;
        room = r.room;
        sent = r.sent;
        entered = r.entered;
        turns = r.turns;
        stops = λ t h. go c.stop sound.stops t h;
      }
    where
      this : StopValue
      this = record { node = k; position = suc (done_at c.done k) }

      here_stops : IsStop s c.journal c.done this
      here_stops = record {
        node = (sound.turns k o).node;
        no_source = (sound.turns k o).no_source;
        next = refl;
        arguments = arguments_there k graph (sound.turns k o);
        none = none;
      }

      go : (old : Option StopValue) → ((t : StopValue) → old ≡ Some t → IsStop s c.journal c.done t) → (t : StopValue) → stop_or old this ≡ Some t
          → IsStop s c.journal c.done t
      go None f t h = subst (IsStop s c.journal c.done) (same_Some this t h) here_stops
      go (Some old) f t h = f t h

  pub sent_sound : (k : ℕ) → is_out c.out k ≡ true → IsThere (msg s.graph s.budget c.journal k (suc (done_at c.done k))) → IsSound s (sent c k)
  sent_sound k o m = record {
    counts = length-set c.done k _ ∙ sound.counts;
    flags = length-set c.out k false ∙ sound.flags;
    defaults = sound.defaults;
    within = sound.within;
    events = sound.events;
    caused = sound.caused;
    sources = λ x h. sources x h (at x);
    fed = λ x port a r. fed x port a r (at x) (at a);
    room = λ x port a r. room x port a r (at x) (at a);
    sent = λ x q l h. sends x q l h (at x);
    entered = λ a x e.
        let g : length (changes s.graph s.budget c.journal x (done_at c.done x)) ≤ length (changes s.graph s.budget c.journal x (done_at after x)) =
        changes-grow s.graph s.budget c.journal x (done_at c.done x) (done_at after x) (up x) in
        let w : entered c.journal a ≤ length (changes s.graph s.budget c.journal x (done_at c.done x)) = sound.entered a x e in omega arith;
    turns = λ x h. turns x (flag_cleared c.out k x h) (at x);
    stops = λ t h. stops t (sound.stops t h) (at t.node);
  }
    where
      after : List ℕ
      after = set c.done k (suc (done_at c.done k))

      turn : HasTurn s c.done k
      turn = sound.turns k o

      at : (x : ℕ) → Rises c.done after k x
      at x = let l : k < length c.done = omega (arith, turn.node, sound.counts) in rises_at c.done k x l

      up : (x : ℕ) → done_at c.done x ≤ done_at after x
      up x = (rises c.done after k x (at x)).0

      sources : (x : ℕ) → is_source s.graph.nodes x ≡ true → Rises c.done after k x → done_at after x ≡ length c.journal
      sources x h (here e q) = absurd (false≢true (sym turn.no_source ∙ (ap (is_source s.graph.nodes) e ∙ h)))
      sources x h (there n q) = q ∙ sound.sources x h

      fed : (x port a : ℕ) → Reads s.graph.nodes x port a → Rises c.done after k x → Rises c.done after k a → done_at after x ≤ done_at after a
      fed x port a r (here e q) w = let l : done_at c.done x < done_at c.done a = (subst (HasTurn s c.done) e turn).fed port a r in omega (arith, up a)
      fed x port a r (there n q) w = let l : done_at c.done x ≤ done_at c.done a = sound.fed x port a r in omega (arith, up a)

      room : (x port a : ℕ) → Reads s.graph.nodes x port a → Rises c.done after k x → Rises c.done after k a → done_at after a ≤ done_at after x + s.capacity
      room x port a r w (here e q) =
          let l : done_at c.done a < done_at c.done x + s.capacity = (subst (HasTurn s c.done) e turn).room x port r in omega (arith, up x)
      room x port a r w (there n q) = let l : done_at c.done a ≤ done_at c.done x + s.capacity = sound.room x port a r in omega (arith, up x)

      last : (x q : ℕ) → (q ≤ done_at c.done x → IsThere (msg s.graph s.budget c.journal x q)) → IsThere (msg s.graph s.budget c.journal x (suc (done_at c.done x)))
          → q ≤ suc (done_at c.done x) → (q ≡ suc (done_at c.done x)) ⊎ (q ≡ suc (done_at c.done x) → ⊥) → IsThere (msg s.graph s.budget c.journal x q)
      last x q f t l (inl e) = subst (λ (y : ℕ). IsThere (msg s.graph s.budget c.journal x y)) (sym e) t
      last x q f t l (inr n) = f (omega arith)

      sends : (x q : ℕ) → x < length s.graph.nodes → q ≤ done_at after x → Rises c.done after k x → IsThere (msg s.graph s.budget c.journal x q)
      sends x q l h (here e w) =
          last x q (sound.sent x q l) (subst (λ (y : ℕ). IsThere (msg s.graph s.budget c.journal y (suc (done_at c.done y)))) e m) (omega arith) (cases_eq q _)
      sends x q l h (there n w) = sound.sent x q l (omega arith)

      turns : (x : ℕ) → (k ≡ x → ⊥) × (is_out c.out x ≡ true) → Rises c.done after k x → HasTurn s after x
      turns x h (here e q) = absurd (h.0 e)
      turns x h (there n q) =
          let t : HasTurn s c.done x = sound.turns x h.1 in
          record {
            node = t.node;
            no_source = t.no_source;
            fed = λ port a r. let l : done_at c.done x < done_at c.done a = t.fed port a r in omega (arith, up a);
            room = λ r port e. let l : done_at c.done x < done_at c.done r + s.capacity = t.room r port e in omega (arith, up r);
          }

      stops : (t : StopValue) → IsStop s c.journal c.done t → Rises c.done after k t.node → IsStop s c.journal after t
      stops t h (here e w) =
          absurd (none-some m.0 (sym h.none ∙ (ap (msg s.graph s.budget c.journal t.node) h.next ∙
          (ap (λ (y : ℕ). msg s.graph s.budget c.journal y (suc (done_at c.done y))) (sym e) ∙ m.1))))
      stops t h (there n w) = record { node = h.node; no_source = h.no_source; next = h.next ∙ ap suc (sym w); arguments = h.arguments; none = h.none }
