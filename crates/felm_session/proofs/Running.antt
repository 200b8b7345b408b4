-- Runs of moves from one engine to another, and how much they leave to do.
use Rattle.std.proofs.Common.{◌≡◌, ℕ, suc, zero, ◌+◌, ◌-◌, ◌*◌, ◌<◌, ◌≤◌, ◌⊎◌, inl, inr, Bool, true, false, Option, Some, None, List, [], ◌∷◌, ◌++◌, length, set, get_or, replicate, cond, refl, sym, ap, ◌∙◌, subst, arith}
use Rattle.std.specs.Option.{is_some}
use Rattle.std.proofs.lemmas.Bool.{cases_eq, false_from_ne_true, false≢true}
use Rattle.std.proofs.lemmas.List.{length-set, length-replicate, get_or-set_same, get_or-set_other, get_or-replicate, same_lists}
use Rattle.felm_term.specs.declared.event.Event.{Event}
use Rattle.felm_graph.specs.Graphs.{IsGraph}
use Rattle.felm_meaning.specs.declared.plan.Plan.{Plan}
use Rattle.felm_meaning.specs.declared.outcome.Outcome.{Outcome}
use Rattle.felm_meaning.specs.declared.outcome.Outcome.TheVariants as outcome
use Rattle.felm_meaning.specs.Outcomes.{DoneValue}
use Rattle.felm_meaning.specs.PlanValue.{PlanValue}
use Rattle.felm_meaning.specs.Plans.{plan_of}
use Rattle.felm_meaning.specs.Turns.{TurnValue}
use Rattle.felm_core.specs.Positions.{StopValue, Position, done_at, is_out, IsSound, IsReady}
use Rattle.felm_core.specs.Contents.{edge_at, kept_at, settled_at, turning}
use Rattle.felm_core.specs.Moves.{Move, Feed, Enter, Claim, Send, Stop, Reopen, Leads, Runs, claimed, sent, stopped, stop_or, with_next, progress, gain}
use Rattle.felm_core.proofs.Wiring.{flag_cleared}
use Rattle.felm_core.proofs.Runs.{move_sound, run_sound}
use Rattle.felm_core.proofs.Scripted.{run_grows}
use Rattle.felm_core.proofs.Room.{progress_gains, progress_bound}
use Rattle.felm_engine.specs.EngineValue.{EngineValue}
use Rattle.felm_engine.specs.Answers.{planned, Moved, IsTurnAt, IsTurnOut, settling, DepositedAs, NoneOut, all_reopened}
use Rattle.felm_engine.specs.declared.answers.Deposit.{Deposit}
use Rattle.felm_engine.specs.declared.answers.Deposit.TheVariants.{Settled, Reopened}
use Rattle.felm_session.specs.Concluding.{Reaches, Advances, left_for}
use Rattle.felm_session.proofs.Settling.{turns_in, move_settles}

-- ---- runs

pub runs_then : (s : PlanValue) (c : Position) (ms : List Move) (d : Position) (ns : List Move) (e : Position) → Runs s c ms d → Runs s d ns e
    → Runs s c (ms ++ ns) e
runs_then s c [] d ns e h k = subst (λ (x : Position). Runs s x ns e) h k
runs_then s c (m ∷ ms) d ns e (between, first, rest) k = (between, first, runs_then s between ms d ns e rest k)

-- a run settles no less than nothing
pub run_settles : (s : PlanValue) (c : Position) (ms : List Move) (d : Position) → IsGraph s.graph → IsSound s c → Runs s c ms d
    → settled_at s c ≤ settled_at s d
run_settles s c [] d graph sound h = let e : settled_at s d ≡ settled_at s c = ap (settled_at s) h in omega arith
run_settles s c (m ∷ ms) d graph sound (between, first, rest) =
    let e : settled_at s between ≡ settled_at s c + turns_in m = move_settles s c m between graph sound first in
    let l : settled_at s between ≤ settled_at s d = run_settles s between ms d graph (move_sound s graph c m between sound first) rest in
    omega (arith, e, l)

pub reaches_same : (old new : EngineValue) → new ≡ old → Reaches old new
reaches_same old new e = record {
  plan = ap (λ (x : EngineValue). x.plan) e;
  moves = [];
  runs = ap (λ (x : EngineValue). x.position) e;
}

pub reaches_by : (old new : EngineValue) (m : Move) → Moved old m new → Reaches old new
reaches_by old new m moved = record {
  plan = moved.plan;
  moves = m ∷ [];
  runs = (new.position, moved.leads, refl);
}

pub reaches_then : (a b c : EngineValue) → Reaches a b → Reaches b c → Reaches a c
reaches_then a b c p q = record {
  plan = q.plan ∙ p.plan;
  moves = p.moves ++ q.moves;
  runs =
      runs_then (planned a) a.position p.moves b.position q.moves c.position p.runs
      (subst (λ (plan : Plan). Runs (plan_of plan) b.position q.moves c.position) p.plan q.runs);
}

-- a move out of a sound position comes to a sound one
pub moved_sound : (old new : EngineValue) (m : Move) → IsGraph old.plan.graph → IsSound (planned old) old.position → Moved old m new
    → IsSound (planned new) new.position
moved_sound old new m graph sound moved =
    subst (λ (plan : Plan). IsSound (plan_of plan) new.position) (sym moved.plan)
    (move_sound (planned old) graph old.position m new.position sound moved.leads)

pub moved_graph : (old new : EngineValue) (m : Move) → IsGraph old.plan.graph → Moved old m new → IsGraph new.plan.graph
moved_graph old new m graph moved = subst (λ (plan : Plan). IsGraph plan.graph) (sym moved.plan) graph

-- ---- all turns are taken back

cleared : List Bool → ℕ → List Bool
cleared out zero = out
cleared out (suc n) = set (cleared out n) n false

reopenings : ℕ → List Move
reopenings zero = []
reopenings (suc n) = reopenings n ++ Reopen n ∷ []

reopening_runs : (s : PlanValue) (c : Position) (n : ℕ) → Runs s c (reopenings n) (record c { out = cleared c.out n })
unfolding reopenings cleared
reopening_runs s c zero = refl
reopening_runs s c (suc n) =
    runs_then s c (reopenings n) (record c { out = cleared c.out n }) (Reopen n ∷ []) (record c { out = cleared c.out (suc n) }) (reopening_runs s c n)
    (record c { out = cleared c.out (suc n) }, refl, refl)

length-cleared : (out : List Bool) (n : ℕ) → length (cleared out n) ≡ length out
unfolding cleared
length-cleared out zero = refl
length-cleared out (suc n) = length-set (cleared out n) n false ∙ length-cleared out n

cleared_at : (out : List Bool) (n k : ℕ) (d : Bool) → k < n → k < length out → get_or (cleared out n) k d ≡ false
unfolding cleared
cleared_at out zero k d l m = absurd (omega arith)
cleared_at out (suc n) k d l m = go (cases_eq k n) (cleared_at out n k d)
  where
    go : (k ≡ n) ⊎ (k ≡ n → ⊥) → (k < n → k < length out → get_or (cleared out n) k d ≡ false) → get_or (set (cleared out n) n false) k d ≡ false
    go (inl e) ih =
        let i : n < length (cleared out n) = omega (arith, e, m, length-cleared out n) in
        ap (λ (x : ℕ). get_or (set (cleared out n) n false) x d) e ∙ get_or-set_same (cleared out n) n false d i
    go (inr ne) ih = get_or-set_other (cleared out n) n k false d ne ∙ ih (omega (arith, l, ne)) m

cleared_all : (out : List Bool) → cleared out (length out) ≡ replicate (length out) false
cleared_all out = same_lists (cleared out (length out)) (replicate (length out) false) lengths (λ k d l. at k d l)
  where
    lengths : length (cleared out (length out)) ≡ length (replicate {A = Bool} (length out) false)
    lengths = length-cleared out (length out) ∙ sym (length-replicate (length out) false)

    at : (k : ℕ) (d : Bool) → k < length (cleared out (length out)) → get_or (cleared out (length out)) k d ≡ get_or (replicate (length out) false) k d
    at k d l =
        let m : k < length out = omega (arith, l, length-cleared out (length out)) in
        cleared_at out (length out) k d m m ∙ sym (get_or-replicate (length out) k false d m)

pub reaches_reopened : (old new : EngineValue) → new.plan ≡ old.plan → new.position ≡ all_reopened old.position → Reaches old new
reaches_reopened old new p q = record {
  plan = p;
  moves = reopenings (length old.position.out);
  runs =
      subst (λ (c : Position). Runs (planned old) old.position (reopenings (length old.position.out)) c)
      (ap (λ (out : List Bool). record old.position { out = out }) (cleared_all old.position.out) ∙ sym q)
      (reopening_runs (planned old) old.position (length old.position.out));
}

none_in : (n k : ℕ) → is_out (replicate n false) k ≡ false
none_in zero k = refl
none_in (suc n) zero = refl
none_in (suc n) (suc k) = none_in n k

pub reopened_none : (c d : Position) → d ≡ all_reopened c → NoneOut d
reopened_none c d e k = ap (λ (x : Position). is_out x.out k) e ∙ none_in (length c.out) k

-- ---- what is left to do

less_by_one : (b b' p p' f f' : ℕ) → b' ≡ b → f' ≡ f → p' ≡ p + 1 → p' ≤ b' → (b' - p') + f' < (b - p) + f
less_by_one b b' p p' f f' eb ef ep l = omega arith

less_by_stop : (b b' p p' f f' : ℕ) → b' ≡ b → p' ≡ p → f ≡ 1 → f' ≡ 0 → (b' - p') + f' < (b - p) + f
less_by_stop b b' p p' f f' eb ep ef ef' = omega arith

abbrev most : PlanValue → ℕ
most s = s.limit + s.limit * turning s.graph.nodes (length s.graph.nodes)

abbrev gone : EngineValue → ℕ
gone engine = progress (planned engine) engine.position

abbrev unstopped : Option StopValue → ℕ
unstopped stop = cond (is_some stop) 0 1

moved_most : (old new : EngineValue) → new.plan ≡ old.plan → most (planned new) ≡ most (planned old)
moved_most old new p = ap (λ (plan : Plan). most (plan_of plan)) p

moved_gone : (old new : EngineValue) (m : Move) → IsGraph old.plan.graph → IsSound (planned old) old.position → Moved old m new
    → gone new ≡ gone old + gain m
moved_gone old new m graph sound moved =
    ap (λ (plan : Plan). progress (plan_of plan) new.position) moved.plan ∙ progress_gains (planned old) old.position m new.position graph sound moved.leads

within_most : (engine : EngineValue) → IsGraph engine.plan.graph → IsSound (planned engine) engine.position → gone engine ≤ most (planned engine)
within_most engine graph sound = progress_bound (planned engine) engine.position graph sound

-- ---- an event comes in

next_none : (s : PlanValue) (c d : Position) (e : Event) → d ≡ with_next s c e → NoneOut c → NoneOut d
next_none s c d e q none k = ap (λ (x : Position). is_out x.out k) q ∙ none k

next_stop : (s : PlanValue) (c d : Position) (e : Event) → d ≡ with_next s c e → unstopped d.stop ≡ unstopped c.stop
next_stop s c d e q = ap (λ (x : Position). unstopped x.stop) q

event_advances : (old new : EngineValue) (m : Move) (e : Event) → IsGraph old.plan.graph → IsSound (planned old) old.position → gain m ≡ 1
    → Moved old m new → new.position ≡ with_next (planned old) old.position e → NoneOut old.position → Advances old new
event_advances old new m e graph sound one moved q none = record {
  reaches = reaches_by old new m moved;
  none_out = next_none (planned old) old.position new.position e q none;
  less =
      less_by_one (most (planned old)) (most (planned new)) (gone old) (gone new) (unstopped old.position.stop) (unstopped new.position.stop)
      (moved_most old new moved.plan) (next_stop (planned old) old.position new.position e q)
      (moved_gone old new m graph sound moved ∙ ap (λ (n : ℕ). gone old + n) one)
      (within_most new (moved_graph old new m graph moved) (moved_sound old new m graph sound moved));
}

pub feed_advances : (old new : EngineValue) (e : Event) → IsGraph old.plan.graph → IsSound (planned old) old.position
    → Moved old (Feed e.source e.value) new → NoneOut old.position → Advances old new
feed_advances old new e graph sound moved none = event_advances old new (Feed e.source e.value) e graph sound refl moved moved.leads.3 none

pub entry_advances : (old new : EngineValue) (a : ℕ) → IsGraph old.plan.graph → IsSound (planned old) old.position → Moved old (Enter a) new
    → NoneOut old.position → Advances old new
entry_advances old new a graph sound moved none =
    event_advances old new (Enter a) (record { source = a; value = moved.leads.1.0 }) graph sound refl moved moved.leads.1.2 none

-- ---- a turn is taken

-- the turn that a node has is the same while it is out
turn_claimed : (s : PlanValue) (c : Position) (k : ℕ) (turn : TurnValue) → IsTurnAt s c k turn → IsTurnAt s (claimed c k) k turn
unfolding kept_at edge_at
turn_claimed s c k turn h = record {
  node = h.node;
  position_is = h.position_is;
  job = h.job;
  previous = h.previous;
  inputs = h.inputs;
  budget = h.budget;
}

turn_there : (old mid : EngineValue) (k : ℕ) (turn : TurnValue) → mid.plan ≡ old.plan → mid.position ≡ claimed old.position k
    → IsTurnAt (planned old) old.position k turn → IsTurnAt (planned mid) mid.position k turn
turn_there old mid k turn p q h =
    subst (λ (c : Position). IsTurnAt (planned mid) c k turn) (sym q)
    (subst (λ (plan : Plan). IsTurnAt (plan_of plan) (claimed old.position k) k turn) (sym p) (turn_claimed (planned old) old.position k turn h))

-- so a claimed turn that comes back is the one that is out
claimed_out : (old mid : EngineValue) (turn : TurnValue) → IsSound (planned old) old.position → Moved old (Claim turn.node) mid
    → IsTurnAt (planned old) old.position turn.node turn → IsTurnOut mid turn
claimed_out old mid turn sound moved h =
    let ready = moved.leads.0 in
    let l : turn.node < length old.position.out = omega (arith, ready.turn.node, sound.flags) in
    record {
      out = ap (λ (c : Position). is_out c.out turn.node) moved.leads.1 ∙ get_or-set_same old.position.out turn.node true false l;
      has = turn_there old mid turn.node turn moved.plan moved.leads.1 h;
    }

-- a flag that is set and cleared leaves none
none_again : (out : List Bool) (k x : ℕ) → ((x : ℕ) → is_out out x ≡ false) → is_out (set (set out k true) k false) x ≡ false
none_again out k x none = false_from_ne_true (is_out (set (set out k true) k false) x) (λ h. set_before h)
  where
    set_before : is_out (set (set out k true) k false) x ≡ true → ⊥
    set_before h =
        let w = flag_cleared (set out k true) k x h in
        false≢true (sym (none x) ∙ (sym (get_or-set_other out k x true false (λ e. w.0 (sym e))) ∙ w.1))

cleared_none : (old mid : EngineValue) (k i : ℕ) (d : Position) → Moved old (Claim k) mid → i ≡ k → d.out ≡ set mid.position.out i false
    → NoneOut old.position → NoneOut d
cleared_none old mid k i d moved e q none x =
    ap (λ (out : List Bool). is_out out x) (q ∙ (ap (λ (n : ℕ). set mid.position.out n false) e ∙
    ap (λ (c : Position). set c.out k false) moved.leads.1)) ∙ none_again old.position.out k x none

mid_gone : (old mid : EngineValue) (k : ℕ) → IsGraph old.plan.graph → IsSound (planned old) old.position → Moved old (Claim k) mid → gone mid ≡ gone old
mid_gone old mid k graph sound moved =
    moved_gone old mid (Claim k) graph sound moved ∙ (let z : gone old + 0 ≡ gone old = omega arith in z)

pub sent_advances : (old mid new : EngineValue) (k i : ℕ) → IsGraph old.plan.graph → IsSound (planned old) old.position → Moved old (Claim k) mid → i ≡ k
    → Moved mid (Send i) new → NoneOut old.position → Advances old new
sent_advances old mid new k i graph sound first e then_moved none =
    let graph' = moved_graph old mid (Claim k) graph first in
    let sound' = moved_sound old mid (Claim k) graph sound first in
    record {
      reaches = reaches_then old mid new (reaches_by old mid (Claim k) first) (reaches_by mid new (Send i) then_moved);
      none_out = cleared_none old mid k i new.position first e (ap (λ (c : Position). c.out) then_moved.leads.2) none;
      less =
          less_by_one (most (planned old)) (most (planned new)) (gone old) (gone new) (unstopped old.position.stop) (unstopped new.position.stop)
          (moved_most mid new then_moved.plan ∙ moved_most old mid first.plan)
          (ap (λ (c : Position). unstopped c.stop) then_moved.leads.2 ∙ ap (λ (c : Position). unstopped c.stop) first.leads.1)
          (moved_gone mid new (Send i) graph' sound' then_moved ∙ ap (λ (n : ℕ). n + 1) (mid_gone old mid k graph sound first))
          (within_most new (moved_graph mid new (Send i) graph' then_moved) (moved_sound mid new (Send i) graph' sound' then_moved));
    }

stop_stays : (stop : Option StopValue) (t : StopValue) → unstopped (stop_or stop t) ≡ 0
stop_stays None t = refl
stop_stays (Some s) t = refl

pub stop_advances : (old mid new : EngineValue) (k i : ℕ) → IsGraph old.plan.graph → IsSound (planned old) old.position → Moved old (Claim k) mid → i ≡ k
    → Moved mid (Stop i) new → NoneOut old.position → Advances old new
stop_advances old mid new k i graph sound first e then_moved none =
    let graph' = moved_graph old mid (Claim k) graph first in
    let sound' = moved_sound old mid (Claim k) graph sound first in
    record {
      reaches = reaches_then old mid new (reaches_by old mid (Claim k) first) (reaches_by mid new (Stop i) then_moved);
      none_out = cleared_none old mid k i new.position first e (ap (λ (c : Position). c.out) then_moved.leads.2) none;
      less =
          less_by_stop (most (planned old)) (most (planned new)) (gone old) (gone new) (unstopped old.position.stop) (unstopped new.position.stop)
          (moved_most mid new then_moved.plan ∙ moved_most old mid first.plan)
          (moved_gone mid new (Stop i) graph' sound' then_moved ∙
          ((let z : gone mid + 0 ≡ gone mid = omega arith in z) ∙ mid_gone old mid k graph sound first))
          (ap unstopped first.leads.0.no_stop)
          (ap (λ (c : Position). unstopped c.stop) then_moved.leads.2 ∙
          stop_stays mid.position.stop (record { node = i; position = suc (done_at mid.position.done i) }));
    }

settling_advances : (old mid new : EngineValue) (k i : ℕ) (o : Outcome) → IsGraph old.plan.graph → IsSound (planned old) old.position
    → Moved old (Claim k) mid → i ≡ k → Moved mid (settling i o) new → NoneOut old.position → Advances old new
settling_advances old mid new k i (outcome.Sent message) graph sound first e h none = sent_advances old mid new k i graph sound first e h none
settling_advances old mid new k i outcome.Over graph sound first e h none = stop_advances old mid new k i graph sound first e h none

-- a claimed turn that is computed and deposited is settled
pub turn_advances : (old mid new : EngineValue) (turn : TurnValue) (done : DoneValue) (answer : Deposit) → IsGraph old.plan.graph
    → IsSound (planned old) old.position → NoneOut old.position → Moved old (Claim turn.node) mid → IsTurnAt (planned old) old.position turn.node turn
    → done.turn ≡ turn → DepositedAs mid done new answer → Advances old new
turn_advances old mid new turn done Settled graph sound none first has same h =
    settling_advances old mid new turn.node done.turn.node done.outcome graph sound first (ap (λ (t : TurnValue). t.node) same) h.moved none
turn_advances old mid new turn done Reopened graph sound none first has same h =
    absurd (h.0 (subst (IsTurnOut mid) (sym same) (claimed_out old mid turn sound first has)))
