-- A session's cursor keeps step with its journal, which so is legal.
use Rattle.std.proofs.Common.{◌≡◌, ℕ, suc, ◌+◌, ◌^◌, ◌<◌, ◌≤◌, Bool, true, false, cond, Some, Ok, Err, Result, IfOk, OnErr, List, [], ◌∷◌, ◌++◌, length, take, drop, refl, sym, ap, ◌∙◌, subst, append-nil, take-append-drop, length-take-le, arith}
use Rattle.std.specs.List.{slice_get, filter}
use Rattle.std.proofs.lemmas.Option.{slice_get_within}
use Rattle.felm_term.specs.declared.event.Event.{Event}
use Rattle.felm_term.specs.declared.memory.Memory.{Memory}
use Rattle.felm_graph.specs.GraphValue.{GraphValue}
use Rattle.felm_graph.specs.Graphs.{IsGraph}
use Rattle.felm_meaning.specs.declared.plan.Plan.{Plan}
use Rattle.felm_meaning.specs.declared.outcome.Outcome.{Outcome}
use Rattle.felm_meaning.specs.declared.outcome.Outcome.TheVariants as outcome
use Rattle.felm_meaning.specs.Outcomes.{DoneValue}
use Rattle.felm_meaning.specs.Nodes.{is_input}
use Rattle.felm_meaning.specs.Journals.{inputs_in}
use Rattle.felm_meaning.specs.OfPlans.{IsLegalFor}
use Rattle.felm_meaning.proofs.Plain.{take-more}
use Rattle.felm_core.specs.Positions.{Position, IsSound}
use Rattle.felm_core.specs.Moves.{Move, Feed, Claim, Reopen, fed_in, beginning}
use Rattle.felm_core.proofs.Scripted.{move_feeds, sound_legal}
use Rattle.felm_engine.specs.EngineValue.{EngineValue}
use Rattle.felm_engine.specs.Answers.{planned, Moved, ClaimedAs, ClaimedNextAs, settling, DepositedAs}
use Rattle.felm_engine.specs.declared.answers.Claim as answers
use Rattle.felm_engine.specs.declared.answers.Claim.TheVariants as claim
use Rattle.felm_engine.specs.declared.answers.Deposit.{Deposit}
use Rattle.felm_engine.specs.declared.answers.Deposit.TheVariants.{Settled, Reopened}
use Rattle.felm_session.specs.SessionValue.{IsInStep}

-- ---- the step is kept

pub in_step : (old new : EngineValue) (cursor : ℕ) → new.plan ≡ old.plan → cursor ≤ length old.plan.script.items
    → inputs_in old.plan.graph new.position.journal ≡ take cursor old.plan.script.items → IsInStep new cursor
in_step old new cursor p within fed = record {
  within = subst (λ (plan : Plan). cursor ≤ length plan.script.items) (sym p) within;
  fed = subst (λ (plan : Plan). inputs_in plan.graph new.position.journal ≡ take cursor plan.script.items) (sym p) fed;
}

nothing_in : (g : GraphValue) → inputs_in g [] ≡ []
unfolding inputs_in
nothing_in g = refl

pub begun_in_step : (engine : EngineValue) → engine.position ≡ beginning engine.plan.graph → IsInStep engine 0
begun_in_step engine p = record {
  within = omega arith;
  fed = ap (λ (j : List Event). inputs_in engine.plan.graph j) (ap (λ (c : Position). c.journal) p) ∙ nothing_in engine.plan.graph;
}

-- the next event of the script was fed
pub fed_in_step : (old new : EngineValue) (cursor : ℕ) (e : Event) → IsGraph old.plan.graph → IsInStep old cursor
    → slice_get old.plan.script.items cursor ≡ Some e → Moved old (Feed e.source e.value) new → IsInStep new (cursor + 1)
fed_in_step old new cursor e graph step next moved =
    let l : cursor < length old.plan.script.items = slice_get_within old.plan.script.items cursor e next in
    let n : suc cursor ≡ cursor + 1 = omega arith in
    in_step old new (cursor + 1) moved.plan (omega (arith, l))
    (move_feeds (planned old) old.position (Feed e.source e.value) new.position graph moved.leads ∙
    (ap (λ (es : List Event). es ++ e ∷ []) step.fed ∙
    (sym (take-more old.plan.script.items cursor e next) ∙ ap (λ (c : ℕ). take c old.plan.script.items) n)))

-- a move that feeds nothing
pub moved_in_step : (old new : EngineValue) (cursor : ℕ) (move : Move) → IsGraph old.plan.graph → IsInStep old cursor → fed_in move ≡ []
    → Moved old move new → IsInStep new cursor
moved_in_step old new cursor move graph step none moved =
    in_step old new cursor moved.plan step.within
    (move_feeds (planned old) old.position move new.position graph moved.leads ∙
    (ap (λ (es : List Event). inputs_in old.plan.graph old.position.journal ++ es) none ∙
    (append-nil (inputs_in old.plan.graph old.position.journal) ∙ step.fed)))

pub same_in_step : (old new : EngineValue) (cursor : ℕ) → new ≡ old → IsInStep old cursor → IsInStep new cursor
same_in_step old new cursor e step = subst (λ (engine : EngineValue). IsInStep engine cursor) (sym e) step

-- ---- claims and deposits keep it

pub claimed_in_step : (old new : EngineValue) (cursor k : ℕ) (answer : answers.Claim) → IsGraph old.plan.graph → IsInStep old cursor
    → ClaimedAs old k new answer → IsInStep new cursor
claimed_in_step old new cursor k (claim.Got turn) graph step h = moved_in_step old new cursor (Claim k) graph step refl h.0
claimed_in_step old new cursor k claim.NotReady graph step h = same_in_step old new cursor h.1 step

pub claim_in_step : (old new : EngineValue) (cursor k : ℕ) (result : Result answers.Claim Memory) → IsGraph old.plan.graph → IsInStep old cursor
    → IfOk result (ClaimedAs old k new) → OnErr result (new ≡ old) → IsInStep new cursor
claim_in_step old new cursor k (Ok answer) graph step ok err = claimed_in_step old new cursor k answer graph step ok
claim_in_step old new cursor k (Err memory) graph step ok err = same_in_step old new cursor err step

claimed_next_in_step : (old new : EngineValue) (cursor : ℕ) (answer : answers.Claim) → IsGraph old.plan.graph → IsInStep old cursor
    → ClaimedNextAs old new answer → IsInStep new cursor
claimed_next_in_step old new cursor (claim.Got turn) graph step h = moved_in_step old new cursor (Claim turn.node) graph step refl h.1.0
claimed_next_in_step old new cursor claim.NotReady graph step h = same_in_step old new cursor h.1 step

pub claim_next_in_step : (old new : EngineValue) (cursor : ℕ) (result : Result answers.Claim Memory) → IsGraph old.plan.graph → IsInStep old cursor
    → IfOk result (ClaimedNextAs old new) → OnErr result (new ≡ old) → IsInStep new cursor
claim_next_in_step old new cursor (Ok answer) graph step ok err = claimed_next_in_step old new cursor answer graph step ok
claim_next_in_step old new cursor (Err memory) graph step ok err = same_in_step old new cursor err step

settling_feeds : (k : ℕ) (o : Outcome) → fed_in (settling k o) ≡ []
settling_feeds k (outcome.Sent message) = refl
settling_feeds k outcome.Over = refl

deposited_in_step : (old new : EngineValue) (cursor : ℕ) (done : DoneValue) (answer : Deposit) → IsGraph old.plan.graph → IsInStep old cursor
    → DepositedAs old done new answer → IsInStep new cursor
deposited_in_step old new cursor done Settled graph step h =
    moved_in_step old new cursor (settling done.turn.node done.outcome) graph step (settling_feeds done.turn.node done.outcome) h.moved
deposited_in_step old new cursor done Reopened graph step h = moved_in_step old new cursor (Reopen done.turn.node) graph step refl h.1

pub deposit_in_step : (old new : EngineValue) (cursor : ℕ) (done : DoneValue) (result : Result Deposit Memory) → IsGraph old.plan.graph
    → IsInStep old cursor → IfOk result (DepositedAs old done new) → OnErr result (new ≡ old) → IsInStep new cursor
deposit_in_step old new cursor done (Ok answer) graph step ok err = deposited_in_step old new cursor done answer graph step ok
deposit_in_step old new cursor done (Err memory) graph step ok err = same_in_step old new cursor err step

-- ---- so the journal is legal

pub in_step_legal : (engine : EngineValue) (cursor : ℕ) → IsSound (planned engine) engine.position → IsInStep engine cursor
    → IsLegalFor (planned engine) engine.position.journal
in_step_legal engine cursor sound step =
    sound_legal (planned engine) engine.plan.script.items engine.position sound (
      drop cursor engine.plan.script.items,
      sym (take-append-drop cursor engine.plan.script.items) ∙ ap (λ (es : List Event). es ++ drop cursor engine.plan.script.items) (sym step.fed),
    )

-- and the cursor counts its input events
pub cursor_counts : (engine : EngineValue) (cursor : ℕ) → IsInStep engine cursor
    → length (inputs_in engine.plan.graph engine.position.journal) ≡ cursor
cursor_counts engine cursor step = ap length step.fed ∙ length-take-le cursor engine.plan.script.items step.within

-- ---- and the cursor is no large number

filter_few : {X : Type 0} (p : X → Bool) (xs : List X) → length (filter p xs) ≤ length xs
filter_few p [] = omega arith
filter_few p (x ∷ xs) = go (p x) (filter_few p xs)
  where
    go : (t : Bool) → length (filter p xs) ≤ length xs → length (cond t (x ∷ filter p xs) (filter p xs)) ≤ length (x ∷ xs)
    go true ih = omega arith
    go false ih = omega arith

inputs_few : (g : GraphValue) (j : List Event) → length (inputs_in g j) ≤ length j
unfolding inputs_in
inputs_few g j = filter_few (λ (e : Event). is_input g.nodes e.source) j

pub cursor_fits : (engine : EngineValue) (cursor : ℕ) → IsSound (planned engine) engine.position → IsInStep engine cursor → cursor + 1 < 2 ^ 64
cursor_fits engine cursor sound step =
    let counts : length (inputs_in engine.plan.graph engine.position.journal) ≡ cursor = cursor_counts engine cursor step in
    let few : length (inputs_in engine.plan.graph engine.position.journal) ≤ length engine.position.journal =
    inputs_few engine.plan.graph engine.position.journal in
    let within : length engine.position.journal ≤ engine.plan.limits.journal = sound.within in
    let most : engine.plan.limits.journal ≤ 16777216 = engine.plan.limits.journal_in_range.1 in
    omega (arith, counts, few, within, most)
