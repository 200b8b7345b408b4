-- Laws of positions, moves and runs.
use Rattle.std.specs.Prelude.{◌≡◌, ◌≢◌, ◌⊎◌, ℕ, suc, ◌+◌, ◌*◌, ◌^◌, ◌<◌, ◌≤◌, true, false, List, [], ◌∷◌, ◌++◌, Option, Some, None, length, map, drop, count_by, slice_get}
use Rattle.felm_term.specs.Values.{value_of}
use Rattle.felm_term.specs.declared.value.Value.{Value}
use Rattle.felm_term.specs.declared.message.Message.{Message}
use Rattle.felm_term.specs.declared.event.Event.{Event}
use Rattle.felm_graph.specs.Graphs.{IsGraph}
use Rattle.felm_graph.specs.Nodes.{is_source_kind, is_source, is_async, arguments_of}
use Rattle.felm_graph.specs.declared.node.Node.{Node}
use Rattle.felm_meaning.specs.declared.job.Job.{Job}
use Rattle.felm_meaning.specs.PlanValue.{PlanValue}
use Rattle.felm_meaning.specs.OfPlans.{DefaultsThereFor, msg_for, val_for, sends_for, IsLegalFor, IsCompleteFor, waiting_for, IsOverFor, IsFullFor}
use Rattle.felm_meaning.specs.Nodes.{inner, job_of}
use Rattle.felm_meaning.specs.Step.{step}
use Rattle.felm_meaning.specs.Meaning.{all_of, source_message, value_at, changed_in}
use Rattle.felm_meaning.specs.Journals.{NamesInputs, inputs_in}
use Rattle.felm_meaning.specs.Types.{EventsFit, TurnFits}
use Rattle.felm_core.specs.Positions.{StopValue, Position, done_at, is_out, Reads, HasRoom, HasTurn, IsSound, IsReady, IsSettled}
use Rattle.felm_core.specs.Contents.{edge_at, kept_at, waiting_at, outputs_at, settled_at, owed_at, turning}
use Rattle.felm_core.specs.Moves.{Move, Leads, Runs, IsScripted, with_next, sent, beginning, fed, progress, gain}

-- ---- soundness

-- where every default is there, the beginning is sound
abbrev pub BeginningsAreSound : Type 0
BeginningsAreSound = (plan : PlanValue) → DefaultsThereFor plan → IsSound plan (beginning plan.graph)

-- from a sound position every move leads to a sound one
abbrev pub MovesStaySound : Type 0
MovesStaySound =
    (plan : PlanValue) (position : Position) (move : Move) (after : Position) → IsGraph plan.graph → IsSound plan position
    → Leads plan position move after → IsSound plan after

-- and every run
abbrev pub RunsStaySound : Type 0
RunsStaySound =
    (plan : PlanValue) (position : Position) (moves : List Move) (after : Position) → IsGraph plan.graph → IsSound plan position
    → Runs plan position moves after → IsSound plan after

-- at the beginning edges, waiting lists and outputs are empty, and each node keeps its default
pub record BeginsEmpty (plan : PlanValue) : Type 0 where
  pub edges : (a k : ℕ) → edge_at plan (beginning plan.graph) a k ≡ []
  pub kept : (k : ℕ) → kept_at plan (beginning plan.graph) k ≡ val_for plan [] k 0
  pub waits : (a : ℕ) → waiting_at plan (beginning plan.graph) a ≡ []
  pub shown : outputs_at plan (beginning plan.graph) ≡ []
  pub settled : settled_at plan (beginning plan.graph) ≡ 0
  pub owed : (k : ℕ) → owed_at (beginning plan.graph) k ≡ 0

abbrev pub BeginningsAreEmpty : Type 0
BeginningsAreEmpty = (plan : PlanValue) → BeginsEmpty plan

-- where the journal and the done counts stay, as at a claim, at a turn over budget and where a turn is taken back, all that lies anywhere stays
pub record SameContents (plan : PlanValue) (position after : Position) : Type 0 where
  pub edges : (a k : ℕ) → edge_at plan after a k ≡ edge_at plan position a k
  pub kept : (k : ℕ) → kept_at plan after k ≡ kept_at plan position k
  pub waits : (a : ℕ) → waiting_at plan after a ≡ waiting_at plan position a
  pub shown : outputs_at plan after ≡ outputs_at plan position
  pub settled : settled_at plan after ≡ settled_at plan position
  pub owed : (k : ℕ) → owed_at after k ≡ owed_at position k

abbrev pub ContentsStay : Type 0
ContentsStay =
    (plan : PlanValue) (position after : Position) → after.journal ≡ position.journal → after.done ≡ position.done
    → SameContents plan position after

-- ---- after a sent turn

-- node k sends message m from a position
pub record Sends (plan : PlanValue) (position : Position) (k : ℕ) (m : Message) : Type 0 where
  pub graph : IsGraph plan.graph
  pub sound : IsSound plan position
  pub out : is_out position.out k ≡ true
  pub message : msg_for plan position.journal k (suc (done_at position.done k)) ≡ Some m

-- then each edge that reads k has m at its end, each edge of k's own has lost its first message, and the others stay
pub record SentEdges (plan : PlanValue) (position : Position) (k : ℕ) (m : Message) : Type 0 where
  pub put : (r port : ℕ) → Reads plan.graph.nodes r port k → edge_at plan (sent position k) k r ≡ edge_at plan position k r ++ m ∷ []
  pub taken : (port a : ℕ) → Reads plan.graph.nodes k port a → edge_at plan (sent position k) a k ≡ drop 1 (edge_at plan position a k)
  pub other : (a r : ℕ) → k ≢ a → k ≢ r → edge_at plan (sent position k) a r ≡ edge_at plan position a r

abbrev pub SendingMovesEdges : Type 0
SendingMovesEdges = (plan : PlanValue) (position : Position) (k : ℕ) (m : Message) → Sends plan position k m → SentEdges plan position k m

-- k keeps m's value; asyncs over k get the value of a change; the shown node's outputs get m; the rest stays
pub record SentParts (plan : PlanValue) (position : Position) (k : ℕ) (m : Message) : Type 0 where
  pub kept : kept_at plan (sent position k) k ≡ Some (value_of m)
  pub kept_other : (x : ℕ) → k ≢ x → kept_at plan (sent position k) x ≡ kept_at plan position x
  pub waits : (a : ℕ) → inner plan.graph.nodes a ≡ Some k
      → waiting_at plan (sent position k) a ≡ waiting_at plan position a ++ changed_in (Some m)
  pub waits_other : (a : ℕ) → inner plan.graph.nodes a ≢ Some k → waiting_at plan (sent position k) a ≡ waiting_at plan position a
  pub shown : plan.graph.main ≡ k → outputs_at plan (sent position k) ≡ outputs_at plan position ++ m ∷ []
  pub shown_other : plan.graph.main ≢ k → outputs_at plan (sent position k) ≡ outputs_at plan position

abbrev pub SendingMovesParts : Type 0
SendingMovesParts = (plan : PlanValue) (position : Position) (k : ℕ) (m : Message) → Sends plan position k m → SentParts plan position k m

-- one more turn is settled, and k owes one message less
pub record SentCounts (plan : PlanValue) (position : Position) (k : ℕ) : Type 0 where
  pub settled : settled_at plan (sent position k) ≡ suc (settled_at plan position)
  pub owed : owed_at position k ≡ suc (owed_at (sent position k) k)
  pub owed_other : (x : ℕ) → k ≢ x → owed_at (sent position k) x ≡ owed_at position x

abbrev pub SendingCounts : Type 0
SendingCounts = (plan : PlanValue) (position : Position) (k : ℕ) (m : Message) → Sends plan position k m → SentCounts plan position k

-- ---- after an event

-- an event of a source comes in at a position
pub record ComesIn (plan : PlanValue) (position : Position) (e : Event) : Type 0 where
  pub graph : IsGraph plan.graph
  pub sound : IsSound plan position
  pub source : is_source plan.graph.nodes e.source ≡ true

-- the message of source k at the event
abbrev pub source_sends : PlanValue → Position → Event → ℕ → Option Message
source_sends plan position e k = source_message k e (kept_at plan position k)

-- then each edge that reads a source has the source's message at its end, and the others stay
pub record EventEdges (plan : PlanValue) (position : Position) (e : Event) : Type 0 where
  pub put : (k r port : ℕ) (m : Message) → Reads plan.graph.nodes r port k → is_source plan.graph.nodes k ≡ true
      → source_sends plan position e k ≡ Some m → edge_at plan (with_next plan position e) k r ≡ edge_at plan position k r ++ m ∷ []
  pub other : (k r port : ℕ) → Reads plan.graph.nodes r port k → is_source plan.graph.nodes k ≡ false
      → edge_at plan (with_next plan position e) k r ≡ edge_at plan position k r

abbrev pub EventsMoveEdges : Type 0
EventsMoveEdges = (plan : PlanValue) (position : Position) (e : Event) → ComesIn plan position e → EventEdges plan position e

-- sources keep their messages' values; the async whose event it is loses its first value, and those over the event's source get its value;
-- where the shown node is a source the outputs get its message; the rest stays
pub record EventParts (plan : PlanValue) (position : Position) (e : Event) : Type 0 where
  pub kept : (k : ℕ) → is_source plan.graph.nodes k ≡ true
      → kept_at plan (with_next plan position e) k ≡ value_at (source_sends plan position e k)
  pub kept_other : (k : ℕ) → k < length plan.graph.nodes → is_source plan.graph.nodes k ≡ false
      → kept_at plan (with_next plan position e) k ≡ kept_at plan position k
  pub waits_own : (a x : ℕ) → inner plan.graph.nodes a ≡ Some x → e.source ≡ a
      → waiting_at plan (with_next plan position e) a ≡ drop 1 (waiting_at plan position a)
  pub waits_over : (a : ℕ) → inner plan.graph.nodes a ≡ Some e.source
      → waiting_at plan (with_next plan position e) a ≡ waiting_at plan position a ++ e.value ∷ []
  pub waits_other : (a : ℕ) → e.source ≢ a → inner plan.graph.nodes a ≢ Some e.source
      → waiting_at plan (with_next plan position e) a ≡ waiting_at plan position a
  pub shown : (m : Message) → is_source plan.graph.nodes plan.graph.main ≡ true → source_sends plan position e plan.graph.main ≡ Some m
      → outputs_at plan (with_next plan position e) ≡ outputs_at plan position ++ m ∷ []
  pub shown_other : is_source plan.graph.nodes plan.graph.main ≡ false
      → outputs_at plan (with_next plan position e) ≡ outputs_at plan position

abbrev pub EventsMoveParts : Type 0
EventsMoveParts = (plan : PlanValue) (position : Position) (e : Event) → ComesIn plan position e → EventParts plan position e

-- no turn is settled, and each node that is no source owes one message more
pub record EventCounts (plan : PlanValue) (position : Position) (e : Event) : Type 0 where
  pub settled : settled_at plan (with_next plan position e) ≡ settled_at plan position
  pub owed : (k : ℕ) → k < length plan.graph.nodes → is_source plan.graph.nodes k ≡ false
      → owed_at (with_next plan position e) k ≡ suc (owed_at position k)
  pub owed_source : (k : ℕ) → is_source plan.graph.nodes k ≡ true → owed_at (with_next plan position e) k ≡ 0

abbrev pub EventsCount : Type 0
EventsCount = (plan : PlanValue) (position : Position) (e : Event) → ComesIn plan position e → EventCounts plan position e

-- ---- turns

-- an edge holds one message for each turn that its reader is behind, the first of which is the one at the reader's next position
abbrev pub EdgesHoldWhatIsDue : Type 0
EdgesHoldWhatIsDue =
    (plan : PlanValue) (position : Position) (k port a : ℕ) → IsGraph plan.graph → IsSound plan position → Reads plan.graph.nodes k port a
    → (done_at position.done k + length (edge_at plan position a k) ≡ done_at position.done a)
    × (done_at position.done k < done_at position.done a
    → slice_get (edge_at plan position a k) 0 ≡ msg_for plan position.journal a (suc (done_at position.done k)))

-- the first messages of the edges of a node, in the order of its ports
abbrev pub heads_at : PlanValue → Position → ℕ → Option (List Message)
heads_at plan position k = all_of (map (λ a. slice_get (edge_at plan position a k) 0) (arguments_of plan.graph.nodes k))

-- where a node has a turn, its step over what lies there is its message at its next position, and its types fit where the events' do
abbrev pub TurnsGiveTheMessages : Type 0
TurnsGiveTheMessages =
    (plan : PlanValue) (position : Position) (k : ℕ) (job : Job) (old : Value) (ms : List Message) → IsGraph plan.graph
    → IsSound plan position → HasTurn plan position.done k → job_of plan.graph.nodes k ≡ Some job → kept_at plan position k ≡ Some old
    → heads_at plan position k ≡ Some ms
    → (msg_for plan position.journal k (suc (done_at position.done k)) ≡ step job old ms plan.budget)
    × (EventsFit plan.graph position.journal → TurnFits job old ms)

-- ---- a run never sticks

-- with no turn out and no stop, all is settled or some node is ready
abbrev pub NeverSticks : Type 0
NeverSticks =
    (plan : PlanValue) (position : Position) → IsGraph plan.graph → IsSound plan position → 1 ≤ plan.capacity
    → ((k : ℕ) → is_out position.out k ≡ false) → position.stop ≡ None → IsSettled plan position ⊎ ((k : ℕ) × IsReady plan position k)

-- what holds where all is settled
pub record Rests (plan : PlanValue) (position : Position) : Type 0 where
  pub none_ready : (k : ℕ) → ¬ IsReady plan position k
  pub room : 1 ≤ plan.capacity → (k : ℕ) → is_source plan.graph.nodes k ≡ true → HasRoom plan position.done k
  pub done : (k : ℕ) → k < length plan.graph.nodes → done_at position.done k ≡ length position.journal
  pub shown : outputs_at plan position ≡ sends_for plan position.journal plan.graph.main (length position.journal)
  -- what waits first is what waits after the journal
  pub waits : (a : ℕ) → slice_get (waiting_at plan position a) 0 ≡ waiting_for plan position.journal a
  pub turns : settled_at plan position ≡ length position.journal * turning plan.graph.nodes (length plan.graph.nodes)

abbrev pub SettledRests : Type 0
SettledRests =
    (plan : PlanValue) (position : Position) → IsGraph plan.graph → IsSound plan position → IsSettled plan position → Rests plan position

-- no more turns are taken than there are
abbrev pub TurnsAreCounted : Type 0
TurnsAreCounted =
    (plan : PlanValue) (position : Position) → IsGraph plan.graph → IsSound plan position
    → settled_at plan position ≤ length position.journal * turning plan.graph.nodes (length plan.graph.nodes)

-- the nodes that take turns are those that are no sources
abbrev pub TurnNodesAreCounted : Type 0
TurnNodesAreCounted = (nodes : List Node) → turning nodes (length nodes) + count_by (λ node. is_source_kind node.kind) nodes ≡ length nodes

-- ---- journals

-- a legal journal has at most as many events as its script, doubled once for each async
abbrev pub LegalJournalsAreBounded : Type 0
LegalJournalsAreBounded =
    (plan : PlanValue) (journal : List Event) → IsGraph plan.graph → IsLegalFor plan journal
    → length journal ≤ length plan.script * 2 ^ count_by is_async plan.graph.nodes

-- a run only adds events
abbrev pub RunsGrow : Type 0
RunsGrow =
    (plan : PlanValue) (position : Position) (moves : List Move) (after : Position) → Runs plan position moves after
    → (rest : List Event) × (after.journal ≡ position.journal ++ rest)

-- its input events are those that it was fed
abbrev pub RunsHaveWhatTheyAreFed : Type 0
RunsHaveWhatTheyAreFed =
    (plan : PlanValue) (position : Position) (moves : List Move) (after : Position) → IsGraph plan.graph → Runs plan position moves after
    → inputs_in plan.graph after.journal ≡ inputs_in plan.graph position.journal ++ fed moves

-- a sound position whose input events are the first ones of the script has a legal journal
abbrev pub SoundJournalsAreLegal : Type 0
SoundJournalsAreLegal =
    (plan : PlanValue) (position : Position) (rest : List Event) → IsSound plan position
    → plan.script ≡ inputs_in plan.graph position.journal ++ rest → IsLegalFor plan position.journal

-- so a run that is fed by the script has a legal journal
abbrev pub ScriptedRunsAreLegal : Type 0
ScriptedRunsAreLegal =
    (plan : PlanValue) (moves : List Move) (after : Position) → IsGraph plan.graph → DefaultsThereFor plan → IsScripted plan moves
    → Runs plan (beginning plan.graph) moves after → IsLegalFor plan after.journal

-- events keep their nodes' types
abbrev pub RunsKeepTypes : Type 0
RunsKeepTypes =
    (plan : PlanValue) (position : Position) (moves : List Move) (after : Position) → IsGraph plan.graph → IsSound plan position
    → EventsFit plan.graph position.journal → Runs plan position moves after → EventsFit plan.graph after.journal

-- what a run from the beginning comes to: a sound position, whose events have their nodes' types, with a legal journal where the script feeds it
pub record ComesTo (plan : PlanValue) (moves : List Move) (position : Position) : Type 0 where
  pub sound : IsSound plan position
  pub typed : EventsFit plan.graph position.journal
  pub legal : IsScripted plan moves → IsLegalFor plan position.journal

abbrev pub RunsComeToSoundPositions : Type 0
RunsComeToSoundPositions =
    (plan : PlanValue) (moves : List Move) (position : Position) → IsGraph plan.graph → DefaultsThereFor plan
    → Runs plan (beginning plan.graph) moves position → ComesTo plan moves position

-- ---- ends

-- where all is settled, nothing waits and the script is used, the journal is complete
abbrev pub WhatRestsIsComplete : Type 0
WhatRestsIsComplete =
    (plan : PlanValue) (position : Position) → IsGraph plan.graph → IsSound plan position → IsLegalFor plan position.journal
    → IsSettled plan position → ((a : ℕ) → a < length plan.graph.nodes → waiting_at plan position a ≡ [])
    → length plan.script ≤ length (inputs_in plan.graph position.journal) → IsCompleteFor plan position.journal

-- where all is settled at the limit and something is still to enter, the journal is full
abbrev pub WhatRestsAtTheLimitIsFull : Type 0
WhatRestsAtTheLimitIsFull =
    (plan : PlanValue) (position : Position) → IsGraph plan.graph → IsSound plan position → IsLegalFor plan position.journal
    → IsSettled plan position → length position.journal ≡ plan.limit
    → (length (inputs_in plan.graph position.journal) < length plan.script)
    ⊎ ((a : ℕ) × (v : Value) × (slice_get (waiting_at plan position a) 0 ≡ Some v)) → IsFullFor plan position.journal

-- a stop is a call over budget
abbrev pub StopsAreOverBudget : Type 0
StopsAreOverBudget =
    (plan : PlanValue) (position : Position) (stop : StopValue) → IsGraph plan.graph → IsSound plan position → position.stop ≡ Some stop
    → IsOverFor plan position.journal stop.node stop.position

-- ---- limits

-- where the limit is at least the bound on legal journals, an event that can come in finds place
abbrev pub PlaceIsLeft : Type 0
PlaceIsLeft =
    (plan : PlanValue) (position : Position) → IsGraph plan.graph → IsSound plan position → NamesInputs plan.graph.nodes plan.script
    → IsLegalFor plan position.journal → length plan.script * 2 ^ count_by is_async plan.graph.nodes ≤ plan.limit
    → ((e : Event) → slice_get plan.script (length (inputs_in plan.graph position.journal)) ≡ Some e → length position.journal < plan.limit)
    × ((a : ℕ) (v : Value) → slice_get (waiting_at plan position a) 0 ≡ Some v → length position.journal < plan.limit)

-- each move takes a run as much further as it gains
abbrev pub MovesGain : Type 0
MovesGain =
    (plan : PlanValue) (position : Position) (move : Move) (after : Position) → IsGraph plan.graph → IsSound plan position
    → Leads plan position move after → progress plan after ≡ progress plan position + gain move

-- and no run goes further than to this
abbrev pub ProgressIsBounded : Type 0
ProgressIsBounded =
    (plan : PlanValue) (position : Position) → IsGraph plan.graph → IsSound plan position
    → progress plan position ≤ plan.limit + plan.limit * turning plan.graph.nodes (length plan.graph.nodes)
