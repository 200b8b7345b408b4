-- Laws of the meaning and of journals.
use Rattle.std.specs.Prelude.{◌≡◌, ◌↔◌, ℕ, suc, ◌+◌, ◌<◌, ◌≤◌, List, [], Option, Some, None, IsTrue, length, map, take, slice_get}
use Rattle.felm_term.specs.declared.value.Value.{Value}
use Rattle.felm_term.specs.declared.message.Message.{Message}
use Rattle.felm_term.specs.declared.event.Event.{Event}
use Rattle.felm_graph.specs.declared.node.Node.{Node}
use Rattle.felm_graph.specs.GraphValue.{GraphValue}
use Rattle.felm_graph.specs.Graphs.{IsOfType, IsGraph}
use Rattle.felm_meaning.specs.Nodes.{inner, job_of}
use Rattle.felm_meaning.specs.declared.job.Job.{Job}
use Rattle.felm_graph.specs.Nodes.{arguments_of}
use Rattle.felm_term.specs.Events.{all_fit}
use Rattle.felm_meaning.specs.Step.{call_value}
use Rattle.felm_meaning.specs.Meaning.{all_of, msg, val, changes, edge, IsThere}
use Rattle.felm_meaning.specs.Journals.{entered, IsCaused, IsLegal, IsComplete, NamesInputs, AllThere, next, plain_journal}
use Rattle.felm_meaning.specs.Words.{IsCall, IsMeaning, HasCauses, IsNext, IsPlainJournal}
use Rattle.felm_meaning.specs.Types.{EventsFit, TurnFits}

-- every default is there
abbrev pub DefaultsThere : GraphValue → ℕ → Type 0
DefaultsThere g b = (k : ℕ) → k < length g.nodes → IsThere (val g b [] k 0)

-- ---- the meaning

-- a call is the one by reduction
abbrev pub CallsAreByReduction : Type 0
CallsAreByReduction = (f : Value) (arguments : List Value) (b : ℕ) (v : Option Value) → IsCall f arguments b v ↔ (v ≡ call_value f arguments b)

-- the meaning meets the recursion on position and node
abbrev pub MeaningIsTheRecursion : Type 0
MeaningIsTheRecursion = (g : GraphValue) (b : ℕ) (j : List Event) → IsGraph g → IsMeaning g b j (val g b j) (msg g b j)

-- whatever meets the recursion is the meaning, at each node and position of the journal
abbrev pub OnlyTheMeaningIs : Type 0
OnlyTheMeaningIs =
    (g : GraphValue) (b : ℕ) (j : List Event) (value : ℕ → ℕ → Option Value) (message : ℕ → ℕ → Option Message) → IsGraph g
    → IsMeaning g b j value message
    → ((k p : ℕ) → k < length g.nodes → p ≤ length j → value k p ≡ val g b j k p)
    × ((k p : ℕ) → k < length g.nodes → p < length j → message k (suc p) ≡ msg g b j k (suc p))

-- at positions up to q the meaning is that over the first q events
abbrev pub PrefixesAreEnough : Type 0
PrefixesAreEnough =
    (g : GraphValue) (b : ℕ) (j : List Event) (k p q : ℕ) → p ≤ q
    → (msg g b j k p ≡ msg g b (take q j) k p) × (val g b j k p ≡ val g b (take q j) k p)

-- where every default is there, a node has messages up to some position and none after it
abbrev pub NoneFollowsNone : Type 0
NoneFollowsNone =
    (g : GraphValue) (b : ℕ) (j : List Event) (k p q : ℕ) → IsGraph g → DefaultsThere g b → k < length g.nodes → p ≤ q
    → IsThere (msg g b j k q) → IsThere (msg g b j k p)

-- where each event's value has its source's type, each value has its node's type
abbrev pub ValuesHaveTheirTypes : Type 0
ValuesHaveTheirTypes =
    (g : GraphValue) (b : ℕ) (j : List Event) (k p : ℕ) (node : Node) (v : Value) → IsGraph g → EventsFit g j → slice_get g.nodes k ≡ Some node
    → val g b j k p ≡ Some v → IsOfType node.ty v

-- the types of a turn of the meaning fit
abbrev pub TurnsFit : Type 0
TurnsFit =
    (g : GraphValue) (b : ℕ) (j : List Event) (k p : ℕ) (node : Node) (job : Job) (old : Value) (messages : List Message) → IsGraph g → EventsFit g j
    → slice_get g.nodes k ≡ Some node → job_of g.nodes k ≡ Some job → val g b j k p ≡ Some old
    → all_of (map (λ a. msg g b j a (suc p)) (arguments_of g.nodes k)) ≡ Some messages → TurnFits job old messages

-- an edge has one message a position, where they are there
abbrev pub EdgesHoldTheMessages : Type 0
EdgesHoldTheMessages =
    (g : GraphValue) (b : ℕ) (j : List Event) (k r w : ℕ) → r ≤ w → ((p : ℕ) → p < w → IsThere (msg g b j k (suc p)))
    → (r + length (edge g b j k r w) ≡ w) × ((i : ℕ) → r + i < w → slice_get (edge g b j k r w) i ≡ msg g b j k (suc (r + i)))

-- ---- journals

-- each event of an async has its cause by its number exactly where it has it at an earlier position
abbrev pub CausesComeBefore : Type 0
CausesComeBefore = (g : GraphValue) (b : ℕ) (j : List Event) → IsCaused g b j ↔ HasCauses g b j

-- in a legal journal an async has at most as many events up to a position as its inner signal has changes up to there
abbrev pub EventsFollowChanges : Type 0
EventsFollowChanges =
    (g : GraphValue) (b : ℕ) (j : List Event) (a x p : ℕ) → IsCaused g b j → inner g.nodes a ≡ Some x → p ≤ length j
    → entered (take p j) a ≤ length (changes g b j x p)

-- where each event of a script is of an input and its type, it is of an input's node, and each value has its node's type
abbrev pub ScriptsFit : Type 0
ScriptsFit =
    (g : GraphValue) (script : List Event) → IsGraph g → IsTrue (all_fit g.inputs script) → NamesInputs g.nodes script × EventsFit g script

-- so it is in a legal journal of such a script
abbrev pub LegalJournalsFit : Type 0
LegalJournalsFit = (g : GraphValue) (b : ℕ) (script j : List Event) → IsGraph g → EventsFit g script → IsLegal g b script j → EventsFit g j

-- the next event is that of the least async that waits, else the script's next
abbrev pub NextIsTheLeast : Type 0
NextIsTheLeast = (g : GraphValue) (b : ℕ) (script j : List Event) → IsNext g b script j (next g b script j)

-- the plain journal grows while it can, and no longer
abbrev pub PlainJournalGrows : Type 0
PlainJournalGrows = (g : GraphValue) (b : ℕ) (script : List Event) (limit : ℕ) → IsPlainJournal g b script limit (plain_journal g b script limit)

-- no other journal does
abbrev pub OnlyThePlainJournalDoes : Type 0
OnlyThePlainJournalDoes =
    (g : GraphValue) (b : ℕ) (script j : List Event) (limit : ℕ) → IsPlainJournal g b script limit j → j ≡ plain_journal g b script limit

-- the plain journal of a script for inputs is legal
abbrev pub PlainJournalIsLegal : Type 0
PlainJournalIsLegal =
    (g : GraphValue) (b : ℕ) (script : List Event) (limit : ℕ) → NamesInputs g.nodes script → IsLegal g b script (plain_journal g b script limit)

-- a legal journal with every default, every message at its end and no next event is complete
abbrev pub WhatEndsIsComplete : Type 0
WhatEndsIsComplete =
    (g : GraphValue) (b : ℕ) (script j : List Event) → IsGraph g → IsLegal g b script j → DefaultsThere g b → AllThere g b j
    → next g b script j ≡ None → IsComplete g b script j

-- without asyncs the script is the one complete journal, if there is one
abbrev pub WithoutAsyncsTheScriptIs : Type 0
WithoutAsyncsTheScriptIs =
    (g : GraphValue) (b : ℕ) (script j : List Event) → ((a x : ℕ) → ¬ (inner g.nodes a ≡ Some x)) → IsComplete g b script j → j ≡ script
