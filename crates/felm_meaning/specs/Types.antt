-- The types of what flows through a graph.
use Rattle.std.specs.Prelude.{◌≡◌, ℕ, List, [], ◌∷◌, Some, map, slice_get, IsTrue}
use Rattle.felm_term.specs.CoreType.{CoreType, Arrow, is_simple}
use Rattle.felm_term.specs.Values.{value_of}
use Rattle.felm_term.specs.declared.value.Value.{Value}
use Rattle.felm_term.specs.declared.message.Message.{Message}
use Rattle.felm_term.specs.declared.event.Event.{Event}
use Rattle.felm_graph.specs.declared.node.Node.{Node}
use Rattle.felm_graph.specs.GraphValue.{GraphValue}
use Rattle.felm_graph.specs.Graphs.{IsOfType}
use Rattle.felm_meaning.specs.declared.job.Job.{Job}
use Rattle.felm_meaning.specs.declared.job.Job.TheVariants as job

-- the value of each event has the type of its source's values
abbrev pub EventsFit : GraphValue → List Event → Type 0
EventsFit g j =
    (p : ℕ) (e : Event) (node : Node) → slice_get j p ≡ Some e → slice_get g.nodes e.source ≡ Some node → IsOfType node.ty e.value

-- a function of type p takes these values one by one, and then gives a value of type r
abbrev pub Takes : CoreType → List Value → CoreType → Type 0
Takes p [] r = p ≡ r
Takes p (v ∷ more) r = (q : CoreType) × (rest : CoreType) × (p ≡ Arrow q rest) × IsOfType q v × Takes rest more r

-- the call of a function on these values gives values of type r
abbrev pub CallFits : Value → List Value → CoreType → Type 0
CallFits f values r = (p : CoreType) × IsOfType p f × Takes p values r

-- the function of a job may be called at a turn, on the values in these messages and, of a foldp, the previous one
abbrev pub JobFits : Job → Value → List Message → CoreType → Type 0
JobFits (job.Lift f) old messages r = CallFits f (map value_of messages) r
JobFits (job.Foldp f) old messages r = (m : Message) × (messages ≡ m ∷ []) × CallFits f (value_of m ∷ old ∷ []) r

-- the types of a turn fit: what its function gives and its previous value have one simple type
pub record TurnFits (job : Job) (previous : Value) (inputs : List Message) : Type 0 where
  pub type : CoreType
  pub simple : IsTrue (is_simple type)
  pub called : JobFits job previous inputs type
  pub kept : IsOfType type previous

-- the call of a function on these values may be reduced: it has a simple type
abbrev pub IsCallable : Value → List Value → Type 0
IsCallable f values = (r : CoreType) × IsTrue (is_simple r) × CallFits f values r
