-- The node step: what a lift or a foldp sends at a turn.
use Rattle.std.specs.Prelude.{ℕ, Bool, true, false, if◌then◌else◌, List, [], ◌∷◌, Option, Some, None, map}
use Rattle.std.specs.List.{list_any}
use Rattle.std.specs.Option.{option_map}
use Rattle.felm_term.specs.Values.{term_of, value_of}
use Rattle.felm_term.specs.declared.value.Value.{Value}
use Rattle.felm_term.specs.declared.message.Message.{Message}
use Rattle.felm_term.specs.declared.message.Message.TheVariants.{Change, NoChange}
use Rattle.felm_laws.specs.Calls.{call}
use Rattle.felm_graph.specs.Layout.{value_in}
use Rattle.felm_meaning.specs.declared.job.Job.{Job}
use Rattle.felm_meaning.specs.declared.job.Job.TheVariants as job

-- the value of a call of a function on these values, the first one innermost, within a budget of steps; or none
unfoldable pub call_value : Value → List Value → ℕ → Option Value
call_value f arguments b = option_map value_in (call (term_of f) (map term_of arguments) b)

-- whether a message says that its signal changed
abbrev pub is_change : Message → Bool
is_change (Change value) = true
is_change (NoChange value) = false

-- Change of a call's value, or none where the call is none
abbrev pub change_of : Option Value → Option Message
change_of value = option_map (λ v. Change v) value

-- a lift: the call of its function on its arguments' values where some argument's message is Change, else its previous value
abbrev pub lift_step : Value → Value → List Message → ℕ → Option Message
lift_step f old messages b =
    if list_any is_change messages then change_of (call_value f (map value_of messages) b) else Some (NoChange old)

-- a foldp: on Change v the call of its function on v and then its previous value, else its previous value; it has one argument
abbrev pub foldp_step : Value → Value → List Message → ℕ → Option Message
foldp_step f old (Change v ∷ []) b = change_of (call_value f (v ∷ old ∷ []) b)
foldp_step f old (NoChange v ∷ []) b = Some (NoChange old)
foldp_step f old _ b = None

-- what a node with this job sends, by its previous value, its arguments' messages and a budget; none where its call is none
unfoldable pub step : Job → Value → List Message → ℕ → Option Message
step (job.Lift f) old messages b = lift_step f old messages b
step (job.Foldp f) old messages b = foldp_step f old messages b
