-- What lies where at a position: each is a function of the meaning there.
use Rattle.std.specs.Prelude.{ℕ, zero, suc, ◌+◌, ◌-◌, if◌then◌else◌, List, [], Option, length, drop}
use Rattle.std.specs.Option.{option_map_or}
use Rattle.felm_term.specs.declared.value.Value.{Value}
use Rattle.felm_term.specs.declared.message.Message.{Message}
use Rattle.felm_graph.specs.declared.node.Node.{Node}
use Rattle.felm_graph.specs.Nodes.{is_source}
use Rattle.felm_meaning.specs.PlanValue.{PlanValue}
use Rattle.felm_meaning.specs.OfPlans.{val_for, changes_for, sends_for, edge_for}
use Rattle.felm_meaning.specs.Nodes.{inner}
use Rattle.felm_meaning.specs.Journals.{entered}
use Rattle.felm_core.specs.Positions.{Position, done_at}

-- ---- contents

-- the edge from node a into node k: what a has sent and k hasn't taken
unfoldable pub edge_at : PlanValue → Position → ℕ → ℕ → List Message
edge_at plan position a k = edge_for plan position.journal a (done_at position.done k) (done_at position.done a)

-- the value in the last message of node k, at first its default
unfoldable pub kept_at : PlanValue → Position → ℕ → Option Value
kept_at plan position k = val_for plan position.journal k (done_at position.done k)

-- the changes that the inner signal of async a has sent, without those that are events already; none at another node
unfoldable pub waiting_at : PlanValue → Position → ℕ → List Value
waiting_at plan position a =
    option_map_or (λ x. drop (entered position.journal a) (changes_for plan position.journal x (done_at position.done x)))
    (inner plan.graph.nodes a) []

-- what the shown node has sent
unfoldable pub outputs_at : PlanValue → Position → List Message
outputs_at plan position = sends_for plan position.journal plan.graph.main (done_at position.done plan.graph.main)

-- ---- counts

-- how many turns were taken by those of the first n nodes that are no sources
unfoldable pub turns_of : List Node → List ℕ → ℕ → ℕ
turns_of nodes done zero = 0
turns_of nodes done (suc n) = turns_of nodes done n + (if is_source nodes n then 0 else done_at done n)

-- how many turns were taken
abbrev pub settled_at : PlanValue → Position → ℕ
settled_at plan position = turns_of plan.graph.nodes position.done (length plan.graph.nodes)

-- how many events node k has sent no message at yet: as much room is kept for what it will send
abbrev pub owed_at : Position → ℕ → ℕ
owed_at position k = length position.journal - done_at position.done k

-- how many of the first n nodes are no sources
unfoldable pub turning : List Node → ℕ → ℕ
turning nodes zero = 0
turning nodes (suc n) = turning nodes n + (if is_source nodes n then 0 else 1)
