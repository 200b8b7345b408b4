-- What a graph's nodes are to the meaning: inputs, asyncs over a signal, or nodes with a job.
use Rattle.std.specs.Prelude.{ℕ, Bool, true, false, List, Option, Some, None, slice_get}
use Rattle.std.specs.Option.{option_map_or, option_and_then}
use Rattle.felm_graph.specs.declared.node.Node.{Node}
use Rattle.felm_graph.specs.declared.node.NodeKind.{NodeKind}
use Rattle.felm_graph.specs.declared.node.NodeKind.TheVariants as kind
use Rattle.felm_meaning.specs.declared.job.Job.{Job}
use Rattle.felm_meaning.specs.declared.job.Job.TheVariants as job

-- a declared input
abbrev pub is_input_kind : NodeKind → Bool
is_input_kind (kind.Input number) = true
is_input_kind (kind.Lift function arguments) = false
is_input_kind (kind.Foldp function base argument) = false
is_input_kind (kind.Async argument) = false

-- the same of the node with a number; there are none past the last node
abbrev pub is_input : List Node → ℕ → Bool
is_input nodes k = option_map_or (λ node. is_input_kind node.kind) (slice_get nodes k) false

-- the inner signal of an async, whose changes it passes on
abbrev pub inner_of_kind : NodeKind → Option ℕ
inner_of_kind (kind.Input number) = None
inner_of_kind (kind.Lift function arguments) = None
inner_of_kind (kind.Foldp function base argument) = None
inner_of_kind (kind.Async argument) = Some argument

-- the same of the node with a number
abbrev pub inner : List Node → ℕ → Option ℕ
inner nodes k = option_and_then (λ node. inner_of_kind node.kind) (slice_get nodes k)

-- what a node does at its turns: none for a source
abbrev pub job_of_kind : NodeKind → Option Job
job_of_kind (kind.Input number) = None
job_of_kind (kind.Lift function arguments) = Some (job.Lift function)
job_of_kind (kind.Foldp function base argument) = Some (job.Foldp function)
job_of_kind (kind.Async argument) = None

-- the same of the node with a number
abbrev pub job_of : List Node → ℕ → Option Job
job_of nodes k = option_and_then (λ node. job_of_kind node.kind) (slice_get nodes k)
