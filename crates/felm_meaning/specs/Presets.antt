-- The defaults of a graph, as the code comes to them.
use Rattle.std.specs.Prelude.{◌≡◌, ◌<◌, List, [], ℕ, All, None, length, slice_get}
use Rattle.felm_term.specs.declared.value.Value.{Value}
use Rattle.felm_graph.specs.GraphValue.{GraphValue}
use Rattle.felm_graph.specs.declared.node.NodeKind.{NodeKind}
use Rattle.felm_graph.specs.declared.node.NodeKind.TheVariants as kind
use Rattle.felm_meaning.specs.declared.preset.Preset.{Preset}
use Rattle.felm_meaning.specs.declared.preset.Preset.TheVariants as preset
use Rattle.felm_meaning.specs.Meaning.{val, IsThere}
use Rattle.felm_meaning.specs.PlanValue.{PlanValue}
use Rattle.felm_meaning.specs.Values.{values_at}
use Rattle.felm_meaning.specs.Types.{IsCallable}

-- the default of every node in order; or the least node that has none
abbrev pub IsPreset : GraphValue → ℕ → Preset → Type 0
IsPreset g b (preset.All values) =
    (length values.items ≡ length g.nodes) × ((k : ℕ) → k < length g.nodes → val g b [] k 0 ≡ slice_get values.items k)
IsPreset g b (preset.Over node) =
    (node < length g.nodes) × (val g b [] node 0 ≡ None) × ((k : ℕ) → k < node → IsThere (val g b [] k 0))

-- the same of a plan
abbrev pub IsPresetFor : PlanValue → Preset → Type 0
IsPresetFor plan preset = IsPreset plan.graph plan.budget preset

-- a lift's function may be called on the values at its arguments
abbrev pub IsLiftable : List Value → NodeKind → Type 0
IsLiftable values (kind.Lift f arguments) = All (λ a. a < length values) arguments × IsCallable f (values_at values arguments)
IsLiftable values _ = Unit {0}
