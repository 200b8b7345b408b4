-- Frames, and the nodes that they make of the part at hand.
use Rattle.std.specs.Prelude.{◌≡◌, ℕ, ◌+◌, ◌<◌, ◌≤◌, List, [], ◌∷◌, ◌++◌, length, Option, Some, None}
use Rattle.felm_term.specs.CoreTerm.{CoreTerm, CoreTerms, Lift, Foldp, Async, End, More}
use Rattle.felm_graph.specs.declared.node.Node.{Node}
use Rattle.felm_graph.specs.declared.frame.Frame.{Frame}
use Rattle.felm_graph.specs.declared.frame.Frame.TheVariants as frame
use Rattle.felm_graph.specs.declared.lay.Ascent.{Ascent}
use Rattle.felm_graph.specs.declared.lay.Ascent.TheVariants as ascent
use Rattle.felm_graph.specs.Layout.{Part, with_node, lift_node, foldp_node, async_node, lay, lay_all}
use Rattle.felm_graph.specs.Layable.{IsLayable, AreReady}
use Rattle.felm_graph.specs.Graphs.{most_nodes}

abbrev pub part : List Node → ℕ → Part
part nodes root = record { nodes = nodes; root = root }

-- beside shared signals with these roots
module _ (shared : List ℕ) where
  -- the part of a frame's term, once the one at hand is laid out
  abbrev pub around : Frame → Part → Part
  around (frame.Lift f done rest) p = let a = lay_all shared p.nodes rest.now in with_node a.nodes (lift_node f (done ++ p.root ∷ a.roots))
  around (frame.Foldp f base) p = with_node p.nodes (foldp_node f base p.root)
  around frame.Async p = with_node p.nodes (async_node p.nodes p.root)

  -- the part of the whole term; the first frame is the outermost
  abbrev pub replay : List Frame → Part → Part
  replay [] p = p
  replay (f ∷ frames) p = around f (replay frames p)

abbrev mutual
  -- how many places are still to be looked at: in a term
  pub work : CoreTerm → ℕ
  work (Lift f ts) = work_all ts + 1
  work (Foldp f b s) = work s + 1
  work (Async s) = work s + 1
  work _ = 1

  -- in arguments
  pub work_all : CoreTerms → ℕ
  work_all End = 0
  work_all (More t ts) = work t + work_all ts

-- in what a frame holds
abbrev pub work_in : Frame → ℕ
work_in (frame.Lift f done rest) = work_all rest.now + 1
work_in _ = 1

-- in what all frames hold
abbrev pub weight : List Frame → ℕ
weight [] = 0
weight (f ∷ frames) = work_in f + weight frames

-- a part that is laid out, and has no more nodes than may be; or one that has more
abbrev pub IsLaid : Part → List Node → Option ℕ → Type 0
IsLaid p nodes (Some root) = (part nodes root ≡ p) × (length nodes ≤ most_nodes)
IsLaid p nodes None = most_nodes < length p.nodes

-- what is above a part, with these frames and nodes before and those after: a next part with less that is left
module _ (shared : List ℕ) (old : List Frame) (before : List Node) (root : ℕ) (new : List Frame) (after : List Node) where
  abbrev pub Leads : Ascent → Type 0
  Leads (ascent.Up r) =
      (replay shared new (part after r) ≡ replay shared old (part before root)) × (weight new < weight old)
      × AreReady (length shared) new × (length after ≤ most_nodes)
  Leads ascent.Done = (old ≡ []) × (new ≡ []) × (after ≡ before)
  Leads ascent.Large = most_nodes < length (replay shared old (part before root)).nodes

abbrev pub ascent_of : Option ℕ → Ascent
ascent_of (Some root) = ascent.Up root
ascent_of None = ascent.Large

-- on the way down: frames and the term at hand, which stand for a whole term in the first frames
pub record Descends (shared : List ℕ) (start : List Frame) (whole : CoreTerm) (frames : List Frame) (t : CoreTerm) : Type 0 where
  pub same : (nodes : List Node) → replay shared frames (lay shared nodes t) ≡ replay shared start (lay shared nodes whole)
  pub less : weight frames + work t ≤ weight start + work whole
  pub layable : IsLayable (length shared) t
  pub ready : AreReady (length shared) frames

-- between two ascents: frames and the part at hand, which stand for a whole term
pub record Ascends (shared : List ℕ) (start : List Node) (whole : CoreTerm) (frames : List Frame) (nodes : List Node) (root : ℕ) : Type 0 where
  pub same : replay shared frames (part nodes root) ≡ lay shared start whole
  pub ready : AreReady (length shared) frames
  pub few : length nodes ≤ most_nodes
