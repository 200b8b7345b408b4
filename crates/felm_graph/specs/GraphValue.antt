-- A graph as contracts see it.
use Rattle.std.specs.Prelude.{ℕ, List}
use Rattle.felm_term.specs.declared.input.InputDecl.{InputDecl}
use Rattle.felm_graph.specs.declared.node.Node.{Node}

pub record GraphValue : Type 0 where
  -- in the order of their numbers
  pub nodes : List Node
  -- as they were declared
  pub inputs : List InputDecl
  -- the number of the node that is shown
  pub main : ℕ
