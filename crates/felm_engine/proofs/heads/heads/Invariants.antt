use Rattle.std.proofs.Common.{◌≡◌, ℕ, ◌<◌, length}
use Rattle.std.specs.List.{slice_get}
use Rattle.felm_edges.specs.EdgesValue.{edge_in}
use Rattle.felm_engine.proofs.heads.heads.Given as goal

abbrev pub invariant-loop-port : goal.invariant-loop-port
invariant-loop-port l = record {
  count : length l.inputs ≡ l.port;
  first : (p : ℕ) → p < l.port → slice_get l.inputs p ≡ slice_get (edge_in l.edges l.node p) 0;
}
