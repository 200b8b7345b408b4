use Rattle.std.proofs.Common.{ℕ}
use Rattle.felm_edges.specs.EdgesValue.{HasRoomIn}
use Rattle.felm_engine.proofs.EachSource.{IsAmong}
use Rattle.felm_engine.proofs.sources.have_room.Given as goal

abbrev pub invariant-loop-source : goal.invariant-loop-source
invariant-loop-source l = (k : ℕ) → IsAmong l.sources l.source-index k → HasRoomIn l.edges k
