use Rattle.std.proofs.Common.{◌≡◌, ◌++◌, drop}
use Rattle.felm_meaning.specs.Meaning.{row_to}
use Rattle.felm_plain.specs.Rows.{row_of}
use Rattle.felm_plain.proofs.row.Row.advance.Given as goal

-- the nodes before this one have sent their messages, the others have what they had
abbrev pub invariant-loop-node : goal.invariant-loop-node
invariant-loop-node l = row_of l.self ≡ row_to l.graph l.budget (row_of l.initial.self) l.event l.node ++ drop l.node (row_of l.initial.self)
