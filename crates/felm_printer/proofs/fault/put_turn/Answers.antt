use Rattle.std.proofs.Common.{append_assoc}
use Rattle.felm_printer.proofs.fault.put_turn.Goals as goal

pub returns-clause-ok : goal.returns-clause-ok
returns-clause-ok g c = simp append_assoc (rw (
  c.as_slice.ensures.value,
  c.digits-node.ensures,
  c.from.ensures,
  c.as_slice-2.ensures.value,
  c.digits-steps.ensures,
  c.as_slice-3.ensures.value,
  c.digits-position.ensures,
) at c.put_pieces.ensures.ok)

pub returns-clause-err : goal.returns-clause-err
returns-clause-err g c = simp append_assoc (rw (
  c.as_slice.ensures.value,
  c.digits-node.ensures,
  c.from.ensures,
  c.as_slice-2.ensures.value,
  c.digits-steps.ensures,
  c.as_slice-3.ensures.value,
  c.digits-position.ensures,
) at c.put_pieces.ensures.err)
