use Rattle.std.proofs.Common.{arith, ◌∙◌}
use Rattle.std.proofs.lemmas.Result.{err_from_is_err_and}
use Rattle.felm_printer.proofs.Pieces.{one_piece, part_of_piece}
use Rattle.felm_printer.proofs.fault.put_pieces.Goals as goal

pub returns-in_err-put_all-clause-err : goal.returns-in_err-put_all-clause-err
returns-in_err-put_all-clause-err g c =
    let q = err_from_is_err_and c.from_residual.result c.from_residual.ensures.1 in
    rw q.1 (part_of_piece c.args.pieces.now c.loop-piece.piece-index _ (omega arith) (g.S.Sink.bytes c.args.sink.now) (g.S.Sink.bytes c.loop-piece.sink) (g.S.Sink.bytes c.put_all.new.sink)
    c.loop-piece.invariant.appended c.in_err-put_all.ensures.err)

pub loop-piece-preserved : goal.loop-piece-preserved
loop-piece-preserved g c = record {
  appended = one_piece c.args.pieces.now c.loop-piece.piece-index _ (omega arith) (g.S.Sink.bytes c.args.sink.now) (g.S.Sink.bytes c.loop-piece.sink) (g.S.Sink.bytes c.put_all.new.sink)
      c.loop-piece.invariant.appended c.in_ok-put_all.ensures.ok;
  faults = c.in_ok-put_all.ensures.counts.0 ∙ c.loop-piece.invariant.faults;
  short = c.in_ok-put_all.ensures.counts.1 ∙ c.loop-piece.invariant.short;
}
