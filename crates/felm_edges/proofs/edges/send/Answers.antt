use Rattle.std.proofs.Common.{◌≡◌, ◌∙◌, Some, arith, sym, get_or}
use Rattle.std.specs.List.{slice_get}
use Rattle.std.proofs.lemmas.Option.{slice_get-get_or}
use Rattle.felm_edges.specs.Parts.{with_message}
use Rattle.felm_edges.specs.declared.readers.Reader.{Reader}
use Rattle.felm_edges.proofs.Sending.{there_each, next_there, next_place, next_sent}
use Rattle.felm_edges.proofs.edges.send.Goals as goal

pub put-requires-clause-there : goal.put-requires-clause-there
put-requires-clause-there c =
    let xs = c.args.readers.now in
    let n = c.loop-reader.reader-index in
    let x : Reader = get_or xs n (record { node = 0; port = 0 }) in
    (next_there (with_message c.args.outlet.now.message) c.args.rows.now c.loop-reader.rows xs n x c.index-rows-reader.result
    (there_each c.args.rows.now xs c.requires.there) (slice_get-get_or xs n (record { node = 0; port = 0 }) c.loop-reader-test.true)
    c.loop-reader.invariant.sent).0

pub put-requires-clause-place : goal.put-requires-clause-place
put-requires-clause-place c =
    let xs = c.args.readers.now in
    let n = c.loop-reader.reader-index in
    let x : Reader = get_or xs n (record { node = 0; port = 0 }) in
    let there = there_each c.args.rows.now xs c.requires.there in
    let at : slice_get xs n ≡ Some x = slice_get-get_or xs n (record { node = 0; port = 0 }) c.loop-reader-test.true in
    let row = next_there (with_message c.args.outlet.now.message) c.args.rows.now c.loop-reader.rows xs n x c.index-rows-reader.result there at
    c.loop-reader.invariant.sent in
    next_place (with_message c.args.outlet.now.message) c.args.rows.now c.loop-reader.rows xs n x (get_or c.loop-reader.rows x.node c.index-rows-reader.result) there c.requires.distinct
    c.requires.places at c.loop-reader.invariant.sent row.1

pub loop-reader-preserved : goal.loop-reader-preserved
loop-reader-preserved c =
    let xs = c.args.readers.now in
    let n = c.loop-reader.reader-index in
    let x : Reader = get_or xs n (record { node = 0; port = 0 }) in
    let there = there_each c.args.rows.now xs c.requires.there in
    let at : slice_get xs n ≡ Some x = slice_get-get_or xs n (record { node = 0; port = 0 }) c.loop-reader-test.true in
    let row = next_there (with_message c.args.outlet.now.message) c.args.rows.now c.loop-reader.rows xs n x c.index-rows-reader.result there at
    c.loop-reader.invariant.sent in
    record {
      sent = next_sent c.args.outlet.now.message c.args.rows.now c.loop-reader.rows xs n x (get_or c.loop-reader.rows x.node c.index-rows-reader.result) c.put.new.self c.take.result at
          c.loop-reader.invariant.sent row.1 (sym c.loop-reader.invariant.message ∙ c.take.ensures.value) c.put.ensures;
      message = c.take.ensures.same ∙ c.loop-reader.invariant.message;
      left = omega (arith, c.take.ensures.left, c.loop-reader.invariant.left);
      room = c.take.ensures.room ∙ c.loop-reader.invariant.room;
    }
