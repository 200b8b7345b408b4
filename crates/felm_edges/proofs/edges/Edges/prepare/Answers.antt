use Rattle.std.proofs.Common.{arith}
use Rattle.felm_edges.proofs.Reading.{node_within}
use Rattle.felm_edges.proofs.Writing.{prepared_ok, prepared_err}
use Rattle.felm_edges.proofs.edges.Edges.prepare.Goals as goal

pub returns-clause-ok : goal.returns-clause-ok
returns-clause-ok c =
    let a = c.self.inside in
    let within = node_within a.capacity a.rows.items a.outlets.items c.args.self.now c.args.node c.self.view_is c.requires in
    prepared_ok a.capacity a.rows.items a.outlets.items c.args.self.now c.args.node c.prepare.new.self c.prepare.result c.args.message.now c.len-readers.result c.self.view_is
    (omega (arith, c.self.invariant.places)) c.prepare.ensures.ok

pub returns-clause-err : goal.returns-clause-err
returns-clause-err c =
    let a = c.self.inside in
    let within = node_within a.capacity a.rows.items a.outlets.items c.args.self.now c.args.node c.self.view_is c.requires in
    prepared_err a.capacity a.rows.items a.outlets.items c.args.self.now c.args.node c.prepare.new.self c.prepare.result c.self.view_is
    (omega (arith, c.self.invariant.places)) c.prepare.ensures.err
