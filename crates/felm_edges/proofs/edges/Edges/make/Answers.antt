use Rattle.std.proofs.Common.{◌∙◌, ◌<◌, List, ap, sym, subst, arith, length}
use Rattle.felm_edges.specs.EdgesValue.{wiring_of, IsWired}
use Rattle.felm_edges.specs.Parts.{EdgeValue, sources_of}
use Rattle.felm_edges.specs.Readers.{AreReaders}
use Rattle.felm_edges.proofs.NewEdges.{few_rows, sources_within, made_together, made_new, new_outlets}
use Rattle.felm_edges.proofs.edges.Edges.make.Goals as goal

pub make_readers-requires-clause-few : goal.make_readers-requires-clause-few
make_readers-requires-clause-few c =
    let few = few_rows c.args.graph.now c.args.capacity c.in_ok-rows.rows.items c.make_rows.ensures.graph c.in_ok-rows.ensures.rows in
    omega (arith, ap length c.deref.ensures.value)

pub make_readers-requires-clause-sources : goal.make_readers-requires-clause-sources
make_readers-requires-clause-sources c r port k =
    subst (λ (rows : List (List EdgeValue)). IsWired (sources_of rows) r port k → k < length rows) (sym c.deref.ensures.value)
    (sources_within c.args.graph.now c.args.capacity c.in_ok-rows.rows.items c.make_rows.ensures.graph c.in_ok-rows.ensures.rows r port k)

pub invariant_of-result : goal.invariant_of-result
invariant_of-result c =
    let are : AreReaders (sources_of c.in_ok-rows.rows.items) c.in_ok-readers.readers.items =
    subst (λ (rows : List (List EdgeValue)). AreReaders (sources_of rows) c.in_ok-readers.readers.items) c.deref.ensures.value c.in_ok-readers.ensures in
    made_together c.args.capacity (wiring_of c.args.graph.now.nodes) c.in_ok-rows.rows.items c.in_ok-readers.readers.items c.in_ok-outlets.outlets.items
    c.requires.least c.requires.most c.in_ok-rows.ensures.rows are
    (c.in_ok-outlets.ensures ∙ ap new_outlets c.deref-2.ensures.value)

pub returns : goal.returns
returns c =
    made_new c.args.capacity c.args.graph.now.nodes c.in_ok-rows.rows.items c.in_ok-readers.readers.items c.in_ok-outlets.outlets.items
    c.in_ok-rows.ensures.rows (c.in_ok-outlets.ensures ∙ ap new_outlets c.deref-2.ensures.value)
