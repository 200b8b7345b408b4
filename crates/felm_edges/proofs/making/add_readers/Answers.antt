use Rattle.std.proofs.Common.{◌≡◌, ℕ, ◌<◌, ◌∙◌, ◌++◌, ◌∷◌, List, [], ap, sym, subst, arith, length, map}
use Rattle.std.proofs.lemmas.List.{length-map, get_or_default}
use Rattle.felm_edges.specs.EdgesValue.{IsWired}
use Rattle.felm_edges.specs.Parts.{EdgeValue, sources_of, row_of}
use Rattle.felm_edges.specs.declared.readers.Reader.{Reader}
use Rattle.felm_edges.proofs.Reading.{edge_wired, length-read}
use Rattle.felm_edges.proofs.ReadersOfNodes.{with_port, next_node}
use Rattle.felm_edges.proofs.making.add_readers.Goals as goal

pub bounds-readers-source : goal.bounds-readers-source
bounds-readers-source c =
    let wired = edge_wired c.args.rows.now c.args.node c.loop-port.port c.index-rows-node.result c.as_slice-edges.result.now c.index-edges-port.result
    c.requires.there (c.as_slice-edges.ensures.edges ∙ c.index-rows-node.is) c.loop-port-test.true c.index-edges-port.is in
    let l : c.index-edges-port.result.source < length c.args.rows.now = c.requires.sources c.args.node c.loop-port.port c.index-edges-port.result.source wired in
    omega (arith, c.loop-port.invariant.nodes, length-map c.args.rows.now (map (λ (e : EdgeValue). e.source)), c.source.ensures)

pub loop-port-preserved : goal.loop-port-preserved
loop-port-preserved c =
    let rows = c.args.rows.now in
    let readers = c.loop-port.readers in
    let source = c.source.result in
    let wired = edge_wired rows c.args.node c.loop-port.port c.index-rows-node.result c.as_slice-edges.result.now c.index-edges-port.result
    c.requires.there (c.as_slice-edges.ensures.edges ∙ c.index-rows-node.is) c.loop-port-test.true c.index-edges-port.is in
    let l : c.index-edges-port.result.source < length rows = c.requires.sources c.args.node c.loop-port.port c.index-edges-port.result.source wired in
    let within : source < length readers =
    omega (arith, c.loop-port.invariant.nodes, length-map rows (map (λ (e : EdgeValue). e.source)), c.source.ensures) in
    let own : IsWired (sources_of rows) c.args.node c.loop-port.port source =
    subst (λ (a : ℕ). IsWired (sources_of rows) c.args.node c.loop-port.port a) (sym c.source.ensures) wired in
    with_port (sources_of rows) c.args.node c.loop-port.port source readers c.push.new.self c.loop-port.invariant own within
    (c.in_ok-push.ensures ∙ ap (λ (xs : List Reader). xs ++ record { node = c.args.node; port = c.loop-port.port } ∷ [])
    (get_or_default readers source c.index-readers-source.result [] within))

pub returns : goal.returns
returns c =
    let rows = c.args.rows.now in
    let shown : c.as_slice-edges.result.now ≡ row_of rows c.args.node =
    c.as_slice-edges.ensures.edges ∙ c.index-rows-node.is ∙ get_or_default rows c.args.node c.index-rows-node.result [] c.requires.there in
    let l : length c.as_slice-edges.result.now ≡ length (row_of rows c.args.node) = ap length shown in
    next_node (sources_of rows) c.args.node c.loop-port.port c.loop-port.readers c.loop-port.invariant
    (omega (arith, length-read rows c.args.node, c.loop-port-test.false))
