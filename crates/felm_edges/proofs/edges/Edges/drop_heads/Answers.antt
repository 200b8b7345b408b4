use Rattle.std.proofs.Common.{◌≡◌, ◌∙◌, ap, sym, subst, map, set, List, []}
use Rattle.std.proofs.lemmas.List.{get_or_read}
use Rattle.felm_edges.specs.Changes.{DroppedFrom}
use Rattle.felm_edges.specs.Parts.{EdgeValue, row_of, without_first}
use Rattle.felm_edges.specs.Inside.{edges_from, GoTogether}
use Rattle.felm_edges.proofs.Reading.{node_within}
use Rattle.felm_edges.proofs.Writing.{dropped_from, dropping_keeps}
use Rattle.felm_edges.proofs.edges.Edges.drop_heads.Goals as goal

pub invariant_of-self : goal.invariant_of-self
invariant_of-self c =
    let a = c.self.inside in
    let within = node_within a.capacity a.rows.items a.outlets.items c.args.self.now c.args.node c.self.view_is c.requires.there in
    let read : c.index_mut.result.now ≡ row_of a.rows.items c.args.node = get_or_read a.rows.items c.args.node c.index_mut.result.now within c.index_mut.ensures.value [] in
    let dropped : c.drop_firsts.new.self ≡ map without_first (row_of a.rows.items c.args.node) =
    c.drop_firsts.ensures ∙ ap (λ (row : List EdgeValue). map without_first row) read in
    subst (λ (row : List EdgeValue). GoTogether a.capacity (set a.rows.items c.args.node row) a.readers.items a.outlets.items) (sym dropped)
    (dropping_keeps a.capacity a.rows.items a.readers.items a.outlets.items c.args.node c.self.invariant within)

pub returns : goal.returns
returns c =
    let a = c.self.inside in
    let within = node_within a.capacity a.rows.items a.outlets.items c.args.self.now c.args.node c.self.view_is c.requires.there in
    let read : c.index_mut.result.now ≡ row_of a.rows.items c.args.node = get_or_read a.rows.items c.args.node c.index_mut.result.now within c.index_mut.ensures.value [] in
    let dropped : c.drop_firsts.new.self ≡ map without_first (row_of a.rows.items c.args.node) =
    c.drop_firsts.ensures ∙ ap (λ (row : List EdgeValue). map without_first row) read in
    subst (λ (row : List EdgeValue). DroppedFrom c.args.self.now c.args.node (edges_from a.capacity (set a.rows.items c.args.node row) a.outlets.items)) (sym dropped)
    (dropped_from a.capacity a.rows.items a.outlets.items c.args.self.now c.args.node c.self.view_is within)
