use Rattle.std.proofs.Common.{◌≡◌, ◌∙◌, sym, subst, List}
use Rattle.std.specs.List.{All}
use Rattle.felm_edges.specs.EdgesValue.{EdgesValue, HasRoomIn, AreEdges}
use Rattle.felm_edges.specs.Parts.{EdgeValue, IsThere, HasPlaceAt}
use Rattle.felm_edges.specs.Readers.{readers_of}
use Rattle.felm_edges.specs.declared.readers.Reader.{Reader}
use Rattle.felm_edges.proofs.Reading.{node_within, shown_readers, readers_there, all_there, room_is, are_edges}
use Rattle.felm_edges.proofs.edges.Edges.room.Goals as goal

pub have_places-requires : goal.have_places-requires
have_places-requires c =
    let a = c.self.inside in
    let within = node_within a.capacity a.rows.items a.outlets.items c.args.self.now c.args.node c.self.view_is c.requires in
    let shown : c.as_slice.result.now ≡ readers_of a.readers.items c.args.node =
    c.as_slice.ensures ∙ shown_readers a.capacity a.rows.items a.readers.items a.outlets.items c.args.node c.index.result.now c.self.invariant within c.index.ensures in
    subst (λ (rows : List (List EdgeValue)). All (IsThere rows) c.as_slice.result.now) (sym c.deref.ensures.value)
    (subst (λ (xs : List Reader). All (IsThere a.rows.items) xs) (sym shown)
    (all_there a.rows.items (readers_of a.readers.items c.args.node) (readers_there a.rows.items a.readers.items c.args.node c.self.invariant.readers_are)))

pub returns-clause-room : goal.returns-clause-room
returns-clause-room c =
    let a = c.self.inside in
    let within = node_within a.capacity a.rows.items a.outlets.items c.args.self.now c.args.node c.self.view_is c.requires in
    let shown : c.as_slice.result.now ≡ readers_of a.readers.items c.args.node =
    c.as_slice.ensures ∙ shown_readers a.capacity a.rows.items a.readers.items a.outlets.items c.args.node c.index.result.now c.self.invariant within c.index.ensures in
    let P : List (List EdgeValue) → List Reader → Type 0 = λ rows xs. All (HasPlaceAt rows) xs in
    let room = room_is a.capacity a.rows.items a.readers.items a.outlets.items c.args.node c.self.invariant in (
      λ t. subst (λ (n : EdgesValue). HasRoomIn n c.args.node) c.self.view_is
          (room.0 (subst (λ (rows : List (List EdgeValue)). P rows (readers_of a.readers.items c.args.node)) c.deref.ensures.value
          (subst (λ (xs : List Reader). P c.deref.result.now xs) shown (c.have_places.ensures.0 t)))),
      λ h. c.have_places.ensures.1 (subst (λ (xs : List Reader). P c.deref.result.now xs) (sym shown)
          (subst (λ (rows : List (List EdgeValue)). P rows (readers_of a.readers.items c.args.node)) (sym c.deref.ensures.value)
          (room.1 (subst (λ (n : EdgesValue). HasRoomIn n c.args.node) (sym c.self.view_is) h)))),
    )

pub returns-clause-edges : goal.returns-clause-edges
returns-clause-edges c =
    let a = c.self.inside in
    subst AreEdges c.self.view_is (are_edges a.capacity a.rows.items a.readers.items a.outlets.items c.self.invariant)
