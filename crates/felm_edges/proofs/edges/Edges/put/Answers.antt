use Rattle.std.proofs.Common.{◌≡◌, ◌<◌, ◌∙◌, List, Option, ap, sym, subst, arith, length, All, IsSome}
use Rattle.felm_term.specs.declared.message.Message.{Message}
use Rattle.felm_edges.specs.EdgesValue.{EdgesValue, HasRoomIn}
use Rattle.felm_edges.specs.Parts.{EdgeValue, IsThere, HasPlaceAt}
use Rattle.felm_edges.specs.Readers.{readers_of, AllOnce}
use Rattle.felm_edges.specs.Inside.{edges_from}
use Rattle.felm_edges.specs.declared.readers.Reader.{Reader}
use Rattle.felm_edges.proofs.Reading.{shown_readers, readers_there, all_there, room_is}
use Rattle.felm_edges.proofs.Writing.{put_from, putting_keeps, prepared_within, message_read, stocked_read, put_together, put_edges}
use Rattle.felm_edges.proofs.edges.Edges.put.Goals as goal

pub send-requires-clause-there : goal.send-requires-clause-there
send-requires-clause-there c =
    let a = c.self.inside in
    let has = prepared_within a.capacity a.rows.items a.outlets.items c.args.self.now c.args.node c.self.view_is c.requires.prepared in
    let within : c.args.node < length a.rows.items = omega (arith, c.self.invariant.places) in
    let shown : c.as_slice-readers.result.now ≡ readers_of a.readers.items c.args.node =
    c.as_slice-readers.ensures ∙ shown_readers a.capacity a.rows.items a.readers.items a.outlets.items c.args.node c.index.result.now c.self.invariant within c.index.ensures in
    subst (λ (rows : List (List EdgeValue)). All (IsThere rows) c.as_slice-readers.result.now) (sym c.deref_mut.ensures.value)
    (subst (λ (xs : List Reader). All (IsThere a.rows.items) xs) (sym shown)
    (all_there a.rows.items (readers_of a.readers.items c.args.node) (readers_there a.rows.items a.readers.items c.args.node c.self.invariant.readers_are)))

pub send-requires-clause-places : goal.send-requires-clause-places
send-requires-clause-places c =
    let a = c.self.inside in
    let has = prepared_within a.capacity a.rows.items a.outlets.items c.args.self.now c.args.node c.self.view_is c.requires.prepared in
    let within : c.args.node < length a.rows.items = omega (arith, c.self.invariant.places) in
    let shown : c.as_slice-readers.result.now ≡ readers_of a.readers.items c.args.node =
    c.as_slice-readers.ensures ∙ shown_readers a.capacity a.rows.items a.readers.items a.outlets.items c.args.node c.index.result.now c.self.invariant within c.index.ensures in
    let room : HasRoomIn (edges_from a.capacity a.rows.items a.outlets.items) c.args.node =
    subst (λ (n : EdgesValue). HasRoomIn n c.args.node) (sym c.self.view_is) c.requires.room in
    subst (λ (rows : List (List EdgeValue)). All (HasPlaceAt rows) c.as_slice-readers.result.now) (sym c.deref_mut.ensures.value)
    (subst (λ (xs : List Reader). All (HasPlaceAt a.rows.items) xs) (sym shown)
    ((room_is a.capacity a.rows.items a.readers.items a.outlets.items c.args.node c.self.invariant).1 room))

pub send-requires-clause-distinct : goal.send-requires-clause-distinct
send-requires-clause-distinct c =
    let a = c.self.inside in
    let has = prepared_within a.capacity a.rows.items a.outlets.items c.args.self.now c.args.node c.self.view_is c.requires.prepared in
    let within : c.args.node < length a.rows.items = omega (arith, c.self.invariant.places) in
    let shown : c.as_slice-readers.result.now ≡ readers_of a.readers.items c.args.node =
    c.as_slice-readers.ensures ∙ shown_readers a.capacity a.rows.items a.readers.items a.outlets.items c.args.node c.index.result.now c.self.invariant within c.index.ensures in
    subst (λ (xs : List Reader). AllOnce xs) (sym shown) (c.self.invariant.readers_are.once c.args.node)

pub send-requires-clause-copies : goal.send-requires-clause-copies
send-requires-clause-copies c =
    let a = c.self.inside in
    let has = prepared_within a.capacity a.rows.items a.outlets.items c.args.self.now c.args.node c.self.view_is c.requires.prepared in
    let within : c.args.node < length a.rows.items = omega (arith, c.self.invariant.places) in
    let shown : c.as_slice-readers.result.now ≡ readers_of a.readers.items c.args.node =
    c.as_slice-readers.ensures ∙ shown_readers a.capacity a.rows.items a.readers.items a.outlets.items c.args.node c.index.result.now c.self.invariant within c.index.ensures in
    let message = message_read a.capacity a.rows.items a.outlets.items c.args.self.now c.args.node c.index_mut.result.now c.self.view_is has c.index_mut.ensures.value in
    (stocked_read a.capacity a.rows.items a.readers.items a.outlets.items c.args.node c.index_mut.result.now c.self.invariant has c.index_mut.ensures.value).copies
    (subst (λ (o : Option Message). IsSome o) message c.requires.prepared) ∙ ap length (sym shown)

pub invariant_of-self : goal.invariant_of-self
invariant_of-self c =
    let a = c.self.inside in
    let has = prepared_within a.capacity a.rows.items a.outlets.items c.args.self.now c.args.node c.self.view_is c.requires.prepared in
    let within : c.args.node < length a.rows.items = omega (arith, c.self.invariant.places) in
    let shown : c.as_slice-readers.result.now ≡ readers_of a.readers.items c.args.node =
    c.as_slice-readers.ensures ∙ shown_readers a.capacity a.rows.items a.readers.items a.outlets.items c.args.node c.index.result.now c.self.invariant within c.index.ensures in
    let o = c.index_mut.result.now in
    let room : HasRoomIn (edges_from a.capacity a.rows.items a.outlets.items) c.args.node =
    subst (λ (n : EdgesValue). HasRoomIn n c.args.node) (sym c.self.view_is) c.requires.room in
    let stocked = stocked_read a.capacity a.rows.items a.readers.items a.outlets.items c.args.node o c.self.invariant has c.index_mut.ensures.value in
    put_together a.capacity a.rows a.readers.items a.outlets.items c.args.node o.message o.room c.send.new.rows c.deref_mut.result.now
    c.as_slice-readers.result.now c.send.new.outlet c.deref_mut.ensures.value shown c.send.ensures.sent c.send.ensures.none
    (putting_keeps a.capacity a.rows.items a.readers.items a.outlets.items c.args.node o.message o.room c.self.invariant room stocked.room)

pub returns : goal.returns
returns c =
    let a = c.self.inside in
    let has = prepared_within a.capacity a.rows.items a.outlets.items c.args.self.now c.args.node c.self.view_is c.requires.prepared in
    let within : c.args.node < length a.rows.items = omega (arith, c.self.invariant.places) in
    let shown : c.as_slice-readers.result.now ≡ readers_of a.readers.items c.args.node =
    c.as_slice-readers.ensures ∙ shown_readers a.capacity a.rows.items a.readers.items a.outlets.items c.args.node c.index.result.now c.self.invariant within c.index.ensures in
    let o = c.index_mut.result.now in
    let message = message_read a.capacity a.rows.items a.outlets.items c.args.self.now c.args.node o c.self.view_is has c.index_mut.ensures.value in
    put_edges a.capacity a.rows a.readers.items a.outlets.items c.args.self.now c.args.node o.message o.room c.send.new.rows c.deref_mut.result.now
    c.as_slice-readers.result.now c.send.new.outlet c.deref_mut.ensures.value shown c.send.ensures.sent c.send.ensures.none
    (put_from a.capacity a.rows.items a.readers.items a.outlets.items c.args.self.now c.args.node o.message o.room c.self.view_is c.self.invariant has message)
