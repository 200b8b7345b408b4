use Rattle.std.proofs.Common.{◌≡◌, inl, inr, length, get_or, sym, ◌∙◌, subst, arith}
use Rattle.std.proofs.lemmas.Bool.{false≢true}
use Rattle.std.proofs.lemmas.Option.{slice_get-get_or}
use Rattle.felm_edges.specs.EdgesValue.{HasRoomIn}
use Rattle.felm_engine.proofs.EachSource.{IsAmong, among_none, among_more, among_all, all_of}
use Rattle.felm_engine.proofs.sources.have_room.Goals as goal

pub loop-source-init : goal.loop-source-init
loop-source-init c = λ k w. absurd (among_none c.args.sources.now k w)

pub loop-source-preserved : goal.loop-source-preserved
loop-source-preserved c = λ k w.
    let x = get_or c.args.sources.now c.loop-source.source-index 0 in
    elim (among_more c.args.sources.now c.loop-source.source-index x k
    (slice_get-get_or c.args.sources.now c.loop-source.source-index 0 c.loop-source-test.true) w) [
      | inl v ↦ c.loop-source.invariant k v
      | inr e ↦ subst (HasRoomIn c.args.edges.now) (sym e) (c.room.ensures.room.0 c.if-not-room.false)
    ]

pub returns-then-not-room : goal.returns-then-not-room
returns-then-not-room c = (
  get_or c.args.sources.now c.loop-source.source-index 0,
  (c.loop-source.source-index, slice_get-get_or c.args.sources.now c.loop-source.source-index 0 c.loop-source-test.true),
  λ room. false≢true (sym c.if-not-room.true ∙ c.room.ensures.room.1 room),
)

pub returns : goal.returns
returns c =
    let e : length c.args.sources.now ≡ c.loop-source.source-index = omega (arith, c.loop-source-test.false, c.loop-source.auto.source-index-end) in
    all_of (HasRoomIn c.args.edges.now) c.args.sources.now
    (λ k w. c.loop-source.invariant k (subst (λ n. IsAmong c.args.sources.now n k) e (among_all c.args.sources.now k w)))
