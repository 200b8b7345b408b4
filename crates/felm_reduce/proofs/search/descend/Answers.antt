use Rattle.std.proofs.Common.{sym, subst}
use Rattle.felm_term.specs.Typing.{HasSimpleType}
use Rattle.felm_reduce.proofs.Frames.{plug_typed, stuck}
use Rattle.felm_reduce.proofs.search.descend.Goals as goal

pub unreachable-requires : goal.unreachable-requires
unreachable-requires c =
    let whole = subst HasSimpleType (sym c.down.invariant.same) c.requires in
    let part = plug_typed c.down.frames.items c.down.focus whole in
    let d = c.in_default in
    stuck c.focus.inside.form (subst HasSimpleType (sym c.focus.view_is) part) d.not-Unit d.not-Int d.not-Lam d.not-App d.not-Bin d.not-If d.not-Let
