use Rattle.std.proofs.Common.{sym, ◌∙◌, subst}
use Rattle.std.proofs.lemmas.Option.{none-some}
use Rattle.felm_meaning.specs.Plans.{plan_of}
use Rattle.felm_meaning.specs.Presets.{IsPresetFor}
use Rattle.felm_session.proofs.conclusion.shown_default.Goals as goal

pub unreachable-requires : goal.unreachable-requires
unreachable-requires c =
    let h = subst (IsPresetFor (plan_of c.args.plan.now)) c.in-Over.is c.in_ok-values.ensures in
    let there = c.requires.defaults c.in-Over.node h.0 in
    none-some there.0 (sym h.1 ∙ there.1)
