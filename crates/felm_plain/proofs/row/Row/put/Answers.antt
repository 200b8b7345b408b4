use Rattle.std.proofs.Common.{◌∙◌, ap, sym, set}
use Rattle.felm_term.specs.declared.message.Message.TheVariants.{Change, NoChange}
use Rattle.felm_meaning.specs.declared.step.Step.{Step}
use Rattle.felm_meaning.specs.Steps.{sent_by}
use Rattle.felm_plain.specs.Rows.{row_of, kept_at}
use Rattle.felm_plain.proofs.Rows.{sent}
use Rattle.felm_plain.proofs.row.Row.put.Goals as goal

pub returns-in-Change : goal.returns-in-Change
returns-in-Change c =
    sent c.args.self.now c.change.new.self c.args.node (Change c.in-Change.value) c.change.ensures ∙
    ap (λ (s : Step). set (row_of c.args.self.now) c.args.node (sent_by (kept_at c.args.self.now c.args.node) s)) (sym c.in-Change.is)

pub returns-in-Keep : goal.returns-in-Keep
returns-in-Keep c =
    sent c.args.self.now c.keep.new.self c.args.node (NoChange (kept_at c.args.self.now c.args.node)) c.keep.ensures ∙
    ap (λ (s : Step). set (row_of c.args.self.now) c.args.node (sent_by (kept_at c.args.self.now c.args.node) s)) (sym c.in-Keep.is)
