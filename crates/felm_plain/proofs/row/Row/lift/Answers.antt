use Rattle.std.proofs.Common.{◌∙◌, ap, subst, Option, List}
use Rattle.felm_term.specs.declared.message.Message.{Message}
use Rattle.felm_meaning.specs.Step.{lift_step}
use Rattle.felm_meaning.specs.Values.{messages_at}
use Rattle.felm_plain.specs.Rows.{kept_at, Sends}
use Rattle.felm_plain.proofs.row.Row.lift.Goals as goal

pub returns : goal.returns
returns c =
    let old = kept_at c.args.self.now c.args.node in
    subst (λ (m : Option Message). Sends c.args.self.now c.args.node m c.put.new.self c.put.result)
    (c.in_ok-step.ensures old ∙
    ap (λ (ms : List Message). lift_step c.args.function.now old (messages_at ms c.args.arguments.now) c.args.budget) c.as_slice.ensures)
    c.put.ensures
