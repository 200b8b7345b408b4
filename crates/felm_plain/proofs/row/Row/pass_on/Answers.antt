use Rattle.std.proofs.Common.{◌∙◌, ap, Option, Some, set}
use Rattle.felm_term.specs.declared.value.Value.{Value}
use Rattle.felm_term.specs.declared.message.Message.{Message}
use Rattle.felm_term.specs.declared.message.Message.TheVariants.{Change, NoChange}
use Rattle.felm_plain.specs.Rows.{row_of, kept_at}
use Rattle.felm_plain.proofs.Rows.{sent, own_message, other_message}
use Rattle.felm_plain.proofs.row.Row.pass_on.Goals as goal

pub returns-in_ok-value : goal.returns-in_ok-value
returns-in_ok-value c =
    sent c.args.self.now c.change.new.self c.args.node (Change c.in_ok-value.value) c.change.ensures ∙
    ap (λ (o : Option Message). set (row_of c.args.self.now) c.args.node o)
    (ap (λ (v : Value). Some (Change v)) c.in_ok-value.ensures.value ∙
    own_message c.args.node c.args.event.now (kept_at c.args.self.now c.args.node) c.if-event-node.true)

pub returns-else-event-node : goal.returns-else-event-node
returns-else-event-node c =
    sent c.args.self.now c.keep.new.self c.args.node (NoChange (kept_at c.args.self.now c.args.node)) c.keep.ensures ∙
    ap (λ (o : Option Message). set (row_of c.args.self.now) c.args.node o)
    (other_message c.args.node c.args.event.now (kept_at c.args.self.now c.args.node) c.if-event-node.false)
