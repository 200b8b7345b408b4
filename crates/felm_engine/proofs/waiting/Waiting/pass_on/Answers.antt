use Rattle.std.proofs.Common.{sym, subst}
use Rattle.felm_term.specs.declared.message.Message.{Message}
use Rattle.felm_engine.specs.Queued.{PassedOn}
use Rattle.felm_engine.proofs.Queuing.{passed_on}
use Rattle.felm_engine.proofs.waiting.Waiting.pass_on.Goals as goal

pub returns-in_ok-prepare-clause-ok : goal.returns-in_ok-prepare-clause-ok
returns-in_ok-prepare-clause-ok c =
    subst (λ (m : Message). PassedOn c.args.nodes.now m c.args.self.now c.put.new.self) (sym c.in-Change.is)
    (passed_on c.args.nodes.now c.in-Change.value c.args.self.now c.prepare.new.self c.put.new.self c.in_ok-prepare.ensures.stays c.in_ok-prepare.ensures.ok c.put.ensures)
