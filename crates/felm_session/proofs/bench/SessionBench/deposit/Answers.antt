use Rattle.std.proofs.Common.{◌≡◌, ◌+◌, IfOk, subst}
use Rattle.felm_engine.specs.Bench.{settled_by}
use Rattle.felm_engine.specs.declared.answers.Deposit.{Deposit}
use Rattle.felm_session.specs.SessionValue.{SessionValue, settled_in}
use Rattle.felm_session.specs.Inside.{session_of}
use Rattle.felm_session.proofs.Settling.{deposit_result_settles}
use Rattle.felm_session.proofs.bench.SessionBench.deposit.Goals as goal

pub returns-clause-settled : goal.returns-clause-settled
returns-clause-settled c =
    let new : SessionValue = record { engine = c.deposit.new.self; cursor = c.self.inside.cursor } in
    subst (λ (s : SessionValue). IfOk c.deposit.result (λ (answer : Deposit). settled_in new ≡ settled_in s + settled_by c.args.done.outcome answer))
    c.self.view_is
    (deposit_result_settles (session_of c.self.inside) new c.sound.ensures.graph c.sound.ensures.sound c.args.done c.deposit.result c.deposit.ensures.ok)
