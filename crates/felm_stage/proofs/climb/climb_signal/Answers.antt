use Rattle.std.proofs.Common.{refl, arith}
use Rattle.felm_term.specs.CoreTerm.{Let, Foldp, Async}
use Rattle.felm_stage.specs.Frames.{around}
use Rattle.felm_stage.proofs.Runs.{takes_none, takes_at}
use Rattle.felm_stage.proofs.Climbs.{no_signal_applied}
use Rattle.felm_stage.proofs.climb.climb_signal.Goals as goal

pub unreachable-requires : goal.unreachable-requires
unreachable-requires c = no_signal_applied c.args.signal c.in-Argument.field-0 (rw c.in-Argument.is at c.requires.typed) c.requires.signal

pub returns-in-Body : goal.returns-in-Body
returns-in-Body c left =
    (takes_at left (around c.args.frame c.args.signal) (Let c.args.signal c.in-Body.body) (rw c.in-Body.is refl), c.requires.signal)

pub returns-in_ok-async_of-in-Async : goal.returns-in_ok-async_of-in-Async
returns-in_ok-async_of-in-Async c left =
    rw (c.in_ok-async_of-in-Async.ensures, c.in-Async.is) (takes_none left (Async c.args.signal), c.requires.signal, omega arith)

pub returns-in_ok-foldp_of-in-Foldp : goal.returns-in_ok-foldp_of-in-Foldp
returns-in_ok-foldp_of-in-Foldp c left =
    let g = rw c.in-Foldp.is at c.requires.good in
    rw (c.in_ok-foldp_of-in-Foldp.ensures, c.in-Foldp.is)
    (takes_none left (Foldp c.in-Foldp.function c.in-Foldp.base c.args.signal), (g.0, g.1, c.requires.signal), omega arith)

pub returns-in-Arguments : goal.returns-in-Arguments
returns-in-Arguments c = rw c.in-Arguments.is c.next_argument.ensures
