use Rattle.std.proofs.Common.{◌∷◌, [], ◌++◌, sym, ap, arith}
use Rattle.felm_term.specs.CoreTerm.{Lift, More, End}
use Rattle.felm_stage.specs.Frames.{behind}
use Rattle.felm_stage.proofs.Runs.{takes_none, takes_at}
use Rattle.felm_stage.proofs.Climbs.{behind_push, signals_push, all_signals}
use Rattle.felm_stage.proofs.climb.next_argument.Goals as goal

pub returns-in_ok-put-in-More : goal.returns-in_ok-put-in-More
returns-in_ok-put-in-More c left =
    let done = c.args.done.items in
    let s = c.args.signal in
    let rest = More c.in-More.first c.in-More.rest.value in
    rw (c.in_ok-put-in-More.ensures, c.into_inner.ensures, ← c.in-More.ensures) (
      takes_at left (Lift c.args.function (behind done (More s rest))) (Lift c.args.function (behind (done ++ s ∷ []) rest)) (ap (Lift c.args.function) (sym (behind_push done s rest))),
      (c.requires.function, signals_push done s c.requires.done c.requires.signal),
      omega arith,
    )

pub returns-in_ok-lift_of-in-End : goal.returns-in_ok-lift_of-in-End
returns-in_ok-lift_of-in-End c left =
    let done = c.args.done.items in
    let s = c.args.signal in
    rw (c.in_ok-lift_of-in-End.ensures, c.in_ok-arguments-in-End.ensures, ← c.in-End.ensures)
    (takes_none left (Lift c.args.function (behind done (More s End))), (c.requires.function, all_signals done s c.requires.done c.requires.signal), omega arith)
