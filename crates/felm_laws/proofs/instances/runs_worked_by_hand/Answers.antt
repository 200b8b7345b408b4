use Rattle.std.specs.Int.{int_wrap}
use Rattle.felm_term.specs.Reduction.{op, cond, app, letv, share, in_function, in_left, in_right, in_condition, in_bound, none, more}
use Rattle.felm_laws.proofs.StepLaws.{signal_is_finished}
use Rattle.felm_laws.proofs.instances.runs_worked_by_hand.Goals as goal

pub returns-clause-values : goal.returns-clause-values
unfolding int_wrap
returns-clause-values c = (
  (tt, more (more (more none app) (letv tt)) op),
  (
    (tt, more none cond),
    (
      (tt, more (more none (in_condition cond)) cond),
      (
        (tt, more (more (more none (in_left op)) (in_right op)) op),
        (
          (tt, more (more (more none (in_left op)) (in_right op)) op),
          (
            (tt, more (more (more none (in_left op)) (in_right op)) op),
            (
              (tt, more (more (more none app) (in_bound op)) (letv tt)),
              (
                (tt, more (more (more (more (more (more (more none (letv tt)) app) (in_bound app)) (in_bound (letv tt))) (in_bound op)) (letv tt)) op),
                (
                  (tt, more (more (more (more (more (more (more none (in_function app)) (in_function (letv tt))) app) (letv tt)) app) (letv tt)) op),
                  tt,
                ),
              ),
            ),
          ),
        ),
      ),
    ),
  ),
)

pub returns-clause-finished : goal.returns-clause-finished
returns-clause-finished c = (
  (none, signal_is_finished _ _ tt tt),
  (
    (more (more none (share tt)) (share tt), signal_is_finished _ _ (tt, (tt, tt)) tt),
    (
      (more none (share tt), signal_is_finished _ _ (tt, tt) (tt, (tt, (tt, tt)))),
      (
        (
          more (more (more (more (more none (letv tt)) app) (in_bound app)) (in_bound (share tt))) (share (tt, (tt, tt))),
          signal_is_finished _ _ (tt, ((tt, (tt, tt)), tt)) (tt, (tt, tt)),
        ),
        tt,
      ),
    ),
  ),
)
