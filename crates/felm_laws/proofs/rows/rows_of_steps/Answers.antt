use Rattle.std.proofs.Common.{List, []}
use Rattle.std.specs.Int.{int_wrap}
use Rattle.felm_term.specs.CoreTerm.{CoreTerm, Lam, App, Bin, Lift, Foldp, Async, Var, More, End}
use Rattle.felm_term.specs.CoreTerm as term
use Rattle.felm_term.specs.Reduction.{Step, HasNoStep, op, cond, app, letv, share, in_function, in_left, in_right, in_condition, in_bound, in_lift_function, in_arguments, in_foldp_function, in_base, in_signal, in_async, in_first, in_rest}
use Rattle.felm_term.specs.declared.op.Op.TheVariants as operator
use Rattle.felm_laws.specs.Rows.{sum, x}
use Rattle.felm_laws.proofs.OneNext.{value_stays, signal_stays}
use Rattle.felm_laws.proofs.rows.rows_of_steps.Goals as goal

pub returns-clause-steps : goal.returns-clause-steps
unfolding int_wrap
returns-clause-steps c = (
  op,
  (
    op,
    (
      cond,
      (
        cond,
        (
          app,
          (
            letv tt,
            (
              letv tt,
              (
                letv tt,
                (
                  share tt,
                  (
                    in_function cond,
                    (
                      in_left op,
                      (
                        in_right op,
                        (
                          in_condition op,
                          (
                            in_bound op,
                            (
                              in_lift_function cond,
                              (
                                in_arguments tt (in_first (share tt)),
                                (
                                  in_arguments tt (in_rest tt (in_first (share tt))),
                                  (in_foldp_function cond, (in_base tt op, (in_signal tt tt (share tt), (in_async (share tt), tt)))),
                                ),
                              ),
                            ),
                          ),
                        ),
                      ),
                    ),
                  ),
                ),
              ),
            ),
          ),
        ),
      ),
    ),
  ),
)

unit_adds_nothing : HasNoStep [] (Bin operator.Add term.Unit sum)
unit_adds_nothing = λ C f s. go s
  where
    go : {C : List CoreTerm} {f : CoreTerm} → Step [] (Bin operator.Add term.Unit sum) C f → ⊥
    go (in_left r) = value_stays tt r

signals_take_nothing : HasNoStep [] (App x sum)
signals_take_nothing = λ C f s. go s
  where
    go : {C : List CoreTerm} {f : CoreTerm} → Step [] (App x sum) C f → ⊥
    go (in_function r) = signal_stays tt r

variables_stay : HasNoStep [] (Var 0)
variables_stay = λ C f s. elim s [ ]

pub returns-clause-still : goal.returns-clause-still
returns-clause-still c = (
  (λ C f s. value_stays tt s),
  (
    (λ C f s. signal_stays (tt, (tt, tt)) s),
    (
      (λ C f s. signal_stays (tt, tt, tt) s),
      (unit_adds_nothing, (signals_take_nothing, (variables_stay, tt))),
    ),
  ),
)
