use Rattle.std.proofs.Common.{◌≡◌, ◌≤◌, [], suc, subst, arith, add-one}
use Rattle.felm_term.specs.Reduction.{Steps, none}
use Rattle.felm_reduce.specs.Frames.{plug}
use Rattle.felm_reduce.specs.Redex.{contractum}
use Rattle.felm_reduce.specs.declared.reduction.Reduced.TheVariants as reduced
use Rattle.felm_reduce.proofs.Frames.{one_more, typed_more}
use Rattle.felm_reduce.proofs.Outcomes.{value_reached, no_other}
use Rattle.felm_reduce.proofs.reduction.reduce.Goals as goal

pub steps-init : goal.steps-init
steps-init c = rw c.new-frames.ensures.items (record { taken = none; typed = c.requires })

pub steps-preserved : goal.steps-preserved
steps-preserved c =
    let f = rw c.in-Ready.is at c.in_ok-value.ensures in
    let whole = plug c.steps.frames.items c.steps.focus in
    rw (c.in_ok-focus-in-Ready.ensures, add-one) (record {
      taken = one_more c.steps.steps c.args.term whole c.seek.new.frames.items c.in-Ready.redex c.steps.invariant.taken f.0 f.1;
      typed = typed_more whole c.seek.new.frames.items c.in-Ready.redex c.steps.invariant.typed f.0 f.1;
    })

pub returns-in-Done-clause-only : goal.returns-in-Done-clause-only
returns-in-Done-clause-only c =
    let f = rw c.in-Done.is at c.in_ok-value.ensures in
    let whole = plug c.steps.frames.items c.steps.focus in
    let within : c.steps.steps ≤ c.args.budget = omega arith in
    no_other c.args.budget c.args.term (reduced.Value c.in-Done.value c.steps.steps)
    (value_reached c.args.budget c.steps.steps c.args.term whole c.in-Done.value within c.steps.invariant.taken f.0 f.1.0)

pub returns-in-Done-2-clause-only : goal.returns-in-Done-2-clause-only
returns-in-Done-2-clause-only c =
    let f = rw c.in-Done-2.is at c.in_ok-value-2.ensures in
    let whole = plug c.steps.frames.items c.steps.focus in
    let all : c.steps.steps ≡ c.args.budget = omega arith in
    let within : c.args.budget ≤ c.args.budget = omega arith in
    no_other c.args.budget c.args.term (reduced.Value c.in-Done-2.value c.args.budget)
    (value_reached c.args.budget c.args.budget c.args.term whole c.in-Done-2.value within (subst (λ n. Steps n [] c.args.term [] whole) all c.steps.invariant.taken) f.0 f.1.0)

pub returns-clause-outcome : goal.returns-clause-outcome
returns-clause-outcome c =
    let f = rw c.in-Ready-2.is at c.in_ok-value-2.ensures in
    let whole = plug c.steps.frames.items c.steps.focus in
    let next = plug c.seek-2.new.frames.items (contractum c.in-Ready-2.redex) in
    let all : c.steps.steps ≡ c.args.budget = omega arith in
    let s = one_more c.steps.steps c.args.term whole c.seek-2.new.frames.items c.in-Ready-2.redex c.steps.invariant.taken f.0 f.1 in
    rw c.over.ensures (next, subst (λ n. Steps (suc n) [] c.args.term [] next) all s)

pub returns-clause-only : goal.returns-clause-only
returns-clause-only c = no_other c.args.budget c.args.term c.over.result (returns-clause-outcome c)
