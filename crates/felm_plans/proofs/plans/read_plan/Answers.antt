use Rattle.std.proofs.lemmas.Result.{err_from_is_err_and}
use Rattle.std.proofs.Common.{◌≡◌, ap, subst}
use Rattle.std.specs.Prelude.{Ok}
use Rattle.felm_script.specs.Script.{script_of}
use Rattle.felm_plans.specs.Plans.{planned}
use Rattle.felm_plans.proofs.Graphs.{have_plan, plan_fault}
use Rattle.felm_plans.proofs.plans.read_plan.Goals as goal

pub returns-in_err-graph-clause-fault : goal.returns-in_err-graph-clause-fault
returns-in_err-graph-clause-fault c =
    let q = err_from_is_err_and c.from_residual-in_err-graph.result c.from_residual-in_err-graph.ensures.1 in
    rw (q.1, q.2)
    (plan_fault c.args.program.now c.args.limits.now.stage_steps c.in_ok-read.read c.in_ok-checked.checked.inputs c.in_ok-checked.checked.term
    c.in_ok-read.ensures.program c.in_ok-checked.ensures.typed c.in_ok-checked.ensures.term c.in_ok-checked.ensures.inputs
    c.args.script.now c.in_ok-script.script.items
    (subst (λ inputs. script_of inputs c.args.script.now ≡ Ok c.in_ok-script.script.items) (ap (λ checked. checked.inputs) c.checked.view_is) c.in_ok-script.ensures.events)
    c.in_err-graph.field-0.0 c.in_err-graph.ensures.fault)

pub returns-clause-plan : goal.returns-clause-plan
returns-clause-plan c =
    have_plan c.args.program.now c.args.limits.now.stage_steps c.in_ok-read.read c.in_ok-checked.checked.inputs c.in_ok-checked.checked.term
    c.in_ok-read.ensures.program c.in_ok-checked.ensures.typed c.in_ok-checked.ensures.term c.in_ok-checked.ensures.inputs
    c.args.script.now c.in_ok-script.script.items
    (subst (λ inputs. script_of inputs c.args.script.now ≡ Ok c.in_ok-script.script.items) (ap (λ checked. checked.inputs) c.checked.view_is) c.in_ok-script.ensures.events)
    c.in_ok-graph.graph (planned c.make.result) c.in_ok-graph.ensures.graph c.make.ensures.graph (ap (λ s. s.items) c.make.ensures.script)
