use Rattle.std.proofs.Common.{ap, ◌∙◌, get_or}
use Rattle.std.proofs.lemmas.Bool.{false≢true}
use Rattle.felm_session.specs.SessionValue.{SessionValue}
use Rattle.felm_session.proofs.Entering.{no_inner, not_waiting}
use Rattle.felm_session.proofs.session.Session.waits.Goals as goal

pub returns-in-Input : goal.returns-in-Input
returns-in-Input c = (
  λ h. absurd (false≢true h),
  λ w. absurd (not_waiting c.args.self.now.engine c.plan.result.now c.nodes.result.now c.args.node c.index-nodes-node.result
      (c.plan.ensures ∙ ap (λ (s : SessionValue). s.engine.plan) c.self.view_is) c.nodes.ensures.nodes c.requires
      (no_inner (get_or c.nodes.result.now c.args.node c.index-nodes-node.result).kind c.in-Input.is) w),
)

pub returns-in-Input-2 : goal.returns-in-Input-2
returns-in-Input-2 c = (
  λ h. absurd (false≢true h),
  λ w. absurd (not_waiting c.args.self.now.engine c.plan.result.now c.nodes.result.now c.args.node c.index-nodes-node.result
      (c.plan.ensures ∙ ap (λ (s : SessionValue). s.engine.plan) c.self.view_is) c.nodes.ensures.nodes c.requires
      (no_inner (get_or c.nodes.result.now c.args.node c.index-nodes-node.result).kind c.in-Input.is) w),
)

pub returns-in-Input-3 : goal.returns-in-Input-3
returns-in-Input-3 c = (
  λ h. absurd (false≢true h),
  λ w. absurd (not_waiting c.args.self.now.engine c.plan.result.now c.nodes.result.now c.args.node c.index-nodes-node.result
      (c.plan.ensures ∙ ap (λ (s : SessionValue). s.engine.plan) c.self.view_is) c.nodes.ensures.nodes c.requires
      (no_inner (get_or c.nodes.result.now c.args.node c.index-nodes-node.result).kind c.in-Input.is) w),
)
