use Rattle.std.proofs.Common.{◌≡◌, ◌<◌, ◌∙◌, ap, sym, subst, arith, length, List, [], ◌∷◌, ◌++◌, ℕ, get_or}
use Rattle.felm_term.specs.declared.message.Message.{Message}
use Rattle.felm_meaning.specs.Values.{message_at}
use Rattle.felm_plain.specs.Rows.{row_of, AdvancesTo}
use Rattle.felm_plain.specs.Queues.{Added}
use Rattle.felm_plain.proofs.Rows.{read_message}
use Rattle.felm_plain.proofs.Runs.{precedes, length_after, enters, stops}
use Rattle.felm_plain.proofs.run.Run.enter.Goals as goal

pub advance-requires : goal.advance-requires
advance-requires c =
    precedes c.args.event c.requires.taken c.requires.next

pub add_changes-requires-clause-row : goal.add_changes-requires-clause-row
add_changes-requires-clause-row c =
    let a = subst (AdvancesTo c.args.plan.now.graph c.args.plan.now.limits.turn_steps c.args.event c.args.self.now.row c.advance.new.self) c.in-None.is c.in_ok-stopped.ensures in
    ap length c.as_slice-row.ensures ∙ length_after c.args.plan.now.graph c.args.plan.now.limits.turn_steps c.args.event c.args.self.now.row c.advance.new.self a

pub bounds-row-main : goal.bounds-row-main
bounds-row-main c =
    let a = subst (AdvancesTo c.args.plan.now.graph c.args.plan.now.limits.turn_steps c.args.event c.args.self.now.row c.advance.new.self) c.in-None.is c.in_ok-stopped.ensures in
    let l : length c.as_slice-row.result.now ≡ length c.args.plan.now.graph.nodes =
    ap length c.as_slice-row.ensures ∙ length_after c.args.plan.now.graph c.args.plan.now.limits.turn_steps c.args.event c.args.self.now.row c.advance.new.self a in
    omega (arith, c.requires.taken.graph.main_there)

pub returns-in-Some : goal.returns-in-Some
returns-in-Some c =
    let a = subst (AdvancesTo c.args.plan.now.graph c.args.plan.now.limits.turn_steps c.args.event c.args.self.now.row c.advance.new.self) c.in-Some.is c.in_ok-stopped.ensures in
    let s = stops c.args.event c.requires.taken c.requires.next
    c.push.new.self.items c.in-Some.node c.requires.room c.in_ok-push.ensures.ok a.0 in
    (c.in_ok-push.ensures.ok, s.0, s.1)

pub returns-in_ok-push-in-None : goal.returns-in_ok-push-in-None
returns-in_ok-push-in-None c =
    let a = subst (AdvancesTo c.args.plan.now.graph c.args.plan.now.limits.turn_steps c.args.event c.args.self.now.row c.advance.new.self) c.in-None.is c.in_ok-stopped.ensures in
    let l : length c.advance.new.self ≡ length c.args.plan.now.graph.nodes =
    length_after c.args.plan.now.graph c.args.plan.now.limits.turn_steps c.args.event c.args.self.now.row c.advance.new.self a in
    let w : c.args.plan.now.graph.main < length c.advance.new.self = omega (arith, c.requires.taken.graph.main_there) in
    let m : message_at c.advance.new.self c.args.plan.now.graph.main ≡ c.index-row-main.result =
    read_message c.advance.new.self c.args.plan.now.graph.main c.index-row-main.result w
    (c.index-row-main.is ∙
    (ap (λ (ms : List Message). get_or ms c.main.result c.index-row-main.result) c.as_slice-row.ensures ∙
    ap (λ (k : ℕ). get_or c.advance.new.self k c.index-row-main.result) c.main.ensures)) in (
      enters c.args.event c.requires.taken c.requires.next
          c.push.new.self.items c.advance.new.self c.add_changes.new.self c.push-in-None.new.self.items c.requires.room c.in_ok-push.ensures.ok a
          (subst (λ (ms : List Message). Added c.args.plan.now.graph.nodes (row_of ms) c.args.self.now.queues c.add_changes.new.self) c.as_slice-row.ensures
          c.in_ok-add_changes-in-None.ensures)
          w
          (c.in_ok-push-in-None.ensures.ok ∙ ap (λ (x : Message). c.args.self.now.outputs.items ++ x ∷ []) (c.in_ok-copy-in-None.ensures.value ∙ sym m)),
      c.in_ok-push.ensures.ok,
    )
