use Rattle.std.proofs.Common.{◌≡◌, ◌∷◌, [], ◌++◌, refl, ap, arith}
use Rattle.felm_stage.specs.declared.frame.Focus.TheVariants as focus
use Rattle.felm_stage.specs.Frames.{around, plug, work, work_in}
use Rattle.felm_stage.proofs.Plugs.{part_typed, around_part_typed, popped, lighter, good_parts}
use Rattle.felm_stage.proofs.Runs.{takes_at}
use Rattle.felm_stage.proofs.Searches.{all_lead, no_value_whole}
use Rattle.felm_stage.proofs.search.advance.Goals as goal

pub enter-requires : goal.enter-requires
enter-requires c = part_typed c.args.frames.now.items c.in-Whole.term (rw c.in-Whole.is at c.requires.typed)

pub climb_value-requires-clause-typed : goal.climb_value-requires-clause-typed
climb_value-requires-clause-typed c =
    around_part_typed c.args.frames.now.items c.innermost.new.frames.items c.in-Some.frame c.in-Value.value c.in-Some.ensures (rw c.in-Value.is at c.requires.typed)

pub climb_signal-requires-clause-typed : goal.climb_signal-requires-clause-typed
climb_signal-requires-clause-typed c =
    around_part_typed c.args.frames.now.items c.innermost-in-Signal.new.frames.items c.in-Some-innermost.frame c.in-Signal.signal c.in-Some-innermost.ensures (rw c.in-Signal.is at c.requires.typed)

pub climb_signal-requires-clause-good : goal.climb_signal-requires-clause-good
climb_signal-requires-clause-good c =
    (good_parts c.args.frames.now.items c.innermost-in-Signal.new.frames.items c.in-Some-innermost.frame c.in-Some-innermost.ensures c.requires.good).1

pub returns-in_ok-entered-in-Whole : goal.returns-in_ok-entered-in-Whole
returns-in_ok-entered-in-Whole c =
    let t = c.in-Whole.term in
    rw c.in-Whole.is
    (all_lead c.args.frames.now.items c.args.frames.now.items (focus.Whole t) t (work t) c.args.left.now c.enter.new.left c.requires.good refl (omega arith) c.in_ok-entered-in-Whole.entered c.follow.new.frames.items c.follow.result c.in_ok-entered-in-Whole.ensures c.follow.ensures)

pub returns-in-Some : goal.returns-in-Some
returns-in-Some c =
    let old = c.args.frames.now.items in
    let mid = c.innermost.new.frames.items in
    let f = c.in-Some.frame in
    let v = c.in-Value.value in
    let e : old ≡ mid ++ f ∷ [] = c.in-Some.ensures in
    let left = c.args.left.now in
    rw c.in-Value.is
    (all_lead old mid (focus.Value v) (around f v) (work_in f) left left (good_parts old mid f e c.requires.good).0 (popped old mid f e v) (omega (arith, lighter old mid f e)) c.climb_value.result c.follow-in-Some.new.frames.items c.follow-in-Some.result (c.climb_value.ensures left) c.follow-in-Some.ensures)

pub returns-in_ok-climbed-in-Some-innermost : goal.returns-in_ok-climbed-in-Some-innermost
returns-in_ok-climbed-in-Some-innermost c =
    let old = c.args.frames.now.items in
    let mid = c.innermost-in-Signal.new.frames.items in
    let f = c.in-Some-innermost.frame in
    let s = c.in-Signal.signal in
    let e : old ≡ mid ++ f ∷ [] = c.in-Some-innermost.ensures in
    let left = c.args.left.now in
    rw c.in-Signal.is
    (all_lead old mid (focus.Signal s) (around f s) (work_in f) left left (good_parts old mid f e c.requires.good).0 (popped old mid f e s) (omega (arith, lighter old mid f e)) c.in_ok-climbed-in-Some-innermost.climbed c.follow-in-Some-innermost.new.frames.items c.follow-in-Some-innermost.result (c.in_ok-climbed-in-Some-innermost.ensures left) c.follow-in-Some-innermost.ensures)

pub returns-in-None-innermost : goal.returns-in-None-innermost
returns-in-None-innermost c =
    let old = c.args.frames.now.items in
    let s = c.in-Signal.signal in
    let e : old ≡ [] = c.in-None-innermost.ensures.0 in
    rw c.in-Signal.is
    (takes_at c.args.left.now (plug old s) s (ap (λ fs. plug fs s) e), (rw c.in-Signal.is at c.requires.focus), c.in-None-innermost.ensures.1)

pub unreachable-requires : goal.unreachable-requires
unreachable-requires c =
    no_value_whole c.args.frames.now.items c.in-Value.value c.in-None.ensures.0 (rw c.in-Value.is at c.requires.typed) (rw c.in-Value.is at c.requires.focus)
