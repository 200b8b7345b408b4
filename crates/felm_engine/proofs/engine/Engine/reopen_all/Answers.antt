use Rattle.std.proofs.Common.{◌≡◌, ℕ, List, Bool, length, vec_len, arith, false, refl, sym, ap, ◌∙◌}
use Rattle.std.specs.Prelude.{replicate}
use Rattle.std.proofs.lemmas.List.{length-replicate}
use Rattle.felm_meaning.specs.Plans.{plan_of}
use Rattle.felm_core.specs.Positions.{Position, is_out}
use Rattle.felm_core.proofs.Stays.{stay_holds}
use Rattle.felm_core.proofs.Spares.{stay_room}
use Rattle.felm_edges.specs.EdgesValue.{edge_in}
use Rattle.felm_engine.specs.Inside.{position_of, parts_of, spares_of}
use Rattle.felm_engine.proofs.Flags.{out_count, replicate-clear, count-replicate}
use Rattle.felm_engine.proofs.Moving.{none_out_sound}
use Rattle.felm_engine.proofs.engine.Engine.reopen_all.Goals as goal

pub invariant_of-self : goal.invariant_of-self
invariant_of-self c =
    let s = c.self.invariant in
    let plan = plan_of c.self.inside.plan in
    let here = position_of c.self.inside in
    let n : ℕ = length here.out in
    let len : vec_len c.self.inside.out ≡ n = omega arith in
    let clear : c.fill.new.self.items ≡ replicate n false = c.fill.ensures.items (λ y h. cc) ∙ ap (λ (m : ℕ). replicate m false) len in
    let after : Position = record here { out = c.fill.new.self.items } in
    record {
      made = s.made;
      sound = none_out_sound plan here c.fill.new.self.items s.sound (ap length clear ∙ length-replicate n false)
          (λ k. ap (λ (out : List Bool). is_out out k) clear ∙ replicate-clear n k);
      typed = s.typed;
      holds = stay_holds plan here after refl refl (edge_in c.self.inside.edges) (parts_of c.self.inside) s.holds;
      room = stay_room plan here after (spares_of c.self.inside) refl refl s.room;
      counted = sym (ap out_count clear ∙ count-replicate n);
    }
