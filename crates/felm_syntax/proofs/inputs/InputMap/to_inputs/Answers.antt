use Rattle.std.proofs.Common.{◌≡◌, Some, None, length, sym, ap, ◌∙◌}
use Rattle.std.specs.Prelude.{slice_get}
use Rattle.felm_term.specs.Spared.{Spared}
use Rattle.felm_term.specs.declared.input.InputDecl.{InputDecl}
use Rattle.felm_syntax.specs.InputMap.{declaration}
use Rattle.felm_syntax.proofs.Copies.{one_more, all_taken}
use Rattle.felm_syntax.proofs.inputs.InputMap.to_inputs.Goals as goal

pub inputs-preserved : goal.inputs-preserved
inputs-preserved c =
    let next : slice_get c.args.self.now (length c.inputs.inputs.items) ≡ Some (declaration c.in-Some.name.now c.in-Some.declared) =
    sym (rw c.len-in-inputs.ensures at c.in-Some.ensures) in
    rw (c.in_ok-push.ensures.ok, c.with_name.ensures, c.in_ok-name.ensures) (one_more c.inputs.inputs.items c.args.self.now (declaration c.in-Some.name.now c.in-Some.declared) c.inputs.invariant next)

pub of_items-requires : goal.of_items-requires
of_items-requires c =
    let last : slice_get c.args.self.now (length c.inputs.inputs.items) ≡ None = sym (rw c.len-in-inputs.ensures at c.in_default.ensures) in
    rw (all_taken c.inputs.inputs.items c.args.self.now c.inputs.invariant last) c.len.ensures.distinct

pub returns : goal.returns
returns c =
    let last : slice_get c.args.self.now (length c.inputs.inputs.items) ≡ None = sym (rw c.len-in-inputs.ensures at c.in_default.ensures) in
    ap (λ (list : Spared InputDecl). list.items) c.of_items.ensures ∙ all_taken c.inputs.inputs.items c.args.self.now c.inputs.invariant last
