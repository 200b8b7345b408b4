use Rattle.std.proofs.Common.{◌≡◌, ◌<◌, ◌∙◌, sym, ap, Some, arith}
use Rattle.std.specs.Prelude.{vec_len}
use Rattle.felm_term.specs.declared.message.Message.{Message}
use Rattle.felm_edges.specs.Parts.{OutletValue}
use Rattle.felm_edges.proofs.Copies.{rest_are, taken_is, some_message}
use Rattle.felm_edges.proofs.outlet.Outlet.take.Goals as goal

pub invariant_of-self : goal.invariant_of-self
invariant_of-self c m e =
    rest_are (vec_len c.self.inside.copies) (vec_len c.pop.new.self) m c.self.inside.copies.items c.pop.new.self.items (c.self.invariant m e)
    c.pop.ensures.rest (omega (arith, c.in-Some.ensures.len))

pub returns-clause-value : goal.returns-clause-value
returns-clause-value c =
    let message : c.self.inside.message ≡ c.args.self.now.message = ap (λ (o : OutletValue). o.message) c.self.view_is in
    let found = some_message c.args.self.now.message c.requires.prepared in
    let some : 0 < vec_len c.self.inside.copies = omega (arith, c.requires.left, ap (λ (o : OutletValue). o.left) c.self.view_is) in
    let taken : found.0 ≡ c.in-Some.message =
    taken_is (vec_len c.self.inside.copies) found.0 c.in-Some.message c.self.inside.copies.items (c.self.invariant found.0 (message ∙ found.1)) some
    (sym c.in-Some.is ∙ c.pop.ensures.value c.in-Some.message some) in
    found.1 ∙ ap (λ (m : Message). Some m) taken
