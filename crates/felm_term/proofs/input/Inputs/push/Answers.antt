use Rattle.std.proofs.Common.{◌≡◌, false, ap, ◌∙◌}
use Rattle.std.specs.Prelude.{bytes_eq}
use Rattle.std.specs.List.{list_any}
use Rattle.felm_term.specs.Spared.{Spared}
use Rattle.felm_term.specs.declared.input.InputDecl.{InputDecl}
use Rattle.felm_term.specs.Inputs.{names_of}
use Rattle.felm_term.proofs.Names.{distinct_after}
use Rattle.felm_term.proofs.input.Inputs.push.Goals as goal

pub invariant_of-self : goal.invariant_of-self
invariant_of-self c =
    let same = ap (λ (list : Spared InputDecl). list.items) c.self.view_is in
    let fresh : list_any (bytes_eq c.args.item.name) (names_of c.self.inside.items.items) ≡ false =
    ap (λ items. list_any (bytes_eq c.args.item.name) (names_of items)) same ∙ c.requires in
    distinct_after c.push.result c.self.inside.items.items c.push.new.self.items c.args.item c.self.invariant fresh c.push.ensures.ok c.push.ensures.err
