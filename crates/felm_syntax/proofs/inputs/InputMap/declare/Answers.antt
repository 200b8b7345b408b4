use Rattle.std.proofs.Common.{◌≡◌, ◌++◌, [], ◌∷◌, false, ap, ◌∙◌}
use Rattle.std.specs.Prelude.{bytes_eq}
use Rattle.std.specs.List.{list_any}
use Rattle.felm_term.specs.Inputs.{names_of}
use Rattle.felm_term.proofs.Names.{distinct_more}
use Rattle.felm_syntax.specs.InputMap.{declaration, declarations}
use Rattle.felm_syntax.proofs.Entries.{declared_last}
use Rattle.felm_syntax.proofs.inputs.InputMap.declare.Goals as goal

pub returns-clause-ok : goal.returns-clause-ok
returns-clause-ok c =
    let fresh : list_any (bytes_eq c.args.name.now) (names_of (declarations c.self.inside.entries.entries)) ≡ false =
    ap (λ inputs. list_any (bytes_eq c.args.name.now) (names_of inputs)) c.self.view_is ∙ c.requires in
    declared_last c.self.inside.entries c.in-Ok.name c.args.name.now c.args.declared c.insert.new.self.entries c.in-Ok.ensures.ok fresh c.in-Ok-insert.ensures.entries
    ∙ ap (λ inputs. inputs ++ declaration c.args.name.now c.args.declared ∷ []) c.self.view_is

pub invariant_of-self-2 : goal.invariant_of-self-2
invariant_of-self-2 c =
    let fresh : list_any (bytes_eq c.args.name.now) (names_of (declarations c.self.inside.entries.entries)) ≡ false =
    ap (λ inputs. list_any (bytes_eq c.args.name.now) (names_of inputs)) c.self.view_is ∙ c.requires in
    distinct_more (declarations c.self.inside.entries.entries) (declarations c.insert.new.self.entries) (declaration c.args.name.now c.args.declared) c.self.invariant fresh
    (declared_last c.self.inside.entries c.in-Ok.name c.args.name.now c.args.declared c.insert.new.self.entries c.in-Ok.ensures.ok fresh c.in-Ok-insert.ensures.entries)
