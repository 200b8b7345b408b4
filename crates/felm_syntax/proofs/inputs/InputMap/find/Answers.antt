use Rattle.std.proofs.Common.{ap, ◌∙◌}
use Rattle.std.specs.Prelude.{position, bytes_eq}
use Rattle.felm_term.specs.Inputs.{names_of}
use Rattle.felm_syntax.proofs.Entries.{number_of_name}
use Rattle.felm_syntax.proofs.inputs.InputMap.find.Goals as goal

pub returns-clause-found : goal.returns-clause-found
returns-clause-found c =
    c.get_index_of.ensures.index ∙ number_of_name c.self.inside.entries.entries c.args.name.now
    ∙ ap (λ inputs. position (bytes_eq c.args.name.now) (names_of inputs)) c.self.view_is
