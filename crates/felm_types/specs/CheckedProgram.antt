-- Checked programs.
use Rattle.std.specs.Prelude.{List}
use Rattle.felm_term.specs.CoreType.{CoreType}
use Rattle.felm_term.specs.CoreTerm.{CoreTerm}
use Rattle.felm_term.specs.declared.input.InputDecl.{InputDecl}

-- a core term, its type, and the declared inputs, as contracts see a `Checked`
pub record CheckedProgram : Type 0 where
  pub term : CoreTerm
  pub ty : CoreType
  pub inputs : List InputDecl
