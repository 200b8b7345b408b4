-- Which expressions and programs have types.
use Rattle.std.specs.Prelude.{◌≡◌, IsTrue, List, [], Option, Some}
use Rattle.felm_term.specs.CoreType.{CoreType, is_simple_signal}
use Rattle.felm_term.specs.CoreTerm.{CoreTerm}
use Rattle.felm_term.specs.Typing.{HasType}
use Rattle.felm_term.specs.Inputs.{names_of, signal_types}
use Rattle.felm_term.specs.declared.input.InputDecl.{InputDecl}
use Rattle.felm_syntax.specs.Expression.{Expression}
use Rattle.felm_syntax.specs.declared.program.Program.{Program}
use Rattle.felm_types.specs.Binder.{Binder, names, types}
use Rattle.felm_types.specs.CoreTermOf.{core_term}

-- the expression has a core term under its binders and the declared inputs, and that has this type
abbrev pub IsOfType : List InputDecl → List Binder → Expression → CoreType → Type 0
IsOfType inputs g e u =
    (t : CoreTerm) × (core_term (names_of inputs) (names g) e ≡ Some t) × HasType (signal_types inputs) [] (types g) t u

-- the core term of a program's expression
abbrev pub program_term : Program → Option CoreTerm
program_term program = core_term (names_of program.inputs) [] program.main

-- a program's expression is a signal of a simple type
abbrev pub IsTyped : Program → Type 0
IsTyped program = (u : CoreType) × IsTrue (is_simple_signal u) × IsOfType program.inputs [] program.main u
