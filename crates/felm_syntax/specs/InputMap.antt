-- The inputs of a program as a list of declarations.
use Rattle.std.specs.Prelude.{ℕ, List, map, string_bytes}
use Rattle.std.specs.declared.string.String.{String}
use Rattle.felm_term.specs.declared.input.InputDecl.{InputDecl}
use Rattle.felm_syntax.specs.declared.inputs.Declared.{Declared}

-- a name with what is declared of it
abbrev pub declaration : List ℕ → Declared → InputDecl
declaration name declared = record { name = name; ty = declared.ty; default = declared.default }

-- the entries of a map as declarations, in order
abbrev pub declarations : {A : Type 0} → List (String A × Declared) → List InputDecl
declarations entries = map (λ entry. declaration (string_bytes entry.0) entry.1) entries
