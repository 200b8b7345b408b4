-- Reading declaration by declaration.
use Rattle.std.proofs.Common.{◌≡◌, ℕ, ◌<◌, List, length, true}
use Rattle.std.specs.Prelude.{Ok}
use Rattle.felm_term.specs.declared.input.InputDecl.{InputDecl}
use Rattle.felm_lexer.specs.declared.kind.WordKind.TheVariants as word
use Rattle.felm_lexer.specs.declared.token.Token.{Token}
use Rattle.felm_reading.specs.Reading.{has_word, declaration}
use Rattle.felm_reading.proofs.Declared.{declaration_sound, shorter}
use Rattle.felm_reading.proofs.Programs.{program_step, program_end}

-- fewer tokens are left behind a declaration
pub fewer_left : (text : List ℕ) (seen : List InputDecl) (ts more : List Token) (d : InputDecl) → has_word word.Input ts ≡ true →
    declaration text seen ts ≡ Ok (d, more) → length more < length ts
fewer_left text seen ts more d word read = shorter (declaration_sound text seen ts (d, more) word read).0

pub ruleset declares = (program_step, program_end, fewer_left)
