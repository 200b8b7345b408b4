-- The first fault of tokens, which are judged one by one from the left.
use Rattle.std.specs.Prelude.{◌≡◌, ℕ, List, [], ◌∷◌, ◌++◌, length, true, bytes_eq, ◌⊎◌}
use Rattle.std.specs.List.{list_any}
use Rattle.felm_term.specs.Inputs.{names_of}
use Rattle.felm_term.specs.declared.input.InputDecl.{InputDecl}
use Rattle.felm_lexer.specs.declared.kind.WordKind.TheVariants as word
use Rattle.felm_lexer.specs.declared.token.Token.{Token}
use Rattle.felm_syntax.specs.Expression.{Expression}
use Rattle.felm_syntax.specs.Fronts.{IsFront}
use Rattle.felm_syntax.specs.Grammar.{IsWord, IsName, ReadsDeclaration, ReadsProgram}
use Rattle.felm_syntax.specs.Nesting.{HasRoom, IsTooDeep}

-- a fault of the tokens, with its place
pub data Fault : Type 0 where
  -- a token that can't follow those before it, or the end of the text where more must follow
  Syntax : (at : ℕ) → Fault
  -- a token that nests too deeply
  Depth : (at : ℕ) → Fault
  -- a name that was declared before
  Twice : (at : ℕ) → Fault

-- the place of a fault
abbrev pub place_of_fault : Fault → ℕ
place_of_fault (Syntax at) = at
place_of_fault (Depth at) = at
place_of_fault (Twice at) = at

-- the tokens begin with these whole declarations, and the rest follows them
pub data Declares (text : List ℕ) : List InputDecl → List Token → List Token → Type 0 where
  no_more : {ts : List Token} → Declares text [] ts ts
  one_first : {d : InputDecl} {ds : List InputDecl} {ts us rest : List Token} →
      ReadsDeclaration text ts us d → Declares text ds us rest → Declares text (d ∷ ds) ts rest

-- The last of the tokens is the name in a declaration, and an earlier declaration has that name.
pub data NamesAgain (text : List ℕ) : List Token → Type 0 where
  names_again : {ds : List InputDecl} {ts : List Token} {i n : Token} {x : List ℕ} → Declares text ds ts (i ∷ n ∷ []) →
      IsWord word.Input i → IsName text x n → list_any (bytes_eq x) (names_of ds) ≡ true → NamesAgain text ts

-- The last of the tokens is refused, for the first cause that holds.
abbrev pub IsRefused : List ℕ → ℕ → List Token → Fault → Type 0
IsRefused text limit ts (Syntax _) = IsFront text ts → ⊥
IsRefused text limit ts (Depth _) = IsFront text ts × IsTooDeep text limit ts
IsRefused text limit ts (Twice _) = IsFront text ts × HasRoom text limit ts × NamesAgain text ts

-- None of the tokens is refused: those up to each of them are a front, in which it has room and names nothing again.
abbrev pub AllPass : List ℕ → ℕ → List Token → Type 0
AllPass text limit tokens =
    (first rest : List Token) → tokens ≡ first ++ rest → IsFront text first × HasRoom text limit first × (NamesAgain text first → ⊥)

-- The tokens before one of them pass. That one is refused, and the fault is at its start.
abbrev pub RefusesToken : List ℕ → ℕ → List Token → Fault → Type 0
RefusesToken text limit tokens fault =
    (first : List Token) × (t : Token) × (rest : List Token) × (tokens ≡ first ++ t ∷ rest) × AllPass text limit first
    × IsRefused text limit (first ++ t ∷ []) fault × (place_of_fault fault ≡ t.start)

-- All tokens pass, and the grammar reads them as no program.
abbrev pub IsCutShort : List ℕ → ℕ → List Token → Type 0
IsCutShort text limit tokens = AllPass text limit tokens × ((ds : List InputDecl) (main : Expression) → ReadsProgram text tokens ds main → ⊥)

-- The fault is the first one: a token is refused for it, or the text ends too early.
abbrev pub IsFirstFault : List ℕ → ℕ → List Token → Fault → Type 0
IsFirstFault text limit tokens fault =
    RefusesToken text limit tokens fault ⊎ (IsCutShort text limit tokens × (fault ≡ Syntax (length text)))
