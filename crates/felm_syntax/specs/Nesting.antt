-- How deeply tokens nest.
--
-- The tokens up to a token say how deeply it nests: as the last one of a front of a program. It nests once in each `expr` and
-- in each `type` that holds it, and once more for each operator of a chain, and each argument of an application, that holds it
-- and in which that operator or argument ends before it.
use Rattle.std.specs.Prelude.{◌≡◌, ℕ, suc, ◌<◌, ◌≤◌, List, [], ◌∷◌, ◌++◌}
use Rattle.felm_lexer.specs.declared.token.Token.{Token}
use Rattle.felm_syntax.specs.Fronts.{Part, IsToken, Rule, along, below, Whole, program}

-- The tokens are a front of these parts in order, and the last of them nests so much deeper than the parts.
pub data Nests (text : List ℕ) : List Part → ℕ → List Token → Type 0 where
  token : {p : Part} {ps : List Part} {t : Token} → IsToken text p t → Nests text (p ∷ ps) 0 (t ∷ [])
  inside : {p : Part} {parts ps : List Part} {n : ℕ} {ts : List Token} →
      Rule along p parts → Nests text parts n ts → Nests text (p ∷ ps) n ts
  deeper : {p : Part} {parts ps : List Part} {n : ℕ} {ts : List Token} →
      Rule below p parts → Nests text parts n ts → Nests text (p ∷ ps) (suc n) ts
  after : {p : Part} {ps : List Part} {n : ℕ} {ts us : List Token} →
      Whole text p ts us → Nests text ps n us → Nests text (p ∷ ps) n ts

-- as a front of a program, the last of the tokens nests at most so deeply
abbrev pub HasRoom : List ℕ → ℕ → List Token → Type 0
HasRoom text limit ts = (n : ℕ) → Nests text (program ∷ []) n ts → n ≤ limit

-- as a front of a program, the last of the tokens nests deeper
abbrev pub IsTooDeep : List ℕ → ℕ → List Token → Type 0
IsTooDeep text limit ts = (n : ℕ) × Nests text (program ∷ []) n ts × (limit < n)

-- each of the tokens nests at most so deeply
abbrev pub NestWithin : List ℕ → ℕ → List Token → Type 0
NestWithin text limit tokens = (first rest : List Token) → tokens ≡ first ++ rest → HasRoom text limit first
