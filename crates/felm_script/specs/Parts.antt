-- What the functions of this crate find.
use Rattle.std.specs.Prelude.{◌≡◌, ℕ, List, [], ◌∷◌, Option, Some, None}
use Rattle.std.proofs.Common.{Bor}
use Rattle.felm_script.specs.declared.fields.Fields.{Fields}
use Rattle.felm_script.specs.declared.fields.Fields.TheVariants.{Empty, One, Two, More}

-- the first of some fields and the rest, or an empty one where there is none
abbrev pub IsCut : List (List ℕ) → List ℕ → List (List ℕ) → Type 0
IsCut fields [] rest = fields ≡ []
IsCut fields (b ∷ first) rest = fields ≡ (b ∷ first) ∷ rest

-- the fields, or that they are more than two
abbrev pub AreFields : List (List ℕ) → Fields → Type 0
AreFields fields Empty = fields ≡ []
AreFields fields (One first) = fields ≡ first.now ∷ []
AreFields fields (Two first second) = fields ≡ first.now ∷ second.now ∷ []
AreFields fields (More first) = (second third : List ℕ) × (rest : List (List ℕ)) × (fields ≡ first.now ∷ second ∷ third ∷ rest)

-- the field, if there is one
abbrev pub listed : Option (Bor (List ℕ)) → List (List ℕ)
listed None = []
listed (Some field) = field.now ∷ []
