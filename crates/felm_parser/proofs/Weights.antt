-- A measure of the functions that call one another.
use Rattle.std.specs.Prelude.{ℕ}
use Rattle.felm_syntax.specs.declared.level.Level.{Level}
use Rattle.felm_syntax.specs.declared.level.Level.TheVariants as level

-- how far a part of a chain of each level is from a phrase that nests deeper
abbrev pub weight : Level → ℕ
weight level.Or = 28
weight level.And = 26
weight level.Sum = 23
weight level.Product = 21
