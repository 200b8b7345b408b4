-- One piece put after another.
use Rattle.std.proofs.Common.{ℕ, ◌+◌, List, ◌++◌, length, take, Option, Some, None, sym, ap, ◌∙◌, append_assoc, length-append, arith}
use Rattle.std.proofs.Math.Seq.{take-append-add}
use Rattle.std.proofs.lemmas.List.{take-append-le}
use Rattle.std.specs.Io.KnownBytes.{Appends}
use Rattle.felm_io.specs.Causes.{AppendsPrefix}

pub prefix_after : (a b c : Option (List ℕ)) (x y : List ℕ) → Appends a b x → AppendsPrefix b c y → AppendsPrefix a c (x ++ y)
prefix_after None b c x y p q = tt
prefix_after (Some u) None c x y p q = absurd p
prefix_after (Some u) (Some v) None x y p q = absurd q
prefix_after (Some u) (Some v) (Some w) x y p (n, few, e) = (
  length x + n,
  omega (arith, length-append x y),
  e ∙ ap (λ l. l ++ take n y) p ∙ append_assoc u x (take n y) ∙ ap (λ l. u ++ l) (sym (take-append-add x y n)),
)

pub prefix_more : (a b : Option (List ℕ)) (x y : List ℕ) → AppendsPrefix a b x → AppendsPrefix a b (x ++ y)
prefix_more None b x y p = tt
prefix_more (Some u) None x y p = absurd p
prefix_more (Some u) (Some v) x y (n, few, e) =
    (n, omega (arith, length-append x y), e ∙ ap (λ l. u ++ l) (sym (take-append-le n x y few)))
