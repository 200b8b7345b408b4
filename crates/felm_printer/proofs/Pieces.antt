-- Pieces put one after another.
use Rattle.std.proofs.Common.{◌≡◌, ◌<◌, ◌+◌, ℕ, List, [], ◌∷◌, ◌++◌, length, map, take, drop, get_or, Option, Bor, sym, ap, ◌∙◌, subst, append-nil}
use Rattle.std.specs.List.{concat}
use Rattle.std.specs.Io.KnownBytes.{Appends}
use Rattle.std.proofs.KnownBytes.{Appends-trans}
use Rattle.std.proofs.lemmas.List.{map-append, take_more, take-append-drop}
use Rattle.std.proofs.lemmas.List.Folds.{concat-append}
use Rattle.felm_io.specs.Causes.{AppendsPrefix}
use Rattle.felm_printer.proofs.Prefixes.{prefix_after, prefix_more}

-- the bytes of all pieces, in order
abbrev pub joined : List (Bor (List ℕ)) → List ℕ
joined pieces = concat (map (λ piece. piece.now) pieces)

joined-append : (front back : List (Bor (List ℕ))) → joined (front ++ back) ≡ joined front ++ joined back
joined-append front back = ap concat (map-append (λ (p : Bor (List ℕ)). p.now) front back) ∙ concat-append (map (λ (p : Bor (List ℕ)). p.now) front) (map (λ (p : Bor (List ℕ)). p.now) back)

joined-more : (pieces : List (Bor (List ℕ))) (i : ℕ) (none : Bor (List ℕ)) → i < length pieces
    → joined (take (i + 1) pieces) ≡ joined (take i pieces) ++ (get_or pieces i none).now
joined-more pieces i none within =
    let piece = get_or pieces i none in
    ap joined (take_more pieces i none within)
    ∙ joined-append (take i pieces) (piece ∷ []) ∙ ap (λ l. joined (take i pieces) ++ l) (append-nil piece.now)

module _ (pieces : List (Bor (List ℕ))) (i : ℕ) (none : Bor (List ℕ)) (within : i < length pieces)
    (old mid new : Option (List ℕ)) (so_far : Appends old mid (joined (take i pieces))) where
  -- one more piece
  pub one_piece : Appends mid new (get_or pieces i none).now → Appends old new (joined (take (i + 1) pieces))
  one_piece put = subst (Appends old new) (sym (joined-more pieces i none within)) (Appends-trans _ _ _ _ _ so_far put)

  -- a prefix of one more piece is one of all
  pub part_of_piece : AppendsPrefix mid new (get_or pieces i none).now → AppendsPrefix old new (joined pieces)
  part_of_piece put =
      let all : joined pieces ≡ (joined (take i pieces) ++ (get_or pieces i none).now) ++ joined (drop (i + 1) pieces) =
      ap joined (sym (take-append-drop (i + 1) pieces)) ∙ joined-append (take (i + 1) pieces) (drop (i + 1) pieces)
      ∙ ap (λ l. l ++ joined (drop (i + 1) pieces)) (joined-more pieces i none within) in
      subst (AppendsPrefix old new) (sym all)
      (prefix_more old new (joined (take i pieces) ++ (get_or pieces i none).now) (joined (drop (i + 1) pieces))
      (prefix_after old mid new (joined (take i pieces)) (get_or pieces i none).now so_far put))
