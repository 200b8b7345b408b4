-- What stands before the first fault of a text.
use Rattle.std.proofs.Common.{◌≡◌, ℕ, ◌+◌, ◌<◌, zero, suc, Bool, true, false, List, [], ◌∷◌, ◌++◌, length, take, drop, map, Some, refl, sym, ap, ◌∙◌, subst, append_assoc, inl, inr, arith, tests}
use Rattle.std.specs.Prelude.{if◌then◌else◌}
use Rattle.std.proofs.lemmas.List.{length-append, take-append-drop, append-nil}
use Rattle.std.proofs.Math.Seq.{take-append-add, take-append_seam}
use Rattle.felm_term.specs.Bytes.{is_allowed, begins_comment}
use Rattle.felm_lexer.specs.declared.kind.TokenKind.{TokenKind}
use Rattle.felm_lexer.specs.declared.token.Token.{Token}
use Rattle.felm_lexer.specs.Spellings.{kind_of}
use Rattle.felm_lexer.specs.Fronts.{Space, Comment, Elsewhere, beginning, is_space, ends_line, IsBlank, IsComment, IsToken, IsBadComment, IsGap, IsStuck}
use Rattle.felm_lexer.specs.Readings.{Reading, Whole, NoToken, TooWide, first_token, moved_token, moved, behind, fault_place, Reads, end, gap, token, wide, stuck}
use Rattle.felm_lexer.proofs.Spans.{not_empty}

-- the first byte of a text that begins with a blank, with a comment or elsewhere
pub space_byte : (b : ℕ) (rest : List ℕ) → beginning (b ∷ rest) ≡ Space → is_space b ≡ true
space_byte b rest e =
    (elim (is_space b) as (λ q. (if q then Space else (if begins_comment (b ∷ rest) then Comment else Elsewhere)) ≡ Space → q ≡ true) [
      | true ↦ λ f. refl
      | false ↦ λ f. (elim (begins_comment (b ∷ rest)) as (λ q. (if q then Comment else Elsewhere) ≡ Space → false ≡ true) [
        | true ↦ λ g. absurd (cc)
        | false ↦ λ g. absurd (cc)
      ]) f
    ]) e

-- the first byte is no blank, and two minus signs stand first or don't
abbrev BeginsComment : Bool → ℕ → List ℕ → Type 0
BeginsComment is b rest = (is_space b ≡ false) × (begins_comment (b ∷ rest) ≡ is)

-- the first byte of a comment is no blank
comment_bytes : (b : ℕ) (rest : List ℕ) → beginning (b ∷ rest) ≡ Comment → BeginsComment true b rest
comment_bytes b rest e =
    (elim (is_space b) as (λ q. (if q then Space else (if begins_comment (b ∷ rest) then Comment else Elsewhere)) ≡ Comment → (q ≡ false) × (begins_comment (b ∷ rest) ≡ true)) [
      | true ↦ λ f. absurd (cc)
      | false ↦ λ f. (elim (begins_comment (b ∷ rest)) as (λ q. (if q then Comment else Elsewhere) ≡ Comment → (false ≡ false) × (q ≡ true)) [
        | true ↦ λ g. (refl, refl)
        | false ↦ λ g. absurd (cc)
      ]) f
    ]) e

-- a text that begins elsewhere begins no comment
elsewhere_bytes : (b : ℕ) (rest : List ℕ) → beginning (b ∷ rest) ≡ Elsewhere → BeginsComment false b rest
elsewhere_bytes b rest e =
    (elim (is_space b) as (λ q. (if q then Space else (if begins_comment (b ∷ rest) then Comment else Elsewhere)) ≡ Elsewhere → (q ≡ false) × (begins_comment (b ∷ rest) ≡ false)) [
      | true ↦ λ f. absurd (cc)
      | false ↦ λ f. (elim (begins_comment (b ∷ rest)) as (λ q. (if q then Comment else Elsewhere) ≡ Elsewhere → (false ≡ false) × (q ≡ false)) [
        | true ↦ λ g. absurd (cc)
        | false ↦ λ g. (refl, refl)
      ]) f
    ]) e

-- a blank, comment or token stays one where less follows
blank_before : (bytes rest front : List ℕ) → IsBlank bytes rest → IsBlank bytes front
blank_before bytes rest front is =
    let space : is_space is.byte ≡ true = space_byte is.byte rest (ap (λ l. beginning (l ++ rest)) (sym is.one) ∙ is.begins) in
    let begins : beginning ((is.byte ∷ []) ++ front) ≡ Space = rw space refl in
    record { begins = ap (λ l. beginning (l ++ front)) is.one ∙ begins; byte = is.byte; one = is.one }

-- a line ends there still where less follows
line_ends_before : (p : ℕ) (rest : List ℕ) → ends_line rest ≡ true → ends_line (take p rest) ≡ true
line_ends_before zero rest ends = refl
line_ends_before (suc p) [] ends = refl
line_ends_before (suc p) (b ∷ rest) ends = ends

-- the two signs that begin a comment lie within its bytes where no minus follows them
comment_begins_before : (bytes rest front : List ℕ) → beginning (bytes ++ rest) ≡ Comment → (beginning rest ≡ Comment → ⊥)
    → ((c : ℕ) → begins_comment (c ∷ rest) ≡ true → ⊥) → beginning (bytes ++ front) ≡ Comment
comment_begins_before [] rest front e none one = absurd (none e)
comment_begins_before (c ∷ []) rest front e none one = absurd (one c (comment_bytes c rest e).1)
comment_begins_before (c ∷ d ∷ bytes) rest front e none one = e

-- no comment begins where a line ends
no_comment_at_line : (rest : List ℕ) → ends_line rest ≡ true → beginning rest ≡ Comment → ⊥
no_comment_at_line [] ends e = cc
no_comment_at_line (b ∷ rest) ends e = let space = (comment_bytes b rest e).0 in grind (arith, tests, ends)

-- no minus stands where a line ends
no_minus_at_line : (rest : List ℕ) → ends_line rest ≡ true → (c : ℕ) → begins_comment (c ∷ rest) ≡ true → ⊥
no_minus_at_line [] ends c e = cc
no_minus_at_line (b ∷ rest) ends c e = grind (arith, tests, ends, e)

-- no comment begins with a byte that isn't allowed
no_comment_at_bad : (rest : List ℕ) (b : ℕ) (after : List ℕ) → rest ≡ b ∷ after → is_allowed b ≡ false → beginning rest ≡ Comment → ⊥
no_comment_at_bad [] b after is bad e = cc
no_comment_at_bad (d ∷ []) b after is bad e = let begins = (comment_bytes d [] e).1 in cc
no_comment_at_bad (d ∷ f ∷ rest) b after is bad e =
    let same : d ≡ b = cc in
    let begins = (comment_bytes d (f ∷ rest) e).1 in
    let bad' : is_allowed d ≡ false = subst (λ c. is_allowed c ≡ false) (sym same) bad in
    grind (arith, tests, begins, bad')

-- no minus is a byte that isn't allowed
no_minus_at_bad : (rest : List ℕ) (b : ℕ) (after : List ℕ) → rest ≡ b ∷ after → is_allowed b ≡ false → (c : ℕ) → begins_comment (c ∷ rest) ≡ true → ⊥
no_minus_at_bad [] b after is bad c e = cc
no_minus_at_bad (d ∷ rest) b after is bad c e =
    let same : d ≡ b = cc in
    let bad' : is_allowed d ≡ false = subst (λ c. is_allowed c ≡ false) (sym same) bad in
    grind (arith, tests, e, bad')

-- a gap stays one where less follows
gap_before : (bytes rest : List ℕ) (p : ℕ) → IsGap bytes rest → IsGap bytes (take p rest)
gap_before bytes rest p (inl is) = inl (blank_before bytes rest (take p rest) is)
gap_before bytes rest p (inr is) =
    inr (record {
      begins = comment_begins_before bytes rest (take p rest) is.begins (no_comment_at_line rest is.ends) (no_minus_at_line rest is.ends);
      all = is.all;
      ends = line_ends_before p rest is.ends;
    })

-- a token begins no comment where less follows
token_begins_before : (p : ℕ) (bytes rest : List ℕ) → 0 < length bytes → beginning (bytes ++ rest) ≡ Elsewhere → beginning (bytes ++ take p rest) ≡ Elsewhere
token_begins_before p [] rest some e = absurd (omega arith)
token_begins_before p (c ∷ d ∷ bytes) rest some e = e
token_begins_before zero (c ∷ []) rest some e = let space = (elsewhere_bytes c rest e).0 in rw space refl
token_begins_before (suc p) (c ∷ []) [] some e = e
token_begins_before (suc p) (c ∷ []) (d ∷ rest) some e = e

-- a token stays the longest where less follows
token_before : (bytes rest : List ℕ) (p : ℕ) → IsToken bytes rest → IsToken bytes (take p rest)
token_before bytes rest p is =
    record {
      begins = token_begins_before p bytes rest (not_empty bytes is.spelled) is.begins;
      spelled = is.spelled;
      longest = λ b more after e.
          is.longest b more (after ++ drop p rest)
          (sym (take-append-drop p rest) ∙ ap (λ l. l ++ drop p rest) e ∙ append_assoc (b ∷ more) after (drop p rest));
    }

-- a comment up to a byte that isn't allowed is a comment without that byte
bad_comment_before : (bytes rest : List ℕ) → IsBadComment bytes rest → IsComment bytes []
bad_comment_before bytes rest is =
    record {
      begins = comment_begins_before bytes rest [] is.begins (no_comment_at_bad rest is.byte is.after is.stands is.bad) (no_minus_at_bad rest is.byte is.after is.stands is.bad);
      all = is.all;
      ends = refl;
    }

-- the place of a fault lies within the text, and what stands before it reads whole
pub record StopsAt (text : List ℕ) (at : ℕ) : Type 0 where
  pub within : at < length text
  pub tokens : List Token
  pub before : Reads (take at text) (Whole tokens)

-- behind a gap the fault is that of the rest
gap_stops : (text bytes rest : List ℕ) (p : ℕ) → text ≡ bytes ++ rest → IsGap bytes rest → StopsAt rest p → StopsAt text (length bytes + p)
gap_stops text bytes rest p e is stops =
    let front : take (length bytes + p) text ≡ bytes ++ take p rest = ap (take (length bytes + p)) e ∙ take-append-add bytes rest p in
    record {
      within = omega (arith, stops.within, ap length e, length-append bytes rest);
      tokens = map (moved_token (length bytes)) stops.tokens;
      before = gap front (gap_before bytes rest p is) stops.before refl;
    }

-- behind a token the fault is that of the rest
token_stops : (text bytes rest : List ℕ) (p : ℕ) (kind : TokenKind) → text ≡ bytes ++ rest → IsToken bytes rest → kind_of bytes ≡ Some kind → StopsAt rest p
    → StopsAt text (length bytes + p)
token_stops text bytes rest p kind e is k stops =
    let front : take (length bytes + p) text ≡ bytes ++ take p rest = ap (take (length bytes + p)) e ∙ take-append-add bytes rest p in
    record {
      within = omega (arith, stops.within, ap length e, length-append bytes rest);
      tokens = first_token bytes kind ∷ map (moved_token (length bytes)) stops.tokens;
      before = token front (token_before bytes rest p is) k stops.before refl;
    }

-- a number that is too wide is a fault at its start
wide_stops : (text bytes rest : List ℕ) → text ≡ bytes ++ rest → IsToken bytes rest → StopsAt text 0
wide_stops text bytes rest e is =
    record {
      within = omega (arith, not_empty bytes is.spelled, ap length e, length-append bytes rest);
      tokens = [];
      before = end;
    }

-- something is left where reading can't go on
stuck_within : (bytes rest : List ℕ) → IsStuck bytes rest → 0 < length rest
stuck_within bytes [] (inl is) = absurd (let e : beginning (bytes ++ []) ≡ Elsewhere = is.begins in let f = ap (λ l. beginning (l ++ [])) is.here in cc)
stuck_within bytes [] (inr is) = absurd (let e = is.stands in cc)
stuck_within bytes (b ∷ rest) is = omega arith

-- what stands before the place where reading can't go on reads whole
stuck_reads : (bytes rest : List ℕ) → IsStuck bytes rest → (tokens : List Token) × Reads bytes (Whole tokens)
stuck_reads bytes rest (inl is) = ([], subst (λ l. Reads l (Whole [])) (sym is.here) end)
stuck_reads bytes rest (inr is) = ([], gap (sym (append-nil bytes)) (inr (bad_comment_before bytes rest is)) end refl)

-- where reading can't go on is a fault behind these bytes
stuck_stops : (text bytes rest : List ℕ) → text ≡ bytes ++ rest → IsStuck bytes rest → StopsAt text (length bytes)
stuck_stops text bytes rest e is =
    let front : take (length bytes) text ≡ bytes = ap (take (length bytes)) e ∙ take-append_seam bytes rest in
    let reads = stuck_reads bytes rest is in
    record {
      within = omega (arith, stuck_within bytes rest is, ap length e, length-append bytes rest);
      tokens = reads.0;
      before = subst (λ l. Reads l (Whole reads.0)) (sym front) reads.1;
    }

-- the place of a fault of the rest
record IsFaultOfRest (n : ℕ) (reading : Reading) (at : ℕ) : Type 0 where
  place : ℕ
  is : fault_place reading ≡ Some place
  moves : n + place ≡ at

-- a fault of a moved reading is a moved fault
fault_of_moved : (n : ℕ) (reading : Reading) (at : ℕ) → fault_place (moved n reading) ≡ Some at → IsFaultOfRest n reading at
fault_of_moved n (Whole tokens) at e = absurd (cc)
fault_of_moved n (NoToken p) at e = record { place = p; is = refl; moves = cc }
fault_of_moved n (TooWide p) at e = record { place = p; is = refl; moves = cc }

-- a token before a reading leaves its fault
fault_behind : (t : Token) (reading : Reading) → fault_place (behind t reading) ≡ fault_place reading
fault_behind t (Whole tokens) = refl
fault_behind t (NoToken p) = refl
fault_behind t (TooWide p) = refl

-- every fault lies within its text, and what stands before it reads whole
pub fault_stops : (text : List ℕ) (reading : Reading) → Reads text reading → (at : ℕ) → fault_place reading ≡ Some at → StopsAt text at
fault_stops text reading end at is = absurd (cc)
fault_stops text reading (gap {bytes = bytes} {rest = rest} {reading = later} e g reads w) at is =
    let fault = fault_of_moved (length bytes) later at (ap fault_place (sym w) ∙ is) in
    subst (StopsAt text) fault.moves (gap_stops text bytes rest fault.place e g (fault_stops rest later reads fault.place fault.is))
fault_stops text reading (token {bytes = bytes} {rest = rest} {kind = kind} {reading = later} e g k reads w) at is =
    let t = first_token bytes kind in
    let fault = fault_of_moved (length bytes) later at (sym (fault_behind t (moved (length bytes) later)) ∙ ap fault_place (sym w) ∙ is) in
    subst (StopsAt text) fault.moves (token_stops text bytes rest fault.place kind e g k (fault_stops rest later reads fault.place fault.is))
fault_stops text reading (wide {bytes = bytes} {rest = rest} e g k w) at is =
    let place : 0 ≡ at = let f = ap fault_place (sym w) ∙ is in cc in
    subst (StopsAt text) place (wide_stops text bytes rest e g)
fault_stops text reading (stuck {bytes = bytes} {rest = rest} e g w) at is =
    let place : length bytes ≡ at = let f = ap fault_place (sym w) ∙ is in cc in
    subst (StopsAt text) place (stuck_stops text bytes rest e g)
