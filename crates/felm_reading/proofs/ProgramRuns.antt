-- Programs are read as their fronts say.
use Rattle.std.proofs.Common.{◌≡◌, ℕ, zero, suc, ◌≤◌, refl, arith, inl, inr, List, [], ◌∷◌, ◌++◌, length, append_assoc, append-nil, Bool, true, false, subst, sym}
use Rattle.std.specs.Prelude.{pos, Result, Ok, Err, Option, Some, None, if◌then◌else◌, bytes_eq}
use Rattle.std.specs.List.{list_any}
use Rattle.felm_term.specs.Inputs.{names_of}
use Rattle.felm_term.specs.declared.input.InputDecl.{InputDecl}
use Rattle.felm_term.specs.declared.input.InputTy.TheVariants as input
use Rattle.felm_lexer.specs.declared.kind.Symbol.TheVariants as symbol
use Rattle.felm_lexer.specs.declared.kind.WordKind.TheVariants as word
use Rattle.felm_lexer.specs.declared.kind.TokenKind.TheVariants as kind
use Rattle.felm_lexer.specs.declared.token.Token.{Token}
use Rattle.felm_syntax.specs.Expression.{Expression}
use Rattle.felm_syntax.specs.Nesting.{Nests}
use Rattle.felm_syntax.specs.Fronts.{Part}
use Rattle.felm_syntax.specs.FirstFaults as faults
use Rattle.felm_syntax.specs.Fronts as f
use Rattle.felm_syntax.specs.Nesting as path
use Rattle.felm_syntax.specs.Grammar.{IsWord, IsName, ReadsDeclaration}
use Rattle.felm_syntax.specs.Grammar as g
use Rattle.felm_syntax.specs.Kinds.{is_mark, is_keyword, unsigned_number, negated, name_of}
use Rattle.felm_syntax.specs.FirstFaults.{Fault, Syntax, Depth, Twice, place_of_fault, Declares, NamesAgain}
use Rattle.felm_reading.specs.Reading.{◌>>=◌, Answer, Whole, has_word, expect, expect_word, name, numeral, literal, new_name, int_input, unit_input, described, declaration, reads_in, all_of, main_of, program_in}
use Rattle.felm_reading.proofs.Declared.{declaration_sound}
use Rattle.felm_reading.proofs.Tokens.{mark-is, keyword-is}
use Rattle.felm_reading.proofs.ExprRuns.{reads_read}
use Rattle.felm_reading.proofs.Runs.{IsPlace, IsTail, all, skip, tail_tail, no_tail, place_tail, place_here, to_end, IsProper, IsDeep, NoTwice, Fits, Exceeds, Stays, leaves, stops, stays_tail, stays, stays_if, Follows, same, ended, out, refused, IsRead, by_rule, last_read, ok_read, token_follows, needs, if_follows, expect_read, expect_word_read, numeral_reads, widen}

-- literals
pub literal_reads : (text : List ℕ) (room : ℕ) → IsRead text (f.literal ∷ []) room (literal text)
unfolding literal numeral
literal_reads text room =
    needs text (f.literal ∷ []) room (literal text) refl (λ t us more.
    if_follows text (f.literal ∷ []) room (t ∷ us) more (is_mark symbol.Minus t.kind) _ _ _ _
    (λ h. by_rule text room (t ∷ us) more f.signed (token_follows text (f.mark symbol.Minus) _ room t us more (mark-is symbol.Minus t.kind h)
    (numeral_reads text room f.negated negated (λ u n e. (n, e)) us more)))
    (λ _. by_rule text room (t ∷ us) more f.unsigned (numeral_reads text room f.number unsigned_number (λ u n e. (n, e)) (t ∷ us) more)))

-- what is declared of a name
int_behind : (text : List ℕ) (room : ℕ) (x : List ℕ) → IsRead {X = InputDecl} text (f.mark symbol.Equals ∷ f.literal ∷ []) room
    (λ us. expect text symbol.Equals us >>= λ vs. (literal text vs >>= λ n. Ok (record { name = x; ty = input.Int; default = n.0 }, n.1)))
int_behind text room x =
    expect_read text symbol.Equals (f.literal ∷ []) room _ (last_read text (f.literal ∷ []) room (literal text) (λ n. record { name = x; ty = input.Int; default = n }) (literal_reads text room))

int_reads : (text : List ℕ) (room : ℕ) (x : List ℕ) (t : Token) (us more : List Token) → IsWord word.Int t →
    Follows text (f.word_of word.Int ∷ f.mark symbol.Equals ∷ f.literal ∷ []) room (t ∷ us) more (int_input text x (t ∷ us)) (int_input text x (t ∷ (us ++ more)))
unfolding int_input
int_reads text room x t us more h = token_follows text (f.word_of word.Int) _ room t us more h (int_behind text room x us more)

unit_behind : (text : List ℕ) (room : ℕ) (x : List ℕ) → IsRead {X = InputDecl} text (f.mark symbol.Equals ∷ f.mark symbol.OpenBracket ∷ f.mark symbol.CloseBracket ∷ []) room
    (λ us. expect text symbol.Equals us >>= λ vs. (expect text symbol.OpenBracket vs >>= λ ws. (expect text symbol.CloseBracket ws >>= λ rest.
    Ok (record { name = x; ty = input.Unit; default = pos 0 }, rest))))
unit_behind text room x =
    expect_read text symbol.Equals _ room _ (expect_read text symbol.OpenBracket _ room _ (expect_read text symbol.CloseBracket [] room _
    (ok_read text [] room (record { name = x; ty = input.Unit; default = pos 0 }))))

unit_reads : (text : List ℕ) (room : ℕ) (x : List ℕ) (t : Token) (us more : List Token) → IsWord word.Unit t →
    Follows text (f.word_of word.Unit ∷ f.mark symbol.Equals ∷ f.mark symbol.OpenBracket ∷ f.mark symbol.CloseBracket ∷ []) room (t ∷ us) more
    (unit_input text x (t ∷ us)) (unit_input text x (t ∷ (us ++ more)))
unfolding unit_input
unit_reads text room x t us more h = token_follows text (f.word_of word.Unit) _ room t us more h (unit_behind text room x us more)

-- where reading what is declared stays
described_stays : (text : List ℕ) (x : List ℕ) (ts : List Token) → Stays text ts (described text x ts)
unfolding described int_input unit_input
described_stays text x [] = stops (inr refl)
described_stays text x (t ∷ us) =
    stays_if text (t ∷ us) (is_keyword word.Int t.kind) _ _ (stays_tail text (skip all) (stays text (int_behind text 0 x us [])))
    (stays_if text (t ∷ us) (is_keyword word.Unit t.kind) _ _ (stays_tail text (skip all) (stays text (unit_behind text 0 x us [])))
    (stops (place_here text t us)))

colon_stays : (text : List ℕ) (x : List ℕ) (ts : List Token) → Stays text ts (expect text symbol.Colon ts >>= λ vs. described text x vs)
unfolding expect
colon_stays text x [] = stops (inr refl)
colon_stays text x (c ∷ us) =
    elim (is_mark symbol.Colon c.kind) as (λ b. Stays text (c ∷ us) ((if b then Ok us else Err (Syntax c.start)) >>= λ vs. described text x vs)) [
      | true ↦ stays_tail text (skip all) (described_stays text x us)
      | false ↦ stops (place_here text c us)
    ]

-- The last token is the name in a declaration, and one of these or an earlier declaration has that name.
pub data Again (text : List ℕ) (seen : List InputDecl) : List Token → Type 0 where
  again : {ds : List InputDecl} {ts : List Token} {i n : Token} {x : List ℕ} → Declares text ds ts (i ∷ n ∷ []) →
      IsWord word.Input i → IsName text x n → list_any (bytes_eq x) (names_of (seen ++ ds)) ≡ true → Again text seen ts

-- an answer on a declaration: as its fronts say, or refused for its name
pub data Judges (text : List ℕ) (room : ℕ) (seen : List InputDecl) (us more : List Token) : Answer InputDecl → Answer InputDecl → Type 0 where
  fronts : {a b : Answer InputDecl} → Follows text (f.declaration ∷ []) room us more a b → Judges text room seen us more a b
  refuses : {t : Token} {r : List Token} → IsTail us (t ∷ r) → (r ≡ [] → Again text seen us) → Judges text room seen us more (Err (Twice t.start)) (Err (Twice t.start))

module _ (text : List ℕ) (room : ℕ) (seen : List InputDecl) (t n : Token) (x : List ℕ) (ht : IsWord word.Input t) (hn : IsName text x n) where
  zero_le : 0 ≤ room
  zero_le = omega arith

  described_follows : (c : Token) → c.kind ≡ kind.Mark symbol.Colon → (us more : List Token) →
      Follows text (f.declaration ∷ []) room (t ∷ n ∷ c ∷ us) more (described text x us) (described text x (us ++ more))
  unfolding described
  described_follows c hc [] more =
      out (inr (0, path.inside f.int_input (path.after (f.whole_token ht) (path.after (f.whole_token (x, hn)) (path.token hc))), zero_le)) (described_stays text x more)
  described_follows c hc (i ∷ us) more =
      if_follows text (f.declaration ∷ []) room (t ∷ n ∷ c ∷ i ∷ us) more (is_keyword word.Int i.kind) _ _ _ _
      (λ h. by_rule text room (t ∷ n ∷ c ∷ i ∷ us) more f.int_input (token_follows text (f.word_of word.Input) _ room t (n ∷ c ∷ i ∷ us) more ht
      (token_follows text f.name _ room n (c ∷ i ∷ us) more (x, hn) (token_follows text (f.mark symbol.Colon) _ room c (i ∷ us) more hc
      (int_reads text room x i us more (keyword-is word.Int i.kind h))))))
      (λ _. if_follows text (f.declaration ∷ []) room (t ∷ n ∷ c ∷ i ∷ us) more (is_keyword word.Unit i.kind) _ _ _ _
      (λ h. by_rule text room (t ∷ n ∷ c ∷ i ∷ us) more f.unit_input (token_follows text (f.word_of word.Input) _ room t (n ∷ c ∷ i ∷ us) more ht
      (token_follows text f.name _ room n (c ∷ i ∷ us) more (x, hn) (token_follows text (f.mark symbol.Colon) _ room c (i ∷ us) more hc
      (unit_reads text room x i us more (keyword-is word.Unit i.kind h))))))
      (λ _. refused (skip (skip (skip all))) refl tt (λ d. absurd d)))

  colon_follows : (us more : List Token) →
      Follows text (f.declaration ∷ []) room (t ∷ n ∷ us) more (expect text symbol.Colon us >>= λ vs. described text x vs) (expect text symbol.Colon (us ++ more) >>= λ vs. described text x vs)
  unfolding expect
  colon_follows [] more =
      out (inr (0, path.inside f.int_input (path.after (f.whole_token ht) (path.token (x, hn))), zero_le))
      (colon_stays text x more)
  colon_follows (c ∷ us) more =
      elim (is_mark symbol.Colon c.kind) as (λ b. is_mark symbol.Colon c.kind ≡ b → Follows text (f.declaration ∷ []) room (t ∷ n ∷ c ∷ us) more
      ((if b then Ok us else Err (Syntax c.start)) >>= λ vs. described text x vs) ((if b then Ok (us ++ more) else Err (Syntax c.start)) >>= λ vs. described text x vs)) [
        | true ↦ λ h. described_follows c (mark-is symbol.Colon c.kind h) us more
        | false ↦ λ h. refused (skip (skip all)) refl tt (λ d. absurd d)
      ] refl

  abbrev unless : Bool → List Token → Answer (List ℕ)
  unless b us = if b then Err (Twice n.start) else Ok (x, us)

  abbrev checked : Bool → List Token → Answer InputDecl
  checked b us = unless b us >>= λ y. (expect text symbol.Colon y.1 >>= λ vs. described text y.0 vs)

  checked_judges : (b : Bool) → list_any (bytes_eq x) (names_of seen) ≡ b → (us more : List Token) →
      Judges text room seen (t ∷ n ∷ us) more (checked b us) (checked b (us ++ more))
  checked_judges true e us more =
      refuses (skip all) (λ z. subst (λ r. Again text seen (t ∷ n ∷ r)) (sym z) (again faults.no_more ht hn (subst (λ ds. list_any (bytes_eq x) (names_of ds) ≡ true) (sym (append-nil seen)) e)))
  checked_judges false e us more = fronts (colon_follows us more)

abbrev name_or : List Token → Token → Option (List ℕ) → Answer (List ℕ)
name_or us t (Some x) = Ok (x, us)
name_or us t None = Err (Syntax t.start)

-- a name that none of these has
abbrev if_new : List ℕ → List InputDecl → Token → List Token → Option (List ℕ) → Answer InputDecl
if_new text seen n us m =
    let fresh : Answer (List ℕ) = name_or us n m >>= λ x. if list_any (bytes_eq x.0) (names_of seen) then Err (Twice n.start) else Ok x in
    fresh >>= λ y. (expect text symbol.Colon y.1 >>= λ vs. described text y.0 vs)

named_judges : (text : List ℕ) (room : ℕ) (seen : List InputDecl) (t n : Token) (m : Option (List ℕ)) → IsWord word.Input t → name_of text n ≡ m → (us more : List Token) →
    Judges text room seen (t ∷ n ∷ us) more (if_new text seen n us m) (if_new text seen n (us ++ more) m)
named_judges text room seen t n (Some x) ht hn us more = checked_judges text room seen t n x ht hn (list_any (bytes_eq x) (names_of seen)) refl us more
named_judges text room seen t n None ht hn us more = fronts (refused (skip all) refl tt (λ d. absurd d))

abbrev new_or : Token → List ℕ → List Token → Bool → Answer (List ℕ)
new_or n x us b = if b then Err (Twice n.start) else Ok (x, us)

named_stays : (text : List ℕ) (seen : List InputDecl) (n : Token) (us : List Token) (m : Option (List ℕ)) → Stays text (n ∷ us) (if_new text seen n us m)
named_stays text seen n us None = stops (place_here text n us)
named_stays text seen n us (Some x) =
    elim (list_any (bytes_eq x) (names_of seen)) as (λ b. Stays text (n ∷ us) (new_or n x us b >>= λ y. (expect text symbol.Colon y.1 >>= λ vs. described text y.0 vs))) [
      | true ↦ stops (place_here text n us)
      | false ↦ stays_tail text (skip all) (colon_stays text x us)
    ]

behind_input_stays : (text : List ℕ) (seen : List InputDecl) (ts : List Token) →
    Stays text ts (new_name text seen ts >>= λ y. (expect text symbol.Colon y.1 >>= λ vs. described text y.0 vs))
unfolding new_name name
behind_input_stays text seen [] = stops (inr refl)
behind_input_stays text seen (n ∷ us) = named_stays text seen n us (name_of text n)

declaration_judges : (text : List ℕ) (room : ℕ) (seen : List InputDecl) (t : Token) → IsWord word.Input t → (us more : List Token) →
    Judges text room seen (t ∷ us) more (declaration text seen (t ∷ us)) (declaration text seen (t ∷ (us ++ more)))
unfolding declaration new_name name
declaration_judges text room seen t ht [] more =
    let le : 0 ≤ room = omega arith in fronts (out (inr (0, path.inside f.int_input (path.token ht), le)) (behind_input_stays text seen more))
declaration_judges text room seen t ht (n ∷ us) more = named_judges text room seen t n (name_of text n) ht refl us more

-- the expression of `main`, seen as an answer that leaves no tokens
abbrev pub Parts : Type 0
Parts = List InputDecl × Expression

abbrev pub at_end_of : Expression → List Token → Result Expression Fault
at_end_of e [] = Ok e
at_end_of e (t ∷ _) = Err (Syntax t.start)

abbrev pub done : {A : Type 0} → Result A Fault → Answer A
done (Ok x) = Ok (x, [])
done (Err e) = Err e

abbrev pub finish : List InputDecl → Answer Expression → Answer Parts
finish seen a = done ((a >>= λ e. at_end_of e.0 e.1) >>= λ main. Ok (seen, main))

finish_stays : (text : List ℕ) (seen : List InputDecl) {ts : List Token} {a : Answer Expression} → Stays text ts a → Stays text ts (finish seen a)
finish_stays text seen (leaves {rest = []} tail) = leaves tail
finish_stays text seen (leaves {rest = t ∷ r} tail) = stops (place_tail text t.start tail (place_here text t r))
finish_stays text seen (stops {fault} h) = stops {fault = fault} h

finish_follows : (text : List ℕ) (ps : List Part) (room : ℕ) (seen : List InputDecl) (us more : List Token) {a b : Answer Expression} →
    Follows text ps room us more a b → Follows text ps room us more (finish seen a) (finish seen b)
finish_follows text ps room seen us more (same tail) = refused tail refl tt (λ d. absurd d)
finish_follows text ps room seen us more (ended fits h) = ended fits (finish_stays text seen h)
finish_follows text ps room seen us more (out fits h) = out fits (finish_stays text seen h)
finish_follows text ps room seen us more (refused tail at other deep) = refused tail at other deep

-- a function that answers alike is read alike
read_is : {X : Type 0} (text : List ℕ) (ps : List Part) (room : ℕ) (g h : List Token → Answer X) → ((us : List Token) → g us ≡ h us) → IsRead text ps room h → IsRead text ps room g
read_is text ps room g h alike read us more =
    subst (λ a. Follows text ps room us more a (g (us ++ more))) (sym (alike us))
    (subst (λ b. Follows text ps room us more (h us) b) (sym (alike (us ++ more))) (read us more))

abbrev pub then_main : List ℕ → ℕ → List InputDecl → List Token → Answer Parts
then_main text room seen ts = done (main_of text room ts >>= λ main. Ok (seen, main))

pub done_bind : {A B C : Type 0} (a : Result A Fault) (k : A → Result B Fault) (h : B → Result C Fault) → done ((a >>= k) >>= h) ≡ (a >>= λ x. done (k x >>= h))
done_bind (Ok x) k h = refl
done_bind (Err e) k h = refl

pub finish_is : (text : List ℕ) (room : ℕ) (seen : List InputDecl) (ts : List Token) →
    done (all_of text room ts >>= λ main. Ok (seen, main)) ≡ finish seen (reads_in text room Whole ts)
unfolding all_of
finish_is text room seen ts = refl

pub main_reads : (text : List ℕ) (room : ℕ) (seen : List InputDecl) → IsRead text (f.word_of word.Main ∷ f.mark symbol.Equals ∷ f.phrase g.expr ∷ []) room (then_main text room seen)
unfolding main_of
main_reads text room seen =
    read_is text (f.word_of word.Main ∷ f.mark symbol.Equals ∷ f.phrase g.expr ∷ []) room (then_main text room seen) _
    (λ us. done_bind (expect_word text word.Main us) (λ vs. expect text symbol.Equals vs >>= λ ws. all_of text room ws) (λ main. Ok (seen, main)))
    (expect_word_read text word.Main (f.mark symbol.Equals ∷ f.phrase g.expr ∷ []) room _
    (read_is text (f.mark symbol.Equals ∷ f.phrase g.expr ∷ []) room _ _
    (λ us. done_bind (expect text symbol.Equals us) (λ ws. all_of text room ws) (λ main. Ok (seen, main)))
    (expect_read text symbol.Equals (f.phrase g.expr ∷ []) room _
    (read_is text (f.phrase g.expr ∷ []) room _ (λ us. finish seen (reads_in text room Whole us)) (λ us. finish_is text room seen us)
    (λ us more. finish_follows text (f.phrase g.expr ∷ []) room seen us more (reads_read text room Whole us more))))))

-- why a last token is refused
abbrev pub Reason : List ℕ → ℕ → List InputDecl → Fault → List Token → Type 0
Reason text room seen (Syntax _) us = Unit {0}
Reason text room seen (Depth _) us = Exceeds text (f.program ∷ []) room us
Reason text room seen (Twice _) us = Again text seen us

-- an answer on a program, beside the one with more tokens behind them
pub data Goes (text : List ℕ) (room : ℕ) (seen : List InputDecl) (us more : List Token) : Answer Parts → Answer Parts → Type 0 where
  goes_same : {x : Parts} {t : Token} {r : List Token} → IsTail us (t ∷ r) → Goes text room seen us more (Ok (x, t ∷ r)) (Ok (x, t ∷ (r ++ more)))
  goes_ended : {x : Parts} {b : Answer Parts} → Fits text (f.program ∷ []) room us → Stays text more b → Goes text room seen us more (Ok (x, [])) b
  goes_out : {b : Answer Parts} → Fits text (f.program ∷ []) room us → Stays text more b → Goes text room seen us more (Err (Syntax (length text))) b
  goes_refused : {e : Fault} {t : Token} {r : List Token} → IsTail us (t ∷ r) → place_of_fault e ≡ t.start →
      (r ≡ [] → IsProper text t → Reason text room seen e us) → Goes text room seen us more (Err e) (Err e)

reason_of : (text : List ℕ) (room : ℕ) (seen : List InputDecl) (us : List Token) (e : Fault) → NoTwice e → (IsDeep e → Exceeds text (f.program ∷ []) room us) → Reason text room seen e us
reason_of text room seen us (Syntax _) other deep = tt
reason_of text room seen us (Depth _) other deep = deep tt
reason_of text room seen us (Twice _) other deep = absurd other

goes_of : (text : List ℕ) (room : ℕ) (seen : List InputDecl) (us more : List Token) {a b : Answer Parts} → Follows text (f.program ∷ []) room us more a b → Goes text room seen us more a b
goes_of text room seen us more (same tail) = goes_same tail
goes_of text room seen us more (ended fits h) = goes_ended fits h
goes_of text room seen us more (out fits h) = goes_out fits h
goes_of text room seen us more (refused {e} tail at other deep) = goes_refused tail at (λ z p. reason_of text room seen us e other (λ d. deep d z p))

goes_stays : {text : List ℕ} {room : ℕ} {seen : List InputDecl} {us more : List Token} {a b : Answer Parts} → Goes text room seen us more a b → Stays text us a
goes_stays (goes_same tail) = leaves tail
goes_stays {us} (goes_ended fits h) = leaves (to_end us)
goes_stays (goes_out fits h) = stops (inr refl)
goes_stays {text} (goes_refused {e} {t} {r} tail at why) = stops (place_tail text (place_of_fault e) tail (subst (λ k. IsPlace text (t ∷ r) k) (sym at) (place_here text t r)))

goes_at_end : {text : List ℕ} {room : ℕ} {seen first : List InputDecl} {us more vs ws : List Token} {a b c : Answer Parts} → vs ≡ [] → Goes text room first vs ws a b →
    Fits text (f.program ∷ []) room us → Stays text more c → Goes text room seen us more a c
goes_at_end e (goes_same tail) fits h = absurd (no_tail tail e refl)
goes_at_end e (goes_ended _ _) fits h = goes_ended fits h
goes_at_end e (goes_out _ _) fits h = goes_out fits h
goes_at_end e (goes_refused tail _ _) fits h = absurd (no_tail tail e refl)

-- behind a whole declaration
again_before : {text : List ℕ} {seen : List InputDecl} {d : InputDecl} {us r : List Token} → ReadsDeclaration text us r d → Again text (seen ++ d ∷ []) r → Again text seen us
again_before {text} {seen} {d} reads (again {ds} {x} ds_are hi hn e) =
    again (faults.one_first reads ds_are) hi hn (subst (λ all. list_any (bytes_eq x) (names_of all) ≡ true) (append_assoc seen (d ∷ []) ds) e)

reason_before : (text : List ℕ) (room : ℕ) (seen : List InputDecl) (d : InputDecl) (us r : List Token) (e : Fault) → ReadsDeclaration text us r d →
    Reason text room (seen ++ d ∷ []) e r → Reason text room seen e us
reason_before text room seen d us r (Syntax _) reads why = tt
reason_before text room seen d us r (Depth _) reads (n, k, lt) = (n, path.inside f.declared (path.after (f.whole_declaration reads) k), lt)
reason_before text room seen d us r (Twice _) reads why = again_before reads why

fits_before : {text : List ℕ} {room : ℕ} {d : InputDecl} {t : Token} {us r : List Token} → ReadsDeclaration text us (t ∷ r) d → Fits text (f.program ∷ []) room (t ∷ r) → Fits text (f.program ∷ []) room us
fits_before reads (inl e) = absurd (cc)
fits_before reads (inr (n, k, le)) = inr (n, path.inside f.declared (path.after (f.whole_declaration reads) k), le)

fits_declaration : {text : List ℕ} {room : ℕ} {us : List Token} → Fits text (f.declaration ∷ []) room us → Fits text (f.program ∷ []) room us
fits_declaration (inl e) = inl e
fits_declaration (inr (n, k, le)) = inr (n, path.inside f.declared (widen k), le)

goes_before : (text : List ℕ) (room : ℕ) (seen : List InputDecl) (d : InputDecl) (t : Token) (us r more : List Token) {a b : Answer Parts} → ReadsDeclaration text us (t ∷ r) d → IsTail us (t ∷ r) →
    Goes text room (seen ++ d ∷ []) (t ∷ r) more a b → Goes text room seen us more a b
goes_before text room seen d t us r more reads tail (goes_same h) = goes_same (tail_tail tail h)
goes_before text room seen d t us r more reads tail (goes_ended fits h) = goes_ended (fits_before reads fits) h
goes_before text room seen d t us r more reads tail (goes_out fits h) = goes_out (fits_before reads fits) h
goes_before text room seen d t us r more reads tail (goes_refused {e} h at why) = goes_refused (tail_tail tail h) at (λ z p. reason_before text room seen d us (t ∷ r) e reads (why z p))

-- how a program goes on
abbrev pub GoesOn : List ℕ → ℕ → ℕ → List InputDecl → Type 0
GoesOn text room n seen = (us more : List Token) → Goes text room seen us more (done (program_in text room n seen us)) (done (program_in text room n seen (us ++ more)))

abbrev behind_declaration : List ℕ → ℕ → ℕ → List InputDecl → Answer InputDecl → Answer Parts
behind_declaration text room n seen a = done (a >>= λ d. program_in text room n (seen ++ d.0 ∷ []) d.1)

behind_stays : (text : List ℕ) (room n : ℕ) (seen : List InputDecl) {ts : List Token} {a : Answer InputDecl} → ((d : InputDecl) → GoesOn text room n (seen ++ d ∷ [])) → Stays text ts a →
    Stays text ts (behind_declaration text room n seen a)
behind_stays text room n seen goes (leaves {x} {rest} tail) = stays_tail text tail (goes_stays (goes x rest []))
behind_stays text room n seen goes (stops {fault} h) = stops {fault = fault} h

exceeds_declaration : {text : List ℕ} {room : ℕ} {us : List Token} → Exceeds text (f.declaration ∷ []) room us → Exceeds text (f.program ∷ []) room us
exceeds_declaration (n, k, lt) = (n, path.inside f.declared (widen k), lt)

declared_goes : (text : List ℕ) (room n : ℕ) (seen : List InputDecl) (us more : List Token) {a b : Answer InputDecl} → ((d : InputDecl) → GoesOn text room n (seen ++ d ∷ [])) →
    ((d : InputDecl) (r : List Token) → a ≡ Ok (d, r) → ReadsDeclaration text us r d) → Judges text room seen us more a b →
    Goes text room seen us more (behind_declaration text room n seen a) (behind_declaration text room n seen b)
declared_goes text room n seen us more goes sound (fronts (same {x = d} {t} {r} tail)) = goes_before text room seen d t us r more (sound d (t ∷ r) refl) tail (goes d (t ∷ r) more)
declared_goes text room n seen us more goes sound (fronts (ended {x = d} fits h)) = goes_at_end refl (goes d [] []) (fits_declaration fits) (behind_stays text room n seen goes h)
declared_goes text room n seen us more goes sound (fronts (out fits h)) = goes_out (fits_declaration fits) (behind_stays text room n seen goes h)
declared_goes text room n seen us more goes sound (fronts (refused {e} tail at other deep)) =
    goes_refused tail at (λ z p. reason_of text room seen us e other (λ d. exceeds_declaration (deep d z p)))
declared_goes text room n seen us more goes sound (refuses tail why) = goes_refused tail refl (λ z p. why z)

main_goes : (text : List ℕ) (room : ℕ) (seen : List InputDecl) (us more : List Token) → Goes text room seen us more (then_main text room seen us) (then_main text room seen (us ++ more))
main_goes text room seen us more = goes_of text room seen us more (by_rule text room us more f.main_is (main_reads text room seen us more))

abbrev either : List ℕ → ℕ → ℕ → List InputDecl → List Token → Bool → Answer Parts
either text room n seen ts true = behind_declaration text room n seen (declaration text seen ts)
either text room n seen ts false = then_main text room seen ts

either_goes : (text : List ℕ) (room n : ℕ) (seen : List InputDecl) → ((d : InputDecl) → GoesOn text room n (seen ++ d ∷ [])) → (t : Token) (b : Bool) → is_keyword word.Input t.kind ≡ b →
    (us more : List Token) → Goes text room seen (t ∷ us) more (either text room n seen (t ∷ us) b) (either text room n seen (t ∷ (us ++ more)) b)
either_goes text room n seen goes t true h us more =
    declared_goes text room n seen (t ∷ us) more goes (λ d r e. (declaration_sound text seen (t ∷ us) (d, r) h e).0) (declaration_judges text room seen t (keyword-is word.Input t.kind h) us more)
either_goes text room n seen goes t false h us more = main_goes text room seen (t ∷ us) more

either_is : (text : List ℕ) (room n : ℕ) (seen : List InputDecl) (ts : List Token) (b : Bool) → has_word word.Input ts ≡ b →
    done (program_in text room (suc n) seen ts) ≡ either text room n seen ts b
unfolding program_in
either_is text room n seen ts true h = rw h refl
either_is text room n seen ts false h = rw h refl

module _ (text : List ℕ) (room n : ℕ) (seen : List InputDecl) (goes : (d : InputDecl) → GoesOn text room n (seen ++ d ∷ [])) where
  step_goes : (t : Token) (us more : List Token) →
      Goes text room seen (t ∷ us) more (done (program_in text room (suc n) seen (t ∷ us))) (done (program_in text room (suc n) seen (t ∷ (us ++ more))))
  step_goes t us more =
      subst (λ a. Goes text room seen (t ∷ us) more a (done (program_in text room (suc n) seen (t ∷ (us ++ more))))) (sym (either_is text room n seen (t ∷ us) (is_keyword word.Input t.kind) refl))
      (subst (λ b. Goes text room seen (t ∷ us) more (either text room n seen (t ∷ us) (is_keyword word.Input t.kind)) b) (sym (either_is text room n seen (t ∷ (us ++ more)) (is_keyword word.Input t.kind) refl))
      (either_goes text room n seen goes t (is_keyword word.Input t.kind) refl us more))

  none_goes : Goes text room seen [] [] (done (program_in text room (suc n) seen [])) (done (program_in text room (suc n) seen []))
  unfolding program_in
  none_goes = main_goes text room seen [] []

  all_stay : (ts : List Token) → Stays text ts (done (program_in text room (suc n) seen ts))
  all_stay [] = goes_stays none_goes
  all_stay (t ∷ ts) = goes_stays (step_goes t ts [])

  next_goes : GoesOn text room (suc n) seen
  next_goes [] more = goes_at_end refl none_goes (inl refl) (all_stay more)
  next_goes (t ∷ us) more = step_goes t us more

-- A program is read as its fronts say.
pub program_goes : (text : List ℕ) (room n : ℕ) (seen : List InputDecl) → GoesOn text room n seen
unfolding program_in
program_goes text room zero seen us more = main_goes text room seen us more
program_goes text room (suc n) seen us more = next_goes text room n seen (λ d. program_goes text room n (seen ++ d ∷ [])) us more
