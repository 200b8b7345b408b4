-- Types are read as their fronts say.
use Rattle.std.proofs.Common.{◌≡◌, ℕ, zero, suc, ◌<◌, refl, arith, List, [], ◌∷◌, Bool, true, drop, subst, sym}
use Rattle.std.specs.Prelude.{Ok, if◌then◌else◌}
use Rattle.felm_term.specs.CoreType.{CoreType}
use Rattle.felm_term.specs.CoreType as type
use Rattle.felm_lexer.specs.declared.kind.Symbol.TheVariants as symbol
use Rattle.felm_lexer.specs.declared.kind.WordKind.TheVariants as word
use Rattle.felm_lexer.specs.declared.kind.TokenKind.{TokenKind}
use Rattle.felm_lexer.specs.declared.kind.TokenKind.TheVariants as kind
use Rattle.felm_lexer.specs.declared.token.Token.{Token}
use Rattle.felm_syntax.specs.Nesting.{Nests}
use Rattle.felm_syntax.specs.Fronts.{Part}
use Rattle.felm_syntax.specs.Fronts as f
use Rattle.felm_syntax.specs.Nesting as path
use Rattle.felm_syntax.specs.Grammar as g
use Rattle.felm_syntax.specs.Kinds.{is_mark, is_keyword}
use Rattle.felm_reading.specs.Reading.{◌>>=◌, Answer, has_mark, starts_type, closed_type, signal_type, whole_type, type_in}
use Rattle.felm_reading.proofs.Runs.{IsRead, same, all, by_rule, by_deeper, bind_read, ok_read, last_read, token_follows, refused_follows, needs, may_end, if_follows, expect_read, full_follows}
use Rattle.felm_reading.proofs.Tokens.{mark-is, keyword-is}
use Rattle.felm_reading.proofs.TypeSound.{AreTypes, signal_sound, types_sound}

closed_reads : (text : List ℕ) (room : ℕ) (inner : List Token → Answer CoreType) → IsRead text (f.type g.whole ∷ []) room inner → AreTypes inner g.whole →
    IsRead text (f.type g.closed ∷ []) room (closed_type text inner)
unfolding closed_type
closed_reads text room inner reads sound =
    needs text (f.type g.closed ∷ []) room (closed_type text inner) refl (λ t us more.
    if_follows text (f.type g.closed ∷ []) room (t ∷ us) more (is_keyword word.Int t.kind) _ _ _ _
    (λ h. by_rule text room (t ∷ us) more f.int_type (token_follows text (f.word_of word.Int) [] room t us more (keyword-is word.Int t.kind h) (ok_read text [] room type.Int us more)))
    (λ _. if_follows text (f.type g.closed ∷ []) room (t ∷ us) more (is_keyword word.Unit t.kind) _ _ _ _
    (λ h. by_rule text room (t ∷ us) more f.unit_type (token_follows text (f.word_of word.Unit) [] room t us more (keyword-is word.Unit t.kind h) (ok_read text [] room type.Unit us more)))
    (λ _. if_follows text (f.type g.closed ∷ []) room (t ∷ us) more (is_mark symbol.OpenBracket t.kind) _ _ _ _
    (λ h. by_rule text room (t ∷ us) more f.type_brackets (token_follows text (f.mark symbol.OpenBracket) _ room t us more (mark-is symbol.OpenBracket t.kind h)
    (bind_read text (f.type g.whole) (f.mark symbol.CloseBracket ∷ []) room inner _ reads (λ us x e. f.whole_type (sound us x e))
    (λ x. expect_read text symbol.CloseBracket [] room (λ rest. Ok (x, rest)) (ok_read text [] room x)) us more)))
    (λ _. refused_follows text (f.type g.closed ∷ []) room t us more))))

signal_reads : (text : List ℕ) (room : ℕ) (inner : List Token → Answer CoreType) → IsRead text (f.type g.whole ∷ []) room inner → AreTypes inner g.whole →
    IsRead text (f.type g.signal ∷ []) room (signal_type text inner)
unfolding signal_type closed_type
signal_reads text room inner reads sound =
    needs text (f.type g.signal ∷ []) room (signal_type text inner) refl (λ t us more.
    if_follows text (f.type g.signal ∷ []) room (t ∷ us) more (is_keyword word.Signal t.kind) _ _ _ _
    (λ h. by_rule text room (t ∷ us) more f.signal_of (token_follows text (f.word_of word.Signal) _ room t us more (keyword-is word.Signal t.kind h)
    (last_read text (f.type g.closed ∷ []) room (closed_type text inner) type.Signal (closed_reads text room inner reads sound) us more)))
    (λ _. by_rule text room (t ∷ us) more f.no_signal (closed_reads text room inner reads sound (t ∷ us) more)))

arrow_reads : (text : List ℕ) (room : ℕ) (inner : List Token → Answer CoreType) → IsRead text (f.type g.whole ∷ []) room inner → (x : CoreType) →
    IsRead text (f.arrowed ∷ []) room (λ r. if has_mark symbol.Arrow r then (inner (drop 1 r) >>= λ to. Ok (type.Arrow x to.0, to.1)) else Ok (x, r))
arrow_reads text room inner reads x =
    may_end text (f.arrowed ∷ []) room x _ refl (λ t us more.
    if_follows text (f.arrowed ∷ []) room (t ∷ us) more (is_mark symbol.Arrow t.kind) _ _ _ _
    (λ h. by_rule text room (t ∷ us) more f.arrow_to (token_follows text (f.mark symbol.Arrow) _ room t us more (mark-is symbol.Arrow t.kind h)
    (last_read text (f.type g.whole ∷ []) room inner (type.Arrow x) reads us more)))
    (λ _. same all))

whole_reads : (text : List ℕ) (room : ℕ) (inner : List Token → Answer CoreType) → IsRead text (f.type g.whole ∷ []) room inner → AreTypes inner g.whole →
    IsRead text (f.type g.signal ∷ f.arrowed ∷ []) room (whole_type text inner)
unfolding whole_type
whole_reads text room inner reads sound =
    bind_read text (f.type g.signal) (f.arrowed ∷ []) room (signal_type text inner) _ (signal_reads text room inner reads sound)
    (λ us x e. f.whole_type (signal_sound text inner sound us x e)) (λ x. arrow_reads text room inner reads x)

-- what begins a type
abbrev kind_starts_type : TokenKind → Bool
kind_starts_type k = starts_type (record { kind = k; start = 0; end = 0 } ∷ [])

type_first : {text : List ℕ} (t : Token) (k : TokenKind) → t.kind ≡ k → kind_starts_type k ≡ true → Nests text (f.type g.whole ∷ []) 1 (t ∷ [])
type_first t (kind.Word word.Int) e h = path.deeper f.arrow (path.inside f.no_signal (path.inside f.int_type (path.token e)))
type_first t (kind.Word word.Unit) e h = path.deeper f.arrow (path.inside f.no_signal (path.inside f.unit_type (path.token e)))
type_first t (kind.Word word.Signal) e h = path.deeper f.arrow (path.inside f.signal_of (path.token e))
type_first t (kind.Word _) e h = absurd (cc)
type_first t (kind.Mark symbol.OpenBracket) e h = path.deeper f.arrow (path.inside f.no_signal (path.inside f.type_brackets (path.token e)))
type_first t (kind.Mark _) e h = absurd (cc)
type_first t kind.Name e h = absurd (cc)
type_first t (kind.Int _) e h = absurd (cc)
type_first t kind.Big e h = absurd (cc)

pub types_read : (text : List ℕ) (room : ℕ) → IsRead text (f.type g.whole ∷ []) room (type_in text room)
unfolding type_in
types_read text zero =
    needs text (f.type g.whole ∷ []) 0 (type_in text 0) refl (λ t us more.
    full_follows text (f.type g.whole ∷ []) t us more (kind_starts_type t.kind) (λ h e p.
    let lt : 0 < 1 = omega arith in (1, subst (λ r. Nests text (f.type g.whole ∷ []) 1 (t ∷ r)) (sym e) (type_first t t.kind refl h), lt)))
types_read text (suc room) = λ us more. by_deeper text room us more f.arrow (whole_reads text room (type_in text room) (types_read text room) (types_sound text room) us more)
