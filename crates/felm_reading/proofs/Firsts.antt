-- Which token begins what.
use Rattle.std.proofs.Common.{◌≡◌, ℕ, ◌<◌, List, [], ◌∷◌, refl, arith, Bool, true, false}
use Rattle.std.specs.Prelude.{Some, None}
use Rattle.felm_syntax.specs.Kinds.{is_mark, is_keyword, operator, comparison, lift_count}
use Rattle.felm_lexer.specs.declared.kind.Symbol.TheVariants as symbol
use Rattle.felm_lexer.specs.declared.kind.WordKind.TheVariants as word
use Rattle.felm_lexer.specs.declared.kind.TokenKind.{TokenKind}
use Rattle.felm_lexer.specs.declared.kind.TokenKind.TheVariants as kind
use Rattle.felm_lexer.specs.declared.token.Token.{Token}
use Rattle.felm_syntax.specs.declared.level.Level.{Level}
use Rattle.felm_syntax.specs.declared.level.Level.TheVariants as level
use Rattle.felm_term.specs.declared.op.Op.{Op}
use Rattle.felm_reading.specs.Reading.{kind_starts_atom, starts_atom, operator_at, comparison_at, has_mark, has_word, starts_operand, starts_expr, lift_at}
use Rattle.felm_reading.proofs.Ranks.{kind_rank, rank, level_rank}

-- an operator's rank is its level's
pub operator-rank : (l : Level) (k : TokenKind) (sign : Op) → operator l k ≡ Some sign → kind_rank k ≡ level_rank l
operator-rank level.Or (kind.Mark symbol.DoubleBar) sign h = refl
operator-rank level.Or (kind.Mark _) sign h = cc
operator-rank level.And (kind.Mark symbol.DoubleAmpersand) sign h = refl
operator-rank level.And (kind.Mark _) sign h = cc
operator-rank level.Sum (kind.Mark symbol.Plus) sign h = refl
operator-rank level.Sum (kind.Mark symbol.Minus) sign h = refl
operator-rank level.Sum (kind.Mark _) sign h = cc
operator-rank level.Product (kind.Mark symbol.Star) sign h = refl
operator-rank level.Product (kind.Mark symbol.DoubleSlash) sign h = refl
operator-rank level.Product (kind.Mark symbol.Percent) sign h = refl
operator-rank level.Product (kind.Mark _) sign h = cc
operator-rank l kind.Name sign h = cc
operator-rank l (kind.Int _) sign h = cc
operator-rank l kind.Big sign h = cc
operator-rank l (kind.Word _) sign h = cc

-- a token of a smaller rank is no operator of the level
pub no_operator : (l : Level) (k : TokenKind) → kind_rank k < level_rank l → operator l k ≡ None
no_operator level.Or (kind.Mark symbol.DoubleBar) h = absurd (omega arith)
no_operator level.Or (kind.Mark _) h = refl
no_operator level.And (kind.Mark symbol.DoubleAmpersand) h = absurd (omega arith)
no_operator level.And (kind.Mark _) h = refl
no_operator level.Sum (kind.Mark symbol.Plus) h = absurd (omega arith)
no_operator level.Sum (kind.Mark symbol.Minus) h = absurd (omega arith)
no_operator level.Sum (kind.Mark _) h = refl
no_operator level.Product (kind.Mark symbol.Star) h = absurd (omega arith)
no_operator level.Product (kind.Mark symbol.DoubleSlash) h = absurd (omega arith)
no_operator level.Product (kind.Mark symbol.Percent) h = absurd (omega arith)
no_operator level.Product (kind.Mark _) h = refl
no_operator l kind.Name h = refl
no_operator l (kind.Int _) h = refl
no_operator l kind.Big h = refl
no_operator l (kind.Word _) h = refl

pub comparison-rank : (k : TokenKind) (sign : Op) → comparison k ≡ Some sign → kind_rank k ≡ 3
comparison-rank (kind.Mark symbol.DoubleEquals) sign h = refl
comparison-rank (kind.Mark symbol.SlashEquals) sign h = refl
comparison-rank (kind.Mark symbol.Less) sign h = refl
comparison-rank (kind.Mark symbol.LessEquals) sign h = refl
comparison-rank (kind.Mark symbol.Greater) sign h = refl
comparison-rank (kind.Mark symbol.GreaterEquals) sign h = refl
comparison-rank (kind.Mark _) sign h = cc
comparison-rank kind.Name sign h = cc
comparison-rank (kind.Int _) sign h = cc
comparison-rank kind.Big sign h = cc
comparison-rank (kind.Word _) sign h = cc

pub no_comparison : (k : TokenKind) → kind_rank k < 3 → comparison k ≡ None
no_comparison (kind.Mark symbol.DoubleEquals) h = absurd (omega arith)
no_comparison (kind.Mark symbol.SlashEquals) h = absurd (omega arith)
no_comparison (kind.Mark symbol.Less) h = absurd (omega arith)
no_comparison (kind.Mark symbol.LessEquals) h = absurd (omega arith)
no_comparison (kind.Mark symbol.Greater) h = absurd (omega arith)
no_comparison (kind.Mark symbol.GreaterEquals) h = absurd (omega arith)
no_comparison (kind.Mark _) h = refl
no_comparison kind.Name h = refl
no_comparison (kind.Int _) h = refl
no_comparison kind.Big h = refl
no_comparison (kind.Word _) h = refl

pub no_atom : (k : TokenKind) → kind_rank k < 6 → kind_starts_atom k ≡ false
no_atom (kind.Mark symbol.OpenBracket) h = absurd (omega arith)
no_atom (kind.Mark _) h = refl
no_atom kind.Name h = absurd (omega arith)
no_atom (kind.Int _) h = absurd (omega arith)
no_atom kind.Big h = refl
no_atom (kind.Word _) h = refl

pub small_rank : (k : TokenKind) → kind_rank k < 7
small_rank (kind.Mark symbol.OpenBracket) = omega arith
small_rank (kind.Mark _) = omega arith
small_rank kind.Name = omega arith
small_rank (kind.Int _) = omega arith
small_rank kind.Big = omega arith
small_rank (kind.Word _) = omega arith

-- the same of the first of the tokens
pub no_operator_at : (l : Level) (ts : List Token) → rank ts < level_rank l → operator_at l ts ≡ None
no_operator_at l [] h = refl
no_operator_at l (t ∷ _) h = no_operator l t.kind h

pub no_comparison_at : (ts : List Token) → rank ts < 3 → comparison_at ts ≡ None
no_comparison_at [] h = refl
no_comparison_at (t ∷ _) h = no_comparison t.kind h

pub no_atom_at : (ts : List Token) → rank ts < 6 → starts_atom ts ≡ false
no_atom_at [] h = refl
no_atom_at (t ∷ _) h = no_atom t.kind h

pub small_rank_at : (ts : List Token) → rank ts < 7
small_rank_at [] = omega arith
small_rank_at (t ∷ _) = small_rank t.kind

-- what begins an operand, by its kind
abbrev pub kind_starts_operand : TokenKind → Bool
kind_starts_operand k = starts_operand (record { kind = k; start = 0; end = 0 } ∷ [])

no_backslash_kind : (k : TokenKind) → kind_starts_operand k ≡ true → is_mark symbol.Backslash k ≡ false
no_backslash_kind (kind.Mark symbol.Backslash) h = cc
no_backslash_kind (kind.Mark _) h = refl
no_backslash_kind kind.Name h = refl
no_backslash_kind (kind.Int _) h = refl
no_backslash_kind kind.Big h = refl
no_backslash_kind (kind.Word _) h = refl

no_let_kind : (k : TokenKind) → kind_starts_operand k ≡ true → is_keyword word.Let k ≡ false
no_let_kind (kind.Word word.Let) h = cc
no_let_kind (kind.Word _) h = refl
no_let_kind (kind.Mark _) h = refl
no_let_kind kind.Name h = refl
no_let_kind (kind.Int _) h = refl
no_let_kind kind.Big h = refl

no_if_kind : (k : TokenKind) → kind_starts_operand k ≡ true → is_keyword word.If k ≡ false
no_if_kind (kind.Word word.If) h = cc
no_if_kind (kind.Word _) h = refl
no_if_kind (kind.Mark _) h = refl
no_if_kind kind.Name h = refl
no_if_kind (kind.Int _) h = refl
no_if_kind kind.Big h = refl

-- What begins an operand begins no function, let or if.
pub no_backslash : (ts : List Token) → starts_operand ts ≡ true → has_mark symbol.Backslash ts ≡ false
no_backslash [] h = cc
no_backslash (t ∷ _) h = no_backslash_kind t.kind h

pub no_let : (ts : List Token) → starts_operand ts ≡ true → has_word word.Let ts ≡ false
no_let [] h = cc
no_let (t ∷ _) h = no_let_kind t.kind h

pub no_if : (ts : List Token) → starts_operand ts ≡ true → has_word word.If ts ≡ false
no_if [] h = cc
no_if (t ∷ _) h = no_if_kind t.kind h

-- What begins an atom is no minus sign, foldp, async or lift.
no_minus_kind : (k : TokenKind) → kind_starts_atom k ≡ true → is_mark symbol.Minus k ≡ false
no_minus_kind (kind.Mark symbol.Minus) h = cc
no_minus_kind (kind.Mark _) h = refl
no_minus_kind kind.Name h = refl
no_minus_kind (kind.Int _) h = refl
no_minus_kind kind.Big h = refl
no_minus_kind (kind.Word _) h = refl

no_foldp_kind : (k : TokenKind) → kind_starts_atom k ≡ true → is_keyword word.Foldp k ≡ false
no_foldp_kind (kind.Word _) h = cc
no_foldp_kind (kind.Mark _) h = refl
no_foldp_kind kind.Name h = refl
no_foldp_kind (kind.Int _) h = refl
no_foldp_kind kind.Big h = refl

no_async_kind : (k : TokenKind) → kind_starts_atom k ≡ true → is_keyword word.Async k ≡ false
no_async_kind (kind.Word _) h = cc
no_async_kind (kind.Mark _) h = refl
no_async_kind kind.Name h = refl
no_async_kind (kind.Int _) h = refl
no_async_kind kind.Big h = refl

no_lift_kind : (k : TokenKind) → kind_starts_atom k ≡ true → lift_count k ≡ None
no_lift_kind (kind.Word _) h = cc
no_lift_kind (kind.Mark _) h = refl
no_lift_kind kind.Name h = refl
no_lift_kind (kind.Int _) h = refl
no_lift_kind kind.Big h = refl

pub no_minus : (ts : List Token) → starts_atom ts ≡ true → has_mark symbol.Minus ts ≡ false
no_minus [] h = refl
no_minus (t ∷ _) h = no_minus_kind t.kind h

pub no_foldp : (ts : List Token) → starts_atom ts ≡ true → has_word word.Foldp ts ≡ false
no_foldp [] h = refl
no_foldp (t ∷ _) h = no_foldp_kind t.kind h

pub no_async : (ts : List Token) → starts_atom ts ≡ true → has_word word.Async ts ≡ false
no_async [] h = refl
no_async (t ∷ _) h = no_async_kind t.kind h

pub no_lift : (ts : List Token) → starts_atom ts ≡ true → lift_at ts ≡ None
no_lift [] h = refl
no_lift (t ∷ _) h = no_lift_kind t.kind h

-- a lift's word is no minus sign, foldp or async
pub lift_no_minus : (k : TokenKind) (n : ℕ) → lift_count k ≡ Some n → is_mark symbol.Minus k ≡ false
lift_no_minus (kind.Word _) n h = refl
lift_no_minus (kind.Mark _) n h = cc
lift_no_minus kind.Name n h = refl
lift_no_minus (kind.Int _) n h = refl
lift_no_minus kind.Big n h = refl

pub lift_no_foldp : (k : TokenKind) (n : ℕ) → lift_count k ≡ Some n → is_keyword word.Foldp k ≡ false
lift_no_foldp (kind.Word word.Foldp) n h = cc
lift_no_foldp (kind.Word _) n h = refl
lift_no_foldp (kind.Mark _) n h = refl
lift_no_foldp kind.Name n h = refl
lift_no_foldp (kind.Int _) n h = refl
lift_no_foldp kind.Big n h = refl

pub lift_no_async : (k : TokenKind) (n : ℕ) → lift_count k ≡ Some n → is_keyword word.Async k ≡ false
lift_no_async (kind.Word word.Async) n h = cc
lift_no_async (kind.Word _) n h = refl
lift_no_async (kind.Mark _) n h = refl
lift_no_async kind.Name n h = refl
lift_no_async (kind.Int _) n h = refl
lift_no_async kind.Big n h = refl

-- what begins an expression is no closing bracket
abbrev pub kind_starts_expr : TokenKind → Bool
kind_starts_expr k = starts_expr (record { kind = k; start = 0; end = 0 } ∷ [])

no_close_kind : (k : TokenKind) → kind_starts_expr k ≡ true → is_mark symbol.CloseBracket k ≡ false
no_close_kind (kind.Mark symbol.CloseBracket) h = cc
no_close_kind (kind.Mark _) h = refl
no_close_kind kind.Name h = refl
no_close_kind (kind.Int _) h = refl
no_close_kind kind.Big h = refl
no_close_kind (kind.Word _) h = refl

pub no_close : (ts : List Token) → starts_expr ts ≡ true → has_mark symbol.CloseBracket ts ≡ false
no_close [] h = refl
no_close (t ∷ _) h = no_close_kind t.kind h

-- an atom's first token begins an operand, and an operand's an expression
atom_operand_kind : (k : TokenKind) → kind_starts_atom k ≡ true → kind_starts_operand k ≡ true
atom_operand_kind (kind.Mark symbol.OpenBracket) h = refl
atom_operand_kind (kind.Mark _) h = cc
atom_operand_kind kind.Name h = refl
atom_operand_kind (kind.Int _) h = refl
atom_operand_kind kind.Big h = cc
atom_operand_kind (kind.Word _) h = cc

pub atom_operand : (ts : List Token) → starts_atom ts ≡ true → starts_operand ts ≡ true
atom_operand [] h = cc
atom_operand (t ∷ _) h = atom_operand_kind t.kind h

pub lift_operand_kind : (k : TokenKind) (n : ℕ) → lift_count k ≡ Some n → kind_starts_operand k ≡ true
lift_operand_kind (kind.Word word.Lift1) n h = refl
lift_operand_kind (kind.Word word.Lift2) n h = refl
lift_operand_kind (kind.Word word.Lift3) n h = refl
lift_operand_kind (kind.Word word.Lift4) n h = refl
lift_operand_kind (kind.Word word.Lift5) n h = refl
lift_operand_kind (kind.Word word.Lift6) n h = refl
lift_operand_kind (kind.Word word.Lift7) n h = refl
lift_operand_kind (kind.Word word.Lift8) n h = refl
lift_operand_kind (kind.Word word.Lift9) n h = refl
lift_operand_kind (kind.Word _) n h = cc
lift_operand_kind (kind.Mark _) n h = cc
lift_operand_kind kind.Name n h = cc
lift_operand_kind (kind.Int _) n h = cc
lift_operand_kind kind.Big n h = cc

operand_expr_kind : (k : TokenKind) → kind_starts_operand k ≡ true → kind_starts_expr k ≡ true
operand_expr_kind (kind.Mark symbol.OpenBracket) h = refl
operand_expr_kind (kind.Mark symbol.Minus) h = refl
operand_expr_kind (kind.Mark _) h = cc
operand_expr_kind kind.Name h = refl
operand_expr_kind (kind.Int _) h = refl
operand_expr_kind kind.Big h = cc
operand_expr_kind (kind.Word word.Foldp) h = refl
operand_expr_kind (kind.Word word.Async) h = refl
operand_expr_kind (kind.Word word.Lift1) h = refl
operand_expr_kind (kind.Word word.Lift2) h = refl
operand_expr_kind (kind.Word word.Lift3) h = refl
operand_expr_kind (kind.Word word.Lift4) h = refl
operand_expr_kind (kind.Word word.Lift5) h = refl
operand_expr_kind (kind.Word word.Lift6) h = refl
operand_expr_kind (kind.Word word.Lift7) h = refl
operand_expr_kind (kind.Word word.Lift8) h = refl
operand_expr_kind (kind.Word word.Lift9) h = refl
operand_expr_kind (kind.Word _) h = cc

pub operand_expr : (ts : List Token) → starts_operand ts ≡ true → starts_expr ts ≡ true
operand_expr [] h = cc
operand_expr (t ∷ _) h = operand_expr_kind t.kind h
