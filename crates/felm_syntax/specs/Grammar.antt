-- The grammar: which tokens read as which program. Each relation says that a list of tokens begins with a phrase, which
-- reads so, and that the rest follows it; the text is the one that the tokens are of.
use Rattle.std.specs.Prelude.{◌≡◌, ℕ, zero, suc, ℤ, pos, Some, List, [], ◌∷◌}
use Rattle.felm_term.specs.CoreType.{CoreType}
use Rattle.felm_term.specs.CoreType as type
use Rattle.felm_term.specs.declared.op.Op.{Op}
use Rattle.felm_term.specs.declared.input.InputDecl.{InputDecl}
use Rattle.felm_term.specs.declared.input.InputTy.TheVariants as input
use Rattle.felm_lexer.specs.declared.kind.Symbol.{Symbol}
use Rattle.felm_lexer.specs.declared.kind.Symbol.TheVariants as symbol
use Rattle.felm_lexer.specs.declared.kind.WordKind.{WordKind}
use Rattle.felm_lexer.specs.declared.kind.WordKind.TheVariants as word
use Rattle.felm_lexer.specs.declared.kind.TokenKind.TheVariants as kind
use Rattle.felm_lexer.specs.declared.token.Token.{Token}
use Rattle.felm_syntax.specs.declared.level.Level.{Level}
use Rattle.felm_syntax.specs.declared.level.Level.TheVariants as level
use Rattle.felm_syntax.specs.Kinds.{operator, comparison, lift_count, unsigned_number, negated, name_of}
use Rattle.felm_syntax.specs.Expression.{Expression, Expressions}
use Rattle.felm_syntax.specs.Expression as expression

-- the token is this symbol
abbrev pub IsMark : Symbol → Token → Type 0
IsMark s t = t.kind ≡ kind.Mark s

-- the token is this keyword
abbrev pub IsWord : WordKind → Token → Type 0
IsWord w t = t.kind ≡ kind.Word w

-- the token is this name
abbrev pub IsName : List ℕ → List ℕ → Token → Type 0
IsName text x t = name_of text t ≡ Some x

-- the token is this number
abbrev pub IsNumber : ℤ → Token → Type 0
IsNumber n t = unsigned_number t.kind ≡ Some n

-- the token behind a minus sign makes this number
abbrev pub IsNegated : ℤ → Token → Type 0
IsNegated n t = negated t.kind ≡ Some n

-- the phrases of types
pub data TypePhrase : Type 0 where
  -- a type with or without an arrow
  whole : TypePhrase
  -- a type without an arrow
  signal : TypePhrase
  -- `int`, `unit`, or a type in brackets
  closed : TypePhrase

-- The tokens begin with a phrase that reads as a type, and the rest follows it.
pub data ReadsType : TypePhrase → List Token → List Token → CoreType → Type 0 where
  arrow : {a : Token} {ts us rest : List Token} {from to : CoreType} →
      ReadsType signal ts (a ∷ us) from → IsMark symbol.Arrow a → ReadsType whole us rest to →
      ReadsType whole ts rest (type.Arrow from to)
  no_arrow : {ts rest : List Token} {t : CoreType} → ReadsType signal ts rest t → ReadsType whole ts rest t
  signal_of : {s : Token} {ts rest : List Token} {t : CoreType} →
      IsWord word.Signal s → ReadsType closed ts rest t → ReadsType signal (s ∷ ts) rest (type.Signal t)
  no_signal : {ts rest : List Token} {t : CoreType} → ReadsType closed ts rest t → ReadsType signal ts rest t
  int_type : {t : Token} {rest : List Token} → IsWord word.Int t → ReadsType closed (t ∷ rest) rest type.Int
  unit_type : {t : Token} {rest : List Token} → IsWord word.Unit t → ReadsType closed (t ∷ rest) rest type.Unit
  type_brackets : {o c : Token} {ts rest : List Token} {t : CoreType} →
      IsMark symbol.OpenBracket o → ReadsType whole ts (c ∷ rest) t → IsMark symbol.CloseBracket c →
      ReadsType closed (o ∷ ts) rest t

-- the phrases of expressions
pub data Phrase : Type 0 where
  expr : Phrase
  chain : Level → Phrase
  cmp : Phrase
  operand : Phrase
  app : Phrase
  atom : Phrase

-- what a chain is a chain of
abbrev pub part : Level → Phrase
part level.Or = chain level.And
part level.And = cmp
part level.Sum = chain level.Product
part level.Product = operand

mutual
  -- The tokens begin with a phrase that reads as an expression, and the rest follows it.
  pub data Reads (text : List ℕ) : Phrase → List Token → List Token → Expression → Type 0 where
    function : {t n c p d : Token} {ts us rest : List Token} {x : List ℕ} {ty : CoreType} {body : Expression} →
        IsMark symbol.Backslash t → IsName text x n → IsMark symbol.Colon c → ReadsType whole (p ∷ ts) (d ∷ us) ty →
        IsMark symbol.Dot d → Reads text expr us rest body →
        Reads text expr (t ∷ n ∷ c ∷ p ∷ ts) rest (expression.Lam x ty p.start body t.start)
    binding : {t n c i : Token} {ts us rest : List Token} {x : List ℕ} {bound body : Expression} →
        IsWord word.Let t → IsName text x n → IsMark symbol.Equals c → Reads text expr ts (i ∷ us) bound →
        IsWord word.In i → Reads text expr us rest body →
        Reads text expr (t ∷ n ∷ c ∷ ts) rest (expression.Let x bound body t.start)
    choice : {t a b : Token} {ts us vs rest : List Token} {condition yes no : Expression} →
        IsWord word.If t → Reads text expr ts (a ∷ us) condition → IsWord word.Then a → Reads text expr us (b ∷ vs) yes →
        IsWord word.Else b → Reads text expr vs rest no →
        Reads text expr (t ∷ ts) rest (expression.If condition yes no t.start)
    plain : {ts rest : List Token} {e : Expression} → Reads text (chain level.Or) ts rest e → Reads text expr ts rest e
    chained : {l : Level} {ts us rest : List Token} {a e : Expression} →
        Reads text (part l) ts us a → Continues text l a us rest e → Reads text (chain l) ts rest e
    compared : {o : Token} {ts us rest : List Token} {a b : Expression} {sign : Op} →
        Reads text (chain level.Sum) ts (o ∷ us) a → comparison o.kind ≡ Some sign → Reads text (chain level.Sum) us rest b →
        Reads text cmp ts rest (expression.Bin sign a b o.start)
    alone : {ts rest : List Token} {e : Expression} → Reads text (chain level.Sum) ts rest e → Reads text cmp ts rest e
    negative : {m t : Token} {rest : List Token} {n : ℤ} → IsMark symbol.Minus m → IsNegated n t →
        Reads text operand (m ∷ t ∷ rest) rest (expression.Int n m.start)
    unsigned_operand : {ts rest : List Token} {e : Expression} → Reads text app ts rest e → Reads text operand ts rest e
    applied : {ts us rest : List Token} {f e : Expression} → Reads text atom ts us f → Applies text f us rest e → Reads text app ts rest e
    lift : {t : Token} {ts us rest : List Token} {n : ℕ} {f : Expression} {arguments : Expressions} →
        lift_count t.kind ≡ Some n → Reads text atom ts us f → ReadsAll text n us rest arguments →
        Reads text app (t ∷ ts) rest (expression.Lift f arguments t.start)
    foldp : {t : Token} {ts us vs rest : List Token} {f b s : Expression} →
        IsWord word.Foldp t → Reads text atom ts us f → Reads text atom us vs b → Reads text atom vs rest s →
        Reads text app (t ∷ ts) rest (expression.Foldp f b s t.start)
    async : {t : Token} {ts rest : List Token} {s : Expression} →
        IsWord word.Async t → Reads text atom ts rest s → Reads text app (t ∷ ts) rest (expression.Async s t.start)
    name : {t : Token} {rest : List Token} {x : List ℕ} → IsName text x t →
        Reads text atom (t ∷ rest) rest (expression.Name x t.start)
    number : {t : Token} {rest : List Token} {n : ℤ} → IsNumber n t →
        Reads text atom (t ∷ rest) rest (expression.Int n t.start)
    unit : {o c : Token} {rest : List Token} →
        IsMark symbol.OpenBracket o → IsMark symbol.CloseBracket c → Reads text atom (o ∷ c ∷ rest) rest (expression.Unit o.start)
    brackets : {o c : Token} {ts rest : List Token} {e : Expression} →
        IsMark symbol.OpenBracket o → Reads text expr ts (c ∷ rest) e → IsMark symbol.CloseBracket c → Reads text atom (o ∷ ts) rest e

  -- A chain whose parts so far read as left goes on, and reads as an expression in the end.
  pub data Continues (text : List ℕ) : Level → Expression → List Token → List Token → Expression → Type 0 where
    ended : {l : Level} {left : Expression} {rest : List Token} → Continues text l left rest rest left
    operated : {l : Level} {o : Token} {ts us rest : List Token} {left right e : Expression} {sign : Op} →
        operator l o.kind ≡ Some sign → Reads text (part l) ts us right →
        Continues text l (expression.Bin sign left right o.start) us rest e → Continues text l left (o ∷ ts) rest e

  -- The same for a function and its arguments.
  pub data Applies (text : List ℕ) : Expression → List Token → List Token → Expression → Type 0 where
    no_argument : {f : Expression} {rest : List Token} → Applies text f rest rest f
    argument : {p : Token} {ts us rest : List Token} {f a e : Expression} →
        Reads text atom (p ∷ ts) us a → Applies text (expression.App f a p.start) us rest e → Applies text f (p ∷ ts) rest e

  -- so many atoms
  pub data ReadsAll (text : List ℕ) : ℕ → List Token → List Token → Expressions → Type 0 where
    none : {rest : List Token} → ReadsAll text zero rest rest expression.End
    more : {ts us rest : List Token} {n : ℕ} {a : Expression} {others : Expressions} →
        Reads text atom ts us a → ReadsAll text n us rest others → ReadsAll text (suc n) ts rest (expression.More a others)

-- the tokens begin with a literal of a number, and the rest follows it
pub data ReadsLiteral : List Token → List Token → ℤ → Type 0 where
  unsigned : {t : Token} {rest : List Token} {n : ℤ} → IsNumber n t → ReadsLiteral (t ∷ rest) rest n
  signed : {m t : Token} {rest : List Token} {n : ℤ} → IsMark symbol.Minus m → IsNegated n t → ReadsLiteral (m ∷ t ∷ rest) rest n

-- the tokens begin with a declaration, and the rest follows it
pub data ReadsDeclaration (text : List ℕ) : List Token → List Token → InputDecl → Type 0 where
  int_input : {t n c i e : Token} {ts rest : List Token} {x : List ℕ} {default : ℤ} →
      IsWord word.Input t → IsName text x n → IsMark symbol.Colon c → IsWord word.Int i → IsMark symbol.Equals e →
      ReadsLiteral ts rest default →
      ReadsDeclaration text (t ∷ n ∷ c ∷ i ∷ e ∷ ts) rest (record { name = x; ty = input.Int; default = default })
  unit_input : {t n c u e o d : Token} {rest : List Token} {x : List ℕ} →
      IsWord word.Input t → IsName text x n → IsMark symbol.Colon c → IsWord word.Unit u → IsMark symbol.Equals e →
      IsMark symbol.OpenBracket o → IsMark symbol.CloseBracket d →
      ReadsDeclaration text (t ∷ n ∷ c ∷ u ∷ e ∷ o ∷ d ∷ rest) rest (record { name = x; ty = input.Unit; default = pos 0 })

-- the tokens, all of them, read as declarations and then the expression of `main`
pub data ReadsProgram (text : List ℕ) : List Token → List InputDecl → Expression → Type 0 where
  declared : {ts us : List Token} {d : InputDecl} {ds : List InputDecl} {main : Expression} →
      ReadsDeclaration text ts us d → ReadsProgram text us ds main → ReadsProgram text ts (d ∷ ds) main
  main_is : {t e : Token} {ts : List Token} {main : Expression} →
      IsWord word.Main t → IsMark symbol.Equals e → Reads text expr ts [] main → ReadsProgram text (t ∷ e ∷ ts) [] main
