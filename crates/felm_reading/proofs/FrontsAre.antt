-- Fronts with and without the nesting of their last token are the same.
use Rattle.std.proofs.Common.{◌≡◌, ℕ, suc, refl, inl, inr, List, [], ◌∷◌, subst, sym}
use Rattle.std.specs.Prelude.{ℤ, ◌⊎◌}
use Rattle.felm_term.specs.CoreType.{CoreType}
use Rattle.felm_term.specs.declared.input.InputDecl.{InputDecl}
use Rattle.felm_lexer.specs.declared.token.Token.{Token}
use Rattle.felm_syntax.specs.declared.level.Level.{Level}
use Rattle.felm_syntax.specs.Expression.{Expression, Expressions}
use Rattle.felm_syntax.specs.Nesting.{Nests}
use Rattle.felm_syntax.specs.Fronts.{Part, IsToken, Whole, Fronts, IsFront}
use Rattle.felm_syntax.specs.Fronts as f
use Rattle.felm_syntax.specs.Nesting as path
use Rattle.felm_syntax.specs.Grammar.{TypePhrase, ReadsType, Phrase, part, Reads, Continues, Applies, ReadsAll, ReadsLiteral, ReadsDeclaration, ReadsProgram}
use Rattle.felm_syntax.specs.Grammar as g
use Rattle.felm_reading.proofs.Runs.{widen}

pub fronts_of : {text : List ℕ} {ps : List Part} {n : ℕ} {ts : List Token} → Nests text ps n ts → Fronts text ps ts
fronts_of (path.token h) = f.behind (f.whole_token h) f.nothing
fronts_of (path.inside r d) = f.within r (fronts_of d)
fronts_of (path.deeper r d) = f.within r (fronts_of d)
fronts_of (path.after w d) = f.behind w (fronts_of d)

-- a front that isn't empty
abbrev pub SomeFront : List ℕ → List Part → List Token → Type 0
SomeFront text ps ts = (n : ℕ) × Nests text ps n ts

last_token : {text : List ℕ} {p : Part} {ps : List Part} {t : Token} {rest : List Token} → IsToken text p t → rest ≡ [] → Nests text (p ∷ ps) 0 (t ∷ rest)
last_token {text} {p} {ps} {t} h e = subst (λ r. Nests text (p ∷ ps) 0 (t ∷ r)) (sym e) (path.token h)

type_nests : {text : List ℕ} {p : TypePhrase} {ts rest : List Token} {t : CoreType} → ReadsType p ts rest t → rest ≡ [] → SomeFront text (f.type p ∷ []) ts
type_nests (g.arrow d h t) e = let k = type_nests t e in (suc k.0, path.deeper f.arrow (path.after (f.whole_type d) (path.inside f.arrow_to (path.after (f.whole_token h) k.1))))
type_nests (g.no_arrow d) e = let k = type_nests d e in (suc k.0, path.deeper f.arrow (widen k.1))
type_nests (g.signal_of h d) e = let k = type_nests d e in (k.0, path.inside f.signal_of (path.after (f.whole_token h) k.1))
type_nests (g.no_signal d) e = let k = type_nests d e in (k.0, path.inside f.no_signal k.1)
type_nests (g.int_type h) e = (0, path.inside f.int_type (last_token h e))
type_nests (g.unit_type h) e = (0, path.inside f.unit_type (last_token h e))
type_nests (g.type_brackets o d c) e = (0, path.inside f.type_brackets (path.after (f.whole_token o) (path.after (f.whole_type d) (last_token c e))))

mutual
  phrase_nests : {text : List ℕ} {p : Phrase} {ts rest : List Token} {x : Expression} → Reads text p ts rest x → rest ≡ [] → SomeFront text (f.phrase p ∷ []) ts
  phrase_nests (g.function {x} ht hn hc d hi b) e =
      let k = phrase_nests b e in
      (suc k.0, path.deeper f.function (path.after (f.whole_token ht) (path.after (f.whole_token (x, hn)) (path.after (f.whole_token hc) (path.after (f.whole_type d) (path.after (f.whole_token hi) k.1))))))
  phrase_nests (g.binding {x} ht hn hc d hi b) e =
      let k = phrase_nests b e in
      (suc k.0, path.deeper f.binding (path.after (f.whole_token ht) (path.after (f.whole_token (x, hn)) (path.after (f.whole_token hc) (path.after (f.whole_phrase d) (path.after (f.whole_token hi) k.1))))))
  phrase_nests (g.choice ht c ha a hb b) e =
      let k = phrase_nests b e in
      (suc k.0, path.deeper f.choice (path.after (f.whole_token ht) (path.after (f.whole_phrase c) (path.after (f.whole_token ha) (path.after (f.whole_phrase a) (path.after (f.whole_token hb) k.1))))))
  phrase_nests (g.plain d) e = let k = phrase_nests d e in (suc k.0, path.deeper f.plain k.1)
  phrase_nests {text} {ts} (g.chained {l} first others) e = elim (on_nests others e) as (λ _. SomeFront text (f.phrase (g.chain l) ∷ []) ts) [
    | inl z ↦ (let k = phrase_nests first z in (k.0, path.inside f.chained (widen k.1)))
    | inr (n, k) ↦ (n, path.inside f.chained (path.after (f.whole_phrase first) k))
  ]
  phrase_nests (g.compared {sign} a h b) e = let k = phrase_nests b e in (k.0, path.inside f.compared (path.after (f.whole_phrase a) (path.inside f.compares (path.after (f.whole_token (sign, h)) k.1))))
  phrase_nests (g.alone d) e = let k = phrase_nests d e in (k.0, path.inside f.compared (widen k.1))
  phrase_nests (g.negative {n} hm hn) e = (0, path.inside f.negative (path.after (f.whole_token hm) (last_token (n, hn) e)))
  phrase_nests (g.unsigned_operand d) e = let k = phrase_nests d e in (k.0, path.inside f.unsigned_operand k.1)
  phrase_nests {text} {ts} (g.applied d others) e = elim (args_nest others e) as (λ _. SomeFront text (f.phrase g.app ∷ []) ts) [
    | inl z ↦ (let k = phrase_nests d z in (k.0, path.inside f.applied (widen k.1)))
    | inr (n, k) ↦ (n, path.inside f.applied (path.after (f.whole_phrase d) k))
  ]
  phrase_nests {text} (g.lift {t} {ts} {n = m} h d others) e = elim (all_nest others e) as (λ _. SomeFront text (f.phrase g.app ∷ []) (t ∷ ts)) [
    | inl z ↦ (let k = phrase_nests d z in (k.0, path.inside f.lift (path.after (f.whole_token h) (widen k.1))))
    | inr (n, k) ↦ (n, path.inside f.lift (path.after (f.whole_token h) (path.after (f.whole_phrase d) k)))
  ]
  phrase_nests (g.foldp h a b s) e = let k = phrase_nests s e in (k.0, path.inside f.foldp (path.after (f.whole_token h) (path.after (f.whole_phrase a) (path.after (f.whole_phrase b) k.1))))
  phrase_nests (g.async h s) e = let k = phrase_nests s e in (k.0, path.inside f.async (path.after (f.whole_token h) k.1))
  phrase_nests (g.name {x} h) e = (0, path.inside f.named (last_token (x, h) e))
  phrase_nests (g.number {n} h) e = (0, path.inside f.numbered (last_token (n, h) e))
  phrase_nests (g.unit o c) e = (0, path.inside f.unit (path.after (f.whole_token o) (last_token c e)))
  phrase_nests (g.brackets o d c) e = (0, path.inside f.brackets (path.after (f.whole_token o) (path.after (f.whole_phrase d) (last_token c e))))

  on_nests : {text : List ℕ} {l : Level} {left x : Expression} {ts rest : List Token} → Continues text l left ts rest x → rest ≡ [] → (ts ≡ []) ⊎ SomeFront text (f.operations l ∷ []) ts
  on_nests g.ended e = inl e
  on_nests {text} {l} (g.operated {o} {ts} {sign} h right others) e = elim (on_nests others e) as (λ _. (o ∷ ts ≡ []) ⊎ SomeFront text (f.operations l ∷ []) (o ∷ ts)) [
    | inl z ↦ (let k = phrase_nests right z in inr (suc k.0, path.inside f.operated (path.after (f.whole_token (sign, h)) (path.deeper f.right_is (widen k.1)))))
    | inr (n, k) ↦ inr (suc n, path.inside f.operated (path.after (f.whole_token (sign, h)) (path.deeper f.right_is (path.after (f.whole_phrase right) k))))
  ]

  args_nest : {text : List ℕ} {fn x : Expression} {ts rest : List Token} → Applies text fn ts rest x → rest ≡ [] → (ts ≡ []) ⊎ SomeFront text (f.arguments ∷ []) ts
  args_nest g.no_argument e = inl e
  args_nest {text} (g.argument {p} {ts} a others) e = elim (others_nest others e) as (λ _. (p ∷ ts ≡ []) ⊎ SomeFront text (f.arguments ∷ []) (p ∷ ts)) [
    | inl z ↦ (let k = phrase_nests a z in inr (k.0, path.inside f.argument (widen k.1)))
    | inr (n, k) ↦ inr (n, path.inside f.argument (path.after (f.whole_phrase a) k))
  ]

  others_nest : {text : List ℕ} {fn x : Expression} {ts rest : List Token} → Applies text fn ts rest x → rest ≡ [] → (ts ≡ []) ⊎ SomeFront text (f.others ∷ []) ts
  others_nest g.no_argument e = inl e
  others_nest {text} (g.argument {p} {ts} a others) e = elim (others_nest others e) as (λ _. (p ∷ ts ≡ []) ⊎ SomeFront text (f.others ∷ []) (p ∷ ts)) [
    | inl z ↦ (let k = phrase_nests a z in inr (suc k.0, path.deeper f.another (widen k.1)))
    | inr (n, k) ↦ inr (suc n, path.deeper f.another (path.after (f.whole_phrase a) k))
  ]

  all_nest : {text : List ℕ} {m : ℕ} {ts rest : List Token} {es : Expressions} → ReadsAll text m ts rest es → rest ≡ [] → (ts ≡ []) ⊎ SomeFront text (f.atoms m ∷ []) ts
  all_nest g.none e = inl e
  all_nest {text} {ts} (g.more {n = m} a others) e = elim (all_nest others e) as (λ _. (ts ≡ []) ⊎ SomeFront text (f.atoms (suc m) ∷ []) ts) [
    | inl z ↦ (let k = phrase_nests a z in inr (k.0, path.inside f.one_more (widen k.1)))
    | inr (n, k) ↦ inr (n, path.inside f.one_more (path.after (f.whole_phrase a) k))
  ]

literal_nests : {text : List ℕ} {ts rest : List Token} {n : ℤ} → ReadsLiteral ts rest n → rest ≡ [] → SomeFront text (f.literal ∷ []) ts
literal_nests (g.unsigned {n} h) e = (0, path.inside f.unsigned (last_token (n, h) e))
literal_nests (g.signed {n} h k) e = (0, path.inside f.signed (path.after (f.whole_token h) (last_token (n, k) e)))

declaration_nests : {text : List ℕ} {ts rest : List Token} {d : InputDecl} → ReadsDeclaration text ts rest d → rest ≡ [] → SomeFront text (f.declaration ∷ []) ts
declaration_nests (g.int_input {x} a b c d h n) e =
    let k = literal_nests n e in
    (k.0, path.inside f.int_input (path.after (f.whole_token a) (path.after (f.whole_token (x, b)) (path.after (f.whole_token c) (path.after (f.whole_token d) (path.after (f.whole_token h) k.1))))))
declaration_nests (g.unit_input {x} a b c d h o k) e =
    (0, path.inside f.unit_input (path.after (f.whole_token a) (path.after (f.whole_token (x, b)) (path.after (f.whole_token c) (path.after (f.whole_token d) (path.after (f.whole_token h) (path.after (f.whole_token o) (last_token k e))))))))

-- a whole part is a front of itself
pub whole_nests : {text : List ℕ} {p : Part} {ts us : List Token} → Whole text p ts us → us ≡ [] → SomeFront text (p ∷ []) ts
whole_nests (f.whole_token h) e = (0, last_token h e)
whole_nests (f.whole_type r) e = type_nests r e
whole_nests (f.whole_phrase r) e = phrase_nests r e
whole_nests (f.whole_literal r) e = literal_nests r e
whole_nests (f.whole_declaration r) e = declaration_nests r e

-- A front is empty, or its last token nests somehow.
pub nests_of : {text : List ℕ} {ps : List Part} {ts : List Token} → Fronts text ps ts → (ts ≡ []) ⊎ SomeFront text ps ts
nests_of f.nothing = inl refl
nests_of {text} {ts} (f.within {nest = f.along} {p} {ps} r d) = elim (nests_of d) as (λ _. (ts ≡ []) ⊎ SomeFront text (p ∷ ps) ts) [
  | inl e ↦ inl e
  | inr (n, k) ↦ inr (n, path.inside r k)
]
nests_of {text} {ts} (f.within {nest = f.below} {p} {ps} r d) = elim (nests_of d) as (λ _. (ts ≡ []) ⊎ SomeFront text (p ∷ ps) ts) [
  | inl e ↦ inl e
  | inr (n, k) ↦ inr (suc n, path.deeper r k)
]
nests_of {text} {ts} (f.behind {p} {ps} w d) = elim (nests_of d) as (λ _. (ts ≡ []) ⊎ SomeFront text (p ∷ ps) ts) [
  | inl e ↦ (let k = whole_nests w e in inr (k.0, widen k.1))
  | inr (n, k) ↦ inr (n, path.after w k)
]

-- A whole program is a front of one.
pub whole_program_front : {text : List ℕ} {ts : List Token} {ds : List InputDecl} {main : Expression} → ReadsProgram text ts ds main → IsFront text ts
whole_program_front (g.declared r others) = f.within f.declared (f.behind (f.whole_declaration r) (whole_program_front others))
whole_program_front (g.main_is h e d) = f.within f.main_is (f.behind (f.whole_token h) (f.behind (f.whole_token e) (f.behind (f.whole_phrase d) f.nothing)))
