-- The names of a plan's inputs are words, so that its texts name their journals.
use Rattle.std.proofs.Common.{◌≡◌, ℕ, Bool, true, false, List, [], ◌∷◌, Some, None, refl, sym, ◌∙◌, subst}
use Rattle.std.specs.Prelude.{◌&&◌, length, nat_le, is_none, if◌then◌else◌}
use Rattle.std.specs.List.{All}
use Rattle.std.proofs.lemmas.List.Elements.{All-nil, All-cons}
use Rattle.felm_term.specs.Inputs.{names_of}
use Rattle.felm_term.specs.declared.input.InputDecl.{InputDecl}
use Rattle.felm_lexer.specs.Spellings.{is_word as is_word_spelled, is_name, keyword_of}
use Rattle.felm_lexer.specs.declared.token.Token.{Token}
use Rattle.felm_syntax.specs.Expression.{Expression}
use Rattle.felm_syntax.specs.Grammar.{IsName, ReadsDeclaration, ReadsProgram}
use Rattle.felm_syntax.specs.Grammar as g
use Rattle.felm_syntax.specs.Kinds.{is_name_kind, is_named, text_of}
use Rattle.felm_printer.specs.Names.{is_word, AreNames}
use Rattle.felm_printer.proofs.TextLaws.{result_names_journal, stopped_names_journal}
use Rattle.felm_plans.specs.Plans.{Planned, HavePlan}
use Rattle.felm_plans.specs.Laws.{TextsNameTheirJournals}
use Rattle.felm_plans.proofs.Graphs.{staged_is_graph}

-- ---- a name that the grammar reads is a word

left_of : (a b : Bool) → (a && b) ≡ true → a ≡ true
left_of true b h = refl
left_of false b h = h

right_of : (a b : Bool) → (a && b) ≡ true → b ≡ true
right_of true b h = h
right_of false b h = cc

-- words as the lexer spells them
same_words : (name : List ℕ) → is_word name ≡ is_word_spelled name
same_words [] = refl
same_words (c ∷ cs) = refl

spelled_word : (text : List ℕ) (t : Token) → is_named text t ≡ true → is_word_spelled (text_of text t) ≡ true
spelled_word text t h =
    let bytes : List ℕ = text_of text t in
    let named : is_name bytes ≡ true =
    right_of (is_name_kind t.kind && nat_le t.start t.end && nat_le t.end (length text)) (is_name bytes) h in
    left_of (is_word_spelled bytes) (is_none (keyword_of bytes)) named

name_is_word : (text name : List ℕ) (t : Token) → IsName text name t → is_word name ≡ true
unfolding Rattle.felm_syntax.specs.Kinds.name_of
name_is_word text name t is = go (is_named text t) refl is
  where
    go : (named : Bool) → is_named text t ≡ named → (if named then Some (text_of text t) else None) ≡ Some name → is_word name ≡ true
    go true h e =
        let same : text_of text t ≡ name = cc in
        same_words name ∙ subst (λ (bytes : List ℕ). is_word_spelled bytes ≡ true) same (spelled_word text t h)
    go false h e = cc

declared_is_word : (text : List ℕ) (ts us : List Token) (d : InputDecl) → ReadsDeclaration text ts us d → is_word d.name ≡ true
declared_is_word text ts us d (g.int_input w n c i e l) = name_is_word text _ _ n
declared_is_word text ts us d (g.unit_input w n c u e o b) = name_is_word text _ _ n

names_are_words : (text : List ℕ) (ts : List Token) (ds : List InputDecl) (main : Expression) → ReadsProgram text ts ds main
    → All (λ name. is_word name ≡ true) (names_of ds)
names_are_words text ts ds main (g.declared first rest) =
    All-cons (λ name. is_word name ≡ true) _ _ (declared_is_word text _ _ _ first) (names_are_words text _ _ _ rest)
names_are_words text ts ds main (g.main_is w e r) = All-nil (λ name. is_word name ≡ true)

-- ---- of a plan

plan_has_names : (program script : List ℕ) (budget : ℕ) (plan : Planned) → HavePlan program script budget plan → AreNames plan.graph.inputs
plan_has_names program script budget plan h =
    let graph = staged_is_graph h.read budget plan.graph h.typed.typed h.staged in
    let is = h.typed.text_of.2 in
    subst AreNames (sym graph.1) (record { distinct = is.1; words = names_are_words program h.typed.text_of.0 h.read.inputs h.read.main is.0 })

pub texts_name_journals : TextsNameTheirJournals
texts_name_journals program script budget plan b one other h p q =
    let graph = (staged_is_graph h.read budget plan.graph h.typed.typed h.staged).0 in
    let names = plan_has_names program script budget plan h in (
      λ c d. result_names_journal plan.graph b plan.script one other graph names p q c d,
      λ k m l n. stopped_names_journal plan.graph b plan.script one other graph names p q k m l n,
    )
