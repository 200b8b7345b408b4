-- A layout is a graph: its nodes fit, and so do their types.
use Rattle.std.proofs.Common.{◌≡◌, ℕ, zero, suc, ◌≤◌, IsTrue, List, [], ◌∷◌, ◌++◌, length, slice_index, option_map, Some, refl, sym, ap, ◌∙◌, subst, arith, append_assoc, append-nil}
use Rattle.std.specs.Prelude.{slice_get}
use Rattle.std.proofs.lemmas.Option.{slice_get-map}
use Rattle.std.proofs.lemmas.List.{map-append}
use Rattle.felm_term.specs.CoreType.{CoreType, Arrow, Signal, is_simple}
use Rattle.felm_term.specs.CoreTerm.{CoreTerm, CoreTerms, Int, Var, Lam, App, Bin, If, Let, Input, Node as Name, Lift, Foldp, Async, End, More, count}
use Rattle.felm_term.specs.CoreTerm as term
use Rattle.felm_term.specs.Typing.{HasType, AreTakenBy, AreSignals}
use Rattle.felm_term.specs.Reduction.{IsValue, IsSignalTerm, AreSignalTerms}
use Rattle.felm_term.specs.Values.{term_of}
use Rattle.felm_laws.proofs.Formed.{taken_simple, folded_simple}
use Rattle.felm_laws.proofs.SimpleTerms.{no_signals}
use Rattle.felm_graph.specs.declared.node.Node.{Node}
use Rattle.felm_graph.specs.Nodes.{types_of, type_at}
use Rattle.felm_graph.specs.Layout.{Part, value_in, value_type, result_type, lift_node, foldp_node, async_node, with_node, lay, lay_all}
use Rattle.felm_graph.specs.Graphs.{IsOfType, TakesValues, KindFits, FitsBehind, AllFitBehind}
use Rattle.felm_graph.proofs.ValueTypes.{value_type_is}

-- ---- more nodes behind those before

get_front : {A : Type 0} (xs ys : List A) (k : ℕ) (x : A) → slice_get xs k ≡ Some x → slice_get (xs ++ ys) k ≡ Some x
get_front [] ys k x h = cc
get_front (y ∷ xs) ys zero x h = h
get_front (y ∷ xs) ys (suc k) x h = get_front xs ys k x h

get_seam : {A : Type 0} (xs : List A) (x : A) → slice_get (xs ++ x ∷ []) (length xs) ≡ Some x
get_seam [] x = refl
get_seam (y ∷ xs) x = get_seam xs x

fit_append : (before xs ys : List Node) → AllFitBehind before xs → AllFitBehind (before ++ xs) ys → AllFitBehind before (xs ++ ys)
fit_append before [] ys h k = subst (λ ns. AllFitBehind ns ys) (append-nil before) k
fit_append before (x ∷ xs) ys h k =
    (h.0, fit_append (before ++ x ∷ []) xs ys h.1 (subst (λ ns. AllFitBehind ns ys) (sym (append_assoc before (x ∷ []) xs)) k))

-- the nodes are those before and more that fit
abbrev pub Adds : List Node → List Node → Type 0
Adds old new = (more : List Node) × (new ≡ old ++ more) × AllFitBehind old more

pub adds_none : (nodes : List Node) → Adds nodes nodes
adds_none nodes = ([], sym (append-nil nodes), tt)

pub adds_trans : (a b c : List Node) → Adds a b → Adds b c → Adds a c
adds_trans a b c h k = (
  h.0 ++ k.0,
  k.1 ∙ ap (λ x. x ++ k.0) h.1 ∙ append_assoc a h.0 k.0,
  fit_append a h.0 k.0 h.2 (subst (λ x. AllFitBehind x k.0) h.1 k.2),
)

-- what is known of the types of nodes stays known
abbrev pub Stay : List CoreType → List CoreType → Type 0
Stay types later = (k : ℕ) (t : CoreType) → slice_get types k ≡ Some t → slice_get later k ≡ Some t

pub adds_stay : (old new : List Node) → Adds old new → Stay (types_of old) (types_of new)
adds_stay old new h k t e =
    let m : types_of new ≡ types_of old ++ types_of h.0 = ap types_of h.1 ∙ map-append (λ (n : Node). n.ty) old h.0 in
    subst (λ ts. slice_get ts k ≡ Some t) (sym m) (get_front (types_of old) (types_of h.0) k t e)

-- ---- what is known of the signals that a term may name

pub record Knows (inputs shared : List CoreType) (roots : List ℕ) (types : List CoreType) : Type 0 where
  pub from_inputs : (n : ℕ) (q : CoreType) → slice_get inputs n ≡ Some (Signal q) → slice_get types n ≡ Some q
  pub from_shared : (k : ℕ) (q : CoreType) → slice_get shared k ≡ Some (Signal q) → slice_get types (slice_index roots k) ≡ Some q

pub knows_later : (inputs shared : List CoreType) (roots : List ℕ) (types later : List CoreType) → Stay types later
    → Knows inputs shared roots types → Knows inputs shared roots later
knows_later inputs shared roots types later s k = record {
  from_inputs = λ n q e. s n q (k.from_inputs n q e);
  from_shared = λ n q e. s (slice_index roots n) q (k.from_shared n q e);
}

-- ---- types of nodes

term_of-value_in : (t : CoreTerm) → term_of (value_in t) ≡ t
term_of-value_in term.Unit = refl
term_of-value_in (Int n) = refl
term_of-value_in (Var n) = refl
term_of-value_in (Lam p b) = refl
term_of-value_in (App f a) = refl
term_of-value_in (Bin o a b) = refl
term_of-value_in (If c a b) = refl
term_of-value_in (Let a b) = refl
term_of-value_in (Input n) = refl
term_of-value_in (Name n) = refl
term_of-value_in (Lift f ts) = refl
term_of-value_in (Foldp f b s) = refl
term_of-value_in (Async s) = refl

of_type : (t : CoreTerm) (p : CoreType) → IsValue t → HasType [] [] [] t p → IsOfType p (value_in t)
of_type t p w h =
    let e = sym (term_of-value_in t) in
    (subst IsValue e w, subst (λ x. HasType [] [] [] x p) e h)

type_at_is : (nodes : List Node) (k : ℕ) (t : CoreType) → slice_get (types_of nodes) k ≡ Some t → type_at nodes k ≡ t
type_at_is [] k t h = cc
type_at_is (n ∷ nodes) zero t h = cc
type_at_is (n ∷ nodes) (suc k) t h = type_at_is nodes k t h

fits_as : (before : List Node) (n : Node) (r : CoreType) → n.ty ≡ r → KindFits (types_of before) n.kind r → IsTrue (is_simple r) → FitsBehind before n
fits_as before n r e k s = subst (λ t. KindFits (types_of before) n.kind t × IsTrue (is_simple t)) (sym e) (k, s)

-- ---- terms

-- a term adds nodes that fit, and its root has values of this type
abbrev pub IsSound : List Node → Part → CoreType → Type 0
IsSound nodes p q = Adds nodes p.nodes × (slice_get (types_of p.nodes) p.root ≡ Some q)

with_node_sound : (nodes mid : List Node) (n : Node) (q : CoreType) → Adds nodes mid → FitsBehind mid n → n.ty ≡ q → IsSound nodes (with_node mid n) q
with_node_sound nodes mid n q h f e = (
  adds_trans nodes mid (mid ++ n ∷ []) h (n ∷ [], refl, (f, tt)),
  slice_get-map (λ (x : Node). x.ty) (mid ++ n ∷ []) (length mid) ∙ ap (λ o. option_map (λ (x : Node). x.ty) o) (get_seam mid n) ∙ ap Some e,
)

-- the arguments of a lift add nodes that fit, and a function of type p takes the values of their roots
pub record AreSound (nodes : List Node) (p : CoreType) (ts : CoreTerms) (r : CoreType) (after : List Node) (roots : List ℕ) : Type 0 where
  pub added : Adds nodes after
  pub taken : TakesValues (types_of after) p roots r
  pub counted : length roots ≡ count ts
  pub gives : result_type (length roots) p ≡ r

module _ (inputs shared : List CoreType) (wi : AreSignals inputs) (ws : AreSignals shared) (roots : List ℕ) where
  -- a value in a signal term has its type also without signals
  closed : (t : CoreTerm) (p : CoreType) → IsTrue (is_simple p) → HasType inputs shared [] t p → HasType [] [] [] t p
  closed t p c h = no_signals inputs shared wi ws [] t p tt c h

  mutual
    pub lay_sound : (nodes : List Node) (t : CoreTerm) (q : CoreType) → Knows inputs shared roots (types_of nodes) → IsSignalTerm t
        → HasType inputs shared [] t (Signal q) → IsSound nodes (lay roots nodes t) q
    lay_sound nodes (Input n) q k w h = (adds_none nodes, k.from_inputs n q h)
    lay_sound nodes (Name n) q k w h = (adds_none nodes, k.from_shared n q h)
    lay_sound nodes (Lift f ts) q k w h =
        let a = lay_all roots nodes ts in
        let s = lay_all_sound nodes ts h.0 h.1 k w.1 h.5 in
        let v = of_type f h.0 w.0 (closed f h.0 h.3 h.4) in
        let e : result_type (length a.roots) (value_type (value_in f)) ≡ h.1 =
        ap (λ p. result_type (length a.roots) p) (sym (value_type_is (value_in f) h.0 v.1)) ∙ s.gives
        in
        let few : (1 ≤ length a.roots) × (length a.roots ≤ 9) = (omega (arith, s.counted, h.6), omega (arith, s.counted, h.7)) in
        let fit = fits_as a.nodes (lift_node (value_in f) a.roots) h.1 e (h.0, v, s.taken, few.0, few.1) (taken_simple inputs shared [] h.0 ts h.1 h.3 h.5) in
        with_node_sound nodes a.nodes (lift_node (value_in f) a.roots) q s.added fit (e ∙ (let g = h.2 in cc))
    lay_sound nodes (Foldp f b s) q k w h =
        let a = lay roots nodes s in
        let i = lay_sound nodes s h.0 k w.2 h.6 in
        let r = folded_simple h.0 h.1 h.3 in
        let v = of_type f (Arrow h.0 (Arrow h.1 h.1)) w.0 (closed f (Arrow h.0 (Arrow h.1 h.1)) h.3 h.4) in
        let base = of_type b h.1 w.1 (closed b h.1 r h.5) in
        let e = sym (value_type_is (value_in b) h.1 base.1) in
        let fit = fits_as a.nodes (foldp_node (value_in f) (value_in b) a.root) h.1 e (h.0, v, base, i.1) r in
        with_node_sound nodes a.nodes (foldp_node (value_in f) (value_in b) a.root) q i.0 fit (e ∙ (let g = h.2 in cc))
    lay_sound nodes (Async s) q k w h =
        let a = lay roots nodes s in
        let i = lay_sound nodes s h.0 k w h.3 in
        let e = type_at_is a.nodes a.root h.0 i.1 in
        let fit = fits_as a.nodes (async_node a.nodes a.root) h.0 e i.1 h.2 in
        with_node_sound nodes a.nodes (async_node a.nodes a.root) q i.0 fit (e ∙ (let g = h.1 in cc))
    lay_sound nodes term.Unit q k w h = absurd w
    lay_sound nodes (Int n) q k w h = absurd w
    lay_sound nodes (Var n) q k w h = absurd w
    lay_sound nodes (Lam p b) q k w h = absurd w
    lay_sound nodes (App f a) q k w h = absurd w
    lay_sound nodes (Bin o a b) q k w h = absurd w
    lay_sound nodes (If c a b) q k w h = absurd w
    lay_sound nodes (Let a b) q k w h = absurd w

    lay_all_sound : (nodes : List Node) (ts : CoreTerms) (p r : CoreType) → Knows inputs shared roots (types_of nodes) → AreSignalTerms ts
        → AreTakenBy inputs shared [] p ts r → AreSound nodes p ts r (lay_all roots nodes ts).nodes (lay_all roots nodes ts).roots
    lay_all_sound nodes End p r k w h = record { added = adds_none nodes; taken = h; counted = refl; gives = h }
    lay_all_sound nodes (More t ts) p r k w h =
        let a = lay roots nodes t in
        let first = lay_sound nodes t h.0 k w.0 h.3 in
        let later = knows_later inputs shared roots (types_of nodes) (types_of a.nodes) (adds_stay nodes a.nodes first.0) k in
        let rest = lay_all_sound a.nodes ts h.1 r later w.1 h.4 in
        let end = lay_all roots a.nodes ts in
        record {
          added = adds_trans nodes a.nodes end.nodes first.0 rest.added;
          taken = (h.0, h.1, h.2, adds_stay a.nodes end.nodes rest.added a.root h.0 first.1, rest.taken);
          counted = omega (arith, rest.counted);
          gives = ap (λ x. result_type (length (a.root ∷ end.roots)) x) h.2 ∙ rest.gives;
        }
