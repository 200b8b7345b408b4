-- What a graph keeps of each of its nodes.
use Rattle.std.proofs.Common.{◌≡◌, ℕ, zero, suc, ◌+◌, ◌<◌, ◌⊎◌, inl, inr, Option, Some, None, List, [], ◌∷◌, ◌++◌, length, take, refl, sym, ap, subst, ◌∙◌, arith}
use Rattle.std.specs.Prelude.{slice_get}
use Rattle.std.specs.Option.{option_map_or, option_and_then}
use Rattle.std.proofs.lemmas.Option.{none-some, same_Some}
use Rattle.felm_term.specs.CoreType.{CoreType}
use Rattle.felm_term.specs.declared.input.InputDecl.{InputDecl}
use Rattle.felm_graph.specs.declared.node.Node.{Node}
use Rattle.felm_graph.specs.declared.node.NodeKind.{NodeKind}
use Rattle.felm_graph.specs.declared.node.NodeKind.TheVariants as kind
use Rattle.felm_graph.specs.GraphValue.{GraphValue}
use Rattle.felm_graph.specs.Nodes.{arguments_of_kind, arguments_of, types_of}
use Rattle.felm_graph.specs.Layout.{input_node, inputs_from, input_nodes}
use Rattle.felm_graph.specs.Graphs.{TakesValues, KindFits, FitsBehind, IsGraph}
use Rattle.felm_graph.proofs.Earlier.{IsInOne, fit_at}
use Rattle.felm_meaning.specs.Nodes.{inner_of_kind, inner}

-- ---- lists

take_past : {X : Type 0} (xs ys : List X) (k j : ℕ) → k ≡ length xs + j → take k (xs ++ ys) ≡ xs ++ take j ys
take_past [] ys k j e = let s : k ≡ j = omega arith in ap (λ n. take n ys) s
take_past (x ∷ xs) ys zero j e = absurd (omega arith)
take_past (x ∷ xs) ys (suc k) j e = ap (λ zs. x ∷ zs) (take_past xs ys k j (omega arith))

pub slice_get-take : {X : Type 0} (xs : List X) (k i : ℕ) (x : X) → slice_get (take k xs) i ≡ Some x → (slice_get xs i ≡ Some x) × (i < k)
slice_get-take xs zero i x h = absurd (none-some x h)
slice_get-take [] (suc k) i x h = absurd (none-some x h)
slice_get-take (y ∷ ys) (suc k) zero x h = (h, omega arith)
slice_get-take (y ∷ ys) (suc k) (suc i) x h = let r = slice_get-take ys k i x h in let l : i < k = r.1 in (r.0, omega arith)

in_one : (xs ys : List Node) (k : ℕ) (n : Node) → slice_get (xs ++ ys) k ≡ Some n → IsInOne xs ys k n
in_one [] ys k n h = inr (k, omega arith, h)
in_one (x ∷ xs) ys zero n h = inl h
in_one (x ∷ xs) ys (suc k) n h =
    elim (in_one xs ys k n h) [ inl e ↦ inl e | inr e ↦ inr (e.0, (let f = e.1 in omega arith), e.2) ]

-- ---- nodes

-- the node of the declared input with its number
abbrev pub IsDeclared : List InputDecl → ℕ → Node → Type 0
IsDeclared inputs k n = (d : InputDecl) × (slice_get inputs k ≡ Some d) × (input_node k d ≡ n)

declared_at : (inputs : List InputDecl) (number k z : ℕ) (n : Node) → z ≡ number + k → slice_get (inputs_from number inputs) k ≡ Some n
    → (d : InputDecl) × (slice_get inputs k ≡ Some d) × (input_node z d ≡ n)
declared_at [] number k z n e h = absurd (none-some n h)
declared_at (d ∷ more) number zero z n e h =
    let s : z ≡ number = omega arith in (d, refl, ap (λ m. input_node m d) s ∙ same_Some (input_node number d) n h)
declared_at (d ∷ more) number (suc k) z n e h = declared_at more (suc number) k z n (omega arith) h

-- each node is a declared input, or fits after those before it
pub node_fits : (g : GraphValue) (k : ℕ) (n : Node) → IsGraph g → slice_get g.nodes k ≡ Some n → IsDeclared g.inputs k n ⊎ FitsBehind (take k g.nodes) n
node_fits g k n h e =
    let i = input_nodes g.inputs in
    let s : slice_get (i ++ h.rest) k ≡ Some n = subst (λ ns. slice_get ns k ≡ Some n) h.inputs_first e in
    elim (in_one i h.rest k n s) [
      | inl a ↦ inl (declared_at g.inputs 0 k k n (omega arith) a)
      | inr b ↦ inr (subst (λ ns. FitsBehind ns n)
          (sym (ap (λ ns. take k ns) h.inputs_first ∙ take_past i h.rest k b.0 b.1))
          (fit_at i h.rest b.0 n h.fit b.2))
    ]

-- a type that is found among those of the nodes before is that of a node
pub type_found : (nodes : List Node) (k a : ℕ) (t : CoreType) → slice_get (types_of (take k nodes)) a ≡ Some t
    → (n : Node) × (a < k) × (slice_get nodes a ≡ Some n) × (n.ty ≡ t)
type_found nodes zero a t h = absurd (none-some t h)
type_found [] (suc k) a t h = absurd (none-some t h)
type_found (n ∷ nodes) (suc k) zero t h = (n, omega arith, refl, same_Some n.ty t h)
type_found (n ∷ nodes) (suc k) (suc a) t h =
    let r = type_found nodes k a t h in let l : a < k = r.1 in (r.0, omega arith, r.2, r.3)

taken_below : (nodes : List Node) (k : ℕ) (p : CoreType) (arguments : List ℕ) (r : CoreType) → TakesValues (types_of (take k nodes)) p arguments r
    → (port a : ℕ) → slice_get arguments port ≡ Some a → a < k
taken_below nodes k p [] r h port a e = absurd (none-some a e)
taken_below nodes k p (x ∷ more) r h zero a e =
    let s : x ≡ a = same_Some x a e in subst (λ z. z < k) s (type_found nodes k x h.0 h.3).1
taken_below nodes k p (x ∷ more) r h (suc port) a e = taken_below nodes k h.1 more r h.4 port a e

-- what a node names has smaller numbers
pub record IsOrdered (nodes : List Node) : Type 0 where
  pub down : (k port a : ℕ) → slice_get (arguments_of nodes k) port ≡ Some a → a < k
  pub inner_down : (k a : ℕ) → inner nodes k ≡ Some a → a < k

fitting_down : (nodes : List Node) (k : ℕ) (kd : NodeKind) (r : CoreType) → KindFits (types_of (take k nodes)) kd r
    → (port a : ℕ) → slice_get (arguments_of_kind kd) port ≡ Some a → a < k
fitting_down nodes k (kind.Input number) r h port a e = absurd h
fitting_down nodes k (kind.Lift f arguments) r h port a e = taken_below nodes k h.0 arguments r h.2 port a e
fitting_down nodes k (kind.Foldp f base argument) r h zero a e =
    let s : argument ≡ a = same_Some argument a e in subst (λ z. z < k) s (type_found nodes k argument h.0 h.3).1
fitting_down nodes k (kind.Foldp f base argument) r h (suc port) a e = absurd (none-some a e)
fitting_down nodes k (kind.Async argument) r h port a e = absurd (none-some a e)

fitting_inner : (nodes : List Node) (k : ℕ) (kd : NodeKind) (r : CoreType) → KindFits (types_of (take k nodes)) kd r
    → (a : ℕ) → inner_of_kind kd ≡ Some a → a < k
fitting_inner nodes k (kind.Input number) r h a e = absurd h
fitting_inner nodes k (kind.Lift f arguments) r h a e = absurd (none-some a e)
fitting_inner nodes k (kind.Foldp f base argument) r h a e = absurd (none-some a e)
fitting_inner nodes k (kind.Async argument) r h a e =
    let s : argument ≡ a = same_Some argument a e in subst (λ z. z < k) s (type_found nodes k argument r h).1

pub ordered : (g : GraphValue) → IsGraph g → IsOrdered g.nodes
ordered g h = record {
  down = λ k port a e. down k port a (slice_get g.nodes k) refl e;
  inner_down = λ k a e. inner_down k a (slice_get g.nodes k) refl e;
}
  where
    down : (k port a : ℕ) (o : Option Node) → slice_get g.nodes k ≡ o → slice_get (option_map_or (λ n. arguments_of_kind n.kind) o []) port ≡ Some a → a < k
    down k port a None q e = absurd (none-some a e)
    down k port a (Some n) q e = elim (node_fits g k n h q) [
      | inl d ↦ absurd (none-some a (subst (λ (m : Node). slice_get (arguments_of_kind m.kind) port ≡ Some a) (sym d.2) e))
      | inr f ↦ fitting_down g.nodes k n.kind n.ty f.0 port a e
    ]

    inner_down : (k a : ℕ) (o : Option Node) → slice_get g.nodes k ≡ o → option_and_then (λ n. inner_of_kind n.kind) o ≡ Some a → a < k
    inner_down k a None q e = absurd (none-some a e)
    inner_down k a (Some n) q e = elim (node_fits g k n h q) [
      | inl d ↦ absurd (none-some a (subst (λ (m : Node). inner_of_kind m.kind ≡ Some a) (sym d.2) e))
      | inr f ↦ fitting_inner g.nodes k n.kind n.ty f.0 a e
    ]
