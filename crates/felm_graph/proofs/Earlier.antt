-- What the nodes of a graph read.
use Rattle.std.proofs.Common.{◌≡◌, ℕ, zero, suc, ◌+◌, ◌<◌, ◌≤◌, ◌⊎◌, inl, inr, false, List, [], ◌∷◌, ◌++◌, length, take, Some, refl, sym, subst, arith, append_assoc, append-nil, length-append, length-take-le, get_or}
use Rattle.std.proofs.lemmas.List.{length-map}
use Rattle.std.specs.Prelude.{slice_get}
use Rattle.std.proofs.lemmas.Option.{slice_get_within, slice_get_read}
use Rattle.felm_term.specs.CoreType.{CoreType}
use Rattle.felm_term.specs.declared.input.InputDecl.{InputDecl}
use Rattle.felm_graph.specs.declared.node.Node.{Node}
use Rattle.felm_graph.specs.declared.node.NodeKind.{NodeKind}
use Rattle.felm_graph.specs.declared.node.NodeKind.TheVariants as kind
use Rattle.felm_graph.specs.GraphValue.{GraphValue}
use Rattle.felm_graph.specs.Nodes.{is_source_kind, arguments_of_kind, is_source, arguments_of, types_of, AllBelow}
use Rattle.felm_graph.specs.Layout.{input_node, inputs_from, input_nodes}
use Rattle.felm_graph.specs.Graphs.{TakesValues, KindFits, FitsBehind, AllFitBehind, IsGraph}

-- ---- places in a list of two parts

-- the item with this number is in the first part, or so many behind it
abbrev pub IsInOne : List Node → List Node → ℕ → Node → Type 0
IsInOne xs ys k n = (slice_get xs k ≡ Some n) ⊎ ((j : ℕ) × (k ≡ length xs + j) × (slice_get ys j ≡ Some n))

in_one : (xs ys : List Node) (k : ℕ) (n : Node) → slice_get (xs ++ ys) k ≡ Some n → IsInOne xs ys k n
in_one [] ys k n h = inr (k, omega arith, h)
in_one (x ∷ xs) ys zero n h = inl h
in_one (x ∷ xs) ys (suc k) n h =
    elim (in_one xs ys k n h) [ inl e ↦ inl e | inr e ↦ inr (e.0, (let f = e.1 in omega arith), e.2) ]

-- ---- a node that fits

-- the node k of a graph fits behind those before it
pub fit_at : (before rest : List Node) (j : ℕ) (n : Node) → AllFitBehind before rest → slice_get rest j ≡ Some n → FitsBehind (before ++ take j rest) n
fit_at before [] j n h e = cc
fit_at before (x ∷ rest) zero n h e =
    let s : x ≡ n = cc in
    let b : before ≡ before ++ take zero (x ∷ rest) = sym (append-nil before) in
    subst (λ m. FitsBehind (before ++ take zero (x ∷ rest)) m) s (subst (λ b. FitsBehind b x) b h.0)
fit_at before (x ∷ rest) (suc j) n h e =
    subst (λ b. FitsBehind b n) (append_assoc before (x ∷ []) (take j rest)) (fit_at (before ++ x ∷ []) rest j n h.1 e)

taken_below : (types : List CoreType) (p : CoreType) (arguments : List ℕ) (r : CoreType) → TakesValues types p arguments r → AllBelow (length types) arguments
taken_below types p [] r h = tt
taken_below types p (a ∷ more) r h = (slice_get_within types a h.0 h.3, taken_below types h.1 more r h.4)

-- what a node reads
pub record Reads (n : ℕ) (k : NodeKind) : Type 0 where
  pub earlier : AllBelow n (arguments_of_kind k)
  pub some : is_source_kind k ≡ false → 1 ≤ length (arguments_of_kind k)

fitting_reads : (types : List CoreType) (k : NodeKind) (r : CoreType) → KindFits types k r → Reads (length types) k
fitting_reads types (kind.Input number) r h = absurd h
fitting_reads types (kind.Lift f arguments) r h = record { earlier = taken_below types h.0 arguments r h.2; some = λ s. h.3 }
fitting_reads types (kind.Foldp f base argument) r h = record { earlier = (slice_get_within types argument h.0 h.3, tt); some = λ s. omega arith }
fitting_reads types (kind.Async argument) r h = record { earlier = tt; some = λ s. cc }

input_reads : (number : ℕ) (inputs : List InputDecl) (k : ℕ) (n : Node) → slice_get (inputs_from number inputs) k ≡ Some n → (m : ℕ) → Reads m n.kind
input_reads number [] k n h m = cc
input_reads number (d ∷ inputs) zero n h m =
    let e : input_node number d ≡ n = cc in
    subst (λ (x : Node). Reads m x.kind) e (record { earlier = tt; some = λ s. cc })
input_reads number (d ∷ inputs) (suc k) n h m = input_reads (suc number) inputs k n h m

pub node_reads : (g : GraphValue) (k : ℕ) (n : Node) → IsGraph g → slice_get g.nodes k ≡ Some n → Reads k n.kind
node_reads g k n h e =
    let i = input_nodes g.inputs in
    let s : slice_get (i ++ h.rest) k ≡ Some n = subst (λ ns. slice_get ns k ≡ Some n) h.inputs_first e in
    elim (in_one i h.rest k n s) [
      | inl a ↦ input_reads 0 g.inputs k n a k
      | inr b ↦ behind i h.rest b.0 h.fit b.1 b.2
    ]
  where
    behind : (i rest : List Node) (j : ℕ) → AllFitBehind i rest → k ≡ length i + j → slice_get rest j ≡ Some n → Reads k n.kind
    behind i rest j f at s =
        let here = i ++ take j rest in
        let l : j ≤ length rest = omega (arith, slice_get_within rest j n s) in
        let m : length (types_of here) ≡ k = omega (arith, length-map here (λ (x : Node). x.ty), length-append i (take j rest), length-take-le j rest l, at) in
        subst (λ m. Reads m n.kind) m (fitting_reads (types_of here) n.kind n.ty (fit_at i rest j n f s).0)

-- ---- from the code

pub node_there : (nodes shown : List Node) (k : ℕ) (n : Node) → shown ≡ nodes → k < length nodes → n ≡ get_or shown k n → slice_get nodes k ≡ Some n
node_there nodes shown k n e l h = slice_get_read nodes (length nodes) k n refl l (subst (λ (ns : List Node). n ≡ get_or ns k n) e h)

pub answered : (g : GraphValue) (k : ℕ) (n : Node) (arguments : List ℕ) → IsGraph g → slice_get g.nodes k ≡ Some n → arguments ≡ arguments_of_kind n.kind
    → (arguments ≡ arguments_of g.nodes k) × AllBelow k arguments × (is_source g.nodes k ≡ false → 1 ≤ length arguments)
answered g k n arguments h at e =
    let reads = node_reads g k n h at in
    rw (e, at) (refl, reads.earlier, reads.some)
