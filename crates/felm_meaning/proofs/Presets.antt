-- Defaults, from a list of those of the nodes before.
use Rattle.std.proofs.Common.{◌≡◌, ℕ, suc, zero, ◌+◌, ◌<◌, ◌≤◌, inl, inr, Option, Some, None, List, [], ◌∷◌, ◌++◌, length, map, take, All, get_or, refl, sym, ap, ◌∙◌, subst, arith}
use Rattle.std.specs.List.{slice_get}
use Rattle.std.specs.Option.{option_and_then}
use Rattle.std.proofs.lemmas.Option.{slice_get-get_or}
use Rattle.std.proofs.lemmas.List.{length-map, map-append, map-id}
use Rattle.felm_term.specs.CoreType.{CoreType, is_simple}
use Rattle.std.specs.Prelude.{IsTrue}
use Rattle.felm_term.specs.declared.value.Value.{Value}
use Rattle.felm_term.specs.declared.value.Value.TheVariants as value
use Rattle.felm_term.specs.declared.input.InputDecl.{InputDecl}
use Rattle.felm_graph.specs.declared.node.Node.{Node}
use Rattle.felm_graph.specs.declared.node.NodeKind.{NodeKind}
use Rattle.felm_graph.specs.declared.node.NodeKind.TheVariants as kind
use Rattle.felm_graph.specs.GraphValue.{GraphValue}
use Rattle.felm_graph.specs.Graphs.{TakesValues, KindFits, IsGraph}
use Rattle.felm_graph.specs.Nodes.{types_of}
use Rattle.felm_meaning.specs.Step.{call_value}
use Rattle.felm_meaning.specs.Meaning.{all_of, at, default_by, defaults_to, val, IsThere}
use Rattle.felm_meaning.specs.Values.{values_at}
use Rattle.felm_meaning.specs.Types.{Takes}
use Rattle.felm_meaning.specs.Presets.{IsLiftable}
use Rattle.felm_meaning.proofs.Graphs.{node_fits, type_found}
use Rattle.felm_meaning.proofs.Rows.{item_within, defaults_to-upto, defaults_to-last, length-defaults_to}
use Rattle.felm_meaning.proofs.Recursion.{default_by-same, val-zero}
use Rattle.felm_meaning.proofs.Types.{PartsFit, taken_typed, defaults_typed}

-- ---- lists

at-some : (vs : List Value) (k : ℕ) → at (map (λ v. Some v) vs) k ≡ slice_get vs k
at-some [] k = refl
at-some (v ∷ vs) zero = refl
at-some (v ∷ vs) (suc k) = at-some vs k

-- the values at places within a list
chosen : (vs : List Value) (places : List ℕ) → All (λ place. place < length vs) places → all_of (map (slice_get vs) places) ≡ Some (values_at vs places)
chosen vs [] h = refl
chosen vs (place ∷ more) h =
    let first : slice_get vs place ≡ Some (get_or vs place value.Unit) = slice_get-get_or vs place value.Unit (h 0 0 (omega arith)) in
    let rest : all_of (map (slice_get vs) more) ≡ Some (values_at vs more) = chosen vs more (λ k d l. h (suc k) d (omega arith)) in
    rw (first, rest) refl

-- the default of a lift
pub lift_default : (inputs : List InputDecl) (b : ℕ) (vs : List Value) (kd : NodeKind) (f : Value) (arguments places : List ℕ) → kd ≡ kind.Lift f arguments
    → places ≡ arguments → IsLiftable vs kd → call_value f (values_at vs places) b ≡ default_by inputs b (slice_get vs) kd
lift_default inputs b vs kd f arguments places e p h =
    let l : IsLiftable vs (kind.Lift f arguments) = subst (IsLiftable vs) e h in
    ap (λ (ps : List ℕ). call_value f (values_at vs ps) b) p ∙
    (sym (ap (λ (o : Option (List Value)). option_and_then (λ values. call_value f values b) o) (chosen vs arguments l.0)) ∙
    ap (default_by inputs b (slice_get vs)) (sym e))

-- ---- after the nodes whose defaults are known

taken_all : (nodes : List Node) (k : ℕ) (p : CoreType) (arguments : List ℕ) (r : CoreType) → TakesValues (types_of (take k nodes)) p arguments r
    → (j d : ℕ) → j < length arguments → get_or arguments j d < k
taken_all nodes k p [] r h j d l = absurd (omega arith)
taken_all nodes k p (a ∷ more) r h zero d l = (type_found nodes k a h.0 h.3).1
taken_all nodes k p (a ∷ more) r h (suc j) d l = taken_all nodes k h.1 more r h.4 j d (omega arith)

module _ (g : GraphValue) (b : ℕ) (vs : List Value) (i : ℕ) (known : map (λ v. Some v) vs ≡ defaults_to g b i) where
  pub length_known : length vs ≡ i
  length_known = sym (length-map vs (λ v. Some v)) ∙ (ap length known ∙ length-defaults_to g b i)

  pub default_known : (a : ℕ) → a < i → i ≤ length g.nodes → val g b [] a 0 ≡ slice_get vs a
  default_known a l h =
      let w : a < length g.nodes = omega arith in
      val-zero g b [] a ∙
      (defaults_to-upto g b (length g.nodes) a w ∙
      (sym (defaults_to-upto g b i a l) ∙ (ap (λ (ds : List (Option Value)). at ds a) (sym known) ∙ at-some vs a)))

  default_next : (n : Node) → slice_get g.nodes i ≡ Some n → at (defaults_to g b (suc i)) i ≡ default_by g.inputs b (slice_get vs) n.kind
  default_next n q =
      defaults_to-last g b i ∙
      (ap (λ (o : Option Node). option_and_then (λ m. default_by g.inputs b (at (defaults_to g b i)) m.kind) o) q ∙
      (ap (λ (ds : List (Option Value)). default_by g.inputs b (at ds) n.kind) (sym known) ∙
      default_by-same g.inputs b (at (map (λ v. Some v) vs)) (slice_get vs) n.kind (λ port a e. at-some vs a) (λ a e. at-some vs a)))

  -- one more
  pub known_more : (n : Node) (v : Value) (new : List Value) → slice_get g.nodes i ≡ Some n → Some v ≡ default_by g.inputs b (slice_get vs) n.kind
      → new ≡ vs ++ v ∷ [] → map (λ v. Some v) new ≡ defaults_to g b (i + 1)
  unfolding defaults_to
  known_more n v new q h e =
      let s : i + 1 ≡ suc i = omega arith in
      let d = ap (λ (o : Option Node). option_and_then (λ m. default_by g.inputs b (at (defaults_to g b i)) m.kind) o) q ∙
      (ap (λ (ds : List (Option Value)). default_by g.inputs b (at ds) n.kind) (sym known) ∙
      default_by-same g.inputs b (at (map (λ v. Some v) vs)) (slice_get vs) n.kind (λ port a e. at-some vs a) (λ a e. at-some vs a)) in
      ap (map (λ v. Some v)) e ∙
      (map-append (λ v. Some v) vs (v ∷ []) ∙
      (ap (λ (ds : List (Option Value)). ds ++ Some v ∷ []) known ∙
      (ap (λ (o : Option Value). defaults_to g b i ++ o ∷ []) (h ∙ sym d) ∙ ap (defaults_to g b) (sym s))))

  -- none: then the node is the least without a default
  pub none_here : (n : Node) → i < length g.nodes → slice_get g.nodes i ≡ Some n → None ≡ default_by g.inputs b (slice_get vs) n.kind
      → (i < length g.nodes) × (val g b [] i 0 ≡ None) × ((k : ℕ) → k < i → IsThere (val g b [] k 0))
  none_here n l q h = (
    l,
    val-zero g b [] i ∙ (defaults_to-upto g b (length g.nodes) i l ∙ (default_next n q ∙ sym h)),
    λ k w. let v = item_within vs k (omega (arith, length_known)) in (v.0, default_known k w (omega arith) ∙ v.1),
  )

  -- all
  pub all_known : length g.nodes ≤ i → i ≤ length g.nodes
      → (length vs ≡ length g.nodes) × ((k : ℕ) → k < length g.nodes → val g b [] k 0 ≡ slice_get vs k)
  all_known l h = (omega (arith, length_known), λ k w. default_known k (omega arith) h)

  -- the next node's function may be called
  pub next_liftable : (n : Node) → IsGraph g → i < length g.nodes → slice_get g.nodes i ≡ Some n → IsLiftable vs n.kind
  next_liftable n graph l q =
      elim (node_fits g i n graph q) [
        | inl d ↦ subst (λ (m : Node). IsLiftable vs m.kind) d.2 tt
        | inr f ↦ go n.kind n.ty f.0 f.1
      ]
    where
      fit : PartsFit g.nodes i (slice_get vs) (λ x. x)
      fit a m v w r e =
          defaults_typed g b graph (suc a) a m v (omega arith) r
          (let u : a < length g.nodes = omega arith in
          sym (val-zero g b [] a) ∙ (default_known a w (omega arith) ∙ e))

      go : (kd : NodeKind) (r : CoreType) → KindFits (types_of (take i g.nodes)) kd r → IsTrue (is_simple r) → IsLiftable vs kd
      go (kind.Input number) r h s = tt
      go (kind.Foldp fn base argument) r h s = tt
      go (kind.Async argument) r h s = tt
      go (kind.Lift fn arguments) r h s =
          let below : All (λ a. a < length vs) arguments = subst (λ m. All (λ a. a < m) arguments) (sym length_known) (taken_all g.nodes i h.0 arguments r h.2) in
          let t : Takes h.0 (map (λ (x : Value). x) (values_at vs arguments)) r =
          taken_typed g.nodes i (slice_get vs) (λ (x : Value). x) h.0 arguments r (values_at vs arguments) fit h.2 (chosen vs arguments below) in
          (below, (r, s, (h.0, h.1, subst (λ (ys : List Value). Takes h.0 ys r) (map-id (values_at vs arguments)) t)))
