-- What a graph's nodes read, and done counts after a move.
use Rattle.std.proofs.Common.{◌≡◌, ℕ, suc, zero, ◌+◌, ◌<◌, ◌≤◌, ◌⊎◌, inl, inr, Bool, true, false, cond, Option, Some, None, List, [], ◌∷◌, length, set, take, refl, sym, ap, ◌∙◌, subst, arith, add-zero}
use Rattle.std.specs.List.{slice_get}
use Rattle.std.specs.Option.{option_map_or}
use Rattle.std.proofs.lemmas.Option.{none-some, slice_get_within}
use Rattle.std.proofs.lemmas.Bool.{cases_eq, cases_lt, false≢true}
use Rattle.std.proofs.lemmas.List.{length-set, get_or-set_same, get_or-set_other, get_or_past}
use Rattle.felm_graph.specs.declared.node.Node.{Node}
use Rattle.felm_graph.specs.declared.node.NodeKind.{NodeKind}
use Rattle.felm_graph.specs.declared.node.NodeKind.TheVariants as kind
use Rattle.felm_graph.specs.GraphValue.{GraphValue}
use Rattle.felm_graph.specs.Graphs.{KindFits, IsGraph}
use Rattle.felm_graph.specs.Nodes.{is_source_kind, is_source, arguments_of_kind, types_of}
use Rattle.felm_meaning.proofs.Graphs.{node_fits}
use Rattle.felm_core.specs.Positions.{Reads, done_at, is_out}
use Rattle.felm_core.specs.Moves.{counted}

-- ---- readers

reading_kind : (k : NodeKind) (port a : ℕ) → slice_get (arguments_of_kind k) port ≡ Some a → is_source_kind k ≡ false
reading_kind (kind.Input number) port a h = absurd (none-some a h)
reading_kind (kind.Lift f arguments) port a h = refl
reading_kind (kind.Foldp f base argument) port a h = refl
reading_kind (kind.Async argument) port a h = absurd (none-some a h)

-- what reads is a node, and no source
pub reader_within : (nodes : List Node) (k port a : ℕ) → Reads nodes k port a → (k < length nodes) × (is_source nodes k ≡ false)
reader_within nodes k port a h = go (slice_get nodes k) refl h
  where
    go : (o : Option Node) → slice_get nodes k ≡ o → slice_get (option_map_or (λ n. arguments_of_kind n.kind) o []) port ≡ Some a
        → (k < length nodes) × (option_map_or (λ (n : Node). is_source_kind n.kind) (slice_get nodes k) false ≡ false)
    go None e r = absurd (none-some a r)
    go (Some n) e r = (
      slice_get_within nodes k n e,
      ap (λ (x : Option Node). option_map_or (λ y. is_source_kind y.kind) x false) e ∙ reading_kind n.kind port a r,
    )

first_argument : (types : List _) (k : NodeKind) (r : _) → KindFits types k r → is_source_kind k ≡ false → (a : ℕ) × (slice_get (arguments_of_kind k) 0 ≡ Some a)
first_argument types (kind.Input number) r f s = absurd f
first_argument types (kind.Lift fn []) r f s = let l : 1 ≤ length {A = ℕ} [] = f.3 in absurd (omega arith)
first_argument types (kind.Lift fn (a ∷ more)) r f s = (a, refl)
first_argument types (kind.Foldp fn base argument) r f s = (argument, refl)
first_argument types (kind.Async argument) r f s = absurd (false≢true (sym s))

-- a node that is no source reads some node
pub reads_some : (g : GraphValue) (k : ℕ) → IsGraph g → k < length g.nodes → is_source g.nodes k ≡ false → (a : ℕ) × Reads g.nodes k 0 a
reads_some g k graph l s = go (slice_get g.nodes k) refl s
  where
    go : (o : Option Node) → slice_get g.nodes k ≡ o → option_map_or (λ n. is_source_kind n.kind) o false ≡ false
        → (a : ℕ) × (slice_get (option_map_or (λ (n : Node). arguments_of_kind n.kind) (slice_get g.nodes k) []) 0 ≡ Some a)
    go None e q = absurd (past g.nodes k l e)
      where
        past : (xs : List Node) (i : ℕ) → i < length xs → slice_get xs i ≡ None → ⊥
        past [] i h n = omega arith
        past (x ∷ xs) zero h n = none-some x (sym n)
        past (x ∷ xs) (suc i) h n = past xs i (omega arith) n
    go (Some n) e q = elim (node_fits g k n graph e) [
      | inl d ↦ absurd (false≢true (sym q ∙ sym (ap (λ (y : Node). is_source_kind y.kind) d.2)))
      | inr f ↦
          let a = first_argument (types_of (take k g.nodes)) n.kind n.ty f.0 q in
          (a.0, ap (λ (x : Option Node). slice_get (option_map_or (λ y. arguments_of_kind y.kind) x []) 0) e ∙ a.1)
    ]

-- ---- flags

-- a flag that is set was set before, or is the one
pub flag_after : (out : List Bool) (k x : ℕ) → is_out (set out k true) x ≡ true → (k ≡ x) ⊎ (is_out out x ≡ true)
flag_after out k x h = go (cases_eq k x)
  where
    go : (k ≡ x) ⊎ (k ≡ x → ⊥) → (k ≡ x) ⊎ (is_out out x ≡ true)
    go (inl e) = inl e
    go (inr n) = inr (sym (get_or-set_other out k x true false (λ e. n (sym e))) ∙ h)

pub flag_cleared : (out : List Bool) (k x : ℕ) → is_out (set out k false) x ≡ true → (k ≡ x → ⊥) × (is_out out x ≡ true)
flag_cleared out k x h = go (cases_eq k x) (cases_lt k (length out))
  where
    go : (k ≡ x) ⊎ (k ≡ x → ⊥) → (k < length out) ⊎ (length out ≤ k) → (k ≡ x → ⊥) × (is_out out x ≡ true)
    go (inl e) (inl l) = absurd (false≢true (sym (get_or-set_same out k false false l) ∙ subst (λ (y : ℕ). is_out (set out k false) y ≡ true) (sym e) h))
    go (inl e) (inr l) =
        let m : length (set out k false) ≤ x = omega (arith, length-set out k false) in
        absurd (false≢true (sym (get_or_past (set out k false) x false m) ∙ h))
    go (inr n) c = (n, sym (get_or-set_other out k x false false (λ e. n (sym e))) ∙ h)

-- ---- done counts after a node's turn

pub data Rises (done after : List ℕ) (k x : ℕ) : Type 0 where
  here : k ≡ x → done_at after x ≡ suc (done_at done x) → Rises done after k x
  there : (k ≡ x → ⊥) → done_at after x ≡ done_at done x → Rises done after k x

pub rises_at : (done : List ℕ) (k x : ℕ) → k < length done → Rises done (set done k (suc (done_at done k))) k x
rises_at done k x l = go (cases_eq k x)
  where
    go : (k ≡ x) ⊎ (k ≡ x → ⊥) → Rises done (set done k (suc (done_at done k))) k x
    go (inl e) = here e (subst (λ (y : ℕ). done_at (set done k (suc (done_at done k))) y ≡ suc (done_at done y)) e (get_or-set_same done k _ 0 l))
    go (inr n) = there n (get_or-set_other done k x _ 0 (λ e. n (sym e)))

pub rises : (done after : List ℕ) (k x : ℕ) → Rises done after k x → (done_at done x ≤ done_at after x) × (done_at after x ≤ suc (done_at done x))
rises done after k x (here e h) = (omega arith, omega arith)
rises done after k x (there n h) = (omega arith, omega arith)

-- ---- done counts after an event

pub length-counted : (nodes : List Node) (k : ℕ) (done : List ℕ) → length (counted nodes k done) ≡ length done
length-counted nodes k [] = refl
length-counted nodes k (d ∷ more) = ap suc (length-counted nodes (suc k) more)

counted_at : (nodes : List Node) (k : ℕ) (done : List ℕ) (x : ℕ) → x < length done
    → done_at (counted nodes k done) x ≡ cond (is_source nodes (k + x)) (suc (done_at done x)) (done_at done x)
counted_at nodes k [] x h = absurd (omega arith)
counted_at nodes k (d ∷ more) zero h = rw (add-zero) refl
counted_at nodes k (d ∷ more) (suc x) h =
    let e : suc k + x ≡ k + suc x = omega arith in
    counted_at nodes (suc k) more x (omega arith) ∙ ap (λ (n : ℕ). cond (is_source nodes n) (suc (done_at more x)) (done_at more x)) e

pub counted-source : (nodes : List Node) (done : List ℕ) (x : ℕ) → x < length done → is_source nodes x ≡ true → done_at (counted nodes 0 done) x ≡ suc (done_at done x)
counted-source nodes done x h s =
    let e : 0 + x ≡ x = omega arith in
    counted_at nodes 0 done x h ∙ (ap (λ (n : ℕ). cond (is_source nodes n) (suc (done_at done x)) (done_at done x)) e ∙
    ap (λ (t : Bool). cond t (suc (done_at done x)) (done_at done x)) s)

pub counted-other : (nodes : List Node) (done : List ℕ) (x : ℕ) → x < length done → is_source nodes x ≡ false → done_at (counted nodes 0 done) x ≡ done_at done x
counted-other nodes done x h s =
    let e : 0 + x ≡ x = omega arith in
    counted_at nodes 0 done x h ∙ (ap (λ (n : ℕ). cond (is_source nodes n) (suc (done_at done x)) (done_at done x)) e ∙
    ap (λ (t : Bool). cond t (suc (done_at done x)) (done_at done x)) s)

-- no count falls
pub counted-more : (nodes : List Node) (done : List ℕ) (x : ℕ) → done_at done x ≤ done_at (counted nodes 0 done) x
counted-more nodes done x = go (cases_lt x (length done))
  where
    by : x < length done → (t : Bool) → is_source nodes x ≡ t → done_at done x ≤ done_at (counted nodes 0 done) x
    by l true s = let q : done_at (counted nodes 0 done) x ≡ suc (done_at done x) = counted-source nodes done x l s in omega arith
    by l false s = let q : done_at (counted nodes 0 done) x ≡ done_at done x = counted-other nodes done x l s in omega arith

    go : (x < length done) ⊎ (length done ≤ x) → done_at done x ≤ done_at (counted nodes 0 done) x
    go (inl l) = by l (is_source nodes x) refl
    go (inr l) = let q : done_at done x ≡ 0 = get_or_past done x 0 l in omega arith
