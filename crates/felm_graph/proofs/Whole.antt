-- The layout of a whole pair.
use Rattle.std.proofs.Common.{◌≡◌, ℕ, zero, suc, ◌+◌, ◌<◌, ◌≤◌, List, [], ◌∷◌, ◌++◌, length, slice_index, drop, get_or, Option, Some, None, refl, sym, ap, ◌∙◌, subst, arith, length-append}
use Rattle.std.specs.Prelude.{slice_get}
use Rattle.std.proofs.Math.Seq.{drop-cons}
use Rattle.std.proofs.lemmas.List.{length-map}
use Rattle.std.proofs.lemmas.Option.{slice_get_within}
use Rattle.felm_term.specs.CoreType.{CoreType, Signal}
use Rattle.felm_term.specs.CoreTerm.{CoreTerm}
use Rattle.felm_term.specs.Typing.{HasType, AreSignals, SharedHaveTypes}
use Rattle.felm_term.specs.Inputs.{signal_types}
use Rattle.felm_term.specs.Reduction.{AreSharedSignals, IsFinished}
use Rattle.felm_term.specs.declared.input.InputDecl.{InputDecl}
use Rattle.felm_laws.proofs.Formed.{as_signal, declared_signals}
use Rattle.felm_laws.proofs.StepTypes.{signal_type}
use Rattle.felm_laws.proofs.SharedSignals.{shared_are_signals}
use Rattle.felm_graph.specs.declared.node.Node.{Node}
use Rattle.felm_graph.specs.FinishedPair.{IsTyped}
use Rattle.felm_graph.specs.Nodes.{types_of}
use Rattle.felm_graph.specs.Layout.{Part, lay, inputs_from, input_nodes, lay_shared, lay_pair, layout}
use Rattle.felm_graph.specs.Layable.{IsLayable}
use Rattle.felm_graph.specs.Graphs.{most_nodes, IsGraph}
use Rattle.felm_graph.specs.Frames.{IsLaid}
use Rattle.felm_graph.specs.Pairs.{AreLayableFrom, AreLaid, InOrder}
use Rattle.felm_graph.proofs.Replays.{lay_grows, shared_grows}
use Rattle.felm_graph.proofs.LayableTerms.{layable, one_more_signal, shared_layable}
use Rattle.felm_graph.proofs.Sound.{Adds, adds_none, adds_trans, adds_stay, Knows, knows_later, lay_sound}

pub at_next : {A : Type 0} (xs : List A) (i : ℕ) (x : A) → i < length xs → x ≡ get_or xs i x → drop i xs ≡ x ∷ drop (i + 1) xs
at_next {A} xs i x l e =
    let n : suc i ≡ i + 1 = omega arith in
    subst (λ k. drop i xs ≡ x ∷ drop k xs) n (drop-cons xs i x l ∙ ap (λ y. y ∷ drop (suc i) xs) (sym e))

-- ---- one shared signal more

module _ (start : List Node) (shared : List CoreTerm) (roots : List ℕ) (nodes : List Node) (rest left : List CoreTerm) (t : CoreTerm) (e : rest ≡ t ∷ left) where
  pub first_layable : InOrder start shared roots nodes rest → IsLayable (length roots) t
  first_layable h = (subst (AreLayableFrom (length roots)) e h.layable).0

  same_rest : InOrder start shared roots nodes rest → lay_shared roots nodes (t ∷ left) ≡ lay_shared [] start shared
  same_rest h = subst (λ r. lay_shared roots nodes r ≡ lay_shared [] start shared) e h.same

  pub one_laid : (after : List Node) (more : List ℕ) (root : ℕ) → IsLaid (lay roots nodes t) after (Some root) → more ≡ roots ++ root ∷ []
      → InOrder start shared roots nodes rest → InOrder start shared more after left
  one_laid after more root k m h =
      let l = (subst (AreLayableFrom (length roots)) e h.layable).1 in
      let n : suc (length roots) ≡ length (roots ++ root ∷ []) = omega (arith, length-append roots (root ∷ [])) in
      rw m (record {
        same = ap (λ (p : Part). lay_shared (roots ++ p.root ∷ []) p.nodes left) k.0 ∙ same_rest h;
        layable = subst (λ x. AreLayableFrom x left) n l;
        few = k.1;
      })

  pub too_many : (after : List Node) → IsLaid (lay roots nodes t) after None → InOrder start shared roots nodes rest
      → AreLaid start shared after None
  too_many after k h =
      let a = lay roots nodes t in
      let g = shared_grows (roots ++ a.root ∷ []) a.nodes left in
      rw (sym (same_rest h)) (omega (arith, k, g))

-- ---- what is known of the signals that shared signals may name

inputs_known : (number : ℕ) (inputs : List InputDecl) (n : ℕ) (q : CoreType) → slice_get (signal_types inputs) n ≡ Some (Signal q)
    → slice_get (types_of (inputs_from number inputs)) n ≡ Some q
inputs_known number [] n q h = cc
inputs_known number (d ∷ inputs) zero q h = cc
inputs_known number (d ∷ inputs) (suc n) q h = inputs_known (suc number) inputs n q h

one_more_known : (types shared : List CoreType) (roots : List ℕ) (t : CoreType) (root : ℕ) → length roots ≡ length shared
    → ((k : ℕ) (q : CoreType) → slice_get shared k ≡ Some (Signal q) → slice_get types (slice_index roots k) ≡ Some q)
    → slice_get types root ≡ Some t → (k : ℕ) (q : CoreType) → slice_get (shared ++ Signal t ∷ []) k ≡ Some (Signal q)
    → slice_get types (slice_index (roots ++ root ∷ []) k) ≡ Some q
one_more_known types [] [] t root l known at zero q h = at ∙ (let e : Some t ≡ Some q = cc in e)
one_more_known types [] [] t root l known at (suc k) q h = cc
one_more_known types [] (r ∷ roots) t root l known at k q h = absurd (omega arith)
one_more_known types (s ∷ shared) [] t root l known at k q h = absurd (omega arith)
one_more_known types (s ∷ shared) (r ∷ roots) t root l known at zero q h = known zero q h
one_more_known types (s ∷ shared) (r ∷ roots) t root l known at (suc k) q h =
    one_more_known types shared roots t root (omega arith) (λ n p e. known (suc n) p e) at k q h

-- shared signals add nodes that fit, and their roots have the values of their types
pub record AreSoundRoots (inputs after : List CoreType) (nodes : List Node) (later : List Node) (roots : List ℕ) : Type 0 where
  pub added : Adds nodes later
  pub known : Knows inputs after roots (types_of later)
  pub counted : length roots ≡ length after

shared_sound : (inputs : List CoreType) (wi : AreSignals inputs) (before : List CoreType) (B : List CoreTerm) (after : List CoreType) (roots : List ℕ) (nodes : List Node)
    → AreSignals before → Knows inputs before roots (types_of nodes) → length roots ≡ length before → AreSharedSignals B
    → SharedHaveTypes inputs before B after → AreSoundRoots inputs after nodes (lay_shared roots nodes B).nodes (lay_shared roots nodes B).roots
shared_sound inputs wi before [] after roots nodes wb k l w h =
    subst (λ ts. AreSoundRoots inputs ts nodes nodes roots) h (record { added = adds_none nodes; known = k; counted = l })
shared_sound inputs wi before (s ∷ B) after roots nodes wb k l w h =
    let a = lay roots nodes s in
    let first = lay_sound inputs before wi wb roots nodes s h.0 k w.0 h.1 in
    let there = knows_later inputs before roots (types_of nodes) (types_of a.nodes) (adds_stay nodes a.nodes first.0) k in
    let more : Knows inputs (before ++ Signal h.0 ∷ []) (roots ++ a.root ∷ []) (types_of a.nodes) = record {
      from_inputs = there.from_inputs;
      from_shared = one_more_known (types_of a.nodes) before roots h.0 a.root l there.from_shared first.1;
    } in
    let m : length (roots ++ a.root ∷ []) ≡ length (before ++ Signal h.0 ∷ []) = omega (arith, l, length-append roots (a.root ∷ []), length-append before (Signal h.0 ∷ [])) in
    let rest = shared_sound inputs wi (before ++ Signal h.0 ∷ []) B after (roots ++ a.root ∷ []) a.nodes (one_more_signal inputs before wi wb s h.0 w.0 h.1) more m w.1 h.2 in
    record {
      added = adds_trans nodes a.nodes (lay_shared (roots ++ a.root ∷ []) a.nodes B).nodes first.0 rest.added;
      known = rest.known;
      counted = rest.counted;
    }

-- ---- a typed finished pair

inputs_length : (number : ℕ) (inputs : List InputDecl) → length (inputs_from number inputs) ≡ length inputs
inputs_length number [] = refl
inputs_length number (d ∷ inputs) = omega (arith, inputs_length (suc number) inputs)

module _ (inputs : List InputDecl) (B : List CoreTerm) (e : CoreTerm) where
  -- more inputs than nodes may be
  pub too_many_inputs : most_nodes < length inputs → most_nodes < length (lay_pair inputs B e).nodes
  too_many_inputs h =
      let i = input_nodes inputs in
      let s = lay_shared [] i B in
      omega (arith, inputs_length 0 inputs, shared_grows [] i B, lay_grows s.roots s.nodes e, h)

  pub inputs_few : length inputs ≤ most_nodes → length (input_nodes inputs) ≤ most_nodes
  inputs_few h = omega (arith, inputs_length 0 inputs, h)

  pub too_many_shared : (nodes : List Node) → AreLaid (input_nodes inputs) B nodes None → most_nodes < length (lay_pair inputs B e).nodes
  too_many_shared nodes h =
      let s = lay_shared [] (input_nodes inputs) B in
      omega (arith, lay_grows s.roots s.nodes e, h)

  -- the last term behind the shared signals
  pub last_laid : (roots : List ℕ) (nodes after : List Node) (main : Option ℕ) → AreLaid (input_nodes inputs) B nodes (Some roots)
      → IsLaid (lay roots nodes e) after main → IsLaid (lay_pair inputs B e) after main
  last_laid roots nodes after main h k = rw (h.0, h.1) at k

  module _ (finished : IsFinished B e) (typed : IsTyped inputs B e) where
    wi : AreSignals (signal_types inputs)
    wi = declared_signals inputs

    shared_signals : AreSignals typed.1.0 × (length typed.1.0 ≡ length B)
    shared_signals = shared_are_signals (signal_types inputs) typed.1.0 B wi typed.1.1

    pub all_layable : AreLayableFrom 0 B
    all_layable = shared_layable (signal_types inputs) [] B typed.1.0 wi tt finished.0 typed.1.1

    roots_sound : AreSoundRoots (signal_types inputs) typed.1.0 (input_nodes inputs) (lay_shared [] (input_nodes inputs) B).nodes (lay_shared [] (input_nodes inputs) B).roots
    roots_sound =
        let start : Knows (signal_types inputs) [] [] (types_of (input_nodes inputs)) = record { from_inputs = inputs_known 0 inputs; from_shared = λ k q h. cc } in
        shared_sound (signal_types inputs) wi [] B typed.1.0 [] (input_nodes inputs) tt start refl finished.0 typed.1.1

    pub last_layable : (roots : List ℕ) (nodes : List Node) → AreLaid (input_nodes inputs) B nodes (Some roots) → IsLayable (length roots) e
    last_layable roots nodes h =
        let n : length typed.1.0 ≡ length roots = sym roots_sound.counted ∙ sym (ap length h.0) in
        subst (λ m. IsLayable m e) n (layable (signal_types inputs) typed.1.0 wi shared_signals.0 e typed.0 finished.2 typed.1.2)

    pub layout_graph : length (lay_pair inputs B e).nodes ≤ most_nodes → IsGraph (layout inputs B e)
    layout_graph few =
        let s = lay_shared [] (input_nodes inputs) B in
        let p = lay s.roots s.nodes e in
        let t = as_signal typed.0 (signal_type (signal_types inputs) typed.1.0 wi shared_signals.0 [] e typed.0 finished.2 typed.1.2) in
        let h = subst (λ u. HasType (signal_types inputs) typed.1.0 [] e u) t.1 typed.1.2 in
        let last = lay_sound (signal_types inputs) typed.1.0 wi shared_signals.0 s.roots s.nodes e t.0 roots_sound.known finished.2 h in
        let added = adds_trans (input_nodes inputs) s.nodes p.nodes roots_sound.added last.0 in
        let main : p.root < length (types_of p.nodes) = slice_get_within (types_of p.nodes) p.root t.0 last.1 in
        record {
          rest = added.0;
          inputs_first = added.1;
          fit = added.2;
          main_there = omega (arith, main, length-map p.nodes (λ (n : Node). n.ty));
          few = few;
        }

    -- the graph that is made of the parts
    pub graph_made : (nodes : List Node) (main : ℕ) (declared : List InputDecl) → IsLaid (lay_pair inputs B e) nodes (Some main) → declared ≡ inputs
        → IsGraph (record { nodes = nodes; inputs = declared; main = main }) × (record { nodes = nodes; inputs = declared; main = main } ≡ layout inputs B e)
    graph_made nodes main declared h k =
        let g : record { nodes = nodes; inputs = declared; main = main } ≡ layout inputs B e =
        λ i. record { nodes = (h.0 i).nodes; inputs = k i; main = (h.0 i).root }
        in
        let few = subst (λ (p : Part). length p.nodes ≤ most_nodes) h.0 h.1 in
        (subst IsGraph (sym g) (layout_graph few), g)
