-- Scripts, legal journals and turns have the types of their nodes.
use Rattle.std.proofs.Common.{◌≡◌, ℕ, suc, zero, ◌+◌, ◌<◌, ◌≤◌, ◌⊎◌, inl, inr, Bool, true, false, cond, ◌&&◌, Option, Some, None, List, [], ◌∷◌, length, map, take, refl, sym, ap, ◌∙◌, subst, arith}
use Rattle.std.specs.Prelude.{IsTrue}
use Rattle.std.specs.List.{slice_get, filter, list_all}
use Rattle.std.specs.Option.{option_map_or, option_and_then}
use Rattle.std.proofs.lemmas.Option.{none-some, same_Some, slice_get_within}
use Rattle.std.proofs.lemmas.Bool.{cases_eq, false≢true}
use Rattle.felm_term.specs.Inputs.{values_type}
use Rattle.felm_term.specs.Values.{value_of}
use Rattle.felm_term.specs.declared.value.Value.{Value}
use Rattle.felm_term.specs.declared.value.Value.TheVariants as value
use Rattle.felm_term.specs.declared.input.InputDecl.{InputDecl}
use Rattle.felm_term.specs.declared.input.InputTy.{InputTy}
use Rattle.felm_term.specs.declared.input.InputTy.TheVariants as input
use Rattle.felm_term.specs.declared.message.Message.{Message}
use Rattle.felm_term.specs.declared.event.Event.{Event}
use Rattle.felm_graph.specs.declared.node.Node.{Node}
use Rattle.felm_graph.specs.declared.node.NodeKind.{NodeKind}
use Rattle.felm_graph.specs.declared.node.NodeKind.TheVariants as kind
use Rattle.felm_graph.specs.GraphValue.{GraphValue}
use Rattle.felm_graph.specs.Graphs.{IsOfType, KindFits, IsGraph}
use Rattle.felm_graph.specs.Layout.{input_node, inputs_from, input_nodes}
use Rattle.felm_graph.specs.Nodes.{types_of, arguments_of_kind, arguments_of}
use Rattle.felm_meaning.specs.declared.job.Job.{Job}
use Rattle.felm_meaning.specs.Nodes.{is_input_kind, is_input, inner_of_kind, inner, job_of_kind, job_of}
use Rattle.felm_term.specs.Events.{has_type, fits, all_fit}
use Rattle.felm_meaning.specs.Meaning.{all_of, value_at, msg, val}
use Rattle.felm_meaning.specs.Journals.{inputs_in, entered, NamesInputs, IsLegal}
use Rattle.felm_meaning.specs.Types.{EventsFit, TurnFits}
use Rattle.felm_meaning.specs.Words.{IsChangeAfter}
use Rattle.felm_meaning.proofs.Graphs.{slice_get-take, node_fits, type_found}
use Rattle.felm_meaning.proofs.Rows.{slice_get-append_left, take_whole, msg-take}
use Rattle.felm_meaning.proofs.Legal.{source_is_one}
use Rattle.felm_meaning.proofs.Causes.{change_position}
use Rattle.felm_meaning.proofs.Types.{job_fits, values_typed}

-- ---- scripts

has_type_of : (t : InputTy) (v : Value) → has_type t v ≡ true → IsOfType (values_type t) v
has_type_of input.Int (value.Int n) h = (tt, refl)
has_type_of input.Int value.Unit h = absurd (false≢true h)
has_type_of input.Int (value.Fun f) h = absurd (false≢true h)
has_type_of input.Unit value.Unit h = (tt, refl)
has_type_of input.Unit (value.Int n) h = absurd (false≢true h)
has_type_of input.Unit (value.Fun f) h = absurd (false≢true h)

each_of : {X : Type 0} (p : X → Bool) (xs : List X) (i : ℕ) (x : X) → list_all p xs ≡ true → slice_get xs i ≡ Some x → p x ≡ true
each_of p [] i x h e = absurd (none-some x e)
each_of p (y ∷ ys) i x h e = go (p y) refl h i e (λ t i s. each_of p ys i x t s)
  where
    go : (c : Bool) → p y ≡ c → (c && list_all p ys) ≡ true → (i : ℕ) → slice_get (y ∷ ys) i ≡ Some x
        → (list_all p ys ≡ true → (i : ℕ) → slice_get ys i ≡ Some x → p x ≡ true) → p x ≡ true
    go false q t i s ih = absurd (false≢true t)
    go true q t zero s ih = subst (λ z. p z ≡ true) (same_Some y x s) q
    go true q t (suc i) s ih = ih t i s

fits_input : (inputs : List InputDecl) (e : Event) → fits inputs e ≡ true → (d : InputDecl) × (slice_get inputs e.source ≡ Some d) × (has_type d.ty e.value ≡ true)
fits_input inputs e h = go (slice_get inputs e.source) refl h
  where
    go : (o : Option InputDecl) → slice_get inputs e.source ≡ o → option_map_or (λ d. has_type d.ty e.value) o false ≡ true
        → (d : InputDecl) × (slice_get inputs e.source ≡ Some d) × (has_type d.ty e.value ≡ true)
    go None q t = absurd (false≢true t)
    go (Some d) q t = (d, q, t)

input_at : (inputs : List InputDecl) (number k z : ℕ) (d : InputDecl) → z ≡ number + k → slice_get inputs k ≡ Some d
    → slice_get (inputs_from number inputs) k ≡ Some (input_node z d)
input_at [] number k z d e h = absurd (none-some d h)
input_at (x ∷ more) number zero z d e h =
    let s : number ≡ z = omega arith in ap (λ y. Some (input_node number y)) (same_Some x d h) ∙ ap (λ n. Some (input_node n d)) s
input_at (x ∷ more) number (suc k) z d e h = input_at more (suc number) k z d (omega arith) h

-- the node of a declared input
pub input_there : (g : GraphValue) (k : ℕ) (d : InputDecl) → IsGraph g → slice_get g.inputs k ≡ Some d → slice_get g.nodes k ≡ Some (input_node k d)
input_there g k d h e =
    let n = input_at g.inputs 0 k k d (omega arith) e in
    ap (λ ns. slice_get ns k) h.inputs_first ∙
    (slice_get-append_left (input_nodes g.inputs) h.rest k (slice_get_within (input_nodes g.inputs) k (input_node k d) n) ∙ n)

pub script_fits : (g : GraphValue) (script : List Event) → IsGraph g → IsTrue (all_fit g.inputs script) → NamesInputs g.nodes script × EventsFit g script
script_fits g script h f = (names, typed)
  where
    there : (i : ℕ) (e : Event) → slice_get script i ≡ Some e
        → (d : InputDecl) × (slice_get g.nodes e.source ≡ Some (input_node e.source d)) × (has_type d.ty e.value ≡ true)
    there i e q = let d = fits_input g.inputs e (each_of (fits g.inputs) script i e f q) in (d.0, input_there g e.source d.0 h d.1, d.2)

    names : (i : ℕ) (e : Event) → slice_get script i ≡ Some e → is_input g.nodes e.source ≡ true
    names i e q = ap (λ (o : Option Node). option_map_or (λ n. is_input_kind n.kind) o false) (there i e q).1

    typed : EventsFit g script
    typed i e n q r =
        let d = there i e q in
        subst (λ (m : Node). IsOfType m.ty e.value) (same_Some (input_node e.source d.0) n (sym d.1 ∙ r)) (has_type_of d.0.ty e.value d.2)

-- ---- turns

module _ (g : GraphValue) (b : ℕ) (j : List Event) (graph : IsGraph g) (events : EventsFit g j) where
  message_typed : (k p : ℕ) (n : Node) (m : Message) → slice_get g.nodes k ≡ Some n → msg g b j k p ≡ Some m → IsOfType n.ty (value_of m)
  unfolding val
  message_typed k p n m q e = values_typed g b graph j events p k n (value_of m) q (ap value_at e)

  pub turn_fits : (k p : ℕ) (n : Node) (w : Job) (old : Value) (ms : List Message) → slice_get g.nodes k ≡ Some n → job_of g.nodes k ≡ Some w
      → val g b j k p ≡ Some old → all_of (map (λ a. msg g b j a (suc p)) (arguments_of g.nodes k)) ≡ Some ms → TurnFits w old ms
  turn_fits k p n w old ms q jb o m =
      let kept = values_typed g b graph j events p k n old q o in
      let job_here : job_of_kind n.kind ≡ Some w = sym (ap (λ (x : Option Node). option_and_then (λ y. job_of_kind y.kind) x) q) ∙ jb in
      let all_here : all_of (map (λ a. msg g b j a (suc p)) (arguments_of_kind n.kind)) ≡ Some ms =
      sym (ap (λ (x : Option Node). all_of (map (λ a. msg g b j a (suc p)) (option_map_or (λ y. arguments_of_kind y.kind) x []))) q) ∙ m in
      elim (node_fits g k n graph q) [
        | inl d ↦ absurd (none-some w (ap (λ (x : Node). job_of_kind x.kind) d.2 ∙ job_here))
        | inr f ↦ record {
          type = n.ty;
          simple = f.1;
          called = job_fits g.nodes k n.kind n.ty w old (λ a. msg g b j a (suc p)) ms f.0 job_here kept (λ a x y l r s. message_typed a (suc p) x y r s) all_here;
          kept = kept;
        }
      ]

-- ---- legal journals

kept_item : {X : Type 0} (p : X → Bool) (xs : List X) (i : ℕ) (x : X) → slice_get xs i ≡ Some x → p x ≡ true → (k : ℕ) × (slice_get (filter p xs) k ≡ Some x)
kept_item p [] i x h t = absurd (none-some x h)
kept_item p (y ∷ ys) zero x h t =
    let s : y ≡ x = same_Some y x h in
    (0, ap (λ (c : Bool). slice_get (cond c (y ∷ filter p ys) (filter p ys)) 0) (ap p s ∙ t) ∙ ap (λ z. Some z) s)
kept_item p (y ∷ ys) (suc i) x h t = go (p y) (kept_item p ys i x h t)
  where
    go : (c : Bool) → (k : ℕ) × (slice_get (filter p ys) k ≡ Some x) → (k : ℕ) × (slice_get (cond c (y ∷ filter p ys) (filter p ys)) k ≡ Some x)
    go true r = (suc r.0, r.1)
    go false r = r

take_item : {X : Type 0} (xs : List X) (n i : ℕ) (x : X) → i < n → slice_get xs i ≡ Some x → slice_get (take n xs) i ≡ Some x
take_item xs zero i x l h = absurd (omega arith)
take_item [] (suc n) i x l h = absurd (none-some x h)
take_item (y ∷ ys) (suc n) zero x l h = h
take_item (y ∷ ys) (suc n) (suc i) x l h = take_item ys n i x (omega arith) h

-- an async's values have its inner signal's type
async_type : (g : GraphValue) (k x : ℕ) (n : Node) → IsGraph g → slice_get g.nodes k ≡ Some n → inner g.nodes k ≡ Some x
    → (m : Node) × (slice_get g.nodes x ≡ Some m) × (m.ty ≡ n.ty)
async_type g k x n graph q h =
    let here : inner_of_kind n.kind ≡ Some x = sym (ap (λ (o : Option Node). option_and_then (λ y. inner_of_kind y.kind) o) q) ∙ h in
    elim (node_fits g k n graph q) [
      | inl d ↦ absurd (none-some x (ap (λ (y : Node). inner_of_kind y.kind) d.2 ∙ here))
      | inr f ↦ go n.kind f.0 here
    ]
  where
    go : (kd : NodeKind) → KindFits (types_of (take k g.nodes)) kd n.ty → inner_of_kind kd ≡ Some x → (m : Node) × (slice_get g.nodes x ≡ Some m) × (m.ty ≡ n.ty)
    go (kind.Input number) f e = absurd f
    go (kind.Lift fn arguments) f e = absurd (none-some x e)
    go (kind.Foldp fn base argument) f e = absurd (none-some x e)
    go (kind.Async argument) f e =
        let t = type_found g.nodes k argument n.ty f in
        (t.0, ap (slice_get g.nodes) (sym (same_Some argument x e)) ∙ t.2, t.3)

change_value : (g : GraphValue) (b : ℕ) (j : List Event) (x i q : ℕ) (v : Value) → IsChangeAfter g b j x i q v → val g b j x q ≡ Some v
unfolding val
change_value g b j x i zero v h = absurd h
change_value g b j x i (suc q) v h = ap value_at h.0

val-take : (g : GraphValue) (b : ℕ) (j : List Event) (k p q : ℕ) → p ≤ q → val g b j k p ≡ val g b (take q j) k p
unfolding val
val-take g b j k p q h = ap value_at (msg-take g b j k p q h)

module _ (g : GraphValue) (b : ℕ) (script j : List Event) (graph : IsGraph g) (typed : EventsFit g script) (legal : IsLegal g b script j) where
  -- an event fits where those before it do
  event_fits : (n : ℕ) (e : Event) (node : Node) → EventsFit g (take n j) → slice_get j n ≡ Some e → slice_get g.nodes e.source ≡ Some node
      → IsOfType node.ty e.value
  unfolding inputs_in
  event_fits n e node before h q = go (source_is_one g.nodes e.source (legal.sources n e h))
    where
      go : (is_input g.nodes e.source ≡ true) ⊎ ((x : ℕ) × (inner g.nodes e.source ≡ Some x)) → IsOfType node.ty e.value
      go (inl s) =
          let i = kept_item (λ (d : Event). is_input g.nodes d.source) j n e h s in
          let l = slice_get_within (inputs_in g j) i.0 e i.1 in
          typed i.0 e node (ap (λ xs. slice_get xs i.0) legal.scripted.1 ∙ (slice_get-append_left (inputs_in g j) legal.scripted.0 i.0 l ∙ i.1)) q
      go (inr s) =
          let c = legal.caused n e s.0 h s.1 in
          let p = change_position g b j s.0 (entered (take n j) e.source) n e.value c in
          let v = sym (val-take g b j s.0 p.0 n p.1) ∙ change_value g b j s.0 (entered (take n j) e.source) p.0 e.value p.2 in
          let t = async_type g e.source s.0 node graph q s.1 in
          subst (λ u. IsOfType u e.value) t.2 (values_typed g b graph (take n j) before p.0 s.0 t.0 e.value t.1 v)

  fronts_fit : (n : ℕ) → n ≤ length j → EventsFit g (take n j)
  fronts_fit zero l p e node h q = absurd (none-some e h)
  fronts_fit (suc n) l p e node h q =
      let i = slice_get-take j (suc n) p e h in
      go i.0 i.1 (cases_eq p n) (fronts_fit n (omega arith))
    where
      go : slice_get j p ≡ Some e → p < suc n → (p ≡ n) ⊎ (p ≡ n → ⊥) → EventsFit g (take n j) → IsOfType node.ty e.value
      go r w (inl s) ih = event_fits n e node ih (subst (λ m. slice_get j m ≡ Some e) s r) q
      go r w (inr s) ih = ih p e node (take_item j n p e (omega arith) r) q

  pub legal_fits : EventsFit g j
  legal_fits = subst (EventsFit g) (take_whole j) (fronts_fit (length j) (omega arith))
