-- The meaning keeps types.
use Rattle.std.proofs.Common.{◌≡◌, ℕ, suc, zero, ◌<◌, ◌≤◌, ◌⊎◌, inl, inr, Bool, true, false, cond, Option, Some, None, List, [], ◌∷◌, length, map, take, refl, sym, ap, ◌∙◌, subst, arith}
use Rattle.std.specs.List.{slice_get, list_any}
use Rattle.std.specs.Option.{option_map, option_map_or, option_and_then}
use Rattle.std.proofs.lemmas.Grind.{common_steps}
use Rattle.std.proofs.lemmas.Option.{none-some, same_Some, slice_get_within}
use Rattle.std.proofs.lemmas.Bool.{cases_eq}
use Rattle.std.proofs.lemmas.List.{map-id}
use Rattle.felm_term.specs.CoreType.{CoreType, Arrow}
use Rattle.felm_term.specs.CoreTerm.{CoreTerm, CoreTerms, Int, Var, Lam, App, Bin, If, Let, Input, Node as Name, Lift, Foldp, Async}
use Rattle.felm_term.specs.CoreTerm as term
use Rattle.felm_term.specs.Typing.{HasType}
use Rattle.felm_term.specs.Reduction.{IsValue}
use Rattle.felm_term.specs.Call.{applied, CallGives}
use Rattle.felm_term.specs.Inputs.{values_type}
use Rattle.felm_term.specs.Values.{term_of, value_of}
use Rattle.felm_term.specs.declared.value.Value.{Value}
use Rattle.felm_term.specs.declared.input.InputDecl.{InputDecl}
use Rattle.felm_term.specs.declared.input.InputTy.{InputTy}
use Rattle.felm_term.specs.declared.input.InputTy.TheVariants as input
use Rattle.felm_term.specs.declared.message.Message.{Message}
use Rattle.felm_term.specs.declared.message.Message.TheVariants.{Change, NoChange}
use Rattle.felm_term.specs.declared.event.Event.{Event}
use Rattle.felm_laws.specs.Calls.{call}
use Rattle.felm_laws.proofs.CallLaws.{call_gives}
use Rattle.felm_laws.proofs.Budgets.{value_typed}
use Rattle.felm_graph.specs.declared.node.Node.{Node}
use Rattle.felm_graph.specs.declared.node.NodeKind.{NodeKind}
use Rattle.felm_graph.specs.declared.node.NodeKind.TheVariants as kind
use Rattle.felm_graph.specs.GraphValue.{GraphValue}
use Rattle.felm_graph.specs.Graphs.{IsOfType, TakesValues, KindFits, FitsBehind, IsGraph}
use Rattle.felm_graph.specs.Layout.{value_in}
use Rattle.felm_graph.specs.Nodes.{types_of, is_source, arguments_of_kind, arguments_of}
use Rattle.felm_meaning.specs.declared.job.Job.{Job}
use Rattle.felm_meaning.specs.declared.job.Job.TheVariants as job
use Rattle.felm_meaning.specs.Nodes.{job_of_kind, job_of}
use Rattle.felm_meaning.specs.Step.{is_change, call_value, change_of, foldp_step, step}
use Rattle.felm_meaning.specs.Meaning.{all_of, at, default_of_type, declared_value, default_by, defaults_to, no_change_of, value_at, source_message, turn_message, msg, val}
use Rattle.felm_meaning.specs.Types.{EventsFit, Takes, CallFits, JobFits}
use Rattle.felm_meaning.proofs.Graphs.{IsDeclared, ordered, node_fits, type_found}
use Rattle.felm_meaning.proofs.Rows.{item_within, msg-source, msg-inner, there_within}
use Rattle.felm_meaning.proofs.Recursion.{defaults-node, val-zero}

-- ---- calls

pub term_of-value_in : (t : CoreTerm) → IsValue t → term_of (value_in t) ≡ t
term_of-value_in term.Unit h = refl
term_of-value_in (Int n) h = refl
term_of-value_in (Lam p b) h = refl
term_of-value_in (Var n) h = absurd h
term_of-value_in (App f a) h = absurd h
term_of-value_in (Bin o a b) h = absurd h
term_of-value_in (If c a b) h = absurd h
term_of-value_in (Let a b) h = absurd h
term_of-value_in (Input n) h = absurd h
term_of-value_in (Name n) h = absurd h
term_of-value_in (Lift f ts) h = absurd h
term_of-value_in (Foldp f b s) h = absurd h
term_of-value_in (Async s) h = absurd h

applied_typed : (f : CoreTerm) (p : CoreType) (values : List Value) (r : CoreType) → HasType [] [] [] f p → Takes p values r
    → HasType [] [] [] (applied f (map term_of values)) r
applied_typed f p [] r h t = subst (λ u. HasType [] [] [] f u) t h
applied_typed f p (v ∷ more) r h t =
    applied_typed (App f (term_of v)) t.1 more r (t.0, subst (λ u. HasType [] [] [] f u) t.2 h, t.3.1) t.4

-- the application of a call has the type of what the call gives
pub call_has_type : (f : Value) (values : List Value) (r : CoreType) → CallFits f values r → HasType [] [] [] (applied (term_of f) (map term_of values)) r
call_has_type f values r h = applied_typed (term_of f) h.0 values r h.1.1 h.2

-- what a call gives has the type that its function gives
pub call_typed : (f : Value) (values : List Value) (b : ℕ) (r : CoreType) (v : Value) → CallFits f values r → call_value f values b ≡ Some v → IsOfType r v
unfolding call_value
call_typed f values b r v h e = go (call (term_of f) (map term_of values) b) (call_gives (term_of f) (map term_of values) b) e
  where
    go : (o : Option CoreTerm) → CallGives (term_of f) (map term_of values) b o → option_map value_in o ≡ Some v → IsOfType r v
    go None g q = absurd (none-some v q)
    go (Some t) g q =
        let s : value_in t ≡ v = same_Some (value_in t) v q in
        let same : t ≡ term_of v = sym (term_of-value_in t g.2.0) ∙ ap term_of s in
        subst (λ (u : CoreTerm). IsValue u × HasType [] [] [] u r) same
        (g.2.0, value_typed (applied (term_of f) (map term_of values)) r g.0 t (call_has_type f values r h) g.2)

change_typed : (f : Value) (values : List Value) (b : ℕ) (r : CoreType) (m : Message) → CallFits f values r → change_of (call_value f values b) ≡ Some m
    → IsOfType r (value_of m)
change_typed f values b r m h e = go (call_value f values b) refl e
  where
    go : (o : Option Value) → call_value f values b ≡ o → change_of o ≡ Some m → IsOfType r (value_of m)
    go None q t = absurd (none-some m t)
    go (Some v) q t =
        subst (λ (x : Message). IsOfType r (value_of x)) (same_Some (Change v) m t) (call_typed f values b r v h q)

kept_typed : (r : CoreType) (old : Value) (m : Message) → IsOfType r old → Some (NoChange old) ≡ Some m → IsOfType r (value_of m)
kept_typed r old m h e = subst (λ (x : Message). IsOfType r (value_of x)) (same_Some (NoChange old) m e) h

foldp_typed : (f old : Value) (ms : List Message) (m : Message) (b : ℕ) (r : CoreType) (x : Message) → ms ≡ m ∷ [] → CallFits f (value_of m ∷ old ∷ []) r
    → IsOfType r old → foldp_step f old ms b ≡ Some x → IsOfType r (value_of x)
foldp_typed f old ms (Change v) b r x e c o h =
    change_typed f (v ∷ old ∷ []) b r x c (sym (ap (λ (y : List Message). foldp_step f old y b) e) ∙ h)
foldp_typed f old ms (NoChange v) b r x e c o h =
    kept_typed r old x o (sym (ap (λ (y : List Message). foldp_step f old y b) e) ∙ h)

-- what a node sends has the type of its previous value
pub step_typed : (w : Job) (old : Value) (ms : List Message) (b : ℕ) (r : CoreType) (m : Message) → JobFits w old ms r → IsOfType r old
    → step w old ms b ≡ Some m → IsOfType r (value_of m)
unfolding step
step_typed (job.Lift f) old ms b r m h o e = go (list_any is_change ms) e
  where
    go : (c : Bool) → cond c (change_of (call_value f (map value_of ms) b)) (Some (NoChange old)) ≡ Some m → IsOfType r (value_of m)
    go true q = change_typed f (map value_of ms) b r m h q
    go false q = kept_typed r old m o q
step_typed (job.Foldp f) old ms b r m h o e = foldp_typed f old ms h.0 b r m h.1 h.2 o e

-- ---- arguments

-- all parts are there where the whole is
all_of-first : {X : Type 0} (o : Option X) (more : List (Option X)) (xs : List X) → all_of (o ∷ more) ≡ Some xs
    → (x : X) × (rest : List X) × (o ≡ Some x) × (all_of more ≡ Some rest) × (x ∷ rest ≡ xs)
all_of-first None more xs h = absurd (none-some xs h)
all_of-first {X} (Some x) more xs h = go (all_of more) refl h
  where
    go : (r : Option (List X)) → all_of more ≡ r → option_map (λ rest. x ∷ rest) r ≡ Some xs
        → (y : X) × (rest : List X) × (Some x ≡ Some y) × (all_of more ≡ Some rest) × (y ∷ rest ≡ xs)
    go None q e = absurd (none-some xs e)
    go (Some rest) q e = (x, rest, refl, q, same_Some (x ∷ rest) xs e)

-- each part that a node before k has is of that node's type
abbrev pub PartsFit : {X : Type 0} → List Node → ℕ → (ℕ → Option X) → (X → Value) → Type 0
PartsFit {X} nodes k part value = (a : ℕ) (n : Node) (x : X) → a < k → slice_get nodes a ≡ Some n → part a ≡ Some x → IsOfType n.ty (value x)

pub taken_typed : {X : Type 0} (nodes : List Node) (k : ℕ) (part : ℕ → Option X) (value : X → Value) (p : CoreType) (arguments : List ℕ) (r : CoreType) (xs : List X)
    → PartsFit nodes k part value → TakesValues (types_of (take k nodes)) p arguments r → all_of (map part arguments) ≡ Some xs → Takes p (map value xs) r
taken_typed nodes k part value p [] r xs fit t e = subst (λ (ys : List _). Takes p (map value ys) r) (same_Some [] xs e) t
taken_typed nodes k part value p (a ∷ more) r xs fit t e =
    let s = all_of-first (part a) (map part more) xs e in
    let n = type_found nodes k a t.0 t.3 in
    let v : IsOfType t.0 (value s.0) = subst (λ (u : CoreType). IsOfType u (value s.0)) n.3 (fit a n.0 s.0 n.1 n.2 s.2) in
    subst (λ (ys : List _). Takes p (map value ys) r) s.4
    (t.0, t.1, t.2, v, taken_typed nodes k part value t.1 more r s.1 fit t.4 s.3)

-- ---- turns

-- the job of a node fits its arguments' messages
pub job_fits : (nodes : List Node) (k : ℕ) (kd : NodeKind) (r : CoreType) (w : Job) (old : Value) (part : ℕ → Option Message) (ms : List Message)
    → KindFits (types_of (take k nodes)) kd r → job_of_kind kd ≡ Some w → IsOfType r old → PartsFit nodes k part value_of
    → all_of (map part (arguments_of_kind kd)) ≡ Some ms → JobFits w old ms r
job_fits nodes k (kind.Input number) r w old part ms h j o fit e = absurd h
job_fits nodes k (kind.Async argument) r w old part ms h j o fit e = absurd (none-some w j)
job_fits nodes k (kind.Lift f arguments) r w old part ms h j o fit e =
    subst (λ (x : Job). JobFits x old ms r) (same_Some (job.Lift f) w j)
    (h.0, h.1, taken_typed nodes k part value_of h.0 arguments r ms fit h.2 e)
job_fits nodes k (kind.Foldp f base argument) r w old part ms h j o fit e =
    let s = all_of-first (part argument) [] ms e in
    let n = type_found nodes k argument h.0 h.3 in
    let v : IsOfType h.0 (value_of s.0) = subst (λ (u : CoreType). IsOfType u (value_of s.0)) n.3 (fit argument n.0 s.0 n.1 n.2 s.2) in
    let none : [] ≡ s.1 = same_Some [] s.1 s.3 in
    subst (λ (x : Job). JobFits x old ms r) (same_Some (job.Foldp f) w j)
    (s.0, sym s.4 ∙ ap (λ (ys : List Message). s.0 ∷ ys) (sym none), (Arrow h.0 (Arrow r r), h.1, (h.0, Arrow r r, refl, v, (r, r, refl, o, refl))))

-- ---- the meaning

default_typed : (g : GraphValue) (b : ℕ) (k : ℕ) (n : Node) (part : ℕ → Option Value) (v : Value) → IsDeclared g.inputs k n ⊎ FitsBehind (take k g.nodes) n
    → PartsFit g.nodes k part (λ x. x) → default_by g.inputs b part n.kind ≡ Some v → IsOfType n.ty v
default_typed g b k n part v (inl d) fit e =
    let q : default_by g.inputs b part (kind.Input k) ≡ Some v = subst (λ (m : Node). default_by g.inputs b part m.kind ≡ Some v) (sym d.2) e in
    let s : declared_value d.0 ≡ v = same_Some (declared_value d.0) v (sym (ap (λ (o : Option InputDecl). option_map declared_value o) d.1) ∙ q) in
    subst (λ (m : Node). IsOfType m.ty v) d.2 (subst (λ (x : Value). IsOfType (values_type d.0.ty) x) s (declared_typed d.0.ty d.0.default))
  where
    declared_typed : (t : InputTy) (z : _) → IsOfType (values_type t) (default_of_type t z)
    declared_typed input.Int z = (tt, refl)
    declared_typed input.Unit z = (tt, refl)
default_typed g b k n part v (inr f) fit e = go n.kind f.0 e
  where
    go : (kd : NodeKind) → KindFits (types_of (take k g.nodes)) kd n.ty → default_by g.inputs b part kd ≡ Some v → IsOfType n.ty v
    go (kind.Input number) h q = absurd h
    go (kind.Foldp fn base argument) h q = subst (λ (x : Value). IsOfType n.ty x) (same_Some base v q) h.2
    go (kind.Async argument) h q =
        let m = type_found g.nodes k argument n.ty h in
        subst (λ (u : CoreType). IsOfType u v) m.3 (fit argument m.0 v m.1 m.2 q)
    go (kind.Lift fn arguments) h q = called (all_of (map part arguments)) refl q
      where
        called : (o : Option (List Value)) → all_of (map part arguments) ≡ o → option_and_then (λ values. call_value fn values b) o ≡ Some v → IsOfType n.ty v
        called None p c = absurd (none-some v c)
        called (Some values) p c =
            let t : Takes h.0 (map (λ (x : Value). x) values) n.ty = taken_typed g.nodes k part (λ (x : Value). x) h.0 arguments n.ty values fit h.2 p in
            call_typed fn values b n.ty v (h.0, h.1, subst (λ (ys : List Value). Takes h.0 ys n.ty) (map-id values) t) c

module _ (g : GraphValue) (b : ℕ) (graph : IsGraph g) where
  -- the defaults have their nodes' types
  pub defaults_typed : (m k : ℕ) (n : Node) (v : Value) → k < m → slice_get g.nodes k ≡ Some n → at (defaults_to g b (length g.nodes)) k ≡ Some v → IsOfType n.ty v
  defaults_typed zero k n v l q e = absurd (omega arith)
  defaults_typed (suc m) k n v l q e =
      default_typed g b k n (at (defaults_to g b (length g.nodes))) v (node_fits g k n graph q)
      (λ a x y w r s. defaults_typed m a x y (omega arith) r s) (sym (defaults-node g b k n (ordered g graph) q) ∙ e)

  module _ (j : List Event) (events : EventsFit g j) where
    value_typed_by : (k p : ℕ) (r : CoreType) (v : Value) → ((m : Message) → msg g b j k p ≡ Some m → IsOfType r (value_of m)) → val g b j k p ≡ Some v → IsOfType r v
    unfolding val
    value_typed_by k p r v h e = go (msg g b j k p) refl e
      where
        go : (o : Option Message) → msg g b j k p ≡ o → value_at o ≡ Some v → IsOfType r v
        go None q t = absurd (none-some v t)
        go (Some m) q t = subst (λ (x : Value). IsOfType r x) (same_Some (value_of m) v t) (h m q)

    source_typed : (k p : ℕ) (n : Node) (e : Event) (old : Option Value) (m : Message) → slice_get g.nodes k ≡ Some n → slice_get j p ≡ Some e
        → ((v : Value) → old ≡ Some v → IsOfType n.ty v) → source_message k e old ≡ Some m → IsOfType n.ty (value_of m)
    source_typed k p n e old m q r ih h = go (cases_eq e.source k)
      where
        waits : (o : Option Value) → old ≡ o → no_change_of o ≡ Some m → IsOfType n.ty (value_of m)
        waits None s t = absurd (none-some m t)
        waits (Some v) s t = kept_typed n.ty v m (ih v s) t

        go : (e.source ≡ k) ⊎ (e.source ≡ k → ⊥) → IsOfType n.ty (value_of m)
        go (inl s) =
            let c : source_message k e old ≡ Some (Change e.value) = grind (arith, common_steps) in
            subst (λ (x : Message). IsOfType n.ty (value_of x)) (same_Some (Change e.value) m (sym c ∙ h))
            (events p e n r (ap (slice_get g.nodes) s ∙ q))
        go (inr s) =
            let c : source_message k e old ≡ no_change_of old = grind (arith, common_steps) in
            waits old refl (sym c ∙ h)

    turn_typed : (k : ℕ) (n : Node) (old : Option Value) (part : ℕ → Option Message) (m : Message) → slice_get g.nodes k ≡ Some n
        → ((v : Value) → old ≡ Some v → IsOfType n.ty v) → PartsFit g.nodes k part value_of
        → turn_message (job_of g.nodes k) b old (all_of (map part (arguments_of g.nodes k))) ≡ Some m → IsOfType n.ty (value_of m)
    turn_typed k n old part m q ih fit h =
        elim (node_fits g k n graph q) [
          | inl d ↦ go n.kind (inr (ap (λ (x : Node). job_of_kind x.kind) (sym d.2))) here
          | inr f ↦ go n.kind (inl f.0) here
        ]
      where
        here : turn_message (job_of_kind n.kind) b old (all_of (map part (arguments_of_kind n.kind))) ≡ Some m
        here = sym (ap (λ (o : Option Node). turn_message (option_and_then (λ x. job_of_kind x.kind) o) b old
            (all_of (map part (option_map_or (λ x. arguments_of_kind x.kind) o [])))) q) ∙ h

        go : (kd : NodeKind) → KindFits (types_of (take k g.nodes)) kd n.ty ⊎ (job_of_kind kd ≡ None)
            → turn_message (job_of_kind kd) b old (all_of (map part (arguments_of_kind kd))) ≡ Some m → IsOfType n.ty (value_of m)
        go kd (inr none) e =
            absurd (none-some m (sym (ap (λ (w : Option Job). turn_message w b old (all_of (map part (arguments_of_kind kd)))) none) ∙ e))
        go kd (inl fits) e = turn (job_of_kind kd) refl old refl (all_of (map part (arguments_of_kind kd))) refl e
          where
            turn : (w : Option Job) → job_of_kind kd ≡ w → (o : Option Value) → old ≡ o → (ms : Option (List Message))
                → all_of (map part (arguments_of_kind kd)) ≡ ms → turn_message w b o ms ≡ Some m → IsOfType n.ty (value_of m)
            turn None x o y ms z t = absurd (none-some m t)
            turn (Some w) x None y ms z t = absurd (none-some m t)
            turn (Some w) x (Some v) y None z t = absurd (none-some m t)
            turn (Some w) x (Some v) y (Some ms) z t =
                step_typed w v ms b n.ty m (job_fits g.nodes k kd n.ty w v part ms fits x (ih v y) fit z) (ih v y) t

    -- so do all messages and values
    messages_typed : (p : ℕ) → ((k : ℕ) (n : Node) (v : Value) → slice_get g.nodes k ≡ Some n → val g b j k p ≡ Some v → IsOfType n.ty v)
        → (z k : ℕ) (n : Node) (m : Message) → k < z → slice_get g.nodes k ≡ Some n → msg g b j k (suc p) ≡ Some m → IsOfType n.ty (value_of m)
    messages_typed p before zero k n m l q h = absurd (omega arith)
    messages_typed p before (suc z) k n m l q h =
        let w : suc p ≤ length j = there_within g b j k (suc p) (m, h) in
        let e = item_within j p (omega arith) in
        go e.0 e.1 (is_source g.nodes k) refl (λ a x y u t i. messages_typed p before z a x y (omega arith) t i)
      where
        go : (e : Event) → slice_get j p ≡ Some e → (c : Bool) → is_source g.nodes k ≡ c → PartsFit g.nodes k (λ a. msg g b j a (suc p)) value_of
            → IsOfType n.ty (value_of m)
        go e r true s ih =
            source_typed k p n e (val g b j k p) m q r (λ v t. before k n v q t)
            (sym (msg-source g b j k p e (ordered g graph) (slice_get_within g.nodes k n q) s r) ∙ h)
        go e r false s ih =
            turn_typed k n (val g b j k p) (λ a. msg g b j a (suc p)) m q (λ v t. before k n v q t) ih
            (sym (msg-inner g b j k p e (ordered g graph) (slice_get_within g.nodes k n q) s r) ∙ h)

    pub values_typed : (p k : ℕ) (n : Node) (v : Value) → slice_get g.nodes k ≡ Some n → val g b j k p ≡ Some v → IsOfType n.ty v
    values_typed zero k n v q h = defaults_typed (suc k) k n v (omega arith) q (sym (val-zero g b j k) ∙ h)
    values_typed (suc p) k n v q h =
        value_typed_by k (suc p) n.ty v (λ m e. messages_typed p (λ k' n' v' q' h'. values_typed p k' n' v' q' h') (suc k) k n m (omega arith) q e) h
