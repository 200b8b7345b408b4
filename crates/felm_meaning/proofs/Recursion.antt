-- The rows meet the recursion on position and node, and nothing else does. Calls are those by reduction.
use Rattle.std.proofs.Common.{◌≡◌, ◌≢◌, ℕ, suc, zero, ◌<◌, ◌≤◌, ◌⊎◌, inl, inr, Bool, true, false, Option, Some, None, List, [], ◌∷◌, length, map, refl, sym, ap, ◌∙◌, arith}
use Rattle.std.specs.List.{slice_get}
use Rattle.std.specs.Option.{option_map, option_map_or, option_and_then}
use Rattle.std.proofs.lemmas.Grind.{common_steps}
use Rattle.std.proofs.lemmas.Option.{slice_get_within}
use Rattle.std.proofs.lemmas.Bool.{cases_eq}
use Rattle.felm_term.specs.CoreTerm.{CoreTerm}
use Rattle.felm_term.specs.Values.{term_of}
use Rattle.felm_term.specs.declared.value.Value.{Value}
use Rattle.felm_term.specs.declared.input.InputDecl.{InputDecl}
use Rattle.felm_term.specs.declared.message.Message.{Message}
use Rattle.felm_term.specs.declared.message.Message.TheVariants.{Change}
use Rattle.felm_term.specs.declared.event.Event.{Event}
use Rattle.felm_laws.specs.Calls.{call}
use Rattle.felm_laws.proofs.CallLaws.{call_gives, one_call}
use Rattle.felm_graph.specs.declared.node.Node.{Node}
use Rattle.felm_graph.specs.declared.node.NodeKind.{NodeKind}
use Rattle.felm_graph.specs.declared.node.NodeKind.TheVariants as kind
use Rattle.felm_graph.specs.GraphValue.{GraphValue}
use Rattle.felm_graph.specs.Layout.{value_in}
use Rattle.felm_graph.specs.Nodes.{is_source, arguments_of_kind, arguments_of}
use Rattle.felm_meaning.specs.Nodes.{job_of, inner_of_kind}
use Rattle.felm_meaning.specs.Step.{call_value}
use Rattle.felm_meaning.specs.Meaning.{all_of, at, default_by, defaults_to, no_change_of, value_at, source_message, turn_message, row, msg, val}
use Rattle.felm_meaning.specs.Words.{IsCall, IsMeaning}
use Rattle.felm_meaning.proofs.Graphs.{IsOrdered}
use Rattle.felm_meaning.proofs.Rows.{item_within, map_same, defaults_to-upto, defaults_to-last, msg-source, msg-inner}
use Rattle.felm_meaning.proofs.Legal.{source_within}

-- ---- calls

pub call-is : (f : Value) (arguments : List Value) (b : ℕ) → IsCall f arguments b (call_value f arguments b)
unfolding call_value
call-is f arguments b = (call (term_of f) (map term_of arguments) b, call_gives (term_of f) (map term_of arguments) b, refl)

pub call-only : (f : Value) (arguments : List Value) (b : ℕ) (v : Option Value) → IsCall f arguments b v → v ≡ call_value f arguments b
unfolding call_value
call-only f arguments b v h =
    h.2 ∙ ap (λ (t : Option CoreTerm). option_map value_in t)
    (one_call (term_of f) (map term_of arguments) b h.0 h.1)

-- ---- defaults

at-map : (ds : List (Option Value)) (k : ℕ) → value_at (at (map no_change_of ds) k) ≡ at ds k
at-map [] k = refl
at-map (None ∷ ds) zero = refl
at-map (Some v ∷ ds) zero = refl
at-map (d ∷ ds) (suc k) = at-map ds k

-- a default depends on smaller nodes alone
pub default_by-same : (inputs : List InputDecl) (b : ℕ) (f h : ℕ → Option Value) (k : NodeKind)
    → ((port a : ℕ) → slice_get (arguments_of_kind k) port ≡ Some a → f a ≡ h a) → ((a : ℕ) → inner_of_kind k ≡ Some a → f a ≡ h a)
    → default_by inputs b f k ≡ default_by inputs b h k
default_by-same inputs b f h (kind.Input number) r i = refl
default_by-same inputs b f h (kind.Lift function arguments) r i =
    ap (λ (vs : List (Option Value)). option_and_then (λ values. call_value function values b) (all_of vs)) (map_same f h arguments r)
default_by-same inputs b f h (kind.Foldp function base argument) r i = refl
default_by-same inputs b f h (kind.Async argument) r i = i argument refl

module _ (g : GraphValue) (budget : ℕ) where
  -- where two functions agree on smaller nodes, a node has one default by both
  default_agrees : (f h : ℕ → Option Value) (k : ℕ) (n : Node) → IsOrdered g.nodes → slice_get g.nodes k ≡ Some n → ((a : ℕ) → a < k → f a ≡ h a)
      → default_by g.inputs budget f n.kind ≡ default_by g.inputs budget h n.kind
  default_agrees f h k n ok q e =
      default_by-same g.inputs budget f h n.kind
      (λ port a r. e a (ok.down k port a (ap (λ (o : Option Node). slice_get (option_map_or (λ m. arguments_of_kind m.kind) o []) port) q ∙ r)))
      (λ a r. e a (ok.inner_down k a (ap (λ (o : Option Node). option_and_then (λ m. inner_of_kind m.kind) o) q ∙ r)))

  -- a node's default, by those of all nodes
  pub defaults-node : (k : ℕ) (n : Node) → IsOrdered g.nodes → slice_get g.nodes k ≡ Some n
      → at (defaults_to g budget (length g.nodes)) k ≡ default_by g.inputs budget (at (defaults_to g budget (length g.nodes))) n.kind
  defaults-node k n ok q =
      let l : k < length g.nodes = slice_get_within g.nodes k n q in
      defaults_to-upto g budget (length g.nodes) k l ∙
      (defaults_to-last g budget k ∙
      (ap (λ (o : Option Node). option_and_then (λ m. default_by g.inputs budget (at (defaults_to g budget k)) m.kind) o) q ∙
      default_agrees (at (defaults_to g budget k)) (at (defaults_to g budget (length g.nodes))) k n ok q
      (λ a w. let w' : a < length g.nodes = omega arith in
      defaults_to-upto g budget k a w ∙ sym (defaults_to-upto g budget (length g.nodes) a w'))))

  pub val-zero : (j : List Event) (k : ℕ) → val g budget j k 0 ≡ at (defaults_to g budget (length g.nodes)) k
  unfolding val msg row
  val-zero j k = at-map (defaults_to g budget (length g.nodes)) k

  source-own : (k : ℕ) (e : Event) (old : Option Value) → e.source ≡ k → source_message k e old ≡ Some (Change e.value)
  source-own k e old s = grind (arith, common_steps)

  source-other : (k : ℕ) (e : Event) (old : Option Value) → e.source ≢ k → source_message k e old ≡ no_change_of old
  source-other k e old s = grind (arith, common_steps)

  pub meaning-is : (j : List Event) → IsOrdered g.nodes → IsMeaning g budget j (val g budget j) (msg g budget j)
  unfolding val
  meaning-is j ok = record {
    default = λ k n q. default k n q;
    source = λ k p e s q t. msg-source g budget j k p e ok (source_within g.nodes k s) s q ∙ source-own k e (val g budget j k p) t;
    other_source = λ k p e s q t. msg-source g budget j k p e ok (source_within g.nodes k s) s q ∙ source-other k e (val g budget j k p) t;
    turn = λ k p l s w. let e = item_within j p w in msg-inner g budget j k p e.0 ok l s e.1;
    carried = λ k p l w. refl;
  }
    where
      default : (k : ℕ) (n : Node) → slice_get g.nodes k ≡ Some n → val g budget j k 0 ≡ default_by g.inputs budget (λ a. val g budget j a 0) n.kind
      default k n q =
          val-zero j k ∙ (defaults-node k n ok q ∙
          default_agrees (at (defaults_to g budget (length g.nodes))) (λ a. val g budget j a 0) k n ok q (λ a w. sym (val-zero j a)))

  -- ---- nothing else meets it

  module _ (j : List Event) (v w : ℕ → ℕ → Option Value) (m o : ℕ → ℕ → Option Message) (ok : IsOrdered g.nodes) (a : IsMeaning g budget j v m)
      (b : IsMeaning g budget j w o) where
    default_only : (n k : ℕ) → k < n → k < length g.nodes → v k 0 ≡ w k 0
    default_only zero k l h = absurd (omega arith)
    default_only (suc n) k l h =
        let d = item_within g.nodes k h in
        a.default k d.0 d.1 ∙
        (default_agrees (λ x. v x 0) (λ x. w x 0) k d.0 ok d.1 (λ x y. default_only n x (omega arith) (omega arith)) ∙
        sym (b.default k d.0 d.1))

    message_only : (p n k : ℕ) → ((x : ℕ) → x < length g.nodes → v x p ≡ w x p) → p < length j → k < n → k < length g.nodes → m k (suc p) ≡ o k (suc p)
    message_only p zero k s q l h = absurd (omega arith)
    message_only p (suc n) k s q l h =
        go (is_source g.nodes k) refl (λ port x r. let d : x < k = ok.down k port x r in message_only p n x s q (omega arith) (omega arith))
      where
        go : (c : Bool) → is_source g.nodes k ≡ c → ((port x : ℕ) → slice_get (arguments_of g.nodes k) port ≡ Some x → m x (suc p) ≡ o x (suc p))
            → m k (suc p) ≡ o k (suc p)
        go true t ih = let e = item_within j p q in own e.0 e.1 (cases_eq e.0.source k)
          where
            own : (e : Event) → slice_get j p ≡ Some e → (e.source ≡ k) ⊎ (e.source ≡ k → ⊥) → m k (suc p) ≡ o k (suc p)
            own e r (inl x) = a.source k p e t r x ∙ sym (b.source k p e t r x)
            own e r (inr x) = a.other_source k p e t r x ∙ (ap no_change_of (s k h) ∙ sym (b.other_source k p e t r x))
        go false t ih =
            a.turn k p h t q ∙
            (ap (λ (x : Option Value). turn_message (job_of g.nodes k) budget x (all_of (map (λ y. m y (suc p)) (arguments_of g.nodes k)))) (s k h) ∙
            (ap (λ (x : List (Option Message)). turn_message (job_of g.nodes k) budget (w k p) (all_of x))
            (map_same (λ y. m y (suc p)) (λ y. o y (suc p)) (arguments_of g.nodes k) ih) ∙
            sym (b.turn k p h t q)))

    value_only : (p : ℕ) → p ≤ length j → (k : ℕ) → k < length g.nodes → v k p ≡ w k p
    value_only zero l k h = default_only (length g.nodes) k h h
    value_only (suc p) l k h =
        a.carried k p h (omega arith) ∙
        (ap value_at (message_only p (length g.nodes) k (λ x y. value_only p (omega arith) x y) (omega arith) h h) ∙
        sym (b.carried k p h (omega arith)))

    pub meaning-only : ((k p : ℕ) → k < length g.nodes → p ≤ length j → v k p ≡ w k p) × ((k p : ℕ) → k < length g.nodes → p < length j → m k (suc p) ≡ o k (suc p))
    meaning-only = (
      λ k p h l. value_only p l k h,
      λ k p h l. message_only p (length g.nodes) k (λ x y. value_only p (omega arith) x y) l h h,
    )
