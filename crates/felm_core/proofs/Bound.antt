-- A legal journal has at most as many events as there are input events, doubled once for each async.
use Rattle.std.proofs.Common.{◌≡◌, ℕ, suc, zero, ◌+◌, ◌-◌, ◌*◌, ◌^◌, ◌<◌, ◌≤◌, ◌⊎◌, inl, inr, Bool, true, false, cond, ltb, Option, Some, None, List, [], ◌∷◌, ◌++◌, length, take, refl, sym, ap, ◌∙◌, subst, arith}
use Rattle.std.specs.List.{slice_get, count_by, filter}
use Rattle.std.specs.Option.{option_map_or, option_and_then}
use native.Mathlib.Numerals.{unary_clauses}
use Rattle.std.proofs.Math.Nat.{mul-le-mul_left}
use Rattle.std.proofs.lemmas.Grind.{common_steps}
use Rattle.std.proofs.lemmas.Bool.{cases_eq, cases_lt, false≢true}
use Rattle.std.proofs.lemmas.List.{length-append}
use Rattle.std.proofs.lemmas.List.Sums.{sum_by-append}
use Rattle.felm_term.specs.declared.message.Message.{Message}
use Rattle.felm_term.specs.declared.message.Message.TheVariants.{Change, NoChange}
use Rattle.felm_term.specs.declared.event.Event.{Event}
use Rattle.felm_graph.specs.declared.node.Node.{Node}
use Rattle.felm_graph.specs.declared.node.NodeKind.{NodeKind}
use Rattle.felm_graph.specs.declared.node.NodeKind.TheVariants as kind
use Rattle.felm_graph.specs.GraphValue.{GraphValue}
use Rattle.felm_graph.specs.Nodes.{is_source_kind, is_source, is_async}
use Rattle.felm_graph.specs.Graphs.{IsGraph}
use Rattle.felm_meaning.specs.Nodes.{is_input_kind, is_input, inner_of_kind, inner}
use Rattle.felm_meaning.specs.Meaning.{msg, changes, changed_in}
use Rattle.felm_meaning.specs.Journals.{inputs_in, entered, IsCaused, IsLegal}
use Rattle.felm_meaning.proofs.Graphs.{ordered}
use Rattle.felm_meaning.proofs.Rows.{item_within, take_whole}
use Rattle.felm_meaning.proofs.Fronts.{entered-append, entered-own, entered-other}
use Rattle.felm_meaning.proofs.Legal.{source_within}
use Rattle.felm_meaning.proofs.Causes.{entered_within}
use Rattle.felm_meaning.proofs.Plain.{take-more}
use Rattle.felm_core.proofs.Changes.{changes_after}

-- ---- events of sources with a smaller number, each with a weight by its source

weigh : (ℕ → ℕ) → List Event → ℕ → ℕ
weigh f [] k = 0
weigh f (e ∷ more) k = cond (ltb e.source k) (f e.source) 0 + weigh f more k

abbrev one : ℕ → ℕ
one x = 1

entered-cons : (e : Event) (j : List Event) (a : ℕ) → entered (e ∷ j) a ≡ entered (e ∷ []) a + entered j a
entered-cons e j a = entered-append (e ∷ []) j a

entered-nil : (a : ℕ) → entered [] a ≡ 0
unfolding entered
entered-nil a = refl

-- the next source's events come in
weigh-suc : (f : ℕ → ℕ) (j : List Event) (x : ℕ) → weigh f j (suc x) ≡ weigh f j x + f x * entered j x
unfolding weigh
weigh-suc f [] x = let z : entered [] x ≡ 0 = entered-nil x in grind arith
weigh-suc f (e ∷ j) x = go (cases_lt e.source x) (cases_eq e.source x) (weigh-suc f j x)
  where
    go : (e.source < x) ⊎ (x ≤ e.source) → (e.source ≡ x) ⊎ (e.source ≡ x → ⊥) → weigh f j (suc x) ≡ weigh f j x + f x * entered j x
        → cond (ltb e.source (suc x)) (f e.source) 0 + weigh f j (suc x) ≡ cond (ltb e.source x) (f e.source) 0 + weigh f j x + f x * entered (e ∷ j) x
    go (inl l) (inl q) ih = absurd (omega arith)
    go (inl l) (inr q) ih =
        let a : ltb e.source x ≡ true = grind (arith, common_steps) in
        let d : ltb e.source (suc x) ≡ true = grind (arith, common_steps) in
        let n : entered (e ∷ j) x ≡ entered j x = entered-cons e j x ∙ (let z : entered (e ∷ []) x ≡ 0 = entered-other e.source e.value x q in omega arith) in
        rw (a, d, n) (omega arith)
    go (inr l) (inl q) ih =
        let a : ltb e.source x ≡ false = grind (arith, common_steps) in
        let d : ltb e.source (suc x) ≡ true = grind (arith, common_steps) in
        let u : entered (e ∷ []) x ≡ 1 = ap (entered (e ∷ [])) (sym q) ∙ entered-own e.source e.value in
        let n : entered (e ∷ j) x ≡ suc (entered j x) = entered-cons e j x ∙ omega arith in
        let w : f e.source ≡ f x = ap f q in
        rw (a, d, n) (grind arith)
    go (inr l) (inr q) ih =
        let a : ltb e.source x ≡ false = grind (arith, common_steps) in
        let d : ltb e.source (suc x) ≡ false = grind (arith, common_steps) in
        let n : entered (e ∷ j) x ≡ entered j x = entered-cons e j x ∙ (let z : entered (e ∷ []) x ≡ 0 = entered-other e.source e.value x q in omega arith) in
        rw (a, d, n) (omega arith)

weigh-zero : (f : ℕ → ℕ) (j : List Event) → weigh f j 0 ≡ 0
unfolding weigh
weigh-zero f [] = refl
weigh-zero f (e ∷ j) =
    let a : ltb e.source 0 ≡ false = grind (arith, common_steps) in
    let ih : weigh f j 0 ≡ 0 = weigh-zero f j in rw (a) (omega arith)

weigh-append : (f : ℕ → ℕ) (j : List Event) (e : Event) (k : ℕ) → weigh f (j ++ e ∷ []) k ≡ weigh f j k + cond (ltb e.source k) (f e.source) 0
unfolding weigh
weigh-append f [] e k = omega arith
weigh-append f (x ∷ j) e k =
    let ih : weigh f (j ++ e ∷ []) k ≡ weigh f j k + cond (ltb e.source k) (f e.source) 0 = weigh-append f j e k in omega arith

weigh-grows : (f : ℕ → ℕ) (j : List Event) (a n : ℕ) → weigh f j a ≤ weigh f j (a + n)
weigh-grows f j a zero = let e : a + 0 ≡ a = omega arith in rw e (omega arith)
weigh-grows f j a (suc n) =
    let e : a + suc n ≡ suc (a + n) = omega arith in
    let ih : weigh f j a ≤ weigh f j (a + n) = weigh-grows f j a n in
    rw e (omega (arith, weigh-suc f j (a + n)))

-- one more event
more-below : (j : List Event) (e : Event) (k : ℕ)
    → (weigh one j k ≤ weigh one (j ++ e ∷ []) k) × (e.source < k → suc (weigh one j k) ≤ weigh one (j ++ e ∷ []) k)
more-below j e k = (
  omega (arith, weigh-append one j e k),
  λ l.
      let a : ltb e.source k ≡ true = grind (arith, common_steps) in
      let n : weigh one (j ++ e ∷ []) k ≡ weigh one j k + 1 = weigh-append one j e k ∙ ap (λ (c : Bool). weigh one j k + cond c 1 0) a in
      omega arith,
)

weigh-all : (j : List Event) (k : ℕ) → ((p : ℕ) (e : Event) → slice_get j p ≡ Some e → e.source < k) → weigh one j k ≡ length j
unfolding weigh
weigh-all [] k h = refl
weigh-all (e ∷ j) k h =
    let ih : weigh one j k ≡ length j = weigh-all j k (λ p d q. h (suc p) d q) in
    let l : e.source < k = h 0 e refl in
    let a : ltb e.source k ≡ true = grind (arith, common_steps) in
    rw (a) (omega arith)

-- ---- inputs alone

abbrev input_one : List Node → ℕ → ℕ
input_one nodes x = cond (is_input nodes x) 1 0

weigh-inputs : (g : GraphValue) (j : List Event) (k : ℕ) → ((p : ℕ) (e : Event) → slice_get j p ≡ Some e → e.source < k)
    → weigh (input_one g.nodes) j k ≡ length (inputs_in g j)
unfolding weigh inputs_in
weigh-inputs g [] k h = refl
weigh-inputs g (e ∷ j) k h =
    let l : e.source < k = h 0 e refl in
    let a : ltb e.source k ≡ true = grind (arith, common_steps) in
    rw (a) (go (is_input g.nodes e.source) (weigh-inputs g j k (λ p d q. h (suc p) d q)))
  where
    go : (t : Bool) → weigh (input_one g.nodes) j k ≡ length (filter (λ x. is_input g.nodes x.source) j)
        → cond t 1 0 + weigh (input_one g.nodes) j k
        ≡ length (cond t (e ∷ filter (λ x. is_input g.nodes x.source) j) (filter (λ x. is_input g.nodes x.source) j))
    go true ih = omega arith
    go false ih = omega arith

-- a node that is no source has no events
entered-none : (j : List Event) (k : ℕ) → ((p : ℕ) (e : Event) → slice_get j p ≡ Some e → e.source ≡ k → ⊥) → entered j k ≡ 0
entered-none [] k h = entered-nil k
entered-none (e ∷ j) k h =
    let ih : entered j k ≡ 0 = entered-none j k (λ p d q. h (suc p) d q) in
    let z : entered (e ∷ []) k ≡ 0 = entered-other e.source e.value k (h 0 e refl) in
    entered-cons e j k ∙ omega arith

-- ---- powers

doubled : (n w z m : ℕ) → n ≤ z * 2 ^ m → w ≤ n → n + w ≤ z * 2 ^ suc m
doubled n w z m a b =
    let t : 2 ^ suc m ≡ 2 * 2 ^ m = simp unary_clauses (omega arith) in
    rw t (grind arith)

powers : (m : ℕ) → 1 ≤ 2 ^ m
powers zero = omega arith
powers (suc m) = let ih : 1 ≤ 2 ^ m = powers m in let t : 2 ^ suc m ≡ 2 * 2 ^ m = simp unary_clauses (omega arith) in omega arith

added : (n w z m : ℕ) → n ≤ z * 2 ^ m → n + w ≤ (z + w) * 2 ^ m
added n w z m a =
    let p : 1 ≤ 2 ^ m = powers m in
    let t : w * 1 ≤ w * 2 ^ m = mul-le-mul_left w p in
    grind arith

-- ---- asyncs

asyncs : List Node → ℕ → ℕ
asyncs nodes n = count_by is_async (take n nodes)

asyncs-suc : (nodes : List Node) (x : ℕ) (n : Node) → slice_get nodes x ≡ Some n → asyncs nodes (suc x) ≡ asyncs nodes x + cond (is_async n) 1 0
unfolding asyncs
asyncs-suc nodes x n h =
    ap (λ (ns : List Node). count_by is_async ns) (take-more nodes x n h) ∙ (sum_by-append (λ y. cond (is_async y) 1 0) (take x nodes) (n ∷ []) ∙
    (let z : 0 + cond (is_async n) 1 0 ≡ cond (is_async n) 1 0 = omega arith in ap (λ (c : ℕ). count_by is_async (take x nodes) + c) z))

-- a node is an async, an input or no source
data Kinds (nodes : List Node) (x n : ℕ) : Type 0 where
  async : (y : ℕ) → inner nodes x ≡ Some y → asyncs nodes (suc x) ≡ suc n → is_input nodes x ≡ false → Kinds nodes x n
  input : asyncs nodes (suc x) ≡ n → is_input nodes x ≡ true → Kinds nodes x n
  turns : asyncs nodes (suc x) ≡ n → is_input nodes x ≡ false → is_source nodes x ≡ false → Kinds nodes x n

kinds : (nodes : List Node) (x : ℕ) → x < length nodes → Kinds nodes x (asyncs nodes x)
kinds nodes x l = let n = item_within nodes x l in go n.0 n.1
  where
    zeroed : (k : ℕ) → k + 0 ≡ k
    zeroed k = omega arith

    by : (ty : _) (k : NodeKind) → slice_get nodes x ≡ Some (record { kind = k; ty = ty }) → Kinds nodes x (asyncs nodes x)
    by ty (kind.Input number) h =
        input (asyncs-suc nodes x _ h ∙ zeroed (asyncs nodes x)) (ap (λ (o : Option Node). option_map_or (λ n. is_input_kind n.kind) o false) h)
    by ty (kind.Lift f arguments) h =
        turns (asyncs-suc nodes x _ h ∙ zeroed (asyncs nodes x)) (ap (λ (o : Option Node). option_map_or (λ n. is_input_kind n.kind) o false) h)
        (ap (λ (o : Option Node). option_map_or (λ n. is_source_kind n.kind) o false) h)
    by ty (kind.Foldp f base argument) h =
        turns (asyncs-suc nodes x _ h ∙ zeroed (asyncs nodes x)) (ap (λ (o : Option Node). option_map_or (λ n. is_input_kind n.kind) o false) h)
        (ap (λ (o : Option Node). option_map_or (λ n. is_source_kind n.kind) o false) h)
    by ty (kind.Async argument) h =
        async argument (ap (λ (o : Option Node). option_and_then (λ n. inner_of_kind n.kind) o) h)
        (asyncs-suc nodes x _ h ∙ (let z : asyncs nodes x + 1 ≡ suc (asyncs nodes x) = omega arith in z))
        (ap (λ (o : Option Node). option_map_or (λ n. is_input_kind n.kind) o false) h)

    go : (n : Node) → slice_get nodes x ≡ Some n → Kinds nodes x (asyncs nodes x)
    go n h = by n.ty n.kind h

-- ---- the bound

module _ (g : GraphValue) (b : ℕ) (j : List Event) (graph : IsGraph g) (caused : IsCaused g b j)
    (sources : (p : ℕ) (e : Event) → slice_get j p ≡ Some e → is_source g.nodes e.source ≡ true) where
  changes_bound : (x p : ℕ) → x < length g.nodes → p ≤ length j → length (changes g b j x p) ≤ weigh one (take p j) (suc x)
  unfolding changes
  changes_bound x zero w l = omega arith
  changes_bound x (suc p) w l =
      let e = item_within j p (omega arith) in
      let t : take (suc p) j ≡ take p j ++ e.0 ∷ [] = take-more j p e.0 e.1 in
      let n = length-append (changes g b j x p) (changed_in (msg g b j x (suc p))) in
      rw t (go (msg g b j x (suc p)) e.0 e.1 refl (changes_bound x p w (omega arith)) (more-below (take p j) e.0 (suc x)) n)
    where
      go : (m : Option Message) (e : Event) → slice_get j p ≡ Some e → msg g b j x (suc p) ≡ m → length (changes g b j x p) ≤ weigh one (take p j) (suc x)
          → (weigh one (take p j) (suc x) ≤ weigh one (take p j ++ e ∷ []) (suc x))
          × (e.source < suc x → suc (weigh one (take p j) (suc x)) ≤ weigh one (take p j ++ e ∷ []) (suc x))
          → length (changes g b j x p ++ changed_in (msg g b j x (suc p))) ≡ length (changes g b j x p) + length (changed_in (msg g b j x (suc p)))
          → length (changes g b j x p ++ changed_in (msg g b j x (suc p))) ≤ weigh one (take p j ++ e ∷ []) (suc x)
      go None e q h ih r n =
          let z : length (changed_in (msg g b j x (suc p))) ≡ 0 = ap (λ (o : Option Message). length (changed_in o)) h in
          let u : weigh one (take p j) (suc x) ≤ weigh one (take p j ++ e ∷ []) (suc x) = r.0 in omega arith
      go (Some (NoChange v)) e q h ih r n =
          let z : length (changed_in (msg g b j x (suc p))) ≡ 0 = ap (λ (o : Option Message). length (changed_in o)) h in
          let u : weigh one (take p j) (suc x) ≤ weigh one (take p j ++ e ∷ []) (suc x) = r.0 in omega arith
      go (Some (Change v)) e q h ih r n =
          let z : length (changed_in (msg g b j x (suc p))) ≡ 1 = ap (λ (o : Option Message). length (changed_in o)) h in
          let s : e.source ≤ x = changes_after g b j (ordered g graph) p e q x v w h in
          let u : suc (weigh one (take p j) (suc x)) ≤ weigh one (take p j ++ e ∷ []) (suc x) = r.1 (omega arith) in omega arith

  -- an async has at most as many events as the sources before it
  async_bound : (a x : ℕ) → a < length g.nodes → inner g.nodes a ≡ Some x → entered j a ≤ weigh one j a
  async_bound a x w h =
      let l : x < a = (ordered g graph).inner_down a x h in
      let t : take (length j) j ≡ j = take_whole j in
      let y : entered (take (length j) j) a ≤ length (changes g b j x (length j)) = entered_within g b j a x (length j) caused h (omega arith) in
      let z : length (changes g b j x (length j)) ≤ weigh one (take (length j) j) (suc x) = changes_bound x (length j) (omega arith) (omega arith) in
      let y' : entered j a ≤ length (changes g b j x (length j)) = rw t at y in
      let z' : length (changes g b j x (length j)) ≤ weigh one j (suc x) = rw t at z in
      let e : suc x + (a - suc x) ≡ a = omega arith in
      let m : weigh one j (suc x) ≤ weigh one j a = subst (λ (i : ℕ). weigh one j (suc x) ≤ weigh one j i) e (weigh-grows one j (suc x) (a - suc x)) in
      omega arith

  front_bound : (x : ℕ) → x ≤ length g.nodes → weigh one j x ≤ weigh (input_one g.nodes) j x * 2 ^ asyncs g.nodes x
  front_bound zero l = let z : weigh one j 0 ≡ 0 = weigh-zero one j in omega arith
  front_bound (suc x) l = go (kinds g.nodes x (omega arith)) (front_bound x (omega arith))
    where
      w : weigh one j (suc x) ≡ weigh one j x + 1 * entered j x
      w = weigh-suc one j x

      i : weigh (input_one g.nodes) j (suc x) ≡ weigh (input_one g.nodes) j x + input_one g.nodes x * entered j x
      i = weigh-suc (input_one g.nodes) j x

      zero_inputs : is_input g.nodes x ≡ false → weigh (input_one g.nodes) j (suc x) ≡ weigh (input_one g.nodes) j x
      zero_inputs f =
          i ∙ (ap (λ (t : Bool). weigh (input_one g.nodes) j x + cond t 1 0 * entered j x) f ∙
          (let z : weigh (input_one g.nodes) j x + 0 * entered j x ≡ weigh (input_one g.nodes) j x = omega arith in z))

      one_input : is_input g.nodes x ≡ true → weigh (input_one g.nodes) j (suc x) ≡ weigh (input_one g.nodes) j x + entered j x
      one_input f =
          i ∙ (ap (λ (t : Bool). weigh (input_one g.nodes) j x + cond t 1 0 * entered j x) f ∙
          (let z : weigh (input_one g.nodes) j x + 1 * entered j x ≡ weigh (input_one g.nodes) j x + entered j x = omega arith in z))

      go : Kinds g.nodes x (asyncs g.nodes x) → weigh one j x ≤ weigh (input_one g.nodes) j x * 2 ^ asyncs g.nodes x
          → weigh one j (suc x) ≤ weigh (input_one g.nodes) j (suc x) * 2 ^ asyncs g.nodes (suc x)
      go (async y h a f) ih =
          let r : weigh one j x + entered j x ≤ weigh (input_one g.nodes) j x * 2 ^ suc (asyncs g.nodes x) =
          doubled (weigh one j x) (entered j x) (weigh (input_one g.nodes) j x) (asyncs g.nodes x) ih (async_bound x y (omega arith) h) in
          rw (a, zero_inputs f) (omega (arith, w, r))
      go (input a f) ih =
          let r : weigh one j x + entered j x ≤ (weigh (input_one g.nodes) j x + entered j x) * 2 ^ asyncs g.nodes x =
          added (weigh one j x) (entered j x) (weigh (input_one g.nodes) j x) (asyncs g.nodes x) ih in
          rw (a, one_input f) (omega (arith, w, r))
      go (turns a f s) ih =
          let n : entered j x ≡ 0 = entered-none j x (λ p e q d. false≢true (sym s ∙ (ap (is_source g.nodes) (sym d) ∙ sources p e q))) in
          rw (a, zero_inputs f) (omega (arith, w, n, ih))

  pub journal_bound : length j ≤ length (inputs_in g j) * 2 ^ count_by is_async g.nodes
  unfolding asyncs
  journal_bound =
      let within : (p : ℕ) (e : Event) → slice_get j p ≡ Some e → e.source < length g.nodes = λ p e q. source_within g.nodes e.source (sources p e q) in
      let r : weigh one j (length g.nodes) ≤ weigh (input_one g.nodes) j (length g.nodes) * 2 ^ count_by is_async (take (length g.nodes) g.nodes) =
      front_bound (length g.nodes) (omega arith) in
      let t : take (length g.nodes) g.nodes ≡ g.nodes = take_whole g.nodes in
      let r' : weigh one j (length g.nodes) ≤ weigh (input_one g.nodes) j (length g.nodes) * 2 ^ count_by is_async g.nodes = rw t at r in
      let a : weigh one j (length g.nodes) ≡ length j = weigh-all j (length g.nodes) within in
      let i : weigh (input_one g.nodes) j (length g.nodes) ≡ length (inputs_in g j) = weigh-inputs g j (length g.nodes) within in
      rw (a, i) at r'

less_scaled : (n m p z : ℕ) → n ≤ m → z ≤ n * p → z ≤ m * p
less_scaled n m p z l h = let t : p * n ≤ p * m = mul-le-mul_left p l in grind arith

-- a legal journal is no longer than its script, doubled once for each async
pub legal_bound : (g : GraphValue) (b : ℕ) (script j : List Event) → IsGraph g → IsLegal g b script j → length j ≤ length script * 2 ^ count_by is_async g.nodes
legal_bound g b script j graph legal =
    let e : length script ≡ length (inputs_in g j) + length legal.scripted.0 = ap length legal.scripted.1 ∙ length-append (inputs_in g j) legal.scripted.0 in
    less_scaled (length (inputs_in g j)) (length script) (2 ^ count_by is_async g.nodes) (length j) (omega arith)
    (journal_bound g b j graph legal.caused legal.sources)
