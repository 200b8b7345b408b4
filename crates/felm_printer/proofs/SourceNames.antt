-- The text of a source is that of no other one, and has no blank.
use Rattle.std.proofs.Common.{◌≡◌, ℕ, suc, zero, ◌+◌, ◌<◌, ◌≤◌, ◌^◌, ◌⊎◌, inl, inr, true, false, not, cond, eqb, Option, Some, None, List, [], ◌∷◌, length, take, get_or, refl, sym, ap, ◌∙◌, subst, arith, zero-add}
use Rattle.std.specs.Prelude.{bytes_eq}
use Rattle.std.specs.List.{slice_get, list_all, count_by}
use Rattle.std.specs.Option.{option_map, option_map_or}
use Rattle.std.proofs.lemmas.Bool.{and_parts, and_from, ne_eqb, cases_order, false≢true}
use Rattle.std.proofs.lemmas.Fmt.{decimal_injective}
use Rattle.std.proofs.lemmas.List.{length-map, length-take}
use Rattle.std.proofs.lemmas.List.Elements.{All-get_or}
use Rattle.std.proofs.lemmas.List.Sums.{count_by-le-length, sum_by-append}
use Rattle.std.proofs.lemmas.Map.Keys.{apart_from_distinct}
use Rattle.std.proofs.lemmas.Option.{none-some, slice_get-map, slice_get_within, get_or_from_slice_get}
use Rattle.std.proofs.lemmas.Slice.Eq.{bytes_eq-Decides}
use Rattle.felm_term.specs.Bytes.{is_letter, is_word_byte}
use Rattle.felm_term.specs.Inputs.{names_of}
use Rattle.felm_term.specs.declared.input.InputDecl.{InputDecl}
use Rattle.felm_graph.specs.declared.node.Node.{Node}
use Rattle.felm_graph.specs.declared.node.NodeKind.{NodeKind}
use Rattle.felm_graph.specs.declared.node.NodeKind.TheVariants as kind
use Rattle.felm_graph.specs.GraphValue.{GraphValue}
use Rattle.felm_graph.specs.Graphs.{FitsBehind, IsGraph}
use Rattle.felm_graph.specs.Nodes.{is_async, is_source, is_source_kind}
use Rattle.felm_meaning.proofs.Graphs.{IsDeclared, node_fits}
use Rattle.felm_printer.specs.Names.{is_word, AreNames}
use Rattle.felm_printer.specs.Results.{async_text, text_of_kind, source_text}
use Rattle.felm_printer.proofs.Cuts.{lacks}
use Rattle.felm_printer.proofs.Digits.{all_digits}

-- ---- words

-- a byte of a word is no blank
word_byte_is_no_blank : (b : ℕ) → is_word_byte b ≡ true → not (eqb b 32) ≡ true
word_byte_is_no_blank b h = ap not (ne_eqb b 32 (λ e. false≢true (sym (ap is_word_byte e) ∙ h)))

bytes_have_no_blank : (bytes : List ℕ) → list_all is_word_byte bytes ≡ true → lacks 32 bytes ≡ true
bytes_have_no_blank [] h = refl
bytes_have_no_blank (b ∷ more) h =
    let parts = and_parts (is_word_byte b) (list_all is_word_byte more) h in
    and_from (not (eqb b 32)) (lacks 32 more) (word_byte_is_no_blank b parts.0) (bytes_have_no_blank more parts.1)

words_have_no_blank : (word : List ℕ) → is_word word ≡ true → lacks 32 word ≡ true
words_have_no_blank [] h = refl
words_have_no_blank (b ∷ more) h =
    let parts = and_parts (is_letter b) (list_all is_word_byte more) h in
    let first : is_word_byte b ≡ true = rw parts.0 refl in
    and_from (not (eqb b 32)) (lacks 32 more) (word_byte_is_no_blank b first) (bytes_have_no_blank more parts.1)

-- no word is the text of an async
words_are_no_asyncs : (word : List ℕ) (number : ℕ) → is_word word ≡ true → word ≡ async_text number → ⊥
words_are_no_asyncs word number h e = false≢true (sym (ap is_word e) ∙ h)

-- ---- names

module _ (inputs : List InputDecl) (names : AreNames inputs) where
  -- the name of the input with a number
  name_at : (k : ℕ) (d : InputDecl) (none : List ℕ) → slice_get inputs k ≡ Some d → get_or (names_of inputs) k none ≡ d.name
  name_at k d none there =
      get_or_from_slice_get (names_of inputs) k d.name none
      (slice_get-map (λ (i : InputDecl). i.name) inputs k ∙ ap (option_map (λ (i : InputDecl). i.name)) there)

  name_within : (k : ℕ) (d : InputDecl) → slice_get inputs k ≡ Some d → k < length (names_of inputs)
  name_within k d there =
      let inside = slice_get_within inputs k d there in omega (arith, length-map inputs (λ (i : InputDecl). i.name))

  name_is_word : (k : ℕ) (d : InputDecl) → slice_get inputs k ≡ Some d → is_word d.name ≡ true
  name_is_word k d there =
      subst (λ (n : List ℕ). is_word n ≡ true) (name_at k d [] there)
      (All-get_or (λ n. is_word n ≡ true) (names_of inputs) k [] (name_within k d there) names.words)

  -- a later input has another name
  earlier_differs : (j k : ℕ) (e d : InputDecl) → slice_get inputs j ≡ Some e → slice_get inputs k ≡ Some d → j < k → e.name ≡ d.name → ⊥
  earlier_differs j k e d at_j at_k before same =
      let differ : bytes_eq (get_or (names_of inputs) j []) (get_or (names_of inputs) k []) ≡ false =
      apart_from_distinct bytes_eq (names_of inputs) j k [] names.distinct before (name_within k d at_k) in
      let equal : get_or (names_of inputs) j [] ≡ get_or (names_of inputs) k [] = name_at j e [] at_j ∙ same ∙ sym (name_at k d [] at_k) in
      false≢true (sym differ ∙ (bytes_eq-Decides (get_or (names_of inputs) j []) (get_or (names_of inputs) k [])).1 equal)

  -- inputs with one name are one
  one_input : (j k : ℕ) (e d : InputDecl) → slice_get inputs j ≡ Some e → slice_get inputs k ≡ Some d → e.name ≡ d.name → j ≡ k
  one_input j k e d at_j at_k same = go (cases_order j k)
    where
      go : (j ≡ k) ⊎ ((j < k) ⊎ (k < j)) → j ≡ k
      go (inl e) = e
      go (inr (inl before)) = absurd (earlier_differs j k e d at_j at_k before same)
      go (inr (inr behind)) = absurd (earlier_differs k j d e at_k at_j behind (sym same))

-- ---- the numbers of asyncs

-- no more asyncs stand before a node than there are nodes
count_few : (nodes : List Node) (k : ℕ) → count_by is_async (take k nodes) ≤ length nodes
count_few nodes k = omega (arith, count_by-le-length is_async (take k nodes), length-take k nodes)

-- one node more in front
count-cons : (n : Node) (nodes : List Node) → count_by is_async (n ∷ nodes) ≡ cond (is_async n) 1 0 + count_by is_async nodes
count-cons n nodes =
    sum_by-append (λ m. cond (is_async m) 1 0) (n ∷ []) nodes ∙ ap (λ x. x + count_by is_async nodes) (zero-add (cond (is_async n) 1 0))

-- a later node has more asyncs before it
count_rises : (nodes : List Node) (j k : ℕ) (n : Node) → slice_get nodes j ≡ Some n → is_async n ≡ true → j < k
    → count_by is_async (take j nodes) < count_by is_async (take k nodes)
count_rises [] j k n at async before = absurd (none-some n at)
count_rises (m ∷ nodes) j zero n at async before = absurd (omega arith)
count_rises (m ∷ nodes) zero (suc k) n at async before =
    let same : m ≡ n = cc in
    let one : cond {A = ℕ} (is_async m) 1 0 ≡ 1 = ap (λ t. cond t 1 0) (ap is_async same ∙ async) in
    let more = count-cons m (take k nodes) in
    omega arith
count_rises (m ∷ nodes) (suc j) (suc k) n at async before =
    let less = count_rises nodes j k n at async (omega arith) in
    let first = count-cons m (take j nodes) in
    let second = count-cons m (take k nodes) in
    omega arith

-- asyncs with one number are one
one_async : (nodes : List Node) (j k : ℕ) (m n : Node) → slice_get nodes j ≡ Some m → slice_get nodes k ≡ Some n → is_async m ≡ true → is_async n ≡ true
    → count_by is_async (take j nodes) ≡ count_by is_async (take k nodes) → j ≡ k
one_async nodes j k m n at_j at_k async async' same = go (cases_order j k)
  where
    go : (j ≡ k) ⊎ ((j < k) ⊎ (k < j)) → j ≡ k
    go (inl e) = e
    go (inr (inl before)) = absurd (let l = count_rises nodes j k m at_j async before in omega arith)
    go (inr (inr behind)) = absurd (let l = count_rises nodes k j n at_k async' behind in omega arith)

-- ---- sources

-- a source is an input, with its name for a text, or an async, with its number
abbrev IsNamed : GraphValue → ℕ → Type 0
IsNamed g a =
    ((d : InputDecl) × (slice_get g.inputs a ≡ Some d) × (source_text g a ≡ d.name))
    ⊎ ((n : Node) × (slice_get g.nodes a ≡ Some n) × (is_async n ≡ true) × (source_text g a ≡ async_text (count_by is_async (take a g.nodes))))

module _ (g : GraphValue) (graph : IsGraph g) where
  -- by what its node does
  kind_is_named : (a : ℕ) (n : Node) (what : NodeKind) → n.kind ≡ what → slice_get g.nodes a ≡ Some n → IsDeclared g.inputs a n ⊎ FitsBehind (take a g.nodes) n
      → is_source_kind what ≡ true → IsNamed g a
  kind_is_named a n (kind.Input number) is at (inl (d, there, node)) source =
      let named : number ≡ a = let two : kind.Input number ≡ kind.Input a = sym is ∙ ap (λ (m : Node). m.kind) (sym node) in cc two in
      let shown : source_text g a ≡ text_of_kind g a (kind.Input a) = rw (at, is, named) refl in
      inl (d, there, shown ∙ ap (λ (o : Option InputDecl). option_map_or (λ i. i.name) o []) there)
  kind_is_named a n (kind.Input number) is at (inr fits) source = absurd (rw is at fits.0)
  kind_is_named a n (kind.Lift function arguments) is at fits source = absurd (false≢true source)
  kind_is_named a n (kind.Foldp function base argument) is at fits source = absurd (false≢true source)
  kind_is_named a n (kind.Async argument) is at fits source =
      let async : is_async n ≡ true = rw is refl in
      inr (n, at, async, rw (at, is, at, is) refl)

  is_named : (a : ℕ) → is_source g.nodes a ≡ true → IsNamed g a
  is_named a source = go (slice_get g.nodes a) refl source
    where
      go : (o : Option Node) → slice_get g.nodes a ≡ o → option_map_or (λ n. is_source_kind n.kind) o false ≡ true → IsNamed g a
      go None at s = absurd (false≢true s)
      go (Some n) at s = kind_is_named a n n.kind refl at (node_fits g a n graph at) s

  -- the number of an async is small
  number_fits : (a : ℕ) → count_by is_async (take a g.nodes) < 2 ^ 64
  number_fits a = let few = graph.few in omega (arith, count_few g.nodes a)

  module _ (names : AreNames g.inputs) where
    -- the text of a source has no blank
    pub source_has_no_blank : (a : ℕ) → is_source g.nodes a ≡ true → lacks 32 (source_text g a) ≡ true
    source_has_no_blank a source = go (is_named a source)
      where
        go : IsNamed g a → lacks 32 (source_text g a) ≡ true
        go (inl (d, there, shown)) = ap (lacks 32) shown ∙ words_have_no_blank d.name (name_is_word g.inputs names a d there)
        go (inr (n, at, async, shown)) =
            ap (lacks 32) shown
            ∙ all_digits (λ b. not (eqb b 32)) (λ d small. ap not (ne_eqb (48 + d) 32 (λ e. absurd (omega arith)))) (count_by is_async (take a g.nodes))

    -- sources with one text are one
    pub one_source : (a c : ℕ) → is_source g.nodes a ≡ true → is_source g.nodes c ≡ true → source_text g a ≡ source_text g c → a ≡ c
    one_source a c source source' same = go (is_named a source) (is_named c source')
      where
        go : IsNamed g a → IsNamed g c → a ≡ c
        go (inl (d, there, shown)) (inl (e, there', shown')) = one_input g.inputs names a c d e there there' (sym shown ∙ same ∙ shown')
        go (inl (d, there, shown)) (inr (n, at, async, shown')) =
            absurd (words_are_no_asyncs d.name (count_by is_async (take c g.nodes)) (name_is_word g.inputs names a d there) (sym shown ∙ same ∙ shown'))
        go (inr (n, at, async, shown)) (inl (d, there, shown')) =
            absurd (words_are_no_asyncs d.name (count_by is_async (take a g.nodes)) (name_is_word g.inputs names c d there) (sym shown' ∙ sym same ∙ shown))
        go (inr (m, at, async, shown)) (inr (n, at', async', shown')) =
            let texts : async_text (count_by is_async (take a g.nodes)) ≡ async_text (count_by is_async (take c g.nodes)) = sym shown ∙ same ∙ shown' in
            one_async g.nodes a c m n at at' async async'
            (decimal_injective (count_by is_async (take a g.nodes)) (count_by is_async (take c g.nodes)) (number_fits a) (number_fits c) (cc texts))
