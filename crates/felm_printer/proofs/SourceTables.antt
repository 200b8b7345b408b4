-- The texts of a graph's sources, one node further, and at one node.
use Rattle.std.proofs.Common.{◌≡◌, ℕ, ◌+◌, ◌<◌, true, false, List, [], ◌∷◌, ◌++◌, length, map, take, get_or, Some, None, refl, sym, ap, ◌∙◌, arith}
use Rattle.std.specs.List.{slice_get, count_by, range_with_len}
use Rattle.std.specs.Option.{option_map, option_map_or}
use Rattle.std.proofs.lemmas.List.{map-append, length-map}
use Rattle.std.proofs.lemmas.List.Sums.{count_by_more_yes, count_by_more_no}
use Rattle.std.proofs.lemmas.List.FromFn.{map-range_with_len_more, length-map-range_with_len, get_or-map-range_with_len}
use Rattle.std.proofs.lemmas.Option.{slice_get-map, slice_get_within, slice_get-get_or, slice_get_read}
use Rattle.felm_term.specs.CoreType.{CoreType}
use Rattle.felm_graph.specs.declared.node.Node.{Node}
use Rattle.felm_graph.specs.declared.node.NodeKind.{NodeKind}
use Rattle.felm_graph.specs.declared.node.NodeKind.TheVariants as kind
use Rattle.felm_graph.specs.GraphValue.{GraphValue}
use Rattle.felm_graph.specs.Nodes.{is_async, is_source, is_source_kind}
use Rattle.felm_printer.specs.Results.{source_text}
use Rattle.felm_printer.specs.Sources.{text_behind, source_texts}

text_of : (g : GraphValue) (k : ℕ) (ty : CoreType) (what : NodeKind) → slice_get g.nodes k ≡ Some (record { kind = what; ty = ty })
    → text_behind g.inputs (count_by is_async (take k g.nodes)) what ≡ source_text g k
text_of g k ty (kind.Input number) there = rw there refl
text_of g k ty (kind.Lift function arguments) there = rw there refl
text_of g k ty (kind.Foldp function base argument) there = rw there refl
text_of g k ty (kind.Async argument) there = rw (there, there) refl

-- a source's text, by the number of asyncs before it
pub text_behind_asyncs : (g : GraphValue) (k : ℕ) (node : Node) → slice_get g.nodes k ≡ Some node
    → text_behind g.inputs (count_by is_async (take k g.nodes)) node.kind ≡ source_text g k
text_behind_asyncs g k node there = text_of g k node.ty node.kind there

-- one text more
pub texts_more : {X : Type 0} (f : X → List ℕ) (g : GraphValue) (texts : List X) (text : X) (k : ℕ)
    → map f texts ≡ map (source_text g) (range_with_len 0 k) → f text ≡ source_text g k
    → map f (texts ++ text ∷ []) ≡ map (source_text g) (range_with_len 0 (k + 1))
texts_more f g texts text k so_far this =
    map-append f texts (text ∷ []) ∙ ap (λ l. l ++ f text ∷ []) so_far ∙ ap (λ t. map (source_text g) (range_with_len 0 k) ++ t ∷ []) this
    ∙ sym (map-range_with_len_more (source_text g) 0 k k (omega arith))

-- each node has a text
pub texts_count : {X : Type 0} (f : X → List ℕ) (g : GraphValue) (texts : List X) → map f texts ≡ source_texts g → length texts ≡ length g.nodes
texts_count f g texts all = sym (length-map texts f) ∙ ap length all ∙ length-map-range_with_len (source_text g) 0 (length g.nodes)

-- the text of one node
pub text_at : {X : Type 0} (f : X → List ℕ) (g : GraphValue) (texts : List X) (k : ℕ) (text : X) → map f texts ≡ source_texts g
    → slice_get texts k ≡ Some text → f text ≡ source_text g k
text_at f g texts k text all there =
    let within : k < length g.nodes = let inside : k < length texts = slice_get_within texts k text there in omega (arith, texts_count f g texts all) in
    let mapped : slice_get (map f texts) k ≡ Some (f text) = slice_get-map f texts k ∙ ap (option_map f) there in
    let counted : k < length (source_texts g) = omega (arith, length-map-range_with_len (source_text g) 0 (length g.nodes)) in
    let made : slice_get (source_texts g) k ≡ Some (source_text g k) =
    slice_get-get_or (source_texts g) k [] counted ∙ ap Some (get_or-map-range_with_len (source_text g) 0 (length g.nodes) k k [] within (omega arith)) in
    let same : Some (f text) ≡ Some (source_text g k) = sym mapped ∙ ap (λ l. slice_get l k) all ∙ made in cc

-- the text at an index
pub text_read : {X : Type 0} (f : X → List ℕ) (g : GraphValue) (texts : List X) (k : ℕ) (text : X) → map f texts ≡ source_texts g → k < length g.nodes
    → text ≡ get_or texts k text → f text ≡ source_text g k
text_read f g texts k text all within at =
    let inside : k < length texts = omega (arith, texts_count f g texts all) in
    text_at f g texts k text all (slice_get_read texts (length texts) k text refl inside at)

-- a source is a node
pub source_within : (nodes : List Node) (k : ℕ) → is_source nodes k ≡ true → k < length nodes
source_within nodes k source =
    (elim (slice_get nodes k) as (λ o. slice_get nodes k ≡ o → option_map_or (λ (n : Node). is_source_kind n.kind) o false ≡ true → k < length nodes) [
      | None ↦ λ _ no. cc
      | Some node ↦ λ there _. slice_get_within nodes k node there
    ]) refl source

-- one async more
pub counted_more : (nodes : List Node) (i : ℕ) (node : Node) (count : ℕ) → i < length nodes → node ≡ get_or nodes i node → is_async node ≡ true
    → count ≡ count_by is_async (take i nodes) → count + 1 ≡ count_by is_async (take (i + 1) nodes)
counted_more nodes i node count within at passes so_far =
    ap (λ n. n + 1) so_far ∙ sym (count_by_more_yes is_async nodes i node within (ap is_async (sym at) ∙ passes))

-- no async more
pub counted_same : (nodes : List Node) (i : ℕ) (node : Node) (count : ℕ) → i < length nodes → node ≡ get_or nodes i node → is_async node ≡ false
    → count ≡ count_by is_async (take i nodes) → count ≡ count_by is_async (take (i + 1) nodes)
counted_same nodes i node count within at fails so_far = so_far ∙ sym (count_by_more_no is_async nodes i node within (ap is_async (sym at) ∙ fails))
