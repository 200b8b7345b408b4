-- Legal journals whose events have the same sources are equal.
use Rattle.std.proofs.Common.{◌≡◌, ℕ, ◌≤◌, ◌⊎◌, inl, inr, Bool, true, cond, Some, List, [], ◌∷◌, ◌++◌, length, map, refl, sym, ap, ◌∙◌, subst, arith, append_assoc}
use Rattle.std.specs.List.{slice_get}
use Rattle.std.proofs.lemmas.Option.{same_Some}
use Rattle.std.proofs.lemmas.List.{take_at, append_cancel_left}
use Rattle.std.proofs.lemmas.List.Elements.{filter-append}
use Rattle.felm_term.specs.declared.value.Value.{Value}
use Rattle.felm_term.specs.declared.event.Event.{Event}
use Rattle.felm_graph.specs.GraphValue.{GraphValue}
use Rattle.felm_meaning.specs.Nodes.{is_input, inner}
use Rattle.felm_meaning.specs.Meaning.{changes}
use Rattle.felm_meaning.specs.Journals.{inputs_in, entered, IsLegal}
use Rattle.felm_meaning.proofs.Fronts.{changes-prefix}
use Rattle.felm_meaning.proofs.Legal.{source_is_one}

-- the sources of the events, in order
abbrev pub sources_of : List Event → List ℕ
sources_of events = map (λ event. event.source) events

-- the event behind a front
item_behind : (front more : List Event) (e : Event) → slice_get (front ++ e ∷ more) (length front) ≡ Some e
item_behind [] more e = refl
item_behind (x ∷ xs) more e = item_behind xs more e

-- events are equal by their parts
same_event : (e d : Event) → e.source ≡ d.source → e.value ≡ d.value → e ≡ d
same_event e d s v = λ i. record { source = s i; value = v i }

module _ (g : GraphValue) (b : ℕ) (script : List Event) where
  -- an input's event is the next one of the script
  input_next : (front more : List Event) (e : Event) → IsLegal g b script (front ++ e ∷ more) → is_input g.nodes e.source ≡ true
      → (rest : List Event) × (script ≡ inputs_in g front ++ e ∷ rest)
  unfolding inputs_in
  input_next front more e legal input =
      let split : inputs_in g (front ++ e ∷ more) ≡ inputs_in g front ++ inputs_in g (e ∷ more) =
      filter-append (λ x. is_input g.nodes x.source) front (e ∷ more) in
      let first : inputs_in g (e ∷ more) ≡ e ∷ inputs_in g more = ap (λ (t : Bool). cond t (e ∷ inputs_in g more) (inputs_in g more)) input in (
        inputs_in g more ++ legal.scripted.0,
        legal.scripted.1 ∙ ap (λ events. events ++ legal.scripted.0) (split ∙ ap (λ events. inputs_in g front ++ events) first)
            ∙ append_assoc (inputs_in g front) (e ∷ inputs_in g more) legal.scripted.0,
      )

  -- an async's event has its value by the events before it
  async_value : (front more : List Event) (e : Event) (x : ℕ) → IsLegal g b script (front ++ e ∷ more) → inner g.nodes e.source ≡ Some x
      → slice_get (changes g b front x (length front)) (entered front e.source) ≡ Some e.value
  async_value front more e x legal async =
      let whole : length front ≤ length front = omega arith in
      ap (λ (vs : List Value). slice_get vs (entered front e.source)) (sym (changes-prefix g b front (e ∷ more) x (length front) whole))
      ∙ ap (λ (es : List Event). slice_get (changes g b (front ++ e ∷ more) x (length front)) (entered es e.source)) (sym (take_at front (e ∷ more) (length front) refl))
      ∙ legal.caused (length front) e x (item_behind front more e) async

  -- so the next event of a source is determined by the events before it
  one_next : (front more rest : List Event) (e d : Event) → IsLegal g b script (front ++ e ∷ more) → IsLegal g b script (front ++ d ∷ rest)
      → e.source ≡ d.source → e ≡ d
  one_next front more rest e d one other same = go (source_is_one g.nodes e.source (one.sources (length front) e (item_behind front more e)))
    where
      go : (is_input g.nodes e.source ≡ true) ⊎ ((x : ℕ) × (inner g.nodes e.source ≡ Some x)) → e ≡ d
      go (inl input) =
          let this = input_next front more e one input in
          let that = input_next front rest d other (ap (is_input g.nodes) (sym same) ∙ input) in
          let heads : e ∷ this.0 ≡ d ∷ that.0 =
          append_cancel_left (inputs_in g front) (e ∷ this.0) (d ∷ that.0) (sym this.1 ∙ that.1) in
          cc heads
      go (inr (x, async)) =
          let this = async_value front more e x one async in
          let that = async_value front rest d x other (ap (inner g.nodes) (sym same) ∙ async) in
          same_event e d same
          (same_Some e.value d.value
          (sym this ∙ ap (λ (a : ℕ). slice_get (changes g b front x (length front)) (entered front a)) same ∙ that))

  -- behind a common front the sources fix the events
  same_behind : (front one other : List Event) → IsLegal g b script (front ++ one) → IsLegal g b script (front ++ other) → sources_of one ≡ sources_of other
      → one ≡ other
  same_behind front [] [] legal legal' same = refl
  same_behind front [] (d ∷ rest) legal legal' same = absurd (cc same)
  same_behind front (e ∷ more) [] legal legal' same = absurd (cc same)
  same_behind front (e ∷ more) (d ∷ rest) legal legal' same =
      let source : e.source ≡ d.source = cc same in
      let sources : sources_of more ≡ sources_of rest = cc same in
      let event : e ≡ d = one_next front more rest e d legal legal' source in
      let this : IsLegal g b script ((front ++ e ∷ []) ++ more) = subst (IsLegal g b script) (sym (append_assoc front (e ∷ []) more)) legal in
      let that : IsLegal g b script ((front ++ e ∷ []) ++ rest) =
      subst (λ (x : Event). IsLegal g b script ((front ++ x ∷ []) ++ rest)) (sym event) (subst (IsLegal g b script) (sym (append_assoc front (d ∷ []) rest)) legal') in
      let events : more ≡ rest = same_behind (front ++ e ∷ []) more rest this that sources in
      λ i. event i ∷ events i

  -- the sources of a legal journal's events fix it
  pub same_journals : (one other : List Event) → IsLegal g b script one → IsLegal g b script other → sources_of one ≡ sources_of other → one ≡ other
  same_journals one other legal legal' same = same_behind [] one other legal legal' same
