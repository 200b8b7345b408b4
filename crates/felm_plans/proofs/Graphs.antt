-- Programs and their graphs, scripts and their events: that there is one at most, and what it is.
use Rattle.std.proofs.Common.{◌≡◌, ℕ, ◌≤◌, List, [], length, Some, None, refl, sym, ap, ◌∙◌, subst, arith}
use Rattle.std.specs.Prelude.{Ok, Err, IsTrue}
use Rattle.felm_term.specs.CoreType.{CoreType, Unit, Int, Arrow, Signal, is_simple_signal}
use Rattle.felm_term.specs.Typing.{HasType}
use Rattle.felm_term.specs.Inputs.{signal_types}
use Rattle.felm_term.specs.CoreTerm.{CoreTerm}
use Rattle.felm_term.specs.Events.{all_fit}
use Rattle.felm_term.specs.declared.event.Event.{Event}
use Rattle.felm_term.specs.declared.input.InputDecl.{InputDecl}
use Rattle.felm_syntax.specs.ProgramText.{IsProgramText}
use Rattle.felm_syntax.specs.declared.program.Program.{Program}
use Rattle.felm_types.specs.Typed.{IsTyped, program_term}
use Rattle.felm_graph.specs.FinishedPair.{FinishedPair, FinishGives, ReachesFinished}
use Rattle.felm_graph.specs.GraphValue.{GraphValue}
use Rattle.felm_graph.specs.Graphs.{IsGraph, most_nodes}
use Rattle.felm_graph.specs.Layout.{layout}
use Rattle.felm_graph.proofs.Finishes.{finish_once}
use Rattle.felm_graph.proofs.Whole.{layout_graph}
use Rattle.felm_meaning.specs.Journals.{NamesInputs}
use Rattle.felm_meaning.specs.Types.{EventsFit}
use Rattle.felm_meaning.proofs.Fitting.{script_fits}
use Rattle.felm_stage.specs.Outcome.{IsProgram, IsLarge}
use Rattle.felm_stage.proofs.Ends.{pair_typed}
use Rattle.felm_printer.specs.declared.status.Status.{Status}
use Rattle.felm_printer.specs.declared.status.Status.TheVariants as status
use Rattle.felm_printer.specs.declared.status.StageCause.{StageCause}
use Rattle.felm_printer.specs.declared.status.StageCause.TheVariants.{Over, Large}
use Rattle.felm_script.specs.Script.{script_of}
use Rattle.felm_script.proofs.Fits.{fit}
use Rattle.felm_plans.specs.Faults.{IsStageFault}
use Rattle.felm_plans.specs.Plans.{Planned, HavePlan, IsTypedText, IsStagedAs, IsStagedTerm, IsUnstaged, IsTermFault, IsPlanFault, OrMemory}
use Rattle.felm_plans.proofs.Refusals.{one_text}

-- a program has one core term at most
one_term : (program : Program) (t u : CoreTerm) → program_term program ≡ Some t → program_term program ≡ Some u → t ≡ u
one_term program t u p q = let e : Some t ≡ Some u = sym p ∙ q in cc

-- a core term has one finished pair at most within a budget
one_pair : (term : CoreTerm) (budget : ℕ) (p q : FinishedPair) → FinishGives term budget (Some p) → FinishGives term budget (Some q) → p ≡ q
one_pair term budget p q h k = let e : Some p ≡ Some q = finish_once term budget (Some p) (Some q) h k in cc

-- and one graph
one_staged_term : (inputs : List InputDecl) (term : CoreTerm) (budget : ℕ) (g h : GraphValue) → IsStagedTerm inputs term budget g
    → IsStagedTerm inputs term budget h → g ≡ h
one_staged_term inputs term budget g h p q =
    p.2.0 ∙ ap (λ (pair : FinishedPair). layout inputs pair.shared pair.last) (one_pair term budget p.0 q.0 p.1 q.1) ∙ sym q.2.0

pub one_staged : (program : Program) (budget : ℕ) (g h : GraphValue) → IsStagedAs program budget g → IsStagedAs program budget h → g ≡ h
one_staged program budget g h p q =
    one_staged_term program.inputs p.0 budget g h p.2 (subst (λ t. IsStagedTerm program.inputs t budget h) (one_term program q.0 p.0 q.1 p.1) q.2)

-- a core term with a graph has no fault of stage one
staged_term_or_not : (inputs : List InputDecl) (term : CoreTerm) (budget : ℕ) (g : GraphValue) (cause : StageCause) → IsStagedTerm inputs term budget g
    → IsStageFault inputs budget term cause → ⊥
staged_term_or_not inputs term budget g Over p q = let e : Some p.0 ≡ None = finish_once term budget (Some p.0) None p.1 q in cc
staged_term_or_not inputs term budget g Large p q =
    let same = one_pair term budget q.0 p.0 q.1 p.1 in
    let large : IsLarge inputs p.0 = subst (IsLarge inputs) same q.2 in
    let few : length (layout inputs p.0.shared p.0.last).nodes ≤ most_nodes = subst (λ (h : GraphValue). length h.nodes ≤ most_nodes) p.2.0 p.2.1 in
    omega arith

-- nor has a program
pub staged_or_not : (program : Program) (budget : ℕ) (g : GraphValue) (cause : StageCause) → IsStagedAs program budget g → IsUnstaged program budget cause → ⊥
staged_or_not program budget g cause p q =
    staged_term_or_not program.inputs q.0 budget g cause (subst (λ t. IsStagedTerm program.inputs t budget g) (one_term program p.0 q.0 p.1 q.1) p.2) q.2

-- a core term has one fault of stage one at most
one_term_fault : (inputs : List InputDecl) (term : CoreTerm) (budget : ℕ) (one other : StageCause) → IsStageFault inputs budget term one
    → IsStageFault inputs budget term other → one ≡ other
one_term_fault inputs term budget Over Over p q = refl
one_term_fault inputs term budget Large Large p q = refl
one_term_fault inputs term budget Over Large p q = let e : Some q.0 ≡ None = finish_once term budget (Some q.0) None q.1 p in cc
one_term_fault inputs term budget Large Over p q = let e : Some p.0 ≡ None = finish_once term budget (Some p.0) None p.1 q in cc

-- and so has a program
pub one_stage_fault : (program : Program) (budget : ℕ) (one other : StageCause) → IsUnstaged program budget one → IsUnstaged program budget other → one ≡ other
one_stage_fault program budget one other p q =
    one_term_fault program.inputs q.0 budget one other (subst (λ t. IsStageFault program.inputs budget t one) (one_term program p.0 q.0 p.1 q.1) p.2) q.2

-- ---- plans

-- one script has one list of events at most
pub one_events : (inputs : List InputDecl) (script : List ℕ) (one other : List Event) → script_of inputs script ≡ Ok one → script_of inputs script ≡ Ok other → one ≡ other
one_events inputs script one other p q = let e : Ok one ≡ Ok other = sym p ∙ q in cc

-- two texts have at most one plan
pub one_plan : (program script : List ℕ) (budget : ℕ) (one other : Planned) → HavePlan program script budget one → HavePlan program script budget other → one ≡ other
one_plan program script budget one other p q =
    let same = one_text program q.read p.read q.typed.text_of p.typed.text_of in
    let graphs = one_staged p.read budget one.graph other.graph p.staged (subst (λ (read : Program). IsStagedAs read budget other.graph) same q.staged) in
    let events = one_events p.read.inputs script one.script other.script p.events (subst (λ (read : Program). script_of read.inputs script ≡ Ok other.script) same q.events) in
    λ i. record { graph = graphs i; script = events i }

-- ---- what the graph of a program keeps

-- a signal of a simple type is a signal
signal_of : (u : CoreType) → IsTrue (is_simple_signal u) → (t : CoreType) × (u ≡ Signal t)
signal_of Unit h = cc
signal_of Int h = cc
signal_of (Arrow p q) h = cc
signal_of (Signal t) h = (t, refl)

-- the core term of a typed program is a closed signal
is_program : (program : Program) (term : CoreTerm) → IsTyped program → program_term program ≡ Some term → IsProgram program.inputs term
is_program program term typed is =
    let u = signal_of typed.0 typed.1 in
    let same : typed.2.0 ≡ term = one_term program typed.2.0 term typed.2.1 is in (
      u.0,
      subst (λ (t : CoreTerm). HasType (signal_types program.inputs) [] [] t (Signal u.0)) same
          (subst (HasType (signal_types program.inputs) [] [] typed.2.0) u.1 typed.2.2),
    )

-- the graph of a typed program is one, with the program's inputs
pub staged_is_graph : (program : Program) (budget : ℕ) (g : GraphValue) → IsTyped program → IsStagedAs program budget g → IsGraph g × (g.inputs ≡ program.inputs)
staged_is_graph program budget g typed staged =
    let pair = staged.2.0 in
    let reaches : ReachesFinished staged.0 pair = staged.2.1.1 in
    let closed = is_program program staged.0 typed staged.1 in
    let few : length (layout program.inputs pair.shared pair.last).nodes ≤ most_nodes =
    subst (λ (h : GraphValue). length h.nodes ≤ most_nodes) staged.2.2.0 staged.2.2.1 in
    let graph = layout_graph program.inputs pair.shared pair.last reaches.0 (pair_typed program.inputs staged.0 pair closed reaches) few in
    (subst IsGraph (sym staged.2.2.0) graph, ap (λ (h : GraphValue). h.inputs) staged.2.2.0)

-- the graph of a plan is one, and the script names its inputs, with values of their types
pub plan_keeps : (program script : List ℕ) (budget : ℕ) (plan : Planned) → HavePlan program script budget plan
    → IsGraph plan.graph × NamesInputs plan.graph.nodes plan.script × EventsFit plan.graph plan.script
plan_keeps program script budget plan h =
    let graph = staged_is_graph h.read budget plan.graph h.typed.typed h.staged in
    let fits : IsTrue (all_fit plan.graph.inputs plan.script) =
    subst (λ (inputs : List InputDecl). IsTrue (all_fit inputs plan.script)) (sym graph.1) (fit h.read.inputs script plan.script h.events) in
    let named = script_fits plan.graph plan.script graph.0 fits in
    (graph.0, named.0, named.1)

-- ---- as the code comes to them

-- the graph of a program's core term is the program's
module _ (text : List ℕ) (budget : ℕ) (program : Program) (inputs : List InputDecl) (term : CoreTerm) (is_text : IsProgramText text program)
    (is_typed : IsTyped program) (is_term : program_term program ≡ Some term) (are_inputs : inputs ≡ program.inputs) where
  typed_text : IsTypedText text program
  typed_text = record { text_of = is_text; typed = is_typed }

  staged_of : (g : GraphValue) → IsStagedTerm inputs term budget g → IsStagedAs program budget g
  staged_of g h = (term, is_term, subst (λ is. IsStagedTerm is term budget g) are_inputs h)

  unstaged_of : (cause : StageCause) → IsStageFault inputs budget term cause → IsUnstaged program budget cause
  unstaged_of cause h = (term, is_term, subst (λ is. IsStageFault is budget term cause) are_inputs h)

  module _ (script : List ℕ) (events : List Event) (are_events : script_of inputs script ≡ Ok events) where
    events_of : script_of program.inputs script ≡ Ok events
    events_of = subst (λ is. script_of is script ≡ Ok events) are_inputs are_events

    -- with the events of a script it is a plan
    pub have_plan : (g : GraphValue) (plan : Planned) → IsStagedTerm inputs term budget g → plan.graph ≡ g → plan.script ≡ events → HavePlan text script budget plan
    have_plan g plan h e f = record {
      read = program;
      typed = typed_text;
      events = events_of ∙ ap Ok (sym f);
      staged = subst (IsStagedAs program budget) (sym e) (staged_of g h);
    }

    -- and where there is no graph, no plan
    pub plan_fault : (status : Status) → OrMemory (IsTermFault inputs term budget) status → OrMemory (IsPlanFault budget text script) status
    plan_fault (status.Stage cause) h = record { read = program; typed = typed_text; events = events; accepted = events_of; unstaged = unstaged_of cause h }
    plan_fault status.Memory h = tt
    plan_fault status.Success h = absurd h
    plan_fault status.Usage h = absurd h
    plan_fault (status.Read w) h = absurd h
    plan_fault (status.TooLong w) h = absurd h
    plan_fault (status.Syntax cause at) h = absurd h
    plan_fault (status.Typing cause at) h = absurd h
    plan_fault (status.Script cause line) h = absurd h
    plan_fault (status.Turn node position) h = absurd h
    plan_fault status.Journal h = absurd h
    plan_fault status.Write h = absurd h
