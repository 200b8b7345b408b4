-- Two texts come to at most one plan or fault.
use Rattle.std.proofs.Common.{◌≡◌, ℕ, List, Some, sym, ap, ◌∙◌, subst}
use Rattle.std.specs.Prelude.{Ok, Err}
use Rattle.felm_syntax.specs.declared.program.Program.{Program}
use Rattle.felm_types.specs.FirstFault.{program_fault}
use Rattle.felm_script.specs.Script.{script_of}
use Rattle.felm_printer.specs.declared.status.Status.{Status}
use Rattle.felm_printer.specs.declared.status.Status.TheVariants.{Syntax, Typing, Script, Stage}
use Rattle.felm_printer.specs.declared.status.SyntaxCause.{SyntaxCause}
use Rattle.felm_printer.specs.declared.status.TypingCause.{TypingCause}
use Rattle.felm_printer.specs.declared.status.TypingCause.TheVariants.{Untyped, Unknown, IllFormed, MainType}
use Rattle.felm_printer.specs.declared.status.ScriptCause.{ScriptCause}
use Rattle.felm_printer.specs.declared.status.ScriptCause.TheVariants.{Line, Name, Literal}
use Rattle.felm_printer.specs.declared.status.StageCause.{StageCause}
use Rattle.felm_plans.specs.Faults.{IsSyntaxFault, IsTypingFault, type_fault, script_fault}
use Rattle.felm_plans.specs.Plans.{Planned, HavePlan, IsTypedText, IsUnstaged, IsScriptFault, AreUnplanned}
use Rattle.felm_plans.specs.Laws.{TextsComeToOnePlan}
use Rattle.felm_plans.proofs.Refusals.{one_text, one_fault, faulty_texts, faulty_programs}
use Rattle.felm_plans.proofs.Graphs.{one_plan, one_stage_fault, staged_or_not}

-- ---- faults by their cause and place

same_type_fault : (c d : TypingCause) (m n : ℕ) → type_fault c m ≡ type_fault d n → Typing c m ≡ Typing d n
same_type_fault Untyped Untyped m n e = cc
same_type_fault Unknown Unknown m n e = cc
same_type_fault IllFormed IllFormed m n e = cc
same_type_fault MainType MainType m n e = cc
same_type_fault Untyped _ m n e = cc
same_type_fault Unknown _ m n e = cc
same_type_fault IllFormed _ m n e = cc
same_type_fault MainType _ m n e = cc

same_script_fault : (c d : ScriptCause) (m n : ℕ) → script_fault c m ≡ script_fault d n → Script c m ≡ Script d n
same_script_fault Line Line m n e = cc
same_script_fault Name Name m n e = cc
same_script_fault Literal Literal m n e = cc
same_script_fault Line _ m n e = cc
same_script_fault Name _ m n e = cc
same_script_fault Literal _ m n e = cc

-- ---- how far two texts are accepted

-- a text is a typed program
abbrev Typed : List ℕ → Type 0
Typed program = (read : Program) × IsTypedText program read

module _ (program script : List ℕ) (budget : ℕ) where
  -- a typed program has no fault of its text or of its types
  no_syntax : (cause : SyntaxCause) (at : ℕ) → IsSyntaxFault program cause at → Typed program → ⊥
  no_syntax cause at h t = faulty_texts program cause at t.0 h t.1.text_of

  no_typing : (cause : TypingCause) (at : ℕ) → IsTypingFault program cause at → Typed program → ⊥
  no_typing cause at h t = faulty_programs program cause at t.0 h t.1.text_of t.1.typed

  same_program : (p q : Typed program) → q.0 ≡ p.0
  same_program p q = one_text program q.0 p.0 q.1.text_of p.1.text_of

  of_plan : (plan : Planned) → HavePlan program script budget plan → Typed program
  of_plan plan h = (h.read, h.typed)

  of_script : (cause : ScriptCause) (line : ℕ) → IsScriptFault program script cause line → Typed program
  of_script cause line h = (h.read, h.typed)

  of_stage : (cause : StageCause) → AreUnplanned program script budget cause → Typed program
  of_stage cause h = (h.read, h.typed)

  -- a script that is refused isn't accepted
  script_or_plan : (cause : ScriptCause) (line : ℕ) (plan : Planned) → IsScriptFault program script cause line → HavePlan program script budget plan → ⊥
  script_or_plan cause line plan h k =
      let same = same_program (h.read, h.typed) (k.read, k.typed) in
      let e : Err (script_fault cause line) ≡ Ok plan.script = sym h.refused ∙ subst (λ (read : Program). script_of read.inputs script ≡ Ok plan.script) same k.events in cc

  script_or_stage : (cause : ScriptCause) (line : ℕ) (why : StageCause) → IsScriptFault program script cause line → AreUnplanned program script budget why → ⊥
  script_or_stage cause line why h k =
      let same = same_program (h.read, h.typed) (k.read, k.typed) in
      let e : Err (script_fault cause line) ≡ Ok k.events = sym h.refused ∙ subst (λ (read : Program). script_of read.inputs script ≡ Ok k.events) same k.accepted in cc

  -- nor has a graph that is too large, or takes too long, a layout
  stage_or_plan : (why : StageCause) (plan : Planned) → AreUnplanned program script budget why → HavePlan program script budget plan → ⊥
  stage_or_plan why plan h k =
      let same = same_program (k.read, k.typed) (h.read, h.typed) in
      staged_or_not k.read budget plan.graph why k.staged (subst (λ (read : Program). IsUnstaged read budget why) same h.unstaged)

  same_typing : (c d : TypingCause) (m n : ℕ) → IsTypingFault program c m → IsTypingFault program d n → Typing c m ≡ Typing d n
  same_typing c d m n h k =
      let e : Some (type_fault c m) ≡ Some (type_fault d n) = sym h.2 ∙ ap program_fault (one_text program h.0 k.0 h.1 k.1) ∙ k.2 in
      same_type_fault c d m n cc

  same_script : (c d : ScriptCause) (m n : ℕ) → IsScriptFault program script c m → IsScriptFault program script d n → Script c m ≡ Script d n
  same_script c d m n h k =
      let same = same_program (h.read, h.typed) (k.read, k.typed) in
      let e : Err (script_fault c m) ≡ Err (script_fault d n) =
      sym h.refused ∙ subst (λ (read : Program). script_of read.inputs script ≡ Err (script_fault d n)) same k.refused in
      same_script_fault c d m n cc

  same_stage : (c d : StageCause) → AreUnplanned program script budget c → AreUnplanned program script budget d → Stage c ≡ Stage d
  same_stage c d h k =
      let same = same_program (h.read, h.typed) (k.read, k.typed) in
      ap Stage (one_stage_fault h.read budget c d h.unstaged (subst (λ (read : Program). IsUnstaged read budget d) same k.unstaged))

-- ---- all that they may come to

pub one_outcome : TextsComeToOnePlan
one_outcome b p s (Ok one) (Ok other) h k = ap Ok (one_plan p s b one other h k)
one_outcome b p s (Ok one) (Err (Syntax c m)) h k = absurd (no_syntax p s b c m k (of_plan p s b one h))
one_outcome b p s (Ok one) (Err (Typing c m)) h k = absurd (no_typing p s b c m k (of_plan p s b one h))
one_outcome b p s (Ok one) (Err (Script c m)) h k = absurd (script_or_plan p s b c m one k h)
one_outcome b p s (Ok one) (Err (Stage c)) h k = absurd (stage_or_plan p s b c one k h)
one_outcome b p s (Err (Syntax c m)) (Ok other) h k = absurd (no_syntax p s b c m h (of_plan p s b other k))
one_outcome b p s (Err (Syntax c m)) (Err (Syntax d n)) h k = ap Err (one_fault p c d m n h k)
one_outcome b p s (Err (Syntax c m)) (Err (Typing d n)) h k = absurd (faulty_texts p c m k.0 h k.1)
one_outcome b p s (Err (Syntax c m)) (Err (Script d n)) h k = absurd (no_syntax p s b c m h (of_script p s b d n k))
one_outcome b p s (Err (Syntax c m)) (Err (Stage d)) h k = absurd (no_syntax p s b c m h (of_stage p s b d k))
one_outcome b p s (Err (Typing c m)) (Ok other) h k = absurd (no_typing p s b c m h (of_plan p s b other k))
one_outcome b p s (Err (Typing c m)) (Err (Syntax d n)) h k = absurd (faulty_texts p d n h.0 k h.1)
one_outcome b p s (Err (Typing c m)) (Err (Typing d n)) h k = ap Err (same_typing p s b c d m n h k)
one_outcome b p s (Err (Typing c m)) (Err (Script d n)) h k = absurd (no_typing p s b c m h (of_script p s b d n k))
one_outcome b p s (Err (Typing c m)) (Err (Stage d)) h k = absurd (no_typing p s b c m h (of_stage p s b d k))
one_outcome b p s (Err (Script c m)) (Ok other) h k = absurd (script_or_plan p s b c m other h k)
one_outcome b p s (Err (Script c m)) (Err (Syntax d n)) h k = absurd (no_syntax p s b d n k (of_script p s b c m h))
one_outcome b p s (Err (Script c m)) (Err (Typing d n)) h k = absurd (no_typing p s b d n k (of_script p s b c m h))
one_outcome b p s (Err (Script c m)) (Err (Script d n)) h k = ap Err (same_script p s b c d m n h k)
one_outcome b p s (Err (Script c m)) (Err (Stage d)) h k = absurd (script_or_stage p s b c m d h k)
one_outcome b p s (Err (Stage c)) (Ok other) h k = absurd (stage_or_plan p s b c other h k)
one_outcome b p s (Err (Stage c)) (Err (Syntax d n)) h k = absurd (no_syntax p s b d n k (of_stage p s b c h))
one_outcome b p s (Err (Stage c)) (Err (Typing d n)) h k = absurd (no_typing p s b d n k (of_stage p s b c h))
one_outcome b p s (Err (Stage c)) (Err (Script d n)) h k = absurd (script_or_stage p s b d n c k h)
one_outcome b p s (Err (Stage c)) (Err (Stage d)) h k = ap Err (same_stage p s b c d h k)
one_outcome b p s (Ok one) (Err _) h k = absurd k
one_outcome b p s (Err (Syntax c m)) (Err _) h k = absurd k
one_outcome b p s (Err (Typing c m)) (Err _) h k = absurd k
one_outcome b p s (Err (Script c m)) (Err _) h k = absurd k
one_outcome b p s (Err (Stage c)) (Err _) h k = absurd k
one_outcome b p s (Err _) other h k = absurd h
