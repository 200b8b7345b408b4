-- Each way on and out of the loop over a chain. What is left to read behind the part so far gives what all gives.
use Rattle.std.proofs.Common.{◌≡◌, ℕ, ◌-◌, ◌<◌, List, drop, Bool, refl, sym, ◌∙◌}
use Rattle.std.specs.Prelude.{Result, Ok, Some, None}
use Rattle.felm_syntax.specs.Expression.{Expression, Bin}
use Rattle.felm_lexer.specs.declared.token.Token.{Token}
use Rattle.felm_syntax.specs.declared.level.Level.{Level}
use Rattle.felm_term.specs.declared.op.Op.{Op}
use Rattle.felm_parser.specs.declared.fault.ParseFault.{ParseFault}
use Rattle.felm_parser.specs.declared.fault.ParseFault.TheVariants as fault
use Rattle.felm_parser.specs.Gives.{fault_of, Fails}
use Rattle.felm_syntax.specs.FirstFaults.{Fault}
use Rattle.felm_reading.specs.Reading.{◌>>=◌, Answer, reads_in, refused, starts_operand, operator_at, part_of, continues, place}
use Rattle.felm_parser.proofs.Steps.{fails, chain_step, chain_full, chain_end}

module _ (text : List ℕ) (room : ℕ) (l : Level) (left : Expression) (ts : List Token) (total : Answer Expression) (same : continues text (reads_in text room) l left ts ≡ total) where
  -- no operator stands here
  pub ends : None ≡ operator_at l ts → total ≡ Ok (left, ts)
  ends none = sym same ∙ chain_end text (reads_in text room) l left ts (sym none)

  -- an operator stands here, and there is no room for what stands behind it
  pub is_full : (sign : Op) (behind : List Token) (may : Bool) (e : ParseFault) → Some sign ≡ operator_at l ts → room ≡ 0 → behind ≡ drop 1 ts →
      may ≡ starts_operand behind → fault_of e ≡ Some (refused text may behind) → Fails e total
  is_full sign behind may e some none b m f =
      let full = chain_full text room l left sign ts (sym some) none in
      let faulty : fault_of e ≡ Some (refused text (starts_operand (drop 1 ts)) (drop 1 ts)) = rw (m, b) at f in
      fails e (refused text (starts_operand (drop 1 ts)) (drop 1 ts)) total faulty (sym same ∙ full)

  -- an operator stands here, and there is room
  one_more : (sign : Op) (behind : List Token) → Some sign ≡ operator_at l ts → 0 < room → behind ≡ drop 1 ts →
      total ≡ (part_of text (reads_in text (room - 1)) l behind >>= λ b. continues text (reads_in text (room - 1)) l (Bin sign left b.0 (place text ts)) b.1)
  one_more sign behind some p b = rw b (sym same ∙ chain_step text room l left sign ts (sym some) p)

  -- the part behind the operator has a fault
  pub fails_on : (sign : Op) (behind : List Token) (e : ParseFault) → Some sign ≡ operator_at l ts → 0 < room → behind ≡ drop 1 ts →
      Fails e (part_of text (reads_in text (room - 1)) l behind) → Fails e total
  fails_on sign behind fault.Memory some p b h = tt
  fails_on sign behind (fault.Syntax at) some p b h = one_more sign behind some p b ∙ rw h refl
  fails_on sign behind (fault.Depth at) some p b h = one_more sign behind some p b ∙ rw h refl
  fails_on sign behind (fault.Twice at) some p b h = one_more sign behind some p b ∙ rw h refl

  -- the part behind the operator was read
  pub goes_on : (sign : Op) (behind : List Token) (at : ℕ) (right made : Expression) (more : List Token) → Some sign ≡ operator_at l ts → 0 < room → behind ≡ drop 1 ts →
      at ≡ place text ts → part_of text (reads_in text (room - 1)) l behind ≡ Ok (right, more) → ◌≡◌ {A = Result Expression Fault} (Ok (Bin sign left right at)) (Ok made) →
      continues text (reads_in text (room - 1)) l made more ≡ total
  goes_on sign behind at right made more some p b a h k =
      let e : Bin sign left right at ≡ made = cc in
      let step : total ≡ continues text (reads_in text (room - 1)) l (Bin sign left right (place text ts)) more = one_more sign behind some p b ∙ rw h refl in
      rw (← e, a) (sym step)
