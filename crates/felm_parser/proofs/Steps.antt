-- One level of reading, in the form in which the code goes on, and the faults of a token for which there is no room.
use Rattle.std.proofs.Common.{◌≡◌, ℕ, zero, suc, ◌-◌, ◌<◌, List, drop, refl, arith, ap}
use Rattle.std.specs.Prelude.{Result, Ok, Err, Some, None, true, false, if◌then◌else◌}
use Rattle.felm_syntax.specs.Expression.{Expression, Bin, App}
use Rattle.felm_lexer.specs.declared.token.Token.{Token}
use Rattle.felm_syntax.specs.declared.level.Level.{Level}
use Rattle.felm_term.specs.declared.op.Op.{Op}
use Rattle.felm_parser.specs.declared.fault.ParseFault.{ParseFault}
use Rattle.felm_parser.specs.declared.fault.ParseFault.TheVariants as fault
use Rattle.felm_parser.specs.Gives.{fault_of, Fails}
use Rattle.felm_syntax.specs.FirstFaults.{Fault, Depth}
use Rattle.felm_reading.specs.Reading.{refused, place, starts_operand, starts_atom, operator_at, ◌>>=◌, Reader, Whole, Right, Arguments, applied, type_in, whole_type, reads_in, expr, applies, part_of, continues, atom}

-- the fault that reading meets
pub fails : {Y : Type 0} (e : ParseFault) (f : Fault) (read : Result Y Fault) → fault_of e ≡ Some f → read ≡ Err f → Fails e read
fails fault.Memory f read h r = tt
fails (fault.Syntax at) f read h r = cc
fails (fault.Depth at) f read h r = cc
fails (fault.Twice at) f read h r = cc

-- a type where there is room
pub type_in-suc : (text : List ℕ) (room : ℕ) (ts : List Token) → 0 < room → type_in text room ts ≡ whole_type text (type_in text (room - 1)) ts
unfolding type_in
type_in-suc text zero ts h = absurd (omega arith)
type_in-suc text (suc room) ts h =
    let e : suc room - 1 ≡ room = omega arith in rw e refl

-- an expression where there is room
pub whole-suc : (text : List ℕ) (room : ℕ) (ts : List Token) → 0 < room →
    reads_in text room Whole ts ≡ expr text (reads_in text (room - 1)) (type_in text (room - 1)) ts
unfolding reads_in
whole-suc text zero ts h = absurd (omega arith)
whole-suc text (suc room) ts h =
    let e : suc room - 1 ≡ room = omega arith in rw e refl

-- what stands behind an operator, where there is room
pub right-suc : (text : List ℕ) (room : ℕ) (l : Level) (sign : Op) (at : ℕ) (left : Expression) (ts : List Token) → 0 < room →
    reads_in text room (Right l sign at left) ts
    ≡ (part_of text (reads_in text (room - 1)) l ts >>= λ b. continues text (reads_in text (room - 1)) l (Bin sign left b.0 at) b.1)
unfolding reads_in
right-suc text zero l sign at left ts h = absurd (omega arith)
right-suc text (suc room) l sign at left ts h =
    let e : suc room - 1 ≡ room = omega arith in rw e refl

-- what stands behind an argument, where there is room
pub arguments-suc : (text : List ℕ) (room : ℕ) (f : Expression) (ts : List Token) → 0 < room →
    reads_in text room (Arguments f) ts ≡ applies text (reads_in text (room - 1)) f ts
unfolding reads_in
arguments-suc text zero f ts h = absurd (omega arith)
arguments-suc text (suc room) f ts h =
    let e : suc room - 1 ≡ room = omega arith in rw e refl

-- a chain goes on with a part and less room
pub chain_step : (text : List ℕ) (room : ℕ) (l : Level) (left : Expression) (sign : Op) (ts : List Token) → operator_at l ts ≡ Some sign → 0 < room →
    continues text (reads_in text room) l left ts
    ≡ (part_of text (reads_in text (room - 1)) l (drop 1 ts) >>= λ b. continues text (reads_in text (room - 1)) l (Bin sign left b.0 (place text ts)) b.1)
unfolding continues
chain_step text room l left sign ts h p = rw (h, continues) (right-suc text room l sign (place text ts) left (drop 1 ts) p)

-- a chain that has no room for what stands behind its operator
pub chain_full : (text : List ℕ) (room : ℕ) (l : Level) (left : Expression) (sign : Op) (ts : List Token) → operator_at l ts ≡ Some sign → room ≡ 0 →
    continues text (reads_in text room) l left ts ≡ Err (refused text (starts_operand (drop 1 ts)) (drop 1 ts))
unfolding continues reads_in
chain_full text room l left sign ts h p = rw (h, continues, p) refl

-- a chain ends where no operator of its level stands
pub chain_end : (text : List ℕ) (inner : Reader) (l : Level) (left : Expression) (ts : List Token) → operator_at l ts ≡ None →
    continues text inner l left ts ≡ Ok (left, ts)
unfolding continues
chain_end text inner l left ts h = rw (h, continues) refl

-- an application goes on with an argument and less room
pub applies_step : (text : List ℕ) (room : ℕ) (f : Expression) (ts : List Token) → starts_atom ts ≡ true → 0 < room →
    applies text (reads_in text room) f ts
    ≡ (atom text (reads_in text room) ts >>= λ a. applies text (reads_in text (room - 1)) (App f a.0 (place text ts)) a.1)
unfolding applies
applies_step text room f ts h p = rw h (ap (λ k. atom text (reads_in text room) ts >>= k) (λ i a. arguments-suc text room (App f a.0 (place text ts)) a.1 p i))

-- an application that has room for one more argument alone
pub applies_last : (text : List ℕ) (room : ℕ) (f : Expression) (ts : List Token) → starts_atom ts ≡ true → room ≡ 0 →
    applies text (reads_in text room) f ts
    ≡ (atom text (reads_in text room) ts >>= λ a. if starts_atom a.1 then Err (Depth (place text a.1)) else Ok (App f a.0 (place text ts), a.1))
unfolding applies reads_in
applies_last text room f ts h p = rw (h, p) refl

-- an application ends where no atom stands
pub applies_end : (text : List ℕ) (inner : Reader) (f : Expression) (ts : List Token) → starts_atom ts ≡ false → applies text inner f ts ≡ Ok (f, ts)
unfolding applies
applies_end text inner f ts h = rw h refl

-- an application is an atom and its arguments
pub applied-is : (text : List ℕ) (inner : Reader) (ts : List Token) →
    applied text inner ts ≡ (atom text inner ts >>= λ f. applies text inner f.0 f.1)
unfolding applied
applied-is text inner ts = refl

pub ruleset chains = (fails, chain_step, chain_full, chain_end)

pub ruleset applications = (applied-is, applies_step, applies_last, applies_end)

pub ruleset steps = (fails, type_in-suc, whole-suc)
