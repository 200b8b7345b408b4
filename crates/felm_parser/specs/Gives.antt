-- What the parser's functions answer, against reading.
use Rattle.std.specs.Prelude.{◌≡◌, Option, Some, None, Result, Ok, Err}
use Rattle.felm_syntax.specs.FirstFaults.{Fault, Syntax, Depth, Twice}
use Rattle.felm_parser.specs.declared.fault.ParseFault.{ParseFault}
use Rattle.felm_parser.specs.declared.fault.ParseFault.TheVariants as fault

-- a fault is the one that reading gives, unless memory ran out
abbrev pub Fails : {Y : Type 0} → ParseFault → Result Y Fault → Type 0
Fails fault.Memory read = Unit {0}
Fails (fault.Syntax at) read = read ≡ Err (Syntax at)
Fails (fault.Depth at) read = read ≡ Err (Depth at)
Fails (fault.Twice at) read = read ≡ Err (Twice at)

-- the fault of the tokens that a fault is, if any
abbrev pub fault_of : ParseFault → Option Fault
fault_of fault.Memory = None
fault_of (fault.Syntax at) = Some (Syntax at)
fault_of (fault.Depth at) = Some (Depth at)
fault_of (fault.Twice at) = Some (Twice at)

-- what a function returned, seen by view, is what reading gives, unless memory ran out
abbrev pub Gives : {X Y : Type 0} → (X → Y) → Result X ParseFault → Result Y Fault → Type 0
Gives view (Ok x) read = read ≡ Ok (view x)
Gives view (Err e) read = Fails e read
