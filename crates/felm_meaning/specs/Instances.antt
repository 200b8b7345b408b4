-- Runs worked out by hand.
use Rattle.std.specs.Prelude.{◌≡◌, ℕ, List, [], ◌∷◌, Option, Some, None, length, pos}
use Rattle.felm_term.specs.CoreType.{CoreType, Int}
use Rattle.felm_term.specs.CoreType as type
use Rattle.felm_term.specs.CoreTerm.{CoreTerm, Var, Lam, Bin, If}
use Rattle.felm_term.specs.CoreTerm as term
use Rattle.felm_term.specs.declared.op.Op.TheVariants as op
use Rattle.felm_term.specs.declared.value.Value.{Value}
use Rattle.felm_term.specs.declared.value.Value.TheVariants as value
use Rattle.felm_term.specs.declared.message.Message.{Message}
use Rattle.felm_term.specs.declared.message.Message.TheVariants.{Change, NoChange}
use Rattle.felm_term.specs.declared.event.Event.{Event}
use Rattle.felm_term.specs.declared.input.InputDecl.{InputDecl}
use Rattle.felm_term.specs.declared.input.InputTy.TheVariants as input
use Rattle.felm_graph.specs.declared.node.Node.{Node}
use Rattle.felm_graph.specs.declared.node.NodeKind.TheVariants as kind
use Rattle.felm_graph.specs.GraphValue.{GraphValue}
use Rattle.felm_meaning.specs.Meaning.{val, sends}
use Rattle.felm_meaning.specs.Journals.{plain_journal}

-- ---- parts of graphs

abbrev pub number : ℕ → Value
number n = value.Int (pos n)

abbrev pub event : ℕ → Value → Event
event source v = record { source = source; value = v }

-- input x : int = 0
abbrev pub x : InputDecl
x = record { name = 120 ∷ []; ty = input.Int; default = pos 0 }

-- input u : unit = ()
abbrev pub u : InputDecl
u = record { name = 117 ∷ []; ty = input.Unit; default = pos 0 }

-- the node of input number n, whose values have this type
abbrev pub input_of : ℕ → CoreType → Node
input_of n t = record { kind = kind.Input n; ty = t }

-- \n:int. n * 10
abbrev pub times_ten : Value
times_ten = value.Fun (Lam Int (Bin op.Mul (Var 0) (term.Int (pos 10))))

-- \a:int.\b:int. a + b
abbrev pub add : Value
add = value.Fun (Lam Int (Lam Int (Bin op.Add (Var 1) (Var 0))))

-- \u:unit.\c:int. c + 1
abbrev pub count : Value
count = value.Fun (Lam type.Unit (Lam Int (Bin op.Add (Var 0) (term.Int (pos 1)))))

-- \n:int. if n then n + 1 else 0
abbrev pub unless_zero : Value
unless_zero = value.Fun (Lam Int (If (Var 0) (Bin op.Add (Var 0) (term.Int (pos 1))) (term.Int (pos 0))))

abbrev pub lift_of : Value → List ℕ → Node
lift_of f arguments = record { kind = kind.Lift f arguments; ty = Int }

abbrev pub foldp_of : Value → ℕ → ℕ → Node
foldp_of f base argument = record { kind = kind.Foldp f (number base) argument; ty = Int }

abbrev pub async_of : ℕ → Node
async_of argument = record { kind = kind.Async argument; ty = Int }

-- ---- runs

-- a plan, and what comes of it on one thread: the journal, the default of main, and its messages
pub record Run : Type 0 where
  pub graph : GraphValue
  pub budget : ℕ
  pub script : List Event
  pub limit : ℕ
  pub journal : List Event
  pub default : Option Value
  pub outputs : List Message

abbrev pub IsRun : Run → Type 0
IsRun r =
    (plain_journal r.graph r.budget r.script r.limit ≡ r.journal) × (val r.graph r.budget r.journal r.graph.main 0 ≡ r.default)
    × (sends r.graph r.budget r.journal r.graph.main (length r.journal) ≡ r.outputs)

abbrev pub AreRuns : List Run → Type 0
AreRuns [] = Unit {0}
AreRuns (r ∷ runs) = IsRun r × AreRuns runs

-- lift2 add x (async (lift1 times_ten x))
abbrev pub late_sum : GraphValue
late_sum = record {
  nodes = input_of 0 Int ∷ lift_of times_ten (0 ∷ []) ∷ async_of 1 ∷ lift_of add (0 ∷ 2 ∷ []) ∷ [];
  inputs = x ∷ [];
  main = 3;
}

-- let a = async x in lift2 add a a
abbrev pub doubled : GraphValue
doubled = record { nodes = input_of 0 Int ∷ async_of 0 ∷ lift_of add (1 ∷ 1 ∷ []) ∷ []; inputs = x ∷ []; main = 2 }

-- foldp count 0 u, beside x
abbrev pub clicks : GraphValue
clicks = record { nodes = input_of 0 type.Unit ∷ input_of 1 Int ∷ foldp_of count 0 0 ∷ []; inputs = u ∷ x ∷ []; main = 2 }

-- lift1 unless_zero x
abbrev pub guarded : GraphValue
guarded = record { nodes = input_of 0 Int ∷ lift_of unless_zero (0 ∷ []) ∷ []; inputs = x ∷ []; main = 1 }

abbrev pub runs : List Run
runs =
    -- an inner change enters before the script's next event
    record {
      graph = late_sum;
      budget = 10;
      script = event 0 (number 1) ∷ event 0 (number 2) ∷ [];
      limit = 9;
      journal = event 0 (number 1) ∷ event 2 (number 10) ∷ event 0 (number 2) ∷ event 2 (number 20) ∷ [];
      default = Some (number 0);
      outputs = Change (number 1) ∷ Change (number 11) ∷ Change (number 12) ∷ Change (number 22) ∷ [];
    }
    -- a shared async enters once
    ∷ record {
      graph = doubled;
      budget = 10;
      script = event 0 (number 3) ∷ [];
      limit = 9;
      journal = event 0 (number 3) ∷ event 1 (number 3) ∷ [];
      default = Some (number 0);
      outputs = NoChange (number 0) ∷ Change (number 6) ∷ [];
    }
    -- a foldp stays at another input's event
    ∷ record {
      graph = clicks;
      budget = 10;
      script = event 0 value.Unit ∷ event 1 (number 7) ∷ event 0 value.Unit ∷ [];
      limit = 9;
      journal = event 0 value.Unit ∷ event 1 (number 7) ∷ event 0 value.Unit ∷ [];
      default = Some (number 0);
      outputs = Change (number 1) ∷ NoChange (number 1) ∷ Change (number 2) ∷ [];
    }
    -- at the limit the journal ends
    ∷ record {
      graph = clicks;
      budget = 10;
      script = event 0 value.Unit ∷ event 0 value.Unit ∷ [];
      limit = 1;
      journal = event 0 value.Unit ∷ [];
      default = Some (number 0);
      outputs = Change (number 1) ∷ [];
    }
    -- the default takes three steps, and the turn at event 1 four
    ∷ record {
      graph = guarded;
      budget = 3;
      script = event 0 (number 1) ∷ event 0 (number 2) ∷ [];
      limit = 9;
      journal = event 0 (number 1) ∷ [];
      default = Some (number 0);
      outputs = [];
    }
    -- a default over budget
    ∷ record { graph = guarded; budget = 2; script = event 0 (number 1) ∷ []; limit = 9; journal = []; default = None; outputs = [] }
    ∷ []
