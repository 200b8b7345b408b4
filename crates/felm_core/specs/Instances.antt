-- Runs worked out by hand, move by move.
use Rattle.std.specs.Prelude.{◌≡◌, ℕ, Bool, true, false, List, [], ◌∷◌, Option, Some, None, pos, map, slice_get}
use Rattle.std.specs.List.{flat_map}
use Rattle.std.specs.Option.{option_map_or}
use Rattle.felm_term.specs.CoreType.{Int}
use Rattle.felm_term.specs.CoreTerm.{Var, Lam, Bin}
use Rattle.felm_term.specs.CoreTerm as term
use Rattle.felm_term.specs.declared.op.Op.TheVariants as op
use Rattle.felm_term.specs.declared.value.Value.{Value}
use Rattle.felm_term.specs.declared.value.Value.TheVariants as value
use Rattle.felm_term.specs.declared.message.Message.{Message}
use Rattle.felm_term.specs.declared.message.Message.TheVariants.{Change, NoChange}
use Rattle.felm_term.specs.declared.event.Event.{Event}
use Rattle.felm_graph.specs.Nodes.{arguments_of}
use Rattle.felm_meaning.specs.PlanValue.{PlanValue}
use Rattle.felm_meaning.specs.Instances.{number, event, x, input_of, lift_of, late_sum, guarded}
use Rattle.felm_core.specs.Positions.{StopValue, Position, IsReady, IsSettled}
use Rattle.felm_core.specs.Contents.{edge_at, kept_at, waiting_at, outputs_at, settled_at}
use Rattle.felm_core.specs.Moves.{Move, Feed, Enter, Claim, Send, Stop, Reopen, with_next, claimed, sent, stopped, reopened, HasPlace, beginning}

-- ---- rows

-- a move, the position that it leads to, and what lies there: on the edges, by reader and port; what each node keeps, and what waits at it; the
-- outputs; how many turns were taken
pub record Row : Type 0 where
  pub move : Move
  pub position : Position
  pub edges : List (List Message)
  pub kept : List (Option Value)
  pub waits : List (List Value)
  pub outputs : List Message
  pub settled : ℕ

-- a plan, the numbers of its nodes, and the rows of a run of it
pub record Table : Type 0 where
  pub plan : PlanValue
  pub nodes : List ℕ
  pub rows : List Row

-- where a move leads, if it may be made
abbrev pub moved : PlanValue → Position → Move → Position
moved plan position (Feed k v) = with_next plan position (event k v)
moved plan position (Enter a) =
    option_map_or (λ v. with_next plan position (event a v)) (slice_get (waiting_at plan position a) 0) position
moved plan position (Claim k) = claimed position k
moved plan position (Send k) = sent position k
moved plan position (Stop k) = stopped position k
moved plan position (Reopen k) = reopened position k

abbrev pub row_at : PlanValue → List ℕ → Move → Position → Row
row_at plan nodes move position =
    record {
      move = move;
      position = position;
      edges = flat_map (λ k. map (λ a. edge_at plan position a k) (arguments_of plan.graph.nodes k)) nodes;
      kept = map (kept_at plan position) nodes;
      waits = map (waiting_at plan position) nodes;
      outputs = outputs_at plan position;
      settled = settled_at plan position;
    }

-- the rows of a run that makes these moves
abbrev pub rows_of : PlanValue → List ℕ → Position → List Move → List Row
rows_of plan nodes before [] = []
rows_of plan nodes before (move ∷ more) =
    row_at plan nodes move (moved plan before move) ∷ rows_of plan nodes (moved plan before move) more

-- the definitions give the rows that stand here
abbrev pub IsWorked : Table → Type 0
IsWorked table = rows_of table.plan table.nodes (beginning table.plan.graph) (map (λ row. row.move) table.rows) ≡ table.rows

-- ---- words for rows

abbrev pub one : {A : Type 0} → A → List A
one a = a ∷ []

abbrev pub two : {A : Type 0} → A → A → List A
two a b = a ∷ b ∷ []

abbrev pub three : {A : Type 0} → A → A → A → List A
three a b c = a ∷ b ∷ c ∷ []

abbrev pub four : {A : Type 0} → A → A → A → A → List A
four a b c d = a ∷ b ∷ c ∷ d ∷ []

abbrev pub change : ℕ → Message
change n = Change (number n)

abbrev pub same : ℕ → Message
same n = NoChange (number n)

-- a position at which nothing has stopped
abbrev pub at : List Event → List ℕ → List Bool → Position
at journal done out = record { journal = journal; done = done; out = out; stop = None }

abbrev pub row : Move → Position → List (List Message) → List ℕ → List (List Value) → List Message → ℕ → Row
row move position edges kept waits outputs settled =
    record {
      move = move;
      position = position;
      edges = edges;
      kept = map (λ n. Some (number n)) kept;
      waits = waits;
      outputs = outputs;
      settled = settled;
    }

-- ---- two lifts in a row, by edges that hold one message: the second one is at the first event while the second event has come in

-- \n:int. n + m
abbrev pub plus : ℕ → Value
plus m = value.Fun (Lam Int (Bin op.Add (Var 0) (term.Int (pos m))))

abbrev pub x_4 : List Event
x_4 = one (event 0 (number 4))

abbrev pub x_4_6 : List Event
x_4_6 = two (event 0 (number 4)) (event 0 (number 6))

-- lift1 (\n:int. n + 2) (lift1 (\n:int. n + 1) x)
abbrev pub chain : PlanValue
chain = record {
  graph = record { nodes = three (input_of 0 Int) (lift_of (plus 1) (one 0)) (lift_of (plus 2) (one 1)); inputs = one x; main = 2 };
  script = x_4_6;
  budget = 10;
  limit = 10;
  capacity = 1;
}

-- no turn is out, or that of node 1, or that of node 2
abbrev pub idle : List Bool
idle = three false false false

abbrev pub out_1 : List Bool
out_1 = three false true false

abbrev pub out_2 : List Bool
out_2 = three false false true

-- by the edges into nodes 1 and 2
abbrev pub chain_row : Move → Position → List Message → List Message → List ℕ → List Message → ℕ → Row
chain_row move position into_1 into_2 kept outputs settled = row move position (two into_1 into_2) kept (three [] [] []) outputs settled

abbrev pub chain_rows : Table
chain_rows = record {
  plan = chain;
  nodes = three 0 1 2;
  rows =
      chain_row (Feed 0 (number 4)) (at x_4 (three 1 0 0) idle) (one (change 4)) [] (three 4 1 3) [] 0
      ∷ chain_row (Claim 1) (at x_4 (three 1 0 0) out_1) (one (change 4)) [] (three 4 1 3) [] 0
      ∷ chain_row (Reopen 1) (at x_4 (three 1 0 0) idle) (one (change 4)) [] (three 4 1 3) [] 0
      ∷ chain_row (Claim 1) (at x_4 (three 1 0 0) out_1) (one (change 4)) [] (three 4 1 3) [] 0
      ∷ chain_row (Send 1) (at x_4 (three 1 1 0) idle) [] (one (change 5)) (three 4 5 3) [] 1
      ∷ chain_row (Feed 0 (number 6)) (at x_4_6 (three 2 1 0) idle) (one (change 6)) (one (change 5)) (three 6 5 3) [] 1
      ∷ chain_row (Claim 2) (at x_4_6 (three 2 1 0) out_2) (one (change 6)) (one (change 5)) (three 6 5 3) [] 1
      ∷ chain_row (Send 2) (at x_4_6 (three 2 1 1) idle) (one (change 6)) [] (three 6 5 7) (one (change 7)) 2
      ∷ chain_row (Claim 1) (at x_4_6 (three 2 1 1) out_1) (one (change 6)) [] (three 6 5 7) (one (change 7)) 2
      ∷ chain_row (Send 1) (at x_4_6 (three 2 2 1) idle) [] (one (change 7)) (three 6 7 7) (one (change 7)) 3
      ∷ chain_row (Claim 2) (at x_4_6 (three 2 2 1) out_2) [] (one (change 7)) (three 6 7 7) (one (change 7)) 3
      ∷ chain_row (Send 2) (at x_4_6 (three 2 2 2) idle) [] [] (three 6 7 9) (two (change 7) (change 9)) 4
      ∷ [];
}

-- what may be done at those positions: node 1 takes turns while node 2 has room, and node 2 as soon as it is fed; x comes in while node 1 has room
pub record ChainAllows : Type 0 where
  pub fed : IsReady chain (at x_4 (three 1 0 0) idle) 1
  pub empty : ¬ IsReady chain (at x_4 (three 1 0 0) idle) 2
  pub no_place : ¬ HasPlace chain (at x_4 (three 1 0 0) idle)
  pub out : ¬ IsReady chain (at x_4 (three 1 0 0) out_1) 1
  pub place : HasPlace chain (at x_4 (three 1 1 0) idle)
  pub full : ¬ IsReady chain (at x_4_6 (three 2 1 0) idle) 1
  pub fed_next : IsReady chain (at x_4_6 (three 2 1 0) idle) 2
  pub unsettled : ¬ IsSettled chain (at x_4_6 (three 2 1 1) idle)
  pub settled : IsSettled chain (at x_4_6 (three 2 2 2) idle)

-- ---- an async, whose inner signal's first change enters after the second event of x

abbrev pub x_1 : List Event
x_1 = one (event 0 (number 1))

abbrev pub x_1_2 : List Event
x_1_2 = two (event 0 (number 1)) (event 0 (number 2))

-- lift2 add x (async (lift1 times_ten x)): node 0 is x, 1 the product, 2 the async, 3 the sum
abbrev pub late : PlanValue
late = record { graph = late_sum; script = x_1_2; budget = 10; limit = 9; capacity = 2 }

abbrev pub all_in : List Bool
all_in = four false false false false

-- by the edges from x into the product, from x into the sum and from the async into the sum, and by what waits at the async
abbrev pub late_row : Move → Position → List Message → List Message → List Message → List ℕ → List Value → List Message → ℕ → Row
late_row move position product sum_x sum_async kept waiting outputs settled =
    row move position (three product sum_x sum_async) kept (four [] [] waiting []) outputs settled

abbrev pub late_rows : Table
late_rows = record {
  plan = late;
  nodes = four 0 1 2 3;
  rows =
      late_row (Feed 0 (number 1)) (at x_1 (four 1 0 1 0) all_in)
      (one (change 1)) (one (change 1)) (one (same 0)) (four 1 0 0 0) [] [] 0
      ∷ late_row (Claim 1) (at x_1 (four 1 0 1 0) (four false true false false))
      (one (change 1)) (one (change 1)) (one (same 0)) (four 1 0 0 0) [] [] 0
      ∷ late_row (Send 1) (at x_1 (four 1 1 1 0) all_in)
      [] (one (change 1)) (one (same 0)) (four 1 10 0 0) (one (number 10)) [] 1
      ∷ late_row (Feed 0 (number 2)) (at x_1_2 (four 2 1 2 0) all_in)
      (one (change 2)) (two (change 1) (change 2)) (two (same 0) (same 0)) (four 2 10 0 0) (one (number 10)) [] 1
      ∷ late_row (Claim 3) (at x_1_2 (four 2 1 2 0) (four false false false true))
      (one (change 2)) (two (change 1) (change 2)) (two (same 0) (same 0)) (four 2 10 0 0) (one (number 10)) [] 1
      ∷ late_row (Send 3) (at x_1_2 (four 2 1 2 1) all_in)
      (one (change 2)) (one (change 2)) (one (same 0)) (four 2 10 0 1) (one (number 10)) (one (change 1)) 2
      ∷ late_row (Enter 2) (at (three (event 0 (number 1)) (event 0 (number 2)) (event 2 (number 10))) (four 3 1 3 1) all_in)
      (two (change 2) (same 2)) (two (change 2) (same 2)) (two (same 0) (change 10)) (four 2 10 10 1) [] (one (change 1)) 2
      ∷ [];
}

-- ---- a call that takes a step more than the budget

-- lift1 unless_zero x
abbrev pub short : PlanValue
short = record { graph = guarded; script = x_1; budget = 3; limit = 9; capacity = 1 }

-- x was 1, and node 1 has taken no turn at it yet
abbrev pub short_row : Move → List Bool → Option StopValue → Row
short_row move out stop =
    row move (record (at x_1 (two 1 0) out) { stop = stop }) (one (one (change 1))) (two 1 0) (two [] []) [] 0

abbrev pub short_rows : Table
short_rows = record {
  plan = short;
  nodes = two 0 1;
  rows =
      short_row (Feed 0 (number 1)) (two false false) None
      ∷ short_row (Claim 1) (two false true) None
      ∷ short_row (Stop 1) (two false false) (Some (record { node = 1; position = 1 }))
      ∷ [];
}

abbrev pub AreWorked : Type 0
AreWorked = IsWorked chain_rows × IsWorked late_rows × IsWorked short_rows
