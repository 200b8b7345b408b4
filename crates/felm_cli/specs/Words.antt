-- The order that words give.
use Rattle.std.specs.Prelude.{ℕ, ◌==◌, ◌&&◌, Bool, true, false, not, List, [], ◌∷◌, map, bytes_eq, codes, string_bytes, Option, Some, None, if◌then◌else◌}
use Rattle.std.specs.declared.string.String.{String}
use Rattle.std.specs.List.{zip}
use Rattle.std.specs.Option.{option_and_then}
use Rattle.std.specs.Map.{lookup}
use Rattle.std.proofs.Common.{lit≤}
use Rattle.felm_term.specs.declared.limits.Limits.{Limits}
use Rattle.felm_printer.specs.declared.status.Which.{Which}
use Rattle.felm_printer.specs.declared.status.Which.TheVariants.{Program, Script}
use Rattle.felm_cli.specs.declared.words.Command.{Command}
use Rattle.felm_cli.specs.declared.words.Command.TheVariants.{Sync, Graph, Run}

-- ---- orders

-- names or bytes of texts, each with the kind of text that it is
abbrev pub Texts : Type 0
Texts = List (Which × List ℕ)

-- what is to be done: a command, on the texts of these names, in the order in which they are loaded
pub record OrderValue : Type 0 where
  pub command : Command
  pub texts : Texts
  pub limits : Limits

abbrev pub is_kind : Which → Which → Bool
is_kind Program Program = true
is_kind Script Script = true
is_kind which other = false

-- the name of the file of this kind, if an order has one
abbrev pub file_of : Which → OrderValue → Option (List ℕ)
file_of which order = lookup (is_kind which) order.texts

-- ---- words

-- the command that a word names
abbrev pub command_of : List ℕ → Option Command
command_of word =
    if bytes_eq word (codes "sync") then Some Sync
    else (if bytes_eq word (codes "graph") then Some Graph
    else (if bytes_eq word (codes "run") then Some Run
    else None))

-- which texts a command works on
abbrev pub kinds_of : Command → List Which
kinds_of Sync = Program ∷ Script ∷ []
kinds_of Graph = Program ∷ []
kinds_of Run = Program ∷ Script ∷ []

-- a file name isn't empty and doesn't begin with a minus sign
abbrev pub is_file : List ℕ → Bool
is_file [] = false
is_file (c ∷ cs) = not (c == 45)

-- as many words as kinds, each of them a file name
abbrev pub are_files : List Which → List (List ℕ) → Bool
are_files [] [] = true
are_files (kind ∷ kinds) (word ∷ words) = are_files kinds words && is_file word
are_files kinds words = false

-- the limits of a command that names none
abbrev pub default_limits : Limits
default_limits = record {
  workers = 2;
  turn_steps = 10000;
  stage_steps = 100000;
  edge = 16;
  journal = 1048576;
  workers_in_range = (lit≤ tt, lit≤ tt);
  turn_steps_in_range = (lit≤ tt, lit≤ tt);
  stage_steps_in_range = (lit≤ tt, lit≤ tt);
  edge_in_range = (lit≤ tt, lit≤ tt);
  journal_in_range = (lit≤ tt, lit≤ tt);
}

-- the order of a command with these words behind it
abbrev pub order_with : Command → List (List ℕ) → Option OrderValue
order_with command words =
    if are_files (kinds_of command) words
    then Some (record { command = command; texts = zip (kinds_of command) words; limits = default_limits })
    else None

-- the order of words, if a command takes them
abbrev pub order_of : List (List ℕ) → Option OrderValue
order_of [] = None
order_of (word ∷ words) = option_and_then (λ command. order_with command words) (command_of word)

abbrev pub order_in : {A : Type 0} → List (String A) → Option OrderValue
order_in words = order_of (map string_bytes words)

-- an order that is done on one thread
abbrev pub unless_run : Command → OrderValue → Option OrderValue
unless_run Run order = None
unless_run command order = Some order

-- the order of words without `run`, which counts as none
abbrev pub order_once : {A : Type 0} → List (String A) → Option OrderValue
order_once words = option_and_then (λ order. unless_run order.command order) (order_in words)
