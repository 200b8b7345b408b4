use Rattle.std.proofs.Common.{◌≡◌, ◌+◌, ◌*◌, ◌≤◌}
use Rattle.felm_reading.specs.Reading.{reads_in, continues, applies, applied}
use Rattle.felm_parser.specs.Chains.{chain_of}
use Rattle.felm_parser.proofs.Weights.{weight}
use Rattle.felm_parser.proofs.expressions.+expressions.Given as goal

abbrev pub decreases-whole : goal.decreases-whole
decreases-whole l = 32 * l.room + 0

abbrev pub decreases-bracketed : goal.decreases-bracketed
decreases-bracketed l = 32 * l.room + 3

abbrev pub decreases-atom : goal.decreases-atom
decreases-atom l = 32 * l.room + 4

abbrev pub decreases-expr : goal.decreases-expr
decreases-expr l = 32 * l.room + 31

abbrev pub decreases-function : goal.decreases-function
decreases-function l = 32 * l.room + 30

abbrev pub decreases-binding : goal.decreases-binding
decreases-binding l = 32 * l.room + 30

abbrev pub decreases-choice : goal.decreases-choice
decreases-choice l = 32 * l.room + 30

abbrev pub decreases-comparison : goal.decreases-comparison
decreases-comparison l = 32 * l.room + 25

abbrev pub decreases-operand : goal.decreases-operand
decreases-operand l = 32 * l.room + 20

abbrev pub decreases-lift : goal.decreases-lift
decreases-lift l = 32 * l.room + 19

abbrev pub decreases-foldp : goal.decreases-foldp
decreases-foldp l = 32 * l.room + 19

abbrev pub decreases-asynchronous : goal.decreases-asynchronous
decreases-asynchronous l = 32 * l.room + 19

abbrev pub decreases-applied : goal.decreases-applied
decreases-applied l = 32 * l.room + 19

abbrev pub decreases-atoms : goal.decreases-atoms
decreases-atoms l = 32 * l.room + (5 + l.count)

abbrev pub decreases-part : goal.decreases-part
decreases-part l = 32 * l.room + weight l.level

abbrev pub decreases-chain : goal.decreases-chain
decreases-chain l = 32 * l.room + (weight l.level + 1)

-- what is left to read behind the part so far gives what all gives
abbrev pub invariant-chain-operators : goal.invariant-chain-operators
invariant-chain-operators l = record {
  room : l.room ≤ l.fn.room;
  same : continues l.text (reads_in l.text l.room) l.level l.left l.rest ≡ chain_of l.fn.text (reads_in l.fn.text l.fn.room) l.fn.level l.fn.tokens;
}

abbrev pub decreases-chain-operators : goal.decreases-chain-operators
decreases-chain-operators l = l.room

-- what is left to read behind the function so far gives what all gives
abbrev pub invariant-applied-arguments : goal.invariant-applied-arguments
invariant-applied-arguments l = record {
  room : l.room ≤ l.fn.room;
  same : applies l.text (reads_in l.text l.room) l.function l.rest ≡ applied l.fn.text (reads_in l.fn.text l.fn.room) l.fn.tokens;
}

abbrev pub decreases-applied-arguments : goal.decreases-applied-arguments
decreases-applied-arguments l = l.room
