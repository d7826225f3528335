use Rattle.std.proofs.Common.{◌+◌, ◌*◌, length, map}
use Rattle.lua_machine.specs.Machine as machine
use Rattle.lua_machine.specs.Tree.{node_of, nodes}
use Rattle.lua_operations.specs.Functions.{math_in}
use Rattle.lua_frames.proofs.Arguments.{IsPassed}
use Rattle.lua_frames.proofs.machine.Machine.+values.Given as goal

-- an expression asks for less depth than the one that it is a part of
abbrev pub decreases-operation : goal.decreases-operation
decreases-operation l = 8 * l.depth

abbrev pub decreases-value : goal.decreases-value
decreases-value l = 8 * l.depth + 1

abbrev pub decreases-part_value : goal.decreases-part_value
decreases-part_value l = 8 * l.depth + 2

abbrev pub decreases-one : goal.decreases-one
decreases-one l = 8 * l.depth + 3

abbrev pub decreases-two : goal.decreases-two
decreases-two l = 8 * l.depth + 3

abbrev pub decreases-binary_value : goal.decreases-binary_value
decreases-binary_value l = 8 * l.depth + 4

abbrev pub decreases-index_value : goal.decreases-index_value
decreases-index_value l = 8 * l.depth + 4

abbrev pub decreases-unary_value : goal.decreases-unary_value
decreases-unary_value l = 8 * l.depth + 4

abbrev pub decreases-all_values : goal.decreases-all_values
decreases-all_values l = 8 * l.depth + 4

abbrev pub invariant-all_values-parts : goal.invariant-all_values-parts
invariant-all_values-parts l = IsPassed (machine.Math (math_in l.fn.function) l.fn.line) (nodes (map node_of l.fn.args)) (nodes (map node_of l.left)) l.count l.initial.self l.self

abbrev pub decreases-all_values-parts : goal.decreases-all_values-parts
decreases-all_values-parts l = length l.left

abbrev pub decreases-function_value : goal.decreases-function_value
decreases-function_value l = 8 * l.depth + 5

abbrev pub decreases-sides_value : goal.decreases-sides_value
decreases-sides_value l = 8 * l.depth + 4

abbrev pub decreases-floor_value : goal.decreases-floor_value
decreases-floor_value l = 8 * l.depth + 5

abbrev pub decreases-math_value : goal.decreases-math_value
decreases-math_value l = 8 * l.depth + 6

abbrev pub decreases-call_value : goal.decreases-call_value
decreases-call_value l = 8 * l.depth + 7
