use Rattle.std.proofs.Common.{length, ◌+◌, ◌*◌}
use Rattle.lua_frames.specs.Executing.{block, choice}
use Rattle.lua_frames.specs.Parts.{arms_in, block_in}
use Rattle.lua_frames.proofs.Hanging.{Led}
use Rattle.lua_frames.proofs.machine.Machine.+statements.Given as goal

-- a choice asks for less depth than the one that it is in
abbrev pub decreases-do_statement : goal.decreases-do_statement
decreases-do_statement l = 5 * l.depth

abbrev pub decreases-do_all : goal.decreases-do_all
decreases-do_all l = 5 * l.depth + 1

abbrev pub decreases-do_inner : goal.decreases-do_inner
decreases-do_inner l = 5 * l.depth + 2

abbrev pub decreases-do_choice : goal.decreases-do_choice
decreases-do_choice l = 5 * l.depth + 3

abbrev pub decreases-do_if : goal.decreases-do_if
decreases-do_if l = 5 * l.depth + 4

-- turns lead to the statements that are left
abbrev pub invariant-do_all-statements : goal.invariant-do_all-statements
invariant-do_all-statements l = Led (block (block_in l.fn.statements) l.initial.self) (block (block_in l.left) l.self) l.initial.self l.self

abbrev pub decreases-do_all-statements : goal.decreases-do_all-statements
decreases-do_all-statements l = length l.left

-- or to the arms that are
abbrev pub invariant-do_choice-arms : goal.invariant-do_choice-arms
invariant-do_choice-arms l = Led (choice (arms_in l.fn.arms l.fn.otherwise) l.initial.self) (choice (arms_in l.left l.fn.otherwise) l.self) l.initial.self l.self

abbrev pub decreases-do_choice-arms : goal.decreases-do_choice-arms
decreases-do_choice-arms l = length l.left
