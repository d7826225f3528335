use Rattle.lua_machine.specs.Tree.{block_of}
use Rattle.lua_frames.specs.Rounds.{next_round}
use Rattle.lua_frames.specs.Turns.{Reaches}
use Rattle.lua_frames.proofs.machine.Machine.next_turns.Given as goal

-- turns led to the next turn of the loop
abbrev pub invariant-turns : goal.invariant-turns
invariant-turns l = Reaches (next_round l.fn.name (block_of l.fn.body) l.initial.self) (next_round l.fn.name (block_of l.fn.body) l.self)
