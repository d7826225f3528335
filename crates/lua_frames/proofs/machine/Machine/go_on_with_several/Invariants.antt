use Rattle.std.proofs.Common.{length, map}
use Rattle.lua_machine.specs.Tree.{node_of, nodes}
use Rattle.lua_machine.specs.Turn.{begun}
use Rattle.lua_state.specs.Store.{parts, without}
use Rattle.lua_frames.specs.Frames.{making_of}
use Rattle.lua_frames.specs.Machines.{frames_with, state_in, store_in}
use Rattle.lua_frames.specs.Turns.{Reaches}
use Rattle.lua_frames.proofs.machine.Machine.go_on_with_several.Given as goal

abbrev pub invariant-parts : goal.invariant-parts
invariant-parts l = Reaches
    (begun (making_of l.fn.making) (parts l.fn.start (store_in l.initial.self)) (nodes (map node_of l.fn.all)) (frames_with l.initial.self (without l.fn.start (store_in l.initial.self))) l.initial.self.calls (state_in l.initial.self) l.initial.self.units)
    (begun (making_of l.making) (parts l.count (store_in l.self)) (nodes (map node_of l.left)) (frames_with l.self (without l.count (store_in l.self))) l.self.calls (state_in l.self) l.self.units)

abbrev pub decreases-parts : goal.decreases-parts
decreases-parts l = length l.left
