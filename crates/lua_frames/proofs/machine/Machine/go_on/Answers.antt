use Rattle.std.proofs.Common.{sym, subst}
use Rattle.lua_frames.specs.declared.parts.Parts.{Parts}
use Rattle.lua_frames.specs.Frames.{making_of}
use Rattle.lua_frames.specs.Parts.{nodes_in}
use Rattle.lua_frames.specs.Turns.{Comes}
use Rattle.lua_frames.specs.Values.{parts_left}
use Rattle.lua_frames.proofs.machine.Machine.go_on.Goals as goal

pub returns-in-Done : goal.returns-in-Done
returns-in-Done c =
    subst (λ (others : Parts). Comes c.make.result c.make.new.self (parts_left (making_of c.args.making) c.args.count (nodes_in others) c.args.self.now)) (sym c.in-Done.is)
    c.make.ensures
