use Rattle.std.proofs.Common.{Ok, Some, None}
use Rattle.lua_machine.specs.Tree.{node_of, none}
use Rattle.lua_frames.specs.Frames.{making_of}
use Rattle.lua_frames.specs.Values.{Leads, Passes}
use Rattle.lua_frames.proofs.Reaching.{comes_behind}
use Rattle.lua_frames.proofs.Valuing.{leads_to}
use Rattle.lua_frames.proofs.machine.Machine.go_on_with_last.Goals as goal

pub returns-in-Ok-None : goal.returns-in-Ok-None
returns-in-Ok-None c =
    let leads : Leads (Ok None) (making_of c.args.making) c.args.count (node_of c.args.last.now) (none) c.args.self.now c.take_part.new.self = rw c.in-Ok-None.field-0-is at c.in-Ok-None.ensures.leads in
    comes_behind (leads_to (making_of c.args.making) c.args.count c.in_ok-more.more none _ c.take_part.new.self c.in_ok-more.ensures leads) c.make.ensures

pub returns-in-Ok-Some : goal.returns-in-Ok-Some
returns-in-Ok-Some c =
    let passes : Passes (Ok (Some c.in-Ok-Some.control)) (making_of c.args.making) c.args.count (node_of c.args.last.now) (none) c.args.self.now c.take_part.new.self = rw c.in-Ok-Some.field-0-is at c.in-Ok-Some.ensures.passes in
    passes

pub returns-in-Err : goal.returns-in-Err
returns-in-Err c = c.in-Err.ensures.passes
