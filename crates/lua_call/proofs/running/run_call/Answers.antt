use Rattle.lua_machine.specs.Tree.{items_of}
use Rattle.lua_machine.specs.Turn.{begins}
use Rattle.lua_frames.specs.Parts.{function_in}
use Rattle.lua_call.proofs.Turning.{leads_nowhere}
use Rattle.lua_call.proofs.running.run_call.Goals as goal

pub returns-in-Err : goal.returns-in-Err
returns-in-Err c =
    let from = begins (items_of c.args.functions.now) (function_in c.args.main) c.args.seed in
    record { wanted = from; leads = leads_nowhere (items_of c.args.functions.now) (function_in c.args.main) from; gives = tt }
