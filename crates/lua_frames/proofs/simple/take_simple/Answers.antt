use Rattle.lua_machine.specs.Tree.{node_of}
use Rattle.lua_state.specs.Held.{store_of}
use Rattle.lua_frames.proofs.Taking.{simple_takes}
use Rattle.lua_frames.proofs.simple.take_simple.Goals as goal

pub returns : goal.returns
returns c =
    simple_takes c.put_simple.result (node_of c.args.expr.now) (store_of c.args.state.now) (store_of c.put_simple.new.state) c.args.units.now c.put_simple.new.units c.put_simple.ensures
