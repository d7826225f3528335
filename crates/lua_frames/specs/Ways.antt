-- The ways that come back to frames.
use Rattle.lua_machine.specs.Yields as lua
use Rattle.lua_state.specs.Store.{Store, newest, popped}
use Rattle.lua_frames.specs.declared.ways.Way.{Way}
use Rattle.lua_frames.specs.declared.ways.Way.TheVariants as w

-- a value that comes back is the newest
abbrev pub way_in : Way → Store → lua.Way
way_in w.Goes store = lua.Goes
way_in w.Breaks store = lua.Breaks
way_in w.Returns store = lua.Returns (newest store.values)

-- what waits beside the frames
abbrev pub beside_way : Way → Store → Store
beside_way w.Returns store = popped store
beside_way _ store = store
