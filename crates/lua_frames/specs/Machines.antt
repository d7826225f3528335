-- What a machine in memory stands for.
use Rattle.std.specs.Prelude.{List, reverse}
use Rattle.lua_machine.specs.Machine as machine
use Rattle.lua_machine.specs.State.{State}
use Rattle.lua_machine.specs.Tree as t
use Rattle.lua_machine.specs.Tree.{node_of, statement_of}
use Rattle.lua_machine.specs.Yields.{Goes, Breaks, Returns}
use Rattle.lua_state.specs.Held.{store_of}
use Rattle.lua_state.specs.Store.{Store, newest, popped}
use Rattle.lua_frames.specs.declared.control.Control.{Control}
use Rattle.lua_frames.specs.declared.control.Control.TheVariants as c
use Rattle.lua_frames.specs.declared.machine.Machine.{Machine}
use Rattle.lua_frames.specs.Frames.{frames_of, waits_in}

-- where the machine is; a value that comes back is the newest
abbrev pub control_of : Control → Store → machine.Control
control_of (c.Evaluate of) store = machine.Evaluate (node_of of.now)
control_of (c.Execute of) store = machine.Execute (statement_of of.now)
control_of (c.Assign called of) store = machine.Execute (t.Assign called.now (node_of of.now))
control_of c.Goes store = machine.Back Goes
control_of c.Breaks store = machine.Back Breaks
control_of c.Returns store = machine.Back (Returns (newest store.values))

-- what waits beside the frames
abbrev pub beside : Control → Store → Store
beside c.Returns store = popped store
beside _ store = store

abbrev pub store_in : Machine → Store
store_in m = store_of m.state

abbrev pub state_in : Machine → State
state_in m = (store_of m.state).state

-- the frames that wait, where what waits beside them is this
abbrev pub frames_with : Machine → Store → List machine.Frame
frames_with m store = frames_of (reverse m.frames.items) (waits_in store)

-- the frames that wait, where no value comes back
abbrev pub waiting : Machine → List machine.Frame
waiting m = frames_with m (store_in m)

-- the whole configuration
abbrev pub machine_of : Control → Machine → machine.Machine
machine_of control m = record {
  control = control_of control (store_in m);
  frames = frames_with m (beside control (store_in m));
  calls = m.calls;
  state = state_in m;
  cost = m.units;
}
