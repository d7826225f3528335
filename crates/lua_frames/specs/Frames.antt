-- What frames in memory stand for: a frame takes what waits for it beside the frames, and leaves the rest to those around it.
use Rattle.std.specs.Prelude.{List, [], ◌∷◌, take, drop, reverse}
use Rattle.lua_machine.specs.Value.{LuaValue}
use Rattle.lua_machine.specs.State.{Variables}
use Rattle.lua_machine.specs.Yields.{Bounds}
use Rattle.lua_machine.specs.Tree.{node_of, block_of, items_of}
use Rattle.lua_machine.specs.Machine as machine
use Rattle.lua_state.specs.Loops.{newest_bounds}
use Rattle.lua_state.specs.Stacks.{top, below}
use Rattle.lua_state.specs.Store.{Store}
use Rattle.lua_frames.specs.declared.frame.Making.{Making}
use Rattle.lua_frames.specs.declared.frame.Making.TheVariants as m
use Rattle.lua_frames.specs.declared.frame.Frame.{Frame}
use Rattle.lua_frames.specs.declared.frame.Frame.TheVariants as f
use Rattle.lua_frames.specs.Parts.{nodes_in, entries_in, block_in, arms_in, function_in}
use Rattle.lua_operations.specs.Functions.{math_in, table_in}

-- what waits beside the frames: values, the locals of the calls around, and the bounds of the loops that are open, each innermost first
pub record Waits : Type 0 where
  pub values : List LuaValue
  pub callers : List Variables
  pub loops : List Bounds

abbrev pub waits_in : Store → Waits
waits_in store = record { values = store.values; callers = store.callers; loops = store.loops }

-- what is made of parts
abbrev pub making_of : Making → machine.Making
making_of (m.Indexes line) = machine.Indexes line
making_of (m.Selects called line) = machine.Selects called.now line
making_of (m.Unary op line) = machine.Unary op line
making_of (m.Binary op line) = machine.Binary op line
making_of (m.Calls function line) = machine.Calls (function_in function) line
making_of (m.Math function line) = machine.Math (math_in function) line
making_of (m.Floors line) = machine.Floors line
making_of (m.Tables function line) = machine.Tables (table_in function) line
making_of (m.Stores at next others line) = machine.Stores at next (entries_in others.now) line
making_of (m.Puts line) = machine.Puts line
making_of (m.PutsMember called line) = machine.PutsMember called.now line
making_of (m.Loops called body line) = machine.Loops called.now (block_of body.now) line

-- a frame, with what waits for it
abbrev pub frame_of : Frame → Waits → machine.Frame
frame_of (f.Part making count others) w = machine.Part (making_of making) (reverse (take count w.values)) (nodes_in others)
frame_of (f.LeftSide op right) w = machine.LeftSide op (node_of right.now)
frame_of (f.NextEntry at next others) w = machine.NextEntry at next (entries_in others.now)
frame_of (f.NamedEntry at next called others) w = machine.NamedEntry at next called.now (entries_in others.now)
frame_of (f.Declares called) w = machine.Declares called.now
frame_of (f.Assigns called) w = machine.Assigns called.now
frame_of f.Drops w = machine.Drops
frame_of f.ReturnsIt w = machine.ReturnsIt
frame_of (f.ArmTest body others otherwise) w = machine.ArmTest (block_of body.now) (arms_in others.now otherwise.now)
frame_of (f.WhileTest test body) w = machine.WhileTest (node_of test.now) (block_of body.now)
frame_of (f.RepeatTest outer body test) w = machine.RepeatTest outer (block_of body.now) (node_of test.now)
frame_of (f.Others others) w = machine.Others (block_in others.now)
frame_of (f.Inner outer) w = machine.Inner outer
frame_of (f.WhileBody outer test body) w = machine.WhileBody outer (node_of test.now) (block_of body.now)
frame_of (f.RepeatBody outer body test) w = machine.RepeatBody outer (block_of body.now) (node_of test.now)
frame_of (f.ForBody outer called body) w = machine.ForBody outer called.now (newest_bounds w.loops) (block_of body.now)
frame_of (f.Caller calls) w = machine.Caller (top [] w.callers) calls
frame_of (f.Items items) w = machine.Items (items_of items.now)

-- what is left to the frames around
abbrev pub around : Frame → Waits → Waits
around (f.Part making count others) w = record w { values = drop count w.values }
around (f.ForBody outer called body) w = record w { loops = below w.loops }
around (f.Caller calls) w = record w { callers = below w.callers }
around _ w = w

-- frames, innermost first
abbrev pub frames_of : List Frame → Waits → List machine.Frame
frames_of [] w = []
frames_of (frame ∷ frames) w = frame_of frame w ∷ frames_of frames (around frame w)
