-- What a turn comes to, where the end is told apart.
use Rattle.std.specs.Prelude.{◌≡◌, Result, Ok, Err}
use Rattle.lua_machine.specs.Machine.{Turned, Next}
use Rattle.lua_machine.specs.Turn.{finished_by}
use Rattle.lua_machine.specs.declared.error.LuaError.{LuaError}
use Rattle.lua_frames.specs.declared.machine.Machine.{Machine}
use Rattle.lua_frames.specs.declared.turns.Step.{Step}
use Rattle.lua_frames.specs.declared.turns.Step.TheVariants as s
use Rattle.lua_frames.specs.Machines.{machine_of, store_in, state_in}
use Rattle.lua_frames.specs.Turns.{Reaches, Stops}
use Rattle.lua_frames.specs.Ways.{way_in}

-- a turn came to what is wanted: to the next configuration, or to the end, whose value is only made plain then; unless memory ran out
abbrev pub Steps : Result Step LuaError → Machine → Turned → Type 0
Steps (Ok (s.Next control)) now wanted = Next (machine_of control now) ≡ wanted
Steps (Ok (s.Ended way)) now wanted = finished_by (way_in way (store_in now)) (state_in now) now.units ≡ wanted
Steps (Err why) now wanted = Stops why now.units wanted

-- turns behind what is wanted came to this
pub record Arrives (result : Result Step LuaError) (now : Machine) (wanted : Turned) : Type 0 where
  pub to : Turned
  pub reaches : Reaches wanted to
  pub step : Steps result now to
