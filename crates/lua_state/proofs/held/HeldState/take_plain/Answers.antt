use Rattle.std.proofs.Common.{List, ap, subst}
use Rattle.lua_machine.specs.Answer.{plain_of}
use Rattle.lua_machine.specs.Tables.{Row}
use Rattle.lua_machine.specs.Value.{LuaValue}
use Rattle.lua_results.specs.Results.{Makes}
use Rattle.lua_store.specs.Values.{meant}
use Rattle.lua_state.specs.Held.{state_of}
use Rattle.lua_state.specs.Store.{Store}
use Rattle.lua_state.proofs.held.HeldState.take_plain.Goals as goal

pub returns-clause-made : goal.returns-clause-made
returns-clause-made c =
    subst (λ (value : LuaValue). Makes c.make_plain.result c.args.units.now c.make_plain.new.units (plain_of 4 (state_of c.args.self.now).tables value)) c.take-value.ensures.value
    (subst (λ (tables : List Row). Makes c.make_plain.result c.args.units.now c.make_plain.new.units (plain_of 4 tables (meant c.take-value.new.self.texts c.take-value.result)))
    (ap (λ (s : Store). s.state.tables) c.take-value.ensures.popped) c.make_plain.ensures)
