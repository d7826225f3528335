use Rattle.std.proofs.Common.{subst}
use Rattle.lua_machine.specs.Answer.{plain_of}
use Rattle.lua_results.specs.Results.{Makes}
use Rattle.lua_state.specs.declared.held.HeldState.{HeldState}
use Rattle.lua_state.specs.Held.{state_of, store_of}
use Rattle.lua_state.specs.Store.{newest}
use Rattle.lua_state.proofs.state.LuaState.take_plain.Goals as goal

pub returns : goal.returns
returns c =
    subst (λ (h : HeldState). Makes c.take_plain.result c.args.units.now c.take_plain.new.units (plain_of 4 (state_of h).tables (newest (store_of h).values))) c.self.view_is c.take_plain.ensures.made
