use Rattle.std.proofs.Common.{◌∙◌, ap, pos, List, ℕ}
use Rattle.std.specs.Prelude.{codes}
use Rattle.lua_machine.specs.Value.{Number}
use Rattle.lua_machine.specs.State.{assigned}
use Rattle.lua_state.specs.Store.{Store, in_state}
use Rattle.lua_state.proofs.held.HeldState.set_first.Goals as goal

abbrev step : List ℕ → ℕ → Store → Store
step name n store = in_state (assigned name (Number (pos n)) store.state) store

pub returns-clause-set : goal.returns-clause-set
returns-clause-set c =
    c.in_ok-set_number-6.ensures.assigned ∙ ap (step (codes "TILE_DAMAGED") 2) (c.in_ok-set_number-5.ensures.assigned ∙ ap (step (codes "TILE_MEMORY") 1) (c.in_ok-set_number-4.ensures.assigned
    ∙ ap (step (codes "TILE_COMPUTE") 0) (c.in_ok-set_number-3.ensures.assigned ∙ ap (step (codes "STREAM_IMAGE") 2) (c.in_ok-set_number-2.ensures.assigned ∙ ap (step (codes "STREAM_OUTPUT") 1) c.in_ok-set_number.ensures.assigned))))
