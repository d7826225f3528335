use Rattle.std.proofs.Common.{◌∙◌, ap, List, ◌∷◌}
use Rattle.lua_store.specs.declared.value.SmallValue.{SmallValue}
use Rattle.lua_state.specs.Held.{store_of}
use Rattle.lua_state.proofs.Made.{replaced}
use Rattle.lua_state.proofs.held.HeldState.replace.Goals as goal

pub returns-clause-put : goal.returns-clause-put
returns-clause-put c =
    ap (λ (vs : List SmallValue). store_of (record c.args.self.now { values = vs })) (c.in_ok-push.ensures.pushed ∙ ap (λ xs. c.args.value ∷ xs) c.drop_top.ensures) ∙ replaced c.args.self.now c.args.count c.args.value
