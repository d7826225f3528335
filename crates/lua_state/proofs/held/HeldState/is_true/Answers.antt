use Rattle.std.proofs.Common.{◌∙◌, ap, map, List}
use Rattle.lua_machine.specs.Value.{is_true}
use Rattle.lua_store.specs.declared.value.SmallValue.{SmallValue}
use Rattle.lua_store.specs.Values.{meant}
use Rattle.lua_state.specs.Store.{newest}
use Rattle.lua_state.proofs.Opening.{newest_held}
use Rattle.lua_state.proofs.held.HeldState.is_true.Goals as goal

pub returns : goal.returns
returns c =
    let h = c.args.self.now in
    c.truth_of_parts.ensures h.texts ∙ ap (λ (vs : List SmallValue). is_true (newest (map (meant h.texts) vs))) c.top.ensures ∙ ap is_true (newest_held h.texts h.values)
