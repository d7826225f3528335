use Rattle.std.proofs.Common.{subst, sym, arith}
use Rattle.lua_store.specs.declared.value.SmallValue.{SmallValue}
use Rattle.lua_store.specs.Values.{IsHeld}
use Rattle.lua_state.proofs.storing.put_entry_of_parts.Goals as goal

pub returns-in-len2-clause-held : goal.returns-in-len2-clause-held
returns-in-len2-clause-held c = λ texts tables all.
    c.put_value.ensures.held texts tables (subst (λ (v : SmallValue). IsHeld texts v) (sym c.key-item.is) (all 0 c.key-item.result (omega arith))) (subst (λ (v : SmallValue). IsHeld texts v) (sym c.value-item.is) (all 1 c.value-item.result (omega arith)))
