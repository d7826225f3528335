use Rattle.std.proofs.Common.{subst, sym, arith}
use Rattle.lua_store.specs.declared.value.SmallValue.{SmallValue}
use Rattle.lua_store.specs.Values.{IsHeld}
use Rattle.lua_operations.proofs.table.insert.Goals as goal

pub returns-in-len2-clause-held : goal.returns-in-len2-clause-held
returns-in-len2-clause-held c = λ texts all tables.
    c.insert_into.ensures.held texts (subst (λ (v : SmallValue). IsHeld texts v) (sym c.value-item.is) (all 1 c.value-item.result (omega arith))) tables
