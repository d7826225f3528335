use Rattle.std.proofs.Common.{cond, None, Some, sym, ap, ◌∙◌}
use Rattle.lua_store.specs.Rows.{held_in}
use Rattle.lua_store.specs.Values.{same_key}
use Rattle.lua_store.proofs.Held.{put_in}
use Rattle.lua_store.proofs.row.put.Goals as goal

pub returns-in-Nil-clause-put : goal.returns-in-Nil-clause-put
returns-in-Nil-clause-put c = λ other.
    put_in c.args.key None _ _ c.swap_remove.ensures.updates.0 other
    ∙ ap (λ value. cond (same_key c.args.key other) value (held_in c.args.values.now.entries other)) (sym c.in-Nil.is)

pub returns-in_ok-insert-in_default : goal.returns-in_ok-insert-in_default
returns-in_ok-insert-in_default c = record { put = put_in c.args.key (Some c.args.value) _ _ c.in_ok-insert-in_default.ensures.updates.0; unchanged = tt }
