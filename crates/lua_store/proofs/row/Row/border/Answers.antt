use Rattle.std.proofs.Common.{◌≡◌, subst}
use Rattle.lua_machine.specs.Tables.{border}
use Rattle.lua_store.specs.Rows.{Cells, row_of}
use Rattle.lua_store.proofs.Borders.{border_is}
use Rattle.lua_store.proofs.row.Row.border.Goals as goal

pub returns-clause-exact : goal.returns-clause-exact
returns-clause-exact c = λ texts.
    subst (λ (cells : Cells). c.self.inside.border ≡ border (row_of texts cells)) c.self.view_is
    (border_is texts (record { entries = c.self.inside.values.entries; last = c.self.inside.last }) c.self.inside.border c.self.invariant.1)
