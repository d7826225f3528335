use Rattle.std.proofs.Common.{List, length, ◌<◌, sym, subst}
use Rattle.std.specs.List.{All}
use Rattle.lua_store.specs.Rows.{AreHeld, Cells}
use Rattle.lua_store.proofs.tables.LuaTables.get.Goals as goal

pub returns-clause-held : goal.returns-clause-held
returns-clause-held c = λ texts held.
    let rows : All (AreHeld texts) c.self.inside.rows.items = subst (All (AreHeld texts)) (sym c.self.view_is) held in
    let inside : c.args.at < length c.self.inside.rows.items = subst (λ (rows : List Cells). c.args.at < length rows) (sym c.self.view_is) c.requires in
    c.get.ensures.held texts (subst (AreHeld texts) (sym c.index-table.ensures) (rows c.args.at c.index-table.result.now inside))
