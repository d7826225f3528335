use Rattle.std.proofs.Common.{List, get_or, length, ◌<◌, ◌≡◌, ap, sym, subst, ◌∙◌}
use Rattle.std.specs.List.{All}
use Rattle.std.proofs.lemmas.List.Elements.{All-set}
use Rattle.lua_machine.specs.Tables.{stored, with_key}
use Rattle.lua_store.specs.Values.{meant, meant_key}
use Rattle.lua_store.specs.Rows.{AreHeld, Cells, row_of, tables_of}
use Rattle.lua_store.proofs.Store.{stored_at}
use Rattle.lua_store.proofs.tables.LuaTables.set.Goals as goal

pub returns-clause-stored : goal.returns-clause-stored
returns-clause-stored c = λ texts apart held.
    let inside : c.args.at < length c.self.inside.rows.items = subst (λ (rows : List Cells). c.args.at < length rows) (sym c.self.view_is) c.requires in
    let its : c.index_mut-table.result.now ≡ get_or c.self.inside.rows.items c.args.at c.index_mut-table.result.now = c.index_mut-table.ensures.value in
    stored_at texts c.self.inside.rows.items c.args.at c.index_mut-table.result.now c.set.new.self _ _ inside
    (c.in_ok-set.ensures.stored texts apart held ∙ ap (λ (cells : Cells). with_key (row_of texts cells) (meant_key texts c.args.key) (meant texts c.args.value)) its)
    ∙ ap (λ (rows : List Cells). stored (tables_of texts rows) c.args.at (meant_key texts c.args.key) (meant texts c.args.value)) c.self.view_is

pub returns-clause-held : goal.returns-clause-held
returns-clause-held c = λ texts held its whole.
    let rows : All (AreHeld texts) c.self.inside.rows.items = subst (All (AreHeld texts)) (sym c.self.view_is) held in
    let inside : c.args.at < length c.self.inside.rows.items = subst (λ (rows : List Cells). c.args.at < length rows) (sym c.self.view_is) c.requires in
    let before : AreHeld texts c.index_mut-table.result.now = subst (AreHeld texts) (sym c.index_mut-table.ensures.value) (rows c.args.at c.index_mut-table.result.now inside) in
    All-set (AreHeld texts) c.self.inside.rows.items c.args.at c.set.new.self (c.in_ok-set.ensures.held texts before its whole) rows
