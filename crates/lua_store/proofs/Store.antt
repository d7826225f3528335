-- Tables of an evaluation, row by row.
use Rattle.std.proofs.Common.{◌≡◌, ℕ, ◌<◌, List, length, get_or, set, sym, ap, ◌∙◌}
use Rattle.std.proofs.lemmas.List.{get_or-map, map-set}
use Rattle.lua_machine.specs.Value.{LuaValue}
use Rattle.lua_machine.specs.Tables.{no_keys, row, stored, with_key}
use Rattle.lua_store.specs.Values.{Texts}
use Rattle.lua_store.specs.Rows.{Cells, row_of, tables_of}

pub row_at : (texts : Texts) (rows : List Cells) (at : ℕ) (other : Cells) → at < length rows → row (tables_of texts rows) at ≡ row_of texts (get_or rows at other)
row_at texts rows at other h = get_or-map (row_of texts) rows at other no_keys h

pub stored_at : (texts : Texts) (rows : List Cells) (at : ℕ) (other cells : Cells) (key value : LuaValue) → at < length rows → row_of texts cells ≡ with_key (row_of texts (get_or rows at other)) key value →
    tables_of texts (set rows at cells) ≡ stored (tables_of texts rows) at key value
stored_at texts rows at other cells key value h e =
    map-set (row_of texts) rows at cells ∙ ap (set (tables_of texts rows) at) (e ∙ ap (λ table. with_key table key value) (sym (row_at texts rows at other h)))
