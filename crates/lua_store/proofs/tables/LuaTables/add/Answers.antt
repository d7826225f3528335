use Rattle.std.proofs.Common.{List, [], ◌∷◌, ◌++◌, map, ap, sym, subst, ◌∙◌}
use Rattle.std.specs.List.{All}
use Rattle.std.proofs.lemmas.List.{map-append}
use Rattle.std.proofs.lemmas.List.Elements.{All-push}
use Rattle.lua_machine.specs.Tables.{no_keys}
use Rattle.lua_machine.specs.Tables as lua
use Rattle.lua_store.specs.Rows.{AreHeld, Cells, row_of, tables_of}
use Rattle.lua_store.proofs.tables.LuaTables.add.Goals as goal

pub returns-clause-added : goal.returns-clause-added
returns-clause-added c = λ texts.
    ap (map (row_of texts)) c.in_ok-push.ensures.items ∙ map-append (row_of texts) c.self.inside.rows.items (c.new.result ∷ [])
    ∙ ap (λ (table : lua.Row). tables_of texts c.self.inside.rows.items ++ table ∷ []) (c.new.ensures.empty texts) ∙ ap (λ (rows : List Cells). tables_of texts rows ++ no_keys ∷ []) c.self.view_is

pub returns-clause-held : goal.returns-clause-held
returns-clause-held c = λ texts held.
    subst (All (AreHeld texts)) (sym c.in_ok-push.ensures.items)
    (All-push (AreHeld texts) c.self.inside.rows.items c.new.result (subst (All (AreHeld texts)) (sym c.self.view_is) held) (c.new.ensures.held texts))
