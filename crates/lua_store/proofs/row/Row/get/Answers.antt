use Rattle.std.proofs.Common.{ap, sym, subst, ◌∙◌}
use Rattle.lua_store.specs.Rows.{Cells, held_in}
use Rattle.lua_store.specs.Values.{IsHeld, meant}
use Rattle.lua_store.proofs.Held.{value_found}
use Rattle.lua_store.proofs.row.Row.get.Goals as goal

pub returns-clause-value : goal.returns-clause-value
returns-clause-value c = λ texts apart held.
    ap (meant texts) c.found.ensures ∙ ap (λ cells. meant texts (held_in cells.entries c.args.key)) c.self.view_is ∙ value_found texts apart c.args.key held c.args.self.now

pub returns-clause-held : goal.returns-clause-held
returns-clause-held c = λ texts held.
    subst (IsHeld texts) (sym (c.found.ensures ∙ ap (λ (cells : Cells). held_in cells.entries c.args.key) c.self.view_is)) (held.0 c.args.key)
