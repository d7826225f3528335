use Rattle.std.proofs.Common.{List, subst, sym}
use Rattle.std.specs.List.{All}
use Rattle.lua_store.specs.Rows.{AreHeld, Cells}
use Rattle.lua_operations.proofs.table.insert_at.Goals as goal

pub returns-clause-held : goal.returns-clause-held
returns-clause-held c = λ texts value tables. c.in_ok-put.ensures.held texts tables (c.number_key.ensures.held texts) value

pub returns-in_err-put-clause-held : goal.returns-in_err-put-clause-held
returns-in_err-put-clause-held c = λ texts value tables. subst (λ (rows : List Cells). All (AreHeld texts) rows) (sym c.in_err-put.ensures.unchanged) tables
