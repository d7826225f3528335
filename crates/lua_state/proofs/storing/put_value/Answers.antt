use Rattle.std.proofs.Common.{subst, sym, List}
use Rattle.std.specs.List.{All}
use Rattle.lua_store.specs.Rows.{AreHeld, Cells}
use Rattle.lua_state.proofs.storing.put_value.Goals as goal

pub returns-in_ok-put-in-Some-clause-held : goal.returns-in_ok-put-in-Some-clause-held
returns-in_ok-put-in-Some-clause-held c = λ texts tables key value. c.in_ok-put-in-Some.ensures.held texts tables (c.in-Some.ensures.held texts key) value

pub returns-in_err-put-in-Some-clause-held : goal.returns-in_err-put-in-Some-clause-held
returns-in_err-put-in-Some-clause-held c = λ texts tables key value. subst (λ (rows : List Cells). All (AreHeld texts) rows) (sym c.in_err-put-in-Some.ensures.unchanged) tables
