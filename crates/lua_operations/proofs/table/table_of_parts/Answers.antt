use Rattle.lua_operations.proofs.table.table_of_parts.Goals as goal

pub returns-in-Remove-clause-held : goal.returns-in-Remove-clause-held
returns-in-Remove-clause-held c = λ texts values tables. c.remove.ensures.held texts tables
