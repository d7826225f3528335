use Rattle.lua_store.proofs.Growing.{grown, still_held, tables_grown}
use Rattle.lua_store.proofs.laws.texts_may_grow.Goals as goal

pub returns-clause-same : goal.returns-clause-same
returns-clause-same c = grown

pub returns-clause-held : goal.returns-clause-held
returns-clause-held c = still_held

pub returns-clause-tables : goal.returns-clause-tables
returns-clause-tables c = tables_grown
