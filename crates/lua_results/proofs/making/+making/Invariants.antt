use Rattle.std.proofs.Common.{◌≡◌, ◌+◌, ◌*◌}
use Rattle.lua_machine.specs.Answer.{each, plain_of}
use Rattle.lua_machine.specs.Tables.{plain_list, row}
use Rattle.lua_store.specs.Rows.{tables_of}
use Rattle.lua_plain.specs.Plain.{plains_view}
use Rattle.lua_results.proofs.Gathering.{joined, rest}
use Rattle.lua_results.proofs.making.+making.Given as goal

abbrev pub decreases-make : goal.decreases-make
decreases-make l = 2 * l.levels

abbrev pub decreases-make_all : goal.decreases-make_all
decreases-make_all l = 2 * l.levels + 1

abbrev pub invariant-make_all-loop-before : goal.invariant-make_all-loop-before
invariant-make_all-loop-before l =
    record {
      values : joined (plains_view l.list) (each (plain_of l.levels (tables_of l.texts l.tables)) (rest l.border (row (tables_of l.texts l.tables) l.at) l.before)).value ≡ (each (plain_of l.levels (tables_of l.texts l.tables)) (plain_list (row (tables_of l.texts l.tables) l.at))).value;
      paid : l.initial.units + (each (plain_of l.levels (tables_of l.texts l.tables)) (rest l.border (row (tables_of l.texts l.tables) l.at) l.before)).cost ≡ l.units + (each (plain_of l.levels (tables_of l.texts l.tables)) (plain_list (row (tables_of l.texts l.tables) l.at))).cost;
    }
