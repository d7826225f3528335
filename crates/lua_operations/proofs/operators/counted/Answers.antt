use Rattle.std.proofs.Common.{◌∙◌, ap, pos, w64}
use Rattle.std.proofs.lemmas.Int.{to_z_pos}
use Rattle.lua_machine.specs.Operators.{number}
use Rattle.lua_operations.proofs.Comparing.{is_it}
use Rattle.lua_operations.proofs.operators.counted.Goals as goal

pub returns-in-Some : goal.returns-in-Some
returns-in-Some c = λ texts. (is_it c.in-Some.number (pos c.args.count) (c.in-Some.ensures 0 ∙ ap (number 0) (to_z_pos w64 c.args.count c.requires)), tt)
