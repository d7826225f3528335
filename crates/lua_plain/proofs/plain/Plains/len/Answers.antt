use Rattle.std.proofs.Common.{◌∙◌, sym}
use Rattle.lua_plain.proofs.Views.{list_length}
use Rattle.lua_plain.proofs.plain.Plains.len.Goals as goal

pub returns : goal.returns
returns c = c.len.ensures ∙ sym (list_length c.args.self.now)
