use Rattle.lua_plain.proofs.Views.{list_pushed}
use Rattle.lua_plain.proofs.plain.Plains.push.Goals as goal

pub returns-clause-ok : goal.returns-clause-ok
returns-clause-ok c = list_pushed c.args.self.now c.push.new.self c.args.value c.in_ok-push.ensures.ok
