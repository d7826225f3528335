use Rattle.std.proofs.Common.{◌∙◌, ap, length, drop, reverse, ◌-◌}
use Rattle.lua_state.proofs.Orders.{reverse_taken}
use Rattle.lua_state.proofs.stack.Stack.cut_to.Goals as goal

pub returns : goal.returns
returns g c = ap reverse c.truncate.ensures.items ∙ reverse_taken _ c.args.count ∙ ap (λ all. drop (length all - c.args.count) all) c.self.view_is
