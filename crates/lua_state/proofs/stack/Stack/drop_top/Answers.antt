use Rattle.std.proofs.Common.{◌≡◌, ◌∙◌, ◌-◌, ap, take, reverse, length}
use Rattle.lua_state.proofs.Orders.{left_of_stack}
use Rattle.lua_state.proofs.stack.Stack.drop_top.Goals as goal

pub returns : goal.returns
returns g c =
    let all = c.self.inside.items.items in
    let left : c.saturating_sub-left.result ≡ length c.args.self.now - c.args.count = c.saturating_sub-left.ensures ∙ ap (λ n. n - c.args.count) c.len.ensures in
    ap reverse c.truncate.ensures.items ∙ ap (λ n. reverse (take n all)) left ∙ left_of_stack all c.args.self.now c.self.view_is c.args.count
