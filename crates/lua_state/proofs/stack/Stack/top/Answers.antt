use Rattle.std.proofs.Common.{◌≡◌, ◌∙◌, ◌-◌, ap, drop, length}
use Rattle.lua_state.proofs.Orders.{top_of_stack}
use Rattle.lua_state.proofs.stack.Stack.top.Goals as goal

pub returns : goal.returns
returns g c =
    let all = c.self.inside.items.items in
    let left : c.saturating_sub-left.result ≡ length c.args.self.now - c.args.count = c.saturating_sub-left.ensures ∙ ap (λ n. n - c.args.count) c.len.ensures in
    c.from.ensures ∙ ap (λ n. drop n c.as_slice.result.now) left ∙ ap (drop (length c.args.self.now - c.args.count)) c.as_slice.ensures.value ∙ top_of_stack all c.args.self.now c.self.view_is c.args.count
