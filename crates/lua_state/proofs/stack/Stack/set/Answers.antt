use Rattle.std.proofs.Common.{◌≡◌, ◌∙◌, ◌-◌, ◌<◌, suc, ap, arith, sym, length, set, reverse}
use Rattle.std.proofs.lemmas.List.{length-reverse}
use Rattle.lua_state.proofs.Orders.{reversed_set}
use Rattle.lua_state.proofs.stack.Stack.set.Goals as goal

pub returns : goal.returns
returns g c =
    let all = c.self.inside.items.items in
    let count : length all ≡ length c.args.self.now = sym (length-reverse all) ∙ ap length c.self.view_is in
    let inside : c.args.place - 1 < length all = omega (arith, count, c.requires.some, c.requires.inside) in
    let place : length all - suc (c.args.place - 1) ≡ length c.args.self.now - c.args.place = omega (arith, count, c.requires.some, c.requires.inside) in
    reversed_set all (c.args.place - 1) c.args.item inside ∙ ap (λ n. set (reverse all) n c.args.item) place ∙ ap (λ xs. set xs (length c.args.self.now - c.args.place) c.args.item) c.self.view_is
