use Rattle.std.proofs.Common.{◌<◌, arith, length, subst}
use Rattle.lua_state.specs.Bindings.{ArePlaced}
use Rattle.lua_state.proofs.Placing.{is_in_table}
use Rattle.lua_state.proofs.bindings.Bindings.pop.Goals as goal

pub index_mut-requires : goal.index_mut-requires
index_mut-requires c =
    let table = c.self.inside.innermost.items in
    let inside : c.in-Some.binding.variable.name < length table = is_in_table c.in-Some.binding c.pop.new.self table (subst (λ bs. ArePlaced bs table) c.in-Some.ensures c.self.invariant) in
    omega (arith, inside, c.self.inside.innermost.ok)
