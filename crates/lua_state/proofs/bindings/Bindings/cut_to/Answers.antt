use Rattle.std.proofs.Common.{◌∙◌, ◌-◌, ◌<◌, ap, arith, drop, length, List}
use Rattle.lua_state.specs.declared.variables.Variable.{Variable}
use Rattle.lua_state.proofs.Scoping.{dropped_below}
use Rattle.lua_state.proofs.bindings.Bindings.cut_to.Goals as goal

pub loop-self-preserved : goal.loop-self-preserved
loop-self-preserved c =
    let more : c.args.count < length c.loop-self.self = omega (arith, c.len.ensures, c.loop-self-test.true) in
    ap (λ (vs : List Variable). drop (length vs - c.args.count) vs) c.pop.ensures ∙ dropped_below c.loop-self.self c.args.count more ∙ c.loop-self.invariant
