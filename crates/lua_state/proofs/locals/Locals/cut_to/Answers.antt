use Rattle.std.proofs.Common.{◌∙◌, ◌+◌, ◌-◌, ◌≤◌, ap, arith, drop, length, List}
use Rattle.lua_state.specs.declared.variables.Variable.{Variable}
use Rattle.lua_state.specs.Locals.{Scopes, above, lowest, of_calls}
use Rattle.lua_state.proofs.Scoping.{cut_above, cut_lowest}
use Rattle.lua_state.proofs.locals.Locals.cut_to.Goals as goal

pub returns-then-outer-len : goal.returns-then-outer-len
returns-then-outer-len c =
    let all = c.self.inside.all in
    let base = c.self.inside.base in
    let bases = c.self.inside.bases in
    let outer = c.args.outer in
    let enough : base + outer ≤ length all = omega (arith, c.len.ensures, c.if-outer-len.true) in
    let seen : List Variable → Scopes = λ vs. record { running = above base vs; around = of_calls bases (lowest base vs) } in
    let running = cut_above base outer all enough in
    let lower = cut_lowest base outer all enough in
    ap seen c.cut_to.ensures ∙ (λ j. record { running = running j; around = of_calls bases (lower j) })
    ∙ ap (λ (s : Scopes). record { running = drop (length s.running - outer) s.running; around = s.around }) c.self.view_is
