use Rattle.std.proofs.Common.{◌≡◌, ◌∙◌, ap, Result, Ok}
use Rattle.lua_machine.specs.Value.{Fault}
use Rattle.lua_machine.specs.Yields.{Bounds, bounds_of}
use Rattle.lua_state.specs.Held.{bounds_in, store_of}
use Rattle.lua_state.specs.Loops.{opened}
use Rattle.lua_state.specs.Store.{Refuses, parts, without}
use Rattle.lua_state.proofs.Made.{at_parts}
use Rattle.lua_state.proofs.Opening.{is_opened, not_opened}
use Rattle.lua_state.proofs.held.HeldState.open_loop.Goals as goal

pub returns-in_ok-open-in-Ok-clause-opened : goal.returns-in_ok-open-in-Ok-clause-opened
returns-in_ok-open-in-Ok-clause-opened c =
    let h = c.args.self.now in
    let whole : Result Bounds Fault = Ok (bounds_in c.in-Ok.bounds) in
    is_opened (bounds_of c.args.line (parts c.args.count (store_of h))) (bounds_in c.in-Ok.bounds) (without c.args.count (store_of h)) (store_of c.open.new.self)
    (at_parts (λ vs. bounds_of c.args.line vs ≡ whole) h c.args.count c.top-values.result.now c.top-values.ensures (c.in-Ok.ensures h.texts))
    (c.in_ok-open-in-Ok.ensures.opened ∙ ap (opened (bounds_in c.in-Ok.bounds)) c.drop_parts.ensures.dropped)

pub returns-in-Err-clause-opened : goal.returns-in-Err-clause-opened
returns-in-Err-clause-opened c =
    let h = c.args.self.now in
    not_opened c.in-Err.why (bounds_of c.args.line (parts c.args.count (store_of h))) (without c.args.count (store_of h))
    (at_parts (λ vs. Refuses c.in-Err.why (bounds_of c.args.line vs)) h c.args.count c.top-values.result.now c.top-values.ensures (c.in-Err.ensures h.texts))
