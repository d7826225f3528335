use Rattle.std.proofs.Common.{◌≤◌, ◌<◌, ◌^◌, ℕ, Bool, cond, [], ap, sym, subst, ◌∙◌, arith}
use Rattle.std.specs.Prelude.{max}
use Rattle.lua_machine.specs.Tables.{place_of}
use Rattle.lua_store.specs.Rows.{Cells, IsPutAt, held_in, is_nothing}
use Rattle.lua_store.specs.Values.{meant_key, same_key}
use Rattle.lua_store.proofs.Held.{put_at}
use Rattle.lua_store.proofs.Growing.{held_put}
use Rattle.lua_store.proofs.Borders.{put_among}
use Rattle.lua_store.proofs.row.Row.set.Goals as goal

pub returns-clause-stored : goal.returns-clause-stored
returns-clause-stored c = λ texts apart held.
    put_at texts apart c.args.key held c.args.value c.args.self.now _
    (λ q. c.in_ok-put.ensures.put q ∙ ap (λ (cells : Cells). cond (same_key c.args.key q) c.args.value (held_in cells.entries q)) c.self.view_is)
    (c.max-self-inside.ensures ∙ ap (max c.self.inside.last) (c.place-at.ensures.exact texts) ∙ ap (λ (cells : Cells). max cells.last (place_of (meant_key texts c.args.key))) c.self.view_is)

pub returns-clause-held : goal.returns-clause-held
returns-clause-held c = λ texts held its whole.
    held_put texts c.args.key c.args.value c.args.self.now (record { entries = c.put.new.values.entries; last = c.max-self-inside.result })
    (λ q. c.in_ok-put.ensures.put q ∙ ap (λ (cells : Cells). cond (same_key c.args.key q) c.args.value (held_in cells.entries q)) c.self.view_is) held its whole

pub invariant_of-self-2 : goal.invariant_of-self-2
invariant_of-self-2 c =
    let old = c.self.inside.values.entries in
    let new = c.put.new.values.entries in
    let among : IsPutAt (place_of (meant_key [] c.args.key)) (is_nothing c.args.value) old new = put_among c.args.value old new c.args.key c.in_ok-put.ensures.put in
    let placed : IsPutAt c.place-at.result (is_nothing c.args.value) old new = subst (λ (n : ℕ). IsPutAt n (is_nothing c.args.value) old new) (sym (c.place-at.ensures.exact [])) among in
    let put : IsPutAt c.place-at.result c.is_nothing-none.result old new = subst (λ (b : Bool). IsPutAt c.place-at.result b old new) (sym c.is_nothing-none.ensures) placed in
    let more : c.self.inside.last ≤ c.max-self-inside.result = omega (arith, c.max-self-inside.ensures) in
    let within : c.max-self-inside.result < 2 ^ 63 = omega (arith, c.max-self-inside.ensures, c.self.invariant.0, c.place-at.ensures.within) in
    (within, c.border_behind-self-inside.ensures old c.self.inside.last more c.self.invariant.1 put)
