use Rattle.std.proofs.Common.{◌≡◌, ◌∙◌, ap, sym, refl, Result, Ok, subst, List, ◌∷◌}
use Rattle.std.specs.List.{All}
use Rattle.lua_machine.specs.State.{State}
use Rattle.lua_machine.specs.Value.{Fault, Table}
use Rattle.lua_machine.specs.Yields.{put}
use Rattle.lua_store.specs.declared.value.SmallValue.{SmallValue}
use Rattle.lua_store.specs.Values.{IsHeld}
use Rattle.lua_store.specs.Rows.{tables_of}
use Rattle.std.proofs.lemmas.List.Elements.{All-drop}
use Rattle.lua_state.specs.Held.{state_of, store_of}
use Rattle.lua_state.specs.Store.{Refuses, ended, parts, with_ended, without}
use Rattle.lua_state.proofs.Made.{at_parts, parts_are_held, put_done, not_put}
use Rattle.lua_state.proofs.Sound.{with_tables}
use Rattle.lua_state.proofs.held.HeldState.store_keyed.Goals as goal

pub returns-in-Ok-clause-put : goal.returns-in-Ok-clause-put
returns-in-Ok-clause-put c =
    let h = c.args.self.now in
    let whole : Result State Fault = Ok (record (state_of h) { tables = tables_of h.texts c.put_entry_of_parts.new.tables }) in
    let held : All (IsHeld h.texts) c.top-values.result.now = parts_are_held h c.args.count c.top-values.result.now c.requires.values c.top-values.ensures in
    ap (λ (r : Result State Fault). with_ended r (without c.args.count (store_of h)))
    (at_parts (λ vs. ended (put c.args.line (Table c.args.at ∷ vs) (state_of h)) ≡ whole) h c.args.count c.top-values.result.now c.top-values.ensures (c.in-Ok.ensures.put h.texts (state_of h) c.requires.apart held refl))
    ∙ ap Ok (sym (put_done h c.args.count c.drop_top.new.self c.put_entry_of_parts.new.tables c.drop_top.ensures))

pub returns-in-Ok-clause-sound : goal.returns-in-Ok-clause-sound
returns-in-Ok-clause-sound c =
    let h = c.args.self.now in
    let held : All (IsHeld h.texts) c.top-values.result.now = parts_are_held h c.args.count c.top-values.result.now c.requires.values c.top-values.ensures in
    record {
      apart = c.requires.apart;
      locals = c.requires.locals;
      callers = c.requires.callers;
      globals = c.requires.globals;
      values = subst (λ (vs : List SmallValue). All (IsHeld h.texts) vs) (sym c.drop_top.ensures) (All-drop (IsHeld h.texts) c.args.count h.values c.requires.values);
      tables = c.put_entry_of_parts.ensures.held h.texts c.requires.tables held;
    }

pub returns-in-Err-clause-put : goal.returns-in-Err-clause-put
returns-in-Err-clause-put c =
    let h = c.args.self.now in
    let held : All (IsHeld h.texts) c.top-values.result.now = parts_are_held h c.args.count c.top-values.result.now c.requires.values c.top-values.ensures in
    not_put c.in-Err.why (ended (put c.args.line (Table c.args.at ∷ parts c.args.count (store_of h)) (state_of h))) (without c.args.count (store_of h))
    (at_parts (λ vs. Refuses c.in-Err.why (ended (put c.args.line (Table c.args.at ∷ vs) (state_of h)))) h c.args.count c.top-values.result.now c.top-values.ensures (c.in-Err.ensures.put h.texts (state_of h) c.requires.apart held refl))

pub returns-in-Err-clause-sound : goal.returns-in-Err-clause-sound
returns-in-Err-clause-sound c =
    let h = c.args.self.now in
    let held : All (IsHeld h.texts) c.top-values.result.now = parts_are_held h c.args.count c.top-values.result.now c.requires.values c.top-values.ensures in
    with_tables h c.put_entry_of_parts.new.tables c.requires (c.put_entry_of_parts.ensures.held h.texts c.requires.tables held)
