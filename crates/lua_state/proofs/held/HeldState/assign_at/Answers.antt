use Rattle.std.proofs.Common.{ap, refl, subst, sym, ◌∙◌, List}
use Rattle.lua_state.specs.declared.variables.Variable.{Variable}
use Rattle.lua_state.specs.Held.{IsSound, store_of}
use Rattle.lua_state.specs.Locals.{Scopes}
use Rattle.lua_state.specs.Variables.{with_value}
use Rattle.lua_state.proofs.Assigning.{assigns_local, local_sound, assigns_global, global_sound, with_globals, with_scopes}
use Rattle.lua_state.proofs.held.HeldState.assign_at.Goals as goal

pub returns-then-assign-clause-assigned : goal.returns-then-assign-clause-assigned
returns-then-assign-clause-assigned c =
    let h = c.args.self.now in
    ap (λ (l : Scopes). store_of (with_scopes h l)) c.assign.ensures.assigned
    ∙ assigns_local h c.args.at c.args.value c.requires.sound c.requires.inside c.requires.held c.assign.result (with_value c.args.at c.args.value h.locals.running) c.assign.ensures.found c.if-assign.true refl

pub returns-then-assign-clause-sound : goal.returns-then-assign-clause-sound
returns-then-assign-clause-sound c =
    let h = c.args.self.now in
    subst (λ (l : Scopes). IsSound (with_scopes h l)) (sym c.assign.ensures.assigned) (local_sound h c.args.at c.args.value c.requires.sound c.requires.inside c.requires.held (with_value c.args.at c.args.value h.locals.running) refl)

pub returns-clause-assigned : goal.returns-clause-assigned
returns-clause-assigned c =
    let h = c.args.self.now in
    ap (λ (l : Scopes). store_of (with_globals (with_scopes h l) c.assign-2.new.self)) c.assign.ensures.assigned
    ∙ assigns_global h c.args.at c.args.value c.requires.sound c.requires.inside c.requires.held c.assign.result (with_value c.args.at c.args.value h.locals.running) c.assign-2.new.self c.assign.ensures.found c.if-assign.false refl c.in_ok-assign.ensures.assigned

pub returns-clause-sound : goal.returns-clause-sound
returns-clause-sound c =
    let h = c.args.self.now in
    subst (λ (l : Scopes). IsSound (with_globals (with_scopes h l) c.assign-2.new.self)) (sym c.assign.ensures.assigned)
    (global_sound h c.args.at c.args.value c.requires.sound c.requires.inside c.requires.held c.assign.result (with_value c.args.at c.args.value h.locals.running) c.assign-2.new.self c.assign.ensures.found c.if-assign.false refl c.in_ok-assign.ensures.assigned)

pub returns-in_err-assign-clause-sound : goal.returns-in_err-assign-clause-sound
returns-in_err-assign-clause-sound c =
    let h = c.args.self.now in
    subst (λ (vs : List Variable). IsSound (with_globals (with_scopes h c.assign.new.self) vs)) (sym c.in_err-assign.ensures.unchanged)
    (subst (λ (l : Scopes). IsSound (with_scopes h l)) (sym c.assign.ensures.assigned) (local_sound h c.args.at c.args.value c.requires.sound c.requires.inside c.requires.held (with_value c.args.at c.args.value h.locals.running) refl))
