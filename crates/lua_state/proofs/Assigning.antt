-- A name gets another value.
use Rattle.std.proofs.Common.{◌≡◌, ℕ, ◌<◌, Bool, true, false, cond, List, [], ◌∷◌, ◌++◌, length, get_or, refl, sym, ap, subst, ◌∙◌, Option, Some, None, arith}
use Rattle.std.specs.Prelude.{◌==◌}
use Rattle.std.specs.Option.{is_some}
use Rattle.std.specs.List.{All}
use Rattle.std.proofs.lemmas.List.Elements.{All-append}
use Rattle.lua_machine.specs.State.{State, Variables, is_among, replaced, assigned}
use Rattle.lua_store.specs.declared.value.SmallValue.{SmallValue}
use Rattle.lua_store.specs.Values.{Texts, IsHeld, meant}
use Rattle.lua_state.specs.declared.variables.Variable.{Variable}
use Rattle.lua_state.specs.declared.held.HeldState.{HeldState}
use Rattle.lua_state.specs.Locals.{Scopes}
use Rattle.lua_state.specs.Variables.{value_under, with_value, with_global, variables_of, IsHeldVariable}
use Rattle.lua_state.specs.Held.{IsSound, state_of, store_of}
use Rattle.lua_state.specs.Store.{in_state}
use Rattle.lua_state.proofs.Finding.{none_here}
use Rattle.lua_state.proofs.Growing.{rest_of, first_of_all, one_more}
use Rattle.lua_state.proofs.Naming.{among, new_value}

is_none : {T : Type 0} (u : Option T) → is_some u ≡ false → u ≡ None
is_none None e = refl
is_none (Some x) e = cc

-- a state with other locals of the running function, with other locals of all calls, and with other globals
abbrev pub with_locals : HeldState → List Variable → HeldState
with_locals h locals = record h { locals = record h.locals { running = locals } }

abbrev pub with_scopes : HeldState → Scopes → HeldState
with_scopes h scopes = record h { locals = scopes }

abbrev pub with_globals : HeldState → List Variable → HeldState
with_globals h globals = record h { globals = globals }

all_with : (texts : Texts) (at : ℕ) (value : SmallValue) (vs : List Variable) → at < length texts → IsHeld texts value → All (IsHeldVariable texts) vs → All (IsHeldVariable texts) (with_value at value vs)
all_with texts at value [] inside held all = all
all_with texts at value (v ∷ vs) inside held all = by (v.name == at) (rest_of (IsHeldVariable texts) v vs all) (all_with texts at value vs inside held (rest_of (IsHeldVariable texts) v vs all))
  where
    by : (b : Bool) → All (IsHeldVariable texts) vs → All (IsHeldVariable texts) (with_value at value vs) → All (IsHeldVariable texts) (cond b (record { name = at; value = value } ∷ vs) (v ∷ with_value at value vs))
    by true others again = one_more (IsHeldVariable texts) (record { name = at; value = value }) vs (inside, held) others
    by false others again = one_more (IsHeldVariable texts) v (with_value at value vs) (first_of_all (IsHeldVariable texts) v vs all) again

all_with_global : (texts : Texts) (at : ℕ) (value : SmallValue) (vs : List Variable) → at < length texts → IsHeld texts value → All (IsHeldVariable texts) vs → All (IsHeldVariable texts) (with_global at value vs)
all_with_global texts at value vs inside held all = by (is_some (value_under at vs))
  where
    by : (b : Bool) → All (IsHeldVariable texts) (cond b (with_value at value vs) (vs ++ record { name = at; value = value } ∷ []))
    by true = all_with texts at value vs inside held all
    by false = All-append (IsHeldVariable texts) vs (record { name = at; value = value } ∷ []) all (one_more (IsHeldVariable texts) (record { name = at; value = value }) [] (inside, held) (λ k d h. absurd (omega (arith, h))))

module _ (h : HeldState) (at : ℕ) (value : SmallValue) (sound : IsSound h) (inside : at < length h.texts) (held : IsHeld h.texts value) where
  local_there : is_some (value_under at h.locals.running) ≡ true → is_among (get_or h.texts at []) (variables_of h.texts h.locals.running) ≡ true
  local_there e = among h.texts sound.apart at inside h.locals.running sound.locals ∙ e

  -- a local does
  pub assigns_local : (b : Bool) (locals : List Variable) → b ≡ is_some (value_under at h.locals.running) → b ≡ true → locals ≡ with_value at value h.locals.running →
      store_of (with_locals h locals) ≡ in_state (assigned (get_or h.texts at []) (meant h.texts value) (state_of h)) (store_of h)
  assigns_local b locals found e is =
      let some = sym found ∙ e in
      let new : variables_of h.texts locals ≡ replaced (get_or h.texts at []) (meant h.texts value) (variables_of h.texts h.locals.running) =
      ap (variables_of h.texts) (is ∙ sym (ap (λ t. cond t (with_value at value h.locals.running) (h.locals.running ++ record { name = at; value = value } ∷ [])) some)) ∙ sym (new_value h.texts sound.apart at inside value h.locals.running sound.locals) in
      let whole : (vs : Variables) → State = λ vs. record (state_of h) { locals = vs } in
      ap (λ vs. in_state (whole vs) (store_of h)) new
      ∙ sym (ap (λ t. in_state (cond t (record (state_of h) { locals = replaced (get_or h.texts at []) (meant h.texts value) (variables_of h.texts h.locals.running) }) (record (state_of h) { globals = replaced (get_or h.texts at []) (meant h.texts value) (variables_of h.texts h.globals) })) (store_of h)) (local_there some))

  pub local_sound : (locals : List Variable) → locals ≡ with_value at value h.locals.running → IsSound (with_locals h locals)
  local_sound locals is = record {
    apart = sound.apart;
    values = sound.values;
    callers = sound.callers;
    globals = sound.globals;
    tables = sound.tables;
    locals = subst (All (IsHeldVariable h.texts)) (sym is) (all_with h.texts at value h.locals.running inside held sound.locals);
  }

  -- a global does, where no local has the name
  module _ (b : Bool) (locals globals : List Variable) (found : b ≡ is_some (value_under at h.locals.running)) (e : b ≡ false) (is : locals ≡ with_value at value h.locals.running) (new : globals ≡ with_global at value h.globals) where
    none : is_some (value_under at h.locals.running) ≡ false
    none = sym found ∙ e

    stay : locals ≡ h.locals.running
    stay = is ∙ none_here at h.locals.running (is_none (value_under at h.locals.running) none) value

    pub assigns_global : store_of (with_globals (with_locals h locals) globals) ≡ in_state (assigned (get_or h.texts at []) (meant h.texts value) (state_of h)) (store_of h)
    assigns_global =
        let one : variables_of h.texts globals ≡ replaced (get_or h.texts at []) (meant h.texts value) (variables_of h.texts h.globals) = ap (variables_of h.texts) new ∙ sym (new_value h.texts sound.apart at inside value h.globals sound.globals) in
        let absent = among h.texts sound.apart at inside h.locals.running sound.locals ∙ none in
        let whole : (vs : Variables) → State = λ vs. record (state_of h) { globals = vs } in
        ap (λ (vs : List Variable). store_of (with_globals (with_locals h vs) globals)) stay ∙ ap (λ vs. in_state (whole vs) (store_of h)) one
        ∙ sym (ap (λ t. in_state (cond t (record (state_of h) { locals = replaced (get_or h.texts at []) (meant h.texts value) (variables_of h.texts h.locals.running) }) (record (state_of h) { globals = replaced (get_or h.texts at []) (meant h.texts value) (variables_of h.texts h.globals) })) (store_of h)) absent)

    pub global_sound : IsSound (with_globals (with_locals h locals) globals)
    global_sound = record {
      apart = sound.apart;
      values = sound.values;
      callers = sound.callers;
      tables = sound.tables;
      locals = subst (All (IsHeldVariable h.texts)) (sym stay) sound.locals;
      globals = subst (All (IsHeldVariable h.texts)) (sym new) (all_with_global h.texts at value h.globals inside held sound.globals);
    }
