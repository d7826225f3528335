-- What a name stands for among variables, by the texts that are held.
use Rattle.std.proofs.Common.{◌≡◌, ℕ, ◌<◌, Bool, true, false, cond, List, [], ◌∷◌, ◌++◌, length, get_or, refl, sym, ap, subst, ◌∙◌, Option, Some, None}
use Rattle.std.specs.Prelude.{◌==◌, ◌||◌}
use Rattle.std.specs.Option.{is_some}
use Rattle.std.specs.List.{All}
use Rattle.std.specs.Str.{bytes_eq}
use Rattle.std.proofs.lemmas.Bool.Decides.{Decides-eqb}
use Rattle.std.proofs.lemmas.Slice.Eq.{bytes_eq-Decides}
use Rattle.lua_machine.specs.State.{is_among, look_up, replaced, value_of}
use Rattle.lua_store.specs.declared.value.SmallValue.{SmallValue}
use Rattle.lua_store.specs.Values.{Texts, AreApart, IsHeld, meant}
use Rattle.lua_state.specs.declared.variables.Variable.{Variable}
use Rattle.lua_state.specs.declared.held.HeldState.{HeldState}
use Rattle.lua_state.specs.Variables.{value_under, with_value, with_global, variable_of, variables_of, IsHeldVariable}
use Rattle.lua_state.specs.Held.{IsSound, meant_or_nil, state_of}
use Rattle.lua_state.proofs.Finding.{isnt, some_isnt_none}
use Rattle.lua_state.proofs.Growing.{rest_of, first_of_all}

same_truth : (a b : Bool) → (a ≡ true → b ≡ true) → (b ≡ true → a ≡ true) → a ≡ b
same_truth true b f g = sym (f refl)
same_truth false b f g = sym (isnt b (λ e. let wrong : false ≡ true = g e in cc))

module _ (texts : Texts) (apart : AreApart texts) (at : ℕ) (inside : at < length texts) where
  -- a name is the same where its place is
  same_name : (v : Variable) → IsHeldVariable texts v → bytes_eq (get_or texts v.name []) (get_or texts at []) ≡ (v.name == at)
  same_name v held =
      same_truth _ _ (λ e. (Decides-eqb v.name at).1 (apart v.name at held.0 inside ((bytes_eq-Decides _ _).0 e)))
      (λ e. (bytes_eq-Decides _ _).1 (ap (λ n. get_or texts n []) ((Decides-eqb v.name at).0 e)))

  pub among : (vs : List Variable) → All (IsHeldVariable texts) vs → is_among (get_or texts at []) (variables_of texts vs) ≡ is_some (value_under at vs)
  among [] all = refl
  among (v ∷ vs) all = by (v.name == at) (same_name v (first_of_all (IsHeldVariable texts) v vs all)) (among vs (rest_of (IsHeldVariable texts) v vs all))
    where
      by : (b : Bool) → bytes_eq (get_or texts v.name []) (get_or texts at []) ≡ b → is_among (get_or texts at []) (variables_of texts vs) ≡ is_some (value_under at vs) →
          (bytes_eq (get_or texts v.name []) (get_or texts at []) || is_among (get_or texts at []) (variables_of texts vs)) ≡ is_some (cond b (Some v.value) (value_under at vs))
      by true e again = ap (λ t. t || is_among (get_or texts at []) (variables_of texts vs)) e
      by false e again = ap (λ t. t || is_among (get_or texts at []) (variables_of texts vs)) e ∙ again

  looked_up : (vs : List Variable) → All (IsHeldVariable texts) vs → look_up (get_or texts at []) (variables_of texts vs) ≡ meant_or_nil texts (value_under at vs)
  looked_up [] all = refl
  looked_up (v ∷ vs) all = by (v.name == at) (same_name v (first_of_all (IsHeldVariable texts) v vs all)) (looked_up vs (rest_of (IsHeldVariable texts) v vs all))
    where
      by : (b : Bool) → bytes_eq (get_or texts v.name []) (get_or texts at []) ≡ b → look_up (get_or texts at []) (variables_of texts vs) ≡ meant_or_nil texts (value_under at vs) →
          cond (bytes_eq (get_or texts v.name []) (get_or texts at [])) (meant texts v.value) (look_up (get_or texts at []) (variables_of texts vs)) ≡ meant_or_nil texts (cond b (Some v.value) (value_under at vs))
      by true e again = ap (λ t. cond t (meant texts v.value) (look_up (get_or texts at []) (variables_of texts vs))) e
      by false e again = ap (λ t. cond t (meant texts v.value) (look_up (get_or texts at []) (variables_of texts vs))) e ∙ again

  pub new_value : (value : SmallValue) (vs : List Variable) → All (IsHeldVariable texts) vs →
      replaced (get_or texts at []) (meant texts value) (variables_of texts vs) ≡ variables_of texts (with_global at value vs)
  new_value value [] all = refl
  new_value value (v ∷ vs) all = by (v.name == at) (same_name v (first_of_all (IsHeldVariable texts) v vs all)) (value_under at vs) (new_value value vs (rest_of (IsHeldVariable texts) v vs all))
    where
      one : Variable
      one = record { name = at; value = value }

      by : (b : Bool) → bytes_eq (get_or texts v.name []) (get_or texts at []) ≡ b → (u : Option SmallValue) →
          replaced (get_or texts at []) (meant texts value) (variables_of texts vs) ≡ variables_of texts (cond (is_some u) (with_value at value vs) (vs ++ one ∷ [])) →
          cond (bytes_eq (get_or texts v.name []) (get_or texts at [])) ((get_or texts at [], meant texts value) ∷ variables_of texts vs) (variable_of texts v ∷ replaced (get_or texts at []) (meant texts value) (variables_of texts vs))
          ≡ variables_of texts (cond (is_some (cond b (Some v.value) u)) (cond b (one ∷ vs) (v ∷ with_value at value vs)) ((v ∷ vs) ++ one ∷ []))
      by true e u again = ap (λ t. cond t ((get_or texts at [], meant texts value) ∷ variables_of texts vs) (variable_of texts v ∷ replaced (get_or texts at []) (meant texts value) (variables_of texts vs))) e
      by false e (Some w) again = ap (λ t. cond t ((get_or texts at [], meant texts value) ∷ variables_of texts vs) (variable_of texts v ∷ replaced (get_or texts at []) (meant texts value) (variables_of texts vs))) e ∙ ap (λ more. variable_of texts v ∷ more) again
      by false e None again = ap (λ t. cond t ((get_or texts at [], meant texts value) ∷ variables_of texts vs) (variable_of texts v ∷ replaced (get_or texts at []) (meant texts value) (variables_of texts vs))) e ∙ ap (λ more. variable_of texts v ∷ more) again

-- the value of a name that was found is held
pub held_under : (texts : Texts) (at : ℕ) (vs : List Variable) (value : SmallValue) → All (IsHeldVariable texts) vs → value_under at vs ≡ Some value → IsHeld texts value
held_under texts at [] value all e = some_isnt_none (sym e)
held_under texts at (v ∷ vs) value all e = by (v.name == at) (held_under texts at vs value (rest_of (IsHeldVariable texts) v vs all)) e
  where
    by : (b : Bool) → (value_under at vs ≡ Some value → IsHeld texts value) → cond b (Some v.value) (value_under at vs) ≡ Some value → IsHeld texts value
    by true again e =
        let same : v.value ≡ value = cc in
        subst (IsHeld texts) same (first_of_all (IsHeldVariable texts) v vs all).1
    by false again e = again e

module _ (h : HeldState) (at : ℕ) (sound : IsSound h) (inside : at < length h.texts) where
  name : List ℕ
  name = get_or h.texts at []

  pub local_value : (value : SmallValue) → value_under at h.locals.running ≡ Some value → meant h.texts value ≡ value_of (get_or h.texts at []) (state_of h)
  local_value value e =
      let there = among h.texts sound.apart at inside h.locals.running sound.locals ∙ ap is_some e in
      let is = looked_up h.texts sound.apart at inside h.locals.running sound.locals ∙ ap (meant_or_nil h.texts) e in
      sym (ap (λ b. cond b (look_up (get_or h.texts at []) (variables_of h.texts h.locals.running)) (look_up (get_or h.texts at []) (variables_of h.texts h.globals))) there ∙ is)

  pub global_value : (u : Option SmallValue) → value_under at h.locals.running ≡ None → value_under at h.globals ≡ u → meant_or_nil h.texts u ≡ value_of (get_or h.texts at []) (state_of h)
  global_value u e f =
      let absent = among h.texts sound.apart at inside h.locals.running sound.locals ∙ ap is_some e in
      let is = looked_up h.texts sound.apart at inside h.globals sound.globals ∙ ap (meant_or_nil h.texts) f in
      sym (ap (λ b. cond b (look_up (get_or h.texts at []) (variables_of h.texts h.locals.running)) (look_up (get_or h.texts at []) (variables_of h.texts h.globals))) absent ∙ is)
