-- How a name is found among variables.
use Rattle.std.proofs.Common.{◌≡◌, ℕ, Bool, true, false, cond, List, [], ◌∷◌, ◌++◌, refl, sym, ap, ◌∙◌, Some, None}
use Rattle.std.specs.Prelude.{◌==◌}
use Rattle.std.proofs.lemmas.List.{append-nil}
use Rattle.lua_store.specs.declared.value.SmallValue.{SmallValue}
use Rattle.lua_state.specs.declared.variables.Variable.{Variable}
use Rattle.lua_state.specs.Variables.{value_under, with_value}

pub some_isnt_none : {T : Type 0} {x : T} {A : Type 0} → Some x ≡ None → A
some_isnt_none e = cc

pub isnt : (b : Bool) → (b ≡ true → ⊥) → b ≡ false
isnt true n = absurd (n refl)
isnt false n = refl

-- variables without the name are passed over
pub passed : (name : ℕ) (before behind : List Variable) → value_under name before ≡ None → value_under name (before ++ behind) ≡ value_under name behind
passed name [] behind none = refl
passed name (first ∷ before) behind none = by (first.name == name) (passed name before behind) none
  where
    by : (b : Bool) → (value_under name before ≡ None → value_under name (before ++ behind) ≡ value_under name behind) → cond b (Some first.value) (value_under name before) ≡ None → cond b (Some first.value) (value_under name (before ++ behind)) ≡ value_under name behind
    by true again e = some_isnt_none e
    by false again e = again e

pub kept : (name : ℕ) (value : SmallValue) (before behind : List Variable) → value_under name before ≡ None → with_value name value (before ++ behind) ≡ before ++ with_value name value behind
kept name value [] behind none = refl
kept name value (first ∷ before) behind none = by (first.name == name) (kept name value before behind) none
  where
    by : (b : Bool) → (value_under name before ≡ None → with_value name value (before ++ behind) ≡ before ++ with_value name value behind) → cond b (Some first.value) (value_under name before) ≡ None → cond b (record { name = name; value = value } ∷ before ++ behind) (first ∷ with_value name value (before ++ behind)) ≡ first ∷ (before ++ with_value name value behind)
    by true again e = some_isnt_none e
    by false again e = ap (λ all. first ∷ all) (again e)

-- where none has the name
pub none_here : (name : ℕ) (variables : List Variable) → value_under name variables ≡ None → (value : SmallValue) → with_value name value variables ≡ variables
none_here name variables none value = ap (with_value name value) (sym (append-nil variables)) ∙ kept name value variables [] none ∙ append-nil variables
