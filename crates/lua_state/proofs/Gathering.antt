-- Globals by the places of their names.
use Rattle.std.proofs.Common.{◌≡◌, ℕ, zero, suc, ◌-◌, ◌<◌, ◌≤◌, Bool, true, false, cond, List, [], ◌∷◌, ◌++◌, length, get_or, set, refl, sym, ap, subst, ◌∙◌, arith, Some, None}
use Rattle.std.specs.Prelude.{◌==◌}
use Rattle.std.specs.Option.{is_some}
use Rattle.std.proofs.lemmas.Bool.Decides.{Decides-eqb}
use Rattle.std.proofs.lemmas.List.{append-nil, get_or-set_same, get_or-set_other, length-map, map-append}
use Rattle.lua_store.specs.declared.value.SmallValue.{SmallValue}
use Rattle.lua_state.specs.declared.variables.Variable.{Variable}
use Rattle.lua_state.specs.Bindings.{names}
use Rattle.lua_state.specs.Globals.{IsTableOf, first_place, further}
use Rattle.lua_state.specs.Variables.{value_under, with_global, with_value}
use Rattle.lua_state.proofs.Placing.{StandsAt, deeper, here, seen_as, true_isnt_false}

-- a place is that of the first of the name
first_stands : (name : ℕ) (vs : List Variable) (at : ℕ) → first_place name (names vs) ≡ suc at → StandsAt name (vs ++ []) vs [] at
first_stands name [] at e = cc
first_stands name (v ∷ vs) at e = by (v.name == name) refl (first_stands name vs) e
  where
    behind : (p : ℕ) → first_place name (names vs) ≡ p → (v.name == name) ≡ false → ((k : ℕ) → first_place name (names vs) ≡ suc k → StandsAt name (vs ++ []) vs [] k) → further p ≡ suc at → StandsAt name (v ∷ (vs ++ [])) (v ∷ vs) [] at
    behind zero is e again far = cc
    behind (suc k) is e again far =
        let same : suc k ≡ at = cc in
        subst (StandsAt name (v ∷ (vs ++ [])) (v ∷ vs) []) same (deeper name v (vs ++ []) vs [] k e (again k is))

    by : (b : Bool) → (v.name == name) ≡ b → ((k : ℕ) → first_place name (names vs) ≡ suc k → StandsAt name (vs ++ []) vs [] k) → cond b (suc zero) (further (first_place name (names vs))) ≡ suc at → StandsAt name (v ∷ (vs ++ [])) (v ∷ vs) [] at
    by true e again is =
        let same : 0 ≡ at = cc in
        subst (StandsAt name (v ∷ (vs ++ [])) (v ∷ vs) []) same (here name v (vs ++ []) vs [] refl e)
    by false e again is = behind (first_place name (names vs)) refl e again is

first_none : (name : ℕ) (vs : List Variable) → first_place name (names vs) ≡ 0 → value_under name vs ≡ None
first_none name [] e = refl
first_none name (v ∷ vs) e = by (v.name == name) (first_none name vs) e
  where
    near : (p : ℕ) → first_place name (names vs) ≡ p → (first_place name (names vs) ≡ 0 → value_under name vs ≡ None) → further p ≡ 0 → value_under name vs ≡ None
    near zero is again far = again is
    near (suc k) is again far = cc

    by : (b : Bool) → (first_place name (names vs) ≡ 0 → value_under name vs ≡ None) → cond b (suc zero) (further (first_place name (names vs))) ≡ 0 → cond b (Some v.value) (value_under name vs) ≡ None
    by true again is = cc
    by false again is = near (first_place name (names vs)) refl again is

first_within : (name : ℕ) (ns : List ℕ) → first_place name ns ≤ length ns
first_within name [] = omega arith
first_within name (n ∷ ns) = by (n == name) (first_place name ns) (first_within name ns)
  where
    by : (b : Bool) (p : ℕ) → p ≤ length ns → cond b (suc zero) (further p) ≤ suc (length ns)
    by true p h = omega arith
    by false zero h = omega arith
    by false (suc k) h = omega (arith, h)

-- a name more, behind others without it
first_behind : (name : ℕ) (ns : List ℕ) (last : ℕ) → first_place name ns ≡ 0 → (last == name) ≡ true → first_place name (ns ++ last ∷ []) ≡ suc (length ns)
first_behind name [] last e is = ap (λ b. cond b (suc zero) zero) is
first_behind name (n ∷ ns) last e is = by (n == name) (λ none. first_behind name ns last none is) e
  where
    near : (p : ℕ) → first_place name ns ≡ p → (first_place name ns ≡ 0 → first_place name (ns ++ last ∷ []) ≡ suc (length ns)) → further p ≡ 0 → further (first_place name (ns ++ last ∷ [])) ≡ suc (suc (length ns))
    near zero none again far = ap further (again none)
    near (suc k) none again far = cc

    by : (b : Bool) → (first_place name ns ≡ 0 → first_place name (ns ++ last ∷ []) ≡ suc (length ns)) → cond b (suc zero) (further (first_place name ns)) ≡ 0 → cond b (suc zero) (further (first_place name (ns ++ last ∷ []))) ≡ suc (suc (length ns))
    by true again e = cc
    by false again e = near (first_place name ns) refl again e

-- others stay where they are
first_other : (name : ℕ) (ns : List ℕ) (last : ℕ) → (last == name) ≡ false → first_place name (ns ++ last ∷ []) ≡ first_place name ns
first_other name [] last e = ap (λ b. cond b (suc zero) zero) e
first_other name (n ∷ ns) last e = ap (λ p. cond (n == name) (suc zero) (further p)) (first_other name ns last e)

module _ (vs : List Variable) (places : List ℕ) (table : IsTableOf vs places) (name p : ℕ) (is : p ≡ get_or places name 0) where
  its_place : p ≡ first_place name (names vs)
  its_place = is ∙ table name

  -- none is there at place zero
  pub none_there : p ≤ 0 → value_under name vs ≡ None
  none_there none = first_none name vs (sym its_place ∙ omega (arith, none))

  pub added : (value : SmallValue) → p ≤ 0 → vs ++ record { name = name; value = value } ∷ [] ≡ with_global name value vs
  added value none = sym (ap (λ u. cond (is_some u) (with_value name value vs) (vs ++ record { name = name; value = value } ∷ [])) (none_there none))

  pub added_table : (value : SmallValue) → p ≤ 0 → (new : List ℕ) → ((n : ℕ) → get_or new n 0 ≡ get_or places n 0) → name < length new → IsTableOf (vs ++ record { name = name; value = value } ∷ []) (set new name (suc (length vs)))
  added_table value none new same inside n = first_now (name == n) refl ∙ ap (first_place n) (sym as_names)
    where
      as_names : names (vs ++ record { name = name; value = value } ∷ []) ≡ names vs ++ name ∷ []
      as_names = map-append (λ (v : Variable). v.name) vs (record { name = name; value = value } ∷ [])

      first_now : (b : Bool) → (name == n) ≡ b → get_or (set new name (suc (length vs))) n 0 ≡ first_place n (names vs ++ name ∷ [])
      first_now true e =
          let at : name ≡ n = (Decides-eqb name n).0 e in
          let absent : first_place n (names vs) ≡ 0 = ap (λ m. first_place m (names vs)) (sym at) ∙ sym its_place ∙ omega (arith, none) in
          ap (λ m. get_or (set new name (suc (length vs))) m 0) (sym at) ∙ get_or-set_same new name (suc (length vs)) 0 inside
          ∙ ap suc (sym (length-map vs (λ (v : Variable). v.name))) ∙ sym (first_behind n (names vs) name absent e)
      first_now false e =
          get_or-set_other new name n (suc (length vs)) 0 (λ at. true_isnt_false (sym ((Decides-eqb name n).1 (sym at)) ∙ e)) ∙ same n ∙ table n ∙ sym (first_other n (names vs) name e)

  module _ (some : 0 < p) where
    stands : StandsAt name vs vs [] (p - 1)
    stands =
        let there : first_place name (names vs) ≡ suc (p - 1) = sym its_place ∙ omega (arith, some) in
        subst (λ (all : List Variable). StandsAt name all vs [] (p - 1)) (append-nil vs) (first_stands name vs (p - 1) there)

    pub is_inside : p - 1 < length vs
    is_inside = omega (arith, some, its_place, first_within name (names vs), length-map vs (λ (v : Variable). v.name))

    pub is_value : (other : Variable) → Some (get_or vs (p - 1) other).value ≡ value_under name vs
    is_value other = sym (stands.valued other)

    pub replaced_there : (value : SmallValue) → set vs (p - 1) (record { name = name; value = value }) ≡ with_global name value vs
    replaced_there value =
        let one : Variable = record { name = name; value = value } in
        stands.assigned value ∙ append-nil (with_value name value vs) ∙ sym (ap (λ u. cond (is_some u) (with_value name value vs) (vs ++ one ∷ [])) (stands.valued one))

    pub same_table : (value : SmallValue) → IsTableOf (set vs (p - 1) (record { name = name; value = value })) places
    same_table value n =
        let one : Variable = record { name = name; value = value } in
        table n ∙ sym (ap (first_place n) (seen_as (λ (v : Variable). v.name) vs (p - 1) one is_inside (sym (stands.named one))))
