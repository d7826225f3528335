-- Where the innermost variable of a name stands.
use Rattle.std.proofs.Common.{◌≡◌, ℕ, zero, suc, ◌-◌, ◌<◌, ◌≤◌, Bool, true, false, cond, List, [], ◌∷◌, ◌++◌, length, get_or, set, map, refl, sym, ap, subst, ◌∙◌, arith, Some, None}
use Rattle.std.specs.Prelude.{◌==◌}
use Rattle.std.proofs.lemmas.List.{length-map, length-append, length-drop, take-append-drop, map-set, get_or-map, set-get_or}
use Rattle.std.proofs.lemmas.Bool.Decides.{Decides-eqb}
use Rattle.lua_store.specs.declared.value.SmallValue.{SmallValue}
use Rattle.lua_state.specs.declared.bindings.Binding.{Binding}
use Rattle.lua_state.specs.declared.variables.Variable.{Variable}
use Rattle.lua_state.specs.Bindings.{ArePlaced, names, place_of, places_shadowed, variables_in}
use Rattle.lua_state.specs.Locals.{above, lowest}
use Rattle.lua_state.proofs.Finding.{none_here}
use Rattle.lua_state.specs.Variables.{value_under, with_value}

pub true_isnt_false : {A : Type 0} → true ≡ false → A
true_isnt_false e = cc

-- a place is one of those that there are
pub place_within : (name : ℕ) (ns : List ℕ) → place_of name ns ≤ length ns
place_within name [] = omega arith
place_within name (n ∷ ns) = by (n == name) (place_within name ns)
  where
    by : (b : Bool) → place_of name ns ≤ length ns → cond b (suc (length ns)) (place_of name ns) ≤ suc (length ns)
    by true h = omega arith
    by false h = omega (arith, h)

-- the first of a name among the upper ones of all variables is the one at an index
pub record StandsAt (name : ℕ) (all upper rest : List Variable) (at : ℕ) : Type 0 where
  pub named : (other : Variable) → (get_or all at other).name ≡ name
  pub valued : (other : Variable) → value_under name upper ≡ Some (get_or all at other).value
  pub assigned : (value : SmallValue) → set all at (record { name = name; value = value }) ≡ with_value name value upper ++ rest

module _ (name : ℕ) (v : Variable) (all upper rest : List Variable) where
  pub here : all ≡ upper ++ rest → (v.name == name) ≡ true → StandsAt name (v ∷ all) (v ∷ upper) rest 0
  here is e = record {
    named = λ other. (Decides-eqb _ _).0 e;
    valued = λ other. ap (λ b. cond b (Some v.value) (value_under name upper)) e;
    assigned = λ value. ap (λ (vs : List Variable). record { name = name; value = value } ∷ vs) is ∙ sym (ap (λ b. cond b (record { name = name; value = value } ∷ upper) (v ∷ with_value name value upper) ++ rest) e);
  }

  pub deeper : (at : ℕ) → (v.name == name) ≡ false → StandsAt name all upper rest at → StandsAt name (v ∷ all) (v ∷ upper) rest (suc at)
  deeper at e is = record {
    named = is.named;
    valued = λ other. ap (λ b. cond b (Some v.value) (value_under name upper)) e ∙ is.valued other;
    assigned = λ value. ap (λ (vs : List Variable). v ∷ vs) (is.assigned value) ∙ sym (ap (λ b. cond b (record { name = name; value = value } ∷ upper) (v ∷ with_value name value upper) ++ rest) e);
  }

abbrev place : ℕ → List Variable → ℕ
place name variables = place_of name (names variables)

many : (variables : List Variable) → length (names variables) ≡ length variables
many variables = length-map variables (λ (v : Variable). v.name)

pub place_inside : (name : ℕ) (variables : List Variable) → place name variables ≤ length variables
place_inside name variables = subst (λ n. place name variables ≤ n) (many variables) (place_within name (names variables))

-- a place above the rest is that of the first of the name there
found : (name : ℕ) (upper rest : List Variable) → length rest < place name (upper ++ rest) → StandsAt name (upper ++ rest) upper rest (length (upper ++ rest) - place name (upper ++ rest))
found name [] rest h = absurd (omega (arith, h, place_inside name rest))
found name (v ∷ upper) rest h = by (v.name == name) refl (found name upper rest) h
  where
    all : List Variable
    all = upper ++ rest

    by : (b : Bool) → (v.name == name) ≡ b → (length rest < place name all → StandsAt name all upper rest (length all - place name all)) → length rest < cond b (suc (length (names all))) (place name all) → StandsAt name (v ∷ all) (v ∷ upper) rest (suc (length all) - cond b (suc (length (names all))) (place name all))
    by true e again h =
        let none : 0 ≡ suc (length all) - suc (length (names all)) = omega (arith, many all) in
        subst (StandsAt name (v ∷ all) (v ∷ upper) rest) none (here name v all upper rest refl e)
    by false e again h =
        let more : suc (length all - place name all) ≡ suc (length all) - place name all = omega (arith, place_inside name all) in
        subst (StandsAt name (v ∷ all) (v ∷ upper) rest) more (deeper name v all upper rest (length all - place name all) e (again h))

-- where it isn't above the rest, none of the name stands there
not_found : (name : ℕ) (upper rest : List Variable) → place name (upper ++ rest) ≤ length rest → value_under name upper ≡ None
not_found name [] rest h = refl
not_found name (v ∷ upper) rest h = by (v.name == name) (not_found name upper rest) h
  where
    all : List Variable
    all = upper ++ rest

    by : (b : Bool) → (place name all ≤ length rest → value_under name upper ≡ None) → cond b (suc (length (names all))) (place name all) ≤ length rest → cond b (Some v.value) (value_under name upper) ≡ None
    by true again h = absurd (omega (arith, h, many all, length-append upper rest))
    by false again h = again h

-- the same of all variables, by how many the lower ones are
module _ (name count : ℕ) (all : List Variable) where
  split : above count all ++ lowest count all ≡ all
  split = take-append-drop (length all - count) all

  fewer : length (lowest count all) ≤ count
  fewer = omega (arith, length-drop (length all - count) all)

  pub found_above : (p : ℕ) → p ≡ place name all → count < p → StandsAt name all (above count all) (lowest count all) (length all - p)
  found_above p is h =
      let inside : length (lowest count all) < place name (above count all ++ lowest count all) = subst (λ (vs : List Variable). length (lowest count all) < place name vs) (sym split) (omega (arith, is, h, fewer)) in
      subst (λ n. StandsAt name all (above count all) (lowest count all) (length all - n)) (sym is)
      (subst (λ (vs : List Variable). StandsAt name vs (above count all) (lowest count all) (length vs - place name vs)) split (found name (above count all) (lowest count all) inside))

  pub not_above : (p : ℕ) → p ≡ place name all → p ≤ count → value_under name (above count all) ≡ None
  not_above p is h =
      let lower : place name all ≤ length (lowest count all) = omega (arith, is, h, length-drop (length all - count) all, place_inside name all) in
      not_found name (above count all) (lowest count all) (subst (λ (vs : List Variable). place name vs ≤ length (lowest count all)) (sym split) lower)

  pub none_assigned : (value : SmallValue) → value_under name (above count all) ≡ None → all ≡ with_value name value (above count all) ++ lowest count all
  none_assigned value none = sym split ∙ ap (λ (vs : List Variable). vs ++ lowest count all) (sym (none_here name (above count all) none value))

-- what is seen of a binding is seen of its variable
module _ (bindings : List Binding) (all : List Variable) (is : variables_in bindings ≡ all) where
  pub as_many : length bindings ≡ length all
  as_many = sym (length-map bindings (λ (b : Binding). b.variable)) ∙ ap length is

  pub variable_at : (at : ℕ) (binding : Binding) → ((other : Binding) → binding ≡ get_or bindings at other) → at < length bindings → (other : Variable) → get_or all at other ≡ binding.variable
  variable_at at binding same inside other =
      ap (λ (vs : List Variable). get_or vs at other) (sym is) ∙ get_or-map (λ (b : Binding). b.variable) bindings at binding other inside ∙ ap (λ (b : Binding). b.variable) (sym (same binding))

-- an element that is seen as the one in its place
pub seen_as : {X Y : Type 0} (f : X → Y) (xs : List X) (at : ℕ) (x : X) → at < length xs → f x ≡ f (get_or xs at x) → map f (set xs at x) ≡ map f xs
seen_as f xs at x inside e =
    map-set f xs at x ∙ ap (set (map f xs) at) (e ∙ sym (get_or-map f xs at x (f x) inside)) ∙ set-get_or (map f xs) at (f x)

-- a name whose place isn't zero is in the table
pub in_table : (table : List ℕ) (name : ℕ) (p : ℕ) → get_or table name 0 ≡ suc p → name < length table
in_table [] name p e = cc
in_table (x ∷ table) zero p e = omega arith
in_table (x ∷ table) (suc name) p e = omega (arith, in_table table name p e)

same_names : (name : ℕ) → (name == name) ≡ true
same_names name = (Decides-eqb name name).1 refl

module _ (bindings : List Binding) (table : List ℕ) (placed : ArePlaced bindings table) where
  -- a binding with another value
  pub revalued : (at : ℕ) (binding : Binding) → at < length bindings → binding.variable.name ≡ (get_or bindings at binding).variable.name → binding.shadowed ≡ (get_or bindings at binding).shadowed → ArePlaced (set bindings at binding) table
  revalued at binding inside name shadowed =
      let of : List ℕ → Type 0 = λ ns. (map (λ (b : Binding). b.shadowed) (set bindings at binding) ≡ places_shadowed ns) × ((n : ℕ) → get_or table n 0 ≡ place_of n ns) in
      let names_same : names (variables_in (set bindings at binding)) ≡ names (variables_in bindings) =
      ap names (map-set (λ (b : Binding). b.variable) bindings at binding)
      ∙ seen_as (λ (v : Variable). v.name) (variables_in bindings) at binding.variable (omega (arith, inside, length-map bindings (λ (b : Binding). b.variable)))
      (name ∙ ap (λ (v : Variable). v.name) (sym (get_or-map (λ (b : Binding). b.variable) bindings at binding binding.variable inside))) in
      let is = subst of (sym names_same) (seen_as (λ (b : Binding). b.shadowed) bindings at binding inside shadowed ∙ placed.shadowed, placed.each) in
      record { each = is.1; shadowed = is.0 }

-- one binding fewer: the one that it shadows is the innermost of its name
module _ (binding : Binding) (bindings : List Binding) (table : List ℕ) (placed : ArePlaced (binding ∷ bindings) table) where
  abbrev outer : List ℕ
  outer = names (variables_in bindings)

  abbrev its_name : ℕ
  its_name = binding.variable.name

  pub is_in_table : its_name < length table
  is_in_table = in_table table its_name (length outer) (placed.each its_name ∙ ap (λ b. cond b (suc (length outer)) (place_of its_name outer)) (same_names its_name))
