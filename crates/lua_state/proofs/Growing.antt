-- Once another text is held, what was held stands for the same.
use Rattle.std.proofs.Common.{◌≡◌, ℕ, zero, suc, ◌<◌, ◌≤◌, Bool, true, false, cond, List, [], ◌∷◌, ◌++◌, map, length, get_or, refl, ap, arith}
use Rattle.std.specs.List.{All, list_any}
use Rattle.std.specs.Str.{bytes_eq}
use Rattle.std.proofs.lemmas.List.{get_or_append_left, length-append}
use Rattle.lua_machine.specs.Value as lua
use Rattle.lua_store.specs.declared.value.SmallValue.{SmallValue}
use Rattle.lua_store.specs.declared.value.SmallValue.TheVariants as small
use Rattle.lua_store.specs.Values.{Texts, AreApart, IsHeld, meant, with_text}
use Rattle.lua_store.specs.Rows.{AreHeld, Cells, tables_of}
use Rattle.lua_state.specs.declared.held.HeldState.{HeldState}
use Rattle.lua_state.specs.declared.variables.Variable.{Variable}
use Rattle.lua_state.specs.Variables.{variable_of, variables_of, IsHeldVariable}
use Rattle.lua_state.specs.Held.{bounds_in, store_of, IsSound}

module _ {X : Type 0} (P : X → Type 0) where
  pub rest_of : (x : X) (xs : List X) → All P (x ∷ xs) → All P xs
  rest_of x xs all = λ k d h. all (suc k) d (omega (arith, h))

  pub first_of_all : (x : X) (xs : List X) → All P (x ∷ xs) → P x
  first_of_all x xs all = all 0 x (omega arith)

  pub one_more : (x : X) (xs : List X) → P x → All P xs → All P (x ∷ xs)
  one_more x xs p all zero d h = p
  one_more x xs p all (suc k) d h = all k d (omega (arith, h))

-- what is the same of each element is the same of the list
pub map_same : {X Y : Type 0} (P : X → Type 0) (f g : X → Y) → ((x : X) → P x → f x ≡ g x) → (xs : List X) → All P xs → map f xs ≡ map g xs
map_same P f g each [] all = refl
map_same P f g each (x ∷ xs) all =
    let first = each x (first_of_all P x xs all) in
    let others = map_same P f g each xs (rest_of P x xs all) in
    λ j. first j ∷ others j

pub all_as : {X : Type 0} (P Q : X → Type 0) → ((x : X) → P x → Q x) → (xs : List X) → All P xs → All Q xs
all_as P Q each xs all = λ k d h. each (get_or xs k d) (all k d h)

module _ (texts : Texts) (bytes : List ℕ) where
  at_more : (at : ℕ) → at < length texts → get_or (with_text texts bytes) at [] ≡ get_or texts at []
  at_more at h = by (list_any (bytes_eq bytes) texts)
    where
      by : (b : Bool) → get_or (cond b texts (texts ++ bytes ∷ [])) at [] ≡ get_or texts at []
      by true = refl
      by false = get_or_append_left texts (bytes ∷ []) [] at h

  longer : length texts ≤ length (with_text texts bytes)
  longer = by (list_any (bytes_eq bytes) texts)
    where
      by : (b : Bool) → length texts ≤ length (cond b texts (texts ++ bytes ∷ []))
      by true = omega arith
      by false = omega (arith, length-append texts (bytes ∷ []))

  pub meant_more : (value : SmallValue) → IsHeld texts value → meant (with_text texts bytes) value ≡ meant texts value
  meant_more small.Nil h = refl
  meant_more (small.Truth b) h = refl
  meant_more (small.Number n) h = refl
  meant_more (small.Text at) h = ap lua.Text (at_more at h)
  meant_more (small.Table at) h = refl

  pub held_more : (value : SmallValue) → IsHeld texts value → IsHeld (with_text texts bytes) value
  held_more small.Nil h = tt
  held_more (small.Truth b) h = tt
  held_more (small.Number n) h = tt
  held_more (small.Text at) h = omega (arith, h, longer)
  held_more (small.Table at) h = tt

  variable_more : (v : Variable) → IsHeldVariable texts v → variable_of (with_text texts bytes) v ≡ variable_of texts v
  variable_more v h =
      let name = at_more v.name h.0 in
      let value = meant_more v.value h.1 in
      λ j. (name j, value j)

  held_variable_more : (v : Variable) → IsHeldVariable texts v → IsHeldVariable (with_text texts bytes) v
  held_variable_more v h = (omega (arith, h.0, longer), held_more v.value h.1)

  variables_more : (vs : List Variable) → All (IsHeldVariable texts) vs → variables_of (with_text texts bytes) vs ≡ variables_of texts vs
  variables_more = map_same (IsHeldVariable texts) (variable_of (with_text texts bytes)) (variable_of texts) variable_more

-- a state with one more text
abbrev pub with_one : HeldState → List ℕ → HeldState
with_one h bytes = record h { texts = with_text h.texts bytes }

pub store_more : (h : HeldState) (bytes : List ℕ) → IsSound h → ((texts : Texts) (bytes : List ℕ) (rows : List Cells) → All (AreHeld texts) rows → tables_of (with_text texts bytes) rows ≡ tables_of texts rows) → store_of (with_one h bytes) ≡ store_of h
store_more h bytes sound tables_more =
    let values = map_same (IsHeld h.texts) (meant (with_text h.texts bytes)) (meant h.texts) (meant_more h.texts bytes) h.values sound.values in
    let locals = variables_more h.texts bytes h.locals.running sound.locals in
    let globals = variables_more h.texts bytes h.globals sound.globals in
    let callers = map_same (All (IsHeldVariable h.texts)) (variables_of (with_text h.texts bytes)) (variables_of h.texts) (variables_more h.texts bytes) h.locals.around sound.callers in
    let tables = tables_more h.texts bytes h.tables sound.tables in
    λ j. record { values = values j; callers = callers j; loops = map bounds_in h.loops; state = record { locals = locals j; globals = globals j; tables = tables j; generator = h.generator } }

pub sound_more : (h : HeldState) (bytes : List ℕ) → IsSound h → AreApart (with_text h.texts bytes) → ((texts : Texts) (bytes : List ℕ) (cells : Cells) → AreHeld texts cells → AreHeld (with_text texts bytes) cells) → IsSound (with_one h bytes)
sound_more h bytes sound apart tables_more =
    let more = held_variable_more h.texts bytes in
    record {
      apart = apart;
      values = all_as (IsHeld h.texts) (IsHeld (with_text h.texts bytes)) (held_more h.texts bytes) h.values sound.values;
      locals = all_as (IsHeldVariable h.texts) (IsHeldVariable (with_text h.texts bytes)) more h.locals.running sound.locals;
      callers = all_as (All (IsHeldVariable h.texts)) (All (IsHeldVariable (with_text h.texts bytes))) (λ vs. all_as (IsHeldVariable h.texts) (IsHeldVariable (with_text h.texts bytes)) more vs) h.locals.around sound.callers;
      globals = all_as (IsHeldVariable h.texts) (IsHeldVariable (with_text h.texts bytes)) more h.globals sound.globals;
      tables = all_as (AreHeld h.texts) (AreHeld (with_text h.texts bytes)) (tables_more h.texts bytes) h.tables sound.tables;
    }
