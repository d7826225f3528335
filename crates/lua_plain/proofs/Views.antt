-- Plain values as they are held, and as they are seen.
use Rattle.std.proofs.Common.{◌≡◌, ℕ, zero, suc, ◌<◌, List, [], ◌∷◌, ◌++◌, map, length, get_or, refl, sym, ap, ◌∙◌, arith, Some}
use Rattle.std.specs.Prelude.{slice_get}
use Rattle.std.proofs.lemmas.List.{map-append, length-map}
use Rattle.lua_machine.specs.Answer.{PlainValue, PlainValues, ◌and◌}
use Rattle.lua_plain.specs.declared.plain.Plain as held
use Rattle.lua_plain.specs.declared.plain.Plain.TheFolds as folds
use Rattle.lua_plain.specs.declared.plain.Plain.TheOpen as level
use Rattle.lua_plain.specs.declared.plain.Plain.TheViews.{roll-Plains}
use Rattle.lua_plain.specs.declared.plain.Plains as held_list
use Rattle.lua_plain.specs.Plain.{values_of, values_with, with_last, plain_level, plains_level, plain_view, plains_view}

-- a list is seen as its values are
pub list_seen : (list : held_list.Plains) → plains_view list ≡ values_with (map plain_view (held_list.out-Plains list).values)
list_seen list = folds.fold_out-Plains PlainValue PlainValues plain_level plains_level list

list_rolled : (list : level.Plains-F held.Plain held_list.Plains) → plains_view (roll-Plains list) ≡ values_with (map plain_view list.values)
list_rolled list = folds.fold-roll-Plains PlainValue PlainValues plain_level plains_level list

-- the values of a list of values
pub values_of-values_with : (values : List PlainValue) → values_of (values_with values) ≡ values
values_of-values_with [] = refl
values_of-values_with (value ∷ values) = ap (λ (others : List PlainValue). value ∷ others) (values_of-values_with values)

values_with-with_last : (values : List PlainValue) (last : PlainValue) → values_with (values ++ last ∷ []) ≡ with_last (values_with values) last
values_with-with_last [] last = refl
values_with-with_last (value ∷ values) last = ap (λ (others : PlainValues). value and others) (values_with-with_last values last)

-- the values of a list as it is held
pub values_seen : (list : held_list.Plains) → values_of (plains_view list) ≡ map plain_view (held_list.out-Plains list).values
values_seen list = ap values_of (list_seen list) ∙ values_of-values_with (map plain_view (held_list.out-Plains list).values)

-- how many values a list has
pub list_length : (list : held_list.Plains) → length (values_of (plains_view list)) ≡ length (held_list.out-Plains list).values
list_length list = ap length (values_seen list) ∙ length-map (held_list.out-Plains list).values plain_view

-- a list with one more value
pub list_pushed : (list : held_list.Plains) (new : List held.Plain) (last : held.Plain) → new ≡ (held_list.out-Plains list).values ++ last ∷ [] → plains_view (roll-Plains (record { values = new })) ≡ with_last (plains_view list) (plain_view last)
list_pushed list new last is =
    let values = (held_list.out-Plains list).values in
    list_rolled (record { values = new }) ∙ ap (λ (n : List held.Plain). values_with (map plain_view n)) is ∙ ap values_with (map-append plain_view values (last ∷ []))
    ∙ values_with-with_last (map plain_view values) (plain_view last) ∙ ap (λ (v : PlainValues). with_last v (plain_view last)) (sym (list_seen list))

-- one value of a list of what is seen
get_seen : (values : List held.Plain) (index : ℕ) (default : held.Plain) → index < length values → slice_get (map plain_view values) index ≡ Some (plain_view (get_or values index default))
get_seen [] index default within = absurd (omega (arith, within))
get_seen (value ∷ values) zero default within = refl
get_seen (value ∷ values) (suc index) default within = get_seen values index default (omega (arith, within))

-- the value of a list at an index
pub list_at : (list : held_list.Plains) (values : List held.Plain) (index : ℕ) (default : held.Plain) → values ≡ (held_list.out-Plains list).values → index < length values → slice_get (values_of (plains_view list)) index ≡ Some (plain_view (get_or values index default))
list_at list values index default is within = ap (λ (v : List PlainValue). slice_get v index) (values_seen list ∙ ap (λ (v : List held.Plain). map plain_view v) (sym is)) ∙ get_seen values index default within

pub list_within : (list : held_list.Plains) (values : List held.Plain) (index : ℕ) → values ≡ (held_list.out-Plains list).values → index < length (values_of (plains_view list)) → index < length values
list_within list values index is within =
    let same : length values ≡ length (held_list.out-Plains list).values = ap length is in
    let seen = list_length list in
    omega (arith, within, same, seen)
