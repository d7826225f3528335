-- A value behind those of the parts before it.
use Rattle.std.proofs.Common.{◌≡◌, ◌∙◌, ℕ, ◌+◌, [], ◌∷◌, ◌++◌, take, reverse, ap, add-one}
use Rattle.std.proofs.lemmas.Grind.{reverse_onto}
use Rattle.lua_machine.specs.Value.{LuaValue}
use Rattle.lua_state.specs.Store.{Store, parts, without, pushed}

pub one_part_more : (count : ℕ) (value : LuaValue) (store : Store) → parts (count + 1) (pushed value store) ≡ parts count store ++ value ∷ []
one_part_more count value store = ap (λ n. reverse (take n (value ∷ store.values))) (add-one count) ∙ reverse_onto (take count store.values) value []

pub without_one_more : (count : ℕ) (value : LuaValue) (store : Store) → without (count + 1) (pushed value store) ≡ without count store
without_one_more count value store = ap (λ n. without n (pushed value store)) (add-one count)
