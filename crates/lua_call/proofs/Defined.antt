-- A name that is defined has a function.
use Rattle.std.proofs.Common.{◌≡◌, Bool, true, false, [], ◌∷◌, Option, Some, None, refl, cond}
use Rattle.std.specs.Prelude.{is_some, ◌||◌}
use Rattle.std.specs.Str.{bytes_eq}
use Rattle.lua_tree.specs.declared.tree.Item.TheVariants as item
use Rattle.lua_tree.specs.Defines.{defines}
use Rattle.lua_machine.specs.Tree.{items_of, block_of}
use Rattle.lua_machine.specs.Functions.{Function, function_of}
use Rattle.lua_call.specs.Calls.{DefinedIsFound}

-- the later function, or else the earlier one
abbrev or_else : Option Function → Option Function → Option Function
or_else (Some later) earlier = Some later
or_else None earlier = earlier

of_two : (b : Bool) (later : Option Function) (f : Function) (more : Bool) → more ≡ is_some later → (b || more) ≡ is_some (or_else later (cond b (Some f) None))
of_two true None f more is = refl
of_two true (Some later) f more is = refl
of_two false None f more is = is
of_two false (Some later) f more is = is

of_none : (later : Option Function) (more : Bool) → more ≡ is_some later → more ≡ is_some (or_else later None)
of_none None more is = is
of_none (Some later) more is = is

pub defined_is_found : DefinedIsFound
defined_is_found [] name = refl
defined_is_found (item.Function called params body ∷ items) name =
    of_two (bytes_eq called name) (function_of (items_of items) name) (record { params = params; body = block_of body }) (defines name items) (defined_is_found items name)
defined_is_found (item.Assign called value ∷ items) name = of_none (function_of (items_of items) name) (defines name items) (defined_is_found items name)
