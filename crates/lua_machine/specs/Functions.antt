-- The functions of a chunk, which have names of their own that variables don't hide.
use Rattle.std.specs.Prelude.{ℕ, List, [], ◌∷◌, if◌then◌else◌, Option, Some, None}
use Rattle.std.specs.Str.{bytes_eq}
use Rattle.lua_machine.specs.Tree.{BlockNode, ItemNode}
use Rattle.lua_machine.specs.Tree as t

-- a function: its parameters and its block
pub record Function : Type 0 where
  pub params : List (List ℕ)
  pub body : BlockNode

abbrev or_else : Option Function → Option Function → Option Function
or_else (Some later) earlier = Some later
or_else None earlier = earlier

abbrev named : List ℕ → ItemNode → Option Function
named name (t.Function called params body) = if bytes_eq called name then Some (record { params = params; body = body }) else None
named name (t.Set called of) = None

-- the function of a name: the last definition stands, also of those behind a call
abbrev pub function_of : List ItemNode → List ℕ → Option Function
function_of [] name = None
function_of (first ∷ more) name = or_else (function_of more name) (named name first)
