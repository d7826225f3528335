-- Functions of a chunk by their names.
use Rattle.std.specs.Prelude.{◌≡◌, ℕ, List, Option}
use Rattle.std.specs.Borrow.{Bor}
use Rattle.std.specs.Map.{lookup}
use Rattle.std.specs.Option.{option_map}
use Rattle.std.specs.Str.{bytes_eq}
use Rattle.lua_machine.specs.Functions as machine
use Rattle.lua_machine.specs.Functions.{function_of}
use Rattle.lua_machine.specs.Tree.{ItemNode}
use Rattle.lua_frames.specs.declared.functions.Function.{Function}
use Rattle.lua_frames.specs.Parts.{function_in}

-- the function under a name
abbrev pub under : List (Bor (List ℕ) × Function) → List ℕ → Option machine.Function
under entries name = option_map function_in (lookup (λ k. bytes_eq name k.now) entries)

-- under each name stands the function that items have of it
abbrev pub AreOf : List ItemNode → List (Bor (List ℕ) × Function) → Type 0
AreOf items entries = (name : List ℕ) → under entries name ≡ function_of items name
