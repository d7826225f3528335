-- A state as the program holds it, with room for more values of its outputs.
use Rattle.std.specs.Prelude.{◌≡◌, Bool, true, false, map, ℕ, ◌-◌, ◌<◌, ◌≤◌, ◌^◌, List, [], ◌∷◌, Option, Some, None, option_map, unwrap_or, get_or, slice_set, min, IsSome}
use Rattle.tis_asm.specs.Node.{Node, Mode, Ready, Writing}
use Rattle.tis_grid.specs.declared.event.Event.{Event}
use Rattle.tis_grid.specs.declared.event.Event.TheVariants.{Local, Meet, In, Out, Push, Pop}
use Rattle.tis_grid.specs.State.{State, output_taken}

-- the state, and by position how many more values the output there takes without taking memory, where one stands
pub record HeldState : Type 0 where
  pub state : State
  pub spares : List (Option ℕ)

-- whether a node writes
abbrev pub writes_in : Mode → Bool
writes_in Ready = false
writes_in (Writing value toward) = true

abbrev pub writes : Node → Bool
writes node = writes_in node.mode

-- of each node it is kept whether it writes
abbrev pub AreWriting : List Bool → List Node → Type 0
AreWriting writing nodes = writing ≡ map writes nodes

-- how many more values the output at a position takes without taking memory, where one stands there
abbrev pub output_spare : List (Option ℕ) → ℕ → Option ℕ
output_spare spares position = get_or spares position None

-- the same, with 0 where no output stands
abbrev pub spare_at : List (Option ℕ) → ℕ → ℕ
spare_at spares position = unwrap_or (output_spare spares position) 0

-- the least over the outputs, and where there is none the greatest number of 64 bits
abbrev pub least_spare : List (Option ℕ) → ℕ
least_spare [] = 2 ^ 64 - 1
least_spare (None ∷ spares) = least_spare spares
least_spare (Some spare ∷ spares) = min spare (least_spare spares)

-- an output takes so many more values without taking memory, where one stands
abbrev pub HasSpare : ℕ → Option ℕ → Type 0
HasSpare count None = Unit {0}
HasSpare count (Some spare) = count ≤ spare

-- each output takes so many more values without taking memory
abbrev pub HasRoomEach : HeldState → ℕ → Type 0
HasRoomEach held count = (position : ℕ) → IsSome (output_taken held.state position) → count ≤ spare_at held.spares position

-- no output takes fewer values without taking memory than before
abbrev pub NeverFall : List (Option ℕ) → List (Option ℕ) → Type 0
NeverFall old new = (position : ℕ) → spare_at old position ≤ spare_at new position

-- an event that gives to an output finds a place there
abbrev pub HasRoom : List (Option ℕ) → Event → Type 0
HasRoom spares (Local tile) = Unit {0}
HasRoom spares (Meet tile dir) = Unit {0}
HasRoom spares (In position) = Unit {0}
HasRoom spares (Out position) = 0 < spare_at spares position
HasRoom spares (Push tile dir) = Unit {0}
HasRoom spares (Pop tile dir) = Unit {0}

-- it uses up one place of that output, and no event uses up any other
abbrev pub spares_after : List (Option ℕ) → Event → List (Option ℕ)
spares_after spares (Local tile) = spares
spares_after spares (Meet tile dir) = spares
spares_after spares (In position) = spares
spares_after spares (Out position) = slice_set spares position (option_map (λ spare. spare - 1) (output_spare spares position))
spares_after spares (Push tile dir) = spares
spares_after spares (Pop tile dir) = spares
