-- The events that can happen next, in their order.
use Rattle.std.specs.Prelude.{ℕ, List, [], ◌∷◌, ◌++◌, length, map, flat_map, filter}
use Rattle.std.specs.List.{range_with_len}
use Rattle.tis_base.specs.declared.tiles.Dir.{Dir}
use Rattle.tis_base.specs.declared.tiles.Dir.TheVariants.{Left, Right, Up, Down}
use Rattle.tis_grid.specs.declared.event.Event.{Event}
use Rattle.tis_grid.specs.declared.event.Event.TheVariants.{Local, Meet, In, Out, Push, Pop}
use Rattle.tis_grid.specs.State.{Grid, State}
use Rattle.tis_grid.specs.Events.{is_enabled}

-- what a tile can do in a direction: of the three at most one can happen
abbrev pub events_towards : ℕ → Dir → List Event
events_towards tile dir = Meet (record { number = tile }) dir ∷ Push (record { number = tile }) dir ∷ Pop (record { number = tile }) dir ∷ []

-- what a tile can do: by itself, and then to the left, to the right, upwards and downwards
abbrev pub events_at : ℕ → List Event
events_at tile = Local (record { number = tile }) ∷ flat_map (events_towards tile) (Left ∷ Right ∷ Up ∷ Down ∷ [])

-- all events of a grid: those of its tiles in reading order, then those of the inputs and then those of the outputs, each by position
abbrev pub all_events : Grid → List Event
all_events grid =
    flat_map events_at (range_with_len 0 (length grid.puzzle.tiles.kinds))
    ++ map (λ position. In position) (range_with_len 0 grid.puzzle.tiles.shape.columns)
    ++ map (λ position. Out position) (range_with_len 0 grid.puzzle.tiles.shape.columns)

-- those of some events that are enabled
unfoldable pub those_enabled : Grid → State → List Event → List Event
those_enabled grid state events = filter (is_enabled grid state) events

-- those of all events that are enabled
abbrev pub enabled_events : Grid → State → List Event
enabled_events grid state = filter (is_enabled grid state) (all_events grid)
