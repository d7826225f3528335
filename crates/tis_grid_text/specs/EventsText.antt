-- The text of an order of events.
use Rattle.std.specs.Prelude.{ℕ, Bool, List, [], ◌∷◌, Option, Some, None, option_map, option_and_then, Result, Ok, Err, codes, if◌then◌else◌}
use Rattle.std.specs.Str.{bytes_eq}
use Rattle.tis_base.specs.declared.tiles.Dir.{Dir}
use Rattle.tis_base.specs.declared.tiles.Dir.TheVariants.{Left, Right, Up, Down}
use Rattle.tis_base.specs.declared.tiles.Tile.{Tile}
use Rattle.tis_words.specs.declared.comments.Comments.TheVariants.{Never}
use Rattle.tis_words.specs.Words.{Words}
use Rattle.tis_words.specs.Letters.{capitals}
use Rattle.tis_words.specs.Lines.{NonBlank, non_blank_lines}
use Rattle.tis_words.specs.Numerals.{number_of}
use Rattle.tis_grid.specs.declared.event.Event.{Event}
use Rattle.tis_grid.specs.declared.event.Event.TheVariants.{Local, Meet, In, Out, Push, Pop}

-- whether a word is this one, which is written in capitals, in letters of either case
abbrev pub says : List ℕ → List ℕ → Bool
says text word = bytes_eq (capitals word) text

-- the direction that a word names
abbrev pub dir_of : List ℕ → Option Dir
dir_of word =
    if says (codes "LEFT") word then Some Left
    else (if says (codes "RIGHT") word then Some Right
    else (if says (codes "UP") word then Some Up
    else (if says (codes "DOWN") word then Some Down else None)))

-- the tile that a number below 48 names
abbrev pub tile_of : List ℕ → Option Tile
tile_of word = option_map (λ number. record { number = number }) (number_of 47 word)

-- an event of a tile alone, or of an input or an output at a position below 8
abbrev pub single_event : List ℕ → List ℕ → Option Event
single_event name number =
    if says (codes "LOCAL") name then option_map (λ tile. Local tile) (tile_of number)
    else (if says (codes "IN") name then option_map (λ position. In position) (number_of 7 number)
    else (if says (codes "OUT") name then option_map (λ position. Out position) (number_of 7 number) else None))

-- a tile and a direction
abbrev pub place_of : List ℕ → List ℕ → Option (Tile × Dir)
place_of tile dir = option_and_then (λ t. option_map (λ d. (t, d)) (dir_of dir)) (tile_of tile)

-- an event of a tile in a direction
abbrev pub event_towards : List ℕ → Tile → Dir → Option Event
event_towards name tile dir =
    if says (codes "MEET") name then Some (Meet tile dir)
    else (if says (codes "PUSH") name then Some (Push tile dir)
    else (if says (codes "POP") name then Some (Pop tile dir) else None))

abbrev pub directed_event : List ℕ → List ℕ → List ℕ → Option Event
directed_event name tile dir = option_and_then (λ place. event_towards name place.0 place.1) (place_of tile dir)

-- the event that the words of a line name
abbrev pub event_of : Words → Option Event
event_of [] = None
event_of (name ∷ []) = None
event_of (name ∷ number ∷ []) = single_event name number
event_of (name ∷ tile ∷ dir ∷ []) = directed_event name tile dir
event_of (name ∷ tile ∷ dir ∷ more ∷ words) = None

-- an event before the others, or the number of its line, where it is none
abbrev pub event_before : Option Event → ℕ → Result (List Event) ℕ → Result (List Event) ℕ
event_before None number events = Err number
event_before (Some event) number (Ok events) = Ok (event ∷ events)
event_before (Some event) number (Err later) = Err later

-- the events of these lines, or the number of the first line that names none
abbrev pub events_in : List NonBlank → Result (List Event) ℕ
events_in [] = Ok []
events_in (line ∷ lines) = event_before (event_of line.words) line.number (events_in lines)

-- the events of a text, one a line that isn't blank, or the number of the first line that names none; there are no comments
abbrev pub events_of : List ℕ → Result (List Event) ℕ
events_of text = events_in (non_blank_lines Never text)
