-- Small grid texts and events texts, read or refused.
use Rattle.std.proofs.Common.{◌≡◌, ℕ, pos, negsuc, List, [], ◌∷◌, replicate, refl}
use Rattle.std.specs.Prelude.{codes, Ok, Err}
use Rattle.tis_base.specs.declared.tiles.TileKind.{TileKind}
use Rattle.tis_base.specs.declared.tiles.TileKind.TheVariants.{Compute, Memory, Damaged}
use Rattle.tis_base.specs.declared.tiles.Dir.TheVariants.{Left, Up, Down}
use Rattle.tis_base.specs.declared.tiles.Tile.{Tile}
use Rattle.tis_words.specs.Numerals.{number_of, value_of}
use Rattle.tis_grid.specs.declared.event.Event.TheVariants.{Local, Meet, In, Out, Push, Pop}
use Rattle.tis_grid.specs.declared.puzzle.OutKind.TheVariants.{Stream, Image}
use Rattle.tis_grid.specs.Puzzle.{Puzzle, Input, Output}
use Rattle.tis_grid_text.specs.GridText.{BadLine, SamePlace, black, grid_of}
use Rattle.tis_grid_text.specs.EventsText.{events_of}

-- ---- grids

-- four columns and three rows of these kinds, with these inputs and outputs
abbrev puzzle : List TileKind → List Input → List Output → Puzzle
puzzle kinds inputs outputs = record { tiles = record { shape = record { columns = 4; rows = 3 }; kinds = kinds }; inputs = inputs; outputs = outputs }

abbrev five_and_seven : List Input
five_and_seven = record { position = 1; values = pos 5 ∷ pos 7 ∷ [] } ∷ []

-- two values come in, and the same two are wanted
one_column : grid_of (codes "grid 1\ntiles CCCC CCCC CCCC\ninput 1 5 7\noutput 1 5 7\n") ≡ Ok (puzzle (replicate 12 Compute) five_and_seven (record { position = 1; kind = Stream; expected = pos 5 ∷ pos 7 ∷ [] } ∷ []))
unfolding number_of value_of
one_column = refl

-- comments, blanks, CRs and lines without words; a stack and a tile that is damaged; an input and an output without values
written_loosely : grid_of (codes "# a grid\n\n grid 1 \r\n\ttiles CMCC CDCC CCCC # rows\noutput 3 -007 # one\ninput 0\n") ≡
    Ok (puzzle (Compute ∷ Memory ∷ Compute ∷ Compute ∷ Compute ∷ Damaged ∷ replicate 6 Compute) (record { position = 0; values = [] } ∷ []) (record { position = 3; kind = Stream; expected = negsuc 6 ∷ [] } ∷ []))
unfolding number_of value_of
written_loosely = refl

-- a picture that isn't told is black
black_picture : grid_of (codes "grid 1\ntiles CCCC CCCC CCCC\nimage 1\n") ≡ Ok (puzzle (replicate 12 Compute) [] (record { position = 1; kind = Image; expected = black } ∷ []))
unfolding number_of value_of
black_picture = refl

-- the line of the tiles is missing
no_tiles : grid_of (codes "grid 1\n") ≡ Err (BadLine 2)
no_tiles = refl

-- eleven tiles
short_row : grid_of (codes "grid 1\ntiles CCCC CCCC CCC\n") ≡ Err (BadLine 2)
short_row = refl

-- a second input at one position
two_inputs : grid_of (codes "grid 1\ntiles CCCC CCCC CCCC\ninput 1 5 7\noutput 1 5 7\ninput 1 9\n") ≡ Err (SamePlace 5)
unfolding number_of value_of
two_inputs = refl

-- a value that the machine doesn't hold
too_great : grid_of (codes "grid 1\ntiles CCCC CCCC CCCC\ninput 1 1000\n") ≡ Err (BadLine 3)
unfolding number_of value_of
too_great = refl

-- ---- events

abbrev tile : ℕ → Tile
tile number = record { number = number }

-- two values come in, and the second one goes out first
second_first : events_of (codes "in 0\nin 2\nmeet 2 left\nmeet 1 down\nmeet 5 down\nout 1\n") ≡ Ok (In 0 ∷ In 2 ∷ Meet (tile 2) Left ∷ Meet (tile 1) Down ∷ Meet (tile 5) Down ∷ Out 1 ∷ [])
unfolding number_of
second_first = refl

-- letters of either case, blanks and blank lines
spelled_loosely : events_of (codes "Local 03\r\n\n PUSH 7\tup\npop 7 UP") ≡ Ok (Local (tile 3) ∷ Push (tile 7) Up ∷ Pop (tile 7) Up ∷ [])
unfolding number_of
spelled_loosely = refl

-- a line without an event is told by its number, and a comment is none
no_position : events_of (codes "in 9\n") ≡ Err 1
unfolding number_of
no_position = refl

no_direction : events_of (codes "local 1\nmeet 0 upp\n") ≡ Err 2
unfolding number_of
no_direction = refl

no_comments : events_of (codes "in 1\n\n# x\n") ≡ Err 3
unfolding number_of
no_comments = refl
