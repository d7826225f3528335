-- What a report says of the outputs of a grid: a line of values, or a picture.
use Rattle.std.specs.Prelude.{ℕ, ◌+◌, ℤ, List, [], ◌∷◌, ◌++◌, map, flat_map, get_or, codes, decimal, Option, Some, None, ◌==◌, if◌then◌else◌}
use Rattle.std.specs.List.{range_with_len}
use Rattle.std.specs.Fmt.{signed_decimal}
use Rattle.tis_devices.specs.Picture.{COLUMNS, ROWS, point_of, picture}
use Rattle.tis_grid.specs.declared.puzzle.OutKind.{OutKind}
use Rattle.tis_grid.specs.declared.puzzle.OutKind.TheVariants.{Stream, Image}
use Rattle.tis_grid.specs.Puzzle.{Output, Puzzle}
use Rattle.tis_grid.specs.State.{State, output_taken}

-- a value behind a blank
abbrev pub value_text : ℤ → List ℕ
value_text value = 32 ∷ signed_decimal value

-- the word for an output of this kind, and its position
abbrev pub output_head : List ℕ → ℕ → List ℕ
output_head word position = word ++ decimal position

-- the values that an output has taken, on its line
abbrev pub stream_text : ℕ → List ℤ → List ℕ
stream_text position values = output_head (codes "out ") position ++ flat_map value_text values ++ 10 ∷ []

-- the digit of a point, which is its colour
abbrev pub point_digit : List ℕ → ℕ → ℕ → ℕ
point_digit colours y x = 48 + get_or colours (point_of x y) 0

-- a row of points, as a line of digits
abbrev pub row_text : List ℕ → ℕ → List ℕ
row_text colours y = map (point_digit colours y) (range_with_len 0 COLUMNS) ++ 10 ∷ []

-- the rows of a picture, from the top
abbrev pub rows_text : List ℕ → List ℕ
rows_text colours = flat_map (row_text colours) (range_with_len 0 ROWS)

-- the picture that an output has drawn
abbrev pub image_text : ℕ → List ℤ → List ℕ
image_text position values = output_head (codes "image ") position ++ 10 ∷ rows_text (picture values).colours

-- an output of this kind at a position
abbrev pub output_text : OutKind → ℕ → List ℤ → List ℕ
output_text Stream position values = stream_text position values
output_text Image position values = image_text position values

-- the kind of the output at a position, where one stands there
abbrev pub kind_at : List Output → ℕ → Option OutKind
kind_at [] position = None
kind_at (output ∷ outputs) position = if output.position == position then Some output.kind else kind_at outputs position

-- nothing where no output stands
abbrev pub text_where : Option OutKind → ℕ → Option (List ℤ) → List ℕ
text_where None position taken = []
text_where (Some kind) position None = []
text_where (Some kind) position (Some values) = output_text kind position values

-- the output at a position, where one stands there, and what it has taken
abbrev pub text_at : Puzzle → State → ℕ → List ℕ
text_at puzzle state position = text_where (kind_at puzzle.outputs position) position (output_taken state position)

-- the outputs by ascending position
abbrev pub outputs_text : Puzzle → State → List ℕ
outputs_text puzzle state = flat_map (text_at puzzle state) (range_with_len 0 puzzle.tiles.shape.columns)
