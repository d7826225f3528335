-- The picture that an output draws on the console: what its values, first to last, make of a black one.
use Rattle.std.specs.Prelude.{◌≡◌, ℕ, ◌+◌, ◌*◌, ◌≤◌, ℤ, pos, negsuc, Bool, ◌&&◌, List, [], ◌∷◌, ◌++◌, length, replicate, slice_set, min, All, Option, Some, None, nat_lt, nat_le, if◌then◌else◌}

-- how many columns the console has, from the left
abbrev pub COLUMNS : ℕ
COLUMNS = 30

-- rows, from the top
abbrev pub ROWS : ℕ
ROWS = 18

-- the colour with the greatest number; below it are black, two greys, the darker first, and white
abbrev pub RED : ℕ
RED = 4

-- the column at which a drawing stays
abbrev pub LAST_COLUMN : ℕ
LAST_COLUMN = 1000

-- where a drawing stands: the next value is its X, or its Y, or the colour of a point
pub data Place : Type 0 where
  BeforeX : Place
  BeforeY : (x : ℕ) → Place
  Before : (x : ℕ) → (y : ℕ) → Place

-- the colours of the points, row by row from the upper left, and the place in the drawing
pub record Picture : Type 0 where
  pub colours : List ℕ
  pub place : Place

-- nothing is drawn yet
abbrev pub black : Picture
black = record { colours = replicate (COLUMNS * ROWS) 0; place = BeforeX }

-- the number of a point
abbrev pub point_of : ℕ → ℕ → ℕ
point_of x y = y * COLUMNS + x

-- the column and the row of the point at which a drawing stands, where it is on the console
abbrev pub next_point : Place → Option (ℕ × ℕ)
next_point BeforeX = None
next_point (BeforeY x) = None
next_point (Before x y) = if nat_lt x COLUMNS && nat_lt y ROWS then Some (x, y) else None

-- the point is on the console, and the colour is one
abbrev pub is_painted : ℕ → ℕ → ℕ → Bool
is_painted x y colour = (nat_lt x COLUMNS && nat_lt y ROWS) && nat_le colour RED

-- the colours with this one at a point, where the point is there and the colour is one
abbrev pub painted : List ℕ → ℕ → ℕ → ℕ → List ℕ
painted colours x y colour = if is_painted x y colour then slice_set colours (point_of x y) colour else colours

-- a number in a drawing: the X, the Y, or a colour, behind which the drawing stands one column further, up to the last one
abbrev pub drawn_at : Place → List ℕ → ℕ → Picture
drawn_at BeforeX colours number = record { colours = colours; place = BeforeY number }
drawn_at (BeforeY x) colours number = record { colours = colours; place = Before x number }
drawn_at (Before x y) colours number = record { colours = painted colours x y number; place = Before (min (x + 1) LAST_COLUMN) y }

-- the picture after one more value; a negative one ends the drawing, wherever it stands
abbrev pub after_value : Picture → ℤ → Picture
after_value picture (pos number) = drawn_at picture.place picture.colours number
after_value picture (negsuc number) = record picture { place = BeforeX }

-- the picture after these values, one after the other
abbrev pub after_values : Picture → List ℤ → Picture
after_values picture [] = picture
after_values picture (value ∷ values) = after_values (after_value picture value) values

-- the picture that these values draw
abbrev pub picture : List ℤ → Picture
picture values = after_values black values

-- ---- laws

-- the colours after a run of colours, from a point on to the right
abbrev pub painted_right : List ℕ → ℕ → ℕ → List ℕ → List ℕ
painted_right colours x y [] = colours
painted_right colours x y (colour ∷ run) = painted_right (painted colours x y colour) (x + 1) y run

-- these numbers as values
abbrev pub values_of : List ℕ → List ℤ
values_of [] = []
values_of (colour ∷ run) = pos colour ∷ values_of run

-- a whole drawing that doesn't pass the last column, an X, a Y and colours up to a negative value, paints these colours from its point on and nothing else, and the next value is an X again
abbrev pub DrawingsPaint : Type 0
DrawingsPaint = (before : List ℤ) (x y : ℕ) (run : List ℕ) (ended : ℕ) → (picture before).place ≡ BeforeX → x + length run ≤ LAST_COLUMN →
    picture (before ++ ((pos x ∷ pos y ∷ values_of run) ++ negsuc ended ∷ [])) ≡ record { colours = painted_right (picture before).colours x y run; place = BeforeX }

-- what is drawn later is drawn on what was drawn before
abbrev pub PicturesGrow : Type 0
PicturesGrow = (before after : List ℤ) → picture (before ++ after) ≡ after_values (picture before) after

-- there are always 540 colours, each of them one of the five
abbrev pub PicturesAreWhole : Type 0
PicturesAreWhole = (values : List ℤ) → (length (picture values).colours ≡ COLUMNS * ROWS) × All (λ colour. colour ≤ RED) (picture values).colours
