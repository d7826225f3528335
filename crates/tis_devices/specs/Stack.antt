-- A stack memory node, seen as the list of its values, newest last.
use Rattle.std.specs.Prelude.{ℕ, ◌-◌, ℤ, pos, List, length, take, slice_index_or}

-- how many values a stack holds at most
abbrev pub ROOM : ℕ
ROOM = 15

-- the newest value
abbrev pub newest : List ℤ → ℤ
newest values = slice_index_or values (length values - 1) (pos 0)

-- the others, in their order
abbrev pub without_newest : List ℤ → List ℤ
without_newest values = take (length values - 1) values
