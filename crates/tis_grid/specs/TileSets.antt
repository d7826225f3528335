-- A set of tiles.
use Rattle.std.specs.Prelude.{◌≡◌, ◌<◌, ℕ, Bool, true, false, List, map, get_or, ◌==◌}
use Rattle.std.specs.Int.{bit_at}
use Rattle.std.specs.List.{range_with_len}

-- a set is told by one flag for each of the twelve tiles; whether a tile is in it
abbrev pub has : List Bool → ℕ → Bool
has set tile = get_or set tile false

-- as it is held, a tile is in it where the bit of its number is 1
abbrev pub is_set : ℕ → ℕ → Bool
is_set bits tile = bit_at bits tile == 1

-- the flags that a number holds
abbrev pub flags_of : ℕ → List Bool
flags_of bits = map (is_set bits) (range_with_len 0 12)

-- a tile is the first of a set
pub record IsFirst (set : List Bool) (tile : ℕ) : Type 0 where
  pub within : tile < 12
  pub is_in : has set tile ≡ true
  pub least : (before : ℕ) → before < tile → has set before ≡ false
