-- Names in a network.
use Rattle.std.specs.Prelude.{ℕ, Bool, false, ◌&&◌, ◌||◌, List, [], ◌∷◌, length, nat_le, IsTrue, ◌==◌}
use Rattle.std.specs.Char.{is_ascii_alphabetic, is_ascii_alphanumeric}
use Rattle.std.specs.List.{list_all}

-- an ASCII letter, a digit or `_`
abbrev pub is_name_byte : ℕ → Bool
is_name_byte byte = is_ascii_alphanumeric byte || byte == 95

-- an ASCII letter stands in front
abbrev pub begins_with_letter : List ℕ → Bool
begins_with_letter [] = false
begins_with_letter (byte ∷ bytes) = is_ascii_alphabetic byte

-- an ASCII letter, and then ASCII letters, digits or `_`: at most sixteen bytes in all
abbrev pub is_name : List ℕ → Bool
is_name name = (begins_with_letter name && list_all is_name_byte name) && nat_le (length name) 16

-- the bytes are a name
abbrev pub IsName : List ℕ → Type 0
IsName name = IsTrue (is_name name)
