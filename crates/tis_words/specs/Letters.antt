-- Letters of either case.
use Rattle.std.specs.Prelude.{ℕ, ◌-◌, ◌&&◌, List, map, nat_le, if◌then◌else◌}

-- a small letter as its capital, and any other byte as it is
abbrev pub capital : ℕ → ℕ
capital byte = if nat_le 97 byte && nat_le byte 122 then byte - 32 else byte

-- a word with capitals in place of its small letters
abbrev pub capitals : List ℕ → List ℕ
capitals word = map capital word
