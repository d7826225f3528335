-- The tiles of a specification: what the list that `get_layout` gives comes to.
use Rattle.std.specs.Prelude.{ℕ, suc, ℤ, pos, List, [], ◌∷◌, length, Option, Some, None, option_and_then, Result, Ok, Err, ◌==◌, if◌then◌else◌}
use Rattle.std.specs.Ordering.{int_eq}
use Rattle.tis_base.specs.declared.tiles.TileKind.{TileKind}
use Rattle.tis_base.specs.declared.tiles.TileKind.TheVariants.{Compute, Memory, Damaged}
use Rattle.lua_machine.specs.Answer.{PlainValue}
use Rattle.lua_plain.specs.Plain.{number_in, list_in}

-- the kind of tile that a number names: 0 computes, 1 is a stack memory, 2 is damaged
abbrev pub kind_of : ℤ → Option TileKind
kind_of number = if int_eq number (pos 0) then Some Compute else (if int_eq number (pos 1) then Some Memory else (if int_eq number (pos 2) then Some Damaged else None))

abbrev pub kind_in : PlainValue → Option TileKind
kind_in value = option_and_then kind_of (number_in value)

-- one more kind before those behind it, or the number of the value that is none
abbrev pub with_kind : ℕ → Option TileKind → Result (List TileKind) ℕ → Result (List TileKind) ℕ
with_kind index None others = Err index
with_kind index (Some kind) (Ok kinds) = Ok (kind ∷ kinds)
with_kind index (Some kind) (Err other) = Err other

-- the kinds of these values, of which the first has this number, or the number of the first other value
abbrev pub kinds_of : ℕ → List PlainValue → Result (List TileKind) ℕ
kinds_of index [] = Ok []
kinds_of index (value ∷ values) = with_kind index (kind_in value) (kinds_of (suc index) values)

-- exactly twelve kinds; the number is 0 where there is no list of twelve
abbrev pub kinds_of_list : Option (List PlainValue) → Result (List TileKind) ℕ
kinds_of_list (Some values) = if length values == 12 then kinds_of 1 values else Err 0
kinds_of_list None = Err 0

-- the kinds of the tiles, row by row, of what `get_layout` gives
abbrev pub layout_of : PlainValue → Result (List TileKind) ℕ
layout_of layout = kinds_of_list (list_in layout)
