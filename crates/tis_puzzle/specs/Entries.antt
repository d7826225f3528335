-- The inputs and outputs of a specification: what the list that `get_streams` gives comes to, entry by entry.
use Rattle.std.specs.Prelude.{ℕ, suc, ℤ, pos, negsuc, Bool, ◌&&◌, List, [], ◌∷◌, length, replicate, Option, Some, None, option_map, option_and_then, Result, Ok, Err, nat_le, int_le, if◌then◌else◌}
use Rattle.std.specs.Ordering.{int_eq}
use Rattle.tis_base.specs.declared.tiles.TileKind.TheVariants.{Damaged}
use Rattle.tis_grid.specs.declared.puzzle.OutKind.TheVariants.{Stream, Image}
use Rattle.tis_grid.specs.Puzzle.{Puzzle, Port, input_at, output_at, is_taken, with_port, bare, is_picture}
use Rattle.lua_machine.specs.Answer.{PlainValue}
use Rattle.lua_plain.specs.Plain.{number_in, is_text, list_in}

-- why entries are no inputs and outputs, with the number of the entry from 1 on; 0 where there is no list of entries
pub data Refusal : Type 0 where
  BadStreams : (index : ℕ) → Refusal
  SamePlace : (index : ℕ) → Refusal

-- ---- one entry

-- whether a number is a value of the machine, from -999 to 999
abbrev pub is_value : ℤ → Bool
is_value number = int_le (negsuc 998) number && int_le number (pos 999)

abbrev pub value_of : ℤ → Option ℤ
value_of number = if is_value number then Some number else None

abbrev pub value_in : PlainValue → Option ℤ
value_in value = option_and_then value_of (number_in value)

-- the values of a list, where all of them are values of the machine
abbrev pub values_of : List PlainValue → Option (List ℤ)
values_of [] = Some []
values_of (first ∷ others) = option_and_then (λ value. option_map (λ values. value ∷ values) (values_of others)) (value_in first)

abbrev pub values_in : PlainValue → Option (List ℤ)
values_in value = option_and_then values_of (list_in value)

-- whether a stream may hold these: at most 39
abbrev pub is_short : List ℤ → Bool
is_short values = nat_le (length values) 39

abbrev pub only_if : (List ℤ → Bool) → List ℤ → Option (List ℤ)
only_if passes values = if passes values then Some values else None

-- the column that a number names, from 0 to 3
abbrev pub column_of : ℤ → Option ℕ
column_of (pos number) = if nat_le number 3 then Some number else None
column_of (negsuc number) = None

abbrev pub column_in : PlainValue → Option ℕ
column_in value = option_and_then column_of (number_in value)

-- an input (kind 0), an output (1) or an image (2) at a column, with these values
abbrev pub port_with : ℤ → Option ℕ → Option (List ℤ) → Option Port
port_with kind column values =
    if int_eq kind (pos 0) then input_at column (option_and_then (only_if is_short) values)
    else (if int_eq kind (pos 1) then output_at Stream column (option_and_then (only_if is_short) values)
    else (if int_eq kind (pos 2) then output_at Image column (option_and_then (only_if is_picture) values) else None))

-- the input or output of an entry: its first four values are the kind, a text, the position and the list of values, and more of them aren't looked at
abbrev pub port_of_values : List PlainValue → Option Port
port_of_values (kind ∷ name ∷ position ∷ values ∷ others) = if is_text name then option_and_then (λ number. port_with number (column_in position) (values_in values)) (number_in kind) else None
port_of_values _ = None

abbrev pub port_of : PlainValue → Option Port
port_of entry = option_and_then port_of_values (list_in entry)

-- ---- entry by entry

-- the puzzle with the input or output of an entry
abbrev pub with_entry : Puzzle → ℕ → Option Port → Result Puzzle Refusal
with_entry puzzle index None = Err (BadStreams index)
with_entry puzzle index (Some port) = if is_taken puzzle port then Err (SamePlace index) else Ok (with_port puzzle port)

-- the next entry is looked at only where this one was right
abbrev pub goes_on : Result Puzzle Refusal → (Puzzle → Result Puzzle Refusal) → Result Puzzle Refusal
goes_on (Ok puzzle) next = next puzzle
goes_on (Err refusal) next = Err refusal

-- the puzzle with the inputs and outputs of these entries, of which the first has this number, up to the first wrong one
abbrev pub with_entries : Puzzle → ℕ → List PlainValue → Result Puzzle Refusal
with_entries puzzle index [] = Ok puzzle
with_entries puzzle index (entry ∷ entries) = goes_on (with_entry puzzle index (port_of entry)) (λ more. with_entries more (suc index) entries)

-- the tiles as long as no layout is known
abbrev pub unknown : Puzzle
unknown = bare (replicate 12 Damaged)

-- the inputs and outputs of what `get_streams` gives, where it is a list
abbrev pub ports_of_list : Option (List PlainValue) → Result Puzzle Refusal
ports_of_list (Some entries) = with_entries unknown 1 entries
ports_of_list None = Err (BadStreams 0)

abbrev pub ports_of : PlainValue → Result Puzzle Refusal
ports_of streams = ports_of_list (list_in streams)
