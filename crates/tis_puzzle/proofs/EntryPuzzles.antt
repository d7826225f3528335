-- The ports of a specification are those of a puzzle.
use Rattle.std.proofs.Common.{◌≡◌, ℕ, suc, ◌<◌, ℤ, pos, negsuc, true, false, cond, List, [], ◌∷◌, Option, Some, None, Result, Ok, Err, refl, arith, subst, replicate}
use Rattle.std.specs.Prelude.{All, nat_le, option_map, option_and_then}
use Rattle.std.specs.Ordering.{int_eq}
use Rattle.std.proofs.lemmas.Bool.{leb-true, and_parts}
use Rattle.std.proofs.lemmas.Int.{ints}
use Rattle.std.proofs.lemmas.List.Elements.{All-nil, All-cons}
use Rattle.tis_base.specs.Saturation.{IsValue}
use Rattle.tis_base.specs.declared.tiles.TileKind.TheVariants.{Damaged}
use Rattle.tis_grid.specs.declared.puzzle.OutKind.TheVariants.{Stream, Image}
use Rattle.tis_grid.specs.Puzzle.{Puzzle, IsPuzzle, Port, IsPort, is_taken, with_port, is_picture}
use Rattle.tis_grid.proofs.Holding.{Holds, holds_then, holds_map, choice_holds, some_holds, none_holds, any_holds}
use Rattle.tis_grid.proofs.PuzzlePorts.{bare_are_puzzles, port_makes_puzzle, input_holds, output_holds}
use Rattle.lua_machine.specs.Answer.{PlainValue}
use Rattle.lua_plain.specs.Plain.{number_in, is_text, list_in}
use Rattle.tis_puzzle.specs.Entries.{Refusal, SamePlace, is_value, value_of, value_in, values_of, values_in, is_short, only_if, column_of, column_in, port_with, port_of_values, port_of, with_entry, goes_on, with_entries, unknown}

-- what holds of the puzzle, where no entry is refused
Gets : (Puzzle → Type 0) → Result Puzzle Refusal → Type 0
Gets P (Ok puzzle) = P puzzle
Gets P (Err refusal) = Unit {0}

number_value : (number : ℤ) → is_value number ≡ true → IsValue number
number_value (pos n) is = let few = leb-true n 999 is in (omega (arith, few, ints), omega (arith, few, ints))
number_value (negsuc n) is = let few = leb-true n 998 (and_parts (nat_le n 998) true is).0 in (omega (arith, few, ints), omega (arith, few, ints))

value_holds : (value : PlainValue) → Holds IsValue (value_in value)
value_holds value = holds_then (λ _. Unit {0}) IsValue (number_in value) value_of (any_holds (number_in value)) (λ number _. choice_holds IsValue (is_value number) (Some number) None (λ is. some_holds IsValue number (number_value number is)) (none_holds IsValue))

values_hold : (list : List PlainValue) → Holds (λ (values : List ℤ). All IsValue values) (values_of list)
values_hold [] = some_holds (λ (values : List ℤ). All IsValue values) [] (All-nil IsValue)
values_hold (first ∷ others) =
    holds_then IsValue (λ (values : List ℤ). All IsValue values) (value_in first) (λ value. option_map (λ values. value ∷ values) (values_of others)) (value_holds first)
    (λ value is. holds_map (λ (values : List ℤ). All IsValue values) (λ (values : List ℤ). All IsValue values) (values_of others) (λ values. value ∷ values) (values_hold others) (λ values are. All-cons IsValue value values is are))

number_below : (number : ℤ) → Holds (λ n. n < 4) (column_of number)
number_below (pos n) = choice_holds (λ m. m < 4) (nat_le n 3) (Some n) None (λ is. some_holds (λ m. m < 4) n (let few = leb-true n 3 is in omega (arith, few))) (none_holds (λ m. m < 4))
number_below (negsuc n) = none_holds (λ m. m < 4)

column_holds : (value : PlainValue) → Holds (λ n. n < 4) (column_in value)
column_holds value = holds_then (λ _. Unit {0}) (λ n. n < 4) (number_in value) column_of (any_holds (number_in value)) (λ number _. number_below number)

short_hold : (values : Option (List ℤ)) → Holds (λ (v : List ℤ). All IsValue v) values → Holds (λ (v : List ℤ). All IsValue v) (option_and_then (only_if is_short) values)
short_hold values are = holds_then (λ (v : List ℤ). All IsValue v) (λ (v : List ℤ). All IsValue v) values (only_if is_short) are (λ v held. choice_holds (λ (v : List ℤ). All IsValue v) (is_short v) (Some v) None (λ _. some_holds (λ (v : List ℤ). All IsValue v) v held) (none_holds (λ (v : List ℤ). All IsValue v)))

port_holds : (kind : ℤ) (column : Option ℕ) (values : Option (List ℤ)) → Holds (λ n. n < 4) column → Holds (λ (v : List ℤ). All IsValue v) values → Holds (IsPort 4) (port_with kind column values)
port_holds kind column values below are =
    choice_holds (IsPort 4) (int_eq kind (pos 0)) _ _ (λ _. input_holds column (option_and_then (only_if is_short) values) below (short_hold values are))
    (choice_holds (IsPort 4) (int_eq kind (pos 1)) _ _ (λ _. output_holds Stream column (option_and_then (only_if is_short) values) below)
    (choice_holds (IsPort 4) (int_eq kind (pos 2)) _ _ (λ _. output_holds Image column (option_and_then (only_if is_picture) values) below) (none_holds (IsPort 4))))

list_holds : (list : Option (List PlainValue)) → Holds (λ (v : List ℤ). All IsValue v) (option_and_then values_of list)
list_holds list = holds_then (λ _. Unit {0}) (λ (v : List ℤ). All IsValue v) list values_of (any_holds list) (λ values _. values_hold values)

entry_holds : (values : List PlainValue) → Holds (IsPort 4) (port_of_values values)
entry_holds [] = none_holds (IsPort 4)
entry_holds (a ∷ []) = none_holds (IsPort 4)
entry_holds (a ∷ b ∷ []) = none_holds (IsPort 4)
entry_holds (a ∷ b ∷ c ∷ []) = none_holds (IsPort 4)
entry_holds (kind ∷ name ∷ position ∷ values ∷ others) =
    choice_holds (IsPort 4) (is_text name) _ None
    (λ _. holds_then (λ _. Unit {0}) (IsPort 4) (number_in kind) (λ number. port_with number (column_in position) (values_in values)) (any_holds (number_in kind)) (λ number _. port_holds number (column_in position) (values_in values) (column_holds position) (list_holds (list_in values))))
    (none_holds (IsPort 4))

-- ---- entry by entry

entry_gets : (puzzle : Puzzle) (index : ℕ) (port : Option Port) → IsPuzzle puzzle → Holds (IsPort 4) port → Gets IsPuzzle (with_entry puzzle index port)
unfolding Holds Gets
entry_gets puzzle index None is holds = tt
entry_gets puzzle index (Some port) is holds =
    elim (is_taken puzzle port) as (λ b. is_taken puzzle port ≡ b → Gets IsPuzzle (cond b (Err (SamePlace index)) (Ok (with_port puzzle port)))) [
      | true ↦ λ _. tt
      | false ↦ λ free. port_makes_puzzle puzzle port is holds free
    ] refl

goes_on_gets : (read : Result Puzzle Refusal) (next : Puzzle → Result Puzzle Refusal) → Gets IsPuzzle read → ((puzzle : Puzzle) → IsPuzzle puzzle → Gets IsPuzzle (next puzzle)) → Gets IsPuzzle (goes_on read next)
unfolding Gets
goes_on_gets (Ok puzzle) next is follows = follows puzzle is
goes_on_gets (Err refusal) next is follows = tt

entries_get : (entries : List PlainValue) (index : ℕ) (puzzle : Puzzle) → IsPuzzle puzzle → Gets IsPuzzle (with_entries puzzle index entries)
unfolding Gets
entries_get [] index puzzle is = is
entries_get (entry ∷ entries) index puzzle is =
    goes_on_gets (with_entry puzzle index (port_of entry)) (λ more. with_entries more (suc index) entries)
    (entry_gets puzzle index (port_of entry) is (holds_then (λ _. Unit {0}) (IsPort 4) (list_in entry) port_of_values (any_holds (list_in entry)) (λ values _. entry_holds values)))
    (entries_get entries (suc index))

-- the ports of entries make a puzzle
pub ports_make_puzzle : (entries : List PlainValue) (puzzle : Puzzle) → with_entries unknown 1 entries ≡ Ok puzzle → IsPuzzle puzzle
unfolding Gets
ports_make_puzzle entries puzzle is = subst (λ (read : Result Puzzle Refusal). Gets IsPuzzle read) is (entries_get entries 1 unknown (bare_are_puzzles (replicate 12 Damaged) refl))
