-- What contracts see of plain values: the plain data of what a call gives.
use Rattle.std.specs.Prelude.{ℤ, Bool, true, false, List, [], ◌∷◌, Option, Some, None}
use Rattle.lua_machine.specs.Answer.{PlainValue, PlainNil, PlainTruth, PlainNumber, PlainText, PlainList, Deep, PlainValues, no_values, ◌and◌}
use Rattle.lua_plain.specs.declared.plain.Plain as held
use Rattle.lua_plain.specs.declared.plain.Plain.TheOpen as level
use Rattle.lua_plain.specs.declared.plain.Plain.TheFolds as folds
use Rattle.lua_plain.specs.declared.plain.Plains as held_list

-- plain values as a list
abbrev pub values_of : PlainValues → List PlainValue
values_of no_values = []
values_of (value and others) = value ∷ values_of others

-- the number, where a value is one; a truth value is none
abbrev pub number_in : PlainValue → Option ℤ
number_in (PlainNumber number) = Some number
number_in _ = None

abbrev pub is_text : PlainValue → Bool
is_text (PlainText bytes) = true
is_text _ = false

-- the values, where a value is a list; one that lies too deep is none
abbrev pub list_in : PlainValue → Option (List PlainValue)
list_in (PlainList values) = Some (values_of values)
list_in _ = None

-- the plain values of a list
abbrev pub values_with : List PlainValue → PlainValues
values_with [] = no_values
values_with (value ∷ others) = value and values_with others

-- one more value at the end
abbrev pub with_last : PlainValues → PlainValue → PlainValues
with_last no_values last = last and no_values
with_last (value and others) last = value and with_last others last

-- one level of a value and of a list, where what they hold is seen already
abbrev pub plain_level : level.Plain-F PlainValue PlainValues → PlainValue
plain_level level.Nil = PlainNil
plain_level (level.Truth b) = PlainTruth b
plain_level (level.Number number) = PlainNumber number
plain_level (level.Text bytes) = PlainText bytes
plain_level (level.List values) = PlainList values
plain_level level.Deep = Deep

abbrev pub plains_level : level.Plains-F PlainValue PlainValues → PlainValues
plains_level list = values_with list.values

-- a plain value as it is held
abbrev pub plain_view : held.Plain → PlainValue
plain_view = folds.fold-Plain PlainValue PlainValues plain_level plains_level

-- a list of them as it is held
abbrev pub plains_view : held_list.Plains → PlainValues
plains_view = folds.fold-Plains PlainValue PlainValues plain_level plains_level
