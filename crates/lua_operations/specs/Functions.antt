-- The functions of the libraries.
use Rattle.lua_machine.specs.Library as library
use Rattle.lua_operations.specs.declared.functions.MathFunction.{MathFunction}
use Rattle.lua_operations.specs.declared.functions.MathFunction.TheVariants as m
use Rattle.lua_operations.specs.declared.functions.TableFunction.{TableFunction}
use Rattle.lua_operations.specs.declared.functions.TableFunction.TheVariants as a

-- a function of `math`
abbrev pub math_in : MathFunction → library.MathFunction
math_in m.Random = library.Random
math_in m.Floor = library.Floor
math_in m.Abs = library.Abs
math_in m.Min = library.Min
math_in m.Max = library.Max

-- a function of `table`
abbrev pub table_in : TableFunction → library.TableFunction
table_in a.Insert = library.Insert
table_in a.Remove = library.Remove
