-- The functions of the libraries.
use Rattle.std.specs.Prelude.{ℕ, ◌+◌, ◌*◌, ◌/◌, ◌^◌, ℤ, pos, ◌+ℤ◌, ◌-ℤ◌, nat_abs, int_lt, ◌==◌, List, [], ◌∷◌, if◌then◌else◌, Option, Some, None, codes}
use Rattle.std.specs.Str.{bytes_eq}
use Rattle.std.specs.Int.{int_min, int_max}
use Rattle.rand_pcg.specs.Pcg.{pcg32}
use Rattle.lua_machine.specs.Value.{LuaValue, Nil, Number, Table, TypeFault, OutOfRange}
use Rattle.lua_machine.specs.Tables.{at_key, border, row, stored}
use Rattle.lua_machine.specs.State.{State, Done, gives, fails}

pub data MathFunction : Type 0 where
  Random Floor Abs Min Max : MathFunction

pub data TableFunction : Type 0 where
  Insert Remove : TableFunction

abbrev pub math_of : List ℕ → Option MathFunction
math_of name =
    if bytes_eq name (codes "random") then Some Random
    else (if bytes_eq name (codes "floor") then Some Floor
    else (if bytes_eq name (codes "abs") then Some Abs
    else (if bytes_eq name (codes "min") then Some Min
    else (if bytes_eq name (codes "max") then Some Max
    else None))))

abbrev pub table_of : List ℕ → Option TableFunction
table_of name = if bytes_eq name (codes "insert") then Some Insert else (if bytes_eq name (codes "remove") then Some Remove else None)

-- the number that a word of 32 bits chooses from the first to the last
abbrev pub chosen : ℕ → ℤ → ℤ → ℤ
chosen word first last = first +ℤ pos (word * nat_abs ((last -ℤ first) +ℤ pos 1) / 2 ^ 32)

-- the next word chooses, unless there is nothing to choose from
abbrev pub drawn : ℕ → ℤ → ℤ → State → Done LuaValue
drawn line first last state =
    if int_lt last first then fails (OutOfRange line) state
    else gives (Number (chosen (pcg32 state.generator).0 first last)) (record state { generator = (pcg32 state.generator).1 })

-- a wrong number of arguments is a TypeFault too
abbrev pub math_result : MathFunction → ℕ → List LuaValue → State → Done LuaValue
math_result Random line (Number last ∷ []) state = drawn line (pos 1) last state
math_result Random line (Number first ∷ Number last ∷ []) state = drawn line first last state
math_result Floor line (Number a ∷ []) state = gives (Number a) state
math_result Abs line (Number a ∷ []) state = gives (Number (pos (nat_abs a))) state
math_result Min line (Number a ∷ Number b ∷ []) state = gives (Number (int_min a b)) state
math_result Max line (Number a ∷ Number b ∷ []) state = gives (Number (int_max a b)) state
math_result _ line _ state = fails (TypeFault line) state

-- a value is put behind the border, where nil stores nothing; it gives nil
abbrev pub inserted : ℕ → LuaValue → State → Done LuaValue
inserted at value state = gives Nil (record state { tables = stored state.tables at (Number (pos (border (row state.tables at) + 1))) value })

-- the value at the border, which is removed; nil where the border is 0
abbrev pub removed : ℕ → State → Done LuaValue
removed at state =
    if border (row state.tables at) == 0 then gives Nil state
    else gives (at_key (row state.tables at) (Number (pos (border (row state.tables at))))) (record state { tables = stored state.tables at (Number (pos (border (row state.tables at)))) Nil })

abbrev pub table_result : TableFunction → ℕ → List LuaValue → State → Done LuaValue
table_result Insert line (Table at ∷ value ∷ []) state = inserted at value state
table_result Remove line (Table at ∷ []) state = removed at state
table_result _ line _ state = fails (TypeFault line) state
