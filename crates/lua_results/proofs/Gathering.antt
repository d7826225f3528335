-- Values of a table that are made plain one by one.
use Rattle.std.proofs.Common.{◌≡◌, ℕ, zero, suc, ◌+◌, ◌-◌, ◌<◌, ◌≤◌, pos, List, [], ◌∷◌, refl, ap, sym, subst, ◌∙◌, arith}
use Rattle.lua_machine.specs.Answer.{Paid, PlainValue, PlainList, PlainValues, no_values, ◌and◌, each, plain_of}
use Rattle.lua_machine.specs.Value.{LuaValue, Number, Table}
use Rattle.lua_machine.specs.declared.error.LuaError.{LuaError}
use Rattle.lua_machine.specs.declared.error.LuaError.TheVariants.{TypeFault, UnknownName, Inexact, OutOfRange, LongString, TooDeepCalls, Budget, NoMemory}
use Rattle.lua_machine.specs.Tables.{Row, at_key, row, plain_list, values_from}
use Rattle.lua_plain.specs.declared.plain.Plain.TheVariants as held_as
use Rattle.lua_plain.specs.declared.plain.Plain.TheOpen as level
use Rattle.lua_plain.specs.declared.plain.Plain.TheFolds as folds
use Rattle.lua_plain.specs.declared.plain.Plains as held_list
use Rattle.lua_plain.specs.Plain.{with_last, plain_level, plains_level, plain_view, plains_view}
use Rattle.lua_results.specs.Results.{Lacks}

-- plain values, and others behind them
abbrev pub joined : PlainValues → PlainValues → PlainValues
joined no_values others = others
joined (first and more) others = first and joined more others

-- the values of a table behind the numbers up to one, as many as there are up to the border
abbrev pub rest : ℕ → Row → ℕ → List LuaValue
rest border table before = values_from (border - before) table (before + 1)

pub rest_more : (border : ℕ) (table : Row) (before : ℕ) → before < border → rest border table before ≡ at_key table (Number (pos (before + 1))) ∷ rest border table (before + 1)
rest_more border table before within =
    ap (λ (count : ℕ). values_from count table (before + 1)) (let is : border - before ≡ suc (border - (before + 1)) = omega (arith, within) in is) ∙ refl

pub rest_none : (border : ℕ) (table : Row) (before : ℕ) → border ≤ before → rest border table before ≡ []
rest_none border table before past = ap (λ (count : ℕ). values_from count table (before + 1)) (let is : border - before ≡ 0 = omega (arith, past) in is)

pub joined_more : (list : PlainValues) (value : PlainValue) (others : PlainValues) → joined (with_last list value) others ≡ joined list (value and others)
joined_more no_values value others = refl
joined_more (first and more) value others = ap (λ (m : PlainValues). first and m) (joined_more more value others)

pub joined_none : (list : PlainValues) → joined list no_values ≡ list
joined_none no_values = refl
joined_none (first and more) = ap (λ (m : PlainValues). first and m) (joined_none more)

-- ---- a table

-- a list that was made, with the unit of its table
abbrev pub listed : Paid PlainValues → Paid PlainValue
listed inner = record { value = PlainList inner.value; cost = inner.cost + 1 }

pub table_made : (levels : ℕ) (tables : List Row) (at : ℕ) → 0 < levels → plain_of levels tables (Table at) ≡ listed (each (plain_of (levels - 1) tables) (plain_list (row tables at)))
table_made zero tables at some = absurd (omega (arith, some))
table_made (suc levels) tables at some = ap (λ (l : ℕ). listed (each (plain_of l tables) (plain_list (row tables at)))) (let is : levels ≡ suc levels - 1 = omega arith in is)

-- what doesn't suffice behind a unit didn't before
pub lacks_more : (why : LuaError) (units left cost : ℕ) → units ≡ 1 + left → Lacks why left cost → Lacks why units (cost + 1)
lacks_more Budget units left cost is few = omega (arith, is, few)
lacks_more NoMemory units left cost is few = tt
lacks_more (TypeFault line) units left cost is few = absurd few
lacks_more (UnknownName line) units left cost is few = absurd few
lacks_more (Inexact line) units left cost is few = absurd few
lacks_more (OutOfRange line) units left cost is few = absurd few
lacks_more (LongString line) units left cost is few = absurd few
lacks_more (TooDeepCalls line) units left cost is few = absurd few

-- the plain value of a table is its list, and its units are those of the list and one
abbrev inner : ℕ → List Row → ℕ → Paid PlainValues
inner levels tables at = each (plain_of (levels - 1) tables) (plain_list (row tables at))

whole_table : (levels : ℕ) (tables : List Row) (at : ℕ) (value : LuaValue) → value ≡ Table at → 0 < levels → plain_of levels tables value ≡ listed (inner levels tables at)
whole_table levels tables at value is some = ap (plain_of levels tables) is ∙ table_made levels tables at some

pub list_made : (levels : ℕ) (tables : List Row) (at : ℕ) (value : LuaValue) → value ≡ Table at → 0 < levels → (list : PlainValues) (units between left : ℕ) → units ≡ 1 + between →
    (list ≡ (each (plain_of (levels - 1) tables) (plain_list (row tables at))).value) × (between ≡ (each (plain_of (levels - 1) tables) (plain_list (row tables at))).cost + left) →
    (PlainList list ≡ (plain_of levels tables value).value) × (units ≡ (plain_of levels tables value).cost + left)
list_made levels tables at value is some list units between left paid made =
    let whole = whole_table levels tables at value is some in
    let cost = ap (λ (p : Paid PlainValue). p.cost) whole in
    (ap PlainList made.0 ∙ sym (ap (λ (p : Paid PlainValue). p.value) whole), omega (arith, paid, made.1, cost))

pub list_lacks : (levels : ℕ) (tables : List Row) (at : ℕ) (value : LuaValue) → value ≡ Table at → 0 < levels → (why : LuaError) (units between : ℕ) → units ≡ 1 + between →
    Lacks why between (each (plain_of (levels - 1) tables) (plain_list (row tables at))).cost → Lacks why units (plain_of levels tables value).cost
list_lacks levels tables at value is some why units between paid few =
    subst (λ (cost : ℕ). Lacks why units cost) (sym (ap (λ (p : Paid PlainValue). p.cost) (whole_table levels tables at value is some))) (lacks_more why units between (inner levels tables at).cost paid few)

-- ---- the values of a table one by one

pub more_made : (make : LuaValue → Paid PlainValue) (border : ℕ) (table : Row) (before : ℕ) → before < border → (list pushed : PlainValues) (plain : PlainValue) (value : LuaValue) (start units left : ℕ) (whole : Paid PlainValues) →
    value ≡ at_key table (Number (pos (before + 1))) → plain ≡ (make value).value → units ≡ (make value).cost + left → pushed ≡ with_last list plain →
    joined list (each make (rest border table before)).value ≡ whole.value → start + (each make (rest border table before)).cost ≡ units + whole.cost →
    (joined pushed (each make (rest border table (before + 1))).value ≡ whole.value) × (start + (each make (rest border table (before + 1))).cost ≡ left + whole.cost)
more_made make border table before within list pushed plain value start units left whole value_is plain_is paid pushed_is values cost =
    let others = (each make (rest border table (before + 1))).value in
    let next = rest_more border table before within in
    let here = ap (λ (r : List LuaValue). (each make r).cost) next in
    let same = ap (λ (v : LuaValue). (make v).cost) value_is in (
      ap (λ (p : PlainValues). joined p others) pushed_is ∙ joined_more list plain others
          ∙ ap (λ (p : PlainValue). joined list (p and others)) (plain_is ∙ ap (λ (v : LuaValue). (make v).value) value_is)
          ∙ sym (ap (λ (r : List LuaValue). joined list (each make r).value) next) ∙ values,
      omega (arith, cost, here, same, paid),
    )

pub all_made : (make : LuaValue → Paid PlainValue) (border : ℕ) (table : Row) (before : ℕ) → border ≤ before → (list : PlainValues) (start left : ℕ) (whole : Paid PlainValues) →
    joined list (each make (rest border table before)).value ≡ whole.value → start + (each make (rest border table before)).cost ≡ left + whole.cost →
    (list ≡ whole.value) × (start ≡ whole.cost + left)
all_made make border table before past list start left whole values cost =
    let none = rest_none border table before past in
    let nothing = ap (λ (r : List LuaValue). (each make r).cost) none in
    (sym (joined_none list) ∙ sym (ap (λ (r : List LuaValue). joined list (each make r).value) none) ∙ values, omega (arith, cost, nothing))

-- ---- a list as it is held

pub list_seen : (list : held_list.Plains) → plain_view (held_as.List list) ≡ PlainList (plains_view list)
list_seen list = ap plain_view (sym (held_as.rolls-List list)) ∙ folds.fold-roll-Plain PlainValue PlainValues plain_level plains_level (level.List list)
