-- The value at the end, made plain.
use Rattle.std.proofs.Common.{◌≡◌, ◌∙◌, ℕ, ◌+◌, ◌-◌, ◌<◌, ◌≤◌, refl, sym, ap, subst, Result, Ok, Err, arith}
use Rattle.lua_machine.specs.Answer.{PlainValue, Paid, plain_of, most_units}
use Rattle.lua_machine.specs.Machine.{Turned, Ended}
use Rattle.lua_machine.specs.Turn.{finished_by, paid, value_in}
use Rattle.lua_machine.specs.declared.error.LuaError.{LuaError}
use Rattle.lua_machine.specs.declared.error.LuaError.TheVariants as e
use Rattle.lua_results.specs.Results.{Lacks}
use Rattle.lua_state.specs.Store.{Store, newest, pushed}
use Rattle.lua_frames.specs.declared.ways.Way.{Way}
use Rattle.lua_frames.specs.declared.ways.Way.TheVariants as w
use Rattle.lua_frames.specs.Turns.{Stops}
use Rattle.lua_frames.specs.Ways.{way_in, beside_way}
use Rattle.lua_call.specs.Running.{EndedBy, Halts}

-- the value that comes back, in the tables that are there, made plain
abbrev pub plain_in : Store → Paid PlainValue
plain_in store = plain_of 4 store.state.tables (newest store.values)

-- what comes back to nobody is the value
abbrev back_in : Way → Store → Store
back_in way store = pushed (value_in (way_in way store)) (beside_way way store)

finished : (way : Way) (store : Store) (cost : ℕ) → finished_by (way_in way store) store.state cost ≡ Ended (Ok (plain_in (back_in way store)).value) (cost + (plain_in (back_in way store)).cost)
finished w.Goes store cost = refl
finished w.Breaks store cost = refl
finished w.Returns store cost = refl

sum_is : (spent left cost : ℕ) → spent ≤ 500000 → 500000 - spent ≡ cost + left → spent + cost ≡ 500000 - left
sum_is spent left cost few is = omega (arith, few, is)

pub given : (way : Way) (store now : Store) (spent left : ℕ) (plain : PlainValue) → now ≡ back_in way store → spent ≤ 500000 → plain ≡ (plain_in now).value → 500000 - spent ≡ (plain_in now).cost + left →
    finished_by (way_in way store) store.state spent ≡ Ended (Ok plain) (500000 - left)
given way store now spent left plain is few value units =
    finished way store spent
    ∙ ap (λ s. Ended (Ok (plain_in s).value) (spent + (plain_in s).cost)) (sym is)
    ∙ ap (λ p. Ended (Ok p) (spent + (plain_in now).cost)) (sym value)
    ∙ ap (Ended (Ok plain)) (sum_is spent left (plain_in now).cost few units)

pub at_most : (left : ℕ) → 500000 - left ≤ most_units
at_most left = omega arith

too_much : (spent cost : ℕ) → 500000 - spent < cost → most_units < spent + cost
too_much spent cost lacks = omega (arith, lacks)

pub lacking : (why : LuaError) (way : Way) (store now : Store) (spent : ℕ) → now ≡ back_in way store → Lacks why (500000 - spent) (plain_in now).cost → Halts why (finished_by (way_in way store) store.state spent)
lacking e.Budget way store now spent is lacks = subst (λ t. most_units < paid t) (sym (finished way store spent ∙ ap (λ s. Ended (Ok (plain_in s).value) (spent + (plain_in s).cost)) (sym is))) (too_much spent (plain_in now).cost lacks)
lacking e.NoMemory way store now spent is lacks = tt
lacking (e.TypeFault line) way store now spent is lacks = absurd lacks
lacking (e.UnknownName line) way store now spent is lacks = absurd lacks
lacking (e.Inexact line) way store now spent is lacks = absurd lacks
lacking (e.OutOfRange line) way store now spent is lacks = absurd lacks
lacking (e.LongString line) way store now spent is lacks = absurd lacks
lacking (e.TooDeepCalls line) way store now spent is lacks = absurd lacks

-- a turn that was stopped within the units that may be paid
pub halted : (why : LuaError) (cost : ℕ) (wanted : Turned) → cost ≤ most_units → Stops why cost wanted → Halts why wanted
halted e.Budget cost wanted few stops = stops
halted e.NoMemory cost wanted few stops = tt
halted (e.TypeFault line) cost wanted few stops = (cost, stops, few)
halted (e.UnknownName line) cost wanted few stops = (cost, stops, few)
halted (e.Inexact line) cost wanted few stops = (cost, stops, few)
halted (e.OutOfRange line) cost wanted few stops = (cost, stops, few)
halted (e.LongString line) cost wanted few stops = (cost, stops, few)
halted (e.TooDeepCalls line) cost wanted few stops = (cost, stops, few)
