-- Small chunks and what they come to, derived.
use Rattle.std.proofs.Common.{◌≡◌, ℕ, pos, List, [], ◌∷◌, refl, codes, Ok, Err}
use Rattle.std.specs.Prelude.{Some}
use Rattle.std.specs.Fmt.{digits}
use Rattle.lua_tree.specs.declared.tree.UnaryOp.TheVariants as unary_op
use Rattle.lua_tree.specs.declared.tree.BinaryOp.TheVariants as binary_op
use Rattle.lua_machine.specs.Value.{Number, TypeFault, Inexact, OutOfRange, UnknownName}
use Rattle.lua_machine.specs.State.{State, gives}
use Rattle.lua_machine.specs.Yields.{Evaluates, AllEvaluate, Executes, Runs, Way, Returns, Gone}
use Rattle.lua_machine.specs.Yields as y
use Rattle.lua_machine.specs.Tree as t
use Rattle.lua_machine.specs.Tree.{Node, BlockNode, ItemNode, none, ◌and◌, finished, ◌andthen◌}
use Rattle.lua_machine.specs.Answer.{PlainNumber, PlainText, Yields, yields}
use Rattle.lua_machine.specs.Answer as answer
use Rattle.lua_machine.specs.Library.{chosen}
use Rattle.lua_machine.specs.Turn.{after_turns, begins}
use Rattle.lua_machine.specs.Machine.{Turned, Ended}

-- a chunk with one function, which is this expression
abbrev returning : Node → List ItemNode
returning of = t.Function (codes "f") [] (t.Return (Some of) andthen finished) ∷ []

-- `-7 % 3` is 2, for four units, and six with the statement and the plain value
modulo : Node
modulo = t.Binary binary_op.Mod (t.Unary unary_op.Minus (t.Number (pos 7)) 1) (t.Number (pos 3)) 1

modulo_gives : (chunk : List ItemNode) (calls : ℕ) (state : State) → Evaluates chunk calls state modulo (gives (Number (pos 2)) state) 4
unfolding modulo
modulo_gives chunk calls state = y.binary refl (y.onward (y.unary (y.onward y.number y.all)) (y.onward y.number y.all))

modulo_yields : (seed : ℕ) → Yields (returning modulo) (codes "f") seed (Ok (PlainNumber (pos 2))) 6
unfolding modulo
modulo_yields seed = yields (answer.function answer.no_more) refl (y.ended (y.return_with (modulo_gives _ _ _)) refl)

-- `math.floor(7 / 2)` is 3, for six units
half : Node
half = t.MathCall (codes "floor") (t.Binary binary_op.Over (t.Number (pos 7)) (t.Number (pos 2)) 1 and none) 1

half_yields : (seed : ℕ) → Yields (returning half) (codes "f") seed (Ok (PlainNumber (pos 3))) 6
unfolding half
half_yields seed = yields (answer.function answer.no_more) refl (y.ended (y.return_with (y.floor_call refl (y.onward y.number (y.onward y.number y.all)))) refl)

-- `7 / 2` isn't whole
quotient : Node
quotient = t.Binary binary_op.Over (t.Number (pos 7)) (t.Number (pos 2)) 1

quotient_yields : (seed : ℕ) → Yields (returning quotient) (codes "f") seed (Err (Inexact 1)) 4
unfolding quotient
quotient_yields seed = yields (answer.function answer.no_more) refl (y.ended (y.return_with (y.binary refl (y.onward y.number (y.onward y.number y.all)))) refl)

-- a call of no known function
stranger : Node
stranger = t.Call (codes "g") none 1

stranger_yields : (seed : ℕ) → Yields (returning stranger) (codes "f") seed (Err (UnknownName 1)) 2
unfolding stranger
stranger_yields seed = yields (answer.function answer.no_more) refl (y.ended (y.return_with (y.unknown refl)) refl)

-- `"a" .. 1` is a1
joined : Node
joined = t.Binary binary_op.Join (t.Str (codes "a") 1) (t.Number (pos 1)) 1

joined_yields : (seed : ℕ) → Yields (returning joined) (codes "f") seed (Ok (PlainText (codes "a1"))) 5
unfolding joined digits
joined_yields seed = yields (answer.function answer.no_more) refl (y.ended (y.return_with (y.binary refl (y.onward y.string (y.onward y.number y.all)))) refl)

-- `9007199254740992 + 1` is past the greatest number
beyond : Node
beyond = t.Binary binary_op.Plus (t.Number (pos 9007199254740992)) (t.Number (pos 1)) 1

beyond_yields : (seed : ℕ) → Yields (returning beyond) (codes "f") seed (Err (OutOfRange 1)) 4
unfolding beyond
beyond_yields seed = yields (answer.function answer.no_more) refl (y.ended (y.return_with (y.binary refl (y.onward y.number (y.onward y.number y.all)))) refl)

-- `1 + nil` and `5 % 0`
wrong_kind : Node
wrong_kind = t.Binary binary_op.Plus (t.Number (pos 1)) t.Nil 1

wrong_kind_yields : (seed : ℕ) → Yields (returning wrong_kind) (codes "f") seed (Err (TypeFault 1)) 4
unfolding wrong_kind
wrong_kind_yields seed = yields (answer.function answer.no_more) refl (y.ended (y.return_with (y.binary refl (y.onward y.number (y.onward y.nil y.all)))) refl)

by_zero : Node
by_zero = t.Binary binary_op.Mod (t.Number (pos 5)) (t.Number (pos 0)) 1

by_zero_yields : (seed : ℕ) → Yields (returning by_zero) (codes "f") seed (Err (Inexact 1)) 4
unfolding by_zero
by_zero_yields seed = yields (answer.function answer.no_more) refl (y.ended (y.return_with (y.binary refl (y.onward y.number (y.onward y.number y.all)))) refl)

-- `local s = 0 for i = 3, 1, -1 do s = s + i end return s` is 6: three turns with a unit each, and none for the test that ends the loop
summing : BlockNode
summing =
    t.Local (codes "s") (Some (t.Number (pos 0)))
    andthen t.For (codes "i") (t.Number (pos 3)) (t.Number (pos 1)) (Some (t.Unary unary_op.Minus (t.Number (pos 1)) 1)) (t.Assign (codes "s") (t.Binary binary_op.Plus (t.Name (codes "s")) (t.Name (codes "i")) 1) andthen finished) 1
    andthen t.Return (Some (t.Name (codes "s"))) andthen finished

summing_yields : (seed : ℕ) → Yields (t.Function (codes "f") [] summing ∷ []) (codes "f") seed (Ok (PlainNumber (pos 6))) 25
unfolding summing
summing_yields seed = yields (answer.function answer.no_more) refl
    (y.on (y.local_with y.number)
    (y.on (y.for_loop (y.onward y.number (y.onward y.number (y.onward (y.unary (y.onward y.number y.all)) y.all))) refl
    (y.turn_on refl (y.on (y.assign (y.binary refl (y.onward y.name (y.onward y.name y.all)))) y.finished)
    (y.turn_on refl (y.on (y.assign (y.binary refl (y.onward y.name (y.onward y.name y.all)))) y.finished)
    (y.turn_on refl (y.on (y.assign (y.binary refl (y.onward y.name (y.onward y.name y.all)))) y.finished)
    (y.past refl)))))
    (y.ended (y.return_with y.name) refl)))

-- ---- the same by the turns of the machine

abbrev turned : ℕ → BlockNode → Turned
turned turns body = after_turns (t.Function (codes "f") [] body ∷ []) (record { params = []; body = body }) turns (begins (t.Function (codes "f") [] body ∷ []) (record { params = []; body = body }) 7)

modulo_turns : turned 20 (t.Return (Some modulo) andthen finished) ≡ Ended (Ok (PlainNumber (pos 2))) 6
unfolding modulo
modulo_turns = refl

summing_turns : turned 80 summing ≡ Ended (Ok (PlainNumber (pos 6))) 25
unfolding summing
summing_turns = refl

half_turns : turned 20 (t.Return (Some half) andthen finished) ≡ Ended (Ok (PlainNumber (pos 3))) 6
unfolding half
half_turns = refl

beyond_turns : turned 20 (t.Return (Some beyond) andthen finished) ≡ Ended (Err (OutOfRange 1)) 4
unfolding beyond
beyond_turns = refl

-- the word is multiplied before it is divided
half_way : chosen 2147483648 (pos 1) (pos 10) ≡ pos 6
half_way = refl
