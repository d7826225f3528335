-- What a step of the code has to do with the step that is meant.
use Rattle.std.specs.Prelude.{◌≡◌, ℕ, List, ◌∷◌, ◌++◌, Result, Ok, Err}
use Rattle.tis_base.specs.declared.memory.NoMemory as memory
use Rattle.lua_syntax.specs.declared.error.LuaSyntax.{LuaSyntax}
use Rattle.lua_syntax.specs.Refusal.{IsRefused}
use Rattle.lua_tokens.specs.declared.pieces.Piece.{Piece}
use Rattle.lua_tokens.specs.declared.pieces.Token.{Token}
use Rattle.lua_tokens.specs.Tokens.{onto_tokens, cut}
use Rattle.lua_grammar.specs.declared.symbol.Symbol.{Symbol}
use Rattle.lua_syntax.specs.declared.building.Building.{Building}
use Rattle.lua_syntax.specs.declared.reading.Led.{Led}
use Rattle.lua_syntax.specs.declared.reading.Led.TheVariants as led
use Rattle.lua_syntax.specs.Reading.{Step, Goes, Wrong, Deep, run}

-- the stack and the parts are as the step leaves them, or it is refused alike, unless memory ran out
abbrev pub Steps : Result Led memory.NoMemory → List Symbol → Building → Step → Type 0
Steps (Ok led.On) stack parts step = step ≡ Goes (record { stack = stack; parts = parts })
Steps (Ok led.Wrong) stack parts step = step ≡ Wrong
Steps (Ok led.Deep) stack parts step = step ≡ Deep
Steps (Err e) stack parts step = Unit {0}

-- reading a token and then whatever comes is reading from the new stack and parts
abbrev pub TokenLeadsTo : List Symbol → Building → Token → List Symbol → Building → Type 0
TokenLeadsTo stack parts token new_stack new_parts = (more : List Token) →
    run (record { stack = stack; parts = parts }) (token ∷ more) ≡ run (record { stack = new_stack; parts = new_parts }) more

-- reading a token fails so, whatever comes, unless memory ran out
abbrev pub TokenFailsAt : List Symbol → Building → Token → LuaSyntax → Type 0
TokenFailsAt stack parts token e = (more : List Token) →
    IsRefused e (run (record { stack = stack; parts = parts }) (token ∷ more))

-- reading a piece on that line and then whatever comes, is reading from the new stack and parts
abbrev pub LeadsTo : List Symbol → Building → Piece → ℕ → List Symbol → Building → Type 0
LeadsTo stack parts piece line new_stack new_parts = (more : List Token) →
    run (record { stack = stack; parts = parts }) (onto_tokens piece line more) ≡ run (record { stack = new_stack; parts = new_parts }) more

-- reading a piece on that line fails so, whatever comes, unless memory ran out
abbrev pub FailsAt : List Symbol → Building → Piece → ℕ → LuaSyntax → Type 0
FailsAt stack parts piece line e = (more : List Token) →
    IsRefused e (run (record { stack = stack; parts = parts }) (onto_tokens piece line more))

-- the same for all the tokens of a text
abbrev pub AllLeadTo : List Symbol → Building → List ℕ → List Symbol → Building → Type 0
AllLeadTo stack parts text new_stack new_parts = (more : List Token) →
    run (record { stack = stack; parts = parts }) (cut 0 0 text ++ more) ≡ run (record { stack = new_stack; parts = new_parts }) more

abbrev pub AllFailAt : List Symbol → Building → List ℕ → LuaSyntax → Type 0
AllFailAt stack parts text e = (more : List Token) →
    IsRefused e (run (record { stack = stack; parts = parts }) (cut 0 0 text ++ more))
