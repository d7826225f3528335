-- How a text is read. Between two tokens a stack of symbols says what is still to come, the top first. Before a token
-- the symbol on top takes it, or ends, or begins an operand with it, or refuses it. A token that is refused is
-- the first with which no chunk goes on (`Language.antt`).
use Rattle.std.specs.Prelude.{ℕ, ◌+◌, if◌then◌else◌, nat_lt, List, [], ◌∷◌, ◌++◌, Result, Ok, Err}
use Rattle.lua_tree.specs.declared.tree.Item.{Item}
use Rattle.lua_tokens.specs.declared.kind.Kind.{Kind}
use Rattle.lua_tokens.specs.declared.kind.Kind.TheVariants as k
use Rattle.lua_grammar.specs.declared.symbol.Action.{Action}
use Rattle.lua_grammar.specs.declared.symbol.Symbol.{Symbol}
use Rattle.lua_grammar.specs.declared.symbol.Symbol.TheVariants as s
use Rattle.lua_grammar.specs.declared.symbol.Row.{Row}
use Rattle.lua_grammar.specs.declared.symbol.Row.TheVariants.{Takes, Opens, Begins, Passes, Refuses}
use Rattle.lua_syntax.specs.declared.building.Building.{Building}
use Rattle.lua_tokens.specs.declared.pieces.Token.{Token}
use Rattle.lua_syntax.specs.Refusal.{LuaRefusal, Syntax, TooDeep}
use Rattle.lua_grammar.specs.Table.{row, operand_row, most_open}
use Rattle.lua_syntax.specs.Building.{act, nothing_read}
use Rattle.lua_tokens.specs.Tokens.{tokens}

-- what is still to come, and what was read
pub record Reading : Type 0 where
  pub stack : List Symbol
  pub parts : Building

-- what a token leads to
pub data Step : Type 0 where
  Goes : Reading → Step
  -- the token can't come
  Wrong : Step
  -- one too many is open
  Deep : Step

-- a name and a string keep their bytes
abbrev pub keeps_text : Kind → List ℕ → Building → Building
keeps_text (k.Name role) text parts = record parts { texts = text ∷ parts.texts }
keeps_text k.Str text parts = record parts { texts = text ∷ parts.texts }
keeps_text _ text parts = parts

-- the token is taken, and these symbols come now
abbrev pub taken : List Symbol → Token → Building → Step
taken stack token parts = Goes (record { stack = stack; parts = keeps_text token.kind token.text parts })

-- the token opens something besides
abbrev pub opened : List Symbol → Token → Building → Step
opened stack token parts = if nat_lt parts.opened most_open then taken stack token (record parts { opened = parts.opened + 1 }) else Deep

-- an operand begins with the token, by the row of an operand
abbrev pub begun_by : Row → List Symbol → Token → Building → Step
begun_by (Takes body) stack token parts = taken (body ++ stack) token parts
begun_by (Opens body) stack token parts = opened (body ++ stack) token parts
begun_by _ stack token parts = Wrong

-- an operand begins with the token, and these symbols come behind it
abbrev pub begun : List Symbol → Token → Building → Step
begun stack token parts = begun_by (operand_row parts.opened token.kind token.line) stack token parts

-- the step of a stack by the row of its top, where `behind` is the step of the rest once an action was done
abbrev pub by_row : Row → (Action → Step) → List Symbol → Token → Building → Step
by_row (Takes body) behind stack token parts = taken (body ++ stack) token parts
by_row (Opens body) behind stack token parts = opened (body ++ stack) token parts
by_row (Begins more) behind stack token parts = begun (more ++ stack) token parts
by_row (Passes action) behind stack token parts = behind action
by_row Refuses behind stack token parts = Wrong

-- the step of a stack before a token
unfoldable pub step : List Symbol → Token → Building → Step
step [] token parts = Wrong
step (symbol ∷ stack) token parts =
    by_row (row symbol parts.opened token.kind token.line) (λ action. step stack token (act action parts)) stack token parts

-- what a step gives, where `behind` is what the further tokens give
abbrev pub by_step : Step → (Reading → Result (List Item) LuaRefusal) → ℕ → Result (List Item) LuaRefusal
by_step (Goes reading) behind line = behind reading
by_step Wrong behind line = Err (Syntax line)
by_step Deep behind line = Err (TooDeep line)

-- the items that the tokens give, or the first refusal. The last token of a text is its end, which the chunk alone takes: behind it nothing is still to come
unfoldable pub run : Reading → List Token → Result (List Item) LuaRefusal
run reading [] = Ok reading.parts.items
run reading (token ∷ tokens) = by_step (step reading.stack token reading.parts) (λ next. run next tokens) token.line

-- the tree of a text, or what is wrong with it
unfoldable pub tree_of : List ℕ → Result (List Item) LuaRefusal
tree_of text = run (record { stack = s.Chunk ∷ []; parts = nothing_read }) (tokens text)
