-- The language of the table, without a bound on how deep it nests: which tokens a stack of symbols derives. The count of what is
-- open is carried along since symbols keep it, and nothing is refused for it.
use Rattle.std.specs.Prelude.{◌≡◌, ◌+◌, List, [], ◌∷◌, ◌++◌}
use Rattle.lua_tokens.specs.declared.pieces.Token.{Token}
use Rattle.lua_grammar.specs.declared.symbol.Action.{Action}
use Rattle.lua_grammar.specs.declared.symbol.Symbol.{Symbol}
use Rattle.lua_grammar.specs.declared.symbol.Symbol.TheVariants as s
use Rattle.lua_grammar.specs.declared.symbol.Row.TheVariants.{Takes, Opens, Begins, Passes}
use Rattle.lua_grammar.specs.Table.{row, operand_row}
use Rattle.lua_syntax.specs.declared.building.Building.{Building}
use Rattle.lua_syntax.specs.Building.{act, nothing_read}
use Rattle.lua_syntax.specs.Reading.{keeps_text}

-- one more is open
abbrev pub with_one_more : Building → Building
with_one_more parts = record parts { opened = parts.opened + 1 }

-- a stack derives tokens, each rule of the table a production that the next token decides
pub data Derives : List Symbol → Building → List Token → Type 0 where
  -- nothing is left to come
  nothing : (parts : Building) → Derives [] parts []
  -- the token is taken, and the rest comes from what is left
  takes : (symbol : Symbol) (stack body : List Symbol) (parts : Building) (token : Token) (tokens : List Token) →
      row symbol parts.opened token.kind token.line ≡ Takes body →
      Derives (body ++ stack) (keeps_text token.kind token.text parts) tokens → Derives (symbol ∷ stack) parts (token ∷ tokens)
  -- the same for a token that opens something
  opens : (symbol : Symbol) (stack body : List Symbol) (parts : Building) (token : Token) (tokens : List Token) →
      row symbol parts.opened token.kind token.line ≡ Opens body →
      Derives (body ++ stack) (keeps_text token.kind token.text (with_one_more parts)) tokens → Derives (symbol ∷ stack) parts (token ∷ tokens)
  -- an operand begins with the token
  begins : (symbol : Symbol) (stack behind body : List Symbol) (parts : Building) (token : Token) (tokens : List Token) →
      row symbol parts.opened token.kind token.line ≡ Begins behind → operand_row parts.opened token.kind token.line ≡ Takes body →
      Derives (body ++ (behind ++ stack)) (keeps_text token.kind token.text parts) tokens → Derives (symbol ∷ stack) parts (token ∷ tokens)
  -- an operand begins with a token that opens something
  begins_open : (symbol : Symbol) (stack behind body : List Symbol) (parts : Building) (token : Token) (tokens : List Token) →
      row symbol parts.opened token.kind token.line ≡ Begins behind → operand_row parts.opened token.kind token.line ≡ Opens body →
      Derives (body ++ (behind ++ stack)) (keeps_text token.kind token.text (with_one_more parts)) tokens → Derives (symbol ∷ stack) parts (token ∷ tokens)
  -- the symbol ends before the token
  ends : (symbol : Symbol) (stack : List Symbol) (action : Action) (parts : Building) (token : Token) (tokens : List Token) →
      row symbol parts.opened token.kind token.line ≡ Passes action →
      Derives stack (act action parts) (token ∷ tokens) → Derives (symbol ∷ stack) parts (token ∷ tokens)

-- the tokens, with the end of the text as the last, are a chunk
abbrev pub IsChunk : List Token → Type 0
IsChunk tokens = Derives (s.Chunk ∷ []) nothing_read tokens
