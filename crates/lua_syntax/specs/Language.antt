-- What a text gives, by the grammar alone: which chunks there are, with their trees (`Grammar.antt`), and what each of their tokens
-- opens (`Nesting.antt`). Nothing here knows how a text is read.
use Rattle.std.specs.Prelude.{◌≡◌, ℕ, List, [], ◌∷◌, ◌++◌, length, Result, Ok, Err}
use Rattle.lua_tree.specs.declared.tree.Item.{Item}
use Rattle.lua_tokens.specs.declared.pieces.Token.{Token}
use Rattle.lua_tokens.specs.Tokens.{tokens}
use Rattle.lua_grammar.specs.Grammar.{IsChunkOf}
use Rattle.lua_grammar.specs.Nesting.{opened_by}
use Rattle.lua_syntax.specs.Nested.{AllWithin, FirstWithin, IsFirstBeyond, answer_of}
use Rattle.lua_syntax.specs.Refusal.{LuaRefusal, Syntax, TooDeep}
use Rattle.lua_syntax.specs.Reading.{tree_of}

-- some tokens behind these make them a chunk. They are any tokens, also some that no text has; for each of these there is one
-- of the same kind that a text has
abbrev pub GoesOn : List Token → Type 0
GoesOn tokens = (more : List Token) × (items : List Item) × IsChunkOf (tokens ++ more) items

-- this is the first token with which no chunk goes on: some chunk goes on with those before it, of which none opens one too many.
-- It is the end of the text where the text ends too early
pub record IsFirstWrong (tokens : List Token) (wrong : Token) : Type 0 where
  pub before : List Token
  pub behind : List Token
  pub split : tokens ≡ before ++ wrong ∷ behind
  pub more : List Token
  pub items : List Item
  pub chunk : IsChunkOf (before ++ more) items
  pub within : FirstWithin (length before) (opened_by chunk)
  pub stops : ¬ GoesOn (before ++ wrong ∷ [])

-- some chunk goes on with this token, and it is the first in it that opens one too many
pub record IsFirstDeep (tokens : List Token) (deep : Token) : Type 0 where
  pub before : List Token
  pub behind : List Token
  pub split : tokens ≡ before ++ deep ∷ behind
  pub more : List Token
  pub items : List Item
  pub chunk : IsChunkOf (before ++ deep ∷ more) items
  pub first : IsFirstBeyond (length before) (opened_by chunk)

-- what these tokens give: they are a chunk with this tree, and none opens one too many; or the line is that of the first token with
-- which no chunk goes on; or it is that of the first token that opens one too many
abbrev pub IsAnswer : List Token → Result (List Item) LuaRefusal → Type 0
IsAnswer tokens (Ok items) = (chunk : IsChunkOf tokens items) × AllWithin (opened_by chunk)
IsAnswer tokens (Err (Syntax line)) = (wrong : Token) × (line ≡ wrong.line) × IsFirstWrong tokens wrong
IsAnswer tokens (Err (TooDeep line)) = (deep : Token) × (line ≡ deep.line) × IsFirstDeep tokens deep

-- each text is answered so; the end of the text is a token on the last line
abbrev pub TextsAnswer : Type 0
TextsAnswer = (text : List ℕ) → IsAnswer (tokens text) (tree_of text)

-- a text whose tokens are a chunk gives the tree of the chunk, or the line of the first token that opens one too many
abbrev pub ChunksAreRead : Type 0
ChunksAreRead = (text : List ℕ) (items : List Item) (chunk : IsChunkOf (tokens text) items) → tree_of text ≡ answer_of (tokens text) (opened_by chunk) items

-- a text that begins as a chunk does, up to the first token in it that opens one too many, is too deep there, whatever comes behind
abbrev pub DeepTextsAreRefused : Type 0
DeepTextsAreRefused = (text : List ℕ) (before behind more : List Token) (deep : Token) (items : List Item) (chunk : IsChunkOf (before ++ deep ∷ more) items) →
    tokens text ≡ before ++ deep ∷ behind → IsFirstBeyond (length before) (opened_by chunk) → tree_of text ≡ Err (TooDeep deep.line)

-- the grammar gives one tree at most
abbrev pub ChunksHaveOneTree : Type 0
ChunksHaveOneTree = (tokens : List Token) (items others : List Item) → IsChunkOf tokens items → IsChunkOf tokens others → items ≡ others
