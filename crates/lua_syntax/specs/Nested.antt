-- How deep a chunk may nest, by what each of its tokens opens (`Nesting.antt` of the grammar).
use Rattle.std.specs.Prelude.{◌≡◌, ℕ, zero, suc, Bool, true, false, if◌then◌else◌, nat_le, List, [], ◌∷◌, Option, Some, None, Result, Ok, Err}
use Rattle.lua_tree.specs.declared.tree.Item.{Item}
use Rattle.lua_tokens.specs.declared.pieces.Token.{Token}
use Rattle.lua_grammar.specs.Table.{most_open}
use Rattle.lua_syntax.specs.Refusal.{LuaRefusal, TooDeep}

-- whether a token opens nothing, or no more are open with it than may be
abbrev pub is_within : Option ℕ → Bool
is_within None = true
is_within (Some count) = nat_le count most_open

-- no token opens too many
abbrev pub AllWithin : List (Option ℕ) → Type 0
AllWithin [] = Unit {0}
AllWithin (first ∷ more) = (is_within first ≡ true) × AllWithin more

-- none of so many tokens opens too many
abbrev pub FirstWithin : ℕ → List (Option ℕ) → Type 0
FirstWithin zero opened = Unit {0}
FirstWithin (suc count) [] = ⊥
FirstWithin (suc count) (first ∷ more) = (is_within first ≡ true) × FirstWithin count more

-- the token behind so many others is the first that opens one too many
abbrev pub IsFirstBeyond : ℕ → List (Option ℕ) → Type 0
IsFirstBeyond count [] = ⊥
IsFirstBeyond zero (first ∷ more) = is_within first ≡ false
IsFirstBeyond (suc count) (first ∷ more) = (is_within first ≡ true) × IsFirstBeyond count more

-- what the tokens of a chunk with these items give: the items, or the line of the first token that opens one too many
abbrev pub answer_of : List Token → List (Option ℕ) → List Item → Result (List Item) LuaRefusal
answer_of [] opened items = Ok items
answer_of (token ∷ tokens) [] items = Ok items
answer_of (token ∷ tokens) (first ∷ more) items = if is_within first then answer_of tokens more items else Err (TooDeep token.line)
