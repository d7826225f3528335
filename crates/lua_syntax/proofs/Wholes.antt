-- A whole text: its tokens up to its end, and then the end.
use Rattle.std.proofs.Common.{◌≡◌, ℕ, List, [], ◌∷◌, ◌++◌, refl, ◌∙◌, sym, subst, Ok}
use Rattle.lua_tokens.specs.declared.kind.Kind.TheVariants as k
use Rattle.lua_syntax.specs.declared.building.Building.{Building}
use Rattle.lua_grammar.specs.declared.symbol.Symbol.{Symbol}
use Rattle.lua_grammar.specs.declared.symbol.Symbol.TheVariants as s
use Rattle.lua_syntax.specs.declared.error.LuaSyntax.{LuaSyntax}
use Rattle.lua_syntax.specs.Building.{nothing_read}
use Rattle.lua_tokens.specs.Tokens.{cut, tokens, last_line}
use Rattle.lua_syntax.specs.Reading.{run, tree_of}
use Rattle.lua_syntax.specs.Steps.{TokenLeadsTo, TokenFailsAt, AllLeadTo, AllFailAt}
use Rattle.lua_syntax.specs.Refusal.{IsRefused}

-- the tree, from where reading starts
start : (text : List ℕ) (first : List Symbol) (none : Building) (nothing : List ℕ) (line : ℕ) → first ≡ s.Chunk ∷ [] → none ≡ nothing_read → nothing ≡ [] → line ≡ last_line text →
    tree_of text ≡ run (record { stack = first; parts = none }) (cut 0 0 text ++ record { kind = k.EndOfText; line = line; text = nothing } ∷ [])
unfolding tree_of tokens
start text first none nothing line first-is none-is nothing-is line-is = sym (rw (first-is, none-is, nothing-is, line-is))

pub whole : (text : List ℕ) (first stack last_stack : List Symbol) (none parts last_parts : Building) (nothing : List ℕ) (line : ℕ) →
    first ≡ s.Chunk ∷ [] → none ≡ nothing_read → nothing ≡ [] → line ≡ last_line text → AllLeadTo first none text stack parts →
    TokenLeadsTo stack parts (record { kind = k.EndOfText; line = line; text = nothing }) last_stack last_parts → tree_of text ≡ Ok last_parts.items
unfolding run
whole text first stack last_stack none parts last_parts nothing line first-is none-is nothing-is line-is leads ends =
    start text first none nothing line first-is none-is nothing-is line-is ∙ leads (record { kind = k.EndOfText; line = line; text = nothing } ∷ []) ∙ ends []

pub whole_fails : (text : List ℕ) (first stack : List Symbol) (none parts : Building) (nothing : List ℕ) (line : ℕ) (e : LuaSyntax) →
    first ≡ s.Chunk ∷ [] → none ≡ nothing_read → nothing ≡ [] → line ≡ last_line text → AllLeadTo first none text stack parts →
    TokenFailsAt stack parts (record { kind = k.EndOfText; line = line; text = nothing }) e → IsRefused e (tree_of text)
whole_fails text first stack none parts nothing line e first-is none-is nothing-is line-is leads ends =
    subst (IsRefused e) (sym (start text first none nothing line first-is none-is nothing-is line-is ∙ leads (record { kind = k.EndOfText; line = line; text = nothing } ∷ []))) (ends [])

pub all_fails : (text : List ℕ) (first : List Symbol) (none : Building) (e : LuaSyntax) →
    first ≡ s.Chunk ∷ [] → none ≡ nothing_read → AllFailAt first none text e → IsRefused e (tree_of text)
all_fails text first none e first-is none-is fails =
    subst (IsRefused e) (sym (start text first none [] (last_line text) first-is none-is refl refl)) (fails (record { kind = k.EndOfText; line = last_line text; text = [] } ∷ []))
