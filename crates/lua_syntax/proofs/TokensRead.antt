-- Tokens that a stack reads up to the end of the text, however deep they nest, with what each token opens and the items in the end.
use Rattle.std.proofs.Common.{◌≡◌, ℕ, ◌+◌, List, [], ◌∷◌, ◌++◌, refl}
use Rattle.std.specs.Prelude.{Option, Some, None}
use Rattle.lua_tree.specs.declared.tree.Item.{Item}
use Rattle.lua_tokens.specs.declared.kind.Kind.TheVariants as k
use Rattle.lua_tokens.specs.declared.pieces.Token.{Token}
use Rattle.lua_grammar.specs.declared.symbol.Action.{Action}
use Rattle.lua_grammar.specs.declared.symbol.Symbol.{Symbol}
use Rattle.lua_grammar.specs.declared.symbol.Symbol.TheVariants as s
use Rattle.lua_grammar.specs.declared.symbol.Row.TheVariants.{Takes, Opens, Begins, Passes}
use Rattle.lua_grammar.specs.Table.{row, operand_row}
use Rattle.lua_grammar.specs.Grammar.{token}
use Rattle.lua_grammar.specs.Nesting.{Nesting, Nothing, Plain, ◌then◌, Part, open_behind, open_with}
use Rattle.lua_grammar.specs.Nesting as nesting
use Rattle.lua_syntax.specs.declared.building.Building.{Building}
use Rattle.lua_syntax.specs.Building.{act}
use Rattle.lua_syntax.proofs.Derivation.{with_one_more}
use Rattle.lua_syntax.specs.Reading.{keeps_text}

pub data Reads : List Symbol → Building → List Token → List (Option ℕ) → List Item → Type 0 where
  ended : (b : Building) (line : ℕ) (text : List ℕ) → Reads (s.Chunk ∷ []) b (token k.EndOfText line text ∷ []) (None ∷ []) b.items
  takes : (symbol : Symbol) (stack body : List Symbol) (b : Building) (first : Token) (more : List Token) (depths : List (Option ℕ)) (items : List Item) →
      row symbol b.opened first.kind first.line ≡ Takes body →
      Reads (body ++ stack) (keeps_text first.kind first.text b) more depths items → Reads (symbol ∷ stack) b (first ∷ more) (None ∷ depths) items
  opens : (symbol : Symbol) (stack body : List Symbol) (b : Building) (first : Token) (more : List Token) (depths : List (Option ℕ)) (items : List Item) →
      row symbol b.opened first.kind first.line ≡ Opens body →
      Reads (body ++ stack) (keeps_text first.kind first.text (with_one_more b)) more depths items → Reads (symbol ∷ stack) b (first ∷ more) (Some (b.opened + 1) ∷ depths) items
  begins : (symbol : Symbol) (stack behind body : List Symbol) (b : Building) (first : Token) (more : List Token) (depths : List (Option ℕ)) (items : List Item) →
      row symbol b.opened first.kind first.line ≡ Begins behind → operand_row b.opened first.kind first.line ≡ Takes body →
      Reads (body ++ (behind ++ stack)) (keeps_text first.kind first.text b) more depths items → Reads (symbol ∷ stack) b (first ∷ more) (None ∷ depths) items
  begins_open : (symbol : Symbol) (stack behind body : List Symbol) (b : Building) (first : Token) (more : List Token) (depths : List (Option ℕ)) (items : List Item) →
      row symbol b.opened first.kind first.line ≡ Begins behind → operand_row b.opened first.kind first.line ≡ Opens body →
      Reads (body ++ (behind ++ stack)) (keeps_text first.kind first.text (with_one_more b)) more depths items → Reads (symbol ∷ stack) b (first ∷ more) (Some (b.opened + 1) ∷ depths) items
  ends : (symbol : Symbol) (stack : List Symbol) (action : Action) (b : Building) (first : Token) (more : List Token) (depths : List (Option ℕ)) (items : List Item) →
      row symbol b.opened first.kind first.line ≡ Passes action →
      Reads stack (act action b) (first ∷ more) depths items → Reads (symbol ∷ stack) b (first ∷ more) depths items

-- what is open in a form and in what comes behind it
abbrev pub onto : Nesting → (ℕ → List (Option ℕ)) → ℕ → List (Option ℕ)
onto Nothing behind n = behind n
onto Plain behind n = None ∷ behind n
onto nesting.Opens behind n = Some (n + 1) ∷ behind (n + 1)
onto (a then b) behind n = onto a (onto b behind) n
onto (Part a) behind n = onto a (λ inner. behind n) n

pub none_read : (stack : List Symbol) (b : Building) (depths : List (Option ℕ)) (items : List Item) → Reads stack b [] depths items → ⊥
none_read stack b depths items h = elim h [ ]

-- what is made between two symbols
pub made : (action : Action) (stack : List Symbol) (b : Building) (tokens : List Token) (depths : List (Option ℕ)) (items : List Item) →
    Reads stack (act action b) tokens depths items → Reads (s.Make action ∷ stack) b tokens depths items
unfolding row
made action stack b [] depths items h = absurd (none_read stack (act action b) depths items h)
made action stack b (first ∷ more) depths items h = ends (s.Make action) stack action b first more depths items refl h
