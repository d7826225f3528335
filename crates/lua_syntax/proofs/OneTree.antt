-- The grammar gives one tree at most: tokens that are read give the same items, whichever way they are read.
use Rattle.std.proofs.Common.{◌≡◌, ℕ, List, [], ◌∷◌, ◌++◌, ◌⊎◌, inl, inr, refl, ap, ◌∙◌, sym, subst, append_assoc}
use Rattle.std.specs.Prelude.{Option}
use Rattle.lua_tree.specs.declared.tree.Item.{Item}
use Rattle.lua_tokens.specs.declared.kind.Kind.TheVariants as k
use Rattle.lua_tokens.specs.declared.pieces.Token.{Token}
use Rattle.lua_grammar.specs.declared.symbol.Symbol.{Symbol}
use Rattle.lua_grammar.specs.declared.symbol.Symbol.TheVariants as s
use Rattle.lua_grammar.specs.declared.symbol.Row.{Row}
use Rattle.lua_grammar.specs.declared.symbol.Row.TheVariants.{Takes, Opens, Begins, Passes, Refuses}
use Rattle.lua_grammar.specs.Table.{row, operand_row}
use Rattle.lua_grammar.specs.Grammar.{token, IsChunkOf}
use Rattle.lua_grammar.specs.Nesting.{Nesting, Nothing, Plain, ◌then◌, Part, open_behind, open_with, opened_by, in_items}
use Rattle.lua_grammar.specs.Nesting as nesting
use Rattle.lua_syntax.specs.declared.building.Building.{Building}
use Rattle.lua_syntax.specs.Building.{act, nothing_read}
use Rattle.lua_syntax.specs.Reading.{keeps_text}
use Rattle.lua_syntax.proofs.Derivation.{with_one_more}
use Rattle.lua_syntax.proofs.Meaning.{end_nil}
use Rattle.lua_syntax.proofs.TokensRead.{Reads, ended, takes, opens, begins, begins_open, ends, none_read, onto}
use Rattle.lua_syntax.proofs.ReadStatements.{read_chunk}

-- the rest is read, or the token was the end of the text
abbrev Rest : List Symbol → Building → Building → List Token → List Item → Type 0
Rest stack b before more items = ((depths : List (Option ℕ)) × Reads stack b more depths items) ⊎ ((more ≡ []) × (before.items ≡ items))

-- what a row leaves to be read
abbrev OperandReads : Row → List Symbol → Building → Token → List Token → List Item → Type 0
OperandReads (Takes body) stack b first more items = Rest (body ++ stack) (keeps_text first.kind first.text b) b more items
OperandReads (Opens body) stack b first more items = Rest (body ++ stack) (keeps_text first.kind first.text (with_one_more b)) b more items
OperandReads _ stack b first more items = ⊥

abbrev RowReads : Row → List Symbol → Building → Token → List Token → List Item → Type 0
RowReads (Takes body) stack b first more items = Rest (body ++ stack) (keeps_text first.kind first.text b) b more items
RowReads (Opens body) stack b first more items = Rest (body ++ stack) (keeps_text first.kind first.text (with_one_more b)) b more items
RowReads (Begins behind) stack b first more items = OperandReads (operand_row b.opened first.kind first.line) (behind ++ stack) b first more items
RowReads (Passes action) stack b first more items = (depths : List (Option ℕ)) × Reads stack (act action b) (first ∷ more) depths items
RowReads Refuses stack b first more items = ⊥

ended_row : (b : Building) (line : ℕ) (text : List ℕ) → RowReads (row s.Chunk b.opened k.EndOfText line) [] b (token k.EndOfText line text) [] b.items
unfolding row
ended_row b line text = inr (refl, refl)

by_row : (symbol : Symbol) (stack : List Symbol) (b : Building) (first : Token) (more : List Token) (depths : List (Option ℕ)) (items : List Item) → Reads (symbol ∷ stack) b (first ∷ more) depths items →
    RowReads (row symbol b.opened first.kind first.line) stack b first more items
by_row _ _ _ _ _ _ _ (ended b line text) = ended_row b line text
by_row _ _ _ _ _ _ _ (takes symbol stack body b first more depths items same d) = subst (λ (r : Row). RowReads r stack b first more items) (sym same) (inl (depths, d))
by_row _ _ _ _ _ _ _ (opens symbol stack body b first more depths items same d) = subst (λ (r : Row). RowReads r stack b first more items) (sym same) (inl (depths, d))
by_row _ _ _ _ _ _ _ (begins symbol stack behind body b first more depths items same operand d) =
    let found : OperandReads (operand_row b.opened first.kind first.line) (behind ++ stack) b first more items = subst (λ (r : Row). OperandReads r (behind ++ stack) b first more items) (sym operand) (inl (depths, d)) in
    subst (λ (r : Row). RowReads r stack b first more items) (sym same) found
by_row _ _ _ _ _ _ _ (begins_open symbol stack behind body b first more depths items same operand d) =
    let found : OperandReads (operand_row b.opened first.kind first.line) (behind ++ stack) b first more items = subst (λ (r : Row). OperandReads r (behind ++ stack) b first more items) (sym operand) (inl (depths, d)) in
    subst (λ (r : Row). RowReads r stack b first more items) (sym same) found
by_row _ _ _ _ _ _ _ (ends symbol stack action b first more depths items same d) = subst (λ (r : Row). RowReads r stack b first more items) (sym same) (depths, d)

-- the rest gives the same, where what is known of one reading of it is handed in
same_rest : (stack : List Symbol) (b before : Building) (more : List Token) (depths : List (Option ℕ)) (items others : List Item) → Reads stack b more depths items →
    ((found : List (Option ℕ)) → Reads stack b more found others → items ≡ others) → Rest stack b before more others → items ≡ others
same_rest stack b before more depths items others d known (inl found) = known found.0 found.1
same_rest stack b before more depths items others d known (inr last) = absurd (none_read stack b depths items (subst (λ (ts : List Token). Reads stack b ts depths items) last.0 d))

end_gives : (b : Building) (line : ℕ) (text : List ℕ) (others : List Item) → RowReads (row s.Chunk b.opened k.EndOfText line) [] b (token k.EndOfText line text) [] others → b.items ≡ others
unfolding row
end_gives b line text others (inl found) = absurd (none_read [] b found.0 others found.1)
end_gives b line text others (inr last) = last.1

same_items : (stack : List Symbol) (b : Building) (tokens : List Token) (depths found : List (Option ℕ)) (items others : List Item) → Reads stack b tokens depths items → Reads stack b tokens found others → items ≡ others
same_items _ _ _ _ found _ others (ended b line text) h = end_gives b line text others (by_row s.Chunk [] b (token k.EndOfText line text) [] found others h)
same_items _ _ _ _ found _ others (takes symbol stack body b first more depths items same d) h =
    same_rest (body ++ stack) (keeps_text first.kind first.text b) b more depths items others d (λ other o. same_items (body ++ stack) (keeps_text first.kind first.text b) more depths other items others d o)
    (subst (λ (r : Row). RowReads r stack b first more others) same (by_row symbol stack b first more found others h))
same_items _ _ _ _ found _ others (opens symbol stack body b first more depths items same d) h =
    same_rest (body ++ stack) (keeps_text first.kind first.text (with_one_more b)) b more depths items others d (λ other o. same_items (body ++ stack) (keeps_text first.kind first.text (with_one_more b)) more depths other items others d o)
    (subst (λ (r : Row). RowReads r stack b first more others) same (by_row symbol stack b first more found others h))
same_items _ _ _ _ found _ others (begins symbol stack behind body b first more depths items same operand d) h =
    let row_found : OperandReads (operand_row b.opened first.kind first.line) (behind ++ stack) b first more others = subst (λ (r : Row). RowReads r stack b first more others) same (by_row symbol stack b first more found others h) in
    same_rest (body ++ (behind ++ stack)) (keeps_text first.kind first.text b) b more depths items others d (λ other o. same_items (body ++ (behind ++ stack)) (keeps_text first.kind first.text b) more depths other items others d o)
    (subst (λ (r : Row). OperandReads r (behind ++ stack) b first more others) operand row_found)
same_items _ _ _ _ found _ others (begins_open symbol stack behind body b first more depths items same operand d) h =
    let row_found : OperandReads (operand_row b.opened first.kind first.line) (behind ++ stack) b first more others = subst (λ (r : Row). RowReads r stack b first more others) same (by_row symbol stack b first more found others h) in
    same_rest (body ++ (behind ++ stack)) (keeps_text first.kind first.text (with_one_more b)) b more depths items others d (λ other o. same_items (body ++ (behind ++ stack)) (keeps_text first.kind first.text (with_one_more b)) more depths other items others d o)
    (subst (λ (r : Row). OperandReads r (behind ++ stack) b first more others) operand row_found)
same_items _ _ _ _ found _ others (ends symbol stack action b first more depths items same d) h =
    let row_found : (other : List (Option ℕ)) × Reads stack (act action b) (first ∷ more) other others = subst (λ (r : Row). RowReads r stack b first more others) same (by_row symbol stack b first more found others h) in
    same_items stack (act action b) (first ∷ more) depths row_found.0 items others d row_found.1

-- ---- chunks

onto_is : (form : Nesting) (behind : ℕ → List (Option ℕ)) (n : ℕ) → onto form behind n ≡ open_with n form ++ behind (open_behind n form)
onto_is Nothing behind n = refl
onto_is Plain behind n = refl
onto_is nesting.Opens behind n = refl
onto_is (a then b) behind n = onto_is a (onto b behind) n ∙ ap (λ (rest : List (Option ℕ)). open_with n a ++ rest) (onto_is b behind (open_behind n a))
    ∙ sym (append_assoc (open_with n a) (open_with (open_behind n a) b) (behind (open_behind (open_behind n a) b)))
onto_is (Part a) behind n = onto_is a (λ inner. behind n) n

-- a chunk of the grammar is read, its tokens opening what the grammar says
pub chunk_reads : (tokens : List Token) (items : List Item) (chunk : IsChunkOf tokens items) → Reads (s.Chunk ∷ []) nothing_read tokens (opened_by chunk) items
chunk_reads tokens items chunk =
    subst (λ (depths : List (Option ℕ)). Reads (s.Chunk ∷ []) nothing_read tokens depths items) (onto_is (in_items chunk) (λ inner. []) 0 ∙ sym (end_nil (open_with 0 (in_items chunk)))) (read_chunk chunk)

pub one_tree : (tokens : List Token) (items others : List Item) → IsChunkOf tokens items → IsChunkOf tokens others → items ≡ others
one_tree tokens items others chunk other = same_items (s.Chunk ∷ []) nothing_read tokens (opened_by chunk) (opened_by other) items others (chunk_reads tokens items chunk) (chunk_reads tokens others other)
