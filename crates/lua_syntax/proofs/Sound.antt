-- A text that is read is a chunk of the grammar, with the tree that it gives.
use Rattle.std.proofs.Common.{◌≡◌, ℕ, Bool, true, false, List, [], ◌∷◌, ◌++◌, refl, ◌∙◌, sym, subst}
use Rattle.std.specs.Prelude.{if◌then◌else◌, nat_lt, Ok}
use Rattle.lua_tree.specs.declared.tree.Item.{Item}
use Rattle.lua_grammar.specs.declared.symbol.Action.{Action}
use Rattle.lua_grammar.specs.declared.symbol.Symbol.{Symbol}
use Rattle.lua_grammar.specs.declared.symbol.Symbol.TheVariants as s
use Rattle.lua_grammar.specs.declared.symbol.Row.{Row}
use Rattle.lua_grammar.specs.declared.symbol.Row.TheVariants.{Takes, Opens, Begins, Passes, Refuses}
use Rattle.lua_syntax.specs.declared.building.Building.{Building}
use Rattle.lua_tokens.specs.declared.pieces.Token.{Token}
use Rattle.lua_grammar.specs.Table.{row, operand_row, most_open}
use Rattle.lua_syntax.specs.Building.{act, nothing_read}
use Rattle.lua_tokens.specs.Tokens.{tokens, cut, last_line}
use Rattle.lua_syntax.specs.Reading.{Reading, Step, Goes, Wrong, Deep, keeps_text, taken, opened, begun_by, by_row, step, by_step, run, tree_of}
use Rattle.lua_syntax.proofs.Derivation.{Derives, nothing, takes, opens, begins, begins_open, ends, with_one_more, IsChunk}
use Rattle.lua_grammar.specs.Grammar.{AreItems, IsChunkOf}
use Rattle.lua_syntax.proofs.Completing.{EndsInChunk}
use Rattle.lua_syntax.proofs.Stacking.{KeepsEnd, keeps_end, end_on, LeavesNothing, end_leaves_nothing}
use Rattle.lua_syntax.proofs.Meaning.{Means, BegunMeans, RowMeans, row_means}

-- what a step leaves stands for what comes behind the token
abbrev pub StepMeans : Step → List Token → List Item → Type 0
StepMeans (Goes next) more items = Means next.stack next.parts more items
StepMeans Wrong more items = ⊥
StepMeans Deep more items = ⊥

opened_step : (stack : List Symbol) (first : Token) (b : Building) (more : List Token) (items : List Item) → StepMeans (opened stack first b) more items →
    Means stack (keeps_text first.kind first.text (with_one_more b)) more items
opened_step stack first b more items h =
    elim (nat_lt b.opened most_open) as (λ (t : Bool). StepMeans (if t then taken stack first (with_one_more b) else Deep) more items → Means stack (keeps_text first.kind first.text (with_one_more b)) more items)
    [ true ↦ λ h. h | false ↦ λ h. absurd h ] h

begun_step : (r : Row) (stack : List Symbol) (first : Token) (b : Building) (more : List Token) (items : List Item) → StepMeans (begun_by r stack first b) more items → BegunMeans r stack b first more items
begun_step (Takes body) stack first b more items h = h
begun_step (Opens body) stack first b more items h = opened_step (body ++ stack) first b more items h
begun_step (Begins body) stack first b more items h = h
begun_step (Passes action) stack first b more items h = h
begun_step Refuses stack first b more items h = h

row_step : (r : Row) (stack : List Symbol) (first : Token) (b : Building) (more : List Token) (items : List Item) →
    ((action : Action) → StepMeans (step stack first (act action b)) more items → Means stack (act action b) (first ∷ more) items) →
    StepMeans (by_row r (λ (action : Action). step stack first (act action b)) stack first b) more items → RowMeans r stack b first more items
row_step (Takes body) stack first b more items known h = h
row_step (Opens body) stack first b more items known h = opened_step (body ++ stack) first b more items h
row_step (Begins behind) stack first b more items known h = begun_step (operand_row b.opened first.kind first.line) (behind ++ stack) first b more items h
row_step (Passes action) stack first b more items known h = known action h
row_step Refuses stack first b more items known h = h

step_means : (stack : List Symbol) (first : Token) (b : Building) (more : List Token) (items : List Item) → StepMeans (step stack first b) more items → Means stack b (first ∷ more) items
unfolding step
step_means [] first b more items h = absurd h
step_means (symbol ∷ stack) first b more items h =
    row_means symbol stack b first.kind first.line first.text more items
    (row_step (row symbol b.opened first.kind first.line) stack first b more items (λ action. step_means stack first (act action b) more items) h)

-- ---- all tokens

nothing_left : (stack : List Symbol) (b : Building) (items : List Item) → stack ≡ [] → b.items ≡ items → Means stack b [] items
nothing_left stack b items is same = subst (λ (rest : List Symbol). Means rest b [] items) (sym is) (refl, same)

end_by_step : (reading : Reading) (line : ℕ) (items : List Item) → EndsInChunk reading.stack → (s : Step) → step reading.stack (end_on line) reading.parts ≡ s →
    by_step s (λ (next : Reading). run next []) line ≡ Ok items → Means reading.stack reading.parts (end_on line ∷ []) items
unfolding run
end_by_step reading line items fine (Goes next) led is =
    let none = subst LeavesNothing led (end_leaves_nothing reading.stack line reading.parts fine) in
    let same : next.parts.items ≡ items = cc in
    step_means reading.stack (end_on line) reading.parts [] items (subst (λ (s : Step). StepMeans s [] items) (sym led) (nothing_left next.stack next.parts items none same))
end_by_step reading line items fine Wrong led is = absurd (cc)
end_by_step reading line items fine Deep led is = absurd (cc)

token_by_step : (tokens : List Token) (reading : Reading) (first : Token) (items : List Item) → EndsInChunk reading.stack →
    ((next : Reading) → EndsInChunk next.stack → run next tokens ≡ Ok items → Means next.stack next.parts tokens items) →
    (s : Step) → step reading.stack first reading.parts ≡ s →
    by_step s (λ (next : Reading). run next tokens) first.line ≡ Ok items → Means reading.stack reading.parts (first ∷ tokens) items
token_by_step tokens reading first items fine known (Goes next) led is =
    step_means reading.stack first reading.parts tokens items (subst (λ (s : Step). StepMeans s tokens items) (sym led)
    (known next (subst KeepsEnd led (keeps_end reading.stack first reading.parts fine)) is))
token_by_step tokens reading first items fine known Wrong led is = absurd (cc)
token_by_step tokens reading first items fine known Deep led is = absurd (cc)

read_means : (tokens : List Token) (reading : Reading) (line : ℕ) (items : List Item) → EndsInChunk reading.stack → run reading (tokens ++ end_on line ∷ []) ≡ Ok items →
    Means reading.stack reading.parts (tokens ++ end_on line ∷ []) items
unfolding run
read_means [] reading line items fine is = end_by_step reading line items fine (step reading.stack (end_on line) reading.parts) refl is
read_means (first ∷ tokens) reading line items fine is =
    token_by_step (tokens ++ end_on line ∷ []) reading first items fine (λ (next : Reading). read_means tokens next line items) (step reading.stack first reading.parts) refl is

chunk_read : (tokens : List Token) (items : List Item) → Means (s.Chunk ∷ []) nothing_read tokens items → IsChunkOf tokens items
chunk_read tokens items h =
    subst (λ (rest : List Token). AreItems tokens items rest) h.7.0 (subst (λ (found : List Item). AreItems tokens found h.4) (sym h.6 ∙ h.7.1) h.5)

pub read_texts_are_chunks : (text : List ℕ) (items : List Item) → tree_of text ≡ Ok items → IsChunkOf (tokens text) items
unfolding tree_of tokens
read_texts_are_chunks text items is = chunk_read (tokens text) items (read_means (cut 0 0 text) (record { stack = s.Chunk ∷ []; parts = nothing_read }) (last_line text) items refl is)

-- ---- what the table derives, however deep it nests

derives_means : (stack : List Symbol) (b : Building) (tokens : List Token) → Derives stack b tokens → (items : List Item) × Means stack b tokens items
derives_means _ _ _ (nothing b) = (b.items, (refl, refl))
derives_means _ _ _ (takes symbol stack body b first tokens is d) =
    let known = derives_means (body ++ stack) (keeps_text first.kind first.text b) tokens d in
    (known.0, row_means symbol stack b first.kind first.line first.text tokens known.0 (subst (λ (r : Row). RowMeans r stack b first tokens known.0) (sym is) known.1))
derives_means _ _ _ (opens symbol stack body b first tokens is d) =
    let known = derives_means (body ++ stack) (keeps_text first.kind first.text (with_one_more b)) tokens d in
    (known.0, row_means symbol stack b first.kind first.line first.text tokens known.0 (subst (λ (r : Row). RowMeans r stack b first tokens known.0) (sym is) known.1))
derives_means _ _ _ (begins symbol stack behind body b first tokens is operand d) =
    let known = derives_means (body ++ (behind ++ stack)) (keeps_text first.kind first.text b) tokens d in
    let begun : BegunMeans (operand_row b.opened first.kind first.line) (behind ++ stack) b first tokens known.0 = subst (λ (r : Row). BegunMeans r (behind ++ stack) b first tokens known.0) (sym operand) known.1 in
    (known.0, row_means symbol stack b first.kind first.line first.text tokens known.0 (subst (λ (r : Row). RowMeans r stack b first tokens known.0) (sym is) begun))
derives_means _ _ _ (begins_open symbol stack behind body b first tokens is operand d) =
    let known = derives_means (body ++ (behind ++ stack)) (keeps_text first.kind first.text (with_one_more b)) tokens d in
    let begun : BegunMeans (operand_row b.opened first.kind first.line) (behind ++ stack) b first tokens known.0 = subst (λ (r : Row). BegunMeans r (behind ++ stack) b first tokens known.0) (sym operand) known.1 in
    (known.0, row_means symbol stack b first.kind first.line first.text tokens known.0 (subst (λ (r : Row). RowMeans r stack b first tokens known.0) (sym is) begun))
derives_means _ _ _ (ends symbol stack action b first tokens is d) =
    let known = derives_means stack (act action b) (first ∷ tokens) d in
    (known.0, row_means symbol stack b first.kind first.line first.text tokens known.0 (subst (λ (r : Row). RowMeans r stack b first tokens known.0) (sym is) known.1))

pub derived_is_a_chunk : (tokens : List Token) → IsChunk tokens → (items : List Item) × IsChunkOf tokens items
derived_is_a_chunk tokens derived = let known = derives_means (s.Chunk ∷ []) nothing_read tokens derived in (known.0, chunk_read tokens known.0 known.1)
