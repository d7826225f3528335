-- What each text gives, by the grammar.
use Rattle.std.proofs.Common.{◌≡◌, ℕ, Bool, true, false, List, [], ◌∷◌, ◌++◌, refl, ap, ◌∙◌, sym, subst, append_assoc}
use Rattle.std.specs.Prelude.{if◌then◌else◌, nat_lt, length, Result, Ok, Err}
use Rattle.lua_tree.specs.declared.tree.Item.{Item}
use Rattle.lua_tokens.specs.declared.kind.Kind.{Kind}
use Rattle.lua_tokens.specs.declared.kind.Kind.TheVariants as k
use Rattle.lua_grammar.specs.declared.symbol.Action.{Action}
use Rattle.lua_grammar.specs.declared.symbol.Symbol.{Symbol}
use Rattle.lua_grammar.specs.declared.symbol.Symbol.TheVariants as s
use Rattle.lua_grammar.specs.declared.symbol.Row.{Row}
use Rattle.lua_grammar.specs.declared.symbol.Row.TheVariants.{Takes, Opens, Begins, Passes, Refuses}
use Rattle.lua_syntax.specs.declared.building.Building.{Building}
use Rattle.lua_tokens.specs.declared.pieces.Token.{Token}
use Rattle.lua_syntax.specs.Refusal.{LuaRefusal, Syntax, TooDeep}
use Rattle.lua_grammar.specs.Table.{row, operand_row, most_open}
use Rattle.lua_syntax.specs.Building.{act, nothing_read}
use Rattle.lua_tokens.specs.Tokens.{tokens}
use Rattle.lua_syntax.specs.Reading.{Reading, Step, Goes, Wrong, Deep, keeps_text, taken, opened, begun_by, by_row, step, run, tree_of}
use Rattle.lua_syntax.proofs.Derivation.{Derives, opens, begins_open, ends, with_one_more}
use Rattle.lua_syntax.specs.Language.{IsAnswer, IsFirstWrong, IsFirstDeep}
use Rattle.lua_syntax.proofs.Completing.{EndsInChunk, completed}
use Rattle.lua_syntax.proofs.Stacking.{are_parts, leaves_parts, row_parts, operand_parts, ends_above, above_both}
use Rattle.lua_syntax.proofs.Refusing.{leads_derive, leads_end, wrong_at, deep_at}
use Rattle.lua_syntax.proofs.Running.{ReadsOn, read_on, run_answers, all_within, wrong_there, first_within, deep_there, deep_refused}
use Rattle.lua_syntax.proofs.OneTree.{chunk_reads}
use Rattle.lua_syntax.proofs.Sound.{read_texts_are_chunks, derived_is_a_chunk}
use Rattle.lua_grammar.specs.Grammar.{IsChunkOf}
use Rattle.lua_grammar.specs.Nesting.{opened_by}
use Rattle.lua_syntax.specs.Nested.{AllWithin, IsFirstBeyond, answer_of}

-- ---- a token that is too deep

-- where one too many is open, something can come behind the token
abbrev pub DeepGoesOn : List Symbol → Building → Token → Step → Type 0
DeepGoesOn stack parts token (Goes next) = Unit {0}
DeepGoesOn stack parts token Wrong = Unit {0}
DeepGoesOn stack parts token Deep = (more : List Token) × Derives stack parts (token ∷ more)

opened_deep : (stack body : List Symbol) (parts : Building) (token : Token) →
    ((more : List Token) → Derives body (keeps_text token.kind token.text (with_one_more parts)) more → Derives stack parts (token ∷ more)) → EndsInChunk body →
    DeepGoesOn stack parts token (opened body token parts)
opened_deep stack body parts token derived fine =
    let c = completed body (keeps_text token.kind token.text (with_one_more parts)) fine in
    elim (nat_lt parts.opened most_open) as (λ (t : Bool). DeepGoesOn stack parts token (if t then taken body token (with_one_more parts) else Deep)) [ true ↦ tt | false ↦ (c.0, derived c.0 c.1) ]

begun_deep : (symbol next : Symbol) (stack behind : List Symbol) (parts : Building) (token : Token) → row symbol parts.opened token.kind token.line ≡ Begins behind →
    are_parts behind ≡ true → EndsInChunk (next ∷ stack) → (r : Row) → operand_row parts.opened token.kind token.line ≡ r → leaves_parts r ≡ true →
    DeepGoesOn (symbol ∷ next ∷ stack) parts token (begun_by r (behind ++ next ∷ stack) token parts)
begun_deep symbol next stack behind parts token is behind_parts fine (Takes body) operand body_parts = tt
begun_deep symbol next stack behind parts token is behind_parts fine (Opens body) operand body_parts =
    opened_deep (symbol ∷ next ∷ stack) (body ++ (behind ++ next ∷ stack)) parts token (λ more d. begins_open symbol (next ∷ stack) behind body parts token more is operand d)
    (above_both body behind next stack body_parts behind_parts fine)
begun_deep symbol next stack behind parts token is behind_parts fine (Begins body) operand body_parts = tt
begun_deep symbol next stack behind parts token is behind_parts fine (Passes action) operand body_parts = tt
begun_deep symbol next stack behind parts token is behind_parts fine Refuses operand body_parts = tt

ended_deep : (symbol : Symbol) (stack : List Symbol) (action : Action) (parts : Building) (token : Token) → row symbol parts.opened token.kind token.line ≡ Passes action →
    (s : Step) → DeepGoesOn stack (act action parts) token s → DeepGoesOn (symbol ∷ stack) parts token s
ended_deep symbol stack action parts token is (Goes next) known = tt
ended_deep symbol stack action parts token is Wrong known = tt
ended_deep symbol stack action parts token is Deep known = (known.0, ends symbol stack action parts token known.0 is known.1)

row_deep : (symbol next : Symbol) (stack : List Symbol) (parts : Building) (token : Token) → EndsInChunk (next ∷ stack) →
    ((action : Action) → DeepGoesOn (next ∷ stack) (act action parts) token (step (next ∷ stack) token (act action parts))) →
    (r : Row) → row symbol parts.opened token.kind token.line ≡ r → leaves_parts r ≡ true →
    DeepGoesOn (symbol ∷ next ∷ stack) parts token (by_row r (λ (action : Action). step (next ∷ stack) token (act action parts)) (next ∷ stack) token parts)
row_deep symbol next stack parts token fine known (Takes body) is leaves = tt
row_deep symbol next stack parts token fine known (Opens body) is leaves =
    opened_deep (symbol ∷ next ∷ stack) (body ++ next ∷ stack) parts token (λ more d. opens symbol (next ∷ stack) body parts token more is d) (ends_above body next stack leaves fine)
row_deep symbol next stack parts token fine known (Begins behind) is leaves =
    begun_deep symbol next stack behind parts token is leaves fine (operand_row parts.opened token.kind token.line) refl (operand_parts parts.opened token.kind token.line)
row_deep symbol next stack parts token fine known (Passes action) is leaves =
    ended_deep symbol (next ∷ stack) action parts token is (step (next ∷ stack) token (act action parts)) (known action)
row_deep symbol next stack parts token fine known Refuses is leaves = tt

chunk_deep : (kind : Kind) (line : ℕ) (text : List ℕ) (parts : Building) →
    DeepGoesOn (s.Chunk ∷ []) parts (record { kind = kind; line = line; text = text }) (step (s.Chunk ∷ []) (record { kind = kind; line = line; text = text }) parts)
unfolding step row
chunk_deep k.Function line text parts = tt
chunk_deep (k.Name role) line text parts = tt
chunk_deep k.EndOfText line text parts = tt
chunk_deep _ line text parts = tt

deep_goes_on : (stack : List Symbol) (token : Token) (parts : Building) → EndsInChunk stack → DeepGoesOn stack parts token (step stack token parts)
unfolding step
deep_goes_on [] token parts fine = tt
deep_goes_on (symbol ∷ []) token parts fine =
    subst (λ (first : Symbol). DeepGoesOn (first ∷ []) parts token (step (first ∷ []) token parts)) (sym fine) (chunk_deep token.kind token.line token.text parts)
deep_goes_on (symbol ∷ next ∷ stack) token parts fine =
    row_deep symbol next stack parts token fine.1 (λ action. deep_goes_on (next ∷ stack) token (act action parts) fine.1)
    (row symbol parts.opened token.kind token.line) refl (row_parts symbol parts.opened token.kind token.line fine.0)

-- ---- what a text gives

-- where reading starts
abbrev start : Reading
start = record { stack = s.Chunk ∷ []; parts = nothing_read }

chunk_on : (tokens : List Token) (items : List Item) (chunk : IsChunkOf tokens items) → ReadsOn start tokens (opened_by chunk) items
chunk_on tokens items chunk = read_on (s.Chunk ∷ []) nothing_read tokens (opened_by chunk) items (chunk_reads tokens items chunk)

read_answer : (text : List ℕ) (items : List Item) → tree_of text ≡ Ok items → (chunk : IsChunkOf (tokens text) items) → (one : IsChunkOf (tokens text) items) × AllWithin (opened_by one)
unfolding tree_of
read_answer text items answer chunk = (chunk, all_within (tokens text) start (opened_by chunk) items items answer (chunk_on (tokens text) items chunk))

wrong_answer : (all : List Token) (line : ℕ) → run start all ≡ Err (Syntax line) → (wrong : Token) × (line ≡ wrong.line) × IsFirstWrong all wrong
wrong_answer all line answer =
    let at = wrong_at all start line answer in
    let c = completed at.last.stack at.last.parts (leads_end at.before start at.last at.led refl) in
    let g = derived_is_a_chunk (at.before ++ c.0) (leads_derive at.before start at.last c.0 at.led c.1) in (
      at.refused,
      at.on,
      record {
        before = at.before;
        behind = at.behind;
        split = at.split;
        more = c.0;
        items = g.0;
        chunk = g.1;
        within = first_within at.before start at.last c.0 (opened_by g.1) g.0 at.led (chunk_on (at.before ++ c.0) g.0 g.1);
        stops = λ others.
            let chunk = subst (λ (ts : List Token). IsChunkOf ts others.1) (append_assoc at.before (at.refused ∷ []) others.0) others.2 in
            wrong_there at.before start at.last at.refused others.0 (opened_by chunk) others.1 at.led at.is (chunk_on (at.before ++ at.refused ∷ others.0) others.1 chunk);
      },
    )

deep_answer : (all : List Token) (line : ℕ) → run start all ≡ Err (TooDeep line) → (deep : Token) × (line ≡ deep.line) × IsFirstDeep all deep
deep_answer all line answer =
    let at = deep_at all start line answer in
    let c = subst (λ (found : Step). DeepGoesOn at.last.stack at.last.parts at.refused found) at.is (deep_goes_on at.last.stack at.refused at.last.parts (leads_end at.before start at.last at.led refl)) in
    let g = derived_is_a_chunk (at.before ++ at.refused ∷ c.0) (leads_derive at.before start at.last (at.refused ∷ c.0) at.led c.1) in (
      at.refused,
      at.on,
      record {
        before = at.before;
        behind = at.behind;
        split = at.split;
        more = c.0;
        items = g.0;
        chunk = g.1;
        first = deep_there at.before start at.last at.refused c.0 (opened_by g.1) g.0 at.led at.is (chunk_on (at.before ++ at.refused ∷ c.0) g.0 g.1);
      },
    )

by_answer : (text : List ℕ) (answer : Result (List Item) LuaRefusal) → tree_of text ≡ answer → IsAnswer (tokens text) answer
unfolding tree_of
by_answer text (Ok items) is = read_answer text items is (read_texts_are_chunks text items is)
by_answer text (Err (Syntax line)) is = wrong_answer (tokens text) line is
by_answer text (Err (TooDeep line)) is = deep_answer (tokens text) line is

pub texts_answer : (text : List ℕ) → IsAnswer (tokens text) (tree_of text)
texts_answer text = by_answer text (tree_of text) refl

pub chunks_are_read : (text : List ℕ) (items : List Item) (chunk : IsChunkOf (tokens text) items) → tree_of text ≡ answer_of (tokens text) (opened_by chunk) items
unfolding tree_of
chunks_are_read text items chunk = run_answers (tokens text) start (opened_by chunk) items (chunk_on (tokens text) items chunk)

pub deep_texts_are_refused : (text : List ℕ) (before behind more : List Token) (deep : Token) (items : List Item) (chunk : IsChunkOf (before ++ deep ∷ more) items) →
    tokens text ≡ before ++ deep ∷ behind → IsFirstBeyond (length before) (opened_by chunk) → tree_of text ≡ Err (TooDeep deep.line)
unfolding tree_of
deep_texts_are_refused text before behind more deep items chunk same first =
    ap (run start) same ∙ deep_refused before start deep behind more (opened_by chunk) items (chunk_on (before ++ deep ∷ more) items chunk) first
