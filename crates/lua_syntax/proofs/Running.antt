-- What tokens that are read give: by what they open, the items or the token that is too deep; and no other items.
use Rattle.std.proofs.Common.{◌≡◌, ℕ, suc, ◌+◌, Bool, true, false, List, [], ◌∷◌, ◌++◌, refl, ap, ◌∙◌, sym, subst, arith}
use Rattle.std.specs.Prelude.{if◌then◌else◌, nat_lt, nat_le, length, Option, Some, None, Ok, Err}
use Rattle.lua_tree.specs.declared.tree.Item.{Item}
use Rattle.lua_tokens.specs.declared.kind.Kind.TheVariants as k
use Rattle.lua_tokens.specs.declared.pieces.Token.{Token}
use Rattle.lua_grammar.specs.declared.symbol.Symbol.{Symbol}
use Rattle.lua_grammar.specs.declared.symbol.Symbol.TheVariants as s
use Rattle.lua_grammar.specs.declared.symbol.Row.{Row}
use Rattle.lua_grammar.specs.Table.{row, most_open}
use Rattle.lua_grammar.specs.Grammar.{token}
use Rattle.lua_syntax.specs.declared.building.Building.{Building}
use Rattle.lua_syntax.specs.Refusal.{TooDeep}
use Rattle.lua_syntax.specs.Building.{act}
use Rattle.lua_syntax.proofs.Derivation.{with_one_more}
use Rattle.lua_syntax.specs.Nested.{is_within, AllWithin, FirstWithin, IsFirstBeyond, answer_of}
use Rattle.lua_syntax.specs.Reading.{Reading, Step, Goes, Wrong, Deep, keeps_text, taken, opened, begun_by, step, by_step, run}
use Rattle.lua_syntax.proofs.TokensRead.{Reads, ended, takes, opens, begins, begins_open, ends, none_read}
use Rattle.lua_syntax.proofs.Stepping.{step_takes, step_opens, step_begins, step_passes}

-- ---- steps

-- the rest is read; behind the last token nothing is
abbrev pub ReadsOn : Reading → List Token → List (Option ℕ) → List Item → Type 0
ReadsOn r [] depths items = (depths ≡ []) × (r.parts.items ≡ items)
ReadsOn r (first ∷ more) depths items = Reads r.stack r.parts (first ∷ more) depths items

-- what a step leaves of tokens that are read
abbrev pub StepReads : Step → List Token → List (Option ℕ) → List Item → Type 0
StepReads found more [] items = ⊥
StepReads (Goes next) more (first ∷ depths) items = (is_within first ≡ true) × ReadsOn next more depths items
StepReads Wrong more (first ∷ depths) items = ⊥
StepReads Deep more (first ∷ depths) items = is_within first ≡ false

pub read_on : (stack : List Symbol) (b : Building) (tokens : List Token) (depths : List (Option ℕ)) (items : List Item) → Reads stack b tokens depths items → ReadsOn (record { stack = stack; parts = b }) tokens depths items
read_on stack b [] depths items h = absurd (none_read stack b depths items h)
read_on stack b (first ∷ more) depths items h = h

within_is : (n : ℕ) → nat_le (n + 1) most_open ≡ nat_lt n most_open
within_is n = let e : n + 1 ≡ suc n = omega arith in ap (λ k. nat_le k most_open) e

opened_reads : (stack : List Symbol) (token : Token) (b : Building) (more : List Token) (depths : List (Option ℕ)) (items : List Item) →
    Reads stack (keeps_text token.kind token.text (with_one_more b)) more depths items → StepReads (opened stack token b) more (Some (b.opened + 1) ∷ depths) items
opened_reads stack token b more depths items h =
    elim (nat_lt b.opened most_open) as (λ (t : Bool). nat_le (b.opened + 1) most_open ≡ t → StepReads (if t then taken stack token (with_one_more b) else Deep) more (Some (b.opened + 1) ∷ depths) items)
    [ true ↦ λ same. (same, read_on stack (keeps_text token.kind token.text (with_one_more b)) more depths items h) | false ↦ λ same. same ] (within_is b.opened)

ended_steps : (b : Building) (line : ℕ) (text : List ℕ) → StepReads (step (s.Chunk ∷ []) (token k.EndOfText line text) b) [] (None ∷ []) b.items
unfolding step row
ended_steps b line text = (refl, (refl, refl))

pub steps : (stack : List Symbol) (b : Building) (token : Token) (more : List Token) (depths : List (Option ℕ)) (items : List Item) → Reads stack b (token ∷ more) depths items → StepReads (step stack token b) more depths items
steps _ _ _ _ _ _ (ended b line text) = ended_steps b line text
steps _ _ _ _ _ _ (takes symbol stack body b token more depths items same d) =
    subst (λ (found : Step). StepReads found more (None ∷ depths) items) (step_takes (symbol ∷ stack) stack body symbol token b refl (sym same)) (refl, read_on (body ++ stack) (keeps_text token.kind token.text b) more depths items d)
steps _ _ _ _ _ _ (opens symbol stack body b token more depths items same d) =
    subst (λ (found : Step). StepReads found more (Some (b.opened + 1) ∷ depths) items) (step_opens (symbol ∷ stack) stack body symbol token b refl (sym same)) (opened_reads (body ++ stack) token b more depths items d)
steps _ _ _ _ _ _ (begins symbol stack behind body b token more depths items same operand d) =
    subst (λ (found : Step). StepReads found more (None ∷ depths) items) (ap (λ (r : Row). begun_by r (behind ++ stack) token b) (sym operand) ∙ step_begins (symbol ∷ stack) stack behind symbol token b refl (sym same))
    (refl, read_on (body ++ (behind ++ stack)) (keeps_text token.kind token.text b) more depths items d)
steps _ _ _ _ _ _ (begins_open symbol stack behind body b token more depths items same operand d) =
    subst (λ (found : Step). StepReads found more (Some (b.opened + 1) ∷ depths) items) (ap (λ (r : Row). begun_by r (behind ++ stack) token b) (sym operand) ∙ step_begins (symbol ∷ stack) stack behind symbol token b refl (sym same))
    (opened_reads (body ++ (behind ++ stack)) token b more depths items d)
steps _ _ _ _ _ _ (ends symbol stack action b token more depths items same d) =
    subst (λ (found : Step). StepReads found more depths items) (step_passes (symbol ∷ stack) stack symbol action token b refl (sym same)) (steps stack (act action b) token more depths items d)

-- ---- the answer

answer_by_step : (more : List Token) (token : Token) (depths : List (Option ℕ)) (items : List Item) → ((next : Reading) (others : List (Option ℕ)) → ReadsOn next more others items → run next more ≡ answer_of more others items) →
    (found : Step) → StepReads found more depths items → by_step found (λ (next : Reading). run next more) token.line ≡ answer_of (token ∷ more) depths items
answer_by_step more token [] items known found h = absurd h
answer_by_step more token (first ∷ depths) items known (Goes next) h =
    known next depths h.1 ∙ sym (ap (λ (t : Bool). if t then answer_of more depths items else Err (TooDeep token.line)) h.0)
answer_by_step more token (first ∷ depths) items known Wrong h = absurd h
answer_by_step more token (first ∷ depths) items known Deep h = sym (ap (λ (t : Bool). if t then answer_of more depths items else Err (TooDeep token.line)) h)

pub run_answers : (tokens : List Token) (r : Reading) (depths : List (Option ℕ)) (items : List Item) → ReadsOn r tokens depths items → run r tokens ≡ answer_of tokens depths items
unfolding run
run_answers [] r depths items h = ap (λ (found : List Item). Ok found) h.1
run_answers (token ∷ more) r depths items h = answer_by_step more token depths items (λ next others. run_answers more next others items) (step r.stack token r.parts) (steps r.stack r.parts token more depths items h)

within_by_step : (more : List Token) (token : Token) (depths : List (Option ℕ)) (items final : List Item) → ((next : Reading) (others : List (Option ℕ)) → run next more ≡ Ok final → ReadsOn next more others items → AllWithin others) →
    (found : Step) → by_step found (λ (next : Reading). run next more) token.line ≡ Ok final → StepReads found more depths items → AllWithin depths
within_by_step more token [] items final known found answer h = absurd h
within_by_step more token (first ∷ depths) items final known (Goes next) answer h = (h.0, known next depths answer h.1)
within_by_step more token (first ∷ depths) items final known Wrong answer h = absurd h
within_by_step more token (first ∷ depths) items final known Deep answer h = absurd (cc)

-- what gives items is within the bound
pub all_within : (tokens : List Token) (r : Reading) (depths : List (Option ℕ)) (items final : List Item) → run r tokens ≡ Ok final → ReadsOn r tokens depths items → AllWithin depths
unfolding run
all_within [] r depths items final answer h = subst AllWithin (sym h.0) tt
all_within (token ∷ more) r depths items final answer h = within_by_step more token depths items final (λ next others. all_within more next others items final) (step r.stack token r.parts) answer (steps r.stack r.parts token more depths items h)

-- ---- how far reading goes

-- reading goes from here, over these tokens, to there
abbrev pub Leads : Reading → List Token → Reading → Type 0
Leads r [] last = r ≡ last
Leads r (token ∷ more) last = (next : Reading) × (step r.stack token r.parts ≡ Goes next) × Leads next more last

stepped : (r next : Reading) (token : Token) (more : List Token) (depths : List (Option ℕ)) (items : List Item) → step r.stack token r.parts ≡ Goes next → Reads r.stack r.parts (token ∷ more) depths items → StepReads (Goes next) more depths items
stepped r next token more depths items led h = subst (λ (found : Step). StepReads found more depths items) led (steps r.stack r.parts token more depths items h)

-- a token that is refused isn't read
pub wrong_there : (before : List Token) (r last : Reading) (wrong : Token) (rest : List Token) (depths : List (Option ℕ)) (items : List Item) → Leads r before last → step last.stack wrong last.parts ≡ Wrong → ReadsOn r (before ++ wrong ∷ rest) depths items → ⊥
wrong_there [] r last wrong rest [] items led isnt h = steps r.stack r.parts wrong rest [] items h
wrong_there [] r last wrong rest (first ∷ depths) items led isnt h =
    subst (λ (found : Step). StepReads found rest (first ∷ depths) items) (ap (λ (at : Reading). step at.stack wrong at.parts) led ∙ isnt) (steps r.stack r.parts wrong rest (first ∷ depths) items h)
wrong_there (token ∷ before) r last wrong rest [] items led isnt h = steps r.stack r.parts token (before ++ wrong ∷ rest) [] items h
wrong_there (token ∷ before) r last wrong rest (first ∷ depths) items led isnt h =
    wrong_there before led.0 last wrong rest depths items led.2 isnt (stepped r led.0 token (before ++ wrong ∷ rest) (first ∷ depths) items led.1 h).1

-- the tokens over which reading goes are within the bound
pub first_within : (before : List Token) (r last : Reading) (rest : List Token) (depths : List (Option ℕ)) (items : List Item) → Leads r before last → ReadsOn r (before ++ rest) depths items → FirstWithin (length before) depths
first_within [] r last rest depths items led h = tt
first_within (token ∷ before) r last rest [] items led h = steps r.stack r.parts token (before ++ rest) [] items h
first_within (token ∷ before) r last rest (first ∷ depths) items led h =
    let s = stepped r led.0 token (before ++ rest) (first ∷ depths) items led.1 h in
    (s.0, first_within before led.0 last rest depths items led.2 s.1)

-- the token that is too deep is the first beyond it
pub deep_there : (before : List Token) (r last : Reading) (deep : Token) (rest : List Token) (depths : List (Option ℕ)) (items : List Item) → Leads r before last → step last.stack deep last.parts ≡ Deep → ReadsOn r (before ++ deep ∷ rest) depths items → IsFirstBeyond (length before) depths
deep_there [] r last deep rest [] items led isnt h = steps r.stack r.parts deep rest [] items h
deep_there [] r last deep rest (first ∷ depths) items led isnt h =
    subst (λ (found : Step). StepReads found rest (first ∷ depths) items) (ap (λ (at : Reading). step at.stack deep at.parts) led ∙ isnt) (steps r.stack r.parts deep rest (first ∷ depths) items h)
deep_there (token ∷ before) r last deep rest [] items led isnt h = steps r.stack r.parts token (before ++ deep ∷ rest) [] items h
deep_there (token ∷ before) r last deep rest (first ∷ depths) items led isnt h =
    let s = stepped r led.0 token (before ++ deep ∷ rest) (first ∷ depths) items led.1 h in
    (s.0, deep_there before led.0 last deep rest depths items led.2 isnt s.1)

-- ---- the same, whatever comes behind the token that is too deep

refused_by_step : (rest : List Token) (token : Token) (line : ℕ) (one : Option ℕ) (others : List (Option ℕ)) (items : List Item) (more : List Token) →
    ((next : Reading) → ReadsOn next more others items → run next rest ≡ Err (TooDeep line)) → (is_within one ≡ true) →
    (found : Step) → StepReads found more (one ∷ others) items → by_step found (λ (next : Reading). run next rest) token.line ≡ Err (TooDeep line)
refused_by_step rest token line one others items more known fine (Goes next) h = known next h.1
refused_by_step rest token line one others items more known fine Wrong h = absurd h
refused_by_step rest token line one others items more known fine Deep h = absurd (cc)

deep_by_step : (rest more : List Token) (token : Token) (one : Option ℕ) (others : List (Option ℕ)) (items : List Item) → (is_within one ≡ false) →
    (found : Step) → StepReads found more (one ∷ others) items → by_step found (λ (next : Reading). run next rest) token.line ≡ Err (TooDeep token.line)
deep_by_step rest more token one others items beyond (Goes next) h = absurd (cc)
deep_by_step rest more token one others items beyond Wrong h = absurd h
deep_by_step rest more token one others items beyond Deep h = refl

pub deep_refused : (before : List Token) (r : Reading) (deep : Token) (behind more : List Token) (depths : List (Option ℕ)) (items : List Item) → ReadsOn r (before ++ deep ∷ more) depths items →
    IsFirstBeyond (length before) depths → run r (before ++ deep ∷ behind) ≡ Err (TooDeep deep.line)
unfolding run
deep_refused before r deep behind more [] items h first = absurd first
deep_refused [] r deep behind more (one ∷ others) items h first = deep_by_step behind more deep one others items first (step r.stack deep r.parts) (steps r.stack r.parts deep more (one ∷ others) items h)
deep_refused (token ∷ before) r deep behind more (one ∷ others) items h first =
    refused_by_step (before ++ deep ∷ behind) token deep.line one others items (before ++ deep ∷ more) (λ next on. deep_refused before next deep behind more others items on first.1) first.0
    (step r.stack token r.parts) (steps r.stack r.parts token (before ++ deep ∷ more) (one ∷ others) items h)
