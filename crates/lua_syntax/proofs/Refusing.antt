-- What derives the rest behind the tokens that were read derives them all.
use Rattle.std.proofs.Common.{◌≡◌, ℕ, Bool, true, false, List, [], ◌∷◌, ◌++◌, refl, ap, sym, subst, Err}
use Rattle.std.specs.Prelude.{if◌then◌else◌, nat_lt}
use Rattle.lua_grammar.specs.declared.symbol.Symbol.{Symbol}
use Rattle.lua_grammar.specs.declared.symbol.Action.{Action}
use Rattle.lua_grammar.specs.declared.symbol.Row.{Row}
use Rattle.lua_grammar.specs.declared.symbol.Row.TheVariants.{Takes, Opens, Begins, Passes, Refuses}
use Rattle.lua_syntax.specs.declared.building.Building.{Building}
use Rattle.lua_tokens.specs.declared.pieces.Token.{Token}
use Rattle.lua_syntax.specs.Refusal.{Syntax, TooDeep}
use Rattle.lua_grammar.specs.Table.{row, operand_row, most_open}
use Rattle.lua_syntax.specs.Building.{act}
use Rattle.lua_syntax.specs.Reading.{Reading, Step, Goes, Wrong, Deep, keeps_text, taken, opened, begun_by, by_row, step, by_step, run}
use Rattle.lua_syntax.proofs.Derivation.{Derives, takes, opens, begins, begins_open, ends, with_one_more}
use Rattle.lua_syntax.proofs.Completing.{EndsInChunk}
use Rattle.lua_syntax.proofs.Stacking.{KeepsEnd, keeps_end}
use Rattle.lua_syntax.proofs.Running.{Leads}

-- what derives the rest behind a step derives all
abbrev pub Precedes : List Symbol → Building → Token → List Token → Step → Type 0
Precedes stack parts token more (Goes next) = Derives next.stack next.parts more → Derives stack parts (token ∷ more)
Precedes stack parts token more Wrong = Unit {0}
Precedes stack parts token more Deep = Unit {0}

opened_precedes : (stack body : List Symbol) (parts : Building) (token : Token) (more : List Token) →
    (Derives body (keeps_text token.kind token.text (with_one_more parts)) more → Derives stack parts (token ∷ more)) → Precedes stack parts token more (opened body token parts)
opened_precedes stack body parts token more derived =
    elim (nat_lt parts.opened most_open) as (λ (t : Bool). Precedes stack parts token more (if t then taken body token (with_one_more parts) else Deep)) [ true ↦ derived | false ↦ tt ]

begun_precedes : (symbol : Symbol) (stack behind : List Symbol) (parts : Building) (token : Token) (more : List Token) → row symbol parts.opened token.kind token.line ≡ Begins behind →
    (r : Row) → operand_row parts.opened token.kind token.line ≡ r → Precedes (symbol ∷ stack) parts token more (begun_by r (behind ++ stack) token parts)
begun_precedes symbol stack behind parts token more is (Takes body) operand = λ d. begins symbol stack behind body parts token more is operand d
begun_precedes symbol stack behind parts token more is (Opens body) operand =
    opened_precedes (symbol ∷ stack) (body ++ (behind ++ stack)) parts token more (λ d. begins_open symbol stack behind body parts token more is operand d)
begun_precedes symbol stack behind parts token more is (Begins body) operand = tt
begun_precedes symbol stack behind parts token more is (Passes action) operand = tt
begun_precedes symbol stack behind parts token more is Refuses operand = tt

ended_precedes : (symbol : Symbol) (stack : List Symbol) (action : Action) (parts : Building) (token : Token) (more : List Token) → row symbol parts.opened token.kind token.line ≡ Passes action →
    (s : Step) → Precedes stack (act action parts) token more s → Precedes (symbol ∷ stack) parts token more s
ended_precedes symbol stack action parts token more is (Goes next) known = λ d. ends symbol stack action parts token more is (known d)
ended_precedes symbol stack action parts token more is Wrong known = tt
ended_precedes symbol stack action parts token more is Deep known = tt

row_precedes : (symbol : Symbol) (stack : List Symbol) (parts : Building) (token : Token) (more : List Token) →
    ((action : Action) → Precedes stack (act action parts) token more (step stack token (act action parts))) →
    (r : Row) → row symbol parts.opened token.kind token.line ≡ r →
    Precedes (symbol ∷ stack) parts token more (by_row r (λ (action : Action). step stack token (act action parts)) stack token parts)
row_precedes symbol stack parts token more known (Takes body) is = λ d. takes symbol stack body parts token more is d
row_precedes symbol stack parts token more known (Opens body) is = opened_precedes (symbol ∷ stack) (body ++ stack) parts token more (λ d. opens symbol stack body parts token more is d)
row_precedes symbol stack parts token more known (Begins behind) is = begun_precedes symbol stack behind parts token more is (operand_row parts.opened token.kind token.line) refl
row_precedes symbol stack parts token more known (Passes action) is = ended_precedes symbol stack action parts token more is (step stack token (act action parts)) (known action)
row_precedes symbol stack parts token more known Refuses is = tt

pub precedes : (stack : List Symbol) (parts : Building) (token : Token) (more : List Token) → Precedes stack parts token more (step stack token parts)
unfolding step
precedes [] parts token more = tt
precedes (symbol ∷ stack) parts token more = row_precedes symbol stack parts token more (λ action. precedes stack (act action parts) token more) (row symbol parts.opened token.kind token.line) refl

-- ---- tokens over which reading goes

-- what comes behind them derives all
pub leads_derive : (before : List Token) (r last : Reading) (more : List Token) → Leads r before last → Derives last.stack last.parts more → Derives r.stack r.parts (before ++ more)
leads_derive [] r last more led d = subst (λ (at : Reading). Derives at.stack at.parts more) (sym led) d
leads_derive (token ∷ before) r last more led d =
    subst (λ (s : Step). Precedes r.stack r.parts token (before ++ more) s) led.1 (precedes r.stack r.parts token (before ++ more)) (leads_derive before led.0 last more led.2 d)

pub leads_end : (before : List Token) (r last : Reading) → Leads r before last → EndsInChunk r.stack → EndsInChunk last.stack
leads_end [] r last led fine = subst (λ (at : Reading). EndsInChunk at.stack) led fine
leads_end (token ∷ before) r last led fine = leads_end before led.0 last led.2 (subst KeepsEnd led.1 (keeps_end r.stack token r.parts fine))

-- where a token is refused so
pub record RefusedAt (r : Reading) (tokens : List Token) (how : Step) (line : ℕ) : Type 0 where
  pub before : List Token
  pub refused : Token
  pub behind : List Token
  pub last : Reading
  pub split : tokens ≡ before ++ refused ∷ behind
  pub on : line ≡ refused.line
  pub led : Leads r before last
  pub is : step last.stack refused last.parts ≡ how

later : (r next : Reading) (token : Token) (tokens : List Token) (how : Step) (line : ℕ) → step r.stack token r.parts ≡ Goes next → RefusedAt next tokens how line → RefusedAt r (token ∷ tokens) how line
later r next token tokens how line led at = record {
  before = token ∷ at.before;
  refused = at.refused;
  behind = at.behind;
  last = at.last;
  split = ap (λ (rest : List Token). token ∷ rest) at.split;
  on = at.on;
  led = (next, led, at.led);
  is = at.is;
}

here : (r : Reading) (token : Token) (tokens : List Token) (how : Step) (line : ℕ) → line ≡ token.line → step r.stack token r.parts ≡ how → RefusedAt r (token ∷ tokens) how line
here r token tokens how line on is = record { before = []; refused = token; behind = tokens; last = r; split = refl; on = on; led = refl; is = is }

wrong_by_step : (tokens : List Token) (r : Reading) (token : Token) (line : ℕ) → ((next : Reading) → run next tokens ≡ Err (Syntax line) → RefusedAt next tokens Wrong line) →
    (found : Step) → step r.stack token r.parts ≡ found → by_step found (λ (next : Reading). run next tokens) token.line ≡ Err (Syntax line) → RefusedAt r (token ∷ tokens) Wrong line
wrong_by_step tokens r token line known (Goes next) led answer = later r next token tokens Wrong line led (known next answer)
wrong_by_step tokens r token line known Wrong led answer = here r token tokens Wrong line (cc) led
wrong_by_step tokens r token line known Deep led answer = absurd (cc)

pub wrong_at : (tokens : List Token) (r : Reading) (line : ℕ) → run r tokens ≡ Err (Syntax line) → RefusedAt r tokens Wrong line
unfolding run
wrong_at [] r line answer = absurd (cc)
wrong_at (token ∷ tokens) r line answer = wrong_by_step tokens r token line (λ next. wrong_at tokens next line) (step r.stack token r.parts) refl answer

deep_by_step : (tokens : List Token) (r : Reading) (token : Token) (line : ℕ) → ((next : Reading) → run next tokens ≡ Err (TooDeep line) → RefusedAt next tokens Deep line) →
    (found : Step) → step r.stack token r.parts ≡ found → by_step found (λ (next : Reading). run next tokens) token.line ≡ Err (TooDeep line) → RefusedAt r (token ∷ tokens) Deep line
deep_by_step tokens r token line known (Goes next) led answer = later r next token tokens Deep line led (known next answer)
deep_by_step tokens r token line known Wrong led answer = absurd (cc)
deep_by_step tokens r token line known Deep led answer = here r token tokens Deep line (cc) led

pub deep_at : (tokens : List Token) (r : Reading) (line : ℕ) → run r tokens ≡ Err (TooDeep line) → RefusedAt r tokens Deep line
unfolding run
deep_at [] r line answer = absurd (cc)
deep_at (token ∷ tokens) r line answer = deep_by_step tokens r token line (λ next. deep_at tokens next line) (step r.stack token r.parts) refl answer
