-- The step of a stack, by the row of its top.
use Rattle.std.proofs.Common.{◌≡◌, List, [], ◌∷◌, ◌++◌, ap, ◌∙◌, sym, Err}
use Rattle.lua_grammar.specs.declared.symbol.Action.{Action}
use Rattle.lua_grammar.specs.declared.symbol.Symbol.{Symbol}
use Rattle.lua_grammar.specs.declared.symbol.Row.{Row}
use Rattle.lua_grammar.specs.declared.symbol.Row.TheVariants.{Takes, Opens, Begins, Passes, Refuses}
use Rattle.lua_syntax.specs.declared.building.Building.{Building}
use Rattle.lua_tokens.specs.declared.pieces.Token.{Token}
use Rattle.lua_syntax.specs.Refusal.{Syntax, TooDeep}
use Rattle.lua_grammar.specs.Table.{row}
use Rattle.lua_syntax.specs.Building.{act}
use Rattle.lua_syntax.specs.Reading.{Reading, Step, Goes, Wrong, Deep, taken, opened, begun, by_row, by_step, step, run}

pub step_takes : (stack rest body : List Symbol) (symbol : Symbol) (token : Token) (parts : Building) → stack ≡ symbol ∷ rest → Takes body ≡ row symbol parts.opened token.kind token.line → taken (body ++ rest) token parts ≡ step stack token parts
unfolding step
step_takes stack rest body symbol token parts is known =
    ap (λ (r : Row). by_row r (λ (action : Action). step rest token (act action parts)) rest token parts) known ∙ ap (λ (s : List Symbol). step s token parts) (sym is)

pub step_opens : (stack rest body : List Symbol) (symbol : Symbol) (token : Token) (parts : Building) → stack ≡ symbol ∷ rest → Opens body ≡ row symbol parts.opened token.kind token.line → opened (body ++ rest) token parts ≡ step stack token parts
unfolding step
step_opens stack rest body symbol token parts is known =
    ap (λ (r : Row). by_row r (λ (action : Action). step rest token (act action parts)) rest token parts) known ∙ ap (λ (s : List Symbol). step s token parts) (sym is)

pub step_begins : (stack rest behind : List Symbol) (symbol : Symbol) (token : Token) (parts : Building) → stack ≡ symbol ∷ rest → Begins behind ≡ row symbol parts.opened token.kind token.line → begun (behind ++ rest) token parts ≡ step stack token parts
unfolding step
step_begins stack rest behind symbol token parts is known =
    ap (λ (r : Row). by_row r (λ (action : Action). step rest token (act action parts)) rest token parts) known ∙ ap (λ (s : List Symbol). step s token parts) (sym is)

pub step_passes : (stack rest : List Symbol) (symbol : Symbol) (action : Action) (token : Token) (parts : Building) → stack ≡ symbol ∷ rest → Passes action ≡ row symbol parts.opened token.kind token.line → step rest token (act action parts) ≡ step stack token parts
unfolding step
step_passes stack rest symbol action token parts is known =
    ap (λ (r : Row). by_row r (λ (action : Action). step rest token (act action parts)) rest token parts) known ∙ ap (λ (s : List Symbol). step s token parts) (sym is)

pub step_refuses : (stack rest : List Symbol) (symbol : Symbol) (token : Token) (parts : Building) → stack ≡ symbol ∷ rest → Refuses ≡ row symbol parts.opened token.kind token.line → Wrong ≡ step stack token parts
unfolding step
step_refuses stack rest symbol token parts is known =
    ap (λ (r : Row). by_row r (λ (action : Action). step rest token (act action parts)) rest token parts) known ∙ ap (λ (s : List Symbol). step s token parts) (sym is)

pub step_empty : (stack : List Symbol) (token : Token) (parts : Building) → stack ≡ [] → Wrong ≡ step stack token parts
unfolding step
step_empty stack token parts is = ap (λ (s : List Symbol). step s token parts) (sym is)

-- what comes behind a token, by its step
pub run_goes : (stack : List Symbol) (parts : Building) (token : Token) (next : Reading) (more : List Token) → step stack token parts ≡ Goes next →
    run (record { stack = stack; parts = parts }) (token ∷ more) ≡ run next more
unfolding run
run_goes stack parts token next more is = ap (λ (s : Step). by_step s (λ (r : Reading). run r more) token.line) is

pub run_wrong : (stack : List Symbol) (parts : Building) (token : Token) (more : List Token) → step stack token parts ≡ Wrong →
    run (record { stack = stack; parts = parts }) (token ∷ more) ≡ Err (Syntax token.line)
unfolding run
run_wrong stack parts token more is = ap (λ (s : Step). by_step s (λ (r : Reading). run r more) token.line) is

pub run_deep : (stack : List Symbol) (parts : Building) (token : Token) (more : List Token) → step stack token parts ≡ Deep →
    run (record { stack = stack; parts = parts }) (token ∷ more) ≡ Err (TooDeep token.line)
unfolding run
run_deep stack parts token more is = ap (λ (s : Step). by_step s (λ (r : Reading). run r more) token.line) is
