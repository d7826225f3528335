-- What stays sound.
use Rattle.std.proofs.Common.{◌≡◌, ℕ, ◌-◌, List, [], ◌∷◌, length, drop, sym, ap, ◌∙◌}
use Rattle.std.specs.List.{All}
use Rattle.rand_pcg.specs.Lcg.{Lcg}
use Rattle.lua_store.specs.declared.value.SmallValue.{SmallValue}
use Rattle.lua_store.specs.Values.{IsHeld}
use Rattle.lua_store.specs.Rows.{AreHeld, Cells}
use Rattle.lua_state.specs.declared.held.HeldState.{HeldState}
use Rattle.lua_state.specs.declared.variables.Variable.{Variable}
use Rattle.lua_state.specs.Variables.{variable_of, variables_of}
use Rattle.lua_state.specs.Held.{IsSound, state_of, store_of}
use Rattle.lua_state.specs.Store.{in_state}
use Rattle.lua_machine.specs.Turn.{cut_to}
use Rattle.std.proofs.lemmas.List.{length-map, drop-map}
use Rattle.lua_state.specs.Stacks.{below}
use Rattle.lua_state.proofs.Growing.{rest_of}

pub all_below : {X : Type 0} (P : X → Type 0) (xs : List X) → All P xs → All P (below xs)
all_below P [] all = all
all_below P (x ∷ xs) all = rest_of P x xs all

pub with_values : (h : HeldState) (values : List SmallValue) → IsSound h → All (IsHeld h.texts) values → IsSound (record h { values = values })
with_values h values sound held = record { apart = sound.apart; values = held; locals = sound.locals; callers = sound.callers; globals = sound.globals; tables = sound.tables }

pub with_tables : (h : HeldState) (tables : List Cells) → IsSound h → All (AreHeld h.texts) tables → IsSound (record h { tables = tables })
with_tables h tables sound held = record { apart = sound.apart; values = sound.values; locals = sound.locals; callers = sound.callers; globals = sound.globals; tables = held }

pub with_generator : (h : HeldState) (generator : Lcg) → IsSound h → IsSound (record h { generator = generator })
with_generator h generator sound = record { apart = sound.apart; values = sound.values; locals = sound.locals; callers = sound.callers; globals = sound.globals; tables = sound.tables }

-- the locals of a block go
pub cut_held : (h : HeldState) (outer : ℕ) (locals : List Variable) → locals ≡ drop (length h.locals.running - outer) h.locals.running → store_of (record h { locals = record h.locals { running = locals } }) ≡ in_state (cut_to outer (state_of h)) (store_of h)
cut_held h outer locals is =
    let many : length (variables_of h.texts h.locals.running) - outer ≡ length h.locals.running - outer = ap (λ n. n - outer) (length-map h.locals.running (variable_of h.texts)) in
    let now : variables_of h.texts locals ≡ drop (length (variables_of h.texts h.locals.running) - outer) (variables_of h.texts h.locals.running) =
    ap (variables_of h.texts) is ∙ sym (drop-map (variable_of h.texts) (length h.locals.running - outer) h.locals.running) ∙ ap (λ n. drop n (variables_of h.texts h.locals.running)) (sym many) in
    λ j. record (store_of h) { state = record (state_of h) { locals = now j } }
