-- What is made of the newest values, by what is held.
use Rattle.std.proofs.Common.{◌≡◌, ℕ, Bool, true, false, cond, List, [], ◌∷◌, ◌++◌, map, drop, take, reverse, refl, sym, ap, subst, ◌∙◌, Result, Ok, Err, arith}
use Rattle.std.proofs.lemmas.List.{take-map, drop-map, map-append}
use Rattle.lua_machine.specs.Value.{LuaValue, Nil, Truth, Number, Text, Table, Fault, TypeFault, is_key}
use Rattle.lua_machine.specs.Tables.{at_key, row}
use Rattle.lua_machine.specs.State.{State, Done, gives, fails}
use Rattle.lua_machine.specs.declared.error.LuaError.{LuaError}
use Rattle.lua_machine.specs.declared.error.LuaError.TheVariants as e
use Rattle.lua_store.specs.declared.value.SmallValue.{SmallValue}
use Rattle.lua_store.specs.Values.{Texts, IsHeld, meant}
use Rattle.lua_store.specs.Rows.{Cells, tables_of}
use Rattle.lua_state.specs.declared.held.HeldState.{HeldState}
use Rattle.lua_state.specs.Held.{state_of, store_of}
use Rattle.lua_operations.specs.Results.{Comes, Makes}
use Rattle.lua_state.specs.Store.{Store, Refuses, parts, pushed, in_state, with_made, with_done, with_ended, without}
use Rattle.lua_tree.specs.declared.tree.UnaryOp.{UnaryOp}
use Rattle.lua_tree.specs.declared.tree.BinaryOp.{BinaryOp}
use Rattle.lua_machine.specs.Yields.{unary_result, binary_result, floor_result, indexed}
use Rattle.std.specs.Prelude.{IfOk}
use Rattle.std.specs.List.{All}
use Rattle.std.proofs.lemmas.List.Elements.{All-append, All-take}
use Rattle.lua_state.proofs.Orders.{reverse_seam}
use Rattle.lua_state.proofs.Growing.{rest_of, first_of_all, one_more}

reverse_map : {X Y : Type 0} (f : X → Y) (xs : List X) → reverse (map f xs) ≡ map f (reverse xs)
reverse_map f [] = refl
reverse_map f (x ∷ xs) =
    reverse_seam [] (f x) (map f xs) ∙ ap (λ ys. ys ++ f x ∷ []) (reverse_map f xs) ∙ sym (map-append f (reverse xs) (x ∷ [])) ∙ ap (map f) (sym (reverse_seam [] x xs))

-- the parts are what the newest values stand for
pub parts_held : (h : HeldState) (count : ℕ) → parts count (store_of h) ≡ map (meant h.texts) (reverse (take count h.values))
parts_held h count = ap reverse (take-map (meant h.texts) count h.values) ∙ reverse_map (meant h.texts) (take count h.values)

-- what comes of the held values comes of the parts
pub of_parts : (h : HeldState) (count : ℕ) (make : List LuaValue → State → Done LuaValue) (value : Result SmallValue LuaError) (values : List SmallValue) → values ≡ reverse (take count h.values) →
    Comes h.texts value (make (map (meant h.texts) values) (state_of h)).outcome → Comes h.texts value (make (parts count (store_of h)) (state_of h)).outcome
of_parts h count make value values is comes =
    let same : map (meant h.texts) values ≡ parts count (store_of h) = ap (map (meant h.texts)) is ∙ sym (parts_held h count) in
    subst (λ (vs : List LuaValue). Comes h.texts value (make vs (state_of h)).outcome) same comes

-- a value in place of the newest so many
pub replaced : (h : HeldState) (count : ℕ) (value : SmallValue) → store_of (record h { values = value ∷ drop count h.values }) ≡ pushed (meant h.texts value) (without count (store_of h))
replaced h count value =
    let others = sym (drop-map (meant h.texts) count h.values) in
    λ j. record (store_of h) { values = meant h.texts value ∷ others j }

-- what was made
pub made : (done : Done LuaValue) (store now : Store) (value : LuaValue) → done.outcome ≡ Ok value → done.state ≡ store.state → now ≡ pushed value store → with_done done store ≡ Ok now
made done store now value is same e =
    ap (λ outcome. with_made outcome done.state store) is ∙ ap (λ state. let whole : Result Store Fault = Ok (pushed value (in_state state store)) in whole) same ∙ ap Ok (sym e)

pub not_made : (why : LuaError) (done : Done LuaValue) (store : Store) → Refuses why done.outcome → Refuses why (with_done done store)
not_made (e.TypeFault line) done store is = ap (λ outcome. with_made outcome done.state store) is
not_made (e.UnknownName line) done store is = ap (λ outcome. with_made outcome done.state store) is
not_made (e.Inexact line) done store is = ap (λ outcome. with_made outcome done.state store) is
not_made (e.OutOfRange line) done store is = ap (λ outcome. with_made outcome done.state store) is
not_made (e.LongString line) done store is = ap (λ outcome. with_made outcome done.state store) is
not_made (e.TooDeepCalls line) done store is = ap (λ outcome. with_made outcome done.state store) is
not_made e.Budget done store is = is
not_made e.NoMemory done store is = tt

-- what was made is held
pub is_held : (texts : Texts) (value : Result SmallValue LuaError) (wanted : Result LuaValue Fault) → Comes texts value wanted → IfOk value (λ v. IsHeld texts v)
is_held texts (Ok value) wanted comes = comes.1
is_held texts (Err why) wanted comes = tt

-- operators change no state
pub unary_state : (op : UnaryOp) (line : ℕ) (values : List LuaValue) (state : State) → (unary_result op line values state).state ≡ state
unary_state op line [] state = refl
unary_state op line (a ∷ []) state = refl
unary_state op line (a ∷ b ∷ values) state = refl

pub binary_state : (op : BinaryOp) (line : ℕ) (values : List LuaValue) (state : State) → (binary_result op line values state).state ≡ state
binary_state op line [] state = refl
binary_state op line (a ∷ []) state = refl
binary_state op line (a ∷ b ∷ []) state = refl
binary_state op line (a ∷ b ∷ c ∷ values) state = refl

pub floor_state : (line : ℕ) (values : List LuaValue) (state : State) → (floor_result line values state).state ≡ state
floor_state line [] state = refl
floor_state line (a ∷ []) state = refl
floor_state line (a ∷ b ∷ []) state = refl
floor_state line (a ∷ b ∷ c ∷ values) state = refl

pub indexed_state : (line : ℕ) (values : List LuaValue) (state : State) → (indexed line values state).state ≡ state
indexed_state line [] state = refl
indexed_state line (a ∷ []) state = by a
  where
    by : (a : LuaValue) → (indexed line (a ∷ []) state).state ≡ state
    by Nil = refl
    by (Truth b) = refl
    by (Number n) = refl
    by (Text bytes) = refl
    by (Table at) = refl
indexed_state line (a ∷ key ∷ []) state = by a
  where
    if_key : (at : ℕ) (b : Bool) → (cond b (gives (at_key (row state.tables at) key) state) (fails (TypeFault line) state)).state ≡ state
    if_key at true = refl
    if_key at false = refl

    by : (a : LuaValue) → (indexed line (a ∷ key ∷ []) state).state ≡ state
    by Nil = refl
    by (Truth b) = refl
    by (Number n) = refl
    by (Text bytes) = refl
    by (Table at) = if_key at (is_key key)
indexed_state line (a ∷ b ∷ c ∷ values) state = by a
  where
    by : (a : LuaValue) → (indexed line (a ∷ b ∷ c ∷ values) state).state ≡ state
    by Nil = refl
    by (Truth t) = refl
    by (Number n) = refl
    by (Text bytes) = refl
    by (Table at) = refl

-- what holds of what the newest values stand for holds of the parts
pub at_parts : (P : List LuaValue → Type 0) (h : HeldState) (count : ℕ) (values : List SmallValue) → values ≡ reverse (take count h.values) → P (map (meant h.texts) values) → P (parts count (store_of h))
at_parts P h count values is holds =
    let same : map (meant h.texts) values ≡ parts count (store_of h) = ap (map (meant h.texts)) is ∙ sym (parts_held h count) in
    subst P same holds

all_reversed : {X : Type 0} (P : X → Type 0) (xs : List X) → All P xs → All P (reverse xs)
all_reversed P [] all = all
all_reversed P (x ∷ xs) all =
    subst (All P) (sym (reverse_seam [] x xs)) (All-append P (reverse xs) (x ∷ []) (all_reversed P xs (rest_of P x xs all)) (one_more P x [] (first_of_all P x xs all) (λ k d h. absurd (omega (arith, h)))))

-- the newest values are held
pub parts_are_held : (h : HeldState) (count : ℕ) (values : List SmallValue) → All (IsHeld h.texts) h.values → values ≡ reverse (take count h.values) → All (IsHeld h.texts) values
parts_are_held h count values all is = subst (All (IsHeld h.texts)) (sym is) (all_reversed (IsHeld h.texts) (take count h.values) (All-take (IsHeld h.texts) count h.values all))

-- values were put into tables
pub put_done : (h : HeldState) (count : ℕ) (values : List SmallValue) (tables : List Cells) → values ≡ drop count h.values →
    store_of (record h { values = values; tables = tables }) ≡ in_state (record (state_of h) { tables = tables_of h.texts tables }) (without count (store_of h))
put_done h count values tables is =
    let others : map (meant h.texts) values ≡ drop count (map (meant h.texts) h.values) = ap (map (meant h.texts)) is ∙ sym (drop-map (meant h.texts) count h.values) in
    λ j. record (store_of h) { values = others j; state = record (state_of h) { tables = tables_of h.texts tables } }

pub not_put : (why : LuaError) (wanted : Result State Fault) (store : Store) → Refuses why wanted → Refuses why (with_ended wanted store)
not_put (e.TypeFault line) wanted store is = ap (λ r. with_ended r store) is
not_put (e.UnknownName line) wanted store is = ap (λ r. with_ended r store) is
not_put (e.Inexact line) wanted store is = ap (λ r. with_ended r store) is
not_put (e.OutOfRange line) wanted store is = ap (λ r. with_ended r store) is
not_put (e.LongString line) wanted store is = ap (λ r. with_ended r store) is
not_put (e.TooDeepCalls line) wanted store is = ap (λ r. with_ended r store) is
not_put e.Budget wanted store is = is
not_put e.NoMemory wanted store is = tt

-- a value that was made with another state behind it
pub made_with : (texts : Texts) (value : SmallValue) (now : State) (done : Done LuaValue) (store after : Store) → Makes texts (Ok value) now done → after ≡ pushed (meant texts value) (in_state now store) → with_done done store ≡ Ok after
made_with texts value now done store after makes is =
    ap (λ (d : Done LuaValue). with_done d store) makes.0 ∙ ap Ok (sym is)
