-- Tokens from a place on.
use Rattle.std.proofs.Common.{◌≡◌, ℕ, zero, suc, ◌+◌, ◌-◌, ◌<◌, ◌≤◌, Bool, true, false, cond, List, [], ◌∷◌, ◌++◌, length, take, drop, refl, ap, subst, ◌∙◌, sym, arith}
use Rattle.std.specs.Prelude.{if◌then◌else◌, ◌==◌}
use Rattle.std.proofs.lemmas.Grind.{common_steps}
use Rattle.std.proofs.lemmas.List.{drop-drop}
use Rattle.std.proofs.lemmas.List.Sums.{sum_by-cons}
use Rattle.lua_tokens.specs.declared.pieces.Piece.{Piece}
use Rattle.lua_tokens.specs.declared.pieces.Token.{Token}
use Rattle.lua_syntax.specs.declared.building.Building.{Building}
use Rattle.lua_grammar.specs.declared.symbol.Symbol.{Symbol}
use Rattle.lua_syntax.specs.declared.error.LuaSyntax.{LuaSyntax}
use Rattle.lua_tokens.specs.Tokens.{piece, cut, line_ends, onto_tokens, is_blank}
use Rattle.lua_syntax.specs.Reading.{run}
use Rattle.lua_syntax.specs.Refusal.{IsRefused}
use Rattle.lua_syntax.specs.Steps.{LeadsTo, FailsAt, AllLeadTo, AllFailAt}

stepped : (t : Bool) (before more : ℕ) → (if t then suc before else before) + more ≡ before + (cond t 1 0 + more)
stepped true before more = omega arith
stepped false before more = omega arith

counted : (b before : ℕ) (z : List ℕ) → (if b == 10 then suc before else before) + line_ends z ≡ before + line_ends (b ∷ z)
counted b before z = stepped (b == 10) before (line_ends z) ∙ ap (λ n. before + n) (sym (sum_by-cons (λ b. cond (b == 10) 1 0) b z))

cut_inside : (n before : ℕ) (z : List ℕ) → cut n before z ≡ cut 0 (before + line_ends (take n z)) (drop n z)
cut_inside zero before z = let none : before + 0 ≡ before = omega arith in sym (ap (λ k. cut 0 k z) none)
cut_inside (suc n) before [] = refl
cut_inside (suc n) before (b ∷ z) = cut_inside n (if b == 10 then suc before else before) z ∙ ap (λ k. cut 0 k (drop n z)) (counted b before (take n z))

onto-append : (p : Piece) (line : ℕ) (xs ys : List Token) → onto_tokens p line xs ++ ys ≡ onto_tokens p line (xs ++ ys)
onto-append p line xs ys = elim (is_blank p.kind) as (λ (t : Bool). (if t then xs else record { kind = p.kind; line = line; text = p.text } ∷ xs) ++ ys ≡ (if t then xs ++ ys else record { kind = p.kind; line = line; text = p.text } ∷ (xs ++ ys))) [ true ↦ refl | false ↦ refl ]

cut_piece : (before : ℕ) (z : List ℕ) → 0 < length z → 1 ≤ (piece z).len →
    cut 0 before z ≡ onto_tokens (piece z) (before + 1) (cut 0 (before + line_ends (take (piece z).len z)) (drop (piece z).len z))
cut_piece before [] some moves = absurd (omega arith)
cut_piece before (b ∷ z) some moves =
    let e : suc ((piece (b ∷ z)).len - 1) ≡ (piece (b ∷ z)).len = omega arith in
    ap (onto_tokens (piece (b ∷ z)) (before + 1))
    (cut_inside (suc ((piece (b ∷ z)).len - 1)) before (b ∷ z) ∙ ap (λ n. cut 0 (before + line_ends (take n (b ∷ z))) (drop n (b ∷ z))) e)

-- what the loop knows at a place, behind so many line ends
abbrev pub Reaches : List Symbol → Building → List ℕ → ℕ → ℕ → List Symbol → Building → Type 0
Reaches stack parts text at passed new_stack new_parts = (more : List Token) →
    run (record { stack = stack; parts = parts }) (cut 0 0 text ++ more) ≡ run (record { stack = new_stack; parts = new_parts }) (cut 0 passed (drop at text) ++ more)

pub reaches_end : (stack : List Symbol) (parts : Building) (text : List ℕ) (at passed : ℕ) (new_stack : List Symbol) (new_parts : Building) →
    length text ≤ at → Reaches stack parts text at passed new_stack new_parts → AllLeadTo stack parts text new_stack new_parts
reaches_end stack parts text at passed new_stack new_parts past reaches more =
    let none : drop at text ≡ [] = grind (arith, common_steps) in
    reaches more ∙ ap (λ z. run (record { stack = new_stack; parts = new_parts }) (cut 0 passed z ++ more)) none

-- the tokens at a place, as a piece and what comes behind it
split_here : (text : List ℕ) (at passed : ℕ) (p : Piece) (more : List Token) → at < length text → p ≡ piece (drop at text) → 1 ≤ p.len →
    cut 0 passed (drop at text) ++ more ≡ onto_tokens p (passed + 1) (cut 0 (passed + line_ends (take p.len (drop at text))) (drop (at + p.len) text) ++ more)
split_here text at passed p more within is moves =
    let some : 0 < length (drop at text) = grind (arith, common_steps) in
    let moves2 : 1 ≤ (piece (drop at text)).len = rw (← is) moves in
    let here = cut_piece passed (drop at text) some moves2 in
    let known = ap (λ (q : Piece). onto_tokens q (passed + 1) (cut 0 (passed + line_ends (take q.len (drop at text))) (drop q.len (drop at text)))) (sym is) in
    let later : drop p.len (drop at text) ≡ drop (at + p.len) text = drop-drop p.len at text in
    ap (λ (tokens : List Token). tokens ++ more) (here ∙ known)
    ∙ onto-append p (passed + 1) (cut 0 (passed + line_ends (take p.len (drop at text))) (drop p.len (drop at text))) more
    ∙ ap (λ z. onto_tokens p (passed + 1) (cut 0 (passed + line_ends (take p.len (drop at text))) z ++ more)) later

pub reaches_on : (stack : List Symbol) (parts : Building) (text : List ℕ) (at passed : ℕ) (s : List Symbol) (b : Building) (p : Piece) (new_stack : List Symbol) (new_parts : Building) →
    at < length text → p ≡ piece (drop at text) → 1 ≤ p.len → Reaches stack parts text at passed s b → LeadsTo s b p (passed + 1) new_stack new_parts →
    Reaches stack parts text (at + p.len) (passed + line_ends (take p.len (drop at text))) new_stack new_parts
reaches_on stack parts text at passed s b p new_stack new_parts within is moves reaches leads more =
    reaches more ∙ ap (run (record { stack = s; parts = b })) (split_here text at passed p more within is moves)
    ∙ leads (cut 0 (passed + line_ends (take p.len (drop at text))) (drop (at + p.len) text) ++ more)

pub reaches_fails : (stack : List Symbol) (parts : Building) (text : List ℕ) (at passed : ℕ) (s : List Symbol) (b : Building) (p : Piece) (e : LuaSyntax) →
    at < length text → p ≡ piece (drop at text) → 1 ≤ p.len → Reaches stack parts text at passed s b → FailsAt s b p (passed + 1) e →
    AllFailAt stack parts text e
reaches_fails stack parts text at passed s b p e within is moves reaches fails more =
    subst (IsRefused e) (sym (reaches more ∙ ap (run (record { stack = s; parts = b })) (split_here text at passed p more within is moves)))
    (fails (cut 0 (passed + line_ends (take p.len (drop at text))) (drop (at + p.len) text) ++ more))
