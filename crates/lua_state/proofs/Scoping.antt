-- The locals of the running function above those of the calls around it.
use Rattle.std.proofs.Common.{◌≡◌, ℕ, suc, ◌+◌, ◌-◌, ◌<◌, ◌≤◌, List, [], ◌∷◌, length, take, drop, sym, ap, ◌∙◌, arith}
use Rattle.std.proofs.lemmas.List.{drop-drop, drop-take, length-drop, length-take-le}
use Rattle.lua_state.specs.declared.variables.Variable.{Variable}
use Rattle.lua_state.specs.Locals.{above, lowest}
use Rattle.lua_state.specs.Stacks.{below}

-- one fewer, as long as there are more than are left
pub dropped_below : {T : Type 0} (xs : List T) (count : ℕ) → count < length xs → drop (length (below xs) - count) (below xs) ≡ drop (length xs - count) xs
dropped_below [] count h = absurd (omega (arith, h))
dropped_below (x ∷ xs) count h =
    let one : suc (length xs - count) ≡ suc (length xs) - count = omega (arith, h) in
    ap (λ n. drop n (x ∷ xs)) one

module _ (base outer : ℕ) (all : List Variable) (enough : base + outer ≤ length all) where
  abbrev gone : ℕ
  gone = length all - (base + outer)

  abbrev now : List Variable
  now = drop (length all - (base + outer)) all

  left : length now - base ≡ outer
  left = omega (arith, enough, length-drop (length all - (base + outer)) all)

  had : length all - base ≡ gone + outer
  had = omega (arith, enough)

  running : length (above base all) - outer ≡ gone
  running = omega (arith, enough, length-take-le (length all - base) all (omega arith))

  -- the locals of the running function that are left
  pub cut_above : above base (drop (length all - (base + outer)) all) ≡ drop (length (above base all) - outer) (above base all)
  cut_above = ap (λ n. take n now) left ∙ sym (drop-take gone outer all) ∙ sym (ap (λ n. drop n (above base all)) running ∙ ap (λ n. drop gone (take n all)) had)

  -- those of the calls around it stay
  pub cut_lowest : lowest base (drop (length all - (base + outer)) all) ≡ lowest base all
  cut_lowest = ap (λ n. drop n now) left ∙ drop-drop outer gone all ∙ sym (ap (λ n. drop n all) had)
