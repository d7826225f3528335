-- Outputs that are changed one after the other.
use Rattle.std.proofs.Common.{◌≡◌, ◌≢◌, ℕ, zero, suc, ◌+◌, ◌-◌, ◌^◌, ◌<◌, ◌≤◌, ◌⊎◌, ℤ, List, [], ◌∷◌, length, map, get_or, set, Option, Some, None, option_map, unwrap_or, inl, inr, refl, sym, ap, ◌∙◌, subst, arith}
use Rattle.std.proofs.lemmas.Bool.{cases_eq, cases_lt}
use Rattle.std.proofs.Math.Seq.{map-set_same}
use Rattle.std.proofs.lemmas.List.{get_or-map, length-map, map-set, get_or_past, get_or_default, length-set, get_or-set_same, get_or-set_other, same_lists}
use Rattle.std.specs.Prelude.{IsSome, Result, Ok, Err, OnOk}
use Rattle.tis_base.specs.declared.values.Values.{Values}
use Rattle.tis_grid.specs.HeldState.{least_spare, spare_at, HasSpare, NeverFall}
use Rattle.tis_grid.specs.Points.{cut, cut_each}
use Rattle.tis_grid.proofs.Fitting.{get_or-set_holds}

-- where each output has so much room, so has the one with the least
pub least_from_each : (spares : List (Option ℕ)) (count : ℕ) → count ≤ 2 ^ 64 - 1 → ((position : ℕ) → position < length spares → HasSpare count (get_or spares position None)) → count ≤ least_spare spares
least_from_each [] count below each = below
least_from_each (None ∷ spares) count below each = least_from_each spares count below (λ position within. each (suc position) (omega arith))
least_from_each (Some spare ∷ spares) count below each =
    let first : count ≤ spare = each 0 (omega arith) in
    let rest = least_from_each spares count below (λ position within. each (suc position) (omega arith)) in
    omega arith

-- and back
pub each_from_least : (spares : List (Option ℕ)) (count position : ℕ) → count ≤ least_spare spares → HasSpare count (get_or spares position None)
each_from_least [] count position least = tt
each_from_least (None ∷ spares) count zero least = tt
each_from_least (None ∷ spares) count (suc position) least = each_from_least spares count position least
each_from_least (Some spare ∷ spares) count zero least = omega arith
each_from_least (Some spare ∷ spares) count (suc position) least = each_from_least spares count position (omega arith)

-- each output that stands has the room of the least
pub room_each : (outs : List (Option Values)) (count : ℕ) → count ≤ least_spare (map (option_map (λ (v : Values). v.spare)) outs) → (position : ℕ) → IsSome (get_or (map (option_map (λ (v : Values). v.items)) outs) position None) → count ≤ unwrap_or (get_or (map (option_map (λ (v : Values). v.spare)) outs) position None) 0
room_each [] count least position stands = absurd cc
room_each (None ∷ outs) count least zero stands = absurd cc
room_each (None ∷ outs) count least (suc position) stands = room_each outs count least position stands
room_each (Some values ∷ outs) count least zero stands = omega arith
room_each (Some values ∷ outs) count least (suc position) stands = room_each outs count (omega arith) position stands

-- one output has more room than before
pub never_fall_more : (initial now : List (Option ℕ)) (at : ℕ) (old new : Option ℕ) → NeverFall initial now → get_or now at None ≡ old → unwrap_or old 0 ≤ unwrap_or new 0 → NeverFall initial (set now at new)
never_fall_more initial now at old new before is more position =
    elim (cases_eq position at) [
      | inl here ↦ subst (λ (p : ℕ). spare_at initial p ≤ unwrap_or (get_or (set now at new) p None) 0) (sym here)
          (let first : spare_at initial at ≤ unwrap_or (get_or now at None) 0 = before at in
          let same : unwrap_or (get_or now at None) 0 ≡ unwrap_or old 0 = ap (λ (o : Option ℕ). unwrap_or o 0) is in
          get_or-set_holds (λ (o : Option ℕ). spare_at initial at ≤ unwrap_or o 0) now at at new None (omega arith) first)
      | inr elsewhere ↦ subst (λ (o : Option ℕ). spare_at initial position ≤ unwrap_or o 0) (sym (get_or-set_other now at position new None elsewhere)) (before position)
    ]

-- what an output had taken at a point, of the outputs that are cut
pub get_or-cut_each : (lengths : List (Option ℕ)) (outs : List (Option (List ℤ))) (position : ℕ) (d : Option (List ℤ)) → position < length outs → get_or (cut_each lengths outs) position d ≡ cut (get_or lengths position None) (get_or outs position d)
get_or-cut_each lengths [] position d within = absurd (omega arith)
get_or-cut_each [] (taken ∷ outs) position d within = refl
get_or-cut_each (count ∷ lengths) (taken ∷ outs) zero d within = refl
get_or-cut_each (count ∷ lengths) (taken ∷ outs) (suc position) d within = get_or-cut_each lengths outs position d (omega arith)

pub length-cut_each : (lengths : List (Option ℕ)) (outs : List (Option (List ℤ))) → length (cut_each lengths outs) ≡ length outs
length-cut_each lengths [] = refl
length-cut_each [] (taken ∷ outs) = refl
length-cut_each (count ∷ lengths) (taken ∷ outs) = ap suc (length-cut_each lengths outs)

-- ---- one output of a list is changed

module _ {X Y : Type 0} (f : X → Y) where
  -- an element that looks the same leaves the list looking the same
  pub same_more : (initial : List Y) (now : List X) (at : ℕ) (new d : X) → map f now ≡ initial → f new ≡ f (get_or now at d) → map f (set now at new) ≡ initial
  same_more initial now at new d before same = map-set_same f now at new d same ∙ before

module _ {X : Type 0} (g : X → Option ℕ) where
  pub room_more : (initial : List (Option ℕ)) (now : List X) (at : ℕ) (new d : X) → at < length now → NeverFall initial (map g now) → unwrap_or (g (get_or now at d)) 0 ≤ unwrap_or (g new) 0 → NeverFall initial (map g (set now at new))
  room_more initial now at new d within before more =
      subst (λ (spares : List (Option ℕ)). NeverFall initial spares) (sym (map-set g now at new))
      (never_fall_more initial (map g now) at (g (get_or now at d)) (g new) before (get_or-map g now at d None within) more)

  pub has_more : (count : ℕ) (now : List X) (at : ℕ) (new : X) → ((k : ℕ) → k < at → HasSpare count (get_or (map g now) k None)) → HasSpare count (g new) → (k : ℕ) → k < at + 1 → HasSpare count (get_or (map g (set now at new)) k None)
  has_more count now at new before has k below =
      subst (λ (spares : List (Option ℕ)). HasSpare count (get_or spares k None)) (sym (map-set g now at new))
      (elim (cases_eq k at) [
        | inl here ↦ subst (λ (p : ℕ). HasSpare count (get_or (set (map g now) at (g new)) p None)) (sym here) (here_has (cases_lt at (length (map g now))))
        | inr elsewhere ↦ subst (HasSpare count) (sym (get_or-set_other (map g now) at k (g new) None elsewhere)) (before k (omega arith))
      ])
    where
      -- at the place itself, and past the end nothing stands
      here_has : (at < length (map g now)) ⊎ (length (map g now) ≤ at) → HasSpare count (get_or (set (map g now) at (g new)) at None)
      here_has (inl within) = subst (HasSpare count) (sym (get_or-set_same (map g now) at (g new) None within)) has
      here_has (inr past) = subst (HasSpare count) (sym (get_or_past (set (map g now) at (g new)) at None (omega (arith, length-set (map g now) at (g new))))) tt

module _ {X : Type 0} (f : X → Option (List ℤ)) where
  pub cut_more : (lengths : List (Option ℕ)) (initial : List (Option (List ℤ))) (now : List X) (at : ℕ) (new d : X) (count : Option ℕ) → at < length now → count ≡ get_or lengths at None → f new ≡ cut count (f (get_or now at d)) →
      ((k : ℕ) → k < at → get_or (map f now) k None ≡ cut (get_or lengths k None) (get_or initial k None)) →
      ((k : ℕ) → at ≤ k → get_or (map f now) k None ≡ get_or initial k None) →
      (k : ℕ) → k < at + 1 → get_or (map f (set now at new)) k None ≡ cut (get_or lengths k None) (get_or initial k None)
  cut_more lengths initial now at new d count within counted cuts done still k below =
      ap (λ (list : List (Option (List ℤ))). get_or list k None) (map-set f now at new) ∙
      (elim (cases_eq k at) [
        | inl here ↦
            ap (λ (p : ℕ). get_or (set (map f now) at (f new)) p None) here
            ∙ get_or-set_same (map f now) at (f new) None (omega (arith, length-map now f))
            ∙ cuts
            ∙ ap (λ (o : Option (List ℤ)). cut count o) (sym (get_or-map f now at d None within) ∙ still at (omega arith))
            ∙ ap (λ (c : Option ℕ). cut c (get_or initial at None)) counted
            ∙ ap (λ (p : ℕ). cut (get_or lengths p None) (get_or initial p None)) (sym here)
        | inr elsewhere ↦ get_or-set_other (map f now) at k (f new) None elsewhere ∙ done k (omega arith)
      ])

  pub still_more : (initial : List (Option (List ℤ))) (now : List X) (at : ℕ) (new : X) → ((k : ℕ) → at ≤ k → get_or (map f now) k None ≡ get_or initial k None) → (k : ℕ) → at + 1 ≤ k → get_or (map f (set now at new)) k None ≡ get_or initial k None
  still_more initial now at new still k past =
      let elsewhere : k ≢ at = omega arith in
      ap (λ (list : List (Option (List ℤ))). get_or list k None) (map-set f now at new) ∙ get_or-set_other (map f now) at k (f new) None elsewhere ∙ still k (omega arith)

  -- each output was cut
  pub cut_all_of : (lengths : List (Option ℕ)) (initial now : List X) → length now ≡ length initial → ((k : ℕ) → k < length now → get_or (map f now) k None ≡ cut (get_or lengths k None) (get_or (map f initial) k None)) → map f now ≡ cut_each lengths (map f initial)
  cut_all_of lengths initial now same done =
      same_lists (map f now) (cut_each lengths (map f initial)) (length-map now f ∙ same ∙ sym (length-map initial f) ∙ sym (length-cut_each lengths (map f initial)))
      (λ k d within.
      let inside : k < length now = omega (arith, length-map now f) in
      let there : k < length (map f initial) = omega (arith, length-map initial f) in
      get_or_default (map f now) k d None within ∙ done k inside ∙ ap (λ (o : Option (List ℤ)). cut (get_or lengths k None) o) (get_or_default (map f initial) k None d there) ∙ sym (get_or-cut_each lengths (map f initial) k d there))

-- what follows from what an Ok gives
pub ok_then : {X E : Type 0} (P Q : Type 0) (result : Result X E) → (P → Q) → OnOk result P → OnOk result Q
ok_then P Q (Ok x) follows holds = follows holds
ok_then P Q (Err e) follows holds = tt
