-- The numbers of a program, and its jumps.
use Rattle.std.proofs.Common.{◌≡◌, ℕ, zero, suc, ◌+◌, ◌<◌, ◌≤◌, List, [], ◌∷◌, ◌++◌, length, take, drop, Bool, true, false, subst, sym, ap, ◌∙◌, refl, Some, arith}
use Rattle.std.specs.Prelude.{slice_get, slice_set, IsTrue, ◌↔◌}
use Rattle.std.specs.Bool.{OnTrue}
use Rattle.std.specs.List.{refill}
use Rattle.std.proofs.Math.Seq.{take-append_seam}
use Rattle.std.proofs.lemmas.Bool.{true≢false}
use Rattle.std.proofs.lemmas.List.{length-take, take_more}
use Rattle.std.proofs.lemmas.Option.{slice_get_within, get_or_from_slice_get}
use Rattle.tis_asm.specs.declared.instr.Jump.{Jump as JumpKind}
use Rattle.tis_asm.specs.declared.instr.Instr.TheVariants.{Jump}
use Rattle.tis_asm.specs.declared.program.MarkedInstr.{MarkedInstr}
use Rattle.tis_asm.specs.Programs.{InstrHasValue, HasValues, JumpsWithin, JumpWithin, IsSound}

-- one more instruction whose number is a value
pub has_values_push : (program : List MarkedInstr) (marked : MarkedInstr) → HasValues program → InstrHasValue marked.instr → HasValues (program ++ marked ∷ [])
has_values_push [] marked are is = (is, tt)
has_values_push (first ∷ program) marked are is = (are.0, has_values_push program marked are.1 is)

-- one more instruction whose jump stays inside
pub jump_within_more : (count : ℕ) (program : List MarkedInstr) (index : ℕ) (marked : MarkedInstr) → slice_get program index ≡ Some marked → JumpWithin count (take index program) → JumpsWithin count marked.instr → JumpWithin count (take (suc index) program)
jump_within_more count [] index marked found within is = absurd cc
jump_within_more count (first ∷ program) zero marked found within is = let same : marked ≡ first = cc in (subst (λ (m : MarkedInstr). JumpsWithin count m.instr) same is, tt)
jump_within_more count (first ∷ program) (suc index) marked found within is = (within.0, jump_within_more count program index marked found within.1 is)

-- each jump of a sound program stays inside
pub jump_within_at : (count : ℕ) (program : List MarkedInstr) (index : ℕ) (marked : MarkedInstr) → slice_get program index ≡ Some marked → JumpWithin count program → JumpsWithin count marked.instr
jump_within_at count [] index marked found within = absurd cc
jump_within_at count (first ∷ program) zero marked found within = let same : first ≡ marked = cc in subst (λ (m : MarkedInstr). JumpsWithin count m.instr) same within.0
jump_within_at count (first ∷ program) (suc index) marked found within = jump_within_at count program index marked found within.1

-- a program one of whose jumps leaves it isn't sound
pub ends_outside : (inside : Bool) (count : ℕ) (program : List MarkedInstr) (index : ℕ) (marked : MarkedInstr) → inside ≡ false → count ≡ length program → slice_get program index ≡ Some marked → (IsTrue inside ↔ JumpsWithin count marked.instr) → (IsTrue false ↔ IsSound program)
ends_outside true count program index marked outside is found tells = absurd cc
ends_outside false count program index marked outside is found tells =
    ((λ wrong. absurd cc), (λ sound. tells.1 (subst (λ (n : ℕ). JumpsWithin n marked.instr) (sym is) (jump_within_at (length program) program index marked found sound))))

-- a jump that stays inside
pub stays_inside : (inside : Bool) (count : ℕ) (program : List MarkedInstr) (marked : MarkedInstr) → inside ≡ true → count ≡ length program → (IsTrue inside ↔ JumpsWithin count marked.instr) → JumpsWithin (length program) marked.instr
stays_inside true count program marked here is tells = subst (λ (n : ℕ). JumpsWithin n marked.instr) is (tells.0 refl)
stays_inside false count program marked here is tells = absurd cc

-- ---- a copy

short_front : (program : List MarkedInstr) (index : ℕ) (marked : MarkedInstr) → slice_get program index ≡ Some marked → length program ≤ 15 → length (take index program) < 15
short_front program index marked found short = omega (arith, slice_get_within program index marked found, length-take index program)

one_more : (program : List MarkedInstr) (index : ℕ) (marked : MarkedInstr) → slice_get program index ≡ Some marked → take index program ++ marked ∷ [] ≡ take (index + 1) program
one_more program index marked found =
    ap (λ (m : MarkedInstr). take index program ++ m ∷ []) (sym (get_or_from_slice_get program index marked marked found)) ∙ sym (take_more program index marked (slice_get_within program index marked found))

-- one instruction more is copied
pub copied_more : (pushed : Bool) (program old new : List MarkedInstr) (index : ℕ) (marked : MarkedInstr) → slice_get program index ≡ Some marked → length program ≤ 15 → old ≡ take index program → (IsTrue pushed ↔ (length old < 15)) → OnTrue pushed (new ≡ old ++ record { instr = marked.instr; mark = marked.mark } ∷ []) → new ≡ take (index + 1) program
copied_more true program old new index marked found short is full pushed = pushed ∙ ap (λ (l : List MarkedInstr). l ++ marked ∷ []) is ∙ one_more program index marked found
copied_more false program old new index marked found short is full pushed = absurd (true≢false (sym (full.1 (subst (λ (l : List MarkedInstr). length l < 15) (sym is) (short_front program index marked found short)))))

-- with a jump in place of one instruction they are values still
pub values_with_jump : (program : List MarkedInstr) (place : ℕ) (jump : JumpKind) (number : ℕ) (mark : Bool) → HasValues program → HasValues (slice_set program place (record { instr = Jump jump number; mark = mark }))
values_with_jump [] place jump number mark held = tt
values_with_jump (first ∷ rest) zero jump number mark held = (tt, held.1)
values_with_jump (first ∷ rest) (suc place) jump number mark held = (held.0, values_with_jump rest place jump number mark held.1)

-- a list that is filled up from another to its own length is that list
pub refill_same : {X : Type 0} (xs ws : List X) → length ws ≡ length xs → refill (length xs) xs ws ≡ ws
refill_same xs ws same = ap (λ (n : ℕ). take n (ws ++ drop (length ws) xs)) (sym same) ∙ take-append_seam ws (drop (length ws) xs)
