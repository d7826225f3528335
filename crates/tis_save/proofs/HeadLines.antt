-- With a flag for each number, the lines are refused as by the list of the numbers above.
use Rattle.std.proofs.Common.{◌≡◌, ℕ, ◌+◌, ◌<◌, ◌≤◌, Bool, true, false, cond, inl, inr, List, [], ◌∷◌, ◌++◌, length, get_or, set, replicate, refl, sym, ap, ◌∙◌, arith, ne_eqb, eq-eqb}
use Rattle.std.specs.Prelude.{◌==◌, ◌||◌, Option, Some, None, nat_le, unwrap_or}
use Rattle.std.specs.List.{list_any}
use Rattle.std.specs.Option.{option_or}
use Rattle.std.proofs.lemmas.Bool.{cases_Bool, cases_eq}
use Rattle.std.proofs.lemmas.Bool.Decides.{nat_tests}
use Rattle.std.proofs.lemmas.List.{length-set, get_or-set_same, get_or-set_other, get_or-replicate}
use Rattle.std.proofs.lemmas.List.Folds.{list_any-append}
use Rattle.tis_asm.specs.Assembling.{is_filled, is_blank}
use Rattle.tis_asm.specs.declared.error.AsmError.TheVariants as code
use Rattle.tis_save.specs.declared.heads.Heads.{Heads}
use Rattle.tis_save.specs.declared.error.SaveError.{SaveError}
use Rattle.tis_save.specs.declared.error.SaveError.TheVariants as cause
use Rattle.tis_save.specs.Refusing.{Refuses}
use Rattle.tis_save.specs.Reading.{SaveRefusal, UnknownBlock, RepeatedBlock, StrayCode, is_head, number_of_head, block_fault, head_fault, code_fault, line_fault, with_number, below_line, first_fault}
use Rattle.tis_save.specs.Heads.{flag_fault, flagged_head_fault, flagged_code_fault, flagged_fault, with_flag, flags_below, first_flagged_fault, block_number, HaveSmallHeads}

-- the flags are those of these numbers
pub record AreFlags (above : List ℕ) (heads : Heads) : Type 0 where
  pub many : length heads.seen ≡ 48
  pub any : heads.any ≡ is_filled above
  pub each : (number : ℕ) → number < 48 → get_or heads.seen number false ≡ list_any (λ other. other == number) above

-- no heads, no flags
pub no_flags : AreFlags [] (record { seen = replicate 48 false; any = false })
no_flags = record { many = refl; any = refl; each = λ number lt. get_or-replicate 48 number false false lt }

below_count : (count number : ℕ) → nat_le count number ≡ false → number < count
below_count count number is = grind (arith, nat_tests)

-- ---- one line

same_block : (count at number : ℕ) (above : List ℕ) (heads : Heads) → count ≤ 48 → AreFlags above heads → flag_fault count heads at number ≡ block_fault count above at number
same_block count at number above heads few are = elim (cases_Bool (nat_le count number)) [
  | inl past ↦ choose past (λ (b : Bool). cond b (Some (RepeatedBlock at)) None) (get_or heads.seen number false) ∙ sym (choose past (λ (b : Bool). cond b (Some (RepeatedBlock at)) None) (list_any (λ other. other == number) above))
  | inr within ↦ ap (λ (b : Bool). cond (nat_le count number) (Some (UnknownBlock at)) (cond b (Some (RepeatedBlock at)) None)) (are.each number (omega (arith, below_count count number within, few)))
]
  where
    choose : nat_le count number ≡ true → (f : Bool → Option SaveRefusal) (b : Bool) → cond (nat_le count number) (Some (UnknownBlock at)) (f b) ≡ Some (UnknownBlock at)
    choose past f b = ap (λ (c : Bool). cond c (Some (UnknownBlock at)) (f b)) past

same_head : (count at : ℕ) (above : List ℕ) (heads : Heads) (number : Option ℕ) → count ≤ 48 → AreFlags above heads → flagged_head_fault count heads at number ≡ head_fault count above at number
same_head count at above heads None few are = refl
same_head count at above heads (Some number) few are = same_block count at number above heads few are

same_line : (count at : ℕ) (above : List ℕ) (heads : Heads) (line : List ℕ) → count ≤ 48 → AreFlags above heads → flagged_fault count heads at line ≡ line_fault count above at line
same_line count at above heads line few are =
    ap (λ (f : Option SaveRefusal). cond (is_head line) f (flagged_code_fault heads at line)) (same_head count at above heads (number_of_head line) few are)
    ∙ ap (λ (b : Bool). cond (is_head line) (head_fault count above at (number_of_head line)) (cond (is_blank line || b) None (Some (StrayCode at)))) are.any

-- a head that nothing is wrong with has the number of a tile
number_below : (count at number : ℕ) (above : List ℕ) → block_fault count above at number ≡ None → number < count
number_below count at number above right = elim (cases_Bool (nat_le count number)) [
  | inl past ↦ let wrong : Some (UnknownBlock at) ≡ None = sym (ap (λ (b : Bool). cond b (Some (UnknownBlock at)) (cond (list_any (λ other. other == number) above) (Some (RepeatedBlock at)) None)) past) ∙ right in absurd cc
  | inr within ↦ below_count count number within
]

filled_more : (above : List ℕ) (number : ℕ) → true ≡ is_filled (above ++ number ∷ [])
filled_more [] number = refl
filled_more (first ∷ above) number = refl

-- one flag more
flag_more : (above : List ℕ) (heads : Heads) (number : ℕ) → number < 48 → AreFlags above heads → AreFlags (above ++ number ∷ []) (record { seen = set heads.seen number true; any = true })
flag_more above heads number lt are = record {
  many = length-set heads.seen number true ∙ are.many;
  any = filled_more above number;
  each = λ other below. elim (cases_eq number other) [
    | inl same ↦
        ap (λ (n : ℕ). get_or (set heads.seen number true) n false) (sym same)
        ∙ get_or-set_same heads.seen number true false (omega (arith, are.many, lt))
        ∙ sym (list_any-append (λ (n : ℕ). n == other) above (number ∷ []) ∙ ap (λ (b : Bool). list_any (λ (n : ℕ). n == other) above || (b || false)) (eq-eqb number other same) ∙ or_true (list_any (λ (n : ℕ). n == other) above))
    | inr apart ↦
        get_or-set_other heads.seen number other true false (λ e. apart (sym e))
        ∙ are.each other below
        ∙ sym (list_any-append (λ (n : ℕ). n == other) above (number ∷ []) ∙ ap (λ (b : Bool). list_any (λ (n : ℕ). n == other) above || (b || false)) (ne_eqb number other apart) ∙ or_false (list_any (λ (n : ℕ). n == other) above))
  ];
}
  where
    or_true : (b : Bool) → (b || true) ≡ true
    or_true true = refl
    or_true false = refl

    or_false : (b : Bool) → (b || false) ≡ b
    or_false true = refl
    or_false false = refl

flags_head : (count at : ℕ) (above : List ℕ) (heads : Heads) (number : Option ℕ) → count ≤ 48 → AreFlags above heads → head_fault count above at number ≡ None → AreFlags (with_number above number) (with_flag heads number)
flags_head count at above heads None few are right = absurd cc
flags_head count at above heads (Some number) few are right = flag_more above heads number (omega (arith, few, number_below count at number above right)) are

-- the flags below a line that nothing is wrong with
flags_more : (count at : ℕ) (above : List ℕ) (heads : Heads) (line : List ℕ) (b : Bool) → count ≤ 48 → AreFlags above heads → cond b (head_fault count above at (number_of_head line)) (code_fault above at line) ≡ None → AreFlags (cond b (with_number above (number_of_head line)) above) (cond b (with_flag heads (number_of_head line)) heads)
flags_more count at above heads line true few are right = flags_head count at above heads (number_of_head line) few are right
flags_more count at above heads line false few are right = are

-- ---- all lines

same_lines : (count at : ℕ) (above : List ℕ) (heads : Heads) (lines : List (List ℕ)) → count ≤ 48 → AreFlags above heads → first_flagged_fault count heads at lines ≡ first_fault count above at lines
same_lines count at above heads [] few are = refl
same_lines count at above heads (line ∷ lines) few are =
    ap (λ (f : Option SaveRefusal). option_or f (first_flagged_fault count (flags_below heads line) (at + 1) lines)) (same_line count at above heads line few are)
    ∙ by_fault (line_fault count above at line) (λ right. same_lines count (at + 1) (below_line above line) (flags_below heads line) lines few (flags_more count at above heads line (is_head line) few are right))
  where
    by_fault : (f : Option SaveRefusal) → (f ≡ None → first_flagged_fault count (flags_below heads line) (at + 1) lines ≡ first_fault count (below_line above line) (at + 1) lines) → option_or f (first_flagged_fault count (flags_below heads line) (at + 1) lines) ≡ option_or f (first_fault count (below_line above line) (at + 1) lines)
    by_fault None behind = behind refl
    by_fault (Some fault) behind = refl

-- by flags as by numbers
pub flagged_is : (count : ℕ) (lines : List (List ℕ)) → count ≤ 48 → first_flagged_fault count (record { seen = replicate 48 false; any = false }) 1 lines ≡ first_fault count [] 1 lines
flagged_is count lines few = same_lines count 1 [] (record { seen = replicate 48 false; any = false }) lines few no_flags

-- where nothing is wrong, the numbers of the heads are small
pub right_are_small : (count at : ℕ) (above : List ℕ) (lines : List (List ℕ)) → count ≤ 48 → first_fault count above at lines ≡ None → HaveSmallHeads lines
right_are_small count at above [] few right = tt
right_are_small count at above (line ∷ lines) few right =
    by_fault (line_fault count above at line) (λ is. is_small is) (λ rest. right_are_small count (at + 1) (below_line above line) lines few rest) right
  where
    by_number : (number : Option ℕ) → head_fault count above at number ≡ None → unwrap_or number 0 < 256
    by_number None is = absurd cc
    by_number (Some number) is = omega (arith, few, number_below count at number above is)

    is_small : line_fault count above at line ≡ None → is_head line ≡ true → block_number line < 256
    is_small is head = by_number (number_of_head line) (sym (ap (λ (b : Bool). cond b (head_fault count above at (number_of_head line)) (code_fault above at line)) head) ∙ is)

    by_fault : (f : Option SaveRefusal) → (f ≡ None → is_head line ≡ true → block_number line < 256) → (first_fault count (below_line above line) (at + 1) lines ≡ None → HaveSmallHeads lines) → option_or f (first_fault count (below_line above line) (at + 1) lines) ≡ None → HaveSmallHeads (line ∷ lines)
    by_fault None first rest is = (first refl, rest is)
    by_fault (Some fault) first rest is = absurd cc

-- ---- while lines are looked at

-- a refusal of one is one of all
pub fault_same : (error : SaveError) (first second : Option SaveRefusal) → ((fault : SaveRefusal) → first ≡ Some fault → second ≡ Some fault) → Refuses error first → Refuses error second
fault_same (cause.BadHead line) first second same is = same _ is
fault_same (cause.UnknownBlock line) first second same is = same _ is
fault_same (cause.RepeatedBlock line) first second same is = same _ is
fault_same (cause.StrayCode line) first second same is = same _ is
fault_same (cause.Asm block code.TooManyLines) first second same is = same _ is
fault_same (cause.Asm block (code.BadLine line)) first second same is = same _ is
fault_same (cause.Asm block (code.LongLine line)) first second same is = same _ is
fault_same (cause.Asm block (code.RepeatedLabel line)) first second same is = same _ is
fault_same (cause.Asm block (code.UnknownLabel line)) first second same is = same _ is
fault_same (cause.Asm block code.NoMemory) first second same is = absurd is
fault_same cause.NoMemory first second same is = tt

-- a line that is refused is the first wrong one
pub line_refused : (count at : ℕ) (heads : Heads) (line : List ℕ) (lines whole : List (List ℕ)) (all : Option SaveRefusal) (error : SaveError) → whole ≡ line ∷ lines → first_flagged_fault count heads at whole ≡ all → Refuses error (flagged_fault count heads at line) → Refuses error all
line_refused count at heads line lines whole all error whole_is before =
    fault_same error (flagged_fault count heads at line) all
    (λ fault is. sym before ∙ ap (first_flagged_fault count heads at) whole_is ∙ ap (λ (f : Option SaveRefusal). option_or f (first_flagged_fault count (flags_below heads line) (at + 1) lines)) is)

-- one that isn't is passed
pub line_passed : (count at : ℕ) (heads below : Heads) (line : List ℕ) (lines whole : List (List ℕ)) (all : Option SaveRefusal) → whole ≡ line ∷ lines → below ≡ flags_below heads line → flagged_fault count heads at line ≡ None → first_flagged_fault count heads at whole ≡ all → first_flagged_fault count below (at + 1) lines ≡ all
line_passed count at heads below line lines whole all whole_is below_is right before =
    ap (λ (h : Heads). first_flagged_fault count h (at + 1) lines) below_is
    ∙ sym (ap (λ (f : Option SaveRefusal). option_or f (first_flagged_fault count (flags_below heads line) (at + 1) lines)) right)
    ∙ sym (ap (first_flagged_fault count heads at) whole_is) ∙ before
