-- So many times a value stays small.
use Rattle.std.proofs.Common.{◌≡◌, ℕ, ◌≤◌, ℤ, pos, negsuc, sym, ap, subst, ◌∙◌, arith, FitsSigned, to_z, of_z, w16, w64}
use Rattle.std.specs.Prelude.{◌*ℤ◌, ◌≤ℤ◌}
use Rattle.std.specs.Int.RustNames.{unsigned_abs}
use Rattle.std.proofs.lemmas.Int.{ints, unsigned_abs-mul, to_z-of_z, fits_signed_from_abs}
use Rattle.std.proofs.lemmas.Nat.{mul-le}
use Rattle.tis_base.specs.Saturation.{IsValue}

abs_of_value : (value : ℤ) → IsValue value → unsigned_abs value ≤ 999
abs_of_value (pos n) is = omega (arith, ints)
abs_of_value (negsuc n) is = omega (arith, ints)

within_abs : (z : ℤ) → unsigned_abs z ≤ 32735232 → (negsuc 32735231 ≤ℤ z) × (z ≤ℤ pos 32735232)
within_abs (pos n) small = (omega (arith, ints), omega (arith, ints))
within_abs (negsuc n) small = (omega (arith, ints), omega (arith, ints))

product_small : (count value : ℤ) → unsigned_abs count ≤ 32768 → IsValue value → unsigned_abs (count *ℤ value) ≤ 32735232
product_small count value few is = subst (λ (n : ℕ). n ≤ 32735232) (sym (unsigned_abs-mul count value)) (mul-le (unsigned_abs count) (unsigned_abs value) 32768 999 few (abs_of_value value is))

pub abs_of_count : (count : ℤ) → FitsSigned w16 count → unsigned_abs count ≤ 32768
abs_of_count (pos n) few = omega (arith, few.sfits)
abs_of_count (negsuc n) few = omega (arith, few.sfits)

pub times_within : (count value : ℤ) → unsigned_abs count ≤ 32768 → IsValue value → (negsuc 32735231 ≤ℤ (count *ℤ value)) × ((count *ℤ value) ≤ℤ pos 32735232)
times_within count value few is = within_abs (count *ℤ value) (product_small count value few is)

-- no bit of the product is lost
pub product_held : (count value wide number : ℤ) → FitsSigned w16 count → FitsSigned w64 wide → FitsSigned w64 number → IsValue value → wide ≡ to_z w16 (of_z w16 count) → number ≡ value → to_z w64 (of_z w64 (to_z w64 (of_z w64 wide) *ℤ to_z w64 (of_z w64 number))) ≡ count *ℤ value
product_held count value wide number few wide_fits number_fits is wide_is number_is =
    let one : to_z w64 (of_z w64 wide) ≡ count = to_z-of_z w64 wide wide_fits ∙ wide_is ∙ to_z-of_z w16 count few in
    let other : to_z w64 (of_z w64 number) ≡ value = to_z-of_z w64 number number_fits ∙ number_is in
    let small : unsigned_abs (count *ℤ value) ≤ 32735232 = product_small count value (abs_of_count count few) is in
    ap (λ (z : ℤ). to_z w64 (of_z w64 z)) (λ i. one i *ℤ other i) ∙ to_z-of_z w64 (count *ℤ value) (fits_signed_from_abs w64 (count *ℤ value) (omega arith))
