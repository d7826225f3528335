-- What a set of tiles says of the bits that hold it.
use Rattle.std.proofs.Common.{◌≡◌, ◌≢◌, ℕ, zero, suc, ◌+◌, ◌-◌, ◌/◌, ◌*◌, ◌%◌, ◌<◌, ◌≤◌, ◌^◌, Bool, true, false, List, length, get_or, map, inl, inr, refl, sym, ap, ◌∙◌, arith}
use Rattle.std.specs.Prelude.{slice_set, ◌==◌, ◌&&◌, not, min, bit_and, bit_or}
use Rattle.std.specs.Int.{bit_at, bit_not, trailing_zeros, w32}
use Rattle.std.specs.List.{range_with_len}
use Rattle.std.proofs.lemmas.Bool.{cases_eq, cases_lt}
use Rattle.std.proofs.lemmas.List.{get_or-set_other, get_or-set_same, get_or_past, same_lists, length-set}
use Rattle.std.proofs.lemmas.List.FromFn.{get_or-map-range_with_len}
use Rattle.std.proofs.lemmas.Nat.Bits.{bit_at_above, bit_at-trailing_zeros, bit_at-lt, bit_at-zero, bit_at_and, bit_at_not, shr_and_one, same_from_bits, bit_at_cat_low, bit_at_cat_high, bit_at-pow_same, bit_at-pow_other, bit_at_ones_above}
use Rattle.std.proofs.lemmas.Nat.{and_le_l, or_lt, pow_pos, shr-shr}
use Rattle.std.proofs.Math.Nat.{pow-suc}
use Rattle.std.proofs.Math.Pow.{pow-lt}
use Rattle.tis_grid.specs.TileSets.{has, is_set, flags_of, IsFirst}

-- within the twelve tiles, whatever is given past the end
pub flag_at : (bits tile : ℕ) (d : Bool) → tile < 12 → get_or (flags_of bits) tile d ≡ is_set bits tile
flag_at bits tile d within = get_or-map-range_with_len (is_set bits) 0 12 tile tile d within (omega arith)

pub seen : (bits tile : ℕ) → bits < 2 ^ 12 → has (flags_of bits) tile ≡ is_set bits tile
seen bits tile bound =
    elim (cases_lt tile 12) [
      | inl below ↦ flag_at bits tile false below
      | inr past ↦ get_or_past (flags_of bits) tile false past ∙ sym (ap (λ n. n == 1) (bit_at_above bits 12 tile bound past))
    ]

-- a bit that was changed is a flag that was changed
pub changed : (bits new tile : ℕ) (flag : Bool) → tile < 12 → is_set new tile ≡ flag → ((other : ℕ) → other < 12 → other ≢ tile → is_set new other ≡ is_set bits other) →
    flags_of new ≡ slice_set (flags_of bits) tile flag
changed bits new tile flag within here others =
    same_lists (flags_of new) (slice_set (flags_of bits) tile flag) (sym (length-set (flags_of bits) tile flag))
    (λ k d below.
    elim (cases_eq k tile) [
      | inl same ↦ ap (λ i. get_or (flags_of new) i d) same ∙ flag_at new tile d within ∙ here ∙ sym (get_or-set_same (flags_of bits) tile flag d within) ∙ ap (λ i. get_or (slice_set (flags_of bits) tile flag) i d) (sym same)
      | inr other ↦ flag_at new k d below ∙ others k below other ∙ sym (flag_at bits k d below) ∙ sym (get_or-set_other (flags_of bits) tile k flag d other)
    ])

-- the lowest bit is the first tile
pub lowest : (bits : ℕ) → 0 < bits → bits < 2 ^ 12 → IsFirst (flags_of bits) (trailing_zeros w32 bits)
lowest bits some bound =
    let at = bit_at-trailing_zeros w32 bits some (omega (arith, bound)) in
    let first : ℕ = trailing_zeros w32 bits in
    record {
      within = elim (cases_lt first 12) [
        | inl below ↦ below
        | inr past ↦ let none = bit_at_above bits 12 first bound past in let one : 1 ≡ 0 = sym at.1 ∙ none in absurd cc
      ];
      is_in = seen bits first bound ∙ ap (λ n. n == 1) at.1;
      least = λ before is. seen bits before bound ∙ ap (λ n. n == 1) (at.2 before is);
    }

-- no bit is a set without a tile
pub none_in : (bits tile : ℕ) → bits ≡ 0 → has (flags_of bits) tile ≡ false
none_in bits tile none = ap (λ b. has (flags_of b) tile) none ∙ seen 0 tile (omega arith) ∙ ap (λ n. n == 1) (bit_at-zero tile)

-- the bits that both numbers have
min_one : (a b : ℕ) → a < 2 → b < 2 → (min a b == 1) ≡ ((a == 1) && (b == 1))
min_one zero zero one other = refl
min_one zero (suc zero) one other = refl
min_one (suc zero) zero one other = refl
min_one (suc zero) (suc zero) one other = refl
min_one (suc (suc a)) b one other = let bad : ⊥ = omega (arith, one) in absurd bad
min_one zero (suc (suc b)) one other = let bad : ⊥ = omega (arith, other) in absurd bad
min_one (suc zero) (suc (suc b)) one other = let bad : ⊥ = omega (arith, other) in absurd bad

pub is_set_and : (a b tile : ℕ) → is_set (bit_and a b) tile ≡ (is_set a tile && is_set b tile)
is_set_and a b tile = ap (λ n. n == 1) (bit_at_and a b tile) ∙ min_one (bit_at a tile) (bit_at b tile) (bit_at-lt a tile) (bit_at-lt b tile)

flipped : (a : ℕ) → a < 2 → (1 - a == 1) ≡ not (a == 1)
flipped zero is = refl
flipped (suc zero) is = refl
flipped (suc (suc a)) is = let bad : ⊥ = omega (arith, is) in absurd bad

pub is_set_not : (bits tile : ℕ) → bits < 2 ^ 32 → tile < 32 → is_set (bit_not w32 bits) tile ≡ not (is_set bits tile)
is_set_not bits tile bound within = ap (λ n. n == 1) (bit_at_not w32 bits tile bound within) ∙ flipped (bit_at bits tile) (bit_at-lt bits tile)

-- what two sets have in common
pub both_have : (a b : ℕ) (one other : List Bool) → a < 2 ^ 12 → b < 2 ^ 12 → flags_of a ≡ one → flags_of b ≡ other → (tile : ℕ) → has (flags_of (bit_and a b)) tile ≡ (has one tile && has other tile)
both_have a b one other a_below b_below a_is b_is tile =
    let first : is_set a tile ≡ has one tile = sym (seen a tile a_below) ∙ ap (λ (l : List Bool). has l tile) a_is in
    let second : is_set b tile ≡ has other tile = sym (seen b tile b_below) ∙ ap (λ (l : List Bool). has l tile) b_is in
    let below = and_le_l a b in
    seen (bit_and a b) tile (omega (arith, below, a_below)) ∙ is_set_and a b tile ∙ ap (λ (f : Bool). f && is_set b tile) first ∙ ap (λ (f : Bool). has one tile && f) second

-- what one has that the other hasn't
pub one_has : (a b : ℕ) (one other : List Bool) → a < 2 ^ 12 → b < 2 ^ 12 → flags_of a ≡ one → flags_of b ≡ other → (tile : ℕ) → has (flags_of (bit_and a (bit_not w32 b))) tile ≡ (has one tile && not (has other tile))
one_has a b one other a_below b_below a_is b_is tile =
    let first : is_set a tile ≡ has one tile = sym (seen a tile a_below) ∙ ap (λ (l : List Bool). has l tile) a_is in
    let second : is_set b tile ≡ has other tile = sym (seen b tile b_below) ∙ ap (λ (l : List Bool). has l tile) b_is in
    let below = and_le_l a (bit_not w32 b) in
    seen (bit_and a (bit_not w32 b)) tile (omega (arith, below, a_below)) ∙ is_set_and a (bit_not w32 b) tile ∙ ap (λ (f : Bool). f && is_set (bit_not w32 b) tile) first
    ∙ elim (cases_lt tile 32) [
      | inl within ↦ ap (λ (f : Bool). has one tile && f) (is_set_not b tile (omega (arith, b_below)) within ∙ ap not second)
      | inr past ↦
          let none : has one tile ≡ false = sym first ∙ ap (λ n. n == 1) (bit_at_above a 12 tile a_below (omega (arith, past))) in
          ap (λ (f : Bool). f && is_set (bit_not w32 b) tile) none ∙ sym (ap (λ (f : Bool). f && not (has other tile)) none)
    ]

-- the test of a bit
pub tested : (bits tile : ℕ) (set : List Bool) → bits < 2 ^ 12 → flags_of bits ≡ set → (bit_and (bits / 2 ^ tile) 1 == 1) ≡ has set tile
tested bits tile set below is = ap (λ n. n == 1) (shr_and_one bits tile) ∙ sym (seen bits tile below) ∙ ap (λ (l : List Bool). has l tile) is

-- as many flags as tiles
pub twelve : (bits : ℕ) (set : List Bool) → flags_of bits ≡ set → length set ≡ 12
twelve bits set is = sym (ap (λ (l : List Bool). length l) is)

-- a bit more is a number of twelve bits still
pub set_below : (bits number : ℕ) → number < 12 → bits < 2 ^ 12 → bit_or bits (1 * 2 ^ number % 2 ^ 32) < 2 ^ 12
set_below bits number within below =
    let power : 2 ^ number < 2 ^ 12 = pow-lt within in
    or_lt 12 bits (1 * 2 ^ number % 2 ^ 32) below (omega (arith, power))

-- ---- a number without its lowest bit

pow_by : (t more : ℕ) → more ≡ t + 1 → 2 ^ more ≡ 2 ^ t + 2 ^ t
pow_by t zero is = let bad : ⊥ = omega (arith, is) in absurd bad
pow_by t (suc more) is = let step = pow-suc 2 more in let same : 2 ^ more ≡ 2 ^ t = ap (λ k. 2 ^ k) (let e : more ≡ t = omega (arith, is) in e) in omega (arith, step, same)

pow_more : (t : ℕ) → 2 ^ (t + 1) ≡ 2 ^ t + 2 ^ t
pow_more t = pow_by t (t + 1) refl

min_zero : (a : ℕ) → min 0 a ≡ 0
min_zero a = omega arith

min_same : (a : ℕ) → min a a ≡ a
min_same zero = refl
min_same (suc a) = omega arith

module _ (n t : ℕ) (one : bit_at n t ≡ 1) (least : (i : ℕ) → i < t → bit_at n i ≡ 0) where
  in_parts : n ≡ n / 2 ^ (t + 1) * 2 ^ (t + 1) + 2 ^ t
  in_parts =
      let more = pow_more t in
      let some = pow_pos t in
      same_from_bits n (n / 2 ^ (t + 1) * 2 ^ (t + 1) + 2 ^ t)
      (λ i. elim (cases_lt i (t + 1)) [
        | inl low ↦ elim (cases_eq i t) [
          | inl same ↦ ap (bit_at n) same ∙ one ∙ sym (ap (λ k. bit_at (n / 2 ^ (t + 1) * 2 ^ (t + 1) + 2 ^ t) k) same ∙ bit_at_cat_low (n / 2 ^ (t + 1)) (t + 1) (2 ^ t) t (omega arith) ∙ bit_at-pow_same t)
          | inr other ↦ least i (omega (arith, low, other)) ∙ sym (bit_at_cat_low (n / 2 ^ (t + 1)) (t + 1) (2 ^ t) i low ∙ bit_at-pow_other t i other)
        ]
        | inr high ↦
            let sum : t + 1 + (i - (t + 1)) ≡ i = omega (arith, high) in
            sym (bit_at_cat_high (n / 2 ^ (t + 1)) (t + 1) (2 ^ t) i (omega (arith, more, some)) high ∙ ap (λ m. m % 2) (shr-shr n (t + 1) (i - (t + 1))) ∙ ap (bit_at n) sum)
      ])

  one_less_is : n - 1 ≡ n / 2 ^ (t + 1) * 2 ^ (t + 1) + (2 ^ t - 1)
  one_less_is = let parts = in_parts in let some = pow_pos t in omega (arith, parts, some)

  pub lowest_off : bit_at (bit_and n (n - 1)) t ≡ 0
  lowest_off =
      let off : bit_at (n - 1) t ≡ 0 = ap (λ m. bit_at m t) one_less_is ∙ bit_at_cat_low (n / 2 ^ (t + 1)) (t + 1) (2 ^ t - 1) t (omega arith) ∙ bit_at_ones_above t t (omega arith) in
      bit_at_and n (n - 1) t ∙ ap (λ b. min b (bit_at (n - 1) t)) one ∙ ap (λ b. min 1 b) off

  pub others_on : (i : ℕ) → i ≢ t → bit_at (bit_and n (n - 1)) i ≡ bit_at n i
  others_on i other =
      let more = pow_more t in
      let some = pow_pos t in
      elim (cases_lt i t) [
        | inl low ↦ bit_at_and n (n - 1) i ∙ ap (λ b. min b (bit_at (n - 1) i)) (least i low) ∙ min_zero (bit_at (n - 1) i) ∙ sym (least i low)
        | inr at ↦
            let high : t + 1 ≤ i = omega (arith, at, other) in
            let same : bit_at (n - 1) i ≡ bit_at n i =
            ap (λ m. bit_at m i) one_less_is ∙ bit_at_cat_high (n / 2 ^ (t + 1)) (t + 1) (2 ^ t - 1) i (omega (arith, more, some)) high
            ∙ sym (ap (λ m. bit_at m i) in_parts ∙ bit_at_cat_high (n / 2 ^ (t + 1)) (t + 1) (2 ^ t) i (omega (arith, more, some)) high) in
            bit_at_and n (n - 1) i ∙ ap (λ b. min (bit_at n i) b) same ∙ min_same (bit_at n i)
      ]
