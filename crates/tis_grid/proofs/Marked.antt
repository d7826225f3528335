-- Bits of a number, and what they say of tiles that give.
use Rattle.std.proofs.Common.{◌≡◌, ◌≢◌, ℕ, ◌+◌, ◌-◌, ◌*◌, ◌%◌, ◌^◌, ◌<◌, ◌≤◌, true, false, Some, refl, sym, ap, ◌∙◌, inl, inr, arith, w64}
use Rattle.std.specs.Prelude.{Bool, ◌⊎◌, bit_and, bit_or, min, max}
use Rattle.std.specs.Int.{bit_at, bit_not}
use Rattle.std.proofs.Math.Nat.{mul-le-mul, mod-eq_of_lt, mod-lt}
use Rattle.std.proofs.Math.Pow.{pow_mono}
use Rattle.std.proofs.lemmas.Bool.{cases_eq, cases_lt}
use Rattle.std.proofs.lemmas.Nat.{one_shl, pow_pos, and_le_l}
use Rattle.std.proofs.lemmas.Nat.Bits.{bit_at_or, bit_at_and, bit_at_not, bit_at-zero, bit_at-lt, bit_at_ones, bit_at_above, bit_at_cat_low, bit_at_cat_high, bit_at-pow_same, bit_at-pow_other, bit_at_clear_same, bit_at_clear_other}
use Rattle.tis_base.specs.Tiles.{opposite}
use Rattle.tis_base.specs.declared.tiles.Dir.{Dir}
use Rattle.tis_base.specs.declared.tiles.Dir.TheVariants.{Left, Right, Up, Down}
use Rattle.tis_node.specs.Intents.{gives_to}
use Rattle.tis_node.specs.declared.node.Intent.{Intent}
use Rattle.tis_node.specs.declared.node.Intent.TheVariants.{Nothing, Local, Takes, TakesAny, Gives, GivesAny}
use Rattle.tis_grid.specs.State.{Grid, State}
use Rattle.tis_grid.specs.Events.{is_giving, is_memory_at, next_tile}
use Rattle.tis_grid.specs.HeldChoices.{IsApart, IsMarked, PointAt, bits_of, number_of, spot_of}

-- ---- four bits at a place

shifted : (bits first : ℕ) → bits < 16 → first ≤ 44 → bits * 2 ^ first % 2 ^ 64 ≡ bits * 2 ^ first + 0
shifted bits first few within =
    let most : bits * 2 ^ first ≤ 15 * 2 ^ 44 = mul-le-mul {n₁ = bits} {m₁ = 2 ^ first} {n₂ = 15} {m₂ = 2 ^ 44} (omega arith) (pow_mono within) in
    mod-eq_of_lt (omega arith) ∙ omega arith

shifted_at : (bits first place : ℕ) → bits < 16 → first ≤ 44 → bit_at (bits * 2 ^ first % 2 ^ 64) (first + place) ≡ bit_at bits place
shifted_at bits first place few within =
    ap (λ (n : ℕ). bit_at n (first + place)) (shifted bits first few within)
    ∙ bit_at_cat_high bits first 0 (first + place) (pow_pos first) (omega arith)
    ∙ ap (λ (n : ℕ). bit_at bits n) (omega arith)

shifted_other : (bits first place : ℕ) → bits < 16 → first ≤ 44 → (place < first) ⊎ (first + 4 ≤ place) → bit_at (bits * 2 ^ first % 2 ^ 64) place ≡ 0
shifted_other bits first place few within (inl below) =
    ap (λ (n : ℕ). bit_at n place) (shifted bits first few within) ∙ bit_at_cat_low bits first 0 place below ∙ bit_at-zero place
shifted_other bits first place few within (inr above) =
    ap (λ (n : ℕ). bit_at n place) (shifted bits first few within)
    ∙ bit_at_cat_high bits first 0 place (pow_pos first) (omega arith)
    ∙ bit_at_above bits 4 (place - first) few (omega arith)

-- four bits at a place in place of those that stood there
abbrev pub with_four : ℕ → ℕ → ℕ → ℕ
with_four marks first bits = bit_or (bit_and marks (bit_not w64 (15 * 2 ^ first % 2 ^ 64))) (bits * 2 ^ first % 2 ^ 64)

module _ (marks first bits : ℕ) (few : bits < 16) (within : first ≤ 44) where
  small : 15 * 2 ^ first % 2 ^ 64 < 2 ^ 64
  small = mod-lt (15 * 2 ^ first) {m = 2 ^ 64} (omega arith)

  both : (place : ℕ) → place < 64 → bit_at (with_four marks first bits) place ≡ max (min (bit_at marks place) (1 - bit_at (15 * 2 ^ first % 2 ^ 64) place)) (bit_at (bits * 2 ^ first % 2 ^ 64) place)
  both place below =
      bit_at_or (bit_and marks (bit_not w64 (15 * 2 ^ first % 2 ^ 64))) (bits * 2 ^ first % 2 ^ 64) place
      ∙ ap (λ (n : ℕ). max n (bit_at (bits * 2 ^ first % 2 ^ 64) place)) (bit_at_and marks (bit_not w64 (15 * 2 ^ first % 2 ^ 64)) place ∙ ap (λ (n : ℕ). min (bit_at marks place) n) (bit_at_not w64 (15 * 2 ^ first % 2 ^ 64) place small below))

  pub four_here : (place : ℕ) → place < 4 → bit_at (with_four marks first bits) (first + place) ≡ bit_at bits place
  four_here place among =
      let cleared : bit_at (15 * 2 ^ first % 2 ^ 64) (first + place) ≡ 1 = shifted_at 15 first place (omega arith) within ∙ bit_at_ones 4 place among in
      let set = shifted_at bits first place few within in
      omega (arith, both (first + place) (omega arith), cleared, set)

  pub four_others : (place : ℕ) → place < 64 → (place < first) ⊎ (first + 4 ≤ place) → bit_at (with_four marks first bits) place ≡ bit_at marks place
  four_others place below apart =
      let kept : bit_at (15 * 2 ^ first % 2 ^ 64) place ≡ 0 = shifted_other 15 first place (omega arith) within apart in
      let unset = shifted_other bits first place few within apart in
      omega (arith, both place below, kept, unset, bit_at-lt marks place)

-- ---- one bit among several

pub or_left : (a b place : ℕ) → bit_at a place ≡ 1 → bit_at (bit_or a b) place ≡ 1
or_left a b place is = omega (arith, bit_at_or a b place, bit_at-lt b place)

pub or_right : (a b place : ℕ) → bit_at b place ≡ 1 → bit_at (bit_or a b) place ≡ 1
or_right a b place is = omega (arith, bit_at_or a b place, bit_at-lt a place)

pub or_either : (a b place : ℕ) → bit_at (bit_or a b) place ≡ 1 → (bit_at a place ≡ 1) ⊎ (bit_at b place ≡ 1)
or_either a b place is =
    elim (cases_eq (bit_at a place) 1) [
      | inl set ↦ inl set
      | inr unset ↦ inr (omega (arith, bit_at_or a b place, bit_at-lt a place, bit_at-lt b place))
    ]

pub or_neither_left : (a b place : ℕ) → bit_at (bit_or a b) place ≡ 0 → bit_at a place ≡ 0
or_neither_left a b place is = omega (arith, bit_at_or a b place)

pub or_neither_right : (a b place : ℕ) → bit_at (bit_or a b) place ≡ 0 → bit_at b place ≡ 0
or_neither_right a b place is = omega (arith, bit_at_or a b place)

pub and_right : (a b place : ℕ) → bit_at (bit_and a b) place ≡ 1 → bit_at b place ≡ 1
and_right a b place is = omega (arith, bit_at_and a b place, bit_at-lt b place)

pub and_none : (a b place : ℕ) → bit_at (bit_and a b) place ≡ 0 → bit_at b place ≡ 1 → bit_at a place ≡ 0
and_none a b place is set = omega (arith, bit_at_and a b place)

-- one bit alone
pub alone_set : (place : ℕ) → place < 64 → bit_at (1 * 2 ^ place % 2 ^ 64) place ≡ 1
alone_set place below = ap (λ (n : ℕ). bit_at n place) (one_shl place 64 below) ∙ bit_at-pow_same place

pub alone_only : (place other : ℕ) → place < 64 → bit_at (1 * 2 ^ place % 2 ^ 64) other ≡ 1 → other ≡ place
alone_only place other below is =
    elim (cases_eq other place) [
      | inl same ↦ same
      | inr apart ↦ absurd (let none = ap (λ (n : ℕ). bit_at n other) (one_shl place 64 below) ∙ bit_at-pow_other place other apart in omega (arith, is, none))
    ]

-- the bits that are left once one was cleared
pub cleared : (word place : ℕ) → place < 64 → bit_at word place ≡ 1 → (bit_and word (bit_not w64 (1 * 2 ^ place % 2 ^ 64)) < word) × ((other : ℕ) → other < 64 → other ≢ place → bit_at (bit_and word (bit_not w64 (1 * 2 ^ place % 2 ^ 64))) other ≡ bit_at word other)
cleared word place within set =
    let left : ℕ = bit_and word (bit_not w64 (1 * 2 ^ place % 2 ^ 64)) in
    let gone : bit_at left place ≡ 0 = bit_at_clear_same w64 word place within in (
      elim (cases_eq left word) [
        | inl same ↦ absurd (let both : bit_at left place ≡ bit_at word place = ap (λ (n : ℕ). bit_at n place) same in omega arith)
        | inr other ↦ omega (arith, and_le_l word (bit_not w64 (1 * 2 ^ place % 2 ^ 64)))
      ],
      λ other small apart. bit_at_clear_other w64 word place within other small apart,
    )

pub cleared_within : (word place other : ℕ) → bit_at (bit_and word (bit_not w64 (1 * 2 ^ place % 2 ^ 64))) other ≡ 1 → bit_at word other ≡ 1
cleared_within word place other is = omega (arith, bit_at_and word (bit_not w64 (1 * 2 ^ place % 2 ^ 64)) other, bit_at-lt word other)

-- ---- what the bits of a tile say

pub number_few : (dir : Dir) → number_of dir < 4
number_few Left = omega arith
number_few Right = omega arith
number_few Up = omega arith
number_few Down = omega arith

-- a direction without a bit isn't given to
not_given : (intent : Intent) (dir : Dir) → bit_at (bits_of intent) (number_of dir) ≡ 0 → gives_to intent dir ≡ false
not_given Nothing dir none = refl
not_given Local dir none = refl
not_given (Takes port) dir none = refl
not_given TakesAny dir none = refl
not_given (Gives Left) Left none = absurd cc
not_given (Gives Left) Right none = refl
not_given (Gives Left) Up none = refl
not_given (Gives Left) Down none = refl
not_given (Gives Right) Left none = refl
not_given (Gives Right) Right none = absurd cc
not_given (Gives Right) Up none = refl
not_given (Gives Right) Down none = refl
not_given (Gives Up) Left none = refl
not_given (Gives Up) Right none = refl
not_given (Gives Up) Up none = absurd cc
not_given (Gives Up) Down none = refl
not_given (Gives Down) Left none = refl
not_given (Gives Down) Right none = refl
not_given (Gives Down) Up none = refl
not_given (Gives Down) Down none = absurd cc
not_given GivesAny Left none = absurd cc
not_given GivesAny Right none = absurd cc
not_given GivesAny Up none = absurd cc
not_given GivesAny Down none = absurd cc

module _ (grid : Grid) (state : State) where
  pub marked_here : (marks tile : ℕ) (intent : Intent) → ((dir : Dir) → is_giving grid state tile dir ≡ gives_to intent dir) → ((place : ℕ) → place < 4 → bit_at marks (4 * tile + place) ≡ bit_at (bits_of intent) place) → IsMarked grid state marks tile
  marked_here marks tile intent gives here = λ dir none. gives dir ∙ not_given intent dir (sym (here (number_of dir) (number_few dir)) ∙ none)

  pub marked_others : (old new tile other : ℕ) → other < 12 → other ≢ tile → ((place : ℕ) → place < 64 → (place < 4 * tile) ⊎ (4 * tile + 4 ≤ place) → bit_at new place ≡ bit_at old place) → IsMarked grid state old other → IsMarked grid state new other
  marked_others old new tile other within apart same was = λ dir none. was dir (sym (same (spot_of other dir) (omega (arith, number_few dir)) (elsewhere dir)) ∙ none)
    where
      elsewhere : (dir : Dir) → (spot_of other dir < 4 * tile) ⊎ (4 * tile + 4 ≤ spot_of other dir)
      elsewhere dir =
          elim (cases_lt other tile) [
            | inl below ↦ inl (omega (arith, number_few dir))
            | inr above ↦ inr (omega (arith, number_few dir))
          ]

-- the bits around a tile, direction by direction
pub all_around : (grid : Grid) (tile left right up down : ℕ) →
    ((next : ℕ) → next_tile grid tile Left ≡ Some next → bit_at left (spot_of next Right) ≡ 1) → ((place : ℕ) → bit_at left place ≡ 1 → place < 48) →
    ((next : ℕ) → next_tile grid tile Right ≡ Some next → bit_at right (spot_of next Left) ≡ 1) → ((place : ℕ) → bit_at right place ≡ 1 → place < 48) →
    ((next : ℕ) → next_tile grid tile Up ≡ Some next → bit_at up (spot_of next Down) ≡ 1) → ((place : ℕ) → bit_at up place ≡ 1 → place < 48) →
    ((next : ℕ) → next_tile grid tile Down ≡ Some next → bit_at down (spot_of next Up) ≡ 1) → ((place : ℕ) → bit_at down place ≡ 1 → place < 48) →
    PointAt grid tile (bit_or (bit_or (bit_or left right) up) down)
all_around grid tile left right up down to_left left_few to_right right_few to_up up_few to_down down_few = record { points = points; within = within }
  where
    points : (dir : Dir) (next : ℕ) → next_tile grid tile dir ≡ Some next → bit_at (bit_or (bit_or (bit_or left right) up) down) (spot_of next (opposite dir)) ≡ 1
    points Left next is = or_left (bit_or (bit_or left right) up) down _ (or_left (bit_or left right) up _ (or_left left right _ (to_left next is)))
    points Right next is = or_left (bit_or (bit_or left right) up) down _ (or_left (bit_or left right) up _ (or_right left right _ (to_right next is)))
    points Up next is = or_left (bit_or (bit_or left right) up) down _ (or_right (bit_or left right) up _ (to_up next is))
    points Down next is = or_right (bit_or (bit_or left right) up) down _ (to_down next is)

    within : (place : ℕ) → bit_at (bit_or (bit_or (bit_or left right) up) down) place ≡ 1 → place < 48
    within place is =
        elim (or_either (bit_or (bit_or left right) up) down place is) [
          | inl first ↦ elim (or_either (bit_or left right) up place first) [
            | inl second ↦ elim (or_either left right place second) [
              | inl third ↦ left_few place third
              | inr third ↦ right_few place third
            ]
            | inr second ↦ up_few place second
          ]
          | inr first ↦ down_few place first
        ]

-- where no bit is set that points at a tile, what is next to it there gives it nothing, and it is no stack
pub apart_there : (grid : Grid) (state : State) (tile next : ℕ) (dir : Dir) (marks always around : ℕ) → next < 12 → IsMarked grid state marks next → PointAt grid tile around → (is_memory_at grid tile ≡ true → always ≡ 2 ^ 64 - 1) → next_tile grid tile dir ≡ Some next →
    bit_at (bit_and (bit_or marks always) around) (spot_of next (opposite dir)) ≡ 0 → IsApart grid state tile next dir
apart_there grid state tile next dir marks always around below marked points stack is none =
    let place = spot_of next (opposite dir) in
    let neither : bit_at (bit_or marks always) place ≡ 0 = and_none (bit_or marks always) around place none (points.points dir next is) in
    (marked (opposite dir) (or_neither_left marks always place neither), no_stack (is_memory_at grid tile) refl)
  where
    no_stack : (b : Bool) → is_memory_at grid tile ≡ b → is_memory_at grid tile ≡ false
    no_stack false is_b = is_b
    no_stack true is_b =
        let place = spot_of next (opposite dir) in
        let neither : bit_at (bit_or marks always) place ≡ 0 = and_none (bit_or marks always) around place none (points.points dir next is) in
        let unset = or_neither_right marks always place neither in
        let set : bit_at always place ≡ 1 = ap (λ (n : ℕ). bit_at n place) (stack is_b) ∙ bit_at_ones 64 place (omega (arith, number_few (opposite dir))) in
        absurd (omega (arith, unset, set))
