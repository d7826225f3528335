-- How many points of a picture aren't as wanted, value by value.
use Rattle.std.proofs.Common.{◌≡◌, ℕ, zero, suc, ◌+◌, ◌≤◌, ℤ, pos, negsuc, true, false, cond, List, [], ◌∷◌, length, take, drop, map, replicate, Option, Some, None, refl, sym, ap, ap₂, ◌∙◌, arith}
use Rattle.std.specs.Prelude.{Bool, slice_get, slice_set, nat_lt, nat_le, ◌&&◌}
use Rattle.std.specs.Ordering.{int_eq}
use Rattle.std.proofs.lemmas.Bool.{cond-false, and_from, and_left}
use Rattle.std.proofs.lemmas.Option.{none-some, same_Some, some_pair_parts}
use Rattle.tis_devices.specs.Picture.{COLUMNS, ROWS, RED, Place, BeforeX, BeforeY, Before, Picture, next_point, point_of, is_painted, painted, drawn_at, after_value, after_values}
use Rattle.std.proofs.lemmas.List.{length-map}
use Rattle.tis_grade.specs.Verdict.{are_same}
use Rattle.tis_grade.specs.Following.{differs, differences}
use Rattle.tis_grade.proofs.Streams.{lengths_differ}

-- ---- one colour of a list

set_same : (colours : List ℕ) (index colour : ℕ) → slice_get colours index ≡ Some colour → slice_set colours index colour ≡ colours
set_same [] index colour is = refl
set_same (c ∷ colours) zero colour is = ap (λ (x : ℕ). x ∷ colours) (sym (same_Some c colour is))
set_same (c ∷ colours) (suc index) colour is = ap (λ (xs : List ℕ). c ∷ xs) (set_same colours index colour is)

set_reads : (colours : List ℕ) (index put colour : ℕ) → slice_get (slice_set colours index put) index ≡ Some colour → slice_set colours index put ≡ slice_set colours index colour
set_reads [] index put colour is = refl
set_reads (c ∷ colours) zero put colour is = ap (λ (x : ℕ). x ∷ colours) (same_Some put colour is)
set_reads (c ∷ colours) (suc index) put colour is = ap (λ (xs : List ℕ). c ∷ xs) (set_reads colours index put colour is)

-- the count behind a change of one colour
pub differences_change : (wanted : List ℤ) (colours : List ℕ) (index old new : ℕ) → slice_get colours index ≡ Some old →
    differences wanted (slice_set colours index new) + differs (slice_get wanted index) old ≡ differences wanted colours + differs (slice_get wanted index) new
differences_change [] colours index old new is = refl
differences_change (w ∷ wanted) [] index old new is = absurd (none-some old is)
differences_change (w ∷ wanted) (c ∷ colours) zero old new is =
    let first : differs (Some w) c ≡ differs (Some w) old = ap (λ (x : ℕ). differs (Some w) x) (same_Some c old is) in
    omega (arith, first)
differences_change (w ∷ wanted) (c ∷ colours) (suc index) old new is =
    let rest = differences_change wanted colours index old new is in
    omega (arith, rest)

-- there are no more than colours
pub few_differences : (wanted : List ℤ) (colours : List ℕ) → differences wanted colours ≤ length colours
few_differences [] colours = omega arith
few_differences (w ∷ wanted) [] = omega arith
few_differences (w ∷ wanted) (c ∷ colours) = let rest = few_differences wanted colours in let one = one_differs w c in omega (arith, rest, one)
  where
    one_differs : (want : ℤ) (colour : ℕ) → differs (Some want) colour ≤ 1
    one_differs want colour = elim (int_eq want (pos colour)) as (λ b. cond b 0 1 ≤ 1) [ true ↦ omega arith | false ↦ omega arith ]

-- ---- one value of a drawing

-- where the drawing stands at no point, no colour changes
pub stays : (shown : Picture) (value : ℤ) → next_point shown.place ≡ None → (after_value shown value).colours ≡ shown.colours
stays shown (negsuc number) none = refl
stays shown (pos number) none = number_stays shown.place shown.colours number none
  where
    beside : (x y number : ℕ) (colours : List ℕ) (b : Bool) → (nat_lt x COLUMNS && nat_lt y ROWS) ≡ b → cond {A = Option (ℕ × ℕ)} b (Some (x, y)) None ≡ None → painted colours x y number ≡ colours
    beside x y number colours true is none = absurd (none-some (x, y) (sym none))
    beside x y number colours false is none = cond-false (is_painted x y number) (slice_set colours (point_of x y) number) colours (and_left (nat_lt x COLUMNS && nat_lt y ROWS) (nat_le number RED) is)

    number_stays : (place : Place) (colours : List ℕ) (number : ℕ) → next_point place ≡ None → (drawn_at place colours number).colours ≡ colours
    number_stays BeforeX colours number none = refl
    number_stays (BeforeY x) colours number none = refl
    number_stays (Before x y) colours number none = beside x y number colours (nat_lt x COLUMNS && nat_lt y ROWS) refl none

same_point : (column row x y : ℕ) (b : Bool) → cond {A = Option (ℕ × ℕ)} b (Some (column, row)) None ≡ Some (x, y) → (column ≡ x) × (row ≡ y)
same_point column row x y true is = some_pair_parts column x row y is
same_point column row x y false is = absurd (none-some (x, y) is)

-- where it stands at a point, no other colour does
pub changes_there : (shown : Picture) (value : ℤ) (x y new : ℕ) → next_point shown.place ≡ Some (x, y) → slice_get (after_value shown value).colours (point_of x y) ≡ Some new →
    (after_value shown value).colours ≡ slice_set shown.colours (point_of x y) new
changes_there shown (negsuc number) x y new there is = sym (set_same shown.colours (point_of x y) new is)
changes_there shown (pos number) x y new there is = number_changes shown.place shown.colours number there is
  where
    point_changes : (colours : List ℕ) (number at : ℕ) (paints : Bool) → slice_get (cond paints (slice_set colours at number) colours) at ≡ Some new → cond paints (slice_set colours at number) colours ≡ slice_set colours at new
    point_changes colours number at true is = set_reads colours at number new is
    point_changes colours number at false is = sym (set_same colours at new is)

    number_changes : (place : Place) (colours : List ℕ) (number : ℕ) → next_point place ≡ Some (x, y) → slice_get (drawn_at place colours number).colours (point_of x y) ≡ Some new → (drawn_at place colours number).colours ≡ slice_set colours (point_of x y) new
    number_changes BeforeX colours number there is = absurd (none-some (x, y) there)
    number_changes (BeforeY at) colours number there is = absurd (none-some (x, y) there)
    number_changes (Before column row) colours number there is =
        let point : (column ≡ x) × (row ≡ y) = same_point column row x y (nat_lt column COLUMNS && nat_lt row ROWS) there in
        let same : point_of column row ≡ point_of x y = ap₂ (λ (c : ℕ) (r : ℕ). point_of c r) point.0 point.1 in
        ap (λ (at : ℕ). cond (is_painted column row number) (slice_set colours at number) colours) same
        ∙ point_changes colours number (point_of x y) (is_painted column row number) (ap (λ (at : ℕ). slice_get (cond (is_painted column row number) (slice_set colours at number) colours) (point_of x y)) (sym same) ∙ is)

-- ---- all values

-- one value more is drawn
pub one_drawn : (shown : Picture) (values : List ℤ) (index : ℕ) (value : ℤ) → slice_get values index ≡ Some value → after_values shown (take (suc index) values) ≡ after_value (after_values shown (take index values)) value
one_drawn shown [] index value is = absurd (none-some value is)
one_drawn shown (v ∷ values) zero value is = ap (λ (u : ℤ). after_value shown u) (same_Some v value is)
one_drawn shown (v ∷ values) (suc index) value is = one_drawn (after_value shown v) values index value is

-- ---- whether the picture is as wanted

pub picture_same : (wanted : List ℤ) (colours : List ℕ) → length wanted ≡ length colours → differences wanted colours ≡ 0 → are_same wanted (map pos colours) ≡ true
picture_same [] [] same none = refl
picture_same [] (c ∷ colours) same none = absurd (omega arith)
picture_same (w ∷ wanted) [] same none = absurd (omega arith)
picture_same (w ∷ wanted) (c ∷ colours) same none =
    and_from (int_eq w (pos c)) (are_same wanted (map pos colours))
    (elim (int_eq w (pos c)) as (λ b. cond b 0 1 + differences wanted colours ≡ 0 → b ≡ true) [ true ↦ λ here. refl | false ↦ λ here. absurd (omega arith) ] none)
    (picture_same wanted colours (omega arith) (omega (arith, none)))

pub picture_other : (wanted : List ℤ) (colours : List ℕ) → (differences wanted colours ≡ 0 → ⊥) → are_same wanted (map pos colours) ≡ false
picture_other [] colours some = absurd (some refl)
picture_other (w ∷ wanted) [] some = absurd (some refl)
picture_other (w ∷ wanted) (c ∷ colours) some =
    elim (int_eq w (pos c)) as (λ b. (cond b 0 1 + differences wanted colours ≡ 0 → ⊥) → (b && are_same wanted (map pos colours)) ≡ false) [
      | true ↦ λ here. picture_other wanted colours (λ is. here (omega (arith, is)))
      | false ↦ λ here. refl
    ] some

pub picture_length : (wanted : List ℤ) (colours : List ℕ) → (length wanted ≡ length colours → ⊥) → are_same wanted (map pos colours) ≡ false
picture_length wanted colours apart = lengths_differ wanted (map pos colours) (λ is. apart (sym is ∙ length-map colours pos))

-- ---- a black picture

pub one_point : (wanted : List ℤ) (index more : ℕ) → differences (drop index wanted) (replicate (suc more) 0) ≡ differs (slice_get wanted index) 0 + differences (drop (suc index) wanted) (replicate more 0)
one_point [] zero more = refl
one_point [] (suc index) more = refl
one_point (w ∷ wanted) zero more = refl
one_point (w ∷ wanted) (suc index) more = one_point wanted index more

pub no_points : (wanted : List ℤ) → differences wanted [] ≡ 0
no_points [] = refl
no_points (w ∷ wanted) = refl
