-- The tests of the form, step by step.
use Rattle.std.proofs.Common.{◌≡◌, ℕ, zero, suc, ◌+◌, ◌*◌, ◌<◌, ◌≤◌, Bool, true, false, List, [], ◌∷◌, length, drop, Some, refl, sym, ap, ◌∙◌, inl, inr, arith}
use Rattle.std.specs.Prelude.{◌==◌, ◌&&◌, ◌||◌, slice_get, option_map, count_by, replicate, cond}
use Rattle.std.proofs.lemmas.List.Sums.{sum_by-cons, count_by-le-length}
use Rattle.tis_base.specs.Tiles.{Tiles, AreTiles, is_compute}
use Rattle.tis_base.specs.declared.tiles.Shape.{Shape}
use Rattle.tis_base.specs.declared.tiles.TileKind.{TileKind}
use Rattle.tis_base.specs.declared.tiles.TileKind.TheVariants.{Compute, Memory, Damaged}
use Rattle.std.proofs.lemmas.Bool.{eq-eqb, ne_eqb, cases_eq}
use Rattle.std.proofs.lemmas.List.{drop_all}
use Rattle.net_tree.specs.Tree.{Statement}
use Rattle.net_column.specs.Column.{plain_tiles, is_operation, sends_on, gets_from, moves_between, is_over, computes_and_sends, is_round, are_same, tiles_below}

-- ---- paths

pub none_same : (path : List ℕ) → (length path == 0) ≡ are_same path []
none_same [] = refl
none_same (tile ∷ path) = ne_eqb (length (tile ∷ path)) 0 (λ e. omega (arith, e))

pub not_one : (path : List ℕ) (tile : ℕ) → (length path ≡ 1 → ⊥) → false ≡ are_same path (tile ∷ [])
not_one [] tile differs = refl
not_one (first ∷ []) tile differs = absurd (differs (omega arith))
not_one (first ∷ second ∷ path) tile differs = by (first == tile)
  where
    by : (b : Bool) → false ≡ (b && false)
    by true = refl
    by false = refl

pub one_same : (path : List ℕ) (tile at : ℕ) → length path ≡ 1 → slice_get path 0 ≡ Some at → (at == tile) ≡ are_same path (tile ∷ [])
one_same [] tile at one found = absurd (omega (arith, one))
one_same (first ∷ []) tile at one found = by first at found
  where
    by : (x y : ℕ) → Some x ≡ Some y → (y == tile) ≡ (x == tile && true)
    by x y e = let same : x ≡ y = cc in last (y == tile) ∙ ap (λ (n : ℕ). n == tile && true) (sym same)
      where
        last : (b : Bool) → b ≡ (b && true)
        last true = refl
        last false = refl
one_same (first ∷ second ∷ path) tile at one found = absurd (omega (arith, one))

pub not_two : (path : List ℕ) (one other : ℕ) → (length path ≡ 2 → ⊥) → false ≡ are_same path (one ∷ other ∷ [])
not_two [] one other differs = refl
not_two (first ∷ []) one other differs = by (first == one)
  where
    by : (b : Bool) → false ≡ (b && false)
    by true = refl
    by false = refl
not_two (first ∷ second ∷ []) one other differs = absurd (differs (omega arith))
not_two (first ∷ second ∷ third ∷ path) one other differs = by (first == one) (second == other)
  where
    by : (a b : Bool) → false ≡ (a && (b && false))
    by true true = refl
    by true false = refl
    by false b = refl

pub two_same : (path : List ℕ) (one other first second : ℕ) → length path ≡ 2 → slice_get path 0 ≡ Some first → slice_get path 1 ≡ Some second → (first == one && second == other) ≡ are_same path (one ∷ other ∷ [])
two_same [] one other first second two a b = absurd (omega (arith, two))
two_same (x ∷ []) one other first second two a b = absurd (omega (arith, two))
two_same (x ∷ y ∷ []) one other first second two a b = by x first y second a b
  where
    last : (c : Bool) → c ≡ (c && true)
    last true = refl
    last false = refl

    by : (p q r s : ℕ) → Some p ≡ Some q → Some r ≡ Some s → (q == one && s == other) ≡ (p == one && (r == other && true))
    by p q r s e f =
        let same : p ≡ q = cc in
        let also : r ≡ s = cc in
        ap (λ (c : Bool). q == one && c) (last (s == other)) ∙ ap (λ (n : ℕ). q == one && (n == other && true)) (sym also) ∙ ap (λ (n : ℕ). n == one && (r == other && true)) (sym same)
two_same (x ∷ y ∷ z ∷ path) one other first second two a b = absurd (omega (arith, two))

pub two_below : (position count : ℕ) → count < 2 → tiles_below position count ≡ (position + 4) ∷ (position + 8) ∷ []
two_below position zero few = refl
two_below position (suc zero) few = refl
two_below position (suc (suc count)) few = absurd (omega (arith, few))

pub one_below : (position count : ℕ) → count ≡ 2 → tiles_below position count ≡ (position + 8) ∷ []
one_below position count is = ap (tiles_below position) is

pub none_below : (position count : ℕ) → 2 < count → tiles_below position count ≡ []
none_below position zero many = absurd (omega (arith, many))
none_below position (suc zero) many = absurd (omega (arith, many))
none_below position (suc (suc zero)) many = absurd (omega (arith, many))
none_below position (suc (suc (suc count))) many = refl

-- ---- statements

-- the next of some statements
next_statement : (all : List (ℕ × Statement ℕ)) (index : ℕ) (s : Statement ℕ) → option_map (λ x. x.1) (slice_get all index) ≡ Some s → (line : ℕ) × (drop index all ≡ (line, s) ∷ drop (index + 1) all) × (index < length all)
next_statement [] index s is = absurd (nothing index is)
  where
    nothing : (index : ℕ) → option_map (λ (x : ℕ × Statement ℕ). x.1) (slice_get [] index) ≡ Some s → ⊥
    nothing zero is = absurd cc
    nothing (suc index) is = absurd cc
next_statement (first ∷ all) zero s is = (first.0, ap (λ (x : Statement ℕ). (first.0, x) ∷ all) (some first.1 s is), omega arith)
  where
    some : (x y : Statement ℕ) → Some x ≡ Some y → x ≡ y
    some x y e = cc
next_statement (first ∷ all) (suc index) s is =
    let later = next_statement all index s is in
    let more : suc (index + 1) ≡ suc index + 1 = omega arith in
    (later.0, later.1 ∙ ap (λ (n : ℕ). (later.0, s) ∷ drop n (first ∷ all)) more, omega (arith, later.2))

-- whether it is the last one
some_left : {X : Type 0} (xs : List X) (n : ℕ) → n < length xs → is_over (drop n xs) ≡ false
some_left [] n within = absurd (omega (arith, within))
some_left (x ∷ xs) zero within = refl
some_left (x ∷ xs) (suc n) within = some_left xs n (omega (arith, within))

over_is : {X : Type 0} (xs : List X) (n : ℕ) → n < length xs → is_over (drop (n + 1) xs) ≡ (n + 1 == length xs)
over_is xs n within =
    elim (cases_eq (n + 1) (length xs)) [
      | inl same ↦ ap is_over (drop_all (n + 1) xs (omega (arith, same))) ∙ sym (eq-eqb (n + 1) (length xs) same)
      | inr apart ↦ some_left xs (n + 1) (before n (length xs) within apart) ∙ sym (ne_eqb (n + 1) (length xs) apart)
    ]
  where
    before : (a b : ℕ) → a < b → (a + 1 ≡ b → ⊥) → a + 1 < b
    before a b less apart = omega (arith, less, apart)

pub next_computes : (written : ℕ) (all : List (ℕ × Statement ℕ)) (index : ℕ) (s : Statement ℕ) → option_map (λ x. x.1) (slice_get all index) ≡ Some s →
    computes_and_sends written (drop index all) ≡ (((index + 1 == length all) && sends_on written s) || (is_operation s && computes_and_sends written (drop (index + 1) all)))
next_computes written all index s is =
    let next = next_statement all index s is in
    ap (computes_and_sends written) next.1
    ∙ ap (λ (b : Bool). (b && sends_on written s) || (is_operation s && computes_and_sends written (drop (index + 1) all))) (over_is all index next.2)

pub computes_end : (written : ℕ) (all : List (ℕ × Statement ℕ)) (index : ℕ) → length all ≤ index → computes_and_sends written (drop index all) ≡ false
computes_end written all index past = ap (computes_and_sends written) (drop_all index all past)

-- by what was found of a statement
it_sends : (a b : Bool) → a ≡ true → true ≡ (a || b)
it_sends true b is = refl
it_sends false b is = absurd cc

it_computes : (a b c : Bool) → a ≡ false → b ≡ true → (a || (b && c)) ≡ c
it_computes false true c first second = refl
it_computes false false c first second = absurd cc
it_computes true b c first second = absurd cc

it_does_neither : (a b c : Bool) → a ≡ false → b ≡ false → false ≡ (a || (b && c))
it_does_neither false false c first second = refl
it_does_neither false true c first second = absurd cc
it_does_neither true b c first second = absurd cc

module _ (written : ℕ) (all : List (ℕ × Statement ℕ)) (index len : ℕ) (s : Statement ℕ) (here : option_map (λ (x : ℕ × Statement ℕ). x.1) (slice_get all index) ≡ Some s) (whole : Bool) (so_far : whole ≡ computes_and_sends written (drop index all)) (count : len ≡ length all) (sends operates : Bool) (sends_is : sends ≡ sends_on written s) (operates_is : operates ≡ is_operation s) where
  step : whole ≡ (((index + 1 == len) && sends) || (operates && computes_and_sends written (drop (index + 1) all)))
  step =
      so_far ∙ next_computes written all index s here
      ∙ ap (λ (n : ℕ). ((index + 1 == n) && sends_on written s) || (is_operation s && computes_and_sends written (drop (index + 1) all))) (sym count)
      ∙ ap (λ (b : Bool). ((index + 1 == len) && b) || (is_operation s && computes_and_sends written (drop (index + 1) all))) (sym sends_is)
      ∙ ap (λ (b : Bool). ((index + 1 == len) && sends) || (b && computes_and_sends written (drop (index + 1) all))) (sym operates_is)

  pub found_computing : ((index + 1 == len) && sends) ≡ false → operates ≡ true → whole ≡ computes_and_sends written (drop (index + 1) all)
  found_computing first second = step ∙ it_computes ((index + 1 == len) && sends) operates (computes_and_sends written (drop (index + 1) all)) first second

  pub found_neither : ((index + 1 == len) && sends) ≡ false → operates ≡ false → false ≡ whole
  found_neither first second = it_does_neither ((index + 1 == len) && sends) operates (computes_and_sends written (drop (index + 1) all)) first second ∙ sym step

pub found_sending : (written : ℕ) (all : List (ℕ × Statement ℕ)) (index len : ℕ) (s : Statement ℕ) → option_map (λ (x : ℕ × Statement ℕ). x.1) (slice_get all index) ≡ Some s → (whole : Bool) → whole ≡ computes_and_sends written (drop index all) → len ≡ length all →
    (sends : Bool) → sends ≡ sends_on written s → ((index + 1 == len) && sends) ≡ true → true ≡ whole
found_sending written all index len s here whole so_far count sends sends_is both =
    it_sends ((index + 1 == len) && sends) (is_operation s && computes_and_sends written (drop (index + 1) all)) both
    ∙ sym (step written all index len s here whole so_far count sends (is_operation s) sends_is refl)

pub round_by : (read written : ℕ) (all : List (ℕ × Statement ℕ)) (s : Statement ℕ) → option_map (λ x. x.1) (slice_get all 0) ≡ Some s →
    is_round read written all ≡ (((length all == 1) && moves_between read written s) || (gets_from read s && computes_and_sends written (drop 1 all)))
round_by read written [] s is = absurd cc
round_by read written (first ∷ all) s is =
    ap (λ (x : Statement ℕ). (is_over all && moves_between read written x) || (gets_from read x && computes_and_sends written all)) (some first.1 s is)
    ∙ ap (λ (b : Bool). (b && moves_between read written s) || (gets_from read s && computes_and_sends written all)) (one all)
  where
    some : (x y : Statement ℕ) → Some x ≡ Some y → x ≡ y
    some x y e = cc

    one : (rest : List (ℕ × Statement ℕ)) → is_over rest ≡ (suc (length rest) == 1)
    one [] = refl
    one (x ∷ rest) = sym (ne_eqb (suc (length (x ∷ rest))) 1 (λ e. omega (arith, e)))

pub round_empty : (read written : ℕ) (all : List (ℕ × Statement ℕ)) → length all ≡ 0 → false ≡ is_round read written all
round_empty read written [] none = refl
round_empty read written (s ∷ all) none = absurd (omega (arith, none))

-- ---- truth values

pub and_true : (a b : Bool) → a ≡ true → (a && b) ≡ b
and_true true b is = refl
and_true false b is = absurd cc

pub and_false : (a b : Bool) → a ≡ false → (a && b) ≡ false
and_false true b is = absurd cc
and_false false b is = refl

-- ---- tiles

all_compute : (kinds : List TileKind) → count_by is_compute kinds ≡ length kinds → kinds ≡ replicate (length kinds) Compute
all_compute [] is = refl
all_compute (Compute ∷ kinds) is = ap (λ (l : List TileKind). Compute ∷ l) (all_compute kinds (omega (arith, is, sum_by-cons (λ (k : TileKind). cond (is_compute k) 1 0) Compute kinds)))
all_compute (Memory ∷ kinds) is = absurd (omega (arith, is, sum_by-cons (λ (k : TileKind). cond (is_compute k) 1 0) Memory kinds, count_by-le-length is_compute kinds))
all_compute (Damaged ∷ kinds) is = absurd (omega (arith, is, sum_by-cons (λ (k : TileKind). cond (is_compute k) 1 0) Damaged kinds, count_by-le-length is_compute kinds))

-- twelve compute tiles
pub plain_is : (tiles : Tiles) → AreTiles tiles.shape tiles.kinds → count_by is_compute tiles.kinds ≡ 12 → tiles ≡ plain_tiles
plain_is tiles are is =
    let twelve : length tiles.kinds ≡ 12 = are.filled ∙ ap (λ (n : ℕ). n * tiles.shape.rows) are.allowed.0 ∙ ap (λ (n : ℕ). 4 * n) are.allowed.1 in
    let kinds : tiles.kinds ≡ replicate 12 Compute = all_compute tiles.kinds (is ∙ sym twelve) ∙ ap (λ (n : ℕ). replicate n Compute) twelve in
    let shape : tiles.shape ≡ record { columns = 4; rows = 3 } =
    ap (λ (n : ℕ). let s : Shape = record { columns = n; rows = tiles.shape.rows } in s) are.allowed.0 ∙ ap (λ (n : ℕ). let s : Shape = record { columns = 4; rows = n } in s) are.allowed.1 in
    ap (λ (s : Shape). let t : Tiles = record { shape = s; kinds = tiles.kinds } in t) shape ∙ ap (λ (k : List TileKind). let t : Tiles = record { shape = plain_tiles.shape; kinds = k } in t) kinds

pub plain_count : (tiles : Tiles) → tiles ≡ plain_tiles → count_by is_compute tiles.kinds ≡ 12
plain_count tiles is = ap (λ (t : Tiles). count_by is_compute t.kinds) is
