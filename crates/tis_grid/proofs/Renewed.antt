-- Lists that were made anew one behind the other.
use Rattle.std.proofs.Common.{◌≡◌, ◌≢◌, ℕ, ◌+◌, ◌/◌, ◌<◌, ◌≤◌, length, Some, inl, inr, sym, subst, arith}
use Rattle.std.specs.Prelude.{◌⊎◌, bit_and, bit_or, get_or}
use Rattle.std.specs.Int.{bit_at}
use Rattle.std.proofs.lemmas.Bool.{cases_eq}
use Rattle.std.proofs.lemmas.Nat.Bits.{bit_at-lt}
use Rattle.tis_base.specs.Tiles.{opposite}
use Rattle.tis_base.specs.declared.tiles.Dir.{Dir}
use Rattle.tis_grid.specs.declared.choices.Choices.{Choices}
use Rattle.tis_grid.specs.declared.givers.Givers.{Givers}
use Rattle.tis_grid.specs.State.{Grid, IsGrid, State}
use Rattle.tis_grid.specs.Events.{next_tile}
use Rattle.tis_grid.specs.HeldChoices.{IsRight, IsApart, IsMarked, AreAround, AreGivers, AreRenewed, spot_of, tile_at}
use Rattle.tis_grid.proofs.Marked.{number_few, apart_there}
use Rattle.tis_grid.proofs.Frames.{within_twelve}

-- around a tile each list is right whose bit was set, and nothing concerns the others
pub renewed : (grid : Grid) (state : State) (tile : ℕ) (old new : Choices) (places : ℕ) → length new.lists ≡ 20 →
    IsRight grid state new.lists tile → ((list : ℕ) → 12 ≤ list → list < 20 → tile_at list ≡ tile → IsRight grid state new.lists list) →
    ((place : ℕ) → place < 48 → bit_at places place ≡ 1 → IsRight grid state new.lists (place / 4)) → ((place : ℕ) → bit_at places place ≡ 1 → place < 48) →
    ((dir : Dir) (next : ℕ) → next_tile grid tile dir ≡ Some next → bit_at places (spot_of next (opposite dir)) ≡ 0 → IsApart grid state tile next dir) →
    ((list : ℕ) → IsRight grid state old.lists list → IsRight grid state new.lists list) →
    AreRenewed grid state tile old new
renewed grid state tile old new places len here ports each few apart others = record { len = len; here = here; ports = ports; around = around; others = others }
  where
    around : (dir : Dir) (next : ℕ) → next_tile grid tile dir ≡ Some next → IsRight grid state new.lists next ⊎ IsApart grid state tile next dir
    around dir next is =
        elim (cases_eq (bit_at places (spot_of next (opposite dir))) 1) [
          | inl set ↦ inl (subst (λ (t : ℕ). IsRight grid state new.lists t) (omega (arith, number_few (opposite dir))) (each (spot_of next (opposite dir)) (few (spot_of next (opposite dir)) set) set))
          | inr unset ↦ inr (apart dir next is (omega (arith, bit_at-lt places (spot_of next (opposite dir)))))
        ]

-- what is around tiles doesn't go by what is marked
pub around_stays : (grid : Grid) (old new : Givers) → new ≡ record old { marks = new.marks } → AreAround grid old → AreAround grid new
around_stays grid old new is was =
    subst (λ (g : Givers). AreAround grid g) (sym is) (record { around_len = was.around_len; always_len = was.always_len; around = was.around; always = was.always })

-- once two tiles were marked anew all are right
pub all_marked : (grid : Grid) (state : State) (first second old once twice : ℕ) →
    ((other : ℕ) → other < 12 → other ≢ first → other ≢ second → IsMarked grid state old other) →
    IsMarked grid state once first → ((other : ℕ) → other < 12 → other ≢ first → IsMarked grid state old other → IsMarked grid state once other) →
    IsMarked grid state twice second → ((other : ℕ) → other < 12 → other ≢ second → IsMarked grid state once other → IsMarked grid state twice other) →
    (tile : ℕ) → tile < 12 → IsMarked grid state twice tile
all_marked grid state first second old once twice were is_first once_others is_second twice_others tile within =
    elim (cases_eq tile second) [
      | inl same ↦ subst (λ (t : ℕ). IsMarked grid state twice t) (sym same) is_second
      | inr not_second ↦ twice_others tile within not_second (elim (cases_eq tile first) [
        | inl same ↦ subst (λ (t : ℕ). IsMarked grid state once t) (sym same) is_first
        | inr not_first ↦ once_others tile within not_first (were tile within not_first not_second)
      ])
    ]

-- one tile more is marked
pub one_more_marked : (grid : Grid) (state : State) (old new number : ℕ) → number < 12 → ((tile : ℕ) → tile < number → IsMarked grid state old tile) → IsMarked grid state new number →
    ((other : ℕ) → other < 12 → other ≢ number → IsMarked grid state old other → IsMarked grid state new other) → (tile : ℕ) → tile < number + 1 → IsMarked grid state new tile
one_more_marked grid state old new number within were here others tile below =
    elim (cases_eq tile number) [
      | inl same ↦ subst (λ (t : ℕ). IsMarked grid state new t) (sym same) here
      | inr apart ↦ others tile (omega arith) apart (were tile (omega arith))
    ]

-- what is next to a tile is apart from it, where its bit isn't set
pub apart_at : (grid : Grid) (state : State) (givers : Givers) (tile : ℕ) → IsGrid grid → AreGivers grid state givers → tile < 12 → (dir : Dir) (next : ℕ) → next_tile grid tile dir ≡ Some next →
    bit_at (bit_and (bit_or givers.marks (get_or givers.always tile 0)) (get_or givers.around tile 0)) (spot_of next (opposite dir)) ≡ 0 → IsApart grid state tile next dir
apart_at grid state givers tile is_grid are within dir next is none =
    let tiles = is_grid.puzzle.tiles in
    let below = within_twelve grid.puzzle.tiles.shape tile next dir tiles.allowed.0 tiles.allowed.1 within is in
    apart_there grid state tile next dir givers.marks (get_or givers.always tile 0) (get_or givers.around tile 0) below (are.marked next below) (are.around.around tile within) (are.around.always tile within) is none

-- so they and what is around each are right
pub all_givers : (grid : Grid) (state : State) (first second : ℕ) (old once twice : Givers) → AreAround grid old → once ≡ record old { marks = once.marks } → twice ≡ record once { marks = twice.marks } →
    ((other : ℕ) → other < 12 → other ≢ first → other ≢ second → IsMarked grid state old.marks other) →
    IsMarked grid state once.marks first → ((other : ℕ) → other < 12 → other ≢ first → IsMarked grid state old.marks other → IsMarked grid state once.marks other) →
    IsMarked grid state twice.marks second → ((other : ℕ) → other < 12 → other ≢ second → IsMarked grid state once.marks other → IsMarked grid state twice.marks other) →
    AreGivers grid state twice
all_givers grid state first second old once twice around is_once is_twice were is_first once_others is_second twice_others =
    record {
      around = around_stays grid once twice is_twice (around_stays grid old once is_once around);
      marked = all_marked grid state first second old.marks once.marks twice.marks were is_first once_others is_second twice_others;
    }
