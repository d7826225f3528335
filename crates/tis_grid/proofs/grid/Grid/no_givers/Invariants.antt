use Rattle.std.proofs.Common.{◌≡◌, ℕ, ◌-◌, ◌^◌, ◌<◌, length, get_or, true}
use Rattle.tis_grid.specs.Events.{is_memory_at}
use Rattle.tis_grid.specs.HeldChoices.{PointAt}
use Rattle.tis_grid.proofs.grid.Grid.no_givers.Given as goal

abbrev pub invariant-loop-number : goal.invariant-loop-number
invariant-loop-number l =
    record {
      around_len : length l.around ≡ 12;
      always_len : length l.always ≡ 12;
      around : (tile : ℕ) → tile < l.number → PointAt l.self tile (get_or l.around tile 0);
      always : (tile : ℕ) → tile < l.number → is_memory_at l.self tile ≡ true → get_or l.always tile 0 ≡ 2 ^ 64 - 1;
    }
