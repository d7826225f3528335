use Rattle.std.proofs.Common.{◌≡◌, ℕ, ◌<◌, length, get_or, option_map, None}
use Rattle.tis_grid.proofs.state.lengths_of.Given as goal

abbrev pub invariant-loop-position : goal.invariant-loop-position
invariant-loop-position l =
    (length l.lengths ≡ 4)
    × ((k : ℕ) → k < l.position → get_or l.lengths k None ≡ option_map (λ values. length values) (option_map (λ v. v.items) (get_or l.outs k None)))
