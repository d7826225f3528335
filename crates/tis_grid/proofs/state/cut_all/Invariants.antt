use Rattle.std.proofs.Common.{◌≡◌, ℕ, ◌<◌, ◌≤◌, length, get_or, map, option_map, None}
use Rattle.tis_grid.specs.HeldState.{NeverFall}
use Rattle.tis_grid.specs.Points.{cut}
use Rattle.tis_grid.proofs.state.cut_all.Given as goal

abbrev pub invariant-loop-position : goal.invariant-loop-position
invariant-loop-position l =
    record {
      len : length l.outs ≡ length l.initial.outs;
      never_fall : NeverFall (map (option_map (λ v. v.spare)) l.initial.outs) (map (option_map (λ v. v.spare)) l.outs);
      done : (k : ℕ) → k < l.position → get_or (map (option_map (λ v. v.items)) l.outs) k None ≡ cut (get_or l.lengths k None) (get_or (map (option_map (λ v. v.items)) l.initial.outs) k None);
      still : (k : ℕ) → l.position ≤ k → get_or (map (option_map (λ v. v.items)) l.outs) k None ≡ get_or (map (option_map (λ v. v.items)) l.initial.outs) k None;
    }
