use Rattle.std.proofs.Common.{◌≡◌, ℕ, ◌<◌, get_or, map, option_map, None}
use Rattle.tis_grid.specs.HeldState.{HasSpare, NeverFall}
use Rattle.tis_grid.proofs.state.reserve_each.Given as goal

abbrev pub invariant-loop-position : goal.invariant-loop-position
invariant-loop-position l =
    record {
      items : map (option_map (λ v. v.items)) l.outs ≡ map (option_map (λ v. v.items)) l.initial.outs;
      never_fall : NeverFall (map (option_map (λ v. v.spare)) l.initial.outs) (map (option_map (λ v. v.spare)) l.outs);
      done : (k : ℕ) → k < l.position → HasSpare l.count (get_or (map (option_map (λ v. v.spare)) l.outs) k None);
    }
