-- The seeds so far, and the words that are left.
use Rattle.std.proofs.Common.{◌≡◌, [], ◌++◌, drop, length, map, option_map}
use Rattle.std.specs.Prelude.{string_bytes}
use Rattle.tis_cli.specs.Commands.{all_seeds, kept_seeds}
use Rattle.tis_cli.proofs.command.seeds_of.Given as goal

abbrev pub invariant-loop-index : goal.invariant-loop-index
invariant-loop-index l =
    record {
      left : all_seeds (map string_bytes l.words) ≡ option_map (λ rest. kept_seeds l.seeds ++ rest) (all_seeds (drop l.index (map string_bytes l.words)));
      long : length l.seeds ≡ 8;
      free : kept_seeds (drop l.index l.seeds) ≡ [];
    }
