use Rattle.std.proofs.Common.{◌≡◌, ◌++◌, map, drop, option_map}
use Rattle.lua_plain.specs.Plain.{plain_view}
use Rattle.tis_puzzle.specs.Entries.{values_of}
use Rattle.tis_puzzle.proofs.entries.values.Given as goal

abbrev pub invariant-list : goal.invariant-list
invariant-list l = option_map (λ more. l.values.items ++ more) (values_of (map plain_view (drop l.plain-index l.list))) ≡ values_of (map plain_view l.list)
