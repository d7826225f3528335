use Rattle.std.proofs.Common.{◌≤◌, map, option_map}
use Rattle.tis_grid.specs.HeldState.{least_spare}
use Rattle.tis_grid.proofs.Outputs.{ok_then, room_each}
use Rattle.tis_grid.proofs.state.State.reserve.Goals as goal

pub returns-clause-each : goal.returns-clause-each
returns-clause-each c =
    ok_then (c.args.count ≤ least_spare (map (option_map (λ v. v.spare)) c.reserve_each.new.outs)) _ c.reserve_each.result
    (λ least position stands. room_each c.reserve_each.new.outs c.args.count least position stands) c.reserve_each.ensures.ok
