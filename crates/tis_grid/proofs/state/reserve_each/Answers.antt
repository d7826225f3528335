use Rattle.std.proofs.Common.{map, option_map, arith, ◌<◌}
use Rattle.std.proofs.lemmas.List.{length-map}
use Rattle.tis_grid.proofs.Outputs.{same_more, room_more, has_more, least_from_each}
use Rattle.tis_grid.proofs.state.reserve_each.Goals as goal

pub returns-in_err-reserve_one-clause-items : goal.returns-in_err-reserve_one-clause-items
returns-in_err-reserve_one-clause-items c =
    same_more (option_map (λ v. v.items)) _ c.loop-position.outs c.loop-position.position c.reserve_one.new.taken c.index-outs-position.result c.loop-position.invariant.items c.reserve_one.ensures.items

pub returns-in_err-reserve_one-clause-spares : goal.returns-in_err-reserve_one-clause-spares
returns-in_err-reserve_one-clause-spares c =
    room_more (option_map (λ v. v.spare)) _ c.loop-position.outs c.loop-position.position c.reserve_one.new.taken c.index-outs-position.result (omega arith) c.loop-position.invariant.never_fall c.reserve_one.ensures.spare

pub loop-position-preserved : goal.loop-position-preserved
loop-position-preserved c =
    record {
      items = same_more (option_map (λ v. v.items)) _ c.loop-position.outs c.loop-position.position c.reserve_one.new.taken c.index-outs-position.result c.loop-position.invariant.items c.reserve_one.ensures.items;
      never_fall = room_more (option_map (λ v. v.spare)) _ c.loop-position.outs c.loop-position.position c.reserve_one.new.taken c.index-outs-position.result (omega arith) c.loop-position.invariant.never_fall c.reserve_one.ensures.spare;
      done = has_more (option_map (λ v. v.spare)) c.args.count c.loop-position.outs c.loop-position.position c.reserve_one.new.taken c.loop-position.invariant.done c.in_ok-reserve_one.ensures.ok;
    }

pub returns-clause-ok : goal.returns-clause-ok
returns-clause-ok c =
    least_from_each (map (option_map (λ v. v.spare)) c.loop-position.outs) c.args.count (omega arith)
    (λ k within. let below : k < c.loop-position.position = omega (arith, length-map c.loop-position.outs (option_map (λ v. v.spare))) in c.loop-position.invariant.done k below)
