use Rattle.std.proofs.Common.{map, option_map, arith, ◌<◌, refl}
use Rattle.std.proofs.lemmas.List.{length-set}
use Rattle.tis_grid.proofs.Outputs.{room_more, cut_more, still_more, cut_all_of}
use Rattle.tis_grid.proofs.state.cut_all.Goals as goal

pub loop-position-preserved : goal.loop-position-preserved
loop-position-preserved c =
    record {
      len = omega (arith, length-set c.loop-position.outs c.loop-position.position c.cut_one.new.taken);
      never_fall = room_more (option_map (λ v. v.spare)) _ c.loop-position.outs c.loop-position.position c.cut_one.new.taken c.index-outs-position.result (omega arith) c.loop-position.invariant.never_fall c.cut_one.ensures.spare;
      done = cut_more (option_map (λ v. v.items)) c.args.lengths.now (map (option_map (λ v. v.items)) c.args.outs.now) c.loop-position.outs c.loop-position.position c.cut_one.new.taken c.index-outs-position.result _ (omega arith) refl c.cut_one.ensures.items c.loop-position.invariant.done c.loop-position.invariant.still;
      still = still_more (option_map (λ v. v.items)) (map (option_map (λ v. v.items)) c.args.outs.now) c.loop-position.outs c.loop-position.position c.cut_one.new.taken c.loop-position.invariant.still;
    }

pub returns-clause-items : goal.returns-clause-items
returns-clause-items c =
    cut_all_of (option_map (λ v. v.items)) c.args.lengths.now c.args.outs.now c.loop-position.outs c.loop-position.invariant.len
    (λ k within. let below : k < c.loop-position.position = omega arith in c.loop-position.invariant.done k below)
