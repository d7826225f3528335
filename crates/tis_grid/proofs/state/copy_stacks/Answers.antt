use Rattle.std.proofs.Common.{◌<◌, length, ◌∙◌, arith, []}
use Rattle.std.proofs.lemmas.List.{same_lists, get_or_default}
use Rattle.tis_grid.proofs.state.copy_stacks.Goals as goal

pub returns : goal.returns
returns c =
    same_lists c.loop-tile.all c.args.stacks.now (omega arith)
    (λ k d within.
    let below : k < c.loop-tile.tile = omega arith in
    let there : k < length c.args.stacks.now = omega arith in
    get_or_default c.loop-tile.all k d [] within ∙ c.loop-tile.invariant.1 k below ∙ get_or_default c.args.stacks.now k [] d there)
