-- The node is there.
use Rattle.std.proofs.Common.{length, ap, arith}
use Rattle.tis_debug.specs.Sessions.{Session}
use Rattle.tis_debug.proofs.Standing.{fits_here}
use Rattle.tis_debug.proofs.session.Session.is_at_mark.Goals as goal

pub node-node-requires : goal.node-node-requires
node-node-requires c =
    let fits = fits_here c.args.self.now c.self.inside.grid.now c.self.inside.state c.self.inside.cycle c.self.inside.points c.self.inside.marks c.self.view_is c.self.invariant in
    let tiles = ap (λ (s : Session). length s.grid.puzzle.tiles.kinds) c.self.view_is in
    omega (arith, fits.nodes, tiles, c.requires)
