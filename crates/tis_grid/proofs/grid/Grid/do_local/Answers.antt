-- It can make a local step, so it made one.
use Rattle.std.proofs.Common.{List, sym, ap, ◌∙◌}
use Rattle.tis_asm.specs.declared.program.MarkedInstr.{MarkedInstr}
use Rattle.tis_asm.specs.Node.{can_local, local_step}
use Rattle.tis_grid.specs.declared.event.Event.TheVariants.{Local}
use Rattle.tis_grid.specs.State.{node_at}
use Rattle.tis_grid.specs.HeldState.{HeldState}
use Rattle.tis_grid.specs.Events.{with_node}
use Rattle.tis_grid.proofs.Enabled.{enabled_parts}
use Rattle.tis_grid.proofs.grid.Grid.do_local.Goals as goal

pub returns : goal.returns
returns c =
    let state = c.args.state.now.state in
    let tile = c.args.tile.number in
    let node = node_at state tile in
    let can = (enabled_parts c.args.self.now state (Local c.args.tile) c.requires.enabled).1 in
    c.advance.ensures.steps (sym c.advance.ensures.local ∙ ap (λ (p : List MarkedInstr). can_local p node) c.decoded.ensures.program ∙ can)
    ∙ ap (λ (p : List MarkedInstr). record c.args.state.now { state = with_node state tile (local_step p node) }) c.decoded.ensures.program
