use Rattle.std.proofs.Common.{◌≡◌, ◌<◌, ℕ, sym, ap, ◌∙◌, subst, length}
use Rattle.std.specs.Prelude.{IsTrue}
use Rattle.tis_asm.specs.Node.{Node, wants}
use Rattle.tis_grid.specs.declared.event.Event.TheVariants.{Pop}
use Rattle.tis_grid.specs.State.{node_at, stack_at}
use Rattle.tis_grid.specs.HeldState.{HeldState}
use Rattle.tis_grid.specs.Events.{program_of}
use Rattle.tis_grid.proofs.Enabled.{enabled_parts, reached_is}
use Rattle.tis_grid.proofs.grid.Grid.pop.Goals as goal

pub pop-value-requires-clause-value : goal.pop-value-requires-clause-value
pop-value-requires-clause-value c =
    let parts = enabled_parts c.args.self.now c.args.state.now.state (Pop c.args.tile c.args.dir) c.requires.enabled in
    let same : c.reached-stack.result.number ≡ parts.0 = c.reached-stack.ensures.next ∙ reached_is c.args.self.now c.args.tile.number c.args.dir parts.0 parts.1.next in
    subst (λ (stack : ℕ). 0 < length (stack_at c.args.state.now.state stack)) (sym same) parts.3

pub take-requires-clause-wants : goal.take-requires-clause-wants
take-requires-clause-wants c =
    let parts = enabled_parts c.args.self.now c.args.state.now.state (Pop c.args.tile c.args.dir) c.requires.enabled in
    let same = ap (λ (h : HeldState). node_at h.state c.args.tile.number) c.pop-value.ensures.state in
    subst (λ (node : Node). IsTrue (wants (program_of c.args.self.now c.args.tile.number) node c.args.dir)) (sym same) parts.2.wants
