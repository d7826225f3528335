use Rattle.std.proofs.Common.{◌≡◌, ◌≢◌, ℕ, ℤ, Option, refl, sym, ap, ◌∙◌, subst}
use Rattle.std.specs.Prelude.{IsSome}
use Rattle.std.proofs.lemmas.List.{get_or-set_other}
use Rattle.tis_asm.specs.Node.{Node, FitsProgram, offers, fresh}
use Rattle.tis_grid.specs.declared.event.Event.TheVariants.{Meet}
use Rattle.tis_grid.specs.State.{node_at}
use Rattle.tis_grid.specs.HeldState.{HeldState}
use Rattle.tis_grid.specs.Events.{program_of}
use Rattle.tis_grid.proofs.Enabled.{enabled_parts}
use Rattle.tis_grid.proofs.grid.Grid.meet.Goals as goal
use Rattle.tis_grid.proofs.grid.Grid.meet.Goals.{After-give-arg-1}

-- the node that gives is as it was before the other one took
same_node : (c : After-give-arg-1) → node_at c.take.new.state.state c.args.tile.number ≡ node_at c.args.state.now.state c.args.tile.number
same_node c =
    let parts = enabled_parts c.args.self.now c.args.state.now.state (Meet c.args.tile c.args.dir) c.requires.enabled in
    let apart : c.args.tile.number ≢ c.reached-reader.result.number = c.reached-reader.ensures.other (subst (λ (o : Option ℕ). IsSome o) (sym parts.1) refl) in
    ap (λ (h : HeldState). node_at h.state c.args.tile.number) c.take.ensures ∙ get_or-set_other c.args.state.now.state.nodes c.reached-reader.result.number c.args.tile.number _ fresh apart

pub give-requires-clause-fits : goal.give-requires-clause-fits
give-requires-clause-fits c = subst (λ (node : Node). FitsProgram (program_of c.args.self.now c.args.tile.number) node) (sym (same_node c)) (c.requires.fits.each c.args.tile.number)

pub give-requires-clause-offers : goal.give-requires-clause-offers
give-requires-clause-offers c =
    let parts = enabled_parts c.args.self.now c.args.state.now.state (Meet c.args.tile c.args.dir) c.requires.enabled in
    subst (λ (o : Option ℤ). IsSome o) (sym (ap (λ (node : Node). offers node c.args.dir) (same_node c) ∙ parts.2.offers)) refl
