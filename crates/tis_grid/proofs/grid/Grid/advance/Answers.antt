-- A step leads to a state of the grid, and without one the state is as it was.
use Rattle.std.proofs.Common.{◌≡◌, Bool, true, false, List, refl, sym, ap, subst, ◌∙◌}
use Rattle.std.proofs.lemmas.Bool.{and_from}
use Rattle.tis_asm.specs.declared.program.MarkedInstr.{MarkedInstr}
use Rattle.tis_asm.specs.Node.{can_local, local_step}
use Rattle.tis_node.specs.Intents.{is_local}
use Rattle.tis_grid.specs.declared.event.Event.TheVariants.{Local}
use Rattle.tis_grid.specs.State.{State, node_at}
use Rattle.tis_grid.specs.HeldState.{HeldState}
use Rattle.tis_grid.specs.Events.{program_of, is_compute_at, with_node, is_enabled, after_event}
use Rattle.tis_grid.specs.Orders.{Fits}
use Rattle.tis_grid.proofs.Enabled.{enabled_parts}
use Rattle.tis_grid.proofs.Fitting.{event_fitting}
use Rattle.tis_grid.proofs.grid.Grid.advance.Goals as goal

pub returns-clause-fits : goal.returns-clause-fits
returns-clause-fits c =
    let grid = c.args.self.now in
    let state = c.args.state.now.state in
    let tile = c.args.tile.number in
    let compute : is_compute_at grid tile ≡ true = c.requires.computes in
    let can : can_local (program_of grid tile) (node_at state tile) ≡ is_local c.advance.result =
    ap (λ (p : List MarkedInstr). can_local p (node_at state tile)) (sym c.decoded.ensures.program) ∙ c.advance.ensures.local in
    elim (is_local c.advance.result) as (λ (b : Bool). is_local c.advance.result ≡ b → Fits grid c.advance.new.self.state) [
      | true ↦ λ yes.
          let enabled : is_enabled grid state (Local c.args.tile) ≡ true = and_from (is_compute_at grid tile) (can_local (program_of grid tile) (node_at state tile)) compute (can ∙ yes) in
          let after : c.advance.new.self.state ≡ after_event grid state (Local c.args.tile) =
          ap (λ (h : HeldState). h.state) (c.advance.ensures.steps yes) ∙ ap (λ (p : List MarkedInstr). with_node state tile (local_step p (node_at state tile))) c.decoded.ensures.program in
          subst (λ (s : State). Fits grid s) (sym after) (event_fitting grid state (Local c.args.tile) c.puzzle.ensures.grid c.requires.fits (enabled_parts grid state (Local c.args.tile) enabled))
      | false ↦ λ no.
          let stays = c.advance.ensures.stays (λ is. let bad : true ≡ false = sym is ∙ no in absurd cc) in
          subst (λ (s : State). Fits grid s) (sym (ap (λ (h : HeldState). h.state) stays)) c.requires.fits
    ] refl
