use Rattle.std.proofs.Common.{subst, arith}
use Rattle.tis_grid.specs.HeldState.{HeldState, HasRoomEach}
use Rattle.tis_grid.proofs.Outputs.{room_each}
use Rattle.tis_grid.proofs.state.State.spare.Goals as goal

pub returns-clause-each : goal.returns-clause-each
returns-clause-each c =
    subst (λ (h : HeldState). HasRoomEach h c.least_of.result) c.self.view_is
    (λ position stands. room_each c.self.inside.outs c.least_of.result (omega (arith, c.least_of.ensures)) position stands)
