-- What is kept of a node is whether it writes.
use Rattle.std.proofs.Common.{◌≡◌, Bool, List, get_or, refl, ap, ◌∙◌}
use Rattle.std.specs.Prelude.{false}
use Rattle.std.proofs.Math.ListN.{get_or-map}
use Rattle.tis_asm.specs.Node.{Mode, Ready, Writing, fresh}
use Rattle.tis_grid.specs.State.{node_at}
use Rattle.tis_grid.specs.HeldState.{writes, writes_in}
use Rattle.tis_clock.specs.Cycle.{is_writing}
use Rattle.tis_clock.proofs.turns.writers.Goals as goal

same_question : (mode : Mode) → writes_in mode ≡ is_writing mode
same_question Ready = refl
same_question (Writing value toward) = refl

pub returns : goal.returns
returns c = λ tile. ap (λ (kept : List Bool). get_or kept tile false) c.writers.ensures ∙ get_or-map writes c.args.state.now.state.nodes tile fresh ∙ same_question (node_at c.args.state.now.state tile).mode
