-- What a row tells is a local step; or the node waits for the port that the row has.
use Rattle.std.proofs.Common.{◌≡◌, Option, Some, refl, ap, subst, ◌∙◌}
use Rattle.tis_base.specs.declared.tiles.Dir.{Dir}
use Rattle.tis_asm.specs.Node.{Mode, instr_at, can_local_in, wants_in}
use Rattle.tis_node.specs.NodeView.{node_view}
use Rattle.tis_node.specs.Rows.{Waits}
use Rattle.tis_node.proofs.LocalSteps.{local_wants_none}
use Rattle.tis_node.proofs.node.Node.intent_ready.Goals as goal

pub returns-then-row-clause-takes : goal.returns-then-row-clause-takes
returns-then-row-clause-takes c =
    let program = c.args.decoded.now in
    let node = node_view c.args.self.now in
    let told = c.row-row.ensures.tells c.if-row.true node refl c.requires.fits.acc c.requires.fits.bak in
    λ dir. ap (λ (m : Mode). wants_in m (instr_at program node.pc) node dir) c.requires.ready ∙ local_wants_none (instr_at program node.pc) node dir told.0

told_port : (c : goal.In-Some) → Waits (Some c.in-Some.port) (instr_at c.args.decoded.now (node_view c.args.self.now).pc)
told_port c = subst (λ (port : Option Dir). Waits port (instr_at c.args.decoded.now (node_view c.args.self.now).pc)) c.in-Some.is c.row-row.ensures.waits

pub returns-in-Some-clause-local : goal.returns-in-Some-clause-local
returns-in-Some-clause-local c =
    let program = c.args.decoded.now in
    let node = node_view c.args.self.now in
    ap (λ (m : Mode). can_local_in m (instr_at program node.pc) node) c.requires.ready ∙ (told_port c node).0

pub returns-in-Some-clause-takes : goal.returns-in-Some-clause-takes
returns-in-Some-clause-takes c =
    let program = c.args.decoded.now in
    let node = node_view c.args.self.now in
    λ dir. ap (λ (m : Mode). wants_in m (instr_at program node.pc) node dir) c.requires.ready ∙ (told_port c node).1 dir
