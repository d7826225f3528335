-- What a row sends is a local step, which leads to a node of the program.
use Rattle.std.proofs.Common.{◌≡◌, true, Option, sym, ap, subst, ◌∙◌}
use Rattle.tis_base.specs.declared.tiles.Dir.{Dir}
use Rattle.tis_asm.specs.Node.{Node, Mode, One, FitsProgram, writes, instr_at, can_local_in, can_local, is_local, wants_in, local_by_instr, local_step}
use Rattle.tis_asm.specs.PortRuns.{Local}
use Rattle.tis_asm.proofs.Progress.{steps_keep_fitting}
use Rattle.tis_node.specs.NodeView.{node_view}
use Rattle.tis_node.specs.Rows.{acc_by, SendsTo}
use Rattle.tis_node.proofs.LocalSteps.{local_wants_none}
use Rattle.tis_node.proofs.node.Node.send_or_look.Goals as goal
use Rattle.tis_node.proofs.node.Node.send_or_look.Goals.{After-send_by}

abbrev node_of : After-send_by → Node
node_of c = node_view c.args.self.now

-- the instruction needs no port, and writes what the row has
told : (c : After-send_by) → (is_local (instr_at c.args.decoded.now (node_of c).pc) (node_of c) ≡ true) × (local_by_instr (instr_at c.args.decoded.now (node_of c).pc) c.args.decoded.now (node_of c) ≡ writes (acc_by c.row-row.result.now (node_of c).acc (node_of c).bak) (One c.in-Some.port) (node_of c))
told c = subst (λ (port : Option Dir). SendsTo port c.row-row.result.now (instr_at c.args.decoded.now (node_of c).pc) c.args.decoded.now) c.in-Some.is c.row-row.ensures.sends (node_of c) c.requires.fits.acc

can : (c : After-send_by) → can_local c.args.decoded.now (node_of c) ≡ true
can c = ap (λ (m : Mode). can_local_in m (instr_at c.args.decoded.now (node_of c).pc) (node_of c)) c.requires.ready ∙ (told c).0

pub returns-in-Some-clause-local : goal.returns-in-Some-clause-local
returns-in-Some-clause-local c = can c

pub returns-in-Some-clause-takes : goal.returns-in-Some-clause-takes
returns-in-Some-clause-takes c = λ dir.
    ap (λ (m : Mode). wants_in m (instr_at c.args.decoded.now (node_of c).pc) (node_of c) dir) c.requires.ready
    ∙ local_wants_none (instr_at c.args.decoded.now (node_of c).pc) (node_of c) dir (told c).0

pub returns-in-Some-clause-steps : goal.returns-in-Some-clause-steps
returns-in-Some-clause-steps c = λ _. c.send_by.ensures ∙ sym (told c).1

pub returns-in-Some-clause-fits : goal.returns-in-Some-clause-fits
returns-in-Some-clause-fits c =
    let step : local_step c.args.decoded.now (node_of c) ≡ node_view c.send_by.new.self = (told c).1 ∙ sym c.send_by.ensures in
    subst (λ (n : Node). FitsProgram c.args.decoded.now n) step (steps_keep_fitting c.args.decoded.now (node_of c) Local c.program-program.ensures.values c.requires.sound c.requires.fits (can c))
