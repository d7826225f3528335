use Rattle.lua_machine.specs.Tree.{node_of}
use Rattle.lua_frames.specs.Frames.{making_of}
use Rattle.lua_frames.specs.Parts.{nodes_in}
use Rattle.lua_frames.proofs.Valuing.{passes_lead}
use Rattle.lua_frames.proofs.machine.Machine.take_part.Goals as goal

pub returns-clause-leads : goal.returns-clause-leads
returns-clause-leads c = passes_lead c.pass_part.result (making_of c.args.making) c.args.count (node_of c.args.part.now) (nodes_in c.args.others) c.args.self.now c.pass_part.new.self c.pass_part.ensures
