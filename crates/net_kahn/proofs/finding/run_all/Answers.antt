use Rattle.std.proofs.Common.{◌≡◌, ◌+◌, suc, length, refl, ◌∙◌, arith}
use Rattle.net_numbered.specs.View.{numbered_block}
use Rattle.net_rules.specs.CheckedNet.{net_of}
use Rattle.net_kahn.proofs.Processes.{body_known, one_ran, ready_to_start}
use Rattle.net_kahn.proofs.finding.run_all.Goals as goal

pub run_process-requires-clause-ready : goal.run_process-requires-clause-ready
run_process-requires-clause-ready c =
    ready_to_start c.processes.index (record { process = c.processes.index + 1; x = c.default-machine.result; y = c.default-machine-in-processes.result; links = c.processes.machine.links }) refl c.default-machine.ensures c.default-machine-in-processes.ensures c.processes.invariant.links

pub run_process-requires-clause-sure : goal.run_process-requires-clause-sure
run_process-requires-clause-sure c =
    (body_known (net_of c.args.net.now) c.requires.checked.accepted c.requires.checked.values c.processes.index (numbered_block c.process.result.now) (length c.processes.machine.links.items) c.process.ensures (c.processes.invariant.count ∙ c.requires.count)).sure

pub run_process-requires-clause-reads : goal.run_process-requires-clause-reads
run_process-requires-clause-reads c =
    (body_known (net_of c.args.net.now) c.requires.checked.accepted c.requires.checked.values c.processes.index (numbered_block c.process.result.now) (length c.processes.machine.links.items) c.process.ensures (c.processes.invariant.count ∙ c.requires.count)).reads

pub run_process-requires-clause-written : goal.run_process-requires-clause-written
run_process-requires-clause-written c =
    (body_known (net_of c.args.net.now) c.requires.checked.accepted c.requires.checked.values c.processes.index (numbered_block c.process.result.now) (length c.processes.machine.links.items) c.process.ensures (c.processes.invariant.count ∙ c.requires.count)).written

pub processes-preserved : goal.processes-preserved
processes-preserved c =
    let one : c.processes.index + 1 ≡ suc c.processes.index = omega arith in
    one_ran (net_of c.args.net.now) c.requires.checked.accepted c.requires.checked.values c.args.links.items c.processes.index (numbered_block c.process.result.now)
    (record { process = c.processes.index + 1; x = c.default-machine.result; y = c.default-machine-in-processes.result; links = c.processes.machine.links }) c.run_process.new.machine c.process.ensures one c.default-machine.ensures c.default-machine-in-processes.ensures c.processes.invariant c.in_ok-run_process.ensures
