use Rattle.std.proofs.Common.{◌+◌, List, drop, map, sym, ap, ◌∙◌}
use Rattle.tis_asm.specs.declared.program.MarkedInstr.{MarkedInstr}
use Rattle.tis_asm.specs.Programs.{Programs}
use Rattle.net_tree.specs.Tree.{Net}
use Rattle.net_tree.specs.View.{process_view}
use Rattle.net_rules.specs.Numbers.{numbered}
use Rattle.net_rules.specs.CheckedNet.{net_of}
use Rattle.net_column.specs.Emission.{with_processes}
use Rattle.net_column.proofs.Placing.{process_put, on_grid}
use Rattle.net_column.proofs.emitting.place_processes.Goals as goal

pub place_process-requires-clause-on_grid : goal.place_process-requires-clause-on_grid
place_process-requires-clause-on_grid c =
    on_grid (net_of c.args.net.now) c.as_slice-processes.result.now c.processes.index c.index-processes-index.result (ap (map process_view) c.as_slice-processes.ensures.value ∙ ap (λ (n : Net). n.processes) c.net.ensures) c.processes-test.true c.index-processes-index.is c.requires.column

pub processes-preserved : goal.processes-preserved
processes-preserved c =
    let net = net_of c.args.net.now in
    record {
      tiles = ap (λ (l : Programs). l.tiles) c.place_process.ensures ∙ c.processes.invariant.tiles;
      same =
          c.processes.invariant.same
          ∙ process_put net c.as_slice-processes.result.now c.processes.index c.index-processes-index.result (ap (map process_view) c.as_slice-processes.ensures.value ∙ ap (λ (n : Net). n.processes) c.net.ensures) c.processes-test.true c.index-processes-index.is c.processes.programs.programs
          ∙ ap (λ (programs : List (List MarkedInstr)). with_processes (c.processes.index + 1) (drop (c.processes.index + 1) net.processes) (drop (c.processes.index + 1) (numbered net).processes) programs) (sym (ap (λ (l : Programs). l.programs) c.place_process.ensures));
    }
