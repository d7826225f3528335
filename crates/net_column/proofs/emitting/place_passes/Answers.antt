use Rattle.std.proofs.Common.{◌≡◌, ◌+◌, List, drop, sym, ap, ◌∙◌}
use Rattle.std.specs.Prelude.{slice_set}
use Rattle.tis_asm.specs.declared.program.MarkedInstr.{MarkedInstr}
use Rattle.tis_asm.specs.Programs.{Programs}
use Rattle.net_column.specs.Emission.{with_passes}
use Rattle.net_column.proofs.Placing.{passes_more}
use Rattle.net_column.proofs.emitting.place_passes.Goals as goal

pub loop-index-preserved : goal.loop-index-preserved
loop-index-preserved c =
    let after = λ (programs : List (List MarkedInstr)). with_passes (drop (c.loop-index.index + 1) c.args.path.now) programs in
    let put : c.set.new.self.programs ≡ slice_set c.loop-index.programs.programs c.at-number.result c.pass_program.result = ap (λ (l : Programs). l.programs) c.set.ensures in
    record {
      tiles = ap (λ (l : Programs). l.tiles) c.set.ensures ∙ c.loop-index.invariant.tiles;
      same =
          c.loop-index.invariant.same
          ∙ passes_more c.args.path.now c.loop-index.index c.at-number.result c.loop-index.programs.programs c.at-number.ensures
          ∙ ap (λ (program : List MarkedInstr). after (slice_set c.loop-index.programs.programs c.at-number.result program)) (sym c.pass_program.ensures)
          ∙ ap after (sym put);
    }
