use Rattle.std.proofs.Common.{◌<◌, arith, subst, List}
use Rattle.std.specs.Prelude.{All}
use Rattle.tis_base.specs.Saturation.{IsValue}
use Rattle.tis_base.specs.Tiles.{Tiles}
use Rattle.tis_asm.specs.Programs.{ArePrograms}
use Rattle.tis_grid.specs.declared.puzzle.InputAt.{InputAt}
use Rattle.tis_grid.proofs.Inputs.{hold_values}
use Rattle.tis_grid.proofs.grid.Grid.new.Goals as goal

pub invariant_of-result : goal.invariant_of-result
invariant_of-result c =
    record {
      is_grid = record {
        puzzle = record {
          tiles = c.shape.ensures.tiles;
          inputs_below = c.requires.inputs_below;
          outputs_below = c.requires.outputs_below;
          inputs_distinct = c.requires.inputs_distinct;
          outputs_distinct = c.requires.outputs_distinct;
          values = hold_values c.args.puzzle.inputs.items (subst (λ (inputs : List InputAt). All (λ input. All IsValue input.values.items) inputs) c.deref.ensures.value c.are_values.ensures);
        };
        programs = subst (λ (tiles : Tiles). ArePrograms (record { tiles = tiles; programs = c.args.programs.programs })) c.requires.tiles c.tiles.ensures.programs;
        sound = c.requires.sound;
      };
      tiles = c.requires.tiles;
      same = c.decode_all-decoded.ensures;
      works = c.working_tiles-working.ensures;
      inputs = λ at below. let before : at < c.loop-position.position = omega arith in c.loop-position.invariant.1 at before;
    }
