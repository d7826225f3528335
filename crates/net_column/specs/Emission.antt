-- Programs that are put on tiles one after the other.
use Rattle.std.specs.Prelude.{ℕ, ◌+◌, List, [], ◌∷◌, Option, Some, None, slice_set, unwrap_or}
use Rattle.tis_asm.specs.declared.program.MarkedInstr.{MarkedInstr}
use Rattle.net_tree.specs.Tree.{Block, PortLine, ProcessText}
use Rattle.net_select.specs.Selection.{program_of}
use Rattle.net_column.specs.Compiled.{column_ports, pass_code}

-- the programs, with this one on a tile, where there is a tile
abbrev pub put_on : Option ℕ → List MarkedInstr → List (List MarkedInstr) → List (List MarkedInstr)
put_on None program programs = programs
put_on (Some tile) program programs = slice_set programs tile program

-- the programs, with the code of each process on its tile; of these processes the first reads the name of this number
abbrev pub with_processes : ℕ → List ProcessText → List (Block ℕ) → List (List MarkedInstr) → List (List MarkedInstr)
with_processes number (process ∷ processes) (body ∷ bodies) programs = with_processes (number + 1) processes bodies (put_on process.at (program_of (column_ports (number + 1)) body) programs)
with_processes number _ _ programs = programs

-- the programs, with one that passes values on each of these tiles
abbrev pub with_passes : List ℕ → List (List MarkedInstr) → List (List MarkedInstr)
with_passes [] programs = programs
with_passes (tile ∷ tiles) programs = with_passes tiles (slice_set programs tile pass_code)

-- the programs, with one that passes values on each tile that these links pass
abbrev pub with_links : List PortLine → List (List MarkedInstr) → List (List MarkedInstr)
with_links [] programs = programs
with_links (port ∷ ports) programs = with_links ports (with_passes (unwrap_or port.via []) programs)
