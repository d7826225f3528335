-- The programs that a network of one column is compiled to.
use Rattle.std.specs.Prelude.{ℕ, ◌+◌, List, [], ◌∷◌, length, map, flat_map, Option, Some, None, unwrap_or, ◌==◌, if◌then◌else◌}
use Rattle.std.specs.List.{list_any, range_with_len}
use Rattle.tis_base.specs.declared.tiles.Dir.TheVariants.{Up, Down}
use Rattle.tis_asm.specs.declared.instr.Source.TheVariants as from
use Rattle.tis_asm.specs.declared.instr.Dest.TheVariants as to
use Rattle.tis_asm.specs.declared.instr.Instr.TheVariants as instr
use Rattle.tis_asm.specs.declared.program.MarkedInstr.{MarkedInstr}
use Rattle.tis_asm.specs.Programs.{Programs}
use Rattle.net_tree.specs.Tree.{Block, PortLine, ProcessText, Net}
use Rattle.net_rules.specs.Numbers.{numbered}
use Rattle.net_select.specs.Selection.{Ports, unmarked, program_of}
use Rattle.net_column.specs.Column.{stands_at}

-- the directions of names in a column: what the process writes goes downwards, and what it reads comes from above
abbrev pub column_ports : ℕ → Ports
column_ports written name = if name == written then Down else Up

-- the program of a tile that a link passes, in a column
abbrev pub pass_code : List MarkedInstr
pass_code = unmarked (instr.Mov (from.Port Up) (to.Port Down)) ∷ []

-- the code of the process that stands on a tile; of these processes the first reads the name of this number
abbrev pub process_code_at : ℕ → List ProcessText → List (Block ℕ) → ℕ → Option (List MarkedInstr)
process_code_at number (process ∷ processes) (body ∷ bodies) tile =
    if stands_at process.at tile then Some (program_of (column_ports (number + 1)) body) else process_code_at (number + 1) processes bodies tile
process_code_at number _ _ tile = None

-- the tiles that these links pass
abbrev pub tiles_passed : List PortLine → List ℕ
tiles_passed ports = flat_map (λ port. unwrap_or port.via []) ports

-- a program that passes values on, on each of these tiles
abbrev pub passing_on : List ℕ → ℕ → List MarkedInstr
passing_on tiles tile = if list_any (λ passed. passed == tile) tiles then pass_code else []

-- the code of a process on its tile, a MOV on each tile that an output passes, and nothing elsewhere
abbrev pub program_for : Net → ℕ → List MarkedInstr
program_for net tile = unwrap_or (process_code_at 0 net.processes (numbered net).processes tile) (passing_on (tiles_passed net.outputs) tile)

abbrev pub compiled : Net → Programs
compiled net = record { tiles = net.tiles; programs = map (program_for net) (range_with_len 0 (length net.tiles.kinds)) }
