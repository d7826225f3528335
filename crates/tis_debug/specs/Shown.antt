-- What a session shows of its grid: each node, stack, input and output, as text.
use Rattle.std.specs.Prelude.{ℕ, ℤ, List, [], ◌∷◌, ◌++◌, flat_map, codes, decimal, get_or, Option, Some, None}
use Rattle.std.specs.List.{range_with_len}
use Rattle.tis_base.specs.declared.tiles.Dir.{Dir}
use Rattle.tis_base.specs.declared.tiles.Dir.TheVariants.{Left, Right, Up, Down}
use Rattle.tis_base.specs.declared.tiles.TileKind.{TileKind}
use Rattle.tis_base.specs.declared.tiles.TileKind.TheVariants.{Compute, Memory, Damaged}
use Rattle.tis_asm.specs.declared.program.MarkedInstr.{MarkedInstr}
use Rattle.tis_asm.specs.Node.{Toward, One, Any, Mode, Ready, Writing, Node}
use Rattle.tis_grid.specs.State.{Grid, State, node_at, stack_at, input_left}
use Rattle.tis_grid.specs.Events.{program_of}
use Rattle.tis_clock.specs.Cycle.{all_tiles}
use Rattle.tis_report.specs.Outputs.{value_text, outputs_text}
use Rattle.tis_debug.specs.Sessions.{Session, state_at}

-- a word and a number behind it
abbrev pub numbered : List ℕ → ℕ → List ℕ
numbered word number = word ++ decimal number

-- a word, a number behind it, and the end of the line
abbrev pub line_of : List ℕ → ℕ → List ℕ
line_of word number = word ++ decimal number ++ 10 ∷ []

abbrev pub dir_word : Dir → List ℕ
dir_word Left = codes "left"
dir_word Right = codes "right"
dir_word Up = codes "up"
dir_word Down = codes "down"

-- the port that ANY used last
abbrev pub last_word : Option Dir → List ℕ
last_word None = codes "none"
last_word (Some dir) = dir_word dir

abbrev pub toward_word : Toward → List ℕ
toward_word (One dir) = dir_word dir
toward_word Any = codes "any"

-- whether a node is ready, or what it writes and where to
abbrev pub mode_text : Mode → List ℕ
mode_text Ready = codes "ready"
mode_text (Writing value toward) = codes "writing" ++ value_text value ++ 32 ∷ toward_word toward

-- the number of a node's instruction and its two registers
abbrev pub registers_text : ℕ → Node → List ℕ
registers_text tile node = numbered (codes "tile ") tile ++ numbered (codes " pc ") node.pc ++ (codes " acc" ++ value_text node.acc) ++ (codes " bak" ++ value_text node.bak)

-- the port that ANY used last, and what the node is at
abbrev pub standing_text : Node → List ℕ
standing_text node = codes " last " ++ last_word node.last ++ 32 ∷ mode_text node.mode ++ 10 ∷ []

-- the line of a node
abbrev pub node_text : ℕ → Node → List ℕ
node_text tile node = registers_text tile node ++ standing_text node

-- the line of a stack, oldest value first
abbrev pub stack_text : ℕ → List ℤ → List ℕ
stack_text tile values = numbered (codes "tile ") tile ++ codes " stack" ++ flat_map value_text values ++ 10 ∷ []

-- a node that has a program
abbrev pub node_where : List MarkedInstr → ℕ → Node → List ℕ
node_where [] tile node = []
node_where (marked ∷ program) tile node = node_text tile node

-- a tile of this kind: a compute tile where it has a program, and a memory tile
abbrev pub tile_where : TileKind → Grid → State → ℕ → List ℕ
tile_where Compute grid state tile = node_where (program_of grid tile) tile (node_at state tile)
tile_where Memory grid state tile = stack_text tile (stack_at state tile)
tile_where Damaged grid state tile = []

abbrev pub tile_text : Grid → State → ℕ → List ℕ
tile_text grid state tile = tile_where (get_or grid.puzzle.tiles.kinds tile Damaged) grid state tile

-- how many values of the input at a position are left, where one stands there
abbrev pub left_where : ℕ → Option ℕ → List ℕ
left_where position None = []
left_where position (Some left) = numbered (codes "in ") position ++ numbered (codes " left ") left ++ 10 ∷ []

abbrev pub left_text : State → ℕ → List ℕ
left_text state position = left_where position (input_left state position)

-- the tiles in reading order, the inputs and the outputs by ascending position
abbrev pub state_text : Grid → State → List ℕ
state_text grid state =
    flat_map (tile_text grid state) (all_tiles grid)
    ++ flat_map (left_text state) (range_with_len 0 grid.puzzle.tiles.shape.columns)
    ++ outputs_text grid.puzzle state

-- the line of the cycle that a session stands at
abbrev pub cycle_text : ℕ → List ℕ
cycle_text cycle = line_of (codes "cycle ") cycle

-- all that a session shows
abbrev pub shown : Session → List ℕ
shown session = cycle_text session.cycle ++ state_text session.grid (state_at session.grid session.cycle)
