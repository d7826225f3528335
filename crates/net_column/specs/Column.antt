-- The networks that `compile` takes so far: processes down one column, each of which reads one value, computes and sends one value, round after round.
use Rattle.std.specs.Prelude.{◌≡◌, ℕ, zero, suc, ◌+◌, ◌≤◌, Bool, true, false, ◌&&◌, ◌||◌, nat_lt, nat_le, List, [], ◌∷◌, length, replicate, Option, Some, None, ◌==◌, IsTrue}
use Rattle.std.specs.List.{list_all}
use Rattle.tis_base.specs.Tiles.{Tiles}
use Rattle.tis_base.specs.declared.tiles.TileKind.TheVariants.{Compute}
use Rattle.net_tree.specs.declared.tree.Var.TheVariants.{X}
use Rattle.net_tree.specs.Tree.{Statement, Get, Put, PutNumber, Move, Set, Add, Sub, Neg, Double, Block, statements_of, PortLine, ChannelLine, ProcessText, Net}
use Rattle.net_rules.specs.Uses.{is_same_var}
use Rattle.net_rules.specs.Numbers.{numbered}
use Rattle.net_select.specs.Selection.{block_lines}

-- twelve compute tiles
abbrev pub plain_tiles : Tiles
plain_tiles = record { shape = record { columns = 4; rows = 3 }; kinds = replicate 12 Compute }

-- ---- what a process does in a round

-- a statement that computes with x, and neither reads nor sends
abbrev pub is_operation : Statement ℕ → Bool
is_operation (Set var number) = is_same_var X var
is_operation (Add var number) = is_same_var X var
is_operation (Sub var number) = is_same_var X var
is_operation (Neg var) = is_same_var X var
is_operation (Double var) = is_same_var X var
is_operation _ = false

-- a statement that sends x or a number on this name
abbrev pub sends_on : ℕ → Statement ℕ → Bool
sends_on name (Put written var) = written == name && is_same_var X var
sends_on name (PutNumber written number) = written == name
sends_on name _ = false

-- a statement that reads a value of this name into x
abbrev pub gets_from : ℕ → Statement ℕ → Bool
gets_from name (Get read var) = read == name && is_same_var X var
gets_from name _ = false

-- a statement that moves a value from one name to the other
abbrev pub moves_between : ℕ → ℕ → Statement ℕ → Bool
moves_between read written (Move from to) = from == read && to == written
moves_between read written _ = false

-- whether nothing is left
abbrev pub is_over : {X : Type 0} → List X → Bool
is_over [] = true
is_over (x ∷ xs) = false

-- operations, and then one statement that sends on this name
abbrev pub computes_and_sends : ℕ → List (ℕ × Statement ℕ) → Bool
computes_and_sends written [] = false
computes_and_sends written (s ∷ rest) = (is_over rest && sends_on written s.1) || (is_operation s.1 && computes_and_sends written rest)

-- what a process of a column does in a round: it moves a value from one name to the other, or reads one, computes and sends one
abbrev pub is_round : ℕ → ℕ → List (ℕ × Statement ℕ) → Bool
is_round read written [] = false
is_round read written (s ∷ rest) = (is_over rest && moves_between read written s.1) || (gets_from read s.1 && computes_and_sends written rest)

-- ---- where it stands

-- a process is pinned to this tile
abbrev pub stands_at : Option ℕ → ℕ → Bool
stands_at None tile = false
stands_at (Some at) tile = at == tile

-- whether the tiles are the same, one by one
abbrev pub are_same : List ℕ → List ℕ → Bool
are_same [] [] = true
are_same (tile ∷ tiles) (other ∷ others) = tile == other && are_same tiles others
are_same _ _ = false

-- a link is pinned to pass exactly these tiles
abbrev pub passes_by : Option (List ℕ) → List ℕ → Bool
passes_by None tiles = false
passes_by (Some path) tiles = are_same path tiles

-- the tiles of a column below so many processes, from top to bottom
abbrev pub tiles_below : ℕ → ℕ → List ℕ
tiles_below position zero = (position + 4) ∷ (position + 8) ∷ []
tiles_below position (suc zero) = (position + 4) ∷ (position + 8) ∷ []
tiles_below position (suc (suc zero)) = (position + 8) ∷ []
tiles_below position (suc (suc (suc more))) = []

-- the column is that of the first input
abbrev pub column_of : List PortLine → ℕ
column_of [] = 0
column_of (input ∷ inputs) = input.position

-- one input and one output, at one position: the input goes directly, and the output passes the tiles below so many processes
abbrev pub are_ends : ℕ → List PortLine → List PortLine → Bool
are_ends count (input ∷ []) (output ∷ []) = (nat_lt input.position 4 && passes_by input.via []) && (output.position == input.position && passes_by output.via (tiles_below input.position count))
are_ends count _ _ = false

-- each channel goes directly
abbrev pub are_direct : List ChannelLine → Bool
are_direct channels = list_all (λ channel. passes_by channel.via []) channels

-- a process with this body stands on this tile; it reads the name of this number and writes the next one, and its code has at most fifteen lines
abbrev pub is_in_place : ℕ → ℕ → ProcessText → Block ℕ → Bool
is_in_place number tile process body = stands_at process.at tile && (is_round number (number + 1) (statements_of body) && nat_le (block_lines body) 15)

-- the processes stand one below the other from this tile on; the first reads the name of this number, and each writes the next one, which the process below it reads
abbrev pub stand_in_line : ℕ → ℕ → List ProcessText → List (Block ℕ) → Bool
stand_in_line number tile [] [] = true
stand_in_line number tile (process ∷ processes) (body ∷ bodies) = is_in_place number tile process body && stand_in_line (number + 1) (tile + 4) processes bodies
stand_in_line number tile [] (body ∷ bodies) = false
stand_in_line number tile (process ∷ processes) [] = false

-- one to three processes stand down a column from its top, each joined to the next: the input has the number 0, then come the channels in the order of the text, and then the output
pub record IsColumn (net : Net) : Type 0 where
  pub tiles : net.tiles ≡ plain_tiles
  pub ends : IsTrue (are_ends (length net.processes) net.inputs net.outputs)
  pub direct : IsTrue (are_direct net.channels)
  pub joined : length net.processes ≡ length net.channels + 1
  pub few : length net.processes ≤ 3
  pub line : IsTrue (stand_in_line 0 (column_of net.inputs) net.processes (numbered net).processes)
