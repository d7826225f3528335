-- The programs of a column, tile by tile.
use Rattle.std.proofs.Common.{◌≡◌, ℕ, zero, suc, ◌+◌, ◌*◌, ◌<◌, ◌≤◌, List, [], ◌∷◌, map, length, replicate, get_or, Option, Some, None, refl, sym, ap, subst, ◌∙◌, true, arith}
use Rattle.std.specs.Prelude.{◌&&◌, ◌==◌, nat_lt, All, IfSome, nat_le, IsOk, Ok, Err, Result}
use Rattle.std.proofs.lemmas.Bool.{and_parts, leb-true, ltb-true}
use Rattle.std.proofs.lemmas.List.Elements.{All-cons, All-nil}
use Rattle.tis_asm.specs.declared.program.MarkedInstr.{MarkedInstr}
use Rattle.tis_asm.specs.Programs.{Programs}
use Rattle.tis_base.specs.Tiles.{Tiles}
use Rattle.net_tree.specs.declared.tree.PortLine as held_port
use Rattle.net_tree.specs.Tree.{Block, Empty, PortLine, ProcessText, Net}
use Rattle.net_tree.specs.View.{port_view}
use Rattle.net_rules.specs.Numbers.{numbered}
use Rattle.net_select.specs.declared.selection.SelectError.{SelectError}
use Rattle.net_select.specs.declared.selection.SelectError.TheVariants.{TooLong}
use Rattle.net_select.specs.Selection.{Ports, block_lines}
use Rattle.net_select.specs.Selects.{Selects}
use Rattle.net_select.specs.Laws.{LinesAreTold}
use Rattle.net_column.specs.Column.{tiles_below, column_of, stands_at, passes_by, are_ends, is_in_place, stand_in_line, IsColumn}
use Rattle.net_column.specs.Compiled.{compiled}
use Rattle.net_column.specs.Emission.{with_processes, with_passes, with_links}
use Rattle.net_column.proofs.ColumnStages.{ArePlaced, stands_is}
use Rattle.net_column.proofs.ColumnPrograms.{column_programs}
use Rattle.net_column.proofs.Columns.{same_tiles, count, ends, placed, programs_are}

-- ---- what is put on the tiles

-- the processes, each with the tile that it stands on
abbrev pinned : ℕ → List ProcessText → List ProcessText
pinned tile [] = []
pinned tile (process ∷ processes) = record { name = process.name; at = Some tile; body = process.body; line = process.line } ∷ pinned (tile + 4) processes

pinned_is : (number tile : ℕ) (processes : List ProcessText) (bodies : List (Block ℕ)) → ArePlaced number tile processes bodies → processes ≡ pinned tile processes
pinned_is number tile [] [] stand = refl
pinned_is number tile (process ∷ processes) (body ∷ bodies) stand =
    ap (λ (at : Option ℕ). let p : ProcessText = record { name = process.name; at = at; body = process.body; line = process.line } in p ∷ processes) stand.0.at
    ∙ ap (λ (ps : List ProcessText). let p : ProcessText = record { name = process.name; at = Some tile; body = process.body; line = process.line } in p ∷ ps) (pinned_is (number + 1) (tile + 4) processes bodies stand.1)
pinned_is number tile [] (body ∷ bodies) stand = absurd stand
pinned_is number tile (process ∷ processes) [] stand = absurd stand

-- the programs that are put on twelve tiles
abbrev put : ℕ → List ProcessText → List (Block ℕ) → List (List MarkedInstr)
put position processes bodies = with_passes (tiles_below position (length bodies)) (with_processes 0 processes bodies (replicate 12 []))

one : (position : ℕ) (p : ProcessText) (b : Block ℕ) → position < 4 → put position (pinned position (p ∷ [])) (b ∷ []) ≡ (column_programs position (pinned position (p ∷ [])) (b ∷ [])).programs
one zero p b lt = refl
one (suc zero) p b lt = refl
one (suc (suc zero)) p b lt = refl
one (suc (suc (suc zero))) p b lt = refl
one (suc (suc (suc (suc position)))) p b lt = absurd (omega arith)

two : (position : ℕ) (p q : ProcessText) (b c : Block ℕ) → position < 4 → put position (pinned position (p ∷ q ∷ [])) (b ∷ c ∷ []) ≡ (column_programs position (pinned position (p ∷ q ∷ [])) (b ∷ c ∷ [])).programs
two zero p q b c lt = refl
two (suc zero) p q b c lt = refl
two (suc (suc zero)) p q b c lt = refl
two (suc (suc (suc zero))) p q b c lt = refl
two (suc (suc (suc (suc position)))) p q b c lt = absurd (omega arith)

three : (position : ℕ) (p q r : ProcessText) (b c d : Block ℕ) → position < 4 → put position (pinned position (p ∷ q ∷ r ∷ [])) (b ∷ c ∷ d ∷ []) ≡ (column_programs position (pinned position (p ∷ q ∷ r ∷ [])) (b ∷ c ∷ d ∷ [])).programs
three zero p q r b c d lt = refl
three (suc zero) p q r b c d lt = refl
three (suc (suc zero)) p q r b c d lt = refl
three (suc (suc (suc zero))) p q r b c d lt = refl
three (suc (suc (suc (suc position)))) p q r b c d lt = absurd (omega arith)

-- one to three processes that stand down a column
put_pinned : (position : ℕ) (processes : List ProcessText) (bodies : List (Block ℕ)) → position < 4 → length bodies ≡ length processes → 0 < length processes → length processes ≤ 3 →
    put position (pinned position processes) bodies ≡ (column_programs position (pinned position processes) bodies).programs
put_pinned position [] bodies lt same some few = absurd (omega arith)
put_pinned position (p ∷ []) (b ∷ []) lt same some few = one position p b lt
put_pinned position (p ∷ q ∷ []) (b ∷ c ∷ []) lt same some few = two position p q b c lt
put_pinned position (p ∷ q ∷ r ∷ []) (b ∷ c ∷ d ∷ []) lt same some few = three position p q r b c d lt
put_pinned position (p ∷ q ∷ r ∷ s ∷ processes) bodies lt same some few = absurd (omega arith)
put_pinned position (p ∷ []) [] lt same some few = absurd (omega arith)
put_pinned position (p ∷ []) (b ∷ c ∷ bodies) lt same some few = absurd (omega arith)
put_pinned position (p ∷ q ∷ []) [] lt same some few = absurd (omega arith)
put_pinned position (p ∷ q ∷ []) (b ∷ []) lt same some few = absurd (omega arith)
put_pinned position (p ∷ q ∷ []) (b ∷ c ∷ d ∷ bodies) lt same some few = absurd (omega arith)
put_pinned position (p ∷ q ∷ r ∷ []) [] lt same some few = absurd (omega arith)
put_pinned position (p ∷ q ∷ r ∷ []) (b ∷ []) lt same some few = absurd (omega arith)
put_pinned position (p ∷ q ∷ r ∷ []) (b ∷ c ∷ []) lt same some few = absurd (omega arith)
put_pinned position (p ∷ q ∷ r ∷ []) (b ∷ c ∷ d ∷ e ∷ bodies) lt same some few = absurd (omega arith)

-- what is put on the tiles of a column is what it is compiled to
pub put_compiled : (net : Net) (column : IsColumn net) → with_links net.outputs (with_processes 0 net.processes (numbered net).processes (replicate 12 [])) ≡ (compiled net).programs
put_compiled net column =
    let position = column_of net.inputs in
    let bodies = (numbered net).processes in
    let pins = pinned_is 0 position net.processes bodies (placed net column) in
    (ends net column).linked (with_processes 0 net.processes bodies (replicate 12 []))
    ∙ ap (λ (n : ℕ). with_passes (tiles_below position n) (with_processes 0 net.processes bodies (replicate 12 []))) (sym (count net column))
    ∙ ap (λ (ps : List ProcessText). put position ps bodies) pins
    ∙ put_pinned position net.processes bodies (ends net column).inside (count net column) (omega (arith, column.joined)) column.few
    ∙ ap (λ (ps : List ProcessText). (column_programs position ps bodies).programs) (sym pins)
    ∙ ap (λ (p : Programs). p.programs) (sym (programs_are net column))

-- ---- what is known of each process

-- a process for a place at which none stands
abbrev pub no_process : ProcessText
no_process = record { name = []; at = None; body = Empty; line = 0 }

pub record IsKnown (tile : ℕ) (process : ProcessText) (body : Block ℕ) : Type 0 where
  pub at : process.at ≡ Some tile
  pub short : block_lines body ≤ 15

known_in : (number tile : ℕ) (processes : List ProcessText) (bodies : List (Block ℕ)) → stand_in_line number tile processes bodies ≡ true → (index : ℕ) (p : ProcessText) (b : Block ℕ) → index < length bodies → IsKnown (tile + 4 * index) (get_or processes index p) (get_or bodies index b)
known_in number tile [] [] is index p b within = absurd (omega (arith, within))
known_in number tile [] (body ∷ bodies) is index p b within = absurd cc
known_in number tile (process ∷ processes) [] is index p b within = absurd cc
known_in number tile (process ∷ processes) (body ∷ bodies) is zero p b within =
    let both = and_parts (is_in_place number tile process body) (stand_in_line (number + 1) (tile + 4) processes bodies) is in
    let here = and_parts (stands_at process.at tile) _ both.0 in
    let round = and_parts _ (nat_le (block_lines body) 15) here.1 in
    record { at = stands_is process.at (tile + 4 * 0) (subst (λ (t : ℕ). stands_at process.at t ≡ true) (omega arith) here.0); short = leb-true (block_lines body) 15 round.1 }
known_in number tile (process ∷ processes) (body ∷ bodies) is (suc index) p b within =
    let both = and_parts (is_in_place number tile process body) (stand_in_line (number + 1) (tile + 4) processes bodies) is in
    subst (λ (t : ℕ). IsKnown t (get_or processes index p) (get_or bodies index b)) (omega arith) (known_in (number + 1) (tile + 4) processes bodies both.1 index p b (omega (arith, within)))

pub known : (net : Net) → IsColumn net → (index : ℕ) (p : ProcessText) (b : Block ℕ) → index < length (numbered net).processes → IsKnown (column_of net.inputs + 4 * index) (get_or net.processes index p) (get_or (numbered net).processes index b)
known net column index p b within = known_in 0 (column_of net.inputs) net.processes (numbered net).processes column.line index p b within

-- short code is selected
pub selects : (result : Result (List MarkedInstr) SelectError) (ports : Ports) (body : Block ℕ) → LinesAreTold → block_lines body ≤ 15 → Selects result ports body → IsOk result
selects (Ok program) ports body told short is = refl
selects (Err (TooLong lines)) ports body told short is = absurd (omega (arith, is.0, is.1, told ports body, short))

-- ---- the whole

-- after the processes and the links were put in their turn
pub put_is : (net : Net) (column : IsColumn net) (tiles : Tiles) (outputs : List PortLine) (first second third : Programs) → tiles ≡ net.tiles → outputs ≡ net.outputs → first ≡ record { tiles = tiles; programs = replicate (length tiles.kinds) [] } →
    second ≡ record first { programs = with_processes 0 net.processes (numbered net).processes first.programs } → third ≡ record second { programs = with_links outputs second.programs } → third ≡ compiled net
put_is net column tiles outputs first second third t o e1 e2 e3 =
    all
    ∙ ap (λ (n : ℕ). let p : Programs = record { tiles = net.tiles; programs = with_links net.outputs (with_processes 0 net.processes (numbered net).processes (replicate n [])) } in p) (ap (λ (k : Tiles). length k.kinds) column.tiles)
    ∙ ap (λ (ps : List (List MarkedInstr)). let p : Programs = record { tiles = net.tiles; programs = ps } in p) (put_compiled net column)
  where
    all : third ≡ record { tiles = net.tiles; programs = with_links net.outputs (with_processes 0 net.processes (numbered net).processes (replicate (length net.tiles.kinds) [])) }
    all = rw (e3, e2, e1, t, o) refl

-- the tiles below a process are on the grid
below_on_grid : (position count : ℕ) → position < 4 → All (λ tile. tile < 12) (tiles_below position count)
below_on_grid position zero inside = All-cons (λ tile. tile < 12) (position + 4) ((position + 8) ∷ []) (omega (arith, inside)) (All-cons (λ tile. tile < 12) (position + 8) [] (omega (arith, inside)) (All-nil _))
below_on_grid position (suc zero) inside = All-cons (λ tile. tile < 12) (position + 4) ((position + 8) ∷ []) (omega (arith, inside)) (All-cons (λ tile. tile < 12) (position + 8) [] (omega (arith, inside)) (All-nil _))
below_on_grid position (suc (suc zero)) inside = All-cons (λ tile. tile < 12) (position + 8) [] (omega (arith, inside)) (All-nil _)
below_on_grid position (suc (suc (suc count))) inside = All-nil _

path_on_grid : (via : Option (List ℕ)) (tiles : List ℕ) → passes_by via tiles ≡ true → All (λ tile. tile < 12) tiles → IfSome via (All (λ tile. tile < 12))
path_on_grid None tiles is on = tt
path_on_grid (Some path) tiles is on = subst (All (λ tile. tile < 12)) (sym (same_tiles path tiles is)) on

-- so is what the output passes
pub links_on_grid : (count : ℕ) (inputs : List PortLine) (ports : List held_port.PortLine) → are_ends count inputs (map port_view ports) ≡ true → All (λ port. IfSome port.via (All (λ tile. tile < 12))) ports
links_on_grid count [] ports is = absurd cc
links_on_grid count (input ∷ other ∷ inputs) ports is = absurd cc
links_on_grid count (input ∷ []) [] is = absurd cc
links_on_grid count (input ∷ []) (port ∷ other ∷ ports) is = absurd cc
links_on_grid count (input ∷ []) (port ∷ []) is =
    let P : held_port.PortLine → Type 0 = λ p. IfSome p.via (All (λ tile. tile < 12)) in
    let both = and_parts (nat_lt input.position 4 && passes_by input.via []) _ is in
    let first = and_parts (nat_lt input.position 4) (passes_by input.via []) both.0 in
    let second = and_parts (port.position == input.position) (passes_by port.via (tiles_below input.position count)) both.1 in
    All-cons P port [] (path_on_grid port.via (tiles_below input.position count) second.1 (below_on_grid input.position count (ltb-true input.position 4 first.0))) (All-nil _)
