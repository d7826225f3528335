-- The stages of a column: one for each process, and one for each tile below the last of them.
use Rattle.std.proofs.Common.{◌≡◌, ◌≢◌, ℕ, zero, suc, ◌+◌, ◌-◌, ◌*◌, ◌<◌, ◌≤◌, ℤ, true, false, List, [], ◌∷◌, ◌++◌, length, length-append, replicate, Option, Some, None, refl, ap, subst, ◌∙◌, inl, inr, arith, eqb-true}
use Rattle.std.specs.Prelude.{◌==◌, ◌⊎◌, unwrap_or}
use Rattle.std.specs.List.{list_any}
use Rattle.std.proofs.lemmas.Bool.{eq-eqb, ne_eqb, or_right, and_parts}
use Rattle.std.proofs.lemmas.List.{length-replicate}
use Rattle.tis_asm.specs.declared.program.MarkedInstr.{MarkedInstr}
use Rattle.tis_asm.specs.Programs.{HasValues, IsSound}
use Rattle.net_tree.specs.Tree.{Block, statements_of, ProcessText}
use Rattle.net_select.specs.Selection.{program_of}
use Rattle.net_select.specs.Behaves.{Behaves}
use Rattle.net_select.specs.Laws.{CodeIsSound}
use Rattle.net_column.specs.Column.{is_round, stands_at, tiles_below, is_in_place, stand_in_line}
use Rattle.net_column.specs.Compiled.{column_ports, process_code_at}
use Rattle.net_column.proofs.Stage.{Stage, made_by, most_steps}
use Rattle.net_column.proofs.Bodies.{Round, round_of}
use Rattle.net_column.proofs.BodyStage.{round_stage}
use Rattle.net_column.proofs.PassStage.{pass_stage}

-- ---- processes in line

-- a process stands on this tile
pub stands_is : (at : Option ℕ) (tile : ℕ) → stands_at at tile ≡ true → at ≡ Some tile
stands_is None tile is = absurd cc
stands_is (Some at) tile is = ap (λ (t : ℕ). Some t) (eqb-true at tile is)

-- what is known of a process in its place
pub record IsPlaced (number tile : ℕ) (process : ProcessText) (body : Block ℕ) : Type 0 where
  pub at : process.at ≡ Some tile
  pub round : Round number (number + 1) body

-- the processes stand one below the other
abbrev pub ArePlaced : ℕ → ℕ → List ProcessText → List (Block ℕ) → Type 0
ArePlaced number tile [] [] = Unit {0}
ArePlaced number tile (process ∷ processes) (body ∷ bodies) = IsPlaced number tile process body × ArePlaced (number + 1) (tile + 4) processes bodies
ArePlaced number tile [] (body ∷ bodies) = ⊥
ArePlaced number tile (process ∷ processes) [] = ⊥

pub are_placed : (number tile : ℕ) (processes : List ProcessText) (bodies : List (Block ℕ)) → stand_in_line number tile processes bodies ≡ true → ArePlaced number tile processes bodies
are_placed number tile [] [] is = tt
are_placed number tile (process ∷ processes) (body ∷ bodies) is =
    let both = and_parts (is_in_place number tile process body) (stand_in_line (number + 1) (tile + 4) processes bodies) is in
    let here = and_parts (stands_at process.at tile) _ both.0 in
    let round = and_parts (is_round number (number + 1) (statements_of body)) _ here.1 in (
      record { at = stands_is process.at tile here.0; round = round_of number (number + 1) body round.0 },
      are_placed (number + 1) (tile + 4) processes bodies both.1,
    )
are_placed number tile [] (body ∷ bodies) is = absurd cc
are_placed number tile (process ∷ processes) [] is = absurd cc

-- ---- the code on each tile

-- the tile is none of so many, one below the other
abbrev pub IsApart : ℕ → ℕ → ℕ → Type 0
IsApart first rows tile = (row : ℕ) → row < rows → first + 4 * row ≢ tile

-- the same, from one tile further down
apart_below : (first rows tile : ℕ) → IsApart first (suc rows) tile → IsApart (first + 4) rows tile
apart_below first rows tile apart row inside e = apart (suc row) (omega arith) (omega arith)

-- no process stands elsewhere
pub no_code : (number first : ℕ) (processes : List ProcessText) (bodies : List (Block ℕ)) → ArePlaced number first processes bodies → (tile : ℕ) → IsApart first (length bodies) tile → process_code_at number processes bodies tile ≡ None
no_code number first [] [] line tile apart = refl
no_code number first (process ∷ processes) (body ∷ bodies) line tile apart =
    let elsewhere : first ≢ tile = λ e. apart 0 (omega arith) (omega arith) in
    rw (line.0.at, ne_eqb first tile elsewhere) (no_code (number + 1) (first + 4) processes bodies line.1 tile (apart_below first (length bodies) tile apart))
no_code number first [] (body ∷ bodies) line tile apart = absurd line
no_code number first (process ∷ processes) [] line tile apart = absurd line

-- the code of processes stands tile below tile
abbrev pub HaveCodes : (ℕ → List MarkedInstr) → ℕ → ℕ → List (Block ℕ) → Type 0
HaveCodes program number tile [] = Unit {0}
HaveCodes program number tile (body ∷ bodies) = (program tile ≡ program_of (column_ports (number + 1)) body) × HaveCodes program (number + 1) (tile + 4) bodies

-- on the tiles of processes that stand in line there is their code, where no process before them stands there
pub line_codes : (code : ℕ → Option (List MarkedInstr)) (other : ℕ → List MarkedInstr) (number tile : ℕ) (processes : List ProcessText) (bodies : List (Block ℕ)) → ArePlaced number tile processes bodies →
    ((at : ℕ) → tile ≤ at → code at ≡ process_code_at number processes bodies at) → HaveCodes (λ at. unwrap_or (code at) (other at)) number tile bodies
line_codes code other number tile [] [] line same = tt
line_codes code other number tile (process ∷ processes) (body ∷ bodies) line same =
    let here : process_code_at number (process ∷ processes) (body ∷ bodies) tile ≡ Some (program_of (column_ports (number + 1)) body) = rw (line.0.at, eq-eqb tile tile refl) refl in (
      ap (λ (o : Option (List MarkedInstr)). unwrap_or o (other tile)) (same tile (omega arith) ∙ here),
      line_codes code other (number + 1) (tile + 4) processes bodies line.1
          (λ at lower. let elsewhere : tile ≢ at = λ e. omega arith in same at (omega arith) ∙ rw (line.0.at, ne_eqb tile at elsewhere) refl),
    )
line_codes code other number tile [] (body ∷ bodies) line same = absurd line
line_codes code other number tile (process ∷ processes) [] line same = absurd line

-- ---- stages

-- the bodies are rounds, one behind the other, whose code behaves
pub record IsLink (number : ℕ) (body : Block ℕ) : Type 0 where
  pub round : Round number (number + 1) body
  pub values : HasValues (program_of (column_ports (number + 1)) body)
  pub sound : IsSound (program_of (column_ports (number + 1)) body)
  pub behaves : Behaves (program_of (column_ports (number + 1)) body) body (column_ports (number + 1))

abbrev pub IsLine : ℕ → List (Block ℕ) → Type 0
IsLine number [] = Unit {0}
IsLine number (body ∷ bodies) = IsLink number body × IsLine (number + 1) bodies

-- a body is one of these
abbrev pub IsAmongBodies : Block ℕ → List (Block ℕ) → Type 0
IsAmongBodies body [] = ⊥
IsAmongBodies body (first ∷ bodies) = (first ≡ body) ⊎ IsAmongBodies body bodies

-- so are those of processes that stand one below the other
pub is_line : CodeIsSound → (program : ℕ → List MarkedInstr) (number tile : ℕ) (processes : List ProcessText) (bodies : List (Block ℕ)) → ArePlaced number tile processes bodies → HaveCodes program number tile bodies → tile + 4 * length bodies < 16 → ((at : ℕ) → at < 12 → HasValues (program at)) →
    ((at : ℕ) (body : Block ℕ) (round : Round at (at + 1) body) → IsAmongBodies body bodies → Behaves (program_of (column_ports (at + 1)) body) body (column_ports (at + 1))) → IsLine number bodies
is_line sound program number tile [] [] line codes room values behave = tt
is_line sound program number tile (process ∷ processes) (body ∷ bodies) line codes room values behave = (
  record { round = line.0.round; values = subst HasValues codes.0 (values tile (omega (arith, room))); sound = sound (column_ports (number + 1)) body; behaves = behave number body line.0.round (inl refl) },
  is_line sound program (number + 1) (tile + 4) processes bodies line.1 codes.1 (omega (arith, room)) values (λ at other round among. behave at other round (inr among)),
)
is_line sound program number tile [] (body ∷ bodies) line codes room values behave = absurd line
is_line sound program number tile (process ∷ processes) [] line codes room values behave = absurd line

-- the stages of processes that stand in line
abbrev pub line_stages : (number : ℕ) (bodies : List (Block ℕ)) → IsLine number bodies → List Stage
line_stages number [] line = []
line_stages number (body ∷ bodies) line = round_stage number body line.0.round line.0.values line.0.sound line.0.behaves ∷ line_stages (number + 1) bodies line.1

-- one for each process
pub length-line_stages : (number : ℕ) (bodies : List (Block ℕ)) (line : IsLine number bodies) → length (line_stages number bodies line) ≡ length bodies
length-line_stages number [] line = refl
length-line_stages number (body ∷ bodies) line = ap (λ (count : ℕ). suc count) (length-line_stages (number + 1) bodies line.1)

-- the stages of a column
abbrev pub column_stages : (bodies : List (Block ℕ)) → IsLine 0 bodies → List Stage
column_stages bodies line = line_stages 0 bodies line ++ replicate (3 - length bodies) pass_stage

-- one for each of the three rows
pub length-column_stages : (bodies : List (Block ℕ)) (line : IsLine 0 bodies) → length bodies ≤ 3 → length (column_stages bodies line) ≡ 3
length-column_stages bodies line few =
    omega (arith, length-append (line_stages 0 bodies line) (replicate (3 - length bodies) pass_stage), length-line_stages 0 bodies line, length-replicate (3 - length bodies) pass_stage, few)

-- what stages make, one part behind the other
pub made_by-append : (prefix back : List Stage) (values : List ℤ) → made_by (prefix ++ back) values ≡ made_by back (made_by prefix values)
made_by-append [] back values = refl
made_by-append (stage ∷ prefix) back values = made_by-append prefix back (stage.makes values)

-- tiles that pass values on change nothing
pub made_by-passes : (rows : ℕ) (values : List ℤ) → made_by (replicate rows pass_stage) values ≡ values
made_by-passes zero values = refl
made_by-passes (suc rows) values = made_by-passes rows values

-- the most steps of stages, one part behind the other
pub most_steps-append : (prefix back : List Stage) (count : ℕ) → most_steps (prefix ++ back) count ≡ most_steps prefix count + most_steps back count
most_steps-append [] back count = omega arith
most_steps-append (stage ∷ prefix) back count = omega (arith, most_steps-append prefix back count)

-- the most steps of tiles that pass values on
pub most_steps-passes : (rows count : ℕ) → most_steps (replicate rows pass_stage) count ≡ (count + count) * rows
most_steps-passes zero count = omega arith
most_steps-passes (suc rows) count = omega (arith, most_steps-passes rows count)

-- some stage makes two steps at least for each value
pub most_steps-some : (stages : List Stage) (count : ℕ) → 0 < length stages → count + count ≤ most_steps stages count
most_steps-some [] count some = absurd (omega arith)
most_steps-some (stage ∷ stages) count some = omega arith

-- the code of the stages stands tile below tile
abbrev pub HavePrograms : (ℕ → List MarkedInstr) → ℕ → List Stage → Type 0
HavePrograms program tile [] = Unit {0}
HavePrograms program tile (stage ∷ stages) = (program tile ≡ stage.program) × HavePrograms program (tile + 4) stages

-- one part behind the other
pub have_programs-append : (program : ℕ → List MarkedInstr) (tile : ℕ) (prefix back : List Stage) → HavePrograms program tile prefix → HavePrograms program (tile + 4 * length prefix) back → HavePrograms program tile (prefix ++ back)
have_programs-append program tile [] back first second = subst (λ (t : ℕ). HavePrograms program t back) (omega arith) second
have_programs-append program tile (stage ∷ prefix) back first second =
    (first.0, have_programs-append program (tile + 4) prefix back first.1 (subst (λ (t : ℕ). HavePrograms program t back) (omega arith) second))

pub line_programs : (program : ℕ → List MarkedInstr) (number tile : ℕ) (bodies : List (Block ℕ)) (line : IsLine number bodies) → HaveCodes program number tile bodies → HavePrograms program tile (line_stages number bodies line)
line_programs program number tile [] line codes = tt
line_programs program number tile (body ∷ bodies) line codes = (codes.0, line_programs program (number + 1) (tile + 4) bodies line.1 codes.1)

-- ---- the tiles that the output passes

-- the output passes each tile below the last process
pub passed : (position count row tile : ℕ) → 0 < count → count ≤ row → row < 3 → tile ≡ position + 4 * row → list_any (λ other. other == tile) (tiles_below position count) ≡ true
passed position zero row tile some lower inside is = absurd (omega arith)
passed position (suc zero) zero tile some lower inside is = absurd (omega arith)
passed position (suc zero) (suc zero) tile some lower inside is = rw (eq-eqb (position + 4) tile (omega arith)) refl
passed position (suc zero) (suc (suc zero)) tile some lower inside is = or_right (position + 4 == tile) _ (rw (eq-eqb (position + 8) tile (omega arith)) refl)
passed position (suc zero) (suc (suc (suc row))) tile some lower inside is = absurd (omega arith)
passed position (suc (suc zero)) zero tile some lower inside is = absurd (omega arith)
passed position (suc (suc zero)) (suc zero) tile some lower inside is = absurd (omega arith)
passed position (suc (suc zero)) (suc (suc zero)) tile some lower inside is = rw (eq-eqb (position + 8) tile (omega arith)) refl
passed position (suc (suc zero)) (suc (suc (suc row))) tile some lower inside is = absurd (omega arith)
passed position (suc (suc (suc count))) row tile some lower inside is = absurd (omega arith)

-- and no tile of another column
pub not_passed : (position count tile : ℕ) → IsApart position 3 tile → list_any (λ other. other == tile) (tiles_below position count) ≡ false
not_passed position zero tile apart =
    let second : position + 4 ≢ tile = λ e. apart 1 (omega arith) (omega arith) in
    let third : position + 8 ≢ tile = λ e. apart 2 (omega arith) (omega arith) in
    rw (ne_eqb (position + 4) tile second, ne_eqb (position + 8) tile third) refl
not_passed position (suc zero) tile apart =
    let second : position + 4 ≢ tile = λ e. apart 1 (omega arith) (omega arith) in
    let third : position + 8 ≢ tile = λ e. apart 2 (omega arith) (omega arith) in
    rw (ne_eqb (position + 4) tile second, ne_eqb (position + 8) tile third) refl
not_passed position (suc (suc zero)) tile apart =
    let third : position + 8 ≢ tile = λ e. apart 2 (omega arith) (omega arith) in
    rw (ne_eqb (position + 8) tile third) refl
not_passed position (suc (suc (suc count))) tile apart = refl
