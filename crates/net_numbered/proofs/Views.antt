-- A body as it is held, and as it is seen.
use Rattle.std.proofs.Common.{◌≡◌, ℕ, zero, suc, ◌+◌, ◌<◌, ◌≤◌, take, List, [], ◌∷◌, ◌++◌, map, length, get_or, refl, sym, ap, ◌∙◌, arith, Some}
use Rattle.std.specs.Prelude.{slice_get}
use Rattle.std.proofs.lemmas.List.{map-append, length-map, map_more, take_all}
use Rattle.net_numbered.specs.declared.tree.NumberedStatement as held
use Rattle.net_numbered.specs.declared.tree.NumberedStatement.TheVariants as held_as
use Rattle.net_tree.specs.declared.tree.Var.{Var}
use Rattle.net_tree.specs.declared.tree.Test.{Test}
use Rattle.net_numbered.specs.declared.tree.NumberedStatement.TheFolds as folds
use Rattle.net_numbered.specs.declared.tree.NumberedStatement.TheOpen as level
use Rattle.net_numbered.specs.declared.tree.NumberedStatement.TheViews.{roll-NumberedBlock, roll-StatementOnLine}
use Rattle.net_numbered.specs.declared.tree.NumberedBlock as held_block
use Rattle.net_numbered.specs.declared.tree.StatementOnLine as held_lined
use Rattle.net_tree.specs.Tree.{Statement, If, Block, Then, with_last, statements_of}
use Rattle.net_numbered.specs.View.{Lined, block_of, statement_level, block_level, lined_level, numbered_statement, numbered_block}

-- a statement with its line as it is held
abbrev pub lined_view : held_lined.StatementOnLine → Lined
lined_view = folds.fold-StatementOnLine (Statement ℕ) (Block ℕ) Lined statement_level block_level lined_level

pub lined_seen : (numbered : held_lined.StatementOnLine) → lined_view numbered ≡ (numbered.line, numbered_statement numbered.statement)
lined_seen numbered = folds.fold_out-StatementOnLine (Statement ℕ) (Block ℕ) Lined statement_level block_level lined_level numbered

-- a block is seen as its statements are
pub block_seen : (block : held_block.NumberedBlock) → numbered_block block ≡ block_of (map lined_view (held_block.out-NumberedBlock block).statements)
block_seen block = folds.fold_out-NumberedBlock (Statement ℕ) (Block ℕ) Lined statement_level block_level lined_level block

-- the statements of a block of statements
pub statements_of-block_of : (items : List Lined) → statements_of (block_of items) ≡ items
statements_of-block_of [] = refl
statements_of-block_of (item ∷ items) = ap (λ (others : List Lined). item ∷ others) (statements_of-block_of items)

pub block_of-with_last : (items : List Lined) (line : ℕ) (statement : Statement ℕ) → block_of (items ++ (line, statement) ∷ []) ≡ with_last (block_of items) line statement
block_of-with_last [] line statement = refl
block_of-with_last (item ∷ items) line statement = ap (λ (others : Block ℕ). Then item.0 item.1 others) (block_of-with_last items line statement)

pub block_rolled : (block : level.NumberedBlock-F held.NumberedStatement held_block.NumberedBlock held_lined.StatementOnLine) → numbered_block (roll-NumberedBlock block) ≡ block_of (map lined_view block.statements)
block_rolled block = folds.fold-roll-NumberedBlock (Statement ℕ) (Block ℕ) Lined statement_level block_level lined_level block

lined_rolled : (statement : held.NumberedStatement) (line : ℕ) → lined_view (roll-StatementOnLine (record { statement = statement; line = line })) ≡ (line, numbered_statement statement)
lined_rolled statement line = folds.fold-roll-StatementOnLine (Statement ℕ) (Block ℕ) Lined statement_level block_level lined_level (record { statement = statement; line = line })

-- how many statements a block has
pub block_length : (block : held_block.NumberedBlock) → length (statements_of (numbered_block block)) ≡ length (held_block.out-NumberedBlock block).statements
block_length block =
    let items = (held_block.out-NumberedBlock block).statements in
    ap (λ (b : Block ℕ). length (statements_of b)) (block_seen block) ∙ ap length (statements_of-block_of (map lined_view items)) ∙ length-map items lined_view

-- a block with one more statement
pub block_pushed : (block : held_block.NumberedBlock) (new : List held_lined.StatementOnLine) (statement : held.NumberedStatement) (line : ℕ) → new ≡ (held_block.out-NumberedBlock block).statements ++ roll-StatementOnLine (record { statement = statement; line = line }) ∷ [] → numbered_block (roll-NumberedBlock (record { statements = new })) ≡ with_last (numbered_block block) line (numbered_statement statement)
block_pushed block new statement line is =
    let items = (held_block.out-NumberedBlock block).statements in
    let last : held_lined.StatementOnLine = roll-StatementOnLine (record { statement = statement; line = line }) in
    block_rolled (record { statements = new }) ∙ ap (λ (n : List held_lined.StatementOnLine). block_of (map lined_view n)) is ∙ ap block_of (map-append lined_view items (last ∷ []))
    ∙ ap (λ (n : Lined). block_of (map lined_view items ++ n ∷ [])) (lined_rolled statement line) ∙ block_of-with_last (map lined_view items) line (numbered_statement statement)
    ∙ ap (λ (b : Block ℕ). with_last b line (numbered_statement statement)) (sym (block_seen block))

-- one element of a list of what is seen
get_seen : (items : List held_lined.StatementOnLine) (index : ℕ) (default : held_lined.StatementOnLine) → index < length items → slice_get (map lined_view items) index ≡ Some (lined_view (get_or items index default))
get_seen [] index default within = absurd (omega arith)
get_seen (item ∷ items) zero default within = refl
get_seen (item ∷ items) (suc index) default within = get_seen items index default (omega arith)

-- the statement at an index, with its line
pub block_at : (block : held_block.NumberedBlock) (items : List held_lined.StatementOnLine) (index : ℕ) (default : held_lined.StatementOnLine) → items ≡ (held_block.out-NumberedBlock block).statements → index < length items → slice_get (statements_of (numbered_block block)) index ≡ Some ((get_or items index default).line, numbered_statement (get_or items index default).statement)
block_at block items index default is within =
    ap (λ (b : Block ℕ). slice_get (statements_of b) index) (block_seen block)
    ∙ ap (λ (l : List Lined). slice_get l index) (statements_of-block_of (map lined_view (held_block.out-NumberedBlock block).statements))
    ∙ ap (λ (l : List held_lined.StatementOnLine). slice_get (map lined_view l) index) (sym is)
    ∙ get_seen items index default within
    ∙ ap (λ (n : Lined). Some n) (lined_seen (get_or items index default))

pub block_within : (block : held_block.NumberedBlock) (items : List held_lined.StatementOnLine) (index : ℕ) → items ≡ (held_block.out-NumberedBlock block).statements → index < length (statements_of (numbered_block block)) → index < length items
block_within block items index is within = let a = block_length block in let b = ap length is in omega (arith, a, b)

-- ---- statements one after the other, as a loop meets them

-- one more of the statements was added
pub block_grown : (items : List held_lined.StatementOnLine) (index : ℕ) (item : held_lined.StatementOnLine) (copy more : Block ℕ) → index < length items → item ≡ get_or items index item → copy ≡ block_of (map lined_view (take index items)) → more ≡ with_last copy item.line (numbered_statement item.statement) → more ≡ block_of (map lined_view (take (index + 1) items))
block_grown items index item copy more within item_is copy_is more_is =
    more_is ∙ ap (λ (b : Block ℕ). with_last b item.line (numbered_statement item.statement)) copy_is
    ∙ sym (block_of-with_last (map lined_view (take index items)) item.line (numbered_statement item.statement))
    ∙ ap (λ (n : Lined). block_of (map lined_view (take index items) ++ n ∷ [])) (sym (lined_seen item) ∙ ap lined_view item_is)
    ∙ ap block_of (sym (map_more lined_view items index item within))

-- all of them were added
pub block_whole : (block : held_block.NumberedBlock) (items : List held_lined.StatementOnLine) (index : ℕ) (copy : Block ℕ) → items ≡ (held_block.out-NumberedBlock block).statements → length items ≤ index → copy ≡ block_of (map lined_view (take index items)) → copy ≡ numbered_block block
block_whole block items index copy is past copy_is =
    copy_is ∙ ap (λ (l : List held_lined.StatementOnLine). block_of (map lined_view l)) (take_all index items past ∙ is) ∙ sym (block_seen block)

-- an `if` as it is seen
pub if_seen : (var : Var) (test : Test) (first second : held_block.NumberedBlock) → numbered_statement (held_as.If var test first second) ≡ If var test (numbered_block first) (numbered_block second)
if_seen var test first second = ap numbered_statement (sym (held_as.rolls-If var test first second)) ∙ folds.fold-roll-NumberedStatement (Statement ℕ) (Block ℕ) Lined statement_level block_level lined_level (level.If var test first second)
