-- The tree of a network as it is held, and as it is seen.
use Rattle.std.proofs.Common.{◌≡◌, ℕ, zero, suc, ◌+◌, ◌<◌, ◌≤◌, take, List, [], ◌∷◌, ◌++◌, map, length, get_or, refl, sym, ap, ◌∙◌, arith, Some}
use Rattle.std.specs.Prelude.{slice_get}
use Rattle.std.proofs.lemmas.List.{map-append, length-map, map_more, take_all}
use Rattle.net_tree.specs.declared.tree.Statement as held
use Rattle.net_tree.specs.declared.tree.Statement.TheVariants as held_as
use Rattle.net_tree.specs.declared.tree.Var.{Var}
use Rattle.net_tree.specs.declared.tree.Test.{Test}
use Rattle.net_tree.specs.declared.tree.Statement.TheFolds as folds
use Rattle.net_tree.specs.declared.tree.Statement.TheOpen as level
use Rattle.net_tree.specs.declared.tree.Statement.TheViews.{roll-Block, roll-Numbered}
use Rattle.net_tree.specs.declared.tree.Block as held_block
use Rattle.net_tree.specs.declared.tree.Numbered as held_numbered
use Rattle.net_tree.specs.Tree.{Name, Statement, If, Block, Then, with_last, statements_of}
use Rattle.net_tree.specs.View.{Numbered, block_with, statement_level, block_level, numbered_level, statement_view, block_view}

-- a statement with its line as it is held
abbrev pub numbered_view : held_numbered.Numbered → Numbered
numbered_view = folds.fold-Numbered (Statement Name) (Block Name) Numbered statement_level block_level numbered_level

pub numbered_seen : (numbered : held_numbered.Numbered) → numbered_view numbered ≡ (numbered.line, statement_view numbered.statement)
numbered_seen numbered = folds.fold_out-Numbered (Statement Name) (Block Name) Numbered statement_level block_level numbered_level numbered

-- a block is seen as its statements are
pub block_seen : (block : held_block.Block) → block_view block ≡ block_with (map numbered_view (held_block.out-Block block).statements)
block_seen block = folds.fold_out-Block (Statement Name) (Block Name) Numbered statement_level block_level numbered_level block

-- the statements of a block of statements
pub statements_of-block_with : (items : List Numbered) → statements_of (block_with items) ≡ items
statements_of-block_with [] = refl
statements_of-block_with (item ∷ items) = ap (λ (others : List Numbered). item ∷ others) (statements_of-block_with items)

pub block_with-with_last : (items : List Numbered) (line : ℕ) (statement : Statement Name) → block_with (items ++ (line, statement) ∷ []) ≡ with_last (block_with items) line statement
block_with-with_last [] line statement = refl
block_with-with_last (item ∷ items) line statement = ap (λ (others : Block Name). Then item.0 item.1 others) (block_with-with_last items line statement)

pub block_rolled : (block : level.Block-F held.Statement held_block.Block held_numbered.Numbered) → block_view (roll-Block block) ≡ block_with (map numbered_view block.statements)
block_rolled block = folds.fold-roll-Block (Statement Name) (Block Name) Numbered statement_level block_level numbered_level block

numbered_rolled : (statement : held.Statement) (line : ℕ) → numbered_view (roll-Numbered (record { statement = statement; line = line })) ≡ (line, statement_view statement)
numbered_rolled statement line = folds.fold-roll-Numbered (Statement Name) (Block Name) Numbered statement_level block_level numbered_level (record { statement = statement; line = line })

-- how many statements a block has
pub block_length : (block : held_block.Block) → length (statements_of (block_view block)) ≡ length (held_block.out-Block block).statements
block_length block =
    let items = (held_block.out-Block block).statements in
    ap (λ (b : Block Name). length (statements_of b)) (block_seen block) ∙ ap length (statements_of-block_with (map numbered_view items)) ∙ length-map items numbered_view

-- a block with one more statement
pub block_pushed : (block : held_block.Block) (new : List held_numbered.Numbered) (statement : held.Statement) (line : ℕ) → new ≡ (held_block.out-Block block).statements ++ roll-Numbered (record { statement = statement; line = line }) ∷ [] → block_view (roll-Block (record { statements = new })) ≡ with_last (block_view block) line (statement_view statement)
block_pushed block new statement line is =
    let items = (held_block.out-Block block).statements in
    let last : held_numbered.Numbered = roll-Numbered (record { statement = statement; line = line }) in
    block_rolled (record { statements = new }) ∙ ap (λ (n : List held_numbered.Numbered). block_with (map numbered_view n)) is ∙ ap block_with (map-append numbered_view items (last ∷ []))
    ∙ ap (λ (n : Numbered). block_with (map numbered_view items ++ n ∷ [])) (numbered_rolled statement line) ∙ block_with-with_last (map numbered_view items) line (statement_view statement)
    ∙ ap (λ (b : Block Name). with_last b line (statement_view statement)) (sym (block_seen block))

-- one element of a list of what is seen
get_seen : (items : List held_numbered.Numbered) (index : ℕ) (default : held_numbered.Numbered) → index < length items → slice_get (map numbered_view items) index ≡ Some (numbered_view (get_or items index default))
get_seen [] index default within = absurd (omega arith)
get_seen (item ∷ items) zero default within = refl
get_seen (item ∷ items) (suc index) default within = get_seen items index default (omega arith)

-- the statement at an index, with its line
pub block_at : (block : held_block.Block) (items : List held_numbered.Numbered) (index : ℕ) (default : held_numbered.Numbered) → items ≡ (held_block.out-Block block).statements → index < length items → slice_get (statements_of (block_view block)) index ≡ Some ((get_or items index default).line, statement_view (get_or items index default).statement)
block_at block items index default is within =
    ap (λ (b : Block Name). slice_get (statements_of b) index) (block_seen block)
    ∙ ap (λ (l : List Numbered). slice_get l index) (statements_of-block_with (map numbered_view (held_block.out-Block block).statements))
    ∙ ap (λ (l : List held_numbered.Numbered). slice_get (map numbered_view l) index) (sym is)
    ∙ get_seen items index default within
    ∙ ap (λ (n : Numbered). Some n) (numbered_seen (get_or items index default))

pub block_within : (block : held_block.Block) (items : List held_numbered.Numbered) (index : ℕ) → items ≡ (held_block.out-Block block).statements → index < length (statements_of (block_view block)) → index < length items
block_within block items index is within = let a = block_length block in let b = ap length is in omega (arith, a, b)

-- ---- statements one after the other, as a loop meets them

-- one more of the statements was added
pub block_grown : (items : List held_numbered.Numbered) (index : ℕ) (item : held_numbered.Numbered) (copy more : Block Name) → index < length items → item ≡ get_or items index item → copy ≡ block_with (map numbered_view (take index items)) → more ≡ with_last copy item.line (statement_view item.statement) → more ≡ block_with (map numbered_view (take (index + 1) items))
block_grown items index item copy more within item_is copy_is more_is =
    more_is ∙ ap (λ (b : Block Name). with_last b item.line (statement_view item.statement)) copy_is
    ∙ sym (block_with-with_last (map numbered_view (take index items)) item.line (statement_view item.statement))
    ∙ ap (λ (n : Numbered). block_with (map numbered_view (take index items) ++ n ∷ [])) (sym (numbered_seen item) ∙ ap numbered_view item_is)
    ∙ ap block_with (sym (map_more numbered_view items index item within))

-- all of them were added
pub block_whole : (block : held_block.Block) (items : List held_numbered.Numbered) (index : ℕ) (copy : Block Name) → items ≡ (held_block.out-Block block).statements → length items ≤ index → copy ≡ block_with (map numbered_view (take index items)) → copy ≡ block_view block
block_whole block items index copy is past copy_is =
    copy_is ∙ ap (λ (l : List held_numbered.Numbered). block_with (map numbered_view l)) (take_all index items past ∙ is) ∙ sym (block_seen block)

-- an `if` as it is seen
pub if_seen : (var : Var) (test : Test) (first second : held_block.Block) → statement_view (held_as.If var test first second) ≡ If var test (block_view first) (block_view second)
if_seen var test first second = ap statement_view (sym (held_as.rolls-If var test first second)) ∙ folds.fold-roll-Statement (Statement Name) (Block Name) Numbered statement_level block_level numbered_level (level.If var test first second)
