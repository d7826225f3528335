-- What is written line by line is the canonical text.
use Rattle.std.proofs.Common.{◌≡◌, ℕ, zero, suc, ◌+◌, ◌-◌, ◌*◌, ◌<◌, ◌≤◌, List, [], ◌∷◌, ◌++◌, map, take, drop, length, get_or, refl, sym, ap, ◌∙◌, arith, append_assoc, append-nil, length-drop, drop-drop}
use Rattle.std.specs.List.{join_with_byte}
use Rattle.std.specs.Prelude.{Result, Ok, Err, Some, OnOk, codes, flat_map, slice_get}
use Rattle.std.proofs.Math.Nat.{suc-mul}
use Rattle.std.proofs.lemmas.List.{map-append, map_more, get_or-drop}
use Rattle.std.proofs.lemmas.Option.{get_or_from_slice_get}
use Rattle.tis_base.specs.declared.tiles.TileKind.{TileKind}
use Rattle.tis_base.specs.Lines.{text_of_lines}
use Rattle.tis_base.proofs.WrittenLines.{text_of_lines-append}
use Rattle.net_tree.specs.declared.tree.Block as held_block
use Rattle.net_tree.specs.declared.tree.Numbered as held_numbered
use Rattle.tis_words.specs.Words.{Words}
use Rattle.net_tree.specs.Tree.{Name, Statement, Block, Empty, Then, with_last}
use Rattle.net_tree.specs.View.{block_with, statement_view, block_view}
use Rattle.net_tree.specs.NetText.{kind_letter, row_words, line_text, lines_text, words_behind, statement_line, inner_lines, block_lines}
use Rattle.net_tree.proofs.Views.{numbered_view, block_grown, block_whole}

-- the first word of a line, and those behind it
pub join_behind : (word : List ℕ) (words : Words) → join_with_byte 32 (word ∷ words) ≡ word ++ words_behind words
join_behind word [] = sym (append-nil word)
join_behind word (next ∷ words) = ap (λ (behind : List ℕ). word ++ 32 ∷ behind) (join_behind next words)

-- lines behind lines
pub lines_append : (first others : List Words) → lines_text (first ++ others) ≡ lines_text first ++ lines_text others
lines_append first others = ap text_of_lines (map-append (join_with_byte 32) first others) ∙ text_of_lines-append (map (join_with_byte 32) first) (map (join_with_byte 32) others)

-- one line before others
pub lines_cons : (first : Words) (others : List Words) → lines_text (first ∷ others) ≡ line_text first ++ lines_text others
lines_cons first others = sym (append_assoc (join_with_byte 32 first) (10 ∷ []) (lines_text others))

-- ---- one piece behind the other

-- two pieces behind what was there
then : (old mid new a b : List ℕ) → mid ≡ old ++ a → new ≡ mid ++ b → new ≡ old ++ (a ++ b)
then old mid new a b one two = two ∙ ap (λ (m : List ℕ). m ++ b) one ∙ append_assoc old a b

-- what follows from what a call wrote, where it didn't fail
pub on_ok : {X E : Type 0} (A B : Type 0) (result : Result X E) → (A → B) → OnOk result A → OnOk result B
on_ok A B (Ok x) goes is = goes is
on_ok A B (Err e) goes is = tt

-- a word, a name and how a link goes
pub name_is : (old m1 m2 m3 new word name : List ℕ) (via : Words) → m1 ≡ old ++ (word ++ 32 ∷ []) → m2 ≡ m1 ++ name → m3 ≡ m2 ++ words_behind via → new ≡ m3 ++ 10 ∷ [] → new ≡ old ++ line_text (word ∷ name ∷ via)
name_is old m1 m2 m3 new word name via e1 e2 e3 e4 =
    then old m3 new ((word ++ 32 ∷ []) ++ (name ++ words_behind via)) (10 ∷ []) (then old m1 m3 (word ++ 32 ∷ []) (name ++ words_behind via) e1 (then m1 m2 m3 name (words_behind via) e2 e3)) e4
    ∙ ap (λ (l : List ℕ). old ++ (l ++ 10 ∷ [])) (append_assoc word (32 ∷ []) (name ++ words_behind via) ∙ ap (λ (l : List ℕ). word ++ (32 ∷ l)) (sym (join_behind name via)))

-- the line of an input or an output
pub port_is : (old m1 m2 m3 m4 m5 new side name number : List ℕ) (via : Words) → m1 ≡ old ++ (side ++ 32 ∷ []) → m2 ≡ m1 ++ (name ++ 32 ∷ []) → m3 ≡ m2 ++ codes "at" → m4 ≡ m3 ++ 32 ∷ number → m5 ≡ m4 ++ words_behind via → new ≡ m5 ++ 10 ∷ [] → new ≡ old ++ line_text (side ∷ name ∷ codes "at" ∷ number ∷ via)
port_is old m1 m2 m3 m4 m5 new side name number via e1 e2 e3 e4 e5 e6 =
    let tail : List ℕ = 32 ∷ (number ++ words_behind via) in
    let f5 : m5 ≡ m3 ++ tail = then m3 m4 m5 (32 ∷ number) (words_behind via) e4 e5 in
    let f3 : m5 ≡ m2 ++ (codes "at" ++ tail) = then m2 m3 m5 (codes "at") tail e3 f5 in
    let f2 : m5 ≡ m1 ++ ((name ++ 32 ∷ []) ++ (codes "at" ++ tail)) = then m1 m2 m5 (name ++ 32 ∷ []) (codes "at" ++ tail) e2 f3 in
    let f1 : m5 ≡ old ++ ((side ++ 32 ∷ []) ++ ((name ++ 32 ∷ []) ++ (codes "at" ++ tail))) = then old m1 m5 (side ++ 32 ∷ []) ((name ++ 32 ∷ []) ++ (codes "at" ++ tail)) e1 f2 in
    then old m5 new ((side ++ 32 ∷ []) ++ ((name ++ 32 ∷ []) ++ (codes "at" ++ tail))) (10 ∷ []) f1 e6
    ∙ ap (λ (l : List ℕ). old ++ (l ++ 10 ∷ []))
    (append_assoc side (32 ∷ []) ((name ++ 32 ∷ []) ++ (codes "at" ++ tail))
    ∙ ap (λ (l : List ℕ). side ++ (32 ∷ l)) (append_assoc name (32 ∷ []) (codes "at" ++ tail))
    ∙ ap (λ (l : List ℕ). side ++ (32 ∷ (name ++ (32 ∷ (codes "at" ++ (32 ∷ l)))))) (sym (join_behind number via)))

-- the first two lines
pub head_is : (old m1 m2 m3 m4 new first number second : List ℕ) (rows : Words) → m1 ≡ old ++ first → m2 ≡ m1 ++ 32 ∷ number → m3 ≡ m2 ++ 10 ∷ second → m4 ≡ m3 ++ words_behind rows → new ≡ m4 ++ 10 ∷ [] → new ≡ old ++ (line_text (first ∷ number ∷ []) ++ line_text (second ∷ rows))
head_is old m1 m2 m3 m4 new first number second rows e1 e2 e3 e4 e5 =
    let tail : List ℕ = words_behind rows ++ 10 ∷ [] in
    let f4 : new ≡ m3 ++ tail = then m3 m4 new (words_behind rows) (10 ∷ []) e4 e5 in
    let f3 : new ≡ m2 ++ (10 ∷ (second ++ tail)) = then m2 m3 new (10 ∷ second) tail e3 f4 in
    let f2 : new ≡ m1 ++ (32 ∷ (number ++ (10 ∷ (second ++ tail)))) = then m1 m2 new (32 ∷ number) (10 ∷ (second ++ tail)) e2 f3 in
    then old m1 new first (32 ∷ (number ++ (10 ∷ (second ++ tail)))) e1 f2
    ∙ ap (λ (l : List ℕ). old ++ (first ++ (32 ∷ (number ++ (10 ∷ l))))) (sym (append_assoc second (words_behind rows) (10 ∷ [])) ∙ ap (λ (l : List ℕ). l ++ 10 ∷ []) (sym (join_behind second rows)))
    ∙ ap (λ (l : List ℕ). old ++ l) (sym (append_assoc (first ++ 32 ∷ number) (10 ∷ []) (line_text (second ∷ rows)) ∙ append_assoc first (32 ∷ number) (10 ∷ line_text (second ∷ rows))))

-- ---- lists of lines

-- lines and an `end`
pub closed_is : (old m1 new : List ℕ) (lines : List Words) (end : Words) → m1 ≡ old ++ lines_text lines → new ≡ m1 ++ line_text end → new ≡ old ++ lines_text (lines ++ end ∷ [])
closed_is old m1 new lines end e1 e2 = then old m1 new (lines_text lines) (line_text end) e1 e2 ∙ ap (λ (l : List ℕ). old ++ l) (sym (lines_append lines (end ∷ [])))

-- two lists of lines and an `end`
pub branches_are : (old m1 m2 new : List ℕ) (lines others : List Words) (end : Words) → m1 ≡ old ++ lines_text lines → m2 ≡ m1 ++ lines_text others → new ≡ m2 ++ line_text end → new ≡ old ++ lines_text ((lines ++ others) ++ end ∷ [])
branches_are old m1 m2 new lines others end e1 e2 e3 =
    closed_is old m2 new (lines ++ others) end (then old m1 m2 (lines_text lines) (lines_text others) e1 e2 ∙ ap (λ (l : List ℕ). old ++ l) (sym (lines_append lines others))) e3

-- a process line, lines and an `end`
pub process_is : (old m1 m2 new : List ℕ) (first : Words) (lines : List Words) (end : Words) → m1 ≡ old ++ line_text first → m2 ≡ m1 ++ lines_text lines → new ≡ m2 ++ line_text end → new ≡ old ++ lines_text ((first ∷ lines) ++ end ∷ [])
process_is old m1 m2 new first lines end e1 e2 e3 =
    then old m1 new (line_text first) (lines_text (lines ++ end ∷ [])) e1 (closed_is m1 m2 new lines end e2 e3) ∙ ap (λ (l : List ℕ). old ++ l) (sym (lines_cons first (lines ++ end ∷ [])))

block_lines-last : (block : Block Name) (number : ℕ) (statement : Statement Name) → block_lines (with_last block number statement) ≡ block_lines block ++ (statement_line statement ∷ inner_lines statement)
block_lines-last Empty number statement = append-nil (statement_line statement ∷ inner_lines statement)
block_lines-last (Then n s rest) number statement =
    ap (λ (l : List Words). (statement_line s ∷ inner_lines s) ++ l) (block_lines-last rest number statement) ∙ sym (append_assoc (statement_line s ∷ inner_lines s) (block_lines rest) (statement_line statement ∷ inner_lines statement))

-- one statement more of a block
pub statement_written : (items : List held_numbered.Numbered) (index : ℕ) (item : held_numbered.Numbered) (old out new : List ℕ) → index < length items → item ≡ get_or items index item → out ≡ old ++ lines_text (block_lines (block_with (map numbered_view (take index items)))) → new ≡ out ++ lines_text (statement_line (statement_view item.statement) ∷ inner_lines (statement_view item.statement)) → new ≡ old ++ lines_text (block_lines (block_with (map numbered_view (take (index + 1) items))))
statement_written items index item old out new within item_is out_is new_is =
    let before = block_with (map numbered_view (take index items)) in
    let s = statement_view item.statement in
    let more : with_last before item.line s ≡ block_with (map numbered_view (take (index + 1) items)) = block_grown items index item before (with_last before item.line s) within item_is refl refl in
    then old out new (lines_text (block_lines before)) (lines_text (statement_line s ∷ inner_lines s)) out_is new_is
    ∙ ap (λ (l : List ℕ). old ++ l) (sym (lines_append (block_lines before) (statement_line s ∷ inner_lines s)))
    ∙ ap (λ (l : List Words). old ++ lines_text l) (sym (block_lines-last before item.line s))
    ∙ ap (λ (b : Block Name). old ++ lines_text (block_lines b)) more

-- all statements of a block
pub block_written : (block : held_block.Block) (items : List held_numbered.Numbered) (index : ℕ) (old out : List ℕ) → items ≡ (held_block.out-Block block).statements → length items ≤ index → out ≡ old ++ lines_text (block_lines (block_with (map numbered_view (take index items)))) → out ≡ old ++ lines_text (block_lines (block_view block))
block_written block items index old out is past out_is = out_is ∙ ap (λ (b : Block Name). old ++ lines_text (block_lines b)) (block_whole block items index (block_with (map numbered_view (take index items))) is past refl)

-- what is seen of one more
seen_more : {X Y : Type 0} (view : X → Y) (xs : List X) (index : ℕ) (x : X) → index < length xs → x ≡ get_or xs index x → map view (take (index + 1) xs) ≡ map view (take index xs) ++ view x ∷ []
seen_more view xs index x within is = map_more view xs index x within ∙ ap (λ y. map view (take index xs) ++ view y ∷ []) (sym is)

-- one line more
pub line_written : {X Y : Type 0} (view : X → Y) (words : Y → Words) (xs : List X) (index : ℕ) (x : X) (old out new : List ℕ) → index < length xs → x ≡ get_or xs index x → out ≡ old ++ lines_text (map words (map view (take index xs))) → new ≡ out ++ line_text (words (view x)) → new ≡ old ++ lines_text (map words (map view (take (index + 1) xs)))
line_written view words xs index x old out new within is out_is new_is =
    let before = map words (map view (take index xs)) in
    then old out new (lines_text before) (line_text (words (view x))) out_is new_is
    ∙ ap (λ (l : List ℕ). old ++ l) (sym (lines_append before (words (view x) ∷ [])))
    ∙ ap (λ (l : List Words). old ++ lines_text l) (sym (map-append words (map view (take index xs)) (view x ∷ [])) ∙ ap (map words) (sym (seen_more view xs index x within is)))

flat_last : {X : Type 0} (f : X → List Words) (xs : List X) (x : X) → flat_map f (xs ++ x ∷ []) ≡ flat_map f xs ++ f x
flat_last f [] x = append-nil (f x)
flat_last f (y ∷ xs) x = ap (λ (l : List Words). f y ++ l) (flat_last f xs x) ∙ sym (append_assoc (f y) (flat_map f xs) (f x))

-- the lines of one more
pub lines_written : {X Y : Type 0} (view : X → Y) (lines : Y → List Words) (xs : List X) (index : ℕ) (x : X) (old out new : List ℕ) → index < length xs → x ≡ get_or xs index x → out ≡ old ++ lines_text (flat_map lines (map view (take index xs))) → new ≡ out ++ lines_text (lines (view x)) → new ≡ old ++ lines_text (flat_map lines (map view (take (index + 1) xs)))
lines_written view lines xs index x old out new within is out_is new_is =
    let before = flat_map lines (map view (take index xs)) in
    then old out new (lines_text before) (lines_text (lines (view x))) out_is new_is
    ∙ ap (λ (l : List ℕ). old ++ l) (sym (lines_append before (lines (view x))))
    ∙ ap (λ (l : List Words). old ++ lines_text l) (sym (flat_last lines (map view (take index xs)) (view x)) ∙ ap (flat_map lines) (sym (seen_more view xs index x within is)))

-- the whole text
pub net_is_written : (first second : Words) (a b c d : List Words) (m0 m1 m2 m3 m4 new : List ℕ) → m0 ≡ [] → m1 ≡ m0 ++ (line_text first ++ line_text second) → m2 ≡ m1 ++ lines_text a → m3 ≡ m2 ++ lines_text b → m4 ≡ m3 ++ lines_text c → new ≡ m4 ++ lines_text d → new ≡ lines_text (first ∷ second ∷ (((a ++ b) ++ c) ++ d))
net_is_written first second a b c d m0 m1 m2 m3 m4 new e0 e1 e2 e3 e4 e5 =
    let f3 : m3 ≡ m1 ++ lines_text (a ++ b) = then m1 m2 m3 (lines_text a) (lines_text b) e2 e3 ∙ ap (λ (l : List ℕ). m1 ++ l) (sym (lines_append a b)) in
    let f4 : m4 ≡ m1 ++ lines_text ((a ++ b) ++ c) = then m1 m3 m4 (lines_text (a ++ b)) (lines_text c) f3 e4 ∙ ap (λ (l : List ℕ). m1 ++ l) (sym (lines_append (a ++ b) c)) in
    let others : List Words = ((a ++ b) ++ c) ++ d in
    let f5 : new ≡ m1 ++ lines_text others = then m1 m4 new (lines_text ((a ++ b) ++ c)) (lines_text d) f4 e5 ∙ ap (λ (l : List ℕ). m1 ++ l) (sym (lines_append ((a ++ b) ++ c) d)) in
    f5 ∙ ap (λ (m : List ℕ). m ++ lines_text others) (e1 ∙ ap (λ (m : List ℕ). m ++ (line_text first ++ line_text second)) e0)
    ∙ append_assoc (line_text first) (line_text second) (lines_text others)
    ∙ ap (λ (l : List ℕ). line_text first ++ l) (sym (lines_cons second others))
    ∙ sym (lines_cons first (second ∷ others))

-- ---- the tiles

-- what is found in a list stands within it
found_within : {X : Type 0} (xs : List X) (index : ℕ) (x : X) → slice_get xs index ≡ Some x → index < length xs
found_within [] index x is = absurd cc
found_within (y ∷ ys) zero x is = omega arith
found_within (y ∷ ys) (suc index) x is = let within = found_within ys index x is in omega (arith, within)

-- one letter more of a row
pub letter_written : (kinds : List TileKind) (start first column : ℕ) (kind : TileKind) (letter : ℕ) (old out new : List ℕ) → first ≡ start → slice_get kinds (first + column) ≡ Some kind → letter ≡ kind_letter kind → out ≡ old ++ 32 ∷ map kind_letter (take column (drop start kinds)) → new ≡ out ++ letter ∷ [] → new ≡ old ++ 32 ∷ map kind_letter (take (column + 1) (drop start kinds))
letter_written kinds start first column kind letter old out new first_is found letter_is out_is new_is =
    let is : slice_get kinds (start + column) ≡ Some kind = ap (λ (n : ℕ). slice_get kinds (n + column)) (sym first_is) ∙ found in
    let within = found_within kinds (start + column) kind is in
    let rest = drop start kinds in
    let len : length rest ≡ length kinds - start = length-drop start kinds in
    let at : get_or rest column kind ≡ kind = get_or-drop start kinds column kind ∙ get_or_from_slice_get kinds (start + column) kind kind is in
    let more : map kind_letter (take (column + 1) rest) ≡ map kind_letter (take column rest) ++ letter ∷ [] =
    map_more kind_letter rest column kind (omega (arith, len, within)) ∙ ap (λ (l : ℕ). map kind_letter (take column rest) ++ l ∷ []) (ap kind_letter at ∙ sym letter_is) in
    then old out new (32 ∷ map kind_letter (take column rest)) (letter ∷ []) out_is new_is ∙ ap (λ (l : List ℕ). old ++ 32 ∷ l) (sym more)

-- one row more
pub row_written : (columns rows row : ℕ) (kinds : List TileKind) (out new whole : List ℕ) → row < rows → new ≡ out ++ 32 ∷ map kind_letter (take columns (drop (row * columns) kinds)) → out ++ words_behind (row_words columns (rows - row) (drop (row * columns) kinds)) ≡ whole → new ++ words_behind (row_words columns (rows - (row + 1)) (drop ((row + 1) * columns) kinds)) ≡ whole
row_written columns rows row kinds out new whole within new_is whole_is =
    let here = drop (row * columns) kinds in
    let left : rows - row ≡ suc (rows - (row + 1)) = omega (arith, within) in
    let next : (row + 1) * columns ≡ row * columns + columns = ap (λ (n : ℕ). n * columns) (one_more row) ∙ suc-mul row columns in
    let behind : drop ((row + 1) * columns) kinds ≡ drop columns here = ap (λ (n : ℕ). drop n kinds) next ∙ sym (drop-drop columns (row * columns) kinds) in
    ap (λ (l : List TileKind). new ++ words_behind (row_words columns (rows - (row + 1)) l)) behind
    ∙ ap (λ (l : List ℕ). l ++ words_behind (row_words columns (rows - (row + 1)) (drop columns here))) new_is
    ∙ append_assoc out (32 ∷ map kind_letter (take columns here)) (words_behind (row_words columns (rows - (row + 1)) (drop columns here)))
    ∙ ap (λ (n : ℕ). out ++ words_behind (row_words columns n here)) (sym left)
    ∙ whole_is
  where
    one_more : (n : ℕ) → n + 1 ≡ suc n
    one_more n = omega arith
