-- The definitions, computed on small texts.
use Rattle.std.proofs.Common.{◌≡◌, ℕ, List, [], ◌∷◌, ◌++◌, Some, None, refl}
use Rattle.std.specs.Prelude.{Ok, Err, codes, pos, negsuc}
use Rattle.std.specs.Fmt.{digits}
use Rattle.tis_base.specs.declared.tiles.TileKind.TheVariants.{Compute, Memory, Damaged}
use Rattle.tis_base.specs.Tiles.{Tiles}
use Rattle.net_tree.specs.declared.tree.Var.TheVariants.{X, Y}
use Rattle.net_tree.specs.declared.tree.Test.TheVariants.{Zero, NotZero, Negative, Positive, NotPositive, NotNegative}
use Rattle.net_tree.specs.Tree.{Name, Get, GetAdd, GetSub, Put, PutNumber, Move, Set, Add, Sub, Neg, Double, Copy, Swap, If, While, Count, Block, Empty, Then, Net}
use Rattle.net_syntax.specs.Refusals.{BadLine, TooDeep, StrayEnd, Unclosed}
use Rattle.tis_words.specs.Parts.{followed_by, next_word, at_end}
use Rattle.tis_words.specs.Numerals.{number_of, value_of}
use Rattle.net_syntax.specs.Forms.{tiles_of, tiles_to_end, path_of, via_of, at_of, port_of, channel_of, process_of, name_and_var, put_of, two_names, var_and_number, one_var, two_vars, test_against_zero, version_of, row_of, statement_of, keyword_of, said, form_of, lines_of, lines_up_to, Version, Malformed}
use Rattle.tis_words.specs.declared.comments.Comments.TheVariants.{BehindHash}
use Rattle.tis_words.specs.Lines.{non_blank_lines}
use Rattle.net_syntax.specs.Reading.{and_then, after_lines, net_of}
use Rattle.net_tree.specs.NetText.{net_text}

-- the lines in front of a process's body
abbrev head : List ℕ
head = codes "net 1\ntiles CCCC CCCC CCCC\ninput a at 1 via\noutput o at 1 via 5 9\nprocess p at 1\n"

-- twelve compute tiles
abbrev bench : Tiles
bench =
    record {
      shape = record { columns = 4; rows = 3 };
      kinds = Compute ∷ Compute ∷ Compute ∷ Compute ∷ Compute ∷ Compute ∷ Compute ∷ Compute ∷ Compute ∷ Compute ∷ Compute ∷ Compute ∷ [];
    }

abbrev column : Block Name → Net
column body =
    record {
      version = 1;
      tiles = bench;
      inputs = record { name = codes "a"; position = 1; via = Some []; line = 3 } ∷ [];
      outputs = record { name = codes "o"; position = 1; via = Some (5 ∷ 9 ∷ []); line = 4 } ∷ [];
      channels = [];
      processes = record { name = codes "p"; at = Some 1; body = body; line = 5 } ∷ [];
    }

-- the network that only passes its values on, and what it becomes by one line less or more
one_column :
    (net_of (head ++ codes "move a o\nend\n") ≡ Ok (column (Then 6 (Move (codes "a") (codes "o")) Empty)))
    × (net_of (head ++ codes "move a o\n") ≡ Err (Unclosed 5))
    × (net_of (head ++ codes "move a o\nend\nend\n") ≡ Err (StrayEnd 8))
    × (net_of (head ++ codes "put o 1\nend\n") ≡ Ok (column (Then 6 (PutNumber (codes "o") (pos 1)) Empty)))
unfolding followed_by number_of value_of tiles_of next_word at_end tiles_to_end path_of via_of at_of port_of channel_of process_of name_and_var put_of two_names var_and_number one_var two_vars test_against_zero version_of row_of statement_of keyword_of said form_of lines_up_to lines_of and_then after_lines net_of
one_column = (refl, refl, refl, refl)

-- a missing or wrong first or second line
heads :
    (net_of [] ≡ Err (BadLine 1))
    × (net_of (codes "\n\n# x\n") ≡ Err (BadLine 4))
    × (net_of (codes "net 1\n\n# x\n") ≡ Err (BadLine 4))
    × (net_of (codes "net 01\n") ≡ Err (BadLine 1))
    × (net_of (codes "end\n") ≡ Err (StrayEnd 1))
    × (net_of (codes "net 1\nelse\n") ≡ Err (StrayEnd 2))
    × (net_of (codes "net 1\ntiles cccc CCCC CCCC\n") ≡ Err (BadLine 2))
    × (net_of (codes "net 1\ntiles CCCC CCCC\n") ≡ Err (BadLine 2))
unfolding followed_by number_of value_of tiles_of next_word at_end tiles_to_end path_of via_of at_of port_of channel_of process_of name_and_var put_of two_names var_and_number one_var two_vars test_against_zero version_of row_of statement_of keyword_of said form_of lines_up_to lines_of and_then after_lines net_of
heads = (refl, refl, refl, refl, refl, refl, refl, refl)

-- blanks, comments, CR, and keywords as names
blanks :
    (net_of (head ++ codes "# first\n\n  get  a\tx # into x\r\n \nput o -007\nend") ≡ Ok (column (Then 8 (Get (codes "a") X) (Then 10 (PutNumber (codes "o") (negsuc 6)) Empty))))
    × (net_of (head ++ codes "move if end\nput else -0\nend\n") ≡ Ok (column (Then 6 (Move (codes "if") (codes "end")) (Then 7 (PutNumber (codes "else") (pos 0)) Empty))))
unfolding followed_by number_of value_of tiles_of next_word at_end tiles_to_end path_of via_of at_of port_of channel_of process_of name_and_var put_of two_names var_and_number one_var two_vars test_against_zero version_of row_of statement_of keyword_of said form_of lines_up_to lines_of and_then after_lines net_of
blanks = (refl, refl)

-- blocks in blocks, with and without `else`
nesting :
    (net_of (head ++ codes "get a y\nif y = 0\nput o 1\nelse\nwhile y != 0\nget a y\nend\nend\ncount x\nend\nend\n") ≡ Ok (column (Then 6 (Get (codes "a") Y) (Then 7 (If Y Zero (Then 8 (PutNumber (codes "o") (pos 1)) Empty) (Then 10 (While Y NotZero (Then 11 (Get (codes "a") Y) Empty)) Empty)) (Then 14 (Count X Empty) Empty)))))
    × (net_of (head ++ codes "if x = 0\nelse\nend\nend\n") ≡ Ok (column (Then 6 (If X Zero Empty Empty) Empty)))
    × (net_of (head ++ codes "if x = 0\nelse\n") ≡ Err (Unclosed 6))
    × (net_of (head ++ codes "if x = 0\nelse\nelse\n") ≡ Err (StrayEnd 8))
    × (net_of (head ++ codes "while x = 0\nelse\n") ≡ Err (StrayEnd 7))
    × (net_of (head ++ codes "count x\nelse\n") ≡ Err (StrayEnd 7))
    × (net_of (head ++ codes "else\n") ≡ Err (StrayEnd 6))
    × (net_of (head ++ codes "end x\n") ≡ Err (BadLine 6))
    × (net_of (head ++ codes "if x = 00\n") ≡ Err (BadLine 6))
unfolding followed_by number_of value_of tiles_of next_word at_end tiles_to_end path_of via_of at_of port_of channel_of process_of name_and_var put_of two_names var_and_number one_var two_vars test_against_zero version_of row_of statement_of keyword_of said form_of lines_up_to lines_of and_then after_lines net_of
nesting = (refl, refl, refl, refl, refl, refl, refl, refl, refl)

-- sixteen blocks may be open, and the seventeenth is refused
too_deep :
    (net_of (head ++ codes "if x = 0\nif x = 0\nif x = 0\nif x = 0\nif x = 0\nif x = 0\nif x = 0\nif x = 0\nif x = 0\nif x = 0\nif x = 0\nif x = 0\nif x = 0\nif x = 0\nif x = 0\nif x = 0\nif x = 0\n") ≡ Err (TooDeep 22))
    × (net_of (head ++ codes "if x = 0\nif x = 0\nif x = 0\nif x = 0\nif x = 0\nif x = 0\nif x = 0\nif x = 0\nif x = 0\nif x = 0\nif x = 0\nif x = 0\nif x = 0\nif x = 0\nif x = 0\nif x = 0\nwhile y\n") ≡ Err (BadLine 22))
    × (net_of (head ++ codes "if x = 0\nif x = 0\nif x = 0\nif x = 0\nif x = 0\nif x = 0\nif x = 0\nif x = 0\nif x = 0\nif x = 0\nif x = 0\nif x = 0\nif x = 0\nif x = 0\nif x = 0\nif x = 0\nput o 1\n") ≡ Err (Unclosed 21))
    × (net_of (head ++ codes "if x = 0\nif x = 0\nif x = 0\nif x = 0\nif x = 0\nif x = 0\nif x = 0\nif x = 0\nif x = 0\nif x = 0\nif x = 0\nif x = 0\nif x = 0\nif x = 0\nif x = 0\nif x = 0\nelse\ncount y\n") ≡ Err (TooDeep 23))
unfolding followed_by number_of value_of tiles_of next_word at_end tiles_to_end path_of via_of at_of port_of channel_of process_of name_and_var put_of two_names var_and_number one_var two_vars test_against_zero version_of row_of statement_of keyword_of said form_of lines_up_to lines_of and_then after_lines net_of
too_deep = (refl, refl, refl, refl)

-- lines that are wrong by themselves or where they stand
wrong_lines :
    (net_of (head ++ codes "get a x\nget a z\n") ≡ Err (BadLine 7))
    × (net_of (head ++ codes "put o 1000\n") ≡ Err (BadLine 6))
    × (net_of (head ++ codes "put o +1\n") ≡ Err (BadLine 6))
    × (net_of (head ++ codes "get abcdefghijklmnopq x\n") ≡ Err (BadLine 6))
    × (net_of (head ++ codes "channel c\n") ≡ Err (BadLine 6))
    × (net_of (head ++ codes "end\nget a x\n") ≡ Err (BadLine 7))
    × (net_of (head ++ codes "end\nchannel c via 100\n") ≡ Err (BadLine 7))
    × (net_of (head ++ codes "end\ninput b at 4\n") ≡ Err (BadLine 7))
    × (net_of (head ++ codes "end\ninput b at 03 via 007\nnet 1\n") ≡ Err (BadLine 8))
unfolding followed_by number_of value_of tiles_of next_word at_end tiles_to_end path_of via_of at_of port_of channel_of process_of name_and_var put_of two_names var_and_number one_var two_vars test_against_zero version_of row_of statement_of keyword_of said form_of lines_up_to lines_of and_then after_lines net_of
wrong_lines = (refl, refl, refl, refl, refl, refl, refl, refl, refl)

-- each statement that no row above has, and each comparison
statements :
    (net_of (head ++ codes "getadd a x\ngetsub a y\nput o x\nset x 999\nadd y -999\nsub x 0\nneg y\ndouble x\ncopy x y\nswap\nend\n") ≡ Ok (column (Then 6 (GetAdd (codes "a") X) (Then 7 (GetSub (codes "a") Y) (Then 8 (Put (codes "o") X) (Then 9 (Set X (pos 999)) (Then 10 (Add Y (negsuc 998)) (Then 11 (Sub X (pos 0)) (Then 12 (Neg Y) (Then 13 (Double X) (Then 14 (Copy X Y) (Then 15 (Swap) Empty))))))))))))
    × (net_of (head ++ codes "if x = 0\nend\nif x != 0\nend\nif x < 0\nend\nif x > 0\nend\nif x <= 0\nend\nif x >= 0\nend\nend\n") ≡ Ok (column (Then 6 (If X Zero Empty Empty) (Then 8 (If X NotZero Empty Empty) (Then 10 (If X Negative Empty Empty) (Then 12 (If X Positive Empty Empty) (Then 14 (If X NotPositive Empty Empty) (Then 16 (If X NotNegative Empty Empty) Empty))))))))
unfolding followed_by number_of value_of tiles_of next_word at_end tiles_to_end path_of via_of at_of port_of channel_of process_of name_and_var put_of two_names var_and_number one_var two_vars test_against_zero version_of row_of statement_of keyword_of said form_of lines_up_to lines_of and_then after_lines net_of
statements = (refl, refl)

-- declarations in any order, free and pinned, and the bounds of a path
declarations :
    (net_of (codes "net 1\ntiles CMDC CCCC CCCC\nchannel at via 0 99\nprocess x\nend\nchannel via\noutput abcdefghijklmnop at 3\n") ≡ Ok (record { version = 1; tiles = record { shape = record { columns = 4; rows = 3 }; kinds = Compute ∷ Memory ∷ Damaged ∷ Compute ∷ Compute ∷ Compute ∷ Compute ∷ Compute ∷ Compute ∷ Compute ∷ Compute ∷ Compute ∷ [] }; inputs = []; outputs = record { name = codes "abcdefghijklmnop"; position = 3; via = None; line = 7 } ∷ []; channels = record { name = codes "at"; via = Some (0 ∷ 99 ∷ []); line = 3 } ∷ record { name = codes "via"; via = None; line = 6 } ∷ []; processes = record { name = codes "x"; at = None; body = Empty; line = 4 } ∷ [] }))
    × (net_of (codes "net 1\ntiles CCCC CCCC CCCC\nchannel c via 1 1 1 1 1 1 1 1 1 1 1 1 1 1 1 1 1 1 1 1 1 1 1 1 1 1 1 1 1 1 1 1 1 1 1 1 1 1 1 1 1 1 1 1 1 1 1 1 1\n") ≡ Err (BadLine 3))
    × (net_of (codes "net 1\ntiles CCCC CCCC CCCC\nchannel c via 1 1 1 1 1 1 1 1 1 1 1 1 1 1 1 1 1 1 1 1 1 1 1 1 1 1 1 1 1 1 1 1 1 1 1 1 1 1 1 1 1 1 1 1 1 1 1 1\nfoo\n") ≡ Err (BadLine 4))
unfolding followed_by number_of value_of tiles_of next_word at_end tiles_to_end path_of via_of at_of port_of channel_of process_of name_and_var put_of two_names var_and_number one_var two_vars test_against_zero version_of row_of statement_of keyword_of said form_of lines_up_to lines_of and_then after_lines net_of
declarations = (refl, refl, refl)

-- past the last line that may say something every line is wrong
past : lines_up_to 1 (non_blank_lines BehindHash (codes "\nnet 1\n#\nend\n")) ≡ record { number = 2; form = Version } ∷ record { number = 4; form = Malformed } ∷ []
unfolding followed_by next_word at_end version_of keyword_of said form_of lines_up_to
past = refl

-- the canonical text
written : net_text (column (Then 6 (Move (codes "a") (codes "o")) Empty)) ≡ head ++ codes "move a o\nend\n"
unfolding digits
written = refl

-- a canonical text with blocks: `else` stands only where its block has statements
written_blocks : net_text (column (Then 6 (If Y Negative (Then 7 (Neg Y) Empty) (Then 9 (PutNumber (codes "o") (negsuc 4)) Empty)) (Then 11 (If X Zero Empty Empty) (Then 14 (Count X Empty) Empty)))) ≡ head ++ codes "if y < 0\nneg y\nelse\nput o -5\nend\nif x = 0\nend\ncount x\nend\nend\n"
unfolding digits
written_blocks = refl
