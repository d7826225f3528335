-- Small saves, written and read.
use Rattle.std.proofs.Common.{◌≡◌, ℕ, List, [], ◌∷◌, refl}
use Rattle.std.specs.Prelude.{codes, Some, Ok}
use Rattle.std.specs.Fmt.{digits}
use Rattle.tis_asm.specs.Programs.{Programs}
use Rattle.net_tree.specs.Tree.{Move, Empty, Then, Net}
use Rattle.net_column.specs.Column.{plain_tiles}
use Rattle.net_column.specs.Compiled.{pass_code, compiled}
use Rattle.tis_save.specs.Writing.{save_text}
use Rattle.tis_save.specs.Reading.{save_of}

-- the column at position 1, whose names have one letter each
abbrev column_a : Net
column_a =
    record {
      version = 1;
      tiles = plain_tiles;
      inputs = record { name = codes "a"; position = 1; via = Some []; line = 3 } ∷ [];
      outputs = record { name = codes "o"; position = 1; via = Some (5 ∷ 9 ∷ []); line = 4 } ∷ [];
      channels = [];
      processes = record { name = codes "p"; at = Some 1; body = Then 6 (Move (codes "a") (codes "o")) Empty; line = 5 } ∷ [];
    }

-- its save
abbrev save_a : List ℕ
save_a = codes "@1\nMOV UP, DOWN\n\n@5\nMOV UP, DOWN\n\n@9\nMOV UP, DOWN\n\n"

-- the programs that are written as that save
abbrev programs_of_a : Programs
programs_of_a = record { tiles = plain_tiles; programs = [] ∷ pass_code ∷ [] ∷ [] ∷ [] ∷ pass_code ∷ [] ∷ [] ∷ [] ∷ pass_code ∷ [] ∷ [] ∷ [] }

programs_a : compiled column_a ≡ programs_of_a
programs_a = refl

written_a : save_text (compiled column_a) ≡ save_a
unfolding digits
written_a = refl

read_a : save_of save_a plain_tiles ≡ Ok programs_of_a
unfolding save_of digits
read_a = refl

-- it is read so too where the blocks stand in another order and the code is spaced in another way
read_loosely : save_of (codes "\n@9\nMOV UP DOWN\n@1\n  MOV UP,DOWN\r\n@5\nMOV\tUP , DOWN") plain_tiles ≡ Ok programs_of_a
unfolding save_of digits
read_loosely = refl
