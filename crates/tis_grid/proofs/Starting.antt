-- The start of a grid of twelve tiles in four columns.
use Rattle.std.proofs.Common.{◌≡◌, ℕ, ℤ, List, [], ◌∷◌, length, map, replicate, Option, sym, ap, ◌∙◌, ◌*◌, arith}
use Rattle.std.specs.List.{range_with_len}
use Rattle.tis_base.specs.Tiles.{IsAllowed}
use Rattle.tis_base.specs.declared.tiles.Shape.{Shape}
use Rattle.tis_asm.specs.Node.{Node, fresh}
use Rattle.tis_grid.specs.Puzzle.{Puzzle}
use Rattle.tis_grid.specs.State.{Grid, IsGrid, State, whole_input, empty_output, start}

-- the start with so many tiles and columns
abbrev started : Puzzle → ℕ → ℕ → State
started puzzle tiles columns =
    record {
      nodes = replicate tiles fresh;
      stacks = replicate tiles [];
      left = map (λ position. whole_input puzzle position) (range_with_len 0 columns);
      outs = map (λ position. empty_output puzzle position) (range_with_len 0 columns);
    }

pub start_is : (grid : Grid) (node : Node) (stacks : List (List ℤ)) (a b c d : Option ℕ) (e f g h : Option (List ℤ)) →
    length grid.puzzle.tiles.kinds ≡ 12 → grid.puzzle.tiles.shape.columns ≡ 4 → node ≡ fresh → stacks ≡ replicate 12 [] →
    a ≡ whole_input grid.puzzle 0 → b ≡ whole_input grid.puzzle 1 → c ≡ whole_input grid.puzzle 2 → d ≡ whole_input grid.puzzle 3 →
    e ≡ empty_output grid.puzzle 0 → f ≡ empty_output grid.puzzle 1 → g ≡ empty_output grid.puzzle 2 → h ≡ empty_output grid.puzzle 3 →
    record { nodes = replicate 12 node; stacks = stacks; left = a ∷ b ∷ c ∷ d ∷ []; outs = e ∷ f ∷ g ∷ h ∷ [] } ≡ start grid
start_is grid node stacks a b c d e f g h tiles columns is empty a-is b-is c-is d-is e-is f-is g-is h-is =
    let given : State = record { nodes = replicate 12 node; stacks = stacks; left = a ∷ b ∷ c ∷ d ∷ []; outs = e ∷ f ∷ g ∷ h ∷ [] } in
    let first : given ≡ started grid.puzzle 12 4 = cc in
    first ∙ ap (λ n. started grid.puzzle n 4) (sym tiles) ∙ ap (λ n. started grid.puzzle (length grid.puzzle.tiles.kinds) n) (sym columns)

-- how many tiles there are
pub twelve_tiles : (grid : Grid) → IsGrid grid → length grid.puzzle.tiles.kinds ≡ 12
twelve_tiles grid is =
    let columns = is.puzzle.tiles.allowed.0 in
    let whole = ap (λ n. n * grid.puzzle.tiles.shape.rows) columns in
    omega (arith, is.puzzle.tiles.filled, is.puzzle.tiles.allowed.1)

-- the one shape that tiles have
abbrev the_shape : Shape
the_shape = record { columns = 4; rows = 3 }

pub four_by_three : (shape : Shape) → IsAllowed shape → the_shape ≡ shape
four_by_three shape allowed =
    let columns : the_shape ≡ record { columns = shape.columns; rows = 3 } = ap (λ (n : ℕ). record { columns = n; rows = 3 }) (sym allowed.0) in
    columns ∙ ap (λ (n : ℕ). record { columns = shape.columns; rows = n }) (sym allowed.1)
