-- A puzzle port by port.
use Rattle.std.proofs.Common.{◌≡◌, ◌≢◌, ℕ, ◌<◌, ℤ, false, List, length, get_or, Option, refl, sym, subst, arith}
use Rattle.std.specs.Prelude.{All, ◌==◌, option_map}
use Rattle.std.proofs.lemmas.Bool.{eq-eqb}
use Rattle.std.proofs.lemmas.List.Elements.{All-nil, All-push}
use Rattle.std.proofs.lemmas.List.Folds.{list_any_at}
use Rattle.std.proofs.lemmas.List.Quantifiers.{all_pairs_push}
use Rattle.tis_base.specs.Saturation.{IsValue}
use Rattle.tis_grid.specs.Puzzle.{Puzzle, IsPuzzle, Input, Output, has_input, has_output, Port, Above, Below, IsPort, is_taken, with_port, input_at, output_at}
use Rattle.tis_grid.specs.declared.puzzle.OutKind.{OutKind}
use Rattle.tis_grid.proofs.Holding.{Holds, holds_then, holds_map, any_holds}
use Rattle.tis_grid.specs.Laws.{BareArePuzzles, PortsMakePuzzles}

-- a position at which none stands differs from those of the others
fresh_input : (inputs : List Input) (input : Input) → has_input inputs input.position ≡ false → (k : ℕ) (d : Input) → k < length inputs → (get_or inputs k d).position ≢ input.position
fresh_input inputs input free k d within same = let taken = list_any_at (λ (i : Input). i.position == input.position) inputs k d within (eq-eqb _ _ same) in absurd cc

fresh_output : (outputs : List Output) (output : Output) → has_output outputs output.position ≡ false → (k : ℕ) (d : Output) → k < length outputs → (get_or outputs k d).position ≢ output.position
fresh_output outputs output free k d within same = let taken = list_any_at (λ (o : Output). o.position == output.position) outputs k d within (eq-eqb _ _ same) in absurd cc

-- a puzzle with one more port
pub ports_make_puzzles : PortsMakePuzzles
ports_make_puzzles puzzle (Above input) is holds free =
    record {
      tiles = is.tiles;
      inputs_below = All-push (λ (i : Input). i.position < puzzle.tiles.shape.columns) puzzle.inputs input is.inputs_below holds.0;
      outputs_below = is.outputs_below;
      inputs_distinct = all_pairs_push (λ (a b : Input). a.position ≢ b.position) puzzle.inputs input is.inputs_distinct (fresh_input puzzle.inputs input free);
      outputs_distinct = is.outputs_distinct;
      values = All-push (λ (i : Input). All IsValue i.values) puzzle.inputs input is.values holds.1;
    }
ports_make_puzzles puzzle (Below output) is holds free =
    record {
      tiles = is.tiles;
      inputs_below = is.inputs_below;
      outputs_below = All-push (λ (o : Output). o.position < puzzle.tiles.shape.columns) puzzle.outputs output is.outputs_below holds;
      inputs_distinct = is.inputs_distinct;
      outputs_distinct = all_pairs_push (λ (a b : Output). a.position ≢ b.position) puzzle.outputs output is.outputs_distinct (fresh_output puzzle.outputs output free);
      values = is.values;
    }

-- tiles without a port are a puzzle
pub bare_are_puzzles : BareArePuzzles
bare_are_puzzles kinds is =
    record {
      tiles = record { allowed = (refl, refl); filled = is };
      inputs_below = All-nil (λ (input : Input). input.position < 4);
      outputs_below = All-nil (λ (output : Output). output.position < 4);
      inputs_distinct = λ i j d first within. absurd (omega arith);
      outputs_distinct = λ i j d first within. absurd (omega arith);
      values = All-nil (λ (input : Input). All IsValue input.values);
    }

-- ---- ports that are told

-- an input at one of four columns
pub input_holds : (position : Option ℕ) (values : Option (List ℤ)) → Holds (λ n. n < 4) position → Holds (λ v. All IsValue v) values → Holds (IsPort 4) (input_at position values)
input_holds position values below are =
    holds_then (λ n. n < 4) (IsPort 4) position (λ p. option_map (λ v. Above (record { position = p; values = v })) values) below
    (λ p within. holds_map (λ v. All IsValue v) (IsPort 4) values (λ v. Above (record { position = p; values = v })) are (λ v held. (within, held)))

-- an output
pub output_holds : (kind : OutKind) (position : Option ℕ) (values : Option (List ℤ)) → Holds (λ n. n < 4) position → Holds (IsPort 4) (output_at kind position values)
output_holds kind position values below =
    holds_then (λ n. n < 4) (IsPort 4) position (λ p. option_map (λ v. Below (record { position = p; kind = kind; expected = v })) values) below
    (λ p within. holds_map (λ _. Unit {0}) (IsPort 4) values (λ v. Below (record { position = p; kind = kind; expected = v })) (any_holds values) (λ v _. within))

-- a puzzle with a port at one of four columns
pub port_makes_puzzle : (puzzle : Puzzle) (port : Port) → IsPuzzle puzzle → IsPort 4 port → is_taken puzzle port ≡ false → IsPuzzle (with_port puzzle port)
port_makes_puzzle puzzle port is holds free = ports_make_puzzles puzzle port is (subst (λ (columns : ℕ). IsPort columns port) (sym is.tiles.allowed.0) holds) free
