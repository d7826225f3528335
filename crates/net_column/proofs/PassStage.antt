-- The program that passes values on is a stage.
use Rattle.std.proofs.Common.{◌≡◌, ℕ, ℤ, List, ◌++◌, Some, refl, sym, ap, ◌∙◌, append-nil, arith}
use Rattle.std.specs.Prelude.{IsTrue}
use Rattle.tis_base.specs.declared.tiles.Dir.{Dir}
use Rattle.tis_base.specs.declared.tiles.Dir.TheVariants.{Up, Down}
use Rattle.tis_asm.specs.Node.{Node, Mode, Ready, Writing, One, Any, instr_at, wants_in, offers_in}
use Rattle.tis_asm.specs.PortRuns.{Step, taken_from, given_to}
use Rattle.tis_asm.specs.Passing.{in_hand, WaitsAt, Passes}
use Rattle.tis_asm.proofs.Passing.{moves_pass_values}
use Rattle.net_column.specs.Compiled.{pass_code}
use Rattle.net_column.proofs.Stage.{Next, WaitsAbove, GivesBelow, WorksAs, Stage}

-- a node that waits for more has nothing in hand
nothing_in_hand : (mode : Mode) (node : Node) (given taken : List ℤ) → given ++ in_hand mode ≡ taken → IsTrue (wants_in mode (instr_at pass_code node.pc) node Up) → given ≡ taken
nothing_in_hand Ready node given taken in_order waits = sym (append-nil given) ∙ in_order
nothing_in_hand (Writing value toward) node given taken in_order waits = absurd cc

-- a ready node waits for a value from above
waits_ready : (node : Node) (pc : ℕ) → pc ≡ 0 → IsTrue (wants_in Ready (instr_at pass_code pc) node Up)
waits_ready node pc at_first = rw at_first refl

-- a node that writes downwards gives its value there
gives_down : (value : ℤ) (dir : Dir) → dir ≡ Down → offers_in (Writing value (One dir)) Down ≡ Some value
gives_down value dir is_down = rw is_down refl

-- it is never stuck
next_of_mode : (node : Node) (mode : Mode) → node.mode ≡ mode → node.pc ≡ 0 → WaitsAt mode Down → Next pass_code node
next_of_mode node Ready is_mode at_first waits = WaitsAbove (ap (λ (m : Mode). wants_in m (instr_at pass_code node.pc) node Up) is_mode ∙ waits_ready node node.pc at_first)
next_of_mode node (Writing value (One dir)) is_mode at_first waits = GivesBelow value (rw is_mode (gives_down value dir waits))
next_of_mode node (Writing value Any) is_mode at_first waits = absurd waits

-- what passes values on works as the function that changes nothing
pub works_as : (steps : List Step) (node : Node) → Passes Up Down steps node → WorksAs pass_code (λ values. values) (λ count. 0) steps node
works_as steps node p =
    record {
      takes_above = p.takes_only;
      gives_below = p.gives_only;
      prefix = (in_hand node.mode, p.in_order);
      whole = nothing_in_hand node.mode node (given_to Down steps) (taken_from Up steps) p.in_order;
      next = next_of_mode node node.mode refl p.at_first p.waits;
      local = omega (arith, p.never_local);
    }

-- the program that passes values on
abbrev pub pass_stage : Stage
pass_stage =
    record {
      program = pass_code;
      makes = λ values. values;
      most_local = λ count. 0;
      is_stage = record {
        works = λ steps run. works_as steps _ (moves_pass_values Up Down _ steps run);
        keeps_prefixes = λ prefix whole is_prefix. is_prefix;
        no_longer = λ values. omega arith;
        grows = λ few many le. omega arith;
      };
    }
