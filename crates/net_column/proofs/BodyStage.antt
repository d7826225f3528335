-- The code of each body of a column is a stage, since it behaves as its process.
use Rattle.std.proofs.Common.{◌≡◌, ℕ, ◌+◌, ◌*◌, ◌≤◌, ℤ, Bool, true, false, cond, List, [], ◌∷◌, length, map, refl, sym, ap, subst, ◌∙◌, inl, inr, arith, eqb-true, eq-eqb}
use Rattle.std.specs.Prelude.{◌==◌, ◌||◌, IsTrue}
use Rattle.std.specs.List.{list_any}
use Rattle.std.proofs.Math.Nat.{mul-le-mul_left}
use Rattle.std.proofs.lemmas.Bool.{ne_eqb}
use Rattle.std.proofs.lemmas.List.{length-map, map-append}
use Rattle.tis_base.specs.Prefix.{IsPrefixOf}
use Rattle.tis_base.specs.declared.tiles.Dir.{Dir}
use Rattle.tis_base.specs.declared.tiles.Dir.TheVariants.{Up, Down}
use Rattle.tis_asm.specs.declared.program.MarkedInstr.{MarkedInstr}
use Rattle.tis_asm.specs.Node.{Node, FitsProgram, fresh, wants, offers}
use Rattle.tis_asm.specs.Programs.{HasValues, IsSound}
use Rattle.tis_asm.specs.PortRuns.{Step, IsPortRun, after_step, after_steps, taken_from, given_to}
use Rattle.tis_asm.specs.Progress.{CanGoOn, ByItself, Wanting, Offering}
use Rattle.tis_asm.proofs.Progress.{fresh_fits, steps_keep_fitting, nodes_go_on}
use Rattle.net_tree.specs.Tree.{Block}
use Rattle.net_rules.specs.Process.{Execution, beginning, process_run, block_cost, cost}
use Rattle.net_select.specs.Selection.{Ports, program_of}
use Rattle.net_select.specs.Behaves.{reads, writes, AreDistinct, taken_under, BehavesAfter, Behaves}
use Rattle.net_column.specs.Compiled.{column_ports}
use Rattle.net_column.proofs.Stage.{Next, GoesOn, WaitsAbove, GivesBelow, WorksAs, Stage}
use Rattle.net_column.proofs.Bodies.{either_of, Round, round_value, round_reads, round_writes}
use Rattle.net_column.proofs.Rounds.{SendsAll, sends_over}

-- a node stays one of its program
fits_after : (program : List MarkedInstr) → HasValues program → IsSound program → (steps : List Step) (node : Node) → FitsProgram program node → IsPortRun program node steps → FitsProgram program (after_steps program node steps)
fits_after program values sound [] node fits run = fits
fits_after program values sound (step ∷ steps) node fits run = fits_after program values sound steps (after_step program node step) (steps_keep_fitting program node step values sound fits run.0) run.1

-- the one name among one name
pub only : (name one : ℕ) → list_any (λ other. other == name) (one ∷ []) ≡ true → name ≡ one
only name one is =
    elim (either_of (one == name) false is) [
      | inl same ↦ sym (eqb-true one name same)
      | inr never ↦ absurd cc
    ]

among : (name : ℕ) → list_any (λ other. other == name) (name ∷ []) ≡ true
among name = ap (λ (b : Bool). b || false) (eq-eqb name name refl)

-- a prefix of the values gives a prefix of the results
pub map_prefix : (value_of : ℤ → ℤ) (prefix whole : List ℤ) → IsPrefixOf prefix whole → IsPrefixOf (map value_of prefix) (map value_of whole)
map_prefix value_of prefix whole is_prefix = (map value_of is_prefix.0, sym (map-append value_of prefix is_prefix.0) ∙ ap (map value_of) is_prefix.1)

-- the local steps for so many values
abbrev pub local_steps : ℕ → ℕ → ℕ
local_steps size count = 8 * (count * (1 + size) + 2)

-- what it reads comes from above, and what it writes goes downwards
pub reads_above : (number : ℕ) → column_ports (number + 1) number ≡ Up
reads_above number = ap (λ (b : Bool). cond b Down Up) (ne_eqb number (number + 1) (λ e. omega arith))

pub writes_below : (number : ℕ) → column_ports (number + 1) (number + 1) ≡ Down
writes_below number = ap (λ (b : Bool). cond b Down Up) (eq-eqb (number + 1) (number + 1) refl)

module _ (number : ℕ) (body : Block ℕ) (round : Round number (number + 1) body) where
  abbrev ports : Ports
  ports = column_ports (number + 1)

  abbrev program : List MarkedInstr
  program = program_of ports body

  reads_is : (name : ℕ) → reads body name ≡ true → name ≡ number
  reads_is name is = only name number (ap (list_any (λ other. other == name)) (sym (round_reads round)) ∙ is)

  writes_is : (name : ℕ) → writes body name ≡ true → name ≡ number + 1
  writes_is name is = only name (number + 1) (ap (list_any (λ other. other == name)) (sym (round_writes round)) ∙ is)

  reads_it : reads body number ≡ true
  reads_it = ap (list_any (λ other. other == number)) (round_reads round) ∙ among number

  writes_it : writes body (number + 1) ≡ true
  writes_it = ap (list_any (λ other. other == number + 1)) (round_writes round) ∙ among (number + 1)

  -- no two names lie in one direction
  pub are_distinct : AreDistinct ports body
  are_distinct = record {
    reading = λ one other first second same. reads_is one first ∙ sym (reads_is other second);
    writing = λ one other first second same. writes_is one first ∙ sym (writes_is other second);
  }

  -- a port of a name that it reads lies above, and one of a name that it writes below
  above : (name : ℕ) (dir : Dir) → reads body name ≡ true → ports name ≡ dir → dir ≡ Up
  above name dir is port = sym port ∙ ap ports (reads_is name is) ∙ reads_above number

  below : (name : ℕ) (dir : Dir) → writes body name ≡ true → ports name ≡ dir → dir ≡ Down
  below name dir is port = sym port ∙ ap ports (writes_is name is) ∙ writes_below number

  module _ (values : HasValues program) (sound : IsSound program) (behaves : Behaves program body ports) where
    module _ (steps : List Step) (run : IsPortRun program fresh steps) where
      abbrev taken : List ℤ
      taken = taken_from Up steps

      abbrev fuel : ℕ
      fuel = (behaves.after steps run).0 + ((1 + length taken) * cost body + 1)

      abbrev process : Execution
      process = process_run body (taken_under ports body steps) fuel

      abbrev node : Node
      node = after_steps program fresh steps

      after : BehavesAfter program body ports process steps node
      after = (behaves.after steps run).1 fuel (omega arith)

      came : taken_under ports body steps number ≡ taken
      came = ap (λ (b : Bool). cond b (taken_from (ports number) steps) []) reads_it ∙ ap (λ (d : Dir). taken_from d steps) (reads_above number)

      sends : SendsAll number (number + 1) (round_value round) (block_cost body) taken (beginning (taken_under ports body steps) fuel) process
      sends = sends_over round (taken_under ports body steps) taken fuel (omega arith) came

      gave : (gone : List ℤ) → gone ≡ process.state.sent (number + 1) → gone ≡ map (round_value round) taken
      gave gone is = is ∙ sends.sent

      next : CanGoOn program node → Next program node
      next (ByItself local) = GoesOn local
      next (Wanting dir wanted) = let waits = after.waits dir wanted in WaitsAbove (subst (λ (d : Dir). IsTrue (wants program node d)) (above waits.0 dir waits.2 waits.1) wanted)
      next (Offering dir value offered) =
          let gives = after.next dir value offered in
          GivesBelow value (ap (λ (d : Dir). offers node d) (sym (below gives.0 dir gives.2 gives.1)) ∙ offered)

      pub works : WorksAs program (map (round_value round)) (local_steps (block_cost body)) steps node
      works = record {
        takes_above = λ dir apart. after.takes dir (λ name is port. apart (above name dir is port));
        gives_below = λ dir apart. after.gives dir (λ name is port. apart (below name dir is port));
        prefix =
            subst (λ (d : Dir). IsPrefixOf (given_to d steps) (map (round_value round) taken)) (writes_below number)
            (subst (λ (all : List ℤ). IsPrefixOf (given_to (ports (number + 1)) steps) all) sends.sent (after.prefix (number + 1) writes_it));
        whole = λ wanted.
            ap (λ (d : Dir). given_to d steps) (sym (writes_below number)) ∙ gave (given_to (ports (number + 1)) steps) ((after.waits Up wanted).4 (number + 1) writes_it);
        next = next (nodes_go_on program node behaves.some (fits_after program values sound steps fresh (fresh_fits program) run));
        local = omega (arith, after.local, sends.steps);
      }

    -- the stage of a body
    abbrev pub round_stage : Stage
    round_stage =
        record {
          program = program;
          makes = map (round_value round);
          most_local = local_steps (block_cost body);
          is_stage = record {
            works = works;
            keeps_prefixes = map_prefix (round_value round);
            no_longer = λ taken. omega (arith, length-map taken (round_value round));
            grows = λ few many le. omega (arith, mul-le-mul_left (1 + block_cost body) le);
          };
        }

-- how many steps the stage makes at most for so many values
pub stage_steps : (size count : ℕ) → local_steps size count + count + count ≤ 5 * ((1 + count) * (2 + 2 * size)) + 16
stage_steps size count = omega arith
