-- What it means that the program of a node behaves as a process, whatever its neighbours do.
use Rattle.std.specs.Prelude.{◌≡◌, ◌≢◌, ℕ, ◌*◌, ◌<◌, ◌≤◌, ℤ, Bool, List, [], ◌∷◌, ◌++◌, length, Some, IsTrue, ◌==◌, if◌then◌else◌}
use Rattle.std.specs.List.{list_any}
use Rattle.tis_base.specs.Prefix.{IsPrefixOf}
use Rattle.tis_base.specs.declared.tiles.Dir.{Dir}
use Rattle.tis_asm.specs.declared.program.MarkedInstr.{MarkedInstr}
use Rattle.tis_asm.specs.Node.{Node, fresh, wants, offers}
use Rattle.tis_asm.specs.PortRuns.{Step, IsPortRun, after_steps, taken_from, given_to, local_count}
use Rattle.net_tree.specs.Tree.{Block}
use Rattle.net_rules.specs.Uses.{reads_in, writes_in}
use Rattle.net_rules.specs.Process.{Streams, Execution, WaitsOn, OutOfFuel, process_run}
use Rattle.net_select.specs.Selection.{Ports}

-- whether a body reads a name, and writes it
abbrev pub reads : Block ℕ → ℕ → Bool
reads body name = list_any (λ read. read == name) (reads_in body)

abbrev pub writes : Block ℕ → ℕ → Bool
writes body name = list_any (λ written. written == name) (writes_in body)

-- no two names that are read lie in one direction, and no two that are written
pub record AreDistinct (ports : Ports) (body : Block ℕ) : Type 0 where
  pub reading : (one other : ℕ) → IsTrue (reads body one) → IsTrue (reads body other) → ports one ≡ ports other → one ≡ other
  pub writing : (one other : ℕ) → IsTrue (writes body one) → IsTrue (writes body other) → ports one ≡ ports other → one ≡ other

-- what was taken under each name that the process reads
abbrev pub taken_under : Ports → Block ℕ → List Step → Streams
taken_under ports body steps name = if reads body name then taken_from (ports name) steps else []

-- after these steps the node is where the process is that ran over what was taken
pub record BehavesAfter (program : List MarkedInstr) (body : Block ℕ) (ports : Ports) (process : Execution) (steps : List Step) (node : Node) : Type 0 where
  -- it took from the ports of names that the process reads alone, and gave to those of names that it writes alone
  pub takes : (dir : Dir) → ((name : ℕ) → IsTrue (reads body name) → ports name ≢ dir) → taken_from dir steps ≡ []
  pub gives : (dir : Dir) → ((name : ℕ) → IsTrue (writes body name) → ports name ≢ dir) → given_to dir steps ≡ []
  -- what it gave under a name, the process sent, in this order
  pub prefix : (name : ℕ) → IsTrue (writes body name) → IsPrefixOf (given_to (ports name) steps) (process.state.sent name)
  -- where it wants a value, the process waits for one under a name that it reads and whose port this is, and all that it sent was given
  pub waits : (dir : Dir) → IsTrue (wants program node dir) →
      (name : ℕ) × (ports name ≡ dir) × IsTrue (reads body name) × (process.outcome ≡ WaitsOn name) × ((written : ℕ) → IsTrue (writes body written) → given_to (ports written) steps ≡ process.state.sent written)
  -- what it offers is what the process sent next under the name whose port this is
  pub next : (dir : Dir) (value : ℤ) → offers node dir ≡ Some value →
      (name : ℕ) × (ports name ≡ dir) × IsTrue (writes body name) × IsPrefixOf (given_to dir steps ++ value ∷ []) (process.state.sent name)
  -- by itself it did no more than eight steps for one of the process
  pub local : local_count steps ≤ 8 * process.state.steps
  -- the process came to wait, and not to the end of its fuel
  pub within_fuel : process.outcome ≢ OutOfFuel

-- the program has an instruction, so that its node is never stuck by itself; and whatever its neighbours do, with as much fuel as the process needs, it behaves as the process over the values that it took
pub record Behaves (program : List MarkedInstr) (body : Block ℕ) (ports : Ports) : Type 0 where
  pub some : 0 < length program
  pub after : (steps : List Step) → IsPortRun program fresh steps →
      (enough : ℕ) × ((fuel : ℕ) → enough ≤ fuel → BehavesAfter program body ports (process_run body (taken_under ports body steps) fuel) steps (after_steps program fresh steps))
