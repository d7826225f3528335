-- A process that runs as the definition of processes sees it.
use Rattle.std.specs.Prelude.{◌≡◌, ℕ, ℤ, List, [], ◌∷◌, ◌++◌, length, Option, Some, None, Result, Ok, Err, slice_get}
use Rattle.tis_base.specs.Saturation.{IsValue}
use Rattle.net_tree.specs.declared.tree.Var.{Var}
use Rattle.net_tree.specs.declared.tree.Var.TheVariants.{X, Y}
use Rattle.net_rules.specs.Process.{Streams, with_stream, ProcessState, Outcome, Finished, WaitsOn, OutOfFuel, Execution}
use Rattle.net_kahn.specs.declared.link.Link.{Link}
use Rattle.net_kahn.specs.declared.machine.Machine.{Machine}
use Rattle.net_kahn.specs.declared.machine.Stop.{Stop}
use Rattle.net_kahn.specs.declared.machine.Stop.TheVariants.{Waits, NoMemory}
use Rattle.net_kahn.specs.Links.{given_of, unread_in, sent_in, before_in, IsLink}

-- ---- links by number

abbrev pub of_link : (Link → List ℤ) → Option Link → List ℤ
of_link values None = []
of_link values (Some link) = values link

-- the values of the link with each number, none where there is no link
abbrev pub by_number : (Link → List ℤ) → List Link → Streams
by_number values links number = of_link values (slice_get links number)

abbrev pub AreLinks : ℕ → List Link → Type 0
AreLinks process links = (number : ℕ) (link : Link) → slice_get links number ≡ Some link → IsLink process link

-- links after a process did something: they are as many, and what stood there before it is the same
pub record AreAfter (process : ℕ) (old new : List Link) : Type 0 where
  pub links : AreLinks process new
  pub count : length new ≡ length old
  pub before : by_number (before_in process) new ≡ by_number (before_in process) old
  pub given : by_number given_of new ≡ by_number given_of old

-- a process read the first value under a number
pub record ReadsValue (process : ℕ) (old : List Link) (number : ℕ) (value : ℤ) (new : List Link) : Type 0 where
  pub after : AreAfter process old new
  pub left : List ℤ
  pub first : by_number (unread_in process) old number ≡ value ∷ left
  pub unread : by_number (unread_in process) new ≡ with_stream (by_number (unread_in process) old) number left
  pub sent : by_number (sent_in process) new ≡ by_number (sent_in process) old

-- there is none to read
pub record ReadsNone (process : ℕ) (old : List Link) (number : ℕ) (new : List Link) : Type 0 where
  pub after : AreAfter process old new
  pub none : by_number (unread_in process) old number ≡ []
  pub unread : by_number (unread_in process) new ≡ by_number (unread_in process) old
  pub sent : by_number (sent_in process) new ≡ by_number (sent_in process) old

abbrev pub Reads : ℕ → List Link → ℕ → Option ℤ → List Link → Type 0
Reads process old number (Some value) new = ReadsValue process old number value new
Reads process old number None new = ReadsNone process old number new

-- a process sent a value under a number
pub record Sends (process : ℕ) (old : List Link) (number : ℕ) (value : ℤ) (new : List Link) : Type 0 where
  pub after : AreAfter process old new
  pub unread : by_number (unread_in process) new ≡ by_number (unread_in process) old
  pub sent : by_number (sent_in process) new ≡ with_stream (by_number (sent_in process) old) number (by_number (sent_in process) old number ++ value ∷ [])

-- ---- the process

-- its state, with steps and fuel, which the code doesn't count
abbrev pub state_of : Machine → ℕ → ℕ → ProcessState
state_of machine steps fuel =
    record {
      x = machine.x;
      y = machine.y;
      unread = by_number (unread_in machine.process) machine.links.items;
      sent = by_number (sent_in machine.process) machine.links.items;
      steps = steps;
      fuel = fuel;
    }

abbrev pub value_of : Var → Machine → ℤ
value_of X machine = machine.x
value_of Y machine = machine.y

abbrev pub with_value : Var → ℤ → Machine → Machine
with_value X value machine = record machine { x = value }
with_value Y value machine = record machine { y = value }

-- the links and the variables hold values of the machine
pub record IsReady (machine : Machine) : Type 0 where
  pub links : AreLinks machine.process machine.links.items
  pub x : IsValue machine.x
  pub y : IsValue machine.y

-- the same process, over the same links
pub record IsAfter (old new : Machine) : Type 0 where
  pub process : new.process ≡ old.process
  pub links : AreAfter old.process old.links.items new.links.items

-- the variables are the same
pub record HasSameValues (old new : Machine) : Type 0 where
  pub process : new.process ≡ old.process
  pub x : new.x ≡ old.x
  pub y : new.y ≡ old.y

-- a process reads a value, or waits for one
abbrev pub Takes : Machine → ℕ → Result ℤ Stop → Machine → Type 0
Takes old name (Ok value) new = HasSameValues old new × ReadsValue old.process old.links.items name value new.links.items
Takes old name (Err Waits) new = HasSameValues old new × ReadsNone old.process old.links.items name new.links.items
Takes old name (Err NoMemory) new = ⊥

-- a process sends a value
abbrev pub Gives : Machine → ℕ → ℤ → Machine → Type 0
Gives old name value new = HasSameValues old new × Sends old.process old.links.items name value new.links.items

-- ---- what it does

-- an execution waits for a value
abbrev pub IsWaiting : Outcome → Type 0
IsWaiting outcome = (name : ℕ) × (outcome ≡ WaitsOn name)

-- an execution came to this state, and ended as the call says
abbrev pub CameTo : Execution → Result (Unit {0}) Stop → Machine → Type 0
CameTo execution (Ok done) new = (execution.outcome ≡ Finished) × (execution.state ≡ state_of new execution.state.steps execution.state.fuel)
CameTo execution (Err Waits) new = IsWaiting execution.outcome × (execution.state ≡ state_of new execution.state.steps execution.state.fuel)
CameTo execution (Err NoMemory) new = Unit {0}

abbrev pub HasFuel : Execution → Type 0
HasFuel execution = execution.outcome ≡ OutOfFuel → ⊥

-- where there was fuel enough
abbrev pub Comes : Execution → Result (Unit {0}) Stop → Machine → Type 0
Comes execution result new = HasFuel execution → CameTo execution result new

-- the machine is after another, but for want of memory
abbrev pub Kept : Machine → Result (Unit {0}) Stop → Machine → Type 0
Kept old (Ok done) new = IsAfter old new
Kept old (Err Waits) new = IsAfter old new
Kept old (Err NoMemory) new = Unit {0}

-- the code did what the definition says, whatever fuel there is
pub record Did (run : ProcessState → Execution) (old : Machine) (result : Result (Unit {0}) Stop) (new : Machine) : Type 0 where
  pub kept : Kept old result new
  pub comes : (steps fuel : ℕ) → Comes (run (state_of old steps fuel)) result new
