-- What a node does whose program is one MOV between ports, or empty.
use Rattle.std.specs.Prelude.{◌≡◌, ◌≢◌, ℤ, Bool, List, [], ◌∷◌, ◌++◌}
use Rattle.tis_base.specs.declared.tiles.Dir.{Dir}
use Rattle.tis_asm.specs.declared.instr.Source.TheVariants as from
use Rattle.tis_asm.specs.declared.instr.Dest.TheVariants as to
use Rattle.tis_asm.specs.declared.instr.Instr.TheVariants.{Mov}
use Rattle.tis_asm.specs.declared.program.MarkedInstr.{MarkedInstr}
use Rattle.tis_asm.specs.Node.{Node, Mode, Ready, Writing, Toward, One, Any, fresh}
use Rattle.tis_asm.specs.PortRuns.{Step, after_steps, IsPortRun, taken_from, given_to, local_count}

-- the program that is one `MOV` from a port to a port
abbrev pub mov_program : Dir → Dir → Bool → List MarkedInstr
mov_program source dest mark = record { instr = Mov (from.Port source) (to.Port dest); mark = mark } ∷ []

-- the value that a node waits to give, if it does
abbrev pub in_hand : Mode → List ℤ
in_hand Ready = []
in_hand (Writing value toward) = value ∷ []

-- this port, and not whichever neighbour reads first
abbrev pub IsOne : Toward → Dir → Type 0
IsOne (One port) dir = port ≡ dir
IsOne Any dir = ⊥

-- the node is ready, or waits to give a value to this port
abbrev pub WaitsAt : Mode → Dir → Type 0
WaitsAt Ready dir = Unit {0}
WaitsAt (Writing value toward) dir = IsOne toward dir

-- after these steps: values were taken from one port alone and given to one port alone, in the order in which they came, with at most one in hand
pub record Passes (source dest : Dir) (steps : List Step) (node : Node) : Type 0 where
  pub takes_only : (dir : Dir) → dir ≢ source → taken_from dir steps ≡ []
  pub gives_only : (dir : Dir) → dir ≢ dest → given_to dir steps ≡ []
  pub never_local : local_count steps ≡ 0
  pub at_first : node.pc ≡ 0
  pub waits : WaitsAt node.mode dest
  pub in_order : given_to dest steps ++ in_hand node.mode ≡ taken_from source steps

-- one MOV between ports passes each value on, whatever the ports and the mark
abbrev pub MovesPassValues : Type 0
MovesPassValues = (source dest : Dir) (mark : Bool) (steps : List Step) →
    IsPortRun (mov_program source dest mark) fresh steps → Passes source dest steps (after_steps (mov_program source dest mark) fresh steps)

-- a node without instructions makes no step
abbrev pub EmptyProgramsRest : Type 0
EmptyProgramsRest = (steps : List Step) → IsPortRun [] fresh steps → steps ≡ []
