-- What a node would do next, told at once.
use Rattle.std.specs.Prelude.{Bool, true, false, List, Option, Some, None}
use Rattle.tis_base.specs.declared.tiles.Dir.{Dir}
use Rattle.tis_asm.specs.declared.instr.Source.{Source}
use Rattle.tis_asm.specs.declared.instr.Instr.{Instr}
use Rattle.tis_asm.specs.declared.program.MarkedInstr.{MarkedInstr}
use Rattle.tis_asm.specs.Node.{Node, Mode, Ready, Writing, One, Any, Supply, AtHand, AtPort, AtAny, source_of, supply_of, instr_at, is_same_dir}
use Rattle.tis_node.specs.declared.node.Intent.{Intent}
use Rattle.tis_node.specs.declared.node.Intent.TheVariants.{Nothing, Local, Takes, TakesAny, Gives, GivesAny}

-- ---- what an intent says

-- whether it is a local step
abbrev pub is_local : Intent → Bool
is_local Nothing = false
is_local Local = true
is_local (Takes port) = false
is_local TakesAny = false
is_local (Gives port) = false
is_local GivesAny = false

-- whether it is to take a value from this port
abbrev pub takes_from : Intent → Dir → Bool
takes_from Nothing dir = false
takes_from Local dir = false
takes_from (Takes port) dir = is_same_dir port dir
takes_from TakesAny dir = true
takes_from (Gives port) dir = false
takes_from GivesAny dir = false

-- whether it is to give a value to this port
abbrev pub gives_to : Intent → Dir → Bool
gives_to Nothing dir = false
gives_to Local dir = false
gives_to (Takes port) dir = false
gives_to TakesAny dir = false
gives_to (Gives port) dir = is_same_dir port dir
gives_to GivesAny dir = true

-- ---- the intent of a node

-- of an instruction whose value is there
abbrev pub intent_by : Supply → Intent
intent_by (AtHand value) = Local
intent_by (AtPort port) = Takes port
intent_by AtAny = TakesAny

abbrev pub intent_with : Option Source → Node → Intent
intent_with None node = Local
intent_with (Some source) node = intent_by (supply_of source node)

-- of an instruction, where there is one
abbrev pub intent_at : Option Instr → Node → Intent
intent_at None node = Nothing
intent_at (Some instr) node = intent_with (source_of instr) node

abbrev pub intent_in : Mode → Option Instr → Node → Intent
intent_in Ready instr node = intent_at instr node
intent_in (Writing value (One port)) instr node = Gives port
intent_in (Writing value Any) instr node = GivesAny

-- a node that is ready would do its instruction, and one that writes gives its value
abbrev pub intent_of : List MarkedInstr → Node → Intent
intent_of program node = intent_in node.mode (instr_at program node.pc) node
