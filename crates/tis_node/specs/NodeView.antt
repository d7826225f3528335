-- What contracts see of a node that the program holds: the record of the node's table.
use Rattle.tis_node.specs.declared.node.Toward as held_toward
use Rattle.tis_node.specs.declared.node.Toward.TheVariants as held_toward_as
use Rattle.tis_node.specs.declared.node.Mode as held_mode
use Rattle.tis_node.specs.declared.node.Mode.TheVariants as held_mode_as
use Rattle.tis_node.specs.declared.node.Node as held
use Rattle.tis_asm.specs.Node.{Toward, One, Any, Mode, Ready, Writing, Node}

abbrev pub toward_view : held_toward.Toward → Toward
toward_view (held_toward_as.One dir) = One dir
toward_view held_toward_as.Any = Any

abbrev pub mode_view : held_mode.Mode → Mode
mode_view held_mode_as.Ready = Ready
mode_view (held_mode_as.Writing value toward) = Writing value (toward_view toward)

abbrev pub node_view : held.Node → Node
node_view node = record { pc = node.pc; acc = node.acc; bak = node.bak; last = node.last; mode = mode_view node.mode }
