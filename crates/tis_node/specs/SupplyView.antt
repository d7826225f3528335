-- What contracts see of where the value of a source is.
use Rattle.tis_node.specs.declared.doing.Supply as held
use Rattle.tis_node.specs.declared.doing.Supply.TheVariants as held_as
use Rattle.tis_asm.specs.Node.{Supply, AtHand, AtPort, AtAny}

abbrev pub supply_view : held.Supply → Supply
supply_view (held_as.AtHand value) = AtHand value
supply_view (held_as.AtPort port) = AtPort port
supply_view held_as.AtAny = AtAny
