-- The quotient under `math.floor`.
use Rattle.lua_machine.specs.Tree.{node_of}
use Rattle.lua_machine.specs.Turn as machine
use Rattle.lua_frames.specs.declared.quotient.Quotient.{Quotient}

abbrev pub quotient_in : Quotient → machine.Quotient
quotient_in q = record { left = node_of q.left.now; right = node_of q.right.now; line = q.line }
