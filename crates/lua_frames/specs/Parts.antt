-- What parts in memory stand for.
use Rattle.std.specs.Prelude.{ℕ, List, map, Option, Some, None, if◌then◌else◌}
use Rattle.std.specs.Str.{bytes_eq}
use Rattle.std.specs.Option.{option_map}
use Rattle.lua_tree.specs.declared.tree.Entry.{Entry}
use Rattle.lua_tree.specs.declared.tree.LuaStatement.{LuaStatement}
use Rattle.lua_tree.specs.declared.tree.LuaBlock.{LuaBlock}
use Rattle.lua_tree.specs.declared.tree.Arm.{Arm}
use Rattle.lua_machine.specs.Tree as t
use Rattle.lua_machine.specs.Tree.{Node, Nodes, none, ◌and◌, nodes, node_of, EntryNodes, entry_nodes, entry_node_of, BlockNode, statements, statement_of, block_of, ArmNodes, arms, arm_of, ItemNode}
use Rattle.lua_machine.specs.Functions as machine
use Rattle.lua_frames.specs.declared.parts.Parts.{Parts}
use Rattle.lua_frames.specs.declared.parts.Parts.TheVariants as p
use Rattle.lua_frames.specs.declared.functions.Function.{Function}

-- the expressions that are left
abbrev pub nodes_in : Parts → Nodes
nodes_in p.Done = none
nodes_in (p.One a) = node_of a.now and none
nodes_in (p.Two a b) = node_of a.now and node_of b.now and none
nodes_in (p.Several all) = nodes (map node_of all.now)

-- the entries that are left
abbrev pub entries_in : List Entry → EntryNodes
entries_in entries = entry_nodes (map entry_node_of entries)

-- the statements that are left
abbrev pub block_in : List LuaStatement → BlockNode
block_in all = statements (map statement_of all)

-- the arms that are left
abbrev pub arms_in : List Arm → Option LuaBlock → ArmNodes
arms_in all otherwise = arms (map arm_of all) (option_map block_of otherwise)

-- a function
abbrev pub function_in : Function → machine.Function
function_in f = record { params = f.params.now; body = block_of f.body.now }

-- the function of an item, if it has this name
abbrev pub named : List ℕ → ItemNode → Option machine.Function
named name (t.Function called params body) = if bytes_eq called name then Some (record { params = params; body = body }) else None
named name (t.Set called of) = None
