use Rattle.lua_syntax.proofs.OneTree as tree
use Rattle.lua_syntax.proofs.laws.chunks_have_one_tree.Goals as goal

pub returns : goal.returns
returns c = tree.one_tree
