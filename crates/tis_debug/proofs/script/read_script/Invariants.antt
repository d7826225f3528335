-- The commands so far, and behind them those of the lines that are left, are those of the text.
use Rattle.std.proofs.Common.{◌≡◌, length}
use Rattle.tis_debug.specs.Scripts.{actions_in, script_of}
use Rattle.tis_debug.proofs.ActionLists.{behind}
use Rattle.tis_debug.proofs.script.read_script.Given as goal

abbrev pub invariant-lines : goal.invariant-lines
invariant-lines l = behind l.actions.items (actions_in l.lines) ≡ script_of l.text

abbrev pub decreases-lines : goal.decreases-lines
decreases-lines l = length l.lines
