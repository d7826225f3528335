-- What was printed so far, and behind it what the commands that are left print, is what the script prints.
use Rattle.std.proofs.Common.{◌≡◌, ◌++◌, drop}
use Rattle.tis_debug.specs.Scripts.{script_text, debug_text}
use Rattle.tis_debug.proofs.report.debug_report.Given as goal

abbrev pub invariant-loop-action : goal.invariant-loop-action
invariant-loop-action l = l.text.items ++ script_text l.session (drop l.action-index l.actions) ≡ debug_text l.grid l.actions
