use Rattle.std.proofs.Common.{ℕ, List, Result, sym, ap, refl, ◌∙◌}
use Rattle.tis_debug.specs.declared.script.Action.{Action}
use Rattle.tis_debug.specs.Scripts.{debug_text}
use Rattle.tis_cli.specs.Answers.{Makes, AllDone}
use Rattle.tis_cli.specs.Runs.{over_script}
use Rattle.tis_cli.proofs.runs.run_script.Goals as goal

pub returns : goal.returns
returns c =
    let grid = c.args.grid.now in
    let text = c.in_ok-report.ensures ∙ ap (debug_text grid) c.deref.ensures.value in (
      AllDone,
      ap (λ (script : Result (List Action) ℕ). over_script script (λ actions. Makes AllDone (debug_text grid actions))) c.in_ok-actions.ensures ∙ ap (λ (bytes : List ℕ). Makes AllDone bytes) (sym text),
      refl,
    )
