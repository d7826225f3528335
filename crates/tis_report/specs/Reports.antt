-- The reports of commands that run a grid: how the run ended, and then the outputs.
use Rattle.std.specs.Prelude.{ℕ, List, ◌∷◌, ◌++◌, codes, decimal}
use Rattle.tis_grid.specs.declared.running.Ended.{Ended}
use Rattle.tis_grid.specs.declared.running.Ended.TheVariants.{Rest, Limit}
use Rattle.tis_grid.specs.Puzzle.{Puzzle}
use Rattle.tis_grid.specs.State.{State}
use Rattle.tis_report.specs.Outputs.{outputs_text}

-- a line of a word and a number, and the outputs
abbrev pub report_text : List ℕ → ℕ → Puzzle → State → List ℕ
report_text word number puzzle state = word ++ decimal number ++ 10 ∷ outputs_text puzzle state

-- a run that came to rest, or to its limit
abbrev pub ended_text : Ended → Puzzle → State → List ℕ
ended_text (Rest done) puzzle state = report_text (codes "rest ") done puzzle state
ended_text (Limit done) puzzle state = report_text (codes "limit ") done puzzle state

-- an order whose events were all applied
abbrev pub replayed_text : ℕ → Puzzle → State → List ℕ
replayed_text count puzzle state = report_text (codes "events ") count puzzle state

-- an order up to the first event that wasn't enabled
abbrev pub not_enabled_text : ℕ → Puzzle → State → List ℕ
not_enabled_text index puzzle state = report_text (codes "not enabled ") index puzzle state
