-- What is told of a solution: the verdict for each seed, and how large it is.
use Rattle.std.specs.Prelude.{ℕ, max, List, [], ◌∷◌, ◌++◌, Option, Some, None, codes, decimal}
use Rattle.std.specs.Fmt.{signed_decimal}
use Rattle.tis_asm.specs.declared.program.MarkedInstr.{MarkedInstr}
use Rattle.tis_grade.specs.declared.verdict.Verdict.{Verdict}
use Rattle.tis_grade.specs.declared.verdict.Verdict.TheVariants.{Passed, Wrong, Extra, Stuck, Late}
use Rattle.tis_grade.specs.declared.cases.Case.{Case}
use Rattle.tis_grade.specs.declared.cases.Failed.{Failed}
use Rattle.tis_grade.specs.Counts.{node_count, instruction_count}
use Rattle.tis_grade.specs.Verdict.{verdict_of}

-- ---- lines

-- a word and a number
abbrev pub phrase : List ℕ → ℕ → List ℕ
phrase word number = word ++ decimal number

-- a verdict in words
abbrev pub verdict_words : Verdict → List ℕ
verdict_words (Passed cycles) = phrase (codes "passed ") cycles
verdict_words (Wrong output index want got) = phrase (codes "wrong out ") output ++ phrase (codes " index ") index ++ (codes " want " ++ signed_decimal want) ++ codes " got " ++ signed_decimal got
verdict_words (Extra output) = phrase (codes "extra out ") output
verdict_words (Stuck cycles) = phrase (codes "stuck ") cycles
verdict_words (Late limit) = phrase (codes "late ") limit

-- the line of a seed and its verdict
abbrev pub verdict_line : ℕ → Verdict → List ℕ
verdict_line seed verdict = phrase (codes "seed ") seed ++ 32 ∷ verdict_words verdict ++ 10 ∷ []

-- how large a solution is, in words
abbrev pub size_words : ℕ → ℕ → List ℕ
size_words nodes instructions = phrase (codes " nodes ") nodes ++ phrase (codes " instructions ") instructions

-- the line of a solution that is passed after so many cycles
abbrev pub size_line : ℕ → ℕ → ℕ → List ℕ
size_line cycles nodes instructions = phrase (codes "cycles ") cycles ++ size_words nodes instructions ++ 10 ∷ []

-- ---- seed by seed

-- the report, and the first seed for which the solution isn't passed, with its verdict, where there is one
pub record Told : Type 0 where
  pub report : List ℕ
  pub failed : Option Failed

-- what is told, with a line in front
abbrev pub with_line : List ℕ → Told → Told
with_line line told = record told { report = line ++ told.report }

-- after how many cycles a verdict says that all is as wanted, where it says so
abbrev pub cycles_of : Verdict → Option ℕ
cycles_of (Passed cycles) = Some cycles
cycles_of (Wrong output index want got) = None
cycles_of (Extra output) = None
cycles_of (Stuck cycles) = None
cycles_of (Late limit) = None

-- the line of a seed, and what follows where its verdict is passed, with the greatest number of cycles so far
abbrev pub told_of : Option ℕ → ℕ → Verdict → ℕ → (ℕ → Told) → Told
told_of None seed verdict greatest next = record { report = verdict_line seed verdict; failed = Some (record { seed = seed; verdict = verdict }) }
told_of (Some cycles) seed verdict greatest next = with_line (verdict_line seed verdict) (next (max greatest cycles))

-- the verdict for each of these seeds in order, up to the first that isn't passed; where all are, the greatest number of cycles, and the size of these programs
abbrev pub graded_from : ℕ → List (List MarkedInstr) → ℕ → List Case → Told
graded_from limit programs greatest [] = record { report = size_line greatest (node_count programs) (instruction_count programs); failed = None }
graded_from limit programs greatest (case ∷ cases) = told_of (cycles_of (verdict_of case.grid limit)) case.seed (verdict_of case.grid limit) greatest (λ most. graded_from limit programs most cases)

-- the programs of the first case
abbrev pub programs_in : List Case → List (List MarkedInstr)
programs_in [] = []
programs_in (case ∷ cases) = case.grid.programs

-- what is told of a solution over these cases
abbrev pub graded : ℕ → List Case → Told
graded limit cases = graded_from limit (programs_in cases) 0 cases
