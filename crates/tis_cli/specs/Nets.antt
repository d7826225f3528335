-- What `net` comes to over the texts that it fetches: the first refusal, or the Kahn stream of each output of the network.
use Rattle.std.specs.Prelude.{ℕ, ℤ, List, [], flat_map, Option, Some, None, Result, Ok, Err}
use Rattle.std.specs.List.{range_with_len}
use Rattle.tis_grid.specs.Puzzle.{Puzzle, Input, values_at}
use Rattle.tis_grid_text.specs.GridText as text
use Rattle.tis_report.specs.Outputs.{stream_text}
use Rattle.net_tree.specs.Tree.{Net}
use Rattle.net_syntax.specs.declared.error.NetError.{NetError}
use Rattle.net_syntax.specs.declared.error.NetError.TheVariants as held_net
use Rattle.net_syntax.specs.Refusals as refusals
use Rattle.net_syntax.specs.Reading as reading
use Rattle.net_rules.specs.declared.error.RuleError.{RuleError}
use Rattle.net_rules.specs.declared.error.RuleError.TheVariants as held_rule
use Rattle.net_rules.specs.Numbers.{NumberedNet, numbered}
use Rattle.net_rules.specs.Process.{Streams}
use Rattle.net_rules.specs.Kahn.{kahn_streams}
use Rattle.net_rules.specs.Rules as rules
use Rattle.net_kahn.specs.Found.{out_at}
use Rattle.tis_cli.specs.declared.status.Refusal.TheVariants.{Net as Net_text, Rule}
use Rattle.tis_cli.specs.Answers.{Answer, Refuses, Makes, AllDone}
use Rattle.tis_cli.specs.Runs.{over_puzzle}

-- ---- refusals, as they are held

abbrev pub net_error : refusals.NetRefusal → NetError
net_error (refusals.BadLine line) = held_net.BadLine line
net_error (refusals.TooDeep line) = held_net.TooDeep line
net_error (refusals.StrayEnd line) = held_net.StrayEnd line
net_error (refusals.Unclosed line) = held_net.Unclosed line

abbrev pub rule_error : rules.BrokenRule → RuleError
rule_error (rules.Unknown line) = held_rule.Unknown line
rule_error (rules.Repeated line) = held_rule.Repeated line
rule_error (rules.SamePlace line) = held_rule.SamePlace line
rule_error (rules.ReadTwice line) = held_rule.ReadTwice line
rule_error (rules.WrittenTwice line) = held_rule.WrittenTwice line
rule_error (rules.CounterChanged line) = held_rule.CounterChanged line
rule_error (rules.Unread line) = held_rule.Unread line
rule_error (rules.Unwritten line) = held_rule.Unwritten line
rule_error (rules.ReadBeforeWritten line) = held_rule.ReadBeforeWritten line
rule_error (rules.NoSureRead process) = held_rule.NoSureRead process
rule_error (rules.LoopWithoutRead line) = held_rule.LoopWithoutRead line
rule_error (rules.JoinAfterSplit process) = held_rule.JoinAfterSplit process

-- ---- the report

-- the line of an output with this stream, nothing where no output stands
abbrev pub line_where : ℕ → Option (List ℤ) → List ℕ
line_where position None = []
line_where position (Some values) = stream_text position values

-- the line of the output of a network at a position
abbrev pub stream_line : NumberedNet → Streams → ℕ → List ℕ
stream_line net streams position = line_where position (out_at net streams position)

-- the lines of all outputs below so many columns, by ascending position
abbrev pub stream_lines : NumberedNet → Streams → ℕ → List ℕ
stream_lines net streams columns = flat_map (stream_line net streams) (range_with_len 0 columns)

-- the Kahn streams of the outputs of a network over some inputs
abbrev pub net_report : Net → List Input → List ℕ
net_report net inputs = stream_lines (numbered net) (kahn_streams (numbered net) (values_at inputs)) net.tiles.shape.columns

-- ---- the command

-- what follows over the network of a text, or its refusal
abbrev pub over_net : Result Net refusals.NetRefusal → (Net → Answer) → Answer
over_net (Err refusal) next = Refuses (Net_text (net_error refusal))
over_net (Ok net) next = next net

-- the first rule that is broken, or else this
abbrev pub unless_broken : Option rules.BrokenRule → Answer → Answer
unless_broken (Some rule) next = Refuses (Rule (rule_error rule))
unless_broken None next = next

-- the rules are looked for behind both texts; of the grid text only the inputs count
abbrev pub over_rules : Net → Puzzle → Answer
over_rules net puzzle = unless_broken (rules.first_broken net) (Makes AllDone (net_report net puzzle.inputs))

unfoldable pub net_answer : List ℕ → List ℕ → Answer
net_answer net_text grid_text = over_net (reading.net_of net_text) (λ net. over_puzzle (text.grid_of grid_text) (over_rules net))
