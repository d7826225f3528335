-- What the command `net` comes to.
use Rattle.std.proofs.Common.{◌≡◌, ℕ, List, Option, None, sym, ap, subst, ◌∙◌}
use Rattle.std.specs.Prelude.{Result}
use Rattle.tis_grid.specs.Puzzle.{Puzzle, values_at}
use Rattle.net_tree.specs.Tree.{Net}
use Rattle.net_syntax.specs.declared.error.NetError.{NetError}
use Rattle.net_syntax.specs.declared.error.NetError.TheVariants as held_net
use Rattle.net_syntax.specs.Refusals as refusals
use Rattle.net_syntax.specs.ReaderView.{IsError}
use Rattle.net_rules.specs.declared.error.RuleError.{RuleError}
use Rattle.net_rules.specs.declared.error.RuleError.TheVariants as held_rule
use Rattle.net_rules.specs.Rules as rules
use Rattle.net_rules.specs.Broken.{IsBroken}
use Rattle.net_rules.specs.Numbers.{numbered}
use Rattle.net_rules.specs.Process.{Streams}
use Rattle.net_rules.specs.Kahn.{kahn_streams}
use Rattle.net_kahn.specs.declared.finding.KahnStreams as held
use Rattle.net_kahn.specs.Found.{net_in, streams_of, Finds}
use Rattle.tis_grid_text.specs.declared.error.GridTextError.{GridTextError}
use Rattle.tis_grid_text.specs.declared.error.GridTextError.TheVariants as held_grid
use Rattle.tis_grid_text.specs.GridText as grids
use Rattle.tis_grid_text.specs.Answering.{RefusesGrid}
use Rattle.tis_cli.specs.Runs.{over_puzzle}
use Rattle.tis_cli.specs.Statuses.{net_status, rule_status, grid_status}
use Rattle.tis_cli.specs.Answers.{Answer, Makes, AllDone}
use Rattle.tis_cli.specs.Ends.{Stops}
use Rattle.tis_cli.specs.Nets.{stream_lines, net_report, over_net, unless_broken, over_rules}

-- a text that is no network stops the command
pub net_stops : (error : NetError) (wanted : Result Net refusals.NetRefusal) (next : Net → Answer) → IsError error wanted → Stops (net_status error) (over_net wanted next)
net_stops (held_net.BadLine line) wanted next is = ap (λ w. over_net w next) is
net_stops (held_net.TooDeep line) wanted next is = ap (λ w. over_net w next) is
net_stops (held_net.StrayEnd line) wanted next is = ap (λ w. over_net w next) is
net_stops (held_net.Unclosed line) wanted next is = ap (λ w. over_net w next) is
net_stops held_net.NoMemory wanted next is = tt

-- a rule that is broken stops it
pub rule_stops : (error : RuleError) (wanted : Option rules.BrokenRule) (next : Answer) → IsBroken error wanted → Stops (rule_status error) (unless_broken wanted next)
rule_stops (held_rule.Unknown at) wanted next is = ap (λ w. unless_broken w next) is
rule_stops (held_rule.Repeated at) wanted next is = ap (λ w. unless_broken w next) is
rule_stops (held_rule.SamePlace at) wanted next is = ap (λ w. unless_broken w next) is
rule_stops (held_rule.ReadTwice at) wanted next is = ap (λ w. unless_broken w next) is
rule_stops (held_rule.WrittenTwice at) wanted next is = ap (λ w. unless_broken w next) is
rule_stops (held_rule.CounterChanged at) wanted next is = ap (λ w. unless_broken w next) is
rule_stops (held_rule.Unread at) wanted next is = ap (λ w. unless_broken w next) is
rule_stops (held_rule.Unwritten at) wanted next is = ap (λ w. unless_broken w next) is
rule_stops (held_rule.ReadBeforeWritten at) wanted next is = ap (λ w. unless_broken w next) is
rule_stops (held_rule.NoSureRead at) wanted next is = ap (λ w. unless_broken w next) is
rule_stops (held_rule.LoopWithoutRead at) wanted next is = ap (λ w. unless_broken w next) is
rule_stops (held_rule.JoinAfterSplit at) wanted next is = ap (λ w. unless_broken w next) is
rule_stops held_rule.NoMemory wanted next is = tt

-- what it comes to where no rule is broken
pub net_done : (net checked : Net) (puzzle : Puzzle) (found : held.KahnStreams) (columns : ℕ) (report : List ℕ) → rules.first_broken checked ≡ None → checked ≡ net → Finds found checked puzzle.inputs → columns ≡ net.tiles.shape.columns →
    report ≡ stream_lines (numbered (net_in found)) (streams_of found) columns → over_rules net puzzle ≡ Makes AllDone report
net_done net checked puzzle found columns report accepted same finds columns_is report_is =
    let kept : rules.first_broken net ≡ None = subst (λ (n : Net). rules.first_broken n ≡ None) same accepted in
    let text : report ≡ net_report net puzzle.inputs =
    report_is
    ∙ ap (λ (n : Net). stream_lines (numbered n) (streams_of found) columns) (finds.same_net ∙ same)
    ∙ ap (λ (s : Streams). stream_lines (numbered net) s columns) (finds.streams ∙ ap (λ (n : Net). kahn_streams (numbered n) (values_at puzzle.inputs)) same)
    ∙ ap (stream_lines (numbered net) (kahn_streams (numbered net) (values_at puzzle.inputs))) columns_is in
    ap (λ (o : Option rules.BrokenRule). unless_broken o (Makes AllDone (net_report net puzzle.inputs))) kept ∙ ap (λ (t : List ℕ). Makes AllDone t) (sym text)

-- a text that is no grid stops it
pub grid_stops : (error : GridTextError) (wanted : Result Puzzle grids.Refusal) (next : Puzzle → Answer) (answer : Answer) → answer ≡ over_puzzle wanted next → RefusesGrid error wanted → Stops (grid_status error) answer
grid_stops (held_grid.BadLine line) wanted next answer same is = same ∙ ap (λ w. over_puzzle w next) is
grid_stops (held_grid.SamePlace line) wanted next answer same is = same ∙ ap (λ w. over_puzzle w next) is
grid_stops held_grid.NoMemory wanted next answer same is = tt
