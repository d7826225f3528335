-- The number and the line of each status, and the status of each failure.
use Rattle.std.specs.Prelude.{ℕ, List, [], ◌∷◌, ◌++◌, codes, decimal}
use Rattle.tis_base.specs.declared.sink.SinkError.{SinkError}
use Rattle.tis_base.specs.declared.sink.SinkError.TheVariants as sink
use Rattle.tis_asm.specs.declared.error.AsmError.{AsmError}
use Rattle.tis_asm.specs.declared.error.AsmError.TheVariants as asm
use Rattle.tis_save.specs.declared.error.SaveError.{SaveError}
use Rattle.tis_save.specs.declared.error.SaveError.TheVariants as saved
use Rattle.tis_grid_text.specs.declared.error.GridTextError.{GridTextError}
use Rattle.tis_grid_text.specs.declared.error.GridTextError.TheVariants as grid
use Rattle.tis_grid_text.specs.declared.error.EventsError.{EventsError}
use Rattle.tis_grid_text.specs.declared.error.EventsError.TheVariants as events
use Rattle.tis_debug.specs.declared.error.ScriptError.{ScriptError}
use Rattle.tis_debug.specs.declared.error.ScriptError.TheVariants as script
use Rattle.lua_syntax.specs.declared.error.LuaSyntax.{LuaSyntax}
use Rattle.lua_syntax.specs.declared.error.LuaSyntax.TheVariants as chunk
use Rattle.lua_machine.specs.declared.error.LuaError.{LuaError}
use Rattle.lua_machine.specs.declared.error.LuaError.TheVariants as lua
use Rattle.tis_puzzle.specs.declared.error.Wanted.{Wanted}
use Rattle.tis_puzzle.specs.declared.error.Wanted.TheVariants as wanted
use Rattle.tis_puzzle.specs.declared.error.PuzzleError.{PuzzleError}
use Rattle.tis_puzzle.specs.declared.error.PuzzleError.TheVariants as puzzle
use Rattle.tis_spec.specs.declared.error.SpecError.{SpecError}
use Rattle.tis_spec.specs.declared.error.SpecError.TheVariants as spec
use Rattle.tis_base.specs.declared.store.StoreError.{StoreError}
use Rattle.tis_base.specs.declared.store.StoreError.TheVariants as fault
use Rattle.net_column.specs.declared.error.FormError.{FormError}
use Rattle.net_column.specs.declared.error.FormError.TheVariants as unread
use Rattle.net_syntax.specs.declared.error.NetError.{NetError}
use Rattle.net_syntax.specs.declared.error.NetError.TheVariants as net
use Rattle.net_rules.specs.declared.error.RuleError.{RuleError}
use Rattle.net_rules.specs.declared.error.RuleError.TheVariants as rule
use Rattle.tis_cli.specs.declared.status.Status.{Status}
use Rattle.tis_cli.specs.declared.status.Status.TheVariants.{Done, NotPassed, Words, Refused, Missing, StoreFault, SinkFault, NoMemory, Limit}
use Rattle.tis_cli.specs.declared.status.Refusal.{Refusal}
use Rattle.tis_cli.specs.declared.status.Refusal.TheVariants.{NotThisForm, Net, Rule, Save, Grid, Syntax, Puzzle, Events, NotEnabled, Script}

-- the number that the program ends with
abbrev pub number_of : Status → ℕ
number_of Done = 0
number_of (NotPassed seed verdict) = 1
number_of Words = 2
number_of (Refused refusal) = 3
number_of Missing = 4
number_of StoreFault = 5
number_of SinkFault = 6
number_of NoMemory = 7
number_of (Limit done) = 8

-- a name and the number of a line, or another number, behind a blank
abbrev pub with_number : List ℕ → ℕ → List ℕ
with_number name number = name ++ decimal number

abbrev pub asm_words : AsmError → List ℕ
asm_words asm.TooManyLines = codes "TooManyLines"
asm_words (asm.LongLine line) = with_number (codes "LongLine ") line
asm_words (asm.BadLine line) = with_number (codes "BadLine ") line
asm_words (asm.RepeatedLabel line) = with_number (codes "RepeatedLabel ") line
asm_words (asm.UnknownLabel line) = with_number (codes "UnknownLabel ") line
asm_words asm.NoMemory = codes "NoMemory"

abbrev pub save_words : SaveError → List ℕ
save_words (saved.BadHead line) = with_number (codes "BadHead ") line
save_words (saved.UnknownBlock line) = with_number (codes "UnknownBlock ") line
save_words (saved.RepeatedBlock line) = with_number (codes "RepeatedBlock ") line
save_words (saved.StrayCode line) = with_number (codes "StrayCode ") line
save_words (saved.Asm block error) = with_number (codes "Asm ") block ++ 32 ∷ asm_words error
save_words saved.NoMemory = codes "NoMemory"

abbrev pub grid_words : GridTextError → List ℕ
grid_words (grid.BadLine line) = with_number (codes "BadLine ") line
grid_words (grid.SamePlace line) = with_number (codes "SamePlace ") line
grid_words grid.NoMemory = codes "NoMemory"

abbrev pub chunk_words : LuaSyntax → List ℕ
chunk_words (chunk.Syntax line) = with_number (codes "Syntax ") line
chunk_words (chunk.TooDeep line) = with_number (codes "TooDeep ") line
chunk_words chunk.NoMemory = codes "NoMemory"

abbrev pub lua_words : LuaError → List ℕ
lua_words (lua.TypeFault line) = with_number (codes "TypeFault ") line
lua_words (lua.UnknownName line) = with_number (codes "UnknownName ") line
lua_words (lua.Inexact line) = with_number (codes "Inexact ") line
lua_words (lua.OutOfRange line) = with_number (codes "OutOfRange ") line
lua_words (lua.LongString line) = with_number (codes "LongString ") line
lua_words (lua.TooDeepCalls line) = with_number (codes "TooDeepCalls ") line
lua_words lua.Budget = codes "Budget"
lua_words lua.NoMemory = codes "NoMemory"

abbrev pub wanted_words : Wanted → List ℕ
wanted_words wanted.Name = codes "Name"
wanted_words wanted.Description = codes "Description"
wanted_words wanted.Streams = codes "Streams"
wanted_words wanted.Layout = codes "Layout"

abbrev pub puzzle_words : PuzzleError → List ℕ
puzzle_words (puzzle.NoFunction which) = codes "NoFunction " ++ wanted_words which
puzzle_words (puzzle.Lua which error) = codes "Lua " ++ (wanted_words which ++ 32 ∷ lua_words error)
puzzle_words (puzzle.BadStreams index) = with_number (codes "BadStreams ") index
puzzle_words (puzzle.SamePlace index) = with_number (codes "SamePlace ") index
puzzle_words (puzzle.BadLayout index) = with_number (codes "BadLayout ") index
puzzle_words puzzle.NoMemory = codes "NoMemory"

abbrev pub net_words : NetError → List ℕ
net_words (net.BadLine line) = with_number (codes "BadLine ") line
net_words (net.TooDeep line) = with_number (codes "TooDeep ") line
net_words (net.StrayEnd line) = with_number (codes "StrayEnd ") line
net_words (net.Unclosed line) = with_number (codes "Unclosed ") line
net_words net.NoMemory = codes "NoMemory"

abbrev pub rule_words : RuleError → List ℕ
rule_words (rule.Unknown line) = with_number (codes "Unknown ") line
rule_words (rule.Repeated line) = with_number (codes "Repeated ") line
rule_words (rule.SamePlace line) = with_number (codes "SamePlace ") line
rule_words (rule.ReadTwice line) = with_number (codes "ReadTwice ") line
rule_words (rule.WrittenTwice line) = with_number (codes "WrittenTwice ") line
rule_words (rule.CounterChanged line) = with_number (codes "CounterChanged ") line
rule_words (rule.Unread line) = with_number (codes "Unread ") line
rule_words (rule.Unwritten line) = with_number (codes "Unwritten ") line
rule_words (rule.ReadBeforeWritten line) = with_number (codes "ReadBeforeWritten ") line
rule_words (rule.NoSureRead process) = with_number (codes "NoSureRead ") process
rule_words (rule.LoopWithoutRead line) = with_number (codes "LoopWithoutRead ") line
rule_words (rule.JoinAfterSplit process) = with_number (codes "JoinAfterSplit ") process
rule_words rule.NoMemory = codes "NoMemory"

-- the name of a refusal, and its parts in order
abbrev pub refusal_words : Refusal → List ℕ
refusal_words NotThisForm = codes "NotThisForm"
refusal_words (Net error) = codes "Net " ++ net_words error
refusal_words (Rule error) = codes "Rule " ++ rule_words error
refusal_words (Save error) = codes "Save " ++ save_words error
refusal_words (Grid error) = codes "Grid " ++ grid_words error
refusal_words (Syntax error) = codes "Syntax " ++ chunk_words error
refusal_words (Puzzle error) = codes "Puzzle " ++ puzzle_words error
refusal_words (Events line) = with_number (codes "Events ") line
refusal_words (NotEnabled index) = with_number (codes "NotEnabled ") index
refusal_words (Script line) = with_number (codes "Script ") line

-- the line that says how the program ended, without its LF
abbrev pub status_line : Status → List ℕ
status_line Done = []
status_line (NotPassed seed verdict) = codes "not passed"
status_line Words = codes "not a command"
status_line (Refused refusal) = codes "refused " ++ refusal_words refusal
status_line Missing = codes "missing"
status_line StoreFault = codes "store fault"
status_line SinkFault = codes "sink fault"
status_line NoMemory = codes "no memory"
status_line (Limit done) = with_number (codes "limit ") done

-- the status that a fault of the store ends a command with
abbrev pub store_status : StoreError → Status
store_status fault.Missing = Missing
store_status fault.Failed = StoreFault
store_status fault.NoMemory = NoMemory

-- the status that a text that isn't read as a network of the form that is compiled ends a command with
abbrev pub form_status : FormError → Status
form_status unread.NotThisForm = Refused NotThisForm
form_status unread.NoMemory = NoMemory

-- the status that a text that is no network ends a command with, and a network that breaks a rule
abbrev pub net_status : NetError → Status
net_status (net.BadLine line) = Refused (Net (net.BadLine line))
net_status (net.TooDeep line) = Refused (Net (net.TooDeep line))
net_status (net.StrayEnd line) = Refused (Net (net.StrayEnd line))
net_status (net.Unclosed line) = Refused (Net (net.Unclosed line))
net_status net.NoMemory = NoMemory

abbrev pub rule_status : RuleError → Status
rule_status (rule.Unknown line) = Refused (Rule (rule.Unknown line))
rule_status (rule.Repeated line) = Refused (Rule (rule.Repeated line))
rule_status (rule.SamePlace line) = Refused (Rule (rule.SamePlace line))
rule_status (rule.ReadTwice line) = Refused (Rule (rule.ReadTwice line))
rule_status (rule.WrittenTwice line) = Refused (Rule (rule.WrittenTwice line))
rule_status (rule.CounterChanged line) = Refused (Rule (rule.CounterChanged line))
rule_status (rule.Unread line) = Refused (Rule (rule.Unread line))
rule_status (rule.Unwritten line) = Refused (Rule (rule.Unwritten line))
rule_status (rule.ReadBeforeWritten line) = Refused (Rule (rule.ReadBeforeWritten line))
rule_status (rule.NoSureRead process) = Refused (Rule (rule.NoSureRead process))
rule_status (rule.LoopWithoutRead line) = Refused (Rule (rule.LoopWithoutRead line))
rule_status (rule.JoinAfterSplit process) = Refused (Rule (rule.JoinAfterSplit process))
rule_status rule.NoMemory = NoMemory

-- the status that an error of a save ends a command with
abbrev pub save_status : SaveError → Status
save_status (saved.BadHead line) = Refused (Save (saved.BadHead line))
save_status (saved.UnknownBlock line) = Refused (Save (saved.UnknownBlock line))
save_status (saved.RepeatedBlock line) = Refused (Save (saved.RepeatedBlock line))
save_status (saved.StrayCode line) = Refused (Save (saved.StrayCode line))
save_status (saved.Asm block error) = Refused (Save (saved.Asm block error))
save_status saved.NoMemory = NoMemory

-- and one of a grid text, or of the text of an order or of a script
abbrev pub grid_status : GridTextError → Status
grid_status (grid.BadLine line) = Refused (Grid (grid.BadLine line))
grid_status (grid.SamePlace line) = Refused (Grid (grid.SamePlace line))
grid_status grid.NoMemory = NoMemory

-- and one of a specification in Lua
abbrev pub chunk_status : LuaSyntax → Status
chunk_status (chunk.Syntax line) = Refused (Syntax (chunk.Syntax line))
chunk_status (chunk.TooDeep line) = Refused (Syntax (chunk.TooDeep line))
chunk_status chunk.NoMemory = NoMemory

abbrev pub puzzle_status : PuzzleError → Status
puzzle_status (puzzle.NoFunction which) = Refused (Puzzle (puzzle.NoFunction which))
puzzle_status (puzzle.Lua which error) = Refused (Puzzle (puzzle.Lua which error))
puzzle_status (puzzle.BadStreams index) = Refused (Puzzle (puzzle.BadStreams index))
puzzle_status (puzzle.SamePlace index) = Refused (Puzzle (puzzle.SamePlace index))
puzzle_status (puzzle.BadLayout index) = Refused (Puzzle (puzzle.BadLayout index))
puzzle_status puzzle.NoMemory = NoMemory

abbrev pub spec_status : SpecError → Status
spec_status (spec.Grid error) = grid_status error
spec_status (spec.Syntax error) = chunk_status error
spec_status (spec.Puzzle error) = puzzle_status error

abbrev pub events_status : EventsError → Status
events_status (events.Bad line) = Refused (Events line)
events_status events.NoMemory = NoMemory

abbrev pub script_status : ScriptError → Status
script_status (script.Bad line) = Refused (Script line)
script_status script.NoMemory = NoMemory

-- and a fault of the sink
abbrev pub sink_status : SinkError → Status
sink_status sink.Failed = SinkFault
sink_status sink.NoMemory = NoMemory
