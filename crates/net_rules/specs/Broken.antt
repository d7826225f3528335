-- What an error says of the rules.
use Rattle.std.specs.Prelude.{◌≡◌, Option, Some, None, Result, Ok, Err}
use Rattle.net_rules.specs.declared.error.RuleError.{RuleError}
use Rattle.net_rules.specs.declared.error.RuleError.TheVariants as errors
use Rattle.net_rules.specs.Rules.{BrokenRule, Unknown, Repeated, SamePlace, ReadTwice, WrittenTwice, CounterChanged, Unread, Unwritten, ReadBeforeWritten, NoSureRead, LoopWithoutRead, JoinAfterSplit}

-- an error says this of a network; that memory ran out says nothing
abbrev pub IsBroken : RuleError → Option BrokenRule → Type 0
IsBroken (errors.Unknown line) wanted = wanted ≡ Some (Unknown line)
IsBroken (errors.Repeated line) wanted = wanted ≡ Some (Repeated line)
IsBroken (errors.SamePlace line) wanted = wanted ≡ Some (SamePlace line)
IsBroken (errors.ReadTwice line) wanted = wanted ≡ Some (ReadTwice line)
IsBroken (errors.WrittenTwice line) wanted = wanted ≡ Some (WrittenTwice line)
IsBroken (errors.CounterChanged line) wanted = wanted ≡ Some (CounterChanged line)
IsBroken (errors.Unread line) wanted = wanted ≡ Some (Unread line)
IsBroken (errors.Unwritten line) wanted = wanted ≡ Some (Unwritten line)
IsBroken (errors.ReadBeforeWritten line) wanted = wanted ≡ Some (ReadBeforeWritten line)
IsBroken (errors.NoSureRead process) wanted = wanted ≡ Some (NoSureRead process)
IsBroken (errors.LoopWithoutRead line) wanted = wanted ≡ Some (LoopWithoutRead line)
IsBroken (errors.JoinAfterSplit process) wanted = wanted ≡ Some (JoinAfterSplit process)
IsBroken errors.NoMemory wanted = Unit {0}

-- a call gave the rule that is broken, or None where none is
abbrev pub Breaks : Option RuleError → Option BrokenRule → Type 0
Breaks None wanted = wanted ≡ None
Breaks (Some error) wanted = IsBroken error wanted

-- a call that keeps silent where this rule isn't broken, and else names it
abbrev pub Keeps : Result (Unit {0}) RuleError → Option BrokenRule → Type 0
Keeps (Ok done) wanted = wanted ≡ None
Keeps (Err error) wanted = IsBroken error wanted
