-- What contracts see of a reader.
use Rattle.std.specs.Prelude.{◌≡◌, List, map, reverse, option_map, Result, Ok, Err}
use Rattle.net_syntax.specs.declared.error.NetError.{NetError}
use Rattle.net_syntax.specs.declared.error.NetError.TheVariants as errors
use Rattle.net_syntax.specs.declared.reader.BlockRole as held_role
use Rattle.net_syntax.specs.declared.reader.BlockRole.TheVariants as roles
use Rattle.net_syntax.specs.declared.reader.OpenStatement as held_statement
use Rattle.net_syntax.specs.declared.reader.OpenProcess as held_process
use Rattle.net_syntax.specs.declared.reader.Configuration as held_configuration
use Rattle.net_syntax.specs.Refusals.{NetRefusal, BadLine, TooDeep, StrayEnd, Unclosed}
use Rattle.net_syntax.specs.Reading.{BlockRole, FirstOf, SecondOf, WhileOf, CountOf, OpenStatement, OpenProcess, Configuration}
use Rattle.net_tree.specs.View.{block_view, net_view}

-- an error says this of a text; that memory ran out says nothing
abbrev pub IsError : {Y : Type 0} → NetError → Result Y NetRefusal → Type 0
IsError (errors.BadLine line) wanted = wanted ≡ Err (BadLine line)
IsError (errors.TooDeep line) wanted = wanted ≡ Err (TooDeep line)
IsError (errors.StrayEnd line) wanted = wanted ≡ Err (StrayEnd line)
IsError (errors.Unclosed line) wanted = wanted ≡ Err (Unclosed line)
IsError errors.NoMemory wanted = Unit {0}

-- the call gives what is wanted, by what contracts see of it, or the refusal that is wanted, unless memory ran out
abbrev pub Answers : {X Y : Type 0} → (X → Y) → Result X NetError → Result Y NetRefusal → Type 0
Answers view (Ok x) wanted = wanted ≡ Ok (view x)
Answers view (Err error) wanted = IsError error wanted

abbrev pub role_view : held_role.BlockRole → BlockRole
role_view (roles.FirstOf var test) = FirstOf var test
role_view (roles.SecondOf var test first) = SecondOf var test (block_view first)
role_view (roles.WhileOf var test) = WhileOf var test
role_view (roles.CountOf var) = CountOf var

abbrev pub open_statement_view : held_statement.OpenStatement → OpenStatement
open_statement_view inner = record { line = inner.line; role = role_view inner.role; before = block_view inner.before }

-- the open statements, innermost first
abbrev pub around_view : List held_statement.OpenStatement → List OpenStatement
around_view around = reverse (map open_statement_view around)

abbrev pub open_process_view : held_process.OpenProcess → OpenProcess
open_process_view opened = record { name = opened.name; at = opened.at; line = opened.line; block = block_view opened.block; around = around_view opened.around.items }

abbrev pub configuration_view : held_configuration.Configuration → Configuration
configuration_view sofar = record { net = net_view sofar.net; open_process = option_map open_process_view sofar.open_process }
