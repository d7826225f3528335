-- How a text is read: the table of a parser that one token decides. A row is what becomes of a symbol (a terminal, a part of the
-- grammar, or something to make) before a token: the token is taken and symbols are left to come, or an expression begins
-- with it, or the symbol ends there, or the token can't come. A row that opens takes a token that opens something. What is made
-- of the parts stands between the symbols. The grammar that is read so stands in `Grammar.antt`.
--
-- Open are: a block, from the word or the bracket before it to its end; a grouping and a constructor, up to the closing bracket;
-- an operator, a dot, the bracket of an index and of a call, up to the end of what stands around: the grouping, the index, the
-- item, the argument, the statement. There `Restore` sets the count back to what it was when that began. What is open apart from
-- any reading stands in `Nesting.antt`.
use Rattle.std.specs.Prelude.{ℕ, Bool, true, false, if◌then◌else◌, nat_le, List, [], ◌∷◌, Option, Some, None}
use Rattle.lua_tree.specs.declared.tree.UnaryOp.TheVariants as unary
use Rattle.lua_tree.specs.declared.tree.BinaryOp.{BinaryOp}
use Rattle.lua_tree.specs.declared.tree.BinaryOp.TheVariants as binary
use Rattle.lua_tokens.specs.declared.kind.Role.{Role}
use Rattle.lua_tokens.specs.declared.kind.Role.TheVariants.{Plain, Math, Table}
use Rattle.lua_tokens.specs.declared.kind.Kind.{Kind}
use Rattle.lua_tokens.specs.declared.kind.Kind.TheVariants as k
use Rattle.lua_grammar.specs.declared.symbol.Mark.{Mark}
use Rattle.lua_grammar.specs.declared.symbol.Mark.TheVariants as m
use Rattle.lua_grammar.specs.declared.symbol.Action.{Action}
use Rattle.lua_grammar.specs.declared.symbol.Action.TheVariants as a
use Rattle.lua_grammar.specs.declared.symbol.Symbol.{Symbol}
use Rattle.lua_grammar.specs.declared.symbol.Symbol.TheVariants as s
use Rattle.lua_grammar.specs.declared.symbol.Row.{Row}
use Rattle.lua_grammar.specs.declared.symbol.Row.TheVariants.{Takes, Opens, Begins, Passes, Refuses}

-- how many may be open at once
abbrev pub most_open : ℕ
most_open = 64

-- ---- operators

-- how tightly an operator binds
abbrev pub level : BinaryOp → ℕ
level binary.Or = 1
level binary.And = 2
level binary.Less = 3
level binary.Greater = 3
level binary.LessEqual = 3
level binary.GreaterEqual = 3
level binary.NotEqual = 3
level binary.Equal = 3
level binary.Join = 4
level binary.Plus = 5
level binary.Minus = 5
level binary.Times = 6
level binary.Over = 6
level binary.Mod = 6

-- how tightly an operator binds on its right side: all but `..` group to the left
abbrev pub right_level : BinaryOp → ℕ
right_level binary.Or = 2
right_level binary.And = 3
right_level binary.Less = 4
right_level binary.Greater = 4
right_level binary.LessEqual = 4
right_level binary.GreaterEqual = 4
right_level binary.NotEqual = 4
right_level binary.Equal = 4
right_level binary.Join = 4
right_level binary.Plus = 6
right_level binary.Minus = 6
right_level binary.Times = 7
right_level binary.Over = 7
right_level binary.Mod = 7

-- the binary operator that a token can be
abbrev pub binary_of : Kind → Option BinaryOp
binary_of (k.Operator op) = Some op
binary_of k.Minus = Some binary.Minus
binary_of _ = None

-- ---- tokens that have to come

-- whether a token is the one that has to come
abbrev pub is_mark : Mark → Kind → Bool
is_mark m.Name (k.Name role) = true
is_mark m.Assign k.Assign = true
is_mark m.Comma k.Comma = true
is_mark m.End k.End = true
is_mark m.Until k.Until = true
is_mark m.LeftParen k.LeftParen = true
is_mark m.RightParen k.RightParen = true
is_mark m.RightBracket k.RightBracket = true
is_mark _ _ = false

abbrev pub token_row : Mark → Kind → Row
token_row mark kind = if is_mark mark kind then Takes [] else Refuses

abbrev pub semicolon_row : Kind → Row
semicolon_row k.Semicolon = Takes []
semicolon_row _ = Passes a.Nothing

-- ---- the chunk: `function NAME ( names ) block end` and `NAME = expression`

abbrev pub chunk_row : ℕ → Kind → Row
chunk_row opened k.Function = Takes (s.Token m.Name ∷ s.Token m.LeftParen ∷ s.Make a.StartParameters ∷ s.Parameters ∷ s.Token m.End ∷ s.Make a.Function ∷ s.Semicolon ∷ s.Chunk ∷ [])
chunk_row opened (k.Name role) = Takes (s.Token m.Assign ∷ s.Expression ∷ s.Make a.Assignment ∷ s.Make (a.Restore opened) ∷ s.Semicolon ∷ s.Chunk ∷ [])
chunk_row opened k.EndOfText = Takes []
chunk_row opened _ = Refuses

-- a block that the token before it opens
abbrev pub a_block : ℕ → Bool → List Symbol → List Symbol
a_block opened in_loop behind = s.Make a.StartBlock ∷ s.Block in_loop ∷ s.Make (a.Restore opened) ∷ behind

abbrev pub parameters_row : ℕ → Kind → Row
parameters_row opened (k.Name role) = Takes (s.Make a.AddParameter ∷ s.MoreParameters ∷ [])
parameters_row opened k.RightParen = Opens (a_block opened false [])
parameters_row opened _ = Refuses

abbrev pub more_parameters_row : ℕ → Kind → Row
more_parameters_row opened k.Comma = Takes (s.Token m.Name ∷ s.Make a.AddParameter ∷ s.MoreParameters ∷ [])
more_parameters_row opened k.RightParen = Opens (a_block opened false [])
more_parameters_row opened _ = Refuses

-- ---- statements

-- what ends a statement of a block, where further ones may come
abbrev pub and_on : ℕ → Bool → List Symbol
and_on opened in_loop = s.Make (a.Restore opened) ∷ s.Semicolon ∷ s.Block in_loop ∷ []

abbrev pub break_row : ℕ → Bool → Row
break_row opened true = Takes (s.Make a.Break ∷ and_on opened true)
break_row opened false = Refuses

abbrev pub block_row : ℕ → Bool → Kind → ℕ → Row
block_row opened in_loop k.Local line = Takes (s.Token m.Name ∷ s.LocalValue ∷ and_on opened in_loop)
block_row opened in_loop (k.Name role) line = Takes (s.Target role line ∷ and_on opened in_loop)
block_row opened in_loop k.If line = Takes (s.Make a.StartArms ∷ s.Expression ∷ s.ThenBlock in_loop ∷ s.Make a.AddArm ∷ s.Arms in_loop ∷ and_on opened in_loop)
block_row opened in_loop k.While line = Takes (s.Expression ∷ s.DoBlock ∷ s.Token m.End ∷ s.Make a.While ∷ and_on opened in_loop)
block_row opened in_loop k.Repeat line = Opens (a_block opened true (s.Token m.Until ∷ s.Expression ∷ s.Make a.Repeat ∷ and_on opened in_loop))
block_row opened in_loop k.For line = Takes (s.Token m.Name ∷ s.Token m.Assign ∷ s.Expression ∷ s.Token m.Comma ∷ s.Expression ∷ s.ForStep line ∷ and_on opened in_loop)
block_row opened in_loop k.Do line = Opens (a_block opened in_loop (s.Token m.End ∷ s.Make a.Do ∷ and_on opened in_loop))
block_row opened in_loop k.Break line = break_row opened in_loop
block_row opened in_loop k.Return line = Takes (s.ReturnValue ∷ s.Make (a.Restore opened) ∷ s.Semicolon ∷ [])
block_row opened in_loop _ line = Passes a.Nothing

abbrev pub local_value_row : Kind → Row
local_value_row k.Assign = Takes (s.Expression ∷ s.Make a.LocalWith ∷ [])
local_value_row _ = Passes a.LocalWithout

abbrev pub then_block_row : ℕ → Bool → Kind → Row
then_block_row opened in_loop k.Then = Opens (a_block opened in_loop [])
then_block_row opened in_loop _ = Refuses

abbrev pub arms_row : ℕ → Bool → Kind → Row
arms_row opened in_loop k.ElseIf = Takes (s.Expression ∷ s.ThenBlock in_loop ∷ s.Make a.AddArm ∷ s.Arms in_loop ∷ [])
arms_row opened in_loop k.Else = Opens (a_block opened in_loop (s.Token m.End ∷ s.Make a.IfElse ∷ []))
arms_row opened in_loop k.End = Takes (s.Make a.If ∷ [])
arms_row opened in_loop _ = Refuses

abbrev pub do_block_row : ℕ → Kind → Row
do_block_row opened k.Do = Opens (a_block opened true [])
do_block_row opened _ = Refuses

abbrev pub for_step_row : ℕ → ℕ → Kind → Row
for_step_row opened for_line k.Comma = Takes (s.Expression ∷ s.DoBlock ∷ s.Token m.End ∷ s.Make (a.ForStep for_line) ∷ [])
for_step_row opened for_line k.Do = Opens (a_block opened true (s.Token m.End ∷ s.Make (a.For for_line) ∷ []))
for_step_row opened for_line _ = Refuses

-- ---- a statement that begins with a name: the target of an assignment, or a call

-- the arguments of a call, whose bracket was just taken
abbrev pub called : Action → List Symbol → List Symbol
called call behind = s.Make a.StartArguments ∷ s.Arguments ∷ s.Make call ∷ behind

-- what a call of a library makes
abbrev pub library_call : Role → ℕ → Action
library_call Math line = a.MathCall line
library_call Table line = a.TableCall line
library_call Plain line = a.Call line

abbrev pub is_library : Role → Bool
is_library Plain = false
is_library Math = true
is_library Table = true

-- the key of an index, whose bracket was just taken and stays open, and the closing bracket
abbrev pub key_row : ℕ → Row
key_row opened = Begins (s.Operators 1 ∷ s.Token m.RightBracket ∷ s.Make (a.Restore opened) ∷ [])

-- behind a name
abbrev pub target_row : ℕ → Role → ℕ → Kind → ℕ → Row
target_row opened role name_line k.Assign line = Takes (s.Expression ∷ s.Make a.Assign ∷ [])
target_row opened role name_line k.LeftParen line = Opens (called (a.Call name_line) (s.TargetCall ∷ []))
target_row opened role name_line k.Dot line = Opens (s.Make a.Name ∷ s.MemberTarget role line ∷ [])
target_row opened role name_line k.LeftBracket line = Opens (s.Make a.Name ∷ s.Key ∷ s.TargetIndex line ∷ [])
target_row opened role name_line _ line = Refuses

-- behind a dot
abbrev pub member_target_row : Role → ℕ → Kind → ℕ → Row
member_target_row role dot_line (k.Name name) line = Takes (s.TargetMember role dot_line line ∷ [])
member_target_row role dot_line _ line = Refuses

-- the call of a library's function, where the name is that of a library
abbrev pub library_target_row : Role → ℕ → Row
library_target_row role name_line = if is_library role then Opens (called (library_call role name_line) (s.TargetCall ∷ [])) else Refuses

-- behind a dot and a name
abbrev pub target_member_row : ℕ → Role → ℕ → ℕ → Kind → ℕ → Row
target_member_row opened role dot_line name_line k.Assign line = Takes (s.Expression ∷ s.Make (a.SetMember dot_line) ∷ [])
target_member_row opened role dot_line name_line k.Dot line = Opens (s.Make (a.Member dot_line) ∷ s.MemberTarget Plain line ∷ [])
target_member_row opened role dot_line name_line k.LeftBracket line = Opens (s.Make (a.Member dot_line) ∷ s.Key ∷ s.TargetIndex line ∷ [])
target_member_row opened role dot_line name_line k.LeftParen line = library_target_row role name_line
target_member_row opened role dot_line name_line _ line = Refuses

-- behind an index
abbrev pub target_index_row : ℕ → ℕ → Kind → ℕ → Row
target_index_row opened index_line k.Assign line = Takes (s.Expression ∷ s.Make (a.SetIndex index_line) ∷ [])
target_index_row opened index_line k.Dot line = Opens (s.Make (a.Index index_line) ∷ s.MemberTarget Plain line ∷ [])
target_index_row opened index_line k.LeftBracket line = Opens (s.Make (a.Index index_line) ∷ s.Key ∷ s.TargetIndex line ∷ [])
target_index_row opened index_line _ line = Refuses

-- behind a call
abbrev pub target_call_row : ℕ → Kind → ℕ → Row
target_call_row opened k.Dot line = Opens (s.MemberTarget Plain line ∷ [])
target_call_row opened k.LeftBracket line = Opens (s.Key ∷ s.TargetIndex line ∷ [])
target_call_row opened _ line = Passes a.CallStatement

-- ---- expressions

-- an operand, by its first token
abbrev pub operand_row : ℕ → Kind → ℕ → Row
operand_row opened k.Nil line = Takes (s.Make a.Nil ∷ [])
operand_row opened k.True line = Takes (s.Make a.True ∷ [])
operand_row opened k.False line = Takes (s.Make a.False ∷ [])
operand_row opened (k.Number value) line = Takes (s.Make (a.Number value) ∷ [])
operand_row opened k.Str line = Takes (s.Make (a.Str line) ∷ [])
operand_row opened (k.Name role) line = Takes (s.AfterName role line ∷ s.Suffix ∷ [])
operand_row opened k.LeftParen line = Opens (s.Expression ∷ s.Token m.RightParen ∷ s.Make (a.Restore opened) ∷ [])
operand_row opened k.LeftBrace line = Opens (s.Make a.StartEntries ∷ s.Entries ∷ s.Make a.Construct ∷ s.Make (a.Restore opened) ∷ [])
operand_row opened k.Not line = Opens (s.Operand ∷ s.Make (a.Unary unary.Not line) ∷ [])
operand_row opened k.Minus line = Opens (s.Operand ∷ s.Make (a.Unary unary.Minus line) ∷ [])
operand_row opened k.Hash line = Opens (s.Operand ∷ s.Make (a.Unary unary.Length line) ∷ [])
operand_row opened _ line = Refuses

-- whether a token begins an expression
abbrev pub begins_expression : Kind → Bool
begins_expression k.Nil = true
begins_expression k.True = true
begins_expression k.False = true
begins_expression (k.Number value) = true
begins_expression k.Str = true
begins_expression (k.Name role) = true
begins_expression k.LeftParen = true
begins_expression k.LeftBrace = true
begins_expression k.Not = true
begins_expression k.Minus = true
begins_expression k.Hash = true
begins_expression _ = false

abbrev pub return_value_row : Kind → Row
return_value_row kind = if begins_expression kind then Begins (s.Operators 1 ∷ s.Make a.ReturnWith ∷ []) else Passes a.ReturnWithout

-- an operator with its right side, and then what comes behind
abbrev pub operation : BinaryOp → ℕ → List Symbol → List Symbol
operation op line behind = s.Operand ∷ s.Operators (right_level op) ∷ s.Make (a.Binary op line) ∷ behind

abbrev pub operators_with : ℕ → Option BinaryOp → ℕ → Row
operators_with least (Some op) line = if nat_le least (level op) then Opens (operation op line (s.Operators least ∷ [])) else Passes a.Nothing
operators_with least None line = Passes a.Nothing

abbrev pub operators_row : ℕ → Kind → ℕ → Row
operators_row least kind line = operators_with least (binary_of kind) line

-- behind a name
abbrev pub after_name_row : Role → ℕ → Kind → ℕ → Row
after_name_row role name_line k.LeftParen line = Opens (called (a.Call name_line) [])
after_name_row role name_line k.Dot line = if is_library role then Opens (s.Make a.Name ∷ s.LibraryName role line ∷ []) else Passes a.Name
after_name_row role name_line _ line = Passes a.Name

-- behind the dot of a library
abbrev pub library_name_row : Role → ℕ → Kind → ℕ → Row
library_name_row role dot_line (k.Name name) line = Takes (s.AfterMember role dot_line line ∷ [])
library_name_row role dot_line _ line = Refuses

-- behind a library's name, a dot and a name: a member, unless it is called
abbrev pub after_member_row : Role → ℕ → ℕ → Kind → Row
after_member_row role dot_line name_line k.LeftParen = Opens (called (library_call role name_line) [])
after_member_row role dot_line name_line _ = Passes (a.Member dot_line)

-- members and indexes behind an operand that can have them
abbrev pub suffix_row : ℕ → Kind → ℕ → Row
suffix_row opened k.Dot line = Opens (s.Token m.Name ∷ s.Make (a.Member line) ∷ s.Suffix ∷ [])
suffix_row opened k.LeftBracket line = Opens (s.Key ∷ s.Make (a.Index line) ∷ s.Suffix ∷ [])
suffix_row opened _ line = Passes a.Nothing

-- arguments, parted by commas, up to and with the closing bracket
abbrev pub arguments_row : ℕ → Kind → Row
arguments_row opened k.RightParen = Takes []
arguments_row opened _ = Begins (s.Operators 1 ∷ s.Make a.AddArgument ∷ s.Make (a.Restore opened) ∷ s.MoreArguments ∷ [])

abbrev pub more_arguments_row : ℕ → Kind → Row
more_arguments_row opened k.Comma = Takes (s.Expression ∷ s.Make a.AddArgument ∷ s.Make (a.Restore opened) ∷ s.MoreArguments ∷ [])
more_arguments_row opened k.RightParen = Takes []
more_arguments_row opened _ = Refuses

-- ---- constructors: items, parted by `,` or `;`, with one more allowed after the last

-- the end of an item
abbrev pub to_next : ℕ → List Symbol
to_next opened = s.Make (a.Restore opened) ∷ s.MoreEntries ∷ []

abbrev pub entries_row : ℕ → Kind → ℕ → Row
entries_row opened k.RightBrace line = Takes []
entries_row opened k.LeftBracket line = Takes (s.Expression ∷ s.Token m.RightBracket ∷ s.Token m.Assign ∷ s.Expression ∷ s.Make (a.AddKeyed line) ∷ to_next opened)
entries_row opened (k.Name role) line = Takes (s.EntryName role line ∷ to_next opened)
entries_row opened _ line = Begins (s.Operators 1 ∷ s.Make a.AddValue ∷ to_next opened)

abbrev pub more_entries_row : Kind → Row
more_entries_row k.Comma = Takes (s.Entries ∷ [])
more_entries_row k.Semicolon = Takes (s.Entries ∷ [])
more_entries_row k.RightBrace = Takes []
more_entries_row _ = Refuses

-- what goes on with an expression that is an item
abbrev pub item_goes_on : List Symbol
item_goes_on = s.Suffix ∷ s.Operators 1 ∷ s.Make a.AddValue ∷ []

-- behind a name with which an item begins: an operator, or the end of the item
abbrev pub entry_operation : Option BinaryOp → ℕ → Row
entry_operation (Some op) line = Opens (s.Make a.Name ∷ operation op line (s.Operators 1 ∷ s.Make a.AddValue ∷ []))
entry_operation None line = Passes a.AddName

-- behind a name and a dot with which an item begins
abbrev pub entry_member : Role → ℕ → Row
entry_member role line = if is_library role then Opens (s.Make a.Name ∷ s.LibraryName role line ∷ item_goes_on) else Opens (s.Make a.Name ∷ s.Token m.Name ∷ s.Make (a.Member line) ∷ item_goes_on)

-- behind a name with which an item begins
abbrev pub entry_name_row : ℕ → Role → ℕ → Kind → ℕ → Row
entry_name_row opened role name_line k.Assign line = Takes (s.Expression ∷ s.Make a.AddNamed ∷ [])
entry_name_row opened role name_line k.LeftParen line = Opens (called (a.Call name_line) item_goes_on)
entry_name_row opened role name_line k.LeftBracket line = Opens (s.Make a.Name ∷ s.Key ∷ s.Make (a.Index line) ∷ item_goes_on)
entry_name_row opened role name_line k.Dot line = entry_member role line
entry_name_row opened role name_line kind line = entry_operation (binary_of kind) line

-- ---- the table: a symbol, how many are open, a token's kind and its line

unfoldable pub row : Symbol → ℕ → Kind → ℕ → Row
row s.Chunk opened kind line = chunk_row opened kind
row (s.Token mark) opened kind line = token_row mark kind
row s.Semicolon opened kind line = semicolon_row kind
row s.Parameters opened kind line = parameters_row opened kind
row s.MoreParameters opened kind line = more_parameters_row opened kind
row (s.Block in_loop) opened kind line = block_row opened in_loop kind line
row s.LocalValue opened kind line = local_value_row kind
row s.ReturnValue opened kind line = return_value_row kind
row (s.ThenBlock in_loop) opened kind line = then_block_row opened in_loop kind
row (s.Arms in_loop) opened kind line = arms_row opened in_loop kind
row s.DoBlock opened kind line = do_block_row opened kind
row (s.ForStep for_line) opened kind line = for_step_row opened for_line kind
row (s.Target role name_line) opened kind line = target_row opened role name_line kind line
row (s.MemberTarget role dot_line) opened kind line = member_target_row role dot_line kind line
row (s.TargetMember role dot_line name_line) opened kind line = target_member_row opened role dot_line name_line kind line
row (s.TargetIndex index_line) opened kind line = target_index_row opened index_line kind line
row s.TargetCall opened kind line = target_call_row opened kind line
row s.Expression opened kind line = Begins (s.Operators 1 ∷ [])
row s.Key opened kind line = key_row opened
row s.Operand opened kind line = Begins []
row (s.Operators least) opened kind line = operators_row least kind line
row (s.AfterName role name_line) opened kind line = after_name_row role name_line kind line
row (s.LibraryName role dot_line) opened kind line = library_name_row role dot_line kind line
row (s.AfterMember role dot_line name_line) opened kind line = after_member_row role dot_line name_line kind
row s.Suffix opened kind line = suffix_row opened kind line
row s.Arguments opened kind line = arguments_row opened kind
row s.MoreArguments opened kind line = more_arguments_row opened kind
row s.Entries opened kind line = entries_row opened kind line
row s.MoreEntries opened kind line = more_entries_row kind
row (s.EntryName role name_line) opened kind line = entry_name_row opened role name_line kind line
row (s.Make action) opened kind line = Passes action
