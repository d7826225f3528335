-- What is open in a form of the grammar. The token that a block begins with, an operator, a dot, and the bracket that opens a
-- grouping, a constructor, an index or the arguments of a call stay open to the end of the innermost part around them: a block,
-- a grouping, a constructor, an index, an argument, an entry, a statement, a definition of the chunk. Other tokens open nothing.
use Rattle.std.specs.Prelude.{ℕ, ◌+◌, Bool, List, [], ◌∷◌, ◌++◌, Option, Some, None}
use Rattle.lua_tree.specs.declared.tree.Item.{Item}
use Rattle.lua_tree.specs.declared.tree.Arm.{Arm}
use Rattle.lua_tree.specs.declared.tree.Entry.{Entry}
use Rattle.lua_tree.specs.declared.tree.Expr.{Expr}
use Rattle.lua_tree.specs.declared.tree.LuaBlock.{LuaBlock}
use Rattle.lua_tree.specs.declared.tree.LuaStatement.{LuaStatement}
use Rattle.lua_tokens.specs.declared.kind.Role.{Role}
use Rattle.lua_tokens.specs.declared.pieces.Token.{Token}
use Rattle.lua_grammar.specs.Grammar.{IsExpression, expression, IsOperations, no_more, operation, IsOperand, nil, yes, no, number, string, prefix, grouping, construct, negation, minus, length_of, IsNamed, alone, call, library, IsLibrarys, librarys, IsFunction, math_call, table_call, member, AreSuffixes, none, dotted, indexed, AreArguments, no_arguments, arguments, AreMoreArguments, last_argument, another, AreEntries, no_entries, entries, AreMoreEntries, last_entry, comma, semicolon, IsEntry, value, named, keyed}
use Rattle.lua_grammar.specs.Grammar.{IsOfName, assign_name, call_name, member_name, index_name, IsOfDot, dot, IsOfMember, assign_member, member_member, index_member, call_math, call_table, IsOfIndex, assign_index, member_index, index_index, IsOfCall, call_alone, member_call, index_call}
use Rattle.lua_grammar.specs.Grammar.{IsSemicolon, present, absent, IsLocalValue, local_value, no_local_value, IsReturnValue, return_value, no_return_value, IsBlock, no_statements, statements, returned, IsStatement, local_statement, of_name, conditional, while_statement, repeat_statement, for_statement, do_statement, break_statement, IsThenBlock, then_block, IsDoBlock, do_block, AreArms, elseif, else_block, no_else, IsForBody, with_step, no_step}
use Rattle.lua_grammar.specs.Grammar.{AreParameters, no_parameters, parameters, AreMoreParameters, last_parameter, another_parameter, AreItems, no_items, function, assignment, IsChunkOf}

infixr 60 ◌then◌
-- the tokens of a form, and what they open
pub data Nesting : Type 0 where
  -- no token
  Nothing : Nesting
  -- a token that opens nothing
  Plain : Nesting
  -- a token that opens something
  Opens : Nesting
  -- the one, and then the other
  ◌then◌ : Nesting → Nesting → Nesting
  -- a part, at whose end all is closed that was opened in it
  Part : Nesting → Nesting

-- how many are open behind, where so many are open before
abbrev pub open_behind : ℕ → Nesting → ℕ
open_behind before Nothing = before
open_behind before Plain = before
open_behind before Opens = before + 1
open_behind before (a then b) = open_behind (open_behind before a) b
open_behind before (Part a) = before

-- of each token, how many are open with it, where it opens one
abbrev pub open_with : ℕ → Nesting → List (Option ℕ)
open_with before Nothing = []
open_with before Plain = None ∷ []
open_with before Opens = Some (before + 1) ∷ []
open_with before (a then b) = open_with before a ++ open_with (open_behind before a) b
open_with before (Part a) = open_with before a

-- ---- expressions

abbrev mutual
  -- its operators, dots and brackets of indexes and calls stay open behind it
  pub in_expression : {least : ℕ} {ts rest : List Token} {a : Expr} → IsExpression least ts a rest → Nesting
  in_expression (expression operand operations) = in_operand operand then in_operations operations

  pub in_operations : {least : ℕ} {left a : Expr} {ts rest : List Token} → IsOperations least left ts a rest → Nesting
  in_operations (no_more _) = Nothing
  in_operations (operation _ _ right more) = Opens then in_expression right then in_operations more

  pub in_operand : {ts rest : List Token} {a : Expr} → IsOperand ts a rest → Nesting
  in_operand (nil _) = Plain
  in_operand (yes _) = Plain
  in_operand (no _) = Plain
  in_operand (number _) = Plain
  in_operand string = Plain
  in_operand (prefix what suffixes) = Plain then in_named what then in_suffixes suffixes
  in_operand (grouping _ inner _) = Part (Opens then in_expression inner then Plain)
  in_operand (construct _ inner) = Part (Opens then in_entries inner)
  in_operand (negation of) = Opens then in_operand of
  in_operand (minus of) = Opens then in_operand of
  in_operand (length_of of) = Opens then in_operand of

  pub in_named : {role : Role} {line : ℕ} {text : List ℕ} {ts rest : List Token} {a : Expr} → IsNamed role line text ts a rest → Nesting
  in_named (alone _) = Nothing
  in_named (call _ args) = Opens then in_arguments args
  in_named (library _ behind) = Opens then in_librarys behind

  pub in_librarys : {role : Role} {line : ℕ} {of a : Expr} {ts rest : List Token} → IsLibrarys role line of ts a rest → Nesting
  in_librarys (librarys behind) = Plain then in_function behind

  pub in_function : {role : Role} {dot_line line : ℕ} {of a : Expr} {text : List ℕ} {ts rest : List Token} → IsFunction role dot_line line of text ts a rest → Nesting
  in_function (math_call _ args) = Opens then in_arguments args
  in_function (table_call _ args) = Opens then in_arguments args
  in_function (member _) = Nothing

  pub in_suffixes : {a b : Expr} {ts rest : List Token} → AreSuffixes a ts b rest → Nesting
  in_suffixes (none _) = Nothing
  in_suffixes (dotted _ more) = Opens then Plain then in_suffixes more
  in_suffixes (indexed key _ more) = Opens then Part (in_expression key then Plain) then in_suffixes more

  pub in_arguments : {ts rest : List Token} {args : List Expr} → AreArguments ts args rest → Nesting
  in_arguments (no_arguments _) = Plain
  in_arguments (arguments first more) = Part (in_expression first) then in_more_arguments more

  pub in_more_arguments : {ts rest : List Token} {args : List Expr} → AreMoreArguments ts args rest → Nesting
  in_more_arguments (last_argument _) = Plain
  in_more_arguments (another _ next more) = Plain then Part (in_expression next) then in_more_arguments more

  pub in_entries : {ts rest : List Token} {all : List Entry} → AreEntries ts all rest → Nesting
  in_entries (no_entries _) = Plain
  in_entries (entries first more) = Part (in_entry first) then in_more_entries more

  pub in_more_entries : {ts rest : List Token} {all : List Entry} → AreMoreEntries ts all rest → Nesting
  in_more_entries (last_entry _) = Plain
  in_more_entries (comma _ more) = Plain then in_entries more
  in_more_entries (semicolon _ more) = Plain then in_entries more

  -- the bracket of a key opens nothing, and what the key opens stays open to the end of the entry
  pub in_entry : {ts rest : List Token} {one : Entry} → IsEntry ts one rest → Nesting
  in_entry (value a) = in_expression a
  in_entry (named _ _ a) = Plain then Plain then in_expression a
  in_entry (keyed key _ _ a) = Plain then in_expression key then Plain then Plain then in_expression a

-- ---- statements that begin with a name, behind it; what the target opens is open over the value

abbrev mutual
  pub in_of_name : {role : Role} {line : ℕ} {text : List ℕ} {ts rest : List Token} {s : LuaStatement} → IsOfName role line text ts s rest → Nesting
  in_of_name (assign_name _ a) = Plain then in_expression a
  in_of_name (call_name _ args behind) = Opens then in_arguments args then in_of_call behind
  in_of_name (member_name behind) = Opens then in_of_dot behind
  in_of_name (index_name key _ behind) = Opens then Part (in_expression key then Plain) then in_of_index behind

  pub in_of_dot : {role : Role} {line : ℕ} {of : Expr} {ts rest : List Token} {s : LuaStatement} → IsOfDot role line of ts s rest → Nesting
  in_of_dot (dot behind) = Plain then in_of_member behind

  pub in_of_member : {role : Role} {dot_line line : ℕ} {of : Expr} {text : List ℕ} {ts rest : List Token} {s : LuaStatement} → IsOfMember role dot_line line of text ts s rest → Nesting
  in_of_member (assign_member _ a) = Plain then in_expression a
  in_of_member (member_member behind) = Opens then in_of_dot behind
  in_of_member (index_member key _ behind) = Opens then Part (in_expression key then Plain) then in_of_index behind
  in_of_member (call_math _ args behind) = Opens then in_arguments args then in_of_call behind
  in_of_member (call_table _ args behind) = Opens then in_arguments args then in_of_call behind

  pub in_of_index : {line : ℕ} {of key : Expr} {ts rest : List Token} {s : LuaStatement} → IsOfIndex line of key ts s rest → Nesting
  in_of_index (assign_index _ a) = Plain then in_expression a
  in_of_index (member_index behind) = Opens then in_of_dot behind
  in_of_index (index_index key _ behind) = Opens then Part (in_expression key then Plain) then in_of_index behind

  pub in_of_call : {of : Expr} {ts rest : List Token} {s : LuaStatement} → IsOfCall of ts s rest → Nesting
  in_of_call (call_alone _) = Nothing
  in_of_call (member_call behind) = Opens then in_of_dot behind
  in_of_call (index_call key _ behind) = Opens then Part (in_expression key then Plain) then in_of_index behind

-- ---- statements and blocks

abbrev pub in_semicolon : {ts rest : List Token} → IsSemicolon ts rest → Nesting
in_semicolon (present _) = Plain
in_semicolon (absent _) = Nothing

abbrev pub in_local_value : {ts rest : List Token} {given : Option Expr} → IsLocalValue ts given rest → Nesting
in_local_value (local_value _ a) = Plain then in_expression a
in_local_value (no_local_value _) = Nothing

abbrev pub in_return_value : {ts rest : List Token} {given : Option Expr} → IsReturnValue ts given rest → Nesting
in_return_value (return_value a) = in_expression a
in_return_value (no_return_value _) = Nothing

-- a block is a part that begins with the token before it, and ends before the token behind it. What a test or a bound opens
-- stays open to the end of its statement, over the blocks
abbrev mutual
  pub in_block : {in_loop : Bool} {ts rest : List Token} {body : List LuaStatement} → IsBlock in_loop ts body rest → Nesting
  in_block (no_statements _) = Nothing
  in_block (statements first behind more) = Part (in_statement first) then in_semicolon behind then in_block more
  in_block (returned _ given behind) = Part (Plain then in_return_value given) then in_semicolon behind

  pub in_statement : {in_loop : Bool} {ts rest : List Token} {s : LuaStatement} → IsStatement in_loop ts s rest → Nesting
  in_statement (local_statement _ _ given) = Plain then Plain then in_local_value given
  in_statement (of_name behind) = Plain then in_of_name behind
  in_statement (conditional _ test body arms) = Plain then in_expression test then in_then_block body then in_arms arms
  in_statement (while_statement _ test body _) = Plain then in_expression test then in_do_block body then Plain
  in_statement (repeat_statement _ body _ test) = Part (Opens then in_block body) then Plain then in_expression test
  in_statement (for_statement _ _ first _ last behind) = Plain then Plain then Plain then in_expression first then Plain then in_expression last then in_for_body behind
  in_statement (do_statement _ body _) = Part (Opens then in_block body) then Plain
  in_statement (break_statement _) = Plain

  pub in_then_block : {in_loop : Bool} {ts rest : List Token} {body : List LuaStatement} → IsThenBlock in_loop ts body rest → Nesting
  in_then_block (then_block _ body) = Part (Opens then in_block body)

  pub in_do_block : {ts rest : List Token} {body : List LuaStatement} → IsDoBlock ts body rest → Nesting
  in_do_block (do_block _ body) = Part (Opens then in_block body)

  pub in_arms : {in_loop : Bool} {ts rest : List Token} {arms : List Arm} {otherwise : Option LuaBlock} → AreArms in_loop ts arms otherwise rest → Nesting
  in_arms (elseif _ test body arms) = Plain then in_expression test then in_then_block body then in_arms arms
  in_arms (else_block _ body _) = Part (Opens then in_block body) then Plain
  in_arms (no_else _) = Plain

  pub in_for_body : {ts rest : List Token} {by : Option Expr} {body : List LuaStatement} → IsForBody ts by body rest → Nesting
  in_for_body (with_step _ by body _) = Plain then in_expression by then in_do_block body then Plain
  in_for_body (no_step _ body _) = Part (Opens then in_block body) then Plain

-- ---- the chunk

-- the closing bracket opens the block of the function
abbrev mutual
  pub in_parameters : {ts rest : List Token} {names : List (List ℕ)} → AreParameters ts names rest → Nesting
  in_parameters (no_parameters _) = Opens
  in_parameters (parameters _ more) = Plain then in_more_parameters more

  pub in_more_parameters : {ts rest : List Token} {names : List (List ℕ)} → AreMoreParameters ts names rest → Nesting
  in_more_parameters (last_parameter _) = Opens
  in_more_parameters (another_parameter _ _ more) = Plain then Plain then in_more_parameters more

-- each definition is a part, with nothing open around it
abbrev pub in_items : {ts rest : List Token} {items : List Item} → AreItems ts items rest → Nesting
in_items (no_items _) = Plain
in_items (function _ _ _ names body _ behind more) =
    Plain then Plain then Plain then Part (in_parameters names then in_block body) then Plain then in_semicolon behind then in_items more
in_items (assignment _ _ a behind more) = Part (Plain then Plain then in_expression a) then in_semicolon behind then in_items more

-- of each token of a chunk, how many are open with it, where it opens one
abbrev pub opened_by : {tokens : List Token} {items : List Item} → IsChunkOf tokens items → List (Option ℕ)
opened_by chunk = open_with 0 (in_items chunk)
