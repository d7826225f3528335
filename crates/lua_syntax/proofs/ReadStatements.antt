-- Each statement and each chunk of the grammar is read.
use Rattle.std.proofs.Common.{◌≡◌, ℕ, ◌+◌, Bool, false, List, [], ◌∷◌, ◌++◌, refl, ap, ◌∙◌, sym, subst, append_assoc}
use Rattle.std.specs.Prelude.{if◌then◌else◌, Option, Some, None}
use Rattle.lua_tree.specs.declared.tree.Item.{Item}
use Rattle.lua_tree.specs.declared.tree.Item.TheVariants as item
use Rattle.lua_tree.specs.declared.tree.Arm.{Arm, roll-Arm}
use Rattle.lua_tree.specs.declared.tree.Expr.{Expr}
use Rattle.lua_tree.specs.declared.tree.LuaBlock.{LuaBlock}
use Rattle.lua_tree.specs.declared.tree.LuaStatement.{LuaStatement}
use Rattle.lua_tree.specs.declared.tree.LuaStatement.TheVariants as statement
use Rattle.lua_tokens.specs.declared.kind.Kind.{Kind}
use Rattle.lua_tokens.specs.declared.kind.Kind.TheVariants as k
use Rattle.lua_tokens.specs.declared.kind.Role.{Role}
use Rattle.lua_tokens.specs.declared.pieces.Token.{Token}
use Rattle.lua_grammar.specs.declared.symbol.Mark.TheVariants as m
use Rattle.lua_grammar.specs.declared.symbol.Action.TheVariants as a
use Rattle.lua_grammar.specs.declared.symbol.Symbol.{Symbol}
use Rattle.lua_grammar.specs.declared.symbol.Symbol.TheVariants as s
use Rattle.lua_grammar.specs.declared.symbol.Row.TheVariants.{Begins, Passes}
use Rattle.lua_grammar.specs.Table as table
use Rattle.lua_grammar.specs.Table.{row, begins_expression}
use Rattle.lua_grammar.specs.Grammar as f
use Rattle.lua_grammar.specs.Grammar.{token, Is, is, IsName, name, Without, without, block_of, is_semicolon, is_assign, is_suffix, begins_statement, IsExpression, IsSemicolon, IsOfName, IsOfDot, IsOfMember, IsOfIndex, IsOfCall, IsLocalValue, IsReturnValue, IsBlock, IsStatement, IsThenBlock, IsDoBlock, AreArms, IsForBody, AreParameters, AreMoreParameters, AreItems, IsChunkOf}
use Rattle.lua_grammar.specs.Nesting as nest
use Rattle.lua_syntax.specs.declared.building.Building.{Building}
use Rattle.lua_syntax.specs.Building.{act, act_expression, act_list, act_statement, act_block, act_item, at_end, nothing_read}
use Rattle.lua_syntax.proofs.TokensRead.{Reads, ended, takes, opens, ends, onto, made}
use Rattle.lua_syntax.proofs.Meaning.{extend, extend_is, end_nil}
use Rattle.lua_syntax.proofs.ReadExpressions.{Behind, return_begins, arguments_from, read_expression, read_arguments}

-- ---- symbols that end before a token

semicolon_ends : (opened line : ℕ) (kind : Kind) → is_semicolon kind ≡ false → row s.Semicolon opened kind line ≡ Passes a.Nothing
unfolding row
semicolon_ends opened line k.Semicolon isnt = absurd (cc)
semicolon_ends opened line _ isnt = refl

local_ends : (opened line : ℕ) (kind : Kind) → is_assign kind ≡ false → row s.LocalValue opened kind line ≡ Passes a.LocalWithout
unfolding row
local_ends opened line k.Assign isnt = absurd (cc)
local_ends opened line _ isnt = refl

return_ends : (opened line : ℕ) (kind : Kind) → begins_expression kind ≡ false → row s.ReturnValue opened kind line ≡ Passes a.ReturnWithout
unfolding row
return_ends opened line kind isnt = ap (λ (t : Bool). if t then Begins (s.Operators 1 ∷ s.Make a.ReturnWith ∷ []) else Passes a.ReturnWithout) isnt

call_ends : (opened line : ℕ) (kind : Kind) → is_suffix kind ≡ false → row s.TargetCall opened kind line ≡ Passes a.CallStatement
unfolding row
call_ends opened line k.Dot isnt = absurd (cc)
call_ends opened line k.LeftBracket isnt = absurd (cc)
call_ends opened line _ isnt = refl

block_ends : (in_loop : Bool) (opened line : ℕ) (kind : Kind) → begins_statement kind ≡ false → row (s.Block in_loop) opened kind line ≡ Passes a.Nothing
unfolding row
block_ends in_loop opened line k.Local isnt = absurd (cc)
block_ends in_loop opened line (k.Name role) isnt = absurd (cc)
block_ends in_loop opened line k.If isnt = absurd (cc)
block_ends in_loop opened line k.While isnt = absurd (cc)
block_ends in_loop opened line k.Repeat isnt = absurd (cc)
block_ends in_loop opened line k.For isnt = absurd (cc)
block_ends in_loop opened line k.Do isnt = absurd (cc)
block_ends in_loop opened line k.Break isnt = absurd (cc)
block_ends in_loop opened line k.Return isnt = absurd (cc)
block_ends in_loop opened line _ isnt = refl

-- ---- statements that begin with a name

mutual
  unfolding row act act_expression act_list act_statement act_block act_item

  pub read_of_name : {role : Role} {line : ℕ} {text : List ℕ} {ts rest : List Token} {x : LuaStatement} (d : IsOfName role line text ts x rest) (stack : List Symbol) (b : Building) (texts : List (List ℕ)) (on : Behind) (items : List Item) →
      ((n : ℕ) → Reads stack (record b { texts = texts; blocks = at_end x b.blocks; opened = n }) rest (on n) items) →
      Reads (s.Target role line ∷ stack) (record b { texts = text ∷ texts }) ts (onto (nest.in_of_name d) on b.opened) items
  read_of_name {text = text} (f.assign_name is it) stack b texts on items next =
      takes _ _ _ _ _ _ _ _ refl (read_expression it s.Expression (s.Make a.Assign ∷ stack) [] (record b { texts = text ∷ texts }) on items (λ l. refl) (λ n. made a.Assign _ _ _ _ _ (next n)))
  read_of_name {line = line} {text = text} (f.call_name is args behind) stack b texts on items next =
      opens _ _ _ _ _ _ _ _ refl (made a.StartArguments _ _ _ _ _
      (read_arguments args (s.Make (a.Call line) ∷ s.TargetCall ∷ stack) (record b { texts = text ∷ texts; opened = b.opened + 1; lists = [] ∷ b.lists }) _ items
      (λ n. arguments_from _ _ (record b { texts = text ∷ texts; opened = n }) _ _ _ (made (a.Call line) _ _ _ _ _ (read_of_call behind stack (record b { texts = texts; opened = n }) b.exprs on items next)))))
  read_of_name (f.member_name behind) stack b texts on items next =
      opens _ _ _ _ _ _ _ _ refl (made a.Name _ _ _ _ _ (read_of_dot behind stack (record b { texts = texts; opened = b.opened + 1 }) b.exprs on items next))
  read_of_name (f.index_name {index_line = at} key is behind) stack b texts on items next =
      opens _ _ _ _ _ _ _ _ refl (made a.Name _ _ _ _ _
      (read_expression key s.Key (s.TargetIndex at ∷ stack) (s.Token m.RightBracket ∷ s.Make (a.Restore (b.opened + 1)) ∷ []) (record b { texts = texts; exprs = _ ∷ b.exprs; opened = b.opened + 1 }) _ items (λ l. refl)
      (λ n. takes _ _ _ _ _ _ _ _ refl (made (a.Restore (b.opened + 1)) _ _ _ _ _ (read_of_index behind stack (record b { texts = texts; opened = b.opened + 1 }) b.exprs on items next)))))

  pub read_of_dot : {role : Role} {line : ℕ} {of : Expr} {ts rest : List Token} {x : LuaStatement} (d : IsOfDot role line of ts x rest) (stack : List Symbol) (b : Building) (exprs : List Expr) (on : Behind) (items : List Item) →
      ((n : ℕ) → Reads stack (record b { exprs = exprs; blocks = at_end x b.blocks; opened = n }) rest (on n) items) →
      Reads (s.MemberTarget role line ∷ stack) (record b { exprs = of ∷ exprs }) ts (onto (nest.in_of_dot d) on b.opened) items
  read_of_dot (f.dot behind) stack b exprs on items next = takes _ _ _ _ _ _ _ _ refl (read_of_member behind stack b b.texts exprs on items next)

  pub read_of_member : {role : Role} {dot_line line : ℕ} {of : Expr} {text : List ℕ} {ts rest : List Token} {x : LuaStatement} (d : IsOfMember role dot_line line of text ts x rest) (stack : List Symbol) (b : Building) (texts : List (List ℕ)) (exprs : List Expr) (on : Behind) (items : List Item) →
      ((n : ℕ) → Reads stack (record b { texts = texts; exprs = exprs; blocks = at_end x b.blocks; opened = n }) rest (on n) items) →
      Reads (s.TargetMember role dot_line line ∷ stack) (record b { texts = text ∷ texts; exprs = of ∷ exprs }) ts (onto (nest.in_of_member d) on b.opened) items
  read_of_member {dot_line = dot_line} {of = of} {text = text} (f.assign_member is it) stack b texts exprs on items next =
      takes _ _ _ _ _ _ _ _ refl (read_expression it s.Expression (s.Make (a.SetMember dot_line) ∷ stack) [] (record b { texts = text ∷ texts; exprs = of ∷ exprs }) on items (λ l. refl) (λ n. made (a.SetMember dot_line) _ _ _ _ _ (next n)))
  read_of_member {dot_line = dot_line} (f.member_member behind) stack b texts exprs on items next =
      opens _ _ _ _ _ _ _ _ refl (made (a.Member dot_line) _ _ _ _ _ (read_of_dot behind stack (record b { texts = texts; opened = b.opened + 1 }) exprs on items next))
  read_of_member {dot_line = dot_line} (f.index_member {index_line = at} key is behind) stack b texts exprs on items next =
      opens _ _ _ _ _ _ _ _ refl (made (a.Member dot_line) _ _ _ _ _
      (read_expression key s.Key (s.TargetIndex at ∷ stack) (s.Token m.RightBracket ∷ s.Make (a.Restore (b.opened + 1)) ∷ []) (record b { texts = texts; exprs = _ ∷ exprs; opened = b.opened + 1 }) _ items (λ l. refl)
      (λ n. takes _ _ _ _ _ _ _ _ refl (made (a.Restore (b.opened + 1)) _ _ _ _ _ (read_of_index behind stack (record b { texts = texts; opened = b.opened + 1 }) exprs on items next)))))
  read_of_member {line = line} {of = of} {text = text} (f.call_math is args behind) stack b texts exprs on items next =
      opens _ _ _ _ _ _ _ _ refl (made a.StartArguments _ _ _ _ _
      (read_arguments args (s.Make (a.MathCall line) ∷ s.TargetCall ∷ stack) (record b { texts = text ∷ texts; exprs = of ∷ exprs; opened = b.opened + 1; lists = [] ∷ b.lists }) _ items
      (λ n. arguments_from _ _ (record b { texts = text ∷ texts; exprs = of ∷ exprs; opened = n }) _ _ _ (made (a.MathCall line) _ _ _ _ _ (read_of_call behind stack (record b { texts = texts; opened = n }) exprs on items next)))))
  read_of_member {line = line} {of = of} {text = text} (f.call_table is args behind) stack b texts exprs on items next =
      opens _ _ _ _ _ _ _ _ refl (made a.StartArguments _ _ _ _ _
      (read_arguments args (s.Make (a.TableCall line) ∷ s.TargetCall ∷ stack) (record b { texts = text ∷ texts; exprs = of ∷ exprs; opened = b.opened + 1; lists = [] ∷ b.lists }) _ items
      (λ n. arguments_from _ _ (record b { texts = text ∷ texts; exprs = of ∷ exprs; opened = n }) _ _ _ (made (a.TableCall line) _ _ _ _ _ (read_of_call behind stack (record b { texts = texts; opened = n }) exprs on items next)))))

  pub read_of_index : {line : ℕ} {of key : Expr} {ts rest : List Token} {x : LuaStatement} (d : IsOfIndex line of key ts x rest) (stack : List Symbol) (b : Building) (exprs : List Expr) (on : Behind) (items : List Item) →
      ((n : ℕ) → Reads stack (record b { exprs = exprs; blocks = at_end x b.blocks; opened = n }) rest (on n) items) →
      Reads (s.TargetIndex line ∷ stack) (record b { exprs = key ∷ of ∷ exprs }) ts (onto (nest.in_of_index d) on b.opened) items
  read_of_index {line = line} {of = of} {key = key} (f.assign_index is it) stack b exprs on items next =
      takes _ _ _ _ _ _ _ _ refl (read_expression it s.Expression (s.Make (a.SetIndex line) ∷ stack) [] (record b { exprs = key ∷ of ∷ exprs }) on items (λ l. refl) (λ n. made (a.SetIndex line) _ _ _ _ _ (next n)))
  read_of_index {line = line} (f.member_index behind) stack b exprs on items next =
      opens _ _ _ _ _ _ _ _ refl (made (a.Index line) _ _ _ _ _ (read_of_dot behind stack (record b { opened = b.opened + 1 }) exprs on items next))
  read_of_index {line = line} (f.index_index {next_line = at} next_key is behind) stack b exprs on items next =
      opens _ _ _ _ _ _ _ _ refl (made (a.Index line) _ _ _ _ _
      (read_expression next_key s.Key (s.TargetIndex at ∷ stack) (s.Token m.RightBracket ∷ s.Make (a.Restore (b.opened + 1)) ∷ []) (record b { exprs = _ ∷ exprs; opened = b.opened + 1 }) _ items (λ l. refl)
      (λ n. takes _ _ _ _ _ _ _ _ refl (made (a.Restore (b.opened + 1)) _ _ _ _ _ (read_of_index behind stack (record b { opened = b.opened + 1 }) exprs on items next)))))

  pub read_of_call : {of : Expr} {ts rest : List Token} {x : LuaStatement} (d : IsOfCall of ts x rest) (stack : List Symbol) (b : Building) (exprs : List Expr) (on : Behind) (items : List Item) →
      ((n : ℕ) → Reads stack (record b { exprs = exprs; blocks = at_end x b.blocks; opened = n }) rest (on n) items) →
      Reads (s.TargetCall ∷ stack) (record b { exprs = of ∷ exprs }) ts (onto (nest.in_of_call d) on b.opened) items
  read_of_call (f.call_alone (without {first = first} isnt)) stack b exprs on items next = ends _ _ _ _ _ _ _ _ (call_ends b.opened first.line first.kind isnt) (next b.opened)
  read_of_call (f.member_call behind) stack b exprs on items next = opens _ _ _ _ _ _ _ _ refl (read_of_dot behind stack (record b { opened = b.opened + 1 }) exprs on items next)
  read_of_call {of = of} (f.index_call {line = at} key is behind) stack b exprs on items next =
      opens _ _ _ _ _ _ _ _ refl
      (read_expression key s.Key (s.TargetIndex at ∷ stack) (s.Token m.RightBracket ∷ s.Make (a.Restore (b.opened + 1)) ∷ []) (record b { exprs = of ∷ exprs; opened = b.opened + 1 }) _ items (λ l. refl)
      (λ n. takes _ _ _ _ _ _ _ _ refl (made (a.Restore (b.opened + 1)) _ _ _ _ _ (read_of_index behind stack (record b { opened = b.opened + 1 }) exprs on items next))))

-- ---- blocks

read_semicolon : {ts rest : List Token} (d : IsSemicolon ts rest) (stack : List Symbol) (b : Building) (on : Behind) (items : List Item) →
    Reads stack b rest (on b.opened) items → Reads (s.Semicolon ∷ stack) b ts (onto (nest.in_semicolon d) on b.opened) items
unfolding row act act_expression act_list act_statement act_block act_item
read_semicolon (f.present is) stack b on items next = takes _ _ _ _ _ _ _ _ refl next
read_semicolon (f.absent (without {first = first} isnt)) stack b on items next = ends _ _ _ _ _ _ _ _ (semicolon_ends b.opened first.line first.kind isnt) next

read_local_value : {ts rest : List Token} {value : Option Expr} (d : IsLocalValue ts value rest) (stack : List Symbol) (b : Building) (text : List ℕ) (texts : List (List ℕ)) (on : Behind) (items : List Item) →
    ((n : ℕ) → Reads stack (record b { texts = texts; blocks = at_end (statement.Local text value) b.blocks; opened = n }) rest (on n) items) →
    Reads (s.LocalValue ∷ stack) (record b { texts = text ∷ texts }) ts (onto (nest.in_local_value d) on b.opened) items
unfolding row act act_expression act_list act_statement act_block act_item
read_local_value (f.local_value is it) stack b text texts on items next =
    takes _ _ _ _ _ _ _ _ refl (read_expression it s.Expression (s.Make a.LocalWith ∷ stack) [] (record b { texts = text ∷ texts }) on items (λ l. refl) (λ n. made a.LocalWith _ _ _ _ _ (next n)))
read_local_value (f.no_local_value (without {first = first} isnt)) stack b text texts on items next = ends _ _ _ _ _ _ _ _ (local_ends b.opened first.line first.kind isnt) (next b.opened)

read_return_value : {ts rest : List Token} {value : Option Expr} (d : IsReturnValue ts value rest) (stack : List Symbol) (b : Building) (on : Behind) (items : List Item) →
    ((n : ℕ) → Reads stack (record b { blocks = at_end (statement.Return value) b.blocks; opened = n }) rest (on n) items) →
    Reads (s.ReturnValue ∷ stack) b ts (onto (nest.in_return_value d) on b.opened) items
unfolding row act act_expression act_list act_statement act_block act_item
read_return_value (f.return_value it) stack b on items next = read_expression it s.ReturnValue stack (s.Make a.ReturnWith ∷ []) b on items (return_begins it b.opened) (λ n. made a.ReturnWith _ _ _ _ _ (next n))
read_return_value (f.no_return_value (without {first = first} isnt)) stack b on items next = ends _ _ _ _ _ _ _ _ (return_ends b.opened first.line first.kind isnt) (next b.opened)

-- a block whose statements are in, and the arms of an `if`
block_from : (body : List LuaStatement) (stack : List Symbol) (b : Building) (ts : List Token) (depths : List (Option ℕ)) (items : List Item) →
    Reads stack (record b { blocks = body ∷ b.blocks }) ts depths items → Reads stack (record b { blocks = extend body ([] ∷ b.blocks) }) ts depths items
block_from body stack b ts depths items h = subst (λ (blocks : List (List LuaStatement)). Reads stack (record b { blocks = blocks }) ts depths items) (sym (extend_is body [] b.blocks)) h

mutual
  unfolding row act act_expression act_list act_statement act_block act_item

  pub read_block : {in_loop : Bool} {ts rest : List Token} {body : List LuaStatement} (d : IsBlock in_loop ts body rest) (stack : List Symbol) (b : Building) (on : Behind) (items : List Item) →
      ((n : ℕ) → Reads stack (record b { blocks = extend body b.blocks; opened = n }) rest (on n) items) → Reads (s.Block in_loop ∷ stack) b ts (onto (nest.in_block d) on b.opened) items
  read_block {in_loop = in_loop} (f.no_statements (without {first = first} isnt)) stack b on items next = ends _ _ _ _ _ _ _ _ (block_ends in_loop b.opened first.line first.kind isnt) (next b.opened)
  read_block {in_loop = in_loop} (f.statements {s = one} first behind more) stack b on items next =
      read_statement first stack b _ items (λ n. made (a.Restore b.opened) _ _ _ _ _
      (read_semicolon behind (s.Block in_loop ∷ stack) (record b { blocks = at_end one b.blocks }) _ items (read_block more stack (record b { blocks = at_end one b.blocks }) on items next)))
  read_block (f.returned {value = value} is given behind) stack b on items next =
      takes _ _ _ _ _ _ _ _ refl (read_return_value given (s.Make (a.Restore b.opened) ∷ s.Semicolon ∷ stack) b _ items (λ n. made (a.Restore b.opened) _ _ _ _ _
      (read_semicolon behind stack (record b { blocks = at_end (statement.Return value) b.blocks }) _ items (next b.opened))))

  pub read_statement : {in_loop : Bool} {ts rest : List Token} {x : LuaStatement} (d : IsStatement in_loop ts x rest) (stack : List Symbol) (b : Building) (on : Behind) (items : List Item) →
      ((n : ℕ) → Reads (s.Make (a.Restore b.opened) ∷ s.Semicolon ∷ s.Block in_loop ∷ stack) (record b { blocks = at_end x b.blocks; opened = n }) rest (on n) items) →
      Reads (s.Block in_loop ∷ stack) b ts (onto (nest.in_statement d) on b.opened) items
  read_statement (f.local_statement is name given) stack b on items next =
      takes _ _ _ _ _ _ _ _ refl (takes _ _ _ _ _ _ _ _ refl (read_local_value given _ b _ b.texts on items next))
  read_statement (f.of_name behind) stack b on items next = takes _ _ _ _ _ _ _ _ refl (read_of_name behind _ b b.texts on items next)
  read_statement {in_loop = in_loop} (f.conditional {test = test} {body = body} is it then_part arms) stack b on items next =
      takes _ _ _ _ _ _ _ _ refl (made a.StartArms _ _ _ _ _
      (read_expression it s.Expression (s.ThenBlock in_loop ∷ s.Make a.AddArm ∷ s.Arms in_loop ∷ (table.and_on b.opened in_loop ++ stack)) [] (record b { arms = [] ∷ b.arms }) _ items (λ l. refl)
      (λ n1. read_then_block then_part (s.Make a.AddArm ∷ s.Arms in_loop ∷ (table.and_on b.opened in_loop ++ stack)) (record b { arms = [] ∷ b.arms; exprs = test ∷ b.exprs; opened = n1 }) _ items
      (made a.AddArm _ _ _ _ _ (read_arms arms (table.and_on b.opened in_loop ++ stack) (record b { opened = n1 }) (roll-Arm (record { test = test; body = block_of body }) ∷ []) b.arms on items next)))))
  read_statement {in_loop = in_loop} (f.while_statement {test = test} is it body is) stack b on items next =
      takes _ _ _ _ _ _ _ _ refl (read_expression it s.Expression (s.DoBlock ∷ s.Token m.End ∷ s.Make a.While ∷ (table.and_on b.opened in_loop ++ stack)) [] b _ items (λ l. refl)
      (λ n1. read_do_block body (s.Token m.End ∷ s.Make a.While ∷ (table.and_on b.opened in_loop ++ stack)) (record b { exprs = test ∷ b.exprs; opened = n1 }) _ items
      (takes _ _ _ _ _ _ _ _ refl (made a.While _ _ _ _ _ (next n1)))))
  read_statement {in_loop = in_loop} (f.repeat_statement {body = body} is inner is it) stack b on items next =
      opens _ _ _ _ _ _ _ _ refl (made a.StartBlock _ _ _ _ _
      (read_block inner (s.Make (a.Restore b.opened) ∷ s.Token m.Until ∷ s.Expression ∷ s.Make a.Repeat ∷ (table.and_on b.opened in_loop ++ stack)) (record b { blocks = [] ∷ b.blocks; opened = b.opened + 1 }) _ items
      (λ n1. block_from body _ (record b { opened = n1 }) _ _ _ (made (a.Restore b.opened) _ _ _ _ _ (takes _ _ _ _ _ _ _ _ refl
      (read_expression it s.Expression (s.Make a.Repeat ∷ (table.and_on b.opened in_loop ++ stack)) [] (record b { blocks = body ∷ b.blocks }) on items (λ l. refl) (λ n2. made a.Repeat _ _ _ _ _ (next n2))))))))
  read_statement {in_loop = in_loop} (f.for_statement {line = line} {text = text} {first = first} name is it is a2 behind) stack b on items next =
      takes _ _ _ _ _ _ _ _ refl (takes _ _ _ _ _ _ _ _ refl (takes _ _ _ _ _ _ _ _ refl
      (read_expression it s.Expression (s.Token m.Comma ∷ s.Expression ∷ s.ForStep line ∷ (table.and_on b.opened in_loop ++ stack)) [] (record b { texts = text ∷ b.texts }) _ items (λ l. refl)
      (λ n1. takes _ _ _ _ _ _ _ _ refl
      (read_expression a2 s.Expression (s.ForStep line ∷ (table.and_on b.opened in_loop ++ stack)) [] (record b { texts = text ∷ b.texts; exprs = first ∷ b.exprs; opened = n1 }) _ items (λ l. refl)
      (λ n2. read_for_body behind line text first _ b.texts b.exprs (table.and_on b.opened in_loop ++ stack) (record b { opened = n2 }) on items next))))))
  read_statement {in_loop = in_loop} (f.do_statement {body = body} is inner is) stack b on items next =
      opens _ _ _ _ _ _ _ _ refl (made a.StartBlock _ _ _ _ _
      (read_block inner (s.Make (a.Restore b.opened) ∷ s.Token m.End ∷ s.Make a.Do ∷ (table.and_on b.opened in_loop ++ stack)) (record b { blocks = [] ∷ b.blocks; opened = b.opened + 1 }) _ items
      (λ n1. block_from body _ (record b { opened = n1 }) _ _ _ (made (a.Restore b.opened) _ _ _ _ _ (takes _ _ _ _ _ _ _ _ refl (made a.Do _ _ _ _ _ (next b.opened)))))))
  read_statement (f.break_statement is) stack b on items next = takes _ _ _ _ _ _ _ _ refl (made a.Break _ _ _ _ _ (next b.opened))

  pub read_then_block : {in_loop : Bool} {ts rest : List Token} {body : List LuaStatement} (d : IsThenBlock in_loop ts body rest) (stack : List Symbol) (b : Building) (on : Behind) (items : List Item) →
      Reads stack (record b { blocks = body ∷ b.blocks }) rest (on b.opened) items → Reads (s.ThenBlock in_loop ∷ stack) b ts (onto (nest.in_then_block d) on b.opened) items
  read_then_block {body = body} (f.then_block is inner) stack b on items next =
      opens _ _ _ _ _ _ _ _ refl (made a.StartBlock _ _ _ _ _ (read_block inner (s.Make (a.Restore b.opened) ∷ stack) (record b { blocks = [] ∷ b.blocks; opened = b.opened + 1 }) _ items
      (λ n1. block_from body _ (record b { opened = n1 }) _ _ _ (made (a.Restore b.opened) _ _ _ _ _ next))))

  pub read_do_block : {ts rest : List Token} {body : List LuaStatement} (d : IsDoBlock ts body rest) (stack : List Symbol) (b : Building) (on : Behind) (items : List Item) →
      Reads stack (record b { blocks = body ∷ b.blocks }) rest (on b.opened) items → Reads (s.DoBlock ∷ stack) b ts (onto (nest.in_do_block d) on b.opened) items
  read_do_block {body = body} (f.do_block is inner) stack b on items next =
      opens _ _ _ _ _ _ _ _ refl (made a.StartBlock _ _ _ _ _ (read_block inner (s.Make (a.Restore b.opened) ∷ stack) (record b { blocks = [] ∷ b.blocks; opened = b.opened + 1 }) _ items
      (λ n1. block_from body _ (record b { opened = n1 }) _ _ _ (made (a.Restore b.opened) _ _ _ _ _ next))))

  pub read_arms : {in_loop : Bool} {ts rest : List Token} {arms : List Arm} {otherwise : Option LuaBlock} (d : AreArms in_loop ts arms otherwise rest) (stack : List Symbol) (b : Building) (before : List Arm) (others : List (List Arm)) (on : Behind) (items : List Item) →
      ((n : ℕ) → Reads stack (record b { arms = others; blocks = at_end (statement.If (before ++ arms) otherwise) b.blocks; opened = n }) rest (on n) items) →
      Reads (s.Arms in_loop ∷ stack) (record b { arms = before ∷ others }) ts (onto (nest.in_arms d) on b.opened) items
  read_arms {in_loop = in_loop} {rest = rest} {otherwise = otherwise} (f.elseif {test = test} {body = body} {arms = arms} is it then_part more) stack b before others on items next =
      takes _ _ _ _ _ _ _ _ refl (read_expression it s.Expression (s.ThenBlock in_loop ∷ s.Make a.AddArm ∷ s.Arms in_loop ∷ stack) [] (record b { arms = before ∷ others }) _ items (λ l. refl)
      (λ n1. read_then_block then_part (s.Make a.AddArm ∷ s.Arms in_loop ∷ stack) (record b { arms = before ∷ others; exprs = test ∷ b.exprs; opened = n1 }) _ items
      (made a.AddArm _ _ _ _ _ (read_arms more stack (record b { opened = n1 }) (before ++ roll-Arm (record { test = test; body = block_of body }) ∷ []) others on items
      (λ n2. subst (λ (all : List Arm). Reads stack (record b { arms = others; blocks = at_end (statement.If all otherwise) b.blocks; opened = n2 }) rest (on n2) items)
      (sym (append_assoc before (roll-Arm (record { test = test; body = block_of body }) ∷ []) arms)) (next n2))))))
  read_arms {in_loop = in_loop} {rest = rest} (f.else_block {body = body} is inner is) stack b before others on items next =
      opens _ _ _ _ _ _ _ _ refl (made a.StartBlock _ _ _ _ _
      (read_block inner (s.Make (a.Restore b.opened) ∷ s.Token m.End ∷ s.Make a.IfElse ∷ stack) (record b { arms = before ∷ others; blocks = [] ∷ b.blocks; opened = b.opened + 1 }) _ items
      (λ n1. block_from body _ (record b { arms = before ∷ others; opened = n1 }) _ _ _ (made (a.Restore b.opened) _ _ _ _ _ (takes _ _ _ _ _ _ _ _ refl (made a.IfElse _ _ _ _ _
      (subst (λ (all : List Arm). Reads stack (record b { arms = others; blocks = at_end (statement.If all (Some (block_of body))) b.blocks }) rest (on b.opened) items) (sym (end_nil before)) (next b.opened))))))))
  read_arms {rest = rest} (f.no_else is) stack b before others on items next =
      takes _ _ _ _ _ _ _ _ refl (made a.If _ _ _ _ _
      (subst (λ (all : List Arm). Reads stack (record b { arms = others; blocks = at_end (statement.If all None) b.blocks }) rest (on b.opened) items) (sym (end_nil before)) (next b.opened)))

  pub read_for_body : {ts rest : List Token} {by : Option Expr} {body : List LuaStatement} (d : IsForBody ts by body rest) (line : ℕ) (text : List ℕ) (first last : Expr) (texts : List (List ℕ)) (exprs : List Expr) (stack : List Symbol) (b : Building) (on : Behind) (items : List Item) →
      ((n : ℕ) → Reads stack (record b { texts = texts; exprs = exprs; blocks = at_end (statement.For text first last by (block_of body) line) b.blocks; opened = n }) rest (on n) items) →
      Reads (s.ForStep line ∷ stack) (record b { texts = text ∷ texts; exprs = last ∷ first ∷ exprs }) ts (onto (nest.in_for_body d) on b.opened) items
  read_for_body (f.with_step {a = by} is it body is) line text first last texts exprs stack b on items next =
      takes _ _ _ _ _ _ _ _ refl (read_expression it s.Expression (s.DoBlock ∷ s.Token m.End ∷ s.Make (a.ForStep line) ∷ stack) [] (record b { texts = text ∷ texts; exprs = last ∷ first ∷ exprs }) _ items (λ l. refl)
      (λ n1. read_do_block body (s.Token m.End ∷ s.Make (a.ForStep line) ∷ stack) (record b { texts = text ∷ texts; exprs = by ∷ last ∷ first ∷ exprs; opened = n1 }) _ items
      (takes _ _ _ _ _ _ _ _ refl (made (a.ForStep line) _ _ _ _ _ (next n1)))))
  read_for_body (f.no_step {body = body} is inner is) line text first last texts exprs stack b on items next =
      opens _ _ _ _ _ _ _ _ refl (made a.StartBlock _ _ _ _ _
      (read_block inner (s.Make (a.Restore b.opened) ∷ s.Token m.End ∷ s.Make (a.For line) ∷ stack) (record b { texts = text ∷ texts; exprs = last ∷ first ∷ exprs; blocks = [] ∷ b.blocks; opened = b.opened + 1 }) _ items
      (λ n1. block_from body _ (record b { texts = text ∷ texts; exprs = last ∷ first ∷ exprs; opened = n1 }) _ _ _ (made (a.Restore b.opened) _ _ _ _ _ (takes _ _ _ _ _ _ _ _ refl (made (a.For line) _ _ _ _ _ (next b.opened)))))))

-- ---- the chunk

-- the block of a function, whose first token is the closing bracket
function_block : {ts rest : List Token} {body : List LuaStatement} (d : IsBlock false ts body rest) (opened : ℕ) (stack : List Symbol) (b : Building) (on : Behind) (items : List Item) →
    Reads stack (record b { blocks = body ∷ b.blocks; opened = opened }) rest (on opened) items → Reads (table.a_block opened false [] ++ stack) b ts (onto (nest.in_block d) (λ inner. on opened) b.opened) items
unfolding row act act_expression act_list act_statement act_block act_item
function_block {body = body} d opened stack b on items next =
    made a.StartBlock _ _ _ _ _ (read_block d (s.Make (a.Restore opened) ∷ stack) (record b { blocks = [] ∷ b.blocks }) _ items
    (λ n1. block_from body _ (record b { opened = n1 }) _ _ _ (made (a.Restore opened) _ _ _ _ _ next)))

mutual
  unfolding row act act_expression act_list act_statement act_block act_item

  read_parameters : {ts inner rest : List Token} {names : List (List ℕ)} {body : List LuaStatement} (d : AreParameters ts names inner) (block : IsBlock false inner body rest) (before : List (List ℕ)) (stack : List Symbol) (b : Building) (on : Behind) (items : List Item) →
      Reads stack (record b { params = before ++ names; blocks = body ∷ b.blocks }) rest (on b.opened) items →
      Reads (s.Parameters ∷ stack) (record b { params = before }) ts (onto (nest.in_parameters d) (onto (nest.in_block block) (λ inner. on b.opened)) b.opened) items
  read_parameters {rest = rest} {body = body} (f.no_parameters is) block before stack b on items next =
      opens _ _ _ _ _ _ _ _ refl (function_block block b.opened stack (record b { params = before; opened = b.opened + 1 }) on items
      (subst (λ (all : List (List ℕ)). Reads stack (record b { params = all; blocks = body ∷ b.blocks }) rest (on b.opened) items) (sym (end_nil before)) next))
  read_parameters {rest = rest} {body = body} (f.parameters {text = text} {more = names} name more) block before stack b on items next =
      takes _ _ _ _ _ _ _ _ refl (made a.AddParameter _ _ _ _ _ (read_more_parameters more block (before ++ text ∷ []) stack b on items
      (subst (λ (all : List (List ℕ)). Reads stack (record b { params = all; blocks = body ∷ b.blocks }) rest (on b.opened) items) (sym (append_assoc before (text ∷ []) names)) next)))

  read_more_parameters : {ts inner rest : List Token} {names : List (List ℕ)} {body : List LuaStatement} (d : AreMoreParameters ts names inner) (block : IsBlock false inner body rest) (before : List (List ℕ)) (stack : List Symbol) (b : Building) (on : Behind) (items : List Item) →
      Reads stack (record b { params = before ++ names; blocks = body ∷ b.blocks }) rest (on b.opened) items →
      Reads (s.MoreParameters ∷ stack) (record b { params = before }) ts (onto (nest.in_more_parameters d) (onto (nest.in_block block) (λ inner. on b.opened)) b.opened) items
  read_more_parameters {rest = rest} {body = body} (f.last_parameter is) block before stack b on items next =
      opens _ _ _ _ _ _ _ _ refl (function_block block b.opened stack (record b { params = before; opened = b.opened + 1 }) on items
      (subst (λ (all : List (List ℕ)). Reads stack (record b { params = all; blocks = body ∷ b.blocks }) rest (on b.opened) items) (sym (end_nil before)) next))
  read_more_parameters {rest = rest} {body = body} (f.another_parameter {text = text} {more = names} is name more) block before stack b on items next =
      takes _ _ _ _ _ _ _ _ refl (takes _ _ _ _ _ _ _ _ refl (made a.AddParameter _ _ _ _ _ (read_more_parameters more block (before ++ text ∷ []) stack b on items
      (subst (λ (all : List (List ℕ)). Reads stack (record b { params = all; blocks = body ∷ b.blocks }) rest (on b.opened) items) (sym (append_assoc before (text ∷ []) names)) next))))

-- behind the last item stands nothing
read_items : {ts rest : List Token} {items : List Item} (d : AreItems ts items rest) (b : Building) (params : List (List ℕ)) (all : List Item) → rest ≡ [] → b.items ++ items ≡ all →
    Reads (s.Chunk ∷ []) (record b { params = params }) ts (onto (nest.in_items d) (λ inner. []) b.opened) all
unfolding row act act_expression act_list act_statement act_block act_item
read_items (f.no_items (is {line = line} {text = text})) b params all last same =
    subst (λ (more : List Token). Reads (s.Chunk ∷ []) (record b { params = params }) (token k.EndOfText line text ∷ more) (None ∷ []) all) (sym last)
    (subst (λ (found : List Item). Reads (s.Chunk ∷ []) (record b { params = params }) (token k.EndOfText line text ∷ []) (None ∷ []) found) (end_nil b.items ∙ same) (ended (record b { params = params }) line text))
read_items (f.function {text = text} {params = names} {body = body} {more = more_items} is name is names_in block is behind more) b params all last same =
    takes _ _ _ _ _ _ _ _ refl (takes _ _ _ _ _ _ _ _ refl (takes _ _ _ _ _ _ _ _ refl (made a.StartParameters _ _ _ _ _
    (read_parameters names_in block [] (s.Token m.End ∷ s.Make a.Function ∷ s.Semicolon ∷ s.Chunk ∷ []) (record b { texts = text ∷ b.texts }) (λ n. None ∷ onto (nest.in_semicolon behind) (onto (nest.in_items more) (λ inner. [])) n) all
    (takes _ _ _ _ _ _ _ _ refl (made a.Function _ _ _ _ _
    (read_semicolon behind (s.Chunk ∷ []) (record b { params = []; items = b.items ++ item.Function text names (block_of body) ∷ [] }) (onto (nest.in_items more) (λ inner. [])) all
    (read_items more (record b { items = b.items ++ item.Function text names (block_of body) ∷ [] }) [] all last
    (append_assoc b.items (item.Function text names (block_of body) ∷ []) more_items ∙ same)))))))))
read_items (f.assignment {text = text} {a = x} {more = more_items} name is value behind more) b params all last same =
    takes _ _ _ _ _ _ _ _ refl (takes _ _ _ _ _ _ _ _ refl (read_expression value s.Expression (s.Make a.Assignment ∷ s.Make (a.Restore b.opened) ∷ s.Semicolon ∷ s.Chunk ∷ []) [] (record b { params = params; texts = text ∷ b.texts }) _ all (λ l. refl)
    (λ n. made a.Assignment _ _ _ _ _ (made (a.Restore b.opened) _ _ _ _ _
    (read_semicolon behind (s.Chunk ∷ []) (record b { params = params; items = b.items ++ item.Assign text x ∷ [] }) (onto (nest.in_items more) (λ inner. [])) all
    (read_items more (record b { items = b.items ++ item.Assign text x ∷ [] }) params all last
    (append_assoc b.items (item.Assign text x ∷ []) more_items ∙ same)))))))

-- a chunk is read from the start
pub read_chunk : {tokens : List Token} {items : List Item} (d : IsChunkOf tokens items) → Reads (s.Chunk ∷ []) nothing_read tokens (onto (nest.in_items d) (λ inner. []) 0) items
read_chunk d = read_items d nothing_read [] _ refl refl
