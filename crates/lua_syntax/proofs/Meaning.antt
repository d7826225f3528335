-- What a stack that is read stands for, by the forms of the grammar: row by row.
use Rattle.std.proofs.Common.{◌≡◌, ℕ, Bool, true, false, List, [], ◌∷◌, ◌++◌, refl, ap, ◌∙◌, sym, subst, append_assoc}
use Rattle.std.specs.Prelude.{if◌then◌else◌, nat_le, Option, Some, None}
use Rattle.lua_tree.specs.declared.tree.UnaryOp.TheVariants as unary
use Rattle.lua_tree.specs.declared.tree.BinaryOp.{BinaryOp}
use Rattle.lua_tree.specs.declared.tree.BinaryOp.TheVariants as binary
use Rattle.lua_tree.specs.declared.tree.Item.{Item}
use Rattle.lua_tree.specs.declared.tree.Item.TheVariants as item
use Rattle.lua_tree.specs.declared.tree.Expr.{Expr}
use Rattle.lua_tree.specs.declared.tree.Expr.TheVariants as e
use Rattle.lua_tree.specs.declared.tree.Entry.{Entry}
use Rattle.lua_tree.specs.declared.tree.Entry.TheVariants as entry
use Rattle.lua_tree.specs.declared.tree.LuaStatement.{LuaStatement}
use Rattle.lua_tree.specs.declared.tree.LuaStatement.TheVariants as statement
use Rattle.lua_tree.specs.declared.tree.LuaBlock.{LuaBlock}
use Rattle.lua_tree.specs.declared.tree.Arm.{Arm, roll-Arm}
use Rattle.lua_tokens.specs.declared.kind.Kind.{Kind}
use Rattle.lua_tokens.specs.declared.kind.Kind.TheVariants as k
use Rattle.lua_tokens.specs.declared.kind.Role.{Role}
use Rattle.lua_tokens.specs.declared.kind.Role.TheVariants.{Plain, Math, Table}
use Rattle.lua_grammar.specs.declared.symbol.Mark.{Mark}
use Rattle.lua_grammar.specs.declared.symbol.Mark.TheVariants as m
use Rattle.lua_grammar.specs.declared.symbol.Action.TheVariants as a
use Rattle.lua_grammar.specs.declared.symbol.Symbol.{Symbol}
use Rattle.lua_grammar.specs.declared.symbol.Symbol.TheVariants as s
use Rattle.lua_grammar.specs.declared.symbol.Row.{Row}
use Rattle.lua_grammar.specs.declared.symbol.Row.TheVariants.{Takes, Opens, Begins, Passes, Refuses}
use Rattle.lua_syntax.specs.declared.building.Building.{Building}
use Rattle.lua_tokens.specs.declared.pieces.Token.{Token}
use Rattle.lua_syntax.specs.Stacks.{top, below}
use Rattle.lua_grammar.specs.Table as table
use Rattle.lua_grammar.specs.Table.{row, operand_row, most_open, level, right_level, binary_of}
use Rattle.lua_syntax.specs.Building.{act, act_expression, act_list, act_statement, act_block, act_item, at_end}
use Rattle.lua_syntax.proofs.Derivation.{with_one_more}
use Rattle.lua_syntax.specs.Reading.{keeps_text, opened}
use Rattle.lua_grammar.specs.Grammar as f
use Rattle.lua_grammar.specs.Grammar.{token, Is, is, IsName, name, Without, without, block_of, IsSemicolon, IsExpression, IsOperations, IsOperand, IsNamed, IsLibrarys, IsFunction, AreSuffixes, AreArguments, AreMoreArguments, AreEntries, AreMoreEntries, IsEntry, IsOfName, IsOfDot, IsOfMember, IsOfIndex, IsOfCall, IsLocalValue, IsReturnValue, IsBlock, IsStatement, IsThenBlock, IsDoBlock, AreArms, IsForBody, AreParameters, AreMoreParameters, AreItems}

-- several at the end of the list that is being read
abbrev pub extend : {T : Type 0} → List T → List (List T) → List (List T)
extend [] lists = lists
extend (first ∷ more) lists = extend more (at_end first lists)

-- what holds of the newest expression and the others
abbrev pub OnTop : List Expr → (Expr → List Expr → Type 0) → Type 0
OnTop [] holds = Unit {0}
OnTop (first ∷ others) holds = holds first others

-- what holds of a library
abbrev pub OnLibrary : Role → Type 0 → Type 0
OnLibrary Plain holds = Unit {0}
OnLibrary _ holds = holds

-- the tokens are what a stack stands for, with these parts before them, and give these items
abbrev pub Means : List Symbol → Building → List Token → List Item → Type 0
Means [] b tokens final = (tokens ≡ []) × (b.items ≡ final)
Means (s.Chunk ∷ stack) b tokens final = (items all : List Item) × (names : List (List ℕ)) × (n : ℕ) × (rest : List Token) × AreItems tokens items rest × (all ≡ b.items ++ items) × Means stack (record b { items = all; params = names; opened = n }) rest final
Means ((s.Token m.Name) ∷ stack) b tokens final = (text : List ℕ) × (rest : List Token) × IsName tokens text rest × Means stack (record b { texts = text ∷ b.texts }) rest final
Means ((s.Token m.Assign) ∷ stack) b tokens final = (rest : List Token) × Is k.Assign tokens rest × Means stack b rest final
Means ((s.Token m.Comma) ∷ stack) b tokens final = (rest : List Token) × Is k.Comma tokens rest × Means stack b rest final
Means ((s.Token m.End) ∷ stack) b tokens final = (rest : List Token) × Is k.End tokens rest × Means stack b rest final
Means ((s.Token m.Until) ∷ stack) b tokens final = (rest : List Token) × Is k.Until tokens rest × Means stack b rest final
Means ((s.Token m.LeftParen) ∷ stack) b tokens final = (rest : List Token) × Is k.LeftParen tokens rest × Means stack b rest final
Means ((s.Token m.RightParen) ∷ stack) b tokens final = (rest : List Token) × Is k.RightParen tokens rest × Means stack b rest final
Means ((s.Token m.RightBracket) ∷ stack) b tokens final = (rest : List Token) × Is k.RightBracket tokens rest × Means stack b rest final
Means (s.Semicolon ∷ stack) b tokens final = (rest : List Token) × IsSemicolon tokens rest × Means stack b rest final
Means (s.Parameters ∷ stack) b tokens final = (names all : List (List ℕ)) × (inner : List Token) × (body : List LuaStatement) × (n : ℕ) × (rest : List Token) × AreParameters tokens names inner × (all ≡ b.params ++ names) × IsBlock false inner body rest × Means stack (record b { params = all; blocks = body ∷ b.blocks; opened = n }) rest final
Means (s.MoreParameters ∷ stack) b tokens final = (names all : List (List ℕ)) × (inner : List Token) × (body : List LuaStatement) × (n : ℕ) × (rest : List Token) × AreMoreParameters tokens names inner × (all ≡ b.params ++ names) × IsBlock false inner body rest × Means stack (record b { params = all; blocks = body ∷ b.blocks; opened = n }) rest final
Means ((s.Block in_loop) ∷ stack) b tokens final = (body : List LuaStatement) × (n : ℕ) × (rest : List Token) × IsBlock in_loop tokens body rest × Means stack (record b { blocks = extend body b.blocks; opened = n }) rest final
Means (s.LocalValue ∷ stack) b tokens final = (value : Option Expr) × (n : ℕ) × (rest : List Token) × IsLocalValue tokens value rest × Means stack (record b { texts = below b.texts; blocks = at_end (statement.Local (top [] b.texts) value) b.blocks; opened = n }) rest final
Means (s.ReturnValue ∷ stack) b tokens final = (value : Option Expr) × (n : ℕ) × (rest : List Token) × IsReturnValue tokens value rest × Means stack (record b { blocks = at_end (statement.Return value) b.blocks; opened = n }) rest final
Means ((s.ThenBlock in_loop) ∷ stack) b tokens final = (body : List LuaStatement) × (n : ℕ) × (rest : List Token) × IsThenBlock in_loop tokens body rest × Means stack (record b { blocks = body ∷ b.blocks; opened = n }) rest final
Means ((s.Arms in_loop) ∷ stack) b tokens final = (arms all : List Arm) × (otherwise : Option LuaBlock) × (n : ℕ) × (rest : List Token) × AreArms in_loop tokens arms otherwise rest × (all ≡ top [] b.arms ++ arms) × Means stack (record b { arms = below b.arms; blocks = at_end (statement.If all otherwise) b.blocks; opened = n }) rest final
Means (s.DoBlock ∷ stack) b tokens final = (body : List LuaStatement) × (n : ℕ) × (rest : List Token) × IsDoBlock tokens body rest × Means stack (record b { blocks = body ∷ b.blocks; opened = n }) rest final
Means ((s.ForStep line) ∷ stack) b tokens final = (by : Option Expr) × (body : List LuaStatement) × (n : ℕ) × (rest : List Token) × IsForBody tokens by body rest × Means stack (record b { texts = below b.texts; exprs = below (below b.exprs); blocks = at_end (statement.For (top [] b.texts) (top e.Nil (below b.exprs)) (top e.Nil b.exprs) by (block_of body) line) b.blocks; opened = n }) rest final
Means ((s.Target role line) ∷ stack) b tokens final = (s : LuaStatement) × (n : ℕ) × (rest : List Token) × IsOfName role line (top [] b.texts) tokens s rest × Means stack (record b { texts = below b.texts; blocks = at_end s b.blocks; opened = n }) rest final
Means ((s.MemberTarget role line) ∷ stack) b tokens final = (s : LuaStatement) × (n : ℕ) × (rest : List Token) × IsOfDot role line (top e.Nil b.exprs) tokens s rest × Means stack (record b { exprs = below b.exprs; blocks = at_end s b.blocks; opened = n }) rest final
Means ((s.TargetMember role dot_line line) ∷ stack) b tokens final = (s : LuaStatement) × (n : ℕ) × (rest : List Token) × IsOfMember role dot_line line (top e.Nil b.exprs) (top [] b.texts) tokens s rest × Means stack (record b { texts = below b.texts; exprs = below b.exprs; blocks = at_end s b.blocks; opened = n }) rest final
Means ((s.TargetIndex line) ∷ stack) b tokens final = (s : LuaStatement) × (n : ℕ) × (rest : List Token) × IsOfIndex line (top e.Nil (below b.exprs)) (top e.Nil b.exprs) tokens s rest × Means stack (record b { exprs = below (below b.exprs); blocks = at_end s b.blocks; opened = n }) rest final
Means (s.TargetCall ∷ stack) b tokens final = (s : LuaStatement) × (n : ℕ) × (rest : List Token) × IsOfCall (top e.Nil b.exprs) tokens s rest × Means stack (record b { exprs = below b.exprs; blocks = at_end s b.blocks; opened = n }) rest final
Means (s.Expression ∷ stack) b tokens final = (x : Expr) × (n : ℕ) × (rest : List Token) × IsExpression 1 tokens x rest × Means stack (record b { exprs = x ∷ b.exprs; opened = n }) rest final
Means (s.Key ∷ stack) b tokens final = (x : Expr) × (n : ℕ) × (inner rest : List Token) × IsExpression 1 tokens x inner × Is k.RightBracket inner rest × Means stack (record b { exprs = x ∷ b.exprs; opened = n }) rest final
Means (s.Operand ∷ stack) b tokens final = (x : Expr) × (n : ℕ) × (rest : List Token) × IsOperand tokens x rest × Means stack (record b { exprs = x ∷ b.exprs; opened = n }) rest final
Means ((s.Operators least) ∷ stack) b tokens final = OnTop b.exprs (λ left others. (x : Expr) × (n : ℕ) × (rest : List Token) × IsOperations least left tokens x rest × Means stack (record b { exprs = x ∷ others; opened = n }) rest final)
Means ((s.AfterName role line) ∷ stack) b tokens final = (x : Expr) × (n : ℕ) × (rest : List Token) × IsNamed role line (top [] b.texts) tokens x rest × Means stack (record b { texts = below b.texts; exprs = x ∷ b.exprs; opened = n }) rest final
Means ((s.LibraryName role line) ∷ stack) b tokens final = OnLibrary role ((x : Expr) × (n : ℕ) × (rest : List Token) × IsLibrarys role line (top e.Nil b.exprs) tokens x rest × Means stack (record b { exprs = x ∷ below b.exprs; opened = n }) rest final)
Means ((s.AfterMember role dot_line line) ∷ stack) b tokens final = OnLibrary role ((x : Expr) × (n : ℕ) × (rest : List Token) × IsFunction role dot_line line (top e.Nil b.exprs) (top [] b.texts) tokens x rest × Means stack (record b { texts = below b.texts; exprs = x ∷ below b.exprs; opened = n }) rest final)
Means (s.Suffix ∷ stack) b tokens final = OnTop b.exprs (λ left others. (x : Expr) × (n : ℕ) × (rest : List Token) × AreSuffixes left tokens x rest × Means stack (record b { exprs = x ∷ others; opened = n }) rest final)
Means (s.Arguments ∷ stack) b tokens final = (args : List Expr) × (n : ℕ) × (rest : List Token) × AreArguments tokens args rest × Means stack (record b { lists = extend args b.lists; opened = n }) rest final
Means (s.MoreArguments ∷ stack) b tokens final = (args : List Expr) × (n : ℕ) × (rest : List Token) × AreMoreArguments tokens args rest × Means stack (record b { lists = extend args b.lists; opened = n }) rest final
Means (s.Entries ∷ stack) b tokens final = (entries : List Entry) × (n : ℕ) × (rest : List Token) × AreEntries tokens entries rest × Means stack (record b { entries = extend entries b.entries; opened = n }) rest final
Means (s.MoreEntries ∷ stack) b tokens final = (entries : List Entry) × (n : ℕ) × (rest : List Token) × AreMoreEntries tokens entries rest × Means stack (record b { entries = extend entries b.entries; opened = n }) rest final
Means ((s.EntryName role line) ∷ stack) b tokens final = (one : Entry) × (n : ℕ) × (rest : List Token) × IsEntry (token (k.Name role) line (top [] b.texts) ∷ tokens) one rest × Means stack (record b { texts = below b.texts; entries = at_end one b.entries; opened = n }) rest final
Means ((s.Make action) ∷ stack) b tokens final = Means stack (act action b) tokens final

-- what begins with an operand, by its row
abbrev pub BegunMeans : Row → List Symbol → Building → Token → List Token → List Item → Type 0
BegunMeans (Takes body) stack b first more final = Means (body ++ stack) (keeps_text first.kind first.text b) more final
BegunMeans (Opens body) stack b first more final = Means (body ++ stack) (keeps_text first.kind first.text (with_one_more b)) more final
BegunMeans _ stack b first more final = ⊥

-- what a row stands for
abbrev pub RowMeans : Row → List Symbol → Building → Token → List Token → List Item → Type 0
RowMeans (Takes body) stack b first more final = Means (body ++ stack) (keeps_text first.kind first.text b) more final
RowMeans (Opens body) stack b first more final = Means (body ++ stack) (keeps_text first.kind first.text (with_one_more b)) more final
RowMeans (Begins behind) stack b first more final = BegunMeans (operand_row b.opened first.kind first.line) (behind ++ stack) b first more final
RowMeans (Passes action) stack b first more final = Means stack (act action b) (first ∷ more) final
RowMeans Refuses stack b first more final = ⊥

pub end_nil : {T : Type 0} (xs : List T) → xs ≡ xs ++ []
end_nil [] = refl
end_nil (x ∷ xs) = ap (λ ys. x ∷ ys) (end_nil xs)

pub extend_is : {T : Type 0} (more before : List T) (lists : List (List T)) → extend more (before ∷ lists) ≡ (before ++ more) ∷ lists
extend_is [] before lists = ap (λ ys. ys ∷ lists) (end_nil before)
extend_is (x ∷ more) before lists = extend_is more (before ++ x ∷ []) lists ∙ ap (λ ys. ys ∷ lists) (append_assoc before (x ∷ []) more)

-- a block that was just opened
block_read : (opened : ℕ) (in_loop : Bool) (stack : List Symbol) (b : Building) (tokens : List Token) (final : List Item) → Means (table.a_block opened in_loop [] ++ stack) b tokens final →
    (body : List LuaStatement) × (rest : List Token) × IsBlock in_loop tokens body rest × Means stack (record b { blocks = body ∷ b.blocks; opened = opened }) rest final
unfolding act act_expression act_list act_statement act_block act_item
block_read opened in_loop stack b tokens final m =
    (m.0, m.2, m.3, subst (λ (blocks : List (List LuaStatement)). Means stack (record b { blocks = blocks; opened = opened }) m.2 final) (extend_is m.0 [] b.blocks) m.4)

-- arguments and entries whose bracket was just taken
arguments_read : (stack : List Symbol) (b : Building) (tokens : List Token) (final : List Item) → Means (s.Make a.StartArguments ∷ s.Arguments ∷ stack) b tokens final →
    (args : List Expr) × (n : ℕ) × (rest : List Token) × AreArguments tokens args rest × Means stack (record b { lists = args ∷ b.lists; opened = n }) rest final
unfolding act act_expression act_list act_statement act_block act_item
arguments_read stack b tokens final m =
    (m.0, m.1, m.2, m.3, subst (λ (lists : List (List Expr)). Means stack (record b { lists = lists; opened = m.1 }) m.2 final) (extend_is m.0 [] b.lists) m.4)

entries_read : (stack : List Symbol) (b : Building) (tokens : List Token) (final : List Item) → Means (s.Make a.StartEntries ∷ s.Entries ∷ stack) b tokens final →
    (entries : List Entry) × (n : ℕ) × (rest : List Token) × AreEntries tokens entries rest × Means stack (record b { entries = entries ∷ b.entries; opened = n }) rest final
unfolding act act_expression act_list act_statement act_block act_item
entries_read stack b tokens final m =
    (m.0, m.1, m.2, m.3, subst (λ (entries : List (List Entry)). Means stack (record b { entries = entries; opened = m.1 }) m.2 final) (extend_is m.0 [] b.entries) m.4)

operand_means : (stack : List Symbol) (b : Building) (kind : Kind) (line : ℕ) (text : List ℕ) (more : List Token) (final : List Item) → BegunMeans (operand_row b.opened kind line) stack b (token kind line text) more final → Means (s.Operand ∷ stack) b (token kind line text ∷ more) final
unfolding act act_expression act_list act_statement act_block act_item
operand_means stack b k.Nil line text more final h = (e.Nil, b.opened, more, f.nil is, h)
operand_means stack b k.True line text more final h = (e.True, b.opened, more, f.yes is, h)
operand_means stack b k.False line text more final h = (e.False, b.opened, more, f.no is, h)
operand_means stack b (k.Number value) line text more final h = (e.Number value, b.opened, more, f.number is, h)
operand_means stack b k.Str line text more final h = (e.Str text line, b.opened, more, f.string, h)
operand_means stack b (k.Name role) line text more final h = (h.4.0, h.4.1, h.4.2, f.prefix h.3 h.4.3, h.4.4)
operand_means stack b k.LeftParen line text more final h = (h.0, b.opened, h.4.0, f.grouping is h.3 h.4.1, h.4.2)
operand_means stack b k.LeftBrace line text more final h = let r = entries_read (s.Make a.Construct ∷ s.Make (a.Restore b.opened) ∷ stack) (with_one_more b) more final h in (e.Construct r.0, b.opened, r.2, f.construct is r.3, r.4)
operand_means stack b k.Not line text more final h = (e.Unary unary.Not h.0 line, h.1, h.2, f.negation h.3, h.4)
operand_means stack b k.Minus line text more final h = (e.Unary unary.Minus h.0 line, h.1, h.2, f.minus h.3, h.4)
operand_means stack b k.Hash line text more final h = (e.Unary unary.Length h.0 line, h.1, h.2, f.length_of h.3, h.4)
operand_means stack b _ line text more final h = absurd h

chunk_means : (stack : List Symbol) (b : Building) (kind : Kind) (line : ℕ) (text : List ℕ) (more : List Token) (final : List Item) → RowMeans (table.chunk_row b.opened kind) stack b (token kind line text) more final → Means (s.Chunk ∷ stack) b (token kind line text ∷ more) final
unfolding act act_expression act_list act_statement act_block act_item
chunk_means stack b k.Function line text more final h = let q = h.3.2 in let c = q.9.2.2 in (item.Function h.0 q.1 (block_of q.3) ∷ c.0, c.1, c.2, c.3, c.4, f.function is h.2 h.3.1 (subst (λ (names : List (List ℕ)). AreParameters h.3.0 names q.2) (sym q.7) q.6) q.8 q.9.1 q.9.2.1 c.5, c.6 ∙ append_assoc b.items (item.Function h.0 q.1 (block_of q.3) ∷ []) c.0, c.7)
chunk_means stack b (k.Name role) line text more final h = let c = h.2.4.2 in (item.Assign text h.2.0 ∷ c.0, c.1, c.2, c.3, c.4, f.assignment name h.1 h.2.3 h.2.4.1 c.5, c.6 ∙ append_assoc b.items (item.Assign text h.2.0 ∷ []) c.0, c.7)
chunk_means stack b k.EndOfText line text more final h = ([], b.items, b.params, b.opened, more, f.no_items is, end_nil b.items, h)
chunk_means stack b _ line text more final h = absurd h

mark_means : (mark : Mark) (stack : List Symbol) (b : Building) (kind : Kind) (line : ℕ) (text : List ℕ) (more : List Token) (final : List Item) → RowMeans (table.token_row mark kind) stack b (token kind line text) more final → Means (s.Token mark ∷ stack) b (token kind line text ∷ more) final
unfolding act act_expression act_list act_statement act_block act_item
mark_means m.Name stack b (k.Name role) line text more final h = (text, more, name, h)
mark_means m.Name stack b _ line text more final h = absurd h
mark_means m.Assign stack b k.Assign line text more final h = (more, is, h)
mark_means m.Assign stack b _ line text more final h = absurd h
mark_means m.Comma stack b k.Comma line text more final h = (more, is, h)
mark_means m.Comma stack b _ line text more final h = absurd h
mark_means m.End stack b k.End line text more final h = (more, is, h)
mark_means m.End stack b _ line text more final h = absurd h
mark_means m.Until stack b k.Until line text more final h = (more, is, h)
mark_means m.Until stack b _ line text more final h = absurd h
mark_means m.LeftParen stack b k.LeftParen line text more final h = (more, is, h)
mark_means m.LeftParen stack b _ line text more final h = absurd h
mark_means m.RightParen stack b k.RightParen line text more final h = (more, is, h)
mark_means m.RightParen stack b _ line text more final h = absurd h
mark_means m.RightBracket stack b k.RightBracket line text more final h = (more, is, h)
mark_means m.RightBracket stack b _ line text more final h = absurd h

semicolon_means : (stack : List Symbol) (b : Building) (kind : Kind) (line : ℕ) (text : List ℕ) (more : List Token) (final : List Item) → RowMeans (table.semicolon_row kind) stack b (token kind line text) more final → Means (s.Semicolon ∷ stack) b (token kind line text ∷ more) final
unfolding act act_expression act_list act_statement act_block act_item
semicolon_means stack b k.Semicolon line text more final h = (more, f.present is, h)
semicolon_means stack b kind line text more final h = (token kind line text ∷ more, f.absent (without refl), h)

parameters_means : (stack : List Symbol) (b : Building) (kind : Kind) (line : ℕ) (text : List ℕ) (more : List Token) (final : List Item) → RowMeans (table.parameters_row b.opened kind) stack b (token kind line text) more final → Means (s.Parameters ∷ stack) b (token kind line text ∷ more) final
unfolding act act_expression act_list act_statement act_block act_item
parameters_means stack b (k.Name role) line text more final h = (text ∷ h.0, h.1, h.2, h.3, h.4, h.5, f.parameters name h.6, h.7 ∙ append_assoc b.params (text ∷ []) h.0, h.8, h.9)
parameters_means stack b k.RightParen line text more final h = let r = block_read b.opened false stack (with_one_more b) more final h in ([], b.params, more, r.0, b.opened, r.1, f.no_parameters is, end_nil b.params, r.2, r.3)
parameters_means stack b _ line text more final h = absurd h

more_parameters_means : (stack : List Symbol) (b : Building) (kind : Kind) (line : ℕ) (text : List ℕ) (more : List Token) (final : List Item) → RowMeans (table.more_parameters_row b.opened kind) stack b (token kind line text) more final → Means (s.MoreParameters ∷ stack) b (token kind line text ∷ more) final
unfolding act act_expression act_list act_statement act_block act_item
more_parameters_means stack b k.Comma line text more final h = (h.0 ∷ h.3.0, h.3.1, h.3.2, h.3.3, h.3.4, h.3.5, f.another_parameter is h.2 h.3.6, h.3.7 ∙ append_assoc b.params (h.0 ∷ []) h.3.0, h.3.8, h.3.9)
more_parameters_means stack b k.RightParen line text more final h = let r = block_read b.opened false stack (with_one_more b) more final h in ([], b.params, more, r.0, b.opened, r.1, f.last_parameter is, end_nil b.params, r.2, r.3)
more_parameters_means stack b _ line text more final h = absurd h

block_more : (in_loop : Bool) (stack : List Symbol) (b : Building) (restored now : ℕ) (one : LuaStatement) (ts behind : List Token) (final : List Item) → IsStatement in_loop ts one behind →
    Means (s.Make (a.Restore restored) ∷ s.Semicolon ∷ s.Block in_loop ∷ stack) (record b { blocks = at_end one b.blocks; opened = now }) behind final → Means (s.Block in_loop ∷ stack) b ts final
unfolding act act_expression act_list act_statement act_block act_item
block_more in_loop stack b restored now one ts behind final first h = (one ∷ h.2.0, h.2.1, h.2.2, f.statements first h.1 h.2.3, h.2.4)

break_means : (in_loop : Bool) (stack : List Symbol) (b : Building) (line : ℕ) (text : List ℕ) (more : List Token) (final : List Item) → RowMeans (table.break_row b.opened in_loop) stack b (token k.Break line text) more final →
    Means (s.Block in_loop ∷ stack) b (token k.Break line text ∷ more) final
unfolding act act_expression act_list act_statement act_block act_item
break_means true stack b line text more final h = block_more true stack b b.opened b.opened statement.Break _ _ final (f.break_statement is) h
break_means false stack b line text more final h = absurd h

block_means : (in_loop : Bool) (stack : List Symbol) (b : Building) (kind : Kind) (line : ℕ) (text : List ℕ) (more : List Token) (final : List Item) → RowMeans (table.block_row b.opened in_loop kind line) stack b (token kind line text) more final → Means (s.Block in_loop ∷ stack) b (token kind line text ∷ more) final
unfolding act act_expression act_list act_statement act_block act_item
block_means in_loop stack b k.Local line text more final h = block_more in_loop stack b b.opened h.3.1 (statement.Local h.0 h.3.0) _ _ final (f.local_statement is h.2 h.3.3) h.3.4
block_means in_loop stack b (k.Name role) line text more final h = block_more in_loop stack b b.opened h.1 (h.0) _ _ final (f.of_name h.3) h.4
block_means in_loop stack b k.If line text more final h = let r = h.4.4 in block_more in_loop stack b b.opened r.3 (statement.If r.1 r.2) _ _ final (subst (λ (all : List Arm). IsStatement in_loop (token k.If line text ∷ more) (statement.If all r.2) r.4) (sym r.6) (f.conditional is h.3 h.4.3 r.5)) r.7
block_means in_loop stack b k.While line text more final h = block_more in_loop stack b b.opened h.4.1 (statement.While h.0 (block_of h.4.0)) _ _ final (f.while_statement is h.3 h.4.3 h.4.4.1) h.4.4.2
block_means in_loop stack b k.Repeat line text more final h = let r = block_read b.opened true (s.Token m.Until ∷ s.Expression ∷ s.Make a.Repeat ∷ (table.and_on b.opened in_loop ++ stack)) (with_one_more b) more final h in block_more in_loop stack b b.opened r.3.2.1 (statement.Repeat (block_of r.0) r.3.2.0) _ _ final (f.repeat_statement is r.2 r.3.1 r.3.2.3) r.3.2.4
block_means in_loop stack b k.For line text more final h = let x = h.3.2 in let y = x.4.2 in let r = y.4 in block_more in_loop stack b b.opened r.2 (statement.For h.0 x.0 y.0 r.0 (block_of r.1) line) _ _ final (f.for_statement h.2 h.3.1 x.3 x.4.1 y.3 r.4) r.5
block_means in_loop stack b k.Do line text more final h = let r = block_read b.opened in_loop (s.Token m.End ∷ s.Make a.Do ∷ (table.and_on b.opened in_loop ++ stack)) (with_one_more b) more final h in block_more in_loop stack b b.opened b.opened (statement.Do (block_of r.0)) _ _ final (f.do_statement is r.2 r.3.1) r.3.2
block_means in_loop stack b k.Break line text more final h = break_means in_loop stack b line text more final h
block_means in_loop stack b k.Return line text more final h = (statement.Return h.0 ∷ [], b.opened, h.4.0, f.returned is h.3 h.4.1, h.4.2)
block_means in_loop stack b kind line text more final h = ([], b.opened, token kind line text ∷ more, f.no_statements (without refl), h)

local_value_means : (stack : List Symbol) (b : Building) (kind : Kind) (line : ℕ) (text : List ℕ) (more : List Token) (final : List Item) → RowMeans (table.local_value_row kind) stack b (token kind line text) more final → Means (s.LocalValue ∷ stack) b (token kind line text ∷ more) final
unfolding act act_expression act_list act_statement act_block act_item
local_value_means stack b k.Assign line text more final h = (Some h.0, h.1, h.2, f.local_value is h.3, h.4)
local_value_means stack b kind line text more final h = (None, b.opened, token kind line text ∷ more, f.no_local_value (without refl), h)

return_begins : (stack : List Symbol) (b : Building) (kind : Kind) (line : ℕ) (text : List ℕ) (more : List Token) (final : List Item) → BegunMeans (operand_row b.opened kind line) (s.Operators 1 ∷ s.Make a.ReturnWith ∷ stack) b (token kind line text) more final → Means (s.ReturnValue ∷ stack) b (token kind line text ∷ more) final
unfolding act act_expression act_list act_statement act_block act_item
return_begins stack b kind line text more final h = let r = operand_means (s.Operators 1 ∷ s.Make a.ReturnWith ∷ stack) b kind line text more final h in (Some r.4.0, r.4.1, r.4.2, f.return_value (f.expression r.3 r.4.3), r.4.4)

expression_begins : (stack : List Symbol) (b : Building) (kind : Kind) (line : ℕ) (text : List ℕ) (more : List Token) (final : List Item) → BegunMeans (operand_row b.opened kind line) (s.Operators 1 ∷ stack) b (token kind line text) more final → Means (s.Expression ∷ stack) b (token kind line text ∷ more) final
unfolding act act_expression act_list act_statement act_block act_item
expression_begins stack b kind line text more final h = let r = operand_means (s.Operators 1 ∷ stack) b kind line text more final h in (r.4.0, r.4.1, r.4.2, f.expression r.3 r.4.3, r.4.4)

key_begins : (stack : List Symbol) (b : Building) (kind : Kind) (line : ℕ) (text : List ℕ) (more : List Token) (final : List Item) → BegunMeans (operand_row b.opened kind line) (s.Operators 1 ∷ s.Token m.RightBracket ∷ s.Make (a.Restore b.opened) ∷ stack) b (token kind line text) more final → Means (s.Key ∷ stack) b (token kind line text ∷ more) final
unfolding act act_expression act_list act_statement act_block act_item
key_begins stack b kind line text more final h = let r = operand_means (s.Operators 1 ∷ s.Token m.RightBracket ∷ s.Make (a.Restore b.opened) ∷ stack) b kind line text more final h in let q = r.4.4 in (r.4.0, b.opened, r.4.2, q.0, f.expression r.3 r.4.3, q.1, q.2)

argument_begins : (stack : List Symbol) (b : Building) (kind : Kind) (line : ℕ) (text : List ℕ) (more : List Token) (final : List Item) → BegunMeans (operand_row b.opened kind line) (s.Operators 1 ∷ s.Make a.AddArgument ∷ s.Make (a.Restore b.opened) ∷ s.MoreArguments ∷ stack) b (token kind line text) more final → Means (s.Arguments ∷ stack) b (token kind line text ∷ more) final
unfolding act act_expression act_list act_statement act_block act_item
argument_begins stack b kind line text more final h = let r = operand_means (s.Operators 1 ∷ s.Make a.AddArgument ∷ s.Make (a.Restore b.opened) ∷ s.MoreArguments ∷ stack) b kind line text more final h in let q = r.4.4 in (r.4.0 ∷ q.0, q.1, q.2, f.arguments (f.expression r.3 r.4.3) q.3, q.4)

entry_begins : (stack : List Symbol) (b : Building) (kind : Kind) (line : ℕ) (text : List ℕ) (more : List Token) (final : List Item) → BegunMeans (operand_row b.opened kind line) (s.Operators 1 ∷ s.Make a.AddValue ∷ s.Make (a.Restore b.opened) ∷ s.MoreEntries ∷ stack) b (token kind line text) more final → Means (s.Entries ∷ stack) b (token kind line text ∷ more) final
unfolding act act_expression act_list act_statement act_block act_item
entry_begins stack b kind line text more final h = let r = operand_means (s.Operators 1 ∷ s.Make a.AddValue ∷ s.Make (a.Restore b.opened) ∷ s.MoreEntries ∷ stack) b kind line text more final h in let q = r.4.4 in (entry.Value r.4.0 ∷ q.0, q.1, q.2, f.entries (f.value (f.expression r.3 r.4.3)) q.3, q.4)

return_value_means : (stack : List Symbol) (b : Building) (kind : Kind) (line : ℕ) (text : List ℕ) (more : List Token) (final : List Item) → RowMeans (table.return_value_row kind) stack b (token kind line text) more final → Means (s.ReturnValue ∷ stack) b (token kind line text ∷ more) final
unfolding act act_expression act_list act_statement act_block act_item
return_value_means stack b k.Nil line text more final h = return_begins stack b k.Nil line text more final h
return_value_means stack b k.True line text more final h = return_begins stack b k.True line text more final h
return_value_means stack b k.False line text more final h = return_begins stack b k.False line text more final h
return_value_means stack b (k.Number value) line text more final h = return_begins stack b (k.Number value) line text more final h
return_value_means stack b k.Str line text more final h = return_begins stack b k.Str line text more final h
return_value_means stack b (k.Name role) line text more final h = return_begins stack b (k.Name role) line text more final h
return_value_means stack b k.LeftParen line text more final h = return_begins stack b k.LeftParen line text more final h
return_value_means stack b k.LeftBrace line text more final h = return_begins stack b k.LeftBrace line text more final h
return_value_means stack b k.Not line text more final h = return_begins stack b k.Not line text more final h
return_value_means stack b k.Minus line text more final h = return_begins stack b k.Minus line text more final h
return_value_means stack b k.Hash line text more final h = return_begins stack b k.Hash line text more final h
return_value_means stack b kind line text more final h = (None, b.opened, token kind line text ∷ more, f.no_return_value (without refl), h)

then_means : (in_loop : Bool) (stack : List Symbol) (b : Building) (kind : Kind) (line : ℕ) (text : List ℕ) (more : List Token) (final : List Item) → RowMeans (table.then_block_row b.opened in_loop kind) stack b (token kind line text) more final → Means (s.ThenBlock in_loop ∷ stack) b (token kind line text ∷ more) final
unfolding act act_expression act_list act_statement act_block act_item
then_means in_loop stack b k.Then line text more final h = let r = block_read b.opened in_loop stack (with_one_more b) more final h in (r.0, b.opened, r.1, f.then_block is r.2, r.3)
then_means in_loop stack b _ line text more final h = absurd h

arms_means : (in_loop : Bool) (stack : List Symbol) (b : Building) (kind : Kind) (line : ℕ) (text : List ℕ) (more : List Token) (final : List Item) → RowMeans (table.arms_row b.opened in_loop kind) stack b (token kind line text) more final → Means (s.Arms in_loop ∷ stack) b (token kind line text ∷ more) final
unfolding act act_expression act_list act_statement act_block act_item
arms_means in_loop stack b k.ElseIf line text more final h = let r = h.4.4 in (roll-Arm (record { test = h.0; body = block_of h.4.0 }) ∷ r.0, r.1, r.2, r.3, r.4, f.elseif is h.3 h.4.3 r.5, r.6 ∙ append_assoc (top [] b.arms) (roll-Arm (record { test = h.0; body = block_of h.4.0 }) ∷ []) r.0, r.7)
arms_means in_loop stack b k.Else line text more final h = let r = block_read b.opened in_loop (s.Token m.End ∷ s.Make a.IfElse ∷ stack) (with_one_more b) more final h in ([], top [] b.arms, Some (block_of r.0), b.opened, r.3.0, f.else_block is r.2 r.3.1, end_nil (top [] b.arms), r.3.2)
arms_means in_loop stack b k.End line text more final h = ([], top [] b.arms, None, b.opened, more, f.no_else is, end_nil (top [] b.arms), h)
arms_means in_loop stack b _ line text more final h = absurd h

do_means : (stack : List Symbol) (b : Building) (kind : Kind) (line : ℕ) (text : List ℕ) (more : List Token) (final : List Item) → RowMeans (table.do_block_row b.opened kind) stack b (token kind line text) more final → Means (s.DoBlock ∷ stack) b (token kind line text ∷ more) final
unfolding act act_expression act_list act_statement act_block act_item
do_means stack b k.Do line text more final h = let r = block_read b.opened true stack (with_one_more b) more final h in (r.0, b.opened, r.1, f.do_block is r.2, r.3)
do_means stack b _ line text more final h = absurd h

for_step_means : (for_line : ℕ) (stack : List Symbol) (b : Building) (kind : Kind) (line : ℕ) (text : List ℕ) (more : List Token) (final : List Item) → RowMeans (table.for_step_row b.opened for_line kind) stack b (token kind line text) more final → Means (s.ForStep for_line ∷ stack) b (token kind line text ∷ more) final
unfolding act act_expression act_list act_statement act_block act_item
for_step_means for_line stack b k.Comma line text more final h = (Some h.0, h.4.0, h.4.1, h.4.4.0, f.with_step is h.3 h.4.3 h.4.4.1, h.4.4.2)
for_step_means for_line stack b k.Do line text more final h = let r = block_read b.opened true (s.Token m.End ∷ s.Make (a.For for_line) ∷ stack) (with_one_more b) more final h in (None, r.0, b.opened, r.3.0, f.no_step is r.2 r.3.1, r.3.2)
for_step_means for_line stack b _ line text more final h = absurd h

target_means : (role : Role) (name_line : ℕ) (stack : List Symbol) (b : Building) (kind : Kind) (line : ℕ) (text : List ℕ) (more : List Token) (final : List Item) → RowMeans (table.target_row b.opened role name_line kind line) stack b (token kind line text) more final → Means (s.Target role name_line ∷ stack) b (token kind line text ∷ more) final
unfolding act act_expression act_list act_statement act_block act_item
target_means role name_line stack b k.Assign line text more final h = (statement.Assign (top [] b.texts) h.0, h.1, h.2, f.assign_name is h.3, h.4)
target_means role name_line stack b k.LeftParen line text more final h = let r = arguments_read (s.Make (a.Call name_line) ∷ s.TargetCall ∷ stack) (with_one_more b) more final h in (r.4.0, r.4.1, r.4.2, f.call_name is r.3 r.4.3, r.4.4)
target_means role name_line stack b k.Dot line text more final h = (h.0, h.1, h.2, f.member_name h.3, h.4)
target_means role name_line stack b k.LeftBracket line text more final h = (h.6.0, h.6.1, h.6.2, f.index_name h.4 h.5 h.6.3, h.6.4)
target_means role name_line stack b _ line text more final h = absurd h

member_target_means : (role : Role) (dot_line : ℕ) (stack : List Symbol) (b : Building) (kind : Kind) (line : ℕ) (text : List ℕ) (more : List Token) (final : List Item) → RowMeans (table.member_target_row role dot_line kind line) stack b (token kind line text) more final → Means (s.MemberTarget role dot_line ∷ stack) b (token kind line text ∷ more) final
unfolding act act_expression act_list act_statement act_block act_item
member_target_means role dot_line stack b (k.Name name_role) line text more final h = (h.0, h.1, h.2, f.dot h.3, h.4)
member_target_means role dot_line stack b _ line text more final h = absurd h

library_target_means : (role : Role) (dot_line name_line : ℕ) (stack : List Symbol) (b : Building) (line : ℕ) (text : List ℕ) (more : List Token) (final : List Item) →
    RowMeans (table.library_target_row role name_line) stack b (token k.LeftParen line text) more final → Means (s.TargetMember role dot_line name_line ∷ stack) b (token k.LeftParen line text ∷ more) final
unfolding act act_expression act_list act_statement act_block act_item
library_target_means Plain dot_line name_line stack b line text more final h = absurd h
library_target_means Math dot_line name_line stack b line text more final h = let r = arguments_read (s.Make (a.MathCall name_line) ∷ s.TargetCall ∷ stack) (with_one_more b) more final h in (r.4.0, r.4.1, r.4.2, f.call_math is r.3 r.4.3, r.4.4)
library_target_means Table dot_line name_line stack b line text more final h = let r = arguments_read (s.Make (a.TableCall name_line) ∷ s.TargetCall ∷ stack) (with_one_more b) more final h in (r.4.0, r.4.1, r.4.2, f.call_table is r.3 r.4.3, r.4.4)

target_member_means : (role : Role) (dot_line name_line : ℕ) (stack : List Symbol) (b : Building) (kind : Kind) (line : ℕ) (text : List ℕ) (more : List Token) (final : List Item) → RowMeans (table.target_member_row b.opened role dot_line name_line kind line) stack b (token kind line text) more final → Means (s.TargetMember role dot_line name_line ∷ stack) b (token kind line text ∷ more) final
unfolding act act_expression act_list act_statement act_block act_item
target_member_means role dot_line name_line stack b k.Assign line text more final h = (statement.SetMember (top e.Nil b.exprs) (top [] b.texts) h.0 dot_line, h.1, h.2, f.assign_member is h.3, h.4)
target_member_means role dot_line name_line stack b k.Dot line text more final h = (h.0, h.1, h.2, f.member_member h.3, h.4)
target_member_means role dot_line name_line stack b k.LeftBracket line text more final h = (h.6.0, h.6.1, h.6.2, f.index_member h.4 h.5 h.6.3, h.6.4)
target_member_means role dot_line name_line stack b k.LeftParen line text more final h = library_target_means role dot_line name_line stack b line text more final h
target_member_means role dot_line name_line stack b _ line text more final h = absurd h

target_index_means : (index_line : ℕ) (stack : List Symbol) (b : Building) (kind : Kind) (line : ℕ) (text : List ℕ) (more : List Token) (final : List Item) → RowMeans (table.target_index_row b.opened index_line kind line) stack b (token kind line text) more final → Means (s.TargetIndex index_line ∷ stack) b (token kind line text ∷ more) final
unfolding act act_expression act_list act_statement act_block act_item
target_index_means index_line stack b k.Assign line text more final h = (statement.SetIndex (top e.Nil (below b.exprs)) (top e.Nil b.exprs) h.0 index_line, h.1, h.2, f.assign_index is h.3, h.4)
target_index_means index_line stack b k.Dot line text more final h = (h.0, h.1, h.2, f.member_index h.3, h.4)
target_index_means index_line stack b k.LeftBracket line text more final h = (h.6.0, h.6.1, h.6.2, f.index_index h.4 h.5 h.6.3, h.6.4)
target_index_means index_line stack b _ line text more final h = absurd h

target_call_means : (stack : List Symbol) (b : Building) (kind : Kind) (line : ℕ) (text : List ℕ) (more : List Token) (final : List Item) → RowMeans (table.target_call_row b.opened kind line) stack b (token kind line text) more final → Means (s.TargetCall ∷ stack) b (token kind line text ∷ more) final
unfolding act act_expression act_list act_statement act_block act_item
target_call_means stack b k.Dot line text more final h = (h.0, h.1, h.2, f.member_call h.3, h.4)
target_call_means stack b k.LeftBracket line text more final h = (h.6.0, h.6.1, h.6.2, f.index_call h.4 h.5 h.6.3, h.6.4)
target_call_means stack b kind line text more final h = (statement.Call (top e.Nil b.exprs), b.opened, token kind line text ∷ more, f.call_alone (without refl), h)

operator_means : (op : BinaryOp) (least : ℕ) (stack : List Symbol) (b : Building) (left : Expr) (others : List Expr) (line : ℕ) (text : List ℕ) (more : List Token) (final : List Item) (t : Bool) → nat_le least (level op) ≡ t →
    RowMeans (if t then Opens (table.operation op line (s.Operators least ∷ [])) else Passes a.Nothing) stack (record b { exprs = left ∷ others }) (token (k.Operator op) line text) more final →
    Means (s.Operators least ∷ stack) (record b { exprs = left ∷ others }) (token (k.Operator op) line text ∷ more) final
unfolding act act_expression act_list act_statement act_block act_item
operator_means op least stack b left others line text more final true test h = let r = h.4.4 in (r.0, r.1, r.2, f.operation refl test (f.expression h.3 h.4.3) r.3, r.4)
operator_means op least stack b left others line text more final false test h = (left, b.opened, token (k.Operator op) line text ∷ more, f.no_more (without test), h)

minus_means : (least : ℕ) (stack : List Symbol) (b : Building) (left : Expr) (others : List Expr) (line : ℕ) (text : List ℕ) (more : List Token) (final : List Item) (t : Bool) → nat_le least (level binary.Minus) ≡ t →
    RowMeans (if t then Opens (table.operation binary.Minus line (s.Operators least ∷ [])) else Passes a.Nothing) stack (record b { exprs = left ∷ others }) (token (k.Minus) line text) more final →
    Means (s.Operators least ∷ stack) (record b { exprs = left ∷ others }) (token (k.Minus) line text ∷ more) final
unfolding act act_expression act_list act_statement act_block act_item
minus_means least stack b left others line text more final true test h = let r = h.4.4 in (r.0, r.1, r.2, f.operation refl test (f.expression h.3 h.4.3) r.3, r.4)
minus_means least stack b left others line text more final false test h = (left, b.opened, token (k.Minus) line text ∷ more, f.no_more (without test), h)

operators_means : (least : ℕ) (stack : List Symbol) (b : Building) (exprs : List Expr) (kind : Kind) (line : ℕ) (text : List ℕ) (more : List Token) (final : List Item) → RowMeans (table.operators_row least kind line) stack (record b { exprs = exprs }) (token kind line text) more final → Means (s.Operators least ∷ stack) (record b { exprs = exprs }) (token kind line text ∷ more) final
unfolding act act_expression act_list act_statement act_block act_item
operators_means least stack b [] kind line text more final h = tt
operators_means least stack b (left ∷ others) (k.Operator op) line text more final h = operator_means op least stack b left others line text more final (nat_le least (level op)) refl h
operators_means least stack b (left ∷ others) k.Minus line text more final h = minus_means least stack b left others line text more final (nat_le least (level binary.Minus)) refl h
operators_means least stack b (left ∷ others) kind line text more final h = (left, b.opened, token kind line text ∷ more, f.no_more (without refl), h)

suffix_means : (stack : List Symbol) (b : Building) (exprs : List Expr) (kind : Kind) (line : ℕ) (text : List ℕ) (more : List Token) (final : List Item) → RowMeans (table.suffix_row b.opened kind line) stack (record b { exprs = exprs }) (token kind line text) more final → Means (s.Suffix ∷ stack) (record b { exprs = exprs }) (token kind line text ∷ more) final
unfolding act act_expression act_list act_statement act_block act_item
suffix_means stack b [] kind line text more final h = tt
suffix_means stack b (left ∷ others) k.Dot line text more final h = (h.3.0, h.3.1, h.3.2, f.dotted h.2 h.3.3, h.3.4)
suffix_means stack b (left ∷ others) k.LeftBracket line text more final h = (h.6.0, h.6.1, h.6.2, f.indexed h.4 h.5 h.6.3, h.6.4)
suffix_means stack b (left ∷ others) kind line text more final h = (left, b.opened, token kind line text ∷ more, f.none (without refl), h)

after_name_means : (role : Role) (name_line : ℕ) (stack : List Symbol) (b : Building) (kind : Kind) (line : ℕ) (text : List ℕ) (more : List Token) (final : List Item) → RowMeans (table.after_name_row role name_line kind line) stack b (token kind line text) more final → Means (s.AfterName role name_line ∷ stack) b (token kind line text ∷ more) final
unfolding act act_expression act_list act_statement act_block act_item
after_name_means role name_line stack b k.LeftParen line text more final h = let r = arguments_read (s.Make (a.Call name_line) ∷ stack) (with_one_more b) more final h in (e.Call (top [] b.texts) r.0 name_line, r.1, r.2, f.call is r.3, r.4)
after_name_means Plain name_line stack b k.Dot line text more final h = (e.Name (top [] b.texts), b.opened, token k.Dot line text ∷ more, f.alone (without refl), h)
after_name_means Math name_line stack b k.Dot line text more final h = (h.0, h.1, h.2, f.library refl h.3, h.4)
after_name_means Table name_line stack b k.Dot line text more final h = (h.0, h.1, h.2, f.library refl h.3, h.4)
after_name_means role name_line stack b kind line text more final h = (e.Name (top [] b.texts), b.opened, token kind line text ∷ more, f.alone (without refl), h)

library_name_means : (role : Role) (dot_line : ℕ) (stack : List Symbol) (b : Building) (kind : Kind) (line : ℕ) (text : List ℕ) (more : List Token) (final : List Item) → RowMeans (table.library_name_row role dot_line kind line) stack b (token kind line text) more final → Means (s.LibraryName role dot_line ∷ stack) b (token kind line text ∷ more) final
unfolding act act_expression act_list act_statement act_block act_item
library_name_means Plain dot_line stack b kind line text more final h = tt
library_name_means Math dot_line stack b (k.Name name_role) line text more final h = (h.0, h.1, h.2, f.librarys h.3, h.4)
library_name_means Math dot_line stack b _ line text more final h = absurd h
library_name_means Table dot_line stack b (k.Name name_role) line text more final h = (h.0, h.1, h.2, f.librarys h.3, h.4)
library_name_means Table dot_line stack b _ line text more final h = absurd h

after_member_means : (role : Role) (dot_line name_line : ℕ) (stack : List Symbol) (b : Building) (kind : Kind) (line : ℕ) (text : List ℕ) (more : List Token) (final : List Item) → RowMeans (table.after_member_row role dot_line name_line kind) stack b (token kind line text) more final → Means (s.AfterMember role dot_line name_line ∷ stack) b (token kind line text ∷ more) final
unfolding act act_expression act_list act_statement act_block act_item
after_member_means Plain dot_line name_line stack b kind line text more final h = tt
after_member_means Math dot_line name_line stack b k.LeftParen line text more final h = let r = arguments_read (s.Make (a.MathCall name_line) ∷ stack) (with_one_more b) more final h in (e.MathCall (top [] b.texts) r.0 name_line, r.1, r.2, f.math_call is r.3, r.4)
after_member_means Math dot_line name_line stack b kind line text more final h = (e.Member (top e.Nil b.exprs) (top [] b.texts) dot_line, b.opened, token kind line text ∷ more, f.member (without refl), h)
after_member_means Table dot_line name_line stack b k.LeftParen line text more final h = let r = arguments_read (s.Make (a.TableCall name_line) ∷ stack) (with_one_more b) more final h in (e.TableCall (top [] b.texts) r.0 name_line, r.1, r.2, f.table_call is r.3, r.4)
after_member_means Table dot_line name_line stack b kind line text more final h = (e.Member (top e.Nil b.exprs) (top [] b.texts) dot_line, b.opened, token kind line text ∷ more, f.member (without refl), h)

arguments_means : (stack : List Symbol) (b : Building) (kind : Kind) (line : ℕ) (text : List ℕ) (more : List Token) (final : List Item) → RowMeans (table.arguments_row b.opened kind) stack b (token kind line text) more final → Means (s.Arguments ∷ stack) b (token kind line text ∷ more) final
unfolding act act_expression act_list act_statement act_block act_item
arguments_means stack b k.RightParen line text more final h = ([], b.opened, more, f.no_arguments is, h)
arguments_means stack b kind line text more final h = argument_begins stack b kind line text more final h

more_arguments_means : (stack : List Symbol) (b : Building) (kind : Kind) (line : ℕ) (text : List ℕ) (more : List Token) (final : List Item) → RowMeans (table.more_arguments_row b.opened kind) stack b (token kind line text) more final → Means (s.MoreArguments ∷ stack) b (token kind line text ∷ more) final
unfolding act act_expression act_list act_statement act_block act_item
more_arguments_means stack b k.Comma line text more final h = (h.0 ∷ h.4.0, h.4.1, h.4.2, f.another is h.3 h.4.3, h.4.4)
more_arguments_means stack b k.RightParen line text more final h = ([], b.opened, more, f.last_argument is, h)
more_arguments_means stack b _ line text more final h = absurd h

entries_means : (stack : List Symbol) (b : Building) (kind : Kind) (line : ℕ) (text : List ℕ) (more : List Token) (final : List Item) → RowMeans (table.entries_row b.opened kind line) stack b (token kind line text) more final → Means (s.Entries ∷ stack) b (token kind line text ∷ more) final
unfolding act act_expression act_list act_statement act_block act_item
entries_means stack b k.RightBrace line text more final h = ([], b.opened, more, f.no_entries is, h)
entries_means stack b k.LeftBracket line text more final h = let y = h.4.2.2 in (entry.Keyed h.0 y.0 line ∷ y.4.0, y.4.1, y.4.2, f.entries (f.keyed h.3 h.4.1 h.4.2.1 y.3) y.4.3, y.4.4)
entries_means stack b (k.Name role) line text more final h = (h.0 ∷ h.4.0, h.4.1, h.4.2, f.entries h.3 h.4.3, h.4.4)
entries_means stack b kind line text more final h = entry_begins stack b kind line text more final h

more_entries_means : (stack : List Symbol) (b : Building) (kind : Kind) (line : ℕ) (text : List ℕ) (more : List Token) (final : List Item) → RowMeans (table.more_entries_row kind) stack b (token kind line text) more final → Means (s.MoreEntries ∷ stack) b (token kind line text ∷ more) final
unfolding act act_expression act_list act_statement act_block act_item
more_entries_means stack b k.Comma line text more final h = (h.0, h.1, h.2, f.comma is h.3, h.4)
more_entries_means stack b k.Semicolon line text more final h = (h.0, h.1, h.2, f.semicolon is h.3, h.4)
more_entries_means stack b k.RightBrace line text more final h = ([], b.opened, more, f.last_entry is, h)
more_entries_means stack b _ line text more final h = absurd h

least_level : (op : BinaryOp) → nat_le 1 (level op) ≡ true
least_level binary.Or = refl
least_level binary.And = refl
least_level binary.Less = refl
least_level binary.Greater = refl
least_level binary.LessEqual = refl
least_level binary.GreaterEqual = refl
least_level binary.NotEqual = refl
least_level binary.Equal = refl
least_level binary.Join = refl
least_level binary.Plus = refl
least_level binary.Minus = refl
least_level binary.Times = refl
least_level binary.Over = refl
least_level binary.Mod = refl

entry_name_means : (role : Role) (name_line : ℕ) (stack : List Symbol) (b : Building) (kind : Kind) (line : ℕ) (text : List ℕ) (more : List Token) (final : List Item) → RowMeans (table.entry_name_row b.opened role name_line kind line) stack b (token kind line text) more final → Means (s.EntryName role name_line ∷ stack) b (token kind line text ∷ more) final
unfolding act act_expression act_list act_statement act_block act_item
entry_name_means role name_line stack b k.Assign line text more final h = (entry.Named (top [] b.texts) h.0, h.1, h.2, f.named name is h.3, h.4)
entry_name_means role name_line stack b k.LeftParen line text more final h = let r = arguments_read (s.Make (a.Call name_line) ∷ s.Suffix ∷ s.Operators 1 ∷ s.Make a.AddValue ∷ stack) (with_one_more b) more final h in let q = r.4 in let x = q.4 in (entry.Value x.0, x.1, x.2, f.value (f.expression (f.prefix (f.call is r.3) (q.3)) x.3), x.4)
entry_name_means role name_line stack b k.LeftBracket line text more final h = let q = h.6 in let x = q.4 in (entry.Value x.0, x.1, x.2, f.value (f.expression (f.prefix (f.alone (without refl)) (f.indexed h.4 h.5 q.3)) x.3), x.4)
entry_name_means Plain name_line stack b k.Dot line text more final h = let q = h.3 in let x = q.4 in (entry.Value x.0, x.1, x.2, f.value (f.expression (f.prefix (f.alone (without refl)) (f.dotted h.2 q.3)) x.3), x.4)
entry_name_means Math name_line stack b k.Dot line text more final h = let q = h.4 in let x = q.4 in (entry.Value x.0, x.1, x.2, f.value (f.expression (f.prefix (f.library refl h.3) (q.3)) x.3), x.4)
entry_name_means Table name_line stack b k.Dot line text more final h = let q = h.4 in let x = q.4 in (entry.Value x.0, x.1, x.2, f.value (f.expression (f.prefix (f.library refl h.3) (q.3)) x.3), x.4)
entry_name_means role name_line stack b (k.Operator op) line text more final h = (entry.Value h.4.4.0, h.4.4.1, h.4.4.2, f.value (f.expression (f.prefix (f.alone (without refl)) (f.none (without refl))) (f.operation refl (least_level op) (f.expression h.3 h.4.3) h.4.4.3)), h.4.4.4)
entry_name_means role name_line stack b k.Minus line text more final h = (entry.Value h.4.4.0, h.4.4.1, h.4.4.2, f.value (f.expression (f.prefix (f.alone (without refl)) (f.none (without refl))) (f.operation refl refl (f.expression h.3 h.4.3) h.4.4.3)), h.4.4.4)
entry_name_means role name_line stack b kind line text more final h = (entry.Value (e.Name (top [] b.texts)), b.opened, token kind line text ∷ more, f.value (f.expression (f.prefix (f.alone (without refl)) (f.none (without refl))) (f.no_more (without refl))), h)

pub row_means : (symbol : Symbol) (stack : List Symbol) (b : Building) (kind : Kind) (line : ℕ) (text : List ℕ) (more : List Token) (final : List Item) → RowMeans (row symbol b.opened kind line) stack b (token kind line text) more final → Means (symbol ∷ stack) b (token kind line text ∷ more) final
unfolding row
row_means s.Chunk stack b kind line text more final h = chunk_means stack b kind line text more final h
row_means (s.Token mark) stack b kind line text more final h = mark_means mark stack b kind line text more final h
row_means s.Semicolon stack b kind line text more final h = semicolon_means stack b kind line text more final h
row_means s.Parameters stack b kind line text more final h = parameters_means stack b kind line text more final h
row_means s.MoreParameters stack b kind line text more final h = more_parameters_means stack b kind line text more final h
row_means (s.Block in_loop) stack b kind line text more final h = block_means in_loop stack b kind line text more final h
row_means s.LocalValue stack b kind line text more final h = local_value_means stack b kind line text more final h
row_means s.ReturnValue stack b kind line text more final h = return_value_means stack b kind line text more final h
row_means (s.ThenBlock in_loop) stack b kind line text more final h = then_means in_loop stack b kind line text more final h
row_means (s.Arms in_loop) stack b kind line text more final h = arms_means in_loop stack b kind line text more final h
row_means s.DoBlock stack b kind line text more final h = do_means stack b kind line text more final h
row_means (s.ForStep for_line) stack b kind line text more final h = for_step_means for_line stack b kind line text more final h
row_means (s.Target role name_line) stack b kind line text more final h = target_means role name_line stack b kind line text more final h
row_means (s.MemberTarget role dot_line) stack b kind line text more final h = member_target_means role dot_line stack b kind line text more final h
row_means (s.TargetMember role dot_line name_line) stack b kind line text more final h = target_member_means role dot_line name_line stack b kind line text more final h
row_means (s.TargetIndex index_line) stack b kind line text more final h = target_index_means index_line stack b kind line text more final h
row_means s.TargetCall stack b kind line text more final h = target_call_means stack b kind line text more final h
row_means s.Expression stack b kind line text more final h = expression_begins stack b kind line text more final h
row_means s.Key stack b kind line text more final h = key_begins stack b kind line text more final h
row_means s.Operand stack b kind line text more final h = operand_means stack b kind line text more final h
row_means (s.AfterName role name_line) stack b kind line text more final h = after_name_means role name_line stack b kind line text more final h
row_means (s.LibraryName role dot_line) stack b kind line text more final h = library_name_means role dot_line stack b kind line text more final h
row_means (s.AfterMember role dot_line name_line) stack b kind line text more final h = after_member_means role dot_line name_line stack b kind line text more final h
row_means s.Arguments stack b kind line text more final h = arguments_means stack b kind line text more final h
row_means s.MoreArguments stack b kind line text more final h = more_arguments_means stack b kind line text more final h
row_means s.Entries stack b kind line text more final h = entries_means stack b kind line text more final h
row_means s.MoreEntries stack b kind line text more final h = more_entries_means stack b kind line text more final h
row_means (s.EntryName role name_line) stack b kind line text more final h = entry_name_means role name_line stack b kind line text more final h
row_means (s.Operators least) stack b kind line text more final h = operators_means least stack b b.exprs kind line text more final h
row_means s.Suffix stack b kind line text more final h = suffix_means stack b b.exprs kind line text more final h
row_means (s.Make action) stack b kind line text more final h = h
