-- Stacks that are reached end in the chunk, and only parts of a chunk stand before it.
use Rattle.std.proofs.Common.{◌≡◌, ℕ, Bool, true, false, List, [], ◌∷◌, ◌++◌, refl, ap, ◌∙◌, sym, subst, append_assoc}
use Rattle.std.specs.Prelude.{◌&&◌, if◌then◌else◌, nat_le, nat_lt, Option, Some, None}
use Rattle.lua_tree.specs.declared.tree.BinaryOp.{BinaryOp}
use Rattle.lua_tokens.specs.declared.kind.Kind.{Kind}
use Rattle.lua_tokens.specs.declared.kind.Kind.TheVariants as k
use Rattle.lua_tokens.specs.declared.kind.Role.{Role}
use Rattle.lua_tokens.specs.declared.kind.Role.TheVariants.{Plain, Math, Table}
use Rattle.lua_grammar.specs.declared.symbol.Mark.{Mark}
use Rattle.lua_grammar.specs.declared.symbol.Mark.TheVariants as m
use Rattle.lua_grammar.specs.declared.symbol.Action.{Action}
use Rattle.lua_grammar.specs.declared.symbol.Action.TheVariants as a
use Rattle.lua_grammar.specs.declared.symbol.Symbol.{Symbol}
use Rattle.lua_grammar.specs.declared.symbol.Symbol.TheVariants as s
use Rattle.lua_grammar.specs.declared.symbol.Row.{Row}
use Rattle.lua_grammar.specs.declared.symbol.Row.TheVariants.{Takes, Opens, Begins, Passes, Refuses}
use Rattle.lua_syntax.specs.declared.building.Building.{Building}
use Rattle.lua_tokens.specs.declared.pieces.Token.{Token}
use Rattle.lua_grammar.specs.Table as table
use Rattle.lua_grammar.specs.Table.{row, operand_row, level, most_open}
use Rattle.lua_syntax.specs.Building.{act}
use Rattle.lua_syntax.proofs.Derivation.{with_one_more}
use Rattle.lua_syntax.specs.Reading.{Step, Goes, Wrong, Deep, taken, opened, begun_by, by_row, step}
use Rattle.lua_syntax.proofs.Completing.{is_part, EndsInChunk}

-- whether all are parts of a chunk
abbrev pub are_parts : List Symbol → Bool
are_parts [] = true
are_parts (symbol ∷ symbols) = is_part symbol && are_parts symbols

-- whether a row leaves only parts of a chunk
abbrev pub leaves_parts : Row → Bool
leaves_parts (Takes body) = are_parts body
leaves_parts (Opens body) = are_parts body
leaves_parts (Begins body) = are_parts body
leaves_parts _ = true

-- ---- each row but that of the chunk

library_call_parts : (role : Role) (line : ℕ) → leaves_parts (table.library_target_row role line) ≡ true
library_call_parts Plain line = refl
library_call_parts Math line = refl
library_call_parts Table line = refl

operators_parts : (least : ℕ) (op : Option BinaryOp) (line : ℕ) → leaves_parts (table.operators_with least op line) ≡ true
operators_parts least None line = refl
operators_parts least (Some op) line = elim (nat_le least (level op)) as (λ (t : Bool). leaves_parts (if t then Opens (table.operation op line (s.Operators least ∷ [])) else Passes a.Nothing) ≡ true) [ true ↦ refl | false ↦ refl ]

mark_parts : (found : Bool) → leaves_parts (if found then Takes [] else Refuses) ≡ true
mark_parts true = refl
mark_parts false = refl

return_parts : (begins : Bool) → leaves_parts (if begins then Begins (s.Operators 1 ∷ s.Make a.ReturnWith ∷ []) else Passes a.ReturnWithout) ≡ true
return_parts true = refl
return_parts false = refl

break_parts : (opened : ℕ) (in_loop : Bool) → leaves_parts (table.break_row opened in_loop) ≡ true
break_parts opened true = refl
break_parts opened false = refl

after_name_parts : (role : Role) (name_line line : ℕ) → leaves_parts (table.after_name_row role name_line k.Dot line) ≡ true
after_name_parts Plain name_line line = refl
after_name_parts Math name_line line = refl
after_name_parts Table name_line line = refl

entry_operation_parts : (op : Option BinaryOp) (line : ℕ) → leaves_parts (table.entry_operation op line) ≡ true
entry_operation_parts None line = refl
entry_operation_parts (Some op) line = refl

entry_member_parts : (role : Role) (line : ℕ) → leaves_parts (table.entry_member role line) ≡ true
entry_member_parts Plain line = refl
entry_member_parts Math line = refl
entry_member_parts Table line = refl

pub row_parts : (symbol : Symbol) (opened : ℕ) (kind : Kind) (line : ℕ) → is_part symbol ≡ true → leaves_parts (row symbol opened kind line) ≡ true
unfolding row
row_parts s.Chunk opened kind line part = absurd (cc)
row_parts (s.Token mark) opened kind line part = mark_parts (table.is_mark mark kind)
row_parts s.Semicolon opened k.Semicolon line part = refl
row_parts s.Semicolon opened _ line part = refl
row_parts s.Parameters opened (k.Name role) line part = refl
row_parts s.Parameters opened k.RightParen line part = refl
row_parts s.Parameters opened _ line part = refl
row_parts s.MoreParameters opened k.Comma line part = refl
row_parts s.MoreParameters opened k.RightParen line part = refl
row_parts s.MoreParameters opened _ line part = refl
row_parts (s.Block in_loop) opened k.Break line part = break_parts opened in_loop
row_parts (s.Block in_loop) opened _ line part = refl
row_parts s.LocalValue opened k.Nil line part = refl
row_parts s.LocalValue opened _ line part = refl
row_parts s.ReturnValue opened kind line part = return_parts (table.begins_expression kind)
row_parts (s.ThenBlock in_loop) opened k.Nil line part = refl
row_parts (s.ThenBlock in_loop) opened _ line part = refl
row_parts (s.Arms in_loop) opened k.Nil line part = refl
row_parts (s.Arms in_loop) opened _ line part = refl
row_parts s.DoBlock opened k.Nil line part = refl
row_parts s.DoBlock opened _ line part = refl
row_parts (s.ForStep for_line) opened k.Nil line part = refl
row_parts (s.ForStep for_line) opened _ line part = refl
row_parts (s.Target role name_line) opened k.Nil line part = refl
row_parts (s.Target role name_line) opened _ line part = refl
row_parts (s.MemberTarget role dot_line) opened k.Nil line part = refl
row_parts (s.MemberTarget role dot_line) opened _ line part = refl
row_parts (s.TargetMember role dot_line name_line) opened k.LeftParen line part = library_call_parts role name_line
row_parts (s.TargetMember role dot_line name_line) opened _ line part = refl
row_parts (s.TargetIndex index_line) opened k.Nil line part = refl
row_parts (s.TargetIndex index_line) opened _ line part = refl
row_parts s.TargetCall opened k.Nil line part = refl
row_parts s.TargetCall opened _ line part = refl
row_parts s.Expression opened kind line part = refl
row_parts s.Key opened kind line part = refl
row_parts s.Operand opened kind line part = refl
row_parts (s.Operators least) opened kind line part = operators_parts least (table.binary_of kind) line
row_parts (s.AfterName role name_line) opened k.Dot line part = after_name_parts role name_line line
row_parts (s.AfterName role name_line) opened _ line part = refl
row_parts (s.LibraryName role dot_line) opened k.Nil line part = refl
row_parts (s.LibraryName role dot_line) opened _ line part = refl
row_parts (s.AfterMember role dot_line name_line) opened k.Nil line part = refl
row_parts (s.AfterMember role dot_line name_line) opened _ line part = refl
row_parts s.Suffix opened k.Nil line part = refl
row_parts s.Suffix opened _ line part = refl
row_parts s.Arguments opened k.Nil line part = refl
row_parts s.Arguments opened _ line part = refl
row_parts s.MoreArguments opened k.Nil line part = refl
row_parts s.MoreArguments opened _ line part = refl
row_parts s.Entries opened k.Nil line part = refl
row_parts s.Entries opened _ line part = refl
row_parts s.MoreEntries opened k.Nil line part = refl
row_parts s.MoreEntries opened _ line part = refl
row_parts (s.EntryName role name_line) opened k.Dot line part = entry_member_parts role line
row_parts (s.EntryName role name_line) opened _ line part = refl
row_parts (s.Make action) opened kind line part = refl

pub operand_parts : (opened : ℕ) (kind : Kind) (line : ℕ) → leaves_parts (operand_row opened kind line) ≡ true
operand_parts opened k.Nil line = refl
operand_parts opened _ line = refl

-- ---- steps

-- where a step goes on, its stack ends in the chunk
abbrev pub KeepsEnd : Step → Type 0
KeepsEnd (Goes next) = EndsInChunk next.stack
KeepsEnd Wrong = Unit {0}
KeepsEnd Deep = Unit {0}

both : (a b : Bool) → a && b ≡ true → (a ≡ true) × (b ≡ true)
both true b is = (refl, is)
both false b is = absurd (cc)

pub ends_above : (body : List Symbol) (symbol : Symbol) (stack : List Symbol) → are_parts body ≡ true → EndsInChunk (symbol ∷ stack) → EndsInChunk (body ++ symbol ∷ stack)
ends_above [] symbol stack parts fine = fine
ends_above (first ∷ []) symbol stack parts fine = ((both (is_part first) true parts).0, fine)
ends_above (first ∷ second ∷ body) symbol stack parts fine =
    let split = both (is_part first) (are_parts (second ∷ body)) parts in
    (split.0, ends_above (second ∷ body) symbol stack split.1 fine)

opened_keeps : (body : List Symbol) (token : Token) (parts : Building) → EndsInChunk body → KeepsEnd (opened body token parts)
opened_keeps body token parts fine =
    elim (nat_lt parts.opened most_open) as (λ (t : Bool). KeepsEnd (if t then taken body token (with_one_more parts) else Deep)) [ true ↦ fine | false ↦ tt ]

parts_behind : (body behind : List Symbol) → are_parts body ≡ true → are_parts behind ≡ true → are_parts (body ++ behind) ≡ true
parts_behind [] behind parts more = more
parts_behind (first ∷ body) behind parts more =
    let split = both (is_part first) (are_parts body) parts in
    ap (λ (t : Bool). t && are_parts (body ++ behind)) split.0 ∙ parts_behind body behind split.1 more

pub above_both : (body behind : List Symbol) (next : Symbol) (stack : List Symbol) → are_parts body ≡ true → are_parts behind ≡ true → EndsInChunk (next ∷ stack) →
    EndsInChunk (body ++ (behind ++ next ∷ stack))
above_both body behind next stack parts more fine = subst EndsInChunk (append_assoc body behind (next ∷ stack)) (ends_above (body ++ behind) next stack (parts_behind body behind parts more) fine)

begun_keeps : (r : Row) (next : Symbol) (stack behind : List Symbol) (token : Token) (parts : Building) → leaves_parts r ≡ true → are_parts behind ≡ true → EndsInChunk (next ∷ stack) →
    KeepsEnd (begun_by r (behind ++ next ∷ stack) token parts)
begun_keeps (Takes body) next stack behind token parts body_parts behind_parts fine = above_both body behind next stack body_parts behind_parts fine
begun_keeps (Opens body) next stack behind token parts body_parts behind_parts fine =
    opened_keeps (body ++ (behind ++ next ∷ stack)) token parts (above_both body behind next stack body_parts behind_parts fine)
begun_keeps (Begins body) next stack behind token parts body_parts behind_parts fine = tt
begun_keeps (Passes action) next stack behind token parts body_parts behind_parts fine = tt
begun_keeps Refuses next stack behind token parts body_parts behind_parts fine = tt

row_keeps : (r : Row) (next : Symbol) (stack : List Symbol) (token : Token) (parts : Building) → leaves_parts r ≡ true → EndsInChunk (next ∷ stack) →
    ((action : Action) → KeepsEnd (step (next ∷ stack) token (act action parts))) →
    KeepsEnd (by_row r (λ (action : Action). step (next ∷ stack) token (act action parts)) (next ∷ stack) token parts)
row_keeps (Takes body) next stack token parts leaves fine known = ends_above body next stack leaves fine
row_keeps (Opens body) next stack token parts leaves fine known = opened_keeps (body ++ next ∷ stack) token parts (ends_above body next stack leaves fine)
row_keeps (Begins behind) next stack token parts leaves fine known =
    begun_keeps (operand_row parts.opened token.kind token.line) next stack behind token parts (operand_parts parts.opened token.kind token.line) leaves fine
row_keeps (Passes action) next stack token parts leaves fine known = known action
row_keeps Refuses next stack token parts leaves fine known = tt

-- the row of the chunk, under which nothing stands
chunk_keeps : (kind : Kind) (line : ℕ) (text : List ℕ) (parts : Building) → KeepsEnd (step (s.Chunk ∷ []) (record { kind = kind; line = line; text = text }) parts)
unfolding step row
chunk_keeps k.Function line text parts = (refl, (refl, (refl, (refl, (refl, (refl, (refl, refl)))))))
chunk_keeps (k.Name role) line text parts = (refl, (refl, (refl, (refl, (refl, refl)))))
chunk_keeps k.EndOfText line text parts = tt
chunk_keeps _ line text parts = tt

pub keeps_end : (stack : List Symbol) (token : Token) (parts : Building) → EndsInChunk stack → KeepsEnd (step stack token parts)
unfolding step
keeps_end [] token parts fine = tt
keeps_end (symbol ∷ []) token parts fine = subst (λ (first : Symbol). KeepsEnd (step (first ∷ []) token parts)) (sym fine) (chunk_keeps token.kind token.line token.text parts)
keeps_end (symbol ∷ next ∷ stack) token parts fine =
    row_keeps (row symbol parts.opened token.kind token.line) next stack token parts (row_parts symbol parts.opened token.kind token.line fine.0) fine.1
    (λ action. keeps_end (next ∷ stack) token (act action parts) fine.1)

-- ---- the end of the text

-- the end of a text, on this line
abbrev pub end_on : ℕ → Token
end_on line = record { kind = k.EndOfText; line = line; text = [] }

-- where a step goes on, nothing is left to come
abbrev pub LeavesNothing : Step → Type 0
LeavesNothing (Goes next) = next.stack ≡ []
LeavesNothing Wrong = Unit {0}
LeavesNothing Deep = Unit {0}

-- no part of a chunk takes the end of the text
abbrev takes_none : Row → Bool
takes_none (Takes body) = false
takes_none (Opens body) = false
takes_none _ = true

no_mark : (mark : Mark) → takes_none (table.token_row mark k.EndOfText) ≡ true
no_mark m.Name = refl
no_mark _ = refl

end_row : (symbol : Symbol) (opened line : ℕ) → is_part symbol ≡ true → takes_none (row symbol opened k.EndOfText line) ≡ true
unfolding row
end_row s.Chunk opened line part = absurd (cc)
end_row (s.Token mark) opened line part = no_mark mark
end_row _ opened line part = refl

end_by_row : (r : Row) (next : Symbol) (stack : List Symbol) (line : ℕ) (parts : Building) → takes_none r ≡ true →
    ((action : Action) → LeavesNothing (step (next ∷ stack) (end_on line) (act action parts))) →
    LeavesNothing (by_row r (λ (action : Action). step (next ∷ stack) (end_on line) (act action parts)) (next ∷ stack) (end_on line) parts)
end_by_row (Takes body) next stack line parts none known = absurd (cc)
end_by_row (Opens body) next stack line parts none known = absurd (cc)
end_by_row (Begins behind) next stack line parts none known = tt
end_by_row (Passes action) next stack line parts none known = known action
end_by_row Refuses next stack line parts none known = tt

chunk_ends : (line : ℕ) (parts : Building) → LeavesNothing (step (s.Chunk ∷ []) (end_on line) parts)
unfolding step row
chunk_ends line parts = refl

pub end_leaves_nothing : (stack : List Symbol) (line : ℕ) (parts : Building) → EndsInChunk stack → LeavesNothing (step stack (end_on line) parts)
unfolding step
end_leaves_nothing [] line parts fine = tt
end_leaves_nothing (symbol ∷ []) line parts fine = subst (λ (first : Symbol). LeavesNothing (step (first ∷ []) (end_on line) parts)) (sym fine) (chunk_ends line parts)
end_leaves_nothing (symbol ∷ next ∷ stack) line parts fine =
    end_by_row (row symbol parts.opened k.EndOfText line) next stack line parts (end_row symbol parts.opened line fine.0) (λ action. end_leaves_nothing (next ∷ stack) line (act action parts) fine.1)
