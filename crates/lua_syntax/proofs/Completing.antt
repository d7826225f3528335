-- Each stack that is reached can be completed: behind what was read something can come that makes it a chunk.
use Rattle.std.proofs.Common.{◌≡◌, ℕ, Bool, true, false, List, [], ◌∷◌, ◌++◌, refl, sym, subst}
use Rattle.lua_tokens.specs.declared.kind.Kind.{Kind}
use Rattle.lua_tokens.specs.declared.kind.Kind.TheVariants as k
use Rattle.lua_tokens.specs.declared.kind.Role.TheVariants.{Plain}
use Rattle.lua_grammar.specs.declared.symbol.Mark.{Mark}
use Rattle.lua_grammar.specs.declared.symbol.Mark.TheVariants as m
use Rattle.lua_grammar.specs.declared.symbol.Action.{Action}
use Rattle.lua_grammar.specs.declared.symbol.Action.TheVariants as a
use Rattle.lua_grammar.specs.declared.symbol.Symbol.{Symbol}
use Rattle.lua_grammar.specs.declared.symbol.Symbol.TheVariants as s
use Rattle.lua_grammar.specs.declared.symbol.Row.TheVariants.{Takes, Opens, Begins, Passes}
use Rattle.lua_syntax.specs.declared.building.Building.{Building}
use Rattle.lua_tokens.specs.declared.pieces.Token.{Token}
use Rattle.lua_grammar.specs.Table.{row, operators_row, suffix_row, target_call_row, a_block, called, library_call}
use Rattle.lua_syntax.specs.Building.{act}
use Rattle.lua_syntax.specs.Reading.{keeps_text}
use Rattle.lua_syntax.proofs.Derivation.{Derives, nothing, takes, opens, begins, ends, with_one_more}

-- no operator, member or index goes on with this token
abbrev pub EndsOperand : Kind → Type 0
EndsOperand kind = ((least line : ℕ) → operators_row least kind line ≡ Passes a.Nothing)
    × ((opened line : ℕ) → suffix_row opened kind line ≡ Passes a.Nothing)
    × ((opened line : ℕ) → target_call_row opened kind line ≡ Passes a.CallStatement)

-- some token can come first, which ends operands, and others behind it
abbrev pub Completion : List Symbol → Building → Type 0
Completion stack parts = (first : Token) × (more : List Token) × EndsOperand first.kind × Derives stack parts (first ∷ more)

abbrev pub Completes : List Symbol → Type 0
Completes stack = (parts : Building) → Completion stack parts

-- a token for a completion
abbrev a_token : Kind → Token
a_token kind = record { kind = kind; line = 1; text = [] }

take_on : (symbol : Symbol) (stack : List Symbol) (kind : Kind) (body : ℕ → List Symbol) → ((opened : ℕ) → row symbol opened kind 1 ≡ Takes (body opened)) → EndsOperand kind →
    ((opened : ℕ) → Completes (body opened ++ stack)) → Completes (symbol ∷ stack)
take_on symbol stack kind body is ending behind = λ parts.
    let next = behind parts.opened (keeps_text kind [] parts) in
    (a_token kind, next.0 ∷ next.1, ending, takes symbol stack (body parts.opened) parts (a_token kind) (next.0 ∷ next.1) (is parts.opened) next.3)

open_on : (symbol : Symbol) (stack : List Symbol) (kind : Kind) (body : ℕ → List Symbol) → ((opened : ℕ) → row symbol opened kind 1 ≡ Opens (body opened)) → EndsOperand kind →
    ((opened : ℕ) → Completes (body opened ++ stack)) → Completes (symbol ∷ stack)
open_on symbol stack kind body is ending behind = λ parts.
    let next = behind parts.opened (keeps_text kind [] (with_one_more parts)) in
    (a_token kind, next.0 ∷ next.1, ending, opens symbol stack (body parts.opened) parts (a_token kind) (next.0 ∷ next.1) (is parts.opened) next.3)

-- what begins with an operand begins with `nil`
nil_on : (symbol : Symbol) (stack : List Symbol) (body : ℕ → List Symbol) → ((opened : ℕ) → row symbol opened k.Nil 1 ≡ Begins (body opened)) →
    ((opened : ℕ) → Completes (s.Make a.Nil ∷ (body opened ++ stack))) → Completes (symbol ∷ stack)
nil_on symbol stack body is behind = λ parts.
    let next = behind parts.opened parts in (
      a_token k.Nil,
      next.0 ∷ next.1,
      (λ least line. refl, λ opened line. refl, λ opened line. refl),
      begins symbol stack (body parts.opened) (s.Make a.Nil ∷ []) parts (a_token k.Nil) (next.0 ∷ next.1) (is parts.opened) refl next.3,
    )

make_on : (action : Action) (stack : List Symbol) → Completes stack → Completes (s.Make action ∷ stack)
unfolding row
make_on action stack behind = λ parts.
    let next = behind (act action parts) in
    (next.0, next.1, next.2, ends (s.Make action) stack action parts next.0 next.1 refl next.3)

operators_on : (least : ℕ) (stack : List Symbol) → Completes stack → Completes (s.Operators least ∷ stack)
unfolding row
operators_on least stack behind = λ parts.
    let next = behind (act a.Nothing parts) in
    (next.0, next.1, next.2, ends (s.Operators least) stack a.Nothing parts next.0 next.1 (next.2.0 least next.0.line) next.3)

suffix_on : (stack : List Symbol) → Completes stack → Completes (s.Suffix ∷ stack)
unfolding row
suffix_on stack behind = λ parts.
    let next = behind (act a.Nothing parts) in
    (next.0, next.1, next.2, ends s.Suffix stack a.Nothing parts next.0 next.1 (next.2.1 parts.opened next.0.line) next.3)

target_call_on : (stack : List Symbol) → Completes stack → Completes (s.TargetCall ∷ stack)
unfolding row
target_call_on stack behind = λ parts.
    let next = behind (act a.CallStatement parts) in
    (next.0, next.1, next.2, ends s.TargetCall stack a.CallStatement parts next.0 next.1 (next.2.2 parts.opened next.0.line) next.3)

mark_on : (mark : Mark) (stack : List Symbol) → Completes stack → Completes (s.Token mark ∷ stack)
unfolding row
mark_on m.Name stack b = take_on _ stack (k.Name Plain) (λ n. []) (λ n. refl) (λ l n. refl, λ l n. refl, λ l n. refl) (λ n. b)
mark_on m.Assign stack b = take_on _ stack k.Assign (λ n. []) (λ n. refl) (λ l n. refl, λ l n. refl, λ l n. refl) (λ n. b)
mark_on m.Comma stack b = take_on _ stack k.Comma (λ n. []) (λ n. refl) (λ l n. refl, λ l n. refl, λ l n. refl) (λ n. b)
mark_on m.End stack b = take_on _ stack k.End (λ n. []) (λ n. refl) (λ l n. refl, λ l n. refl, λ l n. refl) (λ n. b)
mark_on m.Until stack b = take_on _ stack k.Until (λ n. []) (λ n. refl) (λ l n. refl, λ l n. refl, λ l n. refl) (λ n. b)
mark_on m.LeftParen stack b = take_on _ stack k.LeftParen (λ n. []) (λ n. refl) (λ l n. refl, λ l n. refl, λ l n. refl) (λ n. b)
mark_on m.RightParen stack b = take_on _ stack k.RightParen (λ n. []) (λ n. refl) (λ l n. refl, λ l n. refl, λ l n. refl) (λ n. b)
mark_on m.RightBracket stack b = take_on _ stack k.RightBracket (λ n. []) (λ n. refl) (λ l n. refl, λ l n. refl, λ l n. refl) (λ n. b)

semicolon_on : (stack : List Symbol) → Completes stack → Completes (s.Semicolon ∷ stack)
unfolding row
semicolon_on stack b = take_on _ stack k.Semicolon (λ n. []) (λ n. refl) (λ l n. refl, λ l n. refl, λ l n. refl) (λ n. b)

expression_on : (stack : List Symbol) → Completes stack → Completes (s.Expression ∷ stack)
unfolding row
expression_on stack b = nil_on _ stack (λ n. s.Operators 1 ∷ []) (λ n. refl) (λ n. make_on a.Nil (s.Operators 1 ∷ stack) (operators_on 1 stack b))

key_on : (stack : List Symbol) → Completes stack → Completes (s.Key ∷ stack)
unfolding row
key_on stack b = nil_on _ stack (λ n. s.Operators 1 ∷ s.Token m.RightBracket ∷ s.Make (a.Restore n) ∷ []) (λ n. refl) (λ n.
    make_on a.Nil (s.Operators 1 ∷ s.Token m.RightBracket ∷ s.Make (a.Restore n) ∷ stack) (operators_on 1 (s.Token m.RightBracket ∷ s.Make (a.Restore n) ∷ stack)
    (mark_on m.RightBracket (s.Make (a.Restore n) ∷ stack) (make_on (a.Restore n) stack b))))

-- an expression, of which something is made
made_on : (action : Action) (stack : List Symbol) → Completes stack → Completes (s.Expression ∷ s.Make action ∷ stack)
made_on action stack b = expression_on (s.Make action ∷ stack) (make_on action stack b)

return_value_on : (stack : List Symbol) → Completes stack → Completes (s.ReturnValue ∷ stack)
unfolding row
return_value_on stack b = nil_on _ stack (λ n. s.Operators 1 ∷ s.Make a.ReturnWith ∷ []) (λ n. refl)
    (λ n. make_on a.Nil (s.Operators 1 ∷ s.Make a.ReturnWith ∷ stack) (operators_on 1 (s.Make a.ReturnWith ∷ stack) (make_on a.ReturnWith stack b)))

-- a block is completed by `return nil;`
block_on : (in_loop : Bool) (stack : List Symbol) → Completes stack → Completes (s.Block in_loop ∷ stack)
unfolding row
block_on in_loop stack b = take_on _ stack k.Return (λ n. s.ReturnValue ∷ s.Make (a.Restore n) ∷ s.Semicolon ∷ []) (λ n. refl) (λ l n. refl, λ l n. refl, λ l n. refl)
    (λ n. return_value_on (s.Make (a.Restore n) ∷ s.Semicolon ∷ stack) (make_on (a.Restore n) (s.Semicolon ∷ stack) (semicolon_on stack b)))

a_block_on : (opened : ℕ) (in_loop : Bool) (stack : List Symbol) → Completes stack → Completes (a_block opened in_loop [] ++ stack)
a_block_on opened in_loop stack b = make_on a.StartBlock (s.Block in_loop ∷ s.Make (a.Restore opened) ∷ stack)
    (block_on in_loop (s.Make (a.Restore opened) ∷ stack) (make_on (a.Restore opened) stack b))

called_on : (call : Action) (stack : List Symbol) → Completes stack → Completes (called call [] ++ stack)
unfolding row
called_on call stack b = make_on a.StartArguments (s.Arguments ∷ s.Make call ∷ stack)
    (take_on _ (s.Make call ∷ stack) k.RightParen (λ n. []) (λ n. refl) (λ l n. refl, λ l n. refl, λ l n. refl) (λ n. make_on call stack b))

-- a symbol before what can be completed
add : (symbol : Symbol) (stack : List Symbol) → Completes stack → Completes (symbol ∷ stack)
unfolding row
add s.Chunk stack b = take_on _ stack k.EndOfText (λ n. []) (λ n. refl) (λ l n. refl, λ l n. refl, λ l n. refl) (λ n. b)
add (s.Token mark) stack b = mark_on mark stack b
add s.Semicolon stack b = semicolon_on stack b
add s.Parameters stack b = open_on _ stack k.RightParen (λ n. a_block n false []) (λ n. refl) (λ l n. refl, λ l n. refl, λ l n. refl) (λ n. a_block_on n false stack b)
add s.MoreParameters stack b = open_on _ stack k.RightParen (λ n. a_block n false []) (λ n. refl) (λ l n. refl, λ l n. refl, λ l n. refl) (λ n. a_block_on n false stack b)
add (s.Block in_loop) stack b = block_on in_loop stack b
add s.LocalValue stack b = take_on _ stack k.Assign (λ n. s.Expression ∷ s.Make a.LocalWith ∷ []) (λ n. refl) (λ l n. refl, λ l n. refl, λ l n. refl) (λ n. made_on a.LocalWith stack b)
add s.ReturnValue stack b = return_value_on stack b
add (s.ThenBlock in_loop) stack b = open_on _ stack k.Then (λ n. a_block n in_loop []) (λ n. refl) (λ l n. refl, λ l n. refl, λ l n. refl) (λ n. a_block_on n in_loop stack b)
add (s.Arms in_loop) stack b = take_on _ stack k.End (λ n. s.Make a.If ∷ []) (λ n. refl) (λ l n. refl, λ l n. refl, λ l n. refl) (λ n. make_on a.If stack b)
add s.DoBlock stack b = open_on _ stack k.Do (λ n. a_block n true []) (λ n. refl) (λ l n. refl, λ l n. refl, λ l n. refl) (λ n. a_block_on n true stack b)
add (s.ForStep line) stack b = open_on _ stack k.Do (λ n. a_block n true (s.Token m.End ∷ s.Make (a.For line) ∷ [])) (λ n. refl) (λ l n. refl, λ l n. refl, λ l n. refl)
    (λ n. a_block_on n true (s.Token m.End ∷ s.Make (a.For line) ∷ stack) (mark_on m.End (s.Make (a.For line) ∷ stack) (make_on (a.For line) stack b)))
add (s.Target role line) stack b = take_on _ stack k.Assign (λ n. s.Expression ∷ s.Make a.Assign ∷ []) (λ n. refl) (λ l n. refl, λ l n. refl, λ l n. refl) (λ n. made_on a.Assign stack b)
add (s.MemberTarget role line) stack b = take_on _ stack (k.Name Plain) (λ n. s.TargetMember role line 1 ∷ []) (λ n. refl) (λ l n. refl, λ l n. refl, λ l n. refl)
    (λ n. take_on _ stack k.Assign (λ n. s.Expression ∷ s.Make (a.SetMember line) ∷ []) (λ n. refl) (λ l n. refl, λ l n. refl, λ l n. refl) (λ n. made_on (a.SetMember line) stack b))
add (s.TargetMember role line name_line) stack b = take_on _ stack k.Assign (λ n. s.Expression ∷ s.Make (a.SetMember line) ∷ []) (λ n. refl) (λ l n. refl, λ l n. refl, λ l n. refl) (λ n. made_on (a.SetMember line) stack b)
add (s.TargetIndex line) stack b = take_on _ stack k.Assign (λ n. s.Expression ∷ s.Make (a.SetIndex line) ∷ []) (λ n. refl) (λ l n. refl, λ l n. refl, λ l n. refl) (λ n. made_on (a.SetIndex line) stack b)
add s.TargetCall stack b = target_call_on stack b
add s.Expression stack b = expression_on stack b
add s.Key stack b = key_on stack b
add s.Operand stack b = nil_on _ stack (λ n. []) (λ n. refl) (λ n. make_on a.Nil stack b)
add (s.Operators least) stack b = operators_on least stack b
add (s.AfterName role line) stack b = open_on _ stack k.LeftParen (λ n. called (a.Call line) []) (λ n. refl) (λ l n. refl, λ l n. refl, λ l n. refl) (λ n. called_on (a.Call line) stack b)
add (s.LibraryName role line) stack b = take_on _ stack (k.Name Plain) (λ n. s.AfterMember role line 1 ∷ []) (λ n. refl) (λ l n. refl, λ l n. refl, λ l n. refl)
    (λ n. open_on _ stack k.LeftParen (λ n. called (library_call role 1) []) (λ n. refl) (λ l n. refl, λ l n. refl, λ l n. refl) (λ n. called_on (library_call role 1) stack b))
add (s.AfterMember role line name_line) stack b = open_on _ stack k.LeftParen (λ n. called (library_call role name_line) []) (λ n. refl) (λ l n. refl, λ l n. refl, λ l n. refl) (λ n. called_on (library_call role name_line) stack b)
add s.Suffix stack b = suffix_on stack b
add s.Arguments stack b = take_on _ stack k.RightParen (λ n. []) (λ n. refl) (λ l n. refl, λ l n. refl, λ l n. refl) (λ n. b)
add s.MoreArguments stack b = take_on _ stack k.RightParen (λ n. []) (λ n. refl) (λ l n. refl, λ l n. refl, λ l n. refl) (λ n. b)
add s.Entries stack b = take_on _ stack k.RightBrace (λ n. []) (λ n. refl) (λ l n. refl, λ l n. refl, λ l n. refl) (λ n. b)
add s.MoreEntries stack b = take_on _ stack k.RightBrace (λ n. []) (λ n. refl) (λ l n. refl, λ l n. refl, λ l n. refl) (λ n. b)
add (s.EntryName role line) stack b = take_on _ stack k.Assign (λ n. s.Expression ∷ s.Make a.AddNamed ∷ []) (λ n. refl) (λ l n. refl, λ l n. refl, λ l n. refl) (λ n. made_on a.AddNamed stack b)
add (s.Make action) stack b = make_on action stack b

-- ---- stacks that are reached

-- whether a symbol is a part of a chunk
abbrev pub is_part : Symbol → Bool
is_part s.Chunk = false
is_part _ = true

-- nothing is left to come; or the chunk is the last, and parts stand before it
abbrev pub EndsInChunk : List Symbol → Type 0
EndsInChunk [] = Unit {0}
EndsInChunk (symbol ∷ []) = symbol ≡ s.Chunk
EndsInChunk (symbol ∷ next ∷ stack) = (is_part symbol ≡ true) × EndsInChunk (next ∷ stack)

chunk_alone : Completes (s.Chunk ∷ [])
unfolding row
chunk_alone = λ parts. (a_token k.EndOfText, [], (λ l n. refl, λ l n. refl, λ l n. refl), takes s.Chunk [] [] parts (a_token k.EndOfText) [] refl (nothing parts))

completes : (symbol : Symbol) (stack : List Symbol) → EndsInChunk (symbol ∷ stack) → Completes (symbol ∷ stack)
completes symbol [] fine = subst (λ (first : Symbol). Completes (first ∷ [])) (sym fine) chunk_alone
completes symbol (next ∷ stack) fine = add symbol (next ∷ stack) (completes next stack fine.1)

-- some tokens complete each stack that is reached
pub completed : (stack : List Symbol) (parts : Building) → EndsInChunk stack → (more : List Token) × Derives stack parts more
completed [] parts fine = ([], nothing parts)
completed (symbol ∷ stack) parts fine = let c = completes symbol stack fine parts in (c.0 ∷ c.1, c.3)
