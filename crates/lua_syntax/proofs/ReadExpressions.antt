-- Each expression of the grammar is read: from the symbol that it stands for, to what stands behind it.
use Rattle.std.proofs.Common.{◌≡◌, ℕ, ◌+◌, Bool, true, false, List, [], ◌∷◌, ◌++◌, refl, ap, ◌∙◌, sym, subst}
use Rattle.std.specs.Prelude.{if◌then◌else◌, nat_le, Option, Some, None}
use Rattle.lua_tree.specs.declared.tree.UnaryOp.TheVariants as unary
use Rattle.lua_tree.specs.declared.tree.BinaryOp.{BinaryOp}
use Rattle.lua_tree.specs.declared.tree.BinaryOp.TheVariants as binary
use Rattle.lua_tree.specs.declared.tree.Item.{Item}
use Rattle.lua_tree.specs.declared.tree.Expr.{Expr}
use Rattle.lua_tree.specs.declared.tree.Entry.{Entry}
use Rattle.lua_tokens.specs.declared.kind.Kind.{Kind}
use Rattle.lua_tokens.specs.declared.kind.Kind.TheVariants as k
use Rattle.lua_tokens.specs.declared.kind.Role.{Role}
use Rattle.lua_tokens.specs.declared.kind.Role.TheVariants.{Plain, Math, Table}
use Rattle.lua_tokens.specs.declared.pieces.Token.{Token}
use Rattle.lua_grammar.specs.declared.symbol.Mark.TheVariants as m
use Rattle.lua_grammar.specs.declared.symbol.Action.TheVariants as a
use Rattle.lua_grammar.specs.declared.symbol.Symbol.{Symbol}
use Rattle.lua_grammar.specs.declared.symbol.Symbol.TheVariants as s
use Rattle.lua_grammar.specs.declared.symbol.Row.TheVariants.{Opens, Begins, Passes}
use Rattle.lua_grammar.specs.Table as table
use Rattle.lua_grammar.specs.Table.{row, operand_row, level, right_level, binary_of, begins_expression, is_library}
use Rattle.lua_grammar.specs.Grammar as f
use Rattle.lua_grammar.specs.Grammar.{token, Is, is, IsName, name, Without, without, is_paren, is_dot, is_suffix, is_assign, calls, binds, op_binds, IsExpression, IsOperations, IsOperand, IsNamed, IsLibrarys, IsFunction, AreSuffixes, AreArguments, AreMoreArguments, AreEntries, AreMoreEntries, IsEntry}
use Rattle.lua_grammar.specs.Nesting as nest
use Rattle.lua_syntax.specs.declared.building.Building.{Building}
use Rattle.lua_syntax.specs.Building.{act, act_expression, act_list, act_statement, act_block, act_item, at_end}
use Rattle.lua_syntax.proofs.Derivation.{with_one_more}
use Rattle.lua_syntax.specs.Reading.{keeps_text}
use Rattle.lua_syntax.proofs.TokensRead.{Reads, takes, opens, begins, begins_open, ends, onto, made}
use Rattle.lua_syntax.proofs.Meaning.{extend, extend_is}

-- what is open behind, by what is open before
abbrev pub Behind : Type 0
Behind = ℕ → List (Option ℕ)

-- ---- symbols that end before a token

suffix_ends : (opened line : ℕ) (kind : Kind) → is_suffix kind ≡ false → row s.Suffix opened kind line ≡ Passes a.Nothing
unfolding row
suffix_ends opened line k.Dot isnt = absurd (cc)
suffix_ends opened line k.LeftBracket isnt = absurd (cc)
suffix_ends opened line _ isnt = refl

operators_with_ends : (least line : ℕ) (op : Option BinaryOp) → op_binds least op ≡ false → table.operators_with least op line ≡ Passes a.Nothing
operators_with_ends least line None isnt = refl
operators_with_ends least line (Some op) isnt = ap (λ (t : Bool). if t then Opens (table.operation op line (s.Operators least ∷ [])) else Passes a.Nothing) isnt

operators_end : (least opened line : ℕ) (kind : Kind) → binds least kind ≡ false → row (s.Operators least) opened kind line ≡ Passes a.Nothing
unfolding row
operators_end least opened line kind isnt = operators_with_ends least line (binary_of kind) isnt

operators_open : (least opened line : ℕ) (op : BinaryOp) (kind : Kind) → binary_of kind ≡ Some op → nat_le least (level op) ≡ true →
    row (s.Operators least) opened kind line ≡ Opens (table.operation op line (s.Operators least ∷ []))
unfolding row
operators_open least opened line op kind same tight =
    ap (λ (o : Option BinaryOp). table.operators_with least o line) same ∙ ap (λ (t : Bool). if t then Opens (table.operation op line (s.Operators least ∷ [])) else Passes a.Nothing) tight

name_ends : (role : Role) (name_line opened line : ℕ) (kind : Kind) → calls role kind ≡ false → row (s.AfterName role name_line) opened kind line ≡ Passes a.Name
unfolding row
name_ends Plain name_line opened line k.LeftParen isnt = absurd (cc)
name_ends Math name_line opened line k.LeftParen isnt = absurd (cc)
name_ends Table name_line opened line k.LeftParen isnt = absurd (cc)
name_ends Plain name_line opened line k.Dot isnt = refl
name_ends Math name_line opened line k.Dot isnt = absurd (cc)
name_ends Table name_line opened line k.Dot isnt = absurd (cc)
name_ends role name_line opened line _ isnt = refl

member_ends : (role : Role) (dot_line line opened at : ℕ) (kind : Kind) → is_paren kind ≡ false → row (s.AfterMember role dot_line line) opened kind at ≡ Passes (a.Member dot_line)
unfolding row
member_ends role dot_line line opened at k.LeftParen isnt = absurd (cc)
member_ends role dot_line line opened at _ isnt = refl

library_opens : (role : Role) (name_line opened line : ℕ) → is_library role ≡ true → row (s.AfterName role name_line) opened k.Dot line ≡ Opens (s.Make a.Name ∷ s.LibraryName role line ∷ [])
unfolding row
library_opens Plain name_line opened line does = absurd (cc)
library_opens Math name_line opened line does = refl
library_opens Table name_line opened line does = refl

-- an operator keeps isnt text
keeps_none : (op : BinaryOp) (kind : Kind) (text : List ℕ) (b : Building) → binary_of kind ≡ Some op → keeps_text kind text b ≡ b
keeps_none op (k.Operator other) text b same = refl
keeps_none op k.Minus text b same = refl
keeps_none op (k.Name role) text b same = absurd (cc)
keeps_none op k.Str text b same = absurd (cc)
keeps_none op _ text b same = refl

-- ---- the first token of an operand

abbrev pub first_kind : {ts rest : List Token} {x : Expr} → IsOperand ts x rest → Kind
first_kind (f.nil _) = k.Nil
first_kind (f.yes _) = k.True
first_kind (f.no _) = k.False
first_kind (f.number {value = value} _) = k.Number value
first_kind f.string = k.Str
first_kind (f.prefix {role = role} _ _) = k.Name role
first_kind (f.grouping _ _ _) = k.LeftParen
first_kind (f.construct _ _) = k.LeftBrace
first_kind (f.negation _) = k.Not
first_kind (f.minus _) = k.Minus
first_kind (f.length_of _) = k.Hash

pub first_begins : {ts rest : List Token} {x : Expr} (d : IsOperand ts x rest) → begins_expression (first_kind d) ≡ true
first_begins (f.nil _) = refl
first_begins (f.yes _) = refl
first_begins (f.no _) = refl
first_begins (f.number _) = refl
first_begins f.string = refl
first_begins (f.prefix _ _) = refl
first_begins (f.grouping _ _ _) = refl
first_begins (f.construct _ _) = refl
first_begins (f.negation _) = refl
first_begins (f.minus _) = refl
first_begins (f.length_of _) = refl

-- of an expression
abbrev pub first_of : {least : ℕ} {ts rest : List Token} {x : Expr} → IsExpression least ts x rest → Kind
first_of (f.expression operand _) = first_kind operand

-- the row of arguments and of a value to return, before an expression
arguments_begin : (opened : ℕ) (kind : Kind) → begins_expression kind ≡ true → table.arguments_row opened kind ≡ Begins (s.Operators 1 ∷ s.Make a.AddArgument ∷ s.Make (a.Restore opened) ∷ s.MoreArguments ∷ [])
arguments_begin opened k.RightParen does = absurd (cc)
arguments_begin opened _ does = refl

first_of_begins : {least : ℕ} {ts rest : List Token} {x : Expr} (d : IsExpression least ts x rest) → begins_expression (first_of d) ≡ true
first_of_begins (f.expression operand _) = first_begins operand

pub return_begins : {ts rest : List Token} {x : Expr} (d : IsExpression 1 ts x rest) (opened line : ℕ) → row s.ReturnValue opened (first_of d) line ≡ Begins (s.Operators 1 ∷ s.Make a.ReturnWith ∷ [])
unfolding row
return_begins d opened line = ap (λ (t : Bool). if t then Begins (s.Operators 1 ∷ s.Make a.ReturnWith ∷ []) else Passes a.ReturnWithout) (first_of_begins d)

argument_begins : {ts rest : List Token} {x : Expr} (d : IsExpression 1 ts x rest) (opened line : ℕ) → row s.Arguments opened (first_of d) line ≡ Begins (s.Operators 1 ∷ s.Make a.AddArgument ∷ s.Make (a.Restore opened) ∷ s.MoreArguments ∷ [])
unfolding row
argument_begins d opened line = arguments_begin opened (first_of d) (first_of_begins d)

-- ---- entries that begin with a name

-- what goes on with an entry that is an expression, and then the entry's end
abbrev on_and_on : ℕ → List Symbol → List Symbol
on_and_on opened stack = s.Make (a.Restore opened) ∷ s.MoreEntries ∷ stack

entry_dot : (role : Role) (name_line opened line : ℕ) → calls role k.Dot ≡ false →
    row (s.EntryName role name_line) opened k.Dot line ≡ Opens (s.Make a.Name ∷ s.Token m.Name ∷ s.Make (a.Member line) ∷ table.item_goes_on)
unfolding row
entry_dot Plain name_line opened line isnt = refl
entry_dot Math name_line opened line isnt = absurd (cc)
entry_dot Table name_line opened line isnt = absurd (cc)

entry_library : (role : Role) (name_line opened line : ℕ) → is_library role ≡ true →
    row (s.EntryName role name_line) opened k.Dot line ≡ Opens (s.Make a.Name ∷ s.LibraryName role line ∷ table.item_goes_on)
unfolding row
entry_library Plain name_line opened line does = absurd (cc)
entry_library Math name_line opened line does = refl
entry_library Table name_line opened line does = refl

entry_operator : (role : Role) (name_line opened line : ℕ) (op : BinaryOp) (kind : Kind) → binary_of kind ≡ Some op →
    row (s.EntryName role name_line) opened kind line ≡ Opens (s.Make a.Name ∷ table.operation op line (s.Operators 1 ∷ s.Make a.AddValue ∷ []))
unfolding row
entry_operator role name_line opened line op k.Assign same = absurd (cc)
entry_operator role name_line opened line op k.LeftParen same = absurd (cc)
entry_operator role name_line opened line op k.LeftBracket same = absurd (cc)
entry_operator role name_line opened line op k.Dot same = absurd (cc)
entry_operator role name_line opened line op kind same = ap (λ (o : Option BinaryOp). table.entry_operation o line) same

weak_operator : (op : BinaryOp) → nat_le 1 (level op) ≡ false → ⊥
weak_operator binary.Or isnt = cc
weak_operator binary.And isnt = cc
weak_operator binary.Less isnt = cc
weak_operator binary.Greater isnt = cc
weak_operator binary.LessEqual isnt = cc
weak_operator binary.GreaterEqual isnt = cc
weak_operator binary.NotEqual isnt = cc
weak_operator binary.Equal isnt = cc
weak_operator binary.Join isnt = cc
weak_operator binary.Plus isnt = cc
weak_operator binary.Minus isnt = cc
weak_operator binary.Times isnt = cc
weak_operator binary.Over isnt = cc
weak_operator binary.Mod isnt = cc

entry_name_ends : (role : Role) (name_line opened line : ℕ) (kind : Kind) → calls role kind ≡ false → is_suffix kind ≡ false → binds 1 kind ≡ false → is_assign kind ≡ false →
    row (s.EntryName role name_line) opened kind line ≡ Passes a.AddName
unfolding row
entry_name_ends role name_line opened line k.Assign c1 c2 c3 c4 = absurd (cc)
entry_name_ends Plain name_line opened line k.LeftParen c1 c2 c3 c4 = absurd (cc)
entry_name_ends Math name_line opened line k.LeftParen c1 c2 c3 c4 = absurd (cc)
entry_name_ends Table name_line opened line k.LeftParen c1 c2 c3 c4 = absurd (cc)
entry_name_ends role name_line opened line k.LeftBracket c1 c2 c3 c4 = absurd (cc)
entry_name_ends role name_line opened line k.Dot c1 c2 c3 c4 = absurd (cc)
entry_name_ends role name_line opened line (k.Operator op) c1 c2 c3 c4 = absurd (weak_operator op c3)
entry_name_ends role name_line opened line k.Minus c1 c2 c3 c4 = absurd (weak_operator binary.Minus c3)
entry_name_ends role name_line opened line _ c1 c2 c3 c4 = refl

-- the token behind the first is not the one of such a kind
abbrev fails : (Kind → Bool) → List Token → Type 0
fails test [] = ⊥
fails test (first ∷ more) = test first.kind ≡ false

failed : {test : Kind → Bool} {ts : List Token} → Without test ts → fails test ts
failed (without isnt) = isnt

-- isnt `=` stands behind an entry
no_assign : {ts rest : List Token} {more : List Entry} → AreMoreEntries ts more rest → fails is_assign ts
no_assign (f.last_entry is) = refl
no_assign (f.comma is _) = refl
no_assign (f.semicolon is _) = refl

-- a name alone, as an entry
name_entry : (role : Role) (line : ℕ) (stack : List Symbol) (b : Building) (ts : List Token) (depths : List (Option ℕ)) (items : List Item) →
    fails (calls role) ts → fails is_suffix ts → fails (binds 1) ts → fails is_assign ts → Reads stack (act a.AddName b) ts depths items → Reads (s.EntryName role line ∷ stack) b ts depths items
name_entry role line stack b [] depths items c1 c2 c3 c4 h = absurd c1
name_entry role line stack b (first ∷ more) depths items c1 c2 c3 c4 h = ends _ _ _ _ _ _ _ _ (entry_name_ends role line b.opened first.line first.kind c1 c2 c3 c4) h

-- arguments and entries whose bracket was just taken
pub arguments_from : (args : List Expr) (stack : List Symbol) (b : Building) (ts : List Token) (depths : List (Option ℕ)) (items : List Item) →
    Reads stack (record b { lists = args ∷ b.lists }) ts depths items → Reads stack (record b { lists = extend args ([] ∷ b.lists) }) ts depths items
arguments_from args stack b ts depths items h = subst (λ (lists : List (List Expr)). Reads stack (record b { lists = lists }) ts depths items) (sym (extend_is args [] b.lists)) h

entries_from : (all : List Entry) (stack : List Symbol) (b : Building) (ts : List Token) (depths : List (Option ℕ)) (items : List Item) →
    Reads stack (record b { entries = all ∷ b.entries }) ts depths items → Reads stack (record b { entries = extend all ([] ∷ b.entries) }) ts depths items
entries_from all stack b ts depths items h = subst (λ (lists : List (List Entry)). Reads stack (record b { entries = lists }) ts depths items) (sym (extend_is all [] b.entries)) h

-- an operator, taken
operator_taken : (op : BinaryOp) (symbol : Symbol) (stack body : List Symbol) (b : Building) (kind : Kind) (line : ℕ) (text : List ℕ) (ts : List Token) (depths : List (Option ℕ)) (items : List Item) →
    binary_of kind ≡ Some op → row symbol b.opened kind line ≡ Opens body → Reads (body ++ stack) (with_one_more b) ts depths items →
    Reads (symbol ∷ stack) b (token kind line text ∷ ts) (Some (b.opened + 1) ∷ depths) items
operator_taken op symbol stack body b kind line text ts depths items same row_is h =
    opens symbol stack body b (token kind line text) ts depths items row_is (subst (λ (c : Building). Reads (body ++ stack) c ts depths items) (sym (keeps_none op kind text (with_one_more b) same)) h)

-- ---- each form

mutual
  unfolding row act act_expression act_list act_statement act_block act_item

  pub read_expression : {least : ℕ} {ts rest : List Token} {x : Expr} (d : IsExpression least ts x rest) (symbol : Symbol) (stack behind : List Symbol) (b : Building) (on : Behind) (items : List Item) →
      ((line : ℕ) → row symbol b.opened (first_of d) line ≡ Begins (s.Operators least ∷ behind)) →
      ((n : ℕ) → Reads (behind ++ stack) (record b { exprs = x ∷ b.exprs; opened = n }) rest (on n) items) → Reads (symbol ∷ stack) b ts (onto (nest.in_expression d) on b.opened) items
  read_expression {least = least} (f.expression operand operations) symbol stack behind b on items begin next =
      read_operand operand symbol stack (s.Operators least ∷ behind) b _ items begin (λ n. read_operations operations (behind ++ stack) (record b { opened = n }) b.exprs on items next)

  pub read_operations : {least : ℕ} {left x : Expr} {ts rest : List Token} (d : IsOperations least left ts x rest) (stack : List Symbol) (b : Building) (others : List Expr) (on : Behind) (items : List Item) →
      ((n : ℕ) → Reads stack (record b { exprs = x ∷ others; opened = n }) rest (on n) items) → Reads (s.Operators least ∷ stack) (record b { exprs = left ∷ others }) ts (onto (nest.in_operations d) on b.opened) items
  read_operations {least = least} (f.no_more (without {first = first} isnt)) stack b others on items next = ends _ _ _ _ _ _ _ _ (operators_end least b.opened first.line first.kind isnt) (next b.opened)
  read_operations {least = least} (f.operation {line = line} {kind = kind} {op = op} same tight (f.expression operand inner) more) stack b others on items next =
      operator_taken op _ _ _ _ _ _ _ _ _ _ same (operators_open least b.opened line op kind same tight)
      (read_operand operand s.Operand (s.Operators (right_level op) ∷ s.Make (a.Binary op line) ∷ s.Operators least ∷ stack) [] (record b { opened = b.opened + 1; exprs = _ ∷ others }) _ items (λ l. refl)
      (λ n1. read_operations inner (s.Make (a.Binary op line) ∷ s.Operators least ∷ stack) (record b { opened = n1 }) (_ ∷ others) _ items
      (λ n2. made (a.Binary op line) _ _ _ _ items (read_operations more stack (record b { opened = n2 }) others on items next))))

  pub read_operand : {ts rest : List Token} {x : Expr} (d : IsOperand ts x rest) (symbol : Symbol) (stack behind : List Symbol) (b : Building) (on : Behind) (items : List Item) →
      ((line : ℕ) → row symbol b.opened (first_kind d) line ≡ Begins behind) →
      ((n : ℕ) → Reads (behind ++ stack) (record b { exprs = x ∷ b.exprs; opened = n }) rest (on n) items) → Reads (symbol ∷ stack) b ts (onto (nest.in_operand d) on b.opened) items
  read_operand (f.nil is) symbol stack behind b on items begin next = begins _ _ _ _ _ _ _ _ _ (begin _) refl (made a.Nil _ _ _ _ _ (next b.opened))
  read_operand (f.yes is) symbol stack behind b on items begin next = begins _ _ _ _ _ _ _ _ _ (begin _) refl (made a.True _ _ _ _ _ (next b.opened))
  read_operand (f.no is) symbol stack behind b on items begin next = begins _ _ _ _ _ _ _ _ _ (begin _) refl (made a.False _ _ _ _ _ (next b.opened))
  read_operand (f.number {value = value} is) symbol stack behind b on items begin next = begins _ _ _ _ _ _ _ _ _ (begin _) refl (made (a.Number value) _ _ _ _ _ (next b.opened))
  read_operand (f.string {line = line}) symbol stack behind b on items begin next = begins _ _ _ _ _ _ _ _ _ (begin _) refl (made (a.Str line) _ _ _ _ _ (next b.opened))
  read_operand (f.prefix what suffixes) symbol stack behind b on items begin next =
      begins _ _ _ _ _ _ _ _ _ (begin _) refl (read_named what (s.Suffix ∷ (behind ++ stack)) b b.texts _ items (λ n. read_suffixes suffixes (behind ++ stack) (record b { opened = n }) b.exprs on items next))
  read_operand (f.grouping is inner is) symbol stack behind b on items begin next =
      begins_open _ _ _ _ _ _ _ _ _ (begin _) refl (read_expression inner s.Expression (s.Token m.RightParen ∷ s.Make (a.Restore b.opened) ∷ (behind ++ stack)) [] (with_one_more b) _ items (λ l. refl)
      (λ n. takes _ _ _ _ _ _ _ _ refl (made (a.Restore b.opened) _ _ _ _ _ (next b.opened))))
  read_operand (f.construct is inner) symbol stack behind b on items begin next =
      begins_open _ _ _ _ _ _ _ _ _ (begin _) refl (made a.StartEntries _ _ _ _ _
      (read_entries inner (s.Make a.Construct ∷ s.Make (a.Restore b.opened) ∷ (behind ++ stack)) (record b { opened = b.opened + 1; entries = [] ∷ b.entries }) _ items
      (λ n. entries_from _ _ (record b { opened = n }) _ _ _ (made a.Construct _ _ _ _ _ (made (a.Restore b.opened) _ _ _ _ _ (next b.opened))))))
  read_operand (f.negation {line = line} of) symbol stack behind b on items begin next =
      begins_open _ _ _ _ _ _ _ _ _ (begin _) refl (read_operand of s.Operand (s.Make (a.Unary unary.Not line) ∷ (behind ++ stack)) [] (with_one_more b) on items (λ l. refl) (λ n. made (a.Unary unary.Not line) _ _ _ _ _ (next n)))
  read_operand (f.minus {line = line} of) symbol stack behind b on items begin next =
      begins_open _ _ _ _ _ _ _ _ _ (begin _) refl (read_operand of s.Operand (s.Make (a.Unary unary.Minus line) ∷ (behind ++ stack)) [] (with_one_more b) on items (λ l. refl) (λ n. made (a.Unary unary.Minus line) _ _ _ _ _ (next n)))
  read_operand (f.length_of {line = line} of) symbol stack behind b on items begin next =
      begins_open _ _ _ _ _ _ _ _ _ (begin _) refl (read_operand of s.Operand (s.Make (a.Unary unary.Length line) ∷ (behind ++ stack)) [] (with_one_more b) on items (λ l. refl) (λ n. made (a.Unary unary.Length line) _ _ _ _ _ (next n)))

  pub read_named : {role : Role} {line : ℕ} {text : List ℕ} {ts rest : List Token} {x : Expr} (d : IsNamed role line text ts x rest) (stack : List Symbol) (b : Building) (others : List (List ℕ)) (on : Behind) (items : List Item) →
      ((n : ℕ) → Reads stack (record b { texts = others; exprs = x ∷ b.exprs; opened = n }) rest (on n) items) → Reads (s.AfterName role line ∷ stack) (record b { texts = text ∷ others }) ts (onto (nest.in_named d) on b.opened) items
  read_named {role = role} {line = line} (f.alone (without {first = first} isnt)) stack b others on items next = ends _ _ _ _ _ _ _ _ (name_ends role line b.opened first.line first.kind isnt) (next b.opened)
  read_named {line = line} {text = text} (f.call is args) stack b others on items next =
      opens _ _ _ _ _ _ _ _ refl (made a.StartArguments _ _ _ _ _
      (read_arguments args (s.Make (a.Call line) ∷ stack) (record b { texts = text ∷ others; opened = b.opened + 1; lists = [] ∷ b.lists }) _ items
      (λ n. arguments_from _ _ (record b { texts = text ∷ others; opened = n }) _ _ _ (made (a.Call line) _ _ _ _ _ (next n)))))
  read_named {role = role} {line = line} {text = text} (f.library {dot_line = dot_line} does behind) stack b others on items next =
      opens _ _ _ _ _ _ _ _ (library_opens role line b.opened dot_line does) (made a.Name _ _ _ _ _ (read_librarys behind stack (record b { texts = others; opened = b.opened + 1 }) b.exprs on items does next))

  pub read_librarys : {role : Role} {dot_line : ℕ} {of x : Expr} {ts rest : List Token} (d : IsLibrarys role dot_line of ts x rest) (stack : List Symbol) (b : Building) (others : List Expr) (on : Behind) (items : List Item) → is_library role ≡ true →
      ((n : ℕ) → Reads stack (record b { exprs = x ∷ others; opened = n }) rest (on n) items) → Reads (s.LibraryName role dot_line ∷ stack) (record b { exprs = of ∷ others }) ts (onto (nest.in_librarys d) on b.opened) items
  read_librarys (f.librarys behind) stack b others on items does next = takes _ _ _ _ _ _ _ _ refl (read_function behind stack b b.texts others on items next)

  pub read_function : {role : Role} {dot_line line : ℕ} {of x : Expr} {text : List ℕ} {ts rest : List Token} (d : IsFunction role dot_line line of text ts x rest) (stack : List Symbol) (b : Building) (texts : List (List ℕ)) (others : List Expr) (on : Behind) (items : List Item) →
      ((n : ℕ) → Reads stack (record b { texts = texts; exprs = x ∷ others; opened = n }) rest (on n) items) →
      Reads (s.AfterMember role dot_line line ∷ stack) (record b { texts = text ∷ texts; exprs = of ∷ others }) ts (onto (nest.in_function d) on b.opened) items
  read_function {line = line} {of = of} {text = text} (f.math_call is args) stack b texts others on items next =
      opens _ _ _ _ _ _ _ _ refl (made a.StartArguments _ _ _ _ _
      (read_arguments args (s.Make (a.MathCall line) ∷ stack) (record b { texts = text ∷ texts; exprs = of ∷ others; opened = b.opened + 1; lists = [] ∷ b.lists }) _ items
      (λ n. arguments_from _ _ (record b { texts = text ∷ texts; exprs = of ∷ others; opened = n }) _ _ _ (made (a.MathCall line) _ _ _ _ _ (next n)))))
  read_function {line = line} {of = of} {text = text} (f.table_call is args) stack b texts others on items next =
      opens _ _ _ _ _ _ _ _ refl (made a.StartArguments _ _ _ _ _
      (read_arguments args (s.Make (a.TableCall line) ∷ stack) (record b { texts = text ∷ texts; exprs = of ∷ others; opened = b.opened + 1; lists = [] ∷ b.lists }) _ items
      (λ n. arguments_from _ _ (record b { texts = text ∷ texts; exprs = of ∷ others; opened = n }) _ _ _ (made (a.TableCall line) _ _ _ _ _ (next n)))))
  read_function {role = role} {dot_line = dot_line} {line = line} (f.member (without {first = first} isnt)) stack b texts others on items next =
      ends _ _ _ _ _ _ _ _ (member_ends role dot_line line b.opened first.line first.kind isnt) (next b.opened)

  pub read_suffixes : {left x : Expr} {ts rest : List Token} (d : AreSuffixes left ts x rest) (stack : List Symbol) (b : Building) (others : List Expr) (on : Behind) (items : List Item) →
      ((n : ℕ) → Reads stack (record b { exprs = x ∷ others; opened = n }) rest (on n) items) → Reads (s.Suffix ∷ stack) (record b { exprs = left ∷ others }) ts (onto (nest.in_suffixes d) on b.opened) items
  read_suffixes (f.none (without {first = first} isnt)) stack b others on items next = ends _ _ _ _ _ _ _ _ (suffix_ends b.opened first.line first.kind isnt) (next b.opened)
  read_suffixes (f.dotted {line = line} name more) stack b others on items next =
      opens _ _ _ _ _ _ _ _ refl (takes _ _ _ _ _ _ _ _ refl (made (a.Member line) _ _ _ _ _ (read_suffixes more stack (record b { opened = b.opened + 1 }) others on items next)))
  read_suffixes (f.indexed {line = line} key is more) stack b others on items next =
      opens _ _ _ _ _ _ _ _ refl (read_expression key s.Key (s.Make (a.Index line) ∷ s.Suffix ∷ stack) (s.Token m.RightBracket ∷ s.Make (a.Restore (b.opened + 1)) ∷ []) (record b { exprs = _ ∷ others; opened = b.opened + 1 }) _ items (λ l. refl)
      (λ n. takes _ _ _ _ _ _ _ _ refl (made (a.Restore (b.opened + 1)) _ _ _ _ _ (made (a.Index line) _ _ _ _ _ (read_suffixes more stack (record b { opened = b.opened + 1 }) others on items next)))))

  pub read_arguments : {ts rest : List Token} {args : List Expr} (d : AreArguments ts args rest) (stack : List Symbol) (b : Building) (on : Behind) (items : List Item) →
      ((n : ℕ) → Reads stack (record b { lists = extend args b.lists; opened = n }) rest (on n) items) → Reads (s.Arguments ∷ stack) b ts (onto (nest.in_arguments d) on b.opened) items
  read_arguments (f.no_arguments is) stack b on items next = takes _ _ _ _ _ _ _ _ refl (next b.opened)
  read_arguments (f.arguments {a = x} first more) stack b on items next =
      read_expression first s.Arguments stack (s.Make a.AddArgument ∷ s.Make (a.Restore b.opened) ∷ s.MoreArguments ∷ []) b _ items (argument_begins first b.opened)
      (λ n. made a.AddArgument _ _ _ _ _ (made (a.Restore b.opened) _ _ _ _ _ (read_more_arguments more stack (record b { lists = at_end x b.lists }) on items next)))

  pub read_more_arguments : {ts rest : List Token} {args : List Expr} (d : AreMoreArguments ts args rest) (stack : List Symbol) (b : Building) (on : Behind) (items : List Item) →
      ((n : ℕ) → Reads stack (record b { lists = extend args b.lists; opened = n }) rest (on n) items) → Reads (s.MoreArguments ∷ stack) b ts (onto (nest.in_more_arguments d) on b.opened) items
  read_more_arguments (f.last_argument is) stack b on items next = takes _ _ _ _ _ _ _ _ refl (next b.opened)
  read_more_arguments (f.another {a = x} is first more) stack b on items next =
      takes _ _ _ _ _ _ _ _ refl (read_expression first s.Expression (s.Make a.AddArgument ∷ s.Make (a.Restore b.opened) ∷ s.MoreArguments ∷ stack) [] b _ items (λ l. refl)
      (λ n. made a.AddArgument _ _ _ _ _ (made (a.Restore b.opened) _ _ _ _ _ (read_more_arguments more stack (record b { lists = at_end x b.lists }) on items next))))

  pub read_entries : {ts rest : List Token} {all : List Entry} (d : AreEntries ts all rest) (stack : List Symbol) (b : Building) (on : Behind) (items : List Item) →
      ((n : ℕ) → Reads stack (record b { entries = extend all b.entries; opened = n }) rest (on n) items) → Reads (s.Entries ∷ stack) b ts (onto (nest.in_entries d) on b.opened) items
  read_entries (f.no_entries is) stack b on items next = takes _ _ _ _ _ _ _ _ refl (next b.opened)
  read_entries (f.entries {one = one} first more) stack b on items next =
      read_entry first stack b _ items (no_assign more) (λ n. made (a.Restore b.opened) _ _ _ _ _ (read_more_entries more stack (record b { entries = at_end one b.entries }) on items next))

  pub read_more_entries : {ts rest : List Token} {all : List Entry} (d : AreMoreEntries ts all rest) (stack : List Symbol) (b : Building) (on : Behind) (items : List Item) →
      ((n : ℕ) → Reads stack (record b { entries = extend all b.entries; opened = n }) rest (on n) items) → Reads (s.MoreEntries ∷ stack) b ts (onto (nest.in_more_entries d) on b.opened) items
  read_more_entries (f.last_entry is) stack b on items next = takes _ _ _ _ _ _ _ _ refl (next b.opened)
  read_more_entries (f.comma is more) stack b on items next = takes _ _ _ _ _ _ _ _ refl (read_entries more stack b on items next)
  read_more_entries (f.semicolon is more) stack b on items next = takes _ _ _ _ _ _ _ _ refl (read_entries more stack b on items next)

  pub read_entry : {ts rest : List Token} {one : Entry} (d : IsEntry ts one rest) (stack : List Symbol) (b : Building) (on : Behind) (items : List Item) → fails is_assign rest →
      ((n : ℕ) → Reads (on_and_on b.opened stack) (record b { entries = at_end one b.entries; opened = n }) rest (on n) items) → Reads (s.Entries ∷ stack) b ts (onto (nest.in_entry d) on b.opened) items
  read_entry (f.named name is it) stack b on items assign next =
      takes _ _ _ _ _ _ _ _ refl (takes _ _ _ _ _ _ _ _ refl (read_expression it s.Expression (s.Make a.AddNamed ∷ on_and_on b.opened stack) [] (record b { texts = _ ∷ b.texts }) _ items (λ l. refl)
      (λ n. made a.AddNamed _ _ _ _ _ (next n))))
  read_entry (f.keyed {line = line} key is is it) stack b on items assign next =
      takes _ _ _ _ _ _ _ _ refl (read_expression key s.Expression (s.Token m.RightBracket ∷ s.Token m.Assign ∷ s.Expression ∷ s.Make (a.AddKeyed line) ∷ on_and_on b.opened stack) [] b _ items (λ l. refl)
      (λ n1. takes _ _ _ _ _ _ _ _ refl (takes _ _ _ _ _ _ _ _ refl (read_expression it s.Expression (s.Make (a.AddKeyed line) ∷ on_and_on b.opened stack) [] (record b { exprs = _ ∷ b.exprs; opened = n1 }) on items (λ l. refl)
      (λ n2. made (a.AddKeyed line) _ _ _ _ _ (next n2))))))
  read_entry (f.value (f.expression (f.prefix {role = role} {line = line} (f.alone no_call) (f.none no_suffix)) (f.no_more no_operator))) stack b on items assign next =
      takes _ _ _ _ _ _ _ _ refl (name_entry role line _ _ _ _ _ (failed no_call) (failed no_suffix) (failed no_operator) assign (next b.opened))
  read_entry (f.value (f.expression (f.prefix {role = role} {line = line} (f.alone no_call) (f.none no_suffix)) (f.operation {line = at} {kind = kind} {op = op} same tight (f.expression operand inner) more))) stack b on items assign next =
      takes _ _ _ _ _ _ _ _ refl (operator_taken op _ _ _ _ _ _ _ _ _ _ same (entry_operator role line b.opened at op kind same) (made a.Name _ _ _ _ _
      (read_operand operand s.Operand (s.Operators (right_level op) ∷ s.Make (a.Binary op at) ∷ s.Operators 1 ∷ s.Make a.AddValue ∷ on_and_on b.opened stack) [] (record b { opened = b.opened + 1; exprs = _ ∷ b.exprs }) _ items (λ l. refl)
      (λ n1. read_operations inner (s.Make (a.Binary op at) ∷ s.Operators 1 ∷ s.Make a.AddValue ∷ on_and_on b.opened stack) (record b { opened = n1 }) (_ ∷ b.exprs) _ items
      (λ n2. made (a.Binary op at) _ _ _ _ items (read_operations more (s.Make a.AddValue ∷ on_and_on b.opened stack) (record b { opened = n2 }) b.exprs on items (λ n3. made a.AddValue _ _ _ _ _ (next n3))))))))
  read_entry (f.value (f.expression (f.prefix {role = role} {line = line} (f.alone no_call) (f.dotted {line = at} name more)) operations)) stack b on items assign next =
      takes _ _ _ _ _ _ _ _ refl (opens _ _ _ _ _ _ _ _ (entry_dot role line b.opened at (failed no_call)) (made a.Name _ _ _ _ _ (takes _ _ _ _ _ _ _ _ refl (made (a.Member at) _ _ _ _ _
      (read_suffixes more (s.Operators 1 ∷ s.Make a.AddValue ∷ on_and_on b.opened stack) (record b { opened = b.opened + 1 }) b.exprs _ items
      (λ n1. read_operations operations (s.Make a.AddValue ∷ on_and_on b.opened stack) (record b { opened = n1 }) b.exprs on items (λ n2. made a.AddValue _ _ _ _ _ (next n2))))))))
  read_entry (f.value (f.expression (f.prefix {role = role} {line = line} (f.alone no_call) (f.indexed {line = at} key is more)) operations)) stack b on items assign next =
      takes _ _ _ _ _ _ _ _ refl (opens _ _ _ _ _ _ _ _ refl (made a.Name _ _ _ _ _
      (read_expression key s.Key (s.Make (a.Index at) ∷ s.Suffix ∷ s.Operators 1 ∷ s.Make a.AddValue ∷ on_and_on b.opened stack) (s.Token m.RightBracket ∷ s.Make (a.Restore (b.opened + 1)) ∷ []) (record b { exprs = _ ∷ b.exprs; opened = b.opened + 1 }) _ items (λ l. refl)
      (λ n. takes _ _ _ _ _ _ _ _ refl (made (a.Restore (b.opened + 1)) _ _ _ _ _ (made (a.Index at) _ _ _ _ _
      (read_suffixes more (s.Operators 1 ∷ s.Make a.AddValue ∷ on_and_on b.opened stack) (record b { opened = b.opened + 1 }) b.exprs _ items
      (λ n1. read_operations operations (s.Make a.AddValue ∷ on_and_on b.opened stack) (record b { opened = n1 }) b.exprs on items (λ n2. made a.AddValue _ _ _ _ _ (next n2))))))))))
  read_entry (f.value (f.expression (f.prefix {role = role} {line = line} {text = text} (f.call is args) suffixes) operations)) stack b on items assign next =
      takes _ _ _ _ _ _ _ _ refl (opens _ _ _ _ _ _ _ _ refl (made a.StartArguments _ _ _ _ _
      (read_arguments args (s.Make (a.Call line) ∷ s.Suffix ∷ s.Operators 1 ∷ s.Make a.AddValue ∷ on_and_on b.opened stack) (record b { texts = text ∷ b.texts; opened = b.opened + 1; lists = [] ∷ b.lists }) _ items
      (λ n. arguments_from _ _ (record b { texts = text ∷ b.texts; opened = n }) _ _ _ (made (a.Call line) _ _ _ _ _
      (read_suffixes suffixes (s.Operators 1 ∷ s.Make a.AddValue ∷ on_and_on b.opened stack) (record b { opened = n }) b.exprs _ items
      (λ n1. read_operations operations (s.Make a.AddValue ∷ on_and_on b.opened stack) (record b { opened = n1 }) b.exprs on items (λ n2. made a.AddValue _ _ _ _ _ (next n2)))))))))
  read_entry (f.value (f.expression (f.prefix {role = role} {line = line} (f.library {dot_line = at} does behind) suffixes) operations)) stack b on items assign next =
      takes _ _ _ _ _ _ _ _ refl (opens _ _ _ _ _ _ _ _ (entry_library role line b.opened at does) (made a.Name _ _ _ _ _
      (read_librarys behind (s.Suffix ∷ s.Operators 1 ∷ s.Make a.AddValue ∷ on_and_on b.opened stack) (record b { opened = b.opened + 1 }) b.exprs _ items does
      (λ n. read_suffixes suffixes (s.Operators 1 ∷ s.Make a.AddValue ∷ on_and_on b.opened stack) (record b { opened = n }) b.exprs _ items
      (λ n1. read_operations operations (s.Make a.AddValue ∷ on_and_on b.opened stack) (record b { opened = n1 }) b.exprs on items (λ n2. made a.AddValue _ _ _ _ _ (next n2)))))))
  read_entry (f.value (f.expression operand operations)) stack b on items assign next =
      read_operand operand s.Entries stack (s.Operators 1 ∷ s.Make a.AddValue ∷ table.to_next b.opened) b _ items (λ l. refl)
      (λ n. read_operations operations (s.Make a.AddValue ∷ on_and_on b.opened stack) (record b { opened = n }) b.exprs on items (λ n1. made a.AddValue _ _ _ _ _ (next n1)))
