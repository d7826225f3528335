-- The grammar as a relation: which tokens are a form, the tree that it gives, and the tokens that stand behind it. A test of the
-- token behind says how far a form goes. What is open in a form stands in `Nesting.antt`.
use Rattle.std.specs.Prelude.{◌≡◌, ℕ, ℤ, Bool, true, false, ◌&&◌, ◌||◌, nat_le, List, [], ◌∷◌, Option, Some, None}
use Rattle.lua_tree.specs.declared.tree.UnaryOp.TheVariants as unary
use Rattle.lua_tree.specs.declared.tree.BinaryOp.{BinaryOp}
use Rattle.lua_tree.specs.declared.tree.Item.{Item}
use Rattle.lua_tree.specs.declared.tree.Item.TheVariants as item
use Rattle.lua_tree.specs.declared.tree.Expr.{Expr}
use Rattle.lua_tree.specs.declared.tree.Expr.TheVariants as e
use Rattle.lua_tree.specs.declared.tree.Entry.{Entry}
use Rattle.lua_tree.specs.declared.tree.Entry.TheVariants as entry
use Rattle.lua_tree.specs.declared.tree.LuaStatement.{LuaStatement}
use Rattle.lua_tree.specs.declared.tree.LuaStatement.TheVariants as statement
use Rattle.lua_tree.specs.declared.tree.LuaBlock.{LuaBlock, roll-LuaBlock}
use Rattle.lua_tree.specs.declared.tree.Arm.{Arm, roll-Arm}
use Rattle.lua_tokens.specs.declared.kind.Role.{Role}
use Rattle.lua_tokens.specs.declared.kind.Role.TheVariants.{Plain, Math, Table}
use Rattle.lua_tokens.specs.declared.kind.Kind.{Kind}
use Rattle.lua_tokens.specs.declared.kind.Kind.TheVariants as k
use Rattle.lua_tokens.specs.declared.pieces.Token.{Token}
use Rattle.lua_grammar.specs.Table.{level, right_level, binary_of, begins_expression, is_library}

-- a token
abbrev pub token : Kind → ℕ → List ℕ → Token
token kind line text = record { kind = kind; line = line; text = text }

-- a token of this kind stands first
pub data Is : Kind → List Token → List Token → Type 0 where
  is : {kind : Kind} {line : ℕ} {text : List ℕ} {rest : List Token} → Is kind (token kind line text ∷ rest) rest

-- a name stands first
pub data IsName : List Token → List ℕ → List Token → Type 0 where
  name : {role : Role} {line : ℕ} {text : List ℕ} {rest : List Token} → IsName (token (k.Name role) line text ∷ rest) text rest

-- the first token isn't such a one
pub data Without : (Kind → Bool) → List Token → Type 0 where
  without : {test : Kind → Bool} {first : Token} {rest : List Token} → test first.kind ≡ false → Without test (first ∷ rest)

-- whether it is `;`
abbrev pub is_semicolon : Kind → Bool
is_semicolon k.Semicolon = true
is_semicolon _ = false

-- whether it is `=`
abbrev pub is_assign : Kind → Bool
is_assign k.Assign = true
is_assign _ = false

-- whether it is `(`
abbrev pub is_paren : Kind → Bool
is_paren k.LeftParen = true
is_paren _ = false

-- whether it is `.`
abbrev pub is_dot : Kind → Bool
is_dot k.Dot = true
is_dot _ = false

-- whether a member or an index begins with it
abbrev pub is_suffix : Kind → Bool
is_suffix k.Dot = true
is_suffix k.LeftBracket = true
is_suffix _ = false

-- whether a name goes on with it: a call, or a library's function or member
abbrev pub calls : Role → Kind → Bool
calls role kind = is_paren kind || (is_dot kind && is_library role)

-- whether there is an operator, and it binds at least so tightly
abbrev pub op_binds : ℕ → Option BinaryOp → Bool
op_binds least None = false
op_binds least (Some op) = nat_le least (level op)

-- whether it is an operator that binds at least so tightly
abbrev pub binds : ℕ → Kind → Bool
binds least kind = op_binds least (binary_of kind)

-- whether a statement begins with it
abbrev pub begins_statement : Kind → Bool
begins_statement k.Local = true
begins_statement (k.Name role) = true
begins_statement k.If = true
begins_statement k.While = true
begins_statement k.Repeat = true
begins_statement k.For = true
begins_statement k.Do = true
begins_statement k.Break = true
begins_statement k.Return = true
begins_statement _ = false

-- `;`, or nothing
pub data IsSemicolon : List Token → List Token → Type 0 where
  present : {ts rest : List Token} → Is k.Semicolon ts rest → IsSemicolon ts rest
  absent : {ts : List Token} → Without is_semicolon ts → IsSemicolon ts ts

-- ---- expressions

mutual
  -- an operand, and operations on it that bind at least so tightly
  pub data IsExpression : ℕ → List Token → Expr → List Token → Type 0 where
    expression : {least : ℕ} {ts behind rest : List Token} {a b : Expr} → IsOperand ts a behind → IsOperations least a behind b rest → IsExpression least ts b rest

  -- operations on what stands on their left, one after the other; the right side has the operations that bind more tightly, or as tightly where the operator groups to the right
  pub data IsOperations : ℕ → Expr → List Token → Expr → List Token → Type 0 where
    no_more : {least : ℕ} {left : Expr} {ts : List Token} → Without (binds least) ts → IsOperations least left ts left ts
    operation : {least line : ℕ} {kind : Kind} {text : List ℕ} {op : BinaryOp} {left right all : Expr} {ts behind rest : List Token} →
        binary_of kind ≡ Some op → nat_le least (level op) ≡ true → IsExpression (right_level op) ts right behind →
        IsOperations least (e.Binary op left right line) behind all rest → IsOperations least left (token kind line text ∷ ts) all rest

  -- what stands between binary operators; `not`, `-` and `#` bind more tightly than these. A name or a call may have
  -- members and indexes behind it, and parentheses are no part of the tree
  pub data IsOperand : List Token → Expr → List Token → Type 0 where
    nil : {ts rest : List Token} → Is k.Nil ts rest → IsOperand ts e.Nil rest
    yes : {ts rest : List Token} → Is k.True ts rest → IsOperand ts e.True rest
    no : {ts rest : List Token} → Is k.False ts rest → IsOperand ts e.False rest
    number : {value : ℤ} {ts rest : List Token} → Is (k.Number value) ts rest → IsOperand ts (e.Number value) rest
    string : {line : ℕ} {text : List ℕ} {rest : List Token} → IsOperand (token k.Str line text ∷ rest) (e.Str text line) rest
    prefix : {role : Role} {line : ℕ} {text : List ℕ} {ts behind rest : List Token} {a b : Expr} →
        IsNamed role line text ts a behind → AreSuffixes a behind b rest → IsOperand (token (k.Name role) line text ∷ ts) b rest
    grouping : {ts inner behind rest : List Token} {a : Expr} → Is k.LeftParen ts inner → IsExpression 1 inner a behind → Is k.RightParen behind rest → IsOperand ts a rest
    construct : {ts inner rest : List Token} {entries : List Entry} → Is k.LeftBrace ts inner → AreEntries inner entries rest → IsOperand ts (e.Construct entries) rest
    negation : {line : ℕ} {text : List ℕ} {ts rest : List Token} {a : Expr} → IsOperand ts a rest → IsOperand (token k.Not line text ∷ ts) (e.Unary unary.Not a line) rest
    minus : {line : ℕ} {text : List ℕ} {ts rest : List Token} {a : Expr} → IsOperand ts a rest → IsOperand (token k.Minus line text ∷ ts) (e.Unary unary.Minus a line) rest
    length_of : {line : ℕ} {text : List ℕ} {ts rest : List Token} {a : Expr} → IsOperand ts a rest → IsOperand (token k.Hash line text ∷ ts) (e.Unary unary.Length a line) rest

  -- what stands behind a name, which is on that line: a call, what is a library's, or nothing
  pub data IsNamed : Role → ℕ → List ℕ → List Token → Expr → List Token → Type 0 where
    alone : {role : Role} {line : ℕ} {text : List ℕ} {ts : List Token} → Without (calls role) ts → IsNamed role line text ts (e.Name text) ts
    call : {role : Role} {line : ℕ} {text : List ℕ} {ts inner rest : List Token} {args : List Expr} → Is k.LeftParen ts inner → AreArguments inner args rest → IsNamed role line text ts (e.Call text args line) rest
    library : {role : Role} {line dot_line : ℕ} {text dot : List ℕ} {ts rest : List Token} {a : Expr} → is_library role ≡ true →
        IsLibrarys role dot_line (e.Name text) ts a rest → IsNamed role line text (token k.Dot dot_line dot ∷ ts) a rest

  -- what stands behind a library's name and a dot: a name that is called, or a member
  pub data IsLibrarys : Role → ℕ → Expr → List Token → Expr → List Token → Type 0 where
    librarys : {role name_role : Role} {dot_line line : ℕ} {library a : Expr} {text : List ℕ} {ts rest : List Token} →
        IsFunction role dot_line line library text ts a rest → IsLibrarys role dot_line library (token (k.Name name_role) line text ∷ ts) a rest

  -- behind a library's name, a dot and a name, with the lines of both: a call of the library's function, or a member
  pub data IsFunction : Role → ℕ → ℕ → Expr → List ℕ → List Token → Expr → List Token → Type 0 where
    math_call : {dot_line line : ℕ} {library : Expr} {text : List ℕ} {ts inner rest : List Token} {args : List Expr} → Is k.LeftParen ts inner → AreArguments inner args rest →
        IsFunction Math dot_line line library text ts (e.MathCall text args line) rest
    table_call : {dot_line line : ℕ} {library : Expr} {text : List ℕ} {ts inner rest : List Token} {args : List Expr} → Is k.LeftParen ts inner → AreArguments inner args rest →
        IsFunction Table dot_line line library text ts (e.TableCall text args line) rest
    member : {role : Role} {dot_line line : ℕ} {library : Expr} {text : List ℕ} {ts : List Token} → Without is_paren ts → IsFunction role dot_line line library text ts (e.Member library text dot_line) ts

  -- members and indexes, one after the other
  pub data AreSuffixes : Expr → List Token → Expr → List Token → Type 0 where
    none : {a : Expr} {ts : List Token} → Without is_suffix ts → AreSuffixes a ts a ts
    dotted : {line : ℕ} {dot text : List ℕ} {a b : Expr} {ts behind rest : List Token} → IsName ts text behind → AreSuffixes (e.Member a text line) behind b rest → AreSuffixes a (token k.Dot line dot ∷ ts) b rest
    indexed : {line : ℕ} {bracket : List ℕ} {a key b : Expr} {ts inner behind rest : List Token} → IsExpression 1 ts key inner → Is k.RightBracket inner behind →
        AreSuffixes (e.Index a key line) behind b rest → AreSuffixes a (token k.LeftBracket line bracket ∷ ts) b rest

  -- arguments, parted by commas, up to and with the closing bracket
  pub data AreArguments : List Token → List Expr → List Token → Type 0 where
    no_arguments : {ts rest : List Token} → Is k.RightParen ts rest → AreArguments ts [] rest
    arguments : {ts behind rest : List Token} {a : Expr} {more : List Expr} → IsExpression 1 ts a behind → AreMoreArguments behind more rest → AreArguments ts (a ∷ more) rest

  -- the same behind an argument
  pub data AreMoreArguments : List Token → List Expr → List Token → Type 0 where
    last_argument : {ts rest : List Token} → Is k.RightParen ts rest → AreMoreArguments ts [] rest
    another : {ts inner behind rest : List Token} {a : Expr} {more : List Expr} → Is k.Comma ts inner → IsExpression 1 inner a behind → AreMoreArguments behind more rest → AreMoreArguments ts (a ∷ more) rest

  -- entries of a constructor, parted by `,` or `;`, with one more allowed after the last, up to and with the closing bracket
  pub data AreEntries : List Token → List Entry → List Token → Type 0 where
    no_entries : {ts rest : List Token} → Is k.RightBrace ts rest → AreEntries ts [] rest
    entries : {ts behind rest : List Token} {one : Entry} {more : List Entry} → IsEntry ts one behind → AreMoreEntries behind more rest → AreEntries ts (one ∷ more) rest

  -- the same behind an entry
  pub data AreMoreEntries : List Token → List Entry → List Token → Type 0 where
    last_entry : {ts rest : List Token} → Is k.RightBrace ts rest → AreMoreEntries ts [] rest
    comma : {ts inner rest : List Token} {more : List Entry} → Is k.Comma ts inner → AreEntries inner more rest → AreMoreEntries ts more rest
    semicolon : {ts inner rest : List Token} {more : List Entry} → Is k.Semicolon ts inner → AreEntries inner more rest → AreMoreEntries ts more rest

  -- a value, a value with its name, or a value with its key in brackets
  pub data IsEntry : List Token → Entry → List Token → Type 0 where
    value : {ts rest : List Token} {a : Expr} → IsExpression 1 ts a rest → IsEntry ts (entry.Value a) rest
    named : {ts inner behind rest : List Token} {text : List ℕ} {a : Expr} → IsName ts text inner → Is k.Assign inner behind → IsExpression 1 behind a rest → IsEntry ts (entry.Named text a) rest
    keyed : {line : ℕ} {text : List ℕ} {ts inner assign behind rest : List Token} {key a : Expr} → IsExpression 1 ts key inner → Is k.RightBracket inner assign → Is k.Assign assign behind →
        IsExpression 1 behind a rest → IsEntry (token k.LeftBracket line text ∷ ts) (entry.Keyed key a line) rest

-- ---- statements that begin with a name

mutual
  -- behind a name: an assignment to it, or to a member or an index, or a call
  pub data IsOfName : Role → ℕ → List ℕ → List Token → LuaStatement → List Token → Type 0 where
    assign_name : {role : Role} {line : ℕ} {text : List ℕ} {ts inner rest : List Token} {a : Expr} → Is k.Assign ts inner → IsExpression 1 inner a rest → IsOfName role line text ts (statement.Assign text a) rest
    call_name : {role : Role} {line : ℕ} {text : List ℕ} {ts inner behind rest : List Token} {args : List Expr} {s : LuaStatement} → Is k.LeftParen ts inner → AreArguments inner args behind →
        IsOfCall (e.Call text args line) behind s rest → IsOfName role line text ts s rest
    member_name : {role : Role} {line dot_line : ℕ} {text dot : List ℕ} {ts rest : List Token} {s : LuaStatement} → IsOfDot role dot_line (e.Name text) ts s rest → IsOfName role line text (token k.Dot dot_line dot ∷ ts) s rest
    index_name : {role : Role} {line index_line : ℕ} {text bracket : List ℕ} {ts inner behind rest : List Token} {key : Expr} {s : LuaStatement} → IsExpression 1 ts key inner → Is k.RightBracket inner behind →
        IsOfIndex index_line (e.Name text) key behind s rest → IsOfName role line text (token k.LeftBracket index_line bracket ∷ ts) s rest

  -- behind a dot
  pub data IsOfDot : Role → ℕ → Expr → List Token → LuaStatement → List Token → Type 0 where
    dot : {role name_role : Role} {dot_line line : ℕ} {text : List ℕ} {of : Expr} {ts rest : List Token} {s : LuaStatement} → IsOfMember role dot_line line of text ts s rest →
        IsOfDot role dot_line of (token (k.Name name_role) line text ∷ ts) s rest

  -- behind a dot and a name
  pub data IsOfMember : Role → ℕ → ℕ → Expr → List ℕ → List Token → LuaStatement → List Token → Type 0 where
    assign_member : {role : Role} {dot_line line : ℕ} {of a : Expr} {text : List ℕ} {ts inner rest : List Token} → Is k.Assign ts inner → IsExpression 1 inner a rest →
        IsOfMember role dot_line line of text ts (statement.SetMember of text a dot_line) rest
    member_member : {role : Role} {dot_line line next_line : ℕ} {of : Expr} {text next : List ℕ} {ts rest : List Token} {s : LuaStatement} → IsOfDot Plain next_line (e.Member of text dot_line) ts s rest →
        IsOfMember role dot_line line of text (token k.Dot next_line next ∷ ts) s rest
    index_member : {role : Role} {dot_line line index_line : ℕ} {of key : Expr} {text bracket : List ℕ} {ts inner behind rest : List Token} {s : LuaStatement} → IsExpression 1 ts key inner → Is k.RightBracket inner behind →
        IsOfIndex index_line (e.Member of text dot_line) key behind s rest → IsOfMember role dot_line line of text (token k.LeftBracket index_line bracket ∷ ts) s rest
    call_math : {dot_line line : ℕ} {of : Expr} {text : List ℕ} {ts inner behind rest : List Token} {args : List Expr} {s : LuaStatement} → Is k.LeftParen ts inner → AreArguments inner args behind →
        IsOfCall (e.MathCall text args line) behind s rest → IsOfMember Math dot_line line of text ts s rest
    call_table : {dot_line line : ℕ} {of : Expr} {text : List ℕ} {ts inner behind rest : List Token} {args : List Expr} {s : LuaStatement} → Is k.LeftParen ts inner → AreArguments inner args behind →
        IsOfCall (e.TableCall text args line) behind s rest → IsOfMember Table dot_line line of text ts s rest

  -- behind an index
  pub data IsOfIndex : ℕ → Expr → Expr → List Token → LuaStatement → List Token → Type 0 where
    assign_index : {line : ℕ} {of key a : Expr} {ts inner rest : List Token} → Is k.Assign ts inner → IsExpression 1 inner a rest → IsOfIndex line of key ts (statement.SetIndex of key a line) rest
    member_index : {line next_line : ℕ} {of key : Expr} {next : List ℕ} {ts rest : List Token} {s : LuaStatement} → IsOfDot Plain next_line (e.Index of key line) ts s rest → IsOfIndex line of key (token k.Dot next_line next ∷ ts) s rest
    index_index : {line next_line : ℕ} {of key next_key : Expr} {next : List ℕ} {ts inner behind rest : List Token} {s : LuaStatement} → IsExpression 1 ts next_key inner → Is k.RightBracket inner behind →
        IsOfIndex next_line (e.Index of key line) next_key behind s rest → IsOfIndex line of key (token k.LeftBracket next_line next ∷ ts) s rest

  -- behind a call
  pub data IsOfCall : Expr → List Token → LuaStatement → List Token → Type 0 where
    call_alone : {call : Expr} {ts : List Token} → Without is_suffix ts → IsOfCall call ts (statement.Call call) ts
    member_call : {line : ℕ} {dot : List ℕ} {call : Expr} {ts rest : List Token} {s : LuaStatement} → IsOfDot Plain line call ts s rest → IsOfCall call (token k.Dot line dot ∷ ts) s rest
    index_call : {line : ℕ} {bracket : List ℕ} {call key : Expr} {ts inner behind rest : List Token} {s : LuaStatement} → IsExpression 1 ts key inner → Is k.RightBracket inner behind →
        IsOfIndex line call key behind s rest → IsOfCall call (token k.LeftBracket line bracket ∷ ts) s rest

-- ---- blocks

-- a block of the tree
abbrev pub block_of : List LuaStatement → LuaBlock
block_of statements = roll-LuaBlock (record { statements = statements })

-- `=` and a value, or nothing
pub data IsLocalValue : List Token → Option Expr → List Token → Type 0 where
  local_value : {ts inner rest : List Token} {a : Expr} → Is k.Assign ts inner → IsExpression 1 inner a rest → IsLocalValue ts (Some a) rest
  no_local_value : {ts : List Token} → Without is_assign ts → IsLocalValue ts None ts

-- a value, or nothing
pub data IsReturnValue : List Token → Option Expr → List Token → Type 0 where
  return_value : {ts rest : List Token} {a : Expr} → IsExpression 1 ts a rest → IsReturnValue ts (Some a) rest
  no_return_value : {ts : List Token} → Without begins_expression ts → IsReturnValue ts None ts

mutual
  -- statements, of which only the last may be a `return`; the truth value says whether a loop stands around
  pub data IsBlock : Bool → List Token → List LuaStatement → List Token → Type 0 where
    no_statements : {in_loop : Bool} {ts : List Token} → Without begins_statement ts → IsBlock in_loop ts [] ts
    statements : {in_loop : Bool} {ts inner behind rest : List Token} {s : LuaStatement} {more : List LuaStatement} → IsStatement in_loop ts s inner → IsSemicolon inner behind → IsBlock in_loop behind more rest →
        IsBlock in_loop ts (s ∷ more) rest
    returned : {in_loop : Bool} {ts inner behind rest : List Token} {value : Option Expr} → Is k.Return ts inner → IsReturnValue inner value behind → IsSemicolon behind rest → IsBlock in_loop ts (statement.Return value ∷ []) rest

  -- a statement but `return`; `break` only where a loop stands around
  pub data IsStatement : Bool → List Token → LuaStatement → List Token → Type 0 where
    local_statement : {in_loop : Bool} {ts inner behind rest : List Token} {text : List ℕ} {value : Option Expr} → Is k.Local ts inner → IsName inner text behind → IsLocalValue behind value rest → IsStatement in_loop ts (statement.Local text value) rest
    of_name : {in_loop : Bool} {role : Role} {line : ℕ} {text : List ℕ} {ts rest : List Token} {s : LuaStatement} → IsOfName role line text ts s rest → IsStatement in_loop (token (k.Name role) line text ∷ ts) s rest
    conditional : {in_loop : Bool} {ts inner then_at behind rest : List Token} {test : Expr} {body : List LuaStatement} {arms : List Arm} {otherwise : Option LuaBlock} → Is k.If ts inner → IsExpression 1 inner test then_at →
        IsThenBlock in_loop then_at body behind → AreArms in_loop behind arms otherwise rest →
        IsStatement in_loop ts (statement.If (roll-Arm (record { test = test; body = block_of body }) ∷ arms) otherwise) rest
    while_statement : {in_loop : Bool} {ts inner do_at behind rest : List Token} {test : Expr} {body : List LuaStatement} → Is k.While ts inner → IsExpression 1 inner test do_at → IsDoBlock do_at body behind → Is k.End behind rest →
        IsStatement in_loop ts (statement.While test (block_of body)) rest
    repeat_statement : {in_loop : Bool} {ts inner until_at behind rest : List Token} {test : Expr} {body : List LuaStatement} → Is k.Repeat ts inner → IsBlock true inner body until_at → Is k.Until until_at behind → IsExpression 1 behind test rest →
        IsStatement in_loop ts (statement.Repeat (block_of body) test) rest
    for_statement : {in_loop : Bool} {line : ℕ} {word text : List ℕ} {ts assign first_at comma last_at behind rest : List Token} {first last : Expr} {by : Option Expr} {body : List LuaStatement} →
        IsName ts text assign → Is k.Assign assign first_at → IsExpression 1 first_at first comma → Is k.Comma comma last_at → IsExpression 1 last_at last behind → IsForBody behind by body rest →
        IsStatement in_loop (token k.For line word ∷ ts) (statement.For text first last by (block_of body) line) rest
    do_statement : {in_loop : Bool} {ts inner behind rest : List Token} {body : List LuaStatement} → Is k.Do ts inner → IsBlock in_loop inner body behind → Is k.End behind rest → IsStatement in_loop ts (statement.Do (block_of body)) rest
    break_statement : {ts rest : List Token} → Is k.Break ts rest → IsStatement true ts statement.Break rest

  -- `then` and a block
  pub data IsThenBlock : Bool → List Token → List LuaStatement → List Token → Type 0 where
    then_block : {in_loop : Bool} {ts inner rest : List Token} {body : List LuaStatement} → Is k.Then ts inner → IsBlock in_loop inner body rest → IsThenBlock in_loop ts body rest

  -- `do` and a block of a loop
  pub data IsDoBlock : List Token → List LuaStatement → List Token → Type 0 where
    do_block : {ts inner rest : List Token} {body : List LuaStatement} → Is k.Do ts inner → IsBlock true inner body rest → IsDoBlock ts body rest

  -- further arms of an `if`, and the block of `else`
  pub data AreArms : Bool → List Token → List Arm → Option LuaBlock → List Token → Type 0 where
    elseif : {in_loop : Bool} {ts inner then_at behind rest : List Token} {test : Expr} {body : List LuaStatement} {arms : List Arm} {otherwise : Option LuaBlock} → Is k.ElseIf ts inner → IsExpression 1 inner test then_at →
        IsThenBlock in_loop then_at body behind → AreArms in_loop behind arms otherwise rest →
        AreArms in_loop ts (roll-Arm (record { test = test; body = block_of body }) ∷ arms) otherwise rest
    else_block : {in_loop : Bool} {ts inner behind rest : List Token} {body : List LuaStatement} → Is k.Else ts inner → IsBlock in_loop inner body behind → Is k.End behind rest → AreArms in_loop ts [] (Some (block_of body)) rest
    no_else : {in_loop : Bool} {ts rest : List Token} → Is k.End ts rest → AreArms in_loop ts [] None rest

  -- what stands behind the second bound of a `for`
  pub data IsForBody : List Token → Option Expr → List LuaStatement → List Token → Type 0 where
    with_step : {ts inner do_at behind rest : List Token} {a : Expr} {body : List LuaStatement} → Is k.Comma ts inner → IsExpression 1 inner a do_at → IsDoBlock do_at body behind → Is k.End behind rest → IsForBody ts (Some a) body rest
    no_step : {ts inner behind rest : List Token} {body : List LuaStatement} → Is k.Do ts inner → IsBlock true inner body behind → Is k.End behind rest → IsForBody ts None body rest

-- ---- the chunk

mutual
  -- names, parted by commas, up to and with the closing bracket
  pub data AreParameters : List Token → List (List ℕ) → List Token → Type 0 where
    no_parameters : {ts rest : List Token} → Is k.RightParen ts rest → AreParameters ts [] rest
    parameters : {ts behind rest : List Token} {text : List ℕ} {more : List (List ℕ)} → IsName ts text behind → AreMoreParameters behind more rest → AreParameters ts (text ∷ more) rest

  -- the same behind a name
  pub data AreMoreParameters : List Token → List (List ℕ) → List Token → Type 0 where
    last_parameter : {ts rest : List Token} → Is k.RightParen ts rest → AreMoreParameters ts [] rest
    another_parameter : {ts inner behind rest : List Token} {text : List ℕ} {more : List (List ℕ)} → Is k.Comma ts inner → IsName inner text behind → AreMoreParameters behind more rest → AreMoreParameters ts (text ∷ more) rest

-- items, up to and with the end of the text
pub data AreItems : List Token → List Item → List Token → Type 0 where
  no_items : {ts rest : List Token} → Is k.EndOfText ts rest → AreItems ts [] rest
  function : {ts named paren inner body_at end_at behind others rest : List Token} {text : List ℕ} {params : List (List ℕ)} {body : List LuaStatement} {more : List Item} →
      Is k.Function ts named → IsName named text paren → Is k.LeftParen paren inner → AreParameters inner params body_at → IsBlock false body_at body end_at → Is k.End end_at behind → IsSemicolon behind others → AreItems others more rest →
      AreItems ts (item.Function text params (block_of body) ∷ more) rest
  assignment : {ts assign inner behind others rest : List Token} {text : List ℕ} {a : Expr} {more : List Item} → IsName ts text assign → Is k.Assign assign inner → IsExpression 1 inner a behind → IsSemicolon behind others → AreItems others more rest →
      AreItems ts (item.Assign text a ∷ more) rest

-- the tokens are a chunk with these items
abbrev pub IsChunkOf : List Token → List Item → Type 0
IsChunkOf tokens items = AreItems tokens items []
