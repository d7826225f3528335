-- Reading a network line by line. The grammar says what it means: a law of this crate has that its networks are read so.
use Rattle.std.specs.Prelude.{ℕ, List, [], ◌∷◌, length, Option, Some, None, Result, Ok, Err, nat_lt, if◌then◌else◌}
use Rattle.tis_base.specs.Tiles.{Tiles}
use Rattle.net_tree.specs.declared.tree.Var.{Var}
use Rattle.net_tree.specs.declared.tree.Test.{Test}
use Rattle.net_tree.specs.Tree.{Name, Statement, If, While, Count, Block, Empty, with_last, Net}
use Rattle.net_syntax.specs.Refusals.{NetRefusal, BadLine, TooDeep, StrayEnd, Unclosed}
use Rattle.net_syntax.specs.Forms as forms
use Rattle.net_syntax.specs.Forms.{LineForm, Line, lines_of}
use Rattle.net_syntax.specs.Grammar.{Declaration, DeclaresInput, DeclaresOutput, DeclaresChannel, DeclaresProcess, bare_net, with_declaration, next_number}

-- what an open block is part of
pub data BlockRole : Type 0 where
  FirstOf : (var : Var) → (test : Test) → BlockRole
  SecondOf : (var : Var) → (test : Test) → (first : Block Name) → BlockRole
  WhileOf : (var : Var) → (test : Test) → BlockRole
  CountOf : (var : Var) → BlockRole

-- a statement that is still open: the line that opened it, what its block is, and the statements before it
pub record OpenStatement : Type 0 where
  pub line : ℕ
  pub role : BlockRole
  pub before : Block Name

-- a process that is still open: its line, the statements of the innermost open block so far, and the statements around that block, innermost first
pub record OpenProcess : Type 0 where
  pub name : Name
  pub at : Option ℕ
  pub line : ℕ
  pub block : Block Name
  pub around : List OpenStatement

-- the network so far, and the process that is open
pub record Configuration : Type 0 where
  pub net : Net
  pub open_process : Option OpenProcess

-- the refusal of a line that can't stand where it stands
abbrev pub refusal_of : ℕ → LineForm → NetRefusal
refusal_of number forms.End = StrayEnd number
refusal_of number forms.Else = StrayEnd number
refusal_of number form = BadLine number

-- one more part of the network, and no process is open
abbrev pub with_whole : Net → Declaration → Result Configuration NetRefusal
with_whole net part = Ok (record { net = with_declaration net part; open_process = None })

-- a line outside of a process
abbrev pub line_outside : Net → ℕ → LineForm → Result Configuration NetRefusal
line_outside net number (forms.Input name position via) = with_whole net (DeclaresInput (record { name = name; position = position; via = via; line = number }))
line_outside net number (forms.Output name position via) = with_whole net (DeclaresOutput (record { name = name; position = position; via = via; line = number }))
line_outside net number (forms.Channel name via) = with_whole net (DeclaresChannel (record { name = name; via = via; line = number }))
line_outside net number (forms.Process name at) = Ok (record { net = net; open_process = Some (record { name = name; at = at; line = number; block = Empty; around = [] }) })
line_outside net number form = Err (refusal_of number form)

-- the process with one more statement in its innermost open block
abbrev pub with_statement : OpenProcess → ℕ → Statement Name → OpenProcess
with_statement opened number statement = record opened { block = with_last opened.block number statement }

-- the process with one more open block, or the refusal of a seventeenth
abbrev pub with_open_block : OpenProcess → ℕ → BlockRole → Result OpenProcess NetRefusal
with_open_block opened number role =
    if nat_lt (length opened.around) 16
    then Ok (record opened { block = Empty; around = record { line = number; role = role; before = opened.block } ∷ opened.around })
    else Err (TooDeep number)

-- the statement whose last block this is
abbrev pub statement_with : BlockRole → Block Name → Statement Name
statement_with (FirstOf var test) block = If var test block Empty
statement_with (SecondOf var test first) block = If var test first block
statement_with (WhileOf var test) block = While var test block
statement_with (CountOf var) block = Count var block

-- what the block behind `else` is part of, where the block before it is the first of an `if`
abbrev pub second_role : BlockRole → Block Name → Option BlockRole
second_role (FirstOf var test) block = Some (SecondOf var test block)
second_role role block = None

-- the process behind `else`, where what is open innermost has this role
abbrev pub else_in : OpenProcess → ℕ → OpenStatement → List OpenStatement → Option BlockRole → Result OpenProcess NetRefusal
else_in opened number inner around None = Err (StrayEnd number)
else_in opened number inner around (Some role) = Ok (record opened { block = Empty; around = record inner { role = role } ∷ around })

-- the process behind `else`, or the refusal of an `else` that belongs to nothing
abbrev pub after_else : OpenProcess → ℕ → List OpenStatement → Result OpenProcess NetRefusal
after_else opened number [] = Err (StrayEnd number)
after_else opened number (inner ∷ around) = else_in opened number inner around (second_role inner.role opened.block)

-- the process goes on
abbrev pub still_open : Net → Result OpenProcess NetRefusal → Result Configuration NetRefusal
still_open net (Ok opened) = Ok (record { net = net; open_process = Some opened })
still_open net (Err refusal) = Err refusal

-- the process behind the `end` of its innermost open statement
abbrev pub after_last_block : OpenProcess → OpenStatement → List OpenStatement → OpenProcess
after_last_block opened inner around = record opened { block = with_last inner.before inner.line (statement_with inner.role opened.block); around = around }

-- behind `end`: what is open innermost is whole, the process itself where no statement is open
abbrev pub after_end : Net → OpenProcess → List OpenStatement → Result Configuration NetRefusal
after_end net opened [] = with_whole net (DeclaresProcess (record { name = opened.name; at = opened.at; body = opened.block; line = opened.line }))
after_end net opened (inner ∷ around) = Ok (record { net = net; open_process = Some (after_last_block opened inner around) })

-- a line inside of a process
abbrev pub line_inside : Net → OpenProcess → ℕ → LineForm → Result Configuration NetRefusal
line_inside net opened number (forms.Simple statement) = still_open net (Ok (with_statement opened number statement))
line_inside net opened number (forms.OpensIf var test) = still_open net (with_open_block opened number (FirstOf var test))
line_inside net opened number (forms.OpensWhile var test) = still_open net (with_open_block opened number (WhileOf var test))
line_inside net opened number (forms.OpensCount var) = still_open net (with_open_block opened number (CountOf var))
line_inside net opened number forms.Else = still_open net (after_else opened number opened.around)
line_inside net opened number forms.End = after_end net opened opened.around
line_inside net opened number form = Err (BadLine number)

-- what one more line makes of the lines before it
abbrev pub after_line : Net → Option OpenProcess → ℕ → LineForm → Result Configuration NetRefusal
after_line net None number form = line_outside net number form
after_line net (Some opened) number form = line_inside net opened number form

-- only lines that were right go on
unfoldable pub and_then : {X Y : Type 0} → Result X NetRefusal → (X → Result Y NetRefusal) → Result Y NetRefusal
and_then (Ok x) next = next x
and_then (Err refusal) next = Err refusal

-- what all these lines make of those before them
unfoldable pub after_lines : Configuration → List Line → Result Configuration NetRefusal
after_lines sofar [] = Ok sofar
after_lines sofar (line ∷ lines) = and_then (after_line sofar.net sofar.open_process line.number line.form) (λ more. after_lines more lines)

-- the line of what is open innermost
abbrev pub innermost_line : OpenProcess → List OpenStatement → ℕ
innermost_line opened [] = opened.line
innermost_line opened (inner ∷ around) = inner.line

-- the network, where no process is open at its end
abbrev pub net_at_end : Net → Option OpenProcess → Result Net NetRefusal
net_at_end net None = Ok net
net_at_end net (Some opened) = Err (Unclosed (innermost_line opened opened.around))

-- the tiles of the second line
abbrev pub tiles_of_line : ℕ → LineForm → Result Tiles NetRefusal
tiles_of_line number (forms.TilesLine tiles) = Ok tiles
tiles_of_line number form = Err (refusal_of number form)

-- what the lines behind the first one make, where it is the one that a text begins with
abbrev pub head_of_line : ℕ → LineForm → Result Configuration NetRefusal → Result Configuration NetRefusal
head_of_line number forms.Version behind = behind
head_of_line number form behind = Err (refusal_of number form)

-- the lines behind the tiles
abbrev pub net_with : List Line → Tiles → Result Configuration NetRefusal
net_with lines tiles = after_lines (record { net = bare_net tiles; open_process = None }) lines

-- the lines behind the first one
abbrev pub after_version : ℕ → List Line → Result Configuration NetRefusal
after_version next [] = Err (BadLine next)
after_version next (second ∷ lines) = and_then (tiles_of_line second.number second.form) (net_with lines)

-- what all lines make, or the refusal of the first or second line
abbrev pub after_all : ℕ → List Line → Result Configuration NetRefusal
after_all next [] = Err (BadLine next)
after_all next (first ∷ lines) = head_of_line first.number first.form (after_version next lines)

-- the network that these lines give, or the first refusal
abbrev pub answer_of : ℕ → List Line → Result Net NetRefusal
answer_of next lines = and_then (after_all next lines) (λ sofar. net_at_end sofar.net sofar.open_process)

-- the network that a text gives, or the first refusal
unfoldable pub net_of : List ℕ → Result Net NetRefusal
net_of text = answer_of (next_number text) (lines_of text)
