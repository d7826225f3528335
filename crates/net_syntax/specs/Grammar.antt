-- The grammar of networks over the lines of a text that aren't blank: which lines are a block, which are a network, and what the first line is with which no network goes on.
use Rattle.std.specs.Prelude.{◌≡◌, ℕ, ◌+◌, ◌≤◌, suc, ◌⊎◌, List, [], ◌∷◌, ◌++◌, length, Result, Ok, Err}
use Rattle.tis_base.specs.Lines.{text_lines}
use Rattle.tis_base.specs.Tiles.{Tiles}
use Rattle.net_tree.specs.Tree.{Name, Statement, If, While, Count, Block, Empty, Then, PortLine, ChannelLine, ProcessText, Net}
use Rattle.net_syntax.specs.Refusals.{NetRefusal, BadLine, TooDeep, StrayEnd, Unclosed}
use Rattle.net_syntax.specs.Forms as forms
use Rattle.net_syntax.specs.Forms.{LineForm, Line, lines_of}

-- the line with this number that says this
abbrev pub line : ℕ → LineForm → Line
line number form = record { number = number; form = form }

-- ---- blocks; `depth` is how many more statements with blocks may be open inside

abbrev mutual
  -- these lines are these statements, one after the other
  pub IsBlock : ℕ → Block Name → List Line → Type 0
  IsBlock depth Empty lines = lines ≡ []
  IsBlock depth (Then number statement rest) lines = (first others : List Line) × (lines ≡ first ++ others) × IsStatement depth number statement first × IsBlock depth rest others

  -- these lines are this statement, and the first has this number: one line; or an opening line, a block and `end`; behind the block of an `if` there may be `else` and a second block
  pub IsStatement : ℕ → ℕ → Statement Name → List Line → Type 0
  IsStatement depth number (While var test body) lines =
      (deeper : ℕ) × (inner : List Line) × (end : ℕ) × (depth ≡ suc deeper) × (lines ≡ line number (forms.OpensWhile var test) ∷ (inner ++ line end forms.End ∷ [])) × IsBlock deeper body inner
  IsStatement depth number (Count var body) lines =
      (deeper : ℕ) × (inner : List Line) × (end : ℕ) × (depth ≡ suc deeper) × (lines ≡ line number (forms.OpensCount var) ∷ (inner ++ line end forms.End ∷ [])) × IsBlock deeper body inner
  IsStatement depth number (If var test first second) lines =
      (deeper : ℕ) × (inner behind : List Line) × (end : ℕ) × (depth ≡ suc deeper) × (lines ≡ line number (forms.OpensIf var test) ∷ (inner ++ (behind ++ line end forms.End ∷ []))) × IsBlock deeper first inner
      × (((behind ≡ []) × (second ≡ Empty)) ⊎ ((between : ℕ) × (other : List Line) × (behind ≡ line between forms.Else ∷ other) × IsBlock deeper second other))
  IsStatement depth number statement lines = lines ≡ line number (forms.Simple statement) ∷ []

-- ---- networks

-- what stands in a network behind its tiles, in any order
pub data Declaration : Type 0 where
  DeclaresInput : (port : PortLine) → Declaration
  DeclaresOutput : (port : PortLine) → Declaration
  DeclaresChannel : (channel : ChannelLine) → Declaration
  DeclaresProcess : (process : ProcessText) → Declaration

-- these lines are this part: one line, or the line of a process, its statements and `end`
abbrev pub IsDeclaration : ℕ → Declaration → List Line → Type 0
IsDeclaration depth (DeclaresInput port) lines = lines ≡ line port.line (forms.Input port.name port.position port.via) ∷ []
IsDeclaration depth (DeclaresOutput port) lines = lines ≡ line port.line (forms.Output port.name port.position port.via) ∷ []
IsDeclaration depth (DeclaresChannel channel) lines = lines ≡ line channel.line (forms.Channel channel.name channel.via) ∷ []
IsDeclaration depth (DeclaresProcess process) lines =
    (inner : List Line) × (end : ℕ) × (lines ≡ line process.line (forms.Process process.name process.at) ∷ (inner ++ line end forms.End ∷ [])) × IsBlock depth process.body inner

-- these lines are these parts, one after the other
abbrev pub AreDeclarations : ℕ → List Declaration → List Line → Type 0
AreDeclarations depth [] lines = lines ≡ []
AreDeclarations depth (part ∷ parts) lines = (first others : List Line) × (lines ≡ first ++ others) × IsDeclaration depth part first × AreDeclarations depth parts others

-- the network with these tiles and nothing else
abbrev pub bare_net : Tiles → Net
bare_net tiles = record { version = 1; tiles = tiles; inputs = []; outputs = []; channels = []; processes = [] }

-- a network with one more part, behind those of its kind
abbrev pub with_declaration : Net → Declaration → Net
with_declaration net (DeclaresInput port) = record net { inputs = net.inputs ++ port ∷ [] }
with_declaration net (DeclaresOutput port) = record net { outputs = net.outputs ++ port ∷ [] }
with_declaration net (DeclaresChannel channel) = record net { channels = net.channels ++ channel ∷ [] }
with_declaration net (DeclaresProcess process) = record net { processes = net.processes ++ process ∷ [] }

-- a network with these parts behind its own
abbrev pub with_declarations : Net → List Declaration → Net
with_declarations net [] = net
with_declarations net (part ∷ parts) = with_declarations (with_declaration net part) parts

-- these lines are this network, with at most so many statements open at once in a process
abbrev pub IsNetWithin : ℕ → List Line → Net → Type 0
IsNetWithin depth lines net =
    (first second : ℕ) × (tiles : Tiles) × (parts : List Declaration) × (others : List Line)
    × (lines ≡ line first forms.Version ∷ (line second (forms.TilesLine tiles) ∷ others)) × AreDeclarations depth parts others × (net ≡ with_declarations (bare_net tiles) parts)

-- these lines are this network
abbrev pub IsNet : List Line → Net → Type 0
IsNet lines net = IsNetWithin 16 lines net

-- ---- refusals

-- with some lines behind them, however many, these lines are a network
abbrev pub GoesOnWithin : ℕ → List Line → Type 0
GoesOnWithin depth lines = (more : List Line) × (net : Net) × IsNetWithin depth (lines ++ more) net

-- the same with at most sixteen statements open at once
abbrev pub GoesOn : List Line → Type 0
GoesOn lines = GoesOnWithin 16 lines

-- this is the first line with which no network goes on
pub record IsFirstWrong (lines : List Line) (wrong : Line) : Type 0 where
  pub before : List Line
  pub behind : List Line
  pub split : lines ≡ before ++ wrong ∷ behind
  pub goes_on : GoesOn before
  pub stops : ¬ GoesOn (before ++ wrong ∷ [])

-- it goes on where statements may be nested deeper
abbrev pub GoesOnDeeper : List Line → Line → Type 0
GoesOnDeeper before wrong = (depth : ℕ) × GoesOnWithin depth (before ++ wrong ∷ [])

-- it says `end` or `else`
abbrev pub IsCloser : LineForm → Type 0
IsCloser form = (form ≡ forms.End) ⊎ (form ≡ forms.Else)

-- these lines are whole statements, nested however deep
abbrev pub AreStatements : List Line → Type 0
AreStatements lines = (depth : ℕ) × (block : Block Name) × IsBlock depth block lines

-- what this line opens is open behind these lines, and nothing that was opened later is: whole statements; for an `if` also statements, `else` and statements
abbrev pub IsOpenBehind : LineForm → List Line → Type 0
IsOpenBehind (forms.Process name at) lines = AreStatements lines
IsOpenBehind (forms.OpensWhile var test) lines = AreStatements lines
IsOpenBehind (forms.OpensCount var) lines = AreStatements lines
IsOpenBehind (forms.OpensIf var test) lines = AreStatements lines ⊎ ((first second : List Line) × (between : ℕ) × (lines ≡ first ++ line between forms.Else ∷ second) × AreStatements first × AreStatements second)
IsOpenBehind form lines = ⊥

-- the line with this number opens the last process or block, or the `if` of the last block, that is still open where these lines end
abbrev pub IsUnclosed : List Line → ℕ → Type 0
IsUnclosed lines number = (before inside : List Line) × (opening : LineForm) × (lines ≡ before ++ line number opening ∷ inside) × IsOpenBehind opening inside

-- why these lines are no network, where a line behind all lines of the text would have the number `next`
abbrev pub IsRefusal : ℕ → List Line → NetRefusal → Type 0
IsRefusal next lines (StrayEnd number) = (wrong : Line) × IsFirstWrong lines wrong × (number ≡ wrong.number) × IsCloser wrong.form
IsRefusal next lines (TooDeep number) = (wrong : Line) × (first : IsFirstWrong lines wrong) × (number ≡ wrong.number) × GoesOnDeeper first.before wrong
IsRefusal next lines (BadLine number) =
    ((wrong : Line) × (first : IsFirstWrong lines wrong) × (number ≡ wrong.number) × (¬ IsCloser wrong.form) × (¬ GoesOnDeeper first.before wrong))
    ⊎ (GoesOn lines × (length lines ≤ 1) × (number ≡ next))
IsRefusal next lines (Unclosed number) = GoesOn lines × IsUnclosed lines number

-- the number behind that of the last line of a text, blank lines counted
abbrev pub next_number : List ℕ → ℕ
next_number text = length (text_lines text) + 1

-- this is what the text gives: the network that its lines are, or why they are none
abbrev pub IsAnswer : List ℕ → Result Net NetRefusal → Type 0
IsAnswer text (Ok net) = IsNet (lines_of text) net
IsAnswer text (Err refusal) = IsRefusal (next_number text) (lines_of text) refusal
