-- What the grammar derives is read: line after line the reader comes to the network that the lines are.
use Rattle.std.proofs.Common.{◌≡◌, ℕ, suc, ◌+◌, ◌≤◌, inl, inr, Bool, true, cond, List, [], ◌∷◌, ◌++◌, length, refl, sym, ap, subst, ◌∙◌, arith, append_assoc}
use Rattle.std.specs.Prelude.{Some, None, Result, Ok, Err, nat_lt}
use Rattle.std.proofs.lemmas.Bool.Decides.{nat_tests}
use Rattle.net_tree.specs.Tree.{Name, Statement, Get, GetAdd, GetSub, Put, PutNumber, Move, Set, Add, Sub, Neg, Double, Copy, Swap, If, While, Count, Block, Empty, Then, joined, with_last, ProcessText, Net}
use Rattle.net_syntax.specs.Refusals.{NetRefusal, TooDeep}
use Rattle.net_syntax.specs.Forms as forms
use Rattle.net_syntax.specs.Forms.{LineForm, Line, lines_of}
use Rattle.net_syntax.specs.Grammar.{line, IsBlock, IsStatement, Declaration, DeclaresInput, DeclaresOutput, DeclaresChannel, DeclaresProcess, IsDeclaration, AreDeclarations, IsNet, bare_net, with_declaration, with_declarations, next_number}
use Rattle.net_syntax.specs.Reading.{BlockRole, FirstOf, SecondOf, WhileOf, CountOf, OpenProcess, Configuration, after_line, after_lines, and_then, still_open, with_open_block, answer_of, net_of, net_at_end}
use Rattle.net_syntax.proofs.Limits.{goes_on, nothing_more}

-- ---- blocks behind each other

pub joined-empty : (block : Block Name) → joined block Empty ≡ block
joined-empty Empty = refl
joined-empty (Then number statement rest) = ap (λ (b : Block Name). Then number statement b) (joined-empty rest)

pub joined-last : (block rest : Block Name) (number : ℕ) (statement : Statement Name) → joined (with_last block number statement) rest ≡ joined block (Then number statement rest)
joined-last Empty rest number statement = refl
joined-last (Then n s block) rest number statement = ap (λ (b : Block Name). Then n s b) (joined-last block rest number statement)

-- ---- one statement after the other

-- a process that is open in this network
abbrev pub during : Net → OpenProcess → Configuration
during net opened = record { net = net; open_process = Some opened }

-- the process with these statements in its innermost open block
abbrev pub holding : OpenProcess → Block Name → OpenProcess
holding opened block = record opened { block = block }

-- the process with one more open block
abbrev pub inside : OpenProcess → ℕ → BlockRole → OpenProcess
inside opened number role = record opened { block = Empty; around = record { line = number; role = role; before = opened.block } ∷ opened.around }

opened_is : (opened : OpenProcess) (number : ℕ) (role : BlockRole) (deeper : ℕ) → length opened.around + suc deeper ≤ 16 → with_open_block opened number role ≡ Ok (inside opened number role)
opened_is opened number role deeper fits =
    let test : nat_lt (length opened.around) 16 ≡ true = grind (arith, nat_tests) in
    ap (λ (b : Bool). cond b (Ok (inside opened number role)) (Err (TooDeep number))) test

-- a line that opens a block
opens_is : (net : Net) (opened : OpenProcess) (number : ℕ) (role : BlockRole) (form : LineForm) (lines : List Line) (deeper : ℕ) → length opened.around + suc deeper ≤ 16 → after_line net (Some opened) number form ≡ still_open net (with_open_block opened number role) → after_lines (during net opened) (line number form ∷ lines) ≡ after_lines (during net (inside opened number role)) lines
opens_is net opened number role form lines deeper fits is =
    goes_on (during net opened) (during net (inside opened number role)) number form lines (is ∙ ap (still_open net) (opened_is opened number role deeper fits))

-- a statement without a block
simple_is : (net : Net) (opened : OpenProcess) (number : ℕ) (statement : Statement Name) (lines rest : List Line) → lines ≡ line number (forms.Simple statement) ∷ [] → after_lines (during net opened) (lines ++ rest) ≡ after_lines (during net (holding opened (with_last opened.block number statement))) rest
simple_is net opened number statement lines rest is =
    ap (λ (l : List Line). after_lines (during net opened) (l ++ rest)) is
    ∙ goes_on (during net opened) (during net (holding opened (with_last opened.block number statement))) number (forms.Simple statement) rest refl

mutual
  block_is : (block : Block Name) (depth : ℕ) (lines : List Line) → IsBlock depth block lines → (net : Net) (opened : OpenProcess) (rest : List Line) → length opened.around + depth ≤ 16 → after_lines (during net opened) (lines ++ rest) ≡ after_lines (during net (holding opened (joined opened.block block))) rest
  block_is Empty depth lines is net opened rest fits =
      ap (λ (l : List Line). after_lines (during net opened) (l ++ rest)) is ∙ ap (λ (b : Block Name). after_lines (during net (holding opened b)) rest) (sym (joined-empty opened.block))
  block_is (Then number statement more) depth lines is net opened rest fits =
      let first = is.0 in
      let others = is.1 in
      ap (λ (l : List Line). after_lines (during net opened) (l ++ rest)) is.2 ∙ ap (after_lines (during net opened)) (append_assoc first others rest)
      ∙ statement_is statement depth number first is.3 net opened (others ++ rest) fits
      ∙ block_is more depth others is.4 net (holding opened (with_last opened.block number statement)) rest fits
      ∙ ap (λ (b : Block Name). after_lines (during net (holding opened b)) rest) (joined-last opened.block more number statement)

  statement_is : (statement : Statement Name) (depth number : ℕ) (lines : List Line) → IsStatement depth number statement lines → (net : Net) (opened : OpenProcess) (rest : List Line) → length opened.around + depth ≤ 16 → after_lines (during net opened) (lines ++ rest) ≡ after_lines (during net (holding opened (with_last opened.block number statement))) rest
  statement_is (While var test body) depth number lines is net opened rest fits =
      let deeper = is.0 in
      let inner = is.1 in
      let end = is.2 in
      let room : length opened.around + suc deeper ≤ 16 = subst (λ (d : ℕ). length opened.around + d ≤ 16) is.3 fits in
      ap (λ (l : List Line). after_lines (during net opened) (l ++ rest)) is.4
      ∙ opens_is net opened number (WhileOf var test) (forms.OpensWhile var test) ((inner ++ line end forms.End ∷ []) ++ rest) deeper room refl
      ∙ ap (after_lines (during net (inside opened number (WhileOf var test)))) (append_assoc inner (line end forms.End ∷ []) rest)
      ∙ block_is body deeper inner is.5 net (inside opened number (WhileOf var test)) (line end forms.End ∷ rest) (omega (arith, room))
      ∙ goes_on (during net (holding (inside opened number (WhileOf var test)) body)) (during net (holding opened (with_last opened.block number (While var test body)))) end forms.End rest refl
  statement_is (Count var body) depth number lines is net opened rest fits =
      let deeper = is.0 in
      let inner = is.1 in
      let end = is.2 in
      let room : length opened.around + suc deeper ≤ 16 = subst (λ (d : ℕ). length opened.around + d ≤ 16) is.3 fits in
      ap (λ (l : List Line). after_lines (during net opened) (l ++ rest)) is.4
      ∙ opens_is net opened number (CountOf var) (forms.OpensCount var) ((inner ++ line end forms.End ∷ []) ++ rest) deeper room refl
      ∙ ap (after_lines (during net (inside opened number (CountOf var)))) (append_assoc inner (line end forms.End ∷ []) rest)
      ∙ block_is body deeper inner is.5 net (inside opened number (CountOf var)) (line end forms.End ∷ rest) (omega (arith, room))
      ∙ goes_on (during net (holding (inside opened number (CountOf var)) body)) (during net (holding opened (with_last opened.block number (Count var body)))) end forms.End rest refl
  statement_is (If var test first second) depth number lines is net opened rest fits =
      let deeper = is.0 in
      let inner = is.1 in
      let behind = is.2 in
      let end = is.3 in
      let room : length opened.around + suc deeper ≤ 16 = subst (λ (d : ℕ). length opened.around + d ≤ 16) is.4 fits in
      let one = inside opened number (FirstOf var test) in
      let two = inside opened number (SecondOf var test first) in
      ap (λ (l : List Line). after_lines (during net opened) (l ++ rest)) is.5
      ∙ opens_is net opened number (FirstOf var test) (forms.OpensIf var test) ((inner ++ (behind ++ line end forms.End ∷ [])) ++ rest) deeper room refl
      ∙ ap (after_lines (during net one)) (append_assoc inner (behind ++ line end forms.End ∷ []) rest ∙ ap (λ (l : List Line). inner ++ l) (append_assoc behind (line end forms.End ∷ []) rest))
      ∙ block_is first deeper inner is.6 net one (behind ++ line end forms.End ∷ rest) (omega (arith, room))
      ∙ elim is.7 [
        | inl none ↦
            ap (λ (l : List Line). after_lines (during net (holding one first)) (l ++ line end forms.End ∷ rest)) none.0
            ∙ goes_on (during net (holding one first)) (during net (holding opened (with_last opened.block number (If var test first Empty)))) end forms.End rest refl
            ∙ ap (λ (b : Block Name). after_lines (during net (holding opened (with_last opened.block number (If var test first b)))) rest) (sym none.1)
        | inr other ↦
            ap (λ (l : List Line). after_lines (during net (holding one first)) (l ++ line end forms.End ∷ rest)) other.2
            ∙ goes_on (during net (holding one first)) (during net two) other.0 forms.Else (other.1 ++ line end forms.End ∷ rest) refl
            ∙ block_is second deeper other.1 other.3 net two (line end forms.End ∷ rest) (omega (arith, room))
            ∙ goes_on (during net (holding two second)) (during net (holding opened (with_last opened.block number (If var test first second)))) end forms.End rest refl
      ]
  statement_is (Get read var) depth number lines is net opened rest fits = simple_is net opened number (Get read var) lines rest is
  statement_is (GetAdd read var) depth number lines is net opened rest fits = simple_is net opened number (GetAdd read var) lines rest is
  statement_is (GetSub read var) depth number lines is net opened rest fits = simple_is net opened number (GetSub read var) lines rest is
  statement_is (Put written var) depth number lines is net opened rest fits = simple_is net opened number (Put written var) lines rest is
  statement_is (PutNumber written n) depth number lines is net opened rest fits = simple_is net opened number (PutNumber written n) lines rest is
  statement_is (Move read written) depth number lines is net opened rest fits = simple_is net opened number (Move read written) lines rest is
  statement_is (Set var n) depth number lines is net opened rest fits = simple_is net opened number (Set var n) lines rest is
  statement_is (Add var n) depth number lines is net opened rest fits = simple_is net opened number (Add var n) lines rest is
  statement_is (Sub var n) depth number lines is net opened rest fits = simple_is net opened number (Sub var n) lines rest is
  statement_is (Neg var) depth number lines is net opened rest fits = simple_is net opened number (Neg var) lines rest is
  statement_is (Double var) depth number lines is net opened rest fits = simple_is net opened number (Double var) lines rest is
  statement_is (Copy to from) depth number lines is net opened rest fits = simple_is net opened number (Copy to from) lines rest is
  statement_is Swap depth number lines is net opened rest fits = simple_is net opened number Swap lines rest is

-- ---- declarations and networks

-- no process is open in this network
abbrev pub between : Net → Configuration
between net = record { net = net; open_process = None }

-- a process as it is opened
abbrev pub begun : ProcessText → OpenProcess
begun process = record { name = process.name; at = process.at; line = process.line; block = Empty; around = [] }

declaration_is : (declaration : Declaration) (lines : List Line) → IsDeclaration 16 declaration lines → (net : Net) (rest : List Line) → after_lines (between net) (lines ++ rest) ≡ after_lines (between (with_declaration net declaration)) rest
declaration_is (DeclaresInput port) lines is net rest =
    ap (λ (l : List Line). after_lines (between net) (l ++ rest)) is ∙ goes_on (between net) (between (with_declaration net (DeclaresInput port))) port.line (forms.Input port.name port.position port.via) rest refl
declaration_is (DeclaresOutput port) lines is net rest =
    ap (λ (l : List Line). after_lines (between net) (l ++ rest)) is ∙ goes_on (between net) (between (with_declaration net (DeclaresOutput port))) port.line (forms.Output port.name port.position port.via) rest refl
declaration_is (DeclaresChannel channel) lines is net rest =
    ap (λ (l : List Line). after_lines (between net) (l ++ rest)) is ∙ goes_on (between net) (between (with_declaration net (DeclaresChannel channel))) channel.line (forms.Channel channel.name channel.via) rest refl
declaration_is (DeclaresProcess process) lines is net rest =
    let inner = is.0 in
    let end = is.1 in
    ap (λ (l : List Line). after_lines (between net) (l ++ rest)) is.2
    ∙ goes_on (between net) (during net (begun process)) process.line (forms.Process process.name process.at) ((inner ++ line end forms.End ∷ []) ++ rest) refl
    ∙ ap (after_lines (during net (begun process))) (append_assoc inner (line end forms.End ∷ []) rest)
    ∙ block_is process.body 16 inner is.3 net (begun process) (line end forms.End ∷ rest) (omega arith)
    ∙ goes_on (during net (holding (begun process) process.body)) (between (with_declaration net (DeclaresProcess process))) end forms.End rest refl

pub declarations_are : (declarations : List Declaration) (lines : List Line) → AreDeclarations 16 declarations lines → (net : Net) → after_lines (between net) lines ≡ Ok (between (with_declarations net declarations))
declarations_are [] lines is net = ap (after_lines (between net)) is ∙ nothing_more (between net)
declarations_are (declaration ∷ declarations) lines is net =
    ap (after_lines (between net)) is.2 ∙ declaration_is declaration is.0 is.3 net is.1 ∙ declarations_are declarations is.1 is.4 (with_declaration net declaration)

-- the lines of a network are read as that network
pub net_is : (next : ℕ) (lines : List Line) (net : Net) → IsNet lines net → answer_of next lines ≡ Ok net
unfolding and_then
net_is next lines net is =
    let first = is.0 in
    let second = is.1 in
    let tiles = is.2 in
    let declarations = is.3 in
    let others = is.4 in
    ap (answer_of next) is.5
    ∙ ap (λ (r : Result Configuration NetRefusal). and_then r (λ sofar. net_at_end sofar.net sofar.open_process)) (declarations_are declarations others is.6 (bare_net tiles))
    ∙ ap (λ (n : Net). Ok n) (sym is.7)

pub derived_is_read : (text : List ℕ) (net : Net) → IsNet (lines_of text) net → net_of text ≡ Ok net
unfolding net_of
derived_is_read text net is = net_is (next_number text) (lines_of text) net is
