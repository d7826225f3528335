-- What can't stand where it stands, however deep statements may be nested: only how many statements are open is looked at.
use Rattle.std.proofs.Common.{◌≡◌, ℕ, zero, suc, inl, inr, Bool, true, false, cond, List, [], ◌∷◌, ◌++◌, length, refl, sym, ap, ◌∙◌, append_assoc}
use Rattle.std.specs.Prelude.{Option, Some, None, Result, Ok, Err, nat_lt}
use Rattle.net_tree.specs.Tree.{Name, Statement, Get, GetAdd, GetSub, Put, PutNumber, Move, Set, Add, Sub, Neg, Double, Copy, Swap, If, While, Count, Block, Empty, Then, Net}
use Rattle.net_syntax.specs.Refusals.{NetRefusal, BadLine, TooDeep, StrayEnd}
use Rattle.net_syntax.specs.Forms as forms
use Rattle.net_syntax.specs.Forms.{LineForm, Line}
use Rattle.net_syntax.specs.Grammar.{line, IsBlock, IsStatement, Declaration, DeclaresInput, DeclaresOutput, DeclaresChannel, DeclaresProcess, IsDeclaration, AreDeclarations, IsNetWithin}
use Rattle.net_syntax.specs.Reading.{BlockRole, FirstOf, WhileOf, CountOf, OpenStatement, OpenProcess, Configuration, after_line, after_lines, and_then, still_open, with_open_block, after_else, after_end, else_in, second_role, line_inside, line_outside}
use Rattle.net_syntax.proofs.Open.{refused_not, same_refusal, read_not, same_read}

-- how much is open behind a line: nothing, or a process and so many statements less one
unfoldable pub open_after : ℕ → LineForm → Option ℕ
open_after zero (forms.Input name position via) = Some zero
open_after zero (forms.Output name position via) = Some zero
open_after zero (forms.Channel name via) = Some zero
open_after zero (forms.Process name at) = Some (suc zero)
open_after zero form = None
open_after (suc held) (forms.Simple statement) = Some (suc held)
open_after (suc held) (forms.OpensIf var test) = Some (suc (suc held))
open_after (suc held) (forms.OpensWhile var test) = Some (suc (suc held))
open_after (suc held) (forms.OpensCount var) = Some (suc (suc held))
open_after (suc held) forms.Else = Some (suc held)
open_after (suc held) forms.End = Some held
open_after (suc held) form = None

unfoldable pub next_open : Option ℕ → (ℕ → Option ℕ) → Option ℕ
next_open None next = None
next_open (Some held) next = next held

-- how much is open behind lines
unfoldable pub open_behind : ℕ → List Line → Option ℕ
open_behind held [] = Some held
open_behind held (l ∷ lines) = next_open (open_after held l.form) (λ more. open_behind more lines)

-- ---- the grammar

mutual
  unfolding open_behind open_after next_open

  block_passes : (block : Block Name) (depth : ℕ) (lines : List Line) → IsBlock depth block lines → (held : ℕ) (rest : List Line) → open_behind (suc held) (lines ++ rest) ≡ open_behind (suc held) rest
  block_passes Empty depth lines is held rest = ap (λ (l : List Line). open_behind (suc held) (l ++ rest)) is
  block_passes (Then number statement more) depth lines is held rest =
      ap (λ (l : List Line). open_behind (suc held) (l ++ rest)) is.2 ∙ ap (open_behind (suc held)) (append_assoc is.0 is.1 rest)
      ∙ statement_passes statement depth number is.0 is.3 held (is.1 ++ rest) ∙ block_passes more depth is.1 is.4 held rest

  statement_passes : (statement : Statement Name) (depth number : ℕ) (lines : List Line) → IsStatement depth number statement lines → (held : ℕ) (rest : List Line) → open_behind (suc held) (lines ++ rest) ≡ open_behind (suc held) rest
  statement_passes (While var test body) depth number lines is held rest =
      ap (λ (l : List Line). open_behind (suc held) (l ++ rest)) is.4
      ∙ ap (open_behind (suc (suc held))) (append_assoc is.1 (line is.2 forms.End ∷ []) rest)
      ∙ block_passes body is.0 is.1 is.5 (suc held) (line is.2 forms.End ∷ rest)
  statement_passes (Count var body) depth number lines is held rest =
      ap (λ (l : List Line). open_behind (suc held) (l ++ rest)) is.4
      ∙ ap (open_behind (suc (suc held))) (append_assoc is.1 (line is.2 forms.End ∷ []) rest)
      ∙ block_passes body is.0 is.1 is.5 (suc held) (line is.2 forms.End ∷ rest)
  statement_passes (If var test first second) depth number lines is held rest =
      ap (λ (l : List Line). open_behind (suc held) (l ++ rest)) is.5
      ∙ ap (open_behind (suc (suc held))) (append_assoc is.1 (is.2 ++ line is.3 forms.End ∷ []) rest ∙ ap (λ (l : List Line). is.1 ++ l) (append_assoc is.2 (line is.3 forms.End ∷ []) rest))
      ∙ block_passes first is.0 is.1 is.6 (suc held) (is.2 ++ line is.3 forms.End ∷ rest)
      ∙ elim is.7 [
        | inl none ↦ ap (λ (l : List Line). open_behind (suc (suc held)) (l ++ line is.3 forms.End ∷ rest)) none.0
        | inr other ↦
            ap (λ (l : List Line). open_behind (suc (suc held)) (l ++ line is.3 forms.End ∷ rest)) other.2
            ∙ block_passes second is.0 other.1 other.3 (suc held) (line is.3 forms.End ∷ rest)
      ]
  statement_passes (Get read var) depth number lines is held rest = ap (λ (l : List Line). open_behind (suc held) (l ++ rest)) is
  statement_passes (GetAdd read var) depth number lines is held rest = ap (λ (l : List Line). open_behind (suc held) (l ++ rest)) is
  statement_passes (GetSub read var) depth number lines is held rest = ap (λ (l : List Line). open_behind (suc held) (l ++ rest)) is
  statement_passes (Put written var) depth number lines is held rest = ap (λ (l : List Line). open_behind (suc held) (l ++ rest)) is
  statement_passes (PutNumber written n) depth number lines is held rest = ap (λ (l : List Line). open_behind (suc held) (l ++ rest)) is
  statement_passes (Move read written) depth number lines is held rest = ap (λ (l : List Line). open_behind (suc held) (l ++ rest)) is
  statement_passes (Set var n) depth number lines is held rest = ap (λ (l : List Line). open_behind (suc held) (l ++ rest)) is
  statement_passes (Add var n) depth number lines is held rest = ap (λ (l : List Line). open_behind (suc held) (l ++ rest)) is
  statement_passes (Sub var n) depth number lines is held rest = ap (λ (l : List Line). open_behind (suc held) (l ++ rest)) is
  statement_passes (Neg var) depth number lines is held rest = ap (λ (l : List Line). open_behind (suc held) (l ++ rest)) is
  statement_passes (Double var) depth number lines is held rest = ap (λ (l : List Line). open_behind (suc held) (l ++ rest)) is
  statement_passes (Copy to from) depth number lines is held rest = ap (λ (l : List Line). open_behind (suc held) (l ++ rest)) is
  statement_passes Swap depth number lines is held rest = ap (λ (l : List Line). open_behind (suc held) (l ++ rest)) is

declaration_passes : (declaration : Declaration) (depth : ℕ) (lines : List Line) → IsDeclaration depth declaration lines → (rest : List Line) → open_behind zero (lines ++ rest) ≡ open_behind zero rest
unfolding open_behind open_after next_open
declaration_passes (DeclaresInput port) depth lines is rest = ap (λ (l : List Line). open_behind zero (l ++ rest)) is
declaration_passes (DeclaresOutput port) depth lines is rest = ap (λ (l : List Line). open_behind zero (l ++ rest)) is
declaration_passes (DeclaresChannel channel) depth lines is rest = ap (λ (l : List Line). open_behind zero (l ++ rest)) is
declaration_passes (DeclaresProcess process) depth lines is rest =
    ap (λ (l : List Line). open_behind zero (l ++ rest)) is.2
    ∙ ap (open_behind (suc zero)) (append_assoc is.0 (line is.1 forms.End ∷ []) rest)
    ∙ block_passes process.body depth is.0 is.3 zero (line is.1 forms.End ∷ rest)

declarations_pass : (declarations : List Declaration) (depth : ℕ) (lines : List Line) → AreDeclarations depth declarations lines → open_behind zero lines ≡ Some zero
unfolding open_behind
declarations_pass [] depth lines is = ap (open_behind zero) is
declarations_pass (declaration ∷ declarations) depth lines is = ap (open_behind zero) is.2 ∙ declaration_passes declaration depth is.0 is.3 is.1 ∙ declarations_pass declarations depth is.1 is.4

-- the form of the first line, and of the second
form_at_first : List Line → LineForm
form_at_first [] = forms.Malformed
form_at_first (l ∷ lines) = l.form

behind_first : List Line → List Line
behind_first [] = []
behind_first (l ∷ lines) = lines

pub version_first : (depth : ℕ) (l : Line) (lines : List Line) (net : Net) → IsNetWithin depth (l ∷ lines) net → l.form ≡ forms.Version
unfolding form_at_first
version_first depth l lines net is = ap form_at_first is.5

pub tiles_second : (depth : ℕ) (l second : Line) (lines : List Line) (net : Net) → (is : IsNetWithin depth (l ∷ second ∷ lines) net) → second.form ≡ forms.TilesLine is.2
unfolding form_at_first behind_first
tiles_second depth l second lines net is = ap (λ (ls : List Line). form_at_first (behind_first ls)) is.5

-- the lines of a network, however deep
pub others_pass : (depth : ℕ) (l second : Line) (lines : List Line) (net : Net) → IsNetWithin depth (l ∷ second ∷ lines) net → open_behind zero lines ≡ Some zero
unfolding behind_first
others_pass depth l second lines net is = ap (λ (ls : List Line). open_behind zero (behind_first (behind_first ls))) is.5 ∙ declarations_pass is.3 depth is.4 is.6

-- ---- the reader

abbrev pub count_of : Option OpenProcess → ℕ
count_of None = zero
count_of (Some opened) = suc (length opened.around)

counted_as : (one two : Configuration) → ◌≡◌ {A = Result Configuration NetRefusal} (Ok one) (Ok two) → ◌≡◌ {A = Option ℕ} (Some (count_of one.open_process)) (Some (count_of two.open_process))
counted_as one two e = ap (λ (c : Configuration). Some (count_of c.open_process)) (same_read one two e)

outside_counts : (net : Net) (number : ℕ) (form : LineForm) (after : Configuration) → line_outside net number form ≡ Ok after → open_after zero form ≡ Some (count_of after.open_process)
unfolding open_after
outside_counts net number (forms.Input name position via) after e = counted_as _ after e
outside_counts net number (forms.Output name position via) after e = counted_as _ after e
outside_counts net number (forms.Channel name via) after e = counted_as _ after e
outside_counts net number (forms.Process name at) after e = counted_as _ after e
outside_counts net number form after e = absurd (read_not after _ e)

opens_count : (net : Net) (opened : OpenProcess) (number : ℕ) (role : BlockRole) (after : Configuration) → still_open net (with_open_block opened number role) ≡ Ok after → ◌≡◌ {A = Option ℕ} (Some (suc (suc (length opened.around)))) (Some (count_of after.open_process))
opens_count net opened number role after e = by (nat_lt (length opened.around) 16) e
  where
    by : (b : Bool) → still_open net (cond b (Ok (record opened { block = Empty; around = record { line = number; role = role; before = opened.block } ∷ opened.around })) (Err (TooDeep number))) ≡ Ok after → ◌≡◌ {A = Option ℕ} (Some (suc (suc (length opened.around)))) (Some (count_of after.open_process))
    by true ok = counted_as (record { net = net; open_process = Some (record opened { block = Empty; around = record { line = number; role = role; before = opened.block } ∷ opened.around }) }) after ok
    by false err = absurd (read_not after _ err)

else_counts : (net : Net) (opened : OpenProcess) (number : ℕ) (around : List OpenStatement) (after : Configuration) → still_open net (after_else opened number around) ≡ Ok after → ◌≡◌ {A = Option ℕ} (Some (suc (length around))) (Some (count_of after.open_process))
else_counts net opened number [] after e = absurd (read_not after _ e)
else_counts net opened number (inner ∷ around) after e = by (second_role inner.role opened.block) e
  where
    by : (role : Option BlockRole) → still_open net (else_in opened number inner around role) ≡ Ok after → ◌≡◌ {A = Option ℕ} (Some (suc (suc (length around)))) (Some (count_of after.open_process))
    by None err = absurd (read_not after _ err)
    by (Some role) ok = counted_as (record { net = net; open_process = Some (record opened { block = Empty; around = record inner { role = role } ∷ around }) }) after ok

end_counts : (net : Net) (opened : OpenProcess) (around : List OpenStatement) (after : Configuration) → after_end net opened around ≡ Ok after → ◌≡◌ {A = Option ℕ} (Some (length around)) (Some (count_of after.open_process))
end_counts net opened [] after e = counted_as _ after e
end_counts net opened (inner ∷ around) after e = counted_as _ after e

inside_counts : (net : Net) (opened : OpenProcess) (number : ℕ) (form : LineForm) (after : Configuration) → line_inside net opened number form ≡ Ok after → open_after (suc (length opened.around)) form ≡ Some (count_of after.open_process)
unfolding open_after
inside_counts net opened number (forms.Simple statement) after e = counted_as _ after e
inside_counts net opened number (forms.OpensIf var test) after e = opens_count net opened number (FirstOf var test) after e
inside_counts net opened number (forms.OpensWhile var test) after e = opens_count net opened number (WhileOf var test) after e
inside_counts net opened number (forms.OpensCount var) after e = opens_count net opened number (CountOf var) after e
inside_counts net opened number forms.Else after e = else_counts net opened number opened.around after e
inside_counts net opened number forms.End after e = end_counts net opened opened.around after e
inside_counts net opened number form after e = absurd (read_not after _ e)

line_counts : (net : Net) (open_process : Option OpenProcess) (number : ℕ) (form : LineForm) (after : Configuration) → after_line net open_process number form ≡ Ok after → open_after (count_of open_process) form ≡ Some (count_of after.open_process)
line_counts net None number form after e = outside_counts net number form after e
line_counts net (Some opened) number form after e = inside_counts net opened number form after e

-- behind lines that were read as much is open as was read
pub lines_count : (lines : List Line) (sofar reached : Configuration) (rest : List Line) → after_lines sofar lines ≡ Ok reached → open_behind (count_of sofar.open_process) (lines ++ rest) ≡ open_behind (count_of reached.open_process) rest
unfolding after_lines and_then open_behind next_open
lines_count [] sofar reached rest e = ap (λ (c : Configuration). open_behind (count_of c.open_process) rest) (same_read sofar reached e)
lines_count (l ∷ lines) sofar reached rest e = by (λ c. lines_count lines c reached rest) (after_line sofar.net sofar.open_process l.number l.form) refl e
  where
    by : ((c : Configuration) → after_lines c lines ≡ Ok reached → open_behind (count_of c.open_process) (lines ++ rest) ≡ open_behind (count_of reached.open_process) rest) → (read : Result Configuration NetRefusal) → after_line sofar.net sofar.open_process l.number l.form ≡ read → and_then read (λ c. after_lines c lines) ≡ Ok reached → next_open (open_after (count_of sofar.open_process) l.form) (λ more. open_behind more (lines ++ rest)) ≡ open_behind (count_of reached.open_process) rest
    by again (Ok c) here ok = ap (λ (o : Option ℕ). next_open o (λ more. open_behind more (lines ++ rest))) (line_counts sofar.net sofar.open_process l.number l.form c here) ∙ again c ok
    by again (Err r) here err = absurd (read_not reached r err)

-- what is refused as a wrong line
other_refusal : {X : Type 0} (one : NetRefusal) (number : ℕ) → ((n : ℕ) → one ≡ BadLine n → ⊥) → ◌≡◌ {A = Result X NetRefusal} (Err one) (Err (BadLine number)) → ⊥
other_refusal one number other e = other number (same_refusal one (BadLine number) e)

not_deep : (number n : ℕ) → ◌≡◌ {A = NetRefusal} (TooDeep number) (BadLine n) → ⊥
not_deep number n e = absurd cc

not_stray : (number n : ℕ) → ◌≡◌ {A = NetRefusal} (StrayEnd number) (BadLine n) → ⊥
not_stray number n e = absurd cc

outside_wrong : (net : Net) (number : ℕ) (form : LineForm) (n : ℕ) → line_outside net number form ≡ Err (BadLine n) → open_after zero form ≡ None
unfolding open_after
outside_wrong net number (forms.Input name position via) n e = absurd (refused_not _ (BadLine n) e)
outside_wrong net number (forms.Output name position via) n e = absurd (refused_not _ (BadLine n) e)
outside_wrong net number (forms.Channel name via) n e = absurd (refused_not _ (BadLine n) e)
outside_wrong net number (forms.Process name at) n e = absurd (refused_not _ (BadLine n) e)
outside_wrong net number form n e = refl

opens_never : {X : Type 0} (net : Net) (opened : OpenProcess) (number : ℕ) (role : BlockRole) (n : ℕ) → still_open net (with_open_block opened number role) ≡ Err (BadLine n) → X
opens_never {X = X} net opened number role n e = by (nat_lt (length opened.around) 16) e
  where
    by : (b : Bool) → still_open net (cond b (Ok (record opened { block = Empty; around = record { line = number; role = role; before = opened.block } ∷ opened.around })) (Err (TooDeep number))) ≡ Err (BadLine n) → X
    by true ok = absurd (refused_not _ (BadLine n) ok)
    by false err = absurd (other_refusal (TooDeep number) n (not_deep number) err)

else_never : {X : Type 0} (net : Net) (opened : OpenProcess) (number : ℕ) (around : List OpenStatement) (n : ℕ) → still_open net (after_else opened number around) ≡ Err (BadLine n) → X
else_never net opened number [] n e = absurd (other_refusal (StrayEnd number) n (not_stray number) e)
else_never {X = X} net opened number (inner ∷ around) n e = by (second_role inner.role opened.block) e
  where
    by : (role : Option BlockRole) → still_open net (else_in opened number inner around role) ≡ Err (BadLine n) → X
    by None err = absurd (other_refusal (StrayEnd number) n (not_stray number) err)
    by (Some role) ok = absurd (refused_not _ (BadLine n) ok)

end_never : {X : Type 0} (net : Net) (opened : OpenProcess) (around : List OpenStatement) (n : ℕ) → after_end net opened around ≡ Err (BadLine n) → X
end_never net opened [] n e = absurd (refused_not _ (BadLine n) e)
end_never net opened (inner ∷ around) n e = absurd (refused_not _ (BadLine n) e)

inside_wrong : (net : Net) (opened : OpenProcess) (number : ℕ) (form : LineForm) (n : ℕ) → line_inside net opened number form ≡ Err (BadLine n) → open_after (suc (length opened.around)) form ≡ None
unfolding open_after
inside_wrong net opened number (forms.Simple statement) n e = absurd (refused_not _ (BadLine n) e)
inside_wrong net opened number (forms.OpensIf var test) n e = opens_never net opened number (FirstOf var test) n e
inside_wrong net opened number (forms.OpensWhile var test) n e = opens_never net opened number (WhileOf var test) n e
inside_wrong net opened number (forms.OpensCount var) n e = opens_never net opened number (CountOf var) n e
inside_wrong net opened number forms.Else n e = else_never net opened number opened.around n e
inside_wrong net opened number forms.End n e = end_never net opened opened.around n e
inside_wrong net opened number form n e = refl

pub line_wrong : (net : Net) (open_process : Option OpenProcess) (number : ℕ) (form : LineForm) (n : ℕ) → after_line net open_process number form ≡ Err (BadLine n) → open_after (count_of open_process) form ≡ None
line_wrong net None number form n e = outside_wrong net number form n e
line_wrong net (Some opened) number form n e = inside_wrong net opened number form n e

-- a wrong line is wrong however deep statements may be nested
pub never_passes : (before more : List Line) (wrong : Line) (sofar reached : Configuration) (n : ℕ) → sofar.open_process ≡ None → after_lines sofar before ≡ Ok reached → after_line reached.net reached.open_process wrong.number wrong.form ≡ Err (BadLine n) → open_behind zero ((before ++ wrong ∷ []) ++ more) ≡ Some zero → ⊥
unfolding open_behind next_open
never_passes before more wrong sofar reached n outside goes stops passes =
    elsewhere
    (sym passes
    ∙ ap (open_behind zero) (append_assoc before (wrong ∷ []) more)
    ∙ ap (λ (o : Option OpenProcess). open_behind (count_of o) (before ++ wrong ∷ more)) (sym outside)
    ∙ lines_count before sofar reached (wrong ∷ more) goes
    ∙ ap (λ (o : Option ℕ). next_open o (λ rest. open_behind rest more)) (line_wrong reached.net reached.open_process wrong.number wrong.form n stops))
  where
    elsewhere : ◌≡◌ {A = Option ℕ} (Some zero) None → ⊥
    elsewhere e = absurd cc
