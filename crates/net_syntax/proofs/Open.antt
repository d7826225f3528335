-- What is open where lines end: the lines behind the one that opened it are whole statements.
use Rattle.std.proofs.Common.{◌≡◌, ℕ, zero, suc, ◌+◌, ◌<◌, inl, inr, Bool, true, false, cond, List, [], ◌∷◌, ◌++◌, length, refl, sym, ap, subst, ◌∙◌, arith, append_assoc, append-nil}
use Rattle.std.specs.Prelude.{Option, Some, None, Result, Ok, Err, nat_lt}
use Rattle.std.proofs.lemmas.Bool.Decides.{nat_tests}
use Rattle.net_tree.specs.Tree.{Name, Statement, Block, Empty, Then, with_last, Net}
use Rattle.net_syntax.specs.Refusals.{NetRefusal, BadLine, TooDeep}
use Rattle.net_syntax.specs.Forms as forms
use Rattle.net_syntax.specs.Forms.{LineForm, Line}
use Rattle.net_syntax.specs.Grammar.{line, IsBlock, IsStatement, Declaration, DeclaresInput, DeclaresOutput, DeclaresChannel, DeclaresProcess, IsDeclaration, AreDeclarations, IsOpenBehind, IsUnclosed}
use Rattle.net_syntax.specs.Reading.{BlockRole, FirstOf, SecondOf, WhileOf, CountOf, OpenStatement, OpenProcess, Configuration, after_line, after_lines, and_then, still_open, with_open_block, after_else, after_end, line_inside, line_outside, statement_with, innermost_line}
use Rattle.net_syntax.proofs.Plain.{IsPlainForm, ArePlain}
use Rattle.net_syntax.proofs.Blamed.{IsBlockLine}
use Rattle.net_syntax.proofs.Sound.{plain_is}

-- the line that opens a block of this role
abbrev pub opening_of : BlockRole → LineForm
opening_of (FirstOf var test) = forms.OpensIf var test
opening_of (SecondOf var test first) = forms.OpensIf var test
opening_of (WhileOf var test) = forms.OpensWhile var test
opening_of (CountOf var) = forms.OpensCount var

-- these lines stand behind the line that opens a block of this role, and the block is this so far
abbrev pub IsInside : ℕ → BlockRole → Block Name → List Line → Type 0
IsInside depth (SecondOf var test first) block lines = (before : List Line) × (between : ℕ) × (behind : List Line) × (lines ≡ before ++ line between forms.Else ∷ behind) × IsBlock depth first before × IsBlock depth block behind
IsInside depth role block lines = IsBlock depth block lines

-- these lines are whole declarations, in which one statement more than in a network may be open at once
abbrev pub IsWhole : List Line → Type 0
IsWhole lines = (parts : List Declaration) × AreDeclarations 17 parts lines

-- these lines end inside of a process and of these open statements
abbrev pub IsHeld : Name → Option ℕ → ℕ → ℕ → Block Name → List OpenStatement → List Line → Type 0
IsHeld name at number depth block [] lines = (front inside : List Line) × (lines ≡ front ++ line number (forms.Process name at) ∷ inside) × IsBlock depth block inside × IsWhole front
IsHeld name at number depth block (inner ∷ around) lines =
    (front inside : List Line) × (lines ≡ front ++ line inner.line (opening_of inner.role) ∷ inside) × IsInside depth inner.role block inside × IsHeld name at number (suc depth) inner.before around front

-- these lines end outside of a process, or inside of this one
abbrev pub IsStanding : Option OpenProcess → List Line → Type 0
IsStanding None lines = IsWhole lines
IsStanding (Some opened) lines = (depth : ℕ) × (length opened.around + depth ≡ 16) × IsHeld opened.name opened.at opened.line (suc depth) opened.block opened.around lines

-- ---- one statement more

block_last : (block : Block Name) (depth number : ℕ) (statement : Statement Name) (xs ys : List Line) → IsBlock depth block xs → IsStatement depth number statement ys → IsBlock depth (with_last block number statement) (xs ++ ys)
block_last Empty depth number statement xs ys is last = (ys, [], ap (λ (l : List Line). l ++ ys) is ∙ sym (append-nil ys), last, refl)
block_last (Then n s rest) depth number statement xs ys is last =
    (is.0, is.1 ++ ys, ap (λ (l : List Line). l ++ ys) is.2 ∙ append_assoc is.0 is.1 ys, is.3, block_last rest depth number statement is.1 ys is.4 last)

inside_last : (role : BlockRole) (block : Block Name) (depth number : ℕ) (statement : Statement Name) (xs ys : List Line) → IsInside depth role block xs → IsStatement depth number statement ys → IsInside depth role (with_last block number statement) (xs ++ ys)
inside_last (FirstOf var test) block depth number statement xs ys is last = block_last block depth number statement xs ys is last
inside_last (SecondOf var test first) block depth number statement xs ys is last =
    (is.0, is.1, is.2 ++ ys, ap (λ (l : List Line). l ++ ys) is.3 ∙ append_assoc is.0 (line is.1 forms.Else ∷ is.2) ys, is.4, block_last block depth number statement is.2 ys is.5 last)
inside_last (WhileOf var test) block depth number statement xs ys is last = block_last block depth number statement xs ys is last
inside_last (CountOf var) block depth number statement xs ys is last = block_last block depth number statement xs ys is last

held_last : (around : List OpenStatement) (name : Name) (at : Option ℕ) (process : ℕ) (block : Block Name) (depth number : ℕ) (statement : Statement Name) (lines ys : List Line) → IsHeld name at process depth block around lines → IsStatement depth number statement ys → IsHeld name at process depth (with_last block number statement) around (lines ++ ys)
held_last [] name at process block depth number statement lines ys is last =
    (is.0, is.1 ++ ys, ap (λ (l : List Line). l ++ ys) is.2 ∙ append_assoc is.0 (line process (forms.Process name at) ∷ is.1) ys, block_last block depth number statement is.1 ys is.3 last, is.4)
held_last (inner ∷ around) name at process block depth number statement lines ys is last =
    (is.0, is.1 ++ ys, ap (λ (l : List Line). l ++ ys) is.2 ∙ append_assoc is.0 (line inner.line (opening_of inner.role) ∷ is.1) ys, inside_last inner.role block depth number statement is.1 ys is.3 last, is.4)

-- a statement whose last block ends
statement_ends : (role : BlockRole) (block : Block Name) (depth number end : ℕ) (inside : List Line) → IsInside depth role block inside → IsStatement (suc depth) number (statement_with role block) (line number (opening_of role) ∷ (inside ++ line end forms.End ∷ []))
statement_ends (FirstOf var test) block depth number end inside is = (depth, inside, [], end, refl, refl, is, inl (refl, refl))
statement_ends (SecondOf var test first) block depth number end inside is = (
  depth,
  is.0,
  line is.1 forms.Else ∷ is.2,
  end,
  refl,
  ap (λ (l : List Line). line number (forms.OpensIf var test) ∷ l) (ap (λ (l : List Line). l ++ line end forms.End ∷ []) is.3 ∙ append_assoc is.0 (line is.1 forms.Else ∷ is.2) (line end forms.End ∷ [])),
  is.4,
  inr (is.1, is.2, refl, is.5),
)
statement_ends (WhileOf var test) block depth number end inside is = (depth, inside, end, refl, refl, is)
statement_ends (CountOf var) block depth number end inside is = (depth, inside, end, refl, refl, is)

-- ---- one declaration more

declarations_last : (parts : List Declaration) (depth : ℕ) (part : Declaration) (xs ys : List Line) → AreDeclarations depth parts xs → IsDeclaration depth part ys → AreDeclarations depth (parts ++ part ∷ []) (xs ++ ys)
declarations_last [] depth part xs ys are is = (ys, [], ap (λ (l : List Line). l ++ ys) are ∙ sym (append-nil ys), is, refl)
declarations_last (first ∷ parts) depth part xs ys are is = (are.0, are.1 ++ ys, ap (λ (l : List Line). l ++ ys) are.2 ∙ append_assoc are.0 are.1 ys, are.3, declarations_last parts depth part are.1 ys are.4 is)

whole_more : (part : Declaration) (xs ys : List Line) → IsWhole xs → IsDeclaration 17 part ys → IsWhole (xs ++ ys)
whole_more part xs ys whole is = (whole.0 ++ part ∷ [], declarations_last whole.0 17 part xs ys whole.1 is)

-- a process whose body ends
process_ends : (name : Name) (at : Option ℕ) (process : ℕ) (depth : ℕ) (block : Block Name) (lines : List Line) (number : ℕ) → depth ≡ 17 → IsHeld name at process depth block [] lines → IsWhole (lines ++ line number forms.End ∷ [])
process_ends name at process depth block lines number deep is =
    let part : Declaration = DeclaresProcess (record { name = name; at = at; body = block; line = process }) in
    let whole : List Line = line process (forms.Process name at) ∷ (is.1 ++ line number forms.End ∷ []) in
    let split : lines ++ line number forms.End ∷ [] ≡ is.0 ++ whole = ap (λ (l : List Line). l ++ line number forms.End ∷ []) is.2 ∙ append_assoc is.0 (line process (forms.Process name at) ∷ is.1) (line number forms.End ∷ []) in
    subst IsWhole (sym split) (whole_more part is.0 whole is.4 (is.1, number, refl, subst (λ (d : ℕ). IsBlock d block is.1) deep is.3))

-- ---- results

pub refused_not : {X : Type 0} (x : X) (refusal : NetRefusal) → ◌≡◌ {A = Result X NetRefusal} (Ok x) (Err refusal) → ⊥
refused_not {X = X} x refusal e = elsewhere (ap is_read e)
  where
    is_read : Result X NetRefusal → Bool
    is_read (Ok y) = true
    is_read (Err r) = false

    elsewhere : true ≡ false → ⊥
    elsewhere is = absurd cc

pub same_refusal : {X : Type 0} (one two : NetRefusal) → ◌≡◌ {A = Result X NetRefusal} (Err one) (Err two) → one ≡ two
same_refusal {X = X} one two e = ap refusal_in e
  where
    refusal_in : Result X NetRefusal → NetRefusal
    refusal_in (Ok y) = one
    refusal_in (Err r) = r

pub read_not : {X : Type 0} (x : X) (refusal : NetRefusal) → ◌≡◌ {A = Result X NetRefusal} (Err refusal) (Ok x) → ⊥
read_not {X = X} x refusal e = elsewhere (ap is_read e)
  where
    is_read : Result X NetRefusal → Bool
    is_read (Ok y) = true
    is_read (Err r) = false

    elsewhere : false ≡ true → ⊥
    elsewhere is = absurd cc

pub same_read : {X : Type 0} (one two : X) → ◌≡◌ {A = Result X NetRefusal} (Ok one) (Ok two) → one ≡ two
same_read {X = X} one two e = ap read_in e
  where
    read_in : Result X NetRefusal → X
    read_in (Ok y) = y
    read_in (Err r) = one

standing_as : (one two : Configuration) (lines : List Line) → ◌≡◌ {A = Result Configuration NetRefusal} (Ok one) (Ok two) → IsStanding one.open_process lines → IsStanding two.open_process lines
standing_as one two lines e is = subst (λ (c : Configuration). IsStanding c.open_process lines) (same_read one two e) is

-- ---- one line more

outside_stands : (net : Net) (lines : List Line) (number : ℕ) (form : LineForm) (after : Configuration) → IsWhole lines → line_outside net number form ≡ Ok after → IsStanding after.open_process (lines ++ line number form ∷ [])
outside_stands net lines number (forms.Input name position via) after whole e = standing_as _ after (lines ++ line number (forms.Input name position via) ∷ []) e (whole_more (DeclaresInput (record { name = name; position = position; via = via; line = number })) lines (line number (forms.Input name position via) ∷ []) whole refl)
outside_stands net lines number (forms.Output name position via) after whole e = standing_as _ after (lines ++ line number (forms.Output name position via) ∷ []) e (whole_more (DeclaresOutput (record { name = name; position = position; via = via; line = number })) lines (line number (forms.Output name position via) ∷ []) whole refl)
outside_stands net lines number (forms.Channel name via) after whole e = standing_as _ after (lines ++ line number (forms.Channel name via) ∷ []) e (whole_more (DeclaresChannel (record { name = name; via = via; line = number })) lines (line number (forms.Channel name via) ∷ []) whole refl)
outside_stands net lines number (forms.Process name at) after whole e = standing_as _ after (lines ++ line number (forms.Process name at) ∷ []) e (16, refl, (lines, [], refl, refl, whole))
outside_stands net lines number form after whole e = absurd (read_not after _ e)

opens_stands : (net : Net) (opened : OpenProcess) (lines : List Line) (number : ℕ) (role : BlockRole) (after : Configuration) → ((d : ℕ) → IsInside d role Empty []) → IsStanding (Some opened) lines → still_open net (with_open_block opened number role) ≡ Ok after → IsStanding after.open_process (lines ++ line number (opening_of role) ∷ [])
opens_stands net opened lines number role after fresh is e = by (nat_lt (length opened.around) 16) refl is.0 is.1 is.2 e
  where
    by : (b : Bool) → nat_lt (length opened.around) 16 ≡ b → (depth : ℕ) → length opened.around + depth ≡ 16 → IsHeld opened.name opened.at opened.line (suc depth) opened.block opened.around lines → still_open net (cond b (Ok (record opened { block = Empty; around = record { line = number; role = role; before = opened.block } ∷ opened.around })) (Err (TooDeep number))) ≡ Ok after → IsStanding after.open_process (lines ++ line number (opening_of role) ∷ [])
    by true test zero fits held ok = let below : length opened.around < 16 = grind (arith, nat_tests) in absurd (omega arith)
    by true test (suc deeper) fits held ok =
        standing_as (record { net = net; open_process = Some (record opened { block = Empty; around = record { line = number; role = role; before = opened.block } ∷ opened.around }) }) after (lines ++ line number (opening_of role) ∷ []) ok
        (deeper, omega (arith, fits), (lines, [], refl, fresh (suc deeper), held))
    by false test depth fits held err = absurd (read_not after _ err)

else_stands : (net : Net) (name : Name) (at : Option ℕ) (process : ℕ) (block before : Block Name) (opening : ℕ) (role : BlockRole) (around : List OpenStatement) (depth : ℕ) (lines : List Line) (number : ℕ) (after : Configuration) → suc (length around) + depth ≡ 16 → IsHeld name at process (suc depth) block (record { line = opening; role = role; before = before } ∷ around) lines → still_open net (after_else (record { name = name; at = at; line = process; block = block; around = record { line = opening; role = role; before = before } ∷ around }) number (record { line = opening; role = role; before = before } ∷ around)) ≡ Ok after → IsStanding after.open_process (lines ++ line number forms.Else ∷ [])
else_stands net name at process block before opening (FirstOf var test) around depth lines number after fits is e =
    standing_as (record { net = net; open_process = Some (record { name = name; at = at; line = process; block = Empty; around = record { line = opening; role = SecondOf var test block; before = before } ∷ around }) }) after (lines ++ line number forms.Else ∷ []) e (
      depth,
      fits,
      (
        is.0,
        is.1 ++ line number forms.Else ∷ [],
        ap (λ (l : List Line). l ++ line number forms.Else ∷ []) is.2 ∙ append_assoc is.0 (line opening (forms.OpensIf var test) ∷ is.1) (line number forms.Else ∷ []),
        (is.1, number, [], refl, is.3, refl),
        is.4,
      ),
    )
else_stands net name at process block before opening (SecondOf var test first) around depth lines number after fits is e = absurd (read_not after _ e)
else_stands net name at process block before opening (WhileOf var test) around depth lines number after fits is e = absurd (read_not after _ e)
else_stands net name at process block before opening (CountOf var) around depth lines number after fits is e = absurd (read_not after _ e)

else_by : (net : Net) (opened : OpenProcess) (around : List OpenStatement) (depth : ℕ) (lines : List Line) (number : ℕ) (after : Configuration) → length around + depth ≡ 16 → IsHeld opened.name opened.at opened.line (suc depth) opened.block around lines → still_open net (after_else (record opened { around = around }) number around) ≡ Ok after → IsStanding after.open_process (lines ++ line number forms.Else ∷ [])
else_by net opened [] depth lines number after fits is e = absurd (read_not after _ e)
else_by net opened (inner ∷ around) depth lines number after fits is e = else_stands net opened.name opened.at opened.line opened.block inner.before inner.line inner.role around depth lines number after fits is e

end_stands : (net : Net) (opened : OpenProcess) (around : List OpenStatement) (depth : ℕ) (lines : List Line) (number : ℕ) (after : Configuration) → length around + depth ≡ 16 → IsHeld opened.name opened.at opened.line (suc depth) opened.block around lines → after_end net opened around ≡ Ok after → IsStanding after.open_process (lines ++ line number forms.End ∷ [])
end_stands net opened [] depth lines number after fits is e = standing_as _ after (lines ++ line number forms.End ∷ []) e (process_ends opened.name opened.at opened.line (suc depth) opened.block lines number (omega (arith, fits)) is)
end_stands net opened (inner ∷ around) depth lines number after fits is e =
    let whole : List Line = line inner.line (opening_of inner.role) ∷ (is.1 ++ line number forms.End ∷ []) in
    let statement : Statement Name = statement_with inner.role opened.block in
    let held = held_last around opened.name opened.at opened.line inner.before (suc (suc depth)) inner.line statement is.0 whole is.4 (statement_ends inner.role opened.block (suc depth) inner.line number is.1 is.3) in
    let split : lines ++ line number forms.End ∷ [] ≡ is.0 ++ whole = ap (λ (l : List Line). l ++ line number forms.End ∷ []) is.2 ∙ append_assoc is.0 (line inner.line (opening_of inner.role) ∷ is.1) (line number forms.End ∷ []) in
    standing_as (record { net = net; open_process = Some (record opened { block = with_last inner.before inner.line statement; around = around }) }) after (lines ++ line number forms.End ∷ []) e
    (suc depth, omega (arith, fits), subst (IsHeld opened.name opened.at opened.line (suc (suc depth)) (with_last inner.before inner.line statement) around) (sym split) held)

inside_stands : (net : Net) (opened : OpenProcess) (lines : List Line) (number : ℕ) (form : LineForm) (after : Configuration) → IsPlainForm form → IsStanding (Some opened) lines → line_inside net opened number form ≡ Ok after → IsStanding after.open_process (lines ++ line number form ∷ [])
inside_stands net opened lines number (forms.Simple statement) after plain is e =
    standing_as (record { net = net; open_process = Some (record opened { block = with_last opened.block number statement }) }) after (lines ++ line number (forms.Simple statement) ∷ []) e
    (is.0, is.1, held_last opened.around opened.name opened.at opened.line opened.block (suc is.0) number statement lines (line number (forms.Simple statement) ∷ []) is.2 (plain_is (suc is.0) number statement plain))
inside_stands net opened lines number (forms.OpensIf var test) after plain is e = opens_stands net opened lines number (FirstOf var test) after (λ d. refl) is e
inside_stands net opened lines number (forms.OpensWhile var test) after plain is e = opens_stands net opened lines number (WhileOf var test) after (λ d. refl) is e
inside_stands net opened lines number (forms.OpensCount var) after plain is e = opens_stands net opened lines number (CountOf var) after (λ d. refl) is e
inside_stands net opened lines number forms.Else after plain is e = else_by net opened opened.around is.0 lines number after is.1 is.2 e
inside_stands net opened lines number forms.End after plain is e = end_stands net opened opened.around is.0 lines number after is.1 is.2 e
inside_stands net opened lines number form after plain is e = absurd (read_not after _ e)

line_stands : (net : Net) (open_process : Option OpenProcess) (lines : List Line) (number : ℕ) (form : LineForm) (after : Configuration) → IsPlainForm form → IsStanding open_process lines → after_line net open_process number form ≡ Ok after → IsStanding after.open_process (lines ++ line number form ∷ [])
line_stands net None lines number form after plain is e = outside_stands net lines number form after is e
line_stands net (Some opened) lines number form after plain is e = inside_stands net opened lines number form after plain is e

-- all lines
pub lines_stand : (rest : List Line) (sofar final : Configuration) (seen : List Line) → ArePlain rest → IsStanding sofar.open_process seen → after_lines sofar rest ≡ Ok final → IsStanding final.open_process (seen ++ rest)
unfolding after_lines and_then
lines_stand [] sofar final seen plain is e = subst (IsStanding final.open_process) (sym (append-nil seen)) (standing_as sofar final seen e is)
lines_stand (l ∷ rest) sofar final seen plain is e = by (λ c. lines_stand rest c final (seen ++ l ∷ []) plain.1) (after_line sofar.net sofar.open_process l.number l.form) refl e
  where
    by : ((c : Configuration) → IsStanding c.open_process (seen ++ l ∷ []) → after_lines c rest ≡ Ok final → IsStanding final.open_process ((seen ++ l ∷ []) ++ rest)) → (read : Result Configuration NetRefusal) → after_line sofar.net sofar.open_process l.number l.form ≡ read → and_then read (λ c. after_lines c rest) ≡ Ok final → IsStanding final.open_process (seen ++ l ∷ rest)
    by again (Ok c) here ok = subst (IsStanding final.open_process) (append_assoc seen (l ∷ []) rest) (again c (line_stands sofar.net sofar.open_process seen l.number l.form c plain.0 is here) ok)
    by again (Err r) here err = absurd (read_not final r err)

-- ---- the last that is open

open_behind : (role : BlockRole) (block : Block Name) (depth : ℕ) (inside : List Line) → IsInside depth role block inside → IsOpenBehind (opening_of role) inside
open_behind (FirstOf var test) block depth inside is = inl (depth, block, is)
open_behind (SecondOf var test first) block depth inside is = inr (is.0, is.2, is.1, is.3, (depth, first, is.4), (depth, block, is.5))
open_behind (WhileOf var test) block depth inside is = (depth, block, is)
open_behind (CountOf var) block depth inside is = (depth, block, is)

pub is_unclosed : (opened : OpenProcess) (around : List OpenStatement) (depth : ℕ) (lines : List Line) → IsHeld opened.name opened.at opened.line depth opened.block around lines → IsUnclosed lines (innermost_line opened around)
is_unclosed opened [] depth lines is = (is.0, is.1, forms.Process opened.name opened.at, is.2, (depth, opened.block, is.3))
is_unclosed opened (inner ∷ around) depth lines is = (is.0, is.1, opening_of inner.role, is.2, open_behind inner.role opened.block depth is.1 is.3)

-- ---- one more block than may be open

-- what is open can be closed
close_held : (around : List OpenStatement) (name : Name) (at : Option ℕ) (process depth : ℕ) (block : Block Name) (lines : List Line) → length around + depth ≡ 17 → IsHeld name at process depth block around lines → (more : List Line) × IsWhole (lines ++ more)
close_held [] name at process depth block lines fits is = (line 0 forms.End ∷ [], process_ends name at process depth block lines 0 (omega (arith, fits)) is)
close_held (inner ∷ around) name at process depth block lines fits is =
    let whole : List Line = line inner.line (opening_of inner.role) ∷ (is.1 ++ line 0 forms.End ∷ []) in
    let statement : Statement Name = statement_with inner.role block in
    let held = held_last around name at process inner.before (suc depth) inner.line statement is.0 whole is.4 (statement_ends inner.role block depth inner.line 0 is.1 is.3) in
    let split : lines ++ line 0 forms.End ∷ [] ≡ is.0 ++ whole = ap (λ (l : List Line). l ++ line 0 forms.End ∷ []) is.2 ∙ append_assoc is.0 (line inner.line (opening_of inner.role) ∷ is.1) (line 0 forms.End ∷ []) in
    let rest = close_held around name at process (suc depth) (with_last inner.before inner.line statement) (is.0 ++ whole) (omega (arith, fits)) held in
    (line 0 forms.End ∷ rest.0, subst IsWhole (ap (λ (l : List Line). l ++ rest.0) (sym split) ∙ append_assoc lines (line 0 forms.End ∷ []) rest.0) rest.1)

-- with one more block
deep_opens : (opened : OpenProcess) (lines : List Line) (number : ℕ) (role : BlockRole) → ((d : ℕ) → IsInside d role Empty []) → IsStanding (Some opened) lines → (more : List Line) × IsWhole ((lines ++ line number (opening_of role) ∷ []) ++ more)
deep_opens opened lines number role fresh is =
    let fits = is.1 in
    close_held (record { line = number; role = role; before = opened.block } ∷ opened.around) opened.name opened.at opened.line is.0 Empty (lines ++ line number (opening_of role) ∷ []) (omega (arith, fits)) (lines, [], refl, fresh is.0, is.2)

bad_not_deep : {X : Type 0} (number n : ℕ) → ◌≡◌ {A = Result X NetRefusal} (Err (BadLine number)) (Err (TooDeep n)) → ⊥
bad_not_deep number n e = apart (same_refusal (BadLine number) (TooDeep n) e)
  where
    apart : ◌≡◌ {A = NetRefusal} (BadLine number) (TooDeep n) → ⊥
    apart is = absurd cc

outside_not_deep : (net : Net) (number : ℕ) (form : LineForm) (n : ℕ) → IsBlockLine form → line_outside net number form ≡ Err (TooDeep n) → ⊥
outside_not_deep net number (forms.OpensIf var test) n opens e = bad_not_deep number n e
outside_not_deep net number (forms.OpensWhile var test) n opens e = bad_not_deep number n e
outside_not_deep net number (forms.OpensCount var) n opens e = bad_not_deep number n e
outside_not_deep net number form n opens e = absurd opens

inside_deep : (opened : OpenProcess) (lines : List Line) (number : ℕ) (form : LineForm) → IsBlockLine form → IsStanding (Some opened) lines → (more : List Line) × IsWhole ((lines ++ line number form ∷ []) ++ more)
inside_deep opened lines number (forms.OpensIf var test) opens is = deep_opens opened lines number (FirstOf var test) (λ d. refl) is
inside_deep opened lines number (forms.OpensWhile var test) opens is = deep_opens opened lines number (WhileOf var test) (λ d. refl) is
inside_deep opened lines number (forms.OpensCount var) opens is = deep_opens opened lines number (CountOf var) (λ d. refl) is
inside_deep opened lines number form opens is = absurd opens

-- a line that opens too deep a block goes on where blocks may be nested deeper
pub too_deep_goes_on : (net : Net) (open_process : Option OpenProcess) (lines : List Line) (number : ℕ) (form : LineForm) (n : ℕ) → IsBlockLine form → IsStanding open_process lines → after_line net open_process number form ≡ Err (TooDeep n) → (more : List Line) × IsWhole ((lines ++ line number form ∷ []) ++ more)
too_deep_goes_on net None lines number form n opens is e = absurd (outside_not_deep net number form n opens e)
too_deep_goes_on net (Some opened) lines number form n opens is e = inside_deep opened lines number form opens is
