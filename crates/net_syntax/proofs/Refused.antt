-- What is refused: the line that a refusal names is the first with which no network goes on.
use Rattle.std.proofs.Common.{◌≡◌, ℕ, suc, inl, inr, Bool, true, false, cond, List, [], ◌∷◌, ◌++◌, length, refl, sym, ap, subst, ◌∙◌, arith, append_assoc}
use Rattle.std.specs.Prelude.{Option, Some, None, Result, Ok, Err, nat_lt}
use Rattle.tis_base.specs.Tiles.{Tiles}
use Rattle.net_tree.specs.Tree.{Name, Block, Empty, with_last, Net}
use Rattle.net_syntax.specs.Refusals.{NetRefusal, BadLine, TooDeep, StrayEnd, Unclosed}
use Rattle.net_syntax.specs.Forms as forms
use Rattle.net_syntax.specs.Forms.{LineForm, Line, lines_of}
use Rattle.net_syntax.specs.Grammar.{line, IsNet, bare_net, with_declarations, GoesOn, GoesOnDeeper, IsCloser, IsRefusal, IsAnswer, next_number}
use Rattle.net_syntax.specs.Reading.{BlockRole, FirstOf, WhileOf, CountOf, OpenStatement, OpenProcess, Configuration, after_line, after_lines, and_then, still_open, with_open_block, second_role, else_in, after_else, after_end, line_inside, line_outside, refusal_of, innermost_line, answer_of, statement_with, net_at_end, after_all, net_of}
use Rattle.net_syntax.proofs.Blamed.{IsBlockLine, IsBlamedOn, IsBlamed}
use Rattle.net_syntax.proofs.Plain.{AreRows, IsPlainForm, ArePlain, lines_are_plain}
use Rattle.net_syntax.proofs.Limits.{stops_here}
use Rattle.net_syntax.proofs.Derived.{during, between, net_is}
use Rattle.net_syntax.proofs.Sound.{lines_are, read_is_derived}
use Rattle.net_syntax.proofs.Open.{refused_not, same_refusal, IsStanding, lines_stand, is_unclosed, too_deep_goes_on}
use Rattle.net_syntax.proofs.Scan.{version_first, tiles_second, others_pass, never_passes}

-- ---- lines behind lines

-- what goes on behind lines that were read
behind_read : (sofar more : Configuration) (before behind : List Line) → after_lines sofar before ≡ Ok more → after_lines sofar (before ++ behind) ≡ after_lines more behind
unfolding after_lines and_then
behind_read sofar more [] behind is = ap (λ (r : Result Configuration NetRefusal). and_then r (λ c. after_lines c behind)) is
behind_read sofar more (l ∷ before) behind is = by (λ c. behind_read c more before behind) (after_line sofar.net sofar.open_process l.number l.form) is
  where
    by : ((c : Configuration) → after_lines c before ≡ Ok more → after_lines c (before ++ behind) ≡ after_lines more behind) → (read : Result Configuration NetRefusal) → and_then read (λ c. after_lines c before) ≡ Ok more → and_then read (λ c. after_lines c (before ++ behind)) ≡ after_lines more behind
    by again (Ok c) ok = again c ok
    by again (Err r) ok = absurd (refused_not more r (sym ok))

-- where the lines stop being read
record Stops (sofar : Configuration) (lines : List Line) (refusal : NetRefusal) : Type 0 where
  before : List Line
  wrong : Line
  behind : List Line
  reached : Configuration
  split : lines ≡ before ++ wrong ∷ behind
  goes : after_lines sofar before ≡ Ok reached
  stops : after_line reached.net reached.open_process wrong.number wrong.form ≡ Err refusal

stops_in : (lines : List Line) (sofar : Configuration) (refusal : NetRefusal) → after_lines sofar lines ≡ Err refusal → Stops sofar lines refusal
unfolding after_lines and_then
stops_in [] sofar refusal is = absurd (refused_not sofar refusal is)
stops_in (l ∷ lines) sofar refusal is = by (λ c. stops_in lines c refusal) (after_line sofar.net sofar.open_process l.number l.form) refl is
  where
    by : ((c : Configuration) → after_lines c lines ≡ Err refusal → Stops c lines refusal) → (read : Result Configuration NetRefusal) → after_line sofar.net sofar.open_process l.number l.form ≡ read → and_then read (λ c. after_lines c lines) ≡ Err refusal → Stops sofar (l ∷ lines) refusal
    by again (Ok c) here err =
        let s = again c err in
        record {
          before = l ∷ s.before;
          wrong = s.wrong;
          behind = s.behind;
          reached = s.reached;
          split = ap (λ (ls : List Line). l ∷ ls) s.split;
          goes = ap (λ (r : Result Configuration NetRefusal). and_then r (λ c. after_lines c s.before)) here ∙ s.goes;
          stops = s.stops;
        }
    by again (Err r) here err = record { before = []; wrong = l; behind = lines; reached = sofar; split = refl; goes = refl; stops = here ∙ err }

-- ---- what is open can be closed

record Closed (sofar : Configuration) : Type 0 where
  more : List Line
  net : Net
  plain : ArePlain more
  closes : after_lines sofar more ≡ Ok (between net)

closed_process : (around : List OpenStatement) (net : Net) (name : Name) (at : Option ℕ) (number : ℕ) (block : Block Name) → Closed (during net (record { name = name; at = at; line = number; block = block; around = around }))
unfolding after_lines and_then
closed_process [] net name at number block = record { more = line 0 forms.End ∷ []; net = _; plain = (tt, tt); closes = refl }
closed_process (inner ∷ around) net name at number block =
    let c = closed_process around net name at number (with_last inner.before inner.line (statement_with inner.role block)) in
    record { more = line 0 forms.End ∷ c.more; net = c.net; plain = (tt, c.plain); closes = c.closes }

closed : (net : Net) (open_process : Option OpenProcess) → Closed (record { net = net; open_process = open_process })
unfolding after_lines
closed net None = record { more = []; net = net; plain = tt; closes = refl }
closed net (Some opened) = closed_process opened.around net opened.name opened.at opened.line opened.block

-- ---- plain lines

plain_first : (first others : List Line) → ArePlain (first ++ others) → ArePlain first
plain_first [] others plain = tt
plain_first (l ∷ first) others plain = (plain.0, plain_first first others plain.1)

plain_both : (first others : List Line) → ArePlain first → ArePlain others → ArePlain (first ++ others)
plain_both [] others one two = two
plain_both (l ∷ first) others one two = (one.0, plain_both first others one.1 two)

-- ---- networks

-- lines that were read so far go on
goes_from : (next : ℕ) (before : List Line) (reached : Configuration) → ArePlain before → ((more : List Line) → after_all next (before ++ more) ≡ after_lines reached more) → GoesOn before
goes_from next before reached plain goes =
    let c = closed reached.net reached.open_process in
    (c.more, c.net, lines_are next (before ++ c.more) c.net (plain_both before c.more plain c.plain) (goes c.more ∙ c.closes))

no_net : {X : Type 0} (next : ℕ) (lines : List Line) (net : Net) (refusal : NetRefusal) → IsNet lines net → after_all next lines ≡ Err refusal → X
unfolding and_then
no_net next lines net refusal is err = absurd (refused_not net refusal (sym (net_is next lines net is) ∙ ap (λ (r : Result Configuration NetRefusal). and_then r (λ sofar. net_at_end sofar.net sofar.open_process)) err))

-- no network goes on with lines that are refused, whatever follows
never : (next : ℕ) (lines : List Line) (refusal : NetRefusal) → ((more : List Line) → after_all next (lines ++ more) ≡ Err refusal) → ¬ GoesOn lines
never next lines refusal err = λ goes. no_net next (lines ++ goes.0) goes.1 refusal goes.2 (err goes.0)

-- tiles, to go on with
some_tiles : Tiles
some_tiles = record { shape = record { columns = 4; rows = 3 }; kinds = [] }

nothing_goes_on : GoesOn []
nothing_goes_on = (line 0 forms.Version ∷ (line 0 (forms.TilesLine some_tiles) ∷ []), bare_net some_tiles, (0, 0, some_tiles, [], [], refl, refl, refl))

version_goes_on : (number : ℕ) → GoesOn (line number forms.Version ∷ [])
version_goes_on number = (line 0 (forms.TilesLine some_tiles) ∷ [], bare_net some_tiles, (number, 0, some_tiles, [], [], refl, refl, refl))

-- ---- which refusal it is

closes : LineForm → Bool
closes forms.End = true
closes forms.Else = true
closes form = false

not_closer : (form : LineForm) → closes form ≡ false → ¬ IsCloser form
unfolding closes
not_closer form is = λ closer. elim closer [ inl e ↦ elsewhere (sym (ap closes e) ∙ is) | inr e ↦ elsewhere (sym (ap closes e) ∙ is) ]
  where
    elsewhere : true ≡ false → ⊥
    elsewhere e = absurd cc

-- the refusal has the number of this line, and fits what it says
abbrev IsNamed : NetRefusal → Line → Type 0
IsNamed (StrayEnd number) wrong = (number ≡ wrong.number) × IsCloser wrong.form
IsNamed (TooDeep number) wrong = (number ≡ wrong.number) × IsBlockLine wrong.form
IsNamed (BadLine number) wrong = (number ≡ wrong.number) × (¬ IsCloser wrong.form)
IsNamed (Unclosed number) wrong = ⊥

named_as : {X : Type 0} (one two : NetRefusal) (wrong : Line) → ◌≡◌ {A = Result X NetRefusal} (Err one) (Err two) → IsNamed one wrong → IsNamed two wrong
named_as one two wrong e is = subst (λ (r : NetRefusal). IsNamed r wrong) (same_refusal one two e) is

with_depth : (refusal : NetRefusal) (before : List Line) (wrong : Line) → IsNamed refusal wrong → ((n : ℕ) → IsBlockLine wrong.form → refusal ≡ TooDeep n → GoesOnDeeper before wrong) → ((n : ℕ) → refusal ≡ BadLine n → ¬ GoesOnDeeper before wrong) → IsBlamedOn refusal before wrong
with_depth (StrayEnd number) before wrong is deep deeper = is
with_depth (TooDeep number) before wrong is deep deeper = (is.0, is.1, deep number is.1 refl)
with_depth (BadLine number) before wrong is deep deeper = (is.0, is.1, deeper number refl)
with_depth (Unclosed number) before wrong is deep deeper = is

-- the same of the refusal that is answered
blamed_at : {X : Type 0} (one two : NetRefusal) (before : List Line) (wrong : Line) → ◌≡◌ {A = Result X NetRefusal} (Err one) (Err two) → IsNamed one wrong → ((n : ℕ) → IsBlockLine wrong.form → one ≡ TooDeep n → GoesOnDeeper before wrong) → ((n : ℕ) → one ≡ BadLine n → ¬ GoesOnDeeper before wrong) → IsBlamedOn two before wrong
blamed_at one two before wrong e is deep deeper = subst (λ (r : NetRefusal). IsBlamedOn r before wrong) (same_refusal one two e) (with_depth one before wrong is deep deeper)

-- the first two lines are never too deep
not_too_deep : {X : Type 0} (number : ℕ) (form : LineForm) (n : ℕ) → refusal_of number form ≡ TooDeep n → X
not_too_deep number forms.End n e = absurd cc
not_too_deep number forms.Else n e = absurd cc
not_too_deep number form n e = absurd cc

is_version : LineForm → Bool
is_version forms.Version = true
is_version form = false

is_tiles : LineForm → Bool
is_tiles (forms.TilesLine tiles) = true
is_tiles form = false

untrue : true ≡ false → ⊥
untrue e = absurd cc

-- a first line that isn't that of a network is wrong however deep
first_never : (number : ℕ) (form : LineForm) → is_version form ≡ false → ¬ GoesOnDeeper [] (line number form)
unfolding is_version
first_never number form other = λ goes. untrue (sym (ap is_version (version_first goes.0 (line number form) goes.1.0 goes.1.1 goes.1.2)) ∙ other)

second_never : (first : Line) (number : ℕ) (form : LineForm) → is_tiles form ≡ false → ¬ GoesOnDeeper (first ∷ []) (line number form)
unfolding is_tiles
second_never first number form other = λ goes. untrue (sym (ap is_tiles (tiles_second goes.0 first (line number form) goes.1.0 goes.1.1 goes.1.2)) ∙ other)

stray_or_bad : (number : ℕ) (form : LineForm) → IsNamed (refusal_of number form) (line number form)
unfolding closes
stray_or_bad number forms.End = (refl, inl refl)
stray_or_bad number forms.Else = (refl, inr refl)
stray_or_bad number form = (refl, not_closer form refl)

outside_blamed : (net : Net) (number : ℕ) (form : LineForm) (refusal : NetRefusal) → line_outside net number form ≡ Err refusal → IsNamed refusal (line number form)
outside_blamed net number (forms.Input name position via) refusal e = absurd (refused_not _ refusal e)
outside_blamed net number (forms.Output name position via) refusal e = absurd (refused_not _ refusal e)
outside_blamed net number (forms.Channel name via) refusal e = absurd (refused_not _ refusal e)
outside_blamed net number (forms.Process name at) refusal e = absurd (refused_not _ refusal e)
outside_blamed net number form refusal e = named_as (refusal_of number form) refusal (line number form) e (stray_or_bad number form)

opens_blamed : (net : Net) (opened : OpenProcess) (number : ℕ) (role : BlockRole) (form : LineForm) (refusal : NetRefusal) → IsBlockLine form → still_open net (with_open_block opened number role) ≡ Err refusal → IsNamed refusal (line number form)
opens_blamed net opened number role form refusal opens e = by (nat_lt (length opened.around) 16) e
  where
    by : (b : Bool) → still_open net (cond b (Ok (record opened { block = Empty; around = record { line = number; role = role; before = opened.block } ∷ opened.around })) (Err (TooDeep number))) ≡ Err refusal → IsNamed refusal (line number form)
    by true ok = absurd (refused_not _ refusal ok)
    by false err = named_as (TooDeep number) refusal (line number form) err (refl, opens)

else_blamed : (net : Net) (opened : OpenProcess) (number : ℕ) (around : List OpenStatement) (refusal : NetRefusal) → still_open net (after_else opened number around) ≡ Err refusal → IsNamed refusal (line number forms.Else)
else_blamed net opened number [] refusal e = named_as (StrayEnd number) refusal (line number forms.Else) e (refl, inr refl)
else_blamed net opened number (inner ∷ around) refusal e = by (second_role inner.role opened.block) e
  where
    by : (role : Option BlockRole) → still_open net (else_in opened number inner around role) ≡ Err refusal → IsNamed refusal (line number forms.Else)
    by None err = named_as (StrayEnd number) refusal (line number forms.Else) err (refl, inr refl)
    by (Some role) ok = absurd (refused_not _ refusal ok)

end_blamed : (net : Net) (opened : OpenProcess) (number : ℕ) (around : List OpenStatement) (refusal : NetRefusal) → after_end net opened around ≡ Err refusal → IsNamed refusal (line number forms.End)
end_blamed net opened number [] refusal e = absurd (refused_not _ refusal e)
end_blamed net opened number (inner ∷ around) refusal e = absurd (refused_not _ refusal e)

inside_blamed : (net : Net) (opened : OpenProcess) (number : ℕ) (form : LineForm) (refusal : NetRefusal) → line_inside net opened number form ≡ Err refusal → IsNamed refusal (line number form)
unfolding closes
inside_blamed net opened number (forms.Simple statement) refusal e = absurd (refused_not _ refusal e)
inside_blamed net opened number (forms.OpensIf var test) refusal e = opens_blamed net opened number (FirstOf var test) (forms.OpensIf var test) refusal tt e
inside_blamed net opened number (forms.OpensWhile var test) refusal e = opens_blamed net opened number (WhileOf var test) (forms.OpensWhile var test) refusal tt e
inside_blamed net opened number (forms.OpensCount var) refusal e = opens_blamed net opened number (CountOf var) (forms.OpensCount var) refusal tt e
inside_blamed net opened number forms.Else refusal e = else_blamed net opened number opened.around refusal e
inside_blamed net opened number forms.End refusal e = end_blamed net opened number opened.around refusal e
inside_blamed net opened number form refusal e = named_as (BadLine number) refusal (line number form) e (refl, not_closer form refl)

line_blamed : (net : Net) (open_process : Option OpenProcess) (number : ℕ) (form : LineForm) (refusal : NetRefusal) → after_line net open_process number form ≡ Err refusal → IsNamed refusal (line number form)
line_blamed net None number form refusal e = outside_blamed net number form refusal e
line_blamed net (Some opened) number form refusal e = inside_blamed net opened number form refusal e

-- ---- the whole text

-- the same of the refusal that is answered
blamed_whole : {X : Type 0} (next : ℕ) (lines : List Line) (one two : NetRefusal) → ◌≡◌ {A = Result X NetRefusal} (Err one) (Err two) → IsBlamed next lines one → IsBlamed next lines two
blamed_whole next lines one two e is = subst (IsBlamed next lines) (same_refusal one two e) is

-- the lines behind the first two
tail_blamed : (next number second : ℕ) (tiles : Tiles) (others : List Line) (refusal : NetRefusal) → AreRows tiles → ArePlain others → (read : Result Configuration NetRefusal) → after_lines (between (bare_net tiles)) others ≡ read → and_then read (λ sofar. net_at_end sofar.net sofar.open_process) ≡ Err refusal → IsBlamed next (line number forms.Version ∷ (line second (forms.TilesLine tiles) ∷ others)) refusal
unfolding and_then
tail_blamed next number second tiles others refusal rows plain (Ok sofar) is e = by sofar.open_process (lines_stand others (between (bare_net tiles)) sofar [] plain ([], refl) is) e
  where
    goes : GoesOn (line number forms.Version ∷ (line second (forms.TilesLine tiles) ∷ others))
    goes = goes_from next (line number forms.Version ∷ (line second (forms.TilesLine tiles) ∷ others)) sofar (tt, (rows, plain)) (λ more. behind_read (between (bare_net tiles)) sofar others more is)

    by : (open_process : Option OpenProcess) → IsStanding open_process others → net_at_end sofar.net open_process ≡ Err refusal → IsBlamed next (line number forms.Version ∷ (line second (forms.TilesLine tiles) ∷ others)) refusal
    by None stands ok = absurd (refused_not _ refusal ok)
    by (Some opened) stands err =
        blamed_whole next (line number forms.Version ∷ (line second (forms.TilesLine tiles) ∷ others)) (Unclosed (innermost_line opened opened.around)) refusal err
        (let u = is_unclosed opened opened.around (suc stands.0) others stands.2 in
        inr (goes, (line number forms.Version ∷ (line second (forms.TilesLine tiles) ∷ u.0), u.1, u.2, ap (λ (ls : List Line). line number forms.Version ∷ (line second (forms.TilesLine tiles) ∷ ls)) u.3, u.4)))
tail_blamed next number second tiles others refusal rows plain (Err r) is e =
    let start = between (bare_net tiles) in
    let s = stops_in others start r is in
    let front : List Line = line number forms.Version ∷ (line second (forms.TilesLine tiles) ∷ s.before) in
    let plain_before : ArePlain s.before = plain_first s.before (s.wrong ∷ s.behind) (subst ArePlain s.split plain) in
    let goes : GoesOn front = goes_from next front s.reached (tt, (rows, plain_before)) (λ more. behind_read start s.reached s.before more s.goes) in
    let deeper : (n : ℕ) → IsBlockLine s.wrong.form → r ≡ TooDeep n → GoesOnDeeper front s.wrong =
    λ n opens deep.
    (let d = too_deep_goes_on s.reached.net s.reached.open_process s.before s.wrong.number s.wrong.form n opens (lines_stand s.before start s.reached [] plain_before ([], refl) s.goes) (s.stops ∙ ap (λ (x : NetRefusal). Err x) deep) in
    (17, (d.0, with_declarations (bare_net tiles) d.1.0, (number, second, tiles, d.1.0, (s.before ++ s.wrong ∷ []) ++ d.0, refl, d.1.1, refl)))) in
    let stops : ¬ GoesOn (front ++ s.wrong ∷ []) =
    never next (front ++ s.wrong ∷ []) r
    (λ more.
    ap (after_lines start) (append_assoc s.before (s.wrong ∷ []) more)
    ∙ behind_read start s.reached s.before (s.wrong ∷ more) s.goes
    ∙ stops_here s.reached r s.wrong.number s.wrong.form more s.stops) in
    inl (
      s.wrong,
      record { before = front; behind = s.behind; split = ap (λ (ls : List Line). line number forms.Version ∷ (line second (forms.TilesLine tiles) ∷ ls)) s.split; goes_on = goes; stops = stops },
      blamed_at r refusal front s.wrong e (line_blamed s.reached.net s.reached.open_process s.wrong.number s.wrong.form r s.stops)
          (λ n opens deep. deeper n opens deep)
          (λ n bad goes. never_passes s.before goes.1.0 s.wrong start s.reached n refl s.goes (s.stops ∙ ap (λ (x : NetRefusal). Err x) bad)
          (others_pass goes.0 (line number forms.Version) (line second (forms.TilesLine tiles)) ((s.before ++ s.wrong ∷ []) ++ goes.1.0) goes.1.1 goes.1.2)),
    )

-- the second line
second_blamed : (next number second : ℕ) (form : LineForm) (others : List Line) (refusal : NetRefusal) → IsPlainForm form → ArePlain others → answer_of next (line number forms.Version ∷ (line second form ∷ others)) ≡ Err refusal → IsBlamed next (line number forms.Version ∷ (line second form ∷ others)) refusal
unfolding and_then is_tiles
second_blamed next number second (forms.TilesLine tiles) others refusal rows plain e = tail_blamed next number second tiles others refusal rows plain (after_lines (between (bare_net tiles)) others) refl e
second_blamed next number second form others refusal said plain e =
    inl (
      line second form,
      record { before = line number forms.Version ∷ []; behind = others; split = refl; goes_on = version_goes_on number; stops = never next (line number forms.Version ∷ (line second form ∷ [])) (refusal_of second form) (λ more. refl) },
      blamed_at (refusal_of second form) refusal (line number forms.Version ∷ []) (line second form) e (stray_or_bad second form) (λ n opens deep. not_too_deep second form n deep) (λ n bad. second_never (line number forms.Version) second form refl),
    )

-- the first line
first_blamed : (next number : ℕ) (form : LineForm) (others : List Line) (refusal : NetRefusal) → ArePlain others → answer_of next (line number form ∷ others) ≡ Err refusal → IsBlamed next (line number form ∷ others) refusal
unfolding and_then is_version
first_blamed next number forms.Version [] refusal plain e = blamed_whole next (line number forms.Version ∷ []) (BadLine next) refusal e (inr (version_goes_on number, (omega arith, refl)))
first_blamed next number forms.Version (second ∷ others) refusal plain e = second_blamed next number second.number second.form others refusal plain.0 plain.1 e
first_blamed next number form others refusal plain e =
    inl (
      line number form,
      record { before = []; behind = others; split = refl; goes_on = nothing_goes_on; stops = never next (line number form ∷ []) (refusal_of number form) (λ more. refl) },
      blamed_at (refusal_of number form) refusal [] (line number form) e (stray_or_bad number form) (λ n opens deep. not_too_deep number form n deep) (λ n bad. first_never number form refl),
    )

lines_blamed : (next : ℕ) (lines : List Line) (refusal : NetRefusal) → ArePlain lines → answer_of next lines ≡ Err refusal → IsBlamed next lines refusal
unfolding and_then
lines_blamed next [] refusal plain e = blamed_whole next [] (BadLine next) refusal e (inr (nothing_goes_on, (omega arith, refl)))
lines_blamed next (first ∷ others) refusal plain e = first_blamed next first.number first.form others refusal plain.1 e

refused_is_blamed : (text : List ℕ) (refusal : NetRefusal) → net_of text ≡ Err refusal → IsBlamed (next_number text) (lines_of text) refusal
unfolding net_of
refused_is_blamed text refusal e = lines_blamed (next_number text) (lines_of text) refusal (lines_are_plain text) e

-- what is blamed is the refusal of the grammar
blamed_is_refused : (next : ℕ) (lines : List Line) (refusal : NetRefusal) → IsBlamed next lines refusal → IsRefusal next lines refusal
blamed_is_refused next lines (StrayEnd number) is = elim is [ inl b ↦ (b.0, b.1, b.2.0, b.2.1) | inr m ↦ absurd m.1 ]
blamed_is_refused next lines (TooDeep number) is = elim is [ inl b ↦ (b.0, b.1, b.2.0, b.2.2) | inr m ↦ absurd m.1 ]
blamed_is_refused next lines (BadLine number) is = elim is [ inl b ↦ inl (b.0, b.1, b.2.0, b.2.1, b.2.2) | inr m ↦ inr (m.0, m.1.0, m.1.1) ]
blamed_is_refused next lines (Unclosed number) is = elim is [ inl b ↦ absurd b.2 | inr m ↦ (m.0, m.1) ]

answer_is : (text : List ℕ) (answer : Result Net NetRefusal) → net_of text ≡ answer → IsAnswer text answer
answer_is text (Ok net) e = read_is_derived text net e
answer_is text (Err refusal) e = blamed_is_refused (next_number text) (lines_of text) refusal (refused_is_blamed text refusal e)

-- what a text gives is what the grammar says
pub text_is_answered : (text : List ℕ) → IsAnswer text (net_of text)
text_is_answered text = answer_is text (net_of text) refl
