-- What is read is derived: the lines of a network that was read are that network by the grammar.
use Rattle.std.proofs.Common.{◌≡◌, ℕ, zero, suc, ◌+◌, ◌≤◌, ◌<◌, ◌⊎◌, inl, inr, Bool, true, false, cond, List, [], ◌∷◌, ◌++◌, length, refl, sym, ap, subst, ◌∙◌, arith, append_assoc, length-append}
use Rattle.std.specs.Prelude.{Option, Some, None, Result, Ok, Err, nat_lt}
use Rattle.std.proofs.lemmas.Bool.Decides.{nat_tests}
use Rattle.tis_base.specs.Tiles.{Tiles}
use Rattle.net_tree.specs.Tree.{Name, Statement, Get, GetAdd, GetSub, Put, PutNumber, Move, Set, Add, Sub, Neg, Double, Copy, Swap, If, While, Count, Block, Empty, Then, joined, with_last, PortLine, ChannelLine, ProcessText, Net}
use Rattle.net_syntax.specs.Refusals.{NetRefusal, TooDeep}
use Rattle.net_tree.specs.declared.tree.Var.{Var}
use Rattle.net_tree.specs.declared.tree.Test.{Test}
use Rattle.net_syntax.specs.Forms as forms
use Rattle.net_syntax.specs.Forms.{LineForm, Line, lines_of}
use Rattle.net_syntax.specs.Grammar.{line, IsBlock, IsStatement, Declaration, DeclaresInput, DeclaresOutput, DeclaresChannel, DeclaresProcess, IsDeclaration, AreDeclarations, IsNet, next_number, bare_net, with_declaration, with_declarations}
use Rattle.net_syntax.specs.Reading.{BlockRole, FirstOf, SecondOf, WhileOf, CountOf, OpenProcess, Configuration, after_line, after_lines, and_then, still_open, with_open_block, net_at_end, after_all, after_version, tiles_of_line, head_of_line, net_with, net_of}
use Rattle.net_syntax.proofs.Plain.{IsPlain, IsPlainForm, ArePlain, lines_are_plain}
use Rattle.net_syntax.proofs.Derived.{during, between, holding, inside, joined-empty, joined-last}

pub plain_is : (depth number : ℕ) (statement : Statement Name) → IsPlain statement → IsStatement depth number statement (line number (forms.Simple statement) ∷ [])
plain_is depth number (Get read var) plain = refl
plain_is depth number (GetAdd read var) plain = refl
plain_is depth number (GetSub read var) plain = refl
plain_is depth number (Put written var) plain = refl
plain_is depth number (PutNumber written n) plain = refl
plain_is depth number (Move read written) plain = refl
plain_is depth number (Set var n) plain = refl
plain_is depth number (Add var n) plain = refl
plain_is depth number (Sub var n) plain = refl
plain_is depth number (Neg var) plain = refl
plain_is depth number (Double var) plain = refl
plain_is depth number (Copy to from) plain = refl
plain_is depth number Swap plain = refl
plain_is depth number (If var test first second) plain = absurd plain
plain_is depth number (While var test body) plain = absurd plain
plain_is depth number (Count var body) plain = absurd plain

-- what is read of an open process: statements, and then a line that closes or parts
pub record Split (net final : Net) (opened : OpenProcess) (depth : ℕ) (lines : List Line) : Type 0 where
  pub body : Block Name
  pub inner : List Line
  pub number : ℕ
  pub form : LineForm
  pub behind : List Line
  pub split : lines ≡ inner ++ line number form ∷ behind
  pub block : IsBlock depth body inner
  pub closes : (form ≡ forms.End) ⊎ (form ≡ forms.Else)
  pub goes : after_lines (during net (holding opened (joined opened.block body))) (line number form ∷ behind) ≡ Ok (between final)
  pub plain : ArePlain behind

-- ---- what can't be

apart : (net final : Net) (opened : OpenProcess) → ◌≡◌ {A = Result Configuration NetRefusal} (Ok (during net opened)) (Ok (between final)) → ⊥
apart net final opened e = elsewhere (ap open_of e)
  where
    open_of : Result Configuration NetRefusal → Bool
    open_of (Ok sofar) = elim sofar.open_process [ None ↦ false | Some p ↦ true ]
    open_of (Err refusal) = false

    elsewhere : true ≡ false → ⊥
    elsewhere is = absurd cc

failed : (final : Net) (refusal : NetRefusal) → ◌≡◌ {A = Result Configuration NetRefusal} (Err refusal) (Ok (between final)) → ⊥
failed final refusal e = elsewhere (ap is_read e)
  where
    is_read : Result Configuration NetRefusal → Bool
    is_read (Ok sofar) = true
    is_read (Err refusal) = false

    elsewhere : false ≡ true → ⊥
    elsewhere is = absurd cc

-- one statement in front of what was split
with_front : (net final : Net) (opened : OpenProcess) (depth number : ℕ) (statement : Statement Name) (first rest : List Line) → IsStatement depth number statement first → Split net final (holding opened (with_last opened.block number statement)) depth rest → Split net final opened depth (first ++ rest)
with_front net final opened depth number statement first rest is s =
    record {
      body = Then number statement s.body;
      inner = first ++ s.inner;
      number = s.number;
      form = s.form;
      behind = s.behind;
      split = ap (λ (l : List Line). first ++ l) s.split ∙ sym (append_assoc first s.inner (line s.number s.form ∷ s.behind));
      block = (first, s.inner, refl, is, s.block);
      closes = s.closes;
      goes = subst (λ (b : Block Name). after_lines (during net (holding opened b)) (line s.number s.form ∷ s.behind) ≡ Ok (between final)) (joined-last opened.block s.body number statement) s.goes;
      plain = s.plain;
    }

-- no statement in front of the line that closes
here : (net final : Net) (opened : OpenProcess) (depth number : ℕ) (form : LineForm) (behind : List Line) → ((form ≡ forms.End) ⊎ (form ≡ forms.Else)) → ArePlain behind → after_lines (during net opened) (line number form ∷ behind) ≡ Ok (between final) → Split net final opened depth (line number form ∷ behind)
here net final opened depth number form behind closes plain goes =
    record {
      body = Empty;
      inner = [];
      number = number;
      form = form;
      behind = behind;
      split = refl;
      block = refl;
      closes = closes;
      goes = subst (λ (b : Block Name). after_lines (during net (holding opened b)) (line number form ∷ behind) ≡ Ok (between final)) (sym (joined-empty opened.block)) goes;
      plain = plain;
    }

-- what is split off fewer lines
abbrev Again : ℕ → Net → Net → Type 0
Again fuel net final = (opened : OpenProcess) (depth : ℕ) (lines : List Line) → length lines ≤ fuel → length opened.around + depth ≡ 16 → ArePlain lines → after_lines (during net opened) lines ≡ Ok (between final) → Split net final opened depth lines

-- a block that was opened leaves room, and the lines behind are read inside of it
record Entered (net final : Net) (opened : OpenProcess) (depth number : ℕ) (role : BlockRole) (rest : List Line) : Type 0 where
  deeper : ℕ
  is : depth ≡ suc deeper
  goes : after_lines (during net (inside opened number role)) rest ≡ Ok (between final)

entered : (net final : Net) (opened : OpenProcess) (depth number : ℕ) (role : BlockRole) (form : LineForm) (rest : List Line) → length opened.around + depth ≡ 16 → after_line net (Some opened) number form ≡ still_open net (with_open_block opened number role) → after_lines (during net opened) (line number form ∷ rest) ≡ Ok (between final) → Entered net final opened depth number role rest
unfolding after_lines and_then
entered net final opened depth number role form rest fits is ok =
    by (nat_lt (length opened.around) 16) refl depth fits
    (sym (ap (λ (r : Result Configuration NetRefusal). and_then r (λ more. after_lines more rest)) is) ∙ ok)
  where
    by : (b : Bool) → nat_lt (length opened.around) 16 ≡ b → (d : ℕ) → length opened.around + d ≡ 16 → and_then (still_open net (cond (nat_lt (length opened.around) 16) (Ok (inside opened number role)) (Err (TooDeep number)))) (λ more. after_lines more rest) ≡ Ok (between final) → Entered net final opened d number role rest
    by true test zero room goes = let below : length opened.around < 16 = grind (arith, nat_tests) in absurd (omega arith)
    by true test (suc deeper) room goes =
        record {
          deeper = deeper;
          is = refl;
          goes = subst (λ (b : Bool). and_then (still_open net (cond b (Ok (inside opened number role)) (Err (TooDeep number)))) (λ more. after_lines more rest) ≡ Ok (between final)) test goes;
        }
    by false test d room goes =
        absurd (failed final (TooDeep number) (subst (λ (b : Bool). and_then (still_open net (cond b (Ok (inside opened number role)) (Err (TooDeep number)))) (λ more. after_lines more rest) ≡ Ok (between final)) test goes))

-- the line that closes, by what it says
closing : (net final : Net) (opened : OpenProcess) (depth : ℕ) (lines : List Line) (s : Split net final opened depth lines) (form : LineForm) → s.form ≡ form → after_lines (during net (holding opened (joined opened.block s.body))) (line s.number form ∷ s.behind) ≡ Ok (between final)
closing net final opened depth lines s form is = subst (λ (f : LineForm). after_lines (during net (holding opened (joined opened.block s.body))) (line s.number f ∷ s.behind) ≡ Ok (between final)) is s.goes

-- fewer lines stand behind the line that closes
fewer : (net final : Net) (opened : OpenProcess) (depth fuel : ℕ) (lines : List Line) (s : Split net final opened depth lines) → length lines ≤ fuel → length s.behind ≤ fuel
fewer net final opened depth fuel lines s few =
    let len : length lines ≡ length s.inner + length (line s.number s.form ∷ s.behind) = ap length s.split ∙ length-append s.inner (line s.number s.form ∷ s.behind) in
    let one : length (line s.number s.form ∷ s.behind) ≡ suc (length s.behind) = refl in
    omega (arith, len, one)

-- the lines of a loop, and those behind it
loop_lines : (number end : ℕ) (opening form : LineForm) (rest inner behind : List Line) → rest ≡ inner ++ line end form ∷ behind → form ≡ forms.End → line number opening ∷ rest ≡ (line number opening ∷ (inner ++ line end forms.End ∷ [])) ++ behind
loop_lines number end opening form rest inner behind split is =
    ap (λ (l : List Line). line number opening ∷ l) (split ∙ ap (λ (f : LineForm). inner ++ line end f ∷ behind) is ∙ sym (append_assoc inner (line end forms.End ∷ []) behind))

while_line : (fuel : ℕ) (net final : Net) → Again fuel net final → (opened : OpenProcess) (depth number : ℕ) (var : Var) (test : Test) (rest : List Line) → length rest ≤ fuel → length opened.around + depth ≡ 16 → ArePlain rest → after_lines (during net opened) (line number (forms.OpensWhile var test) ∷ rest) ≡ Ok (between final) → Split net final opened depth (line number (forms.OpensWhile var test) ∷ rest)
unfolding after_lines and_then
while_line fuel net final again opened depth number var test rest few fits plain ok =
    let e = entered net final opened depth number (WhileOf var test) (forms.OpensWhile var test) rest fits refl ok in
    let one = inside opened number (WhileOf var test) in
    let deeper = e.deeper in
    let depth_is = e.is in
    let s = again one e.deeper rest few (omega (arith, fits, depth_is)) plain e.goes in
    elim s.closes [
      | inl end ↦
          let statement : Statement Name = While var test s.body in
          let last = holding opened (with_last opened.block number statement) in
          subst (Split net final opened depth) (sym (loop_lines number s.number (forms.OpensWhile var test) s.form rest s.inner s.behind s.split end))
          (with_front net final opened depth number statement (line number (forms.OpensWhile var test) ∷ (s.inner ++ line s.number forms.End ∷ [])) s.behind (e.deeper, s.inner, s.number, e.is, refl, s.block)
          (again last depth s.behind (fewer net final one e.deeper fuel rest s few) fits s.plain (closing net final one e.deeper rest s forms.End end)))
      | inr other ↦ absurd (failed final _ (closing net final one e.deeper rest s forms.Else other))
    ]

count_line : (fuel : ℕ) (net final : Net) → Again fuel net final → (opened : OpenProcess) (depth number : ℕ) (var : Var) (rest : List Line) → length rest ≤ fuel → length opened.around + depth ≡ 16 → ArePlain rest → after_lines (during net opened) (line number (forms.OpensCount var) ∷ rest) ≡ Ok (between final) → Split net final opened depth (line number (forms.OpensCount var) ∷ rest)
unfolding after_lines and_then
count_line fuel net final again opened depth number var rest few fits plain ok =
    let e = entered net final opened depth number (CountOf var) (forms.OpensCount var) rest fits refl ok in
    let one = inside opened number (CountOf var) in
    let deeper = e.deeper in
    let depth_is = e.is in
    let s = again one e.deeper rest few (omega (arith, fits, depth_is)) plain e.goes in
    elim s.closes [
      | inl end ↦
          let statement : Statement Name = Count var s.body in
          let last = holding opened (with_last opened.block number statement) in
          subst (Split net final opened depth) (sym (loop_lines number s.number (forms.OpensCount var) s.form rest s.inner s.behind s.split end))
          (with_front net final opened depth number statement (line number (forms.OpensCount var) ∷ (s.inner ++ line s.number forms.End ∷ [])) s.behind (e.deeper, s.inner, s.number, e.is, refl, s.block)
          (again last depth s.behind (fewer net final one e.deeper fuel rest s few) fits s.plain (closing net final one e.deeper rest s forms.End end)))
      | inr other ↦ absurd (failed final _ (closing net final one e.deeper rest s forms.Else other))
    ]

if_lines : (number between_ end : ℕ) (opening one two : LineForm) (rest inner middle other behind : List Line) → rest ≡ inner ++ line between_ one ∷ middle → one ≡ forms.Else → middle ≡ other ++ line end two ∷ behind → two ≡ forms.End → line number opening ∷ rest ≡ (line number opening ∷ (inner ++ ((line between_ forms.Else ∷ other) ++ line end forms.End ∷ []))) ++ behind
if_lines number between_ end opening one two rest inner middle other behind split one_is split_two two_is =
    ap (λ (l : List Line). line number opening ∷ l)
    (split ∙ ap (λ (f : LineForm). inner ++ line between_ f ∷ middle) one_is
    ∙ ap (λ (l : List Line). inner ++ line between_ forms.Else ∷ l) (split_two ∙ ap (λ (f : LineForm). other ++ line end f ∷ behind) two_is ∙ sym (append_assoc other (line end forms.End ∷ []) behind))
    ∙ sym (append_assoc inner ((line between_ forms.Else ∷ other) ++ line end forms.End ∷ []) behind))

if_line : (fuel : ℕ) (net final : Net) → Again fuel net final → (opened : OpenProcess) (depth number : ℕ) (var : Var) (test : Test) (rest : List Line) → length rest ≤ fuel → length opened.around + depth ≡ 16 → ArePlain rest → after_lines (during net opened) (line number (forms.OpensIf var test) ∷ rest) ≡ Ok (between final) → Split net final opened depth (line number (forms.OpensIf var test) ∷ rest)
unfolding after_lines and_then
if_line fuel net final again opened depth number var test rest few fits plain ok =
    let e = entered net final opened depth number (FirstOf var test) (forms.OpensIf var test) rest fits refl ok in
    let one = inside opened number (FirstOf var test) in
    let deeper = e.deeper in
    let depth_is = e.is in
    let s = again one e.deeper rest few (omega (arith, fits, depth_is)) plain e.goes in
    let few_behind = fewer net final one e.deeper fuel rest s few in
    elim s.closes [
      | inl end ↦
          let statement : Statement Name = If var test s.body Empty in
          let last = holding opened (with_last opened.block number statement) in
          subst (Split net final opened depth) (sym (loop_lines number s.number (forms.OpensIf var test) s.form rest s.inner s.behind s.split end))
          (with_front net final opened depth number statement (line number (forms.OpensIf var test) ∷ (s.inner ++ line s.number forms.End ∷ [])) s.behind (e.deeper, s.inner, [], s.number, e.is, refl, s.block, inl (refl, refl))
          (again last depth s.behind few_behind fits s.plain (closing net final one e.deeper rest s forms.End end)))
      | inr other ↦
          let two = inside opened number (SecondOf var test s.body) in
          let t = again two e.deeper s.behind few_behind (omega (arith, fits, depth_is)) s.plain (closing net final one e.deeper rest s forms.Else other) in
          elim t.closes [
            | inl end ↦
                let statement : Statement Name = If var test s.body t.body in
                let last = holding opened (with_last opened.block number statement) in
                subst (Split net final opened depth) (sym (if_lines number s.number t.number (forms.OpensIf var test) s.form t.form rest s.inner s.behind t.inner t.behind s.split other t.split end))
                (with_front net final opened depth number statement (line number (forms.OpensIf var test) ∷ (s.inner ++ ((line s.number forms.Else ∷ t.inner) ++ line t.number forms.End ∷ []))) t.behind (e.deeper, s.inner, line s.number forms.Else ∷ t.inner, t.number, e.is, refl, s.block, inr (s.number, t.inner, refl, t.block))
                (again last depth t.behind (fewer net final two e.deeper fuel s.behind t few_behind) fits t.plain (closing net final two e.deeper s.behind t forms.End end)))
            | inr more ↦ absurd (failed final _ (closing net final two e.deeper s.behind t forms.Else more))
          ]
    ]

by_form : (fuel : ℕ) (net final : Net) → Again fuel net final → (opened : OpenProcess) (depth number : ℕ) (form : LineForm) (rest : List Line) → length rest ≤ fuel → length opened.around + depth ≡ 16 → IsPlainForm form → ArePlain rest → after_lines (during net opened) (line number form ∷ rest) ≡ Ok (between final) → Split net final opened depth (line number form ∷ rest)
unfolding after_lines and_then
by_form fuel net final again opened depth number (forms.Simple statement) rest few fits simple plain ok =
    with_front net final opened depth number statement (line number (forms.Simple statement) ∷ []) rest (plain_is depth number statement simple) (again (holding opened (with_last opened.block number statement)) depth rest few fits plain ok)
by_form fuel net final again opened depth number (forms.OpensIf var test) rest few fits simple plain ok = if_line fuel net final again opened depth number var test rest few fits plain ok
by_form fuel net final again opened depth number (forms.OpensWhile var test) rest few fits simple plain ok = while_line fuel net final again opened depth number var test rest few fits plain ok
by_form fuel net final again opened depth number (forms.OpensCount var) rest few fits simple plain ok = count_line fuel net final again opened depth number var rest few fits plain ok
by_form fuel net final again opened depth number forms.Else rest few fits simple plain ok = here net final opened depth number forms.Else rest (inr refl) plain ok
by_form fuel net final again opened depth number forms.End rest few fits simple plain ok = here net final opened depth number forms.End rest (inl refl) plain ok
by_form fuel net final again opened depth number forms.Version rest few fits simple plain ok = absurd (failed final _ ok)
by_form fuel net final again opened depth number (forms.TilesLine tiles) rest few fits simple plain ok = absurd (failed final _ ok)
by_form fuel net final again opened depth number (forms.Input name position via) rest few fits simple plain ok = absurd (failed final _ ok)
by_form fuel net final again opened depth number (forms.Output name position via) rest few fits simple plain ok = absurd (failed final _ ok)
by_form fuel net final again opened depth number (forms.Channel name via) rest few fits simple plain ok = absurd (failed final _ ok)
by_form fuel net final again opened depth number (forms.Process name at) rest few fits simple plain ok = absurd (failed final _ ok)
by_form fuel net final again opened depth number forms.Malformed rest few fits simple plain ok = absurd (failed final _ ok)

split_of : (fuel : ℕ) (net final : Net) (opened : OpenProcess) (depth : ℕ) (lines : List Line) → length lines ≤ fuel → length opened.around + depth ≡ 16 → ArePlain lines → after_lines (during net opened) lines ≡ Ok (between final) → Split net final opened depth lines
unfolding after_lines
split_of zero net final opened depth [] few fits plain ok = absurd (apart net final opened ok)
split_of zero net final opened depth (l ∷ lines) few fits plain ok = absurd (omega arith)
split_of (suc fuel) net final opened depth [] few fits plain ok = absurd (apart net final opened ok)
split_of (suc fuel) net final opened depth (l ∷ lines) few fits plain ok = by_form fuel net final (split_of fuel net final) opened depth l.number l.form lines (omega arith) fits plain.0 plain.1 ok

-- ---- declarations and networks

-- the lines are declarations, and the network is the one that they make
record Declared (net final : Net) (lines : List Line) : Type 0 where
  declarations : List Declaration
  are : AreDeclarations 16 declarations lines
  makes : final ≡ with_declarations net declarations

one_more : (net final : Net) (declaration : Declaration) (first rest : List Line) → IsDeclaration 16 declaration first → Declared (with_declaration net declaration) final rest → Declared net final (first ++ rest)
one_more net final declaration first rest is d = record { declarations = declaration ∷ d.declarations; are = (first, rest, refl, is, d.are); makes = d.makes }

-- what is read of fewer lines
abbrev Before : ℕ → Net → Type 0
Before fuel final = (net : Net) (lines : List Line) → length lines ≤ fuel → ArePlain lines → after_lines (between net) lines ≡ Ok (between final) → Declared net final lines

process_line : (fuel : ℕ) (net final : Net) → Before fuel final → (name : Name) (at : Option ℕ) (number : ℕ) (rest : List Line) → length rest ≤ fuel → ArePlain rest → after_lines (during net (record { name = name; at = at; line = number; block = Empty; around = [] })) rest ≡ Ok (between final) → Declared net final (line number (forms.Process name at) ∷ rest)
unfolding after_lines and_then
process_line fuel net final again name at number rest few plain ok =
    let opened : OpenProcess = record { name = name; at = at; line = number; block = Empty; around = [] } in
    let s = split_of fuel net final opened 16 rest few (omega arith) plain ok in
    elim s.closes [
      | inl end ↦
          let process : ProcessText = record { name = name; at = at; body = s.body; line = number } in
          subst (Declared net final) (sym (loop_lines number s.number (forms.Process name at) s.form rest s.inner s.behind s.split end))
          (one_more net final (DeclaresProcess process) (line number (forms.Process name at) ∷ (s.inner ++ line s.number forms.End ∷ [])) s.behind (s.inner, s.number, refl, s.block)
          (again (with_declaration net (DeclaresProcess process)) s.behind (fewer net final opened 16 fuel rest s few) s.plain (closing net final opened 16 rest s forms.End end)))
      | inr other ↦ absurd (failed final _ (closing net final opened 16 rest s forms.Else other))
    ]

by_declaration : (fuel : ℕ) (net final : Net) → Before fuel final → (number : ℕ) (form : LineForm) (rest : List Line) → length rest ≤ fuel → ArePlain rest → after_lines (between net) (line number form ∷ rest) ≡ Ok (between final) → Declared net final (line number form ∷ rest)
unfolding after_lines and_then
by_declaration fuel net final again number (forms.Input name position via) rest few plain ok =
    let port : PortLine = record { name = name; position = position; via = via; line = number } in
    one_more net final (DeclaresInput port) (line number (forms.Input name position via) ∷ []) rest refl (again (with_declaration net (DeclaresInput port)) rest few plain ok)
by_declaration fuel net final again number (forms.Output name position via) rest few plain ok =
    let port : PortLine = record { name = name; position = position; via = via; line = number } in
    one_more net final (DeclaresOutput port) (line number (forms.Output name position via) ∷ []) rest refl (again (with_declaration net (DeclaresOutput port)) rest few plain ok)
by_declaration fuel net final again number (forms.Channel name via) rest few plain ok =
    let channel : ChannelLine = record { name = name; via = via; line = number } in
    one_more net final (DeclaresChannel channel) (line number (forms.Channel name via) ∷ []) rest refl (again (with_declaration net (DeclaresChannel channel)) rest few plain ok)
by_declaration fuel net final again number (forms.Process name at) rest few plain ok = process_line fuel net final again name at number rest few plain ok
by_declaration fuel net final again number (forms.Simple statement) rest few plain ok = absurd (failed final _ ok)
by_declaration fuel net final again number (forms.OpensIf var test) rest few plain ok = absurd (failed final _ ok)
by_declaration fuel net final again number (forms.OpensWhile var test) rest few plain ok = absurd (failed final _ ok)
by_declaration fuel net final again number (forms.OpensCount var) rest few plain ok = absurd (failed final _ ok)
by_declaration fuel net final again number forms.Else rest few plain ok = absurd (failed final _ ok)
by_declaration fuel net final again number forms.End rest few plain ok = absurd (failed final _ ok)
by_declaration fuel net final again number forms.Version rest few plain ok = absurd (failed final _ ok)
by_declaration fuel net final again number (forms.TilesLine tiles) rest few plain ok = absurd (failed final _ ok)
by_declaration fuel net final again number forms.Malformed rest few plain ok = absurd (failed final _ ok)

same_net : (net final : Net) → ◌≡◌ {A = Result Configuration NetRefusal} (Ok (between net)) (Ok (between final)) → final ≡ net
same_net net final e = sym (ap net_of_result e)
  where
    net_of_result : Result Configuration NetRefusal → Net
    net_of_result (Ok sofar) = sofar.net
    net_of_result (Err refusal) = net

declared : (fuel : ℕ) (final net : Net) (lines : List Line) → length lines ≤ fuel → ArePlain lines → after_lines (between net) lines ≡ Ok (between final) → Declared net final lines
unfolding after_lines
declared zero final net [] few plain ok = record { declarations = []; are = refl; makes = same_net net final ok }
declared zero final net (l ∷ lines) few plain ok = absurd (omega arith)
declared (suc fuel) final net [] few plain ok = record { declarations = []; are = refl; makes = same_net net final ok }
declared (suc fuel) final net (l ∷ lines) few plain ok = by_declaration fuel net final (declared fuel final) l.number l.form lines (omega arith) plain.1 ok

-- at the end no process is open
ends : (read : Result Configuration NetRefusal) (net : Net) → and_then read (λ sofar. net_at_end sofar.net sofar.open_process) ≡ Ok net → read ≡ Ok (between net)
unfolding and_then
ends (Err refusal) net e = absurd cc
ends (Ok sofar) net e = by sofar.open_process refl e
  where
    by : (open_process : Option OpenProcess) → sofar.open_process ≡ open_process → net_at_end sofar.net open_process ≡ Ok net → ◌≡◌ {A = Result Configuration NetRefusal} (Ok sofar) (Ok (between net))
    by None none is = let whole : sofar.net ≡ net = cc in ap (λ (n : Net). Ok (record { net = n; open_process = sofar.open_process })) whole ∙ ap (λ (p : Option OpenProcess). Ok (record { net = net; open_process = p })) none
    by (Some opened) some is = absurd cc

head_is : (number : ℕ) (form : LineForm) (behind : Result Configuration NetRefusal) (net : Net) → head_of_line number form behind ≡ Ok (between net) → (form ≡ forms.Version) × (behind ≡ Ok (between net))
head_is number forms.Version behind net ok = (refl, ok)
head_is number (forms.TilesLine tiles) behind net ok = absurd (failed net _ ok)
head_is number (forms.Input name position via) behind net ok = absurd (failed net _ ok)
head_is number (forms.Output name position via) behind net ok = absurd (failed net _ ok)
head_is number (forms.Channel name via) behind net ok = absurd (failed net _ ok)
head_is number (forms.Process name at) behind net ok = absurd (failed net _ ok)
head_is number (forms.Simple statement) behind net ok = absurd (failed net _ ok)
head_is number (forms.OpensIf var test) behind net ok = absurd (failed net _ ok)
head_is number (forms.OpensWhile var test) behind net ok = absurd (failed net _ ok)
head_is number (forms.OpensCount var) behind net ok = absurd (failed net _ ok)
head_is number forms.Else behind net ok = absurd (failed net _ ok)
head_is number forms.End behind net ok = absurd (failed net _ ok)
head_is number forms.Malformed behind net ok = absurd (failed net _ ok)

tiles_are : (number : ℕ) (form : LineForm) (lines : List Line) (net : Net) → and_then (tiles_of_line number form) (net_with lines) ≡ Ok (between net) → (tiles : Tiles) × (form ≡ forms.TilesLine tiles) × (net_with lines tiles ≡ Ok (between net))
unfolding and_then
tiles_are number forms.Version lines net ok = absurd (failed net _ ok)
tiles_are number (forms.TilesLine tiles) lines net ok = (tiles, refl, ok)
tiles_are number (forms.Input name position via) lines net ok = absurd (failed net _ ok)
tiles_are number (forms.Output name position via) lines net ok = absurd (failed net _ ok)
tiles_are number (forms.Channel name via) lines net ok = absurd (failed net _ ok)
tiles_are number (forms.Process name at) lines net ok = absurd (failed net _ ok)
tiles_are number (forms.Simple statement) lines net ok = absurd (failed net _ ok)
tiles_are number (forms.OpensIf var test) lines net ok = absurd (failed net _ ok)
tiles_are number (forms.OpensWhile var test) lines net ok = absurd (failed net _ ok)
tiles_are number (forms.OpensCount var) lines net ok = absurd (failed net _ ok)
tiles_are number forms.Else lines net ok = absurd (failed net _ ok)
tiles_are number forms.End lines net ok = absurd (failed net _ ok)
tiles_are number forms.Malformed lines net ok = absurd (failed net _ ok)

-- the lines of what was read are that network
pub lines_are : (next : ℕ) (lines : List Line) (net : Net) → ArePlain lines → after_all next lines ≡ Ok (between net) → IsNet lines net
lines_are next [] net plain ok = absurd (failed net _ ok)
lines_are next (first ∷ []) net plain ok = absurd (failed net _ (head_is first.number first.form (after_version next []) net ok).1)
lines_are next (first ∷ second ∷ others) net plain ok =
    let head = head_is first.number first.form (after_version next (second ∷ others)) net ok in
    let tiles = tiles_are second.number second.form others net head.1 in
    let d = declared (length others) net (bare_net tiles.0) others (omega arith) plain.1.1 tiles.2 in
    let lines : first ∷ second ∷ others ≡ line first.number forms.Version ∷ (line second.number (forms.TilesLine tiles.0) ∷ others) =
    ap (λ (f : LineForm). line first.number f ∷ (line second.number second.form ∷ others)) head.0 ∙ ap (λ (f : LineForm). line first.number forms.Version ∷ (line second.number f ∷ others)) tiles.1 in
    (first.number, second.number, tiles.0, d.declarations, others, lines, d.are, d.makes)

pub read_is_derived : (text : List ℕ) (net : Net) → net_of text ≡ Ok net → IsNet (lines_of text) net
unfolding net_of
read_is_derived text net ok = lines_are (next_number text) (lines_of text) net (lines_are_plain text) (ends (after_all (next_number text) (lines_of text)) net ok)
