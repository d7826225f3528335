-- The lines of the canonical text of a network are that network again, with other line numbers.
use Rattle.std.proofs.Common.{◌≡◌, ℕ, inl, inr, List, [], ◌∷◌, ◌++◌, map, refl, ap, ◌∙◌}
use Rattle.net_tree.specs.Tree.{Name, Statement, Get, GetAdd, GetSub, Put, PutNumber, Move, Set, Add, Sub, Neg, Double, Copy, Swap, If, While, Count, Block, Empty, Then, statement_without_lines, block_without_lines, port_without_line, channel_without_line, process_without_lines}
use Rattle.net_syntax.specs.Forms as forms
use Rattle.net_syntax.specs.Forms.{LineForm, Line}
use Rattle.net_syntax.specs.Grammar.{line, IsBlock, IsStatement, Declaration, DeclaresInput, DeclaresOutput, DeclaresChannel, DeclaresProcess, IsDeclaration, AreDeclarations}
use Rattle.net_syntax.proofs.Plain.{ArePlain}

-- ---- what the lines of the canonical text say

-- the first line of a statement
abbrev pub first_form : Statement Name → LineForm
first_form (If var test first second) = forms.OpensIf var test
first_form (While var test body) = forms.OpensWhile var test
first_form (Count var body) = forms.OpensCount var
first_form statement = forms.Simple statement

abbrev mutual
  -- the lines of a block
  pub block_forms : Block Name → List LineForm
  block_forms Empty = []
  block_forms (Then line statement rest) = (first_form statement ∷ inner_forms statement) ++ block_forms rest

  -- the lines behind the first one of a statement
  pub inner_forms : Statement Name → List LineForm
  inner_forms (If var test first second) = block_forms first ++ (else_forms second ++ forms.End ∷ [])
  inner_forms (While var test body) = block_forms body ++ forms.End ∷ []
  inner_forms (Count var body) = block_forms body ++ forms.End ∷ []
  inner_forms statement = []

  -- the lines of a second block
  pub else_forms : Block Name → List LineForm
  else_forms Empty = []
  else_forms (Then line statement rest) = forms.Else ∷ ((first_form statement ∷ inner_forms statement) ++ block_forms rest)

-- ---- lines that say this are lines that say one thing and then the other

abbrev pub form_of_line : Line → LineForm
form_of_line l = l.form

abbrev pub Splits : List Line → List LineForm → List LineForm → Type 0
Splits lines first others = (front back : List Line) × (lines ≡ front ++ back) × (map form_of_line front ≡ first) × (map form_of_line back ≡ others)

same_tail : (x y : LineForm) (xs ys : List LineForm) → x ∷ xs ≡ y ∷ ys → (x ≡ y) × (xs ≡ ys)
same_tail x y xs ys e = (cc, cc)

no_tail : (x : LineForm) (xs : List LineForm) → [] ≡ x ∷ xs → ⊥
no_tail x xs e = absurd cc

no_line : (x : LineForm) (xs : List LineForm) → x ∷ xs ≡ [] → ⊥
no_line x xs e = absurd cc

splits : (lines : List Line) (first others : List LineForm) → map form_of_line lines ≡ first ++ others → Splits lines first others
splits lines [] others e = ([], lines, refl, refl, e)
splits [] (form ∷ first) others e = absurd (no_tail form (first ++ others) e)
splits (l ∷ lines) (form ∷ first) others e =
    let same = same_tail l.form form (map form_of_line lines) (first ++ others) e in
    let s = splits lines first others same.1 in
    (l ∷ s.0, s.1, ap (λ (ls : List Line). l ∷ ls) s.2, ap (λ (f : LineForm). f ∷ map form_of_line s.0) same.0 ∙ ap (λ (fs : List LineForm). form ∷ fs) s.3, s.4)

-- lines that say one thing and then others
abbrev pub Begins : List Line → LineForm → List LineForm → Type 0
Begins lines form others = (number : ℕ) × (back : List Line) × (lines ≡ line number form ∷ back) × (map form_of_line back ≡ others)

begins : (lines : List Line) (form : LineForm) (others : List LineForm) → map form_of_line lines ≡ form ∷ others → Begins lines form others
begins [] form others e = absurd (no_tail form others e)
begins (l ∷ lines) form others e =
    let same = same_tail l.form form (map form_of_line lines) others e in
    (l.number, lines, ap (λ (f : LineForm). line l.number f ∷ lines) same.0, same.1)

none_left : (lines : List Line) → map form_of_line lines ≡ [] → lines ≡ []
none_left [] e = refl
none_left (l ∷ lines) e = absurd (no_line l.form (map form_of_line lines) e)

-- ---- blocks

-- these lines are this block, up to line numbers
pub record BlockAgain (depth : ℕ) (block : Block Name) (written : List Line) : Type 0 where
  pub again : Block Name
  pub is : IsBlock depth again written
  pub same : block_without_lines again ≡ block_without_lines block

pub record StatementAgain (depth : ℕ) (statement : Statement Name) (written : List Line) : Type 0 where
  pub number : ℕ
  pub again : Statement Name
  pub is : IsStatement depth number again written
  pub same : statement_without_lines again ≡ statement_without_lines statement

simple_again : (depth : ℕ) (statement : Statement Name) (written : List Line) → map form_of_line written ≡ forms.Simple statement ∷ [] → ((number : ℕ) → written ≡ line number (forms.Simple statement) ∷ [] → IsStatement depth number statement written) → StatementAgain depth statement written
simple_again depth statement written says is =
    let b = begins written (forms.Simple statement) [] says in
    let whole : written ≡ line b.0 (forms.Simple statement) ∷ [] = b.2 ∙ ap (λ (ls : List Line). line b.0 (forms.Simple statement) ∷ ls) (none_left b.1 b.3) in
    record { number = b.0; again = statement; is = is b.0 whole; same = refl }

-- lines that say an opening line, a block and `end`
pub record Enclosed (written : List Line) (opening : LineForm) (inner : List LineForm) : Type 0 where
  pub number : ℕ
  pub lines : List Line
  pub end : ℕ
  pub all : written ≡ line number opening ∷ (lines ++ line end forms.End ∷ [])
  pub says : map form_of_line lines ≡ inner

enclosed : (written : List Line) (opening : LineForm) (inner : List LineForm) → map form_of_line written ≡ opening ∷ (inner ++ forms.End ∷ []) → Enclosed written opening inner
enclosed written opening inner says =
    let b = begins written opening (inner ++ forms.End ∷ []) says in
    let s = splits b.1 inner (forms.End ∷ []) b.3 in
    let e = begins s.1 forms.End [] s.4 in
    let last : s.1 ≡ line e.0 forms.End ∷ [] = e.2 ∙ ap (λ (ls : List Line). line e.0 forms.End ∷ ls) (none_left e.1 e.3) in
    record {
      number = b.0;
      lines = s.0;
      end = e.0;
      all = b.2 ∙ ap (λ (ls : List Line). line b.0 opening ∷ ls) (s.2 ∙ ap (λ (ls : List Line). s.0 ++ ls) last);
      says = s.3;
    }

filled : (n : ℕ) (st : Statement Name) (rest : Block Name) → Then n st rest ≡ Empty → ⊥
filled n st rest e = absurd cc

mutual
  block_again : (block : Block Name) (depth : ℕ) (lines : List Line) → IsBlock depth block lines → (written : List Line) → map form_of_line written ≡ block_forms block → BlockAgain depth block written
  block_again Empty depth lines is written says = record { again = Empty; is = none_left written says; same = refl }
  block_again (Then number statement rest) depth lines is written says =
      let s = splits written (first_form statement ∷ inner_forms statement) (block_forms rest) says in
      let one = statement_again statement depth number is.0 is.3 s.0 s.3 in
      let more = block_again rest depth is.1 is.4 s.1 s.4 in
      record {
        again = Then one.number one.again more.again;
        is = (s.0, s.1, s.2, one.is, more.is);
        same = ap (λ (st : Statement Name). Then 0 st (block_without_lines more.again)) one.same ∙ ap (λ (b : Block Name). Then 0 (statement_without_lines statement) b) more.same;
      }

  statement_again : (statement : Statement Name) (depth number : ℕ) (lines : List Line) → IsStatement depth number statement lines → (written : List Line) → map form_of_line written ≡ first_form statement ∷ inner_forms statement → StatementAgain depth statement written
  statement_again (While var test body) depth number lines is written says =
      let e = enclosed written (forms.OpensWhile var test) (block_forms body) says in
      let b = block_again body is.0 is.1 is.5 e.lines e.says in
      record { number = e.number; again = While var test b.again; is = (is.0, e.lines, e.end, is.3, e.all, b.is); same = ap (λ (block : Block Name). While var test block) b.same }
  statement_again (Count var body) depth number lines is written says =
      let e = enclosed written (forms.OpensCount var) (block_forms body) says in
      let b = block_again body is.0 is.1 is.5 e.lines e.says in
      record { number = e.number; again = Count var b.again; is = (is.0, e.lines, e.end, is.3, e.all, b.is); same = ap (λ (block : Block Name). Count var block) b.same }
  statement_again (If var test first Empty) depth number lines is written says =
      let e = enclosed written (forms.OpensIf var test) (block_forms first) says in
      let b = block_again first is.0 is.1 is.6 e.lines e.says in
      record { number = e.number; again = If var test b.again Empty; is = (is.0, e.lines, [], e.end, is.4, e.all, b.is, inl (refl, refl)); same = ap (λ (block : Block Name). If var test block Empty) b.same }
  statement_again (If var test first (Then n st rest)) depth number lines is written says = elim is.7 [
    | inl none ↦ absurd (filled n st rest none.1)
    | inr other ↦
        let begin = begins written (forms.OpensIf var test) (block_forms first ++ (else_forms (Then n st rest) ++ forms.End ∷ [])) says in
        let s = splits begin.1 (block_forms first) (else_forms (Then n st rest) ++ forms.End ∷ []) begin.3 in
        let e = enclosed s.1 forms.Else (block_forms (Then n st rest)) s.4 in
        let one = block_again first is.0 is.1 is.6 s.0 s.3 in
        let two = block_again (Then n st rest) is.0 other.1 other.3 e.lines e.says in
        record {
          number = begin.0;
          again = If var test one.again two.again;
          is = (is.0, s.0, line e.number forms.Else ∷ e.lines, e.end, is.4, begin.2 ∙ ap (λ (ls : List Line). line begin.0 (forms.OpensIf var test) ∷ ls) (s.2 ∙ ap (λ (ls : List Line). s.0 ++ ls) e.all), one.is, inr (e.number, e.lines, refl, two.is));
          same = ap (λ (block : Block Name). If var test block (block_without_lines two.again)) one.same ∙ ap (λ (block : Block Name). If var test (block_without_lines first) block) two.same;
        }
  ]
  statement_again (Get read var) depth number lines is written says = simple_again depth (Get read var) written says (λ n e. e)
  statement_again (GetAdd read var) depth number lines is written says = simple_again depth (GetAdd read var) written says (λ n e. e)
  statement_again (GetSub read var) depth number lines is written says = simple_again depth (GetSub read var) written says (λ n e. e)
  statement_again (Put name var) depth number lines is written says = simple_again depth (Put name var) written says (λ n e. e)
  statement_again (PutNumber name k) depth number lines is written says = simple_again depth (PutNumber name k) written says (λ n e. e)
  statement_again (Move read name) depth number lines is written says = simple_again depth (Move read name) written says (λ n e. e)
  statement_again (Set var k) depth number lines is written says = simple_again depth (Set var k) written says (λ n e. e)
  statement_again (Add var k) depth number lines is written says = simple_again depth (Add var k) written says (λ n e. e)
  statement_again (Sub var k) depth number lines is written says = simple_again depth (Sub var k) written says (λ n e. e)
  statement_again (Neg var) depth number lines is written says = simple_again depth (Neg var) written says (λ n e. e)
  statement_again (Double var) depth number lines is written says = simple_again depth (Double var) written says (λ n e. e)
  statement_again (Copy to from) depth number lines is written says = simple_again depth (Copy to from) written says (λ n e. e)
  statement_again Swap depth number lines is written says = simple_again depth Swap written says (λ n e. e)

-- ---- parts of a network

-- the lines of a part
abbrev pub part_forms : Declaration → List LineForm
part_forms (DeclaresInput port) = forms.Input port.name port.position port.via ∷ []
part_forms (DeclaresOutput port) = forms.Output port.name port.position port.via ∷ []
part_forms (DeclaresChannel channel) = forms.Channel channel.name channel.via ∷ []
part_forms (DeclaresProcess process) = forms.Process process.name process.at ∷ (block_forms process.body ++ forms.End ∷ [])

abbrev pub parts_forms : List Declaration → List LineForm
parts_forms [] = []
parts_forms (part ∷ parts) = part_forms part ++ parts_forms parts

-- a part without its line numbers
abbrev pub without_lines : Declaration → Declaration
without_lines (DeclaresInput port) = DeclaresInput (port_without_line port)
without_lines (DeclaresOutput port) = DeclaresOutput (port_without_line port)
without_lines (DeclaresChannel channel) = DeclaresChannel (channel_without_line channel)
without_lines (DeclaresProcess process) = DeclaresProcess (process_without_lines process)

pub record PartAgain (depth : ℕ) (part : Declaration) (written : List Line) : Type 0 where
  pub again : Declaration
  pub is : IsDeclaration depth again written
  pub same : without_lines again ≡ without_lines part

one_line : (written : List Line) (form : LineForm) → map form_of_line written ≡ form ∷ [] → (number : ℕ) × (written ≡ line number form ∷ [])
one_line written form says = let b = begins written form [] says in (b.0, b.2 ∙ ap (λ (ls : List Line). line b.0 form ∷ ls) (none_left b.1 b.3))

part_again : (depth : ℕ) (part : Declaration) (lines : List Line) → IsDeclaration depth part lines → (written : List Line) → map form_of_line written ≡ part_forms part → PartAgain depth part written
part_again depth (DeclaresInput port) lines is written says =
    let o = one_line written (forms.Input port.name port.position port.via) says in
    record { again = DeclaresInput (record port { line = o.0 }); is = o.1; same = refl }
part_again depth (DeclaresOutput port) lines is written says =
    let o = one_line written (forms.Output port.name port.position port.via) says in
    record { again = DeclaresOutput (record port { line = o.0 }); is = o.1; same = refl }
part_again depth (DeclaresChannel channel) lines is written says =
    let o = one_line written (forms.Channel channel.name channel.via) says in
    record { again = DeclaresChannel (record channel { line = o.0 }); is = o.1; same = refl }
part_again depth (DeclaresProcess process) lines is written says =
    let e = enclosed written (forms.Process process.name process.at) (block_forms process.body) says in
    let b = block_again process.body depth is.0 is.3 e.lines e.says in
    record {
      again = DeclaresProcess (record process { body = b.again; line = e.number });
      is = (e.lines, e.end, e.all, b.is);
      same = ap (λ (body : Block Name). DeclaresProcess (record process { body = body; line = 0 })) b.same;
    }

-- each of these parts is some lines, and what those lines say can be written
abbrev pub AreParts : ℕ → List Declaration → Type 0
AreParts depth [] = Unit {0}
AreParts depth (part ∷ parts) = (lines : List Line) × IsDeclaration depth part lines × ArePlain lines × AreParts depth parts

pub record PartsAgain (depth : ℕ) (parts : List Declaration) (written : List Line) : Type 0 where
  pub again : List Declaration
  pub are : AreDeclarations depth again written
  pub same : map without_lines again ≡ map without_lines parts

pub parts_again : (depth : ℕ) (parts : List Declaration) → AreParts depth parts → (written : List Line) → map form_of_line written ≡ parts_forms parts → PartsAgain depth parts written
parts_again depth [] are written says = record { again = []; are = none_left written says; same = refl }
parts_again depth (part ∷ parts) are written says =
    let s = splits written (part_forms part) (parts_forms parts) says in
    let one = part_again depth part are.0 are.1 s.0 s.3 in
    let rest = parts_again depth parts are.3 s.1 s.4 in
    record {
      again = one.again ∷ rest.again;
      are = (s.0, s.1, s.2, one.is, rest.are);
      same = ap (λ (d : Declaration). d ∷ map without_lines rest.again) one.same ∙ ap (λ (ds : List Declaration). without_lines part ∷ ds) rest.same;
    }
