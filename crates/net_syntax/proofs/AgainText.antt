-- The canonical text of a network that some text gives is read as that network, up to line numbers.
use Rattle.std.proofs.Common.{◌≡◌, ◌≤◌, ℕ, suc, ◌+◌, inl, inr, true, List, [], ◌∷◌, ◌++◌, map, length, refl, sym, ap, subst, ◌∙◌, arith, append_assoc, append-nil, length-append}
use Rattle.std.specs.Prelude.{Option, Some, None, Result, Ok, Err, flat_map, take, drop, codes}
use Rattle.std.specs.List.{list_all}
use Rattle.std.proofs.lemmas.Bool.{and_from}
use Rattle.std.proofs.lemmas.List.{map-append, length-map, length-take, take_all, drop_all}
use Rattle.tis_base.specs.Tiles.{Tiles}
use Rattle.tis_words.specs.Words.{Words}
use Rattle.tis_words.specs.declared.comments.Comments.TheVariants.{BehindHash}
use Rattle.tis_words.specs.Lines.{NonBlank, non_blank_lines}
use Rattle.tis_words.proofs.Written.{is_filled_line, numbered, text_read}
use Rattle.net_tree.specs.Tree.{Name, Statement, Get, GetAdd, GetSub, Put, PutNumber, Move, Set, Add, Sub, Neg, Double, Copy, Swap, If, While, Count, Block, Empty, Then, PortLine, ChannelLine, ProcessText, Net, net_without_lines}
use Rattle.net_tree.specs.NetText.{version_line, tiles_line, port_line, channel_line, process_line, process_lines, statement_line, inner_lines, else_lines, end_line, block_lines, net_lines, net_text}
use Rattle.net_syntax.specs.Forms as forms
use Rattle.net_syntax.specs.Forms.{LineForm, Line, form_of, line_of, line_past, lines_up_to, lines_of}
use Rattle.net_syntax.specs.Refusals.{NetRefusal}
use Rattle.net_syntax.specs.Grammar.{line, IsBlock, IsStatement, Declaration, DeclaresInput, DeclaresOutput, DeclaresChannel, DeclaresProcess, IsDeclaration, AreDeclarations, IsNet, bare_net, with_declaration, with_declarations}
use Rattle.net_syntax.specs.Reading.{Configuration, OpenProcess, after_line, after_lines, and_then, net_of}
use Rattle.net_syntax.proofs.Plain.{AreRows, ArePlain, lines_are_plain}
use Rattle.net_syntax.proofs.Derived.{between, declarations_are, derived_is_read}
use Rattle.net_syntax.proofs.Open.{read_not}
use Rattle.net_syntax.proofs.Sound.{read_is_derived}
use Rattle.net_syntax.proofs.Spoken.{form_words, form_read, form_filled}
use Rattle.net_syntax.proofs.Again.{first_form, block_forms, inner_forms, else_forms, part_forms, parts_forms, AreParts, form_of_line, parts_again}
use Rattle.net_syntax.proofs.AgainParts.{parts_of, parts_make, kept, bare_parts, parts_are, AllSaid, parts_said}

-- ---- the words of the lines

first_words : (statement : Statement Name) → form_words (first_form statement) ≡ statement_line statement
first_words (If var test first second) = refl
first_words (While var test body) = refl
first_words (Count var body) = refl
first_words (Get read var) = refl
first_words (GetAdd read var) = refl
first_words (GetSub read var) = refl
first_words (Put name var) = refl
first_words (PutNumber name k) = refl
first_words (Move read name) = refl
first_words (Set var k) = refl
first_words (Add var k) = refl
first_words (Sub var k) = refl
first_words (Neg var) = refl
first_words (Double var) = refl
first_words (Copy to from) = refl
first_words Swap = refl

-- the words of one thing and then of another
both_words : (first others : List LineForm) (one two : List Words) → map form_words first ≡ one → map form_words others ≡ two → map form_words (first ++ others) ≡ one ++ two
both_words first others one two is and_is = map-append form_words first others ∙ ap (λ (ws : List Words). ws ++ map form_words others) is ∙ ap (λ (ws : List Words). one ++ ws) and_is

mutual
  block_words : (block : Block Name) → map form_words (block_forms block) ≡ block_lines block
  block_words Empty = refl
  block_words (Then number statement rest) =
      both_words (first_form statement ∷ inner_forms statement) (block_forms rest) (statement_line statement ∷ inner_lines statement) (block_lines rest)
      (ap (λ (w : Words). w ∷ map form_words (inner_forms statement)) (first_words statement) ∙ ap (λ (ws : List Words). statement_line statement ∷ ws) (inner_words statement)) (block_words rest)

  inner_words : (statement : Statement Name) → map form_words (inner_forms statement) ≡ inner_lines statement
  inner_words (While var test body) = both_words (block_forms body) (forms.End ∷ []) (block_lines body) (end_line ∷ []) (block_words body) refl
  inner_words (Count var body) = both_words (block_forms body) (forms.End ∷ []) (block_lines body) (end_line ∷ []) (block_words body) refl
  inner_words (If var test first second) =
      both_words (block_forms first) (else_forms second ++ forms.End ∷ []) (block_lines first) (else_lines second ++ end_line ∷ []) (block_words first)
      (both_words (else_forms second) (forms.End ∷ []) (else_lines second) (end_line ∷ []) (else_words second) refl)
      ∙ sym (append_assoc (block_lines first) (else_lines second) (end_line ∷ []))
  inner_words (Get read var) = refl
  inner_words (GetAdd read var) = refl
  inner_words (GetSub read var) = refl
  inner_words (Put name var) = refl
  inner_words (PutNumber name k) = refl
  inner_words (Move read name) = refl
  inner_words (Set var k) = refl
  inner_words (Add var k) = refl
  inner_words (Sub var k) = refl
  inner_words (Neg var) = refl
  inner_words (Double var) = refl
  inner_words (Copy to from) = refl
  inner_words Swap = refl

  else_words : (block : Block Name) → map form_words (else_forms block) ≡ else_lines block
  else_words Empty = refl
  else_words (Then number statement rest) =
      ap (λ (ws : List Words). (codes "else" ∷ []) ∷ ws) (both_words (first_form statement ∷ inner_forms statement) (block_forms rest) (statement_line statement ∷ inner_lines statement) (block_lines rest)
      (ap (λ (w : Words). w ∷ map form_words (inner_forms statement)) (first_words statement) ∙ ap (λ (ws : List Words). statement_line statement ∷ ws) (inner_words statement)) (block_words rest))

parts_both : (first others : List Declaration) → parts_forms (first ++ others) ≡ parts_forms first ++ parts_forms others
parts_both [] others = refl
parts_both (part ∷ first) others = ap (λ (fs : List LineForm). part_forms part ++ fs) (parts_both first others) ∙ sym (append_assoc (part_forms part) (parts_forms first) (parts_forms others))

input_words : (ports : List PortLine) → map form_words (parts_forms (map DeclaresInput ports)) ≡ map (port_line (codes "input")) ports
input_words [] = refl
input_words (port ∷ ports) = ap (λ (ws : List Words). port_line (codes "input") port ∷ ws) (input_words ports)

output_words : (ports : List PortLine) → map form_words (parts_forms (map DeclaresOutput ports)) ≡ map (port_line (codes "output")) ports
output_words [] = refl
output_words (port ∷ ports) = ap (λ (ws : List Words). port_line (codes "output") port ∷ ws) (output_words ports)

channel_words : (channels : List ChannelLine) → map form_words (parts_forms (map DeclaresChannel channels)) ≡ map channel_line channels
channel_words [] = refl
channel_words (channel ∷ channels) = ap (λ (ws : List Words). channel_line channel ∷ ws) (channel_words channels)

process_words : (processes : List ProcessText) → map form_words (parts_forms (map DeclaresProcess processes)) ≡ flat_map process_lines processes
process_words [] = refl
process_words (process ∷ processes) =
    both_words (part_forms (DeclaresProcess process)) (parts_forms (map DeclaresProcess processes)) (process_lines process) (flat_map process_lines processes)
    (ap (λ (ws : List Words). process_line process.name process.at ∷ ws) (both_words (block_forms process.body) (forms.End ∷ []) (block_lines process.body) (end_line ∷ []) (block_words process.body) refl)) (process_words processes)

-- the lines of the canonical text behind the first two
abbrev part_lines : Net → List Words
part_lines net = map (port_line (codes "input")) net.inputs ++ map (port_line (codes "output")) net.outputs ++ map channel_line net.channels ++ flat_map process_lines net.processes

parts_words : (net : Net) → map form_words (parts_forms (parts_of net)) ≡ part_lines net
parts_words net =
    let ins = map DeclaresInput net.inputs in
    let outs = map DeclaresOutput net.outputs in
    let chans = map DeclaresChannel net.channels in
    let procs = map DeclaresProcess net.processes in
    let one = map (port_line (codes "input")) net.inputs in
    let two = map (port_line (codes "output")) net.outputs in
    let three = map channel_line net.channels in
    let four = flat_map process_lines net.processes in
    ap (map form_words) (parts_both ins (outs ++ (chans ++ procs)) ∙ ap (λ (fs : List LineForm). parts_forms ins ++ fs) (parts_both outs (chans ++ procs) ∙ ap (λ (fs : List LineForm). parts_forms outs ++ fs) (parts_both chans procs)))
    ∙ both_words (parts_forms ins) (parts_forms outs ++ (parts_forms chans ++ parts_forms procs)) one (two ++ (three ++ four)) (input_words net.inputs)
    (both_words (parts_forms outs) (parts_forms chans ++ parts_forms procs) two (three ++ four) (output_words net.outputs) (both_words (parts_forms chans) (parts_forms procs) three four (channel_words net.channels) (process_words net.processes)))
    ∙ sym (append_assoc one two (three ++ four)) ∙ sym (append_assoc (one ++ two) three four)

-- what the lines of the canonical text say
abbrev pub net_forms : Net → List LineForm
net_forms net = forms.Version ∷ forms.TilesLine net.tiles ∷ parts_forms (parts_of net)

net_words : (net : Net) → net.version ≡ 1 → map form_words (net_forms net) ≡ net_lines net
net_words net version = ap (λ (ws : List Words). version_line 1 ∷ tiles_line net.tiles ∷ ws) (parts_words net) ∙ ap (λ (v : ℕ). version_line v ∷ tiles_line net.tiles ∷ part_lines net) (sym version)

-- ---- there are no more of them than there were

filled : (n : ℕ) (st : Statement Name) (rest : Block Name) → Then n st rest ≡ Empty → ⊥
filled n st rest e = absurd cc

mutual
  block_short : (block : Block Name) (depth : ℕ) (lines : List Line) → IsBlock depth block lines → length (block_forms block) ≤ length lines
  block_short Empty depth lines is = omega arith
  block_short (Then number statement rest) depth lines is =
      let one = statement_short statement depth number is.0 is.3 in
      let more = block_short rest depth is.1 is.4 in
      omega (arith, one, more, length-append (first_form statement ∷ inner_forms statement) (block_forms rest), ap length is.2, length-append is.0 is.1)

  statement_short : (statement : Statement Name) (depth number : ℕ) (lines : List Line) → IsStatement depth number statement lines → length (first_form statement ∷ inner_forms statement) ≤ length lines
  statement_short (While var test body) depth number lines is =
      let inner = block_short body is.0 is.1 is.5 in
      omega (arith, inner, length-append (block_forms body) (forms.End ∷ []), ap length is.4, length-append is.1 (line is.2 forms.End ∷ []))
  statement_short (Count var body) depth number lines is =
      let inner = block_short body is.0 is.1 is.5 in
      omega (arith, inner, length-append (block_forms body) (forms.End ∷ []), ap length is.4, length-append is.1 (line is.2 forms.End ∷ []))
  statement_short (If var test first Empty) depth number lines is =
      let inner = block_short first is.0 is.1 is.6 in
      omega (arith, inner, length-append (block_forms first) (forms.End ∷ []), ap length is.5, length-append is.1 (is.2 ++ line is.3 forms.End ∷ []), length-append is.2 (line is.3 forms.End ∷ []))
  statement_short (If var test first (Then n st rest)) depth number lines is = elim is.7 [
    | inl none ↦ absurd (filled n st rest none.1)
    | inr other ↦
        let inner = block_short first is.0 is.1 is.6 in
        let second = block_short (Then n st rest) is.0 other.1 other.3 in
        omega (
          arith,
          inner,
          second,
          length-append (block_forms first) (else_forms (Then n st rest) ++ forms.End ∷ []),
          length-append (else_forms (Then n st rest)) (forms.End ∷ []),
          ap length is.5,
          length-append is.1 (is.2 ++ line is.3 forms.End ∷ []),
          length-append is.2 (line is.3 forms.End ∷ []),
          ap length other.2,
        )
  ]
  statement_short (Get read var) depth number lines is = omega (arith, ap length is)
  statement_short (GetAdd read var) depth number lines is = omega (arith, ap length is)
  statement_short (GetSub read var) depth number lines is = omega (arith, ap length is)
  statement_short (Put name var) depth number lines is = omega (arith, ap length is)
  statement_short (PutNumber name k) depth number lines is = omega (arith, ap length is)
  statement_short (Move read name) depth number lines is = omega (arith, ap length is)
  statement_short (Set var k) depth number lines is = omega (arith, ap length is)
  statement_short (Add var k) depth number lines is = omega (arith, ap length is)
  statement_short (Sub var k) depth number lines is = omega (arith, ap length is)
  statement_short (Neg var) depth number lines is = omega (arith, ap length is)
  statement_short (Double var) depth number lines is = omega (arith, ap length is)
  statement_short (Copy to from) depth number lines is = omega (arith, ap length is)
  statement_short Swap depth number lines is = omega (arith, ap length is)

part_short : (depth : ℕ) (part : Declaration) (lines : List Line) → IsDeclaration depth part lines → length (part_forms part) ≤ length lines
part_short depth (DeclaresInput port) lines is = omega (arith, ap length is)
part_short depth (DeclaresOutput port) lines is = omega (arith, ap length is)
part_short depth (DeclaresChannel channel) lines is = omega (arith, ap length is)
part_short depth (DeclaresProcess process) lines is =
    let inner = block_short process.body depth is.0 is.3 in
    omega (arith, inner, length-append (block_forms process.body) (forms.End ∷ []), ap length is.2, length-append is.0 (line is.1 forms.End ∷ []))

-- how many lines these parts have
abbrev line_count : List Declaration → ℕ
line_count parts = length (parts_forms parts)

count_both : (first others : List Declaration) → line_count (first ++ others) ≡ line_count first + line_count others
count_both first others = ap length (parts_both first others) ∙ length-append (parts_forms first) (parts_forms others)

-- how many lines the parts of a network have
abbrev net_count : Net → ℕ
net_count net = line_count (map DeclaresInput net.inputs) + line_count (map DeclaresOutput net.outputs) + line_count (map DeclaresChannel net.channels) + line_count (map DeclaresProcess net.processes)

counted : (net : Net) → line_count (parts_of net) ≡ net_count net
counted net =
    let ins = map DeclaresInput net.inputs in
    let outs = map DeclaresOutput net.outputs in
    let chans = map DeclaresChannel net.channels in
    let procs = map DeclaresProcess net.processes in
    omega (arith, count_both ins (outs ++ (chans ++ procs)), count_both outs (chans ++ procs), count_both chans procs)

count_more : {X : Type 0} (make : X → Declaration) (xs : List X) (x : X) → line_count (map make (xs ++ x ∷ [])) ≡ line_count (map make xs) + length (part_forms (make x))
count_more make xs x = ap line_count (map-append make xs (x ∷ [])) ∙ count_both (map make xs) (make x ∷ []) ∙ ap (λ (n : ℕ). line_count (map make xs) + n) (ap length (append-nil (part_forms (make x))))

count_once : (net : Net) (part : Declaration) → net_count (with_declaration net part) ≡ net_count net + length (part_forms part)
count_once net (DeclaresInput port) = omega (arith, count_more DeclaresInput net.inputs port)
count_once net (DeclaresOutput port) = omega (arith, count_more DeclaresOutput net.outputs port)
count_once net (DeclaresChannel channel) = omega (arith, count_more DeclaresChannel net.channels channel)
count_once net (DeclaresProcess process) = omega (arith, count_more DeclaresProcess net.processes process)

parts_short : (depth : ℕ) (parts : List Declaration) (lines : List Line) → AreDeclarations depth parts lines → (net : Net) → net_count (with_declarations net parts) ≤ net_count net + length lines
parts_short depth [] lines are net = omega arith
parts_short depth (part ∷ parts) lines are net =
    let more = parts_short depth parts are.1 are.4 (with_declaration net part) in
    let one = part_short depth part are.0 are.3 in
    omega (arith, more, one, count_once net part, ap length are.2, length-append are.0 are.1)

-- ---- no line past the last one that may say something is in a network

wrong_now : (net : Net) (open_process : Option OpenProcess) (number : ℕ) (after : Configuration) → after_line net open_process number forms.Malformed ≡ Ok after → ⊥
wrong_now net None number after e = absurd (read_not after _ e)
wrong_now net (Some opened) number after e = absurd (read_not after _ e)

never_read : (before more : List Line) (number : ℕ) (sofar reached : Configuration) → after_lines sofar (before ++ line number forms.Malformed ∷ more) ≡ Ok reached → ⊥
unfolding after_lines and_then
never_read [] more number sofar reached e = by (after_line sofar.net sofar.open_process number forms.Malformed) refl e
  where
    by : (read : Result Configuration NetRefusal) → after_line sofar.net sofar.open_process number forms.Malformed ≡ read → and_then read (λ c. after_lines c more) ≡ Ok reached → ⊥
    by (Ok c) here ok = wrong_now sofar.net sofar.open_process number c here
    by (Err r) here err = absurd (read_not reached r err)
never_read (l ∷ before) more number sofar reached e = by (λ c. never_read before more number c reached) (after_line sofar.net sofar.open_process l.number l.form) e
  where
    by : ((c : Configuration) → after_lines c (before ++ line number forms.Malformed ∷ more) ≡ Ok reached → ⊥) → (read : Result Configuration NetRefusal) → and_then read (λ c. after_lines c (before ++ line number forms.Malformed ∷ more)) ≡ Ok reached → ⊥
    by again (Ok c) ok = again c ok
    by again (Err r) err = absurd (read_not reached r err)

-- what the first and the second of these lines say, and the lines behind them
abbrev first_says : List Line → LineForm
first_says [] = forms.Malformed
first_says (l ∷ lines) = l.form

abbrev second_says : List Line → LineForm
second_says [] = forms.Malformed
second_says (l ∷ lines) = first_says lines

abbrev behind_two : List Line → List Line
behind_two (one ∷ two ∷ lines) = lines
behind_two lines = []

no_version : forms.Malformed ≡ forms.Version → ⊥
no_version e = absurd cc

no_tiles : (tiles : Tiles) → forms.Malformed ≡ forms.TilesLine tiles → ⊥
no_tiles tiles e = absurd cc

none_is_wrong : (before more : List Line) (number : ℕ) (net : Net) → IsNet (before ++ line number forms.Malformed ∷ more) net → ⊥
none_is_wrong [] more number net is = no_version (ap first_says is.5)
none_is_wrong (one ∷ []) more number net is = no_tiles is.2 (ap second_says is.5)
none_is_wrong (one ∷ two ∷ before) more number net is =
    never_read before more number (between (bare_net is.2)) _ (ap (after_lines (between (bare_net is.2))) (ap behind_two is.5) ∙ declarations_are is.3 is.4 is.6 (bare_net is.2))

-- so a network has no more lines than may say something
within_limit : (most : ℕ) (filled : List NonBlank) (net : Net) → IsNet (lines_up_to most filled) net → length (lines_up_to most filled) ≤ most
unfolding lines_up_to
within_limit most filled net is = by (drop most filled) refl
  where
    by : (past : List NonBlank) → drop most filled ≡ past → length (map line_of (take most filled) ++ map line_past (drop most filled)) ≤ most
    by [] e =
        let whole = ap (λ (l : List NonBlank). length (map line_of (take most filled) ++ map line_past l)) e in
        omega (arith, whole, length-append (map line_of (take most filled)) [], length-map (take most filled) line_of, length-take most filled)
    by (x ∷ xs) e = absurd (none_is_wrong (map line_of (take most filled)) (map line_past xs) x.number net (subst (λ (l : List NonBlank). IsNet (map line_of (take most filled) ++ map line_past l) net) e is))

-- where no line is past the limit, each says what its words say
all_within : (most : ℕ) (filled : List NonBlank) → length filled ≤ most → lines_up_to most filled ≡ map line_of filled
unfolding lines_up_to
all_within most filled few =
    ap (λ (l : List NonBlank). map line_of l ++ map line_past (drop most filled)) (take_all most filled few)
    ∙ ap (λ (l : List NonBlank). map line_of filled ++ map line_past l) (drop_all most filled few) ∙ append-nil (map line_of filled)

-- ---- the canonical text is read

lines_say : (number : ℕ) (said : List LineForm) → AllSaid said → map form_of_line (map line_of (numbered number (map form_words said))) ≡ said
lines_say number [] all = refl
lines_say number (form ∷ said) all =
    ap (λ (f : LineForm). f ∷ map form_of_line (map line_of (numbered (number + 1) (map form_words said)))) (form_read form all.1) ∙ ap (λ (fs : List LineForm). form ∷ fs) (lines_say (number + 1) said all.2)

all_filled : (said : List LineForm) → AllSaid said → list_all is_filled_line (map form_words said) ≡ true
all_filled [] all = refl
all_filled (form ∷ said) all = and_from (is_filled_line (form_words form)) (list_all is_filled_line (map form_words said)) (form_filled form all.0 all.1) (all_filled said all.2)

numbered_count : (number : ℕ) (said : List LineForm) → length (numbered number (map form_words said)) ≡ length said
numbered_count number [] = refl
numbered_count number (form ∷ said) = ap (λ (n : ℕ). suc n) (numbered_count (number + 1) said)

-- the lines of the canonical text
lines_written : (most : ℕ) (net : Net) → net.version ≡ 1 → AllSaid (net_forms net) → length (net_forms net) ≤ most → lines_up_to most (non_blank_lines BehindHash (net_text net)) ≡ map line_of (numbered 1 (map form_words (net_forms net)))
lines_written most net version said few =
    let words = net_words net version in
    let filled : list_all is_filled_line (net_lines net) ≡ true = subst (λ (ws : List Words). list_all is_filled_line ws ≡ true) words (all_filled (net_forms net) said) in
    let read : non_blank_lines BehindHash (net_text net) ≡ numbered 1 (map form_words (net_forms net)) = text_read BehindHash (net_lines net) filled ∙ ap (numbered 1) (sym words) in
    ap (lines_up_to most) read ∙ all_within most (numbered 1 (map form_words (net_forms net))) (subst (λ (n : ℕ). n ≤ most) (sym (numbered_count 1 (net_forms net))) few)

-- the network that these lines are
pub record IsAgain (lines : List Line) (net : Net) : Type 0 where
  pub again : Net
  pub is : IsNet lines again
  pub same : net_without_lines again ≡ net_without_lines net

again_is : (net : Net) → net.version ≡ 1 → AreParts 16 (parts_of net) → AllSaid (net_forms net) → IsAgain (map line_of (numbered 1 (map form_words (net_forms net)))) net
again_is net version are said =
    let tiles = net.tiles in
    let written = map line_of (numbered (1 + 1 + 1) (map form_words (parts_forms (parts_of net)))) in
    let parts = parts_again 16 (parts_of net) are written (lines_say (1 + 1 + 1) (parts_forms (parts_of net)) said.2.2) in
    record {
      again = with_declarations (bare_net tiles) parts.again;
      is = (
        1,
        1 + 1,
        tiles,
        parts.again,
        written,
        ap (λ (f : LineForm). line 1 f ∷ (line (1 + 1) (form_of (form_words (forms.TilesLine tiles))) ∷ written)) (form_read forms.Version tt) ∙ ap (λ (f : LineForm). line 1 forms.Version ∷ (line (1 + 1) f ∷ written)) (form_read (forms.TilesLine tiles) said.2.1),
        parts.are,
        refl,
      );
      same =
          bare_parts (bare_net tiles) parts.again
          ∙ ap (with_declarations (bare_net tiles)) parts.same
          ∙ sym (bare_parts (bare_net tiles) (parts_of net))
          ∙ ap net_without_lines (parts_make tiles net version refl);
    }

-- the same for the network that these parts make
from_parts : (most : ℕ) (tiles : Tiles) (parts : List Declaration) (others : List Line) → AreDeclarations 16 parts others → AreRows tiles → ArePlain others → suc (suc (length others)) ≤ most
    → IsAgain (lines_up_to most (non_blank_lines BehindHash (net_text (with_declarations (bare_net tiles) parts)))) (with_declarations (bare_net tiles) parts)
from_parts most tiles parts others are rows plain few =
    let net = with_declarations (bare_net tiles) parts in
    let stays = kept (bare_net tiles) parts in
    let all = parts_are 16 tiles parts others are plain in
    let said : AllSaid (net_forms net) = (tt, tt, (tt, subst AreRows (sym stays.1) rows, parts_said 16 (parts_of net) all)) in
    let short : length (net_forms net) ≤ most = omega (arith, counted net, parts_short 16 parts others are (bare_net tiles), few) in
    subst (λ (lines : List Line). IsAgain lines net) (sym (lines_written most net stays.0 said short)) (again_is net stays.0 all said)

-- what is written is read again
pub written_is_read : (text : List ℕ) (net : Net) → net_of text ≡ Ok net → (again : Net) × (net_of (net_text net) ≡ Ok again) × (net_without_lines again ≡ net_without_lines net)
unfolding lines_of
written_is_read text net e =
    let is = read_is_derived text net e in
    let plain = subst ArePlain is.5 (lines_are_plain text) in
    let few = within_limit 65535 (non_blank_lines BehindHash text) net is in
    let a = from_parts 65535 is.2 is.3 is.4 is.6 plain.1.0 plain.1.1 (subst (λ (lines : List Line). length lines ≤ 65535) is.5 few) in
    let made = with_declarations (bare_net is.2) is.3 in
    (a.again, ap (λ (n : Net). net_of (net_text n)) is.7 ∙ derived_is_read (net_text made) a.again a.is, a.same ∙ ap net_without_lines (sym is.7))
