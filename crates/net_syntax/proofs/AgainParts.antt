-- The parts of a network in the order of the canonical text are parts that lines say, and make the same network.
use Rattle.std.proofs.Common.{◌≡◌, ℕ, inl, inr, List, [], ◌∷◌, ◌++◌, map, refl, sym, ap, subst, ◌∙◌, append_assoc, append-nil}
use Rattle.std.proofs.lemmas.List.{map-append}
use Rattle.tis_base.specs.Tiles.{Tiles}
use Rattle.net_tree.specs.Tree.{Name, Statement, Get, GetAdd, GetSub, Put, PutNumber, Move, Set, Add, Sub, Neg, Double, Copy, Swap, If, While, Count, Block, Empty, Then, PortLine, ChannelLine, ProcessText, Net, port_without_line, channel_without_line, process_without_lines, net_without_lines}
use Rattle.net_syntax.specs.Forms as forms
use Rattle.net_syntax.specs.Forms.{LineForm, Line}
use Rattle.net_syntax.specs.Grammar.{line, IsBlock, IsStatement, Declaration, DeclaresInput, DeclaresOutput, DeclaresChannel, DeclaresProcess, IsDeclaration, AreDeclarations, bare_net, with_declaration, with_declarations}
use Rattle.net_syntax.proofs.Plain.{IsPlainForm, ArePlain}
use Rattle.net_syntax.proofs.Spoken.{IsGood}
use Rattle.net_syntax.proofs.Again.{first_form, block_forms, inner_forms, else_forms, part_forms, parts_forms, without_lines, AreParts}

-- the parts of a network, in the order of the canonical text
abbrev pub parts_of : Net → List Declaration
parts_of net = map DeclaresInput net.inputs ++ (map DeclaresOutput net.outputs ++ (map DeclaresChannel net.channels ++ map DeclaresProcess net.processes))

-- ---- they make the network

with_both : (net : Net) (first others : List Declaration) → with_declarations net (first ++ others) ≡ with_declarations (with_declarations net first) others
with_both net [] others = refl
with_both net (part ∷ first) others = with_both (with_declaration net part) first others

with_inputs : (net : Net) (ports : List PortLine) → with_declarations net (map DeclaresInput ports) ≡ record net { inputs = net.inputs ++ ports }
with_inputs net [] = ap (λ (ports : List PortLine). record net { inputs = ports }) (sym (append-nil net.inputs))
with_inputs net (port ∷ ports) = with_inputs (with_declaration net (DeclaresInput port)) ports ∙ ap (λ (all : List PortLine). record net { inputs = all }) (append_assoc net.inputs (port ∷ []) ports)

with_outputs : (net : Net) (ports : List PortLine) → with_declarations net (map DeclaresOutput ports) ≡ record net { outputs = net.outputs ++ ports }
with_outputs net [] = ap (λ (ports : List PortLine). record net { outputs = ports }) (sym (append-nil net.outputs))
with_outputs net (port ∷ ports) = with_outputs (with_declaration net (DeclaresOutput port)) ports ∙ ap (λ (all : List PortLine). record net { outputs = all }) (append_assoc net.outputs (port ∷ []) ports)

with_channels : (net : Net) (channels : List ChannelLine) → with_declarations net (map DeclaresChannel channels) ≡ record net { channels = net.channels ++ channels }
with_channels net [] = ap (λ (channels : List ChannelLine). record net { channels = channels }) (sym (append-nil net.channels))
with_channels net (channel ∷ channels) = with_channels (with_declaration net (DeclaresChannel channel)) channels ∙ ap (λ (all : List ChannelLine). record net { channels = all }) (append_assoc net.channels (channel ∷ []) channels)

with_processes : (net : Net) (processes : List ProcessText) → with_declarations net (map DeclaresProcess processes) ≡ record net { processes = net.processes ++ processes }
with_processes net [] = ap (λ (processes : List ProcessText). record net { processes = processes }) (sym (append-nil net.processes))
with_processes net (process ∷ processes) = with_processes (with_declaration net (DeclaresProcess process)) processes ∙ ap (λ (all : List ProcessText). record net { processes = all }) (append_assoc net.processes (process ∷ []) processes)

-- from nothing, they make the network that has these lists
pub parts_make : (tiles : Tiles) (net : Net) → net.version ≡ 1 → net.tiles ≡ tiles → with_declarations (bare_net tiles) (parts_of net) ≡ net
parts_make tiles net version same =
    let none = bare_net tiles in
    let ins = record none { inputs = net.inputs } in
    let outs = record ins { outputs = net.outputs } in
    let chans = record outs { channels = net.channels } in
    with_both none (map DeclaresInput net.inputs) (map DeclaresOutput net.outputs ++ (map DeclaresChannel net.channels ++ map DeclaresProcess net.processes))
    ∙ ap (λ (n : Net). with_declarations n (map DeclaresOutput net.outputs ++ (map DeclaresChannel net.channels ++ map DeclaresProcess net.processes))) (with_inputs none net.inputs)
    ∙ with_both ins (map DeclaresOutput net.outputs) (map DeclaresChannel net.channels ++ map DeclaresProcess net.processes)
    ∙ ap (λ (n : Net). with_declarations n (map DeclaresChannel net.channels ++ map DeclaresProcess net.processes)) (with_outputs ins net.outputs)
    ∙ with_both outs (map DeclaresChannel net.channels) (map DeclaresProcess net.processes)
    ∙ ap (λ (n : Net). with_declarations n (map DeclaresProcess net.processes)) (with_channels outs net.channels)
    ∙ with_processes chans net.processes
    ∙ ap (λ (v : ℕ). record net { version = v; tiles = tiles }) (sym version)
    ∙ ap (λ (t : Tiles). record net { tiles = t }) (sym same)

-- the version and the tiles stay
kept_once : (net : Net) (part : Declaration) → ((with_declaration net part).version ≡ net.version) × ((with_declaration net part).tiles ≡ net.tiles)
kept_once net (DeclaresInput port) = (refl, refl)
kept_once net (DeclaresOutput port) = (refl, refl)
kept_once net (DeclaresChannel channel) = (refl, refl)
kept_once net (DeclaresProcess process) = (refl, refl)

pub kept : (net : Net) (parts : List Declaration) → ((with_declarations net parts).version ≡ net.version) × ((with_declarations net parts).tiles ≡ net.tiles)
kept net [] = (refl, refl)
kept net (part ∷ parts) = let more = kept (with_declaration net part) parts in let one = kept_once net part in (more.0 ∙ one.0, more.1 ∙ one.1)

-- ---- without line numbers

bare_once : (net : Net) (part : Declaration) → net_without_lines (with_declaration net part) ≡ with_declaration (net_without_lines net) (without_lines part)
bare_once net (DeclaresInput port) = ap (λ (ports : List PortLine). record (net_without_lines net) { inputs = ports }) (map-append port_without_line net.inputs (port ∷ []))
bare_once net (DeclaresOutput port) = ap (λ (ports : List PortLine). record (net_without_lines net) { outputs = ports }) (map-append port_without_line net.outputs (port ∷ []))
bare_once net (DeclaresChannel channel) = ap (λ (channels : List ChannelLine). record (net_without_lines net) { channels = channels }) (map-append channel_without_line net.channels (channel ∷ []))
bare_once net (DeclaresProcess process) = ap (λ (processes : List ProcessText). record (net_without_lines net) { processes = processes }) (map-append process_without_lines net.processes (process ∷ []))

pub bare_parts : (net : Net) (parts : List Declaration) → net_without_lines (with_declarations net parts) ≡ with_declarations (net_without_lines net) (map without_lines parts)
bare_parts net [] = refl
bare_parts net (part ∷ parts) = bare_parts (with_declaration net part) parts ∙ ap (λ (n : Net). with_declarations n (map without_lines parts)) (bare_once net part)

-- ---- each of them is some lines

plain_front : (first others : List Line) → ArePlain (first ++ others) → ArePlain first
plain_front [] others plain = tt
plain_front (l ∷ first) others plain = (plain.0, plain_front first others plain.1)

plain_back : (first others : List Line) → ArePlain (first ++ others) → ArePlain others
plain_back [] others plain = plain
plain_back (l ∷ first) others plain = plain_back first others plain.1

both_parts : (depth : ℕ) (first others : List Declaration) → AreParts depth first → AreParts depth others → AreParts depth (first ++ others)
both_parts depth [] others one two = two
both_parts depth (part ∷ first) others one two = (one.0, one.1, one.2, both_parts depth first others one.3 two)

-- each part of the network is some lines
pub record IsHeld (depth : ℕ) (net : Net) : Type 0 where
  pub inputs : AreParts depth (map DeclaresInput net.inputs)
  pub outputs : AreParts depth (map DeclaresOutput net.outputs)
  pub channels : AreParts depth (map DeclaresChannel net.channels)
  pub processes : AreParts depth (map DeclaresProcess net.processes)

one_more : {X : Type 0} (depth : ℕ) (make : X → Declaration) (xs : List X) (x : X) (lines : List Line) → AreParts depth (map make xs) → IsDeclaration depth (make x) lines → ArePlain lines → AreParts depth (map make (xs ++ x ∷ []))
one_more depth make [] x lines are is plain = (lines, is, plain, tt)
one_more depth make (y ∷ xs) x lines are is plain = (are.0, are.1, are.2, one_more depth make xs x lines are.3 is plain)

held_once : (depth : ℕ) (net : Net) (part : Declaration) (lines : List Line) → IsHeld depth net → IsDeclaration depth part lines → ArePlain lines → IsHeld depth (with_declaration net part)
held_once depth net (DeclaresInput port) lines held is plain = record { inputs = one_more depth DeclaresInput net.inputs port lines held.inputs is plain; outputs = held.outputs; channels = held.channels; processes = held.processes }
held_once depth net (DeclaresOutput port) lines held is plain = record { inputs = held.inputs; outputs = one_more depth DeclaresOutput net.outputs port lines held.outputs is plain; channels = held.channels; processes = held.processes }
held_once depth net (DeclaresChannel channel) lines held is plain = record { inputs = held.inputs; outputs = held.outputs; channels = one_more depth DeclaresChannel net.channels channel lines held.channels is plain; processes = held.processes }
held_once depth net (DeclaresProcess process) lines held is plain = record { inputs = held.inputs; outputs = held.outputs; channels = held.channels; processes = one_more depth DeclaresProcess net.processes process lines held.processes is plain }

held_all : (depth : ℕ) (parts : List Declaration) (lines : List Line) → AreDeclarations depth parts lines → ArePlain lines → (net : Net) → IsHeld depth net → IsHeld depth (with_declarations net parts)
held_all depth [] lines are plain net held = held
held_all depth (part ∷ parts) lines are plain net held =
    let all = subst ArePlain are.2 plain in
    held_all depth parts are.1 are.4 (plain_back are.0 are.1 all) (with_declaration net part) (held_once depth net part are.0 held are.3 (plain_front are.0 are.1 all))

pub parts_are : (depth : ℕ) (tiles : Tiles) (parts : List Declaration) (lines : List Line) → AreDeclarations depth parts lines → ArePlain lines → AreParts depth (parts_of (with_declarations (bare_net tiles) parts))
parts_are depth tiles parts lines are plain =
    let net = with_declarations (bare_net tiles) parts in
    let held = held_all depth parts lines are plain (bare_net tiles) (record { inputs = tt; outputs = tt; channels = tt; processes = tt }) in
    both_parts depth (map DeclaresInput net.inputs) _ held.inputs (both_parts depth (map DeclaresOutput net.outputs) _ held.outputs (both_parts depth (map DeclaresChannel net.channels) (map DeclaresProcess net.processes) held.channels held.processes))

-- ---- what they say can be written

-- something that can be written is said by each of these
abbrev pub AllSaid : List LineForm → Type 0
AllSaid [] = Unit {0}
AllSaid (form ∷ said) = IsGood form × IsPlainForm form × AllSaid said

both_said : (first others : List LineForm) → AllSaid first → AllSaid others → AllSaid (first ++ others)
both_said [] others one two = two
both_said (form ∷ first) others one two = (one.0, one.1, both_said first others one.2 two)

simple_said : (number : ℕ) (statement : Statement Name) (lines : List Line) → lines ≡ line number (forms.Simple statement) ∷ [] → ArePlain lines → AllSaid (forms.Simple statement ∷ [])
simple_said number statement lines is plain = (tt, (subst ArePlain is plain).0, tt)

filled : (n : ℕ) (st : Statement Name) (rest : Block Name) → Then n st rest ≡ Empty → ⊥
filled n st rest e = absurd cc

mutual
  block_said : (block : Block Name) (depth : ℕ) (lines : List Line) → IsBlock depth block lines → ArePlain lines → AllSaid (block_forms block)
  block_said Empty depth lines is plain = tt
  block_said (Then number statement rest) depth lines is plain =
      let all = subst ArePlain is.2 plain in
      both_said (first_form statement ∷ inner_forms statement) (block_forms rest) (statement_said statement depth number is.0 is.3 (plain_front is.0 is.1 all)) (block_said rest depth is.1 is.4 (plain_back is.0 is.1 all))

  statement_said : (statement : Statement Name) (depth number : ℕ) (lines : List Line) → IsStatement depth number statement lines → ArePlain lines → AllSaid (first_form statement ∷ inner_forms statement)
  statement_said (While var test body) depth number lines is plain =
      let all = subst ArePlain is.4 plain in
      (tt, tt, both_said (block_forms body) (forms.End ∷ []) (block_said body is.0 is.1 is.5 (plain_front is.1 (line is.2 forms.End ∷ []) all.1)) (tt, tt, tt))
  statement_said (Count var body) depth number lines is plain =
      let all = subst ArePlain is.4 plain in
      (tt, tt, both_said (block_forms body) (forms.End ∷ []) (block_said body is.0 is.1 is.5 (plain_front is.1 (line is.2 forms.End ∷ []) all.1)) (tt, tt, tt))
  statement_said (If var test first Empty) depth number lines is plain =
      let all = subst ArePlain is.5 plain in
      (tt, tt, both_said (block_forms first) (forms.End ∷ []) (block_said first is.0 is.1 is.6 (plain_front is.1 (is.2 ++ line is.3 forms.End ∷ []) all.1)) (tt, tt, tt))
  statement_said (If var test first (Then n st rest)) depth number lines is plain =
      let all = subst ArePlain is.5 plain in
      let behind = plain_front is.2 (line is.3 forms.End ∷ []) (plain_back is.1 (is.2 ++ line is.3 forms.End ∷ []) all.1) in (
        tt,
        tt,
        both_said (block_forms first) (else_forms (Then n st rest) ++ forms.End ∷ []) (block_said first is.0 is.1 is.6 (plain_front is.1 (is.2 ++ line is.3 forms.End ∷ []) all.1))
            (both_said (else_forms (Then n st rest)) (forms.End ∷ [])
            (elim is.7 [
              | inl none ↦ absurd (filled n st rest none.1)
              | inr other ↦ (tt, tt, block_said (Then n st rest) is.0 other.1 other.3 (subst ArePlain other.2 behind).1)
            ])
            (tt, tt, tt)),
      )
  statement_said (Get read var) depth number lines is plain = simple_said number (Get read var) lines is plain
  statement_said (GetAdd read var) depth number lines is plain = simple_said number (GetAdd read var) lines is plain
  statement_said (GetSub read var) depth number lines is plain = simple_said number (GetSub read var) lines is plain
  statement_said (Put name var) depth number lines is plain = simple_said number (Put name var) lines is plain
  statement_said (PutNumber name k) depth number lines is plain = simple_said number (PutNumber name k) lines is plain
  statement_said (Move read name) depth number lines is plain = simple_said number (Move read name) lines is plain
  statement_said (Set var k) depth number lines is plain = simple_said number (Set var k) lines is plain
  statement_said (Add var k) depth number lines is plain = simple_said number (Add var k) lines is plain
  statement_said (Sub var k) depth number lines is plain = simple_said number (Sub var k) lines is plain
  statement_said (Neg var) depth number lines is plain = simple_said number (Neg var) lines is plain
  statement_said (Double var) depth number lines is plain = simple_said number (Double var) lines is plain
  statement_said (Copy to from) depth number lines is plain = simple_said number (Copy to from) lines is plain
  statement_said Swap depth number lines is plain = simple_said number Swap lines is plain

part_said : (depth : ℕ) (part : Declaration) (lines : List Line) → IsDeclaration depth part lines → ArePlain lines → AllSaid (part_forms part)
part_said depth (DeclaresInput port) lines is plain = (tt, (subst ArePlain is plain).0, tt)
part_said depth (DeclaresOutput port) lines is plain = (tt, (subst ArePlain is plain).0, tt)
part_said depth (DeclaresChannel channel) lines is plain = (tt, (subst ArePlain is plain).0, tt)
part_said depth (DeclaresProcess process) lines is plain =
    let all = subst ArePlain is.2 plain in
    (tt, all.0, both_said (block_forms process.body) (forms.End ∷ []) (block_said process.body depth is.0 is.3 (plain_front is.0 (line is.1 forms.End ∷ []) all.1)) (tt, tt, tt))

pub parts_said : (depth : ℕ) (parts : List Declaration) → AreParts depth parts → AllSaid (parts_forms parts)
parts_said depth [] are = tt
parts_said depth (part ∷ parts) are = both_said (part_forms part) (parts_forms parts) (part_said depth part are.0 are.1 are.2) (parts_said depth parts are.3)
