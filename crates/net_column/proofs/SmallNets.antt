-- A network that a text gives has fewer names, processes and statements than the text may have lines.
use Rattle.std.proofs.Common.{◌≡◌, ℕ, zero, suc, ◌+◌, ◌≤◌, List, [], ◌∷◌, ◌++◌, map, length, take, drop, refl, ap, arith, inl, inr}
use Rattle.std.proofs.lemmas.List.{length-append}
use Rattle.std.proofs.lemmas.List.Sums.{sum_by-append, sum_by-cons}
use Rattle.tis_words.specs.Lines.{NonBlank, non_blank_lines}
use Rattle.tis_words.specs.declared.comments.Comments.TheVariants.{BehindHash}
use Rattle.net_tree.specs.Tree.{Name, Statement, Get, GetAdd, GetSub, Put, PutNumber, Move, Set, Add, Sub, Neg, Double, Copy, Swap, If, While, Count, Block, Empty, Then, ProcessText, Net}
use Rattle.net_syntax.specs.Forms as forms
use Rattle.net_syntax.specs.Forms.{LineForm, Line, line_of, line_past, lines_up_to, lines_of}
use Rattle.net_syntax.specs.Grammar.{line, IsBlock, IsStatement, Declaration, DeclaresInput, DeclaresOutput, DeclaresChannel, DeclaresProcess, IsDeclaration, AreDeclarations, bare_net, with_declaration, with_declarations, IsNet}
use Rattle.net_rules.specs.Sizes.{statements_in, statements_inside, statement_count}
use Rattle.net_rules.specs.CheckedNet.{IsSmallNet}

-- ---- lines that say something

abbrev weight : LineForm → ℕ
weight forms.Malformed = 0
weight _ = 1

weight_few : (form : LineForm) → weight form ≤ 1
weight_few forms.Version = omega arith
weight_few (forms.TilesLine tiles) = omega arith
weight_few (forms.Input name position via) = omega arith
weight_few (forms.Output name position via) = omega arith
weight_few (forms.Channel name via) = omega arith
weight_few (forms.Process name at) = omega arith
weight_few (forms.Simple statement) = omega arith
weight_few (forms.OpensIf var test) = omega arith
weight_few (forms.OpensWhile var test) = omega arith
weight_few (forms.OpensCount var) = omega arith
weight_few forms.Else = omega arith
weight_few forms.End = omega arith
weight_few forms.Malformed = omega arith

abbrev weights : List Line → ℕ
weights [] = 0
weights (l ∷ lines) = weight l.form + weights lines

weights_both : (one other : List Line) → weights (one ++ other) ≡ weights one + weights other
weights_both [] other = omega arith
weights_both (l ∷ one) other = omega (arith, weights_both one other)

-- ---- statements

-- the line that ends a block
abbrev ending : ℕ → List Line
ending number = line number forms.End ∷ []

mutual
  block_weighs : (depth : ℕ) (block : Block Name) (lines : List Line) → IsBlock depth block lines → statements_in block ≤ weights lines
  block_weighs depth Empty lines is = omega arith
  block_weighs depth (Then number statement rest) lines (first, others, is, one, more) =
      omega (arith, ap weights is, weights_both first others, statement_weighs depth number statement first one, block_weighs depth rest others more)

  statement_weighs : (depth number : ℕ) (statement : Statement Name) (lines : List Line) → IsStatement depth number statement lines → 1 + statements_inside statement ≤ weights lines
  statement_weighs depth number (Get read var) lines is = omega (arith, ap weights is)
  statement_weighs depth number (GetAdd read var) lines is = omega (arith, ap weights is)
  statement_weighs depth number (GetSub read var) lines is = omega (arith, ap weights is)
  statement_weighs depth number (Put written var) lines is = omega (arith, ap weights is)
  statement_weighs depth number (PutNumber written value) lines is = omega (arith, ap weights is)
  statement_weighs depth number (Move read written) lines is = omega (arith, ap weights is)
  statement_weighs depth number (Set var value) lines is = omega (arith, ap weights is)
  statement_weighs depth number (Add var value) lines is = omega (arith, ap weights is)
  statement_weighs depth number (Sub var value) lines is = omega (arith, ap weights is)
  statement_weighs depth number (Neg var) lines is = omega (arith, ap weights is)
  statement_weighs depth number (Double var) lines is = omega (arith, ap weights is)
  statement_weighs depth number (Copy to from) lines is = omega (arith, ap weights is)
  statement_weighs depth number Swap lines is = omega (arith, ap weights is)
  statement_weighs depth number (While var test body) lines (deeper, inner, end, below, is, inside) =
      omega (arith, ap weights is, weights_both inner (ending end), block_weighs deeper body inner inside)
  statement_weighs depth number (Count var body) lines (deeper, inner, end, below, is, inside) =
      omega (arith, ap weights is, weights_both inner (ending end), block_weighs deeper body inner inside)
  statement_weighs depth number (If var test first second) lines (deeper, inner, behind, end, below, is, inside, other) =
      let few : statements_in second ≤ weights behind = elim other [
        | inl none ↦ omega (arith, ap (λ (b : Block Name). statements_in b) none.1)
        | inr more ↦ omega (arith, ap weights more.2, block_weighs deeper second more.1 more.3)
      ] in
      omega (arith, ap weights is, weights_both inner (behind ++ ending end), weights_both behind (ending end), block_weighs deeper first inner inside, few)

-- ---- declarations

-- the names, processes and statements of a network
abbrev size : Net → ℕ
size net = length net.inputs + length net.channels + length net.outputs + length net.processes + statement_count net

abbrev part_size : Declaration → ℕ
part_size (DeclaresProcess process) = 1 + statements_in process.body
part_size (DeclaresInput port) = 1
part_size (DeclaresOutput port) = 1
part_size (DeclaresChannel channel) = 1

part_weighs : (depth : ℕ) (part : Declaration) (lines : List Line) → IsDeclaration depth part lines → part_size part ≤ weights lines
part_weighs depth (DeclaresInput port) lines is = omega (arith, ap weights is)
part_weighs depth (DeclaresOutput port) lines is = omega (arith, ap weights is)
part_weighs depth (DeclaresChannel channel) lines is = omega (arith, ap weights is)
part_weighs depth (DeclaresProcess process) lines (inner, end, is, inside) = omega (arith, ap weights is, weights_both inner (ending end), block_weighs depth process.body inner inside)

size_grows : (net : Net) (part : Declaration) → size (with_declaration net part) ≡ size net + part_size part
size_grows net (DeclaresInput port) = omega (arith, length-append net.inputs (port ∷ []))
size_grows net (DeclaresOutput port) = omega (arith, length-append net.outputs (port ∷ []))
size_grows net (DeclaresChannel channel) = omega (arith, length-append net.channels (channel ∷ []))
size_grows net (DeclaresProcess process) =
    let f : ProcessText → ℕ = λ p. statements_in p.body in
    omega (arith, length-append net.processes (process ∷ []), sum_by-append f net.processes (process ∷ []), sum_by-cons f process [])

parts_weigh : (depth : ℕ) (parts : List Declaration) (lines : List Line) (net : Net) → AreDeclarations depth parts lines → size (with_declarations net parts) ≤ size net + weights lines
parts_weigh depth [] lines net is = omega arith
parts_weigh depth (part ∷ parts) lines net (first, others, is, one, more) =
    omega (arith, ap weights is, weights_both first others, part_weighs depth part first one, size_grows net part, parts_weigh depth parts others (with_declaration net part) more)

net_weighs : (lines : List Line) (net : Net) → IsNet lines net → size net ≤ weights lines
net_weighs lines net (first, second, tiles, parts, others, is, are, same) = omega (arith, ap weights is, ap size same, parts_weigh 16 parts others (bare_net tiles) are)

-- ---- the lines of a text

weights_of : (filled : List NonBlank) → weights (map line_of filled) ≤ length filled
weights_of [] = omega arith
weights_of (first ∷ filled) = omega (arith, weight_few (line_of first).form, weights_of filled)

weights_past : (filled : List NonBlank) → weights (map line_past filled) ≡ 0
weights_past [] = refl
weights_past (first ∷ filled) = omega (arith, weights_past filled)

taken_few : {X : Type 0} (most : ℕ) (xs : List X) → length (take most xs) ≤ most
taken_few zero xs = omega arith
taken_few (suc most) [] = omega arith
taken_few (suc most) (x ∷ xs) = omega (arith, taken_few most xs)

weights_within : (most : ℕ) (filled : List NonBlank) → weights (lines_up_to most filled) ≤ most
unfolding lines_up_to
weights_within most filled =
    omega (arith, weights_both (map line_of (take most filled)) (map line_past (drop most filled)), weights_of (take most filled), weights_past (drop most filled), taken_few most filled)

-- ---- all of a text

-- a network that a text is by the grammar is small
pub nets_are_small : (text : List ℕ) (net : Net) → IsNet (lines_of text) net → IsSmallNet net
unfolding lines_of
nets_are_small text net is =
    let few = net_weighs (lines_up_to 65535 (non_blank_lines BehindHash text)) net is in
    let within = weights_within 65535 (non_blank_lines BehindHash text) in
    record { names = omega (arith, few, within); processes = omega (arith, few, within); statements = omega (arith, few, within) }
