use Rattle.std.proofs.Common.{◌≡◌, ℕ, ◌+◌, ◌<◌, ◌≤◌, List, length, take, get_or, true, false, inl, inr, ap, ◌∙◌, arith, cond}
use Rattle.std.specs.Prelude.{nat_lt}
use Rattle.tis_asm.specs.declared.program.MarkedInstr.{MarkedInstr}
use Rattle.std.proofs.lemmas.Bool.{cases_lt, lt-ltb, le-ltb, cond-true, cond-false}
use Rattle.std.proofs.lemmas.List.Sums.{sum_by_more, count_by_more_yes, count_by_more_no}
use Rattle.std.proofs.lemmas.Option.{get_or_from_slice_get, slice_get_within}
use Rattle.tis_grade.specs.Counts.{has_some, node_count}
use Rattle.tis_grade.proofs.size.counts.Goals as goal

-- one program more
one_node : (programs : List (List MarkedInstr)) (index nodes : ℕ) (program : List MarkedInstr) → index < length programs → get_or programs index program ≡ program → nodes ≡ node_count (take index programs) → nodes + cond {A = ℕ} (nat_lt 0 (length program)) 1 0 ≡ node_count (take (index + 1) programs)
one_node programs index nodes program within is so_far =
    let test : has_some (get_or programs index program) ≡ nat_lt 0 (length program) = ap (λ (p : List MarkedInstr). has_some p) is in
    elim (cases_lt 0 (length program)) [
      | inl some ↦
          let yes = lt-ltb 0 (length program) some in
          let here = cond-true {A = ℕ} (nat_lt 0 (length program)) 1 0 yes in
          let more = count_by_more_yes has_some programs index program within (test ∙ yes) in
          omega (arith, here, more, so_far)
      | inr none ↦
          let no = le-ltb 0 (length program) none in
          let here = cond-false {A = ℕ} (nat_lt 0 (length program)) 1 0 no in
          let more = count_by_more_no has_some programs index program within (test ∙ no) in
          omega (arith, here, more, so_far)
    ]

pub loop-number-preserved : goal.loop-number-preserved
loop-number-preserved c =
    let programs = c.args.programs.now.programs in
    let index = c.loop-number.number in
    let program = c.of.result.now in
    let within : index < length programs = slice_get_within programs index program c.of.ensures in
    let is : get_or programs index program ≡ program = get_or_from_slice_get programs index program program c.of.ensures in
    let len = c.len-len.ensures.len in
    let fits = c.len-len.type_inv in
    let added = c.with_node-nodes.ensures in
    let from = c.from-instructions.ensures in
    let nodes : c.with_node-nodes.result ≡ c.loop-number.nodes + cond {A = ℕ} (nat_lt 0 (length program)) 1 0 = added ∙ ap (λ (n : ℕ). c.loop-number.nodes + cond {A = ℕ} (nat_lt 0 n) 1 0) len in
    let one : cond {A = ℕ} (nat_lt 0 (length program)) 1 0 ≤ 1 = elim (nat_lt 0 (length program)) as (λ b. cond {A = ℕ} b 1 0 ≤ 1) [ true ↦ omega arith | false ↦ omega arith ] in
    let more = sum_by_more (λ (p : List MarkedInstr). length p) programs index program within in
    let same = ap (λ (p : List MarkedInstr). length p) is in
    let so_far = c.loop-number.invariant.instructions in
    let few = c.loop-number.invariant.few in
    let less = c.loop-number.invariant.less in
    record {
      nodes = nodes ∙ one_node programs index c.loop-number.nodes program within is c.loop-number.invariant.nodes;
      instructions = omega (arith, more, same, so_far, from, len);
      few = omega (arith, nodes, one, few);
      less = omega (arith, less, from, fits);
    }
