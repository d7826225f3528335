use Rattle.std.proofs.Common.{◌≡◌, ◌<◌, ◌≤◌, ◌+◌, ◌*◌, ◌++◌, ℕ, ℤ, [], ◌∷◌, length, subst, ap, ◌∙◌, arith}
use Rattle.tis_asm.specs.declared.instr.Jump.TheVariants.{Always, IfPositive}
use Rattle.tis_asm.specs.declared.instr.Source.TheVariants as from
use Rattle.tis_asm.specs.declared.instr.Instr.TheVariants as instr
use Rattle.tis_asm.specs.declared.instr.Instr.TheVariants.{Swp}
use Rattle.net_tree.specs.Tree.{statements_of}
use Rattle.net_numbered.specs.View.{numbered_block, numbered_statement}
use Rattle.net_rules.specs.Sizes.{block_size, statement_size}
use Rattle.net_rules.proofs.Walks.{smaller}
use Rattle.net_select.specs.HeldPorts.{ports_of}
use Rattle.net_select.specs.Selection.{on, leaving_frame, jump_to, as_program, block_code, block_lines}
use Rattle.net_select.specs.Emission.{entering_head}
use Rattle.net_select.proofs.Lengths.{one_on, block_has}
use Rattle.net_select.proofs.Counting.{reached_some}
use Rattle.net_select.proofs.Composing.{longer, grown, walk_starts, walk_room, walk_on, walk_ends}
use Rattle.net_select.proofs.Parts.{head_length, count_is, chooses_x, chooses_y, counts}
use Rattle.net_select.proofs.selector.Selector.+selecting.Goals as goal

pub branch_on_x-emit-requires-3 : goal.branch_on_x-emit-requires-3
branch_on_x-emit-requires-3 t c =
    let one = longer _ c.emit-2.new.program (c.jump_to-2.result ∷ []) c.emit-2.ensures in
    let more = grown (ports_of c.args.self.ports.now) c.args.self.total c.emit-2.new.program c.block-2.new.program (numbered_block c.args.straight.now) c.block-2.ensures in
    let frame = reached_some (block_lines (numbered_block c.args.jumped.now)) (omega arith) in
    omega (arith, one, more, frame)

pub branch_on_x-block-requires-3 : goal.branch_on_x-block-requires-3
branch_on_x-block-requires-3 t c =
    let one = longer _ c.emit-2.new.program (c.jump_to-2.result ∷ []) c.emit-2.ensures in
    let more = grown (ports_of c.args.self.ports.now) c.args.self.total c.emit-2.new.program c.block-2.new.program (numbered_block c.args.straight.now) c.block-2.ensures in
    let other = longer _ c.emit-3.new.program (c.jump_to-3.result ∷ []) c.emit-3.ensures in
    let frame = reached_some (block_lines (numbered_block c.args.jumped.now)) (omega arith) in
    let below : 3 * block_size (numbered_block c.args.jumped.now) < 3 * (block_size (numbered_block c.args.straight.now) + block_size (numbered_block c.args.jumped.now)) + 1 = omega arith in
    (subst (λ (n : ℕ). 3 * block_size (numbered_block c.args.jumped.now) < n) c.decreases below, (omega (arith, one, more, other, frame), c.requires.short))

pub branch_on_y-block-requires-2 : goal.branch_on_y-block-requires-2
branch_on_y-block-requires-2 t c =
    let one = longer _ c.emit.new.program (Swp ∷ c.jump_to-jump_over.result ∷ Swp ∷ []) c.emit.ensures in
    let more = grown (ports_of c.args.self.ports.now) c.args.self.total c.emit.new.program c.block.new.program (numbered_block c.args.straight.now) c.block.ensures in
    let other = longer _ c.emit-2.new.program (c.jump_to-jump_behind.result ∷ Swp ∷ []) c.emit-2.ensures in
    let below : 3 * block_size (numbered_block c.args.jumped.now) < 3 * (block_size (numbered_block c.args.straight.now) + block_size (numbered_block c.args.jumped.now)) + 1 = omega arith in
    (subst (λ (n : ℕ). 3 * block_size (numbered_block c.args.jumped.now) < n) c.decreases below, (omega (arith, one, more, other), c.requires.short))

pub block-statement-requires : goal.block-statement-requires
block-statement-requires t c =
    let small = smaller (numbered_block c.args.block.now) c.statements.index (numbered_statement c.at.result.now) c.at.ensures in
    let below : 3 * statement_size (numbered_statement c.at.result.now) < 3 * block_size (numbered_block c.args.block.now) = omega (arith, small) in (
      subst (λ (n : ℕ). 3 * statement_size (numbered_statement c.at.result.now) < n) c.decreases below,
      (walk_room (ports_of c.args.self.ports.now) c.args.self.total (statements_of (numbered_block c.args.block.now)) c.statements.index (numbered_statement c.at.result.now) _ c.statements.program c.statements.invariant c.at.ensures, c.requires.short),
    )

pub block-statements-init : goal.block-statements-init
block-statements-init t c = walk_starts (ports_of c.args.self.ports.now) c.args.self.total (numbered_block c.args.block.now) c.args.program.now c.requires.room

pub block-statements-preserved : goal.block-statements-preserved
block-statements-preserved t c =
    walk_on (ports_of c.args.self.ports.now) c.args.self.total (statements_of (numbered_block c.args.block.now)) c.statements.index (numbered_statement c.at.result.now) _ c.statements.program c.statement.new.program c.statements.invariant c.at.ensures c.statement.ensures

pub block-returns : goal.block-returns
block-returns t c =
    let past : length (statements_of (numbered_block c.args.block.now)) ≤ c.statements.index = subst (λ (n : ℕ). n ≤ c.statements.index) c.len-index-end.ensures c.statements-test.false in
    walk_ends (ports_of c.args.self.ports.now) c.args.self.total (statements_of (numbered_block c.args.block.now)) c.statements.index _ c.statements.program c.statements.invariant past

pub branch_on_y-emit-requires-2 : goal.branch_on_y-emit-requires-2
branch_on_y-emit-requires-2 t c =
    let one = longer _ c.emit.new.program (Swp ∷ c.jump_to-jump_over.result ∷ Swp ∷ []) c.emit.ensures in
    let more = grown (ports_of c.args.self.ports.now) c.args.self.total c.emit.new.program c.block.new.program (numbered_block c.args.straight.now) c.block.ensures in
    omega (arith, one, more)

pub branch_on_x-returns : goal.branch_on_x-returns
branch_on_x-returns t c =
    let p = ports_of c.args.self.ports.now in
    let total = c.args.self.total in
    let first = numbered_block c.args.straight.now in
    let second = numbered_block c.args.jumped.now in
    let some : 0 < block_lines second = omega arith in
    chooses_x total c.args.jump c.args.program.now c.emit-2.new.program c.block-2.new.program c.emit-3.new.program c.block-3.new.program (block_code p total first) (block_code p total second) (block_lines first) (block_lines second)
    c.jump_to-2.result c.jump_to-3.result (λ none. omega arith) (block_has p total first)
    (c.jump_to-2.ensures ∙ ap (jump_to total c.args.jump) (omega arith)) (c.jump_to-3.ensures ∙ ap (jump_to total Always) (omega arith))
    c.emit-2.ensures c.block-2.ensures c.emit-3.ensures c.block-3.ensures

pub branch_on_y-returns : goal.branch_on_y-returns
branch_on_y-returns t c =
    let p = ports_of c.args.self.ports.now in
    let total = c.args.self.total in
    let first = numbered_block c.args.straight.now in
    let second = numbered_block c.args.jumped.now in
    chooses_y total c.args.jump c.args.program.now c.emit.new.program c.block.new.program c.emit-2.new.program c.block-2.new.program (block_code p total first) (block_code p total second) (block_lines first) (block_lines second)
    c.jump_to-jump_over.result c.jump_to-jump_behind.result (block_has p total first)
    (c.jump_to-jump_over.ensures ∙ ap (jump_to total c.args.jump) (omega arith)) (c.jump_to-jump_behind.ensures ∙ ap (jump_to total Always) (omega arith))
    c.emit.ensures c.block.ensures c.emit-2.ensures c.block-2.ensures

pub counted_loop-emit_on-requires : goal.counted_loop-emit_on-requires
counted_loop-emit_on-requires t c =
    let one = longer _ c.enter.new.program (entering_head c.args.self.total c.args.var IfPositive (c.block_lines.result + c.on_lines.result) (length c.args.program.now)) c.enter.ensures in
    let head = head_length c.args.self.total c.args.var IfPositive (c.block_lines.result + c.on_lines.result) (length c.args.program.now) in
    let more = grown (ports_of c.args.self.ports.now) c.args.self.total c.enter.new.program c.block.new.program (numbered_block c.args.body.now) c.block.ensures in
    let on_it = one_on c.args.var (instr.Sub (from.Number c.clamp.result)) in
    let frame = count_is c.args.var in
    omega (arith, one, head, more, on_it, frame)

pub counted_loop-emit-requires : goal.counted_loop-emit-requires
counted_loop-emit-requires t c =
    let one = longer _ c.enter.new.program (entering_head c.args.self.total c.args.var IfPositive (c.block_lines.result + c.on_lines.result) (length c.args.program.now)) c.enter.ensures in
    let head = head_length c.args.self.total c.args.var IfPositive (c.block_lines.result + c.on_lines.result) (length c.args.program.now) in
    let more = grown (ports_of c.args.self.ports.now) c.args.self.total c.enter.new.program c.block.new.program (numbered_block c.args.body.now) c.block.ensures in
    let less = longer _ c.emit_on.new.program (on c.args.var (instr.Sub (from.Number c.clamp.result) ∷ [])) c.emit_on.ensures in
    let on_it = one_on c.args.var (instr.Sub (from.Number c.clamp.result)) in
    let frame = count_is c.args.var in
    omega (arith, one, head, more, less, on_it, frame)

pub counted_loop-returns : goal.counted_loop-returns
counted_loop-returns t c =
    let p = ports_of c.args.self.ports.now in
    let total = c.args.self.total in
    let body = numbered_block c.args.body.now in
    let frame = count_is c.args.var in
    let lines : c.block_lines.result + c.on_lines.result ≡ block_lines body + length (on c.args.var (instr.Nop ∷ [])) = omega (arith, frame) in
    counts total c.args.var c.args.program.now c.enter.new.program c.block.new.program c.emit_on.new.program c.emit.new.program (block_code p total body) (block_lines body) c.jump_to.result
    (c.jump_to.ensures ∙ ap (jump_to total Always) (omega arith))
    (c.enter.ensures ∙ ap (λ (n : ℕ). c.args.program.now ++ as_program (entering_head total c.args.var IfPositive n (length c.args.program.now))) lines)
    c.block.ensures
    (c.emit_on.ensures ∙ ap (λ (n : ℤ). c.block.new.program ++ as_program (on c.args.var (instr.Sub (from.Number n) ∷ []))) c.clamp.ensures)
    c.emit.ensures

pub entering_loop-emit-requires : goal.entering_loop-emit-requires
entering_loop-emit-requires t c =
    let one = longer _ c.enter.new.program (entering_head c.args.self.total c.args.var c.args.jump c.block_lines.result (length c.args.program.now)) c.enter.ensures in
    let head = head_length c.args.self.total c.args.var c.args.jump c.block_lines.result (length c.args.program.now) in
    let more = grown (ports_of c.args.self.ports.now) c.args.self.total c.enter.new.program c.block.new.program (numbered_block c.args.body.now) c.block.ensures in
    omega (arith, one, head, more)

pub leaving_loop-emit-requires-in-X : goal.leaving_loop-emit-requires-in-X
leaving_loop-emit-requires-in-X t c =
    let one = longer _ c.emit.new.program (c.jump_to.result ∷ []) c.emit.ensures in
    let more = grown (ports_of c.args.self.ports.now) c.args.self.total c.emit.new.program c.block.new.program (numbered_block c.args.body.now) c.block.ensures in
    let frame = ap leaving_frame c.in-X.is in
    omega (arith, one, more, frame)

pub leaving_loop-emit-requires-in-Y-2 : goal.leaving_loop-emit-requires-in-Y-2
leaving_loop-emit-requires-in-Y-2 t c =
    let one = longer _ c.emit-in-Y.new.program (Swp ∷ c.jump_to-leave.result ∷ Swp ∷ []) c.emit-in-Y.ensures in
    let more = grown (ports_of c.args.self.ports.now) c.args.self.total c.emit-in-Y.new.program c.block-in-Y.new.program (numbered_block c.args.body.now) c.block-in-Y.ensures in
    let frame = ap leaving_frame c.in-Y.is in
    omega (arith, one, more, frame)
