use Rattle.std.proofs.Common.{◌≡◌, ℕ, List, length, get_or, ap, sym, subst, ◌∙◌, arith}
use Rattle.std.specs.Prelude.{Contains}
use Rattle.tis_asm.specs.declared.program.MarkedInstr.{MarkedInstr}
use Rattle.tis_asm.specs.Programs.{IsSound}
use Rattle.net_tree.specs.Tree.{Block, Empty}
use Rattle.net_numbered.specs.View.{numbered_block}
use Rattle.net_rules.specs.CheckedNet.{net_of}
use Rattle.net_rules.specs.Numbers.{numbered}
use Rattle.net_select.specs.HeldPorts.{ports_of}
use Rattle.net_select.specs.Selection.{as_program, with_code, block_code, block_lines}
use Rattle.net_select.specs.Behaves.{Behaves}
use Rattle.net_select.specs.Selects.{body_of}
use Rattle.net_select.proofs.Lengths.{lines_are_told}
use Rattle.net_select.proofs.Processes.{body_is}
use Rattle.net_select.proofs.Sound.{code_is_sound}
use Rattle.net_select.proofs.selection.select.Goals as goal

pub returns-then-total-gt-MOST-clause-code : goal.returns-then-total-gt-MOST-clause-code
returns-then-total-gt-MOST-clause-code c =
    let told = lines_are_told (ports_of c.args.ports.now) (body_of c.args.net.now c.args.process) in
    (c.lines_of-total.ensures ∙ sym told, c.if-total-gt-MOST.true)

pub block-requires-clause-room : goal.block-requires-clause-room
block-requires-clause-room c =
    let here = body_is (numbered (net_of c.args.net.now)).processes c.args.process Empty (numbered_block c.process.result.now) c.process.ensures in
    let lines = ap block_lines here in
    let none = ap (λ (p : List MarkedInstr). length p) c.new-program.ensures in
    omega (arith, lines, none)

pub returns-clause-code : goal.returns-clause-code
returns-clause-code c =
    let ports = ports_of c.args.ports.now in
    let body = body_of c.args.net.now c.args.process in
    let here = body_is (numbered (net_of c.args.net.now)).processes c.args.process Empty (numbered_block c.process.result.now) c.process.ensures in
    let told = lines_are_told ports body in (
      c.block.ensures
          ∙ ap (λ (p : List MarkedInstr). with_code p (block_code ports c.lines_of-total.result (numbered_block c.process.result.now))) c.new-program.ensures
          ∙ ap (λ (b : Block ℕ). as_program (block_code ports c.lines_of-total.result b 0)) (sym here)
          ∙ ap (λ (total : ℕ). as_program (block_code ports total body 0)) c.lines_of-total.ensures,
      omega (arith, told),
    )

pub returns-clause-sound : goal.returns-clause-sound
returns-clause-sound c = subst IsSound (sym (returns-clause-code c).0) (code_is_sound (ports_of c.args.ports.now) (body_of c.args.net.now c.args.process))

pub returns-clause-behaves : goal.returns-clause-behaves
returns-clause-behaves c = λ distinct.
    let ports = ports_of c.args.ports.now in
    let body = body_of c.args.net.now c.args.process in
    let processes = (numbered (net_of c.args.net.now)).processes in
    let seen = numbered_block c.process.result.now in
    let same : get_or processes c.args.process body ≡ body = body_is processes c.args.process body seen c.process.ensures ∙ sym (body_is processes c.args.process Empty seen c.process.ensures) in
    let among : Contains processes body = (c.args.process, c.requires.within, same) in
    subst (λ (p : List MarkedInstr). Behaves p body ports) (sym (returns-clause-code c).0) (c.code_behaves.ensures (net_of c.args.net.now) body ports c.requires.checked.accepted c.requires.checked.values among distinct)
