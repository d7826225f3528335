use Rattle.std.proofs.Common.{List, [], ◌∷◌, Option, true, false, length, refl, subst}
use Rattle.std.proofs.lemmas.List.{nil_from_length}
use Rattle.lua_machine.specs.Machine as machine
use Rattle.lua_machine.specs.Tree as tree
use Rattle.lua_machine.specs.Tree.{block_of, node_of, statement_of, ◌andthen◌}
use Rattle.lua_machine.specs.Yields as lua
use Rattle.lua_tree.specs.declared.tree.Arm.{Arm}
use Rattle.lua_tree.specs.declared.tree.LuaBlock.{LuaBlock}
use Rattle.lua_tree.specs.declared.tree.LuaStatement.{LuaStatement}
use Rattle.lua_frames.specs.Executing.{Executes, IsLeft, block, choice, execution, inner_block}
use Rattle.lua_frames.specs.Frames.{waits_in}
use Rattle.lua_frames.specs.Machines.{state_in, store_in}
use Rattle.lua_frames.specs.Parts.{arms_in, block_in}
use Rattle.lua_frames.specs.Standing.{IsHalted, IsValued, evaluation}
use Rattle.lua_frames.specs.declared.frame.Frame.TheVariants as f
use Rattle.lua_frames.proofs.Execution.{block_seen, breaks_out, executes_behind, goes_on, halts_in, inner_left, inner_returns, inner_waits, led_to_arm, leaves_executes, pays_choice, returns_out, test_halts, test_tells, unpaid_choice}
use Rattle.lua_frames.proofs.Hanging.{Led, led_nowhere}
use Rattle.lua_frames.proofs.machine.Machine.+statements.Goals as goal

pub do_all-statements-init : goal.do_all-statements-init
do_all-statements-init t c = led_nowhere (block (block_in c.args.statements.now) c.args.self.now) c.args.self.now

pub do_all-statements-preserved : goal.do_all-statements-preserved
do_all-statements-preserved t c =
    let m = c.args.self.now in
    let at = c.statements.self in
    let from = block (block_in c.args.statements.now) m in
    let led : Led from (block (statement_of c.in-Some.first.now andthen block_in c.in-Some.others.now) at) m at = subst (λ (left : List LuaStatement). Led from (block (block_in left) at) m at) c.in-Some.ensures.cases.0 c.statements.invariant in
    goes_on from (statement_of c.in-Some.first.now) (block_in c.in-Some.others.now) m at c.do_statement.new.self led c.in-Goes.ensures

pub do_all-returns-in-Breaks : goal.do_all-returns-in-Breaks
do_all-returns-in-Breaks t c =
    let m = c.args.self.now in
    let at = c.statements.self in
    let from = block (block_in c.args.statements.now) m in
    let led : Led from (block (statement_of c.in-Some.first.now andthen block_in c.in-Some.others.now) at) m at = subst (λ (left : List LuaStatement). Led from (block (block_in left) at) m at) c.in-Some.ensures.cases.0 c.statements.invariant in
    breaks_out from (statement_of c.in-Some.first.now) (block_in c.in-Some.others.now) m at c.do_statement.new.self led c.in-Breaks.ensures

pub do_all-returns-in-Returns : goal.do_all-returns-in-Returns
do_all-returns-in-Returns t c =
    let m = c.args.self.now in
    let at = c.statements.self in
    let from = block (block_in c.args.statements.now) m in
    let led : Led from (block (statement_of c.in-Some.first.now andthen block_in c.in-Some.others.now) at) m at = subst (λ (left : List LuaStatement). Led from (block (block_in left) at) m at) c.in-Some.ensures.cases.0 c.statements.invariant in
    returns_out from (statement_of c.in-Some.first.now) (block_in c.in-Some.others.now) m at c.do_statement.new.self led c.in-Returns.ensures

pub do_all-returns-in-Waits : goal.do_all-returns-in-Waits
do_all-returns-in-Waits t c =
    let m = c.args.self.now in
    let at = c.statements.self in
    let from = block (block_in c.args.statements.now) m in
    let first = statement_of c.in-Some.first.now in
    let led : Led from (block (first andthen block_in c.in-Some.others.now) at) m at = subst (λ (left : List LuaStatement). Led from (block (block_in left) at) m at) c.in-Some.ensures.cases.0 c.statements.invariant in
    executes_behind c.wait_beneath.result from (block (first andthen block_in c.in-Some.others.now) at) m at c.wait_beneath.new.self led
    (leaves_executes c.wait_beneath.result (execution first at) (f.Others c.in-Some.others) at c.wait_beneath.new.self refl (c.wait_beneath.ensures (execution first at) (waits_in (store_in at)) at c.in-Waits.ensures))

pub do_all-returns-in-Stopped : goal.do_all-returns-in-Stopped
do_all-returns-in-Stopped t c =
    let m = c.args.self.now in
    let at = c.statements.self in
    let from = block (block_in c.args.statements.now) m in
    let led : Led from (block (statement_of c.in-Some.first.now andthen block_in c.in-Some.others.now) at) m at = subst (λ (left : List LuaStatement). Led from (block (block_in left) at) m at) c.in-Some.ensures.cases.0 c.statements.invariant in
    halts_in from (statement_of c.in-Some.first.now) (block_in c.in-Some.others.now) m at c.do_statement.new.self led c.in-Stopped.ensures

pub do_choice-arms-init : goal.do_choice-arms-init
do_choice-arms-init t c = led_nowhere (choice (arms_in c.args.arms.now c.args.otherwise.now) c.args.self.now) c.args.self.now

pub do_choice-returns-then-take_truth : goal.do_choice-returns-then-take_truth
do_choice-returns-then-take_truth t c =
    let m = c.args.self.now in
    let at = c.arms.self in
    let from = choice (arms_in c.args.arms.now c.args.otherwise.now) m in
    let test = node_of c.in-Some.arm.now.test in
    let body = block_of c.in-Some.arm.now.body in
    let others = arms_in c.in-Some.others.now c.args.otherwise.now in
    let led : Led from (choice (tree.arm test body others) at) m at = led_to_arm from c.in-Some.arm.now c.arms.left.now c.in-Some.others.now c.args.otherwise.now m at c.in-Some.ensures.cases.0 c.arms.invariant in
    let now = record c.value.new.self { state = c.take_truth.new.self } in
    executes_behind c.do_inner.result from (inner_block body now) m now c.do_inner.new.self
    (test_tells true from test body others m at c.value.new.self c.take_truth.new.self led c.in-Given.ensures c.if-take_truth.ensures.truth c.take_truth.ensures.popped) c.do_inner.ensures

pub do_choice-arms-preserved : goal.do_choice-arms-preserved
do_choice-arms-preserved t c =
    let m = c.args.self.now in
    let at = c.arms.self in
    let from = choice (arms_in c.args.arms.now c.args.otherwise.now) m in
    let test = node_of c.in-Some.arm.now.test in
    let body = block_of c.in-Some.arm.now.body in
    let others = arms_in c.in-Some.others.now c.args.otherwise.now in
    let led : Led from (choice (tree.arm test body others) at) m at = led_to_arm from c.in-Some.arm.now c.arms.left.now c.in-Some.others.now c.args.otherwise.now m at c.in-Some.ensures.cases.0 c.arms.invariant in
    test_tells false from test body others m at c.value.new.self c.take_truth.new.self led c.in-Given.ensures c.if-take_truth.ensures.truth c.take_truth.ensures.popped

pub do_choice-returns-in-Waits : goal.do_choice-returns-in-Waits
do_choice-returns-in-Waits t c =
    let m = c.args.self.now in
    let at = c.arms.self in
    let from = choice (arms_in c.args.arms.now c.args.otherwise.now) m in
    let test = node_of c.in-Some.arm.now.test in
    let body = block_of c.in-Some.arm.now.body in
    let others = arms_in c.in-Some.others.now c.args.otherwise.now in
    let led : Led from (choice (tree.arm test body others) at) m at = led_to_arm from c.in-Some.arm.now c.arms.left.now c.in-Some.others.now c.args.otherwise.now m at c.in-Some.ensures.cases.0 c.arms.invariant in
    executes_behind c.wait_beneath.result from (choice (tree.arm test body others) at) m at c.wait_beneath.new.self led
    (leaves_executes c.wait_beneath.result (evaluation test at) _ at c.wait_beneath.new.self refl (c.wait_beneath.ensures (evaluation test at) (waits_in (store_in at)) at c.in-Waits.ensures))

pub do_choice-returns-in-Stopped : goal.do_choice-returns-in-Stopped
do_choice-returns-in-Stopped t c =
    let m = c.args.self.now in
    let at = c.arms.self in
    let from = choice (arms_in c.args.arms.now c.args.otherwise.now) m in
    let test = node_of c.in-Some.arm.now.test in
    let body = block_of c.in-Some.arm.now.body in
    let others = arms_in c.in-Some.others.now c.args.otherwise.now in
    let led : Led from (choice (tree.arm test body others) at) m at = led_to_arm from c.in-Some.arm.now c.arms.left.now c.in-Some.others.now c.args.otherwise.now m at c.in-Some.ensures.cases.0 c.arms.invariant in
    test_halts from test body others m at c.value.new.self led c.in-Stopped.ensures

pub do_choice-returns-in-Some-otherwise : goal.do_choice-returns-in-Some-otherwise
do_choice-returns-in-Some-otherwise t c =
    let m = c.args.self.now in
    let at = c.arms.self in
    let from = choice (arms_in c.args.arms.now c.args.otherwise.now) m in
    let none : Led from (choice (arms_in [] c.args.otherwise.now) at) m at = subst (λ (left : List Arm). Led from (choice (arms_in left c.args.otherwise.now) at) m at) (nil_from_length c.arms.left.now c.in_default.ensures.cases) c.arms.invariant in
    let led : Led from (inner_block (block_of c.in-Some-otherwise.body) at) m at = subst (λ (last : Option LuaBlock). Led from (choice (arms_in [] last) at) m at) c.in-Some-otherwise.is none in
    executes_behind c.do_inner-in-Some-otherwise.result from (inner_block (block_of c.in-Some-otherwise.body) at) m at c.do_inner-in-Some-otherwise.new.self led c.do_inner-in-Some-otherwise.ensures

pub do_if-returns-in-Ok : goal.do_if-returns-in-Ok
do_if-returns-in-Ok t c =
    let m = c.args.self.now in
    let arms = arms_in c.args.arms.now c.args.otherwise.now in
    let at = record m { units = c.pay.new.self } in
    executes_behind c.do_choice.result (execution (tree.If arms) m) (choice arms at) m at c.do_choice.new.self (pays_choice arms m c.pay.new.self c.in-Ok.ensures) c.do_choice.ensures

pub do_if-returns-in-Err : goal.do_if-returns-in-Err
do_if-returns-in-Err t c = unpaid_choice (arms_in c.args.arms.now c.args.otherwise.now) c.args.self.now (record c.args.self.now { units = c.pay.new.self; fault = c.in-Err.why }) c.in-Err.ensures

pub do_inner-returns-in-Goes : goal.do_inner-returns-in-Goes
do_inner-returns-in-Goes t c =
    let m = c.args.self.now in
    let now = record c.do_all.new.self { state = c.cut_to.new.self } in
    subst (λ body. IsLeft lua.Goes (inner_block body m) m now) (block_seen c.args.body.now c.as_slice.result.now c.as_slice.ensures)
    (inner_left lua.Goes c.locals-outer.result (block_in c.as_slice.result.now) m c.do_all.new.self c.cut_to.new.self c.locals-outer.ensures c.in-Goes.ensures c.cut_to.ensures)

pub do_inner-returns-in-Breaks : goal.do_inner-returns-in-Breaks
do_inner-returns-in-Breaks t c =
    let m = c.args.self.now in
    let now = record c.do_all.new.self { state = c.cut_to-in-Breaks.new.self } in
    subst (λ body. IsLeft lua.Breaks (inner_block body m) m now) (block_seen c.args.body.now c.as_slice.result.now c.as_slice.ensures)
    (inner_left lua.Breaks c.locals-outer.result (block_in c.as_slice.result.now) m c.do_all.new.self c.cut_to-in-Breaks.new.self c.locals-outer.ensures c.in-Breaks.ensures c.cut_to-in-Breaks.ensures)

pub do_inner-returns-in-Returns : goal.do_inner-returns-in-Returns
do_inner-returns-in-Returns t c =
    let m = c.args.self.now in
    let now = record c.do_all.new.self { state = c.cut_to-in-Returns.new.self } in
    subst (λ body. IsValued (inner_block body m) m now) (block_seen c.args.body.now c.as_slice.result.now c.as_slice.ensures)
    (inner_returns c.locals-outer.result (block_in c.as_slice.result.now) m c.do_all.new.self c.cut_to-in-Returns.new.self c.locals-outer.ensures c.in-Returns.ensures c.cut_to-in-Returns.ensures)

pub do_inner-returns-in-Waits : goal.do_inner-returns-in-Waits
do_inner-returns-in-Waits t c =
    let m = c.args.self.now in
    let body = block_in c.as_slice.result.now in
    subst (λ body. Executes c.wait_beneath.result (inner_block body m) m c.wait_beneath.new.self) (block_seen c.args.body.now c.as_slice.result.now c.as_slice.ensures)
    (inner_waits c.wait_beneath.result c.locals-outer.result body m c.wait_beneath.new.self c.locals-outer.ensures (c.wait_beneath.ensures (block body m) (waits_in (store_in m)) m c.in-Waits.ensures))

pub do_inner-returns-in-Stopped : goal.do_inner-returns-in-Stopped
do_inner-returns-in-Stopped t c =
    let m = c.args.self.now in
    subst (λ body. IsHalted (inner_block body m) c.do_all.new.self) (block_seen c.args.body.now c.as_slice.result.now c.as_slice.ensures)
    (λ frames calls. c.in-Stopped.ensures (machine.Inner (length (state_in m).locals) ∷ frames) calls)
