use Rattle.std.proofs.Common.{◌∙◌, refl, ap, map, subst, sym, List, Ok, false}
use Rattle.std.specs.Option.{option_map}
use Rattle.lua_machine.specs.Library.{math_result}
use Rattle.lua_machine.specs.Machine as machine
use Rattle.lua_machine.specs.State.{State}
use Rattle.lua_machine.specs.Tree as tree
use Rattle.lua_machine.specs.Tree.{node_of, nodes, none, ◌and◌}
use Rattle.lua_machine.specs.Turn.{binary_begun}
use Rattle.lua_machine.specs.Value.{LuaValue}
use Rattle.lua_machine.specs.Yields.{binary_result, floor_result, indexed, unary_result}
use Rattle.lua_operations.specs.Functions.{math_in}
use Rattle.lua_frames.specs.Frames.{making_of, waits_in}
use Rattle.lua_frames.specs.Machines.{state_in, store_in}
use Rattle.lua_frames.specs.Simple.{Takes}
use Rattle.lua_frames.specs.Standing.{evaluation, gathering, operating}
use Rattle.lua_frames.proofs.Arguments.{IsPassed, all_passed, all_refused, calls_math, calls_unknown, floor_unpaid, halts_in_part, math_unpaid, next_left, none_left, none_passed, one_passed, out_of_memory, waits_in_part}
use Rattle.lua_frames.proofs.Hanging.{halted_behind, waits_from}
use Rattle.lua_frames.proofs.Taking.{Makes}
use Rattle.lua_frames.proofs.Valuing.{Begins, begins_before, first_halted, first_waits, one_faults, one_makes, one_taken, part_waits, two_fault, two_make, two_taken, unpaid, value_later}
use Rattle.lua_frames.proofs.machine.Machine.+values.Goals as goal

pub part_value-returns-in-Waits : goal.part_value-returns-in-Waits
part_value-returns-in-Waits t c = part_waits c.wait_under.result c.args.making c.args.count (node_of c.args.part.now) c.args.others c.args.self.now c.wait_under.new.self (c.wait_under.ensures (evaluation (node_of c.args.part.now) c.args.self.now) (waits_in (store_in c.args.self.now)) c.args.self.now c.in-Waits.ensures)

pub one-returns-in-Ok : goal.one-returns-in-Ok
one-returns-in-Ok t c = one_taken c.part_value.result (making_of c.args.making) (node_of c.args.part.now) c.args.self.now c.part_value.new.self c.pay.new.self c.in-Ok.ensures c.part_value.ensures

pub one-returns-in-Err : goal.one-returns-in-Err
one-returns-in-Err t c = unpaid (making_of c.args.making) (node_of c.args.part.now) none c.args.self.now (record c.args.self.now { units = c.pay.new.self; fault = c.in-Err.why }) c.in-Err.why c.args.self.now.units c.pay.new.self refl c.in-Err.ensures refl

pub two-returns-in-Given : goal.two-returns-in-Given
two-returns-in-Given t c = two_taken c.part_value-in-Given.result (making_of c.args.making) (node_of c.args.left.now) (node_of c.args.right.now) c.args.self.now c.part_value.new.self c.part_value-in-Given.new.self c.pay.new.self c.in-Ok.ensures c.in-Given.ensures c.part_value-in-Given.ensures

pub two-returns-in-Waits : goal.two-returns-in-Waits
two-returns-in-Waits t c = first_waits (making_of c.args.making) (node_of c.args.left.now) (node_of c.args.right.now) c.args.self.now c.part_value.new.self c.pay.new.self c.in-Ok.ensures c.in-Waits.ensures

pub two-returns-in-Stopped : goal.two-returns-in-Stopped
two-returns-in-Stopped t c = first_halted (making_of c.args.making) (node_of c.args.left.now) (node_of c.args.right.now) c.args.self.now c.part_value.new.self c.pay.new.self c.in-Ok.ensures c.in-Stopped.ensures

pub two-returns-in-Err : goal.two-returns-in-Err
two-returns-in-Err t c = unpaid (making_of c.args.making) (node_of c.args.left.now) (node_of c.args.right.now and none) c.args.self.now (record c.args.self.now { units = c.pay.new.self; fault = c.in-Err.why }) c.in-Err.why c.args.self.now.units c.pay.new.self refl c.in-Err.ensures refl

pub value-returns-in-Ok-false : goal.value-returns-in-Ok-false
value-returns-in-Ok-false t c =
    let at = record c.args.self.now { state = c.take_simple.new.state; units = c.take_simple.new.units } in
    let same : Takes (Ok false) (node_of c.args.expr.now) (store_in c.args.self.now) c.args.self.now.units (store_in at) at.units = rw c.in-Ok-false.field-0-test at c.in-Ok-false.ensures in
    value_later c.operation.result (node_of c.args.expr.now) c.args.self.now at c.operation.new.self refl refl refl same.0 same.1 c.operation.ensures

pub binary_value-returns-in-Ok : goal.binary_value-returns-in-Ok
binary_value-returns-in-Ok t c =
    let node = tree.Binary c.args.op (node_of c.args.left.now) (node_of c.args.right.now) c.args.line in
    let making = machine.Binary c.args.op c.args.line in
    let begins : Begins node making ((node_of c.args.left.now) and (node_of c.args.right.now) and none) = λ chunk frames calls state cost. ap (λ b. binary_begun b c.args.op (node_of c.args.left.now) (node_of c.args.right.now) c.args.line frames calls state cost) c.requires in
    let done = λ (values : List LuaValue) (state : State). binary_result c.args.op c.args.line values state in
    let makes : Makes making done = λ values frames calls state cost. refl in
    two_make node making (node_of c.args.left.now) (node_of c.args.right.now) done begins makes c.args.self.now c.two.new.self c.binary.new.self c.in-Given.ensures c.in-Ok.ensures

pub binary_value-returns-in-Err : goal.binary_value-returns-in-Err
binary_value-returns-in-Err t c =
    let node = tree.Binary c.args.op (node_of c.args.left.now) (node_of c.args.right.now) c.args.line in
    let making = machine.Binary c.args.op c.args.line in
    let begins : Begins node making ((node_of c.args.left.now) and (node_of c.args.right.now) and none) = λ chunk frames calls state cost. ap (λ b. binary_begun b c.args.op (node_of c.args.left.now) (node_of c.args.right.now) c.args.line frames calls state cost) c.requires in
    let done = λ (values : List LuaValue) (state : State). binary_result c.args.op c.args.line values state in
    let makes : Makes making done = λ values frames calls state cost. refl in
    two_fault node making (node_of c.args.left.now) (node_of c.args.right.now) done begins makes c.args.self.now c.two.new.self (record c.two.new.self { state = c.binary.new.self; fault = c.in-Err.why }) c.in-Given.ensures refl c.in-Err.ensures

pub binary_value-returns-in-Waits : goal.binary_value-returns-in-Waits
binary_value-returns-in-Waits t c =
    let node = tree.Binary c.args.op (node_of c.args.left.now) (node_of c.args.right.now) c.args.line in
    let making = machine.Binary c.args.op c.args.line in
    let begins : Begins node making ((node_of c.args.left.now) and (node_of c.args.right.now) and none) = λ chunk frames calls state cost. ap (λ b. binary_begun b c.args.op (node_of c.args.left.now) (node_of c.args.right.now) c.args.line frames calls state cost) c.requires in
    waits_from (evaluation node c.args.self.now) (operating making ((node_of c.args.left.now) and (node_of c.args.right.now) and none) c.args.self.now) (waits_in (store_in c.args.self.now)) c.args.self.now c.two.new.self (begins_before node making ((node_of c.args.left.now) and (node_of c.args.right.now) and none) begins c.args.self.now) c.in-Waits.ensures

pub binary_value-returns-in-Stopped : goal.binary_value-returns-in-Stopped
binary_value-returns-in-Stopped t c =
    let node = tree.Binary c.args.op (node_of c.args.left.now) (node_of c.args.right.now) c.args.line in
    let making = machine.Binary c.args.op c.args.line in
    let begins : Begins node making ((node_of c.args.left.now) and (node_of c.args.right.now) and none) = λ chunk frames calls state cost. ap (λ b. binary_begun b c.args.op (node_of c.args.left.now) (node_of c.args.right.now) c.args.line frames calls state cost) c.requires in
    halted_behind (evaluation node c.args.self.now) (operating making ((node_of c.args.left.now) and (node_of c.args.right.now) and none) c.args.self.now) c.two.new.self (begins_before node making ((node_of c.args.left.now) and (node_of c.args.right.now) and none) begins c.args.self.now) c.in-Stopped.ensures

pub index_value-returns-in-Ok : goal.index_value-returns-in-Ok
index_value-returns-in-Ok t c =
    let node = tree.Index (node_of c.args.table.now) (node_of c.args.key.now) c.args.line in
    let making = machine.Indexes c.args.line in
    let begins : Begins node making ((node_of c.args.table.now) and (node_of c.args.key.now) and none) = λ chunk frames calls state cost. refl in
    let done = λ (values : List LuaValue) (state : State). indexed c.args.line values state in
    let makes : Makes making done = λ values frames calls state cost. refl in
    two_make node making (node_of c.args.table.now) (node_of c.args.key.now) done begins makes c.args.self.now c.two.new.self c.index.new.self c.in-Given.ensures c.in-Ok.ensures

pub index_value-returns-in-Err : goal.index_value-returns-in-Err
index_value-returns-in-Err t c =
    let node = tree.Index (node_of c.args.table.now) (node_of c.args.key.now) c.args.line in
    let making = machine.Indexes c.args.line in
    let begins : Begins node making ((node_of c.args.table.now) and (node_of c.args.key.now) and none) = λ chunk frames calls state cost. refl in
    let done = λ (values : List LuaValue) (state : State). indexed c.args.line values state in
    let makes : Makes making done = λ values frames calls state cost. refl in
    two_fault node making (node_of c.args.table.now) (node_of c.args.key.now) done begins makes c.args.self.now c.two.new.self (record c.two.new.self { state = c.index.new.self; fault = c.in-Err.why }) c.in-Given.ensures refl c.in-Err.ensures

pub index_value-returns-in-Waits : goal.index_value-returns-in-Waits
index_value-returns-in-Waits t c =
    let node = tree.Index (node_of c.args.table.now) (node_of c.args.key.now) c.args.line in
    let making = machine.Indexes c.args.line in
    let begins : Begins node making ((node_of c.args.table.now) and (node_of c.args.key.now) and none) = λ chunk frames calls state cost. refl in
    waits_from (evaluation node c.args.self.now) (operating making ((node_of c.args.table.now) and (node_of c.args.key.now) and none) c.args.self.now) (waits_in (store_in c.args.self.now)) c.args.self.now c.two.new.self (begins_before node making ((node_of c.args.table.now) and (node_of c.args.key.now) and none) begins c.args.self.now) c.in-Waits.ensures

pub index_value-returns-in-Stopped : goal.index_value-returns-in-Stopped
index_value-returns-in-Stopped t c =
    let node = tree.Index (node_of c.args.table.now) (node_of c.args.key.now) c.args.line in
    let making = machine.Indexes c.args.line in
    let begins : Begins node making ((node_of c.args.table.now) and (node_of c.args.key.now) and none) = λ chunk frames calls state cost. refl in
    halted_behind (evaluation node c.args.self.now) (operating making ((node_of c.args.table.now) and (node_of c.args.key.now) and none) c.args.self.now) c.two.new.self (begins_before node making ((node_of c.args.table.now) and (node_of c.args.key.now) and none) begins c.args.self.now) c.in-Stopped.ensures

pub unary_value-returns-in-Ok : goal.unary_value-returns-in-Ok
unary_value-returns-in-Ok t c =
    let node = tree.Unary c.args.op (node_of c.args.of.now) c.args.line in
    let making = machine.Unary c.args.op c.args.line in
    let begins : Begins node making ((node_of c.args.of.now) and none) = λ chunk frames calls state cost. refl in
    let done = λ (values : List LuaValue) (state : State). unary_result c.args.op c.args.line values state in
    let makes : Makes making done = λ values frames calls state cost. refl in
    one_makes node making (node_of c.args.of.now) done begins makes c.args.self.now c.one.new.self c.unary.new.self c.in-Given.ensures c.in-Ok.ensures

pub unary_value-returns-in-Err : goal.unary_value-returns-in-Err
unary_value-returns-in-Err t c =
    let node = tree.Unary c.args.op (node_of c.args.of.now) c.args.line in
    let making = machine.Unary c.args.op c.args.line in
    let begins : Begins node making ((node_of c.args.of.now) and none) = λ chunk frames calls state cost. refl in
    let done = λ (values : List LuaValue) (state : State). unary_result c.args.op c.args.line values state in
    let makes : Makes making done = λ values frames calls state cost. refl in
    one_faults node making (node_of c.args.of.now) done begins makes c.args.self.now c.one.new.self (record c.one.new.self { state = c.unary.new.self; fault = c.in-Err.why }) c.in-Given.ensures refl c.in-Err.ensures

pub unary_value-returns-in-Waits : goal.unary_value-returns-in-Waits
unary_value-returns-in-Waits t c =
    let node = tree.Unary c.args.op (node_of c.args.of.now) c.args.line in
    let making = machine.Unary c.args.op c.args.line in
    let begins : Begins node making ((node_of c.args.of.now) and none) = λ chunk frames calls state cost. refl in
    waits_from (evaluation node c.args.self.now) (operating making ((node_of c.args.of.now) and none) c.args.self.now) (waits_in (store_in c.args.self.now)) c.args.self.now c.one.new.self (begins_before node making ((node_of c.args.of.now) and none) begins c.args.self.now) c.in-Waits.ensures

pub unary_value-returns-in-Stopped : goal.unary_value-returns-in-Stopped
unary_value-returns-in-Stopped t c =
    let node = tree.Unary c.args.op (node_of c.args.of.now) c.args.line in
    let making = machine.Unary c.args.op c.args.line in
    let begins : Begins node making ((node_of c.args.of.now) and none) = λ chunk frames calls state cost. refl in
    halted_behind (evaluation node c.args.self.now) (operating making ((node_of c.args.of.now) and none) c.args.self.now) c.one.new.self (begins_before node making ((node_of c.args.of.now) and none) begins c.args.self.now) c.in-Stopped.ensures

pub all_values-parts-preserved : goal.all_values-parts-preserved
all_values-parts-preserved t c =
    let making = machine.Math (math_in c.args.function) c.args.line in
    let all = nodes (map node_of c.args.args.now) in
    let others = nodes (map node_of c.in-Some.others.now) in
    let passed = next_left making all c.parts.left.now c.in-Some.next.now c.in-Some.others.now c.parts.count c.args.self.now c.parts.self c.in-Some.ensures.cases.0 c.parts.invariant in
    subst (λ n. IsPassed making all others n c.args.self.now c.part_value.new.self) (sym c.in-Some-checked_add.ensures.1)
    (one_passed making all (node_of c.in-Some.next.now) others c.parts.count c.args.self.now c.parts.self c.part_value.new.self passed c.in-Given.ensures)

pub all_values-returns-in-Waits : goal.all_values-returns-in-Waits
all_values-returns-in-Waits t c =
    let making = machine.Math (math_in c.args.function) c.args.line in
    let all = nodes (map node_of c.args.args.now) in
    let passed = next_left making all c.parts.left.now c.in-Some.next.now c.in-Some.others.now c.parts.count c.args.self.now c.parts.self c.in-Some.ensures.cases.0 c.parts.invariant in
    waits_in_part making all (node_of c.in-Some.next.now) (nodes (map node_of c.in-Some.others.now)) c.parts.count c.args.self.now c.parts.self c.part_value.new.self passed c.in-Waits.ensures

pub all_values-returns-in-Stopped : goal.all_values-returns-in-Stopped
all_values-returns-in-Stopped t c =
    let making = machine.Math (math_in c.args.function) c.args.line in
    let all = nodes (map node_of c.args.args.now) in
    let passed = next_left making all c.parts.left.now c.in-Some.next.now c.in-Some.others.now c.parts.count c.args.self.now c.parts.self c.in-Some.ensures.cases.0 c.parts.invariant in
    halts_in_part making all (node_of c.in-Some.next.now and nodes (map node_of c.in-Some.others.now)) c.parts.count c.args.self.now c.parts.self c.part_value.new.self passed c.in-Stopped.ensures

pub all_values-returns-in-None : goal.all_values-returns-in-None
all_values-returns-in-None t c = out_of_memory (gathering (machine.Math (math_in c.args.function) c.args.line) 0 (nodes (map node_of c.args.args.now)) c.args.self.now) c.parts.self.units

pub all_values-returns-in-Ok : goal.all_values-returns-in-Ok
all_values-returns-in-Ok t c =
    let making = machine.Math (math_in c.args.function) c.args.line in
    let all = nodes (map node_of c.args.args.now) in
    let done = λ (values : List LuaValue) (state : State). math_result (math_in c.args.function) c.args.line values state in
    let passed = none_left making all c.parts.left.now c.parts.count c.args.self.now c.parts.self c.in_default.ensures.cases c.parts.invariant in
    all_passed making done all c.parts.count c.args.self.now c.parts.self c.math.new.self (λ values frames calls state cost. refl) passed c.in-Ok.ensures

pub all_values-returns-in-Err : goal.all_values-returns-in-Err
all_values-returns-in-Err t c =
    let making = machine.Math (math_in c.args.function) c.args.line in
    let all = nodes (map node_of c.args.args.now) in
    let done = λ (values : List LuaValue) (state : State). math_result (math_in c.args.function) c.args.line values state in
    let passed = none_left making all c.parts.left.now c.parts.count c.args.self.now c.parts.self c.in_default.ensures.cases c.parts.invariant in
    all_refused making done all c.parts.count c.args.self.now c.parts.self c.in-Err.why (λ values frames calls state cost. refl) passed c.in-Err.ensures

pub function_value-returns-in-Err : goal.function_value-returns-in-Err
function_value-returns-in-Err t c = math_unpaid (math_in c.args.function) c.args.line (nodes (map node_of c.args.args.now)) (state_in c.args.self.now) c.args.self.now.units c.pay.new.self c.in-Err.why c.in-Err.ensures

pub sides_value-returns-in-Ok : goal.sides_value-returns-in-Ok
sides_value-returns-in-Ok t c =
    let making = machine.Floors c.args.of.line in
    let left = node_of c.args.of.left.now in
    let right = node_of c.args.of.right.now in
    let all = left and right and none in
    let m = c.args.self.now in
    let done = λ (values : List LuaValue) (state : State). floor_result c.args.of.line values state in
    let one = one_passed making all left (right and none) 0 m m c.part_value.new.self (none_passed making all m) c.in-Given.ensures in
    let both = one_passed making all right none 1 m c.part_value.new.self c.part_value-in-Given.new.self one c.in-Given-part_value.ensures in
    all_passed making done all 2 m c.part_value-in-Given.new.self c.floors.new.self (λ values frames calls state cost. refl) both c.in-Ok.ensures

pub sides_value-returns-in-Err : goal.sides_value-returns-in-Err
sides_value-returns-in-Err t c =
    let making = machine.Floors c.args.of.line in
    let left = node_of c.args.of.left.now in
    let right = node_of c.args.of.right.now in
    let all = left and right and none in
    let m = c.args.self.now in
    let done = λ (values : List LuaValue) (state : State). floor_result c.args.of.line values state in
    let one = one_passed making all left (right and none) 0 m m c.part_value.new.self (none_passed making all m) c.in-Given.ensures in
    let both = one_passed making all right none 1 m c.part_value.new.self c.part_value-in-Given.new.self one c.in-Given-part_value.ensures in
    all_refused making done all 2 m c.part_value-in-Given.new.self c.in-Err.why (λ values frames calls state cost. refl) both c.in-Err.ensures

pub sides_value-returns-in-Waits-part_value : goal.sides_value-returns-in-Waits-part_value
sides_value-returns-in-Waits-part_value t c =
    let making = machine.Floors c.args.of.line in
    let left = node_of c.args.of.left.now in
    let right = node_of c.args.of.right.now in
    let all = left and right and none in
    let m = c.args.self.now in
    let one = one_passed making all left (right and none) 0 m m c.part_value.new.self (none_passed making all m) c.in-Given.ensures in
    waits_in_part making all right none 1 m c.part_value.new.self c.part_value-in-Given.new.self one c.in-Waits-part_value.ensures

pub sides_value-returns-in-Stopped-part_value : goal.sides_value-returns-in-Stopped-part_value
sides_value-returns-in-Stopped-part_value t c =
    let making = machine.Floors c.args.of.line in
    let left = node_of c.args.of.left.now in
    let right = node_of c.args.of.right.now in
    let all = left and right and none in
    let m = c.args.self.now in
    let one = one_passed making all left (right and none) 0 m m c.part_value.new.self (none_passed making all m) c.in-Given.ensures in
    halts_in_part making all (right and none) 1 m c.part_value.new.self c.part_value-in-Given.new.self one c.in-Stopped-part_value.ensures

pub floor_value-returns-in-Err : goal.floor_value-returns-in-Err
floor_value-returns-in-Err t c = floor_unpaid (machine.Floors c.args.of.line) (node_of c.args.of.left.now) (node_of c.args.of.right.now and none) (state_in c.args.self.now) c.args.self.now.units c.pay_all.new.self c.in-Err.why c.in-Err.ensures

pub call_value-returns-in-Some : goal.call_value-returns-in-Some
call_value-returns-in-Some t c = calls_math c.math_value.result c.args.name.now (math_in c.in-Some.function) (nodes (map node_of c.args.args.now)) c.args.line c.args.self.now c.math_value.new.self (sym (ap (option_map math_in) c.in-Some.is) ∙ c.math_function.ensures) c.math_value.ensures

pub call_value-returns-in-None : goal.call_value-returns-in-None
call_value-returns-in-None t c = calls_unknown c.unknown_value.result c.args.name.now (nodes (map node_of c.args.args.now)) c.args.line c.args.self.now c.unknown_value.new.self (sym (ap (option_map math_in) c.in-None.is) ∙ c.math_function.ensures) c.unknown_value.ensures
