use Rattle.std.proofs.Common.{◌≡◌, ◌∙◌, refl, sym, subst, Ok}
use Rattle.lua_machine.specs.Machine.{Next, Turned}
use Rattle.lua_machine.specs.Tree.{items_of}
use Rattle.lua_machine.specs.Turn.{turn}
use Rattle.lua_frames.specs.Machines.{machine_of}
use Rattle.lua_frames.specs.Parts.{function_in}
use Rattle.lua_frames.specs.Steps.{Arrives}
use Rattle.lua_frames.specs.declared.turns.Step.TheVariants as s
use Rattle.lua_call.specs.Running.{Leads}
use Rattle.lua_call.proofs.Turning.{leads_over, none_paid, pays_over}
use Rattle.lua_call.proofs.running.run_until_paid.Goals as goal

pub returns-then-spent-before-clause-came : goal.returns-then-spent-before-clause-came
returns-then-spent-before-clause-came c =
    let chunk = items_of c.args.functions.now in
    let main = function_in c.args.main in
    let m = machine_of c.unpaid.control c.unpaid.machine in
    let arrives : Arrives (Ok (s.Next c.in-Ok-Next.next)) c.turn.new.self (turn chunk main m) = rw c.in-Ok-Next.field-0-is at c.in-Ok-Next.ensures in
    record { wanted = arrives.to; leads = leads_over m arrives.to c.unpaid.invariant.leads arrives.reaches; step = arrives.step }

pub unpaid-smaller : goal.unpaid-smaller
unpaid-smaller c =
    let chunk = items_of c.args.functions.now in
    let main = function_in c.args.main in
    let m = machine_of c.unpaid.control c.unpaid.machine in
    let next = machine_of c.in-Ok-Next.next c.turn.new.self in
    let arrives : Arrives (Ok (s.Next c.in-Ok-Next.next)) c.turn.new.self (turn chunk main m) = rw c.in-Ok-Next.field-0-is at c.in-Ok-Next.ensures in
    (none_paid c.spent-before.result m.cost next.cost c.spent.result c.unpaid.invariant.unpaid c.spent.ensures.exact c.if-spent-before.false
    (pays_over c.turns_yield.ensures.progress chunk main arrives.reaches.turns m (turn chunk main m) next refl (arrives.reaches.after chunk main ∙ sym arrives.step))).1

pub unpaid-preserved : goal.unpaid-preserved
unpaid-preserved c =
    let chunk = items_of c.args.functions.now in
    let main = function_in c.args.main in
    let m = machine_of c.unpaid.control c.unpaid.machine in
    let next = machine_of c.in-Ok-Next.next c.turn.new.self in
    let from = Next (machine_of c.args.start c.args.machine.now) in
    let arrives : Arrives (Ok (s.Next c.in-Ok-Next.next)) c.turn.new.self (turn chunk main m) = rw c.in-Ok-Next.field-0-is at c.in-Ok-Next.ensures in
    record {
      leads = subst (λ (t : Turned). Leads chunk main from t) (sym arrives.step) (leads_over m arrives.to c.unpaid.invariant.leads arrives.reaches);
      unpaid = (none_paid c.spent-before.result m.cost next.cost c.spent.result c.unpaid.invariant.unpaid c.spent.ensures.exact c.if-spent-before.false
          (pays_over c.turns_yield.ensures.progress chunk main arrives.reaches.turns m (turn chunk main m) next refl (arrives.reaches.after chunk main ∙ sym arrives.step))).0;
    }

pub returns-in-Ok-Ended-clause-came : goal.returns-in-Ok-Ended-clause-came
returns-in-Ok-Ended-clause-came c =
    let chunk = items_of c.args.functions.now in
    let main = function_in c.args.main in
    let m = machine_of c.unpaid.control c.unpaid.machine in
    let arrives : Arrives (Ok (s.Ended c.in-Ok-Ended.way)) c.turn.new.self (turn chunk main m) = rw c.in-Ok-Ended.field-0-is at c.in-Ok-Ended.ensures in
    record { wanted = arrives.to; leads = leads_over m arrives.to c.unpaid.invariant.leads arrives.reaches; step = arrives.step }

pub returns-in-Err-clause-came : goal.returns-in-Err-clause-came
returns-in-Err-clause-came c =
    let m = machine_of c.unpaid.control c.unpaid.machine in
    let arrives = c.in-Err.ensures in
    record { wanted = arrives.to; leads = leads_over m arrives.to c.unpaid.invariant.leads arrives.reaches; step = arrives.step }
