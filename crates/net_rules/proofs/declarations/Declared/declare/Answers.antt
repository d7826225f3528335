use Rattle.std.proofs.Common.{ap}
use Rattle.std.proofs.lemmas.Result.{on_ok_weaker}
use Rattle.net_rules.specs.Known.{kind_view, declaration_view}
use Rattle.net_rules.proofs.Declaring.{keeps_as, channel_fault, channel_known, process_fault, process_known}
use Rattle.net_rules.proofs.declarations.Declared.declare.Goals as goal

pub returns-in-Channel : goal.returns-in-Channel
returns-in-Channel c =
    λ earlier knows.
    let d = declaration_view c.args.declaration.now in
    let is = ap kind_view c.in-Channel.is in (
      keeps_as c.take_name.result _ _ (channel_fault _ _ _ _ earlier knows d is) c.take_name.ensures.fault,
      on_ok_weaker c.take_name.result (λ taken. channel_known _ _ _ _ earlier knows d is c.take_name.new.taken taken) c.take_name.ensures.taken,
    )

pub returns-in-Process : goal.returns-in-Process
returns-in-Process c =
    λ earlier knows.
    let d = declaration_view c.args.declaration.now in
    let is = ap kind_view c.in-Process.is in (
      keeps_as c.take_name-in-Process.result _ _ (process_fault _ _ _ _ earlier knows d is) c.take_name-in-Process.ensures.fault,
      on_ok_weaker c.take_name-in-Process.result (λ taken. process_known _ _ _ _ earlier knows d is c.take_name-in-Process.new.taken taken) c.take_name-in-Process.ensures.taken,
    )
