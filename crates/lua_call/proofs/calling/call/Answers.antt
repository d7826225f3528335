use Rattle.std.proofs.Common.{◌≡◌, ◌∙◌, sym, subst, Some}
use Rattle.std.specs.Prelude.{IfErr}
use Rattle.lua_machine.specs.Functions.{function_of}
use Rattle.lua_machine.specs.Tree.{items_of}
use Rattle.lua_frames.specs.Parts.{function_in}
use Rattle.lua_call.specs.Calls.{Fails}
use Rattle.lua_call.proofs.Answering.{all_fail}
use Rattle.lua_call.proofs.calling.call.Goals as goal

pub returns-clause-fails : goal.returns-clause-fails
returns-clause-fails c =
    let items = c.in_ok-functions.functions in
    let found : function_of (items_of items) c.args.name.now ≡ Some (function_in c.in-Some.main) = sym c.in-Some.ensures in
    subst (λ all. IfErr c.run_call.result (λ why. Fails why (items_of all) c.args.name.now c.args.seed)) (c.in_ok-functions.ensures ∙ c.items.ensures)
    (all_fail c.turns_yield.ensures.answers c.turns_yield.ensures.budget (items_of items) c.args.name.now c.args.seed (function_in c.in-Some.main) c.run_call.result found c.run_call.ensures)
