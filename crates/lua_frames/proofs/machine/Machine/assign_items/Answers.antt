use Rattle.std.proofs.Common.{◌≡◌, ◌∙◌, List, [], ◌∷◌, ◌++◌, reverse, ap, subst, Option}
use Rattle.lua_machine.specs.Machine.{Turned, Next, Execute}
use Rattle.lua_machine.specs.Tree as t
use Rattle.lua_machine.specs.Tree.{node_of, items_of}
use Rattle.lua_frames.specs.Assignments.{Assigned}
use Rattle.lua_frames.specs.declared.frame.Frame.{Frame}
use Rattle.lua_frames.specs.declared.frame.Frame.TheVariants as f
use Rattle.lua_frames.specs.Frames.{frames_of, waits_in}
use Rattle.lua_frames.specs.Machines.{state_in, store_in}
use Rattle.lua_frames.specs.Parts.{function_in}
use Rattle.lua_frames.specs.Turns.{Turns}
use Rattle.lua_frames.proofs.Assigning.{assigning_first, first_comes}
use Rattle.lua_frames.proofs.machine.Machine.assign_items.Goals as goal

pub returns-in_ok-push_frame-in-Some : goal.returns-in_ok-push_frame-in-Some
returns-in_ok-push_frame-in-Some c =
    let m = c.args.self.now in
    let next = c.in-Some.next in
    let frames : c.push_frame.new.frames.items ≡ f.Items next.others ∷ [] = c.in_ok-push_frame-in-Some.ensures ∙ ap (λ all. all ++ f.Items next.others ∷ []) c.clear.ensures.items in
    ap (λ (all : List Frame). Next (record { control = Execute (t.Assign next.name.now (node_of next.value.now)); frames = frames_of (reverse all) (waits_in (store_in m)); calls = 0; state = state_in m; cost = m.units })) frames
    ∙ ap (λ (a : Option Assigned). assigning_first (function_in c.args.main) a (state_in m) m.units) c.in-Some.ensures
    ∙ first_comes (function_in c.args.main) (items_of c.args.items.now) (state_in m) m.units

pub returns-in-None : goal.returns-in-None
returns-in-None c =
    let m = c.args.self.now in
    subst (λ (wanted : Turned). Turns c.enter_main.result c.enter_main.new.self wanted)
    (ap (λ (a : Option Assigned). assigning_first (function_in c.args.main) a (state_in m) m.units) c.in-None.ensures ∙ first_comes (function_in c.args.main) (items_of c.args.items.now) (state_in m) m.units)
    c.enter_main.ensures
