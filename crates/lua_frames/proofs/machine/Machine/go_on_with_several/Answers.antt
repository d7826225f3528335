use Rattle.std.proofs.Common.{◌≡◌, List, ◌∷◌, map, ap, subst, Ok, Some, None}
use Rattle.lua_tree.specs.declared.tree.Expr.{Expr}
use Rattle.lua_machine.specs.Tree.{Node, node_of, nodes}
use Rattle.lua_frames.specs.Frames.{making_of}
use Rattle.lua_frames.specs.Turns.{Reaches}
use Rattle.lua_frames.specs.Values.{Leads, Passes, parts_left}
use Rattle.lua_frames.proofs.Reaching.{comes_behind, reaches_itself, reaches_through}
use Rattle.lua_frames.proofs.Valuing.{leads_to, none_left}
use Rattle.lua_frames.proofs.machine.Machine.go_on_with_several.Goals as goal

pub parts-init : goal.parts-init
parts-init c = reaches_itself _

pub returns-in-Ok-Some : goal.returns-in-Ok-Some
returns-in-Ok-Some c =
    let making = making_of c.args.making in
    let from = parts_left making c.args.start (nodes (map node_of c.args.all.now)) c.args.self.now in
    let split : map node_of c.parts.left.now ≡ node_of c.in-Some.next.now ∷ map node_of c.in-Some.others.now = ap (λ (all : List Expr). map node_of all) c.in-Some.ensures.cases.0 in
    let before : Reaches from (parts_left making c.parts.count (nodes (node_of c.in-Some.next.now ∷ map node_of c.in-Some.others.now)) c.parts.self) =
    subst (λ (all : List Node). Reaches from (parts_left making c.parts.count (nodes all) c.parts.self)) split c.parts.invariant in
    let passes : Passes (Ok (Some c.in-Ok-Some.control)) making c.parts.count (node_of c.in-Some.next.now) (nodes (map node_of c.in-Some.others.now)) c.parts.self c.take_part.new.self = rw c.in-Ok-Some.field-0-is at c.in-Ok-Some.ensures.passes in
    comes_behind before passes

pub returns-in-Err : goal.returns-in-Err
returns-in-Err c =
    let making = making_of c.args.making in
    let from = parts_left making c.args.start (nodes (map node_of c.args.all.now)) c.args.self.now in
    let split : map node_of c.parts.left.now ≡ node_of c.in-Some.next.now ∷ map node_of c.in-Some.others.now = ap (λ (all : List Expr). map node_of all) c.in-Some.ensures.cases.0 in
    let before : Reaches from (parts_left making c.parts.count (nodes (node_of c.in-Some.next.now ∷ map node_of c.in-Some.others.now)) c.parts.self) =
    subst (λ (all : List Node). Reaches from (parts_left making c.parts.count (nodes all) c.parts.self)) split c.parts.invariant in
    comes_behind before c.in-Err.ensures.passes

pub parts-preserved : goal.parts-preserved
parts-preserved c =
    let making = making_of c.args.making in
    let from = parts_left making c.args.start (nodes (map node_of c.args.all.now)) c.args.self.now in
    let split : map node_of c.parts.left.now ≡ node_of c.in-Some.next.now ∷ map node_of c.in-Some.others.now = ap (λ (all : List Expr). map node_of all) c.in-Some.ensures.cases.0 in
    let before : Reaches from (parts_left making c.parts.count (nodes (node_of c.in-Some.next.now ∷ map node_of c.in-Some.others.now)) c.parts.self) =
    subst (λ (all : List Node). Reaches from (parts_left making c.parts.count (nodes all) c.parts.self)) split c.parts.invariant in
    let leads : Leads (Ok None) making c.parts.count (node_of c.in-Some.next.now) (nodes (map node_of c.in-Some.others.now)) c.parts.self c.take_part.new.self = rw c.in-Ok-None.field-0-is at c.in-Ok-None.ensures.leads in
    reaches_through before (leads_to making c.parts.count c.in_ok-more.more (nodes (map node_of c.in-Some.others.now)) _ c.take_part.new.self c.in_ok-more.ensures leads)

pub returns : goal.returns
returns c = comes_behind (none_left (making_of c.args.making) c.parts.count c.parts.left.now (parts_left (making_of c.args.making) c.args.start (nodes (map node_of c.args.all.now)) c.args.self.now) c.parts.self c.in_default.ensures.cases c.parts.invariant) c.make.ensures
