-- A call of the machine gives one answer at most.
use Rattle.std.proofs.Common.{◌≡◌, ℕ, List, [], refl, ap, sym, subst, Result}
use Rattle.lua_machine.specs.Tree.{ItemNode}
use Rattle.lua_machine.specs.Value.{Fault}
use Rattle.lua_machine.specs.State.{State, entered}
use Rattle.lua_machine.specs.Functions.{Function}
use Rattle.lua_machine.specs.Yields.{Runs, Gone, goes, loops}
use Rattle.lua_machine.specs.Answer.{Assigns, no_more, function, stopped, assignment, Yields, no_start, yields, PlainValue, plain_result, plain_value, plain_cost}
use Rattle.lua_machine.proofs.Once.{Same, clash, some_same, sum2, going, once_statement, once_runs}

once_assigns : {chunk items : List ItemNode} {state last : State} {gone other : Gone} {cost more : ℕ} → Assigns chunk state items gone cost → state ≡ last → Assigns chunk last items other more → Same gone other cost more
once_assigns no_more st no_more = (ap goes st, refl)
once_assigns (function p) st (function q) = once_assigns p st q
once_assigns (stopped p) st (stopped q) = once_statement p st q
once_assigns (stopped p) st (assignment q q2) = absurd (clash _ _ refl refl (sym (ap (λ (g : Gone). loops g.way) (once_statement p st q).0)))
once_assigns (assignment p p2) st (stopped q) = absurd (clash _ _ refl refl (ap (λ (g : Gone). loops g.way) (once_statement p st q).0))
once_assigns (assignment p p2) st (assignment q q2) =
    let l = once_statement p st q in
    let r = once_assigns p2 (going _ _ l.0) q2 in
    (r.0, sum2 _ _ _ _ l.1 r.1)

pub yields_once : (chunk : List ItemNode) (called : List ℕ) (seed : ℕ) (one other : Result PlainValue Fault) (cost more : ℕ) → Yields chunk called seed one cost → Yields chunk called seed other more → (one ≡ other) × (cost ≡ more)
yields_once chunk called seed one other cost more (no_start p) (no_start q) = let l = once_assigns p refl q in (ap (λ (g : Gone). plain_value (plain_result g)) l.0, l.1)
yields_once chunk called seed one other cost more (no_start p) (yields q f2 r2) = absurd (clash _ _ refl refl (sym (ap (λ (g : Gone). loops g.way) (once_assigns p refl q).0)))
yields_once chunk called seed one other cost more (yields p f1 r) (no_start q) = absurd (clash _ _ refl refl (ap (λ (g : Gone). loops g.way) (once_assigns p refl q).0))
yields_once chunk called seed one other cost more (yields {function = found} p f1 r) (yields {more = more2} {now = last} {gone = gone2} q f2 r2) =
    let l = once_assigns p refl q in
    let same = some_same _ _ _ f1 f2 in
    let m = once_runs r (ap (λ (s : State). entered found.params [] s) (going _ _ l.0)) (subst (λ (fn : Function). Runs chunk 1 (entered fn.params [] last) fn.body gone2 more2) (sym same) r2) in
    (ap (λ (g : Gone). plain_value (plain_result g)) m.0, sum2 _ _ _ _ (sum2 _ _ _ _ l.1 m.1) (ap (λ (g : Gone). plain_cost (plain_result g)) m.0))
