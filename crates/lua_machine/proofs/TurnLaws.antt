-- A whole call: its assignments, its function and its plain value, by turns and as it is told.
use Rattle.std.proofs.Common.{◌≡◌, ◌↔◌, ℕ, zero, suc, ◌+◌, List, [], ◌∷◌, refl, ap, ◌∙◌, sym, subst, Ok, Err, Result, arith}
use Rattle.std.specs.Prelude.{Some}
use Rattle.lua_machine.specs.Tree as t
use Rattle.lua_machine.specs.Tree.{Node, StatementNode, BlockNode, ItemNode}
use Rattle.lua_machine.specs.Value.{LuaValue, Fault}
use Rattle.lua_machine.specs.State.{State, fresh, entered, assigned}
use Rattle.lua_machine.specs.Functions.{Function, function_of}
use Rattle.lua_machine.specs.Yields.{Executes, Runs, Gone, Way, Goes, Breaks, Returns, Fails, goes, stops, done_parts}
use Rattle.lua_machine.specs.Yields as y
use Rattle.lua_machine.specs.Answer.{PlainValue, Assigns, no_more, function, stopped, assignment, Yields, no_start, yields, plain_result, plain_value, plain_cost}
use Rattle.lua_machine.specs.Machine.{Items, Machine, Turned, Next, Ended}
use Rattle.lua_machine.specs.Turn.{back_by, running, assigning, begins, turn, after_turns, Ends}
use Rattle.lua_machine.proofs.Once.{some_same}
use Rattle.lua_machine.proofs.Reached as r
use Rattle.lua_machine.proofs.Found as f

-- behind the assignments
abbrev entered_by : Function → Way → State → ℕ → Turned
entered_by main (Fails why) state total = Ended (Err why) total
entered_by main way state total = running main.body [] 1 (entered main.params [] state) total

nothing_before : (cost : ℕ) → cost ≡ 0 + cost
nothing_before cost = omega arith

nothing_behind : (cost : ℕ) → cost ≡ cost + 0
nothing_behind cost = omega arith

-- ---- from the derivation to the turns

module _ (chunk : List ItemNode) (main : Function) (answer : Result PlainValue Fault) (all : ℕ) where
  once : (m : Machine) → Ends chunk main (turn chunk main m) answer all → Ends chunk main (Next m) answer all
  once m h = (suc h.0, h.1)

  assigns : {state : State} {items : List ItemNode} {gone : Gone} {cost : ℕ} → Assigns chunk state items gone cost → (c total : ℕ) → total ≡ c + cost →
      Ends chunk main (entered_by main gone.way gone.state total) answer all → Ends chunk main (assigning main items state c) answer all
  assigns (no_more {state = state}) c total e k = subst (λ n. Ends chunk main (running main.body [] 1 (entered main.params [] state) n) answer all) (r.nothing_more total c e) k
  assigns (function p) c total e k = assigns p c total e k
  assigns (stopped {more = more} p) c total e k = r.statement chunk main (λ from. Ends chunk main from answer all) once p (Items more ∷ []) c total e k
  assigns (assignment {more = more} {cost = cost} p q) c total e k =
      r.statement chunk main (λ from. Ends chunk main from answer all) once p (Items more ∷ []) c (c + cost) refl (once _ (assigns q (c + cost) total (r.behind_two _ _ _ _ e) k))

-- the function's way out, with no frame left
finished_at : (chunk : List ItemNode) (main : Function) (way : Way) (state : State) (cost : ℕ) →
    Ends chunk main (back_by way state [] 1 cost) (plain_value (plain_result (record { way = way; state = state }))) (cost + plain_cost (plain_result (record { way = way; state = state })))
finished_at chunk main Goes state cost = (1, refl)
finished_at chunk main Breaks state cost = (1, refl)
finished_at chunk main (Returns value) state cost = (1, refl)
finished_at chunk main (Fails why) state cost = (0, ap (Ended (Err why)) (nothing_behind cost))

to_turns : (chunk : List ItemNode) (called : List ℕ) (seed : ℕ) (main : Function) (answer : Result PlainValue Fault) (cost : ℕ) → function_of chunk called ≡ Some main →
    Yields chunk called seed answer cost → Ends chunk main (begins chunk main seed) answer cost
to_turns chunk called seed main answer cost is (no_start {why = why} p) = assigns chunk main (Err why) cost p 0 cost (nothing_before cost) (0, refl)
to_turns chunk called seed main answer all is (yields {cost = cost} {more = more} {now = now} {function = found} {gone = gone} p same q) =
    let run : Runs chunk 1 (entered main.params [] now) main.body gone more = subst (λ (fn : Function). Runs chunk 1 (entered fn.params [] now) fn.body gone more) (some_same _ _ _ same is) q in
    let result = plain_result gone in
    let total = cost + more + plain_cost result in
    assigns chunk main (plain_value result) total p 0 cost (nothing_before cost)
    (r.block chunk main (λ from. Ends chunk main from (plain_value result) total) (once chunk main (plain_value result) total) run [] cost (cost + more) refl (finished_at chunk main gone.way gone.state (cost + more)))

-- ---- from the turns to the derivation

-- an assignment goes on or fails
abbrev GoesOrFails : Way → Type 0
GoesOrFails Goes = Unit {0}
GoesOrFails Breaks = ⊥
GoesOrFails (Returns value) = ⊥
GoesOrFails (Fails why) = Unit {0}

goes_or_fails : (called : List ℕ) (outcome : Result LuaValue Fault) (state : State) → GoesOrFails (done_parts outcome state (λ given now. goes (assigned called given now))).way
goes_or_fails called (Ok value) state = tt
goes_or_fails called (Err why) state = tt

assignment_way : {chunk : List ItemNode} {calls cost : ℕ} {state : State} {called : List ℕ} {of : Node} {gone : Gone} → Executes chunk calls state (t.Assign called of) gone cost → GoesOrFails gone.way
assignment_way (y.assign {called = called} {done = done} p) = goes_or_fails called done.outcome done.state

module _ (chunk : List ItemNode) (main : Function) (answer : Result PlainValue Fault) (all : ℕ) where
  abbrev Within : ℕ → Turned → Type 0
  Within n from = after_turns chunk main n from ≡ Ended answer all

  never : (m : Machine) → Within zero (Next m) → ⊥
  never m same = cc

  step : (n : ℕ) (m : Machine) → Within (suc n) (Next m) → Within n (turn chunk main m)
  step n m same = same

  more : (n : ℕ) (from : Turned) → Within n from → Within (suc n) from
  more n (Ended given cost) same = same
  more zero (Next m) same = absurd (never m same)
  more (suc n) (Next m) same = more n (turn chunk main m) same

  data Assigned (n : ℕ) (items : List ItemNode) (state : State) (c : ℕ) : Type 0 where
    went : (now : State) (cost total : ℕ) → Assigns chunk state items (goes now) cost → total ≡ c + cost → Within n (running main.body [] 1 (entered main.params [] now) total) → Assigned n items state c
    failed : (why : Fault) (now : State) (cost total : ℕ) → Assigns chunk state items (stops why now) cost → total ≡ c + cost → Within n (Ended (Err why) total) → Assigned n items state c

  behind_function : (n : ℕ) (called : List ℕ) (params : List (List ℕ)) (body : BlockNode) (items : List ItemNode) (state : State) (c : ℕ) → Assigned n items state c → Assigned n (t.Function called params body ∷ items) state c
  behind_function n called params body items state c (went now cost total p e h) = went now cost total (function p) e h
  behind_function n called params body items state c (failed why now cost total p e h) = failed why now cost total (function p) e h

  two_sums : (total middle c k m : ℕ) → middle ≡ c + k → total ≡ middle + m → total ≡ c + (k + m)
  two_sums total middle c k m e g = omega arith

  behind_set : (n : ℕ) (called : List ℕ) (of : Node) (items : List ItemNode) (state : State) (c : ℕ) (now : State) (cost middle : ℕ) →
      Executes chunk 0 state (t.Assign called of) (goes now) cost → middle ≡ c + cost → Assigned n items now middle → Assigned n (t.Set called of ∷ items) state c
  behind_set n called of items state c now cost middle p e (went last further total q g h) = went last (cost + further) total (assignment p q) (two_sums _ _ _ _ _ e g) h
  behind_set n called of items state c now cost middle p e (failed why last further total q g h) = failed why last (cost + further) total (assignment p q) (two_sums _ _ _ _ _ e g) h

  set_by : (n : ℕ) (called : List ℕ) (of : Node) (items : List ItemNode) (state : State) (c : ℕ) → ((now : State) (c : ℕ) → Within n (assigning main items now c) → Assigned n items now c) →
      (way : Way) (now : State) (cost total : ℕ) → GoesOrFails way → Executes chunk 0 state (t.Assign called of) (record { way = way; state = now }) cost → total ≡ c + cost →
      Within n (back_by way now (Items items ∷ []) 0 total) → Assigned n (t.Set called of ∷ items) state c
  set_by zero called of items state c go Goes now cost total plain p e h = absurd (never _ h)
  set_by (suc n) called of items state c go Goes now cost total plain p e h = behind_set (suc n) called of items state c now cost total p e (go now total (more n _ h))
  set_by n called of items state c go Breaks now cost total plain p e h = absurd plain
  set_by n called of items state c go (Returns value) now cost total plain p e h = absurd plain
  set_by n called of items state c go (Fails why) now cost total plain p e h = failed why now cost total (stopped p) e h

  all_assigned : (n : ℕ) (items : List ItemNode) (state : State) (c : ℕ) → Within n (assigning main items state c) → Assigned n items state c
  all_assigned n [] state c h = went state 0 c no_more (nothing_behind c) h
  all_assigned n (t.Function called params body ∷ items) state c h = behind_function n called params body items state c (all_assigned n items state c h)
  all_assigned n (t.Set called of ∷ items) state c h =
      let p = (f.found chunk main Within never step more n).statement (t.Assign called of) (Items items ∷ []) 0 state c h in
      set_by n called of items state c (λ now c. all_assigned n items now c) p.given.way p.given.state p.cost p.total (assignment_way p.derived) p.derived p.sum p.rest

  -- the function's way out, with no frame left
  abbrev end_of : Way → State → ℕ → Turned
  end_of way state cost = Ended (plain_value (plain_result (record { way = way; state = state }))) (cost + plain_cost (plain_result (record { way = way; state = state })))

  ended_at : (n : ℕ) (way : Way) (state : State) (cost : ℕ) → Within n (back_by way state [] 1 cost) → end_of way state cost ≡ Ended answer all
  ended_at zero Goes state cost h = absurd (never _ h)
  ended_at (suc n) Goes state cost h = h
  ended_at zero Breaks state cost h = absurd (never _ h)
  ended_at (suc n) Breaks state cost h = h
  ended_at zero (Returns value) state cost h = absurd (never _ h)
  ended_at (suc n) (Returns value) state cost h = h
  ended_at n (Fails why) state cost h = ap (Ended (Err why)) (sym (nothing_behind cost)) ∙ h

abbrev answer_of : Result PlainValue Fault → Turned → Result PlainValue Fault
answer_of otherwise (Next m) = otherwise
answer_of otherwise (Ended answer cost) = answer

abbrev cost_of : Turned → ℕ
cost_of (Next m) = 0
cost_of (Ended answer cost) = cost

-- the same end, the same answer at the same cost
same_end : (chunk : List ItemNode) (called : List ℕ) (seed : ℕ) (one answer : Result PlainValue Fault) (cost all : ℕ) → Ended one cost ≡ Ended answer all → Yields chunk called seed one cost → Yields chunk called seed answer all
same_end chunk called seed one answer cost all same p =
    subst (λ n. Yields chunk called seed answer n) (ap cost_of same) (subst (λ a. Yields chunk called seed a cost) (ap (answer_of one) same) p)

from_assigned : (chunk : List ItemNode) (called : List ℕ) (seed : ℕ) (main : Function) (answer : Result PlainValue Fault) (all : ℕ) → function_of chunk called ≡ Some main → (n : ℕ) →
    Assigned chunk main answer all n chunk (fresh seed) 0 → Yields chunk called seed answer all
from_assigned chunk called seed main answer all is n (went now cost total p e h) =
    let q = f.block_found chunk main (Within chunk main answer all) (never chunk main answer all) (step chunk main answer all) (more chunk main answer all) n main.body [] 1 (entered main.params [] now) total h in
    let middle : total ≡ cost = e ∙ sym (nothing_before cost) in
    let last : q.total ≡ cost + q.cost = q.sum ∙ ap (λ k. k + q.cost) middle in
    same_end chunk called seed (plain_value (plain_result q.given)) answer (cost + q.cost + plain_cost (plain_result q.given)) all
    (ap (λ k. Ended (plain_value (plain_result q.given)) (k + plain_cost (plain_result q.given))) (sym last) ∙ ended_at chunk main answer all n q.given.way q.given.state q.total q.rest)
    (yields p is q.derived)
from_assigned chunk called seed main answer all is n (failed why now cost total p e h) =
    same_end chunk called seed (Err why) answer cost all (ap (Ended (Err why)) (sym (e ∙ sym (nothing_before cost))) ∙ h) (no_start p)

from_turns : (chunk : List ItemNode) (called : List ℕ) (seed : ℕ) (main : Function) (answer : Result PlainValue Fault) (cost : ℕ) → function_of chunk called ≡ Some main →
    Ends chunk main (begins chunk main seed) answer cost → Yields chunk called seed answer cost
from_turns chunk called seed main answer cost is h = from_assigned chunk called seed main answer cost is h.0 (all_assigned chunk main answer cost h.0 chunk (fresh seed) 0 h.1)

pub turns_yield : (chunk : List ItemNode) (called : List ℕ) (seed : ℕ) (main : Function) (answer : Result PlainValue Fault) (cost : ℕ) → function_of chunk called ≡ Some main →
    Yields chunk called seed answer cost ↔ Ends chunk main (begins chunk main seed) answer cost
turns_yield chunk called seed main answer cost is = (to_turns chunk called seed main answer cost is, from_turns chunk called seed main answer cost is)
