-- Turns of a `for` that are executed where they stand, one after the other.
use Rattle.std.proofs.Common.{◌≡◌, ◌∙◌, ℕ, ◌+◌, true, List, ◌∷◌, [], length, refl, sym, ap, subst, reverse, Ok, Err}
use Rattle.std.specs.Borrow.{Bor}
use Rattle.lua_tree.specs.declared.tree.LuaBlock.{LuaBlock}
use Rattle.lua_machine.specs.Machine as machine
use Rattle.lua_machine.specs.Machine.{Turned, Next, ForBody}
use Rattle.lua_machine.specs.State.{State, gives}
use Rattle.lua_machine.specs.Tree.{BlockNode, block_of}
use Rattle.lua_machine.specs.Turn.{back, cut_to, left, running, turning, turning_if}
use Rattle.lua_machine.specs.Yields as lua
use Rattle.lua_machine.specs.Yields.{Bounds, comes, goes, next_turn}
use Rattle.lua_state.specs.Held.{store_of}
use Rattle.lua_state.specs.Loops.{closed, newest_bounds}
use Rattle.lua_state.specs.Loops as loops
use Rattle.lua_state.specs.Store.{Store, in_state}
use Rattle.lua_state.specs.declared.state.LuaState.{LuaState}
use Rattle.lua_frames.specs.declared.control.Control.TheVariants as c
use Rattle.lua_frames.specs.declared.frame.Frame.{Frame}
use Rattle.lua_frames.specs.declared.frame.Frame.TheVariants as f
use Rattle.lua_frames.specs.declared.machine.Machine.{Machine}
use Rattle.lua_frames.specs.declared.outcome.Outcome.{Outcome}
use Rattle.lua_frames.specs.declared.outcome.Outcome.TheVariants as o
use Rattle.lua_frames.specs.Executing.{IsLeft, LeavesUnder, block}
use Rattle.lua_frames.specs.Frames.{frames_of, waits_in}
use Rattle.lua_frames.specs.Machines.{beside, control_of, frames_with, state_in, store_in}
use Rattle.lua_frames.specs.Rounds.{RoundEnds, next_round, round}
use Rattle.lua_frames.specs.Standing.{IsHalted, IsPut, IsValued}
use Rattle.lua_frames.specs.Turns.{Comes, Reaches}
use Rattle.lua_frames.proofs.Hanging.{one_reaches}
use Rattle.lua_frames.proofs.Placing.{came_halted, came_inside}
use Rattle.lua_frames.proofs.Reaching.{comes_behind, reaches_through}

-- ---- the body of a turn

-- where the machine is back with a way at the frame of a turn
abbrev back_at_turn : lua.Way → ℕ → List ℕ → Bounds → BlockNode → List machine.Frame → ℕ → State → ℕ → machine.Machine
back_at_turn way outer called bounds body frames calls state cost = record { control = machine.Back way; frames = ForBody outer called bounds body ∷ frames; calls = calls; state = state; cost = cost }

-- it came to its end
pub round_goes : (outer : ℕ) (called : List ℕ) (body : BlockNode) (old mid : Machine) (after : LuaState) → IsLeft lua.Goes (block body old) old mid → store_of after ≡ in_state (cut_to outer (state_in mid)) (store_in mid) →
    RoundEnds o.Goes outer called body old (record mid { state = after })
round_goes outer called body old mid after done cut =
    let bounds = newest_bounds (store_in old).loops in
    record {
      keeps = done.keeps;
      state = cut_to outer done.state;
      put = cut ∙ ap (λ (store : Store). in_state (cut_to outer store.state) store) done.put;
      reaches = λ frames calls. reaches_through (done.reaches (ForBody outer called bounds body ∷ frames) calls)
          (one_reaches (back_at_turn lua.Goes outer called bounds body frames calls done.state mid.units) (turning called (next_turn bounds) body frames calls (cut_to outer done.state) mid.units) (λ chunk main. refl));
    }

-- it was left by a break
pub round_breaks : (outer : ℕ) (called : List ℕ) (body : BlockNode) (old mid : Machine) (after : LuaState) → IsLeft lua.Breaks (block body old) old mid → store_of after ≡ in_state (cut_to outer (state_in mid)) (store_in mid) →
    RoundEnds o.Breaks outer called body old (record mid { state = after })
round_breaks outer called body old mid after done cut =
    let bounds = newest_bounds (store_in old).loops in
    record {
      keeps = done.keeps;
      pending = done.pending;
      state = cut_to outer done.state;
      put = cut ∙ ap (λ (store : Store). in_state (cut_to outer store.state) store) done.put;
      reaches = λ frames calls. reaches_through (done.reaches (ForBody outer called bounds body ∷ frames) calls)
          (one_reaches (back_at_turn lua.Breaks outer called bounds body frames calls done.state mid.units) (left (goes (cut_to outer done.state)) frames calls mid.units) (λ chunk main. refl));
    }

-- or by a return
pub round_returns : (outer : ℕ) (called : List ℕ) (body : BlockNode) (old mid : Machine) (after : LuaState) → IsValued (block body old) old mid → store_of after ≡ in_state (cut_to outer (state_in mid)) (store_in mid) →
    RoundEnds o.Returns outer called body old (record mid { state = after })
round_returns outer called body old mid after done cut =
    let bounds = newest_bounds (store_in old).loops in
    record {
      keeps = done.keeps;
      pending = done.pending;
      value = done.value;
      state = cut_to outer done.state;
      put = cut ∙ ap (λ (store : Store). in_state (cut_to outer store.state) store) done.put;
      reaches = λ frames calls. reaches_through (done.reaches (ForBody outer called bounds body ∷ frames) calls)
          (one_reaches (back_at_turn (lua.Returns done.value) outer called bounds body frames calls done.state mid.units) (back (gives done.value (cut_to outer done.state)) frames calls mid.units) (λ chunk main. refl));
    }

-- the frame of the turn waits under it
pub round_waits : (result : Outcome) (outer : ℕ) (called : Bor (List ℕ)) (body : Bor LuaBlock) (old new : Machine) →
    LeavesUnder result (block (block_of body.now) old) (waits_in (store_in old)) (f.ForBody outer called body) old new → RoundEnds result outer called.now (block_of body.now) old new
round_waits o.Goes outer called body old new leaves = absurd leaves
round_waits o.Breaks outer called body old new leaves = absurd leaves
round_waits o.Returns outer called body old new leaves = absurd leaves
round_waits o.Waits outer called body old new leaves = leaves
round_waits o.Stopped outer called body old new leaves = leaves (round outer called.now (block_of body.now) old)

-- turns were stopped in it
pub round_halts : (outer : ℕ) (called : List ℕ) (body : BlockNode) (old new : Machine) → IsHalted (block body old) new → RoundEnds o.Stopped outer called body old new
round_halts outer called body old new halts = λ frames calls. halts (ForBody outer called (newest_bounds (store_in old).loops) body ∷ frames) calls

-- ---- a turn of the loop

-- what the next turn of the innermost loop stands on
abbrev standing : List ℕ → BlockNode → List Frame → ℕ → Store → ℕ → Turned
standing called body frames calls store cost = turning called (next_turn (newest_bounds store.loops)) body (frames_of (reverse frames) (waits_in (closed store))) calls store.state cost

-- a turn that came
abbrev began : ℕ → List ℕ → BlockNode → List Frame → ℕ → Store → ℕ → Turned
began outer called body frames calls store cost = running body (ForBody outer called (newest_bounds store.loops) body ∷ frames_of (reverse frames) (waits_in (closed store))) calls store.state cost

-- the next turn comes, and is not paid yet
turn_came : (outer : ℕ) (called : List ℕ) (body : BlockNode) (m : Machine) (now : LuaState) → outer ≡ length (state_in m).locals → true ≡ comes (next_turn (newest_bounds (store_in m).loops)) →
    store_of now ≡ loops.turning called (next_turn (newest_bounds (store_in m).loops)) (closed (store_in m)) → next_round called body m ≡ began outer called body m.frames.items m.calls (store_of now) (m.units + 1)
turn_came outer called body m now counted is turned =
    let bounds = next_turn (newest_bounds (store_in m).loops) in
    let opens = loops.turning_if true called bounds (closed (store_in m)) in
    let opened : store_of now ≡ opens = subst (λ holds. store_of now ≡ loops.turning_if holds called bounds (closed (store_in m))) (sym is) turned in
    ap (λ holds. turning_if holds called bounds body (frames_with m (closed (store_in m))) m.calls (state_in m) m.units) (sym is)
    ∙ ap (λ n. began n called body m.frames.items m.calls opens (m.units + 1)) (sym counted)
    ∙ ap (λ (store : Store). began outer called body m.frames.items m.calls store (m.units + 1)) (sym opened)

-- turns lead to a turn that came, whose unit is paid
pub turn_begun : (from : Turned) (outer : ℕ) (called : List ℕ) (body : BlockNode) (m mid : Machine) → outer ≡ length (state_in m).locals → true ≡ comes (next_turn (newest_bounds (store_in m).loops)) →
    store_in mid ≡ loops.turning called (next_turn (newest_bounds (store_in m).loops)) (closed (store_in m)) → mid.frames.items ≡ m.frames.items → mid.calls ≡ m.calls → mid.units ≡ m.units + 1 →
    Reaches from (next_round called body m) → Reaches from (round outer called body mid (frames_with mid (closed (store_in mid))) mid.calls)
turn_begun from outer called body m mid counted is turned frames calls units reaches = subst (λ t. Reaches from t)
    (turn_came outer called body m mid.state counted is turned
    ∙ ap (λ n. began outer called body m.frames.items m.calls (store_in mid) n) (sym units)
    ∙ ap (λ n. began outer called body m.frames.items n (store_in mid) mid.units) (sym calls)
    ∙ ap (λ fs. began outer called body fs mid.calls (store_in mid) mid.units) (sym frames)) reaches

-- ---- behind the body of a turn

-- the next turn may come
pub round_on : (from : Turned) (outer : ℕ) (called : List ℕ) (body : BlockNode) (mid new : Machine) → Reaches from (round outer called body mid (frames_with mid (closed (store_in mid))) mid.calls) → RoundEnds o.Goes outer called body mid new → Reaches from (next_round called body new)
round_on from outer called body mid new begun done = subst (λ t. Reaches from t)
    (ap (λ (store : Store). standing called body mid.frames.items mid.calls store new.units) (sym done.put)
    ∙ ap (λ fs. standing called body fs mid.calls (store_in new) new.units) (sym done.keeps.0)
    ∙ ap (λ n. standing called body new.frames.items n (store_in new) new.units) (sym done.keeps.1))
    (reaches_through begun (done.reaches (frames_with mid (closed (store_in mid))) mid.calls))

-- the loop was left
pub round_left : (from : Turned) (outer : ℕ) (called : List ℕ) (body : BlockNode) (mid new : Machine) (now : LuaState) → Reaches from (round outer called body mid (frames_with mid (closed (store_in mid))) mid.calls) → RoundEnds o.Breaks outer called body mid new →
    store_of now ≡ closed (store_in new) → Comes (Ok c.Goes) (record new { state = now }) from
round_left from outer called body mid new now begun done is = record {
  to = left (goes done.state) (frames_with mid (closed (store_in mid))) mid.calls new.units;
  reaches = reaches_through begun (done.reaches (frames_with mid (closed (store_in mid))) mid.calls);
  turns = ap (λ (store : Store). left (goes store.state) (frames_of (reverse new.frames.items) (waits_in store)) new.calls new.units) (is ∙ ap closed done.put)
      ∙ ap (λ fs. left (goes done.state) (frames_of (reverse fs) (waits_in (closed (store_in mid)))) new.calls new.units) done.keeps.0
      ∙ ap (λ n. left (goes done.state) (frames_with mid (closed (store_in mid))) n new.units) done.keeps.1;
}

-- the function was left with a value
pub round_returned : (from : Turned) (outer : ℕ) (called : List ℕ) (body : BlockNode) (mid new : Machine) (now : LuaState) → Reaches from (round outer called body mid (frames_with mid (closed (store_in mid))) mid.calls) → RoundEnds o.Returns outer called body mid new →
    store_of now ≡ closed (store_in new) → Comes (Ok c.Returns) (record new { state = now }) from
round_returned from outer called body mid new now begun done is = record {
  to = back (gives done.value done.state) (frames_with mid (closed (store_in mid))) mid.calls new.units;
  reaches = reaches_through begun (done.reaches (frames_with mid (closed (store_in mid))) mid.calls);
  turns = ap (λ (store : Store). Next (record { control = control_of c.Returns store; frames = frames_of (reverse new.frames.items) (waits_in (beside c.Returns store)); calls = new.calls; state = store.state; cost = new.units })) (is ∙ ap closed done.put)
      ∙ ap (λ fs. back (gives done.value done.state) (frames_of (reverse fs) (waits_in (closed (store_in mid)))) new.calls new.units) done.keeps.0
      ∙ ap (λ n. back (gives done.value done.state) (frames_with mid (closed (store_in mid))) n new.units) done.keeps.1;
}

-- turns came to a place inside
pub round_inside : (from : Turned) (outer : ℕ) (called : List ℕ) (body : BlockNode) (mid new put : Machine) → Reaches from (round outer called body mid (frames_with mid (closed (store_in mid))) mid.calls) → mid.pending.items ≡ [] → RoundEnds o.Waits outer called body mid new →
    IsPut new put → Comes (Ok put.at) put from
round_inside from outer called body mid new put begun none waits is = comes_behind begun (came_inside (round outer called body mid) (waits_in (closed (store_in mid))) mid new put none waits is)

-- or were stopped
pub round_halted : (from : Turned) (outer : ℕ) (called : List ℕ) (body : BlockNode) (mid new : Machine) → Reaches from (round outer called body mid (frames_with mid (closed (store_in mid))) mid.calls) → RoundEnds o.Stopped outer called body mid new → Comes (Err new.fault) new from
round_halted from outer called body mid new begun halts = comes_behind begun (came_halted (round outer called body mid) (frames_with mid (closed (store_in mid))) mid.calls new halts)
