-- Several turns one after the other.
use Rattle.std.proofs.Common.{◌≡◌, ◌∙◌, ℕ, zero, suc, ◌+◌, List, refl, sym, ap, subst, Result, arith}
use Rattle.lua_machine.specs.Answer.{PlainValue}
use Rattle.lua_machine.specs.Functions.{Function}
use Rattle.lua_machine.specs.Machine.{Turned, Next, Ended}
use Rattle.lua_machine.specs.Tree.{ItemNode}
use Rattle.lua_machine.specs.Turn.{after_turns, turn}
use Rattle.lua_machine.specs.Value.{Fault}
use Rattle.lua_machine.specs.declared.error.LuaError.{LuaError}
use Rattle.lua_frames.specs.declared.control.Control.{Control}
use Rattle.lua_frames.specs.declared.machine.Machine as held
use Rattle.lua_frames.specs.Turns.{Comes, Reaches, Turns}

pub none_after : (chunk : List ItemNode) (main : Function) (t : Turned) → after_turns chunk main zero t ≡ t
none_after chunk main (Next m) = refl
none_after chunk main (Ended answer cost) = refl

ended_after : (chunk : List ItemNode) (main : Function) (turns : ℕ) (answer : Result PlainValue Fault) (cost : ℕ) → after_turns chunk main turns (Ended answer cost) ≡ Ended answer cost
ended_after chunk main zero answer cost = refl
ended_after chunk main (suc turns) answer cost = refl

two_after : (chunk : List ItemNode) (main : Function) (first second : ℕ) (from : Turned) → after_turns chunk main (first + second) from ≡ after_turns chunk main second (after_turns chunk main first from)
two_after chunk main zero second from =
    let none : zero + second ≡ second = omega arith in
    ap (λ n. after_turns chunk main n from) none ∙ ap (after_turns chunk main second) (sym (none_after chunk main from))
two_after chunk main (suc first) second (Ended answer cost) = ended_after chunk main (suc first + second) answer cost ∙ sym (ended_after chunk main second answer cost)
two_after chunk main (suc first) second (Next m) =
    let more : suc first + second ≡ suc (first + second) = omega arith in
    ap (λ n. after_turns chunk main n (Next m)) more ∙ two_after chunk main first second (turn chunk main m)

-- it reaches itself
pub reaches_itself : (t : Turned) → Reaches t t
reaches_itself t = record { turns = zero; after = λ chunk main. none_after chunk main t }

-- one behind the other
pub reaches_through : {from mid to : Turned} → Reaches from mid → Reaches mid to → Reaches from to
reaches_through {from} {mid} {to} first second = record {
  turns = first.turns + second.turns;
  after = λ chunk main. two_after chunk main first.turns second.turns from ∙ ap (after_turns chunk main second.turns) (first.after chunk main) ∙ second.after chunk main;
}

-- a turn that came to what is wanted
pub at_once : {result : Result Control LuaError} {now : held.Machine} {wanted : Turned} → Turns result now wanted → Comes result now wanted
at_once {result} {now} {wanted} turns = record { to = wanted; reaches = reaches_itself wanted; turns = turns }

pub comes_behind : {result : Result Control LuaError} {now : held.Machine} {from mid : Turned} → Reaches from mid → Comes result now mid → Comes result now from
comes_behind reaches comes = record { to = comes.to; reaches = reaches_through reaches comes.reaches; turns = comes.turns }

-- the turns that passed a part, and those behind it
pub passed : {result : Result Control LuaError} {now : held.Machine} {from mid : Turned} → Reaches from mid → Turns result now mid → Comes result now from
passed reaches turns = comes_behind reaches (at_once turns)

pub stayed : {result : Result Control LuaError} {now : held.Machine} {from mid : Turned} → from ≡ mid → Turns result now mid → Comes result now from
stayed {result} {now} {from} {mid} same turns = subst (λ t. Comes result now t) (sym same) (at_once turns)
