-- Turns one after the other.
use Rattle.std.proofs.Common.{◌≡◌, ℕ, zero, suc, List, refl, sym, subst, ◌∙◌, ap, Ok, ◌+◌, ◌<◌, ◌≤◌, ◌⊎◌, inl, inr, arith}
use Rattle.lua_machine.specs.Tree.{ItemNode}
use Rattle.lua_machine.specs.Functions.{Function}
use Rattle.lua_machine.specs.Machine.{Machine, Turned, Next, Ended}
use Rattle.lua_machine.specs.Turn.{TurnsPay, after_turns, turn, unpaid_turns}
use Rattle.lua_machine.specs.declared.error.LuaError.{LuaError}
use Rattle.lua_frames.specs.declared.control.Control.{Control}
use Rattle.lua_frames.specs.declared.machine.Machine as held
use Rattle.lua_frames.specs.declared.turns.Step.{Step}
use Rattle.lua_frames.specs.declared.turns.Step.TheVariants as s
use Rattle.lua_frames.specs.Machines.{machine_of}
use Rattle.lua_frames.specs.Turns.{Reaches}
use Rattle.lua_frames.proofs.Reaching.{none_after}
use Rattle.lua_call.specs.Running.{Came, Leads}

one_after : (chunk : List ItemNode) (main : Function) (turns : ℕ) (from : Turned) (m : Machine) → after_turns chunk main turns from ≡ Next m → after_turns chunk main (suc turns) from ≡ turn chunk main m
one_after chunk main zero (Ended answer cost) m is = absurd (cc is)
one_after chunk main (suc turns) (Ended answer cost) m is = absurd (cc is)
one_after chunk main zero (Next first) m is = none_after chunk main (turn chunk main first) ∙ ap (λ k. turn chunk main k) (same first m is)
  where
    same : (a b : Machine) → Next a ≡ Next b → a ≡ b
    same a b is = cc
one_after chunk main (suc turns) (Next first) m is = one_after chunk main turns (turn chunk main first) m is

-- it leads to itself
pub leads_nowhere : (chunk : List ItemNode) (main : Function) (from : Turned) → Leads chunk main from from
leads_nowhere chunk main from = record { turns = zero; after = none_after chunk main from }

pub leads_here : (chunk : List ItemNode) (main : Function) (m : Machine) → Leads chunk main (Next m) (Next m)
leads_here chunk main m = record { turns = zero; after = refl }

-- one more turn
pub leads_on : {chunk : List ItemNode} {main : Function} {from : Turned} (m : Machine) (to : Turned) → Leads chunk main from (Next m) → to ≡ turn chunk main m → Leads chunk main from to
leads_on {chunk} {main} {from} m to leads is = record { turns = suc leads.turns; after = one_after chunk main leads.turns from m leads.after ∙ sym is }

-- ---- one after the other

step_first : {chunk : List ItemNode} {main : Function} (m : Machine) (to : Turned) → Leads chunk main (turn chunk main m) to → Leads chunk main (Next m) to
step_first m to leads = record { turns = suc leads.turns; after = leads.after }

through : (chunk : List ItemNode) (main : Function) (turns : ℕ) (from mid to : Turned) → after_turns chunk main turns from ≡ mid → Leads chunk main mid to → Leads chunk main from to
through chunk main zero from mid to is leads = subst (λ t. Leads chunk main t to) (sym (sym (none_after chunk main from) ∙ is)) leads
through chunk main (suc turns) (Next m) mid to is leads = step_first m to (through chunk main turns (turn chunk main m) mid to is leads)
through chunk main (suc turns) (Ended answer cost) mid to is leads = subst (λ t. Leads chunk main t to) (sym is) leads

-- and both together
pub leads_through : {chunk : List ItemNode} {main : Function} {from : Turned} (mid to : Turned) → Leads chunk main from mid → Leads chunk main mid to → Leads chunk main from to
leads_through {chunk} {main} {from} mid to first second = through chunk main first.turns from mid to first.after second

pub came_on : {chunk : List ItemNode} {main : Function} {from : Turned} (mid : Turned) (control : Control) (now : held.Machine) → Leads chunk main from mid → Came chunk main mid (Ok (s.Next control)) now → Leads chunk main from (Next (machine_of control now))
came_on {chunk} {main} {from} mid control now leads came = subst (λ t. Leads chunk main from t) (sym came.step) (leads_through mid came.wanted leads came.leads)

-- a turn, and those behind it
pub leads_over : {chunk : List ItemNode} {main : Function} {from : Turned} (m : Machine) (to : Turned) → Leads chunk main from (Next m) → Reaches (turn chunk main m) to → Leads chunk main from to
leads_over {chunk} {main} m to leads reaches = leads_through (turn chunk main m) to (leads_on m (turn chunk main m) leads refl) (record { turns = reaches.turns; after = reaches.after chunk main })

-- ---- units that are paid

pay_both : (a b c left_a left_b left_c : ℕ) → (a < b) ⊎ ((b ≡ a) × (left_b < left_a)) → (b < c) ⊎ ((c ≡ b) × (left_c < left_b)) → (a < c) ⊎ ((c ≡ a) × (left_c < left_a))
pay_both a b c left_a left_b left_c (inl first) (inl second) = inl (omega (arith, first, second))
pay_both a b c left_a left_b left_c (inl first) (inr second) = let is = second.0 in inl (omega (arith, first, is))
pay_both a b c left_a left_b left_c (inr first) (inl second) = let is = first.0 in inl (omega (arith, is, second))
pay_both a b c left_a left_b left_c (inr first) (inr second) = let x = first.1 in let y = second.1 in inr (second.0 ∙ first.0, omega (arith, x, y))

-- a turn and those behind it pay, or fewer turns are left that may pay nothing
pub pays_over : TurnsPay → (chunk : List ItemNode) (main : Function) (turns : ℕ) (m : Machine) (behind : Turned) (next : Machine) → turn chunk main m ≡ behind → after_turns chunk main turns behind ≡ Next next →
    (m.cost < next.cost) ⊎ ((next.cost ≡ m.cost) × (unpaid_turns next < unpaid_turns m))
pays_over pays chunk main zero m (Next mid) next is after = pays chunk main m next (is ∙ after)
pays_over pays chunk main (suc turns) m (Next mid) next is after =
    pay_both m.cost mid.cost next.cost (unpaid_turns m) (unpaid_turns mid) (unpaid_turns next) (pays chunk main m mid is) (pays_over pays chunk main turns mid (turn chunk main mid) next refl after)
pays_over pays chunk main zero m (Ended answer cost) next is after = absurd (cc after)
pays_over pays chunk main (suc turns) m (Ended answer cost) next is after = absurd (cc after)

-- where no unit was paid, as many are, and what else is known holds
pub none_paid : {A : Type 0} (before old now spent : ℕ) → old ≡ before → spent ≡ now → spent ≤ before → (old < now) ⊎ ((now ≡ old) × A) → (now ≡ before) × A
none_paid before old now spent is told few (inl more) = absurd (omega (arith, is, told, few, more))
none_paid before old now spent is told few (inr stays) = (stays.0 ∙ is, stays.1)
