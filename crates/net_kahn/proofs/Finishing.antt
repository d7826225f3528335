-- What the rules tell of a block that was done: it has read where it surely reads, and left a variable that it doesn't change.
use Rattle.std.proofs.Common.{◌≡◌, ℕ, ◌+◌, ◌<◌, ◌≤◌, true, false, ℤ, List, ◌∷◌, ◌++◌, length, take, drop, refl, sym, ap, subst, ◌∙◌, cond, arith, mul-le-mul_right}
use Rattle.std.specs.Prelude.{All, Option, Some, None, slice_get, Ok, ◌==◌}
use Rattle.std.proofs.lemmas.List.Elements.{All-nil, All-drop, All-take, All-append}
use Rattle.std.specs.List.{range_with_len}
use Rattle.tis_base.specs.Saturation.{IsValue}
use Rattle.net_tree.specs.declared.tree.Var.{Var}
use Rattle.net_tree.specs.Tree.{Block}
use Rattle.net_rules.specs.Uses.{surely_reads}
use Rattle.net_rules.specs.Process.{Streams, with_stream, ProcessState, Outcome, Finished, WaitsOn, OutOfFuel, Execution, exec, value_in, block_cost}
use Rattle.net_rules.specs.Sure.{changes_in, IsSureBlock}
use Rattle.net_rules.proofs.Costs.{within_cost}
use Rattle.net_rules.proofs.Counted.{stand_in, one_less}
use Rattle.net_rules.proofs.Waiting.{HasValues, Spent, Ran}
use Rattle.net_rules.proofs.Running.{block_ran}
use Rattle.net_kahn.specs.declared.link.Link.{Link}
use Rattle.net_kahn.specs.declared.machine.Machine.{Machine}
use Rattle.net_kahn.specs.Links.{given_in, list_of, unread_in, IsLink}
use Rattle.net_kahn.specs.Machines.{of_link, by_number, AreLinks, state_of, value_of, IsReady, Did}
use Rattle.net_kahn.proofs.Leaves.{value_seen}

-- ---- what is left to read are values

unread_values : (process : ℕ) (link : Link) → IsLink process link → All IsValue (unread_in process link)
unread_values process link is =
    elim (link.user == process) as (λ b. All IsValue (cond b (drop link.taken (given_in link.given) ++ drop link.next (take link.limit link.sent.items)) (list_of link))) [
      | true ↦ All-append IsValue (drop link.taken (given_in link.given)) (drop link.next (take link.limit link.sent.items)) (All-drop IsValue link.taken (given_in link.given) is.given) (All-drop IsValue link.next (take link.limit link.sent.items) (All-take IsValue link.limit link.sent.items is.sent))
      | false ↦ All-append IsValue (given_in link.given) link.sent.items is.given is.sent
    ]

pub streams_values : (values : Link → List ℤ) (process : ℕ) (links : List Link) → ((link : Link) → IsLink process link → All IsValue (values link)) → AreLinks process links → (name : ℕ) → All IsValue (by_number values links name)
streams_values values process links each are name =
    elim (slice_get links name) as (λ (o : Option Link). slice_get links name ≡ o → All IsValue (of_link values o)) [
      | None ↦ λ none. All-nil IsValue
      | Some link ↦ λ here. each link (are name link here)
    ] refl

pub has_values : (machine : Machine) (steps fuel : ℕ) → IsReady machine → HasValues (state_of machine steps fuel)
has_values machine steps fuel ready =
    record { x = ready.x; y = ready.y; unread = streams_values (unread_in machine.process) machine.process machine.links.items (unread_values machine.process) ready.links }

-- ---- the measure

-- how many values are left to read under the first so many numbers
abbrev pub left_in : ℕ → Streams → ℕ
left_in count streams = stand_in (λ name. true) streams (range_with_len 0 count)

pub counts : (count : ℕ) (streams : Streams) (name : ℕ) (value : ℤ) (values : List ℤ) → name < count → streams name ≡ value ∷ values → left_in count streams ≡ left_in count (with_stream streams name values) + 1
counts count streams name value values within stands = one_less (λ n. true) streams name value values stands refl count 0 (omega arith) (omega (arith, within))

-- how many values a process has left to read
abbrev pub left_of : Machine → ℕ
left_of machine = left_in (length machine.links.items) (state_of machine 0 0).unread

-- ---- what was done

-- a block that was done
pub record Finishes (body : Block ℕ) (old new : Machine) : Type 0 where
  pub ready : IsReady new
  pub fewer : surely_reads body ≡ true → left_of new < left_of old
  pub keeps : (var : Var) → changes_in var body ≡ false → value_of var new ≡ value_of var old

module _ (body : Block ℕ) (old : Machine) (ready : IsReady old) (sure : IsSureBlock (λ name. name < length old.links.items) body) where
  abbrev count : ℕ
  count = length old.links.items

  abbrev HasRun : ℕ → ℕ → Type 0
  HasRun steps fuel = Ran (left_in count) (λ name. name < count) (counts count) (state_of old steps fuel) (within_cost (block_cost body)) (surely_reads body) (λ var. changes_in var body) (exec body (state_of old steps fuel))

  has_run : (steps fuel : ℕ) → HasRun steps fuel
  has_run steps fuel = block_ran (left_in count) (λ name. name < count) (counts count) body sure (state_of old steps fuel) (has_values old steps fuel ready)

  pub falls : (steps fuel : ℕ) → (exec body (state_of old steps fuel)).state.fuel ≤ fuel
  falls steps fuel = (has_run steps fuel).falls

  abbrev left : ℕ
  left = left_in count (state_of old 0 0).unread

  -- fuel that is more than enough
  abbrev plenty : ℕ
  plenty = within_cost (block_cost body) left + 1

  enough : (read : ℕ) (outcome : Outcome) (rest : ℕ) → read ≤ left → Spent plenty (within_cost (block_cost body) read) outcome rest → outcome ≡ OutOfFuel → ⊥
  enough read Finished rest few spent out = cc
  enough read (WaitsOn name) rest few spent out = cc
  enough read OutOfFuel rest few spent out = omega (arith, spent, mul-le-mul_right {m = read} {n = left} (block_cost body) few)

  pub finishes : (new : Machine) → Did (exec body) old (Ok tt) new → Finishes body old new
  finishes new did =
      let ran = has_run 0 plenty in
      let end : Execution = exec body (state_of old 0 plenty) in
      let few : ran.read ≤ left = omega (arith, ran.left) in
      let came = did.comes 0 plenty (enough ran.read end.outcome end.state.fuel few ran.spent) in
      let unread : end.state.unread ≡ (state_of new 0 0).unread = ap (λ (s : ProcessState). s.unread) came.1 in
      let now : left_in count end.state.unread ≡ left_of new = ap (left_in count) unread ∙ ap (λ n. left_in n (state_of new 0 0).unread) (sym did.kept.links.count) in
      record {
        ready = record {
          links = subst (λ p. AreLinks p new.links.items) (sym did.kept.process) did.kept.links.links;
          x = subst IsValue (ap (λ (s : ProcessState). s.x) came.1) ran.values.x;
          y = subst IsValue (ap (λ (s : ProcessState). s.y) came.1) ran.values.y;
        };
        fewer = λ reads. omega (arith, now, ran.left, ran.reads reads came.0);
        keeps = λ var same. sym (value_seen var new end.state.steps end.state.fuel) ∙ ap (value_in var) (sym came.1) ∙ ran.keeps var same came.0 ∙ value_seen var old 0 plenty;
      }
