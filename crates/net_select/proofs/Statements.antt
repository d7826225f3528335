-- The code of a statement without blocks follows the statement.
use Rattle.std.proofs.Common.{◌≡◌, ℕ, ◌+◌, ◌*◌, ◌≤◌, ℤ, Bool, true, false, cond, List, [], ◌∷◌, ◌++◌, Some, length, refl, sym, ap, subst, ◌∙◌, arith, append-nil, eqb-true}
use Rattle.std.specs.Prelude.{◌==◌}
use Rattle.tis_asm.specs.declared.instr.Source.TheVariants as from
use Rattle.tis_asm.specs.declared.instr.Dest.TheVariants as to
use Rattle.tis_asm.specs.declared.instr.Instr.{Instr}
use Rattle.tis_asm.specs.declared.instr.Instr.TheVariants as instr
use Rattle.tis_asm.specs.declared.program.MarkedInstr.{MarkedInstr}
use Rattle.tis_asm.specs.Node.{Node, instr_at, source_of}
use Rattle.net_tree.specs.declared.tree.Var.{Var}
use Rattle.net_tree.specs.declared.tree.Var.TheVariants.{X, Y}
use Rattle.net_rules.specs.Process.{Streams, with_stream, ProcessState, Execution, Finished, ended, stepped, begins, read_first, read_from, send, value_in, with_value, does, reads}
use Rattle.net_select.specs.Selection.{Ports, on, copy_code}
use Rattle.net_select.proofs.Runs.{Act, Alone, Reads, Sends, Run, run_then, node_at, HoldsAt, alone, takes, sends, moves, Awaits, awaits_at}
use Rattle.net_select.proofs.Follows.{alone_count, read_under, sent_under, Names, AreNamed, Follows, begun}

-- one value is read under a name, and the others stay
read_one : (other name : ℕ) (value : ℤ) (left : List ℤ) (unread : Streams) → unread name ≡ value ∷ left → unread other ≡ (cond (other == name) (value ∷ []) [] ++ []) ++ with_stream unread name left other
read_one other name value left unread is = by (other == name) refl
  where
    by : (b : Bool) → (other == name) ≡ b → unread other ≡ (cond b (value ∷ []) [] ++ []) ++ cond b left (unread other)
    by true same = ap unread (eqb-true other name same) ∙ is
    by false apart = refl

-- one value more is sent under a name
sent_one : (other name : ℕ) (value : ℤ) (sent : Streams) → with_stream sent name (sent name ++ value ∷ []) other ≡ sent other ++ (cond (other == name) (value ∷ []) [] ++ [])
sent_one other name value sent = by (other == name) refl
  where
    by : (b : Bool) → (other == name) ≡ b → cond b (sent name ++ value ∷ []) (sent other) ≡ sent other ++ (cond b (value ∷ []) [] ++ [])
    by true same = ap (λ (n : ℕ). sent n ++ value ∷ []) (sym (eqb-true other name same))
    by false apart = sym (append-nil (sent other))

module _ (program : List MarkedInstr) (ports : Ports) (names : Names) where
  -- a place by another name
  pub at_place : (node : Node) (acts : List Act) (place other : ℕ) (x y : ℤ) → place ≡ other → Run program ports node acts (node_at program ports place x y) → Run program ports node acts (node_at program ports other x y)
  at_place node acts place other x y is = subst (λ (p : ℕ). Run program ports node acts (node_at program ports p x y)) is

  pub swapped : (place : ℕ) (x y : ℤ) → instr_at program place ≡ Some instr.Swp → Run program ports (node_at program ports place x y) (Alone ∷ []) (node_at program ports (place + 1) y x)
  swapped place x y found = alone program ports instr.Swp place x y y x found refl refl

  -- what is done on x is done on y between two SWP
  pub on_y : (i : Instr) (place : ℕ) (x y new : ℤ) (acts : List Act) → HoldsAt program ports place (instr.Swp ∷ i ∷ instr.Swp ∷ []) → (instr_at program (place + 1) ≡ Some i → Run program ports (node_at program ports (place + 1) y x) acts (node_at program ports (place + 1 + 1) new x)) → Run program ports (node_at program ports place x y) (Alone ∷ (acts ++ Alone ∷ [])) (node_at program ports (place + 3) x new)
  on_y i place x y new acts (first, (inner, (last, _))) does_it =
      run_then program ports (Alone ∷ []) (acts ++ Alone ∷ []) (node_at program ports place x y) (node_at program ports (place + 1) y x) (node_at program ports (place + 3) x new) (swapped place x y first)
      (run_then program ports acts (Alone ∷ []) (node_at program ports (place + 1) y x) (node_at program ports (place + 1 + 1) new x) (node_at program ports (place + 3) x new) (does_it inner)
      (at_place (node_at program ports (place + 1 + 1) new x) (Alone ∷ []) (place + 1 + 1 + 1) (place + 3) x new (omega arith) (swapped (place + 1 + 1) new x last)))

  -- ---- statements that neither read nor send

  pub on_local : (var : Var) (i : Instr) (f : ℤ → ℤ) (place : ℕ) → HoldsAt program ports place (on var (i ∷ [])) → ((p : ℕ) (a b : ℤ) → instr_at program p ≡ Some i → Run program ports (node_at program ports p a b) (Alone ∷ []) (node_at program ports (p + 1) (f a) b)) →
      (state : ProcessState) → Follows program ports names (node_at program ports place state.x state.y) (place + length (on var (instr.Nop ∷ []))) state (does state (λ after. with_value var (f (value_in var after)) after))
  on_local X i f place (found, _) single state =
      begun program ports names (node_at program ports place state.x state.y) (place + 1) state (λ after. ended Finished (with_value X (f (value_in X after)) after))
      (record { acts = Alone ∷ []; run = single place state.x state.y found; unread = λ name. refl; sent = λ name. sym (append-nil (state.sent name)); local = omega arith; named = (tt, tt) })
  on_local Y i f place holds single state =
      begun program ports names (node_at program ports place state.x state.y) (place + 3) state (λ after. ended Finished (with_value Y (f (value_in Y after)) after))
      (record { acts = Alone ∷ Alone ∷ Alone ∷ []; run = on_y i place state.x state.y (f state.y) (Alone ∷ []) holds (single (place + 1) state.y state.x); unread = λ name. refl; sent = λ name. sym (append-nil (state.sent name)); local = omega arith; named = (tt, (tt, (tt, tt))) })

  -- ---- statements that read

  -- where a value is left it is taken, and where none is left the node waits
  pub reading : (node waiting : Node) (place name : ℕ) (state : ProcessState) (acts : List Act) (next : ℤ → ProcessState → Execution) → names.Read name →
      Run program ports node acts waiting → AreNamed names acts → alone_count acts + 8 * state.steps ≤ 8 * (state.steps + 1) → ((other : ℕ) → read_under other acts ≡ []) → ((other : ℕ) → sent_under other acts ≡ []) → Awaits program waiting (ports name) →
      ((value : ℤ) (left : List ℤ) → state.unread name ≡ value ∷ left → Follows program ports names node place state (next value (record (stepped state) { unread = with_stream state.unread name left }))) →
      Follows program ports names node place state (begins state (λ after. read_from name after next))
  reading node waiting place name state acts next read run named local no_read no_sent awaits takes =
      begun program ports names node place state (λ after. read_from name after next) (by (state.unread name) refl)
    where
      by : (values : List ℤ) → state.unread name ≡ values → Follows program ports names node place state (read_first values name (stepped state) next)
      by [] is = record {
        end = waiting;
        ran = record { acts = acts; run = run; unread = λ other. ap (λ (l : List ℤ). l ++ state.unread other) (sym (no_read other)); sent = λ other. sym (append-nil (state.sent other)) ∙ ap (λ (l : List ℤ). state.sent other ++ l) (sym (no_sent other)); local = local; named = named };
        awaits = awaits;
        empty = is;
        read = read;
      }
      by (value ∷ left) is = takes value left is

  -- what a statement makes of the value that it reads, by the variable
  pub on_take : (var : Var) (i : Instr) (name : ℕ) (f : ℤ → ℤ → ℤ) (place : ℕ) → names.Read name → source_of i ≡ Some (from.Port (ports name)) → HoldsAt program ports place (on var (i ∷ [])) →
      ((p : ℕ) (a b value : ℤ) → instr_at program p ≡ Some i → Run program ports (node_at program ports p a b) (Reads name value ∷ []) (node_at program ports (p + 1) (f a value) b)) →
      (state : ProcessState) → Follows program ports names (node_at program ports place state.x state.y) (place + length (on var (instr.Nop ∷ []))) state (reads state name (λ value after. with_value var (f (value_in var after) value) after))
  on_take X i name f place read source (found, _) single state =
      reading (node_at program ports place state.x state.y) (node_at program ports place state.x state.y) (place + 1) name state [] (λ value after. ended Finished (with_value X (f (value_in X after) value) after)) read
      refl tt (omega arith) (λ other. refl) (λ other. refl) (awaits_at program ports i name place state.x state.y found source)
      (λ value left is. record { acts = Reads name value ∷ []; run = single place state.x state.y value found; unread = λ other. read_one other name value left state.unread is; sent = λ other. sym (append-nil (state.sent other)); local = omega arith; named = (read, tt) })
  on_take Y i name f place read source (first, (inner, (last, _))) single state =
      reading (node_at program ports place state.x state.y) (node_at program ports (place + 1) state.y state.x) (place + 3) name state (Alone ∷ []) (λ value after. ended Finished (with_value Y (f (value_in Y after) value) after)) read
      (swapped place state.x state.y first) (tt, tt) (omega arith) (λ other. refl) (λ other. refl) (awaits_at program ports i name (place + 1) state.y state.x inner source)
      (λ value left is. record { acts = Alone ∷ Reads name value ∷ Alone ∷ []; run = on_y i place state.x state.y (f state.y value) (Reads name value ∷ []) (first, (inner, (last, tt))) (single (place + 1) state.y state.x value); unread = λ other. read_one other name value left state.unread is; sent = λ other. sym (append-nil (state.sent other)); local = omega arith; named = (tt, (read, (tt, tt))) })

  -- ---- statements that send

  pub on_put : (var : Var) (name place : ℕ) → names.Written name → HoldsAt program ports place (on var (instr.Mov from.Acc (to.Port (ports name)) ∷ [])) →
      (state : ProcessState) → Follows program ports names (node_at program ports place state.x state.y) (place + length (on var (instr.Nop ∷ []))) state (does state (λ after. send name (value_in var after) after))
  on_put X name place written (found, _) state =
      begun program ports names (node_at program ports place state.x state.y) (place + 1) state (λ after. ended Finished (send name (value_in X after) after))
      (record { acts = Alone ∷ Sends name state.x ∷ []; run = sends program ports from.Acc name place state.x state.y state.x found refl; unread = λ other. refl; sent = λ other. sent_one other name state.x state.sent; local = omega arith; named = (tt, (written, tt)) })
  on_put Y name place written holds state =
      begun program ports names (node_at program ports place state.x state.y) (place + 3) state (λ after. ended Finished (send name (value_in Y after) after))
      (record { acts = Alone ∷ Alone ∷ Sends name state.y ∷ Alone ∷ []; run = on_y (instr.Mov from.Acc (to.Port (ports name))) place state.x state.y state.y (Alone ∷ Sends name state.y ∷ []) holds (λ found. sends program ports from.Acc name (place + 1) state.y state.x state.y found refl); unread = λ other. refl; sent = λ other. sent_one other name state.y state.sent; local = omega arith; named = (tt, (tt, (written, (tt, tt)))) })

  pub put_number : (name place : ℕ) (number : ℤ) → names.Written name → HoldsAt program ports place (instr.Mov (from.Number number) (to.Port (ports name)) ∷ []) →
      (state : ProcessState) → Follows program ports names (node_at program ports place state.x state.y) (place + 1) state (does state (λ after. send name number after))
  put_number name place number written (found, _) state =
      begun program ports names (node_at program ports place state.x state.y) (place + 1) state (λ after. ended Finished (send name number after))
      (record { acts = Alone ∷ Sends name number ∷ []; run = sends program ports (from.Number number) name place state.x state.y number found refl; unread = λ other. refl; sent = λ other. sent_one other name number state.sent; local = omega arith; named = (tt, (written, tt)) })

  pub move : (name other place : ℕ) → names.Read name → names.Written other → HoldsAt program ports place (instr.Mov (from.Port (ports name)) (to.Port (ports other)) ∷ []) →
      (state : ProcessState) → Follows program ports names (node_at program ports place state.x state.y) (place + 1) state (reads state name (λ value after. send other value after))
  move name other place read written (found, _) state =
      reading (node_at program ports place state.x state.y) (node_at program ports place state.x state.y) (place + 1) name state [] (λ value after. ended Finished (send other value after)) read
      refl tt (omega arith) (λ o. refl) (λ o. refl) (awaits_at program ports (instr.Mov (from.Port (ports name)) (to.Port (ports other))) name place state.x state.y found refl)
      (λ value left is. record { acts = Reads name value ∷ Sends other value ∷ []; run = moves program ports name other place state.x state.y value found; unread = λ o. read_one o name value left state.unread is; sent = λ o. sent_one o other value state.sent; local = omega arith; named = (read, (written, tt)) })

  -- ---- the two variables

  pub copy : (v w : Var) (place : ℕ) → HoldsAt program ports place (copy_code v w) →
      (state : ProcessState) → Follows program ports names (node_at program ports place state.x state.y) (place + length (copy_code v w)) state (does state (λ after. with_value v (value_in w after) after))
  copy X Y place (first, (second, _)) state =
      begun program ports names (node_at program ports place state.x state.y) (place + 2) state (λ after. ended Finished (with_value X (value_in Y after) after))
      (record {
        acts = Alone ∷ Alone ∷ [];
        run = run_then program ports (Alone ∷ []) (Alone ∷ []) (node_at program ports place state.x state.y) (node_at program ports (place + 1) state.y state.x) (node_at program ports (place + 2) state.y state.y) (swapped place state.x state.y first)
            (at_place (node_at program ports (place + 1) state.y state.x) (Alone ∷ []) (place + 1 + 1) (place + 2) state.y state.y (omega arith) (alone program ports instr.Sav (place + 1) state.y state.x state.y state.y second refl refl));
        unread = λ name. refl;
        sent = λ name. sym (append-nil (state.sent name));
        local = omega arith;
        named = (tt, (tt, tt));
      })
  copy Y X place (found, _) state =
      begun program ports names (node_at program ports place state.x state.y) (place + 1) state (λ after. ended Finished (with_value Y (value_in X after) after))
      (record { acts = Alone ∷ []; run = alone program ports instr.Sav place state.x state.y state.x state.x found refl refl; unread = λ name. refl; sent = λ name. sym (append-nil (state.sent name)); local = omega arith; named = (tt, tt) })
  copy X X place holds state =
      begun program ports names (node_at program ports place state.x state.y) (place + 0) state (λ after. ended Finished (with_value X (value_in X after) after))
      (record { acts = []; run = at_place (node_at program ports place state.x state.y) [] place (place + 0) state.x state.y (omega arith) refl; unread = λ name. refl; sent = λ name. sym (append-nil (state.sent name)); local = omega arith; named = tt })
  copy Y Y place holds state =
      begun program ports names (node_at program ports place state.x state.y) (place + 0) state (λ after. ended Finished (with_value Y (value_in Y after) after))
      (record { acts = []; run = at_place (node_at program ports place state.x state.y) [] place (place + 0) state.x state.y (omega arith) refl; unread = λ name. refl; sent = λ name. sym (append-nil (state.sent name)); local = omega arith; named = tt })

  pub swap : (place : ℕ) → HoldsAt program ports place (instr.Swp ∷ []) →
      (state : ProcessState) → Follows program ports names (node_at program ports place state.x state.y) (place + 1) state (does state (λ after. record after { x = after.y; y = after.x }))
  swap place (found, _) state =
      begun program ports names (node_at program ports place state.x state.y) (place + 1) state (λ after. ended Finished (record after { x = after.y; y = after.x }))
      (record { acts = Alone ∷ []; run = swapped place state.x state.y found; unread = λ name. refl; sent = λ name. sym (append-nil (state.sent name)); local = omega arith; named = (tt, tt) })
