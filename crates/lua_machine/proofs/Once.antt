-- What a node comes to is one thing at most: two derivations from one state agree, in what they give and in what they cost.
use Rattle.std.proofs.Common.{◌≡◌, ℕ, suc, ◌+◌, Bool, true, false, List, [], ◌∷◌, ◌++◌, length, refl, ap, ◌∙◌, sym, subst, pos, Ok, Err, Result}
use Rattle.std.specs.Prelude.{Option, Some, None}
use Rattle.lua_machine.specs.Tree.{Node, Nodes, EntryNodes, StatementNode, BlockNode, ArmNodes, ItemNode}
use Rattle.lua_machine.specs.Value.{LuaValue, Nil, Truth, Number, Text, Table, Fault, TypeFault, UnknownName, TooDeepCalls, is_true, is_key}
use Rattle.lua_machine.specs.Tables.{no_keys, stored}
use Rattle.lua_machine.specs.State.{State, Done, gives, fails, value_of, assigned, declared, left_block, entered, left_call}
use Rattle.lua_machine.specs.Operators.{text, decides}
use Rattle.lua_machine.specs.Library.{math_result, table_result}
use Rattle.lua_machine.specs.Functions.{Function}
use Rattle.lua_machine.specs.Yields.{Evaluates, AllEvaluate, Fills, Executes, Runs, Chooses, While, Repeats, Turns, Gone, Way, Bounds, goes, stops, loops, out_of_loop, returned, answered, after, indexed, with_member, unary_result, binary_result, floor_result, done_with, put, put_member, Breaks, Returns, bounds_of, comes, next_turn, most_calls}
use Rattle.lua_machine.specs.Yields as y

-- both are the same
abbrev pub Same : {D : Type 0} → D → D → ℕ → ℕ → Type 0
Same done other cost more = (done ≡ other) × (cost ≡ more)

ok_or_err : {T : Type 0} (value : T) (why : Fault) → Ok value ≡ Err why → ⊥
ok_or_err value why same = cc

never : {T : Type 0} (value : T) (why : Fault) (now last : State) → gives value now ≡ fails why last → ⊥
never value why now last same = ok_or_err value why (ap (λ (d : Done _). d.outcome) same)

pub clash : (a b : Bool) → a ≡ true → b ≡ false → a ≡ b → ⊥
clash a b holds fails same = cc

none_some : {T : Type 0} (found : Option T) (value : T) → found ≡ None → found ≡ Some value → ⊥
none_some found value nothing something = cc

abbrev only_of : {T : Type 0} → T → Option T → T
only_of otherwise (Some value) = value
only_of otherwise None = otherwise

pub some_same : {T : Type 0} (found : Option T) (value other : T) → found ≡ Some value → found ≡ Some other → value ≡ other
some_same found value other one two = ap (only_of value) (sym one ∙ two)

pub sum2 : (a b c d : ℕ) → a ≡ b → c ≡ d → a + c ≡ b + d
sum2 a b c d one two = ap (λ n. n + c) one ∙ ap (λ n. b + n) two

abbrev in_ok : {T : Type 0} → T → Result T Fault → T
in_ok otherwise (Ok value) = value
in_ok otherwise (Err why) = otherwise

abbrev in_err : {T : Type 0} → Fault → Result T Fault → Fault
in_err otherwise (Ok value) = otherwise
in_err otherwise (Err why) = why

given : {T : Type 0} (value other : T) (now last : State) → gives value now ≡ gives other last → value ≡ other
given value other now last same = ap (λ (d : Done _). in_ok value d.outcome) same

behind : {T : Type 0} (value other : T) (now last : State) → gives value now ≡ gives other last → now ≡ last
behind value other now last same = ap (λ (d : Done _). d.state) same

failing : {T R : Type 0} (why other : Fault) (now last : State) → fails {T = T} why now ≡ fails other last → fails {T = R} why now ≡ fails other last
failing why other now last same = ap (λ (d : Done _). fails (in_err why d.outcome) d.state) same

stopping : {T : Type 0} (why other : Fault) (now last : State) → fails {T = T} why now ≡ fails other last → stops why now ≡ stops other last
stopping why other now last same = ap (λ (d : Done _). stops (in_err why d.outcome) d.state) same

pub going : (now last : State) → goes now ≡ goes last → now ≡ last
going now last same = ap (λ (g : Gone). g.state) same

ok_bounds : (found : Result Bounds Fault) (one other : Bounds) → found ≡ Ok one → found ≡ Ok other → one ≡ other
ok_bounds found one other first second = ap (λ (r : Result Bounds Fault). in_ok one r) (sym first ∙ second)

err_bounds : (found : Result Bounds Fault) (one other : Fault) → found ≡ Err one → found ≡ Err other → one ≡ other
err_bounds found one other first second = ap (λ (r : Result Bounds Fault). in_err one r) (sym first ∙ second)

err_ok : (found : Result Bounds Fault) (one : Fault) (other : Bounds) → found ≡ Err one → found ≡ Ok other → ⊥
err_ok found one other first second = cc

abbrev first_in : List LuaValue → LuaValue
first_in [] = Nil
first_in (first ∷ more) = first

abbrev second_in : List LuaValue → LuaValue
second_in [] = Nil
second_in (first ∷ more) = first_in more

mutual
  pub once_node : {chunk : List ItemNode} {calls cost more : ℕ} {state last : State} {node : Node} {done other : Done LuaValue} → Evaluates chunk calls state node done cost → state ≡ last → Evaluates chunk calls last node other more → Same done other cost more
  once_node y.nil st y.nil =
      (ap (gives Nil) st, refl)
  once_node y.yes st y.yes =
      (ap (gives (Truth true)) st, refl)
  once_node y.no st y.no =
      (ap (gives (Truth false)) st, refl)
  once_node (y.number {value = value}) st y.number =
      (ap (gives (Number value)) st, refl)
  once_node (y.string {line = line} {bytes = bytes}) st y.string =
      (ap (answered (text line bytes)) st, refl)
  once_node (y.name {called = called}) st y.name =
      (ap (λ (s : State). gives (value_of called s) s) st, refl)
  once_node (y.index {line = line} p) st (y.index q) =
      let l = once_all p st q in (ap (λ (d : Done (List LuaValue)). after d (indexed line)) l.0, ap (λ n. n + 1) l.1)
  once_node (y.member {line = line} {called = called} p) st (y.member q) =
      let l = once_all p st q in (ap (λ (d : Done (List LuaValue)). after d (λ values now. indexed line (with_member called values) now)) l.0, ap (λ n. n + 1) l.1)
  once_node (y.unary {line = line} {op = op} p) st (y.unary q) =
      let l = once_all p st q in (ap (λ (d : Done (List LuaValue)). after d (unary_result op line)) l.0, ap (λ n. n + 1) l.1)
  once_node (y.binary {line = line} {op = op} log1 p) st (y.binary log2 q) =
      let l = once_all p st q in (ap (λ (d : Done (List LuaValue)). after d (binary_result op line)) l.0, ap (λ n. n + 1) l.1)
  once_node (y.binary log1 q) st (y.left_fails log2 _) =
      absurd (clash _ _ log2 log1 refl)
  once_node (y.left_fails log1 _) st (y.binary log2 q) =
      absurd (clash _ _ log1 log2 refl)
  once_node (y.binary log1 q) st (y.left_decides log2 _ _) =
      absurd (clash _ _ log2 log1 refl)
  once_node (y.left_decides log1 _ _) st (y.binary log2 q) =
      absurd (clash _ _ log1 log2 refl)
  once_node (y.binary log1 q) st (y.right_decides log2 _ _ _) =
      absurd (clash _ _ log2 log1 refl)
  once_node (y.right_decides log1 _ _ _) st (y.binary log2 q) =
      absurd (clash _ _ log1 log2 refl)
  once_node (y.left_fails log1 p) st (y.left_fails log2 q) =
      let l = once_node p st q in (l.0, ap (λ n. n + 1) l.1)
  once_node (y.left_fails log1 p) st (y.left_decides log2 k2 q) =
      absurd (never _ _ _ _ (sym (once_node p st q).0))
  once_node (y.left_fails log1 p) st (y.right_decides log2 k2 q m2) =
      absurd (never _ _ _ _ (sym (once_node p st q).0))
  once_node (y.left_decides log1 k p) st (y.left_fails log2 q) =
      absurd (never _ _ _ _ (once_node p st q).0)
  once_node (y.right_decides log1 k p m) st (y.left_fails log2 q) =
      absurd (never _ _ _ _ (once_node p st q).0)
  once_node (y.left_decides log1 k p) st (y.left_decides log2 k2 q) =
      let l = once_node p st q in (l.0, ap (λ n. n + 1) l.1)
  once_node (y.left_decides {op = op} log1 k p) st (y.right_decides log2 k2 q m2) =
      absurd (clash _ _ k k2 (ap (decides op) (given _ _ _ _ (once_node p st q).0)))
  once_node (y.right_decides {op = op} log1 k p m) st (y.left_decides log2 k2 q) =
      absurd (clash _ _ k2 k (sym (ap (decides op) (given _ _ _ _ (once_node p st q).0))))
  once_node (y.right_decides log1 k p m) st (y.right_decides log2 k2 q m2) =
      let l = once_node p st q in let r = once_node m (behind _ _ _ _ l.0) m2 in (r.0, ap (λ n. n + 1) (sum2 _ _ _ _ l.1 r.1))
  once_node (y.unknown {line = line} {called = called} u) st (y.unknown u2) =
      (ap (fails (UnknownName line)) st, refl)
  once_node (y.unknown u) st (y.argument_fails f2 _) =
      absurd (none_some _ _ u f2)
  once_node (y.argument_fails f1 _) st (y.unknown u) =
      absurd (none_some _ _ u f1)
  once_node (y.unknown u) st (y.too_deep f2 _ _) =
      absurd (none_some _ _ u f2)
  once_node (y.too_deep f1 _ _) st (y.unknown u) =
      absurd (none_some _ _ u f1)
  once_node (y.unknown u) st (y.call f2 _ _ _) =
      absurd (none_some _ _ u f2)
  once_node (y.call f1 _ _ _) st (y.unknown u) =
      absurd (none_some _ _ u f1)
  once_node (y.argument_fails f1 p) st (y.argument_fails f2 q) =
      let l = once_all p st q in (failing _ _ _ _ l.0, ap (λ n. n + 1) l.1)
  once_node (y.argument_fails f1 p) st (y.too_deep f2 q d2) =
      absurd (never _ _ _ _ (sym (once_all p st q).0))
  once_node (y.argument_fails f1 p) st (y.call f2 q d2 r2) =
      absurd (never _ _ _ _ (sym (once_all p st q).0))
  once_node (y.too_deep f1 p d) st (y.argument_fails f2 q) =
      absurd (never _ _ _ _ (once_all p st q).0)
  once_node (y.call f1 p d r) st (y.argument_fails f2 q) =
      absurd (never _ _ _ _ (once_all p st q).0)
  once_node (y.too_deep {line = line} f1 p d) st (y.too_deep f2 q d2) =
      let l = once_all p st q in (ap (fails (TooDeepCalls line)) (behind _ _ _ _ l.0), ap (λ n. n + 1) l.1)
  once_node (y.too_deep f1 p d) st (y.call f2 q d2 r2) =
      absurd (clash _ _ d2 d refl)
  once_node (y.call f1 p d r) st (y.too_deep f2 q d2) =
      absurd (clash _ _ d d2 refl)
  once_node (y.call {chunk = chunk} {calls = calls} {now = now} {function = function} {values = values} {gone = gone} f1 p d r) st (y.call {more = more2} {now = last} {function = other} {values = others} {gone = gone2} f2 q d2 r2) =
      let l = once_all p st q in let same = some_same _ _ _ f1 f2 in let r = once_runs r (ap (λ (vs : List LuaValue). entered function.params vs now) (given _ _ _ _ l.0) ∙ ap (λ (s : State). entered function.params others s) (behind _ _ _ _ l.0)) (subst (λ (fn : Function). Runs chunk (suc calls) (entered fn.params others last) fn.body gone2 more2) (sym same) r2) in (ap (λ (s : State). returned gone.way (left_call s gone.state)) (behind _ _ _ _ l.0) ∙ ap (λ (g : Gone). returned g.way (left_call last g.state)) r.0, ap (λ n. n + 1) (sum2 _ _ _ _ l.1 r.1))
  once_node (y.math_unknown {line = line} u) st (y.math_unknown u2) =
      (ap (fails (UnknownName line)) st, refl)
  once_node (y.math_unknown u) st (y.math_call f2 _ _) =
      absurd (none_some _ _ u f2)
  once_node (y.math_call f1 _ _) st (y.math_unknown u) =
      absurd (none_some _ _ u f1)
  once_node (y.math_unknown u) st (y.floor_call f2 _) =
      absurd (none_some _ _ u f2)
  once_node (y.floor_call f1 _) st (y.math_unknown u) =
      absurd (none_some _ _ u f1)
  once_node (y.math_call {line = line} {function = function} {parts = parts} f1 isnt p) st (y.math_call {parts = parts2} f2 isnt2 q) =
      let l = once_all p st q in (ap (λ (d : Done (List LuaValue)). after d (math_result function line)) l.0 ∙ ap (λ fn. after parts2 (math_result fn line)) (some_same _ _ _ f1 f2), ap (λ n. n + 1) l.1)
  once_node (y.math_call f1 isnt p) st (y.floor_call f2 q) =
      absurd (isnt (some_same _ _ _ f1 f2, (_, _, _, refl)))
  once_node (y.floor_call f1 p) st (y.math_call f2 isnt q) =
      absurd (isnt (some_same _ _ _ f2 f1, (_, _, _, refl)))
  once_node (y.floor_call {at = at} f1 p) st (y.floor_call f2 q) =
      let l = once_all p st q in (ap (λ (d : Done (List LuaValue)). after d (floor_result at)) l.0, ap (λ n. n + 2) l.1)
  once_node (y.table_unknown {line = line} u) st (y.table_unknown u2) =
      (ap (fails (UnknownName line)) st, refl)
  once_node (y.table_unknown u) st (y.table_call f2 _) =
      absurd (none_some _ _ u f2)
  once_node (y.table_call f1 _) st (y.table_unknown u) =
      absurd (none_some _ _ u f1)
  once_node (y.table_call {line = line} {function = function} f1 p) st (y.table_call {parts = parts2} f2 q) =
      let l = once_all p st q in (ap (λ (d : Done (List LuaValue)). after d (table_result function line)) l.0 ∙ ap (λ fn. after parts2 (table_result fn line)) (some_same _ _ _ f1 f2), ap (λ n. n + 1) l.1)
  once_node (y.construct p) st (y.construct q) =
      let l = once_fills p (ap (λ (s : State). record s { tables = s.tables ++ no_keys ∷ [] }) st) (ap (λ (s : State). length s.tables) st) q in (l.0, ap (λ n. n + 1) l.1)

  pub once_all : {chunk : List ItemNode} {calls cost more : ℕ} {state last : State} {nodes : Nodes} {done other : Done (List LuaValue)} → AllEvaluate chunk calls state nodes done cost → state ≡ last → AllEvaluate chunk calls last nodes other more → Same done other cost more
  once_all y.all st y.all =
      (ap (gives []) st, refl)
  once_all (y.fault p) st (y.fault q) =
      let l = once_node p st q in (failing _ _ _ _ l.0, l.1)
  once_all (y.fault p) st (y.onward q q2) =
      absurd (never _ _ _ _ (sym (once_node p st q).0))
  once_all (y.onward p p2) st (y.fault q) =
      absurd (never _ _ _ _ (once_node p st q).0)
  once_all (y.onward {value = value} p p2) st (y.onward {value = other} {rest = rest2} q q2) =
      let l = once_node p st q in let r = once_all p2 (behind _ _ _ _ l.0) q2 in (ap (λ (d : Done (List LuaValue)). after d (λ values last. gives (value ∷ values) last)) r.0 ∙ ap (λ v. after rest2 (λ values last. gives (v ∷ values) last)) (given _ _ _ _ l.0), sum2 _ _ _ _ l.1 r.1)

  pub once_fills : {chunk : List ItemNode} {calls cost more : ℕ} {state last : State} {row row2 next : ℕ} {entries : EntryNodes} {done other : Done LuaValue} → Fills chunk calls state row next entries done cost → state ≡ last → row ≡ row2 → Fills chunk calls last row2 next entries other more → Same done other cost more
  once_fills (y.filled {at = one}) st at (y.filled {at = other} {state = last}) =
      (ap (λ (s : State). gives (Table one) s) st ∙ ap (λ n. gives (Table n) last) at, refl)
  once_fills (y.value {at = row} {next = next} {now = now} {given = v} p p2) st at (y.value {at = row2} {now = last} {given = w} q q2) =
      let l = once_node p st q in let r = once_fills p2 (ap (λ (s : State). record s { tables = stored s.tables row (Number (pos next)) v }) (behind _ _ _ _ l.0) ∙ ap (λ x. record last { tables = stored last.tables row (Number (pos next)) x }) (given _ _ _ _ l.0) ∙ ap (λ x. record last { tables = stored last.tables x (Number (pos next)) w }) at) at q2 in (r.0, sum2 _ _ _ _ l.1 r.1)
  once_fills (y.value p p2) st at (y.value_fails q) =
      absurd (never _ _ _ _ (once_node p st q).0)
  once_fills (y.value_fails p) st at (y.value q q2) =
      absurd (never _ _ _ _ (sym (once_node p st q).0))
  once_fills (y.value_fails p) st at (y.value_fails q) =
      once_node p st q
  once_fills (y.named {at = row} {now = now} {called = called} {given = v} p p2) st at (y.named {at = row2} {now = last} {given = w} q q2) =
      let l = once_node p st q in let r = once_fills p2 (ap (λ (s : State). record s { tables = stored s.tables row (Text called) v }) (behind _ _ _ _ l.0) ∙ ap (λ x. record last { tables = stored last.tables row (Text called) x }) (given _ _ _ _ l.0) ∙ ap (λ x. record last { tables = stored last.tables x (Text called) w }) at) at q2 in (r.0, sum2 _ _ _ _ l.1 r.1)
  once_fills (y.named p p2) st at (y.named_fails q) =
      absurd (never _ _ _ _ (once_node p st q).0)
  once_fills (y.named_fails p) st at (y.named q q2) =
      absurd (never _ _ _ _ (sym (once_node p st q).0))
  once_fills (y.named_fails p) st at (y.named_fails q) =
      once_node p st q
  once_fills (y.keyed {at = row} {now = now} {where_to = k} {given = v} p key p2) st at (y.keyed {now = last} {where_to = k2} {given = w} q key2 q2) =
      let l = once_all p st q in let r = once_fills p2 (ap (λ (s : State). record s { tables = stored s.tables row k v }) (behind _ _ _ _ l.0) ∙ ap (λ vs. record last { tables = stored last.tables row (first_in vs) (second_in vs) }) (given _ _ _ _ l.0) ∙ ap (λ x. record last { tables = stored last.tables x k2 w }) at) at q2 in (r.0, sum2 _ _ _ _ l.1 r.1)
  once_fills (y.keyed p key p2) st at (y.no_key q key2) =
      absurd (clash _ _ key key2 (ap (λ vs. is_key (first_in vs)) (given _ _ _ _ (once_all p st q).0)))
  once_fills (y.no_key p key) st at (y.keyed q key2 q2) =
      absurd (clash _ _ key2 key (sym (ap (λ vs. is_key (first_in vs)) (given _ _ _ _ (once_all p st q).0))))
  once_fills (y.keyed p key p2) st at (y.keyed_fails q) =
      absurd (never _ _ _ _ (once_all p st q).0)
  once_fills (y.no_key p key) st at (y.keyed_fails q) =
      absurd (never _ _ _ _ (once_all p st q).0)
  once_fills (y.keyed_fails p) st at (y.keyed q key2 q2) =
      absurd (never _ _ _ _ (sym (once_all p st q).0))
  once_fills (y.keyed_fails p) st at (y.no_key q key2) =
      absurd (never _ _ _ _ (sym (once_all p st q).0))
  once_fills (y.no_key {line = line} p key) st at (y.no_key q key2) =
      let l = once_all p st q in (ap (fails (TypeFault line)) (behind _ _ _ _ l.0), l.1)
  once_fills (y.keyed_fails p) st at (y.keyed_fails q) =
      let l = once_all p st q in (failing _ _ _ _ l.0, l.1)

  pub once_statement : {chunk : List ItemNode} {calls cost more : ℕ} {state last : State} {statement : StatementNode} {done other : Gone} → Executes chunk calls state statement done cost → state ≡ last → Executes chunk calls last statement other more → Same done other cost more
  once_statement (y.local_with {called = called} p) st (y.local_with q) =
      let l = once_node p st q in (ap (λ (d : Done LuaValue). done_with d (λ given now. goes (declared called given now))) l.0, ap (λ n. n + 1) l.1)
  once_statement (y.local_without {called = called}) st y.local_without =
      (ap (λ (s : State). goes (declared called Nil s)) st, refl)
  once_statement (y.assign {called = called} p) st (y.assign q) =
      let l = once_node p st q in (ap (λ (d : Done LuaValue). done_with d (λ given now. goes (assigned called given now))) l.0, ap (λ n. n + 1) l.1)
  once_statement (y.set_index {line = line} p) st (y.set_index q) =
      let l = once_all p st q in (ap (λ (d : Done (List LuaValue)). done_with d (put line)) l.0, ap (λ n. n + 1) l.1)
  once_statement (y.set_member {line = line} {called = called} p) st (y.set_member q) =
      let l = once_all p st q in (ap (λ (d : Done (List LuaValue)). done_with d (put_member line called)) l.0, ap (λ n. n + 1) l.1)
  once_statement (y.call_alone p) st (y.call_alone q) =
      let l = once_node p st q in (ap (λ (d : Done LuaValue). done_with d (λ given now. goes now)) l.0, ap (λ n. n + 1) l.1)
  once_statement (y.conditional p) st (y.conditional q) =
      let l = once_chooses p st q in (l.0, ap (λ n. n + 1) l.1)
  once_statement (y.while_loop p) st (y.while_loop q) =
      let l = once_while p st q in (l.0, ap (λ n. n + 1) l.1)
  once_statement (y.repeat_loop p) st (y.repeat_loop q) =
      let l = once_repeats p st q in (l.0, ap (λ n. n + 1) l.1)
  once_statement (y.bounds_fail p) st (y.bounds_fail q) =
      let l = once_all p st q in (stopping _ _ _ _ l.0, ap (λ n. n + 1) l.1)
  once_statement (y.bounds_fail p) st (y.no_bounds q b2) =
      absurd (never _ _ _ _ (sym (once_all p st q).0))
  once_statement (y.bounds_fail p) st (y.for_loop q b2 q2) =
      absurd (never _ _ _ _ (sym (once_all p st q).0))
  once_statement (y.no_bounds p b1) st (y.bounds_fail q) =
      absurd (never _ _ _ _ (once_all p st q).0)
  once_statement (y.for_loop p b1 p2) st (y.bounds_fail q) =
      absurd (never _ _ _ _ (once_all p st q).0)
  once_statement (y.no_bounds {line = line} {now = now} {why = why} p b1) st (y.no_bounds {now = last} q b2) =
      let l = once_all p st q in (ap (λ (s : State). stops why s) (behind _ _ _ _ l.0) ∙ ap (λ f. stops f last) (err_bounds _ _ _ (sym (ap (bounds_of line) (given _ _ _ _ l.0)) ∙ b1) b2), ap (λ n. n + 1) l.1)
  once_statement (y.no_bounds {line = line} p b1) st (y.for_loop q b2 q2) =
      let l = once_all p st q in absurd (err_ok _ _ _ (sym (ap (bounds_of line) (given _ _ _ _ l.0)) ∙ b1) b2)
  once_statement (y.for_loop {line = line} p b1 p2) st (y.no_bounds q b2) =
      let l = once_all p st q in absurd (err_ok _ _ _ ((ap (bounds_of line) (given _ _ _ _ l.0)) ∙ b2) b1)
  once_statement (y.for_loop {line = line} p b1 p2) st (y.for_loop q b2 q2) =
      let l = once_all p st q in let r = once_turns p2 (behind _ _ _ _ l.0) (ok_bounds _ _ _ (sym (ap (bounds_of line) (given _ _ _ _ l.0)) ∙ b1) b2) q2 in (r.0, ap (λ n. n + 1) (sum2 _ _ _ _ l.1 r.1))
  once_statement (y.do_block {state = state} {gone = gone} p) st (y.do_block {state = last} q) =
      let l = once_runs p st q in (ap (λ (s : State). record gone { state = left_block s gone.state }) st ∙ ap (λ (g : Gone). record g { state = left_block last g.state }) l.0, ap (λ n. n + 1) l.1)
  once_statement y.break_out st y.break_out =
      (ap (λ (s : State). record { way = Breaks; state = s }) st, refl)
  once_statement (y.return_with p) st (y.return_with q) =
      let l = once_node p st q in (ap (λ (d : Done LuaValue). done_with d (λ given now. record { way = Returns given; state = now })) l.0, ap (λ n. n + 1) l.1)
  once_statement y.return_without st y.return_without =
      (ap (λ (s : State). record { way = Returns Nil; state = s }) st, refl)

  pub once_runs : {chunk : List ItemNode} {calls cost more : ℕ} {state last : State} {block : BlockNode} {done other : Gone} → Runs chunk calls state block done cost → state ≡ last → Runs chunk calls last block other more → Same done other cost more
  once_runs y.finished st y.finished =
      (ap goes st, refl)
  once_runs (y.ended p isnt) st (y.ended q isnt2) =
      once_statement p st q
  once_runs (y.ended p isnt) st (y.on q q2) =
      absurd (clash _ _ refl isnt (sym (ap (λ (g : Gone). loops g.way) (once_statement p st q).0)))
  once_runs (y.on p p2) st (y.ended q isnt) =
      absurd (clash _ _ refl isnt (ap (λ (g : Gone). loops g.way) (once_statement p st q).0))
  once_runs (y.on p p2) st (y.on q q2) =
      let l = once_statement p st q in let r = once_runs p2 (going _ _ l.0) q2 in (r.0, sum2 _ _ _ _ l.1 r.1)

  pub once_chooses : {chunk : List ItemNode} {calls cost more : ℕ} {state last : State} {arms : ArmNodes} {done other : Gone} → Chooses chunk calls state arms done cost → state ≡ last → Chooses chunk calls last arms other more → Same done other cost more
  once_chooses y.no_else st y.no_else =
      (ap goes st, refl)
  once_chooses (y.in_else {gone = gone} p) st (y.in_else {state = last} q) =
      let l = once_runs p st q in (ap (λ (s : State). record gone { state = left_block s gone.state }) st ∙ ap (λ (g : Gone). record g { state = left_block last g.state }) l.0, l.1)
  once_chooses (y.test_fails p) st (y.test_fails q) =
      let l = once_node p st q in (stopping _ _ _ _ l.0, l.1)
  once_chooses (y.test_fails p) st (y.holds q k2 q2) =
      absurd (never _ _ _ _ (sym (once_node p st q).0))
  once_chooses (y.holds p k p2) st (y.test_fails q) =
      absurd (never _ _ _ _ (once_node p st q).0)
  once_chooses (y.test_fails p) st (y.fails_over q k2 q2) =
      absurd (never _ _ _ _ (sym (once_node p st q).0))
  once_chooses (y.fails_over p k p2) st (y.test_fails q) =
      absurd (never _ _ _ _ (once_node p st q).0)
  once_chooses (y.holds p k p2) st (y.fails_over q k2 q2) =
      absurd (clash _ _ k k2 (ap is_true (given _ _ _ _ (once_node p st q).0)))
  once_chooses (y.fails_over p k p2) st (y.holds q k2 q2) =
      absurd (clash _ _ k2 k (sym (ap is_true (given _ _ _ _ (once_node p st q).0))))
  once_chooses (y.holds {gone = gone} p k p2) st (y.holds {now = last} q k2 q2) =
      let l = once_node p st q in let r = once_runs p2 (behind _ _ _ _ l.0) q2 in (ap (λ (s : State). record gone { state = left_block s gone.state }) (behind _ _ _ _ l.0) ∙ ap (λ (g : Gone). record g { state = left_block last g.state }) r.0, sum2 _ _ _ _ l.1 r.1)
  once_chooses (y.fails_over p k p2) st (y.fails_over q k2 q2) =
      let l = once_node p st q in let r = once_chooses p2 (behind _ _ _ _ l.0) q2 in (r.0, sum2 _ _ _ _ l.1 r.1)

  pub once_while : {chunk : List ItemNode} {calls cost more : ℕ} {state last : State} {test : Node} {block : BlockNode} {done other : Gone} → While chunk calls state test block done cost → state ≡ last → While chunk calls last test block other more → Same done other cost more
  once_while (y.while_fails p) st (y.while_fails q) =
      let l = once_node p st q in (stopping _ _ _ _ l.0, l.1)
  once_while (y.while_fails p) st (y.while_ends q k2) =
      absurd (never _ _ _ _ (sym (once_node p st q).0))
  once_while (y.while_ends p k) st (y.while_fails q) =
      absurd (never _ _ _ _ (once_node p st q).0)
  once_while (y.while_fails p) st (y.while_left q k2 r2 n2) =
      absurd (never _ _ _ _ (sym (once_node p st q).0))
  once_while (y.while_left p k r1 n1) st (y.while_fails q) =
      absurd (never _ _ _ _ (once_node p st q).0)
  once_while (y.while_fails p) st (y.while_on q k2 r2 m2) =
      absurd (never _ _ _ _ (sym (once_node p st q).0))
  once_while (y.while_on p k r1 m1) st (y.while_fails q) =
      absurd (never _ _ _ _ (once_node p st q).0)
  once_while (y.while_ends p k) st (y.while_ends q k2) =
      let l = once_node p st q in (ap goes (behind _ _ _ _ l.0), l.1)
  once_while (y.while_ends p k) st (y.while_left q k2 r2 n2) =
      absurd (clash _ _ k2 k (sym (ap is_true (given _ _ _ _ (once_node p st q).0))))
  once_while (y.while_left p k r1 n1) st (y.while_ends q k2) =
      absurd (clash _ _ k k2 (ap is_true (given _ _ _ _ (once_node p st q).0)))
  once_while (y.while_ends p k) st (y.while_on q k2 r2 m2) =
      absurd (clash _ _ k2 k (sym (ap is_true (given _ _ _ _ (once_node p st q).0))))
  once_while (y.while_on p k r1 m1) st (y.while_ends q k2) =
      absurd (clash _ _ k k2 (ap is_true (given _ _ _ _ (once_node p st q).0)))
  once_while (y.while_left {gone = gone} p k r1 n1) st (y.while_left {now = last} q k2 r2 n2) =
      let l = once_node p st q in let r = once_runs r1 (behind _ _ _ _ l.0) r2 in (ap (λ (s : State). record { way = out_of_loop gone.way; state = left_block s gone.state }) (behind _ _ _ _ l.0) ∙ ap (λ (g : Gone). record { way = out_of_loop g.way; state = left_block last g.state }) r.0, ap (λ n. n + 1) (sum2 _ _ _ _ l.1 r.1))
  once_while (y.while_left p k r1 n1) st (y.while_on q k2 r2 m2) =
      let l = once_node p st q in absurd (clash _ _ refl n1 (sym (ap (λ (g : Gone). loops g.way) (once_runs r1 (behind _ _ _ _ l.0) r2).0)))
  once_while (y.while_on p k r1 m1) st (y.while_left q k2 r2 n2) =
      let l = once_node p st q in absurd (clash _ _ refl n2 (ap (λ (g : Gone). loops g.way) (once_runs r1 (behind _ _ _ _ l.0) r2).0))
  once_while (y.while_on {last = end1} p k r1 m1) st (y.while_on {now = now2} q k2 r2 m2) =
      let l = once_node p st q in let r = once_runs r1 (behind _ _ _ _ l.0) r2 in let m = once_while m1 (ap (λ (s : State). left_block s end1) (behind _ _ _ _ l.0) ∙ ap (λ (s : State). left_block now2 s) (going _ _ r.0)) m2 in (m.0, ap (λ n. n + 1) (sum2 _ _ _ _ (sum2 _ _ _ _ l.1 r.1) m.1))

  pub once_repeats : {chunk : List ItemNode} {calls cost more : ℕ} {state last : State} {test : Node} {block : BlockNode} {done other : Gone} → Repeats chunk calls state block test done cost → state ≡ last → Repeats chunk calls last block test other more → Same done other cost more
  once_repeats (y.repeat_left {gone = gone} p n1) st (y.repeat_left {state = last} q n2) =
      let r = once_runs p st q in (ap (λ (s : State). record { way = out_of_loop gone.way; state = left_block s gone.state }) st ∙ ap (λ (g : Gone). record { way = out_of_loop g.way; state = left_block last g.state }) r.0, ap (λ n. n + 1) r.1)
  once_repeats (y.repeat_left p n1) st (y.repeat_fails q t2) =
      absurd (clash _ _ refl n1 (sym (ap (λ (g : Gone). loops g.way) (once_runs p st q).0)))
  once_repeats (y.repeat_fails p t1) st (y.repeat_left q n2) =
      absurd (clash _ _ refl n2 (ap (λ (g : Gone). loops g.way) (once_runs p st q).0))
  once_repeats (y.repeat_left p n1) st (y.repeat_ends q t2 k2) =
      absurd (clash _ _ refl n1 (sym (ap (λ (g : Gone). loops g.way) (once_runs p st q).0)))
  once_repeats (y.repeat_ends p t1 k) st (y.repeat_left q n2) =
      absurd (clash _ _ refl n2 (ap (λ (g : Gone). loops g.way) (once_runs p st q).0))
  once_repeats (y.repeat_left p n1) st (y.repeat_on q t2 k2 m2) =
      absurd (clash _ _ refl n1 (sym (ap (λ (g : Gone). loops g.way) (once_runs p st q).0)))
  once_repeats (y.repeat_on p t1 k m1) st (y.repeat_left q n2) =
      absurd (clash _ _ refl n2 (ap (λ (g : Gone). loops g.way) (once_runs p st q).0))
  once_repeats (y.repeat_fails {now = now1} {why = why} p t1) st (y.repeat_fails {state = state2} {now = now2} q t2) =
      let r = once_runs p st q in let l = once_node t1 (going _ _ r.0) t2 in (ap (λ (s : State). stops why (left_block s now1)) st ∙ ap (λ (g : Gone). record g { state = left_block state2 g.state }) (stopping _ _ _ _ l.0), ap (λ n. n + 1) (sum2 _ _ _ _ r.1 l.1))
  once_repeats (y.repeat_fails p t1) st (y.repeat_ends q t2 k2) =
      let r = once_runs p st q in let l = once_node t1 (going _ _ r.0) t2 in absurd (never _ _ _ _ (sym l.0))
  once_repeats (y.repeat_ends p t1 k) st (y.repeat_fails q t2) =
      let r = once_runs p st q in let l = once_node t1 (going _ _ r.0) t2 in absurd (never _ _ _ _ l.0)
  once_repeats (y.repeat_fails p t1) st (y.repeat_on q t2 k2 m2) =
      let r = once_runs p st q in let l = once_node t1 (going _ _ r.0) t2 in absurd (never _ _ _ _ (sym l.0))
  once_repeats (y.repeat_on p t1 k m1) st (y.repeat_fails q t2) =
      let r = once_runs p st q in let l = once_node t1 (going _ _ r.0) t2 in absurd (never _ _ _ _ l.0)
  once_repeats (y.repeat_ends p t1 k) st (y.repeat_on q t2 k2 m2) =
      let r = once_runs p st q in let l = once_node t1 (going _ _ r.0) t2 in absurd (clash _ _ k k2 (ap is_true (given _ _ _ _ l.0)))
  once_repeats (y.repeat_on p t1 k m1) st (y.repeat_ends q t2 k2) =
      let r = once_runs p st q in let l = once_node t1 (going _ _ r.0) t2 in absurd (clash _ _ k2 k (sym (ap is_true (given _ _ _ _ l.0))))
  once_repeats (y.repeat_ends {now = now1} p t1 k) st (y.repeat_ends {state = state2} q t2 k2) =
      let r = once_runs p st q in let l = once_node t1 (going _ _ r.0) t2 in (ap goes (ap (λ (s : State). left_block s now1) st ∙ ap (λ (s : State). left_block state2 s) (behind _ _ _ _ l.0)), ap (λ n. n + 1) (sum2 _ _ _ _ r.1 l.1))
  once_repeats (y.repeat_on {now = now1} p t1 k m1) st (y.repeat_on {state = state2} q t2 k2 m2) =
      let r = once_runs p st q in let l = once_node t1 (going _ _ r.0) t2 in let m = once_repeats m1 (ap (λ (s : State). left_block s now1) st ∙ ap (λ (s : State). left_block state2 s) (behind _ _ _ _ l.0)) m2 in (m.0, ap (λ n. n + 1) (sum2 _ _ _ _ (sum2 _ _ _ _ r.1 l.1) m.1))

  pub once_turns : {chunk : List ItemNode} {calls cost more : ℕ} {state last : State} {called : List ℕ} {bounds bounds2 : Bounds} {block : BlockNode} {done other : Gone} → Turns chunk calls state called bounds block done cost → state ≡ last → bounds ≡ bounds2 → Turns chunk calls last called bounds2 block other more → Same done other cost more
  once_turns (y.past isnt) st same (y.past isnt2) =
      (ap goes st, refl)
  once_turns (y.past isnt) st same (y.turn_left k2 q n2) =
      absurd (clash _ _ k2 isnt (sym (ap comes same)))
  once_turns (y.turn_left k p n1) st same (y.past isnt2) =
      absurd (clash _ _ k isnt2 (ap comes same))
  once_turns (y.past isnt) st same (y.turn_on k2 q m2) =
      absurd (clash _ _ k2 isnt (sym (ap comes same)))
  once_turns (y.turn_on k p m1) st same (y.past isnt2) =
      absurd (clash _ _ k isnt2 (ap comes same))
  once_turns (y.turn_left {called = called} {bounds = bounds} {gone = gone} k p n1) st same (y.turn_left {state = state2} k2 q n2) =
      let r = once_runs p (ap (λ (s : State). declared called (Number bounds.first) s) st ∙ ap (λ (b : Bounds). declared called (Number b.first) state2) same) q in (ap (λ (s : State). record { way = out_of_loop gone.way; state = left_block s gone.state }) st ∙ ap (λ (g : Gone). record { way = out_of_loop g.way; state = left_block state2 g.state }) r.0, ap (λ n. n + 1) r.1)
  once_turns (y.turn_left {called = called} {bounds = bounds} k p n1) st same (y.turn_on {state = state2} k2 q m2) =
      absurd (clash _ _ refl n1 (sym (ap (λ (g : Gone). loops g.way) (once_runs p (ap (λ (s : State). declared called (Number bounds.first) s) st ∙ ap (λ (b : Bounds). declared called (Number b.first) state2) same) q).0)))
  once_turns (y.turn_on {called = called} {bounds = bounds} k p m1) st same (y.turn_left {state = state2} k2 q n2) =
      absurd (clash _ _ refl n2 (ap (λ (g : Gone). loops g.way) (once_runs p (ap (λ (s : State). declared called (Number bounds.first) s) st ∙ ap (λ (b : Bounds). declared called (Number b.first) state2) same) q).0))
  once_turns (y.turn_on {last = end1} {called = called} {bounds = bounds} k p m1) st same (y.turn_on {state = state2} k2 q m2) =
      let r = once_runs p (ap (λ (s : State). declared called (Number bounds.first) s) st ∙ ap (λ (b : Bounds). declared called (Number b.first) state2) same) q in let m = once_turns m1 (ap (λ (s : State). left_block s end1) st ∙ ap (λ (s : State). left_block state2 s) (going _ _ r.0)) (ap next_turn same) m2 in (m.0, ap (λ n. n + 1) (sum2 _ _ _ _ r.1 m.1))
