-- What the tables say of the statements before.
use Rattle.std.proofs.Common.{◌≡◌, ℕ, Bool, true, false, cond, List, [], ◌∷◌, Option, Some, None, refl, sym, ap, ◌∙◌}
use Rattle.std.specs.Prelude.{◌||◌, ◌&&◌, not, ◌==◌}
use Rattle.std.specs.Option.{option_or}
use Rattle.std.proofs.Common.{arith}
use Rattle.std.proofs.lemmas.Bool.Decides.{nat_tests}
use Rattle.net_tree.specs.Tree.{Name}
use Rattle.std.specs.Cmp.Lexicographic.{bytes_decides}
use Rattle.net_rules.specs.Rules.{BrokenRule, Unknown, ReadTwice, WrittenTwice, CounterChanged, broken_where, is_name}
use Rattle.net_rules.proofs.SureBodies.{neither, no_test}
use Rattle.net_rules.specs.Tables.{Table, value_of}
use Rattle.net_rules.specs.Found.{Use}
use Rattle.net_rules.specs.Known.{is_other, is_used_by_other, is_used_elsewhere, is_used_among, isnt_known, KnowsUsers, IsNoted, use_fault, use_fault_among}

-- ---- users

-- whether this process uses this name
abbrev uses_it : (Use → Option Name) → Use → ℕ → Name → Bool
uses_it use_of found process name = not (found.process == process) && is_name name (use_of found)

other_or : (one : Option ℕ) (used : Bool) (user process : ℕ) → (used ≡ true → is_other one user ≡ false) → ((not (user == process) && used) || is_other one process) ≡ is_other (cond used (Some user) one) process
other_or one false user process none = by (not (user == process))
  where
    by : (b : Bool) → ((b && false) || is_other one process) ≡ is_other one process
    by true = refl
    by false = refl
other_or None true user process none = by (not (user == process))
  where
    by : (b : Bool) → ((b && true) || false) ≡ b
    by true = refl
    by false = refl
other_or (Some one) true user process none = both (not (user == process)) (not (one == process)) (same_user (none refl))
  where
    both : (a b : Bool) → b ≡ a → ((a && true) || b) ≡ a
    both true b is = refl
    both false b is = is

    same_user : not (one == user) ≡ false → not (one == process) ≡ not (user == process)
    same_user is = grind (arith, nat_tests)

-- a name that this process may use has no other user
alone : (table : Table) (process : ℕ) (used : Option Name) (name : Name) → is_used_by_other table process used ≡ false → is_name name used ≡ true → is_other (value_of table name) process ≡ false
alone table process None name free is = absurd cc
alone table process (Some other) name free is =
    let same : name ≡ other = (bytes_decides name other).0 is in
    ap (λ n. is_other (value_of table n) process) same ∙ free

module _ (use_of : Use → Option Name) (old new : Table) (earlier : List Use) (found : Use) where
  noted_more : ((process : ℕ) (name : Name) → is_used_elsewhere use_of earlier process name ≡ is_other (value_of old name) process) → is_used_by_other old found.process (use_of found) ≡ false → IsNoted old new (use_of found) found.process →
      (process : ℕ) (name : Name) → is_used_elsewhere use_of (found ∷ earlier) process name ≡ is_other (value_of new name) process
  noted_more knows free noted process name =
      ap (λ b. (not (found.process == process) && is_name name (use_of found)) || b) (knows process name)
      ∙ other_or (value_of old name) (is_name name (use_of found)) found.process process (λ is. alone old found.process (use_of found) name free is)
      ∙ ap (λ o. is_other o process) (sym (noted name))

-- by the tables and by the statements before, the same is wrong with a statement
by_table : (use_of : Use → Option Name) (table : Table) (earlier : List Use) → ((process : ℕ) (name : Name) → is_used_elsewhere use_of earlier process name ≡ is_other (value_of table name) process) → (process : ℕ) (used : Option Name) → is_used_among use_of earlier process used ≡ is_used_by_other table process used
by_table use_of table earlier knows process None = refl
by_table use_of table earlier knows process (Some name) = knows process name

module _ (readable writable : Name → Bool) (readers writers : Table) (earlier : List Use) (knows : KnowsUsers readers writers earlier) (found : Use) where
  pub same_fault : use_fault_among readable writable earlier found ≡ use_fault readable writable readers writers found
  same_fault =
      let rest : Option BrokenRule = broken_where found.changes (CounterChanged found.line) in
      let before : Option BrokenRule → Option BrokenRule = λ o. option_or (broken_where (isnt_known readable found.read) (Unknown found.line)) (option_or (broken_where (isnt_known writable found.written) (Unknown found.line)) o) in
      ap (λ b. before (option_or (broken_where b (ReadTwice found.line)) (option_or (broken_where (is_used_among (λ other. other.written) earlier found.process found.written) (WrittenTwice found.line)) rest))) (by_table (λ other. other.read) readers earlier knows.readers found.process found.read)
      ∙ ap (λ b. before (option_or (broken_where (is_used_by_other readers found.process found.read) (ReadTwice found.line)) (option_or (broken_where b (WrittenTwice found.line)) rest))) (by_table (λ other. other.written) writers earlier knows.writers found.process found.written)

  pub knows_more : use_fault readable writable readers writers found ≡ None → (reading writing : Table) → IsNoted readers reading found.read found.process → IsNoted writers writing found.written found.process → KnowsUsers reading writing (found ∷ earlier)
  knows_more none reading writing read written =
      let rest : Option BrokenRule = broken_where found.changes (CounterChanged found.line) in
      let twice_written : Option BrokenRule = broken_where (is_used_by_other writers found.process found.written) (WrittenTwice found.line) in
      let twice_read : Option BrokenRule = broken_where (is_used_by_other readers found.process found.read) (ReadTwice found.line) in
      let unknown : Option BrokenRule = broken_where (isnt_known writable found.written) (Unknown found.line) in
      let first = neither (broken_where (isnt_known readable found.read) (Unknown found.line)) (option_or unknown (option_or twice_read (option_or twice_written rest))) none in
      let second = neither unknown (option_or twice_read (option_or twice_written rest)) first.1 in
      let third = neither twice_read (option_or twice_written rest) second.1 in
      let fourth = neither twice_written rest third.1 in
      record {
        readers = noted_more (λ other. other.read) readers reading earlier found knows.readers (no_test _ (ReadTwice found.line) third.0) read;
        writers = noted_more (λ other. other.written) writers writing earlier found knows.writers (no_test _ (WrittenTwice found.line) fourth.0) written;
      }

-- no statements before
pub knows_none : (readers writers : Table) → readers ≡ [] → writers ≡ [] → KnowsUsers readers writers []
knows_none readers writers no_readers no_writers = record { readers = λ process name. ap (λ t. is_other (value_of t name) process) (sym no_readers); writers = λ process name. ap (λ t. is_other (value_of t name) process) (sym no_writers) }
