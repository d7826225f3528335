-- The bodies of the processes of a column, by what they are made of.
use Rattle.std.proofs.Common.{◌≡◌, ℕ, ℤ, ◌+ℤ◌, ◌-ℤ◌, neg_ℤ, Bool, true, false, List, [], ◌∷◌, ◌++◌, refl, sym, ap, subst, ◌∙◌, inl, inr, eqb-true}
use Rattle.std.specs.Prelude.{◌⊎◌, ◌&&◌, ◌||◌, ◌==◌}
use Rattle.std.proofs.lemmas.Bool.{and_parts}
use Rattle.tis_base.specs.Saturation.{sat}
use Rattle.net_tree.specs.declared.tree.Var.TheVariants.{X, Y}
use Rattle.net_tree.specs.Tree.{Statement, Get, GetAdd, GetSub, Put, PutNumber, Move, Set, Add, Sub, Neg, Double, Copy, Swap, If, While, Count, Block, Empty, Then, statements_of}
use Rattle.net_rules.specs.Uses.{read_of, written_of, as_list, reads_in, reads_inside, writes_in, writes_inside, is_same_var}
use Rattle.net_rules.specs.Process.{statement_cost}
use Rattle.net_column.specs.Column.{is_operation, sends_on, gets_from, moves_between, is_over, computes_and_sends, is_round}

-- ---- truth values

-- one or the other
pub either_of : (a b : Bool) → (a || b) ≡ true → (a ≡ true) ⊎ (b ≡ true)
either_of true b is = inl refl
either_of false b is = inr is

pub last_false : {P : Type 0} (a : Bool) → (a && false) ≡ true → P
last_false true is = absurd cc
last_false false is = absurd cc

-- ---- what a round is made of

-- operations, and then one statement that sends
pub data Rest (written : ℕ) : Block ℕ → Type 0 where
  Last : (line : ℕ) (statement : Statement ℕ) → sends_on written statement ≡ true → Rest written (Then line statement Empty)
  More : (line : ℕ) (statement : Statement ℕ) (rest : Block ℕ) → is_operation statement ≡ true → Rest written rest → Rest written (Then line statement rest)

-- what a process does in a round: it moves a value, or reads one and goes on with the rest
pub data Round (read written : ℕ) : Block ℕ → Type 0 where
  Moves : (line : ℕ) → Round read written (Then line (Move read written) Empty)
  Computes : (line : ℕ) (rest : Block ℕ) → Rest written rest → Round read written (Then line (Get read X) rest)

-- what an operation makes of the variable
abbrev pub operate : Statement ℕ → ℤ → ℤ
operate (Set var number) x = number
operate (Add var number) x = sat (x +ℤ number)
operate (Sub var number) x = sat (x -ℤ number)
operate (Neg var) x = sat (neg_ℤ x)
operate (Double var) x = sat (x +ℤ x)
operate _ x = x

-- what a statement sends, at this value of the variable
abbrev pub sent_by : Statement ℕ → ℤ → ℤ
sent_by (PutNumber written number) x = number
sent_by _ x = x

-- what the rest of a round sends, at this value of the variable
abbrev pub value_sent : {written : ℕ} {rest : Block ℕ} → Rest written rest → ℤ → ℤ
value_sent (Last line statement sends) x = sent_by statement x
value_sent (More line statement rest operation later) x = value_sent later (operate statement x)

-- what a round sends for the value that it reads
abbrev pub round_value : {read written : ℕ} {body : Block ℕ} → Round read written body → ℤ → ℤ
round_value (Moves line) value = value
round_value (Computes line rest view) value = value_sent view value

-- ---- a body that passes the tests is a round

over_is : (rest : Block ℕ) → is_over (statements_of rest) ≡ true → rest ≡ Empty
over_is Empty is = refl
over_is (Then line statement rest) is = absurd cc

moves_is : (read written : ℕ) (statement : Statement ℕ) → moves_between read written statement ≡ true → statement ≡ Move read written
moves_is read written (Get r var) is = absurd cc
moves_is read written (GetAdd r var) is = absurd cc
moves_is read written (GetSub r var) is = absurd cc
moves_is read written (Put w var) is = absurd cc
moves_is read written (PutNumber w number) is = absurd cc
moves_is read written (Move from to) is = let both = and_parts (from == read) (to == written) is in ap (λ (n : ℕ). Move n to) (eqb-true from read both.0) ∙ ap (λ (n : ℕ). Move read n) (eqb-true to written both.1)
moves_is read written (Set var number) is = absurd cc
moves_is read written (Add var number) is = absurd cc
moves_is read written (Sub var number) is = absurd cc
moves_is read written (Neg var) is = absurd cc
moves_is read written (Double var) is = absurd cc
moves_is read written (Copy to from) is = absurd cc
moves_is read written Swap is = absurd cc
moves_is read written (If var test first second) is = absurd cc
moves_is read written (While var test body) is = absurd cc
moves_is read written (Count var body) is = absurd cc

gets_is : (name : ℕ) (statement : Statement ℕ) → gets_from name statement ≡ true → statement ≡ Get name X
gets_is name (Get read X) is = let both = and_parts (read == name) true is in ap (λ (n : ℕ). Get n X) (eqb-true read name both.0)
gets_is name (Get read Y) is = absurd (last_false (read == name) is)
gets_is name (GetAdd read var) is = absurd cc
gets_is name (GetSub read var) is = absurd cc
gets_is name (Put written var) is = absurd cc
gets_is name (PutNumber written number) is = absurd cc
gets_is name (Move from to) is = absurd cc
gets_is name (Set var number) is = absurd cc
gets_is name (Add var number) is = absurd cc
gets_is name (Sub var number) is = absurd cc
gets_is name (Neg var) is = absurd cc
gets_is name (Double var) is = absurd cc
gets_is name (Copy to from) is = absurd cc
gets_is name Swap is = absurd cc
gets_is name (If var test first second) is = absurd cc
gets_is name (While var test body) is = absurd cc
gets_is name (Count var body) is = absurd cc

rest_of : (written : ℕ) (body : Block ℕ) → computes_and_sends written (statements_of body) ≡ true → Rest written body
rest_of written Empty is = absurd cc
rest_of written (Then line statement rest) is =
    elim (either_of (is_over (statements_of rest) && sends_on written statement) (is_operation statement && computes_and_sends written (statements_of rest)) is) [
      | inl last ↦
          let both = and_parts (is_over (statements_of rest)) (sends_on written statement) last in
          subst (λ (b : Block ℕ). Rest written (Then line statement b)) (sym (over_is rest both.0)) (Last line statement both.1)
      | inr more ↦
          let both = and_parts (is_operation statement) (computes_and_sends written (statements_of rest)) more in
          More line statement rest both.0 (rest_of written rest both.1)
    ]

pub round_of : (read written : ℕ) (body : Block ℕ) → is_round read written (statements_of body) ≡ true → Round read written body
round_of read written Empty is = absurd cc
round_of read written (Then line statement rest) is =
    elim (either_of (is_over (statements_of rest) && moves_between read written statement) (gets_from read statement && computes_and_sends written (statements_of rest)) is) [
      | inl moves ↦
          let both = and_parts (is_over (statements_of rest)) (moves_between read written statement) moves in
          let same : Then line statement rest ≡ Then line (Move read written) Empty =
          ap (λ (s : Statement ℕ). Then line s rest) (moves_is read written statement both.1) ∙ ap (λ (b : Block ℕ). Then line (Move read written) b) (over_is rest both.0) in
          subst (λ (b : Block ℕ). Round read written b) (sym same) (Moves line)
      | inr computes ↦
          let both = and_parts (gets_from read statement) (computes_and_sends written (statements_of rest)) computes in
          subst (λ (s : Statement ℕ). Round read written (Then line s rest)) (sym (gets_is read statement both.0)) (Computes line rest (rest_of written rest both.1))
    ]

-- ---- what it reads and writes

operation_reads : (statement : Statement ℕ) → is_operation statement ≡ true → (rest : List ℕ) → as_list (read_of statement) ++ (reads_inside statement ++ rest) ≡ rest
operation_reads (Get read var) is rest = absurd cc
operation_reads (GetAdd read var) is rest = absurd cc
operation_reads (GetSub read var) is rest = absurd cc
operation_reads (Put written var) is rest = absurd cc
operation_reads (PutNumber written number) is rest = absurd cc
operation_reads (Move from to) is rest = absurd cc
operation_reads (Set var number) is rest = refl
operation_reads (Add var number) is rest = refl
operation_reads (Sub var number) is rest = refl
operation_reads (Neg var) is rest = refl
operation_reads (Double var) is rest = refl
operation_reads (Copy to from) is rest = absurd cc
operation_reads Swap is rest = absurd cc
operation_reads (If var test first second) is rest = absurd cc
operation_reads (While var test body) is rest = absurd cc
operation_reads (Count var body) is rest = absurd cc

operation_writes : (statement : Statement ℕ) → is_operation statement ≡ true → (rest : List ℕ) → as_list (written_of statement) ++ (writes_inside statement ++ rest) ≡ rest
operation_writes (Get read var) is rest = absurd cc
operation_writes (GetAdd read var) is rest = absurd cc
operation_writes (GetSub read var) is rest = absurd cc
operation_writes (Put written var) is rest = absurd cc
operation_writes (PutNumber written number) is rest = absurd cc
operation_writes (Move from to) is rest = absurd cc
operation_writes (Set var number) is rest = refl
operation_writes (Add var number) is rest = refl
operation_writes (Sub var number) is rest = refl
operation_writes (Neg var) is rest = refl
operation_writes (Double var) is rest = refl
operation_writes (Copy to from) is rest = absurd cc
operation_writes Swap is rest = absurd cc
operation_writes (If var test first second) is rest = absurd cc
operation_writes (While var test body) is rest = absurd cc
operation_writes (Count var body) is rest = absurd cc

sends_reads : (written : ℕ) (statement : Statement ℕ) → sends_on written statement ≡ true → as_list (read_of statement) ++ (reads_inside statement ++ []) ≡ []
sends_reads written (Get read var) is = absurd cc
sends_reads written (GetAdd read var) is = absurd cc
sends_reads written (GetSub read var) is = absurd cc
sends_reads written (Put name var) is = refl
sends_reads written (PutNumber name number) is = refl
sends_reads written (Move from to) is = absurd cc
sends_reads written (Set var number) is = absurd cc
sends_reads written (Add var number) is = absurd cc
sends_reads written (Sub var number) is = absurd cc
sends_reads written (Neg var) is = absurd cc
sends_reads written (Double var) is = absurd cc
sends_reads written (Copy to from) is = absurd cc
sends_reads written Swap is = absurd cc
sends_reads written (If var test first second) is = absurd cc
sends_reads written (While var test body) is = absurd cc
sends_reads written (Count var body) is = absurd cc

sends_writes : (written : ℕ) (statement : Statement ℕ) → sends_on written statement ≡ true → as_list (written_of statement) ++ (writes_inside statement ++ []) ≡ written ∷ []
sends_writes written (Get read var) is = absurd cc
sends_writes written (GetAdd read var) is = absurd cc
sends_writes written (GetSub read var) is = absurd cc
sends_writes written (Put name var) is = let both = and_parts (name == written) (is_same_var X var) is in ap (λ (n : ℕ). n ∷ []) (eqb-true name written both.0)
sends_writes written (PutNumber name number) is = ap (λ (n : ℕ). n ∷ []) (eqb-true name written is)
sends_writes written (Move from to) is = absurd cc
sends_writes written (Set var number) is = absurd cc
sends_writes written (Add var number) is = absurd cc
sends_writes written (Sub var number) is = absurd cc
sends_writes written (Neg var) is = absurd cc
sends_writes written (Double var) is = absurd cc
sends_writes written (Copy to from) is = absurd cc
sends_writes written Swap is = absurd cc
sends_writes written (If var test first second) is = absurd cc
sends_writes written (While var test body) is = absurd cc
sends_writes written (Count var body) is = absurd cc

rest_reads : {written : ℕ} {rest : Block ℕ} → Rest written rest → reads_in rest ≡ []
rest_reads {written = written} (Last line statement sends) = sends_reads written statement sends
rest_reads (More line statement rest operation later) = operation_reads statement operation (reads_in rest) ∙ rest_reads later

rest_writes : {written : ℕ} {rest : Block ℕ} → Rest written rest → writes_in rest ≡ written ∷ []
rest_writes {written = written} (Last line statement sends) = sends_writes written statement sends
rest_writes (More line statement rest operation later) = operation_writes statement operation (writes_in rest) ∙ rest_writes later

-- a round reads one name and writes one
pub round_reads : {read written : ℕ} {body : Block ℕ} → Round read written body → reads_in body ≡ read ∷ []
round_reads (Moves line) = refl
round_reads {read = read} (Computes line rest view) = ap (λ (names : List ℕ). read ∷ names) (rest_reads view)

pub round_writes : {read written : ℕ} {body : Block ℕ} → Round read written body → writes_in body ≡ written ∷ []
round_writes (Moves line) = refl
round_writes (Computes line rest view) = rest_writes view

-- ---- what it costs

pub operation_cost : (statement : Statement ℕ) → is_operation statement ≡ true → statement_cost statement ≡ 1
operation_cost (Get read var) is = absurd cc
operation_cost (GetAdd read var) is = absurd cc
operation_cost (GetSub read var) is = absurd cc
operation_cost (Put written var) is = absurd cc
operation_cost (PutNumber written number) is = absurd cc
operation_cost (Move from to) is = absurd cc
operation_cost (Set var number) is = refl
operation_cost (Add var number) is = refl
operation_cost (Sub var number) is = refl
operation_cost (Neg var) is = refl
operation_cost (Double var) is = refl
operation_cost (Copy to from) is = absurd cc
operation_cost Swap is = absurd cc
operation_cost (If var test first second) is = absurd cc
operation_cost (While var test body) is = absurd cc
operation_cost (Count var body) is = absurd cc

pub sends_cost : (written : ℕ) (statement : Statement ℕ) → sends_on written statement ≡ true → statement_cost statement ≡ 1
sends_cost written (Get read var) is = absurd cc
sends_cost written (GetAdd read var) is = absurd cc
sends_cost written (GetSub read var) is = absurd cc
sends_cost written (Put name var) is = refl
sends_cost written (PutNumber name number) is = refl
sends_cost written (Move from to) is = absurd cc
sends_cost written (Set var number) is = absurd cc
sends_cost written (Add var number) is = absurd cc
sends_cost written (Sub var number) is = absurd cc
sends_cost written (Neg var) is = absurd cc
sends_cost written (Double var) is = absurd cc
sends_cost written (Copy to from) is = absurd cc
sends_cost written Swap is = absurd cc
sends_cost written (If var test first second) is = absurd cc
sends_cost written (While var test body) is = absurd cc
sends_cost written (Count var body) is = absurd cc
