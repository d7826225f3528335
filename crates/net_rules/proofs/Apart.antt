-- Where no declaration is repeated, no channel and no output has the name of an input.
use Rattle.std.proofs.Common.{◌≡◌, ◌≤◌, ℕ, ◌+◌, Bool, true, false, cond, List, [], ◌∷◌, ◌++◌, map, None, refl, sym, ap, ◌∙◌, arith}
use Rattle.std.specs.Prelude.{◌||◌, ◌&&◌, not, nat_le}
use Rattle.std.specs.List.{list_any}
use Rattle.std.specs.Str.{bytes_eq}
use Rattle.std.specs.Cmp.Lexicographic.{bytes_decides}
use Rattle.net_tree.specs.Tree.{Name, PortLine, ChannelLine, Net}
use Rattle.net_rules.specs.Numbers.{writable}
use Rattle.net_rules.specs.Rules.{placed_by, by_line, first_among, first_fault, Declaration, input_declared, channel_declared, output_declared, process_declared, declarations, is_process, share_names, share_place, declaration_fault, Repeated, SamePlace, broken_where, is_among}
use Rattle.net_rules.proofs.Tables.{exchanged}
use Rattle.net_rules.proofs.SureBodies.{neither, no_test}

-- ---- how many elements pass a test

abbrev one_where : Bool → ℕ
one_where b = cond b 1 0

abbrev count : {X : Type 0} → (X → Bool) → List X → ℕ
count test [] = 0
count test (x ∷ xs) = one_where (test x) + count test xs

count_both : {X : Type 0} (test : X → Bool) (xs ys : List X) → count test (xs ++ ys) ≡ count test xs + count test ys
count_both test [] ys = omega arith
count_both test (x ∷ xs) ys = let rest = count_both test xs ys in omega (arith, rest)

placed_count : {X : Type 0} (test : X → Bool) (line : X → ℕ) (x : X) (xs : List X) → count test (placed_by line x xs) ≡ one_where (test x) + count test xs
placed_count test line x [] = refl
placed_count test line x (next ∷ rest) = by (nat_le (line x) (line next)) (placed_count test line x rest)
  where
    by : (b : Bool) → count test (placed_by line x rest) ≡ one_where (test x) + count test rest → count test (cond b (x ∷ next ∷ rest) (next ∷ placed_by line x rest)) ≡ one_where (test x) + (one_where (test next) + count test rest)
    by true so = refl
    by false so = omega (arith, so)

-- as many by line
count_by_line : {X : Type 0} (test : X → Bool) (line : X → ℕ) (xs : List X) → count test (by_line line xs) ≡ count test xs
count_by_line test line [] = refl
count_by_line test line (x ∷ xs) = placed_count test line x (by_line line xs) ∙ ap (λ (n : ℕ). one_where (test x) + n) (count_by_line test line xs)

-- ---- declarations of a name

-- whether an input, a channel or an output is declared under this name
abbrev has_name : Name → Declaration → Bool
has_name name d = not (is_process d.kind) && bytes_eq name d.name

-- an earlier declaration of the same name is a fault
seen_before : (name : Name) (earlier : List Declaration) (d : Declaration) → list_any (λ other. share_names other.kind d.kind && bytes_eq other.name d.name) earlier ≡ false → has_name name d ≡ true → list_any (has_name name) earlier ≡ false
seen_before name [] d none is = refl
seen_before name (other ∷ earlier) d none is =
    both (share_names other.kind d.kind && bytes_eq other.name d.name) (has_name name other) (same_test name other d is) none (λ rest. seen_before name earlier d rest is)
  where
    both : (a b : Bool) → a ≡ b → (a || list_any (λ other. share_names other.kind d.kind && bytes_eq other.name d.name) earlier) ≡ false → (list_any (λ other. share_names other.kind d.kind && bytes_eq other.name d.name) earlier ≡ false → list_any (has_name name) earlier ≡ false) → (b || list_any (has_name name) earlier) ≡ false
    both false false same rest more = more rest
    both true b same some more = absurd cc
    both false true same rest more = absurd cc

    parts : (process named : Bool) → (not process && named) ≡ true → (process ≡ false) × (named ≡ true)
    parts false true is = (refl, refl)
    parts true named is = absurd cc
    parts false false is = absurd cc

    same_test : (name : Name) (other d : Declaration) → has_name name d ≡ true → (share_names other.kind d.kind && bytes_eq other.name d.name) ≡ has_name name other
    same_test name other d is =
        let known = parts (is_process d.kind) (bytes_eq name d.name) is in
        let same : name ≡ d.name = (bytes_decides name d.name).0 known.1 in
        ap (λ b. b && bytes_eq other.name d.name) (shares (is_process other.kind) (is_process d.kind) known.0)
        ∙ ap (λ n. not (is_process other.kind) && bytes_eq other.name n) (sym same)
        ∙ ap (λ b. not (is_process other.kind) && b) (exchanged other.name name)
      where
        shares : (one two : Bool) → two ≡ false → cond one two (not two) ≡ not one
        shares true false is = refl
        shares false false is = refl
        shares one true is = absurd cc

at_most_one : (name : Name) (earlier xs : List Declaration) → first_among declaration_fault earlier xs ≡ None → count (has_name name) xs + one_where (list_any (has_name name) earlier) ≤ 1
at_most_one name earlier [] none = by (list_any (has_name name) earlier)
  where
    by : (b : Bool) → 0 + one_where b ≤ 1
    by true = omega arith
    by false = omega arith
at_most_one name earlier (d ∷ xs) none =
    let parts = neither (declaration_fault earlier d) (first_among declaration_fault (d ∷ earlier) xs) none in
    let fresh = no_test (list_any (λ other. share_names other.kind d.kind && bytes_eq other.name d.name) earlier) (Repeated d.line) (neither (broken_where (list_any (λ other. share_names other.kind d.kind && bytes_eq other.name d.name) earlier) (Repeated d.line)) (broken_where (list_any (λ other. share_place other.kind d.kind) earlier) (SamePlace d.line)) parts.0).0 in
    by (has_name name d) (list_any (has_name name) earlier) (λ is. seen_before name earlier d fresh is) (at_most_one name (d ∷ earlier) xs parts.1)
  where
    by : (b e : Bool) → (b ≡ true → e ≡ false) → count (has_name name) xs + one_where (b || e) ≤ 1 → (one_where b + count (has_name name) xs) + one_where e ≤ 1
    by true false new more = omega (arith, more)
    by true true new more = absurd (no_both (new refl))
      where
        no_both : true ≡ false → ⊥
        no_both is = cc
    by false e new more = omega (arith, more)

-- a name that is among those of a list is declared once at least
declared_once : {K : Type 0} (name : Name) (name_of : K → Name) (declared : K → Declaration) (items : List K) → ((item : K) → has_name name (declared item) ≡ bytes_eq name (name_of item)) → is_among (map name_of items) name ≡ true → 1 ≤ count (has_name name) (map declared items)
declared_once name name_of declared [] same is = absurd cc
declared_once name name_of declared (item ∷ items) same is = by (bytes_eq name (name_of item)) (has_name name (declared item)) (same item) is (λ later. declared_once name name_of declared items same later)
  where
    by : (a b : Bool) → b ≡ a → (a || is_among (map name_of items) name) ≡ true → (is_among (map name_of items) name ≡ true → 1 ≤ count (has_name name) (map declared items)) → 1 ≤ one_where b + count (has_name name) (map declared items)
    by true true equal some more = omega arith
    by false false equal some more = let later = more some in omega (arith, later)
    by true false equal some more = absurd cc
    by false true equal some more = absurd cc

module _ (net : Net) (kept : first_fault declaration_fault (declarations net) ≡ None) (name : Name) where
  abbrev ins : List Declaration
  ins = map input_declared net.inputs

  abbrev middle : List Declaration
  middle = map channel_declared net.channels

  abbrev outs : List Declaration
  outs = map output_declared net.outputs

  abbrev running : List Declaration
  running = map process_declared net.processes

  abbrev test : Declaration → Bool
  test = has_name name

  -- all declarations of the name
  total : count test ins + (count test middle + (count test outs + count test running)) ≤ 1
  total =
      let all = at_most_one name [] (declarations net) kept in
      let sorted = count_by_line test (λ (d : Declaration). d.line) (ins ++ (middle ++ (outs ++ running))) in
      let one = count_both test ins (middle ++ (outs ++ running)) in
      let two = count_both test middle (outs ++ running) in
      let three = count_both test outs running in
      omega (arith, all, sorted, one, two, three)

  pub inputs_apart : is_among (map (λ input. input.name) net.inputs) name ≡ true → is_among (writable net) name ≡ false
  inputs_apart here =
      both (list_any (bytes_eq name) (map (λ (c : ChannelLine). c.name) net.channels)) (list_any (bytes_eq name) (map (λ (o : PortLine). o.name) net.outputs)) refl refl
    where
      first : 1 ≤ count test ins
      first = declared_once name (λ (p : PortLine). p.name) input_declared net.inputs (λ i. refl) here

      either_of : (one other : List Name) → list_any (bytes_eq name) one ≡ false → list_any (bytes_eq name) other ≡ false → is_among (one ++ other) name ≡ false
      either_of [] other none also = also
      either_of (x ∷ one) other none also = by (bytes_eq name x) none (λ rest. either_of one other rest also)
        where
          by : (b : Bool) → (b || list_any (bytes_eq name) one) ≡ false → (list_any (bytes_eq name) one ≡ false → is_among (one ++ other) name ≡ false) → (b || is_among (one ++ other) name) ≡ false
          by true none more = absurd cc
          by false none more = more none

      both : (a b : Bool) → list_any (bytes_eq name) (map (λ (c : ChannelLine). c.name) net.channels) ≡ a → list_any (bytes_eq name) (map (λ (o : PortLine). o.name) net.outputs) ≡ b → is_among (writable net) name ≡ false
      both true b a_is b_is = let also = declared_once name (λ (c : ChannelLine). c.name) channel_declared net.channels (λ c. refl) a_is in absurd (omega (arith, total, first, also))
      both false true a_is b_is = let also = declared_once name (λ (o : PortLine). o.name) output_declared net.outputs (λ o. refl) b_is in absurd (omega (arith, total, first, also))
      both false false a_is b_is = either_of (map (λ (c : ChannelLine). c.name) net.channels) (map (λ (o : PortLine). o.name) net.outputs) a_is b_is
