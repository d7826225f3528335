-- The numbers of names, one name after the other.
use Rattle.std.proofs.Common.{◌≡◌, ◌<◌, ◌≤◌, ℕ, ◌+◌, Bool, true, false, cond, List, [], ◌∷◌, ◌++◌, length, map, drop, get_or, Option, Some, None, refl, sym, ap, ◌∙◌, arith}
use Rattle.std.specs.List.{position, position_from}
use Rattle.std.specs.Option.{option_or}
use Rattle.std.specs.Str.{bytes_eq}
use Rattle.std.proofs.lemmas.List.{drop_more, drop_all, length-append}
use Rattle.std.proofs.lemmas.Iterator.Adapters.{position_from-zero}
use Rattle.net_tree.specs.Tree.{Name}
use Rattle.net_rules.specs.Tables.{Table, value_of}
use Rattle.net_rules.proofs.FirstUsers.{chosen, nothing_behind}

module _ {H X : Type 0} (view : H → X) (name_of : X → Name) (items : List H) (index : ℕ) where
  -- one more name has its number
  pub numbered_more : (item : H) (old new : Table) (name : Name) (whole : Option ℕ) (number : ℕ) → whole ≡ option_or (value_of old name) (position_from (bytes_eq name) number (map name_of (map view (drop index items)))) → index < length items → item ≡ get_or items index item →
      value_of new name ≡ option_or (value_of old name) (cond (bytes_eq name (name_of (view item))) (Some number) None) → whole ≡ option_or (value_of new name) (position_from (bytes_eq name) (number + 1) (map name_of (map view (drop (index + 1) items))))
  numbered_more item old new name whole number so within is noted =
      let rest : Option ℕ = position_from (bytes_eq name) (number + 1) (map name_of (map view (drop (index + 1) items))) in
      so ∙ ap (λ l. option_or (value_of old name) (position_from (bytes_eq name) number (map name_of (map view l)))) (drop_more items index item within)
      ∙ ap (λ x. option_or (value_of old name) (cond (bytes_eq name (name_of (view x))) (Some number) rest)) (sym is)
      ∙ chosen (value_of old name) (bytes_eq name (name_of (view item))) number rest
      ∙ ap (λ o. option_or o rest) (sym noted)

  -- all names have their numbers
  pub numbered_all : (table : Table) (name : Name) (whole : Option ℕ) (number : ℕ) → whole ≡ option_or (value_of table name) (position_from (bytes_eq name) number (map name_of (map view (drop index items)))) → length items ≤ index → value_of table name ≡ whole
  numbered_all table name whole number so past = sym (so ∙ ap (λ l. option_or (value_of table name) (position_from (bytes_eq name) number (map name_of (map view l)))) (drop_all index items past) ∙ nothing_behind (value_of table name))

-- the place in two lists, one behind the other
pub from_both : (test : Name → Bool) (number count : ℕ) (one other : List Name) → length one ≡ count → option_or (position_from test number one) (position_from test (number + count) other) ≡ position_from test number (one ++ other)
from_both test number count [] other is = let same : number + count ≡ number = omega (arith, is) in ap (λ n. position_from test n other) same
from_both test number count (x ∷ one) other is =
    let behind : number + count ≡ number + 1 + length one = omega (arith, is) in
    by (test x) (ap (λ n. option_or (position_from test (number + 1) one) (position_from test n other)) behind ∙ from_both test (number + 1) (length one) one other refl)
  where
    by : (b : Bool) → option_or (position_from test (number + 1) one) (position_from test (number + count) other) ≡ position_from test (number + 1) (one ++ other) → option_or (cond b (Some number) (position_from test (number + 1) one)) (position_from test (number + count) other) ≡ cond b (Some number) (position_from test (number + 1) (one ++ other))
    by true so = refl
    by false so = so

-- inputs, channels and outputs, one behind the other
pub in_three : (name : Name) (ins channels outs : List Name) (first second third : Option ℕ) (start behind : ℕ) → length ins ≡ start → start + length channels ≡ behind → first ≡ option_or None (position_from (bytes_eq name) 0 ins) → second ≡ option_or first (position_from (bytes_eq name) start channels) → third ≡ option_or second (position_from (bytes_eq name) behind outs) →
    third ≡ position (bytes_eq name) ((ins ++ channels) ++ outs)
in_three name ins channels outs first second third start behind counts more is also too =
    let test : Name → Bool = bytes_eq name in
    let zero_start : 0 + start ≡ start = omega arith in
    let zero_behind : 0 + behind ≡ behind = omega arith in
    too ∙ ap (λ o. option_or o (position_from test behind outs)) (also ∙ ap (λ o. option_or o (position_from test start channels)) is ∙ ap (λ n. option_or (position_from test 0 ins) (position_from test n channels)) (sym zero_start) ∙ from_both test 0 start ins channels counts)
    ∙ ap (λ n. option_or (position_from test 0 (ins ++ channels)) (position_from test n outs)) (sym zero_behind)
    ∙ from_both test 0 behind (ins ++ channels) outs (omega (arith, length-append ins channels, counts, more))
    ∙ sym (position_from-zero test ((ins ++ channels) ++ outs))
