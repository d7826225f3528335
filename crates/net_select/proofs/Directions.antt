-- The direction of a number, found in a list.
use Rattle.std.proofs.Common.{◌≡◌, ℕ, suc, ◌+◌, ◌<◌, Bool, true, false, cond, List, [], ◌∷◌, ◌++◌, length, get_or, refl, sym, ap, subst, ◌∙◌, arith, true≢false, eqb-true, eq-eqb}
use Rattle.std.specs.Prelude.{Option, Some, None, slice_set, ◌==◌}
use Rattle.std.specs.Bool.{OnTrue}
use Rattle.std.specs.List.{position_from}
use Rattle.tis_base.specs.declared.tiles.Dir.{Dir}
use Rattle.net_select.specs.declared.ports.PortAt.{PortAt}
use Rattle.net_select.specs.HeldPorts.{port_of}

abbrev pub Found : ℕ → PortAt → Bool
Found number port = port.number == number

abbrev pub at : ℕ → Dir → PortAt
at number dir = record { number = number; dir = dir }

-- the direction of each number where one of them has a new one
abbrev pub changed : List PortAt → ℕ → Dir → ℕ → Option Dir
changed ports number dir other = cond (other == number) (Some dir) (port_of ports other)

-- the number that was looked for, and another one
same_or_not : (number other first : ℕ) (dir : Dir) (old new : Option Dir) → (first == number) ≡ true → cond (number == other) (Some dir) new ≡ cond (other == number) (Some dir) (cond (first == other) old new)
same_or_not number other first dir old new is = by (other == number) (number == other) (first == other) refl refl refl
  where
    here : first ≡ number
    here = eqb-true first number is

    by : (b c d : Bool) → (other == number) ≡ b → (number == other) ≡ c → (first == other) ≡ d → cond c (Some dir) new ≡ cond b (Some dir) (cond d old new)
    by true true d one two three = refl
    by true false d one two three = absurd (true≢false (sym (eq-eqb number other (sym (eqb-true other number one))) ∙ two))
    by false true d one two three = absurd (true≢false (sym (eq-eqb other number (sym (eqb-true number other two))) ∙ one))
    by false false true one two three = absurd (true≢false (sym (eq-eqb number other (sym here ∙ eqb-true first other three)) ∙ two))
    by false false false one two three = refl

-- another number stands before it
passed_by : (number other first : ℕ) (dir : Dir) (mine : Dir) (rest new : Option Dir) → (first == number) ≡ false → new ≡ cond (other == number) (Some dir) rest → cond (first == other) (Some mine) new ≡ cond (other == number) (Some dir) (cond (first == other) (Some mine) rest)
passed_by number other first dir mine rest new isnt more = by (first == other) (other == number) refl refl more
  where
    by : (b c : Bool) → (first == other) ≡ b → (other == number) ≡ c → new ≡ cond c (Some dir) rest → cond b (Some mine) new ≡ cond c (Some dir) (cond b (Some mine) rest)
    by true true one two more = absurd (true≢false (sym (eq-eqb first number (eqb-true first other one ∙ eqb-true other number two)) ∙ isnt))
    by true false one two more = refl
    by false true one two more = more
    by false false one two more = more

-- what is told where a number stands at a place
pub record StandsAt (number : ℕ) (ports : List PortAt) (place : ℕ) : Type 0 where
  pub within : place < length ports
  pub is : (port : PortAt) → port_of ports number ≡ Some (get_or ports place port).dir
  pub set : (dir : Dir) (other : ℕ) → port_of (slice_set ports place (at number dir)) other ≡ changed ports number dir other

-- what is told where it stands nowhere
pub record StandsNowhere (number : ℕ) (ports : List PortAt) : Type 0 where
  pub none : port_of ports number ≡ None
  pub set : (dir : Dir) (other : ℕ) → port_of (ports ++ at number dir ∷ []) other ≡ changed ports number dir other

some_is : (x y : ℕ) → Some x ≡ Some y → x ≡ y
some_is x y e = cc

stands_from : (number : ℕ) (ports : List PortAt) (from place : ℕ) → position_from (Found number) from ports ≡ Some place → (k : ℕ) × (place ≡ from + k) × StandsAt number ports k
stands_from number [] from place is = absurd cc
stands_from number (first ∷ others) from place is = by (first.number == number) refl is (stands_from number others (from + 1) place)
  where
    by : (b : Bool) → (first.number == number) ≡ b → cond b (Some from) (position_from (Found number) (from + 1) others) ≡ Some place → (position_from (Found number) (from + 1) others ≡ Some place → (k : ℕ) × (place ≡ (from + 1) + k) × StandsAt number others k) →
        (k : ℕ) × (place ≡ from + k) × StandsAt number (first ∷ others) k
    by true here found later = (
      0,
      let same = some_is from place found in omega (arith, same),
      record {
        within = omega arith;
        is = λ port. ap (λ (b : Bool). cond b (Some first.dir) (port_of others number)) here;
        set = λ dir other. same_or_not number other first.number dir (Some first.dir) (port_of others other) here;
      },
    )
    by false apart found later =
        let more = later found in (
          suc more.0,
          let same = more.1 in omega (arith, same),
          record {
            within = let within = more.2.within in omega (arith, within);
            is = λ port. ap (λ (b : Bool). cond b (Some first.dir) (port_of others number)) apart ∙ more.2.is port;
            set = λ dir other. passed_by number other first.number dir first.dir (port_of others other) _ apart (more.2.set dir other);
          },
        )

pub stands_at : (number : ℕ) (ports : List PortAt) (place : ℕ) → position_from (Found number) 0 ports ≡ Some place → StandsAt number ports place
stands_at number ports place is =
    let found = stands_from number ports 0 place is in
    let same = found.1 in
    subst (λ (p : ℕ). StandsAt number ports p) (omega (arith, same)) found.2

stands_nowhere_from : (number : ℕ) (ports : List PortAt) (from : ℕ) → position_from (Found number) from ports ≡ None → StandsNowhere number ports
stands_nowhere_from number [] from is = record { none = refl; set = λ dir other. alone dir other }
  where
    alone : (dir : Dir) (other : ℕ) → cond (number == other) (Some dir) None ≡ cond (other == number) (Some dir) None
    alone dir other = by (number == other) (other == number) refl refl
      where
        by : (b c : Bool) → (number == other) ≡ b → (other == number) ≡ c → cond b (Some dir) None ≡ cond c (Some dir) None
        by true true one two = refl
        by true false one two = absurd (true≢false (sym (eq-eqb other number (sym (eqb-true number other one))) ∙ two))
        by false true one two = absurd (true≢false (sym (eq-eqb number other (sym (eqb-true other number two))) ∙ one))
        by false false one two = refl
stands_nowhere_from number (first ∷ others) from is = by (first.number == number) refl is (stands_nowhere_from number others (from + 1))
  where
    by : (b : Bool) → (first.number == number) ≡ b → cond b (Some from) (position_from (Found number) (from + 1) others) ≡ None → (position_from (Found number) (from + 1) others ≡ None → StandsNowhere number others) → StandsNowhere number (first ∷ others)
    by true here found later = absurd cc
    by false apart found later =
        let more = later found in
        record {
          none = ap (λ (b : Bool). cond b (Some first.dir) (port_of others number)) apart ∙ more.none;
          set = λ dir other. passed_by number other first.number dir first.dir (port_of others other) _ apart (more.set dir other);
        }

pub stands_nowhere : (number : ℕ) (ports : List PortAt) → position_from (Found number) 0 ports ≡ None → StandsNowhere number ports
stands_nowhere number ports is = stands_nowhere_from number ports 0 is

-- what follows where an answer is yes
pub on_true : {P Q : Type 0} (b : Bool) → OnTrue b P → (P → Q) → OnTrue b Q
on_true true is follows = follows is
on_true false is follows = tt
