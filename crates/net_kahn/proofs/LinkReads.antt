-- One link that is read and written, and one link among others.
use Rattle.std.proofs.Common.{◌≡◌, ℕ, zero, suc, ◌+◌, ◌<◌, ◌≤◌, true, false, cond, ℤ, List, [], ◌∷◌, ◌++◌, length, take, drop, refl, sym, ap, subst, ◌∙◌, arith, eq-eqb, eqb-true}
use Rattle.std.specs.Prelude.{Option, Some, None, slice_get, slice_index_or, slice_set, All, ◌==◌}
use Rattle.std.specs.Prelude.{Result, Ok, Err, OnOk}
use Rattle.tis_base.specs.declared.memory.NoMemory.{NoMemory}
use Rattle.std.proofs.Math.Path.{fun_ext}
use Rattle.std.proofs.lemmas.List.{length-append, drop_all}
use Rattle.std.specs.Borrow.{Bor}
use Rattle.tis_base.specs.Values.{Values}
use Rattle.std.proofs.lemmas.List.Elements.{All-push}
use Rattle.std.proofs.lemmas.Option.{same_Some}
use Rattle.tis_base.specs.Saturation.{IsValue}
use Rattle.net_rules.specs.Process.{Streams, with_stream}
use Rattle.net_kahn.specs.declared.link.Link.{Link}
use Rattle.net_kahn.specs.Links.{given_in, given_of, list_of, unread_in, sent_in, before_in, IsLink, IsSameLink, ReadsLink, SendsLink}
use Rattle.net_kahn.specs.Machines.{of_link, by_number, AreLinks, AreAfter, Reads, Sends}

eqb-ne : (a b : ℕ) → (a == b) ≡ false → a ≡ b → ⊥
eqb-ne a b is same = never (sym (eq-eqb a b same) ∙ is)
  where
    never : true ≡ false → ⊥
    never e = cc

-- ---- lists

-- the elements from an index on begin with the one that stands there
pub next_of : {X : Type 0} (values : List X) (index : ℕ) (value : X) → slice_get values index ≡ Some value → drop index values ≡ value ∷ drop (index + 1) values
next_of [] zero value is = absurd cc
next_of [] (suc index) value is = absurd cc
next_of {X = X} (first ∷ values) zero value is = ap (λ (v : X). v ∷ values) (same_Some first value is)
next_of (first ∷ values) (suc index) value is = next_of values index value is ∙ ap (λ n. value ∷ drop n (first ∷ values)) (more index)
  where
    more : (n : ℕ) → suc (n + 1) ≡ suc n + 1
    more n = omega arith

within_take : (values : List ℤ) (limit index : ℕ) (value : ℤ) → index < limit → slice_get values index ≡ Some value → slice_get (take limit values) index ≡ Some value
within_take values zero index value below is = absurd (omega (arith, below))
within_take [] (suc limit) zero value below is = absurd cc
within_take [] (suc limit) (suc index) value below is = absurd cc
within_take (first ∷ values) (suc limit) zero value below is = is
within_take (first ∷ values) (suc limit) (suc index) value below is = within_take values limit index value (omega (arith, below)) is

take_push : (values : List ℤ) (limit : ℕ) (value : ℤ) → limit ≤ length values → take limit (values ++ value ∷ []) ≡ take limit values
take_push values zero value within = refl
take_push [] (suc limit) value within = absurd (omega (arith, within))
take_push (first ∷ values) (suc limit) value within = ap (λ l. first ∷ l) (take_push values limit value (omega (arith, within)))

drop_push : (values : List ℤ) (limit : ℕ) (value : ℤ) → limit ≤ length values → drop limit (values ++ value ∷ []) ≡ drop limit values ++ value ∷ []
drop_push values zero value within = refl
drop_push [] (suc limit) value within = absurd (omega (arith, within))
drop_push (first ∷ values) (suc limit) value within = drop_push values limit value (omega (arith, within))

-- ---- a link that the process uses

module _ (process : ℕ) (old begun : Link) (same : IsSameLink process old begun) (opened : begun.user ≡ process) where
  used : (link : Link) → link.user ≡ process → (one other : List ℤ) → cond (link.user == process) one other ≡ one
  used link is one other = ap (λ b. cond b one other) (eq-eqb link.user process is)

  -- the next value that comes in
  pub read_given : (value : ℤ) → slice_get (given_of begun) begun.taken ≡ Some value → ReadsLink process old (Some value) (record begun { taken = begun.taken + 1 })
  read_given value is =
      let new : Link = record begun { taken = begun.taken + 1 } in
      let rest : List ℤ = drop begun.next (take begun.limit begun.sent.items) in
      record {
        link = record { user = same.link.user; within = same.link.within; given = same.link.given; sent = same.link.sent };
        unread =
            sym same.unread ∙ used begun opened (drop begun.taken (given_of begun) ++ rest) (list_of begun)
            ∙ ap (λ l. l ++ rest) (next_of (given_of begun) begun.taken value is)
            ∙ ap (λ l. value ∷ l) (sym (used new opened (drop (begun.taken + 1) (given_of begun) ++ rest) (list_of new)));
        sent = same.sent;
        before = same.before;
        given = same.given;
      }

  -- the next value that was sent
  pub read_sent : (value : ℤ) → drop begun.taken (given_of begun) ≡ [] → begun.next < begun.limit → slice_get begun.sent.items begun.next ≡ Some value → ReadsLink process old (Some value) (record begun { next = begun.next + 1 })
  read_sent value none below is =
      let new : Link = record begun { next = begun.next + 1 } in
      let list : List ℤ = take begun.limit begun.sent.items in
      record {
        link = record { user = same.link.user; within = same.link.within; given = same.link.given; sent = same.link.sent };
        unread =
            sym same.unread ∙ used begun opened (drop begun.taken (given_of begun) ++ drop begun.next list) (list_of begun)
            ∙ ap (λ l. l ++ drop begun.next list) none
            ∙ next_of list begun.next value (within_take begun.sent.items begun.limit begun.next value below is)
            ∙ ap (λ l. value ∷ (l ++ drop (begun.next + 1) list)) (sym none)
            ∙ ap (λ l. value ∷ l) (sym (used new opened (drop begun.taken (given_of begun) ++ drop (begun.next + 1) list) (list_of new)));
        sent = same.sent;
        before = same.before;
        given = same.given;
      }

  -- a value is sent
  pub sends_one : (value : ℤ) (new : Link) → IsValue value → new.given ≡ begun.given → new.user ≡ begun.user → new.taken ≡ begun.taken → new.next ≡ begun.next → new.limit ≡ begun.limit → new.sent.items ≡ begun.sent.items ++ value ∷ [] → SendsLink process old value new
  sends_one value new is given user taken next limit sent =
      let within : begun.limit ≤ length begun.sent.items = same.link.within in
      let given_same : given_of new ≡ given_of begun = ap given_in given in
      let new_user : new.user ≡ process = user ∙ opened in
      let front : take new.limit new.sent.items ≡ take begun.limit begun.sent.items = ap (λ n. take n new.sent.items) limit ∙ ap (take begun.limit) sent ∙ take_push begun.sent.items begun.limit value within in
      record {
        link = record {
          user = subst (λ n. n ≤ process) (sym user) same.link.user;
          within = omega (arith, limit, within, ap length sent, length-append begun.sent.items (value ∷ []));
          given = subst (λ (l : List ℤ). All IsValue l) (sym given_same) same.link.given;
          sent = subst (λ (l : List ℤ). All IsValue l) (sym sent) (All-push IsValue begun.sent.items value same.link.sent is);
        };
        unread =
            used new new_user (drop new.taken (given_of new) ++ drop new.next (take new.limit new.sent.items)) (list_of new)
            ∙ ap (λ n. drop n (given_of new) ++ drop new.next (take new.limit new.sent.items)) taken
            ∙ ap (λ l. drop begun.taken l ++ drop new.next (take new.limit new.sent.items)) given_same
            ∙ ap (λ n. drop begun.taken (given_of begun) ++ drop n (take new.limit new.sent.items)) next
            ∙ ap (λ l. drop begun.taken (given_of begun) ++ drop begun.next l) front
            ∙ sym (used begun opened (drop begun.taken (given_of begun) ++ drop begun.next (take begun.limit begun.sent.items)) (list_of begun))
            ∙ same.unread;
        sent =
            used new new_user (drop new.limit new.sent.items) []
            ∙ ap (λ n. drop n new.sent.items) limit ∙ ap (drop begun.limit) sent ∙ drop_push begun.sent.items begun.limit value within
            ∙ ap (λ l. l ++ value ∷ []) (sym (used begun opened (drop begun.limit begun.sent.items) []) ∙ same.sent);
        before =
            used new new_user (given_of new ++ take new.limit new.sent.items) (list_of new)
            ∙ ap (λ l. l ++ take new.limit new.sent.items) given_same ∙ ap (λ l. given_of begun ++ l) front
            ∙ sym (used begun opened (given_of begun ++ take begun.limit begun.sent.items) (list_of begun)) ∙ same.before;
        given = given_same ∙ same.given;
      }

-- ---- one link among others

at_index : (links : List Link) (number : ℕ) (default : Link) → number < length links → slice_get links number ≡ Some (slice_index_or links number default)
at_index [] number default within = absurd (omega (arith, within))
at_index (link ∷ links) zero default within = refl
at_index (link ∷ links) (suc number) default within = at_index links number default (omega (arith, within))

pub link_at : (process : ℕ) (links : List Link) (number : ℕ) (default : Link) → AreLinks process links → number < length links → IsLink process (slice_index_or links number default)
link_at process links number default are within = are number (slice_index_or links number default) (at_index links number default within)

set_here : (links : List Link) (number : ℕ) (link : Link) → number < length links → slice_get (slice_set links number link) number ≡ Some link
set_here [] number link within = absurd (omega (arith, within))
set_here (first ∷ links) zero link within = refl
set_here (first ∷ links) (suc number) link within = set_here links number link (omega (arith, within))

set_other : (links : List Link) (number other : ℕ) (link : Link) → (other ≡ number → ⊥) → slice_get (slice_set links number link) other ≡ slice_get links other
set_other [] number other link different = refl
set_other (first ∷ links) zero zero link different = absurd (different refl)
set_other (first ∷ links) zero (suc other) link different = refl
set_other (first ∷ links) (suc number) zero link different = refl
set_other (first ∷ links) (suc number) (suc other) link different = set_other links number other link (λ e. different (ap suc e))

set_length : (links : List Link) (number : ℕ) (link : Link) → length (slice_set links number link) ≡ length links
set_length [] number link = refl
set_length (first ∷ links) zero link = refl
set_length (first ∷ links) (suc number) link = ap suc (set_length links number link)

module _ (links : List Link) (number : ℕ) (default link : Link) (within : number < length links) where
  abbrev old : Link
  old = slice_index_or links number default

  abbrev new : List Link
  new = slice_set links number link

  -- what all links say is what they said, but for this one
  by_number-set : (values : Link → List ℤ) → by_number values new ≡ with_stream (by_number values links) number (values link)
  by_number-set values =
      fun_ext (λ other.
      elim (other == number) as (λ b. (other == number) ≡ b → by_number values new other ≡ cond b (values link) (by_number values links other)) [
        | true ↦ λ is. let same : other ≡ number = eqb-true other number is in ap (by_number values new) same ∙ ap (of_link values) (set_here links number link within)
        | false ↦ λ is. ap (of_link values) (set_other links number other link (eqb-ne other number is))
      ] refl)

  by_number-same : (values : Link → List ℤ) → values link ≡ values old → by_number values new ≡ by_number values links
  by_number-same values same =
      fun_ext (λ other.
      elim (other == number) as (λ b. (other == number) ≡ b → by_number values new other ≡ by_number values links other) [
        | true ↦ λ is.
            let here : other ≡ number = eqb-true other number is in
            ap (by_number values new) here ∙ ap (of_link values) (set_here links number link within) ∙ same ∙ ap (of_link values) (sym (at_index links number default within)) ∙ ap (by_number values links) (sym here)
        | false ↦ λ is. ap (of_link values) (set_other links number other link (eqb-ne other number is))
      ] refl)

  links_set : (process : ℕ) → AreLinks process links → IsLink process link → AreLinks process new
  links_set process are is other found here =
      elim (other == number) as (λ b. (other == number) ≡ b → IsLink process found) [
        | true ↦ λ e. subst (IsLink process) (same_Some link found (sym (ap (λ n. slice_get new n) (eqb-true other number e) ∙ set_here links number link within) ∙ here)) is
        | false ↦ λ e. are other found (sym (set_other links number other link (eqb-ne other number e)) ∙ here)
      ] refl

  module _ (process : ℕ) (are : AreLinks process links) where
    after : IsLink process link → before_in process link ≡ before_in process old → given_of link ≡ given_of old → AreAfter process links new
    after is before given = record { links = links_set process are is; count = set_length links number link; before = by_number-same (before_in process) before; given = by_number-same given_of given }

    here : by_number (unread_in process) links number ≡ unread_in process old
    here = ap (of_link (unread_in process)) (at_index links number default within)

    same_stream : (streams : Streams) → with_stream streams number (streams number) ≡ streams
    same_stream streams = fun_ext (λ other. elim (other == number) as (λ b. (other == number) ≡ b → cond b (streams number) (streams other) ≡ streams other) [ true ↦ λ e. ap streams (sym (eqb-true other number e)) | false ↦ λ e. refl ] refl)

    pub reads_one : (value : Option ℤ) → ReadsLink process old value link → Reads process links number value new
    reads_one (Some value) reads =
        record {
          after = after reads.link reads.before reads.given;
          left = unread_in process link;
          first = here ∙ reads.unread;
          unread = by_number-set (unread_in process);
          sent = by_number-same (sent_in process) reads.sent;
        }
    reads_one None reads =
        record {
          after = after reads.link reads.before reads.given;
          none = here ∙ reads.unread.0;
          unread = by_number-same (unread_in process) (reads.unread.1 ∙ sym reads.unread.0);
          sent = by_number-same (sent_in process) reads.sent;
        }

    pub sends_among : (value : ℤ) → SendsLink process old value link → Sends process links number value new
    sends_among value sends =
        record {
          after = after sends.link sends.before sends.given;
          unread = by_number-same (unread_in process) sends.unread;
          sent = by_number-set (sent_in process) ∙ ap (with_stream (by_number (sent_in process) links) number) (sends.sent ∙ ap (λ l. l ++ value ∷ []) (ap (of_link (sent_in process)) (sym (at_index links number default within))));
        }

-- ---- what comes in was taken whole

pub all_taken : (link : Link) (given : Bor Values) (count : ℕ) → link.given ≡ Some given → count ≡ length given.now.items → count ≤ link.taken → drop link.taken (given_of link) ≡ []
all_taken link given count is counted past = ap (λ g. drop link.taken (given_in g)) is ∙ drop_all link.taken given.now.items (omega (arith, counted, past))

pub none_taken : (link : Link) → link.given ≡ None → drop link.taken (given_of link) ≡ []
none_taken link is = ap (λ g. drop link.taken (given_in g)) is ∙ nothing link.taken
  where
    nothing : (n : ℕ) → drop n (given_in None) ≡ []
    nothing zero = refl
    nothing (suc n) = refl

-- what follows from what is so where a call gave something
pub on_ok : {P Q : Type 0} (result : Result (Unit {0}) NoMemory) → OnOk result P → (P → Q) → OnOk result Q
on_ok (Ok done) is follows = follows is
on_ok (Err error) is follows = tt
