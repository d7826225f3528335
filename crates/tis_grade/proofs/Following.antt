-- What is kept of the outputs.
use Rattle.std.proofs.Common.{◌≡◌, ℕ, suc, ◌+◌, ◌<◌, ◌≤◌, ℤ, false, List, [], ◌∷◌, ◌++◌, length, get_or, set, Option, Some, None, inl, inr, refl, sym, ap, subst, ◌∙◌, arith}
use Rattle.std.specs.Prelude.{All, AllPairs, ◌≢◌, ◌==◌, option_and_then, nat_lt}
use Rattle.std.specs.Option.{option_or}
use Rattle.std.specs.List.{range_with_len}
use Rattle.std.proofs.lemmas.Bool.{cond-true, cond-false, cases_eq, ne_eqb, eq-eqb, le-ltb}
use Rattle.std.proofs.lemmas.List.{take_all, take_at, get_or-set_same, get_or-set_other, length-append}
use Rattle.std.proofs.lemmas.List.Elements.{All-nil, All-cons}
use Rattle.tis_devices.specs.Picture.{Picture, picture}
use Rattle.tis_devices.proofs.Pictures.{pictures_are_whole}
use Rattle.tis_grid.specs.declared.puzzle.OutKind.{OutKind}
use Rattle.tis_grid.specs.Puzzle.{Output}
use Rattle.tis_grid.specs.State.{State, outs}
use Rattle.tis_grade.specs.declared.verdict.Verdict.{Verdict}
use Rattle.tis_grade.specs.declared.follow.Follow.{Follow}
use Rattle.tis_grade.specs.declared.follow.Follow.TheVariants.{Stream, Image}
use Rattle.tis_grade.specs.Verdict.{extra, fault_by, is_done_by, output_at, fault_at, first_fault_at}
use Rattle.tis_grade.specs.Following.{IsFollowed, IsBehind, seen_of, HoldsAt, IsFollowedAt, IsBehindAt, IsFollowedIn, AreFollowed}
use Rattle.tis_grade.proofs.Streams.{none_wrong, all_came, lengths_differ}
use Rattle.tis_grade.proofs.Pictures.{picture_same, picture_other, picture_length}

-- ---- one output

-- nothing is wrong with an output that is followed
pub nothing_wrong : (output : Output) (position : ℕ) (taken : List ℤ) (follow : Follow) → IsFollowed output taken follow → fault_by output.kind position output.expected taken ≡ None
nothing_wrong output position taken (Stream seen) followed =
    let (is, seen_is, before) = followed in
    let (rest, whole) = before in
    let fits : length taken ≤ length output.expected = let long = ap (λ (vs : List ℤ). length vs) whole in omega (arith, long, length-append taken rest) in
    ap (λ (k : OutKind). fault_by k position output.expected taken) is
    ∙ ap (λ (o : Option Verdict). option_or o (extra position output.expected taken)) (none_wrong position 0 output.expected taken before)
    ∙ cond-false (nat_lt (length output.expected) (length taken)) _ _ (le-ltb (length output.expected) (length taken) fits)
nothing_wrong output position taken (Image seen console differing) followed = ap (λ (k : OutKind). fault_by k position output.expected taken) followed.0

-- a stream is as wanted where as many values came as are wanted
pub stream_done : (output : Output) (taken : List ℤ) (seen : ℕ) → IsFollowed output taken (Stream seen) → (seen == length output.expected) ≡ is_done_by output.kind output.expected taken
stream_done output taken seen followed =
    let (is, seen_is, before) = followed in
    (elim (cases_eq seen (length output.expected)) [
      | inl same ↦ eq-eqb seen (length output.expected) same ∙ sym (all_came output.expected taken before (sym seen_is ∙ same))
      | inr apart ↦ ne_eqb seen (length output.expected) apart ∙ sym (lengths_differ output.expected taken (λ same. apart (seen_is ∙ same)))
    ])
    ∙ ap (λ (k : OutKind). is_done_by k output.expected taken) (sym is)

-- a picture is where as many colours are wanted as it has, and none differs
pub picture_done : (output : Output) (taken : List ℤ) (seen : ℕ) (console : Picture) (differing : ℕ) → IsFollowed output taken (Image seen console differing) → length output.expected ≡ 540 → (differing == 0) ≡ is_done_by output.kind output.expected taken
picture_done output taken seen console differing followed whole =
    let (is, seen_is, console_is, count) = followed in
    let colours = (picture taken).colours in
    let as_many : length output.expected ≡ length colours = whole ∙ sym (pictures_are_whole taken).0 in
    (elim (cases_eq differing 0) [
      | inl none ↦ eq-eqb differing 0 none ∙ sym (picture_same output.expected colours as_many (sym count ∙ none))
      | inr some ↦ ne_eqb differing 0 some ∙ sym (picture_other output.expected colours (λ none. some (count ∙ none)))
    ])
    ∙ ap (λ (k : OutKind). is_done_by k output.expected taken) (sym is)

pub picture_not_done : (output : Output) (taken : List ℤ) (seen : ℕ) (console : Picture) (differing : ℕ) → IsFollowed output taken (Image seen console differing) → (length output.expected ≡ 540 → ⊥) → false ≡ is_done_by output.kind output.expected taken
picture_not_done output taken seen console differing followed other =
    let (is, seen_is, console_is, count) = followed in
    sym (picture_length output.expected (picture taken).colours (λ same. other (same ∙ (pictures_are_whole taken).0)))
    ∙ ap (λ (k : OutKind). is_done_by k output.expected taken) (sym is)

-- all its values were looked at
pub all_seen : (output : Output) (taken : List ℤ) (follow : Follow) → IsFollowed output taken follow → seen_of follow ≡ length taken
all_seen output taken (Stream seen) followed = followed.1
all_seen output taken (Image seen console differing) followed = followed.1

-- when more have come, the first were
pub behind_more : (output : Output) (taken more : List ℤ) (follow : Follow) → IsFollowed output taken follow → IsBehind output (taken ++ more) follow
behind_more output taken more follow followed =
    let seen = all_seen output taken follow followed in (
      omega (arith, seen, length-append taken more),
      subst (λ (values : List ℤ). IsFollowed output values follow) (sym (take_at taken more (seen_of follow) (sym seen))) followed,
    )

-- when as many were looked at as came, all were
pub behind_none : (output : Output) (taken : List ℤ) (follow : Follow) → IsBehind output taken follow → length taken ≤ seen_of follow → IsFollowed output taken follow
behind_none output taken follow behind all = subst (λ (values : List ℤ). IsFollowed output values follow) (take_all (seen_of follow) taken all) behind.1

-- ---- by position

-- the same where an output stands
pub behind_at_more : (output : Option Output) (taken more now : List ℤ) (follow : Option Follow) → now ≡ taken ++ more → HoldsAt IsFollowed output taken follow → HoldsAt IsBehind output now follow
behind_at_more None taken more now None is followed = tt
behind_at_more None taken more now (Some follow) is followed = absurd followed
behind_at_more (Some output) taken more now None is followed = absurd followed
behind_at_more (Some output) taken more now (Some follow) is followed = subst (λ (values : List ℤ). IsBehind output values follow) (sym is) (behind_more output taken more follow followed)

-- what is wrong with an output that took these values, where one stands
abbrev pub fault_in : Option Output → ℕ → List ℤ → Option Verdict
fault_in output position taken = option_and_then (λ o. fault_by o.kind position o.expected taken) output

-- where as many values were looked at as came, nothing is wrong
pub no_fault_seen : (output : Option Output) (position : ℕ) (taken : List ℤ) (follow : Follow) → HoldsAt IsBehind output taken (Some follow) → length taken ≤ seen_of follow → fault_in output position taken ≡ None
no_fault_seen None position taken follow behind all = refl
no_fault_seen (Some output) position taken follow behind all = nothing_wrong output position taken follow (behind_none output taken follow behind all)

pub followed_seen : (output : Option Output) (taken : List ℤ) (follow : Follow) → HoldsAt IsBehind output taken (Some follow) → length taken ≤ seen_of follow → HoldsAt IsFollowed output taken (Some follow)
followed_seen None taken follow behind all = absurd behind
followed_seen (Some output) taken follow behind all = behind_none output taken follow behind all

-- where nothing is kept, no output stands
pub none_kept : (output : Option Output) (position : ℕ) (taken : List ℤ) → HoldsAt IsBehind output taken None → fault_in output position taken ≡ None
none_kept None position taken behind = refl
none_kept (Some output) position taken behind = absurd behind

pub none_followed : (output : Option Output) (taken : List ℤ) → HoldsAt IsBehind output taken None → HoldsAt IsFollowed output taken None
none_followed None taken behind = tt
none_followed (Some output) taken behind = absurd behind

-- each output of a puzzle is the one at its position
pub each_found : (outputs : List Output) → AllPairs (λ a b. a.position ≢ b.position) outputs → All (λ o. output_at outputs o.position ≡ Some o) outputs
each_found [] apart = All-nil (λ o. output_at [] o.position ≡ Some o)
each_found (first ∷ outputs) apart =
    All-cons (λ o. output_at (first ∷ outputs) o.position ≡ Some o) first outputs
    (cond-true (first.position == first.position) (Some first) (output_at outputs first.position) (eq-eqb first.position first.position refl))
    (λ k d within.
    let o = get_or outputs k d in
    let other : first.position ≡ o.position → ⊥ = apart 0 (suc k) d (omega arith) (omega arith) in
    cond-false (first.position == o.position) (Some first) (output_at outputs o.position) (ne_eqb first.position o.position other)
    ∙ each_found outputs (λ i j e less inside. apart (suc i) (suc j) e (omega arith) (omega arith)) k d within)

-- so what is kept by position is kept of each
pub each_followed : (outputs : List Output) (state : State) (follows : List (Option Follow)) → AllPairs (λ a b. a.position ≢ b.position) outputs → All (λ o. o.position < 4) outputs → AreFollowed outputs state follows → All (IsFollowedIn state follows) outputs
each_followed outputs state follows apart below followed k d within =
    let o = get_or outputs k d in
    subst (λ (found : Option Output). HoldsAt IsFollowed found (outs state o.position) (get_or follows o.position None)) (each_found outputs apart k d within) (followed o.position (below k d within))

-- ---- position by position

pub no_fault_here : (outputs : List Output) (state : State) (position more : ℕ) → fault_at outputs state position ≡ None → first_fault_at outputs state (range_with_len position (suc more)) ≡ first_fault_at outputs state (range_with_len (position + 1) more)
no_fault_here outputs state position more none = ap (λ (f : Option Verdict). option_or f (first_fault_at outputs state (range_with_len (position + 1) more))) none

pub a_fault_here : (outputs : List Output) (state : State) (position more : ℕ) (verdict : Verdict) → fault_at outputs state position ≡ Some verdict → first_fault_at outputs state (range_with_len position (suc more)) ≡ Some verdict
a_fault_here outputs state position more verdict is = ap (λ (f : Option Verdict). option_or f (first_fault_at outputs state (range_with_len (position + 1) more))) is

-- one more position is followed
pub followed_more : (outputs : List Output) (state : State) (follows : List (Option Follow)) (at : ℕ) (new : Option Follow) → at < length follows → IsFollowedAt outputs state at new →
    ((k : ℕ) → k < at → IsFollowedAt outputs state k (get_or follows k None)) → (k : ℕ) → k < at + 1 → IsFollowedAt outputs state k (get_or (set follows at new) k None)
followed_more outputs state follows at new within here before k below =
    elim (cases_eq k at) [
      | inl same ↦
          subst (λ (p : ℕ). IsFollowedAt outputs state p (get_or (set follows at new) p None)) (sym same)
          (subst (IsFollowedAt outputs state at) (sym (get_or-set_same follows at new None within)) here)
      | inr apart ↦ subst (IsFollowedAt outputs state k) (sym (get_or-set_other follows at k new None apart)) (before k (omega arith))
    ]

pub behind_still : (outputs : List Output) (state : State) (follows : List (Option Follow)) (at : ℕ) (new : Option Follow) →
    ((k : ℕ) → at ≤ k → k < 4 → IsBehindAt outputs state k (get_or follows k None)) → (k : ℕ) → at + 1 ≤ k → k < 4 → IsBehindAt outputs state k (get_or (set follows at new) k None)
behind_still outputs state follows at new behind k past below =
    let apart : k ≢ at = omega arith in
    subst (IsBehindAt outputs state k) (sym (get_or-set_other follows at k new None apart)) (behind k (omega arith) below)
