-- A line is cut: at its first run of bytes that pass a test, and into its words.
use Rattle.std.proofs.Common.{◌≡◌, ℕ, suc, Bool, true, false, cond, ◌⊎◌, inl, inr, List, [], ◌∷◌, ◌++◌, length, take, drop, refl, sym, ap, subst, ◌∙◌, arith, append-nil}
use Rattle.std.specs.Prelude.{◌==◌, not, filter, None}
use Rattle.std.specs.List.{list_all, take_while}
use Rattle.std.proofs.lemmas.List.Sums.{take_while-cons}
use Rattle.std.proofs.lemmas.Bool.{and_from, and_parts}
use Rattle.std.proofs.lemmas.Bool.Decides.{nat_tests}
use Rattle.tis_base.specs.Lines.{onto_first, pieces_where}
use Rattle.tis_base.proofs.WrittenLines.{pieces-first, pieces-last}
use Rattle.tis_asm.specs.Assembling.{is_gap, is_filled, words_of, without_comment, without_gaps, parts_of}

-- the longest run in front whose bytes pass, and what stands behind it
pub record Run (p : ℕ → Bool) (bytes : List ℕ) : Type 0 where
  pub run : List ℕ
  pub behind : List ℕ
  pub split : bytes ≡ run ++ behind
  pub all : list_all p run ≡ true
  pub is : take_while p bytes ≡ run
  pub taken : take (length (take_while p bytes)) bytes ≡ run
  pub dropped : drop (length (take_while p bytes)) bytes ≡ behind
  pub stops : (behind ≡ []) ⊎ ((byte : ℕ) × (rest : List ℕ) × (behind ≡ byte ∷ rest) × (p byte ≡ false))

-- one byte more that passes
run_more : (p : ℕ → Bool) (byte : ℕ) (bytes : List ℕ) → p byte ≡ true → Run p bytes → Run p (byte ∷ bytes)
run_more p byte bytes passes r =
    let taken_is : take_while p (byte ∷ bytes) ≡ byte ∷ take_while p bytes = take_while-cons p byte bytes ∙ ap (λ (b : Bool). cond b (byte ∷ take_while p bytes) []) passes in
    record {
      run = byte ∷ r.run;
      behind = r.behind;
      split = ap (λ (l : List ℕ). byte ∷ l) r.split;
      all = and_from (p byte) (list_all p r.run) passes r.all;
      is = taken_is ∙ ap (λ (l : List ℕ). byte ∷ l) r.is;
      taken = ap (λ (l : List ℕ). take (length l) (byte ∷ bytes)) taken_is ∙ ap (λ (l : List ℕ). byte ∷ l) r.taken;
      dropped = ap (λ (l : List ℕ). drop (length l) (byte ∷ bytes)) taken_is ∙ r.dropped;
      stops = r.stops;
    }

run_none : (p : ℕ → Bool) (byte : ℕ) (bytes : List ℕ) → p byte ≡ false → Run p (byte ∷ bytes)
run_none p byte bytes fails =
    let taken_is : take_while p (byte ∷ bytes) ≡ [] = take_while-cons p byte bytes ∙ ap (λ (b : Bool). cond b (byte ∷ take_while p bytes) []) fails in
    record {
      run = [];
      behind = byte ∷ bytes;
      split = refl;
      all = refl;
      is = taken_is;
      taken = ap (λ (l : List ℕ). take (length l) (byte ∷ bytes)) taken_is;
      dropped = ap (λ (l : List ℕ). drop (length l) (byte ∷ bytes)) taken_is;
      stops = inr (byte, bytes, refl, fails);
    }

pub run_of : (p : ℕ → Bool) (bytes : List ℕ) → Run p bytes
run_of p [] = record { run = []; behind = []; split = refl; all = refl; is = refl; taken = refl; dropped = refl; stops = inl refl }
run_of p (byte ∷ bytes) = by_test (p byte) refl (run_of p bytes)
  where
    by_test : (b : Bool) → p byte ≡ b → Run p bytes → Run p (byte ∷ bytes)
    by_test true is r = run_more p byte bytes is r
    by_test false is r = run_none p byte bytes is

-- ---- words

blank_gone : (byte : ℕ) (bytes : List ℕ) → is_gap byte ≡ true → words_of (byte ∷ bytes) ≡ words_of bytes
blank_gone byte bytes is = ap (λ (b : Bool). filter is_filled (cond b ([] ∷ pieces_where is_gap bytes) (onto_first byte (pieces_where is_gap bytes)))) is

-- the blanks in front part no words
blanks_gone : (blanks behind : List ℕ) → list_all is_gap blanks ≡ true → words_of (blanks ++ behind) ≡ words_of behind
blanks_gone [] behind all = refl
blanks_gone (byte ∷ blanks) behind all =
    let parts = and_parts (is_gap byte) (list_all is_gap blanks) all in
    blank_gone byte (blanks ++ behind) parts.0 ∙ blanks_gone blanks behind parts.1

pub front_gone : (bytes : List ℕ) → words_of bytes ≡ words_of (drop (length (take_while is_gap bytes)) bytes)
front_gone bytes =
    let r = run_of is_gap bytes in
    ap words_of r.split ∙ blanks_gone r.run r.behind r.all ∙ ap words_of (sym r.dropped)

-- what stands behind the blanks begins with a word, or is empty
pub no_blank : (bytes : List ℕ) → let behind = drop (length (take_while is_gap bytes)) bytes in (behind ≡ []) ⊎ ((byte : ℕ) × (rest : List ℕ) × (behind ≡ byte ∷ rest) × (is_gap byte ≡ false))
no_blank bytes =
    let r = run_of is_gap bytes in
    elim r.stops [ inl none ↦ inl (r.dropped ∙ none) | inr more ↦ inr (more.0, more.1, r.dropped ∙ more.2, more.3) ]

abbrev pub in_word : ℕ → Bool
in_word byte = not (is_gap byte)

not_in_word : (byte : ℕ) → in_word byte ≡ false → is_gap byte ≡ true
not_in_word byte out = by (is_gap byte) out
  where
    by : (b : Bool) → not b ≡ false → b ≡ true
    by true e = refl
    by false e = absurd cc

-- a word and what stands behind it
word_then : (byte : ℕ) (word behind : List ℕ) → list_all in_word (byte ∷ word) ≡ true → ((behind ≡ []) ⊎ ((next : ℕ) × (rest : List ℕ) × (behind ≡ next ∷ rest) × (in_word next ≡ false))) → words_of ((byte ∷ word) ++ behind) ≡ (byte ∷ word) ∷ words_of behind
word_then byte word behind all (inl none) =
    subst (λ (l : List ℕ). words_of ((byte ∷ word) ++ l) ≡ (byte ∷ word) ∷ words_of l) (sym none)
    (ap words_of (append-nil (byte ∷ word)) ∙ ap (filter is_filled) (pieces-last is_gap (byte ∷ word) all))
word_then byte word behind all (inr more) =
    let blank = not_in_word more.0 more.3 in
    subst (λ (l : List ℕ). words_of ((byte ∷ word) ++ l) ≡ (byte ∷ word) ∷ words_of l) (sym more.2)
    (ap (filter is_filled) (pieces-first is_gap (byte ∷ word) more.1 more.0 all blank) ∙ ap (λ (l : List (List ℕ)). (byte ∷ word) ∷ l) (sym (blank_gone more.0 more.1 blank)))

-- the word in front, and the words behind it
pub word_cut : (bytes : List ℕ) → (take (length (take_while in_word bytes)) bytes ≡ [] → ⊥) → words_of bytes ≡ take (length (take_while in_word bytes)) bytes ∷ words_of (drop (length (take_while in_word bytes)) bytes)
word_cut bytes there =
    let r = run_of in_word bytes in
    subst (λ (front : List ℕ). words_of bytes ≡ front ∷ words_of (drop (length (take_while in_word bytes)) bytes)) (sym r.taken)
    (subst (λ (back : List ℕ). words_of bytes ≡ r.run ∷ words_of back) (sym r.dropped) (ap words_of r.split ∙ by_run r.run r.behind r.all r.stops (λ e. there (r.taken ∙ e))))
  where
    by_run : (run behind : List ℕ) → list_all in_word run ≡ true → ((behind ≡ []) ⊎ ((next : ℕ) × (rest : List ℕ) × (behind ≡ next ∷ rest) × (in_word next ≡ false))) → (run ≡ [] → ⊥) → words_of (run ++ behind) ≡ run ∷ words_of behind
    by_run [] behind all stops there = absurd (there refl)
    by_run (byte ∷ word) behind all stops there = word_then byte word behind all stops

-- where no word stands in front of what begins with no blank, nothing stands there
pub word_none : (bytes : List ℕ) → ((bytes ≡ []) ⊎ ((byte : ℕ) × (rest : List ℕ) × (bytes ≡ byte ∷ rest) × (is_gap byte ≡ false))) → take (length (take_while in_word bytes)) bytes ≡ [] → words_of bytes ≡ []
word_none bytes (inl none) gone = ap words_of none
word_none bytes (inr more) gone =
    let begins : take_while in_word bytes ≡ more.0 ∷ take_while in_word more.1 = ap (take_while in_word) more.2 ∙ take_while-cons in_word more.0 more.1 ∙ ap (λ (b : Bool). cond (not b) (more.0 ∷ take_while in_word more.1) []) more.3 in
    let one : take (length (take_while in_word bytes)) bytes ≡ more.0 ∷ take (length (take_while in_word more.1)) more.1 = ap (λ (l : List ℕ). take (length l) bytes) begins ∙ ap (take (suc (length (take_while in_word more.1)))) more.2 in
    absurd (apart more.0 _ (sym one ∙ gone))
  where
    apart : (byte : ℕ) (rest : List ℕ) → byte ∷ rest ≡ [] → ⊥
    apart byte rest e = cc

-- ---- as the code meets them

pub not_empty_list : (xs : List ℕ) → false ≡ (length xs == 0) → xs ≡ [] → ⊥
not_empty_list xs there none = absurd (apart (there ∙ ap (λ (l : List ℕ). length l == 0) none))
  where
    apart : false ≡ true → ⊥
    apart e = cc

pub is_empty_list : (xs : List ℕ) → true ≡ (length xs == 0) → xs ≡ []
is_empty_list [] e = refl
is_empty_list (x ∷ xs) e = absurd (apart (length xs) e)
  where
    apart : (n : ℕ) → true ≡ (suc n == 0) → ⊥
    apart n e = grind (arith, nat_tests)

pub word_found : (bytes line word rest : List ℕ) (m n : ℕ) → m ≡ length (take_while is_gap bytes) → line ≡ drop m bytes → n ≡ length (take_while in_word line) → word ≡ take n line → rest ≡ drop n line → (word ≡ [] → ⊥) → words_of bytes ≡ word ∷ words_of rest
word_found bytes line word rest m n m_is line_is n_is word_is rest_is there =
    let behind : drop (length (take_while is_gap bytes)) bytes ≡ line = cc in
    let first : take (length (take_while in_word line)) line ≡ word = cc in
    let others : drop (length (take_while in_word line)) line ≡ rest = cc in
    front_gone bytes ∙ ap words_of behind ∙ word_cut line (λ e. there (sym first ∙ e)) ∙ ap (λ (l : List ℕ). l ∷ words_of (drop (length (take_while in_word line)) line)) first ∙ ap (λ (l : List ℕ). word ∷ words_of l) others

pub word_missing : (bytes line word : List ℕ) (m n : ℕ) → m ≡ length (take_while is_gap bytes) → line ≡ drop m bytes → n ≡ length (take_while in_word line) → word ≡ take n line → word ≡ [] → words_of bytes ≡ []
word_missing bytes line word m n m_is line_is n_is word_is none =
    let behind : drop (length (take_while is_gap bytes)) bytes ≡ line = cc in
    let first : take (length (take_while in_word line)) line ≡ [] = cc in
    front_gone bytes ∙ ap words_of behind ∙ word_none line (subst (λ (l : List ℕ). (l ≡ []) ⊎ ((byte : ℕ) × (rest : List ℕ) × (l ≡ byte ∷ rest) × (is_gap byte ≡ false))) behind (no_blank bytes)) first

-- ---- comments and gaps

-- what stands before the first byte that ends it
pub comment_cut : (line front : List ℕ) (n : ℕ) → n ≡ length (take_while (λ byte. not (byte == 35)) line) → front ≡ take n line → front ≡ without_comment line
comment_cut line front n n_is front_is =
    let r = run_of (λ byte. not (byte == 35)) line in
    let cut : front ≡ r.run = front_is ∙ ap (λ (m : ℕ). take m line) n_is ∙ r.taken in
    cut ∙ sym r.is ∙ sym (plain line)
  where
    plain : (line : List ℕ) → without_comment line ≡ take_while (λ byte. not (byte == 35)) line
    plain [] = refl
    plain (byte ∷ bytes) = by_test (byte == 35) refl (plain bytes)
      where
        by_test : (b : Bool) → (byte == 35) ≡ b → without_comment bytes ≡ take_while (λ byte. not (byte == 35)) bytes → without_comment (byte ∷ bytes) ≡ take_while (λ byte. not (byte == 35)) (byte ∷ bytes)
        by_test true is rest = ap (λ (b : Bool). cond b [] (byte ∷ without_comment bytes)) is ∙ sym (take_while-cons (λ byte. not (byte == 35)) byte bytes ∙ ap (λ (b : Bool). cond (not b) (byte ∷ take_while (λ byte. not (byte == 35)) bytes) []) is)
        by_test false is rest = ap (λ (b : Bool). cond b [] (byte ∷ without_comment bytes)) is ∙ ap (λ (l : List ℕ). byte ∷ l) rest ∙ sym (take_while-cons (λ byte. not (byte == 35)) byte bytes ∙ ap (λ (b : Bool). cond (not b) (byte ∷ take_while (λ byte. not (byte == 35)) bytes) []) is)

-- what stands behind the gaps in front
pub gaps_cut : (line back : List ℕ) (n : ℕ) → n ≡ length (take_while is_gap line) → back ≡ drop n line → back ≡ without_gaps line
gaps_cut line back n n_is back_is = back_is ∙ ap (λ (m : ℕ). drop m line) n_is ∙ dropped line
  where
    dropped : (line : List ℕ) → drop (length (take_while is_gap line)) line ≡ without_gaps line
    dropped [] = refl
    dropped (byte ∷ bytes) = by_test (is_gap byte) refl (dropped bytes)
      where
        by_test : (b : Bool) → is_gap byte ≡ b → drop (length (take_while is_gap bytes)) bytes ≡ without_gaps bytes → drop (length (take_while is_gap (byte ∷ bytes))) (byte ∷ bytes) ≡ without_gaps (byte ∷ bytes)
        by_test true is rest = ap (λ (l : List ℕ). drop (length l) (byte ∷ bytes)) (take_while-cons is_gap byte bytes ∙ ap (λ (b : Bool). cond b (byte ∷ take_while is_gap bytes) []) is) ∙ rest ∙ sym (ap (λ (b : Bool). cond b (without_gaps bytes) (byte ∷ bytes)) is)
        by_test false is rest = ap (λ (l : List ℕ). drop (length l) (byte ∷ bytes)) (take_while-cons is_gap byte bytes ∙ ap (λ (b : Bool). cond b (byte ∷ take_while is_gap bytes) []) is) ∙ sym (ap (λ (b : Bool). cond b (without_gaps bytes) (byte ∷ bytes)) is)

-- ---- at a colon

-- there is a first piece, and maybe no other
pub more_pieces : (separates : ℕ → Bool) (bytes : List ℕ) → (piece : List ℕ) × (pieces : List (List ℕ)) × (pieces_where separates bytes ≡ piece ∷ pieces)
more_pieces separates [] = ([], [], refl)
more_pieces separates (byte ∷ bytes) = by_test (separates byte) refl (more_pieces separates bytes)
  where
    by_test : (b : Bool) → separates byte ≡ b → (piece : List ℕ) × (pieces : List (List ℕ)) × (pieces_where separates bytes ≡ piece ∷ pieces) → (piece : List ℕ) × (pieces : List (List ℕ)) × (pieces_where separates (byte ∷ bytes) ≡ piece ∷ pieces)
    by_test true is behind = ([], pieces_where separates bytes, ap (λ (b : Bool). cond b ([] ∷ pieces_where separates bytes) (onto_first byte (pieces_where separates bytes))) is)
    by_test false is behind = (byte ∷ behind.0, behind.1, ap (λ (b : Bool). cond b ([] ∷ pieces_where separates bytes) (onto_first byte (pieces_where separates bytes))) is ∙ ap (onto_first byte) behind.2)

abbrev pub is_colon : ℕ → Bool
is_colon byte = byte == 58

-- no colon stands anywhere
pub colon_missing : (bytes front back : List ℕ) (n : ℕ) → n ≡ length (take_while (λ byte. not (byte == 58)) bytes) → front ≡ take n bytes → back ≡ drop n bytes → back ≡ [] → pieces_where (λ byte. byte == 58) bytes ≡ bytes ∷ []
colon_missing bytes front back n n_is front_is back_is none =
    let r = run_of (λ byte. not (byte == 58)) bytes in
    let end : r.behind ≡ [] = sym r.dropped ∙ sym (ap (λ (m : ℕ). drop m bytes) n_is) ∙ sym back_is ∙ none in
    let whole : bytes ≡ r.run = r.split ∙ ap (λ (l : List ℕ). r.run ++ l) end ∙ append-nil r.run in
    ap (pieces_where (λ byte. byte == 58)) whole ∙ pieces-last (λ b. b == 58) r.run r.all ∙ ap (λ (l : List ℕ). l ∷ []) (sym whole)

-- the first colon parts the first piece from the others
pub colon_found : (bytes front back rest : List ℕ) (n first : ℕ) → n ≡ length (take_while (λ byte. not (byte == 58)) bytes) → front ≡ take n bytes → back ≡ drop n bytes → back ≡ first ∷ rest → pieces_where (λ byte. byte == 58) bytes ≡ front ∷ pieces_where (λ byte. byte == 58) rest
colon_found bytes front back rest n first n_is front_is back_is more =
    let r = run_of (λ byte. not (byte == 58)) bytes in
    let there : r.behind ≡ first ∷ rest = sym r.dropped ∙ sym (ap (λ (m : ℕ). drop m bytes) n_is) ∙ sym back_is ∙ more in
    let before : r.run ≡ front = sym r.taken ∙ sym (ap (λ (m : ℕ). take m bytes) n_is) ∙ sym front_is in
    subst (λ (l : List ℕ). pieces_where (λ byte. byte == 58) bytes ≡ l ∷ pieces_where (λ byte. byte == 58) rest) before (by_end r there r.stops)
  where
    colon : (byte : ℕ) → not (byte == 58) ≡ false → (byte == 58) ≡ true
    colon byte out = by (byte == 58) out
      where
        by : (b : Bool) → not b ≡ false → b ≡ true
        by true e = refl
        by false e = absurd cc

    by_end : (r : Run (λ byte. not (byte == 58)) bytes) → r.behind ≡ first ∷ rest → ((r.behind ≡ []) ⊎ ((byte : ℕ) × (after : List ℕ) × (r.behind ≡ byte ∷ after) × (not (byte == 58) ≡ false))) → pieces_where (λ byte. byte == 58) bytes ≡ r.run ∷ pieces_where (λ byte. byte == 58) rest
    by_end r there (inl none) = absurd (apart (sym there ∙ none))
      where
        apart : first ∷ rest ≡ [] → ⊥
        apart e = cc
    by_end r there (inr more) =
        let same : more.1 ≡ rest = cc (there, more.2) in
        ap (pieces_where (λ byte. byte == 58)) (r.split ∙ ap (λ (l : List ℕ). r.run ++ l) more.2) ∙ pieces-first (λ b. b == 58) r.run more.1 more.0 r.all (colon more.0 more.3) ∙ ap (λ (l : List ℕ). r.run ∷ pieces_where (λ byte. byte == 58) l) same

-- the same, where what stands behind begins with the colon
pub colon_next : (bytes front back rest : List ℕ) (n : ℕ) → n ≡ length (take_while (λ byte. not (byte == 58)) bytes) → front ≡ take n bytes → back ≡ drop n bytes → (back ≡ [] → ⊥) → rest ≡ drop 1 back → pieces_where (λ byte. byte == 58) bytes ≡ front ∷ pieces_where (λ byte. byte == 58) rest
colon_next bytes front [] rest n n_is front_is back_is there rest_is = absurd (there refl)
colon_next bytes front (first ∷ back) rest n n_is front_is back_is there rest_is = colon_found bytes front (first ∷ back) rest n first n_is front_is back_is (ap (λ (l : List ℕ). first ∷ l) (sym rest_is))

-- a line with two colons is wrong
pub two_colons : (mark : Bool) (label rest first behind : List ℕ) → pieces_where (λ byte. byte == 58) rest ≡ first ∷ pieces_where (λ byte. byte == 58) behind → parts_of mark (label ∷ pieces_where (λ byte. byte == 58) rest) ≡ None
two_colons mark label rest first behind is =
    let more = more_pieces (λ byte. byte == 58) behind in
    ap (λ (pieces : List (List ℕ)). parts_of mark (label ∷ pieces)) (is ∙ ap (λ (pieces : List (List ℕ)). first ∷ pieces) more.2)
