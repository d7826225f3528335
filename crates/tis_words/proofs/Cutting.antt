-- A line is cut: at its first run of bytes that pass a test, at the first byte that separates, and into its words. All of it holds for whatever bytes separate.
use Rattle.std.proofs.Common.{◌≡◌, ℕ, suc, Bool, true, false, cond, ◌⊎◌, inl, inr, List, [], ◌∷◌, ◌++◌, length, take, drop, refl, sym, ap, subst, ◌∙◌, arith, append-nil}
use Rattle.std.specs.Prelude.{◌==◌, not, filter}
use Rattle.std.specs.List.{list_all, take_while}
use Rattle.std.proofs.lemmas.List.Sums.{take_while-cons}
use Rattle.std.proofs.lemmas.Bool.{and_from, and_parts}
use Rattle.std.proofs.lemmas.Bool.Decides.{nat_tests}
use Rattle.tis_base.specs.Lines.{onto_first, pieces_where}
use Rattle.tis_base.proofs.WrittenLines.{pieces-first, pieces-last}
use Rattle.tis_words.specs.Words.{is_word, words_between}

-- the longest run in front whose bytes pass, and what stands behind it
pub record Run (p : ℕ → Bool) (bytes : List ℕ) : Type 0 where
  pub run : List ℕ
  pub behind : List ℕ
  pub split : bytes ≡ run ++ behind
  pub all : list_all p run ≡ true
  pub is : take_while p bytes ≡ run
  pub taken : take (length (take_while p bytes)) bytes ≡ run
  pub dropped : drop (length (take_while p bytes)) bytes ≡ behind
  pub stops : (behind ≡ []) ⊎ ((byte : ℕ) × (rest : List ℕ) × (behind ≡ byte ∷ rest) × (p byte ≡ false))

-- one byte more that passes
run_more : (p : ℕ → Bool) (byte : ℕ) (bytes : List ℕ) → p byte ≡ true → Run p bytes → Run p (byte ∷ bytes)
run_more p byte bytes passes r =
    let taken_is : take_while p (byte ∷ bytes) ≡ byte ∷ take_while p bytes = take_while-cons p byte bytes ∙ ap (λ (b : Bool). cond b (byte ∷ take_while p bytes) []) passes in
    record {
      run = byte ∷ r.run;
      behind = r.behind;
      split = ap (λ (l : List ℕ). byte ∷ l) r.split;
      all = and_from (p byte) (list_all p r.run) passes r.all;
      is = taken_is ∙ ap (λ (l : List ℕ). byte ∷ l) r.is;
      taken = ap (λ (l : List ℕ). take (length l) (byte ∷ bytes)) taken_is ∙ ap (λ (l : List ℕ). byte ∷ l) r.taken;
      dropped = ap (λ (l : List ℕ). drop (length l) (byte ∷ bytes)) taken_is ∙ r.dropped;
      stops = r.stops;
    }

run_none : (p : ℕ → Bool) (byte : ℕ) (bytes : List ℕ) → p byte ≡ false → Run p (byte ∷ bytes)
run_none p byte bytes fails =
    let taken_is : take_while p (byte ∷ bytes) ≡ [] = take_while-cons p byte bytes ∙ ap (λ (b : Bool). cond b (byte ∷ take_while p bytes) []) fails in
    record {
      run = [];
      behind = byte ∷ bytes;
      split = refl;
      all = refl;
      is = taken_is;
      taken = ap (λ (l : List ℕ). take (length l) (byte ∷ bytes)) taken_is;
      dropped = ap (λ (l : List ℕ). drop (length l) (byte ∷ bytes)) taken_is;
      stops = inr (byte, bytes, refl, fails);
    }

pub run_of : (p : ℕ → Bool) (bytes : List ℕ) → Run p bytes
run_of p [] = record { run = []; behind = []; split = refl; all = refl; is = refl; taken = refl; dropped = refl; stops = inl refl }
run_of p (byte ∷ bytes) = by_test (p byte) refl (run_of p bytes)
  where
    by_test : (b : Bool) → p byte ≡ b → Run p bytes → Run p (byte ∷ bytes)
    by_test true is r = run_more p byte bytes is r
    by_test false is r = run_none p byte bytes is

pub not_empty_list : (xs : List ℕ) → false ≡ (length xs == 0) → xs ≡ [] → ⊥
not_empty_list xs there none = absurd (apart (there ∙ ap (λ (l : List ℕ). length l == 0) none))
  where
    apart : false ≡ true → ⊥
    apart e = cc

pub is_empty_list : (xs : List ℕ) → true ≡ (length xs == 0) → xs ≡ []
is_empty_list [] e = refl
is_empty_list (x ∷ xs) e = absurd (apart (length xs) e)
  where
    apart : (n : ℕ) → true ≡ (suc n == 0) → ⊥
    apart n e = grind (arith, nat_tests)

module _ (separates : ℕ → Bool) where
  -- ---- words

  blank_gone : (byte : ℕ) (bytes : List ℕ) → separates byte ≡ true → words_between separates (byte ∷ bytes) ≡ words_between separates bytes
  blank_gone byte bytes is = ap (λ (b : Bool). filter is_word (cond b ([] ∷ pieces_where separates bytes) (onto_first byte (pieces_where separates bytes)))) is

  -- the blanks in front part no words
  blanks_gone : (blanks behind : List ℕ) → list_all separates blanks ≡ true → words_between separates (blanks ++ behind) ≡ words_between separates behind
  blanks_gone [] behind all = refl
  blanks_gone (byte ∷ blanks) behind all =
      let parts = and_parts (separates byte) (list_all separates blanks) all in
      blank_gone byte (blanks ++ behind) parts.0 ∙ blanks_gone blanks behind parts.1

  pub front_gone : (bytes : List ℕ) → words_between separates bytes ≡ words_between separates (drop (length (take_while separates bytes)) bytes)
  front_gone bytes =
      let r = run_of separates bytes in
      ap (words_between separates) r.split ∙ blanks_gone r.run r.behind r.all ∙ ap (words_between separates) (sym r.dropped)

  -- what stands behind the blanks begins with a word, or is empty
  pub no_blank : (bytes : List ℕ) → let behind = drop (length (take_while separates bytes)) bytes in (behind ≡ []) ⊎ ((byte : ℕ) × (rest : List ℕ) × (behind ≡ byte ∷ rest) × (separates byte ≡ false))
  no_blank bytes =
      let r = run_of separates bytes in
      elim r.stops [ inl none ↦ inl (r.dropped ∙ none) | inr more ↦ inr (more.0, more.1, r.dropped ∙ more.2, more.3) ]

  abbrev pub in_word : ℕ → Bool
  in_word byte = not (separates byte)

  not_in_word : (byte : ℕ) → in_word byte ≡ false → separates byte ≡ true
  not_in_word byte out = by (separates byte) out
    where
      by : (b : Bool) → not b ≡ false → b ≡ true
      by true e = refl
      by false e = absurd cc

  -- a word and what stands behind it
  word_then : (byte : ℕ) (word behind : List ℕ) → list_all in_word (byte ∷ word) ≡ true → ((behind ≡ []) ⊎ ((next : ℕ) × (rest : List ℕ) × (behind ≡ next ∷ rest) × (in_word next ≡ false))) → words_between separates ((byte ∷ word) ++ behind) ≡ (byte ∷ word) ∷ words_between separates behind
  word_then byte word behind all (inl none) =
      subst (λ (l : List ℕ). words_between separates ((byte ∷ word) ++ l) ≡ (byte ∷ word) ∷ words_between separates l) (sym none)
      (ap (words_between separates) (append-nil (byte ∷ word)) ∙ ap (filter is_word) (pieces-last separates (byte ∷ word) all))
  word_then byte word behind all (inr more) =
      let blank = not_in_word more.0 more.3 in
      subst (λ (l : List ℕ). words_between separates ((byte ∷ word) ++ l) ≡ (byte ∷ word) ∷ words_between separates l) (sym more.2)
      (ap (filter is_word) (pieces-first separates (byte ∷ word) more.1 more.0 all blank) ∙ ap (λ (l : List (List ℕ)). (byte ∷ word) ∷ l) (sym (blank_gone more.0 more.1 blank)))

  -- the word in front, and the words behind it
  pub word_cut : (bytes : List ℕ) → (take (length (take_while in_word bytes)) bytes ≡ [] → ⊥) → words_between separates bytes ≡ take (length (take_while in_word bytes)) bytes ∷ words_between separates (drop (length (take_while in_word bytes)) bytes)
  word_cut bytes there =
      let r = run_of in_word bytes in
      subst (λ (front : List ℕ). words_between separates bytes ≡ front ∷ words_between separates (drop (length (take_while in_word bytes)) bytes)) (sym r.taken)
      (subst (λ (back : List ℕ). words_between separates bytes ≡ r.run ∷ words_between separates back) (sym r.dropped) (ap (words_between separates) r.split ∙ by_run r.run r.behind r.all r.stops (λ e. there (r.taken ∙ e))))
    where
      by_run : (run behind : List ℕ) → list_all in_word run ≡ true → ((behind ≡ []) ⊎ ((next : ℕ) × (rest : List ℕ) × (behind ≡ next ∷ rest) × (in_word next ≡ false))) → (run ≡ [] → ⊥) → words_between separates (run ++ behind) ≡ run ∷ words_between separates behind
      by_run [] behind all stops there = absurd (there refl)
      by_run (byte ∷ word) behind all stops there = word_then byte word behind all stops

  -- where no word stands in front of what begins with no blank, nothing stands there
  pub word_none : (bytes : List ℕ) → ((bytes ≡ []) ⊎ ((byte : ℕ) × (rest : List ℕ) × (bytes ≡ byte ∷ rest) × (separates byte ≡ false))) → take (length (take_while in_word bytes)) bytes ≡ [] → words_between separates bytes ≡ []
  word_none bytes (inl none) gone = ap (words_between separates) none
  word_none bytes (inr more) gone =
      let begins : take_while in_word bytes ≡ more.0 ∷ take_while in_word more.1 = ap (take_while in_word) more.2 ∙ take_while-cons in_word more.0 more.1 ∙ ap (λ (b : Bool). cond (not b) (more.0 ∷ take_while in_word more.1) []) more.3 in
      let one : take (length (take_while in_word bytes)) bytes ≡ more.0 ∷ take (length (take_while in_word more.1)) more.1 = ap (λ (l : List ℕ). take (length l) bytes) begins ∙ ap (take (suc (length (take_while in_word more.1)))) more.2 in
      absurd (apart more.0 _ (sym one ∙ gone))
    where
      apart : (byte : ℕ) (rest : List ℕ) → byte ∷ rest ≡ [] → ⊥
      apart byte rest e = cc

  -- ---- as the code meets them

  pub word_found : (bytes line word rest : List ℕ) (m n : ℕ) → m ≡ length (take_while separates bytes) → line ≡ drop m bytes → n ≡ length (take_while in_word line) → word ≡ take n line → rest ≡ drop n line → (word ≡ [] → ⊥) → words_between separates bytes ≡ word ∷ words_between separates rest
  word_found bytes line word rest m n m_is line_is n_is word_is rest_is there =
      let behind : drop (length (take_while separates bytes)) bytes ≡ line = cc in
      let first : take (length (take_while in_word line)) line ≡ word = cc in
      let others : drop (length (take_while in_word line)) line ≡ rest = cc in
      front_gone bytes ∙ ap (words_between separates) behind ∙ word_cut line (λ e. there (sym first ∙ e)) ∙ ap (λ (l : List ℕ). l ∷ words_between separates (drop (length (take_while in_word line)) line)) first ∙ ap (λ (l : List ℕ). word ∷ words_between separates l) others

  pub word_missing : (bytes line word : List ℕ) (m n : ℕ) → m ≡ length (take_while separates bytes) → line ≡ drop m bytes → n ≡ length (take_while in_word line) → word ≡ take n line → word ≡ [] → words_between separates bytes ≡ []
  word_missing bytes line word m n m_is line_is n_is word_is none =
      let behind : drop (length (take_while separates bytes)) bytes ≡ line = cc in
      let first : take (length (take_while in_word line)) line ≡ [] = cc in
      front_gone bytes ∙ ap (words_between separates) behind ∙ word_none line (subst (λ (l : List ℕ). (l ≡ []) ⊎ ((byte : ℕ) × (rest : List ℕ) × (l ≡ byte ∷ rest) × (separates byte ≡ false))) behind (no_blank bytes)) first

  -- ---- at the first byte that separates

  -- nothing separates: one piece
  pub piece_alone : (bytes back : List ℕ) (n : ℕ) → n ≡ length (take_while in_word bytes) → back ≡ drop n bytes → back ≡ [] → pieces_where separates bytes ≡ bytes ∷ []
  piece_alone bytes back n n_is back_is none =
      let r = run_of in_word bytes in
      let end : r.behind ≡ [] = sym r.dropped ∙ sym (ap (λ (m : ℕ). drop m bytes) n_is) ∙ sym back_is ∙ none in
      let whole : bytes ≡ r.run = r.split ∙ ap (λ (l : List ℕ). r.run ++ l) end ∙ append-nil r.run in
      ap (pieces_where separates) whole ∙ pieces-last separates r.run r.all ∙ ap (λ (l : List ℕ). l ∷ []) (sym whole)

  -- the first piece, and the pieces behind it
  pub piece_cut : (bytes front back rest : List ℕ) (n first : ℕ) → n ≡ length (take_while in_word bytes) → front ≡ take n bytes → back ≡ drop n bytes → back ≡ first ∷ rest → pieces_where separates bytes ≡ front ∷ pieces_where separates rest
  piece_cut bytes front back rest n first n_is front_is back_is more =
      let r = run_of in_word bytes in
      let there : r.behind ≡ first ∷ rest = sym r.dropped ∙ sym (ap (λ (m : ℕ). drop m bytes) n_is) ∙ sym back_is ∙ more in
      let before : r.run ≡ front = sym r.taken ∙ sym (ap (λ (m : ℕ). take m bytes) n_is) ∙ sym front_is in
      subst (λ (l : List ℕ). pieces_where separates bytes ≡ l ∷ pieces_where separates rest) before (by_end r there r.stops)
    where
      by_end : (r : Run in_word bytes) → r.behind ≡ first ∷ rest → ((r.behind ≡ []) ⊎ ((byte : ℕ) × (after : List ℕ) × (r.behind ≡ byte ∷ after) × (in_word byte ≡ false))) → pieces_where separates bytes ≡ r.run ∷ pieces_where separates rest
      by_end r there (inl none) = absurd (apart (sym there ∙ none))
        where
          apart : first ∷ rest ≡ [] → ⊥
          apart e = cc
      by_end r there (inr more) =
          let same : more.1 ≡ rest = cc (there, more.2) in
          ap (pieces_where separates) (r.split ∙ ap (λ (l : List ℕ). r.run ++ l) more.2) ∙ pieces-first separates r.run more.1 more.0 r.all (not_in_word more.0 more.3) ∙ ap (λ (l : List ℕ). r.run ∷ pieces_where separates l) same

  -- the same, where what stands behind begins with the byte that separates
  pub piece_next : (bytes front back rest : List ℕ) (n : ℕ) → n ≡ length (take_while in_word bytes) → front ≡ take n bytes → back ≡ drop n bytes → (back ≡ [] → ⊥) → rest ≡ drop 1 back → pieces_where separates bytes ≡ front ∷ pieces_where separates rest
  piece_next bytes front [] rest n n_is front_is back_is there rest_is = absurd (there refl)
  piece_next bytes front (first ∷ back) rest n n_is front_is back_is there rest_is = piece_cut bytes front (first ∷ back) rest n first n_is front_is back_is (ap (λ (l : List ℕ). first ∷ l) (sym rest_is))
