-- What a line of a text can say: names are names, numbers are in their ranges, and no line says a statement with blocks at once.
use Rattle.std.proofs.Common.{◌≡◌, ◌≤◌, ℕ, zero, suc, Bool, true, false, cond, List, [], ◌∷◌, ◌++◌, map, length, Option, Some, None, refl, arith}
use Rattle.std.specs.Prelude.{ℤ, pos, neg_ℤ, codes, option_map, option_and_then, take, drop, nat_le, ◌==◌}
use Rattle.std.specs.List.{list_all}
use Rattle.std.specs.Str.{bytes_eq}
use Rattle.std.specs.Option.{unwrap_or, option_or}
use Rattle.std.proofs.lemmas.Bool.{and_from}
use Rattle.std.proofs.lemmas.Bool.Decides.{nat_tests}
use Rattle.std.proofs.lemmas.Int.{ints}
use Rattle.net_syntax.specs.declared.keyword.Keyword.{Keyword}
use Rattle.net_syntax.specs.declared.keyword.Keyword.TheVariants as word
use Rattle.tis_base.specs.Saturation.{IsValue}
use Rattle.tis_base.specs.Tiles.{Tiles}
use Rattle.tis_base.specs.declared.tiles.TileKind.{TileKind}
use Rattle.net_tree.specs.declared.tree.Var.{Var}
use Rattle.net_tree.specs.declared.tree.Test.{Test}
use Rattle.net_tree.specs.Names.{is_name}
use Rattle.net_tree.specs.Tree.{Name, Statement, Get, GetAdd, GetSub, Put, PutNumber, Move, Set, Add, Sub, Neg, Double, Copy, Swap, If, While, Count}
use Rattle.tis_words.specs.Words.{Words}
use Rattle.tis_words.specs.declared.comments.Comments.TheVariants.{BehindHash}
use Rattle.tis_words.specs.Lines.{NonBlank, non_blank_lines}
use Rattle.tis_words.specs.Parts.{followed_by, next_word, at_end, exactly}
use Rattle.tis_words.specs.Numerals.{spelled, at_most, number_of, value_of}
use Rattle.net_syntax.specs.Forms as forms
use Rattle.net_syntax.specs.Forms.{LineForm, Line, name_of, var_of, kind_of, row_of, sent_on, put_of, statement_of, version_of, name_and_var, two_names, var_and_number, one_var, two_vars, tiles_of, tiles_to_end, short_path, path_of, via_of, at_of, port_of, channel_of, process_of, test_against_zero, said, form_of, keyword_of, line_of, line_past, lines_up_to, lines_of}

-- a name's bytes are a name
abbrev pub Named : Name → Type 0
Named name = is_name name ≡ true

-- at most 48 numbers of tiles
abbrev pub IsPath : List ℕ → Type 0
IsPath path = (list_all (λ tile. nat_le tile 99) path ≡ true) × (length path ≤ 48)

-- how a link goes, where it is pinned
abbrev pub IsVia : Option (List ℕ) → Type 0
IsVia None = Unit {0}
IsVia (Some path) = IsPath path

-- where a process stands, where it is pinned
abbrev pub IsAt : Option ℕ → Type 0
IsAt None = Unit {0}
IsAt (Some tile) = tile ≤ 99

-- four tiles
pub record IsRow (row : List TileKind) : Type 0 where
  pub first : TileKind
  pub second : TileKind
  pub third : TileKind
  pub fourth : TileKind
  pub all : row ≡ first ∷ second ∷ third ∷ fourth ∷ []

-- three rows of four tiles
pub record AreRows (tiles : Tiles) : Type 0 where
  pub first : List TileKind
  pub second : List TileKind
  pub third : List TileKind
  pub first_row : IsRow first
  pub second_row : IsRow second
  pub third_row : IsRow third
  pub all : tiles ≡ record { shape = record { columns = 4; rows = 3 }; kinds = first ++ second ++ third }

-- a statement without a block, with names and numbers that can be written
abbrev pub IsPlain : Statement Name → Type 0
IsPlain (Get read var) = Named read
IsPlain (GetAdd read var) = Named read
IsPlain (GetSub read var) = Named read
IsPlain (Put written var) = Named written
IsPlain (PutNumber written number) = Named written × IsValue number
IsPlain (Move read written) = Named read × Named written
IsPlain (Set var number) = IsValue number
IsPlain (Add var number) = IsValue number
IsPlain (Sub var number) = IsValue number
IsPlain (Neg var) = Unit {0}
IsPlain (Double var) = Unit {0}
IsPlain (Copy to from) = Unit {0}
IsPlain Swap = Unit {0}
IsPlain (If var test first second) = ⊥
IsPlain (While var test body) = ⊥
IsPlain (Count var body) = ⊥

-- what a line can say
abbrev pub IsPlainForm : LineForm → Type 0
IsPlainForm (forms.TilesLine tiles) = AreRows tiles
IsPlainForm (forms.Input name position via) = Named name × (position ≤ 3) × IsVia via
IsPlainForm (forms.Output name position via) = Named name × (position ≤ 3) × IsVia via
IsPlainForm (forms.Channel name via) = Named name × IsVia via
IsPlainForm (forms.Process name at) = Named name × IsAt at
IsPlainForm (forms.Simple statement) = IsPlain statement
IsPlainForm form = Unit {0}

-- the same of each line
abbrev pub ArePlain : List Line → Type 0
ArePlain [] = Unit {0}
ArePlain (l ∷ lines) = IsPlainForm l.form × ArePlain lines

-- ---- what is read, where something is read

abbrev Holds : {X : Type 0} → (X → Type 0) → Option X → Type 0
Holds P None = Unit {0}
Holds P (Some x) = P x

followed_holds : {A B : Type 0} (Q : A → Type 0) (P : B → Type 0) (read : Option A) (next : A → Option B) → Holds Q read → ((a : A) → Q a → Holds P (next a)) → Holds P (followed_by read next)
unfolding followed_by
followed_holds Q P None next is then = tt
followed_holds Q P (Some a) next is then = then a is

end_holds : {X : Type 0} (P : X → Type 0) (words : Words) (x : X) → P x → Holds P (at_end words x)
unfolding at_end
end_holds P [] x is = is
end_holds P (word ∷ words) x is = tt

mapped_holds : {A B : Type 0} (Q : A → Type 0) (P : B → Type 0) (f : A → B) (read : Option A) → Holds Q read → ((a : A) → Q a → P (f a)) → Holds P (option_map f read)
mapped_holds Q P f None is then = tt
mapped_holds Q P f (Some a) is then = then a is

or_holds : {X : Type 0} (P : X → Type 0) (first second : Option X) → Holds P first → Holds P second → Holds P (option_or first second)
or_holds P None second one two = two
or_holds P (Some x) second one two = one

-- whatever is read
anything : {X : Type 0} (read : Option X) → Holds (λ x. Unit {0}) read
anything None = tt
anything (Some x) = tt

next_holds : {X : Type 0} (Q : X → Type 0) (meaning : List ℕ → Option X) → ((word : List ℕ) → Holds Q (meaning word)) → (words : Words) → Holds (λ (p : X × Words). Q p.0) (next_word meaning words)
unfolding next_word
next_holds Q meaning means [] = tt
next_holds Q meaning means (word ∷ words) = mapped_holds Q (λ (p : _ × Words). Q p.0) (λ x. (x, words)) (meaning word) (means word) (λ a is. is)

-- ---- words

name_is_named : (word : List ℕ) → Holds Named (name_of word)
name_is_named word = by (is_name word) refl
  where
    by : (b : Bool) → is_name word ≡ b → Holds Named (cond b (Some word) None)
    by true is = is
    by false is = tt

number_is_within : (most : ℕ) (word : List ℕ) → Holds (λ (n : ℕ). n ≤ most) (number_of most word)
unfolding number_of
number_is_within most word = by (spelled word)
  where
    within : (n : ℕ) (b : Bool) → nat_le n most ≡ b → Holds (λ (n : ℕ). n ≤ most) (cond b (Some n) None)
    within n true is = small n is
      where
        small : (n : ℕ) → nat_le n most ≡ true → n ≤ most
        small n is = grind (arith, nat_tests)
    within n false is = tt

    by : (number : Option ℕ) → Holds (λ (n : ℕ). n ≤ most) (option_and_then (at_most most) number)
    by None = tt
    by (Some n) = within n (nat_le n most) refl

minus_is_value : (n : ℕ) → n ≤ 999 → IsValue (neg_ℤ (pos n))
minus_is_value zero small = (omega (arith, ints), omega (arith, ints))
minus_is_value (suc n) small = (omega (arith, ints), omega (arith, ints))

number_is_value : (n : ℕ) → n ≤ 999 → IsValue (pos n)
number_is_value n small = (omega (arith, ints), omega (arith, ints))

value_is_value : (word : List ℕ) → Holds IsValue (value_of word)
unfolding value_of
value_is_value [] = tt
value_is_value (byte ∷ bytes) = by (byte == 45)
  where
    by : (b : Bool) → Holds IsValue (cond b (option_map (λ n. neg_ℤ (pos n)) (number_of 999 bytes)) (option_map (λ n. pos n) (number_of 999 (byte ∷ bytes))))
    by true = mapped_holds (λ (n : ℕ). n ≤ 999) IsValue (λ n. neg_ℤ (pos n)) (number_of 999 bytes) (number_is_within 999 bytes) minus_is_value
    by false = mapped_holds (λ (n : ℕ). n ≤ 999) IsValue (λ n. pos n) (number_of 999 (byte ∷ bytes)) (number_is_within 999 (byte ∷ bytes)) number_is_value

-- ---- links and places

is_below : (tile : ℕ) → tile ≤ 99 → nat_le tile 99 ≡ true
is_below tile small = grind (arith, nat_tests)

tiles_are_tiles : (words : Words) → Holds (λ (path : List ℕ). list_all (λ tile. nat_le tile 99) path ≡ true) (tiles_to_end words)
unfolding tiles_to_end
tiles_are_tiles [] = refl
tiles_are_tiles (word ∷ words) = by (number_of 99 word) (number_is_within 99 word) (tiles_to_end words) (tiles_are_tiles words)
  where
    by : (number : Option ℕ) → Holds (λ (n : ℕ). n ≤ 99) number → (rest : Option (List ℕ)) → Holds (λ (path : List ℕ). list_all (λ tile. nat_le tile 99) path ≡ true) rest → Holds (λ (path : List ℕ). list_all (λ tile. nat_le tile 99) path ≡ true) (option_and_then (λ tile. option_map (λ tiles. tile ∷ tiles) rest) number)
    by None small rest all = tt
    by (Some tile) small None all = tt
    by (Some tile) small (Some path) all = and_from (nat_le tile 99) (list_all (λ tile. nat_le tile 99) path) (is_below tile small) all

path_is_path : (words : Words) → Holds IsPath (path_of words)
unfolding path_of
path_is_path words = by (tiles_to_end words) (tiles_are_tiles words)
  where
    short : (path : List ℕ) → list_all (λ tile. nat_le tile 99) path ≡ true → (b : Bool) → nat_le (length path) 48 ≡ b → Holds IsPath (cond b (Some path) None)
    short path all true is = (all, few (length path) is)
      where
        few : (n : ℕ) → nat_le n 48 ≡ true → n ≤ 48
        few n is = grind (arith, nat_tests)
    short path all false is = tt

    by : (path : Option (List ℕ)) → Holds (λ (path : List ℕ). list_all (λ tile. nat_le tile 99) path ≡ true) path → Holds IsPath (option_and_then short_path path)
    by None all = tt
    by (Some path) all = short path all (nat_le (length path) 48) refl

via_is_via : (words : Words) → Holds IsVia (via_of words)
unfolding via_of
via_is_via [] = tt
via_is_via (word ∷ words) = by (bytes_eq word (codes "via"))
  where
    by : (b : Bool) → Holds IsVia (cond b (option_map (λ path. Some path) (path_of words)) None)
    by true = mapped_holds IsPath IsVia (λ path. Some path) (path_of words) (path_is_path words) (λ path is. is)
    by false = tt

at_is_at : (words : Words) → Holds IsAt (at_of words)
unfolding at_of
at_is_at [] = tt
at_is_at (word ∷ words) =
    followed_holds (λ (p : List ℕ × Words). Unit {0}) IsAt (next_word (exactly (codes "at")) (word ∷ words)) _ (anything (next_word (exactly (codes "at")) (word ∷ words))) (λ at any.
    followed_holds (λ (p : ℕ × Words). p.0 ≤ 99) IsAt (next_word (number_of 99) at.1) _ (next_holds (λ (n : ℕ). n ≤ 99) (number_of 99) (number_is_within 99) at.1) (λ tile small.
    end_holds IsAt tile.1 (Some tile.0) small))

-- a name in front
named_holds : {B : Type 0} (P : B → Type 0) (words : Words) (next : Name × Words → Option B) → ((p : Name × Words) → Named p.0 → Holds P (next p)) → Holds P (followed_by (next_word name_of words) next)
named_holds P words next then = followed_holds (λ (p : Name × Words). Named p.0) P (next_word name_of words) next (next_holds Named name_of name_is_named words) then

abbrev IsPort : Name × ℕ × Option (List ℕ) → Type 0
IsPort p = Named p.0 × (p.1 ≤ 3) × IsVia p.2

port_is_port : (words : Words) → Holds IsPort (port_of words)
unfolding port_of
port_is_port words = named_holds IsPort words _ (λ name named.
    followed_holds (λ (p : List ℕ × Words). Unit {0}) IsPort (next_word (exactly (codes "at")) name.1) _ (anything (next_word (exactly (codes "at")) name.1)) (λ at any.
    followed_holds (λ (p : ℕ × Words). p.0 ≤ 3) IsPort (next_word (number_of 3) at.1) _ (next_holds (λ (n : ℕ). n ≤ 3) (number_of 3) (number_is_within 3) at.1) (λ position small.
    followed_holds IsVia IsPort (via_of position.1) _ (via_is_via position.1) (λ via is. (named, small, is)))))

abbrev IsChannel : Name × Option (List ℕ) → Type 0
IsChannel p = Named p.0 × IsVia p.1

channel_is_channel : (words : Words) → Holds IsChannel (channel_of words)
unfolding channel_of
channel_is_channel words = named_holds IsChannel words _ (λ name named. followed_holds IsVia IsChannel (via_of name.1) _ (via_is_via name.1) (λ via is. (named, is)))

abbrev IsProcess : Name × Option ℕ → Type 0
IsProcess p = Named p.0 × IsAt p.1

process_is_process : (words : Words) → Holds IsProcess (process_of words)
unfolding process_of
process_is_process words = named_holds IsProcess words _ (λ name named. followed_holds IsAt IsProcess (at_of name.1) _ (at_is_at name.1) (λ at is. (named, is)))

-- ---- tiles

row_is_row : (word : List ℕ) → Holds IsRow (row_of word)
unfolding row_of
row_is_row (a ∷ b ∷ c ∷ d ∷ []) =
    followed_holds (λ (k : TileKind). Unit {0}) IsRow (kind_of a) _ (anything (kind_of a)) (λ first any1.
    followed_holds (λ (k : TileKind). Unit {0}) IsRow (kind_of b) _ (anything (kind_of b)) (λ second any2.
    followed_holds (λ (k : TileKind). Unit {0}) IsRow (kind_of c) _ (anything (kind_of c)) (λ third any3.
    followed_holds (λ (k : TileKind). Unit {0}) IsRow (kind_of d) _ (anything (kind_of d)) (λ fourth any4.
    record { first = first; second = second; third = third; fourth = fourth; all = refl }))))
row_is_row word = tt

rows_are_rows : (words : Words) → Holds AreRows (tiles_of words)
unfolding tiles_of
rows_are_rows words =
    followed_holds (λ (p : List TileKind × Words). IsRow p.0) AreRows (next_word row_of words) _ (next_holds IsRow row_of row_is_row words) (λ first one.
    followed_holds (λ (p : List TileKind × Words). IsRow p.0) AreRows (next_word row_of first.1) _ (next_holds IsRow row_of row_is_row first.1) (λ second two.
    followed_holds (λ (p : List TileKind × Words). IsRow p.0) AreRows (next_word row_of second.1) _ (next_holds IsRow row_of row_is_row second.1) (λ third three.
    end_holds AreRows third.1 _ (record { first = first.0; second = second.0; third = third.0; first_row = one; second_row = two; third_row = three; all = refl }))))

-- ---- statements

sent_is_plain : (name : Name) → Named name → (word : List ℕ) → Holds IsPlain (sent_on name word)
sent_is_plain name named word =
    or_holds IsPlain (option_map (Put name) (var_of word)) (option_map (PutNumber name) (value_of word))
    (mapped_holds (λ (v : Var). Unit {0}) IsPlain (Put name) (var_of word) (anything (var_of word)) (λ a is. named))
    (mapped_holds IsValue IsPlain (PutNumber name) (value_of word) (value_is_value word) (λ a is. (named, is)))

put_is_plain : (words : Words) → Holds IsPlain (put_of words)
unfolding put_of
put_is_plain words = named_holds IsPlain words _ (λ name named.
    followed_holds (λ (p : Statement Name × Words). IsPlain p.0) IsPlain (next_word (sent_on name.0) name.1) _ (next_holds IsPlain (sent_on name.0) (sent_is_plain name.0 named) name.1) (λ statement plain.
    end_holds IsPlain statement.1 statement.0 plain))

read_is_named : (words : Words) → Holds (λ (p : Name × Var). Named p.0) (name_and_var words)
unfolding name_and_var
read_is_named words = named_holds (λ (p : Name × Var). Named p.0) words _ (λ name named.
    followed_holds (λ (p : Var × Words). Unit {0}) (λ (p : Name × Var). Named p.0) (next_word var_of name.1) _ (anything (next_word var_of name.1)) (λ var any.
    end_holds (λ (p : Name × Var). Named p.0) var.1 (name.0, var.0) named))

both_are_named : (words : Words) → Holds (λ (p : Name × Name). Named p.0 × Named p.1) (two_names words)
unfolding two_names
both_are_named words = named_holds (λ (p : Name × Name). Named p.0 × Named p.1) words _ (λ first one.
    named_holds (λ (p : Name × Name). Named p.0 × Named p.1) first.1 _ (λ second two.
    end_holds (λ (p : Name × Name). Named p.0 × Named p.1) second.1 (first.0, second.0) (one, two)))

number_is_held : (words : Words) → Holds (λ (p : Var × ℤ). IsValue p.1) (var_and_number words)
unfolding var_and_number
number_is_held words =
    followed_holds (λ (p : Var × Words). Unit {0}) (λ (p : Var × ℤ). IsValue p.1) (next_word var_of words) _ (anything (next_word var_of words)) (λ var any.
    followed_holds (λ (p : ℤ × Words). IsValue p.0) (λ (p : Var × ℤ). IsValue p.1) (next_word value_of var.1) _ (next_holds IsValue value_of value_is_value var.1) (λ number is.
    end_holds (λ (p : Var × ℤ). IsValue p.1) number.1 (var.0, number.0) is))

statement_is_plain : (keyword : Keyword) (words : Words) → Holds IsPlain (statement_of keyword words)
unfolding statement_of
statement_is_plain word.Get words = mapped_holds (λ (p : Name × Var). Named p.0) IsPlain (λ p. Get p.0 p.1) (name_and_var words) (read_is_named words) (λ a is. is)
statement_is_plain word.GetAdd words = mapped_holds (λ (p : Name × Var). Named p.0) IsPlain (λ p. GetAdd p.0 p.1) (name_and_var words) (read_is_named words) (λ a is. is)
statement_is_plain word.GetSub words = mapped_holds (λ (p : Name × Var). Named p.0) IsPlain (λ p. GetSub p.0 p.1) (name_and_var words) (read_is_named words) (λ a is. is)
statement_is_plain word.Put words = put_is_plain words
statement_is_plain word.Move words = mapped_holds (λ (p : Name × Name). Named p.0 × Named p.1) IsPlain (λ p. Move p.0 p.1) (two_names words) (both_are_named words) (λ a is. is)
statement_is_plain word.Set words = mapped_holds (λ (p : Var × ℤ). IsValue p.1) IsPlain (λ p. Set p.0 p.1) (var_and_number words) (number_is_held words) (λ a is. is)
statement_is_plain word.Add words = mapped_holds (λ (p : Var × ℤ). IsValue p.1) IsPlain (λ p. Add p.0 p.1) (var_and_number words) (number_is_held words) (λ a is. is)
statement_is_plain word.Sub words = mapped_holds (λ (p : Var × ℤ). IsValue p.1) IsPlain (λ p. Sub p.0 p.1) (var_and_number words) (number_is_held words) (λ a is. is)
statement_is_plain word.Neg words = mapped_holds (λ (v : Var). Unit {0}) IsPlain Neg (one_var words) (anything (one_var words)) (λ a is. tt)
statement_is_plain word.Double words = mapped_holds (λ (v : Var). Unit {0}) IsPlain Double (one_var words) (anything (one_var words)) (λ a is. tt)
statement_is_plain word.Copy words = mapped_holds (λ (p : Var × Var). Unit {0}) IsPlain (λ p. Copy p.0 p.1) (two_vars words) (anything (two_vars words)) (λ a is. tt)
statement_is_plain word.Swap words = end_holds IsPlain words Swap tt
statement_is_plain keyword words = tt

-- ---- lines

version_is_plain : (words : Words) → Holds IsPlainForm (version_of words)
unfolding version_of
version_is_plain words = followed_holds (λ (p : List ℕ × Words). Unit {0}) IsPlainForm (next_word (exactly (codes "1")) words) (λ version. at_end version.1 forms.Version) (anything (next_word (exactly (codes "1")) words)) (λ version any. end_holds IsPlainForm version.1 forms.Version tt)

said_is_plain : (keyword : Keyword) (words : Words) → Holds IsPlainForm (said keyword words)
unfolding said
said_is_plain word.Net words = version_is_plain words
said_is_plain word.Tiles words = mapped_holds AreRows IsPlainForm forms.TilesLine (tiles_of words) (rows_are_rows words) (λ a is. is)
said_is_plain word.Input words = mapped_holds IsPort IsPlainForm (λ p. forms.Input p.0 p.1 p.2) (port_of words) (port_is_port words) (λ a is. is)
said_is_plain word.Output words = mapped_holds IsPort IsPlainForm (λ p. forms.Output p.0 p.1 p.2) (port_of words) (port_is_port words) (λ a is. is)
said_is_plain word.Channel words = mapped_holds IsChannel IsPlainForm (λ p. forms.Channel p.0 p.1) (channel_of words) (channel_is_channel words) (λ a is. is)
said_is_plain word.Process words = mapped_holds IsProcess IsPlainForm (λ p. forms.Process p.0 p.1) (process_of words) (process_is_process words) (λ a is. is)
said_is_plain word.Else words = end_holds IsPlainForm words forms.Else tt
said_is_plain word.End words = end_holds IsPlainForm words forms.End tt
said_is_plain word.If words = mapped_holds (λ (p : Var × Test). Unit {0}) IsPlainForm (λ p. forms.OpensIf p.0 p.1) (test_against_zero words) (anything (test_against_zero words)) (λ a is. tt)
said_is_plain word.While words = mapped_holds (λ (p : Var × Test). Unit {0}) IsPlainForm (λ p. forms.OpensWhile p.0 p.1) (test_against_zero words) (anything (test_against_zero words)) (λ a is. tt)
said_is_plain word.Count words = mapped_holds (λ (v : Var). Unit {0}) IsPlainForm forms.OpensCount (one_var words) (anything (one_var words)) (λ a is. tt)
said_is_plain keyword words = mapped_holds IsPlain IsPlainForm forms.Simple (statement_of keyword words) (statement_is_plain keyword words) (λ statement plain. plain)

given_is_plain : (said : Option LineForm) → Holds IsPlainForm said → IsPlainForm (unwrap_or said forms.Malformed)
given_is_plain None is = tt
given_is_plain (Some form) is = is

keyword_is_plain : (keyword : Option Keyword) (words : Words) → Holds IsPlainForm (option_and_then (λ keyword. said keyword words) keyword)
keyword_is_plain None words = tt
keyword_is_plain (Some keyword) words = said_is_plain keyword words

words_are_plain : (words : Words) → IsPlainForm (form_of words)
unfolding form_of
words_are_plain [] = tt
words_are_plain (text ∷ words) = given_is_plain (option_and_then (λ keyword. said keyword words) (keyword_of text)) (keyword_is_plain (keyword_of text) words)

past_are_plain : (filled : List NonBlank) → ArePlain (map line_past filled)
past_are_plain [] = tt
past_are_plain (line ∷ filled) = (tt, past_are_plain filled)

first_are_plain : (filled : List NonBlank) (behind : List Line) → ArePlain behind → ArePlain (map line_of filled ++ behind)
first_are_plain [] behind plain = plain
first_are_plain (line ∷ filled) behind plain = (words_are_plain line.words, first_are_plain filled behind plain)

pub lines_are_plain : (text : List ℕ) → ArePlain (lines_of text)
unfolding lines_of lines_up_to
lines_are_plain text = first_are_plain (take 65535 (non_blank_lines BehindHash text)) (map line_past (drop 65535 (non_blank_lines BehindHash text))) (past_are_plain (drop 65535 (non_blank_lines BehindHash text)))
