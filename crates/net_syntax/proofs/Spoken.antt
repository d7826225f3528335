-- Each thing that a line can say has words that say it: those of the canonical text.
use Rattle.std.proofs.Common.{◌≡◌, ◌≤◌, ◌<◌, ℕ, Bool, true, false, cond, List, [], ◌∷◌, ◌++◌, map, length, Option, Some, None, refl, sym, ap, ◌∙◌, arith}
use Rattle.std.specs.Prelude.{ℤ, pos, negsuc, codes, option_map, option_and_then, nat_le, ◌&&◌, decimal}
use Rattle.std.specs.Char.{is_ascii_digit}
use Rattle.std.specs.Str.{bytes_eq}
use Rattle.std.specs.Fmt.{signed_decimal}
use Rattle.std.specs.List.{list_all}
use Rattle.std.specs.Option.{unwrap_or, option_or}
use Rattle.std.proofs.lemmas.Bool.{and_parts, and_from, false≢true, ne_eqb}
use Rattle.std.proofs.lemmas.Bool.Decides.{nat_tests}
use Rattle.std.proofs.lemmas.Fmt.{decimal_digit}
use Rattle.std.proofs.lemmas.Int.{ints}
use Rattle.tis_base.specs.Saturation.{IsValue}
use Rattle.tis_base.specs.Tiles.{Tiles}
use Rattle.tis_base.specs.declared.tiles.TileKind.{TileKind}
use Rattle.tis_base.specs.declared.tiles.TileKind.TheVariants.{Compute, Memory, Damaged}
use Rattle.net_tree.specs.declared.tree.Var.{Var}
use Rattle.net_tree.specs.declared.tree.Var.TheVariants.{X, Y}
use Rattle.net_tree.specs.declared.tree.Test.{Test}
use Rattle.net_tree.specs.declared.tree.Test.TheVariants.{Zero, NotZero, Negative, Positive, NotPositive, NotNegative}
use Rattle.net_tree.specs.Names.{is_name_byte, begins_with_letter}
use Rattle.net_tree.specs.Tree.{Name, Statement, Get, GetAdd, GetSub, Put, PutNumber, Move, Set, Add, Sub, Neg, Double, Copy, Swap, If, While, Count}
use Rattle.net_tree.specs.NetText.{kind_letter, row_words, version_line, tiles_line, via_words, at_words, port_line, channel_line, process_line, var_word, test_word, end_line, statement_line}
use Rattle.tis_words.specs.Words.{Words}
use Rattle.tis_words.specs.Parts.{followed_by, next_word, at_end, exactly}
use Rattle.tis_words.specs.Numerals.{number_of, value_of}
use Rattle.tis_words.proofs.Written.{is_word_byte, is_plain_word, is_filled_line, decimal_is_numeral, number_read, number_is_plain, value_read, value_is_plain}
use Rattle.net_syntax.specs.Forms as forms
use Rattle.net_syntax.specs.Forms.{LineForm, name_of, var_of, test_of, kind_of, row_of, sent_on, put_of, statement_of, version_of, name_and_var, two_names, var_and_number, one_var, two_vars, tiles_of, tiles_to_end, short_path, path_of, via_of, at_of, port_of, channel_of, process_of, test_against_zero, said, form_of, keyword_of}
use Rattle.net_syntax.proofs.Plain.{Named, IsPath, IsVia, IsAt, IsRow, AreRows, IsPlain, IsPlainForm}

-- the words of the canonical text that say this
abbrev pub form_words : LineForm → Words
form_words forms.Version = version_line 1
form_words (forms.TilesLine tiles) = tiles_line tiles
form_words (forms.Input name position via) = port_line (codes "input") (record { name = name; position = position; via = via; line = 0 })
form_words (forms.Output name position via) = port_line (codes "output") (record { name = name; position = position; via = via; line = 0 })
form_words (forms.Channel name via) = channel_line (record { name = name; via = via; line = 0 })
form_words (forms.Process name at) = process_line name at
form_words (forms.Simple statement) = statement_line statement
form_words (forms.OpensIf var test) = codes "if" ∷ var_word var ∷ test_word test ∷ codes "0" ∷ []
form_words (forms.OpensWhile var test) = codes "while" ∷ var_word var ∷ test_word test ∷ codes "0" ∷ []
form_words (forms.OpensCount var) = codes "count" ∷ var_word var ∷ []
form_words forms.Else = codes "else" ∷ []
form_words forms.End = end_line
form_words forms.Malformed = []

-- ---- what is read of one word

name_read : (name : Name) → Named name → name_of name ≡ Some name
name_read name named = ap (λ (b : Bool). cond b (Some name) None) named

var_read : (var : Var) → var_of (var_word var) ≡ Some var
var_read X = refl
var_read Y = refl

test_read : (test : Test) → test_of (test_word test) ≡ Some test
test_read Zero = refl
test_read NotZero = refl
test_read Negative = refl
test_read Positive = refl
test_read NotPositive = refl
test_read NotNegative = refl

next_read : {X : Type 0} (meaning : List ℕ → Option X) (word : List ℕ) (words : Words) (x : X) → meaning word ≡ Some x → next_word meaning (word ∷ words) ≡ Some (x, words)
unfolding next_word
next_read meaning word words x is = ap (option_map (λ y. (y, words))) is

-- what follows a part that was read
then_read : {A B : Type 0} (read : Option A) (a : A) (next : A → Option B) → read ≡ Some a → followed_by read next ≡ next a
unfolding followed_by
then_read read a next is = ap (option_and_then next) is

end_read : {X : Type 0} (x : X) → at_end [] x ≡ Some x
unfolding at_end
end_read x = refl

-- ---- links and places

small_number : (n most : ℕ) → nat_le n most ≡ true → n ≤ most
small_number n most is = grind (arith, nat_tests)

tiles_read : (path : List ℕ) → list_all (λ tile. nat_le tile 99) path ≡ true → tiles_to_end (map decimal path) ≡ Some path
unfolding tiles_to_end
tiles_read [] all = refl
tiles_read (tile ∷ path) all =
    let parts = and_parts (nat_le tile 99) (list_all (λ tile. nat_le tile 99) path) all in
    let small : tile ≤ 99 = small_number tile 99 parts.0 in
    ap (option_and_then (λ tile. option_map (λ tiles. tile ∷ tiles) (tiles_to_end (map decimal path)))) (number_read 99 tile small (omega (arith, small)))
    ∙ ap (option_map (λ tiles. tile ∷ tiles)) (tiles_read path parts.1)

path_read : (path : List ℕ) → IsPath path → path_of (map decimal path) ≡ Some path
unfolding path_of
path_read path is = ap (option_and_then short_path) (tiles_read path is.0) ∙ ap (λ (b : Bool). cond b (Some path) None) (short (length path) is.1)
  where
    short : (n : ℕ) → n ≤ 48 → nat_le n 48 ≡ true
    short n few = grind (arith, nat_tests)

via_read : (via : Option (List ℕ)) → IsVia via → via_of (via_words via) ≡ Some via
unfolding via_of
via_read None is = refl
via_read (Some path) is = ap (option_map (λ path. Some path)) (path_read path is)

at_read : (at : Option ℕ) → IsAt at → at_of (at_words at) ≡ Some at
unfolding at_of
at_read None is = refl
at_read (Some tile) small =
    then_read _ (codes "at", decimal tile ∷ []) _ (next_read (exactly (codes "at")) (codes "at") (decimal tile ∷ []) (codes "at") refl)
    ∙ then_read _ (tile, []) _ (next_read (number_of 99) (decimal tile) [] tile (number_read 99 tile small (omega (arith, small)))) ∙ end_read (Some tile)

port_read : (name : Name) (position : ℕ) (via : Option (List ℕ)) → Named name → position ≤ 3 → IsVia via → port_of (name ∷ codes "at" ∷ decimal position ∷ via_words via) ≡ Some (name, position, via)
unfolding port_of
port_read name position via named small is =
    then_read _ (name, codes "at" ∷ decimal position ∷ via_words via) _ (next_read name_of name (codes "at" ∷ decimal position ∷ via_words via) name (name_read name named))
    ∙ then_read _ (codes "at", decimal position ∷ via_words via) _ (next_read (exactly (codes "at")) (codes "at") (decimal position ∷ via_words via) (codes "at") refl)
    ∙ then_read _ (position, via_words via) _ (next_read (number_of 3) (decimal position) (via_words via) position (number_read 3 position small (omega (arith, small))))
    ∙ then_read _ via _ (via_read via is)

channel_read : (name : Name) (via : Option (List ℕ)) → Named name → IsVia via → channel_of (name ∷ via_words via) ≡ Some (name, via)
unfolding channel_of
channel_read name via named is = then_read _ (name, via_words via) _ (next_read name_of name (via_words via) name (name_read name named)) ∙ then_read _ via _ (via_read via is)

process_read : (name : Name) (at : Option ℕ) → Named name → IsAt at → process_of (name ∷ at_words at) ≡ Some (name, at)
unfolding process_of
process_read name at named is = then_read _ (name, at_words at) _ (next_read name_of name (at_words at) name (name_read name named)) ∙ then_read _ at _ (at_read at is)

-- ---- tiles

kind_read : (kind : TileKind) → kind_of (kind_letter kind) ≡ Some kind
kind_read Compute = refl
kind_read Memory = refl
kind_read Damaged = refl

row_read : (row : List TileKind) → IsRow row → row_of (map kind_letter row) ≡ Some row
unfolding row_of
row_read row is =
    ap (λ (r : List TileKind). row_of (map kind_letter r)) is.all
    ∙ then_read _ is.first _ (kind_read is.first)
    ∙ then_read _ is.second _ (kind_read is.second)
    ∙ then_read _ is.third _ (kind_read is.third)
    ∙ then_read _ is.fourth _ (kind_read is.fourth)
    ∙ ap (λ (r : List TileKind). Some r) (sym is.all)

-- ---- statements

read_read : (name : Name) (var : Var) → Named name → name_and_var (name ∷ var_word var ∷ []) ≡ Some (name, var)
unfolding name_and_var
read_read name var named =
    then_read _ (name, var_word var ∷ []) _ (next_read name_of name (var_word var ∷ []) name (name_read name named)) ∙ then_read _ (var, []) _ (next_read var_of (var_word var) [] var (var_read var)) ∙ end_read (name, var)

both_read : (first second : Name) → Named first → Named second → two_names (first ∷ second ∷ []) ≡ Some (first, second)
unfolding two_names
both_read first second one two =
    then_read _ (first, second ∷ []) _ (next_read name_of first (second ∷ []) first (name_read first one)) ∙ then_read _ (second, []) _ (next_read name_of second [] second (name_read second two)) ∙ end_read (first, second)

held_read : (var : Var) (number : ℤ) → IsValue number → var_and_number (var_word var ∷ signed_decimal number ∷ []) ≡ Some (var, number)
unfolding var_and_number
held_read var number is =
    then_read _ (var, signed_decimal number ∷ []) _ (next_read var_of (var_word var) (signed_decimal number ∷ []) var (var_read var)) ∙ then_read _ (number, []) _ (next_read value_of (signed_decimal number) [] number (value_read number is)) ∙ end_read (var, number)

one_read : (var : Var) → one_var (var_word var ∷ []) ≡ Some var
unfolding one_var
one_read var = then_read _ (var, []) _ (next_read var_of (var_word var) [] var (var_read var)) ∙ end_read var

vars_read : (first second : Var) → two_vars (var_word first ∷ var_word second ∷ []) ≡ Some (first, second)
unfolding two_vars
vars_read first second =
    then_read _ (first, var_word second ∷ []) _ (next_read var_of (var_word first) (var_word second ∷ []) first (var_read first)) ∙ then_read _ (second, []) _ (next_read var_of (var_word second) [] second (var_read second)) ∙ end_read (first, second)

tested_read : (var : Var) (test : Test) → test_against_zero (var_word var ∷ test_word test ∷ codes "0" ∷ []) ≡ Some (var, test)
unfolding test_against_zero
tested_read var test =
    then_read _ (var, test_word test ∷ codes "0" ∷ []) _ (next_read var_of (var_word var) (test_word test ∷ codes "0" ∷ []) var (var_read var))
    ∙ then_read _ (test, codes "0" ∷ []) _ (next_read test_of (test_word test) (codes "0" ∷ []) test (test_read test))
    ∙ then_read _ (codes "0", []) _ (next_read (exactly (codes "0")) (codes "0") [] (codes "0") refl) ∙ end_read (var, test)

-- what is sent is read as a variable or, where it is none, as a number
put_var : (name : Name) (var : Var) → Named name → put_of (name ∷ var_word var ∷ []) ≡ Some (Put name var)
unfolding put_of
put_var name var named =
    then_read _ (name, var_word var ∷ []) _ (next_read name_of name (var_word var ∷ []) name (name_read name named))
    ∙ then_read _ (Put name var, []) _ (next_read (sent_on name) (var_word var) [] (Put name var) (ap (λ (v : Option Var). option_or (option_map (Put name) v) (option_map (PutNumber name) (value_of (var_word var)))) (var_read var))) ∙ end_read (Put name var)

-- digits are no variable
digits_differ : (word : List ℕ) (byte : ℕ) → list_all is_ascii_digit word ≡ true → 57 < byte → bytes_eq word (byte ∷ []) ≡ false
digits_differ [] byte all large = refl
digits_differ (first ∷ word) byte all large =
    let parts = and_parts (is_ascii_digit first) (list_all is_ascii_digit word) all in
    let small = digit_below first parts.0 in
    rw (ne_eqb first byte (λ e. omega arith)) refl
  where
    digit_below : (byte : ℕ) → is_ascii_digit byte ≡ true → byte ≤ 57
    digit_below byte is = grind (arith, nat_tests)

digits_no_var : (word : List ℕ) → list_all is_ascii_digit word ≡ true → var_of word ≡ None
digits_no_var word all =
    ap (λ (b : Bool). cond b (Some X) (cond (bytes_eq word (codes "y")) (Some Y) None)) (digits_differ word 120 all (omega arith))
    ∙ ap (λ (b : Bool). cond b (Some Y) None) (digits_differ word 121 all (omega arith))

value_no_var : (number : ℤ) → IsValue number → var_of (signed_decimal number) ≡ None
value_no_var (pos n) is = digits_no_var (decimal n) (decimal_is_numeral n (omega (arith, ints))).digits
value_no_var (negsuc n) is = refl

put_number : (name : Name) (number : ℤ) → Named name → IsValue number → put_of (name ∷ signed_decimal number ∷ []) ≡ Some (PutNumber name number)
unfolding put_of
put_number name number named is =
    then_read _ (name, signed_decimal number ∷ []) _ (next_read name_of name (signed_decimal number ∷ []) name (name_read name named))
    ∙ then_read _ (PutNumber name number, []) _ (next_read (sent_on name) (signed_decimal number) [] (PutNumber name number)
    (ap (λ (v : Option Var). option_or (option_map (Put name) v) (option_map (PutNumber name) (value_of (signed_decimal number)))) (value_no_var number is)
    ∙ ap (option_map (PutNumber name)) (value_read number is))) ∙ end_read (PutNumber name number)

-- ---- lines

rows_are : (first second third : List TileKind) → IsRow first → IsRow second → IsRow third → row_words 4 3 (first ++ second ++ third) ≡ map kind_letter first ∷ map kind_letter second ∷ map kind_letter third ∷ []
rows_are first second third one two three = rw (one.all, two.all, three.all) refl

rows_read : (first second third : List TileKind) → IsRow first → IsRow second → IsRow third → tiles_of (row_words 4 3 (first ++ second ++ third)) ≡ Some (record { shape = record { columns = 4; rows = 3 }; kinds = first ++ second ++ third })
unfolding tiles_of
rows_read first second third one two three =
    ap tiles_of (rows_are first second third one two three)
    ∙ then_read _ (first, map kind_letter second ∷ map kind_letter third ∷ []) _ (next_read row_of (map kind_letter first) (map kind_letter second ∷ map kind_letter third ∷ []) first (row_read first one))
    ∙ then_read _ (second, map kind_letter third ∷ []) _ (next_read row_of (map kind_letter second) (map kind_letter third ∷ []) second (row_read second two))
    ∙ then_read _ (third, []) _ (next_read row_of (map kind_letter third) [] third (row_read third three))
    ∙ end_read _

all_tiles_read : (tiles : Tiles) → AreRows tiles → tiles_of (row_words tiles.shape.columns tiles.shape.rows tiles.kinds) ≡ Some tiles
all_tiles_read tiles is =
    ap (λ (t : Tiles). tiles_of (row_words t.shape.columns t.shape.rows t.kinds)) is.all ∙ rows_read is.first is.second is.third is.first_row is.second_row is.third_row ∙ ap (λ (t : Tiles). Some t) (sym is.all)

-- what a statement without a block says
statement_read : (statement : Statement Name) → IsPlain statement → form_of (statement_line statement) ≡ forms.Simple statement
unfolding form_of keyword_of said statement_of at_end
statement_read (Get read var) is = ap (λ (r : Option (Name × Var)). unwrap_or (option_map forms.Simple (option_map (λ p. Get p.0 p.1) r)) forms.Malformed) (read_read read var is)
statement_read (GetAdd read var) is = ap (λ (r : Option (Name × Var)). unwrap_or (option_map forms.Simple (option_map (λ p. GetAdd p.0 p.1) r)) forms.Malformed) (read_read read var is)
statement_read (GetSub read var) is = ap (λ (r : Option (Name × Var)). unwrap_or (option_map forms.Simple (option_map (λ p. GetSub p.0 p.1) r)) forms.Malformed) (read_read read var is)
statement_read (Put written var) is = ap (λ (r : Option (Statement Name)). unwrap_or (option_map forms.Simple r) forms.Malformed) (put_var written var is)
statement_read (PutNumber written number) is = ap (λ (r : Option (Statement Name)). unwrap_or (option_map forms.Simple r) forms.Malformed) (put_number written number is.0 is.1)
statement_read (Move read written) is = ap (λ (r : Option (Name × Name)). unwrap_or (option_map forms.Simple (option_map (λ p. Move p.0 p.1) r)) forms.Malformed) (both_read read written is.0 is.1)
statement_read (Set var number) is = ap (λ (r : Option (Var × ℤ)). unwrap_or (option_map forms.Simple (option_map (λ p. Set p.0 p.1) r)) forms.Malformed) (held_read var number is)
statement_read (Add var number) is = ap (λ (r : Option (Var × ℤ)). unwrap_or (option_map forms.Simple (option_map (λ p. Add p.0 p.1) r)) forms.Malformed) (held_read var number is)
statement_read (Sub var number) is = ap (λ (r : Option (Var × ℤ)). unwrap_or (option_map forms.Simple (option_map (λ p. Sub p.0 p.1) r)) forms.Malformed) (held_read var number is)
statement_read (Neg var) is = ap (λ (r : Option Var). unwrap_or (option_map forms.Simple (option_map Neg r)) forms.Malformed) (one_read var)
statement_read (Double var) is = ap (λ (r : Option Var). unwrap_or (option_map forms.Simple (option_map Double r)) forms.Malformed) (one_read var)
statement_read (Copy to from) is = ap (λ (r : Option (Var × Var)). unwrap_or (option_map forms.Simple (option_map (λ p. Copy p.0 p.1) r)) forms.Malformed) (vars_read to from)
statement_read Swap is = refl
statement_read (If var test first second) is = absurd is
statement_read (While var test body) is = absurd is
statement_read (Count var body) is = absurd is

version_read : form_of (version_line 1) ≡ forms.Version
unfolding form_of keyword_of said version_of followed_by next_word at_end
version_read = ap (λ (w : List ℕ). form_of (codes "net" ∷ w ∷ [])) (decimal_digit 1 (omega arith))

-- what a line can say is what its words say
pub form_read : (form : LineForm) → IsPlainForm form → form_of (form_words form) ≡ form
unfolding form_of keyword_of said at_end
form_read forms.Version is = version_read
form_read (forms.TilesLine tiles) is = ap (λ (r : Option Tiles). unwrap_or (option_map forms.TilesLine r) forms.Malformed) (all_tiles_read tiles is)
form_read (forms.Input name position via) is = ap (λ (r : Option (Name × ℕ × Option (List ℕ))). unwrap_or (option_map (λ p. forms.Input p.0 p.1 p.2) r) forms.Malformed) (port_read name position via is.0 is.1 is.2)
form_read (forms.Output name position via) is = ap (λ (r : Option (Name × ℕ × Option (List ℕ))). unwrap_or (option_map (λ p. forms.Output p.0 p.1 p.2) r) forms.Malformed) (port_read name position via is.0 is.1 is.2)
form_read (forms.Channel name via) is = ap (λ (r : Option (Name × Option (List ℕ))). unwrap_or (option_map (λ p. forms.Channel p.0 p.1) r) forms.Malformed) (channel_read name via is.0 is.1)
form_read (forms.Process name at) is = ap (λ (r : Option (Name × Option ℕ)). unwrap_or (option_map (λ p. forms.Process p.0 p.1) r) forms.Malformed) (process_read name at is.0 is.1)
form_read (forms.Simple statement) is = statement_read statement is
form_read (forms.OpensIf var test) is = ap (λ (r : Option (Var × Test)). unwrap_or (option_map (λ p. forms.OpensIf p.0 p.1) r) forms.Malformed) (tested_read var test)
form_read (forms.OpensWhile var test) is = ap (λ (r : Option (Var × Test)). unwrap_or (option_map (λ p. forms.OpensWhile p.0 p.1) r) forms.Malformed) (tested_read var test)
form_read (forms.OpensCount var) is = ap (λ (r : Option Var). unwrap_or (option_map forms.OpensCount r) forms.Malformed) (one_read var)
form_read forms.Else is = refl
form_read forms.End is = refl
form_read forms.Malformed is = refl

-- ---- the words are plain

-- something is said
abbrev pub IsGood : LineForm → Type 0
IsGood forms.Malformed = ⊥
IsGood form = Unit {0}

name_byte_is_word : (byte : ℕ) → is_name_byte byte ≡ true → is_word_byte byte ≡ true
name_byte_is_word byte is =
    let large = above byte is in
    rw (ne_eqb byte 10 (λ e. omega arith), ne_eqb byte 13 (λ e. omega arith), ne_eqb byte 35 (λ e. omega arith), ne_eqb byte 32 (λ e. omega arith), ne_eqb byte 9 (λ e. omega arith)) refl
  where
    above : (byte : ℕ) → is_name_byte byte ≡ true → 48 ≤ byte
    above byte is = grind (arith, nat_tests)

name_bytes : (name : List ℕ) → list_all is_name_byte name ≡ true → list_all is_word_byte name ≡ true
name_bytes [] all = refl
name_bytes (byte ∷ bytes) all =
    let parts = and_parts (is_name_byte byte) (list_all is_name_byte bytes) all in
    and_from (is_word_byte byte) (list_all is_word_byte bytes) (name_byte_is_word byte parts.0) (name_bytes bytes parts.1)

-- a name
name_plain : (name : Name) → Named name → is_plain_word name ≡ true
name_plain [] named = absurd (false≢true named)
name_plain (byte ∷ bytes) named =
    let short = and_parts (begins_with_letter (byte ∷ bytes) && list_all is_name_byte (byte ∷ bytes)) (nat_le (length (byte ∷ bytes)) 16) named in
    let parts = and_parts (begins_with_letter (byte ∷ bytes)) (list_all is_name_byte (byte ∷ bytes)) short.0 in
    name_bytes (byte ∷ bytes) parts.1

var_plain : (var : Var) → is_plain_word (var_word var) ≡ true
var_plain X = refl
var_plain Y = refl

test_plain : (test : Test) → is_plain_word (test_word test) ≡ true
test_plain Zero = refl
test_plain NotZero = refl
test_plain Negative = refl
test_plain Positive = refl
test_plain NotPositive = refl
test_plain NotNegative = refl

path_plain : (path : List ℕ) → list_all (λ tile. nat_le tile 99) path ≡ true → list_all is_plain_word (map decimal path) ≡ true
path_plain [] all = refl
path_plain (tile ∷ path) all =
    let parts = and_parts (nat_le tile 99) (list_all (λ tile. nat_le tile 99) path) all in
    let small : tile ≤ 99 = small_number tile 99 parts.0 in
    and_from (is_plain_word (decimal tile)) (list_all is_plain_word (map decimal path)) (number_is_plain tile (omega (arith, small))) (path_plain path parts.1)

via_plain : (via : Option (List ℕ)) → IsVia via → list_all is_plain_word (via_words via) ≡ true
via_plain None is = refl
via_plain (Some path) is = path_plain path is.0

at_plain : (at : Option ℕ) → IsAt at → list_all is_plain_word (at_words at) ≡ true
at_plain None is = refl
at_plain (Some tile) small = and_from (is_plain_word (decimal tile)) true (number_is_plain tile (omega (arith, small))) refl

letter_plain : (kind : TileKind) → is_word_byte (kind_letter kind) ≡ true
letter_plain Compute = refl
letter_plain Memory = refl
letter_plain Damaged = refl

row_plain : (row : List TileKind) → IsRow row → is_plain_word (map kind_letter row) ≡ true
row_plain row is =
    ap (λ (r : List TileKind). is_plain_word (map kind_letter r)) is.all
    ∙ and_from (is_word_byte (kind_letter is.first)) _ (letter_plain is.first) (and_from (is_word_byte (kind_letter is.second)) _ (letter_plain is.second) (and_from (is_word_byte (kind_letter is.third)) _ (letter_plain is.third) (and_from (is_word_byte (kind_letter is.fourth)) true (letter_plain is.fourth) refl)))

-- two words, and three
two_plain : (first second : List ℕ) → is_plain_word first ≡ true → is_plain_word second ≡ true → list_all is_plain_word (first ∷ second ∷ []) ≡ true
two_plain first second one two = and_from (is_plain_word first) (is_plain_word second && true) one (and_from (is_plain_word second) true two refl)

one_plain : (first : List ℕ) → is_plain_word first ≡ true → list_all is_plain_word (first ∷ []) ≡ true
one_plain first one = and_from (is_plain_word first) true one refl

statement_filled : (statement : Statement Name) → IsPlain statement → is_filled_line (statement_line statement) ≡ true
statement_filled (Get read var) is = two_plain read (var_word var) (name_plain read is) (var_plain var)
statement_filled (GetAdd read var) is = two_plain read (var_word var) (name_plain read is) (var_plain var)
statement_filled (GetSub read var) is = two_plain read (var_word var) (name_plain read is) (var_plain var)
statement_filled (Put written var) is = two_plain written (var_word var) (name_plain written is) (var_plain var)
statement_filled (PutNumber written number) is = two_plain written (signed_decimal number) (name_plain written is.0) (value_is_plain number is.1)
statement_filled (Move read written) is = two_plain read written (name_plain read is.0) (name_plain written is.1)
statement_filled (Set var number) is = two_plain (var_word var) (signed_decimal number) (var_plain var) (value_is_plain number is)
statement_filled (Add var number) is = two_plain (var_word var) (signed_decimal number) (var_plain var) (value_is_plain number is)
statement_filled (Sub var number) is = two_plain (var_word var) (signed_decimal number) (var_plain var) (value_is_plain number is)
statement_filled (Neg var) is = one_plain (var_word var) (var_plain var)
statement_filled (Double var) is = one_plain (var_word var) (var_plain var)
statement_filled (Copy to from) is = two_plain (var_word to) (var_word from) (var_plain to) (var_plain from)
statement_filled Swap is = refl
statement_filled (If var test first second) is = absurd is
statement_filled (While var test body) is = absurd is
statement_filled (Count var body) is = absurd is

tiles_filled : (tiles : Tiles) → AreRows tiles → is_filled_line (tiles_line tiles) ≡ true
tiles_filled tiles is =
    ap (λ (t : Tiles). is_filled_line (tiles_line t)) is.all ∙ ap (λ (words : Words). is_filled_line (codes "tiles" ∷ words)) (rows_are is.first is.second is.third is.first_row is.second_row is.third_row)
    ∙ and_from (is_plain_word (map kind_letter is.first)) _ (row_plain is.first is.first_row) (two_plain (map kind_letter is.second) (map kind_letter is.third) (row_plain is.second is.second_row) (row_plain is.third is.third_row))

port_filled : (name : Name) (position : ℕ) (via : Option (List ℕ)) → Named name → position ≤ 3 → IsVia via → list_all is_plain_word (name ∷ codes "at" ∷ decimal position ∷ via_words via) ≡ true
port_filled name position via named small is =
    and_from (is_plain_word name) _ (name_plain name named) (and_from (is_plain_word (decimal position)) (list_all is_plain_word (via_words via)) (number_is_plain position (omega (arith, small))) (via_plain via is))

tested_filled : (var : Var) (test : Test) → list_all is_plain_word (var_word var ∷ test_word test ∷ codes "0" ∷ []) ≡ true
tested_filled var test = and_from (is_plain_word (var_word var)) _ (var_plain var) (two_plain (test_word test) (codes "0") (test_plain test) refl)

-- what a line can say has plain words, and not none
pub form_filled : (form : LineForm) → IsGood form → IsPlainForm form → is_filled_line (form_words form) ≡ true
form_filled forms.Version good is = one_plain (decimal 1) (number_is_plain 1 (omega arith))
form_filled (forms.TilesLine tiles) good is = tiles_filled tiles is
form_filled (forms.Input name position via) good is = port_filled name position via is.0 is.1 is.2
form_filled (forms.Output name position via) good is = port_filled name position via is.0 is.1 is.2
form_filled (forms.Channel name via) good is = and_from (is_plain_word name) (list_all is_plain_word (via_words via)) (name_plain name is.0) (via_plain via is.1)
form_filled (forms.Process name at) good is = and_from (is_plain_word name) (list_all is_plain_word (at_words at)) (name_plain name is.0) (at_plain at is.1)
form_filled (forms.Simple statement) good is = statement_filled statement is
form_filled (forms.OpensIf var test) good is = tested_filled var test
form_filled (forms.OpensWhile var test) good is = tested_filled var test
form_filled (forms.OpensCount var) good is = one_plain (var_word var) (var_plain var)
form_filled forms.Else good is = refl
form_filled forms.End good is = refl
form_filled forms.Malformed good is = absurd good
