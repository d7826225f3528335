-- What the tables say of the declarations before, one declaration after the other.
use Rattle.std.proofs.Common.{◌≡◌, Bool, false, List, [], ◌∷◌, Option, Some, None, refl, sym, ap, subst, ◌∙◌}
use Rattle.std.specs.Prelude.{◌||◌, ◌&&◌, not, Result}
use Rattle.std.specs.List.{list_any}
use Rattle.std.specs.Option.{option_or}
use Rattle.std.specs.Str.{bytes_eq}
use Rattle.net_tree.specs.Tree.{Name}
use Rattle.net_rules.specs.declared.error.RuleError.{RuleError}
use Rattle.net_rules.specs.declared.error.RuleError.TheVariants as errors
use Rattle.net_rules.specs.Broken.{IsBroken, Keeps}
use Rattle.net_rules.specs.Rules.{BrokenRule, Repeated, SamePlace, broken_where, Kind, Input, Channel, Output, Process, Declaration, is_process, share_names, share_place, declaration_fault}
use Rattle.net_rules.specs.Tables.{Table}
use Rattle.net_rules.specs.Known.{has, KnowsDeclared}
use Rattle.net_rules.proofs.Tables.{exchanged}

-- ---- rules one after the other

pub nothing_more : (one : Option BrokenRule) → option_or one None ≡ one
nothing_more None = refl
nothing_more (Some rule) = refl

-- what an error says of a rule, it says of that rule and those behind it
pub broken_first : (error : RuleError) (one others : Option BrokenRule) → IsBroken error one → IsBroken error (option_or one others)
broken_first (errors.Unknown line) one others is = ap (λ o. option_or o others) is
broken_first (errors.Repeated line) one others is = ap (λ o. option_or o others) is
broken_first (errors.SamePlace line) one others is = ap (λ o. option_or o others) is
broken_first (errors.ReadTwice line) one others is = ap (λ o. option_or o others) is
broken_first (errors.WrittenTwice line) one others is = ap (λ o. option_or o others) is
broken_first (errors.CounterChanged line) one others is = ap (λ o. option_or o others) is
broken_first (errors.Unread line) one others is = ap (λ o. option_or o others) is
broken_first (errors.Unwritten line) one others is = ap (λ o. option_or o others) is
broken_first (errors.ReadBeforeWritten line) one others is = ap (λ o. option_or o others) is
broken_first (errors.NoSureRead process) one others is = ap (λ o. option_or o others) is
broken_first (errors.LoopWithoutRead line) one others is = ap (λ o. option_or o others) is
broken_first (errors.JoinAfterSplit process) one others is = ap (λ o. option_or o others) is
broken_first errors.NoMemory one others is = tt

-- behind a rule that isn't broken stands what the others say
pub behind_kept : (one others : Option BrokenRule) → one ≡ None → option_or one others ≡ others
behind_kept one others is = ap (λ o. option_or o others) is

-- a call says of one thing what it says of an equal one
pub keeps_as : (result : Result (Unit {0}) RuleError) (one other : Option BrokenRule) → other ≡ one → Keeps result one → Keeps result other
keeps_as result one other same = subst (Keeps result) (sym same)

pub any_same : {X : Type 0} (one other : X → Bool) (xs : List X) → ((x : X) → one x ≡ other x) → list_any one xs ≡ list_any other xs
any_same one other [] same = refl
any_same one other (x ∷ xs) same = ap (λ b. b || list_any one xs) (same x) ∙ ap (λ b. other x || b) (any_same one other xs same)

pub none_of : {X : Type 0} (test : X → Bool) (xs : List X) → ((x : X) → test x ≡ false) → list_any test xs ≡ false
none_of test [] fails = refl
none_of test (x ∷ xs) fails = ap (λ b. b || list_any test xs) (fails x) ∙ none_of test xs fails

-- ---- names

shares_plain : (a : Kind) → share_names a Channel ≡ not (is_process a)
shares_plain (Input p) = refl
shares_plain Channel = refl
shares_plain (Output p) = refl
shares_plain Process = refl

shares_process : (a : Kind) → share_names a Process ≡ is_process a
shares_process (Input p) = refl
shares_process Channel = refl
shares_process (Output p) = refl
shares_process Process = refl

no_place_channel : (a : Kind) → share_place a Channel ≡ false
no_place_channel (Input p) = refl
no_place_channel Channel = refl
no_place_channel (Output p) = refl
no_place_channel Process = refl

no_place_process : (a : Kind) → share_place a Process ≡ false
no_place_process (Input p) = refl
no_place_process Channel = refl
no_place_process (Output p) = refl
no_place_process Process = refl

module _ (named running : Table) (ins outs : List Bool) (earlier : List Declaration) (knows : KnowsDeclared named running ins outs earlier) (d : Declaration) where
  -- a channel
  pub channel_fault : d.kind ≡ Channel → declaration_fault earlier d ≡ broken_where (has named d.name) (Repeated d.line)
  channel_fault is =
      ap (λ b. option_or (broken_where b (Repeated d.line)) (broken_where (list_any (λ other. share_place other.kind d.kind) earlier) (SamePlace d.line)))
      (any_same (λ other. share_names other.kind d.kind && bytes_eq other.name d.name) (λ other. not (is_process other.kind) && bytes_eq other.name d.name) earlier (λ other. ap (λ b. b && bytes_eq other.name d.name) (ap (share_names other.kind) is ∙ shares_plain other.kind)) ∙ sym (knows.names d.name))
      ∙ ap (λ b. option_or (broken_where (has named d.name) (Repeated d.line)) (broken_where b (SamePlace d.line))) (none_of (λ other. share_place other.kind d.kind) earlier (λ other. ap (share_place other.kind) is ∙ no_place_channel other.kind))
      ∙ nothing_more _

  pub channel_known : d.kind ≡ Channel → (new : Table) → ((name : Name) → has new name ≡ (bytes_eq name d.name || has named name)) → KnowsDeclared new running ins outs (d ∷ earlier)
  channel_known is new taken =
      record {
        names = λ name. taken name ∙ ap (λ b. b || has named name) (exchanged name d.name) ∙ ap (λ b. bytes_eq d.name name || b) (knows.names name) ∙ ap (λ k. (not (is_process k) && bytes_eq d.name name) || list_any (λ other. not (is_process other.kind) && bytes_eq other.name name) earlier) (sym is);
        processes = λ name. knows.processes name ∙ ap (λ k. (is_process k && bytes_eq d.name name) || list_any (λ other. is_process other.kind && bytes_eq other.name name) earlier) (sym is);
        inputs = λ position below. knows.inputs position below ∙ ap (λ k. share_place k (Input position) || list_any (λ other. share_place other.kind (Input position)) earlier) (sym is);
        outputs = λ position below. knows.outputs position below ∙ ap (λ k. share_place k (Output position) || list_any (λ other. share_place other.kind (Output position)) earlier) (sym is);
      }

  -- a process
  pub process_fault : d.kind ≡ Process → declaration_fault earlier d ≡ broken_where (has running d.name) (Repeated d.line)
  process_fault is =
      ap (λ b. option_or (broken_where b (Repeated d.line)) (broken_where (list_any (λ other. share_place other.kind d.kind) earlier) (SamePlace d.line)))
      (any_same (λ other. share_names other.kind d.kind && bytes_eq other.name d.name) (λ other. is_process other.kind && bytes_eq other.name d.name) earlier (λ other. ap (λ b. b && bytes_eq other.name d.name) (ap (share_names other.kind) is ∙ shares_process other.kind)) ∙ sym (knows.processes d.name))
      ∙ ap (λ b. option_or (broken_where (has running d.name) (Repeated d.line)) (broken_where b (SamePlace d.line))) (none_of (λ other. share_place other.kind d.kind) earlier (λ other. ap (share_place other.kind) is ∙ no_place_process other.kind))
      ∙ nothing_more _

  pub process_known : d.kind ≡ Process → (new : Table) → ((name : Name) → has new name ≡ (bytes_eq name d.name || has running name)) → KnowsDeclared named new ins outs (d ∷ earlier)
  process_known is new taken =
      record {
        names = λ name. knows.names name ∙ ap (λ k. (not (is_process k) && bytes_eq d.name name) || list_any (λ other. not (is_process other.kind) && bytes_eq other.name name) earlier) (sym is);
        processes = λ name. taken name ∙ ap (λ b. b || has running name) (exchanged name d.name) ∙ ap (λ b. bytes_eq d.name name || b) (knows.processes name) ∙ ap (λ k. (is_process k && bytes_eq d.name name) || list_any (λ other. is_process other.kind && bytes_eq other.name name) earlier) (sym is);
        inputs = λ position below. knows.inputs position below ∙ ap (λ k. share_place k (Input position) || list_any (λ other. share_place other.kind (Input position)) earlier) (sym is);
        outputs = λ position below. knows.outputs position below ∙ ap (λ k. share_place k (Output position) || list_any (λ other. share_place other.kind (Output position)) earlier) (sym is);
      }
