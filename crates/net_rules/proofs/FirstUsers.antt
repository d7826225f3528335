-- The first user of each name.
use Rattle.std.proofs.Common.{◌≡◌, ◌<◌, ◌≤◌, ℕ, ◌+◌, Bool, true, false, cond, List, length, map, drop, get_or, Option, Some, None, refl, sym, ap, ◌∙◌}
use Rattle.std.specs.Option.{option_or}
use Rattle.std.proofs.lemmas.List.{drop_more, drop_all}
use Rattle.net_tree.specs.Tree.{Name}
use Rattle.net_rules.specs.declared.statements.Use as held
use Rattle.net_rules.specs.Rules.{is_name}
use Rattle.net_rules.specs.Tables.{Table, value_of}
use Rattle.net_rules.specs.Found.{Use, use_view}
use Rattle.net_rules.specs.Known.{first_user}

pub chosen : (old : Option ℕ) (test : Bool) (user : ℕ) (rest : Option ℕ) → option_or old (cond test (Some user) rest) ≡ option_or (option_or old (cond test (Some user) None)) rest
chosen (Some n) test user rest = refl
chosen None true user rest = refl
chosen None false user rest = refl

pub nothing_behind : (one : Option ℕ) → option_or one None ≡ one
nothing_behind (Some n) = refl
nothing_behind None = refl

-- one more statement was looked at
pub first_more : (use_of : Use → Option Name) (uses : List held.Use) (index : ℕ) (item : held.Use) (old new : Table) (name : Name) (whole : Option ℕ) → whole ≡ option_or (value_of old name) (first_user use_of (map use_view (drop index uses)) name) → index < length uses → item ≡ get_or uses index item →
    value_of new name ≡ option_or (value_of old name) (cond (is_name name (use_of (use_view item))) (Some item.process) None) → whole ≡ option_or (value_of new name) (first_user use_of (map use_view (drop (index + 1) uses)) name)
first_more use_of uses index item old new name whole so within is noted =
    let rest : Option ℕ = first_user use_of (map use_view (drop (index + 1) uses)) name in
    so ∙ ap (λ l. option_or (value_of old name) (first_user use_of (map use_view l) name)) (drop_more uses index item within)
    ∙ ap (λ x. option_or (value_of old name) (cond (is_name name (use_of (use_view x))) (Some x.process) rest)) (sym is)
    ∙ chosen (value_of old name) (is_name name (use_of (use_view item))) item.process rest
    ∙ ap (λ o. option_or o rest) (sym noted)

-- all were looked at
pub first_all : (use_of : Use → Option Name) (uses : List held.Use) (index : ℕ) (table : Table) (name : Name) (whole : Option ℕ) → whole ≡ option_or (value_of table name) (first_user use_of (map use_view (drop index uses)) name) → length uses ≤ index → value_of table name ≡ whole
first_all use_of uses index table name whole so past = sym (so ∙ ap (λ l. option_or (value_of table name) (first_user use_of (map use_view l) name)) (drop_all index uses past) ∙ nothing_behind (value_of table name))
