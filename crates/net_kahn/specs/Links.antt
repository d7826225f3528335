-- A link as one process sees it: what it has still to read, what it has sent, and what stood there before.
use Rattle.std.specs.Prelude.{◌≡◌, ℕ, ◌≤◌, ℤ, List, [], ◌∷◌, ◌++◌, length, take, drop, All, Option, Some, None, ◌==◌, if◌then◌else◌}
use Rattle.std.specs.Borrow.{Bor}
use Rattle.tis_base.specs.Saturation.{IsValue}
use Rattle.tis_base.specs.Values.{Values}
use Rattle.net_kahn.specs.declared.link.Link.{Link}

-- the values that come in, where any do
abbrev pub given_in : Option (Bor Values) → List ℤ
given_in None = []
given_in (Some values) = values.now.items

abbrev pub given_of : Link → List ℤ
given_of link = given_in link.given

-- all values under a name: those that come in, and then those that were sent
abbrev pub list_of : Link → List ℤ
list_of link = given_of link ++ link.sent.items

-- what a process has still to read of a link: all of it, before it has used it
abbrev pub unread_in : ℕ → Link → List ℤ
unread_in process link = if link.user == process then drop link.taken (given_of link) ++ drop link.next (take link.limit link.sent.items) else list_of link

-- what a process has sent on a link
abbrev pub sent_in : ℕ → Link → List ℤ
sent_in process link = if link.user == process then drop link.limit link.sent.items else []

-- what stood on a link before the process used it
abbrev pub before_in : ℕ → Link → List ℤ
before_in process link = if link.user == process then given_of link ++ take link.limit link.sent.items else list_of link

-- a link that no later process has used, whose values are values of the machine
pub record IsLink (process : ℕ) (link : Link) : Type 0 where
  pub user : link.user ≤ process
  pub within : link.limit ≤ length link.sent.items
  pub given : All IsValue (given_of link)
  pub sent : All IsValue link.sent.items

-- the process sees the same
pub record IsSameLink (process : ℕ) (old new : Link) : Type 0 where
  pub link : IsLink process new
  pub unread : unread_in process new ≡ unread_in process old
  pub sent : sent_in process new ≡ sent_in process old
  pub before : before_in process new ≡ before_in process old
  pub given : given_of new ≡ given_of old

-- the process reads a value: the first that was left, or none
abbrev pub IsFirst : List ℤ → Option ℤ → List ℤ → Type 0
IsFirst old None new = (old ≡ []) × (new ≡ [])
IsFirst old (Some value) new = old ≡ value ∷ new

pub record ReadsLink (process : ℕ) (old : Link) (value : Option ℤ) (new : Link) : Type 0 where
  pub link : IsLink process new
  pub unread : IsFirst (unread_in process old) value (unread_in process new)
  pub sent : sent_in process new ≡ sent_in process old
  pub before : before_in process new ≡ before_in process old
  pub given : given_of new ≡ given_of old

-- the process sends a value
pub record SendsLink (process : ℕ) (old : Link) (value : ℤ) (new : Link) : Type 0 where
  pub link : IsLink process new
  pub unread : unread_in process new ≡ unread_in process old
  pub sent : sent_in process new ≡ sent_in process old ++ value ∷ []
  pub before : before_in process new ≡ before_in process old
  pub given : given_of new ≡ given_of old
