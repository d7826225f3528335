-- What is kept of each output, so that nothing is compared twice.
use Rattle.std.specs.Prelude.{◌≡◌, ℕ, ◌+◌, ◌≤◌, ◌<◌, ℤ, pos, List, [], ◌∷◌, length, take, Option, Some, None, get_or, if◌then◌else◌}
use Rattle.std.specs.Ordering.{int_eq}
use Rattle.tis_base.specs.Prefix.{IsPrefixOf}
use Rattle.tis_devices.specs.Picture.{picture}
use Rattle.tis_grid.specs.declared.puzzle.OutKind.TheVariants as kind
use Rattle.tis_grid.specs.Puzzle.{Output}
use Rattle.tis_grid.specs.State.{State, outs}
use Rattle.tis_grade.specs.declared.follow.Follow.{Follow}
use Rattle.tis_grade.specs.declared.follow.Follow.TheVariants.{Stream, Image}
use Rattle.tis_grade.specs.Verdict.{output_at}

-- ---- how many points of a picture aren't as wanted

-- 1 where another colour is wanted in a place, and else 0
abbrev pub differs : Option ℤ → ℕ → ℕ
differs None colour = 0
differs (Some want) colour = if int_eq want (pos colour) then 0 else 1

-- how many colours are others than those wanted in their places
abbrev pub differences : List ℤ → List ℕ → ℕ
differences [] colours = 0
differences (want ∷ wanted) [] = 0
differences (want ∷ wanted) (colour ∷ colours) = differs (Some want) colour + differences wanted colours

-- ---- one output

-- all values of a stream so far are those wanted in their places; a drawing shows the picture of the values so far, of which so many points are others than wanted
abbrev pub IsFollowed : Output → List ℤ → Follow → Type 0
IsFollowed output taken (Stream seen) = (output.kind ≡ kind.Stream) × (seen ≡ length taken) × IsPrefixOf taken output.expected
IsFollowed output taken (Image seen console differing) =
    (output.kind ≡ kind.Image) × (seen ≡ length taken) × (console ≡ picture taken) × (differing ≡ differences output.expected (picture taken).colours)

-- how many values were looked at
abbrev pub seen_of : Follow → ℕ
seen_of (Stream seen) = seen
seen_of (Image seen console differing) = seen

-- the same of the first values, those that were looked at
abbrev pub IsBehind : Output → List ℤ → Follow → Type 0
IsBehind output taken follow = (seen_of follow ≤ length taken) × IsFollowed output (take (seen_of follow) taken) follow

-- ---- by position

-- it is kept where an output stands, and holds of it
abbrev pub HoldsAt : (Output → List ℤ → Follow → Type 0) → Option Output → List ℤ → Option Follow → Type 0
HoldsAt holds None taken None = Unit {0}
HoldsAt holds None taken (Some follow) = ⊥
HoldsAt holds (Some output) taken None = ⊥
HoldsAt holds (Some output) taken (Some follow) = holds output taken follow

-- each value that the output at a position has taken was looked at
abbrev pub IsFollowedAt : List Output → State → ℕ → Option Follow → Type 0
IsFollowedAt outputs state position follow = HoldsAt IsFollowed (output_at outputs position) (outs state position) follow

-- some of them were, from the first on
abbrev pub IsBehindAt : List Output → State → ℕ → Option Follow → Type 0
IsBehindAt outputs state position follow = HoldsAt IsBehind (output_at outputs position) (outs state position) follow

-- at each position below the columns
abbrev pub AreFollowed : List Output → State → List (Option Follow) → Type 0
AreFollowed outputs state follows = (position : ℕ) → position < 4 → IsFollowedAt outputs state position (get_or follows position None)

abbrev pub AreBehind : List Output → State → List (Option Follow) → Type 0
AreBehind outputs state follows = (position : ℕ) → position < 4 → IsBehindAt outputs state position (get_or follows position None)

-- each value that an output has taken was looked at
abbrev pub IsFollowedIn : State → List (Option Follow) → Output → Type 0
IsFollowedIn state follows output = HoldsAt IsFollowed (Some output) (outs state output.position) (get_or follows output.position None)
