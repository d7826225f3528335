-- The tiles so far and those of the words that are left are those of all words.
use Rattle.std.proofs.Common.{◌≡◌, ◌≤◌, length}
use Rattle.net_syntax.specs.Forms.{path_of}
use Rattle.net_syntax.proofs.Paths.{path_behind}
use Rattle.net_syntax.proofs.links.path_of.Given as goal

abbrev pub invariant-tiles : goal.invariant-tiles
invariant-tiles l = record { short : length l.path ≤ 48; same : path_of l.initial.words ≡ path_behind l.path l.words }

abbrev pub decreases-tiles : goal.decreases-tiles
decreases-tiles l = length l.words
