use Rattle.std.proofs.Common.{length}
use Rattle.tis_words.proofs.letters.+is_in_either_case.Given as goal

abbrev pub decreases-is_in_either_case : goal.decreases-is_in_either_case
decreases-is_in_either_case l = length l.word.now
