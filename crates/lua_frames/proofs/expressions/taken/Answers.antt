use Rattle.std.proofs.Common.{◌≡◌, ◌∙◌, w64, to_z, of_z, arith}
use Rattle.std.proofs.lemmas.Int.{ints, to_z-of_z}
use Rattle.lua_frames.proofs.Numerals.{is_given}
use Rattle.lua_frames.proofs.expressions.taken.Goals as goal

pub returns-in-Some : goal.returns-in-Some
returns-in-Some c =
    let same : to_z w64 (of_z w64 c.args.value) ≡ c.args.value = grind (arith, ints, to_z-of_z) in
    is_given c.in-Some.number _ (c.in-Some.ensures 0) ∙ same
