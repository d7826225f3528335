use Rattle.std.proofs.Common.{◌≡◌, pos, ◌+ℤ◌, ◌-ℤ◌, ◌*◌, ◌/◌, ◌^◌, nat_abs, ap, ◌∙◌, arith, to_z, of_z, w64}
use Rattle.std.proofs.lemmas.Int.{ints}
use Rattle.lua_numbers.proofs.number.LuaNumber.choose.Goals as goal

pub returns : goal.returns
returns c =
    let count : c.unsigned_abs-count.result ≡ nat_abs ((c.args.last -ℤ c.args.self) +ℤ pos 1) = omega (arith, ints) in
    let sum : to_z w64 (of_z w64 (to_z w64 (of_z w64 c.get-3.result) +ℤ to_z w64 c.share.result)) ≡ c.args.self +ℤ pos c.share.result = omega (arith, ints) in
    let moved : c.share.result ≡ c.args.word * nat_abs ((c.args.last -ℤ c.args.self) +ℤ pos 1) / 2 ^ 32 = c.share.ensures.exact ∙ ap (λ n. c.args.word * n / 2 ^ 32) count in
    let last : c.args.self +ℤ pos c.share.result ≡ c.args.self +ℤ pos (c.args.word * nat_abs ((c.args.last -ℤ c.args.self) +ℤ pos 1) / 2 ^ 32) = ap (λ n. c.args.self +ℤ pos n) moved in
    sum ∙ last
