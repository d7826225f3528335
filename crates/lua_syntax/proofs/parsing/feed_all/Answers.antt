use Rattle.std.proofs.Common.{◌≡◌, ℕ, List, ◌+◌, ◌-◌, ◌<◌, ◌≤◌, length, take, ap, ◌∙◌, arith, length-drop}
use Rattle.std.proofs.lemmas.Result.{err_from_is_err_and}
use Rattle.std.proofs.lemmas.Grind.{common_steps}
use Rattle.lua_tokens.specs.Tokens.{piece}
use Rattle.lua_syntax.proofs.Places.{reaches_on, reaches_fails}
use Rattle.lua_syntax.proofs.parsing.feed_all.Goals as goal

fits : {len rest all at : ℕ} → rest ≡ all - at → len ≤ rest → at < all → at + len ≤ all
fits e w t = omega arith

both : {ends front len passed at : ℕ} → ends ≤ front → front ≤ len → passed ≤ at → passed + ends ≤ at + len
both w f p = omega arith

length-take-le : (n : ℕ) (z : List ℕ) → length (take n z) ≤ n
length-take-le n z = grind (arith, common_steps)

pub returns-in_err-feed-clause-err : goal.returns-in_err-feed-clause-err
returns-in_err-feed-clause-err c =
    let p = err_from_is_err_and c.from_residual-in_err-feed.result c.from_residual-in_err-feed.ensures.1 in
    rw (p.1, p.2) (reaches_fails _ _ _ _ _ _ _ _ _ c.loop-at-test.true (c.in_ok-piece.ensures.value ∙ ap piece c.behind-rest.ensures) c.in_ok-piece.ensures.some c.loop-at.invariant.0 c.in_err-feed.ensures.err)

pub loop-at-preserved : goal.loop-at-preserved
loop-at-preserved c = (
  rw (c.line_ends-passed.ensures.value, c.front.ensures, c.behind-rest.ensures) (reaches_on _ _ _ _ _ _ _ _ _ _ c.loop-at-test.true (c.in_ok-piece.ensures.value ∙ ap piece c.behind-rest.ensures) c.in_ok-piece.ensures.some c.loop-at.invariant.0 c.in_ok-feed.ensures.ok),
  (let e : length c.behind-rest.result.now ≡ length c.args.bytes.now - c.loop-at.at = ap length c.behind-rest.ensures ∙ length-drop c.loop-at.at c.args.bytes.now in
      let w : c.in_ok-piece.piece.len ≤ length c.behind-rest.result.now = c.in_ok-piece.ensures.within in
      let t : c.loop-at.at < length c.args.bytes.now = c.loop-at-test.true in fits e w t),
  (let f : length c.front.result.now ≤ c.in_ok-piece.piece.len = rw c.front.ensures (length-take-le c.in_ok-piece.piece.len c.behind-rest.result.now) in
      let w : c.line_ends-passed.result ≤ length c.front.result.now = c.line_ends-passed.ensures.within in
      let p : c.loop-at.passed ≤ c.loop-at.at = c.loop-at.invariant.2 in both w f p),
)
