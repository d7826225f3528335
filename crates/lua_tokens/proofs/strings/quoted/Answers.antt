use Rattle.std.proofs.Common.{ap, ◌∙◌, arith}
use Rattle.lua_tokens.specs.Tokens.{escape}
use Rattle.lua_tokens.proofs.StringReading.{before-nothing, at_end, at_closed, at_open, at_plain, at_no_escape, at_meant}
use Rattle.lua_tokens.proofs.strings.quoted.Goals as goal

pub loop-at-init : goal.loop-at-init
loop-at-init c = (rw c.new-text.ensures (before-nothing _), omega arith)

pub returns-then-b-quote-clause-value : goal.returns-then-b-quote-clause-value
returns-then-b-quote-clause-value c = at_closed _ _ _ _ c.loop-at-test.true c.if-b-quote.true c.loop-at.invariant.0

pub returns-then-b-eq10-clause-value : goal.returns-then-b-eq10-clause-value
returns-then-b-eq10-clause-value c = at_open _ _ _ _ c.loop-at-test.true c.if-b-quote.false c.if-b-eq10.true c.loop-at.invariant.0

pub returns-in_default-clause-value : goal.returns-in_default-clause-value
returns-in_default-clause-value c = at_no_escape _ _ _ _ c.loop-at-test.true c.if-b-quote.false c.if-b-eq92.true (c.in_default.ensures.value ∙ ap escape c.byte.ensures.value) c.loop-at.invariant.0

pub loop-at-preserved-then-b-eq92 : goal.loop-at-preserved-then-b-eq92
loop-at-preserved-then-b-eq92 c =
    (rw c.in_ok-push.ensures (at_meant _ _ _ _ _ c.loop-at-test.true c.if-b-quote.false c.if-b-eq92.true (c.in-Some.ensures.value ∙ ap escape c.byte.ensures.value) c.loop-at.invariant.0), omega (arith, c.byte.ensures.within c.in-Some.ensures.some))

pub loop-at-preserved : goal.loop-at-preserved
loop-at-preserved c = (rw c.in_ok-push-2.ensures (at_plain _ _ _ _ c.loop-at-test.true c.if-b-quote.false c.if-b-eq10.false c.if-b-eq92.false c.loop-at.invariant.0), omega arith)

pub returns-clause-value : goal.returns-clause-value
returns-clause-value c = at_end _ _ _ _ c.loop-at-test.false c.loop-at.invariant.0
