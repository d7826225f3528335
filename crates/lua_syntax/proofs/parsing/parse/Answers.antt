use Rattle.std.proofs.Common.{List, ◌∷◌, ap, ◌∙◌}
use Rattle.std.proofs.lemmas.Result.{err_from_is_err_and}
use Rattle.lua_grammar.specs.declared.symbol.Symbol.{Symbol}
use Rattle.lua_grammar.specs.declared.symbol.Symbol.TheVariants as s
use Rattle.lua_syntax.specs.Refusal.{plain_answer}
use Rattle.lua_syntax.proofs.Wholes.{whole, whole_fails}
use Rattle.lua_syntax.proofs.parsing.parse.Goals as goal

pub returns-clause-plain : goal.returns-clause-plain
returns-clause-plain c =
    rw c.new-2.ensures (ap plain_answer (whole _ _ _ _ _ _ _ _ _ (c.in_ok-push.ensures ∙ ap (λ (rest : List Symbol). s.Chunk ∷ rest) c.new-stack.ensures)
    c.new-parts.ensures c.new.ensures c.last_line.ensures c.in_ok-feed_all.ensures.ok c.in_ok-feed_token.ensures.ok))

pub returns-clause-tree : goal.returns-clause-tree
returns-clause-tree c =
    rw c.new-2.ensures (whole _ _ _ _ _ _ _ _ _ (c.in_ok-push.ensures ∙ ap (λ (rest : List Symbol). s.Chunk ∷ rest) c.new-stack.ensures)
    c.new-parts.ensures c.new.ensures c.last_line.ensures c.in_ok-feed_all.ensures.ok c.in_ok-feed_token.ensures.ok)

pub returns-in_err-feed_token-clause-refused : goal.returns-in_err-feed_token-clause-refused
returns-in_err-feed_token-clause-refused c =
    let p = err_from_is_err_and c.from_residual-in_err-feed_token.result c.from_residual-in_err-feed_token.ensures.1 in
    rw (p.1, p.2) (whole_fails _ _ _ _ _ _ _ _ (c.in_ok-push.ensures ∙ ap (λ (rest : List Symbol). s.Chunk ∷ rest) c.new-stack.ensures)
    c.new-parts.ensures c.new.ensures c.last_line.ensures c.in_ok-feed_all.ensures.ok c.in_err-feed_token.ensures.err)
