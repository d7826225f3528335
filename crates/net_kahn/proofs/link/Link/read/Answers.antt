use Rattle.std.proofs.Common.{◌≡◌, [], drop, ap, ◌∙◌}
use Rattle.std.specs.Prelude.{slice_get}
use Rattle.net_kahn.specs.Links.{given_in, given_of}
use Rattle.net_kahn.proofs.LinkReads.{read_given, read_sent, all_taken, none_taken}
use Rattle.net_kahn.proofs.link.Link.read.Goals.{in-Some+else-self-len, in_default}
use Rattle.net_kahn.proofs.link.Link.read.Goals as goal

pub returns-then-self-len : goal.returns-then-self-len
returns-then-self-len c =
    read_given c.args.process c.args.self.now c.open.new.self c.open.ensures.same c.open.ensures.opened c.at-value.result
    (ap (λ g. slice_get (given_in g) c.open.new.self.taken) c.in-Some.is ∙ c.at-value.ensures.value)

pub returns-then-self : goal.returns-then-self
returns-then-self c =
    read_sent c.args.process c.args.self.now c.open.new.self c.open.ensures.same c.open.ensures.opened c.at-value-then-self.result
    (elim c.match-self.branch as (λ b. drop c.open.new.self.taken (given_of c.open.new.self) ≡ []) [
      | in-Some+else-self-len w ↦ all_taken c.open.new.self w.in-Some.given w.len.result w.in-Some.is w.len.ensures.len w.if-self-len.false
      | in_default w ↦ none_taken c.open.new.self w.in_default.is
    ])
    c.if-self.true c.at-value-then-self.ensures.value
