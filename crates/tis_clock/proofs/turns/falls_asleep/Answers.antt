-- It waits for one that computes and wasn't writing.
use Rattle.std.proofs.Common.{◌≡◌, sym, ap, ◌∙◌}
use Rattle.tis_node.specs.declared.node.Intent.{Intent}
use Rattle.tis_node.specs.Intents.{takes_from}
use Rattle.tis_clock.specs.Turns.{kept_at}
use Rattle.tis_clock.proofs.Sleeping.{falls_asleep}
use Rattle.tis_clock.proofs.turns.falls_asleep.Goals as goal

pub returns-else-was_writing : goal.returns-else-was_writing
returns-else-was_writing c = λ computes.
    falls_asleep c.args.grid.now c.puzzle.ensures.grid c.args.state.now.state c.args.tile.number c.requires.there c.in-Takes.dir c.in-Some.next.number (sym c.in-Some.ensures.next)
    (sym c.computes.ensures ∙ computes) c.requires.local (λ other. c.requires.takes other ∙ ap (λ (i : Intent). takes_from i other) c.in-Takes.is)
    (kept_at c.args.writing.now) c.requires.ready (sym c.was_writing.ensures ∙ c.if-was_writing.false)
