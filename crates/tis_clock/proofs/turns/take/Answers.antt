-- Each intent leaves these ways alone.
use Rattle.std.proofs.Common.{ap, ◌∙◌}
use Rattle.tis_node.specs.declared.node.Intent.{Intent}
use Rattle.tis_node.specs.Intents.{takes_from}
use Rattle.tis_clock.specs.Turns.{kept_at}
use Rattle.tis_clock.proofs.Intended.{takes_one, takes_any, takes_none}
use Rattle.tis_clock.proofs.turns.take.Goals as goal

pub returns-in-Takes : goal.returns-in-Takes
returns-in-Takes c = c.take_from.ensures ∙ takes_one c.args.grid.now c.puzzle.ensures.grid c.args.state.now.state (kept_at c.args.writing.now) c.args.tile.number c.requires.there c.requires.ready c.requires.local c.in-Takes.dir (λ other. c.requires.takes other ∙ ap (λ (i : Intent). takes_from i other) c.in-Takes.is)

pub returns-in-TakesAny : goal.returns-in-TakesAny
returns-in-TakesAny c = c.take_any.ensures ∙ takes_any c.args.grid.now c.puzzle.ensures.grid c.args.state.now.state (kept_at c.args.writing.now) c.args.tile.number c.requires.there c.requires.ready c.requires.local

pub returns-in-Nothing : goal.returns-in-Nothing
returns-in-Nothing c = takes_none c.args.grid.now c.puzzle.ensures.grid c.args.state.now.state (kept_at c.args.writing.now) c.args.tile.number c.requires.there c.requires.ready c.requires.local (λ other. c.requires.takes other ∙ ap (λ (i : Intent). takes_from i other) c.in-Nothing.is)

pub returns-in-Local : goal.returns-in-Local
returns-in-Local c = takes_none c.args.grid.now c.puzzle.ensures.grid c.args.state.now.state (kept_at c.args.writing.now) c.args.tile.number c.requires.there c.requires.ready c.requires.local (λ other. c.requires.takes other ∙ ap (λ (i : Intent). takes_from i other) c.in-Local.is)

pub returns-in-Gives : goal.returns-in-Gives
returns-in-Gives c = takes_none c.args.grid.now c.puzzle.ensures.grid c.args.state.now.state (kept_at c.args.writing.now) c.args.tile.number c.requires.there c.requires.ready c.requires.local (λ other. c.requires.takes other ∙ ap (λ (i : Intent). takes_from i other) c.in-Gives.is)

pub returns-in-GivesAny : goal.returns-in-GivesAny
returns-in-GivesAny c = takes_none c.args.grid.now c.puzzle.ensures.grid c.args.state.now.state (kept_at c.args.writing.now) c.args.tile.number c.requires.there c.requires.ready c.requires.local (λ other. c.requires.takes other ∙ ap (λ (i : Intent). takes_from i other) c.in-GivesAny.is)
