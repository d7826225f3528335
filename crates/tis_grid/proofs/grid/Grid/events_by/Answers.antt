-- Each intent leaves these ways alone.
use Rattle.std.proofs.Common.{ap, ◌∙◌}
use Rattle.tis_node.specs.declared.node.Intent.{Intent}
use Rattle.tis_node.specs.Intents.{is_local, takes_from, gives_to}
use Rattle.tis_grid.proofs.Intended.{does_nothing, steps_alone, takes_one, gives_one}
use Rattle.tis_grid.proofs.grid.Grid.events_by.Goals as goal

pub returns-in-Nothing : goal.returns-in-Nothing
returns-in-Nothing c =
    c.alone.ensures
    ∙ does_nothing c.args.self.now c.args.state.now.state c.args.tile.number (c.requires.local ∙ ap (λ (i : Intent). is_local i) c.in-Nothing.is)
    (λ dir. c.requires.takes dir ∙ ap (λ (i : Intent). takes_from i dir) c.in-Nothing.is) (λ dir. c.requires.gives dir ∙ ap (λ (i : Intent). gives_to i dir) c.in-Nothing.is)

pub returns-in-Local : goal.returns-in-Local
returns-in-Local c =
    c.alone-in-Local.ensures
    ∙ steps_alone c.args.self.now c.args.state.now.state c.args.tile.number (c.requires.local ∙ ap (λ (i : Intent). is_local i) c.in-Local.is)
    (λ dir. c.requires.takes dir ∙ ap (λ (i : Intent). takes_from i dir) c.in-Local.is) (λ dir. c.requires.gives dir ∙ ap (λ (i : Intent). gives_to i dir) c.in-Local.is)

pub returns-in-Takes : goal.returns-in-Takes
returns-in-Takes c =
    c.alone-in-Takes.ensures
    ∙ c.pulled.ensures
    ∙ takes_one c.args.self.now c.args.state.now.state c.args.tile.number (c.requires.local ∙ ap (λ (i : Intent). is_local i) c.in-Takes.is) c.in-Takes.dir
    (λ dir. c.requires.takes dir ∙ ap (λ (i : Intent). takes_from i dir) c.in-Takes.is) (λ dir. c.requires.gives dir ∙ ap (λ (i : Intent). gives_to i dir) c.in-Takes.is)

pub returns-in-Gives : goal.returns-in-Gives
returns-in-Gives c =
    c.alone-in-Gives.ensures
    ∙ c.given_to.ensures
    ∙ gives_one c.args.self.now c.args.state.now.state c.args.tile.number (c.requires.local ∙ ap (λ (i : Intent). is_local i) c.in-Gives.is) c.in-Gives.dir
    (λ dir. c.requires.takes dir ∙ ap (λ (i : Intent). takes_from i dir) c.in-Gives.is) (λ dir. c.requires.gives dir ∙ ap (λ (i : Intent). gives_to i dir) c.in-Gives.is)
