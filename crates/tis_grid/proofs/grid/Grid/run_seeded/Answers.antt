use Rattle.std.proofs.Common.{◌≡◌, ◌+◌, refl, sym, ap, ◌∙◌, subst, arith}
use Rattle.rand_pcg.specs.Lcg.{Lcg}
use Rattle.rand_pcg.specs.Pcg.{pcg32}
use Rattle.tis_grid.specs.State.{State}
use Rattle.tis_grid.specs.Events.{IsEnabled, after_event}
use Rattle.tis_grid.specs.Drawn.{generator_of}
use Rattle.tis_grid.specs.HeldChoices.{AreChoices, AreGivers}
use Rattle.tis_grid.proofs.Choosing.{drawn_from}
use Rattle.tis_grid.proofs.Drawing.{Drew, next_enabled, drew_none, drew_most, drew_more, drew_to_rest}
use Rattle.tis_grid.proofs.grid.Grid.run_seeded.Goals as goal

pub returns-in_default-clause-runs : goal.returns-in_default-clause-runs
returns-in_default-clause-runs c =
    let all = drew_to_rest c.args.self.now c.args.state.now.state c.loop-done.state.state (generator_of c.args.seed) c.loop-done.generator c.args.limit c.loop-done.done c.puzzle.ensures.grid c.loop-done-test.true c.loop-done.invariant.drew (sym c.in_default.is ∙ c.draw.ensures.event ∙ drawn_from c.args.self.now c.loop-done.state.state c.loop-done.choices (pcg32 c.loop-done.generator).0 c.puzzle.ensures.grid c.loop-done.invariant.right) in
    (all.0.leads, (all.0.many, all.1))

pub make_room-requires-clause-enabled : goal.make_room-requires-clause-enabled
make_room-requires-clause-enabled c = next_enabled c.args.self.now c.loop-done.state.state (pcg32 c.loop-done.generator).0 c.in-Some.event (sym c.in-Some.is ∙ c.draw.ensures.event ∙ drawn_from c.args.self.now c.loop-done.state.state c.loop-done.choices (pcg32 c.loop-done.generator).0 c.puzzle.ensures.grid c.loop-done.invariant.right)

pub step-requires-clause-enabled : goal.step-requires-clause-enabled
step-requires-clause-enabled c =
    subst (λ (s : State). IsEnabled c.args.self.now s c.in-Some.event) (sym c.make_room.ensures.state) (next_enabled c.args.self.now c.loop-done.state.state (pcg32 c.loop-done.generator).0 c.in-Some.event (sym c.in-Some.is ∙ c.draw.ensures.event ∙ drawn_from c.args.self.now c.loop-done.state.state c.loop-done.choices (pcg32 c.loop-done.generator).0 c.puzzle.ensures.grid c.loop-done.invariant.right))

pub step-requires-clause-right : goal.step-requires-clause-right
step-requires-clause-right c = subst (λ (s : State). AreChoices c.args.self.now s c.loop-done.choices) (sym c.make_room.ensures.state) c.loop-done.invariant.right

pub step-requires-clause-givers : goal.step-requires-clause-givers
step-requires-clause-givers c = subst (λ (s : State). AreGivers c.args.self.now s c.loop-done.givers) (sym c.make_room.ensures.state) c.loop-done.invariant.givers

pub loop-done-preserved : goal.loop-done-preserved
loop-done-preserved c =
    let drew = drew_more c.args.self.now c.args.state.now.state c.loop-done.state.state (generator_of c.args.seed) c.loop-done.generator c.args.limit c.loop-done.done c.in-Some.event c.loop-done-test.true c.loop-done.invariant.drew (sym c.in-Some.is ∙ c.draw.ensures.event ∙ drawn_from c.args.self.now c.loop-done.state.state c.loop-done.choices (pcg32 c.loop-done.generator).0 c.puzzle.ensures.grid c.loop-done.invariant.right) in
    let state : after_event c.args.self.now c.loop-done.state.state c.in-Some.event ≡ c.step.new.state.state = ap (λ (s : State). after_event c.args.self.now s c.in-Some.event) (sym c.make_room.ensures.state) ∙ sym c.step.ensures.state in
    let drawn : c.draw.new.generator ≡ (pcg32 c.loop-done.generator).1 = c.in-Some.ensures.word refl in
    record {
      fits = c.step.ensures.fits;
      right = c.step.ensures.right;
      givers = c.step.ensures.givers;
      drew = subst (λ (g : Lcg). Drew c.args.self.now c.args.state.now.state (generator_of c.args.seed) c.args.limit (c.loop-done.done + 1) c.step.new.state.state g) (sym drawn)
          (subst (λ (s : State). Drew c.args.self.now c.args.state.now.state (generator_of c.args.seed) c.args.limit (c.loop-done.done + 1) s (pcg32 c.loop-done.generator).1) state drew);
    }

pub loop-done-init : goal.loop-done-init
loop-done-init c =
    record {
      fits = c.requires;
      right = c.choices-choices.ensures.right;
      givers = c.givers-givers.ensures;
      drew = subst (λ (g : Lcg). Drew c.args.self.now c.args.state.now.state (generator_of c.args.seed) c.args.limit 0 c.args.state.now.state g) (sym c.new-generator.ensures)
          (drew_none c.args.self.now c.args.state.now.state (generator_of c.args.seed) c.args.limit);
    }

pub returns-else-at_rest-clause-runs : goal.returns-else-at_rest-clause-runs
returns-else-at_rest-clause-runs c =
    let all = drew_most c.args.self.now c.args.state.now.state c.loop-done.state.state (generator_of c.args.seed) c.loop-done.generator c.args.limit c.loop-done.done c.loop-done-test.false c.loop-done.invariant.drew in
    (all.leads, (omega (arith, all.many), refl, λ rest. let yes = c.at_rest.ensures.1 rest in absurd cc))
