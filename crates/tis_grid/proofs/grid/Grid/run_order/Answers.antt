use Rattle.std.proofs.Common.{◌≡◌, length, Some, true, sym, ap, ◌∙◌, subst, arith}
use Rattle.std.specs.Prelude.{is_some}
use Rattle.tis_grid.specs.State.{State, output_taken}
use Rattle.tis_grid.specs.Orders.{Fits}
use Rattle.tis_grid.proofs.OrderRuns.{after_next, room_less}
use Rattle.tis_grid.proofs.grid.Grid.run_order.Goals as goal

pub loop-index-init : goal.loop-index-init
loop-index-init c =
    record {
      fits = subst (λ (s : State). Fits c.args.self.now s) (sym c.reserve.ensures.state) c.requires;
      leads = ap Some (sym c.reserve.ensures.state);
      room = λ position stands.
          let here : is_some (output_taken c.reserve.new.self.state position) ≡ true = ap (λ (s : State). is_some (output_taken s position)) c.reserve.ensures.state ∙ c.requires.outputs position ∙ stands in
          let room = c.in_ok-reserve.ensures.each position here in
          omega (arith, room);
    }

pub loop-index-preserved : goal.loop-index-preserved
loop-index-preserved c =
    record {
      fits = c.apply.ensures.fits;
      leads = after_next c.args.self.now c.args.events.now c.args.state.now.state c.loop-index.state.state c.loop-index.index _ c.loop-index-test.true c.loop-index.invariant.leads (sym c.enabled.ensures ∙ c.if-not-enabled.false) ∙ ap Some (sym c.apply.ensures.state);
      room = λ position stands. room_less c.loop-index.state.spares c.apply.new.state.spares _ (length c.args.events.now) c.loop-index.index position c.apply.ensures.spares (c.loop-index.invariant.room position stands);
    }
