-- What is written is what the session shows.
use Rattle.std.proofs.Common.{◌≡◌, ◌++◌, List, ℕ, ap, ◌∙◌, append_assoc}
use Rattle.tis_grid.specs.State.{State}
use Rattle.tis_grid.proofs.Outputs.{ok_then}
use Rattle.tis_debug.specs.Sessions.{Session, state_at}
use Rattle.tis_debug.specs.Shown.{cycle_text, state_text, shown}
use Rattle.tis_debug.proofs.Standing.{fits_here, stands_at}
use Rattle.tis_debug.proofs.session.Session.push_shown.Goals as goal

pub push_state-requires : goal.push_state-requires
push_state-requires c = fits_here c.args.self.now c.self.inside.grid.now c.self.inside.state c.self.inside.cycle c.self.inside.points c.self.inside.marks c.self.view_is c.self.invariant

pub returns : goal.returns
returns c =
    let session = c.args.self.now in
    let held = c.self.inside.state.state in
    let old = c.args.out.now.items in
    let all : cycle_text c.self.inside.cycle ++ state_text c.self.inside.grid.now held ≡ shown session =
    ap (λ (s : State). cycle_text c.self.inside.cycle ++ state_text c.self.inside.grid.now s) (stands_at c.args.self.now c.self.inside.grid.now c.self.inside.state c.self.inside.cycle c.self.inside.points c.self.inside.marks c.self.view_is c.self.invariant)
    ∙ ap (λ (s : Session). cycle_text s.cycle ++ state_text s.grid (state_at session.grid session.cycle)) c.self.view_is in
    ok_then _ _ c.push_state.result (λ written. written ∙ ap (λ (text : List ℕ). text ++ state_text c.self.inside.grid.now held) c.in_ok-push_line.ensures ∙ append_assoc old (cycle_text c.self.inside.cycle) (state_text c.self.inside.grid.now held) ∙ ap (λ (text : List ℕ). old ++ text) all) c.push_state.ensures
