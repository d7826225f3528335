-- What was made anew stays right.
use Rattle.std.proofs.Common.{inl, inr}
use Rattle.std.specs.Prelude.{bit_or}
use Rattle.tis_grid.proofs.Marked.{or_either, or_neither_left, or_neither_right}
use Rattle.tis_grid.proofs.Renewed.{renewed, all_givers}
use Rattle.tis_grid.proofs.grid.Grid.renew_both.Goals as goal

pub concerned-requires-clause-givers : goal.concerned-requires-clause-givers
concerned-requires-clause-givers c = all_givers c.args.self.now c.args.state.now.state c.args.first.number c.args.second.number c.args.givers.now c.renew.new.givers c.renew_second.new.givers c.requires.around c.renew.ensures.around c.renew_second.ensures.around c.requires.marked c.renew.ensures.marked c.renew.ensures.marked_others c.renew_second.ensures.marked c.renew_second.ensures.marked_others

pub concerned-requires-2-clause-givers : goal.concerned-requires-2-clause-givers
concerned-requires-2-clause-givers c = all_givers c.args.self.now c.args.state.now.state c.args.first.number c.args.second.number c.args.givers.now c.renew.new.givers c.renew_second.new.givers c.requires.around c.renew.ensures.around c.renew_second.ensures.around c.requires.marked c.renew.ensures.marked c.renew.ensures.marked_others c.renew_second.ensures.marked c.renew_second.ensures.marked_others

pub renew_each-requires-clause-within : goal.renew_each-requires-clause-within
renew_each-requires-clause-within c = λ place set. elim (or_either c.concerned.result c.concerned-2.result place set) [ inl first ↦ c.concerned.ensures.within place first | inr second ↦ c.concerned-2.ensures.within place second ]

pub returns-clause-first : goal.returns-clause-first
returns-clause-first c =
    renewed c.args.self.now c.args.state.now.state c.args.first.number c.args.choices.now c.renew_each.new.choices (bit_or c.concerned.result c.concerned-2.result) c.renew_each.ensures.len
    (c.renew_each.ensures.others c.args.first.number (c.renew_second.ensures.others c.args.first.number c.renew.ensures.here))
    (λ list behind within is. c.renew_each.ensures.others list (c.renew_second.ensures.others list (c.renew.ensures.ports list behind within is)))
    c.renew_each.ensures.here
    (λ place set. elim (or_either c.concerned.result c.concerned-2.result place set) [ inl first ↦ c.concerned.ensures.within place first | inr second ↦ c.concerned-2.ensures.within place second ])
    (λ dir next is none. c.concerned.ensures.apart dir next is (or_neither_left c.concerned.result c.concerned-2.result _ none))
    (λ list was. c.renew_each.ensures.others list (c.renew_second.ensures.others list (c.renew.ensures.others list was)))

pub returns-clause-second : goal.returns-clause-second
returns-clause-second c =
    renewed c.args.self.now c.args.state.now.state c.args.second.number c.args.choices.now c.renew_each.new.choices (bit_or c.concerned.result c.concerned-2.result) c.renew_each.ensures.len
    (c.renew_each.ensures.others c.args.second.number c.renew_second.ensures.here)
    (λ list behind within is. c.renew_each.ensures.others list (c.renew_second.ensures.ports list behind within is))
    c.renew_each.ensures.here
    (λ place set. elim (or_either c.concerned.result c.concerned-2.result place set) [ inl first ↦ c.concerned.ensures.within place first | inr second ↦ c.concerned-2.ensures.within place second ])
    (λ dir next is none. c.concerned-2.ensures.apart dir next is (or_neither_right c.concerned.result c.concerned-2.result _ none))
    (λ list was. c.renew_each.ensures.others list (c.renew_second.ensures.others list (c.renew.ensures.others list was)))

pub returns-clause-givers : goal.returns-clause-givers
returns-clause-givers c = all_givers c.args.self.now c.args.state.now.state c.args.first.number c.args.second.number c.args.givers.now c.renew.new.givers c.renew_second.new.givers c.requires.around c.renew.ensures.around c.renew_second.ensures.around c.requires.marked c.renew.ensures.marked c.renew.ensures.marked_others c.renew_second.ensures.marked c.renew_second.ensures.marked_others
