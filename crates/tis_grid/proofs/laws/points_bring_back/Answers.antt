-- The lemmas that a point brings its state back.
use Rattle.tis_grid.proofs.Returning as Returning
use Rattle.tis_grid.proofs.laws.points_bring_back.Goals as goal

pub returns : goal.returns
returns c = record { fits = Returning.returns_fit; back = Returning.points_bring_back }
