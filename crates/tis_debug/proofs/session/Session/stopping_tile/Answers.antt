-- The first tile that stops the session, or none.
use Rattle.std.proofs.Common.{◌*◌, length, sym, ap, ◌∙◌, arith}
use Rattle.std.specs.Prelude.{◌&&◌}
use Rattle.std.proofs.lemmas.Bool.{and_from}
use Rattle.tis_debug.specs.Sessions.{Session, is_at_mark, has_acted}
use Rattle.tis_debug.proofs.First.{found_at, found_none}
use Rattle.tis_debug.proofs.session.Session.stopping_tile.Goals as goal

pub returns-then-has_acted : goal.returns-then-has_acted
returns-then-has_acted c =
    let session = c.args.self.now in
    let number = c.loop-number.number in
    let tiles = ap (λ (s : Session). length s.grid.puzzle.tiles.kinds) c.self.view_is in
    let shape = ap (λ (p : _). length p.tiles.kinds) c.puzzle.ensures.puzzle in
    sym (found_at (λ tile. is_at_mark session tile && has_acted session tile) 0 (length session.grid.puzzle.tiles.kinds) number (omega arith)
    (omega (arith, c.loop-number-test.true, tiles, shape, c.shape-shape.ensures.tiles.filled, ap (λ (s : _). s.columns * s.rows) c.shape-shape.ensures.shape))
    (λ k above below. c.loop-number.invariant k below)
    (and_from (is_at_mark session number) (has_acted session number) (sym c.is_at_mark.ensures ∙ c.if-is_at_mark.true) (sym c.has_acted.ensures ∙ c.if-has_acted.true)))

pub returns : goal.returns
returns c =
    let session = c.args.self.now in
    let tiles = ap (λ (s : Session). length s.grid.puzzle.tiles.kinds) c.self.view_is in
    let shape = ap (λ (p : _). length p.tiles.kinds) c.puzzle.ensures.puzzle in
    sym (found_none (λ tile. is_at_mark session tile && has_acted session tile) 0 (length session.grid.puzzle.tiles.kinds)
    (λ k above below. c.loop-number.invariant k (omega (arith, below, c.loop-number-test.false, tiles, shape, c.shape-shape.ensures.tiles.filled, ap (λ (s : _). s.columns * s.rows) c.shape-shape.ensures.shape))))
