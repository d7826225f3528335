use Rattle.std.proofs.Common.{◌≡◌, ◌∷◌, [], List, ℕ, ◌∙◌, sym, ap, length, length-append, arith, None}
use Rattle.net_syntax.specs.Forms.{path_of}
use Rattle.net_syntax.proofs.Paths.{path_begins, path_stops, path_more, path_full, path_ends, path_behind, room_gone, room_left}
use Rattle.net_syntax.proofs.links.path_of.Goals as goal

pub tiles-init : goal.tiles-init
tiles-init c =
    record {
      short = let len = ap length c.new-path.ensures in omega (arith, len);
      same = path_begins c.args.words.now ∙ ap (λ (path : List ℕ). path_behind path c.args.words.now) (sym c.new-path.ensures);
    }

pub returns-in_err-tile : goal.returns-in_err-tile
returns-in_err-tile c =
    let none : path_of c.args.words.now ≡ None =
    c.tiles.invariant.same ∙ path_stops c.tiles.path c.tiles.words c.next.new.self c.in-Some.word.now c.in-Some.ensures (sym c.number_of.ensures.number ∙ c.in_err-tile.was) in
    rw c.from_residual.ensures none

pub returns-then-not-push : goal.returns-then-not-push
returns-then-not-push c =
    c.tiles.invariant.same
    ∙ path_full c.tiles.path c.tiles.words c.next.new.self c.in-Some.word.now c.in_ok-tile.tile c.in-Some.ensures (sym c.number_of.ensures.number ∙ c.in_ok-tile.was)
    (room_gone c.push.result (length c.tiles.path) c.if-not-push.true c.push.ensures.full.1)

pub tiles-preserved : goal.tiles-preserved
tiles-preserved c =
    record {
      short =
          let room = room_left c.push.result (length c.tiles.path) c.if-not-push.false c.push.ensures.full.0 in
          let len = ap length c.if-not-push.ensures.pushed ∙ length-append c.tiles.path (c.in_ok-tile.tile ∷ []) in
          omega (arith, room, len);
      same =
          c.tiles.invariant.same
          ∙ path_more c.tiles.path c.push.new.self c.tiles.words c.next.new.self c.in-Some.word.now c.in_ok-tile.tile c.in-Some.ensures (sym c.number_of.ensures.number ∙ c.in_ok-tile.was) c.if-not-push.ensures.pushed;
    }

pub returns : goal.returns
returns c = c.tiles.invariant.same ∙ path_ends c.tiles.path c.tiles.words c.in_default.ensures.0 c.tiles.invariant.short
