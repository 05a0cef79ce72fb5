use Rattle.std.proofs.Common.{List, ap, refl, ◌∙◌}
use Rattle.zi_sels.specs.Chosen.{used_of}
use Rattle.zi_sels.specs.Settings.{universe_of, picks_of, walk_of}
use Rattle.zi_sels.proofs.PieceLaws.{items_of, piece_next, piece_end, used-append}
use Rattle.zi_sels.proofs.choosing.used_of.Goals as goal

pub loop-piece-preserved : goal.loop-piece-preserved
loop-piece-preserved c =
    piece_next (used_of (universe_of c.args.on.now) (picks_of c.args.on.now) (walk_of c.args.on.now) c.args.i) (used-append (universe_of c.args.on.now) (picks_of c.args.on.now) (walk_of c.args.on.now) c.args.i) _ _ _ _ _ _ c.loop-piece-test.true c.piece-item.is c.in_ok-add_used.ensures c.loop-piece.invariant

pub returns : goal.returns
returns c =
    piece_end (used_of (universe_of c.args.on.now) (picks_of c.args.on.now) (walk_of c.args.on.now) c.args.i) (used-append (universe_of c.args.on.now) (picks_of c.args.on.now) (walk_of c.args.on.now) c.args.i) _ _ _ _ c.loop-piece-test.false refl c.loop-piece.invariant
    ∙ ap (used_of (universe_of c.args.on.now) (picks_of c.args.on.now) (walk_of c.args.on.now) c.args.i) (ap items_of c.as_slice-piece-items.ensures.value ∙ c.in_ok-pieces.ensures)
