use Rattle.std.proofs.Common.{List, ap, refl, ◌∙◌}
use Rattle.zi_sels.specs.Chosen.{met}
use Rattle.zi_sels.specs.Settings.{universe_of, picks_of}
use Rattle.zi_sels.proofs.PieceLaws.{items_of, piece_next, piece_end, met-append}
use Rattle.zi_sels.proofs.choosing.met_of.Goals as goal

pub loop-piece-preserved : goal.loop-piece-preserved
loop-piece-preserved c =
    piece_next (met (universe_of c.args.on.now) (picks_of c.args.on.now)) (met-append (universe_of c.args.on.now) (picks_of c.args.on.now)) _ _ _ _ _ _ c.loop-piece-test.true c.piece-item.is c.in_ok-add_met.ensures c.loop-piece.invariant

pub returns : goal.returns
returns c =
    piece_end (met (universe_of c.args.on.now) (picks_of c.args.on.now)) (met-append (universe_of c.args.on.now) (picks_of c.args.on.now)) _ _ _ _ c.loop-piece-test.false refl c.loop-piece.invariant
    ∙ ap (met (universe_of c.args.on.now) (picks_of c.args.on.now)) (ap items_of c.as_slice-piece-items.ensures.value ∙ c.in_ok-pieces.ensures)
