use Rattle.std.proofs.Common.{◌++◌, map, arith}
use Rattle.zi_tree.proofs.Items.{on_ok_then}
use Rattle.zi_shelf.specs.Filling.{Append}
use Rattle.zi_session.specs.Works.{pieces}
use Rattle.zi_session.specs.AtPlace.{calls}
use Rattle.zi_session.proofs.PieceLemmas.{piece_put, last_put}
use Rattle.zi_session.proofs.files.put_pieces.Goals as goal

pub loop-rest-preserved : goal.loop-rest-preserved
loop-rest-preserved c =
    piece_put c.args.path.now c.loop-rest.works.items c.put_piece.new.works.items c.loop-rest.rest.now c.split_at.result.0.now c.split_at.result.1.now (calls c.args.works.now.items ++ map (Append c.args.path.now) (pieces c.args.bytes.now)) (omega arith)
    c.split_at.ensures.front c.split_at.ensures.back c.loop-rest.invariant c.in_ok-put_piece.ensures

pub returns : goal.returns
returns c =
    on_ok_then c.put_piece-2.result c.put_piece-2.ensures (λ e.
    last_put c.args.path.now c.loop-rest.works.items c.put_piece-2.new.works.items c.loop-rest.rest.now (calls c.args.works.now.items ++ map (Append c.args.path.now) (pieces c.args.bytes.now)) c.loop-rest-test.false c.loop-rest.invariant e)
