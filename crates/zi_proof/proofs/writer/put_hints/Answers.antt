use Rattle.std.proofs.Common.{map, ◌∷◌, []}
use Rattle.std.specs.Fmt.{decimal}
use Rattle.zi_proof.specs.ProofText.{behind}
use Rattle.zi_proof.proofs.WriteLaws.{put_both, puts_as, hints_end}
use Rattle.zi_proof.proofs.writer.put_hints.Goals as goal

pub returns : goal.returns
returns c =
    puts_as c.args.into.now.items c.put.new.into.items _ _ c.put.result (hints_end c.args.hints.now)
    (put_both c.args.into.now.items c.put_items.new.into.items c.put.new.into.items (behind 32 (map decimal c.args.hints.now)) (32 ∷ 48 ∷ 10 ∷ []) c.put.result c.in_ok-put_items.ensures c.put.ensures)
