use Rattle.std.proofs.Common.{length, ap, ◌∙◌, sym, arith}
use Rattle.std.proofs.lemmas.Iterator.Adapters.{YieldsList-from_vec}
use Rattle.std.proofs.lemmas.Iterator.Consumers.{YieldsList-so_far, YieldsList-turn}
use Rattle.std.proofs.lemmas.List.{map-id}
use Rattle.zi_storing.proofs.GatheringLemmas.{right_name, stands_more, tree_stops}
use Rattle.zi_storing.proofs.gathering.tree_of.Goals as goal

pub put_part-requires : goal.put_part-requires
put_part-requires c =
    let gives = c.into_iter-part-iterator.ensures.into_iter_gives in
    let all = c.into_vec-part-items.ensures in
    let source = YieldsList-from_vec c.args.parts (gives.0 ∙ all) (omega (arith, gives.1, c.into_vec-part-items.result.ok.0, ap length all)) in
    right_name c.args.parts (length c.loop-part.yielded) c.in-Some.part c.requires (YieldsList-turn source c.loop-part.yielded c.loop-part.part-iterator c.loop-part.yielded_by c.next.result c.next.new.self c.in-Some.part c.in-Some.is c.next.ensures.steps)

pub loop-part-preserved : goal.loop-part-preserved
loop-part-preserved c = stands_more c.loop-part.yielded c.in-Some.part c.loop-part.tree c.put_part.new.tree c.in-Ok.field-0 c.loop-part.invariant c.in-Ok.ensures

pub returns-in-Err : goal.returns-in-Err
returns-in-Err c =
    let gives = c.into_iter-part-iterator.ensures.into_iter_gives in
    let all = c.into_vec-part-items.ensures in
    let source = YieldsList-from_vec c.args.parts (gives.0 ∙ all) (omega (arith, gives.1, c.into_vec-part-items.result.ok.0, ap length all)) in
    let front = YieldsList-so_far source c.loop-part.yielded c.loop-part.part-iterator c.loop-part.yielded_by in
    tree_stops c.args.parts c.loop-part.yielded c.in-Some.part c.loop-part.tree c.put_part.new.tree c.in-Err.fault c.loop-part.invariant (sym (map-id c.loop-part.yielded) ∙ front)
    (YieldsList-turn source c.loop-part.yielded c.loop-part.part-iterator c.loop-part.yielded_by c.next.result c.next.new.self c.in-Some.part c.in-Some.is c.next.ensures.steps) c.in-Err.ensures
