use Rattle.std.proofs.Common.{◌≡◌, ◌-◌, ◌+◌, ◌∷◌, [], length, sym, ap, ◌∙◌, arith}
use Rattle.std.specs.List.{flat_map}
use Rattle.std.proofs.lemmas.List.{append-nil, length_push}
use Rattle.zi_walk.specs.Lists.{list_at}
use Rattle.zi_walk.proofs.StepLaws.{pieces_first, piece_first, pieces_all, longer_still}
use Rattle.zi_walk.proofs.path.add_follows.Goals as goal

pub loop-left-init : goal.loop-left-init
loop-left-init c = record {
  within = omega arith;
  lists = ([], sym (append-nil c.args.tasks.now));
  inside = c.requires;
  follows = pieces_first c.as_slice-pieces.result.now _ (list_at c.args.tasks.now c.args.later) (omega arith);
}

pub loop-left-preserved : goal.loop-left-preserved
loop-left-preserved c =
    let h = c.in_ok-first.ensures.added in
    record {
      within = omega arith;
      lists = longer_still c.args.tasks.now c.loop-left.tasks c.add.new.self c.loop-left.invariant.lists (_, h.lists);
      inside = (let more : length c.add.new.self ≡ length c.loop-left.tasks + 1 = ap length h.lists ∙ length_push _ _ in omega (arith, more, h.number));
      follows = piece_first c.as_slice-pieces.result.now (c.loop-left.left - 1) c.loop-left.left c.index-pieces-left.result c.loop-left.tasks c.loop-left.first c.add.new.self c.in_ok-first.first
          (list_at c.args.tasks.now c.args.later) (omega arith) (omega arith) c.index-pieces-left.is h c.loop-left.invariant.follows;
    }

pub returns-clause-follows : goal.returns-clause-follows
returns-clause-follows c =
    pieces_all c.as_slice-pieces.result.now c.loop-left.left c.args.deps.now (list_at c.args.tasks.now c.args.later) (list_at c.loop-left.tasks c.loop-left.first) (omega arith) (ap (flat_map (λ q. q.now)) c.as_slice-pieces.ensures.value ∙ c.in_ok-segments.ensures) c.loop-left.invariant.follows
