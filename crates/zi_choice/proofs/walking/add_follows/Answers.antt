use Rattle.std.proofs.Common.{◌≡◌, ◌-◌, List, drop, ap, ◌∙◌, subst, arith}
use Rattle.std.specs.List.{flat_map}
use Rattle.zi_parts.specs.declared.types.Dep.{Dep}
use Rattle.zi_choice.specs.Stops.{FollowStops}
use Rattle.zi_choice.specs.Tasks.{universe_of, picks_of, stops_of, Then}
use Rattle.zi_choice.proofs.TaskLaws.{pieces_none, pieces_more}
use Rattle.zi_choice.proofs.walking.add_follows.Goals as goal

pub loop-left-init : goal.loop-left-init
loop-left-init c = record {
  within = omega arith;
  runs = pieces_none (universe_of c.args.on.now) (picks_of c.args.on.now) c.as_slice-pieces.result.now _ c.args.tasks.now.items (omega arith);
}

pub loop-left-preserved : goal.loop-left-preserved
loop-left-preserved c = record {
  within = omega arith;
  runs = pieces_more (universe_of c.args.on.now) (picks_of c.args.on.now) c.args.tasks.now.items c.loop-left.tasks.items c.push.new.self.items c.as_slice-pieces.result.now (c.loop-left.left - 1) c.loop-left.left c.index-pieces-left.result
      (omega arith) (omega arith) c.index-pieces-left.is c.in_ok-push.ensures.items c.loop-left.invariant.runs;
}

pub returns : goal.returns
returns c way w r =
    let u = universe_of c.args.on.now in
    let s = picks_of c.args.on.now in
    let ps = c.as_slice-pieces.result.now in
    let first : c.loop-left.left ≡ 0 = omega arith in
    let all : flat_map (λ q. q.now) (drop c.loop-left.left ps) ≡ c.args.deps.now = ap (λ n. flat_map (λ q. q.now) (drop n ps)) first ∙ (ap (flat_map (λ q. q.now)) c.as_slice-pieces.ensures.value ∙ c.in_ok-segments.ensures) in
    let P : List Dep → Type 0 = λ ds. Then u s (FollowStops u s ds) c.args.tasks.now.items (stops_of way) w in
    subst P all (c.loop-left.invariant.runs (stops_of way) w r)
