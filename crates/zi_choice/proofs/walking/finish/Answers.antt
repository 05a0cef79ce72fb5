use Rattle.std.proofs.Common.{ap}
use Rattle.zi_choice.specs.Left.{to_come}
use Rattle.zi_choice.specs.Stops.{walk_of_stops}
use Rattle.zi_choice.specs.Tasks.{universe_of, picks_of, left_of}
use Rattle.zi_choice.proofs.TaskLaws.{falls_on}
use Rattle.zi_choice.proofs.walking.finish.Goals as goal

pub loop-more-smaller : goal.loop-more-smaller
loop-more-smaller c =
    falls_on (left_of c.args.on.now c.advance.new.way) (left_of c.args.on.now c.loop-more.way) c.in_ok-more.more c.loop-more.more c.loop-more-test.true
    c.in_ok-more.ensures.new (λ is. ap (λ xs. to_come (universe_of c.args.on.now) (picks_of c.args.on.now) (walk_of_stops (picks_of c.args.on.now) xs)) (c.in_ok-more.ensures.same is))
