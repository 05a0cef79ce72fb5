use Rattle.std.proofs.Common.{map, subst, inl}
use Rattle.zi_digest.specs.Name.{spelling}
use Rattle.zi_purge.specs.Stepping.{Standing, standing}
use Rattle.zi_purging.specs.Running.{IsRun}
use Rattle.zi_purging.proofs.PurgedLemmas.{begins_open, closes_run, idle}
use Rattle.zi_purging.proofs.purging.take_away.Goals as goal

pub run-step-requires : goal.run-step-requires
run-step-requires g c = begins_open (map spelling c.args.kept) (map spelling c.args.there) (standing c.in-Ok.purge) c.in-Ok.ensures

pub returns : goal.returns
returns g c =
    let before = g.K.Shelf.seen c.args.shelf.now in
    let after = g.K.Shelf.seen c.run-step.new.shelf in
    let x = c.run-step.new.purge in
    let answer = c.run-step.result in
    closes_run (map spelling c.args.kept) (map spelling c.args.there) before after x answer c.close.result c.close.ensures c.run-step.ensures.blames
    (subst (λ (s : Standing). IsRun s before answer (standing x) after) c.in-Ok.ensures c.run-step.ensures.runs)

pub close-requires : goal.close-requires
close-requires g c = c.run-step.ensures.runs.ends

pub returns-in_default : goal.returns-in_default
returns-in_default g c = inl (idle (g.K.Shelf.seen c.args.shelf.now))
