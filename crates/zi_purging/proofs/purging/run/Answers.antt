use Rattle.zi_purge.specs.Stepping.{standing}
use Rattle.zi_purging.proofs.RunLemmas.{ran_start, ran_on, ran_run, open_more, fewer_more}
use Rattle.zi_purging.proofs.purging.run.Goals as goal

pub loop-step-init : goal.loop-step-init
loop-step-init g c = record {
  ran = ran_start (standing c.args.purge.now) (g.K.Shelf.seen c.args.shelf.now);
  goes_on = c.requires;
}

pub loop-step-preserved : goal.loop-step-preserved
loop-step-preserved g c =
    let l = c.loop-step in
    let i = l.invariant in
    let s = c.step-step in
    let e = s.ensures in
    record {
      ran = ran_on (standing c.args.purge.now) (standing l.purge) (standing s.new.self) (g.K.Shelf.seen c.args.shelf.now) (g.K.Shelf.seen l.shelf) (g.K.Shelf.seen s.new.k) s.result
          c.in-More.is i.ran (e.steps i.goes_on) e.keeps;
      goes_on = open_more (standing l.purge) (standing s.new.self) s.result c.in-More.is e.advances;
    }

pub loop-step-smaller : goal.loop-step-smaller
loop-step-smaller g c =
    let l = c.loop-step in
    let s = c.step-step in
    fewer_more (standing l.purge) (standing s.new.self) s.result c.in-More.is s.ensures.advances

pub returns-in_default : goal.returns-in_default
returns-in_default g c =
    let l = c.loop-step in
    let i = l.invariant in
    let s = c.step-step in
    let e = s.ensures in
    record {
      runs = ran_run (standing c.args.purge.now) (standing l.purge) (standing s.new.self) (g.K.Shelf.seen c.args.shelf.now) (g.K.Shelf.seen l.shelf) (g.K.Shelf.seen s.new.k) s.result
          c.in_default.not-More i.goes_on i.ran (e.steps i.goes_on) e.advances e.keeps;
      blames = e.blames;
    }
