use Rattle.std.proofs.Common.{refl, sym}
use Rattle.zi_session.specs.Standing.{standing}
use Rattle.zi_session.proofs.KeepingLemmas.{none_keeps}
use Rattle.zi_session.proofs.RunLemmas.{ran_start, ran_on, ran_run, keeps_more, spent}
use Rattle.zi_session.proofs.session.Session.run.Goals as goal

pub loop-step-init : goal.loop-step-init
loop-step-init g c = record {
  ran = ran_start (standing c.args.self.now) (g.K.Shelf.seen c.args.k.now);
  goes_on = sym c.if-is_over.ensures;
}

pub loop-step-preserved : goal.loop-step-preserved
loop-step-preserved g c =
    let l = c.loop-step in
    let i = l.invariant in
    let s = c.step-step in
    let e = s.ensures in
    record {
      ran = ran_on (standing c.args.self.now) (standing l.self) (standing s.new.self) (g.K.Shelf.seen c.args.k.now) (g.K.Shelf.seen l.k) (g.K.Shelf.seen s.new.k) s.result
          (λ sure. (g.met.K.Shelf.sure_is c.args.k.now sure).keeps) c.in-More.is i.ran (e.steps i.goes_on) e.keeps;
      goes_on = e.advances.more c.in-More.is;
    }

pub loop-step-smaller : goal.loop-step-smaller
loop-step-smaller g c =
    let l = c.loop-step in
    let s = c.step-step in
    spent l.self s.new.self s.result c.in-More.is s.new.self.few s.ensures.advances.spends

pub returns-then-is_over-clause-keeps : goal.returns-then-is_over-clause-keeps
returns-then-is_over-clause-keeps g c = none_keeps _ _ _ refl

pub returns-in_default : goal.returns-in_default
returns-in_default g c =
    let l = c.loop-step in
    let i = l.invariant in
    let s = c.step-step in
    let e = s.ensures in
    record {
      end = c.in_default.not-More;
      runs = λ on. ran_run (standing c.args.self.now) (standing l.self) (standing s.new.self) (g.K.Shelf.seen c.args.k.now) (g.K.Shelf.seen l.k) (g.K.Shelf.seen s.new.k) s.result
          i.ran (e.steps i.goes_on);
      over = λ is. absurd (cc (c.if-is_over.ensures, is));
      blames = e.advances.blames;
      keeps = keeps_more (standing c.args.self.now) (standing l.self) (standing s.new.self) (g.K.Shelf.seen c.args.k.now) (g.K.Shelf.seen l.k) (g.K.Shelf.seen s.new.k) s.result
          (λ sure. (g.met.K.Shelf.sure_is c.args.k.now sure).keeps) i.ran e.keeps;
    }
