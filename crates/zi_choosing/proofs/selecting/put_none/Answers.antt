use Rattle.std.proofs.Common.{sym, subst}
use Rattle.zi_choosing.specs.declared.shows.Shows.{Shows}
use Rattle.zi_choosing.specs.SelectParts.{PutsNone}
use Rattle.zi_choosing.proofs.SelectLemmas.{refutation_put, proof_put}
use Rattle.zi_choosing.proofs.selecting.put_none.Goals as goal

pub returns-in-Document : goal.returns-in-Document
returns-in-Document g c =
    let u = c.args.universe.now in
    let old = g.O.Sink.seen c.args.out.now in
    let new = g.O.Sink.seen c.put_refutation.new.out in
    subst (λ (s : Shows). PutsNone s u c.args.req.now c.args.proof old new c.put_refutation.result) (sym c.in-Document.is)
    (refutation_put u c.args.req.now c.args.proof old new c.put_refutation.result c.put_refutation.ensures)

pub returns-in-Certificate : goal.returns-in-Certificate
returns-in-Certificate g c =
    let u = c.args.universe.now in
    let old = g.O.Sink.seen c.args.out.now in
    let new = g.O.Sink.seen c.put_refutation-in-Certificate.new.out in
    subst (λ (s : Shows). PutsNone s u c.args.req.now c.args.proof old new c.put_refutation-in-Certificate.result) (sym c.in-Certificate.is)
    (proof_put u c.args.req.now c.args.proof old new c.put_refutation-in-Certificate.result c.put_refutation-in-Certificate.ensures)
