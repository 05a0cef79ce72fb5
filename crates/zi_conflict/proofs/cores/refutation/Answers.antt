use Rattle.std.proofs.Common.{◌≡◌, ◌<◌, ◌+◌, ◌-◌, ◌^◌, true, [], length, ap, sym, subst}
use Rattle.zi_proof.specs.declared.proof.Proof.{Proof}
use Rattle.zi_proof.specs.Accepted.{follows, proves}
use Rattle.zi_sat.specs.View.{SearchSeen}
use Rattle.zi_conflict.proofs.cores.refutation.Goals as goal

pub seek-requires-clause-few : goal.seek-requires-clause-few
seek-requires-clause-few c = subst (λ (s : SearchSeen). length s.formula.constraints + 1000 < 2 ^ 32 - 1) (sym c.in_ok-search.ensures) c.requires.few

pub seek-requires-clause-empty : goal.seek-requires-clause-empty
seek-requires-clause-empty c = ap (λ (s : SearchSeen). s.log.lemmas) c.in_ok-search.ensures

pub returns-in-Refuted : goal.returns-in-Refuted
returns-in-Refuted c =
    let f : follows c.args.g.now c.seek.new.search.log.lemmas ≡ true = subst (λ (s : SearchSeen). follows s.formula c.seek.new.search.log.lemmas ≡ true) c.in_ok-search.ensures c.seek.ensures.follow in
    (subst (λ (p : Proof). follows c.args.g.now p.lemmas ≡ true) (sym c.into_log.ensures) f, subst (λ (p : Proof). proves [] p.lemmas ≡ true) (sym c.into_log.ensures) (c.in_ok-found.ensures.end c.in-Refuted.is))
