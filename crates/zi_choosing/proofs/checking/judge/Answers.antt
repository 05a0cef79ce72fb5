use Rattle.std.proofs.lemmas.Result.{err_from_is_err_and}
use Rattle.zi_choosing.proofs.CheckLemmas.{no_candidates, not_asked, not_certified, judged, unbuilt}
use Rattle.zi_choosing.proofs.checking.judge.Goals as goal

pub returns-then-not-are_candidates : goal.returns-then-not-are_candidates
returns-then-not-are_candidates c =
    no_candidates c.args.universe.now c.args.req.now c.args.sels c.args.certificate.now _ _ c.are_candidates.result c.in_ok-names.ensures c.as_slice.ensures c.are_candidates.ensures c.if-not-are_candidates.true

pub returns-then-not-are_asked_for : goal.returns-then-not-are_asked_for
returns-then-not-are_asked_for c =
    not_asked c.args.universe.now c.args.req.now c.args.sels c.args.certificate.now _ _ c.are_candidates.result c.are_asked_for.result c.in_ok-names.ensures c.as_slice.ensures c.are_candidates.ensures c.if-not-are_candidates.false
    c.are_asked_for.ensures c.if-not-are_asked_for.true

pub returns-in_err-is_best : goal.returns-in_err-is_best
returns-in_err-is_best c =
    let q = err_from_is_err_and c.from_residual-in_err-is_best.result c.from_residual-in_err-is_best.ensures.1 in
    rw (q.1, q.2)
    (unbuilt c.args.universe.now c.args.req.now c.args.sels c.args.certificate.now _ _ c.are_candidates.result c.are_asked_for.result c.in_err-is_best.field-0.0 c.in_ok-names.ensures c.as_slice.ensures c.are_candidates.ensures
    c.if-not-are_candidates.false c.are_asked_for.ensures c.if-not-are_asked_for.false c.in_err-is_best.ensures.value)

pub returns-then-not-is_best : goal.returns-then-not-is_best
returns-then-not-is_best c =
    not_certified c.args.universe.now c.args.req.now c.args.sels c.args.certificate.now _ _ _ c.are_candidates.result c.are_asked_for.result c.in_ok-is_best.is_best c.in_ok-choice.choice.picks c.in_ok-names.ensures c.as_slice.ensures
    c.are_candidates.ensures c.if-not-are_candidates.false c.are_asked_for.ensures c.if-not-are_asked_for.false c.in_ok-choice.ensures c.as_slice-2.ensures c.in_ok-is_best.ensures.few c.in_ok-is_best.ensures.value c.if-not-is_best.true

pub returns : goal.returns
returns c =
    judged c.args.universe.now c.args.req.now c.args.sels c.args.certificate.now _ _ _ c.are_candidates.result c.are_asked_for.result c.in_ok-is_best.is_best c.in_ok-is_own.is_own c.in_ok-choice.choice.picks c.in_ok-names.ensures
    c.as_slice.ensures c.are_candidates.ensures c.if-not-are_candidates.false c.are_asked_for.ensures c.if-not-are_asked_for.false c.in_ok-choice.ensures c.as_slice-2.ensures c.in_ok-is_best.ensures.few c.in_ok-is_best.ensures.value
    c.if-not-is_best.false c.in_ok-is_best.ensures.best c.in_ok-is_own.ensures
