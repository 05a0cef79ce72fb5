use Rattle.std.proofs.Common.{◌∙◌, map, filter, not, sym, ap, length}
use Rattle.std.proofs.lemmas.Bool.{eqb-true, eq-eqb}
use Rattle.zi_digest.specs.Name.{spelling}
use Rattle.zi_store.specs.Rising.{is_among}
use Rattle.zi_purge.specs.Phases.{phase_of}
use Rattle.zi_purge.proofs.StepLemmas.{texts_are, before_first, closes_if, starts_if}
use Rattle.zi_purge.proofs.purge.Purge.begin.Goals.{then-is_empty, else-is_empty}
use Rattle.zi_purge.proofs.purge.Purge.begin.Goals as goal

pub returns : goal.returns
returns c =
    let kept = c.in_ok-kept.kept.items in
    let texts = c.in_ok-texts.texts.items in
    let k = c.in_ok-kept.ensures ∙ ap (map spelling) c.as_slice.ensures in
    let n = c.in_ok-names.ensures ∙ ap (λ l. filter (λ d. not (is_among l (spelling d))) c.as_slice-3.result.now) c.as_slice-2.ensures.value
    ∙ ap (filter (λ d. not (is_among kept (spelling d)))) c.as_slice-3.ensures in
    let t = c.in_ok-texts.ensures ∙ ap (map spelling) c.as_slice-4.ensures.value in
    let all = texts_are kept texts c.args.kept c.args.there c.in_ok-names.names.items k n t in
    let long = ap (λ l. length l) (sym c.as_slice-5.ensures.value) in
    elim c.if-is_empty.branch [
      | then-is_empty w ↦ before_first _ texts _ _ all (ap (λ p. phase_of p 0 0) w.phase-is ∙ closes_if texts (long ∙ eqb-true (length c.as_slice-5.result.now) 0 (sym w.if-is_empty.ensures))) (ap (map spelling) c.new.ensures)
      | else-is_empty w ↦ before_first _ texts _ _ all (ap (λ p. phase_of p 0 0) w.phase-is ∙ starts_if texts (λ e. cc (eq-eqb (length c.as_slice-5.result.now) 0 (sym long ∙ e), w.if-is_empty.ensures))) (ap (map spelling) c.new.ensures)
    ]
