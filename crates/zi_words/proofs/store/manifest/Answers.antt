use Rattle.std.proofs.Common.{sym, ap, ◌∙◌}
use Rattle.zi_words.specs.Store.{is_name}
use Rattle.zi_words.proofs.StoreLemmas.{manifest_none, manifest_unknown, manifest_short, manifest_unnamed, manifest_ended}
use Rattle.zi_words.proofs.store.manifest.Goals as goal

pub returns-in_default : goal.returns-in_default
returns-in_default c = manifest_none c.args.words.now c.in_default.ensures.cases

pub returns-in_default-algorithm_of : goal.returns-in_default-algorithm_of
returns-in_default-algorithm_of c =
    manifest_unknown c.args.words.now c.in-Some.behind.now c.in-Some.word.now c.in-Some.ensures.cases.0
    (λ a e. c.in_default-algorithm_of.ensures a (c.as_str.ensures ∙ e))

pub returns-in_default-split_first : goal.returns-in_default-split_first
returns-in_default-split_first c =
    manifest_short c.args.words.now c.in-Some.behind.now c.in-Some.word.now c.in-Some-algorithm_of.algorithm c.in-Some.ensures.cases.0
    (sym c.as_str.ensures ∙ c.in-Some-algorithm_of.ensures) c.in_default-split_first.ensures.cases

pub returns-then-not-is_name : goal.returns-then-not-is_name
returns-then-not-is_name c =
    manifest_unnamed c.args.words.now c.in-Some.behind.now c.in-Some-split_first.last.now c.in-Some.word.now c.in-Some-split_first.name.now c.in-Some-algorithm_of.algorithm
    c.in-Some.ensures.cases.0 (sym c.as_str.ensures ∙ c.in-Some-algorithm_of.ensures) c.in-Some-split_first.ensures.cases.0
    (sym (ap is_name c.as_str-2.ensures) ∙ (sym c.is_name.ensures ∙ c.if-not-is_name.true))

pub returns : goal.returns
returns c =
    manifest_ended c.args.words.now c.in-Some.behind.now c.in-Some-split_first.last.now c.in-Some.word.now c.in-Some-split_first.name.now c.in_ok-name.name
    c.in-Some-algorithm_of.algorithm c.ended.result c.in-Some.ensures.cases.0 (sym c.as_str.ensures ∙ c.in-Some-algorithm_of.ensures) c.in-Some-split_first.ensures.cases.0
    (sym (ap is_name c.as_str-2.ensures) ∙ (sym c.is_name.ensures ∙ c.if-not-is_name.false)) c.in_ok-name.ensures c.ended.ensures
