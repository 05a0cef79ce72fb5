use Rattle.std.proofs.Common.{sym, ap, ◌∙◌}
use Rattle.zi_words.specs.Store.{is_name, last_part}
use Rattle.zi_words.proofs.StoreLemmas.{files_begun, files_next, files_done, files_wrong}
use Rattle.zi_words.proofs.store.paths.Goals as goal

pub loop-word-init : goal.loop-word-init
loop-word-init c = files_begun c.args.words.now c.new-files.result c.new-files.ensures

pub returns-then-not-is_name : goal.returns-then-not-is_name
returns-then-not-is_name c =
    files_wrong c.args.words.now c.loop-word.left.now c.in-Some.behind.now c.loop-word.files c.in-Some.word.now c.loop-word.invariant c.in-Some.ensures.cases.0
    (sym (ap is_name (c.last_part.ensures ∙ ap last_part c.as_str.ensures)) ∙ (sym c.is_name.ensures ∙ c.if-not-is_name.true))

pub loop-word-preserved : goal.loop-word-preserved
loop-word-preserved c =
    files_next c.args.words.now c.loop-word.left.now c.in-Some.behind.now c.loop-word.files c.push.new.self c.in-Some.word.now c.in_ok-file.file c.loop-word.invariant c.in-Some.ensures.cases.0
    (sym (ap is_name (c.last_part.ensures ∙ ap last_part c.as_str.ensures)) ∙ (sym c.is_name.ensures ∙ c.if-not-is_name.false)) c.in_ok-push.ensures.ok c.in_ok-file.ensures

pub returns : goal.returns
returns c = files_done c.args.words.now c.loop-word.left.now c.loop-word.files c.loop-word.invariant c.in_default.ensures.cases
