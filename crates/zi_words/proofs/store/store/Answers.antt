use Rattle.std.proofs.Common.{sym, ◌∙◌}
use Rattle.zi_words.proofs.StoreLemmas.{store_none, store_unknown, store_add, store_verify, store_purge, store_list}
use Rattle.zi_words.proofs.store.store.Goals as goal

pub returns-in_default : goal.returns-in_default
returns-in_default c = store_none c.args.words.now c.in_default.ensures.cases

pub returns-in-add : goal.returns-in-add
returns-in-add c =
    store_add c.args.words.now c.in-Some.behind.now c.in-Some.word.now c.add.result c.in-Some.ensures.cases.0 (sym c.as_str.ensures ∙ c.in-add.is) c.add.ensures

pub returns-in-verify : goal.returns-in-verify
returns-in-verify c =
    store_verify c.args.words.now c.in-Some.behind.now c.in-Some.word.now c.verify.result c.in-Some.ensures.cases.0 (sym c.as_str.ensures ∙ c.in-verify.is) c.verify.ensures

pub returns-in-purge : goal.returns-in-purge
returns-in-purge c =
    store_purge c.args.words.now c.in-Some.behind.now c.in-Some.word.now c.purge.result c.in-Some.ensures.cases.0 (sym c.as_str.ensures ∙ c.in-purge.is) c.purge.ensures

pub returns-in-list : goal.returns-in-list
returns-in-list c =
    store_list c.args.words.now c.in-Some.behind.now c.in-Some.word.now c.ended.result c.in-Some.ensures.cases.0 (sym c.as_str.ensures ∙ c.in-list.is) c.ended.ensures

pub returns-in_default-as_str : goal.returns-in_default-as_str
returns-in_default-as_str c =
    store_unknown c.args.words.now c.in-Some.behind.now c.in-Some.word.now c.in-Some.ensures.cases.0 (λ e. c.in_default-as_str.not-add (c.as_str.ensures ∙ e))
    (λ e. c.in_default-as_str.not-verify (c.as_str.ensures ∙ e)) (λ e. c.in_default-as_str.not-purge (c.as_str.ensures ∙ e)) (λ e. c.in_default-as_str.not-list (c.as_str.ensures ∙ e))
