use Rattle.std.proofs.Common.{refl, sym, ◌∙◌}
use Rattle.zi_words.specs.declared.loader.Loader.TheVariants.{Select, Download, Run, Check, Refute, Why, Conflict}
use Rattle.zi_words.proofs.RightLemmas.{right_none, by_loaders, right_unknown, right_loading, right_manifest, right_store, right_demo, right_launch, right_script, right_show, right_help, right_version}
use Rattle.zi_words.proofs.reader.request.Goals as goal

pub returns-in_default : goal.returns-in_default
returns-in_default c = right_none c.args.words.now c.in_default.ensures.cases

pub returns-in-select : goal.returns-in-select
returns-in-select c =
    right_loading Select refl c.args.words.now c.in-Some.behind.now c.in-Some.word.now c.loading.result c.in-Some.ensures.cases.0 (sym c.as_str.ensures ∙ c.in-select.is) c.loading.ensures

pub returns-in-download : goal.returns-in-download
returns-in-download c =
    right_loading Download refl c.args.words.now c.in-Some.behind.now c.in-Some.word.now c.loading-in-download.result c.in-Some.ensures.cases.0 (sym c.as_str.ensures ∙ c.in-download.is)
    c.loading-in-download.ensures

pub returns-in-run : goal.returns-in-run
returns-in-run c =
    right_loading Run refl c.args.words.now c.in-Some.behind.now c.in-Some.word.now c.loading-in-run.result c.in-Some.ensures.cases.0 (sym c.as_str.ensures ∙ c.in-run.is) c.loading-in-run.ensures

pub returns-in-check : goal.returns-in-check
returns-in-check c =
    right_loading Check refl c.args.words.now c.in-Some.behind.now c.in-Some.word.now c.loading-in-check.result c.in-Some.ensures.cases.0 (sym c.as_str.ensures ∙ c.in-check.is) c.loading-in-check.ensures

pub returns-in-refute : goal.returns-in-refute
returns-in-refute c =
    right_loading Refute refl c.args.words.now c.in-Some.behind.now c.in-Some.word.now c.loading-in-refute.result c.in-Some.ensures.cases.0 (sym c.as_str.ensures ∙ c.in-refute.is)
    c.loading-in-refute.ensures

pub returns-in-why : goal.returns-in-why
returns-in-why c =
    right_loading Why refl c.args.words.now c.in-Some.behind.now c.in-Some.word.now c.loading-in-why.result c.in-Some.ensures.cases.0 (sym c.as_str.ensures ∙ c.in-why.is) c.loading-in-why.ensures

pub returns-in-conflict : goal.returns-in-conflict
returns-in-conflict c =
    right_loading Conflict refl c.args.words.now c.in-Some.behind.now c.in-Some.word.now c.loading-in-conflict.result c.in-Some.ensures.cases.0 (sym c.as_str.ensures ∙ c.in-conflict.is)
    c.loading-in-conflict.ensures

pub returns-in-script : goal.returns-in-script
returns-in-script c =
    right_script c.args.words.now c.in-Some.behind.now c.in-Some.word.now c.script.result c.in-Some.ensures.cases.0 (sym c.as_str.ensures ∙ c.in-script.is) c.script.ensures

pub returns-in-manifest : goal.returns-in-manifest
returns-in-manifest c =
    right_manifest c.args.words.now c.in-Some.behind.now c.in-Some.word.now c.manifest.result c.in-Some.ensures.cases.0 (sym c.as_str.ensures ∙ c.in-manifest.is) c.manifest.ensures

pub returns-in-store : goal.returns-in-store
returns-in-store c =
    right_store c.args.words.now c.in-Some.behind.now c.in-Some.word.now c.store.result c.in-Some.ensures.cases.0 (sym c.as_str.ensures ∙ c.in-store.is) c.store.ensures

pub returns-in-demo : goal.returns-in-demo
returns-in-demo c =
    right_demo c.args.words.now c.in-Some.behind.now c.in-Some.word.now c.demo.result c.in-Some.ensures.cases.0 (sym c.as_str.ensures ∙ c.in-demo.is) c.demo.ensures

pub returns-in-launch : goal.returns-in-launch
returns-in-launch c =
    right_launch c.args.words.now c.in-Some.behind.now c.in-Some.word.now c.launch.result c.in-Some.ensures.cases.0 (sym c.as_str.ensures ∙ c.in-launch.is) c.launch.ensures

pub returns-in-show : goal.returns-in-show
returns-in-show c =
    right_show c.args.words.now c.in-Some.behind.now c.in-Some.word.now c.show.result c.in-Some.ensures.cases.0 (sym c.as_str.ensures ∙ c.in-show.is) c.show.ensures

pub returns-in-text : goal.returns-in-text
returns-in-text c =
    right_help c.args.words.now c.in-Some.behind.now c.in-Some.word.now c.ended.result c.in-Some.ensures.cases.0 (sym c.as_str.ensures ∙ c.in-text.is) c.ended.ensures

pub returns-in-text-2 : goal.returns-in-text-2
returns-in-text-2 c =
    right_version c.args.words.now c.in-Some.behind.now c.in-Some.word.now c.ended-in-text-2.result c.in-Some.ensures.cases.0 (sym c.as_str.ensures ∙ c.in-text-2.is) c.ended-in-text-2.ensures

pub returns-in_default-as_str : goal.returns-in_default-as_str
returns-in_default-as_str c =
    let is = c.as_str.ensures in
    right_unknown c.args.words.now c.in-Some.behind.now c.in-Some.word.now c.in-Some.ensures.cases.0
    (by_loaders c.in-Some.word.now (λ e. c.in_default-as_str.not-select (is ∙ e)) (λ e. c.in_default-as_str.not-download (is ∙ e)) (λ e. c.in_default-as_str.not-run (is ∙ e)) (λ e. c.in_default-as_str.not-check (is ∙ e)) (λ e. c.in_default-as_str.not-refute (is ∙ e)) (λ e. c.in_default-as_str.not-why (is ∙ e)) (λ e. c.in_default-as_str.not-conflict (is ∙ e)) (λ e. c.in_default-as_str.not-script (is ∙ e))) (λ e. c.in_default-as_str.not-manifest (is ∙ e)) (λ e. c.in_default-as_str.not-store (is ∙ e)) (λ e. c.in_default-as_str.not-demo (is ∙ e)) (λ e. c.in_default-as_str.not-launch (is ∙ e)) (λ e. c.in_default-as_str.not-show (is ∙ e))
    (λ e. c.in_default-as_str.not-text (is ∙ e)) (λ e. c.in_default-as_str.not-text-2 (is ∙ e))
