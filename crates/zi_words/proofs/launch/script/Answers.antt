use Rattle.std.proofs.Common.{sym, ap, ◌∙◌}
use Rattle.std.specs.Prelude.{codes, bytes_eq}
use Rattle.zi_words.proofs.ScriptLemmas.{script_files, script_loads, is_word, none_first, other_first}
use Rattle.zi_words.proofs.launch.script.Goals as goal

pub returns-in-None : goal.returns-in-None
returns-in-None c = script_loads c.args.words.now c.loading.result (none_first c.args.words.now c.in-None.ensures.cases) c.loading.ensures

pub returns-then-eq : goal.returns-then-eq
returns-then-eq c =
    script_files c.args.words.now c.in-Some.behind.now c.in-Some.word.now c.script_file.result c.in-Some.ensures.cases.0
    (sym c.as_str.ensures ∙ is_word c.as_str.result.now (codes "--launch") (sym c.eq.ensures ∙ c.if-eq.true)) c.script_file.ensures

pub returns-else-eq : goal.returns-else-eq
returns-else-eq c =
    script_loads c.args.words.now c.loading-else-eq.result
    (other_first c.args.words.now c.in-Some.behind.now c.in-Some.word.now c.in-Some.ensures.cases.0
    (ap (λ w. bytes_eq w (codes "--launch")) (sym c.as_str.ensures) ∙ (sym c.eq.ensures ∙ c.if-eq.false))) c.loading-else-eq.ensures
