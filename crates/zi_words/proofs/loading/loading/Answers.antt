use Rattle.std.proofs.Common.{◌≡◌, sym, ap, ◌∙◌, subst}
use Rattle.zi_words.specs.declared.request.Request.{Request}
use Rattle.zi_words.specs.Options.{ask_of}
use Rattle.zi_words.specs.Words.{request_of, AsksLoading}
use Rattle.zi_words.proofs.EndLemmas.{end_refused, loading_right}
use Rattle.zi_words.proofs.loading.loading.Goals as goal

pub returns-in-Err : goal.returns-in-Err
returns-in-Err c =
    end_refused c.args.loader c.args.words.now c.in_ok-asked.left.now c.past_dashes.result.now c.in_ok-asked.asked c.in-Err.refusal c.in_ok-asked.ensures
    c.past_dashes.ensures c.in-Err.ensures

pub returns : goal.returns
returns c =
    let P : Request → Type 0 = λ r. AsksLoading c.args.loader c.args.words.now r in
    let root = c.in-Ok.end.0.now in
    let named = c.in-Ok.end.1.now in
    let asked = c.in_ok-asked.asked in
    let same : c.of.result ≡ root = c.of.ensures ∙ c.in_ok-text.ensures in
    subst P (sym (c.in_ok-request.ensures ∙ ap (λ a. request_of c.args.loader a asked.proof named) (c.in_ok-ask.ensures ∙ ap (λ r. ask_of r asked) same)))
    (loading_right c.args.loader c.args.words.now c.in_ok-asked.left.now c.past_dashes.result.now asked root named c.in_ok-asked.ensures c.past_dashes.ensures c.in-Ok.ensures)
