use Rattle.std.proofs.Common.{◌++◌, ◌∙◌, ap}
use Rattle.std.specs.Prelude.{codes}
use Rattle.std.proofs.lemmas.Result.{on_ok_weaker}
use Rattle.zi_refused.specs.Words.{reason_text, named_text}
use Rattle.zi_refused.proofs.RefusedLaws.{three}
use Rattle.zi_refused.proofs.writing.put_refusal.Goals as goal

pub returns : goal.returns
returns c =
    on_ok_weaker c.push_str-2.result
    (λ e. three c.args.out.now c.put_named.new.out c.push_str.new.self c.push_str-2.new.self (named_text c.args.interface.now c.args.one.now) (reason_text c.args.one.now.reason) (codes "\n") c.in_ok-put_named.ensures
    (c.in_ok-push_str.ensures.ok ∙ ap (λ t. c.put_named.new.out ++ t) c.reason_words.ensures) e)
    c.push_str-2.ensures.ok
