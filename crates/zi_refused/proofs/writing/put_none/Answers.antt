use Rattle.std.proofs.Common.{◌++◌, ◌∙◌, ap}
use Rattle.std.specs.Prelude.{codes}
use Rattle.std.proofs.lemmas.Result.{on_ok_weaker}
use Rattle.zi_refused.proofs.RefusedLaws.{three}
use Rattle.zi_refused.proofs.writing.put_none.Goals as goal

pub returns : goal.returns
returns c =
    on_ok_weaker c.push_str-3.result
    (λ e. three c.args.out.now c.push_str.new.self c.push_str-2.new.self c.push_str-3.new.self (codes "  ") c.args.interface.now (codes " has no implementation in its feeds\n") c.in_ok-push_str.ensures.ok
    (c.in_ok-push_str-2.ensures.ok ∙ ap (λ t. c.push_str.new.self ++ t) c.as_str.ensures) e)
    c.push_str-3.ensures.ok
