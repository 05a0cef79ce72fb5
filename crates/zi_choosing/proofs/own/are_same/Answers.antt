use Rattle.std.proofs.Common.{sym, ◌∙◌}
use Rattle.zi_choosing.proofs.SameLaws.{selections_tell}
use Rattle.zi_choosing.proofs.own.are_same.Goals as goal

pub returns : goal.returns
returns c =
    let tells = selections_tell c.args.a.now c.args.b.now in
    (λ t. tells.0 (sym c.eq.ensures ∙ t), λ e. c.eq.ensures ∙ tells.1 e)
