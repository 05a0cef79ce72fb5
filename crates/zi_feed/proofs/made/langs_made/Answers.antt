use Rattle.std.proofs.Common.{sym, ap, ◌∙◌}
use Rattle.std.proofs.lemmas.Result.{IfOk-weaker}
use Rattle.zi_feed.specs.Impls.{langs_of}
use Rattle.zi_elements.specs.Forest.{element_view}
use Rattle.zi_faults.specs.Carrying.{said_by}
use Rattle.zi_faults.proofs.SaidLaws.{same_langs}
use Rattle.zi_feed.proofs.made.langs_made.Goals as goal

pub returns : goal.returns
returns c =
    IfOk-weaker c.share.result _ _
    (λ v h. h ∙ (c.requires.made ∙ ap langs_of (sym (same_langs (said_by c.args.outer.now.said) (said_by c.args.said.now) (element_view c.args.e.now) c.requires.said (sym c.has.ensures ∙ c.if-has.false))))) c.share.ensures
