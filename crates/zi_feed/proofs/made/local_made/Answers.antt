use Rattle.std.proofs.Common.{sym, ap, ◌∙◌, option_copied}
use Rattle.std.proofs.lemmas.Result.{IfOk-weaker}
use Rattle.zi_faults.specs.Carrying.{said_by}
use Rattle.zi_feed.specs.Inward.{placed_in}
use Rattle.zi_elements.specs.Forest.{element_view}
use Rattle.zi_reading.specs.Ways.{ways_of}
use Rattle.zi_faults.proofs.SaidLaws.{same_local}
use Rattle.zi_feed.proofs.made.local_made.Goals as goal

pub returns : goal.returns
returns c =
    IfOk-weaker c.copied.result _ _
    (λ v h. h ∙ (c.as_ref.ensures.value ∙ (c.requires.made ∙ ap (placed_in (ways_of c.args.ways)) (sym (same_local (said_by c.args.outer.now.said) (said_by c.args.said.now) (element_view c.args.e.now) c.requires.said (sym c.has.ensures ∙ c.if-has.false)))))) c.copied.ensures
