use Rattle.std.proofs.Common.{ap, ◌∙◌, option_copied}
use Rattle.std.proofs.lemmas.Result.{IfOk-weaker}
use Rattle.zi_elements.specs.Forest.{element_view}
use Rattle.zi_reading.specs.Ways.{ways_of}
use Rattle.zi_faults.specs.Carrying.{said_by}
use Rattle.zi_feed.proofs.MadeLaws.{local_said, local_own}
use Rattle.zi_feed.proofs.impls.local_of.Goals as goal

pub returns-in-Some : goal.returns-in-Some
returns-in-Some c =
    IfOk-weaker c.copied.result _ _
    (λ t h. local_said (ways_of c.args.ways) (said_by c.args.around.now.said) (element_view c.args.e.now) c.args.around.now.made _ t (ap option_copied c.in-Some.is) (h ∙ c.as_ref.ensures.value) c.requires)
    c.copied.ensures

pub returns-in-None : goal.returns-in-None
returns-in-None c =
    IfOk-weaker c.placed_in.result _ _
    (λ t h. local_own (ways_of c.args.ways) (said_by c.args.around.now.said) (element_view c.args.e.now) _ t (ap option_copied c.in-None.is) (c.lent.ensures ∙ c.own_path.ensures) h) c.placed_in.ensures
