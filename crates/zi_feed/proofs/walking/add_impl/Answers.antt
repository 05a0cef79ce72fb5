use Rattle.std.proofs.Common.{◌++◌, ap, sym, ◌∙◌}
use Rattle.std.proofs.lemmas.Result.{IfOk-weaker}
use Rattle.zi_elements.specs.Forest.{element_view}
use Rattle.zi_reading.specs.Ways.{ways_of}
use Rattle.zi_reading.specs.Words.{optional}
use Rattle.zi_faults.specs.Carrying.{said_by}
use Rattle.zi_feed.proofs.GatherLaws.{nothing_added}
use Rattle.zi_feed.proofs.ShareLaws.{impl_numbers, gathered_none}
use Rattle.zi_feed.proofs.walking.add_impl.Goals as goal

pub impl_at-requires-clause-version : goal.impl_at-requires-clause-version
impl_at-requires-clause-version c = ap (λ m. m.version) c.requires.made

pub push-requires-clause-fit : goal.push-requires-clause-fit
push-requires-clause-fit c =
    impl_numbers (ways_of c.args.ways) (said_by c.args.around.now.said) c.args.around.now.added (element_view c.args.e.now) c.args.around.now.made c.in-Some.imp
    c.args.found.now.shares c.args.around.now.numbers c.requires.made (sym c.in-Some.is ∙ c.in_ok-imp.ensures) c.requires.fit

pub returns-in-None-clause-impls : goal.returns-in-None-clause-impls
returns-in-None-clause-impls c = nothing_added _ _ (ap optional (sym c.in_ok-imp.ensures ∙ c.in-None.is))

pub returns-in-None-clause-shares : goal.returns-in-None-clause-shares
returns-in-None-clause-shares c = gathered_none c.args.found.now c.requires.shared

pub returns-in-Some-clause-impls : goal.returns-in-Some-clause-impls
returns-in-Some-clause-impls c =
    IfOk-weaker c.push.result _ _ (λ v h. h ∙ ap (λ o. c.args.found.now.impls ++ optional o) (sym c.in-Some.is ∙ c.in_ok-imp.ensures)) c.push.ensures.impls
