use Rattle.std.proofs.Common.{sym, ap, ◌∙◌}
use Rattle.std.specs.Prelude.{option_and_then}
use Rattle.zi_choice.specs.Choice.{candidate_at}
use Rattle.zi_choice.proofs.TaskLaws.{lent_none, lent_some}
use Rattle.zi_why.specs.Known.{universe_of}
use Rattle.zi_why.proofs.setting.chosen.Goals as goal

pub returns-in_default : goal.returns-in_default
returns-in_default c = ap (λ o. option_and_then (λ d. candidate_at (universe_of c.args.on.now) c.args.i d) o) (sym c.picked.ensures ∙ c.in_default.is)

pub returns-in_default-candidate : goal.returns-in_default-candidate
returns-in_default-candidate c =
    ap (λ o. option_and_then (λ d. candidate_at (universe_of c.args.on.now) c.args.i d) o) (sym c.picked.ensures ∙ c.in-Some.is) ∙ lent_none c.candidate.result _ c.candidate.ensures c.in_default-candidate.is

pub returns : goal.returns
returns c =
    let k = lent_some c.candidate.result c.in-Some-candidate.k _ c.candidate.ensures c.in-Some-candidate.is in
    (k, ap (λ o. option_and_then (λ d. candidate_at (universe_of c.args.on.now) c.args.i d) o) (sym c.picked.ensures ∙ c.in-Some.is) ∙ k)
