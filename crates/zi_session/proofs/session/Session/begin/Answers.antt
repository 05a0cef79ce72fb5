use Rattle.std.proofs.Common.{◌≡◌, ◌∙◌, ap, Vec, Global}
use Rattle.zi_digest.specs.Name.{spelling}
use Rattle.zi_session.specs.Machine.{Making}
use Rattle.zi_session.specs.Phases.{phase_of, residue_of}
use Rattle.zi_session.specs.AtPlace.{calls}
use Rattle.zi_session.specs.declared.work.Work.{Work as Kept}
use Rattle.zi_session.proofs.StoreLemmas.{may_begin, works_for, fit_of, begun}
use Rattle.zi_session.proofs.session.Session.begin.Goals as goal

pub of-requires : goal.of-requires
of-requires c =
    let d = c.args.name in
    let x = c.args.tree in
    let ws = calls c.in-Ok.works.items in
    let g = c.in-Ok.ensures.good in
    fit_of (spelling d) x ws (may_begin d x c.is_whole.ensures g.0 g.1) (works_for d x ws c.in-Ok.ensures.calls)

pub returns-clause-begun : goal.returns-clause-begun
returns-clause-begun c =
    let d = c.args.name in
    let x = c.args.tree in
    let s = c.of.result in
    let ws = calls c.in-Ok.works.items in
    let g = c.in-Ok.ensures.good in
    let first : phase_of s.phase s.number s.done ≡ Making 0 = ap (λ p. phase_of p s.number s.done) c.of.ensures.phase ∙ ap Making c.of.ensures.number in
    begun d x s c.whole_digest.ensures (may_begin d x c.is_whole.ensures g.0 g.1) (c.of.ensures.name ∙ c.in-Ok-text.ensures) (ap (λ (v : Vec Kept Global). calls v.items) c.of.ensures.works ∙ works_for d x ws c.in-Ok.ensures.calls) first (ap (λ p. residue_of p s.number) c.of.ensures.phase)
