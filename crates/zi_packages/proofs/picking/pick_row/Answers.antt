use Rattle.std.proofs.Common.{refl, ◌∙◌}
use Rattle.zi_packages.proofs.PickLaws.{picked_new, picked_old, one_at}
use Rattle.zi_packages.proofs.picking.pick_row.Goals as goal

pub returns-in_ok-push-clause-picks : goal.returns-in_ok-push-clause-picks
returns-in_ok-push-clause-picks c = λ is all h.
    picked_new is all c.args.ids.now.keys c.insert.new.self.keys c.args.picks.now.items c.push.new.self.items c.args.named.now.native.now c.args.row.now c.in_ok-id.id c.in_ok-insert.field-0
    _ (c.in_ok-id.ensures ∙ c.id.ensures) refl refl c.in_ok-insert.ensures.added c.if-branch.true c.in_ok-insert.ensures.keys c.in_ok-push.ensures.items h

pub returns-in_ok-push-clause-at : goal.returns-in_ok-push-clause-at
returns-in_ok-push-clause-at c = λ ns there h. one_at ns c.args.picks.now.items c.push.new.self.items _ c.args.named.now refl refl c.in_ok-push.ensures.items there h

pub returns-else-branch-clause-picks : goal.returns-else-branch-clause-picks
returns-else-branch-clause-picks c = λ is all h.
    picked_old is all c.args.ids.now.keys c.insert.new.self.keys c.args.picks.now.items c.args.named.now.native.now c.args.row.now c.in_ok-id.id c.in_ok-insert.field-0
    (c.in_ok-id.ensures ∙ c.id.ensures) c.in_ok-insert.ensures.added c.if-branch.false c.in_ok-insert.ensures.keys h
