use Rattle.std.proofs.Common.{refl, sym, ◌∙◌}
use Rattle.zi_packages.proofs.PickLaws.{named_new, named_old}
use Rattle.zi_packages.proofs.picking.name_at.Goals as goal

pub returns-in_ok-push : goal.returns-in_ok-push
returns-in_ok-push c = λ h.
    named_new c.args.rows.now c.args.natives.now c.args.at c.index-natives-at.result c.requires c.index-natives-at.is c.args.seen.now.keys c.args.named.now.items h
    _ c.insert.new.self.keys c.push.new.self.items c.in_ok-name.name c.in_ok-insert.field-0 (sym c.is_for.ensures ∙ c.if-not-is_for.false) refl refl c.in-Some.ensures
    c.in_ok-name.ensures c.in_ok-insert.ensures.added c.if-branch.true c.in_ok-insert.ensures.keys c.in_ok-push.ensures.items

pub returns-else-branch : goal.returns-else-branch
returns-else-branch c = λ h.
    named_old c.args.rows.now c.args.natives.now c.args.at c.index-natives-at.result c.requires c.index-natives-at.is c.args.seen.now.keys c.args.named.now.items h
    c.insert.new.self.keys c.in_ok-name.name c.in_ok-insert.field-0 (sym c.is_for.ensures ∙ c.if-not-is_for.false)
    c.in_ok-name.ensures c.in_ok-insert.ensures.added c.if-branch.false c.in_ok-insert.ensures.keys
