use Rattle.std.proofs.Common.{◌∙◌, ap, sym, subst, take}
use Rattle.zi_sat.specs.Behind.{Behind, Back}
use Rattle.zi_walk.proofs.FirmLaws.{back_behind}
use Rattle.zi_conflict.proofs.opposites.OppositesDecider.go_back.Goals as goal

pub returns-clause-behind : goal.returns-clause-behind
returns-clause-behind c =
    let old = c.self.inside.taken.items in
    subst (λ ts. Behind ts c.args.t.now.entries) (sym (c.truncate.ensures.items ∙ ap (λ n. take n old) c.len.ensures)) (back_behind old c.args.t.now.entries (subst (λ ts. Back ts c.args.t.now.entries) (sym c.self.view_is) c.requires))
