use Rattle.std.proofs.Common.{sym, subst}
use Rattle.zi_sat.specs.Behind.{Behind}
use Rattle.zi_walk.proofs.FirmLaws.{decided_longer}
use Rattle.zi_conflict.proofs.opposites.OppositesDecider.pick.Goals as goal

pub least-requires : goal.least-requires
least-requires c =
    decided_longer c.self.inside.low c.self.inside.taken.items c.args.t.now.entries (subst (λ ts. Behind ts c.args.t.now.entries) (sym c.self.view_is) c.requires.behind) c.are_new.ensures.undecided c.self.invariant
