use Rattle.std.proofs.Common.{List, sym, subst}
use Rattle.zi_parts.specs.declared.types.Impl.{Impl}
use Rattle.zi_parts.specs.declared.types.Native.{Native}
use Rattle.zi_feed.specs.Shares.{AreShared, NativesAreShared}
use Rattle.zi_universe.proofs.reading.absent.Goals as goal

pub returns-clause-shares : goal.returns-clause-shares
returns-clause-shares c =
    let P : List Impl → Type 0 = λ q. AreShared c.args.shares q in
    let Q : List Native → Type 0 = λ q. NativesAreShared c.args.shares q in
    record { impls = subst P (sym c.new-impls.ensures) c.requires.0; natives = subst Q (sym c.new-natives.ensures) c.requires.1 }
