use Rattle.std.proofs.Common.{[], sym, subst}
use Rattle.zi_feed.specs.declared.shares.Shares.{Shares}
use Rattle.zi_feed.specs.Shares.{AreShared, NativesAreShared}
use Rattle.zi_universe.proofs.reading.no_shares.Goals as goal

pub returns : goal.returns
returns c =
    let P : Shares → Type 0 = λ q. AreShared q [] × NativesAreShared q [] in
    subst P (sym c.in_ok-held.ensures) (c.in_ok-shares.ensures.none, c.in_ok-shares.ensures.no_natives)
