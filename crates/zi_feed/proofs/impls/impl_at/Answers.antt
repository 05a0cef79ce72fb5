use Rattle.std.proofs.Common.{ap}
use Rattle.zi_feed.proofs.impls.impl_at.Goals as goal

pub impl_with-requires-clause-arch : goal.impl_with-requires-clause-arch
impl_with-requires-clause-arch c = ap (λ m. m.arch) c.requires.made

pub impl_with-requires-clause-langs : goal.impl_with-requires-clause-langs
impl_with-requires-clause-langs c = ap (λ m. m.langs) c.requires.made
