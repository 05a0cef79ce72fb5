use Rattle.std.proofs.Common.{ap}
use Rattle.zi_feed.proofs.made.made_at.Goals as goal

pub version_made-requires-clause-made : goal.version_made-requires-clause-made
version_made-requires-clause-made c = ap (λ m. m.version) c.requires.made

pub arch_made-requires-clause-made : goal.arch_made-requires-clause-made
arch_made-requires-clause-made c = ap (λ m. m.arch) c.requires.made

pub langs_made-requires-clause-made : goal.langs_made-requires-clause-made
langs_made-requires-clause-made c = ap (λ m. m.langs) c.requires.made

pub local_made-requires-clause-made : goal.local_made-requires-clause-made
local_made-requires-clause-made c = ap (λ m. m.local) c.requires.made
