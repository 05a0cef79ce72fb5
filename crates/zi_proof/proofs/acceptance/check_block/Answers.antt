use Rattle.std.proofs.Common.{◌∙◌, length, arith, []}
use Rattle.zi_proof.proofs.Cites.{lits_all, follows_within}
use Rattle.zi_proof.proofs.acceptance.check_block.Goals as goal

pub assume_all-requires : goal.assume_all-requires
assume_all-requires c =
    lits_all c.args.f.now.variables (length c.clear.new.self) _ (c.clear.ensures.len ∙ c.requires.made) (grind arith)

pub walk_hints-requires-clause-earlier : goal.walk_hints-requires-clause-earlier
walk_hints-requires-clause-earlier c =
    rw c.as_slice.ensures (follows_within c.args.f.now [] c.args.p.now.lemmas c.requires.follows)
