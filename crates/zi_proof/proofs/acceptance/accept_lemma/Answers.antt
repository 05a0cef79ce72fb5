use Rattle.std.proofs.Common.{◌∙◌, length, arith}
use Rattle.zi_proof.proofs.Cites.{lits_all}
use Rattle.zi_proof.proofs.acceptance.accept_lemma.Goals as goal

pub assume_opposites-requires : goal.assume_opposites-requires
assume_opposites-requires c =
    lits_all c.args.f.now.variables (length c.clear.new.self) _ (c.clear.ensures.len ∙ c.requires.made) (grind arith)
