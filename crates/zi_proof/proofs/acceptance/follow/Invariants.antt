use Rattle.std.proofs.Common.{◌≡◌, drop, take, length, true}
use Rattle.zi_proof.specs.Accepted.{follows_after, follows, lemmas_within}
use Rattle.zi_proof.proofs.acceptance.follow.Given as goal

abbrev pub invariant-loop-i : goal.invariant-loop-i
invariant-loop-i l =
    (follows_after l.f (take l.i l.lemmas) (drop l.i l.lemmas) ≡ follows l.f l.lemmas)
    × (lemmas_within l.f.variables (take l.i l.lemmas) ≡ true) × (length l.marks ≡ length l.initial.marks)
