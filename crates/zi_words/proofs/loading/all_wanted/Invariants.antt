use Rattle.std.proofs.Common.{◌≡◌, map}
use Rattle.zi_words.specs.Options.{wanted}
use Rattle.zi_words.proofs.loading.all_wanted.Given as goal

abbrev pub invariant-loop-limit : goal.invariant-loop-limit
invariant-loop-limit l = l.all ≡ map (wanted l.root) l.yielded
