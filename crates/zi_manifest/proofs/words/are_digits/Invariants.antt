use Rattle.std.proofs.Common.{◌≡◌, take, true}
use Rattle.std.specs.List.{list_all}
use Rattle.zi_manifest.specs.Listing.{is_lower_digit}
use Rattle.zi_manifest.proofs.words.are_digits.Given as goal

abbrev pub invariant-loop-c : goal.invariant-loop-c
invariant-loop-c l = list_all is_lower_digit (take l.c-index l.word) ≡ true
