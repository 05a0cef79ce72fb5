-- Where a name has a colon.
use Rattle.std.proofs.Common.{◌≡◌, ℕ, ◌<◌, true, false, List, [], ◌∷◌, length, refl, arith}
use Rattle.std.proofs.lemmas.Bool.Decides.{nat_tests}
use Rattle.std.specs.List.{position_or_len}
use Rattle.zi_names.specs.Names.{is_colon, has_colon}

pub colon_found : (n : List ℕ) → position_or_len is_colon n < length n → has_colon n ≡ true
colon_found [] h = absurd (omega arith)
colon_found (c ∷ cs) h =
    let more : position_or_len is_colon cs < length cs → has_colon cs ≡ true = colon_found cs in
    grind (arith, nat_tests)

pub colon_absent : (n : List ℕ) → position_or_len is_colon n ≡ length n → has_colon n ≡ false
colon_absent [] h = refl
colon_absent (c ∷ cs) h =
    let more : position_or_len is_colon cs ≡ length cs → has_colon cs ≡ false = colon_absent cs in
    grind (arith, nat_tests)

pub ruleset colons = (colon_found, colon_absent)
