-- A text without a separator is one piece, and one with a separator goes on behind the first.
use Rattle.std.proofs.Common.{◌≡◌, ◌≢◌, ℕ, suc, ◌<◌, true, false, List, [], ◌∷◌, ◌++◌, length, get_or, Option, Some, None, refl, arith, lit<}
use Rattle.std.specs.Prelude.{◌==◌, MatchOption}
use Rattle.std.proofs.lemmas.Bool.Decides.{nat_tests}
use Rattle.std.proofs.lemmas.Str.Pattern.{IsSplitOnceResult, split_parts}
use denote.Ref.{Bor}
use Rattle.zi_text.specs.Pieces.{pieces}
use Rattle.zi_text.proofs.PieceLaws.{pieces-none, pieces-first}

-- the pieces of a text by where it is cut at its first dash
pub cut_parts : (bs : List ℕ) (r : Option (Bor (List ℕ) × Bor (List ℕ))) → IsSplitOnceResult 45 bs r
    → MatchOption r (pieces 45 bs ≡ (bs, [])) (λ p. pieces 45 bs ≡ (p.0.now, (pieces 45 p.1.now).0 ∷ (pieces 45 p.1.now).1))
cut_parts bs None h = pieces-none 45 bs (split_parts 45 bs None h (lit< tt))
cut_parts bs (Some x) h =
    let parts = split_parts 45 bs (Some x) h (lit< tt) in
    rw parts.0 (pieces-first 45 x.0.now x.1.now parts.1)
