-- The parts of a path between its slashes.
use Rattle.std.proofs.Common.{◌≡◌, ◌≢◌, ℕ, suc, ◌<◌, List, [], ◌∷◌, ◌++◌, length, Option, Some, None, ap, ◌∙◌, ◌+◌, arith, lit<}
use Rattle.std.proofs.lemmas.List.{length-append}
use Rattle.std.specs.Prelude.{◌==◌}
use Rattle.std.proofs.lemmas.Str.Pattern.{IsSplitOnceResult, split_parts}
use denote.Ref.{Bor}
use Rattle.zi_text.specs.Pieces.{pieces}
use Rattle.zi_words.specs.Forms.{Word}
use Rattle.zi_words.specs.Store.{last_of, last_part}
use Rattle.zi_text.proofs.PieceLaws.{pieces-none, pieces-first}

part_behind : (text before behind : Word) → pieces 47 text ≡ (before, (pieces 47 behind).0 ∷ (pieces 47 behind).1) → last_part text ≡ last_part behind
unfolding last_part
part_behind text before behind e = ap (λ (p : Word × List Word). last_of p.0 p.1) e

part_all : (text : Word) → pieces 47 text ≡ (text, []) → last_part text ≡ text
unfolding last_part
part_all text e = ap (λ (p : Word × List Word). last_of p.0 p.1) e

-- a path without a slash is its own last part
pub no_slash : (bs : List ℕ) (r : Option (Bor (List ℕ) × Bor (List ℕ))) → IsSplitOnceResult 47 bs r → r ≡ None → last_part bs ≡ bs
no_slash bs None h e = part_all bs (pieces-none 47 bs (split_parts 47 bs None h (lit< tt)))
no_slash bs (Some x) h e = cc

-- the last part of another is that of what stands behind its first
pub past_slash : (bs : List ℕ) (before behind : Bor (List ℕ)) → IsSplitOnceResult 47 bs (Some (before, behind))
    → (last_part bs ≡ last_part behind.now) × (length behind.now < length bs)
past_slash bs before behind h =
    let parts = split_parts 47 bs (Some (before, behind)) h (lit< tt) in
    let e : bs ≡ before.now ++ 47 ∷ behind.now = parts.0 in (
      part_behind bs before.now behind.now (ap (pieces 47) e ∙ pieces-first 47 before.now behind.now parts.1),
      shorter (length bs) (length before.now) (length behind.now) (ap length e ∙ length-append before.now (47 ∷ behind.now)),
    )
  where
    shorter : (n a b : ℕ) → n ≡ a + suc b → b < n
    shorter n a b e = omega arith
