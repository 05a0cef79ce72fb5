-- Launches with their statuses, where there are as many of both.
use Rattle.std.proofs.Common.{◌≡◌, ℕ, suc, List, [], ◌∷◌, ◌++◌, length, map, refl, ap, arith}
use Rattle.zi_outside.specs.declared.launch.Launch.{Launch}
use Rattle.zi_outside.specs.Launched.{Ran}
use Rattle.zi_outside.specs.Paired.{paired}

-- one more of both
pub paired-push : (ls : List Launch) (ns : List ℕ) (l : Launch) (n : ℕ) → length ls ≡ length ns
    → paired (ls ++ l ∷ []) (ns ++ n ∷ []) ≡ paired ls ns ++ record { launch = l; status = n } ∷ []
paired-push [] [] l n e = refl
paired-push [] (m ∷ ns) l n e = absurd (omega (arith, e))
paired-push (k ∷ ls) [] l n e = absurd (omega (arith, e))
paired-push (k ∷ ls) (m ∷ ns) l n e = ap (λ q. record { launch = k; status = m } ∷ q) (paired-push ls ns l n (omega (arith, e)))

pub map-launch-paired : (ls : List Launch) (ns : List ℕ) → length ls ≡ length ns → map (λ (r : Ran). r.launch) (paired ls ns) ≡ ls
map-launch-paired [] ns e = refl
map-launch-paired (l ∷ ls) [] e = absurd (omega (arith, e))
map-launch-paired (l ∷ ls) (n ∷ ns) e = ap (λ q. l ∷ q) (map-launch-paired ls ns (omega (arith, e)))

pub map-status-paired : (ls : List Launch) (ns : List ℕ) → length ls ≡ length ns → map (λ (r : Ran). r.status) (paired ls ns) ≡ ns
map-status-paired [] [] e = refl
map-status-paired [] (n ∷ ns) e = absurd (omega (arith, e))
map-status-paired (l ∷ ls) [] e = absurd (omega (arith, e))
map-status-paired (l ∷ ls) (n ∷ ns) e = ap (λ q. n ∷ q) (map-status-paired ls ns (omega (arith, e)))

pub length-paired : (ls : List Launch) (ns : List ℕ) → length ls ≡ length ns → length (paired ls ns) ≡ length ns
length-paired [] [] e = refl
length-paired [] (n ∷ ns) e = absurd (omega (arith, e))
length-paired (l ∷ ls) [] e = absurd (omega (arith, e))
length-paired (l ∷ ls) (n ∷ ns) e = ap suc (length-paired ls ns (omega (arith, e)))
