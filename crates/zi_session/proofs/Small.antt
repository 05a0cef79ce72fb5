-- The pieces of a file.
use Rattle.std.proofs.Common.{◌≡◌, ◌≤◌, ℕ, zero, suc, ◌+◌, ◌-◌, ◌*◌, ◌/◌, List, [], ◌∷◌, ◌++◌, length, take, drop, arith, refl, ◌∙◌, ap}
use Rattle.std.proofs.lemmas.List.{append-nil, take-append-drop}
use Rattle.zi_session.specs.Works.{cut, pieces}
use Rattle.zi_session.specs.Rebuilding.{AreSmall, joined, PiecesLaw}

take_small : (n : ℕ) (l : List ℕ) → length (take n l) ≤ n
take_small zero l = omega arith
take_small (suc n) [] = omega arith
take_small (suc n) (x ∷ l) = let h = take_small n l in omega arith

drop_less : (n m : ℕ) (l : List ℕ) → length l ≤ n + m → length (drop n l) ≤ m
drop_less zero m l h = omega arith
drop_less (suc n) m [] h = omega arith
drop_less (suc n) m (x ∷ l) h = drop_less n m l (omega arith)

cut_small : (k : ℕ) (l : List ℕ) → length l ≤ 65536 * k + 65536 → AreSmall (cut k l)
cut_small zero l h = (omega arith, tt)
cut_small (suc k) l h = (take_small 65536 l, cut_small k (drop 65536 l) (drop_less 65536 (65536 * k + 65536) l (omega arith)))

cut_whole : (k : ℕ) (l : List ℕ) → joined (cut k l) ≡ l
cut_whole zero l = append-nil l
cut_whole (suc k) l = ap (λ t. take 65536 l ++ t) (cut_whole k (drop 65536 l)) ∙ take-append-drop 65536 l

cut_many : (k : ℕ) (l : List ℕ) → length (cut k l) ≡ suc k
cut_many zero l = refl
cut_many (suc k) l = ap suc (cut_many k (drop 65536 l))

pub pieces_law : PiecesLaw
unfolding pieces
pieces_law = record {
  whole = λ bytes. cut_whole ((length bytes - 1) / 65536) bytes;
  small = λ bytes. cut_small ((length bytes - 1) / 65536) bytes (omega arith);
  few = λ bytes some. omega (arith, cut_many ((length bytes - 1) / 65536) bytes);
  empty = refl;
}
