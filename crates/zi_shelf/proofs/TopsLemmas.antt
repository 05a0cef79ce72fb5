-- Names are told apart, and maps from names after a change.
use Rattle.std.proofs.Common.{◌≡◌, ◌≢◌, ℕ, zero, suc, ◌<◌, true, false, List, [], ◌∷◌, length, Option, Some, None, ◌⊎◌, inl, inr, refl, sym, ◌∙◌, bytes_eq, get_or, set, insert, remove, arith, if◌then◌else◌}
use Rattle.std.proofs.lemmas.Slice.Eq.{bytes_eq-Decides}
use Rattle.std.specs.Ordering.{is_lt}
use Rattle.std.proofs.lemmas.Bool.{and_parts, and_from}
use Rattle.zi_tree.proofs.Order.{cmp, lt_trans, lt_flip, lt_apart}
use mathlib.Core.Path.{fun_ext}
use Rattle.zi_shelf.specs.Names.{Name, put}

pub test_refl : (n : Name) → bytes_eq n n ≡ true
test_refl n = (bytes_eq-Decides n n).1 refl

pub test_true : (a b : Name) → bytes_eq a b ≡ true → a ≡ b
test_true a b h = (bytes_eq-Decides a b).0 h

pub test_false : (a b : Name) → a ≢ b → bytes_eq a b ≡ false
test_false a b ne =
    elim (bytes_eq a b) as (λ t. (t ≡ true → a ≡ b) → t ≡ false) [ true ↦ λ h. absurd (ne (h refl)) | false ↦ λ h. refl ] (bytes_eq-Decides a b).0

pub is_apart : (a b : Name) → bytes_eq a b ≡ false → a ≢ b
is_apart a b h e = let t = (bytes_eq-Decides a b).1 e in cc (t, h)

pub same_or_not : (k n : Name) → (k ≡ n) ⊎ (k ≢ n)
same_or_not k n =
    elim (bytes_eq k n) as (λ b. bytes_eq k n ≡ b → (k ≡ n) ⊎ (k ≢ n)) [ true ↦ λ h. inl (test_true k n h) | false ↦ λ h. inr (is_apart k n h) ] refl

-- a map that differs from f at n alone
pub put_is : {V : Type 0} (f g : Name → Option V) (n : Name) (v : Option V) → g n ≡ v → ((k : Name) → k ≢ n → g k ≡ f k) → g ≡ put f n v
unfolding put
put_is f g n v at off = fun_ext (λ k. elim (same_or_not k n) [
  | inl e ↦ rw (e, test_refl n) at
  | inr ne ↦ rw (test_false k n ne) (off k ne)
])

-- a put of what is there changes nothing
pub put_same : {V : Type 0} (f : Name → Option V) (n : Name) → put f n (f n) ≡ f
put_same f n = sym (put_is f f n (f n) refl (λ k ne. refl))
