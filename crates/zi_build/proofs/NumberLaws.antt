-- Where the numbers of items begin, added up one after another.
use Rattle.std.proofs.Common.{◌≡◌, ℕ, zero, suc, ◌+◌, ◌<◌, ◌≤◌, List, [], ◌∷◌, ◌++◌, length, take, get_or, sym, ap, ◌∙◌, arith, Some}
use Rattle.std.specs.Prelude.{slice_get}
use Rattle.std.proofs.lemmas.Option.{same_Some}
use Rattle.zi_universe.specs.declared.types.Interface.{Interface}
use Rattle.zi_choice.specs.Vars.{total, before, own_commands, all_commands}
use Rattle.zi_build.specs.Writing.{starts, command_starts}
use Rattle.zi_names.proofs.Expanded.{front_more}
use Rattle.zi_feed.specs.IdLaws.{none_some}

pub starts_at : {A : Type 0} (f : A → ℕ) (n : ℕ) (xs : List A) (i : ℕ) (x : A) (d : ℕ) → slice_get xs i ≡ Some x → (get_or (starts f n xs) i d ≡ n + before f xs i) × (i < length (starts f n xs))
starts_at f n [] i x d e = absurd (none_some e)
starts_at f n (y ∷ xs) zero x d e = (omega arith, omega arith)
starts_at f n (y ∷ xs) (suc i) x d e =
    let h = starts_at f (n + f y) xs i x d e in
    let a = h.0 in
    let b = h.1 in (omega (arith, a), omega (arith, b))

pub command_starts_at : (n : ℕ) (u : List Interface) (i : ℕ) (x : Interface) (d : List ℕ) → slice_get u i ≡ Some x → (get_or (command_starts n u) i d ≡ starts own_commands (n + before all_commands u i) x.candidates) × (i < length (command_starts n u))
command_starts_at n [] i x d e = absurd (none_some e)
command_starts_at n (y ∷ u) zero x d e =
    let z : n ≡ n + 0 = omega arith in
    (ap (λ (w : Interface). starts own_commands n w.candidates) (same_Some _ _ e) ∙ ap (λ m. starts own_commands m x.candidates) z, omega arith)
command_starts_at n (y ∷ u) (suc i) x d e =
    let h = command_starts_at (n + all_commands y) u i x d e in
    let z : (n + all_commands y) + before all_commands u i ≡ n + (all_commands y + before all_commands u i) = omega arith in
    let b = h.1 in (h.0 ∙ ap (λ m. starts own_commands m x.candidates) z, omega (arith, b))

-- one item more
total_last : {A : Type 0} (f : A → ℕ) (xs : List A) (x : A) → total f (xs ++ x ∷ []) ≡ total f xs + f x
total_last f [] x = omega arith
total_last f (y ∷ xs) x = let h = total_last f xs x in omega (arith, h)

starts_last : {A : Type 0} (f : A → ℕ) (n : ℕ) (xs : List A) (x : A) → starts f n (xs ++ x ∷ []) ≡ starts f n xs ++ (n + total f xs) ∷ []
starts_last f n [] x = let z : n ≡ n + 0 = omega arith in ap (λ m. m ∷ []) z
starts_last f n (y ∷ xs) x =
    let z : (n + f y) + total f xs ≡ n + (f y + total f xs) = omega arith in
    ap (λ ms. n ∷ ms) (starts_last f (n + f y) xs x) ∙ ap (λ m. n ∷ (starts f (n + f y) xs ++ m ∷ [])) z

command_starts_last : (n : ℕ) (u : List Interface) (x : Interface) → command_starts n (u ++ x ∷ []) ≡ command_starts n u ++ starts own_commands (n + total all_commands u) x.candidates ∷ []
command_starts_last n [] x = let z : n ≡ n + 0 = omega arith in ap (λ m. starts own_commands m x.candidates ∷ []) z
command_starts_last n (y ∷ u) x =
    let z : (n + all_commands y) + total all_commands u ≡ n + (all_commands y + total all_commands u) = omega arith in
    ap (λ rows. starts own_commands n y.candidates ∷ rows) (command_starts_last (n + all_commands y) u x)
    ∙ ap (λ m. starts own_commands n y.candidates ∷ (command_starts (n + all_commands y) u ++ starts own_commands m x.candidates ∷ [])) z

pub total_more : {A : Type 0} (f : A → ℕ) (xs : List A) (i : ℕ) (x : A) → i < length xs → x ≡ get_or xs i x → total f (take (i + 1) xs) ≡ total f (take i xs) + f x
total_more f xs i x l e = ap (total f) (front_more xs i x l e) ∙ total_last f (take i xs) x

pub total_part : {A : Type 0} (f : A → ℕ) (xs : List A) (i : ℕ) → total f (take i xs) ≤ total f xs
total_part f [] zero = omega arith
total_part f [] (suc i) = omega arith
total_part f (x ∷ xs) zero = omega arith
total_part f (x ∷ xs) (suc i) = let h = total_part f xs i in omega (arith, h)

-- so far, and with one item more
pub total_within : {A : Type 0} (f : A → ℕ) (xs : List A) (i : ℕ) (x : A) → i < length xs → x ≡ get_or xs i x → total f (take i xs) + f x ≤ total f xs
total_within f xs i x l e = let a = total_more f xs i x l e in let b = total_part f xs (i + 1) in omega (arith, a, b)

pub starts_more : {A : Type 0} (f : A → ℕ) (n : ℕ) (xs : List A) (i : ℕ) (x : A) (ys zs : List ℕ) (m : ℕ) → i < length xs → x ≡ get_or xs i x → ys ≡ starts f n (take i xs) → m ≡ n + total f (take i xs) → zs ≡ ys ++ m ∷ [] → zs ≡ starts f n (take (i + 1) xs)
starts_more f n xs i x ys zs m l e h k p =
    p ∙ ap (λ y. y ++ m ∷ []) h ∙ ap (λ k. starts f n (take i xs) ++ k ∷ []) k ∙ sym (starts_last f n (take i xs) x) ∙ ap (starts f n) (sym (front_more xs i x l e))

pub command_starts_more : (n : ℕ) (u : List Interface) (i : ℕ) (x : Interface) (ys zs : List (List ℕ)) (row : List ℕ) (m : ℕ) → i < length u → x ≡ get_or u i x → ys ≡ command_starts n (take i u) → m ≡ n + total all_commands (take i u) → row ≡ starts own_commands m x.candidates → zs ≡ ys ++ row ∷ [] → zs ≡ command_starts n (take (i + 1) u)
command_starts_more n u i x ys zs row m l e h k r p =
    p ∙ ap (λ y. y ++ row ∷ []) h ∙ ap (λ z. command_starts n (take i u) ++ z ∷ []) (r ∙ ap (λ k. starts own_commands k x.candidates) k) ∙ sym (command_starts_last n (take i u) x) ∙ ap (command_starts n) (sym (front_more u i x l e))
