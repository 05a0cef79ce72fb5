-- What lists of tasks are by the tasks that were added.
use Rattle.std.proofs.Common.{◌≡◌, ◌≤◌, ◌<◌, ◌+◌, ℕ, zero, suc, List, [], ◌∷◌, ◌++◌, length, take, Some, refl, sym, ap, ◌∙◌, subst, arith, length-append, append_assoc, append-nil}
use Rattle.std.specs.Prelude.{slice_get}
use Rattle.std.proofs.Math.ListN.{get_or-append}
use Rattle.std.proofs.Math.Seq.{get_or-append_seam, take-append_seam}
use Rattle.std.proofs.lemmas.Option.{same_Some}
use Rattle.zi_walk.specs.declared.tasks.Task.{Task}
use Rattle.zi_walk.specs.declared.tasks.Node.{Node}
use Rattle.zi_walk.specs.Lists.{list_at, lists_on, lists_of, AreEarlier}
use Rattle.zi_feed.specs.IdLaws.{none_some}

-- the list that a node adds
abbrev list_with : List (List Task) → Node → List Task
list_with lists x = x.task ∷ list_at lists x.later

abbrev more_with : List (List Task) → Node → List (List Task)
more_with lists x = lists ++ list_with lists x ∷ []

-- one node more
on_last : (xs : List Node) (ls : List (List Task)) (x : Node) → lists_on ls (xs ++ x ∷ []) ≡ more_with (lists_on ls xs) x
on_last [] ls x = refl
on_last (y ∷ xs) ls x = on_last xs (more_with ls y) x

pub lists_last : (xs : List Node) (x : Node) → lists_of (xs ++ x ∷ []) ≡ lists_of xs ++ (x.task ∷ list_at (lists_of xs) x.later) ∷ []
lists_last xs x = on_last xs ([] ∷ []) x

later_lists : (xs : List Node) (ls : List (List Task)) → (more : List (List Task)) × (lists_on ls xs ≡ ls ++ more) × (length more ≡ length xs)
later_lists [] ls = ([], sym (append-nil ls), refl)
later_lists (x ∷ xs) ls =
    let f = later_lists xs (more_with ls x) in
    (list_with ls x ∷ f.0, f.1 ∙ append_assoc ls (list_with ls x ∷ []) f.0, ap suc f.2)

pub list_none : (xs : List Node) → list_at (lists_of xs) 0 ≡ []
list_none xs = let f = later_lists xs ([] ∷ []) in ap (λ ls. list_at ls 0) f.1

pub length-lists : (xs : List Node) → length (lists_of xs) ≡ length xs + 1
length-lists xs =
    let f = later_lists xs ([] ∷ []) in
    let e : length (lists_of xs) ≡ suc (length f.0) = ap length f.1 in
    omega (arith, e, f.2)

-- the lists of the first nodes
all_of : {A : Type 0} (ys : List A) (n : ℕ) → length ys ≤ n → take n ys ≡ ys
all_of [] zero l = refl
all_of [] (suc n) l = refl
all_of (y ∷ ys) zero l = absurd (omega (arith, l))
all_of (y ∷ ys) (suc n) l = ap (λ zs. y ∷ zs) (all_of ys n (omega (arith, l)))

first_lists : (xs : List Node) (ls : List (List Task)) (k : ℕ) → lists_on ls (take k xs) ≡ take (length ls + k) (lists_on ls xs)
first_lists xs ls zero =
    let f = later_lists xs ls in
    let n : length ls + 0 ≡ length ls = omega arith in
    sym (ap (λ m. take m (lists_on ls xs)) n ∙ ap (take (length ls)) f.1 ∙ take-append_seam ls f.0)
first_lists [] ls (suc k) = sym (all_of ls (length ls + suc k) (omega arith))
first_lists (x ∷ xs) ls (suc k) =
    let n : length (more_with ls x) ≡ length ls + 1 = length-append ls (list_with ls x ∷ []) in
    let m : length (more_with ls x) + k ≡ length ls + suc k = omega (arith, n) in
    first_lists xs (more_with ls x) k ∙ ap (λ j. take j (lists_on (more_with ls x) xs)) m

pub lists-take : (xs : List Node) (k : ℕ) → lists_of (take k xs) ≡ take (k + 1) (lists_of xs)
lists-take xs k = let n : 1 + k ≡ k + 1 = omega arith in first_lists xs ([] ∷ []) k ∙ ap (λ j. take j (lists_of xs)) n

-- a list is its first task before the list of the later ones
nth_list : (xs : List Node) (ls : List (List Task)) (n : ℕ) (x : Node) → slice_get xs n ≡ Some x → x.later < length ls + n → list_at (lists_on ls xs) (length ls + n) ≡ list_with (lists_on ls xs) x
nth_list [] ls n x e l = absurd (none_some e)
nth_list (y ∷ xs) ls zero x e l =
    let s : y ≡ x = same_Some _ _ e in
    let f = later_lists xs (more_with ls y) in
    let whole : lists_on (more_with ls y) xs ≡ ls ++ list_with ls y ∷ f.0 = f.1 ∙ append_assoc ls (list_with ls y ∷ []) f.0 in
    let n : length ls + 0 ≡ length ls = omega arith in
    let here : list_at (lists_on (more_with ls y) xs) (length ls + 0) ≡ list_with ls y = ap (λ m. list_at (lists_on (more_with ls y) xs) m) n ∙ ap (λ zs. list_at zs (length ls)) whole ∙ get_or-append_seam ls (list_with ls y) f.0 [] in
    let early : y.later < length ls = subst (λ z. z.later < length ls) (sym s) (omega (arith, l)) in
    let there : list_at (lists_on (more_with ls y) xs) y.later ≡ list_at ls y.later = ap (λ zs. list_at zs y.later) whole ∙ get_or-append ls (list_with ls y ∷ f.0) [] y.later early in
    subst (λ z. list_at (lists_on (more_with ls y) xs) (length ls + 0) ≡ list_with (lists_on (more_with ls y) xs) z) s (here ∙ ap (λ zs. y.task ∷ zs) (sym there))
nth_list (y ∷ xs) ls (suc n) x e l =
    let k : length (more_with ls y) ≡ length ls + 1 = length-append ls (list_with ls y ∷ []) in
    let m : length (more_with ls y) + n ≡ length ls + suc n = omega (arith, k) in
    subst (λ j. list_at (lists_on (more_with ls y) xs) j ≡ list_with (lists_on (more_with ls y) xs) x) m (nth_list xs (more_with ls y) n x e (omega (arith, l, m)))

pub list_of : (xs : List Node) (n : ℕ) (x : Node) → AreEarlier xs → slice_get xs n ≡ Some x → list_at (lists_of xs) (1 + n) ≡ x.task ∷ list_at (lists_of xs) x.later
list_of xs n x b e = let l = b n x e in nth_list xs ([] ∷ []) n x e (omega (arith, l))

-- each list goes on with one that was there before it
slice-take : {A : Type 0} (xs : List A) (k n : ℕ) (x : A) → slice_get (take k xs) n ≡ Some x → slice_get xs n ≡ Some x
slice-take [] zero n x e = e
slice-take [] (suc k) n x e = e
slice-take (y ∷ xs) zero n x e = absurd (none_some e)
slice-take (y ∷ xs) (suc k) zero x e = e
slice-take (y ∷ xs) (suc k) (suc n) x e = slice-take xs k n x e

pub earlier-take : (xs : List Node) (k : ℕ) → AreEarlier xs → AreEarlier (take k xs)
earlier-take xs k b n x e = b n x (slice-take xs k n x e)

slice-last : {A : Type 0} (P : ℕ → A → Type 0) (xs : List A) (y x : A) (n : ℕ) → ((m : ℕ) (z : A) → slice_get xs m ≡ Some z → P m z) → P (length xs) y → slice_get (xs ++ y ∷ []) n ≡ Some x → P n x
slice-last P [] y x zero f p e = subst (λ z. P 0 z) (same_Some _ _ e) p
slice-last P [] y x (suc n) f p e = absurd (none_some e)
slice-last P (z ∷ xs) y x zero f p e = f 0 x e
slice-last P (z ∷ xs) y x (suc n) f p e = slice-last (λ m w. P (suc m) w) xs y x n (λ m w g. f (suc m) w g) p e

pub earlier-last : (xs : List Node) (x : Node) → AreEarlier xs → x.later ≤ length xs → AreEarlier (xs ++ x ∷ [])
earlier-last xs x b l n y e = slice-last (λ m z. z.later ≤ m) xs x y n b l e
