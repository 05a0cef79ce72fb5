-- Selections looked up by their interfaces, and the candidates that they name.
use Rattle.std.proofs.Common.{◌≡◌, ℕ, suc, ◌+◌, ◌<◌, ◌≤◌, Bool, true, false, cond, List, [], ◌∷◌, length, take, get_or, refl, sym, ap, ◌∙◌, arith, Option, Some, None, ltb}
use Rattle.std.specs.Prelude.{slice_get, bytes_eq, find, option_and_then}
use Rattle.std.specs.Option.{option_map}
use Rattle.std.specs.List.{position_from}
use Rattle.std.proofs.lemmas.Bool.Decides.{nat_tests}
use Rattle.zi_universe.specs.declared.types.Interface.{Interface}
use Rattle.zi_universe.specs.Whole.{IsWhole}
use Rattle.zi_choice.specs.Tables.{first_of, IsAdded}
use Rattle.zi_choice.specs.Vars.{own_candidates}
use Rattle.zi_choice.proofs.SumLaws.{before_below, total_few, length_taken}
use Rattle.zi_choice.proofs.TaskLaws.{slice_some}
use Rattle.zi_sels.specs.declared.types.Selection.{Selection}
use Rattle.zi_choosing.specs.NamedParts.{AreTheirPlaces}
use Rattle.zi_feed.proofs.LatestLaws.{text_swap}
use Rattle.zi_names.proofs.Expanded.{front_more}
use Rattle.zi_choice.proofs.TableLaws.{position_last}

-- the selections that are gone through, and one more
pub places_more : (xs : List Selection) (i : ℕ) (x : Selection) (es fs : List (List ℕ × ℕ)) → i < length xs → x ≡ get_or xs i x → AreTheirPlaces (take i xs) es → IsAdded es x.interface i fs → AreTheirPlaces (take (i + 1) xs) fs
places_more xs i x es fs l e are added q =
    let test : Selection → Bool = λ (y : Selection). bytes_eq y.interface q in
    let len : length (take i xs) ≡ i = length_taken xs i (omega (arith, l)) in
    let z : 0 + length (take i xs) ≡ i = omega (arith, len) in
    added q
    ∙ ap (λ o. first_of o (cond (bytes_eq q x.interface) (Some i) None)) (are q)
    ∙ ap (λ b. first_of (position_from test 0 (take i xs)) (cond b (Some i) None)) (text_swap q x.interface)
    ∙ ap (λ k. first_of (position_from test 0 (take i xs)) (cond (test x) (Some k) None)) (sym z)
    ∙ sym (position_last test 0 (take i xs) x)
    ∙ ap (position_from test 0) (sym (front_more xs i x l e))

-- a search begun one further
shifted : {A : Type 0} (test : A → Bool) (n : ℕ) (xs : List A) → position_from test (n + 1) xs ≡ option_map suc (position_from test n xs)
shifted test n [] = refl
shifted test n (x ∷ xs) = at (test x) (shifted test (n + 1) xs)
  where
    at : (b : Bool) → position_from test (n + 1 + 1) xs ≡ option_map suc (position_from test (n + 1) xs)
        → cond b (Some (n + 1)) (position_from test (n + 1 + 1) xs) ≡ option_map suc (cond b (Some n) (position_from test (n + 1) xs))
    at true h = let z : n + 1 ≡ suc n = omega arith in ap Some z
    at false h = h

one_further : {A : Type 0} (x : A) (xs : List A) (o : Option ℕ) → option_and_then (slice_get (x ∷ xs)) (option_map suc o) ≡ option_and_then (slice_get xs) o
one_further x xs None = refl
one_further x xs (Some k) = refl

-- the first item that passes stands at the first place that does
pub find_there : {A : Type 0} (test : A → Bool) (xs : List A) → option_and_then (slice_get xs) (position_from test 0 xs) ≡ find test xs
find_there test [] = refl
find_there test (x ∷ xs) = at (test x) (find_there test xs)
  where
    at : (b : Bool) → option_and_then (slice_get xs) (position_from test 0 xs) ≡ find test xs
        → option_and_then (slice_get (x ∷ xs)) (cond b (Some 0) (position_from test (0 + 1) xs)) ≡ cond b (Some x) (find test xs)
    at true h = refl
    at false h = ap (option_and_then (slice_get (x ∷ xs))) (shifted test 0 xs) ∙ one_further x xs (position_from test 0 xs) ∙ h

-- an interface of a universe has few candidates
pub own_few : (u : List Interface) (i : ℕ) (x : Interface) → IsWhole u → i < length u → x ≡ get_or u i x → length x.candidates ≤ 65536
own_few u i x whole l e = by (ltb 65536 (length x.candidates)) refl
  where
    by : (b : Bool) → ltb 65536 (length x.candidates) ≡ b → length x.candidates ≤ 65536
    by true t =
        let more : 65536 < length x.candidates = grind (arith, nat_tests) in
        let below = before_below own_candidates u i x 65536 (slice_some u i x l e) more in
        let few = total_few u whole in
        absurd (omega (arith, below, few))
    by false t = grind (arith, nat_tests)
