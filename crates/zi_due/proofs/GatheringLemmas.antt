-- What is got of files is one list, and their names stand once or have one first that stands twice.
use Rattle.std.proofs.Common.{◌≡◌, ℕ, zero, suc, ◌<◌, ◌≤◌, Bool, true, false, not, ◌&&◌, ◌||◌, List, [], ◌∷◌, take, length, map, if◌then◌else◌, Option, Some, None, Result, Ok, Err, refl, sym, ap, subst, ◌∙◌, bytes_eq, slice_get, arith}
use Rattle.std.specs.Prelude.{IsSomeAnd}
use Rattle.std.proofs.lemmas.Option.{same_Some}
use Rattle.std.proofs.lemmas.Slice.Eq.{bytes_eq-Decides}
use Rattle.std.proofs.lemmas.Bool.{and_parts}
use Rattle.zi_tree.specs.declared.tree.TreeNode.{TreeNode}
use Rattle.zi_outside.specs.Views.{Holding}
use Rattle.zi_words.specs.Forms.{Word}
use Rattle.zi_words.specs.Store.{last_part}
use Rattle.zi_outcome.specs.declared.outcome.Outcome.{Outcome}
use Rattle.zi_storing.specs.Gathering as part
use Rattle.zi_storing.specs.Gathering.{file_limit, part_size, AreParts, is_among, are_apart, IsFirstTwice, plain, file_named}
use Rattle.zi_due.specs.Files.{got}
use Rattle.zi_due.specs.Adding.{with_bytes, bytes_by, all_got, names_of, file_in}
use Rattle.zi_due.proofs.FilesLemmas.{held_got}

module _ (holds : Holding) where
  -- all files are got, and the parts of their tree are these
  pub parts_so : (files : List Word) (parts : _) → AreParts (Some holds) files parts
      → (all : List (List ℕ)) × (all_got holds files ≡ Ok all) × (part.names_of parts ≡ names_of files) × (map part_size parts ≡ map length all)
      × ((n : List ℕ) → file_named n parts ≡ file_in n (names_of files) all)
  parts_so [] [] a = ([], refl, refl, refl, λ n. refl)
  parts_so [] (p ∷ ps) a = absurd a
  parts_so (f ∷ fs) [] a = absurd a
  parts_so (f ∷ fs) (p ∷ ps) a =
      let r = parts_so fs ps a.1 in
      let bytes : got file_limit f (holds f) ≡ Ok p.bytes = held_got file_limit f (holds f) p.bytes a.0.held a.0.small in (
        p.bytes ∷ r.0,
        ap (λ g. bytes_by g (all_got holds fs)) bytes ∙ ap (with_bytes p.bytes) r.1,
        ap (λ (m : List ℕ). m ∷ part.names_of ps) a.0.named ∙ ap (λ (ms : List (List ℕ)). last_part f ∷ ms) r.2,
        ap (λ (ns : List ℕ). length p.bytes ∷ ns) r.3,
        λ n. ap (λ (m : List ℕ). if bytes_eq m n then Some (plain p.bytes) else file_named n ps) a.0.named
            ∙ ap (λ (o : Option TreeNode). if bytes_eq (last_part f) n then Some (plain p.bytes) else o) (r.4 n),
      )

  -- one isn't, and all before it are
  pub stops_so : (files : List Word) (place : ℕ) (file : Word) (parts : _) (why : Outcome) → slice_get files place ≡ Some file → AreParts (Some holds) (take place files) parts
      → got file_limit file (holds file) ≡ Err why → all_got holds files ≡ Err why
  stops_so [] place file parts why here a e = absurd (cc here)
  stops_so (f ∷ fs) zero file parts why here a e =
      let same : f ≡ file = same_Some _ _ here in
      ap (λ g. bytes_by g (all_got holds fs)) (subst (λ x. got file_limit x (holds x) ≡ Err why) (sym same) e)
  stops_so (f ∷ fs) (suc place) file [] why here a e = absurd a
  stops_so (f ∷ fs) (suc place) file (p ∷ ps) why here a e =
      let bytes : got file_limit f (holds f) ≡ Ok p.bytes = held_got file_limit f (holds f) p.bytes a.0.held a.0.small in
      ap (λ g. bytes_by g (all_got holds fs)) bytes ∙ ap (with_bytes p.bytes) (stops_so fs place file ps why here a.1 e)

-- a name that stands before its place too isn't apart
among_at : (n m : List ℕ) (ns : List (List ℕ)) (place : ℕ) → slice_get ns place ≡ Some n → bytes_eq m n ≡ true → is_among m ns ≡ true
among_at n m [] place here e = absurd (cc here)
among_at n m (k ∷ ns) zero here e =
    let same : k ≡ n = same_Some _ _ here in
    let is : m ≡ n = (bytes_eq-Decides m n).0 e in
    let eq : bytes_eq k m ≡ true = (bytes_eq-Decides k m).1 (same ∙ sym is) in
    rw eq refl
among_at n m (k ∷ ns) (suc place) here e =
    elim (bytes_eq k m) as (λ b. (b || is_among m ns) ≡ true) [
      | true ↦ refl
      | false ↦ among_at n m ns place here e
    ]

never_at : (names : List (List ℕ)) (n : List ℕ) (place : ℕ) → are_apart names ≡ true → slice_get names place ≡ Some n → is_among n (take place names) ≡ true → ⊥
never_at [] n place apart here before = absurd (cc here)
never_at (k ∷ ns) n zero apart here before = absurd (cc before)
never_at (k ∷ ns) n (suc place) apart here before =
    let parts : (not (is_among k ns) ≡ true) × (are_apart ns ≡ true) = and_parts (not (is_among k ns)) (are_apart ns) apart in
    by parts.0 (never_at ns n place parts.1 here) (bytes_eq k n) refl before
  where
    flip : (b : Bool) → not b ≡ true → b ≡ true → ⊥
    flip true h e = absurd (cc h)
    flip false h e = absurd (cc e)

    by : not (is_among k ns) ≡ true → (is_among n (take place ns) ≡ true → ⊥) → (b : Bool) → bytes_eq k n ≡ b → (b || is_among n (take place ns)) ≡ true → ⊥
    by alone behind true e h = flip (is_among k ns) alone (among_at n k ns place here e)
    by alone behind false e h = behind h

pub never_twice : (names : List (List ℕ)) (n : List ℕ) → are_apart names ≡ true → IsFirstTwice names n → ⊥
never_twice names n apart t = never_at names n t.place apart t.here t.before

-- before a later place it stands too
get_taken : (xs : List (List ℕ)) (m k : ℕ) (x : List ℕ) → k < m → slice_get xs k ≡ Some x → slice_get (take m xs) k ≡ Some x
get_taken [] m k x lt here = absurd (cc here)
get_taken (y ∷ ys) zero k x lt here = absurd (omega arith)
get_taken (y ∷ ys) (suc m) zero x lt here = here
get_taken (y ∷ ys) (suc m) (suc k) x lt here = get_taken ys m k x (omega arith) here

take_shorter : (xs : List (List ℕ)) (m k : ℕ) → k < m → take k (take m xs) ≡ take k xs
take_shorter [] zero k lt = absurd (omega arith)
take_shorter [] (suc m) zero lt = refl
take_shorter [] (suc m) (suc k) lt = refl
take_shorter (y ∷ ys) zero k lt = absurd (omega arith)
take_shorter (y ∷ ys) (suc m) zero lt = refl
take_shorter (y ∷ ys) (suc m) (suc k) lt = ap (λ zs. y ∷ zs) (take_shorter ys m k (omega arith))

never_before : (names : List (List ℕ)) (n m : List ℕ) (s : IsFirstTwice names n) (t : IsFirstTwice names m) → s.place < t.place → ⊥
never_before names n m s t lt =
    never_at (take t.place names) n s.place t.first (get_taken names t.place s.place n lt s.here)
    (subst (λ z. is_among n z ≡ true) (sym (take_shorter names t.place s.place lt)) s.before)

pub twice_one : (names : List (List ℕ)) (n m : List ℕ) → IsFirstTwice names n → IsFirstTwice names m → n ≡ m
twice_one names n m s t =
    let f : ¬ (s.place < t.place) = never_before names n m s t in
    let g : ¬ (t.place < s.place) = never_before names m n t s in
    let same : s.place ≡ t.place = omega (arith, f, g) in
    same_Some _ _ (sym s.here ∙ ap (slice_get names) same ∙ t.here)
