-- Small lemmas on lists, options and lookups.
use Rattle.std.proofs.Common.{◌≡◌, ℕ, zero, suc, ◌==◌, ◌+◌, Bool, true, false, cond, ◌||◌, List, [], ◌∷◌, get_or, refl, sym, ap, ◌∙◌, subst, arith, Option, Some, None, ◌⊎◌, inl, inr}
use Rattle.std.specs.Prelude.{slice_get, All, IfSome, option_and_then, find, bytes_eq}
use Rattle.std.specs.List.{position_from, list_any}
use Rattle.std.proofs.lemmas.Bool.{false≢true, or_cases}
use Rattle.std.proofs.lemmas.Option.{slice_get_within, slice_get-get_or, get_or_from_slice_get, same_Some}
use Rattle.zi_parts.specs.declared.types.Command.{Command}
use Rattle.zi_universe.specs.declared.types.Candidate.{Candidate}
use Rattle.zi_universe.specs.declared.types.Interface.{Interface}
use Rattle.zi_choice.specs.Choice.{Choice, pick, candidate_at, chosen, command_of, command_place}
use Rattle.zi_choice.proofs.WalkLaws.{not_both, one_value}
use Rattle.zi_choice.specs.Vars.{candidates_of}
use Rattle.zi_feed.specs.IdLaws.{none_some}

abbrev pub Iff : Type 0 → Type 0 → Type 0
Iff A B = (A → B) × (B → A)

-- what holds of each item, by its place
pub all_at : {A : Type 0} (P : A → Type 0) (xs : List A) (n : ℕ) (x : A) → All P xs → slice_get xs n ≡ Some x → P x
all_at P xs n x h e = subst P (get_or_from_slice_get xs n x x e) (h n x (slice_get_within xs n x e))

pub all_from : {A : Type 0} (P : A → Type 0) (xs : List A) → ((n : ℕ) (x : A) → slice_get xs n ≡ Some x → P x) → All P xs
all_from P xs h k d lt = h k (get_or xs k d) (slice_get-get_or xs k d lt)

pub any_found : {A : Type 0} (test : A → Bool) (xs : List A) → list_any test xs ≡ true → (n : ℕ) × (x : A) × (slice_get xs n ≡ Some x) × (test x ≡ true)
any_found test [] e = absurd (false≢true e)
any_found test (y ∷ xs) e =
    elim (or_cases (test y) (list_any test xs) e) [ inl p ↦ (0, y, refl, p) | inr q ↦ let r = any_found test xs q in (suc r.0, r.1, r.2, r.3) ]

pub if_some_at : {A : Type 0} (P : A → Type 0) (o : Option A) (x : A) → o ≡ Some x → IfSome o P → P x
if_some_at P o x e h = subst (λ p. IfSome p P) e h

pub if_some_from : {A : Type 0} (P : A → Type 0) (o : Option A) → ((x : A) → o ≡ Some x → P x) → IfSome o P
if_some_from P None h = tt
if_some_from P (Some x) h = h x refl

-- candidates by their places
pub candidate_is : (u : List Interface) (i c : ℕ) → candidate_at u i c ≡ slice_get (candidates_of u i) c
candidate_is [] i c = refl
candidate_is (x ∷ u) zero c = refl
candidate_is (x ∷ u) (suc i) c = candidate_is u i c

pub interface_at : (u : List Interface) (i c : ℕ) (k : Candidate) → slice_get (candidates_of u i) c ≡ Some k → (x : Interface) × (slice_get u i ≡ Some x) × (slice_get x.candidates c ≡ Some k)
interface_at [] i c k e = absurd (none_some e)
interface_at (x ∷ u) zero c k e = (x, refl, e)
interface_at (x ∷ u) (suc i) c k e = interface_at u i c k e

pub candidates_at : (u : List Interface) (i : ℕ) (x : Interface) → slice_get u i ≡ Some x → candidates_of u i ≡ x.candidates
candidates_at [] i x e = absurd (none_some e)
candidates_at (y ∷ u) zero x e = ap (λ (z : Interface). z.candidates) (same_Some _ _ e)
candidates_at (y ∷ u) (suc i) x e = candidates_at u i x e

pub chosen_is : (u : List Interface) (s : Choice) (i c : ℕ) (k : Candidate) → pick s i ≡ Some c → slice_get (candidates_of u i) c ≡ Some k → chosen u s i ≡ Some k
chosen_is u s i c k p e = ap (λ o. option_and_then (λ c. candidate_at u i c) o) p ∙ candidate_is u i c ∙ e

chosen_case : (u : List Interface) (i : ℕ) (o : Option ℕ) (k : Candidate) → option_and_then (λ c. candidate_at u i c) o ≡ Some k → (c : ℕ) × (o ≡ Some c) × (slice_get (candidates_of u i) c ≡ Some k)
chosen_case u i None k e = absurd (none_some e)
chosen_case u i (Some c) k e = (c, refl, sym (candidate_is u i c) ∙ e)

pub chosen_from : (u : List Interface) (s : Choice) (i : ℕ) (k : Candidate) → chosen u s i ≡ Some k → (c : ℕ) × (pick s i ≡ Some c) × (slice_get (candidates_of u i) c ≡ Some k)
chosen_from u s i k e = chosen_case u i (pick s i) k e

-- the command of a name and its place
abbrev Found : (Command → Bool) → ℕ → List Command → Command → Type 0
Found test n ms m = (j : ℕ) × (position_from test n ms ≡ Some (n + j)) × (slice_get ms j ≡ Some m) × (test m ≡ true)

found_at : (test : Command → Bool) (n : ℕ) (ms : List Command) (m : Command) → find test ms ≡ Some m → Found test n ms m
found_at test n [] m e = absurd (none_some e)
found_at test n (x ∷ ms) m e = at (test x) refl e (λ g. found_at test (n + 1) ms m g)
  where
    at : (b : Bool) → test x ≡ b → cond b (Some x) (find test ms) ≡ Some m → (find test ms ≡ Some m → Found test (n + 1) ms m) → (j : ℕ) × (cond b (Some n) (position_from test (n + 1) ms) ≡ Some (n + j)) × (slice_get (x ∷ ms) j ≡ Some m) × (test m ≡ true)
    at true t h later = (0, ap (λ z. Some z) (omega arith), h, subst (λ y. test y ≡ true) (same_Some _ _ h) t)
    at false t h later = let r = later h in (suc r.0, r.1 ∙ ap (λ z. Some z) (omega arith), r.2, r.3)

none_at : (test : Command → Bool) (n : ℕ) (ms : List Command) → find test ms ≡ None → position_from test n ms ≡ None
none_at test n [] e = refl
none_at test n (x ∷ ms) e = at (test x) e (λ g. none_at test (n + 1) ms g)
  where
    at : (b : Bool) → cond b (Some x) (find test ms) ≡ None → (find test ms ≡ None → position_from test (n + 1) ms ≡ None) → cond b (Some n) (position_from test (n + 1) ms) ≡ None
    at true h later = absurd (none_some (sym h))
    at false h later = later h

-- where the command of a name is, and what it is
pub record Stands (k : Candidate) (name : List ℕ) (m : Command) : Type 0 where
  pub place : ℕ
  pub placed : command_place k name ≡ Some place
  pub there : slice_get k.imp.commands place ≡ Some m
  pub called : bytes_eq m.name name ≡ true

pub stands_at : (k : Candidate) (name : List ℕ) (m : Command) → command_of k name ≡ Some m → Stands k name m
stands_at k name m e =
    let r = found_at (λ (m : Command). bytes_eq m.name name) 0 k.imp.commands m e in
    record { place = r.0; placed = r.1 ∙ ap (λ z. Some z) (omega arith); there = r.2; called = r.3 }

pub found_of : (k : Candidate) (name : List ℕ) (n : ℕ) → command_place k name ≡ Some n → (m : Command) × (command_of k name ≡ Some m) × (slice_get k.imp.commands n ≡ Some m)
found_of k name n e = at (command_of k name) refl
  where
    at : (o : Option Command) → command_of k name ≡ o → (m : Command) × (command_of k name ≡ Some m) × (slice_get k.imp.commands n ≡ Some m)
    at None f = not_both (none_at (λ (m : Command). bytes_eq m.name name) 0 k.imp.commands f) e
    at (Some m) f = let r = stands_at k name m f in (m, f, subst (λ z. slice_get k.imp.commands z ≡ Some m) (one_value e r.placed) r.there)
