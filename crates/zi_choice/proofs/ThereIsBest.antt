-- Where any choice is valid, one is the best: whether a choice is valid can be told, and of the finitely many that fit the
-- earliest valid one is kept.
use Rattle.std.proofs.Common.{◌≡◌, ◌≢◌, ℕ, zero, suc, ◌<◌, Bool, true, false, List, [], ◌∷◌, ◌++◌, length, map, refl, sym, ap, subst, ◌∙◌, arith, Option, Some, None, ◌⊎◌, inl, inr}
use Rattle.std.specs.Prelude.{All, slice_get, IsSome, IfSome, IsSomeAnd, is_some, ◌↔◌}
use Rattle.std.specs.List.{list_all}
use Rattle.std.proofs.lemmas.Bool.{false≢true}
use Rattle.std.proofs.lemmas.List.Elements.{All-head, All-tail, All-nil, All-cons}
use Rattle.zi_version.specs.Range.{admits}
use Rattle.zi_policy.specs.declared.types.Width.{Width}
use Rattle.zi_policy.specs.declared.types.Width.TheVariants.{Any, Bits32, Bits64}
use Rattle.zi_parts.specs.declared.types.Dep.{Dep}
use Rattle.zi_parts.specs.declared.types.DepKind.{DepKind}
use Rattle.zi_parts.specs.declared.types.DepKind.TheVariants.{Essential, Recommended, Restricts}
use Rattle.zi_universe.specs.declared.types.Requirement.{Requirement}
use Rattle.zi_universe.specs.declared.types.Candidate.{Candidate}
use Rattle.zi_universe.specs.declared.types.Interface.{Interface}
use Rattle.zi_universe.specs.Candidates.{asks}
use Rattle.zi_choice.specs.Choice.{Choice, Fits, pick, candidate_at, chosen, command_of, command_at, needs_of}
use Rattle.zi_choice.specs.Walk.{Use, Walk, Walks, is_listed}
use Rattle.zi_choice.specs.Valid.{Has, Suits, IsMet, AreMet, IsChosenOn, IsValid, group, target}
use Rattle.zi_choice.specs.Best.{RanksEarlier, IsBest}
use Rattle.zi_choice.specs.Laws.{BestIsThere}
use Rattle.zi_choice.specs.Left.{below}
use Rattle.zi_choice.proofs.WalkLaws.{walk_one}
use Rattle.zi_choice.proofs.ChoiceLaws.{same_number, same_choice}
use Rattle.zi_choice.proofs.ThereLaws.{In, at_or_below, below_has, in_left, in_right, pick_within, walk_there}
use Rattle.zi_choice.proofs.Base.{if_some_at, if_some_from}
use Rattle.zi_choice.proofs.ApartLaws.{one_earlier}
use Rattle.zi_choice.proofs.OrderLaws.{earlier_strict}
use Rattle.zi_choice.proofs.WalkFacts.{is_on, on_is}
use Rattle.zi_feed.specs.IdLaws.{none_some}
use Rattle.zi_text.proofs.ListLaws.{some_of}

-- it is so, or it isn't
abbrev Told : Type 0 → Type 0
Told A = A ⊎ (A → ⊥)

is_true : (b : Bool) → Told (b ≡ true)
is_true true = inl refl
is_true false = inr (λ e. false≢true e)

both : {A B : Type 0} → Told A → Told B → Told (A × B)
both (inl a) (inl b) = inl (a, b)
both (inl a) (inr n) = inr (λ h. n h.1)
both (inr n) d = inr (λ h. n h.0)

implied : {A B : Type 0} → Told A → Told B → Told (A → B)
implied (inl a) (inl b) = inl (λ x. b)
implied (inl a) (inr n) = inr (λ h. n (h a))
implied (inr n) d = inl (λ x. absurd (n x))

moved : {A B : Type 0} → (A → B) → (B → A) → Told A → Told B
moved f g (inl a) = inl (f a)
moved f g (inr n) = inr (λ b. n (g b))

if_some_told : {A : Type 0} (P : A → Type 0) (o : Option A) → ((x : A) → Told (P x)) → Told (IfSome o P)
if_some_told P None h = inl tt
if_some_told P (Some x) h = h x

some_and_told : {A : Type 0} (P : A → Type 0) (o : Option A) → ((x : A) → Told (P x)) → Told (IsSomeAnd o P)
some_and_told P None h = inr (λ x. x)
some_and_told P (Some x) h = h x

all_told : {A : Type 0} (P : A → Type 0) (xs : List A) → ((x : A) → Told (P x)) → Told (All P xs)
all_told P [] h = inl (All-nil P)
all_told P (x ∷ xs) h = at (h x) (all_told P xs h)
  where
    at : Told (P x) → Told (All P xs) → Told (All P (x ∷ xs))
    at (inl a) (inl b) = inl (All-cons P x xs a b)
    at (inl a) (inr n) = inr (λ g. n (All-tail P x xs g))
    at (inr n) d = inr (λ g. n (All-head P x xs g))

below_told : (P : ℕ → Type 0) → ((i : ℕ) → Told (P i)) → (n : ℕ) → Told ((i : ℕ) → i < n → P i)
below_told P h zero = inl (λ i l. absurd (omega (arith, l)))
below_told P h (suc n) = at (h n) (below_told P h n)
  where
    at : Told (P n) → Told ((i : ℕ) → i < n → P i) → Told ((i : ℕ) → i < suc n → P i)
    at (inl a) (inl b) = inl (λ i l. elim (at_or_below i n l) [ inl e ↦ subst P (sym e) a | inr k ↦ b i k ])
    at (inl a) (inr m) = inr (λ g. m (λ i l. g i (omega (arith, l))))
    at (inr m) d = inr (λ g. m (g n (omega arith)))

is_essential : (k : DepKind) → Told (k ≡ Essential)
is_essential Essential = inl refl
is_essential Recommended = inr (λ e. cc)
is_essential Restricts = inr (λ e. cc)

is_32 : (w : Width) → Told (w ≡ Bits32)
is_32 Any = inr (λ e. cc)
is_32 Bits32 = inl refl
is_32 Bits64 = inr (λ e. cc)

is_64 : (w : Width) → Told (w ≡ Bits64)
is_64 Any = inr (λ e. cc)
is_64 Bits32 = inr (λ e. cc)
is_64 Bits64 = inl refl

-- Whether each part of validity holds.
suits_told : (d : Dep) (c : Candidate) → Told (Suits d c)
suits_told d c =
    moved (λ h. record { admitted = h.0; commands = h.1 }) (λ s. (s.admitted, s.commands))
    (both (is_true (list_all (λ r. admits r c.imp.version) d.ranges)) (implied (is_true (asks d)) (all_told (λ name. Has c name) d.commands (λ name. is_true (is_some (command_of c name))))))

met_told : (u : List Interface) (s : Choice) (d : Dep) → Told (IsMet u s d)
met_told u s d =
    moved (λ h. record { there = h.0; suits = h.1 }) (λ m. (m.there, m.suits))
    (both (implied (is_essential d.kind) (is_true (is_some (target u s d)))) (if_some_told (λ c. Suits d c) (target u s d) (suits_told d)))

are_met_told : (u : List Interface) (s : Choice) (ds : List Dep) → Told (AreMet u s ds)
are_met_told u s ds = all_told (λ d. IsMet u s d) ds (met_told u s)

pub pick_inside : (s : Choice) (i c : ℕ) → pick s i ≡ Some c → i < length s
pick_inside [] i c e = absurd (none_some e)
pick_inside (p ∷ s) zero c e = omega arith
pick_inside (p ∷ s) (suc i) c e = let l = pick_inside s i c e in omega (arith, l)

fits_told : (u : List Interface) (s : Choice) → Told (Fits u s)
fits_told u s =
    let P : ℕ → Type 0 = λ i. IfSome (pick s i) (λ c. IsSome (candidate_at u i c)) in
    moved
    (λ h. record { each = h.0; there = λ i c e. if_some_at (λ c. IsSome (candidate_at u i c)) (pick s i) c e (h.1 i (pick_inside s i c e)) })
    (λ f. (f.each, λ i l. if_some_from (λ c. IsSome (candidate_at u i c)) (pick s i) (λ c e. f.there i c e)))
    (both (same_number (length s) (length u)) (below_told P (λ i. if_some_told (λ c. IsSome (candidate_at u i c)) (pick s i) (λ c. is_true (is_some (candidate_at u i c)))) (length s)))

-- what is chosen anywhere
abbrev Chosen : List Interface → Choice → (Candidate → Type 0) → Type 0
Chosen u s Q = (i : ℕ) → IfSome (chosen u s i) Q

chosen_told : (u : List Interface) (s : Choice) (Q : Candidate → Type 0) → ((k : Candidate) → Told (Q k)) → Told (Chosen u s Q)
chosen_told u s Q d =
    moved
    (λ h i. if_some_from Q (chosen u s i) (λ k e. if_some_at Q (chosen u s i) k e (h i (pick_within u i (pick s i) k e))))
    (λ h i l. h i)
    (below_told (λ i. IfSome (chosen u s i) Q) (λ i. if_some_told Q (chosen u s i) d) (length u))

abbrev Goes : Candidate → Candidate → Type 0
Goes c d = group c ≡ Bits32 → ¬ (group d ≡ Bits64)

goes_told : (c d : Candidate) → Told (Goes c d)
goes_told c d = implied (is_32 (group c)) (implied (is_64 (group d)) (inr (λ x. x)))

abbrev OneGroup : List Interface → Choice → Type 0
OneGroup u s = (i j : ℕ) (c d : Candidate) → chosen u s i ≡ Some c → chosen u s j ≡ Some d → group c ≡ Bits32 → ¬ (group d ≡ Bits64)

group_told : (u : List Interface) (s : Choice) → Told (OneGroup u s)
group_told u s =
    let Q : Candidate → Type 0 = λ c. Chosen u s (λ d. Goes c d) in
    moved
    (λ h i j c d e f. if_some_at (λ d. Goes c d) (chosen u s j) d f (if_some_at Q (chosen u s i) c e (h i) j))
    (λ g i. if_some_from Q (chosen u s i) (λ c e j. if_some_from (λ d. Goes c d) (chosen u s j) (λ d f. g i j c d e f)))
    (chosen_told u s Q (λ c. chosen_told u s (λ d. Goes c d) (goes_told c)))

abbrev Exactly : Choice → Walk → Type 0
Exactly s w = (i : ℕ) → IsSome (pick s i) ↔ IsChosenOn w.places i

exactly_told : (u : List Interface) (req : Requirement) (s : Choice) (w : Walk) → Walks u req s w → Told (Exactly s w)
exactly_told u req s w k =
    moved
    (λ h i. ((λ p. let c = some_of (pick s i) p in is_on u req s w k i c.0 (h i (pick_inside s i c.0 c.1) p) c.1), (λ on. (on_is u req s w k i on).0)))
    (λ g i l p. (on_is u req s w k i ((g i).0 p)).1)
    (below_told (λ i. IsSome (pick s i) → is_listed w i ≡ true) (λ i. implied (is_true (is_some (pick s i))) (is_true (is_listed w i))) (length s))

abbrev UseMet : List Interface → Choice → Use → Type 0
UseMet u s x = IfSome (command_at u s x.interface x.command) (λ m. AreMet u s (needs_of m))

abbrev RootIs : List Interface → Requirement → Choice → Type 0
RootIs u req s = IsSomeAnd (chosen u s 0) (λ c. IfSome req.command (λ name. Has c name))

-- what is left to tell once the walk is there
abbrev Rest : List Interface → Requirement → Choice → Walk → Type 0
Rest u req s w = (Fits u s × RootIs u req s) × ((Chosen u s (λ c. AreMet u s c.imp.deps) × All (λ x. UseMet u s x) w.used) × (OneGroup u s × Exactly s w))

rest_told : (u : List Interface) (req : Requirement) (s : Choice) (w : Walk) → Walks u req s w → Told (Rest u req s w)
rest_told u req s w k =
    both
    (both (fits_told u s) (some_and_told (λ c. IfSome req.command (λ name. Has c name)) (chosen u s 0) (λ c. if_some_told (λ name. Has c name) req.command (λ name. is_true (is_some (command_of c name))))))
    (both
    (both (chosen_told u s (λ c. AreMet u s c.imp.deps) (λ c. are_met_told u s c.imp.deps)) (all_told (λ x. UseMet u s x) w.used (λ x. if_some_told (λ m. AreMet u s (needs_of m)) (command_at u s x.interface x.command) (λ m. are_met_told u s (needs_of m)))))
    (both (group_told u s) (exactly_told u req s w k)))

valid_from : (u : List Interface) (req : Requirement) (s : Choice) (w : Walk) → Walks u req s w → Rest u req s w → IsValid u req s
valid_from u req s w k h = record {
  fits = h.0.0;
  root = h.0.1;
  met = h.1.0.0;
  walk = w;
  walks = k;
  used_met = h.1.0.1;
  one_group = h.1.1.0;
  exactly = h.1.1.1;
}

rest_from : (u : List Interface) (req : Requirement) (s : Choice) (v : IsValid u req s) → Rest u req s v.walk
rest_from u req s v = ((v.fits, v.root), ((v.met, v.used_met), (v.one_group, v.exactly)))

valid_told : (u : List Interface) (req : Requirement) (s : Choice) → Told (IsValid u req s)
valid_told u req s =
    let there = walk_there u req s in
    moved (valid_from u req s there.0 there.1)
    (λ v. subst (λ w. Rest u req s w) (walk_one u req s v.walk there.0 v.walks there.1) (rest_from u req s v))
    (rest_told u req s there.0 there.1)

-- All choices that fit.
picks_below : ℕ → List (Option ℕ)
picks_below n = None ∷ map (λ c. Some c) (below n)

in_map : {A B : Type 0} (f : A → B) (x : A) (xs : List A) → In x xs → In (f x) (map f xs)
in_map f x [] h = absurd h
in_map f x (y ∷ xs) (inl e) = inl (ap f e)
in_map f x (y ∷ xs) (inr h) = inr (in_map f x xs h)

with_each : List (Option ℕ) → List Choice → List Choice
with_each [] ss = []
with_each (p ∷ ps) ss = map (λ s. p ∷ s) ss ++ with_each ps ss

in_with : (p : Option ℕ) (s : Choice) (ps : List (Option ℕ)) (ss : List Choice) → In p ps → In s ss → In (p ∷ s) (with_each ps ss)
unfolding with_each
in_with p s [] ss h g = absurd h
in_with p s (q ∷ ps) ss (inl e) g = in_left (p ∷ s) (map (λ t. q ∷ t) ss) (with_each ps ss) (subst (λ x. In (p ∷ s) (map (λ t. x ∷ t) ss)) (sym e) (in_map (λ t. p ∷ t) s ss g))
in_with p s (q ∷ ps) ss (inr h) g = in_right (p ∷ s) (map (λ t. q ∷ t) ss) (with_each ps ss) (in_with p s ps ss h g)

all_choices : List Interface → List Choice
all_choices [] = [] ∷ []
all_choices (x ∷ u) = with_each (picks_below (length x.candidates)) (all_choices u)

candidate_inside : (ks : List Candidate) (c : ℕ) → IsSome (slice_get ks c) → c < length ks
candidate_inside [] c h = absurd (false≢true h)
candidate_inside (k ∷ ks) zero h = omega arith
candidate_inside (k ∷ ks) (suc c) h = let l = candidate_inside ks c h in omega (arith, l)

in_picks : (n : ℕ) (p : Option ℕ) → ((c : ℕ) → p ≡ Some c → c < n) → In p (picks_below n)
unfolding picks_below
in_picks n None h = inl refl
in_picks n (Some c) h = inr (in_map (λ c. Some c) c (below n) (below_has n c (h c refl)))

in_all : (u : List Interface) (s : Choice) → Fits u s → In s (all_choices u)
unfolding all_choices
in_all [] [] f = inl refl
in_all [] (p ∷ s) f = let e = f.each in absurd (omega (arith, e))
in_all (x ∷ u) [] f = let e = f.each in absurd (omega (arith, e))
in_all (x ∷ u) (p ∷ s) f =
    let e = f.each in
    in_with p s (picks_below (length x.candidates)) (all_choices u)
    (in_picks (length x.candidates) p (λ c g. candidate_inside x.candidates c (f.there 0 c g)))
    (in_all u s (record { each = omega (arith, e); there = λ i c g. f.there (suc i) c g }))

-- The earliest valid one of a list, where one is valid.
record Earliest (u : List Interface) (req : Requirement) (cs : List Choice) : Type 0 where
  choice : Choice
  valid : IsValid u req choice
  earlier : (r : Choice) → In r cs → IsValid u req r → r ≢ choice → RanksEarlier u req choice r

abbrev NoneOf : List Interface → Requirement → List Choice → Type 0
NoneOf u req cs = (r : Choice) → In r cs → IsValid u req r → ⊥

module _ (u : List Interface) (req : Requirement) where
  first_valid : (c : Choice) (cs : List Choice) → IsValid u req c → NoneOf u req cs → Earliest u req (c ∷ cs)
  first_valid c cs v none = record { choice = c; valid = v; earlier = λ r h w apart. at r h w apart }
    where
      at : (r : Choice) → In r (c ∷ cs) → IsValid u req r → r ≢ c → RanksEarlier u req c r
      at r (inl e) w apart = absurd (apart (sym e))
      at r (inr h) w apart = absurd (none r h w)

  skipped : (c : Choice) (cs : List Choice) → (IsValid u req c → ⊥) → Earliest u req cs → Earliest u req (c ∷ cs)
  skipped c cs bad b = record { choice = b.choice; valid = b.valid; earlier = λ r h w apart. at r h w apart }
    where
      at : (r : Choice) → In r (c ∷ cs) → IsValid u req r → r ≢ b.choice → RanksEarlier u req b.choice r
      at r (inl e) w apart = absurd (bad (subst (λ x. IsValid u req x) (sym e) w))
      at r (inr h) w apart = b.earlier r h w apart

  kept : (c : Choice) (cs : List Choice) (b : Earliest u req cs) → (c ≢ b.choice → RanksEarlier u req b.choice c) → Earliest u req (c ∷ cs)
  kept c cs b first = record { choice = b.choice; valid = b.valid; earlier = λ r h w apart. at r h w apart }
    where
      at : (r : Choice) → In r (c ∷ cs) → IsValid u req r → r ≢ b.choice → RanksEarlier u req b.choice r
      at r (inl e) w apart = subst (λ x. RanksEarlier u req b.choice x) e (first (λ f. apart (sym e ∙ f)))
      at r (inr h) w apart = b.earlier r h w apart

  replaced : (c : Choice) (cs : List Choice) (b : Earliest u req cs) → IsValid u req c → RanksEarlier u req c b.choice → Earliest u req (c ∷ cs)
  replaced c cs b v first = record { choice = c; valid = v; earlier = λ r h w apart. at r h w apart (same_choice r b.choice) }
    where
      at : (r : Choice) → In r (c ∷ cs) → IsValid u req r → r ≢ c → (r ≡ b.choice) ⊎ (r ≢ b.choice) → RanksEarlier u req c r
      at r (inl e) w apart d = absurd (apart (sym e))
      at r (inr h) w apart (inl e) = subst (λ x. RanksEarlier u req c x) (sym e) first
      at r (inr h) w apart (inr other) = (earlier_strict u req).chain c b.choice r first (b.earlier r h w other)

  compared : (c : Choice) (cs : List Choice) (b : Earliest u req cs) → IsValid u req c → Earliest u req (c ∷ cs)
  compared c cs b v = at (same_choice c b.choice)
    where
      at : (c ≡ b.choice) ⊎ (c ≢ b.choice) → Earliest u req (c ∷ cs)
      at (inl e) = kept c cs b (λ apart. absurd (apart e))
      at (inr apart) = elim (one_earlier u req c b.choice v b.valid apart) [ inl h ↦ replaced c cs b v h | inr h ↦ kept c cs b (λ n. h) ]

  earliest : (cs : List Choice) → NoneOf u req cs ⊎ Earliest u req cs
  earliest [] = inl (λ r h v. h)
  earliest (c ∷ cs) = at (valid_told u req c) (earliest cs)
    where
      none_more : (IsValid u req c → ⊥) → NoneOf u req cs → NoneOf u req (c ∷ cs)
      none_more bad none r (inl e) w = bad (subst (λ x. IsValid u req x) (sym e) w)
      none_more bad none r (inr h) w = none r h w

      at : Told (IsValid u req c) → NoneOf u req cs ⊎ Earliest u req cs → NoneOf u req (c ∷ cs) ⊎ Earliest u req (c ∷ cs)
      at (inl v) (inl none) = inr (first_valid c cs v none)
      at (inl v) (inr b) = inr (compared c cs b v)
      at (inr bad) (inl none) = inl (none_more bad none)
      at (inr bad) (inr b) = inr (skipped c cs bad b)

pub best_there : BestIsThere
best_there u req s v = at (earliest u req (all_choices u))
  where
    at : NoneOf u req (all_choices u) ⊎ Earliest u req (all_choices u) → (t : Choice) × IsBest u req t
    at (inl none) = absurd (none s (in_all u s v.fits) v)
    at (inr b) = (b.choice, record { valid = b.valid; earlier = λ r w apart. b.earlier r (in_all u r w.fits) w apart })
