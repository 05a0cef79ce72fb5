-- The parts of a valid choice make it valid, and a valid choice has them.
use Rattle.std.proofs.Common.{◌≡◌, ℕ, zero, suc, ◌+◌, ◌<◌, ◌≤◌, Bool, true, false, not, List, [], ◌∷◌, length, map, get_or, slice_index_or, refl, sym, ap, ◌∙◌, subst, arith, Option, Some, None, ◌⊎◌, inl, inr, Decides}
use Rattle.std.specs.Prelude.{slice_get, is_some, IsSome, IfSome, IsSomeAnd, All, MatchOption, unwrap_or}
use Rattle.std.proofs.lemmas.Bool.{false≢true}
use Rattle.std.proofs.lemmas.Option.{slice_get-get_or, same_Some}
use Rattle.zi_policy.specs.declared.types.Width.TheVariants.{Bits32, Bits64}
use Rattle.zi_universe.specs.declared.types.Requirement.{Requirement}
use Rattle.zi_universe.specs.declared.types.Candidate.{Candidate}
use Rattle.zi_universe.specs.declared.types.Interface.{Interface}
use Rattle.zi_choice.specs.Choice.{Choice, Fits, pick, chosen, candidate_at}
use Rattle.zi_choice.specs.Walk.{Place as APlace, Use, Walk, Walks, is_listed}
use Rattle.zi_choice.specs.Traces.{as_place, as_use, as_walk}
use Rattle.zi_choice.specs.declared.traced.Place.{Place}
use Rattle.zi_choice.specs.declared.traced.Traced.{Traced}
use Rattle.zi_choice.specs.declared.traced.Used.{Used}
use Rattle.zi_choice.specs.Valid.{Has, AreMet, IsValid}
use Rattle.zi_choice.specs.Vars.{candidates_of}
use Rattle.zi_choice.proofs.Base.{all_at, all_from, if_some_at, if_some_from, chosen_from, candidate_is, candidates_at}
use Rattle.zi_choice.proofs.WalkFacts.{is_on, on_is}
use Rattle.zi_choice.proofs.WalkLaws.{walk_one}
use Rattle.zi_check.specs.declared.meeting.Setting.{Setting}
use Rattle.zi_numbering.specs.Listing.{AreListed}
use Rattle.zi_check.specs.Parts.{universe_of, picks_of, IsUseMet, IsCandidateMet, SomeAre, Below, IsThere, IsOn, IsRight}
use Rattle.zi_choice.proofs.ThereIsBest.{pick_inside}
use Rattle.zi_feed.specs.IdLaws.{none_some}
use Rattle.zi_text.proofs.ListLaws.{some_is, some_of}

pub pick_at : (s : Choice) (i : ℕ) (p : Option ℕ) → i < length s → get_or s i None ≡ p → pick s i ≡ p
pick_at s i p l e = ap (λ o. unwrap_or o None) (slice_get-get_or s i None l) ∙ e

-- what is so of each number below one
pub below_none : (P : ℕ → Type 0) → Below 0 P
below_none P i l = absurd (omega (arith, l))

same_or : (i n : ℕ) → i < n + 1 → (i < n) ⊎ (i ≡ n)
same_or zero zero l = inr refl
same_or zero (suc n) l = inl (omega arith)
same_or (suc i) zero l = absurd (omega (arith, l))
same_or (suc i) (suc n) l = elim (same_or i n (omega (arith, l))) [ inl a ↦ inl (omega (arith, a)) | inr e ↦ inr (ap suc e) ]

pub below_next : (P : ℕ → Type 0) (n : ℕ) → Below n P → P n → Below (n + 1) P
below_next P n h p i l = elim (same_or i n l) [ inl a ↦ h i a | inr e ↦ subst P (sym e) p ]

pub below_more : (P : ℕ → Type 0) (n : ℕ) (b : Bool) → Below n P → Decides b (P n) → b ≡ true → Below (n + 1) P
below_more P n b h t e = below_next P n h (t.0 e)

pub below_fails : (P : ℕ → Type 0) (n i : ℕ) (b : Bool) → i < n → Decides b (P i) → b ≡ false → Decides false (Below n P)
below_fails P n i b l t e = (λ y. absurd (false≢true y), λ h. absurd (false≢true (sym e ∙ t.1 (h i l))))

pub below_holds : (P : ℕ → Type 0) (n i : ℕ) → Below i P → n ≤ i → Decides true (Below n P)
below_holds P n i h l = (λ y j k. h j (omega (arith, k, l)), λ y. refl)

-- of none below it, and of one
pub none_more : (P : ℕ → Type 0) (n : ℕ) (b : Bool) → ((j : ℕ) → j < n → P j → ⊥) → Decides b (P n) → b ≡ false → (j : ℕ) → j < n + 1 → P j → ⊥
none_more P n b h t e j l p = elim (same_or j n l) [ inl a ↦ h j a p | inr q ↦ false≢true (sym e ∙ t.1 (subst P q p)) ]

pub one_there : (P : ℕ → Type 0) (n i : ℕ) (b : Bool) → i < n → Decides b (P i) → b ≡ true → Decides true ((j : ℕ) × (j < n) × P j)
one_there P n i b l t e = (λ y. (i, l, t.0 e), λ y. refl)

pub none_there : (P : ℕ → Type 0) (n i : ℕ) → ((j : ℕ) → j < i → P j → ⊥) → n ≤ i → Decides false ((j : ℕ) × (j < n) × P j)
none_there P n i h l = (λ y. absurd (false≢true y), λ g. absurd (let a = g.1 in h g.0 (omega (arith, a, l)) g.2))

-- it fits
pub there_none : (u : List Interface) (s : Choice) (i : ℕ) → pick s i ≡ None → IsThere u s i
there_none u s i e c p = absurd (none_some (sym e ∙ p))

pub there_some : (u : List Interface) (s : Choice) (i c : ℕ) → pick s i ≡ Some c → c < length (candidates_of u i) → IsThere u s i
there_some u s i c e l d p =
    let same : c ≡ d = same_Some _ _ (sym e ∙ p) in
    let k = item (candidates_of u i) c l in
    subst (λ m. IsSome (candidate_at u i m)) same (some_is (candidate_at u i c) k.0 (candidate_is u i c ∙ k.1))
  where
    item : (ks : List Candidate) (c : ℕ) → c < length ks → (k : Candidate) × (slice_get ks c ≡ Some k)
    item [] c l = absurd (omega (arith, l))
    item (k ∷ ks) zero l = (k, refl)
    item (k ∷ ks) (suc c) l = item ks c (omega (arith, l))

pub there_within : (u : List Interface) (s : Choice) (i c : ℕ) → pick s i ≡ Some c → IsThere u s i → c < length (candidates_of u i)
there_within u s i c e h =
    let k = some_of (candidate_at u i c) (h c e) in inside (candidates_of u i) c k.0 (sym (candidate_is u i c) ∙ k.1)
  where
    inside : (ks : List Candidate) (c : ℕ) (k : Candidate) → slice_get ks c ≡ Some k → c < length ks
    inside [] c k e = absurd (none_some e)
    inside (x ∷ ks) zero k e = omega arith
    inside (x ∷ ks) (suc c) k e = let r = inside ks c k e in omega (arith, r)

pub tells_there_none : (u : List Interface) (s : Choice) (i : ℕ) → pick s i ≡ None → Decides true (IsThere u s i)
tells_there_none u s i e = (λ y. there_none u s i e, λ y. refl)

pub tells_there : (u : List Interface) (s : Choice) (i c n : ℕ) (b : Bool) → pick s i ≡ Some c → n ≡ length (candidates_of u i) → Decides b (c < n) → Decides b (IsThere u s i)
tells_there u s i c n b e l t = (
  λ y. there_some u s i c e (let a = t.0 y in omega (arith, a, l)),
  λ h. t.1 (let a = there_within u s i c e h in omega (arith, a, l)),
)

pub fits_not : (u : List Interface) (s : Choice) (m n : ℕ) → m ≡ length s → n ≡ length u → (m ≡ n → ⊥) → Decides false (Fits u s)
fits_not u s m n e f d = (λ y. absurd (false≢true y), λ h. absurd (d (e ∙ h.each ∙ sym f)))

pub fits_fails : (u : List Interface) (s : Choice) (i : ℕ) (b : Bool) → Decides b (IsThere u s i) → b ≡ false → Decides false (Fits u s)
fits_fails u s i b t e = (λ y. absurd (false≢true y), λ h. absurd (false≢true (sym e ∙ t.1 (λ c p. h.there i c p))))

pub fits_holds : (u : List Interface) (s : Choice) (m n i : ℕ) → m ≡ length s → n ≡ length u → m ≡ n → Below i (IsThere u s) → m ≤ i → Decides true (Fits u s)
fits_holds u s m n i e f d h l = (
  λ y. record { each = sym e ∙ d ∙ f; there = λ j c p. let r = pick_inside s j c p in h j (omega (arith, r, l, e)) c p },
  λ y. refl,
)

-- what is picked is on the walk
pub tells_on_none : (s : Choice) (i : ℕ) (P : Type 0) → pick s i ≡ None → Decides true (IsSome (pick s i) → P)
tells_on_none s i P e = (λ y h. absurd (false≢true (subst IsSome e h)), λ y. refl)

pub tells_on : (s : Choice) (i c : ℕ) (b : Bool) (P : Type 0) → pick s i ≡ Some c → Decides b P → Decides b (IsSome (pick s i) → P)
tells_on s i c b P e t = (λ y h. t.0 y, λ h. t.1 (h (some_is (pick s i) c e)))

pub tells_listed : (n : ℕ) (ps : List APlace) (s : Choice) (ms : List Bool) (i : ℕ) (b : Bool) → AreListed n ps ms → i < n → Decides b (IsSome (pick s i) → slice_index_or ms i false ≡ true) → Decides b (IsOn ps s i)
tells_listed n ps s ms i b a l t = (λ y h. sym (a.are i l) ∙ t.0 y h, λ h. t.1 (λ y. a.are i l ∙ h y))

pub candidates_here : (u us : List Interface) (i : ℕ) (x : Interface) → us ≡ u → i < length us → x ≡ get_or us i x → candidates_of u i ≡ x.candidates
candidates_here u us i x e l h =
    subst (λ v. candidates_of v i ≡ x.candidates) e (candidates_at us i x (slice_get-get_or us i x l ∙ ap (λ y. Some y) (sym h)))

-- all is right but for the walk
pub right_root : (on : Setting) (req : Requirement) (n : ℕ) (b : Bool) → Decides b (IsSomeAnd (chosen (universe_of on) (picks_of on) 0) (λ c. IfSome req.command (λ name. Has c name))) → b ≡ false → Decides false (IsRight on req n)
right_root on req n b t e = (λ y. absurd (false≢true y), λ r. absurd (false≢true (sym e ∙ t.1 r.root)))

pub right_met : (on : Setting) (req : Requirement) (n : ℕ) (b : Bool) → Decides b (Below n (IsCandidateMet on)) → b ≡ false → Decides false (IsRight on req n)
right_met on req n b t e = (λ y. absurd (false≢true y), λ r. absurd (false≢true (sym e ∙ t.1 r.met)))

pub right_narrow : (on : Setting) (req : Requirement) (n : ℕ) (a b c : Bool) → Decides a (IsSomeAnd (chosen (universe_of on) (picks_of on) 0) (λ c. IfSome req.command (λ name. Has c name))) → a ≡ true → Decides b (Below n (IsCandidateMet on)) → b ≡ true → Decides c (SomeAre on n Bits32) → c ≡ false → Decides true (IsRight on req n)
right_narrow on req n a b c p e q f r g = (λ y. record { root = p.0 e; met = q.0 f; apart = λ x z. false≢true (sym g ∙ r.1 x) }, λ y. refl)

pub right_wide : (on : Setting) (req : Requirement) (n : ℕ) (a b c d : Bool) → Decides a (IsSomeAnd (chosen (universe_of on) (picks_of on) 0) (λ c. IfSome req.command (λ name. Has c name))) → a ≡ true → Decides b (Below n (IsCandidateMet on)) → b ≡ true → Decides c (SomeAre on n Bits32) → c ≡ true → Decides d (SomeAre on n Bits64) → Decides (not d) (IsRight on req n)
right_wide on req n a b c true p e q f r g t = (λ y. absurd (false≢true y), λ x. absurd (x.apart (r.0 g) (t.0 refl)))
right_wide on req n a b c false p e q f r g t = (λ y. record { root = p.0 e; met = q.0 f; apart = λ x z. false≢true (t.1 z) }, λ y. refl)

-- it is valid
module _ (on : Setting) (req : Requirement) (n : ℕ) where
  abbrev u : List Interface
  u = universe_of on

  abbrev s : Choice
  s = picks_of on

  pub valid_from : Fits u s → n ≡ length u → IsRight on req n → (w : Walk) → Walks u req s w → All (λ x. IsUseMet on x) w.used → Below (length s) (IsOn w.places s) → IsValid u req s
  valid_from f e r w walks uses placed = record {
    fits = f;
    root = r.root;
    met = λ i. if_some_from (λ (c : Candidate). AreMet u s c.imp.deps) (chosen u s i) (λ k g. if_some_at (λ (c : Candidate). AreMet u s c.imp.deps) (chosen u s i) k g (r.met i (below i k g)));
    walk = w;
    walks = walks;
    used_met = uses;
    one_group = λ i j c d g h p q. r.apart (i, below i c g, (c, g, p)) (j, below j d h, (d, h, q));
    exactly = λ i. (
      λ h. (let c = some_of (pick s i) h in is_on u req s w walks i c.0 (placed i (pick_inside s i c.0 c.1) h) c.1),
      λ h. (on_is u req s w walks i h).0,
    );
  }
    where
      below : (i : ℕ) (k : Candidate) → chosen u s i ≡ Some k → i < n
      below i k g =
          let c = chosen_from u s i k g in
          let l = pick_inside s i c.0 c.1 in
          let each = f.each in omega (arith, l, each, e)

  pub valid_right : IsValid u req s → IsRight on req n
  valid_right v = record {
    root = v.root;
    met = λ i l. v.met i;
    apart = λ a b. v.one_group a.0 b.0 a.2.0 b.2.0 a.2.1 b.2.1 a.2.2 b.2.2;
  }

  pub valid_uses : IsValid u req s → (w : Walk) → Walks u req s w → All (λ x. IsUseMet on x) w.used
  valid_uses v w walks = subst (λ (x : Walk). All (λ y. IsUseMet on y) x.used) (walk_one u req s v.walk w v.walks walks) v.used_met

  pub valid_placed : IsValid u req s → (w : Walk) → Walks u req s w → (m : ℕ) → Below m (IsOn w.places s)
  valid_placed v w walks m i l h =
      subst (λ (x : Walk). is_listed x i ≡ true) (walk_one u req s v.walk w v.walks walks) (on_is u req s v.walk v.walks i ((v.exactly i).0 h)).1

  mapped : (xs : List Used) (m : ℕ) (x : Used) → slice_get xs m ≡ Some x → slice_get (map as_use xs) m ≡ Some (as_use x)
  mapped [] m x e = absurd (none_some e)
  mapped (y ∷ xs) zero x e = ap (λ z. Some (as_use z)) (same_Some _ _ e)
  mapped (y ∷ xs) (suc m) x e = mapped xs m x e

  unmapped : (xs : List Used) (m : ℕ) (x : Use) → slice_get (map as_use xs) m ≡ Some x → (y : Used) × (slice_get xs m ≡ Some y) × (as_use y ≡ x)
  unmapped [] m x e = absurd (none_some e)
  unmapped (y ∷ xs) zero x e = (y, refl, same_Some _ _ e)
  unmapped (y ∷ xs) (suc m) x e = unmapped xs m x e

  pub uses_to : (xs : List Used) → All (λ x. IsUseMet on (as_use x)) xs → All (λ x. IsUseMet on x) (map as_use xs)
  uses_to xs h =
      all_from (λ x. IsUseMet on x) (map as_use xs) (λ m x e. let y = unmapped xs m x e in subst (λ z. IsUseMet on z) y.2 (all_at (λ (x : Used). IsUseMet on (as_use x)) xs m y.0 h y.1))

  pub uses_from : (xs : List Used) → All (λ x. IsUseMet on x) (map as_use xs) → All (λ x. IsUseMet on (as_use x)) xs
  uses_from xs h =
      all_from (λ (x : Used). IsUseMet on (as_use x)) xs (λ m x e. all_at (λ x. IsUseMet on x) (map as_use xs) m (as_use x) h (mapped xs m x e))

-- a choice over which the parts were looked at
valid_over : (on : Setting) (u : List Interface) (req : Requirement) (s : Choice) → universe_of on ≡ u → picks_of on ≡ s → IsValid u req s → IsValid (universe_of on) req (picks_of on)
valid_over on u req s e f v = subst (λ w. IsValid w req (picks_of on)) (sym e) (subst (λ p. IsValid u req p) (sym f) v)

pub walk_unfit : (u us : List Interface) (req : Requirement) (s ps : Choice) (b : Bool) → us ≡ u → ps ≡ s → Decides b (Fits us ps) → b ≡ false → IsValid u req s → ⊥
walk_unfit u us req s ps b e f t g v = false≢true (sym g ∙ t.1 (subst (λ w. Fits w ps) (sym e) (subst (λ p. Fits u p) (sym f) v.fits)))

pub walk_wrong : (on : Setting) (u : List Interface) (req : Requirement) (s : Choice) (n : ℕ) (b : Bool) → universe_of on ≡ u → picks_of on ≡ s → Decides b (IsRight on req n) → b ≡ false → IsValid u req s → ⊥
walk_wrong on u req s n b e f t g v = false≢true (sym g ∙ t.1 (valid_right on req n (valid_over on u req s e f v)))

pub walk_unmet : (on : Setting) (u : List Interface) (req : Requirement) (s : Choice) (n : ℕ) (a b : Bool) (t : Traced) (xs : List Used) → Decides a (IsRight on req n) → universe_of on ≡ u → picks_of on ≡ s → Walks (universe_of on) req (picks_of on) (as_walk t) → xs ≡ t.used → Decides b (All (λ x. IsUseMet on (as_use x)) xs) → b ≡ false → IsValid u req s → ⊥
walk_unmet on u req s n a b t xs r e f w q h g v =
    false≢true (sym g ∙ h.1 (subst (λ ys. All (λ x. IsUseMet on (as_use x)) ys) (sym q) (uses_from on req n t.used (valid_uses on req n (valid_over on u req s e f v) (as_walk t) w))))

pub walk_off : (on : Setting) (u : List Interface) (req : Requirement) (s : Choice) (n : ℕ) (a b : Bool) (t : Traced) (ps : List Place) → Decides a (IsRight on req n) → universe_of on ≡ u → picks_of on ≡ s → Walks (universe_of on) req (picks_of on) (as_walk t) → ps ≡ t.places → Decides b (Below (length (picks_of on)) (IsOn (map as_place ps) (picks_of on))) → b ≡ false → IsValid u req s → ⊥
walk_off on u req s n a b t ps r e f w q h g v =
    false≢true (sym g ∙ h.1 (subst (λ ys. Below (length (picks_of on)) (IsOn (map as_place ys) (picks_of on))) (sym q) (valid_placed on req n (valid_over on u req s e f v) (as_walk t) w (length (picks_of on)))))

pub walk_right : (on : Setting) (u us : List Interface) (req : Requirement) (s : Choice) (n : ℕ) (t : Traced) (xs : List Used) (ps : List Place) (a b c d : Bool) → universe_of on ≡ u → picks_of on ≡ s → us ≡ u → n ≡ length us → Decides a (Fits us (picks_of on)) → a ≡ true → Decides b (IsRight on req n) → b ≡ true → Walks (universe_of on) req (picks_of on) (as_walk t) → xs ≡ t.used → Decides c (All (λ x. IsUseMet on (as_use x)) xs) → c ≡ true → ps ≡ t.places → Decides d (Below (length (picks_of on)) (IsOn (map as_place ps) (picks_of on))) → d ≡ true → IsValid u req s × Walks u req s (as_walk t)
walk_right on u us req s n t xs ps a b c d e f q l fa ea fb eb w qu fc ec qp fd ed =
    let fit : Fits (universe_of on) (picks_of on) = subst (λ v. Fits v (picks_of on)) (q ∙ sym e) (fa.0 ea) in
    let len : n ≡ length (universe_of on) = l ∙ ap length (q ∙ sym e) in
    let uses : All (λ x. IsUseMet on x) (map as_use t.used) = uses_to on req n t.used (subst (λ ys. All (λ x. IsUseMet on (as_use x)) ys) qu (fc.0 ec)) in
    let placed : Below (length (picks_of on)) (IsOn (map as_place t.places) (picks_of on)) = subst (λ ys. Below (length (picks_of on)) (IsOn (map as_place ys) (picks_of on))) qp (fd.0 ed) in
    let v : IsValid (universe_of on) req (picks_of on) = valid_from on req n fit len (fb.0 eb) (as_walk t) w uses placed in (
      subst (λ z. IsValid z req s) e (subst (λ p. IsValid (universe_of on) req p) f v),
      subst (λ z. Walks z req s (as_walk t)) e (subst (λ p. Walks (universe_of on) req p (as_walk t)) f w),
    )

-- the walk of a choice says that it is valid, and none that it isn't
pub none_valid : {A : Type 0} (V : Type 0) (W : A → Type 0) (o : Option A) → o ≡ None → MatchOption o (V → ⊥) (λ t. V × W t) → V → ⊥
none_valid V W o e h = subst (λ p. MatchOption p (V → ⊥) (λ t. V × W t)) e h

pub some_valid : {A : Type 0} (V : Type 0) (W : A → Type 0) (o : Option A) (x : A) → o ≡ Some x → MatchOption o (V → ⊥) (λ t. V × W t) → V × W x
some_valid V W o x e h = subst (λ p. MatchOption p (V → ⊥) (λ t. V × W t)) e h

pub tells_walk : {A : Type 0} (V : Type 0) (W : A → Type 0) (o : Option A) (b : Bool) → MatchOption o (V → ⊥) (λ t. V × W t) → b ≡ is_some o → Decides b V
tells_walk V W None b h e = (λ t. absurd (false≢true (sym e ∙ t)), λ v. absurd (h v))
tells_walk V W (Some x) b h e = (λ t. h.0, λ v. e)
