-- What is said of a shelf at the end of a call, from stage to stage.
use Rattle.std.proofs.Common.{◌≡◌, ℕ, zero, suc, ◌+◌, ◌<◌, ◌≤◌, ◌⊎◌, inl, inr, List, [], ◌∷◌, ◌++◌, take, length, get_or, set, map, Some, refl, sym, ◌∙◌, ap, subst, arith, Result, Ok, Err}
use Rattle.std.proofs.lemmas.List.{take_more, take_all}
use Rattle.std.proofs.lemmas.List.Elements.{All-nil, All-cons, All-append}
use Rattle.std.proofs.lemmas.Option.{slice_get-get_or}
use Rattle.zi_digest.specs.declared.DigestName.{DigestName}
use Rattle.zi_digest.specs.Name.{spelling}
use Rattle.zi_tree.specs.Dir.{Dir}
use Rattle.zi_shelf.specs.Shelved.{Shelved}
use Rattle.zi_shelf.specs.Shelving.{Shelving, Stays}
use Rattle.zi_text.specs.Count.{Rose}
use Rattle.zi_shelf.specs.Told.{Told}
use Rattle.zi_store.specs.Keeping.{Keeps, is_reading}
use Rattle.zi_store.specs.declared.verdicts.Verdict.{Verdict}
use Rattle.zi_store.specs.declared.verdicts.Verdict.TheVariants as verdict
use Rattle.zi_store.specs.Verdicts.{Verifies}
use Rattle.zi_store.specs.Kept.{HoldsSound}
use Rattle.zi_store.specs.KeptNames.{IsKept}
use Rattle.zi_store.specs.declared.checked.Checked.{Checked}
use Rattle.zi_store.proofs.KeptLemmas.{is_sound}
use Rattle.zi_store.proofs.KeepingLemmas.{keeps_none, keeps_then}
use Rattle.zi_store.specs.Stores.{Each, IsCalm, Fails, SomeFails, HaveNames}
use Rattle.zi_store.proofs.StoresLemmas.{each_same, calm_same, each_set, fails_set}
use Rattle.zi_world.specs.Shelves.{HeldThen}
use Rattle.zi_world.specs.Places.{InStore}
use Rattle.zi_world.proofs.PlacesLemmas.{each_then, each_length, names_length, in_calm}
use Rattle.zi_world.proofs.StandLemmas.{in_store_by}
use Rattle.zi_outcome.specs.declared.outcome.Outcome.{Outcome}
use Rattle.zi_outcome.specs.declared.outcome.Outcome.TheVariants.{StoreFault, Memory}
use Rattle.zi_launching.specs.Verifying.{IsSound, SoundAt, AreSound, Condemns, FailsToVerify, FailsKept, WhereKept, VerifiesKept, IsCalmBut, VerifiesAll, KeepSound}

pub held_then : (before after : Shelving) (P : Shelved Dir → Type 0) → Keeps is_reading before after → ((s : Told) → before.honest → before.told ≡ Some s → P s.shelf) → HeldThen before after P
held_then before after P k h = λ s honest e. let m = k.holds s honest e in (m.0, m.1, subst P (sym m.2) (h s honest e))

-- later reading keeps what was held
pub held_on : (a b c : Shelving) (P : Shelved Dir → Type 0) → HeldThen a b P → Stays a b → Keeps is_reading b c → HeldThen a c P
held_on a b c P h st k = λ s honest e. let m = h s honest e in let n = k.holds m.0 (st.honest honest) m.1 in (n.0, n.1, subst P (sym n.2) m.2)

pub held_as : (before after : Shelving) (P Q : Shelved Dir → Type 0) → ((s : Shelved Dir) → P s → Q s) → HeldThen before after P → HeldThen before after Q
held_as before after P Q f h = λ s honest e. let m = h s honest e in (m.0, m.1, f m.0.shelf m.2)

-- One tree.
kept_then : (kept : Type 0) (d : DigestName) (before after : Shelving) (v : Verdict) → Keeps is_reading before after
    → ((s : Told) → before.honest → before.told ≡ Some s → (kept → HoldsSound d s.shelf) → Verifies d (Ok v) s.shelf) → HeldThen before after (WhereKept kept d (λ s. Verifies d (Ok v) s))
kept_then kept d before after v k h = held_then before after (WhereKept kept d (λ s. Verifies d (Ok v) s)) k h

pub sound_one : (kept : Type 0) (d : DigestName) (before after : Shelving) → Keeps is_reading before after → after.faults ≡ before.faults
    → ((s : Told) → before.honest → before.told ≡ Some s → (kept → HoldsSound d s.shelf) → Verifies d (Ok verdict.Sound) s.shelf) → VerifiesKept kept d before (Ok tt) after
sound_one kept d before after k calm h = (calm, kept_then kept d before after verdict.Sound k h)

pub condemned_one : (kept : Type 0) (d : DigestName) (v : Verdict) (before after : Shelving) (outcome : Outcome) → Keeps is_reading before after → after.faults ≡ before.faults
    → ((s : Told) → before.honest → before.told ≡ Some s → (kept → HoldsSound d s.shelf) → Verifies d (Ok v) s.shelf) → Condemns d v outcome → VerifiesKept kept d before (Err outcome) after
condemned_one kept d v before after outcome k calm h c = inl (v, c, calm, kept_then kept d before after v k h)

pub unsure_one : (kept : Type 0) (d : DigestName) (before after : Shelving) (outcome : Outcome) → outcome ≡ Memory → after.faults ≡ before.faults → VerifiesKept kept d before (Err outcome) after
unsure_one kept d before after outcome e calm = inr (inr (e, calm))

pub failed_one : (kept : Type 0) (d : DigestName) (before after : Shelving) (outcome : Outcome) → outcome ≡ StoreFault (spelling d) → Rose before.faults after.faults → (before.sure → ⊥) → VerifiesKept kept d before (Err outcome) after
failed_one kept d before after outcome e rose ne = inr (inl (e, (rose, ne)))

pub ruleset verifying = (sound_one, condemned_one, unsure_one, failed_one)

-- a name that isn't found sound isn't kept for it
pub not_kept : {P Q R S : Type 0} → P ⊎ (Q × R) → (R → ⊥) → P ⊎ (Q × S)
not_kept (inl p) never = inl p
not_kept (inr q) never = absurd (never q.1)

-- what was kept before holds, so what is said of the tree does
kept_one : (c : Checked) (d : DigestName) (before now then : Shelving) (P : Shelved Dir → Type 0) → Keeps is_reading before now → Keeps is_reading now then
    → (IsKept c d → HeldThen before now (λ s. HoldsSound d s)) → HeldThen now then (WhereKept (IsKept c d) d P) → HeldThen before then P
kept_one c d before now then P k l kept said = λ s honest e.
    let m = k.holds s honest e in
    let n = said m.0 (k.stays.honest honest) m.1 in (
      n.0,
      n.1,
      n.2 (λ is.
          let h = held_on before now then (λ t. HoldsSound d t) (kept is) k.stays l s honest e in
          let same : h.0 ≡ n.0 = cc in
          subst (λ (t : Told). HoldsSound d t.shelf) same h.2),
    )

fails_one : (c : Checked) (d : DigestName) (before now then : Shelving) (outcome : Outcome) → Keeps is_reading before now → Keeps is_reading now then
    → (IsKept c d → HeldThen before now (λ s. HoldsSound d s)) → IsCalm before now → FailsKept (IsKept c d) d now outcome then → FailsToVerify d before outcome then
fails_one c d a b then outcome k k2 held calm (inl (v, cond, still, h)) = inl (v, cond, still ∙ calm, kept_one c d a b then (λ s. Verifies d (Ok v) s) k k2 held h)
fails_one c d a b then outcome k k2 held calm (inr (inl (e, (rose, ne)))) = inr (inl (e, (subst (λ n. Rose n then.faults) calm rose, λ s. ne (k.stays.sure s))))
fails_one c d a b then outcome k k2 held calm (inr (inr (e, still))) = inr (inr (e, still ∙ calm))

-- no call failed at it, or one did
calm_one : (kept : Type 0) (d : DigestName) (before after : Shelving) (r : Result (Unit {0}) Outcome) → VerifiesKept kept d before r after → IsCalm before after ⊎ ((r ≡ Err (StoreFault (spelling d))) × Fails before after)
calm_one kept d before after (Ok x) (calm, held) = inl calm
calm_one kept d before after (Err outcome) (inl (v, cond, calm, held)) = inl calm
calm_one kept d before after (Err outcome) (inr (inl (e, failed))) = inr (ap (λ o. Err o) e, failed)
calm_one kept d before after (Err outcome) (inr (inr (e, calm))) = inl calm

pub calm_first : (kept : Type 0) (d : DigestName) (before after : Shelving) (others : List Shelving) (r : Result (Unit {0}) Outcome) → VerifiesKept kept d before r after → IsCalmBut d r (before ∷ others) (after ∷ others)
calm_first kept d before after others r v = by (calm_one kept d before after r v)
  where
    by : IsCalm before after ⊎ ((r ≡ Err (StoreFault (spelling d))) × Fails before after) → IsCalmBut d r (before ∷ others) (after ∷ others)
    by (inl calm) = inl (calm, calm_same others)
    by (inr (e, failed)) = inr (e, inl failed)

pub calm_other : {X : Type 0} (seen : X → Shelving) (kept : Type 0) (d : DigestName) (shelf : Shelving) (others : List X) (i : ℕ) (e y : X) (r : Result (Unit {0}) Outcome) → i < length others
    → VerifiesKept kept d (seen (get_or others i e)) r (seen y) → IsCalmBut d r (shelf ∷ map seen others) (shelf ∷ map seen (set others i y))
calm_other seen kept d shelf others i e y r lt v = by (calm_one kept d (seen (get_or others i e)) (seen y) r v)
  where
    by : IsCalm (seen (get_or others i e)) (seen y) ⊎ ((r ≡ Err (StoreFault (spelling d))) × Fails (seen (get_or others i e)) (seen y)) → IsCalmBut d r (shelf ∷ map seen others) (shelf ∷ map seen (set others i y))
    by (inl calm) = inl (refl, each_set seen IsCalm others others i e y (calm_same (map seen others)) refl lt calm)
    by (inr (is, failed)) = inr (is, inr (fails_set seen IsCalm others others i e y (calm_same (map seen others)) refl lt failed))

-- In one of several stores.
pub in_held_on : (P : Shelved Dir → Type 0) (i : ℕ) (before now then : List Shelving) → InStore i before now (λ b a. HeldThen b a P) → Each (Keeps is_reading) before now → Each (Keeps is_reading) now then
    → InStore i before then (λ b a. HeldThen b a P)
in_held_on P i [] now then h k l = absurd h
in_held_on P i (b ∷ bs) [] then h k l = absurd h
in_held_on P i (b ∷ bs) (m ∷ ms) [] h k l = absurd l
in_held_on P zero (b ∷ bs) (m ∷ ms) (a ∷ as_) h k l = held_on b m a P h k.0.stays l.0
in_held_on P (suc i) (b ∷ bs) (m ∷ ms) (a ∷ as_) h k l = in_held_on P i bs ms as_ h k.1 l.1

in_kept : (c : Checked) (d : DigestName) (P : Shelved Dir → Type 0) (i : ℕ) (before now then : List Shelving) → Each (Keeps is_reading) before now → Each (Keeps is_reading) now then
    → (IsKept c d → InStore i before now (λ b a. HeldThen b a (λ s. HoldsSound d s))) → InStore i now then (λ b a. HeldThen b a (WhereKept (IsKept c d) d P)) → InStore i before then (λ b a. HeldThen b a P)
in_kept c d P i before [] then k l kept h = absurd h
in_kept c d P i before (m ∷ ms) [] k l kept h = absurd h
in_kept c d P i [] (m ∷ ms) (a ∷ as_) k l kept h = absurd k
in_kept c d P zero (b ∷ bs) (m ∷ ms) (a ∷ as_) k l kept h = kept_one c d b m a P k.0 l.0 kept h
in_kept c d P (suc i) (b ∷ bs) (m ∷ ms) (a ∷ as_) k l kept h = in_kept c d P i bs ms as_ k.1 l.1 kept h

in_fails : (c : Checked) (d : DigestName) (outcome : Outcome) (i : ℕ) (before now then : List Shelving) → Each (Keeps is_reading) before now → Each (Keeps is_reading) now then → Each IsCalm before now
    → (IsKept c d → InStore i before now (λ b a. HeldThen b a (λ s. HoldsSound d s))) → InStore i now then (λ b a. FailsKept (IsKept c d) d b outcome a) → InStore i before then (λ b a. FailsToVerify d b outcome a)
in_fails c d outcome i before [] then k l calm kept h = absurd h
in_fails c d outcome i before (m ∷ ms) [] k l calm kept h = absurd h
in_fails c d outcome i [] (m ∷ ms) (a ∷ as_) k l calm kept h = absurd k
in_fails c d outcome zero (b ∷ bs) (m ∷ ms) (a ∷ as_) k l calm kept h = fails_one c d b m a outcome k.0 l.0 kept calm.0 h
in_fails c d outcome (suc i) (b ∷ bs) (m ∷ ms) (a ∷ as_) k l calm kept h = in_fails c d outcome i bs ms as_ k.1 l.1 calm.1 kept h

pub reads_then : (before now then : List Shelving) → Each (Keeps is_reading) before now → Each (Keeps is_reading) now then → Each (Keeps is_reading) before then
reads_then before now then k l = each_then (Keeps is_reading) (Keeps is_reading) (Keeps is_reading) (λ b m a h g. keeps_then h g) before now then k l

pub calm_then : (before now then : List Shelving) → Each IsCalm before now → Each IsCalm now then → Each IsCalm before then
calm_then before now then k l = each_then IsCalm IsCalm IsCalm (λ b m a h g. g ∙ h) before now then k l

fails_then : (before now then : List Shelving) → Each IsCalm before now → Each (Keeps is_reading) before now → SomeFails now then → SomeFails before then
fails_then before [] [] calm k h = absurd h
fails_then before [] (a ∷ as_) calm k h = absurd h
fails_then before (m ∷ ms) [] calm k h = absurd h
fails_then [] (m ∷ ms) (a ∷ as_) calm k h = absurd k
fails_then (b ∷ bs) (m ∷ ms) (a ∷ as_) calm k (inl (rose, ne)) = inl (subst (λ n. Rose n a.faults) calm.0 rose, λ s. ne (k.0.stays.sure s))
fails_then (b ∷ bs) (m ∷ ms) (a ∷ as_) calm k (inr h) = inr (fails_then bs ms as_ calm.1 k.1 h)

-- The number of each is one of a store.
seen_length : {X : Type 0} (seen : X → Shelving) (xs : List X) → length (map seen xs) ≡ length xs
seen_length seen [] = refl
seen_length seen (x ∷ xs) = ap suc (seen_length seen xs)

pub all_within : {X : Type 0} (seen : X → Shelving) (number : DigestName → ℕ) (k : Shelving) (xs : List X) → ((d : DigestName) → number d ≤ length xs) → (d : DigestName) → number d < length (k ∷ map seen xs)
all_within seen number k xs h d = let w = h d in let n = seen_length seen xs in omega (arith, w, n)

-- as many others as there were
pub others_stay : {X : Type 0} (seen : X → Shelving) (R : Shelving → Shelving → Type 0) (k l : Shelving) (xs ys : List X) → Each R (k ∷ map seen xs) (l ∷ map seen ys) → length ys ≡ length xs
others_stay seen R k l xs ys h = sym (seen_length seen ys) ∙ each_length R (map seen xs) (map seen ys) h.1 ∙ seen_length seen xs

-- and a list of names for each store
pub names_for : {X : Type 0} (seen : X → Shelving) (R : Shelving → Shelving → Type 0) (k l : Shelving) (xs ys : List X) (each : List (List DigestName)) → HaveNames (k ∷ map seen xs) each → Each R (k ∷ map seen xs) (l ∷ map seen ys)
    → length each ≡ length ys + 1
names_for seen R k l xs ys each has h =
    let n = names_length (k ∷ map seen xs) each has in
    let a = seen_length seen xs in
    let b = others_stay seen R k l xs ys h in
    omega (arith, n, a, b)

pub within_now : {X : Type 0} (seen : X → Shelving) (number : DigestName → ℕ) (k l : Shelving) (xs ys : List X) (d : DigestName) (store : ℕ) → ((d : DigestName) → number d ≤ length xs)
    → Each (Keeps is_reading) (k ∷ map seen xs) (l ∷ map seen ys) → store ≡ number d → store ≤ length ys
within_now seen number k l xs ys d store h keeps e = let w = h d in let n = others_stay seen (Keeps is_reading) k l xs ys keeps in omega (arith, w, n, e)

-- All of them.
module _ (number : DigestName → ℕ) where
  pub record AreSoFar (names : List DigestName) (c : Checked) (before now : List Shelving) : Type 0 where
    pub calm : Each IsCalm before now
    pub sound : AreSound number before now names
    pub kept : KeepSound number c before now
    pub keeps : Each (Keeps is_reading) before now

  next_sound : (names : List DigestName) (i : ℕ) (d : DigestName) (c c' : Checked) (X : Type 0) (before now then : List Shelving) → take (i + 1) names ≡ take i names ++ d ∷ []
      → AreSoFar (take i names) c before now → InStore (number d) now then (λ b a. VerifiesKept (IsKept c d) d b (Ok tt) a) → ((n : DigestName) → IsKept c' n → IsKept c n ⊎ ((n ≡ d) × X))
      → Each IsCalm now then → Each (Keeps is_reading) now then → AreSoFar (take (i + 1) names) c' before then
  next_sound names i d c c' X before now then q a said only calm k =
      let of_tree = in_store_by (λ b a. VerifiesKept (IsKept c d) d b (Ok tt) a) (λ b a. HeldThen b a (WhereKept (IsKept c d) d (λ s. IsSound s d))) (λ b a v. v.1) (number d) now then said in
      let sound : SoundAt number before then d = in_kept c d (λ s. IsSound s d) (number d) before now then a.keeps k (λ is. a.kept d is) of_tree in
      subst (λ ns. AreSoFar ns c' before then) (sym q) (record {
        calm = calm_then before now then a.calm calm;
        sound = All-append (SoundAt number before then) (take i names) (d ∷ [])
            (λ j e lt. in_held_on (λ s. IsSound s (get_or (take i names) j e)) (number (get_or (take i names) j e)) before now then (a.sound j e lt) a.keeps k)
            (All-cons (SoundAt number before then) d [] sound (All-nil (SoundAt number before then)));
        kept = λ n h. by n (only n h) sound;
        keeps = reads_then before now then a.keeps k;
      })
    where
      by : (n : DigestName) → IsKept c n ⊎ ((n ≡ d) × X) → SoundAt number before then d → InStore (number n) before then (λ b a. HeldThen b a (λ s. HoldsSound n s))
      by n (inl is) sound = in_held_on (λ s. HoldsSound n s) (number n) before now then (a.kept n is) a.keeps k
      by n (inr (same, x)) sound =
          subst (λ m. InStore (number m) before then (λ b a. HeldThen b a (λ s. HoldsSound m s))) (sym same)
          (in_store_by (λ b a. HeldThen b a (λ s. IsSound s d)) (λ b a. HeldThen b a (λ s. HoldsSound d s)) (λ b a h. held_as b a (λ s. IsSound s d) (λ s. HoldsSound d s) (λ s. is_sound d s) h) (number d) before then sound)

  calm_ok : (d : DigestName) (now then : List Shelving) → IsCalmBut d (Ok tt) now then → Each IsCalm now then
  calm_ok d now then (inl calm) = calm
  calm_ok d now then (inr h) = absurd cc

  -- the next is read, at any default of the list's elements
  pub so_far_next : (names : List DigestName) (i : ℕ) (e : DigestName) (c c' : Checked) (X : Type 0) (before now then : List Shelving) (r : Result (Unit {0}) Outcome) → i < length names
      → AreSoFar (take i names) c before now → InStore (number (get_or names i e)) now then (λ b a. VerifiesKept (IsKept c (get_or names i e)) (get_or names i e) b r a)
      → ((n : DigestName) → IsKept c' n → IsKept c n ⊎ ((n ≡ get_or names i e) × X)) → IsCalmBut (get_or names i e) r now then → r ≡ Ok tt → Each (Keeps is_reading) now then → AreSoFar (take (i + 1) names) c' before then
  so_far_next names i e c c' X before now then r lt a v only calm is k =
      let d = get_or names i e in
      next_sound names i d c c' X before now then (take_more names i e lt) a (subst (λ q. InStore (number d) now then (λ b a. VerifiesKept (IsKept c d) d b q a)) is v) only
      (calm_ok d now then (subst (λ q. IsCalmBut d q now then) is calm)) k

  calm_err : (d : DigestName) (outcome : Outcome) (before now then : List Shelving) → Each IsCalm before now → Each (Keeps is_reading) before now → IsCalmBut d (Err outcome) now then
      → Each IsCalm before then ⊎ ((outcome ≡ StoreFault (spelling d)) × SomeFails before then)
  calm_err d outcome before now then calm k (inl still) = inl (calm_then before now then calm still)
  calm_err d outcome before now then calm k (inr (e, h)) = let same : outcome ≡ StoreFault (spelling d) = cc in inr (same, fails_then before now then calm k h)

  pub so_far_stops : (names : List DigestName) (i : ℕ) (e : DigestName) (c : Checked) (before now then : List Shelving) (r : Result (Unit {0}) Outcome) (outcome : Outcome) → i < length names
      → AreSoFar (take i names) c before now → InStore (number (get_or names i e)) now then (λ b a. VerifiesKept (IsKept c (get_or names i e)) (get_or names i e) b r a) → IsCalmBut (get_or names i e) r now then → r ≡ Err outcome
      → Each (Keeps is_reading) now then → VerifiesAll number names before (Err outcome) then
  so_far_stops names i e c before now then r outcome lt a v calm is k =
      let d = get_or names i e in
      record {
        place = i;
        name = d;
        here = slice_get-get_or names i e lt;
        sound = λ j f l. in_held_on (λ s. IsSound s (get_or (take i names) j f)) (number (get_or (take i names) j f)) before now then (a.sound j f l) a.keeps k;
        fails = in_fails c d outcome (number d) before now then a.keeps k a.calm (λ kept. a.kept d kept) (subst (λ q. InStore (number d) now then (λ b a. VerifiesKept (IsKept c d) d b q a)) is v);
        calm = calm_err d outcome before now then a.calm a.keeps (subst (λ q. IsCalmBut d q now then) is calm);
      }

  -- there was no memory for the text of its name
  pub so_far_unsure : (names : List DigestName) (i : ℕ) (c : Checked) (before now : List Shelving) (outcome : Outcome) → i < length names → AreSoFar (take i names) c before now → outcome ≡ Memory
      → ((d : DigestName) → number d < length before) → VerifiesAll number names before (Err outcome) now
  so_far_unsure [] i c before now outcome lt a is within = absurd (omega (arith, lt))
  so_far_unsure (e ∷ names) i c before now outcome lt a is within =
      let d : DigestName = get_or (e ∷ names) i e in
      record {
        place = i;
        name = d;
        here = slice_get-get_or (e ∷ names) i e lt;
        sound = a.sound;
        fails = in_calm (number d) before now (λ b a. FailsToVerify d b outcome a) (within d) (λ b a calm. inr (inr (is, calm))) a.calm;
        calm = inl a.calm;
      }

  pub so_far_all : (names : List DigestName) (i : ℕ) (c : Checked) (before now : List Shelving) → length names ≤ i → AreSoFar (take i names) c before now → VerifiesAll number names before (Ok tt) now
  so_far_all names i c before now le a = subst (λ ns. VerifiesAll number ns before (Ok tt) now) (take_all i names le) (a.calm, a.sound)

  -- none was read
  pub so_far_none : (names : List DigestName) (c : Checked) (before : List Shelving) → ((n : DigestName) → IsKept c n → ⊥) → AreSoFar (take 0 names) c before before
  so_far_none names c before none = record {
    calm = calm_same before;
    sound = All-nil (SoundAt number before before);
    kept = λ n h. absurd (none n h);
    keeps = each_same (Keeps is_reading) (keeps_none is_reading) before;
  }
