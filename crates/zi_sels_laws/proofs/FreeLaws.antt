-- Elements that have no fault: what that says of each that is read in them.
use Rattle.std.proofs.Common.{◌≡◌, ℕ, Bool, true, false, cond, ◌&&◌, ◌||◌, List, [], ◌∷◌, ◌++◌, map, Option, Some, None, codes, refl, sym, ap, ◌∙◌}
use Rattle.std.specs.Prelude.{not, filter, option_map, if◌then◌else◌}
use Rattle.std.specs.List.{flat_map}
use Rattle.std.proofs.lemmas.Bool.{both_ways}
use Rattle.zi_elements.specs.Forest.{Forest, none, words, child, Elem, elements}
use Rattle.zi_reading.specs.Words.{is_among, listed, optional, first}
use Rattle.zi_reading.specs.Ways.{Ways, AsWritten}
use Rattle.zi_reading.specs.Reading.{stands, is, is_ours, is_closed, is_unclear, is_part, parts}
use Rattle.zi_faults.specs.Sites.{Site, here, under, path, sites}
use Rattle.zi_faults.specs.Said.{Said, said}
use Rattle.zi_faults.specs.Faults.{fault_at, faults_at, faults_with, kinds_at, all_kinds, has_fault, is_bad_part, repeats_in, shims_in}
use Rattle.zi_feed.specs.Feeds.{part_fault}
use Rattle.zi_faults.specs.declared.fault.Fault.{Fault}
use Rattle.zi_faults.specs.declared.fault.FeedKind.{FeedKind}
use Rattle.zi_faults.specs.declared.fault.FeedKind.TheVariants.{BadRange, BadPart}
use Rattle.zi_sels_laws.proofs.LikeLaws.{Each, each_append}
use Rattle.zi_sels_laws.proofs.FieldLaws.{app}
use Rattle.zi_feed.specs.IdLaws.{least_none, both_empty, map_nil}

-- Small words.

pub empty_optional : {A B : Type 0} (f : A → B) (o : Option A) → optional (option_map f o) ≡ [] → o ≡ None
empty_optional f None h = refl
empty_optional f (Some x) h = absurd (cc h)

pub empty_option : {A : Type 0} (o : Option A) → optional o ≡ [] → o ≡ None
empty_option None h = refl
empty_option (Some x) h = absurd (cc h)

pub empty_first : {A : Type 0} (xs : List A) → first xs ≡ None → xs ≡ []
empty_first [] h = refl
empty_first (x ∷ xs) h = absurd (cc h)

pub each_filter : {A : Type 0} (P : A → Type 0) (test : A → Bool) (xs : List A) → Each P xs → Each (λ x. P x × (test x ≡ true)) (filter test xs)
each_filter P test [] h = tt
each_filter P test (x ∷ xs) h = either (test x) refl (each_filter P test xs h.1)
  where
    either : (b : Bool) → test x ≡ b → Each (λ y. P y × (test y ≡ true)) (filter test xs) → Each (λ y. P y × (test y ≡ true)) (cond b (x ∷ filter test xs) (filter test xs))
    either true k rest = ((h.0, k), rest)
    either false k rest = rest

pub each_weak : {A : Type 0} (P Q : A → Type 0) → ((x : A) → P x → Q x) → (xs : List A) → Each P xs → Each Q xs
each_weak P Q one [] h = tt
each_weak P Q one (x ∷ xs) h = (one x h.0, each_weak P Q one xs h.1)

pub each_map : {A B : Type 0} (P : B → Type 0) (f : A → B) (xs : List A) → Each (λ x. P (f x)) xs → Each P (map f xs)
each_map P f [] h = tt
each_map P f (x ∷ xs) h = (h.0, each_map P f xs h.1)

pub each_front : {A : Type 0} (P : A → Type 0) (xs ys : List A) → Each P (xs ++ ys) → Each P xs × Each P ys
each_front P [] ys h = (tt, h)
each_front P (x ∷ xs) ys h = let r = each_front P xs ys h.1 in ((h.0, r.0), r.1)

pub each_true : {A : Type 0} (xs : List A) → Each (λ x. Unit {0}) xs
each_true [] = tt
each_true (x ∷ xs) = (tt, each_true xs)

pub each_first : {A B : Type 0} (P : B → Type 0) (f : A → B) (xs : List A) → Each (λ x. P (f x)) xs → Each P (optional (option_map f (first xs)))
each_first P f [] h = tt
each_first P f (x ∷ xs) h = (h.0, tt)

pub each_of_flat : {A B : Type 0} (P : B → Type 0) (f : A → List B) (xs : List A) → Each P (flat_map f xs) → Each (λ x. Each P (f x)) xs
each_of_flat P f [] h = tt
each_of_flat P f (x ∷ xs) h = let r = each_front P (f x) (flat_map f xs) h in (r.0, each_of_flat P f xs r.1)

pub sub_filter : {A : Type 0} (P : A → Type 0) (test : A → Bool) (xs : List A) → Each P xs → Each P (filter test xs)
sub_filter P test xs h = each_weak (λ x. P x × (test x ≡ true)) P (λ x k. k.0) (filter test xs) (each_filter P test xs h)

pub each_flat : {A B : Type 0} (P : B → Type 0) (f : A → List B) (Q : A → Type 0) → ((x : A) → Q x → Each P (f x)) → (xs : List A) → Each Q xs → Each P (flat_map f xs)
each_flat P f Q one [] h = tt
each_flat P f Q one (x ∷ xs) h = each_append P (f x) (flat_map f xs) (one x h.0) (each_flat P f Q one xs h.1)

-- Elements without a fault.

abbrev pub IsFree : Ways → Site → Type 0
IsFree ways t = (s : Said) × (faults_with ways s t.element ≡ [])

pub free_all : (ways : Ways) (ss : List Site) → flat_map (faults_at ways) ss ≡ [] → Each (IsFree ways) ss
free_all ways [] h = tt
free_all ways (s ∷ ss) h =
    let b = both_empty (faults_at ways s) (flat_map (faults_at ways) ss) h in
    ((said (path s), b.0), free_all ways ss b.1)

-- what is known of an element without a fault, and of what is read in it
pub record IsRight (ways : Ways) (e : Elem) : Type 0 where
  pub said : Said
  pub free : faults_with ways said e ≡ []
  pub inside : is_closed e ≡ false → Each (IsFree ways) (sites ways e.name e.inside)

pub free_clear : (ways : Ways) (s : Said) (e : Elem) → faults_with ways s e ≡ [] → is_unclear e ≡ false
unfolding faults_with
free_clear ways s e h = either (is_unclear e) (map (fault_at e) (kinds_at ways s e) ++ map (λ r. fault_at r BadPart) (repeats_in ways e ++ shims_in ways e)) h
  where
    either : (b : Bool) (fs : List Fault) → (if b then fault_at e BadRange ∷ [] else fs) ≡ [] → b ≡ false
    either true fs k = absurd (cc k)
    either false fs k = refl

pub part_right : (e : Elem) → part_fault e ≡ None → IsRight AsWritten e
unfolding part_fault
part_right e h =
    let all = least_none (faults_at AsWritten (here e) ++ (if is_unclear e then [] else flat_map (faults_at AsWritten) (sites AsWritten e.name e.inside))) h in
    let b = both_empty (faults_at AsWritten (here e)) (if is_unclear e then [] else flat_map (faults_at AsWritten) (sites AsWritten e.name e.inside)) all in
    let clear = free_clear AsWritten (said (e ∷ [])) e b.0 in record {
      said = said (e ∷ []);
      free = b.0;
      inside = λ k. free_all AsWritten (sites AsWritten e.name e.inside) (sym (ap (λ v. if v then [] else flat_map (faults_at AsWritten) (sites AsWritten e.name e.inside)) clear) ∙ b.1);
    }

-- an element that is read in one of this name
pub record IsChild (ways : Ways) (parent : List ℕ) (c : Elem) : Type 0 where
  pub right : IsRight ways c
  pub part : is_part ways parent c ≡ true

pub strip : (ways : Ways) (e : Elem) (ss : List Site) → Each (IsFree ways) (map (under e) ss) → Each (IsFree ways) ss
strip ways e [] h = tt
strip ways e (s ∷ ss) h = (h.0, strip ways e ss h.1)

pub children : (ways : Ways) (parent : List ℕ) (f : Forest) → Each (IsFree ways) (sites ways parent f) → Each (IsChild ways parent) (filter (is_part ways parent) (elements f))
children ways parent none h = tt
children ways parent (words t k) h = children ways parent k h
children ways parent (child s n a f p k) h =
    let e : Elem = record { space = s; name = n; attrs = a; inside = f; place = p } in
    either e (stands ways parent e) (is_closed e) (is_unclear e) refl refl refl h (children ways parent k)
  where
    rest : Type 0
    rest = Each (IsChild ways parent) (filter (is_part ways parent) (elements k))

    either : (e : Elem) (b c u : Bool) → stands ways parent e ≡ b → is_closed e ≡ c → is_unclear e ≡ u
        → Each (IsFree ways) (if not b then sites ways parent k else if c then here e ∷ sites ways parent k else here e ∷ (map (under e) (sites ways e.name e.inside) ++ sites ways parent k))
        → (Each (IsFree ways) (sites ways parent k) → Each (IsChild ways parent) (filter (is_part ways parent) (elements k)))
        → Each (IsChild ways parent) (cond (b && not u) (e ∷ filter (is_part ways parent) (elements k)) (filter (is_part ways parent) (elements k)))
    either e false c u is shut unclear free more = more free
    either e true true true is shut unclear free more = more free.1
    either e true true false is shut unclear free more =
        (record { right = record { said = free.0.0; free = free.0.1; inside = λ open_. absurd (both_ways (is_closed e) open_ shut) }; part = app (ap {B = Bool → Bool} (λ x y. x && not y) is) unclear }, more free.1)
    either e true false true is shut unclear free more = more (each_front (IsFree ways) (map (under e) (sites ways e.name e.inside)) (sites ways parent k) free.1).1
    either e true false false is shut unclear free more =
        let parts_ = each_front (IsFree ways) (map (under e) (sites ways e.name e.inside)) (sites ways parent k) free.1 in
        (record { right = record { said = free.0.0; free = free.0.1; inside = λ open_. strip ways e (sites ways e.name e.inside) parts_.0 }; part = app (ap {B = Bool → Bool} (λ x y. x && not y) is) unclear }, more parts_.1)

-- the elements that count in one
pub right_parts : (ways : Ways) (e : Elem) → IsRight ways e → Each (IsChild ways e.name) (parts ways e)
unfolding parts
right_parts ways e h = either (is_closed e) refl
  where
    either : (b : Bool) → is_closed e ≡ b → Each (IsChild ways e.name) (if b then [] else filter (is_part ways e.name) (elements e.inside))
    either true shut = tt
    either false open_ = children ways e.name e.inside (h.inside open_)

-- What an element without a fault is.

pub record IsSound (ways : Ways) (s : Said) (e : Elem) : Type 0 where
  pub clear : is_unclear e ≡ false
  pub kinds : Each (λ k. has_fault ways s k e ≡ false) all_kinds
  pub repeats : repeats_in ways e ≡ []
  pub shims : shims_in ways e ≡ []

none_kept : (test : FeedKind → Bool) (ks : List FeedKind) → filter test ks ≡ [] → Each (λ k. test k ≡ false) ks
none_kept test [] h = tt
none_kept test (k ∷ ks) h = either (test k) refl h (none_kept test ks)
  where
    either : (b : Bool) → test k ≡ b → cond b (k ∷ filter test ks) (filter test ks) ≡ [] → (filter test ks ≡ [] → Each (λ j. test j ≡ false) ks) → Each (λ j. test j ≡ false) (k ∷ ks)
    either true is e more = absurd (cc e)
    either false is e more = (is, more e)

pub sound : (ways : Ways) (s : Said) (e : Elem) → faults_with ways s e ≡ [] → IsSound ways s e
unfolding faults_with kinds_at
sound ways s e h =
    let clear = free_clear ways s e h in
    let rest = sym (ap (λ b. if b then fault_at e BadRange ∷ [] else map (fault_at e) (kinds_at ways s e) ++ map (λ r. fault_at r BadPart) (repeats_in ways e ++ shims_in ways e)) clear) ∙ h in
    let b = both_empty (map (fault_at e) (kinds_at ways s e)) (map (λ r. fault_at r BadPart) (repeats_in ways e ++ shims_in ways e)) rest in
    let parts_ = both_empty (repeats_in ways e) (shims_in ways e) (map_nil (λ r. fault_at r BadPart) (repeats_in ways e ++ shims_in ways e) b.1) in record {
      clear = clear;
      kinds = none_kept (λ k. has_fault ways s k e) all_kinds (map_nil (fault_at e) (kinds_at ways s e) b.0);
      repeats = parts_.0;
      shims = parts_.1;
    }

pub right_sound : (ways : Ways) (e : Elem) (h : IsRight ways e) → IsSound ways h.said e
right_sound ways e h = sound ways h.said e h.free

-- it isn't a bad part
pub right_part : (ways : Ways) (e : Elem) → IsRight ways e → is_bad_part e ≡ false
right_part ways e h = (right_sound ways e h).kinds.1.1.1.1.1.1.0

pub right_clear : (ways : Ways) (e : Elem) → IsRight ways e → is_unclear e ≡ false
right_clear ways e h = free_clear ways h.said e h.free

-- it is in the namespace of feeds
pub child_ours : (ways : Ways) (parent : List ℕ) (c : Elem) → IsChild ways parent c → is_ours c ≡ true
unfolding stands
child_ours ways parent c h = by (is_ours c) _ _ _ _ refl h.part
  where
    by : (a b l w r : Bool) → is_ours c ≡ a → ((a && b && l && w) && r) ≡ true → is_ours c ≡ true
    by true b l w r p e = p
    by false b l w r p e = absurd (cc e)

-- it is in the namespace of feeds, and no restriction
pub record IsOwn (c : Elem) : Type 0 where
  pub ours : is_ours c ≡ true
  pub kept : is_among (listed (codes "version restricts")) c.name ≡ false

pub child_own : (parent : List ℕ) (c : Elem) → IsChild AsWritten parent c → IsOwn c
unfolding stands
child_own parent c h = by (is_ours c) _ _ _ (is_among (listed (codes "version restricts")) c.name) refl refl h.part
  where
    by : (a b l r u : Bool) → is_ours c ≡ a → is_among (listed (codes "version restricts")) c.name ≡ u → ((a && b && l && (false || not u)) && r) ≡ true → IsOwn c
    by true true true r false p q e = record { ours = p; kept = q }
    by true true true r true p q e = absurd (cc e)
    by true true false r u p q e = absurd (cc e)
    by true false l r u p q e = absurd (cc e)
    by false b l r u p q e = absurd (cc e)
