-- Digests as they are written: what is read of them, and that nothing is wrong with them.
use Rattle.std.proofs.Common.{◌≡◌, ℕ, Bool, false, ◌||◌, List, [], ◌∷◌, ◌++◌, Option, Some, None, codes, refl, sym, ap, subst, ◌∙◌, append-nil}
use Rattle.std.specs.Prelude.{not, is_some, option_map, option_and_then}
use Rattle.std.specs.List.{find, filter_map, flat_map}
use Rattle.hex.specs.Hex.{encode_lower}
use Rattle.zi_elements.specs.Forest.{Forest, Elem, elements, attribute}
use Rattle.zi_elements.specs.Namespace.{injector}
use Rattle.zi_docout.specs.Elements.{elem}
use Rattle.zi_docout.specs.Same.{IsSame}
use Rattle.zi_digest.specs.Name.{base32, IsDigest}
use Rattle.zi_digest.specs.declared.Algorithm.{Algorithm}
use Rattle.zi_digest.specs.declared.Algorithm.TheVariants.{Sha1new, Sha256, Sha256new}
use Rattle.zi_digest.specs.declared.DigestName.{DigestName}
use Rattle.zi_digest.specs.declared.DigestName.TheVariants as digest
use Rattle.zi_address.specs.Texts.{same}
use Rattle.zi_reading.specs.Ways.{AsWritten}
use Rattle.zi_reading.specs.Words.{is_among, is_wrong, optional}
use Rattle.zi_parts.specs.Digests.{digest_of, digest_by, attribute_by, algorithms, said_digest, said_digests}
use Rattle.zi_reading.specs.Reading.{is_unclear}
use Rattle.zi_faults.specs.Said.{Said}
use Rattle.zi_faults.specs.Faults.{faults_with, kinds_at, has_bad_digits, repeats_in, shims_in}
use Rattle.zi_parts.proofs.DigestLaws.{digest_spelled}
use Rattle.zi_sels.specs.Written.{is_by, digest_attrs, digests_elems}
use Rattle.zi_sels.specs.Read.{in_order_of_use}
use Rattle.zi_sels_laws.proofs.LikeLaws.{AreSame, same_inside, Each}
use Rattle.zi_sels_laws.proofs.FieldLaws.{Field, field, fields, looked, app}
use Rattle.zi_sels_laws.proofs.PlainLaws.{here_is, made_is, condition, IsPlain, free_clear}
use Rattle.zi_sels_laws.proofs.CleanLaws.{IsClean, clean_inside, tested_faults, quiet_where}
use Rattle.zi_sels_laws.proofs.BindingLaws.{none_same, empty_repeats}
use Rattle.zi_version.proofs.VersionBytes.{some-map}

-- by each algorithm one digest or none, in the order of use
abbrev pub three : Option (List ℕ) → Option (List ℕ) → Option (List ℕ) → List DigestName
three n s o = optional (option_map (λ b. digest.Sha256new b) n) ++ (optional (option_map (λ b. digest.Sha256 b) s) ++ optional (option_map (λ b. digest.Sha1new b) o))

-- the digests of a selection as they may be read, whose id is this
pub record AreProper (id : List ℕ) (ds : List DigestName) : Type 0 where
  pub new : Option (List ℕ)
  pub middle : Option (List ℕ)
  pub old : Option (List ℕ)
  pub are : ds ≡ three new middle old
  pub whole : Each IsDigest (three new middle old)
  pub with_id : in_order_of_use (ds ++ optional (digest_of id)) ≡ ds

abbrev digest_fields : Option (List ℕ) → Option (List ℕ) → Option (List ℕ) → List Field
digest_fields n s o =
    field (codes "sha1new") (option_map encode_lower o) ∷ field (codes "sha256") (option_map encode_lower s) ∷ field (codes "sha256new") (option_map base32 n) ∷ []

digests_as_fields : (n s o : Option (List ℕ)) → digest_attrs (three n s o) ≡ fields (digest_fields n s o)
digests_as_fields None None None = refl
digests_as_fields None None (Some o) = refl
digests_as_fields None (Some s) None = refl
digests_as_fields None (Some s) (Some o) = refl
digests_as_fields (Some n) None None = refl
digests_as_fields (Some n) None (Some o) = refl
digests_as_fields (Some n) (Some s) None = refl
digests_as_fields (Some n) (Some s) (Some o) = refl

-- each by itself
pub record AreWhole (n s o : Option (List ℕ)) : Type 0 where
  pub new : Each IsDigest (optional (option_map (λ b. digest.Sha256new b) n))
  pub middle : Each IsDigest (optional (option_map (λ b. digest.Sha256 b) s))
  pub old : Each IsDigest (optional (option_map (λ b. digest.Sha1new b) o))

parts_whole : (xs ys : List DigestName) → Each IsDigest (xs ++ ys) → Each IsDigest xs × Each IsDigest ys
parts_whole [] ys h = (tt, h)
parts_whole (x ∷ xs) ys h = let r = parts_whole xs ys h.1 in ((h.0, r.0), r.1)

are_whole : (n s o : Option (List ℕ)) → Each IsDigest (three n s o) → AreWhole n s o
are_whole n s o h =
    let p = parts_whole (optional (option_map (λ b. digest.Sha256new b) n)) (optional (option_map (λ b. digest.Sha256 b) s) ++ optional (option_map (λ b. digest.Sha1new b) o)) h in
    let q = parts_whole (optional (option_map (λ b. digest.Sha256 b) s)) (optional (option_map (λ b. digest.Sha1new b) o)) p.1 in
    record { new = p.0; middle = q.0; old = q.1 }

new_back : (n : Option (List ℕ)) → Each IsDigest (optional (option_map (λ b. digest.Sha256new b) n)) → option_and_then (digest_by Sha256new) (option_map base32 n) ≡ option_map (λ b. digest.Sha256new b) n
new_back None h = refl
new_back (Some b) h = digest_spelled (digest.Sha256new b) h.0

middle_back : (n : Option (List ℕ)) → Each IsDigest (optional (option_map (λ b. digest.Sha256 b) n)) → option_and_then (digest_by Sha256) (option_map encode_lower n) ≡ option_map (λ b. digest.Sha256 b) n
middle_back None h = refl
middle_back (Some b) h = digest_spelled (digest.Sha256 b) h.0

old_back : (n : Option (List ℕ)) → Each IsDigest (optional (option_map (λ b. digest.Sha1new b) n)) → option_and_then (digest_by Sha1new) (option_map encode_lower n) ≡ option_map (λ b. digest.Sha1new b) n
old_back None h = refl
old_back (Some b) h = digest_spelled (digest.Sha1new b) h.0

-- what is right is not wrong
right_digits : (a : Algorithm) (text : Option (List ℕ)) (found : Option DigestName) → option_and_then (digest_by a) text ≡ found → is_some found ≡ is_some text → is_wrong (λ t. is_some (digest_by a t)) text ≡ false
right_digits a None found h k = refl
right_digits a (Some t) found h k = ap not (ap is_some h ∙ k)

-- the digest that an element says
pub first_said : (g : Elem) (a : Algorithm) → said_digest (g ∷ []) a ≡ option_and_then (digest_by a) (attribute (attribute_by a) g)
first_said g a = either (attribute (attribute_by a) g) refl
  where
    either : (o : Option (List ℕ)) → attribute (attribute_by a) g ≡ o → said_digest (g ∷ []) a ≡ option_and_then (digest_by a) o
    either None h = rw h refl
    either (Some t) h = rw h refl

pub three_said : (f : Algorithm → Option DigestName) → filter_map f algorithms ≡ optional (f Sha256new) ++ (optional (f Sha256) ++ optional (f Sha1new))
three_said f = either (f Sha256new) (f Sha256) (f Sha1new) refl refl refl
  where
    either : (x y z : Option DigestName) → f Sha256new ≡ x → f Sha256 ≡ y → f Sha1new ≡ z → filter_map f algorithms ≡ optional x ++ (optional y ++ optional z)
    either None None None p q r = rw (p, q, r) refl
    either None None (Some z) p q r = rw (p, q, r) refl
    either None (Some y) None p q r = rw (p, q, r) refl
    either None (Some y) (Some z) p q r = rw (p, q, r) refl
    either (Some x) None None p q r = rw (p, q, r) refl
    either (Some x) None (Some z) p q r = rw (p, q, r) refl
    either (Some x) (Some y) None p q r = rw (p, q, r) refl
    either (Some x) (Some y) (Some z) p q r = rw (p, q, r) refl

pub used_are : (ds : List DigestName) → in_order_of_use ds ≡ optional (find (is_by Sha256new) ds) ++ (optional (find (is_by Sha256) ds) ++ optional (find (is_by Sha1new) ds))
used_are ds = three_said (λ a. find (is_by a) ds)

abbrev digest_here : Option (List ℕ) → Option (List ℕ) → Option (List ℕ) → Forest → ℕ → Elem
digest_here n s o f p = here_is (codes "manifest-digest") (fields (digest_fields n s o)) f p

said_new : (n s o : Option (List ℕ)) (f : Forest) (p : ℕ) → AreWhole n s o → said_digest (digest_here n s o f p ∷ []) Sha256new ≡ option_map (λ b. digest.Sha256new b) n
said_new n s o f p h =
    first_said (digest_here n s o f p) Sha256new ∙ (ap (option_and_then (digest_by Sha256new)) (looked (codes "sha256new") (digest_fields n s o) refl) ∙ new_back n h.new)

said_middle : (n s o : Option (List ℕ)) (f : Forest) (p : ℕ) → AreWhole n s o → said_digest (digest_here n s o f p ∷ []) Sha256 ≡ option_map (λ b. digest.Sha256 b) s
said_middle n s o f p h =
    first_said (digest_here n s o f p) Sha256 ∙ (ap (option_and_then (digest_by Sha256)) (looked (codes "sha256") (digest_fields n s o) refl) ∙ middle_back s h.middle)

said_old : (n s o : Option (List ℕ)) (f : Forest) (p : ℕ) → AreWhole n s o → said_digest (digest_here n s o f p ∷ []) Sha1new ≡ option_map (λ b. digest.Sha1new b) o
said_old n s o f p h =
    first_said (digest_here n s o f p) Sha1new ∙ (ap (option_and_then (digest_by Sha1new)) (looked (codes "sha1new") (digest_fields n s o) refl) ∙ old_back o h.old)

digest_here_back : (n s o : Option (List ℕ)) (f : Forest) (p : ℕ) → AreWhole n s o → said_digests (digest_here n s o f p) ≡ three n s o
unfolding said_digests
digest_here_back n s o f p h =
    three_said (said_digest (digest_here n s o f p ∷ []))
    ∙ app (ap {B = List DigestName → List DigestName} (λ x y. x ++ y) (ap optional (said_new n s o f p h)))
    (app (ap {B = List DigestName → List DigestName} (λ x y. x ++ y) (ap optional (said_middle n s o f p h))) (ap optional (said_old n s o f p h)))

digest_good : (n s o : Option (List ℕ)) (f : Forest) (p : ℕ) → AreWhole n s o → has_bad_digits (digest_here n s o f p) ≡ false
digest_good n s o f p h =
    let fs = digest_fields n s o in
    app (app (ap {B = Bool → Bool → Bool} (λ x y z. x || (y || (z || false)))
    (ap (is_wrong (λ t. is_some (digest_by Sha256new t))) (looked (codes "sha256new") fs refl)
    ∙ right_digits Sha256new (option_map base32 n) (option_map (λ b. digest.Sha256new b) n) (new_back n h.new) (some-map (λ b. digest.Sha256new b) n ∙ sym (some-map base32 n))))
    (ap (is_wrong (λ t. is_some (digest_by Sha256 t))) (looked (codes "sha256") fs refl)
    ∙ right_digits Sha256 (option_map encode_lower s) (option_map (λ b. digest.Sha256 b) s) (middle_back s h.middle) (some-map (λ b. digest.Sha256 b) s ∙ sym (some-map encode_lower s))))
    (ap (is_wrong (λ t. is_some (digest_by Sha1new t))) (looked (codes "sha1new") fs refl)
    ∙ right_digits Sha1new (option_map encode_lower o) (option_map (λ b. digest.Sha1new b) o) (old_back o h.old) (some-map (λ b. digest.Sha1new b) o ∙ sym (some-map encode_lower o)))

digest_tested : (v : Said) (n s o : Option (List ℕ)) (f : Forest) (p : ℕ)
    → faults_with AsWritten v (digest_here n s o f p) ≡ tested_faults (digest_here n s o f p) (is_unclear (digest_here n s o f p)) (has_bad_digits (digest_here n s o f p)) false false false
    (repeats_in AsWritten (digest_here n s o f p)) []
unfolding faults_with kinds_at shims_in same is_among injector
digest_tested v n s o f p = refl

digest_here_clean : (n s o : Option (List ℕ)) (f : Forest) (p : ℕ) → AreWhole n s o → elements f ≡ [] → IsClean (digest_here n s o f p)
digest_here_clean n s o f p h inside =
    let e = digest_here n s o f p in (
      λ v. digest_tested v n s o f p ∙ quiet_where e (is_unclear e) (has_bad_digits e) false false false (repeats_in AsWritten e) []
          (free_clear e (looked condition (digest_fields n s o) refl)) (digest_good n s o f p h) refl refl refl (empty_repeats e inside) refl,
      clean_inside (codes "manifest-digest") f (subst (Each IsClean) (sym inside) tt),
    )

-- one element, or none

digest_same : (n s o : Option (List ℕ)) (r : Elem) → IsSame (elem (codes "manifest-digest") (digest_attrs (three n s o)) []) r → digest_here n s o r.inside r.place ≡ r
digest_same n s o r k = ap (λ v. here_is (codes "manifest-digest") v r.inside r.place) (sym (digests_as_fields n s o)) ∙ made_is (codes "manifest-digest") (digest_attrs (three n s o)) _ r k

abbrev pub IsDigestElem : Elem → Type 0
IsDigestElem r = IsPlain (codes "manifest-digest") r × IsClean r

digest_elem_is : (n s o : Option (List ℕ)) (r : Elem) → AreWhole n s o → IsSame (elem (codes "manifest-digest") (digest_attrs (three n s o)) []) r → IsDigestElem r
digest_elem_is n s o r h k = subst IsDigestElem (digest_same n s o r k) (
  record { space = refl; named = refl; free = looked condition (digest_fields n s o) refl },
  digest_here_clean n s o r.inside r.place h (none_same (elements r.inside) (same_inside (codes "manifest-digest") (digest_attrs (three n s o)) [] r k)),
)

digest_elem_back : (n s o : Option (List ℕ)) (r : Elem) → AreWhole n s o → IsSame (elem (codes "manifest-digest") (digest_attrs (three n s o)) []) r → said_digests r ≡ three n s o
digest_elem_back n s o r h k = ap said_digests (sym (digest_same n s o r k)) ∙ digest_here_back n s o r.inside r.place h

abbrev pub AreDigests : List DigestName → List Elem → Type 0
AreDigests ds rs = Each IsDigestElem rs × (flat_map said_digests rs ≡ ds)

pub digests_read : (id : List ℕ) (ds : List DigestName) (rs : List Elem) → AreProper id ds → AreSame (digests_elems ds) rs → AreDigests ds rs
unfolding digests_elems
digests_read id ds rs h k = subst (λ v. AreDigests v rs) (sym h.are) (by_list (three h.new h.middle h.old) refl rs (subst (λ v. AreSame (digests_elems v) rs) h.are k))
  where
    by_list : (xs : List DigestName) → three h.new h.middle h.old ≡ xs → (rs : List Elem) → AreSame (digests_elems xs) rs → AreDigests (three h.new h.middle h.old) rs
    by_list [] e [] s = (tt, sym e)
    by_list [] e (r ∷ rs) s = absurd s
    by_list (x ∷ xs) e [] s = absurd s
    by_list (x ∷ xs) e (r ∷ []) s =
        let k = subst (λ v. IsSame (elem (codes "manifest-digest") (digest_attrs v) []) r) (sym e) s.0 in
        let w = are_whole h.new h.middle h.old h.whole in
        ((digest_elem_is h.new h.middle h.old r w k, tt), append-nil (said_digests r) ∙ digest_elem_back h.new h.middle h.old r w k)
    by_list (x ∷ xs) e (r ∷ q ∷ rs) s = absurd s.1
