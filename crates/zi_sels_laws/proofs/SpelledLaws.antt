-- The digests of an implementation of a feed, as a selection may have them: by each algorithm one at most, and among them the one
-- that the id spells, unless another is said by its algorithm.
use Rattle.std.proofs.Common.{◌≡◌, ℕ, Bool, true, false, cond, List, ◌++◌, Option, Some, None, codes, refl, sym, ap, ◌∙◌, subst}
use Rattle.std.specs.Prelude.{find, nat_eq, option_map, option_and_then, if◌then◌else◌}
use Rattle.std.specs.Option.{option_or}
use Rattle.std.specs.List.{starts_with, filter_map}
use Rattle.zi_elements.specs.Forest.{Elem, value}
use Rattle.zi_digest.specs.Name.{spelling, IsDigest}
use Rattle.zi_digest.specs.declared.Algorithm.{Algorithm}
use Rattle.zi_digest.specs.declared.Algorithm.TheVariants.{Sha1new, Sha256, Sha256new}
use Rattle.zi_digest.specs.declared.DigestName.{DigestName}
use Rattle.zi_digest.specs.declared.DigestName.TheVariants as digest
use Rattle.zi_reading.specs.Words.{listed, optional}
use Rattle.zi_reading.specs.Ways.{Ways}
use Rattle.zi_reading.specs.Reading.{named}
use Rattle.zi_parts.specs.Digests.{digest_of, digest_by, front_by, algorithms, said_digest, id_digest, digests_of}
use Rattle.zi_parts.proofs.DigestLaws.{digest_is}
use Rattle.zi_sels.specs.Written.{is_by}
use Rattle.zi_sels.specs.Read.{in_order_of_use}
use Rattle.zi_sels_laws.proofs.LikeLaws.{Each}
use Rattle.zi_sels_laws.proofs.FieldLaws.{app}
use Rattle.zi_sels_laws.proofs.DigestsLaws.{AreProper, three, three_said, used_are}
use Rattle.zi_sels_laws.proofs.SaidLaws.{each_found, new_in, middle_in, old_in, find_new, find_middle, find_old, or_again}

-- By which algorithm a digest is.

-- it is by the algorithm whose front its spelling has
by_front : (a : Algorithm) (n : DigestName) → is_by a n ≡ starts_with nat_eq (spelling n) (front_by a)
by_front Sha1new (digest.Sha1new b) = refl
by_front Sha1new (digest.Sha256 b) = refl
by_front Sha1new (digest.Sha256new b) = refl
by_front Sha256 (digest.Sha1new b) = refl
by_front Sha256 (digest.Sha256 b) = refl
by_front Sha256 (digest.Sha256new b) = refl
by_front Sha256new (digest.Sha1new b) = refl
by_front Sha256new (digest.Sha256 b) = refl
by_front Sha256new (digest.Sha256new b) = refl

front_there : (a : Algorithm) (digits : List ℕ) → starts_with nat_eq (front_by a ++ digits) (front_by a) ≡ true
front_there Sha1new digits = refl
front_there Sha256 digits = refl
front_there Sha256new digits = refl

-- a digest by an algorithm
record IsOne (a : Algorithm) (n : DigestName) : Type 0 where
  pub by : is_by a n ≡ true
  pub whole : IsDigest n

one_spelled : (a : Algorithm) (text : List ℕ) (n : DigestName) → starts_with nat_eq text (front_by a) ≡ true → digest_of text ≡ Some n → IsOne a n
one_spelled a text n front h =
    let d = digest_is text n h in
    record { by = by_front a n ∙ (ap (λ t. starts_with nat_eq t (front_by a)) d.1 ∙ front); whole = d.0 }

-- all that there is, one or none, is by the algorithm
abbrev IsOwn : Algorithm → Option DigestName → Type 0
IsOwn a o = Each (IsOne a) (optional o)

own_or : (a : Algorithm) (x y : Option DigestName) → IsOwn a x → IsOwn a y → IsOwn a (option_or x y)
own_or a None y h k = k
own_or a (Some n) y h k = h

own_said : (a : Algorithm) (o : Option (List ℕ)) → IsOwn a (option_and_then (digest_by a) o)
own_said a None = tt
own_said a (Some t) = either (digest_by a t) refl
  where
    either : (r : Option DigestName) → digest_by a t ≡ r → IsOwn a r
    either None h = tt
    either (Some n) h = (one_spelled a (front_by a ++ t) n (front_there a t) h, tt)

own_id : (e : Elem) (a : Algorithm) → IsOwn a (id_digest e a)
own_id e a = either (starts_with nat_eq (value (codes "id") e) (front_by a)) (digest_of (value (codes "id") e)) refl refl
  where
    either : (b : Bool) (r : Option DigestName) → starts_with nat_eq (value (codes "id") e) (front_by a) ≡ b → digest_of (value (codes "id") e) ≡ r → IsOwn a (if b then r else None)
    either true None front h = tt
    either true (Some n) front h = (one_spelled a (value (codes "id") e) n front h, tt)
    either false r front h = tt

-- What is found by each algorithm.

-- the digest of an algorithm: one that is said, or else that of the id
abbrev found : Ways → Elem → Algorithm → Option DigestName
found ways e a = option_or (said_digest (named ways (listed (codes "manifest-digest")) e) a) (id_digest e a)

found_own : (ways : Ways) (e : Elem) (a : Algorithm) → IsOwn a (found ways e a)
found_own ways e a = own_or a (said_digest (named ways (listed (codes "manifest-digest")) e) a) (id_digest e a) (own_said a _) (own_id e a)

own_new : (o : Option DigestName) → IsOwn Sha256new o → o ≡ option_map (λ b. digest.Sha256new b) (new_in o)
own_new None h = refl
own_new (Some (digest.Sha256new b)) h = refl
own_new (Some (digest.Sha256 b)) h = absurd (cc h.0.by)
own_new (Some (digest.Sha1new b)) h = absurd (cc h.0.by)

own_middle : (o : Option DigestName) → IsOwn Sha256 o → o ≡ option_map (λ b. digest.Sha256 b) (middle_in o)
own_middle None h = refl
own_middle (Some (digest.Sha256 b)) h = refl
own_middle (Some (digest.Sha256new b)) h = absurd (cc h.0.by)
own_middle (Some (digest.Sha1new b)) h = absurd (cc h.0.by)

own_old : (o : Option DigestName) → IsOwn Sha1new o → o ≡ option_map (λ b. digest.Sha1new b) (old_in o)
own_old None h = refl
own_old (Some (digest.Sha1new b)) h = refl
own_old (Some (digest.Sha256 b)) h = absurd (cc h.0.by)
own_old (Some (digest.Sha256new b)) h = absurd (cc h.0.by)

own_whole : (a : Algorithm) (o : Option DigestName) → IsOwn a o → Each IsDigest (optional o)
own_whole a None h = tt
own_whole a (Some n) h = (h.0.whole, tt)

-- The id's digest once more behind them.

id_found : (e : Elem) (a : Algorithm) → find (is_by a) (optional (digest_of (value (codes "id") e))) ≡ id_digest e a
id_found e a = either (digest_of (value (codes "id") e)) refl
  where
    nothing : (b : Bool) → ◌≡◌ {A = Option DigestName} None (if b then None else None)
    nothing true = refl
    nothing false = refl

    one : (b : Bool) (n : DigestName) → cond b (Some n) None ≡ (if b then Some n else None)
    one true n = refl
    one false n = refl

    either : (r : Option DigestName) → digest_of (value (codes "id") e) ≡ r → find (is_by a) (optional r) ≡ (if starts_with nat_eq (value (codes "id") e) (front_by a) then r else None)
    either None h = nothing (starts_with nat_eq (value (codes "id") e) (front_by a))
    either (Some n) h =
        ap (λ b. cond b (Some n) None) (by_front a n ∙ ap (λ t. starts_with nat_eq t (front_by a)) (digest_is (value (codes "id") e) n h).1)
        ∙ one (starts_with nat_eq (value (codes "id") e) (front_by a)) n

-- what is found stays so with the id's digest behind it
found_again : (ways : Ways) (e : Elem) (a : Algorithm) (mine : Option DigestName) → found ways e a ≡ mine → option_or mine (find (is_by a) (optional (digest_of (value (codes "id") e)))) ≡ found ways e a
found_again ways e a mine h =
    app (ap option_or (sym h)) (id_found e a) ∙ or_again (said_digest (named ways (listed (codes "manifest-digest")) e) a) (id_digest e a)

pub digests_given : (ways : Ways) (e : Elem) → AreProper (value (codes "id") e) (digests_of ways e)
unfolding digests_of
digests_given ways e =
    let f = found ways e in
    let n = new_in (f Sha256new) in
    let s = middle_in (f Sha256) in
    let o = old_in (f Sha1new) in
    let id = optional (digest_of (value (codes "id") e)) in
    let new = own_new (f Sha256new) (found_own ways e Sha256new) in
    let middle = own_middle (f Sha256) (found_own ways e Sha256) in
    let old = own_old (f Sha1new) (found_own ways e Sha1new) in
    let are : filter_map f algorithms ≡ three n s o =
    three_said f
    ∙ app (ap {B = List DigestName → List DigestName} (λ x y. x ++ y) (ap optional new)) (app (ap {B = List DigestName → List DigestName} (λ x y. x ++ y) (ap optional middle)) (ap optional old)) in record {
      new = n;
      middle = s;
      old = o;
      are = are;
      whole = subst (Each IsDigest) are (each_found f algorithms (λ a. own_whole a (f a) (found_own ways e a)));
      with_id = ap (λ v. in_order_of_use (v ++ id)) are
          ∙ (used_are (three n s o ++ id)
          ∙ (app (ap {B = List DigestName → List DigestName} (λ x y. x ++ y)
          (ap optional (find_new n s o id ∙ found_again ways e Sha256new (option_map (λ b. digest.Sha256new b) n) new)))
          (app (ap {B = List DigestName → List DigestName} (λ x y. x ++ y)
          (ap optional (find_middle n s o id ∙ found_again ways e Sha256 (option_map (λ b. digest.Sha256 b) s) middle)))
          (ap optional (find_old n s o id ∙ found_again ways e Sha1new (option_map (λ b. digest.Sha1new b) o) old)))
          ∙ sym (three_said f)));
    }
