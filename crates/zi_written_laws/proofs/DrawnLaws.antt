-- Attributes that may be written: each of a name of its own, of some names in their order, with a value that XML can carry.
use Rattle.std.specs.Prelude.{if◌then◌else◌, not, bytes_eq, codes}
use Rattle.std.proofs.Common.{◌≡◌, ℕ, Bool, true, false, ◌||◌, ◌&&◌, List, [], ◌∷◌, ◌++◌, Option, Some, None, refl, ap}
use Rattle.std.specs.List.{list_any}
use Rattle.std.proofs.lemmas.Bool.{or_from, not-true, and_parts, or_parts}
use Rattle.zi_elements.specs.declared.element.Attr.{Attr}
use Rattle.zi_names.specs.Names.{has_twice}
use Rattle.zi_docout.specs.Amiss.{is_plain_name, is_amiss_attr, same_name}
use Rattle.zi_docout.specs.Elements.{attr}
use Rattle.zi_sels.specs.Written.{attr_of, attr_unless}
use Rattle.zi_doc_laws.specs.Trees.{IsCarried}
use Rattle.zi_written_laws.proofs.TextLaws.{carried_passes, IsCarriedOr}

pub data Drawn : List (List ℕ) → List Attr → Type 0 where
  done : Drawn [] []
  skip : {n : List ℕ} {ns : List (List ℕ)} {xs : List Attr} → Drawn ns xs → Drawn (n ∷ ns) xs
  here : {n : List ℕ} {ns : List (List ℕ)} {xs : List Attr} (v : List ℕ) → IsCarried v → Drawn ns xs → Drawn (n ∷ ns) (attr n v ∷ xs)

pub drawn_both : {ns ms : List (List ℕ)} {xs bs : List Attr} → Drawn ns xs → Drawn ms bs → Drawn (ns ++ ms) (xs ++ bs)
drawn_both done d = d
drawn_both (skip x) d = skip (drawn_both x d)
drawn_both (here v c x) d = here v c (drawn_both x d)

-- one attribute, or one that stands only where there is a value, or only where it isn't its default
pub drawn_one : (n v : List ℕ) → IsCarried v → Drawn (n ∷ []) (attr n v ∷ [])
drawn_one n v c = here v c done

pub drawn_of : (n : List ℕ) (o : Option (List ℕ)) → IsCarriedOr o → Drawn (n ∷ []) (attr_of n o)
drawn_of n None c = skip done
drawn_of n (Some v) c = here v c done

pub drawn_unless : (default n v : List ℕ) → IsCarried v → Drawn (n ∷ []) (attr_unless default n v)
drawn_unless default n v c = by (bytes_eq v default)
  where
    by : (b : Bool) → Drawn (n ∷ []) (if b then [] else attr n v ∷ [])
    by true = skip done
    by false = here v c done

-- Names that attributes may have, none of them twice.

abbrev pub is_own : List ℕ → Bool
is_own n = is_plain_name n && not (bytes_eq n (codes "xmlns"))

abbrev pub are_own : List (List ℕ) → Bool
are_own [] = true
are_own (n ∷ ns) = is_own n && (not (list_any (bytes_eq n) ns) && are_own ns)

attr_fine : (n v : List ℕ) → is_own n ≡ true → IsCarried v → is_amiss_attr (attr n v) ≡ false
unfolding is_amiss_attr
attr_fine n v h c =
    let x = and_parts (is_plain_name n) (not (bytes_eq n (codes "xmlns"))) h in
    or_from (not (is_plain_name n) || bytes_eq n (codes "xmlns")) _ (or_from (not (is_plain_name n)) _ (ap not x.0) (not-true (bytes_eq n (codes "xmlns")) x.1)) (ap not (carried_passes v c))

pub drawn_fine : {ns : List (List ℕ)} {xs : List Attr} → Drawn ns xs → are_own ns ≡ true → list_any is_amiss_attr xs ≡ false
drawn_fine done h = refl
drawn_fine (skip {n} {ns} x) h = drawn_fine x (and_parts (not (list_any (bytes_eq n) ns)) (are_own ns) (and_parts (is_own n) _ h).1).1
drawn_fine (here {n} {ns} {xs} v c x) h =
    let y = and_parts (is_own n) (not (list_any (bytes_eq n) ns) && are_own ns) h in
    or_from (is_amiss_attr (attr n v)) (list_any is_amiss_attr xs) (attr_fine n v y.0 c) (drawn_fine x (and_parts (not (list_any (bytes_eq n) ns)) (are_own ns) y.1).1)

-- a name that is none of these is that of no attribute
none_named : {ns : List (List ℕ)} {xs : List Attr} (m v : List ℕ) → Drawn ns xs → list_any (bytes_eq m) ns ≡ false → list_any (same_name (attr m v)) xs ≡ false
none_named m v done h = refl
none_named m v (skip {n} {ns} x) h = none_named m v x (or_parts (bytes_eq m n) (list_any (bytes_eq m) ns) h).1
none_named m v (here {n} {ns} {xs} u c x) h =
    let y = or_parts (bytes_eq m n) (list_any (bytes_eq m) ns) h in
    or_from (bytes_eq m n) (list_any (same_name (attr m v)) xs) y.0 (none_named m v x y.1)

pub drawn_once : {ns : List (List ℕ)} {xs : List Attr} → Drawn ns xs → are_own ns ≡ true → has_twice same_name xs ≡ false
drawn_once done h = refl
drawn_once (skip {n} {ns} x) h = drawn_once x (and_parts (not (list_any (bytes_eq n) ns)) (are_own ns) (and_parts (is_own n) _ h).1).1
drawn_once (here {n} {ns} {xs} v c x) h =
    let y = and_parts (not (list_any (bytes_eq n) ns)) (are_own ns) (and_parts (is_own n) (not (list_any (bytes_eq n) ns) && are_own ns) h).1 in
    or_from (list_any (same_name (attr n v)) xs) (has_twice same_name xs) (none_named n v x (not-true (list_any (bytes_eq n) ns) y.0)) (drawn_once x y.1)
