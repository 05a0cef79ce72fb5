-- Elements without a fault, in themselves and in all that is read in them.
use Rattle.std.proofs.Common.{◌≡◌, ℕ, Bool, true, false, List, [], ◌∷◌, ◌++◌, map, Option, Some, None, refl, ap, ◌∙◌}
use Rattle.std.specs.Prelude.{not, filter, is_some, if◌then◌else◌}
use Rattle.std.specs.List.{flat_map}
use Rattle.zi_elements.specs.Forest.{Forest, none, words, child, Elem, elements}
use Rattle.zi_reading.specs.Ways.{AsWritten}
use Rattle.zi_reading.specs.Words.{is_wrong}
use Rattle.zi_reading.specs.Reading.{stands, is_closed, is_unclear, meaning}
use Rattle.zi_faults.specs.Sites.{Site, here, under, path, sites}
use Rattle.zi_faults.specs.Said.{Said, said}
use Rattle.zi_faults.specs.Faults.{fault_at, faults_at, faults_with, all_kinds, least}
use Rattle.zi_feed.specs.Feeds.{part_fault}
use Rattle.zi_faults.specs.declared.fault.Fault.{Fault}
use Rattle.zi_faults.specs.declared.fault.FeedKind.{FeedKind}
use Rattle.zi_faults.specs.declared.fault.FeedKind.TheVariants.{BadRange, BadDigest, BadPart, NoInterface, BadAddress}
use Rattle.zi_sels.specs.Notes.{faults_of}
use Rattle.zi_sels_laws.proofs.LikeLaws.{Each, each_append}
use Rattle.zi_sels_laws.proofs.FieldLaws.{app}

-- no fault stands at it, whatever is said along its path
abbrev pub IsQuiet : Site → Type 0
IsQuiet t = (s : Said) → faults_with AsWritten s t.element ≡ []

-- an element and all that is read in it
abbrev pub tree_sites : Elem → List Site
tree_sites e = here e ∷ sites AsWritten e.name e.inside

abbrev pub IsClean : Elem → Type 0
IsClean e = Each IsQuiet (tree_sites e)

each_under : (e : Elem) (ss : List Site) → Each IsQuiet ss → Each IsQuiet (map (under e) ss)
each_under e [] h = tt
each_under e (s ∷ ss) h = (h.0, each_under e ss h.1)

-- what stands in an element, where each is clean
pub clean_inside : (parent : List ℕ) (f : Forest) → Each IsClean (elements f) → Each IsQuiet (sites AsWritten parent f)
clean_inside parent none h = tt
clean_inside parent (words t k) h = clean_inside parent k h
clean_inside parent (child s n a f p k) h =
    let e : Elem = record { space = s; name = n; attrs = a; inside = f; place = p } in
    let more = clean_inside parent k h.1 in
    either e (not (stands AsWritten parent e)) (is_closed e) h.0 more
  where
    either : (e : Elem) (b c : Bool) → IsClean e → Each IsQuiet (sites AsWritten parent k)
        → Each IsQuiet (if b then sites AsWritten parent k else if c then here e ∷ sites AsWritten parent k else here e ∷ (map (under e) (sites AsWritten e.name e.inside) ++ sites AsWritten parent k))
    either e true c one rest = rest
    either e false true one rest = (one.0, rest)
    either e false false one rest = (one.0, each_append IsQuiet (map (under e) (sites AsWritten e.name e.inside)) (sites AsWritten parent k) (each_under e (sites AsWritten e.name e.inside) one.1) rest)

quiet_all : (ss : List Site) → Each IsQuiet ss → flat_map (faults_at AsWritten) ss ≡ []
quiet_all [] h = refl
quiet_all (s ∷ ss) h = ap (λ v. v ++ flat_map (faults_at AsWritten) ss) (h.0 (said (path s))) ∙ quiet_all ss h.1

-- a clean element has no fault
pub clean_right : (e : Elem) → IsClean e → part_fault e ≡ None
unfolding part_fault
clean_right e h =
    ap (λ v. least (v ++ (if is_unclear e then [] else flat_map (faults_at AsWritten) (sites AsWritten e.name e.inside)))) (h.0 (said (e ∷ [])))
    ∙ (ap (λ v. least (if is_unclear e then [] else v)) (quiet_all (sites AsWritten e.name e.inside) h.1) ∙ either (is_unclear e))
  where
    either : (b : Bool) → least (if b then [] else []) ≡ None
    either true = refl
    either false = refl

pub clean_faults : (es : List Elem) → Each IsClean es → faults_of part_fault es ≡ []
clean_faults [] h = refl
clean_faults (e ∷ es) h = rw (clean_right e h.0) (clean_faults es h.1)

-- The faults of an element that is none of those that a feed alone has.

-- where these are the tests of what an element of a selections document can be wrong in
abbrev pub tested : Bool → Bool → Bool → Bool → FeedKind → Bool
tested digits part lacking address BadDigest = digits
tested digits part lacking address BadPart = part
tested digits part lacking address NoInterface = lacking
tested digits part lacking address BadAddress = address
tested digits part lacking address kind = false

abbrev pub tested_faults : Elem → Bool → Bool → Bool → Bool → Bool → List Elem → List Elem → List Fault
tested_faults e unclear digits part lacking address repeats shims =
    if unclear then fault_at e BadRange ∷ []
    else map (fault_at e) (filter (λ k. tested digits part lacking address k) all_kinds) ++ map (λ r. fault_at r BadPart) (repeats ++ shims)

-- none is
pub quiet_where : (e : Elem) (unclear digits part lacking address : Bool) (repeats shims : List Elem) → unclear ≡ false → digits ≡ false → part ≡ false → lacking ≡ false
    → address ≡ false → repeats ≡ [] → shims ≡ [] → tested_faults e unclear digits part lacking address repeats shims ≡ []
quiet_where e unclear digits part lacking address repeats shims u d p l a r s = app (app (app (app (app (app (ap (tested_faults e) u) d) p) l) a) r) s

-- an address is read as it is written
pub never_wrong : (o : Option (List ℕ)) → is_wrong (λ t. is_some (meaning AsWritten t)) o ≡ false
never_wrong None = refl
never_wrong (Some t) = refl
