-- The fault of a feed, out of the faults of the elements that were seen.
use Rattle.std.proofs.Common.{◌≡◌, ℕ, Bool, true, false, ◌<◌, ◌≤◌, ◌+◌, suc, List, [], ◌∷◌, ◌++◌, map, drop, length, get_or, Option, Some, None, codes, refl, sym, ap, ◌∙◌, arith, append-nil}
use Rattle.std.specs.Prelude.{if◌then◌else◌}
use Rattle.std.specs.List.{flat_map, filter}
use Rattle.std.proofs.Math.Seq.{drop-cons}
use Rattle.std.proofs.lemmas.List.{drop_all}
use Rattle.std.proofs.lemmas.List.Folds.{flat_map-map}
use Rattle.zi_elements.specs.Forest.{Forest, Elem, element_view}
use Rattle.zi_faults.specs.declared.fault.Fault.{Fault}
use Rattle.zi_faults.specs.declared.carrying.Seen.{Seen}
use Rattle.zi_parts.specs.declared.types.Import.{Import}
use Rattle.zi_parts.specs.declared.types.Impl.{Impl}
use Rattle.zi_parts.specs.declared.types.Native.{Native}
use Rattle.zi_feed.specs.declared.feed.Feed.{Feed}
use Rattle.zi_policy.specs.declared.types.Policy.{Policy}
use Rattle.zi_feed.specs.Active.{kept_feed}
use Rattle.zi_reading.specs.Ways.{Ways, AsWritten, InFeed}
use Rattle.zi_reading.specs.Reading.{is, is_unclear}
use Rattle.zi_faults.specs.Sites.{Site, sites, here}
use Rattle.zi_faults.specs.Said.{Said, taken, unsaid}
use Rattle.zi_feed.specs.Impls.{import_of}
use Rattle.zi_faults.specs.Faults.{least, lesser_of, faults_with, faults_at, root_faults, same_ids}
use Rattle.zi_feed.specs.Feeds.{feed_fault, feed_of, part_fault, feed_sites}
use Rattle.zi_faults.specs.Carrying.{seen_view, said_by, faults_seen, carried_sites}
use Rattle.zi_faults.proofs.LeastLaws.{lesser_assoc, lesser_none, least_append}
use Rattle.zi_faults.proofs.CarryLaws.{said_path}
use Rattle.zi_faults.proofs.SeenLaws.{seen_sites, site_view}

seen_more : (ss : List Seen) (i : ℕ) (x : Seen) → i < length ss → x ≡ get_or ss i x → map seen_view (drop i ss) ≡ seen_view x ∷ map seen_view (drop (i + 1) ss)
seen_more ss i x h is =
    let n : suc i ≡ i + 1 = omega arith in
    ap (map seen_view) (drop-cons ss i x h ∙ (ap (λ y. y ∷ drop (suc i) ss) (sym is) ∙ ap (λ j. x ∷ drop j ss) n))

-- the faults at what is left
abbrev pub least_left : Ways → List Seen → ℕ → Option Fault
least_left ways ss i = least (flat_map (faults_seen ways) (map seen_view (drop i ss)))

pub fault_next : (ways : Ways) (ss : List Seen) (i : ℕ) (x : Seen) (found fault new total : Option Fault) → i < length ss → x ≡ get_or ss i x
    → fault ≡ least (faults_with ways (said_by x.said) (element_view x.element)) → new ≡ lesser_of found fault
    → lesser_of found (least_left ways ss i) ≡ total → lesser_of new (least_left ways ss (i + 1)) ≡ total
fault_next ways ss i x found fault new total h is at made kept =
    let rest : Option Fault = least_left ways ss (i + 1) in
    ap (λ v. lesser_of v rest) made
    ∙ (lesser_assoc found fault rest
    ∙ (ap (lesser_of found) (ap (λ v. lesser_of v rest) at ∙ (sym (least_append (faults_seen ways (seen_view x)) (flat_map (faults_seen ways) (map seen_view (drop (i + 1) ss))))
    ∙ ap (λ v. least (flat_map (faults_seen ways) v)) (sym (seen_more ss i x h is))))
    ∙ kept))

pub fault_end : (ways : Ways) (ss : List Seen) (i : ℕ) (found total : Option Fault) → length ss ≤ i → lesser_of found (least_left ways ss i) ≡ total → found ≡ total
fault_end ways ss i found total h kept =
    sym (lesser_none found) ∙ (ap (λ v. lesser_of found (least (flat_map (faults_seen ways) (map seen_view v)))) (sym (drop_all i ss h)) ∙ kept)

-- two faults of the root
pub two_faults : (a b : Bool) (f g : Fault) (u w : Option Fault) → u ≡ (if a then Some f else None) → w ≡ (if b then Some g else None)
    → lesser_of u w ≡ least ((if a then f ∷ [] else []) ++ (if b then g ∷ [] else []))
two_faults true true f g u w p q = ap (λ v. lesser_of v w) p ∙ ap (lesser_of (Some f)) q
two_faults true false f g u w p q = ap (λ v. lesser_of v w) p ∙ ap (lesser_of (Some f)) q
two_faults false true f g u w p q = ap (λ v. lesser_of v w) p ∙ ap (lesser_of None) q
two_faults false false f g u w p q = ap (λ v. lesser_of v w) p ∙ ap (lesser_of None) q

-- what is seen is what the sites say
faults_sites : (ways : Ways) (parent : List ℕ) (f : Forest) → flat_map (faults_seen ways) (carried_sites ways unsaid parent f) ≡ flat_map (faults_at ways) (sites ways parent f)
faults_sites ways parent f = ap (flat_map (faults_seen ways)) (seen_sites ways parent f) ∙ flat_map-map (faults_seen ways) site_view (sites ways parent f)

firsts : (ts : List Site) → map (λ x. x.0) (map site_view ts) ≡ map (λ t. t.element) ts
firsts [] = refl
firsts (t ∷ ts) = ap (λ v. t.element ∷ v) (firsts ts)

elements_sites : (ways : Ways) (parent : List ℕ) (f : Forest) → map (λ x. x.0) (carried_sites ways unsaid parent f) ≡ map (λ t. t.element) (sites ways parent f)
elements_sites ways parent f = ap (map (λ x. x.0)) (seen_sites ways parent f) ∙ firsts (sites ways parent f)

pub whole_fault : (root : Elem) (uri : List ℕ) (seen : List (Elem × Said)) (own inner shared : Option Fault)
    → is (codes "interface") root ≡ true → seen ≡ carried_sites (InFeed uri) unsaid root.name root.inside
    → own ≡ least (root_faults uri root) → inner ≡ least (flat_map (faults_seen (InFeed uri)) seen) → shared ≡ least (same_ids (map (λ x. x.0) seen))
    → lesser_of own (lesser_of inner shared) ≡ feed_fault root uri
unfolding feed_fault
whole_fault root uri seen own inner shared i s p q r =
    let f : List Fault = flat_map (faults_at (InFeed uri)) (feed_sites uri root) in
    let g : List Fault = same_ids (map (λ t. t.element) (feed_sites uri root)) in
    let e : inner ≡ least f = q ∙ ap least (ap (flat_map (faults_seen (InFeed uri))) s ∙ faults_sites (InFeed uri) root.name root.inside) in
    let h : shared ≡ least g = r ∙ ap (λ v. least (same_ids v)) (ap (map (λ x. x.0)) s ∙ elements_sites (InFeed uri) root.name root.inside) in
    ap (λ v. lesser_of v (lesser_of inner shared)) p
    ∙ (ap (λ v. lesser_of (least (root_faults uri root)) (lesser_of v shared)) e
    ∙ (ap (λ v. lesser_of (least (root_faults uri root)) (lesser_of (least f) v)) h
    ∙ (ap (lesser_of (least (root_faults uri root))) (sym (least_append f g))
    ∙ (sym (least_append (root_faults uri root) (f ++ g)) ∙ rw i refl))))

pub closed_part : (e : Elem) (s : Said) (own : Option Fault) → s ≡ taken unsaid e → own ≡ least (faults_with AsWritten s e) → is_unclear e ≡ true → own ≡ part_fault e
unfolding part_fault
closed_part e s own p q h =
    q ∙ (ap (λ v. least (faults_with AsWritten v e)) (p ∙ sym (said_path (here e))) ∙ rw h (sym (lesser_none (least (faults_at AsWritten (here e)))) ∙ sym (least_append (faults_at AsWritten (here e)) [])))

pub open_part : (e : Elem) (s : Said) (seen : List (Elem × Said)) (own inner : Option Fault) → s ≡ taken unsaid e → own ≡ least (faults_with AsWritten s e) → is_unclear e ≡ false
    → seen ≡ carried_sites AsWritten unsaid e.name e.inside → inner ≡ least (flat_map (faults_seen AsWritten) seen) → lesser_of own inner ≡ part_fault e
unfolding part_fault
open_part e s seen own inner p q h t r =
    let f : List Fault = flat_map (faults_at AsWritten) (sites AsWritten e.name e.inside) in
    let i : inner ≡ least f = r ∙ ap least (ap (flat_map (faults_seen AsWritten)) t ∙ faults_sites AsWritten e.name e.inside) in
    ap (λ v. lesser_of v inner) (q ∙ ap (λ v. least (faults_with AsWritten v e)) (p ∙ sym (said_path (here e))))
    ∙ (ap (lesser_of (least (faults_at AsWritten (here e)))) i ∙ (sym (least_append (faults_at AsWritten (here e)) f) ∙ rw h refl))

-- Imports.
imports_sites : (uri : List ℕ) (ts : List Site)
    → map (import_of (InFeed uri)) (filter (is (codes "feed")) (map (λ t. t.element) ts)) ≡ map (λ t. import_of (InFeed uri) t.element) (filter (λ t. is (codes "feed") t.element) ts)
imports_sites uri [] = refl
imports_sites uri (t ∷ ts) = one (is (codes "feed") t.element) (imports_sites uri ts)
  where
    one : (b : Bool) → map (import_of (InFeed uri)) (filter (is (codes "feed")) (map (λ t. t.element) ts)) ≡ map (λ t. import_of (InFeed uri) t.element) (filter (λ t. is (codes "feed") t.element) ts)
        → map (import_of (InFeed uri)) (if b then t.element ∷ filter (is (codes "feed")) (map (λ t. t.element) ts) else filter (is (codes "feed")) (map (λ t. t.element) ts))
        ≡ map (λ t. import_of (InFeed uri) t.element) (if b then t ∷ filter (λ t. is (codes "feed") t.element) ts else filter (λ t. is (codes "feed") t.element) ts)
    one true p = ap (λ v. import_of (InFeed uri) t.element ∷ v) p
    one false p = p

pub all_imports : (uri : List ℕ) (root : Elem) (seen : List (Elem × Said)) (found : List Import) → seen ≡ carried_sites (InFeed uri) unsaid root.name root.inside
    → found ≡ map (import_of (InFeed uri)) (filter (is (codes "feed")) (map (λ x. x.0) seen))
    → found ≡ map (λ t. import_of (InFeed uri) t.element) (filter (λ t. is (codes "feed") t.element) (feed_sites uri root))
all_imports uri root seen found s p =
    p ∙ (ap (λ v. map (import_of (InFeed uri)) (filter (is (codes "feed")) v)) (ap (map (λ x. x.0)) s ∙ elements_sites (InFeed uri) root.name root.inside)
    ∙ imports_sites uri (feed_sites uri root))

pub imports_are : (root : Elem) (uri : List ℕ) (seen : List (Elem × Said)) (found : List Import) → seen ≡ carried_sites (InFeed uri) unsaid root.name root.inside
    → found ≡ map (import_of (InFeed uri)) (filter (is (codes "feed")) (map (λ x. x.0) seen)) → found ≡ (feed_of root uri).imports
unfolding feed_of
imports_are root uri seen found s p = all_imports uri root seen found s p

-- the imports that are left
abbrev pub imports_left : List ℕ → List Seen → List Import
imports_left uri ss = map (import_of (InFeed uri)) (filter (is (codes "feed")) (map (λ x. x.0) (map seen_view ss)))

pub imports_end : (uri : List ℕ) (ss : List Seen) (i : ℕ) (found total : List Import) → length ss ≤ i → found ++ imports_left uri (drop i ss) ≡ total → found ≡ total
imports_end uri ss i found total h kept = sym (append-nil found) ∙ (ap (λ v. found ++ imports_left uri v) (sym (drop_all i ss h)) ∙ kept)

-- a feed of which each field is what is kept of another
four_are : (f : Feed) (uri : List ℕ) (imports : List Import) (impls : List Impl) (natives : List Native) → uri ≡ f.uri → imports ≡ f.imports → impls ≡ f.impls → natives ≡ f.natives
    → ◌≡◌ {A = Feed} (record { uri = uri; imports = imports; impls = impls; natives = natives }) f
four_are f uri imports impls natives u m i n =
    ap (λ v. record { uri = v; imports = imports; impls = impls; natives = natives }) u
    ∙ (ap (λ v. record { uri = f.uri; imports = v; impls = impls; natives = natives }) m
    ∙ (ap (λ v. record { uri = f.uri; imports = f.imports; impls = v; natives = natives }) i ∙ ap (λ v. record { uri = f.uri; imports = f.imports; impls = f.impls; natives = v }) n))

pub kept_whole : (policy : Option Policy) (f : Feed) (uri : List ℕ) (imports : List Import) (impls : List Impl) (natives : List Native) → uri ≡ f.uri → imports ≡ f.imports
    → impls ≡ (kept_feed policy f).impls → natives ≡ (kept_feed policy f).natives
    → ◌≡◌ {A = Feed} (record { uri = uri; imports = imports; impls = impls; natives = natives }) (kept_feed policy f)
kept_whole None f uri imports impls natives u m i n = four_are f uri imports impls natives u m i n
kept_whole (Some p) f uri imports impls natives u m i n = four_are (kept_feed (Some p) f) uri imports impls natives u m i n
