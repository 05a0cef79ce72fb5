-- The feed that is read of the text of a row: it has no fault, and its implementations are those of the row.
use Rattle.std.proofs.Common.{◌≡◌, ℕ, ◌+◌, ◌<◌, Bool, true, false, cond, List, [], ◌∷◌, ◌++◌, map, codes, Some, None, refl, sym, ap, subst, ◌∙◌, append_assoc}
use Rattle.std.specs.Prelude.{filter, is_some, decimal, if◌then◌else◌}
use Rattle.std.specs.List.{AllZip, AllByRecursion, filter_map, flat_map, cons_option}
use Rattle.std.proofs.lemmas.Fmt.{decimal_digit}
use Rattle.std.proofs.lemmas.List.Elements.{filter-append}
use Rattle.zi_elements.specs.declared.element.Attr.{Attr}
use Rattle.zi_elements.specs.declared.element.Element.{Element}
use Rattle.zi_elements.specs.Forest.{Forest, Elem, elements, element_view}
use Rattle.zi_elements.specs.Namespace.{injector}
use Rattle.zi_doc.specs.Documents.{Spells}
use Rattle.zi_docout.specs.Canonical.{document}
use Rattle.zi_docout.specs.Amiss.{first_amiss}
use Rattle.zi_docout.specs.Elements.{attr, nodes}
use Rattle.zi_docout.specs.Same.{has_child, IsSame, IsReadBack}
use Rattle.zi_address.specs.Texts.{same}
use Rattle.zi_reading.specs.Ways.{InFeed}
use Rattle.zi_reading.specs.Words.{repeated}
use Rattle.zi_reading.specs.Reading.{is, is_unclear}
use Rattle.zi_parts.specs.declared.types.Impl.{Impl}
use Rattle.zi_faults.specs.Said.{said}
use Rattle.zi_faults.specs.Sites.{Site, here, under}
use Rattle.zi_faults.specs.Faults.{faults_at, faults_with, fault_at, root_faults, same_ids, share, counts, implementations, least}
use Rattle.zi_faults.specs.declared.fault.Fault.{Fault}
use Rattle.zi_faults.specs.declared.fault.FeedKind.TheVariants.{NotInterface, SameId}
use Rattle.zi_feed.specs.declared.feed.Feed.{Feed}
use Rattle.zi_feed.specs.Impls.{impl_of, import_of}
use Rattle.zi_feed.specs.Natives.{counts_native, native_of, packages}
use Rattle.zi_feed.specs.Feeds.{feed_sites, all_faults, feed_fault, feed_of}
use Rattle.zi_demo.specs.Feeds.{address, version, interface, text_of}
use Rattle.zi_demo_laws.proofs.LikeLemmas.{tree_of, view_back, read_elements}
use Rattle.zi_demo_laws.proofs.RowLemmas.{Piece, piece_elem, Version, version_elem, Row, feed_row}
use Rattle.zi_demo_laws.proofs.PieceLemmas.{here_is, made_is, IsPieceAt, read_pieces, dep_by, IsRightPiece, Tells, is_no_feed, is_no_version, is_no_package, no_faults}
use Rattle.zi_demo_laws.proofs.VersionLemmas.{version_at, IsDigit, folder, impl_by, impl_there, version_right, site_at, sites_each, version_sites, version_site, version_is_no_feed, version_counts, version_is_no_package}

abbrev pub digit_of : Version → ℕ
digit_of v = 48 + v.number

-- a version where it stands, and what stands in it
pub record IsVersionAt (v : Version) (r : Elem) : Type 0 where
  pub so : r ≡ version_at (digit_of v) r.inside r.place
  pub inside : AllZip IsPieceAt v.says (elements r.inside)

pub record IsRightVersion (v : Version) : Type 0 where
  pub small : v.number < 10
  pub digit : IsDigit (digit_of v)
  pub says : AllByRecursion IsRightPiece v.says

abbrev attrs_by : List ℕ → List Attr
attrs_by t = attr (codes "id") (codes "v" ++ t) ∷ attr (codes "version") t ∷ attr (codes "local-path") (codes ".") ∷ []

read_version : (v : Version) (r : Elem) → v.number < 10 → IsSame (version_elem v) r → IsVersionAt v r
unfolding version
read_version v r small s = record {
  so = made_is (codes "implementation") (attrs_by (decimal v.number)) (nodes (map piece_elem v.says)) r s ∙ ap (λ t. here_is (codes "implementation") (attrs_by t) r.inside r.place) (decimal_digit v.number small);
  inside = read_pieces v.says (elements r.inside) (read_elements (has_child r.inside) r.inside (map piece_elem v.says) s.inside);
}

read_versions : (vs : List Version) (rs : List Elem) → AllByRecursion IsRightVersion vs → AllZip IsSame (map version_elem vs) rs → AllZip IsVersionAt vs rs
read_versions [] [] h s = tt
read_versions [] (r ∷ rs) h s = absurd s
read_versions (v ∷ vs) [] h s = absurd s
read_versions (v ∷ vs) (r ∷ rs) h s = (read_version v r h.0.small s.0, read_versions vs rs h.1 s.1)

-- What is read.

abbrev sites_of : List Elem → List Site
sites_of rs = flat_map version_sites rs

sites_are : (u : List ℕ) (vs : List Version) (rs : List Elem) → AllZip IsVersionAt vs rs → flat_map (site_at (InFeed u) (codes "interface")) rs ≡ sites_of rs
sites_are u [] [] h = refl
sites_are u [] (r ∷ rs) h = absurd h
sites_are u (v ∷ vs) [] h = absurd h
sites_are u (v ∷ vs) (r ∷ rs) h =
    ap (λ w. w ++ flat_map (site_at (InFeed u) (codes "interface")) rs)
    (ap (site_at (InFeed u) (codes "interface")) h.0.so ∙ (version_site u (digit_of v) r.inside r.place v.says h.0.inside ∙ ap version_sites (sym h.0.so)))
    ∙ ap (λ w. version_sites r ++ w) (sites_are u vs rs h.1)

-- a test of the element of a site
abbrev tests : (Elem → Bool) → Site → Bool
tests test t = test t.element

pieces_fail : (test : Elem → Bool) → Tells test false → (e : Elem) (xs : List Piece) (rs : List Elem) → AllZip IsPieceAt xs rs → filter (tests test) (map (under e) (map here rs)) ≡ []
pieces_fail test t e [] [] h = refl
pieces_fail test t e [] (r ∷ rs) h = absurd h
pieces_fail test t e (x ∷ xs) [] h = absurd h
pieces_fail test t e (x ∷ xs) (r ∷ rs) h =
    ap (λ b. cond b (under e (here r) ∷ filter (tests test) (map (under e) (map here rs))) (filter (tests test) (map (under e) (map here rs)))) (ap test h.0 ∙ t x r.place)
    ∙ pieces_fail test t e xs rs h.1

-- what passes behind one
rest_passes : (test : Elem → Bool) → Tells test false → (v : Version) (r : Elem) (rs : List Elem) → IsVersionAt v r
    → filter (tests test) (map (under r) (map here (elements r.inside)) ++ sites_of rs) ≡ filter (tests test) (sites_of rs)
rest_passes test t v r rs h =
    filter-append (tests test) (map (under r) (map here (elements r.inside))) (sites_of rs)
    ∙ ap (λ w. w ++ filter (tests test) (sites_of rs)) (pieces_fail test t r v.says (elements r.inside) h.inside)

all_fail : (test : Elem → Bool) → Tells test false → ((c : ℕ) (f : Forest) (p : ℕ) → test (version_at c f p) ≡ false)
    → (vs : List Version) (rs : List Elem) → AllZip IsVersionAt vs rs → filter (tests test) (sites_of rs) ≡ []
all_fail test t s [] [] h = refl
all_fail test t s [] (r ∷ rs) h = absurd h
all_fail test t s (v ∷ vs) [] h = absurd h
all_fail test t s (v ∷ vs) (r ∷ rs) h =
    let behind : List Site = filter (tests test) (map (under r) (map here (elements r.inside)) ++ sites_of rs) in
    ap (λ b. cond b (here r ∷ behind) behind) (ap test h.0.so ∙ s (digit_of v) r.inside r.place) ∙ (rest_passes test t v r rs h.0 ∙ all_fail test t s vs rs h.1)

versions_pass : (test : Elem → Bool) → Tells test false → ((c : ℕ) (f : Forest) (p : ℕ) → test (version_at c f p) ≡ true)
    → (vs : List Version) (rs : List Elem) → AllZip IsVersionAt vs rs → filter (tests test) (sites_of rs) ≡ map here rs
versions_pass test t s [] [] h = refl
versions_pass test t s [] (r ∷ rs) h = absurd h
versions_pass test t s (v ∷ vs) [] h = absurd h
versions_pass test t s (v ∷ vs) (r ∷ rs) h =
    let behind : List Site = filter (tests test) (map (under r) (map here (elements r.inside)) ++ sites_of rs) in
    ap (λ b. cond b (here r ∷ behind) behind) (ap test h.0.so ∙ s (digit_of v) r.inside r.place)
    ∙ ap (λ w. here r ∷ w) (rest_passes test t v r rs h.0 ∙ versions_pass test t s vs rs h.1)

-- the same of their elements
filter_elements : (test : Elem → Bool) (ts : List Site) → filter test (map (λ (t : Site). t.element) ts) ≡ map (λ (t : Site). t.element) (filter (tests test) ts)
filter_elements test [] = refl
filter_elements test (t ∷ ts) = either (test t.element) (filter_elements test ts)
  where
    either : (b : Bool) → filter test (map (λ (t : Site). t.element) ts) ≡ map (λ (t : Site). t.element) (filter (tests test) ts)
        → cond b (t.element ∷ filter test (map (λ (t : Site). t.element) ts)) (filter test (map (λ (t : Site). t.element) ts)) ≡ map (λ (t : Site). t.element) (cond b (t ∷ filter (tests test) ts) (filter (tests test) ts))
    either true h = ap (λ w. t.element ∷ w) h
    either false h = h

elements_here : (rs : List Elem) → map (λ (t : Site). t.element) (map here rs) ≡ rs
elements_here [] = refl
elements_here (r ∷ rs) = ap (λ w. r ∷ w) (elements_here rs)

versions_alone : (vs : List Version) (rs : List Elem) → AllZip IsVersionAt vs rs → filter counts (map (λ (t : Site). t.element) (sites_of rs)) ≡ rs
versions_alone vs rs h =
    filter_elements counts (sites_of rs) ∙ (ap (map (λ (t : Site). t.element)) (versions_pass counts is_no_version version_counts vs rs h) ∙ elements_here rs)

-- Nothing is wrong.

flat_append : {X Y : Type 0} (f : X → List Y) (xs ys : List X) → flat_map f xs ≡ [] → flat_map f (xs ++ ys) ≡ flat_map f ys
flat_append f xs ys h = joined f xs ys ∙ ap (λ v. v ++ flat_map f ys) h
  where
    joined : {X Y : Type 0} (f : X → List Y) (xs ys : List X) → flat_map f (xs ++ ys) ≡ flat_map f xs ++ flat_map f ys
    joined f [] ys = refl
    joined f (x ∷ xs) ys = ap (λ v. f x ++ v) (joined f xs ys) ∙ sym (append_assoc (f x) (flat_map f xs) (flat_map f ys))

pieces_right : (u : List ℕ) (e : Elem) (xs : List Piece) (rs : List Elem) → AllByRecursion IsRightPiece xs → AllZip IsPieceAt xs rs → flat_map (faults_at (InFeed (address u))) (map (under e) (map here rs)) ≡ []
pieces_right u e [] [] k h = refl
pieces_right u e [] (r ∷ rs) k h = absurd h
pieces_right u e (x ∷ xs) [] k h = absurd h
pieces_right u e (x ∷ xs) (r ∷ rs) k h =
    ap (λ v. v ++ flat_map (faults_at (InFeed (address u))) (map (under e) (map here rs)))
    (ap (faults_with (InFeed (address u)) (said (e ∷ r ∷ []))) h.0 ∙ no_faults u (said (e ∷ r ∷ [])) x r.place k.0)
    ∙ pieces_right u e xs rs k.1 h.1

versions_right : (u : List ℕ) → is_some (folder u) ≡ true → (vs : List Version) (rs : List Elem) → AllByRecursion IsRightVersion vs → AllZip IsVersionAt vs rs → flat_map (faults_at (InFeed (address u))) (sites_of rs) ≡ []
versions_right u there [] [] k h = refl
versions_right u there [] (r ∷ rs) k h = absurd h
versions_right u there (v ∷ vs) [] k h = absurd h
versions_right u there (v ∷ vs) (r ∷ rs) k h =
    ap (λ w. w ++ flat_map (faults_at (InFeed (address u))) (map (under r) (map here (elements r.inside)) ++ sites_of rs))
    (ap (λ e. faults_with (InFeed (address u)) (said (e ∷ [])) e) h.0.so ∙ version_right u (digit_of v) r.inside r.place v.says k.0.digit there h.0.inside)
    ∙ (flat_append (faults_at (InFeed (address u))) (map (under r) (map here (elements r.inside))) (sites_of rs) (pieces_right u r v.says (elements r.inside) k.0.says h.0.inside)
    ∙ versions_right u there vs rs k.1 h.1)

-- no two of its versions have one id
abbrev pub HaveOwnIds : List Version → Type 0
HaveOwnIds vs = (rs : List Elem) → AllZip IsVersionAt vs rs → repeated (share (codes "id")) rs ≡ []

ids_right : (vs : List Version) (rs : List Elem) → HaveOwnIds vs → AllZip IsVersionAt vs rs → same_ids (map (λ (t : Site). t.element) (sites_of rs)) ≡ []
unfolding same_ids
ids_right vs rs own h =
    ap (λ es. map (λ (e : Elem). fault_at e SameId) (repeated (share (codes "id")) es)) (versions_alone vs rs h) ∙ ap (map (λ (e : Elem). fault_at e SameId)) (own rs h)

-- The feed.

-- a row whose feed can be written and read
pub record IsRightRow (row : Row) : Type 0 where
  pub versions : AllByRecursion IsRightVersion row.versions
  pub ids : HaveOwnIds row.versions
  pub lies : is_some (folder row.name) ≡ true
  pub written : first_amiss (interface (nodes (map version_elem row.versions))) ≡ None

-- the implementation of a version, wherever it stands
abbrev pub IsImplOf : List ℕ → Version → Impl → Type 0
IsImplOf u v i = (p : ℕ) × (i ≡ impl_by (digit_of v ∷ []) (map dep_by v.says) (folder u) p)

impls_there : (u : List ℕ) (vs : List Version) (rs : List Elem) → AllByRecursion IsRightVersion vs → AllZip IsVersionAt vs rs → AllZip (IsImplOf u) vs (filter_map (impl_of (InFeed (address u))) (map here rs))
impls_there u [] [] k h = tt
impls_there u [] (r ∷ rs) k h = absurd h
impls_there u (v ∷ vs) [] k h = absurd h
impls_there u (v ∷ vs) (r ∷ rs) k h =
    subst (λ o. AllZip (IsImplOf u) (v ∷ vs) (cons_option o (filter_map (impl_of (InFeed (address u))) (map here rs))))
    (sym (ap (λ e. impl_of (InFeed (address u)) (here e)) h.0.so ∙ impl_there u (digit_of v) r.inside r.place v.says k.0.digit h.0.inside))
    ((r.place, refl), impls_there u vs rs k.1 h.1)

pub record IsFeedOf (row : Row) (f : Feed) : Type 0 where
  pub uri : f.uri ≡ address row.name
  pub imports : f.imports ≡ []
  pub natives : f.natives ≡ []
  pub impls : AllZip (IsImplOf row.name) row.versions f.impls

abbrev root_at : Forest → ℕ → Elem
root_at f p = here_is (codes "interface") [] f p

feed_sites_are : (row : Row) (f : Forest) (p : ℕ) → AllZip IsVersionAt row.versions (elements f) → feed_sites (address row.name) (root_at f p) ≡ sites_of (elements f)
feed_sites_are row f p h = sites_each (InFeed (address row.name)) (codes "interface") f ∙ sites_are (address row.name) row.versions (elements f) h

root_right : (u : List ℕ) (f : Forest) (p : ℕ) → root_faults (address u) (root_at f p) ≡ []
unfolding root_faults is_unclear
root_right u f p = refl

root_is : (f : Forest) (p : ℕ) → is (codes "interface") (root_at f p) ≡ true
unfolding same injector
root_is f p = refl

abbrev faults_by : List ℕ → Elem → List Site → List Fault
faults_by uri root ts = root_faults uri root ++ (flat_map (faults_at (InFeed uri)) ts ++ same_ids (map (λ (t : Site). t.element) ts))

no_fault_there : (row : Row) (f : Forest) (p : ℕ) → IsRightRow row → AllZip IsVersionAt row.versions (elements f) → feed_fault (root_at f p) (address row.name) ≡ None
unfolding feed_fault
no_fault_there row f p k h =
    let rs = elements f in
    ap (λ b. if b then least (all_faults (address row.name) (root_at f p)) else Some (fault_at (root_at f p) NotInterface)) (root_is f p)
    ∙ ap least
    (ap (faults_by (address row.name) (root_at f p)) (feed_sites_are row f p h)
    ∙ (ap (λ v. v ++ (flat_map (faults_at (InFeed (address row.name))) (sites_of rs) ++ same_ids (map (λ (t : Site). t.element) (sites_of rs)))) (root_right row.name f p)
    ∙ (ap (λ v. v ++ same_ids (map (λ (t : Site). t.element) (sites_of rs))) (versions_right row.name k.lies row.versions rs k.versions h)
    ∙ ids_right row.versions rs k.ids h)))

feed_there : (row : Row) (f : Forest) (p : ℕ) → IsRightRow row → AllZip IsVersionAt row.versions (elements f) → IsFeedOf row (feed_of (root_at f p) (address row.name))
unfolding feed_of
feed_there row f p k h =
    let u = address row.name in
    let rs = elements f in
    let ts = feed_sites_are row f p h in
    record {
      uri = refl;
      imports = ap (λ (v : List Site). map (λ (t : Site). import_of (InFeed u) t.element) (filter (tests (is (codes "feed"))) v)) ts
          ∙ ap (map (λ (t : Site). import_of (InFeed u) t.element)) (all_fail (is (codes "feed")) is_no_feed version_is_no_feed row.versions rs h);
      natives = ap (λ (v : List Site). map (native_of (InFeed u)) (packages v)) ts ∙ ap (map (native_of (InFeed u))) (all_fail counts_native is_no_package version_is_no_package row.versions rs h);
      impls = subst (λ (v : List Site). AllZip (IsImplOf row.name) row.versions (filter_map (impl_of (InFeed u)) v)) (sym (ap implementations ts ∙ versions_pass counts is_no_version version_counts row.versions rs h))
          (impls_there row.name row.versions rs k.versions h);
    }

record IsRead (row : Row) (t : Elem) : Type 0 where
  right : feed_fault t (address row.name) ≡ None
  feed : IsFeedOf row (feed_of t (address row.name))

read_root : (row : Row) (t : Elem) → IsRightRow row → IsSame (interface (nodes (map version_elem row.versions))) t → IsRead row t
unfolding interface
read_root row t k s =
    let h = read_versions row.versions (elements t.inside) k.versions (read_elements (has_child t.inside) t.inside (map version_elem row.versions) s.inside) in
    subst (IsRead row) (sym (made_is (codes "interface") [] (nodes (map version_elem row.versions)) t s))
    (record { right = no_fault_there row t.inside t.place k h; feed = feed_there row t.inside t.place k h })

-- what is written is read
abbrev pub ReadsBack : Type 0
ReadsBack = (e : Element) → first_amiss (element_view e) ≡ None → IsReadBack e

-- the text of a row says a feed of it
pub record SaysRow (row : Row) : Type 0 where
  pub feed : Feed
  pub tree : Element
  pub spells : Spells (text_of (feed_row row)) tree
  pub right : feed_fault (element_view tree) (address row.name) ≡ None
  pub so : feed ≡ feed_of (element_view tree) (address row.name)
  pub shape : IsFeedOf row feed

text_is : (row : Row) → text_of (feed_row row) ≡ document (interface (nodes (map version_elem row.versions)))
unfolding text_of
text_is row = refl

pub says_row : ReadsBack → (row : Row) → IsRightRow row → SaysRow row
says_row back row k =
    let e : Elem = interface (nodes (map version_elem row.versions)) in
    let b = back (tree_of e) (ap first_amiss (view_back e) ∙ k.written) in
    let t : Element = b.some.0 in
    let spells : Spells (document (element_view (tree_of e))) t = b.some.1 in
    let r = read_root row (element_view t) k (subst (λ w. IsSame w (element_view t)) (view_back e) (b.same t spells)) in
    record {
      feed = feed_of (element_view t) (address row.name);
      tree = t;
      spells = subst (λ w. Spells w t) (ap document (view_back e) ∙ sym (text_is row)) spells;
      right = r.right;
      so = refl;
      shape = r.feed;
    }
