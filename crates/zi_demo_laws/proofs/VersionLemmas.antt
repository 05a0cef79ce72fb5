-- A version of the demonstration as it is read: what it means, and that nothing is wrong with it.
use Rattle.std.proofs.Common.{◌≡◌, ℕ, Bool, true, false, cond, List, [], ◌∷◌, ◌++◌, map, codes, Option, Some, None, refl, sym, ap, ◌∙◌}
use Rattle.std.proofs.lemmas.List.{append-nil}
use Rattle.std.specs.Prelude.{not, ◌||◌, is_some, option_map, if◌then◌else◌}
use Rattle.std.specs.List.{AllZip, filter_map, flat_map, cons_option}
use Rattle.std.specs.Option.{option_or}
use Rattle.zi_elements.specs.declared.element.Attr.{Attr}
use Rattle.zi_elements.specs.Forest.{Forest, none, words, child, Elem, elements}
use Rattle.zi_elements.specs.Namespace.{injector}
use Rattle.zi_docout.specs.Elements.{attr}
use Rattle.zi_version.specs.Range.{a_version}
use Rattle.zi_policy.specs.declared.types.Stability.TheVariants.{Testing}
use Rattle.zi_digest.specs.declared.DigestName.{DigestName}
use Rattle.zi_address.specs.Texts.{same}
use Rattle.zi_address.specs.Address.{placed}
use Rattle.zi_reading.specs.Ways.{Ways, InFeed}
use Rattle.zi_reading.specs.Words.{is_among, listed, latest, repeated}
use Rattle.zi_reading.specs.Forms.{is_version}
use Rattle.zi_reading.specs.Reading.{is, is_unclear, is_left_out, is_unbuilt, is_closed, is_part, stands, read_in, parts, those, binding_names, named}
use Rattle.zi_parts.specs.declared.types.Dep.{Dep}
use Rattle.zi_parts.specs.declared.types.Command.{Command}
use Rattle.zi_parts.specs.declared.types.Binding.{Binding}
use Rattle.zi_parts.specs.declared.types.Method.{Method}
use Rattle.zi_parts.specs.declared.types.Impl.{Impl}
use Rattle.zi_parts.specs.Values.{dep_of, deps_of, command_of, commands_of, binding_of, bindings_of}
use Rattle.zi_parts.specs.Methods.{method_of}
use Rattle.zi_parts.specs.Digests.{said_digest, id_digest, digests_of, algorithms}
use Rattle.zi_faults.specs.Said.{said}
use Rattle.zi_faults.specs.Sites.{Site, sites, here, under}
use Rattle.zi_faults.specs.Faults.{faults_with, fault_at, kinds_at, repeats_in, share, shims_in, counts}
use Rattle.zi_faults.specs.declared.fault.Fault.{Fault}
use Rattle.zi_faults.specs.declared.fault.FeedKind.TheVariants.{BadVersion, BadPart, BadAddress}
use Rattle.zi_feed.specs.Impls.{with_main, are_alike, impl_from, impl_of}
use Rattle.zi_feed.specs.Natives.{counts_native}
use Rattle.zi_demo.specs.Feeds.{address}
use Rattle.zi_demo_laws.proofs.RowLemmas.{Piece}
use Rattle.zi_demo_laws.proofs.PieceLemmas.{here_is, piece_at, IsPieceAt, dep_by, stands_there, is_part_there, is_open, is_dep, is_no_command, is_no_runner, is_no_binding, is_no_digest, no_method, no_sites, all_pass, none_passes, deps_there}

-- a version whose number is this digit
abbrev pub version_attrs : ℕ → List Attr
version_attrs c = attr (codes "id") (118 ∷ c ∷ []) ∷ attr (codes "version") (c ∷ []) ∷ attr (codes "local-path") (codes ".") ∷ []

abbrev pub version_at : ℕ → Forest → ℕ → Elem
version_at c f p = here_is (codes "implementation") (version_attrs c) f p

-- the digit is a version
pub record IsDigit (c : ℕ) : Type 0 where
  pub right : is_version (c ∷ []) ≡ true
  pub value : a_version (c ∷ []) ≡ Some (c ∷ [])

-- What is read in it.

parts_are : (u : List ℕ) (c : ℕ) (f : Forest) (p : ℕ) (xs : List Piece) → AllZip IsPieceAt xs (elements f) → parts (InFeed u) (version_at c f p) ≡ elements f
unfolding parts is_unclear is_unbuilt same injector
parts_are u c f p xs h = all_pass (is_part (InFeed u) (codes "implementation")) (is_part_there u) xs (elements f) h

none_named : (u : List ℕ) (c : ℕ) (f : Forest) (p : ℕ) (xs : List Piece) (names : List (List ℕ)) → ((x : Piece) (q : ℕ) → is_among names (piece_at x q).name ≡ false)
    → AllZip IsPieceAt xs (elements f) → named (InFeed u) names (version_at c f p) ≡ []
none_named u c f p xs names t h = ap (those names) (parts_are u c f p xs h) ∙ none_passes (λ e. is_among names e.name) t xs (elements f) h

deps_are : (u : List ℕ) (c : ℕ) (f : Forest) (p : ℕ) (xs : List Piece) → AllZip IsPieceAt xs (elements f) → deps_of (InFeed (address u)) (version_at c f p) ≡ map dep_by xs
deps_are u c f p xs h =
    ap (λ v. map (dep_of (InFeed (address u))) (those (listed (codes "requires restricts")) v)) (parts_are (address u) c f p xs h)
    ∙ (ap (map (dep_of (InFeed (address u)))) (all_pass (λ e. is_among (listed (codes "requires restricts")) e.name) is_dep xs (elements f) h) ∙ deps_there u xs (elements f) h)

commands_none : (u : List ℕ) (c : ℕ) (f : Forest) (p : ℕ) (xs : List Piece) → AllZip IsPieceAt xs (elements f) → commands_of (InFeed u) (version_at c f p) ≡ []
commands_none u c f p xs h = ap (map (command_of (InFeed u))) (none_named u c f p xs (listed (codes "command")) is_no_command h)

bindings_none : (u : List ℕ) (c : ℕ) (f : Forest) (p : ℕ) (xs : List Piece) → AllZip IsPieceAt xs (elements f) → bindings_of (InFeed u) (version_at c f p) ≡ []
bindings_none u c f p xs h = ap (map binding_of) (none_named u c f p xs binding_names is_no_binding h)

abbrev digests_by : List Elem → Elem → List DigestName
digests_by ms e = filter_map (λ a. option_or (said_digest ms a) (id_digest e a)) algorithms

digests_none : (u : List ℕ) (c : ℕ) (f : Forest) (p : ℕ) (xs : List Piece) → AllZip IsPieceAt xs (elements f) → digests_of (InFeed u) (version_at c f p) ≡ []
unfolding digests_of
digests_none u c f p xs h = ap (λ ms. digests_by ms (version_at c f p)) (none_named u c f p xs (listed (codes "manifest-digest")) is_no_digest h)

no_methods : (u : List ℕ) (xs : List Piece) (rs : List Elem) → AllZip IsPieceAt xs rs → filter_map (method_of (InFeed u)) rs ≡ []
no_methods u [] [] h = refl
no_methods u [] (r ∷ rs) h = absurd h
no_methods u (x ∷ xs) [] h = absurd h
no_methods u (x ∷ xs) (r ∷ rs) h =
    ap (λ o. cons_option o (filter_map (method_of (InFeed u)) rs)) (ap (method_of (InFeed u)) h.0 ∙ no_method u x r.place) ∙ no_methods u xs rs h.1

methods_none : (u : List ℕ) (c : ℕ) (f : Forest) (p : ℕ) (xs : List Piece) → AllZip IsPieceAt xs (elements f) → filter_map (method_of (InFeed u)) (parts (InFeed u) (version_at c f p)) ≡ []
methods_none u c f p xs h = ap (filter_map (method_of (InFeed u))) (parts_are u c f p xs h) ∙ no_methods u xs (elements f) h

-- What it means.

-- where what it holds lies: the folder of the feed
abbrev pub folder : List ℕ → Option (List ℕ)
folder u = placed (address u) (codes ".")

abbrev pub impl_by : List ℕ → List Dep → Option (List ℕ) → ℕ → Impl
impl_by t deps local place = record {
  id = 118 ∷ t;
  version = t;
  arch = None;
  stability = Testing;
  langs = [];
  released = None;
  local = local;
  digests = [];
  methods = [];
  deps = deps;
  commands = [];
  bindings = [];
  place = place;
  «package» = None;
}

abbrev impl_made : List ℕ → ℕ → ℕ → List Dep → List Command → List Binding → List DigestName → List Method → Option (List ℕ) → Option Impl
impl_made u c p deps commands bindings digests methods version =
    option_map (λ v. record (impl_by (c ∷ []) (deps ++ []) (folder u) p) { version = v; commands = with_main None (latest are_alike (commands ++ [])); bindings = bindings ++ []; digests = digests; methods = methods }) version

impl_means : (u : List ℕ) (c : ℕ) (f : Forest) (p : ℕ)
    → impl_of (InFeed (address u)) (here (version_at c f p)) ≡ impl_made u c p (deps_of (InFeed (address u)) (version_at c f p)) (commands_of (InFeed (address u)) (version_at c f p))
    (bindings_of (InFeed (address u)) (version_at c f p)) (digests_of (InFeed (address u)) (version_at c f p))
    (filter_map (method_of (InFeed (address u))) (parts (InFeed (address u)) (version_at c f p))) (a_version (c ∷ []))
unfolding impl_of impl_from
impl_means u c f p = refl

app : {A B : Type 0} {f g : A → B} {a b : A} → f ≡ g → a ≡ b → f a ≡ g b
app {g = g} {a = a} p q = ap (λ h. h a) p ∙ ap g q

pub impl_there : (u : List ℕ) (c : ℕ) (f : Forest) (p : ℕ) (xs : List Piece) → IsDigit c → AllZip IsPieceAt xs (elements f)
    → impl_of (InFeed (address u)) (here (version_at c f p)) ≡ Some (impl_by (c ∷ []) (map dep_by xs) (folder u) p)
impl_there u c f p xs d h =
    impl_means u c f p
    ∙ (app (app (app (app (app (ap (impl_made u c p) (deps_are u c f p xs h)) (commands_none (address u) c f p xs h)) (bindings_none (address u) c f p xs h)) (digests_none (address u) c f p xs h))
    (methods_none (address u) c f p xs h)) d.value
    ∙ ap (λ (ds : List Dep). Some (impl_by (c ∷ []) ds (folder u) p)) (append-nil (map dep_by xs)))

-- Nothing is wrong with it.

abbrev wrong_by : Elem → Bool → Bool → List Elem → List Fault
wrong_by e right there seconds =
    map (fault_at e) (cond (not right || false) (BadVersion ∷ cond (not there) (BadAddress ∷ []) []) (cond (not there) (BadAddress ∷ []) [])) ++ map (λ r. fault_at r BadPart) (seconds ++ [])

tested : (u : List ℕ) (c : ℕ) (f : Forest) (p : ℕ)
    → faults_with (InFeed (address u)) (said (version_at c f p ∷ [])) (version_at c f p) ≡ wrong_by (version_at c f p) (is_version (c ∷ [])) (is_some (folder u)) (repeats_in (InFeed (address u)) (version_at c f p))
unfolding faults_with kinds_at shims_in is_unclear is_among same injector
tested u c f p = refl

abbrev repeats_by : List Elem → List Elem → List Elem
repeats_by runners commands = repeated (λ a b. true) runners ++ repeated (share (codes "name")) commands

no_repeats : (u : List ℕ) (c : ℕ) (f : Forest) (p : ℕ) (xs : List Piece) → AllZip IsPieceAt xs (elements f) → repeats_in (InFeed u) (version_at c f p) ≡ []
unfolding repeats_in
no_repeats u c f p xs h = app (ap repeats_by (none_named u c f p xs (listed (codes "runner")) is_no_runner h)) (none_named u c f p xs (listed (codes "command")) is_no_command h)

pub version_right : (u : List ℕ) (c : ℕ) (f : Forest) (p : ℕ) (xs : List Piece) → IsDigit c → is_some (folder u) ≡ true → AllZip IsPieceAt xs (elements f)
    → faults_with (InFeed (address u)) (said (version_at c f p ∷ [])) (version_at c f p) ≡ []
version_right u c f p xs d there h =
    tested u c f p ∙ app (app (ap (wrong_by (version_at c f p)) d.right) there) (no_repeats (address u) c f p xs h)

-- Where elements stand that are read.

abbrev pub site_by : Elem → List Site → Bool → Bool → List Site
site_by e inner read closed = if not read then [] else if closed then here e ∷ [] else here e ∷ map (under e) inner

abbrev pub site_at : Ways → List ℕ → Elem → List Site
site_at ways parent e = site_by e (sites ways e.name e.inside) (stands ways parent e) (is_closed e)

pub sites_each : (ways : Ways) (parent : List ℕ) (f : Forest) → sites ways parent f ≡ flat_map (site_at ways parent) (elements f)
sites_each ways parent none = refl
sites_each ways parent (words t k) = sites_each ways parent k
sites_each ways parent (child s n a f p k) =
    let e : Elem = record { space = s; name = n; attrs = a; inside = f; place = p } in
    either e (sites ways n f) (sites ways parent k) (flat_map (site_at ways parent) (elements k)) (stands ways parent e) (is_closed e) (sites_each ways parent k)
  where
    either : (e : Elem) (inner rest others : List Site) (a b : Bool) → rest ≡ others
        → (if not a then rest else if b then here e ∷ rest else here e ∷ (map (under e) inner ++ rest)) ≡ site_by e inner a b ++ others
    either e inner rest others true true h = ap (λ v. here e ∷ v) h
    either e inner rest others true false h = ap (λ v. here e ∷ (map (under e) inner ++ v)) h
    either e inner rest others false b h = h

piece_site : (u : List ℕ) (x : Piece) (p : ℕ) → site_at (InFeed u) (codes "implementation") (piece_at x p) ≡ here (piece_at x p) ∷ []
piece_site u x p =
    let e : Elem = piece_at x p in
    let inner : List Site = sites (InFeed u) e.name e.inside in
    ap (λ b. site_by e inner b (is_closed e)) (stands_there u x p) ∙ (ap (λ b. site_by e inner true b) (is_open x p) ∙ ap (λ v. site_by e v true false) (no_sites u x p))

piece_sites : (u : List ℕ) (xs : List Piece) (rs : List Elem) → AllZip IsPieceAt xs rs → flat_map (site_at (InFeed u) (codes "implementation")) rs ≡ map here rs
piece_sites u [] [] h = refl
piece_sites u [] (r ∷ rs) h = absurd h
piece_sites u (x ∷ xs) [] h = absurd h
piece_sites u (x ∷ xs) (r ∷ rs) h =
    ap (λ v. v ++ flat_map (site_at (InFeed u) (codes "implementation")) rs)
    (ap (site_at (InFeed u) (codes "implementation")) h.0 ∙ (piece_site u x r.place ∙ ap (λ e. here e ∷ []) (sym h.0)))
    ∙ ap (λ v. here r ∷ v) (piece_sites u xs rs h.1)

version_stands : (u : List ℕ) (c : ℕ) (f : Forest) (p : ℕ)
    → site_at (InFeed u) (codes "interface") (version_at c f p) ≡ here (version_at c f p) ∷ map (under (version_at c f p)) (sites (InFeed u) (codes "implementation") f)
unfolding stands is_left_out is_unclear is_unbuilt is_among same read_in injector
version_stands u c f p = refl

-- the element of a version, and those in it
abbrev pub version_sites : Elem → List Site
version_sites e = here e ∷ map (under e) (map here (elements e.inside))

pub version_site : (u : List ℕ) (c : ℕ) (f : Forest) (p : ℕ) (xs : List Piece) → AllZip IsPieceAt xs (elements f)
    → site_at (InFeed u) (codes "interface") (version_at c f p) ≡ version_sites (version_at c f p)
version_site u c f p xs h =
    version_stands u c f p
    ∙ ap (λ v. here (version_at c f p) ∷ map (under (version_at c f p)) v) (sites_each (InFeed u) (codes "implementation") f ∙ piece_sites u xs (elements f) h)

-- What tests tell of it.

pub version_is_no_feed : (c : ℕ) (f : Forest) (p : ℕ) → is (codes "feed") (version_at c f p) ≡ false
unfolding same injector
version_is_no_feed c f p = refl

pub version_counts : (c : ℕ) (f : Forest) (p : ℕ) → counts (version_at c f p) ≡ true
unfolding is_unclear same injector
version_counts c f p = refl

pub version_is_no_package : (c : ℕ) (f : Forest) (p : ℕ) → counts_native (version_at c f p) ≡ false
unfolding same injector
version_is_no_package c f p = refl
