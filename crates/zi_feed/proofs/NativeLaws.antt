-- What is said of packages, as it is found inward, is what the sites say.
use Rattle.std.proofs.Common.{◌≡◌, ℕ, Bool, true, false, ◌&&◌, ◌||◌, ◌<◌, ◌≤◌, ◌+◌, List, [], ◌∷◌, ◌++◌, map, drop, length, get_or, Option, Some, None, codes, refl, sym, ap, ◌∙◌}
use Rattle.std.specs.Prelude.{if◌then◌else◌, not}
use Rattle.std.specs.List.{flat_map, fold}
use Rattle.std.proofs.Math.Bool.{or-true}
use Rattle.std.proofs.lemmas.List.Folds.{flat_map-map}
use Rattle.zi_elements.specs.declared.element.Node.{Node}
use Rattle.zi_elements.specs.Forest.{Forest, Elem, node_view, nodes_view}
use Rattle.zi_policy.specs.declared.types.Policy.{Policy}
use Rattle.zi_policy.specs.Platform.{is_active}
use Rattle.zi_reading.specs.Words.{latest}
use Rattle.zi_reading.specs.Ways.{Ways, InFeed}
use Rattle.zi_reading.specs.Reading.{stands, is_closed, is}
use Rattle.zi_parts.specs.Values.{deps_of, commands_of, bindings_of}
use Rattle.zi_parts.specs.declared.types.Dep.{Dep}
use Rattle.zi_parts.specs.declared.types.Command.{Command}
use Rattle.zi_parts.specs.declared.types.Binding.{Binding}
use Rattle.zi_parts.specs.declared.types.Native.{Native}
use Rattle.zi_faults.specs.Sites.{Site, sites, path}
use Rattle.zi_faults.specs.Said.{Said, said, taken, unsaid}
use Rattle.zi_faults.specs.Faults.{is_impl}
use Rattle.zi_feed.specs.declared.along.Own.{Own}
use Rattle.zi_feed.specs.declared.along.Added.{Added}
use Rattle.zi_feed.specs.Impls.{are_alike, with_main}
use Rattle.zi_feed.specs.Natives.{is_package, counts_native, packages, native_with, native_of}
use Rattle.zi_feed.specs.Active.{active_deps, active_command, active_native, kept_feed}
use Rattle.zi_feed.specs.Feeds.{feed_of}
use Rattle.zi_feed.specs.Inward.{State, entered, natives_at, native_at, own_of, added_nothing, added_with, carried_natives, carried_natives_in}
use Rattle.zi_faults.proofs.CarryLaws.{carried, given, said_path, carry_next, carry_end}
use Rattle.zi_feed.proofs.KeptLaws.{filter_each, map_each}
use Rattle.zi_feed.proofs.AddedLaws.{kept_at, deps_along, commands_along, bindings_along, latest_active, main_active}
use Rattle.zi_feed.proofs.GatherLaws.{outer_package, gives_none, gives_seen, gives_group, gives_one, nothing_added, both_are}
use Rattle.zi_feed.proofs.ImplLaws.{fold_entered, adds_path, flat_map_same}

-- what an element gives, of what is said and added with it
abbrev pub native_made : State → Elem → List Native
native_made s e = native_at s.0 s.1 e ∷ []

-- What one element gives.
pub no_natives_at : (ways : Ways) (policy : Option Policy) (s : State) (parent : List ℕ) (e : Elem) (found : List Native) → stands ways parent e ≡ false
    → found ≡ found ++ carried_natives_in ways policy s parent e
unfolding carried_natives
no_natives_at ways policy s parent e found h =
    nothing_added (carried_natives_in ways policy s parent e) found (gives_none (codes "package-implementation") outer_package (entered ways policy) native_made ways s parent e h)

pub no_natives_in : (ways : Ways) (policy : Option Policy) (s : State) (parent : List ℕ) (e : Elem) (found : List Native)
    → ((is (codes "group") e || (is_impl e || is_package e)) && not (is_closed e)) ≡ false → found ≡ found ++ carried_natives_in ways policy s parent e
unfolding carried_natives
no_natives_in ways policy s parent e found h =
    nothing_added (carried_natives_in ways policy s parent e) found
    (gives_seen (codes "package-implementation") outer_package (entered ways policy) native_made ways s parent e (λ n. ap (λ v. is_impl e || v) n ∙ or-true (is_impl e)) h)

pub natives_in_group : (ways : Ways) (policy : Option Policy) (s : State) (parent : List ℕ) (e : Elem) (found new : List Native) (inner : Said) (added : Added)
    → stands ways parent e ≡ true → is_closed e ≡ false → is (codes "group") e ≡ true
    → inner ≡ taken s.0 e → added ≡ added_with s.1 (kept_at ways policy e)
    → new ≡ found ++ carried_natives ways policy (inner, added) e.name e.inside → new ≡ found ++ carried_natives_in ways policy s parent e
unfolding carried_natives
natives_in_group ways policy s parent e found new inner added p q g i a h =
    gives_group (codes "package-implementation") outer_package (entered ways policy) native_made ways s (inner, added) parent e found new p q g
    (both_are i a) h

pub natives_at_one : (ways : Ways) (policy : Option Policy) (s : State) (parent : List ℕ) (e : Elem) (found new : List Native) (inner : Said) (added : Added)
    → stands ways parent e ≡ true → is_closed e ≡ false → (is_impl e || is_package e) ≡ true
    → inner ≡ taken s.0 e → added ≡ added_with s.1 (kept_at ways policy e)
    → new ≡ found ++ (if counts_native e then native_at inner added e ∷ [] else []) → new ≡ found ++ carried_natives_in ways policy s parent e
unfolding carried_natives
natives_at_one ways policy s parent e found new inner added p q one i a h =
    gives_one (codes "package-implementation") outer_package (entered ways policy) native_made ways s (inner, added) parent e found new p q one
    (both_are i a) h

-- The loop over what an element holds.
pub natives_next : (ways : Ways) (policy : Option Policy) (s : State) (p q : List ℕ) (ns : List Node) (i : ℕ) (x : Node) (found new total : List Native)
    → i < length ns → x ≡ get_or ns i x → q ≡ p → new ≡ found ++ carried_natives ways policy s q (node_view x)
    → found ++ carried_natives ways policy s p (nodes_view (drop i ns)) ≡ total → new ++ carried_natives ways policy s p (nodes_view (drop (i + 1) ns)) ≡ total
unfolding carried_natives
natives_next ways policy s p q ns i x found new total h is one made kept = carry_next (entered ways policy) (natives_at ways policy) ways s p q ns i x found new total h is one made kept

pub natives_end : (ways : Ways) (policy : Option Policy) (s : State) (p : List ℕ) (ns : List Node) (i : ℕ) (found total : List Native)
    → length ns ≤ i → found ++ carried_natives ways policy s p (nodes_view (drop i ns)) ≡ total → found ≡ total
unfolding carried_natives
natives_end ways policy s p ns i found total h kept = carry_end (entered ways policy) (natives_at ways policy) ways s p ns i found total h kept

-- What is said of a package is what three lists say, of the commands the latest.
from_three : (s : Said) (e : Elem) (ds ds' : List Dep) (cs cs' : List Command) (bs bs' : List Binding)
    → ds ≡ ds' → latest are_alike cs ≡ latest are_alike cs' → bs ≡ bs' → native_with s ds cs bs e ≡ native_with s ds' cs' bs' e
from_three s e ds ds' cs cs' bs bs' d c b =
    ap (λ v. record (native_with s ds cs bs e) { deps = v }) d
    ∙ (ap (λ v. record (native_with s ds' cs bs e) { commands = with_main s.main v }) c
    ∙ ap (λ v. record (native_with s ds' cs' bs e) { bindings = v }) b)

with_active : (p : Policy) (s : Said) (e : Elem) (ds : List Dep) (cs : List Command) (bs : List Binding)
    → native_with s (active_deps p ds) (map (active_command p) cs) bs e ≡ active_native p (native_with s ds cs bs e)
unfolding active_native
with_active p s e ds cs bs =
    ap (λ v. record (native_with s (active_deps p ds) (map (active_command p) cs) bs e) { commands = v })
    (ap (with_main s.main) (latest_active p cs) ∙ main_active p s.main (latest are_alike cs))

-- what is kept of it
abbrev pub kept_native : Option Policy → Native → Native
kept_native None n = n
kept_native (Some p) n = active_native p n

-- What is said of a package at a path is what is kept of what the path says.
native_path : (ways : Ways) (p : Option Policy) (s : Said) (es : List Elem) (e : Elem)
    → native_at s (fold added_with added_nothing (map (kept_at ways p) es)) e
    ≡ kept_native p (native_with s (flat_map (deps_of ways) es) (flat_map (commands_of ways) es) (flat_map (bindings_of ways) es) e)
unfolding native_at
native_path ways None s es e =
    let os : List Own = map (own_of ways) es in
    from_three s e _ _ _ _ _ _
    (deps_along added_nothing os ∙ flat_map-map (λ (o : Own). o.deps) (own_of ways) es)
    (commands_along added_nothing os ∙ ap (latest are_alike) (flat_map-map (λ (o : Own). o.commands) (own_of ways) es))
    (bindings_along added_nothing os ∙ flat_map-map (λ (o : Own). o.bindings) (own_of ways) es)
native_path ways (Some p) s es e =
    let keep : Elem → Own = kept_at ways (Some p) in
    let os : List Own = map keep es in
    from_three s e _ _ _ _ _ _
    (deps_along added_nothing os ∙ (flat_map-map (λ (o : Own). o.deps) keep es ∙ filter_each (λ d. is_active p d.condition) (deps_of ways) es))
    (commands_along added_nothing os ∙ ap (latest are_alike) (flat_map-map (λ (o : Own). o.commands) keep es ∙ map_each (active_command p) (commands_of ways) es))
    (bindings_along added_nothing os ∙ flat_map-map (λ (o : Own). o.bindings) keep es)
    ∙ with_active p s e (flat_map (deps_of ways) es) (flat_map (commands_of ways) es) (flat_map (bindings_of ways) es)

at_site : (ways : Ways) (policy : Option Policy) (t : Site)
    → given (entered ways policy) (natives_at ways policy) (unsaid, added_nothing) t ≡ (if counts_native t.element then kept_native policy (native_of ways t) ∷ [] else [])
unfolding native_of
at_site ways policy t =
    ap (λ v. natives_at ways policy v t.element) (fold_entered ways policy (unsaid, added_nothing) t.around)
    ∙ ap (λ v. if counts_native t.element then v ∷ [] else [])
    (ap (λ v. native_at (taken (fold taken unsaid t.around) t.element) v t.element) (adds_path ways policy added_nothing t.around t.element)
    ∙ (ap (λ v. native_at v (fold added_with added_nothing (map (kept_at ways policy) (path t))) t.element) (sym (said_path t))
    ∙ native_path ways policy (said (path t)) (path t) t.element))

kept_map : {X : Type 0} (b : Bool) (h : Site → X) (t : Site) (ts : List Site) (rest : List X) → rest ≡ map h (packages ts)
    → (if b then h t ∷ [] else []) ++ rest ≡ map h (if b then t ∷ packages ts else packages ts)
kept_map false h t ts rest q = q
kept_map true h t ts rest q = ap (λ v. h t ∷ v) q

sites_natives : {X : Type 0} (h : Site → X) (ts : List Site) → flat_map (λ t. if counts_native t.element then h t ∷ [] else []) ts ≡ map h (packages ts)
sites_natives h [] = refl
sites_natives h (t ∷ ts) = kept_map (counts_native t.element) h t ts _ (sites_natives h ts)

-- what is found inward is what the sites say, as far as it is kept
natives_sites : (ways : Ways) (policy : Option Policy) (parent : List ℕ) (f : Forest)
    → carried_natives ways policy (unsaid, added_nothing) parent f ≡ map (λ t. kept_native policy (native_of ways t)) (packages (sites ways parent f))
unfolding carried_natives
natives_sites ways policy parent f =
    carried (entered ways policy) (natives_at ways policy) ways (unsaid, added_nothing) parent f
    ∙ (flat_map_same (given (entered ways policy) (natives_at ways policy) (unsaid, added_nothing)) (λ t. if counts_native t.element then kept_native policy (native_of ways t) ∷ [] else [])
    (sites ways parent f) (at_site ways policy)
    ∙ sites_natives (λ t. kept_native policy (native_of ways t)) (sites ways parent f))

map_twice : {A B C : Type 0} (g : B → C) (h : A → B) (xs : List A) → map (λ x. g (h x)) xs ≡ map g (map h xs)
map_twice g h [] = refl
map_twice g h (x ∷ xs) = ap (λ v. g (h x) ∷ v) (map_twice g h xs)

kept_all : (root : Elem) (uri : List ℕ) (policy : Option Policy)
    → map (λ t. kept_native policy (native_of (InFeed uri) t)) (packages (sites (InFeed uri) root.name root.inside)) ≡ (kept_feed policy (feed_of root uri)).natives
unfolding feed_of
kept_all root uri None = refl
kept_all root uri (Some p) = map_twice (active_native p) (native_of (InFeed uri)) (packages (sites (InFeed uri) root.name root.inside))

pub natives_are : (root : Elem) (uri : List ℕ) (policy : Option Policy) (before found : List Native) (inner : Said) (added : Added)
    → before ≡ [] → inner ≡ unsaid → added ≡ added_nothing
    → found ≡ before ++ carried_natives (InFeed uri) policy (inner, added) root.name root.inside → found ≡ (kept_feed policy (feed_of root uri)).natives
natives_are root uri policy before found inner added b i a h =
    h ∙ (ap (λ v. v ++ carried_natives (InFeed uri) policy (inner, added) root.name root.inside) b
    ∙ (ap (λ v. carried_natives (InFeed uri) policy v root.name root.inside) (both_are i a)
    ∙ (natives_sites (InFeed uri) policy root.name root.inside ∙ kept_all root uri policy)))
