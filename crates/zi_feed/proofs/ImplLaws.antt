-- The implementations that are found inward are those of the sites.
use Rattle.std.proofs.Common.{◌≡◌, ℕ, Bool, true, false, ◌&&◌, ◌||◌, ◌<◌, ◌≤◌, ◌+◌, List, [], ◌∷◌, ◌++◌, map, drop, length, get_or, Option, Some, None, codes, refl, sym, ap, ◌∙◌, append-nil}
use Rattle.std.specs.Prelude.{if◌then◌else◌, not}
use Rattle.std.specs.List.{flat_map, filter_map, cons_option, fold, list_any}
use Rattle.std.proofs.lemmas.Bool.{false≢true, false_from_ne_true, and_right, and_left, and_parts, or_parts}
use Rattle.std.proofs.lemmas.List.{map-append}
use Rattle.zi_elements.specs.declared.element.Node.{Node}
use Rattle.zi_elements.specs.Forest.{Forest, none, words, child, Elem, elements, node_view, nodes_view}
use Rattle.zi_parts.specs.declared.types.Impl.{Impl}
use Rattle.zi_policy.specs.declared.types.Policy.{Policy}
use Rattle.zi_feed.specs.declared.along.Own.{Own}
use Rattle.zi_feed.specs.declared.along.Added.{Added}
use Rattle.zi_address.specs.Texts.{same}
use Rattle.zi_reading.specs.Words.{is_among, optional}
use Rattle.zi_reading.specs.Ways.{Ways, InFeed}
use Rattle.zi_reading.specs.Reading.{stands, is_closed, is_unclear, is_unbuilt, is_other_step, is_ours, is, read_in}
use Rattle.zi_faults.specs.Sites.{Site, sites, path}
use Rattle.zi_faults.specs.Said.{Said, said, taken, unsaid}
use Rattle.zi_faults.specs.Carrying.{sites_at, sites_in}
use Rattle.zi_feed.specs.Impls.{impl_of}
use Rattle.zi_feed.specs.Natives.{is_package}
use Rattle.zi_feed.specs.Active.{active_part, kept_feed}
use Rattle.zi_faults.specs.Faults.{is_impl, counts, implementations}
use Rattle.zi_feed.specs.Feeds.{feed_of}
use Rattle.zi_feed.specs.Inward.{State, entered, impls_at, impl_at, added_nothing, added_with, carried_impls, carried_impls_in}
use Rattle.zi_reading.proofs.TextLaws.{same_text}
use Rattle.zi_faults.proofs.CarryLaws.{carried, given, said_path, carry_next, carry_end}
use Rattle.zi_feed.proofs.KeptLaws.{filter_map_each}
use Rattle.zi_feed.proofs.GatherLaws.{outer_implementation, gives_none, gives_seen, gives_group, gives_one, nothing_added, both_are}
use Rattle.zi_feed.proofs.AddedLaws.{kept_impl, kept_at, at_path}

-- what an element gives, of what is said and added with it
abbrev pub impl_made : Ways → State → Elem → List Impl
impl_made ways s e = optional (impl_at ways s.0 s.1 e)

-- What one element gives.
pub no_impls_at : (ways : Ways) (policy : Option Policy) (s : State) (parent : List ℕ) (e : Elem) (found : List Impl) → stands ways parent e ≡ false
    → found ≡ found ++ carried_impls_in ways policy s parent e
unfolding carried_impls
no_impls_at ways policy s parent e found h =
    nothing_added (carried_impls_in ways policy s parent e) found (gives_none (codes "implementation") outer_implementation (entered ways policy) (impl_made ways) ways s parent e h)

pub no_impls_in : (ways : Ways) (policy : Option Policy) (s : State) (parent : List ℕ) (e : Elem) (found : List Impl)
    → ((is (codes "group") e || (is_impl e || is_package e)) && not (is_closed e)) ≡ false → found ≡ found ++ carried_impls_in ways policy s parent e
unfolding carried_impls
no_impls_in ways policy s parent e found h =
    nothing_added (carried_impls_in ways policy s parent e) found
    (gives_seen (codes "implementation") outer_implementation (entered ways policy) (impl_made ways) ways s parent e (λ i. ap (λ v. v || is_package e) i) h)

pub impls_in_group : (ways : Ways) (policy : Option Policy) (s : State) (parent : List ℕ) (e : Elem) (found new : List Impl) (inner : Said) (added : Added)
    → stands ways parent e ≡ true → is_closed e ≡ false → is (codes "group") e ≡ true
    → inner ≡ taken s.0 e → added ≡ added_with s.1 (kept_at ways policy e)
    → new ≡ found ++ carried_impls ways policy (inner, added) e.name e.inside → new ≡ found ++ carried_impls_in ways policy s parent e
unfolding carried_impls
impls_in_group ways policy s parent e found new inner added p q g i a h =
    gives_group (codes "implementation") outer_implementation (entered ways policy) (impl_made ways) ways s (inner, added) parent e found new p q g
    (both_are i a) h

pub impls_at_one : (ways : Ways) (policy : Option Policy) (s : State) (parent : List ℕ) (e : Elem) (found new : List Impl) (inner : Said) (added : Added)
    → stands ways parent e ≡ true → is_closed e ≡ false → (is_impl e || is_package e) ≡ true
    → inner ≡ taken s.0 e → added ≡ added_with s.1 (kept_at ways policy e)
    → new ≡ found ++ (if counts e then optional (impl_at ways inner added e) else []) → new ≡ found ++ carried_impls_in ways policy s parent e
unfolding carried_impls
impls_at_one ways policy s parent e found new inner added p q one i a h =
    gives_one (codes "implementation") outer_implementation (entered ways policy) (impl_made ways) ways s (inner, added) parent e found new p q one
    (both_are i a) h

-- what is read of an element that stands
pub read_sites : (ways : Ways) (s : Said) (parent : List ℕ) (e : Elem) → stands ways parent e ≡ true → sites_in ways s parent e ≡ sites_at ways s e
read_sites ways s parent e h = rw h refl

-- The loop over what an element holds.
pub impls_next : (ways : Ways) (policy : Option Policy) (s : State) (p q : List ℕ) (ns : List Node) (i : ℕ) (x : Node) (found new total : List Impl)
    → i < length ns → x ≡ get_or ns i x → q ≡ p → new ≡ found ++ carried_impls ways policy s q (node_view x)
    → found ++ carried_impls ways policy s p (nodes_view (drop i ns)) ≡ total → new ++ carried_impls ways policy s p (nodes_view (drop (i + 1) ns)) ≡ total
unfolding carried_impls
impls_next ways policy s p q ns i x found new total h is one made kept = carry_next (entered ways policy) (impls_at ways policy) ways s p q ns i x found new total h is one made kept

pub impls_end : (ways : Ways) (policy : Option Policy) (s : State) (p : List ℕ) (ns : List Node) (i : ℕ) (found total : List Impl)
    → length ns ≤ i → found ++ carried_impls ways policy s p (nodes_view (drop i ns)) ≡ total → found ≡ total
unfolding carried_impls
impls_end ways policy s p ns i found total h kept = carry_end (entered ways policy) (impls_at ways policy) ways s p ns i found total h kept

-- What goes inward along a path.
pub fold_entered : (ways : Ways) (policy : Option Policy) (s : State) (es : List Elem)
    → fold (entered ways policy) s es ≡ (fold taken s.0 es, fold added_with s.1 (map (kept_at ways policy) es))
fold_entered ways policy s [] = refl
fold_entered ways policy s (e ∷ es) = fold_entered ways policy (entered ways policy s e) es

fold_more : (a : Added) (os : List Own) (o : Own) → added_with (fold added_with a os) o ≡ fold added_with a (os ++ o ∷ [])
fold_more a [] o = refl
fold_more a (x ∷ os) o = fold_more (added_with a x) os o

pub adds_path : (ways : Ways) (policy : Option Policy) (a : Added) (es : List Elem) (e : Elem)
    → added_with (fold added_with a (map (kept_at ways policy) es)) (kept_at ways policy e) ≡ fold added_with a (map (kept_at ways policy) (es ++ e ∷ []))
adds_path ways policy a es e =
    fold_more a (map (kept_at ways policy) es) (kept_at ways policy e) ∙ ap (fold added_with a) (sym (map-append (kept_at ways policy) es (e ∷ [])))

at_site : (ways : Ways) (policy : Option Policy) (t : Site)
    → given (entered ways policy) (impls_at ways policy) (unsaid, added_nothing) t ≡ (if counts t.element then optional (kept_impl policy (impl_of ways t)) else [])
unfolding impl_of
at_site ways policy t =
    ap (λ v. impls_at ways policy v t.element) (fold_entered ways policy (unsaid, added_nothing) t.around)
    ∙ ap (λ v. if counts t.element then optional v else [])
    (ap (λ v. impl_at ways (taken (fold taken unsaid t.around) t.element) v t.element) (adds_path ways policy added_nothing t.around t.element)
    ∙ (ap (λ v. impl_at ways v (fold added_with added_nothing (map (kept_at ways policy) (path t))) t.element) (sym (said_path t))
    ∙ at_path ways policy (said (path t)) added_nothing (path t) t.element refl refl refl))

cons_of : (o : Option Impl) (xs : List Impl) → optional o ++ xs ≡ cons_option o xs
cons_of None xs = refl
cons_of (Some x) xs = refl

kept_map : (b : Bool) (h : Site → Option Impl) (t : Site) (ts : List Site) (rest : List Impl) → rest ≡ filter_map h (implementations ts)
    → (if b then optional (h t) else []) ++ rest ≡ filter_map h (if b then t ∷ implementations ts else implementations ts)
kept_map false h t ts rest q = q
kept_map true h t ts rest q = cons_of (h t) rest ∙ ap (cons_option (h t)) q

sites_impls : (h : Site → Option Impl) (ts : List Site) → flat_map (λ t. if counts t.element then optional (h t) else []) ts ≡ filter_map h (implementations ts)
sites_impls h [] = refl
sites_impls h (t ∷ ts) = kept_map (counts t.element) h t ts _ (sites_impls h ts)

pub flat_map_same : {A B : Type 0} (g h : A → List B) (xs : List A) → ((x : A) → g x ≡ h x) → flat_map g xs ≡ flat_map h xs
flat_map_same g h [] p = refl
flat_map_same g h (x ∷ xs) p = ap (λ v. v ++ flat_map g xs) (p x) ∙ ap (λ v. h x ++ v) (flat_map_same g h xs p)

-- what is found inward is what the sites say, as far as it is kept
impls_sites : (ways : Ways) (policy : Option Policy) (parent : List ℕ) (f : Forest)
    → carried_impls ways policy (unsaid, added_nothing) parent f ≡ filter_map (λ t. kept_impl policy (impl_of ways t)) (implementations (sites ways parent f))
unfolding carried_impls
impls_sites ways policy parent f =
    carried (entered ways policy) (impls_at ways policy) ways (unsaid, added_nothing) parent f
    ∙ (flat_map_same (given (entered ways policy) (impls_at ways policy) (unsaid, added_nothing)) (λ t. if counts t.element then optional (kept_impl policy (impl_of ways t)) else [])
    (sites ways parent f) (at_site ways policy)
    ∙ sites_impls (λ t. kept_impl policy (impl_of ways t)) (sites ways parent f))

kept_all : (root : Elem) (uri : List ℕ) (policy : Option Policy)
    → filter_map (λ t. kept_impl policy (impl_of (InFeed uri) t)) (implementations (sites (InFeed uri) root.name root.inside)) ≡ (kept_feed policy (feed_of root uri)).impls
unfolding feed_of
kept_all root uri None = refl
kept_all root uri (Some p) = filter_map_each (active_part p) (impl_of (InFeed uri)) (implementations (sites (InFeed uri) root.name root.inside))

pub impls_are : (root : Elem) (uri : List ℕ) (policy : Option Policy) (before found : List Impl) (inner : Said) (added : Added)
    → before ≡ [] → inner ≡ unsaid → added ≡ added_nothing
    → found ≡ before ++ carried_impls (InFeed uri) policy (inner, added) root.name root.inside → found ≡ (kept_feed policy (feed_of root uri)).impls
impls_are root uri policy before found inner added b i a h =
    h ∙ (ap (λ v. v ++ carried_impls (InFeed uri) policy (inner, added) root.name root.inside) b
    ∙ (ap (λ v. carried_impls (InFeed uri) policy (v, added) root.name root.inside) i
    ∙ (ap (λ v. carried_impls (InFeed uri) policy (unsaid, v) root.name root.inside) a
    ∙ (impls_sites (InFeed uri) policy root.name root.inside ∙ kept_all root uri policy))))
