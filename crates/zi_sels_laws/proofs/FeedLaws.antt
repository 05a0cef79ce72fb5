-- What the implementations of a feed without a fault are.
use Rattle.std.proofs.Common.{◌≡◌, ℕ, Bool, true, false, ◌&&◌, List, [], ◌∷◌, ◌++◌, map, Option, Some, None, codes, refl, sym, ap, subst, ◌∙◌}
use Rattle.std.specs.Prelude.{not, option_map, option_and_then, is_some, if◌then◌else◌}
use Rattle.std.specs.List.{filter_map, cons_option, flat_map, list_any}
use Rattle.std.proofs.lemmas.Bool.{and_parts}
use Rattle.zi_elements.specs.Forest.{Elem, value}
use Rattle.zi_version.specs.Value.{value as version_value}
use Rattle.zi_version.specs.Range.{a_version}
use Rattle.zi_address.specs.Texts.{is_none, pieces_of}
use Rattle.zi_reading.specs.Words.{latest, is_wrong}
use Rattle.zi_reading.specs.Forms.{is_version}
use Rattle.zi_address.specs.Address.{is_local, placed, path_of, settled, without_last}
use Rattle.zi_reading.specs.Ways.{Ways, InFeed}
use Rattle.zi_reading.specs.Reading.{is, is_unclear}
use Rattle.zi_faults.specs.Sites.{Site, path}
use Rattle.zi_faults.specs.Said.{Said, said, version_text, local_text}
use Rattle.zi_parts.specs.Values.{deps_of, commands_of, bindings_of}
use Rattle.zi_feed.specs.Impls.{are_alike, is_run, main_command, with_main, local_of, impl_with, impl_from, impl_of}
use Rattle.zi_faults.specs.Faults.{faults_at, is_impl, root_faults, same_ids, implementations, counts, fault_at, least}
use Rattle.zi_feed.specs.Feeds.{feed_sites, all_faults, feed_fault, feed_of}
use Rattle.zi_faults.specs.declared.fault.Fault.{Fault}
use Rattle.zi_faults.specs.declared.fault.FeedKind.TheVariants.{NotInterface}
use Rattle.zi_parts.specs.declared.types.Command.{Command}
use Rattle.zi_parts.specs.declared.types.Impl.{Impl}
use Rattle.zi_sels_laws.proofs.LikeLaws.{Each, each_append, each_both}
use Rattle.zi_sels_laws.proofs.BindingLaws.{IsProperBinding}
use Rattle.zi_sels_laws.proofs.ItemLaws.{IsPackage, HasPath, HasDigests}
use Rattle.zi_sels_laws.proofs.FreeLaws.{each_filter, each_weak, each_flat, IsRight, sound, free_all}
use Rattle.zi_sels_laws.proofs.SoundLaws.{bindings_sound}
use Rattle.zi_sels_laws.proofs.GivenLaws.{IsGivenDep, IsGivenCommand, deps_given, commands_given}
use Rattle.zi_sels_laws.proofs.AlongLaws.{IsRightAlong, along}
use Rattle.zi_sels_laws.proofs.ApartLaws.{AreApart, commands_apart}
use Rattle.zi_sels_laws.proofs.SpelledLaws.{digests_given}
use Rattle.zi_feed.specs.IdLaws.{least_none, both_empty}

-- the name of the package that an implementation is, where it is one
abbrev pub package_of : Impl → Option (List ℕ)
package_of i = option_map (λ p. p.name) i.«package»

-- an implementation of a feed
pub record IsGiven (i : Impl) : Type 0 where
  pub id : is_none i.id ≡ false
  pub local : HasPath (package_of i) i.local
  pub digests : HasDigests (package_of i) i.id i.digests
  pub deps : Each IsGivenDep i.deps
  pub commands : Each IsGivenCommand i.commands
  pub apart : AreApart i.commands
  pub bindings : Each IsProperBinding i.bindings

-- one whose version and package are read again
pub record IsReadable (i : Impl) : Type 0 where
  pub version : is_version i.version ≡ true
  pub named : IsPackage (package_of i)

-- Local paths.

path_local : (parts : List (List ℕ)) → is_local (path_of parts) ≡ true
path_local [] = refl
path_local (x ∷ xs) = refl

placed_local : (base text : List ℕ) → is_wrong is_local (placed base text) ≡ false
unfolding placed
placed_local base text = either (is_local text) refl
  where
    of_parts : (o : Option (List (List ℕ))) → is_wrong is_local (option_map path_of o) ≡ false
    of_parts None = refl
    of_parts (Some parts) = ap not (path_local parts)

    either : (b : Bool) → is_local text ≡ b → is_wrong is_local (if b then Some text else option_map path_of (settled (without_last (pieces_of 47 base) ++ pieces_of 47 text))) ≡ false
    either true h = ap not h
    either false h = of_parts (settled (without_last (pieces_of 47 base) ++ pieces_of 47 text))

local_given : (uri : List ℕ) (s : Said) (e : Elem) → is_wrong is_local (local_of (InFeed uri) s e) ≡ false
local_given uri s e = either (is_local uri) (local_text s e)
  where
    either : (b : Bool) (o : Option (List ℕ)) → is_wrong is_local (if b then option_and_then (placed uri) o else None) ≡ false
    either true None = refl
    either true (Some t) = placed_local uri t
    either false o = refl

-- What the elements along a path give.

pub each_latest : (P : Command → Type 0) (cs : List Command) → Each P cs → Each P (latest are_alike cs)
each_latest P [] h = tt
each_latest P (c ∷ cs) h = either (list_any (are_alike c) cs) (each_latest P cs h.1)
  where
    either : (b : Bool) → Each P (latest are_alike cs) → Each P (if b then latest are_alike cs else c ∷ latest are_alike cs)
    either true more = more
    either false more = (h.0, more)

pub main_given : (main : Option (List ℕ)) (cs : List Command) → Each IsGivenCommand cs → Each IsGivenCommand (with_main main cs)
main_given None cs h = h
main_given (Some p) cs h = either (list_any is_run cs)
  where
    either : (b : Bool) → Each IsGivenCommand (if b then cs else cs ++ main_command p ∷ [])
    either true = h
    either false = each_append IsGivenCommand cs (main_command p ∷ []) h (record { words = tt; runner = tt; deps = tt; bindings = tt; unbuilt = tt }, tt)

-- One implementation.

-- where two things aren't both so and the first is, the second isn't
not_second : (a b : Bool) → a ≡ true → (a && b) ≡ false → b ≡ false
not_second a b h k = sym (ap (λ x. x && b) h) ∙ k

-- what the element of a site is, with this text for a version
abbrev read_as : List ℕ → Site → List ℕ → Impl
read_as uri t version =
    let es = path t in
    let ways : Ways = InFeed uri in
    impl_with ways (said es) (flat_map (deps_of ways) es) (flat_map (commands_of ways) es) (flat_map (bindings_of ways) es) t.element version

given_with : (uri : List ℕ) (t : Site) → IsRightAlong (InFeed uri) t → is_none (value (codes "id") t.element) ≡ false → (v : List ℕ) → IsGiven (read_as uri t v)
given_with uri t right id v =
    let ways : Ways = InFeed uri in
    let cs = flat_map (commands_of ways) (path t) in record {
      id = id;
      local = local_given uri (said (path t)) t.element;
      digests = digests_given ways t.element;
      deps = each_flat IsGivenDep (deps_of ways) (IsRight ways) (deps_given ways) (path t) right;
      commands = main_given (said (path t)).main (latest are_alike cs) (each_latest IsGivenCommand cs (each_flat IsGivenCommand (commands_of ways) (IsRight ways) (commands_given ways) (path t) right));
      apart = commands_apart (said (path t)).main cs;
      bindings = each_flat IsProperBinding (bindings_of ways) (IsRight ways) (bindings_sound ways) (path t) right;
    }

given_at : (uri : List ℕ) (t : Site) → faults_at (InFeed uri) t ≡ [] → IsRightAlong (InFeed uri) t → counts t.element ≡ true → (i : Impl) → impl_of (InFeed uri) t ≡ Some i → IsGiven i × IsReadable i
unfolding impl_of impl_from
given_at uri t free right counted i h =
    let s = sound (InFeed uri) (said (path t)) t.element free in
    let is_one = (and_parts (is_impl t.element) (not (is_unclear t.element)) counted).0 in
    let id = not_second (is_impl t.element) (is_none (value (codes "id") t.element)) is_one s.kinds.1.0 in
    by_text (version_text (said (path t))) id h
  where
    by_version : (v : List ℕ) (b : Bool) → is_version v ≡ b → is_none (value (codes "id") t.element) ≡ false → option_map (read_as uri t) (if b then Some v else None) ≡ Some i → IsGiven i × IsReadable i
    by_version v true k id e = subst (λ x. IsGiven x × IsReadable x) (cc e) (given_with uri t right id v, record { version = k; named = tt })
    by_version v false k id e = absurd (cc e)

    by_text : (o : Option (List ℕ)) → is_none (value (codes "id") t.element) ≡ false → option_map (read_as uri t) (option_and_then a_version o) ≡ Some i → IsGiven i × IsReadable i
    by_text None id e = absurd (cc e)
    by_text (Some v) id e = by_version v (is_some (version_value v)) refl id e

-- All of a feed.

record IsSeen (uri : List ℕ) (t : Site) : Type 0 where
  pub free : faults_at (InFeed uri) t ≡ []
  pub right : IsRightAlong (InFeed uri) t

no_faults : (ways : Ways) (ss : List Site) → flat_map (faults_at ways) ss ≡ [] → Each (λ t. faults_at ways t ≡ []) ss
no_faults ways [] h = tt
no_faults ways (s ∷ ss) h = let b = both_empty (faults_at ways s) (flat_map (faults_at ways) ss) h in (b.0, no_faults ways ss b.1)

each_given : (uri : List ℕ) (ts : List Site) → Each (λ t. IsSeen uri t × (counts t.element ≡ true)) ts → Each (λ i. IsGiven i × IsReadable i) (filter_map (impl_of (InFeed uri)) ts)
each_given uri [] h = tt
each_given uri (t ∷ ts) h = either (impl_of (InFeed uri) t) refl (each_given uri ts h.1)
  where
    either : (o : Option Impl) → impl_of (InFeed uri) t ≡ o → Each (λ i. IsGiven i × IsReadable i) (filter_map (impl_of (InFeed uri)) ts) → Each (λ i. IsGiven i × IsReadable i) (cons_option o (filter_map (impl_of (InFeed uri)) ts))
    either None e more = more
    either (Some i) e more = (given_at uri t h.0.0.free h.0.0.right h.0.1 i e, more)

pub all_free : (root : Elem) (uri : List ℕ) → feed_fault root uri ≡ None → flat_map (faults_at (InFeed uri)) (feed_sites uri root) ≡ []
unfolding feed_fault
all_free root uri h =
    let faults = flat_map (faults_at (InFeed uri)) (feed_sites uri root) in
    let twice = same_ids (map (λ t. t.element) (feed_sites uri root)) in
    let none = least_none (all_faults uri root) (is_one (is (codes "interface") root) (least (all_faults uri root)) h) in
    (both_empty faults twice (both_empty (root_faults uri root) (faults ++ twice) none).1).0
  where
    is_one : (b : Bool) (o : Option Fault) → (if b then o else Some (fault_at root NotInterface)) ≡ None → o ≡ None
    is_one true o k = k
    is_one false o k = absurd (cc k)

-- the implementations that a tree without a fault says
pub feed_given : (root : Elem) (uri : List ℕ) → feed_fault root uri ≡ None → Each (λ i. IsGiven i × IsReadable i) (feed_of root uri).impls
unfolding feed_of
feed_given root uri h =
    let ss = feed_sites uri root in
    let none = all_free root uri h in
    let right = along (InFeed uri) root.name root.inside (free_all (InFeed uri) ss none) in
    each_given uri (implementations ss)
    (each_filter (IsSeen uri) (λ t. counts t.element) ss
    (each_weak (λ t. (faults_at (InFeed uri) t ≡ []) × IsRightAlong (InFeed uri) t) (IsSeen uri) (λ t k. record { free = k.0; right = k.1 }) ss
    (each_both (λ t. faults_at (InFeed uri) t ≡ []) (IsRightAlong (InFeed uri)) ss (no_faults (InFeed uri) ss none) right)))
