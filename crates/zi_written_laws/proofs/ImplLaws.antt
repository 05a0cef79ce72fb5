-- What a feed says can be carried, where its address and all in its tree can be.
use Rattle.std.specs.Prelude.{if◌then◌else◌, option_map, option_and_then, unwrap_or, is_some}
use Rattle.std.proofs.Common.{◌≡◌, ℕ, Bool, true, false, ◌||◌, List, [], ◌∷◌, ◌++◌, Option, Some, None, codes, refl, subst, arith}
use Rattle.std.specs.List.{filter, filter_map, cons_option, flat_map, list_any}
use Rattle.zi_text.specs.Pieces.{pieces}
use Rattle.zi_version.specs.Value.{value as version_value}
use Rattle.zi_version.specs.Range.{a_version}
use Rattle.zi_policy.specs.declared.types.Arch.{Arch}
use Rattle.zi_policy.specs.Platform.{is_empty_part, arch_of, arch_of_pieces}
use Rattle.zi_elements.specs.Forest.{Elem, attribute, value}
use Rattle.zi_reading.specs.Words.{latest}
use Rattle.zi_address.specs.Address.{is_local, placed}
use Rattle.zi_reading.specs.Ways.{Ways, InFeed}
use Rattle.zi_reading.specs.Reading.{is}
use Rattle.zi_faults.specs.Sites.{Site, path}
use Rattle.zi_faults.specs.Said.{Said, said, version_text, begins_path, local_text}
use Rattle.zi_parts.specs.Values.{deps_of, commands_of, bindings_of}
use Rattle.zi_feed.specs.Impls.{are_alike, is_run, main_command, with_main, local_of, impl_with, impl_from, impl_of, import_of}
use Rattle.zi_faults.specs.Faults.{implementations, counts}
use Rattle.zi_feed.specs.Natives.{native_of, counts_native, packages}
use Rattle.zi_feed.specs.Feeds.{feed_sites, feed_of}
use Rattle.zi_parts.specs.declared.types.Command.{Command}
use Rattle.zi_parts.specs.declared.types.Impl.{Impl}
use Rattle.zi_parts.specs.declared.types.Native.{Native}
use Rattle.zi_parts.specs.declared.types.Import.{Import}
use Rattle.zi_feed.specs.declared.feed.Feed.{Feed}
use Rattle.zi_doc_laws.specs.Trees.{IsCarried}
use Rattle.zi_doc_laws.proofs.CarriedLaws.{none_carried, both_carried}
use Rattle.zi_sels_laws.proofs.LikeLaws.{Each, each_append}
use Rattle.zi_sels_laws.proofs.FreeLaws.{each_front, each_weak, each_map, each_flat, sub_filter}
use Rattle.zi_sels_laws.proofs.FeedLaws.{package_of}
use Rattle.zi_written_laws.proofs.TextLaws.{shown_carried, cut_text, IsCarriedOr, or_carried, either_carried}
use Rattle.zi_written_laws.proofs.AddressLaws.{placed_carried}
use Rattle.zi_written_laws.proofs.ElemLaws.{IsCarriedElem, attribute_carried, value_carried, address_carried, IsCarriedAlong, sites_carried, IsCarriedSaid, said_carried}
use Rattle.zi_written_laws.proofs.PartLaws.{IsCarriedBinding, bindings_carried, IsCarriedDep, deps_carried, IsCarriedCommand, commands_carried}

-- Platforms.

abbrev pub IsCarriedArch : Option Arch → Type 0
IsCarriedArch None = Unit {0}
IsCarriedArch (Some a) = IsCarried a.os × IsCarried a.machine

arch_pieces : (os : List ℕ) (machines : List (List ℕ)) → IsCarried os → Each IsCarried machines → IsCarriedArch (arch_of_pieces os machines)
arch_pieces os [] h k = tt
arch_pieces os (machine ∷ []) h k = by (is_empty_part os || is_empty_part machine)
  where
    by : (b : Bool) → IsCarriedArch (if b then None else Some (record { os = os; machine = machine }))
    by true = tt
    by false = (h, k.0)
arch_pieces os (machine ∷ other ∷ others) h k = tt

arch_text : (text : List ℕ) → IsCarried text → IsCarriedArch (arch_of text)
unfolding arch_of
arch_text text h = let p = cut_text 45 text (omega arith) h in arch_pieces (pieces 45 text).0 (pieces 45 text).1 p.0 p.1

arch_carried : (o : Option (List ℕ)) → IsCarriedOr o → IsCarriedArch (option_and_then arch_of o)
arch_carried None h = tt
arch_carried (Some t) h = arch_text t h

-- Versions, with their modifiers.

version_carried : (s : Said) → IsCarriedSaid s → IsCarriedOr (version_text s)
version_carried s h = by s.version h.version
  where
    by : (o : Option (List ℕ)) → IsCarriedOr o → IsCarriedOr (option_map (λ v. v ++ unwrap_or s.modifier []) o)
    by None k = tt
    by (Some v) k = both_carried v (unwrap_or s.modifier []) k (or_carried s.modifier [] h.modifier none_carried)

-- Local paths.

local_said : (s : Said) (e : Elem) → IsCarriedSaid s → IsCarriedElem e → IsCarriedOr (local_text s e)
local_said s e h k =
    either_carried s.local_path (if begins_path (value (codes "id") e) then attribute (codes "id") e else None) h.local_path (by (begins_path (value (codes "id") e)) (attribute_carried (codes "id") e k))
  where
    by : (b : Bool) → IsCarriedOr (attribute (codes "id") e) → IsCarriedOr (if b then attribute (codes "id") e else None)
    by true x = x
    by false x = tt

local_carried : (uri : List ℕ) (s : Said) (e : Elem) → IsCarried uri → IsCarriedSaid s → IsCarriedElem e → IsCarriedOr (local_of (InFeed uri) s e)
local_carried uri s e u h k = by (is_local uri) (local_text s e) (local_said s e h k)
  where
    by : (b : Bool) (o : Option (List ℕ)) → IsCarriedOr o → IsCarriedOr (if b then option_and_then (placed uri) o else None)
    by true None x = tt
    by true (Some t) x = placed_carried uri t u x
    by false o x = tt

-- Commands, with what `main` means.

each_latest : (P : Command → Type 0) (cs : List Command) → Each P cs → Each P (latest are_alike cs)
each_latest P [] h = tt
each_latest P (c ∷ cs) h = either (list_any (are_alike c) cs) (each_latest P cs h.1)
  where
    either : (b : Bool) → Each P (latest are_alike cs) → Each P (if b then latest are_alike cs else c ∷ latest are_alike cs)
    either true more = more
    either false more = (h.0, more)

main_carried : (main : Option (List ℕ)) (cs : List Command) → IsCarriedOr main → Each IsCarriedCommand cs → Each IsCarriedCommand (with_main main cs)
main_carried None cs m h = h
main_carried (Some p) cs m h = either (list_any is_run cs)
  where
    one : IsCarriedCommand (main_command p)
    one = record { name = shown_carried (codes "run") refl; path = m; words = tt; runner = tt; deps = tt; bindings = tt }

    either : (b : Bool) → Each IsCarriedCommand (if b then cs else cs ++ main_command p ∷ [])
    either true = h
    either false = each_append IsCarriedCommand cs (main_command p ∷ []) h (one, tt)

-- Implementations.

pub record IsCarriedImpl (i : Impl) : Type 0 where
  pub id : IsCarried i.id
  pub version : IsCarried i.version
  pub arch : IsCarriedArch i.arch
  pub released : IsCarriedOr i.released
  pub named : IsCarriedOr (package_of i)
  pub local : IsCarriedOr i.local
  pub deps : Each IsCarriedDep i.deps
  pub commands : Each IsCarriedCommand i.commands
  pub bindings : Each IsCarriedBinding i.bindings

-- what the element of a site is, with this text for a version
abbrev read_as : List ℕ → Site → List ℕ → Impl
read_as uri t version =
    let es = path t in
    let ways : Ways = InFeed uri in
    impl_with ways (said es) (flat_map (deps_of ways) es) (flat_map (commands_of ways) es) (flat_map (bindings_of ways) es) t.element version

read_carried : (uri : List ℕ) (t : Site) (v : List ℕ) → IsCarried uri → IsCarriedAlong t → IsCarried v → IsCarriedImpl (read_as uri t v)
read_carried uri t v u h version =
    let ways : Ways = InFeed uri in
    let s : IsCarriedSaid (said (path t)) = said_carried (path t) h in
    let e : IsCarriedElem t.element = (each_front IsCarriedElem t.around (t.element ∷ []) h).1.0 in
    let cs = flat_map (commands_of ways) (path t) in record {
      id = value_carried (codes "id") t.element e;
      version = version;
      arch = arch_carried (said (path t)).arch s.arch;
      released = s.released;
      named = tt;
      local = local_carried uri (said (path t)) t.element u s e;
      deps = each_flat IsCarriedDep (deps_of ways) IsCarriedElem (deps_carried uri u) (path t) h;
      commands = main_carried (said (path t)).main (latest are_alike cs) s.main
          (each_latest IsCarriedCommand cs (each_flat IsCarriedCommand (commands_of ways) IsCarriedElem (commands_carried uri u) (path t) h));
      bindings = each_flat IsCarriedBinding (bindings_of ways) IsCarriedElem (bindings_carried ways) (path t) h;
    }

impl_carried : (uri : List ℕ) (t : Site) → IsCarried uri → IsCarriedAlong t → (i : Impl) → impl_of (InFeed uri) t ≡ Some i → IsCarriedImpl i
unfolding impl_of impl_from
impl_carried uri t u h i e = by_text (version_text (said (path t))) (version_carried (said (path t)) (said_carried (path t) h)) e
  where
    by_version : (v : List ℕ) (b : Bool) → IsCarried v → option_map (read_as uri t) (if b then Some v else None) ≡ Some i → IsCarriedImpl i
    by_version v true k q = subst IsCarriedImpl (cc q) (read_carried uri t v u h k)
    by_version v false k q = absurd (cc q)

    by_text : (o : Option (List ℕ)) → IsCarriedOr o → option_map (read_as uri t) (option_and_then a_version o) ≡ Some i → IsCarriedImpl i
    by_text None k q = absurd (cc q)
    by_text (Some v) k q = by_version v (is_some (version_value v)) k q

impls_carried : (uri : List ℕ) (ts : List Site) → IsCarried uri → Each IsCarriedAlong ts → Each IsCarriedImpl (filter_map (impl_of (InFeed uri)) ts)
impls_carried uri [] u h = tt
impls_carried uri (t ∷ ts) u h = either (impl_of (InFeed uri) t) refl (impls_carried uri ts u h.1)
  where
    either : (o : Option Impl) → impl_of (InFeed uri) t ≡ o → Each IsCarriedImpl (filter_map (impl_of (InFeed uri)) ts) → Each IsCarriedImpl (cons_option o (filter_map (impl_of (InFeed uri)) ts))
    either None e more = more
    either (Some i) e more = (impl_carried uri t u h.0 i e, more)

-- Packages.

pub record IsCarriedNative (n : Native) : Type 0 where
  pub released : IsCarriedOr n.released
  pub deps : Each IsCarriedDep n.deps
  pub commands : Each IsCarriedCommand n.commands
  pub bindings : Each IsCarriedBinding n.bindings

native_carried : (uri : List ℕ) (t : Site) → IsCarried uri → IsCarriedAlong t → IsCarriedNative (native_of (InFeed uri) t)
unfolding native_of
native_carried uri t u h =
    let ways : Ways = InFeed uri in
    let s : IsCarriedSaid (said (path t)) = said_carried (path t) h in
    let cs = flat_map (commands_of ways) (path t) in record {
      released = s.released;
      deps = each_flat IsCarriedDep (deps_of ways) IsCarriedElem (deps_carried uri u) (path t) h;
      commands = main_carried (said (path t)).main (latest are_alike cs) s.main
          (each_latest IsCarriedCommand cs (each_flat IsCarriedCommand (commands_of ways) IsCarriedElem (commands_carried uri u) (path t) h));
      bindings = each_flat IsCarriedBinding (bindings_of ways) IsCarriedElem (bindings_carried ways) (path t) h;
    }

-- Feeds.

pub record IsCarriedFeed (f : Feed) : Type 0 where
  pub uri : IsCarried f.uri
  pub imports : Each (λ (m : Import). IsCarried m.uri) f.imports
  pub impls : Each IsCarriedImpl f.impls
  pub natives : Each IsCarriedNative f.natives

import_carried : (uri : List ℕ) (t : Site) → IsCarried uri → IsCarriedAlong t → IsCarried (import_of (InFeed uri) t.element).uri
unfolding import_of
import_carried uri t u h = address_carried uri (codes "src") t.element u (each_front IsCarriedElem t.around (t.element ∷ []) h).1.0

pub feed_carried : (root : Elem) (uri : List ℕ) → IsCarried uri → IsCarriedElem root → IsCarriedFeed (feed_of root uri)
unfolding feed_of
feed_carried root uri u h =
    let ss = feed_sites uri root in
    let along = sites_carried (InFeed uri) root.name root.inside h.texts in
    let feeds = filter (λ (t : Site). is (codes "feed") t.element) ss in record {
      uri = u;
      imports = each_map (λ (m : Import). IsCarried m.uri) (λ (t : Site). import_of (InFeed uri) t.element) feeds
          (each_weak IsCarriedAlong (λ (t : Site). IsCarried (import_of (InFeed uri) t.element).uri) (λ t k. import_carried uri t u k) feeds (sub_filter IsCarriedAlong (λ (t : Site). is (codes "feed") t.element) ss along));
      impls = impls_carried uri (implementations ss) u (sub_filter IsCarriedAlong (λ t. counts t.element) ss along);
      natives = each_map IsCarriedNative (native_of (InFeed uri)) (packages ss)
          (each_weak IsCarriedAlong (λ t. IsCarriedNative (native_of (InFeed uri) t)) (λ t k. native_carried uri t u k) (packages ss) (sub_filter IsCarriedAlong (λ t. counts_native t.element) ss along));
    }
