-- What a feed says, where it was read: the names of the bindings of its implementations and packages can be carried.
use Rattle.std.proofs.Common.{◌≡◌, ℕ, Bool, true, false, List, [], ◌∷◌, ◌++◌, Option, Some, None, refl, subst}
use Rattle.std.specs.Prelude.{if◌then◌else◌, option_map, option_and_then, is_some}
use Rattle.std.specs.List.{filter_map, cons_option, flat_map, list_any}
use Rattle.zi_version.specs.Value.{value as version_value}
use Rattle.zi_version.specs.Range.{a_version}
use Rattle.zi_elements.specs.Forest.{Elem}
use Rattle.zi_reading.specs.Words.{latest}
use Rattle.zi_reading.specs.Ways.{Ways, InFeed}
use Rattle.zi_faults.specs.Sites.{Site, path}
use Rattle.zi_faults.specs.Said.{said, version_text}
use Rattle.zi_faults.specs.Faults.{implementations, counts}
use Rattle.zi_parts.specs.Values.{deps_of, commands_of, bindings_of}
use Rattle.zi_parts.specs.declared.types.Command.{Command}
use Rattle.zi_parts.specs.declared.types.Impl.{Impl}
use Rattle.zi_parts.specs.declared.types.Native.{Native}
use Rattle.zi_packages.specs.declared.types.Packages.{Packages}
use Rattle.zi_packages.specs.declared.types.PackageRow.{PackageRow}
use Rattle.zi_packages.specs.Natives.{row_impl, made_of, offered_rows, with_rows}
use Rattle.zi_feed.specs.Impls.{are_alike, is_run, main_command, with_main, impl_with, impl_from, impl_of}
use Rattle.zi_feed.specs.Natives.{native_of, counts_native, packages}
use Rattle.zi_feed.specs.Feeds.{feed_sites, feed_of}
use Rattle.zi_feed.specs.declared.feed.Feed.{Feed}
use Rattle.zi_sels_laws.proofs.LikeLaws.{Each, each_append}
use Rattle.zi_sels_laws.proofs.FreeLaws.{each_weak, each_map, each_flat, each_true, sub_filter}
use Rattle.zi_sels_laws.proofs.FeedLaws.{each_latest}
use Rattle.zi_sels_laws.proofs.NativeLaws.{made_so, new_so}
use Rattle.zi_shim_laws.proofs.PartLaws.{IsCarriedElem, IsCarriedAlong, sites_carried, IsClearDep, IsClearCommand, deps_clear, commands_clear}

pub record IsClearImpl (i : Impl) : Type 0 where
  pub deps : Each IsClearDep i.deps
  pub commands : Each IsClearCommand i.commands

pub record IsClearNative (n : Native) : Type 0 where
  pub deps : Each IsClearDep n.deps
  pub commands : Each IsClearCommand n.commands

pub record IsClearFeed (f : Feed) : Type 0 where
  pub impls : Each IsClearImpl f.impls
  pub natives : Each IsClearNative f.natives

-- Commands, with what `main` means.

main_clear : (main : Option (List ℕ)) (cs : List Command) → Each IsClearCommand cs → Each IsClearCommand (with_main main cs)
main_clear None cs h = h
main_clear (Some p) cs h = either (list_any is_run cs)
  where
    either : (b : Bool) → Each IsClearCommand (if b then cs else cs ++ main_command p ∷ [])
    either true = h
    either false = each_append IsClearCommand cs (main_command p ∷ []) h (record { runner = tt; deps = tt }, tt)

commands_along : (ways : Ways) (t : Site) → IsCarriedAlong t → Each IsClearCommand (with_main (said (path t)).main (latest are_alike (flat_map (commands_of ways) (path t))))
commands_along ways t h =
    let cs = flat_map (commands_of ways) (path t) in
    main_clear (said (path t)).main (latest are_alike cs) (each_latest IsClearCommand cs (each_flat IsClearCommand (commands_of ways) IsCarriedElem (commands_clear ways) (path t) h))

-- Implementations.

-- what the element of a site is, with this text for a version
abbrev read_as : Ways → Site → List ℕ → Impl
read_as ways t version =
    let es = path t in
    impl_with ways (said es) (flat_map (deps_of ways) es) (flat_map (commands_of ways) es) (flat_map (bindings_of ways) es) t.element version

read_clear : (ways : Ways) (t : Site) (v : List ℕ) → IsCarriedAlong t → IsClearImpl (read_as ways t v)
read_clear ways t v h = record { deps = each_flat IsClearDep (deps_of ways) IsCarriedElem (deps_clear ways) (path t) h; commands = commands_along ways t h }

impl_clear : (ways : Ways) (t : Site) → IsCarriedAlong t → (i : Impl) → impl_of ways t ≡ Some i → IsClearImpl i
unfolding impl_of impl_from
impl_clear ways t h i e = by_text (version_text (said (path t))) e
  where
    by_version : (v : List ℕ) (b : Bool) → option_map (read_as ways t) (if b then Some v else None) ≡ Some i → IsClearImpl i
    by_version v true q = subst IsClearImpl (cc q) (read_clear ways t v h)
    by_version v false q = absurd (cc q)

    by_text : (o : Option (List ℕ)) → option_map (read_as ways t) (option_and_then a_version o) ≡ Some i → IsClearImpl i
    by_text None q = absurd (cc q)
    by_text (Some v) q = by_version v (is_some (version_value v)) q

impls_clear : (ways : Ways) (ts : List Site) → Each IsCarriedAlong ts → Each IsClearImpl (filter_map (impl_of ways) ts)
impls_clear ways [] h = tt
impls_clear ways (t ∷ ts) h = either (impl_of ways t) refl (impls_clear ways ts h.1)
  where
    either : (o : Option Impl) → impl_of ways t ≡ o → Each IsClearImpl (filter_map (impl_of ways) ts) → Each IsClearImpl (cons_option o (filter_map (impl_of ways) ts))
    either None e more = more
    either (Some i) e more = (impl_clear ways t h.0 i e, more)

-- Packages, and the implementations that the rows of a table make of them.

native_clear : (ways : Ways) (t : Site) → IsCarriedAlong t → IsClearNative (native_of ways t)
unfolding native_of
native_clear ways t h = record { deps = each_flat IsClearDep (deps_of ways) IsCarriedElem (deps_clear ways) (path t) h; commands = commands_along ways t h }

row_clear : (n : Native) (r : PackageRow) → IsClearNative n → IsClearImpl (row_impl n r)
unfolding row_impl
row_clear n r h = record { deps = h.deps; commands = h.commands }

pub rows_clear : (t : Packages) (is : List Impl) (ns : List Native) → Each IsClearImpl is → Each IsClearNative ns → Each IsClearImpl (with_rows t is ns)
unfolding with_rows
rows_clear t is ns h k =
    new_so IsClearImpl is (offered_rows t ns) h
    (each_flat IsClearImpl (made_of t) IsClearNative (λ n g. made_so IsClearImpl (λ (r : PackageRow). Unit {0}) t n (λ r u. row_clear n r g) (each_true t.rows)) ns k)

-- Feeds.

pub feed_clear : (root : Elem) (uri : List ℕ) → IsCarriedElem root → IsClearFeed (feed_of root uri)
unfolding feed_of
feed_clear root uri h =
    let ways : Ways = InFeed uri in
    let ss = feed_sites uri root in
    let along = sites_carried ways root.name root.inside h.texts in record {
      impls = impls_clear ways (implementations ss) (sub_filter IsCarriedAlong (λ t. counts t.element) ss along);
      natives = each_map IsClearNative (native_of ways) (packages ss)
          (each_weak IsCarriedAlong (λ t. IsClearNative (native_of ways t)) (native_clear ways) (packages ss) (sub_filter IsCarriedAlong (λ t. counts_native t.element) ss along));
    }
