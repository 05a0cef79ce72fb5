-- What a feed without a fault says of packages of the operating system, and the implementations that the rows of a table make of it.
use Rattle.std.proofs.Common.{◌≡◌, ℕ, Bool, true, false, List, [], ◌∷◌, ◌++◌, Some, None, codes, refl, arith}
use Rattle.std.specs.Prelude.{bytes_eq, fold, if◌then◌else◌}
use Rattle.std.specs.List.{flat_map}
use Rattle.std.proofs.lemmas.Bool.Decides.{nat_tests}
use Rattle.zi_elements.specs.Forest.{Elem}
use Rattle.zi_address.specs.Texts.{is_none}
use Rattle.zi_reading.specs.Words.{latest}
use Rattle.zi_reading.specs.Forms.{is_version}
use Rattle.zi_reading.specs.Ways.{Ways, InFeed}
use Rattle.zi_faults.specs.Sites.{Site, path}
use Rattle.zi_faults.specs.Said.{said}
use Rattle.zi_parts.specs.Values.{deps_of, commands_of, bindings_of}
use Rattle.zi_parts.specs.declared.types.Impl.{Impl}
use Rattle.zi_parts.specs.declared.types.Native.{Native}
use Rattle.zi_packages.specs.declared.types.Packages.{Packages}
use Rattle.zi_packages.specs.declared.types.PackageRow.{PackageRow}
use Rattle.zi_packages.specs.Table.{is_name, version_of, is_listed}
use Rattle.zi_packages.specs.Natives.{row_id, row_impl, is_for, rows_of, made_by, made_of, offered_rows, ids_of, with_new, with_rows}
use Rattle.zi_feed.specs.Impls.{are_alike}
use Rattle.zi_feed.specs.Natives.{native_of, counts_native, packages}
use Rattle.zi_feed.specs.Feeds.{feed_sites, feed_fault, feed_of}
use Rattle.zi_sels_laws.specs.Rows.{IsRightRow, HasRightRows}
use Rattle.zi_sels_laws.proofs.LikeLaws.{Each, each_append}
use Rattle.zi_sels_laws.proofs.BindingLaws.{IsProperBinding}
use Rattle.zi_sels_laws.proofs.FreeLaws.{each_weak, each_map, each_flat, each_true, sub_filter, IsRight, free_all}
use Rattle.zi_sels_laws.proofs.SoundLaws.{bindings_sound}
use Rattle.zi_sels_laws.proofs.GivenLaws.{IsGivenDep, IsGivenCommand, deps_given, commands_given}
use Rattle.zi_sels_laws.proofs.AlongLaws.{IsRightAlong, along}
use Rattle.zi_sels_laws.proofs.ApartLaws.{AreApart, commands_apart}
use Rattle.zi_sels_laws.proofs.EachLaws.{all_each}
use Rattle.zi_sels_laws.proofs.FeedLaws.{IsGiven, IsReadable, each_latest, main_given, all_free}

-- a package that a feed names
pub record IsGivenNative (n : Native) : Type 0 where
  pub deps : Each IsGivenDep n.deps
  pub commands : Each IsGivenCommand n.commands
  pub apart : AreApart n.commands
  pub bindings : Each IsProperBinding n.bindings

native_given : (uri : List ℕ) (t : Site) → IsRightAlong (InFeed uri) t → IsGivenNative (native_of (InFeed uri) t)
unfolding native_of
native_given uri t right =
    let ways : Ways = InFeed uri in
    let cs = flat_map (commands_of ways) (path t) in record {
      deps = each_flat IsGivenDep (deps_of ways) (IsRight ways) (deps_given ways) (path t) right;
      commands = main_given (said (path t)).main (latest are_alike cs) (each_latest IsGivenCommand cs (each_flat IsGivenCommand (commands_of ways) (IsRight ways) (commands_given ways) (path t) right));
      apart = commands_apart (said (path t)).main cs;
      bindings = each_flat IsProperBinding (bindings_of ways) (IsRight ways) (bindings_sound ways) (path t) right;
    }

-- those of a tree without a fault
pub natives_given : (root : Elem) (uri : List ℕ) → feed_fault root uri ≡ None → Each IsGivenNative (feed_of root uri).natives
unfolding feed_of
natives_given root uri h =
    let ss = feed_sites uri root in
    let right = along (InFeed uri) root.name root.inside (free_all (InFeed uri) ss (all_free root uri h)) in
    each_map IsGivenNative (native_of (InFeed uri)) (packages ss)
    (each_weak (IsRightAlong (InFeed uri)) (λ t. IsGivenNative (native_of (InFeed uri) t)) (native_given uri) (packages ss) (sub_filter (IsRightAlong (InFeed uri)) (λ t. counts_native t.element) ss right))

-- Rows.

filled : (c : ℕ) (t : List ℕ) → is_none (c ∷ t) ≡ false
filled c t = grind (arith, nat_tests)

named_filled : (t : List ℕ) → is_name t ≡ true → is_none t ≡ false
unfolding is_name
named_filled [] h = absurd (cc h)
named_filled (c ∷ t) h = filled c t

row_version : (t : List ℕ) → version_of t ≡ Some t → is_version t ≡ true
row_version t h = by (is_name t) (is_version t) refl h
  where
    by : (a b : Bool) → is_version t ≡ b → (if a then (if b then Some t else None) else None) ≡ Some t → is_version t ≡ true
    by true true e k = e
    by true false e k = absurd (cc k)
    by false b e k = absurd (cc k)

row_readable : (n : Native) (r : PackageRow) → IsRightRow r → IsReadable (row_impl n r)
unfolding row_impl
row_readable n r k = record { version = row_version r.version k.version; named = named_filled r.«package» k.name }

row_given : (n : Native) (r : PackageRow) → IsGivenNative n → IsGiven (row_impl n r)
unfolding row_impl row_id
row_given n r h = record {
  id = filled 112 (codes "ackage:" ++ (r.«package» ++ 58 ∷ (r.version ++ 58 ∷ r.machine)));
  local = refl;
  digests = refl;
  deps = h.deps;
  commands = h.commands;
  apart = h.apart;
  bindings = h.bindings;
}

-- what is so of the implementations of rows is so of those of all rows of the packages that are named
pub made_so : (P : Impl → Type 0) (Q : PackageRow → Type 0) (t : Packages) (n : Native) → ((r : PackageRow) → Q r → P (row_impl n r)) → Each Q t.rows → Each P (made_of t n)
made_so P Q t n one right = by (is_for t.distribution n)
  where
    rows : List PackageRow
    rows = rows_of t.rows n.«package»

    by : (b : Bool) → Each P (if b then made_by n rows else [])
    by true = each_map P (row_impl n) rows (each_weak Q (λ r. P (row_impl n r)) one rows (sub_filter Q (λ r. bytes_eq r.«package» n.«package») t.rows right))
    by false = tt

pub new_so : (P : Impl → Type 0) (is news : List Impl) → Each P is → Each P news → Each P (fold with_new is news)
new_so P is [] h k = h
new_so P is (i ∷ news) h k = new_so P (with_new is i) news (either (is_listed i.id (ids_of is))) k.1
  where
    either : (b : Bool) → Each P (if b then is else is ++ i ∷ [])
    either true = h
    either false = each_append P is (i ∷ []) h (k.0, tt)

-- implementations and those of the rows of packages
pub rows_given : (t : Packages) (is : List Impl) (ns : List Native) → Each IsGiven is → Each IsGivenNative ns → Each IsGiven (with_rows t is ns)
unfolding with_rows
rows_given t is ns h k =
    new_so IsGiven is (offered_rows t ns) h
    (each_flat IsGiven (made_of t) IsGivenNative (λ n g. made_so IsGiven (λ (r : PackageRow). Unit {0}) t n (λ r u. row_given n r g) (each_true t.rows)) ns k)

-- those of right rows are read again
pub rows_readable : (t : Packages) (is : List Impl) (ns : List Native) → HasRightRows t → Each IsReadable is → Each IsReadable (with_rows t is ns)
unfolding with_rows
rows_readable t is ns right h =
    new_so IsReadable is (offered_rows t ns) h
    (each_flat IsReadable (made_of t) (λ (n : Native). Unit {0}) (λ n u. made_so IsReadable IsRightRow t n (row_readable n) (all_each IsRightRow t.rows right)) ns (each_true ns))
