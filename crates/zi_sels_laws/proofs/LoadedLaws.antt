-- What the candidates of a universe are that was loaded: implementations of feeds without a fault.
use Rattle.std.proofs.Common.{◌≡◌, ℕ, ◌+◌, true, ◌||◌, List, [], ◌∷◌, map, Option, Some, None, refl, sym, ap, ◌∙◌, subst}
use Rattle.std.specs.Prelude.{◌≢◌, ◌≤◌, bytes_eq, length, MatchOption}
use Rattle.std.specs.List.{AllZip, list_any}
use Rattle.zi_policy.specs.declared.types.Policy.{Policy}
use Rattle.zi_policy.specs.Platform.{is_active, listed}
use Rattle.zi_outside.specs.Views.{Holding}
use Rattle.zi_elements.specs.Forest.{element_view}
use Rattle.zi_parts.specs.declared.types.Dep.{Dep}
use Rattle.zi_parts.specs.declared.types.Command.{Command}
use Rattle.zi_parts.specs.declared.types.Impl.{Impl}
use Rattle.zi_feed.specs.declared.feed.Feed.{Feed}
use Rattle.zi_universe.specs.declared.types.Requirement.{Requirement}
use Rattle.zi_universe.specs.declared.types.Candidate.{Candidate}
use Rattle.zi_universe.specs.declared.types.Interface.{Interface}
use Rattle.zi_universe.specs.Naming.{Uri, Uris, all_of}
use Rattle.zi_feed.specs.Active.{active_command, active_part}
use Rattle.zi_universe.specs.Candidates.{Store, all_impls, offered_from, offered_by, is_admitted, admitted_by, admitted}
use Rattle.zi_universe.specs.Whole.{feed_limit}
use Rattle.zi_universe.specs.Loading.{Reading, Says, no_feed, IsRead, IsInterface, reached, Loads}
use Rattle.zi_universe.proofs.NamingLemmas.{bytes_eq-refl, listed-Contains, listed-cons, listed-without_repeats}
use Rattle.zi_sels_laws.proofs.LikeLaws.{Each}
use Rattle.zi_sels_laws.proofs.FreeLaws.{each_weak, each_map, each_of_flat, sub_filter, each_flat}
use Rattle.zi_sels_laws.proofs.GivenLaws.{IsGivenDep, IsGivenCommand}
use Rattle.zi_sels_laws.proofs.ApartLaws.{map_apart}
use Rattle.zi_sels_laws.proofs.FeedLaws.{IsGiven, IsReadable, feed_given}
use Rattle.zi_sels_laws.specs.Rows.{HasRightRows}
use Rattle.zi_sels_laws.proofs.NativeLaws.{IsGivenNative, natives_given, rows_given, rows_readable}
use Rattle.zi_sels_laws.proofs.EachLaws.{each_permuted}

-- With the active dependencies alone.

active_command_given : (p : Policy) (c : Command) → IsGivenCommand c → IsGivenCommand (active_command p c)
active_command_given p c h = record {
  words = h.words;
  runner = h.runner;
  deps = sub_filter IsGivenDep (λ (d : Dep). is_active p d.condition) c.deps h.deps;
  bindings = h.bindings;
  unbuilt = h.unbuilt;
}

active_given : (p : Policy) (i : Impl) → IsGiven i → IsGiven (active_part p i)
unfolding active_part
active_given p i h = record {
  id = h.id;
  local = h.local;
  digests = h.digests;
  deps = sub_filter IsGivenDep (λ (d : Dep). is_active p d.condition) i.deps h.deps;
  commands = each_map IsGivenCommand (active_command p) i.commands (each_weak IsGivenCommand (λ c. IsGivenCommand (active_command p c)) (active_command_given p) i.commands h.commands);
  apart = map_apart (active_command p) (λ c. refl) i.commands h.apart;
  bindings = h.bindings;
}

active_readable : (p : Policy) (i : Impl) → IsReadable i → IsReadable (active_part p i)
unfolding active_part
active_readable p i h = record { version = h.version; named = h.named }

-- Candidates.

abbrev pub IsGivenCandidate : Candidate → Type 0
IsGivenCandidate c = IsGiven c.imp

abbrev pub AreGivenIn : Interface → Type 0
AreGivenIn i = Each IsGivenCandidate i.candidates

abbrev pub AreReadableIn : Interface → Type 0
AreReadableIn i = Each (λ (c : Candidate). IsReadable c.imp) i.candidates

record IsGivenFeed (f : Feed) : Type 0 where
  pub impls : Each (λ i. IsGiven i × IsReadable i) f.impls
  pub natives : Each IsGivenNative f.natives

-- Feeds that were read.

read_given : (told : Option Holding) (root uri : Uri) (f : Feed) → IsRead told root uri f → IsGivenFeed f
read_given told root uri f h = by h.held h.means
  where
    none : IsGivenFeed (no_feed uri)
    none = record { impls = tt; natives = tt }

    by : (held : Option (List ℕ)) → MatchOption held ((uri ≢ root) × (f ≡ no_feed uri)) (λ (bytes : List ℕ). (length bytes ≤ feed_limit) × Says uri bytes f) → IsGivenFeed f
    by None k = subst IsGivenFeed (sym k.1) none
    by (Some bytes) k =
        let says = k.1 in
        subst IsGivenFeed (sym says.3) (record { impls = feed_given (element_view says.0) uri says.2; natives = natives_given (element_view says.0) uri says.2 })

-- each of some addresses is listed among them
pub each_listed : (xs : Uris) → Each (λ y. listed y xs ≡ true) xs
each_listed [] = tt
each_listed (x ∷ xs) =
    (ap (λ b. b || list_any (bytes_eq x) xs) (bytes_eq-refl x), each_weak (λ y. listed y xs ≡ true) (λ y. listed y (x ∷ xs) ≡ true) (λ y h. listed-cons y x xs h) xs (each_listed xs))

pub each_reached : (groups : List Uris) → Each (λ g. Each (λ y. listed y (reached groups) ≡ true) g) groups
each_reached groups =
    each_of_flat (λ y. listed y (reached groups) ≡ true) (λ xs. xs) groups
    (each_weak (λ y. listed y (all_of groups) ≡ true) (λ y. listed y (reached groups) ≡ true) (λ y h. listed-without_repeats y (all_of groups) ∙ h) (all_of groups) (each_listed (all_of groups)))

-- The universe: what is so of the implementations that each feed offers, the rows of its packages among them, is so of all candidates.

module _ (P : Impl → Type 0) (p : Policy) (st : Store) (active : (i : Impl) → P i → P (active_part p i)) (offers : (f : Feed) → IsGivenFeed f → Each P (all_impls st.packages f)) where
  abbrev IsSo : Candidate → Type 0
  IsSo c = P c.imp

  abbrev AreSo : Interface → Type 0
  AreSo i = Each IsSo i.candidates

  offered_so : (interface feed : Uri) (n : ℕ) (is : List Impl) → Each P is → Each IsSo (offered_from p st interface feed n is)
  offered_so interface feed n [] h = tt
  offered_so interface feed n (i ∷ is) h = (active i h.0, offered_so interface feed (n + 1) is h.1)

  admitted_so : (req : Requirement) (interface : Uri) (fs : List Feed) → Each IsGivenFeed fs → Each IsSo (admitted req p st interface fs)
  admitted_so req interface fs h =
      each_flat IsSo (admitted_by req p st interface) IsGivenFeed
      (λ f k. sub_filter IsSo (is_admitted req p interface) (offered_by p st interface f) (offered_so interface f.uri 0 (all_impls st.packages f) (offers f k))) fs h

  interfaces_so : (at : Reading) (req : Requirement) (groups : List Uris) (is : List Interface) → AllZip (IsInterface at req p st) groups is → Each (λ g. Each (λ y. IsGivenFeed (at y)) g) groups → Each AreSo is
  interfaces_so at req [] [] z h = tt
  interfaces_so at req [] (i ∷ is) z h = absurd z
  interfaces_so at req (g ∷ groups) [] z h = absurd z
  interfaces_so at req (g ∷ groups) (i ∷ is) z h = (
    each_permuted IsSo (admitted req p st i.uri (map at g)) i.candidates z.0.candidates.same (admitted_so req i.uri (map at g) (each_map IsGivenFeed at g h.0)),
    interfaces_so at req groups is z.1 h.1,
  )

  loaded_so : (told : Option Holding) (req : Requirement) (u : List Interface) → Loads told req p st u → Each AreSo u
  loaded_so told req u l =
      let feeds = each_weak (λ g. Each (λ y. listed y (reached l.groups) ≡ true) g) (λ g. Each (λ y. IsGivenFeed (l.at y)) g)
      (λ g h. each_weak (λ y. listed y (reached l.groups) ≡ true) (λ y. IsGivenFeed (l.at y))
      (λ y k. read_given told req.interface y (l.at y) (l.read y (listed-Contains y (reached l.groups) k))) g h) l.groups (each_reached l.groups) in
      interfaces_so l.at req l.groups u l.universe.each feeds

given_impls : (is : List Impl) → Each (λ i. IsGiven i × IsReadable i) is → Each IsGiven is
given_impls is h = each_weak (λ i. IsGiven i × IsReadable i) IsGiven (λ i k. k.0) is h

readable_impls : (is : List Impl) → Each (λ i. IsGiven i × IsReadable i) is → Each IsReadable is
readable_impls is h = each_weak (λ i. IsGiven i × IsReadable i) IsReadable (λ i k. k.1) is h

pub loaded_given : (told : Option Holding) (req : Requirement) (p : Policy) (st : Store) (u : List Interface) → Loads told req p st u → Each AreGivenIn u
loaded_given told req p st u l =
    loaded_so IsGiven p st (active_given p) (λ f h. rows_given st.packages f.impls f.natives (given_impls f.impls h.impls) h.natives) told req u l

-- where the rows of the table are right, all of them are read again
pub loaded_readable : (told : Option Holding) (req : Requirement) (p : Policy) (st : Store) (u : List Interface) → HasRightRows st.packages → Loads told req p st u → Each AreReadableIn u
loaded_readable told req p st u right l =
    loaded_so IsReadable p st (active_readable p) (λ f h. rows_readable st.packages f.impls f.natives right (readable_impls f.impls h.impls)) told req u l
