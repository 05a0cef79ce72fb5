-- The candidates of a universe that was loaded: the names of their bindings can be carried, since feeds say them.
use Rattle.std.proofs.Common.{◌≡◌, ℕ, ◌+◌, true, List, [], ◌∷◌, map, Option, Some, None, sym, subst}
use Rattle.std.specs.Prelude.{◌≢◌, ◌≤◌, length, MatchOption}
use Rattle.std.specs.List.{AllZip}
use Rattle.zi_policy.specs.declared.types.Policy.{Policy}
use Rattle.zi_policy.specs.Platform.{is_active, listed}
use Rattle.zi_outside.specs.Views.{Holding}
use Rattle.zi_elements.specs.declared.element.Element.{Element}
use Rattle.zi_elements.specs.Forest.{element_view, whole}
use Rattle.zi_xml.specs.Documents.{Spells}
use Rattle.zi_doc_laws.specs.Trees.{HasCarriedTexts}
use Rattle.zi_parts.specs.declared.types.Dep.{Dep}
use Rattle.zi_parts.specs.declared.types.Command.{Command}
use Rattle.zi_parts.specs.declared.types.Impl.{Impl}
use Rattle.zi_feed.specs.declared.feed.Feed.{Feed}
use Rattle.zi_feed.specs.Active.{active_command, active_part}
use Rattle.zi_universe.specs.declared.types.Requirement.{Requirement}
use Rattle.zi_universe.specs.declared.types.Candidate.{Candidate}
use Rattle.zi_universe.specs.declared.types.Interface.{Interface}
use Rattle.zi_universe.specs.Naming.{Uri, Uris}
use Rattle.zi_universe.specs.Candidates.{Store, all_impls, offered_from, offered_by, is_admitted, admitted_by, admitted}
use Rattle.zi_universe.specs.Whole.{feed_limit}
use Rattle.zi_universe.specs.Loading.{Reading, Says, no_feed, IsRead, IsInterface, reached, Loads}
use Rattle.zi_universe.proofs.NamingLemmas.{listed-Contains}
use Rattle.zi_choice.specs.Choice.{Choice, chosen}
use Rattle.zi_choice.proofs.Base.{chosen_from, interface_at}
use Rattle.zi_sels_laws.proofs.LikeLaws.{Each}
use Rattle.zi_sels_laws.proofs.FreeLaws.{each_weak, each_map, each_flat, sub_filter}
use Rattle.zi_sels_laws.proofs.EachLaws.{each_permuted, each_at}
use Rattle.zi_sels_laws.proofs.LoadedLaws.{each_reached}
use Rattle.zi_shim_laws.proofs.PartLaws.{root_carried, IsClearDep, IsClearCommand}
use Rattle.zi_shim_laws.proofs.FeedLaws.{IsClearImpl, IsClearFeed, rows_clear, feed_clear}

-- what every document keeps
abbrev pub IsKept : Type 0
IsKept = (w : List ℕ) (t : Element) → Spells w t → HasCarriedTexts (whole t)

-- With the active dependencies alone.

command_active : (p : Policy) (c : Command) → IsClearCommand c → IsClearCommand (active_command p c)
command_active p c h = record { runner = h.runner; deps = sub_filter IsClearDep (λ (d : Dep). is_active p d.condition) c.deps h.deps }

impl_active : (p : Policy) (i : Impl) → IsClearImpl i → IsClearImpl (active_part p i)
unfolding active_part
impl_active p i h = record {
  deps = sub_filter IsClearDep (λ (d : Dep). is_active p d.condition) i.deps h.deps;
  commands = each_map IsClearCommand (active_command p) i.commands (each_weak IsClearCommand (λ c. IsClearCommand (active_command p c)) (command_active p) i.commands h.commands);
}

-- Candidates.

abbrev IsClearCandidate : Candidate → Type 0
IsClearCandidate c = IsClearImpl c.imp

abbrev pub AreClearIn : Interface → Type 0
AreClearIn i = Each IsClearCandidate i.candidates

offered_clear : (p : Policy) (st : Store) (interface feed : Uri) (n : ℕ) (is : List Impl) → Each IsClearImpl is → Each IsClearCandidate (offered_from p st interface feed n is)
offered_clear p st interface feed n [] h = tt
offered_clear p st interface feed n (i ∷ is) h = (impl_active p i h.0, offered_clear p st interface feed (n + 1) is h.1)

admitted_clear : (req : Requirement) (p : Policy) (st : Store) (interface : Uri) (fs : List Feed) → Each IsClearFeed fs → Each IsClearCandidate (admitted req p st interface fs)
admitted_clear req p st interface fs h =
    each_flat IsClearCandidate (admitted_by req p st interface) IsClearFeed
    (λ f k. sub_filter IsClearCandidate (is_admitted req p interface) (offered_by p st interface f)
    (offered_clear p st interface f.uri 0 (all_impls st.packages f) (rows_clear st.packages f.impls f.natives k.impls k.natives))) fs h

-- Feeds that were read.

read_clear : IsKept → (told : Option Holding) (root uri : Uri) (f : Feed) → IsRead told root uri f → IsClearFeed f
read_clear kept told root uri f h = by h.held h.means
  where
    none : IsClearFeed (no_feed uri)
    none = record { impls = tt; natives = tt }

    by : (held : Option (List ℕ)) → MatchOption held ((uri ≢ root) × (f ≡ no_feed uri)) (λ (bytes : List ℕ). (length bytes ≤ feed_limit) × Says uri bytes f) → IsClearFeed f
    by None k = subst IsClearFeed (sym k.1) none
    by (Some bytes) k = let says = k.1 in subst IsClearFeed (sym says.3) (feed_clear (element_view says.0) uri (root_carried says.0 (kept bytes says.0 says.1.1)))

-- The interfaces.

interfaces_clear : (at : Reading) (req : Requirement) (p : Policy) (st : Store) (groups : List Uris) (is : List Interface) → AllZip (IsInterface at req p st) groups is → Each (λ g. Each (λ y. IsClearFeed (at y)) g) groups
    → Each AreClearIn is
interfaces_clear at req p st [] [] z h = tt
interfaces_clear at req p st [] (i ∷ is) z h = absurd z
interfaces_clear at req p st (g ∷ groups) [] z h = absurd z
interfaces_clear at req p st (g ∷ groups) (i ∷ is) z h = (
  each_permuted IsClearCandidate (admitted req p st i.uri (map at g)) i.candidates z.0.candidates.same (admitted_clear req p st i.uri (map at g) (each_map IsClearFeed at g h.0)),
  interfaces_clear at req p st groups is z.1 h.1,
)

pub loaded_clear : IsKept → (told : Option Holding) (req : Requirement) (p : Policy) (st : Store) (u : List Interface) → Loads told req p st u → Each AreClearIn u
loaded_clear kept told req p st u l =
    let feeds = each_weak (λ g. Each (λ y. listed y (reached l.groups) ≡ true) g) (λ g. Each (λ y. IsClearFeed (l.at y)) g)
    (λ g h. each_weak (λ y. listed y (reached l.groups) ≡ true) (λ y. IsClearFeed (l.at y))
    (λ y k. read_clear kept told req.interface y (l.at y) (l.read y (listed-Contains y (reached l.groups) k))) g h) l.groups (each_reached l.groups) in
    interfaces_clear l.at req p st l.groups u l.universe.each feeds

-- one that is chosen
pub chosen_clear : (u : List Interface) (s : Choice) (j : ℕ) (k : Candidate) → Each AreClearIn u → chosen u s j ≡ Some k → IsClearImpl k.imp
chosen_clear u s j k h e =
    let c = chosen_from u s j k e in
    let x = interface_at u j c.0 k c.2 in
    each_at IsClearCandidate x.0.candidates c.0 k (each_at AreClearIn u j x.0 h x.1) x.2
