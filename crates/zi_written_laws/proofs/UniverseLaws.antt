-- What is loaded can be carried, where the address of the root can be: each interface's address is the root's or one that a feed says.
use Rattle.std.specs.Prelude.{◌≢◌, if◌then◌else◌, MatchOption}
use Rattle.std.proofs.Common.{◌≡◌, ℕ, zero, suc, ◌+◌, ◌<◌, ◌≤◌, Bool, true, false, List, [], ◌∷◌, ◌++◌, length, take, map, get_or, Option, Some, None, refl, sym, ap, ◌∙◌, subst, add-one, arith}
use Rattle.std.specs.List.{AllZip, flat_map, filter}
use Rattle.std.proofs.lemmas.List.{take_all, take_more, length-map}
use Rattle.zi_policy.specs.declared.types.Policy.{Policy}
use Rattle.zi_policy.specs.Platform.{listed, is_active}
use Rattle.zi_outside.specs.Views.{Holding}
use Rattle.zi_elements.specs.Forest.{element_view, whole}
use Rattle.zi_parts.specs.declared.types.Dep.{Dep}
use Rattle.zi_parts.specs.declared.types.Runner.{Runner}
use Rattle.zi_parts.specs.declared.types.Command.{Command}
use Rattle.zi_parts.specs.declared.types.Impl.{Impl}
use Rattle.zi_parts.specs.declared.types.Import.{Import}
use Rattle.zi_feed.specs.declared.feed.Feed.{Feed}
use Rattle.zi_reading.specs.Words.{optional}
use Rattle.zi_universe.specs.declared.types.Requirement.{Requirement}
use Rattle.zi_universe.specs.declared.types.Candidate.{Candidate}
use Rattle.zi_universe.specs.declared.types.Interface.{Interface}
use Rattle.zi_universe.specs.Naming.{Uri, Uris, with_one, joined, without_repeats, all_of, IsNamed}
use Rattle.zi_feed.specs.Active.{active_command, active_part}
use Rattle.zi_universe.specs.Candidates.{Store, all_impls, is_followed, imports_of, standing_of, offered_from, offered_by, is_admitted, admitted_by, admitted, asks, asked, asked_by_runner, asked_by_command, asked_by_impl, asked_by}
use Rattle.zi_universe.specs.Whole.{uris_of, feed_limit}
use Rattle.zi_universe.specs.Loading.{Reading, Says, no_feed, IsRead, IsInterface, reached, Loads}
use Rattle.zi_universe.proofs.NamingLemmas.{all_of-append, joined-append, at_stage, listed-Contains}
use Rattle.zi_doc_laws.specs.Trees.{IsCarried, HasCarriedTexts}
use Rattle.zi_xml.specs.Documents.{Spells}
use Rattle.zi_elements.specs.declared.element.Element.{Element}
use Rattle.zi_sels_laws.proofs.LikeLaws.{Each, each_append}
use Rattle.zi_sels_laws.proofs.FreeLaws.{each_weak, each_map, each_flat, sub_filter}
use Rattle.zi_sels_laws.proofs.EachLaws.{each_permuted}
use Rattle.zi_written_laws.proofs.ElemLaws.{root_carried}
use Rattle.zi_written_laws.proofs.PartLaws.{IsCarriedDep, IsCarriedRunner, IsCarriedCommand}
use Rattle.zi_written_laws.proofs.ImplLaws.{IsCarriedImpl, IsCarriedFeed, feed_carried}
use Rattle.zi_sels_laws.specs.Rows.{HasRightRows}
use Rattle.zi_written_laws.proofs.RowLaws.{rows_carried}
use Rattle.zi_sels_laws.proofs.LoadedLaws.{each_reached}

-- What is so of the first of a list that grows by what its members name, and of all that a member names of which it is so, is so of all.

each_joined : (P : Uri → Type 0) (xs ys : Uris) → Each P xs → Each P ys → Each P (joined xs ys)
each_joined P xs [] h k = h
each_joined P xs (y ∷ ys) h k = each_joined P (with_one xs y) ys (either (listed y xs)) k.1
  where
    either : (b : Bool) → Each P (if b then xs else xs ++ y ∷ [])
    either true = h
    either false = each_append P xs (y ∷ []) h (k.0, tt)

each_get : {X : Type 0} (P : X → Type 0) (xs : List X) (k : ℕ) (d : X) → Each P xs → k < length xs → P (get_or xs k d)
each_get P [] k d h lt = absurd (omega arith)
each_get P (x ∷ xs) zero d h lt = h.0
each_get P (x ∷ xs) (suc k) d h lt = each_get P xs k d h.1 (omega arith)

abbrev stage : Uri → List Uris → ℕ → Uris
stage first named n = without_repeats (first ∷ all_of (take n named))

next_stage : (first : Uri) (named : List Uris) (n : ℕ) → n < length named → stage first named (suc n) ≡ joined (stage first named n) (get_or named n [])
next_stage first named n lt =
    let ys : Uris = get_or named n [] in
    let more : take (suc n) named ≡ take n named ++ ys ∷ [] = ap (λ (m : ℕ). take m named) (sym (add-one n)) ∙ take_more named n [] lt in
    ap (λ v. joined (first ∷ []) (all_of v)) more
    ∙ (ap (λ v. joined (first ∷ []) v) (all_of-append (take n named) ys) ∙ joined-append (first ∷ []) (all_of (take n named)) ys)

module _ (P : Uri → Type 0) (first : Uri) (named : List Uris) (xs : Uris) (are : IsNamed first named xs) (start : P first)
    (next : (k : ℕ) → k < length named → P (get_or xs k first) → Each P (get_or named k [])) where
  staged : (n : ℕ) → n ≤ length named → Each P (stage first named n)
  staged zero h = (start, tt)
  staged (suc n) h =
      let so_far : Each P (stage first named n) = staged n (omega arith) in
      let lt : n < length named = omega arith in
      let here : P (get_or xs n first) = subst P (sym (at_stage first named xs n first are lt)) (each_get P (stage first named n) n first so_far (are.in_turn n lt)) in
      let Q : Uris → Type 0 = λ v. Each P v in
      subst Q (sym (next_stage first named n lt)) (each_joined P (stage first named n) (get_or named n []) so_far (next n lt here))

  named_all : Each P xs
  named_all =
      let Q : Uris → Type 0 = λ v. Each P v in
      subst Q (ap (λ v. without_repeats (first ∷ all_of v)) (take_all (length named) named (omega arith)) ∙ sym are.are) (staged (length named) (omega arith))

-- What is asked for.

asked_carried : (ds : List Dep) → Each IsCarriedDep ds → Each IsCarried (asked ds)
asked_carried ds h =
    each_map IsCarried (λ (d : Dep). d.interface) (filter asks ds) (each_weak IsCarriedDep (λ (d : Dep). IsCarried d.interface) (λ d k. k.interface) (filter asks ds) (sub_filter IsCarriedDep asks ds h))

runner_asked : (o : Option Runner) → Each IsCarriedRunner (optional o) → Each IsCarried (asked_by_runner o)
runner_asked None h = tt
runner_asked (Some r) h = (h.0.dep.interface, tt)

command_asked : (c : Command) → IsCarriedCommand c → Each IsCarried (asked_by_command c)
unfolding asked_by_command
command_asked c h = each_append IsCarried (asked c.deps) (asked_by_runner c.runner) (asked_carried c.deps h.deps) (runner_asked c.runner h.runner)

impl_asked : (i : Impl) → IsCarriedImpl i → Each IsCarried (asked_by_impl i)
unfolding asked_by_impl
impl_asked i h =
    each_append IsCarried (asked i.deps) (flat_map asked_by_command i.commands) (asked_carried i.deps h.deps) (each_flat IsCarried asked_by_command IsCarriedCommand command_asked i.commands h.commands)

-- Candidates.

command_active : (p : Policy) (c : Command) → IsCarriedCommand c → IsCarriedCommand (active_command p c)
command_active p c h = record {
  name = h.name;
  path = h.path;
  words = h.words;
  runner = h.runner;
  deps = sub_filter IsCarriedDep (λ (d : Dep). is_active p d.condition) c.deps h.deps;
  bindings = h.bindings;
}

impl_active : (p : Policy) (i : Impl) → IsCarriedImpl i → IsCarriedImpl (active_part p i)
unfolding active_part
impl_active p i h = record {
  id = h.id;
  version = h.version;
  arch = h.arch;
  released = h.released;
  named = h.named;
  local = h.local;
  deps = sub_filter IsCarriedDep (λ (d : Dep). is_active p d.condition) i.deps h.deps;
  commands = each_map IsCarriedCommand (active_command p) i.commands (each_weak IsCarriedCommand (λ c. IsCarriedCommand (active_command p c)) (command_active p) i.commands h.commands);
  bindings = h.bindings;
}

pub record IsCarriedCandidate (c : Candidate) : Type 0 where
  pub feed : IsCarried c.standing.feed
  pub imp : IsCarriedImpl c.imp

offered_carried : (p : Policy) (st : Store) (interface feed : Uri) (n : ℕ) (is : List Impl) → IsCarried feed → Each IsCarriedImpl is → Each IsCarriedCandidate (offered_from p st interface feed n is)
unfolding standing_of
offered_carried p st interface feed n [] u h = tt
offered_carried p st interface feed n (i ∷ is) u h = (record { feed = u; imp = impl_active p i h.0 }, offered_carried p st interface feed (n + 1) is u h.1)

admitted_carried : (req : Requirement) (p : Policy) (st : Store) (interface : Uri) (fs : List Feed) → HasRightRows st.packages → Each IsCarriedFeed fs → Each IsCarriedCandidate (admitted req p st interface fs)
admitted_carried req p st interface fs right h =
    each_flat IsCarriedCandidate (admitted_by req p st interface) IsCarriedFeed
    (λ f k. sub_filter IsCarriedCandidate (is_admitted req p interface) (offered_by p st interface f) (offered_carried p st interface f.uri 0 (all_impls st.packages f) k.uri (rows_carried st.packages f.impls f.natives right k.impls k.natives))) fs h

candidates_asked : (cs : List Candidate) → Each IsCarriedCandidate cs → Each IsCarried (flat_map (λ (c : Candidate). asked_by_impl c.imp) cs)
candidates_asked cs h = each_flat IsCarried (λ (c : Candidate). asked_by_impl c.imp) IsCarriedCandidate (λ c k. impl_asked c.imp k.imp) cs h

-- Feeds that were read.

-- what every document keeps
abbrev pub IsKept : Type 0
IsKept = (w : List ℕ) (t : Element) → Spells w t → HasCarriedTexts (whole t)

read_carried : IsKept → (told : Option Holding) (root uri : Uri) (f : Feed) → IsRead told root uri f → IsCarried uri → IsCarriedFeed f
read_carried kept told root uri f h u = by h.held h.means
  where
    none : IsCarriedFeed (no_feed uri)
    none = record { uri = u; imports = tt; impls = tt; natives = tt }

    by : (held : Option (List ℕ)) → MatchOption held ((uri ≢ root) × (f ≡ no_feed uri)) (λ (bytes : List ℕ). (length bytes ≤ feed_limit) × Says uri bytes f) → IsCarriedFeed f
    by None k = subst IsCarriedFeed (sym k.1) none
    by (Some bytes) k = let says = k.1 in subst IsCarriedFeed (sym says.3) (feed_carried (element_view says.0) uri u (root_carried says.0 (kept bytes says.0 says.1.1)))

imports_carried : (p : Policy) (f : Feed) → IsCarriedFeed f → Each IsCarried (imports_of p f)
imports_carried p f h =
    each_map IsCarried (λ (m : Import). m.uri) (filter (is_followed p) f.imports) (sub_filter (λ (m : Import). IsCarried m.uri) (is_followed p) f.imports h.imports)

-- The interfaces.

abbrev pub AreCarriedIn : Interface → Type 0
AreCarriedIn i = Each IsCarriedCandidate i.candidates

mapped_get : (f : Uri → Uris) (xs : Uris) (k : ℕ) (d : Uri) → k < length xs → get_or (map f xs) k [] ≡ f (get_or xs k d)
mapped_get f [] k d lt = absurd (omega arith)
mapped_get f (x ∷ xs) zero d lt = refl
mapped_get f (x ∷ xs) (suc k) d lt = mapped_get f xs k d (omega arith)

module _ (kept : IsKept) (told : Option Holding) (req : Requirement) (p : Policy) (st : Store) (right : HasRightRows st.packages) (at : Reading) where
  -- the feed at this address was read
  abbrev IsReadAt : Uri → Type 0
  IsReadAt y = IsRead told req.interface y (at y)

  feeds_carried : (first : Uri) (feeds : Uris) → IsCarried first → IsNamed first (map (λ y. imports_of p (at y)) feeds) feeds → Each IsReadAt feeds → Each IsCarried feeds
  feeds_carried first feeds u closed read =
      let f : Uri → Uris = λ y. imports_of p (at y) in
      named_all IsCarried first (map f feeds) feeds closed u
      (λ k lt here.
      let within : k < length feeds = omega (arith, lt, length-map feeds f) in
      let Q : Uris → Type 0 = λ v. Each IsCarried v in
      let y : Uri = get_or feeds k first in
      subst Q (sym (mapped_get f feeds k first within)) (imports_carried p (at y) (read_carried kept told req.interface y (at y) (each_get IsReadAt feeds k first read within) here)))

  all_read : (feeds : Uris) → Each IsReadAt feeds → Each IsCarried feeds → Each IsCarriedFeed (map at feeds)
  all_read [] h k = tt
  all_read (y ∷ feeds) h k = (read_carried kept told req.interface y (at y) h.0 k.0, all_read feeds h.1 k.1)

  interface_carried : (feeds : Uris) (i : Interface) → IsInterface at req p st feeds i → Each IsReadAt feeds → IsCarried i.uri → AreCarriedIn i
  interface_carried feeds i h read u =
      each_permuted IsCarriedCandidate (admitted req p st i.uri (map at feeds)) i.candidates h.candidates.same
      (admitted_carried req p st i.uri (map at feeds) right (all_read feeds read (feeds_carried i.uri feeds u h.closed read)))

  -- each interface can be carried as far as its address can be
  abbrev Carries : Interface → Type 0
  Carries i = IsCarried i.uri → AreCarriedIn i

  interfaces_carry : (groups : List Uris) (is : List Interface) → AllZip (IsInterface at req p st) groups is → Each (λ g. Each IsReadAt g) groups → Each Carries is
  interfaces_carry [] [] z h = tt
  interfaces_carry [] (i ∷ is) z h = absurd z
  interfaces_carry (g ∷ groups) [] z h = absurd z
  interfaces_carry (g ∷ groups) (i ∷ is) z h = (interface_carried g i z.0 h.0, interfaces_carry groups is z.1 h.1)

carried_asks : (is : List Interface) (k : ℕ) (d : Uri) → Each (λ (i : Interface). IsCarried i.uri → AreCarriedIn i) is → k < length is → IsCarried (get_or (uris_of is) k d) → Each IsCarried (get_or (map asked_by is) k [])
carried_asks [] k d h lt u = absurd (omega arith)
carried_asks (i ∷ is) zero d h lt u = candidates_asked i.candidates (h.0 u)
carried_asks (i ∷ is) (suc k) d h lt u = carried_asks is k d h.1 (omega arith) u

-- an interface's address and its candidates
pub record IsCarriedInterface (i : Interface) : Type 0 where
  pub uri : IsCarried i.uri
  pub candidates : AreCarriedIn i

both_carried : (is : List Interface) → Each (λ (i : Interface). IsCarried i.uri → AreCarriedIn i) is → Each IsCarried (uris_of is) → Each IsCarriedInterface is
both_carried [] h k = tt
both_carried (i ∷ is) h k = (record { uri = k.0; candidates = h.0 k.0 }, both_carried is h.1 k.1)

pub loaded_carried : IsKept → (told : Option Holding) (req : Requirement) (p : Policy) (st : Store) (u : List Interface) → IsCarried req.interface → HasRightRows st.packages → Loads told req p st u
    → Each IsCarriedInterface u
loaded_carried kept told req p st u root right l =
    let feeds = each_weak (λ g. Each (λ y. listed y (reached l.groups) ≡ true) g) (λ g. Each (λ y. IsRead told req.interface y (l.at y)) g)
    (λ g h. each_weak (λ y. listed y (reached l.groups) ≡ true) (λ y. IsRead told req.interface y (l.at y)) (λ y k. l.read y (listed-Contains y (reached l.groups) k)) g h) l.groups (each_reached l.groups) in
    let carry = interfaces_carry kept told req p st right l.at l.groups u l.universe.each feeds in
    let all : Each IsCarried (uris_of u) = named_all IsCarried req.interface (map asked_by u) (uris_of u) l.universe.named root
    (λ k lt here. carried_asks u k req.interface carry (omega (arith, lt, length-map u asked_by)) here) in
    both_carried u carry all
