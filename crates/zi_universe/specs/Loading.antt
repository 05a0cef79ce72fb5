-- What a loading answers: the universe, or the first refusal in the order of loading.
use Rattle.std.specs.Prelude.{◌≡◌, ◌≢◌, ℕ, ◌+◌, ◌<◌, ◌≤◌, ◌⊎◌, false, List, [], ◌∷◌, ◌++◌, map, length, take, slice_get, Option, Some, None, IfSome, IsSomeAnd, MatchOption, Contains}
use Rattle.std.specs.List.{AllZip}
use Rattle.zi_policy.specs.declared.types.Policy.{Policy}
use Rattle.zi_policy.specs.Platform.{listed}
use Rattle.zi_digest.specs.declared.DigestName.{DigestName}
use Rattle.zi_digest.specs.Name.{spelling}
use Rattle.zi_elements.specs.declared.element.Element.{Element}
use Rattle.zi_elements.specs.Forest.{element_view}
use Rattle.zi_doc.specs.Documents as doc
use Rattle.zi_feed.specs.declared.feed.Feed.{Feed}
use Rattle.zi_packages.specs.declared.types.Packages.{Packages}
use Rattle.zi_feed.specs.Feeds.{feed_of, feed_fault}
use Rattle.zi_text.specs.Count.{Rose}
use Rattle.zi_outside.specs.Views.{Holding, Feeding, holding}
use Rattle.zi_outside.specs.Outside.{Asks}
use Rattle.zi_universe.specs.declared.types.Requirement.{Requirement}
use Rattle.zi_universe.specs.declared.types.Interface.{Interface}
use Rattle.zi_universe.specs.declared.types.Candidate.{Candidate}
use Rattle.zi_universe.specs.declared.fault.BadFeed.{BadFeed}
use Rattle.zi_universe.specs.declared.fault.BadFeed.TheVariants as bad
use Rattle.zi_universe.specs.declared.fault.LoadFault.{LoadFault}
use Rattle.zi_universe.specs.declared.fault.LoadFault.TheVariants as fault
use Rattle.zi_universe.specs.Naming.{Uri, Uris, in_set, joined, without_repeats, all_of, IsNamed, IsClosed}
use Rattle.zi_universe.specs.Candidates.{Store, imports_of, admitted, AreCandidates, asked_by, asked_by_all}
use Rattle.zi_universe.specs.Whole.{uris_of, candidates_in, most_feeds, most_candidates, most_interfaces, feed_limit}

-- the trees of these digests are stored, and these are the packages of the operating system
abbrev pub names_of : List DigestName → Packages → Store
names_of stored packages = record { trees = λ t. listed t (map spelling stored); packages = packages }

-- What stands at an address.

-- the document that the bytes spell is this feed of the address
abbrev pub Says : Uri → List ℕ → Feed → Type 0
Says uri bytes f = (t : Element) × doc.Spells bytes t × (feed_fault (element_view t) uri ≡ None) × (f ≡ feed_of (element_view t) uri)

-- the bytes are no document, or the document that they spell is no feed of the address
abbrev pub HasFault : Uri → List ℕ → BadFeed → Type 0
HasFault uri bytes (bad.Doc kind place) = doc.HasFault bytes kind place
HasFault uri bytes (bad.Feed kind place) =
    (t : Element) × doc.Spells bytes t × (feed_fault (element_view t) uri ≡ Some (record { kind = kind; place = place }))

-- what is held at an address, where it is told
abbrev pub IsHeld : Option Holding → Uri → Option (List ℕ) → Type 0
IsHeld told uri held = IfSome told (λ holds. holds uri ≡ held)

-- the feed of an address that is absent
abbrev pub no_feed : Uri → Feed
no_feed uri = record { uri = uri; imports = []; impls = []; natives = [] }

-- f is the feed at this address; that of the root is there
pub record IsRead (told : Option Holding) (root uri : Uri) (f : Feed) : Type 0 where
  pub held : Option (List ℕ)
  pub told_so : IsHeld told uri held
  pub means : MatchOption held ((uri ≢ root) × (f ≡ no_feed uri)) (λ bytes. (length bytes ≤ feed_limit) × Says uri bytes f)

-- the feed at each address
abbrev pub Reading : Type 0
Reading = Uri → Feed

abbrev pub AreRead : Option Holding → Uri → Reading → Uris → Type 0
AreRead told root at uris = (uri : Uri) → Contains uris uri → IsRead told root uri (at uri)

-- Interfaces over feeds.

-- the feeds of an interface: its own, and what these import, as long as more are named
abbrev pub AreFeedsOf : Reading → Policy → Uri → Uris → Type 0
AreFeedsOf at p interface feeds = IsClosed interface (λ uri. imports_of p (at uri)) feeds

-- i is the interface of its address over these feeds
pub record IsInterface (at : Reading) (req : Requirement) (p : Policy) (stored : Store) (feeds : Uris) (i : Interface) : Type 0 where
  pub closed : AreFeedsOf at p i.uri feeds
  pub candidates : AreCandidates req p stored i.uri (map at feeds) i.candidates

-- the feeds that some interfaces reach, each at its first place
abbrev pub reached : List Uris → Uris
reached groups = without_repeats (all_of groups)

-- The loading has come so far: these interfaces are done, over these groups of feeds; names are the root and all that they
-- ask for, and the first of the names are theirs. No limit is passed.
pub record HasCome (at : Reading) (req : Requirement) (p : Policy) (stored : Store) (done : List Interface) (groups : List Uris) (names : Uris) : Type 0 where
  pub named : IsNamed req.interface (map asked_by done) names
  pub in_turn : uris_of done ≡ take (length done) names
  pub each : AllZip (IsInterface at req p stored) groups done
  pub few_feeds : length (reached groups) ≤ most_feeds
  pub few_candidates : candidates_in done ≤ most_candidates
  pub few_interfaces : length names ≤ most_interfaces

-- all that are named are done
abbrev pub IsUniverse : Reading → Requirement → Policy → Store → List Uris → List Interface → Type 0
IsUniverse at req p stored groups is = HasCome at req p stored is groups (uris_of is)

-- The loading has come to this address without a refusal, and has got others so far, but not this one.
pub record ComesTo (told : Option Holding) (req : Requirement) (p : Policy) (stored : Store) (uri : Uri) (got : Uris) : Type 0 where
  pub at : Reading
  pub done : List Interface
  pub groups : List Uris
  pub names : Uris
  pub come : HasCome at req p stored done groups names
  -- the interface whose feeds are looked for
  pub interface : Uri
  pub next : slice_get names (length done) ≡ Some interface
  -- its feeds so far, the first n of which were looked at
  pub here : Uris
  pub n : ℕ
  pub listed_here : IsNamed interface (map (λ u. imports_of p (at u)) (take n here)) here
  pub turn : slice_get here n ≡ Some uri
  pub so_far : got ≡ reached (groups ++ take n here ∷ [])
  pub few : length got ≤ most_feeds
  pub new : listed uri got ≡ false
  pub read : AreRead told req.interface at got

-- The loading has got these without a refusal: the feeds of the interfaces that are done, and those of the next so far.
pub record HasGot (told : Option Holding) (req : Requirement) (p : Policy) (stored : Store) (got : Uris) : Type 0 where
  pub at : Reading
  pub done : List Interface
  pub groups : List Uris
  pub names : Uris
  pub come : HasCome at req p stored done groups names
  pub interface : Uri
  pub next : slice_get names (length done) ≡ Some interface
  pub here : Uris
  pub n : ℕ
  pub listed_here : IsNamed interface (map (λ u. imports_of p (at u)) (take n here)) here
  pub so_far : got ≡ reached (groups ++ take n here ∷ [])
  pub few : length got ≤ most_feeds
  pub read : AreRead told req.interface at got

-- It has come to this address, and may still get one more.
pub record ComesToGet (told : Option Holding) (req : Requirement) (p : Policy) (stored : Store) (uri : Uri) : Type 0 where
  pub got : Uris
  pub comes : ComesTo told req p stored uri got
  pub few : length got < most_feeds

-- these were asked for: those that it has got, and then the one to which it has come
pub record AsksOneMore (told : Option Holding) (req : Requirement) (p : Policy) (stored : Store) (uris : Uris) : Type 0 where
  pub uri : Uri
  pub come : ComesToGet told req p stored uri
  pub are : uris ≡ come.got ++ uri ∷ []

-- The loading asks for these first, in this order: it has got them, or it has got all but the last, to which it has come.
abbrev pub AreFirst : Option Holding → Requirement → Policy → Store → Uris → Type 0
AreFirst told req p stored uris = HasGot told req p stored uris ⊎ AsksOneMore told req p stored uris

-- The loading has found the feeds of the interface behind those that are done, without a refusal before.
pub record Finds (told : Option Holding) (req : Requirement) (p : Policy) (stored : Store) (done : List Interface) (names : Uris) (interface : Uri) (feeds : List Feed) : Type 0 where
  pub at : Reading
  pub groups : List Uris
  pub come : HasCome at req p stored done groups names
  pub next : slice_get names (length done) ≡ Some interface
  pub here : Uris
  pub closed : AreFeedsOf at p interface here
  pub are : feeds ≡ map at here
  pub few : length (reached (groups ++ here ∷ [])) ≤ most_feeds
  pub read : AreRead told req.interface at (reached (groups ++ here ∷ []))

-- The refusals, over what is held.

-- nothing is held at the root
pub record LacksRoot (told : Option Holding) (req : Requirement) (p : Policy) (stored : Store) : Type 0 where
  pub come : ComesToGet told req p stored req.interface
  pub absent : IsHeld told req.interface None

-- what is held at this address is within the limit, and is no feed
pub record HasBadFeed (told : Option Holding) (req : Requirement) (p : Policy) (stored : Store) (uri : Uri) (why : BadFeed) : Type 0 where
  pub come : ComesToGet told req p stored uri
  pub bytes : List ℕ
  pub held : IsHeld told uri (Some bytes)
  pub fits : length bytes ≤ feed_limit
  pub faulty : HasFault uri bytes why

-- what is held at this address is longer than the limit
pub record HasLongFeed (told : Option Holding) (req : Requirement) (p : Policy) (stored : Store) (uri : Uri) (limit : ℕ) : Type 0 where
  pub come : ComesToGet told req p stored uri
  pub is_limit : limit ≡ feed_limit
  pub long : IfSome told (λ holds. IsSomeAnd (holds uri) (λ bytes. feed_limit < length bytes))

-- With the candidates of the next interface more interfaces are named than the limit.
pub record NamesTooMany (told : Option Holding) (req : Requirement) (p : Policy) (stored : Store) (limit : ℕ) : Type 0 where
  pub is_limit : limit ≡ most_interfaces
  pub done : List Interface
  pub names : Uris
  pub interface : Uri
  pub feeds : List Feed
  pub finds : Finds told req p stored done names interface feeds
  pub candidates : List Candidate
  pub are : AreCandidates req p stored interface feeds candidates
  pub few_candidates : candidates_in done + length candidates ≤ most_candidates
  pub many : most_interfaces < length (joined names (asked_by_all candidates))

-- With those of the next interface there are more candidates than the limit.
pub record OffersTooMany (told : Option Holding) (req : Requirement) (p : Policy) (stored : Store) (limit : ℕ) : Type 0 where
  pub is_limit : limit ≡ most_candidates
  pub done : List Interface
  pub names : Uris
  pub interface : Uri
  pub feeds : List Feed
  pub finds : Finds told req p stored done names interface feeds
  pub many : most_candidates < candidates_in done + length (admitted req p stored interface feeds)

-- It has come to one more feed, and has got as many as the limit.
pub record ReachesTooMany (told : Option Holding) (req : Requirement) (p : Policy) (stored : Store) (limit : ℕ) : Type 0 where
  pub is_limit : limit ≡ most_feeds
  pub uri : Uri
  pub got : Uris
  pub comes : ComesTo told req p stored uri got
  pub full : length got ≡ most_feeds

-- memory was refused behind these
pub record EndsBehind (told : Option Holding) (req : Requirement) (p : Policy) (stored : Store) : Type 0 where
  pub uris : Uris
  pub first : AreFirst told req p stored uris

-- What each refusal takes. Want of memory may come wherever the loading is.
abbrev pub Refuses : Option Holding → Requirement → Policy → Store → LoadFault → Type 0
Refuses told req p stored (fault.FeedRead uri) = ComesToGet told req p stored uri
Refuses told req p stored fault.NoRootFeed = LacksRoot told req p stored
Refuses told req p stored (fault.BadFeed uri why) = HasBadFeed told req p stored uri why
Refuses told req p stored (fault.FeedTooLong uri limit) = HasLongFeed told req p stored uri limit
Refuses told req p stored (fault.TooManyInterfaces limit) = NamesTooMany told req p stored limit
Refuses told req p stored (fault.TooManyCandidates limit) = OffersTooMany told req p stored limit
Refuses told req p stored (fault.TooManyFeeds limit) = ReachesTooMany told req p stored limit
Refuses told req p stored fault.Memory = EndsBehind told req p stored

-- these are all the interfaces, over the feeds that they reach
pub record Loads (told : Option Holding) (req : Requirement) (p : Policy) (stored : Store) (is : List Interface) : Type 0 where
  pub at : Reading
  pub groups : List Uris
  pub universe : IsUniverse at req p stored groups is
  pub read : AreRead told req.interface at (reached groups)

-- What a loading asks for on the outside.

-- a loading's task: a requirement, under a policy, beside what the machine has
pub record Task : Type 0 where
  pub req : Requirement
  pub policy : Policy
  pub stored : Store

-- a task whose store is given by the names of its trees
pub record Wish : Type 0 where
  pub req : Requirement
  pub policy : Policy
  pub stored : Uris
  pub packages : Packages

abbrev pub store_of : Wish → Store
store_of w = record { trees = in_set w.stored; packages = w.packages }

abbrev pub task_of : Wish → Task
task_of w = record { req = w.req; policy = w.policy; stored = store_of w }

-- these addresses were asked for, in their order, and no call failed
pub record AreAsked (uris : Uris) (old new : Feeding) : Type 0 where
  pub asks : Asks uris old new
  pub faults : new.faults ≡ old.faults

-- the universe of a task was loaded: the feeds that it reaches were asked for, each once, in their order, and no call failed
pub record LoadsAsking (task : Task) (old : Feeding) (is : List Interface) (new : Feeding) : Type 0 where
  pub loads : Loads (holding old) task.req task.policy task.stored is
  pub asked : AreAsked (reached loads.groups) old new

-- what a refused loading asks for: the feeds that it had got, and behind them the one at which it stopped
abbrev pub asked_until : (told : Option Holding) (req : Requirement) (p : Policy) (stored : Store) (e : LoadFault) → Refuses told req p stored e → Uris
asked_until told req p stored (fault.FeedRead uri) r = r.got ++ uri ∷ []
asked_until told req p stored fault.NoRootFeed r = r.come.got ++ req.interface ∷ []
asked_until told req p stored (fault.BadFeed uri why) r = r.come.got ++ uri ∷ []
asked_until told req p stored (fault.FeedTooLong uri limit) r = r.come.got ++ uri ∷ []
asked_until told req p stored (fault.TooManyInterfaces limit) r = reached (r.finds.groups ++ r.finds.here ∷ [])
asked_until told req p stored (fault.TooManyCandidates limit) r = reached (r.finds.groups ++ r.finds.here ∷ [])
asked_until told req p stored (fault.TooManyFeeds limit) r = r.got
asked_until told req p stored fault.Memory r = r.uris

-- the count rises exactly where a call failed
abbrev pub CountsFault : LoadFault → ℕ → ℕ → Type 0
CountsFault (fault.FeedRead uri) before after = Rose before after
CountsFault e before after = after ≡ before

-- the loading of a task was refused: the feeds up to the one at which it stopped were asked for, each once, in their order
pub record RefusesAsking (task : Task) (old : Feeding) (e : LoadFault) (new : Feeding) : Type 0 where
  pub cause : Refuses (holding old) task.req task.policy task.stored e
  pub asks : Asks (asked_until (holding old) task.req task.policy task.stored e cause) old new
  pub count : CountsFault e old.faults new.faults
