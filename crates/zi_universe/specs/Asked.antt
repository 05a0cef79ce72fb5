-- What the parts of a loading ask for on the outside: addresses, and what is seen of the feeds before and after.
use Rattle.std.specs.Prelude.{◌≡◌, ◌⊎◌, ℕ, ◌<◌, false, if◌then◌else◌, List, [], ◌∷◌, ◌++◌, length, slice_get, Option, Some}
use Rattle.zi_policy.specs.declared.types.Policy.{Policy}
use Rattle.zi_policy.specs.Platform.{listed}
use Rattle.zi_feed.specs.declared.feed.Feed.{Feed}
use Rattle.zi_text.specs.Count.{Rose}
use Rattle.zi_outside.specs.Views.{Holding, Feeding}
use Rattle.zi_outside.specs.Outside.{Asks}
use Rattle.zi_universe.specs.declared.types.Requirement.{Requirement}
use Rattle.zi_universe.specs.declared.types.Candidate.{Candidate}
use Rattle.zi_universe.specs.declared.fault.LoadFault.{LoadFault}
use Rattle.zi_universe.specs.declared.fault.LoadFault.TheVariants as fault
use Rattle.zi_universe.specs.Naming.{Uri, Uris}
use Rattle.zi_universe.specs.Candidates.{Store}
use Rattle.zi_universe.specs.Whole.{most_feeds}
use Rattle.zi_universe.specs.Loading.{AreAsked, CountsFault, Refuses, asked_until}
use Rattle.zi_universe.specs.Tables.{addresses}
use Rattle.zi_universe.specs.Stages.{HasListed, StopsListing, Gathers, StopsGathering}
use Rattle.zi_universe.specs.Listing.{StopsNext}

-- an address, unless it is there
abbrev pub unless_there : Uri → Uris → Uris
unless_there uri there = if listed uri there then [] else uri ∷ []

-- A loading stops at one feed, for which it asked, unless there were too many before; where memory was refused, it asked or not.
-- The count rose exactly where the call failed.
abbrev pub StopsAt : Uri → Feeding → LoadFault → Feeding → Type 0
StopsAt uri old (fault.FeedRead u) new = Asks (uri ∷ []) old new × Rose old.faults new.faults
StopsAt uri old (fault.TooManyFeeds limit) new = new ≡ old
StopsAt uri old fault.Memory new = (new ≡ old) ⊎ AreAsked (uri ∷ []) old new
StopsAt uri old e new = AreAsked (uri ∷ []) old new

-- the address at which a loading stops; it isn't asked for where there were too many before
abbrev pub up_to : Uri → LoadFault → Uris
up_to uri (fault.TooManyFeeds limit) = []
up_to uri e = uri ∷ []

-- what was got grew from these to those: each one more was asked for, and no call failed
pub record GetsMore (got now : Uris) (old new : Feeding) : Type 0 where
  pub more : Uris
  pub grown : now ≡ got ++ more
  pub asked : AreAsked more old new

-- one thing where memory was refused, another at every other refusal
abbrev pub ByMemory : LoadFault → Type 0 → Type 0 → Type 0
ByMemory fault.Memory M P = M
ByMemory e M P = P

-- the member of a list at a place was asked for, and wasn't there before
pub record AsksNext (old new : Feeding) (place : ℕ) (here : Uris) (fs : List Feed) : Type 0 where
  pub uri : Uri
  pub turn : slice_get here place ≡ Some uri
  pub fresh : listed uri (addresses fs) ≡ false
  pub few : length fs < most_feeds
  pub asked : AreAsked (uri ∷ []) old new

-- memory was refused at that member: it was asked for, or nothing was
abbrev pub EndsNext : Feeding → Feeding → ℕ → Uris → List Feed → Type 0
EndsNext old new place here fs = (new ≡ old) ⊎ AsksNext old new place here fs

-- that member was asked for, and is refused
pub record RefusesAt (told : Option Holding) (root : Uri) (place : ℕ) (here : Uris) (fs : List Feed) (old : Feeding) (e : LoadFault) (new : Feeding) : Type 0 where
  pub stops : StopsNext told root place here fs e
  pub last : StopsAt stops.uri old e new

abbrev pub LeavesNext : Option Holding → Uri → ℕ → Uris → List Feed → Feeding → LoadFault → Feeding → Type 0
LeavesNext told root place here fs old e new = ByMemory e (EndsNext old new place here fs) (RefusesAt told root place here fs old e new)

-- the feeds of an interface were got up to one that is refused
pub record RefusesListing (told : Option Holding) (root : Uri) (p : Policy) (interface : Uri) (start : List Feed) (old : Feeding) (e : LoadFault) (new : Feeding) : Type 0 where
  pub stops : StopsListing told root p interface start e
  pub mid : Feeding
  pub got : GetsMore (addresses start) (addresses stops.fs) old mid
  pub last : StopsAt stops.uri mid e new

-- they were got up to one at which memory was refused
pub record EndsListing (told : Option Holding) (root : Uri) (p : Policy) (interface : Uri) (start : List Feed) (old new : Feeding) : Type 0 where
  pub here : Uris
  pub n : ℕ
  pub fs : List Feed
  pub listed_here : HasListed told root p interface start here n fs
  pub mid : Feeding
  pub got : GetsMore (addresses start) (addresses fs) old mid
  pub ends : EndsNext mid new n here fs

abbrev pub LeavesListing : Option Holding → Uri → Policy → Uri → List Feed → Feeding → LoadFault → Feeding → Type 0
LeavesListing told root p interface start old e new =
    ByMemory e (EndsListing told root p interface start old new) (RefusesListing told root p interface start old e new)

-- The feeds of an interface were found, and what they have for it is refused.
pub record LeavesGathering (told : Option Holding) (req : Requirement) (p : Policy) (stored : Store) (interface : Uri) (start : List Feed) (old : Feeding) (e : LoadFault) (new : Feeding) : Type 0 where
  pub offered : List Candidate
  pub fs : List Feed
  pub gathers : Gathers told req p stored interface start offered fs
  pub stops : StopsGathering offered e
  pub got : GetsMore (addresses start) (addresses fs) old new

-- The looking for an interface is refused at its feeds, or at what they have for it.
abbrev pub LeavesLooking : Option Holding → Requirement → Policy → Store → Uri → List Feed → Feeding → LoadFault → Feeding → Type 0
LeavesLooking told req p stored interface start old e new =
    LeavesListing told req.interface p interface start old e new ⊎ LeavesGathering told req p stored interface start old e new

-- the loading is refused, after it had got these: it asked for what was still to come until then
pub record StopsLoading (told : Option Holding) (req : Requirement) (p : Policy) (stored : Store) (got : Uris) (old : Feeding) (e : LoadFault) (new : Feeding) : Type 0 where
  pub cause : Refuses told req p stored e
  pub more : Uris
  pub grown : asked_until told req p stored e cause ≡ got ++ more
  pub asks : Asks more old new
  pub count : CountsFault e old.faults new.faults
