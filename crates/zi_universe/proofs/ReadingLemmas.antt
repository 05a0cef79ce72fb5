-- What the bytes at an address say of the feed there.
use Rattle.std.proofs.Common.{◌≡◌, ℕ, ◌≤◌, List, [], ◌++◌, length, Option, Some, None, refl, sym, ap, subst, ◌∙◌}
use Rattle.std.specs.Prelude.{◌≢◌, Result, Ok, Err, MatchResult}
use Rattle.zi_elements.specs.declared.element.Element.{Element}
use Rattle.zi_elements.specs.Forest.{element_view}
use Rattle.zi_policy.specs.declared.types.Policy.{Policy}
use Rattle.zi_feed.specs.declared.feed.Feed.{Feed}
use Rattle.zi_feed.specs.Feeds.{feed_of}
use Rattle.zi_outside.specs.Views.{Holding, Feeding, holding}
use Rattle.zi_outside.specs.Outside.{Gets}
use Rattle.zi_outside.specs.declared.feeds.Got.TheVariants.{Held}
use Rattle.zi_universe.specs.declared.fault.LoadFault.{LoadFault}
use Rattle.zi_universe.specs.declared.fault.LoadFault.TheVariants as fault
use Rattle.zi_universe.specs.Naming.{Uri}
use Rattle.zi_universe.specs.Whole.{feed_limit}
use Rattle.zi_universe.specs.Loading.{Says, IsHeld, no_feed}
use Rattle.zi_universe.specs.Stages.{RefusesBytes, RefusesFeed, SaysActive, Fetches}

pub place_of_feed : (uri : Uri) (t : Element) → (feed_of (element_view t) uri).uri ≡ uri
unfolding feed_of
place_of_feed uri t = refl

said_place : (uri : Uri) (bytes : List ℕ) (f : Feed) → Says uri bytes f → f.uri ≡ uri
said_place uri bytes f s = ap (λ (x : Feed). x.uri) s.3 ∙ place_of_feed uri s.0

module _ (told : Option Holding) (root : Uri) (p : Policy) (uri : Uri) where
  refused_bytes : (bytes : List ℕ) (e : LoadFault) → IsHeld told uri (Some bytes) → length bytes ≤ feed_limit → RefusesBytes uri bytes e → RefusesFeed told root uri e
  refused_bytes bytes (fault.FeedRead u) held few r = absurd r
  refused_bytes bytes fault.NoRootFeed held few r = absurd r
  refused_bytes bytes (fault.BadFeed u why) held few r = (r.0, (bytes, held, few, r.1))
  refused_bytes bytes (fault.FeedTooLong u limit) held few r = absurd r
  refused_bytes bytes (fault.TooManyInterfaces limit) held few r = absurd r
  refused_bytes bytes (fault.TooManyCandidates limit) held few r = absurd r
  refused_bytes bytes (fault.TooManyFeeds limit) held few r = absurd r
  refused_bytes bytes fault.Memory held few r = tt

  fetched_bytes : (bytes : List ℕ) (result : Result Feed LoadFault) → IsHeld told uri (Some bytes) → length bytes ≤ feed_limit
      → MatchResult result (SaysActive p uri bytes) (RefusesBytes uri bytes) → Fetches told root p uri result
  fetched_bytes bytes (Ok feed) held few r =
      (ap (λ (x : Feed). x.uri) r.2 ∙ said_place uri bytes r.0 r.1, (r.0, record { held = Some bytes; told_so = held; means = (few, r.1) }, r.2))
  fetched_bytes bytes (Err e) held few r = refused_bytes bytes e held few r

  -- nothing is held
  pub fetched_absent : (result : Result Feed LoadFault) → IsHeld told uri None
      → MatchResult result (λ feed. (uri ≢ root) × (feed ≡ no_feed uri)) (λ e. (uri ≡ root) × (e ≡ fault.NoRootFeed)) → Fetches told root p uri result
  fetched_absent (Ok feed) held r = (ap (λ (x : Feed). x.uri) r.1, (no_feed uri, record { held = None; told_so = held; means = (r.0, refl) }, r.1))
  fetched_absent (Err e) held r = let P : LoadFault → Type 0 = λ q. RefusesFeed told root uri q in subst P (sym r.1) (r.0, held)

-- bytes are held
pub fetched_held : (root : Uri) (p : Policy) (uri named : Uri) (before after : Feeding) (old new slice : List ℕ) (result : Result Feed LoadFault) → named ≡ uri → old ≡ [] → slice ≡ new
    → Gets before (record { key = uri; limit = feed_limit; buffer = old }) (Ok Held) new after
    → MatchResult result (SaysActive p named slice) (RefusesBytes named slice) → Fetches (holding before) root p uri result
fetched_held root p uri named before after old new slice result name none same gets r =
    let found = gets.0 in
    let bytes : slice ≡ found.0 = same ∙ found.1 ∙ ap (λ q. q ++ found.0) none in
    let P : List ℕ → Type 0 = λ q. MatchResult result (SaysActive p uri q) (RefusesBytes uri q) in
    let Q : Uri → Type 0 = λ q. MatchResult result (SaysActive p q slice) (RefusesBytes q slice) in
    fetched_bytes (holding before) root p uri found.0 result found.3 found.2 (subst P bytes (subst Q name r))
