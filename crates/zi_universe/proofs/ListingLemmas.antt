-- The feeds of an interface, one after the other.
use Rattle.std.proofs.Common.{Option, Some, slice_get, ◌≡◌, ℕ, zero, suc, ◌+◌, ◌<◌, ◌≤◌, true, false, List, [], ◌∷◌, ◌++◌, length, map, take, get_or, refl, sym, ap, subst, ◌∙◌, arith, append_assoc, length-append, if◌then◌else◌}
use Rattle.std.proofs.lemmas.List.{append-nil, take_all}
use Rattle.std.proofs.lemmas.Option.{slice_get_within, get_or_from_slice_get}
use Rattle.std.proofs.lemmas.List.Elements.{All-append}
use Rattle.zi_policy.specs.declared.types.Policy.{Policy}
use Rattle.zi_policy.specs.Platform.{listed}
use Rattle.zi_feed.specs.declared.feed.Feed.{Feed}
use Rattle.zi_feed.specs.Active.{active_feed}
use Rattle.zi_outside.specs.Views.{Holding}
use Rattle.zi_universe.specs.Naming.{Uri, Uris, with_one, joined, IsNamed}
use Rattle.zi_universe.specs.Candidates.{imports_of}
use Rattle.zi_universe.specs.Whole.{most_feeds}
use Rattle.zi_universe.specs.Loading.{Reading}
use Rattle.zi_universe.specs.Tables.{addresses, imports_at, IsActiveOf, Agrees, AllRead}
use Rattle.zi_universe.specs.declared.fault.LoadFault.{LoadFault}
use Rattle.zi_universe.specs.declared.fault.LoadFault.TheVariants as fault
use Rattle.zi_universe.specs.Stages.{RefusesFeed, RefusesNext, GetsOnce, HasListed}
use Rattle.zi_universe.specs.Listing.{ListsNext}
use Rattle.zi_universe.proofs.NamingLemmas.{joined-append, named_begins, member_names, map-append, listed-with_one, take_joined}
use Rattle.zi_universe.proofs.TableLemmas.{All-front, imports_agreed}

none_read : (told : Option Holding) (root : Uri) (p : Policy) → AllRead told root p []
none_read told root p k d lt = absurd (omega (arith, lt))

-- One feed.

-- it was there
pub gets_none : (told : Option Holding) (root : Uri) (p : Policy) (uri : Uri) (fs : List Feed) → listed uri (addresses fs) ≡ true → GetsOnce told root p uri fs fs
gets_none told root p uri fs l = record {
  more = [];
  grown = sym (append-nil fs);
  places = sym (ap (λ b. if b then addresses fs else addresses fs ++ uri ∷ []) l);
  read = none_read told root p;
  few = λ h. h;
}

-- it is new
pub gets_one : (told : Option Holding) (root : Uri) (p : Policy) (uri : Uri) (fs gs : List Feed) (f : Feed) → listed uri (addresses fs) ≡ false → length fs < most_feeds
    → f.uri ≡ uri → IsActiveOf told root p uri f → gs ≡ fs ++ f ∷ [] → GetsOnce told root p uri fs gs
gets_one told root p uri fs gs f new room place read grown = record {
  more = f ∷ [];
  grown = grown;
  places = ap addresses grown ∙ map-append (λ (g : Feed). g.uri) fs (f ∷ []) ∙ ap (λ u. addresses fs ++ u ∷ []) place
      ∙ sym (ap (λ b. if b then addresses fs else addresses fs ++ uri ∷ []) new);
  read = λ k d lt. (let P : Uri → Type 0 = λ u. IsActiveOf told root p u f in one k d lt (subst P (sym place) read));
  few = λ h. (let e : length gs ≡ length fs + 1 = ap length grown ∙ length-append fs (f ∷ []) in omega (arith, e, room));
}
  where
    one : (k : ℕ) (d : Feed) → k < 1 → IsActiveOf told root p f.uri f → IsActiveOf told root p (get_or (f ∷ []) k d).uri (get_or (f ∷ []) k d)
    one zero d lt h = h
    one (suc k) d lt h = absurd (omega (arith, lt))

-- it may be got, and is refused
pub refused_next : (told : Option Holding) (root uri : Uri) (got : ℕ) (e : LoadFault) → got < most_feeds → RefusesFeed told root uri e → RefusesNext told root got uri e
refused_next told root uri got (fault.FeedRead u) few r = (few, r)
refused_next told root uri got fault.NoRootFeed few r = (few, r)
refused_next told root uri got (fault.BadFeed u why) few r = (few, r)
refused_next told root uri got (fault.FeedTooLong u limit) few r = (few, r)
refused_next told root uri got (fault.TooManyInterfaces limit) few r = (few, r)
refused_next told root uri got (fault.TooManyCandidates limit) few r = (few, r)
refused_next told root uri got (fault.TooManyFeeds limit) few r = absurd r
refused_next told root uri got fault.Memory few r = (few, r)

-- The list.

-- what is at a place of a list is within it
turn_at : (here : Uris) (n : ℕ) (uri : Uri) → slice_get here n ≡ Some uri → (n < length here) × (get_or here n uri ≡ uri)
turn_at here n uri e = (slice_get_within here n uri e, get_or_from_slice_get here n uri uri e)

pub listed_begins : (told : Option Holding) (root : Uri) (p : Policy) (interface : Uri) (start : List Feed) → length start ≤ most_feeds
    → HasListed told root p interface start (interface ∷ []) 0 start
listed_begins told root p interface start few = record {
  named = λ at a. named_begins interface;
  more = [];
  grown = sym (append-nil start);
  places = refl;
  read = none_read told root p;
  few = few;
}

module _ (told : Option Holding) (root : Uri) (p : Policy) (interface : Uri) (start : List Feed) where
  -- what was listed was read where the start was, and what agrees with it agrees with the start
  pub listed_read : (here : Uris) (n : ℕ) (fs : List Feed) → HasListed told root p interface start here n fs → AllRead told root p start → AllRead told root p fs
  listed_read here n fs h before =
      let P : List Feed → Type 0 = λ gs. AllRead told root p gs in
      subst P (sym h.grown) (All-append (λ f. IsActiveOf told root p f.uri f) start h.more before h.read)

  pub listed_agrees : (here : Uris) (n : ℕ) (fs : List Feed) → HasListed told root p interface start here n fs → (at : Reading) → Agrees p at fs → Agrees p at start
  listed_agrees here n fs h at a = All-front (λ f. active_feed p (at f.uri) ≡ f) start h.more (subst (Agrees p at) h.grown a)

  pub listed_more : (here there : Uris) (n : ℕ) (uri : Uri) (fs gs : List Feed) → HasListed told root p interface start here n fs
      → n < length here → get_or here n uri ≡ uri → GetsOnce told root p uri fs gs → there ≡ joined here (imports_at p gs uri)
      → HasListed told root p interface start there (n + 1) gs
  listed_more here there n uri fs gs h lt e gets keys = record {
    named = λ at a. names at a;
    more = h.more ++ gets.more;
    grown = gets.grown ∙ ap (λ q. q ++ gets.more) h.grown ∙ append_assoc start h.more gets.more;
    places = gets.places ∙ ap (λ q. with_one q uri) h.places ∙ sym (joined-append (addresses start) (take n here) (uri ∷ []))
        ∙ ap (joined (addresses start)) (sym (ap (take (n + 1)) keys ∙ take_joined here (imports_at p gs uri) n uri lt e));
    read = All-append (λ f. IsActiveOf told root p f.uri f) h.more gets.more h.read gets.read;
    few = gets.few h.few;
  }
    where
      names : (at : Reading) → Agrees p at gs → IsNamed interface (map (λ u. imports_of p (at u)) (take (n + 1) there)) there
      names at a =
          let next : Uri → Uris = λ u. imports_of p (at u) in
          let front : Agrees p at fs = All-front (λ f. active_feed p (at f.uri) ≡ f) fs gets.more (subst (Agrees p at) gets.grown a) in
          let there_now : listed uri (addresses gs) ≡ true = ap (listed uri) gets.places ∙ listed-with_one uri (addresses fs) in
          let same : there ≡ joined here (next uri) = keys ∙ ap (joined here) (imports_agreed p at gs uri there_now a) in
          let P : Uris → Type 0 = λ q. IsNamed interface (map next (take (n + 1) q)) q in
          subst P (sym same) (member_names interface next here n uri lt e (h.named at front))

  pub listed_ends : (here : Uris) (n : ℕ) (fs : List Feed) → length here ≤ n → HasListed told root p interface start here n fs
      → HasListed told root p interface start here (length here) fs
  listed_ends here n fs le h =
      let same : take n here ≡ take (length here) here = take_all n here le ∙ sym (take_all (length here) here (omega arith)) in
      record {
        named = λ at a. (let P : Uris → Type 0 = λ q. IsNamed interface (map (λ u. imports_of p (at u)) q) here in subst P same (h.named at a));
        more = h.more;
        grown = h.grown;
        places = h.places ∙ ap (joined (addresses start)) same;
        read = h.read;
        few = h.few;
      }

  pub listed_next : (here there : Uris) (n : ℕ) (fs gs : List Feed) → HasListed told root p interface start here n fs
      → ListsNext told root p n here there fs gs → HasListed told root p interface start there (n + 1) gs
  listed_next here there n fs gs h s =
      let at = turn_at here n s.uri s.turn in
      listed_more here there n s.uri fs gs h at.0 at.1 s.gets s.more
