-- Feeds by their addresses, and the readings that agree with them.
use Rattle.std.proofs.Common.{◌+◌, ◌≡◌, ◌≢◌, ℕ, zero, suc, ◌<◌, Bool, true, false, true≢false, ◌||◌, List, [], ◌∷◌, ◌++◌, length, map, filter, get_or, Option, Some, None, option_map, All, Contains, bytes_eq, refl, sym, ap, subst, ◌∙◌, arith, if◌then◌else◌}
use Rattle.std.specs.Prelude.{unwrap_or, is_some, option_copied, IfSome}
use Rattle.std.specs.Borrow.{Bor}
use Rattle.std.specs.List.{cons_option}
use Rattle.std.specs.Map.{lookup}
use Rattle.std.proofs.lemmas.List.{get_or-map, length-map}
use Rattle.std.proofs.lemmas.List.Elements.{All-head, All-tail, All-cons, All-contains, All-weaker, All-push}
use Rattle.indexmap.specs.IndexMap.{IndexMap, insert_entry}
use Rattle.indexmap.proofs.CallerLemmas.{insert_entry-new}
use Rattle.zi_policy.specs.declared.types.Policy.{Policy}
use Rattle.zi_policy.specs.Platform.{listed}
use Rattle.zi_parts.specs.declared.types.Impl.{Impl}
use Rattle.zi_feed.specs.declared.feed.Feed.{Feed}
use Rattle.zi_feed.specs.declared.shares.ReadFeed.{ReadFeed}
use Rattle.zi_feed.specs.Active.{active_part, active_feed}
use Rattle.zi_outside.specs.Views.{Holding}
use Rattle.zi_universe.specs.Naming.{Uri, Uris, AreApart}
use Rattle.zi_universe.specs.declared.types.Requirement.{Requirement}
use Rattle.zi_universe.specs.Candidates.{Store, imports_of, stability_of, is_stored, standing_of, candidate_of, offered_from, all_impls, is_admitted, admitted_by, admitted}
use Rattle.zi_universe.specs.Loading.{no_feed, IsRead, Reading, AreRead}
use Rattle.zi_universe.specs.Tables.{HasShares, addresses, find_feed, feeds_at, imports_at, as_it_is, held_from, held_by, held, IsActiveOf, Agrees, AllRead}
use Rattle.zi_universe.proofs.RowLemmas.{active_impls}
use Rattle.zi_universe.proofs.NamingLemmas.{bytes_eq-true, bytes_eq-refl, Contains-listed, map-append}

-- The front of what agrees agrees.
pub All-front : {X : Type 0} (P : X → Type 0) (xs ys : List X) → All P (xs ++ ys) → All P xs
All-front P [] ys a = λ k d lt. absurd (omega (arith, lt))
All-front P (x ∷ xs) ys a = All-cons P x xs (All-head P x (xs ++ ys) a) (All-front P xs ys (All-tail P x (xs ++ ys) a))

-- A feed whose address is listed is found.
pub record IsFound (fs : List Feed) (uri : Uri) : Type 0 where
  pub feed : Feed
  pub found : find_feed fs uri ≡ Some feed
  pub place : feed.uri ≡ uri
  pub member : Contains fs feed

Contains-behind : {X : Type 0} (x y : X) (xs : List X) → Contains xs y → Contains (x ∷ xs) y
Contains-behind x y xs c = (suc c.0, omega (arith, c.1), c.2)

pub found : (fs : List Feed) (uri : Uri) → listed uri (addresses fs) ≡ true → IsFound fs uri
found [] uri e = absurd (true≢false (sym e))
found (f ∷ fs) uri e = by (bytes_eq uri f.uri) refl (λ h. found fs uri h)
  where
    by : (b : Bool) → bytes_eq uri f.uri ≡ b → (listed uri (addresses fs) ≡ true → IsFound fs uri) → IsFound (f ∷ fs) uri
    by true s rest = record {
      feed = f;
      found = ap (λ b. if b then Some f else find_feed fs uri) s;
      place = sym (bytes_eq-true uri f.uri s);
      member = (zero, omega arith, refl);
    }
    by false s rest =
        let r = rest (ap (λ b. b || listed uri (addresses fs)) (sym s) ∙ e) in record {
          feed = r.feed;
          found = ap (λ b. if b then Some f else find_feed fs uri) s ∙ r.found;
          place = r.place;
          member = Contains-behind f r.feed fs r.member;
        }

-- one whose address isn't listed isn't
pub not_found : (fs : List Feed) (uri : Uri) → find_feed fs uri ≡ None → listed uri (addresses fs) ≡ false
not_found [] uri e = refl
not_found (f ∷ fs) uri e = by (bytes_eq uri f.uri) refl (λ h. not_found fs uri h)
  where
    by : (b : Bool) → bytes_eq uri f.uri ≡ b → (find_feed fs uri ≡ None → listed uri (addresses fs) ≡ false) → listed uri (addresses (f ∷ fs)) ≡ false
    by true s rest = absurd (let bad : Some f ≡ None = sym (ap (λ b. if b then Some f else find_feed fs uri) s) ∙ e in cc)
    by false s rest =
        ap (λ b. b || listed uri (addresses fs)) s ∙ rest (sym (ap (λ b. if b then Some f else find_feed fs uri) s) ∙ e)

pub absent : (fs : List Feed) (uri : Uri) → listed uri (addresses fs) ≡ false → find_feed fs uri ≡ None
absent [] uri n = refl
absent (g ∷ gs) uri n = by (bytes_eq uri g.uri) refl (λ h. absent gs uri h)
  where
    by : (b : Bool) → bytes_eq uri g.uri ≡ b → (listed uri (addresses gs) ≡ false → find_feed gs uri ≡ None) → find_feed (g ∷ gs) uri ≡ None
    by true s rest = absurd (true≢false (sym (ap (λ b. b || listed uri (addresses gs)) s) ∙ n))
    by false s rest = ap (λ b. if b then Some g else find_feed gs uri) s ∙ rest (ap (λ b. b || listed uri (addresses gs)) (sym s) ∙ n)

-- whether one is found
pub is_found : (fs : List Feed) (uri : Uri) → is_some (find_feed fs uri) ≡ listed uri (addresses fs)
is_found [] uri = refl
is_found (f ∷ fs) uri = by (bytes_eq uri f.uri) (is_found fs uri)
  where
    by : (b : Bool) → is_some (find_feed fs uri) ≡ listed uri (addresses fs) → is_some (if b then Some f else find_feed fs uri) ≡ (b || listed uri (addresses fs))
    by true e = refl
    by false e = e

pub found_listed : (fs : List Feed) (uri : Uri) (f : Feed) → find_feed fs uri ≡ Some f → listed uri (addresses fs) ≡ true
found_listed fs uri f e = by (listed uri (addresses fs)) refl
  where
    by : (b : Bool) → listed uri (addresses fs) ≡ b → listed uri (addresses fs) ≡ true
    by true l = l
    by false l = absurd (let bad : Some f ≡ None = sym e ∙ absent fs uri l in cc)

-- Of what agrees the feed that is found is what is active.
pub agreed : (p : Policy) (at : Reading) (fs : List Feed) (uri : Uri) (r : IsFound fs uri) → Agrees p at fs → active_feed p (at uri) ≡ r.feed
agreed p at fs uri r a = ap (λ u. active_feed p (at u)) (sym r.place) ∙ All-contains (λ f. active_feed p (at f.uri) ≡ f) fs r.feed a r.member

pub imports_agreed : (p : Policy) (at : Reading) (fs : List Feed) (uri : Uri) → listed uri (addresses fs) ≡ true → Agrees p at fs
    → imports_at p fs uri ≡ imports_of p (at uri)
imports_agreed p at fs uri l a =
    let r = found fs uri l in
    ap (λ o. unwrap_or (option_map (imports_of p) o) []) r.found ∙ ap (imports_of p) (sym (agreed p at fs uri r a))

feeds_agreed : (p : Policy) (at : Reading) (fs : List Feed) (uris : Uris) → All (λ u. listed u (addresses fs) ≡ true) uris → Agrees p at fs
    → feeds_at fs uris ≡ map (λ u. active_feed p (at u)) uris
feeds_agreed p at fs [] l a = refl
feeds_agreed p at fs (u ∷ us) l a =
    let r = found fs u (All-head (λ v. listed v (addresses fs) ≡ true) u us l) in
    ap (λ o. cons_option o (feeds_at fs us)) (r.found ∙ ap (λ f. Some f) (sym (agreed p at fs u r a)))
    ∙ ap (λ q. active_feed p (at u) ∷ q) (feeds_agreed p at fs us (All-tail (λ v. listed v (addresses fs) ≡ true) u us l) a)

-- the addresses of those that are there
pub addresses-feeds_at : (fs : List Feed) (uris : Uris) → All (λ u. listed u (addresses fs) ≡ true) uris → addresses (feeds_at fs uris) ≡ uris
addresses-feeds_at fs [] l = refl
addresses-feeds_at fs (u ∷ us) l =
    let r = found fs u (All-head (λ v. listed v (addresses fs) ≡ true) u us l) in
    ap (λ o. addresses (cons_option o (feeds_at fs us))) r.found ∙ ap (λ q. q ∷ addresses (feeds_at fs us)) r.place
    ∙ ap (λ q. u ∷ q) (addresses-feeds_at fs us (All-tail (λ v. listed v (addresses fs) ≡ true) u us l))

-- What is active of a feed has its address.
active_addresses : (p : Policy) (at : Reading) (uris : Uris) → addresses (map at uris) ≡ addresses (map (λ u. active_feed p (at u)) uris)
active_addresses p at [] = refl
active_addresses p at (u ∷ us) = ap (λ q. (at u).uri ∷ q) (active_addresses p at us)

pub addresses_agreed : (p : Policy) (at : Reading) (fs : List Feed) (uris : Uris) → All (λ u. listed u (addresses fs) ≡ true) uris → Agrees p at fs → addresses (map at uris) ≡ uris
addresses_agreed p at fs uris l a = active_addresses p at uris ∙ ap addresses (sym (feeds_agreed p at fs uris l a)) ∙ addresses-feeds_at fs uris l

-- What a table has for an interface is what is admitted of what was read.
same_standing : (p : Policy) (stored : Store) (interface feed : Uri) (place : ℕ) (i : Impl)
    → standing_of p stored interface feed place (active_part p i) ≡ standing_of p stored interface feed place i
unfolding standing_of stability_of is_stored active_part
same_standing p stored interface feed place i = refl

same_candidate : (p : Policy) (stored : Store) (interface feed : Uri) (place : ℕ) (i : Impl)
    → as_it_is p stored interface feed place (active_part p i) ≡ candidate_of p stored interface feed place i
same_candidate p stored interface feed place i = ap (λ s. record { standing = s; imp = active_part p i }) (same_standing p stored interface feed place i)

held_active : (p : Policy) (stored : Store) (interface feed : Uri) (place : ℕ) (is : List Impl)
    → held_from p stored interface feed place (map (active_part p) is) ≡ offered_from p stored interface feed place is
held_active p stored interface feed place [] = refl
held_active p stored interface feed place (i ∷ is) =
    ap (λ q. q ∷ held_from p stored interface feed (place + 1) (map (active_part p) is)) (same_candidate p stored interface feed place i)
    ∙ ap (λ q. candidate_of p stored interface feed place i ∷ q) (held_active p stored interface feed (place + 1) is)

active_held : (req : Requirement) (p : Policy) (stored : Store) (interface : Uri) (f : Feed) → held_by req p stored interface (active_feed p f) ≡ admitted_by req p stored interface f
active_held req p stored interface f =
    ap (λ q. filter (is_admitted req p interface) (held_from p stored interface f.uri 0 q)) (active_impls p stored.packages f)
    ∙ ap (filter (is_admitted req p interface)) (held_active p stored interface f.uri 0 (all_impls stored.packages f))

all_held : (req : Requirement) (p : Policy) (stored : Store) (interface : Uri) (at : Reading) (uris : Uris)
    → held req p stored interface (map (λ u. active_feed p (at u)) uris) ≡ admitted req p stored interface (map at uris)
all_held req p stored interface at [] = refl
all_held req p stored interface at (u ∷ us) =
    ap (λ q. q ++ held req p stored interface (map (λ v. active_feed p (at v)) us)) (active_held req p stored interface (at u))
    ∙ ap (λ q. admitted_by req p stored interface (at u) ++ q) (all_held req p stored interface at us)

pub held_agreed : (req : Requirement) (p : Policy) (stored : Store) (interface : Uri) (at : Reading) (fs : List Feed) (uris : Uris)
    → All (λ u. listed u (addresses fs) ≡ true) uris → Agrees p at fs → held req p stored interface (feeds_at fs uris) ≡ admitted req p stored interface (map at uris)
held_agreed req p stored interface at fs uris l a =
    ap (held req p stored interface) (feeds_agreed p at fs uris l a) ∙ all_held req p stored interface at uris

-- where addresses are apart, each feed is the one that is found at its address
finds_each : (fs : List Feed) → AreApart (addresses fs) → All (λ f. find_feed fs f.uri ≡ Some f) fs
finds_each [] a = λ k d lt. absurd (omega (arith, lt))
finds_each (f ∷ fs) a = All-cons (λ g. find_feed (f ∷ fs) g.uri ≡ Some g) f fs
    (ap (λ b. if b then Some f else find_feed fs f.uri) (bytes_eq-refl f.uri))
    (λ k d lt. later (get_or fs k d) (other k d lt) (finds_each fs (λ i j v below within. a (suc i) (suc j) v (omega (arith, below)) (omega (arith, within))) k d lt))
  where
    later : (g : Feed) → g.uri ≢ f.uri → find_feed fs g.uri ≡ Some g → find_feed (f ∷ fs) g.uri ≡ Some g
    later g n e = by (bytes_eq g.uri f.uri) refl
      where
        by : (b : Bool) → bytes_eq g.uri f.uri ≡ b → find_feed (f ∷ fs) g.uri ≡ Some g
        by true s = absurd (n (bytes_eq-true g.uri f.uri s))
        by false s = ap (λ b. if b then Some f else find_feed fs g.uri) s ∙ e

    other : (k : ℕ) (d : Feed) → k < length fs → (get_or fs k d).uri ≢ f.uri
    other k d lt s = a zero (suc k) f.uri (omega arith) (omega (arith, length-map fs (λ (g : Feed). g.uri), lt)) (sym s ∙ sym (get_or-map (λ (g : Feed). g.uri) fs k d f.uri lt))

-- The feed at an address was read, and what is active of it is found there.
record Stands (told : Option Holding) (root : Uri) (p : Policy) (fs : List Feed) (uri : Uri) (read : Feed) : Type 0 where
  feed : Feed
  found : find_feed fs uri ≡ Some feed
  is_read : IsRead told root uri read
  active : feed ≡ active_feed p read

-- The reading that a table gives: each feed as it was read.
module _ (told : Option Holding) (root : Uri) (p : Policy) where
  abbrev WasRead : Feed → Type 0
  WasRead f = IsActiveOf told root p f.uri f

  pub reading_of : (fs : List Feed) → AllRead told root p fs → Reading
  reading_of [] all uri = no_feed uri
  reading_of (f ∷ fs) all uri = if bytes_eq uri f.uri then (All-head WasRead f fs all).0 else reading_of fs (All-tail WasRead f fs all) uri

  stands : (fs : List Feed) (all : AllRead told root p fs) (uri : Uri) → listed uri (addresses fs) ≡ true → Stands told root p fs uri (reading_of fs all uri)
  unfolding reading_of
  stands [] all uri e = absurd (true≢false (sym e))
  stands (f ∷ fs) all uri e = by (bytes_eq uri f.uri) refl (stands fs (All-tail WasRead f fs all) uri)
    where
      mine : IsActiveOf told root p f.uri f
      mine = All-head WasRead f fs all

      rest : Feed
      rest = reading_of fs (All-tail WasRead f fs all) uri

      by : (b : Bool) → bytes_eq uri f.uri ≡ b → (listed uri (addresses fs) ≡ true → Stands told root p fs uri rest) → Stands told root p (f ∷ fs) uri (if bytes_eq uri f.uri then mine.0 else rest)
      by true s later =
          let P : Feed → Type 0 = λ q. Stands told root p (f ∷ fs) uri q in
          let Q : Uri → Type 0 = λ q. IsRead told root q mine.0 in
          subst P (sym (ap (λ b. if b then mine.0 else rest) s)) (record {
            feed = f;
            found = ap (λ b. if b then Some f else find_feed fs uri) s;
            is_read = subst Q (sym (bytes_eq-true uri f.uri s)) mine.1;
            active = mine.2;
          })
      by false s later =
          let P : Feed → Type 0 = λ q. Stands told root p (f ∷ fs) uri q in
          let r = later (ap (λ b. b || listed uri (addresses fs)) (sym s) ∙ e) in
          subst P (sym (ap (λ b. if b then mine.0 else rest) s)) (record {
            feed = r.feed;
            found = ap (λ b. if b then Some f else find_feed fs uri) s ∙ r.found;
            is_read = r.is_read;
            active = r.active;
          })

  same_found : (f g : Feed) → Some f ≡ Some g → f ≡ g
  same_found f g e = cc

  pub reading_agrees : (fs : List Feed) (all : AllRead told root p fs) → AreApart (addresses fs) → Agrees p (reading_of fs all) fs
  reading_agrees fs all apart = All-weaker (λ f. find_feed fs f.uri ≡ Some f) (λ f. active_feed p (reading_of fs all f.uri) ≡ f) agrees fs (finds_each fs apart)
    where
      agrees : (f : Feed) → find_feed fs f.uri ≡ Some f → active_feed p (reading_of fs all f.uri) ≡ f
      agrees f e = let s = stands fs all f.uri (found_listed fs f.uri f e) in sym s.active ∙ same_found s.feed f (sym s.found ∙ e)

  pub reading_reads : (fs : List Feed) (all : AllRead told root p fs) → AreRead told root (reading_of fs all) (addresses fs)
  reading_reads fs all uri c = (stands fs all uri (Contains-listed uri (addresses fs) c)).is_read

-- The feeds in a map under their addresses, each with what its implementations share.
abbrev Kept : Uri × ReadFeed → Type 0
Kept e = (e.0 ≡ e.1.feed.uri) × HasShares e.1

abbrev feeds_of : List (Uri × ReadFeed) → List Feed
feeds_of es = map (λ e. e.1.feed) es

pub lookup_feed : (es : List (Uri × ReadFeed)) (uri : Uri) → All Kept es → option_map (λ (r : ReadFeed). r.feed) (lookup (bytes_eq uri) es) ≡ find_feed (feeds_of es) uri
lookup_feed [] uri all = refl
lookup_feed (e ∷ es) uri all =
    let same : bytes_eq uri e.0 ≡ bytes_eq uri e.1.feed.uri = ap (bytes_eq uri) (All-head Kept e es all).0 in
    ap (λ b. option_map (λ (r : ReadFeed). r.feed) (if b then Some e.1 else lookup (bytes_eq uri) es)) same
    ∙ by (bytes_eq uri e.1.feed.uri) (lookup_feed es uri (All-tail Kept e es all))
  where
    by : (b : Bool) → option_map (λ (r : ReadFeed). r.feed) (lookup (bytes_eq uri) es) ≡ find_feed (feeds_of es) uri
        → option_map (λ (r : ReadFeed). r.feed) (if b then Some e.1 else lookup (bytes_eq uri) es) ≡ (if b then Some e.1.feed else find_feed (feeds_of es) uri)
    by true h = refl
    by false h = h

lookup_shared : (es : List (Uri × ReadFeed)) (uri : Uri) (r : ReadFeed) → All Kept es → lookup (bytes_eq uri) es ≡ Some r → HasShares r
lookup_shared [] uri r all e = (cc)
lookup_shared (x ∷ es) uri r all e = by (bytes_eq uri x.0) refl (lookup_shared es uri r (All-tail Kept x es all))
  where
    by : (b : Bool) → bytes_eq uri x.0 ≡ b → (lookup (bytes_eq uri) es ≡ Some r → HasShares r) → HasShares r
    by true t rest =
        let same : Some x.1 ≡ Some r = sym (ap (λ b. if b then Some x.1 else lookup (bytes_eq uri) es) t) ∙ e in
        let one : x.1 ≡ r = cc in
        let P : ReadFeed → Type 0 = λ q. HasShares q in
        subst P one (All-head Kept x es all).1
    by false t rest = rest (sym (ap (λ b. if b then Some x.1 else lookup (bytes_eq uri) es) t) ∙ e)

-- what is lent has its shares
pub lent_shared : (o : Option (Bor ReadFeed)) (es : List (Uri × ReadFeed)) (uri : Uri) → option_copied o ≡ lookup (bytes_eq uri) es → All Kept es → IfSome o (λ r. HasShares r.now)
lent_shared None es uri e all = tt
lent_shared (Some r) es uri e all = lookup_shared es uri r.now all (sym e)

nothing_mapped : (o : Option ReadFeed) → option_map (λ (r : ReadFeed). r.feed) o ≡ None → o ≡ None
nothing_mapped None e = refl
nothing_mapped (Some r) e = (cc)

-- one feed more in the map
pub record Grows {S : Type 0} (n : IndexMap Uri ReadFeed S) (fs : List Feed) (f : Feed) : Type 0 where
  pub placed : All (λ e. (e.0 ≡ e.1.feed.uri) × HasShares e.1) n.entries
  pub grown : map (λ e. e.1.feed) n.entries ≡ fs ++ f ∷ []

pub grows : {S : Type 0} (m n : IndexMap Uri ReadFeed S) (fs : List Feed) (uri : Uri) (r : ReadFeed) → All (λ e. (e.0 ≡ e.1.feed.uri) × HasShares e.1) m.entries → map (λ e. e.1.feed) m.entries ≡ fs
    → uri ≡ r.feed.uri → HasShares r → listed r.feed.uri (addresses fs) ≡ false → n.entries ≡ insert_entry bytes_eq m.entries uri r → Grows n fs r.feed
grows m n fs uri r all view same shared none e =
    let missing : option_map (λ (q : ReadFeed). q.feed) (lookup (bytes_eq uri) m.entries) ≡ None =
    lookup_feed m.entries uri all ∙ ap (λ gs. find_feed gs uri) view ∙ ap (find_feed fs) same ∙ absent fs r.feed.uri none in
    let empty : lookup (bytes_eq uri) m.entries ≡ None = nothing_mapped (lookup (bytes_eq uri) m.entries) missing in
    let more : n.entries ≡ m.entries ++ (uri, r) ∷ [] = e ∙ insert_entry-new bytes_eq m uri r empty in
    record {
      placed = (let P : List (Uri × ReadFeed) → Type 0 = λ q. All Kept q in subst P (sym more) (All-push Kept m.entries (uri, r) all (same, shared)));
      grown = ap (map (λ (x : Uri × ReadFeed). x.1.feed)) more ∙ map-append (λ (x : Uri × ReadFeed). x.1.feed) m.entries ((uri, r) ∷ []) ∙ ap (λ q. q ++ r.feed ∷ []) view;
    }

-- what is lent is there where it is there
pub lent_there : (o : Option (Bor ReadFeed)) → is_some o ≡ is_some (option_map (λ (r : ReadFeed). r.feed) (option_copied o))
lent_there None = refl
lent_there (Some x) = refl
