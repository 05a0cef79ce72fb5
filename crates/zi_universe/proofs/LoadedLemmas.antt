-- The interfaces, one after the other.
use Rattle.std.proofs.Common.{Option, ◌≡◌, ℕ, ◌+◌, ◌<◌, ◌≤◌, true, List, [], ◌∷◌, ◌++◌, length, map, take, get_or, All, refl, sym, ap, subst, ◌∙◌, arith, length-append}
use Rattle.std.specs.List.{AllZip}
use Rattle.std.proofs.lemmas.List.{take_all, length-map}
use Rattle.std.proofs.lemmas.List.Elements.{Contains-get_or}
use Rattle.std.proofs.lemmas.List.Sums.{sum_by_push}
use Rattle.zi_policy.specs.declared.types.Policy.{Policy}
use Rattle.zi_policy.specs.Platform.{listed}
use Rattle.zi_feed.specs.declared.feed.Feed.{Feed}
use Rattle.zi_outside.specs.Views.{Holding}
use Rattle.zi_universe.specs.declared.types.Requirement.{Requirement}
use Rattle.zi_universe.specs.declared.types.Candidate.{Candidate}
use Rattle.zi_universe.specs.declared.types.Interface.{Interface}
use Rattle.zi_universe.specs.Naming.{Uri, Uris, joined, all_of, IsNamed, AreApart}
use Rattle.zi_universe.specs.Candidates.{Store, imports_of, AreCandidates, asked_by, asked_by_all}
use Rattle.zi_universe.specs.Whole.{uris_of, candidates_in, most_feeds, most_candidates, most_interfaces}
use Rattle.zi_universe.specs.Loading.{Reading, AreRead, IsInterface, reached, HasCome, Loads}
use Rattle.zi_universe.specs.Tables.{addresses, Agrees, AllRead}
use Rattle.zi_universe.specs.Stages.{HasListed, HasLoaded}
use Rattle.zi_universe.proofs.NamingLemmas.{joined-append, all_of-append, named_begins, named_more, map-append, without_repeats_apart, closes, take_joined, Contains-listed, listed-joined}
use Rattle.zi_universe.proofs.TableLemmas.{reading_of, reading_agrees, reading_reads}
use Rattle.zi_universe.proofs.ListingLemmas.{listed_read, listed_agrees}

-- the feeds that one interface more reaches
pub reached_more : (groups : List Uris) (here : Uris) → reached (groups ++ here ∷ []) ≡ joined (reached groups) here
reached_more groups here = ap (joined []) (all_of-append groups here) ∙ joined-append [] (all_of groups) here

AllZip-end : {X Y : Type 0} (R : X → Y → Type 0) (xs : List X) (ys : List Y) (x : X) (y : Y) → AllZip R xs ys → R x y → AllZip R (xs ++ x ∷ []) (ys ++ y ∷ [])
AllZip-end R [] [] x y z r = (r, tt)
AllZip-end R [] (b ∷ bs) x y z r = absurd z
AllZip-end R (a ∷ xs) [] x y z r = absurd z
AllZip-end R (a ∷ xs) (b ∷ bs) x y z r = (z.0, AllZip-end R xs bs x y z.1 r)

-- Nothing is done.
pub loaded_none : (told : Option Holding) (req : Requirement) (p : Policy) (stored : Store) → HasLoaded told req p stored [] (req.interface ∷ []) []
loaded_none told req p stored = record {
  groups = [];
  come = λ at a. record {
    named = named_begins req.interface;
    in_turn = refl;
    each = tt;
    few_feeds = omega arith;
    few_candidates = omega arith;
    few_interfaces = omega arith;
  };
  places = refl;
  read = λ k d lt. absurd (omega (arith, lt));
  few = omega arith;
}

-- One more is done.
module _ (told : Option Holding) (req : Requirement) (p : Policy) (stored : Store) (done : List Interface) (names : Uris) (start : List Feed) (uri : Uri)
    (h : HasLoaded told req p stored done names start) (lt : length done < length names) (e : get_or names (length done) uri ≡ uri)
    (here : Uris) (fs : List Feed) (l : HasListed told req.interface p uri start here (length here) fs) where
  -- what agrees with all agrees with the start
  pub from_start : (at : Reading) → Agrees p at fs → Agrees p at start
  from_start at a = listed_agrees told req.interface p uri start here (length here) fs l at a

  pub all_read : AllRead told req.interface p fs
  all_read = listed_read told req.interface p uri start here (length here) fs l h.read

  -- the table has what is reached
  pub places_now : addresses fs ≡ reached (h.groups ++ here ∷ [])
  places_now =
      l.places ∙ ap (joined (addresses start)) (take_all (length here) here (omega arith)) ∙ ap (λ q. joined q here) h.places ∙ sym (reached_more h.groups here)

  pub few_now : length (reached (h.groups ++ here ∷ [])) ≤ most_feeds
  few_now = let P : ℕ → Type 0 = λ n. n ≤ most_feeds in subst P (sym (length-map fs (λ (f : Feed). f.uri)) ∙ ap length places_now) l.few

  -- each of the feeds is there
  pub here_listed : All (λ u. listed u (addresses fs) ≡ true) here
  here_listed k d lt =
      ap (listed (get_or here k d)) (l.places ∙ ap (joined (addresses start)) (take_all (length here) here (omega arith)))
      ∙ listed-joined (get_or here k d) (addresses start) here (Contains-listed (get_or here k d) here (Contains-get_or here k d lt))

  pub closed_now : (at : Reading) → Agrees p at fs → IsNamed uri (map (λ u. imports_of p (at u)) here) here
  closed_now at a = closes uri (λ u. imports_of p (at u)) here (length here) (omega arith) (l.named at a)

  pub loaded_more : (cs : List Candidate) → ((at : Reading) → Agrees p at fs → AreCandidates req p stored uri (map at here) cs)
      → candidates_in done + length cs ≤ most_candidates → length (joined names (asked_by_all cs)) ≤ most_interfaces
      → HasLoaded told req p stored (done ++ record { uri = uri; candidates = cs } ∷ []) (joined names (asked_by_all cs)) fs
  loaded_more cs ranked few many = record {
    groups = h.groups ++ here ∷ [];
    come = come;
    places = places_now;
    read = all_read;
    few = l.few;
  }
    where
      come : (at : Reading) → Agrees p at fs → HasCome at req p stored (done ++ record { uri = uri; candidates = cs } ∷ []) (h.groups ++ here ∷ []) (joined names (asked_by_all cs))
      come at a = let c = h.come at (from_start at a) in record {
        named = named_now c.named;
        in_turn = turn_now c.in_turn;
        each = AllZip-end (IsInterface at req p stored) h.groups done here (record { uri = uri; candidates = cs }) c.each
            (record { closed = closed_now at a; candidates = ranked at a });
        few_feeds = few_now;
        few_candidates = (let s : candidates_in (done ++ record { uri = uri; candidates = cs } ∷ []) ≡ candidates_in done + length cs = sum_by_push (λ (i : Interface). length i.candidates) done (record { uri = uri; candidates = cs }) in omega (arith, s, few));
        few_interfaces = many;
      }
        where
          named_now : IsNamed req.interface (map asked_by done) names → IsNamed req.interface (map asked_by (done ++ record { uri = uri; candidates = cs } ∷ [])) (joined names (asked_by_all cs))
          named_now n =
              let P : List Uris → Type 0 = λ q. IsNamed req.interface q (joined names (asked_by_all cs)) in
              subst P (sym (map-append asked_by done (record { uri = uri; candidates = cs } ∷ [])))
              (named_more req.interface (map asked_by done) names (asked_by_all cs) n (let k : length (map asked_by done) ≡ length done = length-map done asked_by in omega (arith, k, lt)))

          turn_now : uris_of done ≡ take (length done) names → uris_of (done ++ record { uri = uri; candidates = cs } ∷ []) ≡ take (length (done ++ record { uri = uri; candidates = cs } ∷ [])) (joined names (asked_by_all cs))
          turn_now t =
              map-append (λ (i : Interface). i.uri) done (record { uri = uri; candidates = cs } ∷ []) ∙ ap (λ q. q ++ uri ∷ []) t
              ∙ sym (take_joined names (asked_by_all cs) (length done) uri lt e)
              ∙ ap (λ n. take n (joined names (asked_by_all cs))) (sym (length-append done (record { uri = uri; candidates = cs } ∷ [])))

-- All are done.
pub loads : (told : Option Holding) (req : Requirement) (p : Policy) (stored : Store) (done : List Interface) (names : Uris) (fs : List Feed)
    → HasLoaded told req p stored done names fs → length names ≤ length done → (l : Loads told req p stored done) × (reached l.groups ≡ addresses fs)
loads told req p stored done names fs h le =
    let apart : AreApart (addresses fs) = subst AreApart (sym h.places) (without_repeats_apart (all_of h.groups)) in
    let at : Reading = reading_of told req.interface p fs h.read in
    let c = h.come at (reading_agrees told req.interface p fs h.read apart) in
    let all : uris_of done ≡ names = c.in_turn ∙ take_all (length done) names le in
    let P : Uris → Type 0 = λ q. HasCome at req p stored done h.groups q in
    let Q : Uris → Type 0 = λ q. AreRead told req.interface at q in
    (record { at = at; groups = h.groups; universe = subst P (sym all) c; read = subst Q h.places (reading_reads told req.interface p fs h.read) }, sym h.places)
