-- Selections that are fetched one behind the other.
use Rattle.std.proofs.Common.{◌≡◌, ℕ, inl, inr, Bool, true, false, ◌||◌, List, [], ◌∷◌, ◌++◌, ◌+◌, ◌<◌, ◌≤◌, length, take, get_or, All, Some, refl, sym, ◌∙◌, ap, subst, slice_get, is_some, Ok, Err, Result}
use Rattle.std.specs.List.{list_any}
use Rattle.std.proofs.lemmas.List.{append-nil, take_more, take_all}
use Rattle.std.proofs.lemmas.Option.{slice_get_read}
use Rattle.zi_digest.specs.declared.DigestName.{DigestName}
use Rattle.zi_digest.specs.Name.{spelling}
use Rattle.zi_tree.specs.Dir.{Dir}
use Rattle.zi_outside.specs.Views.{Feeding}
use Rattle.zi_shelf.specs.Shelving.{Shelving}
use Rattle.zi_universe.specs.Naming.{with_one, joined}
use Rattle.zi_universe.proofs.NamingLemmas.{joined-append, map-append, listed-joined_left}
use Rattle.zi_reading.specs.Words.{first}
use Rattle.zi_parts.specs.declared.types.Method.{Method}
use Rattle.zi_sels.specs.declared.types.Selection.{Selection}
use Rattle.zi_recipe.specs.declared.fault.RecipeFault.{RecipeFault}
use Rattle.zi_recipe.specs.Making.{Makes, Refuses}
use Rattle.zi_adding.specs.declared.adding.Added.{Added}
use Rattle.zi_adding.specs.declared.adding.Added.TheVariants as added
use Rattle.zi_adding.specs.declared.adding.AddFault.{AddFault}
use Rattle.zi_adding.specs.Trying.{Tried, Adds}
use Rattle.zi_adding.specs.Answers.{AddsTree}
use Rattle.zi_adding.proofs.AddingLemmas.{adds_nothing}
use Rattle.zi_adding.proofs.HistoryLaws.{AreDone, adds_then}
use Rattle.zi_outcome.specs.declared.outcome.Outcome.{Outcome}
use Rattle.zi_outcome.specs.declared.outcome.Outcome.TheVariants.{NotInstalled, Memory}
use Rattle.zi_choosing.specs.declared.chosen.Chosen.{Chosen}
use Rattle.zi_fetching.specs.Known.{Names, is_known, is_there}
use Rattle.zi_fetching.specs.Outcomes.{unmade, unadded}
use Rattle.zi_fetching.specs.Fetching.{Lent, From, from_chosen, method_of, HasWay, HasNoWay, IsFetchable, IsFetched, tried_names, names_in, FetchesInTurn, FetchesAll, FetchesTree, FetchesOne, FetchesItem, AreInstalled, first_uninstalled}
use Rattle.zi_check.proofs.MeetLaws.{none_is}

-- One tree.

pub tree_unmade : (method : Method) (name : DigestName) (old new : Feeding) (shelf : Shelving) (fault : RecipeFault) (outcome : Outcome) → Refuses method old fault new → outcome ≡ unmade fault
    → FetchesTree method name (record { web = old; shelf = shelf }) (Err outcome) (record { web = new; shelf = shelf })
tree_unmade method name old new shelf fault outcome r e = record { tried = []; fetches = inl (record { fault = fault; is = e; refuses = r }, refl); adds = adds_nothing shelf }

pub tree_unadded : (method : Method) (name : DigestName) (old new : Feeding) (before after : Shelving) (tree : Dir) (fault : AddFault) (outcome : Outcome) → Makes method old tree new
    → AddsTree name tree before after (Err fault) → outcome ≡ unadded fault → FetchesTree method name (record { web = old; shelf = before }) (Err outcome) (record { web = new; shelf = after })
tree_unadded method name old new before after tree fault outcome m a e =
    record { tried = a.tried; fetches = inr (record { tree = tree; makes = m; fault = fault; is = e; ends = a.ends }); adds = a.adds }

pub tree_added : (method : Method) (name : DigestName) (old new : Feeding) (before after : Shelving) (tree : Dir) (how : Added) → Makes method old tree new
    → AddsTree name tree before after (Ok how) → FetchesTree method name (record { web = old; shelf = before }) (Ok tt) (record { web = new; shelf = after })
tree_added method name old new before after tree added.Stored m a = record { tried = a.tried; fetches = (_, a.ends, refl, m, inl refl); adds = a.adds }
tree_added method name old new before after tree added.Present m a = record { tried = a.tried; fetches = (_, a.ends, refl, m, inr refl); adds = a.adds }

-- One selection.

pub item_there : (on : From) (stored : Names) (x : Selection) (web : Feeding) (shelf : Shelving) → is_there stored x ≡ true
    → FetchesItem on stored x (record { web = web; shelf = shelf }) (Ok tt) stored (record { web = web; shelf = shelf })
item_there on stored x web shelf e = record { tried = []; fetches = inl (e, refl, refl, refl); adds = adds_nothing shelf }

pub item_unsure : (on : From) (stored then : Names) (x : Selection) (web : Feeding) (shelf : Shelving) (outcome : Outcome) → outcome ≡ Memory
    → FetchesItem on stored x (record { web = web; shelf = shelf }) (Err outcome) then (record { web = web; shelf = shelf })
item_unsure on stored then x web shelf outcome e = record { tried = []; fetches = inl (e, refl, refl); adds = adds_nothing shelf }

pub item_fetched : (on : From) (stored then : Names) (x : Selection) (method : Method) (name : DigestName) (before after : Lent) → is_there stored x ≡ false → HasWay on x method name
    → then ≡ with_one stored (spelling name) → FetchesTree method name before (Ok tt) after → FetchesItem on stored x before (Ok tt) then after
item_fetched on stored then x method name before after wanting way e t =
    let f = t.fetches in
    record {
      tried = t.tried;
      fetches = inr (wanting, (f.0, f.1, e ∙ ap (λ n. with_one stored (spelling n)) (sym f.2), record { method = method; way = subst (λ n. HasWay on x method n) (sym f.2) way; makes = f.3; done = f.4 }));
      adds = t.adds;
    }

pub item_unfetched : (on : From) (stored then : Names) (x : Selection) (method : Method) (name : DigestName) (outcome : Outcome) (before after : Lent) → is_there stored x ≡ false → HasWay on x method name
    → FetchesTree method name before (Err outcome) after → FetchesItem on stored x before (Err outcome) then after
item_unfetched on stored then x method name outcome before after wanting way t =
    record { tried = t.tried; fetches = inr (wanting, record { method = method; name = name; way = way; fails = t.fetches }); adds = t.adds }

-- by what the making and the adding came to
pub item_tried : (on : From) (stored then : Names) (x : Selection) (method : Method) (name : DigestName) (result : Result (Unit {0}) Outcome) (before after : Lent) → is_there stored x ≡ false
    → HasWay on x method name → then ≡ with_one stored (spelling name) → FetchesTree method name before result after → FetchesItem on stored x before result then after
item_tried on stored then x method name (Ok u) before after wanting way e t = item_fetched on stored then x method name before after wanting way e t
item_tried on stored then x method name (Err outcome) before after wanting way e t = item_unfetched on stored then x method name outcome before after wanting way t

-- what can be fetched and isn't there has a way
pub has_way : (on : From) (stored : Names) (x : Selection) → IsFetchable on stored x → is_there stored x ≡ false → HasNoWay on x → ⊥
has_way on stored x f wanting (inl none) = none_is (method_of on x.interface) none (f.way wanting)
has_way on stored x f wanting (inr none) = none_is (first x.digests) none (f.named wanting)

-- All of them.

-- what is there is there when more is stored
any_more : (p q : DigestName → Bool) (xs : List DigestName) → ((d : DigestName) → p d ≡ true → q d ≡ true) → list_any p xs ≡ true → list_any q xs ≡ true
any_more p q [] h e = e
any_more p q (x ∷ xs) h e = either (p x) (q x) (list_any p xs) (list_any q xs) (h x) (any_more p q xs h) e
  where
    either : (a b c d : Bool) → (a ≡ true → b ≡ true) → (c ≡ true → d ≡ true) → (a || c) ≡ true → (b || d) ≡ true
    either true b c d f g e = subst (λ z. (z || d) ≡ true) (sym (f refl)) refl
    either false true c d f g e = refl
    either false false c d f g e = g e

pub there_more : (stored more : Names) (x : Selection) → is_there stored x ≡ true → is_there (joined stored more) x ≡ true
there_more stored more x e = by (is_some x.local) (is_some x.«package») e
  where
    by : (b p : Bool) → (b || p || list_any (is_known stored) x.digests) ≡ true → (b || p || list_any (is_known (joined stored more)) x.digests) ≡ true
    by true p e = refl
    by false true e = refl
    by false false e = any_more (is_known stored) (is_known (joined stored more)) x.digests (λ d h. listed-joined_left (spelling d) stored more h) e

not_before : (a b : Bool) → (a ≡ true → b ≡ true) → b ≡ false → a ≡ false
not_before true b f e = sym (f refl) ∙ e
not_before false b f e = refl

pub fetchable_more : (on : From) (stored more : Names) (x : Selection) → IsFetchable on stored x → IsFetchable on (joined stored more) x
fetchable_more on stored more x f = record { way = λ e. f.way (at e); named = λ e. f.named (at e) }
  where
    at : is_there (joined stored more) x ≡ false → is_there stored x ≡ false
    at e = not_before (is_there stored x) (is_there (joined stored more) x) (there_more stored more x) e

names_then : (stored : Names) (xs ys : List Tried) → joined (joined stored (tried_names xs)) (tried_names ys) ≡ joined stored (tried_names (xs ++ ys))
names_then stored xs ys = sym (joined-append stored (tried_names xs) (tried_names ys)) ∙ ap (joined stored) (sym (map-append (λ (a : Tried). spelling a.name) xs ys))

-- one more
turn_then : (on : From) (xs : List Selection) (x : Selection) (stored : Names) (old mid : Feeding) (tried more : List Tried) (then : Names) (new : Feeding)
    → FetchesInTurn on stored xs old tried mid → FetchesOne on (joined stored (tried_names tried)) x mid (Ok tt) more then new → FetchesInTurn on stored (xs ++ x ∷ []) old (tried ++ more) new
turn_then on [] x stored old mid tried more then new (none, same) (inl (there, empty, e, still)) =
    inl (subst (λ ts. is_there (joined stored (tried_names ts)) x ≡ true) none there, (ap (λ ts. ts ++ more) none ∙ empty, still ∙ same))
turn_then on [] x stored old mid tried more then new (none, same) (inr (wanting, (a, one, e, fetched))) =
    inr (
      subst (λ ts. is_there (joined stored (tried_names ts)) x ≡ false) none wanting,
      (a, [], new, ap (λ ts. ts ++ more) none ∙ one, subst (λ w. IsFetched on x w a new) same fetched, (refl, refl)),
    )
turn_then on (y ∷ ys) x stored old mid tried more then new (inl (there, rest)) one = inl (there, turn_then on ys x stored old mid tried more then new rest one)
turn_then on (y ∷ ys) x stored old mid tried more then new (inr (wanting, (a, rest, between, is, fetched, turn))) one =
    inr (
      wanting,
      (
        a,
        rest ++ more,
        between,
        ap (λ ts. ts ++ more) is,
        fetched,
        turn_then on ys x (with_one stored (spelling a.name)) between mid rest more then new turn
            (subst (λ ts. FetchesOne on (joined stored (tried_names ts)) x mid (Ok tt) more then new) is one),
      ),
    )

-- each that was tried is done
pub turn_done : (on : From) (xs : List Selection) (stored : Names) (old : Feeding) (tried : List Tried) (new : Feeding) → FetchesInTurn on stored xs old tried new → AreDone tried
turn_done on [] stored old tried new (none, same) = subst AreDone (sym none) tt
turn_done on (x ∷ xs) stored old tried new (inl (there, rest)) = turn_done on xs stored old tried new rest
turn_done on (x ∷ xs) stored old tried new (inr (wanting, (a, rest, mid, is, fetched, turn))) =
    subst AreDone (sym is) (fetched.done, turn_done on xs (with_one stored (spelling a.name)) mid rest new turn)

-- So far these were fetched.
pub record IsSoFar (c : Chosen) (items : List Selection) (before : Lent) (stored : Names) (now : Lent) : Type 0 where
  pub tried : List Tried
  pub in_turn : FetchesInTurn (from_chosen c) (names_in c) items before.web tried now.web
  pub names : stored ≡ joined (names_in c) (tried_names tried)
  pub adds : Adds tried before.shelf now.shelf

pub so_far_none : (c : Chosen) (lent : Lent) (stored : Names) → stored ≡ names_in c → IsSoFar c [] lent stored lent
so_far_none c lent stored e = record { tried = []; in_turn = (refl, refl); names = e; adds = adds_nothing lent.shelf }

one_names : (on : From) (stored : Names) (x : Selection) (old : Feeding) (tried : List Tried) (then : Names) (new : Feeding) → FetchesOne on stored x old (Ok tt) tried then new → then ≡ joined stored (tried_names tried)
one_names on stored x old tried then new (inl (there, empty, e, same)) = e ∙ ap (λ ts. joined stored (tried_names ts)) (sym empty)
one_names on stored x old tried then new (inr (wanting, (a, one, e, fetched))) = e ∙ ap (λ ts. joined stored (tried_names ts)) (sym one)

pub so_far_more : (c : Chosen) (items : List Selection) (x : Selection) (before now then : Lent) (stored more : Names) → IsSoFar c items before stored now
    → FetchesItem (from_chosen c) stored x now (Ok tt) more then → IsSoFar c (items ++ x ∷ []) before more then
so_far_more c items x before now then stored more s f =
    let one = subst (λ n. FetchesOne (from_chosen c) n x now.web (Ok tt) f.tried more then.web) s.names f.fetches in
    record {
      tried = s.tried ++ f.tried;
      in_turn = turn_then (from_chosen c) items x (names_in c) before.web now.web s.tried f.tried more then.web s.in_turn one;
      names = one_names (from_chosen c) _ x now.web f.tried more then.web one ∙ names_then (names_in c) s.tried f.tried;
      adds = adds_then s.tried f.tried before.shelf now.shelf then.shelf (turn_done (from_chosen c) items (names_in c) before.web s.tried now.web s.in_turn) s.adds f.adds;
    }

pub so_far_all : (c : Chosen) (items : List Selection) (before after : Lent) (stored : Names) → AreInstalled c → items ≡ c.sels.items → IsSoFar c items before stored after → FetchesAll c before (Ok stored) after
so_far_all c items before after stored installed e s =
    record { tried = s.tried; fetches = record { installed = installed; in_turn = subst (λ xs. FetchesInTurn (from_chosen c) (names_in c) xs before.web s.tried after.web) e s.in_turn; names = s.names }; adds = s.adds }

pub so_far_stops : (c : Chosen) (place : ℕ) (x : Selection) (before now then : Lent) (stored more : Names) (outcome : Outcome) → AreInstalled c → slice_get c.sels.items place ≡ Some x → IsSoFar c (take place c.sels.items) before stored now
    → FetchesItem (from_chosen c) stored x now (Err outcome) more then → FetchesAll c before (Err outcome) then
so_far_stops c place x before now then stored more outcome installed here s f = by f.fetches
  where
    done : AreDone s.tried
    done = turn_done (from_chosen c) (take place c.sels.items) (names_in c) before.web s.tried now.web s.in_turn

    by : FetchesOne (from_chosen c) stored x now.web (Err outcome) f.tried more then.web → FetchesAll c before (Err outcome) then
    by (inl (e, empty, same)) = record {
      tried = s.tried ++ f.tried;
      fetches = inr (inr (record {
        is = e;
        place = place;
        in_turn = subst (λ w. FetchesInTurn (from_chosen c) (names_in c) (take place c.sels.items) before.web (s.tried ++ f.tried) w) (sym same)
            (subst (λ ts. FetchesInTurn (from_chosen c) (names_in c) (take place c.sels.items) before.web ts now.web) (sym (append-nil s.tried) ∙ ap (λ ts. s.tried ++ ts) (sym empty)) s.in_turn);
      }));
      adds = adds_then s.tried f.tried before.shelf now.shelf then.shelf done s.adds f.adds;
    }
    by (inr (wanting, fails)) = record {
      tried = s.tried ++ f.tried;
      fetches = inr (inl (record {
        installed = installed;
        place = place;
        item = x;
        here = here;
        done = s.tried;
        mid = now.web;
        in_turn = s.in_turn;
        wanting = subst (λ n. is_there n x ≡ false) s.names wanting;
        last = f.tried;
        all = refl;
        fails = fails;
      }));
      adds = adds_then s.tried f.tried before.shelf now.shelf then.shelf done s.adds f.adds;
    }

-- memory was refused before the first
pub none_so_far : (c : Chosen) (lent : Lent) (outcome : Outcome) → outcome ≡ Memory → FetchesAll c lent (Err outcome) lent
none_so_far c lent outcome e =
    record { tried = []; fetches = inr (inr (record { is = e; place = 0; in_turn = (refl, refl) })); adds = adds_nothing lent.shelf }

-- a package isn't installed
pub package_lacks : (c : Chosen) (lent : Lent) (name : List ℕ) (outcome : Outcome) → first_uninstalled (from_chosen c) c.sels.items ≡ Some name → outcome ≡ NotInstalled name → FetchesAll c lent (Err outcome) lent
package_lacks c lent name outcome e is =
    record { tried = []; fetches = inl (record { name = name; first_is = e; is = is; none = refl; unasked = refl }); adds = adds_nothing lent.shelf }

-- The loop over the selections.
one_further : (items : List Selection) (i : ℕ) (x : Selection) → i < length items → x ≡ get_or items i x → take i items ++ x ∷ [] ≡ take (i + 1) items
one_further items i x lt at = sym (take_more items i x lt ∙ ap (λ y. take i items ++ y ∷ []) (sym at))

pub so_far_next : (c : Chosen) (items : List Selection) (i : ℕ) (x : Selection) (before now then : Lent) (stored more : Names) → i < length items → x ≡ get_or items i x → IsSoFar c (take i items) before stored now
    → FetchesItem (from_chosen c) stored x now (Ok tt) more then → IsSoFar c (take (i + 1) items) before more then
so_far_next c items i x before now then stored more lt at s f =
    subst (λ xs. IsSoFar c xs before more then) (one_further items i x lt at) (so_far_more c (take i items) x before now then stored more s f)

pub so_far_short : (c : Chosen) (items : List Selection) (i : ℕ) (x : Selection) (before now then : Lent) (stored more : Names) (outcome : Outcome) → AreInstalled c → items ≡ c.sels.items → i < length items → x ≡ get_or items i x
    → IsSoFar c (take i items) before stored now → FetchesItem (from_chosen c) stored x now (Err outcome) more then → FetchesAll c before (Err outcome) then
so_far_short c items i x before now then stored more outcome installed e lt at s f =
    so_far_stops c i x before now then stored more outcome installed (subst (λ xs. slice_get xs i ≡ Some x) e (slice_get_read items (length items) i x refl lt at))
    (subst (λ xs. IsSoFar c (take i xs) before stored now) e s) f

pub so_far_end : (c : Chosen) (items : List Selection) (i : ℕ) (before after : Lent) (stored : Names) → AreInstalled c → items ≡ c.sels.items → length items ≤ i → IsSoFar c (take i items) before stored after
    → FetchesAll c before (Ok stored) after
so_far_end c items i before after stored installed e le s = so_far_all c (take i items) before after stored installed (take_all i items le ∙ e) s

pub fetchable_now : (c : Chosen) (all items : List Selection) (i : ℕ) (x : Selection) (before now : Lent) (stored : Names) → All (IsFetchable (from_chosen c) (names_in c)) all → all ≡ items → i < length items → x ≡ get_or items i x
    → IsSoFar c (take i items) before stored now → IsFetchable (from_chosen c) stored x
fetchable_now c all items i x before now stored a e lt at s =
    subst (λ n. IsFetchable (from_chosen c) n x) (sym s.names)
    (fetchable_more (from_chosen c) (names_in c) (tried_names s.tried) x
    (subst (IsFetchable (from_chosen c) (names_in c)) (sym at) (subst (λ xs. All (IsFetchable (from_chosen c) (names_in c)) xs) e a i x lt)))
