-- What a download comes to, stage by stage.
use Rattle.std.proofs.Common.{◌≡◌, ℕ, suc, ◌⊎◌, inl, inr, Bool, true, false, ◌||◌, List, [], ◌∷◌, map, Option, Some, None, IsSome, is_some, refl, sym, ◌∙◌, ap, subst, arith, All, Contains, bytes_eq, Ok, Err}
use Rattle.std.specs.Prelude.{IsSomeAnd, option_map, option_and_then, filter_map, if◌then◌else◌}
use Rattle.std.specs.List.{list_any, position_from, cons_option}
use Rattle.std.proofs.lemmas.List.Elements.{All-nil, All-cons}
use Rattle.zi_digest.specs.declared.DigestName.{DigestName}
use Rattle.zi_digest.specs.Name.{spelling}
use Rattle.zi_tree.specs.Dir.{Dir}
use Rattle.zi_outside.specs.Views.{Feeding, Sinking}
use Rattle.zi_policy.specs.Platform.{listed}
use Rattle.zi_shelf.specs.Names.{Name, IsIn}
use Rattle.zi_shelf.specs.Shelved.{Top, Shelved}
use Rattle.zi_shelf.specs.Shelving.{Shelving, Stays}
use Rattle.zi_shelf.specs.Told.{Told}
use Rattle.zi_shelf.specs.declared.call.CallKind.{CallKind}
use Rattle.zi_store.specs.Keeping.{Keeps, is_names, is_reading}
use Rattle.zi_store.specs.Rising.{is_among}
use Rattle.zi_store.specs.Stores.{Each, IsCalm, HaveNames}
use Rattle.zi_store.specs.Finding.{spelled}
use Rattle.zi_store.proofs.KeepingLemmas.{keeps_none}
use Rattle.zi_universe.specs.Naming.{with_one, joined}
use Rattle.zi_universe.proofs.NamingLemmas.{joined_from, listed-without_repeats, listed-with_one, bytes_eq-true}
use Rattle.zi_reading.specs.Words.{first}
use Rattle.zi_parts.specs.declared.types.Package.{Package}
use Rattle.zi_universe.specs.Whole.{IsWhole}
use Rattle.zi_sels.specs.declared.types.Selection.{Selection}
use Rattle.zi_sels.specs.Written.{document}
use Rattle.zi_adding.specs.Trying.{Tried, IsDone, Adds, CostsAll}
use Rattle.zi_adding.specs.Gains.{Uses, IsKept, GainsOnly}
use Rattle.zi_adding.proofs.AddingLemmas.{adds_nothing}
use Rattle.zi_adding.proofs.HistoryLaws.{AreDone, costs_from, uses_gain, names_only_read, reads_use, some_kept}
use Rattle.zi_outcome.specs.declared.outcome.Outcome.{Outcome}
use Rattle.zi_outcome.specs.Writing.{Prints}
use Rattle.zi_world.specs.Places.{InStore, AreTold, place_by}
use Rattle.zi_world.proofs.PlacesLemmas.{each_by}
use Rattle.zi_world.proofs.StandLemmas.{Carries, keeps_carries, HasAt, in_no_list, stands_at, told_then, one_of_told}
use Rattle.zi_choosing.specs.declared.asked.Asked.{Asked}
use Rattle.zi_choosing.specs.declared.chosen.Chosen.{Chosen}
use Rattle.zi_choosing.specs.Knowing.{all_names}
use Rattle.zi_choosing.specs.Finding.{FindsBest}
use Rattle.zi_fetching.specs.Known.{Names, is_known, is_there}
use Rattle.zi_fetching.specs.Fetching.{From, from_chosen, package_of, IsInstalled, lacking, uninstalled, first_uninstalled, IsFetched, tried_names, names_in, FetchesInTurn, Fetches, FetchesAll}
use Rattle.zi_fetching.specs.Download.{HasChosen, StandsIn, AreThere, Downloads}
use Rattle.zi_fetching.proofs.FetchLaws.{turn_done, there_more}
use Rattle.zi_fetching.proofs.FetchableLaws.{IsNamedAs, all_named}
use Rattle.zi_fetching.proofs.WebLaws.{web_stays}
use Rattle.zi_world.proofs.AskingLemmas.{feeds_same}

-- What is done to the shelf.
pub used : (tried : List Tried) (before mid after : Shelving) → Keeps is_names before mid → Adds tried mid after → Uses tried before after
used tried before mid after k a = reads_use tried before mid after after (names_only_read before mid k) a (keeps_none is_reading after)

-- Nothing was chosen.
pub unfound : (asked : Asked) (old new : Feeding) (shelf mid : Shelving) (others thens : List Shelving) (web : Feeding) (out : Sinking) (outcome : Outcome)
    → FindsBest asked (record { feeds = old; stores = shelf ∷ others }) (record { feeds = new; stores = mid ∷ thens }) (Err outcome)
    → Downloads asked (record { feeds = old; shelf = shelf; others = others; web = web; out = out }) (record { feeds = new; shelf = mid; others = thens; web = web; out = out }) outcome
unfound asked old new shelf mid others thens web out outcome f =
    let u = used [] shelf mid mid f.stores.0 (adds_nothing mid) in
    record {
      feeds = f.feeds;
      web = feeds_same web;
      tried = [];
      comes = inl (f.answer, (refl, refl), refl);
      shelf = u;
      stored = uses_gain [] shelf mid u;
      others = f.stores.1;
    }

-- One of the selections wasn't fetched.
module _ (asked : Asked) (old new : Feeding) (shelf mid : Shelving) (others thens : List Shelving) (c : Chosen)
    (f : FindsBest asked (record { feeds = old; stores = shelf ∷ others }) (record { feeds = new; stores = mid ∷ thens }) (Ok c)) where
  pub chosen_so : HasChosen asked (shelf ∷ others) old c new
  chosen_so = record { names = f.answer.1.0.1; feeds = f.answer.0; table = f.answer.1.1; chosen = f.answer.2 }

  pub cost_so : (tried : List Tried) (after : Shelving) → Adds tried mid after → CostsAll tried shelf after
  cost_so tried after a = costs_from tried shelf mid after f.answer.1.0.0.0 f.stores.0.stays.sure a.cost

  pub calm_so : Each IsCalm others thens
  calm_so = f.answer.1.0.0.1

  pub unfetched : (web later : Feeding) (after : Shelving) (out : Sinking) (outcome : Outcome) → FetchesAll c (record { web = web; shelf = mid }) (Err outcome) (record { web = later; shelf = after })
      → Downloads asked (record { feeds = old; shelf = shelf; others = others; web = web; out = out }) (record { feeds = new; shelf = after; others = thens; web = later; out = out }) outcome
  unfetched web later after out outcome g =
      let u = used g.tried shelf mid after f.stores.0 g.adds in
      record {
        feeds = f.feeds;
        web = web_stays c web (Err outcome) g.tried later g.fetches;
        tried = g.tried;
        comes = inr (c, chosen_so, cost_so g.tried after g.adds, calm_so, inl (g.fetches, refl));
        shelf = u;
        stored = uses_gain g.tried shelf after u;
        others = f.stores.1;
      }

-- What is there at the end.
-- each of them is there once all were fetched
pub turn_there : (on : From) (xs : List Selection) (stored : Names) (old : Feeding) (tried : List Tried) (new : Feeding) → FetchesInTurn on stored xs old tried new
    → All (λ x. is_there (joined stored (tried_names tried)) x ≡ true) xs
turn_there on [] stored old tried new t = All-nil _
turn_there on (x ∷ xs) stored old tried new (inl (there, rest)) =
    All-cons (λ y. is_there (joined stored (tried_names tried)) y ≡ true) x xs (there_more stored (tried_names tried) x there) (turn_there on xs stored old tried new rest)
turn_there on (x ∷ xs) stored old tried new (inr (wanting, (a, rest, mid, is, fetched, turn))) =
    subst (λ ts. All (λ y. is_there (joined stored (tried_names ts)) y ≡ true) (x ∷ xs)) (sym is)
    (All-cons (λ y. is_there (joined stored (tried_names (a ∷ rest))) y ≡ true) x xs (own fetched) (turn_there on xs (with_one stored (spelling a.name)) mid rest new turn))
  where
    any_first : (p : DigestName → Bool) (ds : List DigestName) (d : DigestName) → first ds ≡ Some d → p d ≡ true → list_any p ds ≡ true
    any_first p [] d e h = absurd cc
    any_first p (y ∷ ys) d e h = let s : y ≡ d = cc in subst (λ b. (b || list_any p ys) ≡ true) (sym (ap p s ∙ h)) refl

    or_right : (b c : Bool) → c ≡ true → (b || c) ≡ true
    or_right true c h = refl
    or_right false c h = h

    own : IsFetched on x old a mid → is_there (joined stored (tried_names (a ∷ rest))) x ≡ true
    own f =
        there_more (with_one stored (spelling a.name)) (tried_names rest) x
        (or_right (is_some x.local || is_some x.«package») (list_any (is_known (with_one stored (spelling a.name))) x.digests)
        (any_first (is_known (with_one stored (spelling a.name))) x.digests a.name f.way.named (listed-with_one (spelling a.name) stored)))

-- a name among those of a list is that of one of them
among : {X : Type 0} (f : X → Name) (xs : List X) (n : Name) → listed n (map f xs) ≡ true → (x : X) × IsIn x xs × (f x ≡ n)
among f [] n h = absurd cc
among {X = X} f (x ∷ xs) n h = by (bytes_eq n (f x)) refl h (among f xs n)
  where
    by : (b : Bool) → bytes_eq n (f x) ≡ b → (b || listed n (map f xs)) ≡ true → (listed n (map f xs) ≡ true → (y : X) × IsIn y xs × (f y ≡ n)) → (y : X) × IsIn y (x ∷ xs) × (f y ≡ n)
    by true e h go = (x, inl refl, sym (bytes_eq-true n (f x) e))
    by false e h go = let r = go h in (r.0, inr r.1, r.2)

in_all : {X : Type 0} (P : X → Type 0) (xs : List X) (x : X) → All P xs → IsIn x xs → P x
in_all P [] x a i = absurd i
in_all P (y ∷ ys) x a (inl e) = subst P (sym e) (a 0 y (omega arith))
in_all P (y ∷ ys) x a (inr i) = in_all P ys x (λ k d lt. a (suc k) d (omega (arith, lt))) i

all_done : (xs : List Tried) → AreDone xs → All IsDone xs
all_done [] d = All-nil IsDone
all_done (x ∷ xs) (d, ds) = All-cons IsDone x xs d (all_done xs ds)

some_by : (o : Option (Top Dir)) (e : Top Dir) → o ≡ Some e → IsSome o
some_by o e at = subst (λ p. IsSome p) (sym at) refl

done_there : (t : Shelved Dir) (a : Tried) → IsDone a → IsKept t a a.answer → IsSome (t.tops (spelling a.name))
done_there t a (inl e) k = some_by _ _ (subst (λ x. IsKept t a x) e k)
done_there t a (inr e) k = subst (λ x. IsKept t a x) e k

any_of : (p : DigestName → Bool) (ds : List DigestName) → list_any p ds ≡ true → (d : DigestName) × Contains ds d × (p d ≡ true)
any_of p [] h = absurd cc
any_of p (x ∷ xs) h = by (p x) refl h (any_of p xs)
  where
    by : (b : Bool) → p x ≡ b → (b || list_any p xs) ≡ true → (list_any p xs ≡ true → (d : DigestName) × Contains xs d × (p d ≡ true)) → (d : DigestName) × Contains (x ∷ xs) d × (p d ≡ true)
    by true e h go = (x, (0, omega arith, refl), e)
    by false e h go = let r = go h in (r.0, (suc r.1.0, omega (arith, r.1.1), r.1.2), r.2)

-- what no store has isn't among the names of all
in_none : (n : Name) (j : ℕ) (each : List (List DigestName)) → position_from (λ ns. is_among ns n) j (spelled each) ≡ None → listed n (map spelling (all_names each)) ≡ true → ⊥
in_none n j each none h = let r = among spelling (all_names each) n h in in_no_list r.0 n j each r.2 r.1 none

-- Of packages that are selected each is installed.

none_first : {X Y : Type 0} (f : X → Option Y) (xs : List X) → first (filter_map f xs) ≡ None → All (λ x. f x ≡ None) xs
none_first f [] h = All-nil (λ x. f x ≡ None)
none_first {X = X} {Y = Y} f (x ∷ xs) h = by (f x) refl h (none_first f xs)
  where
    by : (o : Option Y) → f x ≡ o → first (cons_option o (filter_map f xs)) ≡ None → (first (filter_map f xs) ≡ None → All (λ y. f y ≡ None) xs) → All (λ y. f y ≡ None) (x ∷ xs)
    by None e h go = All-cons (λ y. f y ≡ None) x xs e (go h)
    by (Some y) e h go = absurd cc

is_installed : (o : Option Package) → is_some o ≡ true → option_and_then lacking o ≡ None → IsSomeAnd o (λ p. p.installed ≡ true)
is_installed None s h = absurd cc
is_installed (Some p) s h = by p.installed h
  where
    by : (b : Bool) → (if b then None else Some p.name) ≡ None → b ≡ true
    by true h = refl
    by false h = absurd cc

of_mapped : {X Y : Type 0} (f : X → Y) (o : Option X) → is_some (option_map f o) ≡ true → is_some o ≡ true
of_mapped f None h = absurd cc
of_mapped f (Some x) h = refl

installed_so : (on : From) (x : Selection) → IsNamedAs on x → uninstalled on x ≡ None → is_some x.«package» ≡ true → IsInstalled on x
installed_so on x named none some =
    is_installed (package_of on x.interface) (of_mapped (λ (p : Package). p.name) (package_of on x.interface) (subst (λ o. is_some o ≡ true) named some)) none

all_with : {X : Type 0} (P Q R : X → Type 0) (xs : List X) → ((x : X) → P x → Q x → R x) → All P xs → All Q xs → All R xs
all_with P Q R xs f a b = λ k d lt. f _ (a k d lt) (b k d lt)

-- where it is one, it is installed
abbrev IsInstalledIf : From → Selection → Type 0
IsInstalledIf on x = is_some x.«package» ≡ true → IsInstalled on x

pub all_installed : (on : From) (items : List Selection) → All (IsNamedAs on) items → first_uninstalled on items ≡ None → All (IsInstalledIf on) items
all_installed on items named none =
    all_with (IsNamedAs on) (λ x. uninstalled on x ≡ None) (IsInstalledIf on) items (λ x n u. installed_so on x n u) named (none_first (uninstalled on) items none)

-- It stands in the store of its place.
module _ (c : Chosen) (tried : List Tried) (done : AreDone tried) (kinds : CallKind → Bool) (shelf after : Shelving) (others thens : List Shelving) (names : HaveNames (shelf ∷ others) c.known.each)
    (gains : GainsOnly tried shelf after) (stays : Stays shelf after) (kept : Each (Keeps kinds) others thens) where
  carries : Each Carries (shelf ∷ others) (after ∷ thens)
  carries = (
    record {
      honest = λ h. stays.honest h;
      holds = λ s h e. let r = gains.gains s h e in (r.0, r.1, λ n some. some_kept (s.shelf.tops n) (r.0.shelf.tops n) some (r.2.kept n));
    },
    each_by (Keeps kinds) Carries (keeps_carries kinds) others thens kept,
  )

  -- what was added, or whose name was there
  tried_at : (n : Name) → listed n (tried_names tried) ≡ true → HasAt n shelf after
  tried_at n h s honest told =
      let r = gains.gains s honest told in
      let a = among (λ (x : Tried). spelling x.name) tried n h in (
        r.0,
        r.1,
        subst (λ m. IsSome (r.0.shelf.tops m)) a.2
            (done_there r.0.shelf a.0 (in_all IsDone tried a.0 (all_done tried done) a.1) (in_all (λ (x : Tried). IsKept r.0.shelf x x.answer) tried a.0 r.2.there a.1)),
      )

  pub name_at : (n : Name) → listed n (joined (names_in c) (tried_names tried)) ≡ true
      → InStore (place_by (position_from (λ ns. is_among ns n) 0 (spelled c.known.each))) (shelf ∷ others) (after ∷ thens) (HasAt n)
  name_at n h = stands_at n shelf after others thens c.known.each names carries (λ none. by none (joined_from n (names_in c) (tried_names tried) h))
    where
      by : position_from (λ ns. is_among ns n) 0 (spelled c.known.each) ≡ None → (listed n (names_in c) ≡ true) ⊎ (listed n (tried_names tried) ≡ true) → HasAt n shelf after
      by none (inl k) = absurd (in_none n 0 c.known.each none (sym (listed-without_repeats n (map spelling (all_names c.known.each))) ∙ k))
      by none (inr k) = tried_at n k

  -- so what is there has a tree in one of them
  pub stands : (x : Selection) → is_there (joined (names_in c) (tried_names tried)) x ≡ true → IsInstalledIf (from_chosen c) x → (ss : List Told) → AreTold (shelf ∷ others) ss → (ts : List Told) → AreTold (after ∷ thens) ts
      → StandsIn (from_chosen c) (map (λ (t : Told). t.shelf) ts) x
  stands x h installed ss told ts later = by x.local (is_some x.«package») refl refl h
    where
      by : (o : Option (List ℕ)) (p : Bool) → x.local ≡ o → is_some x.«package» ≡ p → (is_some o || p || list_any (is_known (joined (names_in c) (tried_names tried))) x.digests) ≡ true
          → StandsIn (from_chosen c) (map (λ (t : Told). t.shelf) ts) x
      by (Some path) p e q h = inl (subst (λ r. IsSome r) (sym e) refl)
      by None true e q h = inr (inl (installed q))
      by None false e q h =
          let r = any_of (is_known (joined (names_in c) (tried_names tried))) x.digests h in
          let s = one_of_told (λ (d : Shelved Dir). IsSome (d.tops (spelling r.0))) _ (shelf ∷ others) (after ∷ thens) (name_at (spelling r.0) r.2) ss told ts later in
          inr (inr (r.0, r.1, s.0, s.1, s.2))

  pub all_there : (items : List Selection) → All (λ x. is_there (joined (names_in c) (tried_names tried)) x ≡ true) items → All (IsInstalledIf (from_chosen c)) items
      → AreThere (from_chosen c) (shelf ∷ others) (after ∷ thens) items
  all_there items there installed ss told =
      let ts = told_then (shelf ∷ others) (after ∷ thens) carries ss told in (
        ts.0,
        ts.1,
        all_with (λ x. is_there (joined (names_in c) (tried_names tried)) x ≡ true) (IsInstalledIf (from_chosen c)) (StandsIn (from_chosen c) (map (λ (t : Told). t.shelf) ts.0)) items
            (λ x h i. stands x h i ss told ts.0 ts.1) there installed,
      )

-- All were fetched, and the document is printed.
pub fetched_and_printed : (asked : Asked) (old new : Feeding) (shelf mid : Shelving) (others thens : List Shelving) (c : Chosen)
    (f : FindsBest asked (record { feeds = old; stores = shelf ∷ others }) (record { feeds = new; stores = mid ∷ thens }) (Ok c)) (web later : Feeding) (after : Shelving) (out written : Sinking) (stored : Names) (outcome : Outcome)
    → IsWhole c.universe → FetchesAll c (record { web = web; shelf = mid }) (Ok stored) (record { web = later; shelf = after }) → Prints (document c.sels) out written outcome
    → Downloads asked (record { feeds = old; shelf = shelf; others = others; web = web; out = out }) (record { feeds = new; shelf = after; others = thens; web = later; out = written }) outcome
fetched_and_printed asked old new shelf mid others thens c f web later after out written stored outcome whole g p =
    let u = used g.tried shelf mid after f.stores.0 g.adds in
    let gains = uses_gain g.tried shelf after u in
    let turn = g.fetches.in_turn in
    record {
      feeds = f.feeds;
      web = web_stays c web (Ok stored) g.tried later g.fetches;
      tried = g.tried;
      comes = inr (
        c,
        chosen_so asked old new shelf mid others thens c f,
        cost_so asked old new shelf mid others thens c f g.tried after g.adds,
        calm_so asked old new shelf mid others thens c f,
        inr (record {
          stored = stored;
          fetched = g.fetches;
          there = all_there c g.tried (turn_done (from_chosen c) c.sels.items (names_in c) web g.tried later turn) is_names shelf after others thens f.answer.1.0.1 gains u.stays f.stores.1
              c.sels.items (turn_there (from_chosen c) c.sels.items (names_in c) web g.tried later turn)
              (all_installed (from_chosen c) c.sels.items (all_named asked.ask f.answer.0 new c whole f.answer.2) g.fetches.installed);
          printed = p;
        }),
      );
      shelf = u;
      stored = gains;
      others = f.stores.1;
    }
