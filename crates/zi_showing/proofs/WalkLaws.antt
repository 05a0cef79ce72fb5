-- The walk in steps and the trees: what is shown step by step are the selections of the document's trees.
use Rattle.std.proofs.Common.{◌≡◌, ℕ, zero, suc, ◌+◌, ◌≤◌, Bool, true, false, cond, List, [], ◌∷◌, ◌++◌, map, length, refl, sym, ap, ◌∙◌, subst, append_assoc, arith, ◌||◌, ◌⊎◌, inl, inr, Option, Some, None}
use Rattle.std.specs.Prelude.{bytes_eq, if◌then◌else◌}
use Rattle.std.proofs.lemmas.List.{append-nil}
use Rattle.zi_policy.specs.Platform.{listed}
use Rattle.zi_feed.proofs.LatestLaws.{text_swap}
use Rattle.zi_sels.specs.declared.types.Selection.{Selection}
use Rattle.zi_sels.specs.declared.types.Selections.{Selections}
use Rattle.zi_showing.specs.Tree.{needs, selected_for, still_to_show, Trees, none, tree, Grow, ends, passes, grows, all_asked, AreTrees}
use Rattle.zi_showing.specs.Text.{deeper}
use Rattle.zi_showing.specs.Steps.{Left, left_in, AreLeft, Todo, at_level, ArePassed, Passes, FindsNext, places_of, AreWalked}

-- So many steps from what is asked for show these: the first of it has nothing still to show; or it is shown, and what that needs is asked for next.
abbrev pub Places : Type 0
Places = List (Selection × ℕ)

abbrev pub Goes : List Selection → ℕ → List (List ℕ) → Todo → Places → Type 0
Goes items zero shown todo ps = (todo ≡ []) × (ps ≡ [])
Goes items (suc k) shown [] ps = ⊥
Goes items (suc k) shown (w ∷ rest) ps =
    ((still_to_show items shown w.0 ≡ None) × Goes items k shown rest ps)
    ⊎ ((x : Selection) × (qs : Places) × (still_to_show items shown w.0 ≡ Some x) × (ps ≡ (x, w.1) ∷ qs) × Goes items k (w.0 ∷ shown) (at_level (deeper w.1) (needs x) ++ rest) qs)

-- What steps show of addresses that are asked for at one level, and what is left behind them.
pub record Split (items : List Selection) (k level : ℕ) (us : List (List ℕ)) (rest : Todo) (shown : List (List ℕ)) (ps : Places) : Type 0 where
  pub trees : Trees
  pub after : List (List ℕ)
  pub grow : Grow items shown us trees after
  pub steps : ℕ
  pub fewer : steps ≤ k
  pub left : Places
  pub goes : Goes items steps after rest left
  pub are : ps ≡ places_of level trees ++ left

abbrev Splits : List Selection → ℕ → Type 0
Splits items fuel = (k level : ℕ) (us : List (List ℕ)) (rest : Todo) (shown : List (List ℕ)) (ps : Places) → k ≤ fuel → Goes items k shown (at_level level us ++ rest) ps → Split items k level us rest shown ps

-- no address is asked for at that level
split_none : (items : List Selection) (k level : ℕ) (rest : Todo) (shown : List (List ℕ)) (ps : Places) → Goes items k shown rest ps → Split items k level [] rest shown ps
split_none items k level rest shown ps g = record {
  trees = none;
  after = shown;
  grow = ends;
  steps = k;
  fewer = omega arith;
  left = ps;
  goes = g;
  are = refl;
}

-- the first has nothing still to show
split_pass : (items : List Selection) (k level : ℕ) (u : List ℕ) (us : List (List ℕ)) (rest : Todo) (shown : List (List ℕ)) (ps : Places) → still_to_show items shown u ≡ None
    → Split items k level us rest shown ps → Split items (suc k) level (u ∷ us) rest shown ps
split_pass items k level u us rest shown ps e s = record {
  trees = s.trees;
  after = s.after;
  grow = passes e s.grow;
  steps = s.steps;
  fewer = omega (arith, s.fewer);
  left = s.left;
  goes = s.goes;
  are = s.are;
}

-- it is shown: what it needs, and then the others
split_show : (items : List Selection) (k level : ℕ) (u : List ℕ) (us : List (List ℕ)) (rest : Todo) (shown : List (List ℕ)) (ps qs : Places) (x : Selection) → still_to_show items shown u ≡ Some x
    → ps ≡ (x, level) ∷ qs → (b : Split items k (deeper level) (needs x) (at_level level us ++ rest) (u ∷ shown) qs) → Split items b.steps level us rest b.after b.left
    → Split items (suc k) level (u ∷ us) rest shown ps
split_show items k level u us rest shown ps qs x e is b n = record {
  trees = tree x b.trees n.trees;
  after = n.after;
  grow = grows x e b.grow n.grow;
  steps = n.steps;
  fewer = omega (arith, b.fewer, n.fewer);
  left = n.left;
  goes = n.goes;
  are = is
      ∙ ap (λ v. (x, level) ∷ v) (b.are ∙ ap (λ v. places_of (deeper level) b.trees ++ v) n.are ∙ sym (append_assoc (places_of (deeper level) b.trees) (places_of level n.trees) n.left));
}

split : (items : List Selection) (fuel : ℕ) → Splits items fuel
split items fuel k level [] rest shown ps le g = split_none items k level rest shown ps g
split items fuel zero level (u ∷ us) rest shown ps le (e, f) = cc
split items zero (suc k) level (u ∷ us) rest shown ps le g = absurd (omega (arith, le))
split items (suc fuel) (suc k) level (u ∷ us) rest shown ps le (inl (e, g)) =
    split_pass items k level u us rest shown ps e (split items fuel k level us rest shown ps (omega (arith, le)) g)
split items (suc fuel) (suc k) level (u ∷ us) rest shown ps le (inr (x, qs, e, is, g)) =
    let b = split items fuel k (deeper level) (needs x) (at_level level us ++ rest) (u ∷ shown) qs (omega (arith, le)) g in
    split_show items k level u us rest shown ps qs x e is b (split items fuel b.steps level us rest b.after b.left (omega (arith, le, b.fewer)) b.goes)

-- nothing is shown where nothing is asked for
none_left : (items : List Selection) (k : ℕ) (shown : List (List ℕ)) (ps : Places) → Goes items k shown [] ps → ps ≡ []
none_left items zero shown ps (e, f) = f
none_left items (suc k) shown ps g = absurd g

-- All steps from what is asked for at first show the selections of the trees.
pub walked : (sels : Selections) (k : ℕ) (ps : Places) → Goes sels.items k [] (at_level 0 (all_asked sels)) ps → AreWalked sels ps
walked sels k ps g =
    let P : Todo → Type 0 = λ todo. Goes sels.items k [] todo ps in
    let s = split sels.items k k 0 (all_asked sels) [] [] ps (omega arith) (subst P (sym (append-nil (at_level 0 (all_asked sels)))) g) in
    let e = none_left sels.items s.steps s.after s.left s.goes in
    (s.trees, (s.after, s.grow), s.are ∙ ap (λ v. places_of 0 s.trees ++ v) e ∙ append-nil (places_of 0 s.trees))

-- Where the walk has come: what has still to be shown, and that the steps that are left make a whole of it.
pub record Walking (sels : Selections) (left : Left) (todo : Todo) (places : Places) : Type 0 where
  pub shown : List (List ℕ)
  pub are : AreLeft (still_to_show sels.items shown) left
  pub goes : (k : ℕ) (ps : Places) → Goes sels.items k shown todo ps → (m : ℕ) × Goes sels.items m [] (at_level 0 (all_asked sels)) (places ++ ps)

pub begins : (sels : Selections) (left : Left) (todo : Todo) (places : Places) → AreLeft (selected_for sels.items) left → todo ≡ at_level 0 (all_asked sels) → places ≡ []
    → Walking sels left todo places
begins sels left todo places are is empty = record {
  shown = [];
  are = are;
  goes = λ k ps g.
      let P : Todo → Type 0 = λ t. Goes sels.items k [] t ps in
      let Q : Places → Type 0 = λ v. Goes sels.items k [] (at_level 0 (all_asked sels)) v in
      (k, subst Q (sym (ap (λ v. v ++ ps) empty)) (subst P is g));
}

-- what is passed takes a step each
passed : (items : List Selection) (shown : List (List ℕ)) (front new : Todo) (k : ℕ) (ps : Places) → ArePassed (still_to_show items shown) front → Goes items k shown new ps
    → (m : ℕ) × Goes items m shown (front ++ new) ps
passed items shown [] new k ps p g = (k, g)
passed items shown (w ∷ front) new k ps (e, p) g = let r = passed items shown front new k ps p g in (suc r.0, inl (e, r.1))

-- what is left is what has still to be shown
still_passed : (f g : List ℕ → Option Selection) (ws : Todo) → ((u : List ℕ) → f u ≡ g u) → ArePassed f ws → ArePassed g ws
still_passed f g [] e p = tt
still_passed f g (w ∷ ws) e (h, p) = (sym (e w.0) ∙ h, still_passed f g ws e p)

still_without : (items : List Selection) (shown : List (List ℕ)) (u q : List ℕ) → cond (bytes_eq u q) None (still_to_show items shown q) ≡ still_to_show items (u ∷ shown) q
still_without items shown u q = by (bytes_eq u q) (bytes_eq q u) (swapped u q)
  where
    swapped : (a b : List ℕ) → bytes_eq a b ≡ bytes_eq b a
    swapped a b = text_swap a b

    by : (a b : Bool) → a ≡ b → cond a None (still_to_show items shown q) ≡ (if b || listed q shown then None else selected_for items q)
    by true true e = refl
    by true false e = cc
    by false true e = cc
    by false false e = refl

-- one more is shown
pub shows_next : (sels : Selections) (left later : Left) (old mid new : Todo) (places more : Places) (x : Selection) (level : ℕ) → FindsNext left old (Some (x, level)) later mid
    → new ≡ at_level (deeper level) (needs x) ++ mid → more ≡ places ++ (x, level) ∷ [] → Walking sels left old places → Walking sels later new more
shows_next sels left later old mid new places more x level (u, (front, is, are), e, others, fewer) asked added w = record {
  shown = u ∷ w.shown;
  are = λ q. others q ∙ ap (cond (bytes_eq u q) None) (w.are q) ∙ still_without sels.items w.shown u q;
  goes = λ k ps g.
      let P : Todo → Type 0 = λ t. Goes sels.items k (u ∷ w.shown) t ps in
      let Q : Todo → Type 0 = λ t. (m : ℕ) × Goes sels.items m w.shown t ((x, level) ∷ ps) in
      let R : Places → Type 0 = λ v. (m : ℕ) × Goes sels.items m [] (at_level 0 (all_asked sels)) v in
      let here : Goes sels.items (suc k) w.shown ((u, level) ∷ mid) ((x, level) ∷ ps) = inr (x, ps, sym (w.are u) ∙ e, refl, subst P asked g) in
      let all = subst Q (sym is) (passed sels.items w.shown front ((u, level) ∷ mid) (suc k) ((x, level) ∷ ps) (still_passed (left_in left) (still_to_show sels.items w.shown) front w.are are) here) in
      subst R (sym (ap (λ v. v ++ ps) added ∙ append_assoc places ((x, level) ∷ []) ps)) (w.goes all.0 ((x, level) ∷ ps) all.1);
}

-- no more is
pub shows_all : (sels : Selections) (left later : Left) (old new : Todo) (places : Places) → FindsNext left old None later new → Walking sels left old places → AreWalked sels places
shows_all sels left later old new places ((front, is, are), e) w =
    let Q : Todo → Type 0 = λ t. (m : ℕ) × Goes sels.items m w.shown t [] in
    let all = subst Q (sym is) (passed sels.items w.shown front [] 0 [] (still_passed (left_in left) (still_to_show sels.items w.shown) front w.are are) (refl, refl)) in
    let r = w.goes all.0 [] all.1 in
    let P : Places → Type 0 = λ v. Goes sels.items r.0 [] (at_level 0 (all_asked sels)) v in
    walked sels r.0 places (subst P (append-nil places) r.1)
