-- What one stop more says.
use Rattle.std.proofs.Common.{◌≡◌, ◌≢◌, ℕ, zero, suc, ◌+◌, ◌<◌, ◌≤◌, ◌==◌, Bool, true, false, cond, ◌||◌, List, [], ◌∷◌, ◌++◌, map, length, get_or, set, take, refl, sym, ap, ◌∙◌, subst, arith, append_assoc, eqb-true, eq-eqb, get_or-set_same, get_or-set_other, Vec, Global, Option, Some, None, if◌then◌else◌}
use Rattle.std.specs.Prelude.{filter, find, option_map, slice_get}
use Rattle.std.specs.Option.{option_or}
use Rattle.std.specs.List.{list_any}
use Rattle.std.specs.Cmp.{both_ways}
use Rattle.std.proofs.lemmas.List.{map-set, map-append, length-map, get_or-map, append-nil, flat_map_more, take_all}
use Rattle.std.proofs.lemmas.List.Elements.{filter-append}
use Rattle.std.proofs.lemmas.List.Folds.{find-append, list_any-append}
use Rattle.std.proofs.lemmas.Bool.{false≢true}
use Rattle.std.proofs.lemmas.Option.{same_Some}
use Rattle.zi_feed.specs.IdLaws.{none_some}
use Rattle.zi_policy.specs.declared.types.Width.{Width}
use Rattle.zi_policy.specs.declared.types.Width.TheVariants.{Any, Bits32, Bits64}
use Rattle.zi_parts.specs.declared.types.Dep.{Dep}
use Rattle.zi_parts.specs.declared.types.Command.{Command}
use Rattle.zi_universe.specs.declared.types.Candidate.{Candidate}
use Rattle.zi_universe.specs.declared.types.Interface.{Interface}
use Rattle.zi_choice.specs.declared.traced.Stop.{Stop}
use Rattle.zi_choice.specs.declared.traced.Stop.TheVariants.{Came, Needed}
use Rattle.zi_choice.specs.Choice.{Choice, number, chosen, command_at, deps_of, needs_of}
use Rattle.zi_choice.specs.Valid.{group}
use Rattle.zi_choice.specs.Stops.{is_came, came_to, interface_of}
use Rattle.zi_why.specs.declared.known.Owned.{Owned}
use Rattle.zi_why.specs.declared.known.Known.{Known}
use Rattle.zi_why.specs.declared.setting.Setting.{Setting}
use Rattle.zi_why.specs.Reasons.{Owned as AnOwned, owned_by, owned_at, needs_at, owned, is_number, is_on, bearing, are_apart, is_of_other, is_other_at, of_other_bits}
use Rattle.zi_why.specs.Known.{as_owned, row_at, RowsAre, AreEmpty, same_width, is_of_width, is_width_at, first_of_width, other_of, KnowsOf, Knows, universe_of, picks_of, before}
use Rattle.zi_why.proofs.FindLaws.{find_on, find_none}

-- Rows.

row_here : (rs : List (Vec Owned Global)) (r : ℕ) (v : Vec Owned Global) → r < length rs → row_at (set rs r v) r ≡ v.items
row_here rs r v low =
    let f = λ (x : Vec Owned Global). x.items in
    ap (λ (xs : List (List Owned)). get_or xs r []) (map-set f rs r v)
    ∙ get_or-set_same (map f rs) r v.items [] (omega (arith, length-map rs f))

row_other : (rs : List (Vec Owned Global)) (r q : ℕ) (v : Vec Owned Global) → q ≢ r → row_at (set rs r v) q ≡ row_at rs q
row_other rs r q v other =
    let f = λ (x : Vec Owned Global). x.items in
    ap (λ (xs : List (List Owned)). get_or xs q []) (map-set f rs r v) ∙ get_or-set_other (map f rs) r q v.items [] other

row_read : (rs : List (Vec Owned Global)) (r : ℕ) (v : Vec Owned Global) → r < length rs → v ≡ get_or rs r v → v.items ≡ row_at rs r
row_read rs r v low is =
    let f = λ (x : Vec Owned Global). x.items in
    ap f is ∙ sym (get_or-map f rs r v [] low)

pub row_more : (rs : List (Vec Owned Global)) (r : ℕ) (o : Owned) (u v : Vec Owned Global) → r < length rs → u ≡ get_or rs r u → v.items ≡ u.items ++ o ∷ [] → (q : ℕ) → row_at (set rs r v) q ≡ row_at rs q ++ cond (r == q) (o ∷ []) []
row_more rs r o u v low is e q = at (r == q) refl
  where
    at : (b : Bool) → (r == q) ≡ b → row_at (set rs r v) q ≡ row_at rs q ++ cond b (o ∷ []) []
    at true h =
        let same : q ≡ r = sym (eqb-true r q h) in
        subst (λ x. row_at (set rs r v) x ≡ row_at rs x ++ o ∷ []) (sym same) (row_here rs r v low ∙ e ∙ ap (λ xs. xs ++ o ∷ []) (row_read rs r u low is))
    at false h = row_other rs r q v (λ same. false≢true (sym h ∙ eq-eqb r q (sym same))) ∙ sym (append-nil (row_at rs q))

one_owned : (b : Bool) (o : Owned) → map as_owned (cond b (o ∷ []) []) ≡ cond b (as_owned o ∷ []) []
one_owned true o = refl
one_owned false o = refl

abbrev added : Owned → Option ℕ → ℕ → List AnOwned
added o at q = cond (is_number q at) (as_owned o ∷ []) []

pub indexed : (u : List Interface) (rs ss : List (Vec Owned Global)) (os : List AnOwned) (o : Owned) (i : ℕ) → length ss ≡ length rs → number u o.dep.now.interface ≡ Some i → ((q : ℕ) → row_at ss q ≡ row_at rs q ++ cond (i == q) (o ∷ []) []) → RowsAre u rs os → RowsAre u ss (os ++ as_owned o ∷ [])
indexed u rs ss os o i len at more h q lt =
    ap (map as_owned) (more q) ∙ map-append as_owned (row_at rs q) (cond (i == q) (o ∷ []) []) ∙ ap (λ xs. map as_owned (row_at rs q) ++ xs) (one_owned (i == q) o)
    ∙ ap (λ xs. xs ++ cond (i == q) (as_owned o ∷ []) []) (h q (omega (arith, lt, len)))
    ∙ ap (λ n. filter (is_on u q) os ++ added o n q) (sym at) ∙ sym (filter-append (is_on u q) os (as_owned o ∷ []))

pub not_indexed : (u : List Interface) (rs : List (Vec Owned Global)) (os : List AnOwned) (o : Owned) → number u o.dep.now.interface ≡ None → RowsAre u rs os → RowsAre u rs (os ++ as_owned o ∷ [])
not_indexed u rs os o none h q lt =
    h q lt ∙ sym (append-nil (filter (is_on u q) os)) ∙ ap (λ n. filter (is_on u q) os ++ added o n q) (sym none) ∙ sym (filter-append (is_on u q) os (as_owned o ∷ []))

-- the first dependencies, and one more
take_one : {A : Type 0} (xs : List A) (n : ℕ) (x : A) → slice_get xs n ≡ Some x → take (suc n) xs ≡ take n xs ++ x ∷ []
take_one [] n x e = absurd (none_some e)
take_one (y ∷ ys) zero x e = ap (λ z. z ∷ []) (same_Some _ _ e)
take_one (y ∷ ys) (suc n) x e = ap (λ zs. y ∷ zs) (take_one ys n x e)

pub take_next : {A : Type 0} (xs : List A) (n : ℕ) (x : A) → slice_get xs n ≡ Some x → take (n + 1) xs ≡ take n xs ++ x ∷ []
take_next xs n x e = let z : n + 1 ≡ suc n = omega arith in ap (λ m. take m xs) z ∙ take_one xs n x e

pub owned_next : (u : List Interface) (rows : List (Vec Owned Global)) (os : List AnOwned) (w : ℕ) (ds : List Dep) (n : ℕ) (d : Dep) → slice_get ds n ≡ Some d
    → RowsAre u rows ((os ++ map (owned_by w) (take n ds)) ++ owned_by w d ∷ []) → RowsAre u rows (os ++ map (owned_by w) (take (n + 1) ds))
owned_next u rows os w ds n d e h =
    subst (RowsAre u rows)
    (append_assoc os (map (owned_by w) (take n ds)) (owned_by w d ∷ []) ∙ ap (λ xs. os ++ xs) (sym (map-append (owned_by w) (take n ds) (d ∷ [])) ∙ ap (map (owned_by w)) (sym (take_next ds n d e))))
    h

pub owned_none : (u : List Interface) (rows : List (Vec Owned Global)) (os : List AnOwned) (w : ℕ) (ds : List Dep) → RowsAre u rows os → RowsAre u rows (os ++ map (owned_by w) (take 0 ds))
owned_none u rows os w ds h = subst (RowsAre u rows) (sym (append-nil os)) h

pub owned_whole : (u : List Interface) (rows : List (Vec Owned Global)) (os : List AnOwned) (w : ℕ) (ds : List Dep) (n l : ℕ) → l ≡ length ds → l ≤ n → RowsAre u rows (os ++ map (owned_by w) (take n ds)) → RowsAre u rows (os ++ map (owned_by w) ds)
owned_whole u rows os w ds n l e le h = subst (λ xs. RowsAre u rows (os ++ map (owned_by w) xs)) (take_all n ds (subst (λ m. m ≤ n) e le)) h

pub owned_then : (u : List Interface) (rows : List (Vec Owned Global)) (os : List AnOwned) (w : ℕ) (ds : List Dep) (d : Dep) → RowsAre u rows ((os ++ map (owned_by w) ds) ++ owned_by w d ∷ []) → RowsAre u rows (os ++ map (owned_by w) (ds ++ d ∷ []))
owned_then u rows os w ds d h =
    subst (RowsAre u rows) (append_assoc os (map (owned_by w) ds) (owned_by w d ∷ []) ∙ ap (λ xs. os ++ xs) (sym (map-append (owned_by w) ds (d ∷ [])))) h

pub owned_more : (u : List Interface) (s : Choice) (xs : List Stop) (x : Stop) → owned u s (xs ++ x ∷ []) ≡ owned u s xs ++ owned_at u s x
owned_more u s xs x = sym (flat_map_more (owned_at u s) [] xs x)

pub rows_more : (u : List Interface) (s : Choice) (rows : List (Vec Owned Global)) (xs : List Stop) (x : Stop) (os : List AnOwned) → owned_at u s x ≡ os → RowsAre u rows (owned u s xs ++ os) → RowsAre u rows (owned u s (xs ++ x ∷ []))
rows_more u s rows xs x os e h = subst (RowsAre u rows) (ap (λ ys. owned u s xs ++ ys) (sym e) ∙ sym (owned_more u s xs x)) h

pub rows_same : (u : List Interface) (s : Choice) (rows : List (Vec Owned Global)) (xs : List Stop) (x : Stop) → owned_at u s x ≡ [] → RowsAre u rows (owned u s xs) → RowsAre u rows (owned u s (xs ++ x ∷ []))
rows_same u s rows xs x e h = rows_more u s rows xs x [] e (subst (RowsAre u rows) (sym (append-nil (owned u s xs))) h)

-- what was come to

nat_turn : (i j : ℕ) → (i == j) ≡ (j == i)
nat_turn i j = both_ways (i == j) (j == i) (λ e. eq-eqb j i (sym (eqb-true i j e))) (λ e. eq-eqb i j (sym (eqb-true j i e)))

pub eq_so : (i j : ℕ) → i ≡ j → (i == j) ≡ true
eq_so i j e = eq-eqb i j e

pub eq_not : (i j : ℕ) → i ≢ j → (i == j) ≡ false
eq_not i j e = at (i == j) refl
  where
    at : (b : Bool) → (i == j) ≡ b → b ≡ false
    at true f = absurd (e (eqb-true i j f))
    at false f = refl

or_false : (b : Bool) → (b || false) ≡ b
or_false true = refl
or_false false = refl

abbrev among : List ℕ → ℕ → Bool
among ks j = list_any (λ k. j == k) ks

came_one : (xs : List Stop) (i j : ℕ) → came_to (xs ++ Came i ∷ []) j ≡ (came_to xs j || (i == j))
came_one xs i j = list_any-append (is_came j) xs (Came i ∷ []) ∙ ap (λ b. came_to xs j || b) (or_false (i == j))

pub came_more : (ks js : List ℕ) (xs : List Stop) (i : ℕ) → js ≡ (if among ks i then ks else ks ++ i ∷ []) → ((j : ℕ) → among ks j ≡ came_to xs j) → (j : ℕ) → among js j ≡ came_to (xs ++ Came i ∷ []) j
came_more ks js xs i e h j = ap (λ ls. among ls j) e ∙ at (among ks i) refl ∙ sym (came_one xs i j)
  where
    by : (c : Bool) → (i == j) ≡ c → among ks i ≡ true → among ks j ≡ (came_to xs j || c)
    by true f g = subst (λ k. among ks k ≡ true) (eqb-true i j f) g ∙ sym (ap (λ b. b || true) (sym (h j) ∙ subst (λ k. among ks k ≡ true) (eqb-true i j f) g))
    by false f g = h j ∙ sym (or_false (came_to xs j))

    at : (b : Bool) → among ks i ≡ b → among (if b then ks else ks ++ i ∷ []) j ≡ (came_to xs j || (i == j))
    at true g = by (i == j) refl g
    at false g = list_any-append (λ k. j == k) ks (i ∷ []) ∙ ap (λ b. b || ((j == i) || false)) (h j) ∙ ap (λ b. came_to xs j || b) (or_false (j == i) ∙ nat_turn j i)

pub came_same : (ks : List ℕ) (xs : List Stop) (i : ℕ) (name : List ℕ) → ((j : ℕ) → among ks j ≡ came_to xs j) → (j : ℕ) → among ks j ≡ came_to (xs ++ Needed i name ∷ []) j
came_same ks xs i name h j = h j ∙ sym (list_any-append (is_came j) xs (Needed i name ∷ []) ∙ or_false (came_to xs j))

-- the first of a bit group

map_or : {A B : Type 0} (f : A → B) (o p : Option A) → option_map f (option_or o p) ≡ option_or (option_map f o) (option_map f p)
map_or f None p = refl
map_or f (Some x) p = refl

or_none : {A : Type 0} (o : Option A) → option_or o None ≡ o
or_none None = refl
or_none (Some x) = refl

one_found : (b : Bool) (i : ℕ) → option_map interface_of (cond b (Some (Came i)) None) ≡ cond b (Some i) None
one_found true i = refl
one_found false i = refl

pub width_more : (u : List Interface) (s : Choice) (w : Width) (xs : List Stop) (i : ℕ) (old : Option ℕ) → old ≡ first_of_width u s w xs → option_or old (cond (is_of_width w (chosen u s i)) (Some i) None) ≡ first_of_width u s w (xs ++ Came i ∷ [])
width_more u s w xs i old e =
    ap (λ o. option_or o (cond (is_of_width w (chosen u s i)) (Some i) None)) e
    ∙ ap (λ o. option_or (first_of_width u s w xs) o) (sym (one_found (is_of_width w (chosen u s i)) i))
    ∙ sym (map_or interface_of (find (is_width_at u s w) xs) (find (is_width_at u s w) (Came i ∷ [])))
    ∙ ap (option_map interface_of) (sym (find-append (is_width_at u s w) xs (Came i ∷ [])))

pub width_same : (u : List Interface) (s : Choice) (w : Width) (xs : List Stop) (i : ℕ) (name : List ℕ) (old : Option ℕ) → old ≡ first_of_width u s w xs → old ≡ first_of_width u s w (xs ++ Needed i name ∷ [])
width_same u s w xs i name old e =
    e ∙ ap (option_map interface_of) (sym (find-append (is_width_at u s w) xs (Needed i name ∷ []) ∙ or_none (find (is_width_at u s w) xs)))

-- one stop more

pub come_none : (u : List Interface) (s : Choice) (xs : List Stop) (i : ℕ) (a b : Known) → chosen u s i ≡ None → b.bearing ≡ a.bearing → b.narrow ≡ a.narrow → b.wide ≡ a.wide
    → b.came.keys ≡ (if among a.came.keys i then a.came.keys else a.came.keys ++ i ∷ []) → KnowsOf u s xs a → KnowsOf u s (xs ++ Came i ∷ []) b
come_none u s xs i a b none rows narrow wide came k = record {
  len = ap (λ v. length v.items) rows ∙ k.len;
  rows = subst (λ v. RowsAre u v.items (owned u s (xs ++ Came i ∷ []))) (sym rows) (rows_same u s a.bearing.items xs (Came i) (ap (λ o. map (owned_by i) (deps_of o)) none) k.rows);
  came = came_more a.came.keys b.came.keys xs i came k.came;
  narrow = narrow ∙ stays Bits32 a.narrow k.narrow;
  wide = wide ∙ stays Bits64 a.wide k.wide;
}
  where
    stays : (w : Width) (old : Option ℕ) → old ≡ first_of_width u s w xs → old ≡ first_of_width u s w (xs ++ Came i ∷ [])
    stays w old e = sym (or_none old) ∙ ap (λ o. option_or old (cond (is_of_width w o) (Some i) None)) (sym none) ∙ width_more u s w xs i old e

pub come_some : (u : List Interface) (s : Choice) (xs : List Stop) (i : ℕ) (k : Candidate) (a b : Known) → chosen u s i ≡ Some k → length b.bearing.items ≡ length a.bearing.items
    → ((os : List AnOwned) → RowsAre u a.bearing.items os → RowsAre u b.bearing.items (os ++ map (owned_by i) k.imp.deps))
    → b.narrow ≡ option_or a.narrow (cond (same_width Bits32 (group k)) (Some i) None) → b.wide ≡ option_or a.wide (cond (same_width Bits64 (group k)) (Some i) None)
    → b.came.keys ≡ (if among a.came.keys i then a.came.keys else a.came.keys ++ i ∷ []) → KnowsOf u s xs a → KnowsOf u s (xs ++ Came i ∷ []) b
come_some u s xs i k a b some len rows narrow wide came h = record {
  len = len ∙ h.len;
  rows = rows_more u s b.bearing.items xs (Came i) (map (owned_by i) k.imp.deps) (ap (λ o. map (owned_by i) (deps_of o)) some) (rows (owned u s xs) h.rows);
  came = came_more a.came.keys b.came.keys xs i came h.came;
  narrow = narrow ∙ more Bits32 a.narrow h.narrow;
  wide = wide ∙ more Bits64 a.wide h.wide;
}
  where
    more : (w : Width) (old : Option ℕ) → old ≡ first_of_width u s w xs → option_or old (cond (same_width w (group k)) (Some i) None) ≡ first_of_width u s w (xs ++ Came i ∷ [])
    more w old e = ap (λ o. option_or old (cond (is_of_width w o) (Some i) None)) (sym some) ∙ width_more u s w xs i old e

pub need_none : (u : List Interface) (s : Choice) (xs : List Stop) (i : ℕ) (name : List ℕ) (a : Known) → command_at u s i name ≡ None → KnowsOf u s xs a → KnowsOf u s (xs ++ Needed i name ∷ []) a
need_none u s xs i name a none h = record {
  len = h.len;
  rows = rows_same u s a.bearing.items xs (Needed i name) (ap (λ o. map (owned_by i) (needs_at o)) none) h.rows;
  came = came_same a.came.keys xs i name h.came;
  narrow = width_same u s Bits32 xs i name a.narrow h.narrow;
  wide = width_same u s Bits64 xs i name a.wide h.wide;
}

pub need_some : (u : List Interface) (s : Choice) (xs : List Stop) (i : ℕ) (name : List ℕ) (m : Command) (a b : Known) → command_at u s i name ≡ Some m → length b.bearing.items ≡ length a.bearing.items
    → ((os : List AnOwned) → RowsAre u a.bearing.items os → RowsAre u b.bearing.items (os ++ map (owned_by i) (needs_of m)))
    → b.came ≡ a.came → b.narrow ≡ a.narrow → b.wide ≡ a.wide → KnowsOf u s xs a → KnowsOf u s (xs ++ Needed i name ∷ []) b
need_some u s xs i name m a b some len rows came narrow wide h = record {
  len = len ∙ h.len;
  rows = rows_more u s b.bearing.items xs (Needed i name) (map (owned_by i) (needs_of m)) (ap (λ o. map (owned_by i) (needs_at o)) some) (rows (owned u s xs) h.rows);
  came = λ j. ap (λ c. among c.keys j) came ∙ came_same a.came.keys xs i name h.came j;
  narrow = narrow ∙ width_same u s Bits32 xs i name a.narrow h.narrow;
  wide = wide ∙ width_same u s Bits64 xs i name a.wide h.wide;
}

pub nothing_known : (u : List Interface) (s : Choice) (n : ℕ) (a : Known) → length u ≡ n → AreEmpty n a.bearing.items → a.came.keys ≡ [] → a.narrow ≡ None → a.wide ≡ None → KnowsOf u s [] a
nothing_known u s n a len empty came narrow wide = record {
  len = empty.0 ∙ sym len;
  rows = λ q lt. ap (map as_owned) (empty.1 q);
  came = λ j. ap (λ ks. among ks j) came;
  narrow = narrow;
  wide = wide;
}

pub bears : (u : List Interface) (s : Choice) (xs : List Stop) (i : ℕ) (a : Known) (os : List Owned) → i < length a.bearing.items → os ≡ row_at a.bearing.items i → KnowsOf u s xs a → map as_owned os ≡ bearing u s xs i
bears u s xs i a os lt e h = ap (map as_owned) e ∙ h.rows i lt

-- the other bit group

other_narrow : (k : Candidate) (u : List Interface) (s : Choice) (x : Stop) → group k ≡ Bits64 → is_other_at u s k x ≡ is_width_at u s Bits32 x
other_narrow k u s (Came j) e = at (chosen u s j)
  where
    by : (w : Width) → are_apart w Bits64 ≡ same_width Bits32 w
    by Any = refl
    by Bits32 = refl
    by Bits64 = refl

    at : (o : Option Candidate) → is_of_other k o ≡ is_of_width Bits32 o
    at None = refl
    at (Some c) = ap (λ w. are_apart (group c) w) e ∙ by (group c)
other_narrow k u s (Needed j name) e = refl

other_wide : (k : Candidate) (u : List Interface) (s : Choice) (x : Stop) → group k ≡ Bits32 → is_other_at u s k x ≡ is_width_at u s Bits64 x
other_wide k u s (Came j) e = at (chosen u s j)
  where
    by : (w : Width) → are_apart w Bits32 ≡ same_width Bits64 w
    by Any = refl
    by Bits32 = refl
    by Bits64 = refl

    at : (o : Option Candidate) → is_of_other k o ≡ is_of_width Bits64 o
    at None = refl
    at (Some c) = ap (λ w. are_apart (group c) w) e ∙ by (group c)
other_wide k u s (Needed j name) e = refl

other_no : (k : Candidate) (u : List Interface) (s : Choice) (x : Stop) → group k ≡ Any → is_other_at u s k x ≡ false
other_no k u s (Came j) e = at (chosen u s j)
  where
    by : (w : Width) → are_apart w Any ≡ false
    by Any = refl
    by Bits32 = refl
    by Bits64 = refl

    at : (o : Option Candidate) → is_of_other k o ≡ false
    at None = refl
    at (Some c) = ap (λ w. are_apart (group c) w) e ∙ by (group c)
other_no k u s (Needed j name) e = refl

pub other_found : (u : List Interface) (s : Choice) (xs : List Stop) (k : Candidate) (a : Known) → KnowsOf u s xs a → other_of a (group k) ≡ option_map interface_of (of_other_bits u s xs k)
other_found u s xs k a h = at (group k) refl
  where
    at : (w : Width) → group k ≡ w → other_of a w ≡ option_map interface_of (of_other_bits u s xs k)
    at Any e = ap (option_map interface_of) (sym (find_none (is_other_at u s k) xs (λ x. other_no k u s x e)))
    at Bits32 e = h.wide ∙ ap (option_map interface_of) (sym (find_on (is_other_at u s k) (is_width_at u s Bits64) xs (λ x. other_wide k u s x e)))
    at Bits64 e = h.narrow ∙ ap (option_map interface_of) (sym (find_on (is_other_at u s k) (is_width_at u s Bits32) xs (λ x. other_narrow k u s x e)))

pub passed_on : (on : Setting) (n : ℕ) (x : Stop) (a b : Known) → slice_get on.stops.now n ≡ Some x → ((xs : List Stop) → KnowsOf (universe_of on) (picks_of on) xs a → KnowsOf (universe_of on) (picks_of on) (xs ++ x ∷ []) b) → Knows on n a → Knows on (n + 1) b
passed_on on n x a b e f h = subst (λ xs. KnowsOf (universe_of on) (picks_of on) xs b) (sym (take_next on.stops.now n x e)) (f (before on n) h)
