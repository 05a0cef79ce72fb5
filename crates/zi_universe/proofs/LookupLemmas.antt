-- What the maps of a loading find, as overrides and limits are put into them, the last one first.
use Rattle.std.proofs.Common.{◌≡◌, ℕ, suc, ◌+◌, ◌<◌, ◌≤◌, Bool, true, false, cond, ◌&&◌, ◌||◌, List, [], ◌∷◌, ◌++◌, length, drop, get_or, find, drop-cons, add-one, refl, sym, ap, ◌∙◌, subst, Option, Some, None, option_map, bytes_eq}
use Rattle.std.specs.Prelude.{not, unwrap_or}
use Rattle.std.specs.Borrow.{Bor}
use Rattle.std.specs.Map.{lookup}
use Rattle.std.proofs.lemmas.List.{drop_all}
use Rattle.std.proofs.lemmas.List.Folds.{list_all-append}
use Rattle.zi_version.specs.Range.{admits}
use Rattle.zi_policy.specs.declared.types.Override.{Override}
use Rattle.zi_policy.specs.declared.types.Stability.{Stability}
use Rattle.zi_universe.specs.declared.types.Limit.{Limit}
use Rattle.zi_universe.specs.declared.wanted.Overridden.{Overridden}
use Rattle.zi_universe.specs.Naming.{Uri}
use Rattle.zi_universe.specs.Candidates.{within_limits}
use Rattle.zi_universe.specs.Lookups.{overriding, stability_in, FindsStabilities, limits_in, all_admit, FindsLimits, AddsLimit}
use Rattle.zi_universe.proofs.NamingLemmas.{bytes_eq-true}

-- a text as it is lent
abbrev lent : List ℕ → Bor (List ℕ)
lent text = record { ref_ptr = (0, 0); now = text }

-- what stands from a place on
rest : {X : Type 0} (xs : List X) (n m : ℕ) (x : X) → m ≡ n + 1 → n < length xs → x ≡ get_or xs n x → drop n xs ≡ x ∷ drop m xs
rest xs n m x next within at = drop-cons xs n x within ∙ ap (λ y. y ∷ drop (suc n) xs) (sym at) ∙ ap (λ k. x ∷ drop k xs) (sym (add-one n) ∙ sym next)

-- Overrides.

abbrev Stabilities : Type 0
Stabilities = List (Overridden × Stability)

pub stabilities_start : (os : List Override) (n : ℕ) (entries : Stabilities) → length os ≤ n → entries ≡ [] → FindsStabilities (drop n os) entries
stabilities_start os n entries le empty =
    subst (λ es. FindsStabilities (drop n os) es) (sym empty) (λ interface id. sym (ap (λ q. overriding q interface id) (drop_all n os le)))

abbrev found_by : Overridden → Stabilities → Option Stability
found_by q entries = lookup (λ (k : Overridden). bytes_eq q.interface.now k.interface.now && bytes_eq q.id.now k.id.now) entries

first_of : (b : Bool) (o : Override) (r : Option Override) → cond b (Some o.stability) (option_map (λ (x : Override). x.stability) r) ≡ option_map (λ (x : Override). x.stability) (cond b (Some o) r)
first_of true o r = refl
first_of false o r = refl

pub stabilities_more : (os : List Override) (n m : ℕ) (o : Override) (k : Overridden) (old new : Stabilities) → m ≡ n + 1 → n < length os → o ≡ get_or os n o
    → k.interface.now ≡ o.interface → k.id.now ≡ o.id → FindsStabilities (drop m os) old
    → ((q : Overridden) → found_by q new ≡ cond (bytes_eq k.interface.now q.interface.now && bytes_eq k.id.now q.id.now) (Some o.stability) (found_by q old))
    → FindsStabilities (drop n os) new
stabilities_more os n m o k old new next within at named known h u = λ interface id.
    u (record { interface = lent interface; id = lent id })
    ∙ ap (λ t. cond (bytes_eq t interface && bytes_eq k.id.now id) (Some o.stability) (stability_in old interface id)) named
    ∙ ap (λ t. cond (bytes_eq o.interface interface && bytes_eq t id) (Some o.stability) (stability_in old interface id)) known
    ∙ ap (cond (bytes_eq o.interface interface && bytes_eq o.id id) (Some o.stability)) (h interface id)
    ∙ first_of (bytes_eq o.interface interface && bytes_eq o.id id) o (find (λ (x : Override). bytes_eq x.interface interface && bytes_eq x.id id) (drop m os))
    ∙ ap (λ q. overriding q interface id) (sym (rest os n m o next within at))

-- Limits.

abbrev Limits : Type 0
Limits = List (Bor Uri × List (Bor Limit))

pub limits_start : (ls : List Limit) (n : ℕ) (entries : Limits) → length ls ≤ n → entries ≡ [] → FindsLimits (drop n ls) entries
unfolding within_limits
limits_start ls n entries le empty =
    subst (λ es. FindsLimits (drop n ls) es) (sym empty) (λ interface v. sym (ap (λ q. within_limits q interface v) (drop_all n ls le)))

pub limits_more : (ls : List Limit) (n m : ℕ) (l : Limit) (old new : Limits) → m ≡ n + 1 → n < length ls → l ≡ get_or ls n l
    → FindsLimits (drop m ls) old → AddsLimit l old new → FindsLimits (drop n ls) new
unfolding within_limits
limits_more ls n m l old new next within at h a = λ interface v.
    a interface v ∙ ap (λ b. (not (bytes_eq l.interface interface) || admits l.range v) && b) (h interface v)
    ∙ ap (λ q. within_limits q interface v) (sym (rest ls n m l next within at))

abbrev found_at : Uri → Limits → Option (List (Bor Limit))
found_at q entries = lookup (λ (k : Bor Uri). bytes_eq q k.now) entries

turned : (a b : Bool) → (a && (b && true)) ≡ (b && a)
turned true true = refl
turned true false = refl
turned false true = refl
turned false false = refl

-- the limits of an interface are taken out, and put back with one more
pub adds_limit : (l : Bor Limit) (t : Bor Uri) (old mid new : Limits) (those more : List (Bor Limit)) → t.now ≡ l.now.interface
    → those ≡ limits_in old t.now → more ≡ those ++ l ∷ []
    → ((q : Bor Uri) → found_at q.now mid ≡ cond (bytes_eq t.now q.now) None (found_at q.now old))
    → ((q : Bor Uri) → found_at q.now new ≡ cond (bytes_eq t.now q.now) (Some more) (found_at q.now mid))
    → AddsLimit l.now old new
adds_limit l t old mid new those more named taken grown out put = λ interface v.
    ap (λ o. all_admit (unwrap_or o []) v) (put (lent interface) ∙ ap (cond (bytes_eq t.now interface) (Some more)) (out (lent interface)))
    ∙ by_test interface v (bytes_eq t.now interface) refl
    ∙ ap (λ u. (not (bytes_eq u interface) || admits l.now.range v) && all_admit (limits_in old interface) v) named
  where
    by_test : (interface : Uri) (v : List ℕ) (b : Bool) → bytes_eq t.now interface ≡ b
        → all_admit (unwrap_or (cond b (Some more) (cond b None (found_at interface old))) []) v ≡ ((not b || admits l.now.range v) && all_admit (limits_in old interface) v)
    by_test interface v true e =
        ap (λ q. all_admit q v) (grown ∙ ap (λ q. q ++ l ∷ []) (taken ∙ ap (limits_in old) (bytes_eq-true t.now interface e)))
        ∙ list_all-append (λ (x : Bor Limit). admits x.now.range v) (limits_in old interface) (l ∷ [])
        ∙ turned (all_admit (limits_in old interface) v) (admits l.now.range v)
    by_test interface v false e = refl
