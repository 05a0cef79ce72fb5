-- What levels ask for is named once: named again it adds nothing.
use Rattle.std.proofs.Common.{◌≡◌, ℕ, zero, suc, ◌+◌, ◌<◌, ◌≤◌, Bool, true, false, ◌&&◌, ◌||◌, eqb, List, [], ◌∷◌, ◌++◌, length, take, drop, get_or, Some, refl, sym, ap, subst, ◌∙◌, arith}
use Rattle.std.specs.Prelude.{slice_get, if◌then◌else◌}
use Rattle.std.specs.Option.{option_map}
use Rattle.std.proofs.Math.Seq.{drop-cons}
use Rattle.std.proofs.lemmas.List.{take-append-drop, drop_all}
use Rattle.zi_policy.specs.Platform.{listed}
use Rattle.zi_parts.specs.declared.types.Dep.{Dep}
use Rattle.zi_feed.specs.declared.shares.Level.{Level}
use Rattle.zi_feed.specs.declared.shares.Shares.{Shares}
use Rattle.zi_feed.specs.Shares.{deps_at}
use Rattle.zi_universe.specs.declared.offers.Offered.{Offered}
use Rattle.zi_universe.specs.declared.offers.Key.{Key}
use Rattle.zi_universe.specs.Naming.{Uri, Uris, with_one, joined}
use Rattle.zi_universe.specs.Candidates.{asked, asked_by_impl, asked_by_all}
use Rattle.zi_universe.specs.Offering.{candidates_of, deps_of, HasLevel, IsLevelAt, has_key, HasOneMore, AreNamed}
use Rattle.zi_universe.proofs.NamingLemmas.{joined_twice, bytes_eq-refl, listed-cons, listed-joined, listed-joined_left}
use Rattle.zi_universe.proofs.PieceLemmas.{asked-append}
use Rattle.zi_universe.proofs.KeyLemmas.{same_key, one_value, deps_there}

-- Names that are all there.
abbrev AreThere : Uris → Uris → Type 0
AreThere xs ys = (y : Uri) → listed y ys ≡ true → listed y xs ≡ true

idle : (xs ys : Uris) → AreThere xs ys → joined xs ys ≡ xs
idle xs [] h = refl
idle xs (y ∷ ys) h =
    let first : listed y xs ≡ true = h y (ap (λ b. b || listed y ys) (bytes_eq-refl y)) in
    let one : with_one xs y ≡ xs = ap (λ b. if b then xs else xs ++ y ∷ []) first in
    ap (λ q. joined q ys) one ∙ idle xs ys (λ z l. h z (listed-cons z y ys l))

there : (xs ys : Uris) → joined xs ys ≡ xs → AreThere xs ys
there xs ys e y l = ap (listed y) (sym e) ∙ listed-joined y xs ys l

-- what was named is named
again : (xs ys : Uris) → joined (joined xs ys) ys ≡ joined xs ys
again xs ys = idle (joined xs ys) ys (λ y l. listed-joined y xs ys l)

-- it stays so
idle_more : (xs ys zs : Uris) → joined xs ys ≡ xs → joined (joined xs zs) ys ≡ joined xs zs
idle_more xs ys zs e = idle (joined xs zs) ys (λ y l. listed-joined_left y xs zs (there xs ys e y l))

-- Levels that were named.
pub none_named : (feeds : List Shares) (keys : List Key) (names : Uris) → keys ≡ [] → AreNamed feeds keys names
none_named feeds keys names none k h ds e = absurd (let bad : false ≡ true = sym (ap (has_key k) none) ∙ h in cc)

pub named_more : (feeds : List Shares) (keys : List Key) (old new zs : Uris) → new ≡ joined old zs → AreNamed feeds keys old → AreNamed feeds keys new
named_more feeds keys old new zs grown h k has ds e =
    let P : Uris → Type 0 = λ q. joined q (asked ds) ≡ q in
    subst P (sym grown) (idle_more old (asked ds) zs (h k has ds e))

-- one level more was named
one_named : (feeds : List Shares) (key : Key) (deps : List Dep) (before after : List Key) (old new : Uris) → deps_of feeds key ≡ Some deps → HasOneMore key before after
    → new ≡ joined old (asked deps) → AreNamed feeds before new → AreNamed feeds after new
one_named feeds key deps before after old new at more grown h k has ds e = by (eqb key.feed k.feed && eqb key.number k.number) refl
  where
    by : (b : Bool) → (eqb key.feed k.feed && eqb key.number k.number) ≡ b → joined new (asked ds) ≡ new
    by true t =
        let A : Key → Type 0 = λ q. deps_of feeds q ≡ Some deps in
        let same : deps ≡ ds = one_value (deps_of feeds k) deps ds (subst A (same_key key k t) at) e in
        let P : Uris → Type 0 = λ q. joined q (asked deps) ≡ q in
        let Q : List Dep → Type 0 = λ q. joined new (asked q) ≡ new in
        subst Q same (subst P (sym grown) (again old (asked deps)))
    by false t = h k (sym (more k ∙ ap (λ b. if b then true else has_key k before) t) ∙ has) ds e

-- A level, by its feed.
level_deps : (ls : List Level) (n : ℕ) (l : Level) (ds : List Dep) → slice_get ls n ≡ Some l → deps_at ls n ≡ Some ds → l.deps ≡ ds
level_deps ls n l ds at e = let same : Some l.deps ≡ Some ds = sym (ap (option_map (λ (q : Level). q.deps)) at) ∙ e in cc

pub outer_level : (feeds : List Shares) (k : Key) (l : Level) (h : HasLevel feeds k) → IsLevelAt feeds k l → ¬ (l.around ≡ 0) → HasLevel feeds (record { feed = k.feed; number = l.outer })
outer_level feeds k l h is some =
    let r = h.levels k.number l (is h.shares h.there) (omega (arith, some)) in
    record { shares = h.shares; there = h.there; levels = h.levels; deps = take l.around l.deps; at = r.1 }

pub outer_less : (feeds : List Shares) (k : Key) (l : Level) (h : HasLevel feeds k) → IsLevelAt feeds k l → ¬ (l.around ≡ 0) → l.outer < k.number
outer_less feeds k l h is some = (h.levels k.number l (is h.shares h.there) (omega (arith, some))).0

module _ (feeds : List Shares) (key : Key) (l : Level) (h : HasLevel feeds key) (is : IsLevelAt feeds key l) where
  whole : deps_of feeds key ≡ Some l.deps
  whole = deps_there feeds key h.shares l.deps h.there (ap (option_map (λ (q : Level). q.deps)) (is h.shares h.there))

  -- none of its dependencies stand around it
  pub own_named : (old new : Uris) → l.around ≡ 0 → new ≡ joined old (asked (drop l.around l.deps)) → (ds : List Dep) → deps_of feeds key ≡ Some ds → new ≡ joined old (asked ds)
  own_named old new none grown ds e =
      grown ∙ ap (λ n. joined old (asked (drop n l.deps))) none ∙ ap (λ q. joined old (asked q)) (one_value (deps_of feeds key) l.deps ds whole e)

  pub own_keys : (before after : List Key) (old new : Uris) → l.around ≡ 0 → new ≡ joined old (asked (drop l.around l.deps)) → HasOneMore key before after → AreNamed feeds before old → AreNamed feeds after new
  own_keys before after old new none grown more named =
      let e : new ≡ joined old (asked l.deps) = grown ∙ ap (λ n. joined old (asked (drop n l.deps))) none in
      one_named feeds key l.deps before after old new whole more e (named_more feeds before old new (asked l.deps) e named)

  outer_deps : ¬ (l.around ≡ 0) → deps_of feeds (record { feed = key.feed; number = l.outer }) ≡ Some (take l.around l.deps)
  unfolding outer_level
  outer_deps some = let o = outer_level feeds key l h is some in deps_there feeds (record { feed = key.feed; number = l.outer }) h.shares (take l.around l.deps) h.there o.at

  both : (old mid new : Uris) → ¬ (l.around ≡ 0) → ((ds : List Dep) → deps_of feeds (record { feed = key.feed; number = l.outer }) ≡ Some ds → mid ≡ joined old (asked ds))
      → new ≡ joined mid (asked (drop l.around l.deps)) → new ≡ joined old (asked l.deps)
  both old mid new some outer grown =
      grown ∙ ap (λ q. joined q (asked (drop l.around l.deps))) (outer (take l.around l.deps) (outer_deps some))
      ∙ joined_twice old (asked (take l.around l.deps)) (asked (drop l.around l.deps))
      ∙ ap (joined old) (sym (asked-append (take l.around l.deps) (drop l.around l.deps)))
      ∙ ap (λ q. joined old (asked q)) (take-append-drop l.around l.deps)

  -- those around it were named first
  pub all_named : (old mid new : Uris) → ¬ (l.around ≡ 0) → ((ds : List Dep) → deps_of feeds (record { feed = key.feed; number = l.outer }) ≡ Some ds → mid ≡ joined old (asked ds))
      → new ≡ joined mid (asked (drop l.around l.deps)) → (ds : List Dep) → deps_of feeds key ≡ Some ds → new ≡ joined old (asked ds)
  all_named old mid new some outer grown ds e =
      both old mid new some outer grown ∙ ap (λ q. joined old (asked q)) (one_value (deps_of feeds key) l.deps ds whole e)

  pub all_keys : (before after : List Key) (old mid new : Uris) → ¬ (l.around ≡ 0) → ((ds : List Dep) → deps_of feeds (record { feed = key.feed; number = l.outer }) ≡ Some ds → mid ≡ joined old (asked ds))
      → new ≡ joined mid (asked (drop l.around l.deps)) → HasOneMore key before after → AreNamed feeds before mid → AreNamed feeds after new
  all_keys before after old mid new some outer grown more named =
      one_named feeds key l.deps before after old new whole more (both old mid new some outer grown) (named_more feeds before mid new (asked (drop l.around l.deps)) grown named)

-- The own dependencies of a level, one by one.
drop_suc : (deps : List Dep) (i : ℕ) (dep : Dep) → slice_get deps i ≡ Some dep → drop i deps ≡ dep ∷ drop (suc i) deps
drop_suc [] i dep e = (cc)
drop_suc (d ∷ deps) zero dep e = (cc)
drop_suc (d ∷ deps) (suc i) dep e = drop_suc deps i dep e

drop_one : (deps : List Dep) (i : ℕ) (dep : Dep) → slice_get deps i ≡ Some dep → drop i deps ≡ dep ∷ drop (i + 1) deps
drop_one deps i dep e = let n : suc i ≡ i + 1 = omega arith in drop_suc deps i dep e ∙ ap (λ j. dep ∷ drop j deps) n

pub own_next : (deps : List Dep) (i : ℕ) (dep : Dep) (before now total : Uris) → slice_get deps i ≡ Some dep → now ≡ joined before (asked (dep ∷ []))
    → joined before (asked (drop i deps)) ≡ total → joined now (asked (drop (i + 1) deps)) ≡ total
own_next deps i dep before now total at named kept =
    ap (λ q. joined q (asked (drop (i + 1) deps))) named
    ∙ joined_twice before (asked (dep ∷ [])) (asked (drop (i + 1) deps))
    ∙ ap (joined before) (sym (asked-append (dep ∷ []) (drop (i + 1) deps)))
    ∙ ap (λ q. joined before (asked q)) (sym (drop_one deps i dep at)) ∙ kept

pub own_end : (deps : List Dep) (i : ℕ) (before total : Uris) → length deps ≤ i → joined before (asked (drop i deps)) ≡ total → before ≡ total
own_end deps i before total le kept = ap (λ q. joined before (asked q)) (sym (drop_all i deps le)) ∙ kept

-- Candidates, one by one.
pub asked_next : (os : List Offered) (n : ℕ) (o : Offered) (before now total : Uris) → n < length os → o ≡ get_or os n o → now ≡ joined before (asked_by_impl o.candidate.imp)
    → joined before (asked_by_all (candidates_of (drop n os))) ≡ total → joined now (asked_by_all (candidates_of (drop (n + 1) os))) ≡ total
asked_next os n o before now total lt is named kept =
    let m : suc n ≡ n + 1 = omega arith in
    let e : drop n os ≡ o ∷ drop (n + 1) os = drop-cons os n o lt ∙ ap (λ y. y ∷ drop (suc n) os) (sym is) ∙ ap (λ k. o ∷ drop k os) m in
    let rest : Uris = asked_by_all (candidates_of (drop (n + 1) os)) in
    ap (λ q. joined q rest) named
    ∙ joined_twice before (asked_by_impl o.candidate.imp) rest
    ∙ ap (λ q. joined before (asked_by_all (candidates_of q))) (sym e)
    ∙ kept

pub asked_end : (os : List Offered) (n : ℕ) (before total : Uris) → length os ≤ n → joined before (asked_by_all (candidates_of (drop n os))) ≡ total → before ≡ total
asked_end os n before total le kept = ap (λ q. joined before (asked_by_all (candidates_of q))) (sym (drop_all n os le)) ∙ kept
