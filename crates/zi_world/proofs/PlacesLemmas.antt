-- One store of many, and all of them.
use Rattle.std.proofs.Common.{◌≡◌, ◌≢◌, ℕ, zero, suc, ◌+◌, ◌-◌, ◌<◌, List, [], ◌∷◌, ◌++◌, map, length, take, drop, get_or, set, refl, sym, ap, subst, arith, ◌⊎◌, inl, inr}
use Rattle.zi_digest.specs.declared.DigestName.{DigestName}
use Rattle.zi_shelf.specs.Shelving.{Shelving}
use Rattle.zi_store.specs.Stores.{Each, IsCalm, Fails, SomeFails, HaveNames}
use Rattle.zi_world.specs.Places.{FirstOf, InStore}

-- The store of a number was called.
pub in_store_set : {X : Type 0} (seen : X → Shelving) (P : Shelving → Shelving → Type 0) (xs : List X) (i : ℕ) (d y : X) → i < length xs → P (seen (get_or xs i d)) (seen y) → InStore i (map seen xs) (map seen (set xs i y)) P
in_store_set seen P [] i d y lt p = absurd (omega arith)
in_store_set seen P (x ∷ xs) zero d y lt p = p
in_store_set seen P (x ∷ xs) (suc i) d y lt p = in_store_set seen P xs i d y (omega arith) p

pub behind_first : (P : Shelving → Shelving → Type 0) (i : ℕ) (b a : Shelving) (bs as_ : List Shelving) → 0 < i → InStore (i - 1) bs as_ P → InStore i (b ∷ bs) (a ∷ as_) P
behind_first P zero b a bs as_ lt h = absurd (omega arith)
behind_first P (suc i) b a bs as_ lt h = let e : suc i - 1 ≡ i = omega arith in subst (λ k. InStore k bs as_ P) e h

pub at_first : (P : Shelving → Shelving → Type 0) (i : ℕ) (b a : Shelving) (bs as_ : List Shelving) → i ≡ 0 → P b a → InStore i (b ∷ bs) (a ∷ as_) P
at_first P zero b a bs as_ e p = p
at_first P (suc i) b a bs as_ e p = absurd (omega arith)

-- it failed there, so one failed
pub some_fails : (i : ℕ) (before after : List Shelving) → InStore i before after Fails → SomeFails before after
some_fails i [] after h = absurd h
some_fails zero (b ∷ bs) [] h = absurd h
some_fails (suc i) (b ∷ bs) [] h = absurd h
some_fails zero (b ∷ bs) (a ∷ as_) h = inl h
some_fails (suc i) (b ∷ bs) (a ∷ as_) h = inr (some_fails i bs as_ h)

-- so it is of the store of a number, where it is so of each
pub in_calm : (i : ℕ) (before after : List Shelving) (P : Shelving → Shelving → Type 0) → i < length before → ((b a : Shelving) → IsCalm b a → P b a) → Each IsCalm before after → InStore i before after P
in_calm i [] after P lt by calm = absurd (omega arith)
in_calm i (b ∷ bs) [] P lt by calm = absurd calm
in_calm zero (b ∷ bs) (a ∷ as_) P lt by calm = by b a calm.0
in_calm (suc i) (b ∷ bs) (a ∷ as_) P lt by calm = in_calm i bs as_ P (omega arith) by calm.1

-- so it is of each, by what was so of each
pub each_by : (R S : Shelving → Shelving → Type 0) → ((b a : Shelving) → R b a → S b a) → (before after : List Shelving) → Each R before after → Each S before after
each_by R S by [] [] h = tt
each_by R S by [] (a ∷ as_) h = absurd h
each_by R S by (b ∷ bs) [] h = absurd h
each_by R S by (b ∷ bs) (a ∷ as_) h = (by b a h.0, each_by R S by bs as_ h.1)

-- so it is in turn
pub each_then : (R S T : Shelving → Shelving → Type 0) → ((b m a : Shelving) → R b m → S m a → T b a) → (before mid after : List Shelving) → Each R before mid → Each S mid after → Each T before after
each_then R S T then [] [] [] h k = tt
each_then R S T then [] [] (a ∷ as_) h k = absurd k
each_then R S T then [] (m ∷ ms) after h k = absurd h
each_then R S T then (b ∷ bs) [] after h k = absurd h
each_then R S T then (b ∷ bs) (m ∷ ms) [] h k = absurd k
each_then R S T then (b ∷ bs) (m ∷ ms) (a ∷ as_) h k = (then b m a h.0 k.0, each_then R S T then bs ms as_ h.1 k.1)

-- The first store that has it: those so far lack it, and one more is asked.
pub first_more : {A : Type 0} (Says : Shelving → A → Type 0) (missing a : A) (k : Shelving) (ks : List Shelving) (l : Shelving)
    → FirstOf Says missing (k ∷ ks) missing → Says l a → FirstOf Says missing (k ∷ (ks ++ l ∷ [])) a
first_more Says missing a k [] l h s = inr (h, s)
first_more Says missing a k (x ∷ xs) l (inl p) s = absurd (p.1 refl)
first_more Says missing a k (x ∷ xs) l (inr p) s = inr (p.0, first_more Says missing a x xs l p.1 s)

-- one of them has it, whatever stands behind
pub first_stays : {A : Type 0} (Says : Shelving → A → Type 0) (missing a : A) (k : Shelving) (ks rest : List Shelving)
    → a ≢ missing → FirstOf Says missing (k ∷ ks) a → FirstOf Says missing (k ∷ (ks ++ rest)) a
first_stays Says missing a k [] [] ne h = h
first_stays Says missing a k [] (r ∷ rs) ne h = inl (h, ne)
first_stays Says missing a k (x ∷ xs) rest ne (inl p) = inl p
first_stays Says missing a k (x ∷ xs) rest ne (inr p) = inr (p.0, first_stays Says missing a x xs rest ne p.1)

pub seen_next : {X : Type 0} (seen : X → Shelving) (R : Shelving → Shelving → Type 0) (old cur : List X) (i : ℕ) (d : X)
    → Each R (map seen old) (map seen cur) → drop i cur ≡ drop i old → i < length cur → map seen (take (suc i) old) ≡ map seen (take i old) ++ seen (get_or cur i d) ∷ []
seen_next seen R [] [] i d h e lt = absurd (omega arith)
seen_next seen R [] (c ∷ cs) i d h e lt = absurd h
seen_next seen R (o ∷ os) [] i d h e lt = absurd h
seen_next seen R (o ∷ os) (c ∷ cs) zero d h e lt = ap (λ l. seen (get_or l 0 c) ∷ []) (sym e)
seen_next seen R (o ∷ os) (c ∷ cs) (suc i) d h e lt = ap (λ l. seen o ∷ l) (seen_next seen R os cs i d h.1 e (omega arith))

pub seen_split : {X : Type 0} (seen : X → Shelving) (xs : List X) (i : ℕ) → map seen xs ≡ map seen (take i xs) ++ map seen (drop i xs)
seen_split seen [] zero = refl
seen_split seen [] (suc i) = refl
seen_split seen (x ∷ xs) zero = refl
seen_split seen (x ∷ xs) (suc i) = ap (λ l. seen x ∷ l) (seen_split seen xs i)

-- As many as there are.
pub each_length : (R : Shelving → Shelving → Type 0) (before after : List Shelving) → Each R before after → length after ≡ length before
each_length R [] [] h = refl
each_length R [] (a ∷ as_) h = absurd h
each_length R (b ∷ bs) [] h = absurd h
each_length R (b ∷ bs) (a ∷ as_) h = ap suc (each_length R bs as_ h.1)

pub names_length : (stores : List Shelving) (each : List (List DigestName)) → HaveNames stores each → length each ≡ length stores
names_length [] [] h = refl
names_length [] (ns ∷ each) h = absurd h
names_length (k ∷ ks) [] h = absurd h
names_length (k ∷ ks) (ns ∷ each) h = ap suc (names_length ks each h.1)
