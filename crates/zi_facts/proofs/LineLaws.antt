-- Lines, and numbers that are kept one behind another.
use Rattle.std.proofs.Common.{◌≡◌, ℕ, zero, suc, ◌+◌, ◌<◌, ◌≤◌, Bool, true, false, ◌||◌, cond, List, [], ◌∷◌, ◌++◌, map, filter, take, length, get_or, refl, sym, ap, ◌∙◌, append_assoc, subst, arith, Option, Some, None, flat_map, set}
use Rattle.std.specs.Prelude.{slice_get, unwrap_or}
use Rattle.std.specs.List.{list_any, position_from}
use Rattle.std.proofs.lemmas.List.{take_more, append-nil, map-append}
use Rattle.std.proofs.lemmas.Grind.{flat_map-append}
use Rattle.std.proofs.Math.Bool.{or-true}
use Rattle.std.proofs.lemmas.Option.{get_or_from_slice_get, slice_get_within}
use Rattle.std.proofs.lemmas.List.Folds.{list_any_more}
use Rattle.zi_universe.specs.declared.types.Requirement.{Requirement}
use Rattle.zi_universe.specs.declared.types.Interface.{Interface}
use Rattle.zi_choice.specs.Vars.{Var, Cand, Cmd}
use Rattle.zi_build.specs.Clauses.{each}
use Rattle.zi_build.proofs.WriteLaws.{each_more}
use Rattle.zi_facts.specs.declared.fact.Fact.{Fact}
use Rattle.zi_facts.specs.declared.line.Said.{Said}
use Rattle.zi_facts.specs.declared.line.Line.{Line}
use Rattle.zi_facts.specs.Facts.{Told, Root, Wanted, Once, Bits, Part, Needs, Refuses, Names, as_told, var_at}
use Rattle.zi_facts.specs.Lines.{says, line_of, joined, with_joined, with_said, with_some, needs_text, allows_text, named_text, wanted_text, width_text, said_of, said_by, as_text, interface_of, candidate_of, lines_of}
use Rattle.zi_facts.specs.Laws.{is_root, LinesAreFew}

pub both : (old mid new a b : List ℕ) → mid ≡ old ++ a → new ≡ mid ++ b → new ≡ old ++ (a ++ b)
both old mid new a b e f = f ∙ ap (λ y. y ++ b) e ∙ append_assoc old a b

pub three : (o s t new a b d : List ℕ) → s ≡ o ++ a → t ≡ s ++ b → new ≡ t ++ d → new ≡ o ++ (a ++ (b ++ d))
three o s t new a b d e f g = both o s new a (b ++ d) e (both s t new b d f g)

pub five : (o s t v w new a b d e f : List ℕ) → s ≡ o ++ a → t ≡ s ++ b → v ≡ t ++ d → w ≡ v ++ e → new ≡ w ++ f → new ≡ o ++ (a ++ (b ++ (d ++ (e ++ f))))
five o s t v w new a b d e f h i j k l = three o s t new a b (d ++ (e ++ f)) h i (three t v w new d e f j k l)

flat_more : {A : Type 0} (f : A → List ℕ) (xs : List A) (i : ℕ) (x : A) → i < length xs → x ≡ get_or xs i x → flat_map f (take (i + 1) xs) ≡ flat_map f (take i xs) ++ f x
flat_more f xs i x lt e =
    ap (flat_map f) (take_more xs i x lt) ∙ flat_map-append f (take i xs) (get_or xs i x ∷ []) ∙ ap (λ y. flat_map f (take i xs) ++ y) (append-nil (f (get_or xs i x)) ∙ ap f (sym e))

-- one item more of a list
pub item_more : {A : Type 0} (f : A → List ℕ) (old mid new : List ℕ) (xs : List A) (i : ℕ) (x : A) → i < length xs → x ≡ get_or xs i x → mid ≡ old ++ flat_map f (take i xs) → new ≡ mid ++ f x → new ≡ old ++ flat_map f (take (i + 1) xs)
item_more f old mid new xs i x lt e m n = both old mid new (flat_map f (take i xs)) (f x) m n ∙ ap (λ y. old ++ y) (sym (flat_more f xs i x lt e))

-- one fact more
told_more : (xs : List Fact) (i : ℕ) (x : Fact) → i < length xs → x ≡ get_or xs i x → map as_told (take (i + 1) xs) ≡ map as_told (take i xs) ++ as_told x ∷ []
told_more xs i x lt e = ap (map as_told) (take_more xs i x lt) ∙ map-append as_told (take i xs) (get_or xs i x ∷ []) ∙ ap (λ t. map as_told (take i xs) ++ t ∷ []) (ap as_told (sym e))

pub fact_more : (f : Told → List ℕ) (old mid new : List ℕ) (xs : List Fact) (i : ℕ) (x : Fact) → i < length xs → x ≡ get_or xs i x → mid ≡ old ++ flat_map f (map as_told (take i xs)) → new ≡ mid ++ f (as_told x) → new ≡ old ++ flat_map f (map as_told (take (i + 1) xs))
fact_more f old mid new xs i x lt e m n =
    let t : flat_map f (map as_told (take (i + 1) xs)) ≡ flat_map f (map as_told (take i xs)) ++ f (as_told x) =
    ap (flat_map f) (told_more xs i x lt e) ∙ flat_map-append f (map as_told (take i xs)) (as_told x ∷ []) ∙ ap (λ y. flat_map f (map as_told (take i xs)) ++ y) (append-nil (f (as_told x))) in
    both old mid new (flat_map f (map as_told (take i xs))) (f (as_told x)) m n ∙ ap (λ y. old ++ y) (sym t)

-- one number more that is kept, or not
pub kept_more : {A : Type 0} (f : ℕ → A → List ℕ) (old new : List ℕ) (xs : List A) (i : ℕ) (x : A) → i < length xs → x ≡ get_or xs i x → old ≡ each 0 f (take i xs) → new ≡ old ++ f i x → new ≡ each 0 f (take (i + 1) xs)
kept_more f old new xs i x lt e m n = n ∙ ap (λ ns. ns ++ f i x) m ∙ sym (each_more f xs i x lt e)

-- a test of items, one after another
pub any_next : {A : Type 0} (t : A → Bool) (xs : List A) (i : ℕ) (x : A) → slice_get xs i ≡ Some x → list_any t (take i xs) ≡ false → t x ≡ false → list_any t (take (i + 1) xs) ≡ false
any_next t xs i x g h k =
    list_any_more t xs i x (slice_get_within xs i x g) ∙ ap (λ b. b || t (get_or xs i x)) h ∙ ap t (get_or_from_slice_get xs i x x g) ∙ k

pub any_here : {A : Type 0} (t : A → Bool) (xs : List A) (i : ℕ) (x : A) → slice_get xs i ≡ Some x → t x ≡ true → list_any t xs ≡ true
any_here t [] i x g k = absurd (cc g)
any_here t (y ∷ xs) zero x g k =
    let e : y ≡ x = ap (λ o. unwrap_or o y) g in
    ap (λ b. b || list_any t xs) (ap t e ∙ k)
any_here t (y ∷ xs) (suc i) x g k = ap (λ b. t y || b) (any_here t xs i x g k) ∙ or-true (t y)

-- what an owner's dependency says is of the owner
abbrev said_as : ℕ → ℕ → List ℕ → Said
said_as i c words = record { interface = i; candidate = c; words = words }

pub said_at : (u : List Interface) (i c : ℕ) (o : Option ℕ) (a text words : List ℕ) → a ≡ as_text u (var_at i c o) → words ≡ a ++ text → Some (said_as i c words) ≡ said_by u (var_at i c o) text
said_at u i c None a text words e f = ap (λ w. Some (said_as i c w)) (f ∙ ap (λ x. x ++ text) e)
said_at u i c (Some m) a text words e f = ap (λ w. Some (said_as i c w)) (f ∙ ap (λ x. x ++ text) e)

-- The first line that says the same.

at_step : (b : Bool) (s : Said) (l : Line) (ls : List Line) (n i : ℕ) (later : Option ℕ)
    → ((j : ℕ) → later ≡ Some j → (k : ℕ) × (j ≡ (n + 1) + k) × (k < length ls) × (with_joined ls k s.candidate ≡ with_said ls s))
    → cond b (Some n) later ≡ Some i
    → (k : ℕ) × (i ≡ n + k) × (k < suc (length ls)) × (with_joined (l ∷ ls) k s.candidate ≡ cond b (joined l s.candidate ∷ ls) (l ∷ with_said ls s))
at_step true s l ls n i later h e =
    let here : n ≡ i = ap (λ o. unwrap_or o 0) e in
    (0, omega (arith, here), omega arith, refl)
at_step false s l ls n i later h e =
    let r = h i e in
    let place : i ≡ (n + 1) + r.0 = r.1 in
    let lt : r.0 < length ls = r.2 in
    (suc r.0, omega (arith, place), omega (arith, lt), ap (λ ms. l ∷ ms) r.3)

found_at : (s : Said) (n : ℕ) (ls : List Line) (i : ℕ) → position_from (says s) n ls ≡ Some i → (k : ℕ) × (i ≡ n + k) × (k < length ls) × (with_joined ls k s.candidate ≡ with_said ls s)
found_at s n [] i e = absurd (cc e)
found_at s n (l ∷ ls) i e = at_step (says s l) s l ls n i (position_from (says s) (n + 1) ls) (λ j f. found_at s (n + 1) ls j f) e

pub found_within : (s : Said) (ls : List Line) (i : ℕ) → position_from (says s) 0 ls ≡ Some i → i < length ls
found_within s ls i e =
    let r = found_at s 0 ls i e in
    let place : i ≡ 0 + r.0 = r.1 in
    let lt : r.0 < length ls = r.2 in
    omega (arith, place, lt)

pub found_joined : (s : Said) (ls : List Line) (i : ℕ) → position_from (says s) 0 ls ≡ Some i → with_joined ls i s.candidate ≡ with_said ls s
found_joined s ls i e =
    let r = found_at s 0 ls i e in
    let place : i ≡ 0 + r.0 = r.1 in
    let same : i ≡ r.0 = omega (arith, place) in
    ap (λ k. with_joined ls k s.candidate) same ∙ r.3

none_step : (b : Bool) (s : Said) (l : Line) (ls : List Line) (n : ℕ) (later : Option ℕ) → (later ≡ None → with_said ls s ≡ ls ++ line_of s ∷ []) → cond b (Some n) later ≡ None → cond b (joined l s.candidate ∷ ls) (l ∷ with_said ls s) ≡ l ∷ (ls ++ line_of s ∷ [])
none_step true s l ls n later h e = absurd (cc e)
none_step false s l ls n later h e = ap (λ ms. l ∷ ms) (h e)

pub none_found : (s : Said) (n : ℕ) (ls : List Line) → position_from (says s) n ls ≡ None → with_said ls s ≡ ls ++ line_of s ∷ []
none_found s n [] e = refl
none_found s n (l ∷ ls) e = none_step (says s l) s l ls n (position_from (says s) (n + 1) ls) (λ f. none_found s (n + 1) ls f) e

pub ruleset joining = (found_within, found_joined, none_found)

-- a candidate more in the line at a place
pub joined_set : (ls : List Line) (i c : ℕ) (d new : Line) → i < length ls → new ≡ joined (get_or ls i d) c → set ls i new ≡ with_joined ls i c
joined_set [] i c d new lt e = absurd (omega (arith, lt))
joined_set (l ∷ ls) zero c d new lt e = ap (λ x. x ∷ ls) e
joined_set (l ∷ ls) (suc i) c d new lt e = ap (λ ms. l ∷ ms) (joined_set ls i c d new (omega (arith, lt)) e)

-- One fact after another.

lines_append : (u : List Interface) (req : Requirement) (ls : List Line) (ts us : List Told) → lines_of u req ls (ts ++ us) ≡ lines_of u req (lines_of u req ls ts) us
lines_append u req ls [] us = refl
lines_append u req ls (t ∷ ts) us = lines_append u req (with_some ls (said_of u req t)) ts us

pub lines_more : (u : List Interface) (req : Requirement) (old new : List Line) (xs : List Fact) (i : ℕ) (x : Fact) → i < length xs → x ≡ get_or xs i x → old ≡ lines_of u req [] (map as_told (take i xs)) → new ≡ with_some old (said_of u req (as_told x)) → new ≡ lines_of u req [] (map as_told (take (i + 1) xs))
lines_more u req old new xs i x lt e m n =
    n ∙ ap (λ ls. with_some ls (said_of u req (as_told x))) m ∙ sym (ap (lines_of u req []) (told_more xs i x lt e) ∙ lines_append u req [] (map as_told (take i xs)) (as_told x ∷ []))

-- There are no more lines than facts.

few_step : (b : Bool) (s : Said) (l : Line) (ls : List Line) → length (with_said ls s) ≤ suc (length ls) → length (cond b (joined l s.candidate ∷ ls) (l ∷ with_said ls s)) ≤ suc (suc (length ls))
few_step true s l ls h = omega arith
few_step false s l ls h = omega (arith, h)

few_said : (ls : List Line) (s : Said) → length (with_said ls s) ≤ suc (length ls)
few_said [] s = omega arith
few_said (l ∷ ls) s = few_step (says s l) s l ls (few_said ls s)

module _ (u : List Interface) (req : Requirement) where
  abbrev said : Var → List ℕ → Said
  said y text = record { interface = interface_of y; candidate = candidate_of y; words = as_text u y ++ text }

  few_more : (t : Told) (ts : List Told) (ls : List Line) → length (filter is_root (t ∷ ts)) + length (with_some ls (said_of u req t)) ≤ suc (length (filter is_root ts)) + length ls
  few_more Root ts ls = omega arith
  few_more (Once i) ts ls = omega arith
  few_more (Part i c m) ts ls = omega arith
  few_more (Wanted c place) ts ls = (let h = few_said ls (record { interface = 0; candidate = c; words = wanted_text req.command place }) in omega (arith, h))
  few_more (Bits i c width) ts ls = (let h = few_said ls (record { interface = i; candidate = c; words = width_text width }) in omega (arith, h))
  few_more (Needs y d) ts ls = (let h = few_said ls (said y (needs_text u d)) in omega (arith, h))
  few_more (Refuses y d j e) ts ls = (let h = few_said ls (said y (allows_text u d)) in omega (arith, h))
  few_more (Names y d name j e place) ts ls = (let h = few_said ls (said y (named_text u d name)) in omega (arith, h))

  few_of : (ls : List Line) (ts : List Told) → length (filter is_root ts) + length (lines_of u req ls ts) ≤ length ls + length ts
  few_of ls [] = omega arith
  few_of ls (t ∷ ts) =
      let a = few_of (with_some ls (said_of u req t)) ts in
      let b = few_more t ts ls in
      omega (arith, a, b)

pub lines_are_few : LinesAreFew
lines_are_few u req ts = (let h = few_of u req [] ts in omega (arith, h))
