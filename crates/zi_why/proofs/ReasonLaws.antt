-- Reasons are true.
use Rattle.std.proofs.Common.{◌≡◌, ◌≢◌, ℕ, zero, suc, ◌==◌, Bool, true, false, not, cond, ◌||◌, ◌&&◌, List, [], ◌∷◌, ◌++◌, take, map, refl, sym, subst, ap, ◌∙◌, arith, eqb-true, eq-eqb, Option, Some, None, if◌then◌else◌}
use Rattle.std.specs.Prelude.{option_and_then, option_map, slice_get, filter, find, is_some, All, IfSome, IsSome, IsSomeAnd}
use Rattle.std.specs.List.{list_any, list_all, flat_map}
use Rattle.std.proofs.lemmas.Bool.{false≢true, and_from, and_parts}
use Rattle.std.proofs.lemmas.Option.{same_Some}
use Rattle.zi_parts.specs.declared.types.Dep.{Dep}
use Rattle.zi_parts.specs.declared.types.DepKind.{DepKind}
use Rattle.zi_parts.specs.declared.types.Command.{Command}
use Rattle.zi_policy.specs.declared.types.Width.{Width}
use Rattle.zi_universe.specs.declared.types.Requirement.{Requirement}
use Rattle.zi_universe.specs.declared.types.Candidate.{Candidate}
use Rattle.zi_universe.specs.declared.types.Interface.{Interface}
use Rattle.zi_universe.specs.Candidates.{asks}
use Rattle.zi_choice.specs.Valid.{group}
use Rattle.zi_parts.specs.declared.types.DepKind.TheVariants.{Essential, Recommended, Restricts}
use Rattle.zi_policy.specs.declared.types.Width.TheVariants.{Any, Bits32, Bits64}
use Rattle.zi_choice.specs.Vars.{candidates_of}
use Rattle.zi_build.specs.Clauses.{is_admitted, named_by}
use Rattle.zi_why.specs.declared.report.Reason.TheVariants.{Lacking, Search}
use Rattle.zi_choice.specs.Choice.{Choice, pick, chosen, number, candidate_at, command_of, command_at, deps_of, needs_of}
use Rattle.zi_choice.specs.Walk.{Walk, Use, wanted}
use Rattle.zi_choice.specs.Valid.{IsValid, IsMet, AreMet, Suits, Has, target}
use Rattle.zi_choice.specs.declared.traced.Stop.{Stop}
use Rattle.zi_choice.specs.declared.traced.Stop.TheVariants.{Came, Needed}
use Rattle.zi_choice.specs.Stops.{is_came, came_to, uses_of, interface_of}
use Rattle.zi_why.specs.Reasons.{Owned, owned_by, owned_at, needs_at, owned, is_number, is_on, bearing, has, lacks, does_suit, is_essential, refuses, refusing, of_root, named_of, asked_of, lacking, are_apart, is_of_other, is_other_at, of_other_bits, isnt_met_by, isnt_met_at, is_against, against, targets, is_beyond, missing, by_owner, by_stop, by_target, by_need, else_reason, reason}
use Rattle.zi_why.specs.Laws.{ReasonsAreTrue, IsPlain}
use Rattle.zi_feed.specs.IdLaws.{none_some}
use Rattle.zi_choice.proofs.StopLaws.{AlikeAt, fronts, stops_part, stops_there}

-- Each item of a list.

abbrev pub Every : {A : Type 0} → (A → Type 0) → List A → Type 0
Every P [] = Unit {0}
Every P (x ∷ xs) = P x × Every P xs

every : {A : Type 0} (P : A → Type 0) (xs : List A) → All P xs → Every P xs
every P [] h = tt
every P (x ∷ xs) h = (h 0 x (omega arith), every P xs (λ k d lt. h (suc k) d (omega (arith, lt))))

pub both : {A : Type 0} (P : A → Type 0) (xs ys : List A) → Every P xs → Every P ys → Every P (xs ++ ys)
both P [] ys h g = g
both P (x ∷ xs) ys h g = (h.0, both P xs ys h.1 g)

mapped : {A B : Type 0} (P : B → Type 0) (f : A → B) (xs : List A) → Every (λ x. P (f x)) xs → Every P (map f xs)
mapped P f [] h = tt
mapped P f (x ∷ xs) h = (h.0, mapped P f xs h.1)

-- those that pass
passed : {A : Type 0} (P : A → Type 0) (test : A → Bool) (xs : List A) → Every P xs → Every (λ x. P x × (test x ≡ true)) (filter test xs)
passed P test [] h = tt
passed P test (x ∷ xs) h = at (test x) refl (passed P test xs h.1)
  where
    at : (b : Bool) → test x ≡ b → Every (λ y. P y × (test y ≡ true)) (filter test xs) → Every (λ y. P y × (test y ≡ true)) (cond b (x ∷ filter test xs) (filter test xs))
    at true e rest = ((h.0, e), rest)
    at false e rest = rest

-- what is found is one of them
found : {A : Type 0} (P : A → Type 0) (test : A → Bool) (xs : List A) (x : A) → Every P xs → find test xs ≡ Some x → P x × (test x ≡ true)
found P test [] x h e = absurd (none_some e)
found P test (y ∷ ys) x h e = at (test y) refl e (λ g. found P test ys x h.1 g)
  where
    at : (b : Bool) → test y ≡ b → cond b (Some y) (find test ys) ≡ Some x → (find test ys ≡ Some x → P x × (test x ≡ true)) → P x × (test x ≡ true)
    at true f g later = let s : y ≡ x = same_Some _ _ g in (subst P s h.0, subst (λ z. test z ≡ true) s f)
    at false f g later = later g

any_at : {A : Type 0} (test : A → Bool) (xs : List A) (n : ℕ) (x : A) → slice_get xs n ≡ Some x → test x ≡ true → list_any test xs ≡ true
any_at test [] n x e h = absurd (none_some e)
any_at test (y ∷ ys) zero x e h = ap (λ b. b || list_any test ys) (ap test (same_Some _ _ e) ∙ h)
any_at test (y ∷ ys) (suc n) x e h = at (test y) (any_at test ys n x e h)
  where
    at : (b : Bool) → list_any test ys ≡ true → (b || list_any test ys) ≡ true
    at true g = refl
    at false g = g

all_pass : {A : Type 0} (test : A → Bool) (xs : List A) → Every (λ x. test x ≡ true) xs → list_all test xs ≡ true
all_pass test [] h = refl
all_pass test (x ∷ xs) h = and_from (test x) (list_all test xs) h.0 (all_pass test xs h.1)

some_at : {A : Type 0} (P : A → Type 0) (o : Option A) (x : A) → o ≡ Some x → IfSome o P → P x
some_at P o x e h = subst (λ p. IfSome p P) e h

not_both_so : {b : Bool} → b ≡ true → not b ≡ true → ⊥
not_both_so {b} e n = false≢true (sym (ap not e) ∙ n)

-- What suits, does.

has_it : (k : Candidate) (name : List ℕ) → Has k name → has k name ≡ true
has_it k name h = ap (λ b. not (not b)) h

names_there : (d : Dep) (k : Candidate) → Suits d k → Every (λ name. Has k name) (named_by d)
names_there d k h = at (asks d) refl
  where
    at : (b : Bool) → asks d ≡ b → Every (λ name. Has k name) (if b then d.commands else [])
    at true e = every (λ name. Has k name) d.commands (h.commands e)
    at false e = tt

have_all : (k : Candidate) (names : List (List ℕ)) → Every (λ name. Has k name) names → Every (λ name. has k name ≡ true) names
have_all k [] h = tt
have_all k (x ∷ xs) h = (has_it k x h.0, have_all k xs h.1)

suits_does : (d : Dep) (k : Candidate) → Suits d k → does_suit d k ≡ true
suits_does d k h = and_from (is_admitted d k) (list_all (has k) (named_by d)) h.admitted (all_pass (has k) (named_by d) (have_all k (named_by d) (names_there d k h)))

essential_is : (d : DepKind) → is_essential d ≡ true → d ≡ Essential
essential_is Essential e = refl
essential_is Recommended e = absurd (false≢true e)
essential_is Restricts e = absurd (false≢true e)

-- A valid choice, and the stops that it has.

module _ (u : List Interface) (req : Requirement) (t : Choice) (v : IsValid u req t) where
  abbrev Met : Owned → Type 0
  Met o = IsMet u t o.dep

  deps_met : (j : ℕ) → Every (λ d. IsMet u t d) (deps_of (chosen u t j))
  deps_met j = at (chosen u t j) (v.met j)
    where
      at : (o : Option Candidate) → IfSome o (λ c. AreMet u t c.imp.deps) → Every (λ d. IsMet u t d) (deps_of o)
      at None h = tt
      at (Some c) h = every (λ d. IsMet u t d) c.imp.deps h

  abbrev use_met : Use → Type 0
  use_met x = IfSome (command_at u t x.interface x.command) (λ m. AreMet u t (needs_of m))

  needs_met : (o : Option Command) → IfSome o (λ m. AreMet u t (needs_of m)) → Every (λ d. IsMet u t d) (needs_at o)
  needs_met None h = tt
  needs_met (Some m) h = every (λ d. IsMet u t d) (needs_of m) h

  uses_met : Every use_met v.walk.used
  uses_met = every (λ (x : Use). IfSome (command_at u t x.interface x.command) (λ m. AreMet u t (needs_of m))) v.walk.used v.used_met

  own_met : (xs : List Stop) (n : ℕ) → Every use_met (uses_of xs) → Every Met (owned u t (take n xs))
  own_met xs zero h = tt
  own_met [] (suc n) h = tt
  own_met (Came j ∷ xs) (suc n) h = both Met (map (owned_by j) (deps_of (chosen u t j))) (owned u t (take n xs)) (mapped Met (owned_by j) (deps_of (chosen u t j)) (deps_met j)) (own_met xs n h)
  own_met (Needed j name ∷ xs) (suc n) h = both Met (map (owned_by j) (needs_at (command_at u t j name))) (owned u t (take n xs)) (mapped Met (owned_by j) (needs_at (command_at u t j name)) (needs_met (command_at u t j name) h.0)) (own_met xs n h.1)

  target_is : (d : Dep) (i : ℕ) → number u d.interface ≡ Some i → target u t d ≡ chosen u t i
  target_is d i e = ap (λ o. option_and_then (λ j. chosen u t j) o) e

  on_number : (i : ℕ) (o : Option ℕ) → is_number i o ≡ true → o ≡ Some i
  on_number i None e = absurd (false≢true e)
  on_number i (Some j) e = ap (λ x. Some x) (eqb-true j i e)

  suits_at : (d : Dep) (i : ℕ) (k : Candidate) → number u d.interface ≡ Some i → chosen u t i ≡ Some k → IsMet u t d → Suits d k
  suits_at d i k e c m = some_at (λ (x : Candidate). Suits d x) (target u t d) k (target_is d i e ∙ c) m.suits

  -- with the candidate at the place
  module _ (zs : List Stop) (i : ℕ) (k : Candidate) (here : chosen u t i ≡ Some k) (met : Every Met (owned u t zs)) where
    bear_suits : Every (λ o. Suits o.dep k) (bearing u t zs i)
    bear_suits = over (bearing u t zs i) (passed Met (is_on u i) (owned u t zs) met)
      where
        over : (os : List Owned) → Every (λ o. Met o × (is_on u i o ≡ true)) os → Every (λ o. Suits o.dep k) os
        over [] h = tt
        over (o ∷ os) h = (suits_at o.dep i k (on_number i (number u o.dep.interface) h.0.1) here h.0.0, over os h.1)

    no_version : (o : Owned) → refusing u t zs i k ≡ Some o → ⊥
    no_version o e = let f = found (λ (x : Owned). Suits x.dep k) (refuses k) (bearing u t zs i) o bear_suits e in not_both_so f.0.admitted f.1

    root_has : Every (λ name. Has k name) (of_root req i)
    root_has = at (i == 0) refl
      where
        of_command : (q : Option (List ℕ)) → IfSome q (λ name. Has k name) → Every (λ name. Has k name) (wanted q)
        of_command None h = tt
        of_command (Some name) h = (h, tt)

        at : (b : Bool) → (i == 0) ≡ b → Every (λ name. Has k name) (if b then wanted req.command else [])
        at true e = of_command req.command (subst (λ o. IsSomeAnd o (λ c. IfSome req.command (λ name. Has c name))) (subst (λ j. chosen u t j ≡ Some k) (eqb-true i 0 e) here) v.root)
        at false e = tt

    bear_names : (os : List Owned) → Every (λ o. Suits o.dep k) os → Every (λ name. Has k name) (flat_map named_of os)
    bear_names [] h = tt
    bear_names (o ∷ os) h = both (λ name. Has k name) (named_of o) (flat_map named_of os) (names_there o.dep k h.0) (bear_names os h.1)

    no_lack : (name : List ℕ) → lacking u req t zs i k ≡ Some name → ⊥
    no_lack name e =
        let f = found (λ n. Has k n) (lacks k) (asked_of u req t zs i) name (both (λ n. Has k n) (of_root req i) (flat_map named_of (bearing u t zs i)) root_has (bear_names (bearing u t zs i) bear_suits)) e in
        not_both_so f.0 f.1

    apart_no : (c : Candidate) (j : ℕ) → chosen u t j ≡ Some c → are_apart (group c) (group k) ≡ true → ⊥
    apart_no c j e = at (group c) (group k) refl refl
      where
        at : (x y : Width) → group c ≡ x → group k ≡ y → are_apart x y ≡ true → ⊥
        at Any Any p q f = false≢true f
        at Any Bits32 p q f = false≢true f
        at Any Bits64 p q f = false≢true f
        at Bits32 Any p q f = false≢true f
        at Bits32 Bits32 p q f = false≢true f
        at Bits32 Bits64 p q f = v.one_group j i c k e here p q
        at Bits64 Any p q f = false≢true f
        at Bits64 Bits32 p q f = v.one_group i j k c here e q p
        at Bits64 Bits64 p q f = false≢true f

    other_no : (j : ℕ) → is_of_other k (chosen u t j) ≡ true → ⊥
    other_no j = at (chosen u t j) refl
      where
        at : (o : Option Candidate) → chosen u t j ≡ o → is_of_other k o ≡ true → ⊥
        at None e f = false≢true f
        at (Some c) e f = apart_no c j e f

    own_deps : Every (λ d. IsMet u t d) k.imp.deps
    own_deps = subst (λ o. Every (λ d. IsMet u t d) (deps_of o)) here (deps_met i)

    met_by_no : (d : Dep) (j : ℕ) → number u d.interface ≡ Some j → IsMet u t d → isnt_met_by d (chosen u t j) ≡ true → ⊥
    met_by_no d j e m = at (chosen u t j) refl
      where
        at : (o : Option Candidate) → chosen u t j ≡ o → isnt_met_by d o ≡ true → ⊥
        at None f g = false≢true (subst (λ o. is_some o ≡ true) (target_is d j e ∙ f) (m.there (essential_is d.kind g)))
        at (Some x) f g = not_both_so (suits_does d x (suits_at d j x e f m)) g

    candidate_in : (w : List Interface) (j c : ℕ) (x : Candidate) → candidate_at w j c ≡ Some x → slice_get (candidates_of w j) c ≡ Some x
    candidate_in [] j c x e = absurd (none_some e)
    candidate_in (y ∷ w) zero c x e = e
    candidate_in (y ∷ w) (suc j) c x e = candidate_in w j c x e

    chosen_any : (d : Dep) (j : ℕ) (x : Candidate) → chosen u t j ≡ Some x → Suits d x → list_any (does_suit d) (candidates_of u j) ≡ true
    chosen_any d j x e s = at (pick t j) refl
      where
        at : (p : Option ℕ) → pick t j ≡ p → list_any (does_suit d) (candidates_of u j) ≡ true
        at None f = absurd (none_some (sym (ap (λ q. option_and_then (λ c. candidate_at u j c) q) f) ∙ e))
        at (Some c) f = any_at (does_suit d) (candidates_of u j) c x (candidate_in u j c x (sym (ap (λ q. option_and_then (λ c. candidate_at u j c) q) f) ∙ e)) (suits_does d x s)

    none_missing : (d : Dep) → missing u k ≡ Some d → ⊥
    none_missing d e = let f = found (λ x. IsMet u t x) (is_beyond u) k.imp.deps d own_deps e in at f.0 (and_parts (is_essential d.kind) (not (list_any (does_suit d) (targets u (number u d.interface)))) f.1)
      where
        at_number : (q : Option ℕ) → number u d.interface ≡ q → IsMet u t d → IsSome (target u t d) → list_any (does_suit d) (targets u q) ≡ true
        at_number None n m h = absurd (false≢true (subst (λ o. is_some o ≡ true) (ap (λ o. option_and_then (λ j. chosen u t j) o) n) h))
        at_number (Some j) n m h = at_chosen (chosen u t j) refl
          where
            at_chosen : (o : Option Candidate) → chosen u t j ≡ o → list_any (does_suit d) (candidates_of u j) ≡ true
            at_chosen None c = absurd (false≢true (subst (λ o. is_some o ≡ true) (target_is d j n ∙ c) h))
            at_chosen (Some x) c = chosen_any d j x c (suits_at d j x n c m)

        at : IsMet u t d → (is_essential d.kind ≡ true) × (not (list_any (does_suit d) (targets u (number u d.interface))) ≡ true) → ⊥
        at m g = not_both_so (at_number (number u d.interface) refl m (m.there (essential_is d.kind g.0))) g.1

-- Two choices that agree.

module _ (u : List Interface) (s t : Choice) where
  same_pick : (j : ℕ) → pick s j ≡ pick t j → chosen u s j ≡ chosen u t j
  same_pick j e = ap (λ p. option_and_then (λ c. candidate_at u j c) p) e

  same_at : (x : Stop) → pick s (interface_of x) ≡ pick t (interface_of x) → owned_at u s x ≡ owned_at u t x
  same_at (Came j) e = ap (λ o. map (owned_by j) (deps_of o)) (same_pick j e)
  same_at (Needed j name) e = ap (λ o. map (owned_by j) (needs_at (option_and_then (λ c. command_of c name) o))) (same_pick j e)

  same_own : (zs : List Stop) → AlikeAt s t zs → owned u s zs ≡ owned u t zs
  same_own [] h = refl
  same_own (x ∷ xs) h = ap (λ l. l ++ owned u s xs) (same_at x h.0) ∙ ap (λ l. owned_at u t x ++ l) (same_own xs h.1)

  or_true : (b : Bool) {c : Bool} → c ≡ true → (b || c) ≡ true
  or_true true e = refl
  or_true false e = e

  or_first : (b c : Bool) → b ≡ true → (b || c) ≡ true
  or_first true c e = refl
  or_first false c e = absurd (false≢true e)

  abbrev AgreeAt : Stop → Type 0
  AgreeAt x = (j : ℕ) → is_came j x ≡ true → pick s j ≡ pick t j

  agree_each : (zs : List Stop) → ((j : ℕ) → came_to zs j ≡ true → pick s j ≡ pick t j) → Every AgreeAt zs
  agree_each [] h = tt
  agree_each (x ∷ xs) h = (λ j e. h j (or_first (is_came j x) (came_to xs j) e), agree_each xs (λ j e. h j (or_true (is_came j x) e)))

none_of : {A : Type 0} (o : Option A) → ((x : A) → o ≡ Some x → ⊥) → o ≡ None
none_of None h = refl
none_of (Some x) h = absurd (h x refl)

module _ (u : List Interface) (req : Requirement) (s t : Choice) (v : IsValid u req t) (zs : List Stop) (i : ℕ) (k : Candidate) (here : chosen u t i ≡ Some k) (met : Every (Met u req t v) (owned u t zs)) (own : AlikeAt s t zs) (agree : (j : ℕ) → came_to zs j ≡ true → pick s j ≡ pick t j) where
  same_bearing : bearing u s zs i ≡ bearing u t zs i
  same_bearing = ap (filter (is_on u i)) (same_own u s t zs own)

  no_refusing : refusing u s zs i k ≡ None
  no_refusing = none_of (refusing u s zs i k) (λ o e. no_version u req t v zs i k here met o (ap (find (refuses k)) (sym same_bearing) ∙ e))

  no_lacking : lacking u req s zs i k ≡ None
  no_lacking = none_of (lacking u req s zs i k) (λ n e. no_lack u req t v zs i k here met n (ap (λ os. find (lacks k) (of_root req i ++ flat_map named_of os)) (sym same_bearing) ∙ e))

  no_other : of_other_bits u s zs k ≡ None
  no_other = none_of (of_other_bits u s zs k) (λ x e. let f = found (AgreeAt u s t) (is_other_at u s k) zs x (agree_each u s t zs agree) e in at x f.0 f.1)
    where
      at : (x : Stop) → AgreeAt u s t x → is_other_at u s k x ≡ true → ⊥
      at (Came j) h f = other_no u req t v zs i k here met j (subst (λ o. is_of_other k o ≡ true) (same_pick u s t j (h j (eq-eqb j j refl))) f)
      at (Needed j name) h f = false≢true f

  no_against : against u s zs i k ≡ None
  no_against = none_of (against u s zs i k) (λ d e. let f = found (λ x. IsMet u t x) (is_against u s zs i k) k.imp.deps d (own_deps u req t v zs i k here met) e in at d (number u d.interface) refl f.0 f.1)
    where
      at_one : (d : Dep) (j : ℕ) → number u d.interface ≡ Some j → IsMet u t d → (b : Bool) → (j == i) ≡ b → (if b then isnt_met_by d (Some k) else (came_to zs j && isnt_met_by d (chosen u s j))) ≡ true → ⊥
      at_one d j n m true g f = met_by_no u req t v zs i k here met d j n m (subst (λ o. isnt_met_by d o ≡ true) (sym (subst (λ l. chosen u t l ≡ Some k) (sym (eqb-true j i g)) here)) f)
      at_one d j n m false g f =
          let p = and_parts (came_to zs j) (isnt_met_by d (chosen u s j)) f in
          met_by_no u req t v zs i k here met d j n m (subst (λ o. isnt_met_by d o ≡ true) (same_pick u s t j (agree j p.0)) p.1)

      at : (d : Dep) (q : Option ℕ) → number u d.interface ≡ q → IsMet u t d → isnt_met_at u s zs i k d q ≡ true → ⊥
      at d None n m f = false≢true f
      at d (Some j) n m f = at_one d j n m (j == i) refl f

  no_missing : missing u k ≡ None
  no_missing = none_of (missing u k) (λ d e. none_missing u req t v zs i k here met d e)

  is_search : (hints : ℕ) → reason u req s zs i k hints ≡ Search hints
  is_search hints =
      let a = λ (o : Option Owned). else_reason (option_map (by_owner u) o)
      (else_reason (option_map (λ name. Lacking name) (lacking u req s zs i k)) (else_reason (option_map (by_stop u) (of_other_bits u s zs k)) (else_reason (option_map by_target (against u s zs i k)) (else_reason (option_map by_need (missing u k)) (Search hints))))) in
      let b = λ (o : Option (List ℕ)). else_reason (option_map (λ name. Lacking name) o)
      (else_reason (option_map (by_stop u) (of_other_bits u s zs k)) (else_reason (option_map by_target (against u s zs i k)) (else_reason (option_map by_need (missing u k)) (Search hints)))) in
      let c = λ (o : Option Stop). else_reason (option_map (by_stop u) o) (else_reason (option_map by_target (against u s zs i k)) (else_reason (option_map by_need (missing u k)) (Search hints))) in
      let d = λ (o : Option Dep). else_reason (option_map by_target o) (else_reason (option_map by_need (missing u k)) (Search hints)) in
      let e = λ (o : Option Dep). else_reason (option_map by_need o) (Search hints) in
      ap a no_refusing ∙ ap b no_lacking ∙ ap c no_other ∙ ap d no_against ∙ ap e no_missing

pub reasons_true : ReasonsAreTrue
reasons_true u req s t p hints plain v agree picked =
    let r = stops_there u req t v.walk v.walks in
    let f = fronts u s t p.stops r.0 p.at p.interface (stops_part u req s t p.stops r.0 p.are r.1) agree p.here in
    let here : chosen u t p.interface ≡ Some p.candidate = ap (λ o. option_and_then (λ c. candidate_at u p.interface c) o) picked ∙ p.there in
    let used : Every (use_met u req t v) (uses_of r.0) = subst (Every (use_met u req t v)) (sym (ap (λ (w : Walk). w.used) r.2)) (uses_met u req t v) in
    let met : Every (Met u req t v) (owned u t (take p.at p.stops)) = subst (λ xs. Every (Met u req t v) (owned u t xs)) f.before (own_met u req t v r.0 p.at used) in
    subst IsPlain (is_search u req s t v (take p.at p.stops) p.interface p.candidate here met f.alike agree hints) plain
