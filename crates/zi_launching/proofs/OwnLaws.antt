-- What each shim folder holds at the end: a sound tree, and where the call stored it, the shim.
use Rattle.std.proofs.Common.{◌≡◌, ℕ, zero, suc, inl, inr, Bool, true, false, List, [], ◌∷◌, ◌++◌, map, refl, sym, ◌∙◌, subst, All, Contains}
use Rattle.std.proofs.lemmas.List.Elements.{All-nil, All-cons, All-head, All-tail}
use Rattle.std.proofs.lemmas.Option.{same_Some}
use Rattle.zi_digest.specs.declared.DigestName.{DigestName}
use Rattle.zi_digest.specs.Name.{spelling}
use Rattle.zi_manifest.specs.Manifest.{as_read}
use Rattle.zi_shelf.specs.Shelved.{Shelved}
use Rattle.zi_shelf.specs.Shelving.{Shelving}
use Rattle.zi_shelf.specs.Told.{Told}
use Rattle.zi_tree.specs.Dir.{Dir}
use Rattle.zi_shim.specs.Shim.{shim}
use Rattle.zi_shim.proofs.ShimLaws.{say_their_words}
use Rattle.zi_store.specs.Keeping.{Keeps, is_reading}
use Rattle.zi_store.proofs.KeepingLemmas.{keeps_none}
use Rattle.zi_session.specs.Alone.{added}
use Rattle.zi_session.specs.declared.step.Step.TheVariants as step
use Rattle.zi_universe.specs.Naming.{with_one}
use Rattle.zi_universe.proofs.NamingLemmas.{listed-joined_left}
use Rattle.zi_plan.specs.declared.call.ShimCall.{ShimCall}
use Rattle.zi_adding.specs.Trying.{Tried, Adds, RunInTurn}
use Rattle.zi_adding.specs.Gains.{IsKept}
use Rattle.zi_adding.proofs.HistoryLaws.{reads_use, uses_gain}
use Rattle.zi_world.specs.Shelves.{HeldThen}
use Rattle.zi_world.specs.Places.{InStore}
use Rattle.zi_fetching.specs.Known.{Names, is_known}
use Rattle.zi_launching.specs.Verifying.{IsSound, SoundAt, AreSound}
use Rattle.zi_launching.specs.Shims.{dir_of, shim_digest, AddsInTurn, IsShim}

-- what is there of an element of a list in which all are so
in_all : {X : Type 0} (P : X → Type 0) (xs : List X) (x : X) → All P xs → Contains xs x → P x
in_all P xs x h (k, lt, at) = subst P at (h k x lt)

pub all_front : {X : Type 0} (P : X → Type 0) (xs ys : List X) → All P (xs ++ ys) → All P xs
all_front P [] ys h = All-nil P
all_front P (x ∷ xs) ys h = All-cons P x xs (All-head P x (xs ++ ys) h) (all_front P xs ys (All-tail P x (xs ++ ys) h))

pub all_back : {X : Type 0} (P : X → Type 0) (xs ys : List X) → All P (xs ++ ys) → All P ys
all_back P [] ys h = h
all_back P (x ∷ xs) ys h = all_back P xs ys (All-tail P x (xs ++ ys) h)

all_mapped : {X Y : Type 0} (P : Y → Type 0) (Q : X → Type 0) (f : X → Y) → ((x : X) → P (f x) → Q x) → (xs : List X) → All P (map f xs) → All Q xs
all_mapped P Q f by [] h = All-nil Q
all_mapped P Q f by (x ∷ xs) h = All-cons Q x xs (by x (All-head P (f x) (map f xs) h)) (all_mapped P Q f by xs (All-tail P (f x) (map f xs) h))

-- Each entry that sessions made is read as its tree.
abbrev IsReadSo : Tried → Type 0
IsReadSo a = as_read (added (spelling a.name) a.tree).tree ≡ a.tree

run_read : (xs : List Tried) (s t : Told) → RunInTurn xs s t → All IsReadSo xs
run_read [] s t e = All-nil IsReadSo
run_read (x ∷ xs) s t (mid, first, rest) = All-cons IsReadSo x xs first.leaves.read (run_read xs mid t rest)

module _ (tried : List Tried) (before now after : Shelving) (adds : Adds tried before now) (reads : Keeps is_reading now after) where
  -- each that was tried is kept at the end, and its entry is read as its tree
  abbrev AreKept : Shelved Dir → Type 0
  AreKept s = All (λ (a : Tried). IsKept s a a.answer) tried × All IsReadSo tried

  pub kept_then : HeldThen before after AreKept
  kept_then = λ s h e.
      let u = uses_gain tried before after (reads_use tried before before now after (keeps_none is_reading before) adds reads) in
      let g = u.gains s h e in
      let n = adds.alone s h e in
      (g.0, g.1, (g.2.there, run_read tried s n.0 n.2))

  -- so what was stored is the shim
  own_shim : (s : Shelved Dir) (call : ShimCall) → AreKept s → IsSound s (shim_digest call) → IsShim tried s call
  own_shim s call k sound = record {
    sound = sound;
    own = λ c.
        let a : Tried = record { name = shim_digest call; tree = dir_of call; answer = step.Stored } in
        let there = in_all (λ (a : Tried). IsKept s a a.answer) tried a k.0 c in
        let read = in_all IsReadSo tried a k.1 c in
        (added (spelling (shim_digest call)) (dir_of call), there, shim call.words, read, say_their_words.said call.words);
  }

  first_shim : (call : ShimCall) → HeldThen before after (λ s. IsSound s (shim_digest call)) → HeldThen before after (λ s. IsShim tried s call)
  first_shim call sound = λ s h e.
      let k = kept_then s h e in
      let m = sound s h e in
      let same : k.0 ≡ m.0 = same_Some k.0 m.0 (sym k.1 ∙ m.1) in
      (m.0, m.1, own_shim m.0.shelf call (subst (λ (t : Told). AreKept t.shelf) same k.2) m.2)

-- What is tried wasn't known to be stored.
with_known : (stored : Names) (d e : DigestName) → is_known stored d ≡ true → is_known (with_one stored (spelling e)) d ≡ true
with_known stored d e h = listed-joined_left (spelling d) stored (spelling e ∷ []) h

not_earlier : (stored : Names) (d e : DigestName) → is_known (with_one stored (spelling e)) d ≡ false → is_known stored d ≡ false
not_earlier stored d e h = by (is_known stored d) refl
  where
    by : (b : Bool) → is_known stored d ≡ b → is_known stored d ≡ false
    by true k = absurd (cc (sym (with_known stored d e k) ∙ h))
    by false k = k

tried_new : (calls : List ShimCall) (stored : Names) (tried : List Tried) → AddsInTurn stored calls tried → All (λ (a : Tried). is_known stored a.name ≡ false) tried
tried_new [] stored tried none = subst (All (λ (a : Tried). is_known stored a.name ≡ false)) (sym none) (All-nil (λ (a : Tried). is_known stored a.name ≡ false))
tried_new (c ∷ cs) stored tried (inl (there, rest)) = tried_new cs stored tried rest
tried_new (c ∷ cs) stored tried (inr (wanting, (a, rest, is, one, turn))) =
    subst (All (λ (x : Tried). is_known stored x.name ≡ false)) (sym is)
    (All-cons (λ (x : Tried). is_known stored x.name ≡ false) a rest (subst (λ d. is_known stored d ≡ false) (sym one.name) wanting)
    (all_earlier rest (tried_new cs (with_one stored (spelling a.name)) rest turn)))
  where
    all_earlier : (xs : List Tried) → All (λ (x : Tried). is_known (with_one stored (spelling a.name)) x.name ≡ false) xs → All (λ (x : Tried). is_known stored x.name ≡ false) xs
    all_earlier [] h = All-nil (λ (x : Tried). is_known stored x.name ≡ false)
    all_earlier (x ∷ xs) h =
        All-cons (λ (y : Tried). is_known stored y.name ≡ false) x xs (not_earlier stored x.name a.name (All-head (λ (y : Tried). is_known (with_one stored (spelling a.name)) y.name ≡ false) x xs h))
        (all_earlier xs (All-tail (λ (y : Tried). is_known (with_one stored (spelling a.name)) y.name ≡ false) x xs h))

-- All shims: each in the store where it stands, which is the first where the call stored it.
pub all_shims : (number : DigestName → ℕ) (stored : Names) (calls : List ShimCall) (tried : List Tried) (b now a : Shelving) (bs as_ : List Shelving) → ((d : DigestName) → is_known stored d ≡ false → number d ≡ 0)
    → AddsInTurn stored calls tried → Adds tried b now → Keeps is_reading now a → AreSound number (b ∷ bs) (a ∷ as_) (map shim_digest calls)
    → All (λ call. InStore (number (shim_digest call)) (b ∷ bs) (a ∷ as_) (λ x y. HeldThen x y (λ s. IsShim tried s call))) calls
all_shims number stored calls tried b now a bs as_ fresh turn adds reads sound =
    all_mapped (SoundAt number (b ∷ bs) (a ∷ as_)) (λ call. InStore (number (shim_digest call)) (b ∷ bs) (a ∷ as_) (λ x y. HeldThen x y (λ s. IsShim tried s call))) shim_digest
    (λ call h. in_place call (number (shim_digest call)) refl h) calls sound
  where
    never : (call : ShimCall) (i : ℕ) → number (shim_digest call) ≡ suc i → Contains tried (record { name = shim_digest call; tree = dir_of call; answer = step.Stored }) → ⊥
    never call i e c =
        let new = in_all (λ (x : Tried). is_known stored x.name ≡ false) tried (record { name = shim_digest call; tree = dir_of call; answer = step.Stored }) (tried_new calls stored tried turn) c in
        let zero_ = fresh (shim_digest call) new in
        cc (sym e ∙ zero_)

    elsewhere : (call : ShimCall) (i j : ℕ) → number (shim_digest call) ≡ suc i → (xs ys : List Shelving) → InStore j xs ys (λ x y. HeldThen x y (λ s. IsSound s (shim_digest call)))
        → InStore j xs ys (λ x y. HeldThen x y (λ s. IsShim tried s call))
    elsewhere call i j e [] ys h = absurd h
    elsewhere call i j e (x ∷ xs) [] h = absurd h
    elsewhere call i zero e (x ∷ xs) (y ∷ ys) h = λ s honest told. let m = h s honest told in (m.0, m.1, record { sound = m.2; own = λ c. absurd (never call i e c) })
    elsewhere call i (suc j) e (x ∷ xs) (y ∷ ys) h = elsewhere call i j e xs ys h

    in_place : (call : ShimCall) (i : ℕ) → number (shim_digest call) ≡ i → InStore (number (shim_digest call)) (b ∷ bs) (a ∷ as_) (λ x y. HeldThen x y (λ s. IsSound s (shim_digest call)))
        → InStore (number (shim_digest call)) (b ∷ bs) (a ∷ as_) (λ x y. HeldThen x y (λ s. IsShim tried s call))
    in_place call zero e h =
        subst (λ i. InStore i (b ∷ bs) (a ∷ as_) (λ x y. HeldThen x y (λ s. IsShim tried s call))) (sym e)
        (first_shim tried b now a adds reads call (subst (λ i. InStore i (b ∷ bs) (a ∷ as_) (λ x y. HeldThen x y (λ s. IsSound s (shim_digest call)))) e h))
    in_place call (suc i) e h = elsewhere call i (number (shim_digest call)) e (b ∷ bs) (a ∷ as_) h
