-- The rename of a purger's step.
use Rattle.std.proofs.Common.{◌≡◌, ◌≤◌, ℕ, zero, suc, ◌+◌, ◌<◌, true, false, nat_lt, if◌then◌else◌, not, filter, List, [], ◌∷◌, ◌++◌, map, length, Option, Some, refl, sym, ◌∙◌, ap, subst, slice_get, option_map, arith, slice_index_or}
use Rattle.std.proofs.lemmas.List.{map-append}
use Rattle.std.proofs.lemmas.Bool.{lt-ltb, ltb-true}
use Rattle.zi_digest.specs.Name.{spelling}
use Rattle.zi_digest.specs.declared.DigestName.{DigestName}
use Rattle.zi_shelf.specs.Names.{Name}
use Rattle.zi_store.specs.Rising.{is_among}
use Rattle.zi_shelf.specs.Shelved.{Call, Rename, Reply, Did, Exists, Memory}
use Rattle.zi_shelf.specs.Filling.{Work}
use Rattle.zi_shelf.specs.Shelving.{Shelving, Does}
use Rattle.zi_session.specs.Phases.{tmp_name}
use Rattle.zi_session.proofs.KeepingLemmas.{no_call}
use Rattle.zi_purge.specs.Machine.{Phase, Moving, Closing, Ended, Crowded, purged, moving, next_call, next_phase, rename_call}
use Rattle.zi_purge.specs.Phases.{phase_of}
use Rattle.zi_purge.specs.Stepping.{Standing, standing, SaysOn, with_name, gone_after, moved, IsStep}
use Rattle.zi_purge.specs.declared.phase.Phase.TheVariants.{Moves}
use Rattle.zi_purge.specs.declared.purge.Purge.{Purge}
use Rattle.zi_purge.specs.declared.step.PurgeStep.{PurgeStep}
use Rattle.zi_purge.specs.declared.step.PurgeStep.TheVariants.{More as SaysMore, Memory as SaysMemory}

slice_map : {X Y : Type 0} (f : X → Y) (xs : List X) (i : ℕ) → slice_get (map f xs) i ≡ option_map f (slice_get xs i)
slice_map f [] i = refl
slice_map f (x ∷ xs) zero = refl
slice_map f (x ∷ xs) (suc i) = slice_map f xs i

within_list : {X : Type 0} (xs : List X) (i : ℕ) → i < length xs → (x : X) × (slice_get xs i ≡ Some x)
within_list [] i h = absurd (omega arith)
within_list (x ∷ xs) zero h = (x, refl)
within_list (x ∷ xs) (suc i) h = within_list xs i (omega arith)

-- the call is that of the phase
next_is : (names : List Name) (k n : ℕ) (d tmp : Name) (p : Phase) → p ≡ Moving k n → slice_get names k ≡ Some d → tmp ≡ tmp_name n → ◌≡◌ {A = Option (Call Work)} (next_call tmp_name names p) (Some (Rename d tmp))
next_is names k n d tmp p is at same =
    let m : ◌≡◌ {A = Option (Call Work)} (rename_call (slice_get names k) (tmp_name n)) (Some (Rename d (tmp_name n))) = ap (λ o. rename_call o (tmp_name n)) at in
    subst (λ q. ◌≡◌ {A = Option (Call Work)} (next_call tmp_name names q) (Some (Rename d tmp))) (sym is) (subst (λ t. ◌≡◌ {A = Option (Call Work)} (rename_call (slice_get names k) (tmp_name n)) (Some (Rename d t))) (sym same) m)

-- the rename with its reply
pub renamed : (x : Purge) (before after : Shelving) (reply : Reply) (d tmp : Name) (q : Phase) (gone : List Name) (step : PurgeStep)
    → x.phase ≡ Moves → slice_get x.texts.items x.place ≡ Some d → tmp ≡ tmp_name x.number → Does before (Rename d tmp) reply after
    → q ≡ next_phase 10000 (length x.texts.items) (Moving x.place x.number) reply
    → gone ≡ gone_after x.texts.items (Moving x.place x.number) reply (map spelling x.gone)
    → SaysOn (Moving x.place x.number) reply q step
    → IsStep (standing x) before step (record { names = x.texts.items; phase = q; gone = gone }) after
renamed x before after reply d tmp q gone step moves at same does phase noted says =
    let is : phase_of x.phase x.place x.number ≡ Moving x.place x.number = ap (λ p. phase_of p x.place x.number) moves in
    record {
      call = Rename d tmp;
      next = next_is x.texts.items x.place x.number d tmp (phase_of x.phase x.place x.number) is at same;
      reply = reply;
      replies = tt;
      does = does;
      goes = goes_on is;
      says = subst (λ p. SaysOn p reply q step) (sym is) says;
    }
  where
    goes_on : phase_of x.phase x.place x.number ≡ Moving x.place x.number → ◌≡◌ {A = Standing} (record { names = x.texts.items; phase = q; gone = gone }) (moved (standing x) reply)
    goes_on is =
        let y : Standing = record { names = x.texts.items; phase = next_phase 10000 (length x.texts.items) (Moving x.place x.number) reply; gone = gone_after x.texts.items (Moving x.place x.number) reply (map spelling x.gone) } in
        let a : ◌≡◌ {A = Standing} (record { names = x.texts.items; phase = q; gone = gone }) y = rw (phase, noted) refl in
        a ∙ subst (λ p. ◌≡◌ {A = Standing} y (record { names = x.texts.items; phase = next_phase 10000 (length x.texts.items) p reply; gone = gone_after x.texts.items p reply (map spelling x.gone) })) (sym is) refl

-- no call was made for want of memory, and the list of what is gone is as it was
pub waits : (x : Purge) (seen : Shelving) (gone : List Name) → x.phase ≡ Moves → x.place < length x.texts.items → gone ≡ map spelling x.gone
    → IsStep (standing x) seen SaysMemory (record { names = x.texts.items; phase = phase_of x.phase x.place x.number; gone = gone }) seen
waits x seen gone moves inside same =
    let found = within_list x.texts.items x.place inside in
    let is : phase_of x.phase x.place x.number ≡ Moving x.place x.number = ap (λ p. phase_of p x.place x.number) moves in
    renamed x seen seen Memory found.0 (tmp_name x.number) (phase_of x.phase x.place x.number) gone SaysMemory moves found.1 refl (no_call seen (Rename found.0 (tmp_name x.number))) is same refl

-- one name more
pub noted : (texts : List Name) (names gone now : List DigestName) (k n : ℕ) (name : DigestName) → map spelling names ≡ texts → slice_get names k ≡ Some name → now ≡ gone ++ name ∷ []
    → map spelling now ≡ gone_after texts (Moving k n) Did (map spelling gone)
noted texts names gone now k n name spelled at is =
    let t : slice_get texts k ≡ Some (spelling name) = ap (λ l. slice_get l k) (sym spelled) ∙ slice_map spelling names k ∙ ap (option_map spelling) at in
    ap (map spelling) is ∙ map-append spelling gone (name ∷ []) ∙ sym (ap (with_name (map spelling gone)) t)

pub tries_on : (k n : ℕ) → n + 1 < 10000 → Moving k (n + 1) ≡ (if nat_lt (n + 1) 10000 then Moving k (n + 1) else Ended Crowded)
tries_on k n h = sym (ap (λ b. if b then Moving k (n + 1) else Ended Crowded) (lt-ltb (n + 1) 10000 h))

-- the next number is tried
pub on_next : (x : Purge) (before after : Shelving) (d tmp : Name) (gone : List Name)
    → x.phase ≡ Moves → slice_get x.texts.items x.place ≡ Some d → tmp ≡ tmp_name x.number → Does before (Rename d tmp) Exists after → x.number + 1 < 10000 → gone ≡ map spelling x.gone
    → IsStep (standing x) before SaysMore (record { names = x.texts.items; phase = phase_of x.phase x.place (x.number + 1); gone = gone }) after
on_next x before after d tmp gone moves at same does less noted =
    let q : phase_of x.phase x.place (x.number + 1) ≡ Moving x.place (x.number + 1) = ap (λ p. phase_of p x.place (x.number + 1)) moves in
    renamed x before after Exists d tmp (phase_of x.phase x.place (x.number + 1)) gone SaysMore moves at same does (q ∙ tries_on x.place x.number less) noted
    (subst (λ p. SaysOn (Moving x.place x.number) Exists p SaysMore) (sym q) refl)

pub tries_out : (k n : ℕ) → 10000 ≤ n + 1 → Ended Crowded ≡ (if nat_lt (n + 1) 10000 then Moving k (n + 1) else Ended Crowded)
tries_out k n h = elim (nat_lt (n + 1) 10000) as (λ b. nat_lt (n + 1) 10000 ≡ b → Ended Crowded ≡ (if b then Moving k (n + 1) else Ended Crowded)) [
  | true ↦ λ e. (let less : n + 1 < 10000 = ltb-true (n + 1) 10000 e in absurd (omega arith))
  | false ↦ λ e. refl
] refl

pub as_reply : (before after : Shelving) (call : Call Work) (a b : Reply) → a ≡ b → Does before call a after → Does before call b after
as_reply before after call a b e d = subst (λ y. Does before call y after) e d

-- what an index gives stands there
pub at_index : {X : Type 0} (xs : List X) (i : ℕ) (d e : X) → i < length xs → slice_index_or xs i d ≡ e → slice_get xs i ≡ Some e
at_index [] i d e h is = absurd (omega arith)
at_index (x ∷ xs) zero d e h is = ap Some is
at_index (x ∷ xs) (suc i) d e h is = at_index xs i d e (omega arith) is

in_map : {X Y : Type 0} (f : X → Y) (xs : List X) (i : ℕ) (d e : X) → i < length (map f xs) → slice_index_or xs i d ≡ e → slice_get xs i ≡ Some e
in_map f [] i d e h is = absurd (omega arith)
in_map f (x ∷ xs) zero d e h is = ap Some is
in_map f (x ∷ xs) (suc i) d e h is = in_map f xs i d e (omega arith) is

pub at_name : (names : List DigestName) (texts : List Name) (i : ℕ) (d e : DigestName) → map spelling names ≡ texts → i < length texts → slice_index_or names i d ≡ e → slice_get names i ≡ Some e
at_name names texts i d e spelled inside is = in_map spelling names i d e (subst (λ l. i < length l) (sym spelled) inside) is

-- the names that aren't kept, spelled
spelled_left : (kept : List Name) (there : List DigestName) → map spelling (filter (λ d. not (is_among kept (spelling d))) there) ≡ filter (λ n. not (is_among kept n)) (map spelling there)
spelled_left kept [] = refl
spelled_left kept (d ∷ ds) =
    elim (not (is_among kept (spelling d))) as (λ b. map spelling (if b then d ∷ filter (λ x. not (is_among kept (spelling x))) ds else filter (λ x. not (is_among kept (spelling x))) ds)
    ≡ (if b then spelling d ∷ filter (λ n. not (is_among kept n)) (map spelling ds) else filter (λ n. not (is_among kept n)) (map spelling ds))) [
      | true ↦ ap (λ l. spelling d ∷ l) (spelled_left kept ds)
      | false ↦ spelled_left kept ds
    ]

pub texts_are : (kept_texts texts : List Name) (kept there names : List DigestName) → kept_texts ≡ map spelling kept → names ≡ filter (λ d. not (is_among kept_texts (spelling d))) there → texts ≡ map spelling names
    → texts ≡ purged (map spelling kept) (map spelling there)
texts_are kept_texts texts kept there names k n t = t ∙ ap (map spelling) n ∙ spelled_left kept_texts there ∙ ap (λ l. purged l (map spelling there)) k

-- before the first call
pub before_first : (all texts : List Name) (p : Phase) (gone : List Name) → texts ≡ all → p ≡ moving (length texts) 0 → gone ≡ []
    → ◌≡◌ {A = Standing} (record { names = texts; phase = p; gone = gone }) (record { names = all; phase = moving (length all) 0; gone = [] })
before_first all texts p gone t h g =
    let a : ◌≡◌ {A = Standing} (record { names = texts; phase = p; gone = gone }) (record { names = texts; phase = moving (length texts) 0; gone = [] }) = rw (h, g) refl in
    a ∙ ap (λ l. let y : Standing = record { names = l; phase = moving (length l) 0; gone = [] } in y) t

pub closes : (texts : List Name) → texts ≡ [] → Closing ≡ moving (length texts) 0
closes texts e = sym (ap (λ l. moving (length l) 0) e)

pub starts : (texts : List Name) → (texts ≡ [] → ⊥) → Moving 0 0 ≡ moving (length texts) 0
starts [] ne = absurd (ne refl)
starts (t ∷ ts) ne = let less : 0 < length (t ∷ ts) = omega arith in sym (ap (λ b. if b then Moving 0 0 else Closing) (lt-ltb 0 (length (t ∷ ts)) less))

-- by what the test of the length says
pub closes_if : (texts : List Name) → length texts ≡ 0 → Closing ≡ moving (length texts) 0
closes_if texts e = sym (ap (λ n. moving n 0) e)

pub starts_if : (texts : List Name) → (length texts ≡ 0 → ⊥) → Moving 0 0 ≡ moving (length texts) 0
starts_if texts ne = starts texts (λ e. ne (ap (λ (l : List Name). length l) e))
