-- The first renames and what comes to each name, as a crash goes through what is pending.
use Rattle.std.proofs.Common.{◌≡◌, ◌+◌, ◌<◌, ◌≤◌, ℕ, Bool, true, false, cond, List, [], ◌∷◌, ◌++◌, map, reverse, length, take, Option, Some, None, refl, sym, ◌∙◌, ap, bytes_eq, if◌then◌else◌, ◌&&◌, slice_index, get_or, arith}
use Rattle.std.proofs.lemmas.List.{reverse-append, take_more, length-reverse, length-map, length-take-le}
use Rattle.std.proofs.lemmas.Map.Text.{is_eq-slice_cmp}
use Rattle.std.specs.Cmp.Lexicographic.{slice_cmp}
use Rattle.std.specs.Ordering.{nat_cmp}
use Rattle.std.specs.BTreeMap as tree
use Rattle.std.specs.BTreeMap.{BTreeMap}
use Rattle.zi_tree.specs.Dir.{Dir}
use Rattle.zi_shelf.specs.Names.{Name}
use Rattle.zi_shelf.specs.Shelved.{Pending, Renamed, Removed}
use Rattle.zi_shelf.specs.Crash.{removed}
use Rattle.zi_memory.specs.Memory.{later_of}
use Rattle.zi_memory.specs.Comers.{at, pending_of, may_stay, first_or, first_step, first_at, is_later, earlier, offered, best, comer, added, removed_comers, standing_comers, comer_step, place_step}
use Rattle.zi_memory.specs.declared.top_entry.TopEntry.{TopEntry}
use Rattle.zi_memory.specs.declared.top_entry.Later.{Later}
use Rattle.zi_memory.specs.declared.crash.Pick.{Pick}
use Rattle.zi_memory.specs.declared.crash.Comer.{Comer}
use Rattle.zi_memory.specs.declared.crash.First.{First}
use Rattle.zi_shelf.proofs.TopsLemmas.{test_true}

-- a map of names after a change at one of them
pub at_new : {X : Type 0} (m m' : BTreeMap Name X) (k : Name) (w : Option X) → tree.UpdatesBy (slice_cmp nat_cmp) (slice_cmp nat_cmp k) m m' w → (n : Name) → at m' n ≡ (if bytes_eq k n then w else at m n)
at_new m m' k w u n = u.0 n ∙ ap (λ t. cond t w (at m n)) (is_eq-slice_cmp k n)

kept_one : (o : Option Comer) (c : Comer) → is_later o c ≡ true → o ≡ Some (earlier o c)
kept_one None c h = absurd (cc h)
kept_one (Some d) c h = ap (λ t. Some (if t then d else c)) (sym h)

new_one : (o : Option Comer) (c : Comer) → is_later o c ≡ false → c ≡ earlier o c
new_one None c h = refl
new_one (Some d) c h = ap (λ t. if t then d else c) (sym h)

-- a comer that is put there, where the one that was there isn't as old
pub offered_as : (k n : Name) (c : Comer) (f : Name → Option Comer) → is_later (f k) c ≡ false → (if bytes_eq k n then Some c else f n) ≡ offered k c f n
offered_as k n c f late =
    elim (bytes_eq k n) as (λ t. (t ≡ true → k ≡ n) → (if t then Some c else f n) ≡ (if t then Some (earlier (f n) c) else f n)) [
      | true ↦ λ same. ap Some (new_one (f n) c (ap (λ q. is_later (f q) c) (sym (same refl)) ∙ late))
      | false ↦ λ same. refl
    ] (test_true k n)

-- one that isn't, since the other is as old
pub not_offered : (k n : Name) (c : Comer) (f : Name → Option Comer) → is_later (f k) c ≡ true → f n ≡ offered k c f n
not_offered k n c f late =
    elim (bytes_eq k n) as (λ t. (t ≡ true → k ≡ n) → f n ≡ (if t then Some (earlier (f n) c) else f n)) [
      | true ↦ λ same. kept_one (f n) c (ap (λ q. is_later (f q) c) (sym (same refl)) ∙ late)
      | false ↦ λ same. refl
    ] (test_true k n)

pub offered_same : (k n : Name) (c : Comer) (f g : Name → Option Comer) → f n ≡ g n → offered k c f n ≡ offered k c g n
offered_same k n c f g h = ap (λ o. if bytes_eq k n then Some (earlier o c) else o) h

-- a change by equal maps
pub first_same : (renames : Bool) (p : Pending Dir) (number : ℕ) (f g : Name → Option First) → ((q : Name) → f q ≡ g q) → (n : Name) → first_step renames p number f n ≡ first_step renames p number g n
first_same renames (Renamed a b) number f g h n =
    ap (λ o. if renames then (if bytes_eq b n then Some (first_or o a number) else if bytes_eq a n then None else f n) else f n) (h a)
    ∙ ap (λ o. if renames then (if bytes_eq b n then Some (first_or (g a) a number) else if bytes_eq a n then None else o) else o) (h n)
first_same renames (Removed m e) number f g h n = ap (λ o. if bytes_eq m n then None else o) (h n)

pub first_more : (renames : Bool) (p : Pending Dir) (number : ℕ) (older : List (Pending Dir)) (f g : Name → Option First) → ((q : Name) → f q ≡ first_at renames q older) → number ≡ length older
    → ((q : Name) → g q ≡ first_step renames p number f q) → (n : Name) → g n ≡ first_at renames n (p ∷ older)
first_more renames p number older f g h e step n =
    step n ∙ first_same renames p number f (λ q. first_at renames q older) h n ∙ ap (λ k. first_step renames p k (λ q. first_at renames q older) n) e

-- a rename, by what it takes out and puts in
pub renamed_more : (m taken new : BTreeMap Name First) (old name key : Name) (number : ℕ) (first : First) (renames : Bool) → renames ≡ true → first ≡ first_or (at m old) old number
    → ((n : Name) → at taken n ≡ (if bytes_eq old n then None else at m n)) → key ≡ name → tree.UpdatesBy (slice_cmp nat_cmp) (slice_cmp nat_cmp key) taken new (Some first)
    → (n : Name) → at new n ≡ first_step renames (Renamed old name) number (at m) n
renamed_more m taken new old name key number first renames back is out same u n =
    at_new taken new key (Some first) u n
    ∙ ap (λ k. if bytes_eq k n then Some first else at taken n) same
    ∙ ap (λ f. if bytes_eq name n then Some f else at taken n) is
    ∙ ap (λ o. if bytes_eq name n then Some (first_or (at m old) old number) else o) (out n)
    ∙ ap (λ t. if t then (if bytes_eq name n then Some (first_or (at m old) old number) else if bytes_eq old n then None else at m n) else at m n) (sym back)

-- what comes by one more of the pending ones
pub comer_more : (pick : Pick) (p : Pending Dir) (number place base : ℕ) (older : List (Pending Dir)) (f : Name → Option First) (c d : Name → Option Comer)
    → ((q : Name) → f q ≡ first_at pick.renames q older) → number ≡ length older → place ≡ base + length (removed older) → ((q : Name) → c q ≡ best (removed_comers pick base older) q)
    → ((q : Name) → d q ≡ comer_step pick p number place f c q) → (n : Name) → d n ≡ best (removed_comers pick base (p ∷ older)) n
comer_more pick (Renamed a b) number place base older f c d hf en ep hc step n = step n ∙ hc n
comer_more pick (Removed m e) number place base older f c d hf en ep hc step n =
    let first : first_or (f m) m number ≡ first_or (first_at pick.renames m older) m (length older) = ap (λ o. first_or o m number) (hf m) ∙ ap (first_or (first_at pick.renames m older) m) en in
    let new : Name × Comer = comer (first_or (first_at pick.renames m older) m (length older)) (base + length (removed older)) in
    step n
    ∙ ap (λ (x : First). if pick.removals && may_stay pick e.settled then offered x.name (record { older = x.older; place = place }) c n else c n) first
    ∙ ap (λ k. if pick.removals && may_stay pick e.settled then offered new.0 (record { older = new.1.older; place = k }) c n else c n) ep
    ∙ elim (pick.removals && may_stay pick e.settled) as (λ t. (if t then offered new.0 new.1 c n else c n) ≡ best (added t new (removed_comers pick base older)) n) [
      | true ↦ offered_same new.0 n new.1 c (best (removed_comers pick base older)) (hc n)
      | false ↦ hc n
    ]

-- what is pending, one more of the list taken
pub pending_more : (ps : List Later) (i : ℕ) (l : Later) → i < length ps → l ≡ get_or ps i l → pending_of (take (i + 1) ps) ≡ later_of l ∷ pending_of (take i ps)
pending_more ps i l lt is =
    ap pending_of (take_more ps i l lt ∙ ap (λ x. take i ps ++ x ∷ []) (sym is)) ∙ ap (map later_of) (reverse-append (take i ps) (l ∷ []))

pub place_more : (base place : ℕ) (p : Pending Dir) (older : List (Pending Dir)) → place ≡ base + length (removed older) → place_step p place ≡ base + length (removed (p ∷ older))
place_more base place (Renamed a b) older e = e
place_more base place (Removed m x) older e = omega (arith, e)

pub few_removed : (ps : List (Pending Dir)) → length (removed ps) ≤ length ps
few_removed [] = omega arith
few_removed (Renamed a b ∷ ps) = let h = few_removed ps in omega (arith, h)
few_removed (Removed m e ∷ ps) = let h = few_removed ps in omega (arith, h)

-- one more of the entries that stand
pub entries_more : (es : List TopEntry) (i : ℕ) (e : TopEntry) → i < length es → e ≡ get_or es i e → reverse (take (i + 1) es) ≡ e ∷ reverse (take i es)
entries_more es i e lt is = ap reverse (take_more es i e lt ∙ ap (λ x. take i es ++ x ∷ []) (sym is)) ∙ reverse-append (take i es) (e ∷ [])

pub standing_more : (pick : Pick) (pending : List (Pending Dir)) (es : List TopEntry) (others : List (Name × Comer)) (e : TopEntry) (place number : ℕ) (f : Name → Option First) (c d : Name → Option Comer)
    → ((q : Name) → f q ≡ first_at pick.renames q pending) → number ≡ length pending → place ≡ length es → ((q : Name) → c q ≡ best (standing_comers pick pending es others) q)
    → ((q : Name) → d q ≡ (if may_stay pick e.settled then offered (first_or (f e.name) e.name number).name (record { older = (first_or (f e.name) e.name number).older; place = place }) c q else c q))
    → (n : Name) → d n ≡ best (standing_comers pick pending (e ∷ es) others) n
standing_more pick pending es others e place number f c d hf en ep hc step n =
    let first : first_or (f e.name) e.name number ≡ first_or (first_at pick.renames e.name pending) e.name (length pending) = ap (λ o. first_or o e.name number) (hf e.name) ∙ ap (first_or (first_at pick.renames e.name pending) e.name) en in
    let new : Name × Comer = comer (first_or (first_at pick.renames e.name pending) e.name (length pending)) (length es) in
    step n
    ∙ ap (λ (x : First). if may_stay pick e.settled then offered x.name (record { older = x.older; place = place }) c n else c n) first
    ∙ ap (λ k. if may_stay pick e.settled then offered new.0 (record { older = new.1.older; place = k }) c n else c n) ep
    ∙ elim (may_stay pick e.settled) as (λ t. (if t then offered new.0 new.1 c n else c n) ≡ best (added t new (standing_comers pick pending es others)) n) [
      | true ↦ offered_same new.0 n new.1 c (best (standing_comers pick pending es others)) (hc n)
      | false ↦ hc n
    ]

-- as long as the list that was taken
pub pending_length : (ps : List Later) (i : ℕ) → i ≤ length ps → length (pending_of (take i ps)) ≡ i
pending_length ps i le = length-map (reverse (take i ps)) later_of ∙ length-reverse (take i ps) ∙ length-take-le i ps le

pub entries_length : (es : List TopEntry) (i : ℕ) → i ≤ length es → length (reverse (take i es)) ≡ i
entries_length es i le = length-reverse (take i es) ∙ length-take-le i es le
