-- Over its temporary entry as it was left the next call of a session fits, and leaves the entry as the next one wants it.
use Rattle.std.proofs.Common.{◌≡◌, ◌≤◌, ◌<◌, ◌+◌, ℕ, suc, zero, Bool, true, false, List, [], ◌∷◌, length, Option, Some, None, IsSome, is_some, refl, sym, ◌∙◌, ap, subst, slice_get, option_and_then, nat_lt, if◌then◌else◌, add-one, arith}
use Rattle.std.proofs.lemmas.Bool.{lt-ltb}
use Rattle.std.proofs.lemmas.Option.{slice_get_within}
use Rattle.zi_tree.specs.Dir.{Dir}
use Rattle.zi_shelf.specs.Names.{Name, put}
use Rattle.zi_shelf.specs.Shelved.{Top, Pending, Shelved, Trees, Call, MakeTop, Fill, Settle, Rename, SettleTop, RemoveTop, Reply, Did, Exists, Failed, Memory, Answers, Fits}
use Rattle.zi_shelf.specs.Filling.{Work, trees}
use Rattle.zi_shelf.specs.Told.{Told}
use Rattle.zi_session.specs.Made.{made}
use Rattle.zi_session.specs.Machine.{Phase, Making, Filling, Settling, Renaming, Storing, Removing, Leaving, Ended, Stopped, Crowded, filling, next_call, next_phase}
use Rattle.zi_session.specs.Phases.{tmp_name}
use Rattle.zi_session.specs.Standing.{Standing}
use Rattle.zi_session.specs.Stepping.{Holds, IsAsLeft, Calls, Lead}
use Rattle.zi_session.specs.declared.step.Step.{Step}
use Rattle.zi_session.specs.declared.step.Step.TheVariants.{More}
use Rattle.zi_session.proofs.MapsLemmas.{put-same}
use Rattle.zi_session.proofs.CallsLemmas.{fill_is, made_none, made_more, not_lt}
use Rattle.zi_text.proofs.ListLaws.{some_is}

next_fits : {T W : Type 0} (t : Trees T W) (ws : List W) (k : ℕ) (w : W) (x y : T) → is_some (made t ws (length ws) x) ≡ true → slice_get ws k ≡ Some w → made t ws k x ≡ Some y → IsSome (t.filled w y)
next_fits t [] k w x y all at m = absurd (cc at)
next_fits t (v ∷ ws) zero w x y all at m =
    let e : v ≡ w = cc at in
    let e' : x ≡ y = cc m in
    rw (← e, ← e') (elim (t.filled v x) as (λ o. is_some (option_and_then (made t ws (length ws)) o) ≡ true → IsSome o) [ None ↦ λ h. absurd (cc h) | Some z ↦ λ h. refl ] all)
next_fits {T} t (v ∷ ws) (suc k) w x y all at m =
    elim (t.filled v x) as (λ o. is_some (option_and_then (made t ws (length ws)) o) ≡ true → option_and_then (made t ws k) o ≡ Some y → IsSome (t.filled w y)) [
      | None ↦ λ h e. absurd (cc e)
      | Some u ↦ λ h e. next_fits t ws k w u y h at e
    ] all m

-- a call that is known
fits_known : (s : Shelved Dir) (call other : Call Work) → other ≡ call → Fits trees s other → Fits trees s call
fits_known s call other e f = subst (λ c. Fits trees s c) e f

there_at : (works : List Work) (s : Shelved Dir) (n k : ℕ) (mark : Bool) → Holds works s n k mark → IsSome (s.tops (tmp_name n))
there_at works s n k mark (part, is, there) = some_is (s.tops (tmp_name n)) (record { tree = part; settled = mark }) there

-- the next call fits
pub next_call_fits : (works : List Work) (name : Name) (p : Phase) (s : Shelved Dir) (call : Call Work) → is_some (made trees works (length works) trees.empty) ≡ true
    → next_call tmp_name works name p ≡ Some call → IsAsLeft works p s → Fits trees s call
next_call_fits works name (Making n) s call all m own = let e : MakeTop (tmp_name n) ≡ call = cc m in fits_known s call (MakeTop (tmp_name n)) e tt
next_call_fits works name (Filling n k) s call all m (part, is, there) =
    let f = fill_is (tmp_name n) (slice_get works k) call m in
    let e : Top Dir = record { tree = part; settled = false } in
    fits_known s call (Fill (tmp_name n) f.0) f.2 (e, there, next_fits trees works k f.0 trees.empty part all f.1 is)
next_call_fits works name (Settling n) s call all m own =
    let e : Settle (tmp_name n) ≡ call = cc m in fits_known s call (Settle (tmp_name n)) e (there_at works s n (length works) false own)
next_call_fits works name (Renaming n) s call all m own =
    let e : Rename (tmp_name n) name ≡ call = cc m in fits_known s call (Rename (tmp_name n) name) e (there_at works s n (length works) true own)
next_call_fits works name Storing s call all m own = let e : SettleTop ≡ call = cc m in fits_known s call SettleTop e tt
next_call_fits works name (Removing n) s call all m own =
    let e : RemoveTop (tmp_name n) ≡ call = cc m in fits_known s call (RemoveTop (tmp_name n)) e (there_at works s n (length works) true own)
next_call_fits works name Leaving s call all m own = let e : SettleTop ≡ call = cc m in fits_known s call SettleTop e tt
next_call_fits works name (Ended a) s call all m own = absurd (cc m)
next_call_fits works name Stopped s call all m own = absurd (cc m)

answers_known : (s t : Shelved Dir) (call other : Call Work) (reply : Reply) → call ≡ other → Answers trees s call reply t → Answers trees s other reply t
answers_known s t call other reply e a = subst (λ c. Answers trees s c reply t) e a

-- what a change leaves under its name
changed : (t : Shelved Dir) (tops : Name → Option (Top Dir)) (n : Name) (v : Option (Top Dir)) (pending : List (Pending Dir)) → t ≡ record { tops = put tops n v; pending = pending } → t.tops n ≡ v
changed t tops n v pending is = ap (λ (s : Shelved Dir). s.tops n) is ∙ put-same tops n v

-- with so many of the calls done
in_filling : (works : List Work) (n k : ℕ) (t : Shelved Dir) → Holds works t n k false → k ≤ length works → IsAsLeft works (filling n (length works) k) t
in_filling works n k t own le =
    elim (nat_lt k (length works)) as (λ b. (k < length works → b ≡ true) → IsAsLeft works (if b then Filling n k else Settling n) t) [
      | true ↦ λ h. own
      | false ↦ λ h.
          let ge : length works ≤ k = not_lt k (length works) (λ lt. cc (h lt)) in
          let e : k ≡ length works = omega arith in
          subst (λ j. Holds works t n j false) e own
    ] (λ lt. lt-ltb k (length works) lt)

in_tries : (works : List Work) (n : ℕ) (b : Bool) (t : Shelved Dir) → IsAsLeft works (if b then Making (n + 1) else Ended Crowded) t
in_tries works n true t = tt
in_tries works n false t = tt

-- so is the entry afterwards
left_next : (works : List Work) (name : Name) (p : Phase) (reply : Reply) (s t : Shelved Dir) (call : Call Work) → next_call tmp_name works name p ≡ Some call
    → Answers trees s call reply t → IsAsLeft works p s → IsAsLeft works (next_phase 10000 (length works) p reply) t
left_next works name p Memory s t call m is own = subst (λ (x : Shelved Dir). IsAsLeft works p x) (sym is) own
left_next works name p Failed s t call m a own = tt
left_next works name (Making n) Did s t call m a own =
    let e : call ≡ MakeTop (tmp_name n) = cc m in
    let made_new = answers_known s t call (MakeTop (tmp_name n)) Did e a in
    let there = changed t s.tops (tmp_name n) (Some (record { tree = trees.empty; settled = false })) s.pending made_new.1 in
    in_filling works n 0 t (trees.empty, made_none trees works trees.empty, there) (omega arith)
left_next works name (Making n) Exists s t call m a own = in_tries works n (nat_lt (n + 1) 10000) t
left_next works name (Filling n k) Did s t call m a (part, is, there) =
    let f = fill_is (tmp_name n) (slice_get works k) call m in
    let did = answers_known s t call (Fill (tmp_name n) f.0) Did (sym f.2) a in
    let e : Top Dir = did.0 in
    let after : Dir = did.1 in
    let at : s.tops (tmp_name n) ≡ Some e = did.2 in
    let same : e.tree ≡ part = cc (at, there) in
    let does : trees.filled f.0 part ≡ Some after = subst (λ d. trees.filled f.0 d ≡ Some after) same did.3 in
    let now = changed t s.tops (tmp_name n) (Some (record { tree = after; settled = false })) s.pending did.4 in
    let more : made trees works (suc k) trees.empty ≡ Some after = made_more trees works k f.0 trees.empty part after f.1 is does in
    let inside : k < length works = slice_get_within works k f.0 f.1 in
    in_filling works n (k + 1) t (after, rw add-one more, now) (omega arith)
left_next works name (Filling n k) Exists s t call m a own =
    let f = fill_is (tmp_name n) (slice_get works k) call m in absurd (answers_known s t call (Fill (tmp_name n) f.0) Exists (sym f.2) a)
left_next works name (Settling n) Did s t call m a (part, is, there) =
    let e : call ≡ Settle (tmp_name n) = cc m in
    let did = answers_known s t call (Settle (tmp_name n)) Did e a in
    let top : Top Dir = did.0 in
    let at : s.tops (tmp_name n) ≡ Some top = did.1 in
    let same : part ≡ top.tree = cc (at, there) in
    (top.tree, rw (← same) is, changed t s.tops (tmp_name n) (Some (record { tree = top.tree; settled = true })) s.pending did.2)
left_next works name (Settling n) Exists s t call m a own = let e : call ≡ Settle (tmp_name n) = cc m in absurd (answers_known s t call (Settle (tmp_name n)) Exists e a)
left_next works name (Renaming n) Did s t call m a own = tt
left_next works name (Renaming n) Exists s t call m a own =
    let e : call ≡ Rename (tmp_name n) name = cc m in
    let did = answers_known s t call (Rename (tmp_name n) name) Exists e a in
    subst (λ (x : Shelved Dir). IsAsLeft works (Removing n) x) (sym did.2) own
left_next works name Storing Did s t call m a own = tt
left_next works name Storing Exists s t call m a own = tt
left_next works name (Removing n) Did s t call m a own = tt
left_next works name (Removing n) Exists s t call m a own = let e : call ≡ RemoveTop (tmp_name n) = cc m in absurd (answers_known s t call (RemoveTop (tmp_name n)) Exists e a)
left_next works name Leaving Did s t call m a own = tt
left_next works name Leaving Exists s t call m a own = tt
left_next works name (Ended e) reply s t call m a own = absurd (cc m)
left_next works name Stopped reply s t call m a own = absurd (cc m)

pub left_on : (x y : Standing) (s t : Told) (step : Step) → Calls x s step y t → IsAsLeft x.works x.phase s.shelf → IsAsLeft y.works y.phase t.shelf
left_on x y s t step c own =
    subst (λ (z : Standing). IsAsLeft z.works z.phase t.shelf) (sym c.goes) (left_next x.works x.name x.phase c.reply s.shelf t.shelf c.call c.next c.does.answers own)

-- steps one after the other
pub left_along : (n : ℕ) (x y : Standing) (s t : Told) → Lead n x s y t → IsAsLeft x.works x.phase s.shelf → IsAsLeft y.works y.phase t.shelf
left_along zero x y s t (e, f) own = subst (λ (z : Standing). IsAsLeft z.works z.phase t.shelf) (sym e) (subst (λ (u : Told). IsAsLeft x.works x.phase u.shelf) (sym f) own)
left_along (suc n) x y s t (m, u, l, c) own = left_on m y u t More c (left_along n x m s u l own)
