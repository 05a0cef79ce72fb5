-- What a pick leaves is an outcome of the crash model.
use Rattle.std.proofs.Common.{◌≡◌, Bool, true, false, List, [], ◌∷◌, Option, Some, None, inl, inr, refl, sym, ◌∙◌, ap, subst, IsSome, Result, Ok, Err, OnOk}
use Rattle.zi_shelf.specs.Names.{Name, IsIn}
use Rattle.zi_shelf.specs.Shelved.{Top, Shelved}
use Rattle.zi_shelf.specs.Crash.{names_before, Source, Whence, Standing, source, standing, LeftAs, CrashLeaves}
use Rattle.zi_memory.specs.Picked.{last_of, GoesTo, Comes, IsPicked}
use Rattle.zi_memory.specs.Comers.{pending_of}
use Rattle.zi_memory.specs.Memory.{told_of, root_of}
use Rattle.zi_shelf.specs.Told.{Told}
use Rattle.zi_shelf.specs.Shelving.{Stays}
use Rattle.zi_memory.specs.Crashing.{Crashes}
use Rattle.zi_memory.specs.InMemory.{shelf_seen}
use Rattle.zi_memory.specs.declared.crash.Pick.{Pick}
use Rattle.zi_memory.specs.declared.held.Held.{Held}
use Rattle.zi_memory.specs.declared.memory_shelf.MemoryShelf.{MemoryShelf}
use Rattle.zi_memory.proofs.FirstLemmas.{name_back, goes_back}
use Rattle.zi_memory.proofs.PickedLemmas.{goes_once}

last_in : (n : Name) (ns : List Name) → IsIn (last_of n ns) (n ∷ ns)
last_in n [] = inl refl
last_in n (m ∷ ns) = inr (last_in m ns)

-- the name is one of the entry's
goes_in : (renames : Bool) (names : List Name) (n : Name) → GoesTo renames names n → IsIn n names
goes_in renames [] n h = absurd h
goes_in true (m ∷ ms) n h = subst (λ k. IsIn k (m ∷ ms)) (sym h) (last_in m ms)
goes_in false (m ∷ ms) n h = inl h

module _ {T : Type 0} (p : Pick) (s : Shelved T) (after : Name → Option (Top T)) (is : IsPicked p s after) where
  whence_at : (n : Name) (o : Option (Top T)) → after n ≡ o → Whence
  whence_at n None h = Standing n
  whence_at n (Some e) h = (is.stands n e h).0

  whence_of : Name → Whence
  whence_of n = whence_at n (after n) refl

  come_at : (n : Name) (o : Option (Top T)) (h : after n ≡ o) (e : Top T) → o ≡ Some e → Comes p s (whence_at n o h) n e
  unfolding whence_at
  come_at n None h e same = absurd (cc same)
  come_at n (Some x) h e same = let one : x ≡ e = cc same in subst (Comes p s (is.stands n x h).0 n) one (is.stands n x h).1

  comes_of : (n : Name) (e : Top T) → after n ≡ Some e → Comes p s (whence_of n) n e
  unfolding whence_of
  comes_of n e h = come_at n (after n) refl e h

  left_as : (w : Whence) (n : Name) (e : Top T) → Comes p s w n e → LeftAs s w n e
  left_as w n e comes = record {
    was = comes.was;
    is = comes.is;
    may_stand = goes_in p.renames comes.was.names n comes.goes;
    whole = λ h. sym comes.top;
    unsettled = λ h. ap (λ (t : Top T). t.settled) (sym comes.top) ∙ h;
  }

  one_name : (v w : Whence) (m n : Name) (d e : Top T) → Comes p s v m d → Comes p s w n e → v ≡ w → m ≡ n
  one_name v w m n d e a b same =
      let found : Some a.was ≡ Some b.was = sym a.is ∙ ap (source s) same ∙ b.is in
      let one : a.was ≡ b.was = cc found in
      goes_once p.renames b.was.names m n (subst (λ (z : Source T). GoesTo p.renames z.names m) one a.goes) b.goes

  there : (o : Option (Top T)) → IsSome o → (e : Top T) × (o ≡ Some e)
  there None h = absurd (cc h)
  there (Some e) h = (e, refl)

  left_there : (n m : Name) (e : Top T) → Comes p s (Standing n) m e → IsSome (after m)
  left_there n m e comes = elim (after m) as (λ o. after m ≡ o → IsSome o) [ None ↦ λ h. absurd (is.nothing m h (Standing n) e comes) | Some x ↦ λ h. refl ] refl

  pub is_outcome : CrashLeaves s after
  is_outcome = record {
    whence = whence_of;
    comes = λ n e h. left_as (whence_of n) n e (comes_of n e h);
    once = λ m n hm hn same.
        let d = there (after m) hm in
        let e = there (after n) hn in
        one_name (whence_of m) (whence_of n) m n d.0 e.0 (comes_of m d.0 d.1) (comes_of n e.0 e.1) same;
    kept = λ n e at settled.
        let names = names_before n s.pending in
        let m = name_back p.renames n names in (
          m,
          goes_in p.renames (n ∷ names) m (goes_back p.renames n names),
          left_there n m e (record {
            was = record { top = e; names = n ∷ names };
            is = ap (λ o. standing n o s.pending) at;
            top = refl;
            goes = goes_back p.renames n names;
            back = λ h. tt;
            stays = λ h. settled;
          }),
        );
  }

-- what a crash leaves of a shelf in memory
abbrev pub shelf_of : Held → MemoryShelf
shelf_of h = record { held = h }

pub stays_as : (old new : Held) → new.root ≡ old.root → new.fail ≡ old.fail → Stays (shelf_seen (shelf_of old)) (shelf_seen (shelf_of new))
stays_as old new root fail = record {
  honest = λ h. h;
  sure = λ h. h;
  in_memory = λ h. h;
  root = ap root_of root;
  plan = ap (λ f. f.items) fail;
}

pub crashes : (old new : Held) (p : Pick) → IsPicked p (told_of old.entries.items old.pending.items old.calls).shelf (told_of new.entries.items new.pending.items new.calls).shelf.tops
    → new.pending.items ≡ [] → new.calls ≡ old.calls → new.root ≡ old.root → new.fail ≡ old.fail → new.faults ≡ old.faults → Crashes (shelf_seen (shelf_of old)) (shelf_seen (shelf_of new))
crashes old new p picked settled calls root fail faults =
    let before : Told = told_of old.entries.items old.pending.items old.calls in
    let after : Told = told_of new.entries.items new.pending.items new.calls in
    record {
      leaves = λ s e.
          let same : before ≡ s = cc e in
          (after, refl, subst (λ (x : Told). CrashLeaves x.shelf after.shelf.tops) same (is_outcome p before.shelf after.shelf.tops picked), ap pending_of settled, calls ∙ ap (λ (x : Told). x.calls) same);
      stays = stays_as old new root fail;
      faults = faults;
    }

pub on_ok_two : {A E : Type 0} {P Q R : Type 0} (r : Result A E) → OnOk r P → OnOk r Q → (P → Q → R) → OnOk r R
on_ok_two (Ok x) p q f = f p q
on_ok_two (Err e) p q f = tt
