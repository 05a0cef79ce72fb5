-- What the events of adders leave of their invariant, whatever is being purged beside them.
use Rattle.std.proofs.Common.{◌≡◌, ℕ, ◌<◌, true, false, List, [], ◌∷◌, ◌++◌, map, length, Some, None, ◌⊎◌, inl, inr, refl, sym, ◌∙◌, ap, subst, IsSome, slice_get, slice_set}
use Rattle.zi_shelf.specs.Names.{Name, IsIn}
use Rattle.zi_shelf.specs.Shelved.{Top, Pending, Renamed, Shelved, Call, MakeTop, Settle, Rename, SettleTop, RemoveTop}
use Rattle.zi_shelf.specs.Crash.{CrashLeaves}
use Rattle.zi_session.specs.Machine.{Rules, Adder, World, Phase, Making, Filling, Settling, Renaming, Storing, Removing, Leaving, Ended, Stopped, Stored, Present, Crowded, Fault, Steps, next_phase, halted, stopped, Event, Begin, Step, Stop, Crash, CrashIn, is_crash, touched, within, next_call, Leads}
use Rattle.zi_session.specs.Law.{IsLawful, IsQuiet, IsSound, HasAdded}
use Rattle.zi_session.specs.Invariant.{owned}
use Rattle.zi_session.specs.Beside.{lasting, IsFresh, PendingFits, PhaseFits, AdderFits, AddersFit}
use Rattle.zi_session.proofs.MapsLemmas.{get_after_set, get_after_push, get_after_map}
use Rattle.zi_session.proofs.MovingLemmas.{Moved, moved_on}
use Rattle.zi_session.proofs.PendingLemmas.{emptied}
use Rattle.zi_session.proofs.CallsLemmas.{step_moved, fill_is}
use Rattle.zi_session.proofs.CrashLemmas.{Survives, survives, survives_within}
use Rattle.zi_text.proofs.ListLaws.{some_is, some_of}

module _ {T W : Type 0} (r : Rules T W) (lawful : IsLawful r) where
  -- a step of an adder
  pub moved_by : (P : Name → Type 0) (old : World T) (i : ℕ) (new : World T) → AddersFit r P old.shelf old.adders → (st : Steps r old i new)
      → Moved r P old.shelf st.adder.name st.adder.tree st.adder.phase new.shelf (next_phase r.tries (length (r.works st.adder.name st.adder.tree)) st.adder.phase st.reply)
  moved_by P old i new inv st = step_moved r lawful P old.shelf new.shelf old.adders st.adder.name st.adder.tree st.adder.phase st.reply st.call inv (inv.each i st.adder st.is) st.makes st.answers

  pub step_fits : (P : Name → Type 0) (old : World T) (i : ℕ) (new : World T) → AddersFit r P old.shelf old.adders → Steps r old i new → AddersFit r P new.shelf new.adders
  step_fits P old i new inv st =
      subst (λ y. AddersFit r P new.shelf y) (sym st.adders)
      (moved_on r P old.shelf new.shelf old.adders i st.adder (next_phase r.tries (length (r.works st.adder.name st.adder.tree)) st.adder.phase st.reply) inv st.is (moved_by P old i new inv st))

  abbrev pub first : Name → T → Adder T
  first name tree = record { name = name; tree = tree; phase = Making 0 }

  pub begin_fits : (P : Name → Type 0) (s : Shelved T) (xs : List (Adder T)) (name : Name) (tree : T) → r.is_digest name → r.begins tree name → AddersFit r P s xs → AddersFit r P s (xs ++ first name tree ∷ [])
  begin_fits P s xs name tree digest named inv =
      let new : Adder T = first name tree in
      record {
        sound = inv.sound;
        pending = inv.pending;
        each = λ i a h. elim (get_after_push xs i new a h) [
          | inl e ↦ subst (λ x. AdderFits r (lasting P) s x) (sym e) (record { digest = digest; named = named; phase = lawful.some; fresh = λ n o. absurd (cc o) })
          | inr k ↦ inv.each i a k
        ];
        apart = λ i j a b n ha hb oa ob. elim (get_after_push xs i new a ha) [
          | inl e ↦ (let o : owned new.phase ≡ Some n = ap (λ (x : Adder T). owned x.phase) (sym e) ∙ oa in absurd (cc o))
          | inr k ↦ elim (get_after_push xs j new b hb) [
            | inl e ↦ (let o : owned new.phase ≡ Some n = ap (λ (x : Adder T). owned x.phase) (sym e) ∙ ob in absurd (cc o))
            | inr l ↦ inv.apart i j a b n k l oa ob
          ]
        ];
      }

  halted_owns : (p : Phase) → owned (halted p) ≡ None
  halted_owns (Making n) = refl
  halted_owns (Filling n k) = refl
  halted_owns (Settling n) = refl
  halted_owns (Renaming n) = refl
  halted_owns Storing = refl
  halted_owns (Removing n) = refl
  halted_owns Leaving = refl
  halted_owns (Ended a) = refl
  halted_owns Stopped = refl

  halted_fits : (L : Name → Type 0) (s : Shelved T) (name : Name) (tree : T) (p : Phase) → PhaseFits r L s name tree p → PhaseFits r L s name tree (halted p)
  halted_fits L s name tree (Making n) h = tt
  halted_fits L s name tree (Filling n k) h = tt
  halted_fits L s name tree (Settling n) h = tt
  halted_fits L s name tree (Renaming n) h = tt
  halted_fits L s name tree Storing h = tt
  halted_fits L s name tree (Removing n) h = tt
  halted_fits L s name tree Leaving h = tt
  halted_fits L s name tree (Ended a) h = h
  halted_fits L s name tree Stopped h = tt

  pub no_owner : (a : Adder T) (n : ℕ) → owned (stopped a).phase ≡ Some n → ⊥
  no_owner a n o = cc (o, halted_owns a.phase)

  pub owner_of : (x y : Adder T) (n : ℕ) → x ≡ y → owned x.phase ≡ Some n → owned y.phase ≡ Some n
  owner_of x y n e o = subst (λ (z : Adder T). owned z.phase ≡ Some n) e o

  pub stop_fits : (P : Name → Type 0) (s : Shelved T) (xs : List (Adder T)) (i : ℕ) (a : Adder T) → slice_get xs i ≡ Some a → AddersFit r P s xs → AddersFit r P s (slice_set xs i (stopped a))
  stop_fits P s xs i a is inv = record {
    sound = inv.sound;
    pending = inv.pending;
    each = λ j b h. elim (get_after_set xs i j (stopped a) b h) [
      | inl p ↦
          let was = inv.each i a is in
          subst (λ x. AdderFits r (lasting P) s x) (sym p.1) (record { digest = was.digest; named = was.named; phase = halted_fits (lasting P) s a.name a.tree a.phase was.phase; fresh = λ n o. absurd (no_owner a n o) })
      | inr p ↦ inv.each j b p.1
    ];
    apart = λ j k b c n hb hc ob oc. elim (get_after_set xs i j (stopped a) b hb) [
      | inl p ↦ absurd (no_owner a n (owner_of b (stopped a) n p.1 ob))
      | inr p ↦ elim (get_after_set xs i k (stopped a) c hc) [
        | inl q ↦ absurd (no_owner a n (owner_of c (stopped a) n q.1 oc))
        | inr q ↦ inv.apart j k b c n p.1 q.1 ob oc
      ]
    ];
  }

  -- a crash

  pub none_pending : (s : Shelved T) (p : Pending T) → s.pending ≡ [] → IsIn p s.pending → ⊥
  none_pending s p none i = subst (λ l. IsIn p l) none i

  ended_there : (P : Name → Type 0) (s new : Shelved T) (name : Name) → r.is_digest name → Survives r lawful P s new → new.pending ≡ [] → (lasting P name → IsSome (s.tops name) × IsQuiet s name)
      → lasting P name → IsSome (new.tops name) × IsQuiet new name
  ended_there P s new name is k none h last =
      let was = h last in
      let found = some_of (s.tops name) was.0 in
      (some_is (new.tops name) found.0 (k.stays name found.0 is last found.1 was.1), λ a i. none_pending new (Renamed a name) none i)

  -- what an answered adder was promised outlives a crash
  ended_fits : (P : Name → Type 0) (s new : Shelved T) (name : Name) (tree : T) (p : Phase) → r.is_digest name → Survives r lawful P s new → new.pending ≡ [] → PhaseFits r (lasting P) s name tree p
      → PhaseFits r (lasting P) new name tree (halted p)
  ended_fits P s new name tree (Making n) is k none h = tt
  ended_fits P s new name tree (Filling n j) is k none h = tt
  ended_fits P s new name tree (Settling n) is k none h = tt
  ended_fits P s new name tree (Renaming n) is k none h = tt
  ended_fits P s new name tree Storing is k none h = tt
  ended_fits P s new name tree (Removing n) is k none h = tt
  ended_fits P s new name tree Leaving is k none h = tt
  ended_fits P s new name tree (Ended Stored) is k none h = ended_there P s new name is k none h
  ended_fits P s new name tree (Ended Present) is k none h = ended_there P s new name is k none h
  ended_fits P s new name tree (Ended Crowded) is k none h = tt
  ended_fits P s new name tree (Ended Fault) is k none h = tt
  ended_fits P s new name tree Stopped is k none h = tt

  pub crash_fits : (P : Name → Type 0) (s new : Shelved T) (xs : List (Adder T)) → AddersFit r P s xs → Survives r lawful P s new → new.pending ≡ [] → AddersFit r P new (map stopped xs)
  crash_fits P s new xs inv k none = record {
    sound = k.sound;
    pending = subst (λ ps. PendingFits r P (record { tops = new.tops; pending = ps })) (sym none) (emptied r lawful P new.tops);
    each = λ i a h.
        let m = get_after_map stopped xs i a h in
        let was = inv.each i m.0 m.1 in
        subst (λ x. AdderFits r (lasting P) new x) (sym m.2) (record {
          digest = was.digest;
          named = was.named;
          phase = ended_fits P s new m.0.name m.0.tree m.0.phase was.digest k none was.phase;
          fresh = λ n o. absurd (no_owner m.0 n o);
        });
    apart = λ i j a b n ha hb oa ob. let m = get_after_map stopped xs i a ha in absurd (no_owner m.0 n (owner_of a (stopped m.0) n m.2 oa));
  }

  -- what a call of an adder touches had no digest name
  pub touched_fresh : (s : Shelved T) (works : List W) (name : Name) (p : Phase) (call : Call W) → next_call r.tmp works name p ≡ Some call → ((n : ℕ) → owned p ≡ Some n → IsFresh r s (r.tmp n))
      → (touched call ≡ None) ⊎ ((n : ℕ) × (touched call ≡ Some (r.tmp n)) × IsFresh r s (r.tmp n))
  touched_fresh s works name (Making n) call h f = let e : call ≡ MakeTop (r.tmp n) = cc h in inl (ap touched e)
  touched_fresh s works name (Filling n k) call h f = let g = fill_is (r.tmp n) (slice_get works k) call h in inr (n, sym (ap touched g.2), f n refl)
  touched_fresh s works name (Settling n) call h f = let e : call ≡ Settle (r.tmp n) = cc h in inr (n, ap touched e, f n refl)
  touched_fresh s works name (Renaming n) call h f = let e : call ≡ Rename (r.tmp n) name = cc h in inl (ap touched e)
  touched_fresh s works name Storing call h f = let e : call ≡ SettleTop = cc h in inl (ap touched e)
  touched_fresh s works name (Removing n) call h f = let e : call ≡ RemoveTop (r.tmp n) = cc h in inr (n, ap touched e, f n refl)
  touched_fresh s works name Leaving call h f = let e : call ≡ SettleTop = cc h in inl (ap touched e)
  touched_fresh s works name (Ended a) call h f = absurd (cc h)
  touched_fresh s works name Stopped call h f = absurd (cc h)

  pub survives_in : (P : Name → Type 0) (s new : Shelved T) (call : Call W) → IsSound r s → PendingFits r P s → (touched call ≡ None) ⊎ ((n : ℕ) × (touched call ≡ Some (r.tmp n)) × IsFresh r s (r.tmp n))
      → CrashLeaves (within s (touched call)) new.tops → Survives r lawful P s new
  survives_in P s new call sound fits (inl e) c = survives r lawful P s new sound fits (subst (λ t. CrashLeaves (within s t) new.tops) e c)
  survives_in P s new call sound fits (inr m) c = survives_within r lawful P s new m.0 m.2 sound fits (subst (λ t. CrashLeaves (within s t) new.tops) m.1 c)

  -- who answered Stored or Present for a name that lasts has it there
  pub added_there : (P : Name → Type 0) (w : World T) (i : ℕ) (name : Name) → AddersFit r P w.shelf w.adders → lasting P name → HasAdded w i name → IsSome (w.shelf.tops name) × IsQuiet w.shelf name
  added_there P w i name inv last (a, is, named, ended) =
      let fits = inv.each i a is in
      let at : lasting P a.name → IsSome (w.shelf.tops a.name) × IsQuiet w.shelf a.name = elim ended [
        | inl e ↦ subst (λ p. PhaseFits r (lasting P) w.shelf a.name a.tree p) e fits.phase
        | inr e ↦ subst (λ p. PhaseFits r (lasting P) w.shelf a.name a.tree p) e fits.phase
      ] in
      subst (λ n. IsSome (w.shelf.tops n) × IsQuiet w.shelf n) named (at (subst (λ n. lasting P n) (sym named) last))

  pub adding_there : (P : Name → Type 0) (old new : World T) (e : Event T) → is_crash e ≡ false → AddersFit r P old.shelf old.adders → Leads r old e new → (d : Name) (x : Top T) → r.is_digest d → old.shelf.tops d ≡ Some x → new.shelf.tops d ≡ Some x
  adding_there P old new (Begin name tree) calm inv l d x is h = ap (λ (s : Shelved T). s.tops d) l.2 ∙ h
  adding_there P old new (Step i) calm inv st d x is h = (moved_by P old i new inv st).all d x is h
  adding_there P old new (Stop i) calm inv (a, got, same, after) d x is h = ap (λ (s : Shelved T). s.tops d) same ∙ h
  adding_there P old new Crash calm inv l d x is h = absurd (cc calm)
  adding_there P old new (CrashIn i) calm inv l d x is h = absurd (cc calm)
