-- Every event keeps the invariant, and the law follows.
use Rattle.std.proofs.Common.{◌≡◌, ℕ, ◌<◌, Bool, true, false, not, List, [], ◌∷◌, ◌++◌, filter, map, length, Option, Some, None, option_map, ◌⊎◌, inl, inr, refl, sym, ◌∙◌, ap, subst, slice_get, slice_set, if◌then◌else◌, nat_lt}
use Rattle.zi_shelf.specs.Names.{Name, IsIn}
use Rattle.zi_shelf.specs.Shelved.{Top, Renamed, Shelved, Call, Rename, SettleTop, RemoveTop}
use Rattle.zi_store.specs.Rising.{is_among}
use Rattle.zi_session.specs.Machine.{Rules, Adder, World, touched}
use Rattle.zi_session.specs.Machine as adding
use Rattle.zi_session.specs.Law.{IsLawful}
use Rattle.zi_session.specs.Invariant.{owned}
use Rattle.zi_session.specs.Beside.{lasting, IsFresh, IsSealed, PendingFits, PhaseFits, AddersFit}
use Rattle.zi_session.proofs.MapsLemmas.{get_after_set, get_after_push}
use Rattle.zi_session.proofs.PendingLemmas.{sealed_fresh, emptied}
use Rattle.zi_session.proofs.CrashLemmas.{Survives, survives}
use Rattle.zi_session.proofs.AddersLemmas.{moved_by, step_fits, first, begin_fits, no_owner, owner_of, stop_fits, none_pending, crash_fits, touched_fresh, survives_in, added_there, adding_there}
use Rattle.zi_purge.specs.Machine.{Purger, Phase, Moving, Sealing, Clearing, Closing, Ended, Stopped, Done, Crowded, Fault, names, purged, begun, next_call, next_phase, rename_call, halted, stopped, AreApart, AreThere, Shared, Event, Adding, Purging, Purge, Halt, Crash, CrashIn, CrashInPurge, Purges, Crashes, Leads, Runs, is_crash}
use Rattle.zi_purge.specs.Law.{IsPurged, Lasts, IsStart, KeepsOver, IsLaw}
use Rattle.zi_purge.specs.Invariant.{IsUnowned, PurgePhaseFits, PurgerFits, PurgingFits, Inv, IsKept}
use Rattle.zi_purge.proofs.PurgingLemmas.{Took, took, beside, purger_stays, is_member}

-- the names to be purged are among those that were there
pub in_filter : (test : Name → Bool) (x : Name) (xs : List Name) → IsIn x (filter test xs) → IsIn x xs
in_filter test x [] i = i
in_filter test x (y ∷ ys) i =
    elim (test y) as (λ b. IsIn x (if b then y ∷ filter test ys else filter test ys) → IsIn x (y ∷ ys)) [
      | true ↦ λ j. elim j [ inl e ↦ inl e | inr k ↦ inr (in_filter test x ys k) ]
      | false ↦ λ j. inr (in_filter test x ys j)
    ] i

pub apart_filter : (test : Name → Bool) (xs : List Name) → AreApart xs → AreApart (filter test xs)
apart_filter test [] a = tt
apart_filter test (y ∷ ys) a =
    elim (test y) as (λ b. AreApart (if b then y ∷ filter test ys else filter test ys)) [
      | true ↦ (λ i. a.0 (in_filter test y ys i), apart_filter test ys a.1)
      | false ↦ apart_filter test ys a.1
    ]

module _ {T W : Type 0} (r : Rules T W) (lawful : IsLawful r) where
  inv_at : (s : Shared T) (o : Option Purger) → s.purger ≡ o → AddersFit r (IsPurged o) s.world.shelf s.world.adders → PurgingFits r s.world.shelf s.world.adders o → Inv r s
  inv_at s o e a p = record {
    adders = subst (λ x. AddersFit r (IsPurged x) s.world.shelf s.world.adders) (sym e) a;
    purger = subst (λ x. PurgingFits r s.world.shelf s.world.adders x) (sym e) p;
  }

  step_purging : (o : Option Purger) (old : World T) (i : ℕ) (new : World T) → AddersFit r (IsPurged o) old.shelf old.adders → PurgingFits r old.shelf old.adders o → adding.Steps r old i new → PurgingFits r new.shelf new.adders o
  step_purging None old i new inv sealed st = (moved_by r lawful (IsPurged None) old i new inv st).sealed sealed
  step_purging (Some p) old i new inv fits st =
      subst (λ y. PurgerFits r new.shelf y p) (sym st.adders) (record {
        digest = fits.digest;
        apart = fits.apart;
        phase = purger_stays r lawful (names p) fits.digest fits.apart (IsPurged (Some p)) old.shelf new.shelf old.adders i st.adder
            (adding.next_phase r.tries (length (r.works st.adder.name st.adder.tree)) st.adder.phase st.reply) st.is (moved_by r lawful (IsPurged (Some p)) old i new inv st) p.phase fits.phase;
      })

  -- other adders that own no more
  owns_less : (s : Shelved T) (xs ys : List (Adder T)) (all : List Name) (p : Phase) → ((n : ℕ) → IsUnowned xs n → IsUnowned ys n) → PurgePhaseFits r s xs all p → PurgePhaseFits r s ys all p
  owns_less s xs ys all (Moving k n) less h = h
  owns_less s xs ys all (Sealing k n) less ((d, g, h), left) = ((d, g, record { few = h.few; top = h.top; there = h.there; settled = h.settled; named = h.named; unowned = less n h.unowned }), left)
  owns_less s xs ys all (Clearing k n) less ((d, g, h), sealed, left) = ((d, g, record { few = h.few; top = h.top; there = h.there; settled = h.settled; named = h.named; unowned = less n h.unowned }), sealed, left)
  owns_less s xs ys all Closing less h = h
  owns_less s xs ys all (Ended Done) less h = h
  owns_less s xs ys all (Ended Crowded) less h = h
  owns_less s xs ys all (Ended Fault) less h = h
  owns_less s xs ys all Stopped less h = h

  purging_less : (s : Shelved T) (xs ys : List (Adder T)) (o : Option Purger) → ((n : ℕ) → IsUnowned xs n → IsUnowned ys n) → PurgingFits r s xs o → PurgingFits r s ys o
  purging_less s xs ys None less h = h
  purging_less s xs ys (Some p) less h = record { digest = h.digest; apart = h.apart; phase = owns_less s xs ys (names p) p.phase less h.phase }

  begin_less : (xs : List (Adder T)) (name : Name) (tree : T) (n : ℕ) → IsUnowned xs n → IsUnowned (xs ++ first r lawful name tree ∷ []) n
  begin_less xs name tree n u i a h o = elim (get_after_push xs i (first r lawful name tree) a h) [
    | inl e ↦ (let f : owned (first r lawful name tree).phase ≡ Some n = ap (λ (x : Adder T). owned x.phase) (sym e) ∙ o in cc f)
    | inr k ↦ u i a k o
  ]

  stop_less : (xs : List (Adder T)) (i : ℕ) (a : Adder T) (n : ℕ) → IsUnowned xs n → IsUnowned (slice_set xs i (adding.stopped a)) n
  stop_less xs i a n u j b h o = elim (get_after_set xs i j (adding.stopped a) b h) [
    | inl p ↦ no_owner r lawful a n (owner_of r lawful b (adding.stopped a) n p.1 o)
    | inr p ↦ u j b p.1 o
  ]

  -- the beginning, a step or the stop of an adder
  adding_keeps : (o : Option Purger) (old new : World T) (e : adding.Event T) → adding.is_crash e ≡ false → AddersFit r (IsPurged o) old.shelf old.adders → PurgingFits r old.shelf old.adders o → adding.Leads r old e new
      → AddersFit r (IsPurged o) new.shelf new.adders × PurgingFits r new.shelf new.adders o
  adding_keeps o old new (adding.Begin name tree) calm inv fits (digest, named, same, added) =
      subst (λ s. AddersFit r (IsPurged o) s new.adders × PurgingFits r s new.adders o) (sym same)
      (subst (λ y. AddersFit r (IsPurged o) old.shelf y × PurgingFits r old.shelf y o) (sym added)
      (begin_fits r lawful (IsPurged o) old.shelf old.adders name tree digest named inv, purging_less old.shelf old.adders (old.adders ++ first r lawful name tree ∷ []) o (λ n u. begin_less old.adders name tree n u) fits))
  adding_keeps o old new (adding.Step i) calm inv fits st = (step_fits r lawful (IsPurged o) old i new inv st, step_purging o old i new inv fits st)
  adding_keeps o old new (adding.Stop i) calm inv fits (a, is, same, after) =
      subst (λ s. AddersFit r (IsPurged o) s new.adders × PurgingFits r s new.adders o) (sym same)
      (subst (λ y. AddersFit r (IsPurged o) old.shelf y × PurgingFits r old.shelf y o) (sym after)
      (stop_fits r lawful (IsPurged o) old.shelf old.adders i a is inv, purging_less old.shelf old.adders (slice_set old.adders i (adding.stopped a)) o (λ n u. stop_less old.adders i a n u) fits))
  adding_keeps o old new adding.Crash calm inv fits l = absurd (cc calm)
  adding_keeps o old new (adding.CrashIn i) calm inv fits l = absurd (cc calm)

  -- the purger begins: more names are being purged
  purge_more : (P Q : Name → Type 0) (s : Shelved T) (xs : List (Adder T)) → ((n : Name) → P n → Q n) → AddersFit r P s xs → AddersFit r Q s xs
  purge_more P Q s xs more inv = record {
    sound = inv.sound;
    pending = record {
      had = λ n d is i. let c = inv.pending.had n d is i in record { purged = more d c.purged; top = c.top; there = c.there; settled = c.settled; named = c.named };
      gone = inv.pending.gone;
    };
    each = λ i a h. let was = inv.each i a h in record { digest = was.digest; named = was.named; phase = fewer a.name a.tree a.phase was.phase; fresh = was.fresh };
    apart = inv.apart;
  }
    where
      fewer : (name : Name) (tree : T) (p : adding.Phase) → PhaseFits r (lasting P) s name tree p → PhaseFits r (lasting Q) s name tree p
      fewer name tree (adding.Making n) h = h
      fewer name tree (adding.Filling n k) h = h
      fewer name tree (adding.Settling n) h = h
      fewer name tree (adding.Renaming n) h = h
      fewer name tree adding.Storing h = λ last. h (λ p. last (more name p))
      fewer name tree (adding.Removing n) h = (λ last. h.0 (λ p. last (more name p)), h.1)
      fewer name tree adding.Leaving h = λ last. h (λ p. last (more name p))
      fewer name tree (adding.Ended adding.Stored) h = λ last. h (λ p. last (more name p))
      fewer name tree (adding.Ended adding.Present) h = λ last. h (λ p. last (more name p))
      fewer name tree (adding.Ended adding.Crowded) h = tt
      fewer name tree (adding.Ended adding.Fault) h = tt
      fewer name tree adding.Stopped h = tt

  begun_fits : (s : Shelved T) (xs : List (Adder T)) (kept there : List Name) → AreThere r s there → IsSealed r s → PurgerFits r s xs (begun kept there)
  begun_fits s xs kept there are sealed =
      let test = λ (n : Name). not (is_among kept n) in
      let all = purged kept there in
      record {
        digest = λ n i. are.digest n (in_filter test n there i);
        apart = apart_filter test there are.apart;
        phase = elim (nat_lt 0 (length all)) as (λ b. PurgePhaseFits r s xs all (if b then Moving 0 0 else Closing)) [
          | true ↦ (lawful.some, sealed, λ j d le h. are.stand d (in_filter test d there (is_member all j d h)))
          | false ↦ sealed
        ];
      }

  -- a name of no temporary entry that an adder owns
  some_place : (xs : List (Adder T)) → ((i : ℕ) (a : Adder T) → slice_get xs i ≡ Some a → r.is_digest a.name) → (d : Name) × ((n : ℕ) → n < r.tries → r.tmp n ≡ d → IsUnowned xs n)
  some_place [] h = ([], λ n few e i a at o. cc at)
  some_place (b ∷ bs) h = (b.name, λ n few e. absurd (lawful.tmp_free n (subst r.is_digest (sym e) (h 0 b refl))))

  took_by : (old new : Shared T) → Inv r old → (st : Purges r old new) → AddersFit r (IsPurged (Some st.purger)) old.world.shelf old.world.adders × PurgerFits r old.world.shelf old.world.adders st.purger
  took_by old new inv st =
      (subst (λ o. AddersFit r (IsPurged o) old.world.shelf old.world.adders) st.is inv.adders, subst (λ o. PurgingFits r old.world.shelf old.world.adders o) st.is inv.purger)

  pub purge_took : (old new : Shared T) → Inv r old → (st : Purges r old new)
      → Took r old.world.adders (names st.purger) old.world.shelf new.world.shelf (next_phase r.tries (length (names st.purger)) st.purger.phase st.reply)
  purge_took old new inv st =
      let f = took_by old new inv st in
      let place = some_place old.world.adders (λ i a h. (inv.adders.each i a h).digest) in
      took r lawful (names st.purger) f.1.digest f.1.apart old.world.shelf new.world.shelf old.world.adders st.purger.phase st.reply st.call place.0 place.1 f.0 f.1.phase st.makes st.answers

  purge_keeps : (old new : Shared T) → Inv r old → Purges r old new → Inv r new
  purge_keeps old new inv st =
      let f = took_by old new inv st in
      let m = purge_took old new inv st in
      let to = next_phase r.tries (length (names st.purger)) st.purger.phase st.reply in
      let p : Purger = record st.purger { phase = to } in
      let fits : AddersFit r (IsPurged (Some p)) new.world.shelf old.world.adders =
      beside r (IsPurged (Some p)) old.world.shelf new.world.shelf old.world.adders m.place f.0 m.frame m.sound m.pending m.free in
      let purging : PurgerFits r new.world.shelf old.world.adders p = record { digest = f.1.digest; apart = f.1.apart; phase = m.own } in
      inv_at new (Some p) st.goes (subst (λ y. AddersFit r (IsPurged (Some p)) new.world.shelf y) (sym st.adders) fits) (subst (λ y. PurgerFits r new.world.shelf y p) (sym st.adders) purging)

  phase_halts : (s : Shelved T) (xs : List (Adder T)) (all : List Name) (p : Phase) → PurgePhaseFits r s xs all p → PurgePhaseFits r s xs all (halted p)
  phase_halts s xs all (Moving k n) h = tt
  phase_halts s xs all (Sealing k n) h = tt
  phase_halts s xs all (Clearing k n) h = tt
  phase_halts s xs all Closing h = tt
  phase_halts s xs all (Ended a) h = h
  phase_halts s xs all Stopped h = tt

  -- a crash

  sealed_after : (s : Shelved T) → s.pending ≡ [] → IsSealed r s
  sealed_after s none a b i = absurd (none_pending r lawful s (Renamed a b) none i)

  crash_phase : (s : Shelved T) (xs : List (Adder T)) (all : List Name) (p : Phase) → s.pending ≡ [] → PurgePhaseFits r s xs all (halted p)
  crash_phase s xs all (Moving k n) none = tt
  crash_phase s xs all (Sealing k n) none = tt
  crash_phase s xs all (Clearing k n) none = tt
  crash_phase s xs all Closing none = tt
  crash_phase s xs all (Ended Done) none = sealed_after s none
  crash_phase s xs all (Ended Crowded) none = tt
  crash_phase s xs all (Ended Fault) none = tt
  crash_phase s xs all Stopped none = tt

  -- the same names are being purged
  crash_keeps : (o : Option Purger) (s : Shelved T) (xs : List (Adder T)) (new : Shared T) → AddersFit r (IsPurged o) s xs → PurgingFits r s xs o → Survives r lawful (IsPurged o) s new.world.shelf
      → new.world.shelf.pending ≡ [] → new.world.adders ≡ map adding.stopped xs → new.purger ≡ option_map stopped o → Inv r new
  crash_keeps None s xs new inv fits k none adders purger =
      inv_at new None purger (subst (λ y. AddersFit r (IsPurged None) new.world.shelf y) (sym adders) (crash_fits r lawful (IsPurged None) s new.world.shelf xs inv k none)) (sealed_after new.world.shelf none)
  crash_keeps (Some p) s xs new inv fits k none adders purger =
      inv_at new (Some (stopped p)) purger (subst (λ y. AddersFit r (IsPurged (Some (stopped p))) new.world.shelf y) (sym adders) (crash_fits r lawful (IsPurged (Some p)) s new.world.shelf xs inv k none))
      (record { digest = fits.digest; apart = fits.apart; phase = crash_phase new.world.shelf new.world.adders (names p) p.phase none })

  rename_touches : (o : Option Name) (tmp : Name) (call : Call W) → rename_call o tmp ≡ Some call → touched call ≡ None
  rename_touches None tmp call h = absurd (cc h)
  rename_touches (Some d) tmp call h = let e : call ≡ Rename d tmp = cc h in ap touched e

  purge_fresh : (s : Shelved T) (xs : List (Adder T)) (all : List Name) (p : Phase) (call : Call W) → next_call r.tmp all p ≡ Some call → PurgePhaseFits r s xs all p
      → (touched call ≡ None) ⊎ ((n : ℕ) × (touched call ≡ Some (r.tmp n)) × IsFresh r s (r.tmp n))
  purge_fresh s xs all (Moving k n) call h f = inl (rename_touches (slice_get all k) (r.tmp n) call h)
  purge_fresh s xs all (Sealing k n) call h f = let e : call ≡ SettleTop = cc h in inl (ap touched e)
  purge_fresh s xs all (Clearing k n) call h f = let e : call ≡ RemoveTop (r.tmp n) = cc h in inr (n, ap touched e, sealed_fresh r s (r.tmp n) f.1)
  purge_fresh s xs all Closing call h f = let e : call ≡ SettleTop = cc h in inl (ap touched e)
  purge_fresh s xs all (Ended a) call h f = absurd (cc h)
  purge_fresh s xs all Stopped call h f = absurd (cc h)

  -- what a crash keeps, whichever call it cuts, where these names may have entries that carry them
  pub crash_keeps_of : (P : Name → Type 0) (old new : Shared T) (e : Event T) → Inv r old → PendingFits r P old.world.shelf → Leads r old e new → is_crash e ≡ true → Survives r lawful P old.world.shelf new.world.shelf
  crash_keeps_of P old new (Adding e) inv fits l is = absurd (cc is)
  crash_keeps_of P old new (Purging kept there) inv fits l is = absurd (cc is)
  crash_keeps_of P old new Purge inv fits l is = absurd (cc is)
  crash_keeps_of P old new Halt inv fits l is = absurd (cc is)
  crash_keeps_of P old new Crash inv fits c is = survives r lawful P old.world.shelf new.world.shelf inv.adders.sound fits c.leaves
  crash_keeps_of P old new (CrashIn i) inv fits (a, at, call, makes, c) is =
      survives_in r lawful P old.world.shelf new.world.shelf call inv.adders.sound fits
      (touched_fresh r lawful old.world.shelf (r.works a.name a.tree) a.name a.phase call makes (inv.adders.each i a at).fresh) c.leaves
  crash_keeps_of P old new CrashInPurge inv fits (p, at, call, makes, c) is =
      let purging : PurgerFits r old.world.shelf old.world.adders p = subst (λ o. PurgingFits r old.world.shelf old.world.adders o) at inv.purger in
      survives_in r lawful P old.world.shelf new.world.shelf call inv.adders.sound fits (purge_fresh old.world.shelf old.world.adders (names p) p.phase call makes purging.phase) c.leaves

  pub crash_survives : (old new : Shared T) (e : Event T) → Inv r old → Leads r old e new → is_crash e ≡ true → Survives r lawful (IsPurged old.purger) old.world.shelf new.world.shelf
  crash_survives old new e inv l is = crash_keeps_of (IsPurged old.purger) old new e inv inv.adders.pending l is

  crashed : (old new : Shared T) (u : Option Name) → Inv r old → Crashes old new u → Survives r lawful (IsPurged old.purger) old.world.shelf new.world.shelf → Inv r new
  crashed old new u inv c k = crash_keeps old.purger old.world.shelf old.world.adders new inv.adders inv.purger k c.pending c.adders c.purger

  world_same : (P : Name → Type 0) (v w : World T) → w ≡ v → AddersFit r P v.shelf v.adders → AddersFit r P w.shelf w.adders
  world_same P v w e f = subst (λ (x : World T). AddersFit r P x.shelf x.adders) (sym e) f

  -- the invariant is kept by every event
  pub event_keeps : (old new : Shared T) (e : Event T) → Inv r old → Leads r old e new → Inv r new
  event_keeps old new (Adding e) inv (calm, leads, same) =
      let k = adding_keeps old.purger old.world new.world e calm inv.adders inv.purger leads in
      inv_at new old.purger same k.0 k.1
  event_keeps old new (Purging kept there) inv (none, are, same, begins) =
      let p = begun kept there in
      let adders : AddersFit r (IsPurged None) old.world.shelf old.world.adders = subst (λ o. AddersFit r (IsPurged o) old.world.shelf old.world.adders) none inv.adders in
      let sealed : IsSealed r old.world.shelf = subst (λ o. PurgingFits r old.world.shelf old.world.adders o) none inv.purger in
      inv_at new (Some p) begins
      (world_same (IsPurged (Some p)) old.world new.world same (purge_more (IsPurged None) (IsPurged (Some p)) old.world.shelf old.world.adders (λ n no. absurd no) adders))
      (subst (λ (x : World T). PurgerFits r x.shelf x.adders p) (sym same) (begun_fits old.world.shelf old.world.adders kept there are sealed))
  event_keeps old new Purge inv st = purge_keeps old new inv st
  event_keeps old new Halt inv (p, at, same, stops) =
      let adders : AddersFit r (IsPurged (Some p)) old.world.shelf old.world.adders = subst (λ o. AddersFit r (IsPurged o) old.world.shelf old.world.adders) at inv.adders in
      let fits : PurgerFits r old.world.shelf old.world.adders p = subst (λ o. PurgingFits r old.world.shelf old.world.adders o) at inv.purger in
      inv_at new (Some (stopped p)) stops (world_same (IsPurged (Some (stopped p))) old.world new.world same adders)
      (subst (λ (x : World T). PurgerFits r x.shelf x.adders (stopped p)) (sym same)
      (record { digest = fits.digest; apart = fits.apart; phase = phase_halts old.world.shelf old.world.adders (names p) p.phase fits.phase }))
  event_keeps old new Crash inv c = crashed old new None inv c (crash_survives old new Crash inv c refl)
  event_keeps old new (CrashIn i) inv l = crashed old new (touched l.2) inv l.4 (crash_survives old new (CrashIn i) inv l refl)
  event_keeps old new CrashInPurge inv l = crashed old new (touched l.2) inv l.4 (crash_survives old new CrashInPurge inv l refl)

  pub start_inv : (s : Shared T) → IsStart r s → Inv r s
  start_inv s is = inv_at s None is.purger (subst (λ y. AddersFit r (IsPurged None) s.world.shelf y) (sym is.world.adders) (record {
    sound = is.world.sound;
    pending = subst (λ ps. PendingFits r (IsPurged None) (record { tops = s.world.shelf.tops; pending = ps })) (sym is.world.pending) (emptied r lawful (IsPurged None) s.world.shelf.tops);
    each = λ i a h. absurd (cc h);
    apart = λ i j a b n ha hb oa ob. absurd (cc ha);
  })) (sealed_after s.world.shelf is.world.pending)

  pub run_keeps : (events : List (Event T)) (start s : Shared T) → Inv r start → Runs r start events s → Inv r s
  run_keeps [] start s inv is = subst (λ x. Inv r x) (sym is) inv
  run_keeps (e ∷ es) start s inv (mid, first, rest) = run_keeps es mid s (event_keeps start mid e inv first) rest

  keeps_there : (old new : Shared T) (e : Event T) → Inv r old → Leads r old e new → is_crash e ≡ false → (d : Name) (x : Top T) → r.is_digest d → Lasts old.purger d → old.world.shelf.tops d ≡ Some x → new.world.shelf.tops d ≡ Some x
  keeps_there old new (Adding e) inv (calm, leads, same) other d x is last h = adding_there r lawful (IsPurged old.purger) old.world new.world e calm inv.adders leads d x is h
  keeps_there old new (Purging kept there) inv (none, are, same, begins) other d x is last h = ap (λ (w : World T). w.shelf.tops d) same ∙ h
  keeps_there old new Purge inv st other d x is last h = (purge_took old new inv st).frame.kept d x is (subst (λ o. Lasts o d) st.is last) h
  keeps_there old new Halt inv (p, at, same, stops) other d x is last h = ap (λ (w : World T). w.shelf.tops d) same ∙ h
  keeps_there old new Crash inv l other d x is last h = absurd (cc other)
  keeps_there old new (CrashIn i) inv l other d x is last h = absurd (cc other)
  keeps_there old new CrashInPurge inv l other d x is last h = absurd (cc other)

over_of : {T W : Type 0} {r : Rules T W} {lawful : IsLawful r} {P : Name → Type 0} {s new : Shelved T} → Survives r lawful P s new → KeepsOver r (lasting P) s new
over_of k = record { stays = k.stays; no_other = k.no_other }

pub is_law : {T W : Type 0} (r : Rules T W) → IsLawful r → IsLaw r
is_law r lawful start s new events event is_start ran leads =
    let inv = run_keeps r lawful events start s (start_inv r lawful start is_start) ran in
    record {
      sound = inv.adders.sound;
      added = λ i name last h. added_there r lawful (IsPurged s.purger) s.world i name inv.adders last h;
      keeps = λ other d x is last h. keeps_there r lawful s new event inv leads other d x is last h;
      crash = λ is. over_of (crash_survives r lawful s new event inv leads is);
    }

pub is_kept : {T W : Type 0} (r : Rules T W) → IsLawful r → IsKept r
is_kept r lawful old new event inv leads = event_keeps r lawful old new event inv leads
