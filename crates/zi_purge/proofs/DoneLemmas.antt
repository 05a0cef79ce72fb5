-- Once the purger answered Done its names are gone, but for those that an adder has renamed to since.
use Rattle.std.proofs.Common.{◌≡◌, ℕ, suc, ◌+◌, ◌<◌, ◌≤◌, true, false, List, [], ◌∷◌, ◌++◌, length, Option, Some, None, option_map, ◌⊎◌, inl, inr, refl, sym, ◌∙◌, ap, subst, IsSome, slice_get, if◌then◌else◌, nat_lt, arith}
use Rattle.std.proofs.lemmas.Bool.{lt-ltb, ltb-true}
use Rattle.std.proofs.lemmas.Option.{slice_get_within}
use Rattle.std.proofs.lemmas.List.{append_assoc}
use Rattle.zi_shelf.specs.Names.{Name, IsIn}
use Rattle.zi_shelf.specs.Shelved.{Top, Shelved, Rename, SettleTop, Reply, Did, Exists, Failed, Memory, Answers}
use Rattle.zi_session.specs.Machine.{Rules, Adder, World}
use Rattle.zi_session.specs.Machine as adding
use Rattle.zi_session.specs.Law.{IsLawful}
use Rattle.zi_session.proofs.MapsLemmas.{some_none}
use Rattle.zi_session.proofs.CallsLemmas.{not_lt}
use Rattle.zi_text.proofs.ListLaws.{some_is, some_of}
use Rattle.zi_purge.specs.Machine.{Purger, Phase, Moving, Sealing, Clearing, Closing, Ended, Stopped, Done, Crowded, Fault, moving, names, purged, begun, next_call, next_phase, halted, stopped, Shared, Event, Adding, Purging, Purge, Halt, Crash, CrashIn, CrashInPurge, Purges, Leads, Runs, is_crash}
use Rattle.zi_purge.specs.Law.{Moment, TakesAway, Brings, Finishes, IsDoneLaw}
use Rattle.zi_session.specs.Beside.{IsSealed, PendingFits}
use Rattle.zi_session.proofs.PendingLemmas.{sealed_fresh}
use Rattle.zi_session.proofs.AddersLemmas.{moved_by}
use Rattle.zi_purge.specs.Invariant.{PurgePhaseFits, PurgerFits, PurgingFits, Inv}
use Rattle.zi_purge.proofs.PurgingLemmas.{is_member, rename_is, moved_off}
use Rattle.zi_purge.proofs.KeptLemmas.{event_keeps, start_inv, purge_took, crash_keeps_of}

-- so many of all names are renamed away, of a purger that runs or has answered Done
abbrev count : ℕ → Phase → ℕ
count all (Moving k n) = k
count all (Sealing k n) = k + 1
count all (Clearing k n) = k + 1
count all Closing = all
count all (Ended Done) = all
count all (Ended Crowded) = 0
count all (Ended Fault) = 0
count all Stopped = 0

less_or : (j k : ℕ) → j < k + 1 → (j < k) ⊎ (j ≡ k)
less_or j k h = elim (nat_lt j k) as (λ b. nat_lt j k ≡ b → (j < k) ⊎ (j ≡ k)) [
  | true ↦ λ e. inl (ltb-true j k e)
  | false ↦ λ e. inr (let ge : k ≤ j = not_lt j k (λ lt. cc (lt-ltb j k lt, e)) in omega arith)
] refl

-- one more only by a rename that was done
grown : (tries all : ℕ) (p : Phase) (reply : Reply) (j : ℕ) → j < all → j < count all (next_phase tries all p reply) → (j < count all p) ⊎ ((n : ℕ) × (p ≡ Moving j n) × (reply ≡ Did))
grown tries all p Memory j in_ h = inl h
grown tries all p Failed j in_ h = absurd (omega arith)
grown tries all (Moving k n) Did j in_ h = elim (less_or j k h) [ inl l ↦ inl l | inr e ↦ inr (n, ap (λ x. Moving x n) (sym e), refl) ]
grown tries all (Moving k n) Exists j in_ h = inl (elim (nat_lt (n + 1) tries) as (λ b. j < count all (if b then Moving k (n + 1) else Ended Crowded) → j < k) [ true ↦ λ g. g | false ↦ λ g. absurd (omega arith) ] h)
grown tries all (Sealing k n) Did j in_ h = inl h
grown tries all (Sealing k n) Exists j in_ h = inl h
grown tries all (Clearing k n) Did j in_ h = inl (elim (nat_lt (k + 1) all) as (λ b. nat_lt (k + 1) all ≡ b → j < count all (if b then Moving (k + 1) 0 else Closing) → j < k + 1) [
  | true ↦ λ e g. g
  | false ↦ λ e g. (let ge : all ≤ k + 1 = not_lt (k + 1) all (λ lt. cc (lt-ltb (k + 1) all lt, e)) in omega arith)
] refl h)
grown tries all (Clearing k n) Exists j in_ h = inl h
grown tries all Closing Did j in_ h = inl h
grown tries all Closing Exists j in_ h = inl h
grown tries all (Ended a) Did j in_ h = inl h
grown tries all (Ended a) Exists j in_ h = inl h
grown tries all Stopped Did j in_ h = inl h
grown tries all Stopped Exists j in_ h = inl h

-- none at the beginning
none_yet : (all j : ℕ) → j < all → j < count all (moving all 0) → ⊥
none_yet all j in_ h = elim (nat_lt 0 all) as (λ b. nat_lt 0 all ≡ b → j < count all (if b then Moving 0 0 else Closing) → ⊥) [
  | true ↦ λ e g. omega arith
  | false ↦ λ e g. (let ge : all ≤ 0 = not_lt 0 all (λ lt. cc (lt-ltb 0 all lt, e)) in omega arith)
] refl h

-- Done is answered after the last settle of the top alone
answers_done : (tries all : ℕ) (p : Phase) (reply : Reply) → next_phase tries all p reply ≡ Ended Done → (p ≡ Ended Done) ⊎ ((p ≡ Closing) × (reply ≡ Did))
answers_done tries all p Memory h = inl h
answers_done tries all p Failed h = absurd (cc h)
answers_done tries all (Moving k n) Did h = absurd (cc h)
answers_done tries all (Moving k n) Exists h = elim (nat_lt (n + 1) tries) as (λ b. (if b then Moving k (n + 1) else Ended Crowded) ≡ Ended Done → (Moving k n ≡ Ended Done) ⊎ ((Moving k n ≡ Closing) × (Exists ≡ Did))) [ true ↦ λ g. absurd (cc g) | false ↦ λ g. absurd (cc g) ] h
answers_done tries all (Sealing k n) Did h = absurd (cc h)
answers_done tries all (Sealing k n) Exists h = absurd (cc h)
answers_done tries all (Clearing k n) Did h = elim (nat_lt (k + 1) all) as (λ b. (if b then Moving (k + 1) 0 else Closing) ≡ Ended Done → (Clearing k n ≡ Ended Done) ⊎ ((Clearing k n ≡ Closing) × (Did ≡ Did))) [ true ↦ λ g. absurd (cc g) | false ↦ λ g. absurd (cc g) ] h
answers_done tries all (Clearing k n) Exists h = absurd (cc h)
answers_done tries all Closing Did h = inr (refl, refl)
answers_done tries all Closing Exists h = absurd (cc h)
answers_done tries all (Ended a) Did h = inl h
answers_done tries all (Ended a) Exists h = inl h
answers_done tries all Stopped Did h = absurd (cc h)
answers_done tries all Stopped Exists h = absurd (cc h)

halted_count : (all : ℕ) (p : Phase) (j : ℕ) → j < count all (halted p) → j < count all p
halted_count all (Moving k n) j h = absurd (omega arith)
halted_count all (Sealing k n) j h = absurd (omega arith)
halted_count all (Clearing k n) j h = absurd (omega arith)
halted_count all Closing j h = absurd (omega arith)
halted_count all (Ended a) j h = h
halted_count all Stopped j h = h

-- one that has renamed names away and halts has answered Done
halted_done : (all : ℕ) (p : Phase) (j : ℕ) → j < count all (halted p) → p ≡ Ended Done
halted_done all (Moving k n) j h = absurd (omega arith)
halted_done all (Sealing k n) j h = absurd (omega arith)
halted_done all (Clearing k n) j h = absurd (omega arith)
halted_done all Closing j h = absurd (omega arith)
halted_done all (Ended Done) j h = refl
halted_done all (Ended Crowded) j h = absurd (omega arith)
halted_done all (Ended Fault) j h = absurd (omega arith)
halted_done all Stopped j h = absurd (omega arith)

halts_done : (p : Phase) → halted p ≡ Ended Done → p ≡ Ended Done
halts_done (Moving k n) h = absurd (cc h)
halts_done (Sealing k n) h = absurd (cc h)
halts_done (Clearing k n) h = absurd (cc h)
halts_done Closing h = absurd (cc h)
halts_done (Ended a) h = h
halts_done Stopped h = absurd (cc h)

in_push : {X : Type 0} (x y : X) (xs : List X) → IsIn x (xs ++ y ∷ []) → IsIn x xs ⊎ (x ≡ y)
in_push x y [] (inl e) = inr e
in_push x y [] (inr i) = absurd i
in_push x y (z ∷ zs) (inl e) = inl (inl e)
in_push x y (z ∷ zs) (inr i) = elim (in_push x y zs i) [ inl j ↦ inl (inr j) | inr e ↦ inr e ]

at_member : {X : Type 0} (xs : List X) (x : X) → IsIn x xs → (k : ℕ) × (slice_get xs k ≡ Some x)
at_member [] x i = absurd i
at_member (y ∷ ys) x (inl e) = (0, ap Some (sym e))
at_member (y ∷ ys) x (inr i) = let m = at_member ys x i in (suc m.0, m.1)

nil_end : {X : Type 0} (xs : List X) → xs ++ [] ≡ xs
nil_end [] = refl
nil_end (x ∷ xs) = ap (λ l. x ∷ l) (nil_end xs)

stopped_of : (o : Option Purger) (p : Purger) → option_map stopped o ≡ Some p → (q : Purger) × (o ≡ Some q) × (stopped q ≡ p)
stopped_of None p h = absurd (cc h)
stopped_of (Some q) p h = (q, refl, cc h)

same_purger : (o : Option Purger) (x p : Purger) → o ≡ Some x → o ≡ Some p → x ≡ p
same_purger o x p e f = let both : Some x ≡ Some p = sym e ∙ f in cc both

no_purger : {A : Type 0} (o : Option Purger) (p : Purger) → o ≡ None → o ≡ Some p → A
no_purger o p e f = absurd (cc (e, f))

moving_not_done : (all k : ℕ) → moving all k ≡ Ended Done → ⊥
moving_not_done all k h = elim (nat_lt k all) as (λ b. (if b then Moving k 0 else Closing) ≡ Ended Done → ⊥) [ true ↦ λ g. cc g | false ↦ λ g. cc g ] h

module _ {T W : Type 0} (r : Rules T W) (lawful : IsLawful r) where
  runs_more : (es : List (Event T)) (a b c : Shared T) (e : Event T) → Runs r a es b → Leads r b e c → Runs r a (es ++ e ∷ []) c
  runs_more [] a b c e same l = (c, subst (λ x. Leads r x e c) same l, refl)
  runs_more (x ∷ xs) a b c e (mid, first, rest) l = (mid, first, runs_more xs mid b c e rest l)

  module _ (start : Shared T) (events : List (Event T)) (s : Shared T) (e : Event T) (new : Shared T) (ran : Runs r start events s) (leads : Leads r s e new) where
    -- a moment that was stays
    later : (what : Shared T → Event T → Shared T → Type 0) (f g : Shared T → List (Event T) → Type 0) → (m : Moment r start events s what f) → g m.new (m.behind ++ e ∷ []) → Moment r start (events ++ e ∷ []) new what g
    later what f g m since = record {
      before = m.before;
      event = m.event;
      behind = m.behind ++ e ∷ [];
      is = ap (λ l. l ++ e ∷ []) m.is ∙ append_assoc m.before (m.event ∷ m.behind) (e ∷ []);
      old = m.old;
      new = m.new;
      ran = m.ran;
      leads = m.leads;
      rest = runs_more m.behind m.new s new e m.rest leads;
      happens = m.happens;
      since = since;
    }

    -- the moment that is now
    now : (what : Shared T → Event T → Shared T → Type 0) (f : Shared T → List (Event T) → Type 0) → what s e new → f new [] → Moment r start (events ++ e ∷ []) new what f
    now what f happens since = record {
      before = events;
      event = e;
      behind = [];
      is = refl;
      old = s;
      new = new;
      ran = ran;
      leads = leads;
      rest = refl;
      happens = happens;
      since = since;
    }

  abbrev Since : Name → Shared T → Shared T → List (Event T) → Type 0
  Since d s new behind = IsSome (s.world.shelf.tops d) → Moment r new behind s (Brings d) (λ later rest. Unit {0})

  abbrev Gone : Shared T → List (Event T) → Shared T → Name → Type 0
  Gone start events s d = Moment r start events s (TakesAway d) (λ new behind. Since d s new behind)

  -- what the run so far has done for the purger
  record Past (start : Shared T) (events : List (Event T)) (s : Shared T) : Type 0 where
    gone : (p : Purger) (j : ℕ) (d : Name) → s.purger ≡ Some p → slice_get (names p) j ≡ Some d → j < count (length (names p)) p.phase → Gone start events s d
    settled : (p : Purger) → s.purger ≡ Some p → p.phase ≡ Ended Done → Moment r start events s Finishes (λ new behind. IsIn Purge behind → ⊥)

  -- a name that is gone stays so, or an adder brings it
  abbrev Stays : Name → Shared T → Event T → Shared T → Type 0
  Stays d s e new = s.world.shelf.tops d ≡ None → IsSome (new.world.shelf.tops d) → Brings d s e new

  gone_on : (start : Shared T) (events : List (Event T)) (s : Shared T) (e : Event T) (new : Shared T) (d : Name) → Leads r s e new → Stays d s e new → Gone start events s d → Runs r start events s → Gone start (events ++ e ∷ []) new d
  gone_on start events s e new d leads stays g ran =
      later start events s e new ran leads (TakesAway d) (λ m behind. Since d s m behind) (λ m behind. Since d new m behind) g
      (λ some. elim (s.world.shelf.tops d) as (λ o. s.world.shelf.tops d ≡ o → Moment r g.new (g.behind ++ e ∷ []) new (Brings d) (λ later rest. Unit {0})) [
        | None ↦ λ none. now g.new g.behind s e new g.rest leads (Brings d) (λ later rest. Unit {0}) (stays none some) tt
        | Some x ↦ λ there. later g.new g.behind s e new g.rest leads (Brings d) (λ later rest. Unit {0}) (λ later rest. Unit {0}) (g.since (some_is (s.world.shelf.tops d) x there)) tt
      ] refl)

  adder_brings : (s : Shared T) (e : adding.Event T) (new : Shared T) (d : Name) → Inv r s → adding.is_crash e ≡ false → adding.Leads r s.world e new.world → r.is_digest d → Stays d s (Adding e) new
  adder_brings s (adding.Begin name tree) new d inv calm l is none some =
      let found = some_of (new.world.shelf.tops d) some in some_none (new.world.shelf.tops d) found.0 found.1 (ap (λ (x : Shelved T). x.tops d) l.2 ∙ none)
  adder_brings s (adding.Step i) new d inv calm st is none some =
      (i, refl, (st.adder, st.is, (moved_by r lawful _ s.world i new.world inv.adders st).brings d is none some), none, some)
  adder_brings s (adding.Stop i) new d inv calm (a, got, same, after) is none some =
      let found = some_of (new.world.shelf.tops d) some in some_none (new.world.shelf.tops d) found.0 found.1 (ap (λ (x : Shelved T). x.tops d) same ∙ none)
  adder_brings s adding.Crash new d inv calm l is none some = absurd (cc calm)
  adder_brings s (adding.CrashIn i) new d inv calm l is none some = absurd (cc calm)

  nothing : {A : Type 0} (o : Option (Top T)) → o ≡ None → IsSome o → A
  nothing o none some = let found = some_of o some in some_none o found.0 found.1 none

  purging_of : {new : Shared T} (s : Shared T) (st : Purges r s new) → Inv r s → PurgerFits r s.world.shelf s.world.adders st.purger
  purging_of s st inv = subst (λ o. PurgingFits r s.world.shelf s.world.adders o) st.is inv.purger

  -- the purger's rename that was done
  takes_now : (s new : Shared T) (st : Purges r s new) (d : Name) (j n : ℕ) → Inv r s → slice_get (names st.purger) j ≡ Some d → st.purger.phase ≡ Moving j n → st.reply ≡ Did → r.is_digest d → TakesAway d s Purge new
  takes_now s new st d j n inv at phase did is =
      let makes : next_call r.tmp (names st.purger) (Moving j n) ≡ Some st.call = subst (λ p. next_call r.tmp (names st.purger) p ≡ Some st.call) phase st.makes in
      let f = rename_is (slice_get (names st.purger) j) (r.tmp n) st.call makes in
      let same : f.0 ≡ d = (let both : Some f.0 ≡ Some d = sym f.1 ∙ at in cc both) in
      let a : Answers r.trees s.world.shelf (Rename f.0 (r.tmp n)) Did new.world.shelf = subst (λ c. Answers r.trees s.world.shelf c Did new.world.shelf) (sym f.2) (subst (λ y. Answers r.trees s.world.shelf st.call y new.world.shelf) did st.answers) in
      (refl, subst (λ x. IsSome (s.world.shelf.tops x)) same (some_is (s.world.shelf.tops f.0) a.0 a.1), subst (λ x. new.world.shelf.tops x ≡ None) same (moved_off r lawful (names st.purger) (purging_of s st inv).digest (purging_of s st inv).apart s.world.shelf new.world.shelf f.0 n a.0 (subst r.is_digest (sym same) is) a.3))

  digest_of : (s : Shared T) (p : Purger) (j : ℕ) (d : Name) → Inv r s → s.purger ≡ Some p → slice_get (names p) j ≡ Some d → r.is_digest d
  digest_of s p j d inv is at =
      let fits : PurgerFits r s.world.shelf s.world.adders p = subst (λ o. PurgingFits r s.world.shelf s.world.adders o) is inv.purger in
      fits.digest d (is_member (names p) j d at)

  abbrev NoPurge : Shared T → List (Event T) → Type 0
  NoPurge m behind = IsIn Purge behind → ⊥

  settled_on : (start : Shared T) (events : List (Event T)) (s : Shared T) (e : Event T) (new : Shared T) → Runs r start events s → Leads r s e new → (Purge ≡ e → ⊥) → Moment r start events s Finishes NoPurge
      → Moment r start (events ++ e ∷ []) new Finishes NoPurge
  settled_on start events s e new ran leads other m = later start events s e new ran leads Finishes NoPurge NoPurge m (λ i. elim (in_push Purge e m.behind i) [ inl j ↦ m.since j | inr same ↦ other same ])

  -- a crash brings back no name of a purger that answered Done
  crash_brings : (s new : Shared T) (e : Event T) (p : Purger) (d : Name) → Inv r s → Leads r s e new → is_crash e ≡ true → s.purger ≡ Some p → p.phase ≡ Ended Done → r.is_digest d → Stays d s e new
  crash_brings s new e p d inv l is at done dig none some =
      let fits : PurgerFits r s.world.shelf s.world.adders p = subst (λ o. PurgingFits r s.world.shelf s.world.adders o) at inv.purger in
      let sealed : IsSealed r s.world.shelf = subst (λ q. PurgePhaseFits r s.world.shelf s.world.adders (names p) q) done fits.phase in
      let pending : PendingFits r (λ n. ⊥) s.world.shelf = record { had = λ n x x_is i. absurd (sealed_fresh r s.world.shelf n sealed x x_is i); gone = inv.adders.pending.gone } in
      let k = crash_keeps_of r lawful (λ n. ⊥) s new e inv pending l is in
      let found = some_of (new.world.shelf.tops d) some in
      some_none (s.world.shelf.tops d) found.0 (k.no_other d found.0 dig (λ x. x) found.1) none

  crash_past : (start : Shared T) (events : List (Event T)) (s : Shared T) (e : Event T) (new : Shared T) → Inv r s → Runs r start events s → Leads r s e new → is_crash e ≡ true → new.purger ≡ option_map stopped s.purger → (Purge ≡ e → ⊥)
      → Past start events s → Past start (events ++ e ∷ []) new
  crash_past start events s e new inv ran leads is stops other past = record {
    gone = λ p j d has at less.
        let q = stopped_of s.purger p (sym stops ∙ has) in
        let at_q : slice_get (names q.0) j ≡ Some d = subst (λ x. slice_get (names x) j ≡ Some d) (sym q.2) at in
        let less_q : j < count (length (names q.0)) (halted q.0.phase) = subst (λ x. j < count (length (names x)) x.phase) (sym q.2) less in
        gone_on start events s e new d leads
        (crash_brings s new e q.0 d inv leads is q.1 (halted_done (length (names q.0)) q.0.phase j less_q) (digest_of s q.0 j d inv q.1 at_q))
        (past.gone q.0 j d q.1 at_q (halted_count (length (names q.0)) q.0.phase j less_q)) ran;
    settled = λ p has done.
        let q = stopped_of s.purger p (sym stops ∙ has) in
        let done_q : q.0.phase ≡ Ended Done = halts_done q.0.phase (ap (λ (x : Purger). x.phase) q.2 ∙ done) in
        settled_on start events s e new ran leads other (past.settled q.0 q.1 done_q);
  }

  same_world : (s new : Shared T) (e : Event T) (d : Name) → new.world ≡ s.world → Stays d s e new
  same_world s new e d same none some = nothing (new.world.shelf.tops d) (ap (λ (w : World T). w.shelf.tops d) same ∙ none) some

  purge_past : (start : Shared T) (events : List (Event T)) (s new : Shared T) → Inv r s → Runs r start events s → Purges r s new → Past start events s → Past start (events ++ Purge ∷ []) new
  purge_past start events s new inv ran st past =
      let to = next_phase r.tries (length (names st.purger)) st.purger.phase st.reply in
      let next : Purger = record st.purger { phase = to } in
      record {
        gone = λ p j d has at less.
            let is : next ≡ p = same_purger new.purger next p st.goes has in
            let at_q : slice_get (names st.purger) j ≡ Some d = subst (λ x. slice_get (names x) j ≡ Some d) (sym is) at in
            let less_q : j < count (length (names st.purger)) to = subst (λ x. j < count (length (names x)) x.phase) (sym is) less in
            let dig = digest_of s st.purger j d inv st.is at_q in
            elim (grown r.tries (length (names st.purger)) st.purger.phase st.reply j (slice_get_within (names st.purger) j d at_q) less_q) [
              | inl before ↦ gone_on start events s Purge new d st (λ none some. nothing (new.world.shelf.tops d) ((purge_took r lawful s new inv st).none d dig none) some) (past.gone st.purger j d st.is at_q before) ran
              | inr m ↦
                  let t = takes_now s new st d j m.0 inv at_q m.1 m.2 dig in
                  now start events s Purge new ran st (TakesAway d) (λ m behind. Since d new m behind) t (λ some. nothing (new.world.shelf.tops d) t.2 some)
            ];
        settled = λ p has done.
            let is : next ≡ p = same_purger new.purger next p st.goes has in
            let to_done : to ≡ Ended Done = ap (λ (x : Purger). x.phase) is ∙ done in
            elim (answers_done r.tries (length (names st.purger)) st.purger.phase st.reply to_done) [
              | inl was ↦ (let no : next_call r.tmp (names st.purger) (Ended Done) ≡ Some st.call = subst (λ q. next_call r.tmp (names st.purger) q ≡ Some st.call) was st.makes in absurd (cc no))
              | inr m ↦
                  let makes : next_call r.tmp (names st.purger) Closing ≡ Some st.call = subst (λ q. next_call r.tmp (names st.purger) q ≡ Some st.call) m.0 st.makes in
                  let call : st.call ≡ SettleTop = cc makes in
                  let a : Answers r.trees s.world.shelf SettleTop Did new.world.shelf = subst (λ c. Answers r.trees s.world.shelf c Did new.world.shelf) call (subst (λ y. Answers r.trees s.world.shelf st.call y new.world.shelf) m.1 st.answers) in
                  now start events s Purge new ran st Finishes NoPurge (refl, ap (λ (x : Shelved T). x.pending) a, (p, has, done)) (λ i. i)
            ];
      }

  past_on : (start : Shared T) (events : List (Event T)) (s : Shared T) (e : Event T) (new : Shared T) → Inv r s → Runs r start events s → Leads r s e new → Past start events s → Past start (events ++ e ∷ []) new
  past_on start events s (Adding e) new inv ran (calm, leads, same) past = record {
    gone = λ p j d has at less.
        let was : s.purger ≡ Some p = sym same ∙ has in
        gone_on start events s (Adding e) new d (calm, leads, same) (adder_brings s e new d inv calm leads (digest_of s p j d inv was at)) (past.gone p j d was at less) ran;
    settled = λ p has done. settled_on start events s (Adding e) new ran (calm, leads, same) (λ x. cc x) (past.settled p (sym same ∙ has) done);
  }
  past_on start events s (Purging kept there) new inv ran (none, are, same, begins) past = record {
    gone = λ p j d has at less.
        let is : begun kept there ≡ p = same_purger new.purger (begun kept there) p begins has in
        let at_q : slice_get (purged kept there) j ≡ Some d = subst (λ x. slice_get (names x) j ≡ Some d) (sym is) at in
        let less_q : j < count (length (purged kept there)) (moving (length (purged kept there)) 0) = subst (λ x. j < count (length (names x)) x.phase) (sym is) less in
        absurd (none_yet (length (purged kept there)) j (slice_get_within (purged kept there) j d at_q) less_q);
    settled = λ p has done.
        let is : begun kept there ≡ p = same_purger new.purger (begun kept there) p begins has in
        absurd (moving_not_done (length (purged kept there)) 0 (ap (λ (x : Purger). x.phase) is ∙ done));
  }
  past_on start events s Purge new inv ran st past = purge_past start events s new inv ran st past
  past_on start events s Halt new inv ran (q, at, same, stops) past = record {
    gone = λ p j d has here less.
        let is : stopped q ≡ p = same_purger new.purger (stopped q) p stops has in
        let at_q : slice_get (names q) j ≡ Some d = subst (λ x. slice_get (names x) j ≡ Some d) (sym is) here in
        let less_q : j < count (length (names q)) (halted q.phase) = subst (λ x. j < count (length (names x)) x.phase) (sym is) less in
        gone_on start events s Halt new d (q, at, same, stops) (same_world s new Halt d same) (past.gone q j d at at_q (halted_count (length (names q)) q.phase j less_q)) ran;
    settled = λ p has done.
        let is : stopped q ≡ p = same_purger new.purger (stopped q) p stops has in
        let done_q : q.phase ≡ Ended Done = halts_done q.phase (ap (λ (x : Purger). x.phase) is ∙ done) in
        settled_on start events s Halt new ran (q, at, same, stops) (λ x. cc x) (past.settled q at done_q);
  }
  past_on start events s Crash new inv ran c past = crash_past start events s Crash new inv ran c refl c.purger (λ x. cc x) past
  past_on start events s (CrashIn i) new inv ran l past = crash_past start events s (CrashIn i) new inv ran l refl l.4.purger (λ x. cc x) past
  past_on start events s CrashInPurge new inv ran l past = crash_past start events s CrashInPurge new inv ran l refl l.4.purger (λ x. cc x) past

  past_along : (rest : List (Event T)) (start : Shared T) (events : List (Event T)) (s new : Shared T) → Inv r s → Runs r start events s → Past start events s → Runs r s rest new → Past start (events ++ rest) new
  past_along [] start events s new inv ran past same = subst (λ l. Past start l new) (sym (nil_end events)) (subst (λ x. Past start events x) (sym same) past)
  past_along (e ∷ es) start events s new inv ran past (mid, first, rest) =
      subst (λ l. Past start l new) (append_assoc events (e ∷ []) es)
      (past_along es start (events ++ e ∷ []) mid new (event_keeps r lawful s mid e inv first) (runs_more events start s mid e ran first) (past_on start events s e mid inv ran first past) rest)

pub is_done : {T W : Type 0} (r : Rules T W) → IsLawful r → IsDoneLaw r
is_done r lawful start s events p is ran (has, done) =
    let none : Past r lawful start [] start = record { gone = λ q j d at here less. no_purger start.purger q is.purger at; settled = λ q at d. no_purger start.purger q is.purger at } in
    let past = past_along r lawful events start [] start s (start_inv r lawful start is) refl none ran in
    record {
      settled = past.settled p has done;
      gone = λ d i.
          let m = at_member (names p) d i in
          past.gone p m.0 d has m.1 (subst (λ q. m.0 < count (length (names p)) q) (sym done) (slice_get_within (names p) m.0 d m.1));
    }
