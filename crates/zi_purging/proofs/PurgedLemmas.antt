-- What a purge leaves of a store.
use Rattle.std.proofs.Common.{◌≡◌, ◌≢◌, ◌≤◌, ℕ, ◌<◌, ◌-◌, ◌^◌, Bool, true, false, not, if◌then◌else◌, List, [], ◌∷◌, map, filter, Option, Some, None, Result, Ok, Err, ◌⊎◌, inl, inr, refl, sym, ◌∙◌, ap, subst, arith}
use Rattle.std.specs.Prelude.{◌&&◌, IsSome}
use Rattle.std.specs.List.{list_all}
use Rattle.std.specs.Ordering.{is_lt}
use Rattle.std.proofs.lemmas.Bool.{and_parts, and_from}
use Rattle.zi_text.specs.Count.{Rose}
use Rattle.zi_text.proofs.ListLaws.{some_of}
use Rattle.zi_tree.specs.Dir.{Dir}
use Rattle.zi_tree.proofs.Order.{cmp, lt_less}
use Rattle.zi_digest.specs.declared.DigestName.{DigestName}
use Rattle.zi_digest.specs.Name.{spelling, IsDigest}
use Rattle.zi_shelf.specs.Names.{Name, IsIn}
use Rattle.zi_shelf.specs.Shelved.{Top, Shelved}
use Rattle.zi_shelf.specs.Shelving.{Shelving, Stays, IsSure}
use Rattle.zi_shelf.specs.Told.{Told}
use Rattle.zi_shelf.specs.declared.shelf.ShelfFault.{ShelfFault}
use Rattle.zi_shelf.specs.declared.shelf.ShelfFault.TheVariants as shelf
use Rattle.zi_shelf.proofs.TopsLemmas.{same_or_not}
use Rattle.zi_store.specs.Keeping.{Grows, Keeps, is_names}
use Rattle.zi_store.specs.Rising.{is_below, rises, is_among}
use Rattle.zi_store.specs.Stored.{NamesStored}
use Rattle.zi_store.specs.Stores.{Fails, IsCalm, HasNames}
use Rattle.zi_store.proofs.OrderLemmas.{in_map, all_of, of_all, among_of_in, in_of_among}
use Rattle.zi_session.specs.Phases.{tmp_name, blamed_name}
use Rattle.zi_session.specs.StoreRules.{IsDigestName, rules}
use Rattle.zi_session.proofs.TiedLemmas.{lawful}
use Rattle.zi_purge.specs.Alone.{Leaves as Left, Spares as Saves, IsAlone, WorksAlone, AreTaken, IsDone}
use Rattle.zi_purge.specs.Blaming.{blamed, Blames}
use Rattle.zi_purge.specs.Keeping.{CountFits}
use Rattle.zi_purge.specs.Machine.{purged, AreApart, AreThere, Ended, Done, Crowded}
use Rattle.zi_purge.specs.Progress.{has_ended}
use Rattle.zi_purge.specs.Stepping.{Standing, standing, at_start}
use Rattle.zi_purge.specs.declared.purge.Purge.{Purge}
use Rattle.zi_purge.specs.declared.step.PurgeStep.{PurgeStep}
use Rattle.zi_purge.specs.declared.step.PurgeStep.TheVariants as step
use Rattle.zi_purge.proofs.AloneLemmas.{begins_alone, ends_alone}
use Rattle.zi_purge.proofs.KeptLemmas.{in_filter}
use Rattle.zi_purging.specs.declared.purging.PurgeFault.{PurgeFault}
use Rattle.zi_purging.specs.declared.purging.PurgeFault.TheVariants as fault
use Rattle.zi_purging.specs.Running.{CallsToEnd, IsEnd, IsRun}
use Rattle.zi_purging.specs.Purged.{Spared, Purged, Spares}
use Rattle.zi_purging.specs.Purging.{OnlyNamed, WorksThrough, Leaves, LeavesOver, Costs, HasPurged, Purges, PurgesTo, PurgesStore, Closes, Idle, Runs, TakesAway}
use Rattle.zi_purging.proofs.RunLemmas.{stays_same, stays_on}

-- lists of names

in_or_not : (n : Name) (xs : List Name) → IsIn n xs ⊎ (IsIn n xs → ⊥)
in_or_not n [] = inr (λ i. i)
in_or_not n (x ∷ xs) = elim (same_or_not n x) [
  | inl e ↦ inl (inl e)
  | inr ne ↦ elim (in_or_not n xs) [
    | inl i ↦ inl (inr i)
    | inr off ↦ inr (λ j. elim j [ inl e ↦ ne e | inr i ↦ off i ])
  ]
]

-- what a filter leaves passes its test
passes : (test : Name → Bool) (x : Name) (xs : List Name) → IsIn x (filter test xs) → test x ≡ true
passes test x [] i = absurd i
passes test x (y ∷ ys) i =
    elim (test y) as (λ b. test y ≡ b → IsIn x (if b then y ∷ filter test ys else filter test ys) → test x ≡ true) [
      | true ↦ λ e j. elim j [ inl same ↦ ap test same ∙ e | inr k ↦ passes test x ys k ]
      | false ↦ λ e j. passes test x ys j
    ] refl i

stays_in : (test : Name → Bool) (x : Name) (xs : List Name) → IsIn x xs → test x ≡ true → IsIn x (filter test xs)
stays_in test x [] i h = absurd i
stays_in test x (y ∷ ys) i h =
    elim (test y) as (λ b. test y ≡ b → IsIn x (if b then y ∷ filter test ys else filter test ys)) [
      | true ↦ λ e. elim i [ inl same ↦ inl same | inr k ↦ inr (stays_in test x ys k h) ]
      | false ↦ λ e. elim i [ inl same ↦ (let f = ap test same in absurd (cc (e, f, h))) | inr k ↦ stays_in test x ys k h ]
    ] refl

of_map : (xs : List DigestName) (n : Name) → IsIn n (map spelling xs) → (d : DigestName) × IsIn d xs × (spelling d ≡ n)
of_map [] n h = absurd h
of_map (x ∷ xs) n (inl e) = (x, inl refl, sym e)
of_map (x ∷ xs) n (inr h) = let p = of_map xs n h in (p.0, inr p.1, p.2)

-- names in byte order

below_itself : (n : Name) → is_lt (cmp n n) ≡ true → ⊥
below_itself n h = let k = lt_less n n h in absurd (cc (h, k))

apart_rising : (xs : List Name) → rises xs ≡ true → AreApart xs
apart_rising [] h = tt
apart_rising (x ∷ xs) h =
    let p = and_parts (is_below x xs) (rises xs) h in
    (λ i. below_itself x (of_all (λ m. is_lt (cmp x m)) xs x p.0 i), apart_rising xs p.1)

below_filter : (test : Name → Bool) (x : Name) (xs : List Name) → is_below x xs ≡ true → is_below x (filter test xs) ≡ true
below_filter test x xs h = all_of (λ m. is_lt (cmp x m)) (filter test xs) (λ n i. of_all (λ m. is_lt (cmp x m)) xs n h (in_filter test n xs i))

rising_filter : (test : Name → Bool) (xs : List Name) → rises xs ≡ true → rises (filter test xs) ≡ true
rising_filter test [] h = refl
rising_filter test (x ∷ xs) h =
    let p = and_parts (is_below x xs) (rises xs) h in
    elim (test x) as (λ b. rises (if b then x ∷ filter test xs else filter test xs) ≡ true) [
      | true ↦ and_from (is_below x (filter test xs)) (rises (filter test xs)) (below_filter test x xs p.0) (rising_filter test xs p.1)
      | false ↦ rising_filter test xs p.1
    ]

-- the names that are purged

not_true : (b : Bool) → not b ≡ true → b ≡ true → ⊥
not_true true h e = cc h
not_true false h e = cc e

not_kept : (kept there : List Name) (n : Name) → IsIn n (purged kept there) → IsIn n kept → ⊥
not_kept kept there n i k = not_true (is_among kept n) (passes (λ m. not (is_among kept m)) n there i) (among_of_in n kept k)

by_not : (b : Bool) → (b ≡ true → ⊥) → not b ≡ true
by_not true h = absurd (h refl)
by_not false h = refl

is_purged : (kept there : List Name) (n : Name) → IsIn n there → (IsIn n kept → ⊥) → IsIn n (purged kept there)
is_purged kept there n i off = stays_in (λ m. not (is_among kept m)) n there i (by_not (is_among kept n) (λ e. off (in_of_among n kept e)))

no_tmp : (n : Name) (k : ℕ) → IsDigestName n → n ≢ tmp_name k
no_tmp n k is e = lawful.tmp_free k (subst IsDigestName e is)

-- the digest names that are there, as they were found
named_there : (there : List DigestName) (s : Shelved Dir) → NamesStored (Ok there) s → AreThere rules s (map spelling there)
named_there there s names = record {
  digest = λ n i.
      let p = of_map there n i in
      (p.0, ((names.1 p.0).0 p.1).0, p.2);
  stand = λ n i.
      let p = of_map there n i in
      subst (λ m. IsSome (s.tops m)) p.2 ((names.1 p.0).0 p.1).1;
  apart = apart_rising (map spelling there) names.0;
}

module _ (kept : List Name) (there : List DigestName) (s t : Shelved Dir) (names : NamesStored (Ok there) s) where
  abbrev purging : List Name
  purging = purged kept (map spelling there)

  is_digest : (n : Name) → IsIn n purging → IsDigestName n
  is_digest n i = (named_there there s names).digest n (in_filter (λ m. not (is_among kept m)) n (map spelling there) i)

  -- whatever it comes to
  pub spared : (gone : List Name) → Saves purging gone s.tops t.tops → Spared kept s t
  spared gone sp = record {
    stays = λ n is i. sp.others n (λ j. not_kept kept (map spelling there) n j i) (λ k less. no_tmp n k is);
    each = λ n is. elim (in_or_not n purging) [
      | inl i ↦ sp.each n i
      | inr off ↦ inl (sp.others n off (λ k less. no_tmp n k is))
    ];
    others = λ n not_digest apart. sp.others n (λ i. not_digest (is_digest n i)) apart;
  }

  -- where all its names are gone
  pub is_done : (gone : List Name) → gone ≡ purging → Left purging [] s.tops t.tops → t.pending ≡ [] → Purged kept gone s t
  is_done gone e l settled = subst (λ g. Purged kept g s t) (sym e) (record {
    are = λ n. (
      λ i. (is_digest n i, (named_there there s names).stand n (in_filter (λ m. not (is_among kept m)) n (map spelling there) i), not_kept kept (map spelling there) n i),
      λ h. is_purged kept (map spelling there) n (was_there n h.0 h.1) h.2,
    );
    rising = rising_filter (λ m. not (is_among kept m)) (map spelling there) names.0;
    away = l.away;
    stays = λ n off. l.stays n off (λ i. i);
    settled = settled;
  })
    where
      was_there : (n : Name) → IsDigestName n → IsSome (s.tops n) → IsIn n (map spelling there)
      was_there n (d, is, spelled) some =
          let at : IsIn d there = (names.1 d).1 (is, subst (λ m. IsSome (s.tops m)) (sym spelled) some) in
          subst (λ m. IsIn m (map spelling there)) spelled (in_map spelling d there at)

-- the purger has worked alone, and this was its last answer
leaves_by : (kept : List Name) (there : List DigestName) (s t : Shelved Dir) (answer : PurgeStep) (x : Standing) → NamesStored (Ok there) s → x.names ≡ purged kept (map spelling there)
    → IsEnd answer x → WorksAlone s x t → Leaves kept x.gone answer s t
leaves_by kept there s t step.Done x names is ends w =
    let d = (ends_alone s t x w).done ends in
    is_done kept there s t names x.gone (d.all ∙ is) (subst (λ l. Left l [] s.tops t.tops) is d.leaves) d.settled
leaves_by kept there s t (step.Crowded tried) x names is ends w = (ends_alone s t x w).crowded ends.1
leaves_by kept there s t (step.Fault tmp) x names is ends w = tt
leaves_by kept there s t step.Memory x names is ends w = tt
leaves_by kept there s t step.More x names is ends w = tt
leaves_by kept there s t step.Over x names is ends w = tt

-- A shelf whose count was below its end and is as it was has not failed.
not_risen : (h k : ℕ) → Rose h k → k ≡ h → h < 2 ^ 64 - 1 → ⊥
not_risen h k (inl less) same below = omega arith
not_risen h k (inr full) same below = omega arith

costs : (answer : PurgeStep) (before after : Shelving) → CountFits answer before.faults after.faults → (before.sure → after.faults ≡ before.faults) → (before.sure → IsSure before) → Costs answer before after
costs (step.Fault tmp) before after rose calm is = (rose, λ s. not_risen before.faults after.faults rose (calm s) (is s).below_end)
costs step.Done before after same calm is = same
costs (step.Crowded tried) before after same calm is = same
costs step.Memory before after same calm is = same
costs step.More before after same calm is = same
costs step.Over before after same calm is = same

fits_since : (answer : PurgeStep) (a b c : ℕ) → b ≡ a → CountFits answer b c → CountFits answer a c
fits_since answer a b c e h = subst (λ n. CountFits answer n c) e h

later_since : (a b c : ℕ) → b ≡ a → b ≤ c → a ≤ c
later_since a b c e h = omega arith

pub idle : (seen : Shelving) → Idle seen seen
idle seen = record { told = refl; faults = refl; stays = stays_same seen }

keeps_idle : (before mid after : Shelving) → Keeps is_names before mid → Idle mid after → Keeps is_names before after
keeps_idle before mid after k i = record {
  holds = λ s h e. (let m = k.holds s h e in (m.0, i.told ∙ m.1, m.2, m.3));
  later = later_to before.faults mid.faults after.faults k.later i.faults;
  stays = stays_on before mid after k.stays i.stays;
}
  where
    later_to : (a b c : ℕ) → a ≤ b → c ≡ b → a ≤ c
    later_to a b c h e = omega arith

-- The names in the shelf were asked for, and a purger ran.
module _ (kept : List Name) (there : List DigestName) (before mid after : Shelving) (keeps : Keeps is_names before mid) (calm : IsCalm before mid) (names : HasNames before there) (sure_is : before.sure → IsSure before) where
  abbrev begun : Standing
  begun = at_start kept (map spelling there)

  -- before its first call it works alone
  begins : (s : Told) → before.honest → before.told ≡ Some s → IsAlone s.shelf begun mid
  begins s h e =
      let m = keeps.holds s h e in
      let works : WorksAlone s.shelf begun s.shelf = (begins_alone kept (map spelling there) s.shelf).1 (named_there there s.shelf (names s h e)) in
      record { honest = keeps.stays.honest h; now = m.0; tells = m.1; works = subst (λ z. WorksAlone s.shelf begun z) (sym m.2) works }

  leaves_over : (answer : PurgeStep) (end : Standing) → IsRun begun mid answer end after → (s : Told) → before.honest → before.told ≡ Some s
      → LeavesOver kept (map spelling there) end.gone answer end before after s
  leaves_over answer end run s h e =
      let m = keeps.holds s h e in
      let c = run.calls m.0 (keeps.stays.honest h) m.1 in
      let a = run.alone s.shelf (begins s h e) in
      let same : a.now ≡ c.0 = (let f : Some a.now ≡ Some c.0 = sym a.tells ∙ c.1 in cc f) in
      let works : WorksAlone s.shelf end c.0.shelf = subst (λ (z : Told). WorksAlone s.shelf end z.shelf) same a.works in
      let saves = subst (λ l. Saves l end.gone s.shelf.tops c.0.shelf.tops) run.names works.spares in
      record {
        told = c.0;
        tells = c.1;
        works = record { mid = m.0; named = record { same = m.2; grows = m.3 }; calls = c.2 };
        spared = spared kept there s.shelf c.0.shelf (names s h e) end.gone saves;
        leaves = leaves_by kept there s.shelf c.0.shelf answer end (names s h e) run.names run.ends works;
      }

  has_purged : (answer : PurgeStep) (end : Standing) → IsRun begun mid answer end after → HasPurged kept before after answer end.gone
  has_purged answer end run = record {
    there = there;
    names = names;
    end = end;
    is = refl;
    ends = run.ends;
    leaves = leaves_over answer end run;
    cost = costs answer before after (fits_since answer before.faults mid.faults after.faults calm run.cause)
        (λ sure.
        let t = some_of before.told (sure_is sure).tells in
        run.no_fault t.0.shelf (begins t.0 (sure_is sure).keeps t.1) (keeps.stays.sure sure) ∙ calm) sure_is;
    later = later_since before.faults mid.faults after.faults calm run.later;
    stays = stays_on before mid after keeps.stays run.stays;
  }

  -- what was done is that of one purger, or none began
  purged_to : (result : Result Purge PurgeFault) → TakesAway kept (map spelling there) mid result after → PurgesTo kept before result after
  purged_to (Ok p) run = has_purged step.Done (standing p) run
  purged_to (Err (fault.Crowded tried)) (end, run) = (run.ends.0, (end.gone, has_purged (step.Crowded tried) end run))
  purged_to (Err (fault.Failed blame)) (tmp, e, (end, run)) = inr (tmp, e, (end.gone, has_purged (step.Fault tmp) end run))
  purged_to (Err fault.Memory) (inl i) = inl (i.faults ∙ calm, keeps_idle before mid after keeps i)
  purged_to (Err fault.Memory) (inr (end, run)) = inr (end.gone, has_purged step.Memory end run)

-- what is left where its names alone were asked for
spared_same : (kept : List Name) (s : Shelved Dir) → Spared kept s s
spared_same kept s = record { stays = λ n is i. refl; each = λ n is. inl refl; others = λ n off apart. refl }

spares_named : (kept : List Name) (before after : Shelving) → Keeps is_names before after → Spares kept before after
spares_named kept before after k s h e = let m = k.holds s h e in (m.0, m.1, subst (λ z. Spared kept s.shelf z) (sym m.2) (spared_same kept s.shelf))

pub spares_purged : (kept gone : List Name) (before after : Shelving) (answer : PurgeStep) → HasPurged kept before after answer gone → Spares kept before after
spares_purged kept gone before after answer p s h e = let l = p.leaves s h e in (l.told, l.tells, l.spared)

-- whatever it comes to
stored_named : (kept : List Name) (before after : Shelving) (result : Result Purge PurgeFault) → PurgesTo kept before result after → Keeps is_names before after → PurgesStore kept before result after
stored_named kept before after result comes k = record { comes = comes; spares = spares_named kept before after k; later = k.later; stays = k.stays }

stored_purged : (kept gone : List Name) (before after : Shelving) (answer : PurgeStep) (result : Result Purge PurgeFault) → PurgesTo kept before result after → HasPurged kept before after answer gone → PurgesStore kept before result after
stored_purged kept gone before after answer result comes p = record { comes = comes; spares = spares_purged kept gone before after answer p; later = p.later; stays = p.stays }

stored_by : (kept : List Name) (before after : Shelving) (result : Result Purge PurgeFault) → PurgesTo kept before result after → PurgesStore kept before result after
stored_by kept before after (Ok p) h = stored_purged kept (standing p).gone before after step.Done (Ok p) h h
stored_by kept before after (Err (fault.Crowded tried)) h = stored_purged kept h.1.0 before after (step.Crowded tried) (Err (fault.Crowded tried)) h h.1.1
stored_by kept before after (Err (fault.Failed blame)) (inl h) = stored_named kept before after (Err (fault.Failed blame)) (inl h) h.2
stored_by kept before after (Err (fault.Failed blame)) (inr h) = stored_purged kept h.2.0 before after (step.Fault h.0) (Err (fault.Failed blame)) (inr h) h.2.1
stored_by kept before after (Err fault.Memory) (inl h) = stored_named kept before after (Err fault.Memory) (inl h) h.1
stored_by kept before after (Err fault.Memory) (inr h) = stored_purged kept h.0 before after step.Memory (Err fault.Memory) (inr h) h.1

pub purges_store : (kept : List Name) (there : List DigestName) (before mid after : Shelving) (result : Result Purge PurgeFault) → Keeps is_names before mid → IsCalm before mid → HasNames before there → (before.sure → IsSure before)
    → TakesAway kept (map spelling there) mid result after → PurgesStore kept before result after
purges_store kept there before mid after result keeps calm names sure_is takes = stored_by kept before after result (purged_to kept there before mid after keeps calm names sure_is result takes)

-- its names weren't found
pub names_failed : (kept : List Name) (before after : Shelving) (blame : Name) → blame ≡ [] → Fails before after → Keeps is_names before after → PurgesStore kept before (Err (fault.Failed blame)) after
names_failed kept before after blame e fails keeps = stored_named kept before after (Err (fault.Failed blame)) (inl (e, fails, keeps)) keeps

pub names_short : (kept : List Name) (before after : Shelving) → IsCalm before after → Keeps is_names before after → PurgesStore kept before (Err fault.Memory) after
names_short kept before after calm keeps = stored_named kept before after (Err fault.Memory) (inl (calm, keeps)) keeps

-- the run of a purger, by what its last step comes to
pub closes_run : (kept there : List Name) (before after : Shelving) (x : Purge) (answer : PurgeStep) (result : Result Purge PurgeFault) → Closes x answer result → Blames answer (blamed x) → IsRun (at_start kept there) before answer (standing x) after
    → TakesAway kept there before result after
closes_run kept there before after x step.Done result e b run = subst (λ r. TakesAway kept there before r after) (sym e) run
closes_run kept there before after x (step.Crowded tried) result e b run = subst (λ r. TakesAway kept there before r after) (sym e) (standing x, run)
closes_run kept there before after x (step.Fault tmp) result e b run = subst (λ r. TakesAway kept there before r after) (sym e) (tmp, ap blamed_name b, (standing x, run))
closes_run kept there before after x step.Memory result e b run = subst (λ r. TakesAway kept there before r after) (sym e) (inr (standing x, run))
closes_run kept there before after x step.More result e b run = absurd e
closes_run kept there before after x step.Over result e b run = absurd e

-- before its first call it hasn't ended
pub begins_open : (kept there : List Name) (x : Standing) → x ≡ at_start kept there → has_ended x.phase ≡ false
begins_open kept there x e = ap (λ (y : Standing). has_ended y.phase) e ∙ (begins_alone kept there (record { tops = λ n. None; pending = [] })).0

-- how the asking for the names was answered
pub failed : {T : Type 0} (f : ShelfFault) → f ≡ shelf.Failed → ◌≡◌ {A = Result T ShelfFault} (Err f) (Err shelf.Failed)
failed f e = ap (λ x. Err x) e

pub not_failed : {T : Type 0} (f : ShelfFault) → f ≡ shelf.Memory → ◌≡◌ {A = Result T ShelfFault} (Err f) (Err shelf.Failed) → ⊥
not_failed f is e = cc

pub answered : {T : Type 0} (x : T) → ◌≡◌ {A = Result T ShelfFault} (Ok x) (Err shelf.Failed) → ⊥
answered x e = cc
