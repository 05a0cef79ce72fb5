-- What was known before a loading is what is held; and the work over it ends as is due where it does so over what is known.
use Rattle.std.proofs.Common.{◌≡◌, ℕ, ◌⊎◌, inl, inr, List, [], refl, sym, ap, subst, ◌∙◌, Option, Some, None, Result, Ok, Err}
use Rattle.zi_text.specs.Count.{Rose}
use Rattle.zi_digest.specs.declared.DigestName.{DigestName}
use Rattle.zi_outside.specs.Views.{Holding, Feeding, holding}
use Rattle.zi_packages.specs.declared.types.Packages.{Packages}
use Rattle.zi_packages.specs.declared.fault.PackagesFault.TheVariants.{Bad}
use Rattle.zi_packages.specs.Table.{IsTableText, FaultMeans}
use Rattle.zi_shelf.specs.Told.{Told}
use Rattle.zi_universe.specs.declared.types.Interface.{Interface}
use Rattle.zi_outcome.specs.declared.outcome.Outcome.{Outcome}
use Rattle.zi_outcome.specs.declared.outcome.Outcome.TheVariants.{FeedRead, FeedTooLong, NoFile, BadPackages, Memory}
use Rattle.zi_world.specs.Places.{AreTold}
use Rattle.zi_world.specs.World.{World, all_stores, NothingWritten}
use Rattle.zi_world.proofs.AskingLemmas.{unasked_stay}
use Rattle.zi_choosing.specs.declared.asked.Asked.{Asked}
use Rattle.zi_choosing.specs.declared.known.Known.{Known}
use Rattle.zi_choosing.specs.Table.{table_limit, no_packages, HasTable, LacksTable}
use Rattle.zi_store.specs.Stores.{HaveNames}
use Rattle.zi_choosing.specs.Knowing.{IsUnknown}
use Rattle.zi_choosing.specs.Loaded.{Lent, lent, Over, sources, FindsOut, DoesOver}
use Rattle.zi_due.specs.Due.{Due, plainly, Ends}
use Rattle.zi_due.specs.Held.{Held}
use Rattle.zi_due.specs.Files.{got}
use Rattle.zi_due.specs.Knowing.{IsTable, HasPackages, IsKnown, LoadsTo, ComesTo}
use Rattle.zi_due.specs.Laws.{IsQuiet, TextsAreOne}
use Rattle.zi_due.proofs.PlainLemmas.{stopped_ends, memory_ends, plain_ends}
use Rattle.zi_due.proofs.NamesLemmas.{names_same}
use Rattle.zi_due.proofs.FilesLemmas.{holds_on, absent_got, long_got, within_got}
use Rattle.zi_due.proofs.StoringEnds.{IsQuietWorld}

-- packages are one

table_one : TextsAreOne → (g : Result (List ℕ) Outcome) (r q : Result Packages Outcome) → IsTable g r → IsTable g q → r ≡ q
table_one laws (Err why) r q a b = a ∙ sym b
table_one laws (Ok bytes) (Ok s) (Ok t) a b = ap Ok (laws.table bytes s t a b)
table_one laws (Ok bytes) (Ok s) (Err (BadPackages n)) a b = absurd (b.0 s a)
table_one laws (Ok bytes) (Ok s) (Err other) a b = absurd b
table_one laws (Ok bytes) (Err (BadPackages m)) (Ok t) a b = absurd (a.0 t b)
table_one laws (Ok bytes) (Err (BadPackages m)) (Err (BadPackages n)) a b = ap (λ l. Err (BadPackages l)) (laws.line bytes m n a b)
table_one laws (Ok bytes) (Err (BadPackages m)) (Err other) a b = absurd b
table_one laws (Ok bytes) (Err other) q a b = absurd a

packages_one : TextsAreOne → (table : Option (List ℕ)) (holds : Holding) (r q : Result Packages Outcome) → HasPackages table holds r → HasPackages table holds q → r ≡ q
packages_one laws None holds r q a b = a ∙ sym b
packages_one laws (Some file) holds r q a b = table_one laws (got table_limit file (holds file)) r q a b

module _ (holds : Holding) (before after : Feeding) (told : holding before ≡ Some holds) where
  pub has_so : (table : Option (List ℕ)) (t : Packages) → HasTable table before t after → HasPackages table holds (Ok t)
  has_so None t h = ap Ok h.0
  has_so (Some file) t (bytes, g, text) =
      subst (λ g. IsTable g (Ok t)) (sym (within_got table_limit file holds before after told bytes g)) text

  pub has_holds : (table : Option (List ℕ)) (t : Packages) → HasTable table before t after → holding after ≡ Some holds
  has_holds None t h = (unasked_stay before after h.1).holds ∙ told
  has_holds (Some file) t (bytes, g, text) = holds_on before after holds g.asked.asked told

  has_calm : (table : Option (List ℕ)) (t : Packages) → HasTable table before t after → after.faults ≡ before.faults
  has_calm None t h = ap (λ (f : Feeding). f.faults) h.1
  has_calm (Some file) t (bytes, g, text) = g.asked.calm

  lacks_file : (file : List ℕ) → ¬ Rose before.faults after.faults → (outcome : Outcome) → LacksTable (Some file) before outcome after
      → HasPackages (Some file) holds (Err outcome) ⊎ (outcome ≡ Memory)
  lacks_file file still (FeedRead uri) l = absurd (still l.1.1)
  lacks_file file still (FeedTooLong uri limit) l =
      inl
      (subst (λ g. IsTable g (Err (FeedTooLong uri limit))) (sym (long_got table_limit file holds before after told limit l.1))
      (ap (λ u. Err (FeedTooLong u limit)) l.0 ∙ ap (λ n. Err (FeedTooLong file n)) l.1.1))
  lacks_file file still (NoFile name) l =
      inl (subst (λ g. IsTable g (Err (NoFile name))) (sym (absent_got table_limit file holds before after told l.1)) (ap (λ u. Err (NoFile u)) l.0))
  lacks_file file still (BadPackages line) (bytes, g, f) =
      inl (subst (λ g. IsTable g (Err (BadPackages line))) (sym (within_got table_limit file holds before after told bytes g)) f)
  lacks_file file still Memory l = inr refl
  lacks_file file still other l = absurd l

  lacks_so : (table : Option (List ℕ)) → ¬ Rose before.faults after.faults → (outcome : Outcome) → LacksTable table before outcome after → HasPackages table holds (Err outcome) ⊎ (outcome ≡ Memory)
  lacks_so None still outcome l = absurd l
  lacks_so (Some file) still outcome l = lacks_file file still outcome l

known_by : (s t : Known) → s.each ≡ t.each → s.packages ≡ t.packages → s ≡ t
known_by s t e p = ap (λ (x : List (List DigestName)). record s { each = x }) e ∙ ap (λ (x : Packages). record t { packages = x }) p

abbrev AreSame : Result Packages Outcome → Result Packages Outcome → Type 0
AreSame r q = r ≡ q

ok_same : (x y : Packages) → AreSame (Ok x) (Ok y) → x ≡ y
ok_same x y e = cc

err_same : (x y : Outcome) → AreSame (Err x) (Err y) → x ≡ y
err_same x y e = cc

ok_err : (x : Packages) (y : Outcome) → AreSame (Ok x) (Err y) → ⊥
ok_err x y e = cc

-- no call failed on what a command meets
pub record IsQuietAll (before after : World) : Type 0 where
  pub world : IsQuietWorld before after
  pub feeds : ¬ Rose before.feeds.faults after.feeds.faults

-- This is due of what a loading came to; a refusal is due as it is.
pub record IsOfLoading (By : Result (List Interface) Outcome → Due → Type 0) (due : Due) : Type 0 where
  pub plain : (outcome : Outcome) → By (Err outcome) due → due ≡ plainly outcome

-- the work over what is known ends so
abbrev pub EndsOver : Asked → Over → (Result (List Interface) Outcome → Due → Type 0) → Holding → Due → Outcome → Type 0
EndsOver asked Does By holds due outcome =
    (known : Known) (old new : Lent) (result : Result (List Interface) Outcome) → IsQuiet holds old new → Does known old new outcome → LoadsTo asked.ask holds known result → By result due → Ends due outcome

module _ (tables : TextsAreOne) (asked : Asked) (Does : Over) (By : Result (List Interface) Outcome → Due → Type 0) (before after : World) (held : Held) (due : Due) (outcome : Outcome)
    (over : EndsOver asked Does By held.feeds due outcome) (of : IsOfLoading By due) (told : AreTold (all_stores before) held.stores) (feeds : holding before.feeds ≡ Some held.feeds)
    (quiet : IsQuietAll before after) (result : Result (List Interface) Outcome) (comes : ComesTo asked held result) (by : By result due) where
  -- the table wasn't read
  lacks : HasPackages asked.table held.feeds (Err outcome) → ComesTo asked held result → Ends due outcome
  lacks h (inl (o, has, e)) =
      let same : o ≡ outcome = err_same o outcome (packages_one tables asked.table held.feeds (Err o) (Err outcome) has h) in
      plain_ends due outcome (of.plain outcome (subst (λ o. By (Err o) due) same (subst (λ r. By r due) e by)))
  lacks h (inr (known, is, l)) = absurd (ok_err known.packages outcome (packages_one tables asked.table held.feeds (Ok known.packages) (Err outcome) is.packages h))

  lacks_or : HasPackages asked.table held.feeds (Err outcome) ⊎ (outcome ≡ Memory) → Ends due outcome
  lacks_or (inl h) = lacks h comes
  lacks_or (inr e) = subst (λ o. Ends due o) (sym e) (memory_ends due)

  pub unknown : IsUnknown asked.table (sources before) (sources after) outcome → Ends due outcome
  unknown (inl (s, e)) = stopped_ends [] (all_stores before) (all_stores after) outcome due quiet.world.stores s
  unknown (inr (each, named, l)) = lacks_or (lacks_so held.feeds before.feeds after.feeds feeds asked.table quiet.feeds outcome l)

  -- all was found out
  module _ (start : Known) (now : Feeding) (named : HaveNames (all_stores before) start.each) (table : HasTable asked.table before.feeds start.packages now) where
    knows : Does start (record { feeds = now; out = before.out }) (lent after) outcome → ComesTo asked held result → Ends due outcome
    knows d (inl (o, has, e)) =
        absurd (ok_err start.packages o (packages_one tables asked.table held.feeds (Ok start.packages) (Err o) (has_so held.feeds before.feeds now feeds asked.table start.packages table) has))
    knows d (inr (known, is, l)) =
        let names : start.each ≡ known.each = names_same (all_stores before) held.stores start.each known.each told named is.names in
        let packages : start.packages ≡ known.packages =
        ok_same start.packages known.packages
        (packages_one tables asked.table held.feeds (Ok start.packages) (Ok known.packages) (has_so held.feeds before.feeds now feeds asked.table start.packages table) is.packages) in
        let same : known ≡ start = sym (known_by start known names packages) in
        let still : ¬ Rose now.faults after.feeds.faults =
        λ r. quiet.feeds (subst (λ n. Rose n after.feeds.faults) (has_calm held.feeds before.feeds now feeds asked.table start.packages table) r) in
        over start (record { feeds = now; out = before.out }) (lent after) result
        (record { told = has_holds held.feeds before.feeds now feeds asked.table start.packages table; feeds = still; out = quiet.world.out })
        d (subst (λ k. LoadsTo asked.ask held.feeds k result) same l) by

    pub known_ends : Does start (record { feeds = now; out = before.out }) (lent after) outcome → Ends due outcome
    known_ends d = knows d comes

  finds_out : FindsOut asked.table Does before after outcome → Ends due outcome
  finds_out (inl (u, w)) = unknown u
  finds_out (inr (start, d)) = known_ends start.known start.feeds start.found.0.1 start.found.1 d

  pub over_ends : DoesOver asked.table Does before after outcome → Ends due outcome
  over_ends d = finds_out d.answer
