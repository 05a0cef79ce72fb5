-- The counts of a demonstration, and what they mean for what was asked.
use Rattle.std.proofs.Common.{◌≡◌, ℕ, ◌<◌, ◌≤◌, arith, true, inl, inr, List, [], Option, Some, None, codes, refl, sym, ap, subst, ◌∙◌}
use Rattle.std.specs.Prelude.{if◌then◌else◌}
use Rattle.std.specs.Str.{chars}
use Rattle.zi_outside.specs.Views.{Holding, Feeding, Sinking, holding}
use Rattle.zi_outside.specs.Memory.{sure_told, sure_seen}
use Rattle.zi_outside.specs.declared.sure_feeds.SureFeeds.{SureFeeds}
use Rattle.zi_text.specs.Count.{Rose}
use Rattle.zi_demo.specs.Feeds.{feeds, Holds}
use Rattle.zi_demo_laws.specs.Solved.{demo_root, IsClear, OfEachNumber}
use Rattle.zi_words.specs.Options.{ask_of}
use Rattle.zi_words.specs.Forms.{is_address, is_carried}
use Rattle.zi_universe.specs.declared.types.Interface.{Interface}
use Rattle.zi_universe.specs.declared.types.Requirement.{Requirement}
use Rattle.zi_universe.specs.declared.fault.LoadFault.{LoadFault}
use Rattle.zi_universe.specs.declared.fault.LoadFault.TheVariants as load
use Rattle.zi_universe.specs.Candidates.{Store}
use Rattle.zi_universe.specs.Loading.{Loads, Refuses, names_of}
use Rattle.zi_universe.specs.Laws.{IsOfFeeds}
use Rattle.zi_choice.specs.Choice.{Choice}
use Rattle.zi_choice.specs.Valid.{NoneIsValid}
use Rattle.zi_choice.specs.Best.{IsBest}
use Rattle.zi_build.specs.declared.building.BuildFault.{BuildFault}
use Rattle.zi_build.specs.declared.building.BuildFault.TheVariants as build
use Rattle.zi_build.specs.Answers.{FaultMeans}
use Rattle.zi_build.specs.Clauses.{formula, literals, most_literals}
use Rattle.zi_proof.specs.declared.proof.Proof.{Proof}
use Rattle.zi_proof.specs.declared.proof.Certificate.{Certificate}
use Rattle.zi_certificate.specs.Certificates.{Excludes, Refutes}
use Rattle.zi_solve.specs.Answers.{IsSpent}
use Rattle.zi_outcome.specs.declared.outcome.Outcome.{Outcome}
use Rattle.zi_outcome.specs.declared.outcome.Outcome.TheVariants.{Done, FeedRead, NoRootFeed, BadFeed, FeedTooLong, TooManyFeeds, TooManyInterfaces, TooManyCandidates, TooLarge, NoSolution, Spent, SinkFault, Memory}
use Rattle.zi_outcome.specs.Refused.{outcome_of}
use Rattle.zi_outcome.specs.Writing.{Prints}
use Rattle.zi_choosing.specs.Wanted.{requirement_of}
use Rattle.zi_choosing.specs.Table.{no_packages}
use Rattle.zi_choosing.specs.Loaded.{Lent, IsLoaded, IsRefused, Refused, AreFew, AreMany, build_outcome}
use Rattle.zi_choosing.specs.Demo.{demo_ask, none_known, counts_of, lines, IsCounted, CountsOver, EndsDemo, Demos}
use Rattle.zi_choosing.specs.DemoParts.{budget, CountsNothing, CountsBest, CountsFrom}

-- the address of the root is one
demo_is_address : is_address (codes "/demo/root.xml") ≡ true
unfolding is_address is_carried chars
demo_is_address = refl

found_address : (text : List ℕ) → text ≡ codes "/demo/root.xml" → (if is_address text then Some text else None) ≡ Some (codes "/demo/root.xml")
found_address text e =
    subst (λ t. (if is_address t then Some t else None) ≡ Some (codes "/demo/root.xml")) (sym e)
    (ap (λ b. if b then Some (codes "/demo/root.xml") else None) demo_is_address)

pub is_root : (text a : List ℕ) (o : Option (List ℕ)) → text ≡ codes "/demo/root.xml" → o ≡ (if is_address text then Some text else None) → o ≡ Some a → a ≡ codes "/demo/root.xml"
is_root text a o e is some = let f : Some a ≡ Some (codes "/demo/root.xml") = sym some ∙ (is ∙ found_address text e) in cc

pub is_there : (text : List ℕ) (o : Option (List ℕ)) → text ≡ codes "/demo/root.xml" → o ≡ (if is_address text then Some text else None) → o ≡ None → ⊥
is_there text o e is none = let f : None ≡ Some (codes "/demo/root.xml") = sym none ∙ (is ∙ found_address text e) in cc

pub ruleset addressed = (is_root, is_there)

module _ (req : Requirement) (u : List Interface) where
  -- the lines of the best choice were printed
  pub counted : (choice : Choice) (c : Certificate) (old new : Sinking) (outcome : Outcome) → AreFew u req → IsBest u req choice → Excludes u req choice c
      → Prints (lines (counts_of u choice)) old new outcome → CountsFrom req u old new outcome
  counted choice c old new outcome few best excludes p =
      inl (record { few = few; choice = choice; best = best; checked = (c, excludes); printed = p })

  -- there was no formula
  pub uncounted : (fault : BuildFault) (out : Sinking) (outcome : Outcome) → FaultMeans u req fault → outcome ≡ build_outcome fault → CountsFrom req u out out outcome
  uncounted (build.TooLarge limit) out outcome means e = subst (λ x. CountsFrom req u out out x) (sym e) (inr (means, refl))
  uncounted build.Memory out outcome means e = subst (λ x. CountsFrom req u out out x) (sym e) (inr (tt, refl))

  -- no choice is valid, or the search was spent
  pub none_counted : (p : Proof) (out : Sinking) (outcome : Outcome) → AreFew u req → Refutes u req p → NoneIsValid u req → outcome ≡ NoSolution p → CountsFrom req u out out outcome
  none_counted p out outcome few refutes none e = subst (λ x. CountsFrom req u out out x) (sym e) (inr ((few, refutes, none), refl))

  pub spent_counted : (p : Proof) (count : ℕ) (out : Sinking) (outcome : Outcome) → AreFew u req → count ≡ budget → IsSpent u req budget p → outcome ≡ Spent p count
      → CountsFrom req u out out outcome
  spent_counted p count out outcome few many spent e = subst (λ x. CountsFrom req u out out x) (sym e) (inr ((few, many, spent), refl))

pub ruleset counting = (counted, uncounted)

pub ruleset answering = (none_counted, spent_counted, uncounted)

-- Behind the loading.
unfolded_budget : (demo_ask).search ≡ budget
unfolding demo_ask
unfolded_budget = refl

module _ (before after : Lent) where
  counted_as : (u : List Interface) (outcome : Outcome) → IsLoaded none_known demo_ask before.feeds after.feeds u → CountsBest (requirement_of demo_ask) u before.out after.out outcome
      → CountsOver before after outcome
  counted_as u outcome loaded b = by b.printed
    where
      text : List ℕ
      text = lines (counts_of u b.choice)

      is : IsCounted before.feeds after.feeds text
      is = record { there = record { universe = u; loaded = loaded; few = b.few }; choice = b.choice; best = b.best; checked = b.checked; shown = refl }

      by : Prints text before.out after.out outcome → CountsOver before after outcome
      by (inl (w, e)) = subst (λ x. CountsOver before after x) (sym e) (text, is, w)
      by (inr (inl (w, e))) = subst (λ x. CountsOver before after x) (sym e) (text, is, w)
      by (inr (inr (w, e))) = subst (λ x. CountsOver before after x) (sym e) (inr (inr (inr (text, is, w))))

  uncounted_as : (u : List Interface) (outcome : Outcome) → IsLoaded none_known demo_ask before.feeds after.feeds u → CountsNothing (requirement_of demo_ask) u outcome
      → after.out ≡ before.out → CountsOver before after outcome
  uncounted_as u (TooLarge limit) loaded why w = ((u, loaded, why), w)
  uncounted_as u (NoSolution p) loaded why w = (record { there = record { universe = u; loaded = loaded; few = why.0 }; refutes = why.1; none = why.2 }, w)
  uncounted_as u (Spent p count) loaded why w = (
    record {
      there = record { universe = u; loaded = loaded; few = why.0 };
      count_is = why.1 ∙ sym unfolded_budget;
      spent = subst (λ n. IsSpent u (requirement_of demo_ask) n p) (sym unfolded_budget) why.2;
    },
    w,
  )
  uncounted_as u Memory loaded why w = inr (inr (inl ((u, loaded, tt), w)))
  uncounted_as u other loaded why w = absurd why

  counted_over : (u : List Interface) (outcome : Outcome) → IsLoaded none_known demo_ask before.feeds after.feeds u
      → CountsFrom (requirement_of demo_ask) u before.out after.out outcome → CountsOver before after outcome
  counted_over u outcome loaded (inl b) = counted_as u outcome loaded b
  counted_over u outcome loaded (inr (why, w)) = uncounted_as u outcome loaded why w

  -- the counting of the universe that was loaded
  pub over_loaded : (req : Requirement) (u : List Interface) (outcome : Outcome) → req ≡ requirement_of demo_ask → IsLoaded none_known demo_ask before.feeds after.feeds u
      → CountsFrom req u before.out after.out outcome → CountsOver before after outcome
  over_loaded req u outcome e loaded c = counted_over u outcome loaded (subst (λ r. CountsFrom r u before.out after.out outcome) e c)

  -- what a loading that was refused comes to
  pub over_refused : (e : LoadFault) (outcome : Outcome) → IsRefused none_known demo_ask before.feeds after.feeds e → after.out ≡ before.out → outcome ≡ outcome_of e
      → CountsOver before after outcome
  over_refused e outcome r w is = subst (λ x. CountsOver before after x) (sym is) (by e r)
    where
      by : (e : LoadFault) → IsRefused none_known demo_ask before.feeds after.feeds e → CountsOver before after (outcome_of e)
      by (load.FeedRead uri) r = (r, w)
      by load.NoRootFeed r = (r, w)
      by (load.BadFeed uri fault) r = (r, w)
      by (load.FeedTooLong uri limit) r = (r, w)
      by (load.TooManyFeeds limit) r = (r, w)
      by (load.TooManyInterfaces limit) r = (r, w)
      by (load.TooManyCandidates limit) r = (r, w)
      by load.Memory r = inr (inl (r, w))

-- there was no memory for what is asked
pub no_job : (lent : Lent) → CountsOver lent lent Memory
no_job lent = inl refl

-- Nothing stands in the way of the demonstration.

asked_root : requirement_of demo_ask ≡ demo_root
unfolding demo_ask ask_of
asked_root = refl

no_overrides : (demo_ask).policy.overrides ≡ []
unfolding demo_ask ask_of
no_overrides = refl

abbrev nothing_stored : Store
nothing_stored = names_of [] no_packages

module _ (before after : Lent) (holds : Holding) (told : holding before.feeds ≡ Some holds) (still : before.feeds.faults ≡ 0) (sure : after.feeds.faults ≡ 0)
    (clear : IsClear holds (demo_ask).policy nothing_stored) where
  never_refused : (e : LoadFault) → IsOfFeeds e ≡ true → Refused none_known demo_ask before after e → ⊥
  never_refused e of r =
      clear.loads e of
      (subst (λ q. Refuses (Some holds) q (demo_ask).policy nothing_stored e) asked_root (subst (λ t. Refuses t (requirement_of demo_ask) (demo_ask).policy nothing_stored e) told r.0.cause))

  never_failed : (uri : List ℕ) → Refused none_known demo_ask before after (load.FeedRead uri) → ⊥
  never_failed uri r = rose before.feeds.faults after.feeds.faults still sure r.0.count
    where
      rose : (a b : ℕ) → a ≡ 0 → b ≡ 0 → Rose a b → ⊥
      rose a b e f (inl lt) = omega (arith, e, f, lt)
      rose a b e f (inr le) = omega (arith, f, le)

  so_loaded : (u : List Interface) → IsLoaded none_known demo_ask before.feeds after.feeds u → Loads (Some holds) demo_root (demo_ask).policy nothing_stored u
  so_loaded u l =
      subst (λ q. Loads (Some holds) q (demo_ask).policy nothing_stored u) asked_root (subst (λ t. Loads t (requirement_of demo_ask) (demo_ask).policy nothing_stored u) told l.loads)

  never_many : (u : List Interface) (limit : ℕ) → IsLoaded none_known demo_ask before.feeds after.feeds u → AreMany u (requirement_of demo_ask) limit → ⊥
  never_many u limit l m =
      let few : literals (formula u demo_root).constraints ≤ most_literals = clear.few u (so_loaded u l) in
      let many : most_literals < literals (formula u demo_root).constraints = subst (λ q. most_literals < literals (formula u q).constraints) asked_root m.1 in
      omega (arith, few, many)

  ends_so : (outcome : Outcome) → CountsOver before after outcome → EndsDemo outcome
  ends_so Done c = tt
  ends_so (Spent p count) c = tt
  ends_so SinkFault c = tt
  ends_so Memory c = tt
  ends_so (TooLarge limit) c = absurd (never_many c.0.0 limit c.0.1 c.0.2)
  ends_so (NoSolution p) c = absurd (clear.solved c.0.there.universe (so_loaded c.0.there.universe c.0.there.loaded) (subst (NoneIsValid c.0.there.universe) asked_root c.0.none))
  ends_so (FeedRead uri) c = absurd (never_failed uri c)
  ends_so NoRootFeed c = absurd (never_refused load.NoRootFeed refl c)
  ends_so (BadFeed uri fault) c = absurd (never_refused (load.BadFeed uri fault) refl c)
  ends_so (FeedTooLong uri limit) c = absurd (never_refused (load.FeedTooLong uri limit) refl c)
  ends_so (TooManyFeeds limit) c = absurd (never_refused (load.TooManyFeeds limit) refl c)
  ends_so (TooManyInterfaces limit) c = absurd (never_refused (load.TooManyInterfaces limit) refl c)
  ends_so (TooManyCandidates limit) c = absurd (never_refused (load.TooManyCandidates limit) refl c)
  ends_so other c = absurd c

-- the feeds were made, and counted over
pub demonstrated : (n : ℕ) (made later : SureFeeds) (old new : Sinking) (outcome : Outcome) → OfEachNumber IsClear → 1 ≤ n → n ≤ 1000 → Holds (feeds n) (sure_told made).holds → (sure_told made).asked ≡ []
    → CountsOver (record { feeds = sure_seen made; out = old }) (record { feeds = sure_seen later; out = new }) outcome → Demos n old new outcome
demonstrated n made later old new outcome clear low high held unasked counts =
    let seen : List (List ℕ) → Feeding = λ asked. record { told = Some (record { holds = (sure_told made).holds; asked = asked }); faults = 0; plan = [] } in
    let free : IsClear (sure_told made).holds (demo_ask).policy nothing_stored = clear n (sure_told made).holds (demo_ask).policy nothing_stored low high held no_overrides in
    inl (record {
      before = sure_seen made;
      after = sure_seen later;
      made = ((sure_told made).holds, held, ap seen unasked);
      sure = refl;
      counts = counts;
      ends = ends_so (record { feeds = sure_seen made; out = old }) (record { feeds = sure_seen later; out = new }) (sure_told made).holds refl refl refl free outcome counts;
    })

pub undemonstrated : (n : ℕ) (out : Sinking) → Demos n out out Memory
undemonstrated n out = inr (refl, refl)

pub ruleset demonstrating = (undemonstrated)
