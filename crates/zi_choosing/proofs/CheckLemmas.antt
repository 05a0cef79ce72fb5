-- The check of selections, and what it means for the words that asked for it.
use Rattle.std.proofs.Common.{◌≡◌, ◌≢◌, ℕ, ◌⊎◌, inl, inr, Bool, true, false, List, refl, sym, ap, subst, ◌∙◌, Decides}
use Rattle.zi_outside.specs.Views.{Feeding, Sinking}
use Rattle.zi_words.specs.declared.request.Ask.{Ask}
use Rattle.zi_universe.specs.declared.types.Interface.{Interface}
use Rattle.zi_universe.specs.declared.types.Requirement.{Requirement}
use Rattle.zi_universe.specs.declared.fault.LoadFault.{LoadFault}
use Rattle.zi_universe.specs.declared.fault.LoadFault.TheVariants as load
use Rattle.zi_choice.specs.Choice.{Choice}
use Rattle.zi_choice.specs.Valid.{IsValid}
use Rattle.zi_choice.specs.Best.{IsBest}
use Rattle.zi_certificate.specs.Certificates.{Excludes}
use Rattle.zi_build.specs.declared.building.BuildFault.{BuildFault}
use Rattle.zi_build.specs.declared.building.BuildFault.TheVariants as build
use Rattle.zi_build.specs.Answers.{FaultMeans}
use Rattle.zi_proof.specs.declared.proof.Certificate.{Certificate}
use Rattle.zi_proof.specs.declared.fault.ProofFault.TheVariants.{Bad}
use Rattle.zi_proof.specs.ProofText.{IsProofText, FaultMeans as ProofFaultMeans}
use Rattle.zi_sels.specs.declared.types.Selection.{Selection}
use Rattle.zi_sels.specs.declared.types.Selections.{Selections}
use Rattle.zi_sels.specs.declared.fault.SelsFault.{SelsFault}
use Rattle.zi_sels.specs.declared.fault.SelsFault.TheVariants as fault
use Rattle.zi_sels.specs.Reading.{HasFault, FaultMeans as SelsFaultMeans}
use Rattle.zi_outcome.specs.declared.outcome.Outcome.{Outcome}
use Rattle.zi_outcome.specs.declared.outcome.Outcome.TheVariants.{FeedRead, FeedTooLong, TooLarge, NoFile, BadSels, BadProof, Rejected, Memory}
use Rattle.zi_outcome.specs.Refused.{outcome_of}
use Rattle.zi_outcome.specs.Writing.{Prints}
use Rattle.std.proofs.lemmas.Bool.{false≢true}
use Rattle.zi_world.specs.Asking.{FeedsStay}
use Rattle.zi_world.specs.Files.{AsksFor, GetsWithin, IsAbsent, IsLonger, IsUnread, IsMissing}
use Rattle.zi_world.proofs.AskingLemmas.{unasked_stay, stays_then}
use Rattle.zi_world.proofs.FilesLemmas.{file_stays as asked_stays, missing_stays}
use Rattle.zi_choosing.specs.declared.known.Known.{Known}
use Rattle.zi_choosing.specs.Wanted.{requirement_of}
use Rattle.zi_choosing.specs.Loaded.{Lent, IsLoaded, IsRefused, AreFew, build_outcome}
use Rattle.zi_choosing.specs.Refute.{proof_limit, yes_line, Loads}
use Rattle.zi_choosing.specs.RefuteParts.{IsUnreadable}
use Rattle.zi_choosing.specs.Named.{AreCandidates, choice_of, AreAskedFor, AreOwn}
use Rattle.zi_choosing.specs.Check.{sels_limit, ReadsSels, AreRight, IsCertified, AreWrong, AreTooLarge, ChecksOver}
use Rattle.zi_choosing.specs.CheckParts.{Judges, JudgesNot, AreNot, SaysOf, ChecksBy, AreUnsaid, ChecksText, ChecksFile}

fails : {P : Type 0} (said : Bool) → Decides said P → said ≡ false → P → ⊥
fails said tells e p = false≢true (sym e ∙ tells.1 p)

-- The tests, in their order.
module _ (u : List Interface) (req : Requirement) (sels : Selections) (c : Certificate) where
  -- the first, of a universe and selections as they are lent
  tells_candidates : (v : List Interface) (items : List Selection) (found : Bool) → v ≡ u → items ≡ sels.items → Decides found (AreCandidates v items) → Decides found (AreCandidates u sels.items)
  tells_candidates v items found same all tells = subst (λ w. Decides found (AreCandidates w sels.items)) same (subst (λ is. Decides found (AreCandidates v is)) all tells)

  pub no_candidates : (v : List Interface) (items : List Selection) (found : Bool) → v ≡ u → items ≡ sels.items → Decides found (AreCandidates v items) → found ≡ false → AreWrong u req sels c
  no_candidates v items found same all tells e = inl (fails found (tells_candidates v items found same all tells) e)

  pub not_asked : (v : List Interface) (items : List Selection) (found asked : Bool) → v ≡ u → items ≡ sels.items → Decides found (AreCandidates v items) → found ≡ true
      → Decides asked (AreAskedFor req sels) → asked ≡ false → AreWrong u req sels c
  not_asked v items found asked same all tells e asks f = inr (inl ((tells_candidates v items found same all tells).0 e, fails asked asks f))

  pub unbuilt : (v : List Interface) (items : List Selection) (found asked : Bool) (lacks : BuildFault) → v ≡ u → items ≡ sels.items → Decides found (AreCandidates v items) → found ≡ true
      → Decides asked (AreAskedFor req sels) → asked ≡ true → FaultMeans u req lacks → JudgesNot u req sels lacks
  unbuilt v items found asked (build.TooLarge limit) same all tells e asks f means = (((tells_candidates v items found same all tells).0 e, asks.0 f), means)
  unbuilt v items found asked build.Memory same all tells e asks f means = tt

  -- the choice that is found is that of the selections
  found_is : (s : Choice) (items : List Selection) → s ≡ choice_of u items → items ≡ sels.items → s ≡ choice_of u sels.items
  found_is s items is all = is ∙ ap (choice_of u) all

  pub not_certified : (v : List Interface) (items more : List Selection) (found asked best : Bool) (s : Choice) → v ≡ u → items ≡ sels.items → Decides found (AreCandidates v items) → found ≡ true
      → Decides asked (AreAskedFor req sels) → asked ≡ true → s ≡ choice_of u more → more ≡ sels.items → AreFew u req → Decides best (IsValid u req s × Excludes u req s c) → best ≡ false → AreWrong u req sels c
  not_certified v items more found asked best s same all tells e asks f is rest few certified g =
      inr (inr (inl (
        ((tells_candidates v items found same all tells).0 e, asks.0 f),
        few,
        fails best (subst (λ r. Decides best (IsValid u req r × Excludes u req r c)) (found_is s more is rest) certified) g,
      )))

  told : (own : Bool) → AreCandidates u sels.items → AreAskedFor req sels → AreFew u req → IsCertified u req sels c → IsBest u req (choice_of u sels.items)
      → Decides own (AreOwn u req (choice_of u sels.items) sels) → Judges u req sels c own
  told true are asked few certified best tells =
      record { candidates = are; asked = asked; few = few; valid = certified.0; excludes = certified.1; best = best; own = tells.0 refl }
  told false are asked few certified best tells = inr (inr (inr ((are, asked), few, certified, fails false tells refl)))

  pub judged : (v : List Interface) (items more : List Selection) (found asked best own : Bool) (s : Choice) → v ≡ u → items ≡ sels.items → Decides found (AreCandidates v items) → found ≡ true
      → Decides asked (AreAskedFor req sels) → asked ≡ true → s ≡ choice_of u more → more ≡ sels.items → AreFew u req → Decides best (IsValid u req s × Excludes u req s c) → best ≡ true
      → (best ≡ true → IsBest u req s) → Decides own (AreOwn u req s sels) → Judges u req sels c own
  judged v items more found asked best own s same all tells e asks f is rest few certified g h owns =
      let now : s ≡ choice_of u sels.items = found_is s more is rest in
      told own ((tells_candidates v items found same all tells).0 e) (asks.0 f) few ((subst (λ r. Decides best (IsValid u req r × Excludes u req r c)) now certified).0 g)
      (subst (λ r. IsBest u req r) now (h g)) (subst (λ r. Decides own (AreOwn u req r sels)) now owns)

  -- what they say
  pub says_yes : (old new : Sinking) (outcome : Outcome) (said : Bool) → said ≡ true → Judges u req sels c said → Prints yes_line old new outcome → SaysOf u req sels c old new outcome
  says_yes old new outcome said e j w = inl (subst (λ b. Judges u req sels c b) e j, w)

  pub says_no : (out : Sinking) (said : Bool) → said ≡ false → Judges u req sels c said → SaysOf u req sels c out out Rejected
  says_no out said e j = inr (subst (λ b. Judges u req sels c b) e j, refl)

  pub says_none : (out : Sinking) (outcome : Outcome) (e : BuildFault) → JudgesNot u req sels e → outcome ≡ build_outcome e → SaysOf u req sels c out out outcome
  says_none out outcome (build.TooLarge limit) why is = subst (λ x. SaysOf u req sels c out out x) (sym is) (inr (why, refl))
  says_none out outcome build.Memory why is = subst (λ x. SaysOf u req sels c out out x) (sym is) (inr (tt, refl))

-- a fault of the bytes
pub says_fault : (bytes : List ℕ) (f : SelsFault) → SelsFaultMeans bytes f → f ≢ fault.Memory → HasFault bytes f
says_fault bytes f (inl e) other = absurd (other e)
says_fault bytes f (inr h) other = h

-- Why nothing is written, one cause beside the other.
abbrev Cause : Outcome → Outcome → Type 0 → Type 0
Cause outcome ending Is = (outcome ≡ ending) × Is

abbrev Missing : ℕ → List ℕ → Feeding → Feeding → Outcome → Type 0
Missing most name before after outcome =
    Cause outcome (NoFile name) (IsAbsent name before after)
    ⊎ (((limit : ℕ) × Cause outcome (FeedTooLong name limit) (IsLonger most name before after limit))
    ⊎ (Cause outcome (FeedRead name) (IsUnread name before after) ⊎ Cause outcome Memory (after ≡ before)))

missing : (most : ℕ) (name : List ℕ) (before after : Feeding) (outcome : Outcome) → IsMissing most name before after outcome → Missing most name before after outcome
missing most name before after (FeedRead uri) why = inr (inr (inl (ap FeedRead why.0, why.1)))
missing most name before after (FeedTooLong uri limit) why = inr (inl (limit, (ap (λ n. FeedTooLong n limit) why.0, why.1)))
missing most name before after (NoFile absent) why = inl (ap NoFile why.0, why.1)
missing most name before after Memory why = inr (inr (inr (refl, why)))
missing most name before after other why = absurd why

abbrev Unsaid : List ℕ → Outcome → Type 0
Unsaid bytes outcome = ((f : SelsFault) × Cause outcome (BadSels f) (HasFault bytes f)) ⊎ (outcome ≡ Memory)

unsaid : (bytes : List ℕ) (outcome : Outcome) → AreUnsaid bytes outcome → Unsaid bytes outcome
unsaid bytes (BadSels fault) why = inl (fault, (refl, why))
unsaid bytes Memory why = inr refl
unsaid bytes other why = absurd why

abbrev Unreadable : List ℕ → Outcome → Type 0
Unreadable bytes outcome = ((line : ℕ) × Cause outcome (BadProof line) (ProofFaultMeans bytes (Bad line))) ⊎ (outcome ≡ Memory)

unreadable : (bytes : List ℕ) (outcome : Outcome) → IsUnreadable bytes outcome → Unreadable bytes outcome
unreadable bytes (BadProof line) why = inl (line, (refl, why))
unreadable bytes Memory why = inr refl
unreadable bytes other why = absurd why

abbrev Not : List Interface → Requirement → Selections → Certificate → Outcome → Type 0
Not u req sels c outcome =
    Cause outcome Rejected (AreWrong u req sels c) ⊎ (((limit : ℕ) × Cause outcome (TooLarge limit) (AreTooLarge u req sels limit)) ⊎ (outcome ≡ Memory))

are_not : (u : List Interface) (req : Requirement) (sels : Selections) (c : Certificate) (outcome : Outcome) → AreNot u req sels c outcome → Not u req sels c outcome
are_not u req sels c (TooLarge limit) why = inr (inl (limit, (refl, why)))
are_not u req sels c Rejected why = inl (refl, why)
are_not u req sels c Memory why = inr (inr refl)
are_not u req sels c other why = absurd why

-- Behind the loading.
module _ (ask : Ask) (name proof : List ℕ) (known : Known) (before after : Lent) where
  abbrev Over : Outcome → Type 0
  Over outcome = ChecksOver ask name proof known before after outcome

  -- behind the selections
  module _ (read : ReadsSels known ask name before.feeds) where
    module _ (c : Certificate) (bytes : List ℕ) (got : GetsWithin proof_limit proof read.feeds after.feeds bytes) (text : IsProofText bytes c) where
      yes_as : (outcome : Outcome) → AreRight read.there.universe (requirement_of ask) read.sels c → Prints yes_line before.out after.out outcome → Over outcome
      yes_as outcome right (inl (w, e)) =
          subst Over (sym e) (record { read = read; certificate = c; reads = record { bytes = bytes; got = got; text = text }; are = right }, w)
      yes_as outcome right (inr (inl (w, e))) =
          subst Over (sym e) (record { read = read; certificate = c; reads = record { bytes = bytes; got = got; text = text }; are = right }, w)
      yes_as outcome right (inr (inr (w, e))) =
          subst Over (sym e) (inr (inr (inr (inr (record { read = read; certificate = c; reads = record { bytes = bytes; got = got; text = text }; are = right }, w)))))

      not_as : (outcome : Outcome) → Not read.there.universe (requirement_of ask) read.sels c outcome → after.out ≡ before.out → Over outcome
      not_as outcome (inl (e, wrong)) w =
          subst Over (sym e) (record { read = read; certificate = c; reads = record { bytes = bytes; got = got; text = text }; are = wrong }, w)
      not_as outcome (inr (inl (limit, (e, large)))) w =
          subst Over (sym e) (record { read = read; certificate = c; reads = record { bytes = bytes; got = got; text = text }; are = large }, w)
      not_as outcome (inr (inr e)) w = subst Over (sym e) (inr (inr (inr (inl ((read, got.asked), w)))))

    bad_as : (bytes : List ℕ) (outcome : Outcome) → GetsWithin proof_limit proof read.feeds after.feeds bytes → Unreadable bytes outcome → after.out ≡ before.out → Over outcome
    bad_as bytes outcome got (inl (line, (e, bad))) w = subst Over (sym e) ((read, record { bytes = bytes; got = got; bad = bad }), w)
    bad_as bytes outcome got (inr e) w = subst Over (sym e) (inr (inr (inr (inl ((read, got.asked), w)))))

    no_proof_as : (outcome : Outcome) → Missing proof_limit proof read.feeds after.feeds outcome → after.out ≡ before.out → Over outcome
    no_proof_as outcome (inl (e, absent)) w = subst Over (sym e) (inr (refl, (read, absent)), w)
    no_proof_as outcome (inr (inl (limit, (e, longer)))) w = subst Over (sym e) (inr (inr (refl, (read, longer)), w))
    no_proof_as outcome (inr (inr (inl (e, unread)))) w = subst Over (sym e) (inr (inr (refl, (read, unread)), w))
    no_proof_as outcome (inr (inr (inr (e, same)))) w =
        subst Over (sym e) (inr (inr (inl ((read.there, inr (subst (λ f. AsksFor name read.there.feeds f) (sym same) read.got.asked)), w))))

    by_as : (outcome : Outcome) → ChecksBy read.there.universe (requirement_of ask) read.sels proof (record { feeds = read.feeds; out = before.out }) after outcome → Over outcome
    by_as outcome (inl (bytes, got, inl (c, text, inl (right, w)))) = yes_as c bytes got text outcome right w
    by_as outcome (inl (bytes, got, inl (c, text, inr (why, w)))) =
        not_as c bytes got text outcome (are_not read.there.universe (requirement_of ask) read.sels c outcome why) w
    by_as outcome (inl (bytes, got, inr (why, w))) = bad_as bytes outcome got (unreadable bytes outcome why) w
    by_as outcome (inr (why, w)) = no_proof_as outcome (missing proof_limit proof read.feeds after.feeds outcome why) w

  module _ (there : Loads known ask before.feeds) where
    unsaid_as : (mid : Feeding) (bytes : List ℕ) (outcome : Outcome) → GetsWithin sels_limit name there.feeds mid bytes → Unsaid bytes outcome → after ≡ record { feeds = mid; out = before.out } → Over outcome
    unsaid_as mid bytes outcome got (inl (f, (e, bad))) same =
        let now : GetsWithin sels_limit name there.feeds after.feeds bytes = subst (λ g. GetsWithin sels_limit name there.feeds g bytes) (sym (ap (λ l. l.feeds) same)) got in
        subst Over (sym e) ((there, record { bytes = bytes; got = now; bad = bad }), ap (λ l. l.out) same)
    unsaid_as mid bytes outcome got (inr e) same =
        let now : AsksFor name there.feeds after.feeds = subst (λ g. AsksFor name there.feeds g) (sym (ap (λ l. l.feeds) same)) got.asked in
        subst Over (sym e) (inr (inr (inl ((there, inr now), ap (λ l. l.out) same))))

    no_sels_as : (outcome : Outcome) → Missing sels_limit name there.feeds after.feeds outcome → after.out ≡ before.out → Over outcome
    no_sels_as outcome (inl (e, absent)) w = subst Over (sym e) (inl (refl, (there, absent)), w)
    no_sels_as outcome (inr (inl (limit, (e, longer)))) w = subst Over (sym e) (inr (inl (refl, (there, longer)), w))
    no_sels_as outcome (inr (inr (inl (e, unread)))) w = subst Over (sym e) (inr (inl (refl, (there, unread)), w))
    no_sels_as outcome (inr (inr (inr (e, same)))) w = subst Over (sym e) (inr (inr (inl ((there, inl same), w))))

    pub file_as : (outcome : Outcome) → ChecksFile there.universe (requirement_of ask) name proof (record { feeds = there.feeds; out = before.out }) after outcome → Over outcome
    file_as outcome (inl (mid, bytes, got, inl (sels, says, checks))) =
        by_as (record { there = there; sels = sels; bytes = bytes; feeds = mid; got = got; says = says }) outcome checks
    file_as outcome (inl (mid, bytes, got, inr (why, same))) = unsaid_as mid bytes outcome got (unsaid bytes outcome why) same
    file_as outcome (inr (why, w)) = no_sels_as outcome (missing sels_limit name there.feeds after.feeds outcome why) w

  -- what a loading that was refused comes to
  pub check_refused : (e : LoadFault) (outcome : Outcome) → IsRefused known ask before.feeds after.feeds e → after.out ≡ before.out → outcome ≡ outcome_of e → Over outcome
  check_refused e outcome r w is = subst Over (sym is) (by e r)
    where
      by : (e : LoadFault) → IsRefused known ask before.feeds after.feeds e → Over (outcome_of e)
      by (load.FeedRead uri) r = inl (r, w)
      by load.NoRootFeed r = (r, w)
      by (load.BadFeed uri fault) r = (r, w)
      by (load.FeedTooLong uri limit) r = inl (r, w)
      by (load.TooManyFeeds limit) r = (r, w)
      by (load.TooManyInterfaces limit) r = (r, w)
      by (load.TooManyCandidates limit) r = (r, w)
      by load.Memory r = inr (inl (r, w))

  -- the check over the universe that was loaded
  pub checked : (req : Requirement) (mid : Feeding) (u : List Interface) (outcome : Outcome) → req ≡ requirement_of ask → IsLoaded known ask before.feeds mid u
      → ChecksFile u req name proof (record { feeds = mid; out = before.out }) after outcome → Over outcome
  checked req mid u outcome at_req loaded checks =
      file_as (record { universe = u; feeds = mid; loaded = loaded }) outcome
      (subst (λ r. ChecksFile u r name proof (record { feeds = mid; out = before.out }) after outcome) at_req checks)

-- there was no memory for the task
pub check_no_task : (ask : Ask) (name proof : List ℕ) (known : Known) (lent : Lent) → ChecksOver ask name proof known lent lent Memory
check_no_task ask name proof known lent = inl refl

-- The feeds hold what they held.
by_stays : (u : List Interface) (req : Requirement) (sels : Selections) (proof : List ℕ) (before after : Lent) (outcome : Outcome) → ChecksBy u req sels proof before after outcome → FeedsStay before.feeds after.feeds
by_stays u req sels proof before after outcome (inl (bytes, got, says)) = asked_stays proof before.feeds after.feeds got.asked
by_stays u req sels proof before after outcome (inr (why, w)) =
    missing_stays proof_limit proof before.feeds after.feeds outcome why

text_stays : (u : List Interface) (req : Requirement) (bytes proof : List ℕ) (before after : Lent) (outcome : Outcome) → ChecksText u req bytes proof before after outcome → FeedsStay before.feeds after.feeds
text_stays u req bytes proof before after outcome (inl (sels, says, checks)) = by_stays u req sels proof before after outcome checks
text_stays u req bytes proof before after outcome (inr (why, same)) = unasked_stay before.feeds after.feeds (ap (λ l. l.feeds) same)

file_stays : (u : List Interface) (req : Requirement) (name proof : List ℕ) (before after : Lent) (outcome : Outcome) → ChecksFile u req name proof before after outcome → FeedsStay before.feeds after.feeds
file_stays u req name proof before after outcome (inl (mid, bytes, got, checks)) =
    stays_then before.feeds mid after.feeds (asked_stays name before.feeds mid got.asked)
    (text_stays u req bytes proof (record { feeds = mid; out = before.out }) after outcome checks)
file_stays u req name proof before after outcome (inr (why, w)) =
    missing_stays sels_limit name before.feeds after.feeds outcome why

pub check_stays : (u : List Interface) (req : Requirement) (name proof : List ℕ) (before : Feeding) (lent after : Lent) (outcome : Outcome) → FeedsStay before lent.feeds
    → ChecksFile u req name proof lent after outcome → FeedsStay before after.feeds
check_stays u req name proof before lent after outcome s checks = stays_then before lent.feeds after.feeds s (file_stays u req name proof lent after outcome checks)
