-- The check of a proof, and what it means for the words that asked for it.
use Rattle.std.proofs.Common.{◌≡◌, ◌≢◌, ℕ, inl, inr, List, [], refl, sym, subst}
use Rattle.zi_outside.specs.Views.{Feeding, Sinking}
use Rattle.zi_words.specs.declared.request.Ask.{Ask}
use Rattle.zi_universe.specs.declared.types.Interface.{Interface}
use Rattle.zi_universe.specs.declared.types.Requirement.{Requirement}
use Rattle.zi_universe.specs.declared.fault.LoadFault.{LoadFault}
use Rattle.zi_universe.specs.declared.fault.LoadFault.TheVariants as load
use Rattle.zi_choice.specs.Valid.{NoneIsValid}
use Rattle.zi_build.specs.declared.building.BuildFault.{BuildFault}
use Rattle.zi_build.specs.declared.building.BuildFault.TheVariants as build
use Rattle.zi_build.specs.Answers.{FaultMeans}
use Rattle.zi_proof.specs.declared.proof.Certificate.{Certificate}
use Rattle.zi_certificate.specs.Certificates.{Refutes}
use Rattle.zi_outcome.specs.declared.outcome.Outcome.{Outcome}
use Rattle.zi_outcome.specs.declared.outcome.Outcome.TheVariants.{FeedRead, FeedTooLong, TooLarge, NoFile, BadProof, Rejected, Memory}
use Rattle.zi_outcome.specs.Refused.{outcome_of}
use Rattle.zi_outcome.specs.Writing.{Prints}
use Rattle.zi_world.specs.Asking.{FeedsStay}
use Rattle.zi_world.specs.Files.{GetsWithin, IsMissing}
use Rattle.zi_world.proofs.AskingLemmas.{stays_then}
use Rattle.zi_world.proofs.FilesLemmas.{file_stays as asked_stays, missing_stays}
use Rattle.zi_choosing.specs.declared.known.Known.{Known}
use Rattle.zi_choosing.specs.Wanted.{requirement_of}
use Rattle.zi_choosing.specs.Loaded.{Lent, IsLoaded, IsRefused, AreFew, build_outcome}
use Rattle.zi_choosing.specs.Refute.{proof_limit, yes_line, Loads, Reads, IsRight, RefutesOver}
use Rattle.zi_choosing.specs.RefuteParts.{IsNone, ChecksRead, IsUnreadable, ChecksFile}

-- it has a block
pub has_block : (req : Requirement) (u : List Interface) (c : Certificate) (out : Sinking) → c.blocks ≢ [] → ChecksRead req u c out out Rejected
has_block req u c out h = inr (inl h, refl)

-- it refutes
pub says_yes : (req : Requirement) (u : List Interface) (c : Certificate) (old new : Sinking) (outcome : Outcome) → c.blocks ≡ [] → AreFew u req → Refutes u req c.proof
    → NoneIsValid u req → Prints yes_line old new outcome → ChecksRead req u c old new outcome
says_yes req u c old new outcome h few refutes none w =
    inl (record { plain = h; few = few; refutes = refutes; none = none }, w)

-- it doesn't
pub says_no : (req : Requirement) (u : List Interface) (c : Certificate) (out : Sinking) → c.blocks ≡ [] → AreFew u req → ¬ Refutes u req c.proof
    → ChecksRead req u c out out Rejected
says_no req u c out h few refused = inr (inr (h, few, refused), refl)

-- there was no formula
pub no_formula : (req : Requirement) (u : List Interface) (c : Certificate) (fault : BuildFault) (out : Sinking) (outcome : Outcome) → c.blocks ≡ [] → FaultMeans u req fault
    → outcome ≡ build_outcome fault → ChecksRead req u c out out outcome
no_formula req u c (build.TooLarge limit) out outcome h means e = subst (λ x. ChecksRead req u c out out x) (sym e) (inr ((h, means), refl))
no_formula req u c build.Memory out outcome h means e = subst (λ x. ChecksRead req u c out out x) (sym e) (inr (tt, refl))

-- Behind the loading.
module _ (ask : Ask) (name : List ℕ) (known : Known) (before after : Lent) (there : Loads known ask before.feeds) where
  yes_as : (c : Certificate) (outcome : Outcome) → Reads name there.feeds after.feeds c → IsRight there.universe (requirement_of ask) c → Prints yes_line before.out after.out outcome
      → RefutesOver ask name known before after outcome
  yes_as c outcome reads right (inl (w, e)) =
      subst (λ x. RefutesOver ask name known before after x) (sym e) (record { there = there; certificate = c; reads = reads; is = right }, w)
  yes_as c outcome reads right (inr (inl (w, e))) =
      subst (λ x. RefutesOver ask name known before after x) (sym e) (record { there = there; certificate = c; reads = reads; is = right }, w)
  yes_as c outcome reads right (inr (inr (w, e))) =
      subst (λ x. RefutesOver ask name known before after x) (sym e) (inr (inr (inr (record { there = there; certificate = c; reads = reads; is = right }, w))))

  none_as : (c : Certificate) (outcome : Outcome) → Reads name there.feeds after.feeds c → IsNone (requirement_of ask) there.universe c outcome → after.out ≡ before.out
      → RefutesOver ask name known before after outcome
  none_as c (TooLarge limit) reads why w = (record { there = there; certificate = c; reads = reads; is = why }, w)
  none_as c Rejected reads why w = (record { there = there; certificate = c; reads = reads; is = why }, w)
  none_as c Memory reads why w = inr (inr (inl ((there, inr reads.got.asked), w)))
  none_as c other reads why w = absurd why

  bad_as : (bytes : List ℕ) (outcome : Outcome) → GetsWithin proof_limit name there.feeds after.feeds bytes → IsUnreadable bytes outcome → after.out ≡ before.out
      → RefutesOver ask name known before after outcome
  bad_as bytes (BadProof line) got why w = ((there, record { bytes = bytes; got = got; bad = why }), w)
  bad_as bytes Memory got why w = inr (inr (inl ((there, inr got.asked), w)))
  bad_as bytes other got why w = absurd why

  no_file_as : (outcome : Outcome) → IsMissing proof_limit name there.feeds after.feeds outcome → after.out ≡ before.out → RefutesOver ask name known before after outcome
  no_file_as (FeedRead uri) why w = inr (why.0, (there, why.1), w)
  no_file_as (FeedTooLong uri limit) why w = inr (why.0, (there, why.1), w)
  no_file_as (NoFile absent) why w = (why.0, (there, why.1), w)
  no_file_as Memory why w = inr (inr (inl ((there, inl why), w)))
  no_file_as other why w = absurd why

  pub file_as : (outcome : Outcome) → ChecksFile (requirement_of ask) there.universe name (record { feeds = there.feeds; out = before.out }) after outcome
      → RefutesOver ask name known before after outcome
  file_as outcome (inl (bytes, got, inl (c, text, inl (right, w)))) = yes_as c outcome (record { bytes = bytes; got = got; text = text }) right w
  file_as outcome (inl (bytes, got, inl (c, text, inr (why, w)))) = none_as c outcome (record { bytes = bytes; got = got; text = text }) why w
  file_as outcome (inl (bytes, got, inr (why, w))) = bad_as bytes outcome got why w
  file_as outcome (inr (why, w)) = no_file_as outcome why w

-- what a loading that was refused comes to
pub refused_over : (ask : Ask) (name : List ℕ) (known : Known) (before after : Lent) (e : LoadFault) (outcome : Outcome) → IsRefused known ask before.feeds after.feeds e
    → after.out ≡ before.out → outcome ≡ outcome_of e → RefutesOver ask name known before after outcome
refused_over ask name known before after e outcome r w is = subst (λ x. RefutesOver ask name known before after x) (sym is) (by e r)
  where
    by : (e : LoadFault) → IsRefused known ask before.feeds after.feeds e → RefutesOver ask name known before after (outcome_of e)
    by (load.FeedRead uri) r = inl (r, w)
    by load.NoRootFeed r = (r, w)
    by (load.BadFeed uri fault) r = (r, w)
    by (load.FeedTooLong uri limit) r = inl (r, w)
    by (load.TooManyFeeds limit) r = (r, w)
    by (load.TooManyInterfaces limit) r = (r, w)
    by (load.TooManyCandidates limit) r = (r, w)
    by load.Memory r = inr (inl (r, w))

-- there was no memory for the task
pub no_task : (ask : Ask) (name : List ℕ) (known : Known) (lent : Lent) → RefutesOver ask name known lent lent Memory
no_task ask name known lent = inl refl

-- the check of the universe that was loaded
pub refuted : (ask : Ask) (name : List ℕ) (known : Known) (req : Requirement) (before after : Lent) (mid : Feeding) (u : List Interface) (outcome : Outcome) → req ≡ requirement_of ask
    → IsLoaded known ask before.feeds mid u → ChecksFile req u name (record { feeds = mid; out = before.out }) after outcome → RefutesOver ask name known before after outcome
refuted ask name known req before after mid u outcome at_req loaded checks =
    file_as ask name known before after (record { universe = u; feeds = mid; loaded = loaded }) outcome
    (subst (λ r. ChecksFile r u name (record { feeds = mid; out = before.out }) after outcome) at_req checks)

-- The feeds hold what they held.
file_stays : (req : Requirement) (u : List Interface) (name : List ℕ) (before after : Lent) (outcome : Outcome) → ChecksFile req u name before after outcome → FeedsStay before.feeds after.feeds
file_stays req u name before after outcome (inl (bytes, got, checks)) = asked_stays name before.feeds after.feeds got.asked
file_stays req u name before after outcome (inr (why, w)) = missing_stays proof_limit name before.feeds after.feeds outcome why

pub stays_over : (req : Requirement) (u : List Interface) (name : List ℕ) (before : Feeding) (lent after : Lent) (outcome : Outcome) → FeedsStay before lent.feeds
    → ChecksFile req u name lent after outcome → FeedsStay before after.feeds
stays_over req u name before lent after outcome s checks = stays_then before lent.feeds after.feeds s (file_stays req u name lent after outcome checks)

pub ruleset checking = (has_block, says_yes, says_no, no_formula)
