-- `refute` and `check` end as is due, over what is known.
use Rattle.std.proofs.Common.{◌≡◌, ℕ, ◌-◌, ◌≤◌, ◌⊎◌, inl, inr, List, [], ◌∷◌, refl, sym, ap, subst, ◌∙◌, arith, Some, Result, Ok, Err}
use Rattle.zi_text.specs.Count.{Rose}
use Rattle.zi_words.specs.declared.request.Ask.{Ask}
use Rattle.zi_outside.specs.Views.{Holding, Feeding, holding}
use Rattle.zi_universe.specs.declared.types.Interface.{Interface}
use Rattle.zi_universe.specs.declared.types.Requirement.{Requirement}
use Rattle.zi_proof.specs.declared.proof.Certificate.{Certificate}
use Rattle.zi_proof.specs.declared.fault.ProofFault.TheVariants.{Bad}
use Rattle.zi_proof.specs.ProofText.{IsProofText, FaultMeans, RightLines, whole_lines}
use Rattle.zi_proof.specs.Laws.{ATextHasOneCertificate}
use Rattle.zi_sels.specs.declared.types.Selections.{Selections}
use Rattle.zi_sels.specs.declared.fault.SelsFault.{SelsFault}
use Rattle.zi_sels.specs.Reading.{Says, HasFault, IsSettled}
use Rattle.zi_outcome.specs.declared.outcome.Outcome.{Outcome}
use Rattle.zi_outcome.specs.declared.outcome.Outcome.TheVariants.{Done, FeedRead, FeedTooLong, NoFile, TooLarge, BadSels, BadProof, Rejected, SinkFault, Memory}
use Rattle.zi_world.specs.Files.{AsksFor, GetsWithin, IsAbsent, IsLonger, IsUnread}
use Rattle.zi_choosing.specs.declared.known.Known.{Known}
use Rattle.zi_choosing.specs.Wanted.{requirement_of}
use Rattle.zi_choosing.specs.Loaded.{Lent, Refused}
use Rattle.zi_choosing.specs.Refute as refute
use Rattle.zi_choosing.specs.Check as check
use Rattle.zi_due.specs.Due.{plainly, Ends}
use Rattle.zi_due.specs.Files.{got, OfFile}
use Rattle.zi_due.specs.Knowing.{LoadsTo}
use Rattle.zi_due.specs.Choosing.{Proves, Certifies, OfProof, OfSels, OfUniverse, RefutesBy, CertifiesBy, ChecksBy}
use Rattle.zi_due.specs.Laws.{IsQuiet, RefuteEndsAsDue, CheckEndsAsDue}
use Rattle.zi_due.proofs.PlainLemmas.{memory_ends, same_ends}
use Rattle.zi_due.proofs.FilesLemmas.{holds_on, absent_got, long_got, within_got, one_place}
use Rattle.zi_due.proofs.LoadingEnds.{LoadingLaws, loaded_ends, unloaded_ends}
use Rattle.zi_due.proofs.ChoosingEnds.{never_both}

-- the tests have one answer

proves_one : (u : List Interface) (req : Requirement) (c : Certificate) (o d : Outcome) → Proves u req c o → Proves u req c d → o ≡ d
proves_one u req c Done Done a b = refl
proves_one u req c Done Rejected a (inl n) = absurd (n a.plain)
proves_one u req c Done Rejected a (inr w) = absurd (w.2 a.refutes)
proves_one u req c Done (TooLarge m) a b = absurd (never_both u req 0 m b.1 a.few)
proves_one u req c Done other a b = absurd b
proves_one u req c Rejected Done (inl n) b = absurd (n b.plain)
proves_one u req c Rejected Done (inr w) b = absurd (w.2 b.refutes)
proves_one u req c Rejected Rejected a b = refl
proves_one u req c Rejected (TooLarge m) (inl n) b = absurd (n b.0)
proves_one u req c Rejected (TooLarge m) (inr w) b = absurd (never_both u req 0 m b.1 w.1)
proves_one u req c Rejected other a b = absurd b
proves_one u req c (TooLarge n) Done a b = absurd (never_both u req 0 n a.1 b.few)
proves_one u req c (TooLarge n) Rejected a (inl w) = absurd (w a.0)
proves_one u req c (TooLarge n) Rejected a (inr w) = absurd (never_both u req 0 n a.1 w.1)
proves_one u req c (TooLarge n) (TooLarge m) a b = ap TooLarge (a.1.0 ∙ sym b.1.0)
proves_one u req c (TooLarge n) other a b = absurd b
proves_one u req c other d a b = absurd a

right_or_wrong : (u : List Interface) (req : Requirement) (s : Selections) (c : Certificate) → check.AreRight u req s c → check.AreWrong u req s c → ⊥
right_or_wrong u req s c r (inl n) = n r.candidates
right_or_wrong u req s c r (inr (inl w)) = w.1 r.asked
right_or_wrong u req s c r (inr (inr (inl w))) = w.2 (r.valid, r.excludes)
right_or_wrong u req s c r (inr (inr (inr w))) = w.3 r.own

wrong_or_large : (u : List Interface) (req : Requirement) (s : Selections) (c : Certificate) (n : ℕ) → check.AreWrong u req s c → check.AreTooLarge u req s n → ⊥
wrong_or_large u req s c n (inl w) t = w t.0.0
wrong_or_large u req s c n (inr (inl w)) t = w.1 t.0.1
wrong_or_large u req s c n (inr (inr (inl w))) t = never_both u req 0 n t.1 w.1
wrong_or_large u req s c n (inr (inr (inr w))) t = never_both u req 0 n t.1 w.1

certifies_one : (u : List Interface) (req : Requirement) (s : Selections) (c : Certificate) (o d : Outcome) → Certifies u req s c o → Certifies u req s c d → o ≡ d
certifies_one u req s c Done Done a b = refl
certifies_one u req s c Done Rejected a b = absurd (right_or_wrong u req s c a b)
certifies_one u req s c Done (TooLarge m) a b = absurd (never_both u req 0 m b.1 a.few)
certifies_one u req s c Done other a b = absurd b
certifies_one u req s c Rejected Done a b = absurd (right_or_wrong u req s c b a)
certifies_one u req s c Rejected Rejected a b = refl
certifies_one u req s c Rejected (TooLarge m) a b = absurd (wrong_or_large u req s c m a b)
certifies_one u req s c Rejected other a b = absurd b
certifies_one u req s c (TooLarge n) Done a b = absurd (never_both u req 0 n a.1 b.few)
certifies_one u req s c (TooLarge n) Rejected a b = absurd (wrong_or_large u req s c n b a)
certifies_one u req s c (TooLarge n) (TooLarge m) a b = ap TooLarge (a.1.0 ∙ sym b.1.0)
certifies_one u req s c (TooLarge n) other a b = absurd b
certifies_one u req s c other d a b = absurd a

-- what is due of bytes that are read

of_proof : ATextHasOneCertificate → (Is : Certificate → Outcome → Type 0) (bytes : List ℕ) (c : Certificate) → IsProofText bytes c → (d : Outcome) → OfProof Is bytes d → Is c d
of_proof one Is bytes c text (BadProof line) h = absurd (h.0 c text)
of_proof one Is bytes c text other h = subst (λ x. Is x other) (one bytes h.0 c h.1 text) h.2

line_one : (bytes : List ℕ) (m n : ℕ) → FaultMeans bytes (Bad m) → FaultMeans bytes (Bad n) → m ≡ n
line_one bytes m n a b =
    let e = one_place RightLines (whole_lines bytes) (m - 1) (n - 1) a.2 b.2 in
    omega (arith, e, a.1, b.1)

bad_proof : (Is : Certificate → Outcome → Type 0) (bytes : List ℕ) (line : ℕ) → FaultMeans bytes (Bad line) → (d : Outcome) → OfProof Is bytes d → BadProof line ≡ d
bad_proof Is bytes line f (BadProof m) h = ap BadProof (line_one bytes line m f h)
bad_proof Is bytes line f other h = absurd (f.0 h.0 h.1)

of_sels : (Is : Selections → Outcome → Type 0) (bytes : List ℕ) → IsSettled bytes → (s : Selections) → Says bytes s → (d : Outcome) → OfSels Is bytes d → Is s d
of_sels Is bytes one s says (BadSels fault) h = absurd (one.apart s fault says h)
of_sels Is bytes one s says other h = subst (λ x. Is x other) (one.value h.0 s h.1 says) h.2

bad_sels : (Is : Selections → Outcome → Type 0) (bytes : List ℕ) → IsSettled bytes → (fault : SelsFault) → HasFault bytes fault → (d : Outcome) → OfSels Is bytes d → BadSels fault ≡ d
bad_sels Is bytes one fault f (BadSels other) h = ap BadSels (one.fault fault other f h)
bad_sels Is bytes one fault f other h = absurd (one.apart h.0 fault h.1 f)

got_bytes : (Is : List ℕ → Outcome → Type 0) (r : Result (List ℕ) Outcome) (bytes : List ℕ) (d : Outcome) → r ≡ Ok bytes → OfFile r Is d → Is bytes d
got_bytes Is r bytes d e h = subst (λ r. OfFile r Is d) e h

got_none : (Is : List ℕ → Outcome → Type 0) (r : Result (List ℕ) Outcome) (why d : Outcome) → r ≡ Err why → OfFile r Is d → why ≡ d
got_none Is r why d e h = sym (subst (λ r. OfFile r Is d) e h)

-- behind a loading
module _ (laws : LoadingLaws) (ask : Ask) (known : Known) (holds : Holding) (before after : Lent) (quiet : IsQuiet holds before after) (result : Result (List Interface) Outcome)
    (loads : LoadsTo ask holds known result) (Is : List Interface → Outcome → Type 0) (due : Outcome) (h : OfUniverse Is result due) where
  behind : (there : refute.Loads known ask before.feeds) → Is there.universe due
  behind there =
      subst (λ r. OfUniverse Is r due) (loaded_ends laws ask known holds before.feeds quiet.told there.feeds there.universe result there.loaded loads) h

  so_unloaded : (outcome : Outcome) → result ≡ Err outcome → Ends (plainly due) outcome
  so_unloaded outcome e = same_ends outcome due (sym (subst (λ r. OfUniverse Is r due) e h))

  then_holds : (there : refute.Loads known ask before.feeds) → holding there.feeds ≡ Some holds
  then_holds there = holds_on before.feeds there.feeds holds there.loaded.asked.asks quiet.told

  then_still : (there : refute.Loads known ask before.feeds) → ¬ Rose there.feeds.faults after.feeds.faults
  then_still there r = quiet.feeds (subst (λ n. Rose n after.feeds.faults) there.loaded.asked.faults r)

module _ (laws : LoadingLaws) (one : ATextHasOneCertificate) (ask : Ask) (name : List ℕ) (known : Known) (holds : Holding) (before after : Lent) (quiet : IsQuiet holds before after)
    (result : Result (List Interface) Outcome) (loads : LoadsTo ask holds known result) (due : Outcome) (h : OfUniverse (RefutesBy ask name holds) result due) where
  file : (there : refute.Loads known ask before.feeds)
      → OfFile (got refute.proof_limit name (holds name)) (OfProof (Proves there.universe (requirement_of ask))) due
  file there = behind laws ask known holds before after quiet result loads (RefutesBy ask name holds) due h there

  so_held : (there : refute.Loads known ask before.feeds) → holding there.feeds ≡ Some holds
  so_held there = then_holds laws ask known holds before after quiet result loads (RefutesBy ask name holds) due h there

  judged : (o : Outcome) (there : refute.Loads known ask before.feeds) (c : Certificate) → refute.Reads name there.feeds after.feeds c → Proves there.universe (requirement_of ask) c o
      → Ends (plainly due) o
  judged o there c reads p =
      let Is : Certificate → Outcome → Type 0 = Proves there.universe (requirement_of ask) in
      let bytes : OfProof Is reads.bytes due =
      got_bytes (OfProof Is) (got refute.proof_limit name (holds name)) reads.bytes due
      (within_got refute.proof_limit name holds there.feeds after.feeds (so_held there) reads.bytes reads.got) (file there) in
      same_ends o due (proves_one there.universe (requirement_of ask) c o due p (of_proof one Is reads.bytes c reads.text due bytes))

  bad : (there : refute.Loads known ask before.feeds) (line : ℕ) → refute.IsBad name there.feeds after.feeds line → Ends (plainly due) (BadProof line)
  bad there line b =
      let Is : Certificate → Outcome → Type 0 = Proves there.universe (requirement_of ask) in
      let bytes : OfProof Is b.bytes due =
      got_bytes (OfProof Is) (got refute.proof_limit name (holds name)) b.bytes due
      (within_got refute.proof_limit name holds there.feeds after.feeds (so_held there) b.bytes b.got) (file there) in
      same_ends (BadProof line) due (bad_proof Is b.bytes line b.bad due bytes)

  absent : (there : refute.Loads known ask before.feeds) (said : List ℕ) → said ≡ name → IsAbsent name there.feeds after.feeds → Ends (plainly due) (NoFile said)
  absent there said e a =
      same_ends (NoFile said) due
      (ap NoFile e ∙ got_none (OfProof (Proves there.universe (requirement_of ask))) (got refute.proof_limit name (holds name)) (NoFile name) due
      (absent_got refute.proof_limit name holds there.feeds after.feeds (so_held there) a) (file there))

  long : (there : refute.Loads known ask before.feeds) (said : List ℕ) (limit : ℕ) → said ≡ name → IsLonger refute.proof_limit name there.feeds after.feeds limit
      → Ends (plainly due) (FeedTooLong said limit)
  long there said limit e l =
      same_ends (FeedTooLong said limit) due
      (ap (λ u. FeedTooLong u limit) e ∙ ap (FeedTooLong name) l.1
      ∙ got_none (OfProof (Proves there.universe (requirement_of ask))) (got refute.proof_limit name (holds name)) (FeedTooLong name refute.proof_limit) due
      (long_got refute.proof_limit name holds there.feeds after.feeds (so_held there) limit l) (file there))

  so_unread : (outcome : Outcome) → result ≡ Err outcome → Ends (plainly due) outcome
  so_unread outcome e = so_unloaded laws ask known holds before after quiet result loads (RefutesBy ask name holds) due h outcome e

  refutes : (outcome : Outcome) → refute.RefutesOver ask name known before after outcome → Ends (plainly due) outcome
  refutes Done c = judged Done c.0.there c.0.certificate c.0.reads c.0.is
  refutes (FeedRead uri) (inl r) = absurd (quiet.feeds r.0.count)
  refutes (FeedRead uri) (inr c) = absurd (then_still laws ask known holds before after quiet result loads (RefutesBy ask name holds) due h c.1.0 c.1.1.1)
  refutes (FeedTooLong uri limit) (inl r) =
      so_unread (FeedTooLong uri limit)
      (unloaded_ends laws ask known holds before.feeds quiet.told after.feeds (λ f. Refused known ask before after f) (λ f r. r.0) quiet.feeds (FeedTooLong uri limit) result r loads)
  refutes (FeedTooLong uri limit) (inr c) = long c.1.0 uri limit c.0 c.1.1
  refutes (NoFile said) c = absent c.1.0 said c.0 c.1.1
  refutes (BadProof line) c = bad c.0.0 line c.0.1
  refutes Rejected c = judged Rejected c.0.there c.0.certificate c.0.reads c.0.is
  refutes (TooLarge limit) c = judged (TooLarge limit) c.0.there c.0.certificate c.0.reads c.0.is
  refutes SinkFault c = absurd (quiet.out c.1.failed)
  refutes Memory c = memory_ends (plainly due)
  refutes other c =
      so_unread other (unloaded_ends laws ask known holds before.feeds quiet.told after.feeds (λ f. Refused known ask before after f) (λ f r. r.0) quiet.feeds other result c loads)

module _ (laws : LoadingLaws) (one : ATextHasOneCertificate) (settled : (bytes : List ℕ) → IsSettled bytes) (ask : Ask) (sels name : List ℕ) (known : Known) (holds : Holding) (before after : Lent)
    (quiet : IsQuiet holds before after) (result : Result (List Interface) Outcome) (loads : LoadsTo ask holds known result) (due : Outcome)
    (h : OfUniverse (ChecksBy ask sels name holds) result due) where
  sels_file : (there : refute.Loads known ask before.feeds) → OfFile (got check.sels_limit sels (holds sels)) (OfSels (CertifiesBy ask name holds there.universe)) due
  sels_file there = behind laws ask known holds before after quiet result loads (ChecksBy ask sels name holds) due h there

  sels_held : (there : refute.Loads known ask before.feeds) → holding there.feeds ≡ Some holds
  sels_held there = then_holds laws ask known holds before after quiet result loads (ChecksBy ask sels name holds) due h there

  sels_absent : (there : refute.Loads known ask before.feeds) (said : List ℕ) → said ≡ sels → IsAbsent sels there.feeds after.feeds → Ends (plainly due) (NoFile said)
  sels_absent there said e a =
      same_ends (NoFile said) due
      (ap NoFile e ∙ got_none (OfSels (CertifiesBy ask name holds there.universe)) (got check.sels_limit sels (holds sels)) (NoFile sels) due
      (absent_got check.sels_limit sels holds there.feeds after.feeds (sels_held there) a) (sels_file there))

  sels_long : (there : refute.Loads known ask before.feeds) (said : List ℕ) (limit : ℕ) → said ≡ sels → IsLonger check.sels_limit sels there.feeds after.feeds limit
      → Ends (plainly due) (FeedTooLong said limit)
  sels_long there said limit e l =
      same_ends (FeedTooLong said limit) due
      (ap (λ u. FeedTooLong u limit) e ∙ ap (FeedTooLong sels) l.1
      ∙ got_none (OfSels (CertifiesBy ask name holds there.universe)) (got check.sels_limit sels (holds sels)) (FeedTooLong sels check.sels_limit) due
      (long_got check.sels_limit sels holds there.feeds after.feeds (sels_held there) limit l) (sels_file there))

  sels_bad : (there : refute.Loads known ask before.feeds) (fault : SelsFault) → check.AreUnlike sels there.feeds after.feeds fault → Ends (plainly due) (BadSels fault)
  sels_bad there fault b =
      let Is : Selections → Outcome → Type 0 = CertifiesBy ask name holds there.universe in
      let bytes : OfSels Is b.bytes due =
      got_bytes (OfSels Is) (got check.sels_limit sels (holds sels)) b.bytes due
      (within_got check.sels_limit sels holds there.feeds after.feeds (sels_held there) b.bytes b.got) (sels_file there) in
      same_ends (BadSels fault) due (bad_sels Is b.bytes (settled b.bytes) fault b.bad due bytes)

  -- behind selections that are right
  proof_file : (read : check.ReadsSels known ask sels before.feeds)
      → OfFile (got refute.proof_limit name (holds name)) (OfProof (Certifies read.there.universe (requirement_of ask) read.sels)) due
  proof_file read =
      let Is : Selections → Outcome → Type 0 = CertifiesBy ask name holds read.there.universe in
      let bytes : OfSels Is read.bytes due =
      got_bytes (OfSels Is) (got check.sels_limit sels (holds sels)) read.bytes due
      (within_got check.sels_limit sels holds read.there.feeds read.feeds (sels_held read.there) read.bytes read.got) (sels_file read.there) in
      of_sels Is read.bytes (settled read.bytes) read.sels read.says due bytes

  proof_held : (read : check.ReadsSels known ask sels before.feeds) → holding read.feeds ≡ Some holds
  proof_held read = holds_on read.there.feeds read.feeds holds read.got.asked.asked (sels_held read.there)

  proof_still : (read : check.ReadsSels known ask sels before.feeds) → ¬ Rose read.feeds.faults after.feeds.faults
  proof_still read r =
      then_still laws ask known holds before after quiet result loads (ChecksBy ask sels name holds) due h read.there (subst (λ n. Rose n after.feeds.faults) read.got.asked.calm r)

  proof_judged : (o : Outcome) (read : check.ReadsSels known ask sels before.feeds) (c : Certificate) → refute.Reads name read.feeds after.feeds c
      → Certifies read.there.universe (requirement_of ask) read.sels c o → Ends (plainly due) o
  proof_judged o read c reads p =
      let Is : Certificate → Outcome → Type 0 = Certifies read.there.universe (requirement_of ask) read.sels in
      let bytes : OfProof Is reads.bytes due =
      got_bytes (OfProof Is) (got refute.proof_limit name (holds name)) reads.bytes due
      (within_got refute.proof_limit name holds read.feeds after.feeds (proof_held read) reads.bytes reads.got) (proof_file read) in
      same_ends o due (certifies_one read.there.universe (requirement_of ask) read.sels c o due p (of_proof one Is reads.bytes c reads.text due bytes))

  proof_bad : (read : check.ReadsSels known ask sels before.feeds) (line : ℕ) → refute.IsBad name read.feeds after.feeds line → Ends (plainly due) (BadProof line)
  proof_bad read line b =
      let Is : Certificate → Outcome → Type 0 = Certifies read.there.universe (requirement_of ask) read.sels in
      let bytes : OfProof Is b.bytes due =
      got_bytes (OfProof Is) (got refute.proof_limit name (holds name)) b.bytes due
      (within_got refute.proof_limit name holds read.feeds after.feeds (proof_held read) b.bytes b.got) (proof_file read) in
      same_ends (BadProof line) due (bad_proof Is b.bytes line b.bad due bytes)

  proof_absent : (read : check.ReadsSels known ask sels before.feeds) (said : List ℕ) → said ≡ name → IsAbsent name read.feeds after.feeds → Ends (plainly due) (NoFile said)
  proof_absent read said e a =
      same_ends (NoFile said) due
      (ap NoFile e ∙ got_none (OfProof (Certifies read.there.universe (requirement_of ask) read.sels)) (got refute.proof_limit name (holds name)) (NoFile name) due
      (absent_got refute.proof_limit name holds read.feeds after.feeds (proof_held read) a) (proof_file read))

  proof_long : (read : check.ReadsSels known ask sels before.feeds) (said : List ℕ) (limit : ℕ) → said ≡ name → IsLonger refute.proof_limit name read.feeds after.feeds limit
      → Ends (plainly due) (FeedTooLong said limit)
  proof_long read said limit e l =
      same_ends (FeedTooLong said limit) due
      (ap (λ u. FeedTooLong u limit) e ∙ ap (FeedTooLong name) l.1
      ∙ got_none (OfProof (Certifies read.there.universe (requirement_of ask) read.sels)) (got refute.proof_limit name (holds name)) (FeedTooLong name refute.proof_limit) due
      (long_got refute.proof_limit name holds read.feeds after.feeds (proof_held read) limit l) (proof_file read))

  so_unchecked : (outcome : Outcome) → result ≡ Err outcome → Ends (plainly due) outcome
  so_unchecked outcome e = so_unloaded laws ask known holds before after quiet result loads (ChecksBy ask sels name holds) due h outcome e

  checks : (outcome : Outcome) → check.ChecksOver ask sels name known before after outcome → Ends (plainly due) outcome
  checks Done c = proof_judged Done c.0.read c.0.certificate c.0.reads c.0.are
  checks (FeedRead uri) (inl r) = absurd (quiet.feeds r.0.count)
  checks (FeedRead uri) (inr (inl f, e)) = absurd (then_still laws ask known holds before after quiet result loads (ChecksBy ask sels name holds) due h f.1.0 f.1.1.1)
  checks (FeedRead uri) (inr (inr f, e)) = absurd (proof_still f.1.0 f.1.1.1)
  checks (FeedTooLong uri limit) (inl r) =
      so_unchecked (FeedTooLong uri limit)
      (unloaded_ends laws ask known holds before.feeds quiet.told after.feeds (λ f. Refused known ask before after f) (λ f r. r.0) quiet.feeds (FeedTooLong uri limit) result r loads)
  checks (FeedTooLong uri limit) (inr (inl f, e)) = sels_long f.1.0 uri limit f.0 f.1.1
  checks (FeedTooLong uri limit) (inr (inr f, e)) = proof_long f.1.0 uri limit f.0 f.1.1
  checks (NoFile said) (inl f, e) = sels_absent f.1.0 said f.0 f.1.1
  checks (NoFile said) (inr f, e) = proof_absent f.1.0 said f.0 f.1.1
  checks (BadSels fault) c = sels_bad c.0.0 fault c.0.1
  checks (BadProof line) c = proof_bad c.0.0 line c.0.1
  checks (TooLarge limit) c = proof_judged (TooLarge limit) c.0.read c.0.certificate c.0.reads c.0.are
  checks Rejected c = proof_judged Rejected c.0.read c.0.certificate c.0.reads c.0.are
  checks SinkFault c = absurd (quiet.out c.1.failed)
  checks Memory c = memory_ends (plainly due)
  checks other c =
      so_unchecked other (unloaded_ends laws ask known holds before.feeds quiet.told after.feeds (λ f. Refused known ask before after f) (λ f r. r.0) quiet.feeds other result c loads)

pub refute_ends : LoadingLaws → ATextHasOneCertificate → RefuteEndsAsDue
refute_ends laws one ask proof known holds before after outcome result due quiet c loads h = refutes laws one ask proof known holds before after quiet result loads due h outcome c

pub check_ends : LoadingLaws → ATextHasOneCertificate → ((bytes : List ℕ) → IsSettled bytes) → CheckEndsAsDue
check_ends laws one settled ask sels proof known holds before after outcome result due quiet c loads h =
    checks laws one settled ask sels proof known holds before after quiet result loads due h outcome c
