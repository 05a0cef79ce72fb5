-- What to do about an outcome, wrong words aside.
use Rattle.std.specs.Prelude.{ℕ, List, codes, Option, Some, None}
use Rattle.zi_faults.specs.declared.fault.FeedKind.{FeedKind}
use Rattle.zi_faults.specs.declared.fault.FeedKind.TheVariants as kind
use Rattle.zi_outcome.specs.declared.outcome.Outcome.{Outcome}
use Rattle.zi_outcome.specs.declared.outcome.Outcome.TheVariants as outcome
use Rattle.zi_universe.specs.declared.fault.BadFeed.{BadFeed}
use Rattle.zi_universe.specs.declared.fault.BadFeed.TheVariants as bad

abbrev pub of_kind : FeedKind → Option (List ℕ)
of_kind kind.NotInterface = Some (codes "a document of selections is started by zi launch FILE")
of_kind kind.NoId = None
of_kind kind.BadVersion = None
of_kind kind.BadRange = None
of_kind kind.BadArch = None
of_kind kind.BadDigest = None
of_kind kind.BadPart = None
of_kind kind.BadStep = None
of_kind kind.NoInterface = None
of_kind kind.WrongUri = None
of_kind kind.BadStability = None
of_kind kind.BadAddress = None
of_kind kind.SameId = None
of_kind kind.NoPackage = None

abbrev pub of_feed_fault : BadFeed → Option (List ℕ)
of_feed_fault (bad.Doc kind place) = None
of_feed_fault (bad.Feed kind place) = of_kind kind

abbrev pub remedy : Outcome → Option (List ℕ)
remedy (outcome.FeedRead uri) = Some (codes "a feed, selections, a proof or what is added has to be a file: no folder, no pipe and no device")
remedy outcome.NoRootFeed = Some (codes "zi itself uses no network: a feed of the web is a file in the folder that ZI_FEEDS names")
remedy (outcome.BadFeed uri fault) = of_feed_fault fault
remedy (outcome.FeedTooLong uri limit) = Some (codes "feeds, selections and the table of packages have at most 4 MiB, what is added and proofs 64 MiB")
remedy (outcome.NoSolution proof) = Some (codes "zi conflict with the same options and ROOT tells the facts that leave no choice")
remedy (outcome.Spent proof count) = Some (codes "a greater number behind --search may find an answer")
remedy (outcome.NoFile name) = Some (codes "a path that doesn't begin with / is sought in the folder where zi is started")
remedy (outcome.BadSels fault) = Some (codes "zi select ROOT writes a document of selections")
remedy (outcome.BadProof line) = Some (codes "zi select --proof ROOT writes a proof, and so does zi select ROOT where nothing fits")
remedy outcome.Rejected = Some (codes "a proof is for the same ROOT, options and feeds alone")
remedy (outcome.FetchRead href) = Some (codes "ZI_FETCH names the program that fetches one address")
remedy (outcome.NoRemote href) = Some (codes "the helper ended with status 44: it says that nothing is there")
remedy (outcome.WrongSize href said got) = Some (codes "what is there isn't what the feed describes")
remedy (outcome.Mismatch name found) = Some (codes "where the second digest is the right one, zi store add stores the files under it")
remedy (outcome.MissingTree name) = Some (codes "zi download ROOT fetches what is selected, zi store list lists what is stored")
remedy (outcome.DamagedTree name found) = Some (codes "take the tree out of its store (chmod -R u+w, rm -r), and zi download ROOT fetches it anew")
remedy (outcome.StoreFault name) = Some (codes "ZI_STORE names the store that is written, ZI_STORES those that are read besides")
remedy (outcome.Crowded tried) = Some (codes "while no zi adds or purges, remove the folders tmp-N of the store (chmod -R u+w, rm -r)")
remedy outcome.SpawnFault = Some (codes "what is started has to be executable, and so has what its first line names behind #!")
remedy (outcome.BadPackages line) = Some (codes "examples/packages writes a table from the database of dpkg or RPM")
remedy (outcome.NotInstalled name) = Some (codes "install it and write the table of ZI_PACKAGES anew, or leave it out of the table")
remedy outcome.Done = None
remedy (outcome.Usage index) = None
remedy (outcome.TooManyFeeds limit) = None
remedy (outcome.TooManyInterfaces limit) = None
remedy (outcome.TooManyCandidates limit) = None
remedy (outcome.TooLarge limit) = None
remedy (outcome.Plan fault) = None
remedy (outcome.Overlap path) = None
remedy (outcome.NoPath path) = None
remedy (outcome.BadName path) = None
remedy (outcome.TreeTooLarge what limit) = None
remedy outcome.SinkFault = None
remedy outcome.Memory = None
remedy (outcome.Child status) = None
