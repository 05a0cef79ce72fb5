-- The line on the error stream, and the exit code, of each outcome.
use Rattle.std.specs.Prelude.{◌≡◌, ℕ, ◌⊎◌, List, [], ◌++◌, codes}
use Rattle.std.specs.Fmt.{decimal}
use Rattle.zi_outside.specs.Views.{Sinking}
use Rattle.zi_outside.specs.Outside.{Writes, WritesFront}
use Rattle.zi_outcome.specs.Writing.{StopsShort}
use Rattle.zi_outcome.specs.declared.outcome.Outcome.{Outcome}
use Rattle.zi_outcome.specs.declared.outcome.Outcome.TheVariants.{Done, Usage, FeedRead, NoRootFeed, BadFeed, FeedTooLong, TooManyFeeds, TooManyInterfaces, TooManyCandidates, TooLarge, NoSolution, Spent, NoFile, BadSels, BadProof, Rejected, Plan, FetchRead, NoRemote, WrongSize, Overlap, NoPath, Mismatch, MissingTree, DamagedTree, BadName, TreeTooLarge, StoreFault, Crowded, SpawnFault, SinkFault, Memory, BadPackages, NotInstalled, Child}
use Rattle.zi_universe.specs.declared.fault.BadFeed.{BadFeed as Fault}
use Rattle.zi_universe.specs.declared.fault.BadFeed.TheVariants as bad
use Rattle.zi_tree.specs.declared.change.TreeLimit.{TreeLimit}
use Rattle.zi_tree.specs.declared.change.TreeLimit.TheVariants as limit
use Rattle.zi_sels.specs.declared.fault.SelsFault.{SelsFault}
use Rattle.zi_sels.specs.declared.fault.SelsFault.TheVariants as sels
use Rattle.zi_plan.specs.declared.fault.PlanFault.{PlanFault}
use Rattle.zi_plan.specs.declared.fault.PlanFault.TheVariants as plan
use Rattle.zi_doc.specs.Kinds as documents
use Rattle.zi_faults.specs.Faults as feeds

-- a fault by its kind's number and its place
abbrev pub blamed : Fault → List ℕ
blamed (bad.Doc kind place) = codes "document " ++ decimal (documents.number_of kind) ++ codes " at " ++ decimal place
blamed (bad.Feed kind place) = codes "feed " ++ decimal (feeds.number kind) ++ codes " at " ++ decimal place

-- what a tree has too much of
abbrev pub measure_of : TreeLimit → List ℕ
measure_of limit.Size = codes "size"
measure_of limit.Nodes = codes "nodes"
measure_of limit.Depth = codes "depth"

-- why bytes are no document of selections, and why selections can't be launched, as numbers
abbrev pub number_of_sels : SelsFault → ℕ
number_of_sels (sels.Doc kind place) = 1
number_of_sels sels.NotSelections = 2
number_of_sels sels.NoRoot = 3
number_of_sels (sels.Twice interface) = 4
number_of_sels (sels.Feed kind place) = 5
number_of_sels (sels.Unclosed interface) = 6
number_of_sels sels.Memory = 7

abbrev pub number_of_plan : PlanFault → ℕ
number_of_plan (plan.NoSelection interface) = 1
number_of_plan (plan.NoCommand interface command) = 2
number_of_plan (plan.NoPath interface command) = 3
number_of_plan (plan.Loop interface command) = 4
number_of_plan (plan.Bind fault) = 5
number_of_plan (plan.Unbuilt element) = 6
number_of_plan (plan.BadPath text) = 7
number_of_plan (plan.NoFolder interface) = 8
number_of_plan plan.Memory = 9

abbrev pub text_of : Outcome → List ℕ
text_of Done = []
text_of (Usage index) = codes "usage at word " ++ decimal index
text_of (FeedRead uri) = codes "cannot read " ++ uri
text_of NoRootFeed = codes "no feed for the root"
text_of (BadFeed uri fault) = codes "bad feed " ++ uri ++ codes ": " ++ blamed fault
text_of (FeedTooLong uri limit) = uri ++ codes " is longer than " ++ decimal limit ++ codes " bytes"
text_of (TooManyFeeds limit) = codes "more than " ++ decimal limit ++ codes " feeds"
text_of (TooManyInterfaces limit) = codes "more than " ++ decimal limit ++ codes " interfaces"
text_of (TooManyCandidates limit) = codes "more than " ++ decimal limit ++ codes " candidates"
text_of (TooLarge limit) = codes "more than " ++ decimal limit ++ codes " literals"
text_of (NoSolution proof) = codes "no solution"
text_of (Spent proof count) = codes "search spent after " ++ decimal count ++ codes " lemmas"
text_of (NoFile name) = codes "no file " ++ name
text_of (BadSels fault) = codes "bad selections: fault " ++ decimal (number_of_sels fault)
text_of (BadProof line) = codes "bad proof at line " ++ decimal line
text_of Rejected = codes "rejected"
text_of (Plan fault) = codes "cannot launch: fault " ++ decimal (number_of_plan fault)
text_of (FetchRead href) = codes "cannot fetch " ++ href
text_of (NoRemote href) = codes "nothing at " ++ href
text_of (WrongSize href said got) = href ++ codes " has " ++ decimal got ++ codes " bytes, not " ++ decimal said
text_of (Overlap path) = path ++ codes " is already there"
text_of (NoPath path) = codes "no " ++ path
text_of (Mismatch name found) = codes "expected " ++ name ++ codes ", found " ++ found
text_of (MissingTree name) = name ++ codes " is not stored"
text_of (DamagedTree name found) = name ++ codes " is damaged: " ++ found
text_of (BadName path) = codes "bad name " ++ path
text_of (TreeTooLarge what limit) = codes "tree too large: " ++ measure_of what ++ codes " past " ++ decimal limit
text_of (StoreFault name) = codes "store fault at " ++ name
text_of (Crowded tried) = decimal tried ++ codes " temporary names taken"
text_of SpawnFault = codes "cannot start the program"
text_of SinkFault = codes "cannot write"
text_of Memory = codes "out of memory"
text_of (BadPackages line) = codes "bad package table at line " ++ decimal line
text_of (NotInstalled name) = name ++ codes " is not installed"
text_of (Child status) = []

abbrev pub line_of : Outcome → List ℕ
line_of Done = []
line_of (Child status) = []
line_of o = codes "zi: " ++ text_of o ++ codes "\n"

abbrev pub code_of : Outcome → ℕ
code_of Done = 0
code_of (Usage index) = 64
code_of (FeedRead uri) = 65
code_of NoRootFeed = 66
code_of (BadFeed uri fault) = 67
code_of (FeedTooLong uri limit) = 68
code_of (TooManyFeeds limit) = 69
code_of (TooManyInterfaces limit) = 70
code_of (TooManyCandidates limit) = 71
code_of (TooLarge limit) = 72
code_of (NoSolution proof) = 73
code_of (Spent proof count) = 74
code_of (NoFile name) = 75
code_of (BadSels fault) = 76
code_of (BadProof line) = 77
code_of Rejected = 78
code_of (Plan fault) = 79
code_of (FetchRead href) = 80
code_of (NoRemote href) = 81
code_of (WrongSize href said got) = 82
code_of (Overlap path) = 83
code_of (NoPath path) = 84
code_of (Mismatch name found) = 85
code_of (MissingTree name) = 86
code_of (DamagedTree name found) = 87
code_of (BadName path) = 88
code_of (TreeTooLarge what limit) = 89
code_of (StoreFault name) = 90
code_of (Crowded tried) = 91
code_of SpawnFault = 92
code_of SinkFault = 93
code_of Memory = 94
code_of (BadPackages line) = 96
code_of (NotInstalled name) = 97
code_of (Child status) = status

-- The line of how the work ended is told: whole, and that is the outcome; or err fails at a front of it, and that is the outcome
-- all the same; or memory is refused at a front of it, and the outcome is Memory.
abbrev pub Tells : Outcome → Sinking → Sinking → Outcome → Type 0
Tells work before after outcome =
    (Writes before (line_of work) after × (outcome ≡ work))
    ⊎ ((WritesFront before (line_of work) after × (outcome ≡ work)) ⊎ (StopsShort before (line_of work) after × (outcome ≡ Memory)))
