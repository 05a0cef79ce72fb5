-- `store add` ends as is due.
use Rattle.std.proofs.Common.{◌≡◌, ℕ, ◌<◌, ◌≤◌, ◌⊎◌, inl, inr, true, List, [], ◌∷◌, take, length, map, sum, Option, Some, None, Result, Ok, Err, refl, sym, ap, subst, ◌∙◌, arith}
use Rattle.std.specs.Prelude.{IfSome, IsSomeAnd, All}
use Rattle.std.proofs.lemmas.List.Elements.{All-head}
use Rattle.zi_text.specs.Count.{Rose}
use Rattle.zi_digest.specs.declared.DigestName.{DigestName}
use Rattle.zi_digest.specs.Name.{spelling, algorithm_of}
use Rattle.zi_outside.specs.Views.{Holding, Feeding, holding}
use Rattle.zi_tree.specs.Dir.{Dir}
use Rattle.zi_tree.specs.Limits.{nodes_limit, size_limit}
use Rattle.zi_tree.specs.declared.change.TreeLimit.TheVariants.{Size, Nodes, Depth}
use Rattle.zi_manifest.specs.Manifest.{digest_of}
use Rattle.zi_shelf.specs.Shelving.{Shelving}
use Rattle.zi_shelf.specs.Told.{Told}
use Rattle.zi_session.specs.declared.step.Step.{Step}
use Rattle.zi_session.specs.declared.step.Step.TheVariants as step
use Rattle.zi_adding.specs.declared.adding.Added.{Added}
use Rattle.zi_adding.specs.declared.adding.Added.TheVariants as added
use Rattle.zi_adding.specs.declared.adding.AddFault.TheVariants as fault
use Rattle.zi_adding.specs.Trying.{Tried, one, IsRight, HasEnded, RunsAlone, Adds}
use Rattle.zi_words.specs.Forms.{Word}
use Rattle.zi_outcome.specs.declared.outcome.Outcome.{Outcome}
use Rattle.zi_outcome.specs.declared.outcome.Outcome.TheVariants.{Done, FeedRead, NoFile, FeedTooLong, Overlap, TreeTooLarge, BadName, Mismatch, Crowded, StoreFault, SinkFault, Memory}
use Rattle.zi_world.specs.World.{World, all_stores}
use Rattle.zi_world.specs.Places.{AreTold}
use Rattle.zi_storing.specs.Gathering.{file_limit, are_apart, AreParts, IsFirstTwice, Gathers, Reaches}
use Rattle.zi_storing.specs.Adding.{lent, AddsGathered, AddsTo, AddsFiles}
use Rattle.zi_due.specs.Due.{plainly, Ends}
use Rattle.zi_due.specs.Files.{got}
use Rattle.zi_due.specs.Adding.{all_got, names_of, IsTreeOf, AreTaken, EndsTree, EndsFiles, OfGot, EndsAdd}
use Rattle.zi_due.specs.Laws.{TakenFindsNone}
use Rattle.zi_due.proofs.PlainLemmas.{memory_ends, same_ends, clash}
use Rattle.zi_due.proofs.FilesLemmas.{large_got}
use Rattle.zi_due.proofs.TreeEnds.{taken_not_free, tree_bad, tree_other, tree_crowded, tree_done}
use Rattle.zi_due.proofs.GatheringLemmas.{parts_so, stops_so, never_twice, twice_one}
use Rattle.zi_due.proofs.KnowingEnds.{IsQuietAll}

-- what is due of files

gathered_due : (name : DigestName) (s : Told) (files : List Word) (all : List (List ℕ)) (tree : Dir) (due : Outcome) → are_apart (names_of files) ≡ true → sum (map length all) ≤ size_limit
    → length files ≤ nodes_limit → IsTreeOf (names_of files) all tree → EndsFiles name s files all due → EndsTree name s tree due
gathered_due name s files all tree (Overlap path) a z f t h = absurd (never_twice (names_of files) path a h)
gathered_due name s files all tree (TreeTooLarge Size limit) a z f t h = absurd (clash size_limit (sum (map length all)) h.2 z)
gathered_due name s files all tree (TreeTooLarge Nodes limit) a z f t h = absurd (clash nodes_limit (length files) h.3 f)
gathered_due name s files all tree other a z f t h = h.3 tree t

twice_due : (name : DigestName) (s : Told) (files : List Word) (all : List (List ℕ)) (path : List ℕ) (due : Outcome) → IsFirstTwice (names_of files) path → EndsFiles name s files all due
    → Overlap path ≡ due
twice_due name s files all path (Overlap other) t h = ap Overlap (twice_one (names_of files) path other t h)
twice_due name s files all path (TreeTooLarge Size limit) t h = absurd (never_twice (names_of files) path h.0 t)
twice_due name s files all path (TreeTooLarge Nodes limit) t h = absurd (never_twice (names_of files) path h.0 t)
twice_due name s files all path other t h = absurd (never_twice (names_of files) path h.0 t)

size_due : (name : DigestName) (s : Told) (files : List Word) (all : List (List ℕ)) (due : Outcome) → are_apart (names_of files) ≡ true → size_limit < sum (map length all)
    → EndsFiles name s files all due → TreeTooLarge Size size_limit ≡ due
size_due name s files all (Overlap path) a z h = absurd (never_twice (names_of files) path a h)
size_due name s files all (TreeTooLarge Size limit) a z h = ap (TreeTooLarge Size) (sym h.1)
size_due name s files all (TreeTooLarge Nodes limit) a z h = absurd (clash size_limit (sum (map length all)) z h.1)
size_due name s files all other a z h = absurd (clash size_limit (sum (map length all)) z h.1)

nodes_due : (name : DigestName) (s : Told) (files : List Word) (all : List (List ℕ)) (due : Outcome) → are_apart (names_of files) ≡ true → sum (map length all) ≤ size_limit
    → nodes_limit < length files → EndsFiles name s files all due → TreeTooLarge Nodes nodes_limit ≡ due
nodes_due name s files all (Overlap path) a z f h = absurd (never_twice (names_of files) path a h)
nodes_due name s files all (TreeTooLarge Size limit) a z f h = absurd (clash size_limit (sum (map length all)) h.2 z)
nodes_due name s files all (TreeTooLarge Nodes limit) a z f h = ap (TreeTooLarge Nodes) (sym h.2)
nodes_due name s files all other a z f h = absurd (clash nodes_limit (length files) f h.2)

-- what a session that was tried alone says

tried_right : (name : DigestName) (tree : Dir) (answer : Step) (tried : List Tried) → tried ≡ one name tree answer → All HasEnded tried → IsRight name tree
tried_right name tree answer tried e ended =
    let a : All HasEnded (one name tree answer) = subst (All HasEnded) e ended in
    (All-head HasEnded (record { name = name; tree = tree; answer = answer }) [] a).right

tried_alone : (name : DigestName) (tree : Dir) (answer : Step) (tried : List Tried) (before after : Shelving) (s : Told) → tried ≡ one name tree answer → Adds tried before after → before.honest → before.told ≡ Some s
    → (mid : Told) × RunsAlone (record { name = name; tree = tree; answer = answer }) s mid
tried_alone name tree answer tried before after s e adds honest told =
    let a : Adds (one name tree answer) before after = subst (λ t. Adds t before after) e adds in
    let r = (a.alone s honest told).2 in
    (r.0, r.1)

module _ (law : TakenFindsNone) (name : DigestName) (files : List Word) (before after : World) (holds : Holding) (s : Told) (honest : before.shelf.honest) (told : before.shelf.told ≡ Some s)
    (feeds : holding before.feeds ≡ Some holds) (quiet : IsQuietAll before after) (tried : List Tried) (adds : Adds tried before.shelf after.shelf) (due : Outcome)
    (h : OfGot (λ all o. EndsFiles name s files all o) (all_got holds files) due) where
  -- where the files aren't got
  not_got : (why : Outcome) → all_got holds files ≡ Err why → Ends (plainly due) why
  not_got why e = same_ends why due (sym (subst (λ r. OfGot (λ all o. EndsFiles name s files all o) r due) e h))

  reaches : (file : Word) (why : Outcome) → Reaches files before.feeds after.feeds file → got file_limit file (holds file) ≡ Err why → Ends (plainly due) why
  reaches file why r e =
      not_got why (stops_so holds files r.place file r.parts why r.here (subst (λ o. AreParts o (take r.place files) r.parts) feeds r.got) e)

  -- where they are
  all_due : (all : List (List ℕ)) → all_got holds files ≡ Ok all → EndsFiles name s files all due
  all_due all e = subst (λ r. OfGot (λ all o. EndsFiles name s files all o) r due) e h

  tree_due : (tree : Dir) → Gathers files before.feeds after.feeds tree → EndsTree name s tree due
  tree_due tree g =
      let r = parts_so holds files g.parts (subst (λ o. AreParts o files g.parts) feeds g.got.are) in
      gathered_due name s files r.0 tree due (subst (λ ns. are_apart ns ≡ true) r.2 g.apart) (subst (λ ns. sum ns ≤ size_limit) r.3 g.small) g.few
      (record { whole = g.tree.whole; holds = λ n. g.tree.holds n ∙ r.4 n }) (all_due r.0 r.1)

  never_taken : (tree : Dir) (answer : Step) → tried ≡ one name tree answer → (answer ≡ step.Stored) ⊎ (answer ≡ step.Present) → ¬ AreTaken s
  never_taken tree answer e is taken =
      let r = (tried_alone name tree answer tried before.shelf after.shelf s e adds honest told).1 in
      let found = law name tree s answer r.end _ taken r.calls in
      elim is [ inl f ↦ found.0 f | inr f ↦ found.1 f ]

  added_ends : (a : Added) (tree : Dir) → Gathers files before.feeds after.feeds tree → (answer : Step) → tried ≡ one name tree answer → (answer ≡ step.Stored) ⊎ (answer ≡ step.Present)
      → Ends (plainly due) Done
  added_ends a tree g answer e is =
      same_ends Done due (tree_done name s tree due (tried_right name tree answer tried e adds.ended) (never_taken tree answer e is) (tree_due tree g))

  done_ends : (a : Added) → AddsGathered name files tried before.feeds after.feeds (Ok a) → Ends (plainly due) Done
  done_ends added.Stored g = added_ends added.Stored g.tree g.gathers step.Stored g.ends (inl refl)
  done_ends added.Present g = added_ends added.Present g.tree g.gathers step.Present g.ends (inr refl)

  fault_ends : (tmp : Option ℕ) (tree : Dir) (blamed : List ℕ) → tried ≡ one name tree (step.Fault tmp) → Ends (plainly due) (StoreFault blamed)
  fault_ends tmp tree blamed e =
      let a : Adds (one name tree (step.Fault tmp)) before.shelf after.shelf = subst (λ t. Adds t before.shelf after.shelf) e adds in
      absurd (quiet.world.stores.0 a.cost.0)

  adds_ends : (outcome : Outcome) → AddsTo name files tried (lent before) (lent after) outcome → Ends (plainly due) outcome
  adds_ends Done c = done_ends c.0 c.1
  adds_ends (FeedRead uri) c = absurd (quiet.feeds c.0.1)
  adds_ends (NoFile file) c =
      let absent = c.0 in
      reaches file (NoFile file) absent.0 (ap (got file_limit file) (subst (λ o. IfSome o (λ h. h file ≡ None)) feeds absent.2))
  adds_ends (FeedTooLong uri limit) c =
      let long = c.0 in
      let e : got file_limit uri (holds uri) ≡ Err (FeedTooLong uri file_limit) =
      large_got file_limit uri (holds uri) (subst (λ o. IfSome o (λ h. IsSomeAnd (h uri) (λ bytes. file_limit < length bytes))) feeds long.3) in
      subst (λ n. Ends (plainly due) (FeedTooLong uri n)) (sym long.2) (reaches uri (FeedTooLong uri file_limit) long.0 e)
  adds_ends (Overlap path) c =
      let twice = c.0 in
      let r = parts_so holds files twice.0 (subst (λ o. AreParts o files twice.0) feeds twice.1.are) in
      same_ends (Overlap path) due (twice_due name s files r.0 path due (subst (λ ns. IsFirstTwice ns path) r.2 twice.2) (all_due r.0 r.1))
  adds_ends (TreeTooLarge Size limit) c =
      let large = c.0 in
      let r = parts_so holds files large.0 (subst (λ o. AreParts o files large.0) feeds large.1.are) in
      same_ends (TreeTooLarge Size limit) due
      (ap (TreeTooLarge Size) large.3
      ∙ size_due name s files r.0 due (subst (λ ns. are_apart ns ≡ true) r.2 large.2) (subst (λ ns. size_limit < sum ns) r.3 large.4) (all_due r.0 r.1))
  adds_ends (TreeTooLarge Nodes limit) c =
      let large = c.0 in
      let r = parts_so holds files large.0 (subst (λ o. AreParts o files large.0) feeds large.1.are) in
      same_ends (TreeTooLarge Nodes limit) due
      (ap (TreeTooLarge Nodes) large.4
      ∙ nodes_due name s files r.0 due (subst (λ ns. are_apart ns ≡ true) r.2 large.2) (subst (λ ns. sum ns ≤ size_limit) r.3 large.3) large.5 (all_due r.0 r.1))
  adds_ends (TreeTooLarge Depth limit) c = absurd c.0
  adds_ends (BadName path) c =
      let g = c.0 in
      same_ends (BadName path) due (tree_bad name s g.tree path due g.ends.1 (tree_due g.tree g.gathers))
  adds_ends (Mismatch wanted found) c =
      let g = c.0 in
      let e : Mismatch wanted found ≡ Mismatch (spelling name) (spelling (digest_of (algorithm_of name) g.tree)) =
      ap (λ w. Mismatch w found) g.ends.3 ∙ ap (Mismatch (spelling name)) g.ends.4 in
      same_ends (Mismatch wanted found) due (e ∙ tree_other name s g.tree due g.ends.1 g.ends.2 (tree_due g.tree g.gathers))
  adds_ends (Crowded number) c =
      let g = c.0 in
      let r = (tried_alone name g.tree (step.Crowded number) tried before.shelf after.shelf s g.ends.1 adds honest told).1 in
      let taken : AreTaken s = r.leaves.tops.1.taken in
      same_ends (Crowded number) due
      (ap Crowded g.ends.0 ∙ tree_crowded name s g.tree due (tried_right name g.tree (step.Crowded number) tried g.ends.1 adds.ended) (taken_not_free s taken) (tree_due g.tree g.gathers))
  adds_ends (StoreFault blamed) c = let g = c.0 in fault_ends g.ends.0 g.tree blamed g.ends.2
  adds_ends SinkFault c = absurd (quiet.world.out c.2.failed)
  adds_ends Memory c = memory_ends (plainly due)
  adds_ends other c = absurd c

pub add_command : TakenFindsNone → (name : DigestName) (files : List Word) (before after : World) (holds : Holding) (held : List Told) (outcome due : Outcome) → AreTold (all_stores before) held
    → holding before.feeds ≡ Some holds → IsQuietAll before after → EndsAdd name files holds held due → AddsFiles name files before after outcome → Ends (plainly due) outcome
add_command law name files before after holds [] outcome due told feeds quiet h a = absurd told
add_command law name files before after holds (s ∷ ss) outcome due told feeds quiet h a =
    adds_ends law name files before after holds s told.0 told.1 feeds quiet a.tried a.shelf due h outcome a.comes
