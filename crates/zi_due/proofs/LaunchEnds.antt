-- `launch` ends as is due.
use Rattle.std.proofs.Common.{◌≡◌, ℕ, ◌<◌, ◌≤◌, inl, inr, List, [], ◌∷◌, length, Some, None, Result, Ok, Err, refl, sym, ap, subst, ◌∙◌}
use Rattle.std.specs.Prelude.{IfSome, IsSomeAnd}
use Rattle.zi_digest.specs.declared.DigestName.{DigestName}
use Rattle.zi_outside.specs.declared.var.Var.{Var}
use Rattle.zi_outside.specs.Views.{holding}
use Rattle.zi_shelf.specs.Shelving.{Shelving}
use Rattle.zi_shelf.specs.Told.{Told}
use Rattle.zi_store.specs.Stores.{Each, HaveNames}
use Rattle.zi_sels.specs.declared.types.Selections.{Selections}
use Rattle.zi_sels.specs.declared.fault.SelsFault.{SelsFault}
use Rattle.zi_sels.specs.Reading.{Says, HasFault, IsSettled}
use Rattle.zi_plan.specs.Laws.{PlanIsOne, ShimsAreOne}
use Rattle.zi_outcome.specs.declared.outcome.Outcome.{Outcome}
use Rattle.zi_outcome.specs.declared.outcome.Outcome.TheVariants.{FeedRead, FeedTooLong, NoFile, BadSels, StoreFault, Memory}
use Rattle.zi_opening.specs.Opening.{document_limit, GetsNot, GetsSelections}
use Rattle.zi_world.specs.Places.{AreTold}
use Rattle.zi_world.specs.StoreRead.{StopsAt}
use Rattle.zi_world.specs.Surroundings.{Surroundings}
use Rattle.zi_choosing.specs.Knowing.{all_names}
use Rattle.zi_fetching.specs.Known.{names_of}
use Rattle.zi_launching.specs.Launching.{Task, launching, LaunchesOver}
use Rattle.zi_launching.specs.Opening.{stores_of, LaunchesRead, LaunchesTo, LaunchesFile}
use Rattle.zi_due.specs.Due.{End}
use Rattle.zi_due.specs.Held.{Held, AreHeld, StandsStill, NoneFailed}
use Rattle.zi_due.specs.Files.{got}
use Rattle.zi_due.specs.Laws.{TakenFindsNone}
use Rattle.zi_due.specs.Launching.{EndsStart, SelsThen, EndsSels, EndsLaunch}
use Rattle.zi_due.proofs.PlainLemmas.{never_fails}
use Rattle.zi_due.proofs.FilesLemmas.{held_got, large_got}
use Rattle.zi_due.proofs.NamesLemmas.{names_same}
use Rattle.zi_due.proofs.StartEnds.{HasEndedSo, comes_so, over_ends}

-- the names in the stores weren't found out, which is for want of memory
pub stopped_so : (end : End) (before after : List Shelving) (outcome : Outcome) → Each StandsStill before after → StopsAt [] before after outcome → HasEndedSo end outcome
stopped_so end before after (StoreFault name) still s = absurd (never_fails before after still s.1)
stopped_so end before after Memory still s = inr refl
stopped_so end before after other still s = absurd s

module _ (plans : PlanIsOne) (words : ShimsAreOne) (law : TakenFindsNone) (one : (bytes : List ℕ) → IsSettled bytes) (file : List ℕ) (vars : List Var) (user : List (List ℕ)) (before after : Surroundings) (held : Held)
    (are : AreHeld before held) (none : NoneFailed before after) (end : End) (h : EndsLaunch file vars user held end) where
  by_got : (r : Result (List ℕ) Outcome) → got document_limit file (held.feeds file) ≡ r → SelsThen (EndsSels vars user held) r end
  by_got r e = subst (λ q. SelsThen (EndsSels vars user held) q end) e h

  got_bytes : (bytes : List ℕ) → length bytes ≤ document_limit → IfSome (holding before.feeds) (λ holds. holds file ≡ Some bytes) → SelsThen (EndsSels vars user held) (Ok bytes) end
  got_bytes bytes small is =
      by_got (Ok bytes) (held_got document_limit file (held.feeds file) bytes (subst (λ o. IfSome o (λ holds. holds file ≡ Some bytes)) are.feeds is) small)

  -- the document isn't got, or isn't one
  bad_so : (bytes : List ℕ) (fault : SelsFault) → HasFault bytes fault → SelsThen (EndsSels vars user held) (Ok bytes) end → HasEndedSo end (BadSels fault)
  bad_so bytes fault has (inl (other, is, e)) = comes_so end (BadSels other) (BadSels fault) e (ap BadSels ((one bytes).fault fault other has is))
  bad_so bytes fault has (inr (sels, says, is)) = absurd ((one bytes).apart sels fault says has)

  not_got : (outcome : Outcome) → GetsNot file before.feeds outcome after.feeds → HasEndedSo end outcome
  not_got (FeedRead uri) g = absurd (none.feeds g.2)
  not_got (NoFile name) g =
      comes_so end (NoFile file) (NoFile name)
      (by_got (Err (NoFile file)) (ap (got document_limit file) (subst (λ o. IfSome o (λ holds. holds file ≡ None)) are.feeds g.2))) (ap NoFile g.0)
  not_got (FeedTooLong uri limit) g =
      comes_so end (FeedTooLong file document_limit) (FeedTooLong uri limit)
      (by_got (Err (FeedTooLong file document_limit))
      (large_got document_limit file (held.feeds file) (subst (λ o. IfSome o (λ holds. IsSomeAnd (holds file) (λ bytes. document_limit < length bytes))) are.feeds g.3)))
      (ap (λ u. FeedTooLong u limit) g.0 ∙ ap (FeedTooLong file) g.2)
  not_got (BadSels fault) (bytes, gets, has) = bad_so bytes fault has (got_bytes bytes gets.small gets.held)
  not_got Memory g = inr refl
  not_got other g = absurd g

  -- it is
  sels_so : (bytes : List ℕ) (sels : Selections) → Says bytes sels → SelsThen (EndsSels vars user held) (Ok bytes) end → EndsSels vars user held sels end
  sels_so bytes sels says (inl (fault, has, e)) = absurd ((one bytes).apart sels fault says has)
  sels_so bytes sels says (inr (other, tells, is)) = subst (λ x. EndsSels vars user held x end) ((one bytes).value other sels tells says) is

  got_sels : (sels : Selections) → GetsSelections file before.feeds (Ok sels) after.feeds → EndsSels vars user held sels end
  got_sels sels (bytes, gets, says) = sels_so bytes sels says (got_bytes bytes gets.small gets.held)

  module _ (outcome : Outcome) (l : LaunchesFile file vars user before after outcome) where
    over : (sels : Selections) (each : List (List DigestName)) → HaveNames (stores_of before) each → EndsSels vars user held sels end
        → LaunchesOver (record { sels = sels; each = each; stored = names_of (all_names each); vars = vars; user = user }) l.tried (launching before) (launching after) outcome → HasEndedSo end outcome
    over sels each have (others, names, start) o = by held.stores refl
      where
        by : (stores : List Told) → held.stores ≡ stores → HasEndedSo end outcome
        by [] e = absurd (subst (AreTold (stores_of before)) e are.stores)
        by (s ∷ ss) e =
            let told = subst (AreTold (stores_of before)) e are.stores in
            let same : others ≡ each = sym (names_same (stores_of before) held.stores each others are.stores have names) in
            let task : List (List DigestName) → Task = λ ns. record { sels = sels; each = ns; stored = names_of (all_names ns); vars = vars; user = user } in
            over_ends plans words law (task each) before.shelf after.shelf before.others after.others s ss told.0 told.1 told.2 held.roots are.roots [] l.tried tt l.shelf l.others none.stores end
            (subst (λ ns. EndsStart (task ns) held.roots (s ∷ ss) [] end) same (subst (λ x. EndsStart (task others) held.roots x [] end) e start))
            before.spawner after.spawner outcome none.spawner o

    read : (sels : Selections) → EndsSels vars user held sels end → LaunchesRead sels vars user l.tried before after outcome → HasEndedSo end outcome
    read sels is (inl (fresh, named, keeps, nothing)) = stopped_so end (stores_of before) (stores_of after) outcome none.stores named
    read sels is (inr (each, have, o)) = over sels each have is o

    comes : LaunchesTo file vars user l.tried before after outcome → HasEndedSo end outcome
    comes (inl (fresh, gets, leaves)) = not_got outcome gets
    comes (inr (sels, gets, r)) = read sels (got_sels sels gets) r

  pub launch_ends : (outcome : Outcome) → LaunchesFile file vars user before after outcome → HasEndedSo end outcome
  launch_ends outcome l = comes outcome l l.comes
