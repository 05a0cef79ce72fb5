-- What sessions that ran one behind the other over a store say of what was due of it: places for temporary entries, and trees.
use Rattle.std.proofs.Common.{◌≡◌, ◌≢◌, ℕ, ◌<◌, ◌⊎◌, inl, inr, Bool, true, false, List, [], ◌∷◌, ◌++◌, get_or, Option, Some, None, IsSome, Err, All, refl, sym, ap, subst, ◌∙◌, if◌then◌else◌, bytes_eq}
use Rattle.std.proofs.lemmas.List.Elements.{All-nil, All-head}
use Rattle.std.specs.Option.{option_map}
use Rattle.zi_text.specs.Count.{Rose}
use Rattle.zi_digest.specs.declared.DigestName.{DigestName}
use Rattle.zi_digest.specs.Name.{spelling, algorithm_of}
use Rattle.zi_tree.specs.Dir.{Dir}
use Rattle.zi_manifest.specs.Manifest.{digest_of}
use Rattle.zi_shelf.specs.Names.{Name}
use Rattle.zi_shelf.specs.Shelved.{Top, Shelved}
use Rattle.zi_shelf.specs.Shelving.{Shelving}
use Rattle.zi_shelf.specs.Told.{Told, tree_at}
use Rattle.zi_session.specs.Alone.{Tops, Ending, added}
use Rattle.zi_session.specs.Phases.{tmp_name}
use Rattle.zi_session.specs.declared.step.Step.{Step}
use Rattle.zi_session.specs.declared.step.Step.TheVariants as step
use Rattle.zi_session.proofs.TiedLemmas.{no_tmp}
use Rattle.zi_universe.proofs.NamingLemmas.{bytes_eq-true, bytes_eq-false, map-append}
use Rattle.zi_adding.specs.declared.adding.AddFault.{AddFault}
use Rattle.zi_adding.specs.declared.adding.AddFault.TheVariants as add
use Rattle.zi_adding.specs.Trying.{Tried, one, IsRight, HasEnded, RunsAlone, RunInTurn, IsDone, CostsAll}
use Rattle.zi_adding.specs.Gains.{Uses}
use Rattle.zi_adding.specs.Answers.{Ends}
use Rattle.zi_adding.proofs.HistoryLaws.{AreDone}
use Rattle.zi_outcome.specs.declared.outcome.Outcome.{Outcome}
use Rattle.zi_outcome.specs.declared.outcome.Outcome.TheVariants.{Done, BadName, Mismatch, Crowded, Memory}
use Rattle.zi_fetching.specs.Outcomes.{unadded}
use Rattle.zi_launching.proofs.OwnLaws.{all_front, all_back}
use Rattle.zi_due.specs.Adding.{AreTaken, IsFree, EndsTree}
use Rattle.zi_due.specs.Laws.{TakenFindsNone}
use Rattle.zi_due.specs.Trees.{or_next}
use Rattle.zi_due.specs.Launching.{tree_in}
use Rattle.zi_due.proofs.CrowdedLemmas.{none_some}
use Rattle.zi_due.proofs.TreesLemmas.{or_none}
use Rattle.zi_due.proofs.TreeEnds.{tree_bad, tree_other, tree_crowded, tree_done}
use Rattle.zi_due.proofs.TurnLemmas.{IsWell, IsOnly, addition, of_tried, adds_of, EndsTried, EndsAddition}

-- One list, and then another.

pub run_parts : (xs ys : List Tried) (s t : Told) → RunInTurn (xs ++ ys) s t → (m : Told) × RunInTurn xs s m × RunInTurn ys m t
run_parts [] ys s t r = (s, refl, r)
run_parts (x ∷ xs) ys s t (mid, first, rest) = let q = run_parts xs ys mid t rest in (q.0, (mid, first, q.1), q.2)

pub done_parts : (xs ys : List Tried) → AreDone xs → AreDone ys → AreDone (xs ++ ys)
done_parts [] ys h k = k
done_parts (x ∷ xs) ys (d, h) k = (d, done_parts xs ys h k)

pub adds_parts : (xs ys : List Tried) → adds_of (xs ++ ys) ≡ adds_of xs ++ adds_of ys
adds_parts xs ys = map-append of_tried xs ys

-- the last of them failed
pub costs_fault : (xs : List Tried) (name : DigestName) (tree : Dir) (tmp : Option ℕ) (before after : Shelving) → CostsAll (xs ++ one name tree (step.Fault tmp)) before after → Rose before.faults after.faults
costs_fault [] name tree tmp before after c = c.0
costs_fault (x ∷ []) name tree tmp before after c = c.0
costs_fault (x ∷ y ∷ xs) name tree tmp before after c = costs_fault (y ∷ xs) name tree tmp before after c

-- Temporary names.

free_by : (name : DigestName) (tree : Dir) (k : ℕ) (answer : Step) (before after : Tops) → (answer ≡ step.Stored) ⊎ (answer ≡ step.Present) → Ending (spelling name) tree before answer after → before (tmp_name k) ≡ None
    → after (tmp_name k) ≡ None
free_by name tree k answer before after (inl e) x free = (subst (λ a. Ending (spelling name) tree before a after) e x).others (tmp_name k) (λ q. no_tmp name k (sym q)) ∙ free
free_by name tree k answer before after (inr e) x free = (subst (λ a. Ending (spelling name) tree before a after) e x).same (tmp_name k) ∙ free

-- one that is free stays so behind sessions that are done
pub free_run : (xs : List Tried) (s t : Told) (k : ℕ) → RunInTurn xs s t → AreDone xs → s.shelf.tops (tmp_name k) ≡ None → t.shelf.tops (tmp_name k) ≡ None
free_run [] s t k e d free = ap (λ (x : Told). x.shelf.tops (tmp_name k)) e ∙ free
free_run (x ∷ xs) s t k (mid, first, rest) (d, ds) free =
    free_run xs mid t k rest ds (free_by x.name x.tree k x.answer s.shelf.tops mid.shelf.tops d first.leaves.tops free)

module _ (law : TakenFindsNone) where
  -- where one is done, they weren't all taken
  untaken : (a : Tried) (s t : Told) → IsDone a → RunsAlone a s t → ¬ AreTaken s
  untaken a s t d r taken = by d
    where
      finds : (a.answer ≢ step.Stored) × (a.answer ≢ step.Present)
      finds = law a.name a.tree s a.answer r.end t taken r.calls

      by : IsDone a → ⊥
      by (inl e) = finds.0 e
      by (inr e) = finds.1 e

  -- so what is due of each that is done is Done
  pub all_well : (xs ys : List Tried) (s t : Told) → AreDone xs → RunInTurn (xs ++ ys) s t → All HasEnded (xs ++ ys) → All (IsWell (EndsTried s)) xs
  all_well [] ys s t d r ended = All-nil (IsWell (EndsTried s))
  all_well (x ∷ xs) ys s t (d, ds) (mid, first, rest) ended =
      let not = untaken x s mid d first in
      λ k a lt o is. sym (tree_done (get_or (x ∷ xs) k a).name s (get_or (x ∷ xs) k a).tree o ((all_front HasEnded (x ∷ xs) ys ended) k a lt).right not is)

-- One that isn't added, behind others that are.

abbrev pub FailsTo : Told → DigestName → Dir → Outcome → Type 0
FailsTo s name tree outcome = (outcome ≡ Memory) ⊎ IsOnly (EndsAddition s) (addition name tree) outcome

module _ (name : DigestName) (tree : Dir) (xs last : List Tried) (s t : Told) (done : AreDone xs) (run : RunInTurn (xs ++ last) s t) (ended : All HasEnded (xs ++ last))
    (never : (tmp : Option ℕ) → last ≡ one name tree (step.Fault tmp) → ⊥) where
  crowded : (number : ℕ) → last ≡ one name tree (step.Crowded number) → IsOnly (EndsAddition s) (addition name tree) (Crowded 10000)
  crowded number e =
      let q = run_parts xs last s t run in
      let one_run : RunInTurn (one name tree (step.Crowded number)) q.0 t = subst (λ ts. RunInTurn ts q.0 t) e q.2 in
      let right : IsRight name tree =
      (All-head HasEnded (record { name = name; tree = tree; answer = step.Crowded number }) [] (subst (All HasEnded) e (all_back HasEnded xs last ended))).right in
      let not : ¬ IsFree s = λ f. none_some (q.0.shelf.tops (tmp_name f.0)) (free_run xs s q.0 f.0 q.1 done f.2) (one_run.1.leaves.tops.1.taken f.0 f.1) in
      (λ o is. sym (tree_crowded name s tree o right not is), λ f. cc f)

  pub unadded_so : (fault : AddFault) → Ends name tree (Err fault) last → FailsTo s name tree (unadded fault)
  unadded_so (add.BadName path) h = inr (λ o is. sym (tree_bad name s tree path o h.1 is), λ f. cc f)
  unadded_so (add.Mismatch wanted found) h =
      inr
      (λ o is. sym (tree_other name s tree o h.1 h.2 is) ∙ ap (λ (w : List ℕ). Mismatch w (spelling (digest_of (algorithm_of name) tree))) (sym h.3) ∙ ap (Mismatch wanted) (sym h.4), λ f. cc f)
  unadded_so (add.Crowded number) h = inr (subst (λ n. IsOnly (EndsAddition s) (addition name tree) (Crowded n)) (sym h.0) (crowded number h.1))
  unadded_so (add.Failed blamed) (tmp, e, is) = absurd (never tmp is)
  unadded_so add.Memory h = inl refl

-- The same of a store that was used so.

-- what is due of adding depends on what the store held alone
ends_same : (name : DigestName) (s f : Told) (tree : Dir) (o : Outcome) → f.shelf ≡ s.shelf → EndsTree name s tree o → EndsTree name f tree o
ends_same name s f tree (BadName path) e h = h
ends_same name s f tree (Mismatch wanted found) e h = h
ends_same name s f tree (Crowded tried) e h = (h.0, h.1, subst (λ (x : Shelved Dir). (k : ℕ) → k < 10000 → IsSome (x.tops (tmp_name k))) (sym e) h.2)
ends_same name s f tree Done e h = (h.0, (h.1.0, h.1.1, ap (λ (x : Shelved Dir). x.tops (tmp_name h.1.0)) e ∙ h.1.2))
ends_same name s f tree other e h = absurd h

fails_same : (name : DigestName) (s f : Told) (tree : Dir) (outcome : Outcome) → f.shelf ≡ s.shelf → FailsTo f name tree outcome → FailsTo s name tree outcome
fails_same name s f tree outcome e (inl m) = inl m
fails_same name s f tree outcome e (inr (only, n)) = inr (λ o is. only o (ends_same name s f tree o e is), n)

module _ (before after : Shelving) (s : Told) (honest : before.honest) (told : before.told ≡ Some s) where
  pub used_well : TakenFindsNone → (xs ys : List Tried) → Uses (xs ++ ys) before after → AreDone xs → All (IsWell (EndsTried s)) xs
  used_well law xs ys u d =
      let w = u.works s honest told in
      λ k a lt o is.
      all_well law xs ys w.2.first w.2.last d w.2.between u.ended k a lt o (ends_same (get_or xs k a).name s w.2.first (get_or xs k a).tree o w.2.before.same is)

  pub used_fails : (name : DigestName) (tree : Dir) (xs last : List Tried) → Uses (xs ++ last) before after → AreDone xs → ((tmp : Option ℕ) → last ≡ one name tree (step.Fault tmp) → ⊥)
      → (fault : AddFault) (outcome : Outcome) → outcome ≡ unadded fault → Ends name tree (Err fault) last → FailsTo s name tree outcome
  used_fails name tree xs last u d never fault outcome e ends =
      let w = u.works s honest told in
      subst (FailsTo s name tree) (sym e)
      (fails_same name s w.2.first tree (unadded fault) w.2.before.same (unadded_so name tree xs last w.2.first w.2.last d w.2.between u.ended never fault ends))

-- Trees.

abbrev at_name : Tops → Name → Option Dir
at_name tops n = option_map (λ (e : Top Dir). e.tree) (tops n)

abbrev tree_if : Bool → Dir → Option Dir → Option Dir
tree_if b tree next = if b then Some tree else next

-- one was stored, or its name was there
module _ (name : DigestName) (tree : Dir) (before after : Tops) (n : Name) (next : Option Dir) where
  abbrev Grows : Bool → Type 0
  Grows b = or_next (at_name after n) next ≡ or_next (at_name before n) (tree_if b (added (spelling name) tree).tree next)

  elsewhere : (b : Bool) → b ≡ false → after n ≡ before n → Grows b
  elsewhere b q e = ap (λ o. or_next (option_map (λ (x : Top Dir). x.tree) o) next) e ∙ ap (λ c. or_next (at_name before n) (tree_if c (added (spelling name) tree).tree next)) (sym q)

  new_there : (b : Bool) → b ≡ true → before n ≡ None → after n ≡ Some (added (spelling name) tree) → Grows b
  new_there b q free there =
      ap (λ o. or_next (option_map (λ (x : Top Dir). x.tree) o) next) there
      ∙ ap (λ c. or_next None (tree_if c (added (spelling name) tree).tree next)) (sym q)
      ∙ ap (λ o. or_next (option_map (λ (x : Top Dir). x.tree) o) (tree_if b (added (spelling name) tree).tree next)) (sym free)

  old_there : (b : Bool) (o : Option (Top Dir)) → before n ≡ o → IsSome o → after n ≡ before n → Grows b
  old_there b None e some same = absurd (cc some)
  old_there b (Some x) e some same =
      ap (λ o. or_next (option_map (λ (x : Top Dir). x.tree) o) next) (same ∙ e)
      ∙ ap (λ o. or_next (option_map (λ (x : Top Dir). x.tree) o) (tree_if b (added (spelling name) tree).tree next)) (sym e)

  grows : (answer : Step) → (answer ≡ step.Stored) ⊎ (answer ≡ step.Present) → Ending (spelling name) tree before answer after → Grows (bytes_eq (spelling name) n)
  grows answer d x = by (bytes_eq (spelling name) n) refl d
    where
      by : (b : Bool) → bytes_eq (spelling name) n ≡ b → (answer ≡ step.Stored) ⊎ (answer ≡ step.Present) → Grows (bytes_eq (spelling name) n)
      by true q (inl e) =
          let adds = subst (λ a. Ending (spelling name) tree before a after) e x in
          let same : spelling name ≡ n = bytes_eq-true (spelling name) n q in
          new_there (bytes_eq (spelling name) n) q (subst (λ m. before m ≡ None) same adds.free) (subst (λ m. after m ≡ Some (added (spelling name) tree)) same adds.there)
      by true q (inr e) =
          let finds = subst (λ a. Ending (spelling name) tree before a after) e x in
          let same : spelling name ≡ n = bytes_eq-true (spelling name) n q in
          old_there (bytes_eq (spelling name) n) (before n) refl (subst (λ m. IsSome (before m)) same finds.there) (finds.same n)
      by false q (inl e) =
          let adds = subst (λ a. Ending (spelling name) tree before a after) e x in
          elsewhere (bytes_eq (spelling name) n) q (adds.others n (λ f. bytes_eq-false (spelling name) n q (sym f)))
      by false q (inr e) =
          let finds = subst (λ a. Ending (spelling name) tree before a after) e x in
          elsewhere (bytes_eq (spelling name) n) q (finds.same n)

-- what stands under a name behind them: what stood there, or what was added
pub run_tree : (xs : List Tried) (s t : Told) (n : Name) → RunInTurn xs s t → AreDone xs → tree_at t n ≡ or_next (tree_at s n) (tree_in (adds_of xs) n)
run_tree [] s t n e d = ap (λ (x : Told). tree_at x n) e ∙ sym (or_none (tree_at s n))
run_tree (x ∷ xs) s t n (mid, first, rest) (d, ds) =
    run_tree xs mid t n rest ds ∙ grows x.name x.tree s.shelf.tops mid.shelf.tops n (tree_in (adds_of xs) n) x.answer d first.leaves.tops

pub used_tree : (xs : List Tried) (before after : Shelving) (s : Told) (n : Name) → before.honest → before.told ≡ Some s → Uses xs before after → AreDone xs
    → (t : Told) × (after.told ≡ Some t) × (tree_at t n ≡ or_next (tree_at s n) (tree_in (adds_of xs) n))
used_tree xs before after s n honest told u d =
    let w = u.works s honest told in
    let first : tree_at w.2.first n ≡ tree_at s n = ap (λ (h : Shelved Dir). at_name h.tops n) w.2.before.same in
    let last : tree_at w.0 n ≡ tree_at w.2.last n = ap (λ (h : Shelved Dir). at_name h.tops n) w.2.behind.same in
    (w.0, w.1, last ∙ run_tree xs w.2.first w.2.last n w.2.between d ∙ ap (λ o. or_next o (tree_in (adds_of xs) n)) first)
