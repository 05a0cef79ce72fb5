-- Where the web tells what it holds there is one answer.
use Rattle.std.proofs.Common.{◌≡◌, ℕ, zero, suc, ◌+◌, ◌≤◌, inl, inr, min, Bool, true, false, List, [], ◌∷◌, ◌++◌, length, take, drop, Option, Some, None, refl, sym, ap, subst, ◌∙◌, arith}
use Rattle.std.specs.Prelude.{Ok, Err, slice_get, IsSome, IsSomeAnd, ◌≢◌, nat_lt, ◌==◌}
use Rattle.std.proofs.lemmas.Bool.Decides.{nat_tests}
use Rattle.std.proofs.lemmas.List.{append-nil}
use Rattle.zi_tree.specs.Dir.{Dir, Nothing}
use Rattle.zi_tree.specs.Paths.{found, inserted, removed}
use Rattle.zi_tree.specs.declared.tree.TreeNode.{TreeNode}
use Rattle.zi_tree.specs.declared.change.TreeLimit.TheVariants.{Size}
use Rattle.zi_outside.specs.Views.{Holding, Feeding, holding}
use Rattle.zi_parts.specs.declared.types.Method.{Method}
use Rattle.zi_parts.specs.declared.types.Step.{Step}
use Rattle.zi_parts.specs.declared.types.Step.TheVariants.{File, Rename, Remove}
use Rattle.zi_recipe.specs.declared.fault.RecipeFault.{RecipeFault}
use Rattle.zi_recipe.specs.declared.fault.RecipeFault.TheVariants as fault
use Rattle.zi_tree.specs.Limits.{size_limit}
use Rattle.zi_recipe.specs.Limits.{said_size, passed, Passes}
use Rattle.zi_recipe.specs.Steps.{path_text, file, Does, DoesAll, GetFails, Overlaps, Lacks, Fails}
use Rattle.zi_recipe.specs.Asking.{StopsAt}
use Rattle.zi_recipe.specs.Making.{Makes, Refuses}
use Rattle.zi_recipe.specs.Made.{Trial, with_node, with_file, moved, without, after_step, then_steps, after_steps, unless_passed, made, IsFirstFault, AnswersMade}

module _ (holds : Holding) where
  -- a step that is done
  step_done : (d : Dir) (s : Step) (new : Dir) → Does (Some holds) d s new → after_step holds d s ≡ Ok new
  step_done d (File href size dest exec) new p =
      let same : (length p.bytes == size) ≡ true = grind (arith, nat_tests, p.gives.whole) in
      ap (with_file href size dest exec d) p.gives.held ∙ rw (same, p.placed) refl
  step_done d (Rename source dest) new m = ap (moved source dest d) m.there ∙ ap (with_node dest) m.placed
  step_done d (Remove path) new r = by (found path d) r.0 ∙ ap Ok (sym r.1)
    where
      by : (o : Option TreeNode) → IsSome o → without path d o ≡ Ok (removed path d)
      by None h = absurd (cc h)
      by (Some x) h = refl

  -- steps that are done, and what comes then
  steps_done : (ss rest : List Step) (d mid : Dir) → DoesAll (Some holds) d ss mid → after_steps holds (ss ++ rest) d ≡ after_steps holds rest mid
  steps_done [] rest d mid all = ap (after_steps holds rest) (sym all)
  steps_done (s ∷ ss) rest d mid all = ap (λ r. then_steps r (after_steps holds (ss ++ rest))) (step_done d s all.0 all.1) ∙ steps_done ss rest all.0 mid all.2

-- a fault that is carried on
then_fault : (trial : Trial) (f : Dir → Trial) (e : RecipeFault) → IsFirstFault trial e → IsFirstFault (then_steps trial f) e
then_fault trial f (fault.FetchRead href) h = tt
then_fault trial f (fault.NoRemote href) h = ap (λ r. then_steps r f) h
then_fault trial f (fault.WrongSize href said got) h = ap (λ r. then_steps r f) h
then_fault trial f (fault.Overlap path) h = ap (λ r. then_steps r f) h
then_fault trial f (fault.NoPath path) h = ap (λ r. then_steps r f) h
then_fault trial f (fault.TooLarge what limit) h = ap (λ r. then_steps r f) h
then_fault trial f fault.Memory h = tt

overlapping : (dest : List (List ℕ)) (o : Option Dir) (e : RecipeFault) → Overlaps dest o e → IsFirstFault (with_node dest o) e
overlapping dest o (fault.FetchRead href) h = absurd h
overlapping dest o (fault.NoRemote href) h = absurd h
overlapping dest o (fault.WrongSize href said got) h = absurd h
overlapping dest o (fault.Overlap path) h = ap (with_node dest) h.1 ∙ ap (λ p. Err (fault.Overlap p)) (sym h.0)
overlapping dest o (fault.NoPath path) h = absurd h
overlapping dest o (fault.TooLarge what limit) h = absurd h
overlapping dest o fault.Memory h = tt

-- nothing there, with what is then answered
lacking : (path : List (List ℕ)) (d : Dir) (f : Option TreeNode → Trial) (e : RecipeFault) → f None ≡ Err (fault.NoPath (path_text path)) → Lacks path d e → IsFirstFault (f (found path d)) e
lacking path d f (fault.FetchRead href) is h = absurd h
lacking path d f (fault.NoRemote href) is h = absurd h
lacking path d f (fault.WrongSize href said got) is h = absurd h
lacking path d f (fault.Overlap p) is h = absurd h
lacking path d f (fault.NoPath p) is h = ap f h.1 ∙ is ∙ ap (λ q. Err (fault.NoPath q)) (sym h.0)
lacking path d f (fault.TooLarge what limit) is h = absurd h
lacking path d f fault.Memory is h = tt

wrong_size : (href : List ℕ) (size got : ℕ) (dest : List (List ℕ)) (exec : Bool) (d : Dir) (o : Option (List ℕ)) → got ≢ size
    → IsSomeAnd o (λ bytes. got ≡ min (length bytes) (size + 1)) → with_file href size dest exec d o ≡ Err (fault.WrongSize href size got)
wrong_size href size got dest exec d None other is = absurd is
wrong_size href size got dest exec d (Some bytes) other is =
    let differ : length bytes ≢ size = λ e. other (omega arith) in
    let same : (length bytes == size) ≡ false = grind (arith, nat_tests, differ) in
    rw same (ap (λ n. Err (fault.WrongSize href size n)) (sym is))

module _ (holds : Holding) where
  get_fails : (href : List ℕ) (size : ℕ) (dest : List (List ℕ)) (exec : Bool) (d : Dir) (e : RecipeFault) → GetFails (Some holds) href size e → IsFirstFault (with_file href size dest exec d (holds href)) e
  get_fails href size dest exec d (fault.FetchRead h) g = tt
  get_fails href size dest exec d (fault.NoRemote h) g = ap (with_file href size dest exec d) g.1 ∙ ap (λ x. Err (fault.NoRemote x)) (sym g.0)
  get_fails href size dest exec d (fault.WrongSize h said got) g =
      wrong_size href size got dest exec d (holds href) g.2 g.3 ∙ ap (λ x. Err (fault.WrongSize x size got)) (sym g.0) ∙ ap (λ n. Err (fault.WrongSize h n got)) (sym g.1)
  get_fails href size dest exec d (fault.Overlap path) g = absurd g
  get_fails href size dest exec d (fault.NoPath path) g = absurd g
  get_fails href size dest exec d (fault.TooLarge what limit) g = absurd g
  get_fails href size dest exec d fault.Memory g = tt

  -- a step that isn't done
  step_fails : (d : Dir) (s : Step) (e : RecipeFault) → Fails (Some holds) d s e → IsFirstFault (after_step holds d s) e
  step_fails d (File href size dest exec) e (inl g) = get_fails href size dest exec d e g
  step_fails d (File href size dest exec) e (inr h) =
      let same : (length h.bytes == size) ≡ true = grind (arith, nat_tests, h.gives.whole) in
      let is : with_file href size dest exec d (holds href) ≡ with_node dest (inserted dest (file h.bytes exec) d) = ap (with_file href size dest exec d) h.gives.held ∙ rw same refl in
      subst (λ r. IsFirstFault r e) (sym is) (overlapping dest (inserted dest (file h.bytes exec) d) e h.overlaps)
  step_fails d (Rename source dest) e (inl l) = lacking source d (moved source dest d) e refl l
  step_fails d (Rename source dest) e (inr h) =
      subst (λ r. IsFirstFault r e) (sym (ap (moved source dest d) h.there)) (overlapping dest (inserted dest h.moved (removed source d)) e h.overlaps)
  step_fails d (Remove path) e l = lacking path d (without path d) e refl l

  -- the steps up to it, and what is left
  split_at : (ss : List Step) (n : ℕ) (s : Step) → slice_get ss n ≡ Some s → ss ≡ take n ss ++ s ∷ drop (suc n) ss
  split_at [] n s e = absurd (cc e)
  split_at (x ∷ xs) zero s e = ap (λ y. y ∷ xs) (cc e)
  split_at (x ∷ xs) (suc n) s e = ap (λ l. x ∷ l) (split_at xs n s e)

  stopped : (ss : List Step) (old new : Feeding) (e : RecipeFault) → holding old ≡ Some holds → StopsAt ss old e new → IsFirstFault (after_steps holds ss Nothing) e
  stopped ss old new e told s =
      let rest = drop (suc s.n) ss in
      let done : DoesAll (Some holds) Nothing (take s.n ss) s.tree = subst (λ o. DoesAll o Nothing (take s.n ss) s.tree) told s.done in
      let fails : Fails (Some holds) s.tree s.step e = subst (λ o. Fails o s.tree s.step e) told s.fails in
      let is : after_steps holds ss Nothing ≡ then_steps (after_step holds s.tree s.step) (after_steps holds rest) =
      ap (λ l. after_steps holds l Nothing) (split_at ss s.n s.step s.next) ∙ steps_done holds (take s.n ss) (s.step ∷ rest) Nothing s.tree done in
      subst (λ r. IsFirstFault r e) (sym is) (then_fault (after_step holds s.tree s.step) (after_steps holds rest) e (step_fails s.tree s.step e fails))

  all_done : (ss : List Step) (old : Feeding) (t : Dir) → holding old ≡ Some holds → DoesAll (holding old) Nothing ss t → after_steps holds ss Nothing ≡ Ok t
  all_done ss old t told all =
      ap (λ l. after_steps holds l Nothing) (sym (append-nil ss)) ∙ steps_done holds ss [] Nothing t (subst (λ o. DoesAll o Nothing ss t) told all)

  -- the sizes are small
  small_made : (m : Method) → said_size m.steps ≤ size_limit → made holds m ≡ then_steps (after_steps holds m.steps Nothing) (λ d. unless_passed (passed d) d)
  small_made m le =
      let small : nat_lt size_limit (said_size m.steps) ≡ false = grind (arith, nat_tests, le) in
      rw small refl

  makes_made : (m : Method) (old new : Feeding) (t : Dir) → holding old ≡ Some holds → Makes m old t new → made holds m ≡ Ok t
  makes_made m old new t told h =
      small_made m h.small ∙ ap (λ r. then_steps r (λ d. unless_passed (passed d) d)) (all_done m.steps old t told h.steps) ∙ ap (λ o. unless_passed o t) h.within

  passing : (t : Dir) (e : RecipeFault) → Passes t e → IsFirstFault (unless_passed (passed t) t) e
  passing t (fault.FetchRead href) p = tt
  passing t (fault.NoRemote href) p = absurd p
  passing t (fault.WrongSize href said got) p = absurd p
  passing t (fault.Overlap path) p = absurd p
  passing t (fault.NoPath path) p = absurd p
  passing t (fault.TooLarge what limit) p = ap (λ o. unless_passed o t) p.0 ∙ ap (λ n. Err (fault.TooLarge what n)) (sym p.1)
  passing t fault.Memory p = tt

  refuses_made : (m : Method) (old new : Feeding) (e : RecipeFault) → holding old ≡ Some holds → Refuses m old e new → IsFirstFault (made holds m) e
  refuses_made m old new e told (inl h) =
      let much : nat_lt size_limit (said_size m.steps) ≡ true = grind (arith, nat_tests, h.passes) in
      let is : made holds m ≡ Err (fault.TooLarge Size size_limit) = rw much refl in
      subst (λ f. IsFirstFault (made holds m) f) (sym h.is) is
  refuses_made m old new e told (inr (inl h)) =
      subst (λ r. IsFirstFault r e) (sym (small_made m h.small)) (then_fault (after_steps holds m.steps Nothing) (λ d. unless_passed (passed d) d) e (stopped m.steps old new e told h.stops))
  refuses_made m old new e told (inr (inr h)) =
      let is = small_made m h.small ∙ ap (λ r. then_steps r (λ d. unless_passed (passed d) d)) (all_done m.steps old h.tree told h.steps) in
      subst (λ r. IsFirstFault r e) (sym is) (passing h.tree e h.passes)

-- the answers of the whole, where the web tells what it holds or doesn't
pub tree_is_made : (m : Method) (old new : Feeding) (t : Dir) → Makes m old t new → AnswersMade (holding old) m (Ok t)
tree_is_made m old new t h = by (holding old) refl
  where
    by : (told : Option Holding) → holding old ≡ told → AnswersMade told m (Ok t)
    by None e = tt
    by (Some holds) e = makes_made holds m old new t e h

pub fault_is_first : (m : Method) (old new : Feeding) (e : RecipeFault) → Refuses m old e new → AnswersMade (holding old) m (Err e)
fault_is_first m old new f h = by (holding old) refl
  where
    by : (told : Option Holding) → holding old ≡ told → AnswersMade told m (Err f)
    by None e = tt
    by (Some holds) e = refuses_made holds m old new f e h
