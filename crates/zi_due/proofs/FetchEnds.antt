-- What is chosen is fetched, and ends as is due.
use Rattle.std.proofs.Common.{◌≡◌, ℕ, ◌⊎◌, inl, inr, List, [], ◌∷◌, ◌++◌, take, Option, Some, None, Result, Ok, Err, refl, sym, ap, subst, ◌∙◌}
use Rattle.std.specs.Prelude.{IfSome}
use Rattle.std.proofs.lemmas.Option.{same_Some}
use Rattle.zi_text.specs.Count.{Rose}
use Rattle.zi_digest.specs.declared.DigestName.{DigestName}
use Rattle.zi_digest.specs.Name.{spelling}
use Rattle.zi_outside.specs.Views.{Holding, Feeding, holding}
use Rattle.zi_tree.specs.Dir.{Dir}
use Rattle.zi_shelf.specs.Shelving.{Shelving}
use Rattle.zi_shelf.specs.Told.{Told}
use Rattle.zi_session.specs.declared.step.Step.TheVariants as step
use Rattle.zi_parts.specs.declared.types.Method.{Method}
use Rattle.zi_universe.specs.Naming.{with_one}
use Rattle.zi_sels.specs.declared.types.Selection.{Selection}
use Rattle.zi_recipe.specs.declared.fault.RecipeFault.{RecipeFault}
use Rattle.zi_recipe.specs.declared.fault.RecipeFault.TheVariants as fault
use Rattle.zi_recipe.specs.Making.{Makes, Refuses}
use Rattle.zi_recipe.specs.Made.{made, IsFirstFault}
use Rattle.zi_recipe.proofs.MadeLemmas.{tree_is_made, fault_is_first}
use Rattle.zi_adding.specs.Trying.{Tried, one, CostsAll}
use Rattle.zi_adding.specs.Gains.{Uses}
use Rattle.zi_adding.proofs.HistoryLaws.{AreDone}
use Rattle.zi_outcome.specs.declared.outcome.Outcome.{Outcome}
use Rattle.zi_outcome.specs.declared.outcome.Outcome.TheVariants.{NotInstalled, Memory}
use Rattle.zi_world.proofs.AskingLemmas.{asks_stay}
use Rattle.zi_choosing.specs.declared.chosen.Chosen.{Chosen}
use Rattle.zi_fetching.specs.Known.{Names, is_there}
use Rattle.zi_fetching.specs.Outcomes.{unmade}
use Rattle.zi_fetching.specs.Fetching.{From, from_chosen, first_uninstalled, HasWay, IsFetched, FailsBy, names_in, FetchesInTurn, Fetches, StopsFetching, FetchesNot}
use Rattle.zi_fetching.proofs.FetchLaws.{turn_done}
use Rattle.zi_due.specs.Due.{End}
use Rattle.zi_due.specs.Laws.{TakenFindsNone}
use Rattle.zi_due.specs.Turns.{Addition}
use Rattle.zi_due.specs.Fetching.{given, GivesFetched, EndsFetching, EndsFetched}
use Rattle.zi_due.proofs.SessionLemmas.{costs_fault, FailsTo, used_well, used_fails}
use Rattle.zi_due.proofs.TurnLemmas.{of_tried, adds_of, Goes, FailsWith, goes_all, goes_stops}
use Rattle.zi_due.proofs.StartEnds.{HasEndedSo, comes_so}

-- What is made of what the web holds is one tree, or one fault.

pub made_so : (web : Holding) (m : Method) (old new : Feeding) (t : Dir) → holding old ≡ Some web → Makes m old t new → made web m ≡ Ok t
made_so web m old new t told h = subst (λ o. IfSome o (λ holds. made holds m ≡ Ok t)) told (tree_is_made m old new t h)

-- the web failed, or memory was refused, or this is the fault
pub first_so : (web : Holding) (m : Method) (old new : Feeding) (e : RecipeFault) → holding old ≡ Some web → Refuses m old e new → IsFirstFault (made web m) e
first_so web m old new e told h = subst (λ o. IfSome o (λ holds. IsFirstFault (made holds m) e)) told (fault_is_first m old new e h)

rose_at : (m : Method) (old new : Feeding) (href : List ℕ) → Refuses m old (fault.FetchRead href) new → Rose old.faults new.faults
rose_at m old new href (inl h) = absurd (let e = h.is in cc e)
rose_at m old new href (inr (inl h)) = h.stops.asks.1
rose_at m old new href (inr (inr h)) = absurd h.passes

unmade_so : (web : Holding) (m : Method) (old new : Feeding) (e : RecipeFault) → holding old ≡ Some web → ¬ Rose old.faults new.faults → Refuses m old e new → (unmade e ≡ Memory) ⊎ (made web m ≡ Err e)
unmade_so web m old new (fault.FetchRead href) told still h = absurd (still (rose_at m old new href h))
unmade_so web m old new fault.Memory told still h = inl refl
unmade_so web m old new (fault.NoRemote href) told still h = inr (first_so web m old new (fault.NoRemote href) told h)
unmade_so web m old new (fault.WrongSize href said got) told still h = inr (first_so web m old new (fault.WrongSize href said got) told h)
unmade_so web m old new (fault.Overlap path) told still h = inr (first_so web m old new (fault.Overlap path) told h)
unmade_so web m old new (fault.NoPath path) told still h = inr (first_so web m old new (fault.NoPath path) told h)
unmade_so web m old new (fault.TooLarge what limit) told still h = inr (first_so web m old new (fault.TooLarge what limit) told h)

module _ (on : From) (web : Holding) where
  -- there is one way
  one_way : (x : Selection) (m n : Method) (p q : DigestName) → HasWay on x m p → HasWay on x n q → (m ≡ n) × (p ≡ q)
  one_way x m n p q a b = (same_Some m n (sym a.way ∙ b.way), same_Some p q (sym a.named ∙ b.named))

  gives_by : (x : Selection) (m : Method) (p : DigestName) (r : Result Addition Outcome) → HasWay on x m p → GivesFetched on web x r → r ≡ given p (made web m)
  gives_by x m p r way (n, q, other, e) =
      let same = one_way x n m q p other way in
      e ∙ ap (λ z. given z (made web n)) same.1 ∙ ap (λ z. given p (made web z)) same.0

  pub fetch_one : (x : Selection) (r q : Result Addition Outcome) → GivesFetched on web x r → GivesFetched on web x q → r ≡ q
  fetch_one x r q (m, p, way, e) b = e ∙ sym (gives_by x m p q way b)

  -- what was fetched
  fetched_gives : (x : Selection) (old new : Feeding) (a : Tried) → holding old ≡ Some web → IsFetched on x old a new → GivesFetched on web x (Ok (of_tried a))
  fetched_gives x old new a told f = (f.method, a.name, f.way, ap (given a.name) (sym (made_so web f.method old new a.tree told f.makes)))

  goes_fetched : (xs : List Selection) (stored : Names) (old : Feeding) (tried : List Tried) (new : Feeding) → holding old ≡ Some web → FetchesInTurn on stored xs old tried new
      → Goes is_there (GivesFetched on web) stored xs tried
  goes_fetched [] stored old tried new told t = t.0
  goes_fetched (x ∷ xs) stored old tried new told (inl (h, t)) = inl (h, goes_fetched xs stored old tried new told t)
  goes_fetched (x ∷ xs) stored old tried new told (inr (h, (a, rest, mid, is, f, t))) =
      inr (h, (a, rest, is, fetched_gives x old mid a told f, goes_fetched xs (with_one stored (spelling a.name)) mid rest new ((asks_stay _ old mid f.makes.asked.asks).holds ∙ told) t))

  -- the web holds what it held, and didn't fail
  turn_holds : (xs : List Selection) (stored : Names) (old : Feeding) (tried : List Tried) (new : Feeding) → FetchesInTurn on stored xs old tried new → (holding new ≡ holding old) × (new.faults ≡ old.faults)
  turn_holds [] stored old tried new t = (ap holding t.1, ap (λ (f : Feeding). f.faults) t.1)
  turn_holds (x ∷ xs) stored old tried new (inl (h, t)) = turn_holds xs stored old tried new t
  turn_holds (x ∷ xs) stored old tried new (inr (h, (a, rest, mid, is, f, t))) =
      let r = turn_holds xs (with_one stored (spelling a.name)) mid rest new t in
      (r.0 ∙ (asks_stay _ old mid f.makes.asked.asks).holds, r.1 ∙ f.makes.asked.faults)

module _ (law : TakenFindsNone) (c : Chosen) (web : Holding) (old new : Feeding) (told : holding old ≡ Some web) (calm : ¬ Rose old.faults new.faults) (b a : Shelving) (s : Told) (ss : List Told) (honest : b.honest)
    (tells : b.told ≡ Some s) (still : ¬ Rose b.faults a.faults) (Then : List Addition → End → Type 0) (end : End) (h : EndsFetched c web (s ∷ ss) Then end) where
  abbrev on : From
  on = from_chosen c

  by_installed : (o : Option (List ℕ)) → first_uninstalled on c.sels.items ≡ o → EndsFetching c web (s ∷ ss) Then o end
  by_installed o e = subst (λ x. EndsFetching c web (s ∷ ss) Then x end) e h

  -- all is fetched
  pub fetched_so : (stored : Names) (tried more : List Tried) → Uses (tried ++ more) b a → Fetches c old stored tried new → Then (adds_of tried) end
  fetched_so stored tried more uses f =
      goes_all is_there (GivesFetched on web) (fetch_one on web) s ss c.sels.items (names_in c) tried Then end (goes_fetched on web c.sels.items (names_in c) old tried new told f.in_turn)
      (used_well b a s honest tells law tried more uses (turn_done on c.sels.items (names_in c) old tried new f.in_turn)) (by_installed None f.installed)

  -- one isn't
  module _ (outcome : Outcome) (tried : List Tried) (uses : Uses tried b a) (cost : CostsAll tried b a) where
    stops : StopsFetching c old outcome tried new → HasEndedSo end outcome
    stops f = by f.fails.fails
      where
        used : Uses (f.done ++ f.last) b a
        used = subst (λ ts. Uses ts b a) f.all uses

        all_done : AreDone f.done
        all_done = turn_done on (take f.place c.sels.items) (names_in c) old f.done f.mid f.in_turn

        held : (holding f.mid ≡ holding old) × (f.mid.faults ≡ old.faults)
        held = turn_holds on web (take f.place c.sels.items) (names_in c) old f.done f.mid f.in_turn

        never : (tree : Dir) (tmp : Option ℕ) → f.last ≡ one f.fails.name tree (step.Fault tmp) → ⊥
        never tree tmp e = still (costs_fault f.done f.fails.name tree tmp b a (subst (λ ts. CostsAll (f.done ++ ts) b a) e (subst (λ ts. CostsAll ts b a) f.all cost)))

        due : FailsWith s (given f.fails.name (made web f.fails.method)) outcome → HasEndedSo end outcome
        due only =
            comes_so end outcome outcome
            (goes_stops is_there (GivesFetched on web) (fetch_one on web) s ss c.sels.items (names_in c) f.place f.item f.done outcome Then end f.here
            (goes_fetched on web (take f.place c.sels.items) (names_in c) old f.done f.mid told f.in_turn) f.wanting (used_well b a s honest tells law f.done f.last used all_done)
            (λ r g. subst (λ x. FailsWith s x outcome) (sym (gives_by on web f.item f.fails.method f.fails.name r f.fails.way g)) only) (by_installed None f.installed)) refl

        unmade_due : (e : RecipeFault) → outcome ≡ unmade e → (unmade e ≡ Memory) ⊎ (made web f.fails.method ≡ Err e) → HasEndedSo end outcome
        unmade_due e is (inl m) = inr (is ∙ m)
        unmade_due e is (inr m) = due (subst (λ x. FailsWith s (given f.fails.name x) outcome) (sym m) (sym is))

        unadded_due : (tree : Dir) → made web f.fails.method ≡ Ok tree → FailsTo s f.fails.name tree outcome → HasEndedSo end outcome
        unadded_due tree m (inl e) = inr e
        unadded_due tree m (inr only) = due (subst (λ x. FailsWith s (given f.fails.name x) outcome) (sym m) only)

        by : FailsBy f.fails.method f.fails.name f.mid outcome f.last new → HasEndedSo end outcome
        by (inl (m, empty)) =
            unmade_due m.fault m.is
            (unmade_so web f.fails.method f.mid new m.fault (held.0 ∙ told) (λ r. calm (subst (λ n. Rose n new.faults) held.1 r)) m.refuses)
        by (inr m) =
            unadded_due m.tree (made_so web f.fails.method f.mid new m.tree (held.0 ∙ told) m.makes)
            (used_fails b a s honest tells f.fails.name m.tree f.done f.last used all_done (never m.tree) m.fault outcome m.is m.ends)

    pub unfetched_so : FetchesNot c old outcome tried new → HasEndedSo end outcome
    unfetched_so (inl l) = comes_so end (NotInstalled l.name) outcome (by_installed (Some l.name) l.first_is) l.is
    unfetched_so (inr (inl f)) = stops f
    unfetched_so (inr (inr m)) = inr m.is
