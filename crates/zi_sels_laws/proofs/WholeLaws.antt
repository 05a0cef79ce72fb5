-- What a valid choice selects in a universe that was loaded lacks no command.
use Rattle.std.proofs.Common.{◌≡◌, ℕ, Bool, true, false, cond, List, [], ◌∷◌, ◌++◌, map, Option, Some, None, refl, sym, ap, ◌∙◌, subst, arith, inl, inr}
use Rattle.std.specs.Prelude.{All, IsSome, IfSome, IsSomeAnd, slice_get, find, filter, bytes_eq, option_map, option_and_then, if◌then◌else◌}
use Rattle.std.proofs.lemmas.List.Sorted.{IsPermutation-sym}
use Rattle.zi_elements.specs.Namespace.{injector}
use Rattle.zi_policy.specs.declared.types.Policy.{Policy}
use Rattle.zi_outside.specs.Views.{Holding}
use Rattle.zi_address.specs.Texts.{same}
use Rattle.zi_reading.specs.Words.{optional}
use Rattle.zi_parts.specs.declared.types.Dep.{Dep}
use Rattle.zi_parts.specs.declared.types.DepKind.TheVariants.{Essential}
use Rattle.zi_parts.specs.declared.types.Runner.{Runner}
use Rattle.zi_parts.specs.declared.types.Command.{Command}
use Rattle.zi_reading.proofs.TextLaws.{same_text}
use Rattle.zi_universe.specs.declared.types.Requirement.{Requirement}
use Rattle.zi_universe.specs.declared.types.Candidate.{Candidate}
use Rattle.zi_universe.specs.declared.types.Interface.{Interface}
use Rattle.zi_universe.specs.Candidates.{Store, asks}
use Rattle.zi_universe.specs.Whole.{BeginsWith}
use Rattle.zi_universe.specs.Loading.{Loads}
use Rattle.zi_universe.proofs.WholeLemmas.{begins}
use Rattle.zi_choice.specs.Choice.{Choice, chosen, number, command_of, command_at, needs_of, with_runner}
use Rattle.zi_choice.specs.Walk.{Walk, is_used, leads_to, wanted}
use Rattle.zi_choice.specs.Valid.{Has, Suits, AreMet, IsValid}
use Rattle.zi_choice.specs.Valid.{IsMet as IsMetBy}
use Rattle.zi_choice.proofs.Base.{if_some_at, if_some_from, stands_at}
use Rattle.zi_choice.proofs.ThereLaws.{In}
use Rattle.zi_choice.proofs.WalkFacts.{Item, Need, LeadsBy, Leads, deps_after, closed, cover_each}
use Rattle.zi_choice.proofs.WalkLaws.{walk_one}
use Rattle.zi_sels.specs.declared.types.Selection.{Selection}
use Rattle.zi_sels.specs.declared.types.Selections.{Selections}
use Rattle.zi_sels.specs.Chosen.{plain_runner, used_command, selection_by, selected, AreSelected}
use Rattle.zi_sels.specs.Written.{command_wanted}
use Rattle.zi_sels_laws.specs.Whole.{IsNamed, HasCommand, RunnerIsThere, CanBeRun, AreWhole}
use Rattle.zi_sels_laws.proofs.LikeLaws.{Each, each_both}
use Rattle.zi_sels_laws.proofs.FreeLaws.{each_filter, each_weak, each_map, each_front}
use Rattle.zi_sels_laws.proofs.GivenLaws.{IsGivenRunner, IsGivenCommand, runner_first}
use Rattle.zi_sels_laws.proofs.ApartLaws.{AreOther, IsFound, each_found}
use Rattle.zi_sels_laws.proofs.EachLaws.{all_each, each_all, each_permuted}
use Rattle.zi_sels_laws.proofs.FeedLaws.{IsGiven}
use Rattle.zi_sels_laws.proofs.LoadedLaws.{AreGivenIn, loaded_given}
use Rattle.zi_sels_laws.proofs.SelectedLaws.{placed, each_selected, so_selected}
use Rattle.zi_sels_laws.proofs.UsedLaws.{AreUsesMet, needs_met, command_is}
use Rattle.zi_sels_laws.proofs.ChosenLaws.{sorted_other, chosen_given}
use Rattle.zi_text.proofs.ListLaws.{bytes_itself, some_of}

-- Each selection is found by its interface.

abbrev IsFirst : List Selection → Selection → Type 0
IsFirst items y = find (λ (x : Selection). bytes_eq x.interface y.interface) items ≡ Some y

abbrev IsApart : Selection → Selection → Type 0
IsApart x y = same x.interface y.interface ≡ false

first_behind : (x : Selection) (items ys : List Selection) → Each (IsApart x) ys → Each (IsFirst items) ys → Each (IsFirst (x ∷ items)) ys
unfolding same injector
first_behind x items [] h k = tt
first_behind x items (y ∷ ys) h k =
    (ap (λ b. cond b (Some x) (find (λ (z : Selection). bytes_eq z.interface y.interface) items)) h.0 ∙ k.0, first_behind x items ys h.1 k.1)

apart_from : (x : Selection) (items : List Selection) → Each (λ (m : List ℕ). same x.interface m ≡ false) (map (λ (y : Selection). y.interface) items) → Each (IsApart x) items
apart_from x [] h = tt
apart_from x (y ∷ items) h = (h.0, apart_from x items h.1)

each_first : (items : List Selection) → AreOther (map (λ (x : Selection). x.interface) items) → Each (IsFirst items) items
each_first [] h = tt
each_first (x ∷ items) h = (
  ap (λ b. cond b (Some x) (find (λ (z : Selection). bytes_eq z.interface x.interface) items)) (bytes_itself x.interface),
  first_behind x items items (apart_from x items h.0) (each_first items h.1),
)

-- A command that is found and used is found among those that are used.

find_kept : (test keep : Command → Bool) (f : Command → Command) → ((c : Command) → test (f c) ≡ test c) → (cs : List Command) (m : Command) → find test cs ≡ Some m → keep m ≡ true → IsSome (find test (map f (filter keep cs)))
find_kept test keep f alike [] m e k = absurd (cc e)
find_kept test keep f alike (c ∷ cs) m e k = by (test c) (keep c) refl refl e (λ h. find_kept test keep f alike cs m h k)
  where
    some_same : (x y : Command) → ◌≡◌ {A = Option Command} (Some x) (Some y) → x ≡ y
    some_same x y h = cc

    by : (a b : Bool) → test c ≡ a → keep c ≡ b → cond a (Some c) (find test cs) ≡ Some m → (find test cs ≡ Some m → IsSome (find test (map f (filter keep cs)))) → IsSome (find test (map f (cond b (c ∷ filter keep cs) (filter keep cs))))
    by true true t q h more = subst (λ v. IsSome (cond v (Some (f c)) (find test (map f (filter keep cs))))) (sym (alike c ∙ t)) refl
    by true false t q h more = let same_one = some_same c m h in let no : true ≡ false = sym k ∙ (ap keep (sym same_one) ∙ q) in absurd (cc no)
    by false true t q h more = subst (λ v. IsSome (cond v (Some (f c)) (find test (map f (filter keep cs))))) (sym (alike c ∙ t)) (more h)
    by false false t q h more = more h

-- Where a dependency leads.

asks_essential : (d : Dep) → d.kind ≡ Essential → asks d ≡ true
asks_essential d e = rw e refl

leads_number : (u : List Interface) (d : Dep) (j : ℕ) → asks d ≡ true → number u d.interface ≡ Some j → leads_to u d ≡ Some j
leads_number u d j a n = ap (λ b. if b then number u d.interface else None) a ∙ n

leads_last : (u : List Interface) (ds : List Dep) (d : Dep) (z : Item) → LeadsBy u d z → Leads u (ds ++ d ∷ []) z
leads_last u [] d z h = inl h
leads_last u (x ∷ ds) d z h = inr (leads_last u ds d z h)

-- what holds of all names holds of one of them
of_in : (P : List ℕ → Type 0) (name : List ℕ) (names : List (List ℕ)) → Each P names → In name names → P name
of_in P name [] h k = absurd k
of_in P name (n ∷ names) h (inl e) = subst P e h.0
of_in P name (n ∷ names) h (inr k) = of_in P name names h.1 k

-- what is chosen for an essential dependency, and where
pub record IsChosenFor (u : List Interface) (s : Choice) (d : Dep) : Type 0 where
  pub place : ℕ
  pub candidate : Candidate
  pub at : number u d.interface ≡ Some place
  pub picked : chosen u s place ≡ Some candidate
  pub suits : Suits d candidate

chosen_for : (u : List Interface) (s : Choice) (d : Dep) → d.kind ≡ Essential → IsMetBy u s d → IsChosenFor u s d
chosen_for u s d kind m = by_number (number u d.interface) refl (m.there kind) m.suits
  where
    by_candidate : (j : ℕ) (o : Option Candidate) → number u d.interface ≡ Some j → chosen u s j ≡ o → IsSome o → IfSome o (λ c. Suits d c) → IsChosenFor u s d
    by_candidate j None at picked h k = absurd (cc h)
    by_candidate j (Some c) at picked h k = record { place = j; candidate = c; at = at; picked = picked; suits = k }

    by_number : (o : Option ℕ) → number u d.interface ≡ o → IsSome (option_and_then (λ i. chosen u s i) o) → IfSome (option_and_then (λ i. chosen u s i) o) (λ c. Suits d c) → IsChosenFor u s d
    by_number None at h k = absurd (cc h)
    by_number (Some j) at h k = by_candidate j (chosen u s j) at refl h k

-- the command of a name has that name
name_of : (k : Candidate) (name : List ℕ) (m : Command) → command_of k name ≡ Some m → m.name ≡ name
unfolding same injector
name_of k name m e = same_text m.name name (stands_at k name m e).called

module _ (u : List Interface) (req : Requirement) (s : Choice) (sels : Selections) (first : BeginsWith u req.interface) (given : Each AreGivenIn u) (valid : IsValid u req s) (are : AreSelected u req s sels) where
  uses : AreUsesMet u s are.walk
  uses = subst (λ (v : Walk). AreUsesMet u s v) (walk_one u req s valid.walk are.walk valid.walks are.walks) valid.used_met

  found_each : Each (IsFirst sels.items) (selected u s are.walk)
  found_each =
      each_permuted (IsFirst sels.items) sels.items (selected u s are.walk) (IsPermutation-sym (selected u s are.walk) sels.items are.same)
      (each_first sels.items (sorted_other sels.items are.sorted))

  -- a command of what is chosen that is used is there
  used_there : (j : ℕ) (x : Interface) (k : Candidate) (name : List ℕ) (m : Command) → slice_get u j ≡ Some x → chosen u s j ≡ Some k → command_of k name ≡ Some m → is_used are.walk j name ≡ true → HasCommand sels.items x.uri name
  unfolding selection_by
  used_there j x k name m at picked there used =
      let y = selection_by u s are.walk j x.uri k in
      let here : find (λ (z : Selection). bytes_eq z.interface x.uri) sels.items ≡ Some y = so_selected (IsFirst sels.items) u s are.walk 0 u found_each j j x k (omega arith) at picked in
      let by_name : is_used are.walk j m.name ≡ true = subst (λ n. is_used are.walk j n ≡ true) (sym (name_of k name m there)) used in
      let kept = find_kept (λ (c : Command). bytes_eq c.name name) (λ c. is_used are.walk j c.name) (used_command u s) (λ c. refl) k.imp.commands m there by_name in
      subst (λ o. IsSomeAnd o (λ (z : Selection). IsNamed name z.commands)) (sym here) kept

  -- so is the one that is asked for
  root_whole : IfSome sels.command (HasCommand sels.items sels.interface)
  root_whole = by (slice_get u 0) (chosen u s 0) refl refl first valid.root
    where
      by : (o : Option Interface) (p : Option Candidate) → slice_get u 0 ≡ o → chosen u s 0 ≡ p → IsSomeAnd o (λ i. i.uri ≡ req.interface) → IsSomeAnd p (λ c. IfSome req.command (λ name. Has c name))
          → IfSome sels.command (HasCommand sels.items sels.interface)
      by None p at picked h k = absurd h
      by (Some x) None at picked h k = absurd k
      by (Some x) (Some y) at picked h k =
          if_some_from (HasCommand sels.items sels.interface) sels.command (
          λ name e.
          let wants : req.command ≡ Some name = sym are.command ∙ e in
          let m = some_of (command_of y name) (if_some_at (λ n. Has y n) req.command name wants k) in
          let at_root : command_at u s 0 name ≡ Some m.0 = ap (λ o. option_and_then (λ (c : Candidate). command_of c name) o) picked ∙ m.1 in
          let used = cover_each name m.0 are.walks.needs (subst (λ o. In name (wanted o)) (sym wants) (inl refl)) at_root in
          subst (λ a. HasCommand sels.items a name) (h ∙ sym are.interface) (used_there 0 x y name m.0 at picked m.1 used)
          )

  -- and the one that a runner asks for
  runner_there : (i : ℕ) (k : Candidate) (c : Command) (r : Runner) → chosen u s i ≡ Some k → IsFound k.imp.commands c → is_used are.walk i c.name ≡ true → c.runner ≡ Some r → IsGivenRunner r → RunnerIsThere sels.items r
  runner_there i k c r picked found used e g =
      let is_it = command_is u s i k c picked found in
      let met : AreMet u s (with_runner c.deps (Some r)) = subst (λ o. AreMet u s (with_runner c.deps o)) e (needs_met u s are.walk i c.name c uses used is_it) in
      let last = (each_front (IsMetBy u s) c.deps (r.dep ∷ []) (all_each (IsMetBy u s) (c.deps ++ r.dep ∷ []) met)).1.0 in
      let t = chosen_for u s r.dep g.kind last in
      let name = command_wanted r in
      let asked = asks_essential r.dep g.kind in
      let asks_it : In name r.dep.commands = runner_first r g in
      let m = some_of (command_of t.candidate name) (of_in (λ n. Has t.candidate n) name r.dep.commands (all_each (λ n. Has t.candidate n) r.dep.commands (t.suits.commands asked)) asks_it) in
      let there : command_at u s t.place name ≡ Some m.0 = ap (λ o. option_and_then (λ (y : Candidate). command_of y name) o) t.picked ∙ m.1 in
      let led : LeadsBy u r.dep (Need t.place name) = (t.place, leads_number u r.dep t.place asked t.at, (refl, asks_it)) in
      let from_runner : Leads u (needs_of c) (Need t.place name) = subst (λ o. Leads u (with_runner c.deps o) (Need t.place name)) (sym e) (leads_last u c.deps r.dep (Need t.place name) led) in
      let from_command : Leads u (deps_after (command_at u s i c.name)) (Need t.place name) = subst (λ o. Leads u (deps_after o) (Need t.place name)) (sym is_it) from_runner in
      let comes = closed u req s are.walk are.walks (Need i c.name) (Need t.place name) used from_command (m.0, there) in
      let p = placed u r.dep.interface 0 t.place t.at in
      let far : p.place ≡ t.place = omega (arith, p.far) in
      let at : slice_get u t.place ≡ Some p.interface = subst (λ n. slice_get u n ≡ Some p.interface) far p.at in
      subst (λ a. HasCommand sels.items a name) p.named (used_there t.place p.interface t.candidate name m.0 at t.picked m.1 comes)

  command_runs : (i : ℕ) (k : Candidate) (c : Command) → chosen u s i ≡ Some k → IsGivenCommand c → IsFound k.imp.commands c → is_used are.walk i c.name ≡ true → CanBeRun sels.items (used_command u s c)
  command_runs i k c picked g found used = by c.runner refl g.runner
    where
      by : (o : Option Runner) → c.runner ≡ o → Each IsGivenRunner (optional o) → IfSome (option_map plain_runner o) (RunnerIsThere sels.items)
      by None e h = tt
      by (Some r) e h = runner_there i k c r picked found used e h.0

  selection_runs : (i : ℕ) (uri : List ℕ) (k : Candidate) → chosen u s i ≡ Some k → IsGiven k.imp → All (CanBeRun sels.items) (selection_by u s are.walk i uri k).commands
  unfolding selection_by
  selection_runs i uri k picked g =
      let cs = k.imp.commands in
      let both = each_both IsGivenCommand (IsFound cs) cs g.commands (each_found cs g.apart) in
      let used = each_filter (λ c. IsGivenCommand c × IsFound cs c) (λ c. is_used are.walk i c.name) cs both in
      let runs = each_weak (λ c. (IsGivenCommand c × IsFound cs c) × (is_used are.walk i c.name ≡ true)) (λ c. CanBeRun sels.items (used_command u s c)) (λ c h. command_runs i k c picked h.0.0 h.0.1 h.1) (filter (λ c. is_used are.walk i c.name) cs) used in
      each_all (CanBeRun sels.items) (map (used_command u s) (filter (λ c. is_used are.walk i c.name) cs)) (each_map (CanBeRun sels.items) (used_command u s) (filter (λ c. is_used are.walk i c.name) cs) runs)

  selected_whole : AreWhole sels
  selected_whole =
      let runs : Selection → Type 0 = λ x. All (CanBeRun sels.items) x.commands in
      let each = each_selected runs u s are.walk 0 u (λ n j x k q at e. selection_runs j x.uri k e (chosen_given u s j k given e)) in
      record { root = root_whole; runners = each_all runs sels.items (each_permuted runs (selected u s are.walk) sels.items are.same each) }

pub chosen_whole : (told : Option Holding) (req : Requirement) (p : Policy) (stored : Store) (u : List Interface) (s : Choice) (sels : Selections) → Loads told req p stored u → IsValid u req s → AreSelected u req s sels → AreWhole sels
chosen_whole told req p stored u s sels loads valid are =
    selected_whole u req s sels (begins told req p stored u loads) (loaded_given told req p stored u loads) valid are
