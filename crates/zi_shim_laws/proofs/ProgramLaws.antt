-- What a valid choice selects in a universe that was loaded has each command that its bindings make available.
use Rattle.std.proofs.Common.{◌≡◌, ℕ, Bool, true, false, ◌||◌, cond, List, [], ◌∷◌, ◌++◌, map, Option, Some, None, IsSome, refl, sym, ap, ◌∙◌, subst, arith, inl, inr}
use Rattle.std.specs.Prelude.{All, IfSome, IsSomeAnd, slice_get, find, filter, fold, bytes_eq, is_some, option_map, option_and_then, if◌then◌else◌}
use Rattle.std.specs.List.{flat_map, filter_map, list_any}
use Rattle.std.proofs.lemmas.Bool.{and_parts}
use Rattle.std.proofs.lemmas.List.Sorted.{IsPermutation-sym}
use Rattle.std.specs.Cmp.Lexicographic.{bytes_decides}
use Rattle.zi_elements.specs.Namespace.{injector}
use Rattle.zi_policy.specs.declared.types.Policy.{Policy}
use Rattle.zi_outside.specs.Views.{Holding}
use Rattle.zi_address.specs.Texts.{same}
use Rattle.zi_reading.specs.Words.{optional}
use Rattle.zi_reading.proofs.TextLaws.{same_text}
use Rattle.zi_parts.specs.Values.{command_by, with_name, commands_by}
use Rattle.zi_parts.specs.declared.types.Binding.{Binding}
use Rattle.zi_parts.specs.declared.types.Binding.TheVariants.{Env, ExecVar, ExecPath, Unbuilt}
use Rattle.zi_parts.specs.declared.types.Dep.{Dep}
use Rattle.zi_parts.specs.declared.types.Runner.{Runner}
use Rattle.zi_parts.specs.declared.types.Command.{Command}
use Rattle.zi_universe.specs.declared.types.Requirement.{Requirement}
use Rattle.zi_universe.specs.declared.types.Candidate.{Candidate}
use Rattle.zi_universe.specs.declared.types.Interface.{Interface}
use Rattle.zi_universe.specs.Candidates.{Store, kind_asks, asks}
use Rattle.zi_universe.specs.Loading.{Loads}
use Rattle.zi_choice.specs.Choice.{Choice, pick, chosen, number, command_of, command_at, deps_of, with_runner}
use Rattle.zi_choice.specs.Walk.{Walk, is_listed, is_used, leads_to}
use Rattle.zi_choice.specs.Valid.{Has, Suits, target, AreMet, IsValid}
use Rattle.zi_choice.specs.Valid.{IsMet as IsMetBy}
use Rattle.zi_choice.proofs.Base.{chosen_from, if_some_at, stands_at}
use Rattle.zi_choice.proofs.ThereLaws.{In}
use Rattle.zi_choice.proofs.WalkFacts.{Item, Visit, Need, has, after, LeadsBy, Leads, deps_after, closed, on_is}
use Rattle.zi_choice.proofs.WalkLaws.{walk_one}
use Rattle.zi_sels.specs.declared.types.Selection.{Selection}
use Rattle.zi_sels.specs.declared.types.Selections.{Selections}
use Rattle.zi_sels.specs.Chosen.{plain, is_met, met, plain_runner, used_command, used_of, selection_by, selected, AreSelected}
use Rattle.zi_sels.specs.Written.{command_wanted}
use Rattle.zi_sels_laws.specs.Whole.{IsNamed, HasCommand}
use Rattle.zi_sels_laws.proofs.LikeLaws.{Each, each_append, each_both}
use Rattle.zi_sels_laws.proofs.FreeLaws.{each_filter, each_weak, each_map, each_flat, each_front}
use Rattle.zi_sels_laws.proofs.BindingLaws.{IsProperBinding}
use Rattle.zi_sels_laws.proofs.GivenLaws.{IsGivenDep, IsGivenRunner, IsGivenCommand}
use Rattle.zi_sels_laws.proofs.ApartLaws.{AreOther, IsFound, each_found}
use Rattle.zi_sels_laws.proofs.EachLaws.{all_each, each_all, each_permuted}
use Rattle.zi_sels_laws.proofs.FeedLaws.{IsGiven}
use Rattle.zi_sels_laws.proofs.LoadedLaws.{AreGivenIn, loaded_given}
use Rattle.zi_sels_laws.proofs.SelectedLaws.{placed, each_selected, so_selected}
use Rattle.zi_sels_laws.proofs.UsedLaws.{AreUsesMet, needs_met, command_is}
use Rattle.zi_sels_laws.proofs.ChosenLaws.{sorted_other, chosen_given}
use Rattle.zi_text.proofs.ListLaws.{bytes_itself, some_of}
use Rattle.zi_shim_laws.specs.Names.{runner_deps}
use Rattle.zi_shim_laws.specs.Programs.{HasIfSelected, IsAvailable, HasPrograms, HavePrograms}

-- A dependency asks for each command that its bindings make available.

in_behind : (m : List ℕ) (names : List (List ℕ)) (n : List ℕ) → In m names → In m (names ++ n ∷ [])
in_behind m [] n h = absurd h
in_behind m (x ∷ names) n (inl e) = inl e
in_behind m (x ∷ names) n (inr h) = inr (in_behind m names n h)

in_last : (names : List (List ℕ)) (n : List ℕ) → In n (names ++ n ∷ [])
in_last [] n = inl refl
in_last (x ∷ names) n = inr (in_last names n)

any_in : (n : List ℕ) (names : List (List ℕ)) → list_any (bytes_eq n) names ≡ true → In n names
any_in n [] h = absurd (cc h)
any_in n (x ∷ names) h = by (bytes_eq n x) refl h (any_in n names)
  where
    by : (b : Bool) → bytes_eq n x ≡ b → (b || list_any (bytes_eq n) names) ≡ true → (list_any (bytes_eq n) names ≡ true → In n names) → In n (x ∷ names)
    by true e k go = inl (sym ((bytes_decides n x).0 e))
    by false e k go = inr (go k)

kept_with : (m : List ℕ) (names : List (List ℕ)) (n : List ℕ) → In m names → In m (with_name names n)
kept_with m names n h = by (list_any (bytes_eq n) names)
  where
    by : (b : Bool) → In m (if b then names else names ++ n ∷ [])
    by true = h
    by false = in_behind m names n h

new_with : (names : List (List ℕ)) (n : List ℕ) → In n (with_name names n)
new_with names n = by (list_any (bytes_eq n) names) refl
  where
    by : (b : Bool) → list_any (bytes_eq n) names ≡ b → In n (if b then names else names ++ n ∷ [])
    by true e = any_in n names e
    by false e = in_last names n

kept_all : (m : List ℕ) (names others : List (List ℕ)) → In m names → In m (fold with_name names others)
kept_all m names [] h = h
kept_all m names (n ∷ others) h = kept_all m (with_name names n) others (kept_with m names n h)

each_asked : (names others : List (List ℕ)) → Each (λ m. In m (fold with_name names others)) others
each_asked names [] = tt
each_asked names (n ∷ others) = (kept_all n (with_name names n) others (new_with names n), each_asked (with_name names n) others)

-- where each command that is asked for is there, so is each that a binding makes available
each_available : (items : List Selection) (interface : List ℕ) (bs : List Binding) → Each (HasIfSelected items interface) (filter_map command_by bs) → Each (IsAvailable items interface) bs
each_available items interface [] h = tt
each_available items interface (Env name extra mode separator default ∷ bs) h = (tt, each_available items interface bs h)
each_available items interface (ExecVar name command ∷ bs) h = (h.0, each_available items interface bs h.1)
each_available items interface (ExecPath name command ∷ bs) h = (h.0, each_available items interface bs h.1)
each_available items interface (Unbuilt element ∷ bs) h = (tt, each_available items interface bs h)

all_available : (items : List Selection) (interface : List ℕ) (names commands : List (List ℕ)) (bs : List Binding) → commands ≡ commands_by names bs → ((n : List ℕ) → In n commands → HasIfSelected items interface n)
    → Each (IsAvailable items interface) bs
unfolding commands_by
all_available items interface names commands bs e one =
    each_available items interface bs
    (each_weak (λ m. In m (fold with_name names (filter_map command_by bs))) (HasIfSelected items interface) (λ m h. one m (subst (In m) (sym e) h)) (filter_map command_by bs) (each_asked names (filter_map command_by bs)))

-- a binding outside of dependencies makes none available
abbrev MakesNone : Binding → Type 0
MakesNone b = command_by b ≡ None

own_none : (b : Binding) → IsProperBinding b → MakesNone b
own_none (Env name extra mode separator default) h = refl
own_none (ExecVar name command) h = absurd h
own_none (ExecPath name command) h = absurd h
own_none (Unbuilt element) h = refl

if_has : (items : List Selection) (interface name : List ℕ) → HasCommand items interface name → HasIfSelected items interface name
if_has items interface name h = by (find (λ (x : Selection). bytes_eq x.interface interface) items) h
  where
    by : (o : Option Selection) → IsSomeAnd o (λ x. IsNamed name x.commands) → IfSome o (λ x. IsNamed name x.commands)
    by None k = tt
    by (Some x) k = k

-- Each selection is found by its interface.

abbrev IsFirst : List Selection → Selection → Type 0
IsFirst items y = find (λ (x : Selection). bytes_eq x.interface y.interface) items ≡ Some y

found_behind : (x : Selection) (items ys : List Selection) → Each (λ (m : List ℕ). same x.interface m ≡ false) (map (λ (y : Selection). y.interface) ys) → Each (IsFirst items) ys → Each (IsFirst (x ∷ items)) ys
unfolding same injector
found_behind x items [] h k = tt
found_behind x items (y ∷ ys) h k = (ap (λ b. cond b (Some x) (find (λ (z : Selection). bytes_eq z.interface y.interface) items)) h.0 ∙ k.0, found_behind x items ys h.1 k.1)

found_all : (items : List Selection) → AreOther (map (λ (x : Selection). x.interface) items) → Each (IsFirst items) items
found_all [] h = tt
found_all (x ∷ items) h =
    (ap (λ b. cond b (Some x) (find (λ (z : Selection). bytes_eq z.interface x.interface) items)) (bytes_itself x.interface), found_behind x items items h.0 (found_all items h.1))

-- a command that is found and used is found among those that are used
found_used : (test keep : Command → Bool) (f : Command → Command) → ((c : Command) → test (f c) ≡ test c) → (cs : List Command) (m : Command) → find test cs ≡ Some m → keep m ≡ true → IsSome (find test (map f (filter keep cs)))
found_used test keep f alike [] m e k = absurd (cc e)
found_used test keep f alike (c ∷ cs) m e k = by (test c) (keep c) refl refl e (λ h. found_used test keep f alike cs m h k)
  where
    same_one : (x y : Command) → ◌≡◌ {A = Option Command} (Some x) (Some y) → x ≡ y
    same_one x y h = cc

    not_both : (b : Bool) → b ≡ true → b ≡ false → ⊥
    not_both b p q = cc (sym p ∙ q)

    by : (a b : Bool) → test c ≡ a → keep c ≡ b → cond a (Some c) (find test cs) ≡ Some m → (find test cs ≡ Some m → IsSome (find test (map f (filter keep cs)))) → IsSome (find test (map f (cond b (c ∷ filter keep cs) (filter keep cs))))
    by true true t q h more = subst (λ v. IsSome (cond v (Some (f c)) (find test (map f (filter keep cs))))) (sym (alike c ∙ t)) refl
    by true false t q h more = absurd (not_both (keep m) k (ap keep (sym (same_one c m h)) ∙ q))
    by false true t q h more = subst (λ v. IsSome (cond v (Some (f c)) (find test (map f (filter keep cs))))) (sym (alike c ∙ t)) (more h)
    by false false t q h more = more h

name_of : (k : Candidate) (name : List ℕ) (m : Command) → command_of k name ≡ Some m → m.name ≡ name
unfolding same injector
name_of k name m e = same_text m.name name (stands_at k name m e).called

-- What holds of all names holds of one of them.
of_in : (P : List ℕ → Type 0) (name : List ℕ) (names : List (List ℕ)) → Each P names → In name names → P name
of_in P name [] h k = absurd k
of_in P name (n ∷ names) h (inl e) = subst P e h.0
of_in P name (n ∷ names) h (inr k) = of_in P name names h.1 k

-- what is chosen for a dependency, and where
pub record IsAt (u : List Interface) (s : Choice) (d : Dep) : Type 0 where
  pub place : ℕ
  pub candidate : Candidate
  pub at : number u d.interface ≡ Some place
  pub picked : chosen u s place ≡ Some candidate
  pub suits : Suits d candidate

is_at : (u : List Interface) (s : Choice) (d : Dep) → is_some (target u s d) ≡ true → IsMetBy u s d → IsAt u s d
is_at u s d some m = by_number (number u d.interface) refl some m.suits
  where
    by_candidate : (j : ℕ) (o : Option Candidate) → number u d.interface ≡ Some j → chosen u s j ≡ o → is_some o ≡ true → IfSome o (λ c. Suits d c) → IsAt u s d
    by_candidate j None at picked h k = absurd (cc h)
    by_candidate j (Some c) at picked h k = record { place = j; candidate = c; at = at; picked = picked; suits = k }

    by_number : (o : Option ℕ) → number u d.interface ≡ o → is_some (option_and_then (λ i. chosen u s i) o) ≡ true → IfSome (option_and_then (λ i. chosen u s i) o) (λ c. Suits d c) → IsAt u s d
    by_number None at h k = absurd (cc h)
    by_number (Some j) at h k = by_candidate j (chosen u s j) at refl h k

leads_number : (u : List Interface) (d : Dep) (j : ℕ) → asks d ≡ true → number u d.interface ≡ Some j → leads_to u d ≡ Some j
leads_number u d j a n = ap (λ b. if b then number u d.interface else None) a ∙ n

leads_front : (u : List Interface) (ds es : List Dep) (z : Item) → Leads u ds z → Leads u (ds ++ es) z
leads_front u [] es z h = absurd h
leads_front u (d ∷ ds) es z (inl h) = inl h
leads_front u (d ∷ ds) es z (inr h) = inr (leads_front u ds es z h)

leads_last : (u : List Interface) (ds : List Dep) (d : Dep) (z : Item) → LeadsBy u d z → Leads u (ds ++ d ∷ []) z
leads_last u [] d z h = inl h
leads_last u (x ∷ ds) d z h = inr (leads_last u ds d z h)

front_met : (u : List Interface) (s : Choice) (ds : List Dep) (o : Option Runner) → AreMet u s (with_runner ds o) → Each (IsMetBy u s) ds
front_met u s ds None h = all_each (IsMetBy u s) ds h
front_met u s ds (Some r) h = (each_front (IsMetBy u s) ds (r.dep ∷ []) (all_each (IsMetBy u s) (ds ++ r.dep ∷ []) h)).0

front_leads : (u : List Interface) (ds : List Dep) (o : Option Runner) (z : Item) → Leads u ds z → Leads u (with_runner ds o) z
front_leads u ds None z h = h
front_leads u ds (Some r) z h = leads_front u ds (r.dep ∷ []) z h

module _ (u : List Interface) (req : Requirement) (s : Choice) (sels : Selections) (given : Each AreGivenIn u) (valid : IsValid u req s) (are : AreSelected u req s sels) where
  abbrev DepAvailable : Dep → Type 0
  DepAvailable d = All (IsAvailable sels.items d.interface) d.bindings

  one_walk : valid.walk ≡ are.walk
  one_walk = walk_one u req s valid.walk are.walk valid.walks are.walks

  uses : AreUsesMet u s are.walk
  uses = subst (λ (v : Walk). AreUsesMet u s v) one_walk valid.used_met

  each_found_first : Each (IsFirst sels.items) (selected u s are.walk)
  each_found_first =
      each_permuted (IsFirst sels.items) sels.items (selected u s are.walk) (IsPermutation-sym (selected u s are.walk) sels.items are.same)
      (found_all sels.items (sorted_other sels.items are.sorted))

  -- a command of what is chosen that is used is there
  used_there : (j : ℕ) (x : Interface) (k : Candidate) (name : List ℕ) (m : Command) → slice_get u j ≡ Some x → chosen u s j ≡ Some k → command_of k name ≡ Some m → is_used are.walk j name ≡ true → HasCommand sels.items x.uri name
  unfolding selection_by
  used_there j x k name m at picked there used =
      let y = selection_by u s are.walk j x.uri k in
      let here : find (λ (z : Selection). bytes_eq z.interface x.uri) sels.items ≡ Some y = so_selected (IsFirst sels.items) u s are.walk 0 u each_found_first j j x k (omega arith) at picked in
      let by_name : is_used are.walk j m.name ≡ true = subst (λ n. is_used are.walk j n ≡ true) (sym (name_of k name m there)) used in
      let kept = found_used (λ (c : Command). bytes_eq c.name name) (λ c. is_used are.walk j c.name) (used_command u s) (λ c. refl) k.imp.commands m there by_name in
      subst (λ o. IsSomeAnd o (λ (z : Selection). IsNamed name z.commands)) (sym here) kept

  -- What is asked of a dependency of what the walk met is there, where something is chosen for its interface.
  asked_there : (y : Item) (d : Dep) → has are.walk y ≡ true → ((z : Item) → LeadsBy u d z → Leads u (after u s y) z) → asks d ≡ true → IsAt u s d → (name : List ℕ) → In name d.commands → HasCommand sels.items d.interface name
  asked_there y d met_it leads asked t name asks_it =
      let m = some_of (command_of t.candidate name) (of_in (λ n. Has t.candidate n) name d.commands (all_each (λ n. Has t.candidate n) d.commands (t.suits.commands asked)) asks_it) in
      let there : command_at u s t.place name ≡ Some m.0 = ap (λ o. option_and_then (λ (c : Candidate). command_of c name) o) t.picked ∙ m.1 in
      let led : LeadsBy u d (Need t.place name) = (t.place, leads_number u d t.place asked t.at, (refl, asks_it)) in
      let comes = closed u req s are.walk are.walks y (Need t.place name) met_it (leads (Need t.place name) led) (m.0, there) in
      let p = placed u d.interface 0 t.place t.at in
      let far : p.place ≡ t.place = omega (arith, p.far) in
      let at : slice_get u t.place ≡ Some p.interface = subst (λ n. slice_get u n ≡ Some p.interface) far p.at in
      subst (λ a. HasCommand sels.items a name) p.named (used_there t.place p.interface t.candidate name m.0 at t.picked m.1 comes)

  dep_available : (y : Item) (d : Dep) (names : List (List ℕ)) → has are.walk y ≡ true → ((z : Item) → LeadsBy u d z → Leads u (after u s y) z) → d.commands ≡ commands_by names d.bindings → asks d ≡ true → is_some (target u s d) ≡ true
      → IsMetBy u s d → DepAvailable d
  dep_available y d names met_it leads commands asked some m =
      each_all (IsAvailable sels.items d.interface) d.bindings
      (all_available sels.items d.interface names d.commands d.bindings commands
      (λ name h. if_has sels.items d.interface name (asked_there y d met_it leads asked (is_at u s d some m) name h)))

  deps_available : (y : Item) (ds : List Dep) → has are.walk y ≡ true → ((z : Item) → Leads u ds z → Leads u (after u s y) z) → Each IsGivenDep ds → Each (IsMetBy u s) ds → Each DepAvailable (met u s ds)
  deps_available y [] met_it leads g h = tt
  deps_available y (d ∷ ds) met_it leads g h = by (is_met u s d) refl (deps_available y ds met_it (λ z l. leads z (inr l)) g.1 h.1)
    where
      by : (b : Bool) → is_met u s d ≡ b → Each DepAvailable (met u s ds) → Each DepAvailable (map plain (cond b (d ∷ filter (is_met u s) ds) (filter (is_met u s) ds)))
      by true e rest =
          let both = and_parts (asks d) (is_some (target u s d)) e in
          (dep_available y d [] met_it (λ z l. leads z (inl l)) g.0.commands both.0 both.1 h.0, rest)
      by false e rest = rest

  -- Commands that are used.
  runner_available : (i : ℕ) (c : Command) (o : Option Runner) → c.runner ≡ o → command_at u s i c.name ≡ Some c → is_used are.walk i c.name ≡ true → Each IsGivenRunner (optional o) → Each DepAvailable (runner_deps (option_map plain_runner o))
  runner_available i c None e is used g = tt
  runner_available i c (Some r) e is used g =
      let all : AreMet u s (with_runner c.deps (Some r)) = subst (λ o. AreMet u s (with_runner c.deps o)) e (needs_met u s are.walk i c.name c uses used is) in
      let last = (each_front (IsMetBy u s) c.deps (r.dep ∷ []) (all_each (IsMetBy u s) (c.deps ++ r.dep ∷ []) all)).1.0 in
      let asked : asks r.dep ≡ true = ap kind_asks g.0.kind in
      let leads : (z : Item) → LeadsBy u r.dep z → Leads u (deps_after (command_at u s i c.name)) z =
      λ z l. subst (λ o. Leads u (deps_after o) z) (sym is) (subst (λ o. Leads u (with_runner c.deps o) z) (sym e) (leads_last u c.deps r.dep z l)) in
      (dep_available (Need i c.name) r.dep (command_wanted r ∷ []) used leads g.0.commands asked (some_true (target u s r.dep) (last.there g.0.kind)) last, tt)
    where
      some_true : {X : Type 0} (o : Option X) → IsSome o → is_some o ≡ true
      some_true None h = absurd (cc h)
      some_true (Some x) h = refl

  command_available : (i : ℕ) (k : Candidate) (c : Command) → chosen u s i ≡ Some k → IsGivenCommand c → IsFound k.imp.commands c → is_used are.walk i c.name ≡ true
      → Each DepAvailable ((used_command u s c).deps ++ runner_deps (used_command u s c).runner)
  command_available i k c picked g found used =
      let is = command_is u s i k c picked found in
      let all = front_met u s c.deps c.runner (needs_met u s are.walk i c.name c uses used is) in
      let leads : (z : Item) → Leads u c.deps z → Leads u (deps_after (command_at u s i c.name)) z = λ z l. subst (λ o. Leads u (deps_after o) z) (sym is) (front_leads u c.deps c.runner z l) in
      each_append DepAvailable (met u s c.deps) (runner_deps (option_map plain_runner c.runner)) (deps_available (Need i c.name) c.deps used leads g.deps all)
      (runner_available i c c.runner refl is used g.runner)

  -- What is chosen is on the walk.
  listed_there : (i : ℕ) (k : Candidate) → chosen u s i ≡ Some k → is_listed are.walk i ≡ true
  listed_there i k e =
      let picked : IsSome (pick s i) = subst (λ o. IsSome o) (sym (chosen_from u s i k e).1) refl in
      subst (λ (x : Walk). is_listed x i ≡ true) one_walk (on_is u req s valid.walk valid.walks i ((valid.exactly i).0 picked)).1

  selection_has : (i : ℕ) (uri : List ℕ) (k : Candidate) → chosen u s i ≡ Some k → IsGiven k.imp → HasPrograms sels.items (selection_by u s are.walk i uri k)
  unfolding selection_by
  selection_has i uri k picked_it g =
      let cs = k.imp.commands in
      let used = λ (c : Command). is_used are.walk i c.name in
      let of_command = λ (c : Command). c.deps ++ runner_deps c.runner in
      let known = each_filter (λ c. IsGivenCommand c × IsFound cs c) used cs (each_both IsGivenCommand (IsFound cs) cs g.commands (each_found cs g.apart)) in
      let bound = each_flat MakesNone (λ (c : Command). c.bindings) (λ (c : Command). Each IsProperBinding c.bindings)
      (λ c h. each_weak IsProperBinding MakesNone own_none c.bindings h) (used_of u s are.walk i cs)
      (each_map (λ (c : Command). Each IsProperBinding c.bindings) (used_command u s) (filter used cs)
      (each_weak (λ (c : Command). (IsGivenCommand c × IsFound cs c) × (used c ≡ true)) (λ (c : Command). Each IsProperBinding c.bindings) (λ c h. h.0.0.bindings) (filter used cs) known)) in
      let all = all_each (IsMetBy u s) k.imp.deps (if_some_at (λ (c : Candidate). AreMet u s c.imp.deps) (chosen u s i) k picked_it (valid.met i)) in
      let leads : (z : Item) → Leads u k.imp.deps z → Leads u (deps_of (chosen u s i)) z = λ z l. subst (λ o. Leads u (deps_of o) z) (sym picked_it) l in
      let own = deps_available (Visit i) k.imp.deps (listed_there i k picked_it) leads g.deps all in
      let commands = each_flat DepAvailable of_command (λ (c : Command). Each DepAvailable (of_command c)) (λ c h. h) (used_of u s are.walk i cs)
      (each_map (λ (c : Command). Each DepAvailable (of_command c)) (used_command u s) (filter used cs)
      (each_weak (λ (c : Command). (IsGivenCommand c × IsFound cs c) × (used c ≡ true)) (λ (c : Command). Each DepAvailable (of_command (used_command u s c))) (λ c h. command_available i k c picked_it h.0.0 h.0.1 h.1) (filter used cs) known)) in
      record {
        own = each_all MakesNone (k.imp.bindings ++ flat_map (λ (c : Command). c.bindings) (used_of u s are.walk i cs))
            (each_append MakesNone k.imp.bindings (flat_map (λ (c : Command). c.bindings) (used_of u s are.walk i cs))
            (each_weak IsProperBinding MakesNone own_none k.imp.bindings g.bindings) bound);
        deps = each_all DepAvailable (met u s k.imp.deps ++ flat_map of_command (used_of u s are.walk i cs)) (each_append DepAvailable (met u s k.imp.deps) (flat_map of_command (used_of u s are.walk i cs)) own commands);
      }

  selected_have : HavePrograms sels
  selected_have =
      let each = each_selected (HasPrograms sels.items) u s are.walk 0 u (λ n j x k q at e. selection_has j x.uri k e (chosen_given u s j k given e)) in
      each_all (HasPrograms sels.items) sels.items (each_permuted (HasPrograms sels.items) (selected u s are.walk) sels.items are.same each)

pub chosen_programs : (told : Option Holding) (req : Requirement) (p : Policy) (stored : Store) (u : List Interface) (s : Choice) (sels : Selections) → Loads told req p stored u → IsValid u req s → AreSelected u req s sels → HavePrograms sels
chosen_programs told req p stored u s sels loads valid are = selected_have u req s sels (loaded_given told req p stored u loads) valid are
