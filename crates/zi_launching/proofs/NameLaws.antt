-- The bindings of selections, one by one: the names of their shims are right, and what these run is there.
use Rattle.std.proofs.Common.{◌≡◌, ℕ, Bool, true, false, cond, if◌then◌else◌, List, [], ◌∷◌, ◌++◌, map, find, get_or, Option, Some, None, IsSome, option_map, refl, sym, ◌∙◌, ap, subst, All}
use Rattle.std.specs.Prelude.{IfSome, IsSomeAnd, bytes_eq}
use Rattle.std.specs.List.{flat_map, cons_option}
use Rattle.std.specs.Cmp.Lexicographic.{bytes_decides}
use Rattle.std.proofs.lemmas.List.Elements.{All-nil, All-cons, All-head, All-tail, All-append}
use Rattle.std.proofs.lemmas.Option.{same_Some}
use Rattle.zi_outside.specs.declared.var.Var.{Var}
use Rattle.zi_parts.specs.Values.{command_by}
use Rattle.zi_parts.specs.declared.types.Binding.{Binding}
use Rattle.zi_parts.specs.declared.types.Binding.TheVariants.{Env, ExecVar, ExecPath, Unbuilt}
use Rattle.zi_parts.specs.declared.types.Command.{Command}
use Rattle.zi_parts.specs.declared.types.Dep.{Dep}
use Rattle.zi_parts.specs.declared.types.Runner.{Runner}
use Rattle.zi_bind.specs.Shims.{is_shimmed}
use Rattle.zi_shim.specs.Trees.{is_shim_name}
use Rattle.zi_sels.specs.declared.types.Selection.{Selection}
use Rattle.zi_sels.specs.declared.types.Selections.{Selections}
use Rattle.zi_sels_laws.specs.Whole.{IsNamed, HasCommand}
use Rattle.zi_shim_laws.specs.Names.{HasShimName, runner_deps, deps_in, bindings_in, HaveShimNames}
use Rattle.zi_shim_laws.specs.Programs.{HasIfSelected, IsAvailable, HavePrograms}
use Rattle.zi_plan.specs.declared.call.ShimCall.{ShimCall}
use Rattle.zi_plan.specs.Placed.{Placed, placed_in, all_placed, placed_for}
use Rattle.zi_plan.specs.Launches.{Bound, in_folder, where_selected, of_dep, of_runner, of_command, of_placed, all_bindings, shimmed, folder_of}
use Rattle.zi_plan.specs.Shims.{shim_name, shim_command, shims_of}
use Rattle.zi_plan.proofs.CallLaws.{calls_named}
use Rattle.zi_launching.specs.Launching.{HasCalls}
use Rattle.zi_launching.proofs.OwnLaws.{all_front, all_back}

all_flat : {X Y : Type 0} (P : Y → Type 0) (Q : X → Type 0) (f : X → List Y) → ((x : X) → Q x → All P (f x)) → (xs : List X) → All Q xs → All P (flat_map f xs)
all_flat P Q f by [] h = All-nil P
all_flat P Q f by (x ∷ xs) h = All-append P (f x) (flat_map f xs) (by x (All-head Q x xs h)) (all_flat P Q f by xs (All-tail Q x xs h))

flat_all : {X Y : Type 0} (P : Y → Type 0) (f : X → List Y) (xs : List X) → All P (flat_map f xs) → All (λ x. All P (f x)) xs
flat_all P f [] h = All-nil (λ x. All P (f x))
flat_all P f (x ∷ xs) h = All-cons (λ x. All P (f x)) x xs (all_front P (f x) (flat_map f xs) h) (flat_all P f xs (all_back P (f x) (flat_map f xs) h))

both_all : {X : Type 0} (P Q : X → Type 0) (xs : List X) → All P xs → All Q xs → All (λ x. P x × Q x) xs
both_all P Q xs h k = λ i d lt. (h i d lt, k i d lt)

-- What is so of each binding by where it stands is so of each in the one list.

-- of the bindings of a selection and its commands, and of those of its dependencies, those of its commands and of their runners among them
abbrev pub HoldsIn : (Binding → Type 0) → (List ℕ → Binding → Type 0) → Selection → Type 0
HoldsIn Own Of x =
    All Own (x.bindings ++ flat_map (λ (k : Command). k.bindings) x.commands) × All (λ (d : Dep). All (Of d.interface) d.bindings) (deps_in x)

-- what is found for an interface is of that
found_for : (ps : List Placed) (i : List ℕ) (p : Placed) → placed_for ps i ≡ Some p → p.selection.interface ≡ i
found_for [] i p e = absurd (cc e)
found_for (x ∷ ps) i p e = by (bytes_eq x.selection.interface i) refl e (found_for ps i p)
  where
    by : (b : Bool) → bytes_eq x.selection.interface i ≡ b → cond b (Some x) (placed_for ps i) ≡ Some p → (placed_for ps i ≡ Some p → p.selection.interface ≡ i) → p.selection.interface ≡ i
    by true q e go = ap (λ (y : Placed). y.selection.interface) (sym (same_Some x p e)) ∙ (bytes_decides x.selection.interface i).0 q
    by false q e go = go e

module _ (So : Bound → Type 0) (Own : Binding → Type 0) (Of : List ℕ → Binding → Type 0) (ps : List Placed) (by_own : (i f : List ℕ) (b : Binding) → Own b → So (record { interface = i; folder = f; binding = b }))
    (by_dep : (i f : List ℕ) (b : Binding) → IsSome (placed_for ps i) → Of i b → So (record { interface = i; folder = f; binding = b })) where
  folder_so : (P : Binding → Type 0) (p : Placed) → ((f : List ℕ) (b : Binding) → P b → So (record { interface = p.selection.interface; folder = f; binding = b })) → (bs : List Binding) → All P bs → All So (in_folder p bs)
  folder_so P p one [] h = All-nil So
  folder_so P p one (b ∷ bs) h = by (folder_of p.folder b) (All-head P b bs h) (folder_so P p one bs (All-tail P b bs h))
    where
      by : (o : Option (List ℕ)) → P b → All So (in_folder p bs) → All So (cons_option (option_map (λ folder. record { interface = p.selection.interface; folder = folder; binding = b }) o) (in_folder p bs))
      by None it rest = rest
      by (Some folder) it rest = All-cons So (record { interface = p.selection.interface; folder = folder; binding = b }) (in_folder p bs) (one folder b it) rest

  abbrev DepSo : Dep → Type 0
  DepSo d = All (Of d.interface) d.bindings

  dep_so : (d : Dep) → DepSo d → All So (of_dep ps d)
  dep_so d h = by (placed_for ps d.interface) refl
    where
      by : (o : Option Placed) → placed_for ps d.interface ≡ o → All So (where_selected d.bindings o)
      by None e = All-nil So
      by (Some p) e =
          let is = found_for ps d.interface p e in
          let some : IsSome (placed_for ps p.selection.interface) = subst (λ i. IsSome (placed_for ps i)) (sym is) (subst (λ o. IsSome o) (sym e) refl) in
          folder_so (Of d.interface) p (λ f b it. by_dep p.selection.interface f b some (subst (λ i. Of i b) (sym is) it)) d.bindings h

  runner_so : (o : Option Runner) → All DepSo (runner_deps o) → All So (of_runner ps o)
  runner_so None h = All-nil So
  runner_so (Some runner) h = dep_so runner.dep (All-head DepSo runner.dep [] h)

  command_so : (p : Placed) (k : Command) → All Own k.bindings × All DepSo (k.deps ++ runner_deps k.runner) → All So (of_command ps p k)
  command_so p k (bound, deps) =
      All-append So (in_folder p k.bindings) (flat_map (of_dep ps) k.deps ++ of_runner ps k.runner) (folder_so Own p (λ f b it. by_own p.selection.interface f b it) k.bindings bound)
      (All-append So (flat_map (of_dep ps) k.deps) (of_runner ps k.runner)
      (all_flat So DepSo (of_dep ps) (λ d h. dep_so d h) k.deps (all_front DepSo k.deps (runner_deps k.runner) deps))
      (runner_so k.runner (all_back DepSo k.deps (runner_deps k.runner) deps)))

  placed_so : (p : Placed) → HoldsIn Own Of p.selection → All So (of_placed ps p)
  placed_so p (bound, deps) =
      let x = p.selection in
      let of_commands = flat_all Own (λ (k : Command). k.bindings) x.commands (all_back Own x.bindings (flat_map (λ (k : Command). k.bindings) x.commands) bound) in
      let inner = flat_all DepSo (λ (k : Command). k.deps ++ runner_deps k.runner) x.commands (all_back DepSo x.deps (flat_map (λ (k : Command). k.deps ++ runner_deps k.runner) x.commands) deps) in
      All-append So (in_folder p x.bindings) (flat_map (of_dep ps) x.deps ++ flat_map (of_command ps p) x.commands)
      (folder_so Own p (λ f b it. by_own p.selection.interface f b it) x.bindings (all_front Own x.bindings (flat_map (λ (k : Command). k.bindings) x.commands) bound))
      (All-append So (flat_map (of_dep ps) x.deps) (flat_map (of_command ps p) x.commands)
      (all_flat So DepSo (of_dep ps) (λ d k. dep_so d k) x.deps (all_front DepSo x.deps (flat_map (λ (k : Command). k.deps ++ runner_deps k.runner) x.commands) deps))
      (all_flat So (λ (k : Command). All Own k.bindings × All DepSo (k.deps ++ runner_deps k.runner)) (of_command ps p) (λ k both. command_so p k both) x.commands
      (both_all (λ (k : Command). All Own k.bindings) (λ (k : Command). All DepSo (k.deps ++ runner_deps k.runner)) x.commands of_commands inner)))

  all_so : (qs : List Placed) → All (λ (p : Placed). HoldsIn Own Of p.selection) qs → All So (flat_map (of_placed ps) qs)
  all_so qs h = all_flat So (λ (p : Placed). HoldsIn Own Of p.selection) (of_placed ps) (λ p k. placed_so p k) qs h

placed_hold : (P : Selection → Type 0) (items : List Selection) (folders : List (Option (List ℕ))) → All P items → All (λ (p : Placed). P p.selection) (all_placed items folders)
placed_hold P [] folders h = All-nil (λ (p : Placed). P p.selection)
placed_hold P (x ∷ xs) [] h = All-nil (λ (p : Placed). P p.selection)
placed_hold P (x ∷ xs) (f ∷ fs) h = All-cons (λ (p : Placed). P p.selection) (placed_in x f) (all_placed xs fs) (All-head P x xs h) (placed_hold P xs fs (All-tail P x xs h))

-- those that make a command available
shimmed_so : (P Q : Bound → Type 0) → ((b : Bound) → is_shimmed b.binding ≡ true → P b → Q b) → (bs : List Bound) → All P bs → All Q (shimmed bs)
shimmed_so P Q one [] h = All-nil Q
shimmed_so P Q one (b ∷ bs) h = by (is_shimmed b.binding) refl (All-head P b bs h) (shimmed_so P Q one bs (All-tail P b bs h))
  where
    by : (t : Bool) → is_shimmed b.binding ≡ t → P b → All Q (shimmed bs) → All Q (if t then b ∷ shimmed bs else shimmed bs)
    by true e it rest = All-cons Q b (shimmed bs) (one b e it) rest
    by false e it rest = rest

-- Names.

abbrev Named : List ℕ → Type 0
Named name = is_shim_name name ≡ true

named : (b : Binding) → is_shimmed b ≡ true → HasShimName b → Named (shim_name b)
named (Env name extra mode separator default) e h = absurd (cc e)
named (ExecVar name command) e h = h
named (ExecPath name command) e h = h
named (Unbuilt element) e h = absurd (cc e)

names_hold : (x : Selection) → All HasShimName (bindings_in x) → HoldsIn HasShimName (λ i b. HasShimName b) x
names_hold x h =
    let commands = flat_map (λ (k : Command). k.bindings) x.commands in
    let deps = flat_map (λ (d : Dep). d.bindings) (deps_in x) in
    let rest = all_back HasShimName x.bindings (commands ++ deps) h in (
      All-append HasShimName x.bindings commands (all_front HasShimName x.bindings (commands ++ deps) h) (all_front HasShimName commands deps rest),
      flat_all HasShimName (λ (d : Dep). d.bindings) (deps_in x) (all_back HasShimName commands deps rest),
    )

shims_right : (items : List Selection) (folders : List (Option (List ℕ))) → All (λ (x : Selection). All HasShimName (bindings_in x)) items
    → All (λ (b : Bound). Named (shim_name b.binding)) (shimmed (all_bindings (all_placed items folders)))
shims_right items folders h =
    let ps = all_placed items folders in
    shimmed_so (λ (b : Bound). HasShimName b.binding) (λ (b : Bound). Named (shim_name b.binding)) (λ b e it. named b.binding e it) (all_bindings ps)
    (all_so (λ (b : Bound). HasShimName b.binding) HasShimName (λ i b. HasShimName b) ps (λ i f b it. it) (λ i f b some it. it) ps
    (placed_hold (HoldsIn HasShimName (λ i b. HasShimName b)) items folders (λ k d lt. names_hold (get_or items k d) (h k d lt))))

all_mapped : {X Y : Type 0} (P : Y → Type 0) (f : X → Y) (xs : List X) → All (λ x. P (f x)) xs → All P (map f xs)
all_mapped P f [] h = All-nil P
all_mapped P f (x ∷ xs) h = All-cons P (f x) (map f xs) (All-head (λ x. P (f x)) x xs h) (all_mapped P f xs (All-tail (λ x. P (f x)) x xs h))

all_unmapped : {X Y : Type 0} (P : Y → Type 0) (f : X → Y) (xs : List X) → All P (map f xs) → All (λ x. P (f x)) xs
all_unmapped P f [] h = All-nil (λ x. P (f x))
all_unmapped P f (x ∷ xs) h = All-cons (λ x. P (f x)) x xs (All-head P (f x) (map f xs) h) (all_unmapped P f xs (All-tail P (f x) (map f xs) h))

pub calls_right : (sels : Selections) (vars : List Var) (user : List (List ℕ)) (folders : List (Option (List ℕ))) (calls : List ShimCall) → HaveShimNames sels → HasCalls sels vars user folders calls
    → All (λ (call : ShimCall). is_shim_name call.name ≡ true) calls
calls_right sels vars user folders calls h has =
    all_unmapped Named (λ (call : ShimCall). call.name) calls
    (subst (All Named) (sym (calls_named sels vars folders calls has.1))
    (all_mapped Named (λ (b : Bound). shim_name b.binding) (shims_of sels folders) (shims_right sels.items folders h)))

-- Commands.

-- what the shim of a binding runs is there
abbrev pub HasProgram : List Selection → Bound → Type 0
HasProgram items b = HasCommand items b.interface (shim_command b.binding)

-- what is placed for an interface is selected for it
selected_for : (items : List Selection) (folders : List (Option (List ℕ))) (i : List ℕ) → IsSome (placed_for (all_placed items folders) i) → IsSome (find (λ (x : Selection). bytes_eq x.interface i) items)
selected_for [] folders i h = absurd (cc h)
selected_for (x ∷ xs) [] i h = absurd (cc h)
selected_for (x ∷ xs) (f ∷ fs) i h = by (bytes_eq x.interface i) h (selected_for xs fs i)
  where
    by : (b : Bool) → IsSome (cond b (Some (placed_in x f)) (placed_for (all_placed xs fs) i)) → (IsSome (placed_for (all_placed xs fs) i) → IsSome (find (λ (x : Selection). bytes_eq x.interface i) xs))
        → IsSome (cond b (Some x) (find (λ (x : Selection). bytes_eq x.interface i) xs))
    by true h go = refl
    by false h go = go h

has_selected : (items : List Selection) (i name : List ℕ) → IsSome (find (λ (x : Selection). bytes_eq x.interface i) items) → HasIfSelected items i name → HasCommand items i name
has_selected items i name some h = by (find (λ (x : Selection). bytes_eq x.interface i) items) some h
  where
    by : (o : Option Selection) → IsSome o → IfSome o (λ x. IsNamed name x.commands) → IsSomeAnd o (λ x. IsNamed name x.commands)
    by None some h = absurd (cc some)
    by (Some x) some h = h

-- where it makes one available
abbrev IsRunnable : List Selection → Bound → Type 0
IsRunnable items b = is_shimmed b.binding ≡ true → HasProgram items b

none_runs : (items : List Selection) (i f : List ℕ) (b : Binding) → command_by b ≡ None → IsRunnable items (record { interface = i; folder = f; binding = b })
none_runs items i f (Env name extra mode separator default) h = λ e. absurd (cc e)
none_runs items i f (ExecVar name command) h = absurd (cc h)
none_runs items i f (ExecPath name command) h = absurd (cc h)
none_runs items i f (Unbuilt element) h = λ e. absurd (cc e)

available_runs : (items : List Selection) (i f : List ℕ) (b : Binding) → IsSome (find (λ (x : Selection). bytes_eq x.interface i) items) → IsAvailable items i b
    → IsRunnable items (record { interface = i; folder = f; binding = b })
available_runs items i f (Env name extra mode separator default) some h = λ e. absurd (cc e)
available_runs items i f (ExecVar name command) some h = λ e. has_selected items i command some h
available_runs items i f (ExecPath name command) some h = λ e. has_selected items i command some h
available_runs items i f (Unbuilt element) some h = λ e. absurd (cc e)

pub all_programs : (sels : Selections) (folders : List (Option (List ℕ))) → HavePrograms sels → All (HasProgram sels.items) (shims_of sels folders)
all_programs sels folders h =
    let ps = all_placed sels.items folders in
    shimmed_so (IsRunnable sels.items) (HasProgram sels.items) (λ b e it. it e) (all_bindings ps)
    (all_so (IsRunnable sels.items) (λ b. command_by b ≡ None) (IsAvailable sels.items) ps (λ i f b it. none_runs sels.items i f b it)
    (λ i f b some it. available_runs sels.items i f b (selected_for sels.items folders i some) it) ps
    (placed_hold (HoldsIn (λ b. command_by b ≡ None) (IsAvailable sels.items)) sels.items folders (λ k d lt. let x = h k d lt in (x.own, x.deps))))
