-- The names of shims are right, whether selections were read or chosen.
use Rattle.std.proofs.Common.{◌≡◌, ℕ, true, List, ◌++◌, map, Option, Some, None, codes, sym, subst}
use Rattle.std.specs.Prelude.{All, filter, option_map, is_some}
use Rattle.std.specs.List.{flat_map}
use Rattle.std.proofs.lemmas.Bool.{and_parts}
use Rattle.zi_policy.specs.declared.types.Policy.{Policy}
use Rattle.zi_outside.specs.Views.{Holding}
use Rattle.zi_elements.specs.Forest.{Elem, elements, element_view}
use Rattle.zi_reading.specs.Words.{optional}
use Rattle.zi_reading.specs.Ways.{AsWritten}
use Rattle.zi_parts.specs.Values.{dep_of, command_of}
use Rattle.zi_parts.specs.declared.types.Binding.{Binding}
use Rattle.zi_parts.specs.declared.types.Binding.TheVariants.{Env, ExecVar, ExecPath, Unbuilt}
use Rattle.zi_parts.specs.declared.types.Command.{Command}
use Rattle.zi_parts.specs.declared.types.Dep.{Dep}
use Rattle.zi_parts.specs.declared.types.Runner.{Runner}
use Rattle.zi_feed.specs.Means.{counts_as}
use Rattle.zi_universe.specs.declared.types.Requirement.{Requirement}
use Rattle.zi_universe.specs.declared.types.Candidate.{Candidate}
use Rattle.zi_universe.specs.declared.types.Interface.{Interface}
use Rattle.zi_universe.specs.Candidates.{Store, asks}
use Rattle.zi_universe.specs.Loading.{Loads}
use Rattle.zi_choice.specs.Choice.{Choice}
use Rattle.zi_choice.specs.Walk.{Walk, is_used}
use Rattle.zi_choice.specs.Valid.{target}
use Rattle.zi_sels.specs.declared.types.Selection.{Selection}
use Rattle.zi_sels.specs.declared.types.Selections.{Selections}
use Rattle.zi_sels.specs.Chosen.{plain, is_met, met, plain_runner, used_command, used_of, selection_by, selected, AreSelected}
use Rattle.zi_sels.specs.Read.{counting, selections_in, selection_of, selections_of}
use Rattle.zi_sels.specs.Refused.{tree_fault}
use Rattle.zi_sels.specs.Reading.{Says}
use Rattle.zi_sels_laws.proofs.LikeLaws.{Each, each_append, each_both}
use Rattle.zi_sels_laws.proofs.BindingLaws.{IsProperBinding}
use Rattle.zi_sels_laws.proofs.ShimLaws.{IsProperDepBinding}
use Rattle.zi_sels_laws.proofs.DepLaws.{IsProperDep}
use Rattle.zi_sels_laws.proofs.RunnerLaws.{IsProperRunner}
use Rattle.zi_sels_laws.proofs.CommandLaws.{IsProperCommand}
use Rattle.zi_sels_laws.proofs.ItemLaws.{IsProperItem}
use Rattle.zi_sels_laws.proofs.AskedLaws.{IsMetWhole}
use Rattle.zi_sels_laws.proofs.RootLaws.{interfaces_of, IsProper}
use Rattle.zi_sels_laws.proofs.FreeLaws.{each_filter, each_weak, each_map, each_flat, sub_filter}
use Rattle.zi_sels_laws.proofs.EachLaws.{each_all, each_permuted}
use Rattle.zi_sels_laws.proofs.ReadBackLaws.{said_proper}
use Rattle.zi_sels_laws.proofs.GivenLaws.{IsGivenDep, IsGivenRunner, IsGivenCommand}
use Rattle.zi_sels_laws.proofs.FeedLaws.{IsGiven}
use Rattle.zi_sels_laws.proofs.LoadedLaws.{AreGivenIn, loaded_given}
use Rattle.zi_sels_laws.proofs.ChosenLaws.{chosen_given}
use Rattle.zi_sels_laws.proofs.SelectedLaws.{each_selected}
use Rattle.zi_shim_laws.specs.Names.{HasShimName, runner_deps, deps_in, bindings_in, HaveShimNames}
use Rattle.zi_shim_laws.proofs.NameLaws.{shim_named}
use Rattle.zi_shim_laws.proofs.PartLaws.{IsCarriedElem, root_carried, elements_carried, each_made, IsClear, IsClearDep, IsClearRunner, IsClearCommand, dep_clear, command_clear}
use Rattle.zi_shim_laws.proofs.FeedLaws.{IsClearImpl}
use Rattle.zi_shim_laws.proofs.LoadedLaws.{IsKept, AreClearIn, loaded_clear, chosen_clear}

-- Bindings: outside dependencies none makes a command available.

binding_named : (b : Binding) → IsProperBinding b → HasShimName b
binding_named (Env name extra mode separator default) h = tt
binding_named (ExecVar name command) h = absurd h
binding_named (ExecPath name command) h = absurd h
binding_named (Unbuilt element) h = tt

dep_binding_named : (b : Binding) → IsProperDepBinding b → IsClear b → HasShimName b
dep_binding_named (Env name extra mode separator default) h c = tt
dep_binding_named (ExecVar name command) h c = shim_named name h c
dep_binding_named (ExecPath name command) h c = shim_named name h c
dep_binding_named (Unbuilt element) h c = tt

-- What is so of each of which two things are so.
each_of_both : {X : Type 0} (P Q R : X → Type 0) → ((x : X) → P x → Q x → R x) → (xs : List X) → Each P xs → Each Q xs → Each R xs
each_of_both P Q R one xs h k = each_weak (λ x. P x × Q x) R (λ x b. one x b.0 b.1) xs (each_both P Q xs h k)

own_named : (bs : List Binding) → Each IsProperBinding bs → Each HasShimName bs
own_named bs h = each_weak IsProperBinding HasShimName binding_named bs h

all_named : (bs : List Binding) → Each IsProperDepBinding bs → Each IsClear bs → Each HasShimName bs
all_named bs h c = each_of_both IsProperDepBinding IsClear HasShimName dep_binding_named bs h c

-- Parts whose bindings have right names.

abbrev IsNamedDep : Dep → Type 0
IsNamedDep d = Each HasShimName d.bindings

record IsNamedCommand (k : Command) : Type 0 where
  bindings : Each HasShimName k.bindings
  deps : Each IsNamedDep k.deps
  runner : Each (λ (r : Runner). IsNamedDep r.dep) (optional k.runner)

record IsNamedItem (x : Selection) : Type 0 where
  bindings : Each HasShimName x.bindings
  deps : Each IsNamedDep x.deps
  commands : Each IsNamedCommand x.commands

runner_named : (o : Option Runner) → Each (λ (r : Runner). IsNamedDep r.dep) (optional o) → Each IsNamedDep (runner_deps o)
runner_named None h = tt
runner_named (Some r) h = h

abbrev AreNamedIn : Selection → Type 0
AreNamedIn x = All HasShimName (bindings_in x)

named_in : (x : Selection) → IsNamedItem x → AreNamedIn x
named_in x h =
    let of_command = λ (k : Command). k.deps ++ runner_deps k.runner in
    let of_commands = flat_map (λ (k : Command). k.bindings) x.commands in
    let of_deps = flat_map (λ (d : Dep). d.bindings) (deps_in x) in
    let deps : Each IsNamedDep (deps_in x) = each_append IsNamedDep x.deps (flat_map of_command x.commands) h.deps
    (each_flat IsNamedDep of_command IsNamedCommand (λ k q. each_append IsNamedDep k.deps (runner_deps k.runner) q.deps (runner_named k.runner q.runner)) x.commands h.commands) in
    each_all HasShimName (bindings_in x)
    (each_append HasShimName x.bindings (of_commands ++ of_deps) h.bindings
    (each_append HasShimName of_commands of_deps (each_flat HasShimName (λ (k : Command). k.bindings) IsNamedCommand (λ k q. q.bindings) x.commands h.commands)
    (each_flat HasShimName (λ (d : Dep). d.bindings) IsNamedDep (λ d q. q) (deps_in x) deps)))

-- What is read.

-- the names of its bindings can be carried
record IsClearItem (x : Selection) : Type 0 where
  deps : Each IsClearDep x.deps
  commands : Each IsClearCommand x.commands

proper_dep : (d : Dep) → IsProperDep d → IsClearDep d → IsNamedDep d
proper_dep d h c = all_named d.bindings h.bindings c

proper_runner : (o : Option Runner) → Each IsProperRunner (optional o) → Each IsClearRunner (optional o) → Each (λ (r : Runner). IsNamedDep r.dep) (optional o)
proper_runner None h c = tt
proper_runner (Some r) h c = (all_named r.dep.bindings h.0.bindings c.0, tt)

proper_command : (k : Command) → IsProperCommand k → IsClearCommand k → IsNamedCommand k
proper_command k h c = record {
  bindings = own_named k.bindings h.bindings;
  deps = each_of_both IsProperDep IsClearDep IsNamedDep proper_dep k.deps h.deps c.deps;
  runner = proper_runner k.runner h.runner c.runner;
}

proper_item : (x : Selection) → IsProperItem x → IsClearItem x → IsNamedItem x
proper_item x h c = record {
  bindings = own_named x.bindings h.bindings;
  deps = each_of_both IsProperDep IsClearDep IsNamedDep proper_dep x.deps h.deps c.deps;
  commands = each_of_both IsProperCommand IsClearCommand IsNamedCommand proper_command x.commands h.commands c.commands;
}

counting_carried : (name : List ℕ) (e : Elem) → IsCarriedElem e → Each IsCarriedElem (counting name e)
counting_carried name e h = sub_filter IsCarriedElem (counts_as name) (elements e.inside) (elements_carried e.inside h.texts)

item_clear : (e : Elem) → IsCarriedElem e → IsClearItem (selection_of e)
unfolding selection_of
item_clear e h = record {
  deps = each_made IsClearDep (dep_of AsWritten) (dep_clear AsWritten) (counting (codes "requires") e) (counting_carried (codes "requires") e h);
  commands = each_made IsClearCommand (command_of AsWritten) (command_clear AsWritten) (counting (codes "command") e) (counting_carried (codes "command") e h);
}

items_clear : (root : Elem) → IsCarriedElem root → Each IsClearItem (selections_of root).items
unfolding selections_of
items_clear root h = each_made IsClearItem selection_of item_clear (selections_in root) (counting_carried (codes "selection") root h)

proper_names : (s : Selections) → IsProper s → Each IsClearItem s.items → HaveShimNames s
proper_names s h c =
    each_all AreNamedIn s.items (each_of_both (IsMetWhole (interfaces_of s)) IsClearItem AreNamedIn (λ x k q. named_in x (proper_item x k.0 q)) s.items h.items c)

tree_names : (root : Elem) → tree_fault root ≡ None → IsCarriedElem root → HaveShimNames (selections_of root)
tree_names root right h = proper_names (selections_of root) (said_proper root right) (items_clear root h)

pub read_names : IsKept → (bytes : List ℕ) (s : Selections) → Says bytes s → HaveShimNames s
read_names kept bytes s h = subst HaveShimNames (sym h.means) (tree_names (element_view h.tree) h.right (root_carried h.tree (kept bytes h.tree h.spells.1)))

-- What is chosen.

given_dep : (u : List Interface) (s : Choice) (d : Dep) → IsGivenDep d → IsClearDep d → is_met u s d ≡ true → IsNamedDep (plain d)
given_dep u s d h c m = all_named d.bindings (h.bindings (and_parts (asks d) (is_some (target u s d)) m).0) c

met_named : (u : List Interface) (s : Choice) (ds : List Dep) → Each IsGivenDep ds → Each IsClearDep ds → Each IsNamedDep (met u s ds)
met_named u s ds h c =
    let both = each_both IsGivenDep IsClearDep ds h c in
    each_map IsNamedDep plain (filter (is_met u s) ds)
    (each_weak (λ d. (IsGivenDep d × IsClearDep d) × (is_met u s d ≡ true)) (λ d. IsNamedDep (plain d)) (λ d k. given_dep u s d k.0.0 k.0.1 k.1) (filter (is_met u s) ds)
    (each_filter (λ d. IsGivenDep d × IsClearDep d) (is_met u s) ds both))

given_runner : (o : Option Runner) → Each IsGivenRunner (optional o) → Each IsClearRunner (optional o) → Each (λ (r : Runner). IsNamedDep r.dep) (optional (option_map plain_runner o))
given_runner None h c = tt
given_runner (Some r) h c = (all_named r.dep.bindings h.0.bindings c.0, tt)

used_named : (u : List Interface) (s : Choice) (k : Command) → IsGivenCommand k → IsClearCommand k → IsNamedCommand (used_command u s k)
used_named u s k h c = record { bindings = own_named k.bindings h.bindings; deps = met_named u s k.deps h.deps c.deps; runner = given_runner k.runner h.runner c.runner }

all_used : (u : List Interface) (s : Choice) (w : Walk) (i : ℕ) (ks : List Command) → Each IsGivenCommand ks → Each IsClearCommand ks → Each IsNamedCommand (used_of u s w i ks)
all_used u s w i ks h c =
    let used = λ (k : Command). is_used w i k.name in
    each_map IsNamedCommand (used_command u s) (filter used ks)
    (each_of_both IsGivenCommand IsClearCommand (λ k. IsNamedCommand (used_command u s k)) (used_named u s) (filter used ks) (sub_filter IsGivenCommand used ks h) (sub_filter IsClearCommand used ks c))

made_named : (u : List Interface) (s : Choice) (w : Walk) (i : ℕ) (uri : List ℕ) (k : Candidate) → IsGiven k.imp → IsClearImpl k.imp → IsNamedItem (selection_by u s w i uri k)
unfolding selection_by
made_named u s w i uri k h c = record {
  bindings = own_named k.imp.bindings h.bindings;
  deps = met_named u s k.imp.deps h.deps c.deps;
  commands = all_used u s w i k.imp.commands h.commands c.commands;
}

pub chosen_names : IsKept → (told : Option Holding) (req : Requirement) (p : Policy) (stored : Store) (u : List Interface) (s : Choice) (sels : Selections) → Loads told req p stored u → AreSelected u req s sels → HaveShimNames sels
chosen_names kept told req p stored u s sels loads are =
    let w : Walk = are.walk in
    let given : Each AreGivenIn u = loaded_given told req p stored u loads in
    let clear : Each AreClearIn u = loaded_clear kept told req p stored u loads in
    let each : Each AreNamedIn (selected u s w) = each_selected AreNamedIn u s w 0 u
    (λ n j x k q at e. named_in (selection_by u s w j x.uri k) (made_named u s w j x.uri k (chosen_given u s j k given e) (chosen_clear u s j k clear e))) in
    each_all AreNamedIn sels.items (each_permuted AreNamedIn (selected u s w) sels.items are.same each)
