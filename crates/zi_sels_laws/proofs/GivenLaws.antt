-- What is read of the elements of a feed that have no fault: parts as a selection may have them, once the dependencies among them
-- are plain.
use Rattle.std.proofs.Common.{◌≡◌, ℕ, Bool, true, false, ◌||◌, List, [], ◌∷◌, Some, codes, refl, ap, ◌∙◌, inl}
use Rattle.std.specs.Prelude.{if◌then◌else◌}
use Rattle.zi_elements.specs.Forest.{Elem}
use Rattle.zi_address.specs.Texts.{same}
use Rattle.zi_reading.specs.Words.{is_among, first, optional}
use Rattle.zi_reading.specs.Ways.{Ways}
use Rattle.zi_reading.specs.Reading.{is, is_ours, parts, those, named}
use Rattle.zi_parts.specs.Values.{dep_bindings_of, commands_by, kind_of, dep_of, deps_of, args_of, runner_of, command_of, commands_of}
use Rattle.zi_parts.specs.declared.types.Dep.{Dep}
use Rattle.zi_parts.specs.declared.types.DepKind.{DepKind}
use Rattle.zi_parts.specs.declared.types.DepKind.TheVariants.{Essential, Restricts}
use Rattle.zi_parts.specs.declared.types.Runner.{Runner}
use Rattle.zi_parts.specs.declared.types.Command.{Command}
use Rattle.zi_reading.proofs.TextLaws.{same_text}
use Rattle.zi_universe.specs.Candidates.{kind_asks}
use Rattle.zi_choice.proofs.ThereLaws.{In}
use Rattle.zi_sels.specs.Written.{command_wanted}
use Rattle.zi_sels_laws.proofs.LikeLaws.{Each}
use Rattle.zi_sels_laws.proofs.BindingLaws.{IsProperBinding}
use Rattle.zi_sels_laws.proofs.ShimLaws.{IsProperDepBinding, first_asked}
use Rattle.zi_sels_laws.proofs.WordLaws.{IsProperWord}
use Rattle.zi_sels_laws.proofs.CommandLaws.{IsDir, dir_names, runner_names}
use Rattle.zi_sels_laws.proofs.ItemLaws.{command_names}
use Rattle.zi_sels_laws.proofs.FreeLaws.{each_filter, each_weak, each_map, each_first, IsRight, IsChild, right_parts, child_ours}
use Rattle.zi_sels_laws.proofs.SoundLaws.{only_name, is_not_name, is_of_name, asked_names, bindings_sound, dep_bindings_sound, is_dependency, is_run_by, words_sound, runner_asks}

-- a dependency of a feed; in one that only restricts no binding is read
pub record IsGivenDep (dep : Dep) : Type 0 where
  pub commands : dep.commands ≡ commands_by [] dep.bindings
  pub bindings : kind_asks dep.kind ≡ true → Each IsProperDepBinding dep.bindings

-- a runner of a feed
pub record IsGivenRunner (runner : Runner) : Type 0 where
  pub kind : runner.dep.kind ≡ Essential
  pub commands : runner.dep.commands ≡ commands_by (command_wanted runner ∷ []) runner.dep.bindings
  pub bindings : Each IsProperDepBinding runner.dep.bindings
  pub words : Each IsProperWord runner.words

-- the first of some names is in them
first_in : (name : List ℕ) (names : List (List ℕ)) → first names ≡ Some name → In name names
first_in name [] h = absurd (cc h)
first_in name (n ∷ names) h = inl (cc h)

-- the command that a runner runs is asked of its interface
pub runner_first : (r : Runner) → IsGivenRunner r → In (command_wanted r) r.dep.commands
runner_first r g = first_in (command_wanted r) r.dep.commands (ap first g.commands ∙ first_asked (command_wanted r) r.dep.bindings)

-- a command of a feed
pub record IsGivenCommand (command : Command) : Type 0 where
  pub words : Each IsProperWord command.words
  pub runner : Each IsGivenRunner (optional command.runner)
  pub deps : Each IsGivenDep command.deps
  pub bindings : Each IsProperBinding command.bindings
  pub unbuilt : Each IsDir (optional command.unbuilt)

-- what is so of each child that counts is so of those of some names
each_named : (P : Elem → Type 0) (ways : Ways) (names : List (List ℕ)) (e : Elem) → IsRight ways e → ((c : Elem) → IsChild ways e.name c → is_among names c.name ≡ true → P c) → Each P (named ways names e)
each_named P ways names e h one =
    each_weak (λ c. IsChild ways e.name c × (is_among names c.name ≡ true)) P (λ c k. one c k.0 k.1) (those names (parts ways e))
    (each_filter (IsChild ways e.name) (λ c. is_among names c.name) (parts ways e) (right_parts ways e h))

-- one that asks for an interface is a `requires`
not_restricting : (b : Bool) (k : DepKind) → kind_asks (if b then Restricts else k) ≡ true → b ≡ false
not_restricting true k h = absurd (cc h)
not_restricting false k h = refl

asks_by_name : (c : Elem) → is_ours c ≡ true → is_among asked_names c.name ≡ true → kind_asks (kind_of c) ≡ true → is (codes "requires") c ≡ true
unfolding is_among
asks_by_name c ours known h =
    is_of_name (codes "requires") c ours
    (same_text c.name (codes "requires")
    (by (same c.name (codes "requires")) (same c.name (codes "restricts")) known (is_not_name (codes "restricts") c ours (not_restricting (is (codes "restricts") c) _ h))))
  where
    by : (a b : Bool) → (a || (b || false)) ≡ true → b ≡ false → a ≡ true
    by true b p q = refl
    by false true p q = absurd (cc q)
    by false false p q = absurd (cc p)

dep_given : (ways : Ways) (c : Elem) → IsRight ways c → is_ours c ≡ true → is_among asked_names c.name ≡ true → IsGivenDep (dep_of ways c)
unfolding dep_of
dep_given ways c h ours known = record { commands = refl; bindings = λ asks. dep_bindings_sound ways c h (is_dependency c (asks_by_name c ours known asks)) }

pub deps_given : (ways : Ways) (e : Elem) → IsRight ways e → Each IsGivenDep (deps_of ways e)
deps_given ways e h =
    each_map IsGivenDep (dep_of ways) (named ways asked_names e)
    (each_named (λ c. IsGivenDep (dep_of ways c)) ways asked_names e h (λ c k known. dep_given ways c k.right (child_ours ways e.name c k) known))

runner_kind : (ways : Ways) (c : Elem) → (runner_of ways c).dep.kind ≡ Essential
unfolding runner_of
runner_kind ways c = refl

runner_bindings : (ways : Ways) (c : Elem) → Each IsProperDepBinding (dep_bindings_of ways c) → Each IsProperDepBinding (runner_of ways c).dep.bindings
unfolding runner_of
runner_bindings ways c h = h

runner_words : (ways : Ways) (c : Elem) → Each IsProperWord (args_of ways c) → Each IsProperWord (runner_of ways c).words
unfolding runner_of
runner_words ways c h = h

runner_given : (ways : Ways) (c : Elem) → IsRight ways c → is_ours c ≡ true → c.name ≡ codes "runner" → IsGivenRunner (runner_of ways c)
runner_given ways c h ours name = record {
  kind = runner_kind ways c;
  commands = runner_asks ways c;
  bindings = runner_bindings ways c (dep_bindings_sound ways c h (is_run_by c (is_of_name (codes "runner") c ours name)));
  words = runner_words ways c (words_sound ways c h);
}

command_given : (ways : Ways) (c : Elem) → IsRight ways c → IsGivenCommand (command_of ways c)
unfolding command_of
command_given ways c h = record {
  words = words_sound ways c h;
  runner = each_first IsGivenRunner (runner_of ways) (named ways runner_names c) (each_named (λ r. IsGivenRunner (runner_of ways r)) ways runner_names c h
      (λ r k is. runner_given ways r k.right (child_ours ways c.name r k) (only_name r.name (codes "runner") is)));
  deps = deps_given ways c h;
  bindings = bindings_sound ways c h;
  unbuilt = each_first IsDir (λ (w : Elem). w.name) (named ways dir_names c) (each_named (λ w. IsDir w.name) ways dir_names c h (λ w k is. only_name w.name (codes "working-dir") is));
}

pub commands_given : (ways : Ways) (e : Elem) → IsRight ways e → Each IsGivenCommand (commands_of ways e)
commands_given ways e h =
    each_map IsGivenCommand (command_of ways) (named ways command_names e) (each_named (λ c. IsGivenCommand (command_of ways c)) ways command_names e h (λ c k is. command_given ways c k.right))
