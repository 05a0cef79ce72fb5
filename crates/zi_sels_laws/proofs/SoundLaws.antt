-- What is read of elements without a fault: parts of selections as they may be written.
use Rattle.std.proofs.Common.{◌≡◌, ℕ, Bool, true, false, ◌&&◌, ◌||◌, ◌==◌, List, [], ◌∷◌, map, Option, Some, None, codes, refl, sym, ap, subst, ◌∙◌}
use Rattle.std.specs.Prelude.{not, is_some, option_and_then, unwrap_or, if◌then◌else◌}
use Rattle.std.specs.List.{list_any}
use Rattle.std.proofs.lemmas.Bool.{and_parts, or_parts, or_right}
use Rattle.zi_elements.specs.Forest.{Elem, attribute, lacks, value, text_in}
use Rattle.zi_elements.specs.Namespace.{injector}
use Rattle.zi_address.specs.Texts.{same, is_none}
use Rattle.zi_reading.specs.Words.{is_among, listed, is_wrong}
use Rattle.zi_parts.specs.Values.{mode_of, importance_of, binding_of, bindings_of, command_named, dep_binding_of, dep_bindings_of, commands_by, dep_of, deps_of, ranges_of, extra_of, word_of, args_of, runner_of, command_of}
use Rattle.zi_reading.specs.Ways.{Ways, AsWritten}
use Rattle.zi_reading.specs.Reading.{is, is_ours, parts, binding_names, those}
use Rattle.zi_faults.specs.Faults.{is_bad_part, is_bad_environment, is_bad_for_each, is_no_program, is_bad_shim, takes_shims}
use Rattle.zi_parts.specs.declared.types.Binding.TheVariants.{Env, ExecVar, ExecPath, Unbuilt}
use Rattle.zi_parts.specs.declared.types.Mode.TheVariants.{Prepend}
use Rattle.zi_parts.specs.declared.types.Word.TheVariants.{Arg, ForEach}
use Rattle.zi_parts.specs.declared.types.DepKind.TheVariants.{Essential, Recommended, Restricts}
use Rattle.zi_reading.proofs.TextLaws.{same_text, same_refl}
use Rattle.zi_sels.specs.Written.{command_wanted}
use Rattle.zi_sels_laws.proofs.LikeLaws.{Each, each_both}
use Rattle.zi_sels_laws.proofs.FieldLaws.{app}
use Rattle.zi_sels_laws.proofs.BindingLaws.{IsProperBinding, other_names}
use Rattle.zi_sels_laws.proofs.ShimLaws.{shim_names, unbuilt_names, IsProperDepBinding, IsHarmless, shims_harmless, first_asked}
use Rattle.zi_sels_laws.proofs.DepLaws.{IsProperDep, IsAsked}
use Rattle.zi_sels_laws.proofs.WordLaws.{IsProperWord, word_names}
use Rattle.zi_sels_laws.proofs.RunnerLaws.{IsProperRunner}
use Rattle.zi_sels_laws.proofs.CommandLaws.{IsProperCommand, IsDir, dir_names, runner_names}
use Rattle.zi_sels_laws.proofs.FreeLaws.{each_filter, each_weak, each_map, each_first, IsRight, IsChild, right_sound, right_part, right_parts, child_ours, child_own}

-- Names.

-- a name that is the only one of some
pub only_name : (n m : List ℕ) → is_among (m ∷ []) n ≡ true → n ≡ m
unfolding is_among
only_name n m h = same_text n m (alone (same n m) h)
  where
    alone : (b : Bool) → (b || false) ≡ true → b ≡ true
    alone true k = refl
    alone false k = absurd (cc k)

-- an element of a name
pub is_name : (name : List ℕ) (c : Elem) → is name c ≡ true → (is_ours c ≡ true) × (c.name ≡ name)
is_name name c h = let b = and_parts (is_ours c) (same c.name name) h in (b.0, same_text c.name name b.1)

pub is_not_name : (name : List ℕ) (c : Elem) → is_ours c ≡ true → is name c ≡ false → same c.name name ≡ false
is_not_name name c h k = sym (ap (λ b. b && same c.name name) h) ∙ k

pub is_of_name : (name : List ℕ) (c : Elem) → is_ours c ≡ true → c.name ≡ name → is name c ≡ true
is_of_name name c h k = app (ap {B = Bool → Bool} (λ x y. x && y) h) (same_refl c.name name k)

-- Bindings.

-- the part that is bad by one of four causes
first_cause : (a b c d : Bool) → (a || b || c || d) ≡ false → a ≡ false
first_cause false false false false h = refl
first_cause true b c d h = absurd (cc h)
first_cause false true c d h = absurd (cc h)
first_cause false false true d h = absurd (cc h)
first_cause false false false true h = absurd (cc h)

third_cause : (a b c d : Bool) → (a || b || c || d) ≡ false → c ≡ false
third_cause false false false false h = refl
third_cause true b c d h = absurd (cc h)
third_cause false true c d h = absurd (cc h)
third_cause false false true d h = absurd (cc h)
third_cause false false false true h = absurd (cc h)

pub second_cause : (a b c d : Bool) → (a || b || c || d) ≡ false → b ≡ false
second_cause false false false false h = refl
second_cause true b c d h = absurd (cc h)
second_cause false true c d h = absurd (cc h)
second_cause false false true d h = absurd (cc h)
second_cause false false false true h = absurd (cc h)

named_well : (c : Elem) → is (codes "environment") c ≡ true → is_bad_part c ≡ false → (is_none (value (codes "name") c) ≡ false) × (list_any (λ x. x == 61) (value (codes "name") c) ≡ false)
named_well c h k =
    let bad : is_bad_environment c ≡ false = sym (ap (λ b. b && is_bad_environment c) h) ∙ first_cause (is (codes "environment") c && is_bad_environment c) (is (codes "command") c && lacks (codes "name") c) (is (codes "for-each") c && is_bad_for_each c)
    (is (codes "requires") c && is_wrong (λ t. is_some (importance_of t)) (attribute (codes "importance") c)) k in
    five _ _ _ _ _ bad
  where
    five : (a b d e m : Bool) → (a || b || d || e || m) ≡ false → (a ≡ false) × (b ≡ false)
    five false false d e m q = (refl, refl)
    five true b d e m q = absurd (cc q)
    five false true d e m q = absurd (cc q)

other_name : (n : List ℕ) → is_among binding_names n ≡ true → same n (codes "environment") ≡ false → is_among other_names n ≡ true
unfolding is_among
other_name n h k = sym (ap (λ b. b || is_among other_names n) k) ∙ h

pub binding_sound : (c : Elem) → is_ours c ≡ true → is_bad_part c ≡ false → is_among binding_names c.name ≡ true → IsProperBinding (binding_of c)
unfolding binding_of
binding_sound c ours good known = either (is (codes "environment") c) refl
  where
    either : (b : Bool) → is (codes "environment") c ≡ b
        → IsProperBinding (if b then Env (value (codes "name") c) (extra_of c) (unwrap_or (option_and_then mode_of (attribute (codes "mode") c)) Prepend)
        (unwrap_or (attribute (codes "separator") c) (codes ":")) (attribute (codes "default") c) else Unbuilt c.name)
    either true h = named_well c h good
    either false h = other_name c.name known (is_not_name (codes "environment") c ours h)

-- a child is one of its parent's that is right
pub bindings_sound : (ways : Ways) (e : Elem) → IsRight ways e → Each IsProperBinding (bindings_of ways e)
bindings_sound ways e h =
    each_map IsProperBinding binding_of (those binding_names (parts ways e))
    (each_weak (λ c. IsChild ways e.name c × (is_among binding_names c.name ≡ true)) (λ c. IsProperBinding (binding_of c))
    (λ c k. binding_sound c (child_ours ways e.name c k.0) (right_part ways c k.0.right) k.1) (those binding_names (parts ways e))
    (each_filter (IsChild ways e.name) (λ c. is_among binding_names c.name) (parts ways e) (right_parts ways e h)))

-- Those of a dependency.

unbuilt_name : (n : List ℕ) → is_among binding_names n ≡ true → same n (codes "environment") ≡ false → same n (codes "executable-in-var") ≡ false → same n (codes "executable-in-path") ≡ false
    → is_among unbuilt_names n ≡ true
unfolding is_among
unbuilt_name n h e v p =
    sym (ap (λ b. b || is_among unbuilt_names n) p)
    ∙ (sym (ap (λ b. b || (same n (codes "executable-in-path") || is_among unbuilt_names n)) v)
    ∙ (sym (ap (λ b. b || (same n (codes "executable-in-var") || (same n (codes "executable-in-path") || is_among unbuilt_names n))) e) ∙ h))

var_named : (c : Elem) → c.name ≡ codes "executable-in-var" → is_among shim_names c.name ≡ true
unfolding is_among same injector
var_named c h = ap (is_among shim_names) h

path_named : (c : Elem) → c.name ≡ codes "executable-in-path" → is_among shim_names c.name ≡ true
unfolding is_among same injector
path_named c h = ap (is_among shim_names) h

right_name : (c : Elem) → is_among shim_names c.name ≡ true → IsHarmless c → is_no_program (value (codes "name") c) ≡ false
unfolding is_bad_shim
right_name c h k = sym (ap (λ b. b && is_bad_shim c) h) ∙ k

dep_binding_sound : (c : Elem) → is_ours c ≡ true → is_bad_part c ≡ false → IsHarmless c → is_among binding_names c.name ≡ true → IsProperDepBinding (dep_binding_of c)
unfolding dep_binding_of binding_of
dep_binding_sound c ours good harmless known = either (is (codes "executable-in-var") c) (is (codes "executable-in-path") c) (is (codes "environment") c) refl refl refl
  where
    either : (v p b : Bool) → is (codes "executable-in-var") c ≡ v → is (codes "executable-in-path") c ≡ p → is (codes "environment") c ≡ b
        → IsProperDepBinding (if v then ExecVar (value (codes "name") c) (command_named c) else if p then ExecPath (value (codes "name") c) (command_named c)
        else if b then Env (value (codes "name") c) (extra_of c) (unwrap_or (option_and_then mode_of (attribute (codes "mode") c)) Prepend)
        (unwrap_or (attribute (codes "separator") c) (codes ":")) (attribute (codes "default") c) else Unbuilt c.name)
    either true p b hv hp hb = right_name c (var_named c (is_name (codes "executable-in-var") c hv).1) harmless
    either false true b hv hp hb = right_name c (path_named c (is_name (codes "executable-in-path") c hp).1) harmless
    either false false true hv hp hb = named_well c hb good
    either false false false hv hp hb =
        unbuilt_name c.name known (is_not_name (codes "environment") c ours hb) (is_not_name (codes "executable-in-var") c ours hv) (is_not_name (codes "executable-in-path") c ours hp)

pub dep_bindings_sound : (ways : Ways) (e : Elem) → IsRight ways e → takes_shims e ≡ true → Each IsProperDepBinding (dep_bindings_of ways e)
dep_bindings_sound ways e h asked =
    let both = each_both (IsChild ways e.name) IsHarmless (parts ways e) (right_parts ways e h) (shims_harmless ways e asked (right_sound ways e h).shims) in
    each_map IsProperDepBinding dep_binding_of (those binding_names (parts ways e))
    (each_weak (λ c. (IsChild ways e.name c × IsHarmless c) × (is_among binding_names c.name ≡ true)) (λ c. IsProperDepBinding (dep_binding_of c))
    (λ c k. dep_binding_sound c (child_ours ways e.name c k.0.0) (right_part ways c k.0.0.right) k.0.1 k.1) (those binding_names (parts ways e))
    (each_filter (λ c. IsChild ways e.name c × IsHarmless c) (λ c. is_among binding_names c.name) (parts ways e) both))

pub is_dependency : (e : Elem) → is (codes "requires") e ≡ true → takes_shims e ≡ true
is_dependency e h = ap (λ b. b || is (codes "runner") e) h

pub is_run_by : (e : Elem) → is (codes "runner") e ≡ true → takes_shims e ≡ true
is_run_by e h = or_right (is (codes "requires") e) (is (codes "runner") e) h

-- Dependencies.

asked : (o : Option (List ℕ)) → IsAsked (unwrap_or (option_and_then importance_of o) Essential)
unfolding importance_of
asked None = tt
asked (Some t) = either (same t (codes "essential")) (same t (codes "recommended"))
  where
    either : (a b : Bool) → IsAsked (unwrap_or (if a then Some Essential else if b then Some Recommended else None) Essential)
    either true b = tt
    either false true = tt
    either false false = tt

pub not_restricts : same (codes "requires") (codes "restricts") ≡ false
unfolding same injector
not_restricts = refl

pub dep_sound : (c : Elem) → IsRight AsWritten c → is_ours c ≡ true → c.name ≡ codes "requires" → IsProperDep (dep_of AsWritten c)
unfolding dep_of ranges_of
dep_sound c h ours name = record {
  kind = subst IsAsked (sym (ap (λ b. if b then Restricts else unwrap_or (option_and_then importance_of (attribute (codes "importance") c)) Essential) (ends (is_ours c) (same c.name (codes "restricts")) (ap (λ n. same n (codes "restricts")) name ∙ not_restricts))))
      (asked (attribute (codes "importance") c));
  ranges = refl;
  os = refl;
  wanted = refl;
  commands = refl;
  bindings = dep_bindings_sound AsWritten c h (is_dependency c (is_of_name (codes "requires") c ours name));
}
  where
    ends : (a b : Bool) → b ≡ false → (a && b) ≡ false
    ends true b k = k
    ends false b k = refl

-- Arguments and loops.

loop_name : (n : List ℕ) → is_among word_names n ≡ true → same n (codes "arg") ≡ false → n ≡ codes "for-each"
unfolding is_among
loop_name n h k = same_text n (codes "for-each") (alone (same n (codes "for-each")) (sym (ap (λ b. b || (same n (codes "for-each") || false)) k) ∙ h))
  where
    alone : (b : Bool) → (b || false) ≡ true → b ≡ true
    alone true l = refl
    alone false l = absurd (cc l)

split_well : (c : Elem) → is (codes "for-each") c ≡ true → is_bad_part c ≡ false → is_none (unwrap_or (attribute (codes "separator") c) (codes ":")) ≡ false
split_well c h k =
    let bad : is_bad_for_each c ≡ false = sym (ap (λ b. b && is_bad_for_each c) h) ∙ third_cause (is (codes "environment") c && is_bad_environment c) (is (codes "command") c && lacks (codes "name") c) (is (codes "for-each") c && is_bad_for_each c)
    (is (codes "requires") c && is_wrong (λ t. is_some (importance_of t)) (attribute (codes "importance") c)) k in
    either (attribute (codes "separator") c) (or_parts (lacks (codes "item-from") c) (is_wrong (λ t. not (is_none t)) (attribute (codes "separator") c)) bad).1
  where
    twice : (b : Bool) → not (not b) ≡ false → b ≡ false
    twice true q = absurd (cc q)
    twice false q = refl

    either : (o : Option (List ℕ)) → is_wrong (λ (t : List ℕ). not (is_none t)) o ≡ false → is_none (unwrap_or o (codes ":")) ≡ false
    either None q = refl
    either (Some t) q = twice (is_none t) q

pub word_sound : (ways : Ways) (c : Elem) → is_ours c ≡ true → is_bad_part c ≡ false → is_among word_names c.name ≡ true → IsProperWord (word_of ways c)
unfolding word_of
word_sound ways c ours good known = either (is (codes "arg") c) refl
  where
    either : (b : Bool) → is (codes "arg") c ≡ b → IsProperWord (if b then Arg (text_in c.inside)
        else ForEach (value (codes "item-from") c) (unwrap_or (attribute (codes "separator") c) (codes ":")) (map (λ (a : Elem). text_in a.inside) (parts ways c)))
    either true h = tt
    either false h = split_well c (is_of_name (codes "for-each") c ours (loop_name c.name known (is_not_name (codes "arg") c ours h))) good

pub words_sound : (ways : Ways) (e : Elem) → IsRight ways e → Each IsProperWord (args_of ways e)
words_sound ways e h =
    each_map IsProperWord (word_of ways) (those word_names (parts ways e))
    (each_weak (λ c. IsChild ways e.name c × (is_among word_names c.name ≡ true)) (λ c. IsProperWord (word_of ways c))
    (λ c k. word_sound ways c (child_ours ways e.name c k.0) (right_part ways c k.0.right) k.1) (those word_names (parts ways e))
    (each_filter (IsChild ways e.name) (λ c. is_among word_names c.name) (parts ways e) (right_parts ways e h)))

-- Runners.

-- the command of its own is the first one that is asked for
pub own_wanted : (ways : Ways) (c : Elem) → command_wanted (runner_of ways c) ≡ command_named c
unfolding runner_of
own_wanted ways c = ap (λ o. unwrap_or o (codes "run")) (first_asked (command_named c) (dep_bindings_of ways c))

pub runner_asks : (ways : Ways) (c : Elem) → (runner_of ways c).dep.commands ≡ commands_by (command_wanted (runner_of ways c) ∷ []) (runner_of ways c).dep.bindings
unfolding runner_of
runner_asks ways c = ap (λ (n : List ℕ). commands_by (n ∷ []) (dep_bindings_of ways c)) (sym (own_wanted ways c))

pub runner_sound : (c : Elem) → IsRight AsWritten c → is_ours c ≡ true → c.name ≡ codes "runner" → IsProperRunner (runner_of AsWritten c)
unfolding runner_of ranges_of
runner_sound c h ours name = record {
  kind = refl;
  ranges = refl;
  os = refl;
  wanted = refl;
  commands = runner_asks AsWritten c;
  bindings = dep_bindings_sound AsWritten c h (is_run_by c (is_of_name (codes "runner") c ours name));
  words = words_sound AsWritten c h;
}

-- Commands.

abbrev pub asked_names : List (List ℕ)
asked_names = listed (codes "requires restricts")

requires_name : (n : List ℕ) → is_among asked_names n ≡ true → is_among (listed (codes "version restricts")) n ≡ false → n ≡ codes "requires"
unfolding is_among
requires_name n h k = same_text n (codes "requires") (by (same n (codes "requires")) (same n (codes "version")) (same n (codes "restricts")) h k)
  where
    by : (a v r : Bool) → (a || (r || false)) ≡ true → (v || (r || false)) ≡ false → a ≡ true
    by true v r p q = refl
    by false false false p q = absurd (cc p)
    by false false true p q = absurd (cc q)
    by false true r p q = absurd (cc q)

pub dep_child : (parent : List ℕ) (c : Elem) → IsChild AsWritten parent c → is_among asked_names c.name ≡ true → c.name ≡ codes "requires"
dep_child parent c h k = requires_name c.name k (child_own parent c h).kept

pub deps_sound : (e : Elem) → IsRight AsWritten e → Each IsProperDep (deps_of AsWritten e)
deps_sound e h =
    each_map IsProperDep (dep_of AsWritten) (those asked_names (parts AsWritten e))
    (each_weak (λ c. IsChild AsWritten e.name c × (is_among asked_names c.name ≡ true)) (λ c. IsProperDep (dep_of AsWritten c))
    (λ c k. dep_sound c k.0.right (child_ours AsWritten e.name c k.0) (dep_child e.name c k.0 k.1)) (those asked_names (parts AsWritten e))
    (each_filter (IsChild AsWritten e.name) (λ c. is_among asked_names c.name) (parts AsWritten e) (right_parts AsWritten e h)))

pub command_sound : (c : Elem) → IsRight AsWritten c → c.name ≡ codes "command" → IsProperCommand (command_of AsWritten c)
unfolding command_of
command_sound c h name =
    let all = right_parts AsWritten c h in record {
      words = words_sound AsWritten c h;
      runner = each_first IsProperRunner (runner_of AsWritten) (those runner_names (parts AsWritten c))
          (each_weak (λ r. IsChild AsWritten c.name r × (is_among runner_names r.name ≡ true)) (λ r. IsProperRunner (runner_of AsWritten r)) (λ r k. runner_sound r k.0.right (child_ours AsWritten c.name r k.0) (only_name r.name (codes "runner") k.1))
          (those runner_names (parts AsWritten c)) (each_filter (IsChild AsWritten c.name) (λ r. is_among runner_names r.name) (parts AsWritten c) all));
      deps = deps_sound c h;
      bindings = bindings_sound AsWritten c h;
      unbuilt = each_first IsDir (λ (w : Elem). w.name) (those dir_names (parts AsWritten c))
          (each_weak (λ r. IsChild AsWritten c.name r × (is_among dir_names r.name ≡ true)) (λ r. IsDir r.name) (λ r k. only_name r.name (codes "working-dir") k.1)
          (those dir_names (parts AsWritten c)) (each_filter (IsChild AsWritten c.name) (λ r. is_among dir_names r.name) (parts AsWritten c) all));
    }
