-- Runners as they are written: what is read of them, and that nothing is wrong with them.
use Rattle.std.proofs.Common.{◌≡◌, ℕ, true, false, ◌||◌, List, [], ◌∷◌, ◌++◌, map, Option, Some, None, codes, refl, sym, ap, subst, ◌∙◌, append-nil}
use Rattle.std.specs.Prelude.{not, is_some, option_and_then, unwrap_or}
use Rattle.zi_version.specs.declared.alternative.Range.{Range}
use Rattle.zi_elements.specs.Forest.{Forest, Elem, elements, attribute, value}
use Rattle.zi_elements.specs.Namespace.{injector}
use Rattle.zi_docout.specs.Same.{IsSame}
use Rattle.zi_address.specs.Texts.{same}
use Rattle.zi_reading.specs.Ways.{AsWritten}
use Rattle.zi_reading.specs.Words.{is_among, listed, repeated}
use Rattle.zi_reading.specs.Reading.{is_part, is_unclear, parts, binding_names, meaning, read_in, those}
use Rattle.zi_faults.specs.Said.{Said}
use Rattle.zi_parts.specs.Values.{dep_binding_of, dep_bindings_of, commands_by, word_of, args_of, runner_of, ranges_of}
use Rattle.zi_faults.specs.Faults.{faults_with, kinds_at, is_bad_part, has_no_interface, has_fault, repeats_in, shims_in, share}
use Rattle.zi_faults.specs.declared.fault.FeedKind.TheVariants.{BadAddress}
use Rattle.zi_parts.specs.declared.types.Binding.{Binding}
use Rattle.zi_parts.specs.declared.types.Word.{Word}
use Rattle.zi_parts.specs.declared.types.DepKind.{DepKind}
use Rattle.zi_parts.specs.declared.types.DepKind.TheVariants.{Essential}
use Rattle.zi_parts.specs.declared.types.Runner.{Runner}
use Rattle.zi_sels.specs.Written.{binding_elem, word_elem, runner_elem, command_wanted}
use Rattle.zi_sels_laws.proofs.LikeLaws.{same_inside, Each, each_append, Parted, parted, filter_joined}
use Rattle.zi_sels_laws.proofs.FieldLaws.{Field, field, fields, looked, app}
use Rattle.zi_sels_laws.proofs.PlainLaws.{here_is, made_is, condition, IsPlain, IsOf, of_parts, of_those, free_clear, stood, plain_open, all_parts}
use Rattle.zi_sels_laws.proofs.CleanLaws.{IsClean, clean_inside, tested_faults, quiet_where, never_wrong}
use Rattle.zi_sels_laws.proofs.BindingLaws.{IsBinding, bindings_among, no_runner, no_command, no_repeats, good_part}
use Rattle.zi_sels_laws.proofs.ShimLaws.{shim_names, IsProperDepBinding, IsHarmless, dep_bindings_are, dep_bindings_back, dep_bindings_clean, dep_bindings_harmless, others_harmless, no_shims}
use Rattle.zi_sels_laws.proofs.WordLaws.{IsProperWord, word_names, words_are, words_back, words_clean}

-- a runner as it may be read of a selections document
pub record IsProperRunner (runner : Runner) : Type 0 where
  pub kind : runner.dep.kind ≡ Essential
  pub ranges : runner.dep.ranges ≡ []
  pub os : runner.dep.condition.os ≡ None
  pub wanted : runner.dep.condition.wanted ≡ None
  pub commands : runner.dep.commands ≡ commands_by (command_wanted runner ∷ []) runner.dep.bindings
  pub bindings : Each IsProperDepBinding runner.dep.bindings
  pub words : Each IsProperWord runner.words

-- Bindings and words, one behind the other.

pub bindings_no_words : Each (λ n. is_among word_names n ≡ false) binding_names
unfolding is_among same injector
bindings_no_words = (refl, (refl, (refl, (refl, (refl, tt)))))

pub words_among : Each (λ n. is_among word_names n ≡ true) word_names
unfolding is_among same injector
words_among = (refl, (refl, tt))

pub words_no_bindings : Each (λ n. is_among binding_names n ≡ false) word_names
unfolding is_among same injector
words_no_bindings = (refl, (refl, tt))

pub words_no_runner : Each (λ n. is_among (listed (codes "runner")) n ≡ false) word_names
unfolding is_among same injector
words_no_runner = (refl, (refl, tt))

pub words_no_command : Each (λ n. is_among (listed (codes "command")) n ≡ false) word_names
unfolding is_among same injector
words_no_command = (refl, (refl, tt))

words_no_shim : Each (λ n. is_among shim_names n ≡ false) word_names
unfolding is_among same injector
words_no_shim = (refl, (refl, tt))

bindings_stand : Each (λ n. stood (codes "runner") n ≡ true) binding_names
unfolding is_among same read_in injector
bindings_stand = (refl, (refl, (refl, (refl, (refl, tt)))))

words_stand : Each (λ n. stood (codes "runner") n ≡ true) word_names
unfolding is_among same read_in injector
words_stand = (refl, (refl, tt))

-- those of some names among two lists of elements
pub two_those : (names : List (List ℕ)) (xs ys us vs : List Elem) → those names xs ≡ us → those names ys ≡ vs → those names (xs ++ ys) ≡ us ++ vs
two_those names xs ys us vs h k = filter_joined (λ c. is_among names c.name) xs ys ∙ app (ap {B = List Elem → List Elem} (λ v w. v ++ w) h) k

-- The runner.

abbrev runner_fields : List ℕ → List ℕ → List Field
runner_fields interface command = field (codes "interface") (Some interface) ∷ field (codes "command") (Some command) ∷ []

abbrev runner_here : List ℕ → List ℕ → Forest → ℕ → Elem
runner_here interface command f p = here_is (codes "runner") (fields (runner_fields interface command)) f p

abbrev runner_by : Option (List ℕ) → Option (List ℕ) → List Binding → List Word → Runner
runner_by i c bs ws = record {
  dep = record {
    interface = unwrap_or (option_and_then (meaning AsWritten) i) [];
    kind = Essential;
    ranges = [];
    condition = record { os = None; wanted = None };
    commands = commands_by (unwrap_or c (codes "run") ∷ []) bs;
    bindings = bs;
  };
  words = ws;
}

runner_means : (i c : List ℕ) (f : Forest) (p : ℕ)
    → runner_of AsWritten (runner_here i c f p) ≡ runner_by (attribute (codes "interface") (runner_here i c f p)) (attribute (codes "command") (runner_here i c f p))
    (dep_bindings_of AsWritten (runner_here i c f p)) (args_of AsWritten (runner_here i c f p))
unfolding runner_of ranges_of
runner_means i c f p = refl

runner_plain : (i c : List ℕ) (f : Forest) (p : ℕ) → IsPlain (codes "runner") (runner_here i c f p)
runner_plain i c f p = record { space = refl; named = refl; free = looked condition (runner_fields i c) refl }

no_recipe : same (codes "runner") (codes "recipe") ≡ false
unfolding same injector
no_recipe = refl

runner_parts : (i c : List ℕ) (f : Forest) (p : ℕ) (bs ws : List Elem) → elements f ≡ bs ++ ws → Each IsBinding bs → Each (IsOf word_names) ws → parts AsWritten (runner_here i c f p) ≡ bs ++ ws
runner_parts i c f p bs ws whole h k =
    let e = runner_here i c f p in
    all_parts e (plain_open (codes "runner") e (runner_plain i c f p) no_recipe)
    (subst (Each (λ r. is_part AsWritten (codes "runner") r ≡ true)) (sym whole)
    (each_append (λ r. is_part AsWritten (codes "runner") r ≡ true) bs ws (of_parts binding_names (codes "runner") bindings_stand bs h) (of_parts word_names (codes "runner") words_stand ws k)))
    ∙ whole

abbrev runner_with : Runner → DepKind → List Range → Option (List ℕ) → Option (List ℕ) → List (List ℕ) → Runner
runner_with r k g o w c = record { dep = record { interface = r.dep.interface; kind = k; ranges = g; condition = record { os = o; wanted = w }; commands = c; bindings = r.dep.bindings }; words = r.words }

whole_runner : (r : Runner) → IsProperRunner r → runner_by (Some r.dep.interface) (Some (command_wanted r)) r.dep.bindings r.words ≡ r
whole_runner r h = app (app (app (app (ap (runner_with r) (sym h.kind)) (sym h.ranges)) (sym h.os)) (sym h.wanted)) (sym h.commands)

abbrev runner_at : Runner → Forest → ℕ → Elem
runner_at r f p = runner_here r.dep.interface (command_wanted r) f p

runner_here_back : (r : Runner) (f : Forest) (p : ℕ) → IsProperRunner r → Parted (map binding_elem r.dep.bindings) (map word_elem r.words) (elements f) → runner_of AsWritten (runner_at r f p) ≡ r
runner_here_back r f p h s =
    let i = r.dep.interface in
    let c = command_wanted r in
    let bs = dep_bindings_are r.dep.bindings s.front h.bindings s.front_same in
    let ws = words_are r.words s.back h.words s.back_same in
    let found = runner_parts i c f p s.front s.back s.whole bs ws in
    let bindings : dep_bindings_of AsWritten (runner_here i c f p) ≡ r.dep.bindings = ap (λ v. map dep_binding_of (those binding_names v)) found
    ∙ (ap (map dep_binding_of) (two_those binding_names s.front s.back s.front [] (of_those binding_names binding_names true bindings_among s.front bs) (of_those word_names binding_names false words_no_bindings s.back ws) ∙ append-nil s.front)
    ∙ dep_bindings_back r.dep.bindings s.front h.bindings s.front_same) in
    let args : args_of AsWritten (runner_here i c f p) ≡ r.words = ap (λ v. map (word_of AsWritten) (those word_names v)) found
    ∙ (ap (map (word_of AsWritten)) (two_those word_names s.front s.back [] s.back (of_those binding_names word_names false bindings_no_words s.front bs) (of_those word_names word_names true words_among s.back ws))
    ∙ words_back r.words s.back h.words s.back_same) in
    runner_means i c f p
    ∙ (app (app (app (ap runner_by (looked (codes "interface") (runner_fields i c) refl)) (looked (codes "command") (runner_fields i c) refl)) bindings) args
    ∙ whole_runner r h)

runner_tested : (s : Said) (i c : List ℕ) (f : Forest) (p : ℕ)
    → faults_with AsWritten s (runner_here i c f p) ≡ tested_faults (runner_here i c f p) (is_unclear (runner_here i c f p)) false (is_bad_part (runner_here i c f p))
    (has_no_interface (runner_here i c f p)) (has_fault AsWritten s BadAddress (runner_here i c f p)) (repeats_in AsWritten (runner_here i c f p)) (shims_in AsWritten (runner_here i c f p))
unfolding faults_with kinds_at same is_among injector
runner_tested s i c f p = refl

runner_named : (i c : List ℕ) (f : Forest) (p : ℕ) → has_no_interface (runner_here i c f p) ≡ false
unfolding same is_among injector
runner_named i c f p = ap (λ o. not (is_some o) || false) (looked (codes "interface") (runner_fields i c) refl)

runner_addressed : (s : Said) (i c : List ℕ) (f : Forest) (p : ℕ) → has_fault AsWritten s BadAddress (runner_here i c f p) ≡ false
unfolding same is_among injector
runner_addressed s i c f p = ap (λ b. b || false || false || false) (never_wrong (attribute (codes "interface") (runner_here i c f p)))

runner_good : (i c : List ℕ) (f : Forest) (p : ℕ) → is_bad_part (runner_here i c f p) ≡ false
unfolding same injector
runner_good i c f p = good_part (runner_here i c f p) refl refl refl refl

runner_here_clean : (r : Runner) (f : Forest) (p : ℕ) → IsProperRunner r → Parted (map binding_elem r.dep.bindings) (map word_elem r.words) (elements f) → IsClean (runner_at r f p)
runner_here_clean r f p h s =
    let i = r.dep.interface in
    let c = command_wanted r in
    let e = runner_here i c f p in
    let bs = dep_bindings_are r.dep.bindings s.front h.bindings s.front_same in
    let ws = words_are r.words s.back h.words s.back_same in (
      λ v. runner_tested v i c f p ∙ quiet_where e (is_unclear e) false (is_bad_part e) (has_no_interface e) (has_fault AsWritten v BadAddress e) (repeats_in AsWritten e) (shims_in AsWritten e)
          (free_clear e (looked condition (runner_fields i c) refl)) refl (runner_good i c f p) (runner_named i c f p) (runner_addressed v i c f p)
          (no_repeats e (s.front ++ s.back) (runner_parts i c f p s.front s.back s.whole bs ws)
          (ap (repeated (λ a b. true)) (two_those (listed (codes "runner")) s.front s.back [] [] (of_those binding_names (listed (codes "runner")) false no_runner s.front bs) (of_those word_names (listed (codes "runner")) false words_no_runner s.back ws)))
          (ap (repeated (share (codes "name"))) (two_those (listed (codes "command")) s.front s.back [] [] (of_those binding_names (listed (codes "command")) false no_command s.front bs) (of_those word_names (listed (codes "command")) false words_no_command s.back ws))))
          (no_shims e (s.front ++ s.back) (runner_parts i c f p s.front s.back s.whole bs ws)
          (each_append IsHarmless s.front s.back (dep_bindings_harmless r.dep.bindings s.front h.bindings s.front_same) (others_harmless word_names words_no_shim s.back ws))),
      clean_inside (codes "runner") f (subst (Each IsClean) (sym s.whole)
          (each_append IsClean s.front s.back (dep_bindings_clean r.dep.bindings s.front h.bindings s.front_same) (words_clean r.words s.back h.words s.back_same))),
    )

runner_same : (x : Runner) (r : Elem) → IsSame (runner_elem x) r → runner_at x r.inside r.place ≡ r
unfolding runner_elem
runner_same x r s = made_is (codes "runner") (fields (runner_fields x.dep.interface (command_wanted x))) _ r s

runner_inside : (x : Runner) (r : Elem) → IsSame (runner_elem x) r → Parted (map binding_elem x.dep.bindings) (map word_elem x.words) (elements r.inside)
unfolding runner_elem
runner_inside x r s =
    parted (map binding_elem x.dep.bindings) (map word_elem x.words) (elements r.inside)
    (same_inside (codes "runner") (fields (runner_fields x.dep.interface (command_wanted x))) (map binding_elem x.dep.bindings ++ map word_elem x.words) r s)

runner_known : is_among (listed (codes "runner")) (codes "runner") ≡ true
unfolding is_among same injector
runner_known = refl

pub runner_is : (x : Runner) (r : Elem) → IsProperRunner x → IsSame (runner_elem x) r → IsOf (listed (codes "runner")) r
runner_is x r h s = record {
  name = codes "runner";
  plain = subst (IsPlain (codes "runner")) (runner_same x r s) (runner_plain x.dep.interface (command_wanted x) r.inside r.place);
  known = runner_known;
}

pub runner_back : (x : Runner) (r : Elem) → IsProperRunner x → IsSame (runner_elem x) r → runner_of AsWritten r ≡ x
runner_back x r h s = ap (runner_of AsWritten) (sym (runner_same x r s)) ∙ runner_here_back x r.inside r.place h (runner_inside x r s)

pub runner_clean : (x : Runner) (r : Elem) → IsProperRunner x → IsSame (runner_elem x) r → IsClean r
runner_clean x r h s = subst IsClean (runner_same x r s) (runner_here_clean x r.inside r.place h (runner_inside x r s))

-- what it asks for
pub runner_interface : (x : Runner) (r : Elem) → IsProperRunner x → IsSame (runner_elem x) r → value (codes "interface") r ≡ x.dep.interface
runner_interface x r h s = ap (value (codes "interface")) (sym (runner_same x r s)) ∙ ap (λ o. unwrap_or o []) (looked (codes "interface") (runner_fields x.dep.interface (command_wanted x)) refl)
