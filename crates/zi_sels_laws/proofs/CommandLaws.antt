-- Commands as they are written: what is read of them, and that nothing is wrong with them.
use Rattle.std.proofs.Common.{◌≡◌, ℕ, Bool, true, false, List, [], ◌∷◌, ◌++◌, map, Option, Some, None, codes, refl, sym, ap, subst, ◌∙◌, append-nil}
use Rattle.std.specs.Prelude.{not, is_some, option_map, unwrap_or}
use Rattle.zi_elements.specs.declared.element.Attr.{Attr}
use Rattle.zi_elements.specs.Forest.{Forest, Elem, elements, attribute}
use Rattle.zi_elements.specs.Namespace.{injector}
use Rattle.zi_docout.specs.Elements.{attr}
use Rattle.zi_docout.specs.Same.{IsSame}
use Rattle.zi_address.specs.Texts.{same}
use Rattle.zi_reading.specs.Ways.{AsWritten}
use Rattle.zi_reading.specs.Words.{is_among, listed, first, optional, repeated}
use Rattle.zi_reading.specs.Reading.{is_part, is_unclear, parts, binding_names, read_in, those, named}
use Rattle.zi_faults.specs.Said.{Said}
use Rattle.zi_parts.specs.Values.{binding_of, bindings_of, dep_of, deps_of, word_of, args_of, runner_of, command_of}
use Rattle.zi_faults.specs.Faults.{faults_with, kinds_at, is_bad_part, repeats_in, shims_in, share}
use Rattle.zi_parts.specs.declared.types.Binding.{Binding}
use Rattle.zi_parts.specs.declared.types.Word.{Word}
use Rattle.zi_parts.specs.declared.types.Dep.{Dep}
use Rattle.zi_parts.specs.declared.types.Runner.{Runner}
use Rattle.zi_parts.specs.declared.types.Command.{Command}
use Rattle.zi_sels.specs.Written.{attr_of, binding_elem, dep_elem, word_elem, runner_elem, unbuilt_elem, command_elem}
use Rattle.zi_sels_laws.proofs.LikeLaws.{AreSame, same_inside, Each, each_append, each_read, values_back, parted}
use Rattle.zi_sels_laws.proofs.FieldLaws.{Field, field, fields, looked, app}
use Rattle.zi_sels_laws.proofs.PlainLaws.{here_is, made_is, condition, IsPlain, IsOf, of_parts, of_those, free_clear, plain_open, all_parts}
use Rattle.zi_sels_laws.proofs.CleanLaws.{IsClean, clean_inside, tested_faults, quiet_where}
use Rattle.zi_sels_laws.proofs.BindingLaws.{IsProperBinding, IsBinding, bindings_are, bindings_back, bindings_clean, no_repeats, empty_repeats, none_same, good_part}
use Rattle.zi_sels_laws.proofs.DepLaws.{IsProperDep, dep_is, dep_back, dep_clean}
use Rattle.zi_sels_laws.proofs.WordLaws.{IsProperWord, word_names, words_are, words_back, words_clean}
use Rattle.zi_sels_laws.proofs.RunnerLaws.{IsProperRunner, runner_is, runner_back, runner_clean, two_those}

abbrev pub dir_names : List (List ℕ)
dir_names = listed (codes "working-dir")

abbrev pub dep_names : List (List ℕ)
dep_names = listed (codes "requires")

abbrev pub runner_names : List (List ℕ)
runner_names = listed (codes "runner")

abbrev pub IsDir : List ℕ → Type 0
IsDir name = name ≡ codes "working-dir"

-- a command as it may be read of a selections document
pub record IsProperCommand (command : Command) : Type 0 where
  pub words : Each IsProperWord command.words
  pub runner : Each IsProperRunner (optional command.runner)
  pub deps : Each IsProperDep command.deps
  pub bindings : Each IsProperBinding command.bindings
  pub unbuilt : Each IsDir (optional command.unbuilt)

-- One or none.

optional_map : {X Y : Type 0} (f : X → Y) (o : Option X) → optional (option_map f o) ≡ map f (optional o)
optional_map f None = refl
optional_map f (Some x) = refl

first_map : {X Y : Type 0} (f : X → Y) (xs : List X) → option_map f (first xs) ≡ first (map f xs)
first_map f [] = refl
first_map f (x ∷ xs) = refl

first_optional : {X : Type 0} (o : Option X) → first (optional o) ≡ o
first_optional None = refl
first_optional (Some x) = refl

-- the first of what was written of one or none
one_back : {X : Type 0} (f : Elem → X) (o : Option X) (rs : List Elem) → map f rs ≡ optional o → option_map f (first rs) ≡ o
one_back f o rs h = first_map f rs ∙ (ap first h ∙ first_optional o)

single : {X : Type 0} (make : X → Elem) (like : Elem → Elem → Bool) (o : Option X) (rs : List Elem) → AreSame (map make (optional o)) rs → repeated like rs ≡ []
single make like None [] s = refl
single make like None (r ∷ rs) s = absurd s
single make like (Some x) [] s = absurd s
single make like (Some x) (r ∷ []) s = refl
single make like (Some x) (r ∷ q ∷ rs) s = absurd s.1

-- Folders to work in.

dir_same : (name : List ℕ) (r : Elem) → IsSame (unbuilt_elem name) r → here_is name [] r.inside r.place ≡ r
dir_same name r s = made_is name [] _ r s

dir_tested : (s : Said) (f : Forest) (p : ℕ)
    → faults_with AsWritten s (here_is (codes "working-dir") [] f p) ≡ tested_faults (here_is (codes "working-dir") [] f p) false false false false false (repeats_in AsWritten (here_is (codes "working-dir") [] f p)) []
unfolding faults_with kinds_at shims_in same is_among is_unclear injector
dir_tested s f p = refl

dir_here_clean : (f : Forest) (p : ℕ) → elements f ≡ [] → IsClean (here_is (codes "working-dir") [] f p)
dir_here_clean f p inside =
    let e = here_is (codes "working-dir") [] f p in (
      λ v. dir_tested v f p ∙ quiet_where e false false false false false (repeats_in AsWritten e) [] refl refl refl refl refl (empty_repeats e inside) refl,
      clean_inside (codes "working-dir") f (subst (Each IsClean) (sym inside) tt),
    )

dir_clean : (name : List ℕ) (r : Elem) → IsDir name → IsSame (unbuilt_elem name) r → IsClean r
dir_clean name r h s =
    subst IsClean (dir_same name r s)
    (subst (λ n. IsClean (here_is n [] r.inside r.place)) (sym h) (dir_here_clean r.inside r.place (none_same (elements r.inside) (same_inside name [] [] r s))))

dir_plain : (name : List ℕ) (r : Elem) → IsSame (unbuilt_elem name) r → IsPlain name r
dir_plain name r s = subst (IsPlain name) (dir_same name r s) (record { space = refl; named = refl; free = refl })

dir_known : is_among dir_names (codes "working-dir") ≡ true
unfolding is_among same injector
dir_known = refl

dir_is : (name : List ℕ) (r : Elem) → IsDir name → IsSame (unbuilt_elem name) r → IsOf dir_names r
dir_is name r h s = record { name = name; plain = dir_plain name r s; known = subst (λ n. is_among dir_names n ≡ true) (sym h) dir_known }

dir_back : (name : List ℕ) (r : Elem) → IsDir name → IsSame (unbuilt_elem name) r → r.name ≡ name
dir_back name r h s = s.name

-- What stands in a command.

pub record PartsOf (c : Command) (rs : List Elem) : Type 0 where
  pub bindings : List Elem
  pub dirs : List Elem
  pub deps : List Elem
  pub words : List Elem
  pub runners : List Elem
  pub whole : rs ≡ bindings ++ dirs ++ deps ++ words ++ runners
  pub bindings_same : AreSame (map binding_elem c.bindings) bindings
  pub dirs_same : AreSame (map unbuilt_elem (optional c.unbuilt)) dirs
  pub deps_same : AreSame (map dep_elem c.deps) deps
  pub words_same : AreSame (map word_elem c.words) words
  pub runners_same : AreSame (map runner_elem (optional c.runner)) runners

parts_of : (c : Command) (rs : List Elem)
    → AreSame (map binding_elem c.bindings ++ optional (option_map unbuilt_elem c.unbuilt) ++ map dep_elem c.deps ++ map word_elem c.words ++ optional (option_map runner_elem c.runner)) rs → PartsOf c rs
parts_of c rs s =
    let b = map binding_elem c.bindings in
    let u = optional (option_map unbuilt_elem c.unbuilt) in
    let d = map dep_elem c.deps in
    let w = map word_elem c.words in
    let p4 = parted (b ++ u ++ d ++ w) (optional (option_map runner_elem c.runner)) rs s in
    let p3 = parted (b ++ u ++ d) w p4.front p4.front_same in
    let p2 = parted (b ++ u) d p3.front p3.front_same in
    let p1 = parted b u p2.front p2.front_same in record {
      bindings = p1.front;
      dirs = p1.back;
      deps = p2.back;
      words = p3.back;
      runners = p4.back;
      whole = p4.whole ∙ ap (λ v. v ++ p4.back) (p3.whole ∙ ap (λ v. v ++ p3.back) (p2.whole ∙ ap (λ v. v ++ p2.back) p1.whole));
      bindings_same = p1.front_same;
      dirs_same = subst (λ v. AreSame v p1.back) (optional_map unbuilt_elem c.unbuilt) p1.back_same;
      deps_same = p2.back_same;
      words_same = p3.back_same;
      runners_same = subst (λ v. AreSame v p4.back) (optional_map runner_elem c.runner) p4.back_same;
    }

-- the names of these
pub record NamesOf (bs us ds ws ks : List Elem) : Type 0 where
  pub bindings : Each IsBinding bs
  pub dirs : Each (IsOf dir_names) us
  pub deps : Each (IsOf dep_names) ds
  pub words : Each (IsOf word_names) ws
  pub runners : Each (IsOf runner_names) ks

dep_known : is_among dep_names (codes "requires") ≡ true
unfolding is_among same injector
dep_known = refl

dep_of_name : (dep : Dep) (r : Elem) → IsProperDep dep → IsSame (dep_elem dep) r → IsOf dep_names r
dep_of_name dep r h s = record { name = codes "requires"; plain = dep_is dep r h s; known = dep_known }

pub deps_are : (ds : List Dep) (rs : List Elem) → Each IsProperDep ds → AreSame (map dep_elem ds) rs → Each (IsOf dep_names) rs
deps_are ds rs h s = each_read dep_elem IsProperDep (IsOf dep_names) dep_of_name ds rs h s

pub deps_back : (ds : List Dep) (rs : List Elem) → Each IsProperDep ds → AreSame (map dep_elem ds) rs → map (dep_of AsWritten) rs ≡ ds
deps_back ds rs h s = values_back dep_elem (dep_of AsWritten) IsProperDep dep_back ds rs h s

pub deps_clean : (ds : List Dep) (rs : List Elem) → Each IsProperDep ds → AreSame (map dep_elem ds) rs → Each IsClean rs
deps_clean ds rs h s = each_read dep_elem IsProperDep IsClean dep_clean ds rs h s

pub names_of : (c : Command) (rs : List Elem) → IsProperCommand c → (p : PartsOf c rs) → NamesOf p.bindings p.dirs p.deps p.words p.runners
names_of c rs h p = record {
  bindings = bindings_are c.bindings p.bindings h.bindings p.bindings_same;
  dirs = each_read unbuilt_elem IsDir (IsOf dir_names) dir_is (optional c.unbuilt) p.dirs h.unbuilt p.dirs_same;
  deps = deps_are c.deps p.deps h.deps p.deps_same;
  words = words_are c.words p.words h.words p.words_same;
  runners = each_read runner_elem IsProperRunner (IsOf runner_names) runner_is (optional c.runner) p.runners h.runner p.runners_same;
}

five_those : (names : List (List ℕ)) (bs us ds ws ks b u d w k : List Elem) → those names bs ≡ b → those names us ≡ u → those names ds ≡ d → those names ws ≡ w → those names ks ≡ k
    → those names (bs ++ us ++ ds ++ ws ++ ks) ≡ b ++ u ++ d ++ w ++ k
five_those names bs us ds ws ks b u d w k hb hu hd hw hk =
    two_those names (bs ++ us ++ ds ++ ws) ks (b ++ u ++ d ++ w) k
    (two_those names (bs ++ us ++ ds) ws (b ++ u ++ d) w (two_those names (bs ++ us) ds (b ++ u) d (two_those names bs us b u hb hu) hd) hw) hk

the_bindings : (bs us ds ws ks : List Elem) → NamesOf bs us ds ws ks → those binding_names (bs ++ us ++ ds ++ ws ++ ks) ≡ bs
unfolding is_among same injector
the_bindings bs us ds ws ks n =
    five_those binding_names bs us ds ws ks bs [] [] [] [] (of_those binding_names binding_names true (refl, (refl, (refl, (refl, (refl, tt))))) bs n.bindings) (of_those dir_names binding_names false (refl, tt) us n.dirs)
    (of_those dep_names binding_names false (refl, tt) ds n.deps) (of_those word_names binding_names false (refl, (refl, tt)) ws n.words) (of_those runner_names binding_names false (refl, tt) ks n.runners)
    ∙ (append-nil (bs ++ [] ++ [] ++ []) ∙ (append-nil (bs ++ [] ++ []) ∙ (append-nil (bs ++ []) ∙ append-nil bs)))

the_dirs : (bs us ds ws ks : List Elem) → NamesOf bs us ds ws ks → those dir_names (bs ++ us ++ ds ++ ws ++ ks) ≡ us
unfolding is_among same injector
the_dirs bs us ds ws ks n =
    five_those dir_names bs us ds ws ks [] us [] [] [] (of_those binding_names dir_names false (refl, (refl, (refl, (refl, (refl, tt))))) bs n.bindings) (of_those dir_names dir_names true (refl, tt) us n.dirs)
    (of_those dep_names dir_names false (refl, tt) ds n.deps) (of_those word_names dir_names false (refl, (refl, tt)) ws n.words) (of_those runner_names dir_names false (refl, tt) ks n.runners)
    ∙ (append-nil (us ++ [] ++ []) ∙ (append-nil (us ++ []) ∙ append-nil us))

the_deps : (bs us ds ws ks : List Elem) → NamesOf bs us ds ws ks → those (listed (codes "requires restricts")) (bs ++ us ++ ds ++ ws ++ ks) ≡ ds
unfolding is_among same injector
the_deps bs us ds ws ks n =
    let names = listed (codes "requires restricts") in
    five_those names bs us ds ws ks [] [] ds [] [] (of_those binding_names names false (refl, (refl, (refl, (refl, (refl, tt))))) bs n.bindings) (of_those dir_names names false (refl, tt) us n.dirs)
    (of_those dep_names names true (refl, tt) ds n.deps) (of_those word_names names false (refl, (refl, tt)) ws n.words) (of_those runner_names names false (refl, tt) ks n.runners)
    ∙ (append-nil (ds ++ []) ∙ append-nil ds)

the_words : (bs us ds ws ks : List Elem) → NamesOf bs us ds ws ks → those word_names (bs ++ us ++ ds ++ ws ++ ks) ≡ ws
unfolding is_among same injector
the_words bs us ds ws ks n =
    five_those word_names bs us ds ws ks [] [] [] ws [] (of_those binding_names word_names false (refl, (refl, (refl, (refl, (refl, tt))))) bs n.bindings) (of_those dir_names word_names false (refl, tt) us n.dirs)
    (of_those dep_names word_names false (refl, tt) ds n.deps) (of_those word_names word_names true (refl, (refl, tt)) ws n.words) (of_those runner_names word_names false (refl, tt) ks n.runners)
    ∙ append-nil ws

the_runners : (bs us ds ws ks : List Elem) → NamesOf bs us ds ws ks → those runner_names (bs ++ us ++ ds ++ ws ++ ks) ≡ ks
unfolding is_among same injector
the_runners bs us ds ws ks n =
    five_those runner_names bs us ds ws ks [] [] [] [] ks (of_those binding_names runner_names false (refl, (refl, (refl, (refl, (refl, tt))))) bs n.bindings) (of_those dir_names runner_names false (refl, tt) us n.dirs)
    (of_those dep_names runner_names false (refl, tt) ds n.deps) (of_those word_names runner_names false (refl, (refl, tt)) ws n.words) (of_those runner_names runner_names true (refl, tt) ks n.runners)

no_commands : (bs us ds ws ks : List Elem) → NamesOf bs us ds ws ks → those (listed (codes "command")) (bs ++ us ++ ds ++ ws ++ ks) ≡ []
unfolding is_among same injector
no_commands bs us ds ws ks n =
    let names = listed (codes "command") in
    five_those names bs us ds ws ks [] [] [] [] [] (of_those binding_names names false (refl, (refl, (refl, (refl, (refl, tt))))) bs n.bindings) (of_those dir_names names false (refl, tt) us n.dirs)
    (of_those dep_names names false (refl, tt) ds n.deps) (of_those word_names names false (refl, (refl, tt)) ws n.words) (of_those runner_names names false (refl, tt) ks n.runners)

abbrev IsPartHere : Elem → Type 0
IsPartHere r = is_part AsWritten (codes "command") r ≡ true

all_stand : (bs us ds ws ks : List Elem) → NamesOf bs us ds ws ks → Each IsPartHere (bs ++ us ++ ds ++ ws ++ ks)
unfolding is_among same read_in injector
all_stand bs us ds ws ks n =
    each_append IsPartHere (bs ++ us ++ ds ++ ws) ks
    (each_append IsPartHere (bs ++ us ++ ds) ws
    (each_append IsPartHere (bs ++ us) ds
    (each_append IsPartHere bs us (of_parts binding_names (codes "command") (refl, (refl, (refl, (refl, (refl, tt))))) bs n.bindings) (of_parts dir_names (codes "command") (refl, tt) us n.dirs))
    (of_parts dep_names (codes "command") (refl, tt) ds n.deps))
    (of_parts word_names (codes "command") (refl, (refl, tt)) ws n.words))
    (of_parts runner_names (codes "command") (refl, tt) ks n.runners)

-- The command.

abbrev command_fields : List ℕ → Option (List ℕ) → List Field
command_fields name path = field (codes "name") (Some name) ∷ field (codes "path") path ∷ []

abbrev command_attrs : List ℕ → Option (List ℕ) → List Attr
command_attrs name path = attr (codes "name") name ∷ [] ++ attr_of (codes "path") path

command_as_fields : (name : List ℕ) (path : Option (List ℕ)) → command_attrs name path ≡ fields (command_fields name path)
command_as_fields name path = ap (λ v. attr (codes "name") name ∷ v) (sym (append-nil (attr_of (codes "path") path)))

abbrev command_here : List ℕ → Option (List ℕ) → Forest → ℕ → Elem
command_here name path f p = here_is (codes "command") (fields (command_fields name path)) f p

abbrev command_by : Option (List ℕ) → Option (List ℕ) → List Word → Option Runner → List Dep → List Binding → Option (List ℕ) → Command
command_by n path ws k ds bs u = record { name = unwrap_or n []; path = path; words = ws; runner = k; deps = ds; bindings = bs; unbuilt = u }

command_means : (name : List ℕ) (path : Option (List ℕ)) (f : Forest) (p : ℕ)
    → command_of AsWritten (command_here name path f p) ≡ command_by (attribute (codes "name") (command_here name path f p)) (attribute (codes "path") (command_here name path f p))
    (args_of AsWritten (command_here name path f p)) (option_map (runner_of AsWritten) (first (named AsWritten runner_names (command_here name path f p)))) (deps_of AsWritten (command_here name path f p))
    (bindings_of AsWritten (command_here name path f p)) (option_map (λ w. w.name) (first (named AsWritten dir_names (command_here name path f p))))
unfolding command_of
command_means name path f p = refl

command_plain : (name : List ℕ) (path : Option (List ℕ)) (f : Forest) (p : ℕ) → IsPlain (codes "command") (command_here name path f p)
command_plain name path f p = record { space = refl; named = refl; free = looked condition (command_fields name path) refl }

no_recipe : same (codes "command") (codes "recipe") ≡ false
unfolding same injector
no_recipe = refl

command_parts : (name : List ℕ) (path : Option (List ℕ)) (f : Forest) (p : ℕ) (bs us ds ws ks : List Elem) → elements f ≡ bs ++ us ++ ds ++ ws ++ ks → NamesOf bs us ds ws ks
    → parts AsWritten (command_here name path f p) ≡ bs ++ us ++ ds ++ ws ++ ks
command_parts name path f p bs us ds ws ks whole n =
    let e = command_here name path f p in
    all_parts e (plain_open (codes "command") e (command_plain name path f p) no_recipe) (subst (Each IsPartHere) (sym whole) (all_stand bs us ds ws ks n)) ∙ whole

abbrev command_at : Command → Forest → ℕ → Elem
command_at c f p = command_here c.name c.path f p

command_here_back : (c : Command) (f : Forest) (p : ℕ) → IsProperCommand c → PartsOf c (elements f) → command_of AsWritten (command_at c f p) ≡ c
command_here_back c f p h s =
    let n = names_of c (elements f) h s in
    let found = command_parts c.name c.path f p s.bindings s.dirs s.deps s.words s.runners s.whole n in
    let words : args_of AsWritten (command_at c f p) ≡ c.words = ap (λ v. map (word_of AsWritten) (those word_names v)) found
    ∙ (ap (map (word_of AsWritten)) (the_words s.bindings s.dirs s.deps s.words s.runners n) ∙ words_back c.words s.words h.words s.words_same) in
    let deps : deps_of AsWritten (command_at c f p) ≡ c.deps = ap (λ v. map (dep_of AsWritten) (those (listed (codes "requires restricts")) v)) found
    ∙ (ap (map (dep_of AsWritten)) (the_deps s.bindings s.dirs s.deps s.words s.runners n) ∙ deps_back c.deps s.deps h.deps s.deps_same) in
    let bindings : bindings_of AsWritten (command_at c f p) ≡ c.bindings = ap (λ v. map binding_of (those binding_names v)) found
    ∙ (ap (map binding_of) (the_bindings s.bindings s.dirs s.deps s.words s.runners n) ∙ bindings_back c.bindings s.bindings h.bindings s.bindings_same) in
    let runner : option_map (runner_of AsWritten) (first (named AsWritten runner_names (command_at c f p))) ≡ c.runner = ap (λ v. option_map (runner_of AsWritten) (first (those runner_names v))) found
    ∙ (ap (λ v. option_map (runner_of AsWritten) (first v)) (the_runners s.bindings s.dirs s.deps s.words s.runners n)
    ∙ one_back (runner_of AsWritten) c.runner s.runners (values_back runner_elem (runner_of AsWritten) IsProperRunner runner_back (optional c.runner) s.runners h.runner s.runners_same)) in
    let dir : option_map (λ (w : Elem). w.name) (first (named AsWritten dir_names (command_at c f p))) ≡ c.unbuilt = ap (λ v. option_map (λ (w : Elem). w.name) (first (those dir_names v))) found
    ∙ (ap (λ v. option_map (λ (w : Elem). w.name) (first v)) (the_dirs s.bindings s.dirs s.deps s.words s.runners n)
    ∙ one_back (λ (w : Elem). w.name) c.unbuilt s.dirs (values_back unbuilt_elem (λ (w : Elem). w.name) IsDir dir_back (optional c.unbuilt) s.dirs h.unbuilt s.dirs_same)) in
    command_means c.name c.path f p
    ∙ app (app (app (app (app (app (ap command_by (looked (codes "name") (command_fields c.name c.path) refl)) (looked (codes "path") (command_fields c.name c.path) refl)) words) runner) deps) bindings) dir

command_tested : (s : Said) (name : List ℕ) (path : Option (List ℕ)) (f : Forest) (p : ℕ)
    → faults_with AsWritten s (command_here name path f p) ≡ tested_faults (command_here name path f p) (is_unclear (command_here name path f p)) false (is_bad_part (command_here name path f p))
    false false (repeats_in AsWritten (command_here name path f p)) []
unfolding faults_with kinds_at shims_in same is_among injector
command_tested s name path f p = refl

command_good : (name : List ℕ) (path : Option (List ℕ)) (f : Forest) (p : ℕ) → is_bad_part (command_here name path f p) ≡ false
unfolding same injector
command_good name path f p = good_part (command_here name path f p) refl (ap (λ o. not (is_some o)) (looked (codes "name") (command_fields name path) refl)) refl refl

command_here_clean : (c : Command) (f : Forest) (p : ℕ) → IsProperCommand c → PartsOf c (elements f) → IsClean (command_at c f p)
command_here_clean c f p h s =
    let n = names_of c (elements f) h s in
    let e = command_at c f p in
    let all = s.bindings ++ s.dirs ++ s.deps ++ s.words ++ s.runners in (
      λ v. command_tested v c.name c.path f p ∙ quiet_where e (is_unclear e) false (is_bad_part e) false false (repeats_in AsWritten e) []
          (free_clear e (looked condition (command_fields c.name c.path) refl)) refl (command_good c.name c.path f p) refl refl
          (no_repeats e all (command_parts c.name c.path f p s.bindings s.dirs s.deps s.words s.runners s.whole n)
          (ap (repeated (λ a b. true)) (the_runners s.bindings s.dirs s.deps s.words s.runners n) ∙ single runner_elem (λ a b. true) c.runner s.runners s.runners_same)
          (ap (repeated (share (codes "name"))) (no_commands s.bindings s.dirs s.deps s.words s.runners n)))
          refl,
      clean_inside (codes "command") f (subst (Each IsClean) (sym s.whole)
          (each_append IsClean (s.bindings ++ s.dirs ++ s.deps ++ s.words) s.runners
          (each_append IsClean (s.bindings ++ s.dirs ++ s.deps) s.words
          (each_append IsClean (s.bindings ++ s.dirs) s.deps
          (each_append IsClean s.bindings s.dirs (bindings_clean c.bindings s.bindings h.bindings s.bindings_same)
          (each_read unbuilt_elem IsDir IsClean dir_clean (optional c.unbuilt) s.dirs h.unbuilt s.dirs_same))
          (deps_clean c.deps s.deps h.deps s.deps_same))
          (words_clean c.words s.words h.words s.words_same))
          (each_read runner_elem IsProperRunner IsClean runner_clean (optional c.runner) s.runners h.runner s.runners_same))),
    )

command_same : (c : Command) (r : Elem) → IsSame (command_elem c) r → command_at c r.inside r.place ≡ r
unfolding command_elem
command_same c r s = ap (λ v. here_is (codes "command") v r.inside r.place) (sym (command_as_fields c.name c.path)) ∙ made_is (codes "command") (command_attrs c.name c.path) _ r s

pub command_inside : (c : Command) (r : Elem) → IsSame (command_elem c) r → PartsOf c (elements r.inside)
unfolding command_elem
command_inside c r s =
    parts_of c (elements r.inside)
    (same_inside (codes "command") (command_attrs c.name c.path)
    (map binding_elem c.bindings ++ optional (option_map unbuilt_elem c.unbuilt) ++ map dep_elem c.deps ++ map word_elem c.words ++ optional (option_map runner_elem c.runner)) r s)

pub command_is : (c : Command) (r : Elem) → IsProperCommand c → IsSame (command_elem c) r → IsPlain (codes "command") r
command_is c r h s = subst (IsPlain (codes "command")) (command_same c r s) (command_plain c.name c.path r.inside r.place)

pub command_back : (c : Command) (r : Elem) → IsProperCommand c → IsSame (command_elem c) r → command_of AsWritten r ≡ c
command_back c r h s = ap (command_of AsWritten) (sym (command_same c r s)) ∙ command_here_back c r.inside r.place h (command_inside c r s)

pub command_clean : (c : Command) (r : Elem) → IsProperCommand c → IsSame (command_elem c) r → IsClean r
command_clean c r h s = subst IsClean (command_same c r s) (command_here_clean c r.inside r.place h (command_inside c r s))

pub command_name : (c : Command) (r : Elem) → IsProperCommand c → IsSame (command_elem c) r → attribute (codes "name") r ≡ Some c.name
command_name c r h s = ap (attribute (codes "name")) (sym (command_same c r s)) ∙ looked (codes "name") (command_fields c.name c.path) refl
