-- The bindings of a dependency as they are written: two more are built here, which make a command of it known as a program.
use Rattle.std.proofs.Common.{◌≡◌, ℕ, Bool, true, false, cond, ◌&&◌, List, [], ◌∷◌, ◌++◌, map, Option, Some, codes, refl, sym, ap, subst, ◌∙◌, append-nil}
use Rattle.std.specs.Prelude.{filter, fold, unwrap_or, bytes_eq, if◌then◌else◌}
use Rattle.std.specs.List.{list_any, filter_map}
use Rattle.zi_elements.specs.declared.element.Attr.{Attr}
use Rattle.zi_elements.specs.Forest.{Forest, Elem, elements, attribute}
use Rattle.zi_elements.specs.Namespace.{injector}
use Rattle.zi_docout.specs.Elements.{attr}
use Rattle.zi_docout.specs.Same.{IsSame}
use Rattle.zi_address.specs.Texts.{same}
use Rattle.zi_reading.specs.Ways.{Ways, AsWritten}
use Rattle.zi_reading.specs.Words.{is_among, listed, first}
use Rattle.zi_reading.specs.Reading.{is_unclear, parts, binding_names, those}
use Rattle.zi_parts.specs.Values.{binding_of, dep_binding_of, command_by, with_name, commands_by}
use Rattle.zi_faults.specs.Said.{Said}
use Rattle.zi_faults.specs.Faults.{faults_with, kinds_at, repeats_in, is_no_program, is_bad_shim, takes_shims, shims_in}
use Rattle.zi_parts.specs.declared.types.Binding.{Binding}
use Rattle.zi_parts.specs.declared.types.Binding.TheVariants.{Env, ExecVar, ExecPath, Unbuilt}
use Rattle.zi_sels.specs.Written.{attr_unless, shim_elem, binding_elem}
use Rattle.zi_sels_laws.proofs.LikeLaws.{AreSame, same_inside, Each, each_read, values_back}
use Rattle.zi_sels_laws.proofs.FieldLaws.{Field, field, fields, looked, unless, unless_field, unless_back, app}
use Rattle.zi_sels_laws.proofs.PlainLaws.{here_is, made_is, condition, IsPlain, IsOf, among_each, free_clear}
use Rattle.zi_sels_laws.proofs.CleanLaws.{IsClean, clean_inside, tested_faults, quiet_where}
use Rattle.zi_sels_laws.proofs.BindingLaws.{other_names, IsProperBinding, IsBinding, none_same, empty_repeats, binding_is, binding_back, binding_clean}

-- the names of those that make a command known, and of those that aren't built in a dependency either
abbrev pub shim_names : List (List ℕ)
shim_names = listed (codes "executable-in-var executable-in-path")

abbrev pub unbuilt_names : List (List ℕ)
unbuilt_names = listed (codes "overlay binding")

-- a binding as it may be read in a dependency
abbrev pub IsProperDepBinding : Binding → Type 0
IsProperDepBinding (Env name extra mode separator default) = IsProperBinding (Env name extra mode separator default)
IsProperDepBinding (ExecVar name command) = is_no_program name ≡ false
IsProperDepBinding (ExecPath name command) = is_no_program name ≡ false
IsProperDepBinding (Unbuilt name) = is_among unbuilt_names name ≡ true

-- what isn't built in a dependency isn't built elsewhere
wider : (name : List ℕ) → is_among unbuilt_names name ≡ true → is_among other_names name ≡ true
unfolding is_among same injector
wider name h = among_each (λ n. is_among other_names n ≡ true) unbuilt_names name (refl, (refl, tt)) h

-- One that makes a command known.

abbrev shim_fields : List ℕ → List ℕ → List Field
shim_fields name command = field (codes "name") (Some name) ∷ field (codes "command") (unless (codes "run") command) ∷ []

abbrev shim_attrs : List ℕ → List ℕ → List Attr
shim_attrs name command = attr (codes "name") name ∷ [] ++ attr_unless (codes "run") (codes "command") command

shim_as_fields : (name command : List ℕ) → shim_attrs name command ≡ fields (shim_fields name command)
shim_as_fields name command = ap (λ v. attr (codes "name") name ∷ v) (unless_field (codes "run") (codes "command") command ∙ sym (append-nil _))

abbrev shim_here : List ℕ → List Field → Forest → ℕ → Elem
shim_here element fs f p = here_is element (fields fs) f p

var_means : (fs : List Field) (f : Forest) (p : ℕ)
    → dep_binding_of (shim_here (codes "executable-in-var") fs f p)
    ≡ ExecVar (unwrap_or (attribute (codes "name") (shim_here (codes "executable-in-var") fs f p)) []) (unwrap_or (attribute (codes "command") (shim_here (codes "executable-in-var") fs f p)) (codes "run"))
unfolding dep_binding_of same injector
var_means fs f p = refl

path_means : (fs : List Field) (f : Forest) (p : ℕ)
    → dep_binding_of (shim_here (codes "executable-in-path") fs f p)
    ≡ ExecPath (unwrap_or (attribute (codes "name") (shim_here (codes "executable-in-path") fs f p)) []) (unwrap_or (attribute (codes "command") (shim_here (codes "executable-in-path") fs f p)) (codes "run"))
unfolding dep_binding_of same injector
path_means fs f p = refl

var_back : (name command : List ℕ) (f : Forest) (p : ℕ) → dep_binding_of (shim_here (codes "executable-in-var") (shim_fields name command) f p) ≡ ExecVar name command
var_back name command f p =
    let fs = shim_fields name command in
    var_means fs f p
    ∙ (app (ap {B = Option (List ℕ) → Binding} (λ n c. ExecVar (unwrap_or n []) (unwrap_or c (codes "run"))) (looked (codes "name") fs refl)) (looked (codes "command") fs refl)
    ∙ ap (ExecVar name) (unless_back (codes "run") command))

path_back : (name command : List ℕ) (f : Forest) (p : ℕ) → dep_binding_of (shim_here (codes "executable-in-path") (shim_fields name command) f p) ≡ ExecPath name command
path_back name command f p =
    let fs = shim_fields name command in
    path_means fs f p
    ∙ (app (ap {B = Option (List ℕ) → Binding} (λ n c. ExecPath (unwrap_or n []) (unwrap_or c (codes "run"))) (looked (codes "name") fs refl)) (looked (codes "command") fs refl)
    ∙ ap (ExecPath name) (unless_back (codes "run") command))

abbrev IsTestedAs : List Field → Forest → ℕ → Said → List ℕ → Type 0
IsTestedAs fs f p s element =
    faults_with AsWritten s (shim_here element fs f p) ≡ tested_faults (shim_here element fs f p) (is_unclear (shim_here element fs f p)) false false false false (repeats_in AsWritten (shim_here element fs f p)) []

shim_tested : (element : List ℕ) (s : Said) (fs : List Field) (f : Forest) (p : ℕ) → is_among shim_names element ≡ true → IsTestedAs fs f p s element
unfolding faults_with kinds_at shims_in same is_among injector
shim_tested element s fs f p h = among_each (IsTestedAs fs f p s) shim_names element (refl, (refl, tt)) h

-- what is known of an element of this name that is the same as one was written
abbrev shim_at : List ℕ → List ℕ → List ℕ → Elem → Elem
shim_at element name command r = shim_here element (shim_fields name command) r.inside r.place

shim_same : (element name command : List ℕ) (r : Elem) → IsSame (shim_elem element name command) r → shim_at element name command r ≡ r
shim_same element name command r s = ap (λ v. here_is element v r.inside r.place) (sym (shim_as_fields name command)) ∙ made_is element (shim_attrs name command) _ r s

shim_known : (element : List ℕ) → is_among shim_names element ≡ true → is_among binding_names element ≡ true
unfolding is_among same injector
shim_known element h = among_each (λ n. is_among binding_names n ≡ true) shim_names element (refl, (refl, tt)) h

shim_is : (element name command : List ℕ) (r : Elem) → is_among shim_names element ≡ true → IsSame (shim_elem element name command) r → IsBinding r
shim_is element name command r h s = record {
  name = element;
  plain = subst (IsPlain element) (shim_same element name command r s) (record { space = refl; named = refl; free = looked condition (shim_fields name command) refl });
  known = shim_known element h;
}

shim_clean : (element name command : List ℕ) (r : Elem) → is_among shim_names element ≡ true → IsSame (shim_elem element name command) r → IsClean r
shim_clean element name command r h s =
    let fs = shim_fields name command in
    let e = shim_at element name command r in
    let inside : elements r.inside ≡ [] = none_same (elements r.inside) (same_inside element (shim_attrs name command) [] r s) in
    subst IsClean (shim_same element name command r s) (
      λ v. shim_tested element v fs r.inside r.place h ∙ quiet_where e (is_unclear e) false false false false (repeats_in AsWritten e) []
          (free_clear e (looked condition fs refl)) refl refl refl refl (empty_repeats e inside) refl,
      clean_inside element r.inside (subst (Each IsClean) (sym inside) tt),
    )

-- its name is right
shim_right : (element name command : List ℕ) (r : Elem) → is_no_program name ≡ false → IsSame (shim_elem element name command) r → is_bad_shim r ≡ false
unfolding is_bad_shim
shim_right element name command r h s =
    ap is_bad_shim (sym (shim_same element name command r s)) ∙ (ap (λ o. is_no_program (unwrap_or o [])) (looked (codes "name") (shim_fields name command) refl) ∙ h)

var_among : is_among shim_names (codes "executable-in-var") ≡ true
unfolding is_among same injector
var_among = refl

path_among : is_among shim_names (codes "executable-in-path") ≡ true
unfolding is_among same injector
path_among = refl

-- One binding.

env_alike : (a : List Attr) (f : Forest) (p : ℕ) → dep_binding_of (here_is (codes "environment") a f p) ≡ binding_of (here_is (codes "environment") a f p)
unfolding dep_binding_of same injector
env_alike a f p = refl

unbuilt_alike : (name : List ℕ) (a : List Attr) (f : Forest) (p : ℕ) → is_among unbuilt_names name ≡ true → dep_binding_of (here_is name a f p) ≡ binding_of (here_is name a f p)
unfolding dep_binding_of same injector
unbuilt_alike name a f p h = among_each (λ n. dep_binding_of (here_is n a f p) ≡ binding_of (here_is n a f p)) unbuilt_names name (refl, (refl, tt)) h

-- an element that is made so, and one that is read
alike : (n : List ℕ) (a : List Attr) (f : Forest) (r : Elem) → ((g : Forest) (p : ℕ) → dep_binding_of (here_is n a g p) ≡ binding_of (here_is n a g p))
    → IsSame (record { space = injector; name = n; attrs = a; inside = f; place = 0 }) r → dep_binding_of r ≡ binding_of r
alike n a f r one s = subst (λ (e : Elem). dep_binding_of e ≡ binding_of e) (made_is n a f r s) (one r.inside r.place)

dep_binding_is : (b : Binding) (r : Elem) → IsProperDepBinding b → IsSame (binding_elem b) r → IsBinding r
unfolding binding_elem
dep_binding_is (Env name extra mode separator default) r h s = binding_is (Env name extra mode separator default) r h s
dep_binding_is (ExecVar name command) r h s = shim_is (codes "executable-in-var") name command r var_among s
dep_binding_is (ExecPath name command) r h s = shim_is (codes "executable-in-path") name command r path_among s
dep_binding_is (Unbuilt name) r h s = binding_is (Unbuilt name) r (wider name h) s

dep_binding_back : (b : Binding) (r : Elem) → IsProperDepBinding b → IsSame (binding_elem b) r → dep_binding_of r ≡ b
unfolding binding_elem
dep_binding_back (Env name extra mode separator default) r h s = alike (codes "environment") _ _ r (env_alike _) s ∙ binding_back (Env name extra mode separator default) r h s
dep_binding_back (ExecVar name command) r h s = ap dep_binding_of (sym (shim_same (codes "executable-in-var") name command r s)) ∙ var_back name command r.inside r.place
dep_binding_back (ExecPath name command) r h s = ap dep_binding_of (sym (shim_same (codes "executable-in-path") name command r s)) ∙ path_back name command r.inside r.place
dep_binding_back (Unbuilt name) r h s = alike name [] _ r (λ g p. unbuilt_alike name [] g p h) s ∙ binding_back (Unbuilt name) r (wider name h) s

dep_binding_clean : (b : Binding) (r : Elem) → IsProperDepBinding b → IsSame (binding_elem b) r → IsClean r
unfolding binding_elem
dep_binding_clean (Env name extra mode separator default) r h s = binding_clean (Env name extra mode separator default) r h s
dep_binding_clean (ExecVar name command) r h s = shim_clean (codes "executable-in-var") name command r var_among s
dep_binding_clean (ExecPath name command) r h s = shim_clean (codes "executable-in-path") name command r path_among s
dep_binding_clean (Unbuilt name) r h s = binding_clean (Unbuilt name) r (wider name h) s

-- an element that is no such binding of a wrong name
abbrev pub IsHarmless : Elem → Type 0
IsHarmless r = (is_among shim_names r.name && is_bad_shim r) ≡ false

other_harmless : (r : Elem) → is_among shim_names r.name ≡ false → IsHarmless r
other_harmless r h = ap (λ b. b && is_bad_shim r) h

named_harmless : (r : Elem) → is_bad_shim r ≡ false → IsHarmless r
named_harmless r h = ap (λ b. is_among shim_names r.name && b) h ∙ never (is_among shim_names r.name)
  where
    never : (b : Bool) → (b && false) ≡ false
    never true = refl
    never false = refl

env_other : is_among shim_names (codes "environment") ≡ false
unfolding is_among same injector
env_other = refl

unbuilt_other : (name : List ℕ) → is_among unbuilt_names name ≡ true → is_among shim_names name ≡ false
unfolding is_among same injector
unbuilt_other name h = among_each (λ n. is_among shim_names n ≡ false) unbuilt_names name (refl, (refl, tt)) h

dep_binding_harmless : (b : Binding) (r : Elem) → IsProperDepBinding b → IsSame (binding_elem b) r → IsHarmless r
unfolding binding_elem
dep_binding_harmless (Env name extra mode separator default) r h s = other_harmless r (ap (is_among shim_names) s.name ∙ env_other)
dep_binding_harmless (ExecVar name command) r h s = named_harmless r (shim_right (codes "executable-in-var") name command r h s)
dep_binding_harmless (ExecPath name command) r h s = named_harmless r (shim_right (codes "executable-in-path") name command r h s)
dep_binding_harmless (Unbuilt name) r h s = other_harmless r (ap (is_among shim_names) s.name ∙ unbuilt_other name h)

-- All of them.

pub dep_bindings_are : (bs : List Binding) (rs : List Elem) → Each IsProperDepBinding bs → AreSame (map binding_elem bs) rs → Each IsBinding rs
dep_bindings_are bs rs h s = each_read binding_elem IsProperDepBinding IsBinding dep_binding_is bs rs h s

pub dep_bindings_back : (bs : List Binding) (rs : List Elem) → Each IsProperDepBinding bs → AreSame (map binding_elem bs) rs → map dep_binding_of rs ≡ bs
dep_bindings_back bs rs h s = values_back binding_elem dep_binding_of IsProperDepBinding dep_binding_back bs rs h s

pub dep_bindings_clean : (bs : List Binding) (rs : List Elem) → Each IsProperDepBinding bs → AreSame (map binding_elem bs) rs → Each IsClean rs
dep_bindings_clean bs rs h s = each_read binding_elem IsProperDepBinding IsClean dep_binding_clean bs rs h s

pub dep_bindings_harmless : (bs : List Binding) (rs : List Elem) → Each IsProperDepBinding bs → AreSame (map binding_elem bs) rs → Each IsHarmless rs
dep_bindings_harmless bs rs h s = each_read binding_elem IsProperDepBinding IsHarmless dep_binding_harmless bs rs h s

-- elements of other names are harmless
pub others_harmless : (names : List (List ℕ)) → Each (λ n. is_among shim_names n ≡ false) names → (rs : List Elem) → Each (IsOf names) rs → Each IsHarmless rs
others_harmless names all [] h = tt
others_harmless names all (r ∷ rs) h =
    (other_harmless r (ap (is_among shim_names) h.0.plain.named ∙ among_each (λ n. is_among shim_names n ≡ false) names h.0.name all h.0.known), others_harmless names all rs h.1)

-- Wrong names in an element: none where each element in it is harmless, and the other way round.

pub none_bad : (rs : List Elem) → Each IsHarmless rs → filter is_bad_shim (those shim_names rs) ≡ []
none_bad [] h = refl
none_bad (r ∷ rs) h = either (is_among shim_names r.name) (is_bad_shim r) refl h.0 (none_bad rs h.1)
  where
    rest : List Elem
    rest = those shim_names rs

    either : (a b : Bool) → is_bad_shim r ≡ b → (a && b) ≡ false → filter is_bad_shim rest ≡ [] → filter is_bad_shim (cond a (r ∷ rest) rest) ≡ []
    either true true e k more = absurd (cc k)
    either true false e k more = ap (λ v. cond v (r ∷ filter is_bad_shim rest) (filter is_bad_shim rest)) e ∙ more
    either false b e k more = more

pub all_harmless : (rs : List Elem) → filter is_bad_shim (those shim_names rs) ≡ [] → Each IsHarmless rs
all_harmless [] h = tt
all_harmless (r ∷ rs) h = either (is_among shim_names r.name) (is_bad_shim r) refl refl h (all_harmless rs)
  where
    rest : List Elem
    rest = those shim_names rs

    either : (a b : Bool) → is_among shim_names r.name ≡ a → is_bad_shim r ≡ b → filter is_bad_shim (cond a (r ∷ rest) rest) ≡ [] → (filter is_bad_shim rest ≡ [] → Each IsHarmless rs) → IsHarmless r × Each IsHarmless rs
    either true true n e k more =
        let shown : r ∷ filter is_bad_shim rest ≡ [] = sym (ap (λ v. cond v (r ∷ filter is_bad_shim rest) (filter is_bad_shim rest)) e) ∙ k in absurd (cc shown)
    either true false n e k more = (named_harmless r e, more (sym (ap (λ v. cond v (r ∷ filter is_bad_shim rest) (filter is_bad_shim rest)) e) ∙ k))
    either false b n e k more = (other_harmless r n, more k)

-- in an element in which these are read
pub no_shims : (e : Elem) (ps : List Elem) → parts AsWritten e ≡ ps → Each IsHarmless ps → shims_in AsWritten e ≡ []
unfolding shims_in
no_shims e ps h k = ap (λ v. if takes_shims e then filter is_bad_shim (those shim_names v) else []) h ∙ either (takes_shims e)
  where
    either : (b : Bool) → (if b then filter is_bad_shim (those shim_names ps) else []) ≡ []
    either true = none_bad ps k
    either false = refl

pub shims_harmless : (ways : Ways) (e : Elem) → takes_shims e ≡ true → shims_in ways e ≡ [] → Each IsHarmless (parts ways e)
unfolding shims_in
shims_harmless ways e asked h = all_harmless (parts ways e) (sym (ap (λ b. if b then filter is_bad_shim (those shim_names (parts ways e)) else []) asked) ∙ h)

-- The commands that are asked for: the first one stays.

kept_first : (name : List ℕ) (names others : List (List ℕ)) → first (fold with_name (name ∷ names) others) ≡ Some name
kept_first name names [] = refl
kept_first name names (n ∷ others) = either (list_any (bytes_eq n) (name ∷ names)) (kept_first name names others) (kept_first name (names ++ n ∷ []) others)
  where
    either : (b : Bool) → first (fold with_name (name ∷ names) others) ≡ Some name → first (fold with_name (name ∷ (names ++ n ∷ [])) others) ≡ Some name
        → first (fold with_name (if b then name ∷ names else name ∷ (names ++ n ∷ [])) others) ≡ Some name
    either true there more = there
    either false there more = more

pub first_asked : (name : List ℕ) (bs : List Binding) → first (commands_by (name ∷ []) bs) ≡ Some name
unfolding commands_by
first_asked name bs = kept_first name [] (filter_map command_by bs)
