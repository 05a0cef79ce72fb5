-- Bindings as they are written: what is read of them, and that nothing is wrong with them.
use Rattle.std.proofs.Common.{◌≡◌, ℕ, Bool, true, false, ◌&&◌, ◌||◌, ◌==◌, List, [], ◌∷◌, ◌++◌, map, Option, Some, None, codes, refl, sym, ap, subst, ◌∙◌, append-nil, append_assoc}
use Rattle.std.specs.Prelude.{not, filter, is_some, option_and_then, unwrap_or, if◌then◌else◌}
use Rattle.std.specs.List.{list_any}
use Rattle.zi_elements.specs.declared.element.Attr.{Attr}
use Rattle.zi_elements.specs.Forest.{Forest, Elem, elements, attribute, lacks, value_among}
use Rattle.zi_elements.specs.Namespace.{injector}
use Rattle.zi_docout.specs.Elements.{attr}
use Rattle.zi_docout.specs.Same.{IsSame}
use Rattle.zi_address.specs.Texts.{same, is_none}
use Rattle.zi_reading.specs.Ways.{AsWritten}
use Rattle.zi_reading.specs.Words.{is_among, listed, is_wrong, repeated}
use Rattle.zi_parts.specs.Values.{mode_of, importance_of, binding_of}
use Rattle.zi_reading.specs.Reading.{is, is_closed, is_part, is_unclear, parts, binding_names, those}
use Rattle.zi_faults.specs.Said.{Said}
use Rattle.zi_faults.specs.Faults.{faults_with, kinds_at, is_bad_part, is_bad_environment, is_bad_for_each, repeats_in, shims_in, share}
use Rattle.zi_parts.specs.declared.types.Binding.{Binding}
use Rattle.zi_parts.specs.declared.types.Binding.TheVariants.{Env, ExecVar, ExecPath, Unbuilt}
use Rattle.zi_parts.specs.declared.types.Extra.{Extra}
use Rattle.zi_parts.specs.declared.types.Extra.TheVariants.{Insert, Value}
use Rattle.zi_parts.specs.declared.types.Mode.{Mode}
use Rattle.zi_parts.specs.declared.types.Mode.TheVariants.{Prepend, Append, Replace}
use Rattle.zi_sels.specs.Written.{attr_of, attr_unless, extra_attr, mode_attrs, binding_elem}
use Rattle.zi_sels_laws.proofs.LikeLaws.{AreSame, same_inside, Each, each_read, values_back}
use Rattle.zi_sels_laws.proofs.FieldLaws.{Field, field, fields, looked, unless, unless_field, unless_back, app}
use Rattle.zi_sels_laws.proofs.PlainLaws.{here_is, made_is, condition, IsOf, among_each, free_clear}
use Rattle.zi_sels_laws.proofs.CleanLaws.{IsClean, clean_inside, tested_faults, quiet_where}

-- the names of bindings that aren't built outside a dependency
abbrev pub other_names : List (List ℕ)
other_names = listed (codes "executable-in-var executable-in-path overlay binding")

-- a binding as it may be read outside a dependency
abbrev pub IsProperBinding : Binding → Type 0
IsProperBinding (Env name extra mode separator default) = (is_none name ≡ false) × (list_any (λ c. c == 61) name ≡ false)
IsProperBinding (ExecVar name command) = ⊥
IsProperBinding (ExecPath name command) = ⊥
IsProperBinding (Unbuilt name) = is_among other_names name ≡ true

-- What is in a part of an element.

pub none_same : (rs : List Elem) → AreSame [] rs → rs ≡ []
none_same [] s = refl
none_same (r ∷ rs) s = absurd s

pub no_parts : (e : Elem) → elements e.inside ≡ [] → parts AsWritten e ≡ []
unfolding parts
no_parts e h = ap (λ v. if is_closed e then [] else filter (is_part AsWritten e.name) v) h ∙ either (is_closed e)
  where
    either : (b : Bool) → (if b then [] else filter (is_part AsWritten e.name) []) ≡ []
    either true = refl
    either false = refl

-- nothing is repeated in an element, by what is read in it
pub no_repeats : (e : Elem) (ps : List Elem) → parts AsWritten e ≡ ps → repeated (λ a b. true) (those (listed (codes "runner")) ps) ≡ []
    → repeated (share (codes "name")) (those (listed (codes "command")) ps) ≡ [] → repeats_in AsWritten e ≡ []
unfolding repeats_in
no_repeats e ps h k l =
    ap (λ v. repeated (λ a b. true) (those (listed (codes "runner")) v) ++ repeated (share (codes "name")) (those (listed (codes "command")) v)) h
    ∙ app (ap {B = List Elem → List Elem} (λ v w. v ++ w) k) l

pub empty_repeats : (e : Elem) → elements e.inside ≡ [] → repeats_in AsWritten e ≡ []
empty_repeats e h = no_repeats e [] (no_parts e h) refl refl

-- the four ways in which a part can be bad, none of which is so
pub good_part : (e : Elem) → (is (codes "environment") e && is_bad_environment e) ≡ false → (is (codes "command") e && lacks (codes "name") e) ≡ false
    → (is (codes "for-each") e && is_bad_for_each e) ≡ false → (is (codes "requires") e && is_wrong (λ t. is_some (importance_of t)) (attribute (codes "importance") e)) ≡ false
    → is_bad_part e ≡ false
good_part e a b c d = app (app (app (ap {B = Bool → Bool → Bool → Bool} (λ w x y z. w || x || y || z) a) b) c) d

-- Environments.

abbrev inserted : Extra → Option (List ℕ)
inserted (Insert path) = Some path
inserted (Value text) = None

abbrev valued : Extra → Option (List ℕ)
valued (Insert path) = None
valued (Value text) = Some text

abbrev mode_text : Mode → Option (List ℕ)
mode_text Prepend = None
mode_text Append = Some (codes "append")
mode_text Replace = Some (codes "replace")

abbrev env_fields : List ℕ → Extra → Mode → List ℕ → Option (List ℕ) → List Field
env_fields name extra mode separator default =
    field (codes "name") (Some name) ∷ field (codes "insert") (inserted extra) ∷ field (codes "value") (valued extra) ∷ field (codes "mode") (mode_text mode)
    ∷ field (codes "separator") (unless (codes ":") separator) ∷ field (codes "default") default ∷ []

extra_fields : (extra : Extra) (rest : List Attr) → extra_attr extra ∷ rest ≡ attr_of (codes "insert") (inserted extra) ++ (attr_of (codes "value") (valued extra) ++ rest)
extra_fields (Insert path) rest = refl
extra_fields (Value text) rest = refl

mode_fields : (mode : Mode) → mode_attrs mode ≡ attr_of (codes "mode") (mode_text mode)
mode_fields Prepend = refl
mode_fields Append = refl
mode_fields Replace = refl

abbrev env_attrs : List ℕ → Extra → Mode → List ℕ → Option (List ℕ) → List Attr
env_attrs name extra mode separator default =
    attr (codes "name") name ∷ extra_attr extra ∷ []
    ++ mode_attrs mode
    ++ attr_unless (codes ":") (codes "separator") separator
    ++ attr_of (codes "default") default

env_as_fields : (name : List ℕ) (extra : Extra) (mode : Mode) (separator : List ℕ) (default : Option (List ℕ)) → env_attrs name extra mode separator default ≡ fields (env_fields name extra mode separator default)
env_as_fields name extra mode separator default =
    let d = attr_of (codes "default") default in
    let last : attr_unless (codes ":") (codes "separator") separator ++ d ≡ attr_of (codes "separator") (unless (codes ":") separator) ++ (d ++ [])
    = ap (λ v. v ++ d) (unless_field (codes ":") (codes "separator") separator) ∙ ap (λ v. attr_of (codes "separator") (unless (codes ":") separator) ++ v) (sym (append-nil d)) in
    ap (λ v. attr (codes "name") name ∷ extra_attr extra ∷ (v ++ attr_unless (codes ":") (codes "separator") separator ++ d)) (mode_fields mode)
    ∙ (ap (λ v. attr (codes "name") name ∷ extra_attr extra ∷ v) (append_assoc (attr_of (codes "mode") (mode_text mode)) (attr_unless (codes ":") (codes "separator") separator) d)
    ∙ (ap (λ v. attr (codes "name") name ∷ extra_attr extra ∷ (attr_of (codes "mode") (mode_text mode) ++ v)) last
    ∙ ap (λ v. attr (codes "name") name ∷ v) (extra_fields extra (attr_of (codes "mode") (mode_text mode) ++ (attr_of (codes "separator") (unless (codes ":") separator) ++ (d ++ []))))))

abbrev extra_by : Option (List ℕ) → Option (List ℕ) → Extra
extra_by i v = if is_some i then Insert (unwrap_or i []) else Value (unwrap_or v [])

abbrev env_by : Option (List ℕ) → Option (List ℕ) → Option (List ℕ) → Option (List ℕ) → Option (List ℕ) → Option (List ℕ) → Binding
env_by n i v m s d = Env (unwrap_or n []) (extra_by i v) (unwrap_or (option_and_then mode_of m) Prepend) (unwrap_or s (codes ":")) d

abbrev bad_by : Option (List ℕ) → Option (List ℕ) → Option (List ℕ) → Option (List ℕ) → Bool
bad_by n i v m =
    is_none (unwrap_or n []) || list_any (λ c. c == 61) (unwrap_or n [])
    || (is_some i && is_some v) || (not (is_some i) && not (is_some v))
    || is_wrong (λ t. is_some (mode_of t)) m

extra_again : (extra : Extra) → extra_by (inserted extra) (valued extra) ≡ extra
extra_again (Insert path) = refl
extra_again (Value text) = refl

mode_again : (mode : Mode) → unwrap_or (option_and_then mode_of (mode_text mode)) Prepend ≡ mode
unfolding mode_of same injector
mode_again Prepend = refl
mode_again Append = refl
mode_again Replace = refl

mode_right : (mode : Mode) → is_wrong (λ t. is_some (mode_of t)) (mode_text mode) ≡ false
unfolding mode_of same injector
mode_right Prepend = refl
mode_right Append = refl
mode_right Replace = refl

one_extra : (extra : Extra) → ((is_some (inserted extra) && is_some (valued extra)) || (not (is_some (inserted extra)) && not (is_some (valued extra)))) ≡ false
one_extra (Insert path) = refl
one_extra (Value text) = refl

abbrev env_here : List Field → Forest → ℕ → Elem
env_here fs f p = here_is (codes "environment") (fields fs) f p

env_means : (fs : List Field) (f : Forest) (p : ℕ)
    → binding_of (env_here fs f p) ≡ env_by (attribute (codes "name") (env_here fs f p)) (attribute (codes "insert") (env_here fs f p)) (attribute (codes "value") (env_here fs f p))
    (attribute (codes "mode") (env_here fs f p)) (attribute (codes "separator") (env_here fs f p)) (attribute (codes "default") (env_here fs f p))
unfolding binding_of same injector
env_means fs f p = refl

env_back : (name : List ℕ) (extra : Extra) (mode : Mode) (separator : List ℕ) (default : Option (List ℕ)) (f : Forest) (p : ℕ)
    → binding_of (env_here (env_fields name extra mode separator default) f p) ≡ Env name extra mode separator default
env_back name extra mode separator default f p =
    let fs = env_fields name extra mode separator default in
    env_means fs f p
    ∙ (app (app (app (app (app (ap env_by (looked (codes "name") fs refl)) (looked (codes "insert") fs refl)) (looked (codes "value") fs refl)) (looked (codes "mode") fs refl)) (looked (codes "separator") fs refl)) (looked (codes "default") fs refl)
    ∙ app (app (ap {B = Mode → List ℕ → Binding} (λ x m s. Env name x m s default) (extra_again extra)) (mode_again mode)) (unless_back (codes ":") separator))

env_tested : (s : Said) (fs : List Field) (f : Forest) (p : ℕ)
    → faults_with AsWritten s (env_here fs f p) ≡ tested_faults (env_here fs f p) (is_unclear (env_here fs f p)) false (is_bad_part (env_here fs f p)) false false (repeats_in AsWritten (env_here fs f p)) []
unfolding faults_with kinds_at shims_in same is_among injector
env_tested s fs f p = refl

env_bad : (fs : List Field) (f : Forest) (p : ℕ)
    → is_bad_environment (env_here fs f p) ≡ bad_by (attribute (codes "name") (env_here fs f p)) (attribute (codes "insert") (env_here fs f p)) (attribute (codes "value") (env_here fs f p)) (attribute (codes "mode") (env_here fs f p))
env_bad fs f p = refl

env_good : (name : List ℕ) (extra : Extra) (mode : Mode) (separator : List ℕ) (default : Option (List ℕ)) (f : Forest) (p : ℕ) → IsProperBinding (Env name extra mode separator default)
    → is_bad_environment (env_here (env_fields name extra mode separator default) f p) ≡ false
env_good name extra mode separator default f p h =
    let fs = env_fields name extra mode separator default in
    env_bad fs f p
    ∙ (app (app (app (ap bad_by (looked (codes "name") fs refl)) (looked (codes "insert") fs refl)) (looked (codes "value") fs refl)) (looked (codes "mode") fs refl)
    ∙ four _ _ _ _ _ h.0 h.1 (one_extra extra) (mode_right mode))
  where
    four : (a b c d m : Bool) → a ≡ false → b ≡ false → (c || d) ≡ false → m ≡ false → (a || b || c || d || m) ≡ false
    four false false false false false p q r s = refl
    four true b c d m p q r s = absurd (cc p)
    four false true c d m p q r s = absurd (cc q)
    four false false true d m p q r s = absurd (cc r)
    four false false false true m p q r s = absurd (cc r)
    four false false false false true p q r s = absurd (cc s)

env_part : (fs : List Field) (f : Forest) (p : ℕ) → is_bad_environment (env_here fs f p) ≡ false → is_bad_part (env_here fs f p) ≡ false
unfolding same injector
env_part fs f p h = good_part (env_here fs f p) h refl refl refl

env_free : (name : List ℕ) (extra : Extra) (mode : Mode) (separator : List ℕ) (default : Option (List ℕ)) (f : Forest) (p : ℕ) → attribute condition (env_here (env_fields name extra mode separator default) f p) ≡ None
env_free name extra mode separator default f p = looked condition (env_fields name extra mode separator default) refl

env_clean : (name : List ℕ) (extra : Extra) (mode : Mode) (separator : List ℕ) (default : Option (List ℕ)) (f : Forest) (p : ℕ) → IsProperBinding (Env name extra mode separator default)
    → elements f ≡ [] → IsClean (env_here (env_fields name extra mode separator default) f p)
env_clean name extra mode separator default f p h inside =
    let fs = env_fields name extra mode separator default in
    let e = env_here fs f p in (
      λ s. env_tested s fs f p ∙ quiet_where e (is_unclear e) false (is_bad_part e) false false (repeats_in AsWritten e) []
          (free_clear e (env_free name extra mode separator default f p)) refl (env_part fs f p (env_good name extra mode separator default f p h)) refl refl (empty_repeats e inside) refl,
      clean_inside (codes "environment") f (subst (Each IsClean) (sym inside) tt),
    )

-- Bindings that aren't built.

other_back : (name : List ℕ) (f : Forest) (p : ℕ) → is_among other_names name ≡ true → binding_of (here_is name [] f p) ≡ Unbuilt name
unfolding binding_of same injector
other_back name f p h = among_each (λ n. binding_of (here_is n [] f p) ≡ Unbuilt n) other_names name (refl, (refl, (refl, (refl, tt)))) h

other_tested : (name : List ℕ) (s : Said) (f : Forest) (p : ℕ) → is_among other_names name ≡ true
    → faults_with AsWritten s (here_is name [] f p) ≡ tested_faults (here_is name [] f p) false false false false false (repeats_in AsWritten (here_is name [] f p)) []
unfolding faults_with kinds_at shims_in same is_among is_unclear injector
other_tested name s f p h =
    among_each (λ n. faults_with AsWritten s (here_is n [] f p) ≡ tested_faults (here_is n [] f p) false false false false false (repeats_in AsWritten (here_is n [] f p)) [])
    other_names name (refl, (refl, (refl, (refl, tt)))) h

other_clean : (name : List ℕ) (f : Forest) (p : ℕ) → is_among other_names name ≡ true → elements f ≡ [] → IsClean (here_is name [] f p)
other_clean name f p h inside =
    let e = here_is name [] f p in (
      λ s. other_tested name s f p h ∙ quiet_where e false false false false false (repeats_in AsWritten e) [] refl refl refl refl refl (empty_repeats e inside) refl,
      clean_inside name f (subst (Each IsClean) (sym inside) tt),
    )

-- What is known of an element that is the same as a binding was written.

abbrev pub IsBinding : Elem → Type 0
IsBinding = IsOf binding_names

env_known : is_among binding_names (codes "environment") ≡ true
unfolding is_among same injector
env_known = refl

other_known : (name : List ℕ) → is_among other_names name ≡ true → is_among binding_names name ≡ true
unfolding is_among same injector
other_known name h = among_each (λ n. is_among binding_names n ≡ true) other_names name (refl, (refl, (refl, (refl, tt)))) h

pub binding_is : (b : Binding) (r : Elem) → IsProperBinding b → IsSame (binding_elem b) r → IsBinding r
unfolding binding_elem
binding_is (Env name extra mode separator default) r h s = record {
  name = codes "environment";
  plain = record {
    space = ap (λ (e : Elem). e.space) (sym (made_is (codes "environment") (env_attrs name extra mode separator default) _ r s));
    named = s.name;
    free = ap (λ v. value_among condition v) (s.attrs ∙ env_as_fields name extra mode separator default) ∙ looked condition (env_fields name extra mode separator default) refl;
  };
  known = env_known;
}
binding_is (ExecVar name command) r h s = absurd h
binding_is (ExecPath name command) r h s = absurd h
binding_is (Unbuilt name) r h s = record {
  name = name;
  plain = record { space = ap (λ (e : Elem). e.space) (sym (made_is name [] _ r s)); named = s.name; free = ap (λ v. value_among condition v) s.attrs };
  known = other_known name h;
}

env_same : (name : List ℕ) (extra : Extra) (mode : Mode) (separator : List ℕ) (default : Option (List ℕ)) (r : Elem)
    → here_is (codes "environment") (env_attrs name extra mode separator default) r.inside r.place ≡ r → env_here (env_fields name extra mode separator default) r.inside r.place ≡ r
env_same name extra mode separator default r h = ap (λ v. here_is (codes "environment") v r.inside r.place) (sym (env_as_fields name extra mode separator default)) ∙ h

pub binding_back : (b : Binding) (r : Elem) → IsProperBinding b → IsSame (binding_elem b) r → binding_of r ≡ b
unfolding binding_elem
binding_back (Env name extra mode separator default) r h s =
    ap binding_of (sym (env_same name extra mode separator default r (made_is (codes "environment") (env_attrs name extra mode separator default) _ r s)))
    ∙ env_back name extra mode separator default r.inside r.place
binding_back (ExecVar name command) r h s = absurd h
binding_back (ExecPath name command) r h s = absurd h
binding_back (Unbuilt name) r h s = ap binding_of (sym (made_is name [] _ r s)) ∙ other_back name r.inside r.place h

pub binding_clean : (b : Binding) (r : Elem) → IsProperBinding b → IsSame (binding_elem b) r → IsClean r
unfolding binding_elem
binding_clean (Env name extra mode separator default) r h s =
    let attrs = env_attrs name extra mode separator default in
    subst IsClean (env_same name extra mode separator default r (made_is (codes "environment") attrs _ r s))
    (env_clean name extra mode separator default r.inside r.place h (none_same (elements r.inside) (same_inside (codes "environment") attrs [] r s)))
binding_clean (ExecVar name command) r h s = absurd h
binding_clean (ExecPath name command) r h s = absurd h
binding_clean (Unbuilt name) r h s =
    subst IsClean (made_is name [] _ r s) (other_clean name r.inside r.place h (none_same (elements r.inside) (same_inside name [] [] r s)))

-- all of them
pub bindings_are : (bs : List Binding) (rs : List Elem) → Each IsProperBinding bs → AreSame (map binding_elem bs) rs → Each IsBinding rs
bindings_are bs rs h s = each_read binding_elem IsProperBinding IsBinding binding_is bs rs h s

pub bindings_back : (bs : List Binding) (rs : List Elem) → Each IsProperBinding bs → AreSame (map binding_elem bs) rs → map binding_of rs ≡ bs
bindings_back bs rs h s = values_back binding_elem binding_of IsProperBinding binding_back bs rs h s

pub bindings_clean : (bs : List Binding) (rs : List Elem) → Each IsProperBinding bs → AreSame (map binding_elem bs) rs → Each IsClean rs
bindings_clean bs rs h s = each_read binding_elem IsProperBinding IsClean binding_clean bs rs h s

-- what the names of bindings are, and what they are not
pub bindings_among : Each (λ n. is_among binding_names n ≡ true) binding_names
unfolding is_among same injector
bindings_among = (refl, (refl, (refl, (refl, (refl, tt)))))

pub no_runner : Each (λ n. is_among (listed (codes "runner")) n ≡ false) binding_names
unfolding is_among same injector
no_runner = (refl, (refl, (refl, (refl, (refl, tt)))))

pub no_command : Each (λ n. is_among (listed (codes "command")) n ≡ false) binding_names
unfolding is_among same injector
no_command = (refl, (refl, (refl, (refl, (refl, tt)))))
