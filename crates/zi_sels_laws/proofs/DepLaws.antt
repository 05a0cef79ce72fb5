-- Dependencies as they are written: what is read of them, and that nothing is wrong with them.
use Rattle.std.proofs.Common.{◌≡◌, ℕ, true, false, ◌||◌, List, [], ◌∷◌, ◌++◌, map, Option, Some, None, codes, refl, sym, ap, subst, ◌∙◌}
use Rattle.std.specs.Prelude.{not, is_some, option_and_then, unwrap_or}
use Rattle.zi_version.specs.declared.alternative.Range.{Range}
use Rattle.zi_elements.specs.declared.element.Attr.{Attr}
use Rattle.zi_elements.specs.Forest.{Forest, Elem, elements, attribute, value}
use Rattle.zi_elements.specs.Namespace.{injector}
use Rattle.zi_docout.specs.Elements.{attr}
use Rattle.zi_docout.specs.Same.{IsSame}
use Rattle.zi_address.specs.Texts.{same}
use Rattle.zi_reading.specs.Ways.{AsWritten}
use Rattle.zi_reading.specs.Words.{is_among, listed, is_wrong, repeated}
use Rattle.zi_parts.specs.Values.{importance_of, dep_binding_of, dep_bindings_of, commands_by, dep_of, ranges_of}
use Rattle.zi_reading.specs.Reading.{is_unclear, parts, binding_names, meaning, read_in, those}
use Rattle.zi_faults.specs.Said.{Said}
use Rattle.zi_faults.specs.Faults.{faults_with, kinds_at, is_bad_part, has_no_interface, has_fault, repeats_in, shims_in, share}
use Rattle.zi_faults.specs.declared.fault.FeedKind.TheVariants.{BadAddress}
use Rattle.zi_parts.specs.declared.types.Binding.{Binding}
use Rattle.zi_parts.specs.declared.types.Dep.{Dep}
use Rattle.zi_parts.specs.declared.types.DepKind.{DepKind}
use Rattle.zi_parts.specs.declared.types.DepKind.TheVariants.{Essential, Recommended, Restricts}
use Rattle.zi_sels.specs.Written.{kind_attrs, binding_elem, dep_elem}
use Rattle.zi_sels_laws.proofs.LikeLaws.{AreSame, same_inside, Each}
use Rattle.zi_sels_laws.proofs.FieldLaws.{Field, field, fields, looked, app}
use Rattle.zi_sels_laws.proofs.PlainLaws.{here_is, made_is, condition, IsPlain, free_clear, stood, plain_open, all_parts, of_parts, of_those}
use Rattle.zi_sels_laws.proofs.CleanLaws.{IsClean, clean_inside, tested_faults, quiet_where, never_wrong}
use Rattle.zi_sels_laws.proofs.BindingLaws.{IsBinding, bindings_among, no_runner, no_command, no_repeats, good_part}
use Rattle.zi_sels_laws.proofs.ShimLaws.{IsProperDepBinding, dep_bindings_are, dep_bindings_back, dep_bindings_clean, dep_bindings_harmless, no_shims}

-- it is written with these words
abbrev pub IsAsked : DepKind → Type 0
IsAsked Essential = Unit {0}
IsAsked Recommended = Unit {0}
IsAsked Restricts = ⊥

-- a dependency as it may be read of a selections document
pub record IsProperDep (dep : Dep) : Type 0 where
  pub kind : IsAsked dep.kind
  pub ranges : dep.ranges ≡ []
  pub os : dep.condition.os ≡ None
  pub wanted : dep.condition.wanted ≡ None
  pub commands : dep.commands ≡ commands_by [] dep.bindings
  pub bindings : Each IsProperDepBinding dep.bindings

-- Dependencies.

abbrev pub importance : DepKind → Option (List ℕ)
importance Essential = None
importance Recommended = Some (codes "recommended")
importance Restricts = None

abbrev dep_fields : List ℕ → DepKind → List Field
dep_fields interface kind = field (codes "interface") (Some interface) ∷ field (codes "importance") (importance kind) ∷ []

abbrev dep_attrs : List ℕ → DepKind → List Attr
dep_attrs interface kind = attr (codes "interface") interface ∷ [] ++ kind_attrs kind

dep_as_fields : (interface : List ℕ) (kind : DepKind) → dep_attrs interface kind ≡ fields (dep_fields interface kind)
dep_as_fields interface Essential = refl
dep_as_fields interface Recommended = refl
dep_as_fields interface Restricts = refl

abbrev dep_here : List Field → Forest → ℕ → Elem
dep_here fs f p = here_is (codes "requires") (fields fs) f p

abbrev dep_by : Option (List ℕ) → Option (List ℕ) → List Binding → Dep
dep_by i k bs = record {
  interface = unwrap_or (option_and_then (meaning AsWritten) i) [];
  kind = unwrap_or (option_and_then importance_of k) Essential;
  ranges = [];
  condition = record { os = None; wanted = None };
  commands = commands_by [] bs;
  bindings = bs;
}

dep_means : (fs : List Field) (f : Forest) (p : ℕ)
    → dep_of AsWritten (dep_here fs f p) ≡ dep_by (attribute (codes "interface") (dep_here fs f p)) (attribute (codes "importance") (dep_here fs f p)) (dep_bindings_of AsWritten (dep_here fs f p))
unfolding dep_of same ranges_of injector
dep_means fs f p = refl

kind_again : (kind : DepKind) → IsAsked kind → unwrap_or (option_and_then importance_of (importance kind)) Essential ≡ kind
unfolding importance_of same injector
kind_again Essential h = refl
kind_again Recommended h = refl
kind_again Restricts h = absurd h

kind_right : (kind : DepKind) → is_wrong (λ t. is_some (importance_of t)) (importance kind) ≡ false
unfolding importance_of same injector
kind_right Essential = refl
kind_right Recommended = refl
kind_right Restricts = refl

dep_tested : (s : Said) (fs : List Field) (f : Forest) (p : ℕ)
    → faults_with AsWritten s (dep_here fs f p) ≡ tested_faults (dep_here fs f p) (is_unclear (dep_here fs f p)) false (is_bad_part (dep_here fs f p))
    (has_no_interface (dep_here fs f p)) (has_fault AsWritten s BadAddress (dep_here fs f p)) (repeats_in AsWritten (dep_here fs f p)) (shims_in AsWritten (dep_here fs f p))
unfolding faults_with kinds_at same is_among injector
dep_tested s fs f p = refl

dep_named : (interface : List ℕ) (kind : DepKind) (f : Forest) (p : ℕ) → has_no_interface (dep_here (dep_fields interface kind) f p) ≡ false
unfolding same is_among injector
dep_named interface kind f p = ap (λ o. not (is_some o) || false) (looked (codes "interface") (dep_fields interface kind) refl)

dep_addressed : (s : Said) (fs : List Field) (f : Forest) (p : ℕ) → has_fault AsWritten s BadAddress (dep_here fs f p) ≡ false
unfolding same is_among injector
dep_addressed s fs f p = ap (λ b. b || false || false || false) (never_wrong (attribute (codes "interface") (dep_here fs f p)))

stood_requires : Each (λ n. stood (codes "requires") n ≡ true) binding_names
unfolding is_among same read_in injector
stood_requires = (refl, (refl, (refl, (refl, (refl, tt)))))

dep_plain : (interface : List ℕ) (kind : DepKind) (f : Forest) (p : ℕ) → IsPlain (codes "requires") (dep_here (dep_fields interface kind) f p)
dep_plain interface kind f p = record { space = refl; named = refl; free = looked condition (dep_fields interface kind) refl }

no_recipe : same (codes "requires") (codes "recipe") ≡ false
unfolding same injector
no_recipe = refl

-- what is read in one is its bindings
dep_parts : (interface : List ℕ) (kind : DepKind) (f : Forest) (p : ℕ) → Each IsBinding (elements f) → parts AsWritten (dep_here (dep_fields interface kind) f p) ≡ elements f
dep_parts interface kind f p h =
    let e = dep_here (dep_fields interface kind) f p in
    all_parts e (plain_open (codes "requires") e (dep_plain interface kind f p) no_recipe)
    (of_parts binding_names (codes "requires") stood_requires (elements f) h)

abbrev dep_with : Dep → DepKind → List Range → Option (List ℕ) → Option (List ℕ) → List (List ℕ) → Dep
dep_with dep k r o w c = record { interface = dep.interface; kind = k; ranges = r; condition = record { os = o; wanted = w }; commands = c; bindings = dep.bindings }

whole : (dep : Dep) → IsProperDep dep → dep_by (Some dep.interface) (importance dep.kind) dep.bindings ≡ dep
whole dep h = app (app (app (app (ap (dep_with dep) (kind_again dep.kind h.kind)) (sym h.ranges)) (sym h.os)) (sym h.wanted)) (sym h.commands)

dep_here_back : (dep : Dep) (f : Forest) (p : ℕ) → IsProperDep dep → AreSame (map binding_elem dep.bindings) (elements f) → dep_of AsWritten (dep_here (dep_fields dep.interface dep.kind) f p) ≡ dep
dep_here_back dep f p h s =
    let fs = dep_fields dep.interface dep.kind in
    let e = dep_here fs f p in
    let are = dep_bindings_are dep.bindings (elements f) h.bindings s in
    let found : dep_bindings_of AsWritten e ≡ dep.bindings = ap (λ v. map dep_binding_of (those binding_names v)) (dep_parts dep.interface dep.kind f p are)
    ∙ (ap (map dep_binding_of) (of_those binding_names binding_names true bindings_among (elements f) are) ∙ dep_bindings_back dep.bindings (elements f) h.bindings s) in
    dep_means fs f p
    ∙ (app (app (ap dep_by (looked (codes "interface") fs refl)) (looked (codes "importance") fs refl)) found
    ∙ whole dep h)

dep_good : (interface : List ℕ) (kind : DepKind) (f : Forest) (p : ℕ) → is_bad_part (dep_here (dep_fields interface kind) f p) ≡ false
unfolding same injector
dep_good interface kind f p =
    good_part (dep_here (dep_fields interface kind) f p) refl refl refl
    (ap (is_wrong (λ t. is_some (importance_of t))) (looked (codes "importance") (dep_fields interface kind) refl) ∙ kind_right kind)

dep_here_clean : (dep : Dep) (f : Forest) (p : ℕ) → IsProperDep dep → AreSame (map binding_elem dep.bindings) (elements f) → IsClean (dep_here (dep_fields dep.interface dep.kind) f p)
dep_here_clean dep f p h s =
    let fs = dep_fields dep.interface dep.kind in
    let e = dep_here fs f p in
    let are = dep_bindings_are dep.bindings (elements f) h.bindings s in (
      λ v. dep_tested v fs f p ∙ quiet_where e (is_unclear e) false (is_bad_part e) (has_no_interface e) (has_fault AsWritten v BadAddress e) (repeats_in AsWritten e) (shims_in AsWritten e)
          (free_clear e (looked condition fs refl)) refl (dep_good dep.interface dep.kind f p)
          (dep_named dep.interface dep.kind f p) (dep_addressed v fs f p)
          (no_repeats e (elements f) (dep_parts dep.interface dep.kind f p are) (ap (repeated (λ a b. true)) (of_those binding_names (listed (codes "runner")) false no_runner (elements f) are))
          (ap (repeated (share (codes "name"))) (of_those binding_names (listed (codes "command")) false no_command (elements f) are)))
          (no_shims e (elements f) (dep_parts dep.interface dep.kind f p are) (dep_bindings_harmless dep.bindings (elements f) h.bindings s)),
      clean_inside (codes "requires") f (dep_bindings_clean dep.bindings (elements f) h.bindings s),
    )

dep_same : (dep : Dep) (r : Elem) → IsSame (dep_elem dep) r → dep_here (dep_fields dep.interface dep.kind) r.inside r.place ≡ r
unfolding dep_elem
dep_same dep r s = ap (λ v. here_is (codes "requires") v r.inside r.place) (sym (dep_as_fields dep.interface dep.kind)) ∙ made_is (codes "requires") (dep_attrs dep.interface dep.kind) _ r s

dep_inside : (dep : Dep) (r : Elem) → IsSame (dep_elem dep) r → AreSame (map binding_elem dep.bindings) (elements r.inside)
unfolding dep_elem
dep_inside dep r s = same_inside (codes "requires") (dep_attrs dep.interface dep.kind) (map binding_elem dep.bindings) r s

pub dep_is : (dep : Dep) (r : Elem) → IsProperDep dep → IsSame (dep_elem dep) r → IsPlain (codes "requires") r
dep_is dep r h s = subst (IsPlain (codes "requires")) (dep_same dep r s) (dep_plain dep.interface dep.kind r.inside r.place)

pub dep_back : (dep : Dep) (r : Elem) → IsProperDep dep → IsSame (dep_elem dep) r → dep_of AsWritten r ≡ dep
dep_back dep r h s = ap (dep_of AsWritten) (sym (dep_same dep r s)) ∙ dep_here_back dep r.inside r.place h (dep_inside dep r s)

pub dep_clean : (dep : Dep) (r : Elem) → IsProperDep dep → IsSame (dep_elem dep) r → IsClean r
dep_clean dep r h s = subst IsClean (dep_same dep r s) (dep_here_clean dep r.inside r.place h (dep_inside dep r s))

-- what an element asks for is the interface of the dependency
pub dep_interface : (dep : Dep) (r : Elem) → IsProperDep dep → IsSame (dep_elem dep) r → value (codes "interface") r ≡ dep.interface
dep_interface dep r h s = ap (value (codes "interface")) (sym (dep_same dep r s)) ∙ ap (λ o. unwrap_or o []) (looked (codes "interface") (dep_fields dep.interface dep.kind) refl)

pub dep_importance : (dep : Dep) (r : Elem) → IsProperDep dep → IsSame (dep_elem dep) r → attribute (codes "importance") r ≡ importance dep.kind
dep_importance dep r h s = ap (attribute (codes "importance")) (sym (dep_same dep r s)) ∙ looked (codes "importance") (dep_fields dep.interface dep.kind) refl
