-- Elements of a document that was read: the names of the bindings in their parts can be carried.
use Rattle.std.proofs.Common.{ℕ, Bool, true, false, cond, List, [], ◌∷◌, ◌++◌, map, Option, Some, None, codes}
use Rattle.std.specs.Prelude.{if◌then◌else◌, not, option_map, option_and_then, unwrap_or}
use Rattle.std.specs.List.{find, filter}
use Rattle.zi_elements.specs.declared.element.Attr.{Attr}
use Rattle.zi_elements.specs.declared.element.Element.{Element}
use Rattle.zi_elements.specs.Forest.{Forest, none, words, child, Elem, elements, is_attribute, attribute, value, element_view, whole}
use Rattle.zi_reading.specs.Words.{is_among, listed, optional}
use Rattle.zi_reading.specs.Ways.{Ways}
use Rattle.zi_reading.specs.Reading.{stands, is, is_closed, is_part, parts, binding_names, named}
use Rattle.zi_faults.specs.Sites.{Site, here, under, sites, path}
use Rattle.zi_parts.specs.Values.{mode_of, extra_of, binding_of, command_named, dep_binding_of, dep_bindings_of, dep_of, deps_of, runner_of, command_of, commands_of}
use Rattle.zi_parts.specs.declared.types.Binding.{Binding}
use Rattle.zi_parts.specs.declared.types.Binding.TheVariants.{Env, ExecVar, ExecPath, Unbuilt}
use Rattle.zi_parts.specs.declared.types.Mode.{Mode}
use Rattle.zi_parts.specs.declared.types.Mode.TheVariants.{Prepend}
use Rattle.zi_parts.specs.declared.types.Dep.{Dep}
use Rattle.zi_parts.specs.declared.types.Runner.{Runner}
use Rattle.zi_parts.specs.declared.types.Command.{Command}
use Rattle.zi_doc_laws.specs.Trees.{IsCarried, HasCarriedValues, HasCarriedTexts}
use Rattle.zi_doc_laws.proofs.CarriedLaws.{none_carried}
use Rattle.zi_sels_laws.proofs.LikeLaws.{Each, each_append}
use Rattle.zi_sels_laws.proofs.FreeLaws.{each_weak, each_map, each_first, sub_filter}

-- Elements.

-- all values and texts in an element can be carried
pub record IsCarriedElem (e : Elem) : Type 0 where
  pub values : HasCarriedValues e.attrs
  pub texts : HasCarriedTexts e.inside

pub root_carried : (t : Element) → HasCarriedTexts (whole t) → IsCarriedElem (element_view t)
root_carried t h = record { values = h.0; texts = h.1.0 }

found_carried : (p : Attr → Bool) (attrs : List Attr) → HasCarriedValues attrs → IsCarried (unwrap_or (option_map (λ (a : Attr). a.value) (find p attrs)) [])
found_carried p [] h = none_carried
found_carried p (a ∷ attrs) h = by (p a) (found_carried p attrs h.1)
  where
    by : (b : Bool) → IsCarried (unwrap_or (option_map (λ (a : Attr). a.value) (find p attrs)) []) → IsCarried (unwrap_or (option_map (λ (a : Attr). a.value) (cond b (Some a) (find p attrs))) [])
    by true k = h.0
    by false k = k

name_carried : (e : Elem) → IsCarriedElem e → IsCarried (value (codes "name") e)
name_carried e h = found_carried (is_attribute (codes "name")) e.attrs h.values

pub elements_carried : (f : Forest) → HasCarriedTexts f → Each IsCarriedElem (elements f)
elements_carried none h = tt
elements_carried (words t k) h = elements_carried k h.1
elements_carried (child s n a f p k) h = (record { values = h.0; texts = h.1.0 }, elements_carried k h.1.1)

parts_carried : (ways : Ways) (e : Elem) → IsCarriedElem e → Each IsCarriedElem (parts ways e)
unfolding parts
parts_carried ways e h = by (is_closed e) (sub_filter IsCarriedElem (is_part ways e.name) (elements e.inside) (elements_carried e.inside h.texts))
  where
    by : (b : Bool) → Each IsCarriedElem (filter (is_part ways e.name) (elements e.inside)) → Each IsCarriedElem (if b then [] else filter (is_part ways e.name) (elements e.inside))
    by true k = tt
    by false k = k

named_carried : (ways : Ways) (names : List (List ℕ)) (e : Elem) → IsCarriedElem e → Each IsCarriedElem (named ways names e)
named_carried ways names e h = sub_filter IsCarriedElem (λ c. is_among names c.name) (parts ways e) (parts_carried ways e h)

-- Elements that are read, each with those around it.

abbrev pub IsCarriedAlong : Site → Type 0
IsCarriedAlong t = Each IsCarriedElem (path t)

each_under : (e : Elem) (ss : List Site) → IsCarriedElem e → Each IsCarriedAlong ss → Each IsCarriedAlong (map (under e) ss)
each_under e [] c h = tt
each_under e (s ∷ ss) c h = ((c, h.0), each_under e ss c h.1)

pub sites_carried : (ways : Ways) (parent : List ℕ) (f : Forest) → HasCarriedTexts f → Each IsCarriedAlong (sites ways parent f)
sites_carried ways parent none h = tt
sites_carried ways parent (words t k) h = sites_carried ways parent k h.1
sites_carried ways parent (child s n a f p k) h =
    let e : Elem = record { space = s; name = n; attrs = a; inside = f; place = p } in
    let c : IsCarriedElem e = record { values = h.0; texts = h.1.0 } in
    either e c (stands ways parent e) (is_closed e) (sites_carried ways n f h.1.0) (sites_carried ways parent k h.1.1)
  where
    either : (e : Elem) → IsCarriedElem e → (b c : Bool) → Each IsCarriedAlong (sites ways e.name e.inside) → Each IsCarriedAlong (sites ways parent k)
        → Each IsCarriedAlong (if not b then sites ways parent k else if c then here e ∷ sites ways parent k else here e ∷ (map (under e) (sites ways e.name e.inside) ++ sites ways parent k))
    either e x false c within more = more
    either e x true true within more = ((x, tt), more)
    either e x true false within more =
        ((x, tt), each_append IsCarriedAlong (map (under e) (sites ways e.name e.inside)) (sites ways parent k) (each_under e (sites ways e.name e.inside) x within) more)

-- what is so of all that is made of carried elements
pub each_made : {X : Type 0} (P : X → Type 0) (f : Elem → X) → ((e : Elem) → IsCarriedElem e → P (f e)) → (es : List Elem) → Each IsCarriedElem es → Each P (map f es)
each_made P f one es h = each_map P f es (each_weak IsCarriedElem (λ e. P (f e)) one es h)

-- Bindings: where one makes a command available, its name can be carried.

abbrev pub IsClear : Binding → Type 0
IsClear (Env name extra mode separator default) = Unit {0}
IsClear (ExecVar name command) = IsCarried name
IsClear (ExecPath name command) = IsCarried name
IsClear (Unbuilt element) = Unit {0}

binding_clear : (e : Elem) → IsClear (binding_of e)
unfolding binding_of
binding_clear e = by (is (codes "environment") e) (unwrap_or (option_and_then mode_of (attribute (codes "mode") e)) Prepend)
  where
    by : (b : Bool) (m : Mode)
        → IsClear (if b then Env (value (codes "name") e) (extra_of e) m (unwrap_or (attribute (codes "separator") e) (codes ":")) (attribute (codes "default") e) else Unbuilt e.name)
    by true m = tt
    by false m = tt

dep_binding_clear : (e : Elem) → IsCarriedElem e → IsClear (dep_binding_of e)
unfolding dep_binding_of
dep_binding_clear e h = by (is (codes "executable-in-var") e) (is (codes "executable-in-path") e)
  where
    by : (v p : Bool) → IsClear (if v then ExecVar (value (codes "name") e) (command_named e) else if p then ExecPath (value (codes "name") e) (command_named e) else binding_of e)
    by true p = name_carried e h
    by false true = name_carried e h
    by false false = binding_clear e

dep_bindings_clear : (ways : Ways) (e : Elem) → IsCarriedElem e → Each IsClear (dep_bindings_of ways e)
dep_bindings_clear ways e h = each_made IsClear dep_binding_of dep_binding_clear (named ways binding_names e) (named_carried ways binding_names e h)

-- Dependencies, runners and commands.

abbrev pub IsClearDep : Dep → Type 0
IsClearDep d = Each IsClear d.bindings

abbrev pub IsClearRunner : Runner → Type 0
IsClearRunner r = IsClearDep r.dep

pub record IsClearCommand (k : Command) : Type 0 where
  pub runner : Each IsClearRunner (optional k.runner)
  pub deps : Each IsClearDep k.deps

pub dep_clear : (ways : Ways) (e : Elem) → IsCarriedElem e → IsClearDep (dep_of ways e)
unfolding dep_of
dep_clear ways e h = dep_bindings_clear ways e h

pub deps_clear : (ways : Ways) (e : Elem) → IsCarriedElem e → Each IsClearDep (deps_of ways e)
deps_clear ways e h = each_made IsClearDep (dep_of ways) (dep_clear ways) (named ways (listed (codes "requires restricts")) e) (named_carried ways (listed (codes "requires restricts")) e h)

runner_clear : (ways : Ways) (e : Elem) → IsCarriedElem e → IsClearRunner (runner_of ways e)
unfolding runner_of
runner_clear ways e h = dep_bindings_clear ways e h

pub command_clear : (ways : Ways) (e : Elem) → IsCarriedElem e → IsClearCommand (command_of ways e)
unfolding command_of
command_clear ways e h = record {
  runner = each_first IsClearRunner (runner_of ways) (named ways (listed (codes "runner")) e)
      (each_weak IsCarriedElem (λ r. IsClearRunner (runner_of ways r)) (runner_clear ways) (named ways (listed (codes "runner")) e) (named_carried ways (listed (codes "runner")) e h));
  deps = deps_clear ways e h;
}

pub commands_clear : (ways : Ways) (e : Elem) → IsCarriedElem e → Each IsClearCommand (commands_of ways e)
commands_clear ways e h = each_made IsClearCommand (command_of ways) (command_clear ways) (named ways (listed (codes "command")) e) (named_carried ways (listed (codes "command")) e h)
