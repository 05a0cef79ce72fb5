-- What is added along a path, and what is active of it.
use Rattle.std.proofs.Common.{◌≡◌, ℕ, Bool, true, false, cond, ◌||◌, List, [], ◌∷◌, ◌++◌, map, Option, Some, None, codes, refl, sym, ap, subst, ◌∙◌, append-nil, append_assoc}
use Rattle.std.specs.List.{list_any, fold, flat_map}
use Rattle.std.specs.Option.{option_map}
use Rattle.std.specs.Prelude.{option_and_then}
use Rattle.std.proofs.lemmas.List.{map-append}
use Rattle.std.proofs.lemmas.List.Folds.{list_any-append, flat_map-map}
use Rattle.zi_elements.specs.Forest.{Elem}
use Rattle.zi_version.specs.Range.{a_version}
use Rattle.zi_policy.specs.declared.types.Policy.{Policy}
use Rattle.zi_policy.specs.Platform.{is_active}
use Rattle.zi_parts.specs.declared.types.Impl.{Impl}
use Rattle.zi_parts.specs.declared.types.Dep.{Dep}
use Rattle.zi_parts.specs.declared.types.Command.{Command}
use Rattle.zi_parts.specs.declared.types.Binding.{Binding}
use Rattle.zi_feed.specs.declared.along.Own.{Own}
use Rattle.zi_feed.specs.declared.along.Added.{Added}
use Rattle.zi_address.specs.Texts.{same}
use Rattle.zi_reading.specs.Words.{latest}
use Rattle.zi_reading.specs.Ways.{Ways}
use Rattle.zi_faults.specs.Said.{Said, version_text}
use Rattle.zi_parts.specs.Values.{deps_of, commands_of, bindings_of}
use Rattle.zi_feed.specs.Impls.{are_alike, is_run, with_main, main_command, impl_with, impl_from}
use Rattle.zi_feed.specs.Active.{active_deps, active_command, active_part, kept_own}
use Rattle.zi_feed.specs.Inward.{own_of, added_nothing, added_with, IsAdded, impl_at}
use Rattle.zi_reading.proofs.TextLaws.{same_text}
use Rattle.zi_feed.proofs.KeptLaws.{latest_again, latest_twice, any_latest, latest_map, filter_each, map_each, option_map_through}

-- commands of one name are both `run`, or neither
alike_run : (c d : Command) → are_alike c d ≡ true → is_run c ≡ is_run d
alike_run c d h = ap (λ n. same n (codes "run")) (same_text c.name d.name h)

-- One element more.
pub run_more : (a : Added) (o : Own) → IsAdded a → (a.has_run || list_any is_run o.commands) ≡ list_any is_run (latest are_alike (a.commands ++ o.commands))
run_more a o h =
    ap (λ b. b || list_any is_run o.commands) h.run
    ∙ (sym (list_any-append is_run a.commands o.commands) ∙ sym (any_latest are_alike is_run alike_run (a.commands ++ o.commands)))

pub is_added : (a : Added) (o : Own) → IsAdded a → IsAdded (added_with a o)
is_added a o h = record {
  latest_alone = latest_twice are_alike (a.commands ++ o.commands);
  run = run_more a o h;
}

pub none_added : IsAdded added_nothing
none_added = record { latest_alone = refl; run = refl }

-- what is made is that
pub four_added : (a b : Added) (o : Own) → b.deps ≡ a.deps ++ o.deps → b.commands ≡ latest are_alike (a.commands ++ o.commands)
    → b.has_run ≡ (a.has_run || list_any is_run o.commands) → b.bindings ≡ a.bindings ++ o.bindings → IsAdded a → (b ≡ added_with a o) × IsAdded b
four_added a b o d k r n h = (is, subst IsAdded (sym is) (is_added a o h))
  where
    is : b ≡ added_with a o
    is =
        ap (λ v. record { deps = v; commands = b.commands; has_run = b.has_run; bindings = b.bindings }) d
        ∙ (ap (λ v. record { deps = a.deps ++ o.deps; commands = v; has_run = b.has_run; bindings = b.bindings }) k
        ∙ (ap (λ v. record { deps = a.deps ++ o.deps; commands = latest are_alike (a.commands ++ o.commands); has_run = v; bindings = b.bindings }) r
        ∙ ap (λ v. record { deps = a.deps ++ o.deps; commands = latest are_alike (a.commands ++ o.commands); has_run = a.has_run || list_any is_run o.commands; bindings = v }) n))

-- Along a path.
pub deps_along : (a : Added) (os : List Own) → (fold added_with a os).deps ≡ a.deps ++ flat_map (λ (o : Own). o.deps) os
deps_along a [] = sym (append-nil a.deps)
deps_along a (o ∷ os) = deps_along (added_with a o) os ∙ append_assoc a.deps o.deps (flat_map (λ (o : Own). o.deps) os)

pub bindings_along : (a : Added) (os : List Own) → (fold added_with a os).bindings ≡ a.bindings ++ flat_map (λ (o : Own). o.bindings) os
bindings_along a [] = sym (append-nil a.bindings)
bindings_along a (o ∷ os) = bindings_along (added_with a o) os ∙ append_assoc a.bindings o.bindings (flat_map (λ (o : Own). o.bindings) os)

pub commands_along : (a : Added) (os : List Own) → latest are_alike (fold added_with a os).commands ≡ latest are_alike (a.commands ++ flat_map (λ (o : Own). o.commands) os)
commands_along a [] = ap (latest are_alike) (sym (append-nil a.commands))
commands_along a (o ∷ os) =
    let later : List Command = flat_map (λ (o : Own). o.commands) os in
    commands_along (added_with a o) os
    ∙ (latest_again are_alike (a.commands ++ o.commands) later ∙ ap (latest are_alike) (append_assoc a.commands o.commands later))

-- An implementation is what three lists say, of the commands the latest.
from_three : (ways : Ways) (s : Said) (e : Elem) (ds ds' : List Dep) (cs cs' : List Command) (bs bs' : List Binding)
    → ds ≡ ds' → latest are_alike cs ≡ latest are_alike cs' → bs ≡ bs' → impl_from ways s ds cs bs e ≡ impl_from ways s ds' cs' bs' e
unfolding impl_from
from_three ways s e ds ds' cs cs' bs bs' d c b =
    ap (λ v. option_map (λ version. record (impl_with ways s v cs bs e version) { deps = v }) (option_and_then a_version (version_text s))) d
    ∙ (ap (λ v. option_map (λ version. record (impl_with ways s ds' cs bs e version) { commands = with_main s.main v }) (option_and_then a_version (version_text s))) c
    ∙ ap (λ v. option_map (λ version. record (impl_with ways s ds' cs' bs e version) { bindings = v }) (option_and_then a_version (version_text s))) b)

-- What is active.
run_active : (p : Policy) (b : Bool) (m : List ℕ) (cs : List Command)
    → cond b (map (active_command p) cs) (map (active_command p) cs ++ main_command m ∷ []) ≡ map (active_command p) (cond b cs (cs ++ main_command m ∷ []))
run_active p true m cs = refl
run_active p false m cs = sym (map-append (active_command p) cs (main_command m ∷ []))

any_run : (p : Policy) (cs : List Command) → list_any is_run (map (active_command p) cs) ≡ list_any is_run cs
any_run p [] = refl
any_run p (c ∷ cs) = ap (λ v. is_run c || v) (any_run p cs)

pub main_active : (p : Policy) (m : Option (List ℕ)) (cs : List Command) → with_main m (map (active_command p) cs) ≡ map (active_command p) (with_main m cs)
main_active p None cs = refl
main_active p (Some m) cs =
    let ks : List Command = map (active_command p) cs in
    ap (λ b. cond b ks (ks ++ main_command m ∷ [])) (any_run p cs) ∙ run_active p (list_any is_run cs) m cs

pub latest_active : (p : Policy) (cs : List Command) → latest are_alike (map (active_command p) cs) ≡ map (active_command p) (latest are_alike cs)
latest_active p cs = latest_map are_alike are_alike (active_command p) (λ c d. refl) cs

with_active : (p : Policy) (ways : Ways) (s : Said) (e : Elem) (ds : List Dep) (cs : List Command) (bs : List Binding) (version : List ℕ)
    → impl_with ways s (active_deps p ds) (map (active_command p) cs) bs e version ≡ active_part p (impl_with ways s ds cs bs e version)
unfolding active_part
with_active p ways s e ds cs bs version =
    ap (λ v. record (impl_with ways s (active_deps p ds) (map (active_command p) cs) bs e version) { commands = v })
    (ap (with_main s.main) (latest_active p cs) ∙ main_active p s.main (latest are_alike cs))

from_active : (p : Policy) (ways : Ways) (s : Said) (e : Elem) (ds : List Dep) (cs : List Command) (bs : List Binding)
    → impl_from ways s (active_deps p ds) (map (active_command p) cs) bs e ≡ option_map (active_part p) (impl_from ways s ds cs bs e)
unfolding impl_from
from_active p ways s e ds cs bs =
    option_map_through (active_part p) (impl_with ways s ds cs bs e) (impl_with ways s (active_deps p ds) (map (active_command p) cs) bs e)
    (with_active p ways s e ds cs bs) (option_and_then a_version (version_text s))

-- what is kept of an implementation
abbrev pub kept_impl : Option Policy → Option Impl → Option Impl
kept_impl None i = i
kept_impl (Some p) i = option_map (active_part p) i

abbrev pub kept_at : Ways → Option Policy → Elem → Own
kept_at ways p e = kept_own p (own_of ways e)

-- The implementation at a path is what is kept of the one that the path says.
pub at_path : (ways : Ways) (p : Option Policy) (s : Said) (a : Added) (es : List Elem) (e : Elem) → a.deps ≡ [] → a.commands ≡ [] → a.bindings ≡ []
    → impl_at ways s (fold added_with a (map (kept_at ways p) es)) e
    ≡ kept_impl p (impl_from ways s (flat_map (deps_of ways) es) (flat_map (commands_of ways) es) (flat_map (bindings_of ways) es) e)
unfolding impl_at
at_path ways None s a es e d c b =
    let os : List Own = map (own_of ways) es in
    from_three ways s e _ _ _ _ _ _
    (deps_along a os ∙ (ap (λ v. v ++ flat_map (λ (o : Own). o.deps) os) d ∙ flat_map-map (λ (o : Own). o.deps) (own_of ways) es))
    (commands_along a os ∙ ap (latest are_alike) (ap (λ v. v ++ flat_map (λ (o : Own). o.commands) os) c ∙ flat_map-map (λ (o : Own). o.commands) (own_of ways) es))
    (bindings_along a os ∙ (ap (λ v. v ++ flat_map (λ (o : Own). o.bindings) os) b ∙ flat_map-map (λ (o : Own). o.bindings) (own_of ways) es))
at_path ways (Some p) s a es e d c b =
    let keep : Elem → Own = kept_at ways (Some p) in
    let os : List Own = map keep es in
    from_three ways s e _ _ _ _ _ _
    (deps_along a os ∙ (ap (λ v. v ++ flat_map (λ (o : Own). o.deps) os) d ∙ (flat_map-map (λ (o : Own). o.deps) keep es ∙ filter_each (λ d. is_active p d.condition) (deps_of ways) es)))
    (commands_along a os ∙ ap (latest are_alike) (ap (λ v. v ++ flat_map (λ (o : Own). o.commands) os) c ∙ (flat_map-map (λ (o : Own). o.commands) keep es ∙ map_each (active_command p) (commands_of ways) es)))
    (bindings_along a os ∙ (ap (λ v. v ++ flat_map (λ (o : Own). o.bindings) os) b ∙ flat_map-map (λ (o : Own). o.bindings) keep es))
    ∙ from_active p ways s e (flat_map (deps_of ways) es) (flat_map (commands_of ways) es) (flat_map (bindings_of ways) es)
