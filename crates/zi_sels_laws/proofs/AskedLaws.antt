-- What selections as they are written ask for.
use Rattle.std.proofs.Common.{◌≡◌, ℕ, Bool, true, false, cond, ◌&&◌, ◌||◌, List, [], ◌∷◌, ◌++◌, Option, codes, refl, sym, ap, subst, ◌∙◌}
use Rattle.std.specs.Prelude.{not, filter, unwrap_or, if◌then◌else◌}
use Rattle.std.specs.List.{flat_map}
use Rattle.zi_elements.specs.Forest.{Elem, elements, value}
use Rattle.zi_elements.specs.Namespace.{injector}
use Rattle.zi_docout.specs.Same.{IsSame}
use Rattle.zi_address.specs.Texts.{same}
use Rattle.zi_reading.specs.Words.{is_among, optional}
use Rattle.zi_reading.specs.Reading.{binding_names}
use Rattle.zi_feed.specs.Means.{counts_as}
use Rattle.zi_parts.specs.declared.types.Dep.{Dep}
use Rattle.zi_parts.specs.declared.types.DepKind.{DepKind}
use Rattle.zi_parts.specs.declared.types.DepKind.TheVariants.{Essential, Recommended, Restricts}
use Rattle.zi_parts.specs.declared.types.Command.{Command}
use Rattle.zi_parts.specs.declared.types.Runner.{Runner}
use Rattle.zi_sels.specs.declared.types.Selection.{Selection}
use Rattle.zi_sels.specs.Written.{dep_elem, command_elem, runner_elem, selection_elem}
use Rattle.zi_sels.specs.Refused.{asks, asks_within, asking_at, asking_in, unmet}
use Rattle.zi_sels_laws.proofs.LikeLaws.{Each, each_append, each_read, each_both}
use Rattle.zi_sels_laws.proofs.FieldLaws.{app}
use Rattle.zi_sels_laws.proofs.PlainLaws.{IsPlain, IsOf, plain_counts, among_each}
use Rattle.zi_sels_laws.proofs.DepLaws.{IsProperDep, IsAsked, importance, dep_is, dep_interface, dep_importance}
use Rattle.zi_sels_laws.proofs.WordLaws.{word_names}
use Rattle.zi_sels_laws.proofs.RunnerLaws.{IsProperRunner, runner_interface}
use Rattle.zi_sels_laws.proofs.CommandLaws.{IsProperCommand, PartsOf, dir_names, names_of, command_inside, command_is}
use Rattle.zi_sels_laws.proofs.ItemLaws.{IsProperItem, digest_names, named_inside, item_inside}

-- what is asked for is among these
abbrev pub IsMet : List (List ℕ) → Dep → Type 0
IsMet is dep = dep.kind ≡ Essential → is_among is dep.interface ≡ true

abbrev pub IsMetRunner : List (List ℕ) → Runner → Type 0
IsMetRunner is runner = is_among is runner.dep.interface ≡ true

pub record IsMetCommand (is : List (List ℕ)) (command : Command) : Type 0 where
  pub deps : Each (IsMet is) command.deps
  pub runner : Each (IsMetRunner is) (optional command.runner)

pub record IsMetItem (is : List (List ℕ)) (item : Selection) : Type 0 where
  pub deps : Each (IsMet is) item.deps
  pub commands : Each (IsMetCommand is) item.commands

-- an element's interface is among these
abbrev pub IsIn : List (List ℕ) → Elem → Type 0
IsIn is e = is_among is (value (codes "interface") e) ≡ true

pub in_filter : (is : List (List ℕ)) (test : Elem → Bool) (es : List Elem) → Each (λ e. test e ≡ true → IsIn is e) es → Each (IsIn is) (filter test es)
in_filter is test [] h = tt
in_filter is test (e ∷ es) h = either (test e) refl (in_filter is test es h.1)
  where
    either : (b : Bool) → test e ≡ b → Each (IsIn is) (filter test es) → Each (IsIn is) (cond b (e ∷ filter test es) (filter test es))
    either true k rest = (h.0 k, rest)
    either false k rest = rest

pub in_flat : (is : List (List ℕ)) (f : Elem → List Elem) (es : List Elem) → Each (λ e. Each (IsIn is) (f e)) es → Each (IsIn is) (flat_map f es)
in_flat is f [] h = tt
in_flat is f (e ∷ es) h = each_append (IsIn is) (f e) (flat_map f es) h.0 (in_flat is f es h.1)

pub all_met : (is : List (List ℕ)) (es : List Elem) → Each (IsIn is) es → unmet is es ≡ []
all_met is [] h = refl
all_met is (e ∷ es) h =
    ap (λ b. cond (not b) (value (codes "interface") e ∷ unmet is es) (unmet is es)) h.0 ∙ all_met is es h.1

-- An element that asks for nothing.

abbrev is_quiet : List ℕ → Bool
is_quiet name = same name (codes "requires") || (same name (codes "runner") || same name (codes "command"))

pub record AsksNothing (r : Elem) : Type 0 where
  pub at : asking_at r ≡ []
  pub within : asks_within r ≡ false

asks_of : (name : List ℕ) (r : Elem) → IsPlain name r → same name (codes "requires") ≡ false → asks r ≡ false
asks_of name r p h = ap (λ b. b && not (same (value (codes "importance") r) (codes "recommended"))) (plain_counts name (codes "requires") r p ∙ h)

nothing_asked : (name : List ℕ) (r : Elem) → IsPlain name r → is_quiet name ≡ false → AsksNothing r
nothing_asked name r p h = by (same name (codes "requires")) (same name (codes "runner")) (same name (codes "command")) refl refl refl h
  where
    by : (a b c : Bool) → same name (codes "requires") ≡ a → same name (codes "runner") ≡ b → same name (codes "command") ≡ c → (a || (b || c)) ≡ false → AsksNothing r
    by false false false k l m e = record {
      at = app (ap {B = Bool → List Elem} (λ x y. if x then filter asks_within (elements r.inside) else if y then r ∷ [] else []) (plain_counts name (codes "command") r p ∙ m)) (asks_of name r p k);
      within = app (ap {B = Bool → Bool} (λ x y. x || y) (asks_of name r p k)) (plain_counts name (codes "runner") r p ∙ l);
    }
    by true b c k l m e = absurd (cc e)
    by false true c k l m e = absurd (cc e)
    by false false true k l m e = absurd (cc e)

names_quiet : (names : List (List ℕ)) → Each (λ n. is_quiet n ≡ false) names → (rs : List Elem) → Each (IsOf names) rs → Each AsksNothing rs
names_quiet names all [] h = tt
names_quiet names all (r ∷ rs) h = (nothing_asked h.0.name r h.0.plain (among_each (λ n. is_quiet n ≡ false) names h.0.name all h.0.known), names_quiet names all rs h.1)

-- elements of which nothing is asked ask for what is among any
abbrev MeetsAt : List (List ℕ) → Elem → Type 0
MeetsAt is e = Each (IsIn is) (asking_at e)

abbrev MeetsWithin : List (List ℕ) → Elem → Type 0
MeetsWithin is e = asks_within e ≡ true → IsIn is e

quiet_at : (is : List (List ℕ)) (rs : List Elem) → Each AsksNothing rs → Each (MeetsAt is) rs
quiet_at is [] h = tt
quiet_at is (r ∷ rs) h = (subst (Each (IsIn is)) (sym h.0.at) tt, quiet_at is rs h.1)

quiet_within : (is : List (List ℕ)) (rs : List Elem) → Each AsksNothing rs → Each (MeetsWithin is) rs
quiet_within is [] h = tt
quiet_within is (r ∷ rs) h = ((λ k. absurd (never (asks_within r) h.0.within k)), quiet_within is rs h.1)
  where
    never : (b : Bool) → b ≡ false → b ≡ true → ⊥
    never true p q = cc p
    never false p q = cc q

-- Dependencies and runners.

abbrev is_essential : DepKind → Bool
is_essential Essential = true
is_essential Recommended = false
is_essential Restricts = true

kind_asks : (kind : DepKind) → IsAsked kind → (true && not (same (unwrap_or (importance kind) []) (codes "recommended"))) ≡ is_essential kind
unfolding same injector
kind_asks Essential h = refl
kind_asks Recommended h = refl
kind_asks Restricts h = absurd h

same_self : same (codes "requires") (codes "requires") ≡ true
unfolding same injector
same_self = refl

pub not_command : same (codes "requires") (codes "command") ≡ false
unfolding same injector
not_command = refl

not_runner : same (codes "requires") (codes "runner") ≡ false
unfolding same injector
not_runner = refl

dep_asks : (dep : Dep) (r : Elem) → IsProperDep dep → IsSame (dep_elem dep) r → asks r ≡ is_essential dep.kind
dep_asks dep r h s =
    app (ap {B = Option (List ℕ) → Bool} (λ b o. b && not (same (unwrap_or o []) (codes "recommended"))) (plain_counts (codes "requires") (codes "requires") r (dep_is dep r h s) ∙ same_self)) (dep_importance dep r h s)
    ∙ kind_asks dep.kind h.kind

essential : (kind : DepKind) → IsAsked kind → is_essential kind ≡ true → kind ≡ Essential
essential Essential h e = refl
essential Recommended h e = absurd (cc e)
essential Restricts h e = absurd h

-- a proper dependency that is met
abbrev IsMetDep : List (List ℕ) → Dep → Type 0
IsMetDep is dep = IsProperDep dep × IsMet is dep

dep_in : (is : List (List ℕ)) (dep : Dep) (r : Elem) → IsMetDep is dep → IsSame (dep_elem dep) r → asks r ≡ true → IsIn is r
dep_in is dep r h s k =
    subst (λ i. is_among is i ≡ true) (sym (dep_interface dep r h.0 s)) (h.1 (essential dep.kind h.0.kind (sym (dep_asks dep r h.0 s) ∙ k)))

dep_at : (is : List (List ℕ)) (dep : Dep) (r : Elem) → IsMetDep is dep → IsSame (dep_elem dep) r → MeetsAt is r
dep_at is dep r h s =
    subst (Each (IsIn is)) (sym (ap (λ b. if b then filter asks_within (elements r.inside) else if asks r then r ∷ [] else []) (plain_counts (codes "requires") (codes "command") r (dep_is dep r h.0 s) ∙ not_command)))
    (either (asks r) refl)
  where
    either : (b : Bool) → asks r ≡ b → Each (IsIn is) (if b then r ∷ [] else [])
    either true k = (dep_in is dep r h s k, tt)
    either false k = tt

dep_within : (is : List (List ℕ)) (dep : Dep) (r : Elem) → IsMetDep is dep → IsSame (dep_elem dep) r → MeetsWithin is r
dep_within is dep r h s k = dep_in is dep r h s (alone (asks r) (counts_as (codes "runner") r) (plain_counts (codes "requires") (codes "runner") r (dep_is dep r h.0 s) ∙ not_runner) k)
  where
    alone : (a b : Bool) → b ≡ false → (a || b) ≡ true → a ≡ true
    alone true b p q = refl
    alone false true p q = absurd (cc p)
    alone false false p q = q

abbrev IsRun : List (List ℕ) → Runner → Type 0
IsRun is x = IsProperRunner x × IsMetRunner is x

runner_within : (is : List (List ℕ)) (x : Runner) (r : Elem) → IsRun is x → IsSame (runner_elem x) r → MeetsWithin is r
runner_within is x r h s k = subst (λ i. is_among is i ≡ true) (sym (runner_interface x r h.0 s)) h.1

-- Commands.

abbrev IsMetProper : List (List ℕ) → Command → Type 0
IsMetProper is c = IsProperCommand c × IsMetCommand is c

self_command : same (codes "command") (codes "command") ≡ true
unfolding same injector
self_command = refl

within_all : (is : List (List ℕ)) (c : Command) (rs : List Elem) → IsMetProper is c → PartsOf c rs → Each (MeetsWithin is) rs
unfolding same injector
within_all is c rs h p =
    let n = names_of c rs h.0 p in
    let W = MeetsWithin is in
    subst (Each W) (sym p.whole)
    (each_append W (p.bindings ++ p.dirs ++ p.deps ++ p.words) p.runners
    (each_append W (p.bindings ++ p.dirs ++ p.deps) p.words
    (each_append W (p.bindings ++ p.dirs) p.deps
    (each_append W p.bindings p.dirs (quiet_within is p.bindings (names_quiet binding_names (refl, (refl, (refl, (refl, (refl, tt))))) p.bindings n.bindings)) (quiet_within is p.dirs (names_quiet dir_names (refl, tt) p.dirs n.dirs)))
    (each_read dep_elem (IsMetDep is) W (dep_within is) c.deps p.deps (each_both IsProperDep (IsMet is) c.deps h.0.deps h.1.deps) p.deps_same))
    (quiet_within is p.words (names_quiet word_names (refl, (refl, tt)) p.words n.words)))
    (each_read runner_elem (IsRun is) W (runner_within is) (optional c.runner) p.runners (each_both IsProperRunner (IsMetRunner is) (optional c.runner) h.0.runner h.1.runner) p.runners_same))

command_at : (is : List (List ℕ)) (c : Command) (r : Elem) → IsMetProper is c → IsSame (command_elem c) r → MeetsAt is r
command_at is c r h s =
    subst (Each (IsIn is)) (sym (ap (λ b. if b then filter asks_within (elements r.inside) else if asks r then r ∷ [] else []) (plain_counts (codes "command") (codes "command") r (command_is c r h.0 s) ∙ self_command)))
    (in_filter is asks_within (elements r.inside) (within_all is c (elements r.inside) h (command_inside c r s)))

-- Selections.

abbrev pub IsMetWhole : List (List ℕ) → Selection → Type 0
IsMetWhole is item = IsProperItem item × IsMetItem is item

pub item_meets : (is : List (List ℕ)) (item : Selection) (r : Elem) → IsMetWhole is item → IsSame (selection_elem item) r → Each (IsIn is) (asking_in r)
unfolding same injector
item_meets is item r h s =
    let p = item_inside item r s in
    let n = named_inside item (elements r.inside) h.0 p in
    let A = MeetsAt is in
    in_flat is asking_at (elements r.inside)
    (subst (Each A) (sym p.whole)
    (each_append A (p.digests ++ p.bindings ++ p.deps) p.commands
    (each_append A (p.digests ++ p.bindings) p.deps
    (each_append A p.digests p.bindings (quiet_at is p.digests (names_quiet digest_names (refl, tt) p.digests n.digests)) (quiet_at is p.bindings (names_quiet binding_names (refl, (refl, (refl, (refl, (refl, tt))))) p.bindings n.bindings)))
    (each_read dep_elem (IsMetDep is) A (dep_at is) item.deps p.deps (each_both IsProperDep (IsMet is) item.deps h.0.deps h.1.deps) p.deps_same))
    (each_read command_elem (IsMetProper is) A (command_at is) item.commands p.commands (each_both IsProperCommand (IsMetCommand is) item.commands h.0.commands h.1.commands) p.commands_same)))
