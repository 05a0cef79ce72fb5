-- What a document says is as it may be written, and so is read again where it was written.
use Rattle.std.proofs.Common.{◌≡◌, ℕ, Bool, true, false, cond, ◌&&◌, List, [], ◌∷◌, ◌++◌, map, Option, Some, None, codes, refl, sym, ap, subst, ◌∙◌}
use Rattle.std.specs.Prelude.{not, filter, option_and_then, unwrap_or, if◌then◌else◌}
use Rattle.std.proofs.lemmas.Bool.{or_left, or_right, both_ways}
use Rattle.zi_elements.specs.Forest.{Elem, elements, attribute, value, element_view}
use Rattle.zi_elements.specs.Namespace.{injector}
use Rattle.zi_docout.specs.Amiss.{first_amiss}
use Rattle.zi_address.specs.Texts.{same}
use Rattle.zi_reading.specs.Ways.{AsWritten}
use Rattle.zi_reading.specs.Words.{is_among, optional, first, repeated}
use Rattle.zi_parts.specs.Values.{importance_of, dep_of, runner_of, command_of}
use Rattle.zi_reading.specs.Reading.{is, is_ours, is_closed, is_left_out, is_part, parts, meaning, stands, those}
use Rattle.zi_feed.specs.Means.{counts_as}
use Rattle.zi_faults.specs.declared.fault.Fault.{Fault}
use Rattle.zi_parts.specs.declared.types.DepKind.{DepKind}
use Rattle.zi_parts.specs.declared.types.DepKind.TheVariants.{Essential, Recommended, Restricts}
use Rattle.zi_reading.proofs.TextLaws.{same_text}
use Rattle.zi_sels.specs.declared.types.Selections.{Selections}
use Rattle.zi_sels.specs.declared.fault.SelsFault.{SelsFault}
use Rattle.zi_sels.specs.declared.fault.SelsFault.TheVariants as fault
use Rattle.zi_sels.specs.Written.{tree, document}
use Rattle.zi_sels.specs.Read.{counting, selections_in, selection_of, selections_of}
use Rattle.zi_sels.specs.Notes.{faults_of}
use Rattle.zi_sels.specs.Refused.{is_selections, selection_fault, root_faults, item_faults, first_fault, interfaces_in, first_twice, asks, asks_within, asking_at, asking_in, asking, unmet, or_else, closed_fault, tree_fault}
use Rattle.zi_sels.specs.Reading.{Says}
use Rattle.zi_sels_laws.proofs.LikeLaws.{Each, each_both}
use Rattle.zi_sels_laws.proofs.FieldLaws.{app}
use Rattle.zi_sels_laws.proofs.CommandLaws.{runner_names}
use Rattle.zi_sels_laws.proofs.AskedLaws.{IsMet, IsMetRunner, IsMetCommand, IsMetItem, IsMetWhole, IsIn, not_command}
use Rattle.zi_sels_laws.proofs.RootLaws.{IsProper, IsWritten, written_says}
use Rattle.zi_sels_laws.proofs.FreeLaws.{empty_option, empty_first, each_filter, each_weak, each_map, each_first, each_of_flat, sub_filter, IsRight, IsChild, right_parts}
use Rattle.zi_sels_laws.proofs.SoundLaws.{only_name, is_of_name, asked_names, dep_child, not_restricts}
use Rattle.zi_sels_laws.proofs.SaidLaws.{IsCounted, IsSound, selection_sound, item_proper}
use Rattle.zi_feed.specs.IdLaws.{least_none, both_empty}
use Rattle.zi_sels.proofs.TreeLaws.{same_interfaces}

-- What is asked for is among those that are selected for.

each_in : (is : List (List ℕ)) (es : List Elem) → unmet is es ≡ [] → Each (IsIn is) es
each_in is [] h = tt
each_in is (e ∷ es) h = either (is_among is (value (codes "interface") e)) refl h (each_in is es)
  where
    either : (b : Bool) → is_among is (value (codes "interface") e) ≡ b → cond (not b) (value (codes "interface") e ∷ unmet is es) (unmet is es) ≡ [] → (unmet is es ≡ [] → Each (IsIn is) es) → Each (IsIn is) (e ∷ es)
    either true k l more = (k, more l)
    either false k l more = absurd (cc l)

of_filter : {A : Type 0} (P : A → Type 0) (test : A → Bool) (xs : List A) → Each P (filter test xs) → Each (λ x. test x ≡ true → P x) xs
of_filter P test [] h = tt
of_filter P test (x ∷ xs) h = either (test x) refl h (of_filter P test xs)
  where
    either : (b : Bool) → test x ≡ b → Each P (cond b (x ∷ filter test xs) (filter test xs)) → (Each P (filter test xs) → Each (λ y. test y ≡ true → P y) xs) → Each (λ y. test y ≡ true → P y) (x ∷ xs)
    either true k l more = ((λ e. l.0), more l.1)
    either false k l more = ((λ e. absurd (both_ways (test x) k e)), more l)

-- Dependencies.

plain_address : (o : Option (List ℕ)) → unwrap_or (option_and_then (meaning AsWritten) o) [] ≡ unwrap_or o []
plain_address None = refl
plain_address (Some t) = refl

recommends : importance_of (codes "recommended") ≡ Some Recommended
unfolding importance_of same injector
recommends = refl

dep_kind : (c : Elem) → c.name ≡ codes "requires" → (dep_of AsWritten c).kind ≡ unwrap_or (option_and_then importance_of (attribute (codes "importance") c)) Essential
unfolding dep_of
dep_kind c name =
    ap (λ b. if b then Restricts else unwrap_or (option_and_then importance_of (attribute (codes "importance") c)) Essential) (ends (is_ours c) (same c.name (codes "restricts")) (ap (λ n. same n (codes "restricts")) name ∙ not_restricts))
  where
    ends : (a b : Bool) → b ≡ false → (a && b) ≡ false
    ends true b k = k
    ends false b k = refl

dep_address : (c : Elem) → (dep_of AsWritten c).interface ≡ value (codes "interface") c
unfolding dep_of
dep_address c = plain_address (attribute (codes "interface") c)

-- an essential one isn't recommended
not_recommended : (o : Option (List ℕ)) → unwrap_or (option_and_then importance_of o) Essential ≡ Essential → same (unwrap_or o []) (codes "recommended") ≡ false
not_recommended o h = either (same (unwrap_or o []) (codes "recommended")) refl
  where
    is_essential : DepKind → Bool
    is_essential Essential = true
    is_essential Recommended = false
    is_essential Restricts = false

    by : (o : Option (List ℕ)) → unwrap_or o [] ≡ codes "recommended" → unwrap_or (option_and_then importance_of o) Essential ≡ Essential → ⊥
    by None e k = cc e
    by (Some t) e k =
        let r : Recommended ≡ Essential = sym (ap (λ v. unwrap_or v Essential) (ap importance_of e ∙ recommends)) ∙ k in cc r

    either : (b : Bool) → same (unwrap_or o []) (codes "recommended") ≡ b → b ≡ false
    either true k = absurd (by o (same_text (unwrap_or o []) (codes "recommended") k) h)
    either false k = refl

-- one that counts and is essential asks
dep_asks : (c : Elem) → counts_as (codes "requires") c ≡ true → c.name ≡ codes "requires" → (dep_of AsWritten c).kind ≡ Essential → asks c ≡ true
dep_asks c h name k = app (ap {B = Bool → Bool} (λ x y. x && not y) h) (not_recommended (attribute (codes "importance") c) (sym (dep_kind c name) ∙ k))

not_counted : (name other : List ℕ) (c : Elem) → c.name ≡ name → same name other ≡ false → counts_as other c ≡ false
not_counted name other c h k = ends (is_ours c) (same c.name other) (not (is_left_out c)) (ap (λ n. same n other) h ∙ k)
  where
    ends : (a b d : Bool) → b ≡ false → ((a && b) && d) ≡ false
    ends true b d p = ap (λ v. v && d) p
    ends false b d p = refl

dep_met : (is : List (List ℕ)) (c : Elem) → counts_as (codes "requires") c ≡ true → c.name ≡ codes "requires" → Each (IsIn is) (asking_at c) → IsMet is (dep_of AsWritten c)
dep_met is c h name k essential =
    let asked : asking_at c ≡ c ∷ [] = app (ap {B = Bool → List Elem} (λ x y. if x then filter asks_within (elements c.inside) else if y then c ∷ [] else []) (not_counted (codes "requires") (codes "command") c name not_command))
    (dep_asks c h name essential) in
    subst (λ i. is_among is i ≡ true) (sym (dep_address c)) (subst (Each (IsIn is)) asked k).0

-- Commands.

-- a child counts under its name
child_counts : (parent name : List ℕ) (c : Elem) → IsChild AsWritten parent c → c.name ≡ name → counts_as name c ≡ true
unfolding stands
child_counts parent name c h k = by (is_ours c) _ (is_left_out c) _ _ refl refl h.part
  where
    by : (a b l u r : Bool) → is_ours c ≡ a → is_left_out c ≡ l → ((a && b && not l && u) && r) ≡ true → counts_as name c ≡ true
    by true true false u r p q e = app (ap {B = Bool → Bool} (λ x y. x && not y) (is_of_name name c p k)) q
    by true true true u r p q e = absurd (cc e)
    by true false l u r p q e = absurd (cc e)
    by false b l u r p q e = absurd (cc e)

child_dep_met : (is : List (List ℕ)) (parent : List ℕ) (d : Elem) → IsChild AsWritten parent d → is_among asked_names d.name ≡ true → (asks_within d ≡ true → IsIn is d) → IsMet is (dep_of AsWritten d)
child_dep_met is parent d h k asked essential =
    let name = dep_child parent d h k in
    let counts = child_counts parent (codes "requires") d h name in
    subst (λ i. is_among is i ≡ true) (sym (dep_address d)) (asked (or_left (asks d) (counts_as (codes "runner") d) (dep_asks d counts name essential)))

runner_address : (c : Elem) → (runner_of AsWritten c).dep.interface ≡ value (codes "interface") c
unfolding runner_of
runner_address c = plain_address (attribute (codes "interface") c)

child_runner_met : (is : List (List ℕ)) (parent : List ℕ) (d : Elem) → IsChild AsWritten parent d → is_among runner_names d.name ≡ true → (asks_within d ≡ true → IsIn is d) → IsMetRunner is (runner_of AsWritten d)
child_runner_met is parent d h k asked =
    let counts = child_counts parent (codes "runner") d h (only_name d.name (codes "runner") k) in
    subst (λ i. is_among is i ≡ true) (sym (runner_address d)) (asked (or_right (asks d) (counts_as (codes "runner") d) counts))

abbrev Asked : List (List ℕ) → Elem → Type 0
Asked is d = asks_within d ≡ true → IsIn is d

asked_parts : (is : List (List ℕ)) (c : Elem) → Each (Asked is) (elements c.inside) → Each (Asked is) (parts AsWritten c)
unfolding parts
asked_parts is c h = either (is_closed c)
  where
    either : (b : Bool) → Each (Asked is) (if b then [] else filter (is_part AsWritten c.name) (elements c.inside))
    either true = tt
    either false = sub_filter (Asked is) (is_part AsWritten c.name) (elements c.inside) h

command_met : (is : List (List ℕ)) (c : Elem) → IsRight AsWritten c → c.name ≡ codes "command" → counts_as (codes "command") c ≡ true → Each (IsIn is) (asking_at c) → IsMetCommand is (command_of AsWritten c)
unfolding command_of
command_met is c right name counts h =
    let within = subst (Each (IsIn is)) (ap (λ b. if b then filter asks_within (elements c.inside) else if asks c then c ∷ [] else []) counts) h in
    let asked = asked_parts is c (of_filter (IsIn is) asks_within (elements c.inside) within) in
    let all = each_both (IsChild AsWritten c.name) (Asked is) (parts AsWritten c) (right_parts AsWritten c right) asked in record {
      deps = each_map (IsMet is) (dep_of AsWritten) (those asked_names (parts AsWritten c))
          (each_weak (λ d. (IsChild AsWritten c.name d × Asked is d) × (is_among asked_names d.name ≡ true)) (λ d. IsMet is (dep_of AsWritten d)) (λ d k. child_dep_met is c.name d k.0.0 k.1 k.0.1) (those asked_names (parts AsWritten c))
          (each_filter (λ d. IsChild AsWritten c.name d × Asked is d) (λ d. is_among asked_names d.name) (parts AsWritten c) all));
      runner = each_first (IsMetRunner is) (runner_of AsWritten) (those runner_names (parts AsWritten c))
          (each_weak (λ d. (IsChild AsWritten c.name d × Asked is d) × (is_among runner_names d.name ≡ true)) (λ d. IsMetRunner is (runner_of AsWritten d)) (λ d k. child_runner_met is c.name d k.0.0 k.1 k.0.1) (those runner_names (parts AsWritten c))
          (each_filter (λ d. IsChild AsWritten c.name d × Asked is d) (λ d. is_among runner_names d.name) (parts AsWritten c) all));
    }

-- Selections.

counts_all : (name : List ℕ) (es : List Elem) → Each (λ c. counts_as name c ≡ true) (filter (counts_as name) es)
counts_all name es = each_weak (λ c. Unit {0} × (counts_as name c ≡ true)) (λ c. counts_as name c ≡ true) (λ c h. h.1) (filter (counts_as name) es) (each_filter (λ c. Unit {0}) (counts_as name) es (anything es))
  where
    anything : (xs : List Elem) → Each (λ c. Unit {0}) xs
    anything [] = tt
    anything (x ∷ xs) = (tt, anything xs)

abbrev MeetsAt : List (List ℕ) → Elem → Type 0
MeetsAt is c = Each (IsIn is) (asking_at c)

item_met : (is : List (List ℕ)) (e : Elem) → IsSound e → Each (IsIn is) (asking_in e) → IsMetItem is (selection_of e)
unfolding selection_of
item_met is e h k =
    let at = each_of_flat (IsIn is) asking_at (elements e.inside) k in
    let requires = counting (codes "requires") e in
    let commands = counting (codes "command") e in record {
      deps = each_map (IsMet is) (dep_of AsWritten) requires
          (each_weak (λ c. (IsCounted (codes "requires") c × (counts_as (codes "requires") c ≡ true)) × MeetsAt is c) (λ c. IsMet is (dep_of AsWritten c)) (λ c m. dep_met is c m.0.1 m.0.0.named m.1) requires
          (each_both (λ c. IsCounted (codes "requires") c × (counts_as (codes "requires") c ≡ true)) (MeetsAt is) requires
          (each_both (IsCounted (codes "requires")) (λ c. counts_as (codes "requires") c ≡ true) requires h.deps (counts_all (codes "requires") (elements e.inside)))
          (sub_filter (MeetsAt is) (counts_as (codes "requires")) (elements e.inside) at)));
      commands = each_map (IsMetCommand is) (command_of AsWritten) commands
          (each_weak (λ c. (IsCounted (codes "command") c × (counts_as (codes "command") c ≡ true)) × MeetsAt is c) (λ c. IsMetCommand is (command_of AsWritten c)) (λ c m. command_met is c m.0.0.right m.0.0.named m.0.1 m.1) commands
          (each_both (λ c. IsCounted (codes "command") c × (counts_as (codes "command") c ≡ true)) (MeetsAt is) commands
          (each_both (IsCounted (codes "command")) (λ c. counts_as (codes "command") c ≡ true) commands h.commands (counts_all (codes "command") (elements e.inside)))
          (sub_filter (MeetsAt is) (counts_as (codes "command")) (elements e.inside) at)));
    }

each_sound : (rs : List Elem) → faults_of selection_fault rs ≡ [] → Each IsSound rs
each_sound [] h = tt
each_sound (r ∷ rs) h =
    let b = both_empty (optional (selection_fault r)) (faults_of selection_fault rs) h in
    (selection_sound r (empty_option (selection_fault r) b.0), each_sound rs b.1)

-- The whole.

-- what is known of a root without a fault
pub record IsWhole (root : Elem) : Type 0 where
  pub items : faults_of selection_fault (selections_in root) ≡ []
  pub twice : repeated same (interfaces_in root) ≡ []
  pub rooted : is_among (interfaces_in root) (value (codes "interface") root) ≡ true
  pub closed : unmet (interfaces_in root) (asking root) ≡ []

no_fault : {X : Type 0} (f : X → SelsFault) (o : Option X) (rest : Option SelsFault) → or_else f o rest ≡ None → (o ≡ None) × (rest ≡ None)
no_fault f None rest h = (refl, h)
no_fault f (Some x) rest h = absurd (cc h)

root_whole : (root : Elem) → tree_fault root ≡ None → IsWhole root
unfolding tree_fault first_fault
root_whole root h =
    let table = no_fault (λ (g : Fault). fault.Feed g.kind g.place) (first_fault root) (closed_fault (interfaces_in root) root) (is_one (is_selections root) _ h) in
    let faults = both_empty (root_faults root) (item_faults root) (least_none (root_faults root ++ item_faults root) table.0) in
    let twice = no_fault fault.Twice (first_twice (interfaces_in root)) _ table.1 in
    let rooted = is_rooted (is_among (interfaces_in root) (value (codes "interface") root)) _ twice.1 in
    let closed = no_fault fault.Unclosed (first (unmet (interfaces_in root) (asking root))) None rooted.1 in record {
      items = faults.1;
      twice = empty_first (repeated same (interfaces_in root)) twice.0;
      rooted = rooted.0;
      closed = empty_first (unmet (interfaces_in root) (asking root)) closed.0;
    }
  where
    is_one : (b : Bool) (o : Option SelsFault) → (if not b then Some fault.NotSelections else o) ≡ None → o ≡ None
    is_one true o k = k
    is_one false o k = absurd (cc k)

    is_rooted : (b : Bool) (o : Option SelsFault) → (if not b then Some fault.NoRoot else o) ≡ None → (b ≡ true) × (o ≡ None)
    is_rooted true o k = (refl, k)
    is_rooted false o k = absurd (cc k)

-- what a tree without a fault says is proper
pub said_proper : (root : Elem) → tree_fault root ≡ None → IsProper (selections_of root)
unfolding selections_of
said_proper root h =
    let w = root_whole root h in
    let rs = selections_in root in
    let is = interfaces_in root in
    let same_is = same_interfaces rs in
    let sound = each_sound rs w.items in
    let met = each_of_flat (IsIn is) asking_in rs (each_in is (asking root) w.closed) in record {
      items = subst (λ v. Each (IsMetWhole v) (map selection_of rs)) (sym same_is)
          (each_map (IsMetWhole is) selection_of rs
          (each_weak (λ r. IsSound r × Each (IsIn is) (asking_in r)) (λ r. IsMetWhole is (selection_of r)) (λ r k. (item_proper r k.0, item_met is r k.0 k.1)) rs
          (each_both IsSound (λ r. Each (IsIn is) (asking_in r)) rs sound met)));
      apart = ap (repeated same) same_is ∙ w.twice;
      rooted = ap (λ v. is_among v (value (codes "interface") root)) same_is ∙ w.rooted;
    }

-- what bytes say is said by the canonical document of it
pub read_again : IsWritten → (bytes : List ℕ) (s : Selections) → Says bytes s → first_amiss (tree s) ≡ None → Says (document s) s
read_again written bytes s h right = written_says written s (subst IsProper (sym h.means) (said_proper (element_view h.tree) h.right)) right
