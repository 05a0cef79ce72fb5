-- A selection as it is written: what is read of it, and that nothing is wrong with it.
use Rattle.std.proofs.Common.{◌≡◌, ℕ, Bool, true, false, cond, ◌&&◌, ◌||◌, List, [], ◌∷◌, ◌++◌, map, Option, Some, None, codes, refl, sym, ap, subst, ◌∙◌, append-nil, append_assoc}
use Rattle.std.specs.Prelude.{not, filter, is_some, option_map, unwrap_or, if◌then◌else◌}
use Rattle.std.specs.List.{flat_map, list_any}
use Rattle.zi_elements.specs.declared.element.Attr.{Attr}
use Rattle.zi_elements.specs.Forest.{Forest, Elem, elements, attribute, value}
use Rattle.zi_elements.specs.Namespace.{injector}
use Rattle.zi_docout.specs.Elements.{attr}
use Rattle.zi_docout.specs.Same.{IsSame}
use Rattle.zi_digest.specs.declared.DigestName.{DigestName}
use Rattle.zi_address.specs.Texts.{same, is_none}
use Rattle.zi_reading.specs.Ways.{AsWritten}
use Rattle.zi_reading.specs.Words.{is_among, listed, optional, is_wrong, is_amiss, repeated, repeated_after}
use Rattle.zi_reading.specs.Forms.{is_version}
use Rattle.zi_address.specs.Address.{is_local}
use Rattle.zi_parts.specs.Digests.{digest_of, said_digests}
use Rattle.zi_reading.specs.Reading.{is_unclear, binding_names}
use Rattle.zi_parts.specs.Values.{binding_of, dep_of, command_of}
use Rattle.zi_feed.specs.Means.{counts_as, counts_as_binding}
use Rattle.zi_faults.specs.Faults.{share, fault_at, least}
use Rattle.zi_feed.specs.Feeds.{part_fault}
use Rattle.zi_faults.specs.declared.fault.Fault.{Fault}
use Rattle.zi_faults.specs.declared.fault.FeedKind.{FeedKind}
use Rattle.zi_faults.specs.declared.fault.FeedKind.TheVariants.{NoId, BadVersion, BadRange, BadPart, NoInterface, BadAddress}
use Rattle.zi_parts.specs.declared.types.Binding.{Binding}
use Rattle.zi_parts.specs.declared.types.Dep.{Dep}
use Rattle.zi_parts.specs.declared.types.Command.{Command}
use Rattle.zi_sels.specs.declared.types.Selection.{Selection}
use Rattle.zi_sels.specs.Written.{attr_of, binding_elem, dep_elem, command_elem, digests_elems, selection_attrs, selection_elem}
use Rattle.zi_sels.specs.Read.{counting, bindings_in, is_package, digests_in, said_in, in_order_of_use, selection_of}
use Rattle.zi_sels.specs.Notes.{faults_of}
use Rattle.zi_sels.specs.Refused.{own_kind, parts_in, second_commands, selection_fault}
use Rattle.zi_sels_laws.proofs.LikeLaws.{AreSame, same_inside, Each, each_append, each_read, values_back, parted, if_all, sifted, filter_joined}
use Rattle.zi_sels_laws.proofs.FieldLaws.{Field, field, fields, looked, unless, unless_field, unless_back, app}
use Rattle.zi_sels_laws.proofs.PlainLaws.{here_is, made_is, condition, IsPlain, IsOf, of_test, free_clear, plain_counts, plain_binding}
use Rattle.zi_sels_laws.proofs.CleanLaws.{IsClean, clean_faults}
use Rattle.zi_sels_laws.proofs.BindingLaws.{IsProperBinding, IsBinding, none_same, bindings_are, bindings_back, bindings_clean}
use Rattle.zi_sels_laws.proofs.DepLaws.{IsProperDep}
use Rattle.zi_sels_laws.proofs.CommandLaws.{IsProperCommand, dep_names, deps_are, deps_back, deps_clean, command_is, command_back, command_clean, command_name}
use Rattle.zi_sels_laws.proofs.DigestsLaws.{AreProper, IsDigestElem, digests_read}

-- a package has a name
abbrev pub IsPackage : Option (List ℕ) → Type 0
IsPackage None = Unit {0}
IsPackage (Some name) = is_none name ≡ false

-- a selection of a package has no folder; that of any other is a path from the top folder, where it has one
abbrev pub HasPath : Option (List ℕ) → Option (List ℕ) → Type 0
HasPath None local = is_wrong is_local local ≡ false
HasPath (Some name) local = local ≡ None

-- nor has it digests
abbrev pub HasDigests : Option (List ℕ) → List ℕ → List DigestName → Type 0
HasDigests None id digests = AreProper id digests
HasDigests (Some name) id digests = digests ≡ []

-- a selection as it may be read
pub record IsProperItem (item : Selection) : Type 0 where
  pub id : is_none item.id ≡ false
  pub version : is_version item.version ≡ true
  pub named : IsPackage item.«package»
  pub local : HasPath item.«package» item.local
  pub digests : HasDigests item.«package» item.id item.digests
  pub deps : Each IsProperDep item.deps
  pub commands : Each IsProperCommand item.commands
  pub apart : repeated same (map (λ (c : Command). c.name) item.commands) ≡ []
  pub bindings : Each IsProperBinding item.bindings

-- Names of commands.

-- elements whose attributes `name` are these
abbrev pub AreNamed : List (List ℕ) → List Elem → Type 0
AreNamed [] [] = Unit {0}
AreNamed [] (r ∷ rs) = ⊥
AreNamed (n ∷ ns) [] = ⊥
AreNamed (n ∷ ns) (r ∷ rs) = (attribute (codes "name") r ≡ Some n) × AreNamed ns rs

pub sharing : (n m : List ℕ) (r q : Elem) → attribute (codes "name") r ≡ Some n → attribute (codes "name") q ≡ Some m → share (codes "name") r q ≡ same n m
sharing n m r q h k = app (ap {B = Option (List ℕ) → Bool} (λ x y. is_some x && is_some y && same (unwrap_or x []) (unwrap_or y [])) h) k

pub any_shares : (n : List ℕ) (r : Elem) → attribute (codes "name") r ≡ Some n → (ns : List (List ℕ)) (rs : List Elem) → AreNamed ns rs → list_any (share (codes "name") r) rs ≡ list_any (same n) ns
any_shares n r h [] [] k = refl
any_shares n r h [] (q ∷ rs) k = absurd k
any_shares n r h (m ∷ ns) [] k = absurd k
any_shares n r h (m ∷ ns) (q ∷ rs) k = app (ap {B = Bool → Bool} (λ x y. x || y) (sharing n m r q h k.0)) (any_shares n r h ns rs k.1)

none_shares : (before : List (List ℕ)) (seen : List Elem) (ns : List (List ℕ)) (rs : List Elem) → AreNamed before seen → AreNamed ns rs → repeated_after same before ns ≡ []
    → repeated_after (share (codes "name")) seen rs ≡ []
none_shares before seen [] [] h k none = refl
none_shares before seen [] (r ∷ rs) h k none = absurd k
none_shares before seen (n ∷ ns) [] h k none = absurd k
none_shares before seen (n ∷ ns) (r ∷ rs) h k none =
    ap (λ b. if b then r ∷ repeated_after (share (codes "name")) (r ∷ seen) rs else repeated_after (share (codes "name")) (r ∷ seen) rs) (any_shares n r k.0 before seen h)
    ∙ either (list_any (same n) before) none (none_shares (n ∷ before) (r ∷ seen) ns rs (k.0, h) k.1)
  where
    either : (b : Bool) → (if b then n ∷ repeated_after same (n ∷ before) ns else repeated_after same (n ∷ before) ns) ≡ []
        → (repeated_after same (n ∷ before) ns ≡ [] → repeated_after (share (codes "name")) (r ∷ seen) rs ≡ [])
        → (if b then r ∷ repeated_after (share (codes "name")) (r ∷ seen) rs else repeated_after (share (codes "name")) (r ∷ seen) rs) ≡ []
    either true e more = absurd (cc e)
    either false e more = more e

commands_named : (cs : List Command) (rs : List Elem) → Each IsProperCommand cs → AreSame (map command_elem cs) rs → AreNamed (map (λ (c : Command). c.name) cs) rs
commands_named [] [] h s = tt
commands_named [] (r ∷ rs) h s = absurd s
commands_named (c ∷ cs) [] h s = absurd s
commands_named (c ∷ cs) (r ∷ rs) h s = (command_name c r h.0 s.0, commands_named cs rs h.1 s.1)

-- What stands in a selection.

pub record InsideOf (item : Selection) (rs : List Elem) : Type 0 where
  pub digests : List Elem
  pub bindings : List Elem
  pub deps : List Elem
  pub commands : List Elem
  pub whole : rs ≡ digests ++ bindings ++ deps ++ commands
  pub digests_same : AreSame (digests_elems item.digests) digests
  pub bindings_same : AreSame (map binding_elem item.bindings) bindings
  pub deps_same : AreSame (map dep_elem item.deps) deps
  pub commands_same : AreSame (map command_elem item.commands) commands

inside_of : (item : Selection) (rs : List Elem) → AreSame (digests_elems item.digests ++ map binding_elem item.bindings ++ map dep_elem item.deps ++ map command_elem item.commands) rs → InsideOf item rs
inside_of item rs s =
    let g = digests_elems item.digests in
    let b = map binding_elem item.bindings in
    let d = map dep_elem item.deps in
    let p3 = parted (g ++ b ++ d) (map command_elem item.commands) rs s in
    let p2 = parted (g ++ b) d p3.front p3.front_same in
    let p1 = parted g b p2.front p2.front_same in record {
      digests = p1.front;
      bindings = p1.back;
      deps = p2.back;
      commands = p3.back;
      whole = p3.whole ∙ ap (λ v. v ++ p3.back) (p2.whole ∙ ap (λ v. v ++ p2.back) p1.whole);
      digests_same = p1.front_same;
      bindings_same = p1.back_same;
      deps_same = p2.back_same;
      commands_same = p3.back_same;
    }

abbrev pub digest_names : List (List ℕ)
digest_names = listed (codes "manifest-digest")

abbrev pub command_names : List (List ℕ)
command_names = listed (codes "command")

pub record NamedInside (gs bs ds cs : List Elem) : Type 0 where
  pub digests : Each (IsOf digest_names) gs
  pub bindings : Each IsBinding bs
  pub deps : Each (IsOf dep_names) ds
  pub commands : Each (IsOf command_names) cs

digest_known : is_among digest_names (codes "manifest-digest") ≡ true
unfolding is_among same injector
digest_known = refl

command_known : is_among command_names (codes "command") ≡ true
unfolding is_among same injector
command_known = refl

digests_are : (rs : List Elem) → Each IsDigestElem rs → Each (IsOf digest_names) rs
digests_are [] h = tt
digests_are (r ∷ rs) h = (record { name = codes "manifest-digest"; plain = h.0.0; known = digest_known }, digests_are rs h.1)

digests_clean : (rs : List Elem) → Each IsDigestElem rs → Each IsClean rs
digests_clean [] h = tt
digests_clean (r ∷ rs) h = (h.0.1, digests_clean rs h.1)

command_of_name : (c : Command) (r : Elem) → IsProperCommand c → IsSame (command_elem c) r → IsOf command_names r
command_of_name c r h s = record { name = codes "command"; plain = command_is c r h s; known = command_known }

digest_elements : (o : Option (List ℕ)) (id : List ℕ) (ds : List DigestName) (rs : List Elem) → HasDigests o id ds → AreSame (digests_elems ds) rs → Each IsDigestElem rs
unfolding digests_elems
digest_elements None id ds rs h s = (digests_read id ds rs h s).0
digest_elements (Some name) id ds rs h s = subst (Each IsDigestElem) (sym (none_same rs (subst (λ v. AreSame (digests_elems v) rs) h s))) tt

pub named_inside : (item : Selection) (rs : List Elem) → IsProperItem item → (p : InsideOf item rs) → NamedInside p.digests p.bindings p.deps p.commands
named_inside item rs h p = record {
  digests = digests_are p.digests (digest_elements item.«package» item.id item.digests p.digests h.digests p.digests_same);
  bindings = bindings_are item.bindings p.bindings h.bindings p.bindings_same;
  deps = deps_are item.deps p.deps h.deps p.deps_same;
  commands = each_read command_elem IsProperCommand (IsOf command_names) command_of_name item.commands p.commands h.commands p.commands_same;
}

-- those that pass a test among two lists
two_filtered : (test : Elem → Bool) (xs ys us vs : List Elem) → filter test xs ≡ us → filter test ys ≡ vs → filter test (xs ++ ys) ≡ us ++ vs
two_filtered test xs ys us vs h k = filter_joined test xs ys ∙ app (ap {B = List Elem → List Elem} (λ v w. v ++ w) h) k

four_filtered : (test : Elem → Bool) (gs bs ds cs g b d c : List Elem) → filter test gs ≡ g → filter test bs ≡ b → filter test ds ≡ d → filter test cs ≡ c
    → filter test (gs ++ bs ++ ds ++ cs) ≡ g ++ b ++ d ++ c
four_filtered test gs bs ds cs g b d c hg hb hd hc =
    two_filtered test (gs ++ bs ++ ds) cs (g ++ b ++ d) c (two_filtered test (gs ++ bs) ds (g ++ b) d (two_filtered test gs bs g b hg hb) hd) hc

-- those that count as this among elements of these names
of_counting : (names : List (List ℕ)) (other : List ℕ) (b : Bool) → Each (λ n. same n other ≡ b) names → (rs : List Elem) → Each (IsOf names) rs → filter (counts_as other) rs ≡ if_all b rs
of_counting names other b all rs h = sifted (counts_as other) b rs (of_test names (λ n. same n other) b all (counts_as other) (λ n r p. plain_counts n other r p) rs h)

of_binding : (names : List (List ℕ)) (b : Bool) → Each (λ n. is_among binding_names n ≡ b) names → (rs : List Elem) → Each (IsOf names) rs → filter counts_as_binding rs ≡ if_all b rs
of_binding names b all rs h = sifted counts_as_binding b rs (of_test names (is_among binding_names) b all counts_as_binding plain_binding rs h)

count_digests : (gs bs ds cs : List Elem) → NamedInside gs bs ds cs → filter (counts_as (codes "manifest-digest")) (gs ++ bs ++ ds ++ cs) ≡ gs
unfolding same injector
count_digests gs bs ds cs n =
    let other = codes "manifest-digest" in
    four_filtered (counts_as other) gs bs ds cs gs [] [] [] (of_counting digest_names other true (refl, tt) gs n.digests) (of_counting binding_names other false (refl, (refl, (refl, (refl, (refl, tt))))) bs n.bindings)
    (of_counting dep_names other false (refl, tt) ds n.deps) (of_counting command_names other false (refl, tt) cs n.commands)
    ∙ (append-nil (gs ++ [] ++ []) ∙ (append-nil (gs ++ []) ∙ append-nil gs))

count_bindings : (gs bs ds cs : List Elem) → NamedInside gs bs ds cs → filter counts_as_binding (gs ++ bs ++ ds ++ cs) ≡ bs
unfolding is_among same injector
count_bindings gs bs ds cs n =
    four_filtered counts_as_binding gs bs ds cs [] bs [] [] (of_binding digest_names false (refl, tt) gs n.digests) (of_binding binding_names true (refl, (refl, (refl, (refl, (refl, tt))))) bs n.bindings)
    (of_binding dep_names false (refl, tt) ds n.deps) (of_binding command_names false (refl, tt) cs n.commands)
    ∙ (append-nil (bs ++ []) ∙ append-nil bs)

count_deps : (gs bs ds cs : List Elem) → NamedInside gs bs ds cs → filter (counts_as (codes "requires")) (gs ++ bs ++ ds ++ cs) ≡ ds
unfolding same injector
count_deps gs bs ds cs n =
    let other = codes "requires" in
    four_filtered (counts_as other) gs bs ds cs [] [] ds [] (of_counting digest_names other false (refl, tt) gs n.digests) (of_counting binding_names other false (refl, (refl, (refl, (refl, (refl, tt))))) bs n.bindings)
    (of_counting dep_names other true (refl, tt) ds n.deps) (of_counting command_names other false (refl, tt) cs n.commands)
    ∙ append-nil ds

count_commands : (gs bs ds cs : List Elem) → NamedInside gs bs ds cs → filter (counts_as (codes "command")) (gs ++ bs ++ ds ++ cs) ≡ cs
unfolding same injector
count_commands gs bs ds cs n =
    let other = codes "command" in
    four_filtered (counts_as other) gs bs ds cs [] [] [] cs (of_counting digest_names other false (refl, tt) gs n.digests) (of_counting binding_names other false (refl, (refl, (refl, (refl, (refl, tt))))) bs n.bindings)
    (of_counting dep_names other false (refl, tt) ds n.deps) (of_counting command_names other true (refl, tt) cs n.commands)

-- The selection.

abbrev item_fields : Selection → List Field
item_fields item =
    field (codes "interface") (Some item.interface) ∷ field (codes "id") (Some item.id) ∷ field (codes "version") (Some item.version)
    ∷ field (codes "from-feed") (unless item.interface item.from_feed) ∷ field (codes "package") item.«package» ∷ field (codes "local-path") item.local ∷ field (codes "arch") item.arch
    ∷ field (codes "released") item.released ∷ field (codes "stability") item.stability ∷ []

six_joined : (a b c d e f : List Attr) → a ++ b ++ c ++ d ++ e ++ f ≡ a ++ (b ++ (c ++ (d ++ (e ++ (f ++ [])))))
six_joined a b c d e f =
    append_assoc (a ++ b ++ c ++ d) e f
    ∙ (append_assoc (a ++ b ++ c) d (e ++ f)
    ∙ (append_assoc (a ++ b) c (d ++ (e ++ f)) ∙ (append_assoc a b (c ++ (d ++ (e ++ f))) ∙ ap (λ v. a ++ (b ++ (c ++ (d ++ (e ++ v))))) (sym (append-nil f)))))

item_as_fields : (item : Selection) → selection_attrs item ≡ fields (item_fields item)
unfolding selection_attrs
item_as_fields item =
    let p = attr_of (codes "package") item.«package» in
    let l = attr_of (codes "local-path") item.local in
    let a = attr_of (codes "arch") item.arch in
    let r = attr_of (codes "released") item.released in
    let s = attr_of (codes "stability") item.stability in
    let front : List Attr → List Attr = λ v. attr (codes "interface") item.interface ∷ attr (codes "id") item.id ∷ attr (codes "version") item.version ∷ v in
    ap (λ v. front (v ++ p ++ l ++ a ++ r ++ s)) (unless_field item.interface (codes "from-feed") item.from_feed)
    ∙ ap front (six_joined (attr_of (codes "from-feed") (unless item.interface item.from_feed)) p l a r s)

abbrev item_here : Selection → Forest → ℕ → Elem
item_here item f p = here_is (codes "selection") (fields (item_fields item)) f p

item_same : (item : Selection) (r : Elem) → IsSame (selection_elem item) r → item_here item r.inside r.place ≡ r
unfolding selection_elem
item_same item r s = ap (λ v. here_is (codes "selection") v r.inside r.place) (sym (item_as_fields item)) ∙ made_is (codes "selection") (selection_attrs item) _ r s

pub item_inside : (item : Selection) (r : Elem) → IsSame (selection_elem item) r → InsideOf item (elements r.inside)
unfolding selection_elem
item_inside item r s =
    inside_of item (elements r.inside)
    (same_inside (codes "selection") (selection_attrs item) (digests_elems item.digests ++ map binding_elem item.bindings ++ map dep_elem item.deps ++ map command_elem item.commands) r s)

abbrev names_package : Option (List ℕ) → Bool
names_package o = not (is_none (unwrap_or o []))

abbrev package_by : Option (List ℕ) → Option (List ℕ)
package_by o = if names_package o then o else None

abbrev local_by : Option (List ℕ) → Option (List ℕ) → Option (List ℕ)
local_by o l = if names_package o then None else l

named_so : (o : Option (List ℕ)) → IsPackage o → names_package o ≡ is_some o
named_so None h = refl
named_so (Some name) h = ap not h

package_back : (o : Option (List ℕ)) → IsPackage o → package_by o ≡ o
package_back None h = refl
package_back (Some name) h = ap (λ b. if not b then Some name else None) h

local_back : (o l : Option (List ℕ)) → IsPackage o → HasPath o l → local_by o l ≡ l
local_back None l h k = refl
local_back (Some name) l h k = ap (λ b. if not b then None else l) h ∙ sym k

abbrev item_by : Option (List ℕ) → Option (List ℕ) → Option (List ℕ) → Option (List ℕ) → Option (List ℕ) → Option (List ℕ) → Option (List ℕ) → Option (List ℕ) → Option (List ℕ) → List DigestName
    → List Dep → List Command → List Binding → Selection
item_by i d v ff pk l a r s gs ds cs bs = record {
  interface = unwrap_or i [];
  id = unwrap_or d [];
  version = unwrap_or v [];
  from_feed = unwrap_or ff (unwrap_or i []);
  «package» = package_by pk;
  local = local_by pk l;
  arch = a;
  released = r;
  stability = s;
  digests = gs;
  deps = ds;
  commands = cs;
  bindings = bs;
}

item_means : (item : Selection) (f : Forest) (p : ℕ)
    → selection_of (item_here item f p) ≡ item_by (attribute (codes "interface") (item_here item f p)) (attribute (codes "id") (item_here item f p)) (attribute (codes "version") (item_here item f p))
    (attribute (codes "from-feed") (item_here item f p)) (attribute (codes "package") (item_here item f p)) (attribute (codes "local-path") (item_here item f p)) (attribute (codes "arch") (item_here item f p))
    (attribute (codes "released") (item_here item f p)) (attribute (codes "stability") (item_here item f p)) (in_order_of_use (said_in (item_here item f p)))
    (map (dep_of AsWritten) (counting (codes "requires") (item_here item f p))) (map (command_of AsWritten) (counting (codes "command") (item_here item f p))) (map binding_of (bindings_in (item_here item f p)))
unfolding selection_of
item_means item f p = refl

item_id : (item : Selection) (f : Forest) (p : ℕ) → attribute (codes "id") (item_here item f p) ≡ Some item.id
item_id item f p = looked (codes "id") (item_fields item) refl

commands_back : (cs : List Command) (rs : List Elem) → Each IsProperCommand cs → AreSame (map command_elem cs) rs → map (command_of AsWritten) rs ≡ cs
commands_back cs rs h s = values_back command_elem (command_of AsWritten) IsProperCommand command_back cs rs h s

item_packaged : (item : Selection) (f : Forest) (p : ℕ) → IsPackage item.«package» → is_package (item_here item f p) ≡ is_some item.«package»
item_packaged item f p h = ap names_package (looked (codes "package") (item_fields item) refl) ∙ named_so item.«package» h

-- the elements with digests that are read are those that stand in it
item_digests : (item : Selection) (f : Forest) (p : ℕ) → IsProperItem item → (s : InsideOf item (elements f)) → digests_in (item_here item f p) ≡ s.digests
unfolding digests_elems
item_digests item f p h s =
    let n = named_inside item (elements f) h s in
    ap (λ (b : Bool). if b then [] else counting (codes "manifest-digest") (item_here item f p)) (item_packaged item f p h.named)
    ∙ by item.«package» h.digests (ap (filter (counts_as (codes "manifest-digest"))) s.whole ∙ count_digests s.digests s.bindings s.deps s.commands n)
  where
    by : (o : Option (List ℕ)) → HasDigests o item.id item.digests → counting (codes "manifest-digest") (item_here item f p) ≡ s.digests
        → (if is_some o then [] else counting (codes "manifest-digest") (item_here item f p)) ≡ s.digests
    by None k found = found
    by (Some name) k found = sym (none_same s.digests (subst (λ v. AreSame (digests_elems v) s.digests) k s.digests_same))

-- and what they say with the id are the digests
item_used : (item : Selection) (f : Forest) (p : ℕ) → IsProperItem item → InsideOf item (elements f) → in_order_of_use (said_in (item_here item f p)) ≡ item.digests
unfolding digests_elems
item_used item f p h s =
    app (app (ap {B = Bool → Option (List ℕ) → List DigestName} (λ gs b d. in_order_of_use (flat_map said_digests gs ++ (if b then [] else optional (digest_of (unwrap_or d [])))))
    (item_digests item f p h s)) (item_packaged item f p h.named)) (item_id item f p)
    ∙ by item.«package» h.digests
  where
    by : (o : Option (List ℕ)) → HasDigests o item.id item.digests → in_order_of_use (flat_map said_digests s.digests ++ (if is_some o then [] else optional (digest_of item.id))) ≡ item.digests
    by None k = ap (λ v. in_order_of_use (v ++ optional (digest_of item.id))) (digests_read item.id item.digests s.digests k s.digests_same).1 ∙ k.with_id
    by (Some name) k =
        ap (λ gs. in_order_of_use (flat_map said_digests gs ++ [])) (none_same s.digests (subst (λ v. AreSame (digests_elems v) s.digests) k s.digests_same)) ∙ sym k

item_here_back : (item : Selection) (f : Forest) (p : ℕ) → IsProperItem item → InsideOf item (elements f) → selection_of (item_here item f p) ≡ item
item_here_back item f p h s =
    let fs = item_fields item in
    let n = named_inside item (elements f) h s in
    let deps : map (dep_of AsWritten) (counting (codes "requires") (item_here item f p)) ≡ item.deps =
    ap (λ v. map (dep_of AsWritten) (filter (counts_as (codes "requires")) v)) s.whole ∙ (ap (map (dep_of AsWritten)) (count_deps s.digests s.bindings s.deps s.commands n) ∙ deps_back item.deps s.deps h.deps s.deps_same) in
    let commands : map (command_of AsWritten) (counting (codes "command") (item_here item f p)) ≡ item.commands =
    ap (λ v. map (command_of AsWritten) (filter (counts_as (codes "command")) v)) s.whole
    ∙ (ap (map (command_of AsWritten)) (count_commands s.digests s.bindings s.deps s.commands n) ∙ commands_back item.commands s.commands h.commands s.commands_same) in
    let bindings : map binding_of (bindings_in (item_here item f p)) ≡ item.bindings =
    ap (λ v. map binding_of (filter counts_as_binding v)) s.whole ∙ (ap (map binding_of) (count_bindings s.digests s.bindings s.deps s.commands n) ∙ bindings_back item.bindings s.bindings h.bindings s.bindings_same) in
    item_means item f p
    ∙ (app (app (app (app (app (app (app (app (app (app (app (app (ap item_by (looked (codes "interface") fs refl)) (looked (codes "id") fs refl)) (looked (codes "version") fs refl)) (looked (codes "from-feed") fs refl))
    (looked (codes "package") fs refl)) (looked (codes "local-path") fs refl)) (looked (codes "arch") fs refl)) (looked (codes "released") fs refl)) (looked (codes "stability") fs refl))
    (item_used item f p h s)) deps) commands) bindings
    ∙ app (app (ap {B = Option (List ℕ) → Option (List ℕ) → Selection} (λ v o l. record item { from_feed = v; «package» = o; local = l }) (unless_back item.interface item.from_feed))
    (package_back item.«package» h.named)) (local_back item.«package» item.local h.named h.local))

pub item_back : (item : Selection) (r : Elem) → IsProperItem item → IsSame (selection_elem item) r → selection_of r ≡ item
item_back item r h s = ap selection_of (sym (item_same item r s)) ∙ item_here_back item r.inside r.place h (item_inside item r s)

item_here_plain : (item : Selection) (f : Forest) (p : ℕ) → IsPlain (codes "selection") (item_here item f p)
item_here_plain item f p = record { space = refl; named = refl; free = looked condition (item_fields item) refl }

pub item_is : (item : Selection) (r : Elem) → IsProperItem item → IsSame (selection_elem item) r → IsPlain (codes "selection") r
item_is item r h s = subst (IsPlain (codes "selection")) (item_same item r s) (item_here_plain item r.inside r.place)

-- Nothing is wrong.

abbrev kind_by : Bool → Bool → Bool → Bool → Option FeedKind
kind_by a b c d = if a then Some NoId else if b then Some BadVersion else if c then Some NoInterface else if d then Some BadAddress else None

item_kind : (item : Selection) (f : Forest) (p : ℕ) → IsProperItem item → own_kind (item_here item f p) ≡ None
unfolding own_kind
item_kind item f p h =
    let fs = item_fields item in
    app (app (app (ap kind_by (ap (λ o. is_none (unwrap_or o [])) (looked (codes "id") fs refl) ∙ h.id))
    (ap (is_amiss is_version) (looked (codes "version") fs refl) ∙ ap not h.version)) (ap (λ o. not (is_some o)) (looked (codes "interface") fs refl)))
    (app (ap {B = Option (List ℕ) → Bool} (λ b o. not b && is_wrong is_local o) (item_packaged item f p h.named)) (looked (codes "local-path") fs refl) ∙ by item.«package» item.local h.local)
  where
    by : (o l : Option (List ℕ)) → HasPath o l → (not (is_some o) && is_wrong is_local l) ≡ false
    by None l k = k
    by (Some name) l k = refl

all_clear : (rs : List Elem) → Each (IsOf command_names) rs → filter (λ c. not (is_unclear c)) rs ≡ rs
all_clear [] h = refl
all_clear (r ∷ rs) h =
    ap (λ b. cond (not b) (r ∷ filter (λ c. not (is_unclear c)) rs) (filter (λ c. not (is_unclear c)) rs)) (free_clear r h.0.plain.free) ∙ ap (λ v. r ∷ v) (all_clear rs h.1)

item_apart : (item : Selection) (f : Forest) (p : ℕ) → IsProperItem item → InsideOf item (elements f) → second_commands (item_here item f p) ≡ []
item_apart item f p h s =
    let n = named_inside item (elements f) h s in
    ap (λ v. repeated (share (codes "name")) (filter (λ c. not (is_unclear c)) v)) (ap (filter (counts_as (codes "command"))) s.whole ∙ count_commands s.digests s.bindings s.deps s.commands n)
    ∙ (ap (repeated (share (codes "name"))) (all_clear s.commands n.commands)
    ∙ none_shares [] [] (map (λ (c : Command). c.name) item.commands) s.commands tt (commands_named item.commands s.commands h.commands s.commands_same) h.apart)

abbrev all_four : List Elem → List Elem → List Elem → List Elem → List Elem
all_four bs ds cs gs = bs ++ ds ++ cs ++ gs

item_parts : (item : Selection) (f : Forest) (p : ℕ) → IsProperItem item → InsideOf item (elements f) → faults_of part_fault (parts_in (item_here item f p)) ≡ []
item_parts item f p h s =
    let n = named_inside item (elements f) h s in
    let gs = s.digests in
    let bs = s.bindings in
    let ds = s.deps in
    let cs = s.commands in
    ap (faults_of part_fault)
    (app (app (app (ap all_four (ap (filter counts_as_binding) s.whole ∙ count_bindings gs bs ds cs n)) (ap (filter (counts_as (codes "requires"))) s.whole ∙ count_deps gs bs ds cs n))
    (ap (filter (counts_as (codes "command"))) s.whole ∙ count_commands gs bs ds cs n)) (item_digests item f p h s))
    ∙ clean_faults (bs ++ ds ++ cs ++ gs)
    (each_append IsClean (bs ++ ds ++ cs) gs
    (each_append IsClean (bs ++ ds) cs (each_append IsClean bs ds (bindings_clean item.bindings bs h.bindings s.bindings_same) (deps_clean item.deps ds h.deps s.deps_same))
    (each_read command_elem IsProperCommand IsClean command_clean item.commands cs h.commands s.commands_same))
    (digests_clean gs (digest_elements item.«package» item.id item.digests gs h.digests s.digests_same)))

abbrev fault_by : Elem → Bool → Option FeedKind → List Elem → List Fault → Option Fault
fault_by e unclear kind seconds faults =
    if unclear then Some (fault_at e BadRange)
    else least (optional (option_map (fault_at e) kind) ++ map (λ c. fault_at c BadPart) seconds ++ faults)

item_here_right : (item : Selection) (f : Forest) (p : ℕ) → IsProperItem item → InsideOf item (elements f) → selection_fault (item_here item f p) ≡ None
unfolding selection_fault
item_here_right item f p h s =
    app (app (app (ap (fault_by (item_here item f p)) (free_clear (item_here item f p) (looked condition (item_fields item) refl))) (item_kind item f p h)) (item_apart item f p h s)) (item_parts item f p h s)

pub item_right : (item : Selection) (r : Elem) → IsProperItem item → IsSame (selection_elem item) r → selection_fault r ≡ None
item_right item r h s = ap selection_fault (sym (item_same item r s)) ∙ item_here_right item r.inside r.place h (item_inside item r s)

pub item_interface : (item : Selection) (r : Elem) → IsProperItem item → IsSame (selection_elem item) r → value (codes "interface") r ≡ item.interface
item_interface item r h s = ap (value (codes "interface")) (sym (item_same item r s)) ∙ ap (λ o. unwrap_or o []) (looked (codes "interface") (item_fields item) refl)
