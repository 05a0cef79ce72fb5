-- Selections as they are written: what is read of their tree, and that nothing is wrong with it.
use Rattle.std.proofs.Common.{◌≡◌, ℕ, Bool, true, List, [], ◌∷◌, ◌++◌, map, Option, Some, None, codes, refl, sym, ap, subst, ◌∙◌, append-nil}
use Rattle.std.specs.Prelude.{not, is_some, unwrap_or, if◌then◌else◌}
use Rattle.std.specs.List.{flat_map}
use Rattle.zi_elements.specs.declared.element.Attr.{Attr}
use Rattle.zi_elements.specs.declared.element.Element.{Element}
use Rattle.zi_elements.specs.Forest.{Forest, Elem, elements, attribute, value, element_view}
use Rattle.zi_elements.specs.Namespace.{injector}
use Rattle.zi_doc.specs.Documents as doc
use Rattle.zi_docout.specs.Elements.{attr}
use Rattle.zi_docout.specs.Amiss.{first_amiss}
use Rattle.zi_docout.specs.Canonical as canonical
use Rattle.zi_docout.specs.Same.{IsSame, IsReadBack}
use Rattle.zi_address.specs.Texts.{same}
use Rattle.zi_reading.specs.Words.{is_among, first, repeated}
use Rattle.zi_feed.specs.Means.{counts_as}
use Rattle.zi_faults.specs.Faults.{least, fault_at}
use Rattle.zi_faults.specs.declared.fault.Fault.{Fault}
use Rattle.zi_faults.specs.declared.fault.FeedKind.TheVariants.{BadRange}
use Rattle.zi_sels.specs.declared.types.Selection.{Selection}
use Rattle.zi_sels.specs.declared.types.Selections.{Selections}
use Rattle.zi_sels.specs.declared.fault.SelsFault.{SelsFault}
use Rattle.zi_sels.specs.declared.fault.SelsFault.TheVariants as fault
use Rattle.zi_sels.specs.Written.{attr_of, selection_elem, tree, document}
use Rattle.zi_sels.specs.Read.{selections_in, selection_of, selections_of}
use Rattle.zi_sels.specs.Notes.{faults_of}
use Rattle.zi_sels.specs.Refused.{is_selections, selection_fault, first_fault, interfaces_in, asking, asking_in, unmet, or_else, closed_fault, tree_fault}
use Rattle.zi_sels.specs.Reading.{Says}
use Rattle.zi_sels_laws.proofs.LikeLaws.{AreSame, same_inside, Each, each_read, values_back, sifted, tree_of, view_back}
use Rattle.zi_sels_laws.proofs.FieldLaws.{Field, field, fields, looked, app}
use Rattle.zi_sels_laws.proofs.PlainLaws.{here_is, made_is, condition, free_clear, plain_counts}
use Rattle.zi_sels_laws.proofs.ItemLaws.{item_is, item_back, item_right, item_interface}
use Rattle.zi_sels_laws.proofs.AskedLaws.{IsMetWhole, IsIn, in_flat, all_met, item_meets}

abbrev pub interfaces_of : Selections → List (List ℕ)
interfaces_of s = map (λ (x : Selection). x.interface) s.items

-- selections as they may be read
pub record IsProper (s : Selections) : Type 0 where
  pub items : Each (IsMetWhole (interfaces_of s)) s.items
  pub apart : repeated same (interfaces_of s) ≡ []
  pub rooted : is_among (interfaces_of s) s.interface ≡ true

abbrev root_fields : Selections → List Field
root_fields s = field (codes "interface") (Some s.interface) ∷ field (codes "command") s.command ∷ []

abbrev root_attrs : Selections → List Attr
root_attrs s = attr (codes "interface") s.interface ∷ [] ++ attr_of (codes "command") s.command

root_as_fields : (s : Selections) → root_attrs s ≡ fields (root_fields s)
root_as_fields s = ap (λ v. attr (codes "interface") s.interface ∷ v) (sym (append-nil (attr_of (codes "command") s.command)))

abbrev root_here : Selections → Forest → ℕ → Elem
root_here s f p = here_is (codes "selections") (fields (root_fields s)) f p

root_same : (s : Selections) (r : Elem) → IsSame (tree s) r → root_here s r.inside r.place ≡ r
unfolding tree
root_same s r k = ap (λ v. here_is (codes "selections") v r.inside r.place) (sym (root_as_fields s)) ∙ made_is (codes "selections") (root_attrs s) _ r k

root_inside : (s : Selections) (r : Elem) → IsSame (tree s) r → AreSame (map selection_elem s.items) (elements r.inside)
unfolding tree
root_inside s r k = same_inside (codes "selections") (root_attrs s) (map selection_elem s.items) r k

self_name : same (codes "selection") (codes "selection") ≡ true
unfolding same injector
self_name = refl

counted : (is : List (List ℕ)) (item : Selection) (r : Elem) → IsMetWhole is item → IsSame (selection_elem item) r → counts_as (codes "selection") r ≡ true
counted is item r h s = plain_counts (codes "selection") (codes "selection") r (item_is item r h.0 s) ∙ self_name

all_count : (s : Selections) (f : Forest) (p : ℕ) → IsProper s → AreSame (map selection_elem s.items) (elements f) → selections_in (root_here s f p) ≡ elements f
all_count s f p h k =
    sifted (counts_as (codes "selection")) true (elements f)
    (each_read selection_elem (IsMetWhole (interfaces_of s)) (λ r. counts_as (codes "selection") r ≡ true) (counted (interfaces_of s)) s.items (elements f) h.items k)

abbrev root_by : Option (List ℕ) → Option (List ℕ) → List Selection → Selections
root_by i c items = record { interface = unwrap_or i []; command = c; items = items }

root_means : (s : Selections) (f : Forest) (p : ℕ)
    → selections_of (root_here s f p) ≡ root_by (attribute (codes "interface") (root_here s f p)) (attribute (codes "command") (root_here s f p)) (map selection_of (selections_in (root_here s f p)))
unfolding selections_of
root_means s f p = refl

root_back : (s : Selections) (f : Forest) (p : ℕ) → IsProper s → AreSame (map selection_elem s.items) (elements f) → selections_of (root_here s f p) ≡ s
root_back s f p h k =
    root_means s f p
    ∙ app (app (ap root_by (looked (codes "interface") (root_fields s) refl)) (looked (codes "command") (root_fields s) refl))
    (ap (map selection_of) (all_count s f p h k)
    ∙ values_back selection_elem selection_of (IsMetWhole (interfaces_of s)) (λ item r m e. item_back item r m.0 e) s.items (elements f) h.items k)

-- Nothing is wrong.

no_item_faults : (rs : List Elem) → Each (λ r. selection_fault r ≡ None) rs → faults_of selection_fault rs ≡ []
no_item_faults [] h = refl
no_item_faults (r ∷ rs) h = rw h.0 (no_item_faults rs h.1)

root_first : (s : Selections) (f : Forest) (p : ℕ) → IsProper s → AreSame (map selection_elem s.items) (elements f) → first_fault (root_here s f p) ≡ None
unfolding first_fault
root_first s f p h k =
    let e = root_here s f p in
    app (ap {B = List Fault → Option Fault} (λ b fs. least ((if b then fault_at e BadRange ∷ [] else []) ++ fs)) (free_clear e (looked condition (root_fields s) refl)))
    (ap (faults_of selection_fault) (all_count s f p h k)
    ∙ no_item_faults (elements f) (each_read selection_elem (IsMetWhole (interfaces_of s)) (λ r. selection_fault r ≡ None) (λ item r m e. item_right item r m.0 e) s.items (elements f) h.items k))

the_interfaces : (s : Selections) (f : Forest) (p : ℕ) → IsProper s → AreSame (map selection_elem s.items) (elements f) → interfaces_in (root_here s f p) ≡ interfaces_of s
the_interfaces s f p h k = ap (map (value (codes "interface"))) (all_count s f p h k) ∙ each (s.items) (elements f) h.items k
  where
    each : (items : List Selection) (rs : List Elem) → Each (IsMetWhole (interfaces_of s)) items → AreSame (map selection_elem items) rs → map (value (codes "interface")) rs ≡ map (λ (x : Selection). x.interface) items
    each [] [] m e = refl
    each [] (r ∷ rs) m e = absurd e
    each (x ∷ items) [] m e = absurd e
    each (x ∷ items) (r ∷ rs) m e =
        ap (λ v. v ∷ map (value (codes "interface")) rs) (item_interface x r m.0.0 e.0) ∙ ap (λ v. x.interface ∷ v) (each items rs m.1 e.1)

nothing_unmet : (s : Selections) (f : Forest) (p : ℕ) → IsProper s → AreSame (map selection_elem s.items) (elements f) → unmet (interfaces_of s) (asking (root_here s f p)) ≡ []
nothing_unmet s f p h k =
    ap (λ v. unmet (interfaces_of s) (flat_map asking_in v)) (all_count s f p h k)
    ∙ all_met (interfaces_of s) (flat_map asking_in (elements f))
    (in_flat (interfaces_of s) asking_in (elements f)
    (each_read selection_elem (IsMetWhole (interfaces_of s)) (λ r. Each (IsIn (interfaces_of s)) (asking_in r)) (item_meets (interfaces_of s)) s.items (elements f) h.items k))

abbrev closed_by : Option (List ℕ) → Bool → Option (List ℕ) → Option SelsFault
closed_by twice known unmet_first = or_else fault.Twice twice (if not known then Some fault.NoRoot else or_else fault.Unclosed unmet_first None)

root_closed : (s : Selections) (f : Forest) (p : ℕ) → IsProper s → AreSame (map selection_elem s.items) (elements f) → closed_fault (interfaces_in (root_here s f p)) (root_here s f p) ≡ None
root_closed s f p h k =
    ap (λ is. closed_fault is (root_here s f p)) (the_interfaces s f p h k)
    ∙ app (app (ap closed_by (ap first h.apart))
    (ap (λ o. is_among (interfaces_of s) (unwrap_or o [])) (looked (codes "interface") (root_fields s) refl) ∙ h.rooted))
    (ap first (nothing_unmet s f p h k))

abbrev tree_by : Bool → Option Fault → Option SelsFault → Option SelsFault
tree_by right found rest = if not right then Some fault.NotSelections else or_else (λ (g : Fault). fault.Feed g.kind g.place) found rest

root_is : (s : Selections) (f : Forest) (p : ℕ) → is_selections (root_here s f p) ≡ true
unfolding same injector
root_is s f p = ap (λ o. is_some o) (looked (codes "interface") (root_fields s) refl)

root_right : (s : Selections) (f : Forest) (p : ℕ) → IsProper s → AreSame (map selection_elem s.items) (elements f) → tree_fault (root_here s f p) ≡ None
unfolding tree_fault
root_right s f p h k = app (app (ap tree_by (root_is s f p)) (root_first s f p h k)) (root_closed s f p h k)

-- The canonical document of proper selections says them.

abbrev pub IsWritten : Type 0
IsWritten = (e : Element) → first_amiss (element_view e) ≡ None → IsReadBack e

pub written_says : IsWritten → (s : Selections) → IsProper s → first_amiss (tree s) ≡ None → Says (document s) s
unfolding document
written_says written s h right =
    let e = tree_of (tree s) in
    let back = written e (ap first_amiss (view_back (tree s)) ∙ right) in
    let t = back.some.0 in
    let k = subst (λ v. IsSame v (element_view t)) (view_back (tree s)) (back.same t back.some.1) in
    let inside = root_inside s (element_view t) k in
    let here = root_same s (element_view t) k in record {
      tree = t;
      spells = subst (λ v. doc.Spells (canonical.document v) t) (view_back (tree s)) back.some.1;
      right = ap tree_fault (sym here) ∙ root_right s (element_view t).inside (element_view t).place h inside;
      means = sym (ap selections_of (sym here) ∙ root_back s (element_view t).inside (element_view t).place h inside);
    }
