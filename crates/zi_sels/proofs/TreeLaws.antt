-- The tree of a document: its faults in their order, and its value.
use Rattle.std.proofs.Common.{◌≡◌, ℕ, ◌⊎◌, inl, inr, Bool, true, false, List, [], ◌∷◌, ◌++◌, map, Option, Some, None, refl, sym, ap, ◌∙◌}
use Rattle.std.specs.Prelude.{codes, not, if◌then◌else◌}
use Rattle.zi_elements.specs.Forest.{Elem, attribute, value}
use Rattle.zi_reading.specs.Words.{first, is_among}
use Rattle.zi_reading.specs.Reading.{is_unclear}
use Rattle.zi_faults.specs.Faults.{fault_at, least, lesser_of}
use Rattle.zi_faults.specs.declared.fault.Fault.{Fault}
use Rattle.zi_faults.specs.declared.fault.FeedKind.TheVariants.{BadRange}
use Rattle.zi_faults.proofs.LeastLaws.{least_append}
use Rattle.zi_sels.specs.declared.types.Selection.{Selection}
use Rattle.zi_sels.specs.declared.types.Selections.{Selections}
use Rattle.zi_sels.specs.declared.fault.SelsFault.{SelsFault}
use Rattle.zi_sels.specs.declared.fault.SelsFault.TheVariants as fault
use Rattle.zi_sels.specs.Read.{selections_in, selection_of, selections_of}
use Rattle.zi_sels.specs.Notes.{right, faults_of, AreRead}
use Rattle.zi_sels.specs.Refused.{is_selections, root_faults, item_faults, first_fault, selection_fault, interfaces_in, first_twice, asking, unmet, or_else, closed_fault, tree_fault}
use Rattle.zi_sels.proofs.NoteLaws.{neither, all_right}
use Rattle.zi_feed.specs.IdLaws.{least_none}

-- a part of the table that the root's test decides, and one that the first fault of a part decides
by_test : {X : Type 0} (b c : Bool) (x y : X) → b ≡ c → (if not b then x else y) ≡ (if not c then x else y)
by_test b c x y h = ap (λ v. if not v then x else y) h

abbrev feed_or : Option Fault → Option SelsFault → Option SelsFault
feed_or o rest = or_else (λ (g : Fault). fault.Feed g.kind g.place) o rest

pub other_root : (root : Elem) → is_selections root ≡ false → tree_fault root ≡ Some fault.NotSelections
unfolding tree_fault
other_root root h = by_test (is_selections root) false (Some fault.NotSelections) (feed_or (first_fault root) (closed_fault (interfaces_in root) root)) h

right_root : (root : Elem) (o : Option Fault) → is_selections root ≡ true → first_fault root ≡ o
    → tree_fault root ≡ feed_or o (closed_fault (interfaces_in root) root)
unfolding tree_fault
right_root root o h is =
    by_test (is_selections root) true (Some fault.NotSelections) (feed_or (first_fault root) (closed_fault (interfaces_in root) root)) h
    ∙ ap (λ v. feed_or v (closed_fault (interfaces_in root) root)) is

-- a fault of a part
pub wrong_part : (root : Elem) (now : Option Fault) (f : Fault) → is_selections root ≡ true → now ≡ first_fault root → now ≡ Some f
    → tree_fault root ≡ Some (fault.Feed f.kind f.place)
wrong_part root now f h is at = right_root root (Some f) h (sym is ∙ at)

-- the first fault of the root and the selections
pub first_is : (root : Elem) (old now : Option Fault) → old ≡ least (root_faults root) → now ≡ lesser_of old (least (item_faults root)) → now ≡ first_fault root
unfolding first_fault
first_is root old now p q = q ∙ (ap (λ v. lesser_of v (least (item_faults root))) p ∙ sym (least_append (root_faults root) (item_faults root)))

-- the fault of the root's condition, or none
pub root_wrong : (root : Elem) (f : Fault) → is_unclear root ≡ true → f ≡ fault_at root BadRange → Some f ≡ least (root_faults root)
root_wrong root f h is = ap Some is ∙ ap (λ v. least (if v then fault_at root BadRange ∷ [] else [])) (sym h)

pub root_right : (root : Elem) → is_unclear root ≡ false → None ≡ least (root_faults root)
root_right root h = ap (λ v. least (if v then fault_at root BadRange ∷ [] else [])) (sym h)

-- the interfaces of what was read
interface_is : (e : Elem) → (selection_of e).interface ≡ value (codes "interface") e
unfolding selection_of
interface_is e = refl

pub same_interfaces : (es : List Elem) → map (λ (x : Selection). x.interface) (map selection_of es) ≡ map (value (codes "interface")) es
same_interfaces [] = refl
same_interfaces (e ∷ es) = ap (λ v. v ∷ map (λ (x : Selection). x.interface) (map selection_of es)) (interface_is e) ∙ ap (λ v. value (codes "interface") e ∷ v) (same_interfaces es)

-- where no selection has a fault, all were read
all_items : (root : Elem) (old : Option Fault) (items : List Selection) → AreRead selection_fault selection_of (selections_in root) [] old items None
    → items ≡ map selection_of (selections_in root)
all_items root old items r =
    let none : item_faults root ≡ [] = least_none _ (neither old (least (item_faults root)) (sym r.first)).1 in
    r.values ∙ ap (map selection_of) (all_right selection_fault (selections_in root) none)

pub items_are : (root : Elem) (old now : Option Fault) (items : List Selection) → AreRead selection_fault selection_of (selections_in root) [] old items now → now ≡ None
    → items ≡ map selection_of (selections_in root)
items_are root old None items r h = all_items root old items r
items_are root old (Some f) items r h = absurd (cc h)

pub interfaces_are : (root : Elem) (items : List Selection) → items ≡ map selection_of (selections_in root) → map (λ (x : Selection). x.interface) items ≡ interfaces_in root
interfaces_are root items h = ap (map (λ (x : Selection). x.interface)) h ∙ same_interfaces (selections_in root)

-- a fault of the whole, or none
pub rest_is : (root : Elem) (now : Option Fault) (items : List Selection) (o : Option SelsFault) → is_selections root ≡ true → now ≡ first_fault root → now ≡ None
    → items ≡ map selection_of (selections_in root) → closed_fault (map (λ (x : Selection). x.interface) items) root ≡ o → tree_fault root ≡ o
rest_is root now items o h is none at closed =
    right_root root None h (sym is ∙ none) ∙ (sym (ap (λ v. closed_fault v root) (interfaces_are root items at)) ∙ closed)

-- a fault of the whole that a test has found
pub wrong_whole : (root : Elem) (now : Option Fault) (items : List Selection) (names : List (List ℕ)) (f : SelsFault) → is_selections root ≡ true → now ≡ first_fault root → now ≡ None
    → items ≡ map selection_of (selections_in root) → names ≡ map (λ (x : Selection). x.interface) items → (f ≡ fault.Memory) ⊎ (closed_fault names root ≡ Some f)
    → (f ≡ fault.Memory) ⊎ (tree_fault root ≡ Some f)
wrong_whole root now items names f h is none at named (inl m) = inl m
wrong_whole root now items names f h is none at named (inr e) = inr (rest_is root now items (Some f) h is none at (ap (λ v. closed_fault v root) (sym named) ∙ e))

abbrev pub made_of : List ℕ → Option (List ℕ) → List Selection → Selections
made_of interface command items = record { interface = interface; command = command; items = items }

pub value_of : (root : Elem) (interface : List ℕ) (command : Option (List ℕ)) (items : List Selection)
    → interface ≡ value (codes "interface") root → command ≡ attribute (codes "command") root → items ≡ map selection_of (selections_in root)
    → made_of interface command items ≡ selections_of root
unfolding selections_of
value_of root interface command items p q r =
    ap (λ v. made_of v command items) p
    ∙ (ap (λ v. made_of (value (codes "interface") root) v items) q
    ∙ ap (made_of (value (codes "interface") root) (attribute (codes "command") root)) r)

-- The whole, where these are the interfaces that are selected for.

abbrev root_or : Bool → Option SelsFault → Option SelsFault
root_or b rest = if not b then Some fault.NoRoot else rest

abbrev unclosed_or : Option (List ℕ) → Option SelsFault
unclosed_or o = or_else fault.Unclosed o None

closed_by : (names : List (List ℕ)) (root : Elem) (t : Option (List ℕ)) (b : Bool) (u : Option (List ℕ)) → first_twice names ≡ t → is_among names (value (codes "interface") root) ≡ b
    → first (unmet names (asking root)) ≡ u → closed_fault names root ≡ or_else fault.Twice t (root_or b (unclosed_or u))
closed_by names root t b u p q r =
    ap (λ v. or_else fault.Twice v (root_or (is_among names (value (codes "interface") root)) (unclosed_or (first (unmet names (asking root)))))) p
    ∙ (ap (λ v. or_else fault.Twice t (root_or v (unclosed_or (first (unmet names (asking root)))))) q
    ∙ ap (λ v. or_else fault.Twice t (root_or b (unclosed_or v))) r)

pub is_twice : (names : List (List ℕ)) (root : Elem) (t : List ℕ) → first_twice names ≡ Some t → closed_fault names root ≡ Some (fault.Twice t)
is_twice names root t p = closed_by names root (Some t) (is_among names (value (codes "interface") root)) (first (unmet names (asking root))) p refl refl

pub is_rootless : (names : List (List ℕ)) (root : Elem) → first_twice names ≡ None → is_among names (value (codes "interface") root) ≡ false → closed_fault names root ≡ Some fault.NoRoot
is_rootless names root p q = closed_by names root None false (first (unmet names (asking root))) p q refl

pub is_unclosed : (names : List (List ℕ)) (root : Elem) (t : List ℕ) → first_twice names ≡ None → is_among names (value (codes "interface") root) ≡ true
    → first (unmet names (asking root)) ≡ Some t → closed_fault names root ≡ Some (fault.Unclosed t)
is_unclosed names root t p q r = closed_by names root None true (Some t) p q r

pub is_closed : (names : List (List ℕ)) (root : Elem) → first_twice names ≡ None → is_among names (value (codes "interface") root) ≡ true
    → first (unmet names (asking root)) ≡ None → closed_fault names root ≡ None
is_closed names root p q r = closed_by names root None true None p q r
