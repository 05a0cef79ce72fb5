-- Interfaces that are selected for, found by a set, and those that are asked for.
use Rattle.std.proofs.Common.{◌≡◌, ℕ, Bool, true, false, cond, ◌+◌, ◌<◌, ◌≤◌, List, [], ◌∷◌, ◌++◌, map, take, drop, length, get_or, filter, Option, Some, None, Result, Ok, Err, IfOk, Bor, refl, sym, ap, ◌∙◌, arith, append-nil}
use Rattle.std.specs.Prelude.{◌||◌, bytes_eq, not, codes, if◌then◌else◌}
use Rattle.std.specs.List.{list_any, flat_map}
use Rattle.std.specs.Option.{option_or}
use Rattle.std.proofs.lemmas.List.{drop_all, map-append}
use Rattle.std.proofs.lemmas.List.Elements.{filter-append}
use Rattle.std.proofs.lemmas.Grind.{flat_map-append}
use Rattle.zi_elements.specs.declared.element.Element.{Element}
use Rattle.zi_elements.specs.Forest.{Elem, elements, element_view, value}
use Rattle.zi_address.specs.Texts.{same}
use Rattle.zi_reading.specs.Words.{is_among, first, repeated, repeated_after}
use Rattle.zi_feed.specs.Means.{counts_as}
use Rattle.zi_reading.specs.Views.{views}
use Rattle.zi_reading.proofs.NodeLaws.{drop_turn}
use Rattle.zi_sels.specs.declared.types.Selection.{Selection}
use Rattle.zi_sels.specs.Refused.{asks, asks_within, asking_at, asking_in, unmet}
use Rattle.zi_feed.proofs.LatestLaws.{text_swap}
use Rattle.zi_faults.proofs.RepeatLaws.{views_next}
use Rattle.zi_sels.proofs.UsedLemmas.{last_one, later_one}

-- one more is known
pub among_more : (names : List (List ℕ)) (x q : List ℕ) → is_among (names ++ x ∷ []) q ≡ cond (bytes_eq x q) true (is_among names q)
unfolding is_among same
among_more [] x q = ap (λ v. v || false) (text_swap q x) ∙ last_one (bytes_eq x q)
among_more (y ∷ names) x q =
    ap (λ v. bytes_eq q y || v) (among_more names x q) ∙ later_one (bytes_eq q y) (bytes_eq x q) (is_among names q)

-- How far a search for an interface that stands twice has come: those before are known, and none of them stood twice.
pub record Fresh (contains : Bor (List ℕ) → Bool) (items : List Selection) (i : ℕ) : Type 0 where
  pub earlier : List (List ℕ)
  pub known : (q : Bor (List ℕ)) → contains q ≡ list_any (same q.now) earlier
  pub left : first (repeated_after same earlier (map (λ x. x.interface) (drop i items))) ≡ first (repeated same (map (λ x. x.interface) items))

abbrev behind : List (List ℕ) → List Selection → ℕ → List ℕ → List (List ℕ)
behind earlier items i t = repeated_after same (t ∷ earlier) (map (λ x. x.interface) (drop (i + 1) items))

turn : (items : List Selection) (i : ℕ) (x : Selection) (t : List ℕ) (earlier : List (List ℕ)) (b : Bool) → i < length items → x ≡ get_or items i x → t ≡ x.interface
    → list_any (same t) earlier ≡ b
    → first (repeated_after same earlier (map (λ y. y.interface) (drop i items))) ≡ first (if b then t ∷ behind earlier items i t else behind earlier items i t)
turn items i x t earlier b h is named at =
    ap (λ v. first (repeated_after same earlier (map (λ (y : Selection). y.interface) v))) (drop_turn items i x h is)
    ∙ (ap (λ v. first (repeated_after same earlier (v ∷ map (λ (y : Selection). y.interface) (drop (i + 1) items)))) (sym named)
    ∙ ap (λ v. first (if v then t ∷ behind earlier items i t else behind earlier items i t)) at)

-- an interface that stood before, and one that didn't
pub fresh_twice : (contains : Bor (List ℕ) → Bool) (items : List Selection) (i : ℕ) (x : Selection) (t : Bor (List ℕ)) → i < length items → x ≡ get_or items i x → t.now ≡ x.interface
    → contains t ≡ true → Fresh contains items i → Some t.now ≡ first (repeated same (map (λ y. y.interface) items))
fresh_twice contains items i x t h is named old f = sym (turn items i x t.now f.earlier true h is named (sym (f.known t) ∙ old)) ∙ f.left

same_is : (x q : List ℕ) → same q x ≡ bytes_eq x q
unfolding same
same_is x q = text_swap q x

pub fresh_next : (before after : Bor (List ℕ) → Bool) (items : List Selection) (i : ℕ) (x : Selection) (t : Bor (List ℕ)) → i < length items → x ≡ get_or items i x → t.now ≡ x.interface
    → before t ≡ false → ((q : Bor (List ℕ)) → after q ≡ (bytes_eq t.now q.now || before q)) → Fresh before items i → Fresh after items (i + 1)
fresh_next before after items i x t h is named new grown f = record {
  earlier = t.now ∷ f.earlier;
  known = λ q. grown q ∙ (ap (λ v. bytes_eq t.now q.now || v) (f.known q) ∙ ap (λ v. v || list_any (same q.now) f.earlier) (sym (same_is t.now q.now)));
  left = sym (turn items i x t.now f.earlier false h is named (sym (f.known t) ∙ new)) ∙ f.left;
}

pub fresh_end : (contains : Bor (List ℕ) → Bool) (items : List Selection) (i : ℕ) → length items ≤ i → Fresh contains items i
    → None ≡ first (repeated same (map (λ y. y.interface) items))
fresh_end contains items i h f = sym (ap (λ v. first (repeated_after same f.earlier (map (λ (y : Selection). y.interface) v))) (drop_all i items h)) ∙ f.left

-- The first of two lists.
pub first_append : {X : Type 0} (xs ys : List X) → first (xs ++ ys) ≡ option_or (first xs) (first ys)
first_append [] ys = refl
first_append (x ∷ xs) ys = refl

pub unmet_append : (names : List (List ℕ)) (es fs : List Elem) → unmet names (es ++ fs) ≡ unmet names es ++ unmet names fs
unmet_append names es fs =
    ap (filter (λ i. not (is_among names i))) (map-append (value (codes "interface")) es fs)
    ∙ filter-append (λ i. not (is_among names i)) (map (value (codes "interface")) es) (map (value (codes "interface")) fs)

pub first_unmet : (names : List (List ℕ)) (es fs : List Elem) → first (unmet names (es ++ fs)) ≡ option_or (first (unmet names es)) (first (unmet names fs))
first_unmet names es fs = ap first (unmet_append names es fs) ∙ first_append (unmet names es) (unmet names fs)

-- the first of what is left behind a node, where nothing is at it
passed : (o : Option (List ℕ)) (x total : Option (List ℕ)) → o ≡ None → option_or o x ≡ total → x ≡ total
passed None x total h e = e
passed (Some y) x total h e = absurd (cc h)

found : (o : Option (List ℕ)) (y : List ℕ) (x total : Option (List ℕ)) → o ≡ Some y → option_or o x ≡ total → Some y ≡ total
found None y x total h e = absurd (cc h)
found (Some z) y x total h e = sym h ∙ e

-- Over elements, where each gives some elements that may ask.

at_part : (names : List (List ℕ)) (give : List Elem → List Elem) (es : List (Bor Element)) (i : ℕ) (x : Bor Element) (total : Option (List ℕ))
    → ((d : Elem) (ds : List Elem) → give (d ∷ ds) ≡ give (d ∷ []) ++ give ds)
    → i < length es → x ≡ get_or es i x → first (unmet names (give (views (drop i es)))) ≡ total
    → option_or (first (unmet names (give (element_view x.now ∷ [])))) (first (unmet names (give (views (drop (i + 1) es))))) ≡ total
at_part names give es i x total step h is kept =
    let later : List Elem = views (drop (i + 1) es) in
    sym (ap (λ v. first (unmet names (give v))) (views_next es i x h is)
    ∙ (ap (λ v. first (unmet names v)) (step (element_view x.now) later) ∙ first_unmet names (give (element_view x.now ∷ [])) (give later)))
    ∙ kept

pub part_passed : (names : List (List ℕ)) (give : List Elem → List Elem) (es : List (Bor Element)) (i : ℕ) (x : Bor Element) (o total : Option (List ℕ))
    → ((d : Elem) (ds : List Elem) → give (d ∷ ds) ≡ give (d ∷ []) ++ give ds)
    → i < length es → x ≡ get_or es i x → o ≡ first (unmet names (give (element_view x.now ∷ []))) → o ≡ None
    → first (unmet names (give (views (drop i es)))) ≡ total → first (unmet names (give (views (drop (i + 1) es)))) ≡ total
part_passed names give es i x o total step h is here none kept =
    passed (first (unmet names (give (element_view x.now ∷ [])))) (first (unmet names (give (views (drop (i + 1) es))))) total (sym here ∙ none)
    (at_part names give es i x total step h is kept)

pub part_found : (names : List (List ℕ)) (give : List Elem → List Elem) (es : List (Bor Element)) (i : ℕ) (x : Bor Element) (o total : Option (List ℕ)) (y : List ℕ)
    → ((d : Elem) (ds : List Elem) → give (d ∷ ds) ≡ give (d ∷ []) ++ give ds)
    → i < length es → x ≡ get_or es i x → o ≡ first (unmet names (give (element_view x.now ∷ []))) → o ≡ Some y
    → first (unmet names (give (views (drop i es)))) ≡ total → Some y ≡ total
part_found names give es i x o total y step h is here some kept =
    found (first (unmet names (give (element_view x.now ∷ [])))) y (first (unmet names (give (views (drop (i + 1) es))))) total (sym here ∙ some)
    (at_part names give es i x total step h is kept)

pub parts_end : (names : List (List ℕ)) (give : List Elem → List Elem) (es : List (Bor Element)) (i : ℕ) (total : Option (List ℕ)) → give [] ≡ [] → length es ≤ i
    → first (unmet names (give (views (drop i es)))) ≡ total → None ≡ total
parts_end names give es i total none h kept =
    sym (ap (λ (v : List (Bor Element)). first (unmet names (give (views v)))) (drop_all i es h) ∙ ap (λ v. first (unmet names v)) none) ∙ kept

-- the elements are known by another name
pub all_known : (names : List (List ℕ)) (give : List Elem → List Elem) (o : Option (List ℕ)) (es fs : List Elem) → es ≡ fs → o ≡ first (unmet names (give es)) → o ≡ first (unmet names (give fs))
all_known names give o es fs is h = h ∙ ap (λ v. first (unmet names (give v))) is

-- what each of the three gives, element by element
pub within_step : (d : Elem) (es : List Elem) → filter asks_within (d ∷ es) ≡ filter asks_within (d ∷ []) ++ filter asks_within es
within_step d es = filter-append asks_within (d ∷ []) es

pub at_step : (d : Elem) (es : List Elem) → flat_map asking_at (d ∷ es) ≡ flat_map asking_at (d ∷ []) ++ flat_map asking_at es
at_step d es = ap (λ v. v ++ flat_map asking_at es) (sym (append-nil (asking_at d)))

abbrev pub in_selections : List Elem → List Elem
in_selections es = flat_map asking_in (filter (counts_as (codes "selection")) es)

pub in_step : (d : Elem) (es : List Elem) → in_selections (d ∷ es) ≡ in_selections (d ∷ []) ++ in_selections es
in_step d es =
    ap (flat_map asking_in) (filter-append (counts_as (codes "selection")) (d ∷ []) es)
    ∙ flat_map-append asking_in (filter (counts_as (codes "selection")) (d ∷ [])) (filter (counts_as (codes "selection")) es)

-- What asks where a test holds, and nothing where it doesn't.
pub asked_within : (names : List (List ℕ)) (e : Elem) (o : Option (List ℕ)) → asks_within e ≡ true → o ≡ first (unmet names (e ∷ [])) → o ≡ first (unmet names (filter asks_within (e ∷ [])))
asked_within names e o h is = is ∙ ap (λ v. first (unmet names v)) (sym (passes asks_within e true h))
  where
    passes : (test : Elem → Bool) (d : Elem) (b : Bool) → test d ≡ b → filter test (d ∷ []) ≡ cond b (d ∷ []) []
    passes test d b h = ap (λ v. cond v (d ∷ []) []) h

pub none_within : (names : List (List ℕ)) (e : Elem) → asks_within e ≡ false → None ≡ first (unmet names (filter asks_within (e ∷ [])))
none_within names e h = ap (λ v. first (unmet names (cond v (e ∷ []) []))) (sym h)

pub one_at : (names : List (List ℕ)) (e : Elem) → first (unmet names (flat_map asking_at (e ∷ []))) ≡ first (unmet names (asking_at e))
one_at names e = ap (λ v. first (unmet names v)) (append-nil (asking_at e))

pub in_selection : (names : List (List ℕ)) (e : Elem) (o : Option (List ℕ)) → counts_as (codes "selection") e ≡ true → o ≡ first (unmet names (asking_in e))
    → o ≡ first (unmet names (in_selections (e ∷ [])))
in_selection names e o h is =
    is ∙ (ap (λ v. first (unmet names v)) (sym (append-nil (asking_in e))) ∙ ap (λ v. first (unmet names (flat_map asking_in (cond v (e ∷ []) [])))) (sym h))

pub none_selected : (names : List (List ℕ)) (e : Elem) → counts_as (codes "selection") e ≡ false → None ≡ first (unmet names (in_selections (e ∷ [])))
none_selected names e h = ap (λ v. first (unmet names (flat_map asking_in (cond v (e ∷ []) [])))) (sym h)

-- at an element of a selection: a command, a `requires` that asks, or neither
pub at_command : (names : List (List ℕ)) (e : Elem) (o : Option (List ℕ)) → counts_as (codes "command") e ≡ true → o ≡ first (unmet names (filter asks_within (elements e.inside)))
    → o ≡ first (unmet names (asking_at e))
at_command names e o h is = is ∙ ap (λ v. first (unmet names (if v then filter asks_within (elements e.inside) else if asks e then e ∷ [] else []))) (sym h)

pub at_asking : (names : List (List ℕ)) (e : Elem) (o : Option (List ℕ)) → counts_as (codes "command") e ≡ false → asks e ≡ true → o ≡ first (unmet names (e ∷ []))
    → o ≡ first (unmet names (asking_at e))
at_asking names e o h k is =
    is ∙ (ap (λ v. first (unmet names (if v then e ∷ [] else []))) (sym k)
    ∙ ap (λ v. first (unmet names (if v then filter asks_within (elements e.inside) else if asks e then e ∷ [] else []))) (sym h))

pub at_neither : (names : List (List ℕ)) (e : Elem) → counts_as (codes "command") e ≡ false → asks e ≡ false → None ≡ first (unmet names (asking_at e))
at_neither names e h k =
    ap (λ v. first (unmet names (if v then e ∷ [] else []))) (sym k)
    ∙ ap (λ v. first (unmet names (if v then filter asks_within (elements e.inside) else if asks e then e ∷ [] else []))) (sym h)

-- a value that is known by another name
pub moved : {X Y E : Type 0} (r : Result X E) (f : X → Y) (a b : Y) → a ≡ b → IfOk r (λ x. f x ≡ a) → IfOk r (λ x. f x ≡ b)
moved (Ok x) f a b e h = h ∙ e
moved (Err y) f a b e h = tt
