-- A listing in byte order of the names is the folder's entries.
use Rattle.std.proofs.Common.{◌≡◌, Bool, true, false, ◌&&◌, not, List, [], length, ◌∷◌, map, filter, cond, Option, Some, IsSome, Ok, refl, sym, ◌∙◌, ap, subst, bytes_eq, inl, inr, if◌then◌else◌, nat_cmp}
use Rattle.std.specs.Ordering.{is_lt}
use Rattle.std.specs.Cmp.Lexicographic.{slice_cmp}
use Rattle.std.specs.List.Sorted.{IsSortedBy, IsPermutation}
use Rattle.std.proofs.lemmas.List.Sorted.{IsPermutation-sym, IsPermutation-map}
use Rattle.std.proofs.lemmas.Bool.{and_parts, and_from}
use Rattle.zi_tree.specs.Dir.{Dir, Nothing, AFile, ALink, AFolder}
use Rattle.zi_tree.specs.Order.{is_tree, is_before, is_name}
use Rattle.zi_tree.specs.Paths.{items}
use Rattle.zi_shelf.specs.Names.{Name, IsIn}
use Rattle.zi_shelf.specs.Shelved.{Shelved, Top}
use Rattle.zi_shelf.specs.Told.{Told}
use Rattle.zi_shelf.specs.Reading.{AreDistinct, ListsAll, EntriesAnswer, folder_at}
use Rattle.zi_shelf.specs.declared.shelf.Entry.{Entry}
use Rattle.zi_shelf.specs.declared.shelf.EntryKind.TheVariants as kind
use Rattle.zi_shelf.specs.declared.shelf.Listed.TheVariants.{Entries}
use Rattle.zi_shelf.proofs.ReadingLemmas.{listed, lists_all}
use Rattle.zi_manifest.specs.Manifest.{own_name, as_read}
use Rattle.zi_manifest.specs.Walk.{shown}
use Rattle.zi_store.specs.Rising.{is_below, rises}
use Rattle.zi_store.specs.Standing.{Stands}
use Rattle.zi_store.specs.Entries.{entries_of, is_shown}
use Rattle.zi_store.proofs.OrderLemmas.{in_permuted, distinct_permuted, rises_of_sorted, same_rising}

abbrev name_of : Entry → Name
name_of e = e.name

-- a filter
in_filter : {X : Type 0} (p : X → Bool) (xs : List X) (x : X) → IsIn x xs → p x ≡ true → IsIn x (filter p xs)
in_filter p [] x h e = absurd h
in_filter p (y ∷ ys) x (inl s) e = subst (λ b. IsIn x (cond b (y ∷ filter p ys) (filter p ys))) (sym (ap p (sym s) ∙ e)) (inl s)
in_filter p (y ∷ ys) x (inr h) e = by_test (p y) (in_filter p ys x h e)
  where
    by_test : (b : Bool) → IsIn x (filter p ys) → IsIn x (cond b (y ∷ filter p ys) (filter p ys))
    by_test true i = inr i
    by_test false i = i

from_filter : {X : Type 0} (p : X → Bool) (xs : List X) (x : X) → IsIn x (filter p xs) → IsIn x xs × (p x ≡ true)
from_filter p [] x h = absurd h
from_filter p (y ∷ ys) x h = by_test (p y) refl h (from_filter p ys x)
  where
    by_test : (b : Bool) → p y ≡ b → IsIn x (cond b (y ∷ filter p ys) (filter p ys)) → (IsIn x (filter p ys) → IsIn x ys × (p x ≡ true)) → IsIn x (y ∷ ys) × (p x ≡ true)
    by_test true e (inl s) rest = (inl s, ap p s ∙ e)
    by_test true e (inr i) rest = let r = rest i in (inr r.0, r.1)
    by_test false e i rest = let r = rest i in (inr r.0, r.1)

in_map_filter : (p : Entry → Bool) (es : List Entry) (n : Name) → IsIn n (map name_of (filter p es)) → IsIn n (map name_of es)
in_map_filter p [] n h = h
in_map_filter p (e ∷ es) n h = by_test (p e) h (in_map_filter p es n)
  where
    by_test : (b : Bool) → IsIn n (map name_of (cond b (e ∷ filter p es) (filter p es))) → (IsIn n (map name_of (filter p es)) → IsIn n (map name_of es)) → IsIn n (map name_of (e ∷ es))
    by_test true (inl s) rest = inl s
    by_test true (inr i) rest = inr (rest i)
    by_test false i rest = inr (rest i)

distinct_filter : (p : Entry → Bool) (es : List Entry) → AreDistinct (map name_of es) → AreDistinct (map name_of (filter p es))
distinct_filter p [] d = d
distinct_filter p (e ∷ es) d = by_test (p e) (distinct_filter p es d.1)
  where
    by_test : (b : Bool) → AreDistinct (map name_of (filter p es)) → AreDistinct (map name_of (cond b (e ∷ filter p es) (filter p es)))
    by_test true r = (λ i. d.0 (in_map_filter p es e.name i), r)
    by_test false r = r

below_filter : (p : Entry → Bool) (n : Name) (es : List Entry) → is_below n (map name_of es) ≡ true → is_below n (map name_of (filter p es)) ≡ true
below_filter p n [] h = h
below_filter p n (e ∷ es) h =
    let q = and_parts (is_lt (slice_cmp nat_cmp n e.name)) (is_below n (map name_of es)) h in
    by_test (p e) q.0 (below_filter p n es q.1)
  where
    by_test : (b : Bool) → is_lt (slice_cmp nat_cmp n e.name) ≡ true → is_below n (map name_of (filter p es)) ≡ true → is_below n (map name_of (cond b (e ∷ filter p es) (filter p es))) ≡ true
    by_test true first r = and_from (is_lt (slice_cmp nat_cmp n e.name)) (is_below n (map name_of (filter p es))) first r
    by_test false first r = r

rises_filter : (p : Entry → Bool) (es : List Entry) → rises (map name_of es) ≡ true → rises (map name_of (filter p es)) ≡ true
rises_filter p [] h = h
rises_filter p (e ∷ es) h =
    let q = and_parts (is_below e.name (map name_of es)) (rises (map name_of es)) h in
    by_test (p e) (below_filter p e.name es q.0) (rises_filter p es q.1)
  where
    by_test : (b : Bool) → is_below e.name (map name_of (filter p es)) ≡ true → rises (map name_of (filter p es)) ≡ true → rises (map name_of (cond b (e ∷ filter p es) (filter p es))) ≡ true
    by_test true low r = and_from (is_below e.name (map name_of (filter p es))) (rises (map name_of (filter p es))) low r
    by_test false low r = r

-- the entries of a tree rise
before_below : (n : Name) (d : Dir) → is_before n d ≡ true → is_below n (map name_of (entries_of d)) ≡ true
before_below n Nothing h = refl
before_below n (AFile m b e t rest) h = let q = and_parts (is_lt (slice_cmp nat_cmp n m)) (is_before n rest) h in and_from (is_lt (slice_cmp nat_cmp n m)) (is_below n (map name_of (entries_of rest))) q.0 (before_below n rest q.1)
before_below n (ALink m t rest) h = let q = and_parts (is_lt (slice_cmp nat_cmp n m)) (is_before n rest) h in and_from (is_lt (slice_cmp nat_cmp n m)) (is_below n (map name_of (entries_of rest))) q.0 (before_below n rest q.1)
before_below n (AFolder m i rest) h = let q = and_parts (is_lt (slice_cmp nat_cmp n m)) (is_before n rest) h in and_from (is_lt (slice_cmp nat_cmp n m)) (is_below n (map name_of (entries_of rest))) q.0 (before_below n rest q.1)

first_rises : (n : Name) (rest : Dir) → (is_name n && (is_before n rest && is_tree rest)) ≡ true → (is_tree rest ≡ true → rises (map name_of (entries_of rest)) ≡ true) → (is_below n (map name_of (entries_of rest)) && rises (map name_of (entries_of rest))) ≡ true
first_rises n rest h more =
    let q = and_parts (is_before n rest) (is_tree rest) (and_parts (is_name n) (is_before n rest && is_tree rest) h).1 in
    and_from (is_below n (map name_of (entries_of rest))) (rises (map name_of (entries_of rest))) (before_below n rest q.0) (more q.1)

entries_rise : (d : Dir) → is_tree d ≡ true → rises (map name_of (entries_of d)) ≡ true
entries_rise Nothing h = refl
entries_rise (AFile n b e t rest) h = first_rises n rest h (entries_rise rest)
entries_rise (ALink n t rest) h = first_rises n rest h (entries_rise rest)
entries_rise (AFolder n i rest) h = first_rises n rest (and_parts (is_tree i) (is_name n && (is_before n rest && is_tree rest)) h).1 (entries_rise rest)

-- the listing of a tree has its entries
entries_listed : (d : Dir) → listed (items d) ≡ entries_of d
entries_listed Nothing = refl
entries_listed (AFile n b e t rest) = ap (λ l. record { name = n; kind = kind.File e t (length b) } ∷ l) (entries_listed rest)
entries_listed (ALink n t rest) = ap (λ l. record { name = n; kind = kind.Link } ∷ l) (entries_listed rest)
entries_listed (AFolder n i rest) = ap (λ l. record { name = n; kind = kind.Folder } ∷ l) (entries_listed rest)

-- what is shown
pub all_shown : (es : List Entry) → es ≡ filter (λ e. is_shown false e) es
all_shown [] = refl
all_shown (e ∷ es) = ap (λ l. e ∷ l) (all_shown es)

own_left : (d : Dir) → entries_of (as_read d) ≡ filter (λ e. is_shown true e) (entries_of d)
own_left Nothing = refl
own_left (AFile n b e t rest) = by_test (bytes_eq n own_name) (own_left rest)
  where
    by_test : (o : Bool) → entries_of (as_read rest) ≡ filter (λ e. is_shown true e) (entries_of rest) → entries_of (if o then as_read rest else AFile n b e t (as_read rest)) ≡ cond (not (o && true)) (record { name = n; kind = kind.File e t (length b) } ∷ filter (λ e. is_shown true e) (entries_of rest)) (filter (λ e. is_shown true e) (entries_of rest))
    by_test true h = h
    by_test false h = ap (λ l. record { name = n; kind = kind.File e t (length b) } ∷ l) h
own_left (ALink n t rest) = by_test (bytes_eq n own_name) (own_left rest)
  where
    by_test : (o : Bool) → entries_of (as_read rest) ≡ filter (λ e. is_shown true e) (entries_of rest) → entries_of (ALink n t (as_read rest)) ≡ cond (not (o && false)) (record { name = n; kind = kind.Link } ∷ filter (λ e. is_shown true e) (entries_of rest)) (filter (λ e. is_shown true e) (entries_of rest))
    by_test true h = ap (λ l. record { name = n; kind = kind.Link } ∷ l) h
    by_test false h = ap (λ l. record { name = n; kind = kind.Link } ∷ l) h
own_left (AFolder n i rest) = by_test (bytes_eq n own_name) (own_left rest)
  where
    by_test : (o : Bool) → entries_of (as_read rest) ≡ filter (λ e. is_shown true e) (entries_of rest) → entries_of (AFolder n i (as_read rest)) ≡ cond (not (o && false)) (record { name = n; kind = kind.Folder } ∷ filter (λ e. is_shown true e) (entries_of rest)) (filter (λ e. is_shown true e) (entries_of rest))
    by_test true h = ap (λ l. record { name = n; kind = kind.Folder } ∷ l) h
    by_test false h = ap (λ l. record { name = n; kind = kind.Folder } ∷ l) h

entries_shown : (whole : Bool) (d : Dir) → entries_of (shown whole d) ≡ filter (λ e. is_shown whole e) (entries_of d)
entries_shown true d = own_left d
entries_shown false d = all_shown (entries_of d)

-- what a listing shows, put in order
pub in_order_is : (whole : Bool) (d : Dir) (es sorted : List Entry) → is_tree d ≡ true → ListsAll es d → IsPermutation (filter (λ e. is_shown whole e) es) sorted → IsSortedBy (λ a b. is_lt (slice_cmp nat_cmp a.name b.name)) sorted → sorted ≡ entries_of (shown whole d)
in_order_is whole d es sorted t lists moved up =
    same_rising name_of sorted (filter p (entries_of d)) (rises_of_sorted name_of sorted up apart) (rises_filter p (entries_of d) (entries_rise d t)) to from_
    ∙ sym (entries_shown whole d)
  where
    p : Entry → Bool
    p = λ e. is_shown whole e

    of_tree : ListsAll (entries_of d) d
    of_tree = subst (λ l. ListsAll l d) (entries_listed d) (lists_all d t)

    apart : AreDistinct (map name_of sorted)
    apart = distinct_permuted (map name_of (filter p es)) (map name_of sorted) (IsPermutation-map name_of (filter p es) sorted moved) (distinct_filter p es lists.0)

    to : (x : Entry) → IsIn x sorted → IsIn x (filter p (entries_of d))
    to x i =
        let r = from_filter p es x (in_permuted x sorted (filter p es) (IsPermutation-sym (filter p es) sorted moved) i) in
        in_filter p (entries_of d) x ((of_tree.1 x.name x.kind).1 ((lists.1 x.name x.kind).0 r.0)) r.1

    from_ : (x : Entry) → IsIn x (filter p (entries_of d)) → IsIn x sorted
    from_ x i =
        let r = from_filter p (entries_of d) x i in
        in_permuted x (filter p es) sorted moved (in_filter p es x ((lists.1 x.name x.kind).1 ((of_tree.1 x.name x.kind).0 r.0)) r.1)

-- the answer of a listing, where a folder stands
pub listed_there : {h : Type 0} {told : Option Told} {top : Name} {path : List Name} {d : Dir} (st : Stands h told top path d) (es : List Entry) → EntriesAnswer top path (Ok (Entries es)) st.state.shelf → ListsAll es d
listed_there {path = path} {d = d} st es (e, i, tops, there, lists) =
    let one : st.entry ≡ e = let t = st.is_top in cc (t, tops) in
    let here : folder_at path st.entry.tree ≡ Some i = subst (λ (y : Top Dir). folder_at path y.tree ≡ Some i) (sym one) there in
    let same : i ≡ d = let f = st.is_there in cc (f, here) in
    subst (λ x. ListsAll es x) same lists

pub entry_there : (top : Name) (path : List Name) (es : List Entry) (s : Shelved Dir) → EntriesAnswer top path (Ok (Entries es)) s → IsSome (s.tops top)
entry_there top path es s (e, d, tops, there, lists) = subst IsSome (sym tops) refl
