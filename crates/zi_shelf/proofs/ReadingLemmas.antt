-- The entries of a folder, as a list of them.
use Rattle.std.proofs.Common.{nat_eq, ◌≡◌, ℕ, zero, suc, ◌+◌, ◌<◌, ◌≤◌, ◌↔◌, Bool, true, false, ◌&&◌, List, [], ◌∷◌, ◌++◌, map, take, drop, length, option_map, ℤ, Option, Some, None, Ok, ◌⊎◌, inl, inr, refl, sym, ◌∙◌, ap, subst, IsSome, bytes_eq, arith, append_assoc, add-one, get_or, if◌then◌else◌}
use Rattle.std.specs.List.{list_any}
use Rattle.std.proofs.lemmas.List.{length-take, length-drop, length-map}
use Rattle.std.proofs.Math.Seq.{take-suc}
use Rattle.zi_tree.specs.Dir.{Dir, Nothing, AFile, ALink, AFolder}
use Rattle.zi_tree.specs.declared.tree.TreeNode.{TreeNode}
use Rattle.zi_tree.specs.declared.tree.TreeNode.TheVariants.{File, Link, Folder}
use Rattle.zi_tree.specs.Views.{Item}
use Rattle.zi_tree.specs.Paths.{items, node_in, name_in, node_of, found}
use Rattle.zi_tree.specs.Order.{is_tree, is_before}
use Rattle.std.specs.Ordering.{is_lt}
use Rattle.std.proofs.lemmas.Bool.{and_parts}
use Rattle.zi_tree.proofs.Order.{cmp, lt_apart, parts}
use Rattle.zi_shelf.specs.Names.{Name, IsIn}
use Rattle.zi_shelf.specs.Shelved.{Top, Shelved, Reply, Did}
use Rattle.zi_shelf.specs.declared.shelf.Entry.{Entry}
use Rattle.zi_shelf.specs.declared.shelf.EntryKind.{EntryKind}
use Rattle.zi_shelf.specs.declared.call.ShelfCall.{ShelfCall}
use Rattle.zi_shelf.specs.declared.call.CallKind.TheVariants as kind
use Rattle.zi_shelf.specs.declared.shelf.Listed.TheVariants as listed_as
use Rattle.zi_shelf.specs.Told.{Told, FailsAsPlanned, recorded, spelled, plain_call}
use Rattle.zi_shelf.specs.Reading.{Question, Names, Entries, Read, Target, question_call, NamesAnswer, EntriesAnswer, ReadAnswer, WholeAnswer, TargetAnswer, AreDistinct, ListsAll, IsPiece, kind_of, folder_at}
use Rattle.zi_shelf.proofs.TopsLemmas.{test_true, test_false, test_refl, is_apart}

-- what a listing says of the entries of a folder
abbrev pub entry_of : Item → Entry
entry_of i = record { name = i.0; kind = kind_of i.1 }

abbrev pub listed : List Item → List Entry
listed is = map entry_of is

pub listed_more : (is : List Item) (i : ℕ) (es : List Entry) (n : Name) (x : TreeNode) (k : EntryKind) → es ≡ take i (listed is) → name_in is i ≡ Some n → node_of is i ≡ Some x → k ≡ kind_of x
    → es ++ record { name = n; kind = k } ∷ [] ≡ take (suc i) (listed is)
listed_more [] i es n x k e en ex ek = absurd (cc en)
listed_more (j ∷ is) zero es n x k e en ex ek =
    let name : j.0 ≡ n = cc en in
    let node : j.1 ≡ x = cc ex in
    let kind : k ≡ kind_of j.1 = ek ∙ ap kind_of (sym node) in
    rw (e, ← name, kind) refl
listed_more (j ∷ is) (suc i) es n x k e en ex ek =
    ap (λ (l : List Entry). l ++ record { name = n; kind = k } ∷ []) e ∙ ap (λ (l : List Entry). entry_of j ∷ l) (listed_more is i (take i (listed is)) n x k refl en ex ek)

pub listed_next : (is : List Item) (i : ℕ) (es es' : List Entry) (n m : Name) (x : TreeNode) (k : EntryKind) → es ≡ take i (listed is) → name_in is i ≡ Some n → m ≡ n → node_of is i ≡ Some x → k ≡ kind_of x
    → es' ≡ es ++ record { name = m; kind = k } ∷ [] → es' ≡ take (i + 1) (listed is)
listed_next is i es es' n m x k e en em ex ek made = rw add-one (made ∙ listed_more is i es m x k e (en ∙ ap Some (sym em)) ex ek)

take_past : (n : ℕ) (es : List Entry) → length es ≤ n → take n es ≡ es
take_past zero [] h = refl
take_past zero (e ∷ es) h = absurd (omega arith)
take_past (suc n) [] h = refl
take_past (suc n) (e ∷ es) h = ap (λ (l : List Entry). e ∷ l) (take_past n es (omega arith))

-- each name stands once among the entries
abbrev Apart : List Item → Type 0
Apart [] = Unit {0}
Apart (i ∷ is) = (node_in i.0 is ≡ None) × Apart is

absent_first : (n m : Name) (before : Bool) → (is_lt (cmp n m) && before) ≡ true → (bytes_eq m n ≡ false) × (before ≡ true)
absent_first n m before h = let p = and_parts (is_lt (cmp n m)) before h in (test_false m n (λ e. is_apart n m (lt_apart n m p.0) (sym e)), p.1)

absent : (n : Name) (d : Dir) → is_before n d ≡ true → node_in n (items d) ≡ None
absent n Nothing h = refl
absent n (AFile m b e t rest) h = let p = absent_first n m (is_before n rest) h in rw p.0 (absent n rest p.1)
absent n (ALink m t rest) h = let p = absent_first n m (is_before n rest) h in rw p.0 (absent n rest p.1)
absent n (AFolder m inside rest) h = let p = absent_first n m (is_before n rest) h in rw p.0 (absent n rest p.1)

tree_apart : (d : Dir) → is_tree d ≡ true → Apart (items d)
tree_apart Nothing h = tt
tree_apart (AFile n b e t rest) h = let p = parts n (File b e t) rest h in (absent n rest p.before, tree_apart rest p.rest_)
tree_apart (ALink n t rest) h = let p = parts n (Link t) rest h in (absent n rest p.before, tree_apart rest p.rest_)
tree_apart (AFolder n inside rest) h = let p = parts n (Folder inside) rest h in (absent n rest p.before, tree_apart rest p.rest_)

in_listed : (is : List Item) (n : Name) (k : EntryKind) → Apart is → IsIn (record { name = n; kind = k }) (listed is) → option_map kind_of (node_in n is) ≡ Some k
in_listed [] n k a h = absurd h
in_listed (j ∷ is) n k a (inl same) =
    let name : n ≡ j.0 = ap (λ (x : Entry). x.name) same in
    let kind : kind_of j.1 ≡ k = sym (ap (λ (x : Entry). x.kind) same) in
    rw (name, test_refl j.0) (ap Some kind)
in_listed (j ∷ is) n k a (inr h) =
    let rest = in_listed is n k a.1 h in
    let other : j.0 ≡ n → ⊥ = λ e. let none : node_in n is ≡ None = rw (← e) a.0 in let wrong : None ≡ Some k = sym (ap (option_map kind_of) none) ∙ rest in cc in
    rw (test_false j.0 n other) rest

listed_in : (is : List Item) (n : Name) (k : EntryKind) → option_map kind_of (node_in n is) ≡ Some k → IsIn (record { name = n; kind = k }) (listed is)
listed_in [] n k h = absurd (cc h)
listed_in (j ∷ is) n k h =
    elim (bytes_eq j.0 n) as (λ t. bytes_eq j.0 n ≡ t → option_map kind_of (if t then Some j.1 else node_in n is) ≡ Some k → IsIn (record { name = n; kind = k }) (listed (j ∷ is))) [
      | true ↦ λ test there. let name : n ≡ j.0 = sym (test_true j.0 n test) in let kind : k ≡ kind_of j.1 = cc there in inl (rw (name, kind) refl)
      | false ↦ λ test there. inr (listed_in is n k there)
    ] refl h

named_is_some : (is : List Item) (n : Name) → IsIn n (map (λ (e : Entry). e.name) (listed is)) → IsSome (node_in n is)
named_is_some [] n h = absurd h
named_is_some (j ∷ is) n (inl same) = rw (same, test_refl j.0) refl
named_is_some (j ∷ is) n (inr h) = elim (bytes_eq j.0 n) as (λ t. IsSome (if t then Some j.1 else node_in n is)) [ true ↦ refl | false ↦ named_is_some is n h ]

listed_distinct : (is : List Item) → Apart is → AreDistinct (map (λ (e : Entry). e.name) (listed is))
listed_distinct [] a = tt
listed_distinct (j ∷ is) a = (λ h. let some = named_is_some is j.0 h in cc (some, a.0), listed_distinct is a.1)

pub lists_all : (d : Dir) → is_tree d ≡ true → ListsAll (listed (items d)) d
lists_all d h = let a = tree_apart d h in (listed_distinct (items d) a, λ n k. (in_listed (items d) n k a, listed_in (items d) n k))

pub lists_whole : (d : Dir) (i : ℕ) (es : List Entry) → es ≡ take i (listed (items d)) → length (items d) ≤ i → is_tree d ≡ true → ListsAll es d
lists_whole d i es e past h =
    let whole : es ≡ listed (items d) = e ∙ take_past i (listed (items d)) (omega (arith, length-map (items d) entry_of)) in
    subst (λ (l : List Entry). ListsAll l d) (sym whole) (lists_all d h)
