-- What each call that reads a shelf in memory answers, as the shelf tells it.
use Rattle.std.proofs.Common.{nat_eq, ◌≡◌, ℕ, zero, suc, ◌+◌, ◌<◌, ◌≤◌, ◌↔◌, Bool, true, false, ◌&&◌, List, [], ◌∷◌, ◌++◌, map, take, drop, length, option_map, ℤ, Option, Some, None, Ok, ◌⊎◌, inl, inr, refl, sym, ◌∙◌, ap, subst, IsSome, bytes_eq, arith, append_assoc, add-one, get_or, if◌then◌else◌}
use Rattle.std.specs.List.{list_any}
use Rattle.std.proofs.lemmas.List.{length-take, length-drop, length-map}
use Rattle.std.proofs.Math.Seq.{take-suc}
use Rattle.zi_tree.specs.Dir.{Dir, Nothing, AFile, ALink, AFolder}
use Rattle.zi_tree.specs.declared.tree.TreeNode.{TreeNode}
use Rattle.zi_tree.specs.declared.tree.TreeNode.TheVariants.{File, Link, Folder}
use Rattle.zi_tree.specs.Views.{Item}
use Rattle.zi_tree.specs.Paths.{items, node_in, name_in, node_of, found}
use Rattle.zi_tree.specs.Order.{is_tree, is_before}
use Rattle.std.specs.Ordering.{is_lt}
use Rattle.std.proofs.lemmas.Bool.{and_parts}
use Rattle.zi_tree.proofs.Order.{cmp, lt_apart, parts}
use Rattle.zi_shelf.specs.Names.{Name, IsIn}
use Rattle.zi_shelf.specs.Shelved.{Top, Shelved, Reply, Did}
use Rattle.zi_shelf.specs.declared.shelf.Entry.{Entry}
use Rattle.zi_shelf.specs.declared.shelf.EntryKind.{EntryKind}
use Rattle.zi_memory.specs.declared.top_entry.TopEntry.{TopEntry}
use Rattle.zi_memory.specs.declared.top_entry.Later.{Later}
use Rattle.zi_shelf.specs.declared.call.ShelfCall.{ShelfCall}
use Rattle.zi_shelf.specs.declared.call.CallKind.TheVariants as kind
use Rattle.zi_shelf.specs.declared.shelf.Listed.TheVariants as listed_as
use Rattle.zi_shelf.specs.Told.{Told, FailsAsPlanned, recorded, spelled, plain_call}
use Rattle.zi_shelf.specs.Reading.{Question, Names, Entries, Read, Target, question_call, NamesAnswer, EntriesAnswer, ReadAnswer, WholeAnswer, TargetAnswer, AreDistinct, ListsAll, IsPiece, kind_of, folder_at}
use Rattle.zi_memory.specs.Memory.{top_of, tops_of, are_apart, told_of, IsAt}
use Rattle.zi_shelf.proofs.TopsLemmas.{test_true, test_false, test_refl, is_apart}
use Rattle.zi_memory.proofs.TopsLemmas.{apart_parts, found_at}
use Rattle.zi_memory.proofs.DoingLemmas.{shelved, calls_more, not_planned}

-- what an honest shelf goes on to tell after a call that reads
abbrev pub Answered : Option Told → Question → Reply → (Shelved Dir → Type 0) → Option Told → Type 0
Answered before q reply answer after =
    (s : Told) → Unit {0} → before ≡ Some s → (t : Told) × (after ≡ Some t) × (t.shelf ≡ s.shelf) × (t.calls ≡ recorded s.calls (question_call q) reply) × answer s.shelf

-- a call that reads leaves the shelf, and is recorded
pub reads : (es : List TopEntry) (ps : List Later) (cs cs' : List ShelfCall) (q : Question) (reply : Reply) (answer : Shelved Dir → Type 0) → answer (shelved es ps)
    → cs' ≡ recorded cs (question_call q) reply → Answered (Some (told_of es ps cs)) q reply answer (Some (told_of es ps cs'))
reads es ps cs cs' q reply answer holds calls = λ s honest e.
    let same : told_of es ps cs ≡ s = cc e in (
      told_of es ps cs',
      refl,
      ap (λ (x : Told). x.shelf) same,
      subst (λ (x : Told). cs' ≡ recorded x.calls (question_call q) reply) same calls,
      subst (λ (x : Told). answer x.shelf) same holds,
    )

-- a call that isn't among those that are to fail
pub unplanned : (plan plan' : List ℕ) (es : List TopEntry) (ps : List Later) (cs cs' : List ShelfCall) (test : Bool) (reply : Reply) → plan' ≡ plan → cs' ≡ cs → test ≡ list_any (λ k. nat_eq k (length cs' + 1)) plan' → test ≡ false
    → FailsAsPlanned plan (Some (told_of es ps cs)) reply
unplanned plan plan' es ps cs cs' test reply ep ec et off =
    not_planned plan es ps cs (length cs' + 1) reply (ap (λ (l : List ShelfCall). length l + 1) ec) (subst (λ (l : List ℕ). list_any (λ k. nat_eq k (length cs' + 1)) l ≡ false) ep (sym et ∙ off))

-- the entry that was found
pub top_at : (es : List TopEntry) (n : Name) (i : ℕ) (x : TopEntry) → IsAt n es i → x ≡ get_or es i x → tops_of es n ≡ Some (top_of x)
top_at es n i x at is = found_at es n i x at ∙ ap (λ (t : TopEntry). Some (top_of t)) (sym is)

pub wrong_kind : (P : Dir → Type 0) (es : List TopEntry) (n : Name) (i : ℕ) (x : TopEntry) → IsAt n es i → x ≡ get_or es i x → (P x.tree → ⊥) → (e : Top Dir) × (tops_of es n ≡ Some e) × P e.tree → ⊥
wrong_kind P es n i x at is wrong (e, there, kind) =
    let same : e ≡ top_of x = let t = top_at es n i x at is in cc (t, there) in
    wrong (subst (λ (t : Top Dir). P t.tree) same kind)

pub no_folder : (es : List TopEntry) (n : Name) (path : List Name) (i : ℕ) (x : TopEntry) → IsAt n es i → x ≡ get_or es i x → None ≡ folder_at path x.tree → ((e : Top Dir) → tops_of es n ≡ Some e → IsSome (folder_at path e.tree)) → ⊥
no_folder es n path i x at is none fits = let some = fits (top_of x) (top_at es n i x at is) in cc (some, none)

-- one part more
pub spelled_first : (xs : List (List ℕ)) (y : List ℕ) → xs ≡ [] → spelled (xs ++ y ∷ []) ≡ y
spelled_first xs y e = ap (λ (l : List (List ℕ)). spelled (l ++ y ∷ [])) e

spelled_after : (x : List ℕ) (xs : List (List ℕ)) (y : List ℕ) → spelled ((x ∷ xs) ++ y ∷ []) ≡ spelled (x ∷ xs) ++ 47 ∷ y
spelled_after x [] y = refl
spelled_after x (z ∷ xs) y = ap (λ (l : List ℕ). x ++ 47 ∷ l) (spelled_after z xs y) ∙ sym (append_assoc x (47 ∷ spelled (z ∷ xs)) (47 ∷ y))

pub spelled_more : (xs : List (List ℕ)) (y : List ℕ) → 0 < length xs → spelled (xs ++ y ∷ []) ≡ spelled xs ++ 47 ∷ y
spelled_more [] y h = absurd (omega arith)
spelled_more (x ∷ xs) y h = spelled_after x xs y

take_next : (xs : List (List ℕ)) (i : ℕ) (part : List ℕ) → i < length xs → part ≡ get_or xs i part → take (i + 1) xs ≡ take i xs ++ part ∷ []
take_next xs i part h e = rw add-one (take-suc xs i part h ∙ ap (λ (p : List ℕ). take i xs ++ p ∷ []) (sym e))

pub step_first : (xs : List (List ℕ)) (i : ℕ) (text after part : List ℕ) → i < length xs → text ≡ spelled (take i xs) → i ≤ 0 → part ≡ get_or xs i part → after ≡ text ++ part → after ≡ spelled (take (i + 1) xs)
step_first xs i text after part h e none is made =
    let zero_is : i ≡ 0 = omega arith in
    let empty : text ≡ [] = e ∙ ap (λ k. spelled (take k xs)) zero_is in
    made ∙ ap (λ (t : List ℕ). t ++ part) empty ∙ sym (ap spelled (take_next xs i part h is) ∙ spelled_first (take i xs) part (ap (λ k. take k xs) zero_is))

pub step_after : (xs : List (List ℕ)) (i : ℕ) (text slash after part : List ℕ) → i < length xs → text ≡ spelled (take i xs) → 0 < i → slash ≡ text ++ 47 ∷ [] → part ≡ get_or xs i part → after ≡ slash ++ part → after ≡ spelled (take (i + 1) xs)
step_after xs i text slash after part h e some cut is made =
    let long : 0 < length (take i xs) = rw length-take (omega arith) in
    made ∙ ap (λ (t : List ℕ). t ++ part) (cut ∙ ap (λ (t : List ℕ). t ++ 47 ∷ []) e) ∙ append_assoc (spelled (take i xs)) (47 ∷ []) part
    ∙ sym (ap spelled (take_next xs i part h is) ∙ spelled_more (take i xs) part long)

-- the names of the entries
abbrev pub names : List TopEntry → List Name
names es = map (λ (e : TopEntry). e.name) es

in_is_some : (es : List TopEntry) (n : Name) → IsIn n (names es) → IsSome (tops_of es n)
in_is_some [] n h = absurd h
in_is_some (e ∷ es) n (inl same) = rw (same, test_refl e.name) refl
in_is_some (e ∷ es) n (inr h) = elim (bytes_eq e.name n) as (λ t. IsSome (if t then Some (top_of e) else tops_of es n)) [ true ↦ refl | false ↦ in_is_some es n h ]

some_is_in : (es : List TopEntry) (n : Name) → IsSome (tops_of es n) → IsIn n (names es)
some_is_in [] n h = absurd (cc h)
some_is_in (e ∷ es) n h =
    elim (bytes_eq e.name n) as (λ t. bytes_eq e.name n ≡ t → IsSome (if t then Some (top_of e) else tops_of es n) → IsIn n (names (e ∷ es))) [
      | true ↦ λ test found. inl (sym (test_true e.name n test))
      | false ↦ λ test found. inr (some_is_in es n found)
    ] refl h

none_not_in : (es : List TopEntry) (n : Name) → tops_of es n ≡ None → IsIn n (names es) → ⊥
none_not_in es n none h = let some = in_is_some es n h in cc (some, none)

names_distinct : (es : List TopEntry) → are_apart es ≡ true → AreDistinct (names es)
names_distinct [] h = tt
names_distinct (e ∷ es) h = let p = apart_parts e es h in (none_not_in es e.name p.0, names_distinct es p.1)

pub names_answer : (es : List TopEntry) → are_apart es ≡ true → AreDistinct (names es) × ((n : Name) → IsIn n (names es) ↔ IsSome (tops_of es n))
names_answer es h = (names_distinct es h, λ n. (in_is_some es n, some_is_in es n))

no_bytes : (bytes : List ℕ) → length bytes ≡ 0 → bytes ≡ []
no_bytes [] h = refl
no_bytes (b ∷ bytes) h = absurd (omega arith)

ends : (bytes : List ℕ) (offset max : ℕ) → (max ≡ 0) ⊎ ((take max (drop offset bytes) ≡ []) ↔ (length bytes ≤ offset))
ends bytes offset zero = inl refl
ends bytes offset (suc m) = inr (
  λ e. omega (arith, ap length e, length-take (suc m) (drop offset bytes), length-drop offset bytes),
  λ h. no_bytes (take (suc m) (drop offset bytes)) (omega (arith, length-take (suc m) (drop offset bytes), length-drop offset bytes)),
)

-- every byte from the offset on, up to so many
pub piece_few : (bytes : List ℕ) (max : ℕ) → length (take max bytes) ≤ max
piece_few bytes max = omega (arith, length-take max bytes)

pub piece_is : (bytes : List ℕ) (offset max : ℕ) → IsPiece bytes offset max (take max (drop offset bytes))
piece_is bytes offset max = record { number = max; is = refl; few = piece_few (drop offset bytes) max; end = ends bytes offset max }

-- the answers of the calls that read
pub names_read : (es : List TopEntry) (ps : List Later) (cs cs' : List ShelfCall) (c : ShelfCall) (ns : List Name) → are_apart es ≡ true → ns ≡ names es → cs' ≡ cs ++ c ∷ [] → c ≡ question_call Names
    → Answered (Some (told_of es ps cs)) Names Did (NamesAnswer (Ok ns)) (Some (told_of es ps cs'))
names_read es ps cs cs' c ns apart is e f =
    reads es ps cs cs' Names Did (NamesAnswer (Ok ns)) (subst (λ (l : List Name). NamesAnswer (Ok l) (shelved es ps)) (sym is) (names_answer es apart)) (calls_more cs cs' c (question_call Names) e f)

pub entries_read : (es : List TopEntry) (ps : List Later) (cs cs' : List ShelfCall) (c : ShelfCall) (n place : Name) (path : List Name) (i : ℕ) (x : TopEntry) (d : Dir) (ls : List Entry) → IsAt n es i → x ≡ get_or es i x → Some d ≡ folder_at path x.tree → ListsAll ls d
    → cs' ≡ cs ++ c ∷ [] → c ≡ plain_call kind.Entries n place → place ≡ spelled path
    → Answered (Some (told_of es ps cs)) (Entries n path) Did (EntriesAnswer n path (Ok (listed_as.Entries ls))) (Some (told_of es ps cs'))
entries_read es ps cs cs' c n place path i x d ls at is there all e f g =
    reads es ps cs cs' (Entries n path) Did (EntriesAnswer n path (Ok (listed_as.Entries ls))) (top_of x, d, top_at es n i x at is, sym there, all) (calls_more cs cs' c (question_call (Entries n path)) e (f ∙ ap (λ p. plain_call kind.Entries n p) g))

pub file_read : (es : List TopEntry) (ps : List Later) (cs cs' : List ShelfCall) (c : ShelfCall) (n place : Name) (path : List Name) (offset max i : ℕ) (x : TopEntry) (bytes piece old new : List ℕ) → IsAt n es i → x ≡ get_or es i x
    → (exec : Bool) × (mtime : ℤ) × (found path x.tree ≡ Some (File bytes exec mtime)) → piece ≡ take max (drop offset bytes) → new ≡ old ++ piece
    → cs' ≡ cs ++ record c { offset = offset; max = max } ∷ [] → c ≡ plain_call kind.Read n place → place ≡ spelled path
    → Answered (Some (told_of es ps cs)) (Read n path offset max) Did (ReadAnswer {T = Unit {0}} (Read n path offset max) old (Ok tt) new) (Some (told_of es ps cs'))
file_read es ps cs cs' c n place path offset max i x bytes piece old new at is (exec, mtime, there) cut made e f g =
    let whole : IsPiece bytes offset max piece = subst (λ (l : List ℕ). IsPiece bytes offset max l) (sym cut) (piece_is bytes offset max) in
    let call : record c { offset = offset; max = max } ≡ question_call (Read n path offset max) = ap (λ (k : ShelfCall). let l : ShelfCall = record k { offset = offset; max = max } in l) (f ∙ ap (λ p. plain_call kind.Read n p) g) in
    reads es ps cs cs' (Read n path offset max) Did (ReadAnswer {T = Unit {0}} (Read n path offset max) old (Ok tt) new) (top_of x, bytes, exec, mtime, piece, top_at es n i x at is, there, made, whole)
    (calls_more cs cs' (record c { offset = offset; max = max }) (question_call (Read n path offset max)) e call)

pub link_read : (es : List TopEntry) (ps : List Later) (cs cs' : List ShelfCall) (c : ShelfCall) (n place : Name) (path : List Name) (i : ℕ) (x : TopEntry) (text text' : List ℕ) → IsAt n es i → x ≡ get_or es i x
    → found path x.tree ≡ Some (Link text) → text' ≡ text → cs' ≡ cs ++ c ∷ [] → c ≡ plain_call kind.Target n place → place ≡ spelled path
    → Answered (Some (told_of es ps cs)) (Target n path) Did (TargetAnswer n path (Ok text')) (Some (told_of es ps cs'))
link_read es ps cs cs' c n place path i x text text' at is there copied e f g =
    let there' : found path x.tree ≡ Some (Link text') = there ∙ ap (λ (t : List ℕ). Some (Link t)) (sym copied) in
    reads es ps cs cs' (Target n path) Did (TargetAnswer n path (Ok text')) (top_of x, top_at es n i x at is, there') (calls_more cs cs' c (question_call (Target n path)) e (f ∙ ap (λ p. plain_call kind.Target n p) g))

-- every byte that there is, up to so many
pub whole_read : (es : List TopEntry) (ps : List Later) (cs : List ShelfCall) (n : Name) (path : List Name) (offset max i : ℕ) (x : TopEntry) (bytes piece old new : List ℕ) → IsAt n es i → x ≡ get_or es i x
    → (exec : Bool) × (mtime : ℤ) × (found path x.tree ≡ Some (File bytes exec mtime)) → piece ≡ take max (drop offset bytes) → new ≡ old ++ piece
    → (s : Told) → Unit {0} → Some (told_of es ps cs) ≡ Some s → WholeAnswer {T = Unit {0}} (Read n path offset max) old (Ok tt) new s.shelf
whole_read es ps cs n path offset max i x bytes piece old new at is (exec, mtime, there) cut made s memory e =
    let same : told_of es ps cs ≡ s = cc e in
    subst (λ (t : Told). WholeAnswer {T = Unit {0}} (Read n path offset max) old (Ok tt) new t.shelf) same (top_of x, bytes, exec, mtime, top_at es n i x at is, there, made ∙ ap (λ (l : List ℕ). old ++ l) cut)
