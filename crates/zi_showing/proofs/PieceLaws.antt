-- Pieces of the walk: the map of what has still to be shown, and what is asked for, which is put first from the last on.
use Rattle.std.proofs.Common.{◌≡◌, ℕ, zero, suc, ◌+◌, ◌<◌, ◌≤◌, Bool, true, false, cond, List, [], ◌∷◌, ◌++◌, map, length, take, drop, get_or, drop-cons, add-one, refl, sym, ap, ◌∙◌, subst, append_assoc, arith, Option, Some, None, is_some, flat_map, filter, IfNone, Result, Ok, Err, OnOk}
use Rattle.std.specs.Prelude.{find, bytes_eq, option_copied, if◌then◌else◌, codes}
use Rattle.std.specs.Borrow.{Bor}
use Rattle.std.specs.Map.{lookup}
use Rattle.std.proofs.lemmas.List.{append-nil, drop_all, take_more, map-append}
use Rattle.zi_text.specs.declared.memory.Memory.{Memory}
use Rattle.zi_parts.specs.declared.types.Dep.{Dep}
use Rattle.zi_parts.specs.declared.types.Command.{Command}
use Rattle.zi_universe.specs.Candidates.{asks, asked, asked_by_runner, asked_by_command}
use Rattle.zi_sels.specs.declared.types.Selection.{Selection}
use Rattle.zi_showing.specs.Tree.{selected_for, Trees, none, tree}
use Rattle.zi_showing.specs.Text.{deeper, indent, trees_text}
use Rattle.zi_showing.specs.Steps.{Left, left_in, AreLeft, IsTaken, Todo, at_level, ArePassed, Passes, FindsNext, places_of, place_text}

-- a text as it is lent
abbrev lent : List ℕ → Bor (List ℕ)
lent text = record { ref_ptr = (0, 0); now = text }

copied_cond : (b : Bool) (o p : Option (Bor Selection)) → option_copied (cond b o p) ≡ cond b (option_copied o) (option_copied p)
copied_cond true o p = refl
copied_cond false o p = refl

-- what a query finds, and what each finds where one key has another value
abbrev pub Finds : Left → Bor (List ℕ) → Option (Bor Selection)
Finds left q = lookup (λ (k : Bor (List ℕ)). bytes_eq q.now k.now) left

abbrev pub Updates : List ℕ → Option (Bor Selection) → Left → Left → Type 0
Updates u value old new = (q : Bor (List ℕ)) → Finds new q ≡ cond (bytes_eq u q.now) value (Finds old q)

updated : (u : List ℕ) (value : Option (Bor Selection)) (old new : Left) → Updates u value old new → (q : List ℕ) → left_in new q ≡ cond (bytes_eq u q) (option_copied value) (left_in old q)
updated u value old new up q = ap option_copied (up (lent q)) ∙ copied_cond (bytes_eq u q) value (Finds old (lent q))

-- the selections from a place on
pub record AreFrom (items : List Selection) (n : ℕ) (left : Left) : Type 0 where
  pub in_range : n ≤ length items
  pub are : AreLeft (selected_for (drop n items)) left

pub from_none : (items : List Selection) (left : Left) → left ≡ [] → AreFrom items (length items) left
from_none items left e = record {
  in_range = omega arith;
  are = λ u. ap (λ l. left_in l u) e ∙ ap (λ xs. selected_for xs u) (sym (drop_all (length items) items (omega arith)));
}

-- from a place on: its element, and those behind it
from_one : {X : Type 0} (xs : List X) (n m : ℕ) (x : X) → m ≡ n + 1 → n < length xs → x ≡ get_or xs n x → drop n xs ≡ x ∷ drop m xs
from_one xs n m x next within at = drop-cons xs n x within ∙ ap (λ y. y ∷ drop (suc n) xs) (sym at) ∙ ap (λ k. x ∷ drop k xs) (sym (add-one n) ∙ sym next)

pub from_more : (items : List Selection) (n m : ℕ) (key : Bor (List ℕ)) (x : Bor Selection) (old new : Left) → m ≡ n + 1 → n < length items → x.now ≡ get_or items n x.now → key.now ≡ x.now.interface
    → Updates key.now (Some x) old new → AreFrom items m old → AreFrom items n new
from_more items n m key x old new next within at is up f = record {
  in_range = omega (arith, within);
  are = λ u.
      updated key.now (Some x) old new up u
      ∙ ap (λ t. cond (bytes_eq t u) (Some x.now) (left_in old u)) is
      ∙ ap (cond (bytes_eq x.now.interface u) (Some x.now)) (f.are u)
      ∙ ap (λ xs. selected_for xs u) (sym (from_one items n m x.now next within at));
}

pub from_all : (items : List Selection) (n : ℕ) (left : Left) → n ≡ 0 → AreFrom items n left → AreLeft (selected_for items) left
from_all items n left e f = λ u. f.are u ∙ ap (λ k. selected_for (drop k items) u) e

-- what is taken out
pub taken : (u : List ℕ) (r : Option (Bor Selection)) (old new : Left) → r ≡ Finds old (lent u) → Updates u None old new → IfNone r (new ≡ old)
    → length new + (if is_some r then 1 else 0) ≡ length old → IsTaken u (option_copied r) old new
taken u (Some x) old new e up same len = record {
  is = ap option_copied e;
  others = updated u None old new up;
  fewer = len;
  same = λ f. absurd (cc f);
}
taken u None old new e up same len = record {
  is = ap option_copied e;
  others = updated u None old new up;
  fewer = len;
  same = λ f. same;
}

-- What is asked for of a list, where it is put first from the last element on.
module _ {X : Type 0} (F : List X → List (List ℕ)) (one : X → List (List ℕ)) (next : (x : X) (xs : List X) → F (x ∷ xs) ≡ one x ++ F xs) where
  pub record AsksFrom (level : ℕ) (xs : List X) (n : ℕ) (old new : Todo) : Type 0 where
    pub in_range : n ≤ length xs
    pub are : new ≡ at_level level (F (drop n xs)) ++ old

  pub asks_none : (level : ℕ) (xs : List X) (old : Todo) → F [] ≡ [] → AsksFrom level xs (length xs) old old
  asks_none level xs old e = record {
    in_range = omega arith;
    are = sym (ap (λ ys. at_level level (F ys) ++ old) (drop_all (length xs) xs (omega arith)) ∙ ap (λ us. at_level level us ++ old) e);
  }

  pub asks_more : (level : ℕ) (xs : List X) (n m : ℕ) (x : X) (old mid new : Todo) → m ≡ n + 1 → n < length xs → x ≡ get_or xs n x → new ≡ at_level level (one x) ++ mid → AsksFrom level xs m old mid
      → AsksFrom level xs n old new
  asks_more level xs n m x old mid new e within at put a = record {
    in_range = omega (arith, within);
    are = put
        ∙ ap (λ v. at_level level (one x) ++ v) a.are
        ∙ sym (append_assoc (at_level level (one x)) (at_level level (F (drop m xs))) old)
        ∙ ap (λ v. v ++ old) (sym (map-append (λ u. (u, level)) (one x) (F (drop m xs))))
        ∙ ap (λ us. at_level level us ++ old) (sym (next x (drop m xs)))
        ∙ ap (λ ys. at_level level (F ys) ++ old) (sym (from_one xs n m x e within at));
  }

  pub asks_all : (level : ℕ) (xs : List X) (n : ℕ) (old new : Todo) → n ≡ 0 → AsksFrom level xs n old new → new ≡ at_level level (F xs) ++ old
  asks_all level xs n old new e a = a.are ∙ ap (λ k. at_level level (F (drop k xs)) ++ old) e

pub dep_next : (d : Dep) (ds : List Dep) → asked (d ∷ ds) ≡ asked (d ∷ []) ++ asked ds
dep_next d ds = by (asks d)
  where
    by : (b : Bool) → map (λ (d : Dep). d.interface) (cond b (d ∷ filter asks ds) (filter asks ds)) ≡ map (λ (d : Dep). d.interface) (cond b (d ∷ []) []) ++ asked ds
    by true = refl
    by false = refl

abbrev pub asked_alone : Dep → List (List ℕ)
asked_alone d = asked (d ∷ [])

abbrev pub asked_by_commands : List Command → List (List ℕ)
asked_by_commands ms = flat_map asked_by_command ms

pub command_next : (m : Command) (ms : List Command) → asked_by_commands (m ∷ ms) ≡ asked_by_command m ++ asked_by_commands ms
command_next m ms = refl

abbrev pub addresses : List Selection → List (List ℕ)
addresses items = map (λ (x : Selection). x.interface) items

abbrev pub address_alone : Selection → List (List ℕ)
address_alone x = x.interface ∷ []

pub item_next : (x : Selection) (xs : List Selection) → addresses (x ∷ xs) ≡ address_alone x ++ addresses xs
item_next x xs = refl

-- two parts are put, the last first
pub both_asked : (level : ℕ) (us vs : List (List ℕ)) (old mid new : Todo) → mid ≡ at_level level vs ++ old → new ≡ at_level level us ++ mid → new ≡ at_level level (us ++ vs) ++ old
both_asked level us vs old mid new e f =
    f ∙ ap (λ v. at_level level us ++ v) e ∙ sym (append_assoc (at_level level us) (at_level level vs) old) ∙ ap (λ v. v ++ old) (sym (map-append (λ u. (u, level)) us vs))

pub both_put : {X : Type 0} (level : ℕ) (us vs : List (List ℕ)) (old mid new : Todo) (r : Result X Memory) → mid ≡ at_level level vs ++ old → OnOk r (new ≡ at_level level us ++ mid)
    → OnOk r (new ≡ at_level level (us ++ vs) ++ old)
both_put level us vs old mid new (Ok x) e f = both_asked level us vs old mid new e f
both_put level us vs old mid new (Err m) e f = tt

command_asked : (m : Command) → asked_by_command m ≡ asked m.deps ++ asked_by_runner m.runner
unfolding asked_by_command
command_asked m = refl

pub command_put : {X : Type 0} (level : ℕ) (m : Command) (old mid new : Todo) (r : Result X Memory) → mid ≡ at_level level (asked_by_runner m.runner) ++ old
    → OnOk r (new ≡ at_level level (asked m.deps) ++ mid) → OnOk r (new ≡ at_level level (asked_by_command m) ++ old)
command_put {X = X} level m old mid new r e f =
    let P : List (List ℕ) → Type 0 = λ us. OnOk r (new ≡ at_level level us ++ old) in
    subst P (sym (command_asked m)) (both_put level (asked m.deps) (asked_by_runner m.runner) old mid new r e f)

-- what has no length is nothing
pub no_items : {X : Type 0} (xs : List X) → length xs ≡ 0 → xs ≡ []
no_items [] e = refl
no_items (x ∷ xs) e = cc

-- what is passed before the next
pub passes_none : (still : List ℕ → Option Selection) (old : Todo) → Passes still old old
passes_none still old = ([], refl, tt)

passed_last : (still : List ℕ → Option Selection) (front : Todo) (w : List ℕ × ℕ) → ArePassed still front → still w.0 ≡ None → ArePassed still (front ++ w ∷ [])
passed_last still [] w p e = (e, tt)
passed_last still (v ∷ front) w (f, p) e = (f, passed_last still front w p e)

pub passes_more : (still : List ℕ → Option Selection) (old mid new : Todo) (w : List ℕ × ℕ) → mid ≡ w ∷ new → still w.0 ≡ None → Passes still old mid → Passes still old new
passes_more still old mid new w e f (front, is, p) =
    (front ++ w ∷ [], is ∙ ap (λ v. front ++ v) e ∙ sym (append_assoc front (w ∷ []) new), passed_last still front w p f)

pub passes_to : (still : List ℕ → Option Selection) (old mid new : Todo) → mid ≡ new → Passes still old mid → Passes still old new
passes_to still old mid new e p = subst (λ t. Passes still old t) e p

flat_both : {A B : Type 0} (f : A → List B) (xs ys : List A) → flat_map f (xs ++ ys) ≡ flat_map f xs ++ flat_map f ys
flat_both f [] ys = refl
flat_both f (x ∷ xs) ys = ap (λ l. f x ++ l) (flat_both f xs ys) ∙ sym (append_assoc (f x) (flat_map f xs) (flat_map f ys))

-- the next is found, or the first is passed
pub next_found : (start left later : Left) (old mid new : Todo) (u : List ℕ) (level : ℕ) (x : Selection) → left ≡ start → mid ≡ (u, level) ∷ new → Passes (left_in start) old mid → IsTaken u (Some x) left later
    → FindsNext start old (Some (x, level)) later new
next_found start left later old mid new u level x same is passed t = (
  u,
  passes_to (left_in start) old mid ((u, level) ∷ new) is passed,
  sym (t.is ∙ ap (λ l. left_in l u) same),
  λ q. t.others q ∙ ap (λ l. cond (bytes_eq u q) None (left_in l q)) same,
  t.fewer ∙ ap length same,
)

pub next_passed : (start left later : Left) (old mid new : Todo) (u : List ℕ) (level : ℕ) → left ≡ start → mid ≡ (u, level) ∷ new → Passes (left_in start) old mid → IsTaken u None left later
    → (later ≡ start) × Passes (left_in start) old new
next_passed start left later old mid new u level same is passed t =
    (t.same refl ∙ same, passes_more (left_in start) old mid new (u, level) is (sym (t.is ∙ ap (λ l. left_in l u) same)) passed)

pub none_found : (start left : Left) (old mid new : Todo) → mid ≡ [] → new ≡ [] → Passes (left_in start) old mid → FindsNext start old None left new
none_found start left old mid new e f passed = (passes_to (left_in start) old mid [] e passed, f)

-- The first of a list that passes a test.
pub find_here : {X : Type 0} (p : X → Bool) (xs : List X) (i : ℕ) (d : X) → i < length xs → p (get_or xs i d) ≡ true → find p (drop i xs) ≡ find p xs → Some (get_or xs i d) ≡ find p xs
find_here p xs i d lt t h = sym (ap (find p) (drop-cons xs i d lt) ∙ ap (λ b. cond b (Some (get_or xs i d)) (find p (drop (suc i) xs))) t) ∙ h

pub find_on : {X : Type 0} (p : X → Bool) (xs : List X) (i : ℕ) (d : X) → i < length xs → p (get_or xs i d) ≡ false → find p (drop i xs) ≡ find p xs → find p (drop (i + 1) xs) ≡ find p xs
find_on p xs i d lt t h =
    ap (λ k. find p (drop k xs)) (add-one i) ∙ sym (ap (find p) (drop-cons xs i d lt) ∙ ap (λ b. cond b (Some (get_or xs i d)) (find p (drop (suc i) xs))) t) ∙ h

-- The lines of trees, place by place.
pub lines_in : (names : List (List ℕ)) (level : ℕ) (ts : Trees) → flat_map (place_text names) (places_of level ts) ≡ trees_text names level ts
lines_in names level none = refl
lines_in names level (tree x below next) =
    ap (λ v. place_text names (x, level) ++ v)
    (flat_both (place_text names) (places_of (deeper level) below) (places_of level next) ∙ ap (λ v. v ++ flat_map (place_text names) (places_of level next)) (lines_in names (deeper level) below)
    ∙ ap (λ v. trees_text names (deeper level) below ++ v) (lines_in names level next))

-- one level more of an indentation
pub indented : (old mid new : List ℕ) (level n m : ℕ) → m ≡ n + 1 → new ≡ mid ++ codes "  " → mid ++ indent m ≡ old ++ indent level → new ++ indent n ≡ old ++ indent level
indented old mid new level n m e f h =
    let z : m ≡ suc n = omega (arith, e) in
    ap (λ v. v ++ indent n) f ∙ append_assoc mid (codes "  ") (indent n) ∙ ap (λ k. mid ++ indent k) (sym z) ∙ h

pub none_indented : (old new : List ℕ) (level n : ℕ) → n ≡ 0 → new ++ indent n ≡ old ++ indent level → new ≡ old ++ indent level
none_indented old new level n e h = sym (append-nil new) ∙ ap (λ k. new ++ indent k) (sym e) ∙ h

-- one item more of a list
pub item_more : {A : Type 0} (f : A → List ℕ) (old mid new : List ℕ) (xs : List A) (i : ℕ) (d x : A) → i < length xs → x ≡ get_or xs i d → mid ≡ old ++ flat_map f (take i xs) → new ≡ mid ++ f x
    → new ≡ old ++ flat_map f (take (i + 1) xs)
item_more f old mid new xs i d x lt e m n =
    let t : flat_map f (take (i + 1) xs) ≡ flat_map f (take i xs) ++ f x =
    ap (flat_map f) (take_more xs i d lt) ∙ flat_both f (take i xs) (get_or xs i d ∷ []) ∙ ap (λ y. flat_map f (take i xs) ++ y) (append-nil (f (get_or xs i d)) ∙ ap f (sym e)) in
    n ∙ ap (λ y. y ++ f x) m ∙ append_assoc old (flat_map f (take i xs)) (f x) ∙ ap (λ y. old ++ y) (sym t)
