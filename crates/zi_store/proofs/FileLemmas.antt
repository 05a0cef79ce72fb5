-- The way through the folders of a top entry to a file.
use Rattle.std.proofs.Common.{◌≡◌, ℕ, ℤ, zero, suc, ◌+◌, ◌-◌, ◌<◌, ◌≤◌, Bool, true, false, List, [], ◌∷◌, ◌++◌, length, take, drop, get_or, Option, Some, None, Ok, MatchOption, is_some, IsSome, option_map, refl, sym, ◌∙◌, ap, subst, arith, add-one, drop-cons, ◌⊎◌, inl, inr, nat_eq, bytes_eq}
use Rattle.std.proofs.Math.Seq.{take-suc}
use Rattle.std.proofs.lemmas.List.{drop_all, length-drop}
use Rattle.std.proofs.lemmas.Bool.Decides.{nat_tests}
use Rattle.zi_tree.specs.Dir.{Dir}
use Rattle.std.specs.List.{list_all}
use Rattle.std.specs.Str.{is_utf8}
use Rattle.std.proofs.lemmas.Bool.{and_parts}
use Rattle.zi_tree.specs.Order.{is_name, is_plain}
use Rattle.zi_tree.specs.Paths.{items, node_in, found, is_last}
use Rattle.zi_tree.specs.declared.tree.TreeNode.{TreeNode}
use Rattle.zi_tree.specs.declared.tree.TreeNode.TheVariants.{File, Link, Folder}
use Rattle.zi_shelf.specs.Names.{Name, IsIn}
use Rattle.zi_shelf.specs.Shelved.{Shelved, Top}
use Rattle.zi_shelf.specs.Told.{Told}
use Rattle.zi_shelf.specs.Shelving.{Shelving, IsSure}
use Rattle.zi_shelf.proofs.TopsLemmas.{test_true, test_refl}
use Rattle.zi_shelf.specs.Reading.{Entries, EntriesAnswer, folder_at, kind_of, ListsAll}
use Rattle.zi_shelf.specs.declared.shelf.Listed.{Listed}
use Rattle.zi_shelf.specs.declared.shelf.Listed.TheVariants as listed
use Rattle.zi_shelf.specs.declared.shelf.Entry.{Entry}
use Rattle.zi_shelf.specs.declared.shelf.EntryKind.{EntryKind}
use Rattle.zi_shelf.specs.declared.shelf.EntryKind.TheVariants as kind
use Rattle.zi_shelf.specs.declared.shelf.ShelfFault.{ShelfFault}
use Rattle.zi_shelf.specs.declared.call.CallKind.{CallKind}
use Rattle.zi_store.specs.Keeping.{Keeps}
use Rattle.zi_store.specs.Standing.{Stands, StandsNode}
use Rattle.zi_store.specs.Entries.{Fits, ReadsBytes}
use Rattle.zi_store.specs.FileAnswers.{bytes_in, bytes_under, file_at, Leads}
use Rattle.zi_store.specs.declared.files.Way.{Way}
use Rattle.zi_store.specs.declared.files.Way.TheVariants as way
use Rattle.zi_store.proofs.KeepingLemmas.{stands_later}
use Rattle.zi_store.proofs.StandingLemmas.{found_more}
use Rattle.zi_text.proofs.ListLaws.{some_is, some_of}

-- the first folders of the path are there, and what is left of it leads on from the last of them
abbrev pub Reaches : Name → List Name → ℕ → Shelved Dir → Type 0
Reaches top path i s = (e : Top Dir) → s.tops top ≡ Some e → (d : Dir) × (folder_at (take i path) e.tree ≡ Some d) × (bytes_in (found path e.tree) ≡ bytes_in (found (drop i path) d))

pub reaches_start : (top : Name) (path : List Name) (s : Shelved Dir) → Reaches top path 0 s
reaches_start top path s = λ e is. (e.tree, refl, refl)

-- one name on, where a folder stands under it
through : (n : Name) (rest : List Name) (d inside : Dir) → node_in n (items d) ≡ Some (Folder inside) → bytes_in (found (n ∷ rest) d) ≡ bytes_in (found rest inside)
through n [] d inside e = rw e refl
through n (m ∷ ms) d inside e = rw e refl

at_file : (n : Name) (rest : List Name) (d : Dir) (bytes : List ℕ) (exec : Bool) (mtime : ℤ) → node_in n (items d) ≡ Some (File bytes exec mtime) → is_some (bytes_in (found (n ∷ rest) d)) ≡ is_last rest
at_file n [] d bytes exec mtime e = rw e refl
at_file n (m ∷ ms) d bytes exec mtime e = rw e refl

at_link : (n : Name) (rest : List Name) (d : Dir) (target : List ℕ) → node_in n (items d) ≡ Some (Link target) → bytes_in (found (n ∷ rest) d) ≡ None
at_link n [] d target e = rw e refl
at_link n (m ∷ ms) d target e = rw e refl

at_none : (n : Name) (rest : List Name) (d : Dir) → node_in n (items d) ≡ None → bytes_in (found (n ∷ rest) d) ≡ None
at_none n [] d e = rw e refl
at_none n (m ∷ ms) d e = rw e refl

pub take_next : (xs : List Name) (i : ℕ) (part : Name) → i < length xs → part ≡ get_or xs i part → take (i + 1) xs ≡ take i xs ++ part ∷ []
take_next xs i part h e = rw add-one (take-suc xs i part h ∙ ap (λ (p : Name). take i xs ++ p ∷ []) (sym e))

drop_next : (xs : List Name) (i : ℕ) (part : Name) → i < length xs → part ≡ get_or xs i part → drop i xs ≡ part ∷ drop (i + 1) xs
drop_next xs i part h e = rw add-one (drop-cons xs i part h ∙ ap (λ (p : Name). p ∷ drop (suc i) xs) (sym e))

-- the folder of the front of the path stands there
reached : {h : Type 0} {told : Option Told} (top : Name) (path : List Name) (i : ℕ) (s : Told) (r : Reaches top path i s.shelf) → h → told ≡ Some s → (e : Top Dir) (is : s.shelf.tops top ≡ Some e) → Stands h told top (take i path) (r e is).0
reached top path i s r keeps tells e is = record { keeps = keeps; state = s; tells = tells; entry = e; is_top = is; is_there = (r e is).1 }

at_path : (path : List Name) (m : Name) (t i : Dir) → found (path ++ m ∷ []) t ≡ Some (Folder i) → folder_at (path ++ m ∷ []) t ≡ Some i
at_path [] m t i h = cc h
at_path (n ∷ ns) m t i h = cc h

reaches_next : (top : Name) (path : List Name) (i : ℕ) (part : Name) (s : Shelved Dir) (r : Reaches top path i s) → i < length path → part ≡ get_or path i part → (e : Top Dir) (is : s.tops top ≡ Some e) (inside : Dir)
    → node_in part (items (r e is).0) ≡ Some (Folder inside) → (d : Dir) × (folder_at (take (i + 1) path) e.tree ≡ Some d) × (bytes_in (found path e.tree) ≡ bytes_in (found (drop (i + 1) path) d))
reaches_next top path i part s r before at e is inside there =
    let d = (r e is).0 in (
      inside,
      subst (λ (p : List Name). folder_at p e.tree ≡ Some inside) (sym (take_next path i part before at)) (at_path (take i path) part e.tree inside (found_more (take i path) part e.tree d (r e is).1 ∙ there)),
      (r e is).2 ∙ ap (λ (p : List Name). bytes_in (found p d)) (drop_next path i part before at) ∙ through part (drop (i + 1) path) d inside there,
    )

-- the folders are entered one after another
pub goes_on : {kinds : CallKind → Bool} {before after : Shelving} (top : Name) (path : List Name) (i : ℕ) (part : Name) (folder inner : List Name) (w : Way)
    → Keeps kinds before after → folder ≡ take i path → i < length path → part ≡ get_or path i part → w ≡ way.Into inner
    → ((d : Dir) → Stands after.honest after.told top folder d → Leads (node_in part (items d)) w)
    → ((s : Told) → before.honest → before.told ≡ Some s → Reaches top path i s.shelf) → (s : Told) → before.honest → before.told ≡ Some s → Reaches top path (i + 1) s.shelf
goes_on {before = was} {after = is_now} top path i part folder inner w keeps front before at into leads reaches s honest tells = λ e is.
    let r = reaches s honest tells in
    let st = reached {h = was.honest} {told = was.told} top path i s r honest tells e is in
    let led = leads (r e is).0 (subst (λ (p : List Name). Stands is_now.honest is_now.told top p (r e is).0) (sym front) (stands_later keeps st)) in
    let folder_led : Leads (node_in part (items (r e is).0)) (way.Into inner) = subst (λ (x : Way). Leads (node_in part (items (r e is).0)) x) into led in
    reaches_next top path i part s.shelf r before at e is folder_led.0 folder_led.1

-- how long what is left of the path is
left_long : (xs : List Name) (i : ℕ) (r : Bool) → i < length xs → r ≡ nat_eq (i + 1) (length xs) → r ≡ is_last (drop (i + 1) xs)
left_long xs i r h e = by_rest (drop (i + 1) xs) (length-drop (i + 1) xs)
  where
    by_rest : (rest : List Name) → length rest ≡ length xs - (i + 1) → r ≡ is_last rest
    by_rest [] long = let same : i + 1 ≡ length xs = omega (arith, h, long) in let test : nat_eq (i + 1) (length xs) ≡ true = grind (arith, nat_tests) in e ∙ test
    by_rest (m ∷ ms) long = let more : i + 1 < length xs = omega (arith, h, long) in let test : nat_eq (i + 1) (length xs) ≡ false = grind (arith, nat_tests) in e ∙ test

-- what a way that ends says of the file at the path
ends : (path : List Name) (i : ℕ) (part : Name) (d : Dir) (w : Way) (r : Bool) (t : Option (List ℕ)) → t ≡ bytes_in (found (drop i path) d) → i < length path → part ≡ get_or path i part → Leads (node_in part (items d)) w
    → ((w ≡ way.File) × (r ≡ nat_eq (i + 1) (length path))) ⊎ ((w ≡ way.Nowhere) × (r ≡ false)) → r ≡ is_some t
ends path i part d w r t is before at led end = by_end w end led (is ∙ ap (λ (p : List Name). bytes_in (found p d)) (drop_next path i part before at))
  where
    by_end : (w : Way) → ((w ≡ way.File) × (r ≡ nat_eq (i + 1) (length path))) ⊎ ((w ≡ way.Nowhere) × (r ≡ false)) → Leads (node_in part (items d)) w → t ≡ bytes_in (found (part ∷ drop (i + 1) path) d) → r ≡ is_some t
    by_end way.File (inl end) led is = left_long path i r before end.1 ∙ sym (ap is_some is ∙ at_file part (drop (i + 1) path) d led.0 led.1 led.2 led.3)
    by_end way.File (inr end) led is = absurd (cc end.0)
    by_end way.Nowhere (inl end) led is = absurd (cc end.0)
    by_end way.Nowhere (inr end) (inl none) is = end.1 ∙ sym (ap is_some (is ∙ at_none part (drop (i + 1) path) d none))
    by_end way.Nowhere (inr end) (inr link) is = end.1 ∙ sym (ap is_some (is ∙ at_link part (drop (i + 1) path) d link.0 link.1))
    by_end (way.Into p) (inl end) led is = absurd (cc end.0)
    by_end (way.Into p) (inr end) led is = absurd (cc end.0)

-- the way ends at a file, or before one
pub way_ends : {kinds : CallKind → Bool} {before after : Shelving} (top : Name) (path : List Name) (i : ℕ) (part : Name) (folder : List Name) (w : Way) (r : Bool)
    → Keeps kinds before after → folder ≡ take i path → i < length path → part ≡ get_or path i part
    → ((w ≡ way.File) × (r ≡ nat_eq (i + 1) (length path))) ⊎ ((w ≡ way.Nowhere) × (r ≡ false))
    → ((d : Dir) → Stands after.honest after.told top folder d → Leads (node_in part (items d)) w)
    → ((s : Told) → after.honest → after.told ≡ Some s → s.shelf.tops top ≡ None → w ≡ way.Nowhere)
    → ((s : Told) → before.honest → before.told ≡ Some s → Reaches top path i s.shelf) → (s : Told) → before.honest → before.told ≡ Some s → r ≡ is_some (file_at top path s.shelf)
way_ends {before = was} {after = is_now} top path i part folder w r keeps front before at end leads none reaches s honest tells = by_top (s.shelf.tops top) refl
  where
    by_top : (o : Option (Top Dir)) → s.shelf.tops top ≡ o → r ≡ is_some (file_at top path s.shelf)
    by_top None is =
        let m = keeps.holds s honest tells in
        let nowhere = none m.0 (keeps.stays.honest honest) m.1 (ap (λ (x : Shelved Dir). x.tops top) m.2 ∙ is) in
        by_end end nowhere ∙ sym (ap (λ (o : Option (Top Dir)). is_some (bytes_under path o)) is)
      where
        by_end : ((w ≡ way.File) × (r ≡ nat_eq (i + 1) (length path))) ⊎ ((w ≡ way.Nowhere) × (r ≡ false)) → w ≡ way.Nowhere → r ≡ false
        by_end (inl file) nowhere = absurd (cc (file.0, nowhere))
        by_end (inr off) nowhere = off.1
    by_top (Some e) is =
        let q = reaches s honest tells in
        let st = reached {h = was.honest} {told = was.told} top path i s q honest tells e is in
        let led = leads (q e is).0 (subst (λ (p : List Name). Stands is_now.honest is_now.told top p (q e is).0) (sym front) (stands_later keeps st)) in
        ends path i part (q e is).0 w r (bytes_in (found path e.tree)) (q e is).2 before at led end ∙ sym (ap (λ (o : Option (Top Dir)). is_some (bytes_under path o)) is)

-- no part of the path is left
pub none_left : (top : Name) (path : List Name) (i : ℕ) (s : Shelved Dir) → length path ≤ i → Reaches top path i s → false ≡ is_some (file_at top path s)
none_left top path i s h reaches = by_top (s.tops top) refl
  where
    by_top : (o : Option (Top Dir)) → s.tops top ≡ o → false ≡ is_some (file_at top path s)
    by_top None is = sym (ap (λ (o : Option (Top Dir)). is_some (bytes_under path o)) is)
    by_top (Some e) is = sym (ap (λ (o : Option (Top Dir)). is_some (bytes_under path o)) is ∙ ap is_some ((reaches e is).2 ∙ ap (λ (p : List Name). bytes_in (found p (reaches e is).0)) (drop_all i path h)))

-- the listing of the next folder fits
pub fits_next : {kinds : CallKind → Bool} {before after : Shelving} (top : Name) (path : List Name) (i : ℕ) (folder : List Name)
    → Keeps kinds before after → folder ≡ take i path → IsSure before → ((s : Told) → before.honest → before.told ≡ Some s → Reaches top path i s.shelf) → Fits after.told (Entries top folder)
fits_next {before = before} top path i folder keeps front sure reaches s tells e is =
    let had = some_of before.told sure.tells in
    let m = keeps.holds had.0 sure.keeps had.1 in
    let one : m.0 ≡ s = cc (m.1, tells) in
    let there : had.0.shelf.tops top ≡ Some e =
    ap (λ (x : Shelved Dir). x.tops top) (sym m.2) ∙ subst (λ (x : Told). x.shelf.tops top ≡ Some e) (sym one) is in
    subst (λ (p : List Name). IsSome (folder_at p e.tree)) (sym front) (some_is (folder_at (take i path) e.tree) (reaches had.0 sure.keeps had.1 e there).0 (reaches had.0 sure.keeps had.1 e there).1)

-- names that are compared
pub same_name : (a n m : Name) (r : Bool) → a ≡ n → r ≡ bytes_eq a m → r ≡ true → n ≡ m
same_name a n m r e is test = sym e ∙ test_true a m (sym is ∙ test)

pub other_name : (a n m : Name) (r : Bool) → a ≡ n → r ≡ bytes_eq a m → r ≡ false → n ≡ m → ⊥
other_name a n m r e is test same =
    let t : bytes_eq a m ≡ true = ap (λ (x : Name). bytes_eq x m) (e ∙ same) ∙ test_refl m in
    cc (t, is, test)

-- the entry isn't the one that is looked for
pub not_here : (es : List Entry) (i : ℕ) (e : Entry) (name : Name) (k : EntryKind) → i < length es → e ≡ get_or es i e → (e.name ≡ name → ⊥) → IsIn (record { name = name; kind = k }) (drop i es) → IsIn (record { name = name; kind = k }) (drop (i + 1) es)
not_here es i e name k before is other within = by_place (subst (λ (l : List Entry). IsIn (record { name = name; kind = k }) l) (entry_first es i e before is) within)
  where
    entry_first : (es : List Entry) (i : ℕ) (e : Entry) → i < length es → e ≡ get_or es i e → drop i es ≡ e ∷ drop (i + 1) es
    entry_first es i e h is = rw add-one (drop-cons es i e h ∙ ap (λ (x : Entry). x ∷ drop (suc i) es) (sym is))

    by_place : IsIn (record { name = name; kind = k }) (e ∷ drop (i + 1) es) → IsIn (record { name = name; kind = k }) (drop (i + 1) es)
    by_place (inl same) = absurd (other (ap (λ (x : Entry). x.name) (sym same)))
    by_place (inr later) = later

is_member : (es : List Entry) (i : ℕ) (e : Entry) → i < length es → e ≡ get_or es i e → IsIn e es
is_member [] i e h is = absurd (omega arith)
is_member (x ∷ es) zero e h is = inl is
is_member (x ∷ es) (suc i) e h is = inr (is_member es i e (omega arith) is)

-- the entry is the one that is looked for
pub is_here : (es : List Entry) (i : ℕ) (e : Entry) (name : Name) → i < length es → e ≡ get_or es i e → e.name ≡ name → IsIn (record { name = name; kind = e.kind }) es
is_here es i e name h is same = subst (λ (n : Name). IsIn (record { name = n; kind = e.kind }) es) same (is_member es i e h is)

pub is_nowhere : (es : List Entry) (i : ℕ) (x : Entry) → length es ≤ i → IsIn x (drop i es) → ⊥
is_nowhere es i x h within = subst (λ (l : List Entry). IsIn x l) (drop_all i es h) within

-- what a listing says of a name
pub kind_is : {h : Type 0} {told : Option Told} {top : Name} {path : List Name} {d : Dir} (name : Name) (l : Listed) (es seen : List Entry) (k : Option EntryKind) (st : Stands h told top path d) → l ≡ listed.Entries es → EntriesAnswer top path (Ok l) st.state.shelf
    → seen ≡ es → MatchOption k ((kind : EntryKind) → IsIn (record { name = name; kind = kind }) seen → ⊥) (λ kind. IsIn (record { name = name; kind = kind }) seen) → k ≡ option_map kind_of (node_in name (items d))
kind_is {top = top} {path = path} {d = d} name l es seen k st is answer same found_in = by_kind k (subst (λ (x : List Entry). MatchOption k ((kind : EntryKind) → IsIn (record { name = name; kind = kind }) x → ⊥) (λ kind. IsIn (record { name = name; kind = kind }) x)) same found_in) (option_map kind_of (node_in name (items d))) refl
  where
    all : (e : Top Dir) × (x : Dir) × (st.state.shelf.tops top ≡ Some e) × (folder_at path e.tree ≡ Some x) × ListsAll es x
    all = subst (λ (y : Listed). EntriesAnswer top path (Ok y) st.state.shelf) is answer

    one_top : all.0 ≡ st.entry
    one_top = let a = all.2 in let b = st.is_top in cc (a, b)

    one : all.1 ≡ d
    one = let a = subst (λ (e : Top Dir). folder_at path e.tree ≡ Some all.1) one_top all.3 in let b = st.is_there in cc (a, b)

    lists : ListsAll es d
    lists = subst (λ (x : Dir). ListsAll es x) one all.4

    by_kind : (k : Option EntryKind) → MatchOption k ((kind : EntryKind) → IsIn (record { name = name; kind = kind }) es → ⊥) (λ kind. IsIn (record { name = name; kind = kind }) es) → (o : Option EntryKind) → option_map kind_of (node_in name (items d)) ≡ o → k ≡ option_map kind_of (node_in name (items d))
    by_kind None none None e = sym e
    by_kind None none (Some kind) e = absurd (none kind ((lists.1 name kind).1 e))
    by_kind (Some kind) within o e = sym ((lists.1 name kind).0 within)

-- there is no listing without the top entry
pub absent_not : {h : Type 0} {told : Option Told} {top : Name} {path : List Name} {d : Dir} (l : Listed) (st : Stands h told top path d) → l ≡ listed.Absent → EntriesAnswer top path (Ok l) st.state.shelf → ⊥
absent_not {top = top} {path = path} l st is answer =
    let none : st.state.shelf.tops top ≡ None = subst (λ (y : Listed). EntriesAnswer top path (Ok y) st.state.shelf) is answer in
    let some = st.is_top in cc (none, some)

pub entries_not : (top : Name) (path : List Name) (l : Listed) (es : List Entry) (s : Shelved Dir) → l ≡ listed.Entries es → EntriesAnswer top path (Ok l) s → s.tops top ≡ None → ⊥
entries_not top path l es s is answer none =
    let all = subst (λ (y : Listed). EntriesAnswer top path (Ok y) s) is answer in
    let some = all.2 in cc (none, some)

-- where a name leads, by the kind of what stands under it
pub led_folder : (o : Option TreeNode) (k : Option EntryKind) (f : EntryKind) → k ≡ Some f → f ≡ kind.Folder → k ≡ option_map kind_of o → (inside : Dir) × (o ≡ Some (Folder inside))
led_folder o k f is folder e = by_node o (sym (is ∙ ap Some folder) ∙ e)
  where
    by_node : (o : Option TreeNode) → Some kind.Folder ≡ option_map kind_of o → (inside : Dir) × (o ≡ Some (Folder inside))
    by_node None e = absurd (cc e)
    by_node (Some (File b x t)) e = absurd (cc e)
    by_node (Some (Link t)) e = absurd (cc e)
    by_node (Some (Folder inside)) e = (inside, refl)

pub led_file : (o : Option TreeNode) (k : Option EntryKind) (f : EntryKind) (exec : Bool) (mtime : ℤ) (size : ℕ) → k ≡ Some f → f ≡ kind.File exec mtime size → k ≡ option_map kind_of o → (bytes : List ℕ) × (exec : Bool) × (mtime : ℤ) × (o ≡ Some (File bytes exec mtime))
led_file o k f exec mtime size is file e = by_node o (sym (is ∙ ap Some file) ∙ e)
  where
    by_node : (o : Option TreeNode) → Some (kind.File exec mtime size) ≡ option_map kind_of o → (bytes : List ℕ) × (exec : Bool) × (mtime : ℤ) × (o ≡ Some (File bytes exec mtime))
    by_node None e = absurd (cc e)
    by_node (Some (File b x t)) e = (b, x, t, refl)
    by_node (Some (Link t)) e = absurd (cc e)
    by_node (Some (Folder inside)) e = absurd (cc e)

pub part_at : (xs : List Name) (i : ℕ) (a b : Name) → a ≡ b → b ≡ get_or xs i b → a ≡ get_or xs i a
part_at xs i a b same is = subst (λ (n : Name). n ≡ get_or xs i n) (sym same) is

-- each part of a path is a name
pub plain_part : (path : List Name) (i : ℕ) (part : Name) → list_all is_name path ≡ true → i < length path → part ≡ get_or path i part → is_plain part ≡ true
plain_part [] i part all h e = absurd (omega arith)
plain_part (n ∷ ns) zero part all h e = let both = and_parts (is_name n) (list_all is_name ns) all in rw e (and_parts (is_utf8 n) (is_plain n) both.0).1
plain_part (n ∷ ns) (suc i) part all h e = plain_part ns i part (and_parts (is_name n) (list_all is_name ns) all).1 (omega arith) e

-- the file that was found stands there
pub file_stands : {kinds : CallKind → Bool} {before after : Shelving} (top : Name) (path : List Name) (there : Bool)
    → Keeps kinds before after → (s : Told) → before.honest → before.told ≡ Some s → there ≡ is_some (file_at top path s.shelf) → there ≡ true
    → (bytes : List ℕ) × (exec : Bool) × (mtime : ℤ) × StandsNode after.honest after.told top path (File bytes exec mtime) × (file_at top path s.shelf ≡ Some bytes)
file_stands {after = after} top path there keeps s honest tells is holds = by_top (s.shelf.tops top) refl
  where
    by_top : (o : Option (Top Dir)) → s.shelf.tops top ≡ o → (bytes : List ℕ) × (exec : Bool) × (mtime : ℤ) × StandsNode after.honest after.told top path (File bytes exec mtime) × (file_at top path s.shelf ≡ Some bytes)
    by_top None e = let no : false ≡ true = sym (ap (λ (o : Option (Top Dir)). is_some (bytes_under path o)) e) ∙ sym is ∙ holds in absurd (cc no)
    by_top (Some x) e = by_node (found path x.tree) refl
      where
        some_there : is_some (bytes_in (found path x.tree)) ≡ true
        some_there = sym (ap (λ (o : Option (Top Dir)). is_some (bytes_under path o)) e) ∙ sym is ∙ holds

        by_node : (o : Option TreeNode) → found path x.tree ≡ o → (bytes : List ℕ) × (exec : Bool) × (mtime : ℤ) × StandsNode after.honest after.told top path (File bytes exec mtime) × (file_at top path s.shelf ≡ Some bytes)
        by_node None n = let no : false ≡ true = sym (ap (λ (o : Option TreeNode). is_some (bytes_in o)) n) ∙ some_there in absurd (cc no)
        by_node (Some (Link t)) n = let no : false ≡ true = sym (ap (λ (o : Option TreeNode). is_some (bytes_in o)) n) ∙ some_there in absurd (cc no)
        by_node (Some (Folder i)) n = let no : false ≡ true = sym (ap (λ (o : Option TreeNode). is_some (bytes_in o)) n) ∙ some_there in absurd (cc no)
        by_node (Some (File bytes exec mtime)) n =
            let m = keeps.holds s honest tells in
            (bytes, exec, mtime, record { keeps = keeps.stays.honest honest; state = m.0; tells = m.1; entry = x; is_top = ap (λ (y : Shelved Dir). y.tops top) m.2 ∙ e; is_there = n }, ap (λ (o : Option (Top Dir)). bytes_under path o) e ∙ ap bytes_in n)

-- so its bytes are those that were read
pub file_read : {kinds : CallKind → Bool} {before after : Shelving} (top : Name) (path : List Name) (there : Bool) (limit : ℕ) (o : Option (List ℕ)) (read : List ℕ)
    → Keeps kinds before after → (s : Told) → before.honest → before.told ≡ Some s → there ≡ is_some (file_at top path s.shelf) → there ≡ true → o ≡ Some read
    → ((bytes : List ℕ) (exec : Bool) (mtime : ℤ) → StandsNode after.honest after.told top path (File bytes exec mtime) → ReadsBytes {E = ShelfFault} bytes limit (Ok o)) → (file_at top path s.shelf ≡ Some read) × (length read ≤ limit)
file_read top path there limit o read keeps s honest tells is holds some reads =
    let f = file_stands top path there keeps s honest tells is holds in
    let r = subst (λ (x : Option (List ℕ)). ReadsBytes {E = ShelfFault} f.0 limit (Ok x)) some (reads f.0 f.1 f.2 f.3) in
    (f.4 ∙ ap Some (sym r.0), subst (λ (l : List ℕ). length l ≤ limit) (sym r.0) r.1)

pub file_long : {kinds : CallKind → Bool} {before after : Shelving} (top : Name) (path : List Name) (there : Bool) (limit : ℕ) (o : Option (List ℕ))
    → Keeps kinds before after → (s : Told) → before.honest → before.told ≡ Some s → there ≡ is_some (file_at top path s.shelf) → there ≡ true → o ≡ None
    → ((bytes : List ℕ) (exec : Bool) (mtime : ℤ) → StandsNode after.honest after.told top path (File bytes exec mtime) → ReadsBytes {E = ShelfFault} bytes limit (Ok o)) → (bytes : List ℕ) × (file_at top path s.shelf ≡ Some bytes) × (limit < length bytes)
file_long top path there limit o keeps s honest tells is holds none reads =
    let f = file_stands top path there keeps s honest tells is holds in
    (f.0, f.4, subst (λ (x : Option (List ℕ)). ReadsBytes {E = ShelfFault} f.0 limit (Ok x)) none (reads f.0 f.1 f.2 f.3))

pub file_missing : (o : Option (List ℕ)) (there : Bool) → there ≡ is_some o → there ≡ false → o ≡ None
file_missing None there is off = refl
file_missing (Some x) there is off = absurd (cc (is, off))

-- a sure shelf reads a file that was found
pub file_sure : {kinds : CallKind → Bool} {before after : Shelving} (top : Name) (path : List Name) (there : Bool) (P : Type 0)
    → Keeps kinds before after → IsSure before → ((s : Told) → before.honest → before.told ≡ Some s → there ≡ is_some (file_at top path s.shelf)) → there ≡ true
    → ((bytes : List ℕ) (exec : Bool) (mtime : ℤ) → StandsNode after.honest after.told top path (File bytes exec mtime) → P) → P
file_sure {before = before} top path there P keeps sure is holds reads =
    let s = some_of before.told sure.tells in
    let f = file_stands top path there keeps s.0 sure.keeps s.1 (is s.0 sure.keeps s.1) holds in
    reads f.0 f.1 f.2 f.3
