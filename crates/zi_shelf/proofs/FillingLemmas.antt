-- What each call that fills does to a tree, by what stands at its path.
use Rattle.std.proofs.Common.{◌≡◌, ℕ, Bool, true, false, List, [], ◌∷◌, Option, Some, None, option_map, Result, Ok, Err, OnOk, OnErr, is_some, is_none, if◌then◌else◌, refl, sym, ◌∙◌, ap, ℤ, pos, ◌||◌}
use Rattle.zi_tree.specs.Dir.{Dir, Nothing}
use Rattle.zi_tree.specs.declared.tree.TreeNode.{TreeNode}
use Rattle.zi_tree.specs.declared.tree.TreeNode.TheVariants.{File, Link, Folder}
use Rattle.zi_tree.specs.Views.{dir}
use Rattle.zi_tree.specs.Paths.{items, node_in, replaced, found, inserted, changed, has_room}
use Rattle.zi_tree.proofs.ChangeLemmas.{changed_deeper, changed_twice, changed_same, room_is_free}
use Rattle.zi_shelf.specs.Filling.{Work, MakeFolder, Append, FinishFile, MakeLink, node_after, with_node, filled_at, filled}
use Rattle.zi_shelf.specs.Fillings.{is_file, grown_file, finished_file}

pub on_ok_then : {A B P Q : Type 0} (r : Result A B) → OnOk r P → (P → Q) → OnOk r Q
on_ok_then (Ok a) p f = f p
on_ok_then (Err b) p f = tt

pub on_err_then : {A B P Q : Type 0} (r : Result A B) → OnErr r P → (P → Q) → OnErr r Q
on_err_then (Ok a) p f = tt
on_err_then (Err b) p f = f p

deeper : (n m : List ℕ) (ms : List (List ℕ)) (work : Work) (d inside : Dir) → node_in n (items d) ≡ Some (Folder inside)
    → filled_at (n ∷ m ∷ ms) work d ≡ option_map (λ new. dir (replaced n (Folder new) (items d))) (filled_at (m ∷ ms) work inside)
deeper n m ms work d inside e = rw e refl

-- at an entry that is there
filled_there : (path : List (List ℕ)) (work : Work) (d : Dir) (x z : TreeNode) → found path d ≡ Some x → node_after work (Some x) ≡ Some z → filled_at path work d ≡ Some (changed path z d)
filled_there [] work d x z h k = absurd (cc h)
filled_there (n ∷ []) work d x z h k = rw (h, k) refl
filled_there (n ∷ m ∷ ms) work d x z h k = by_node (node_in n (items d)) refl h (λ inside i. filled_there (m ∷ ms) work inside x z i k)
  where
    by_node : (o : Option TreeNode) → node_in n (items d) ≡ o → found (n ∷ m ∷ ms) d ≡ Some x → ((inside : Dir) → found (m ∷ ms) inside ≡ Some x → filled_at (m ∷ ms) work inside ≡ Some (changed (m ∷ ms) z inside))
        → filled_at (n ∷ m ∷ ms) work d ≡ Some (changed (n ∷ m ∷ ms) z d)
    by_node None e h ih = let no : None ≡ Some x = rw e at h in absurd (cc no)
    by_node (Some (File b t k)) e h ih = let no : None ≡ Some x = rw e at h in absurd (cc no)
    by_node (Some (Link t)) e h ih = let no : None ≡ Some x = rw e at h in absurd (cc no)
    by_node (Some (Folder i)) e h ih =
        deeper n m ms work d i e ∙ ap (option_map (λ new. dir (replaced n (Folder new) (items d)))) (ih i (rw e at h)) ∙ ap Some (sym (changed_deeper z n m ms d i e))

inserted_deeper : (n m : List ℕ) (ms : List (List ℕ)) (z : TreeNode) (d inside : Dir) → node_in n (items d) ≡ Some (Folder inside)
    → inserted (n ∷ m ∷ ms) z d ≡ option_map (λ new. dir (replaced n (Folder new) (items d))) (inserted (m ∷ ms) z inside)
inserted_deeper n m ms z d inside e = rw e refl

-- a new entry where there is room
filled_room : (path : List (List ℕ)) (work : Work) (d : Dir) (z : TreeNode) → has_room path d ≡ true → node_after work None ≡ Some z → filled_at path work d ≡ inserted path z d
filled_room [] work d z h k = absurd (cc h)
filled_room (n ∷ []) work d z h k = let e = none_is (node_in n (items d)) h in rw (e, k) refl
  where
    none_is : (o : Option TreeNode) → is_none o ≡ true → o ≡ None
    none_is None h = refl
    none_is (Some x) h = absurd (cc h)
filled_room (n ∷ m ∷ ms) work d z h k = by_node (node_in n (items d)) refl h (λ inside i. filled_room (m ∷ ms) work inside z i k)
  where
    by_node : (o : Option TreeNode) → node_in n (items d) ≡ o → has_room (n ∷ m ∷ ms) d ≡ true → ((inside : Dir) → has_room (m ∷ ms) inside ≡ true → filled_at (m ∷ ms) work inside ≡ inserted (m ∷ ms) z inside)
        → filled_at (n ∷ m ∷ ms) work d ≡ inserted (n ∷ m ∷ ms) z d
    by_node None e h ih = let no : false ≡ true = rw e at h in absurd (cc no)
    by_node (Some (File b t k)) e h ih = let no : false ≡ true = rw e at h in absurd (cc no)
    by_node (Some (Link t)) e h ih = let no : false ≡ true = rw e at h in absurd (cc no)
    by_node (Some (Folder i)) e h ih =
        deeper n m ms work d i e ∙ ap (option_map (λ new. dir (replaced n (Folder new) (items d)))) (ih i (rw e at h)) ∙ sym (inserted_deeper n m ms z d i e)

abbrev fits_there : Work → Option TreeNode → Bool
fits_there work None = false
fits_there work (Some x) = is_some (node_after work (Some x))

-- which calls fit
fits_is : (path : List (List ℕ)) (work : Work) (d : Dir) → is_some (filled_at path work d) ≡ (if has_room path d then is_some (node_after work None) else fits_there work (found path d))
fits_is [] work d = refl
fits_is (n ∷ []) work d = by_node (node_in n (items d)) refl
  where
    put_new : (o : Option TreeNode) → is_some (with_node n None o (items d)) ≡ is_some o
    put_new None = refl
    put_new (Some z) = refl

    put_over : (x : TreeNode) (o : Option TreeNode) → is_some (with_node n (Some x) o (items d)) ≡ is_some o
    put_over x None = refl
    put_over x (Some z) = refl

    by_node : (o : Option TreeNode) → node_in n (items d) ≡ o → is_some (filled_at (n ∷ []) work d) ≡ (if has_room (n ∷ []) d then is_some (node_after work None) else fits_there work (found (n ∷ []) d))
    by_node None e = rw e (put_new (node_after work None))
    by_node (Some x) e = rw e (put_over x (node_after work (Some x)))
fits_is (n ∷ m ∷ ms) work d = by_node (node_in n (items d)) refl (λ inside. fits_is (m ∷ ms) work inside)
  where
    put_in : (f : Dir → Dir) (o : Option Dir) → is_some (option_map f o) ≡ is_some o
    put_in f None = refl
    put_in f (Some z) = refl

    by_node : (o : Option TreeNode) → node_in n (items d) ≡ o
        → ((inside : Dir) → is_some (filled_at (m ∷ ms) work inside) ≡ (if has_room (m ∷ ms) inside then is_some (node_after work None) else fits_there work (found (m ∷ ms) inside)))
        → is_some (filled_at (n ∷ m ∷ ms) work d) ≡ (if has_room (n ∷ m ∷ ms) d then is_some (node_after work None) else fits_there work (found (n ∷ m ∷ ms) d))
    by_node None e ih = rw e refl
    by_node (Some (File b t k)) e ih = rw e refl
    by_node (Some (Link t)) e ih = rw e refl
    by_node (Some (Folder i)) e ih = rw e (put_in (λ new. dir (replaced n (Folder new) (items d))) (filled_at (m ∷ ms) work i) ∙ ih i)

-- a folder and a link fit exactly where there is room
pub folder_fits : (path : List (List ℕ)) (d : Dir) → is_some (filled (MakeFolder path) d) ≡ has_room path d
unfolding filled
folder_fits path d = fits_is path (MakeFolder path) d ∙ by_room (has_room path d) (found path d)
  where
    by_room : (b : Bool) (o : Option TreeNode) → (if b then true else fits_there (MakeFolder path) o) ≡ b
    by_room true o = refl
    by_room false None = refl
    by_room false (Some (File b t k)) = refl
    by_room false (Some (Link t)) = refl
    by_room false (Some (Folder i)) = refl

pub link_fits : (path : List (List ℕ)) (target : List ℕ) (d : Dir) → is_some (filled (MakeLink path target) d) ≡ has_room path d
unfolding filled
link_fits path target d = fits_is path (MakeLink path target) d ∙ by_room (has_room path d) (found path d)
  where
    by_room : (b : Bool) (o : Option TreeNode) → (if b then true else fits_there (MakeLink path target) o) ≡ b
    by_room true o = refl
    by_room false None = refl
    by_room false (Some (File b t k)) = refl
    by_room false (Some (Link t)) = refl
    by_room false (Some (Folder i)) = refl

-- bytes fit where there is room, and at a file
pub append_fits : (path : List (List ℕ)) (bytes : List ℕ) (d : Dir) → is_some (filled (Append path bytes) d) ≡ (has_room path d || is_file (found path d))
unfolding filled
append_fits path bytes d = fits_is path (Append path bytes) d ∙ by_room (has_room path d) (found path d)
  where
    by_room : (b : Bool) (o : Option TreeNode) → (if b then true else fits_there (Append path bytes) o) ≡ (b || is_file o)
    by_room true o = refl
    by_room false None = refl
    by_room false (Some (File b t k)) = refl
    by_room false (Some (Link t)) = refl
    by_room false (Some (Folder i)) = refl

-- a file is finished where one is
pub finish_fits : (path : List (List ℕ)) (e : Bool) (t : ℤ) (d : Dir) → is_some (filled (FinishFile path e t) d) ≡ is_file (found path d)
unfolding filled
finish_fits path e t d = fits_is path (FinishFile path e t) d ∙ by_room (has_room path d) (found path d) (λ h. room_is_free path d h)
  where
    by_room : (b : Bool) (o : Option TreeNode) → (b ≡ true → o ≡ None) → (if b then false else fits_there (FinishFile path e t) o) ≡ is_file o
    by_room true o h = sym (ap is_file (h refl))
    by_room false None h = refl
    by_room false (Some (File b u k)) h = refl
    by_room false (Some (Link u)) h = refl
    by_room false (Some (Folder i)) h = refl

-- what is made where such a call fits
pub folder_made : (path : List (List ℕ)) (d : Dir) → is_some (filled (MakeFolder path) d) ≡ true → filled (MakeFolder path) d ≡ inserted path (Folder Nothing) d
unfolding filled
folder_made path d h = filled_room path (MakeFolder path) d (Folder Nothing) (sym (folder_fits path d) ∙ h) refl

pub link_made : (path : List (List ℕ)) (target : List ℕ) (d : Dir) → is_some (filled (MakeLink path target) d) ≡ true → filled (MakeLink path target) d ≡ inserted path (Link target) d
unfolding filled
link_made path target d h = filled_room path (MakeLink path target) d (Link target) (sym (link_fits path target d) ∙ h) refl

pub file_made : (path : List (List ℕ)) (bytes : List ℕ) (d : Dir) → found path d ≡ None → is_some (filled (Append path bytes) d) ≡ true → filled (Append path bytes) d ≡ inserted path (File bytes false (pos 0)) d
unfolding filled
file_made path bytes d none h = filled_room path (Append path bytes) d (File bytes false (pos 0)) (room (has_room path d) (found path d) none (sym (append_fits path bytes d) ∙ h)) refl
  where
    room : (b : Bool) (o : Option TreeNode) → o ≡ None → (b || is_file o) ≡ true → b ≡ true
    room true o e k = refl
    room false o e k = let no : false ≡ true = sym (ap is_file e) ∙ k in absurd (cc no)

file_is : (b : Bool) (x : TreeNode) → (b ≡ true → Some x ≡ None) → (b || is_file (Some x)) ≡ true → is_file (Some x) ≡ true
file_is true x none h = let no : Some x ≡ None = none refl in absurd (cc no)
file_is false x none h = h

-- the file with more bytes
pub file_grown : (path : List (List ℕ)) (bytes : List ℕ) (d : Dir) (x : TreeNode) → found path d ≡ Some x → is_some (filled (Append path bytes) d) ≡ true → filled (Append path bytes) d ≡ Some (changed path (grown_file bytes x) d)
unfolding filled
file_grown path bytes d x there h = filled_there path (Append path bytes) d x (grown_file bytes x) there (by_node x (file_is (has_room path d) x (λ k. sym there ∙ room_is_free path d k) (ap (λ o. has_room path d || is_file o) (sym there) ∙ sym (append_fits path bytes d) ∙ h)))
  where
    by_node : (y : TreeNode) → is_file (Some y) ≡ true → node_after (Append path bytes) (Some y) ≡ Some (grown_file bytes y)
    by_node (File b t k) e = refl
    by_node (Link t) e = absurd (cc e)
    by_node (Folder i) e = absurd (cc e)

-- the file with another bit and time
pub file_finished : (path : List (List ℕ)) (e : Bool) (t : ℤ) (d : Dir) (x : TreeNode) → found path d ≡ Some x → is_some (filled (FinishFile path e t) d) ≡ true → filled (FinishFile path e t) d ≡ Some (changed path (finished_file e t x) d)
unfolding filled
file_finished path e t d x there h = filled_there path (FinishFile path e t) d x (finished_file e t x) there (by_node x (ap is_file (sym there) ∙ sym (finish_fits path e t d) ∙ h))
  where
    by_node : (y : TreeNode) → is_file (Some y) ≡ true → node_after (FinishFile path e t) (Some y) ≡ Some (finished_file e t y)
    by_node (File b u k) f = refl
    by_node (Link u) f = absurd (cc f)
    by_node (Folder i) f = absurd (cc f)

pub no_file : (path : List (List ℕ)) (e : Bool) (t : ℤ) (d : Dir) → found path d ≡ None → is_some (filled (FinishFile path e t) d) ≡ true → ⊥
no_file path e t d none h = let no : false ≡ true = sym (ap is_file none) ∙ sym (finish_fits path e t d) ∙ h in absurd (cc no)

-- taken out, changed and put back
pub put_back : (path : List (List ℕ)) (d d1 d2 : Dir) (e x y : TreeNode) → d1 ≡ changed path e d → d2 ≡ changed path x d1 → x ≡ y → d2 ≡ changed path y d
put_back path d d1 d2 e x y e1 e2 ex = e2 ∙ ap (λ z. changed path z d1) ex ∙ ap (changed path y) e1 ∙ changed_twice path e y d

pub put_same : (path : List (List ℕ)) (d d1 d2 : Dir) (e x y : TreeNode) → found path d ≡ Some y → d1 ≡ changed path e d → d2 ≡ changed path x d1 → x ≡ y → d2 ≡ d
put_same path d d1 d2 e x y there e1 e2 ex = put_back path d d1 d2 e x y e1 e2 ex ∙ changed_same path y d there

-- the first test of two, and the second
pub first_holds : (r b c : Bool) → r ≡ b → r ≡ true → r ≡ (b || c)
first_holds r true c e h = h
first_holds r false c e h = let no : false ≡ true = sym e ∙ h in absurd (cc no)

pub second_holds : (r b c q : Bool) → r ≡ b → r ≡ false → q ≡ c → q ≡ (b || c)
second_holds r true c q e h k = let no : true ≡ false = sym e ∙ h in absurd (cc no)
second_holds r false c q e h k = k
