-- The folder of a selection, and the folders of all.
use Rattle.std.proofs.Common.{◌≡◌, ℕ, ◌-◌, ◌<◌, ◌≤◌, suc, zero, inl, inr, List, [], ◌∷◌, ◌++◌, ◌+◌, take, length, map, get_or, filter_map, find, is_some, Option, Some, None, option_map, refl, sym, ◌∙◌, ap, subst, arith, slice_get, Ok, Err, if◌then◌else◌, Bool, true, false, ◌||◌, cond, All}
use Rattle.std.specs.Prelude.{IfSome}
use Rattle.std.specs.List.{list_any, cons_option}
use Rattle.std.proofs.lemmas.List.{map-append, take_more}
use Rattle.zi_digest.specs.declared.DigestName.{DigestName}
use Rattle.zi_shelf.specs.Shelving.{Shelving}
use Rattle.zi_reading.specs.Words.{first}
use Rattle.zi_sels.specs.declared.types.Selection.{Selection}
use Rattle.zi_sels_laws.specs.Trees.{HasNoTree}
use Rattle.zi_outcome.specs.declared.outcome.Outcome.{Outcome}
use Rattle.zi_world.specs.Places.{root_at}
use Rattle.zi_fetching.specs.Known.{Names, is_known, is_there}
use Rattle.zi_launching.specs.Folders.{stored_of, tree_of, folder_by, folder, missing_by, missing, first_missing, LacksFolder, FindsFolder, FindsFolders}

-- The path of a store: of one behind the first, and where there is none of that number.
root_one : {X : Type 0} (seen : X → Shelving) (xs : List X) (i : ℕ) (x : X) → i < length xs → x ≡ get_or xs i x → (seen x).root ≡ root_at (map seen xs) i
root_one seen [] i x lt is = absurd (omega (arith, lt))
root_one seen (y ∷ xs) zero x lt is = ap (λ z. (seen z).root) is
root_one seen (y ∷ xs) (suc i) x lt is = root_one seen xs i x (omega (arith, lt)) is

pub root_behind : {X : Type 0} (seen : X → Shelving) (k : Shelving) (xs : List X) (i : ℕ) (x : X) → 0 < i → i - 1 < length xs → x ≡ get_or xs (i - 1) x → (seen x).root ≡ root_at (k ∷ map seen xs) i
root_behind seen k xs zero x pos lt is = absurd (omega (arith, pos))
root_behind seen k xs (suc i) x pos lt is = let e : suc i - 1 ≡ i = omega arith in root_one seen xs i x (subst (λ j. j < length xs) e lt) (is ∙ ap (λ j. get_or xs j x) e)

root_none : {X : Type 0} (seen : X → Shelving) (xs : List X) (i : ℕ) → length xs ≤ i → [] ≡ root_at (map seen xs) i
root_none seen [] i le = refl
root_none seen (y ∷ xs) zero le = absurd (omega (arith, le))
root_none seen (y ∷ xs) (suc i) le = root_none seen xs i (omega (arith, le))

pub root_beyond : {X : Type 0} (seen : X → Shelving) (k : Shelving) (xs : List X) (i : ℕ) → 0 < i → length xs ≤ i - 1 → [] ≡ root_at (k ∷ map seen xs) i
root_beyond seen k xs zero pos le = absurd (omega (arith, pos))
root_beyond seen k xs (suc i) pos le = let e : suc i - 1 ≡ i = omega arith in root_none seen xs i (subst (λ j. length xs ≤ j) e le)

module _ (path_of : DigestName → List ℕ) (stored : Names) (x : Selection) where
  pub local_found : (path copy : List ℕ) → x.local ≡ Some path → copy ≡ path → FindsFolder path_of stored x (Ok (Some copy))
  local_found path copy e f = (ap (missing_by (tree_of stored x) x.digests) e, ap (λ p. Some p) f ∙ sym (ap (folder_by path_of (tree_of stored x)) e))

  tree_is : (o : Option DigestName) → x.local ≡ None → find (is_known stored) x.digests ≡ o → tree_of stored x ≡ o
  tree_is o e f = ap (stored_of stored x.digests) e ∙ f

  missing_is : (o : Option DigestName) → x.local ≡ None → find (is_known stored) x.digests ≡ o → missing stored x ≡ (if is_some o then None else first x.digests)
  missing_is o e f = ap (missing_by (tree_of stored x) x.digests) e ∙ ap (λ t. if is_some t then None else first x.digests) (tree_is o e f)

  folder_is : (o : Option DigestName) → x.local ≡ None → find (is_known stored) x.digests ≡ o → folder path_of stored x ≡ option_map path_of o
  folder_is o e f = ap (folder_by path_of (tree_of stored x)) e ∙ ap (option_map path_of) (tree_is o e f)

  pub stored_found : (name : DigestName) (text : List ℕ) → x.local ≡ None → find (is_known stored) x.digests ≡ Some name → text ≡ path_of name → FindsFolder path_of stored x (Ok (Some text))
  stored_found name text e f g = (missing_is (Some name) e f, ap (λ p. Some p) g ∙ sym (folder_is (Some name) e f))

  pub none_found : (path : Option (List ℕ)) → x.local ≡ None → find (is_known stored) x.digests ≡ None → path ≡ None → first x.digests ≡ None → FindsFolder path_of stored x (Ok path)
  none_found path e f g h = (missing_is None e f ∙ h, g ∙ sym (folder_is None e f))

  pub missing_found : (outcome : Outcome) → x.local ≡ None → find (is_known stored) x.digests ≡ None → LacksFolder (first x.digests) outcome → FindsFolder path_of stored x (Err outcome)
  missing_found outcome e f h = subst (λ m. LacksFolder m outcome) (sym (missing_is None e f)) h

pub ruleset finding = (local_found, stored_found, none_found, missing_found)

-- All of them.

kept_more : {X Y : Type 0} (f : X → Option Y) (xs : List X) (x : X) → filter_map f xs ≡ [] → f x ≡ None → filter_map f (xs ++ x ∷ []) ≡ []
kept_more f [] x e g = ap (λ o. cons_option o []) g
kept_more {Y = Y} f (y ∷ ys) x e g = by (f y) e (λ h. kept_more f ys x h g)
  where
    by : (o : Option Y) → cons_option o (filter_map f ys) ≡ [] → (filter_map f ys ≡ [] → filter_map f (ys ++ x ∷ []) ≡ []) → cons_option o (filter_map f (ys ++ x ∷ [])) ≡ []
    by None e r = r e
    by (Some z) e r = absurd cc

first_at : {X Y : Type 0} (f : X → Option Y) (xs : List X) (i : ℕ) (x : X) (y : Y) → slice_get xs i ≡ Some x → filter_map f (take i xs) ≡ [] → f x ≡ Some y → first (filter_map f xs) ≡ Some y
first_at f [] i x y e n g = absurd cc
first_at f (z ∷ zs) zero x y e n g = let s : z ≡ x = cc in ap (λ o. first (cons_option o (filter_map f zs))) (ap f s ∙ g)
first_at {Y = Y} f (z ∷ zs) (suc i) x y e n g = by (f z) n (λ h. first_at f zs i x y e h g)
  where
    by : (o : Option Y) → cons_option o (filter_map f (take i zs)) ≡ [] → (filter_map f (take i zs) ≡ [] → first (filter_map f zs) ≡ Some y) → first (cons_option o (filter_map f zs)) ≡ Some y
    by None n r = r n
    by (Some w) n r = absurd cc

-- of the first of them none is missing a tree, and these are their folders
pub record AreFound (path_of : DigestName → List ℕ) (stored : Names) (items : List Selection) (folders : List (Option (List ℕ))) : Type 0 where
  pub none : filter_map (missing stored) items ≡ []
  pub are : folders ≡ map (folder path_of stored) items

pub found_none : (path_of : DigestName → List ℕ) (stored : Names) (folders : List (Option (List ℕ))) → folders ≡ [] → AreFound path_of stored [] folders
found_none path_of stored folders e = record { none = refl; are = e }

pub found_more : (path_of : DigestName → List ℕ) (stored : Names) (items : List Selection) (i : ℕ) (x : Selection) (path : Option (List ℕ)) (old new : List (Option (List ℕ))) → i < length items → x ≡ get_or items i x
    → AreFound path_of stored (take i items) old → FindsFolder path_of stored x (Ok path) → new ≡ old ++ path ∷ [] → AreFound path_of stored (take (i + 1) items) new
found_more path_of stored items i x path old new lt at a (free, is) e =
    let q = take_more items i x lt ∙ ap (λ y. take i items ++ y ∷ []) (sym at) in
    subst (λ xs. AreFound path_of stored xs new) (sym q) (record {
      none = kept_more (missing stored) (take i items) x a.none free;
      are = e ∙ ap (λ ps. ps ++ path ∷ []) a.are ∙ ap (λ p. map (folder path_of stored) (take i items) ++ p ∷ []) is ∙ sym (map-append (folder path_of stored) (take i items) (x ∷ []));
    })

pub found_all : (path_of : DigestName → List ℕ) (stored : Names) (items : List Selection) (folders : List (Option (List ℕ))) → AreFound path_of stored items folders → FindsFolders path_of stored items (Ok folders)
found_all path_of stored items folders a = (ap first a.none, a.are)

pub lacks_at : (path_of : DigestName → List ℕ) (stored : Names) (items : List Selection) (i : ℕ) (x : Selection) (outcome : Outcome) → slice_get items i ≡ Some x → filter_map (missing stored) (take i items) ≡ []
    → FindsFolder path_of stored x (Err outcome) → FindsFolders path_of stored items (Err outcome)
lacks_at path_of stored items i x outcome here none (inl (d, e, is)) = inl (d, first_at (missing stored) items i x d here none e, is)
lacks_at path_of stored items i x outcome here none (inr e) = inr e

-- What is there isn't missing.
find_any : (p : DigestName → Bool) (ds : List DigestName) → list_any p ds ≡ true → is_some (find p ds) ≡ true
find_any p [] h = absurd cc
find_any p (d ∷ ds) h = by (p d) h (find_any p ds)
  where
    by : (b : Bool) → (b || list_any p ds) ≡ true → (list_any p ds ≡ true → is_some (find p ds) ≡ true) → is_some (cond b (Some d) (find p ds)) ≡ true
    by true h go = refl
    by false h go = go h

there_found : (stored : Names) (x : Selection) → HasNoTree x → is_there stored x ≡ true → missing stored x ≡ None
there_found stored x bare h = by x.local x.«package» refl bare h
  where
    some_none : (o : Option DigestName) → is_some o ≡ true → (if is_some o then None else first x.digests) ≡ None
    some_none (Some d) h = refl
    some_none None h = absurd cc

    empty_none : (o : Option DigestName) → x.digests ≡ [] → (if is_some o then None else first x.digests) ≡ None
    empty_none (Some d) e = refl
    empty_none None e = ap first e

    by : (o p : Option (List ℕ)) → x.local ≡ o → IfSome p (λ name. (x.local ≡ None) × (x.digests ≡ [])) → (is_some o || is_some p || list_any (is_known stored) x.digests) ≡ true → missing stored x ≡ None
    by (Some path) p e b h = ap (missing_by (tree_of stored x) x.digests) e
    by None (Some name) e b h = ap (missing_by (tree_of stored x) x.digests) e ∙ empty_none (tree_of stored x) b.1
    by None None e b h =
        ap (missing_by (tree_of stored x) x.digests) e
        ∙ ap (λ t. if is_some t then None else first x.digests) (ap (stored_of stored x.digests) e)
        ∙ some_none (find (is_known stored) x.digests) (find_any (is_known stored) x.digests h)

none_kept : {X Y : Type 0} (f : X → Option Y) (xs : List X) → All (λ x. f x ≡ None) xs → filter_map f xs ≡ []
none_kept f [] a = refl
none_kept f (x ∷ xs) a = ap (λ o. cons_option o (filter_map f xs)) (a 0 x (omega arith)) ∙ none_kept f xs (λ k d lt. a (suc k) d (omega (arith, lt)))

pub none_missing : (stored : Names) (items : List Selection) → All HasNoTree items → All (λ x. is_there stored x ≡ true) items → first_missing stored items ≡ None
none_missing stored items bare a = ap first (none_kept (missing stored) items (λ k d lt. there_found stored (get_or items k d) (bare k d lt) (a k d lt)))
