-- Tables of names, made one name after another.
use Rattle.std.proofs.Common.{◌≡◌, ℕ, zero, suc, ◌+◌, ◌<◌, Bool, true, false, cond, List, [], ◌∷◌, ◌++◌, length, take, get_or, refl, sym, ap, ◌∙◌, subst, arith, Option, Some, None}
use Rattle.std.specs.Prelude.{slice_get, bytes_eq, is_some, option_and_then}
use Rattle.std.specs.List.{position_from}
use Rattle.std.specs.Map.{lookup}
use Rattle.std.specs.Cmp.Lexicographic.{bytes_decides}
use Rattle.std.proofs.lemmas.Bool.{false≢true}
use Rattle.std.proofs.lemmas.Option.{same_Some}
use Rattle.indexmap.specs.IndexMap.{IndexMap, insert_entry}
use Rattle.indexmap.proofs.CallerLemmas.{insert_entry-new}
use Rattle.zi_parts.specs.declared.types.Command.{Command}
use Rattle.zi_universe.specs.declared.types.Candidate.{Candidate}
use Rattle.zi_universe.specs.declared.types.Interface.{Interface}
use Rattle.zi_choice.specs.Choice.{candidate_at, command_place}
use Rattle.zi_choice.specs.declared.table.CommandTable.{CommandTable}
use Rattle.zi_choice.specs.Tables.{first_of, IsAdded, AreTheirPlaces, IsTableOf, Each, AreTablesOf, AreAllTables}
use Rattle.zi_choice.proofs.SumLaws.{length_taken}
use Rattle.zi_feed.proofs.LatestLaws.{text_swap}
use Rattle.zi_tree.proofs.Rests.{none_is}
use Rattle.zi_names.proofs.Expanded.{front_more}
use Rattle.zi_feed.specs.IdLaws.{none_some}

lookup_last : {K : Type 0} (test : K → Bool) (es : List (K × ℕ)) (k : K) (n : ℕ) → lookup test (es ++ (k, n) ∷ []) ≡ first_of (lookup test es) (cond (test k) (Some n) None)
lookup_last test [] k n = refl
lookup_last test (e ∷ es) k n = at (test e.0) (lookup_last test es k n)
  where
    at : (b : Bool) → lookup test (es ++ (k, n) ∷ []) ≡ first_of (lookup test es) (cond (test k) (Some n) None) → cond b (Some e.1) (lookup test (es ++ (k, n) ∷ [])) ≡ first_of (cond b (Some e.1) (lookup test es)) (cond (test k) (Some n) None)
    at true h = refl
    at false h = h

pub position_last : {A : Type 0} (test : A → Bool) (n : ℕ) (xs : List A) (x : A) → position_from test n (xs ++ x ∷ []) ≡ first_of (position_from test n xs) (cond (test x) (Some (n + length xs)) None)
position_last test n [] x = let z : n ≡ n + 0 = omega arith in ap (λ k. cond (test x) (Some k) None) z
position_last test n (y ∷ xs) x = at (test y) (position_last test (n + 1) xs x)
  where
    at : (b : Bool) → position_from test (n + 1) (xs ++ x ∷ []) ≡ first_of (position_from test (n + 1) xs) (cond (test x) (Some ((n + 1) + length xs)) None) → cond b (Some n) (position_from test (n + 1) (xs ++ x ∷ [])) ≡ first_of (cond b (Some n) (position_from test (n + 1) xs)) (cond (test x) (Some (n + suc (length xs))) None)
    at true h = refl
    at false h = let z : (n + 1) + length xs ≡ n + suc (length xs) = omega arith in h ∙ ap (λ k. first_of (position_from test (n + 1) xs) (cond (test x) (Some k) None)) z

or_none : (o : Option ℕ) → o ≡ first_of o None
or_none None = refl
or_none (Some n) = refl

or_there : (o p : Option ℕ) → is_some o ≡ true → o ≡ first_of o p
or_there None p e = absurd (false≢true e)
or_there (Some n) p e = refl

-- a name that is there already
pub added_old : (es : List (List ℕ × ℕ)) (name : List ℕ) (n : ℕ) → is_some (lookup (bytes_eq name) es) ≡ true → IsAdded es name n es
added_old es name n there q = at (bytes_eq q name) refl
  where
    at : (b : Bool) → bytes_eq q name ≡ b → lookup (bytes_eq q) es ≡ first_of (lookup (bytes_eq q) es) (cond b (Some n) None)
    at true e = or_there (lookup (bytes_eq q) es) (Some n) (subst (λ x. is_some (lookup (bytes_eq x) es) ≡ true) (sym ((bytes_decides q name).0 e)) there)
    at false e = or_none (lookup (bytes_eq q) es)

-- one that isn't
pub added_new : {S : Type 0} (m : IndexMap (List ℕ) ℕ S) (fs : List (List ℕ × ℕ)) (name key : List ℕ) (n : ℕ) → key ≡ name → is_some (lookup (bytes_eq name) m.entries) ≡ false → fs ≡ insert_entry bytes_eq m.entries key n → IsAdded m.entries name n fs
added_new m fs name key n same new e q =
    let none : lookup (bytes_eq key) m.entries ≡ None = ap (λ k. lookup (bytes_eq k) m.entries) same ∙ none_is (lookup (bytes_eq name) m.entries) new in
    ap (lookup (bytes_eq q)) (e ∙ insert_entry-new bytes_eq m key n none) ∙ lookup_last (bytes_eq q) m.entries key n
    ∙ ap (λ k. first_of (lookup (bytes_eq q) m.entries) (cond (bytes_eq q k) (Some n) None)) same

-- the commands that are gone through, and one more
pub places_more : (ms : List Command) (i : ℕ) (m : Command) (es fs : List (List ℕ × ℕ)) → i < length ms → m ≡ get_or ms i m → AreTheirPlaces (take i ms) es → IsAdded es m.name i fs → AreTheirPlaces (take (i + 1) ms) fs
places_more ms i m es fs l e are added q =
    let test : Command → Bool = λ (x : Command). bytes_eq x.name q in
    let len : length (take i ms) ≡ i = length_taken ms i (omega (arith, l)) in
    let z : 0 + length (take i ms) ≡ i = omega (arith, len) in
    added q
    ∙ ap (λ o. first_of o (cond (bytes_eq q m.name) (Some i) None)) (are q)
    ∙ ap (λ b. first_of (position_from test 0 (take i ms)) (cond b (Some i) None)) (text_swap q m.name)
    ∙ ap (λ k. first_of (position_from test 0 (take i ms)) (cond (test m) (Some k) None)) (sym z)
    ∙ sym (position_last test 0 (take i ms) m)
    ∙ ap (position_from test 0) (sym (front_more ms i m l e))

-- item for item, and one more
each_last : {A B : Type 0} (R : A → B → Type 0) (xs : List A) (ys : List B) (x : A) (y : B) → Each R xs ys → R x y → Each R (xs ++ x ∷ []) (ys ++ y ∷ [])
each_last R [] [] x y h r = (r, tt)
each_last R [] (b ∷ ys) x y h r = absurd h
each_last R (a ∷ xs) [] x y h r = absurd h
each_last R (a ∷ xs) (b ∷ ys) x y h r = (h.0, each_last R xs ys x y h.1 r)

pub each_more : {A B : Type 0} (R : A → B → Type 0) (xs : List A) (ys zs : List B) (i : ℕ) (x : A) (y : B) → i < length xs → x ≡ get_or xs i x → zs ≡ ys ++ y ∷ [] → Each R (take i xs) ys → R x y → Each R (take (i + 1) xs) zs
each_more R xs ys zs i x y l e f h r =
    subst (λ bs. Each R (take (i + 1) xs) bs) (sym f) (subst (λ as_. Each R as_ (ys ++ y ∷ [])) (sym (front_more xs i x l e)) (each_last R (take i xs) ys x y h r))

pub each_at : {A B : Type 0} (R : A → B → Type 0) (xs : List A) (ys : List B) (i : ℕ) (y : B) → Each R xs ys → slice_get ys i ≡ Some y → (x : A) × (slice_get xs i ≡ Some x) × R x y
each_at R [] [] i y h e = absurd (none_some e)
each_at R [] (b ∷ ys) i y h e = absurd h
each_at R (a ∷ xs) [] i y h e = absurd h
each_at R (a ∷ xs) (b ∷ ys) zero y h e = (a, refl, subst (λ z. R a z) (same_Some _ _ e) h.0)
each_at R (a ∷ xs) (b ∷ ys) (suc i) y h e = each_at R xs ys i y h.1 e

pub each_none : {A B : Type 0} (R : A → B → Type 0) (xs : List A) (ys : List B) (i : ℕ) → Each R xs ys → slice_get ys i ≡ None → slice_get xs i ≡ None
each_none R [] [] i h e = refl
each_none R [] (b ∷ ys) i h e = absurd h
each_none R (a ∷ xs) [] i h e = absurd h
each_none R (a ∷ xs) (b ∷ ys) zero h e = absurd (none_some (sym e))
each_none R (a ∷ xs) (b ∷ ys) (suc i) h e = each_none R xs ys i h.1 e

-- where a command is looked up
abbrev looked : List Interface → ℕ → ℕ → List ℕ → Option ℕ
looked u i c name = option_and_then (λ (k : Candidate). command_place k name) (candidate_at u i c)

pub no_row : (u : List Interface) (rows : List (List CommandTable)) (i c : ℕ) (name : List ℕ) → AreAllTables u rows → slice_get rows i ≡ None → None ≡ looked u i c name
no_row u rows i c name are e =
    sym (ap (λ o. option_and_then (λ (k : Candidate). command_place k name) (option_and_then (λ (x : Interface). slice_get x.candidates c) o)) (each_none (λ (x : Interface) ts. AreTablesOf x.candidates ts) u rows i are e))

pub no_table : (u : List Interface) (rows : List (List CommandTable)) (row : List CommandTable) (i c : ℕ) (name : List ℕ) → AreAllTables u rows → slice_get rows i ≡ Some row → slice_get row c ≡ None → None ≡ looked u i c name
no_table u rows row i c name are e f =
    let x = each_at (λ (x : Interface) ts. AreTablesOf x.candidates ts) u rows i row are e in
    sym (ap (λ o. option_and_then (λ (k : Candidate). command_place k name) (option_and_then (λ (y : Interface). slice_get y.candidates c) o)) x.1
    ∙ ap (λ o. option_and_then (λ (k : Candidate). command_place k name) o) (each_none IsTableOf x.0.candidates row c x.2 f))

pub in_table : (u : List Interface) (rows : List (List CommandTable)) (row : List CommandTable) (t : CommandTable) (i c : ℕ) (name : List ℕ) → AreAllTables u rows → slice_get rows i ≡ Some row → slice_get row c ≡ Some t → lookup (bytes_eq name) t.places.entries ≡ looked u i c name
in_table u rows row t i c name are e f =
    let x = each_at (λ (x : Interface) ts. AreTablesOf x.candidates ts) u rows i row are e in
    let k = each_at IsTableOf x.0.candidates row c t x.2 f in
    k.2 name
    ∙ sym (ap (λ o. option_and_then (λ (k : Candidate). command_place k name) (option_and_then (λ (y : Interface). slice_get y.candidates c) o)) x.1
    ∙ ap (λ o. option_and_then (λ (k : Candidate). command_place k name) o) k.1)
