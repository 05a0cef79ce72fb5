-- Implementations of rows behind those of a feed: what was there stays, and rows that were there before add nothing.
use Rattle.std.proofs.Common.{◌≡◌, ℕ, ◌+◌, ◌<◌, Bool, true, false, ◌&&◌, ◌||◌, List, [], ◌∷◌, ◌++◌, length, take, get_or, refl, sym, ap, subst, ◌∙◌, append-nil, append_assoc, bytes_eq}
use Rattle.std.specs.Prelude.{fold}
use Rattle.std.specs.List.{flat_map, list_all, IsDistinct}
use Rattle.std.proofs.lemmas.List.{map-append, take_more}
use Rattle.std.proofs.lemmas.List.Sums.{fold-append}
use Rattle.std.proofs.lemmas.Grind.{flat_map-append}
use Rattle.std.proofs.lemmas.Map.Keys.{IsDistinct-push}
use Rattle.std.specs.Cmp.{IsEquivalence}
use Rattle.std.proofs.lemmas.Slice.Eq.{bytes_eq-Decides}
use Rattle.std.proofs.lemmas.Bool.{and_parts}
use Rattle.std.proofs.Math.Bool.{or-true}
use Rattle.zi_text.proofs.ListLaws.{any_push}
use Rattle.zi_parts.specs.declared.types.Impl.{Impl}
use Rattle.zi_parts.specs.declared.types.Native.{Native}
use Rattle.zi_packages.specs.Table.{is_listed}
use Rattle.zi_packages.specs.Natives.{row_id, row_impl, is_for, rows_of, made_by, made_of, offered_rows, ids_of, with_new, with_rows}
use Rattle.zi_packages.specs.Laws.{IdsStayDistinct, RowsStandBehind}
use Rattle.zi_packages.specs.declared.types.Packages.{Packages}
use Rattle.zi_packages.specs.declared.types.PackageRow.{PackageRow}

-- One implementation more.

pub ids_push : (is : List Impl) (i : Impl) → ids_of (is ++ i ∷ []) ≡ ids_of is ++ i.id ∷ []
ids_push is i = map-append (λ (q : Impl). q.id) is (i ∷ [])

pub old_new : (is : List Impl) (i : Impl) → is_listed i.id (ids_of is) ≡ true → with_new is i ≡ is
old_new is i e = rw e refl

pub new_new : (is : List Impl) (i : Impl) → is_listed i.id (ids_of is) ≡ false → with_new is i ≡ is ++ i ∷ []
new_new is i e = rw e refl

or_left : (a b : Bool) → a ≡ true → (a || b) ≡ true
or_left a b e = ap (λ q. q || b) e

same_text : (t : List ℕ) → bytes_eq t t ≡ true
same_text t = (bytes_eq-Decides t t).1 refl

pub listed_push : (t x : List ℕ) (ts : List (List ℕ)) → is_listed t (ts ++ x ∷ []) ≡ (is_listed t ts || bytes_eq t x)
listed_push t x ts = any_push (bytes_eq t) ts x

-- a text that was there stays
kept_one : (t : List ℕ) (is : List Impl) (i : Impl) → is_listed t (ids_of is) ≡ true → is_listed t (ids_of (with_new is i)) ≡ true
kept_one t is i there = by (is_listed i.id (ids_of is)) refl
  where
    by : (b : Bool) → is_listed i.id (ids_of is) ≡ b → is_listed t (ids_of (with_new is i)) ≡ true
    by true e = ap (λ q. is_listed t (ids_of q)) (old_new is i e) ∙ there
    by false e = ap (λ q. is_listed t (ids_of q)) (new_new is i e) ∙ ap (is_listed t) (ids_push is i) ∙ listed_push t i.id (ids_of is) ∙ or_left (is_listed t (ids_of is)) (bytes_eq t i.id) there

kept_all : (t : List ℕ) (js is : List Impl) → is_listed t (ids_of is) ≡ true → is_listed t (ids_of (fold with_new is js)) ≡ true
kept_all t [] is there = there
kept_all t (j ∷ js) is there = kept_all t js (with_new is j) (kept_one t is j there)

-- and one that was added is there
there_now : (is : List Impl) (i : Impl) → is_listed i.id (ids_of (with_new is i)) ≡ true
there_now is i = by (is_listed i.id (ids_of is)) refl
  where
    by : (b : Bool) → is_listed i.id (ids_of is) ≡ b → is_listed i.id (ids_of (with_new is i)) ≡ true
    by true e = ap (λ q. is_listed i.id (ids_of q)) (old_new is i e) ∙ e
    by false e = ap (λ q. is_listed i.id (ids_of q)) (new_new is i e) ∙ ap (is_listed i.id) (ids_push is i) ∙ listed_push i.id i.id (ids_of is)
        ∙ ap (λ q. is_listed i.id (ids_of is) || q) (same_text i.id) ∙ or-true (is_listed i.id (ids_of is))

-- Rows whose ids are there.

abbrev pub Covers : List Impl → List PackageRow → Type 0
Covers is rs = list_all (λ r. is_listed (row_id r) (ids_of is)) rs ≡ true

-- they add nothing
pub covered : (n : Native) (rs : List PackageRow) (is : List Impl) → Covers is rs → fold with_new is (made_by n rs) ≡ is
unfolding row_impl
covered n [] is h = refl
covered n (r ∷ rs) is h =
    let p = and_parts (is_listed (row_id r) (ids_of is)) (list_all (λ q. is_listed (row_id q) (ids_of is)) rs) h in
    ap (λ q. fold with_new q (made_by n rs)) (old_new is (row_impl n r) p.0) ∙ covered n rs is p.1

and_both : (a b : Bool) → a ≡ true → b ≡ true → (a && b) ≡ true
and_both a b e f = ap (λ q. q && b) e ∙ f

pub still_covered : (js is : List Impl) (rs : List PackageRow) → Covers is rs → Covers (fold with_new is js) rs
still_covered js is [] h = refl
still_covered js is (r ∷ rs) h =
    let p = and_parts (is_listed (row_id r) (ids_of is)) (list_all (λ q. is_listed (row_id q) (ids_of is)) rs) h in
    and_both (is_listed (row_id r) (ids_of (fold with_new is js))) (list_all (λ q. is_listed (row_id q) (ids_of (fold with_new is js))) rs) (kept_all (row_id r) js is p.0) (still_covered js is rs p.1)

-- those that were added are there
pub now_covered : (n : Native) (rs : List PackageRow) (is : List Impl) → Covers (fold with_new is (made_by n rs)) rs
unfolding row_impl
now_covered n [] is = refl
now_covered n (r ∷ rs) is =
    and_both (is_listed (row_id r) (ids_of (fold with_new is (made_by n (r ∷ rs))))) (list_all (λ q. is_listed (row_id q) (ids_of (fold with_new is (made_by n (r ∷ rs))))) rs)
    (kept_all (row_id r) (made_by n rs) (with_new is (row_impl n r)) (there_now is (row_impl n r))) (now_covered n rs (with_new is (row_impl n r)))

-- Packages that a feed names, one after the other.

pub take_next : {X : Type 0} (xs : List X) (k : ℕ) (x : X) → k < length xs → x ≡ get_or xs k x → take (k + 1) xs ≡ take k xs ++ x ∷ []
take_next xs k x lt at = take_more xs k x lt ∙ ap (λ y. take k xs ++ y ∷ []) (sym at)

single : {X Y : Type 0} (f : X → List Y) (x : X) → flat_map f (x ∷ []) ≡ f x
single f x = append-nil (f x)

pub flat_next : {X : Type 0} (f : X → List Impl) (xs : List X) (k : ℕ) (x : X) (is : List Impl) → k < length xs → x ≡ get_or xs k x
    → fold with_new is (flat_map f (take (k + 1) xs)) ≡ fold with_new (fold with_new is (flat_map f (take k xs))) (f x)
flat_next f xs k x is lt at =
    ap (λ q. fold with_new is (flat_map f q)) (take_next xs k x lt at)
    ∙ ap (fold with_new is) (flat_map-append f (take k xs) (x ∷ []) ∙ ap (λ q. flat_map f (take k xs) ++ q) (single f x))
    ∙ fold-append with_new is (flat_map f (take k xs)) (f x)

pub flat_push : {X : Type 0} (f : X → List Impl) (xs : List X) (x : X) (is : List Impl) → fold with_new is (flat_map f (xs ++ x ∷ [])) ≡ fold with_new (fold with_new is (flat_map f xs)) (f x)
flat_push f xs x is = ap (fold with_new is) (flat_map-append f xs (x ∷ []) ∙ ap (λ q. flat_map f xs ++ q) (single f x)) ∙ fold-append with_new is (flat_map f xs) (f x)

pub made_for : (t : Packages) (n : Native) → is_for t.distribution n ≡ true → made_of t n ≡ made_by n (rows_of t.rows n.«package»)
made_for t n e = rw e refl

pub made_not_for : (t : Packages) (n : Native) → is_for t.distribution n ≡ false → made_of t n ≡ []
made_not_for t n e = rw e refl

pub made_none : (t : Packages) (n : Native) → rows_of t.rows n.«package» ≡ [] → made_of t n ≡ []
made_none t n e = by (is_for t.distribution n) refl
  where
    by : (b : Bool) → is_for t.distribution n ≡ b → made_of t n ≡ []
    by true f = made_for t n f ∙ ap (made_by n) e
    by false f = made_not_for t n f

-- Laws.

texts_alike : IsEquivalence bytes_eq
texts_alike = record { refl = same_text; symm = flips; congr = λ x y z e. ap (λ q. bytes_eq q z) ((bytes_eq-Decides x y).0 e) }
  where
    flips : (x y : List ℕ) → bytes_eq x y ≡ bytes_eq y x
    flips x y = by (bytes_eq x y) (bytes_eq y x) refl refl
      where
        by : (b c : Bool) → bytes_eq x y ≡ b → bytes_eq y x ≡ c → b ≡ c
        by true true e f = refl
        by false false e f = refl
        by true false e f = sym (same_text x) ∙ ap (λ q. bytes_eq q x) ((bytes_eq-Decides x y).0 e) ∙ f
        by false true e f = sym e ∙ ap (λ q. bytes_eq q y) (sym ((bytes_eq-Decides y x).0 f)) ∙ same_text y

behind_one : (is : List Impl) (i : Impl) → (more : List Impl) × (with_new is i ≡ is ++ more)
behind_one is i = by (is_listed i.id (ids_of is)) refl
  where
    by : (b : Bool) → is_listed i.id (ids_of is) ≡ b → (more : List Impl) × (with_new is i ≡ is ++ more)
    by true e = ([], old_new is i e ∙ sym (append-nil is))
    by false e = (i ∷ [], new_new is i e)

behind_all : (js is : List Impl) → (more : List Impl) × (fold with_new is js ≡ is ++ more)
behind_all [] is = ([], sym (append-nil is))
behind_all (j ∷ js) is =
    let one = behind_one is j in
    let all = behind_all js (with_new is j) in
    (one.0 ++ all.0, all.1 ∙ ap (λ q. q ++ all.0) one.1 ∙ append_assoc is one.0 all.0)

pub stand_behind : RowsStandBehind
unfolding with_rows
stand_behind t is ns = behind_all (offered_rows t ns) is

apart_one : (is : List Impl) (i : Impl) → IsDistinct bytes_eq (ids_of is) → IsDistinct bytes_eq (ids_of (with_new is i))
apart_one is i apart = by (is_listed i.id (ids_of is)) refl
  where
    by : (b : Bool) → is_listed i.id (ids_of is) ≡ b → IsDistinct bytes_eq (ids_of (with_new is i))
    by true e = subst (IsDistinct bytes_eq) (ap ids_of (sym (old_new is i e))) apart
    by false e = subst (IsDistinct bytes_eq) (sym (ap ids_of (new_new is i e) ∙ ids_push is i)) (IsDistinct-push texts_alike (ids_of is) i.id apart e)

apart_all : (js is : List Impl) → IsDistinct bytes_eq (ids_of is) → IsDistinct bytes_eq (ids_of (fold with_new is js))
apart_all [] is apart = apart
apart_all (j ∷ js) is apart = apart_all js (with_new is j) (apart_one is j apart)

pub stay_distinct : IdsStayDistinct
unfolding with_rows
stay_distinct t is ns apart = apart_all (offered_rows t ns) is apart
