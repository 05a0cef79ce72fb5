-- The map of the entries after a change.
use Rattle.std.proofs.Common.{◌≡◌, ◌≢◌, ℕ, zero, suc, ◌<◌, true, false, List, [], ◌∷◌, length, Option, Some, None, ◌⊎◌, inl, inr, refl, sym, ◌∙◌, bytes_eq, get_or, set, insert, remove, arith, if◌then◌else◌}
use Rattle.std.proofs.lemmas.Slice.Eq.{bytes_eq-Decides}
use Rattle.std.specs.Ordering.{is_lt}
use Rattle.std.proofs.lemmas.Bool.{and_parts, and_from}
use Rattle.zi_tree.proofs.Order.{cmp, lt_trans, lt_flip, lt_apart}
use mathlib.Core.Path.{fun_ext}
use Rattle.zi_shelf.specs.Names.{Name, put}
use Rattle.zi_memory.specs.declared.top_entry.TopEntry.{TopEntry}
use Rattle.zi_memory.specs.Memory.{top_of, tops_of, are_apart, is_before, IsAt, IsPlace}
use Rattle.zi_shelf.proofs.TopsLemmas.{test_refl, test_true, test_false, is_apart, put_is}

-- the first name stands before the others, so it isn't among them
before_none : (n : Name) (es : List TopEntry) → is_before n es ≡ true → tops_of es n ≡ None
before_none n [] h = refl
before_none n (e ∷ es) h =
    let p = and_parts (is_lt (cmp n e.name)) (is_before n es) h in
    rw (test_false e.name n (λ same. is_apart n e.name (lt_apart n e.name p.0) (sym same))) (before_none n es p.1)

pub order_parts : (x : TopEntry) (es : List TopEntry) → are_apart (x ∷ es) ≡ true → (is_before x.name es ≡ true) × (are_apart es ≡ true)
order_parts x es h = and_parts (is_before x.name es) (are_apart es) h

-- what are_apart says of a first entry
pub apart_parts : (x : TopEntry) (es : List TopEntry) → are_apart (x ∷ es) ≡ true → (tops_of es x.name ≡ None) × (are_apart es ≡ true)
apart_parts x es h = let p = order_parts x es h in (before_none x.name es p.0, p.1)

before_parts : (m : Name) (x : TopEntry) (es : List TopEntry) → is_before m (x ∷ es) ≡ true → (is_lt (cmp m x.name) ≡ true) × (is_before m es ≡ true)
before_parts m x es h = and_parts (is_lt (cmp m x.name)) (is_before m es) h

before_whole : (m : Name) (x : TopEntry) (es : List TopEntry) → is_lt (cmp m x.name) ≡ true → is_before m es ≡ true → is_before m (x ∷ es) ≡ true
before_whole m x es h k = and_from (is_lt (cmp m x.name)) (is_before m es) h k

before_all : (a b : Name) (es : List TopEntry) → is_lt (cmp a b) ≡ true → is_before b es ≡ true → is_before a es ≡ true
before_all a b [] lt h = refl
before_all a b (x ∷ es) lt h = let p = before_parts b x es h in before_whole a x es (lt_trans a b x.name lt p.0) (before_all a b es lt p.1)

apart_whole : (x : TopEntry) (es : List TopEntry) → is_before x.name es ≡ true → are_apart es ≡ true → are_apart (x ∷ es) ≡ true
apart_whole x es h a = and_from (is_before x.name es) (are_apart es) h a

-- where nothing has the name, the first entry hasn't
none_parts : (x : TopEntry) (es : List TopEntry) (n : Name) → tops_of (x ∷ es) n ≡ None → (bytes_eq x.name n ≡ false) × (tops_of es n ≡ None)
none_parts x es n =
    elim (bytes_eq x.name n) as (λ t. (if t then Some (top_of x) else tops_of es n) ≡ None → (t ≡ false) × (tops_of es n ≡ None)) [ true ↦ λ h. absurd (cc h) | false ↦ λ h. (refl, h) ]

pub none_from_all : (es : List TopEntry) (n : Name) → ((k : ℕ) (d : TopEntry) → k < length es → bytes_eq (get_or es k d).name n ≡ false) → tops_of es n ≡ None
none_from_all [] n h = refl
none_from_all (x ∷ es) n h = rw (h 0 x (omega arith)) (none_from_all es n (λ k d lt. h (suc k) d (omega arith)))

pub at_from_first : (es : List TopEntry) (n : Name) (i : ℕ) (e : TopEntry) → i < length es → ((k : ℕ) (d : TopEntry) → k < i → bytes_eq (get_or es k d).name n ≡ false) → bytes_eq (get_or es i e).name n ≡ true → IsAt n es i
at_from_first [] n i e lt h t = absurd (omega arith)
at_from_first (x ∷ es) n zero e lt h t = t
at_from_first (x ∷ es) n (suc i) e lt h t = (h 0 x (omega arith), at_from_first es n i e (omega arith) (λ k d l. h (suc k) d (omega arith)) t)

pub found_at : (es : List TopEntry) (n : Name) (i : ℕ) (d : TopEntry) → IsAt n es i → tops_of es n ≡ Some (top_of (get_or es i d))
found_at [] n i d at = absurd at
found_at (x ∷ es) n zero d at = rw at refl
found_at (x ∷ es) n (suc i) d at = rw at.0 (found_at es n i d at.1)

pub at_name : (es : List TopEntry) (n : Name) (i : ℕ) (d : TopEntry) → IsAt n es i → (get_or es i d).name ≡ n
at_name [] n i d at = absurd at
at_name (x ∷ es) n zero d at = test_true x.name n at
at_name (x ∷ es) n (suc i) d at = at_name es n i d at.1

-- one more entry, at its place
insert_same : (es : List TopEntry) (i : ℕ) (e : TopEntry) → tops_of es e.name ≡ None → tops_of (insert es i e) e.name ≡ Some (top_of e)
insert_same [] zero e h = rw (test_refl e.name) refl
insert_same [] (suc i) e h = rw (test_refl e.name) refl
insert_same (x ∷ es) zero e h = rw (test_refl e.name) refl
insert_same (x ∷ es) (suc i) e h = let p = none_parts x es e.name h in rw p.0 (insert_same es i e p.1)

insert_other : (es : List TopEntry) (i : ℕ) (e : TopEntry) (k : Name) → k ≢ e.name → tops_of (insert es i e) k ≡ tops_of es k
insert_other [] zero e k ne = rw (test_false e.name k (λ h. ne (sym h))) refl
insert_other [] (suc i) e k ne = rw (test_false e.name k (λ h. ne (sym h))) refl
insert_other (x ∷ es) zero e k ne = rw (test_false e.name k (λ h. ne (sym h))) refl
insert_other (x ∷ es) (suc i) e k ne =
    elim (bytes_eq x.name k) as (λ t. (if t then Some (top_of x) else tops_of (insert es i e) k) ≡ (if t then Some (top_of x) else tops_of es k)) [ true ↦ refl | false ↦ insert_other es i e k ne ]

pub tops_insert : (es : List TopEntry) (i : ℕ) (e : TopEntry) → tops_of es e.name ≡ None → tops_of (insert es i e) ≡ put (tops_of es) e.name (Some (top_of e))
tops_insert es i e h = put_is (tops_of es) (tops_of (insert es i e)) e.name (Some (top_of e)) (insert_same es i e h) (insert_other es i e)

before_insert : (m : Name) (es : List TopEntry) (i : ℕ) (e : TopEntry) → is_before m es ≡ true → is_lt (cmp m e.name) ≡ true → is_before m (insert es i e) ≡ true
before_insert m [] zero e h k = before_whole m e [] k refl
before_insert m [] (suc i) e h k = before_whole m e [] k refl
before_insert m (x ∷ es) zero e h k = before_whole m e (x ∷ es) k h
before_insert m (x ∷ es) (suc i) e h k = let p = before_parts m x es h in before_whole m x (insert es i e) p.0 (before_insert m es i e p.1 k)

pub apart_insert : (es : List TopEntry) (i : ℕ) (e : TopEntry) → IsPlace e.name es i → tops_of es e.name ≡ None → are_apart es ≡ true → are_apart (insert es i e) ≡ true
apart_insert [] zero e at free a = refl
apart_insert [] (suc i) e at free a = refl
apart_insert (x ∷ es) zero e at free a = apart_whole e (x ∷ es) (before_whole e.name x es at (before_all e.name x.name es at (order_parts x es a).0)) a
apart_insert (x ∷ es) (suc i) e at free a =
    let p = none_parts x es e.name free in
    let q = order_parts x es a in
    let other : e.name ≡ x.name → ⊥ = λ same. is_apart x.name e.name p.0 (sym same) in
    apart_whole x (insert es i e) (before_insert x.name es i e q.0 (lt_flip e.name x.name at.0 other)) (apart_insert es i e at.1 p.1 q.1)

-- another entry in place of one of the same name
set_same : (es : List TopEntry) (n : Name) (i : ℕ) (e : TopEntry) → IsAt n es i → e.name ≡ n → tops_of (set es i e) n ≡ Some (top_of e)
set_same [] n i e at en = absurd at
set_same (x ∷ es) n zero e at en = rw (en, test_refl n) refl
set_same (x ∷ es) n (suc i) e at en = rw at.0 (set_same es n i e at.1 en)

set_other : (es : List TopEntry) (n : Name) (i : ℕ) (e : TopEntry) → IsAt n es i → e.name ≡ n → (k : Name) → k ≢ n → tops_of (set es i e) k ≡ tops_of es k
set_other [] n i e at en k ne = absurd at
set_other (x ∷ es) n zero e at en k ne =
    let fe = test_false e.name k (λ h. ne (sym h ∙ en)) in
    let fx = test_false x.name k (λ h. ne (sym h ∙ test_true x.name n at)) in
    rw (fe, fx) refl
set_other (x ∷ es) n (suc i) e at en k ne =
    elim (bytes_eq x.name k) as (λ t. (if t then Some (top_of x) else tops_of (set es i e) k) ≡ (if t then Some (top_of x) else tops_of es k)) [ true ↦ refl | false ↦ set_other es n i e at.1 en k ne ]

pub tops_set : (es : List TopEntry) (n : Name) (i : ℕ) (e : TopEntry) → IsAt n es i → e.name ≡ n → tops_of (set es i e) ≡ put (tops_of es) n (Some (top_of e))
tops_set es n i e at en = put_is (tops_of es) (tops_of (set es i e)) n (Some (top_of e)) (set_same es n i e at en) (set_other es n i e at en)

before_set : (m : Name) (es : List TopEntry) (n : Name) (i : ℕ) (e : TopEntry) → IsAt n es i → e.name ≡ n → is_before m es ≡ true → is_before m (set es i e) ≡ true
before_set m [] n i e at en h = absurd at
before_set m (x ∷ es) n zero e at en h =
    let p = before_parts m x es h in
    let same : x.name ≡ e.name = test_true x.name n at ∙ sym en in
    before_whole m e es (rw (← same) p.0) p.1
before_set m (x ∷ es) n (suc i) e at en h = let p = before_parts m x es h in before_whole m x (set es i e) p.0 (before_set m es n i e at.1 en p.1)

pub apart_set : (es : List TopEntry) (n : Name) (i : ℕ) (e : TopEntry) → IsAt n es i → e.name ≡ n → are_apart es ≡ true → are_apart (set es i e) ≡ true
apart_set [] n i e at en a = absurd at
apart_set (x ∷ es) n zero e at en a =
    let q = order_parts x es a in
    let same : x.name ≡ e.name = test_true x.name n at ∙ sym en in
    apart_whole e es (rw (← same) q.0) q.1
apart_set (x ∷ es) n (suc i) e at en a =
    let q = order_parts x es a in
    apart_whole x (set es i e) (before_set x.name es n i e at.1 en q.0) (apart_set es n i e at.1 en q.1)

-- without one entry
remove_same : (es : List TopEntry) (n : Name) (i : ℕ) → IsAt n es i → are_apart es ≡ true → tops_of (remove es i) n ≡ None
remove_same [] n i at a = absurd at
remove_same (x ∷ es) n zero at a = rw (← test_true x.name n at) (apart_parts x es a).0
remove_same (x ∷ es) n (suc i) at a = rw at.0 (remove_same es n i at.1 (apart_parts x es a).1)

remove_other : (es : List TopEntry) (n : Name) (i : ℕ) → IsAt n es i → (k : Name) → k ≢ n → tops_of (remove es i) k ≡ tops_of es k
remove_other [] n i at k ne = absurd at
remove_other (x ∷ es) n zero at k ne = let fx = test_false x.name k (λ h. ne (sym h ∙ test_true x.name n at)) in rw fx refl
remove_other (x ∷ es) n (suc i) at k ne =
    elim (bytes_eq x.name k) as (λ t. (if t then Some (top_of x) else tops_of (remove es i) k) ≡ (if t then Some (top_of x) else tops_of es k)) [ true ↦ refl | false ↦ remove_other es n i at.1 k ne ]

pub tops_remove : (es : List TopEntry) (n : Name) (i : ℕ) → IsAt n es i → are_apart es ≡ true → tops_of (remove es i) ≡ put (tops_of es) n None
tops_remove es n i at a = put_is (tops_of es) (tops_of (remove es i)) n None (remove_same es n i at a) (remove_other es n i at)

before_remove : (m : Name) (es : List TopEntry) (i : ℕ) → is_before m es ≡ true → is_before m (remove es i) ≡ true
before_remove m [] zero h = refl
before_remove m [] (suc i) h = refl
before_remove m (x ∷ es) zero h = (before_parts m x es h).1
before_remove m (x ∷ es) (suc i) h = let p = before_parts m x es h in before_whole m x (remove es i) p.0 (before_remove m es i p.1)

pub apart_remove : (es : List TopEntry) (i : ℕ) → are_apart es ≡ true → are_apart (remove es i) ≡ true
apart_remove [] zero a = refl
apart_remove [] (suc i) a = refl
apart_remove (x ∷ es) zero a = (order_parts x es a).1
apart_remove (x ∷ es) (suc i) a = let q = order_parts x es a in apart_whole x (remove es i) (before_remove x.name es i q.0) (apart_remove es i q.1)

-- a name that is free stays so without one entry
pub free_remove : (es : List TopEntry) (n m : Name) (i : ℕ) → IsAt n es i → tops_of es m ≡ None → tops_of (remove es i) m ≡ None
free_remove [] n m i at free = absurd at
free_remove (x ∷ es) n m zero at free = (none_parts x es m free).1
free_remove (x ∷ es) n m (suc i) at free = let p = none_parts x es m free in rw p.0 (free_remove es n m i at.1 p.1)
