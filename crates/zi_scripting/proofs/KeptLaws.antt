-- Variables that are set keep their order, and none is taken away.
use Rattle.std.proofs.Common.{◌≡◌, ℕ, Bool, true, false, ◌&&◌, List, [], ◌∷◌, Option, Some, None, bytes_eq, if◌then◌else◌, refl, sym, ap, subst, ◌∙◌}
use Rattle.std.specs.Prelude.{is_some}
use Rattle.std.specs.List.{list_all}
use Rattle.std.specs.Ordering.{nat_cmp, is_lt, is_eq, ordering_reverse}
use Rattle.std.specs.Cmp.Lexicographic.{slice_cmp}
use Rattle.std.specs.declared.cmp.Ordering.{Ordering}
use Rattle.std.specs.declared.cmp.Ordering.TheVariants.{Less, Equal, Greater}
use Rattle.std.proofs.lemmas.Bool.{and_parts, and_from}
use Rattle.std.proofs.lemmas.Cmp.{nat_list_cmp_total}
use Rattle.std.proofs.lemmas.Map.Text.{is_eq-slice_cmp}
use Rattle.std.proofs.lemmas.Slice.Eq.{bytes_eq-Decides}
use Rattle.zi_text.proofs.ListLaws.{is_less}
use Rattle.zi_outside.specs.declared.var.Var.{Var}
use Rattle.zi_outside.specs.Vars.{value_of, are_in_order, with_var}
use Rattle.zi_script.specs.Laws.{KeepsNames}

abbrev is_before : List ℕ → List ℕ → Bool
is_before a b = is_lt (slice_cmp nat_cmp a b)

abbrev all_names : (List ℕ → Bool) → List Var → Bool
all_names p vs = list_all (λ (w : Var). p w.name) vs

-- of two names that differ, one stands before the other
other_way : (a b : List ℕ) → bytes_eq a b ≡ false → is_before b a ≡ false → is_before a b ≡ true
other_way a b apart not = by (slice_cmp nat_cmp b a) refl
  where
    by : (r : Ordering) → slice_cmp nat_cmp b a ≡ r → is_before a b ≡ true
    by Less e = absurd (cc (sym not ∙ ap is_lt e))
    by Equal e = absurd (cc (sym apart ∙ sym (is_eq-slice_cmp a b) ∙ ap is_eq (nat_list_cmp_total.antisymm a b ∙ ap ordering_reverse e)))
    by Greater e = ap is_lt (nat_list_cmp_total.antisymm a b ∙ ap ordering_reverse e)

-- what stands before a name stands before those behind it
all_behind : (a b : List ℕ) (vs : List Var) → is_before a b ≡ true → all_names (is_before b) vs ≡ true → all_names (is_before a) vs ≡ true
all_behind a b [] h k = refl
all_behind a b (v ∷ vs) h k =
    let p = and_parts (is_before b v.name) (all_names (is_before b) vs) k in
    and_from (is_before a v.name) (all_names (is_before a) vs)
    (ap is_lt (nat_list_cmp_total.trans a b v.name (is_less (slice_cmp nat_cmp a b) h) (is_less (slice_cmp nat_cmp b v.name) p.0))) (all_behind a b vs h p.1)

all_with : (p : List ℕ → Bool) (n x : List ℕ) (vs : List Var) → p n ≡ true → all_names p vs ≡ true → all_names p (with_var n x vs) ≡ true
all_with p n x [] h k = and_from (p n) true h refl
all_with p n x (v ∷ vs) h k =
    let q = and_parts (p v.name) (all_names p vs) k in
    by (bytes_eq v.name n) (is_before n v.name) q.0 q.1 (all_with p n x vs h q.1)
  where
    by : (b c : Bool) → p v.name ≡ true → all_names p vs ≡ true → all_names p (with_var n x vs) ≡ true
        → all_names p (if b then record { name = n; value = x } ∷ vs else if c then record { name = n; value = x } ∷ (v ∷ vs) else v ∷ with_var n x vs) ≡ true
    by true c first rest go = and_from (p n) (all_names p vs) h rest
    by false true first rest go = and_from (p n) (p v.name && all_names p vs) h (and_from (p v.name) (all_names p vs) first rest)
    by false false first rest go = and_from (p v.name) (all_names p (with_var n x vs)) first go

pub ordered_with : (n x : List ℕ) (vs : List Var) → are_in_order vs ≡ true → are_in_order (with_var n x vs) ≡ true
ordered_with n x [] h = refl
ordered_with n x (v ∷ vs) h =
    let q = and_parts (all_names (is_before v.name) vs) (are_in_order vs) h in
    by (bytes_eq v.name n) (is_before n v.name) refl refl q.0 q.1 (ordered_with n x vs q.1)
  where
    by : (b c : Bool) → bytes_eq v.name n ≡ b → is_before n v.name ≡ c → all_names (is_before v.name) vs ≡ true → are_in_order vs ≡ true → are_in_order (with_var n x vs) ≡ true
        → are_in_order (if b then record { name = n; value = x } ∷ vs else if c then record { name = n; value = x } ∷ (v ∷ vs) else v ∷ with_var n x vs) ≡ true
    by true c e d first rest go = and_from (all_names (is_before n) vs) (are_in_order vs) (subst (λ m. all_names (is_before m) vs ≡ true) ((bytes_eq-Decides v.name n).0 e) first) rest
    by false true e d first rest go =
        and_from (is_before n v.name && all_names (is_before n) vs) (all_names (is_before v.name) vs && are_in_order vs)
        (and_from (is_before n v.name) (all_names (is_before n) vs) d (all_behind n v.name vs d first)) (and_from (all_names (is_before v.name) vs) (are_in_order vs) first rest)
    by false false e d first rest go =
        and_from (all_names (is_before v.name) (with_var n x vs)) (are_in_order (with_var n x vs)) (all_with (is_before v.name) n x vs (other_way v.name n e d) first) go

-- a variable that is set stays set
stays_set : (b : Bool) (x : List ℕ) (o : Option (List ℕ)) → is_some o ≡ true → is_some (if b then Some x else o) ≡ true
stays_set true x o h = refl
stays_set false x o h = h

pub named_with : (n x : List ℕ) (vs : List Var) (k : List ℕ) → is_some (value_of vs k) ≡ true → is_some (value_of (with_var n x vs) k) ≡ true
named_with n x [] k h = absurd (cc h)
named_with n x (v ∷ vs) k h = by (bytes_eq v.name n) (is_before n v.name) refl h (named_with n x vs k)
  where
    next : (a : Bool) → is_some (if a then Some v.value else value_of vs k) ≡ true → (is_some (value_of vs k) ≡ true → is_some (value_of (with_var n x vs) k) ≡ true)
        → is_some (if a then Some v.value else value_of (with_var n x vs) k) ≡ true
    next true h go = refl
    next false h go = go h

    same : (a : Bool) → is_some (if a then Some v.value else value_of vs k) ≡ true → is_some (if a then Some x else value_of vs k) ≡ true
    same true h = refl
    same false h = h

    by : (b c : Bool) → bytes_eq v.name n ≡ b → is_some (if bytes_eq v.name k then Some v.value else value_of vs k) ≡ true → (is_some (value_of vs k) ≡ true → is_some (value_of (with_var n x vs) k) ≡ true)
        → is_some (value_of (if b then record { name = n; value = x } ∷ vs else if c then record { name = n; value = x } ∷ (v ∷ vs) else v ∷ with_var n x vs) k) ≡ true
    by true c e h go = subst (λ m. is_some (if bytes_eq m k then Some x else value_of vs k) ≡ true) ((bytes_eq-Decides v.name n).0 e) (same (bytes_eq v.name k) h)
    by false true e h go = stays_set (bytes_eq n k) x (if bytes_eq v.name k then Some v.value else value_of vs k) h
    by false false e h go = next (bytes_eq v.name k) h go

-- so it is over what was there
pub record IsKept (old new : List Var) : Type 0 where
  pub ordered : are_in_order new ≡ true
  pub names : KeepsNames old new

pub kept_with : (old vs : List Var) (n x : List ℕ) → IsKept old vs → IsKept old (with_var n x vs)
kept_with old vs n x h = record { ordered = ordered_with n x vs h.ordered; names = λ k is. named_with n x vs k (h.names k is) }
