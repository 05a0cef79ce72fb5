-- Variables that are set in turn over what was there.
use Rattle.std.proofs.Common.{◌≡◌, ℕ, Bool, true, false, List, [], ◌∷◌, cond, Option, Some, None, bytes_eq, if◌then◌else◌, inl, inr, ◌⊎◌, refl, sym, ap, subst, ◌∙◌}
use Rattle.std.specs.Prelude.{not, is_some}
use Rattle.std.specs.List.{filter, list_all}
use Rattle.std.specs.Ordering.{nat_cmp, is_lt, is_eq}
use Rattle.std.specs.Cmp.Lexicographic.{slice_cmp}
use Rattle.std.proofs.lemmas.Bool.{and_parts}
use Rattle.std.proofs.lemmas.Slice.Eq.{bytes_eq-Decides}
use Rattle.std.proofs.lemmas.Map.Text.{is_eq-slice_cmp}
use Rattle.zi_text.proofs.ListLaws.{is_less}
use Rattle.zi_outside.specs.declared.var.Var.{Var}
use Rattle.zi_outside.specs.Vars.{value_of, are_in_order}
use Rattle.zi_script.specs.Script.{differs, is_changed, changed, set_in_turn}
use Rattle.zi_script.specs.Laws.{KeepsNames}

-- a name that is none of theirs is as it was
skipped : (p : Var → Bool) (vs : List Var) (f : List ℕ → Option (List ℕ)) (k : List ℕ) → value_of vs k ≡ None → set_in_turn (filter p vs) f k ≡ f k
skipped p [] f k h = refl
skipped p (v ∷ vs) f k h = by (bytes_eq v.name k) (p v) refl h (λ g n. skipped p vs g k n)
  where
    by : (b c : Bool) → bytes_eq v.name k ≡ b → (if b then Some v.value else value_of vs k) ≡ None → ((g : List ℕ → Option (List ℕ)) → value_of vs k ≡ None → set_in_turn (filter p vs) g k ≡ g k)
        → set_in_turn (cond c (v ∷ filter p vs) (filter p vs)) f k ≡ f k
    by true c e h go = absurd (cc h)
    by false true e h go = go (λ j. if bytes_eq v.name j then Some v.value else f j) h ∙ ap (λ b. if b then Some v.value else f k) e
    by false false e h go = go f h

-- a name that stands before all of theirs is none of theirs
apart : (a b : List ℕ) → is_lt (slice_cmp nat_cmp a b) ≡ true → bytes_eq b a ≡ true → ⊥
apart a b h e =
    let less = is_less (slice_cmp nat_cmp a b) h in
    let not_same : bytes_eq a b ≡ false = sym (is_eq-slice_cmp a b) ∙ ap is_eq less in
    let same : bytes_eq a b ≡ true = (bytes_eq-Decides a b).1 (sym ((bytes_eq-Decides b a).0 e)) in
    cc (not_same, same)

absent : (name : List ℕ) (vs : List Var) → list_all (λ (w : Var). is_lt (slice_cmp nat_cmp name w.name)) vs ≡ true → value_of vs name ≡ None
absent name [] h = refl
absent name (w ∷ ws) h =
    let p = and_parts (is_lt (slice_cmp nat_cmp name w.name)) (list_all (λ (w : Var). is_lt (slice_cmp nat_cmp name w.name)) ws) h in
    by (bytes_eq w.name name) refl p.0 (absent name ws p.1)
  where
    by : (b : Bool) → bytes_eq w.name name ≡ b → is_lt (slice_cmp nat_cmp name w.name) ≡ true → value_of ws name ≡ None → (if b then Some w.value else value_of ws name) ≡ None
    by true e less go = absurd (apart name w.name less e)
    by false e less go = go

-- one that isn't changed has the value that it had
unchanged : (value : List ℕ) (o : Option (List ℕ)) → differs value o ≡ false → o ≡ Some value
unchanged value None h = absurd (cc h)
unchanged value (Some was) h = by (bytes_eq was value) refl h
  where
    by : (b : Bool) → bytes_eq was value ≡ b → not b ≡ false → Some was ≡ Some value
    by true e h = ap Some ((bytes_eq-Decides was value).0 e)
    by false e h = absurd (cc h)

-- one of theirs gets its value
found : (old vs : List Var) (f : List ℕ → Option (List ℕ)) (k x : List ℕ) → are_in_order vs ≡ true → f k ≡ value_of old k → value_of vs k ≡ Some x
    → set_in_turn (changed old vs) f k ≡ Some x
found old [] f k x o s h = absurd (cc h)
found old (v ∷ vs) f k x o s h =
    let p = and_parts (list_all (λ (w : Var). is_lt (slice_cmp nat_cmp v.name w.name)) vs) (are_in_order vs) o in
    by (bytes_eq v.name k) (is_changed old v) refl refl h (absent v.name vs p.0) (λ g t n. found old vs g k x p.1 t n)
  where
    none : value_of vs v.name ≡ None → bytes_eq v.name k ≡ true → value_of vs k ≡ None
    none last e = subst (λ n. value_of vs n ≡ None) ((bytes_eq-Decides v.name k).0 e) last

    by : (b c : Bool) → bytes_eq v.name k ≡ b → is_changed old v ≡ c → (if b then Some v.value else value_of vs k) ≡ Some x → value_of vs v.name ≡ None
        → ((g : List ℕ → Option (List ℕ)) → g k ≡ value_of old k → value_of vs k ≡ Some x → set_in_turn (changed old vs) g k ≡ Some x)
        → set_in_turn (cond c (v ∷ changed old vs) (changed old vs)) f k ≡ Some x
    by true true e d h last go =
        skipped (is_changed old) vs (λ j. if bytes_eq v.name j then Some v.value else f j) k (none last e) ∙ ap (λ b. if b then Some v.value else f k) e ∙ h
    by true false e d h last go =
        skipped (is_changed old) vs f k (none last e) ∙ s ∙ subst (λ n. value_of old n ≡ Some v.value) ((bytes_eq-Decides v.name k).0 e) (unchanged v.value (value_of old v.name) d) ∙ h
    by false true e d h last go = go (λ j. if bytes_eq v.name j then Some v.value else f j) (ap (λ b. if b then Some v.value else f k) e ∙ s) h
    by false false e d h last go = go f s h

-- one that wasn't there isn't there
gone : (o : Option (List ℕ)) → (is_some o ≡ true → ⊥) → o ≡ None
gone None h = refl
gone (Some x) h = absurd (h refl)

pub same_variables : (old new : List Var) → are_in_order new ≡ true → KeepsNames old new → (name : List ℕ) → set_in_turn (changed old new) (value_of old) name ≡ value_of new name
same_variables old new o keeps k = by (value_of new k) refl
  where
    by : (r : Option (List ℕ)) → value_of new k ≡ r → set_in_turn (changed old new) (value_of old) k ≡ r
    by (Some x) e = found old new (value_of old) k x o refl e
    by None e = skipped (is_changed old) new (value_of old) k e ∙ gone (value_of old k) (λ h. cc (keeps k h, ap is_some e))
