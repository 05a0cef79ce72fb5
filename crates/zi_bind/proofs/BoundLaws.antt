-- Bindings that are applied one after another.
use Rattle.std.proofs.Common.{◌≡◌, ℕ, zero, suc, ◌+◌, ◌<◌, List, [], ◌∷◌, ◌++◌, length, take, get_or, refl, sym, ap, ◌∙◌, arith, Option, Some, None, Err, cond, is_none}
use Rattle.std.specs.Option.{option_or}
use Rattle.std.proofs.lemmas.List.{take_more}
use Rattle.std.proofs.lemmas.List.Sums.{take_while-cons}
use Rattle.zi_outside.specs.declared.var.Var.{Var}
use Rattle.zi_parts.specs.declared.types.Binding.{Binding}
use Rattle.zi_bind.specs.Bound.{bound, with_binding, first_fault, fault_of, can_be_applied, before_fault}
use Rattle.zi_bind.specs.declared.fault.ApplyFault.{ApplyFault}
use Rattle.zi_bind.specs.declared.fault.ApplyFault.TheVariants as fault
use Rattle.zi_bind.specs.Answers.{Applies, AppliesOne}

pub bound-append : (folder : List ℕ) (bs cs : List Binding) (vars : List Var) → bound folder (bs ++ cs) vars ≡ bound folder cs (bound folder bs vars)
bound-append folder [] cs vars = refl
bound-append folder (b ∷ bs) cs vars = bound-append folder bs cs (with_binding folder b vars)

-- one binding more
pub bound_more : (folder : List ℕ) (bs : List Binding) (i : ℕ) (d : Binding) (vars : List Var) → i < length bs → bound folder (take (i + 1) bs) vars ≡ with_binding folder (get_or bs i d) (bound folder (take i bs) vars)
bound_more folder bs i d vars lt = ap (λ xs. bound folder xs vars) (take_more bs i d lt) ∙ bound-append folder (take i bs) (get_or bs i d ∷ []) vars

none_parts : {X : Type 0} (a b : Option X) → option_or a b ≡ None → (a ≡ None) × (b ≡ None)
none_parts None b h = (refl, h)
none_parts (Some x) b h = absurd (cc)

-- a binding with a fault, behind some without
pub first_here : (bs : List Binding) (i : ℕ) (d : Binding) (e : ApplyFault) → i < length bs → first_fault (take i bs) ≡ None → fault_of (get_or bs i d) ≡ Some e → first_fault bs ≡ Some e
first_here [] i d e lt none h = absurd (omega arith)
first_here (b ∷ bs) zero d e lt none h = rw h refl
first_here (b ∷ bs) (suc i) d e lt none h =
    let parts = none_parts (fault_of b) (first_fault (take i bs)) none in
    rw parts.0 (first_here bs i d e (omega arith) parts.1 h)

-- a binding without a fault, behind some without
pub none_more : (bs : List Binding) (i : ℕ) (d : Binding) → i < length bs → first_fault (take i bs) ≡ None → fault_of (get_or bs i d) ≡ None → first_fault (take (i + 1) bs) ≡ None
none_more bs i d lt none h = ap first_fault (take_more bs i d lt) ∙ none_append (take i bs) (get_or bs i d) none h
  where
    none_append : (xs : List Binding) (b : Binding) → first_fault xs ≡ None → fault_of b ≡ None → first_fault (xs ++ b ∷ []) ≡ None
    none_append [] b h k = rw k refl
    none_append (x ∷ xs) b h k =
        let parts = none_parts (fault_of x) (first_fault xs) h in
        rw parts.0 (none_append xs b parts.1 k)

-- the bindings before a first one with a fault
before_here : (bs : List Binding) (i : ℕ) (d : Binding) (e : ApplyFault) → i < length bs → first_fault (take i bs) ≡ None → fault_of (get_or bs i d) ≡ Some e → before_fault bs ≡ take i bs
before_here [] i d e lt none h = absurd (omega arith)
before_here (b ∷ bs) zero d e lt none h = take_while-cons can_be_applied b bs ∙ ap (λ f. cond (is_none f) (b ∷ before_fault bs) []) h
before_here (b ∷ bs) (suc i) d e lt none h =
    let parts = none_parts (fault_of b) (first_fault (take i bs)) none in
    take_while-cons can_be_applied b bs ∙ ap (λ f. cond (is_none f) (b ∷ before_fault bs) []) parts.0 ∙ ap (λ xs. b ∷ xs) (before_here bs i d e (omega arith) parts.1 h)

-- a refusal of one binding behind some that were applied is the refusal of all
pub refused : (folder : List ℕ) (bs : List Binding) (old vars new : List Var) (i : ℕ) (b : Binding) (fault : ApplyFault) → i < length bs → b ≡ get_or bs i b
    → vars ≡ bound folder (take i bs) old → first_fault (take i bs) ≡ None → AppliesOne folder b vars (Err fault) new → Applies folder bs old (Err fault) new
refused folder bs old vars new i b (fault.Unbuilt e) lt at v clean one =
    let here : fault_of (get_or bs i b) ≡ Some (fault.Unbuilt e) = sym (ap fault_of at) ∙ one.0 in
    (first_here bs i b (fault.Unbuilt e) lt clean here, one.1 ∙ v ∙ ap (λ xs. bound folder xs old) (sym (before_here bs i b (fault.Unbuilt e) lt clean here)))
refused folder bs old vars new i b (fault.BadPath p) lt at v clean one =
    let here : fault_of (get_or bs i b) ≡ Some (fault.BadPath p) = sym (ap fault_of at) ∙ one.0 in
    (first_here bs i b (fault.BadPath p) lt clean here, one.1 ∙ v ∙ ap (λ xs. bound folder xs old) (sym (before_here bs i b (fault.BadPath p) lt clean here)))
refused folder bs old vars new i b fault.Memory lt at v clean one = (i, one ∙ v)
