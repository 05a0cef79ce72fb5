-- What the calls answer.
use Rattle.std.specs.Prelude.{◌≡◌, ℕ, ◌-◌, Bool, true, false, List, [], ◌∷◌, ◌++◌, take, Option, Some, None, Result, Ok, Err}
use Rattle.zi_outside.specs.declared.var.Var.{Var}
use Rattle.zi_parts.specs.declared.types.Binding.{Binding}
use Rattle.zi_parts.specs.declared.types.Extra.{Extra}
use Rattle.zi_bind.specs.Bound.{bound, with_binding, first_fault, before_fault, fault_of, fault_of_extra, extra_text}
use Rattle.zi_bind.specs.Expansion.{Values, referred}
use Rattle.zi_bind.specs.declared.fault.ApplyFault.{ApplyFault}
use Rattle.zi_bind.specs.declared.fault.ApplyFault.TheVariants as apply
use Rattle.zi_bind.specs.declared.fault.BindFault.{BindFault}
use Rattle.zi_bind.specs.declared.fault.BindFault.TheVariants as bind

-- All bindings are applied, and none has a fault; or the first fault is told, and those before it are applied. Want of memory
-- says nothing of the bindings, and some of the first ones are applied.
abbrev pub Applies : List ℕ → List Binding → List Var → Result Unit ApplyFault → List Var → Type 0
Applies folder bindings old (Ok _) new = (first_fault bindings ≡ None) × (new ≡ bound folder bindings old)
Applies folder bindings old (Err (apply.Unbuilt element)) new = (first_fault bindings ≡ Some (apply.Unbuilt element)) × (new ≡ bound folder (before_fault bindings) old)
Applies folder bindings old (Err (apply.BadPath text)) new = (first_fault bindings ≡ Some (apply.BadPath text)) × (new ≡ bound folder (before_fault bindings) old)
Applies folder bindings old (Err apply.Memory) new = (n : ℕ) × (new ≡ bound folder (take n bindings) old)

-- the same of one binding
abbrev pub AppliesOne : List ℕ → Binding → List Var → Result Unit ApplyFault → List Var → Type 0
AppliesOne folder binding old (Ok _) new = (fault_of binding ≡ None) × (new ≡ with_binding folder binding old)
AppliesOne folder binding old (Err (apply.Unbuilt element)) new = (fault_of binding ≡ Some (apply.Unbuilt element)) × (new ≡ old)
AppliesOne folder binding old (Err (apply.BadPath text)) new = (fault_of binding ≡ Some (apply.BadPath text)) × (new ≡ old)
AppliesOne folder binding old (Err apply.Memory) new = new ≡ old

-- what a binding adds, or why it can't
abbrev pub ExtraIs : List ℕ → Extra → Result (List ℕ) ApplyFault → Type 0
ExtraIs folder extra (Ok text) = (fault_of_extra extra ≡ None) × (text ≡ extra_text folder extra)
ExtraIs folder extra (Err (apply.Unbuilt _)) = ⊥
ExtraIs folder extra (Err (apply.BadPath text)) = fault_of_extra extra ≡ Some (apply.BadPath text)
ExtraIs folder extra (Err apply.Memory) = Unit {0}

-- what is expected is answered; want of memory says nothing
abbrev pub Answers : {X : Type 0} → Result X BindFault → Result X BindFault → Type 0
Answers expected (Ok value) = expected ≡ Ok value
Answers expected (Err (bind.Unset name)) = expected ≡ Err (bind.Unset name)
Answers expected (Err (bind.BadDollar place)) = expected ≡ Err (bind.BadDollar place)
Answers expected (Err bind.Memory) = Unit {0}

-- what is expected is added to a list, or its fault is answered
abbrev pub Adds : {X : Type 0} → Result (List X) BindFault → List X → Result Unit BindFault → List X → Type 0
Adds {X} expected old (Ok _) new = (more : List X) × (expected ≡ Ok more) × (new ≡ old ++ more)
Adds expected old (Err (bind.Unset name)) new = expected ≡ Err (bind.Unset name)
Adds expected old (Err (bind.BadDollar place)) new = expected ≡ Err (bind.BadDollar place)
Adds expected old (Err bind.Memory) new = Unit {0}

-- Adds what the next piece stands for, which stands as it is or behind a dollar, and says whether the one behind it stands as it
-- is. The next piece begins at next.
abbrev pub PutsPiece : Values → Bool → ℕ → List ℕ → List ℕ → Result Bool BindFault → List ℕ → Type 0
PutsPiece values true next piece old (Ok plain) new = (plain ≡ false) × (new ≡ old ++ piece)
PutsPiece values false next [] old (Ok plain) new = (plain ≡ true) × (new ≡ old ++ 36 ∷ [])
PutsPiece values false next (c ∷ cs) old (Ok plain) new = (plain ≡ false) × Adds (referred values (next - 1) (c ∷ cs)) old (Ok tt) new
PutsPiece values true next piece old (Err fault) new = fault ≡ bind.Memory
PutsPiece values false next [] old (Err fault) new = fault ≡ bind.Memory
PutsPiece values false next (c ∷ cs) old (Err fault) new = Adds (referred values (next - 1) (c ∷ cs)) old (Err fault) new
