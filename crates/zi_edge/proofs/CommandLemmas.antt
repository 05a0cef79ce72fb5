-- Commands whose variables are set one by one, from the last to the first.
use Rattle.std.proofs.Common.{◌≡◌, ℕ, zero, suc, Bool, true, false, List, [], ◌∷◌, ◌≤◌, length, drop, Some, option_map, slice_get, refl, sym, ap, subst, ◌∙◌}
use Rattle.std.specs.Prelude.{if◌then◌else◌}
use Rattle.std.specs.Str.{bytes_eq}
use Rattle.std.specs.Process.{command_var, clears_env, SameProgramAndArgs, SameOtherVars, SameDir}
use Rattle.std.specs.declared.process.command.Command.{Command}
use Rattle.std.proofs.lemmas.List.{drop_all}
use Rattle.std.proofs.lemmas.Slice.Eq.{bytes_eq-Decides}
use Rattle.zi_outside.specs.Vars.{value_of}
use Rattle.zi_outside.specs.declared.var.Var.{Var}
use Rattle.zi_edge.specs.Commands.{SetsVars, said_with}

var_is : (v : Var) (name value : List ℕ) → v.name ≡ name → v.value ≡ value → v ≡ record { name = name; value = value }
var_is v name value n m = ap (λ x. record { name = x; value = v.value }) n ∙ ap (λ y. record { name = name; value = y }) m

-- the variable at a place, by its name and its value
pub next_var : (vars : List Var) (left : ℕ) (name value : List ℕ) → option_map (λ (v : Var). v.name) (slice_get vars left) ≡ Some name
    → option_map (λ (v : Var). v.value) (slice_get vars left) ≡ Some value → drop left vars ≡ record { name = name; value = value } ∷ drop (suc left) vars
next_var [] left name value n m = absurd (cc)
next_var (v ∷ vs) zero name value n m = ap (λ (x : Var). x ∷ vs) (var_is v name value (cc) (cc))
next_var (v ∷ vs) (suc left) name value n m = next_var vs left name value n m

-- what is said of a name once a variable was set
set_at : {A : Type 0} (old mid new : Command A) (v : Var) (vs : List Var) (name : List ℕ) (b : Bool) → bytes_eq v.name name ≡ b
    → command_var mid name ≡ said_with (command_var old name) (value_of vs name) → command_var new v.name ≡ Some (Some v.value) → SameOtherVars mid new v.name
    → command_var new name ≡ said_with (command_var old name) (if b then Some v.value else value_of vs name)
set_at old mid new v vs name true e so set others = subst (λ n. command_var new n ≡ Some (Some v.value)) ((bytes_eq-Decides v.name name).0 e) set
set_at old mid new v vs name false e so set others = others name (λ same. absurd (cc (sym e ∙ (bytes_eq-Decides v.name name).1 (sym same)))) ∙ so

pub set_one : {A : Type 0} (old mid new : Command A) (v : Var) (vs : List Var) → SetsVars old vs mid → command_var new v.name ≡ Some (Some v.value)
    → SameOtherVars mid new v.name → SameProgramAndArgs mid new → clears_env new ≡ clears_env mid → SameDir mid new → SetsVars old (v ∷ vs) new
set_one old mid new v vs so set others call kept dir = record {
  call = (call.0 ∙ so.call.0, call.1 ∙ so.call.1);
  vars = λ name. set_at old mid new v vs name (bytes_eq v.name name) refl (so.vars name) set others;
  kept = kept ∙ so.kept;
  dir = dir ∙ so.dir;
}

pub none_set : {A : Type 0} (command : Command A) (vars : List Var) (n : ℕ) → length vars ≤ n → SetsVars command (drop n vars) command
none_set command vars n all = subst (λ vs. SetsVars command vs command) (sym (drop_all n vars all)) (record { call = (refl, refl); vars = λ name. refl; kept = refl; dir = refl })

pub more_set : {A : Type 0} (old mid new : Command A) (vars : List Var) (left at : ℕ) (name value : List ℕ) → left ≡ suc at
    → option_map (λ (v : Var). v.name) (slice_get vars at) ≡ Some name → option_map (λ (v : Var). v.value) (slice_get vars at) ≡ Some value → SetsVars old (drop left vars) mid
    → command_var new name ≡ Some (Some value) → SameOtherVars mid new name → SameProgramAndArgs mid new → clears_env new ≡ clears_env mid → SameDir mid new
    → SetsVars old (drop at vars) new
more_set old mid new vars left at name value e named valued so set others call kept dir =
    subst (λ vs. SetsVars old vs new) (sym (next_var vars at name value named valued))
    (set_one old mid new (record { name = name; value = value }) (drop (suc at) vars) (subst (λ n. SetsVars old (drop n vars) mid) e so) set others call kept dir)
