-- The law that joins a script with its launch.
use Rattle.std.specs.Prelude.{◌≡◌, ℕ, true, List, Option, None, is_some}
use Rattle.zi_outside.specs.declared.launch.Launch.{Launch}
use Rattle.zi_outside.specs.declared.var.Var.{Var}
use Rattle.zi_outside.specs.Vars.{value_of, are_in_order}
use Rattle.zi_script.specs.Script.{changed, unsettable, script, Says, set_in_turn}

-- each variable that was set is set
abbrev pub KeepsNames : List Var → List Var → Type 0
KeepsNames old new = (name : List ℕ) → is_some (value_of old name) ≡ true → is_some (value_of new name) ≡ true

pub record ScriptsSayTheirLaunch : Type 0 where
  -- a script says the variables that are changed, and the words of the launch
  pub said : (old : List Var) (launch : Launch) → unsettable old launch.vars ≡ None → Says (script old launch) (changed old launch.vars) launch.words
  -- a text says one list of variables, and one of words
  pub once : (text : List ℕ) (vars others : List Var) (words more : List (List ℕ)) → Says text vars words → Says text others more → (vars ≡ others) × (words ≡ more)
  -- Where no variable is taken away, those that are changed, set in turn over what was there, make the variables of the launch.
  pub same_variables : (old new : List Var) → are_in_order new ≡ true → KeepsNames old new → (name : List ℕ) → set_in_turn (changed old new) (value_of old) name ≡ value_of new name
