-- Commands: programs with arguments, which stand in the current folder and have the variables of this process, but for those that are set.
use Rattle.std.specs.Prelude.{◌≡◌, ℕ, false, List, ◌∷◌, ◌++◌, Option, Some, None}
use Rattle.std.specs.Option.{option_map}
use Rattle.std.specs.Process.{command_program, command_args, command_var, command_dir, clears_env, SameEnv, SameDir, SameProgramAndArgs}
use Rattle.std.specs.declared.process.command.Command.{Command}
use Rattle.zi_outside.specs.Vars.{value_of}
use Rattle.zi_outside.specs.declared.launch.Launch.{Launch}
use Rattle.zi_outside.specs.declared.var.Var.{Var}

-- the program and the arguments are these words, and these variables are set
pub record Starts {A : Type 0} (command : Command A) (line : List (List ℕ)) (values : List ℕ → Option (List ℕ)) : Type 0 where
  pub words : command_program command ∷ command_args command ≡ line
  pub vars : (name : List ℕ) → command_var command name ≡ option_map Some (values name)
  pub kept : clears_env command ≡ false
  pub dir : command_dir command ≡ None

-- none is set
abbrev pub no_variables : List ℕ → Option (List ℕ)
no_variables name = None

-- the words and the variables are those of a launch
abbrev pub StartsLaunch : {A : Type 0} → Command A → Launch → Type 0
StartsLaunch command launch = Starts command launch.words (value_of launch.vars)

-- a command gained arguments, and nothing else
pub record AddsArgs {A : Type 0} (old : Command A) (more : List (List ℕ)) (new : Command A) : Type 0 where
  pub program : command_program new ≡ command_program old
  pub args : command_args new ≡ command_args old ++ more
  pub env : SameEnv old new
  pub dir : SameDir old new

-- what is said of a variable once it is set to a value, if there is one
abbrev pub said_with : Option (Option (List ℕ)) → Option (List ℕ) → Option (Option (List ℕ))
said_with said None = said
said_with said (Some value) = Some (Some value)

-- these variables were set, each to its first value, and nothing else
pub record SetsVars {A : Type 0} (old : Command A) (set : List Var) (new : Command A) : Type 0 where
  pub call : SameProgramAndArgs old new
  pub vars : (name : List ℕ) → command_var new name ≡ said_with (command_var old name) (value_of set name)
  pub kept : clears_env new ≡ clears_env old
  pub dir : SameDir old new
