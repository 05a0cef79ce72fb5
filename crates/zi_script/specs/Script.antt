-- The text of a script: a line for each variable that is set, and a line that runs words in the shell's own place (POSIX.1-2024, Shell
-- Command Language, 2.15 Special Built-In Utilities: export and exec). Values and words are written as the words of shims are.
use Rattle.std.specs.Prelude.{◌≡◌, ℕ, Bool, true, false, not, ◌&&◌, ◌||◌, List, [], ◌∷◌, ◌++◌, map, find, Option, Some, None, option_map, Result, Ok, Err, codes, nat_eq, bytes_eq, string_bytes, if◌then◌else◌}
use Rattle.std.specs.List.{filter, flat_map, list_all}
use Rattle.std.specs.Char.{is_ascii_alphabetic, is_ascii_alphanumeric}
use Rattle.std.specs.declared.alloc.Global.{Global}
use Rattle.std.specs.declared.string.String.{String}
use Rattle.zi_outside.specs.declared.launch.Launch.{Launch}
use Rattle.zi_outside.specs.declared.var.Var.{Var}
use Rattle.zi_outside.specs.Vars.{value_of}
use Rattle.zi_shim.specs.Shell.{Part, is_word, word_text, word_value, words_text}
use Rattle.zi_shim.specs.Shim.{quoted, quoted_words}
use Rattle.zi_script.specs.declared.fault.ScriptFault.{ScriptFault}
use Rattle.zi_script.specs.declared.fault.ScriptFault.TheVariants as fault

-- What a shell calls a name, and can set (Base Definitions, Name): letters of ASCII, digits and `_`, the first of them no digit.
abbrev pub goes_on : ℕ → Bool
goes_on c = is_ascii_alphanumeric c || nat_eq c 95

abbrev pub begins : ℕ → Bool
begins c = is_ascii_alphabetic c || nat_eq c 95

abbrev pub is_name : List ℕ → Bool
is_name [] = false
is_name (c ∷ cs) = begins c && list_all goes_on cs

-- A variable isn't as it was: it wasn't set, or to another value.
abbrev pub differs : List ℕ → Option (List ℕ) → Bool
differs value None = true
differs value (Some was) = not (bytes_eq was value)

abbrev pub is_changed : List Var → Var → Bool
is_changed old v = differs v.value (value_of old v.name)

abbrev pub changed : List Var → List Var → List Var
changed old new = filter (is_changed old) new

-- the name of the first that is changed, and that no shell can set
abbrev pub is_unsettable : List Var → Var → Bool
is_unsettable old v = is_changed old v && not (is_name v.name)

abbrev pub unsettable : List Var → List Var → Option (List ℕ)
unsettable old new = option_map (λ (v : Var). v.name) (find (is_unsettable old) new)

-- the line that sets a variable, and those of all that are changed
abbrev pub line : Var → List ℕ
line v = codes "export " ++ (v.name ++ (codes "=" ++ (quoted v.value ++ codes "\n")))

abbrev pub lines : List Var → List Var → List ℕ
lines old new = flat_map line (changed old new)

-- the script of a launch, for a shell that had these variables
abbrev pub script : List Var → Launch → List ℕ
script old launch = lines old launch.vars ++ (codes "exec" ++ (quoted_words launch.words ++ codes "\n"))

-- that is the text; or a variable is changed that no shell can set, and this is the first; or memory was refused
abbrev pub Scripted : List Var → Launch → Result (String Global) ScriptFault → Type 0
Scripted old launch (Ok text) = (unsettable old launch.vars ≡ None) × (string_bytes text ≡ script old launch)
Scripted old launch (Err (fault.BadName name)) = unsettable old launch.vars ≡ Some name
Scripted old launch (Err fault.Memory) = Unit {0}

-- What a text says.

-- a line that sets a variable of a name to what a word stands for
pub record Line : Type 0 where
  pub name : List ℕ
  pub word : List Part

abbrev pub is_line : Line → Bool
is_line l = is_name l.name && is_word l.word

abbrev pub line_text : Line → List ℕ
line_text l = codes "export " ++ (l.name ++ (codes "=" ++ (word_text l.word ++ codes "\n")))

abbrev pub sets : Line → Var
sets l = record { name = l.name; value = word_value l.word }

-- The text is that of a script of this form, which sets these variables, one after another, and then runs these words, however each is quoted.
pub record Says (text : List ℕ) (vars : List Var) (words : List (List ℕ)) : Type 0 where
  pub lines : List Line
  pub written : List (List Part)
  pub are_lines : list_all is_line lines ≡ true
  pub are_words : list_all is_word written ≡ true
  pub text_is : text ≡ flat_map line_text lines ++ (codes "exec" ++ (words_text written ++ codes "\n"))
  pub vars_are : vars ≡ map sets lines
  pub words_are : words ≡ map word_value written

-- what each variable is once some are set, one after another, over what was there
abbrev pub set_in_turn : List Var → (List ℕ → Option (List ℕ)) → List ℕ → Option (List ℕ)
set_in_turn [] old name = old name
set_in_turn (v ∷ vs) old name = set_in_turn vs (λ k. if bytes_eq v.name k then Some v.value else old k) name
