-- Where a word stands, by the words before it: what each word leads to.
use Rattle.std.specs.Prelude.{ℕ, zero, suc, Bool, true, false, ◌||◌, if◌then◌else◌, List, [], ◌∷◌, codes, bytes_eq, Option, Some, None}
use Rattle.zi_usage.specs.declared.place.Argument.{Argument}
use Rattle.zi_usage.specs.declared.place.Argument.TheVariants as argument
use Rattle.zi_usage.specs.declared.place.Behind.{Behind}
use Rattle.zi_usage.specs.declared.place.Behind.TheVariants as behind
use Rattle.zi_usage.specs.declared.place.Place.{Place}
use Rattle.zi_usage.specs.declared.place.Place.TheVariants as place
use Rattle.zi_usage.specs.declared.place.Step.{Step}
use Rattle.zi_usage.specs.declared.place.Step.TheVariants as step

-- a word, by its bytes in UTF-8
abbrev pub Word : Type 0
Word = List ℕ

-- what a word is where an option or ROOT may stand
unfoldable pub step_of : Word → Step
step_of w =
    if bytes_eq w (codes "--") then step.Dashes
    else if bytes_eq w (codes "--no-command") || bytes_eq w (codes "--proof") then step.Flag
    else if bytes_eq w (codes "--command") || (bytes_eq w (codes "--os") || (bytes_eq w (codes "--cpu") || (bytes_eq w (codes "--lang") || bytes_eq w (codes "--use")))) then step.Takes argument.Name
    else if bytes_eq w (codes "--version") then step.Takes argument.Versions
    else if bytes_eq w (codes "--version-for") then step.Takes argument.Limited
    else if bytes_eq w (codes "--level") then step.Takes argument.Level
    else if bytes_eq w (codes "--network") then step.Takes argument.Network
    else if bytes_eq w (codes "--rate") then step.Takes argument.Rated
    else if bytes_eq w (codes "--search") then step.Takes argument.Lemmas
    else step.Other

-- behind a command
unfoldable pub behind_command : Word → Place
behind_command w =
    if bytes_eq w (codes "select") || (bytes_eq w (codes "why") || (bytes_eq w (codes "conflict") || bytes_eq w (codes "download"))) then place.Option behind.Nothing
    else if bytes_eq w (codes "run") then place.Option behind.Words
    else if bytes_eq w (codes "check") then place.Option behind.Selections
    else if bytes_eq w (codes "refute") then place.Option behind.Proof
    else if bytes_eq w (codes "script") then place.Script
    else if bytes_eq w (codes "launch") then place.Launched
    else if bytes_eq w (codes "show") then place.Shown
    else if bytes_eq w (codes "manifest") then place.Algorithm
    else if bytes_eq w (codes "store") then place.Store
    else if bytes_eq w (codes "demo") then place.Number
    else place.Nothing

-- behind a word behind `store`
unfoldable pub behind_store : Word → Place
behind_store w =
    if bytes_eq w (codes "add") then place.Added
    else if bytes_eq w (codes "verify") then place.Digest
    else if bytes_eq w (codes "purge") then place.Kept
    else place.Nothing

-- behind ROOT
abbrev pub behind_root : Behind → Place
behind_root behind.Nothing = place.Nothing
behind_root behind.Proof = place.Proof
behind_root behind.Selections = place.Selections
behind_root behind.Words = place.Words

-- behind an argument: the next one of the same option, or an option or ROOT
abbrev pub behind_argument : Argument → Behind → Place
behind_argument argument.Limited b = place.Argument argument.Versions b
behind_argument argument.Rated b = place.Argument argument.Id b
behind_argument argument.Id b = place.Argument argument.Stability b
behind_argument argument.Name b = place.Option b
behind_argument argument.Versions b = place.Option b
behind_argument argument.Level b = place.Option b
behind_argument argument.Network b = place.Option b
behind_argument argument.Stability b = place.Option b
behind_argument argument.Lemmas b = place.Option b

-- behind what is an option or ROOT
abbrev pub led_to : Behind → Step → Place
led_to b step.Other = behind_root b
led_to b step.Dashes = place.Root b
led_to b step.Flag = place.Option b
led_to b (step.Takes a) = place.Argument a b

abbrev pub behind_option : Behind → Word → Place
behind_option b w = led_to b (step_of w)

-- behind a word behind `script`
abbrev pub behind_script : Word → Place
behind_script w = if bytes_eq w (codes "--launch") then place.Launched else behind_option behind.Words w

-- behind a word at a place
abbrev pub next : Place → Word → Place
next place.Command w = behind_command w
next place.Store w = behind_store w
next place.Script w = behind_script w
next (place.Option b) w = behind_option b w
next (place.Root b) w = behind_root b
next (place.Argument a b) w = behind_argument a b
next place.Selections w = place.Proof
next place.Algorithm w = place.Tree
next place.Added w = place.File
next place.File w = place.File
next place.Kept w = place.Kept
next place.Launched w = place.Words
next place.Words w = place.Words
next place.Proof w = place.Nothing
next place.Tree w = place.Nothing
next place.Digest w = place.Nothing
next place.Shown w = place.Nothing
next place.Number w = place.Nothing
next place.Nothing w = place.Nothing

-- the word with this index, and its place, where the first of the words stands at this one
abbrev pub wrong_at : Place → List Word → ℕ → Place × Option Word
wrong_at p [] n = (p, None)
wrong_at p (w ∷ ws) zero = (p, Some w)
wrong_at p (w ∷ ws) (suc n) = wrong_at (next p w) ws n

-- an option, without or with arguments
abbrev pub has_name : Step → Bool
has_name step.Other = false
has_name step.Dashes = false
has_name step.Flag = true
has_name (step.Takes a) = true

abbrev pub is_option : Word → Bool
is_option w = has_name (step_of w)
