-- Hints on words that are wrong.
use Rattle.std.specs.Prelude.{ℕ, List, ◌++◌, codes, Option, Some, None}
use Rattle.zi_usage.specs.declared.place.Place.{Place}
use Rattle.zi_usage.specs.declared.advice.Advice.{Advice}
use Rattle.zi_usage.specs.declared.advice.Advice.TheVariants as advice
use Rattle.zi_usage.specs.Standing.{standing}
use Rattle.zi_usage.specs.Advice.{advised}
use Rattle.zi_usage.specs.Former.{former}

-- which word it is, and what may stand there
abbrev pub wrong_word : Place → Option (List ℕ) → Option (List ℕ)
wrong_word place (Some word) = Some (codes "it is '" ++ word ++ codes "', and there may stand " ++ standing place ++ codes "")
wrong_word place None = Some (codes "a word is missing: " ++ standing place ++ codes "")

-- what to do
abbrev pub advice_text : Advice → List ℕ
advice_text advice.BehindCommand = codes "an option stands behind the command, before ROOT"
advice_text advice.BeforeRoot = codes "options stand before ROOT"
advice_text advice.Once = codes "an option stands once, --command without --no-command, and --proof behind select alone"
advice_text advice.TwoWords = codes "an option and its value are two words, as --version 1.2"
advice_text advice.WholePath = codes "a path has to begin with /"
advice_text advice.FilesAlone = codes "a folder isn't added: its files are, each by its path"
advice_text advice.LastLine = codes "zi manifest ALGORITHM NAME has the digest of a tree in its last line"

-- about a word
abbrev pub advice_on : Advice → List ℕ → Option (List ℕ)
advice_on advice.WholePath word = Some (codes "a path has to begin with /, as \"$PWD\"/'" ++ word ++ codes "'")
advice_on advice.BehindCommand word = Some (advice_text advice.BehindCommand)
advice_on advice.BeforeRoot word = Some (advice_text advice.BeforeRoot)
advice_on advice.Once word = Some (advice_text advice.Once)
advice_on advice.TwoWords word = Some (advice_text advice.TwoWords)
advice_on advice.FilesAlone word = Some (advice_text advice.FilesAlone)
advice_on advice.LastLine word = Some (advice_text advice.LastLine)

-- about a word at its place, where one is there
abbrev pub advice_of : List ℕ → Option Advice → Option (List ℕ)
advice_of word None = None
advice_of word (Some a) = advice_on a word

abbrev pub advice_for : Place → Option (List ℕ) → Option (List ℕ)
advice_for place None = None
advice_for place (Some word) = advice_of word (advised place word)

-- what zi has for a word of 0install
abbrev pub former_for : Place → Option (List ℕ) → Option (List ℕ)
former_for place None = None
former_for place (Some word) = former place word
